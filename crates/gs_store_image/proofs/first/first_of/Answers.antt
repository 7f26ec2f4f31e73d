use Rattle.std.proofs.Common.{ℕ, map, ap, sym, Option, ◌∙◌}
use Rattle.std.specs.FinMap as fin
use Rattle.std.proofs.lemmas.List.{map_push}
use Rattle.std.specs.Slice.Iter.{iter_rest}
use Rattle.gs_fields.specs.Encoding.{seen_option}
use Rattle.gs_replica.specs.declared.op.Done.{Done}
use Rattle.gs_store_image.specs.declared.done.DoneField.{DoneField}
use Rattle.gs_store_image.proofs.Tables.{onto, onto_last, onto_empty}
use Rattle.gs_store_image.proofs.first.first_of.Goals as goal

abbrev seen : ℕ × Option DoneField → ℕ × Option Done
seen e = (e.0, seen_option (λ d. d.done) e.1)

pub loop-client-init : goal.loop-client-init
loop-client-init c =
    rw (c.into_iter-client-iterator.ensures.into_iter_gives, c.rev-client-items.ensures.source, c.iter.ensures.rest, c.new-first.ensures) (onto_empty (map seen c.args.entries.now))

pub loop-client-preserved : goal.loop-client-preserved
loop-client-preserved c =
    let rest = iter_rest c.next.new.self.iter in
    ap (onto (map seen rest)) (c.in_ok-put.ensures.ok ∙ ap (λ v. fin.insert c.loop-client.first c.in-Some.field-0.now.0 v) c.done_of.ensures) ∙ sym (onto_last (map seen rest) (seen c.in-Some.field-0.now) c.loop-client.first)
    ∙ ap (λ es. onto es c.loop-client.first) (sym (map_push seen rest c.in-Some.field-0.now))
    ∙ ap (λ es. onto (map seen es) c.loop-client.first) (sym c.in-Some.ensures.steps) ∙ c.loop-client.invariant
