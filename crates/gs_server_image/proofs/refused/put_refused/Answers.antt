use Rattle.std.proofs.Common.{◌≡◌, ℕ, List, ◌++◌, length, ap, subst, sym, ◌∙◌}
use Rattle.std.proofs.lemmas.List.{length-map}
use Rattle.std.specs.FinMap as fin
use Rattle.std.specs.List.{flat_map, AllByRecursion}
use Rattle.gs_base.specs.Told.{IsNumber}
use Rattle.gs_base.specs.declared.numbers.ClientId.{ClientId}
use Rattle.gs_fields.specs.Encoding.{number}
use Rattle.gs_fields.proofs.Steps.{puts_two}
use Rattle.gs_server.specs.declared.turn.KeptRefusal.{KeptRefusal}
use Rattle.gs_server_image.specs.Encoding.{by_number, entries, entry}
use Rattle.gs_server_image.specs.Writable.{IsEntry}
use Rattle.gs_server_image.proofs.refused.put_refused.Goals as goal

pub returns : goal.returns
returns c =
    let m = c.args.server.now.kept.refused in
    let es = fin.entries m in
    let many : length c.as_slice.result.now ≡ length (entries m) =
    ap (λ (z : List ℕ). length z) (c.as_slice.ensures.value ∙ c.in_ok-clients.ensures) ∙ length-map es (λ (e : ClientId × KeptRefusal). e.0.0) ∙ sym (length-map es by_number) in
    puts_two (IsNumber (length (entries m))) (AllByRecursion IsEntry (entries m)) (number (length (entries m))) (flat_map entry (entries m)) c.args.out.now.items c.put_count.new.out.items c.put_each.new.out.items c.put_each.result
    (subst (λ (n : ℕ). IsNumber n × (c.put_count.new.out.items ≡ c.args.out.now.items ++ number n)) many c.in_ok-put_count.ensures) c.put_each.ensures
