use Rattle.std.proofs.Common.{◌≡◌, Option, ap, sym, subst, ◌∙◌}
use Rattle.std.specs.FinMap as fin
use Rattle.gs_replica.specs.declared.op.Done.{Done}
use Rattle.gs_replica.specs.Undo.{entry_before}
use Rattle.gs_replica.specs.First.{First, done_before}
use Rattle.gs_replica.specs.Inside.{HasSealed}
use Rattle.gs_replica.proofs.Firsts.{popped_over, has_popped, nothing_over}
use Rattle.gs_replica.proofs.done.DoneTable.put_back.Goals as goal

pub loop-client-preserved : goal.loop-client-preserved
loop-client-preserved c =
    let first : First = c.loop-client.left in
    let done = c.loop-client.self in
    let client = c.in-Some.client.0 in
    let before : Option Done = c.in-Some.before in
    let left : c.pop_first.new.self ≡ fin.remove first client = c.in-Some.ensures.left in
    let restored : c.restore.new.self ≡ entry_before done client before = c.restore.ensures in (
      ap (λ f. done_before f c.restore.new.self) left ∙ ap (done_before (fin.remove first client)) restored ∙ popped_over first done client before c.in-Some.ensures.entry ∙ c.loop-client.invariant.0,
      subst (λ f. HasSealed f c.restore.new.self) (sym left) (subst (HasSealed (fin.remove first client)) (sym restored) (has_popped first done client before c.loop-client.invariant.1)),
    )

pub returns : goal.returns
returns c = sym (ap (λ f. done_before f c.loop-client.self) c.in_default.ensures.none ∙ nothing_over c.loop-client.self) ∙ c.loop-client.invariant.0
