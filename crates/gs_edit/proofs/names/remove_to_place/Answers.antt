use Rattle.std.proofs.Common.{ap, sym, ◌∙◌}
use Rattle.gs_refs.specs.Counts.{lowered_each, raised_each}
use Rattle.gs_edit.proofs.Gathered.{remove_stays, follows_ok}
use Rattle.gs_edit.proofs.names.remove_to_place.Goals as goal

pub returns-in-Ok-remove_keeping_place-clause-made : goal.returns-in-Ok-remove_keeping_place-clause-made
returns-in-Ok-remove_keeping_place-clause-made c =
    let all = c.deref.ensures.value in record {
      tree = c.in-Ok-remove_keeping_place.ensures.made;
      stood = c.in_ok-chunks.ensures;
      part = c.in-Ok-remove_keeping_place.ensures.chunks ∙ sym c.in_ok-chunks.ensures;
      lowered = ap (lowered_each c.args.refs.now) (sym all) ∙ c.in-Ok.ensures.edit;
      raised = ap (raised_each c.lower_each.new.self) (sym all) ∙ c.in-Ok.ensures.back;
    }

pub returns-in-Err-remove_keeping_place-clause-refused : goal.returns-in-Err-remove_keeping_place-clause-refused
returns-in-Err-remove_keeping_place-clause-refused c =
    remove_stays c.args.path.now c.in-Err-remove_keeping_place.refusal c.args.tree.now c.remove_keeping_place.new.self c.args.refs.now c.lower_each.new.self c.raise_each.new.self c.deref.result.now
    (c.deref.ensures.value ∙ c.in_ok-chunks.ensures) c.in-Ok.ensures.edit
    (follows_ok (raised_each c.lower_each.new.self c.deref-in-Err-remove_keeping_place.result.now) c.raise_each.result c.lower_each.new.self c.raise_each.new.self c.args.refs.now
    (ap (raised_each c.lower_each.new.self) (c.deref-in-Err-remove_keeping_place.ensures.value ∙ sym c.deref.ensures.value) ∙ c.in-Ok.ensures.back) c.raise_each.ensures.edit)
    c.in-Err-remove_keeping_place.ensures.refused
