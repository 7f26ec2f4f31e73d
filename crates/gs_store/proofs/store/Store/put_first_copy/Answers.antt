use Rattle.std.proofs.Common.{Ok, Err, subst}
use Rattle.gs_base.specs.Calls.{Does}
use Rattle.gs_store.specs.Moves as moves
use Rattle.gs_store.proofs.Changes.{new_refused, new_kept}
use Rattle.gs_store.proofs.store.Store.put_first_copy.Goals as goal

pub returns-in-Err : goal.returns-in-Err
returns-in-Err c =
    new_refused c.args.self.now c.args.handle (moves.take_copy c.args.copy) c.requires (Unit {0}) _ _ c.take_copy.new.self
    (subst (λ t. Does {B = Unit {0}} (moves.take_copy c.args.copy t) (Err c.in-Err.refusal) t c.take_copy.new.self) c.new-slot.ensures c.in-Err.ensures)

pub returns : goal.returns
returns c =
    new_kept c.args.self.now c.args.handle (moves.take_copy c.args.copy) c.requires (Unit {0}) _ c.in_default.field-0 c.add.result c.take_copy.new.self c.add.new.self
    (subst (λ t. Does {B = Unit {0}} (moves.take_copy c.args.copy t) (Ok c.in_default.field-0) t c.take_copy.new.self) c.new-slot.ensures c.in_default.ensures)
    c.add.ensures.ok c.add.ensures.err c.add.ensures.memory
