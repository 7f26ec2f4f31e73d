use Rattle.std.proofs.Common.{subst}
use Rattle.std.specs.Prelude.{IfErr, IfOk}
use Rattle.gs_edit.specs.Places.{IsNotRemoved, TakesOut}
use Rattle.gs_edit.specs.View.{NamesView, names_of}
use Rattle.gs_edit.proofs.names.Names.remove_keeping_place.Goals as goal

pub returns-clause-made : goal.returns-clause-made
returns-clause-made c =
    subst (λ (old : NamesView). IfOk c.remove_to_place.result (λ out. TakesOut c.args.path.now old out.node out.chunks.items (names_of c.remove_to_place.new.tree c.remove_to_place.new.refs))) c.self.view_is c.remove_to_place.ensures.made

pub returns-clause-refused : goal.returns-clause-refused
returns-clause-refused c =
    subst (λ (old : NamesView). IfErr c.remove_to_place.result (λ e. IsNotRemoved c.args.path.now old e (names_of c.remove_to_place.new.tree c.remove_to_place.new.refs))) c.self.view_is c.remove_to_place.ensures.refused
