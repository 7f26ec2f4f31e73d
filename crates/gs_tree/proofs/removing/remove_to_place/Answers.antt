use Rattle.std.proofs.Common.{rules, ◌≡◌, false, ap, sym, ◌∙◌}
use Rattle.std.specs.Prelude.{is_none}
use Rattle.gs_tree.specs.Find.{at}
use Rattle.gs_tree.proofs.Removals.{not_taken, taken_out}
use Rattle.gs_tree.proofs.removing.remove_to_place.Goals as goal

pub returns-in-Some-clause-made : goal.returns-in-Some-clause-made
returns-in-Some-clause-made c =
    let hidden : is_none c.in_ok-hidden.hidden ≡ false = search rules in
    taken_out (at c.args.root.now) (at c.replace.new.self) c.in-Some.node c.new.result c.args.path.now c.elements.result.now c.elements.ensures c.new.ensures (ap is_none (sym c.in_ok-hidden.ensures.old) ∙ hidden) c.in-Some.ensures.found c.in-Some.ensures.part c.in-Some.ensures.now

pub returns-clause-refused : goal.returns-clause-refused
returns-clause-refused c =
    let hidden : is_none c.in_ok-hidden.hidden ≡ false = search rules in
    not_taken (at c.args.root.now) (at c.replace.new.self) c.args.path.now c.elements.result.now c.elements.ensures (ap is_none (sym c.in_ok-hidden.ensures.old) ∙ hidden) c.in-None.ensures.part c.in-None.ensures.now
