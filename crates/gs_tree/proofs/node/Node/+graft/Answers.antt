use Rattle.std.proofs.Common.{ℕ, arith, ◌∷◌, ◌++◌, [], ap, sym, ◌∙◌, subst, is_ok, refl, cond}
use Rattle.std.specs.Option.{IsSome}
use Rattle.std.proofs.lemmas.Grind.{common_steps}
use Rattle.gs_tree.specs.Find.{Rows, at, IsPartAt}
use Rattle.gs_tree.specs.Plain.{with_at}
use Rattle.gs_tree.specs.Rows.{IsRooted}
use Rattle.gs_tree.proofs.Rows.{goes_to, at-path, at_child, at-below, rest_of, empty_path, found_part, part_of_name, part_on}
use Rattle.gs_tree.proofs.Splice.{at-updated, splice-here, splice-below_if, updates, updated, child_at}
use Rattle.gs_path.specs.Path.{Path}
use Rattle.std.specs.Prelude.{Some, Option, Result, Ok, Err, IfOk, is_some}
use Rattle.gs_tree.proofs.Reaching.{node_spliced}
use Rattle.gs_tree.proofs.node.Node.+graft.Goals as goal

if_stood : {E : Type 0} {P Q : Option (Rows ℕ) → Type 0} (r : Result (Option (Rows ℕ)) E) → ((part : Option (Rows ℕ)) → P part → Q part) → IfOk r P → IfOk r Q
if_stood (Ok part) f h = f part h
if_stood (Err e) f h = h

pub returns-in_default-parent-clause-now : goal.returns-in_default-parent-clause-now
returns-in_default-parent-clause-now t c q =
    let u = updated c.insert.new.self (Some c.args.node) c.self.view_is c.self.invariant.level c.in-Dir.is c.in-Ok.ensures.ordered c.in-Ok.ensures.updates.0 in
    at-updated u q
    ∙ splice-here c.args.name (Some c.args.node) (at c.args.self.now) q
    ∙ ap (λ (p : Path). with_at (p ++ c.args.name ∷ []) (at c.args.node) (at c.args.self.now) q) (sym (empty_path c.args.parent.now c.in_default-parent.len_below))

pub returns-in_default-parent-clause-stood : goal.returns-in_default-parent-clause-stood
returns-in_default-parent-clause-stood t c =
    subst (λ (p : Path). IsPartAt (at c.args.self.now) (p ++ c.args.name ∷ []) c.in-Ok.stood) (sym (empty_path c.args.parent.now c.in_default-parent.len_below))
    (part_of_name c.args.name c.self.view_is c.self.invariant.level c.in-Dir.is c.in-Ok.stood c.in-Ok.ensures.old)

pub returns-in_default-parent-clause-found : goal.returns-in_default-parent-clause-found
returns-in_default-parent-clause-found t c =
    let rooted = subst IsRooted c.in-Dir.is c.self.invariant.rooted c.args.name in
    found_part (at c.args.self.now) (c.args.parent.now ++ c.args.name ∷ []) c.in-Ok.stood (returns-in_default-parent-clause-stood t c) (λ rows is. rooted rows (sym c.in-Ok.ensures.old ∙ is))

pub returns-clause-found : goal.returns-clause-found
returns-clause-found t c =
    let g = goes_to c.self.view_is c.self.invariant.level c.in-Dir.is c.in-len1-up.len_at_least c.first-item.is in
    let below = at-below g (c.args.name ∷ []) ∙ ap (λ v. at_child v (rest_of c.args.parent.now ++ c.args.name ∷ [])) (sym c.in-Some.ensures.value) in
    if_stood c.graft-grafted.result (λ part h. h ∙ ap is_some (sym below)) c.graft-grafted.ensures.found

pub returns-clause-stood : goal.returns-clause-stood
returns-clause-stood t c =
    let g = goes_to c.self.view_is c.self.invariant.level c.in-Dir.is c.in-len1-up.len_at_least c.first-item.is in
    if_stood c.graft-grafted.result (λ part h. part_on g c.args.name c.in-Some.child.now part c.in-Some.ensures.value h) c.graft-grafted.ensures.stood

pub returns-in_default-get_mut : goal.returns-in_default-get_mut
returns-in_default-get_mut t c =
    let g = goes_to c.self.view_is c.self.invariant.level c.in-Dir.is c.in-len1-up.len_at_least c.first-item.is in
    let none = at-path g ∙ ap (λ v. at_child v (rest_of c.args.parent.now)) (sym c.in_default-get_mut.ensures.value) in
    absurd (cc (none, c.requires))

pub graft-grafted-requires : goal.graft-grafted-requires
graft-grafted-requires t c =
    let g = goes_to c.self.view_is c.self.invariant.level c.in-Dir.is c.in-len1-up.len_at_least c.first-item.is in
    (grind (arith, common_steps), ap (λ v. at_child v (rest_of c.args.parent.now)) c.in-Some.ensures.value ∙ sym (at-path g) ∙ c.requires)

pub returns-clause-now : goal.returns-clause-now
returns-clause-now t c q =
    let g = goes_to c.self.view_is c.self.invariant.level c.in-Dir.is c.in-len1-up.len_at_least c.first-item.is in
    let written = c.get_mut.follows.holds c.graft-grafted.new.self in
    let u = updates (c.get_mut.follows.lender c.graft-grafted.new.self) (Some c.graft-grafted.new.self) g written.4 (written.3 (subst IsSome c.in-Some.ensures.value refl)).0 in
    at-updated u q
    ∙ splice-below_if (is_ok c.graft-grafted.result) c.first-item.result (rest_of c.args.parent.now ++ c.args.name ∷ []) c.in-Some.child.now c.graft-grafted.new.self (at c.args.node) (at c.args.self.now) c.graft-grafted.ensures.now (child_at g c.in-Some.child.now c.in-Some.ensures.value) q
    ∙ ap (λ (p : Path). cond (is_ok c.graft-grafted.result) (with_at (p ++ c.args.name ∷ []) (at c.args.node) (at c.args.self.now) q) (at c.args.self.now q)) (sym g.parts)

pub invariant_of-self-in_default-parent : goal.invariant_of-self-in_default-parent
invariant_of-self-in_default-parent t c =
    let u = updated c.insert.new.self (Some c.args.node) c.self.view_is c.self.invariant.level c.in-Dir.is c.in-Ok.ensures.ordered c.in-Ok.ensures.updates.0 in
    node_spliced c.self.inside.kind c.self.inside.reach c.saturating_add-reach.result c.reach.result c.max-self-inside.result u c.self.view_is c.self.invariant c.in-Dir.is c.reach.ensures.bound c.reach.ensures.stands c.saturating_add-reach.ensures c.max-self-inside.ensures

pub invariant_of-self-2 : goal.invariant_of-self-2
invariant_of-self-2 t c =
    let g = goes_to c.self.view_is c.self.invariant.level c.in-Dir.is c.in-len1-up.len_at_least c.first-item.is in
    let written = c.get_mut.follows.holds c.graft-grafted.new.self in
    let u = updates (c.get_mut.follows.lender c.graft-grafted.new.self) (Some c.graft-grafted.new.self) g written.4 (written.3 (subst IsSome c.in-Some.ensures.value refl)).0 in
    node_spliced c.self.inside.kind c.self.inside.reach c.saturating_add-reach-2.result c.reach-2.result c.max-self-inside-2.result u c.self.view_is c.self.invariant c.in-Dir.is c.reach-2.ensures.bound c.reach-2.ensures.stands c.saturating_add-reach-2.ensures c.max-self-inside-2.ensures
