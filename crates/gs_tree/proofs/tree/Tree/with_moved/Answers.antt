use Rattle.std.proofs.Common.{◌≡◌, ◌⊎◌, ◌≢◌, [], ◌∷◌, ap, sym, ◌∙◌, subst, ℕ, refl}
use Rattle.std.specs.FinMap.{get, from_entries}
use Rattle.gs_base.specs.declared.refusal.Refusal.TheVariants.{Memory, BadLine}
use Rattle.gs_path.specs.Path.{Path, path_cmp}
use Rattle.gs_tree.specs.Find.{at}
use Rattle.gs_tree.specs.Plain.{Plain}
use Rattle.gs_tree.specs.Edits.{moved}
use Rattle.gs_tree.specs.Follows.{CanMove}
use Rattle.gs_tree.proofs.Moves.{seen}
use Rattle.gs_tree.proofs.tree.Tree.with_moved.Goals as goal

-- the root stays where neither place is it
root_stays : (m : Plain ℕ) (from to : Path) → from ≢ [] → to ≢ [] → moved from to m [] ≡ m []
root_stays m [] to some other = absurd (some refl)
root_stays m (x ∷ from) [] some other = absurd (other refl)
root_stays m (x ∷ from) (y ∷ to) some other = refl

pub invariant_of-result : goal.invariant_of-result
invariant_of-result c = c.in-Ok.ensures.1 [] ∙ root_stays (at c.self.inside.root) c.args.from.now c.args.to.now c.in-Ok.ensures.0.0 c.in-Ok.ensures.0.1 ∙ c.self.invariant

pub returns-in-Ok : goal.returns-in-Ok
returns-in-Ok c =
    let from = c.args.from.now in
    let to = c.args.to.now in
    let old : at c.self.inside.root ≡ get c.args.self = sym (seen c.self.inside.root) ∙ ap get c.self.view_is in
    subst (λ (k : Plain ℕ). CanMove from to k × ((q : Path) → get (from_entries {R = path_cmp} c.in-Ok.root) q ≡ moved from to k q)) old
    (c.in-Ok.ensures.0, λ q. ap (λ f. f q) (seen c.in-Ok.root) ∙ c.in-Ok.ensures.1 q)

pub returns-in-Err : goal.returns-in-Err
returns-in-Err c =
    let old : at c.self.inside.root ≡ get c.args.self = sym (seen c.self.inside.root) ∙ ap get c.self.view_is in
    subst (λ (k : Plain ℕ). (c.in-Err.refusal ≡ Memory) ⊎ ((c.in-Err.refusal ≡ BadLine) × (CanMove c.args.from.now c.args.to.now k → ⊥))) old c.in-Err.ensures
