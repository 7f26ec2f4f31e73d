use Rattle.std.proofs.Common.{◌≡◌, ◌≢◌, ◌⊎◌, ◌∷◌, ◌++◌, [], true, false, ap, sym, ◌∙◌, subst, refl, inl, inr, ℕ, cond}
use Rattle.std.specs.Prelude.{Ok, Err, Result, IfOk, OnOk, IfErr, is_some}
use Rattle.gs_base.specs.declared.refusal.Refusal.{Refusal}
use Rattle.gs_base.specs.declared.refusal.Refusal.TheVariants.{Exists, Memory}
use Rattle.gs_path.specs.Path.{Path, Name, begins}
use Rattle.gs_tree.specs.Plain.{Plain, with_at}
use Rattle.gs_tree.specs.Places.{given_up}
use Rattle.gs_tree.specs.Find.{at, DirsAbove}
use Rattle.gs_tree.specs.Edits.{moved, beside, renamed_beside, parent}
use Rattle.gs_tree.specs.Inverses.{TakesBack}
use Rattle.gs_tree.specs.Follows.{FollowsPlain}
use Rattle.gs_tree.specs.inner.Steps.{IsAim, Aims}
use Rattle.gs_tree.proofs.Moves.{lifted, beside_is, beside_taken, dir_above, parent-append}
use Rattle.gs_tree.proofs.moving.rename_beside.Goals as goal

aim_is : {T : Type 0} (m : Plain ℕ) (p : Path) (name : Name) (r : Result T Refusal) (source target : T → Path) (own : T → Name) → p ≢ [] → DirsAbove m p → IfOk r (λ a. source a ≡ p) → IfOk r (λ a. target a ≡ beside p name) → IfOk r (λ a. own a ≡ name)
    → OnOk r (begins p (beside p name) ≡ false) → IfOk r (λ a. IsAim m p (source a) (target a) (own a))
aim_is m p name (Err e) source target own ne above h1 h2 h3 other = tt
aim_is m p name (Ok a) source target own ne above h1 h2 h3 other =
    let up : parent (target a) ≡ parent p = ap parent h2 ∙ parent-append (parent p) name in record {
      same = h1;
      ends = h2 ∙ ap (λ q. q ++ name ∷ []) (sym up) ∙ ap (λ n. parent (target a) ++ n ∷ []) (sym h3);
      apart = ap (begins p) h2 ∙ other;
      dir = ap m up ∙ dir_above m p ne above;
    }

aims : {T : Type 0} (m : Plain ℕ) (p : Path) (name : Name) (r : Result T Refusal) (target : T → Path) → is_some (m p) ≡ true → IfOk r (λ a. target a ≡ beside p name) → IfErr r (λ e. (e ≡ Memory) ⊎ ((e ≡ Exists) × (beside p name ≡ p))) → Aims m p (renamed_beside m p name) r target
aims m p name (Ok a) target stands h err = beside_is m p name stands ∙ ap (λ t. cond (is_some (m t)) (Err Exists) (Ok (moved p t m))) (sym h)
aims m p name (Err e) target stands h err = elim err [ inl memory ↦ inl memory | inr same ↦ inr (beside_taken m p name stands same.1 ∙ ap (λ f. Err f) (sym same.0)) ]

pub settle-requires-clause-place : goal.settle-requires-clause-place
settle-requires-clause-place c =
    (lifted (at c.args.root.now) (at c.in-Some.node) (at c.replace.new.self) c.new.result c.args.path.now c.elements.result.now c.elements.ensures c.new.ensures c.in-Some.ensures.found (c.in-Some.ensures.above refl) c.in-Some.ensures.part c.in-Some.ensures.now).place

pub settle-requires-clause-above : goal.settle-requires-clause-above
settle-requires-clause-above c =
    let l = lifted (at c.args.root.now) (at c.in-Some.node) (at c.replace.new.self) c.new.result c.args.path.now c.elements.result.now c.elements.ensures c.new.ensures c.in-Some.ensures.found (c.in-Some.ensures.above refl) c.in-Some.ensures.part c.in-Some.ensures.now in
    subst (λ (m : Plain ℕ). DirsAbove m c.args.path.now) (sym l.back) l.above

pub settle-requires-clause-aim : goal.settle-requires-clause-aim
settle-requires-clause-aim c =
    let l = lifted (at c.args.root.now) (at c.in-Some.node) (at c.replace.new.self) c.new.result c.args.path.now c.elements.result.now c.elements.ensures c.new.ensures c.in-Some.ensures.found (c.in-Some.ensures.above refl) c.in-Some.ensures.part c.in-Some.ensures.now in
    let a = c.aim_beside-aim.ensures in
    aim_is (with_at c.args.path.now (at c.in-Some.node) (at c.replace.new.self)) c.args.path.now c.args.name c.aim_beside-aim.result (λ a. a.source) (λ a. a.target) (λ a. a.name) c.requires
    (subst (λ (m : Plain ℕ). DirsAbove m c.args.path.now) (sym l.back) l.above) a.source a.target a.name a.other

pub returns-clause-edit : goal.returns-clause-edit
returns-clause-edit c =
    let l = lifted (at c.args.root.now) (at c.in-Some.node) (at c.replace.new.self) c.new.result c.args.path.now c.elements.result.now c.elements.ensures c.new.ensures c.in-Some.ensures.found (c.in-Some.ensures.above refl) c.in-Some.ensures.part c.in-Some.ensures.now in
    let wants = aims (at c.args.root.now) c.args.path.now c.args.name c.aim_beside-aim.result (λ a. a.target) l.stands c.aim_beside-aim.ensures.target c.aim_beside-aim.ensures.err in
    subst (λ (m : Plain ℕ). FollowsPlain (renamed_beside (at c.args.root.now) c.args.path.now c.args.name) c.settle.result m (given_up c.settle.result (at c.settle.new.root))) l.back
    (c.settle.ensures.edit (renamed_beside (at c.args.root.now) c.args.path.now c.args.name) (subst (λ (m : Plain ℕ). Aims m c.args.path.now (renamed_beside (at c.args.root.now) c.args.path.now c.args.name) c.aim_beside-aim.result (λ a. a.target)) (sym l.back) wants))

pub returns-clause-undo : goal.returns-clause-undo
returns-clause-undo c =
    let l = lifted (at c.args.root.now) (at c.in-Some.node) (at c.replace.new.self) c.new.result c.args.path.now c.elements.result.now c.elements.ensures c.new.ensures c.in-Some.ensures.found (c.in-Some.ensures.above refl) c.in-Some.ensures.part c.in-Some.ensures.now in
    subst (λ (m : Plain ℕ). IfOk c.settle.result (λ i. TakesBack i m (given_up c.settle.result (at c.settle.new.root)))) l.back c.settle.ensures.undo
