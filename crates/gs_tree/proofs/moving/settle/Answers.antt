use Rattle.std.proofs.Common.{◌≡◌, ◌∷◌, ◌++◌, [], ap, sym, ◌∙◌, subst, refl, ℕ, Bool, true, false, cond, append-nil}
use Rattle.std.specs.Prelude.{Ok, Err, Result, is_some}
use Rattle.gs_base.specs.declared.refusal.Refusal.{Refusal}
use Rattle.gs_base.specs.declared.refusal.Refusal.TheVariants.{Exists}
use Rattle.gs_path.specs.Path.{Path, begins}
use Rattle.gs_tree.specs.declared.inverse.TreeInverse.TheVariants.{Moved}
use Rattle.gs_tree.specs.Plain.{Plain, rooted, with_at, without}
use Rattle.gs_tree.specs.Find.{at}
use Rattle.gs_tree.specs.Places.{KeepsPlace}
use Rattle.gs_tree.specs.Edits.{moved, parent}
use Rattle.gs_tree.specs.Inverses.{TakesBack}
use Rattle.gs_tree.specs.Follows.{FollowsPlain}
use Rattle.gs_tree.specs.inner.Steps.{IsAim, Lands}
use Rattle.gs_tree.proofs.Laws.{elsewhere, there}
use Rattle.gs_tree.proofs.Moves.{takes_moved, parent-append, put_there}
use Rattle.gs_tree.proofs.Places.{HasLeft, has_left}
use Rattle.gs_tree.proofs.moving.settle.Goals as goal

pub land-requires-clause-dir : goal.land-requires-clause-dir
land-requires-clause-dir c =
    let one = at c.args.root.now in
    let m = with_at c.args.path.now (at c.args.node) one in
    let aim : IsAim m c.args.path.now c.in-Ok.aim.source c.in-Ok.aim.target c.in-Ok.aim.name = rw c.in-Ok.is at c.requires.aim in
    let split = sym c.elements-to.ensures ∙ c.in-Some.ensures.cases.0 in
    let parent_is : parent c.in-Ok.aim.target ≡ c.in-Some.parent.now = ap parent split ∙ parent-append c.in-Some.parent.now c.in-Some.field-0-0.now in
    let apart : begins c.args.path.now (c.in-Some.parent.now ++ c.in-Some.field-0-0.now ∷ []) ≡ false = ap (begins c.args.path.now) (sym split) ∙ aim.apart in
    sym (elsewhere one (at c.args.node) m c.args.path.now c.in-Some.parent.now (c.in-Some.field-0-0.now ∷ []) (λ q. refl) apart) ∙ ap m (sym parent_is) ∙ aim.dir

-- what the node's landing says, of the paths themselves
landing : (one node new : Plain ℕ) (from to from' to' : Path) (b : Bool) → from' ≡ from → to' ≡ to → b ≡ true → is_some (one from) ≡ true → begins from to ≡ false → Lands one node from' to' (Ok b) new → HasLeft one node new from to
landing one node new from to from' to' b e1 e2 is some apart h =
    let put = put_there one node new from to b is (subst (λ (t : Path). Lands one node from t (Ok b) new) e2 (subst (λ (p : Path). Lands one node p to' (Ok b) new) e1 h)) in
    has_left one node new from to put.0 some apart put.1

-- something stands at a place that is kept
kept : (m : Plain ℕ) (p : Path) → ((q : Path) → m (p ++ q) ≡ rooted q) → is_some (m p) ≡ true
kept m p h = ap (λ q. is_some (m q)) (sym (append-nil p)) ∙ ap is_some (h [])

pub put-requires : goal.put-requires
put-requires c n =
    let gone : is_some (at c.args.root.now c.args.path.now) ≡ false = ap (λ p. is_some (at c.args.root.now p)) (sym c.elements-from.ensures) ∙ ap is_some n in
    let there = kept (at c.args.root.now) c.args.path.now c.requires.place in cc

pub land-requires-clause-stands : goal.land-requires-clause-stands
land-requires-clause-stands c = ap (λ p. is_some (at c.args.root.now p)) c.elements-from.ensures ∙ kept (at c.args.root.now) c.args.path.now c.requires.place

pub returns-clause-edit : goal.returns-clause-edit
returns-clause-edit c wanted aims =
    let one = at c.args.root.now in
    let m = with_at c.args.path.now (at c.args.node) one in
    let to = c.in-Ok.aim.target in
    let aim : IsAim m c.args.path.now c.in-Ok.aim.source to c.in-Ok.aim.name = rw c.in-Ok.is at c.requires.aim in
    let got = landing one (at c.args.node) (at c.land.new.self) c.args.path.now to c.elements-from.result.now c.elements-to.result.now c.in_ok-land.field-0 c.elements-from.ensures c.elements-to.ensures c.if-not-branch.false (kept one c.args.path.now c.requires.place) aim.apart c.in_ok-land.ensures in
    let none : is_some (m to) ≡ false = ap (λ p. is_some (m p)) (sym (append-nil to)) ∙ ap is_some (got.free []) in
    let told : wanted ≡ cond (is_some (m to)) (Err Exists) (Ok (moved c.args.path.now to m)) = rw c.in-Ok.is at aims in
    let is = told ∙ ap (λ b. cond b (Err Exists) (Ok (moved c.args.path.now to m))) none in
    subst (λ (r : Result (Plain ℕ) Refusal). FollowsPlain r (Ok (Moved c.in-Ok.aim.source to)) m (without c.in-Ok.aim.source (at c.land.new.self))) (sym is)
    (λ q. ap (λ s. without s (at c.land.new.self) q) aim.same ∙ got.left q)

pub returns-clause-undo : goal.returns-clause-undo
returns-clause-undo c =
    let one = at c.args.root.now in
    let m = with_at c.args.path.now (at c.args.node) one in
    let to = c.in-Ok.aim.target in
    let aim : IsAim m c.args.path.now c.in-Ok.aim.source to c.in-Ok.aim.name = rw c.in-Ok.is at c.requires.aim in
    let got = landing one (at c.args.node) (at c.land.new.self) c.args.path.now to c.elements-from.result.now c.elements-to.result.now c.in_ok-land.field-0 c.elements-from.ensures c.elements-to.ensures c.if-not-branch.false (kept one c.args.path.now c.requires.place) aim.apart c.in_ok-land.ensures in
    let stands : is_some (m c.args.path.now) ≡ true = ap is_some (there one (at c.args.node) m c.args.path.now (λ q. refl)) ∙ c.requires.node in
    subst (λ (s : Path). TakesBack (Moved s to) m (without s (at c.land.new.self))) (sym aim.same) (takes_moved m (without c.args.path.now (at c.land.new.self)) c.args.path.now to got.left c.requires.root got.free stands aim.apart c.requires.above)

pub returns-clause-place : goal.returns-clause-place
returns-clause-place c =
    let one = at c.args.root.now in
    let m = with_at c.args.path.now (at c.args.node) one in
    let to = c.in-Ok.aim.target in
    let aim : IsAim m c.args.path.now c.in-Ok.aim.source to c.in-Ok.aim.name = rw c.in-Ok.is at c.requires.aim in
    let got = landing one (at c.args.node) (at c.land.new.self) c.args.path.now to c.elements-from.result.now c.elements-to.result.now c.in_ok-land.field-0 c.elements-from.ensures c.elements-to.ensures c.if-not-branch.false (kept one c.args.path.now c.requires.place) aim.apart c.in_ok-land.ensures in
    subst (λ (s : Path). KeepsPlace (Moved s to) (at c.land.new.self)) (sym aim.same) (c.requires.root, λ q. got.place q ∙ c.requires.place q)
