-- A place that is kept, given up, or gone back to.
use Rattle.std.proofs.Common.{ℕ, Bool, ◌≡◌, ◌≢◌, ◌&&◌, true, false, cond, not, [], ◌∷◌, ◌++◌, refl, sym, ap, ◌∙◌, subst}
use Rattle.std.specs.Prelude.{Some, None, Result, Ok, Err, IfOk, is_some}
use Rattle.gs_base.specs.declared.refusal.Refusal.{Refusal}
use Rattle.gs_path.specs.Path.{Path, begins}
use Rattle.gs_tree.specs.Entry.{Dir}
use Rattle.gs_tree.specs.Plain.{Plain, IsFree, after, with_at, without}
use Rattle.gs_tree.specs.Edits.{moved}
use Rattle.gs_tree.specs.Inverses.{TakesBack}
use Rattle.gs_tree.specs.Follows.{FollowsPlain}
use Rattle.gs_tree.specs.Places.{KeepsPlace, given_up, without_place, can_return, put_back, returned}
use Rattle.gs_tree.specs.declared.inverse.TreeInverse.{TreeInverse}
use Rattle.gs_tree.specs.declared.inverse.TreeInverse.TheVariants.{Made, Moved, Removed, Added, Changed, Copied}
use Rattle.gs_tree.proofs.Laws.{landed, not_above, begins_either}
use Rattle.gs_tree.proofs.Splice.{begins_parts}

-- a node that was put at its target has gone from its place, where what replaced it still stands
pub record HasLeft (one node new : Plain ℕ) (from to : Path) : Type 0 where
  pub free : IsFree (with_at from node one) to
  pub left : (q : Path) → without from new q ≡ moved from to (with_at from node one) q
  pub place : (q : Path) → new (from ++ q) ≡ one (from ++ q)

pub has_left : (one node new : Plain ℕ) (from to : Path) → IsFree one to → is_some (one from) ≡ true → begins from to ≡ false → ((q : Path) → new q ≡ with_at to node one q) → HasLeft one node new from to
has_left one node new from to free some apart now =
    let got = landed one node new (without from new) from to free some apart now (λ q. refl) in record {
      free = got.0;
      left = got.1;
      place = λ q. now (from ++ q) ∙ ap (λ b. cond b (node (after to (from ++ q))) (one (from ++ q))) (not_above one from to free some apart q);
    }

-- what is made with a place that is kept is what is made, once that is given up
pub closed_follows : (r : Result (Plain ℕ) Refusal) (made result : Result TreeInverse Refusal) (old mid new : Plain ℕ) → result ≡ made → ((q : Path) → new q ≡ given_up made mid q) → FollowsPlain r made old (given_up made mid) → FollowsPlain r result old new
closed_follows r made result old mid new is same h =
    subst (λ (n : Plain ℕ). FollowsPlain r result old n) (λ i q. sym (same q) i) (subst (λ (x : Result TreeInverse Refusal). FollowsPlain r x old (given_up made mid)) (sym is) h)

pub closed_takes : (made result : Result TreeInverse Refusal) (old mid new : Plain ℕ) → result ≡ made → ((q : Path) → new q ≡ given_up made mid q) → IfOk made (λ i. TakesBack i old (given_up made mid)) → IfOk result (λ i. TakesBack i old new)
closed_takes made result old mid new is same h =
    subst (λ (n : Plain ℕ). IfOk result (λ i. TakesBack i old n)) (λ i q. sym (same q) i) (subst (λ (x : Result TreeInverse Refusal). IfOk x (λ i. TakesBack i old (given_up made mid))) (sym is) h)

-- the root stands where it stands once a place is given up
root_beside : (from : Path) (m : Plain ℕ) → without from m [] ≡ Some Dir → m [] ≡ Some Dir
root_beside [] m h = absurd (cc)
root_beside (x ∷ from) m h = h

pub root_given_up : (made : Result TreeInverse Refusal) (m : Plain ℕ) → given_up made m [] ≡ Some Dir → m [] ≡ Some Dir
root_given_up (Err e) m h = h
root_given_up (Ok (Made path above)) m h = h
root_given_up (Ok (Moved from to)) m h = root_beside from m h
root_given_up (Ok (Removed path node)) m h = h
root_given_up (Ok (Added path)) m h = h
root_given_up (Ok (Changed path index chunk)) m h = h
root_given_up (Ok (Copied path)) m h = h

-- to take out what stands at a path that isn't the root gives up the place
pub place_out : (m new : Plain ℕ) (p p' : Path) → p' ≡ p → p ≢ [] → ((q : Path) → new q ≡ without p' m q) → (q : Path) → new q ≡ without_place p m q
place_out m new [] p' e ne h q = absurd (ne refl)
place_out m new (x ∷ p) p' e ne h q = h q ∙ ap (λ s. without s m q) e

without_some : (p : Path) (m : Plain ℕ) → p ≢ [] → (q : Path) → without_place p m q ≡ without p m q
without_some [] m ne q = absurd (ne refl)
without_some (x ∷ p) m ne q = refl

pub given_out : (made : Result TreeInverse Refusal) (from to : Path) (one new : Plain ℕ) → made ≡ Ok (Moved from to) → IfOk made (λ i. KeepsPlace i one) → ((q : Path) → new q ≡ without_place from one q) → (q : Path) → new q ≡ given_up made one q
given_out made from to one new is keeps h q =
    let kept : KeepsPlace (Moved from to) one = rw is at keeps in
    h q ∙ without_some from one kept.0 q ∙ ap (λ (r : Result TreeInverse Refusal). given_up r one q) (sym is)

-- neither of two paths begins with the other, so nothing under one is under the other
pub beside_under : (f t r : Path) → begins f t ≡ false → begins t f ≡ false → begins f (t ++ r) ≡ false
beside_under f t r apart other = elim (begins f (t ++ r)) as (λ b. begins f (t ++ r) ≡ b → b ≡ false) [
  | true ↦ λ b. let k : begins f t ≡ true = begins_either f t r b other in cc
  | false ↦ λ b. refl
] refl

-- to put what stands at `to` at `from`, and to take it out there, is to go back
pub gone_back : (m node one two three : Plain ℕ) (part : Plain ℕ) (from to : Path) → begins to from ≡ false → begins from to ≡ false → is_some (m from) ≡ true → is_some (m to) ≡ true → ((q : Path) → m (to ++ q) ≡ node q)
    → ((q : Path) → one q ≡ with_at to part m q) → ((q : Path) → two q ≡ with_at from node one q) → ((q : Path) → three q ≡ without to two q) → (q : Path) → three q ≡ returned from to m q
gone_back m node one two three part from to e1 e2 some there is h1 h2 h3 q =
    same ∙ ap (λ b. cond b (moved to from (without from m) q) (m q)) (sym can)
  where
    can : can_return from to m ≡ true
    can = ap (λ b. not b && (not (begins from to) && (is_some (m from) && is_some (m to)))) e1
        ∙ ap (λ b. not b && (is_some (m from) && is_some (m to))) e2 ∙ ap (λ b. b && is_some (m to)) some ∙ there

    same : three q ≡ moved to from (without from m) q
    same =
        h3 q ∙ elim (begins from q) as (λ b. begins from q ≡ b → cond (begins to q) None (two q) ≡ cond b (without from m (to ++ after from q)) (without to (without from m) q)) [
          | true ↦ λ b. ap (λ s. cond s None (two q)) (ap (begins to) (begins_parts from q b) ∙ beside_under to from (after from q) e1 e2)
              ∙ h2 q ∙ ap (λ s. cond s (node (after from q)) (one q)) b ∙ sym (is (after from q))
              ∙ sym (ap (λ s. cond s None (m (to ++ after from q))) (beside_under from to (after from q) e2 e1))
          | false ↦ λ b. elim (begins to q) as (λ d. begins to q ≡ d → cond d None (two q) ≡ cond d None (without from m q)) [
            | true ↦ λ d. refl
            | false ↦ λ d. h2 q ∙ ap (λ s. cond s (node (after from q)) (one q)) b ∙ h1 q ∙ ap (λ s. cond s (part (after to q)) (m q)) d ∙ sym (ap (λ s. cond s None (m q)) b)
          ] refl
        ] refl

-- what keeps a place is a move
kept_otherwise : (i : TreeInverse) (one : Plain ℕ) → KeepsPlace i one → ((from to : Path) → i ≡ Moved from to → ⊥) → ⊥
kept_otherwise (Made path above) one keeps other = keeps
kept_otherwise (Moved from to) one keeps other = other from to refl
kept_otherwise (Removed path node) one keeps other = keeps
kept_otherwise (Added path) one keeps other = keeps
kept_otherwise (Changed path index chunk) one keeps other = keeps
kept_otherwise (Copied path) one keeps other = keeps

pub given_otherwise : (made : Result TreeInverse Refusal) (i : TreeInverse) (one : Plain ℕ) → made ≡ Ok i → IfOk made (λ i. KeepsPlace i one) → ((from to : Path) → i ≡ Moved from to → ⊥) → (q : Path) → one q ≡ given_up made one q
given_otherwise made i one is keeps other q = absurd (kept_otherwise i one (rw is at keeps) other)

pub root_beside_place : (p : Path) (m : Plain ℕ) → without_place p m [] ≡ m []
root_beside_place [] m = refl
root_beside_place (x ∷ p) m = refl

either_way : {A : Type 0} (b : Bool) (v : A) → cond b v v ≡ v
either_way true v = refl
either_way false v = refl

pub root_returned : (from to : Path) (m : Plain ℕ) → returned from to m [] ≡ m []
root_returned [] [] m = refl
root_returned [] (y ∷ to) m = refl
root_returned (x ∷ from) [] m = refl
root_returned (x ∷ from) (y ∷ to) m = either_way (can_return (x ∷ from) (y ∷ to) m) (m [])

pub root_put_back : (p : Path) (node m : Plain ℕ) → put_back p node m [] ≡ m []
root_put_back [] node m = refl
root_put_back (x ∷ p) node m = either_way (is_some (m (x ∷ p))) (m [])
