-- What is taken out with all under it, and put back.
use Rattle.std.proofs.Common.{◌≡◌, ◌≢◌, ℕ, Bool, true, false, cond, [], ◌∷◌, ◌++◌, inl, refl, sym, ap, ◌∙◌, append-nil, subst}
use Rattle.std.specs.Prelude.{Option, Some, None, Result, Ok, Err, is_some, is_none}
use Rattle.gs_base.specs.declared.refusal.Refusal.{Refusal}
use Rattle.gs_base.specs.declared.refusal.Refusal.TheVariants.{NotFound, NotHidden}
use Rattle.gs_path.specs.Path.{Path, begins}
use Rattle.gs_tree.specs.Plain.{Plain, IsFree, after, with_at, without, Same}
use Rattle.gs_tree.specs.Entry.{Dir}
use Rattle.gs_tree.specs.Find.{Rows, at, DirsAbove}
use Rattle.gs_tree.specs.Follows.{FollowsPlain}
use Rattle.gs_tree.specs.Places.{IsNotTakenOut, IsTakenOut, put_back}
use Rattle.gs_tree.specs.Edits.{remove, old_name, parent}
use Rattle.gs_tree.specs.Inverses.{TakesBack}
use Rattle.gs_tree.specs.declared.inverse.TreeInverse.TheVariants.{Removed, Copied}
use Rattle.gs_tree.proofs.Splice.{begins_parts}
use Rattle.gs_tree.proofs.Laws.{begins_append, free_at, with_at-append}
use Rattle.gs_tree.proofs.Moves.{dir_above, not_itself, root_alone, some_is}

pub remove-is : (m : Plain ℕ) (p : Path) → is_none (old_name p) ≡ false → is_none (m p) ≡ false → remove m p ≡ Ok (without p m)
remove-is m p hidden some = ap (λ b. cond b (Err NotHidden) (cond (is_none (m p)) (Err NotFound) (Ok (without p m)))) hidden ∙ ap (λ b. cond b (Err NotFound) (Ok (without p m))) some

pub named : {A : Type 0} (v : Option A) → is_none v ≡ false → is_some v ≡ true
named None h = absurd (cc)
named (Some x) h = refl

-- the place of what was taken out
pub gone_at : (m new : Plain ℕ) (p : Path) → ((q : Path) → new q ≡ without p m q) → IsFree new p
gone_at m new p is r = is (p ++ r) ∙ ap (λ b. cond b None (m (p ++ r))) (begins_append p r)

-- what was taken out is put back
pub takes_removed : (m new : Plain ℕ) (p : Path) (node : Rows ℕ) → p ≢ [] → DirsAbove m p → ((q : Path) → new q ≡ without p m q) → ((q : Path) → m (p ++ q) ≡ at node q) → TakesBack (Removed p node) m new
takes_removed m new p node ne above is part = record {
  fits = (gone_at m new p is, is (parent p) ∙ ap (λ b. cond b None (m (parent p))) (not_itself p ne) ∙ dir_above m p ne above);
  back = λ q. elim (begins p q) as (λ b. begins p q ≡ b → cond b (at node (after p q)) (new q) ≡ m q) [
    | true ↦ λ b. sym (part (after p q)) ∙ ap m (sym (begins_parts p q b))
    | false ↦ λ b. is q ∙ ap (λ d. cond d None (m q)) b
  ] refl;
}

-- a copy is taken out
pub takes_copied : (m new part : Plain ℕ) (p : Path) → p ≢ [] → IsFree m p → is_some (part []) ≡ true → ((q : Path) → new q ≡ with_at p part m q) → TakesBack (Copied p) m new
takes_copied m new part p ne free some is = record {
  fits = (ne, ap (λ q. is_some (new q)) (sym (append-nil p)) ∙ ap is_some (is (p ++ []) ∙ with_at-append p part m []) ∙ some);
  back = λ q. elim (begins p q) as (λ b. begins p q ≡ b → cond b None (new q) ≡ m q) [
    | true ↦ λ b. sym (free_at m p q free b)
    | false ↦ λ b. is q ∙ ap (λ d. cond d (part (after p q)) (m q)) b
  ] refl;
}

-- the same tree with an equal part
pub with_part : (p : Path) (one two m : Plain ℕ) → Same one two → (q : Path) → with_at p one m q ≡ with_at p two m q
with_part p one two m same q = ap (λ (part : Plain ℕ). with_at p part m q) (λ i r. same r i)

-- ---- an empty directory keeps the place

pub taken_out : (m new : Plain ℕ) (node dir : Rows ℕ) (p p' : Path) → p' ≡ p → dir ≡ ([], Dir) ∷ [] → is_none (old_name p) ≡ false → true ≡ is_some (m p') → ((q : Path) → m (p' ++ q) ≡ at node q) → ((q : Path) → new q ≡ with_at p' (at dir) m q) → IsTakenOut p (at node) m new
taken_out m new node dir p p' e is hidden some part now = subst (λ (s : Path). is_none (old_name s) ≡ false → IsTakenOut s (at node) m new) e made hidden
  where
    made : is_none (old_name p') ≡ false → IsTakenOut p' (at node) m new
    made h = record {
      hidden = h;
      stood = some_is (m p') (sym some);
      part = part;
      now = λ q. now q ∙ ap (λ (d : Plain ℕ). with_at p' d m q) (λ i r. (ap (λ (rows : Rows ℕ). at rows r) is ∙ root_alone r) i);
    }

-- nothing stands there
pub not_taken : (m new : Plain ℕ) (p p' : Path) → p' ≡ p → is_none (old_name p) ≡ false → ((q : Path) → m (p' ++ q) ≡ None) → ((q : Path) → new q ≡ m q) → IsNotTakenOut p m NotFound new
not_taken m new p p' e hidden part now = subst (λ (r : Result (Plain ℕ) Refusal). FollowsPlain {I = Unit {0}} r (Err NotFound) m new) (sym is) (inl refl, now)
  where
    gone : m p ≡ None
    gone = ap m (sym (append-nil p)) ∙ ap (λ s. m (s ++ [])) (sym e) ∙ part []

    is : remove m p ≡ Err NotFound
    is = ap (λ b. cond b (Err NotHidden) (cond (is_none (m p)) (Err NotFound) (Ok (without p m)))) hidden ∙ ap (λ v. cond (is_none v) (Err NotFound) (Ok (without p m))) gone

-- it goes back to its place, and not to the root
by_path : (node m : Plain ℕ) (p q : Path) → p ≢ [] → put_back p node m q ≡ cond (is_some (m p)) (with_at p node m q) (m q)
by_path node m [] q ne = absurd (ne refl)
by_path node m (x ∷ p) q ne = refl

pub back_in : (m new node : Plain ℕ) (p p' : Path) (some : Bool) → p' ≡ p → p ≢ [] → some ≡ is_some (m p') → ((q : Path) → new q ≡ cond some (with_at p' node m q) (m q)) → (q : Path) → new q ≡ put_back p node m q
back_in m new node p p' some e ne found now q =
    now q ∙ ap (λ b. cond b (with_at p' node m q) (m q)) found ∙ ap (λ s. cond (is_some (m s)) (with_at s node m q) (m q)) e ∙ sym (by_path node m p q ne)

pub root_stays : (m node : Plain ℕ) (p q : Path) → p ≡ [] → m q ≡ put_back p node m q
root_stays m node p q is = ap (λ s. put_back s node m q) (sym is)
