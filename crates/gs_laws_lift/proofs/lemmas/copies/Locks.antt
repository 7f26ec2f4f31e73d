-- The locks of a call that holds a place: no other call may write what is there or above it, or read what is there.
use Rattle.std.proofs.Common.{◌≡◌, ◌∙◌, ◌⊎◌, inl, inr, ◌&&◌, ◌||◌, ◌++◌, Bool, true, false, not, cond, List, [], ◌∷◌, map, filter, refl, ap, sym, subst}
use Rattle.std.specs.List.{list_any}
use Rattle.std.proofs.lemmas.Bool.{true≢false}
use Rattle.gs_base.specs.declared.numbers.ReqId.{ReqId}
use Rattle.gs_edit.proofs.Removals.{begins-itself}
use Rattle.gs_edit.proofs.Tables.{same_itself}
use Rattle.gs_lock.specs.Locks.{beginnings, is_in_the_way, locks_on, released, stands_in_the_way, taken}
use Rattle.gs_lock.specs.Operations.{same_op}
use Rattle.gs_lock.specs.declared.lock.Lock.{Lock}
use Rattle.gs_path.specs.Path.{Name, Path, begins}
use Rattle.gs_tree.proofs.Splice.{begins_parts}
use Rattle.gs_tree.specs.Edits.{parent, same_path}
use Rattle.gs_tree.specs.Plain.{after}
use Rattle.gs_laws_lift.specs.copies.Held.{IsIn, IsLocked}
use Rattle.gs_master_spec.specs.Volatile.{above}

-- ---- lists

pub in_left : {A : Type 0} (a : A) (xs ys : List A) → IsIn a xs → IsIn a (xs ++ ys)
in_left a [] ys h = absurd h
in_left a (x ∷ xs) ys (inl is) = inl is
in_left a (x ∷ xs) ys (inr rest) = inr (in_left a xs ys rest)

pub in_right : {A : Type 0} (a : A) (xs ys : List A) → IsIn a ys → IsIn a (xs ++ ys)
in_right a [] ys h = h
in_right a (x ∷ xs) ys h = inr (in_right a xs ys h)

pub in_map : {A B : Type 0} (f : A → B) (a : A) (xs : List A) → IsIn a xs → IsIn (f a) (map f xs)
in_map f a [] h = absurd h
in_map f a (x ∷ xs) (inl is) = inl (ap f is)
in_map f a (x ∷ xs) (inr rest) = inr (in_map f a xs rest)

pub in_filter : {A : Type 0} (f : A → Bool) (a : A) (xs : List A) → f a ≡ true → IsIn a xs → IsIn a (filter f xs)
in_filter f a [] pass h = absurd h
in_filter f a (x ∷ xs) pass h = by_test (f x) refl h (in_filter f a xs pass)
  where
    by_test : (b : Bool) → f x ≡ b → (x ≡ a) ⊎ IsIn a xs → (IsIn a xs → IsIn a (filter f xs)) → IsIn a (cond b (x ∷ filter f xs) (filter f xs))
    by_test true is (inl same) rest = inl same
    by_test true is (inr here) rest = inr (rest here)
    by_test false is (inl same) rest = absurd (true≢false (sym pass ∙ ap f (sym same) ∙ is))
    by_test false is (inr here) rest = rest here

pub any_in : {A : Type 0} (f : A → Bool) (a : A) (xs : List A) → f a ≡ true → IsIn a xs → list_any f xs ≡ true
any_in f a [] pass h = absurd h
any_in f a (x ∷ xs) pass (inl is) = ap (λ b. b || list_any f xs) (ap f is ∙ pass)
any_in f a (x ∷ xs) pass (inr rest) = by_head (f x) (any_in f a xs pass rest)
  where
    by_head : (b : Bool) → list_any f xs ≡ true → (b || list_any f xs) ≡ true
    by_head true h = refl
    by_head false h = h

-- ---- what is above a path

in_front : (r : Path) → IsIn [] (beginnings r)
in_front [] = inl refl
in_front (n ∷ r) = inl refl

above_has : (t : Path) (x : Name) (r : Path) → IsIn t (above (t ++ x ∷ r))
above_has [] x r = in_front (parent (x ∷ r))
above_has (n ∷ []) x r = inr (in_map (λ front. n ∷ front) [] (beginnings (parent (x ∷ r))) (in_front (parent (x ∷ r))))
above_has (n ∷ (m ∷ t)) x r = inr (in_map (λ front. n ∷ front) (m ∷ t) (above (m ∷ (t ++ x ∷ r))) (above_has (m ∷ t) x r))

-- ---- who has locked a path

on_has : (req : ReqId) (w : Bool) (path : Path) (paths : List Path) → IsIn path paths → IsIn (record { op = req; path = path; writes = w }) (locks_on req w paths)
on_has req w path paths here = in_map (λ p. (let l : Lock = record { op = req; path = p; writes = w } in l)) path paths here

append_none : (p : Path) → p ++ [] ≡ p
append_none [] = refl
append_none (n ∷ p) = ap (λ q. n ∷ q) (append_none p)

-- so it is of who takes its locks
pub locked_now : (locks : List Lock) (req : ReqId) (path : Path) → IsLocked (taken locks req ((above path ++ []) ++ []) (path ∷ [])) req path
locked_now locks req path = record { each = λ touched begun. by_rest touched (after touched path) (begins_parts touched path begun) }
  where
    reads : List Path
    reads = (above path ++ []) ++ []

    by_rest : (touched rest : Path) → path ≡ touched ++ rest → (w : Bool) × IsIn (record { op = req; path = touched; writes = w }) (taken locks req ((above path ++ []) ++ []) (path ∷ [])) × (touched ≡ path → w ≡ true)
    by_rest touched [] is =
        (true, in_right _ locks _ (in_right _ (locks_on req false ((above path ++ []) ++ [])) _ (on_has req true touched (path ∷ []) (inl (is ∙ append_none touched)))), λ same. refl)
    by_rest touched (x ∷ rest) is = (
      false,
      in_right _ locks _ (in_left _ (locks_on req false ((above path ++ []) ++ [])) _
          (on_has req false touched ((above path ++ []) ++ []) (in_left touched (above path ++ []) [] (in_left touched (above path) [] (subst (λ p. IsIn touched (above p)) (sym is) (above_has touched x rest)))))),
      λ same. absurd (longer touched x rest (same ∙ is)),
    )
      where
        tail_is : (a b : Name) (p q : Path) → ◌≡◌ {A = Path} (a ∷ p) (b ∷ q) → p ≡ q
        tail_is a b p q h = cc

        longer : (t : Path) (y : Name) (r : Path) → t ≡ t ++ y ∷ r → ⊥
        longer [] y r h = absurd (cc)
        longer (n ∷ t) y r h = longer t y r (tail_is n n t (t ++ y ∷ r) h)

pub locked_more : (locks more : List Lock) (req : ReqId) (path : Path) → IsLocked locks req path → IsLocked (locks ++ more) req path
locked_more locks more req path k = record { each = λ touched begun. (let one = k.each touched begun in (one.0, in_left _ locks more one.1, one.2)) }

pub locked_still : (locks : List Lock) (other req : ReqId) (path : Path) → same_op other req ≡ false → IsLocked locks req path → IsLocked (released locks other) req path
locked_still locks other req path apart k = record { each = λ touched begun. (let one = k.each touched begun in (one.0, in_filter (λ (lock : Lock). not (same_op other lock.op)) _ locks (ap not apart) one.1, one.2)) }

-- No other call writes what is there or above it,
pub locked_writes : (locks : List Lock) (req other : ReqId) (path touched : Path) → IsLocked locks req path → begins touched path ≡ true → same_op other req ≡ false → stands_in_the_way locks other [] (touched ∷ []) ≡ true
locked_writes locks req other path touched k begun apart =
    let one = k.each touched begun in any_in (is_in_the_way other [] (touched ∷ [])) (record { op = req; path = touched; writes = one.0 }) locks (ap (λ b. not b && cond one.0 (begins touched touched || false) (same touched || false)) apart ∙ by_writes one.0) one.1
  where
    same : Path → Bool
    same p = same_path p p

    by_writes : (w : Bool) → cond w (begins touched touched || false) (same_path touched touched || false) ≡ true
    by_writes true = ap (λ b. b || false) (begins-itself touched)
    by_writes false = ap (λ b. b || false) (same_itself touched)

-- and none reads what is there.
pub locked_reads : (locks : List Lock) (req other : ReqId) (path : Path) (writes : List Path) → IsLocked locks req path → same_op other req ≡ false → stands_in_the_way locks other (path ∷ []) writes ≡ true
locked_reads locks req other path writes k apart =
    let one = k.each path (begins-itself path) in
    any_in (is_in_the_way other (path ∷ []) writes) (record { op = req; path = path; writes = true }) locks
    (ap (λ b. not b && ((begins path path || false) || list_any (begins path) writes)) apart ∙ ap (λ b. (b || false) || list_any (begins path) writes) (begins-itself path)) (subst (λ w. IsIn (record { op = req; path = path; writes = w }) locks) (one.2 refl) one.1)
