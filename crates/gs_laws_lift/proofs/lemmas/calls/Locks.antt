-- The locks of a call that waits at a file: no other call may write what is there or above it; and where it writes, none may read what is there.
use Rattle.std.proofs.Common.{◌≡◌, ◌∙◌, inl, inr, ◌&&◌, ◌||◌, ◌++◌, Bool, true, false, not, cond, List, [], ◌∷◌, refl, ap, sym, subst}
use Rattle.std.proofs.lemmas.Bool.{false≢true}
use Rattle.gs_base.specs.declared.numbers.ReqId.{ReqId}
use Rattle.gs_edit.proofs.Removals.{begins-itself}
use Rattle.gs_edit.proofs.Tables.{same_itself}
use Rattle.gs_lock.specs.Locks.{beginnings, is_in_the_way, locks_on, released, stands_in_the_way, taken}
use Rattle.gs_lock.specs.Operations.{same_op}
use Rattle.gs_lock.specs.declared.lock.Lock.{Lock}
use Rattle.gs_path.specs.Path.{Name, Path, begins}
use Rattle.gs_tree.proofs.Splice.{begins_parts}
use Rattle.gs_tree.specs.Edits.{parent, same_path}
use Rattle.gs_tree.specs.Plain.{after}
use Rattle.gs_laws_lift.proofs.lemmas.copies.Locks.{any_in, in_filter, in_left, in_map, in_right, locked_now, locked_reads}
use Rattle.gs_laws_lift.specs.copies.Held.{IsIn}
use Rattle.gs_master_spec.specs.Volatile.{above}
use Rattle.gs_laws_lift.specs.calls.Waits.{IsLockedAs}

-- ---- what is above a path

in_front : (r : Path) → IsIn [] (beginnings r)
in_front [] = inl refl
in_front (n ∷ r) = inl refl

above_has : (t : Path) (x : Name) (r : Path) → IsIn t (above (t ++ x ∷ r))
above_has [] x r = in_front (parent (x ∷ r))
above_has (n ∷ []) x r = inr (in_map (λ front. n ∷ front) [] (beginnings (parent (x ∷ r))) (in_front (parent (x ∷ r))))
above_has (n ∷ (m ∷ t)) x r = inr (in_map (λ front. n ∷ front) (m ∷ t) (above (m ∷ (t ++ x ∷ r))) (above_has (m ∷ t) x r))

on_has : (req : ReqId) (w : Bool) (path : Path) (paths : List Path) → IsIn path paths → IsIn (record { op = req; path = path; writes = w }) (locks_on req w paths)
on_has req w path paths here = in_map (λ p. (let l : Lock = record { op = req; path = p; writes = w } in l)) path paths here

append_none : (p : Path) → p ++ [] ≡ p
append_none [] = refl
append_none (n ∷ p) = ap (λ q. n ∷ q) (append_none p)

-- ---- who has locked a path

pub written_now : (locks : List Lock) (req : ReqId) (path : Path) → IsLockedAs true (taken locks req ((above path ++ []) ++ []) (path ∷ [])) req path
written_now locks req path = (let k = locked_now locks req path in record { each = λ touched begun. (let one = k.each touched begun in (one.0, one.1, λ same write. one.2 same)) })

pub read_now : (locks : List Lock) (req : ReqId) (path : Path) → IsLockedAs false (taken locks req ((above path ++ []) ++ path ∷ []) []) req path
read_now locks req path = record { each = λ touched begun. (false, in_right _ locks _ (in_left _ (locks_on req false ((above path ++ []) ++ path ∷ [])) _ (on_has req false touched ((above path ++ []) ++ path ∷ []) (by_rest touched (after touched path) (begins_parts touched path begun)))), λ same write. absurd (false≢true write)) }
  where
    by_rest : (touched rest : Path) → path ≡ touched ++ rest → IsIn touched ((above path ++ []) ++ path ∷ [])
    by_rest touched [] is = in_right touched (above path ++ []) (path ∷ []) (inl (is ∙ append_none touched))
    by_rest touched (x ∷ rest) is = in_left touched (above path ++ []) (path ∷ []) (in_left touched (above path) [] (subst (λ p. IsIn touched (above p)) (sym is) (above_has touched x rest)))

pub locked_more : (w : Bool) (locks more : List Lock) (req : ReqId) (path : Path) → IsLockedAs w locks req path → IsLockedAs w (locks ++ more) req path
locked_more w locks more req path k = record { each = λ touched begun. (let one = k.each touched begun in (one.0, in_left _ locks more one.1, one.2)) }

pub locked_still : (w : Bool) (locks : List Lock) (other req : ReqId) (path : Path) → same_op other req ≡ false → IsLockedAs w locks req path → IsLockedAs w (released locks other) req path
locked_still w locks other req path apart k = record { each = λ touched begun. (let one = k.each touched begun in (one.0, in_filter (λ (lock : Lock). not (same_op other lock.op)) _ locks (ap not apart) one.1, one.2)) }

-- what writes reads too
pub locked_less : (w x : Bool) (locks : List Lock) (req : ReqId) (path : Path) → (x ≡ true → w ≡ true) → IsLockedAs w locks req path → IsLockedAs x locks req path
locked_less w x locks req path less k = record { each = λ touched begun. (let one = k.each touched begun in (one.0, one.1, λ same write. one.2 same (less write))) }

-- ---- whom it keeps out

-- No other call writes what is there or above it,
pub keeps_writes : (w : Bool) (locks : List Lock) (req other : ReqId) (path touched : Path) → IsLockedAs w locks req path → begins touched path ≡ true → same_op other req ≡ false → stands_in_the_way locks other [] (touched ∷ []) ≡ true
keeps_writes w locks req other path touched k begun apart =
    let one = k.each touched begun in any_in (is_in_the_way other [] (touched ∷ [])) (record { op = req; path = touched; writes = one.0 }) locks (ap (λ b. not b && cond one.0 (begins touched touched || false) (same touched || false)) apart ∙ by_writes one.0) one.1
  where
    same : Path → Bool
    same p = same_path p p

    by_writes : (w : Bool) → cond w (begins touched touched || false) (same_path touched touched || false) ≡ true
    by_writes true = ap (λ b. b || false) (begins-itself touched)
    by_writes false = ap (λ b. b || false) (same_itself touched)

-- and none reads what is written.
pub keeps_reads : (locks : List Lock) (req other : ReqId) (path : Path) (writes : List Path) → IsLockedAs true locks req path → same_op other req ≡ false → stands_in_the_way locks other (path ∷ []) writes ≡ true
keeps_reads locks req other path writes k apart = locked_reads locks req other path writes (record { each = λ touched begun. (let one = k.each touched begun in (one.0, one.1, λ same. one.2 same refl)) }) apart
