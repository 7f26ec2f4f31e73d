-- What a report tells of one handle is what its slot has.
use Rattle.std.proofs.Common.{◌≡◌, ℕ, Bool, true, false, cond, List, [], ◌∷◌, Option, Some, None, refl, sym, ap, subst, ◌∙◌}
use Rattle.std.specs.Prelude.{◌==◌, T, find, is_some}
use Rattle.std.specs.FinMap as fin
use Rattle.std.specs.FinMap.Entries.{below_all}
use Rattle.std.specs.Ordering.{nat_cmp, eq_by_cmp, is_lt}
use Rattle.gs_base.specs.declared.numbers.Stamp.{Stamp}
use Rattle.gs_store.specs.declared.report.ReplicaReport.{ReplicaReport}
use Rattle.gs_store.specs.Slots.{Live, Slot}
use Rattle.gs_store.specs.Stores.{Store, or_nothing, slot_of, report, report_before, reports_of}
use Rattle.gs_store.specs.Told.{found_in, told_of, told}
use Rattle.gs_store.proofs.Keys.{first, second, not_tied}
use Rattle.gs_store.proofs.Named.{ties}
use Rattle.gs_store.proofs.Places.{same_key}

abbrev speaks : ℕ → ReplicaReport → Bool
speaks q r = eq_by_cmp nat_cmp q r.handle

same_find : (q : ℕ) (rs : List ReplicaReport) → find (λ (r : ReplicaReport). q == r.handle) rs ≡ find (speaks q) rs
same_find q [] = refl
same_find q (r ∷ rs) = ap (λ b. cond b (Some r) (find (λ (x : ReplicaReport). q == x.handle) rs)) (ties q r.handle) ∙ ap (cond (eq_by_cmp nat_cmp q r.handle) (Some r)) (same_find q rs)

-- a report of a handle that isn't looked for is passed
passed : (q k : ℕ) (promise : Stamp) (live : Option Live) (rest : List ReplicaReport) → eq_by_cmp nat_cmp q k ≡ false → find (speaks q) (report_before k promise live rest) ≡ find (speaks q) rest
passed q k promise None rest apart = refl
passed q k promise (Some l) rest apart = ap (λ b. cond b (Some (record { handle = k; promise = promise; is_bad = is_some l.bad })) (find (speaks q) rest)) apart

-- and that of the one that is looked for is found
hit : (q k : ℕ) (promise : Stamp) (live : Option Live) (rest : List ReplicaReport) → eq_by_cmp nat_cmp q k ≡ true → find (speaks q) rest ≡ None → find (speaks q) (report_before k promise live rest) ≡ told_of k promise live
hit q k promise None rest same none = none
hit q k promise (Some l) rest same none = ap (λ b. cond b (Some (record { handle = k; promise = promise; is_bad = is_some l.bad })) (find (speaks q) rest)) same

none_above : (k : ℕ) (es : List (ℕ × Slot)) → T (below_all nat_cmp k es) → find (speaks k) (reports_of es) ≡ None
none_above k [] below = refl
none_above k (e ∷ es) below =
    passed k e.0 e.1.promise e.1.live (reports_of es) (not_tied (nat_cmp k e.0) (first (is_lt (nat_cmp k e.0)) (below_all nat_cmp k es) below))
    ∙ none_above k es (second (is_lt (nat_cmp k e.0)) (below_all nat_cmp k es) below)

abbrev told_if : ℕ → Option Slot → Option ReplicaReport
told_if q None = None
told_if q (Some t) = told q t

found : (q : ℕ) (es : List (ℕ × Slot)) → T (fin.is_sorted nat_cmp es) → find (speaks q) (reports_of es) ≡ told_if q (fin.find nat_cmp q es)
found q [] sorted = refl
found q (e ∷ es) sorted = by_case (eq_by_cmp nat_cmp q e.0) refl (found q es (second (below_all nat_cmp e.0 es) (fin.is_sorted nat_cmp es) sorted))
  where
    above : q ≡ e.0 → find (speaks q) (reports_of es) ≡ None
    above is = subst (λ k. find (speaks k) (reports_of es) ≡ None) (sym is) (none_above e.0 es (first (below_all nat_cmp e.0 es) (fin.is_sorted nat_cmp es) sorted))

    by_case : (here : Bool) → eq_by_cmp nat_cmp q e.0 ≡ here → find (speaks q) (reports_of es) ≡ told_if q (fin.find nat_cmp q es)
        → find (speaks q) (report_before e.0 e.1.promise e.1.live (reports_of es)) ≡ told_if q (cond here (Some e.1) (fin.find nat_cmp q es))
    by_case true tied later = hit q e.0 e.1.promise e.1.live (reports_of es) tied (above (same_key q e.0 tied)) ∙ ap (λ k. told k e.1) (sym (same_key q e.0 tied))
    by_case false apart later = passed q e.0 e.1.promise e.1.live (reports_of es) apart ∙ later

or_none : (q : ℕ) (o : Option Slot) → told_if q o ≡ told q (or_nothing o)
or_none q None = refl
or_none q (Some t) = refl

pub told_is : (handle : ℕ) (s : Store) → found_in handle s ≡ told handle (slot_of handle s)
told_is handle s =
    same_find handle (report s) ∙ found handle (fin.entries s.slots) (fin.entries_sorted s.slots) ∙ ap (told_if handle) (sym (fin.get-entries s.slots handle)) ∙ or_none handle (fin.get s.slots handle)
