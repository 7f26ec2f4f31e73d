-- The settled views that a checkpoint tells.
use Rattle.std.proofs.Common.{◌≡◌, ◌∙◌, ℕ, Bool, true, false, cond, List, [], ◌∷◌, map, filter, refl, ap, sym, subst}
use Rattle.std.specs.Prelude.{Option, Some, None, filter_map, option_map, if◌then◌else◌}
use Rattle.std.specs.FinMap as fin
use Rattle.std.specs.List.Sorted.{IsStrictlySortedBy}
use Rattle.std.specs.Ordering.{nat_cmp}
use Rattle.gs_lease.specs.declared.lease.Lease.{Lease}
use Rattle.gs_lease.specs.declared.view.View.{View}
use Rattle.gs_master_record.specs.declared.checkpoint.SettledEntry.{SettledEntry}
use Rattle.gs_base_table.specs.Slots.{live, live_entries}
use Rattle.gs_master_state.specs.Checkpoints.{listed_entry}
use Rattle.gs_master_spec.specs.Durable.{Settled, is_listed}
use Rattle.gs_master_state.specs.inner.Recorded.{durable_of, settled_by}
use Rattle.gs_master_spec.specs.Whole.{settled_of}
use Rattle.gs_master_state.specs.declared.recorded.Recorded.{Recorded}
use Rattle.gs_master_state.proofs.Recording.{entries_chunks, told_entry}

without : {A B : Type 0} (f : A → Option B) (x : A) (xs : List A) → f x ≡ None → filter_map f (x ∷ xs) ≡ filter_map f xs
without f x xs is = rw is refl

with_one : {A B : Type 0} (f : A → Option B) (x : A) (xs : List A) (y : B) → f x ≡ Some y → filter_map f (x ∷ xs) ≡ y ∷ filter_map f xs
with_one f x xs y is = rw is refl

abbrev view_with : Settled → View × Bool
view_with s = (s.view, s.is_moving)

abbrev entry_with : ℕ → View × Bool → SettledEntry
entry_with handle v = record { settled = record { handle = handle; view = v.0 }; is_moving = v.1 }

listed_all : (listed : ℕ → Bool) (es : List (ℕ × Lease)) → filter_map (listed_entry listed) es ≡ map settled_of (filter (λ e. listed e.0) (live_entries (map told_entry es)))
listed_all listed [] = refl
listed_all listed (e ∷ es) = each (listed_all listed es) (settled_by e.1) refl (listed e.0) refl
  where
    same : (s : Option Settled) → settled_by e.1 ≡ s → (b : Bool) → listed e.0 ≡ b → listed_entry listed e ≡ option_map (entry_with e.0) (if b then option_map view_with s else None)
    same s told b is = λ i. option_map (entry_with e.0) (if is i then option_map view_with (told i) else None)

    each : filter_map (listed_entry listed) es ≡ map settled_of (filter (λ e. listed e.0) (live_entries (map told_entry es))) → (s : Option Settled) → settled_by e.1 ≡ s → (b : Bool) → listed e.0 ≡ b
        → filter_map (listed_entry listed) (e ∷ es) ≡ map settled_of (filter (λ e. listed e.0) (live_entries ((e.0, s) ∷ map told_entry es)))
    each more None told true is = without (listed_entry listed) e es (same None told true is) ∙ more
    each more None told false is = without (listed_entry listed) e es (same None told false is) ∙ more
    each more (Some s) told true is =
        with_one (listed_entry listed) e es (settled_of (e.0, s)) (same (Some s) told true is) ∙ ap (λ l. settled_of (e.0, s) ∷ l) more
        ∙ ap (λ b. map settled_of (cond b ((e.0, s) ∷ filter (λ e. listed e.0) (live_entries (map told_entry es))) (filter (λ e. listed e.0) (live_entries (map told_entry es))))) (sym is)
    each more (Some s) told false is =
        without (listed_entry listed) e es (same (Some s) told false is) ∙ more
        ∙ ap (λ b. map settled_of (cond b ((e.0, s) ∷ filter (λ e. listed e.0) (live_entries (map told_entry es))) (filter (λ e. listed e.0) (live_entries (map told_entry es))))) (sym is)

-- the entries of a table's leases, told in their order
pub settled_all : (r : Recorded) (es : List (ℕ × Lease)) → es ≡ fin.entries (live nat_cmp r.leases) → IsStrictlySortedBy nat_cmp (map (λ (e : ℕ × Lease). e.0) es) →
    filter_map (listed_entry (is_listed (durable_of r))) es ≡ map settled_of (filter (λ e. is_listed (durable_of r) e.0) (fin.entries (durable_of r).chunks))
settled_all r es is rising =
    listed_all (is_listed (durable_of r)) es
    ∙ ap (λ l. map settled_of (filter (λ e. is_listed (durable_of r) e.0) (live_entries (map told_entry l)))) is
    ∙ ap (λ l. map settled_of (filter (λ e. is_listed (durable_of r) e.0) l)) (sym (entries_chunks (live nat_cmp r.leases) (subst (λ l. IsStrictlySortedBy nat_cmp (map (λ (e : ℕ × Lease). e.0) l)) is rising)))
