-- Slots and stores are read as they are written.
use Rattle.std.proofs.Common.{◌≡◌, ℕ, ◌≤◌, Bool, true, false, cond, eqb, List, [], Option, Some, None, Ok, Err, refl, sym, ap, subst, ◌∙◌, arith}
use Rattle.std.specs.Prelude.{◌&&◌}
use Rattle.std.specs.FinMap as fin
use Rattle.std.specs.List.{AllByRecursion}
use Rattle.std.specs.Ordering.{nat_cmp}
use Rattle.std.proofs.lemmas.Bool.Decides.{Decides-eqb}
use Rattle.gs_base.specs.Told.{IsNumber}
use Rattle.gs_base.specs.declared.numbers.Stamp.{Stamp}
use Rattle.gs_base.specs.declared.refusal.Refusal.{Refusal}
use Rattle.gs_fields.specs.Encoding.{number}
use Rattle.gs_fields.specs.Laws.{Reads, reads_both, reads_made, reads_option, reads_long_list, reads_flag, reads_stamp, n64, some_is, if_some}
use Rattle.gs_fields.specs.Reading.{flag_at, option_at, stamp_at}
use Rattle.gs_fields.specs.Writable.{AreLongItems, IsOption}
use Rattle.gs_replica.specs.Seals.{State}
use Rattle.gs_store.specs.Parts.{PartsKeep}
use Rattle.gs_store.specs.Slots.{Live, Slot}
use Rattle.gs_store.specs.Stores.{Store}
use Rattle.gs_store.specs.Whole.{Keeps, IsSlotOf}
use Rattle.gs_store_image.specs.Keeping.{keeps, are_slots_of}
use Rattle.gs_store_image.specs.StoreEncoding.{live, slot, kept, store}
use Rattle.gs_store_image.specs.StoreWritable.{IsLive, IsHandle, IsSlotFields, IsSlot, IsKept, IsStore}
use Rattle.gs_store_image.specs.Writable.{IsReplica}
use Rattle.gs_store_image.specs.Reading.{replica_at, rises}
use Rattle.gs_store_image.specs.StoreReading.{live_of, live_at, SlotFields, slot_with, slot_of, slot_at, handle_of, handle_at, kept_at, store_of, store_at}
use Rattle.gs_store_image.proofs.Belonging.{first_so, second_so, both_so}
use Rattle.gs_store_image.proofs.Keeping.{decides_keeps, decides_all}
use Rattle.gs_store_image.proofs.Replicas.{reads_replica}
use Rattle.gs_store_image.proofs.Tables.{listed, rising_sorted, from_entries-entries}

abbrev live_fields : Live → State × Option ℕ
live_fields l = (l.replica, l.bad)

pub reads_live : (block chunk : ℕ) → Reads (IsLive block chunk) live (live_at block chunk)
unfolding live_at
reads_live block chunk = reads_made {fields = live_fields} (reads_both (reads_replica block chunk) (reads_option n64)) (record { back = λ y is. (is, refl); forth = forth }) where
  forth : (x : State × Option ℕ) (y : Live) → IsReplica block chunk x.0 × IsOption IsNumber x.1 → live_of x ≡ Some y → (live_fields y ≡ x) × IsLive block chunk y
  forth x y is e = subst (λ (z : Live). (live_fields z ≡ x) × IsLive block chunk z) (some_is (record { replica = x.0; bad = x.1 }) y e) (refl, is)

abbrev slot_fields : Slot → SlotFields
slot_fields s = (s.promise, (s.carried, (s.live, (s.trash, s.taken))))

pub reads_slot : (block chunk : ℕ) → Reads (IsSlot block chunk) slot (slot_at block chunk)
unfolding slot_at
reads_slot block chunk =
    reads_made {fields = slot_fields} (reads_both reads_stamp (reads_both reads_flag (reads_both (reads_option (reads_live block chunk)) (reads_both (reads_option (reads_replica block chunk)) (reads_option reads_stamp))))) (record { back = back; forth = forth })
  where
    back : (y : Slot) → IsSlot block chunk y → IsSlotFields block chunk y × (slot_of (slot_fields y) ≡ Some y)
    back y is = (is.0, rw ((decides_keeps y).1 is.1) refl)

    forth : (x : SlotFields) (y : Slot) → IsSlotFields block chunk (slot_with x) → slot_of x ≡ Some y → (slot_fields y ≡ x) × IsSlot block chunk y
    forth x y is e =
        let k = if_some (keeps (slot_with x)) (slot_with x) y e in
        subst (λ (z : Slot). (slot_fields z ≡ x) × IsSlot block chunk z) k.1 (refl, (is, (decides_keeps (slot_with x)).0 k.0))

handle_by : (n : ℕ) (b : Bool) → eqb n 0 ≡ b → (m : ℕ) → cond b None (Some n) ≡ Some m → (1 ≤ n) × (n ≡ m)
handle_by n true e m h = absurd (cc)
handle_by n false e m h =
    let some : n ≡ 0 → ⊥ = λ z. (let t = (Decides-eqb n 0).1 z in let clash = sym e ∙ t in absurd (cc)) in
    (omega (arith, some), cc)

not_0 : (n : ℕ) (b : Bool) → eqb n 0 ≡ b → 1 ≤ n → eqb n 0 ≡ false
not_0 n true e h = absurd (let z : n ≡ 0 = (Decides-eqb n 0).0 e in omega arith)
not_0 n false e h = e

pub reads_handle : Reads IsHandle number handle_at
unfolding handle_at
reads_handle = reads_made {fields = λ (n : ℕ). n} n64 (record { back = back; forth = forth }) where
  back : (n : ℕ) → IsHandle n → IsNumber n × (handle_of n ≡ Some n)
  back n is = (is.1, rw (not_0 n (eqb n 0) refl is.0) refl)

  forth : (x n : ℕ) → IsNumber x → handle_of x ≡ Some n → (n ≡ x) × IsHandle n
  forth x n is e =
      let k = handle_by x (eqb x 0) refl n e in
      (sym k.1, subst IsHandle k.1 (k.0, is))

pub reads_kept : (block chunk : ℕ) → Reads (IsKept block chunk) kept (kept_at block chunk)
unfolding kept_at
reads_kept block chunk = reads_both reads_handle (reads_slot block chunk)

abbrev StoreFields : Type 0
StoreFields = ℕ × List (ℕ × Slot)

abbrev store_fields : Store → StoreFields
store_fields s = (s.epoch, fin.entries s.slots)

abbrev AreStoreFields : ℕ → ℕ → StoreFields → Type 0
AreStoreFields block chunk x = IsNumber x.0 × AreLongItems (IsKept block chunk) x.1

abbrev store_with : ℕ → ℕ → StoreFields → Store
store_with block chunk x = record { block = block; chunk = chunk; epoch = x.0; slots = fin.from_entries x.1; buffer = [] }

pub reads_store : (block chunk : ℕ) → Reads (IsStore block chunk) store (store_at block chunk)
unfolding store_at
reads_store block chunk = reads_made {fields = store_fields} (reads_both n64 (reads_long_list (reads_kept block chunk))) (record { back = back; forth = forth }) where
  again : (s : Store) → IsStore block chunk s → store_with block chunk (store_fields s) ≡ s
  again s is = λ i. record { block = sym is.block_is i; chunk = sym is.chunk_is i; epoch = s.epoch; slots = from_entries-entries s.slots i; buffer = sym is.none_pushed i }

  back : (s : Store) → IsStore block chunk s → AreStoreFields block chunk (store_fields s) × (store_of block chunk (store_fields s) ≡ Some s)
  back s is =
      let passed = both_so (rises (fin.entries s.slots)) (are_slots_of block chunk (fin.entries s.slots)) (rising_sorted (fin.entries s.slots) (fin.entries_sorted s.slots)) ((decides_all block chunk (fin.entries s.slots)).1 is.slots) in
      ((is.epoch, is.kept), rw passed (ap (λ (z : Store). Some z) (again s is)))

  forth : (x : StoreFields) (s : Store) → AreStoreFields block chunk x → store_of block chunk x ≡ Some s → (store_fields s ≡ x) × IsStore block chunk s
  forth x s is e =
      let k = if_some (rises x.1 && are_slots_of block chunk x.1) (store_with block chunk x) s e in
      let same : fin.entries (fin.from_entries {R = nat_cmp} x.1) ≡ x.1 = listed x.1 (first_so (rises x.1) (are_slots_of block chunk x.1) k.0) in
      let each : AllByRecursion (λ (e : ℕ × Slot). IsSlotOf block chunk e.1) x.1 = (decides_all block chunk x.1).0 (second_so (rises x.1) (are_slots_of block chunk x.1) k.0) in
      subst (λ (z : Store). (store_fields z ≡ x) × IsStore block chunk z) k.1 (
        (λ i. (x.0, same i)),
        record {
          block_is = refl;
          chunk_is = refl;
          none_pushed = refl;
          epoch = is.0;
          kept = subst (λ (z : List (ℕ × Slot)). AreLongItems (IsKept block chunk) z) (sym same) is.1;
          slots = subst (λ (z : List (ℕ × Slot)). AllByRecursion (λ (e : ℕ × Slot). IsSlotOf block chunk e.1) z) (sym same) each;
        },
      )

-- ---- a slot that was read

pub slot_read : (block chunk : ℕ) (a b c d e f : List ℕ) (promise : Stamp) (carried : Bool) (live : Option Live) (trash : Option State) (taken : Option Stamp) (s : Slot) → stamp_at a ≡ Some (promise, b) → flag_at b ≡ Some (carried, c)
    → option_at (live_at block chunk) c ≡ Some (live, d) → option_at (replica_at block chunk) d ≡ Some (trash, e) → option_at stamp_at e ≡ Some (taken, f)
    → PartsKeep (record { promise = promise; carried = carried; live = live; trash = trash; taken = taken }) (Ok s) → slot_at block chunk a ≡ Some (s, f)
unfolding slot_at
slot_read block chunk a b c d e f promise carried live trash taken s h1 h2 h3 h4 h5 k =
    let t : Slot = record { promise = promise; carried = carried; live = live; trash = trash; taken = taken } in
    rw h1 (rw h2 (rw h3 (rw h4 (rw h5 (rw ((decides_keeps t).1 k.1) (ap (λ (z : Slot). Some (z, f)) (sym k.0)))))))

not_keeps : (s : Slot) (b : Bool) → keeps s ≡ b → ¬ (Keeps s.promise s.live s.trash s.taken) → keeps s ≡ false
not_keeps s true e n = absurd (n ((decides_keeps s).0 e))
not_keeps s false e n = e

pub slot_unread : (block chunk : ℕ) (a b c d e f : List ℕ) (promise : Stamp) (carried : Bool) (live : Option Live) (trash : Option State) (taken : Option Stamp) (x : Refusal) → stamp_at a ≡ Some (promise, b) → flag_at b ≡ Some (carried, c)
    → option_at (live_at block chunk) c ≡ Some (live, d) → option_at (replica_at block chunk) d ≡ Some (trash, e) → option_at stamp_at e ≡ Some (taken, f)
    → PartsKeep (record { promise = promise; carried = carried; live = live; trash = trash; taken = taken }) (Err x) → slot_at block chunk a ≡ None
unfolding slot_at
slot_unread block chunk a b c d e f promise carried live trash taken x h1 h2 h3 h4 h5 k =
    let t : Slot = record { promise = promise; carried = carried; live = live; trash = trash; taken = taken } in
    rw h1 (rw h2 (rw h3 (rw h4 (rw h5 (rw (not_keeps t (keeps t) refl k.1) refl)))))
