-- Slots that are kept one after the other, the last of a list first.
use Rattle.std.proofs.Common.{◌≡◌, ℕ, ◌++◌, Bool, true, false, cond, ltb, List, [], ◌∷◌, Some, None, Ok, Err, refl, sym, ap, subst, ◌∙◌, append_assoc}
use Rattle.std.specs.Prelude.{T, ◌&&◌}
use Rattle.std.proofs.lemmas.List.{append-nil}
use Rattle.std.specs.Cmp.{nat_cmp_total}
use Rattle.std.specs.declared.cmp.Ordering.{Ordering}
use Rattle.std.specs.declared.cmp.Ordering.TheVariants.{Less, Equal, Greater}
use Rattle.std.specs.FinMap as fin
use Rattle.std.specs.FinMap.Entries.{below_all, is_sorted}
use Rattle.std.specs.Ordering.{nat_cmp, is_lt, is_eq}
use Rattle.gs_fields.specs.declared.fault.Fault.{Fault}
use Rattle.gs_fields.specs.declared.fault.Fault.TheVariants as faults
use Rattle.std.specs.Int.{w64}
use Rattle.gs_fields.specs.Reading.{number_at, long_list_at}
use Rattle.gs_fields.specs.Work.{Fails}
use Rattle.gs_store.specs.Parts.{CanKeep, at_epoch}
use Rattle.gs_store.specs.Slots.{Slot}
use Rattle.gs_store.specs.Stores.{Store, with_slot, with_slots}
use Rattle.gs_store.specs.Whole.{IsSlotOf}
use Rattle.gs_store_image.specs.Keeping.{is_slot_of, are_slots_of}
use Rattle.gs_store_image.specs.Inside.{KeepsFor, KeepsAll}
use Rattle.gs_store_image.specs.Reading.{rises_from, rises}
use Rattle.gs_store_image.specs.StoreReading.{kept_at, store_at}
use Rattle.gs_store_image.proofs.Belonging.{second_so, both_so}
use Rattle.gs_store_image.proofs.Keeping.{decides_slot_of}
use Rattle.gs_store_image.proofs.Tables.{sorted_rising}

abbrev Entries : Type 0
Entries = List (ℕ × Slot)

-- ---- a handle of slots that rise isn't among those behind it

head_of : (a b : Bool) → T (a && b) → T a
head_of true b h = tt
head_of false b h = absurd h

tail_of : (a b : Bool) → T (a && b) → T b
tail_of true b h = h
tail_of false b h = absurd h

not_tied : (r : Ordering) → T (is_lt r) → is_eq r ≡ false
not_tied Less h = refl
not_tied Equal h = absurd h
not_tied Greater h = absurd h

below_none : (x : ℕ) (es : Entries) → T (below_all nat_cmp x es) → fin.find nat_cmp x es ≡ None
below_none x [] h = refl
below_none x (e ∷ es) h =
    ap (λ b. cond b (Some e.1) (fin.find nat_cmp x es)) (not_tied (nat_cmp x e.0) (head_of (is_lt (nat_cmp x e.0)) (below_all nat_cmp x es) h))
    ∙ below_none x es (tail_of (is_lt (nat_cmp x e.0)) (below_all nat_cmp x es) h)

rest_rises : (k : ℕ) (es : Entries) → rises_from k es ≡ true → rises es ≡ true
rest_rises k [] h = refl
rest_rises k (e ∷ es) h = second_so (ltb k e.0) (rises_from e.0 es) h

end_rises : (front es : Entries) → rises (front ++ es) ≡ true → rises es ≡ true
end_rises [] es h = h
end_rises (e ∷ front) es h = end_rises front es (rest_rises e.0 (front ++ es) h)

none_behind : (front : Entries) (e : ℕ × Slot) (rest : Entries) → rises (front ++ e ∷ rest) ≡ true → fin.get (fin.from_entries {R = nat_cmp} rest) e.0 ≡ None
none_behind front e rest h =
    let sorted : T (is_sorted nat_cmp (e ∷ rest)) = sorted_rising (e ∷ rest) (end_rises front (e ∷ rest) h) in
    fin.get-from_entries nat_cmp_total rest e.0 ∙ below_none e.0 rest (head_of (below_all nat_cmp e.0 rest) (is_sorted nat_cmp rest) sorted)

-- ---- what a loop keeps

-- those behind the ones that are left are kept, and nothing else
pub record Kept (all : Entries) (old : Store) (left : Entries) (now : Store) : Type 0 where
  pub behind : Entries
  pub split : left ++ behind ≡ all
  pub stands : now ≡ with_slots (fin.from_entries behind) old
  pub passed : are_slots_of old.block old.chunk behind ≡ true

pub keeps_none : (all : Entries) (old : Store) → old.slots ≡ fin.empty → Kept all old all old
keeps_none all old empty = record {
  behind = [];
  split = append-nil all;
  stands = λ i. record { block = old.block; chunk = old.chunk; epoch = old.epoch; slots = empty i; buffer = old.buffer };
  passed = refl;
}

abbrev one_more : Entries → ℕ × Slot → Entries → Entries
one_more left e behind = left ++ e ∷ behind

joined : (left : Entries) (e : ℕ × Slot) (behind : Entries) → (left ++ e ∷ []) ++ behind ≡ one_more left e behind
joined left e behind = append_assoc left (e ∷ []) behind

pub keeps_one : (all : Entries) (old : Store) (before left : Entries) (e : ℕ × Slot) (now new : Store) → before ≡ left ++ e ∷ [] → Kept all old before now → new ≡ with_slot e.0 e.1 now → CanKeep e.0 e.1 now → Kept all old left new
keeps_one all old before left e now new taken k put can = record {
  behind = e ∷ k.behind;
  split = sym (joined left e k.behind) ∙ ap (λ (z : Entries). z ++ k.behind) (sym taken) ∙ k.split;
  stands = put ∙ ap (λ (s : Store). with_slot e.0 e.1 s) k.stands;
  passed = both_so (is_slot_of old.block old.chunk e.1) (are_slots_of old.block old.chunk k.behind)
      ((decides_slot_of old.block old.chunk e.1).1 (subst (λ (s : Store). IsSlotOf s.block s.chunk e.1) k.stands can.1)) k.passed;
}

not_of : (block chunk : ℕ) (s : Slot) (b : Bool) → is_slot_of block chunk s ≡ b → ¬ (IsSlotOf block chunk s) → is_slot_of block chunk s ≡ false
not_of block chunk s true e n = absurd (n ((decides_slot_of block chunk s).0 e))
not_of block chunk s false e n = e

none_passes : (block chunk : ℕ) (front : Entries) (e : ℕ × Slot) (behind : Entries) → is_slot_of block chunk e.1 ≡ false → are_slots_of block chunk (one_more front e behind) ≡ false
none_passes block chunk [] e behind h = ap (λ b. b && are_slots_of block chunk behind) h
none_passes block chunk (f ∷ front) e behind h = by (is_slot_of block chunk f.1) (none_passes block chunk front e behind h)
  where
    by : (b : Bool) → are_slots_of block chunk (one_more front e behind) ≡ false → (b && are_slots_of block chunk (one_more front e behind)) ≡ false
    by true h = h
    by false h = refl

whole_is : (all : Entries) (old : Store) (before left : Entries) (e : ℕ × Slot) (now : Store) → before ≡ left ++ e ∷ [] → (k : Kept all old before now) → one_more left e k.behind ≡ all
whole_is all old before left e now taken k = sym (joined left e k.behind) ∙ ap (λ (z : Entries). z ++ k.behind) (sym taken) ∙ k.split

-- one that isn't kept isn't of the store's sizes, since its handle is none of those behind it
pub keeps_not : (all : Entries) (old : Store) (before left : Entries) (e : ℕ × Slot) (now new : Store) (f : Fault) → before ≡ left ++ e ∷ [] → rises all ≡ true → Kept all old before now → KeepsFor {B = Unit {0}} (CanKeep e.0 e.1 now) (Err f)
    → KeepsAll {B = Unit {0}} all old new (Err f)
keeps_not all old before left e now new faults.Memory taken rise k cannot = tt
keeps_not all old before left e now new faults.Form taken rise k cannot =
    let whole = whole_is all old before left e now taken k in
    let none : fin.get now.slots e.0 ≡ None =
    ap (λ (s : Store). fin.get s.slots e.0) k.stands ∙ none_behind left e k.behind (ap (λ (z : Entries). rises z) whole ∙ rise) in
    let differs : ¬ (IsSlotOf old.block old.chunk e.1) = λ of. cannot (none, subst (λ (s : Store). IsSlotOf s.block s.chunk e.1) (sym k.stands) of) in
    ap (are_slots_of old.block old.chunk) (sym whole) ∙ none_passes old.block old.chunk left e k.behind (not_of old.block old.chunk e.1 (is_slot_of old.block old.chunk e.1) refl differs)

pub keeps_all : (all : Entries) (old now : Store) (left : Entries) → left ≡ [] → Kept all old left now → (now ≡ with_slots (fin.from_entries all) old) × (are_slots_of old.block old.chunk all ≡ true)
keeps_all all old now left none k =
    let whole : k.behind ≡ all = ap (λ (z : Entries). z ++ k.behind) (sym none) ∙ k.split in
    (k.stands ∙ ap (λ (z : Entries). with_slots (fin.from_entries z) old) whole, ap (are_slots_of old.block old.chunk) (sym whole) ∙ k.passed)

-- ---- a store that was read

pub store_read : (block chunk epoch : ℕ) (bytes mid rest : List ℕ) (es : Entries) (now : Store) → number_at w64 bytes ≡ Some (epoch, mid) → long_list_at (kept_at block chunk) mid ≡ Some (es, rest) → rises es ≡ true
    → KeepsAll {B = Unit {0}} es (at_epoch block chunk epoch) now (Ok tt) → store_at block chunk bytes ≡ Some (now, rest)
unfolding store_at
store_read block chunk epoch bytes mid rest es now first second rise k =
    rw first (rw second (rw (both_so (rises es) (are_slots_of block chunk es) rise k.1) (ap (λ (s : Store). Some (s, rest)) (sym k.0))))

pub not_rising : (block chunk epoch : ℕ) (bytes mid rest : List ℕ) (es : Entries) → number_at w64 bytes ≡ Some (epoch, mid) → long_list_at (kept_at block chunk) mid ≡ Some (es, rest) → rises es ≡ false → store_at block chunk bytes ≡ None
unfolding store_at
not_rising block chunk epoch bytes mid rest es first second fall = rw first (rw second (rw fall refl))

pub not_kept : (block chunk epoch : ℕ) (bytes mid rest : List ℕ) (es : Entries) (now : Store) (f : Fault) → number_at w64 bytes ≡ Some (epoch, mid) → long_list_at (kept_at block chunk) mid ≡ Some (es, rest) → rises es ≡ true
    → KeepsAll {B = Unit {0}} es (at_epoch block chunk epoch) now (Err f) → Fails f (store_at block chunk bytes)
unfolding store_at
not_kept block chunk epoch bytes mid rest es now faults.Memory first second rise k = tt
not_kept block chunk epoch bytes mid rest es now faults.Form first second rise k = rw first (rw second (rw rise (rw k refl)))

pub keeps_none_of : (all : Entries) (old : Store) (before left : Entries) (handle : ℕ) (slot : Slot) (now new : Store) (f : Fault) → before ≡ left ++ (handle, slot) ∷ [] → rises all ≡ true → Kept all old before now
    → (h : ℕ) (s : Slot) → KeepsFor {B = Unit {0}} (CanKeep h s now) (Err f) → h ≡ handle → s ≡ slot → KeepsAll {B = Unit {0}} all old new (Err f)
keeps_none_of all old before left handle slot now new f taken rise k h s cannot same same_slot =
    keeps_not all old before left (handle, slot) now new f taken rise k
    (subst (λ (t : Slot). KeepsFor {B = Unit {0}} (CanKeep handle t now) (Err f)) same_slot (subst (λ (g : ℕ). KeepsFor {B = Unit {0}} (CanKeep g s now) (Err f)) same cannot))
