-- That what an event has touched stands there again once it is put back.
use Rattle.std.proofs.Common.{◌≡◌, ℕ, Bool, true, false, cond, List, [], ◌∷◌, ◌++◌, Option, Some, None, refl, sym, ap, subst, ◌∙◌}
use Rattle.std.proofs.lemmas.Bool.{false≢true}
use Rattle.std.specs.Prelude.{is_some}
use Rattle.std.specs.declared.cmp.Ordering.{Ordering}
use Rattle.std.specs.declared.cmp.Ordering.TheVariants.{Less, Equal, Greater}
use Rattle.std.specs.Ordering.{eq_by_cmp, is_eq, nat_cmp}
use Rattle.std.specs.Cmp.{IsTotalOrder, nat_cmp_total, on_total}
use Rattle.std.specs.FinMap as fin
use Rattle.gs_base.specs.declared.numbers.ClientId.{ClientId}
use Rattle.gs_lock.specs.declared.lock.Lock.{Lock}
use Rattle.gs_base_table.specs.Slots.{KeepsRoom, set_live}
use Rattle.gs_master_state.specs.inner.Memories.{KeepsRooms, volatile_of}
use Rattle.gs_master_spec.specs.Replies.{client_cmp}
use Rattle.gs_master_spec.specs.declared.asking.Asking.{Asking}
use Rattle.gs_master_state.specs.inner.Tracked.{NowAndBefore, tracked_of, HasRoomBack, HaveRoomBack, all_rooms_before, rooms_before, slot_back, slots_back, calls_back}
use Rattle.gs_master_spec.specs.Volatile.{Volatile}
use Rattle.gs_master_state.specs.declared.memory.Memory.{Memory}
use Rattle.gs_master_spec.specs.declared.pending.Pending.{Pending}
use Rattle.gs_master_state.specs.declared.tracked.Calls.{Calls}
use Rattle.gs_master_state.specs.declared.tracked.Slot.{Slot}
use Rattle.gs_master_state.specs.declared.tracked.Slot.TheVariants as slots

-- ---- one place of a map

is_equal : (r : Ordering) → is_eq r ≡ true → r ≡ Equal
is_equal Less h = absurd (false≢true h)
is_equal Equal h = refl
is_equal Greater h = absurd (false≢true h)

module _ {K X : Type 0} {R : K → K → Ordering} (o : IsTotalOrder R) (a : fin.IsAntisymmetric R) where
  get_set : (m : fin.FinMap R X) (k : K) (old : Option X) (q : K) → fin.get (set_live k old m) q ≡ cond (eq_by_cmp R q k) old (fin.get m q)
  get_set m k None q = fin.get-remove o m k q
  get_set m k (Some x) q = fin.get-insert o m k x q

  at_key : (m n : fin.FinMap R X) (k q : K) (b : Bool) → eq_by_cmp R q k ≡ b → (b ≡ false → fin.get n q ≡ fin.get m q) → cond b (fin.get m k) (fin.get n q) ≡ fin.get m q
  at_key m n k q true is off = fin.get_tied o m q k (is_equal (R q k) is)
  at_key m n k q false is off = off refl

  -- where two maps agree but at a key, what one has there makes it of the other
  pub put_there : (m n : fin.FinMap R X) (k : K) → ((q : K) → eq_by_cmp R q k ≡ false → fin.get n q ≡ fin.get m q) → set_live k (fin.get m k) n ≡ m
  put_there m n k off = fin.same_map o a _ _ (λ q. get_set n k (fin.get m k) q ∙ at_key m n k q (eq_by_cmp R q k) refl (off q))

  off_removed : (m : fin.FinMap R X) (k q : K) → eq_by_cmp R q k ≡ false → fin.get (fin.remove m k) q ≡ fin.get m q
  off_removed m k q is = fin.get-remove o m k q ∙ ap (λ b. cond b None (fin.get m q)) is

  off_inserted : (m : fin.FinMap R X) (k : K) (x : X) (q : K) → eq_by_cmp R q k ≡ false → fin.get (fin.insert m k x) q ≡ fin.get m q
  off_inserted m k x q is = fin.get-insert o m k x q ∙ ap (λ b. cond b (Some x) (fin.get m q)) is

  pub back_removed : (m : fin.FinMap R X) (k : K) → set_live k (fin.get m k) (fin.remove m k) ≡ m
  back_removed m k = put_there m (fin.remove m k) k (off_removed m k)

  pub back_inserted : (m : fin.FinMap R X) (k : K) (x : X) → set_live k (fin.get m k) (fin.insert m k x) ≡ m
  back_inserted m k x = put_there m (fin.insert m k x) k (off_inserted m k x)

pub client_total : IsTotalOrder client_cmp
client_total = on_total (λ (c : ClientId). c.0) nat_cmp_total

-- ---- one place more

pub back_push : (v : Volatile) (touched : List Slot) (slot : Slot) → slots_back v (touched ++ slot ∷ []) ≡ slots_back (slot_back v slot) touched
back_push v [] slot = refl
back_push v (one ∷ touched) slot = ap (λ w. slot_back w one) (back_push v touched slot)

-- what stood before stays where a place is touched and kept
pub before_push : (calls : Option Calls) (v next : Volatile) (touched : List Slot) (slot : Slot) → slot_back next slot ≡ v → calls_back calls (slots_back next (touched ++ slot ∷ [])) ≡ calls_back calls (slots_back v touched)
before_push calls v next touched slot back = ap (calls_back calls) (back_push next touched slot ∙ ap (λ w. slots_back w touched) back)

pub before_is : (calls : Option Calls) (v v3 : Volatile) (nb : NowAndBefore) (ss reserved items : List Slot) (slot : Slot) → calls_back calls (slots_back v ss) ≡ nb.before → reserved ≡ ss → items ≡ reserved ++ slot ∷ [] →
    slot_back v3 slot ≡ v → calls_back calls (slots_back v3 items) ≡ nb.before
before_is calls v v3 nb ss reserved items slot before same more back =
    ap (λ xs. calls_back calls (slots_back v3 xs)) (more ∙ ap (λ xs. xs ++ slot ∷ []) same) ∙ before_push calls v v3 ss slot back ∙ before

-- a map of what is in memory alone, at one key of which an event puts something, or takes out what stands
module _ {K X : Type 0} {R : K → K → Ordering} (o : IsTotalOrder R) (a : fin.IsAntisymmetric R) (of : Volatile → fin.FinMap R X) (with_map : Volatile → fin.FinMap R X → Volatile) where
  pub put_now : (v : Volatile) (nb : NowAndBefore) (l1 l2 : fin.FinMap R X) (k : K) (x : X) (v3 : Volatile) → v ≡ nb.now → l1 ≡ of v → l2 ≡ fin.insert l1 k x → v3 ≡ with_map v l2 →
      v3 ≡ with_map nb.now (fin.insert (of nb.now) k x)
  put_now v nb l1 l2 k x v3 view same put is =
      is ∙ ap (with_map v) (put ∙ ap (λ l. fin.insert l k x) same) ∙ ap (λ w. with_map w (fin.insert (of w) k x)) view

  pub put_before : (calls : Option Calls) (v v3 : Volatile) (nb : NowAndBefore) (ss reserved items : List Slot) (slot : Slot) (l1 l2 : fin.FinMap R X) (k : K) (x : X) (old : Option X) →
      ((l : fin.FinMap R X) → slot_back (with_map v l) slot ≡ with_map v (set_live k old l)) → with_map v (of v) ≡ v → calls_back calls (slots_back v ss) ≡ nb.before → reserved ≡ ss → items ≡ reserved ++ slot ∷ [] →
      l1 ≡ of v → l2 ≡ fin.insert l1 k x → v3 ≡ with_map v l2 → old ≡ fin.get l1 k → calls_back calls (slots_back v3 items) ≡ nb.before
  put_before calls v v3 nb ss reserved items slot l1 l2 k x old law whole before same more is_of put is was =
      before_is calls v v3 nb ss reserved items slot before same more
      (ap (λ w. slot_back w slot) (is ∙ ap (with_map v) (put ∙ ap (λ l. fin.insert l k x) is_of)) ∙ law (fin.insert (of v) k x)
      ∙ ap (λ y. with_map v (set_live k y (fin.insert (of v) k x))) (was ∙ ap (λ l. fin.get l k) is_of) ∙ ap (with_map v) (back_inserted o a (of v) k x) ∙ whole)

  pub take_before : (calls : Option Calls) (v v3 : Volatile) (nb : NowAndBefore) (ss reserved items : List Slot) (slot : Slot) (l1 l2 : fin.FinMap R X) (k : K) (old : Option X) →
      ((l : fin.FinMap R X) → slot_back (with_map v l) slot ≡ with_map v (set_live k old l)) → with_map v (of v) ≡ v → calls_back calls (slots_back v ss) ≡ nb.before → reserved ≡ ss → items ≡ reserved ++ slot ∷ [] →
      l1 ≡ of v → l2 ≡ fin.remove l1 k → v3 ≡ with_map v l2 → old ≡ fin.get l1 k → calls_back calls (slots_back v3 items) ≡ nb.before
  take_before calls v v3 nb ss reserved items slot l1 l2 k old law whole before same more is_of taken is was =
      before_is calls v v3 nb ss reserved items slot before same more
      (ap (λ w. slot_back w slot) (is ∙ ap (with_map v) (taken ∙ ap (λ l. fin.remove l k) is_of)) ∙ law (fin.remove (of v) k)
      ∙ ap (λ y. with_map v (set_live k y (fin.remove (of v) k))) (was ∙ ap (λ l. fin.get l k) is_of) ∙ ap (with_map v) (back_removed o a (of v) k) ∙ whole)

-- ---- the calls that waited

abbrev pub with_calls : Volatile → List Pending → List Lock → List ℕ → Volatile
with_calls v pending locks unplaced = record v { unplaced = unplaced; pending = pending; locks = locks }

slot_calls : (v : Volatile) (slot : Slot) (pending : List Pending) (locks : List Lock) (unplaced : List ℕ) → slot_back (with_calls v pending locks unplaced) slot ≡ with_calls (slot_back v slot) pending locks unplaced
slot_calls v (slots.Asked chunk asked) pending locks unplaced = refl
slot_calls v (slots.Replied client replied) pending locks unplaced = refl
slot_calls v (slots.Restored chunk restored) pending locks unplaced = refl
slot_calls v (slots.Preparing is_preparing) pending locks unplaced = refl
slot_calls v (slots.Rolled moving restored) pending locks unplaced = refl

slots_calls : (v : Volatile) (touched : List Slot) (pending : List Pending) (locks : List Lock) (unplaced : List ℕ) → slots_back (with_calls v pending locks unplaced) touched ≡ with_calls (slots_back v touched) pending locks unplaced
slots_calls v [] pending locks unplaced = refl
slots_calls v (slot ∷ touched) pending locks unplaced = ap (λ w. slot_back w slot) (slots_calls v touched pending locks unplaced) ∙ slot_calls (slots_back v touched) slot pending locks unplaced

-- once they are kept they may change
pub calls_kept : (calls : Option Calls) (v : Volatile) (touched : List Slot) (pending : List Pending) (locks : List Lock) (unplaced : List ℕ) → is_some calls ≡ true →
    calls_back calls (slots_back (with_calls v pending locks unplaced) touched) ≡ calls_back calls (slots_back v touched)
calls_kept None v touched pending locks unplaced some = absurd (false≢true some)
calls_kept (Some calls) v touched pending locks unplaced some = ap (calls_back (Some calls)) (slots_calls v touched pending locks unplaced)

-- and so they are kept
pub calls_keep : (calls : Calls) (v : Volatile) (touched : List Slot) → calls.pending.items ≡ v.pending → calls.locks ≡ v.locks → calls.unplaced.items ≡ v.unplaced →
    calls_back (Some calls) (slots_back v touched) ≡ slots_back v touched
calls_keep calls v touched pending locks unplaced =
    (λ i. with_calls (slots_back v touched) (pending i) (locks i) (unplaced i)) ∙ sym (slots_calls v touched v.pending v.locks v.unplaced)

pub changed_before : {asked : List ℕ} (m : Memory) (ss : List Slot) (calls : Option Calls) (kept : NowAndBefore) (v3 : Volatile) (pending : List Pending) (locks : List Lock) (unplaced : List ℕ) (before : Volatile) → tracked_of m ss calls asked ≡ kept →
    kept.keeps_calls ≡ true → kept.before ≡ before → v3 ≡ with_calls (volatile_of m) pending locks unplaced → calls_back calls (slots_back v3 ss) ≡ before
changed_before m ss calls kept v3 pending locks unplaced before view keeps same is =
    ap (λ v. calls_back calls (slots_back v ss)) is ∙ calls_kept calls (volatile_of m) ss pending locks unplaced (ap (λ (x : NowAndBefore). x.keeps_calls) view ∙ keeps)
    ∙ ap (λ (x : NowAndBefore). x.before) view ∙ same

-- what was asked and told is put back, and the chunks that were new are kept with the calls
pub rolled_before : {asked : List ℕ} (m : Memory) (ss reserved items : List Slot) (calls : Option Calls) (kept : NowAndBefore) (v3 : Volatile) (slot : Slot) (before : Volatile) → tracked_of m ss calls asked ≡ kept → kept.keeps_calls ≡ true → kept.before ≡ before →
    reserved ≡ ss → items ≡ reserved ++ slot ∷ [] → slot_back v3 slot ≡ record (volatile_of m) { unplaced = [] } → calls_back calls (slots_back v3 items) ≡ before
rolled_before m ss reserved items calls kept v3 slot before view keeps is same more back =
    ap (λ xs. calls_back calls (slots_back v3 xs)) (more ∙ ap (λ xs. xs ++ slot ∷ []) same) ∙ ap (calls_back calls) (back_push v3 ss slot)
    ∙ changed_before m ss calls kept (slot_back v3 slot) m.pending.items m.locks [] before view keeps is back

pub none_kept : (calls : Option Calls) (v : Volatile) → is_some calls ≡ false → calls_back calls v ≡ v
none_kept None v none = refl
none_kept (Some calls) v none = absurd (false≢true (sym none))

-- ---- room

pub room_stays : (a b : Memory) (slot : Slot) → KeepsRooms a b → HasRoomBack a slot → HasRoomBack b slot
room_stays a b (slots.Asked chunk asked) keeps room = keeps.moving.keeps chunk room
room_stays a b (slots.Replied client replied) keeps room = keeps.replies.keeps client room
room_stays a b (slots.Restored chunk restored) keeps room = keeps.restored.keeps chunk room
room_stays a b (slots.Preparing is_preparing) keeps room = tt
room_stays a b (slots.Rolled moving restored) keeps room = tt

same_slots : {L W : Type 0} {S : L → L → Ordering} (rooms : List (L × Option W)) → KeepsRoom S rooms rooms
same_slots rooms = record { keeps = λ key room. room }

keeps_before : (a b : Memory) (slot : Slot) → KeepsRooms a b → KeepsRooms (rooms_before slot a) (rooms_before slot b)
keeps_before a b (slots.Asked chunk asked) keeps = keeps
keeps_before a b (slots.Replied client replied) keeps = keeps
keeps_before a b (slots.Restored chunk restored) keeps = keeps
keeps_before a b (slots.Preparing is_preparing) keeps = keeps
keeps_before a b (slots.Rolled moving restored) keeps = record { moving = same_slots moving; restored = same_slots restored; replies = keeps.replies }

all_keep_before : (a b : Memory) (touched : List Slot) → KeepsRooms a b → KeepsRooms (all_rooms_before touched a) (all_rooms_before touched b)
all_keep_before a b [] keeps = keeps
all_keep_before a b (slot ∷ touched) keeps = keeps_before (all_rooms_before touched a) (all_rooms_before touched b) slot (all_keep_before a b touched keeps)

pub rooms_stay : (a b : Memory) (touched : List Slot) → KeepsRooms a b → HaveRoomBack a touched → HaveRoomBack b touched
rooms_stay a b [] keeps have = tt
rooms_stay a b (slot ∷ touched) keeps have =
    (room_stays (all_rooms_before touched a) (all_rooms_before touched b) slot (all_keep_before a b touched keeps) have.0, rooms_stay a b touched keeps have.1)

rooms_but_last : (m : Memory) (touched : List Slot) (slot : Slot) → all_rooms_before (touched ++ slot ∷ []) m ≡ all_rooms_before touched (rooms_before slot m)
rooms_but_last m [] slot = refl
rooms_but_last m (one ∷ touched) slot = ap (rooms_before one) (rooms_but_last m touched slot)

rooms_behind : (m : Memory) (touched : List Slot) (slot : Slot) → HaveRoomBack (rooms_before slot m) touched → HasRoomBack m slot → HaveRoomBack m (touched ++ slot ∷ [])
rooms_behind m [] slot have room = (room, tt)
rooms_behind m (one ∷ touched) slot have room =
    (subst (λ rooms. HasRoomBack rooms one) (sym (rooms_but_last m touched slot)) have.0, rooms_behind m touched slot have.1 room)

pub rooms_push : (a b : Memory) (touched : List Slot) (slot : Slot) → KeepsRooms a (rooms_before slot b) → HaveRoomBack a touched → HasRoomBack b slot → HaveRoomBack b (touched ++ slot ∷ [])
rooms_push a b touched slot keeps have room = rooms_behind b touched slot (rooms_stay a (rooms_before slot b) touched keeps have) room

pub rooms_pop : (m : Memory) (touched : List Slot) (slot : Slot) → HaveRoomBack m (touched ++ slot ∷ []) → HaveRoomBack (rooms_before slot m) touched × HasRoomBack m slot
rooms_pop m [] slot have = (tt, have.0)
rooms_pop m (one ∷ touched) slot have =
    let rest = rooms_pop m touched slot have.1 in ((subst (λ rooms. HasRoomBack rooms one) (rooms_but_last m touched slot) have.0, rest.0), rest.1)

pub rooms_pushed : (m n o : Memory) (ss reserved items : List Slot) (slot : Slot) → KeepsRooms m n → KeepsRooms n (rooms_before slot o) → HaveRoomBack m ss → HasRoomBack o slot → reserved ≡ ss → items ≡ reserved ++ slot ∷ [] → HaveRoomBack o items
rooms_pushed m n o ss reserved items slot first then have room same more =
    subst (HaveRoomBack o) (sym (more ∙ ap (λ xs. xs ++ slot ∷ []) same)) (rooms_push n o ss slot then (rooms_stay m n ss first have) room)

-- ---- all places

pub rooms_none : (m : Memory) → HaveRoomBack m []
rooms_none m = tt

-- the last place is put back, and the rest is left
pub one_back : (m n : Memory) (touched : List Slot) (slot : Slot) → KeepsRooms (rooms_before slot m) n → HaveRoomBack m (touched ++ slot ∷ []) → volatile_of n ≡ slot_back (volatile_of m) slot →
    HaveRoomBack n touched × (slots_back (volatile_of n) touched ≡ slots_back (volatile_of m) (touched ++ slot ∷ []))
one_back m n touched slot keeps have is =
    (rooms_stay (rooms_before slot m) n touched keeps (rooms_pop m touched slot have).0, ap (λ v. slots_back v touched) is ∙ sym (back_push (volatile_of m) touched slot))

-- where nothing is asked there is nothing to take out
pub not_asked : (v : Volatile) (chunk : ℕ) → is_some (fin.get v.moving chunk) ≡ false → v ≡ record v { moving = fin.remove v.moving chunk }
not_asked v chunk none = ap (λ m. record v { moving = m }) (fin.same_map nat_cmp_total fin.nat_cmp-IsAntisymmetric _ _ (λ q. at_asked q (eq_by_cmp nat_cmp q chunk) refl ∙ sym (fin.get-remove nat_cmp_total v.moving chunk q)))
  where
    nothing : (o : Option Asking) → is_some o ≡ false → o ≡ None
    nothing None is = refl
    nothing (Some asking) is = absurd (false≢true (sym is))

    at_asked : (q : ℕ) (b : Bool) → eq_by_cmp nat_cmp q chunk ≡ b → fin.get v.moving q ≡ cond b None (fin.get v.moving q)
    at_asked q true is = ap (fin.get v.moving) (fin.nat_cmp-IsAntisymmetric q chunk (is_equal (nat_cmp q chunk) is)) ∙ nothing (fin.get v.moving chunk) none
    at_asked q false is = refl
