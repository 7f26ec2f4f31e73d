-- Calls of one handle, where its slot stands in a list.
use Rattle.std.proofs.Common.{inl, ◌≡◌, ℕ, ◌<◌, Bool, true, false, cond, List, [], ◌∷◌, ◌++◌, get_or, slice_set, length, Option, Some, None, refl, sym, ap, subst, ◌∙◌}
use Rattle.std.specs.Prelude.{Result, Ok, Err, Vec, vec_len, not, is_ok, is_some, option_map, OnOk, OnErr, IfErr}
use Rattle.std.specs.declared.alloc.Global.{Global}
use Rattle.std.proofs.lemmas.List.{set-get_or, get_or_read_under}
use Rattle.std.specs.FinMap as fin
use Rattle.std.specs.Ordering.{nat_cmp}
use Rattle.gs_base.specs.declared.refusal.Refusal.{Refusal}
use Rattle.gs_base.specs.declared.refusal.Refusal.TheVariants as refusals
use Rattle.gs_base.specs.declared.refused.Refused.{Refused}
use Rattle.gs_base.specs.Calls.{Does, Follows, FollowsOf, Refuses}
use Rattle.gs_base.specs.declared.numbers.Stamp.{Stamp}
use Rattle.gs_base.specs.Stamps.{is_same}
use Rattle.gs_store.specs.Slots.{Slot, nothing, first_stamp, drop_replica, when, unless, first_of}
use Rattle.gs_store.specs.Buffers.{Pushes}
use Rattle.gs_store.specs.Stores.{Store, or_nothing, slot_of, at_slot, put_slot, set_slot, with_slot, with_slots, mark_bad, Performs}
use Rattle.gs_store.specs.inner.Placed.{slot_at, slots_at, IsPlaced}
use Rattle.gs_store.proofs.Maps.{get-each}
use Rattle.std.proofs.lemmas.Bool.{false≢true}
use Rattle.gs_store.specs.Slots as slots
use Rattle.gs_store.proofs.Places.{added, added_placed, stands, stands_not, written, within_reach}

abbrev pub seen : ℕ → ℕ → ℕ → fin.FinMap nat_cmp ℕ → List Slot → Pushes → Store
seen block chunk epoch places slots buffer = record { block = block; chunk = chunk; epoch = epoch; slots = slots_at places slots; buffer = buffer }

-- a handle that has a slot
pub known : (s : Store) (handle : ℕ) (t : Slot) → fin.get s.slots handle ≡ Some t → slot_of handle s ≡ t
known s handle t is = ap or_nothing is

pub unknown : (s : Store) (handle : ℕ) → fin.get s.slots handle ≡ None → slot_of handle s ≡ nothing
unknown s handle is = ap or_nothing is

module _ (block chunk epoch : ℕ) (places : fin.FinMap nat_cmp ℕ) (v : Vec Slot Global) (buffer : Pushes) (s : Store) (view : seen block chunk epoch places v.items buffer ≡ s) (placed : IsPlaced places v.items) (handle : ℕ) where
  -- a handle without a place has no slot
  pub absent : None ≡ fin.get places handle → fin.get s.slots handle ≡ None
  absent none = ap (λ x. fin.get x.slots handle) (sym view) ∙ stands_not places v.items handle (sym none)

  no_place : (o : Option ℕ) → option_map (slot_at v.items) o ≡ None → o ≡ None
  no_place None h = refl
  no_place (Some p) h = absurd (false≢true (sym (ap is_some h)))

  placeless : fin.get s.slots handle ≡ None → fin.get places handle ≡ None
  placeless none = no_place (fin.get places handle) (sym (get-each nat_cmp (slot_at v.items) places handle) ∙ ap (λ x. fin.get x.slots handle) view ∙ none)

  module _ (t : Slot) (given grown : fin.FinMap nat_cmp ℕ) (place : ℕ) (items : List Slot) (none : fin.get s.slots handle ≡ None) (put : grown ≡ fin.insert given handle place) (same : given ≡ places) (last : place ≡ length v.items) (pushed : items ≡ v.items ++ t ∷ []) where
    grown_by : grown ≡ fin.insert places handle (length v.items)
    grown_by = put ∙ ap (λ m. fin.insert m handle place) same ∙ ap (fin.insert places handle) last

    pub grown_placed : IsPlaced grown items
    grown_placed = subst (λ l. IsPlaced grown l) (sym pushed) (subst (λ m. IsPlaced m (v.items ++ t ∷ [])) (sym grown_by) (added_placed places v.items handle t placed))

    pub grown_is : seen block chunk epoch grown items buffer ≡ with_slot handle t s
    grown_is =
        ap (λ l. seen block chunk epoch grown l buffer) pushed ∙ ap (λ m. seen block chunk epoch m (v.items ++ t ∷ []) buffer) grown_by
        ∙ ap (λ m. with_slots m (seen block chunk epoch places v.items buffer)) (added places v.items handle t placed) ∙ ap (with_slot handle t) view

  module _ (place : ℕ) (is : Some place ≡ fin.get places handle) (t : Slot) (read : t ≡ get_or v.items place t) where
    reach : place < vec_len v
    reach = within_reach v places handle place placed (sym is)

    found : t ≡ slot_at v.items place
    found = get_or_read_under v.items place (vec_len v) t nothing read reach v.ok.0

    abbrev pub after : Slot → Store
    after new = seen block chunk epoch places (slice_set v.items place new) buffer

    pub get_place : fin.get s.slots handle ≡ Some t
    get_place = ap (λ x. fin.get x.slots handle) (sym view) ∙ stands places v.items handle place (sym is) ∙ ap (λ x. Some x) (sym found)

    pub changed : (new : Slot) → after new ≡ with_slot handle new s
    changed new = ap (λ m. with_slots m (seen block chunk epoch places v.items buffer)) (written places v.items handle place new placed (sym is)) ∙ ap (with_slot handle new) view

    pub unchanged : (new : Slot) → new ≡ t → after new ≡ s
    unchanged new same = ap (λ l. seen block chunk epoch places l buffer) (ap (slice_set v.items place) (same ∙ found) ∙ set-get_or v.items place nothing) ∙ view

    pub marked_at : (block' : ℕ) (new : Slot) → new ≡ slots.mark_bad block' t → after new ≡ mark_bad handle block' s
    marked_at block' new is_marked = changed new ∙ ap (λ u. with_slot handle u s) is_marked ∙ sym (ap (λ o. set_slot handle s (option_map (slots.mark_bad block') o)) get_place)

    module _ (call : Slot → Result Slot Refusal) (A : Type 0) (r : Result A Refusal) (new : Slot) where
      pub does_at : Does {B = A} (call t) r t new → Does {B = A} (at_slot handle call s) r s (after new)
      does_at does = subst (λ u. Does {B = A} (put_slot handle s (call u)) r s (after new)) (sym (known s handle t get_place)) (by_case (call t) r does)
        where
          by_case : (m : Result Slot Refusal) (r : Result A Refusal) → Does {B = A} m r t new → Does {B = A} (put_slot handle s m) r s (after new)
          by_case (Ok u) (Ok b) h = changed new ∙ ap (λ x. with_slot handle x s) h
          by_case (Err e) (Ok b) h = h
          by_case (Ok u) (Err f) h = h
          by_case (Err e) (Err f) h = (h.0, unchanged new h.1)

      pub follows_at : Follows {B = A} (call t) r t new → Follows {B = A} (at_slot handle call s) r s (after new)
      follows_at does = subst (λ u. Follows {B = A} (put_slot handle s (call u)) r s (after new)) (sym (known s handle t get_place)) (by_case (call t) r does)
        where
          by_case : (m : Result Slot Refusal) (r : Result A Refusal) → Follows {B = A} m r t new → Follows {B = A} (put_slot handle s m) r s (after new)
          by_case (Ok u) (Ok b) h = changed new ∙ ap (λ x. with_slot handle x s) h
          by_case (Err e) (Ok b) h = h
          by_case (Ok u) (Err f) h = (h.0, unchanged new h.1)
          by_case (Err e) (Err f) h = (h.0, unchanged new h.1)

      pub follows_of_at : (G : Type 0) (given : G) (r' : Result A (Refused G)) → FollowsOf {B = A} given (call t) r' t new → FollowsOf {B = A} given (at_slot handle call s) r' s (after new)
      follows_of_at G given r' does = subst (λ u. FollowsOf {B = A} given (put_slot handle s (call u)) r' s (after new)) (sym (known s handle t get_place)) (by_case (call t) r' does)
        where
          by_case : (m : Result Slot Refusal) (r' : Result A (Refused G)) → FollowsOf {B = A} given m r' t new → FollowsOf {B = A} given (put_slot handle s m) r' s (after new)
          by_case (Ok u) (Ok b) h = changed new ∙ ap (λ x. with_slot handle x s) h
          by_case (Err e) (Ok b) h = h
          by_case (Ok u) (Err f) h = (h.0, h.1, unchanged new h.2)
          by_case (Err e) (Err f) h = (h.0, h.1, unchanged new h.2)

-- a call that the empty slot refuses
abbrev pub Fails : Result Slot Refusal → Type 0
Fails (Ok t) = ⊥
Fails (Err e) = Unit {0}

module _ (s : Store) (handle : ℕ) (call : Slot → Result Slot Refusal) (none : fin.get s.slots handle ≡ None) where
  pub absent_refused : (A : Type 0) (e : Refusal) → call nothing ≡ Err e → Does {B = A} (at_slot handle call s) (Err e) s s
  absent_refused A e is = subst (λ u. Does {B = A} (put_slot handle s (call u)) (Err e) s s) (sym (unknown s handle none)) (subst (λ m. Does {B = A} (put_slot handle s m) (Err e) s s) (sym is) (refl, refl))

  pub absent_does : (A : Type 0) (r : Result A Refusal) (new : Slot) → Fails (call nothing) → Does {B = A} (call nothing) r nothing new → Does {B = A} (at_slot handle call s) r s s
  absent_does A r new fails does = subst (λ u. Does {B = A} (put_slot handle s (call u)) r s s) (sym (unknown s handle none)) (by_case (call nothing) r fails does)
    where
      by_case : (m : Result Slot Refusal) (r : Result A Refusal) → Fails m → Does {B = A} m r nothing new → Does {B = A} (put_slot handle s m) r s s
      by_case (Ok u) r fails h = absurd fails
      by_case (Err e) (Ok b) fails h = h
      by_case (Err e) (Err f) fails h = (h.0, refl)

pub does_follows : (A B : Type 0) (m : Result B Refusal) (r : Result A Refusal) (old new : B) → Does {B = A} m r old new → Follows {B = A} m r old new
does_follows A B (Ok u) (Ok b) old new h = h
does_follows A B (Err e) (Ok b) old new h = h
does_follows A B (Ok u) (Err f) old new h = absurd h
does_follows A B (Err e) (Err f) old new h = (inl h.0, h.1)

pub does_performs : (A B : Type 0) (m : Result B Refusal) (r : Result A Refusal) (old new : B) → Does {B = A} m r old new → Performs {B = A} m r old new
does_performs A B (Ok u) (Ok b) old new h = h
does_performs A B (Err e) (Ok b) old new h = h
does_performs A B (Ok u) (Err f) old new h = absurd h
does_performs A B (Err e) (Err f) old new h = h

pub judged_at : (s : Store) (handle : ℕ) (judge : Slot → Option Refusal) (A : Type 0) (r : Result A Refusal) (t : Slot) → fin.get s.slots handle ≡ Some t → Refuses {B = A} (judge t) r → Refuses {B = A} (judge (slot_of handle s)) r
judged_at s handle judge A r t is h = subst (λ u. Refuses {B = A} (judge u) r) (sym (known s handle t is)) h

pub absent_judged : (s : Store) (handle : ℕ) (judge : Slot → Option Refusal) (A : Type 0) (e : Refusal) → fin.get s.slots handle ≡ None → judge nothing ≡ Some e → Refuses {B = A} (judge (slot_of handle s)) (Err e)
absent_judged s handle judge A e none is = subst (λ u. Refuses {B = A} (judge u) (Err e)) (sym (unknown s handle none)) (subst (λ o. Refuses {B = A} o (Err e)) (sym is) refl)

by_when : (b : Bool) (e f : Refusal) (m : Result Slot Refusal) → Fails (unless (first_of (when b e ∷ Some f ∷ [])) m)
by_when true e f m = tt
by_when false e f m = tt

pub nothing_drops : (promise : Stamp) → Fails (drop_replica promise nothing)
nothing_drops promise = by_when (not (is_same promise first_stamp)) _ _ _

module _ (s : Store) (handle : ℕ) (call : Slot → Result Slot Refusal) (none : fin.get s.slots handle ≡ None) where
  -- a new slot is refused what it asks
  pub new_refused : (A B : Type 0) (e : Refusal) (new : Slot) → Does {B = A} (call nothing) (Err e) nothing new → Performs {B = B} (at_slot handle call s) (Err e) s s
  new_refused A B e new does = subst (λ u. Performs {B = B} (put_slot handle s (call u)) (Err e) s s) (sym (unknown s handle none)) (by_case (call nothing) does)
    where
      by_case : (m : Result Slot Refusal) → Does {B = A} m (Err e) nothing new → Performs {B = B} (put_slot handle s m) (Err e) s s
      by_case (Ok u) h = absurd h
      by_case (Err f) h = (h.0, refl)

  -- or it is kept, where there is memory for it
  pub new_kept : (A B : Type 0) (a : A) (r : Result B Refusal) (t : Slot) (new : Store) → Does {B = A} (call nothing) (Ok a) nothing t
      → OnOk r (new ≡ with_slot handle t s) → OnErr r (new ≡ s) → IfErr r (λ e. e ≡ refusals.Memory) → Performs {B = B} (at_slot handle call s) r s new
  new_kept A B a r t new does ok err lack = subst (λ u. Performs {B = B} (put_slot handle s (call u)) r s new) (sym (unknown s handle none)) (by_case (call nothing) r does ok err lack)
    where
      by_case : (m : Result Slot Refusal) (r : Result B Refusal) → Does {B = A} m (Ok a) nothing t → OnOk r (new ≡ with_slot handle t s) → OnErr r (new ≡ s) → IfErr r (λ e. e ≡ refusals.Memory) → Performs {B = B} (put_slot handle s m) r s new
      by_case (Ok u) (Ok b) h ok err lack = ok ∙ ap (λ x. with_slot handle x s) h
      by_case (Ok u) (Err f) h ok err lack = (lack, err)
      by_case (Err f) r h ok err lack = absurd h

pub if_err : (A E : Type 0) (r : Result A E) (P : E → Type 0) → ((e : E) → P e) → IfErr r P
if_err A E (Ok a) P h = tt
if_err A E (Err e) P h = h e

module _ (s : Store) (handle : ℕ) (call : Slot → Result Slot Refusal) (none : fin.get s.slots handle ≡ None) (A G : Type 0) (given : G) where
  pub new_handed_back : (f : Refused G) (t : Slot) (new : Store) → FollowsOf {B = A} given (call nothing) (Err f) nothing t → new ≡ s → FollowsOf {B = A} given (at_slot handle call s) (Err f) s new
  new_handed_back f t new does same = subst (λ u. FollowsOf {B = A} given (put_slot handle s (call u)) (Err f) s new) (sym (unknown s handle none)) (by_case (call nothing) does)
    where
      by_case : (m : Result Slot Refusal) → FollowsOf {B = A} given m (Err f) nothing t → FollowsOf {B = A} given (put_slot handle s m) (Err f) s new
      by_case (Ok u) h = (h.0, h.1, same)
      by_case (Err e) h = (h.0, h.1, same)

  pub new_of : (a : A) (t : Slot) (new : Store) → FollowsOf {B = A} given (call nothing) (Ok a) nothing t → new ≡ with_slot handle t s → FollowsOf {B = A} given (at_slot handle call s) (Ok a) s new
  new_of a t new does is = subst (λ u. FollowsOf {B = A} given (put_slot handle s (call u)) (Ok a) s new) (sym (unknown s handle none)) (by_case (call nothing) does)
    where
      by_case : (m : Result Slot Refusal) → FollowsOf {B = A} given m (Ok a) nothing t → FollowsOf {B = A} given (put_slot handle s m) (Ok a) s new
      by_case (Ok u) h = is ∙ ap (λ x. with_slot handle x s) h
      by_case (Err e) h = absurd h

pub same_room : (block chunk epoch : ℕ) (p q : fin.FinMap nat_cmp ℕ) (l m : List Slot) (buffer : Pushes) (s : Store) → p ≡ q → l ≡ m → seen block chunk epoch q m buffer ≡ s → seen block chunk epoch p l buffer ≡ s
same_room block chunk epoch p q l m buffer s places items view = ap (λ x. seen block chunk epoch x l buffer) places ∙ ap (λ x. seen block chunk epoch q x buffer) items ∙ view

pub pushed_items : (A E : Type 0) (r : Result A E) (a : A) (new xs ys : List Slot) (t : Slot) → new ≡ cond (is_ok r) (xs ++ t ∷ []) xs → r ≡ Ok a → xs ≡ ys → new ≡ ys ++ t ∷ []
pushed_items A E r a new xs ys t items is same = items ∙ ap (λ x. cond (is_ok x) (xs ++ t ∷ []) xs) is ∙ ap (λ x. x ++ t ∷ []) same
