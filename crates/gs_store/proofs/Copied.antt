-- Copies from one handle to another.
use Rattle.std.proofs.Common.{◌≡◌, ℕ, Bool, true, false, cond, Option, Some, None, Ok, Err, length, refl, sym, ap, subst, ◌∙◌}
use Rattle.std.specs.Prelude.{Result, is_some, ◌&&◌, IfErr}
use Rattle.std.proofs.lemmas.Bool.{false≢true}
use Rattle.std.specs.FinMap as fin
use Rattle.std.specs.Ordering.{nat_cmp, eq_by_cmp}
use Rattle.std.specs.Cmp.{nat_cmp_total}
use Rattle.gs_base.specs.declared.numbers.Stamp.{Stamp}
use Rattle.gs_base.specs.Stamps.{is_before, is_same}
use Rattle.gs_base.specs.declared.refusal.Refusal.{Refusal}
use Rattle.gs_base.specs.declared.refusal.Refusal.TheVariants as refusals
use Rattle.gs_base.specs.Calls.{Answers, Does, Foretells, Makes}
use Rattle.gs_block.specs.Edits as blocks
use Rattle.gs_block.specs.Edits.{unless_damaged}
use Rattle.gs_block.specs.Stored.{Stored, first_damaged}
use Rattle.gs_replica.specs.Edits as edits
use Rattle.gs_replica.specs.Edits.{held_of}
use Rattle.gs_replica.specs.declared.op.Done.{Done}
use Rattle.gs_replica.specs.Held.{Held}
use Rattle.gs_replica.specs.Copies.{and_then}
use Rattle.gs_replica.specs.Seals.{State}
use Rattle.gs_store.specs.Slots.{Slot, nothing, first_stamp, again, replaced}
use Rattle.gs_store.specs.Moves as moves
use Rattle.gs_store.specs.Moves.{copied_from}
use Rattle.gs_store.specs.Stores.{Store, Performs, slot_of, with_slot, with_slots, put_slot, at_slot, make_copy}
use Rattle.gs_store.proofs.Places.{same_key}
use Rattle.gs_store.proofs.Changes.{known, unknown}

-- what stands at a handle is put there again
put_again : (s : Store) (handle : ℕ) (t : Slot) → fin.get s.slots handle ≡ Some t → s ≡ with_slot handle t s
put_again s handle t is = ap (λ m. with_slots m s) (fin.same_map nat_cmp_total fin.nat_cmp-IsAntisymmetric _ _ (λ q. at q (eq_by_cmp nat_cmp q handle) refl ∙ sym (fin.get-insert nat_cmp_total s.slots handle t q)))
  where
    at : (q : ℕ) (b : Bool) → eq_by_cmp nat_cmp q handle ≡ b → fin.get s.slots q ≡ cond b (Some t) (fin.get s.slots q)
    at q true tied = ap (fin.get s.slots) (same_key q handle tied) ∙ is
    at q false apart = refl

abbrev has_live : Result Slot Refusal → Bool
has_live (Ok t) = is_some t.live
has_live (Err e) = true

again_refused : (b : Bool) → has_live (cond (b && false) (Ok nothing) (Err refusals.Old)) ≡ true
again_refused true = refl
again_refused false = refl

taken_live : (h : Held) → has_live (moves.take_copy h nothing) ≡ true
taken_live h = by_case (is_before first_stamp h.promise)
  where
    by_case : (b : Bool) → has_live (cond b (Ok (replaced h.promise false (record { held = h; sealed = None }) nothing)) (again h.promise nothing)) ≡ true
    by_case true = refl
    by_case false = again_refused (is_same h.promise first_stamp)

copied_live : (m : Result Held Refusal) → has_live (and_then m (λ h. moves.take_copy h nothing)) ≡ true
copied_live (Ok h) = taken_live h
copied_live (Err e) = refl

module _ (at stamp : Stamp) (s : Store) (handle new_handle : ℕ) (source target : Slot) (is : source ≡ slot_of handle s) (are : target ≡ slot_of new_handle s) where
  -- a copy that was made already changes nothing
  pub made_already : moves.make_copy at stamp source target ≡ Ok target → Performs {B = Unit {0}} (make_copy handle at new_handle stamp s) (Ok tt) s s
  made_already found =
      let here : moves.make_copy at stamp (slot_of handle s) (slot_of new_handle s) ≡ Ok (slot_of new_handle s) = subst (λ x. moves.make_copy at stamp x (slot_of new_handle s) ≡ Ok (slot_of new_handle s)) is (subst (λ x. moves.make_copy at stamp source x ≡ Ok x) are found) in
      subst (λ m. Performs {B = Unit {0}} (put_slot new_handle s m) (Ok tt) s s) (sym here) (by_case (fin.get s.slots new_handle) refl here)
    where
      by_case : (o : Option Slot) → fin.get s.slots new_handle ≡ o → moves.make_copy at stamp (slot_of handle s) (slot_of new_handle s) ≡ Ok (slot_of new_handle s) → s ≡ with_slot new_handle (slot_of new_handle s) s
      by_case (Some t) there here = put_again s new_handle t there ∙ ap (λ x. with_slot new_handle x s) (sym (known s new_handle t there))
      by_case None none here =
          let nowhere : moves.make_copy at stamp (slot_of handle s) nothing ≡ Ok nothing = subst (λ x. moves.make_copy at stamp (slot_of handle s) x ≡ Ok x) (unknown s new_handle none) here in
          absurd (false≢true (sym (ap has_live nowhere) ∙ copied_live (copied_from at stamp (slot_of handle s))))

  -- one that was made beforehand is taken
  pub made_of : (h : Held) (A : Type 0) (r : Result A Refusal) (new : Store) → moves.make_copy at stamp source target ≡ moves.take_copy h target
      → Performs {B = A} (at_slot new_handle (moves.take_copy h) s) r s new → Performs {B = A} (make_copy handle at new_handle stamp s) r s new
  made_of h A r new found performs =
      let here : moves.make_copy at stamp (slot_of handle s) (slot_of new_handle s) ≡ moves.take_copy h (slot_of new_handle s) = subst (λ x. moves.make_copy at stamp x (slot_of new_handle s) ≡ moves.take_copy h (slot_of new_handle s)) is (subst (λ x. moves.make_copy at stamp source x ≡ moves.take_copy h x) are found) in
      subst (λ m. Performs {B = A} (put_slot new_handle s m) r s new) (sym here) performs

-- what a copy is foretold to be refused for is no want of memory
foretold : (stamp : Stamp) (count : ℕ) (done : fin.FinMap nat_cmp Done) (o : Option ℕ) (s : Stored) (f : Refusal) → Foretells {B = Unit {0}} (held_of stamp count done (unless_damaged o s)) (Err f) → f ≡ refusals.Memory → ⊥
foretold stamp count done None s f told is = elim told [ ]
foretold stamp count done (Some i) s f told is = absurd (cc)

pub never_lacks : (stamp : Stamp) (h : Held) (f : Refusal) → Foretells {B = Unit {0}} (edits.copied stamp h) (Err f) → f ≡ refusals.Memory → ⊥
never_lacks stamp h f told is = foretold stamp h.count h.done (first_damaged h.chunk.block h.chunk.bytes h.chunk.digests 0 (length h.chunk.digests)) h.chunk f told is

pub answered : {A B : Type 0} (view : B → A) (m : Result A Refusal) (b : B) → Answers view m (Ok b) → m ≡ Ok (view b)
answered view (Ok a) b is = ap (λ x. Ok x) (sym is)
answered view (Err e) b is = elim is [ ]

foretold_err : {A : Type 0} (m : Result A Refusal) (f : Refusal) → Foretells {B = Unit {0}} m (Err f) → m ≡ Err f
foretold_err (Ok a) f told = elim told [ ]
foretold_err (Err e) f told = ap (λ x. Err x) (sym told)

does_err : {A : Type 0} (m : Result A Refusal) (f : Refusal) (old new : A) → Does {B = Unit {0}} m (Err f) old new → m ≡ Err f
does_err (Ok a) f old new done = elim done [ ]
does_err (Err e) f old new done = ap (λ x. Err x) (sym done.0)

does_ok : {A : Type 0} (m : Result A Refusal) (old new : A) → Does {B = Unit {0}} m (Ok tt) old new → m ≡ Ok new
does_ok (Ok a) old new done = ap (λ x. Ok x) (sym done)
does_ok (Err e) old new done = elim done [ ]

pub never_old : (stamp : Stamp) (t : Slot) (f : Refusal) → Does {B = Unit {0}} (again stamp t) (Err f) t t → f ≡ refusals.Memory → ⊥
never_old stamp t f = by_case (is_same stamp t.promise && is_some t.live)
  where
    by_case : (b : Bool) → Does {B = Unit {0}} (cond b (Ok t) (Err refusals.Old)) (Err f) t t → f ≡ refusals.Memory → ⊥
    by_case true done is = elim done [ ]
    by_case false done is = absurd (cc (sym done.0 ∙ is))

-- a call for which the source was found
module _ (at stamp : Stamp) (s target : Slot) (r : State) (found : moves.source at s ≡ Ok r) where
  through : {A : Type 0} (g : Held → Result A Refusal) (m : Result Held Refusal) → edits.copied stamp r.held ≡ m → and_then (copied_from at stamp s) g ≡ and_then m g
  through g m is =
      ap (λ (x : Result State Refusal). and_then (and_then x (λ t. edits.copied stamp t.held)) g) found ∙ ap (λ (x : Result Held Refusal). and_then x g) is

  -- a block of the source fails
  pub unsound_for : (f : Refusal) → Foretells {B = Unit {0}} (edits.copied stamp r.held) (Err f) → moves.copy_for at stamp s target ≡ Err f
  unsound_for f told = through (moves.wanted_by target) (Err f) (foretold_err _ f told)

  pub unsound_copy : (f : Refusal) → Foretells {B = Unit {0}} (edits.copied stamp r.held) (Err f) → moves.make_copy at stamp s target ≡ Err f
  unsound_copy f told = through (λ h. moves.take_copy h target) (Err f) (foretold_err _ f told)

  -- the source is sound, and the target has promised the stamp already
  sound_then : {A : Type 0} (g : Held → Result A Refusal) (a : Result A Refusal) (m : Result Stored Refusal) → ((c : Stored) → g (record { chunk = c; count = r.held.count; done = r.held.done; promise = stamp }) ≡ a)
      → Foretells {B = Unit {0}} (held_of stamp r.held.count r.held.done m) (Ok tt) → and_then (held_of stamp r.held.count r.held.done m) g ≡ a
  sound_then g a (Ok c) each told = each c
  sound_then g a (Err e) each told = elim told [ ]

  module _ (told : Foretells {B = Unit {0}} (edits.copied stamp r.held) (Ok tt)) (late : is_before target.promise stamp ≡ false) where
    late_for : moves.copy_for at stamp s target ≡ and_then (again stamp target) (λ t. Ok None)
    late_for =
        through (moves.wanted_by target) _ refl
        ∙ sound_then (moves.wanted_by target) (and_then (again stamp target) (λ t. Ok None)) (blocks.copied r.held.chunk)
        (λ c. ap (λ (b : Bool). cond b (Ok (Some (record { chunk = c; count = r.held.count; done = r.held.done; promise = stamp }))) (and_then (again stamp target) (λ t. Ok None))) late) told

    late_copy : moves.make_copy at stamp s target ≡ again stamp target
    late_copy =
        through (λ h. moves.take_copy h target) _ refl
        ∙ sound_then (λ h. moves.take_copy h target) (again stamp target) (blocks.copied r.held.chunk)
        (λ c. ap (λ (b : Bool). cond b (Ok (replaced stamp false (record { held = record { chunk = c; count = r.held.count; done = r.held.done; promise = stamp }; sealed = None }) target)) (again stamp target)) late) told

    pub refused_for : (f : Refusal) → Does {B = Unit {0}} (again stamp target) (Err f) target target → moves.copy_for at stamp s target ≡ Err f
    refused_for f done = late_for ∙ ap (λ (m : Result Slot Refusal). and_then {B = Option Held} m (λ t. Ok None)) (does_err _ f target target done)

    pub refused_copy : (f : Refusal) → Does {B = Unit {0}} (again stamp target) (Err f) target target → moves.make_copy at stamp s target ≡ Err f
    refused_copy f done = late_copy ∙ does_err _ f target target done

    pub found_for : Does {B = Unit {0}} (again stamp target) (Ok tt) target target → moves.copy_for at stamp s target ≡ Ok None
    found_for done = late_for ∙ ap (λ (m : Result Slot Refusal). and_then {B = Option Held} m (λ t. Ok None)) (does_ok _ target target done)

    pub found_copy : Does {B = Unit {0}} (again stamp target) (Ok tt) target target → moves.make_copy at stamp s target ≡ Ok target
    found_copy done = late_copy ∙ does_ok _ target target done

pub makes_err : {A : Type 0} (m : Result A Refusal) (f : Refusal) → m ≡ Err f → Makes m (Err f)
makes_err {A = A} m f is = subst (λ (x : Result A Refusal). Makes x (Err f)) (sym is) refl

pub makes_ok : {A : Type 0} (m : Result A Refusal) (a : A) → m ≡ Ok a → Makes m (Ok a)
makes_ok {A = A} m a is = subst (λ (x : Result A Refusal). Makes x (Ok a)) (sym is) refl

-- where a copy is made, the target's promise is below its stamp
made_below : (at stamp : Stamp) (target : Slot) (h : Held) (m : Result Stored Refusal) (count : ℕ) (done : fin.FinMap nat_cmp Done) → and_then (held_of stamp count done m) (moves.wanted_by target) ≡ Ok (Some h) → is_before target.promise stamp ≡ true
made_below at stamp target h (Err e) count done is = absurd (cc)
made_below at stamp target h (Ok s) count done is = by_case (is_before target.promise stamp) refl is
  where
    no_copy : (m : Result Slot Refusal) → ◌≡◌ {A = Result (Option Held) Refusal} (and_then m (λ s. Ok None)) (Ok (Some h)) → ⊥
    no_copy (Ok t) none = absurd (cc)
    no_copy (Err e) none = absurd (cc)

    by_case : (b : Bool) → is_before target.promise stamp ≡ b → cond b (Ok (Some (record { chunk = s; count = count; done = done; promise = stamp }))) (and_then (again stamp target) (λ t. Ok None)) ≡ Ok (Some h) → b ≡ true
    by_case true here made = refl
    by_case false here made = absurd (no_copy (again stamp target) made)

copied_below : (at stamp : Stamp) (source target : Slot) (h : Held) → moves.copy_for at stamp source target ≡ Ok (Some h) → is_before target.promise stamp ≡ true
copied_below at stamp source target h is = of_source (moves.source at source) is
  where
    of_source : (m : Result State Refusal) → and_then (and_then m (λ r. edits.copied stamp r.held)) (moves.wanted_by target) ≡ Ok (Some h) → is_before target.promise stamp ≡ true
    of_source (Ok r) made = made_below at stamp target h (blocks.copied r.held.chunk) r.held.count r.held.done made
    of_source (Err e) made = absurd (cc)

made_is : {A : Type 0} (m : Result A Refusal) (a : A) → Makes m (Ok a) → m ≡ Ok a
made_is (Ok b) a is = ap (λ x. Ok x) (sym is)
made_is (Err e) a is = elim is [ ]

if_lacking : {A : Type 0} (P : Type 0) (r : Result A Refusal) → P → IfErr r (λ e. e ≡ refusals.Memory → P)
if_lacking P (Ok a) h = tt
if_lacking P (Err e) h = λ _. h

-- so memory is wanted for a new copy alone
pub wanted_for : {A : Type 0} (at stamp : Stamp) (s : Store) (new_handle : ℕ) (source target : Slot) (h : Held) (r : Result A Refusal) → target ≡ slot_of new_handle s → Makes (moves.copy_for at stamp source target) (Ok (Some h))
    → IfErr r (λ e. e ≡ refusals.Memory → is_before (slot_of new_handle s).promise stamp ≡ true)
wanted_for at stamp s new_handle source target h r are made =
    if_lacking _ r (subst (λ (t : Slot). is_before t.promise stamp ≡ true) are (copied_below at stamp source target h (made_is (moves.copy_for at stamp source target) (Some h) made)))
