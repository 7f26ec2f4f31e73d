-- What copies carry, and what is made of them.
use Rattle.std.proofs.Common.{◌≡◌, ℕ, ◌≤◌, Bool, true, false, cond, List, length, Option, Some, None, refl, sym, ap, subst, ◌∙◌}
use Rattle.std.specs.Prelude.{Result, Ok, Err, is_some, nat_lt, ◌==◌}
use Rattle.gs_base.specs.declared.numbers.Stamp.{Stamp}
use Rattle.gs_base.specs.Stamps.{is_before}
use Rattle.gs_base.specs.declared.refusal.Refusal.{Refusal}
use Rattle.gs_base.specs.declared.refusal.Refusal.TheVariants as refusals
use Rattle.gs_block.specs.Stored.{Stored, count_of, digests_of}
use Rattle.gs_block.specs.Edits as blocks
use Rattle.gs_block.specs.Edits.{unless_damaged}
use Rattle.gs_replica.specs.Held.{Held}
use Rattle.gs_replica.specs.Edits as edits
use Rattle.gs_replica.specs.Seals.{Sealed, State, sealed_of, lowest_damaged}
use Rattle.gs_replica.specs.Copies.{Image, SealedImage, image, as_sealed, sealed_image_of, of_image, of_sealed, sealed_there, and_then}
use Rattle.gs_replica.specs.Stands.{Edit, StandsFor, IsToldFrom, IsTaken, StoodFor, SealToldFrom, replica_of}
use Rattle.gs_replica.proofs.Own.{own, own_told, alike_stands}
use Rattle.gs_replica.proofs.Listing.{seal_ok}
use Rattle.gs_replica.proofs.Keeping.{image_is, made_stands, copied_stands}
use Rattle.gs_replica.proofs.Carried.{sealed_sits, stood_there}
use Rattle.gs_replica.proofs.Stood.{Carried, carried_image}
use Rattle.gs_store.specs.Slots.{Live, Slot, seal_in, replaced, again}
use Rattle.gs_store.specs.Slots.{sealed_of as seal_in_slot}
use Rattle.gs_store.specs.Moves.{sound_image, unless_lost, live_in, source, carried_in, replicas_of, in_trash, copied_in, copy_in, copied_from, wanted_by}
use Rattle.gs_store.specs.Standing.{LiveStandsFor, LiveToldFrom, LiveUndamaged, image_in}
use Rattle.gs_store.proofs.Laws.{Holds}
use Rattle.gs_store.proofs.Standing.{unless_ok, same_ok}

-- one call behind another
pub record Then {A B : Type 0} (m : Result A Refusal) (f : A → Result B Refusal) (b : B) : Type 0 where
  pub first : A
  pub made : m ≡ Ok first
  pub then : f first ≡ Ok b

pub then_ok : {A B : Type 0} (m : Result A Refusal) (f : A → Result B Refusal) (b : B) → and_then m f ≡ Ok b → Then m f b
then_ok (Ok a) f b e = record { first = a; made = refl; then = e }
then_ok (Err g) f b e = absurd (cc)

pub of_then : {A : Type 0} (P : Slot → Type 0) (m : Result A Refusal) (k : A → Slot) → ((a : A) → m ≡ Ok a → P (k a)) → Holds P (and_then m (λ a. Ok (k a)))
of_then P (Ok a) k each = each a refl
of_then P (Err e) k each = tt

pub live_stands : (size limit : ℕ) (live : Option Live) (r : State) (xs : List Edit) → LiveStandsFor size limit live xs → live_in live ≡ Ok r → StandsFor size limit r.held xs
live_stands size limit None r xs stands e = elim stands [ ]
live_stands size limit (Some l) r xs stands e = subst (λ (q : State). StandsFor size limit q.held xs) (sym (same_ok l.replica r e)) stands

pub live_told : (size limit : ℕ) (live : Option Live) (r : State) (xs : List Edit) → LiveToldFrom size limit live xs → live_in live ≡ Ok r → IsToldFrom size limit r.held xs
live_told size limit None r xs told e = absurd (cc)
live_told size limit (Some l) r xs told e = subst (λ (q : State). IsToldFrom size limit q.held xs) (sym (same_ok l.replica r e)) told

pub image_stands : (size limit : ℕ) (r : State) (i : Image) (xs : List Edit) → StandsFor size limit r.held xs → IsToldFrom size limit r.held xs → image r ≡ Ok i → i ≡ replica_of limit xs
image_stands size limit r i xs stands told e = image_is r i xs (own size limit r.held xs stands) (own_told size limit r.held xs stands told) e ∙ ap (λ n. replica_of n xs) stands.chunk

-- a sealed image that goes along is one that is given
sound_case : (d : Option ℕ) (i t : SealedImage) → unless_lost d i ≡ Some t → unless_damaged d i ≡ Ok t
sound_case None i t e = ap (λ o. given o) e
  where
    given : Option SealedImage → Result SealedImage Refusal
    given None = Err refusals.BadLine
    given (Some x) = Ok x
sound_case (Some k) i t e = absurd (cc)

pub sound_given : (o : Option Sealed) (t : SealedImage) → sound_image o ≡ Some t → sealed_image_of o ≡ Ok t
sound_given None t e = absurd (cc)
sound_given (Some x) t e = sound_case (lowest_damaged x.undone) (as_sealed x) t e

pub sound_stands : (size limit : ℕ) (o : Option Sealed) (t : SealedImage) (xs : List Edit) → StoodFor size limit o xs → SealToldFrom size limit o xs → sound_image o ≡ Some t → Carried size limit o t xs
sound_stands size limit o t xs stood told e = carried_image size limit xs o t stood told (sound_given o t e)

-- the replicas that images become
pub record Made (block chunk : ℕ) (stamp : Stamp) (i : Image) (sealed : Option SealedImage) (p : State × Option State) : Type 0 where
  pub live : of_image block chunk stamp i ≡ Ok p.0
  pub trash : carried_in block chunk sealed ≡ Ok p.1

pub made_of : (block chunk : ℕ) (stamp : Stamp) (i : Image) (sealed : Option SealedImage) (p : State × Option State) → replicas_of block chunk stamp i sealed ≡ Ok p → Made block chunk stamp i sealed p
made_of block chunk stamp i sealed p e =
    let a = then_ok (of_image block chunk stamp i) (λ r. and_then {B = State × Option State} (carried_in block chunk sealed) (λ t. Ok (r, t))) p e in
    let b = then_ok (carried_in block chunk sealed) (λ t. Ok (a.first, t)) p a.then in
    let is = same_ok (a.first, b.first) p b.then in
    record {
      live = a.made ∙ ap (λ (q : State × Option State). (let m : Result State Refusal = Ok q.0 in m)) (sym is);
      trash = b.made ∙ ap (λ (q : State × Option State). (let m : Result (Option State) Refusal = Ok q.1 in m)) (sym is);
    }

pub of_copied : (P : Slot → Type 0) (block chunk : ℕ) (stamp : Stamp) (i : Image) (sealed : Option SealedImage) (s : Slot) → ((p : State × Option State) → Made block chunk stamp i sealed p → P (in_trash p.1 (replaced stamp (is_some sealed) p.0 s))) →
    Holds P (copied_in block chunk stamp i sealed s)
of_copied P block chunk stamp i sealed s each =
    of_then P (replicas_of block chunk stamp i sealed) (λ p. in_trash p.1 (replaced stamp (is_some sealed) p.0 s)) (λ p e. each p (made_of block chunk stamp i sealed p e))

pub of_above : (P : Slot → Type 0) (block chunk : ℕ) (stamp : Stamp) (i : Image) (sealed : Option SealedImage) (s : Slot) → is_before s.promise stamp ≡ true → Holds P (copied_in block chunk stamp i sealed s) → Holds P (copy_in block chunk stamp i sealed s)
of_above P block chunk stamp i sealed s above h = subst (λ b. Holds P (cond b (copied_in block chunk stamp i sealed s) (again stamp s))) (sym above) h

pub trash_leaves : {A : Type 0} (f : Stamp → Bool → Option Live → A) (o : Option State) (s : Slot) → f (in_trash o s).promise (in_trash o s).carried (in_trash o s).live ≡ f s.promise s.carried s.live
trash_leaves f None s = refl
trash_leaves f (Some t) s = refl

-- what stands without a seal leaves what is in the trash
unsealed_leaves : (r t : State) (stamp : Stamp) (carried : Bool) (s : Slot) → r.sealed ≡ None → seal_in_slot (in_trash (Some t) (replaced stamp carried r s)) ≡ t.sealed
unsealed_leaves r t stamp carried s is = ap (λ o. seal_in o (Some t)) is

there_case : (a b : Bool) (block chunk : ℕ) (i : SealedImage) (r : State) →
    (let s : Stored = record { block = block; chunk = chunk; bytes = i.image.bytes; digests = i.digests } in
    sealed_there (edits.held_of i.stamp i.image.count i.image.done (cond a (Err refusals.Range) (cond b (Ok s) (Err refusals.BadLine))))) ≡ Ok r → image_in r.sealed ≡ Some i
there_case true b block chunk i r e = absurd (cc)
there_case false true block chunk i r e =
    let h : Held = record { chunk = record { block = block; chunk = chunk; bytes = i.image.bytes; digests = i.digests }; count = i.image.count; done = i.image.done; promise = i.stamp } in
    ap (λ (q : State). image_in q.sealed) (same_ok (record { held = h; sealed = Some (sealed_of h) }) r e)
there_case false false block chunk i r e = absurd (cc)

pub carried_image_is : (block chunk : ℕ) (i : SealedImage) (r : State) → of_sealed block chunk i ≡ Ok r → image_in r.sealed ≡ Some i
carried_image_is block chunk i r e = there_case (nat_lt chunk (length i.image.bytes)) (length i.digests == count_of block (length i.image.bytes)) block chunk i r e

wanted_case : (b : Bool) (h0 h : Held) (m : Result Slot Refusal) → cond b (Ok (Some h0)) (and_then m (λ s. Ok None)) ≡ Ok (Some h) → (b ≡ true) × (h ≡ h0)
wanted_case true h0 h m e = (refl, ap (λ o. held_or o h0) (same_ok (Some h0) (Some h) e))
  where
    held_or : Option Held → Held → Held
    held_or (Some x) y = x
    held_or None y = y
wanted_case false h0 h (Ok s) e = absurd (cc)
wanted_case false h0 h (Err g) e = absurd (cc)

promise_case : (stamp : Stamp) (r h : Held) (m : Result Stored Refusal) → edits.held_of stamp r.count r.done m ≡ Ok h → h.promise ≡ stamp
promise_case stamp r h (Ok c) e = ap (λ (x : Held). x.promise) (same_ok _ h e)
promise_case stamp r h (Err g) e = absurd (cc)

pub record MadeFor (size limit : ℕ) (stamp : Stamp) (target : Slot) (h : Held) (xs : List Edit) : Type 0 where
  pub stands : StandsFor size limit h xs
  pub undamaged : lowest_damaged h.chunk ≡ None
  pub promise : h.promise ≡ stamp
  pub above : is_before target.promise stamp ≡ true

pub made_for : (size limit : ℕ) (at stamp : Stamp) (s target : Slot) (h : Held) (xs : List Edit) → LiveStandsFor size limit s.live xs → and_then (copied_from at stamp s) (wanted_by target) ≡ Ok (Some h) → MadeFor size limit stamp target h xs
made_for size limit at stamp s target h xs stands e =
    let a = then_ok (copied_from at stamp s) (wanted_by target) (Some h) e in
    let w = wanted_case (is_before target.promise a.first.promise) a.first h (again a.first.promise target) a.then in
    let b = then_ok (source at s) (λ (r : State). edits.copied stamp r.held) a.first a.made in
    let r = b.first.held in
    let there = live_stands size limit s.live b.first xs stands (unless_ok _ (live_in s.live) b.first b.made) in
    let c = copied_stands stamp r a.first xs (own size limit r xs there) b.then in
    let promise : a.first.promise ≡ stamp = promise_case stamp r a.first (blocks.copied r.chunk) b.then in
    subst (λ (x : Held). MadeFor size limit stamp target x xs) (sym w.1)
    (record {
      stands = alike_stands size limit r a.first xs xs there c.0 c.1;
      undamaged = c.2;
      promise = promise;
      above = subst (λ (p : Stamp). is_before target.promise p ≡ true) promise w.0;
    })

abbrev pub Arrives : ℕ → ℕ → List Edit → Option Live → Type 0
Arrives size limit xs live = LiveStandsFor size limit live xs × LiveUndamaged live

pub arrived : (block chunk : ℕ) (stamp : Stamp) (i : Image) (o : Option SealedImage) (s : Slot) (xs : List Edit) → 1 ≤ block → block ≤ 65536 → chunk ≤ 67108864 → IsTaken chunk xs → i ≡ replica_of chunk xs →
    Holds (λ x. Arrives block chunk xs x.live) (copied_in block chunk stamp i o s)
arrived block chunk stamp i o s xs some block_fits chunk_fits taken is =
    of_copied (λ x. Arrives block chunk xs x.live) block chunk stamp i o s
    (λ p m. subst (Arrives block chunk xs) (sym (trash_leaves (λ _ _ l. l) p.1 (replaced stamp (is_some o) p.0 s))) (made_stands block chunk stamp i p.0.held xs some block_fits chunk_fits taken is (seal_ok _ _ p.0 m.live).0))

abbrev pub ArrivesSealed : ℕ → ℕ → List Edit → SealedImage → Option Sealed → Type 0
ArrivesSealed size limit xs t o = StoodFor size limit o xs × (sound_image o ≡ Some t)

pub arrived_sealed : (block chunk : ℕ) (stamp : Stamp) (i : Image) (t : SealedImage) (s : Slot) (xs : List Edit) → 1 ≤ block → block ≤ 65536 → chunk ≤ 67108864 → IsTaken chunk xs → t.image ≡ replica_of chunk xs → t.digests ≡ digests_of block (replica_of chunk xs).bytes →
    Holds (λ x. ArrivesSealed block chunk xs t (seal_in_slot x)) (copied_in block chunk stamp i (Some t) s)
arrived_sealed block chunk stamp i t s xs some block_fits chunk_fits taken is digests =
    of_copied (λ x. ArrivesSealed block chunk xs t (seal_in_slot x)) block chunk stamp i (Some t) s
    (λ p m.
    let a = then_ok (of_sealed block chunk t) (λ q. Ok (Some q)) p.1 m.trash in
    let q = a.first in
    let b = sealed_sits block chunk t q xs some block_fits chunk_fits taken is digests a.made in
    let unsealed = (seal_ok _ _ p.0 m.live).1 in
    let there : seal_in_slot (in_trash (Some q) (replaced stamp true p.0 s)) ≡ Some (sealed_of q.held) = unsealed_leaves p.0 q stamp true s unsealed ∙ b.sealed in
    let image : sound_image (Some (sealed_of q.held)) ≡ Some t =
    ap (λ d. unless_lost d (as_sealed (sealed_of q.held))) b.undamaged ∙ ap image_in (sym b.sealed) ∙ carried_image_is block chunk t q a.made in
    subst (λ (o : Option State). ArrivesSealed block chunk xs t (seal_in_slot (in_trash o (replaced stamp true p.0 s)))) (sym (same_ok (Some q) p.1 a.then))
    (subst (ArrivesSealed block chunk xs t) (sym there) (stood_there block chunk q.held xs b.stands, image)))
