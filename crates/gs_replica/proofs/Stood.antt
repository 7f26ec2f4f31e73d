-- What a sealed replica stood for when it was sealed.
use Rattle.std.proofs.Common.{◌≡◌, ℕ, refl, ap, subst, List, ◌∙◌}
use Rattle.std.specs.Prelude.{Option, Some, None, Result, Ok, Err, Bool, true, false, cond}
use Rattle.gs_base.specs.declared.numbers.Stamp.{Stamp}
use Rattle.gs_base.specs.declared.refusal.Refusal.{Refusal}
use Rattle.gs_base.specs.declared.refusal.Refusal.TheVariants as refusals
use Rattle.gs_block.specs.Stored.{digests_of}
use Rattle.gs_block.specs.Edits.{unless_damaged}
use Rattle.gs_replica.specs.Held.{Held}
use Rattle.gs_replica.specs.Seals.{Sealed, State, on_seal, damage_seal, lowest_damaged, roll_back_to, stamp_of}
use Rattle.gs_replica.specs.Copies.{SealedImage, image_of, as_sealed, sealed_image_of}
use Rattle.gs_replica.specs.Stands.{Edit, StandsFor, IsToldFrom, replica_of, where_sealed, StoodFor, SealToldFrom}
use Rattle.gs_replica.proofs.Own.{own, own_told}
use Rattle.gs_replica.proofs.Keeping.{holds_list}
use Rattle.gs_block.proofs.Edited.{damage_written}
use Rattle.gs_replica.proofs.Sealing.{state_or}

pub on_stood : (size limit : ℕ) (xs : List Edit) (f : Sealed → Sealed) (o : Option Sealed) →
    ((t : Sealed) → StandsFor size limit (where_sealed t) xs → StandsFor size limit (where_sealed (f t)) xs) → StoodFor size limit o xs → StoodFor size limit (on_seal f o) xs
on_stood size limit xs f None all stood = stood
on_stood size limit xs f (Some t) all stood = all t stood

pub damage_stood : (size limit : ℕ) (xs : List Edit) (k : ℕ) (t : Sealed) → StandsFor size limit (where_sealed t) xs → StandsFor size limit (where_sealed (damage_seal k t)) xs
damage_stood size limit xs k t stood =
    let d = damage_written k t.touched t.undone (replica_of limit xs).bytes stood.bytes in
    record {
      block = d.block ∙ stood.block;
      chunk = d.chunk ∙ stood.chunk;
      taken = stood.taken;
      count = stood.count;
      done = stood.done;
      bytes = d.bytes;
    }

pub undo_ok : (t : Bool) (m : Result State Refusal) (r2 : State) → cond t m (Err refusals.BadLine) ≡ Ok r2 → m ≡ Ok r2
undo_ok true m r2 e = e
undo_ok false m r2 e = absurd (cc)

-- what a rollback leaves
pub record RolledBack (size limit : ℕ) (stamp : Stamp) (r2 : State) (xs : List Edit) : Type 0 where
  pub stands : StandsFor size limit r2.held xs
  pub undamaged : lowest_damaged r2.held.chunk ≡ None
  pub unsealed : r2.sealed ≡ None
  pub promise : r2.held.promise ≡ stamp

rolled_case : (size limit : ℕ) (xs : List Edit) (promise : Stamp) (t : Sealed) (d : Option ℕ) (r2 : State) → lowest_damaged t.undone ≡ d → StandsFor size limit (where_sealed t) xs →
    (let r : State = record { held = record { chunk = t.undone; count = t.count; done = t.done; promise = promise }; sealed = None } in unless_damaged d r) ≡ Ok r2 → RolledBack size limit promise r2 xs
unfolding state_or
rolled_case size limit xs promise t None r2 none stood e =
    let r : State = record { held = record { chunk = t.undone; count = t.count; done = t.done; promise = promise }; sealed = None } in
    subst (λ (q : State). RolledBack size limit promise q xs) (ap (λ m. state_or m r) e)
    (record {
      stands = record { block = stood.block; chunk = stood.chunk; taken = stood.taken; count = stood.count; done = stood.done; bytes = stood.bytes };
      undamaged = none;
      unsealed = refl;
      promise = refl;
    })
rolled_case size limit xs promise t (Some k) r2 none stood e = absurd (cc)

pub rolled_back : (size limit : ℕ) (xs : List Edit) (promise : Stamp) (o : Option Sealed) (r2 : State) → StoodFor size limit o xs → roll_back_to promise o ≡ Ok r2 → RolledBack size limit promise r2 xs
rolled_back size limit xs promise None r2 stood e = absurd stood
rolled_back size limit xs promise (Some t) r2 stood e = rolled_case size limit xs promise t (lowest_damaged t.undone) r2 refl stood e

-- what stands without a damaged block is what its list gives
pub holds : (size limit : ℕ) (h : Held) (xs : List Edit) → StandsFor size limit h xs → IsToldFrom size limit h xs → lowest_damaged h.chunk ≡ None → image_of h ≡ replica_of limit xs
holds size limit h xs stands told none = holds_list h xs (own size limit h xs stands) (own_told size limit h xs stands told) none ∙ ap (λ n. replica_of n xs) stands.chunk

sealed_or : Result SealedImage Refusal → SealedImage → SealedImage
sealed_or (Ok i) old = i
sealed_or (Err e) old = old

-- what a sealed image carries
pub record Carried (size limit : ℕ) (o : Option Sealed) (i : SealedImage) (xs : List Edit) : Type 0 where
  pub image : i.image ≡ replica_of limit xs
  pub digests : i.digests ≡ digests_of size (replica_of limit xs).bytes
  pub stamp : stamp_of o ≡ Some i.stamp

carried_case : (size limit : ℕ) (xs : List Edit) (t : Sealed) (d : Option ℕ) (i : SealedImage) → lowest_damaged t.undone ≡ d → StandsFor size limit (where_sealed t) xs → IsToldFrom size limit (where_sealed t) xs →
    unless_damaged d (as_sealed t) ≡ Ok i → Carried size limit (Some t) i xs
unfolding sealed_or
carried_case size limit xs t None i none stood told e =
    let w = stood.bytes in
    subst (λ (j : SealedImage). Carried size limit (Some t) j xs) (ap (λ m. sealed_or m i) e)
    (record {
      image = holds size limit (where_sealed t) xs stood told none;
      digests = w.digests ∙ ap (λ b. digests_of b (replica_of limit xs).bytes) stood.block;
      stamp = refl;
    })
carried_case size limit xs t (Some k) i none stood told e = absurd (cc)

pub carried_image : (size limit : ℕ) (xs : List Edit) (o : Option Sealed) (i : SealedImage) → StoodFor size limit o xs → SealToldFrom size limit o xs → sealed_image_of o ≡ Ok i → Carried size limit o i xs
carried_image size limit xs None i stood told e = absurd stood
carried_image size limit xs (Some t) i stood told e = carried_case size limit xs t (lowest_damaged t.undone) i refl stood told e
