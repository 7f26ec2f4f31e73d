-- What a copy carries of a replica, and the replica that is made of it.
use Rattle.std.specs.Prelude.{◌≡◌, ℕ, List, [], ◌∷◌, false, Option, Some, None, Result, Ok, Err, refl}
use Rattle.std.specs.Coded.{Coded, code_by, coded×, coded_ℕ, coded_list}
use Rattle.std.specs.FinMap as fin
use Rattle.std.specs.Ordering.{nat_cmp}
use Rattle.gs_base.specs.declared.numbers.Stamp.{Stamp}
use Rattle.gs_base.specs.contracts.numbers.Stamp as stamps
use Rattle.gs_base.specs.declared.refusal.Refusal.{Refusal}
use Rattle.gs_base.specs.declared.refusal.Refusal.TheVariants as refusals
use Rattle.gs_block.specs.Stored.{count_of}
use Rattle.gs_block.specs.Edits as blocks
use Rattle.gs_replica.specs.declared.op.Done.{Done}
use Rattle.gs_replica.specs.contracts.op.Done as dones
use Rattle.gs_replica.specs.Held.{Held}
use Rattle.gs_replica.specs.Edits.{fresh, held_of}
use Rattle.gs_replica.specs.Seals.{Sealed, State, with_seal, sealed_of, lowest_damaged}

-- its bytes, how many edits it has applied, and each client's last applied request
pub record Image : Type 0 where
  pub bytes : List ℕ
  pub count : ℕ
  pub done : fin.FinMap nat_cmp Done

-- an image as sealed, with the promise and the digests as sealed
pub record SealedImage : Type 0 where
  pub image : Image
  pub stamp : Stamp
  pub digests : List (List ℕ)

abbrev pub coded_image : Coded Image
coded_image =
    code_by (List ℕ × (ℕ × fin.FinMap nat_cmp Done)) (coded× (coded_list coded_ℕ) (coded× coded_ℕ (fin.code coded_ℕ dones.the_row.coded)))
    (λ i. (i.bytes, (i.count, i.done))) (λ p. record { bytes = p.0; count = p.1.0; done = p.1.1 }) (λ _. refl)

abbrev pub coded_sealed_image : Coded SealedImage
coded_sealed_image =
    code_by (Image × (Stamp × List (List ℕ))) (coded× coded_image (coded× stamps.the_row.coded (coded_list (coded_list coded_ℕ))))
    (λ i. (i.image, (i.stamp, i.digests))) (λ p. record { image = p.0; stamp = p.1.0; digests = p.1.1 }) (λ _. refl)

-- what stands, sealed or not, where each block has its digest: Damaged names the lowest that hasn't
abbrev pub image_of : Held → Image
image_of h = record { bytes = h.chunk.bytes; count = h.count; done = h.done }

abbrev pub image : State → Result Image Refusal
image r = blocks.unless_damaged (lowest_damaged r.held.chunk) (image_of r.held)

-- What undoing gives, with the promise and the digests as sealed. Damaged where a block of it hasn't its sealed digest, and
-- BadLine where the replica isn't sealed.
abbrev pub as_sealed : Sealed → SealedImage
as_sealed t = record { image = record { bytes = t.undone.bytes; count = t.count; done = t.done }; stamp = t.stamp; digests = t.undone.digests }

abbrev pub sealed_image_of : Option Sealed → Result SealedImage Refusal
sealed_image_of None = Err refusals.BadLine
sealed_image_of (Some t) = blocks.unless_damaged (lowest_damaged t.undone) (as_sealed t)

abbrev pub sealed_image : State → Result SealedImage Refusal
sealed_image r = sealed_image_of r.sealed

-- an unsealed replica of an image, its digests taken anew
abbrev pub of_image : ℕ → ℕ → Stamp → Image → Result State Refusal
of_image block chunk stamp i = with_seal None (held_of stamp i.count i.done (blocks.chunk_of block chunk i.bytes))

-- a replica that was sealed as it stands, and is not edited since
abbrev pub sealed_there : Result Held Refusal → Result State Refusal
sealed_there (Ok h) = Ok (record { held = h; sealed = Some (sealed_of h) })
sealed_there (Err e) = Err e

-- a replica that stands as a sealed image says, with its digests as carried, and is sealed there
abbrev pub of_sealed : ℕ → ℕ → SealedImage → Result State Refusal
of_sealed block chunk i = sealed_there (held_of i.stamp i.image.count i.image.done (blocks.carried block chunk i.image.bytes i.digests))

-- one call behind another, unless that is refused
abbrev pub and_then : {A B : Type 0} → Result A Refusal → (A → Result B Refusal) → Result B Refusal
and_then (Ok a) f = f a
and_then (Err e) f = Err e

-- the same replica under another promise
abbrev pub under : Stamp → Result State Refusal → Result State Refusal
under stamp (Ok r) = Ok (record { held = record { chunk = r.held.chunk; count = r.held.count; done = r.held.done; promise = stamp }; sealed = r.sealed })
under stamp (Err e) = Err e

-- a replica without edits, and one of 6 bytes in blocks of 4 that was sealed before its first edit
abbrev without_edits : Stamp → State
without_edits stamp = record { held = fresh 4 16 stamp; sealed = None }

abbrev six_bytes : List ℕ
six_bytes = 97 ∷ 98 ∷ 99 ∷ 100 ∷ 101 ∷ 102 ∷ []

abbrev held_six : Stamp → Held
held_six stamp = record { chunk = record { block = 4; chunk = 16; bytes = six_bytes; digests = [] ∷ [] ∷ [] }; count = 1; done = fin.empty; promise = stamp }

abbrev edited_since : Stamp → Stamp → State
edited_since sealed now = record { held = held_six now; sealed = Some (sealed_of (fresh 4 16 sealed)) }

abbrev six_sealed : Stamp → SealedImage
six_sealed stamp = record { image = record { bytes = six_bytes; count = 1; done = fin.empty }; stamp = stamp; digests = [] ∷ [] ∷ [] }

no_bytes_stand : (stamp : Stamp) → image (without_edits stamp) ≡ Ok (record { bytes = []; count = 0; done = fin.empty })
no_bytes_stand stamp = refl

an_unsealed_has_no_sealed_image : (stamp : Stamp) → sealed_image (without_edits stamp) ≡ Err refusals.BadLine
an_unsealed_has_no_sealed_image stamp = refl

-- what was sealed goes along, and not what stands
the_sealed_bytes_are_carried : (sealed now : Stamp) → sealed_image (edited_since sealed now) ≡ Ok (record { image = record { bytes = []; count = 0; done = fin.empty }; stamp = sealed; digests = [] })
the_sealed_bytes_are_carried sealed now = refl

sealed_where_it_stands : (stamp : Stamp) → of_sealed 4 16 (six_sealed stamp) ≡ Ok (record { held = held_six stamp; sealed = Some (record { undone = (held_six stamp).chunk; count = 1; done = fin.empty; stamp = stamp; touched = false ∷ false ∷ []; first = fin.empty }) })
unfolding count_of
sealed_where_it_stands stamp = refl

six_bytes_in_a_chunk_of_4 : (stamp : Stamp) → of_sealed 4 4 (six_sealed stamp) ≡ Err refusals.Range
six_bytes_in_a_chunk_of_4 stamp = refl

two_digests_of_six_blocks : (stamp : Stamp) → of_sealed 1 16 (six_sealed stamp) ≡ Err refusals.BadLine
unfolding count_of
two_digests_of_six_blocks stamp = refl
