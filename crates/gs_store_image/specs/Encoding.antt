-- How a replica is written. Numbers have eight bytes, but that of a client, which has four.
use Rattle.std.specs.Prelude.{◌≡◌, ℕ, ◌+◌, cond, Bool, true, false, List, [], ◌∷◌, ◌++◌, length, Option, Some, None, refl}
use Rattle.std.specs.FinMap as fin
use Rattle.std.specs.Ordering.{nat_cmp}
use Rattle.byteorder.specs.Endian.{big_bytes}
use Rattle.gs_block.specs.Stored.{block_at}
use Rattle.gs_block.specs.Images.{Images}
use Rattle.gs_fields.specs.Encoding.{number, long_bytes, long_list, option, seen_option, stamp}
use Rattle.gs_replica.specs.declared.op.Done.{Done}
use Rattle.gs_replica.specs.declared.op.EditOutcome.{EditOutcome}
use Rattle.gs_replica.specs.declared.op.EditOutcome.TheVariants.{Written, Appended, Padded}
use Rattle.gs_replica.specs.declared.seal.Seal.{Seal}
use Rattle.gs_replica.specs.Copies.{SealedImage}
use Rattle.gs_replica.specs.First.{First}
use Rattle.gs_replica.specs.Parts.{stands_as}
use Rattle.gs_replica.specs.Seals.{Sealed, State}

-- a byte and an offset, which is 0 where there is none
abbrev pub outcome_fields : EditOutcome → ℕ × ℕ
outcome_fields Written = (0, 0)
outcome_fields (Appended offset) = (1, offset)
outcome_fields Padded = (2, 0)

-- the number of the request, and what it answered
abbrev pub done : Done → List ℕ
done d = number d.number ++ (((outcome_fields d.outcome).0 ∷ []) ++ number (outcome_fields d.outcome).1)

abbrev pub entry : ℕ × Done → List ℕ
entry e = big_bytes 4 e.0 ++ done e.1

-- each client's last request, the clients rising
abbrev pub table : fin.FinMap nat_cmp Done → List ℕ
table m = long_list entry (fin.entries m)

abbrev pub digests : List (List ℕ) → List ℕ
digests list = long_list (λ d. d) list

abbrev pub blocks : SealedImage → List ℕ
blocks i = long_bytes i.image.bytes ++ digests i.digests

abbrev pub told : SealedImage → List ℕ
told i = table i.image.done ++ blocks i

abbrev pub counted : SealedImage → List ℕ
counted i = number i.image.count ++ told i

-- promise, count, requests, bytes, digests
abbrev pub parts : SealedImage → List ℕ
parts i = stamp i.stamp ++ counted i

-- ---- what takes a replica back to where it was sealed

-- of each sealed block that an edit has touched since, from a block on, its bytes as sealed
abbrev pub first_images : ℕ → List ℕ → ℕ → List Bool → List (Option (List ℕ))
first_images size bytes k [] = []
first_images size bytes k (x ∷ xs) = cond x (Some (block_at size k bytes)) None ∷ first_images size bytes (k + 1) xs

-- the seal in memory, of what is seen of it
abbrev pub seal_of : Sealed → Seal
seal_of t = record {
  stamp = t.stamp;
  count = t.count;
  images = record { long = length t.undone.bytes; digests = t.undone.digests; blocks = first_images t.undone.block t.undone.bytes 0 t.touched };
  first = t.first;
}

abbrev pub seals_of : Option Sealed → Option Seal
seals_of sealed = seen_option seal_of sealed

-- the sealed length, the sealed digests, and the first images
abbrev pub images : Images → List ℕ
images i = number i.long ++ (digests i.digests ++ long_list (option long_bytes) i.blocks)

abbrev pub first_entry : ℕ × Option Done → List ℕ
first_entry e = big_bytes 4 e.0 ++ option done e.1

-- each changed client's request as it was sealed, the clients rising
abbrev pub first_entries : First → List ℕ
first_entries m = long_list first_entry (fin.entries m)

abbrev pub taken_back : Seal → List ℕ
taken_back s = images s.images ++ first_entries s.first

abbrev pub seal_counted : Seal → List ℕ
seal_counted s = number s.count ++ taken_back s

-- promise and count as sealed, images, first entries
abbrev pub seal : Seal → List ℕ
seal s = stamp s.stamp ++ seal_counted s

-- a replica as it stands, and its seal, where it is sealed
abbrev pub replica : State → List ℕ
replica r = parts (stands_as r.held) ++ option seal (seals_of r.sealed)

-- ---- examples

an_append_at_258 : done (record { number = 3; outcome = Appended 258 }) ≡ 0 ∷ 0 ∷ 0 ∷ 0 ∷ 0 ∷ 0 ∷ 0 ∷ 3 ∷ 1 ∷ 0 ∷ 0 ∷ 0 ∷ 0 ∷ 0 ∷ 0 ∷ 1 ∷ 2 ∷ []
an_append_at_258 = refl

the_second_block_is_touched : first_images 4 (1 ∷ 2 ∷ 3 ∷ 4 ∷ 5 ∷ 6 ∷ []) 0 (false ∷ true ∷ []) ≡ None ∷ Some (5 ∷ 6 ∷ []) ∷ []
the_second_block_is_touched = refl
