-- How a replica is read.
use Rattle.std.specs.Prelude.{◌≡◌, ℕ, ◌==◌, ◌&&◌, nat_lt, if◌then◌else◌, Bool, true, List, [], ◌∷◌, Option, Some, None, Result, Ok, Err, refl}
use Rattle.std.specs.FinMap as fin
use Rattle.std.specs.Ordering.{nat_cmp}
use Rattle.std.specs.Int.{w32, w64}
use Rattle.gs_base.specs.declared.numbers.Stamp.{Stamp}
use Rattle.gs_base.specs.declared.refusal.Refusal.{Refusal}
use Rattle.gs_block.specs.Images.{Images}
use Rattle.gs_fields.specs.Reading.{Reader, ◌>>=◌, both, made, byte_at, number_at, bytes_at, long_bytes_at, long_list_at, option_at, stamp_at}
use Rattle.gs_replica.specs.declared.op.Done.{Done}
use Rattle.gs_replica.specs.declared.op.EditOutcome.{EditOutcome}
use Rattle.gs_replica.specs.declared.op.EditOutcome.TheVariants.{Written, Appended, Padded}
use Rattle.gs_replica.specs.declared.seal.Seal.{Seal}
use Rattle.gs_replica.specs.Copies.{SealedImage}
use Rattle.gs_replica.specs.First.{First}
use Rattle.gs_replica.specs.Held.{Held}
use Rattle.gs_replica.specs.Parts.{stands_of}
use Rattle.gs_replica.specs.Seals.{State}
use Rattle.gs_replica.specs.View.{seen_in}
use Rattle.gs_store_image.specs.Belonging.{belongs_in}

abbrev pub Table : Type 0
Table = fin.FinMap nat_cmp Done

abbrev pub outcome_of : ℕ × ℕ → Option EditOutcome
outcome_of x =
    if x.0 == 0 then (if x.1 == 0 then Some Written else None) else if x.0 == 1 then Some (Appended x.1) else if x.0 == 2 then (if x.1 == 0 then Some Padded else None) else None

abbrev pub with_outcome : ℕ → EditOutcome → Option Done
with_outcome n outcome = Some (record { number = n; outcome = outcome })

abbrev pub done_of : ℕ × (ℕ × ℕ) → Option Done
done_of x = outcome_of x.1 >>= with_outcome x.0

unfoldable pub done_at : Reader Done
done_at = made done_of (both (number_at w64) (both byte_at (number_at w64)))

-- whether each key is below the next
abbrev pub rises_from : {V : Type 0} → ℕ → List (ℕ × V) → Bool
rises_from last [] = true
rises_from last (e ∷ es) = nat_lt last e.0 && rises_from e.0 es

abbrev pub rises : {V : Type 0} → List (ℕ × V) → Bool
rises [] = true
rises (e ∷ es) = rises_from e.0 es

abbrev pub table_of : {V : Type 0} → List (ℕ × V) → Option (fin.FinMap nat_cmp V)
table_of es = if rises es then Some (fin.from_entries es) else None

unfoldable pub table_at : Reader Table
table_at = made table_of (long_list_at (both (number_at w32) done_at))

unfoldable pub blocks_at : Reader (List ℕ × List (List ℕ))
blocks_at = both long_bytes_at (long_list_at (bytes_at 32))

abbrev pub Fields : Type 0
Fields = Stamp × (ℕ × (Table × (List ℕ × List (List ℕ))))

abbrev pub parts_of : Fields → Option SealedImage
parts_of x = Some (record { image = record { bytes = x.1.1.1.0; count = x.1.0; done = x.1.1.0 }; stamp = x.0; digests = x.1.1.1.1 })

unfoldable pub parts_at : Reader SealedImage
parts_at = made parts_of (both stamp_at (both (number_at w64) (both table_at blocks_at)))

-- ---- what takes a replica back to where it was sealed

abbrev pub images_of : ℕ × (List (List ℕ) × List (Option (List ℕ))) → Option Images
images_of x = Some (record { long = x.0; digests = x.1.0; blocks = x.1.1 })

unfoldable pub images_at : Reader Images
images_at = made images_of (both (number_at w64) (both (long_list_at (bytes_at 32)) (long_list_at (option_at long_bytes_at))))

unfoldable pub first_at : Reader First
first_at = made table_of (long_list_at (both (number_at w32) (option_at done_at)))

abbrev pub SealFields : Type 0
SealFields = Stamp × (ℕ × (Images × First))

abbrev pub seal_of_fields : SealFields → Option Seal
seal_of_fields x = Some (record { stamp = x.0; count = x.1.0; images = x.1.1.0; first = x.1.1.1 })

unfoldable pub seal_at : Reader Seal
seal_at = made seal_of_fields (both stamp_at (both (number_at w64) (both images_at first_at)))

-- what stands, with a seal that belongs to it
abbrev pub with_seal : Option Seal → Result Held Refusal → Option State
with_seal seal (Ok h) = if belongs_in h seal then Some (record { held = h; sealed = seen_in h seal }) else None
with_seal seal (Err e) = None

-- In a chunk of these sizes: no more bytes than it takes, and one digest for each block.
abbrev pub replica_of : ℕ → ℕ → SealedImage × Option Seal → Option State
replica_of block chunk x = with_seal x.1 (stands_of block chunk x.0)

unfoldable pub replica_at : ℕ → ℕ → Reader State
replica_at block chunk = made (replica_of block chunk) (both parts_at (option_at seal_at))

-- ---- examples

clients_rise : (d : Done) → rises ((1, d) ∷ (4, d) ∷ []) ≡ true
clients_rise d = refl

a_client_twice : (d : Done) → table_of {V = Done} ((4, d) ∷ (4, d) ∷ []) ≡ None
a_client_twice d = refl
