-- The edit that a primary numbers, and what it answers.
use Rattle.std.specs.Prelude.{◌≡◌, ℕ, ◌+◌, ◌/◌, ◌==◌, ◌&&◌, nat_lt, cond, Bool, true, false, refl}
use Rattle.gs_replica.specs.declared.op.EditOutcome.{EditOutcome}
use Rattle.gs_replica.specs.declared.op.EditOutcome.TheVariants.{Written, Appended, Padded}
use Rattle.gs_msg.specs.declared.op.Op.{Op}
use Rattle.gs_msg.specs.declared.op.Op.TheVariants.{Write, Append, Pad}

-- what an edit answers where so many bytes are stored
abbrev pub outcome_at : ℕ → Op → EditOutcome
outcome_at stored (Write offset many) = Written
outcome_at stored (Append many) = Appended stored
outcome_at stored Pad = Padded

-- a record has at most a quarter of a chunk
abbrev pub is_too_long : ℕ → Op → Bool
is_too_long chunk (Write offset many) = false
is_too_long chunk (Append many) = nat_lt (chunk / 4) many
is_too_long chunk Pad = false

-- an append that doesn't fit is numbered as a pad
abbrev pub numbered_op : ℕ → ℕ → Op → Op
numbered_op chunk stored (Write offset many) = Write offset many
numbered_op chunk stored (Append many) = cond (nat_lt chunk (stored + many)) Pad (Append many)
numbered_op chunk stored Pad = Pad

-- and on a full chunk there is nothing to pad
abbrev pub is_passed : ℕ → ℕ → Op → Bool
is_passed chunk stored (Write offset many) = false
is_passed chunk stored (Append many) = (stored == chunk) && nat_lt chunk (stored + many)
is_passed chunk stored Pad = false

-- Worked: a chunk of 16 bytes.
longer_than_a_quarter : is_too_long 16 (Append 5) ≡ true
longer_than_a_quarter = refl

as_long_as_a_quarter : is_too_long 16 (Append 4) ≡ false
as_long_as_a_quarter = refl

that_fits : numbered_op 16 14 (Append 2) ≡ Append 2
that_fits = refl

that_does_not_fit : numbered_op 16 14 (Append 3) ≡ Pad
that_does_not_fit = refl

on_a_full_chunk : is_passed 16 16 (Append 1) ≡ true
on_a_full_chunk = refl

a_pad_on_a_full_chunk_is_an_edit : is_passed 16 16 Pad ≡ false
a_pad_on_a_full_chunk_is_an_edit = refl
