-- Numbered edits of a replica.
use Rattle.std.specs.Prelude.{ℕ, ◌+◌, ◌==◌, Bool, cond, min, nat_le, List, length, Option, Some, None, Result, Ok, Err, false}
use Rattle.std.specs.FinMap as fin
use Rattle.std.specs.Ordering.{nat_cmp}
use Rattle.gs_base.specs.declared.numbers.Stamp.{Stamp}
use Rattle.gs_base.specs.declared.numbers.ReqId.{ReqId}
use Rattle.gs_base.specs.Stamps.{is_before, is_same}
use Rattle.gs_base.specs.declared.refusal.Refusal.{Refusal}
use Rattle.gs_base.specs.declared.refusal.Refusal.TheVariants as refusals
use Rattle.gs_block.specs.Stored.{Stored, empty}
use Rattle.gs_block.specs.Edits as blocks
use Rattle.gs_replica.specs.declared.op.Op.{Op}
use Rattle.gs_replica.specs.declared.op.Op.TheVariants.{Write, Append, Pad}
use Rattle.gs_replica.specs.declared.op.EditOutcome.{EditOutcome}
use Rattle.gs_replica.specs.declared.op.EditOutcome.TheVariants.{Written, Appended, Padded}
use Rattle.gs_replica.specs.declared.op.Done.{Done}
use Rattle.gs_replica.specs.Held.{Held}

-- a replica without edits
abbrev pub fresh : ℕ → ℕ → Stamp → Held
fresh block chunk stamp = record { chunk = empty block chunk; count = 0; done = fin.empty; promise = stamp }

-- Old below the promise
abbrev pub promise : Stamp → Held → Result Held Refusal
promise stamp r = cond (is_before stamp r.promise) (Err refusals.Old) (Ok (record { chunk = r.chunk; count = r.count; done = r.done; promise = stamp }))

-- the plain edit of the chunk
abbrev pub edited : Op → List ℕ → Stored → Result Stored Refusal
edited (Write offset) bytes s = blocks.write s offset bytes
edited Append bytes s = blocks.append s bytes
edited Pad bytes s = blocks.pad s

-- an edit touches the bytes between these two places
abbrev pub start_of : Op → Stored → ℕ
start_of (Write offset) s = min offset (length s.bytes)
start_of Append s = length s.bytes
start_of Pad s = length s.bytes

abbrev pub end_of : Op → List ℕ → Stored → ℕ
end_of (Write offset) bytes s = offset + length bytes
end_of Append bytes s = length s.bytes + length bytes
end_of Pad bytes s = s.chunk

abbrev pub outcome_of : Op → Stored → EditOutcome
outcome_of (Write offset) s = Written
outcome_of Append s = Appended (length s.bytes)
outcome_of Pad s = Padded

-- whether a request's number isn't above the client's last
abbrev pub is_old : ℕ → Option Done → Bool
is_old number None = false
is_old number (Some done) = nat_le number done.number

abbrev pub done_by : ℕ → Op → Stored → Done
done_by number op s = record { number = number; outcome = outcome_of op s }

abbrev pub with_edit : Held → ReqId → Op → Result Stored Refusal → Result Held Refusal
with_edit r req op (Ok s) = Ok (record { chunk = s; count = r.count + 1; done = fin.insert r.done req.client.0 (done_by req.number op r.chunk); promise = r.promise })
with_edit r req op (Err e) = Err e

-- An edit is taken under the promised stamp alone (Stamp), as the next number (Gap), and of a request above the client's
-- last (Old).
abbrev pub judged : Stamp → ℕ → ReqId → Held → Option Refusal
judged stamp number req r =
    cond (is_same stamp r.promise)
    (cond (number == (r.count + 1))
    (cond (is_old req.number (fin.get r.done req.client.0)) (Some refusals.Old) None)
    (Some (refusals.Gap r.count)))
    (Some (refusals.Stamp r.promise))

abbrev pub unless_refused : Option Refusal → Result Held Refusal → Result Held Refusal
unless_refused None edit = edit
unless_refused (Some e) edit = Err e

-- then the chunk decides (Range, Damaged)
abbrev pub apply : Stamp → ℕ → ReqId → Op → List ℕ → Held → Result Held Refusal
apply stamp number req op bytes r = unless_refused (judged stamp number req r) (with_edit r req op (edited op bytes r.chunk))

-- whether an edit has no bytes, or would end past the size of the chunk
abbrev pub is_outside : Op → List ℕ → Stored → Bool
is_outside (Write offset) bytes s = blocks.is_outside s offset bytes
is_outside Append bytes s = blocks.is_outside s (length s.bytes) bytes
is_outside Pad bytes s = false

-- the first refusal, or the one behind it
abbrev pub or_then : Option Refusal → Option Refusal → Option Refusal
or_then (Some e) behind = Some e
or_then None behind = behind

-- what is refused before any block is verified: by stamp, number and request, and Range
abbrev pub foreseen : Stamp → ℕ → ReqId → Op → List ℕ → Held → Option Refusal
foreseen stamp number req op bytes r = or_then (judged stamp number req r) (cond (is_outside op bytes r.chunk) (Some refusals.Range) None)

-- the same chunk otherwise, or the refusal
abbrev pub on_chunk : Held → Result Stored Refusal → Result Held Refusal
on_chunk r (Ok s) = Ok (record { chunk = s; count = r.count; done = r.done; promise = r.promise })
on_chunk r (Err e) = Err e

abbrev pub damage : ℕ → Held → Result Held Refusal
damage block r = on_chunk r (blocks.damage r.chunk block)

-- a replica of this chunk under a stamp, with this count and these requests
abbrev pub held_of : Stamp → ℕ → fin.FinMap nat_cmp Done → Result Stored Refusal → Result Held Refusal
held_of stamp count done (Ok s) = Ok (record { chunk = s; count = count; done = done; promise = stamp })
held_of stamp count done (Err e) = Err e

-- Damaged names the lowest block of the replica that is copied without its digest
abbrev pub copied : Stamp → Held → Result Held Refusal
copied stamp r = held_of stamp r.count r.done (blocks.copied r.chunk)
