-- What a replica stands for: a list of edits, taken one after the other from no bytes on.
use Rattle.std.specs.Prelude.{◌≡◌, ℕ, ◌+◌, ◌==◌, ◌&&◌, ◌||◌, not, Bool, true, false, nat_lt, List, [], ◌∷◌, ◌++◌, length, slice_index_or, Option, Some, None, refl}
use Rattle.std.specs.FinMap as fin
use Rattle.gs_base.specs.declared.numbers.ReqId.{ReqId}
use Rattle.gs_block.specs.Chunk.{written, appended, padded}
use Rattle.gs_block.specs.Stored.{block_at}
use Rattle.gs_block.specs.Written.{WasWritten, ToldApart}
use Rattle.gs_replica.specs.declared.op.Op.{Op}
use Rattle.gs_replica.specs.declared.op.Op.TheVariants.{Write, Append, Pad}
use Rattle.gs_replica.specs.declared.op.Done.{Done}
use Rattle.gs_replica.specs.declared.op.EditOutcome.{EditOutcome}
use Rattle.gs_replica.specs.declared.op.EditOutcome.TheVariants.{Written, Appended, Padded}
use Rattle.gs_replica.specs.Held.{Held}
use Rattle.gs_replica.specs.Edits.{is_old}
use Rattle.gs_replica.specs.Seals.{Sealed, State}
use Rattle.gs_replica.specs.Copies.{Image}

-- an edit of a client, as it stands in a list
pub record Edit : Type 0 where
  pub req : ReqId
  pub op : Op
  pub bytes : List ℕ

-- the plain edit of the bytes of a chunk of a size
abbrev pub edited_bytes : ℕ → Op → List ℕ → List ℕ → List ℕ
edited_bytes chunk (Write offset) piece bytes = written offset piece bytes
edited_bytes chunk Append piece bytes = appended piece bytes
edited_bytes chunk Pad piece bytes = padded chunk bytes

abbrev pub outcome_at : Op → ℕ → EditOutcome
outcome_at (Write offset) long = Written
outcome_at Append long = Appended long
outcome_at Pad long = Padded

-- an edit of bytes, count and requests, whatever a replica might refuse
abbrev pub with_edit : ℕ → Image → Edit → Image
with_edit chunk i e = record {
  bytes = edited_bytes chunk e.op e.bytes i.bytes;
  count = i.count + 1;
  done = fin.insert i.done e.req.client.0 (record { number = e.req.number; outcome = outcome_at e.op (length i.bytes) });
}

abbrev pub after : ℕ → Image → List Edit → Image
after chunk i [] = i
after chunk i (e ∷ edits) = after chunk (with_edit chunk i e) edits

abbrev pub no_edits : Image
no_edits = record { bytes = []; count = 0; done = fin.empty }

-- the bytes, the count and the requests that a list of edits gives
unfoldable pub replica_of : ℕ → List Edit → Image
replica_of chunk edits = after chunk no_edits edits

-- whether an edit of so many stored bytes has bytes of its own and ends within the chunk
abbrev pub is_in_range : ℕ → Op → List ℕ → ℕ → Bool
is_in_range chunk (Write offset) piece long = not ((length piece == 0) || nat_lt chunk (offset + length piece))
is_in_range chunk Append piece long = not ((length piece == 0) || nat_lt chunk (long + length piece))
is_in_range chunk Pad piece long = true

-- whether an edit is accepted: it is in range, and of a request above its client's last
abbrev pub is_taken : ℕ → Image → Edit → Bool
is_taken chunk i e = not (is_old e.req.number (fin.get i.done e.req.client.0)) && is_in_range chunk e.op e.bytes (length i.bytes)

-- each edit of a list is accepted in turn
abbrev pub IsTakenFrom : ℕ → Image → List Edit → Type 0
IsTakenFrom chunk i [] = Unit {0}
IsTakenFrom chunk i (e ∷ edits) = (is_taken chunk i e ≡ true) × IsTakenFrom chunk (with_edit chunk i e) edits

abbrev pub IsTaken : ℕ → List Edit → Type 0
IsTaken chunk edits = IsTakenFrom chunk no_edits edits

-- A replica in blocks of a size, of at most so many bytes, stands for a list of edits. Nothing is said of a block's bytes but
-- their digest: that they are those of the list where they match it is a law, under the premise that digests tell the two apart.
pub record StandsFor (size limit : ℕ) (r : Held) (edits : List Edit) : Type 0 where
  pub block : r.chunk.block ≡ size
  pub chunk : r.chunk.chunk ≡ limit
  pub taken : IsTaken limit edits
  pub count : r.count ≡ length edits
  pub done : r.done ≡ (replica_of limit edits).done
  pub bytes : WasWritten r.chunk (replica_of limit edits).bytes

-- of a replica and what a list gives
abbrev pub IsToldFrom : ℕ → ℕ → Held → List Edit → Type 0
IsToldFrom size limit r edits = ToldApart size r.chunk.bytes (replica_of limit edits).bytes

-- a block of a replica holds what a list gives of it
abbrev pub HoldsBlock : ℕ → ℕ → Held → List Edit → ℕ → Type 0
HoldsBlock size limit r edits k = block_at size k r.chunk.bytes ≡ block_at size k (replica_of limit edits).bytes

-- what undoing gives, as a replica under the promise as sealed
abbrev pub where_sealed : Sealed → Held
where_sealed t = record { chunk = t.undone; count = t.count; done = t.done; promise = t.stamp }

-- a sealed replica stood for a list of edits when it was sealed
abbrev pub StoodFor : ℕ → ℕ → Option Sealed → List Edit → Type 0
StoodFor size limit None edits = ⊥
StoodFor size limit (Some t) edits = StandsFor size limit (where_sealed t) edits

abbrev pub SealedAt : ℕ → ℕ → State → List Edit → Type 0
SealedAt size limit r edits = StoodFor size limit r.sealed edits

abbrev pub SealToldFrom : ℕ → ℕ → Option Sealed → List Edit → Type 0
SealToldFrom size limit None edits = Unit {0}
SealToldFrom size limit (Some t) edits = IsToldFrom size limit (where_sealed t) edits

-- an edit has touched a block since the seal, or it is not sealed
abbrev pub IsTouched : Option Sealed → ℕ → Type 0
IsTouched None index = Unit {0}
IsTouched (Some t) index = slice_index_or t.touched index true ≡ true

-- an edit of a list that is a client's last applied request, with the edits before and behind it
pub record Listed (chunk : ℕ) (edits : List Edit) (client : ℕ) (d : Done) : Type 0 where
  pub before : List Edit
  pub edit : Edit
  pub behind : List Edit
  pub is : edits ≡ before ++ edit ∷ behind
  pub by : edit.req.client.0 ≡ client
  pub number : edit.req.number ≡ d.number
  pub answered : outcome_at edit.op (length (replica_of chunk before).bytes) ≡ d.outcome

-- two edits of a chunk of 8 bytes
abbrev two_edits : ReqId → ReqId → List Edit
two_edits first second = record { req = first; op = Append; bytes = 1 ∷ 2 ∷ [] } ∷ record { req = second; op = Write 3; bytes = 9 ∷ [] } ∷ []

their_bytes : (first second : ReqId) → (replica_of 8 (two_edits first second)).bytes ≡ 1 ∷ 2 ∷ 0 ∷ 9 ∷ []
unfolding replica_of written
their_bytes first second = refl

then_padded : (first second third : ReqId) → (replica_of 8 (two_edits first second ++ record { req = third; op = Pad; bytes = [] } ∷ [])).bytes ≡ 1 ∷ 2 ∷ 0 ∷ 9 ∷ 0 ∷ 0 ∷ 0 ∷ 0 ∷ []
unfolding replica_of written
then_padded first second third = refl

past_the_end : is_in_range 8 (Write 7) (1 ∷ 2 ∷ []) 4 ≡ false
past_the_end = refl

no_bytes : is_in_range 8 Append [] 4 ≡ false
no_bytes = refl
