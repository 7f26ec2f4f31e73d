-- What is read of a file. All its chunks but the last are full: behind what a member stores of one stand zeros.
use Rattle.std.specs.Prelude.{◌+◌, ◌-◌, ◌*◌, ◌/◌, ◌%◌, ◌++◌, ◌==◌, ℕ, zero, suc, min, List, [], if◌then◌else◌, Option, Some, None, Result, Ok, Err, nat_le, nat_lt}
use Rattle.gs_base.specs.declared.refusal.Refusal.{Refusal}
use Rattle.gs_base.specs.declared.refusal.Refusal.TheVariants as refusals
use Rattle.gs_path.specs.Path.{Path}
use Rattle.gs_client_dialogue.specs.Dialogues.{Say, Grow, both}
use Rattle.gs_msg.specs.declared.call.Call.TheVariants as calls
use Rattle.gs_msg.specs.declared.chunk.Asked.{Asked}
use Rattle.gs_msg.specs.declared.chunk.Asked.TheVariants as asks
use Rattle.gs_msg.specs.declared.answer.Status.{Status}
use Rattle.gs_msg.specs.declared.answer.Status.TheVariants as statuses
use Rattle.gs_client_part.specs.declared.located.Located.{Located}
use Rattle.gs_client_part.specs.Reading.{filled, piece_end, span}
use Rattle.gs_client.specs.declared.reading.Stat.{Stat}
use Rattle.gs_client.specs.declared.reading.Stat.TheVariants as stats
use Rattle.gs_client.specs.Replies.{status_in, bytes_in, length_in, digest_in}
use Rattle.gs_client.specs.Trees.{Call, look}
use Rattle.gs_client.specs.Looking.{count_in, known_call, fetch_call}

-- a chunk stores no more than its size
abbrev pub within : ℕ → ℕ → Result ℕ Refusal
within size many = if nat_le many size then Ok many else Err refusals.Stray

-- how many bytes a file of so many chunks has
abbrev pub length_call : ℕ → Path → Option Located → ℕ → Call (ℕ × Option Located)
length_call size path known zero = Say (Ok (0, known))
length_call size path known (suc last) =
    both (fetch_call path known last asks.Length) (λ f.
    both (Say (length_in f.0)) (λ many.
    both (Say (within size many)) (λ many. Say (Ok (last * size + many, Some f.1)))))

-- Where a read ends. The length is asked for only where the read may pass the chunks that are full.
abbrev pub end_call : ℕ → Path → Option Located → ℕ → ℕ → ℕ → Call (ℕ × Option Located)
end_call size path known chunks offset many =
    if nat_le (offset + many) ((chunks - 1) * size) then Say (Ok (offset + many, known))
    else both (length_call size path known chunks) (λ l.
    if nat_lt l.0 offset then Say (Err refusals.Range) else Say (Ok (min (offset + many) l.0, l.1)))

-- the bytes that a member gives of a chunk
abbrev pub stored_call : Path → Option Located → ℕ → Asked → Call (List ℕ × Located)
stored_call path known index asked =
    both (fetch_call path known index asked) (λ f.
    both (Say (bytes_in asked f.0)) (λ bytes. Say (Ok (bytes, f.1))))

-- what a chunk gives of a read
abbrev pub piece_bytes : ℕ → ℕ → ℕ → List ℕ → List ℕ
piece_bytes chunks index many bytes = if index + 1 == chunks then bytes else filled many bytes

abbrev pub piece_call : Path → Option Located → ℕ → ℕ → ℕ → ℕ → Call (List ℕ × Located)
piece_call path known chunks index start many =
    both (stored_call path known index (asks.Bytes start many)) (λ s. Say (Ok (piece_bytes chunks index many s.0, s.1)))

-- so many pieces, from this chunk on
abbrev pub pieces_call : ℕ → Path → ℕ → ℕ → Option Located → ℕ → ℕ → ℕ → List ℕ → Call (List ℕ × Option Located)
pieces_call size path chunks end known index start zero read = Say (Ok (read, known))
pieces_call size path chunks end known index start (suc count) read =
    both (piece_call path known chunks index start (piece_end size end index - start)) (λ p.
    Grow (pieces_call size path chunks end (Some p.1) (index + 1) 0 count (read ++ p.0)))

-- what is read, and the location that is remembered then
abbrev pub read_call : ℕ → Path → Option ℕ → Option Located → ℕ → ℕ → Call (List ℕ × Option Located)
read_call size path opened known offset many =
    both (known_call path opened) (λ chunks.
    both (end_call size path known chunks offset many) (λ e.
    pieces_call size path chunks e.0 e.1 (offset / size) (offset % size) (span size offset e.0) []))

-- the digest of a block
abbrev pub digest_call : Path → Option ℕ → Option Located → ℕ → ℕ → Call (List ℕ × Option Located)
digest_call path opened known index block =
    both (known_call path opened) (λ chunks.
    both (fetch_call path known index (asks.Digest block)) (λ f.
    both (Say (digest_in f.0)) (λ digest. Say (Ok (digest, Some f.1)))))

abbrev pub stat_of : ℕ → Path → Status → Call Stat
stat_of size path statuses.Directory = Say (Ok stats.Directory)
stat_of size path (statuses.File chunks) =
    both (Say (count_in chunks)) (λ count.
    both (length_call size path None count) (λ l. Say (Ok (stats.File l.0 chunks))))

abbrev pub stat_call : ℕ → Path → Call Stat
stat_call size path = both (Grow (look (calls.Status path) status_in)) (stat_of size path)
