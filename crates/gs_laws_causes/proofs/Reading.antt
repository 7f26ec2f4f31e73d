-- What is read of a file.
use Rattle.std.proofs.Common.{◌≡◌, ◌⊎◌, ◌+◌, ◌-◌, ◌*◌, ◌/◌, ◌%◌, ◌++◌, zero, suc, ℕ, List, [], length, Option, Some, None, refl}
use Rattle.std.specs.Prelude.{nat_le, nat_lt}
use Rattle.gs_base.specs.declared.refusal.Refusal.{Refusal}
use Rattle.gs_base.specs.declared.refusal.Refusal.TheVariants as refusals
use Rattle.gs_path.specs.Path.{Path}
use Rattle.gs_msg.specs.declared.answer.Status.{Status}
use Rattle.gs_msg.specs.declared.answer.Status.TheVariants as statuses
use Rattle.gs_msg.specs.declared.body.Given.{Given}
use Rattle.gs_msg.specs.declared.body.Given.TheVariants as givens
use Rattle.gs_msg.specs.declared.call.Call.TheVariants as calls
use Rattle.gs_msg.specs.declared.chunk.Asked.{Asked}
use Rattle.gs_msg.specs.declared.chunk.Asked.TheVariants as asks
use Rattle.gs_client_part.specs.Reading.{piece_end, span}
use Rattle.gs_client_part.specs.declared.located.Located.{Located}
use Rattle.gs_client.specs.Files.{open_call}
use Rattle.gs_client.specs.Reading.{digest_call, end_call, length_call, piece_call, pieces_call, read_call, stat_call, stat_of, stored_call, within}
use Rattle.gs_client.specs.Replies.{bytes_in, digest_in, length_in, status_in}
use Rattle.gs_laws_causes.proofs.Ways.{Holds, IsClear, both_has, chosen_has, err_clear, grown, ok_clear, range_other, said}
use Rattle.gs_laws_causes.proofs.Replies.{look_has, reads_status, stray}
use Rattle.gs_laws_causes.proofs.Looking.{chunks_has, count_clear, fetch_has, known_has, tested}

-- ---- what a member gives

length_clear : (g : Given) → IsClear (length_in g)
length_clear (givens.Length many) = ok_clear many
length_clear g = stray

digest_clear : (g : Given) → IsClear (digest_in g)
digest_clear (givens.Digest digest) = ok_clear digest
digest_clear g = stray

bytes_clear : (asked : Asked) (g : Given) → IsClear (bytes_in asked g)
bytes_clear (asks.Bytes offset many) (givens.Bytes bytes) = tested (nat_le (length bytes) many) bytes
bytes_clear asked g = stray

within_clear : (size many : ℕ) → IsClear (within size many)
within_clear size many = tested (nat_le many size) many

-- ---- a file

module _ {e : Refusal} {either : (e ≡ refusals.NoReplica) ⊎ (e ≡ refusals.Unsure)} where
  pub open_has : (path : Path) → Holds e either (open_call path)
  open_has path = both_has (chunks_has path) (λ chunks. said (ok_clear _))

  length_has : (size : ℕ) (path : Path) (known : Option Located) (chunks : ℕ) → Holds e either (length_call size path known chunks)
  length_has size path known zero = said (ok_clear _)
  length_has size path known (suc last) =
      both_has (fetch_has path known last asks.Length) (λ f.
      both_has (said (length_clear f.0)) (λ many. both_has (said (within_clear size many)) (λ many. said (ok_clear _))))

  end_has : (size : ℕ) (path : Path) (known : Option Located) (chunks offset many : ℕ) → Holds e either (end_call size path known chunks offset many)
  end_has size path known chunks offset many =
      chosen_has (nat_le (offset + many) ((chunks - 1) * size)) (said (ok_clear _))
      (both_has (length_has size path known chunks) (λ l. chosen_has (nat_lt l.0 offset) (said (err_clear refusals.Range range_other)) (said (ok_clear _))))

  stored_has : (path : Path) (known : Option Located) (index : ℕ) (asked : Asked) → Holds e either (stored_call path known index asked)
  stored_has path known index asked = both_has (fetch_has path known index asked) (λ f. both_has (said (bytes_clear asked f.0)) (λ bytes. said (ok_clear _)))

  piece_has : (path : Path) (known : Option Located) (chunks index start many : ℕ) → Holds e either (piece_call path known chunks index start many)
  piece_has path known chunks index start many = both_has (stored_has path known index (asks.Bytes start many)) (λ s. said (ok_clear _))

  pieces_has : (size : ℕ) (path : Path) (chunks end : ℕ) (known : Option Located) (index start count : ℕ) (read : List ℕ) → Holds e either (pieces_call size path chunks end known index start count read)
  pieces_has size path chunks end known index start zero read = said (ok_clear _)
  pieces_has size path chunks end known index start (suc count) read =
      both_has (piece_has path known chunks index start (piece_end size end index - start)) (λ p. grown (pieces_has size path chunks end (Some p.1) (index + 1) 0 count (read ++ p.0)))

  pub read_has : (size : ℕ) (path : Path) (opened : Option ℕ) (known : Option Located) (offset many : ℕ) → Holds e either (read_call size path opened known offset many)
  read_has size path opened known offset many =
      both_has (known_has path opened) (λ chunks.
      both_has (end_has size path known chunks offset many) (λ f.
      pieces_has size path chunks f.0 f.1 (offset / size) (offset % size) (span size offset f.0) []))

  pub digest_has : (path : Path) (opened : Option ℕ) (known : Option Located) (index block : ℕ) → Holds e either (digest_call path opened known index block)
  digest_has path opened known index block =
      both_has (known_has path opened) (λ chunks.
      both_has (fetch_has path known index (asks.Digest block)) (λ f. both_has (said (digest_clear f.0)) (λ digest. said (ok_clear _))))

  stat_of_has : (size : ℕ) (path : Path) (status : Status) → Holds e either (stat_of size path status)
  stat_of_has size path statuses.Directory = said (ok_clear _)
  stat_of_has size path (statuses.File chunks) = both_has (said (count_clear chunks)) (λ count. both_has (length_has size path None count) (λ l. said (ok_clear _)))

  pub stat_has : (size : ℕ) (path : Path) → Holds e either (stat_call size path)
  stat_has size path = both_has (grown (look_has (calls.Status path) status_in refl reads_status)) (stat_of_has size path)
