-- What is written to a file.
use Rattle.std.proofs.Common.{◌≡◌, ◌⊎◌, ◌+◌, ◌-◌, ◌*◌, ◌/◌, ◌==◌, zero, suc, ℕ, List, length, Option, Some, None, refl}
use Rattle.std.specs.Prelude.{nat_lt}
use Rattle.gs_base.specs.declared.numbers.Stamp.{Stamp}
use Rattle.gs_base.specs.declared.refusal.Refusal.{Refusal}
use Rattle.gs_base.specs.declared.refusal.Refusal.TheVariants as refusals
use Rattle.gs_lease.specs.declared.view.Term.{Term}
use Rattle.gs_path.specs.Path.{Path}
use Rattle.gs_msg.specs.declared.call.Call.TheVariants as calls
use Rattle.gs_msg.specs.declared.event.Request.TheVariants as requests
use Rattle.gs_msg.specs.declared.op.Op.{Op}
use Rattle.gs_msg.specs.declared.op.Op.TheVariants as ops
use Rattle.gs_replica.specs.declared.op.EditOutcome.{EditOutcome}
use Rattle.gs_replica.specs.declared.op.EditOutcome.TheVariants as outcomes
use Rattle.gs_client_part.specs.Writing.{chunks_to, is_out, most_chunks, part_bytes, part_count}
use Rattle.gs_client_part.specs.declared.located.Located.{Located}
use Rattle.gs_client.specs.Replies.{is_stale, located_in}
use Rattle.gs_client.specs.Trees.{Call}
use Rattle.gs_client.specs.Writing.{append_call, append_from, avoided, extend_call, extends_call, landed, part_call, part_op, parts_call, send_call, write_call, write_part_call, writing_call, written}
use Rattle.gs_laws_causes.proofs.Ways.{Holds, IsClear, again_has, both_has, chosen_has, err_clear, grown, ok_clear, range_other, said}
use Rattle.gs_laws_causes.proofs.Replies.{change_has, edit_has, look_has, reads_located, stray}
use Rattle.gs_laws_causes.proofs.Looking.{known_has, tested}

written_clear : (outcome : EditOutcome) → IsClear (written outcome)
written_clear outcomes.Written = ok_clear tt
written_clear outcome = stray

module _ {e : Refusal} {either : (e ≡ refusals.NoReplica) ⊎ (e ≡ refusals.Unsure)} where
  writing_has : (path : Path) (index : ℕ) (refused : Option Stamp) → Holds e either (writing_call path index refused)
  writing_has path index refused = grown (look_has (calls.FindForWriting path index refused) (located_in index) refl (reads_located index))

  send_has : (l : Located) (term : Option Term) (op : Op) (bytes : List ℕ) → Holds e either (send_call l term op bytes)
  send_has l None op bytes = said stray
  send_has l (Some term) op bytes = grown (edit_has (requests.Write l.handle l.view.members term.primary l.view.stamp op bytes) refl refl)

  part_has : (path : Path) (index : ℕ) (op : Op) (bytes : List ℕ) → Holds e either (part_call path index op bytes)
  part_has path index op bytes =
      both_has (writing_has path index None) (λ l.
      again_has is_stale (send_has l l.view.term op bytes) (λ f. both_has (writing_has path index (avoided f l.view.stamp)) (λ l. send_has l l.view.term op bytes)))

  write_part_has : (path : Path) (index : ℕ) (op : Op) (bytes : List ℕ) → Holds e either (write_part_call path index op bytes)
  write_part_has path index op bytes = both_has (part_has path index op bytes) (λ outcome. said (written_clear outcome))

  extend_has : (path : Path) (index : ℕ) → Holds e either (extend_call path index)
  extend_has path index = grown (change_has (calls.Extend path index) (located_in index) refl (reads_located index))

  extends_has : (path : Path) (index count : ℕ) → Holds e either (extends_call path index count)
  extends_has path index zero = said (ok_clear tt)
  extends_has path index (suc count) = both_has (extend_has path index) (λ l. extends_has path (index + 1) count)

  parts_has : (size : ℕ) (path : Path) (offset : ℕ) (bytes : List ℕ) (i count : ℕ) → Holds e either (parts_call size path offset bytes i count)
  parts_has size path offset bytes i zero = said (ok_clear tt)
  parts_has size path offset bytes i (suc count) =
      both_has (write_part_has path (offset / size + i) (part_op size offset bytes i) (part_bytes size offset bytes i)) (λ done. parts_has size path offset bytes (i + 1) count)

  pub write_has : (size : ℕ) (path : Path) (opened : Option ℕ) (offset : ℕ) (bytes : List ℕ) → Holds e either (write_call size path opened offset bytes)
  write_has size path opened offset bytes =
      both_has (known_has path opened) (λ chunks.
      chosen_has (is_out size offset bytes) (said (err_clear refusals.Range range_other))
      (both_has (extends_has path chunks (chunks_to size offset bytes - chunks)) (λ done. parts_has size path offset bytes 0 (part_count size offset bytes))))

  landed_has : (size index : ℕ) (next : Call ℕ) (outcome : EditOutcome) → Holds e either next → Holds e either (landed size index next outcome)
  landed_has size index next (outcomes.Appended offset) more = said (tested (nat_lt offset size) (index * size + offset))
  landed_has size index next outcomes.Padded more = more
  landed_has size index next outcomes.Written more = said stray

  append_from_has : (size : ℕ) (path : Path) (bytes : List ℕ) (index more : ℕ) → Holds e either (append_from size path bytes index more)
  append_from_has size path bytes index zero =
      both_has (part_has path index (ops.Append (length bytes)) bytes) (λ outcome. landed_has size index _ outcome (said (err_clear refusals.Range range_other)))
  append_from_has size path bytes index (suc more) =
      both_has (part_has path index (ops.Append (length bytes)) bytes)
      (λ outcome. landed_has size index _ outcome (both_has (extend_has path (index + 1)) (λ l. append_from_has size path bytes (index + 1) more)))

  pub append_has : (size : ℕ) (path : Path) (opened : Option ℕ) (bytes : List ℕ) → Holds e either (append_call size path opened bytes)
  append_has size path opened bytes =
      both_has (known_has path opened) (λ chunks.
      chosen_has (length bytes == 0) (said (err_clear refusals.Range range_other))
      (both_has (extends_has path 0 (1 - chunks)) (λ done. append_from_has size path bytes (chunks - 1) (most_chunks - 1 - (chunks - 1)))))
