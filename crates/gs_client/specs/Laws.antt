-- What the laws of a client's calls say.
use Rattle.std.specs.Prelude.{◌≡◌, ◌≢◌, ◌≤◌, ◌<◌, ◌+◌, ◌*◌, ◌/◌, ℕ, List, length, false, Result, Err}
use Rattle.gs_base.specs.declared.numbers.ReqId.{ReqId}
use Rattle.gs_base.specs.declared.refusal.Refusal.{Refusal}
use Rattle.gs_base.specs.declared.refusal.Refusal.TheVariants.{Memory}
use Rattle.gs_client_dialogue.specs.Dialogues.{FollowsDialogue, run}
use Rattle.gs_msg.specs.declared.event.Request.{Request}
use Rattle.gs_client.specs.declared.client.Client.{Client}
use Rattle.gs_client.specs.declared.link.Reply.{Reply}
use Rattle.gs_client.specs.Sends.{Sends}
use Rattle.gs_client.specs.Serves.{served, served_edits}
use Rattle.gs_client.specs.Edits.{Edits}
use Rattle.gs_client.specs.Trees.{Call}
use Rattle.gs_client_part.specs.Writing.{part_start, part_bytes, part_count, is_out}
use Rattle.gs_client.specs.Writing.{first_parts}

-- ---- a link whose replies a function of a world gives
module _ {L W : Type 0} (carries : L → ReqId → Request → Reply → L → Type 0) (serve : W → ReqId → Request → Reply × W) (world : L → W) (A : Type 0) where
  -- A call comes to what the function gives, if it doesn't lack memory of its own.
  abbrev pub CallsAreServed : Type 0
  CallsAreServed = (call : Call A) (old new : Client × L) (result : Result A Refusal) → FollowsDialogue (Sends carries) call old result new → result ≢ Err Memory
      → (result, (new.0, world new.1)) ≡ run (served serve) call (old.0, world old.1)

  -- So does a call of a file that is open for writing, with how many of its edits are acknowledged.
  abbrev pub EditsAreServed : Type 0
  EditsAreServed = (call : Call A) (old new : Client × ℕ × L) (result : Result A Refusal) → FollowsDialogue (Edits carries) call old result new → result ≢ Err Memory
      → (result, (new.0, new.1, world new.2)) ≡ run (served_edits serve) call (old.0, old.1, world old.2)

-- ---- the parts of a write
-- Each part has some bytes.
abbrev pub EachPartHasBytes : Type 0
EachPartHasBytes = (size offset : ℕ) (bytes : List ℕ) (i : ℕ) → 1 ≤ size → is_out size offset bytes ≡ false → i < part_count size offset bytes → 1 ≤ length (part_bytes size offset bytes i)

-- Each part begins in the file where the parts before it end.
abbrev pub EachPartBeginsBehind : Type 0
EachPartBeginsBehind = (size offset : ℕ) (bytes : List ℕ) (i : ℕ) → 1 ≤ size → is_out size offset bytes ≡ false → i < part_count size offset bytes
    → (offset / size + i) * size + part_start size offset i ≡ offset + length (first_parts size offset bytes i)
