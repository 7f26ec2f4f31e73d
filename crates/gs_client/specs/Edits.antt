-- How the requests go out of a file that is open for writing.
use Rattle.std.specs.Prelude.{◌≡◌, ◌+◌, ℕ, min, Result, Ok, Err, refl}
use Rattle.gs_base.specs.declared.numbers.ReqId.{ReqId}
use Rattle.gs_base.specs.declared.refusal.Refusal.{Refusal}
use Rattle.gs_replica.specs.declared.op.EditOutcome.{EditOutcome}
use Rattle.gs_replica.specs.declared.op.EditOutcome.TheVariants as outcomes
use Rattle.gs_msg.specs.declared.event.Request.{Request}
use Rattle.gs_msg.specs.declared.event.Request.TheVariants as requests
use Rattle.gs_client.specs.declared.client.Client.{Client}
use Rattle.gs_client.specs.declared.link.Reply.{Reply}
use Rattle.gs_client.specs.declared.link.Reply.TheVariants as replies
use Rattle.gs_client.specs.Replies.{edited}
use Rattle.gs_client.specs.Sends.{Sends, last_number}

-- an edit counts where it is answered that its bytes stand; a chunk that was filled up has none of them
abbrev pub with_edit : Result EditOutcome Refusal → ℕ → ℕ
with_edit (Ok outcomes.Written) edits = min (edits + 1) last_number
with_edit (Ok (outcomes.Appended offset)) edits = min (edits + 1) last_number
with_edit (Ok outcomes.Padded) edits = edits
with_edit (Err refusal) edits = edits

abbrev pub counted : Request → Reply → ℕ → ℕ
counted (requests.Write handle members primary stamp op bytes) reply edits = with_edit (edited reply) edits
counted (requests.Call call) reply edits = edits
counted (requests.Fetch to handle stamp epoch asked) reply edits = edits

-- A request goes out as any of the client's, and edits that are acknowledged are counted.
abbrev pub Edits : {L : Type 0} → (L → ReqId → Request → Reply → L → Type 0) → Client × ℕ × L → Request → Reply → Client × ℕ × L → Type 0
Edits carries old request reply new = Sends carries (old.0, old.2) request reply (new.0, new.2) × (new.1 ≡ counted request reply old.1)

an_edit_that_nobody_acknowledged : with_edit (edited replies.Lost) 4 ≡ 4
an_edit_that_nobody_acknowledged = refl

a_record_that_stands : with_edit (edited (replies.Outcome (outcomes.Appended 3))) 4 ≡ 5
a_record_that_stands = refl
