-- What a line comes to.
use Rattle.std.specs.Prelude.{◌≡◌, ℕ, List, MatchOption, Result, Ok, Err}
use Rattle.gs_base.specs.declared.refusal.Refusal.{Refusal}
use Rattle.gs_base.specs.declared.refusal.Refusal.TheVariants as refusals
use Rattle.gs_client.specs.Sends.{Sends}
use Rattle.gs_client_dialogue.specs.Dialogues.{FollowsDialogue}
use Rattle.gs_cluster.specs.Linked.{carried}
use Rattle.gs_cluster.specs.declared.caller.Caller.{Caller}
use Rattle.gs_shell_calls.specs.declared.answer.Answer.{Answer}
use Rattle.gs_shell_calls.specs.declared.answer.Answer.TheVariants as answers
use Rattle.gs_shell_grammar.specs.Grammar.{Request}
use Rattle.gs_shell_grammar.specs.Grammar as lines
use Rattle.gs_shell_threads.specs.Asked.{asked_in_threads}
use Rattle.gs_shell_threads.specs.declared.desk.Desk.{Desk}

-- The moment is set; a line about nodes and messages is bad.
abbrev pub Sets : {N D T : Type 0} → Request → Caller N D T → Result Answer Refusal → Caller N D T → Type 0
Sets (lines.At moment) old result new = (result ≡ Ok answers.Done) × (new.node ≡ old.node) × (new.moment ≡ record { 0 = moment })
Sets request old result new = (result ≡ Err refusals.BadLine) × (new ≡ old)

unfoldable pub Comes : {N D T : Type 0} → (D → List ℕ) → (D → ℕ) → Request → Desk N D T → Result Answer Refusal → Desk N D T → Type 0
Comes seen failures request old result new =
    MatchOption (asked_in_threads old.caller.client.chunk request)
    ((new.caller.client ≡ old.caller.client) × Sets request old.link result new.link)
    (λ call. FollowsDialogue (Sends (carried seen failures)) call (old.caller.client, old.link) result (new.caller.client, new.link))
