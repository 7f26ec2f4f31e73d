-- Calls that are one request.
use Rattle.std.proofs.Common.{◌≡◌, ◌∙◌, Result, Ok, Err, ap, refl}
use Rattle.gs_base.specs.declared.refusal.Refusal.{Refusal}
use Rattle.gs_client_dialogue.specs.Dialogues.{Say, ask, both, FollowsDialogue}
use Rattle.gs_client_dialogue.proofs.Talks.{follows_one}
use Rattle.gs_msg.specs.declared.answer.Answer.{Answer}
use Rattle.gs_msg.specs.declared.call.Call.{Call}
use Rattle.gs_msg.specs.declared.event.Request.{Request}
use Rattle.gs_msg.specs.declared.event.Request.TheVariants as requests
use Rattle.gs_client.specs.declared.link.Reply.{Reply}
use Rattle.gs_client.specs.Trees.{and_then}

-- one call of the master, what its reply says, and what is read of the answer
pub one : {S A : Type 0} (carries : S → Request → Reply → S → Type 0) (call : Call) (reads : Reply → Result Answer Refusal) (says : Answer → Result A Refusal)
    (old new : S) (reply : Reply) (answer : Result Answer Refusal) (result : Result A Refusal)
    → carries old (requests.Call call) reply new → answer ≡ reads reply → result ≡ and_then says answer
    → FollowsDialogue carries (ask (requests.Call call) (λ reply. and_then says (reads reply))) old result new
one carries call reads says old new reply answer result carried read said =
    follows_one carries (requests.Call call) (λ reply. and_then says (reads reply)) old new reply result carried (said ∙ ap (and_then says) read)

-- what a refusal or a value says, read on
pub follows_said_on : {S A B : Type 0} (carries : S → Request → Reply → S → Type 0) (first : Result A Refusal) (says : A → Result B Refusal) (s : S) (result : Result B Refusal)
    → result ≡ and_then says first → FollowsDialogue carries (both (Say first) (λ x. Say (says x))) s result s
follows_said_on carries (Ok x) says s result is = (is, refl)
follows_said_on carries (Err refusal) says s result is = (is, refl)
