-- What a desk carries for a client is a call with its answer.
use Rattle.std.specs.List.{AllByRecursion}
use Rattle.std.specs.Prelude.{[], ◌∷◌, ◌≡◌, List, ℕ}
use Rattle.gs_base.specs.Told.{IsNumber}
use Rattle.gs_base.specs.declared.numbers.ClientId.{ClientId}
use Rattle.gs_base.specs.declared.numbers.ReqId.{ReqId}
use Rattle.gs_client.specs.declared.link.Reply.TheVariants as replies
use Rattle.gs_msg.specs.declared.answer.Answer.{Answer}
use Rattle.gs_msg.specs.declared.call.Call.{Call}
use Rattle.gs_msg.specs.declared.event.Request.TheVariants as requests
use Rattle.gs_shell_desk.specs.Ways.{Carries, Way}
use Rattle.gs_world.specs.Histories.{History}
use Rattle.gs_world.specs.Runs.{RunsTo, Takes}
use Rattle.gs_world.specs.Sent.{Sent}
use Rattle.gs_laws_chunks.specs.answers.Changed.{IsAt}
use Rattle.gs_laws_chunks.specs.answers.Behind.{HasAnswer}
use Rattle.gs_laws_world.specs.steady.Asking.{MayBeAsked}
use Rattle.gs_laws_chunks.specs.desks.Reached.{Covers, history}
use Rattle.gs_laws_world.specs.steady.Unarmed.{unarmed}

module _ {D : Type 0} (seen : D → List ℕ) (failures : D → ℕ) where
  -- The client has this answer in a world, and takes it there; all that is under way then was sent.
  pub record IsCarried (client : ClientId) (old : Way D) (sent : Sent) (call : Call) (answer : Answer) (new : Way D) : Type 0 where
    pub mid : History D
    pub has : HasAnswer seen failures unarmed client (history sent old) call answer mid
    pub after : Sent
    pub takes : RunsTo seen failures unarmed (Takes client ∷ []) mid (history after new)
    pub covers : Covers after new
    pub moment : new.moment ≡ old.moment
    -- all steps behind the ask are at that moment
    pub moments : AllByRecursion (IsAt old.moment) has.steps

  -- ---- what is to hold

  -- So it is of each call that a desk carries for a client, within its types, with a reply that is an answer: then its number was fresh.
  abbrev pub CallsAreCarried : Type 0
  CallsAreCarried = (sent : Sent) (old new : Way D) (req : ReqId) (call : Call) (answer : Answer) → Covers sent old → IsNumber old.moment.0 → IsNumber req.number × MayBeAsked (requests.Call call) →
      Carries seen failures req (requests.Call call) old (replies.Answer answer) new → IsCarried req.client old sent call answer new
