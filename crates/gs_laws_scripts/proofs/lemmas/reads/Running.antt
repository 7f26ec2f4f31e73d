-- What a client says in a store is a run of it.
use Rattle.std.proofs.Common.{◌++◌, ℕ, List, [], ◌∷◌, Ok, true}
use Rattle.std.specs.List.{AllByRecursion}
use Rattle.gs_base.specs.declared.numbers.ClientId.{ClientId}
use Rattle.gs_client.specs.declared.link.Reply.{Reply}
use Rattle.gs_client.specs.declared.link.Reply.TheVariants as replies
use Rattle.gs_msg.specs.declared.answer.Answer.{Answer}
use Rattle.gs_msg.specs.declared.call.Call.{Call}
use Rattle.gs_msg.specs.declared.event.Request.{Request}
use Rattle.gs_laws_scripts.proofs.lemmas.lists.Lines.{all_join}
use Rattle.gs_world.specs.Histories.{History}
use Rattle.gs_world.specs.Runs.{Comes, RunsTo, Step}
use Rattle.gs_laws_chunks.specs.answers.Behind.{HasAnswer, asks_call}
use Rattle.gs_laws_world.specs.steady.Asking.{asks_at}
use Rattle.gs_laws_looks.specs.carrying.Exchanged.{HasReply, Looks, Went}
use Rattle.gs_laws_chunks.proofs.lemmas.desks.Ways.{joined}
use Rattle.gs_laws_world.specs.steady.Unarmed.{unarmed}
use Rattle.gs_laws_world.specs.steady.Saying.{IsStepWithin}
use Rattle.gs_laws_looks.specs.reads.Read.{Exchanged}

module _ {D : Type 0} (seen : D → List ℕ) (failures : D → ℕ) where
  -- steps lead from one store to another, each within its types
  pub record Ran (old new : History D) : Type 0 where
    pub steps : List Step
    pub runs : RunsTo seen failures unarmed steps old new
    pub within : AllByRecursion IsStepWithin steps

  pub then_ran : (old mid new : History D) → Ran old mid → Ran mid new → Ran old new
  then_ran old mid new first second = record {
    steps = first.steps ++ second.steps;
    runs = joined seen failures true first.steps second.steps old mid new first.runs second.runs;
    within = all_join IsStepWithin first.steps second.steps first.within second.within;
  }

  pub answered_ran : (client : ClientId) (old : History D) (call : Call) (answer : Answer) (new : History D) → HasAnswer seen failures unarmed client old call answer new → Ran old new
  answered_ran client old call answer new h = record { steps = asks_call h.moment h.req call ∷ h.steps; runs = (h.asked, (Ok tt, h.asks.happens), h.runs); within = h.within }

  pub looked_ran : (client : ClientId) (old new : History D) → Looks seen failures client old new → Ran old new
  looked_ran client old new l = record { steps = l.steps; runs = l.runs; within = l.within }

  replied_ran : (client : ClientId) (old : History D) (request : Request) (reply : Reply) (new : History D) → HasReply seen failures client old request reply new → Ran old new
  replied_ran client old request reply new h = record { steps = Comes (asks_at h.moment h.req request) ∷ h.behind.steps; runs = (h.asked, (Ok tt, h.happens), h.behind.runs); within = (h.asks, h.behind.within) }

  went_ran : (client : ClientId) (old : History D) (request : Request) (reply : Reply) (new : History D) → Went seen failures client old request reply new → Ran old new
  went_ran client old request (replies.Answer answer) new went = replied_ran client old request (replies.Answer answer) new went
  went_ran client old request (replies.Given given) new went = replied_ran client old request (replies.Given given) new went
  went_ran client old request (replies.Outcome outcome) new went = looked_ran client old new went
  went_ran client old request (replies.Refused refusal) new went = looked_ran client old new went
  went_ran client old request replies.Lost new went = looked_ran client old new went

  pub exchanged_ran : (client : ClientId) (pairs : List (Request × Reply)) (old new : History D) → Exchanged seen failures client pairs old new → Ran old new
  exchanged_ran client [] old new same = record { steps = []; runs = same; within = tt }
  exchanged_ran client (pair ∷ pairs) old new (mid, next, went, looks, rest) = then_ran old mid new (went_ran client old pair.0 pair.1 mid went) (then_ran mid next new (looked_ran client mid next looks) (exchanged_ran client pairs next new rest))
