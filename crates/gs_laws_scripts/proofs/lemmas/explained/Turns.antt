-- What the master says in the turn of a look-up, where the names stand.
use Rattle.std.proofs.Common.{◌≡◌, ◌⊎◌, Err, Result, ℕ}
use Rattle.gs_base.specs.declared.config.Config.{Config}
use Rattle.gs_base.specs.declared.numbers.Moment.{Moment}
use Rattle.gs_base.specs.declared.numbers.ReqId.{ReqId}
use Rattle.gs_base.specs.declared.refusal.Refusal.{Refusal}
use Rattle.gs_laws_chunks.specs.answers.Resting.{StandsStill}
use Rattle.gs_laws_moves.specs.answers.AtOnce.{OneSays}
use Rattle.gs_master_spec.specs.Durable.{Durable}
use Rattle.gs_master_spec.specs.Handling.{new_call}
use Rattle.gs_master_spec.specs.State.{State}
use Rattle.gs_msg.specs.declared.answer.Answer.{Answer as Said}
use Rattle.gs_msg.specs.declared.call.Call.{Call}
use Rattle.gs_laws_scripts.specs.explained.Lines.{IsNoLook}
use Rattle.gs_laws_scripts.specs.explained.Standing.{the_client}

-- the master says this in the turn of a call, as it stands on these names
pub record IsJudged (d : Durable) (call : Call) (result : Result Said Refusal) : Type 0 where
  pub config : Config
  pub state : State
  pub req : ReqId
  pub moment : Moment
  pub stands : (number : ℕ) × StandsStill d the_client number state
  pub says : OneSays req result (new_call config state req moment call).sent

-- the store refuses a look-up, or nobody is sure of it, or the master says so
abbrev pub IsToldOf : Durable → Call → Result Said Refusal → Type 0
IsToldOf d call result = ((refusal : Refusal) × (result ≡ Err refusal) × IsNoLook refusal) ⊎ IsJudged d call result
