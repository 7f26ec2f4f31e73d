-- Each store that a script over disks that say nothing meets is steady: its steps ask within the types of the store, and no disk fails at one.
use Rattle.std.proofs.Common.{◌≡◌, inl, inr, ℕ, List, [], ◌∷◌, arith, refl, subst, sym}
use Rattle.std.specs.List.{AllByRecursion}
use Rattle.gs_base.specs.declared.config.Config.{Config}
use Rattle.gs_client_dialogue.specs.Dialogues.{Ask, Dialogue, Grow, Say}
use Rattle.gs_journal.specs.Records.{fresh, standing}
use Rattle.gs_master.specs.Masters.{MasterOf}
use Rattle.gs_msg.specs.declared.event.Happening.{Happening}
use Rattle.gs_msg.specs.declared.event.Happening.TheVariants as happenings
use Rattle.gs_world.specs.Histories.{History}
use Rattle.gs_world.specs.Runs.{RunsTo, Step, Comes, Takes}
use Rattle.gs_nodes.specs.declared.place.MasterPlace.TheVariants.{Standing}
use Rattle.gs_laws_world.specs.steady.Asking.{Asks, MayBeAsked}
use Rattle.gs_laws_scripts.specs.answers.Meeting.{AllSteady, IsAskedSo, IsMet, IsMetSteady, IsOfScript, Occurs, RunsSo}
use Rattle.gs_laws_world.specs.steady.Unarmed.{unarmed}
use Rattle.gs_laws_world.specs.steady.Saying.{IsAskedWithin, IsStepWithin, KeepsTypes, RunsQuietly}
use Rattle.gs_laws_world.specs.steady.Steady.{LastsSteady}
use Rattle.gs_laws_chunks.proofs.lemmas.desks.Asking.{line_asks}
use Rattle.gs_laws_world.proofs.lemmas.steady.Enduring.{lasts_unarmed}
use Rattle.gs_laws_world.proofs.lemmas.steady.Keeping.{begins_keeping, run_keeps, to_master}
use Rattle.gs_laws_world.proofs.lemmas.steady.Steady.{begins_steady}

-- what occurs in a dialogue that asks such requests alone is one of them
occurs_so : {Q R A : Type 0} (May : Q → Type 0) (Ends : A → Type 0) (asked : Q) (call : Dialogue Q R A) → Asks May Ends call → Occurs asked call → May asked
occurs_so May Ends asked (Say said) all never = absurd never
occurs_so May Ends asked (Ask first more) (one, others) (inl is) = subst May (sym is) one
occurs_so May Ends asked (Ask first more) (one, others) (inr (reply, later)) = occurs_so May Ends asked (more reply) (others reply) later
occurs_so May Ends asked (Grow rest) all occurs = occurs_so May Ends asked rest all occurs

asked_within : (config : Config) (happening : Happening) → IsAskedSo config happening → IsAskedWithin happening
asked_within config (happenings.Ask req asked) (client, number, line) = (
  omega (arith, number),
  occurs_so MayBeAsked (λ said. Unit {0}) asked line.call (line_asks config.chunk line.line line.request line.call line.reads line.asks) line.occurs,
)
asked_within config happening so = tt

step_within : (config : Config) (step : Step) → IsOfScript config step → IsStepWithin step
step_within config (Comes event) (moment, asks) = (moment, asked_within config event.happening asks)
step_within config (Takes client) so = tt

module _ {D : Type 0} (seen : D → List ℕ) (failures : D → ℕ) (config : Config) (disks : D × D) where
  run_to : (steps : List Step) (old new : History D) → RunsSo seen failures config disks steps old new → RunsTo seen failures unarmed steps old new
  run_to [] old new same = same
  run_to (step ∷ steps) old new (mid, goes, so, still, stands, rest) = (mid, goes, run_to steps mid new rest)

  run_quietly : (steps : List Step) (old new : History D) → RunsSo seen failures config disks steps old new → RunsQuietly seen failures unarmed steps old new
  run_quietly [] old new same = same
  run_quietly (step ∷ steps) old new (mid, goes, so, still, stands, rest) = (mid, goes, still, run_quietly steps mid new rest)

  run_within : (steps : List Step) (old new : History D) → RunsSo seen failures config disks steps old new → AllByRecursion IsStepWithin steps
  run_within [] old new same = tt
  run_within (step ∷ steps) old new (mid, goes, so, still, stands, rest) = (step_within config step so, run_within steps mid new rest)

  module _ (none : standing (seen disks.0) (seen disks.1) ≡ fresh) (now : History D) (met : IsMet seen failures config disks now) where
    keeps_first : KeepsTypes met.begun
    keeps_first = begins_keeping seen failures unarmed config 1 disks met.begun (omega arith) met.begins

    keeps : KeepsTypes now
    keeps = run_keeps seen failures unarmed met.steps met.begun now (run_to met.steps met.begun now met.runs) (run_within met.steps met.begun now met.runs) keeps_first

    pub lasts : LastsSteady seen now.nodes.master
    lasts =
        lasts_unarmed seen failures unarmed met.steps met.begun now (λ disk call place. refl) (run_quietly met.steps met.begun now met.runs) (run_within met.steps met.begun now met.runs) keeps_first
        (begins_steady seen failures unarmed config 1 disks met.begun none met.begins)

    pub met_steady : (m : MasterOf D) → now.nodes.master ≡ Standing m → IsMetSteady seen failures config disks now m
    met_steady m is =
        let stands = subst (LastsSteady seen) is lasts in record {
          firm = stands.firm;
          steady = stands.steady;
          hears = λ message sent to. let may = to_master seen failures unarmed now keeps sent.0 message sent.1 to in (may.named, may.heard m.state.durable.names);
        }

  pub all_steady : standing (seen disks.0) (seen disks.1) ≡ fresh → AllSteady seen failures config disks
  all_steady none now m met is = met_steady none now met m is
