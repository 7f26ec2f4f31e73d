-- A run with its accounts is a run.
use Rattle.std.proofs.Common.{◌≡◌, ◌∙◌, ℕ, List, [], ◌∷◌, refl, ap, sym}
use Rattle.std.specs.List.{AllByRecursion}
use Rattle.gs_master.specs.Masters.{MasterOf, with_journal}
use Rattle.gs_nodes.specs.declared.place.MasterPlace.{MasterPlace}
use Rattle.gs_nodes.specs.declared.place.MasterPlace.TheVariants.{Away, Closed, Standing}
use Rattle.gs_world.specs.Histories.{History}
use Rattle.gs_world.specs.Runs.{RunsTo, Step}
use Rattle.gs_laws_chunks.proofs.lemmas.accounts.Through.{arming_through, telling_through}
use Rattle.gs_laws_chunks.specs.accounts.Accounts.{Account}
use Rattle.gs_laws_chunks.specs.accounts.Running.{IsArmed, IsGiven, Runs, Setup}
use Rattle.gs_laws_world.specs.steady.Saying.{IsStepWithin}
use Rattle.gs_laws_lift.proofs.lemmas.stores.Reopening.{standing_is}
use Rattle.gs_laws_chunks.proofs.lemmas.calls.Arming.{away_not, closed_not}
use Rattle.gs_laws_chunks.specs.calls.Asked.{ArmsAlone}
use Rattle.gs_laws_chunks.specs.calls.Reached.{ReachedHaveRun}

memory : {D : Type 0} (seen : D → List ℕ) (place new : MasterPlace D) → IsArmed seen place new → (m : MasterOf D) → new ≡ Standing m → (was : MasterOf D) × (place ≡ Standing was) × (m.state ≡ was.state)
memory {D} seen (Standing k) new (j, is, alike) m there = (k, refl, ap (λ (x : MasterOf D). x.state) (standing_is m (with_journal k j) (sym there ∙ is)))
memory seen (Closed first second) new (other, another, is, one, two) m there = absurd (closed_not (sym is ∙ there))
memory seen Away new is m there = absurd (away_not (sym is ∙ there))

module _ {D : Type 0} (x : Setup D) where
  alone : IsGiven x → ArmsAlone x.seen x.failures x.armed
  alone given = record {
    lasts = λ disk call place h. arming_through x.seen place (x.armed disk call place) (given.armed disk call place) h;
    told = λ d disk call place h. telling_through x.seen d place (x.armed disk call place) (given.armed disk call place) h;
    memory = λ disk call place m is. memory x.seen place (x.armed disk call place) (given.armed disk call place) m is;
  }

  bare : (steps : List Step) (old new : History D) (a b : Account) → Runs x steps old a new b → RunsTo x.seen x.failures x.armed steps old new × AllByRecursion IsStepWithin steps
  bare [] old new a b runs = (runs.0, tt)
  bare (step ∷ steps) old new a b (mid, c, moves, rest) = (let more = bare steps mid new c b rest in ((mid, moves.steps.goes, more.0), (moves.steps.within, more.1)))

  pub reached_runs : ReachedHaveRun x
  reached_runs now a r = (let runs = bare r.steps r.begun now r.first a r.runs in record {
    config = x.config;
    clients = x.clients;
    disks = x.disks;
    begun = r.begun;
    steps = r.steps;
    arms = alone r.begins.given;
    few = r.begins.given.few;
    new = r.begins.given.new;
    begins = r.begins.begins;
    runs = runs.0;
    within = runs.1;
  })
