-- The disks of the master tell something in each world of a run, so there is an account.
use Rattle.std.proofs.Common.{◌≡◌, ◌∙◌, List, [], ◌∷◌, length, refl, ap, subst, sym}
use Rattle.std.specs.Prelude.{ℕ}
use Rattle.gs_journal.specs.Journal.{State as Journal, counting, text_size}
use Rattle.gs_journal.specs.Records.{Text, generation_of, standing}
use Rattle.gs_master.specs.Masters.{MasterOf, with_journal}
use Rattle.gs_laws_chunks.specs.accounts.Accounts.{Account}
use Rattle.gs_laws_chunks.specs.accounts.Running.{IsArmed, IsGiven, IsSeenAlike, ReachedStaySound, Runs, Setup, StaysSound, StepsWithin}
use Rattle.gs_laws_world.proofs.lemmas.lasting.Lasting.{begins_firm, run_lasts}
use Rattle.gs_world.specs.Histories.{History}
use Rattle.gs_laws_world.specs.lasting.Lasting.{HearsNamed, IsToldIn, Lasts, StandsFirm, StepNamed, TellsAMaster}
use Rattle.gs_world.specs.Runs.{Comes, Step, Takes}
use Rattle.gs_laws_world.proofs.lemmas.steady.Keeping.{begins_keeping, run_keeps}
use Rattle.gs_laws_world.specs.steady.Saying.{IsStepWithin, KeepsTypes, MayBeHeard, MayBeSaid}
use Rattle.gs_msg.specs.declared.event.Happening.{Happening}
use Rattle.gs_msg.specs.declared.event.Happening.TheVariants as happenings
use Rattle.gs_msg.specs.declared.node.NodeId.{NodeId}
use Rattle.gs_nodes.specs.declared.place.MasterPlace.{MasterPlace}
use Rattle.gs_nodes.specs.declared.place.MasterPlace.TheVariants.{Standing, Closed, Away}
use Rattle.std.specs.Prelude.{false}

module _ {D : Type 0} (x : Setup D) where
  counts : (seen : D → List ℕ) (m : MasterOf D) (j : Journal D) → IsSeenAlike seen m.journal j → counting (seen j.first) (seen j.second) ≡ counting (seen m.journal.first) (seen m.journal.second)
  counts seen m j alike = ap (λ s. counting s (seen j.second)) alike.first ∙ ap (counting (seen m.journal.first)) alike.second

  firm_alike : (seen : D → List ℕ) (m : MasterOf D) (j : Journal D) → IsSeenAlike seen m.journal j → StandsFirm seen m → StandsFirm seen (with_journal m j)
  firm_alike seen m j alike h = record {
    sound = h.sound;
    firm = h.firm;
    as_seen = record {
      text = ap (λ s. standing s (seen j.second)) alike.first ∙ ap (standing (seen m.journal.first)) alike.second ∙ h.as_seen.text ∙ sym (ap (λ (k : Journal D). k.text) alike.others);
      size = ap length (counts seen m j alike) ∙ h.as_seen.size ∙ sym (ap (λ (k : Journal D). k.size) alike.others);
      generation = ap generation_of (counts seen m j alike) ∙ h.as_seen.generation ∙ sym (ap (λ (k : Journal D). k.generation) alike.others);
      whole = ap (λ (k : Journal D). k.size) alike.others ∙ h.as_seen.whole ∙ sym (ap (λ (k : Journal D). text_size k.text) alike.others);
    };
    known = record {
      is_open = ap (λ (k : Journal D). k.is_failed) alike.others ∙ h.known.is_open;
      size = h.known.size ∙ sym (ap (λ (k : Journal D). k.size) alike.others);
      limit = h.known.limit ∙ sym (ap (λ (k : Journal D). k.limit) alike.others);
      generation = h.known.generation ∙ sym (ap (λ (k : Journal D). k.generation) alike.others);
    };
    told = subst (λ (t : Text). IsToldIn t m.state.durable) (sym (ap (λ (k : Journal D). k.text) alike.others)) h.told;
  }

  pub arming : (seen : D → List ℕ) (place new : MasterPlace D) → IsArmed seen place new → Lasts seen place → Lasts seen new
  arming seen (Standing m) new (j, is, alike) h = subst (Lasts seen) (sym is) (firm_alike seen m j alike h)
  arming seen (Closed first second) new (other, another, is, one, two) h =
      subst (Lasts seen) (sym is) (subst TellsAMaster (sym (ap (λ s. standing s (seen another)) one ∙ ap (standing (seen first)) two)) h)
  arming seen Away new is h = absurd h

  -- a master hears only what is named, since all that was sent to it is within its types
  pub named : (step : Step) (old : History D) → IsStepWithin step → KeepsTypes old → StepNamed step old
  named (Takes client) old within types = tt
  named (Comes event) old within types = heard event.happening
    where
      heard : (happening : Happening) → HearsNamed event.moment happening old
      heard (happenings.Deliver id) = λ message is to. (let said : MayBeHeard message.body = subst (λ (n : NodeId). MayBeSaid n message.body) to (types.sent id message is) in said.named, within.0)
      heard (happenings.Ask req request) = tt
      heard (happenings.Tick node) = tt
      heard (happenings.Beat server) = tt
      heard (happenings.Restart node) = tt
      heard (happenings.Lose server handle) = tt
      heard (happenings.Damage server handle block) = tt
      heard (happenings.FailDisk disk call) = tt

  -- what stands behind a step
  pub one_lasts : IsGiven x → x.fails ≡ false → (step : Step) (old mid : History D) → Lasts x.seen old.nodes.master → KeepsTypes old → StepsWithin x step old mid → Lasts x.seen mid.nodes.master × KeepsTypes mid
  one_lasts given quiet step old mid lasts types one = (
    run_lasts x.seen x.failures x.armed (λ disk call place k. arming x.seen place (x.armed disk call place) (given.armed disk call place) k) (step ∷ []) old mid (mid, one.goes, named step old one.within types, one.sound quiet, refl) lasts,
    run_keeps x.seen x.failures x.armed (step ∷ []) old mid (mid, one.goes, refl) (one.within, tt) types,
  )

  -- and behind many
  pub runs_sound : IsGiven x → x.fails ≡ false → (steps : List Step) (old new : History D) (a b : Account) → Lasts x.seen old.nodes.master → KeepsTypes old → Runs x steps old a new b → StaysSound x steps old new
  runs_sound given quiet [] old new a b lasts types runs = record { lasts = subst (λ (h : History D). Lasts x.seen h.nodes.master) (sym runs.0) lasts; types = subst (λ (h : History D). KeepsTypes h) (sym runs.0) types; runs = runs.0 }
  runs_sound given quiet (step ∷ steps) old new a b lasts types (mid, c, one, rest) =
      let behind = one_lasts given quiet step old mid lasts types one.steps in
      let more = runs_sound given quiet steps mid new c b behind.0 behind.1 rest in
      record { lasts = more.lasts; types = more.types; runs = (mid, one.steps.goes, named step old one.steps.within types, one.steps.sound quiet, more.runs) }

pub reached_sound : {D : Type 0} (x : Setup D) → ReachedStaySound x
reached_sound x quiet now a r =
    let given = r.begins.given in
    runs_sound x given quiet r.steps r.begun now r.first a (begins_firm x.seen x.failures x.armed x.config x.clients x.disks r.begun given.new r.begins.begins)
    (begins_keeping x.seen x.failures x.armed x.config x.clients x.disks r.begun given.few r.begins.begins) r.runs
