-- What stands behind a change of the tree that a client has asked and taken the reply to, where the names stand there.
use Rattle.std.proofs.Common.{[], ap, refl, subst, sym, ◌∷◌, ◌∙◌, ◌≡◌, List, Ok, false, true, ℕ, suc}
use Rattle.std.specs.FinMap as fin
use Rattle.std.specs.List.{AllByRecursion}
use Rattle.gs_base.specs.Told.{IsNumber}
use Rattle.gs_base.specs.declared.config.Config.{Config}
use Rattle.gs_base.specs.declared.numbers.Moment.{Moment}
use Rattle.gs_base.specs.declared.numbers.ReqId.{ReqId}
use Rattle.gs_edit.specs.Mapped.{mapped_rows}
use Rattle.gs_edit.specs.View.{NamesView}
use Rattle.gs_laws_chunks.proofs.lemmas.answers.Behind.{all_spare}
use Rattle.gs_laws_chunks.proofs.lemmas.answers.Changed.{changes_stay_calm}
use Rattle.gs_laws_chunks.proofs.lemmas.answers.OfTree.{stays_sparing}
use Rattle.gs_laws_chunks.proofs.lemmas.answers.Replied.{run_replied}
use Rattle.gs_laws_chunks.proofs.lemmas.answers.Served.{stays_served}
use Rattle.gs_laws_chunks.proofs.lemmas.answers.Sparing.{AllSpare, asked_spared, lasts_spared}
use Rattle.gs_laws_chunks.proofs.lemmas.calls.Arming.{unarmed_alone}
use Rattle.gs_laws_chunks.specs.answers.Answered.{AsksFresh}
use Rattle.gs_laws_chunks.specs.answers.Behind.{asks_call}
use Rattle.gs_laws_chunks.specs.answers.Resting.{IsLooking, IsStill, StandsStill}
use Rattle.gs_laws_chunks.specs.desks.Reached.{Covers, history}
use Rattle.gs_laws_moves.specs.answers.Changes.{is_change}
use Rattle.gs_laws_world.proofs.lemmas.steady.Keeping.{run_keeps}
use Rattle.gs_laws_world.specs.steady.Saying.{IsStepWithin}
use Rattle.gs_laws_world.specs.steady.Unarmed.{unarmed}
use Rattle.gs_master_spec.specs.Calls.{told_phase}
use Rattle.gs_master_spec.specs.Durable.{Durable}
use Rattle.gs_master_spec.specs.State.{State}
use Rattle.gs_msg.specs.declared.call.Call.{Call}
use Rattle.gs_shell_desk.specs.Ways.{way_of}
use Rattle.gs_shell_desk.specs.declared.desk.Desk.{Desk}
use Rattle.gs_world.proofs.Staying.{run_same}
use Rattle.gs_world.specs.Histories.{History}
use Rattle.gs_world.specs.Runs.{RunsTo, Step, Takes}
use Rattle.gs_world.specs.Sent.{Sent}
use Rattle.gs_laws_scripts.proofs.lemmas.explained.Listed.{undisturbed_on}
use Rattle.gs_laws_scripts.specs.answers.Meeting.{IsClientOf}
use Rattle.gs_laws_scripts.specs.explained.Machine.{Machine}
use Rattle.gs_laws_scripts.specs.explained.Standing.{IsNumberOf, IsUndisturbed, ShowsNames, Stands, the_client}

-- a client asks a call under a number that is fresh, and nothing since but look-ups of its own
pub record IsAskedSince {D : Type 0} (seen : D → List ℕ) (failures : D → ℕ) (call : Call) (old mid : History D) : Type 0 where
  pub moment : Moment
  pub req : ReqId
  pub own : req.client ≡ the_client
  pub asked : History D
  pub asks : AsksFresh seen failures unarmed old moment req call asked
  pub steps : List Step
  pub runs : RunsTo seen failures unarmed steps asked mid
  pub within : AllByRecursion IsStepWithin (asks_call moment req call ∷ steps)
  pub looking : AllByRecursion (IsLooking the_client) steps

module _ {D : Type 0} (seen : D → List ℕ) (failures : D → ℕ) (d e : Durable) (number : ℕ) (call : Call) (is : is_change call ≡ true) (old mid : History D) (u : IsUndisturbed seen d number old) (a : IsAskedSince seen failures call old mid) where
  abbrev steps : List Step
  steps = asks_call a.moment a.req call ∷ a.steps

  runs : RunsTo seen failures unarmed steps old mid
  runs = (a.asked, (Ok tt, a.asks.happens), a.runs)

  spare : AllSpare steps
  spare = (refl, all_spare the_client a.steps a.looking)

  -- where the names stand behind such a change, nothing disturbs them
  pub rests_behind : IsStill e the_client (suc a.req.number) mid → IsUndisturbed seen e (suc a.req.number) mid
  rests_behind still = record {
    still = still;
    asked = asked_spared seen failures unarmed steps old mid runs spare a.within u.types u.lasts u.asked;
    types = run_keeps seen failures unarmed steps old mid runs a.within u.types;
    lasts = lasts_spared seen failures unarmed steps old mid runs spare a.within u.types u.lasts;
    served = stays_served seen failures unarmed (unarmed_alone seen failures) steps old mid runs a.within u.types u.lasts u.asked u.served;
    replied = run_replied seen failures unarmed steps old mid runs u.replied;
    sparing = stays_sparing seen failures unarmed (unarmed_alone seen failures) steps old mid runs a.within u.types u.lasts u.sparing;
    calm = changes_stay_calm seen failures unarmed d the_client number old a.asked mid a.moment a.req call a.steps is u.asked u.types u.lasts u.still u.calm a.own a.asks a.runs a.within a.looking;
    one = (run_same seen failures unarmed steps old mid runs).clients ∙ u.one;
  }

module _ {D : Type 0} (seen : D → List ℕ) (failures : D → ℕ) (config : Config) (old new : Desk D) (m : Machine) (st : Stands seen config old m) where
  abbrev before : History D
  before = history st.sent (way_of old.wire)

  -- the machine shows what a master stands on whose names stand
  pub shows_then : (s : State) → StandsStill st.durable the_client st.number s → ShowsNames s.durable m
  shows_then s stood = record {
    text = st.shows.text;
    tree = st.shows.tree ∙ ap (λ (names : NamesView). mapped_rows st.shows.text (fin.entries names.tree)) (sym stood.names);
    hidden = subst (IsNumberOf m.next_hidden) (sym stood.hidden) st.shows.hidden;
    epoch = st.shows.epoch ∙ sym stood.epoch;
    phase = st.shows.phase ∙ ap (told_phase false) (sym stood.phase);
  }

  -- the client of a desk has asked a call so, and takes what it has as its reply
  pub record IsTaken (call : Call) (mid : History D) : Type 0 where
    pub since : IsAskedSince seen failures call before mid
    pub after : Sent
    pub takes : RunsTo seen failures unarmed (Takes the_client ∷ []) mid (history after (way_of new.wire))
    pub covers : Covers after (way_of new.wire)
    pub moment : IsNumber new.wire.moment.0
    pub same : new.wire.moment ≡ old.wire.moment
    pub ours : IsClientOf config new.caller.client

  -- the desk stands for the machine that shows the names then
  pub stands_behind : (call : Call) → is_change call ≡ true → (mid : History D) (t : IsTaken call mid) (e : Durable) → IsStill e the_client (suc t.since.req.number) mid → (next : Machine) → ShowsNames e next → next.moment ≡ m.moment → Stands seen config new next
  stands_behind call is mid t e still next shows same = record {
    sent = t.after;
    covers = t.covers;
    moment = t.moment;
    ours = t.ours;
    durable = e;
    number = suc t.since.req.number;
    rests = undisturbed_on seen failures e (suc t.since.req.number) (Takes the_client ∷ []) mid (history t.after (way_of new.wire)) t.takes (tt, tt) ((refl, tt), tt)
        (rests_behind seen failures st.durable e st.number call is before mid st.rests t.since still);
    shows = shows;
    now = same ∙ st.now ∙ ap (λ (moment : Moment). moment.0) (sym t.same);
  }
