-- After a prepare or a rollback that is accepted the names stand while nothing is asked but look-ups.
use Rattle.std.proofs.Common.{[], ap, arith, inl, inr, refl, subst, sym, ◌++◌, ◌<◌, ◌∷◌, ◌∙◌, ◌≡◌, List, None, Ok, Some, false, length, true, ℕ, suc, ◌^◌}
use Rattle.std.specs.FinMap as fin
use Rattle.std.specs.List.{AllByRecursion}
use Rattle.gs_base.specs.Told.{IsNumber}
use Rattle.gs_base.specs.declared.config.Config.{Config}
use Rattle.gs_base.specs.declared.numbers.Moment.{Moment}
use Rattle.gs_world.proofs.Reaching.{HaveSizes}
use Rattle.gs_client.specs.declared.client.Client.{Client}
use Rattle.gs_client.specs.declared.link.Reply.TheVariants as replies
use Rattle.gs_edit.specs.Mapped.{mapped_rows}
use Rattle.gs_journal.specs.Records.{fresh, standing}
use Rattle.gs_laws_chunks.proofs.lemmas.answers.Asked.{begins_asked, stays_unarmed}
use Rattle.gs_laws_chunks.proofs.lemmas.answers.Behind.{MadeThere, all_back, all_front, made_there}
use Rattle.gs_laws_chunks.proofs.lemmas.answers.Calm.{commits_are_calm, stays_calm}
use Rattle.gs_laws_chunks.proofs.lemmas.answers.OfTree.{begins_sparing, stays_sparing}
use Rattle.gs_laws_chunks.proofs.lemmas.answers.Replied.{begins_replied, run_replied}
use Rattle.gs_laws_chunks.proofs.lemmas.answers.Served.{begins_served, stays_served}
use Rattle.gs_laws_chunks.proofs.lemmas.calls.Arming.{unarmed_alone}
use Rattle.gs_laws_chunks.proofs.lemmas.desks.Ways.{joined}
use Rattle.gs_laws_chunks.proofs.lemmas.desks.When.{StepsSo}
use Rattle.gs_laws_chunks.specs.answers.Asked.{AreAsked}
use Rattle.gs_laws_chunks.specs.answers.Behind.{IsOnly, asks_call, is_halt}
use Rattle.gs_laws_chunks.specs.answers.Calm.{IsCalmAt}
use Rattle.gs_laws_chunks.specs.answers.OfTree.{AreSparing}
use Rattle.gs_laws_chunks.specs.answers.Replied.{AreReplied}
use Rattle.gs_laws_chunks.specs.answers.Resting.{IsLooking}
use Rattle.gs_laws_chunks.specs.answers.Served.{AreServed}
use Rattle.gs_laws_chunks.specs.desks.Reached.{history}
use Rattle.gs_laws_chunks.specs.desks.Within.{IsReachedWithin}
use Rattle.gs_laws_looks.proofs.lemmas.halts.Commits.{commits_halt, fits}
use Rattle.gs_laws_looks.specs.carrying.Carried.{IsCarried}
use Rattle.gs_laws_looks.specs.halts.Unled.{HaltsBy}
use Rattle.gs_laws_world.proofs.lemmas.steady.Keeping.{begins_keeping, run_keeps}
use Rattle.gs_laws_world.proofs.lemmas.steady.Through.{begins_through, run_through}
use Rattle.gs_laws_world.specs.steady.Asking.{MayBeAsked}
use Rattle.gs_laws_world.specs.steady.Saying.{IsStepWithin, KeepsTypes}
use Rattle.gs_laws_world.specs.steady.Through.{LastsThrough}
use Rattle.gs_laws_world.specs.steady.Unarmed.{unarmed}
use Rattle.gs_master_spec.specs.Calls.{told_phase}
use Rattle.gs_master_spec.specs.Durable.{Durable}
use Rattle.gs_master.specs.Masters.{MasterOf}
use Rattle.gs_master_spec.specs.Applied.{replayed}
use Rattle.gs_master_spec.specs.Handling.{new_call}
use Rattle.gs_master_spec.specs.State.{State}
use Rattle.gs_msg.specs.declared.answer.Answer.TheVariants as says
use Rattle.gs_msg.specs.declared.call.Call.{Call}
use Rattle.gs_msg.specs.declared.call.Call.TheVariants as calls
use Rattle.gs_msg.specs.declared.event.Request.TheVariants as requests
use Rattle.gs_nodes.specs.Nodes.{Nodes}
use Rattle.gs_nodes.specs.declared.place.MasterPlace.{MasterPlace}
use Rattle.gs_nodes.specs.declared.place.MasterPlace.TheVariants.{Standing}
use Rattle.gs_shell_desk.specs.Ways.{way_of}
use Rattle.gs_shell_desk.specs.declared.desk.Desk.{Desk}
use Rattle.gs_shell_desk.specs.declared.wire.Wire.{Wire}
use Rattle.gs_world.proofs.Staying.{run_same}
use Rattle.gs_world.specs.Histories.{History}
use Rattle.gs_world.specs.Runs.{Comes as StepComes, RunsTo, Step, Takes}
use Rattle.gs_laws_scripts.proofs.lemmas.explained.Epochs.{IsTold, commit_told, phase_of}
use Rattle.gs_laws_scripts.proofs.lemmas.explained.Listed.{undisturbed_on}
use Rattle.gs_laws_scripts.proofs.lemmas.lists.Dialogues.{BeginsAndCommits}
use Rattle.gs_laws_scripts.proofs.lemmas.lists.Lines.{Carries_at, all_join, answered_on, begun_leads, only_one, prepares_asks, rolls_asks}
use Rattle.gs_laws_scripts.proofs.lemmas.reads.Clients.{begun_mine, still_mine}
use Rattle.gs_laws_scripts.specs.answers.Meeting.{IsClientOf}
use Rattle.gs_laws_scripts.specs.explained.Machine.{Machine, new_machine, new_text}
use Rattle.gs_laws_scripts.specs.explained.Standing.{CommitsStand, IsUndisturbed, ShowsNames, Stands, the_client}

-- a machine that shows the names, at a moment
abbrev shown : ℕ → Durable → Machine
shown moment d = record new_machine { plain = record { tree = mapped_rows (λ chunk. new_text) (fin.entries d.names.tree); kept = None }; phase = told_phase false d.phase; epoch = d.epoch; next_hidden = d.next_hidden; moment = moment }

it_shows : (moment : ℕ) (d : Durable) → ShowsNames d (shown moment d)
it_shows moment d = record { text = λ chunk. new_text; tree = refl; hidden = inl refl; epoch = refl; phase = refl }

module _ (sizes : HaveSizes) {D : Type 0} (seen : D → List ℕ) (failures : D → ℕ) (config : Config) (disks : D × D) (old new : Desk D) (epoch : ℕ) (empty : standing (seen disks.0) (seen disks.1) ≡ fresh) (reached : IsReachedWithin seen failures config disks old) (ours : IsClientOf config old.caller.client) where
  abbrev at : Desk D → Client × Wire D
  at d = (d.caller.client, d.wire)

  module _ (begin commit : Call) (may_begin : MayBeAsked (requests.Call begin)) (may_commit : MayBeAsked (requests.Call commit)) (halt : is_halt commit ≡ true) (one : BeginsAndCommits (Carries_at seen failures) (requests.Call begin) (requests.Call commit) (at old) epoch (at new)) where
    first : StepsSo seen failures true (way_of old.wire) (way_of one.mid.1) reached.sent
    first = begun_leads seen failures (at old) one.mid (requests.Call begin) may_begin one.begins reached.sent reached.covers reached.moment

    mine : IsClientOf config one.mid.0
    mine = begun_mine seen failures config (at old) one.mid (requests.Call begin) ours one.begins

    done : IsCarried seen failures the_client (way_of one.mid.1) first.after commit (says.Epoch epoch) (way_of new.wire)
    done = subst (λ k. IsCarried seen failures k (way_of one.mid.1) first.after commit (says.Epoch epoch) (way_of new.wire)) mine.0 (answered_on seen failures first.after one.mid (at new) commit (says.Epoch epoch) first.covers first.moment may_commit one.commits)

    -- ---- the run to the commit

    abbrev start : History D
    start = reached.reached.begun

    abbrev before : History D
    before = history first.after (way_of one.mid.1)

    abbrev steps : List Step
    steps = reached.reached.steps ++ first.steps

    runs : RunsTo seen failures unarmed steps start before
    runs = joined seen failures true reached.reached.steps first.steps start (history reached.sent (way_of old.wire)) before reached.reached.runs first.runs

    within : AllByRecursion IsStepWithin steps
    within = all_join IsStepWithin reached.reached.steps first.steps reached.within first.within

    few : 1 < 2 ^ 32
    few = omega arith

    types_first : KeepsTypes start
    types_first = begins_keeping seen failures unarmed config 1 disks start few reached.reached.begins

    lasts_first : LastsThrough seen start.nodes.master
    lasts_first = begins_through seen failures unarmed config 1 disks start empty reached.reached.begins

    types : KeepsTypes before
    types = run_keeps seen failures unarmed steps start before runs within types_first

    lasts : LastsThrough seen before.nodes.master
    lasts = run_through seen failures unarmed (λ disk call place lasts. lasts) (λ d disk call place told. told) steps start before runs within types_first lasts_first

    are : AreAsked seen before
    are = stays_unarmed seen failures unarmed steps start before (λ disk call place. refl) runs within types_first lasts_first (begins_asked sizes seen failures unarmed config 1 disks start empty reached.reached.begins)

    -- ---- the commit

    abbrev commit_steps : List Step
    commit_steps = asks_call done.has.moment done.has.req commit ∷ done.has.steps

    to_mid : RunsTo seen failures unarmed (steps ++ commit_steps) start done.mid
    to_mid = joined seen failures true steps commit_steps start before done.mid runs (done.has.asked, (Ok tt, done.has.asks.happens), done.has.runs)

    one_client : length done.mid.nodes.clients ≡ 1
    one_client = (run_same seen failures unarmed (steps ++ commit_steps) start done.mid to_mid).clients ∙ ap (λ (k : Nodes D). length k.clients) reached.reached.begins.nodes

    only : IsOnly the_client done.mid
    only other n there = only_one done.mid.nodes.clients one_client other n there

    served : AreServed done.mid
    served = stays_served seen failures unarmed (unarmed_alone seen failures) (steps ++ commit_steps) start done.mid to_mid (all_join IsStepWithin steps commit_steps within done.has.within) types_first lasts_first
        (begins_asked sizes seen failures unarmed config 1 disks start empty reached.reached.begins) (begins_served sizes seen failures unarmed config 1 disks start empty reached.reached.begins)

    replied : AreReplied done.mid
    replied = run_replied seen failures unarmed (steps ++ commit_steps) start done.mid to_mid (begins_replied seen failures unarmed config 1 disks start reached.reached.begins)

    sparing : AreSparing done.mid
    sparing = stays_sparing seen failures unarmed (unarmed_alone seen failures) (steps ++ commit_steps) start done.mid to_mid (all_join IsStepWithin steps commit_steps within done.has.within) types_first lasts_first
        (begins_sparing sizes seen failures unarmed config 1 disks start empty reached.reached.begins)

    halts : HaltsBy seen failures unarmed the_client before commit (says.Epoch epoch) done.mid done.has
    halts = commits_halt seen failures unarmed the_client before done.mid commit (says.Epoch epoch) are types lasts halt done.has only

    -- right after it no prepare is begun
    later : AllByRecursion (IsLooking the_client) (halts.made.before ++ StepComes halts.made.event ∷ halts.made.after)
    later = subst (AllByRecursion (IsLooking the_client)) halts.made.parts done.has.looking

    within_all : AllByRecursion IsStepWithin (halts.made.before ++ StepComes halts.made.event ∷ halts.made.after)
    within_all = subst (AllByRecursion IsStepWithin) halts.made.parts done.has.within.1

    lasts_then : LastsThrough seen halts.made.now.nodes.master
    lasts_then = run_through seen failures unarmed (λ disk call place lasts. lasts) (λ d disk call place told. told) (asks_call done.has.moment done.has.req commit ∷ halts.made.before) before halts.made.now (done.has.asked, (Ok tt, done.has.asks.happens), halts.made.first)
        (done.has.within.0, all_front IsStepWithin halts.made.before (StepComes halts.made.event ∷ halts.made.after) within_all) types lasts

    calm : IsCalmAt done.mid.nodes.master
    calm = stays_calm seen failures unarmed halts.durable the_client (suc done.has.req.number) halts.made.after halts.made.next done.mid halts.made.rest (all_back IsStepWithin halts.made.before (StepComes halts.made.event ∷ halts.made.after) within_all).1
        (all_back (IsLooking the_client) halts.made.before (StepComes halts.made.event ∷ halts.made.after) later).1 halts.begun.types halts.begun.lasts halts.begun.still
        (commits_are_calm seen failures unarmed halts.made.now halts.made.next halts.made.event halts.made.said halts.made.happens done.has.req commit (says.Epoch epoch) halt lasts_then halts.made.answers)

    rests : IsUndisturbed seen halts.durable (suc done.has.req.number) (history done.after (way_of new.wire))
    rests = undisturbed_on seen failures halts.durable (suc done.has.req.number) (Takes the_client ∷ []) done.mid (history done.after (way_of new.wire)) done.takes (tt, tt) ((refl, tt), tt)
        (record { still = halts.halted.still; asked = halts.halted.asked; types = halts.halted.types; lasts = halts.halted.lasts; served = served; replied = replied; sparing = sparing; calm = calm; one = one_client })

    -- ---- the turn of the commit

    abbrev s : State
    s = halts.made.answers.master.state

    within_parts : AllByRecursion IsStepWithin (halts.made.before ++ StepComes halts.made.event ∷ halts.made.after)
    within_parts = subst (AllByRecursion IsStepWithin) halts.made.parts done.has.within.1

    abbrev to_now : List Step
    to_now = asks_call done.has.moment done.has.req commit ∷ halts.made.before

    runs_now : RunsTo seen failures unarmed to_now before halts.made.now
    runs_now = (done.has.asked, (Ok tt, done.has.asks.happens), halts.made.first)

    within_now : AllByRecursion IsStepWithin to_now
    within_now = (done.has.within.0, all_front IsStepWithin halts.made.before (StepComes halts.made.event ∷ halts.made.after) within_parts)

    its_fits : replayed s.durable (new_call halts.made.answers.master.config s done.has.req halts.made.event.moment commit).records ≡ Some (new_call halts.made.answers.master.config s done.has.req halts.made.event.moment commit).after.durable
    its_fits =
        fits seen failures unarmed halts.made.now halts.made.next halts.made.event halts.made.said halts.made.happens done.has.req commit (says.Epoch epoch) halt (all_back IsStepWithin halts.made.before (StepComes halts.made.event ∷ halts.made.after) within_parts).0
        (run_keeps seen failures unarmed to_now before halts.made.now runs_now within_now types) (run_through seen failures unarmed (λ disk call place lasts. lasts) (λ d disk call place told. told) to_now before halts.made.now runs_now within_now types lasts) halts.made.answers

    its : MadeThere seen failures unarmed halts.made.now halts.made.event.moment halts.made.answers.master done.has.req commit (says.Epoch epoch) halts.made.next.nodes
    its = made_there seen failures unarmed halts.made.now halts.made.event halts.made.said halts.made.next halts.made.happens done.has.req commit (says.Epoch epoch) halts.made.answers

    standing_is : {p q : MasterOf D} → ◌≡◌ {A = MasterPlace D} (Standing p) (Standing q) → p ≡ q
    standing_is e = cc

    after_is : (new_call halts.made.answers.master.config s done.has.req halts.made.event.moment commit).after.durable ≡ halts.durable
    after_is = ap (λ (u : State). u.durable) (sym its.is) ∙ ap (λ (n : MasterOf D). n.state.durable) (standing_is (sym its.stands ∙ halts.stands.stands)) ∙ halts.stands.keeps

    told : IsTold halts.durable epoch (phase_of commit)
    told = subst (λ d. IsTold d epoch (phase_of commit)) after_is (commit_told halts.made.answers.master.config s done.has.req halts.made.event.moment epoch commit halt its.says its_fits)

    stands_then : (m : Machine) × Stands seen config new m × (m.epoch ≡ epoch) × (m.phase ≡ phase_of commit)
    stands_then = (
      shown new.wire.moment.0 halts.durable,
      record {
        sent = done.after;
        covers = done.covers;
        moment = subst (λ (m : Moment). IsNumber m.0) (sym done.moment) first.moment;
        ours = still_mine seen failures config one.mid (at new) (requests.Call commit) (replies.Answer (says.Epoch epoch)) mine one.commits;
        durable = halts.durable;
        number = suc done.has.req.number;
        rests = rests;
        shows = it_shows new.wire.moment.0 halts.durable;
        now = refl;
      },
      told.0,
      told.1,
    )

pub commits_stand : HaveSizes → {D : Type 0} → CommitsStand D
commits_stand sizes seen failures config disks old new by epoch empty reached ours (inl prepares) comes =
    stands_then sizes seen failures config disks old new epoch empty reached ours calls.PrepareBegin calls.PrepareCommit (record { named = tt; met = λ names. tt }) (record { named = tt; met = λ names. tt }) refl (prepares_asks seen failures by prepares old new epoch comes)
commits_stand sizes seen failures config disks old new by epoch empty reached ours (inr rolls) comes =
    stands_then sizes seen failures config disks old new epoch empty reached ours calls.RollbackBegin calls.RollbackCommit (record { named = tt; met = λ names. tt }) (record { named = tt; met = λ names. tt }) refl (rolls_asks seen failures by rolls old new epoch comes)
