-- What a client lists behind a rollback is what it listed behind its prepare.
use Rattle.std.proofs.Common.{◌≡◌, ◌∙◌, ◌++◌, ◌+◌, ℕ, Bool, true, false, List, [], ◌∷◌, Option, Some, None, Result, Ok, refl, sym, ap, subst}
use Rattle.std.specs.Prelude.{MatchBool}
use Rattle.std.specs.FinMap as fin
use Rattle.std.specs.List.{AllByRecursion}
use Rattle.std.proofs.lemmas.Bool.{false≢true, and_parts}
use Rattle.gs_base.specs.declared.config.Config.{Config}
use Rattle.gs_base.specs.declared.numbers.ClientId.{ClientId}
use Rattle.gs_base.specs.declared.numbers.Moment.{Moment}
use Rattle.gs_base.specs.declared.refusal.Refusal.{Refusal}
use Rattle.gs_edit.specs.View.{NamesView}
use Rattle.gs_master.specs.Journaled.{text_seen}
use Rattle.gs_master.specs.Masters.{MasterOf}
use Rattle.gs_laws_moves.proofs.lemmas.answers.Resting.{commits_had}
use Rattle.gs_laws_moves.specs.answers.Resting.{Commits}
use Rattle.gs_laws_master.proofs.lemmas.standing.StandingRuns.{events_fit}
use Rattle.gs_laws_master.specs.Standing.{Comes as Comes_to, IsFirm, IsNamedCall}
use Rattle.gs_master_spec.specs.Applied.{replayed}
use Rattle.gs_master_spec.specs.Calls.{listing, refused_before}
use Rattle.gs_master_spec.specs.Durable.{Durable, is_ordinary, is_rolling, is_upgrade}
use Rattle.gs_master_spec.specs.Handling.{call_turn, handle, new_call}
use Rattle.gs_master_spec.specs.State.{Failed, Fault, Sound, State, Turn, Unopened, is_failed, is_unopened}
use Rattle.gs_msg.specs.declared.answer.Answer.{Answer}
use Rattle.gs_msg.specs.declared.answer.Answer.TheVariants as answers
use Rattle.gs_msg.specs.declared.body.Body.TheVariants as bodies
use Rattle.gs_msg.specs.declared.call.Call.{Call}
use Rattle.gs_msg.specs.declared.call.Call.TheVariants as calls
use Rattle.gs_msg.specs.declared.message.Message.{Message}
use Rattle.gs_msg.specs.declared.node.NodeId.TheVariants as nodes
use Rattle.gs_nodes.specs.declared.place.MasterPlace.{MasterPlace}
use Rattle.gs_nodes.specs.declared.place.MasterPlace.TheVariants.{Standing, Closed, Away}
use Rattle.gs_path.specs.Path.{Path}
use Rattle.gs_world.proofs.Reaching.{HaveSizes}
use Rattle.gs_world.specs.Histories.{History}
use Rattle.gs_laws_world.specs.lasting.Lasting.{IsToldIn}
use Rattle.gs_world.specs.Runs.{Comes, Goes, RunsTo, Step}
use Rattle.gs_laws_chunks.specs.answers.Answered.{WasAnswered}
use Rattle.gs_laws_chunks.specs.answers.Asked.{AreAsked}
use Rattle.gs_laws_chunks.specs.answers.Behind.{HasAnswer, ListsByCommit, StandsOn, asks_call, is_halt}
use Rattle.gs_laws_chunks.proofs.lemmas.answers.Asked.{begins_asked, stays_unarmed}
use Rattle.gs_base.specs.Told.{IsNumber}
use Rattle.gs_nodes.specs.Happenings.{client_in}
use Rattle.gs_laws_chunks.proofs.lemmas.answers.Answered.{answers_are_made}
use Rattle.gs_laws_chunks.proofs.lemmas.answers.Behind.{MadeThere, all_back, all_front, all_spare, firm_so, halt_at_once, halt_commits, lists_are_by_commits, made_there, turn_is}
use Rattle.gs_laws_chunks.proofs.lemmas.accounts.Well.{IsWell, bare_well, begins_well, step_well}
use Rattle.gs_laws_chunks.specs.accounts.Back.{GoesBackBy, ToldNamesBack}
use Rattle.gs_laws_chunks.specs.accounts.Rising.{EpochsNeverFall}
use Rattle.gs_laws_chunks.specs.accounts.Running.{IsArmed, IsGiven, IsToldAt, ReplicaAmong, RunsBare, SealAmong, Setup, StepsWithin}
use Rattle.gs_replica.specs.Seals.{Sealed}
use Rattle.gs_laws_world.specs.steady.Unarmed.{unarmed}
use Rattle.gs_laws_world.specs.steady.Saying.{IsStepWithin}
use Rattle.gs_laws_world.specs.steady.Through.{LastsThrough}
use Rattle.gs_laws_looks.specs.lists.Listed.{EpochsAreNumbers, ListsComeBack, ListsTwice}
use Rattle.gs_laws_looks.proofs.lemmas.lists.Commits.{IsPrepared, IsRolledBack, commit_so, prepare_so}
use Rattle.gs_laws_looks.proofs.lemmas.lists.Rising.{all_between, same_rising}

-- ---- every block is among all

seals_among : (size : ℕ) (o : Option Sealed) → SealAmong size (λ b. true) o
seals_among size None = tt
seals_among size (Some t) = λ i low. refl

replicas_among : (size : ℕ) (o : Option _) → ReplicaAmong size (λ b. true) o
replicas_among size None = tt
replicas_among size (Some r) = ((λ i low. refl), seals_among size r.sealed)

-- ---- a fault

opened : (f : Fault) → is_failed f ≡ false → is_unopened f ≡ false
opened Sound is = refl
opened (Failed doubt) is = refl
opened (Unopened doubt) is = absurd (false≢true (sym is))

halt_named : (call : Call) → is_halt call ≡ true → IsNamedCall call
halt_named calls.PrepareCommit is = tt
halt_named calls.RollbackCommit is = tt
halt_named call is = absurd (false≢true is)

all_join : {A : Type 0} (S : A → Type 0) (xs ys : List A) → AllByRecursion S xs → AllByRecursion S ys → AllByRecursion S (xs ++ ys)
all_join S [] ys first second = second
all_join S (x ∷ xs) ys first second = (first.0, all_join S xs ys first.1 second)

module _ (sizes : HaveSizes) {D : Type 0} (rises : (x : Setup D) → EpochsNeverFall x) (back : (x : Setup D) → ToldNamesBack x) (seen : D → List ℕ) (failures : D → ℕ) (config : Config) (clients : ℕ) (disks : D × D) where
  abbrev x : Setup D
  x = record { seen = seen; failures = failures; armed = unarmed; config = config; clients = clients; disks = disks; among = λ b. true; fails = true }

  still : (place : MasterPlace D) → IsArmed seen place place
  still (Standing m) = (m.journal, refl, record { first = refl; second = refl; others = refl })
  still (Closed first second) = (first, second, refl, refl, refl)
  still Away = refl

  step_bare : (step : Step) (old new : History D) → Goes seen failures unarmed step old new → IsStepWithin step → StepsWithin x step old new
  step_bare step old new goes within = record { goes = goes; within = within; among = λ id chunk s there. (replicas_among s.block _, replicas_among s.block _); sound = λ never. absurd (false≢true (sym never)) }

  run_bare : (steps : List Step) (old new : History D) → RunsTo seen failures unarmed steps old new → AllByRecursion IsStepWithin steps → RunsBare x steps old new
  run_bare [] old new is within = is
  run_bare (step ∷ steps) old new (mid, goes, rest) within = (mid, step_bare step old mid goes within.0, run_bare steps mid new rest within.1)

  run_join : (first second : List Step) (old mid new : History D) → RunsTo seen failures unarmed first old mid → RunsTo seen failures unarmed second mid new → RunsTo seen failures unarmed (first ++ second) old new
  run_join [] second old mid new is runs = subst (λ (h : History D). RunsTo seen failures unarmed second h new) is runs
  run_join (step ∷ first) second old mid new (h, goes, rest) runs = (h, goes, run_join first second h mid new rest runs)

  told_sound : (m : MasterOf D) → is_failed m.state.fault ≡ false → IsToldAt seen (Standing m) m.state.durable
  told_sound m sound = subst (λ (b : Bool). MatchBool b (IsToldIn (text_seen seen m.journal) m.state.durable) (m.state.durable ≡ m.state.durable)) (sym sound) refl

  module _ (given : IsGiven x) where
    record Good (h : History D) : Type 0 where
      are : AreAsked seen h
      well : IsWell x h

    good_on : (steps : List Step) (old new : History D) → RunsTo seen failures unarmed steps old new → AllByRecursion IsStepWithin steps → Good old → Good new
    good_on steps old new runs within g = record {
      are = stays_unarmed seen failures unarmed steps old new (λ disk call place. refl) runs within g.well.types g.well.steady g.are;
      well = bare_well x given steps old new (run_bare steps old new runs within) g.well;
    }

    -- ---- a commit

    module _ (client : ClientId) (old mid : History D) (call : Call) (epoch : ℕ) (halt : is_halt call ≡ true) (c : HasAnswer seen failures unarmed client old call (answers.Epoch epoch) mid) (g : Good old) (made : WasAnswered seen failures unarmed c.steps c.asked mid c.req call (answers.Epoch epoch)) (d : Durable)
        (stands : StandsOn made.next.nodes.master d) where
      abbrev ask : Step
      ask = asks_call c.moment c.req call

      within_parts : AllByRecursion IsStepWithin (made.before ++ Comes made.event ∷ made.after)
      within_parts = subst (AllByRecursion IsStepWithin) made.parts c.within.1

      to_now : RunsTo seen failures unarmed (ask ∷ made.before) old made.now
      to_now = (c.asked, (Ok tt, c.asks.happens), made.first)

      within_now : AllByRecursion IsStepWithin (ask ∷ made.before)
      within_now = (c.within.0, all_front IsStepWithin made.before (Comes made.event ∷ made.after) within_parts)

      within_here : AllByRecursion IsStepWithin (Comes made.event ∷ made.after)
      within_here = all_back IsStepWithin made.before (Comes made.event ∷ made.after) within_parts

      good_now : Good made.now
      good_now = good_on (ask ∷ made.before) old made.now to_now within_now g

      to_mid : RunsTo seen failures unarmed (ask ∷ c.steps) old mid
      to_mid = (c.asked, (Ok tt, c.asks.happens), c.runs)

      good_mid : Good mid
      good_mid = good_on (ask ∷ c.steps) old mid to_mid c.within g

      abbrev m : MasterOf D
      m = made.answers.master

      abbrev s : State
      s = made.answers.master.state

      abbrev t : Turn
      t = new_call made.answers.master.config made.answers.master.state c.req made.event.moment call

      there : MadeThere seen failures unarmed made.now made.event.moment made.answers.master c.req call (answers.Epoch epoch) made.next.nodes
      there = made_there seen failures unarmed made.now made.event made.said made.next made.happens c.req call (answers.Epoch epoch) made.answers

      commits : Commits s c.req call t
      commits = commits_had made.answers.master.config s c.req made.event.moment call (answers.Epoch epoch) (halt_commits call halt) made.answers.new there.says

      firm : IsFirm s
      firm = firm_so seen failures unarmed made.answers.master (subst (LastsThrough seen) made.answers.stands good_now.well.steady) commits.sound

      abbrev its_message : Message
      its_message = record { from = nodes.Client c.req.client; to = nodes.Master; body = bodies.Call c.req call }

      handles : (sizes_of : Config) (u : State) (moment : Moment) → handle sizes_of u its_message moment ≡ call_turn sizes_of u c.req moment call
      unfolding handle
      handles sizes_of u moment = refl

      fits : replayed s.durable t.records ≡ Some t.after.durable
      fits = subst (λ (u : Turn). replayed s.durable u.records ≡ Some u.after.durable)
          (handles made.answers.master.config s made.event.moment ∙ turn_is made.answers.master.config s c.req made.event.moment call (opened s.fault commits.sound) made.answers.apart made.answers.new)
          (events_fit made.answers.master.config s (Comes_to its_message made.event.moment) (halt_named call halt, within_here.0.0) firm).fits

      after_firm : IsFirm t.after
      after_firm = subst (λ (u : Turn). IsFirm u.after) (handles made.answers.master.config s made.event.moment ∙ turn_is made.answers.master.config s c.req made.event.moment call (opened s.fault commits.sound) made.answers.apart made.answers.new)
          (events_fit made.answers.master.config s (Comes_to its_message made.event.moment) (halt_named call halt, within_here.0.0) firm).firm

      standing_is : {a b : MasterOf D} → ◌≡◌ {A = MasterPlace D} (Standing a) (Standing b) → a ≡ b
      standing_is is = cc

      d_is : t.after.durable ≡ d
      d_is = ap (λ (u : State). u.durable) (sym there.is) ∙ ap (λ (n : MasterOf D). n.state.durable) (standing_is (sym there.stands ∙ stands.stands)) ∙ stands.keeps

      told_now : IsToldAt seen made.now.nodes.master s.durable
      told_now = subst (λ p. IsToldAt seen p s.durable) (sym made.answers.stands) (told_sound made.answers.master commits.sound)

      told_next : IsToldAt seen made.next.nodes.master d
      told_next = subst (λ e. IsToldAt seen made.next.nodes.master e) stands.keeps (subst (λ p. IsToldAt seen p stands.master.state.durable) (sym stands.stands) (told_sound stands.master stands.sound))

      step : StepsWithin x (Comes made.event) made.now made.next
      step = step_bare (Comes made.event) made.now made.next (made.said, made.happens) within_here.0

  -- ---- the epoch that is answered

  module _ (given : IsGiven x) (client : ClientId) (old mid : History D) (call : Call) (epoch : ℕ) (halt : is_halt call ≡ true) (c : HasAnswer seen failures unarmed client old call (answers.Epoch epoch) mid) (g : Good given old) where
    its_made : WasAnswered seen failures unarmed c.steps c.asked mid c.req call (answers.Epoch epoch)
    its_made = (answers_are_made seen failures unarmed old c.asked mid c.moment c.req call c.steps c.node (answers.Epoch epoch) g.are c.asks (halt_at_once call halt) c.runs (all_spare client c.steps c.looking)
        (subst (λ k. client_in mid.nodes.clients k ≡ Some c.node) (sym c.own) c.there) c.last c.reply).0

    its_there : MadeThere seen failures unarmed its_made.now its_made.event.moment its_made.answers.master c.req call (answers.Epoch epoch) its_made.next.nodes
    its_there = made_there seen failures unarmed its_made.now its_made.event its_made.said its_made.next its_made.happens c.req call (answers.Epoch epoch) its_made.answers

    its_commits : Commits its_made.answers.master.state c.req call (new_call its_made.answers.master.config its_made.answers.master.state c.req its_made.event.moment call)
    its_commits = commits_had its_made.answers.master.config its_made.answers.master.state c.req its_made.event.moment call (answers.Epoch epoch) (halt_commits call halt) its_made.answers.new its_there.says

    its_stands : StandsOn its_made.next.nodes.master its_there.after.state.durable
    its_stands = record { master = its_there.after; stands = its_there.stands; sound = ap (λ (u : State). is_failed u.fault) its_there.is ∙ ap is_failed its_commits.fault ∙ its_commits.sound; keeps = refl }

    its_fits : replayed its_made.answers.master.state.durable (new_call its_made.answers.master.config its_made.answers.master.state c.req its_made.event.moment call).records
        ≡ Some (new_call its_made.answers.master.config its_made.answers.master.state c.req its_made.event.moment call).after.durable
    its_fits = fits given client old mid call epoch halt c g its_made its_there.after.state.durable its_stands

    its_firm : IsFirm its_made.answers.master.state
    its_firm = firm given client old mid call epoch halt c g its_made its_there.after.state.durable its_stands

    its_after_firm : IsFirm (new_call its_made.answers.master.config its_made.answers.master.state c.req its_made.event.moment call).after
    its_after_firm = after_firm given client old mid call epoch halt c g its_made its_there.after.state.durable its_stands

  numbers : (given : IsGiven x) (client : ClientId) (old mid : History D) (call : Call) (epoch : ℕ) (halt : is_halt call ≡ true) (c : HasAnswer seen failures unarmed client old call (answers.Epoch epoch) mid) → Good given old → IsNumber epoch
  numbers given client old mid calls.PrepareCommit epoch halt c g =
      let made = its_made given client old mid calls.PrepareCommit epoch halt c g in
      let so = prepare_so made.answers.master.config made.answers.master.state c.req made.event.moment epoch (refused_before made.answers.master.state c.req calls.PrepareCommit) (its_there given client old mid calls.PrepareCommit epoch halt c g).says
      (its_fits given client old mid calls.PrepareCommit epoch halt c g) in
      subst IsNumber so.begins (its_after_firm given client old mid calls.PrepareCommit epoch halt c g).stands.kept.now
  numbers given client old mid calls.RollbackCommit epoch halt c g =
      let made = its_made given client old mid calls.RollbackCommit epoch halt c g in
      let so = commit_so made.answers.master.config made.answers.master.state c.req made.event.moment epoch (refused_before made.answers.master.state c.req calls.RollbackCommit) (its_there given client old mid calls.RollbackCommit epoch halt c g).says
      (its_fits given client old mid calls.RollbackCommit epoch halt c g) in
      subst IsNumber so.within (its_firm given client old mid calls.RollbackCommit epoch halt c g).stands.kept.now
  numbers given client old mid call epoch halt c g = absurd (false≢true halt)

  pub epochs_so : EpochsAreNumbers seen failures config clients disks
  epochs_so client call epoch new few begun old mid first begins runs within halt c =
      let given : IsGiven x = record { new = new; few = few; armed = λ disk number place. still place; empty = refl } in
      numbers given client old mid call epoch halt c (good_on given first begun old runs within (record { are = begins_asked sizes seen failures unarmed config clients disks begun new begins; well = begins_well x given begun begins }))

  -- ---- twice

  module _ (client : ClientId) (path : Path) (epoch : ℕ) (had has : Answer) (l : ListsTwice seen failures config clients disks client path epoch had has) where
    given : IsGiven x
    given = record { new = l.new; few = l.few; armed = λ disk call place. still place; empty = refl }

    begun : Good given l.begun
    begun = record { are = begins_asked sizes seen failures unarmed config clients disks l.begun l.new l.begins; well = begins_well x given l.begun l.begins }

    old : Good given l.old
    old = good_on given l.first l.begun l.old l.runs l.within begun

    one : ListsByCommit seen failures unarmed client l.old calls.PrepareCommit (answers.Epoch epoch) l.prepared path had l.prepares
    one = lists_are_by_commits seen failures unarmed client l.old l.prepared l.listed calls.PrepareCommit (answers.Epoch epoch) had path old.are old.well.types old.well.steady refl l.prepares l.only l.way.steps l.way.end l.way.runs l.way.within l.way.looking l.lists

    prepared : Good given l.prepared
    prepared = good_mid given client l.old l.prepared calls.PrepareCommit epoch refl l.prepares old one.made one.durable one.stands

    abbrev list_step : List Step
    list_step = asks_call l.lists.moment l.lists.req (calls.List path) ∷ l.lists.steps

    ready : Good given l.way.end
    ready = good_on given l.way.steps l.prepared l.way.end l.way.runs l.way.within prepared

    to_listed : RunsTo seen failures unarmed list_step l.way.end l.listed
    to_listed = (l.lists.asked, (Ok tt, l.lists.asks.happens), l.lists.runs)

    listed : Good given l.listed
    listed = good_on given list_step l.way.end l.listed to_listed l.lists.within ready

    later : Good given l.later
    later = good_on given l.between l.listed l.later l.passes l.within_between listed

    two : ListsByCommit seen failures unarmed client l.later calls.RollbackCommit (answers.Epoch (epoch + 1)) l.back path has l.commits
    two = lists_are_by_commits seen failures unarmed client l.later l.back l.last calls.RollbackCommit (answers.Epoch (epoch + 1)) has path later.are later.well.types later.well.steady refl l.commits l.only_then l.way_then.steps l.way_then.end l.way_then.runs l.way_then.within l.way_then.looking l.again

    abbrev before : Durable
    before = one.durable

    abbrev rolling : Durable
    rolling = two.made.answers.master.state.durable

    is_prepared : IsPrepared one.made.answers.master.state.durable before epoch
    is_prepared = subst (λ e. IsPrepared one.made.answers.master.state.durable e epoch) (d_is given client l.old l.prepared calls.PrepareCommit epoch refl l.prepares old one.made one.durable one.stands)
        (prepare_so one.made.answers.master.config one.made.answers.master.state l.prepares.req one.made.event.moment epoch (refused_before one.made.answers.master.state l.prepares.req calls.PrepareCommit)
        (there given client l.old l.prepared calls.PrepareCommit epoch refl l.prepares old one.made one.durable one.stands).says (fits given client l.old l.prepared calls.PrepareCommit epoch refl l.prepares old one.made one.durable one.stands))

    is_rolled : IsRolledBack rolling two.durable (epoch + 1)
    is_rolled = subst (λ e. IsRolledBack rolling e (epoch + 1)) (d_is given client l.later l.back calls.RollbackCommit (epoch + 1) refl l.commits later two.made two.durable two.stands)
        (commit_so two.made.answers.master.config two.made.answers.master.state l.commits.req two.made.event.moment (epoch + 1) (refused_before two.made.answers.master.state l.commits.req calls.RollbackCommit)
        (there given client l.later l.back calls.RollbackCommit (epoch + 1) refl l.commits later two.made two.durable two.stands).says (fits given client l.later l.back calls.RollbackCommit (epoch + 1) refl l.commits later two.made two.durable two.stands))

    -- what comes between
    abbrev tail : List Step
    tail = asks_call l.commits.moment l.commits.req calls.RollbackCommit ∷ two.made.before

    abbrev way : List Step
    way = one.made.after ++ (l.way.steps ++ (list_step ++ (l.between ++ tail)))

    to_rolling : RunsTo seen failures unarmed way one.made.next two.made.now
    to_rolling =
        run_join one.made.after (l.way.steps ++ (list_step ++ (l.between ++ tail))) one.made.next l.prepared two.made.now one.made.rest
        (run_join l.way.steps (list_step ++ (l.between ++ tail)) l.prepared l.way.end two.made.now l.way.runs
        (run_join list_step (l.between ++ tail) l.way.end l.listed two.made.now to_listed
        (run_join l.between tail l.listed l.later two.made.now l.passes (l.commits.asked, (Ok tt, l.commits.asks.happens), two.made.first))))

    way_within : AllByRecursion IsStepWithin way
    way_within =
        all_join IsStepWithin one.made.after (l.way.steps ++ (list_step ++ (l.between ++ tail))) (within_here given client l.old l.prepared calls.PrepareCommit epoch refl l.prepares old one.made one.durable one.stands).1
        (all_join IsStepWithin l.way.steps (list_step ++ (l.between ++ tail)) l.way.within
        (all_join IsStepWithin list_step (l.between ++ tail) l.lists.within
        (all_join IsStepWithin l.between tail l.within_between (within_now given client l.later l.back calls.RollbackCommit (epoch + 1) refl l.commits later two.made two.durable two.stands))))

    first_step : StepsWithin x (Comes one.made.event) one.made.now one.made.next
    first_step = step given client l.old l.prepared calls.PrepareCommit epoch refl l.prepares old one.made one.durable one.stands

    now_good : Good given one.made.now
    now_good = good_now given client l.old l.prepared calls.PrepareCommit epoch refl l.prepares old one.made one.durable one.stands

    behind : IsWell x one.made.next
    behind = step_well x given (Comes one.made.event) one.made.now one.made.next now_good.well first_step

    goes : GoesBackBy x (IsToldAt seen) one.made.next two.made.next before two.durable
    goes =
        let told = told_next given client l.old l.prepared calls.PrepareCommit epoch refl l.prepares old one.made one.durable one.stands in
        let rolls = told_now given client l.later l.back calls.RollbackCommit (epoch + 1) refl l.commits later two.made two.durable two.stands in
        let upgrade = (and_parts (is_ordinary one.made.answers.master.state.durable.phase) (is_upgrade before.phase) is_prepared.accepted).1 in
        let rolled = (and_parts (is_rolling rolling.phase) (is_ordinary two.durable.phase) is_rolled.rolls).0 in
        let next : rolling.epoch ≡ before.epoch + 1 = is_rolled.within ∙ ap (λ k. k + 1) (sym is_prepared.begins) in
        let head = asks_call l.prepares.moment l.prepares.req calls.PrepareCommit ∷ one.made.before in record {
          given = given;
          begun = l.begun;
          begins = l.begins;
          first = l.first ++ head;
          old = one.made.now;
          runs = run_bare (l.first ++ head) l.begun one.made.now (run_join l.first head l.begun l.old one.made.now l.runs (to_now given client l.old l.prepared calls.PrepareCommit epoch refl l.prepares old one.made one.durable one.stands))
              (all_join IsStepWithin l.first head l.within (within_now given client l.old l.prepared calls.PrepareCommit epoch refl l.prepares old one.made one.durable one.stands));
          ordinary = one.made.answers.master.state.durable;
          stood = told_now given client l.old l.prepared calls.PrepareCommit epoch refl l.prepares old one.made one.durable one.stands;
          step = Comes one.made.event;
          steps = first_step;
          keeps = told;
          accepted = is_prepared.accepted;
          between = way;
          now = two.made.now;
          rest = all_between x (rises x) given before rolling upgrade rolled next way one.made.next two.made.now before (run_bare way one.made.next two.made.now to_rolling way_within) behind told (same_rising before) rolls;
          rolling = rolling;
          rolls = rolls;
          commit = Comes two.made.event;
          commits = step given client l.later l.back calls.RollbackCommit (epoch + 1) refl l.commits later two.made two.durable two.stands;
          ended = told_next given client l.later l.back calls.RollbackCommit (epoch + 1) refl l.commits later two.made two.durable two.stands;
          done = is_rolled.rolls;
        }

    answer_is : {a b : Answer} → ◌≡◌ {A = Result Answer Refusal} (Ok a) (Ok b) → a ≡ b
    answer_is is = cc

    pub same : has ≡ had
    same = answer_is (sym two.lists ∙ ap (λ (n : NamesView). listing (fin.entries n.tree) path (fin.get n.tree path)) (back x one.made.next two.made.next before two.durable goes) ∙ one.lists)

pub lists_come_back : HaveSizes → {D : Type 0} → ((x : Setup D) → EpochsNeverFall x) → ((x : Setup D) → ToldNamesBack x) → (seen : D → List ℕ) (failures : D → ℕ) (config : Config) (clients : ℕ) (disks : D × D) → ListsComeBack seen failures config clients disks
lists_come_back sizes {D} rises back seen failures config clients disks client path epoch had has l = same sizes rises back seen failures config clients disks client path epoch had has l

pub epochs_are_numbers : HaveSizes → {D : Type 0} → ((x : Setup D) → EpochsNeverFall x) → ((x : Setup D) → ToldNamesBack x) → (seen : D → List ℕ) (failures : D → ℕ) (config : Config) (clients : ℕ) (disks : D × D) → EpochsAreNumbers seen failures config clients disks
epochs_are_numbers sizes rises back seen failures config clients disks = epochs_so sizes rises back seen failures config clients disks
