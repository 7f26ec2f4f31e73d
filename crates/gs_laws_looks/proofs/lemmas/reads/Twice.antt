-- What a client reads behind a rollback is what it read behind its prepare.
use Rattle.std.proofs.Common.{◌≡◌, ◌∙◌, ◌+◌, ◌++◌, Bool, true, false, List, [], ◌∷◌, None, Option, Some, Ok, ℕ, suc, refl, sym, ap, subst, slice_get}
use Rattle.std.specs.Prelude.{length}
use Rattle.std.specs.FinMap as fin
use Rattle.std.specs.List.{AllByRecursion}
use Rattle.std.proofs.lemmas.Bool.{and_parts, false≢true}
use Rattle.gs_base.specs.declared.config.Config.{Config}
use Rattle.gs_base.specs.declared.numbers.ClientId.{ClientId}
use Rattle.gs_block.specs.Stored.{digest_at}
use Rattle.gs_block.specs.Written.{TellsApart}
use Rattle.gs_laws_looks.proofs.lemmas.clients.Following.{digests_what_stands, reads_what_stands}
use Rattle.gs_laws_looks.proofs.lemmas.clients.Located.{digesters_ask_so, readers_ask_so}
use Rattle.gs_laws_looks.specs.clients.Files.{AreOf, Stands, read_of, text_at, text_in}
use Rattle.gs_laws_looks.specs.clients.Located.{AskSo}
use Rattle.gs_edit.specs.View.{NamesView}
use Rattle.gs_master.specs.Masters.{MasterOf}
use Rattle.gs_master_record.specs.declared.checkpoint.Phase.{Phase}
use Rattle.gs_master_record.specs.declared.checkpoint.Phase.TheVariants.{Ordinary, Upgrade, Rolling}
use Rattle.gs_master_spec.specs.Calls.{chunks_at, found_chunk, refused_before}
use Rattle.gs_master_spec.specs.Durable.{Durable, is_listed, is_ordinary, is_rolling, is_upgrade}
use Rattle.gs_master_spec.specs.Applied.{replayed}
use Rattle.gs_master_spec.specs.Handling.{new_call}
use Rattle.gs_master_spec.specs.State.{State, Turn}
use Rattle.gs_laws_moves.specs.answers.Resting.{Commits}
use Rattle.gs_msg.specs.declared.answer.Answer.TheVariants as answers
use Rattle.gs_msg.specs.declared.call.Call.{Call}
use Rattle.gs_msg.specs.declared.call.Call.TheVariants as calls
use Rattle.gs_nodes.specs.declared.place.MasterPlace.{MasterPlace}
use Rattle.gs_nodes.specs.declared.place.MasterPlace.TheVariants.{Standing}
use Rattle.gs_path.specs.Path.{Path}
use Rattle.gs_tree.specs.Edits.{chunks_in}
use Rattle.gs_tree.specs.Entry.{Dir, Entry, File}
use Rattle.gs_world.proofs.Reaching.{HaveSizes}
use Rattle.gs_world.specs.Histories.{History}
use Rattle.gs_world.specs.Runs.{Comes, RunsTo, Step}
use Rattle.gs_laws_chunks.proofs.lemmas.answers.Asked.{begins_asked, stays_unarmed}
use Rattle.gs_laws_chunks.proofs.lemmas.answers.Behind.{MadeThere}
use Rattle.gs_laws_chunks.specs.answers.Asked.{AreAsked}
use Rattle.gs_laws_chunks.specs.answers.Behind.{HasAnswer, asks_call, is_halt}
use Rattle.gs_laws_chunks.specs.answers.Resting.{IsLooking}
use Rattle.gs_laws_looks.proofs.lemmas.rollbacks.Lists.{both_reached}
use Rattle.gs_laws_chunks.proofs.lemmas.accounts.Accounted.{RolledBackSo}
use Rattle.gs_laws_chunks.proofs.lemmas.accounts.Edits.{AreNumbered}
use Rattle.gs_laws_chunks.proofs.lemmas.accounts.ToldBack.{rolled_told}
use Rattle.gs_laws_chunks.proofs.lemmas.accounts.Well.{IsWell, bare_well, begins_well}
use Rattle.gs_laws_chunks.specs.accounts.Accounts.{Account, settled_edits, text_of}
use Rattle.gs_laws_chunks.specs.accounts.Back.{GivesSettledBack, GoesBackBy, ToldNamesBack}
use Rattle.gs_laws_chunks.specs.accounts.Reading.{BytesAreFetched}
use Rattle.gs_laws_chunks.specs.accounts.Rising.{EpochsNeverFall}
use Rattle.gs_laws_chunks.specs.accounts.Running.{IsGiven, IsReached, IsToldAt, Runs, RunsBare, Setup, StepsWithin}
use Rattle.gs_laws_looks.proofs.lemmas.fetching.Fetched.{parts_are_given}
use Rattle.gs_laws_world.specs.steady.Unarmed.{unarmed}
use Rattle.gs_laws_world.specs.steady.Saying.{IsStepWithin}
use Rattle.gs_laws_looks.proofs.lemmas.lists.Commits.{IsPrepared, IsRolledBack, commit_so, prepare_so}
use Rattle.gs_laws_looks.proofs.lemmas.lists.Rising.{all_between, same_rising}
use Rattle.gs_laws_looks.proofs.lemmas.halts.Commits.{commits, commits_halt, fits, there}
use Rattle.gs_laws_looks.proofs.lemmas.halts.Looked.{answers_are_by_names}
use Rattle.gs_laws_looks.proofs.lemmas.halts.Unled.{stays_halted}
use Rattle.gs_laws_looks.specs.halts.Unled.{HaltsBy}
use Rattle.gs_laws_looks.proofs.lemmas.leaders.Reading.{listed_there, reads_are_of_unled}
use Rattle.gs_laws_looks.proofs.lemmas.reads.Reading.{are_of, file}
use Rattle.gs_laws_looks.proofs.lemmas.reads.Stepping.{accounts_on, all_back, all_front, all_join, among_behind, bare_in, bare_join, bare_so, ever_after, ever_before, runs_in, step_so, steps_in, still, store_of, told_stands, within_in}
use Rattle.gs_laws_looks.specs.reads.Read.{AnswerAmong, AreAmongThen, Bytes, Digest, Reading, Reads, ReadsComeBack, ReadsTwice}

calm_prepared : (phase : Phase) → is_upgrade phase ≡ true → is_rolling phase ≡ false
calm_prepared Ordinary is = refl
calm_prepared Upgrade is = refl
calm_prepared Rolling is = absurd (false≢true is)

calm_back : (phase : Phase) → is_ordinary phase ≡ true → is_rolling phase ≡ false
calm_back Ordinary is = refl
calm_back Upgrade is = refl
calm_back Rolling is = absurd (false≢true is)

-- ---- what a reading asks, and what it comes to

asks_so : (path : Path) (reading : Reading) {D : Type 0} (seen : D → List ℕ) (failures : D → ℕ) (client : ClientId) (bytes : List ℕ) (old new : History D) (r : Reads seen failures client path reading bytes old new) → AskSo path [] r.pairs
asks_so path (Bytes size offset many) seen failures client bytes old new r = readers_ask_so path size offset many r.pairs (Ok (bytes, r.located)) r.says
asks_so path (Digest index block) seen failures client bytes old new r = digesters_ask_so path index block r.pairs (Ok (bytes, r.located)) r.says

-- what a file has there
abbrev contents : Reading → ℕ → (ℕ → List ℕ) → ℕ → List ℕ
contents (Bytes size offset many) block texts count = read_of size texts count offset many
contents (Digest index block_index) block texts count = digest_at block (texts index) block_index

comes_to : (f : Stands) (reading : Reading) {D : Type 0} (seen : D → List ℕ) (failures : D → ℕ) (client : ClientId) (bytes : List ℕ) (old new : History D) (r : Reads seen failures client f.path reading bytes old new) → AreOf f r.pairs → bytes ≡ contents reading f.block (text_at f) (length f.chunks)
comes_to f (Bytes size offset many) seen failures client bytes old new r are = reads_what_stands f size offset many r.pairs bytes r.located are r.says
comes_to f (Digest index block) seen failures client bytes old new r are = digests_what_stands f index block r.pairs bytes r.located are r.says

-- a place of a file
found_there : (o : Option (Entry ℕ)) (index chunk : ℕ) → slice_get (chunks_in o) index ≡ Some chunk → found_chunk o index ≡ Ok chunk
found_there None index chunk is = absurd cc
found_there (Some Dir) index chunk is = absurd cc
found_there (Some (File chunks)) index chunk is = (rw (is, found_chunk) refl)

module _ (sizes : HaveSizes) (law : AreNumbered) {D : Type 0} (rises : (x : Setup D) → EpochsNeverFall x) (names_back : (x : Setup D) → ToldNamesBack x) (settled_back : (x : Setup D) → GivesSettledBack x) (fetched : (x : Setup D) → BytesAreFetched x)
    (seen : D → List ℕ) (failures : D → ℕ) (config : Config) (clients : ℕ) (disks : D × D) (client : ClientId) (path : Path) (reading : Reading) (epoch : ℕ) (had has : List ℕ) (r : ReadsTwice seen failures config clients disks client path reading epoch had has)
    (among : List ℕ → Bool) (empty : among [] ≡ true) (apart : TellsApart among) (all : AreAmongThen seen failures config clients disks among client path reading epoch had has r) where
  abbrev x : Setup D
  x = store_of seen failures config clients disks among

  given : IsGiven x
  given = record { new = r.new; few = r.few; armed = λ disk call place. still seen failures place; empty = empty }

  -- what holds of each world of the run
  record Good (h : History D) : Type 0 where
    are : AreAsked seen h
    well : IsWell x h

  good_on : (steps : List Step) (old new : History D) → RunsTo seen failures unarmed steps old new → AllByRecursion IsStepWithin steps → RunsBare x steps old new → Good old → Good new
  good_on steps old new runs within bare g = record {
    are = stays_unarmed seen failures unarmed steps old new (λ disk call place. refl) runs within g.well.types g.well.steady g.are;
    well = bare_well x given steps old new bare g.well;
  }

  begun : Good r.begun
  begun = record { are = begins_asked sizes seen failures unarmed config clients disks r.begun r.new r.begins; well = begins_well x given r.begun r.begins }

  -- ---- the parts of it

  abbrev S1 : List Step
  S1 = r.first

  abbrev S2 : List Step
  S2 = asks_call r.prepares.moment r.prepares.req calls.PrepareCommit ∷ r.prepares.steps

  abbrev S3 : List Step
  S3 = r.way.steps

  abbrev S4 : List Step
  S4 = steps_in seen failures client r.reads.pairs r.start r.end r.reads.exchanged

  abbrev S5 : List Step
  S5 = r.between

  abbrev S7 : List Step
  S7 = r.way_then.steps

  bare_first : RunsBare x S1 r.begun r.old
  bare_first = bare_so seen failures config clients disks among S1 r.begun r.old r.runs r.within all.first

  old : Good r.old
  old = good_on S1 r.begun r.old r.runs r.within bare_first begun

  abbrev runs_two : RunsTo seen failures unarmed S2 r.old r.prepared
  runs_two = (r.prepares.asked, (Ok tt, r.prepares.asks.happens), r.prepares.runs)

  prepared : Good r.prepared
  prepared = good_on S2 r.old r.prepared runs_two r.prepares.within (bare_so seen failures config clients disks among S2 r.old r.prepared runs_two r.prepares.within all.prepares) old

  bare_way : RunsBare x S3 r.prepared r.start
  bare_way = bare_so seen failures config clients disks among S3 r.prepared r.start r.way.runs r.way.within all.way

  start : Good r.start
  start = good_on S3 r.prepared r.start r.way.runs r.way.within bare_way prepared

  -- ---- a commit

  module _ (before mid : History D) (call : Call) (number : ℕ) (halt : is_halt call ≡ true) (c : HasAnswer seen failures unarmed client before call (answers.Epoch number) mid) (g : Good before) (blocks : AnswerAmong seen failures among client before call (answers.Epoch number) mid c)
      (b : HaltsBy seen failures unarmed client before call (answers.Epoch number) mid c) where
    abbrev ask : Step
    ask = asks_call c.moment c.req call

    abbrev front : List Step
    front = ask ∷ b.made.before

    abbrev back_part : List Step
    back_part = Comes b.made.event ∷ b.made.after

    steps_are : ask ∷ c.steps ≡ front ++ back_part
    steps_are = ap (λ (ys : List Step). ask ∷ ys) b.made.parts

    within_all : AllByRecursion IsStepWithin (front ++ back_part)
    within_all = subst (AllByRecursion IsStepWithin) steps_are c.within

    within_front : AllByRecursion IsStepWithin front
    within_front = all_front IsStepWithin front back_part within_all

    within_back : AllByRecursion IsStepWithin back_part
    within_back = all_back IsStepWithin front back_part within_all

    looking_after : AllByRecursion (IsLooking client) b.made.after
    looking_after = (all_back (IsLooking client) b.made.before (Comes b.made.event ∷ b.made.after) (subst (AllByRecursion (IsLooking client)) b.made.parts c.looking)).1

    abbrev runs_front : RunsTo seen failures unarmed front before b.made.now
    runs_front = (c.asked, (Ok tt, c.asks.happens), b.made.first)

    bare_front : RunsBare x front before b.made.now
    bare_front = bare_so seen failures config clients disks among front before b.made.now runs_front within_front (blocks.0, ever_before seen failures among c.steps c.asked mid c.runs blocks.1 c.req call (answers.Epoch number) b.made b.on_the_way)

    good_now : Good b.made.now
    good_now = good_on front before b.made.now runs_front within_front bare_front g

    one_step : StepsWithin x (Comes b.made.event) b.made.now b.made.next
    one_step = step_so seen failures config clients disks among (Comes b.made.event) b.made.now b.made.next (b.made.said, b.made.happens) within_back.0 (among_behind seen failures among c.steps c.asked mid c.runs blocks.1 c.req call (answers.Epoch number) b.made b.on_the_way)

    good_next : Good b.made.next
    good_next = good_on (Comes b.made.event ∷ []) b.made.now b.made.next (b.made.next, (b.made.said, b.made.happens), refl) (within_back.0, tt) (b.made.next, one_step, refl) good_now

    bare_after : RunsBare x b.made.after b.made.next mid
    bare_after = bare_so seen failures config clients disks among b.made.after b.made.next mid b.made.rest within_back.1 (ever_after seen failures among c.steps c.asked mid c.runs blocks.1 c.req call (answers.Epoch number) b.made b.on_the_way)

    abbrev s : State
    s = b.made.answers.master.state

    abbrev m : MasterOf D
    m = b.made.answers.master

    abbrev t : Turn
    t = new_call b.made.answers.master.config b.made.answers.master.state c.req b.made.event.moment call

    its : MadeThere seen failures unarmed b.made.now b.made.event.moment b.made.answers.master c.req call (answers.Epoch number) b.made.next.nodes
    its = there seen failures unarmed b.made.now b.made.next b.made.event b.made.said b.made.happens c.req call (answers.Epoch number) halt within_back.0 good_now.well.types good_now.well.steady b.made.answers

    its_commits : Commits b.made.answers.master.state c.req call t
    its_commits = commits seen failures unarmed b.made.now b.made.next b.made.event b.made.said b.made.happens c.req call (answers.Epoch number) halt within_back.0 good_now.well.types good_now.well.steady b.made.answers

    its_fits : replayed b.made.answers.master.state.durable t.records ≡ Some t.after.durable
    its_fits = fits seen failures unarmed b.made.now b.made.next b.made.event b.made.said b.made.happens c.req call (answers.Epoch number) halt within_back.0 good_now.well.types good_now.well.steady b.made.answers

    told_now : IsToldAt seen b.made.now.nodes.master b.made.answers.master.state.durable
    told_now = told_stands seen failures b.made.now.nodes.master b.made.answers.master.state.durable (record { master = b.made.answers.master; stands = b.made.answers.stands; sound = its_commits.sound; keeps = refl })

    told_next : IsToldAt seen b.made.next.nodes.master b.durable
    told_next = told_stands seen failures b.made.next.nodes.master b.durable b.stands

    standing_is : {p q : MasterOf D} → ◌≡◌ {A = MasterPlace D} (Standing p) (Standing q) → p ≡ q
    standing_is e = cc

    after_is : t.after.durable ≡ b.durable
    after_is = ap (λ (u : State). u.durable) (sym its.is) ∙ ap (λ (n : MasterOf D). n.state.durable) (standing_is (sym its.stands ∙ b.stands.stands)) ∙ b.stands.keeps

  -- ---- the two of them

  one : HaltsBy seen failures unarmed client r.old calls.PrepareCommit (answers.Epoch epoch) r.prepared r.prepares
  one = commits_halt seen failures unarmed client r.old r.prepared calls.PrepareCommit (answers.Epoch epoch) old.are old.well.types old.well.steady refl r.prepares r.only

  runs_end : RunsTo seen failures unarmed S4 r.start r.end
  runs_end = runs_in seen failures client r.reads.pairs r.start r.end r.reads.exchanged

  within_end : AllByRecursion IsStepWithin S4
  within_end = within_in seen failures client r.reads.pairs r.start r.end r.reads.exchanged

  bare_end : RunsBare x S4 r.start r.end
  bare_end = bare_in seen failures config clients disks among client r.reads.pairs r.start r.end r.reads.exchanged all.reads

  end : Good r.end
  end = good_on S4 r.start r.end runs_end within_end bare_end start

  bare_later : RunsBare x S5 r.end r.later
  bare_later = bare_so seen failures config clients disks among S5 r.end r.later r.passes r.within_between all.between

  later : Good r.later
  later = good_on S5 r.end r.later r.passes r.within_between bare_later end

  two : HaltsBy seen failures unarmed client r.later calls.RollbackCommit (answers.Epoch (epoch + 1)) r.back r.commits
  two = commits_halt seen failures unarmed client r.later r.back calls.RollbackCommit (answers.Epoch (epoch + 1)) later.are later.well.types later.well.steady refl r.commits r.only_then

  abbrev d1 : Durable
  d1 = one.durable

  abbrev d2 : Durable
  d2 = two.durable

  abbrev s1 : Durable
  s1 = one.made.answers.master.state.durable

  abbrev s2 : Durable
  s2 = two.made.answers.master.state.durable

  is_prepared : IsPrepared s1 d1 epoch
  is_prepared = subst (λ e. IsPrepared s1 e epoch) (after_is r.old r.prepared calls.PrepareCommit epoch refl r.prepares old all.prepares one)
      (prepare_so one.made.answers.master.config one.made.answers.master.state r.prepares.req one.made.event.moment epoch (refused_before one.made.answers.master.state r.prepares.req calls.PrepareCommit)
      (its r.old r.prepared calls.PrepareCommit epoch refl r.prepares old all.prepares one).says (its_fits r.old r.prepared calls.PrepareCommit epoch refl r.prepares old all.prepares one))

  is_rolled : IsRolledBack s2 d2 (epoch + 1)
  is_rolled = subst (λ e. IsRolledBack s2 e (epoch + 1)) (after_is r.later r.back calls.RollbackCommit (epoch + 1) refl r.commits later all.commits two)
      (commit_so two.made.answers.master.config two.made.answers.master.state r.commits.req two.made.event.moment (epoch + 1) (refused_before two.made.answers.master.state r.commits.req calls.RollbackCommit)
      (its r.later r.back calls.RollbackCommit (epoch + 1) refl r.commits later all.commits two).says (its_fits r.later r.back calls.RollbackCommit (epoch + 1) refl r.commits later all.commits two))

  abbrev front_two : List Step
  front_two = asks_call r.commits.moment r.commits.req calls.RollbackCommit ∷ two.made.before

  -- what comes between
  abbrev between_two : List Step
  between_two = one.made.after ++ (S3 ++ (S4 ++ (S5 ++ front_two)))

  to_rolling : RunsBare x between_two one.made.next two.made.now
  to_rolling =
      bare_join seen failures config clients disks among one.made.after (S3 ++ (S4 ++ (S5 ++ front_two))) one.made.next r.prepared two.made.now (bare_after r.old r.prepared calls.PrepareCommit epoch refl r.prepares old all.prepares one)
      (bare_join seen failures config clients disks among S3 (S4 ++ (S5 ++ front_two)) r.prepared r.start two.made.now bare_way
      (bare_join seen failures config clients disks among S4 (S5 ++ front_two) r.start r.end two.made.now bare_end
      (bare_join seen failures config clients disks among S5 front_two r.end r.later two.made.now bare_later (bare_front r.later r.back calls.RollbackCommit (epoch + 1) refl r.commits later all.commits two))))

  abbrev head : List Step
  head = asks_call r.prepares.moment r.prepares.req calls.PrepareCommit ∷ one.made.before

  goes : GoesBackBy x (IsToldAt seen) one.made.next two.made.next d1 d2
  goes =
      let upgrade = (and_parts (is_ordinary s1.phase) (is_upgrade d1.phase) is_prepared.accepted).1 in
      let rolled = (and_parts (is_rolling s2.phase) (is_ordinary d2.phase) is_rolled.rolls).0 in
      let next : s2.epoch ≡ d1.epoch + 1 = is_rolled.within ∙ ap (λ k. k + 1) (sym is_prepared.begins) in
      let told = told_next r.old r.prepared calls.PrepareCommit epoch refl r.prepares old all.prepares one in
      let rolls = told_now r.later r.back calls.RollbackCommit (epoch + 1) refl r.commits later all.commits two in
      record {
        given = given;
        begun = r.begun;
        begins = r.begins;
        first = S1 ++ head;
        old = one.made.now;
        runs = bare_join seen failures config clients disks among S1 head r.begun r.old one.made.now bare_first (bare_front r.old r.prepared calls.PrepareCommit epoch refl r.prepares old all.prepares one);
        ordinary = s1;
        stood = told_now r.old r.prepared calls.PrepareCommit epoch refl r.prepares old all.prepares one;
        step = Comes one.made.event;
        steps = one_step r.old r.prepared calls.PrepareCommit epoch refl r.prepares old all.prepares one;
        keeps = told;
        accepted = is_prepared.accepted;
        between = between_two;
        now = two.made.now;
        rest = all_between x (rises x) given d1 s2 upgrade rolled next between_two one.made.next two.made.now d1 to_rolling
            (good_next r.old r.prepared calls.PrepareCommit epoch refl r.prepares old all.prepares one).well told (same_rising d1) rolls;
        rolling = s2;
        rolls = rolls;
        commit = Comes two.made.event;
        commits = one_step r.later r.back calls.RollbackCommit (epoch + 1) refl r.commits later all.commits two;
        ended = told_next r.later r.back calls.RollbackCommit (epoch + 1) refl r.commits later all.commits two;
        done = is_rolled.rolls;
      }

  so : RolledBackSo x one.made.next two.made.next d1 d2 goes.now
  so = rolled_told x one.made.next two.made.next d1 d2 apart goes

  reaches : IsReached x one.made.next so.first × IsReached x two.made.next so.behind
  reaches = both_reached x one.made.next goes.now two.made.next so.first so.after so.behind so.rolled

  names : d2.names ≡ d1.names
  names = names_back x one.made.next two.made.next d1 d2 goes

  -- ---- what is read then

  upgrades : is_upgrade d1.phase ≡ true
  upgrades = (and_parts (is_ordinary s1.phase) (is_upgrade d1.phase) is_prepared.accepted).1

  ordinary : is_ordinary d2.phase ≡ true
  ordinary = (and_parts (is_rolling s2.phase) (is_ordinary d2.phase) is_rolled.rolls).1

  abbrev looks_one : List Step
  looks_one = one.made.after ++ S3

  accounts_one : (e : Account) × Runs x looks_one one.made.next so.first r.start e × IsWell x r.start
  accounts_one = accounts_on seen failures config clients disks among given looks_one one.made.next r.start so.first
      (bare_join seen failures config clients disks among one.made.after S3 one.made.next r.prepared r.start (bare_after r.old r.prepared calls.PrepareCommit epoch refl r.prepares old all.prepares one) bare_way)
      (good_next r.old r.prepared calls.PrepareCommit epoch refl r.prepares old all.prepares one).well

  abbrev file_one : Stands
  file_one = file seen failures (stays_halted seen failures unarmed) (answers_are_by_names seen failures unarmed) config clients disks among (parts_are_given sizes x (fetched x)) (reads_are_of_unled sizes law x) given d1 client (suc r.prepares.req.number) path one.made.next so.first reaches.0 one.begun so.is_first
      (calm_prepared d1.phase upgrades)

  are_one : AreOf file_one r.reads.pairs
  are_one = are_of seen failures (stays_halted seen failures unarmed) (answers_are_by_names seen failures unarmed) config clients disks among (parts_are_given sizes x (fetched x)) (reads_are_of_unled sizes law x) given d1 client (suc r.prepares.req.number) path one.made.next so.first reaches.0 one.begun so.is_first
      (calm_prepared d1.phase upgrades) r.reads.pairs looks_one r.start r.end accounts_one.0 accounts_one.1 (all_join (IsLooking client) one.made.after S3 (looking_after r.old r.prepared calls.PrepareCommit epoch refl r.prepares old all.prepares one) r.way.looking)
      r.reads.exchanged (asks_so path reading seen failures client had r.start r.end r.reads) all.reads

  had_is : had ≡ contents reading config.block (text_at file_one) (length file_one.chunks)
  had_is = comes_to file_one reading seen failures client had r.start r.end r.reads are_one

  abbrev looks_two : List Step
  looks_two = two.made.after ++ S7

  accounts_two : (e : Account) × Runs x looks_two two.made.next so.behind r.start_then e × IsWell x r.start_then
  accounts_two = accounts_on seen failures config clients disks among given looks_two two.made.next r.start_then so.behind
      (bare_join seen failures config clients disks among two.made.after S7 two.made.next r.back r.start_then (bare_after r.later r.back calls.RollbackCommit (epoch + 1) refl r.commits later all.commits two)
      (bare_so seen failures config clients disks among S7 r.back r.start_then r.way_then.runs r.way_then.within all.way_then))
      (good_next r.later r.back calls.RollbackCommit (epoch + 1) refl r.commits later all.commits two).well

  abbrev file_two : Stands
  file_two = file seen failures (stays_halted seen failures unarmed) (answers_are_by_names seen failures unarmed) config clients disks among (parts_are_given sizes x (fetched x)) (reads_are_of_unled sizes law x) given d2 client (suc r.commits.req.number) path two.made.next so.behind reaches.1 two.begun so.is_behind
      (calm_back d2.phase ordinary)

  are_two : AreOf file_two r.again.pairs
  are_two = are_of seen failures (stays_halted seen failures unarmed) (answers_are_by_names seen failures unarmed) config clients disks among (parts_are_given sizes x (fetched x)) (reads_are_of_unled sizes law x) given d2 client (suc r.commits.req.number) path two.made.next so.behind reaches.1 two.begun so.is_behind
      (calm_back d2.phase ordinary) r.again.pairs looks_two r.start_then r.last accounts_two.0 accounts_two.1 (all_join (IsLooking client) two.made.after S7 (looking_after r.later r.back calls.RollbackCommit (epoch + 1) refl r.commits later all.commits two) r.way_then.looking)
      r.again.exchanged (asks_so path reading seen failures client has r.start_then r.last r.again) all.again

  has_is : has ≡ contents reading config.block (text_at file_two) (length file_two.chunks)
  has_is = comes_to file_two reading seen failures client has r.start_then r.last r.again are_two

  -- ---- it is the same

  abbrev text_of_one : ℕ → List ℕ
  text_of_one chunk = text_of config.chunk (settled_edits so.first chunk)

  abbrev text_of_two : ℕ → List ℕ
  text_of_two chunk = text_of config.chunk (settled_edits so.behind chunk)

  chunk_same : (index : ℕ) (o : Option ℕ) → slice_get (chunks_at d1.names path) index ≡ o → text_in o text_of_two ≡ text_in o text_of_one
  chunk_same index None is = refl
  chunk_same index (Some chunk) is =
      let found : found_chunk (fin.get so.first.durable.names.tree path) index ≡ Ok chunk = ap (λ (e : Durable). found_chunk (fin.get e.names.tree path) index) so.is_first ∙ found_there (fin.get d1.names.tree path) index chunk is in
      let listed : is_listed so.first.durable chunk ≡ true = listed_there sizes law x one.made.next so.first reaches.0 path index chunk found in
      ap (text_of config.chunk) (settled_back x one.made.next goes.now two.made.next so.first so.after so.behind chunk so.rolled listed).1

  texts_same : text_at file_two ≡ text_at file_one
  texts_same = λ i. λ index. (ap (λ (n : NamesView). text_in (slice_get (chunks_at n path) index) text_of_two) names ∙ chunk_same index (slice_get (chunks_at d1.names path) index) refl) i

  counts_same : length file_two.chunks ≡ length file_one.chunks
  counts_same = ap (λ (n : NamesView). length (chunks_at n path)) names

  pub same : has ≡ had
  same = has_is ∙ (λ i. contents reading config.block (texts_same i) (counts_same i)) ∙ sym had_is

pub reads_come_back : HaveSizes → AreNumbered → {D : Type 0} → ((x : Setup D) → EpochsNeverFall x) → ((x : Setup D) → ToldNamesBack x) → ((x : Setup D) → GivesSettledBack x) → ((x : Setup D) → BytesAreFetched x) → (seen : D → List ℕ) (failures : D → ℕ) (config : Config) (clients : ℕ) (disks : D × D)
    → ReadsComeBack seen failures config clients disks
reads_come_back sizes law rises names_back settled_back fetched seen failures config clients disks client path reading epoch had has r among empty apart all =
    same sizes law rises names_back settled_back fetched seen failures config clients disks client path reading epoch had has r among empty apart all
