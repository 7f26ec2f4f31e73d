-- What is answered over disks is answered over what is seen of them: at a master, and where it is opened.
use Rattle.std.proofs.Common.{◌≡◌, ◌+◌, ◌<◌, ℕ, Bool, true, false, List, [], Option, None, Result, Ok, Err, ap, inl, inr, arith}
use Rattle.gs_base.specs.declared.config.Config.{Config}
use Rattle.gs_base.specs.declared.numbers.Moment.{Moment}
use Rattle.gs_base.specs.declared.numbers.ReqId.{ReqId}
use Rattle.gs_base.specs.declared.refusal.Refusal.{Refusal}
use Rattle.gs_journal.specs.Journal.{State as Journal}
use Rattle.gs_journal.specs.Records.{Text, standing}
use Rattle.gs_journal.specs.declared.journal.Unopened.{Unopened}
use Rattle.gs_master.specs.Journaled.{IsAsSeen, IsLogOf}
use Rattle.gs_master.specs.Masters.{IsAnswered, IsAnsweredUnsure, LeavesText, MasterAnswers, MasterOf}
use Rattle.gs_master.specs.Starting.{IsOpened, WhyUnopened}
use Rattle.gs_master.specs.Ticking.{AnswersAs, AnswersTick, IsAnsweredAnew, LeavesAnew, lacking, pressed_all, writes_one}
use Rattle.gs_master.specs.declared.turn.Turn.{Turn as Told}
use Rattle.gs_master_spec.specs.Handling.{handle, tick}
use Rattle.gs_master_spec.specs.Outcomes.{caller_of}
use Rattle.gs_master_spec.specs.State.{Log, Turn}
use Rattle.gs_msg.specs.declared.message.Message.{Message}
use Rattle.gs_nodes.specs.Happenings.{MasterHears, MasterTicks, MeetsClosed, Opens, Reopens, limit, refusal_of_call}
use Rattle.gs_nodes.specs.declared.place.MasterPlace.{MasterPlace}
use Rattle.gs_nodes.specs.declared.place.MasterPlace.TheVariants.{Standing, Closed, Away}
use Rattle.gs_laws_image.specs.Seen.{SeenDisk, bytes_seen, failures_seen, first_seen, second_seen, disks_seen, journal_seen, master_seen, place_seen}

-- ---- how often disks have failed, counted from other numbers

as_often : (k l a b c d : ℕ) → a + b ≡ c + d → (k + a) + (l + b) ≡ (k + c) + (l + d)
as_often k l a b c d same = omega arith

more_often : (k l a b c d : ℕ) → a + b < c + d → (k + a) + (l + b) < (k + c) + (l + d)
more_often k l a b c d more = omega arith

module _ {D : Type 0} (seen : D → List ℕ) (failures : D → ℕ) (counts : ℕ × ℕ) where
  abbrev the_master : MasterOf D → MasterOf SeenDisk
  the_master m = master_seen seen failures counts m

  abbrev the_place : MasterPlace D → MasterPlace SeenDisk
  the_place p = place_seen seen failures counts p

  -- as often, of both disks
  both_often : (a b c d : D) → failures a + failures b ≡ failures c + failures d
      → failures_seen (first_seen seen failures counts a) + failures_seen (second_seen seen failures counts b) ≡ failures_seen (first_seen seen failures counts c) + failures_seen (second_seen seen failures counts d)
  both_often a b c d same = as_often counts.0 counts.1 (failures a) (failures b) (failures c) (failures d) same

  both_more : (a b c d : D) → failures a + failures b < failures c + failures d
      → failures_seen (first_seen seen failures counts a) + failures_seen (second_seen seen failures counts b) < failures_seen (first_seen seen failures counts c) + failures_seen (second_seen seen failures counts d)
  both_more a b c d more = more_often counts.0 counts.1 (failures a) (failures b) (failures c) (failures d) more

  -- ---- a journal

  journal_is : (j : Journal D) → IsAsSeen seen j → IsAsSeen bytes_seen (journal_seen seen failures counts j)
  journal_is j is = record { text = is.text; size = is.size; generation = is.generation; whole = is.whole }

  log_is : (log : Log) (j : Journal D) → IsLogOf log j → IsLogOf log (journal_seen seen failures counts j)
  log_is log j is = record { is_open = is.is_open; size = is.size; limit = is.limit; generation = is.generation }

  -- ---- an event

  answered : (t : Turn) (old : MasterOf D) (told : Told) (new : MasterOf D) → IsAnswered seen failures t old told new → IsAnswered bytes_seen failures_seen t (the_master old) told (the_master new)
  answered t old told new is = record {
    done = is.done;
    fit = is.fit;
    are_entries = is.are_entries;
    text = is.text;
    fault = is.fault;
    as_seen = λ sound. journal_is new.journal (is.as_seen sound);
    known = λ sound. log_is new.state.log new.journal (is.known sound);
    quiet = both_often new.journal.first new.journal.second old.journal.first old.journal.second is.quiet;
    still = λ none. ap (journal_seen seen failures counts) (is.still none);
    config = is.config;
  }

  unsure : (Leaves : ℕ → Text → Text → Type 0) (caller : Option ReqId) (t : Turn) (place : ℕ) (old : MasterOf D) (told : Told) (new : MasterOf D)
      → IsAnsweredUnsure seen failures Leaves caller t place old told new → IsAnsweredUnsure bytes_seen failures_seen Leaves caller t place (the_master old) told (the_master new)
  unsure Leaves caller t place old told new is = record {
    cut = is.cut;
    fit = is.fit;
    are_entries = is.are_entries;
    left = is.left;
    shown = is.shown;
    cause = both_more old.journal.first old.journal.second new.journal.first new.journal.second is.cause;
    closed = is.closed;
    config = is.config;
  }

  anew : (t steps : Turn) (old : MasterOf D) (told : Told) (new : MasterOf D) → IsAnsweredAnew seen failures t steps old told new → IsAnsweredAnew bytes_seen failures_seen t steps (the_master old) told (the_master new)
  anew t steps old told new is = record {
    done = is.done;
    fit = is.fit;
    are_entries = is.are_entries;
    is_entry = is.is_entry;
    text = is.text;
    fault = is.fault;
    as_seen = journal_is new.journal is.as_seen;
    known = log_is new.state.log new.journal is.known;
    quiet = both_often new.journal.first new.journal.second old.journal.first old.journal.second is.quiet;
    config = is.config;
  }

  answers : (caller : Option ReqId) (t : Turn) (old : MasterOf D) (result : Result Told Refusal) (new : MasterOf D) → MasterAnswers seen failures caller t old result new
      → MasterAnswers bytes_seen failures_seen caller t (the_master old) result (the_master new)
  answers caller t old (Ok told) new (inl is) = inl (answered t old told new is)
  answers caller t old (Ok told) new (inr (place, is)) = inr (place, unsure (LeavesText t.records) caller t place old told new is)
  answers caller t old (Err refusal) new (why, same) = (why, ap the_master same)

  answers_as : (b : Bool) (t steps : Turn) (old : MasterOf D) (told : Told) (new : MasterOf D) → AnswersAs seen failures b t steps old told new → AnswersAs bytes_seen failures_seen b t steps (the_master old) told (the_master new)
  answers_as true t steps old told new (inl is) = inl (anew t steps old told new is)
  answers_as true t steps old told new (inr (place, is)) = inr (place, unsure (LeavesAnew steps) None t place old told new is)
  answers_as false t steps old told new (inl is) = inl (answered t old told new is)
  answers_as false t steps old told new (inr (place, is)) = inr (place, unsure (LeavesText t.records) None t place old told new is)

  answers_tick : (moment : Moment) (old : MasterOf D) (result : Result Told Refusal) (new : MasterOf D) → AnswersTick seen failures moment old result new
      → AnswersTick bytes_seen failures_seen moment (the_master old) result (the_master new)
  answers_tick moment old (Ok told) new (inl whole) =
      let steps = pressed_all old.state moment in inl (answers_as (writes_one old.state steps) (tick old.state moment) steps old told new whole)
  answers_tick moment old (Ok told) new (inr (sound, is_due, beforehand, lacks)) = inr (sound, is_due, beforehand, answers None (lacking (pressed_all old.state moment)) old (Ok told) new lacks)
  answers_tick moment old (Err refusal) new (why, same) = (why, ap the_master same)

  -- ---- where the master is

  meets_closed : (sent : List Message) (old : MasterPlace D) (result : Result Told Refusal) (new : MasterPlace D) → MeetsClosed sent old result new → MeetsClosed sent (the_place old) result (the_place new)
  meets_closed sent old (Ok turn) new (same, sends, says) = (ap the_place same, sends, says)
  meets_closed sent old (Err refusal) new (same, memory) = (ap the_place same, memory)

  pub hears_seen : (message : Message) (moment : Moment) (old : MasterPlace D) (result : Result Told Refusal) (new : MasterPlace D) → MasterHears seen failures message moment old result new
      → MasterHears bytes_seen failures_seen message moment (the_place old) result (the_place new)
  hears_seen message moment (Standing m) result new (after, is, h) = (the_master after, ap the_place is, answers (caller_of message.body) (handle m.config m.state message moment) m result after h)
  hears_seen message moment (Closed first second) result new h = meets_closed (refusal_of_call (caller_of message.body)) (Closed first second) result new h
  hears_seen message moment Away result new h = meets_closed (refusal_of_call (caller_of message.body)) Away result new h

  pub ticks_seen : (moment : Moment) (old : MasterPlace D) (result : Result Told Refusal) (new : MasterPlace D) → MasterTicks seen failures moment old result new
      → MasterTicks bytes_seen failures_seen moment (the_place old) result (the_place new)
  ticks_seen moment (Standing m) result new (after, is, h) = (the_master after, ap the_place is, answers_tick moment m result after h)
  ticks_seen moment (Closed first second) result new h = meets_closed [] (Closed first second) result new h
  ticks_seen moment Away result new h = meets_closed [] Away result new h

  -- ---- an opening

  opened : (config : Config) (first second : D) (text : Text) (bound : ℕ) (m : MasterOf D) (sent : List Message) → IsOpened seen failures config first second text bound m sent
      → IsOpened bytes_seen failures_seen config (first_seen seen failures counts first) (second_seen seen failures counts second) text bound (the_master m) sent
  opened config first second text bound m sent is = record {
    entries = is.entries;
    durable = is.durable;
    tells = is.tells;
    log = is.log;
    turn = is.turn;
    recovers = is.recovers;
    state = is.state;
    sends = is.sends;
    config = is.config;
    limit = is.limit;
    left = is.left;
    journal = journal_is m.journal is.journal;
    known = log_is m.state.log m.journal is.known;
    generation = is.generation;
    anew = is.anew;
    quiet = both_often m.journal.first m.journal.second first second is.quiet;
  }

  abbrev handed_back : Unopened D → Unopened SeenDisk
  handed_back u = record { refusal = u.refusal; first = first_seen seen failures counts u.first; second = second_seen seen failures counts u.second }

  unopened : (config : Config) (bound : ℕ) (first second : D) (u : Unopened D) → WhyUnopened seen failures config bound first second u
      → WhyUnopened bytes_seen failures_seen config bound (first_seen seen failures counts first) (second_seen seen failures counts second) (handed_back u)
  unopened config bound first second u (inl (device, more)) = inl (device, both_more first second u.first u.second more)
  unopened config bound first second u (inr (tells, same, why)) = inr (tells, both_often u.first u.second first second same, why)

  pub opens_seen : (config : Config) (disks : D × D) (result : Result Told Refusal) (new : MasterPlace D) → Opens seen failures config disks result new
      → Opens bytes_seen failures_seen config (disks_seen seen failures counts disks) result (the_place new)
  opens_seen config disks (Ok turn) new (after, stands, is, said) =
      (the_master after, ap the_place stands, opened config disks.0 disks.1 (standing (seen disks.0) (seen disks.1)) limit after turn.sent.items is, said)
  opens_seen config disks (Err refusal) new (u, waits, is, why) = (handed_back u, ap the_place waits, is, unopened config limit disks.0 disks.1 u why)

  pub reopens_seen : (config : Config) (old : MasterPlace D) (result : Result Told Refusal) (new : MasterPlace D) → Reopens seen failures config old result new
      → Reopens bytes_seen failures_seen config (the_place old) result (the_place new)
  reopens_seen config (Standing m) result new h = opens_seen config (m.journal.first, m.journal.second) result new h
  reopens_seen config (Closed first second) result new h = opens_seen config (first, second) result new h
  reopens_seen config Away result new (same, is) = (ap the_place same, is)
