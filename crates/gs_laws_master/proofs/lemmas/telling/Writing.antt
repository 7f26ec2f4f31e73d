-- Each record of each message and of each step of a tick can be written; and the master is left within its types.
use Rattle.std.proofs.Common.{◌≡◌, inl, inr, ◌∙◌, ◌<◌, ◌≤◌, ◌+◌, ◌^◌, ◌==◌, ◌||◌, ◌++◌, ℕ, Bool, true, false, cond, List, [], ◌∷◌, refl, ap, sym, subst, arith}
use Rattle.std.specs.Prelude.{is_some, nat_le, Option, Some, None, if◌then◌else◌}
use Rattle.std.specs.FinMap as fin
use Rattle.std.specs.List.{AllByRecursion}
use Rattle.std.specs.Ordering.{nat_cmp}
use Rattle.std.proofs.lemmas.Bool.{false≢true, leb-true}
use Rattle.std.proofs.lemmas.Bool.Decides.{nat_tests}
use Rattle.gs_base.specs.Members.{is_member}
use Rattle.gs_base.specs.Told.{IsNumber}
use Rattle.gs_base.specs.declared.config.Config.{Config}
use Rattle.gs_base.specs.declared.numbers.Moment.{Moment}
use Rattle.gs_base.specs.declared.refusal.Refusal.{Refusal}
use Rattle.gs_base.specs.declared.refusal.Refusal.TheVariants as refusals
use Rattle.gs_journal.specs.declared.version.Version.TheVariants.{Two}
use Rattle.gs_master_record.specs.Plain.{PlainEntry, Edited, Said, Propose, Settle, Prepare, Finalize, RollbackBegin, RollbackCommit, Whole, Holder}
use Rattle.gs_master_record.specs.Writable.{IsEntry, IsHandle}
use Rattle.gs_master_record.specs.declared.checkpoint.Phase.{Phase}
use Rattle.gs_master_record.specs.declared.checkpoint.Phase.TheVariants.{Ordinary, Upgrade, Rolling}
use Rattle.gs_master_spec.specs.Chunks.{has_entry}
use Rattle.gs_master_spec.specs.Durable.{is_listed, is_ordinary, is_rolling, start}
use Rattle.gs_master_spec.specs.Handling.{awaits_first, checkpoint, checkpoint_body, checkpoint_tests, due, granted, handle, pressed, proposals, tick, written, written_if_due, written_unless}
use Rattle.gs_master_spec.specs.State.{State, Turn, and_then, fits, first_of, for_each, is_failed, met_by, size_of_all, unmoved}
use Rattle.gs_laws_master.specs.Promises.{AllFit, IsWritten}
use Rattle.gs_laws_master.specs.Rooms.{HasRoom}
use Rattle.gs_laws_master.specs.Standing.{Event, Comes, Ticks, Renews, Restarts, IsFirm, IsNamed, run_of, turn_of}
use Rattle.gs_laws_master.specs.Written.{AllStepsWritten, AreHolders, AreLow, AreReplies, EventsWritten, IsHeardIn, IsSteady, IsWithin, MessagesWritten, RunsWritten, StartsSteady, StepsWritten, WritesAll}
use Rattle.gs_laws_master.proofs.lemmas.rooms.Rooms.{Roomy}
use Rattle.gs_laws_master.proofs.lemmas.rooms.RoomsOfTurns.{logs_stay_within, messages_have_room, pressed_roomy}
use Rattle.gs_laws_master.proofs.lemmas.spelling.SpelledNames.{all_keep_spelled, start_spelled}
use Rattle.gs_laws_master.proofs.lemmas.standing.StandingAnswers.{pressed_good}
use Rattle.gs_laws_master.proofs.lemmas.standing.StandingRuns.{events_fit, starts_firm}
use Rattle.gs_laws_master.proofs.lemmas.standing.StandingTurns.{Holds}
use Rattle.gs_laws_master.proofs.lemmas.telling.Tellable.{all_written, given_some, listed_handle, viewed_handle}
use Rattle.gs_laws_master.proofs.lemmas.telling.Telling.{TellsTurn, all_both, fewer_member, is_for, proposes}
use Rattle.gs_laws_master.proofs.lemmas.telling.TellingCalls.{CanTell, removed_told}
use Rattle.gs_laws_master.proofs.lemmas.telling.ToldInverses.{all_keep_back}
use Rattle.gs_laws_master.proofs.lemmas.telling.WritingCheckpoints.{checkpoints_written}
use Rattle.gs_laws_master.proofs.lemmas.telling.ToldReplies.{all_keep_told, no_holders, no_replies}
use Rattle.gs_laws_master.proofs.lemmas.telling.TellingTurns.{CanAnswer, message_tells, pressed_tells}

-- ---- what is known of a steady master

rolls : (phase : Phase) → is_rolling phase ≡ true → is_ordinary phase ≡ false
rolls Ordinary h = absurd (false≢true h)
rolls Upgrade h = refl
rolls Rolling h = refl

entry_handle : (s : State) → IsSteady s → (chunk : ℕ) → has_entry s chunk ≡ true → IsHandle chunk
entry_handle s y chunk known = by_listed (is_listed s.durable chunk) refl known
  where
    by_listed : (b : Bool) → is_listed s.durable chunk ≡ b → (b || is_member s.volatile.unplaced chunk) ≡ true → IsHandle chunk
    by_listed true is h = listed_handle s.durable chunk y.firm.stands.kept y.within.low is
    by_listed false is h = (given_some s.durable.next_handle chunk (y.firm.stands.unplaced chunk h).0, y.within.unplaced chunk h)

pub can_tell : (s : State) → IsSteady s → CanTell s
can_tell s y = record {
  calls = y.within.calls;
  known = entry_handle s y;
  before = λ back chunk begun undone some. viewed_handle s.durable chunk y.firm.stands.kept y.within.low (y.firm.stands.kept.restored back chunk undone (rolls s.durable.phase begun) some);
  removed = λ moment. removed_told s.durable.names moment y.firm.stands.kept.names y.within.spelled.now;
}

pub can_answer : (s : State) → IsSteady s → CanAnswer s
can_answer s y = record {
  calls = y.within.calls;
  asked = λ chunk asking has. (let k = y.firm.stands.asked chunk asking has in (record { low = (entry_handle s y chunk k.known).1; epoch = below_epoch asking.stamp.epoch s.durable.epoch k.epoch y.firm.stands.kept.now; version = k.number }, k.told));
}
  where
    below_epoch : (a b : ℕ) → a ≤ b → IsNumber b → IsNumber a
    below_epoch a b h low = omega arith

-- ---- turns whose records fit, have room, and tell what they can

proposed_low : (entries : List PlainEntry) (c : ℕ) → AllByRecursion (IsEntry Two) entries → proposes c entries ≡ true → IsNumber c
proposed_low [] c all h = absurd (false≢true h)
proposed_low (entry ∷ entries) c all h = by_head (is_for c entry) refl h (proposed_low entries c all.1)
  where
    same_number : (a b : ℕ) → (a == b) ≡ true → a ≡ b
    same_number a b e = grind (arith, nat_tests)

    own : (e : PlainEntry) → IsEntry Two e → is_for c e ≡ true → IsNumber c
    own (Propose new version) f k = subst IsNumber (same_number new c k) f.0.0.1
    own (Edited by edit) f k = absurd (false≢true k)
    own (Said to refusal) f k = absurd (false≢true k)
    own (Settle v) f k = absurd (false≢true k)
    own (Prepare epoch moment chunks) f k = absurd (false≢true k)
    own (Finalize epoch) f k = absurd (false≢true k)
    own (RollbackBegin epoch) f k = absurd (false≢true k)
    own (RollbackCommit epoch answers) f k = absurd (false≢true k)
    own (Whole w) f k = absurd (false≢true k)
    own (Holder chunk server) f k = absurd (false≢true k)

    by_head : (b : Bool) → is_for c entry ≡ b → (b || proposes c entries) ≡ true → (proposes c entries ≡ true → IsNumber c) → IsNumber c
    by_head true is k rest = own entry all.0 is
    by_head false is k rest = rest k

room_less : (size all limit : ℕ) → nat_le (size + all) limit ≡ true → all ≤ limit
room_less size all limit h = let le = leb-true (size + all) limit h in omega arith

-- its records, and what it leaves
record Wrote (t : Turn) : Type 0 where
  written : IsWritten t
  within : IsWithin t.after

wrote : (s : State) (t : Turn) → IsSteady s → AllFit s t → IsFirm t.after → HasRoom s t → TellsTurn s t → Wrote t
wrote s t y fit firm room tells = record {
  written = all.0;
  within = record {
    low = all.1;
    spelled = all_keep_spelled t.records s.durable t.after.durable y.firm.stands.kept y.within.spelled tells.told all.0 fit;
    replies = told.0;
    holders = told.1;
    back = all_keep_back t.records s.durable t.after.durable y.firm.stands.kept y.within.spelled y.within.low y.within.back tells.told all.0 fit;
    unplaced = λ c here. by_old c (is_member s.volatile.unplaced c) refl (tells.unplaced c here);
    calls = tells.calls y.within.calls;
  };
}
  where
    small : HasRoom s t → size_of_all t.records ≤ s.log.limit
    small (inl none) = subst (λ es. size_of_all es ≤ s.log.limit) (sym none) (omega arith)
    small (inr fits) = room_less s.log.size (size_of_all t.records) s.log.limit fits

    all : AllByRecursion (IsEntry Two) t.records × AreLow t.after.durable
    all = all_written t.records s.durable t.after.durable s.log.limit y.firm.stands.kept y.within.low firm.stands.counters tells.told (small room) y.limit fit

    told : AreReplies t.after.durable × AreHolders t.after.durable
    told = all_keep_told t.records s.durable t.after.durable y.firm.stands.kept y.within.spelled y.within.replies y.within.holders tells.told all.0 fit

    by_old : (c : ℕ) (b : Bool) → is_member s.volatile.unplaced c ≡ b → (b || proposes c t.records) ≡ true → IsNumber c
    by_old c true is h = y.within.unplaced c is
    by_old c false is h = proposed_low t.records c all.0 h

-- ---- messages

pub messages_written : MessagesWritten
messages_written config s message moment named heard y =
    let t = handle config s message moment in
    let event = Comes message moment in
    let so = events_fit config s event named y.firm in
    let left = logs_stay_within config s event y.room in
    let w = wrote s t y so.fits so.firm (messages_have_room config s message moment) (message_tells s (can_tell s y) (can_answer s y) config message moment named.0 heard named.1) in
    record { written = w.written; steady = record { firm = so.firm; within = w.within; room = left.0; limit = subst (λ n. n < 2 ^ 32) (sym left.1) y.limit } }

-- ---- ticks

holds_of : (s : State) → IsFirm s → Holds true s
holds_of s f = record { stands = f.stands; rolling = λ c r. f.rolling r }

-- what is left of the log
still_room : (size limit all now least : ℕ) → now ≡ size + all → least ≡ limit → nat_le (size + all) limit ≡ true → now ≤ least
still_room size limit all now least e f h = let le = leb-true (size + all) limit h in omega arith

roomy_left : (s : State) (t : Turn) → Roomy true s t → s.log.size ≤ s.log.limit → t.after.log.size ≤ t.after.log.limit
roomy_left s t r room = by_room r.room
  where
    same_room : (size limit all now least : ℕ) → now ≡ size + all → least ≡ limit → all ≡ 0 → size ≤ limit → now ≤ least
    same_room size limit all now least e f none h = omega arith

    by_room : HasRoom s t → t.after.log.size ≤ t.after.log.limit
    by_room (inl none) = same_room s.log.size s.log.limit (size_of_all t.records) t.after.log.size t.after.log.limit r.adds.size r.adds.limit (ap size_of_all none) room
    by_room (inr fit) = still_room s.log.size s.log.limit (size_of_all t.records) t.after.log.size t.after.log.limit r.adds.size r.adds.limit fit

pub steps_written : StepsWritten
steps_written s moment proposal y =
    let t = pressed moment proposal s in
    let good = pressed_good s (holds_of s y.firm) moment proposal in
    let firm : IsFirm t.after = record { stands = good.holds.stands; rolling = λ r. good.holds.rolling refl r } in
    let r = pressed_roomy true moment proposal s in
    let w = wrote s t y good.fits firm r.room (pressed_tells s (can_answer s y) moment proposal) in
    record { written = w.written; steady = record { firm = firm; within = w.within; room = roomy_left s t r y.room; limit = subst (λ n. n < 2 ^ 32) (sym r.adds.limit) y.limit } }

each_written : {A : Type 0} (xs : List A) (step : A → State → Turn) → ((x : A) (s : State) → IsSteady s → WritesAll (step x s)) → (s : State) → IsSteady s → WritesAll (for_each s xs step)
each_written [] step h s y = record { written = tt; steady = y }
each_written (x ∷ xs) step h s y =
    let one = h x s y in
    let rest = each_written xs step h (step x s).after one.steady in
    record { written = all_both (IsEntry Two) (step x s).records (for_each (step x s).after xs step).records one.written rest.written; steady = rest.steady }

nothing_more : (xs : List PlainEntry) → AllByRecursion (IsEntry Two) xs → AllByRecursion (IsEntry Two) (xs ++ [])
nothing_more xs all = all_both (IsEntry Two) xs [] all tt

pub all_steps_written : AllStepsWritten
all_steps_written s moment y =
    let press = for_each s (proposals s) (pressed moment) in
    let all = each_written (proposals s) (pressed moment) (λ proposal next k. steps_written next moment proposal k) s y in record { written = nothing_more press.records all.written; steady = all.steady }

-- ---- what else happens

none_low : (q : ℕ) → is_some (fin.get start.chunks q) ≡ true → IsNumber q
none_low q some = absurd (false≢true (sym (ap is_some (fin.get-empty nat_cmp q)) ∙ some))

none_prepared : (q : ℕ) → is_some (fin.get start.prepared q) ≡ true → IsNumber q
none_prepared q some = absurd (false≢true (sym (ap is_some (fin.get-empty nat_cmp q)) ∙ some))

pub starts_steady : StartsSteady
starts_steady log room limit = record {
  firm = starts_firm log;
  within = record { low = record { settled = none_low; prepared = none_prepared }; spelled = start_spelled; replies = no_replies; holders = no_holders; back = tt; unplaced = λ c here. absurd (false≢true here); calls = tt };
  room = room;
  limit = limit;
}

tidied_within : (s : State) → IsWithin s → IsWithin (written s).after
tidied_within s w = record {
  low = record { settled = λ q some. w.low.settled q (still q (is_listed s.durable q) (sym (ap is_some (kept q)) ∙ some)); prepared = λ q some. w.low.prepared q some };
  spelled = record { now = w.spelled.now; before = w.spelled.before };
  replies = w.replies;
  holders = w.holders;
  back = w.back;
  unplaced = λ c here. w.unplaced c (fewer_member s.volatile.unplaced (awaits_first s) c here);
  calls = w.calls;
}
  where
    kept : (q : ℕ) → fin.get (fin.retain_keys s.durable.chunks (is_listed s.durable)) q ≡ cond (is_listed s.durable q) (fin.get s.durable.chunks q) None
    kept q = fin.get-retain_keys s.durable.chunks (is_listed s.durable) q (λ x tied. ap (is_listed s.durable) (sym (fin.nat_cmp-IsAntisymmetric q x tied)))

    still : (q : ℕ) (b : Bool) → is_some (cond b (fin.get s.durable.chunks q) None) ≡ true → is_some (fin.get s.durable.chunks q) ≡ true
    still q true h = h
    still q false h = absurd (false≢true h)

-- the records of an event, and what it keeps
record Checks (t : Turn) : Type 0 where
  written : IsWritten t
  within : IsWithin t.after

unless_within : (s : State) (refusal : Option Refusal) → IsWithin s → IsWithin (written_unless s refusal).after
unless_within s None w = tidied_within s w
unless_within s (Some refusal) w = w

checkpoint_within : (s : State) → IsWithin s → IsWithin (checkpoint s).after
unfolding checkpoint
checkpoint_within s w = unless_within s (first_of (checkpoint_tests (is_failed s.fault) s.volatile.is_preparing s.log (checkpoint_body s.durable))) w

checkpoint_checks : (s : State) → IsSteady s → Checks (checkpoint s)
checkpoint_checks s y = record { written = checkpoints_written s y; within = checkpoint_within s y.within }

due_checks : (s : State) → IsSteady s → Checks (written_if_due s)
due_checks s y = by_test (due s)
  where
    c : Checks (checkpoint s)
    c = checkpoint_checks s y

    by_test : (b : Bool) → Checks (if b then record (checkpoint s) { said = None } else unmoved s)
    by_test true = record { written = c.written; within = record { low = c.within.low; spelled = c.within.spelled; replies = c.within.replies; holders = c.within.holders; back = c.within.back; unplaced = λ q here. c.within.unplaced q here; calls = c.within.calls } }
    by_test false = record { written = tt; within = y.within }

tick_checks : (s : State) (moment : Moment) → IsSteady s → Checks (tick s moment)
unfolding tick
tick_checks s moment y = by_test (is_failed s.fault)
  where
    steps : Turn
    steps = and_then (for_each s (proposals s) (pressed moment)) granted

    all : WritesAll steps
    all = all_steps_written s moment y

    last : Checks (written_if_due steps.after)
    last = due_checks steps.after all.steady

    by_test : (b : Bool) → Checks (if b then met_by s refusals.Device else and_then steps written_if_due)
    by_test true = record { written = tt; within = y.within }
    by_test false = record { written = all_both (IsEntry Two) steps.records (written_if_due steps.after).records all.written last.written; within = last.within }

-- ---- every event, and every run

event_checks : (config : Config) (s : State) (event : Event) → IsNamed event → IsHeardIn s event → IsSteady s → Checks (turn_of config s event)
event_checks config s (Comes message moment) named heard y =
    let w = messages_written config s message moment named heard y in record { written = w.written; within = w.steady.within }
event_checks config s (Ticks moment) named heard y = tick_checks s moment y
event_checks config s Renews named heard y = checkpoint_checks s y
event_checks config s Restarts named heard y = record { written = tt; within = record { low = y.within.low; spelled = y.within.spelled; replies = y.within.replies; holders = y.within.holders; back = y.within.back; unplaced = λ c here. absurd (false≢true here); calls = tt } }

pub events_written : EventsWritten
events_written config s event named heard y =
    let c = event_checks config s event named heard y in
    let left = logs_stay_within config s event y.room in
    record { written = c.written; steady = record { firm = (events_fit config s event named y.firm).firm; within = c.within; room = left.0; limit = subst (λ n. n < 2 ^ 32) (sym left.1) y.limit } }

pub runs_written : RunsWritten
runs_written config s [] named heard y = record { written = tt; steady = y }
runs_written config s (event ∷ events) named heard y =
    let one = events_written config s event named.0 heard.0 y in
    let now = (turn_of config s event).after in
    let rest = runs_written config now events named.1 heard.1 one.steady in
    record { written = all_both (IsEntry Two) (turn_of config s event).records (run_of config now events).records one.written rest.written; steady = rest.steady }
