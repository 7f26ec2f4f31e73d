-- What the master writes at a step, and what of it is durable then, whatever disks of it fail.
use Rattle.std.proofs.Common.{◌≡◌, ◌∙◌, ◌++◌, ◌≤◌, ◌&&◌, ℕ, Bool, true, false, List, [], ◌∷◌, length, Option, Some, None, refl, sym, ap, subst, inl, inr, arith}
use Rattle.std.specs.Prelude.{is_none, take}
use Rattle.std.proofs.lemmas.Bool.{false≢true}
use Rattle.std.proofs.lemmas.List.{take_all}
use Rattle.gs_base.specs.declared.numbers.Moment.{Moment}
use Rattle.gs_base.specs.declared.refusal.Refusal.{Refusal}
use Rattle.gs_journal.specs.Records.{standing}
use Rattle.gs_master.proofs.Renewed.{plain_tick, written_tick}
use Rattle.gs_master.specs.Masters.{MasterOf}
use Rattle.gs_master.specs.Ticking.{is_written, pressed_all}
use Rattle.gs_laws_master.proofs.lemmas.standing.StandingRuns.{steps_fit}
use Rattle.gs_laws_master.proofs.lemmas.telling.Writing.{all_steps_written, events_written}
use Rattle.gs_laws_master.specs.Promises.{IsWritten}
use Rattle.gs_laws_master.specs.Standing.{Comes as HearsAt, Ticks as TicksAt}
use Rattle.gs_laws_master.specs.Written.{IsHeardBody}
use Rattle.gs_laws_moves.proofs.lemmas.moves.Made.{events_end_once, ticks_end_once}
use Rattle.gs_laws_moves.specs.moves.Epochs.{EndsOnce}
use Rattle.gs_laws_moves.specs.moves.Guards.{Heard, IsMade}
use Rattle.gs_laws_moves.specs.moves.Laws.{said_from}
use Rattle.gs_master_plan.specs.Renewable.{renewal_refusal}
use Rattle.gs_master_record.specs.Plain.{PlainEntry, Whole}
use Rattle.gs_master_spec.specs.Applied.{replayed}
use Rattle.gs_master_spec.specs.Durable.{Durable}
use Rattle.gs_master_spec.specs.Handling.{due, handle, tick}
use Rattle.gs_master_spec.specs.State.{State, Turn, is_failed}
use Rattle.gs_master_spec.specs.Whole.{checkpoint_of}
use Rattle.gs_msg.specs.declared.event.Happening.{Happening}
use Rattle.gs_msg.specs.declared.event.Happening.TheVariants as happenings
use Rattle.gs_msg.specs.declared.message.Message.{Message}
use Rattle.gs_msg.specs.declared.node.NodeId.TheVariants as nodes
use Rattle.gs_msg.specs.declared.node.StoreNode.TheVariants as keepers
use Rattle.gs_nodes.specs.declared.place.MasterPlace.{MasterPlace}
use Rattle.gs_nodes.specs.declared.place.MasterPlace.TheVariants.{Standing, Closed, Away}
use Rattle.gs_world.specs.Histories.{History}
use Rattle.gs_laws_world.specs.lasting.Lasting.{HearsNamed}
use Rattle.gs_world.specs.Runs.{Comes, Step, Takes}
use Rattle.gs_world.specs.Sent.{message_of}
use Rattle.gs_laws_chunks.proofs.lemmas.accounts.Once.{told_once}
use Rattle.gs_laws_chunks.proofs.lemmas.accounts.Through.{arming_through, telling_through}
use Rattle.gs_laws_chunks.proofs.lemmas.accounts.Well.{IsWell, left_sound, step_within, tells_has, well_steady}
use Rattle.gs_laws_chunks.specs.accounts.Hearing.{to_master}
use Rattle.gs_laws_chunks.specs.accounts.Running.{IsGiven, Setup, StepsWithin}
use Rattle.gs_laws_world.proofs.lemmas.steady.Through.{IsAll, Onward, step_on, tells_some}
use Rattle.gs_laws_world.specs.steady.Steady.{HearsWithin, IsHeardAt, LastsSteady, StandsSteady, StepWithin}
use Rattle.gs_laws_world.specs.steady.Through.{TellsAt, TellsOn, Turns as TurnsOf, TurnsAt, is_sound_at}
use Rattle.gs_laws_lift.specs.stores.Doing.{HasDurable}
use Rattle.gs_laws_lift.specs.stores.Left.{as_left}
use Rattle.gs_laws_runs.specs.plain.Written.{IsAllBut, records_at, records_of_message, records_of_tick}

-- What was durable is. Or a master of which no disk had failed has done a turn, of which so many records stand: all, where no disk has failed behind it; and these are those that it was to write, or all but a checkpoint.
pub data Writes {D : Type 0} (records : List PlainEntry) (old new : MasterPlace D) (d e : Durable) : Type 0 where
  Keeps : e ≡ d → Writes records old new d e
  Turns : (m : MasterOf D) (heard : Heard) (t : Turn) (many all : ℕ) → as_left old ≡ Standing m → m.state.durable ≡ d → EndsOnce m.config (IsMade m.config heard) m.state t → IsWritten t → many ≤ length t.records → replayed d (take many t.records) ≡ Some e
      → t.records ≡ take all records → IsAllBut records t.records → (is_sound_at new ≡ true → many ≡ length t.records) → Writes records old new d e

-- that it has done a turn
pub record WritesTurn {D : Type 0} (records : List PlainEntry) (old new : MasterPlace D) (d e : Durable) : Type 0 where
  pub m : MasterOf D
  pub heard : Heard
  pub t : Turn
  pub many : ℕ
  pub all : ℕ
  pub at : as_left old ≡ Standing m
  pub first : m.state.durable ≡ d
  pub turn : EndsOnce m.config (IsMade m.config heard) m.state t
  pub written : IsWritten t
  pub low : many ≤ length t.records
  pub stands : replayed d (take many t.records) ≡ Some e
  pub are : t.records ≡ take all records
  pub but : IsAllBut records t.records
  pub whole : is_sound_at new ≡ true → many ≡ length t.records

of_turn : {D : Type 0} (records : List PlainEntry) (old new : MasterPlace D) (d e : Durable) → WritesTurn records old new d e → Writes records old new d e
of_turn records old new d e w = Turns w.m w.heard w.t w.many w.all w.at w.first w.turn w.written w.low w.stands w.are w.but w.whole

-- ---- lists of records

first_of_both : (xs ys : List PlainEntry) → xs ≡ take (length xs) (xs ++ ys)
first_of_both [] ys = refl
first_of_both (x ∷ xs) ys = ap (λ es. x ∷ es) (first_of_both xs ys)

all_itself : (xs : List PlainEntry) → xs ≡ take (length xs) xs
all_itself xs = sym (take_all (length xs) xs (omega arith))

-- ---- a tick

no_refusal : (s : State) → is_written s ≡ true → renewal_refusal s ≡ None
no_refusal s is = by_option (renewal_refusal s) is
  where
    by_option : (o : Option Refusal) → is_none o ≡ true → o ≡ None
    by_option None is = refl
    by_option (Some refusal) is = absurd (false≢true is)

-- its records are those of its steps, and perhaps a checkpoint
tick_begins : (s : State) (moment : Moment) → is_failed s.fault ≡ false → (more : List PlainEntry) × (((tick s moment).records ≡ (pressed_all s moment).records ++ more) × IsAllBut (tick s moment).records (pressed_all s moment).records)
tick_begins s moment sound = by_due (due steps.after) refl (is_written steps.after) refl
  where
    steps : Turn
    steps = pressed_all s moment

    plain : (due steps.after && is_written steps.after) ≡ false → (more : List PlainEntry) × (((tick s moment).records ≡ steps.records ++ more) × IsAllBut (tick s moment).records steps.records)
    plain none = (let same = ap (λ (t : Turn). t.records) (plain_tick s moment sound none) in ([], (same ∙ nothing_more steps.records, inl (sym same))))
      where
        nothing_more : (xs : List PlainEntry) → xs ≡ xs ++ []
        nothing_more [] = refl
        nothing_more (x ∷ xs) = ap (λ es. x ∷ es) (nothing_more xs)

    by_due : (b : Bool) → due steps.after ≡ b → (c : Bool) → is_written steps.after ≡ c → (more : List PlainEntry) × (((tick s moment).records ≡ steps.records ++ more) × IsAllBut (tick s moment).records steps.records)
    by_due false is c can = plain (ap (λ b. b && is_written steps.after) is)
    by_due true is false can = plain (ap (λ b. b && is_written steps.after) is ∙ can)
    by_due true is true can = (let are = ap (λ (t : Turn). t.records) (written_tick s moment sound is (no_refusal steps.after can)) in (Whole (checkpoint_of steps.after.durable) ∷ [], (are, inr (checkpoint_of steps.after.durable, are))))

-- what comes to the master is heard by it
to_it : (message : Message) → message.to ≡ nodes.Master → to_master (Some message) ≡ Some message
to_it message h = rw h refl

module _ {D : Type 0} (x : Setup D) where
  pub has_one : (place : MasterPlace D) (d e : Durable) → HasDurable x.seen place d → HasDurable x.seen place e → d ≡ e
  has_one (Standing m) d e p q = sym p ∙ q
  has_one (Closed first second) d e p q = told_once (standing (x.seen first) (x.seen second)) d e p q
  has_one Away d e p q = absurd p

module _ {D : Type 0} (x : Setup D) (given : IsGiven x) where
  -- ---- a turn of which a part stands

  module _ (old : History D) (m : MasterOf D) (t : Turn) (many : ℕ) (d e : Durable) (at : old.nodes.master ≡ Standing m) (sound : is_failed m.state.fault ≡ false) (h : StandsSteady x.seen m) (same : m.state.durable ≡ d) (low : many ≤ length t.records) (stand : replayed d (take many t.records) ≡ Some e) (new : MasterPlace D) (whole : is_sound_at new ≡ true → many ≡ length t.records) where
    abbrev At : MasterPlace D → Type 0
    At place = as_left place ≡ Standing m

    left : as_left old.nodes.master ≡ Standing m
    left = ap as_left at ∙ left_sound x.seen m sound

    abbrev W : List PlainEntry → Type 0
    W records = WritesTurn records old.nodes.master new d e

    turns : (heard : Heard) (u : Turn) (all : ℕ) (records : List PlainEntry) → t.records ≡ u.records → EndsOnce m.config (IsMade m.config heard) m.state u → IsWritten u → u.records ≡ take all records → IsAllBut records u.records → W records
    turns heard u all records is once written are but =
        record {
          m = m;
          heard = heard;
          t = u;
          many = many;
          all = all;
          at = left;
          first = same;
          turn = once;
          written = written;
          low = subst (λ (xs : List PlainEntry). many ≤ length xs) is low;
          stands = subst (λ (xs : List PlainEntry). replayed d (take many xs) ≡ Some e) is stand;
          are = are;
          but = but;
          whole = λ sound. whole sound ∙ ap (λ (xs : List PlainEntry). length xs) is;
        }

    pub by_happening : (moment : Moment) (happening : Happening) → HearsNamed moment happening old × HearsWithin happening old → TurnsOf moment happening old m t → W (records_at (Comes (record { moment = moment; happening = happening })) old)
    by_happening moment (happenings.Deliver id) within (message, found, to, is) =
        let named = within.0 message found to in
        let low_body : IsHeardBody m.state.durable.names message.body = subst (λ p. IsHeardAt p message.body) at (within.1 message found to) in
        let u = handle m.config m.state message moment in
        let heard : to_master (message_of old.sent id) ≡ Some message = ap to_master found ∙ to_it message to in
        subst (λ o. W (records_of_message old.nodes.master moment o)) (sym heard)
        (subst (λ p. W (records_of_message p moment (Some message))) (sym at)
        (turns (said_from message.from message.body) u (length u.records) u.records (ap (λ (v : Turn). v.records) is) (events_end_once m.config m.state (HearsAt message moment) named h.steady.firm) (events_written m.config m.state (HearsAt message moment) named low_body h.steady).written (all_itself u.records) (inl refl)))
    by_happening moment (happenings.Tick keepers.Master) within (inl is) =
        let u = tick m.state moment in
        subst (λ p. W (records_of_tick p moment)) (sym at) (turns None u (length u.records) u.records (ap (λ (v : Turn). v.records) is) (events_end_once m.config m.state (TicksAt moment) tt h.steady.firm) (events_written m.config m.state (TicksAt moment) tt tt h.steady).written (all_itself u.records) (inl refl))
    by_happening moment (happenings.Tick keepers.Master) within (inr is) =
        let steps = pressed_all m.state moment in
        let more = tick_begins m.state moment sound in
        subst (λ p. W (records_of_tick p moment)) (sym at)
        (turns None steps (length steps.records) (tick m.state moment).records (ap (λ (v : Turn). v.records) is) (ticks_end_once m.config m.state moment h.steady.firm (steps_fit m.state moment h.steady.firm)) (all_steps_written m.state moment h.steady).written
        (first_of_both steps.records more.0 ∙ ap (take (length steps.records)) (sym more.1.0)) more.1.1)
    by_happening moment (happenings.Tick (keepers.Server id)) within made = absurd made
    by_happening moment (happenings.Ask req request) within made = absurd made
    by_happening moment (happenings.Beat id) within made = absurd made
    by_happening moment (happenings.Restart node) within made = absurd made
    by_happening moment (happenings.Lose id handle) within made = absurd made
    by_happening moment (happenings.Damage id handle block) within made = absurd made
    by_happening moment (happenings.FailDisk disk call) within made = absurd made

  by_part : (step : Step) (old : History D) (new : MasterPlace D) (d e : Durable) → IsWell x old → StepWithin step old → HasDurable x.seen (as_left old.nodes.master) d → (on : TellsOn (TurnsAt step old) old.nodes.master d e) → (is_sound_at new ≡ true → IsAll x.seen x.failures on) → Writes (records_at step old) old.nodes.master new d e
  by_part step old new d e well within has (inl same) all = Keeps same
  by_part (Comes event) old new d e well within has (inr part) all =
      let left = ap as_left part.place ∙ left_sound x.seen part.master part.sound in
      of_turn (records_at (Comes event) old) old.nodes.master new d e
      (by_happening old part.master part.turn part.many d e part.place part.sound (subst (LastsSteady x.seen) left (well_steady x old well)) (subst (λ p. HasDurable x.seen p d) left has) part.within part.stand new all event.moment event.happening within part.made)
  by_part (Takes client) old new d e well within has (inr part) all = absurd part.made

  -- so it is of each step, of what the disks told before it and tell behind it
  pub writes : (step : Step) (old new : History D) (d e : Durable) → IsWell x old → StepsWithin x step old new → HasDurable x.seen (as_left old.nodes.master) d → HasDurable x.seen (as_left new.nodes.master) e → Writes (records_at step old) old.nodes.master new.nodes.master d e
  writes step old new d e well one had has = subst (Writes (records_at step old) old.nodes.master new.nodes.master d) last (from told.0 first behind)
    where
      within : StepWithin step old
      within = step_within x given step old new well one

      told : (f : Durable) × TellsAt x.seen old.nodes.master f
      told = tells_some x.seen x.failures old.nodes.master well.steady

      behind : Onward x.seen x.failures (TurnsAt step old) old.nodes.master told.0 new.nodes.master
      behind = step_on x.seen x.failures x.armed (λ disk call place h. arming_through x.seen place (x.armed disk call place) (given.armed disk call place) h) (λ f disk call place h. telling_through x.seen f place (x.armed disk call place) (given.armed disk call place) h) step old new told.0 one.goes within well.steady told.1

      from : (z : Durable) → z ≡ d → (b : Onward x.seen x.failures (TurnsAt step old) old.nodes.master z new.nodes.master) → Writes (records_at step old) old.nodes.master new.nodes.master d b.durable
      from z same b = subst (λ f. Writes (records_at step old) old.nodes.master new.nodes.master f b.durable) same (by_part step old new.nodes.master z b.durable well within (subst (HasDurable x.seen (as_left old.nodes.master)) (sym same) had) b.on b.all)

      first : told.0 ≡ d
      first = has_one x (as_left old.nodes.master) told.0 d (tells_has x.seen x.failures old.nodes.master told.0 well.steady told.1) had

      last : behind.durable ≡ e
      last = has_one x (as_left new.nodes.master) behind.durable e (tells_has x.seen x.failures new.nodes.master behind.durable behind.lasts behind.tells) has
