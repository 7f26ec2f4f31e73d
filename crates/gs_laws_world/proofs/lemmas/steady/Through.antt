-- That the master lasts through failures of its disks, and what they tell then.
use Rattle.std.proofs.Common.{◌≡◌, ◌∙◌, inl, inr, ◌+◌, ◌<◌, ◌≤◌, ◌&&◌, ◌++◌, ℕ, Bool, true, false, not, List, [], ◌∷◌, length, Option, Some, None, MatchOption, Result, Ok, Err, refl, ap, subst, sym, arith}
use Rattle.std.specs.Prelude.{MatchBool, take}
use Rattle.std.specs.List.{AllByRecursion}
use Rattle.std.proofs.lemmas.Bool.{false≢true}
use Rattle.std.proofs.lemmas.List.{take_all}
use Rattle.gs_base.specs.Calls.{Does}
use Rattle.gs_base.specs.Told.{IsNumber}
use Rattle.gs_base.specs.declared.config.Config.{Config}
use Rattle.gs_base.specs.declared.numbers.Moment.{Moment}
use Rattle.gs_base.specs.declared.numbers.ReqId.{ReqId}
use Rattle.gs_base.specs.declared.refusal.Refusal.{Refusal}
use Rattle.gs_base.specs.declared.refusal.Refusal.TheVariants as refusals
use Rattle.gs_client.specs.Nodes.{given_up}
use Rattle.gs_journal.specs.Faults.{Failing, armed}
use Rattle.gs_journal.specs.declared.fault.Fault.{Fault as Failure}
use Rattle.gs_journal.specs.Journal.{State as Journal, checkpoint_size, text_size}
use Rattle.gs_journal.specs.Records.{Text, fresh as fresh_text, standing}
use Rattle.gs_journal.specs.declared.version.Version.TheVariants as versions
use Rattle.gs_journal.specs.declared.version.Version.TheVariants.{Two}
use Rattle.gs_master.proofs.Composing.{all_front}
use Rattle.gs_master.proofs.Idle.{nothing_recorded}
use Rattle.gs_master.proofs.Renewed.{failed_tick, plain_tick, written_tick}
use Rattle.gs_master.specs.Finishing.{and_checkpoint}
use Rattle.gs_master.specs.Journaled.{text_seen}
use Rattle.gs_master.specs.Masters.{IsAnswered, IsAnsweredUnsure, LeavesText, MasterAnswers, MasterOf, with_journal}
use Rattle.gs_master.specs.Recovering.{TellsStill}
use Rattle.gs_master.specs.Ticking.{AnswersAs, AnswersTick, IsAnsweredAnew, LeavesAnew, is_written, lacking, pressed_all, writes_one}
use Rattle.gs_master.specs.declared.turn.Turn.{Turn as Told}
use Rattle.gs_laws_master.proofs.lemmas.restarts.Reached.{disks_hold_at_places, disks_hold_at_step_places}
use Rattle.gs_laws_master.proofs.lemmas.rooms.RoomsOfTurns.{logs_stay_within, messages_have_room, ticks_have_room}
use Rattle.gs_laws_master.proofs.lemmas.standing.StandingRuns.{events_fit, steps_fit}
use Rattle.gs_laws_master.proofs.lemmas.telling.Writing.{all_steps_written, events_written, messages_written}
use Rattle.gs_laws_master.proofs.lemmas.telling.WritingPlaces.{all_steps_written_at_places, events_written_at_places}
use Rattle.gs_laws_master.specs.Rooms.{HasRoom}
use Rattle.gs_laws_master.specs.Standing.{Comes as HearsAt, IsFirm, IsNamedBody, Ticks as TicksAt}
use Rattle.gs_laws_master.specs.Written.{IsSteady}
use Rattle.gs_master_plan.specs.Renewable.{renewal_refusal}
use Rattle.gs_master_record.specs.Plain.{PlainEntry, Whole}
use Rattle.gs_master_record.specs.Writable.{IsEntry}
use Rattle.gs_master_spec.specs.Applied.{replayed}
use Rattle.gs_master_spec.specs.Durable.{Durable, start}
use Rattle.gs_master_spec.specs.Handling.{checkpoint_body, due, handle, tick}
use Rattle.gs_master_spec.specs.Outcomes.{caller_of}
use Rattle.gs_master_spec.specs.State.{State, Turn, is_failed, size_of_all}
use Rattle.gs_master_spec.specs.Whole.{checkpoint_of}
use Rattle.gs_msg.specs.declared.event.DiskId.{DiskId}
use Rattle.gs_msg.specs.declared.event.DiskId.TheVariants as disks
use Rattle.gs_msg.specs.declared.event.Happening.{Happening}
use Rattle.gs_msg.specs.declared.event.Happening.TheVariants as happenings
use Rattle.gs_msg.specs.declared.message.Message.{Message}
use Rattle.gs_msg.specs.declared.node.NodeId.{NodeId}
use Rattle.gs_msg.specs.declared.node.NodeId.TheVariants as nodes
use Rattle.gs_msg.specs.declared.node.StoreNode.{StoreNode}
use Rattle.gs_msg.specs.declared.node.StoreNode.TheVariants as keepers
use Rattle.gs_nodes.specs.Happenings.{ClientAsks, ClientHears, Delivers, Hears, MasterHears, MasterTicks, Opens, Reopens, ServerDoes, limit}
use Rattle.gs_nodes.specs.Nodes.{Nodes, with_master}
use Rattle.gs_nodes.specs.declared.place.MasterPlace.{MasterPlace}
use Rattle.gs_nodes.specs.declared.place.MasterPlace.TheVariants.{Standing, Closed, Away}
use Rattle.gs_server.specs.Servers as servers
use Rattle.gs_laws_world.proofs.lemmas.lasting.Lasting.{opens_told}
use Rattle.gs_world.specs.Histories.{AtNode, Begins, ComesTo, History, Restarts, Ticks, Upshot, arms, fault_at, seen_of}
use Rattle.gs_laws_world.specs.lasting.Lasting.{HearsNamed, IsToldIn, OpensAs, StandsFirm, WaitsAs}
use Rattle.gs_world.specs.Runs.{Comes, Goes, RunsTo, Step, Takes}
use Rattle.gs_world.specs.Sent.{message_of}
use Rattle.gs_laws_world.proofs.lemmas.steady.Apart.{at_client, at_server}
use Rattle.gs_laws_world.proofs.lemmas.steady.Keeping.{step_keeps, step_within}
use Rattle.gs_laws_world.proofs.lemmas.steady.Parts.{AtEach, IsPart, has_room, part_all, part_anew, part_left, part_of_more, tells_anew, tells_more}
use Rattle.gs_laws_world.proofs.lemmas.lasting.Entries.{same_entries}
use Rattle.gs_laws_world.proofs.lemmas.steady.Steady.{begins_steady, both, goes_on, goes_on_anew, left_standing, nothing, opened, sound_writes, steps_bounded, tells_one}
use Rattle.gs_laws_world.specs.steady.Saying.{IsStepWithin, KeepsTypes}
use Rattle.gs_laws_world.specs.steady.Steady.{HearsWithin, IsHeardAt, LastsSteady, StandsSteady, StepWithin, TellsSteady}
use Rattle.gs_laws_world.specs.steady.Through.{LastsThrough, TellsAt, TellsOn, Turns, TurnsAt, is_sound_at}

some_is : {A : Type 0} (x y : A) → Some x ≡ Some y → x ≡ y
some_is x y is = cc

-- a text tells one
pub told_once : (text : Text) (d e : Durable) → IsToldIn text d → IsToldIn text e → d ≡ e
told_once text d e t u =
    let same = same_entries Two t.entries u.entries t.are_entries u.are_entries (ap (λ (x : Text). x.1) (sym t.records ∙ u.records)) in
    some_is d e (sym t.replays ∙ ap (replayed start) same ∙ u.replays)

-- one of the second version is never written anew
still_told : (old new : Text) (d : Durable) → IsToldIn old d → TellsStill old new → new ≡ old
still_told old new d told (inl same) = same
still_told old new d told (inr (entries, durable, tells, one, anew)) = absurd (never (sym one ∙ ap (λ (t : Text). t.0) told.records))
  where
    never : versions.One ≡ versions.Two → ⊥
    never is = cc

above : (n m : ℕ) → n < m → m ≡ 0 → ⊥
above n m below none = omega arith

-- as many bytes as the log counts, and those of the records
fits_text : (many size more most least : ℕ) → many ≡ size → size + more ≤ most → most ≡ least → many + more ≤ least
fits_text many size more most least is room bound = omega arith

module _ {D : Type 0} (seen : D → List ℕ) (failures : D → ℕ) where
  -- ---- a master that lasts

  abbrev By : MasterOf D → Bool → Type 0
  By m failed = MatchBool failed (TellsSteady (text_seen seen m.journal)) (StandsSteady seen m)

  stands_left : (m : MasterOf D) → is_failed m.state.fault ≡ false → LastsThrough seen (Standing m) → StandsSteady seen m
  stands_left m sound h = subst (By m) sound h

  lasts_standing : (m : MasterOf D) → StandsSteady seen m → LastsThrough seen (Standing m)
  lasts_standing m h = subst (By m) (sym h.firm.sound) h

  failed_tells : (m : MasterOf D) → is_failed m.state.fault ≡ true → LastsThrough seen (Standing m) → TellsSteady (text_seen seen m.journal)
  failed_tells m failed h = subst (By m) failed h

  lasts_failed : (m : MasterOf D) → is_failed m.state.fault ≡ true → TellsSteady (text_seen seen m.journal) → LastsThrough seen (Standing m)
  lasts_failed m failed told = subst (By m) (sym failed) told

  tells_standing : (m : MasterOf D) → StandsSteady seen m → IsToldIn (text_seen seen m.journal) m.state.durable
  tells_standing m h = subst (λ (t : Text). IsToldIn t m.state.durable) (sym h.firm.as_seen.text) h.firm.told

  -- what the disks of one that lasts tell
  disks_tell : (m : MasterOf D) → LastsThrough seen (Standing m) → TellsSteady (text_seen seen m.journal)
  disks_tell m h = by_fault (is_failed m.state.fault) refl
    where
      by_fault : (b : Bool) → is_failed m.state.fault ≡ b → TellsSteady (text_seen seen m.journal)
      by_fault true failed = failed_tells m failed h
      by_fault false sound = left_standing seen failures m (stands_left m sound h)

  -- ---- what becomes of a master

  -- all records of the turn stand, if one was made
  abbrev pub IsAll : {Made : MasterOf D → Turn → Type 0} {old : MasterPlace D} {d e : Durable} → TellsOn Made old d e → Type 0
  IsAll (inl same) = Unit {0}
  IsAll (inr part) = part.many ≡ length part.turn.records

  pub record Onward (Made : MasterOf D → Turn → Type 0) (old : MasterPlace D) (d : Durable) (new : MasterPlace D) : Type 0 where
    pub lasts : LastsThrough seen new
    pub durable : Durable
    pub tells : TellsAt seen new durable
    pub on : TellsOn Made old d durable
    pub all : is_sound_at new ≡ true → IsAll on

  moved_on : (Made : MasterOf D → Turn → Type 0) (old new place : MasterPlace D) (d : Durable) → new ≡ place → Onward Made old d place → Onward Made old d new
  moved_on Made old new place d is on = subst (Onward Made old d) (sym is) on

  -- nothing becomes of it
  rests_on : (Made : MasterOf D → Turn → Type 0) (old : MasterPlace D) (d : Durable) → LastsThrough seen old → TellsAt seen old d → Onward Made old d old
  rests_on Made old d h told = record { lasts = h; durable = d; tells = told; on = inl refl; all = λ sound. tt }

  -- a disk had failed, and the journal is left
  idles_on : (Made : MasterOf D → Turn → Type 0) (m after : MasterOf D) (d : Durable) → is_failed m.state.fault ≡ true → LastsThrough seen (Standing m) → TellsAt seen (Standing m) d → after.state.fault ≡ m.state.fault → after.journal ≡ m.journal
      → Onward Made (Standing m) d (Standing after)
  idles_on Made m after d failed h told fault journal = record {
    lasts = lasts_failed after (ap is_failed fault ∙ failed) (subst (λ (j : Journal D). TellsSteady (text_seen seen j)) (sym journal) (failed_tells m failed h));
    durable = d;
    tells = subst (λ (j : Journal D). IsToldIn (text_seen seen j) d) (sym journal) told;
    on = inl refl;
    all = λ sound. tt;
  }

  -- ---- a turn that is done

  firm_on : (t : Turn) (old : MasterOf D) (told : Told) (new : MasterOf D) → StandsFirm seen old → IsFirm t.after → IsAnswered seen failures t old told new → StandsFirm seen new
  firm_on t old told new h firm is =
      let sound = ap is_failed is.fault ∙ h.sound in record {
        sound = sound;
        firm = subst IsFirm (sym is.done.after) firm;
        as_seen = is.as_seen sound;
        known = is.known sound;
        told = tells_more old.journal.text new.journal.text old.state.durable new.state.durable t.records h.told is.are_entries is.fit is.text;
      }

  firm_on_anew : (steps : Turn) (old : MasterOf D) (told : Told) (new : MasterOf D) → StandsFirm seen old → IsFirm (and_checkpoint steps).after → replayed old.state.durable (and_checkpoint steps).records ≡ Some (and_checkpoint steps).after.durable
      → IsAnsweredAnew seen failures (and_checkpoint steps) steps old told new → StandsFirm seen new
  firm_on_anew steps old told new h firm fits is = record {
    sound = ap is_failed is.fault ∙ h.sound;
    firm = subst IsFirm (sym is.done.after) firm;
    as_seen = is.as_seen;
    known = is.known;
    told = tells_anew new.journal.text old.state.durable new.state.durable steps.records steps.after.durable is.is_entry is.fit (fits ∙ ap (λ (s : State). Some s.durable) (sym is.done.after)) is.text;
  }

  module _ (Made : MasterOf D → Turn → Type 0) (m : MasterOf D) (h : StandsSteady seen m) (d : Durable) (told_d : TellsAt seen (Standing m) d) where
    is_durable : m.state.durable ≡ d
    is_durable = told_once (text_seen seen m.journal) m.state.durable d (tells_standing m h) told_d

    -- all its records stand
    done_on : (t : Turn) (after : MasterOf D) → Made m t → StandsSteady seen after → replayed m.state.durable t.records ≡ Some after.state.durable → Onward Made (Standing m) d (Standing after)
    done_on t after made steady fit = record {
      lasts = lasts_standing after steady;
      durable = after.state.durable;
      tells = tells_standing after steady;
      on = inr (record {
        master = m;
        turn = t;
        many = length t.records;
        place = refl;
        sound = h.firm.sound;
        made = made;
        within = omega arith;
        stand = ap (replayed d) (take_all (length t.records) t.records (omega arith)) ∙ ap (λ x. replayed x t.records) (sym is_durable) ∙ fit;
      });
      all = λ sound. refl;
    }

    -- a disk failed at one of them
    cut_on : (t : Turn) (after : MasterOf D) → Made m t → is_failed after.state.fault ≡ true → IsPart m.state.durable t.records (text_seen seen after.journal) → Onward Made (Standing m) d (Standing after)
    cut_on t after made failed part = record {
      lasts = lasts_failed after failed part.steady;
      durable = part.durable;
      tells = part.told;
      on = inr (record {
        master = m;
        turn = t;
        many = part.many;
        place = refl;
        sound = h.firm.sound;
        made = made;
        within = part.within;
        stand = ap (λ x. replayed x (take part.many t.records)) (sym is_durable) ∙ part.stand;
      });
      all = λ sound. absurd (false≢true (sym (ap not failed) ∙ sound));
    }

    room_for : (records : List PlainEntry) → m.state.log.size + size_of_all records ≤ m.state.log.limit → text_size m.journal.text + size_of_all records ≤ limit
    room_for records room = fits_text (text_size m.journal.text) m.state.log.size (size_of_all records) m.state.log.limit limit (sym h.firm.as_seen.whole ∙ sym h.firm.known.size) room h.bound

    has_failed : (caller : Option ReqId) (t : Turn) (Leaves : ℕ → Text → Text → Type 0) (place : ℕ) (told : Told) (after : MasterOf D) → IsAnsweredUnsure seen failures Leaves caller t place m told after → is_failed after.state.fault ≡ true
    has_failed caller t Leaves place told after is = ap (λ (s : State). is_failed s.fault) is.cut.after

    -- a turn is done, or cut where a disk failed
    answered_on : (caller : Option ReqId) (t : Turn) (told : Told) (after : MasterOf D) → Made m t → IsSteady t.after → t.after.log.limit ≡ m.state.log.limit → HasRoom m.state t → AtEach m.state.durable t.records
        → MasterAnswers seen failures caller t m (Ok told) after → Onward Made (Standing m) d (Standing after)
    answered_on caller t told after made steady bounded room each (inl is) =
        done_on t after made (goes_on seen failures t m told after h (firm_on t m told after h.firm steady.firm is) steady bounded is) is.fit
    answered_on caller t told after made steady bounded room each (inr (place, is)) =
        cut_on t after made (has_failed caller t (LeavesText t.records) place told after is)
        (part_left m.journal.text (text_seen seen after.journal) m.state.durable t.records h.firm.told is.are_entries (room_for t.records (has_room m.state t h.steady.room room)) each place is.cut.within is.shown)

    -- ---- a tick

    held_by : replayed start h.firm.told.entries ≡ Some m.state.durable
    held_by = h.firm.told.replays

    steps_each : (moment : Moment) → AtEach m.state.durable (pressed_all m.state moment).records
    steps_each moment = record {
      made = λ many. let c = disks_hold_at_step_places h.firm.told.entries m.state moment many h.firm.firm held_by in (c.durable, c.made);
      steady = λ many e log fit room small. all_steps_written_at_places m.state moment many e log h.steady fit room small;
    }

    tick_each : (config : Config) (moment : Moment) → AtEach m.state.durable (tick m.state moment).records
    tick_each config moment = record {
      made = λ many. let c = disks_hold_at_places config h.firm.told.entries m.state (TicksAt moment) many tt h.firm.firm held_by in (c.durable, c.made);
      steady = λ many e log fit room small. events_written_at_places config m.state (TicksAt moment) many e log tt tt h.steady fit room small;
    }

    whole_on : (moment : Moment) (told : Told) (after : MasterOf D) (b : Bool) → writes_one m.state (pressed_all m.state moment) ≡ b → Made m (tick m.state moment)
        → AnswersAs seen failures b (tick m.state moment) (pressed_all m.state moment) m told after → Onward Made (Standing m) d (Standing after)
    whole_on moment told after false is made answers =
        let steps = pressed_all m.state moment in
        let plain = plain_tick m.state moment h.firm.sound (sym (sound_writes (is_failed m.state.fault) (due steps.after && is_written steps.after) h.firm.sound) ∙ is) in
        answered_on None (tick m.state moment) told after made (subst (λ (t : Turn). IsSteady t.after) (sym plain) (all_steps_written m.state moment h.steady).steady)
        (ap (λ (t : Turn). t.after.log.limit) plain ∙ steps_bounded m.state moment) (subst (HasRoom m.state) (sym plain) (ticks_have_room m.state moment)) (tick_each m.config moment) answers
    whole_on moment told after true is made answers = by_answer answers
      where
        steps : Turn
        steps = pressed_all m.state moment

        first : (due steps.after ≡ true) × (is_written steps.after ≡ true)
        first = both (due steps.after) (is_written steps.after) (sym (sound_writes (is_failed m.state.fault) (due steps.after && is_written steps.after) h.firm.sound) ∙ is)

        anew : tick m.state moment ≡ and_checkpoint steps
        anew = written_tick m.state moment h.firm.sound first.0 (nothing (renewal_refusal steps.after) first.1)

        records : (tick m.state moment).records ≡ steps.records ++ Whole (checkpoint_of steps.after.durable) ∷ []
        records = ap (λ (t : Turn). t.records) anew

        fits : replayed m.state.durable (tick m.state moment).records ≡ Some (tick m.state moment).after.durable
        fits = (events_fit m.config m.state (TicksAt moment) tt h.firm.firm).fits

        fits_anew : replayed m.state.durable (and_checkpoint steps).records ≡ Some (and_checkpoint steps).after.durable
        fits_anew = subst (λ (t : Turn). replayed m.state.durable t.records ≡ Some t.after.durable) anew fits

        steady : IsSteady (and_checkpoint steps).after
        steady = subst (λ (t : Turn). IsSteady t.after) anew (events_written m.config m.state (TicksAt moment) tt tt h.steady).steady

        -- the checkpoint has room
        small : checkpoint_size (checkpoint_body steps.after.durable) ≤ limit
        small =
            let left = logs_stay_within m.config m.state (TicksAt moment) h.steady.room in
            let now = subst (λ (t : Turn). (t.after.log.size ≤ t.after.log.limit) × (t.after.log.limit ≡ m.state.log.limit)) anew left in subst (λ n. checkpoint_size (checkpoint_body steps.after.durable) ≤ n) (now.1 ∙ h.bound) now.0

        -- a disk failed at a step's record, or at the checkpoint
        left_by : (place : ℕ) → IsAnsweredUnsure seen failures (LeavesAnew steps) None (tick m.state moment) place m told after → IsPart m.state.durable (tick m.state moment).records (text_seen seen after.journal)
        left_by place is = by_place is.shown
          where
            are : AllByRecursion (IsEntry Two) (steps.records ++ Whole (checkpoint_of steps.after.durable) ∷ [])
            are = subst (AllByRecursion (IsEntry Two)) records is.are_entries

            are_steps : AllByRecursion (IsEntry Two) steps.records
            are_steps = all_front (IsEntry Two) steps.records (Whole (checkpoint_of steps.after.durable) ∷ []) are

            room : text_size m.journal.text + size_of_all steps.records ≤ limit
            room = room_for steps.records (has_room m.state steps h.steady.room (ticks_have_room m.state moment))

            of_steps : IsPart m.state.durable steps.records (text_seen seen after.journal) → IsPart m.state.durable (tick m.state moment).records (text_seen seen after.journal)
            of_steps part = part_of_more m.state.durable steps.records (Whole (checkpoint_of steps.after.durable) ∷ []) (tick m.state moment).records (text_seen seen after.journal) records part

            by_place : LeavesAnew steps place m.journal.text (text_seen seen after.journal) → IsPart m.state.durable (tick m.state moment).records (text_seen seen after.journal)
            by_place (inl (below, leaves)) = of_steps (part_left m.journal.text (text_seen seen after.journal) m.state.durable steps.records h.firm.told are_steps room (steps_each moment) place below leaves)
            by_place (inr (at, inl all)) = of_steps (part_all m.journal.text (text_seen seen after.journal) m.state.durable steps.records h.firm.told are_steps room (steps_each moment) all)
            by_place (inr (at, inr alone)) =
                part_anew m.state.durable (tick m.state moment).after.durable steps.after.durable steps.records (tick m.state moment).records (text_seen seen after.journal) records (last_of steps.records are)
                fit_steps fits (tick_each m.config moment) small alone
              where
                last_of : (xs : List PlainEntry) → AllByRecursion (IsEntry Two) (xs ++ Whole (checkpoint_of steps.after.durable) ∷ []) → IsEntry Two (Whole (checkpoint_of steps.after.durable))
                last_of [] all = all.0
                last_of (x ∷ xs) all = last_of xs all.1

                fit_steps : replayed m.state.durable steps.records ≡ Some steps.after.durable
                fit_steps = steps_fit m.state moment h.firm.firm

        by_answer : AnswersAs seen failures true (tick m.state moment) steps m told after → Onward Made (Standing m) d (Standing after)
        by_answer (inl is) =
            let done = subst (λ (t : Turn). IsAnsweredAnew seen failures t steps m told after) anew is in
            let firm = firm_on_anew steps m told after h.firm steady.firm fits_anew done in
            done_on (tick m.state moment) after made (goes_on_anew seen failures steps m told after h firm steady (steps_bounded m.state moment) done) (fits ∙ ap (λ (s : State). Some s.durable) (sym is.done.after))
        by_answer (inr (place, is)) = cut_on (tick m.state moment) after made (has_failed None (tick m.state moment) (LeavesAnew steps) place told after is) (left_by place is)

    ticked_on : (moment : Moment) (result : Result Told Refusal) (after : MasterOf D) → Made m (tick m.state moment) → Made m (lacking (pressed_all m.state moment)) → AnswersTick seen failures moment m result after → Onward Made (Standing m) d (Standing after)
    ticked_on moment (Ok told) after made short (inl whole) = whole_on moment told after (writes_one m.state (pressed_all m.state moment)) refl made whole
    ticked_on moment (Ok told) after made short (inr (sound, is_due, none, answers)) =
        answered_on None (lacking (pressed_all m.state moment)) told after short (all_steps_written m.state moment h.steady).steady (steps_bounded m.state moment) (ticks_have_room m.state moment) (steps_each moment) answers
    ticked_on moment (Err e) after made short (why, still) = moved_on Made (Standing m) (Standing after) (Standing m) d (ap (λ (x : MasterOf D). Standing x) still) (rests_on Made (Standing m) d (lasts_standing m h) told_d)

    -- ---- a message

    heard_on : (message : Message) (moment : Moment) (result : Result Told Refusal) (after : MasterOf D) → IsNamedBody message.body × IsNumber moment.0 → IsHeardAt (Standing m) message.body → Made m (handle m.config m.state message moment)
        → MasterAnswers seen failures (caller_of message.body) (handle m.config m.state message moment) m result after → Onward Made (Standing m) d (Standing after)
    heard_on message moment (Ok told) after named heard made answers =
        answered_on (caller_of message.body) (handle m.config m.state message moment) told after made (messages_written m.config m.state message moment named heard h.steady).steady
        (logs_stay_within m.config m.state (HearsAt message moment) h.steady.room).1 (messages_have_room m.config m.state message moment) (record {
          made = λ many. let c = disks_hold_at_places m.config h.firm.told.entries m.state (HearsAt message moment) many named h.firm.firm held_by in (c.durable, c.made);
          steady = λ many e log fit room small. events_written_at_places m.config m.state (HearsAt message moment) many e log named heard h.steady fit room small;
        }) answers
    heard_on message moment (Err e) after named heard made (why, still) = moved_on Made (Standing m) (Standing after) (Standing m) d (ap (λ (x : MasterOf D). Standing x) still) (rests_on Made (Standing m) d (lasts_standing m h) told_d)

  -- ---- a master of which a disk has failed

  module _ (Made : MasterOf D → Turn → Type 0) (m : MasterOf D) (failed : is_failed m.state.fault ≡ true) (h : LastsThrough seen (Standing m)) (d : Durable) (told_d : TellsAt seen (Standing m) d) where
    -- nothing is recorded
    idle_on : (caller : Option ReqId) (t : Turn) (result : Result Told Refusal) (after : MasterOf D) → t.records ≡ [] → MasterAnswers seen failures caller t m result after → Onward Made (Standing m) d (Standing after)
    idle_on caller t (Ok told) after none (inl is) = idles_on Made m after d failed h told_d is.fault (is.still none)
    idle_on caller t (Ok told) after none (inr (place, is)) = absurd (above place (length t.records) is.cut.within (ap (λ (xs : List PlainEntry). length xs) none))
    idle_on caller t (Err e) after none (why, still) = moved_on Made (Standing m) (Standing after) (Standing m) d (ap (λ (x : MasterOf D). Standing x) still) (rests_on Made (Standing m) d h told_d)

    heard_idle : (message : Message) (moment : Moment) (result : Result Told Refusal) (after : MasterOf D) → MasterAnswers seen failures (caller_of message.body) (handle m.config m.state message moment) m result after → Onward Made (Standing m) d (Standing after)
    heard_idle message moment result after answers = idle_on (caller_of message.body) (handle m.config m.state message moment) result after (nothing_recorded m.config m.state message moment failed) answers

    writes_none : (moment : Moment) → writes_one m.state (pressed_all m.state moment) ≡ false
    writes_none moment = ap (λ b. not b && (due (pressed_all m.state moment).after && is_written (pressed_all m.state moment).after)) failed

    tick_none : (moment : Moment) → (tick m.state moment).records ≡ []
    tick_none moment = ap (λ (t : Turn). t.records) (failed_tick m.state moment failed)

    ticked_idle : (moment : Moment) (result : Result Told Refusal) (after : MasterOf D) → AnswersTick seen failures moment m result after → Onward Made (Standing m) d (Standing after)
    ticked_idle moment (Ok told) after (inl whole) =
        idle_on None (tick m.state moment) (Ok told) after (tick_none moment) (subst (λ b. AnswersAs seen failures b (tick m.state moment) (pressed_all m.state moment) m told after) (writes_none moment) whole)
    ticked_idle moment (Ok told) after (inr (sound, is_due, none, answers)) = absurd (false≢true (sym sound ∙ failed))
    ticked_idle moment (Err e) after (why, still) = moved_on Made (Standing m) (Standing after) (Standing m) d (ap (λ (x : MasterOf D). Standing x) still) (rests_on Made (Standing m) d h told_d)

  -- ---- where the master is

  hears_on : (Made : MasterOf D → Turn → Type 0) (message : Message) (moment : Moment) (old : MasterPlace D) (d : Durable) (result : Result Told Refusal) (new : MasterPlace D) → IsNamedBody message.body × IsNumber moment.0 → IsHeardAt old message.body
      → ((m : MasterOf D) → Made m (handle m.config m.state message moment)) → LastsThrough seen old → TellsAt seen old d → MasterHears seen failures message moment old result new → Onward Made old d new
  hears_on Made message moment (Standing m) d result new named heard made h told (after, is, answers) = moved_on Made (Standing m) new (Standing after) d is (by_fault (is_failed m.state.fault) refl)
    where
      by_fault : (b : Bool) → is_failed m.state.fault ≡ b → Onward Made (Standing m) d (Standing after)
      by_fault true failed = heard_idle Made m failed h d told message moment result after answers
      by_fault false sound = heard_on Made m (stands_left m sound h) d told message moment result after named heard (made m) answers
  hears_on Made message moment (Closed first second) d (Ok turn) new named heard made h told meets = moved_on Made (Closed first second) new (Closed first second) d meets.0 (rests_on Made (Closed first second) d h told)
  hears_on Made message moment (Closed first second) d (Err e) new named heard made h told meets = moved_on Made (Closed first second) new (Closed first second) d meets.0 (rests_on Made (Closed first second) d h told)
  hears_on Made message moment Away d result new named heard made h told meets = absurd h

  ticks_on : (Made : MasterOf D → Turn → Type 0) (moment : Moment) (old : MasterPlace D) (d : Durable) (result : Result Told Refusal) (new : MasterPlace D) → ((m : MasterOf D) → Made m (tick m.state moment)) → ((m : MasterOf D) → Made m (lacking (pressed_all m.state moment)))
      → LastsThrough seen old → TellsAt seen old d → MasterTicks seen failures moment old result new → Onward Made old d new
  ticks_on Made moment (Standing m) d result new made short h told (after, is, answers) = moved_on Made (Standing m) new (Standing after) d is (by_fault (is_failed m.state.fault) refl)
    where
      by_fault : (b : Bool) → is_failed m.state.fault ≡ b → Onward Made (Standing m) d (Standing after)
      by_fault true failed = ticked_idle Made m failed h d told moment result after answers
      by_fault false sound = ticked_on Made m (stands_left m sound h) d told moment result after (made m) (short m) answers
  ticks_on Made moment (Closed first second) d (Ok turn) new made short h told meets = moved_on Made (Closed first second) new (Closed first second) d meets.0 (rests_on Made (Closed first second) d h told)
  ticks_on Made moment (Closed first second) d (Err e) new made short h told meets = moved_on Made (Closed first second) new (Closed first second) d meets.0 (rests_on Made (Closed first second) d h told)
  ticks_on Made moment Away d result new made short h told meets = absurd h

  -- ---- a restart

  -- what is opened is what the disks tell
  opens_on : (config : Config) (first second : D) (d : Durable) (turn : Told) (new : MasterPlace D) → TellsSteady (standing (seen first) (seen second)) → IsToldIn (standing (seen first) (seen second)) d → Opens seen failures config (first, second) (Ok turn) new → OpensAs seen d new
  opens_on config first second d turn new h told opens =
      let known = tells_one (standing (seen first) (seen second)) h in
      subst (λ x. OpensAs seen x new) (told_once (standing (seen first) (seen second)) known.durable d known.told told) (opens_told seen failures config first second known.durable turn new known.kept known.counters known.told opens)

  -- where it isn't opened they wait, and tell what they told
  waits_on : (config : Config) (first second : D) (d : Durable) (e : Refusal) (new : MasterPlace D) → IsToldIn (standing (seen first) (seen second)) d → Opens seen failures config (first, second) (Err e) new
      → (one : D) × (two : D) × (new ≡ Closed one two) × (standing (seen one) (seen two) ≡ standing (seen first) (seen second))
  waits_on config first second d e new told (u, is, refusal, inl (device, more)) = (u.first, u.second, is, still_told (standing (seen first) (seen second)) (standing (seen u.first) (seen u.second)) d told device.1)
  waits_on config first second d e new told (u, is, refusal, inr (text, quiet, why)) = (u.first, u.second, is, text)

  opens_lasting : (Made : MasterOf D → Turn → Type 0) (config : Config) (old : MasterPlace D) (first second : D) (d : Durable) (result : Result Told Refusal) (new : MasterPlace D) → TellsSteady (standing (seen first) (seen second)) → IsToldIn (standing (seen first) (seen second)) d
      → Opens seen failures config (first, second) result new → Onward Made old d new
  opens_lasting Made config old first second d (Ok turn) new h told (after, is, opening, said) =
      let steady = opened seen failures config first second turn after h opening said in
      let found = opens_on config first second d turn (Standing after) h told (after, refl, opening, said) in
      moved_on Made old new (Standing after) d is (record { lasts = lasts_standing after steady; durable = after.state.durable; tells = tells_standing after steady; on = inl (durable_of after found); all = λ sound. tt })
    where
      durable_in : MasterPlace D → Durable
      durable_in (Standing x) = x.state.durable
      durable_in place = start

      durable_of : (after : MasterOf D) → OpensAs seen d (Standing after) → after.state.durable ≡ d
      durable_of after (x, same, rested, firm) = ap durable_in same ∙ ap (λ (s : State). s.durable) rested
  opens_lasting Made config old first second d (Err e) new h told opens =
      let w = waits_on config first second d e new told opens in
      moved_on Made old new (Closed w.0 w.1) d w.2 (record { lasts = subst TellsSteady (sym w.3) h; durable = d; tells = subst (λ (t : Text). IsToldIn t d) (sym w.3) told; on = inl refl; all = λ sound. tt })

  reopens_on : (Made : MasterOf D → Turn → Type 0) (config : Config) (old : MasterPlace D) (d : Durable) (result : Result Told Refusal) (new : MasterPlace D) → LastsThrough seen old → TellsAt seen old d → Reopens seen failures config old result new → Onward Made old d new
  reopens_on Made config (Standing m) d result new h told opening = opens_lasting Made config (Standing m) m.journal.first m.journal.second d result new (disks_tell m h) told opening
  reopens_on Made config (Closed first second) d result new h told opening = opens_lasting Made config (Closed first second) first second d result new h told opening
  reopens_on Made config Away d result new h told opening = absurd h

  -- so it is of each restart of one that lasts
  pub reopens_as : (config : Config) (place : MasterPlace D) (d : Durable) (turn : Told) (new : MasterPlace D) → LastsThrough seen place → TellsAt seen place d → Reopens seen failures config place (Ok turn) new → OpensAs seen d new
  reopens_as config (Standing m) d turn new h told opening = opens_on config m.journal.first m.journal.second d turn new (disks_tell m h) told opening
  reopens_as config (Closed first second) d turn new h told opening = opens_on config first second d turn new h told opening
  reopens_as config Away d turn new h told opening = absurd h

  pub waits_as : (config : Config) (place : MasterPlace D) (d : Durable) (e : Refusal) (new : MasterPlace D) → LastsThrough seen place → TellsAt seen place d → Reopens seen failures config place (Err e) new → WaitsAs seen d new
  waits_as config (Standing m) d e new h told opening =
      let w = waits_on config m.journal.first m.journal.second d e new told opening in (w.0, w.1, w.2, subst (λ (t : Text). IsToldIn t d) (sym w.3) told)
  waits_as config (Closed first second) d e new h told opening = let w = waits_on config first second d e new told opening in (w.0, w.1, w.2, subst (λ (t : Text). IsToldIn t d) (sym w.3) told)
  waits_as config Away d e new h told opening = absurd h

  -- ---- what is told

  pub tells_some : (place : MasterPlace D) → LastsThrough seen place → (d : Durable) × TellsAt seen place d
  tells_some (Standing m) h = let t = disks_tell m h in (t.durable, t.told)
  tells_some (Closed first second) h = (h.durable, h.told)
  tells_some Away h = absurd h

  pub tells_once : (place : MasterPlace D) (d e : Durable) → TellsAt seen place d → TellsAt seen place e → d ≡ e
  tells_once (Standing m) d e t u = told_once (text_seen seen m.journal) d e t u
  tells_once (Closed first second) d e t u = told_once (standing (seen first) (seen second)) d e t u
  tells_once Away d e t u = absurd t

  pub sound_tells : (m : MasterOf D) → is_failed m.state.fault ≡ false → LastsThrough seen (Standing m) → TellsAt seen (Standing m) m.state.durable
  sound_tells m sound h = tells_standing m (stands_left m sound h)

  -- a new store begins so
  pub begins_through : (armed : DiskId → ℕ → MasterPlace D → MasterPlace D) (config : Config) (clients : ℕ) (pair : D × D) (new : History D) → standing (seen pair.0) (seen pair.1) ≡ fresh_text → Begins seen failures armed config clients pair new → LastsThrough seen new.nodes.master
  begins_through armed config clients pair new none begun = by_place new.nodes.master (begins_steady seen failures armed config clients pair new none begun)
    where
      by_place : (place : MasterPlace D) → LastsSteady seen place → LastsThrough seen place
      by_place (Standing m) h = lasts_standing m h
      by_place (Closed first second) h = h
      by_place Away h = h

  -- ---- an event

  abbrev Goes_on : (MasterOf D → Turn → Type 0) → Durable → Nodes D → Nodes D → Type 0
  Goes_on Made d old new = LastsThrough seen old.master → TellsAt seen old.master d → Onward Made old.master d new.master

  -- where the master stays where it is
  stays : (Made : MasterOf D → Turn → Type 0) (d : Durable) (old new : Nodes D) → new.master ≡ old.master → Goes_on Made d old new
  stays Made d old new is h told = moved_on Made old.master new.master old.master d is (rests_on Made old.master d h told)

  moved : (Made : MasterOf D → Turn → Type 0) (d : Durable) (place : MasterPlace D) (old new : Nodes D) → new ≡ with_master place old → (LastsThrough seen old.master → TellsAt seen old.master d → Onward Made old.master d place) → Goes_on Made d old new
  moved Made d place old new is on h told = moved_on Made old.master new.master place d (ap (λ (n : Nodes D). n.master) is) (on h told)

  -- what the master is to hear
  abbrev Takes_in : Nodes D → Message → Moment → Type 0
  Takes_in old message moment = (IsNamedBody message.body × IsNumber moment.0) × IsHeardAt old.master message.body

  heard : (Made : MasterOf D → Turn → Type 0) (d : Durable) (message : Message) (moment : Moment) (to : NodeId) (old : Nodes D) (turn : Result Told Refusal) (new : Nodes D) → (to ≡ nodes.Master → Takes_in old message moment)
      → (to ≡ nodes.Master → (m : MasterOf D) → Made m (handle m.config m.state message moment)) → Hears seen failures message moment to old turn new → Goes_on Made d old new
  heard Made d message moment nodes.Master old turn new within made (place, is, hear) =
      moved Made d place old new is (λ h told. hears_on Made message moment old.master d turn place (within refl).0 (within refl).1 (made refl) h told hear)
  heard Made d message moment (nodes.Server id) old turn new within made at = stays Made d old new (at_server id (λ s. ServerDoes (servers.handle s message moment) s) old turn new at)
  heard Made d message moment (nodes.Client id) old turn new within made (said, at, says) = stays Made d old new (at_client id None (ClientHears message.body) old said new at)

  delivered : (Made : MasterOf D → Turn → Type 0) (d : Durable) (message : Message) (moment : Moment) (old : Nodes D) (turn : Result Told Refusal) (new : Nodes D) → (message.to ≡ nodes.Master → Takes_in old message moment)
      → (message.to ≡ nodes.Master → (m : MasterOf D) → Made m (handle m.config m.state message moment)) → Delivers seen failures message moment old turn new → Goes_on Made d old new
  unfolding Delivers
  delivered Made d message moment old turn new within made hear = heard Made d message moment message.to old turn new within made hear

  module _ (armed : DiskId → ℕ → MasterPlace D → MasterPlace D) (arming : (disk : DiskId) (call : ℕ) (place : MasterPlace D) → LastsThrough seen place → LastsThrough seen (armed disk call place))
      (telling : (d : Durable) (disk : DiskId) (call : ℕ) (place : MasterPlace D) → TellsAt seen place d → TellsAt seen (armed disk call place) d) where
    came : (found : Option Message) (sender : NodeId) (moment : Moment) (Made : MasterOf D → Turn → Type 0) (d : Durable) (old : Nodes D) (by : NodeId) (outcome : Upshot) (new : Nodes D)
        → ((message : Message) → found ≡ Some message → message.to ≡ nodes.Master → Takes_in old message moment)
        → ((message : Message) → found ≡ Some message → message.to ≡ nodes.Master → (m : MasterOf D) → Made m (handle m.config m.state message moment))
        → MatchOption found ((outcome ≡ Err refusals.Range) × (new ≡ old) × (by ≡ sender)) (λ message. ComesTo seen failures armed sender message moment old by outcome new) → Goes_on Made d old new
    came None sender moment Made d old by outcome new within made (refused, is, from) = stays Made d old new (ap (λ (n : Nodes D). n.master) is)
    came (Some message) sender moment Made d old by outcome new within made comes = elim comes [
      | inl (is, turn, delivers, told) ↦ delivered Made d message moment old turn new (within message refl) (made message refl) delivers
      | inr (refused, is, from) ↦ stays Made d old new (ap (λ (n : Nodes D). n.master) is)
    ]

    tick_on : (moment : Moment) (node : StoreNode) (at : History D) (d : Durable) (outcome : Upshot) (new : Nodes D) → Ticks seen failures armed moment node at.nodes outcome new → Goes_on (Turns moment (happenings.Tick node) at) d at.nodes new
    tick_on moment keepers.Master at d outcome new (place, turn, does, is, told) =
        moved (Turns moment (happenings.Tick keepers.Master) at) d place at.nodes new is (λ h told. ticks_on (Turns moment (happenings.Tick keepers.Master) at) moment at.nodes.master d turn place (λ m. inl refl) (λ m. inr refl) h told does)
    tick_on moment (keepers.Server id) at d outcome new (turn, there, told) = stays (Turns moment (happenings.Tick (keepers.Server id)) at) d at.nodes new (at_server id (λ s. ServerDoes (servers.tick s moment) s) at.nodes turn new there)

    restart_on : (Made : MasterOf D → Turn → Type 0) (d : Durable) (node : StoreNode) (old : Nodes D) (outcome : Upshot) (new : Nodes D) → Restarts seen failures armed node old outcome new → Goes_on Made d old new
    restart_on Made d keepers.Master old outcome new (place, turn, does, is, told) = moved Made d place old new is (λ h told. reopens_on Made old.config old.master d turn place h told does)
    restart_on Made d (keepers.Server id) old outcome new (done, at, told) = stays Made d old new (at_server id (λ s done after. (done ≡ Ok tt) × (after ≡ servers.restart s)) old done new at)

    at_node : (moment : Moment) (happening : Happening) (old : History D) (d : Durable) (by : NodeId) (outcome : Upshot) (new : Nodes D)
        → AtNode seen failures armed moment happening old by outcome new → HearsNamed moment happening old → HearsWithin happening old → Goes_on (Turns moment happening old) d old.nodes new
    at_node moment (happenings.Ask req request) old d by outcome new (is, (out, at, told)) named within =
        stays (Turns moment (happenings.Ask req request) old) d old.nodes new (at_client req.client (Err refusals.Range) (ClientAsks req.number request) old.nodes out new at)
    at_node moment (happenings.Deliver id) old d by outcome new comes named within =
        came (message_of old.sent id) id.sender moment (Turns moment (happenings.Deliver id) old) d old.nodes by outcome new (λ message found to. (named message found to, within message found to)) (λ message found to m. (message, found, to, refl)) comes
    at_node moment (happenings.Tick node) old d by outcome new (is, does) named within = tick_on moment node old d outcome new does
    at_node moment (happenings.Beat id) old d by outcome new (is, (still, told)) named within = stays (Turns moment (happenings.Beat id) old) d old.nodes new (ap (λ (n : Nodes D). n.master) still)
    at_node moment (happenings.Restart node) old d by outcome new (is, does) named within = restart_on (Turns moment (happenings.Restart node) old) d node old.nodes outcome new does
    at_node moment (happenings.Lose id handle) old d by outcome new (is, (done, at, told)) named within =
        stays (Turns moment (happenings.Lose id handle) old) d old.nodes new (at_server id (λ s done after. Does (servers.lose handle s) done s after) old.nodes done new at)
    at_node moment (happenings.Damage id handle block) old d by outcome new (is, (done, at, told)) named within =
        stays (Turns moment (happenings.Damage id handle block) old) d old.nodes new (at_server id (λ s done after. Does (servers.damage handle block s) done s after) old.nodes done new at)
    at_node moment (happenings.FailDisk disk call) old d by outcome new (is, (with, told)) named within =
        moved (Turns moment (happenings.FailDisk disk call) old) d (armed disk call old.nodes.master) old.nodes new with
        (λ h tells. record { lasts = arming disk call old.nodes.master h; durable = d; tells = telling d disk call old.nodes.master tells; on = inl refl; all = λ sound. tt })

    -- a step
    pub step_on : (step : Step) (old new : History D) (d : Durable) → Goes seen failures armed step old new → StepWithin step old → Goes_on (TurnsAt step old) d old.nodes new.nodes
    step_on (Comes event) old new d (said, h) within = at_node event.moment event.happening old d h.by h.outcome new.nodes h.at within.0 within.1
    step_on (Takes client) old new d (found, takes, is) within =
        stays (TurnsAt (Takes client) old) d old.nodes new.nodes (at_client client None (λ n reply after. (reply ≡ n.reply) × (after ≡ given_up n)) old.nodes found new.nodes takes)

    pub run_through : (steps : List Step) (old new : History D) → RunsTo seen failures armed steps old new → AllByRecursion IsStepWithin steps → KeepsTypes old → LastsThrough seen old.nodes.master → LastsThrough seen new.nodes.master
    run_through [] old new same within keeps h = subst (λ (x : History D). LastsThrough seen x.nodes.master) (sym same) h
    run_through (step ∷ steps) old new (mid, goes, rest) within keeps h =
        let t = tells_some old.nodes.master h in
        run_through steps mid new rest within.1 (step_keeps seen failures armed step old mid goes within.0 keeps)
        (step_on step old mid t.0 goes (step_within seen failures armed step old within.0 keeps) h t.1).lasts

-- ---- disks of which calls fail

module _ {D : Type 0} (seen : D → List ℕ) where
  -- a fault that is to come changes nothing that is seen
  pub arms_tell : (d : Durable) (disk : DiskId) (call : ℕ) (place : MasterPlace (Failing D)) → TellsAt (seen_of seen) place d → TellsAt (seen_of seen) (arms disk call place) d
  arms_tell d disks.First call (Standing m) h = h
  arms_tell d disks.First call (Closed first second) h = h
  arms_tell d disks.First call Away h = h
  arms_tell d disks.Second call (Standing m) h = h
  arms_tell d disks.Second call (Closed first second) h = h
  arms_tell d disks.Second call Away h = h

  steady_armed : (m : MasterOf (Failing D)) (fault : Failure) → StandsSteady (seen_of seen) m → StandsSteady (seen_of seen) (with_journal m (record m.journal { first = armed m.journal.first fault }))
  steady_armed m fault h = record {
    firm = record {
      sound = h.firm.sound;
      firm = h.firm.firm;
      as_seen = record { text = h.firm.as_seen.text; size = h.firm.as_seen.size; generation = h.firm.as_seen.generation; whole = h.firm.as_seen.whole };
      known = record { is_open = h.firm.known.is_open; size = h.firm.known.size; limit = h.firm.known.limit; generation = h.firm.known.generation };
      told = h.firm.told;
    };
    steady = h.steady;
    bound = h.bound;
  }

  steady_armed_second : (m : MasterOf (Failing D)) (fault : Failure) → StandsSteady (seen_of seen) m → StandsSteady (seen_of seen) (with_journal m (record m.journal { second = armed m.journal.second fault }))
  steady_armed_second m fault h = record {
    firm = record {
      sound = h.firm.sound;
      firm = h.firm.firm;
      as_seen = record { text = h.firm.as_seen.text; size = h.firm.as_seen.size; generation = h.firm.as_seen.generation; whole = h.firm.as_seen.whole };
      known = record { is_open = h.firm.known.is_open; size = h.firm.known.size; limit = h.firm.known.limit; generation = h.firm.known.generation };
      told = h.firm.told;
    };
    steady = h.steady;
    bound = h.bound;
  }

  pub arms_last : (disk : DiskId) (call : ℕ) (place : MasterPlace (Failing D)) → LastsThrough (seen_of seen) place → LastsThrough (seen_of seen) (arms disk call place)
  arms_last disks.First call (Standing m) h = by_fault (is_failed m.state.fault) h
    where
      by_fault : (b : Bool) → By (seen_of seen) (λ disk. 0) m b → By (seen_of seen) (λ disk. 0) (with_journal m (record m.journal { first = armed m.journal.first (fault_at call) })) b
      by_fault true told = told
      by_fault false steady = steady_armed m (fault_at call) steady
  arms_last disks.First call (Closed first second) h = h
  arms_last disks.First call Away h = h
  arms_last disks.Second call (Standing m) h = by_fault (is_failed m.state.fault) h
    where
      by_fault : (b : Bool) → By (seen_of seen) (λ disk. 0) m b → By (seen_of seen) (λ disk. 0) (with_journal m (record m.journal { second = armed m.journal.second (fault_at call) })) b
      by_fault true told = told
      by_fault false steady = steady_armed_second m (fault_at call) steady
  arms_last disks.Second call (Closed first second) h = h
  arms_last disks.Second call Away h = h
