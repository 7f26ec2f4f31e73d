-- No chunk of a file has a primary while a client only looks.
use Rattle.std.proofs.Common.{◌≡◌, ◌∙◌, inl, inr, ◌≤◌, ℕ, Bool, true, false, List, [], ◌∷◌, Option, Some, None, MatchOption, Ok, refl, sym, ap, subst, arith}
use Rattle.std.specs.Prelude.{take}
use Rattle.std.specs.List.{AllByRecursion}
use Rattle.std.proofs.lemmas.Bool.{false≢true}
use Rattle.gs_base.specs.declared.numbers.ClientId.{ClientId}
use Rattle.gs_base.specs.declared.numbers.Moment.{Moment}
use Rattle.gs_base.specs.declared.numbers.ReqId.{ReqId}
use Rattle.gs_client.specs.Nodes.{Node, given_up, hears}
use Rattle.gs_master.specs.Masters.{MasterAnswers, MasterOf}
use Rattle.gs_master.specs.Ticking.{AnswersAs, AnswersTick, lacking, pressed_all, writes_one}
use Rattle.gs_master.specs.declared.turn.Turn.{Turn as Told_turn}
use Rattle.gs_msg.specs.declared.body.Body.{Body}
use Rattle.gs_msg.specs.declared.body.Body.TheVariants as bodies
use Rattle.gs_msg.specs.declared.event.DiskId.{DiskId}
use Rattle.gs_msg.specs.declared.event.Happening.{Happening}
use Rattle.gs_msg.specs.declared.event.Happening.TheVariants as happenings
use Rattle.gs_msg.specs.declared.message.Message.{Message}
use Rattle.gs_msg.specs.declared.node.StoreNode.TheVariants as keepers
use Rattle.gs_master_spec.specs.Applied.{replayed}
use Rattle.gs_master_spec.specs.Durable.{Durable}
use Rattle.gs_master_spec.specs.Handling.{handle, tick}
use Rattle.gs_master_spec.specs.Outcomes.{caller_of}
use Rattle.gs_master_spec.specs.State.{State, Turn}
use Rattle.gs_laws_moves.specs.answers.Resting.{HasHad}
use Rattle.gs_laws_moves.specs.looks.Unled.{AreUnled, CallsNothing, IsUnled, LeavesUnled}
use Rattle.gs_laws_moves.proofs.lemmas.looks.Leaving.{messages_leave, steps_leave, ticks_leave}
use Rattle.gs_nodes.specs.Happenings.{MasterHears, MasterTicks, client_in}
use Rattle.gs_nodes.specs.Nodes.{Nodes, with_master}
use Rattle.gs_nodes.specs.declared.place.MasterPlace.{MasterPlace}
use Rattle.gs_nodes.specs.declared.place.MasterPlace.TheVariants.{Standing, Closed, Away}
use Rattle.gs_world.specs.Histories.{History, Upshot}
use Rattle.gs_world.specs.Runs.{Comes, Goes, RunsTo, Step, Takes}
use Rattle.gs_laws_chunks.specs.answers.Answered.{spares_master}
use Rattle.gs_laws_chunks.specs.answers.Resting.{IsLooking, IsOldOrLooks, IsStill, StandsStill, StandsStillAt}
use Rattle.gs_laws_chunks.proofs.lemmas.answers.Behind.{all_spare}
use Rattle.gs_laws_chunks.proofs.lemmas.answers.Parts.{Armed, Asked, Heard, Opened, Part, Rested, Served, Ticked, Told, part_of, with_client}
use Rattle.gs_laws_chunks.proofs.lemmas.answers.Resting.{had_below, stays_still}
use Rattle.gs_laws_chunks.proofs.lemmas.answers.Sparing.{asked_spared, goes_spared, lasts_spared}
use Rattle.gs_laws_world.proofs.lemmas.steady.Keeping.{run_keeps, step_keeps, step_within}
use Rattle.gs_laws_world.proofs.lemmas.steady.Through.{sound_tells, step_on, tells_once, tells_some}
use Rattle.gs_laws_world.specs.steady.Unarmed.{unarmed}
use Rattle.gs_laws_world.specs.steady.Saying.{IsStepWithin, KeepsTypes}
use Rattle.gs_laws_world.specs.steady.Through.{LastsThrough, TellsAt, TellsOn, Turns, TurnsAt}
use Rattle.gs_laws_looks.proofs.lemmas.halts.Named.{names_on}
use Rattle.gs_laws_looks.specs.halts.Unled.{HasNames, IsHalted, IsUnledAt, StaysHalted, StaysQuiet, StaysUnled}

-- ---- what is heard calls nothing

calls_nothing : (d : Durable) (client : ClientId) (number : ℕ) (s : State) (body : Body) → StandsStill d client number s → IsOldOrLooks client number body → CallsNothing s body
calls_nothing d client number s (bodies.Call req call) so (same, inl low) = inr (subst (λ c. HasHad s c req.number) (sym same) (had_below s client number req.number low so.had))
calls_nothing d client number s (bodies.Call req call) so (same, inr looks) = inl looks
calls_nothing d client number s body so says = tt

-- what it does before a checkpoint, where memory is wanting for that
lacking_leave : (s : State) (moment : Moment) → IsUnled s → LeavesUnled s (lacking (pressed_all s moment))
lacking_leave s moment u = (let leaves = steps_leave s moment u in record { after = leaves.after; cuts = leaves.cuts; told = leaves.told })

module _ {D : Type 0} (seen : D → List ℕ) (failures : D → ℕ) where
  -- ---- the master in its place

  answers_unled : (caller : Option ReqId) (t : Turn) (m after : MasterOf D) (turn : Told_turn) → LeavesUnled m.state t → MasterAnswers seen failures caller t m (Ok turn) after → IsUnled after.state
  answers_unled caller t m after turn leaves (inl is) = subst IsUnled (sym is.done.after) leaves.after
  answers_unled caller t m after turn leaves (inr (place, is)) = subst IsUnled (sym is.cut.after) (leaves.cuts place is.cut.within)

  as_unled : (b : Bool) (t steps : Turn) (m after : MasterOf D) (turn : Told_turn) → LeavesUnled m.state t → AnswersAs seen failures b t steps m turn after → IsUnled after.state
  as_unled true t steps m after turn leaves (inl is) = subst IsUnled (sym is.done.after) leaves.after
  as_unled true t steps m after turn leaves (inr (place, is)) = subst IsUnled (sym is.cut.after) (leaves.cuts place is.cut.within)
  as_unled false t steps m after turn leaves (inl is) = subst IsUnled (sym is.done.after) leaves.after
  as_unled false t steps m after turn leaves (inr (place, is)) = subst IsUnled (sym is.cut.after) (leaves.cuts place is.cut.within)

  tick_unled : (moment : Moment) (m after : MasterOf D) (turn : Told_turn) → IsUnled m.state → AnswersTick seen failures moment m (Ok turn) after → IsUnled after.state
  tick_unled moment m after turn u (inl whole) = as_unled (writes_one m.state (pressed_all m.state moment)) (tick m.state moment) (pressed_all m.state moment) m after turn (ticks_leave m.state moment u) whole
  tick_unled moment m after turn u (inr (sound, is_due, none, done)) = answers_unled None (lacking (pressed_all m.state moment)) m after turn (lacking_leave m.state moment u) done

  ticks_unled : (moment : Moment) (old new : MasterPlace D) (turn : Told_turn) → IsUnledAt old → MasterTicks seen failures moment old (Ok turn) new → IsUnledAt new
  ticks_unled moment (Standing m) new turn u (after, is, answers) = subst IsUnledAt (sym is) (tick_unled moment m after turn u answers)
  ticks_unled moment (Closed first second) new turn u meets = subst IsUnledAt (sym meets.0) tt
  ticks_unled moment Away new turn u meets = subst IsUnledAt (sym meets.0) tt

  module _ (d : Durable) (client : ClientId) (number : ℕ) where
    hears_unled : (message : Message) (moment : Moment) (old new : MasterPlace D) (turn : Told_turn) → IsOldOrLooks client number message.body → StandsStillAt d client number old → IsUnledAt old → MasterHears seen failures message moment old (Ok turn) new → IsUnledAt new
    hears_unled message moment (Standing m) new turn says so u (after, is, answers) =
        subst IsUnledAt (sym is) (answers_unled (caller_of message.body) (handle m.config m.state message moment) m after turn (messages_leave m.config m.state message moment (calls_nothing d client number m.state message.body so says) u) answers)
    hears_unled message moment (Closed first second) new turn says so u meets = subst IsUnledAt (sym meets.0) tt
    hears_unled message moment Away new turn says so u meets = subst IsUnledAt (sym meets.0) tt

    module _ (armed : DiskId → ℕ → MasterPlace D → MasterPlace D) where
      -- ---- an event

      module _ (old : History D) (f : IsStill d client number old) (u : IsUnledAt old.nodes.master) (moment : Moment) (happening : Happening) (outcome : Upshot) where
        moved : (place : MasterPlace D) (new : Nodes D) → new ≡ with_master place old.nodes → IsUnledAt place → IsUnledAt new.master
        moved place new same left = subst IsUnledAt (sym (ap (λ (n : Nodes D). n.master) same)) left

        stays : (new : Nodes D) → new.master ≡ old.nodes.master → IsUnledAt new.master
        stays new same = subst IsUnledAt (sym same) u

        part_unled : (new : Nodes D) → IsLooking client (Comes (record { moment = moment; happening = happening })) → Part seen failures armed old moment happening outcome new → IsUnledAt new.master
        part_unled new looking (Heard id message turn place it was to hears is same) = moved place new same (hears_unled message moment old.nodes.master place turn (f.sent id message was) f.master u hears)
        part_unled new looking (Ticked turn place it ticks is same) = moved place new same (ticks_unled moment old.nodes.master place turn u ticks)
        part_unled new looking (Opened turn place it opens is same) = absurd (false≢true (sym (ap (λ h. spares_master (Comes (record { moment = moment; happening = h }))) it) ∙ looking.0))
        part_unled new looking (Armed disk call it none same) = absurd (false≢true (sym (ap (λ h. spares_master (Comes (record { moment = moment; happening = h }))) it) ∙ looking.0))
        part_unled new looking (Served by clients master) = stays new master
        part_unled new looking (Asked req request n it found low sends same) = stays new (ap (λ (n : Nodes D). n.master) same)
        part_unled new looking (Told id message other n it was found none same) = stays new (ap (λ (n : Nodes D). n.master) same)
        part_unled new looking (Rested none same) = stays new (ap (λ (n : Nodes D). n.master) same)

      step_unled : (step : Step) (old new : History D) → Goes seen failures armed step old new → IsLooking client step → IsStill d client number old → IsUnledAt old.nodes.master → IsUnledAt new.nodes.master
      step_unled (Comes event) old new (said, h) looking f u = part_unled old f u event.moment event.happening h.outcome new.nodes looking (part_of seen failures armed old event.moment event.happening h.by h.outcome new.nodes h.at)
      step_unled (Takes other) old new (found, taken, same) looking f u = by_client (client_in old.nodes.clients other) taken
        where
          by_client : (o : Option Node) → MatchOption o ((new.nodes ≡ old.nodes) × (found ≡ None)) (λ n. (after : Node) × (new.nodes ≡ with_client other after old.nodes) × ((found ≡ n.reply) × (after ≡ given_up n))) → IsUnledAt new.nodes.master
          by_client None (none, is) = subst IsUnledAt (sym (ap (λ (x : Nodes D). x.master) none)) u
          by_client (Some n) (after, there, did) = subst IsUnledAt (sym (ap (λ (x : Nodes D). x.master) there)) u

      -- ---- what is told

      turn_leaves : (moment : Moment) (happening : Happening) (old : History D) (f : IsStill d client number old) (m : MasterOf D) (t : Turn) → StandsStill d client number m.state → IsUnled m.state → Turns moment happening old m t → LeavesUnled m.state t
      turn_leaves moment (happenings.Deliver id) old f m t so u (message, was, to, is) =
          subst (LeavesUnled m.state) (sym is) (messages_leave m.config m.state message moment (calls_nothing d client number m.state message.body so (f.sent id message was)) u)
      turn_leaves moment (happenings.Tick keepers.Master) old f m t so u (inl is) = subst (LeavesUnled m.state) (sym is) (ticks_leave m.state moment u)
      turn_leaves moment (happenings.Tick keepers.Master) old f m t so u (inr is) = subst (LeavesUnled m.state) (sym is) (lacking_leave m.state moment u)
      turn_leaves moment (happenings.Tick (keepers.Server id)) old f m t so u turns = absurd turns
      turn_leaves moment (happenings.Ask req request) old f m t so u turns = absurd turns
      turn_leaves moment (happenings.Beat id) old f m t so u turns = absurd turns
      turn_leaves moment (happenings.Restart node) old f m t so u turns = absurd turns
      turn_leaves moment (happenings.Lose id handle) old f m t so u turns = absurd turns
      turn_leaves moment (happenings.Damage id handle block) old f m t so u turns = absurd turns
      turn_leaves moment (happenings.FailDisk disk call) old f m t so u turns = absurd turns

      at_leaves : (step : Step) (old : History D) (f : IsStill d client number old) (m : MasterOf D) (t : Turn) → StandsStill d client number m.state → IsUnled m.state → TurnsAt step old m t → LeavesUnled m.state t
      at_leaves (Comes event) old f m t so u turns = turn_leaves event.moment event.happening old f m t so u turns
      at_leaves (Takes other) old f m t so u turns = absurd turns

      told_on : (step : Step) (old : History D) (e f : Durable) → IsStill d client number old → LastsThrough seen old.nodes.master → StaysQuiet seen old → TellsAt seen old.nodes.master e → TellsOn (TurnsAt step old) old.nodes.master e f → AreUnled f
      told_on step old e f still lasts quiet tells (inl same) = subst AreUnled (sym same) (quiet.told e tells)
      told_on step old e f still lasts quiet tells (inr part) =
          let m = part.master in
          let tells_state = sound_tells seen failures m part.sound (subst (LastsThrough seen) part.place lasts) in
          let same = tells_once seen failures (Standing m) e m.state.durable (subst (λ p. TellsAt seen p e) part.place tells) tells_state in
          let left = at_leaves step old still m part.turn (subst (StandsStillAt d client number) part.place still.master) (subst IsUnledAt part.place quiet.master) part.made in
          left.told part.many f (subst (λ (x : Durable). replayed x (take part.many part.turn.records) ≡ Some f) same part.stand)

      abbrev TellNames : History D → Type 0
      TellNames h = (e : Durable) → TellsAt seen h.nodes.master e → HasNames d e

      step_quiet : (step : Step) (old new : History D) → Goes seen failures armed step old new → IsStepWithin step → IsLooking client step → KeepsTypes old → LastsThrough seen old.nodes.master → IsStill d client number old → StaysQuiet seen old → StaysQuiet seen new
      step_quiet step old new goes within looking keeps lasts f quiet = record { master = step_unled step old new goes looking f quiet.master; told = told }
        where
          told : (e : Durable) → TellsAt seen new.nodes.master e → AreUnled e
          told e tells =
              let was = tells_some seen failures old.nodes.master lasts in
              let on = step_on seen failures unarmed (λ disk call place lasts. lasts) (λ d disk call place told. told) step old new was.0 (goes_spared seen failures armed step old new looking.0 goes) (step_within seen failures armed step old within keeps) lasts was.1 in
              subst AreUnled (tells_once seen failures new.nodes.master on.durable e on.tells tells) (told_on step old was.0 on.durable f lasts quiet was.1 on.on)

      pub run_quiet : (steps : List Step) (old new : History D) → RunsTo seen failures armed steps old new → AllByRecursion IsStepWithin steps → AllByRecursion (IsLooking client) steps → KeepsTypes old → LastsThrough seen old.nodes.master → IsStill d client number old → StaysQuiet seen old
          → StaysQuiet seen new
      run_quiet [] old new same within looking keeps lasts f quiet = subst (StaysQuiet seen) (sym same) quiet
      run_quiet (step ∷ steps) old new (mid, goes, rest) within looking keeps lasts f quiet =
          run_quiet steps mid new rest within.1 looking.1 (step_keeps seen failures armed step old mid goes within.0 keeps) (lasts_spared seen failures armed (step ∷ []) old mid (mid, goes, refl) (looking.0.0, tt) (within.0, tt) keeps lasts)
          (stays_still seen failures armed d client number (step ∷ []) old mid (mid, goes, refl) (looking.0, tt) f) (step_quiet step old mid goes within.0 looking.0 keeps lasts f quiet)

      -- ---- which names are told

      step_named : (step : Step) (old new : History D) → Goes seen failures armed step old new → IsStepWithin step → IsLooking client step → KeepsTypes old → LastsThrough seen old.nodes.master → IsStill d client number old → TellNames old → TellNames new
      step_named step old new goes within looking keeps lasts f named e tells =
          let was = tells_some seen failures old.nodes.master lasts in
          let may = step_within seen failures armed step old within keeps in
          let on = step_on seen failures unarmed (λ disk call place lasts. lasts) (λ d disk call place told. told) step old new was.0 (goes_spared seen failures armed step old new looking.0 goes) may lasts was.1 in
          subst (HasNames d) (tells_once seen failures new.nodes.master on.durable e on.tells tells) (names_on d client number seen failures step old was.0 on.durable f may lasts was.1 (named was.0 was.1) on.on)

      pub run_named : (steps : List Step) (old new : History D) → RunsTo seen failures armed steps old new → AllByRecursion IsStepWithin steps → AllByRecursion (IsLooking client) steps → KeepsTypes old → LastsThrough seen old.nodes.master → IsStill d client number old → TellNames old
          → TellNames new
      run_named [] old new same within looking keeps lasts f named = subst TellNames (sym same) named
      run_named (step ∷ steps) old new (mid, goes, rest) within looking keeps lasts f named =
          run_named steps mid new rest within.1 looking.1 (step_keeps seen failures armed step old mid goes within.0 keeps) (lasts_spared seen failures armed (step ∷ []) old mid (mid, goes, refl) (looking.0.0, tt) (within.0, tt) keeps lasts)
          (stays_still seen failures armed d client number (step ∷ []) old mid (mid, goes, refl) (looking.0, tt) f) (step_named step old mid goes within.0 looking.0 keeps lasts f named)

      pub run_halted : (steps : List Step) (old new : History D) → RunsTo seen failures armed steps old new → AllByRecursion IsStepWithin steps → AllByRecursion (IsLooking client) steps → IsHalted seen d client number old → IsHalted seen d client number new
      run_halted steps old new runs within looking h = record {
        still = stays_still seen failures armed d client number steps old new runs looking h.still;
        quiet = run_quiet steps old new runs within looking h.types h.lasts h.still h.quiet;
        named = run_named steps old new runs within looking h.types h.lasts h.still h.named;
        asked = asked_spared seen failures armed steps old new runs (all_spare client steps looking) within h.types h.lasts h.asked;
        types = run_keeps seen failures armed steps old new runs within h.types;
        lasts = lasts_spared seen failures armed steps old new runs (all_spare client steps looking) within h.types h.lasts;
      }

pub stays_unled : {D : Type 0} (seen : D → List ℕ) (failures : D → ℕ) (armed : DiskId → ℕ → MasterPlace D → MasterPlace D) → StaysUnled seen failures armed
stays_unled seen failures armed d client number steps old new runs within looking keeps lasts f quiet = run_quiet seen failures d client number armed steps old new runs within looking keeps lasts f quiet

pub stays_halted : {D : Type 0} (seen : D → List ℕ) (failures : D → ℕ) (armed : DiskId → ℕ → MasterPlace D → MasterPlace D) → StaysHalted seen failures armed
stays_halted seen failures armed d client number steps old new runs within looking h = run_halted seen failures d client number armed steps old new runs within looking h
