-- No prepare is begun while a client only looks, nor right after the commit of a prepare or of a rollback.
use Rattle.std.proofs.Common.{if◌then◌else◌, ◌≡◌, ◌∙◌, inl, inr, ◌&&◌, ◌≤◌, ◌++◌, ◌+◌, ℕ, Bool, true, false, not, List, [], ◌∷◌, Option, Some, None, MatchOption, Ok, Err, refl, sym, ap, subst}
use Rattle.std.specs.Prelude.{flat_map}
use Rattle.std.specs.FinMap as fin
use Rattle.std.specs.List.{AllByRecursion, list_all}
use Rattle.std.proofs.lemmas.Bool.{false≢true}
use Rattle.gs_base.specs.Members.{is_member}
use Rattle.gs_base.specs.declared.config.Config.{Config}
use Rattle.gs_base.specs.declared.numbers.ClientId.{ClientId}
use Rattle.gs_base.specs.declared.numbers.Moment.{Moment}
use Rattle.gs_base.specs.declared.numbers.ReqId.{ReqId}
use Rattle.gs_base.specs.declared.refusal.Refusal.{Refusal}
use Rattle.gs_base.specs.declared.refusal.Refusal.TheVariants as refusals
use Rattle.gs_client.specs.Nodes.{Node, given_up, hears}
use Rattle.gs_edit.specs.View.{NamesView}
use Rattle.gs_master.specs.Masters.{MasterAnswers, MasterOf}
use Rattle.gs_master.specs.Ticking.{AnswersAs, AnswersTick, lacking, pressed_all, writes_one}
use Rattle.gs_master.specs.declared.turn.Turn.{Turn as Told_turn}
use Rattle.gs_master_record.specs.Plain.{Prepare, RollbackCommit, Said}
use Rattle.gs_master_record.specs.declared.checkpoint.Phase.{Phase}
use Rattle.gs_master_record.specs.declared.checkpoint.Phase.TheVariants as phases
use Rattle.gs_master_spec.specs.Calls.{is_locked, ordered, refused_before}
use Rattle.gs_master_spec.specs.Durable.{Durable, is_ordinary, is_rolling, prepared_view}
use Rattle.gs_master_spec.specs.Handling.{Again, New, Numbered, Older, call_turn, called_unless, from_node, granted, handle, new_call, numbered, pressed, proposals, replied_again, server_turn, taken_as, tick, waits_still, written_if_due}
use Rattle.gs_master_spec.specs.Outcomes.{caller_of}
use Rattle.gs_master_spec.specs.State.{State, Turn, and_then, answer_changes, end_changes, first_of, fits, for_each, if_room, is_failed, is_unopened, keeps_refusal, kept_in_memory, last_reply, met_by, refused, said_changes, turned, unmoved}
use Rattle.gs_master_spec.specs.Replies.{is_later}
use Rattle.gs_master_spec.specs.Undoing.{all_undone}
use Rattle.gs_master_spec.specs.Upgrades.{accepted_plan, all_unquiet, answers_for, chunk_count, commit_if, commit_on, commit_tests, is_last_epoch, tell_all, told_of, unless, unrestored}
use Rattle.gs_master_spec.specs.Volatile.{Volatile, all_changed, changed, is_call, is_pending, let_go, let_go_of, without_call}
use Rattle.gs_master_spec.specs.declared.asking.Asking.{Asking}
use Rattle.gs_master_spec.specs.declared.change.Change.{Change}
use Rattle.gs_master_spec.specs.declared.change.Change.TheVariants as changes
use Rattle.gs_msg.specs.declared.answer.Answer.{Answer}
use Rattle.gs_msg.specs.declared.answer.Answer.TheVariants as answers
use Rattle.gs_msg.specs.declared.body.Body.{Body}
use Rattle.gs_msg.specs.declared.body.Body.TheVariants as bodies
use Rattle.gs_msg.specs.declared.call.Call.{Call}
use Rattle.gs_msg.specs.declared.call.Call.TheVariants as calls
use Rattle.gs_msg.specs.declared.event.DiskId.{DiskId}
use Rattle.gs_msg.specs.declared.event.Happening.{Happening}
use Rattle.gs_msg.specs.declared.event.Happening.TheVariants as happenings
use Rattle.gs_msg.specs.declared.message.Message.{Message}
use Rattle.gs_msg.specs.declared.message.MsgId.{MsgId}
use Rattle.gs_msg.specs.declared.node.NodeId.{NodeId}
use Rattle.gs_msg.specs.declared.node.NodeId.TheVariants as nodes
use Rattle.gs_base.specs.declared.epoch.EpochEnd.TheVariants as ends
use Rattle.gs_nodes.specs.Happenings.{MasterHears, MasterTicks, client_in}
use Rattle.gs_nodes.specs.Nodes.{Nodes, with_master}
use Rattle.gs_nodes.specs.declared.place.MasterPlace.{MasterPlace}
use Rattle.gs_nodes.specs.declared.place.MasterPlace.TheVariants.{Standing, Closed, Away}
use Rattle.gs_world.specs.Histories.{History, Upshot}
use Rattle.gs_world.specs.Runs.{Comes, Goes, RunsTo, Step, Takes}
use Rattle.gs_world.specs.Sent.{message_of}
use Rattle.gs_laws_master.specs.Standing.{Comes as HearsAt, IsFirm, Ticks as TicksAt}
use Rattle.gs_laws_master.specs.Written.{IsSteady}
use Rattle.gs_laws_moves.proofs.lemmas.answers.Resting.{had_not_new}
use Rattle.gs_laws_moves.proofs.lemmas.looks.Looks.{no_answer}
use Rattle.gs_laws_moves.proofs.lemmas.moves.Stands.{events_stand_for}
use Rattle.gs_laws_moves.specs.answers.AtOnce.{OneSays}
use Rattle.gs_laws_moves.specs.answers.Resting.{HasHad}
use Rattle.gs_laws_moves.specs.moves.Epochs.{ByItself, Closes, EndsOnce, Within, closes, is_alone}
use Rattle.gs_laws_moves.specs.moves.ForCalls.{IsFor, IsMadeWellFor}
use Rattle.gs_laws_moves.specs.moves.Guards.{Heard as Heard_from}
use Rattle.gs_laws_moves.specs.moves.Laws.{said_from}
use Rattle.gs_laws_moves.specs.moves.Moves.{Alone, Answers as AnswersCall, Begins, BeginsRollback, Chain, Checkpoints, CommitsRollback, Copies, CopiesTree, Edits, Extends, Finalizes, Flags, FromNow, Further, Hears, Makes, Move, Moves, Prepares, Refuses, Replaces, Restores, Rests, Says, Scans, Sends, Settles, TellsRollback, Then, Waits, move_turn}
use Rattle.gs_laws_world.proofs.lemmas.steady.Keeping.{step_keeps, step_within}
use Rattle.gs_laws_world.specs.steady.Saying.{IsStepWithin, KeepsTypes}
use Rattle.gs_laws_world.specs.steady.Steady.{IsHeardAt, StepWithin}
use Rattle.gs_laws_world.specs.steady.Through.{LastsThrough}
use Rattle.gs_laws_chunks.proofs.lemmas.answers.Behind.{made_there}
use Rattle.gs_laws_chunks.proofs.lemmas.answers.Parts.{Armed, Asked, Heard, Opened, Part, Rested, Served, Ticked, Told, part_of, with_client}
use Rattle.gs_laws_chunks.proofs.lemmas.answers.Resting.{had_below, no_less, stays_still}
use Rattle.gs_laws_chunks.proofs.lemmas.answers.Sparing.{lasts_spared}
use Rattle.gs_laws_chunks.proofs.lemmas.calls.Turns.{said_is, steady_there, steps_stand_for}
use Rattle.gs_laws_chunks.specs.answers.Answered.{spares_master}
use Rattle.gs_laws_chunks.specs.answers.Behind.{is_halt}
use Rattle.gs_laws_chunks.specs.answers.Calm.{CommitsAreCalm, IsCalm, IsCalmAt, StaysCalm}
use Rattle.gs_laws_chunks.specs.answers.Resting.{IsLooking, IsOldOrLooks, IsStill, StandsStill, StandsStillAt}

-- ---- changes that begin no prepare

abbrev flags_none : Change → Bool
flags_none (changes.Prepare preparing) = not preparing
flags_none change = true

both_true : (a b : Bool) → (a && b) ≡ true → (a ≡ true) × (b ≡ true)
both_true true b is = (refl, is)
both_true false b is = absurd (false≢true is)

both_none : (xs ys : List Change) → list_all flags_none xs ≡ true → list_all flags_none ys ≡ true → list_all flags_none (xs ++ ys) ≡ true
both_none [] ys a b = b
both_none (x ∷ xs) ys a b = (let parts = both_true (flags_none x) (list_all flags_none xs) a in ap (λ t. t && list_all flags_none (xs ++ ys)) parts.0 ∙ both_none xs ys parts.1 b)

let_go_none : (new : List ℕ) (req : ReqId) (es : List (ℕ × Asking)) → list_all flags_none (flat_map (let_go_of new req) es) ≡ true
let_go_none new req [] = refl
let_go_none new req (e ∷ es) = both_none (let_go_of new req e) (flat_map (let_go_of new req) es) (by_tests (is_call req e.1.call) (is_member new e.0)) (let_go_none new req es)
  where
    by_tests : (c n : Bool) → list_all flags_none (if not c then [] else if n then changes.Lose e.0 ∷ [] else changes.Ask e.0 (without_call e.1) ∷ []) ≡ true
    by_tests false n = refl
    by_tests true true = refl
    by_tests true false = refl

answer_none : (s : State) (req : ReqId) (answer : Answer) → list_all flags_none (answer_changes s req answer) ≡ true
answer_none s req answer = by_test (is_later (last_reply s req.client) req.number)
  where
    by_test : (b : Bool) → list_all flags_none (if b then kept_in_memory req (Ok answer) ∷ [] else []) ≡ true
    by_test true = refl
    by_test false = refl

refused_none : (s : State) (req : ReqId) (refusal : Refusal) (over : Bool) → list_all flags_none (said_changes (keeps_refusal s req refusal) s.log req refusal ++ (if over then end_changes s req else [])) ≡ true
refused_none s req refusal over = both_none (said_changes (keeps_refusal s req refusal) s.log req refusal) (if over then end_changes s req else []) (by_test (keeps_refusal s req refusal && not (fits s.log (Said req refusal ∷ [])))) (further over)
  where
    by_test : (b : Bool) → list_all flags_none (if b then kept_in_memory req (Err refusal) ∷ [] else []) ≡ true
    by_test true = refl
    by_test false = refl

    further : (b : Bool) → list_all flags_none (if b then end_changes s req else []) ≡ true
    further true = both_none (let_go s.volatile req) (changes.End req ∷ []) (let_go_none s.volatile.unplaced req (fin.entries s.volatile.moving)) refl
    further false = refl

change_calm : (v : Volatile) (change : Change) → flags_none change ≡ true → v.is_preparing ≡ false → (changed v change).is_preparing ≡ false
change_calm v (changes.Prepare true) none calm = absurd (false≢true none)
change_calm v (changes.Prepare false) none calm = refl
change_calm v change none calm = calm

changes_calm : (cs : List Change) (v : Volatile) → list_all flags_none cs ≡ true → v.is_preparing ≡ false → (all_changed v cs).is_preparing ≡ false
changes_calm [] v none calm = calm
changes_calm (c ∷ cs) v none calm = (let parts = both_true (flags_none c) (list_all flags_none cs) none in changes_calm cs (changed v c) parts.1 (change_calm v c parts.0 calm))

-- ---- moves

abbrev Calm : State → Type 0
Calm s = s.volatile.is_preparing ≡ false

module _ (config : Config) (heard : Heard_from) (none : (from : ℕ) (req : ReqId) → heard ≡ Some (from, bodies.Call req calls.PrepareBegin) → ⊥) where
  move_calm : (s : State) (move : Move) → IsFor heard s move → Calm s → Calm (move_turn config s move).after
  move_calm s (Begins q purpose call Alone) for calm = calm
  move_calm s (Begins q purpose call (FromNow req waiting)) for calm = calm
  move_calm s (Begins q purpose call (Further req waiting)) for calm = calm
  move_calm s (Makes targets req path) for calm = calm
  move_calm s (Copies old at req Alone) for calm = calm
  move_calm s (Copies old at req (FromNow by waiting)) for calm = calm
  move_calm s (Copies old at req (Further by waiting)) for calm = calm
  move_calm s (Hears q asking) for calm = calm
  move_calm s (Sends q asking source target) for calm = calm
  move_calm s (Settles q asking carried at) for calm = calm
  move_calm s (Edits req edit answer) for calm = calm
  move_calm s (Extends req path new at) for calm = calm
  move_calm s (CopiesTree req from to) for calm = calm
  move_calm s (Replaces path index old new) for calm = calm
  move_calm s (Scans removed forgotten) for calm = calm
  move_calm s (Refuses req refusal over) for calm = changes_calm (said_changes (keeps_refusal s req refusal) s.log req refusal ++ (if over then end_changes s req else [])) s.volatile (refused_none s req refusal over) calm
  move_calm s (AnswersCall req answer true) for calm = changes_calm (answer_changes s req answer ++ changes.End req ∷ []) s.volatile (both_none (answer_changes s req answer) (changes.End req ∷ []) (answer_none s req answer) refl) calm
  move_calm s (AnswersCall req answer false) for calm = changes_calm (answer_changes s req answer) s.volatile (answer_none s req answer) calm
  move_calm s (Waits req waiting) for calm = calm
  move_calm s (Restores server chunks) for calm = calm
  move_calm s (Says messages) for calm = calm
  move_calm s (Flags req true now) for calm = absurd (none for.0 req for.1)
  move_calm s (Flags req false now) for calm = changes_calm (answer_changes s req (answers.Epoch now)) (changed s.volatile (changes.Prepare false)) (answer_none s req (answers.Epoch now)) refl
  move_calm s (Prepares req moment) for calm = changes_calm (answer_changes s req (answers.Epoch (s.durable.epoch + 1))) (changed s.volatile (changes.Prepare false)) (answer_none s req (answers.Epoch (s.durable.epoch + 1))) refl
  move_calm s (Finalizes req) for calm = changes_calm (answer_changes s req (answers.Epoch (s.durable.epoch + 1))) s.volatile (answer_none s req (answers.Epoch (s.durable.epoch + 1))) calm
  move_calm s BeginsRollback for calm = calm
  move_calm s (TellsRollback req now) for calm = changes_calm (answer_changes s req (answers.Epoch now)) s.volatile (answer_none s req (answers.Epoch now)) calm
  move_calm s (CommitsRollback req names) for calm = changes_calm (answer_changes s req (answers.Epoch s.durable.epoch)) (changed s.volatile changes.RolledBack) (answer_none s req (answers.Epoch s.durable.epoch)) calm
  move_calm s Checkpoints for calm = calm

  chain_calm : (Holds : State → Move → Type 0) → ((u : State) (move : Move) → Holds u move → IsFor heard u move) → (s : State) (t : Turn) → Chain config Holds s t → Calm s → Calm t.after
  chain_calm Holds each s t (Rests u said) calm = calm
  chain_calm Holds each s t (Moves u move said holds) calm = move_calm u move (each u move holds) calm
  chain_calm Holds each s t (Then u first next a b) calm = chain_calm Holds each first.after next b (chain_calm Holds each u first a calm)

  once_calm : (s : State) (t : Turn) → EndsOnce config (IsMadeWellFor config heard) s t → Calm s → Calm t.after
  once_calm s t (Within u v chain) calm = chain_calm (λ w move. IsMadeWellFor config heard w move × (is_alone move ≡ false)) (λ w move holds. holds.0.1) u v chain calm
  once_calm s t (ByItself u move said made is) calm = move_calm u move made.1 calm
  once_calm s t (Closes u move said next made is chain) calm = chain_calm (λ w move. IsMadeWellFor config heard w move × (closes move ≡ true)) (λ w move holds. holds.0.1) (move_turn config u move).after next chain (move_calm u move made.1 calm)

-- ---- a master of which a disk has failed

module _ (config : Config) (s : State) (moment : Moment) (failed : is_failed s.fault ≡ true) where
  abbrev Fails : Turn → Type 0
  Fails t = is_failed t.after.fault ≡ true

  new_fails : (req : ReqId) (call : Call) (b : Bool) → b ≡ true → Fails (called_unless config s req moment call (first_of (ordered b (is_rolling s.durable.phase) s.volatile.is_preparing (is_locked s req call) call)))
  new_fails req call true is = failed
  new_fails req call false is = absurd (false≢true is)

  call_fails : (req : ReqId) (call : Call) → Fails (call_turn config s req moment call)
  call_fails req call = by_opened (is_unopened s.fault)
    where
      by_how : (how : Numbered) → Fails (taken_as config s req moment call how)
      by_how New = new_fails req call (is_failed s.fault) failed
      by_how (Again result) = failed
      by_how Older = failed

      by_fault : (b : Bool) → Fails (if b then replied_again s req (Err refusals.Device) else unmoved s)
      by_fault true = failed
      by_fault false = failed

      by_waits : (b : Bool) → Fails (if b then waits_still s req else taken_as config s req moment call (numbered (last_reply s req.client) req.number))
      by_waits true = by_fault (is_failed s.fault)
      by_waits false = by_how (numbered (last_reply s req.client) req.number)

      by_opened : (b : Bool) → Fails (if b then replied_again s req (Err refusals.Device) else if is_pending s.volatile.pending req then waits_still s req else taken_as config s req moment call (numbered (last_reply s req.client) req.number))
      by_opened true = failed
      by_opened false = by_waits (is_pending s.volatile.pending req)

  unless_fails : (b : Bool) (t : Turn) → b ≡ true → Fails (if b then met_by s refusals.Device else t)
  unless_fails true t is = failed
  unless_fails false t is = absurd (false≢true is)

  node_fails : (body : Body) (from : NodeId) → Fails (from_node config s moment body from)
  node_fails body nodes.Master = failed
  node_fails body (nodes.Server server) = unless_fails (is_failed s.fault) (server_turn s server moment body) failed
  node_fails (bodies.Call req call) (nodes.Client client) = call_fails req call
  node_fails body (nodes.Client client) = failed

  message_fails : (message : Message) → Fails (handle config s message moment)
  unfolding handle
  message_fails message = node_fails message.body message.from

  tick_fails : Fails (tick s moment)
  unfolding tick
  tick_fails = unless_fails (is_failed s.fault) (and_then (and_then (for_each s (proposals s) (pressed moment)) granted) written_if_due) failed

-- ---- what begins a prepare

abbrev pub is_begin : Body → Bool
is_begin (bodies.Call req calls.PrepareBegin) = true
is_begin body = false

pub begin_is : (body : Body) → is_begin body ≡ true → (req : ReqId) × (body ≡ bodies.Call req calls.PrepareBegin)
begin_is (bodies.Call req calls.PrepareBegin) is = (req, refl)
begin_is body is = absurd (false≢true is)

module _ (config : Config) (s : State) (moment : Moment) (client : ClientId) (number : ℕ) (had : HasHad s client number) where
  -- an old call changes nothing
  old_after : (req : ReqId) (call : Call) → req.client ≡ client → req.number ≤ number → (call_turn config s req moment call).after ≡ s
  old_after req call same low = by_opened (is_unopened s.fault)
    where
      by_how : (how : Numbered) → numbered (last_reply s req.client) req.number ≡ how → (taken_as config s req moment call how).after ≡ s
      by_how New is = absurd (had_not_new s req.client number req.number (subst (λ c. HasHad s c number) (sym same) had) low is)
      by_how (Again result) is = refl
      by_how Older is = refl

      by_fault : (b : Bool) → (if b then replied_again s req (Err refusals.Device) else unmoved s).after ≡ s
      by_fault true = refl
      by_fault false = refl

      by_waits : (b : Bool) → (if b then waits_still s req else taken_as config s req moment call (numbered (last_reply s req.client) req.number)).after ≡ s
      by_waits true = by_fault (is_failed s.fault)
      by_waits false = by_how (numbered (last_reply s req.client) req.number) refl

      by_opened : (b : Bool) → (if b then replied_again s req (Err refusals.Device) else if is_pending s.volatile.pending req then waits_still s req else taken_as config s req moment call (numbered (last_reply s req.client) req.number)).after ≡ s
      by_opened true = refl
      by_opened false = by_waits (is_pending s.volatile.pending req)

  old_handled : (message : Message) (req : ReqId) (call : Call) → message.body ≡ bodies.Call req call → req.client ≡ client → req.number ≤ number → (handle config s message moment).after ≡ s
  unfolding handle
  old_handled message req call is same low = subst (λ (b : Body). (from_node config s moment b message.from).after ≡ s) (sym is) (by_from message.from)
    where
      by_fault : (b : Bool) → (if b then met_by s refusals.Device else met_by s refusals.Stray).after ≡ s
      by_fault true = refl
      by_fault false = refl

      by_from : (from : NodeId) → (from_node config s moment (bodies.Call req call) from).after ≡ s
      by_from nodes.Master = refl
      by_from (nodes.Server server) = by_fault (is_failed s.fault)
      by_from (nodes.Client other) = old_after req call same low

-- ---- turns

module _ (d : Durable) (client : ClientId) (number : ℕ) (config : Config) (s : State) (so : StandsStill d client number s) where
  -- a message
  pub handle_calm : (message : Message) (moment : Moment) → IsOldOrLooks client number message.body → (is_failed s.fault ≡ false → EndsOnce config (IsMadeWellFor config (said_from message.from message.body)) s (handle config s message moment)) → IsCalm s → IsCalm (handle config s message moment).after
  handle_calm message moment says once (inl failed) = inl (message_fails config s moment failed message)
  handle_calm message moment says once (inr calm) = by_fault (is_failed s.fault) refl
    where
      begins : (req : ReqId) → message.body ≡ bodies.Call req calls.PrepareBegin → Calm (handle config s message moment).after
      begins req is = by_says (subst (IsOldOrLooks client number) is says)
        where
          by_says : IsOldOrLooks client number (bodies.Call req calls.PrepareBegin) → Calm (handle config s message moment).after
          by_says (own, inl low) = subst Calm (sym (old_handled config s moment client req.number (had_below s client number req.number low so.had) message req calls.PrepareBegin is own (no_less req.number))) calm
          by_says (own, inr looks) = absurd (false≢true looks)

      by_begin : (b : Bool) → is_begin message.body ≡ b → is_failed s.fault ≡ false → Calm (handle config s message moment).after
      by_begin true is sound = (let found = begin_is message.body is in begins found.0 found.1)
      by_begin false is sound =
          once_calm config (said_from message.from message.body) (λ from req heard. false≢true (sym is ∙ ap is_begin (said_is message.from message.body from req calls.PrepareBegin heard))) s (handle config s message moment) (once sound) calm

      by_fault : (b : Bool) → is_failed s.fault ≡ b → IsCalm (handle config s message moment).after
      by_fault true is = inl (message_fails config s moment is message)
      by_fault false is = inr (by_begin (is_begin message.body) refl is)

-- a message that begins no prepare
pub unbegun_calm : (config : Config) (s : State) (message : Message) (moment : Moment) → is_begin message.body ≡ false → (is_failed s.fault ≡ false → EndsOnce config (IsMadeWellFor config (said_from message.from message.body)) s (handle config s message moment)) → IsCalm s
    → IsCalm (handle config s message moment).after
unbegun_calm config s message moment none once (inl failed) = inl (message_fails config s moment failed message)
unbegun_calm config s message moment none once (inr calm) = by_fault (is_failed s.fault) refl
  where
    by_fault : (b : Bool) → is_failed s.fault ≡ b → IsCalm (handle config s message moment).after
    by_fault true is = inl (message_fails config s moment is message)
    by_fault false is =
        inr (once_calm config (said_from message.from message.body) (λ from req heard. false≢true (sym none ∙ ap is_begin (said_is message.from message.body from req calls.PrepareBegin heard))) s (handle config s message moment) (once is) calm)

-- a tick, and one without the checkpoint that is due
pub tick_calm : (config : Config) (s : State) (moment : Moment) → (is_failed s.fault ≡ false → IsSteady s) → IsCalm s → IsCalm (tick s moment).after
tick_calm config s moment steady (inl failed) = inl (tick_fails config s moment failed)
tick_calm config s moment steady (inr calm) = by_fault (is_failed s.fault) refl
  where
    none : (from : ℕ) (req : ReqId) → ◌≡◌ {A = Option (ℕ × Body)} None (Some (from, bodies.Call req calls.PrepareBegin)) → ⊥
    none from req is = absurd (cc)

    by_fault : (b : Bool) → is_failed s.fault ≡ b → IsCalm (tick s moment).after
    by_fault true is = inl (tick_fails config s moment is)
    by_fault false is = inr (once_calm config None none s (tick s moment) (events_stand_for config s (TicksAt moment) tt tt (steady is)) calm)

pub lacking_calm : (config : Config) (s : State) (moment : Moment) → is_failed s.fault ≡ false → (is_failed s.fault ≡ false → IsSteady s) → IsCalm s → IsCalm (lacking (pressed_all s moment)).after
lacking_calm config s moment sound steady (inl failed) = absurd (false≢true (sym sound ∙ failed))
lacking_calm config s moment sound steady (inr calm) = inr (once_calm config None none s (pressed_all s moment) (steps_stand_for config s moment (steady sound)) calm)
  where
    none : (from : ℕ) (req : ReqId) → ◌≡◌ {A = Option (ℕ × Body)} None (Some (from, bodies.Call req calls.PrepareBegin)) → ⊥
    none from req is = absurd (cc)

-- ---- the master in its place

module _ {D : Type 0} (seen : D → List ℕ) (failures : D → ℕ) where
  answers_calm : (caller : Option ReqId) (t : Turn) (m after : MasterOf D) (turn : Told_turn) → IsCalm t.after → MasterAnswers seen failures caller t m (Ok turn) after → IsCalm after.state
  answers_calm caller t m after turn calm (inl is) = subst IsCalm (sym is.done.after) calm
  answers_calm caller t m after turn calm (inr (place, is)) = subst IsCalm (sym is.cut.after) (inl refl)

  as_calm : (b : Bool) (t steps : Turn) (m after : MasterOf D) (turn : Told_turn) → IsCalm t.after → AnswersAs seen failures b t steps m turn after → IsCalm after.state
  as_calm true t steps m after turn calm (inl is) = subst IsCalm (sym is.done.after) calm
  as_calm true t steps m after turn calm (inr (place, is)) = subst IsCalm (sym is.cut.after) (inl refl)
  as_calm false t steps m after turn calm (inl is) = subst IsCalm (sym is.done.after) calm
  as_calm false t steps m after turn calm (inr (place, is)) = subst IsCalm (sym is.cut.after) (inl refl)

  master_ticks : (moment : Moment) (m after : MasterOf D) (turn : Told_turn) → (is_failed m.state.fault ≡ false → IsSteady m.state) → IsCalm m.state → AnswersTick seen failures moment m (Ok turn) after → IsCalm after.state
  master_ticks moment m after turn steady calm (inl whole) = as_calm (writes_one m.state (pressed_all m.state moment)) (tick m.state moment) (pressed_all m.state moment) m after turn (tick_calm m.config m.state moment steady calm) whole
  master_ticks moment m after turn steady calm (inr (sound, is_due, none, done)) = answers_calm None (lacking (pressed_all m.state moment)) m after turn (lacking_calm m.config m.state moment sound steady calm) done

  module _ (d : Durable) (client : ClientId) (number : ℕ) (old : History D) (lasts : LastsThrough seen old.nodes.master) (f : IsStill d client number old) (calm : IsCalmAt old.nodes.master) where
    ticks_calm : (moment : Moment) (place new : MasterPlace D) (turn : Told_turn) → old.nodes.master ≡ place → MasterTicks seen failures moment place (Ok turn) new → IsCalmAt new
    ticks_calm moment (Standing m) new turn at (after, is, answers) =
        subst IsCalmAt (sym is) (master_ticks moment m after turn (λ sound. steady_there seen old.nodes.master m at sound lasts) (subst IsCalmAt at calm) answers)
    ticks_calm moment (Closed first second) new turn at meets = subst IsCalmAt (sym meets.0) tt
    ticks_calm moment Away new turn at meets = subst IsCalmAt (sym meets.0) tt

    hears_calm : (message : Message) (moment : Moment) (place new : MasterPlace D) (turn : Told_turn) → old.nodes.master ≡ place → IsOldOrLooks client number message.body
        → ((m : MasterOf D) → old.nodes.master ≡ Standing m → is_failed m.state.fault ≡ false → EndsOnce m.config (IsMadeWellFor m.config (said_from message.from message.body)) m.state (handle m.config m.state message moment))
        → MasterHears seen failures message moment place (Ok turn) new → IsCalmAt new
    hears_calm message moment (Standing m) new turn at says once (after, is, answers) =
        subst IsCalmAt (sym is) (answers_calm (caller_of message.body) (handle m.config m.state message moment) m after turn
        (handle_calm d client number m.config m.state (subst (StandsStillAt d client number) at f.master) message moment says (once m at) (subst IsCalmAt at calm)) answers)
    hears_calm message moment (Closed first second) new turn at says once meets = subst IsCalmAt (sym meets.0) tt
    hears_calm message moment Away new turn at says once meets = subst IsCalmAt (sym meets.0) tt

    -- ---- an event

    module _ (armed : DiskId → ℕ → MasterPlace D → MasterPlace D) (moment : Moment) (happening : Happening) (outcome : Upshot) (within : StepWithin (Comes (record { moment = moment; happening = happening })) old) where
      abbrev Here : Happening → Type 0
      Here h = StepWithin (Comes (record { moment = moment; happening = h })) old

      once_there : (id : MsgId) (message : Message) → happening ≡ happenings.Deliver id → message_of old.sent id ≡ Some message → message.to ≡ nodes.Master → (m : MasterOf D) → old.nodes.master ≡ Standing m → is_failed m.state.fault ≡ false
          → EndsOnce m.config (IsMadeWellFor m.config (said_from message.from message.body)) m.state (handle m.config m.state message moment)
      once_there id message it was to m at sound =
          let here = subst Here it within in
          events_stand_for m.config m.state (HearsAt message moment) (here.0 message was to) (subst (λ p. IsHeardAt p message.body) at (here.1 message was to)) (steady_there seen old.nodes.master m at sound lasts)

      moved : (place : MasterPlace D) (new : Nodes D) → new ≡ with_master place old.nodes → IsCalmAt place → IsCalmAt new.master
      moved place new same left = subst IsCalmAt (sym (ap (λ (n : Nodes D). n.master) same)) left

      stays : (new : Nodes D) → new.master ≡ old.nodes.master → IsCalmAt new.master
      stays new same = subst IsCalmAt (sym same) calm

      part_calm : (new : Nodes D) → IsLooking client (Comes (record { moment = moment; happening = happening })) → Part seen failures armed old moment happening outcome new → IsCalmAt new.master
      part_calm new looking (Heard id message turn place it was to hears is same) = moved place new same (hears_calm message moment old.nodes.master place turn refl (f.sent id message was) (once_there id message it was to) hears)
      part_calm new looking (Ticked turn place it ticks is same) = moved place new same (ticks_calm moment old.nodes.master place turn refl ticks)
      part_calm new looking (Opened turn place it opens is same) = absurd (false≢true (sym (ap (λ h. spares_master (Comes (record { moment = moment; happening = h }))) it) ∙ looking.0))
      part_calm new looking (Armed disk call it none same) = absurd (false≢true (sym (ap (λ h. spares_master (Comes (record { moment = moment; happening = h }))) it) ∙ looking.0))
      part_calm new looking (Served by clients master) = stays new master
      part_calm new looking (Asked req request n it found low sends same) = stays new (ap (λ (n : Nodes D). n.master) same)
      part_calm new looking (Told id message other n it was found none same) = stays new (ap (λ (n : Nodes D). n.master) same)
      part_calm new looking (Rested none same) = stays new (ap (λ (n : Nodes D). n.master) same)

  -- ---- a run

  module _ (d : Durable) (client : ClientId) (number : ℕ) (armed : DiskId → ℕ → MasterPlace D → MasterPlace D) where
    step_calm : (step : Step) (old new : History D) → Goes seen failures armed step old new → IsStepWithin step → IsLooking client step → KeepsTypes old → LastsThrough seen old.nodes.master → IsStill d client number old → IsCalmAt old.nodes.master → IsCalmAt new.nodes.master
    step_calm (Comes event) old new (said, h) within looking keeps lasts f calm =
        part_calm d client number old lasts f calm armed event.moment event.happening h.outcome (step_within seen failures armed (Comes event) old within keeps) new.nodes looking (part_of seen failures armed old event.moment event.happening h.by h.outcome new.nodes h.at)
    step_calm (Takes other) old new (found, taken, same) within looking keeps lasts f calm = by_client (client_in old.nodes.clients other) taken
      where
        by_client : (o : Option Node) → MatchOption o ((new.nodes ≡ old.nodes) × (found ≡ None)) (λ n. (after : Node) × (new.nodes ≡ with_client other after old.nodes) × ((found ≡ n.reply) × (after ≡ given_up n))) → IsCalmAt new.nodes.master
        by_client None (none, is) = subst IsCalmAt (sym (ap (λ (x : Nodes D). x.master) none)) calm
        by_client (Some n) (after, there, did) = subst IsCalmAt (sym (ap (λ (x : Nodes D). x.master) there)) calm

    pub run_calm : (steps : List Step) (old new : History D) → RunsTo seen failures armed steps old new → AllByRecursion IsStepWithin steps → AllByRecursion (IsLooking client) steps → KeepsTypes old → LastsThrough seen old.nodes.master → IsStill d client number old → IsCalmAt old.nodes.master
        → IsCalmAt new.nodes.master
    run_calm [] old new same within looking keeps lasts f calm = subst (λ (h : History D). IsCalmAt h.nodes.master) (sym same) calm
    run_calm (step ∷ steps) old new (mid, goes, rest) within looking keeps lasts f calm =
        run_calm steps mid new rest within.1 looking.1 (step_keeps seen failures armed step old mid goes within.0 keeps) (lasts_spared seen failures armed (step ∷ []) old mid (mid, goes, refl) (looking.0.0, tt) (within.0, tt) keeps lasts)
        (stays_still seen failures armed d client number (step ∷ []) old mid (mid, goes, refl) (looking.0, tt) f) (step_calm step old mid goes within.0 looking.0 keeps lasts f calm)

pub stays_calm : {D : Type 0} (seen : D → List ℕ) (failures : D → ℕ) (armed : DiskId → ℕ → MasterPlace D → MasterPlace D) → StaysCalm seen failures armed
stays_calm seen failures armed d client number steps old new runs within looking keeps lasts f calm = run_calm seen failures d client number armed steps old new runs within looking keeps lasts f calm

-- ---- a commit

module _ (config : Config) (s : State) (req : ReqId) (moment : Moment) (answer : Answer) where
  abbrev Leaves : Turn → Type 0
  Leaves t = OneSays req (Ok answer) t.sent → Calm t.after

  refused_leaves : (refusal : Refusal) → Leaves (refused s req refusal)
  refused_leaves refusal says = no_answer req refusal answer says

  pick : (b : Bool) (t u : Turn) → Leaves t → Leaves u → Leaves (if b then t else u)
  pick true t u x y = x
  pick false t u x y = y

  room_leaves : (t : Turn) → Leaves t → Leaves (if_room s t (refused s req refusals.Full))
  room_leaves t leaves = pick (fits s.log t.records) t (refused s req refusals.Full) leaves (refused_leaves refusals.Full)

  unless_leaves : (refusal : Option Refusal) (t : Turn) → Leaves t → Leaves (unless refusal s req t)
  unless_leaves None t leaves = room_leaves t leaves
  unless_leaves (Some refusal) t leaves = refused_leaves refusal

  prepares_calm : (o : Option Refusal) → Leaves (called_unless config s req moment calls.PrepareCommit o)
  prepares_calm (Some refusal) = refused_leaves refusal
  prepares_calm None =
      unless_leaves (first_of (commit_tests s.durable.phase s.volatile.is_preparing (all_unquiet s) (is_last_epoch s.durable)))
      (turned s (accepted_plan s req (Prepare (s.durable.epoch + 1) moment.0 (chunk_count s) ∷ []) (changes.Prepare false ∷ []) (tell_all config (s.durable.epoch + 1) ends.Prepare) (s.durable.epoch + 1)))
      (λ says. changes_calm (answer_changes s req (answers.Epoch (s.durable.epoch + 1))) (changed s.volatile (changes.Prepare false)) (answer_none s req (answers.Epoch (s.durable.epoch + 1))) refl)

  module _ (calm : is_rolling s.durable.phase ≡ true → Calm s) where
    lacking_leaves : Calm s → (names : NamesView) (lacks : Option ℕ) → Leaves (commit_if s req names lacks)
    lacking_leaves so names (Some chunk) = refused_leaves (refusals.Unrestored chunk)
    lacking_leaves so names None =
        room_leaves (turned s (accepted_plan s req (RollbackCommit s.durable.epoch (answers_for (prepared_view s.durable) (told_of s) (fin.entries names.refs)) ∷ []) (changes.RolledBack ∷ []) [] s.durable.epoch))
        (λ says. changes_calm (answer_changes s req (answers.Epoch s.durable.epoch)) (changed s.volatile changes.RolledBack) (answer_none s req (answers.Epoch s.durable.epoch)) so)

    commit_leaves : Calm s → (names : Option NamesView) → Leaves (commit_on s req names)
    commit_leaves so None = refused_leaves refusals.BadLine
    commit_leaves so (Some names) = lacking_leaves so names (unrestored (prepared_view s.durable) (told_of s) (fin.entries names.refs))

    by_rolling : (b : Bool) → is_rolling s.durable.phase ≡ b → Leaves (if b then commit_on s req (all_undone s.durable.inverses s.durable.names) else refused s req refusals.NotUpgrading)
    by_rolling true is = commit_leaves (calm is) (all_undone s.durable.inverses s.durable.names)
    by_rolling false is = refused_leaves refusals.NotUpgrading

    rolls_calm : (o : Option Refusal) → Leaves (called_unless config s req moment calls.RollbackCommit o)
    rolls_calm (Some refusal) = refused_leaves refusal
    rolls_calm None = by_rolling (is_rolling s.durable.phase) refl

    commit_calm : (call : Call) → is_halt call ≡ true → OneSays req (Ok answer) (new_call config s req moment call).sent → Calm (new_call config s req moment call).after
    commit_calm calls.PrepareCommit is says = prepares_calm (refused_before s req calls.PrepareCommit) says
    commit_calm calls.RollbackCommit is says = rolls_calm (refused_before s req calls.RollbackCommit) says
    commit_calm call is says = absurd (false≢true is)

-- no prepare is begun while a rollback is
rolling_calm : (s : State) → IsFirm s → is_rolling s.durable.phase ≡ true → Calm s
rolling_calm s firm rolls = by_flag s.volatile.is_preparing refl
  where
    apart : (phase : Phase) → is_rolling phase ≡ true → is_ordinary phase ≡ true → ⊥
    apart phases.Ordinary a b = false≢true a
    apart phases.Upgrade a b = false≢true a
    apart phases.Rolling a b = false≢true b

    by_flag : (b : Bool) → s.volatile.is_preparing ≡ b → Calm s
    by_flag false is = is
    by_flag true is = absurd (apart s.durable.phase rolls (firm.stands.preparing is).0)

module _ {D : Type 0} (seen : D → List ℕ) (failures : D → ℕ) (armed : DiskId → ℕ → MasterPlace D → MasterPlace D) where
  pub commits_are_calm : CommitsAreCalm seen failures armed
  commits_are_calm now next event said h req call answer halt lasts a =
      let there = made_there seen failures armed now event said next h req call answer a in subst IsCalmAt (sym there.stands) (subst IsCalm (sym there.is) (by_fault (is_failed a.master.state.fault) refl there.says))
    where
      before : is_failed a.master.state.fault ≡ true → refused_before a.master.state req call ≡ Some refusals.Device
      before is = ap (λ b. first_of (ordered b (is_rolling a.master.state.durable.phase) a.master.state.volatile.is_preparing (is_locked a.master.state req call) call)) is

      by_fault : (b : Bool) → is_failed a.master.state.fault ≡ b → OneSays req (Ok answer) (new_call a.master.config a.master.state req event.moment call).sent → IsCalm (new_call a.master.config a.master.state req event.moment call).after
      by_fault true failed says = no_answer req refusals.Device answer (subst (λ o. OneSays req (Ok answer) (called_unless a.master.config a.master.state req event.moment call o).sent) (before failed) says)
      by_fault false sound says = (let steady = steady_there seen now.nodes.master a.master a.stands sound lasts in inr (commit_calm a.master.config a.master.state req event.moment answer (rolling_calm a.master.state steady.firm) call halt says))
