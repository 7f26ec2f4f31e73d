-- An edit that is made at once: the turn is that of an edit that is judged before.
use Rattle.std.proofs.Common.{◌≡◌, ℕ, inl, inr, ◌∙◌, ◌++◌, ◌∷◌, List, [], append-nil, true, false, map, refl, ap, subst, sym}
use Rattle.std.specs.Prelude.{None, Some, Result, Ok, Err, fold, is_some, if◌then◌else◌}
use Rattle.std.proofs.lemmas.Bool.{false≢true}
use Rattle.gs_base.specs.declared.numbers.ReqId.{ReqId}
use Rattle.gs_base.specs.declared.refusal.Refusal.{Refusal}
use Rattle.gs_base.specs.declared.refusal.Refusal.TheVariants as refusals
use Rattle.gs_edit.specs.View.{NamesView}
use Rattle.gs_msg.specs.declared.answer.Answer.{Answer}
use Rattle.gs_path.specs.Path.{Path}
use Rattle.gs_master_record.specs.Plain.{Cow, Edited, PlainEdit, plain}
use Rattle.gs_master_spec.specs.Applied.{after_edit, applied, replayed}
use Rattle.gs_master_spec.specs.Calls.{accept_plan, edit_if, edited_by}
use Rattle.gs_master_spec.specs.Durable.{Durable}
use Rattle.gs_master_state.specs.inner.Plans.{fault_of, log_of}
use Rattle.gs_master_state.specs.inner.Recorded.{durable_of}
use Rattle.gs_master_spec.specs.Settling.{edit_plan, edit_turn, ended_by_edit, leased_next, own_request, replace_plan, replaced, replaced_if}
use Rattle.gs_master_spec.specs.State.{Plan, State, Turn, and_then, ended_by, first_said, fits, refused, reply_to, turned}
use Rattle.gs_master_spec.specs.Undoing.{edited_names}
use Rattle.gs_master_spec.specs.declared.change.Change.{Change}
use Rattle.gs_master.specs.inner.Events.{IsAsBefore, IsEntered, log_behind}
use Rattle.gs_master.specs.inner.Turns.{AreUnfit, HaveRoom, IsTurned, EventSteps, WhyNotAll, WhyNotTurned, state_at}
use Rattle.gs_master.specs.declared.event.Event.{Event}
use Rattle.gs_master.proofs.Composing.{said_as_before, steps_and, why_not_and}
use Rattle.gs_master.proofs.Entered.{carried, enters_behind, enters_none}

-- an edit whose record fits is one that the names take
names_take : (d next : Durable) (by : ReqId) (edit : PlainEdit) → applied d (Edited by edit) ≡ Some next → (names : NamesView) × (edited_names edit d.names ≡ Ok names)
unfolding applied
names_take d next by edit is = by_names (edited_names edit d.names) refl is
  where
    by_names : (r : Result NamesView Refusal) → edited_names edit d.names ≡ r → after_edit d by edit r ≡ Some next → (names : NamesView) × (edited_names edit d.names ≡ Ok names)
    by_names (Ok names) same fits = (names, same)
    by_names (Err e) same none = absurd (false≢true (ap is_some none))

taken_turn : (s : State) (next : Durable) (req : ReqId) (edit : PlainEdit) (answer : Answer) → applied s.durable (Edited req edit) ≡ Some next → fits s.log (Edited req edit ∷ []) ≡ true →
    edited_by s req edit answer ≡ turned s (accept_plan req edit answer)
taken_turn s next req edit answer is room =
    let names = names_take s.durable next req edit is in
    ap (edit_if s req edit answer) names.1 ∙ ap (λ has_room. if has_room then turned s (accept_plan req edit answer) else refused s req refusals.Full) room

-- what else of an event stays while a record is entered
pub record StaysBeside (old mid : Event) : Type 0 where
  pub memory : mid.memory ≡ old.memory
  pub sent : mid.sent ≡ old.sent
  pub said : mid.said ≡ old.said
  pub fault : mid.fault ≡ old.fault

-- its record is entered, and the reply stands behind what was to be sent
pub entered_steps : (old mid new : Event) (req : ReqId) (edit : PlainEdit) (answer : Answer) → IsEntered (Edited req edit) old mid → StaysBeside old mid → new ≡ record mid { sent = new.sent } →
    new.sent.items ≡ mid.sent.items ++ reply_to req (Ok answer) ∷ [] → IsTurned (edited_by (state_at old) req edit answer) old new
entered_steps old mid new req edit answer one beside to_send messages =
    subst (λ t. IsTurned t old new) (sym (taken_turn (state_at old) (durable_of mid.recorded) req edit answer one.applied one.room))
    (carried old mid mid new new (accept_plan req edit answer) (enters_behind (Edited req edit) [] old mid mid (Ok tt) one (enters_none mid)) beside.memory beside.sent beside.said beside.fault refl refl to_send messages
    (λ i. record new { said = said_as_before new.said i }))

-- ---- where nothing was done

still_room : (t : Turn) (old mid : Event) → mid.log ≡ old.log → HaveRoom t.records mid → HaveRoom t.records old
still_room t old mid log (inl none) = inl none
still_room t old mid log (inr fit) = inr (subst (λ l. fits (log_of l) t.records ≡ true) log fit)

still_why : (t : Turn) (old mid : Event) (e : Refusal) → IsAsBefore old mid → WhyNotAll t.records mid e → WhyNotAll t.records old e
still_why t old mid e same (inl memory) = inl memory
still_why t old mid e same (inr (inl (full, none))) = inr (inl (full, subst (λ l. fits (log_of l) t.records ≡ false) same.log none))
still_why t old mid e same (inr (inr (bad, unfit))) = inr (inr (bad, subst (AreUnfit t.records) same.durable unfit))

still_steps : (t : Turn) (old mid new : Event) (result : Result (Unit {0}) Refusal) → IsAsBefore old mid → StaysBeside old mid → EventSteps t mid result new → EventSteps t old result new
still_steps t old mid new (Err e) same beside why = still_why t old mid e same why
still_steps t old mid new (Ok done) same beside is = record {
  after = is.after;
  replays = subst (λ d. replayed d t.records ≡ Some (durable_of new.recorded)) same.durable is.replays;
  are_entries = is.are_entries;
  room = still_room t old mid same.log is.room;
  log = is.log ∙ ap (λ l. fold log_behind (log_of l) t.records) same.log;
  entries = is.entries ∙ ap (λ es. map plain es ++ t.records) same.entries;
  sent = is.sent ∙ ap (λ sent. sent.items ++ t.sent) beside.sent;
  said = is.said ∙ ap (λ said. first_said said t.said) beside.said;
}

-- from there on the whole turn is done
pub still_done : (t : State → Turn) (old mid new : Event) (result : Result (Unit {0}) Refusal) → IsAsBefore old mid → StaysBeside old mid → EventSteps (t (state_at mid)) mid result new → EventSteps (t (state_at old)) old result new
still_done t old mid new result same beside steps = still_steps (t (state_at old)) old mid new result same beside (subst (λ s. EventSteps (t s) mid result new) state steps)
  where
    state : state_at mid ≡ state_at old
    state = λ i. record { durable = same.durable i; volatile = (beside.memory i).now; log = log_of (same.log i); fault = fault_of (beside.fault i) }

pub judged_steps : (old mid new : Event) (result : Result (Unit {0}) Refusal) (req : ReqId) (edit : PlainEdit) (answer : Answer) → IsAsBefore old mid → StaysBeside old mid →
    EventSteps (edited_by (state_at mid) req edit answer) mid result new → EventSteps (edited_by (state_at old) req edit answer) old result new
judged_steps old mid new result req edit answer same beside steps = still_done (λ s. edited_by s req edit answer) old mid new result same beside steps

-- ---- the edit of a call that waited

-- the edit alone
abbrev edit_alone : ReqId → PlainEdit → Plan
edit_alone by edit = record { records = Edited by edit ∷ []; changes = []; sent = []; said = None }

entered_turns : (old mid : Event) (by : ReqId) (edit : PlainEdit) → IsEntered (Edited by edit) old mid → StaysBeside old mid → IsTurned (turned (state_at old) (edit_alone by edit)) old mid
entered_turns old mid by edit one beside =
    carried old mid mid mid mid (edit_alone by edit) (enters_behind (Edited by edit) [] old mid mid (Ok tt) one (enters_none mid)) beside.memory beside.sent beside.said beside.fault refl refl refl
    (sym (append-nil mid.sent.items)) (λ i. record mid { said = said_as_before mid.said i })

-- and what else is planned behind it
entered_then : (old mid new : Event) (result : Result (Unit {0}) Refusal) (by : ReqId) (edit : PlainEdit) (rest : Plan) → IsEntered (Edited by edit) old mid → StaysBeside old mid → EventSteps (turned (state_at mid) rest) mid result new →
    EventSteps (and_then (turned (state_at old) (edit_alone by edit)) (λ s. turned s rest)) old result new
entered_then old mid new result by edit rest one beside steps = steps_and (turned (state_at old) (edit_alone by edit)) (λ s. turned s rest) old mid new result (entered_turns old mid by edit one beside) steps

ended_turn : (s : State) (next : Durable) (req : ReqId) (edit : PlainEdit) (answer : Answer) (before : List Change) → applied s.durable (Edited req edit) ≡ Some next → fits s.log (Edited req edit ∷ []) ≡ true →
    ended_by_edit s req edit answer before ≡ turned s (edit_plan req edit answer before)
ended_turn s next req edit answer before is room =
    let names = names_take s.durable next req edit is in
    ap (edit_turn s req (edit_plan req edit answer before)) names.1 ∙ ap (λ has_room. if has_room then turned s (edit_plan req edit answer before) else ended_by s req refusals.Full) room

pub ended_steps : (old mid new : Event) (result : Result (Unit {0}) Refusal) (req : ReqId) (edit : PlainEdit) (answer : Answer) (before : List Change) (rest : Plan) → IsEntered (Edited req edit) old mid → StaysBeside old mid →
    rest ≡ record (edit_plan req edit answer before) { records = [] } → EventSteps (turned (state_at mid) rest) mid result new → EventSteps (ended_by_edit (state_at old) req edit answer before) old result new
ended_steps old mid new result req edit answer before rest one beside is steps =
    subst (λ t. EventSteps t old result new) (sym (ended_turn (state_at old) (durable_of mid.recorded) req edit answer before one.applied one.room))
    (entered_then old mid new result req edit (record (edit_plan req edit answer before) { records = [] }) one beside (subst (λ p. EventSteps (turned (state_at mid) p) mid result new) is steps))

-- the same where the copy of a chunk takes its place, and then a lease is asked for
replaced_turn : (s : State) (after : Durable) (req : ReqId) (path : Path) (index old new : ℕ) → applied s.durable (Edited own_request (Cow path index old new)) ≡ Some after →
    fits s.log (Edited own_request (Cow path index old new) ∷ []) ≡ true → replaced s req path index old new ≡ and_then (turned s (replace_plan path index old new)) (leased_next req path index new)
replaced_turn s after req path index old new is room =
    let names = names_take s.durable after own_request (Cow path index old new) is in
    ap (replaced_if s req path index old new) names.1
    ∙ ap (λ has_room. if has_room then and_then (turned s (replace_plan path index old new)) (leased_next req path index new) else ended_by s req refusals.Full) room

module _ (old mid : Event) (req : ReqId) (path : Path) (index before after : ℕ) (rest : Plan) (one : IsEntered (Edited own_request (Cow path index before after)) old mid) (beside : StaysBeside old mid)
    (is : rest ≡ record (replace_plan path index before after) { records = [] }) where
  -- the copy has its place
  pub placed_steps : (new : Event) (result : Result (Unit {0}) Refusal) → EventSteps (turned (state_at mid) rest) mid result new → EventSteps (turned (state_at old) (replace_plan path index before after)) old result new
  placed_steps new result steps =
      entered_then old mid new result own_request (Cow path index before after) (record (replace_plan path index before after) { records = [] }) one beside (subst (λ p. EventSteps (turned (state_at mid) p) mid result new) is steps)

  whole : replaced (state_at old) req path index before after ≡ and_then (turned (state_at old) (replace_plan path index before after)) (leased_next req path index after)
  whole = replaced_turn (state_at old) (durable_of mid.recorded) req path index before after one.applied one.room

  pub unplaced_why : (new : Event) (e : Refusal) → WhyNotTurned (turned (state_at mid) rest) mid e → WhyNotTurned (replaced (state_at old) req path index before after) old e
  unplaced_why new e why =
      subst (λ t. WhyNotTurned t old e) (sym whole) (why_not_and (turned (state_at old) (replace_plan path index before after)) (leased_next req path index after) old e (placed_steps new (Err e) why))

  pub replaced_steps : (placed new : Event) (result : Result (Unit {0}) Refusal) → IsTurned (turned (state_at mid) rest) mid placed → EventSteps (leased_next req path index after (state_at placed)) placed result new →
      EventSteps (replaced (state_at old) req path index before after) old result new
  replaced_steps placed new result turned_so steps =
      subst (λ t. EventSteps t old result new) (sym whole)
      (steps_and (turned (state_at old) (replace_plan path index before after)) (leased_next req path index after) old placed new result (placed_steps placed (Ok tt) turned_so) steps)
