-- Records that are entered one after the other.
use Rattle.std.proofs.Common.{◌≡◌, ◌≤◌, ◌<◌, inl, inr, ◌∙◌, ◌+◌, ◌||◌, Bool, true, false, List, [], ◌∷◌, ◌++◌, refl, ap, subst, sym, arith, append_assoc, append-nil}
use Rattle.std.proofs.lemmas.List.Sums.{sum_by-cons}
use Rattle.std.proofs.lemmas.Bool.{false≢true, leb-true, le-leb, leb-false, lt-leb}
use Rattle.std.specs.Prelude.{map, fold, option_and_then, unwrap_or, is_some, Option, Some, None, Result, Ok, Err}
use Rattle.std.specs.List.{list_any}
use Rattle.gs_base.specs.declared.refusal.Refusal.{Refusal}
use Rattle.gs_master_record.specs.Plain.{PlainEntry, plain}
use Rattle.gs_master_spec.specs.Applied.{applied, replayed}
use Rattle.gs_master_spec.specs.Durable.{Durable}
use Rattle.gs_master.specs.inner.Events.{IsEntered, KeepsBack, IsUnfit, WhyNot, log_behind}
use Rattle.gs_master_state.specs.inner.Plans.{fault_of, log_of}
use Rattle.gs_master_state.specs.inner.Recorded.{durable_of}
use Rattle.gs_master_spec.specs.State.{State, Plan, Log, first_said, turned, fits, size_of, size_of_all, with_record}
use Rattle.gs_master_state.specs.inner.TakingBack.{RoomForAll, comes_alone}
use Rattle.gs_master.specs.inner.Turns.{AreEntered, AreUnfit, EntersAll, GoesBack, HaveRoom, IsTurned, IsUnderWay, state_at, WhyNotAll}
use Rattle.gs_master_spec.specs.Volatile.{all_changed}
use Rattle.gs_msg.specs.declared.message.Message.{Message}
use Rattle.gs_master.specs.declared.event.Event.{Event}

-- ---- room

fits_so : (log : Log) (records : List PlainEntry) → log.size + size_of_all records ≤ log.limit → fits log records ≡ true
fits_so log records within = le-leb _ _ within

so_fits : (log : Log) (records : List PlainEntry) → fits log records ≡ true → log.size + size_of_all records ≤ log.limit
so_fits log records fit = leb-true _ _ fit

fits_not : (log : Log) (records : List PlainEntry) → log.limit < log.size + size_of_all records → fits log records ≡ false
fits_not log records above = lt-leb _ _ above

not_fits : (log : Log) (records : List PlainEntry) → fits log records ≡ false → log.limit < log.size + size_of_all records
not_fits log records none = leb-false _ _ none

no_room_for_one : (log : Log) (x : PlainEntry) (xs : List PlainEntry) → fits log (x ∷ []) ≡ false → fits log (x ∷ xs) ≡ false
no_room_for_one log x xs none = let above = not_fits log (x ∷ []) none in fits_not log (x ∷ xs) (omega (arith, sum_by-cons size_of x [], sum_by-cons size_of x xs))

-- the first has its room, and so have the others behind it
module _ (log next : Log) (x : PlainEntry) (xs : List PlainEntry) (behind : next ≡ log_behind log x) where
  size : next.size ≡ log.size + size_of x
  size = ap (λ (l : Log). l.size) behind

  limit : next.limit ≡ log.limit
  limit = ap (λ (l : Log). l.limit) behind

  pub no_room_behind : fits next xs ≡ false → fits log (x ∷ xs) ≡ false
  no_room_behind none = let above = not_fits next xs none in fits_not log (x ∷ xs) (omega (arith, size, limit, sum_by-cons size_of x xs))

  pub room_behind : fits next xs ≡ true → fits log (x ∷ xs) ≡ true
  room_behind fit = let within = so_fits next xs fit in fits_so log (x ∷ xs) (omega (arith, size, limit, sum_by-cons size_of x xs))

-- ---- one record, and the others behind it

applied_first : (d : Durable) (x : PlainEntry) (xs : List PlainEntry) (next : Durable) → applied d x ≡ Some next → replayed d (x ∷ xs) ≡ replayed next xs
applied_first d x xs next is = ap (option_and_then (λ d. replayed d xs)) is

pub enters_none : (e : Event) → AreEntered [] e e
enters_none e = record { replays = refl; are_entries = tt; room = inl refl; entries = sym (append-nil _); log = refl }

have_room : (xs : List PlainEntry) (x : PlainEntry) (old mid : Event) → IsEntered x old mid → HaveRoom xs mid → HaveRoom (x ∷ xs) old
have_room xs x old mid one (inl none) = inr (subst (λ more. fits (log_of old.log) (x ∷ more) ≡ true) (sym none) one.room)
have_room xs x old mid one (inr fit) = inr (room_behind (log_of old.log) (log_of mid.log) x xs one.log fit)

pub enters_one : (x : PlainEntry) (xs : List PlainEntry) (old mid new : Event) → IsEntered x old mid → AreEntered xs mid new → AreEntered (x ∷ xs) old new
enters_one x xs old mid new one more = record {
  replays = applied_first _ x xs _ one.applied ∙ more.replays;
  are_entries = (one.is_entry, more.are_entries);
  room = have_room xs x old mid one more.room;
  entries = more.entries ∙ ap (λ before. before ++ xs) one.entries ∙ append_assoc (map plain old.entries.items) (x ∷ []) xs;
  log = more.log ∙ ap (λ log. fold log_behind log xs) one.log;
}

unfit_first : (x : PlainEntry) (xs : List PlainEntry) (old : Event) → IsUnfit x old → AreUnfit (x ∷ xs) (durable_of old.recorded)
unfit_first x xs old (inl none) = inl (ap (option_and_then (λ d. replayed d xs)) none)
unfit_first x xs old (inr not_one) = inr (λ all. not_one all.0)

unfit_behind : (x : PlainEntry) (xs : List PlainEntry) (old mid : Event) → IsEntered x old mid → AreUnfit xs (durable_of mid.recorded) → AreUnfit (x ∷ xs) (durable_of old.recorded)
unfit_behind x xs old mid one (inl none) = inl (applied_first _ x xs _ one.applied ∙ none)
unfit_behind x xs old mid one (inr not_all) = inr (λ all. not_all all.1)

pub why_not_first : (x : PlainEntry) (xs : List PlainEntry) (old : Event) (e : Refusal) → WhyNot x old e → WhyNotAll (x ∷ xs) old e
why_not_first x xs old e (inl memory) = inl memory
why_not_first x xs old e (inr (inl (full, none))) = inr (inl (full, no_room_for_one (log_of old.log) x xs none))
why_not_first x xs old e (inr (inr (bad, unfit))) = inr (inr (bad, unfit_first x xs old unfit))

pub why_not_behind : (x : PlainEntry) (xs : List PlainEntry) (old mid : Event) (e : Refusal) → IsEntered x old mid → WhyNotAll xs mid e → WhyNotAll (x ∷ xs) old e
why_not_behind x xs old mid e one (inl memory) = inl memory
why_not_behind x xs old mid e one (inr (inl (full, none))) = inr (inl (full, no_room_behind (log_of old.log) (log_of mid.log) x xs one.log none))
why_not_behind x xs old mid e one (inr (inr (bad, unfit))) = inr (inr (bad, unfit_behind x xs old mid one unfit))

pub enters_behind : (x : PlainEntry) (xs : List PlainEntry) (old mid new : Event) (result : Result (Unit {0}) Refusal) → IsEntered x old mid → EntersAll xs mid result new → EntersAll (x ∷ xs) old result new
enters_behind x xs old mid new (Ok done) one more = enters_one x xs old mid new one more
enters_behind x xs old mid new (Err e) one why = why_not_behind x xs old mid e one why

-- ---- what goes back

pub goes_back_on : (old mid new : Event) → GoesBack old mid → GoesBack mid new → GoesBack old new
goes_back_on old mid new first second = record {
  keeps = record {
    back = λ before back. second.keeps.back before (first.keeps.back before back);
    leases = second.keeps.leases ∙ first.keeps.leases;
    memory = second.keeps.memory ∙ first.keeps.memory;
    from = λ before log has. second.keeps.from before log (first.keeps.from before log has);
  };
  ready = second.ready;
  fault = second.fault ∙ first.fault;
  sent = (first.sent.0 ++ second.sent.0, second.sent.1 ∙ ap (λ sent. sent ++ second.sent.0) first.sent.1 ∙ append_assoc old.sent.items first.sent.0 second.sent.0);
}

pub goes_back_here : (e : Event) → IsUnderWay e → GoesBack e e
goes_back_here e ready = record {
  keeps = record { back = λ before back. back; leases = refl; memory = refl; from = λ before log has. has };
  ready = ready;
  fault = refl;
  sent = ([], sym (append-nil _));
}

-- a step that sends nothing
pub stepped_back : (old new : Event) → KeepsBack old new → RoomForAll new.recorded new.undos.items → new.log.records ≤ new.log.size → new.fault ≡ old.fault → new.sent ≡ old.sent → GoesBack old new
stepped_back old new keeps room counted fault sent = record {
  keeps = keeps;
  ready = record { room = room; counted = counted };
  fault = fault;
  sent = ([], ap (λ sent. sent.items) sent ∙ sym (append-nil _));
}

pub alone_first : (x : PlainEntry) (xs : List PlainEntry) → list_any comes_alone (x ∷ xs) ≡ false → (comes_alone x ≡ false) × (list_any comes_alone xs ≡ false)
alone_first x xs none = neither (comes_alone x) (list_any comes_alone xs) none
  where
    neither : (a b : Bool) → (a || b) ≡ false → (a ≡ false) × (b ≡ false)
    neither true b h = absurd (false≢true (sym h))
    neither false b h = (refl, h)

-- ---- what records make of the state

recorded_first : (s : State) (x : PlainEntry) (xs : List PlainEntry) (d : Durable)
    → ((s : State) → replayed s.durable xs ≡ Some d → fold with_record s xs ≡ record s { durable = d; log = fold log_behind s.log xs })
    → (o : Option Durable) → applied s.durable x ≡ o → option_and_then (λ next. replayed next xs) o ≡ Some d
    → fold with_record (with_record s x) xs ≡ record s { durable = d; log = fold log_behind (log_behind s.log x) xs }
recorded_first s x xs d more None none is = absurd (false≢true (ap is_some is))
recorded_first s x xs d more (Some next) some is =
    ap (λ o. fold with_record (record s { durable = unwrap_or o s.durable; log = log_behind s.log x }) xs) some
    ∙ more (record s { durable = next; log = log_behind s.log x }) is

pub recorded_as : (s : State) (records : List PlainEntry) (d : Durable) → replayed s.durable records ≡ Some d →
    fold with_record s records ≡ record s { durable = d; log = fold log_behind s.log records }
recorded_as s [] d is = ap (λ o. record s { durable = unwrap_or o s.durable }) is
recorded_as s (x ∷ xs) d is = recorded_first s x xs d (λ s is. recorded_as s xs d is) (applied s.durable x) refl is

-- ---- a plan that is carried out

module _ (old entered changed sent new : Event) (p : Plan) (done : AreEntered p.records old entered) (memory : entered.memory ≡ old.memory) (unsent : entered.sent ≡ old.sent)
    (unsaid : entered.said ≡ old.said) (sound : entered.fault ≡ old.fault) (in_memory : changed ≡ record entered { memory = changed.memory })
    (now : changed.memory.now ≡ all_changed entered.memory.now p.changes) (to_send : sent ≡ record changed { sent = sent.sent })
    (messages : sent.sent.items ≡ changed.sent.items ++ p.sent) (told : new ≡ record sent { said = first_said sent.said p.said }) where
  recorded_is : new.recorded ≡ entered.recorded
  recorded_is = ap (λ (e : Event). e.recorded) told ∙ ap (λ (e : Event). e.recorded) to_send ∙ ap (λ (e : Event). e.recorded) in_memory

  log_is : new.log ≡ entered.log
  log_is = ap (λ (e : Event). e.log) told ∙ ap (λ (e : Event). e.log) to_send ∙ ap (λ (e : Event). e.log) in_memory

  fault_is : new.fault ≡ old.fault
  fault_is = ap (λ (e : Event). e.fault) told ∙ ap (λ (e : Event). e.fault) to_send ∙ ap (λ (e : Event). e.fault) in_memory ∙ sound

  entries_is : new.entries ≡ entered.entries
  entries_is = ap (λ (e : Event). e.entries) told ∙ ap (λ (e : Event). e.entries) to_send ∙ ap (λ (e : Event). e.entries) in_memory

  volatile_is : new.memory.now ≡ all_changed old.memory.now p.changes
  volatile_is = ap (λ (e : Event). e.memory.now) told ∙ ap (λ (e : Event). e.memory.now) to_send ∙ now ∙ ap (λ m. all_changed m.now p.changes) memory

  sent_is : new.sent.items ≡ old.sent.items ++ p.sent
  sent_is = ap (λ (e : Event). e.sent.items) told ∙ messages ∙ ap (λ (e : Event). e.sent.items ++ p.sent) in_memory ∙ ap (λ sent. sent.items ++ p.sent) unsent

  said_is : new.said ≡ first_said old.said p.said
  said_is = ap (λ (e : Event). e.said) told ∙ ap (λ (e : Event). first_said e.said p.said) to_send ∙ ap (λ (e : Event). first_said e.said p.said) in_memory ∙ ap (λ said. first_said said p.said) unsaid

  after_is : state_at new ≡ record (record (state_at old) { durable = durable_of entered.recorded; log = fold log_behind (log_of old.log) p.records }) { volatile = all_changed old.memory.now p.changes }
  after_is = λ i. record { durable = durable_of (recorded_is i); volatile = volatile_is i; log = (ap log_of log_is ∙ done.log) i; fault = fault_of (fault_is i) }

  pub carried : IsTurned (turned (state_at old) p) old new
  carried = record {
    after = after_is ∙ sym (ap (λ (s : State). record s { volatile = all_changed old.memory.now p.changes }) (recorded_as (state_at old) p.records (durable_of entered.recorded) done.replays));
    replays = done.replays ∙ ap (λ r. Some (durable_of r)) (sym recorded_is);
    are_entries = done.are_entries;
    log = ap log_of log_is ∙ done.log;
    room = done.room;
    entries = ap (λ es. map plain es.items) entries_is ∙ done.entries;
    sent = sent_is;
    said = said_is;
  }

-- what is sent and said behind the others goes back too
pub goes_back_told : (old here new : Event) → GoesBack old here → new ≡ record here { sent = new.sent; said = new.said } → (more : List Message) → new.sent.items ≡ here.sent.items ++ more → GoesBack old new
goes_back_told old here new goes told more messages = goes_back_on old here new goes (subst (GoesBack here) (sym told) (record {
  keeps = record { back = λ before back. back; leases = refl; memory = refl; from = λ before log has. record { leads = has.leads; written = has.written; log = has.log; room = has.room } };
  ready = record { room = goes.ready.room; counted = goes.ready.counted };
  fault = refl;
  sent = (more, messages);
}))

pub goes_back_sent : (old here new : Event) → GoesBack old here → new ≡ record here { sent = new.sent } → (more : List Message) → new.sent.items ≡ here.sent.items ++ more → GoesBack old new
goes_back_sent old here new goes to_send more messages =
    goes_back_told old here new goes (to_send ∙ ap (λ said. record here { sent = new.sent; said = said }) (sym (ap (λ (e : Event). e.said) to_send))) more messages

pub goes_back_said : (old here new : Event) (said : Option Refusal) → GoesBack old here → new ≡ record here { said = said } → GoesBack old new
goes_back_said old here new said goes told =
    goes_back_told old here new goes (told ∙ (λ i. record here { sent = sym (ap (λ (e : Event). e.sent) told) i; said = sym (ap (λ (e : Event). e.said) told) i })) []
    (ap (λ (e : Event). e.sent.items) told ∙ sym (append-nil _))
