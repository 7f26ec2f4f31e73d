-- Of each event, with its checkpoint if it writes one: who is concerned.
use Rattle.std.proofs.Common.{◌≡◌, ◌⊎◌, inl, inr, ◌∙◌, ◌||◌, ◌++◌, Bool, true, false, List, [], ◌∷◌, map, refl, ap}
use Rattle.std.specs.Prelude.{Option, Some, None}
use Rattle.std.specs.FinMap as fin
use Rattle.std.proofs.Common.{◌<◌, ◌≤◌, ℕ, append-nil, arith, length, subst, suc, sym, zero}
use Rattle.std.proofs.lemmas.List.{length-append, take-append-le}
use Rattle.std.specs.Prelude.{fold, take}
use Rattle.gs_master_spec.specs.Outcomes.{cut}
use Rattle.gs_master_spec.specs.State.{with_record}
use Rattle.gs_laws_moves.proofs.lemmas.answers.Plans.{AreEntries, EntryBy, records_of, records_done, entries_rest, volatile_still}
use Rattle.std.specs.List.{AllByRecursion}
use Rattle.gs_base.specs.declared.numbers.ReqId.{ReqId}
use Rattle.gs_base.specs.declared.refusal.Refusal.{Refusal}
use Rattle.gs_base.specs.declared.refusal.Refusal.TheVariants as refusals
use Rattle.gs_lock.specs.Operations.{same_op}
use Rattle.gs_master_record.specs.Plain.{Edited, Finalize, Holder, PlainEntry, PlainReply, Prepare, Propose, RollbackBegin, RollbackCommit, Said, Settle, Whole}
use Rattle.gs_master_spec.specs.Handling.{checkpoint, checkpoint_body, checkpoint_tests, due, granted, handle, pressed, proposals, tick, written, written_if_due, written_unless}
use Rattle.gs_master_spec.specs.Outcomes.{caller_of}
use Rattle.gs_master_spec.specs.State.{State, Turn, and_then, first_of, for_each, is_failed, met_by, unmoved}
use Rattle.gs_master_spec.specs.Volatile.{is_pending, Volatile}
use Rattle.gs_master_spec.specs.Whole.{checkpoint_of, reply_of}
use Rattle.gs_master_spec.specs.declared.pending.Pending.{Pending}
use Rattle.gs_laws_moves.specs.answers.Concerned.{AnswersOnly, CheckpointsAnswerNobody, IsConcerned, Keeps, KeepsOn, MessagesAnswerConcerned, StepsAnswerConcerned, TellsOf, TicksAnswerConcerned, is_still, tells_nobody, StaysAtRest}
use Rattle.gs_laws_moves.proofs.lemmas.answers.Answering.{message_so, pick, steps_so}
use Rattle.gs_laws_moves.proofs.lemmas.answers.Entries.{entries_kept}
use Rattle.gs_laws_moves.proofs.lemmas.answers.Kept.{AllIn, AreRecords, itself, keeps_on, on_still, one_of, Nobody, rest}
use Rattle.gs_laws_moves.proofs.lemmas.answers.Plans.{TurnSo, Waiting_so, both_so}

-- ---- who waits is concerned

pending_one : (ps : List Pending) (p : Pending) → is_pending (p ∷ ps) p.req ≡ true
pending_one ps p = ap (λ b. b || is_pending ps p.req) (itself p.req)

pending_more : (p : Pending) (ps : List Pending) (req : ReqId) → is_pending ps req ≡ true → is_pending (p ∷ ps) req ≡ true
pending_more p ps req there = ap (λ b. same_op req p.req || b) there ∙ either (same_op req p.req)
  where
    either : (b : Bool) → (b || true) ≡ true
    either true = refl
    either false = refl

waiting_all : (Q : ReqId → Type 0) (ps : List Pending) → ((req : ReqId) → is_pending ps req ≡ true → Q req) → AllIn Q ps
waiting_all Q [] each = tt
waiting_all Q (p ∷ ps) each = (each p.req (pending_one ps p), waiting_all Q ps (λ req there. each req (pending_more p ps req there)))

concerned : (s : State) (caller : Option ReqId) → Waiting_so (IsConcerned s caller) s
concerned s caller = waiting_all (IsConcerned s caller) s.volatile.pending (λ req there. inr there)

-- ---- a turn without a checkpoint

tells_either : (P Q : ReqId → Type 0) (entry : PlainEntry) → AreRecords P (entry ∷ []) → TellsOf (λ req. Q req ⊎ P req) entry
tells_either P Q (Edited by edit) is = by_first is.0
  where
    by_first : ((tells_nobody edit ≡ true) ⊎ P by) → (tells_nobody edit ≡ true) ⊎ (Q by ⊎ P by)
    by_first (inl none) = inl none
    by_first (inr is) = inr (inr is)
tells_either P Q (Said to refusal) is = inr is.0
tells_either P Q (Whole c) is = absurd is.0
tells_either P Q (Propose chunk version) is = tt
tells_either P Q (Settle v) is = tt
tells_either P Q (Holder chunk server) is = tt
tells_either P Q (Prepare epoch moment many) is = tt
tells_either P Q (Finalize epoch) is = tt
tells_either P Q (RollbackBegin epoch) is = tt
tells_either P Q (RollbackCommit epoch told) is = tt

tell_either : (P Q : ReqId → Type 0) (entries : List PlainEntry) → AreRecords P entries → AllByRecursion (TellsOf (λ req. Q req ⊎ P req)) entries
tell_either P Q [] are = tt
tell_either P Q (entry ∷ entries) are = (tells_either P Q entry (are.0, tt), tell_either P Q entries are.1)

some_entries : (P : ReqId → Type 0) (place : ℕ) (entries : List PlainEntry) → AreEntries P entries → AreEntries P (take place entries)
some_entries P zero entries are = tt
some_entries P (suc place) [] are = tt
some_entries P (suc place) (entry ∷ entries) are = (are.0, some_entries P place entries are.1)

-- a disk fails at one of some records, where there is nobody
some_rest : (P : ReqId → Type 0) (s : State) (place : ℕ) (entries : List PlainEntry) → Nobody P → AreEntries P entries → StaysAtRest s (fold with_record s (take place entries))
some_rest P s place entries none are = (entries_rest P (take place entries) s none (some_entries P place entries are), ap (λ (v : Volatile). v.replies) (volatile_still (take place entries) s))

some_records : (P : ReqId → Type 0) (place : ℕ) (entries : List PlainEntry) → AreRecords P entries → AreRecords P (take place entries)
some_records P zero entries are = tt
some_records P (suc place) [] are = tt
some_records P (suc place) (entry ∷ entries) are = (are.0, some_records P place entries are.1)

entry_still : (P : ReqId → Type 0) → ((req : ReqId) → P req → ⊥) → (entry : PlainEntry) → EntryBy P entry → is_still entry ≡ true
entry_still P none (Edited by edit) (inl own) = absurd (none own.1.0 own.1.1)
entry_still P none (Edited by edit) (inr is) = absurd (none by is)
entry_still P none (Said to refusal) is = absurd (none to is)
entry_still P none (Prepare epoch moment chunks) is = absurd (none is.0 is.1)
entry_still P none (Finalize epoch) is = absurd (none is.0 is.1)
entry_still P none (RollbackBegin epoch) is = absurd (none is.0 is.1)
entry_still P none (RollbackCommit epoch told) is = absurd (none is.0 is.1)
entry_still P none (Whole c) is = refl
entry_still P none (Propose chunk version) is = refl
entry_still P none (Settle v) is = refl
entry_still P none (Holder chunk server) is = refl

all_still : (P : ReqId → Type 0) → ((req : ReqId) → P req → ⊥) → (entries : List PlainEntry) → AreEntries P entries → AllByRecursion (λ entry. is_still entry ≡ true) entries
all_still P none [] are = tt
all_still P none (entry ∷ entries) are = (entry_still P none entry are.0, all_still P none entries are.1)

pub only_so : (P : ReqId → Type 0) (s : State) (t : Turn) → TurnSo P s t → AnswersOnly P s t
only_so P s t so = record {
  sent = so.sent;
  records = tell_either P (Keeps s.durable.replies) t.records (records_of P t.records so.records);
  durable = so.durable;
  memory = so.memory;
  waits = λ req there. one_of P t.after.volatile.pending req so.waits there;
  still = λ none. all_still P none t.records so.records;
  rests = so.rests;
  cut_rests = λ none place within. some_rest P s place t.records none so.records;
  cuts = λ place within. records_done P (take place t.records) s (some_records P place t.records (records_of P t.records so.records));
}

-- ---- a checkpoint

-- It answers nobody, and leaves what is kept.
all_either : (P : ReqId → Type 0) (s u : State) → KeepsOn P s.durable.replies u.durable.replies → (replies : List PlainReply) → AllByRecursion (λ (r : PlainReply). Keeps u.durable.replies r.to) replies
    → AllByRecursion (λ (r : PlainReply). Keeps s.durable.replies r.to ⊎ P r.to) replies
all_either P s u on [] all = tt
all_either P s u on (r ∷ replies) all = (keeps_on P s.durable.replies u.durable.replies on r.to all.0, all_either P s u on replies all.1)

checkpoint_told : (P : ReqId → Type 0) (s u : State) → KeepsOn P s.durable.replies u.durable.replies → TellsOf (λ req. Keeps s.durable.replies req ⊎ P req) (Whole (checkpoint_of u.durable))
unfolding checkpoint_of
checkpoint_told P s u on = all_either P s u on (map reply_of (fin.entries u.durable.replies)) (entries_kept u.durable.replies)

both_tell : {A : Type 0} (S : A → Type 0) (xs : List A) (x : A) → AllByRecursion S xs → S x → AllByRecursion S (xs ++ x ∷ [])
both_tell S xs x all one = both_so S xs (x ∷ []) all (one, tt)

none_more : {A : Type 0} (S : A → Type 0) (xs : List A) → AllByRecursion S xs → AllByRecursion S (xs ++ [])
none_more S xs all = both_so S xs [] all tt

before_last : {A : Type 0} (place : ℕ) (xs : List A) (x : A) → place < length (xs ++ x ∷ []) → place ≤ length xs
before_last place xs x within = (let long = length-append xs (x ∷ []) in omega arith)

-- behind a turn a checkpoint is written, or isn't
module _ (P : ReqId → Type 0) (s : State) (t : Turn) (so : TurnSo P s t) where
  only : AnswersOnly P s t
  only = only_so P s t so

  with_none : (said : Option Refusal) → AnswersOnly P s (and_then t (λ u. record { after = u; records = []; sent = []; said = said }))
  with_none said = record {
    sent = none_more _ t.sent only.sent;
    records = none_more _ t.records only.records;
    durable = only.durable;
    memory = only.memory;
    waits = only.waits;
    still = λ none. none_more _ t.records (only.still none);
    rests = only.rests;
    cut_rests = λ none place within. subst (λ (es : List PlainEntry). StaysAtRest s (fold with_record s (take place es))) (sym (append-nil t.records)) (some_rest P s place t.records none so.records);
    cuts = λ place within.
        subst (λ (es : List PlainEntry). KeepsOn P s.durable.replies (cut s es place).durable.replies) (sym (append-nil t.records)) (only.cuts place (subst (λ (es : List PlainEntry). place < length es) (append-nil t.records) within));
  }

  with_one : (said : Option Refusal) → AnswersOnly P s (and_then t (λ u. record (written u) { said = said }))
  with_one said = record {
    sent = none_more _ t.sent only.sent;
    records = both_tell _ t.records (Whole (checkpoint_of t.after.durable)) only.records (checkpoint_told P s t.after only.durable);
    durable = only.durable;
    memory = only.memory;
    waits = only.waits;
    still = λ none. both_tell _ t.records (Whole (checkpoint_of t.after.durable)) (only.still none) refl;
    rests = λ none. (record { names = (only.rests none).0.names; hidden = (only.rests none).0.hidden; phase = (only.rests none).0.phase; epoch = (only.rests none).0.epoch; replies = (only.rests none).0.replies }, (only.rests none).1);
    cut_rests = λ none place within.
        subst (λ (es : List PlainEntry). StaysAtRest s (fold with_record s es)) (sym (take-append-le place t.records (Whole (checkpoint_of t.after.durable) ∷ []) (before_last place t.records (Whole (checkpoint_of t.after.durable)) within)))
        (some_rest P s place t.records none so.records);
    cuts = λ place within.
        subst (λ (es : List PlainEntry). KeepsOn P s.durable.replies (fold with_record s es).durable.replies) (sym (take-append-le place t.records (Whole (checkpoint_of t.after.durable) ∷ []) (before_last place t.records (Whole (checkpoint_of t.after.durable)) within)))
        (records_done P (take place t.records) s (some_records P place t.records (records_of P t.records so.records)));
  }

nobody : (s : State) → TurnSo (IsConcerned s None) s (unmoved s)
nobody s = record {
  sent = tt;
  records = tt;
  durable = on_still (IsConcerned s None) s.durable.replies s.durable.replies refl;
  memory = on_still (IsConcerned s None) s.volatile.replies s.volatile.replies refl;
  waits = concerned s None;
  rests = λ none. (rest s.durable, refl);
}

pub messages_concerned : MessagesAnswerConcerned
messages_concerned config s message moment =
    only_so (IsConcerned s (caller_of message.body)) s (handle config s message moment) (message_so (IsConcerned s (caller_of message.body)) config s message moment (λ req is. inl is) (concerned s (caller_of message.body)))

pub steps_concerned : StepsAnswerConcerned
steps_concerned s moment = only_so (IsConcerned s None) s (and_then (for_each s (proposals s) (pressed moment)) granted) (steps_so (IsConcerned s None) s moment (concerned s None))

-- a checkpoint behind a turn, or why there is none
renewed_so : (P : ReqId → Type 0) (s : State) (t : Turn) → TurnSo P s t → (refusal : Option Refusal) → AnswersOnly P s (and_then t (λ u. record (written_unless u refusal) { said = None }))
renewed_so P s t so None = with_one P s t so None
renewed_so P s t so (Some refusal) = with_none P s t so None

due_so : (P : ReqId → Type 0) (s : State) (t : Turn) → TurnSo P s t → AnswersOnly P s (and_then t written_if_due)
unfolding checkpoint
due_so P s t so =
    pick (λ u. AnswersOnly P s (and_then t (λ x. u))) (due t.after) (record (checkpoint t.after) { said = None }) (unmoved t.after)
    (renewed_so P s t so (first_of (checkpoint_tests (is_failed t.after.fault) t.after.volatile.is_preparing t.after.log (checkpoint_body t.after.durable)))) (with_none P s t so None)

pub ticks_concerned : TicksAnswerConcerned
unfolding tick
ticks_concerned s moment =
    let steps = and_then (for_each s (proposals s) (pressed moment)) granted in
    pick (AnswersOnly (IsConcerned s None) s) (is_failed s.fault) (met_by s refusals.Device) (and_then steps written_if_due) (with_none (IsConcerned s None) s (unmoved s) (nobody s) (Some refusals.Device))
    (due_so (IsConcerned s None) s steps (steps_so (IsConcerned s None) s moment (concerned s None)))

checkpoint_so : (s : State) (refusal : Option Refusal) → AnswersOnly (IsConcerned s None) s (written_unless s refusal)
checkpoint_so s None = with_one (IsConcerned s None) s (unmoved s) (nobody s) None
checkpoint_so s (Some refusal) = with_none (IsConcerned s None) s (unmoved s) (nobody s) (Some refusal)

pub checkpoints_concerned : CheckpointsAnswerNobody
unfolding checkpoint
checkpoints_concerned s = checkpoint_so s (first_of (checkpoint_tests (is_failed s.fault) s.volatile.is_preparing s.log (checkpoint_body s.durable)))
