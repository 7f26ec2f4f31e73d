-- What the plans of the master tell, keep and let wait, is of such requests.
use Rattle.gs_master_spec.specs.Applied.{applied}
use Rattle.std.proofs.Common.{◌⊎◌, ◌≡◌, inl, inr, ◌&&◌, ◌++◌, ℕ, Bool, true, false, not, List, [], ◌∷◌, map, refl}
use Rattle.std.specs.Prelude.{flat_map, fold, Option, Some, None, Result, Ok, Err, if◌then◌else◌, unwrap_or}
use Rattle.std.specs.FinMap as fin
use Rattle.std.specs.List.{AllByRecursion}
use Rattle.gs_base.specs.Members.{count_from, is_member}
use Rattle.gs_base.specs.declared.config.Config.{Config}
use Rattle.gs_base.specs.declared.epoch.EpochEnd.{EpochEnd}
use Rattle.gs_base.specs.declared.numbers.ReqId.{ReqId}
use Rattle.gs_base.specs.declared.numbers.Stamp.{Stamp}
use Rattle.gs_base.specs.declared.refusal.Refusal.{Refusal}
use Rattle.gs_path.specs.Path.{Path}
use Rattle.gs_lease.specs.declared.view.Purpose.{Purpose}
use Rattle.gs_lease.specs.declared.view.Term.{Term}
use Rattle.gs_lease.specs.declared.view.View.{View}
use Rattle.gs_msg.specs.declared.answer.Answer.{Answer}
use Rattle.gs_msg.specs.declared.answer.Answer.TheVariants as answers
use Rattle.gs_msg.specs.declared.body.Body.TheVariants as bodies
use Rattle.gs_msg.specs.declared.chunk.Chunk.TheVariants as chunks
use Rattle.gs_msg.specs.declared.message.Message.{Message}
use Rattle.gs_msg.specs.declared.node.NodeId.TheVariants as nodes
use Rattle.gs_master_record.specs.Plain.{Edited, Finalize, Holder, PlainEdit, PlainEntry, Prepare, Propose, RollbackBegin, RollbackCommit, Said, Settle, Whole}
use Rattle.gs_master_spec.specs.Beginning.{begin_at, copy_plan, create_plan, members_at, next_stamp, waits_from_now, waits_on}
use Rattle.gs_master_spec.specs.Calls.{accept_plan}
use Rattle.gs_master_spec.specs.Chunks.{chunk_at, holder_records, is_holder, settling, target_of}
use Rattle.gs_master_spec.specs.Durable.{prepared_view, Durable}
use Rattle.gs_master_spec.specs.Hearing.{ask_plan, send_plan}
use Rattle.gs_master_spec.specs.Replies.{is_later}
use Rattle.gs_master_spec.specs.Settling.{edit_plan, end_plan, grant_of, own_request, replace_plan, settle_plan}
use Rattle.gs_master_spec.specs.State.{Log, Plan, State, Turn, about, answer_changes, answered, end_changes, fits, keeps_refusal, kept_in_memory, last_reply, post, refusal_plan, reply_to, said_changes, said_records, to_each, turned, with_record}
use Rattle.gs_master_spec.specs.Upgrades.{accepted_plan, tell_all}
use Rattle.gs_master_spec.specs.Volatile.{is_call, let_go, let_go_of, without_call}
use Rattle.gs_master_spec.specs.Working.{begin_pending, scan_edits, scan_plan}
use Rattle.gs_master_spec.specs.declared.asking.Asking.{Asking}
use Rattle.gs_master_spec.specs.declared.change.Change.{Change}
use Rattle.gs_master_spec.specs.declared.change.Change.TheVariants as changes
use Rattle.gs_master_spec.specs.declared.pending.Waiting.{Waiting}
use Rattle.gs_laws_moves.specs.answers.Concerned.{KeepsOn, RepliesTo, tells_nobody, IsAtRest, StaysAtRest}
use Rattle.gs_laws_moves.proofs.lemmas.answers.Kept.{AllIn, AreChanges, AreRecords, RecordSo, changes_keep, changes_wait, done_so, on_still, on_then, Nobody, changes_rest, rest, rest_then, proposal_rests, settling_rests, holder_rests}

pub both_so : {A : Type 0} (S : A → Type 0) (xs ys : List A) → AllByRecursion S xs → AllByRecursion S ys → AllByRecursion S (xs ++ ys)
both_so S [] ys first second = second
both_so S (x ∷ xs) ys first second = (first.0, both_so S xs ys first.1 second)

-- what is recorded leaves what is kept in memory alone
pub volatile_still : (xs : List PlainEntry) (s : State) → (fold with_record s xs).volatile ≡ s.volatile
volatile_still [] s = refl
volatile_still (x ∷ xs) s = volatile_still xs (with_record s x)

module _ (P : ReqId → Type 0) where
  -- there is such a request
  abbrev pub Someone : Type 0
  Someone = (req : ReqId) × P req

  -- A record that edits names, or ends an epoch, is made for such a request, or for the master itself where there is one.
  abbrev pub EntryBy : PlainEntry → Type 0
  EntryBy (Edited by edit) = ((tells_nobody edit ≡ true) × Someone) ⊎ P by
  EntryBy (Said to refusal) = P to
  EntryBy (Prepare epoch moment chunks) = Someone
  EntryBy (Finalize epoch) = Someone
  EntryBy (RollbackBegin epoch) = Someone
  EntryBy (RollbackCommit epoch told) = Someone
  EntryBy (Whole c) = ⊥
  EntryBy entry = Unit {0}

  abbrev pub AreEntries : List PlainEntry → Type 0
  AreEntries entries = AllByRecursion EntryBy entries

  pub records_of : (entries : List PlainEntry) → AreEntries entries → AreRecords P entries
  records_of [] are = tt
  records_of (entry ∷ entries) are = (one entry are.0, records_of entries are.1)
    where
      one : (entry : PlainEntry) → EntryBy entry → RecordSo P entry
      one (Edited by edit) (inl own) = inl own.0
      one (Edited by edit) (inr is) = inr is
      one (Said to refusal) is = is
      one (Prepare epoch moment chunks) is = tt
      one (Finalize epoch) is = tt
      one (RollbackBegin epoch) is = tt
      one (RollbackCommit epoch told) is = tt
      one (Whole c) is = is
      one (Propose chunk version) is = tt
      one (Settle v) is = tt
      one (Holder chunk server) is = tt

  -- where there is none, one leaves all at rest
  entry_rests : (d : Durable) (entry : PlainEntry) → Nobody P → EntryBy entry → IsAtRest d (unwrap_or (applied d entry) d)
  entry_rests d (Edited by edit) none (inl own) = absurd (none own.1.0 own.1.1)
  entry_rests d (Edited by edit) none (inr is) = absurd (none by is)
  entry_rests d (Said to refusal) none is = absurd (none to is)
  entry_rests d (Prepare epoch moment chunks) none is = absurd (none is.0 is.1)
  entry_rests d (Finalize epoch) none is = absurd (none is.0 is.1)
  entry_rests d (RollbackBegin epoch) none is = absurd (none is.0 is.1)
  entry_rests d (RollbackCommit epoch told) none is = absurd (none is.0 is.1)
  entry_rests d (Whole c) none is = absurd is
  entry_rests d (Propose chunk version) none is = proposal_rests d chunk version
  entry_rests d (Settle v) none is = settling_rests d v
  entry_rests d (Holder chunk server) none is = holder_rests d chunk server

  pub entries_rest : (xs : List PlainEntry) (s : State) → Nobody P → AreEntries xs → IsAtRest s.durable (fold with_record s xs).durable
  entries_rest [] s none are = rest s.durable
  entries_rest (x ∷ xs) s none are = rest_then s.durable (with_record s x).durable (fold with_record (with_record s x) xs).durable (entry_rests s.durable x none are.0) (entries_rest xs (with_record s x) none are.1)

  abbrev pub SaidSo : List Message → Type 0
  SaidSo messages = AllByRecursion (λ (m : Message). RepliesTo P m.body) messages

  abbrev pub Waiting_so : State → Type 0
  Waiting_so s = AllIn P s.volatile.pending

  pub record PlanSo (plan : Plan) : Type 0 where
    pub records : AreEntries plan.records
    pub changes : AreChanges P plan.changes
    pub sent : SaidSo plan.sent

  -- a turn in which no checkpoint is written
  pub record TurnSo (s : State) (t : Turn) : Type 0 where
    pub sent : SaidSo t.sent
    pub records : AreEntries t.records
    pub durable : KeepsOn P s.durable.replies t.after.durable.replies
    pub memory : KeepsOn P s.volatile.replies t.after.volatile.replies
    pub waits : Waiting_so t.after
    pub rests : Nobody P → StaysAtRest s t.after

  pub records_done : (xs : List PlainEntry) (s : State) → AreRecords P xs → KeepsOn P s.durable.replies (fold with_record s xs).durable.replies
  records_done [] s are = on_still P s.durable.replies s.durable.replies refl
  records_done (x ∷ xs) s are =
      on_then P s.durable.replies (with_record s x).durable.replies (fold with_record (with_record s x) xs).durable.replies (done_so P s.durable x are.0) (records_done xs (with_record s x) are.1)

  pub planned : (s : State) (plan : Plan) → Waiting_so s → PlanSo plan → TurnSo s (turned s plan)
  planned s plan waits so = record {
    sent = so.sent;
    records = so.records;
    durable = records_done plan.records s (records_of plan.records so.records);
    memory = changes_keep P plan.changes s.volatile so.changes;
    waits = changes_wait P plan.changes s.volatile so.changes waits;
    rests = λ none. (entries_rest plan.records s none so.records, changes_rest P plan.changes s.volatile none so.changes);
  }

  -- ---- messages

  pub none_to : (servers : List ℕ) (message : ℕ → Message) → ((server : ℕ) → RepliesTo P (message server).body) → SaidSo (to_each servers message)
  none_to [] message says = tt
  none_to (server ∷ servers) message says = (says server, none_to servers message says)

  pub all_told : (config : Config) (epoch : ℕ) (end : EpochEnd) → SaidSo (tell_all config epoch end)
  all_told config epoch end = none_to (count_from 0 config.servers) (λ server. post (nodes.Server server) (bodies.Epoch epoch end)) (λ server. tt)

  pub granted_none : (chunk : ℕ) (view : View) (term : Option Term) → SaidSo (grant_of chunk view term)
  granted_none chunk view None = tt
  granted_none chunk view (Some term) = (tt, tt)

  -- ---- what ends with a call

  let_go_so : (new : List ℕ) (req : ReqId) (es : List (ℕ × Asking)) → AreChanges P (flat_map (let_go_of new req) es)
  let_go_so new req [] = tt
  let_go_so new req (e ∷ es) = both_so _ (let_go_of new req e) (flat_map (let_go_of new req) es) (by_tests (is_call req e.1.call) (is_member new e.0)) (let_go_so new req es)
    where
      by_tests : (c n : Bool) → AreChanges P (if not c then [] else if n then changes.Lose e.0 ∷ [] else changes.Ask e.0 (without_call e.1) ∷ [])
      by_tests false n = tt
      by_tests true true = (tt, tt)
      by_tests true false = (tt, tt)

  end_so : (s : State) (req : ReqId) → AreChanges P (end_changes s req)
  end_so s req = both_so _ (let_go s.volatile req) (changes.End req ∷ []) (let_go_so s.volatile.unplaced req (fin.entries s.volatile.moving)) (tt, tt)

  -- ---- answers and refusals of such a request

  module _ (req : ReqId) (is : P req) where
    said_so : (keeps : Bool) (log : Log) (refusal : Refusal) → AreEntries (said_records keeps log req refusal)
    said_so keeps log refusal = by_test (keeps && fits log (Said req refusal ∷ []))
      where
        by_test : (b : Bool) → AreEntries (if b then Said req refusal ∷ [] else [])
        by_test true = (is, tt)
        by_test false = tt

    kept_so : (b : Bool) (result : Result Answer Refusal) → AreChanges P (if b then kept_in_memory req result ∷ [] else [])
    kept_so true result = (is, tt)
    kept_so false result = tt

    pub answer_so : (s : State) (answer : Answer) → AreChanges P (answer_changes s req answer)
    answer_so s answer = kept_so (is_later (last_reply s req.client) req.number) (Ok answer)

    pub refusal_so : (s : State) (refusal : Refusal) (further : List Change) (said : Option Refusal) → AreChanges P further → PlanSo (refusal_plan s req refusal further said)
    refusal_so s refusal further said more = record {
      records = said_so (keeps_refusal s req refusal) s.log refusal;
      changes =
          both_so _ (said_changes (keeps_refusal s req refusal) s.log req refusal) further (kept_so (keeps_refusal s req refusal && not (fits s.log (Said req refusal ∷ []))) (Err refusal)) more;
      sent = (is, tt);
    }

    pub ended_so : (s : State) (refusal : Refusal) → PlanSo (refusal_plan s req refusal (end_changes s req) None)
    ended_so s refusal = refusal_so s refusal (end_changes s req) None (end_so s req)

    pub answered_so : (s : State) (answer : Answer) → PlanSo (answered s req answer)
    answered_so s answer = record { records = tt; changes = answer_so s answer; sent = (is, tt) }

    pub end_plan_so : (s : State) (answer : Answer) → PlanSo (end_plan s req answer)
    end_plan_so s answer = record { records = tt; changes = both_so _ (answer_changes s req answer) (changes.End req ∷ []) (answer_so s answer) (tt, tt); sent = (is, tt) }

    pub accept_so : (edit : PlainEdit) (answer : Answer) → PlanSo (accept_plan req edit answer)
    accept_so edit answer = record { records = (inr is, tt); changes = tt; sent = (is, tt) }

    pub edit_so : (edit : PlainEdit) (answer : Answer) (before : List Change) → AreChanges P before → PlanSo (edit_plan req edit answer before)
    edit_so edit answer before so = record { records = (inr is, tt); changes = both_so _ before (changes.End req ∷ []) so (tt, tt); sent = (is, tt) }

    pub accepted_so : (s : State) (records : List PlainEntry) (before : List Change) (sent : List Message) (epoch : ℕ) → AreEntries records → AreChanges P before → SaidSo sent → PlanSo (accepted_plan s req records before sent epoch)
    accepted_so s records before sent epoch are so said = record {
      records = are;
      changes = both_so _ before (answer_changes s req (answers.Epoch epoch)) so (answer_so s (answers.Epoch epoch));
      sent = both_so _ sent (reply_to req (Ok (answers.Epoch epoch)) ∷ []) said (is, tt);
    }

    -- ---- it waits

    pub waits_now : (plan : Plan) (waiting : Waiting) → PlanSo plan → PlanSo (waits_from_now plan req waiting)
    waits_now plan waiting so = record { records = so.records; changes = both_so _ plan.changes (changes.Begin (record { req = req; waits = waiting }) ∷ []) so.changes (is, tt); sent = so.sent }

    pub waits_further : (plan : Plan) (waiting : Waiting) → PlanSo plan → PlanSo (waits_on plan req waiting)
    waits_further plan waiting so = record { records = so.records; changes = both_so _ plan.changes (changes.Wait req waiting ∷ []) so.changes (is, tt); sent = so.sent }

    pub pending_so : (waiting : Waiting) → PlanSo (begin_pending req waiting)
    pending_so waiting = record { records = tt; changes = (is, tt); sent = tt }

  -- ---- what answers nobody

  pub begin_so : (s : State) (chunk : ℕ) (purpose : Purpose) (call : Option ReqId) → PlanSo (begin_at s chunk purpose call)
  begin_so s chunk purpose call = record { records = (tt, tt); changes = (tt, tt); sent = none_to (members_at (chunk_at s chunk)) (about chunk (chunks.Advance (next_stamp s.durable))) (λ server. tt) }

  pub create_so : (stamp : Stamp) (chunk : ℕ) (targets : List ℕ) (call : ReqId) → PlanSo (create_plan stamp chunk targets call)
  create_so stamp chunk targets call = record { records = (tt, tt); changes = (tt, (tt, tt)); sent = none_to targets (about chunk (chunks.Create stamp)) (λ server. tt) }

  pub copy_so : (stamp : Stamp) (old : ℕ) (view : View) (new : ℕ) (call : ReqId) → PlanSo (copy_plan stamp old view new call)
  copy_so stamp old view new call = record { records = (tt, tt); changes = (tt, (tt, tt)); sent = none_to view.members (λ server. post (nodes.Server server) (bodies.MakeCopy old view.stamp new stamp)) (λ server. tt) }

  pub ask_so : (chunk : ℕ) (asking : Asking) → PlanSo (ask_plan chunk asking)
  ask_so chunk asking = record { records = tt; changes = (tt, tt); sent = tt }

  pub send_so : (chunk : ℕ) (asking : Asking) (source target : ℕ) (with_sealed : Bool) → PlanSo (send_plan chunk asking source target with_sealed)
  send_so chunk asking source target with_sealed = record { records = tt; changes = (tt, tt); sent = (tt, tt) }

  pub replace_so : Someone → (path : Path) (index old new : ℕ) → PlanSo (replace_plan path index old new)
  replace_so one path index old new = record { records = (inl (refl, one), tt); changes = (tt, tt); sent = tt }

  settling_so : (b : Bool) (chunk : ℕ) (target : Option ℕ) (view : View) → AreEntries (holder_records b chunk target ++ Settle (record { handle = chunk; view = view }) ∷ [])
  settling_so b chunk None view = (tt, tt)
  settling_so true chunk (Some target) view = (tt, (tt, tt))
  settling_so false chunk (Some target) view = (tt, tt)

  pub settle_so : (s : State) (chunk : ℕ) (asking : Asking) (carried : Bool) (view : View) → PlanSo (settle_plan (settling s.durable.phase (prepared_view s.durable chunk) carried chunk asking view) chunk view)
  settle_so s chunk asking carried view = record {
    records = settling_so (is_holder s.durable.phase (prepared_view s.durable chunk) carried asking view) chunk (target_of asking.purpose) view;
    changes = (tt, tt);
    sent = granted_none chunk view view.term;
  }

  scan_edits_so : Someone → (removed : List Path) (forgotten : List ℕ) → AreEntries (map (Edited own_request) (scan_edits removed forgotten))
  scan_edits_so one [] [] = tt
  scan_edits_so one [] (chunk ∷ forgotten) = (inl (refl, one), tt)
  scan_edits_so one (path ∷ removed) forgotten = (inl (refl, one), scan_edits_so one removed forgotten)

  pub scan_so : Someone → (removed : List Path) (forgotten : List ℕ) → PlanSo (scan_plan removed forgotten)
  scan_so one removed forgotten = record { records = scan_edits_so one removed forgotten; changes = (tt, tt); sent = tt }
