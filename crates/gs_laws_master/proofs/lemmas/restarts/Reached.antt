-- A restart opens a firm master, of the records from the last checkpoint on.
use Rattle.std.proofs.Common.{◌≡◌, ◌∙◌, ◌+◌, ◌&&◌, ◌||◌, ◌==◌, ◌++◌, ℕ, zero, suc, Bool, true, false, List, [], ◌∷◌, refl, ap, sym, subst, arith}
use Rattle.std.specs.Prelude.{is_some, nat_lt, option_and_then, take, Option, Some, None, Result, Ok, Err, if◌then◌else◌}
use Rattle.std.specs.FinMap as fin
use Rattle.std.specs.List.{AllByRecursion, list_any}
use Rattle.std.proofs.lemmas.Bool.{false≢true}
use Rattle.gs_base.specs.Told.{IsNumber}
use Rattle.gs_base.specs.declared.epoch.EpochEnd.TheVariants as ends
use Rattle.gs_base.specs.declared.numbers.ReqId.{ReqId}
use Rattle.gs_base.specs.declared.refusal.Refusal.{Refusal}
use Rattle.gs_edit.specs.View.{NamesView}
use Rattle.gs_journal.specs.declared.version.Version.{Version}
use Rattle.gs_journal.specs.declared.version.Version.TheVariants as versions
use Rattle.gs_master_record.specs.Plain.{PlainCheckpoint, PlainEdit, PlainEntry, Hide, Edited, Said, Propose, Settle, Prepare, Finalize, RollbackBegin, RollbackCommit, Whole, Holder}
use Rattle.gs_master_record.specs.Writable.{AreParts, IsEdit, IsEntry}
use Rattle.gs_master_record.specs.declared.checkpoint.Phase.TheVariants.{Ordinary, Upgrade, Rolling}
use Rattle.gs_master_record.specs.declared.entry.Answered.{Answered}
use Rattle.gs_master_spec.specs.Applied.{after_edit, after_if, after_undoing, applied, are_answers, are_at_rest, counted_behind, forgotten_by, held_by, is_fresh, is_next_epoch, is_whole_entry, may_be_settled, may_edit, may_propose, number_of_edit, proposed, raised, records_behind, replayed, rolled_back, with_edit, with_epoch, with_view, without_prepared}
use Rattle.gs_master_spec.specs.Durable.{Durable, after_number, is_ordinary, is_rolling, is_upgrade, prepared_view, start, with_prepared}
use Rattle.gs_master_spec.specs.Handling.{anew, answered_or, fresh, checkpoint_body, checkpoint_tests, granted, pressed, proposals, recover, recovered_from, reopened, restarted}
use Rattle.gs_master_spec.specs.State.{Log, State, Turn, and_then, first_of, for_each}
use Rattle.gs_master_spec.specs.Undoing.{all_undone, edited_names}
use Rattle.gs_master_spec.specs.Whole.{checkpoint_of}
use Rattle.gs_laws_master.specs.Promises.{IsOfKept}
use Rattle.gs_laws_master.specs.Reached.{ComesBack, DisksHold, DisksHoldAtPlaces, DisksHoldAtStepPlaces, OpensFirm, RecoversFirm, RunsRecoverFromLast, SameFromLast, from_last}
use Rattle.gs_laws_master.specs.Standing.{AreCounters, IsFirm, run_of, turn_of}
use Rattle.gs_laws_master.proofs.lemmas.upgrades.Beginnings.{fits_gives}
use Rattle.gs_laws_master.proofs.lemmas.keeping.Kept.{tells_counters}
use Rattle.gs_laws_master.proofs.lemmas.keeping.KeptAll.{leads_to_kept}
use Rattle.gs_laws_master.proofs.lemmas.keeping.KeptEdits.{forgets_only}
use Rattle.gs_laws_master.proofs.lemmas.standing.StandingCheckpoints.{written_good}
use Rattle.gs_laws_master.proofs.lemmas.standing.StandingRecords.{number_more}
use Rattle.gs_laws_master.proofs.lemmas.standing.StandingRuns.{events_fit, opens_firm, runs_fit, runs_recover, steps_fit}
use Rattle.gs_laws_master.proofs.lemmas.standing.StandingTurns.{Holds}

-- ---- the counters that records tell are numbers

number_raised : (next chunk : ℕ) → IsNumber next → IsNumber chunk → IsNumber (raised next chunk)
number_raised next chunk low few = by_test (is_fresh next chunk)
  where
    by_test : (b : Bool) → IsNumber (if b then after_number chunk else next)
    by_test true = number_more chunk few
    by_test false = low

number_edited : (edit : PlainEdit) (next : ℕ) → IsEdit edit → IsNumber next → IsNumber (after_if next (number_of_edit edit))
number_edited (Hide p moment number) next told low = number_more number told.1.1
number_edited edit next told low = low

edited_counters : (d next : Durable) (by : ReqId) (edit : PlainEdit) (names : Result NamesView Refusal) → IsEdit edit → AreCounters d → after_edit d by edit names ≡ Some next → AreCounters next
edited_counters d next by edit (Ok names) told c e = subst AreCounters (fits_gives (may_edit d edit) (with_edit d by edit names) next e).1 (record {
  handle = subst IsNumber (ap (λ (x : Durable). x.next_handle) (sym (forgets_only d (forgotten_by edit)))) c.handle;
  version = subst IsNumber (ap (λ (x : Durable). x.next_version) (sym (forgets_only d (forgotten_by edit)))) c.version;
  hidden = number_edited edit d.next_hidden told c.hidden;
})
edited_counters d next by edit (Err refusal) told c e = absurd (false≢true (ap is_some e))

-- all three stay
same_counters : (d n next : Durable) → n ≡ next → n.next_handle ≡ d.next_handle → n.next_version ≡ d.next_version → n.next_hidden ≡ d.next_hidden → AreCounters d → AreCounters next
same_counters d n next is handle version hidden c =
    subst AreCounters is (record { handle = subst IsNumber (sym handle) c.handle; version = subst IsNumber (sym version) c.version; hidden = subst IsNumber (sym hidden) c.hidden })

undone_counters : (d next : Durable) (epoch : ℕ) (answers : List Answered) (names : Option NamesView) → AreCounters d → after_undoing d epoch answers names ≡ Some next → AreCounters next
undone_counters d next epoch answers None c e = absurd (false≢true (ap is_some e))
undone_counters d next epoch answers (Some names) c e =
    same_counters d (rolled_back d answers names) next (fits_gives (is_rolling d.phase && ((epoch == d.epoch) && are_answers (prepared_view d) (fin.entries names.refs) answers)) (rolled_back d answers names) next e).1 refl refl refl c

told_counters : (d next : Durable) → AreParts versions.Two (checkpoint_of d) → applied d (Whole (checkpoint_of d)) ≡ Some next → AreCounters next
unfolding checkpoint_of
told_counters d next parts e =
    let same = tells_counters d next e in
    record { handle = subst IsNumber (sym same.handle) parts.0; version = subst IsNumber (sym same.version) parts.1.0; hidden = subst IsNumber (sym same.hidden) parts.1.1.0 }

whole_counters : (c : PlainCheckpoint) (d next : Durable) → c ≡ checkpoint_of d → AreParts versions.Two c → applied d (Whole c) ≡ Some next → AreCounters next
whole_counters c d next is parts e = told_counters d next (subst (AreParts versions.Two) is parts) (ap (λ x. applied d (Whole x)) (sym is) ∙ e)

pub keeps_counters : (entry : PlainEntry) (d next : Durable) → IsOfKept entry → IsEntry versions.Two entry → AreCounters d → applied d entry ≡ Some next → AreCounters next
unfolding applied
keeps_counters (Edited by edit) d next own written c e = edited_counters d next by edit (edited_names edit d.names) written.0.1 c e
keeps_counters (Said to refusal) d next own written c e = same_counters d _ next (fits_gives true _ next e).1 refl refl refl c
keeps_counters (Propose chunk version) d next own written c e =
    subst AreCounters (fits_gives (may_propose d.phase d.next_handle d.next_version chunk version (fin.get d.chunks chunk)) (proposed d chunk version) next e).1
    (record { handle = number_raised d.next_handle chunk c.handle written.0.0.1; version = number_more version written.0.1; hidden = c.hidden })
keeps_counters (Settle v) d next own written c e = same_counters d (with_view d v) next (fits_gives (may_be_settled d v) (with_view d v) next e).1 refl refl refl c
keeps_counters (Prepare epoch moment chunks) d next own written c e =
    let n = without_prepared (with_epoch d ends.Prepare Upgrade) in same_counters d n next (fits_gives (is_ordinary d.phase && (is_next_epoch d.epoch epoch && are_at_rest d)) n next e).1 refl refl refl c
keeps_counters (Finalize epoch) d next own written c e =
    let n = without_prepared (with_epoch d ends.Finalize Ordinary) in same_counters d n next (fits_gives (is_upgrade d.phase && is_next_epoch d.epoch epoch) n next e).1 refl refl refl c
keeps_counters (RollbackBegin epoch) d next own written c e =
    let n = with_epoch d ends.Rollback Rolling in same_counters d n next (fits_gives (is_upgrade d.phase && is_next_epoch d.epoch epoch) n next e).1 refl refl refl c
keeps_counters (RollbackCommit epoch answers) d next own written c e = undone_counters d next epoch answers (all_undone d.inverses d.names) c e
keeps_counters (Whole c) d next own written counters e = whole_counters c own.0 next own.1.1 written.0.0 e
keeps_counters (Holder chunk server) d next own written c e =
    let n = record d { prepared = with_prepared d chunk (held_by server (prepared_view d chunk)) } in
    same_counters d n next (fits_gives (is_upgrade d.phase && (nat_lt server 16 && is_some (prepared_view d chunk))) n next e).1 refl refl refl c

durable_is : {a b : Durable} → ◌≡◌ {A = Option Durable} (Some a) (Some b) → a ≡ b
durable_is h = cc

-- ---- records are read one after the other

-- what the first makes, from which the rest go on
record GoesOver (d : Durable) (entry : PlainEntry) (entries : List PlainEntry) (last : Durable) : Type 0 where
  next : Durable
  first : applied d entry ≡ Some next
  rest : replayed next entries ≡ Some last

unfoldable goes_over : (d : Durable) (entry : PlainEntry) (entries : List PlainEntry) (last : Durable) → replayed d (entry ∷ entries) ≡ Some last → GoesOver d entry entries last
goes_over d entry entries last e = each (applied d entry) refl e
  where
    each : (o : Option Durable) → applied d entry ≡ o → option_and_then (λ n. replayed n entries) o ≡ Some last → GoesOver d entry entries last
    each None is h = absurd (false≢true (ap is_some h))
    each (Some n) is h = record { next = n; first = is; rest = h }

replay_counters : (entries : List PlainEntry) (d last : Durable) → AllByRecursion IsOfKept entries → AllByRecursion (IsEntry versions.Two) entries → AreCounters d → replayed d entries ≡ Some last → AreCounters last
replay_counters [] d last own written c e = subst AreCounters (durable_is e) c
replay_counters (entry ∷ entries) d last own written c e =
    let over = goes_over d entry entries last e in
    replay_counters entries over.next last own.1 written.1 (keeps_counters entry d over.next own.0 written.0 c over.first) over.rest

start_counters : AreCounters start
start_counters = record { handle = omega arith; version = omega arith; hidden = omega arith }

-- ---- the master that is opened

pub opens_so : OpensFirm
opens_so config d log kept counters = opens_firm d log kept counters

holds_of : (s : State) → IsFirm s → Holds true s
holds_of s f = record { stands = f.stands; rolling = λ c r. f.rolling r }

firm_of : (s : State) → Holds true s → IsFirm s
firm_of s h = record { stands = h.stands; rolling = λ r. h.rolling refl r }

anew_firm : (version : Version) (s : State) → IsFirm s → IsFirm (anew version s).after
anew_firm versions.One s f = firm_of (anew versions.One s).after (written_good s (first_of (checkpoint_tests false false s.log (checkpoint_body s.durable))) (holds_of s f)).holds
anew_firm versions.Two s f = f

turn_is : {a b : Turn} → ◌≡◌ {A = Result Turn Refusal} (Ok a) (Ok b) → a ≡ b
turn_is h = cc

is_ok : Result Turn Refusal → Bool
is_ok (Ok t) = true
is_ok (Err refusal) = false

answered_so : (t u : Turn) (said : Option Refusal) → answered_or t said ≡ Ok u → t ≡ u
unfolding is_ok
answered_so t u None e = turn_is e
answered_so t u (Some refusal) e = absurd (false≢true (ap is_ok e))

pub recovers_firm : RecoversFirm
unfolding recover is_ok
recovers_firm config version entries log t own written e = by_state (replayed start entries) refl e
  where
    behind : Log
    behind = record log { records = records_behind entries }

    by_state : (o : Option Durable) → replayed start entries ≡ o → recovered_from config version behind o ≡ Ok t → IsFirm t.after
    by_state None is k = absurd (false≢true (ap is_ok k))
    by_state (Some d) is k =
        let opened = and_then (anew version (restarted d behind)) (reopened config) in
        subst (λ (u : Turn). IsFirm u.after) (answered_so opened t opened.said k)
        (anew_firm version (restarted d behind) (opens_firm d behind (leads_to_kept entries d own written is) (replay_counters entries start d own written start_counters is)))

-- ---- from the last checkpoint on

-- a checkpoint doesn't look at what stands before it
whole_alike : (entry : PlainEntry) (d n : Durable) → is_whole_entry entry ≡ true → applied d entry ≡ applied n entry
unfolding applied
whole_alike (Whole c) d n is = refl
whole_alike entry d n is = absurd (false≢true is)

either_whole : (a b : Bool) → b ≡ false → (a || b) ≡ true → a ≡ true
either_whole true b none e = refl
either_whole false b none e = absurd (false≢true (sym none ∙ e))

from_whole : (entries : List PlainEntry) (d n last : Durable) → list_any is_whole_entry entries ≡ true → replayed d entries ≡ Some last → replayed n (from_last entries) ≡ Some last
from_whole [] d n last some e = absurd (false≢true some)
from_whole (entry ∷ entries) d n last some e = let over = goes_over d entry entries last e in by_later (λ later. from_whole entries over.next n last later over.rest) (list_any is_whole_entry entries) refl
  where
    by_later : (list_any is_whole_entry entries ≡ true → replayed n (from_last entries) ≡ Some last) → (b : Bool) → list_any is_whole_entry entries ≡ b → replayed n (if b then from_last entries else entry ∷ entries) ≡ Some last
    by_later rest true later = rest later
    by_later rest false none = ap (option_and_then (λ x. replayed x entries)) (whole_alike entry n d (either_whole (is_whole_entry entry) (list_any is_whole_entry entries) none some)) ∙ e

pub from_start : (entries : List PlainEntry) (last : Durable) → replayed start entries ≡ Some last → replayed start (from_last entries) ≡ Some last
from_start [] last e = e
from_start (entry ∷ entries) last e = by_later (list_any is_whole_entry entries) refl
  where
    by_later : (b : Bool) → list_any is_whole_entry entries ≡ b → replayed start (if b then from_last entries else entry ∷ entries) ≡ Some last
    by_later true later = let over = goes_over start entry entries last e in from_whole entries over.next start last later over.rest
    by_later false none = e

-- as many stand behind it
behind_whole : (entries : List PlainEntry) (m n : ℕ) → list_any is_whole_entry entries ≡ true → counted_behind m (from_last entries) ≡ counted_behind n entries
behind_whole [] m n some = absurd (false≢true some)
behind_whole (entry ∷ entries) m n some = by_later (behind_whole entries m (if is_whole_entry entry then 0 else n + 1)) (list_any is_whole_entry entries) refl
  where
    by_later : (list_any is_whole_entry entries ≡ true → counted_behind m (from_last entries) ≡ counted_behind n (entry ∷ entries)) → (b : Bool) → list_any is_whole_entry entries ≡ b
        → counted_behind m (if b then from_last entries else entry ∷ entries) ≡ counted_behind n (entry ∷ entries)
    by_later rest true later = rest later
    by_later rest false none =
        let here = either_whole (is_whole_entry entry) (list_any is_whole_entry entries) none some in
        ap (λ b. counted_behind (if b then 0 else m + 1) entries) here ∙ sym (ap (λ b. counted_behind (if b then 0 else n + 1) entries) here)

same_behind : (entries : List PlainEntry) → records_behind (from_last entries) ≡ records_behind entries
same_behind [] = refl
same_behind (entry ∷ entries) = by_later (list_any is_whole_entry entries) refl
  where
    by_later : (b : Bool) → list_any is_whole_entry entries ≡ b → counted_behind 0 (if b then from_last entries else entry ∷ entries) ≡ counted_behind 0 (entry ∷ entries)
    by_later true later = behind_whole entries 0 (if is_whole_entry entry then 0 else 0 + 1) later
    by_later false none = refl

pub same_from_last : SameFromLast
unfolding recover
same_from_last config version entries log d e =
    ap (recovered_from config version (record log { records = records_behind (from_last entries) })) (from_start entries d e ∙ sym e)
    ∙ ap (λ n. recovered_from config version (record log { records = n }) (replayed start entries)) (same_behind entries)

pub runs_recover_from_last : RunsRecoverFromLast
runs_recover_from_last config log now events named =
    let t = run_of config (fresh log) events in
    same_from_last config versions.Two t.records now t.after.durable (runs_fit config log events named).fits ∙ runs_recover config log now events named

both_replayed : (xs ys : List PlainEntry) (d e last : Durable) → replayed d xs ≡ Some e → replayed e ys ≡ Some last → replayed d (xs ++ ys) ≡ Some last
both_replayed [] ys d e last a b = ap (λ x. replayed x ys) (durable_is a) ∙ b
both_replayed (x ∷ xs) ys d e last a b =
    let over = goes_over d x xs e a in ap (option_and_then (λ n. replayed n (xs ++ ys))) over.first ∙ both_replayed xs ys over.next e last over.rest b

pub disks_hold : DisksHold
disks_hold config held s event named firm holds =
    let t = turn_of config s event in from_start (held ++ t.records) t.after.durable (both_replayed held t.records start s.durable t.after.durable holds (events_fit config s event named firm).fits)

-- ---- before a place

-- what the records before a place make
record GoesTo (d : Durable) (entries : List PlainEntry) : Type 0 where
  next : Durable
  made : replayed d entries ≡ Some next

goes_to : (place : ℕ) (entries : List PlainEntry) (d last : Durable) → replayed d entries ≡ Some last → GoesTo d (take place entries)
goes_to zero entries d last e = record { next = d; made = refl }
goes_to (suc place) [] d last e = record { next = d; made = refl }
goes_to (suc place) (entry ∷ entries) d last e =
    let over = goes_over d entry entries last e in
    let rest = goes_to place entries over.next last over.rest in
    record { next = rest.next; made = ap (option_and_then (λ n. replayed n (take place entries))) over.first ∙ rest.made }

comes_back : (held : List PlainEntry) (s : State) (place : ℕ) (entries : List PlainEntry) (last : Durable) → replayed start held ≡ Some s.durable → replayed s.durable entries ≡ Some last → ComesBack held s (take place entries)
comes_back held s place entries last holds fits =
    let to = goes_to place entries s.durable last fits in
    record { durable = to.next; made = to.made; read = from_start (held ++ take place entries) to.next (both_replayed held (take place entries) start s.durable to.next holds to.made) }

pub disks_hold_at_places : DisksHoldAtPlaces
disks_hold_at_places config held s event place named firm holds = let t = turn_of config s event in comes_back held s place t.records t.after.durable holds (events_fit config s event named firm).fits

pub disks_hold_at_step_places : DisksHoldAtStepPlaces
disks_hold_at_step_places held s moment place firm holds =
    let t = and_then (for_each s (proposals s) (pressed moment)) granted in comes_back held s place t.records t.after.durable holds (steps_fit s moment firm)
