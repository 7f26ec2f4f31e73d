-- Turns whose records have room, that leave who has told of a chunk, and whose snapshots copy what is still; and how they follow one another.
use Rattle.std.proofs.Common.{◌≡◌, ◌⊎◌, inl, inr, ◌∙◌, ◌+◌, ◌&&◌, ℕ, suc, Bool, true, false, not, List, [], ◌∷◌, ◌++◌, length, refl, ap, sym, subst, arith, length-append}
use Rattle.std.specs.Prelude.{flat_map, fold, nat_le, nat_lt, is_some, option_and_then, unwrap_or, Option, Some, None, Ok, Err, if◌then◌else◌}
use Rattle.std.specs.FinMap as fin
use Rattle.std.specs.List.{list_all}
use Rattle.std.proofs.lemmas.Bool.{false≢true, and_from, and_parts}
use Rattle.std.proofs.lemmas.Bool.Decides.{nat_tests}
use Rattle.std.proofs.lemmas.List.Folds.{list_all-append}
use Rattle.std.proofs.lemmas.List.Sums.{sum_by-append, sum_by-cons}
use Rattle.gs_base.specs.Members.{is_member}
use Rattle.gs_base.specs.declared.epoch.EpochEnd.TheVariants as ends
use Rattle.gs_base.specs.declared.numbers.ReqId.{ReqId}
use Rattle.gs_base.specs.declared.refusal.Refusal.{Refusal}
use Rattle.gs_lease.specs.declared.view.Purpose.{Purpose}
use Rattle.gs_msg.specs.declared.answer.Answer.{Answer}
use Rattle.gs_master_record.specs.Plain.{PlainEntry, Snapshot, Edited, Said, Propose, Settle, Prepare, Finalize, RollbackBegin, RollbackCommit, Whole, Holder}
use Rattle.gs_master_record.specs.declared.checkpoint.Phase.{Phase}
use Rattle.gs_master_record.specs.declared.checkpoint.Phase.TheVariants.{Ordinary, Upgrade, Rolling}
use Rattle.gs_master_spec.specs.Applied.{applied, are_at_rest, held_by, is_next_epoch, may_be_settled, may_propose, proposed, replayed, with_epoch, with_view, without_prepared}
use Rattle.gs_master_spec.specs.Beginning.{begin_at, begun, all_begun}
use Rattle.gs_master_spec.specs.Durable.{Durable, is_ordinary, is_rolling, is_upgrade, prepared_view, with_prepared}
use Rattle.gs_master_spec.specs.Replies.{is_later}
use Rattle.gs_master_spec.specs.State.{State, Log, Plan, Turn, with_record, turned, unmoved, and_then, for_each, fits, if_room, refused, ended_by, all_ended_by, answer_changes, keeps_refusal, kept_in_memory, last_reply, refusal_plan, said_changes, size_of, size_of_all, end_changes}
use Rattle.gs_master_spec.specs.Volatile.{Volatile, all_changed, changed, is_call, let_go, let_go_of, without_call}
use Rattle.gs_master_spec.specs.declared.asking.Asking.{Asking}
use Rattle.gs_master_spec.specs.declared.change.Change.{Change}
use Rattle.gs_master_spec.specs.declared.change.Change.TheVariants as changes
use Rattle.gs_laws_master.specs.Rooms.{AllCopyStill, CopiesStill, HasRoom, is_behind}
use Rattle.gs_laws_master.proofs.lemmas.upgrades.Beginnings.{fits_gives}
use Rattle.gs_laws_master.proofs.lemmas.standing.StandingTurns.{edited_phase}

-- ---- records

-- none but the commit of a rollback and a checkpoint ends a rollback
abbrev pub stays_rolling : PlainEntry → Bool
stays_rolling (RollbackCommit epoch answers) = false
stays_rolling (Whole c) = false
stays_rolling entry = true

-- and none but a snapshot copies a tree
abbrev pub is_plain : PlainEntry → Bool
is_plain (Edited by (Snapshot from to)) = false
is_plain (RollbackCommit epoch answers) = false
is_plain (Whole c) = false
is_plain entry = true

plain_stays : (entry : PlainEntry) → is_plain entry ≡ true → stays_rolling entry ≡ true
plain_stays (RollbackCommit epoch answers) e = absurd (false≢true e)
plain_stays (Whole c) e = absurd (false≢true e)
plain_stays entry e = refl

plain_still : (d : Durable) (entry : PlainEntry) → is_plain entry ≡ true → CopiesStill d entry
plain_still d (Edited by (Snapshot from to)) e = absurd (false≢true e)
plain_still d entry e = tt

all_stay : (entries : List PlainEntry) → list_all is_plain entries ≡ true → list_all stays_rolling entries ≡ true
all_stay [] e = refl
all_stay (entry ∷ entries) e =
    let both = and_parts (is_plain entry) (list_all is_plain entries) e in and_from (stays_rolling entry) (list_all stays_rolling entries) (plain_stays entry both.0) (all_stay entries both.1)

stays_behind : (entry : PlainEntry) → stays_rolling entry ≡ true → is_behind entry ≡ true
stays_behind (Whole c) e = absurd (false≢true e)
stays_behind entry e = refl

all_behind : (entries : List PlainEntry) → list_all stays_rolling entries ≡ true → list_all is_behind entries ≡ true
all_behind [] e = refl
all_behind (entry ∷ entries) e =
    let both = and_parts (stays_rolling entry) (list_all stays_rolling entries) e in and_from (is_behind entry) (list_all is_behind entries) (stays_behind entry both.0) (all_behind entries both.1)

all_still : (d : Durable) (entries : List PlainEntry) → list_all is_plain entries ≡ true → AllCopyStill d entries
all_still d [] e = tt
all_still d (entry ∷ entries) e = let both = and_parts (is_plain entry) (list_all is_plain entries) e in (plain_still d entry both.0, λ next is. all_still next entries both.1)

upgrade_or_rolling : (phase : Phase) {P : Type 0} → is_upgrade phase ≡ true → is_rolling phase ≡ true → P
upgrade_or_rolling Ordinary u r = absurd (false≢true u)
upgrade_or_rolling Upgrade u r = absurd (false≢true r)
upgrade_or_rolling Rolling u r = absurd (false≢true u)

ordinary_or_rolling : (phase : Phase) {P : Type 0} → is_ordinary phase ≡ true → is_rolling phase ≡ true → P
ordinary_or_rolling Ordinary o r = absurd (false≢true r)
ordinary_or_rolling Upgrade o r = absurd (false≢true o)
ordinary_or_rolling Rolling o r = absurd (false≢true o)

abbrev rolls : Durable → Type 0
rolls d = is_rolling d.phase ≡ true

record_rolls : (entry : PlainEntry) (d next : Durable) → stays_rolling entry ≡ true → applied d entry ≡ Some next → rolls d → rolls next
unfolding applied
record_rolls (Edited by edit) d next stays e r = ap is_rolling (edited_phase d next by edit e) ∙ r
record_rolls (Said to refusal) d next stays e r = subst rolls (fits_gives true _ next e).1 r
record_rolls (Propose chunk version) d next stays e r =
    subst rolls (fits_gives (may_propose d.phase d.next_handle d.next_version chunk version (fin.get d.chunks chunk)) (proposed d chunk version) next e).1 r
record_rolls (Settle v) d next stays e r = subst rolls (fits_gives (may_be_settled d v) (with_view d v) next e).1 r
record_rolls (Prepare epoch moment chunks) d next stays e r =
    let may = (fits_gives (is_ordinary d.phase && (is_next_epoch d.epoch epoch && are_at_rest d)) (without_prepared (with_epoch d ends.Prepare Upgrade)) next e).0 in
    ordinary_or_rolling d.phase (and_parts (is_ordinary d.phase) (is_next_epoch d.epoch epoch && are_at_rest d) may).0 r
record_rolls (Finalize epoch) d next stays e r =
    let may = (fits_gives (is_upgrade d.phase && is_next_epoch d.epoch epoch) (without_prepared (with_epoch d ends.Finalize Ordinary)) next e).0 in
    upgrade_or_rolling d.phase (and_parts (is_upgrade d.phase) (is_next_epoch d.epoch epoch) may).0 r
record_rolls (RollbackBegin epoch) d next stays e r = subst rolls (fits_gives (is_upgrade d.phase && is_next_epoch d.epoch epoch) (with_epoch d ends.Rollback Rolling) next e).1 refl
record_rolls (RollbackCommit epoch answers) d next stays e r = absurd (false≢true stays)
record_rolls (Whole c) d next stays e r = absurd (false≢true stays)
record_rolls (Holder chunk server) d next stays e r =
    subst rolls (fits_gives (is_upgrade d.phase && (nat_lt server 16 && is_some (prepared_view d chunk))) (record d { prepared = with_prepared d chunk (held_by server (prepared_view d chunk)) }) next e).1 r

-- ---- what records leave of the log, and of what is durable

records_size : (entries : List PlainEntry) (s : State) → (fold with_record s entries).log.size ≡ s.log.size + size_of_all entries
records_size [] s = omega arith
records_size (entry ∷ entries) s = records_size entries (with_record s entry) ∙ more s.log.size (size_of entry) (size_of_all entries) (size_of_all (entry ∷ entries)) (sum_by-cons size_of entry entries)
  where
    more : (size one rest all : ℕ) → all ≡ one + rest → (size + one) + rest ≡ size + all
    more size one rest all e = omega arith

records_count : (entries : List PlainEntry) (s : State) → (fold with_record s entries).log.records ≡ s.log.records + length entries
records_count [] s = omega arith
records_count (entry ∷ entries) s = records_count entries (with_record s entry) ∙ more s.log.records (length entries)
  where
    more : (many rest : ℕ) → (many + 1) + rest ≡ many + suc rest
    more many rest = omega arith

records_limit : (entries : List PlainEntry) (s : State) → (fold with_record s entries).log.limit ≡ s.log.limit
records_limit [] s = refl
records_limit (entry ∷ entries) s = records_limit entries (with_record s entry)

durable_is : {a b : Durable} → ◌≡◌ {A = Option Durable} (Some a) (Some b) → a ≡ b
durable_is h = cc

-- what they replay to, if they fit
records_after : (entries : List PlainEntry) (s : State) (last : Durable) → replayed s.durable entries ≡ Some last → last ≡ (fold with_record s entries).durable
records_after [] s last e = sym (durable_is e)
records_after (entry ∷ entries) s last e = by_first (records_after entries (with_record s entry) last) (applied s.durable entry) refl e
  where
    by_first : (replayed (with_record s entry).durable entries ≡ Some last → last ≡ (fold with_record (with_record s entry) entries).durable) → (o : Option Durable) → applied s.durable entry ≡ o
        → option_and_then (λ n. replayed n entries) o ≡ Some last → last ≡ (fold with_record (with_record s entry) entries).durable
    by_first rest None is h = absurd (false≢true (ap is_some h))
    by_first rest (Some n) is h = rest (ap (λ p. replayed (unwrap_or p s.durable) entries) is ∙ h)

records_roll : (entries : List PlainEntry) (s : State) → list_all stays_rolling entries ≡ true → rolls s.durable → rolls (fold with_record s entries).durable
records_roll [] s e r = r
records_roll (entry ∷ entries) s e r =
    let both = and_parts (stays_rolling entry) (list_all stays_rolling entries) e in records_roll entries (with_record s entry) both.1 (by_first both.0 (applied s.durable entry) refl)
  where
    by_first : stays_rolling entry ≡ true → (o : Option Durable) → applied s.durable entry ≡ o → rolls (unwrap_or o s.durable)
    by_first stays None is = r
    by_first stays (Some n) is = record_rolls entry s.durable n stays is r

-- ---- changes

-- it leaves who has told
abbrev pub leaves_told : Change → Bool
leaves_told (changes.Restored server handles) = false
leaves_told changes.RolledBack = false
leaves_told change = true

change_leaves : (v : Volatile) (change : Change) → leaves_told change ≡ true → (changed v change).restored ≡ v.restored
change_leaves v (changes.Ask chunk asking) e = refl
change_leaves v (changes.Settled chunk) e = refl
change_leaves v (changes.Enter chunk) e = refl
change_leaves v (changes.Place chunk) e = refl
change_leaves v (changes.Lose chunk) e = refl
change_leaves v (changes.Forget chunks) e = refl
change_leaves v (changes.Begin p) e = refl
change_leaves v (changes.Wait req waiting) e = refl
change_leaves v (changes.End req) e = refl
change_leaves v (changes.Prepare is_preparing) e = refl
change_leaves v (changes.Keep client reply) e = refl
change_leaves v (changes.Restored server chunks) e = absurd (false≢true e)
change_leaves v changes.RolledBack e = absurd (false≢true e)

changes_leave : (cs : List Change) (v : Volatile) → list_all leaves_told cs ≡ true → (all_changed v cs).restored ≡ v.restored
changes_leave [] v e = refl
changes_leave (c ∷ cs) v e = let both = and_parts (leaves_told c) (list_all leaves_told cs) e in changes_leave cs (changed v c) both.1 ∙ change_leaves v c both.0

pub both_leave : (cs more : List Change) → list_all leaves_told cs ≡ true → list_all leaves_told more ≡ true → list_all leaves_told (cs ++ more) ≡ true
both_leave cs more a b = list_all-append leaves_told cs more ∙ and_from (list_all leaves_told cs) (list_all leaves_told more) a b

-- ---- turns

-- What a turn leaves: the log with its records, within the same limit, each of which it counts, and none is a checkpoint; what its records replay to, if they fit; its snapshots copy what is
-- still; and where it is to, a rollback that goes on, and who has told.
pub record Adds (told : Bool) (s : State) (t : Turn) : Type 0 where
  pub size : t.after.log.size ≡ s.log.size + size_of_all t.records
  pub limit : t.after.log.limit ≡ s.log.limit
  pub count : t.after.log.records ≡ s.log.records + length t.records
  pub behind : list_all is_behind t.records ≡ true
  pub after : (last : Durable) → replayed s.durable t.records ≡ Some last → last ≡ t.after.durable
  pub still : AllCopyStill s.durable t.records
  pub rolling : told ≡ true → is_rolling s.durable.phase ≡ true → is_rolling t.after.durable.phase ≡ true
  pub restored : told ≡ true → t.after.volatile.restored ≡ s.volatile.restored

-- and its records have room
pub record Roomy (told : Bool) (s : State) (t : Turn) : Type 0 where
  pub room : HasRoom s t
  pub adds : Adds told s t

room_after : (size limit a b now least : ℕ) → now ≡ size + a → least ≡ limit → nat_le (now + b) least ≡ true → nat_le (size + (a + b)) limit ≡ true
room_after size limit a b now least e f h = grind (arith, nat_tests)

then_size : (size a b now : ℕ) → now ≡ size + a → now + b ≡ size + (a + b)
then_size size a b now e = omega arith

plain_size : (size now : ℕ) → now ≡ size → now ≡ size + 0
plain_size size now e = omega arith

-- two lists of records
parts_replayed : (xs ys : List PlainEntry) (d last : Durable) → replayed d (xs ++ ys) ≡ Some last → (mid : Durable) × ((replayed d xs ≡ Some mid) × (replayed mid ys ≡ Some last))
parts_replayed [] ys d last e = (d, (refl, e))
parts_replayed (x ∷ xs) ys d last e = by_first (applied d x) (λ n h. parts_replayed xs ys n last h) e
  where
    by_first : (o : Option Durable) → ((n : Durable) → replayed n (xs ++ ys) ≡ Some last → (mid : Durable) × ((replayed n xs ≡ Some mid) × (replayed mid ys ≡ Some last))) → option_and_then (λ n. replayed n (xs ++ ys)) o ≡ Some last
        → (mid : Durable) × ((option_and_then (λ n. replayed n xs) o ≡ Some mid) × (replayed mid ys ≡ Some last))
    by_first None rest h = absurd (false≢true (ap is_some h))
    by_first (Some n) rest h = rest n h

pub both_still : (xs ys : List PlainEntry) (d : Durable) → AllCopyStill d xs → ((mid : Durable) → replayed d xs ≡ Some mid → AllCopyStill mid ys) → AllCopyStill d (xs ++ ys)
both_still [] ys d a b = b d refl
both_still (x ∷ xs) ys d a b = (a.0, λ next is. both_still xs ys next (a.1 next is) (λ mid h. b mid (ap (option_and_then (λ n. replayed n xs)) is ∙ h)))

module _ (told : Bool) where
  -- a turn that adds no record, and leaves the state but for what is kept in memory
  pub quiet_adds : (s : State) (t : Turn) → t.records ≡ [] → t.after.log ≡ s.log → t.after.durable ≡ s.durable → (told ≡ true → t.after.volatile.restored ≡ s.volatile.restored) → Roomy told s t
  quiet_adds s t none log durable restored = record {
    room = inl none;
    adds = record {
      size = plain_size s.log.size t.after.log.size (ap (λ (l : Log). l.size) log) ∙ ap (λ es. s.log.size + size_of_all es) (sym none);
      limit = ap (λ (l : Log). l.limit) log;
      count = plain_size s.log.records t.after.log.records (ap (λ (l : Log). l.records) log) ∙ ap (λ (es : List PlainEntry). s.log.records + length es) (sym none);
      behind = ap (list_all is_behind) none;
      after = λ last e. sym (durable_is (ap (replayed s.durable) (sym none) ∙ e)) ∙ sym durable;
      still = subst (AllCopyStill s.durable) (sym none) tt;
      rolling = λ c r. ap (λ (d : Durable). is_rolling d.phase) durable ∙ r;
      restored = restored;
    };
  }

  pub same_roomy : (s : State) → Roomy told s (unmoved s)
  same_roomy s = quiet_adds s (unmoved s) refl refl refl (λ c. refl)

  pub then_adds : (s : State) (t : Turn) (f : State → Turn) → Adds told s t → Adds told t.after (f t.after) → Adds told s (and_then t f)
  then_adds s t f a b = record {
    size = b.size ∙ then_size s.log.size (size_of_all t.records) (size_of_all (f t.after).records) t.after.log.size a.size ∙ ap (λ n. s.log.size + n) (sym (sum_by-append size_of t.records (f t.after).records));
    limit = b.limit ∙ a.limit;
    count = b.count ∙ then_size s.log.records (length t.records) (length (f t.after).records) t.after.log.records a.count ∙ ap (λ n. s.log.records + n) (sym (length-append t.records (f t.after).records));
    behind = list_all-append is_behind t.records (f t.after).records ∙ and_from (list_all is_behind t.records) (list_all is_behind (f t.after).records) a.behind b.behind;
    after = λ last e. (let parts = parts_replayed t.records (f t.after).records s.durable last e in b.after last (ap (λ d. replayed d (f t.after).records) (sym (a.after parts.0 parts.1.0)) ∙ parts.1.1));
    still = both_still t.records (f t.after).records s.durable a.still (λ mid is. subst (λ d. AllCopyStill d (f t.after).records) (sym (a.after mid is)) b.still);
    rolling = λ c r. b.rolling c (a.rolling c r);
    restored = λ c. b.restored c ∙ a.restored c;
  }

  pub then_roomy : (s : State) (t : Turn) (f : State → Turn) → Roomy told s t → Roomy told t.after (f t.after) → Roomy told s (and_then t f)
  then_roomy s t f a b = record { room = both a.room b.room; adds = then_adds s t f a.adds b.adds }
    where
      nothing_more : (xs ys : List PlainEntry) → ys ≡ [] → (xs ++ ys) ≡ xs
      nothing_more [] ys none = none
      nothing_more (x ∷ xs) ys none = ap (λ es. x ∷ es) (nothing_more xs ys none)

      later : fits t.after.log (f t.after).records ≡ true → fits s.log (t.records ++ (f t.after).records) ≡ true
      later fit = ap (λ n. nat_le (s.log.size + n) s.log.limit) (sum_by-append size_of t.records (f t.after).records)
          ∙ room_after s.log.size s.log.limit (size_of_all t.records) (size_of_all (f t.after).records) t.after.log.size t.after.log.limit a.adds.size a.adds.limit fit

      both : HasRoom s t → HasRoom t.after (f t.after) → HasRoom s (and_then t f)
      both (inl none) (inr fit) = inr (later fit)
      both (inr first) (inr fit) = inr (later fit)
      both (inl none) (inl more) = inl (nothing_more t.records (f t.after).records more ∙ none)
      both (inr fit) (inl more) = inr (ap (fits s.log) (nothing_more t.records (f t.after).records more) ∙ fit)

  pub each_adds : {A : Type 0} (xs : List A) (step : A → State → Turn) → ((x : A) (s : State) → Adds told s (step x s)) → (s : State) → Adds told s (for_each s xs step)
  each_adds [] step h s = (same_roomy s).adds
  each_adds (x ∷ xs) step h s = then_adds s (step x s) (λ next. for_each next xs step) (h x s) (each_adds xs step h (step x s).after)

  pub each_roomy : {A : Type 0} (xs : List A) (step : A → State → Turn) → ((x : A) (s : State) → Roomy told s (step x s)) → (s : State) → Roomy told s (for_each s xs step)
  each_roomy [] step h s = same_roomy s
  each_roomy (x ∷ xs) step h s = then_roomy s (step x s) (λ next. for_each next xs step) (h x s) (each_roomy xs step h (step x s).after)

  pub test_roomy : (s : State) (b : Bool) (t u : Turn) → (b ≡ true → Roomy told s t) → (b ≡ false → Roomy told s u) → Roomy told s (if b then t else u)
  test_roomy s true t u f g = f refl
  test_roomy s false t u f g = g refl

  pub either_roomy : (s : State) (b : Bool) (t u : Turn) → Roomy told s t → Roomy told s u → Roomy told s (if b then t else u)
  either_roomy s b t u f g = test_roomy s b t u (λ is. f) (λ is. g)

  -- whose records are tried first
  pub tried_roomy : (s : State) (t u : Turn) → Adds told s t → Roomy told s u → Roomy told s (if_room s t u)
  tried_roomy s t u a b = test_roomy s (fits s.log t.records) t u (λ fit. record { room = inr fit; adds = a }) (λ is. b)

  -- ---- plans

  pub records_add : (s : State) (plan : Plan) → list_all stays_rolling plan.records ≡ true → AllCopyStill s.durable plan.records → list_all leaves_told plan.changes ≡ true → Adds told s (turned s plan)
  records_add s plan stays still leaves = record {
    size = records_size plan.records s;
    limit = records_limit plan.records s;
    count = records_count plan.records s;
    behind = all_behind plan.records stays;
    after = λ last e. records_after plan.records s last e;
    still = still;
    rolling = λ c r. records_roll plan.records s stays r;
    restored = λ c. changes_leave plan.changes s.volatile leaves;
  }

  pub plan_adds : (s : State) (plan : Plan) → list_all is_plain plan.records ≡ true → list_all leaves_told plan.changes ≡ true → Adds told s (turned s plan)
  plan_adds s plan plain leaves = records_add s plan (all_stay plan.records plain) (all_still s.durable plan.records plain) leaves

  -- without a record
  pub plan_roomy : (s : State) (plan : Plan) → plan.records ≡ [] → list_all leaves_told plan.changes ≡ true → Roomy told s (turned s plan)
  plan_roomy s plan none leaves = record { room = inl none; adds = plan_adds s plan (ap (list_all is_plain) none) leaves }

  -- ---- refusals

  let_go_leaves : (req : ReqId) (unplaced : List ℕ) (es : List (ℕ × Asking)) → list_all leaves_told (flat_map (let_go_of unplaced req) es) ≡ true
  let_go_leaves req unplaced [] = refl
  let_go_leaves req unplaced (e ∷ es) =
      both_leave (let_go_of unplaced req e) (flat_map (let_go_of unplaced req) es) (one (not (is_call req e.1.call)) (is_member unplaced e.0)) (let_go_leaves req unplaced es)
    where
      one : (b c : Bool) → list_all leaves_told (if b then [] else if c then changes.Lose e.0 ∷ [] else changes.Ask e.0 (without_call e.1) ∷ []) ≡ true
      one true c = refl
      one false true = refl
      one false false = refl

  said_leaves : (b : Bool) (req : ReqId) (refusal : Refusal) → list_all leaves_told (if b then kept_in_memory req (Err refusal) ∷ [] else []) ≡ true
  said_leaves true req refusal = refl
  said_leaves false req refusal = refl

  pub answer_leaves : (s : State) (req : ReqId) (answer : Answer) → list_all leaves_told (answer_changes s req answer) ≡ true
  answer_leaves s req answer = by_test (is_later (last_reply s req.client) req.number)
    where
      by_test : (b : Bool) → list_all leaves_told (if b then kept_in_memory req (Ok answer) ∷ [] else []) ≡ true
      by_test true = refl
      by_test false = refl

  refusal_roomy : (s : State) (req : ReqId) (refusal : Refusal) (further : List Change) (said : Option Refusal) → list_all leaves_told further ≡ true → Roomy told s (turned s (refusal_plan s req refusal further said))
  refusal_roomy s req refusal further said leaves = record {
    room = by_tests (keeps_refusal s req refusal) (fits s.log (Said req refusal ∷ [])) refl;
    adds = plan_adds s (refusal_plan s req refusal further said) (plain (keeps_refusal s req refusal && fits s.log (Said req refusal ∷ [])))
        (both_leave (said_changes (keeps_refusal s req refusal) s.log req refusal) further (said_leaves (keeps_refusal s req refusal && not (fits s.log (Said req refusal ∷ []))) req refusal) leaves);
  }
    where
      by_tests : (k f : Bool) → fits s.log (Said req refusal ∷ []) ≡ f → ((if k && f then Said req refusal ∷ [] else []) ≡ []) ⊎ (fits s.log (if k && f then Said req refusal ∷ [] else []) ≡ true)
      by_tests true true is = inr is
      by_tests true false is = inl refl
      by_tests false f is = inl refl

      plain : (b : Bool) → list_all is_plain (if b then Said req refusal ∷ [] else []) ≡ true
      plain true = refl
      plain false = refl

  pub refused_roomy : (req : ReqId) (refusal : Refusal) (s : State) → Roomy told s (refused s req refusal)
  refused_roomy req refusal s = refusal_roomy s req refusal [] (Some refusal) refl

  pub ended_roomy : (req : ReqId) (refusal : Refusal) (s : State) → Roomy told s (ended_by s req refusal)
  ended_roomy req refusal s = refusal_roomy s req refusal (end_changes s req) None (both_leave (let_go s.volatile req) (changes.End req ∷ []) (let_go_leaves req s.volatile.unplaced (fin.entries s.volatile.moving)) refl)

  pub all_ended_roomy : (reqs : List ReqId) (refusal : Refusal) (s : State) → Roomy told s (all_ended_by s reqs refusal)
  all_ended_roomy reqs refusal s = each_roomy reqs (λ req next. ended_by next req refusal) (λ req next. ended_roomy req refusal next) s

  pub all_begun_adds : (many : List ℕ) (purpose : Purpose) (call : Option ReqId) (s : State) → Adds told s (all_begun s many purpose call)
  all_begun_adds many purpose call s = each_adds many (λ chunk next. begun next chunk purpose call) (λ chunk next. plan_adds next (begin_at next chunk purpose call) refl refl) s

-- a plan of which more is left open
pub free_adds : (s : State) (plan : Plan) → AllCopyStill s.durable plan.records → list_all is_behind plan.records ≡ true → Adds false s (turned s plan)
free_adds s plan still behind = record {
  size = records_size plan.records s;
  limit = records_limit plan.records s;
  count = records_count plan.records s;
  behind = behind;
  after = λ last e. records_after plan.records s last e;
  still = still;
  rolling = λ c r. absurd (false≢true c);
  restored = λ c. absurd (false≢true c);
}
