-- Turns in which each version that is proposed is above all before it, and how they follow one another.
use Rattle.std.proofs.Common.{◌≡◌, ◌∙◌, ◌<◌, ◌-◌, ◌+◌, ◌==◌, ◌&&◌, ℕ, suc, Bool, true, false, not, List, [], ◌∷◌, length, refl, ap, sym, arith}
use Rattle.std.specs.Prelude.{fold, nat_lt, nat_le, Contains, Option, Some, None, unwrap_or, if◌then◌else◌}
use Rattle.std.specs.List.{list_all}
use Rattle.std.specs.FinMap as fin
use Rattle.std.proofs.lemmas.Bool.{false≢true, and_from, and_parts}
use Rattle.std.proofs.lemmas.Bool.Decides.{nat_tests}
use Rattle.std.proofs.lemmas.List.Elements.{All-contains}
use Rattle.std.proofs.lemmas.List.Folds.{list_all-append}
use Rattle.std.proofs.lemmas.List.Sums.{AllPass-from_list_all}
use Rattle.gs_base.specs.Numbers.{last_number}
use Rattle.gs_base.specs.declared.numbers.ReqId.{ReqId}
use Rattle.gs_base.specs.declared.refusal.Refusal.{Refusal}
use Rattle.gs_lease.specs.declared.view.Purpose.{Purpose}
use Rattle.gs_master_record.specs.Plain.{PlainEntry, Said, Propose, Whole}
use Rattle.gs_master_spec.specs.Applied.{applied, if_fits, is_fresh, is_whole_entry, may_propose, proposed}
use Rattle.gs_master_spec.specs.Beginning.{has_versions, begin_at, begun, all_begun}
use Rattle.gs_master_spec.specs.Durable.{Durable, is_given, after_number, values_left}
use Rattle.gs_laws_master.proofs.lemmas.keeping.Counters.{keeps_given}
use Rattle.gs_master_spec.specs.State.{State, Plan, Turn, with_record, turned, unmoved, and_then, for_each, fits, refused, ended_by, all_ended_by, keeps_refusal, refusal_plan, end_changes}

-- ---- counters that don't fall

-- what one counter has given, a later one has too
abbrev pub IsLater : ℕ → ℕ → Type 0
IsLater next after = (n : ℕ) → is_given next n ≡ true → is_given after n ≡ true

fresh_by : (above before after : Bool) → above ≡ true → not after ≡ true → (before ≡ true → after ≡ true) → (above && not before) ≡ true
fresh_by above true after is new h = absurd (false≢true (sym (ap not (h refl)) ∙ new))
fresh_by above false after is new h = and_from above true is refl

-- what is fresh later was fresh before
fresh_before : (next after n : ℕ) → IsLater next after → is_fresh after n ≡ true → is_fresh next n ≡ true
fresh_before next after n later fresh =
    let both = and_parts (nat_lt 0 n) (not (is_given after n)) fresh in fresh_by (nat_lt 0 n) (is_given next n) (is_given after n) both.0 both.1 (later n)

-- ---- records

-- if it proposes a version, that is fresh
abbrev pub is_fresh_in : ℕ → PlainEntry → Bool
is_fresh_in next (Propose chunk version) = is_fresh next version
is_fresh_in next entry = true

-- and it is no checkpoint
abbrev pub may_follow : ℕ → PlainEntry → Bool
may_follow next (Propose chunk version) = is_fresh next version
may_follow next (Whole c) = false
may_follow next entry = true

not_whole : (next : ℕ) (entry : PlainEntry) → may_follow next entry ≡ true → is_whole_entry entry ≡ false
not_whole next (Whole c) e = absurd (false≢true e)
not_whole next entry e = refl

follows_fresh : (next : ℕ) (entry : PlainEntry) → may_follow next entry ≡ true → is_fresh_in next entry ≡ true
follows_fresh next (Propose chunk version) e = e
follows_fresh next entry e = refl

all_follow_fresh : (next : ℕ) (entries : List PlainEntry) → list_all (may_follow next) entries ≡ true → list_all (is_fresh_in next) entries ≡ true
all_follow_fresh next [] e = refl
all_follow_fresh next (entry ∷ entries) e =
    let both = and_parts (may_follow next entry) (list_all (may_follow next) entries) e in
    and_from (is_fresh_in next entry) (list_all (is_fresh_in next) entries) (follows_fresh next entry both.0) (all_follow_fresh next entries both.1)

entry_before : (next after : ℕ) (entry : PlainEntry) → IsLater next after → is_fresh_in after entry ≡ true → is_fresh_in next entry ≡ true
entry_before next after (Propose chunk version) later e = fresh_before next after version later e
entry_before next after entry later e = refl

all_before : (next after : ℕ) (entries : List PlainEntry) → IsLater next after → list_all (is_fresh_in after) entries ≡ true → list_all (is_fresh_in next) entries ≡ true
all_before next after [] later e = refl
all_before next after (entry ∷ entries) later e =
    let both = and_parts (is_fresh_in after entry) (list_all (is_fresh_in after) entries) e in
    and_from (is_fresh_in next entry) (list_all (is_fresh_in next) entries) (entry_before next after entry later both.0) (all_before next after entries later both.1)

record_later : (s : State) (entry : PlainEntry) → is_whole_entry entry ≡ false → IsLater s.durable.next_version (with_record s entry).durable.next_version
record_later s entry other n given = by_next (applied s.durable entry) refl
  where
    by_next : (next : Option Durable) → applied s.durable entry ≡ next → is_given (unwrap_or next s.durable).next_version n ≡ true
    by_next None is = given
    by_next (Some next) is = (keeps_given entry s.durable next n other is).1 given

records_later : (entries : List PlainEntry) (next : ℕ) (s : State) → list_all (may_follow next) entries ≡ true → IsLater s.durable.next_version (fold with_record s entries).durable.next_version
records_later [] next s e n given = given
records_later (entry ∷ entries) next s e n given =
    let both = and_parts (may_follow next entry) (list_all (may_follow next) entries) e in
    records_later entries next (with_record s entry) both.1 n (record_later s entry (not_whole next entry both.0) n given)

-- ---- turns

-- Each version that a turn proposes is fresh in the state that it meets, and what was given stays given.
pub record IsFreshTurn (s : State) (t : Turn) : Type 0 where
  pub fresh : list_all (is_fresh_in s.durable.next_version) t.records ≡ true
  pub later : IsLater s.durable.next_version t.after.durable.next_version

pub fresh_at : (s : State) (t : Turn) → IsFreshTurn s t → (chunk version : ℕ) → Contains t.records (Propose chunk version) → is_fresh s.durable.next_version version ≡ true
fresh_at s t f chunk version at =
    All-contains (λ (e : PlainEntry). is_fresh_in s.durable.next_version e ≡ true) t.records (Propose chunk version)
    (AllPass-from_list_all (is_fresh_in s.durable.next_version) t.records f.fresh) at

pub same_fresh : (s : State) → IsFreshTurn s (unmoved s)
same_fresh s = record { fresh = refl; later = λ n given. given }

pub then_fresh : (s : State) (t : Turn) (f : State → Turn) → IsFreshTurn s t → IsFreshTurn t.after (f t.after) → IsFreshTurn s (and_then t f)
then_fresh s t f a b = record {
  fresh = list_all-append (is_fresh_in s.durable.next_version) t.records (f t.after).records
      ∙ and_from (list_all (is_fresh_in s.durable.next_version) t.records) (list_all (is_fresh_in s.durable.next_version) (f t.after).records) a.fresh
      (all_before s.durable.next_version t.after.durable.next_version (f t.after).records a.later b.fresh);
  later = λ n given. b.later n (a.later n given);
}

pub each_fresh : {A : Type 0} (xs : List A) (step : A → State → Turn) → ((x : A) (s : State) → IsFreshTurn s (step x s)) → (s : State) → IsFreshTurn s (for_each s xs step)
each_fresh [] step h s = same_fresh s
each_fresh (x ∷ xs) step h s = then_fresh s (step x s) (λ next. for_each next xs step) (h x s) (each_fresh xs step h (step x s).after)

pub test_fresh : (s : State) (b : Bool) (t u : Turn) → (b ≡ true → IsFreshTurn s t) → (b ≡ false → IsFreshTurn s u) → IsFreshTurn s (if b then t else u)
test_fresh s true t u f g = f refl
test_fresh s false t u f g = g refl

pub either_fresh : (s : State) (b : Bool) (t u : Turn) → IsFreshTurn s t → IsFreshTurn s u → IsFreshTurn s (if b then t else u)
either_fresh s b t u f g = test_fresh s b t u (λ is. f) (λ is. g)

pub turn_fresh : (s : State) (plan : Plan) → list_all (may_follow s.durable.next_version) plan.records ≡ true → IsFreshTurn s (turned s plan)
turn_fresh s plan e = record { fresh = all_follow_fresh s.durable.next_version plan.records e; later = records_later plan.records s.durable.next_version s e }

-- ---- refusals

pub said_follows : (b : Bool) (req : ReqId) (refusal : Refusal) (next : ℕ) → list_all (may_follow next) (if b then Said req refusal ∷ [] else []) ≡ true
said_follows true req refusal next = refl
said_follows false req refusal next = refl

pub refused_fresh : (req : ReqId) (refusal : Refusal) (s : State) → IsFreshTurn s (refused s req refusal)
refused_fresh req refusal s =
    turn_fresh s (refusal_plan s req refusal [] (Some refusal)) (said_follows (keeps_refusal s req refusal && fits s.log (Said req refusal ∷ [])) req refusal s.durable.next_version)

pub ended_fresh : (req : ReqId) (refusal : Refusal) (s : State) → IsFreshTurn s (ended_by s req refusal)
ended_fresh req refusal s =
    turn_fresh s (refusal_plan s req refusal (end_changes s req) None) (said_follows (keeps_refusal s req refusal && fits s.log (Said req refusal ∷ [])) req refusal s.durable.next_version)

pub all_ended_fresh : (reqs : List ReqId) (refusal : Refusal) (s : State) → IsFreshTurn s (all_ended_by s reqs refusal)
all_ended_fresh reqs refusal s = each_fresh reqs (λ req next. ended_by next req refusal) (λ req next. ended_fresh req refusal next) s

said_same : (b : Bool) (s : State) (req : ReqId) (refusal : Refusal) → (fold with_record s (if b then Said req refusal ∷ [] else [])).durable.next_version ≡ s.durable.next_version
unfolding applied
said_same true s req refusal = refl
said_same false s req refusal = refl

-- calls that end take no version
pub all_ended_same : (reqs : List ReqId) (refusal : Refusal) (s : State) → (all_ended_by s reqs refusal).after.durable.next_version ≡ s.durable.next_version
all_ended_same [] refusal s = refl
all_ended_same (req ∷ reqs) refusal s =
    all_ended_same reqs refusal (ended_by s req refusal).after ∙ said_same (keeps_refusal s req refusal && fits s.log (Said req refusal ∷ [])) s req refusal

-- ---- versions that are left

pub not_false : (b : Bool) → not b ≡ false → b ≡ true
not_false true e = refl
not_false false e = absurd (false≢true (sym e))

-- where a version is left, the next one is above 0
some_left : (next many : ℕ) → 0 < many → nat_le many (values_left next) ≡ true → 0 < next
some_left next many some left = by_zero (next == 0) refl left
  where
    by_zero : (b : Bool) → (next == 0) ≡ b → nat_le many (if b then 0 else last_number - next + 1) ≡ true → 0 < next
    by_zero true is h = absurd (grind (arith, nat_tests))
    by_zero false is h = grind (arith, nat_tests)

above_is_fresh : (next : ℕ) → 0 < next → is_fresh next next ≡ true
above_is_fresh next above = grind (arith, nat_tests)

pub next_is_fresh : (next many : ℕ) → 0 < many → nat_le many (values_left next) ≡ true → is_fresh next next ≡ true
next_is_fresh next many some left = above_is_fresh next (some_left next many some left)

-- a record that proposes the next version alone
pub next_follows : (next chunk : ℕ) → nat_le 1 (values_left next) ≡ true → list_all (may_follow next) (Propose chunk next ∷ []) ≡ true
next_follows next chunk left = and_from (is_fresh next next) true (next_is_fresh next 1 (omega arith) left) refl

-- so one less is left behind it, also where the record doesn't fit
fewer_left : (next many : ℕ) → nat_le (suc many) (values_left next) ≡ true → nat_le many (values_left next) ≡ true
fewer_left next many left = grind (arith, nat_tests)

one_less : (next many : ℕ) → nat_le (suc many) (values_left next) ≡ true → nat_le many (values_left (after_number next)) ≡ true
one_less next many left = grind (arith, nat_tests)

left_either : (b : Bool) (d n : Durable) (many : ℕ) → has_versions d many ≡ true → has_versions n many ≡ true → has_versions (unwrap_or (if_fits b n) d) many ≡ true
left_either true d n many before after = after
left_either false d n many before after = before

pub left_after : (s : State) (chunk many : ℕ) → has_versions s.durable (suc many) ≡ true → has_versions (with_record s (Propose chunk s.durable.next_version)).durable many ≡ true
unfolding applied
left_after s chunk many left =
    left_either (may_propose s.durable.phase s.durable.next_handle s.durable.next_version chunk s.durable.next_version (fin.get s.durable.chunks chunk)) s.durable
    (proposed s.durable chunk s.durable.next_version) many (fewer_left s.durable.next_version many left) (one_less s.durable.next_version many left)

-- several are begun, where so many versions are left
pub all_begun_fresh : (many : List ℕ) (purpose : Purpose) (call : Option ReqId) (s : State) → has_versions s.durable (length many) ≡ true → IsFreshTurn s (all_begun s many purpose call)
all_begun_fresh [] purpose call s left = same_fresh s
all_begun_fresh (chunk ∷ many) purpose call s left =
    then_fresh s (begun s chunk purpose call) (λ next. all_begun next many purpose call)
    (turn_fresh s (begin_at s chunk purpose call)
    (and_from (is_fresh s.durable.next_version s.durable.next_version) true (next_is_fresh s.durable.next_version (suc (length many)) (omega arith) left) refl))
    (all_begun_fresh many purpose call (begun s chunk purpose call).after (left_after s chunk (length many) left))
