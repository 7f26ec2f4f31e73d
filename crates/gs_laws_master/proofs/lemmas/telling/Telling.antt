-- Turns whose records tell what they can, and what they leave of the calls that wait and of the new chunks; and how they follow one another.
use Rattle.std.proofs.Common.{◌≡◌, ◌∙◌, ◌==◌, ◌&&◌, ◌||◌, ℕ, zero, suc, Bool, true, false, not, cond, List, [], ◌∷◌, ◌++◌, filter, refl, sym, ap, subst, arith}
use Rattle.std.specs.Prelude.{flat_map, Option, Some, None, Ok, Err, if◌then◌else◌, position, slice_set}
use Rattle.std.specs.FinMap as fin
use Rattle.std.specs.List.{list_any, AllByRecursion}
use Rattle.std.proofs.lemmas.Bool.{false≢true}
use Rattle.std.proofs.lemmas.Bool.Decides.{nat_tests}
use Rattle.std.proofs.lemmas.Str.{is_utf8-from_IsUtf8, IsUtf8-nil}
use Rattle.gs_base.specs.Members.{is_member}
use Rattle.gs_base.specs.declared.numbers.ReqId.{ReqId}
use Rattle.gs_base.specs.declared.refusal.Refusal.{Refusal}
use Rattle.gs_lease.specs.declared.view.Purpose.{Purpose}
use Rattle.gs_msg.specs.declared.answer.Answer.{Answer}
use Rattle.gs_master_record.specs.Plain.{PlainEntry, Said, Propose}
use Rattle.gs_master_record.specs.Writable.{IsRequest, IsText, IsWritable}
use Rattle.gs_master_spec.specs.Beginning.{begin_at, begun, all_begun}
use Rattle.gs_master_spec.specs.Replies.{is_later}
use Rattle.gs_master_spec.specs.Settling.{requests_of}
use Rattle.gs_master_spec.specs.State.{State, Plan, Turn, turned, unmoved, and_then, for_each, fits, refused, ended_by, all_ended_by, answer_changes, keeps_refusal, kept_in_memory, last_reply, refusal_plan, said_changes, said_records, end_changes}
use Rattle.gs_master_spec.specs.Volatile.{Volatile, all_changed, changed, is_call, let_go, let_go_of, waits_at, without_call}
use Rattle.gs_master_spec.specs.declared.asking.Asking.{Asking}
use Rattle.gs_master_spec.specs.declared.change.Change.{Change}
use Rattle.gs_master_spec.specs.declared.change.Change.TheVariants as changes
use Rattle.gs_master_spec.specs.declared.pending.Pending.{Pending}
use Rattle.gs_laws_master.specs.Written.{IsTaken, IsTakenWaiting}
use Rattle.gs_laws_master.proofs.lemmas.standing.Standing.{same_call}
use Rattle.gs_laws_master.proofs.lemmas.telling.Tellable.{IsTellable}

-- ---- lists

pub all_both : {A : Type 0} (P : A → Type 0) (xs ys : List A) → AllByRecursion P xs → AllByRecursion P ys → AllByRecursion P (xs ++ ys)
all_both P [] ys a b = b
all_both P (x ∷ xs) ys a b = (a.0, all_both P xs ys a.1 b)

pub all_filtered : {A : Type 0} (P : A → Type 0) (f : A → Bool) (xs : List A) → AllByRecursion P xs → AllByRecursion P (filter f xs)
all_filtered P f [] a = tt
all_filtered P f (x ∷ xs) a = by_test (f x) (all_filtered P f xs a.1)
  where
    by_test : (b : Bool) → AllByRecursion P (filter f xs) → AllByRecursion P (cond b (x ∷ filter f xs) (filter f xs))
    by_test true rest = (a.0, rest)
    by_test false rest = rest

pub all_requests : (ps : List Pending) → AllByRecursion IsTaken ps → AllByRecursion IsRequest (requests_of ps)
all_requests [] a = tt
all_requests (p ∷ ps) a = (a.0.0, all_requests ps a.1)

-- ---- refusals that can be told

pub bare : IsText []
bare = (omega arith, is_utf8-from_IsUtf8 [] IsUtf8-nil)

-- ---- what is proposed

abbrev pub is_for : ℕ → PlainEntry → Bool
is_for chunk (Propose new version) = new == chunk
is_for chunk entry = false

abbrev pub proposes : ℕ → List PlainEntry → Bool
proposes chunk entries = list_any (is_for chunk) entries

proposes_later : (chunk : ℕ) (xs ys : List PlainEntry) → proposes chunk (xs ++ ys) ≡ (proposes chunk xs || proposes chunk ys)
proposes_later chunk [] ys = refl
proposes_later chunk (x ∷ xs) ys = ap (λ b. is_for chunk x || b) (proposes_later chunk xs ys) ∙ either (is_for chunk x) (proposes chunk xs) (proposes chunk ys)
  where
    either : (a b c : Bool) → (a || (b || c)) ≡ ((a || b) || c)
    either true b c = refl
    either false b c = refl

-- ---- changes

-- a new chunk is one that is proposed; a call that waits can be told
abbrev pub IsToldChange : List PlainEntry → Change → Type 0
IsToldChange records (changes.Enter chunk) = proposes chunk records ≡ true
IsToldChange records (changes.Begin p) = IsTaken p
IsToldChange records (changes.Wait req waiting) = IsRequest req × IsTakenWaiting waiting
IsToldChange records change = Unit {0}

-- what is left of the calls, and of the new chunks
record Leaves (records : List PlainEntry) (v w : Volatile) : Type 0 where
  calls : AllByRecursion IsTaken v.pending → AllByRecursion IsTaken w.pending
  unplaced : (c : ℕ) → is_member w.unplaced c ≡ true → (is_member v.unplaced c || proposes c records) ≡ true

or_first : (a b : Bool) → a ≡ true → (a || b) ≡ true
or_first true b h = refl
or_first false b h = absurd (false≢true h)

or_second : (a b : Bool) → b ≡ true → (a || b) ≡ true
or_second true b h = refl
or_second false b h = h

-- one more at the end
more_member : (xs : List ℕ) (x c : ℕ) → is_member (xs ++ x ∷ []) c ≡ true → (is_member xs c || (x == c)) ≡ true
more_member [] x c h = one (x == c) h
  where
    one : (b : Bool) → (b || false) ≡ true → b ≡ true
    one true k = refl
    one false k = k
more_member (y ∷ xs) x c h = by_head (more_member xs x c) (y == c) h
  where
    by_head : (is_member (xs ++ x ∷ []) c ≡ true → (is_member xs c || (x == c)) ≡ true) → (b : Bool) → (b || is_member (xs ++ x ∷ []) c) ≡ true → ((b || is_member xs c) || (x == c)) ≡ true
    by_head rest true k = refl
    by_head rest false k = rest k

pub fewer_member : (xs : List ℕ) (f : ℕ → Bool) (c : ℕ) → is_member (filter f xs) c ≡ true → is_member xs c ≡ true
fewer_member [] f c h = h
fewer_member (x ∷ xs) f c h = by_test (fewer_member xs f c) (f x) h
  where
    by_head : (is_member (filter f xs) c ≡ true → is_member xs c ≡ true) → (b : Bool) → (b || is_member (filter f xs) c) ≡ true → (b || is_member xs c) ≡ true
    by_head rest true k = refl
    by_head rest false k = rest k

    by_test : (is_member (filter f xs) c ≡ true → is_member xs c ≡ true) → (b : Bool) → is_member (cond b (x ∷ filter f xs) (filter f xs)) c ≡ true → ((x == c) || is_member xs c) ≡ true
    by_test rest true k = by_head rest (x == c) k
    by_test rest false k = or_second (x == c) (is_member xs c) (rest k)

set_taken : (ps : List Pending) (i : ℕ) (p : Pending) → AllByRecursion IsTaken ps → IsTaken p → AllByRecursion IsTaken (slice_set ps i p)
set_taken [] i p all one = tt
set_taken (q ∷ ps) zero p all one = (one, all.1)
set_taken (q ∷ ps) (suc i) p all one = (all.0, set_taken ps i p all.1 one)

same_left : (records : List PlainEntry) (v w : Volatile) → w.pending ≡ v.pending → w.unplaced ≡ v.unplaced → Leaves records v w
same_left records v w pending unplaced = record {
  calls = λ all. subst (AllByRecursion IsTaken) (sym pending) all;
  unplaced = λ c here. or_first (is_member v.unplaced c) (proposes c records) (ap (λ u. is_member u c) (sym unplaced) ∙ here);
}

change_left : (records : List PlainEntry) (v : Volatile) (change : Change) → IsToldChange records change → Leaves records v (changed v change)
change_left records v (changes.Ask chunk asking) t = same_left records v _ refl refl
change_left records v (changes.Settled chunk) t = same_left records v _ refl refl
change_left records v (changes.Enter chunk) t = record {
  calls = λ all. all;
  unplaced = λ c here. by_new c (chunk == c) refl (more_member v.unplaced chunk c here);
}
  where
    same_number : (a b : ℕ) → (a == b) ≡ true → a ≡ b
    same_number a b e = grind (arith, nat_tests)

    one : (b : Bool) → (b || false) ≡ true → b ≡ true
    one true k = refl
    one false k = k

    by_new : (c : ℕ) (b : Bool) → (chunk == c) ≡ b → (is_member v.unplaced c || b) ≡ true → (is_member v.unplaced c || proposes c records) ≡ true
    by_new c true is h = or_second (is_member v.unplaced c) (proposes c records) (ap (λ x. proposes x records) (sym (same_number chunk c is)) ∙ t)
    by_new c false is h = or_first (is_member v.unplaced c) (proposes c records) (one (is_member v.unplaced c) h)
change_left records v (changes.Place chunk) t = record { calls = λ all. all; unplaced = λ c here. or_first (is_member v.unplaced c) (proposes c records) (fewer_member v.unplaced _ c here) }
change_left records v (changes.Lose chunk) t = record { calls = λ all. all; unplaced = λ c here. or_first (is_member v.unplaced c) (proposes c records) (fewer_member v.unplaced _ c here) }
change_left records v (changes.Forget chunks) t = same_left records v _ refl refl
change_left records v (changes.Begin p) t = record { calls = λ all. all_both IsTaken v.pending (p ∷ []) all (t, tt); unplaced = λ c here. or_first (is_member v.unplaced c) (proposes c records) here }
change_left records v (changes.Wait req waiting) t = record {
  calls = λ all. by_place (position (λ (p : Pending). same_call p.req req) v.pending) all;
  unplaced = λ c here. or_first (is_member v.unplaced c) (proposes c records) here;
}
  where
    by_place : (place : Option ℕ) → AllByRecursion IsTaken v.pending → AllByRecursion IsTaken (waits_at v.pending req waiting place)
    by_place None all = all
    by_place (Some i) all = set_taken v.pending i (record { req = req; waits = waiting }) all t
change_left records v (changes.End req) t = record { calls = λ all. all_filtered IsTaken _ v.pending all; unplaced = λ c here. or_first (is_member v.unplaced c) (proposes c records) here }
change_left records v (changes.Prepare is_preparing) t = same_left records v _ refl refl
change_left records v (changes.Keep client reply) t = same_left records v _ refl refl
change_left records v (changes.Restored server chunks) t = same_left records v _ refl refl
change_left records v changes.RolledBack t = record { calls = λ all. all; unplaced = λ c here. absurd (false≢true here) }

both_left : (records : List PlainEntry) (u v w : Volatile) → Leaves records u v → Leaves records v w → Leaves records u w
both_left records u v w a b = record {
  calls = λ all. b.calls (a.calls all);
  unplaced = λ c here. by_first c (is_member v.unplaced c) refl (b.unplaced c here);
}
  where
    by_first : (c : ℕ) (m : Bool) → is_member v.unplaced c ≡ m → (m || proposes c records) ≡ true → (is_member u.unplaced c || proposes c records) ≡ true
    by_first c true is h = a.unplaced c is
    by_first c false is h = or_second (is_member u.unplaced c) (proposes c records) h

changes_left : (records : List PlainEntry) (cs : List Change) (v : Volatile) → AllByRecursion (IsToldChange records) cs → Leaves records v (all_changed v cs)
changes_left records [] v t = same_left records v v refl refl
changes_left records (c ∷ cs) v t = both_left records v (changed v c) (all_changed v (c ∷ cs)) (change_left records v c t.0) (changes_left records cs (changed v c) t.1)

-- ---- turns

-- each record tells what it can; so it is of the calls that wait then; and a new chunk was new, or is proposed
pub record TellsTurn (s : State) (t : Turn) : Type 0 where
  pub told : AllByRecursion IsTellable t.records
  pub calls : AllByRecursion IsTaken s.volatile.pending → AllByRecursion IsTaken t.after.volatile.pending
  pub unplaced : (c : ℕ) → is_member t.after.volatile.unplaced c ≡ true → (is_member s.volatile.unplaced c || proposes c t.records) ≡ true

-- nothing is recorded, and no call and no new chunk comes
pub quiet_tells : (s : State) (t : Turn) → t.records ≡ [] → t.after.volatile.pending ≡ s.volatile.pending → t.after.volatile.unplaced ≡ s.volatile.unplaced → TellsTurn s t
quiet_tells s t none pending unplaced =
    let l = same_left t.records s.volatile t.after.volatile pending unplaced in record { told = subst (AllByRecursion IsTellable) (sym none) tt; calls = l.calls; unplaced = l.unplaced }

pub same_tells : (s : State) → TellsTurn s (unmoved s)
same_tells s = quiet_tells s (unmoved s) refl refl refl

pub then_tells : (s : State) (t : Turn) (f : State → Turn) → TellsTurn s t → TellsTurn t.after (f t.after) → TellsTurn s (and_then t f)
then_tells s t f a b = record {
  told = all_both IsTellable t.records (f t.after).records a.told b.told;
  calls = λ all. b.calls (a.calls all);
  unplaced = λ c here. ap (λ x. is_member s.volatile.unplaced c || x) (proposes_later c t.records (f t.after).records)
      ∙ or_three (is_member s.volatile.unplaced c) (is_member t.after.volatile.unplaced c) (proposes c t.records) (proposes c (f t.after).records) (b.unplaced c here) (a.unplaced c);
}
  where
    or_three : (m n p q : Bool) → (n || q) ≡ true → (n ≡ true → (m || p) ≡ true) → (m || (p || q)) ≡ true
    or_three true n p q h g = refl
    or_three false n true q h g = refl
    or_three false true false q h g = absurd (false≢true (g refl))
    or_three false false false q h g = h

pub each_tells : {A : Type 0} (P : A → Type 0) (xs : List A) (step : A → State → Turn) → AllByRecursion P xs → ((x : A) (s : State) → P x → TellsTurn s (step x s)) → (s : State) → TellsTurn s (for_each s xs step)
each_tells P [] step all h s = same_tells s
each_tells P (x ∷ xs) step all h s = then_tells s (step x s) (λ next. for_each next xs step) (h x s all.0) (each_tells P xs step all.1 h (step x s).after)

pub test_tells : (s : State) (b : Bool) (t u : Turn) → (b ≡ true → TellsTurn s t) → (b ≡ false → TellsTurn s u) → TellsTurn s (if b then t else u)
test_tells s true t u f g = f refl
test_tells s false t u f g = g refl

pub either_tells : (s : State) (b : Bool) (t u : Turn) → TellsTurn s t → TellsTurn s u → TellsTurn s (if b then t else u)
either_tells s b t u f g = test_tells s b t u (λ is. f) (λ is. g)

-- ---- plans

pub plan_tells : (s : State) (plan : Plan) → AllByRecursion IsTellable plan.records → AllByRecursion (IsToldChange plan.records) plan.changes → TellsTurn s (turned s plan)
plan_tells s plan told cs = let l = changes_left plan.records plan.changes s.volatile cs in record { told = told; calls = l.calls; unplaced = l.unplaced }

-- ---- refusals

let_go_told : (records : List PlainEntry) (req : ReqId) (unplaced : List ℕ) (es : List (ℕ × Asking)) → AllByRecursion (IsToldChange records) (flat_map (let_go_of unplaced req) es)
let_go_told records req unplaced [] = tt
let_go_told records req unplaced (e ∷ es) =
    all_both (IsToldChange records) (let_go_of unplaced req e) (flat_map (let_go_of unplaced req) es) (one (not (is_call req e.1.call)) (is_member unplaced e.0)) (let_go_told records req unplaced es)
  where
    one : (b c : Bool) → AllByRecursion (IsToldChange records) (if b then [] else if c then changes.Lose e.0 ∷ [] else changes.Ask e.0 (without_call e.1) ∷ [])
    one true c = tt
    one false true = (tt, tt)
    one false false = (tt, tt)

pub answer_told : (records : List PlainEntry) (s : State) (req : ReqId) (answer : Answer) → AllByRecursion (IsToldChange records) (answer_changes s req answer)
answer_told records s req answer = by_test (is_later (last_reply s req.client) req.number)
  where
    by_test : (b : Bool) → AllByRecursion (IsToldChange records) (if b then kept_in_memory req (Ok answer) ∷ [] else [])
    by_test true = (tt, tt)
    by_test false = tt

refusal_tells : (s : State) (req : ReqId) (refusal : Refusal) (further : List Change) (said : Option Refusal) → IsRequest req → IsWritable refusal → ((records : List PlainEntry) → AllByRecursion (IsToldChange records) further) → TellsTurn s (turned s (refusal_plan s req refusal further said))
refusal_tells s req refusal further said heard can cs =
    plan_tells s (refusal_plan s req refusal further said) (recorded (keeps_refusal s req refusal && fits s.log (Said req refusal ∷ [])))
    (all_both (IsToldChange (said_records (keeps_refusal s req refusal) s.log req refusal)) (said_changes (keeps_refusal s req refusal) s.log req refusal) further
    (kept (said_records (keeps_refusal s req refusal) s.log req refusal) (keeps_refusal s req refusal && not (fits s.log (Said req refusal ∷ [])))) (cs (said_records (keeps_refusal s req refusal) s.log req refusal)))
  where
    recorded : (b : Bool) → AllByRecursion IsTellable (if b then Said req refusal ∷ [] else [])
    recorded true = ((heard, can), tt)
    recorded false = tt

    kept : (records : List PlainEntry) (b : Bool) → AllByRecursion (IsToldChange records) (if b then kept_in_memory req (Err refusal) ∷ [] else [])
    kept records true = (tt, tt)
    kept records false = tt

pub refused_tells : (req : ReqId) (refusal : Refusal) (s : State) → IsRequest req → IsWritable refusal → TellsTurn s (refused s req refusal)
refused_tells req refusal s heard can = refusal_tells s req refusal [] (Some refusal) heard can (λ records. tt)

pub ended_tells : (req : ReqId) (refusal : Refusal) (s : State) → IsRequest req → IsWritable refusal → TellsTurn s (ended_by s req refusal)
ended_tells req refusal s heard can =
    refusal_tells s req refusal (end_changes s req) None heard can
    (λ records. all_both (IsToldChange records) (let_go s.volatile req) (changes.End req ∷ []) (let_go_told records req s.volatile.unplaced (fin.entries s.volatile.moving)) (tt, tt))

pub all_ended_tells : (reqs : List ReqId) (refusal : Refusal) (s : State) → AllByRecursion IsRequest reqs → IsWritable refusal → TellsTurn s (all_ended_by s reqs refusal)
all_ended_tells reqs refusal s heard can = each_tells IsRequest reqs (λ req next. ended_by next req refusal) heard (λ req next own. ended_tells req refusal next own can) s

-- ---- what is begun

pub all_begun_tells : (many : List ℕ) (purpose : Purpose) (call : Option ReqId) (s : State) → TellsTurn s (all_begun s many purpose call)
all_begun_tells [] purpose call s = same_tells s
all_begun_tells (chunk ∷ many) purpose call s =
    then_tells s (begun s chunk purpose call) (λ next. all_begun next many purpose call) (plan_tells s (begin_at s chunk purpose call) (tt, tt) (tt, tt)) (all_begun_tells many purpose call (begun s chunk purpose call).after)
