-- Calls that wait are ended one after the other: each still waits when those before it have ended.
use Rattle.std.proofs.Common.{◌≡◌, ◌∙◌, ◌&&◌, ◌||◌, ◌++◌, ℕ, Bool, true, false, not, cond, filter, List, [], ◌∷◌, refl, ap, sym}
use Rattle.std.specs.Prelude.{flat_map, Some, Err, if◌then◌else◌}
use Rattle.std.specs.FinMap as fin
use Rattle.std.specs.List.{AllByRecursion, list_all}
use Rattle.std.proofs.lemmas.Bool.{false≢true, true≢false, and_parts}
use Rattle.gs_base.specs.Members.{is_member}
use Rattle.gs_base.specs.declared.numbers.ReqId.{ReqId}
use Rattle.gs_base.specs.declared.refusal.Refusal.{Refusal}
use Rattle.gs_master_record.specs.Plain.{Said}
use Rattle.gs_master_spec.specs.Settling.{requests_of}
use Rattle.gs_master_spec.specs.State.{State, end_changes, ended_by, fits, keeps_refusal, kept_in_memory, said_changes}
use Rattle.gs_master_spec.specs.Volatile.{Volatile, all_changed, changed, is_call, is_pending, let_go, let_go_of, without_call, without_pending}
use Rattle.gs_master_spec.specs.declared.asking.Asking.{Asking}
use Rattle.gs_master_spec.specs.declared.change.Change.{Change}
use Rattle.gs_master_spec.specs.declared.change.Change.TheVariants as changes
use Rattle.gs_master_spec.specs.declared.pending.Pending.{Pending}
use Rattle.gs_master_spec.specs.declared.pending.Waiting.{Waiting}
use Rattle.gs_laws_master.proofs.lemmas.standing.Standing.{apart_parts, changed_more, same_call, same_parts, same_self}
use Rattle.gs_laws_moves.specs.moves.Guards.{IsWaiting}
use Rattle.gs_master_state.specs.Sane.{are_apart, is_waited_by}

-- each waits, and the next ones do without it
abbrev pub AllPending : List Pending → List ReqId → Type 0
AllPending ps [] = Unit {0}
AllPending ps (req ∷ reqs) = (is_pending ps req ≡ true) × AllPending (without_pending ps req) reqs

-- ---- who is ended waits no more, and the others do

-- a change that leaves the calls that wait
abbrev pub leaves_calls : Change → Bool
leaves_calls (changes.Begin p) = false
leaves_calls (changes.Wait req waiting) = false
leaves_calls (changes.End req) = false
leaves_calls change = true

change_leaves : (v : Volatile) (change : Change) → leaves_calls change ≡ true → (changed v change).pending ≡ v.pending
change_leaves v (changes.Begin p) is = absurd (false≢true is)
change_leaves v (changes.Wait req waiting) is = absurd (false≢true is)
change_leaves v (changes.End req) is = absurd (false≢true is)
change_leaves v (changes.Keep client reply) is = refl
change_leaves v (changes.Ask q asking) is = refl
change_leaves v (changes.Settled q) is = refl
change_leaves v (changes.Enter q) is = refl
change_leaves v (changes.Place q) is = refl
change_leaves v (changes.Lose q) is = refl
change_leaves v (changes.Forget chunks) is = refl
change_leaves v (changes.Prepare is_preparing) is = refl
change_leaves v (changes.Restored server chunks) is = refl
change_leaves v changes.RolledBack is = refl

pub changes_leave : (cs : List Change) (v : Volatile) → list_all leaves_calls cs ≡ true → (all_changed v cs).pending ≡ v.pending
changes_leave [] v all = refl
changes_leave (c ∷ cs) v all = (let parts = and_parts (leaves_calls c) (list_all leaves_calls cs) all in changes_leave cs (changed v c) parts.1 ∙ change_leaves v c parts.0)

both_leave : (xs ys : List Change) → list_all leaves_calls xs ≡ true → list_all leaves_calls ys ≡ true → list_all leaves_calls (xs ++ ys) ≡ true
both_leave [] ys a b = b
both_leave (x ∷ xs) ys a b = (let parts = and_parts (leaves_calls x) (list_all leaves_calls xs) a in ap (λ t. t && list_all leaves_calls (xs ++ ys)) parts.0 ∙ both_leave xs ys parts.1 b)

let_go_leaves : (new : List ℕ) (req : ReqId) (es : List (ℕ × Asking)) → list_all leaves_calls (flat_map (let_go_of new req) es) ≡ true
let_go_leaves new req [] = refl
let_go_leaves new req (e ∷ es) = both_leave (let_go_of new req e) (flat_map (let_go_of new req) es) (by_tests (is_call req e.1.call) (is_member new e.0)) (let_go_leaves new req es)
  where
    by_tests : (c n : Bool) → list_all leaves_calls (if not c then [] else if n then changes.Lose e.0 ∷ [] else changes.Ask e.0 (without_call e.1) ∷ []) ≡ true
    by_tests false n = refl
    by_tests true true = refl
    by_tests true false = refl

pub said_leave : (s : State) (req : ReqId) (refusal : Refusal) → list_all leaves_calls (said_changes (keeps_refusal s req refusal) s.log req refusal) ≡ true
said_leave s req refusal = by_test (keeps_refusal s req refusal && not (fits s.log (Said req refusal ∷ [])))
  where
    by_test : (b : Bool) → list_all leaves_calls (if b then kept_in_memory req (Err refusal) ∷ [] else []) ≡ true
    by_test true = refl
    by_test false = refl

pub ended_pending : (s : State) (req : ReqId) (refusal : Refusal) → (ended_by s req refusal).after.volatile.pending ≡ without_pending s.volatile.pending req
ended_pending s req refusal =
    let said = said_changes (keeps_refusal s req refusal) s.log req refusal in
    let went = let_go s.volatile req in
    let v = all_changed s.volatile said in
    ap (λ (w : Volatile). w.pending) (changed_more said (end_changes s req) s.volatile ∙ changed_more went (changes.End req ∷ []) v)
    ∙ ap (λ ps. without_pending ps req) (changes_leave went v (let_go_leaves s.volatile.unplaced req (fin.entries s.volatile.moving)) ∙ changes_leave said s.volatile (said_leave s req refusal))

-- ---- calls of a list that wait apart

pub has_ended : (ps : List Pending) (req : ReqId) → is_pending (without_pending ps req) req ≡ false
has_ended [] req = refl
has_ended (p ∷ ps) req = by_test (same_call req p.req) refl (has_ended ps req)
  where
    by_test : (b : Bool) → same_call req p.req ≡ b → is_pending (without_pending ps req) req ≡ false → is_pending (cond (not b) (p ∷ without_pending ps req) (without_pending ps req)) req ≡ false
    by_test true is rest = rest
    by_test false is rest = ap (λ b. b || is_pending (without_pending ps req) req) is ∙ rest

other_stays : (ps : List Pending) (req q : ReqId) → (req ≡ q → ⊥) → is_pending ps q ≡ true → is_pending (without_pending ps req) q ≡ true
other_stays [] req q other there = there
other_stays (p ∷ ps) req q other there = by_tests (same_call req p.req) (same_call q p.req) refl refl there (other_stays ps req q other)
  where
    by_tests : (a b : Bool) → same_call req p.req ≡ a → same_call q p.req ≡ b → (b || is_pending ps q) ≡ true → (is_pending ps q ≡ true → is_pending (without_pending ps req) q ≡ true) → is_pending (cond (not a) (p ∷ without_pending ps req) (without_pending ps req)) q ≡ true
    by_tests true true mine his some rest = absurd (other (same_parts req p.req mine ∙ sym (same_parts q p.req his)))
    by_tests true false mine his some rest = rest some
    by_tests false true mine his some rest = ap (λ b. b || is_pending (without_pending ps req) q) his
    by_tests false false mine his some rest = ap (λ b. b || is_pending (without_pending ps req) q) his ∙ rest some

abbrev AllIn : List Pending → List Pending → Type 0
AllIn ps qs = AllByRecursion (λ (q : Pending). is_pending ps q.req ≡ true) qs

rest_in : (ps qs : List Pending) (req : ReqId) → is_pending qs req ≡ false → AllIn ps qs → AllIn (without_pending ps req) qs
rest_in ps [] req out all = tt
rest_in ps (q ∷ qs) req out all = by_test (same_call req q.req) refl out (rest_in ps qs req)
  where
    differs : same_call req q.req ≡ false → req ≡ q.req → ⊥
    differs other is = true≢false (sym (same_self req) ∙ ap (same_call req) is ∙ other)

    by_test : (b : Bool) → same_call req q.req ≡ b → (b || is_pending qs req) ≡ false → (is_pending qs req ≡ false → AllIn ps qs → AllIn (without_pending ps req) qs) → AllIn (without_pending ps req) (q ∷ qs)
    by_test true is none rest = absurd (true≢false none)
    by_test false is none rest = (other_stays ps req q.req (differs is) all.0, rest none all.1)

all_pending : (ps qs : List Pending) → are_apart qs ≡ true → AllIn ps qs → AllPending ps (requests_of qs)
all_pending ps [] apart all = tt
all_pending ps (q ∷ qs) apart all = (let parts = apart_parts q qs apart in (all.0, all_pending (without_pending ps q.req) qs parts.1 (rest_in ps qs q.req parts.0 all.1)))

-- those of a list that pass a test are apart too, and each of them waits
fewer_out : (f : Pending → Bool) (ps : List Pending) (req : ReqId) → is_pending ps req ≡ false → is_pending (filter f ps) req ≡ false
fewer_out f [] req out = refl
fewer_out f (p ∷ ps) req out = by_tests (f p) (same_call req p.req) refl out (fewer_out f ps req)
  where
    by_tests : (a b : Bool) → same_call req p.req ≡ b → (b || is_pending ps req) ≡ false → (is_pending ps req ≡ false → is_pending (filter f ps) req ≡ false) → is_pending (cond a (p ∷ filter f ps) (filter f ps)) req ≡ false
    by_tests a true is none rest = absurd (true≢false none)
    by_tests true false is none rest = ap (λ b. b || is_pending (filter f ps) req) is ∙ rest none
    by_tests false false is none rest = rest none

fewer_apart : (f : Pending → Bool) (ps : List Pending) → are_apart ps ≡ true → are_apart (filter f ps) ≡ true
fewer_apart f [] apart = refl
fewer_apart f (p ∷ ps) apart = (let parts = apart_parts p ps apart in by_test (f p) (fewer_out f ps p.req parts.0) (fewer_apart f ps parts.1))
  where
    by_test : (b : Bool) → is_pending (filter f ps) p.req ≡ false → are_apart (filter f ps) ≡ true → are_apart (cond b (p ∷ filter f ps) (filter f ps)) ≡ true
    by_test true out rest = ap (λ b. if b then false else are_apart (filter f ps)) out ∙ rest
    by_test false out rest = rest

one_more : (p : Pending) (ps qs : List Pending) → AllIn ps qs → AllIn (p ∷ ps) qs
one_more p ps [] all = tt
one_more p ps (q ∷ qs) all = (second (same_call q.req p.req) all.0, one_more p ps qs all.1)
  where
    second : (a : Bool) {b : Bool} → b ≡ true → (a || b) ≡ true
    second true e = refl
    second false e = e

fewer_in : (f : Pending → Bool) (ps : List Pending) → AllIn ps (filter f ps)
fewer_in f [] = tt
fewer_in f (p ∷ ps) = by_test (f p) (one_more p ps (filter f ps) (fewer_in f ps))
  where
    by_test : (b : Bool) → AllIn (p ∷ ps) (filter f ps) → AllIn (p ∷ ps) (cond b (p ∷ filter f ps) (filter f ps))
    by_test true rest = (ap (λ b. b || is_pending ps p.req) (same_self p.req), rest)
    by_test false rest = rest

-- So calls that wait can be ended one after the other: those that pass a test, or all.
pub some_pending : (f : Pending → Bool) (ps : List Pending) → are_apart ps ≡ true → AllPending ps (requests_of (filter f ps))
some_pending f ps apart = all_pending ps (filter f ps) (fewer_apart f ps apart) (fewer_in f ps)

itself_in : (ps : List Pending) → AllIn ps ps
itself_in [] = tt
itself_in (p ∷ ps) = (ap (λ b. b || is_pending ps p.req) (same_self p.req), one_more p ps ps (itself_in ps))

pub each_pending : (ps : List Pending) → are_apart ps ≡ true → AllPending ps (requests_of ps)
each_pending ps apart = all_pending ps ps apart (itself_in ps)

-- a call that waits for something waits
pub does_wait : (s : State) (req : ReqId) (test : Waiting → Bool) → IsWaiting s req test → is_pending s.volatile.pending req ≡ true
does_wait s req test = weaker s.volatile.pending
  where
    turned_about : (a b : ReqId) → same_call a b ≡ true → same_call b a ≡ true
    turned_about a b h = ap (same_call b) (same_parts a b h) ∙ same_self b

    weaker : (ps : List Pending) → is_waited_by (Some req) test ps ≡ true → is_pending ps req ≡ true
    weaker [] some = some
    weaker (q ∷ ps) some = by_head (is_call q.req (Some req)) (same_call req q.req) (test q.waits) (turned_about q.req req) some (weaker ps)
      where
        by_head : (a b t : Bool) → (a ≡ true → b ≡ true) → ((a && t) || is_waited_by (Some req) test ps) ≡ true → (is_waited_by (Some req) test ps ≡ true → is_pending ps req ≡ true) → (b || is_pending ps req) ≡ true
        by_head true b t same some rest = ap (λ c. c || is_pending ps req) (same refl)
        by_head false true t same some rest = refl
        by_head false false t same some rest = rest some
