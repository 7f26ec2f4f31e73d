-- A call that is taken finds its paths free.
use Rattle.std.proofs.Common.{◌≡◌, ◌∙◌, arith, zero, suc, ◌&&◌, ◌||◌, ◌==◌, ℕ, Bool, true, false, not, cond, List, [], ◌∷◌, refl, ap, sym}
use Rattle.std.specs.Prelude.{is_none, length, nat_lt, slice_get, slice_set, Some, None, Result, Ok, Option, if◌then◌else◌}
use Rattle.std.specs.FinMap as fin
use Rattle.std.specs.List.{list_any}
use Rattle.std.proofs.lemmas.Bool.Decides.{nat_tests}
use Rattle.std.proofs.lemmas.Bool.{true≢false}
use Rattle.gs_base.specs.MemberLaws.{eqb_itself}
use Rattle.gs_base.specs.declared.numbers.ReqId.{ReqId}
use Rattle.gs_base.specs.declared.refusal.Refusal.{Refusal}
use Rattle.gs_base.specs.declared.refusal.Refusal.TheVariants as refusals
use Rattle.gs_base.specs.declared.refusal.Refusal.TheVariants.{IsADirectory, NotFound, Range}
use Rattle.gs_edit.proofs.Covers.{covered-set}
use Rattle.gs_edit.proofs.Tables.{same_itself}
use Rattle.gs_edit.specs.View.{NamesView}
use Rattle.gs_edit.specs.declared.edit.Edit.TheVariants as edits
use Rattle.gs_lock.specs.Locks.{is_in_the_way, stands_in_the_way}
use Rattle.gs_lock.specs.Locks as locks
use Rattle.gs_lock.specs.Operations.{same_op}
use Rattle.gs_lock.specs.declared.lock.Lock.{Lock}
use Rattle.gs_msg.specs.declared.call.Call.{Call}
use Rattle.gs_path.specs.Path.{Path, begins}
use Rattle.gs_tree.specs.Entry.{Entry, Dir, File}
use Rattle.gs_tree.proofs.Apart.{past, same_answer, through}
use Rattle.gs_tree.specs.Edits.{chunks_in, is_dir, set_chunk, with_chunks}
use Rattle.gs_tree.specs.Plain.{Plain}
use Rattle.gs_laws_master.proofs.lemmas.names.EditsBack.{admitted, done_of}
use Rattle.gs_laws_master.proofs.lemmas.names.Undone.{was_named}
use Rattle.gs_master_record.specs.Plain.{Cow}
use Rattle.gs_master_spec.specs.Undoing.{edited_names}
use Rattle.gs_laws_master.proofs.lemmas.fitting.AcceptedUpgrades.{first_test}
use Rattle.gs_master_spec.specs.Calls.{chunks_at, found_chunk, is_any_deep, is_any_hidden, is_always_taken, is_locked, is_shared, is_shared_in, is_work, reads_of_call, refused_before, writes_of_call}
use Rattle.gs_master_spec.specs.Durable.{is_rolling}
use Rattle.gs_master_spec.specs.State.{State, is_failed}
use Rattle.gs_master_spec.specs.Volatile.{is_pending}
use Rattle.gs_master_spec.specs.declared.pending.Waiting.TheVariants as waits
use Rattle.gs_laws_moves.specs.moves.Guards.{IsFree, waits_for_copy, waits_to_copy, waits_to_extend}

not_locked : (s : State) (req : ReqId) (call : Call) → refused_before s req call ≡ None → is_locked s req call ≡ false
not_locked s req call e =
    let hidden = (is_any_hidden call, refusals.HiddenName) ∷ [] in
    let locked = (is_locked s req call, refusals.Locked) ∷ hidden in
    let deep = (is_any_deep call, refusals.BadPath) ∷ locked in
    let preparing = (s.volatile.is_preparing && is_work call, refusals.Preparing) ∷ deep in
    let rolling = (is_rolling s.durable.phase && not (is_always_taken call), refusals.RollingBack) ∷ preparing in
    let one = first_test (is_failed s.fault) refusals.Device rolling e in
    let two = first_test (is_rolling s.durable.phase && not (is_always_taken call)) refusals.RollingBack preparing one.1 in
    let three = first_test (s.volatile.is_preparing && is_work call) refusals.Preparing deep two.1 in
    let four = first_test (is_any_deep call) refusals.BadPath locked three.1 in
    (first_test (is_locked s req call) refusals.Locked hidden four.1).0

pub free_of : (s : State) (req : ReqId) (call : Call) → is_pending s.volatile.pending req ≡ false → refused_before s req call ≡ None → IsFree s req (reads_of_call call) (writes_of_call s.durable.names call)
free_of s req call new passed = record { new = new; free = not_locked s req call passed }

-- ---- fewer paths are free too

none_of : {A : Type 0} (f g : A → Bool) → ((a : A) → g a ≡ false → f a ≡ false) → (xs : List A) → list_any g xs ≡ false → list_any f xs ≡ false
none_of f g fewer [] none = refl
none_of f g fewer (x ∷ xs) none = by_head (g x) refl (none_of f g fewer xs) none
  where
    by_head : (b : Bool) → g x ≡ b → (list_any g xs ≡ false → list_any f xs ≡ false) → (b || list_any g xs) ≡ false → list_any f (x ∷ xs) ≡ false
    by_head true is rest h = absurd (true≢false h)
    by_head false is rest h = ap (λ b. b || list_any f xs) (fewer x is) ∙ rest h

pub none_free : (s : State) (req : ReqId) (reads writes : List Path) → IsFree s req reads writes → IsFree s req [] []
none_free s req reads writes free = record { new = free.new; free = none_of (is_in_the_way req [] []) (is_in_the_way req reads writes) (λ lock _. nothing lock) s.volatile.locks free.free }
  where
    by_tests : (a b : Bool) → (a && cond b (false || false) false) ≡ false
    by_tests true true = refl
    by_tests true false = refl
    by_tests false b = refl

    nothing : (lock : Lock) → is_in_the_way req [] [] lock ≡ false
    nothing lock = by_tests (not (same_op req lock.op)) lock.writes

pub first_free : (s : State) (req : ReqId) (path : Path) (reads more : List Path) → IsFree s req reads (path ∷ more) → IsFree s req [] (path ∷ [])
first_free s req path reads more free = record { new = free.new; free = none_of (is_in_the_way req [] (path ∷ [])) (is_in_the_way req reads (path ∷ more)) fewer s.volatile.locks free.free }
  where
    by_tests : (a b r c d x y : Bool) → (a && cond b (r || (c || x)) (d || y)) ≡ false → (a && cond b (false || (c || false)) (d || false)) ≡ false
    by_tests false b r c d x y h = refl
    by_tests true true true c d x y h = absurd (true≢false h)
    by_tests true true false true d x y h = absurd (true≢false h)
    by_tests true true false false d x y h = refl
    by_tests true false r c true x y h = absurd (true≢false h)
    by_tests true false r c false x y h = refl

    fewer : (lock : Lock) → is_in_the_way req reads (path ∷ more) lock ≡ false → is_in_the_way req [] (path ∷ []) lock ≡ false
    fewer lock h = by_tests (not (same_op req lock.op)) lock.writes (list_any (begins lock.path) reads) (begins lock.path path) (locks.same_path path lock.path) (list_any (begins lock.path) more) (locks.is_among more lock.path) h

-- ---- the chunk at a place

pub found_here : (o : Option (Entry ℕ)) (index chunk : ℕ) → found_chunk o index ≡ Ok chunk → slice_get (chunks_in o) index ≡ Some chunk
found_here None index chunk is = absurd (let k = is in cc)
found_here (Some Dir) index chunk is = absurd (let k = is in cc)
found_here (Some (File chunks)) index chunk is = by_place chunks index is
  where
    chunk_is : {a b : ℕ} → ◌≡◌ {A = Result ℕ Refusal} (Ok a) (Ok b) → a ≡ b
    chunk_is h = cc

    by_place : (xs : List ℕ) (i : ℕ) → found_chunk (Some (File xs)) i ≡ Ok chunk → slice_get xs i ≡ Some chunk
    by_place [] i h = absurd (let k = h in cc)
    by_place (x ∷ xs) zero h = ap Some (chunk_is h)
    by_place (x ∷ xs) (suc i) h = by_place xs i h

-- a shared one is written
pub shared_free : (s : State) (req : ReqId) (path : Path) (index chunk : ℕ) → slice_get (chunks_at s.durable.names path) index ≡ Some chunk → is_shared s.durable.names chunk ≡ true
    → IsFree s req (path ∷ []) (if is_shared_in s.durable.names (slice_get (chunks_at s.durable.names path) index) then path ∷ [] else []) → IsFree s req (path ∷ []) (path ∷ [])
shared_free s req path index chunk here shared free =
    record { new = free.new; free = sym (ap (λ b. stands_in_the_way s.volatile.locks req (path ∷ []) (if b then path ∷ [] else [])) (ap (is_shared_in s.durable.names) here ∙ shared)) ∙ free.free }

pub alone_free : (s : State) (req : ReqId) (path : Path) (index chunk : ℕ) → slice_get (chunks_at s.durable.names path) index ≡ Some chunk → is_shared s.durable.names chunk ≡ false
    → IsFree s req (path ∷ []) (if is_shared_in s.durable.names (slice_get (chunks_at s.durable.names path) index) then path ∷ [] else []) → IsFree s req (path ∷ []) []
alone_free s req path index chunk here alone free =
    record { new = free.new; free = sym (ap (λ b. stands_in_the_way s.volatile.locks req (path ∷ []) (if b then path ∷ [] else [])) (ap (is_shared_in s.durable.names) here ∙ alone)) ∙ free.free }

-- ---- a copy that takes its place stands there

one_less : (n m : ℕ) → nat_lt (suc n) (suc m) ≡ true → nat_lt n m ≡ true
one_less n m h = grind (arith, nat_tests)

set_here : (xs : List ℕ) (index chunk : ℕ) → nat_lt index (length xs) ≡ true → slice_get (slice_set xs index chunk) index ≡ Some chunk
set_here [] index chunk h = absurd (grind (arith, nat_tests))
set_here (x ∷ xs) zero chunk h = refl
set_here (x ∷ xs) (suc index) chunk h = set_here xs index chunk (one_less index (length xs) h)

pub cow_here : (path : Path) (index old new : ℕ) (names after : NamesView) → edited_names (Cow path index old new) names ≡ Ok after → slice_get (chunks_at after path) index ≡ Some new
cow_here path index old new names after e =
    let n = was_named (Cow path index old new) names after e in
    let done = done_of _ (λ m. set_chunk m path index new) names.tree n.rows (covered-set (fin.entries names.tree) path index new) (admitted (edits.Cow path index old new) (fin.entries names.tree) names.refs (n.rows, n.refs) n.made).rows in
    ap (λ (x : NamesView). slice_get (chunks_in (fin.get x.tree path)) index) (sym n.is) ∙ ap (λ (f : Plain ℕ). slice_get (chunks_in (f path)) index) done.same ∙ set_in (fin.get names.tree) done.plain done.is
  where
    not_so : (b : Bool) → not b ≡ false → b ≡ true
    not_so true h = refl
    not_so false h = absurd (true≢false h)

    set_in : (m n : Plain ℕ) → set_chunk m path index new ≡ Ok n → slice_get (chunks_in (n path)) index ≡ Some new
    set_in m n h =
        let one = past (is_none (m path)) NotFound _ n h in
        let two = past (is_dir (m path)) IsADirectory _ n one in
        let within = through (not (nat_lt index (length (chunks_in (m path))))) Range _ n two in
        let is = same_answer (with_chunks path (slice_set (chunks_in (m path)) index new) m) n path (past (not (nat_lt index (length (chunks_in (m path))))) Range _ n two) in
        ap (λ o. slice_get (chunks_in o) index) (is ∙ ap (λ b. cond b (Some (File (slice_set (chunks_in (m path)) index new))) (m path)) (same_itself path)) ∙ set_here (chunks_in (m path)) index new (not_so (nat_lt index (length (chunks_in (m path)))) within)

-- ---- who waits so waits so

pub extends_itself : (path : Path) (new : ℕ) → waits_to_extend new (waits.Extend path new) ≡ true
extends_itself path new = eqb_itself new

pub copies_itself : (path : Path) (index old : ℕ) → waits_to_copy path index old (waits.Quiet path index old) ≡ true
copies_itself path index old = ap (λ b. b && (index == index && old == old)) (same_itself path) ∙ ap (λ b. b && (old == old)) (eqb_itself index) ∙ eqb_itself old

pub copied_itself : (path : Path) (index old new : ℕ) → waits_for_copy path index old new (waits.Copy path index old new) ≡ true
copied_itself path index old new =
    ap (λ b. b && (index == index && (old == old && new == new))) (same_itself path) ∙ ap (λ b. b && (old == old && new == new)) (eqb_itself index) ∙ ap (λ b. b && (new == new)) (eqb_itself old) ∙ eqb_itself new
