-- Chunks that stand once in a list.
use Rattle.std.proofs.Common.{◌≡◌, ◌∙◌, ◌<◌, ◌≤◌, ◌+◌, ◌==◌, ◌||◌, suc, add-one, drop, drop-cons, get_or, length, ℕ, Bool, true, false, cond, T, List, [], ◌∷◌, ◌++◌, map, filter, refl, ap, sym, eq-eqb, arith}
use Rattle.std.specs.Prelude.{Option, Some, None, is_some}
use Rattle.std.proofs.lemmas.Bool.{false≢true}
use Rattle.std.proofs.lemmas.Bool.Decides.{nat_tests}
use Rattle.std.proofs.lemmas.List.{drop_all}
use Rattle.std.specs.Cmp.{eq_by_cmp_equiv, nat_cmp_total}
use Rattle.std.specs.FinMap as fin
use Rattle.std.specs.FinMap.Entries.{find-put, find-where_key, is_sorted-put, is_sorted-where_key, same_entries}
use Rattle.std.specs.Ordering.{eq_by_cmp, nat_cmp}
use Rattle.gs_base.specs.Members.{is_member}
use Rattle.gs_edit.proofs.References.{same-is}
use Rattle.gs_tree.proofs.Levels.{never}
use Rattle.gs_master_state.specs.inner.Surveying.{AreIn, chunk_set}
use Rattle.gs_master_spec.specs.Working.{ascending, put_handles}

abbrev pub key_of : {V : Type 0} → ℕ × V → ℕ
key_of e = e.0

drop_here : (xs : List ℕ) (i : ℕ) (x : ℕ) → i < length xs → x ≡ get_or xs i x → drop i xs ≡ x ∷ drop (i + 1) xs
drop_here xs i x h at = rw (add-one, drop-cons xs i x h) (ap (λ y. y ∷ drop (suc i) xs) (sym at))

pub set_none : (chunks : List ℕ) (left : ℕ) (set : fin.FinMap nat_cmp Bool) → length chunks ≤ left → set ≡ fin.empty → set ≡ chunk_set (drop left chunks)
set_none chunks left set h is = is ∙ ap chunk_set (sym (drop_all left chunks h))

pub set_more : (chunks : List ℕ) (before left : ℕ) (x : ℕ) (set more : fin.FinMap nat_cmp Bool) → left < length chunks → before ≡ left + 1 → x ≡ get_or chunks left x → more ≡ fin.insert set x true
    → set ≡ chunk_set (drop before chunks) → more ≡ chunk_set (drop left chunks)
set_more chunks before left x set more h one at put rest =
    put ∙ ap (λ m. fin.insert m x true) (rest ∙ ap (λ n. chunk_set (drop n chunks)) one) ∙ sym (ap chunk_set (drop_here chunks left x h at))

pub set_entries : (chunks : List ℕ) → fin.entries (chunk_set chunks) ≡ put_handles chunks
set_entries [] = same_entries nat_cmp nat_cmp_total fin.nat_cmp-IsAntisymmetric (fin.entries (chunk_set [])) [] (fin.entries_sorted (chunk_set [])) tt (λ q. sym (fin.get-entries (chunk_set []) q) ∙ fin.get-empty nat_cmp q)
set_entries (chunk ∷ chunks) = fin.entries-insert nat_cmp_total (chunk_set chunks) chunk true ∙ ap (fin.put nat_cmp chunk true) (set_entries chunks)

-- ---- who is in a set

abbrev same : ℕ → ℕ → Bool
same a b = eq_by_cmp nat_cmp a b

either : (chunk q : ℕ) (rest : Option Bool) (b : Bool) → same q chunk ≡ b → is_some (cond b (Some true) rest) ≡ (chunk == q) || is_some rest
either chunk q rest true is = sym (ap (λ t. t || is_some rest) (eq-eqb chunk q (sym (same-is q chunk is))))
either chunk q rest false is =
    sym (ap (λ t. t || is_some rest) (never (chunk == q) (λ e. let one : chunk ≡ q = grind (arith, nat_tests) in false≢true (sym is ∙ ap (same q) one ∙ (eq_by_cmp_equiv nat_cmp_total).refl q))))

pub in_set : (chunks : List ℕ) (q : ℕ) → is_some (fin.get (chunk_set chunks) q) ≡ is_member chunks q
in_set [] q = ap is_some (fin.get-empty nat_cmp q)
in_set (chunk ∷ chunks) q =
    ap is_some (fin.get-insert nat_cmp_total (chunk_set chunks) chunk true q) ∙ either chunk q (fin.get (chunk_set chunks) q) (same q chunk) refl ∙ ap (λ b. (chunk == q) || b) (in_set chunks q)

pub are_in : (chunks : List ℕ) (set : fin.FinMap nat_cmp Bool) → set ≡ chunk_set chunks → AreIn chunks set
are_in chunks set is = record { each = λ q. ap (λ m. is_some (fin.get m q)) is ∙ in_set chunks q }

-- ---- those that pass a test, put in order

abbrev found : List ℕ → ℕ → Option Bool
found chunks q = fin.find nat_cmp q (put_handles chunks)

passed : (test : ℕ → Bool) (chunk q : ℕ) (rest less : Option Bool) → less ≡ cond (test q) rest None → (b : Bool) → test chunk ≡ b → (t : Bool) → same q chunk ≡ t
    → cond b (cond t (Some true) less) less ≡ cond (test q) (cond t (Some true) rest) None
passed test chunk q rest less is true h true e = sym (ap (λ k. cond k (Some true) None) (ap test (same-is q chunk e) ∙ h))
passed test chunk q rest less is true h false e = is
passed test chunk q rest less is false h true e = is ∙ ap (λ k. cond k rest None) (ap test (same-is q chunk e) ∙ h) ∙ sym (ap (λ k. cond k (Some true) None) (ap test (same-is q chunk e) ∙ h))
passed test chunk q rest less is false h false e = is

found_next : (test : ℕ → Bool) (chunk : ℕ) (chunks : List ℕ) (q : ℕ) (b : Bool) → found (cond b (chunk ∷ filter test chunks) (filter test chunks)) q ≡ cond b (cond (same q chunk) (Some true) (found (filter test chunks) q)) (found (filter test chunks) q)
found_next test chunk chunks q true = find-put nat_cmp nat_cmp_total q chunk true (put_handles (filter test chunks))
found_next test chunk chunks q false = refl

found_where : (test : ℕ → Bool) (chunks : List ℕ) (q : ℕ) → found (filter test chunks) q ≡ cond (test q) (found chunks q) None
found_where test [] q = let none : Option Bool = None in elim (test q) as (λ b. none ≡ cond b none none) [ true ↦ refl | false ↦ refl ]
found_where test (chunk ∷ chunks) q =
    found_next test chunk chunks q (test chunk)
    ∙ passed test chunk q (found chunks q) (found (filter test chunks) q) (found_where test chunks q) (test chunk) refl (same q chunk) refl
    ∙ ap (λ o. cond (test q) o None) (sym (find-put nat_cmp nat_cmp_total q chunk true (put_handles chunks)))

put_sorted : (chunks : List ℕ) → T (fin.is_sorted nat_cmp (put_handles chunks))
put_sorted [] = tt
put_sorted (chunk ∷ chunks) = is_sorted-put nat_cmp nat_cmp_total chunk true (put_handles chunks) (put_sorted chunks)

pub keys_where : {V : Type 0} (test : ℕ → Bool) (es : List (ℕ × V)) → filter test (map (λ e. e.0) es) ≡ map (λ e. e.0) (filter (λ (e : ℕ × V). test e.0) es)
keys_where test [] = refl
keys_where {V = V} test (e ∷ es) = elim (test e.0) as (λ b. cond b (e.0 ∷ filter test (map (λ e. e.0) es)) (filter test (map (λ e. e.0) es)) ≡ map (λ e. e.0) (cond b (e ∷ filter (λ (e : ℕ × V). test e.0) es) (filter (λ (e : ℕ × V). test e.0) es))) [
  | true ↦ ap (λ ks. e.0 ∷ ks) (keys_where test es)
  | false ↦ keys_where test es
]

-- those of a list that pass a test are put in the same order
pub ascending_where : (test : ℕ → Bool) (chunks : List ℕ) → ascending (filter test chunks) ≡ filter test (ascending chunks)
ascending_where test chunks =
    ap (map (λ (e : ℕ × Bool). e.0))
    (same_entries nat_cmp nat_cmp_total fin.nat_cmp-IsAntisymmetric (put_handles (filter test chunks)) (filter (λ (e : ℕ × Bool). test e.0) (put_handles chunks)) (put_sorted (filter test chunks))
    (is_sorted-where_key nat_cmp test (put_handles chunks) (put_sorted chunks))
    (λ q. found_where test chunks q ∙ sym (find-where_key nat_cmp test q (λ x e. ap test (sym (fin.nat_cmp-IsAntisymmetric q x e))) (put_handles chunks))))
    ∙ sym (keys_where test (put_handles chunks))

pub filter_both : (test : ℕ → Bool) (xs ys : List ℕ) → filter test (xs ++ ys) ≡ filter test xs ++ filter test ys
filter_both test [] ys = refl
filter_both test (x ∷ xs) ys = elim (test x) as (λ b. cond b (x ∷ filter test (xs ++ ys)) (filter test (xs ++ ys)) ≡ cond b (x ∷ filter test xs) (filter test xs) ++ filter test ys) [
  | true ↦ ap (λ l. x ∷ l) (filter_both test xs ys)
  | false ↦ filter_both test xs ys
]

pub is_in : {A : Type 0} (found : Option A) (copied : Option Bool) (set : fin.FinMap nat_cmp Bool) (chunk : ℕ) (b : Bool) → b ≡ is_some copied → copied ≡ fin.get set chunk → (listed : List ℕ) → AreIn listed set → b ≡ is_member listed chunk
is_in found copied set chunk b some get listed are = some ∙ ap is_some get ∙ are.each chunk
