-- The chunks of what goes, and those that are left without a reference.
use Rattle.std.proofs.Common.{◌≡◌, ◌&&◌, ◌||◌, ◌==◌, ◌+◌, ◌-◌, ◌++◌, ℕ, Bool, true, false, cond, T, List, [], ◌∷◌, filter, map, nat_lt, refl, sym, ap, ◌∙◌, arith}
use Rattle.std.specs.Prelude.{Option, Some, None, Result, Ok, Err, is_ok}
use Rattle.std.specs.List.{list_any, flat_map}
use Rattle.std.specs.Ordering.{nat_cmp, is_lt, is_eq}
use Rattle.std.specs.declared.cmp.Ordering.{Ordering}
use Rattle.std.specs.declared.cmp.Ordering.TheVariants.{Less, Equal, Greater}
use Rattle.std.specs.FinMap as fin
use Rattle.std.specs.FinMap.Entries.{is_sorted, below_all}
use Rattle.std.proofs.lemmas.Bool.{and_parts}
use Rattle.std.proofs.lemmas.Bool.Decides.{nat_tests}
use Rattle.gs_base.specs.declared.refusal.Refusal.{Refusal}
use Rattle.gs_base.specs.declared.refusal.Refusal.TheVariants.{BadLine}
use Rattle.gs_path.specs.Path.{Path, begins}
use Rattle.gs_refs.specs.Counts.{Counts, and_then, lowered, lowered_from, lowered_each, occurrences, orphans, without_references, ascends, ascends_from, is_at_zero}
use Rattle.gs_refs.proofs.EachLemmas.{more, lowered-counts, lowered-sum, enough}
use Rattle.gs_tree.specs.Entry.{Entry}
use Rattle.gs_tree.specs.Find.{Rows, at}
use Rattle.gs_tree.specs.Edits.{chunks_in}
use Rattle.gs_tree.specs.Chunks.{all_chunks, chunks_under}
use Rattle.gs_edit.specs.declared.scan.Scan.{Scan}
use Rattle.gs_edit.specs.Scan.{goes, gone, has_just, HaveReferences, AreRemoved, IsScan}
use Rattle.gs_edit.proofs.Removals.{AreApart, apart, gone_is}
use Rattle.gs_edit.proofs.Occurring.{occurrences-append}
use Rattle.gs_edit.proofs.References.{same, same-is}

-- one list behind the other
pub lowered_append : (xs ys : List ℕ) (m : Counts) → lowered_each m (xs ++ ys) ≡ and_then (lowered_each m xs) (λ n. lowered_each n ys)
lowered_append [] ys m = refl
lowered_append (x ∷ xs) ys m = elim (lowered m x) as (λ r. and_then r (λ n. lowered_each n (xs ++ ys)) ≡ and_then (and_then r (λ n. lowered_each n xs)) (λ n. lowered_each n ys)) [
  | Ok n ↦ lowered_append xs ys n
  | Err e ↦ refl
]

-- the first of two lists is lowered, or refused
pub first_lowered : (xs ys : List ℕ) (m : Counts) (r : Result Counts Refusal) → lowered_each m xs ≡ r → lowered_each m (xs ++ ys) ≡ and_then r (λ n. lowered_each n ys)
first_lowered xs ys m r h = lowered_append xs ys m ∙ ap (λ q. and_then q (λ n. lowered_each n ys)) h

-- the chunks under each of these paths
abbrev pub under_each : Rows ℕ → List Path → List ℕ
under_each rows paths = flat_map (λ p. chunks_under p rows) paths

two_cases : (h : ℕ) (cs : List ℕ) (r : Path × Entry ℕ) (both one two : Rows ℕ) (a b : Bool) → cs ≡ chunks_in (Some r.1) → (a ≡ true → b ≡ true → ⊥) → occurrences h (all_chunks both) ≡ occurrences h (all_chunks one) + occurrences h (all_chunks two)
    → occurrences h (all_chunks (cond (a || b) (r ∷ both) both)) ≡ occurrences h (all_chunks (cond a (r ∷ one) one)) + occurrences h (all_chunks (cond b (r ∷ two) two))
two_cases h cs r both one two true true is never rest = absurd (never refl refl)
two_cases h cs r both one two true false is never rest =
    let x = occurrences-append h (chunks_in (Some r.1)) (all_chunks both) in let y = occurrences-append h (chunks_in (Some r.1)) (all_chunks one) in omega arith
two_cases h cs r both one two false true is never rest =
    let x = occurrences-append h (chunks_in (Some r.1)) (all_chunks both) in let y = occurrences-append h (chunks_in (Some r.1)) (all_chunks two) in omega arith
two_cases h cs r both one two false false is never rest = rest

-- rows by two tests that none of them passes both of
pub two_tests : (h : ℕ) (f g : Path → Bool) (rows : Rows ℕ) → ((q : Path) → f q ≡ true → g q ≡ true → ⊥) → occurrences h (all_chunks (filter (λ r. f r.0 || g r.0) rows)) ≡ occurrences h (all_chunks (filter (λ r. f r.0) rows)) + occurrences h (all_chunks (filter (λ r. g r.0) rows))
two_tests h f g [] never = refl
two_tests h f g (r ∷ rows) never = two_cases h (chunks_in (Some r.1)) r (filter (λ s. f s.0 || g s.0) rows) (filter (λ s. f s.0) rows) (filter (λ s. g s.0) rows) (f r.0) (g r.0) refl (never r.0) (two_tests h f g rows never)

none_pass : (h : ℕ) (rows : Rows ℕ) → occurrences h (all_chunks (filter (λ r. false) rows)) ≡ 0
none_pass h [] = refl
none_pass h (r ∷ rows) = none_pass h rows

under_once : (h : ℕ) (rows : Rows ℕ) (paths : List Path) → AreApart paths → occurrences h (under_each rows paths) ≡ occurrences h (all_chunks (filter (λ r. list_any (λ p. begins p r.0) paths) rows))
under_once h rows [] a = sym (none_pass h rows)
under_once h rows (p ∷ paths) a =
    occurrences-append h (chunks_under p rows) (under_each rows paths) ∙ ap (λ k. occurrences h (chunks_under p rows) + k) (under_once h rows paths a.1)
    ∙ sym (two_tests h (begins p) (λ q. list_any (λ s. begins s q) paths) rows a.0)

-- each row of what goes is under one path that is removed
pub gone_once : (moment : ℕ) (rows : Rows ℕ) (paths : List Path) → AreRemoved moment (at rows) paths → (h : ℕ) → occurrences h (under_each rows paths) ≡ occurrences h (all_chunks (gone moment rows))
gone_once moment rows paths are h =
    under_once h rows paths (apart moment paths (λ p i. (let t = and_parts _ (goes moment p) (sym (are.each p) ∙ i) in t.1)) are.rise)
    ∙ ap (λ (f : Path → Bool). occurrences h (all_chunks (filter (λ r. f r.0) rows))) (λ i q. gone_is moment (at rows) paths are.each q i)

-- a list is lowered exactly where each chunk has its references, and else refused as a bad line
bad : (hs : List ℕ) (m : Counts) (e : Refusal) → lowered_each m hs ≡ Err e → e ≡ BadLine
bad [] m e h = absurd (cc)
bad (x ∷ hs) m e h =
    elim (fin.get m x) as (λ v. and_then (lowered_from m x v) (λ n. lowered_each n hs) ≡ Err e → e ≡ BadLine) [
      | None ↦ λ g. (let r : BadLine ≡ e = cc in sym r)
      | Some k ↦ elim (k == 0) as (λ b. and_then (cond b (Err BadLine) (Ok (fin.insert m x (k - 1)))) (λ n. lowered_each n hs) ≡ Err e → e ≡ BadLine) [
        | true ↦ λ g. (let r : BadLine ≡ e = cc in sym r)
        | false ↦ λ g. bad hs (fin.insert m x (k - 1)) e g
      ]
    ] h

pub scan_refused : (moment : ℕ) (rows : Rows ℕ) (refs : Counts) (paths : List Path) (e : Refusal) → AreRemoved moment (at rows) paths → lowered_each refs (under_each rows paths) ≡ Err e → (e ≡ BadLine) × (HaveReferences (all_chunks (gone moment rows)) refs → ⊥)
scan_refused moment rows refs paths e are refused = (
  bad (under_each rows paths) refs e refused,
  λ have. (let t : true ≡ false = sym (enough (under_each rows paths) refs (λ q. (let f = have q in let g = gone_once moment rows paths are q in omega arith))) ∙ ap is_ok refused in cc),
)

-- the chunks at zero, found in their map
other : (o : Ordering) → is_lt o ≡ true → is_eq o ≡ false
other Less i = refl
other Equal i = absurd (cc)
other Greater i = absurd (cc)

absent : (fs : List (ℕ × ℕ)) (x : ℕ) → below_all nat_cmp x fs ≡ true → fin.find nat_cmp x fs ≡ None
absent [] x below = refl
absent (f ∷ fs) x below =
    let ps = and_parts (is_lt (nat_cmp x f.0)) (below_all nat_cmp x fs) below in
    ap (λ b. cond b (Some f.1) (fin.find nat_cmp x fs)) (other (nat_cmp x f.0) ps.0) ∙ absent fs x ps.1

zero_cases : (e : ℕ × ℕ) (es : List (ℕ × ℕ)) (h : ℕ) (z s : Bool) → (e.1 == 0) ≡ z → same h e.0 ≡ s → below_all nat_cmp e.0 es ≡ true → list_any (same h) (without_references es) ≡ is_at_zero (fin.find nat_cmp h es)
    → list_any (same h) (map (λ f. f.0) (cond z (e ∷ filter (λ f. f.1 == 0) es) (filter (λ f. f.1 == 0) es))) ≡ is_at_zero (cond s (Some e.1) (fin.find nat_cmp h es))
zero_cases e es h true true i j below rest = ap (λ b. b || list_any (same h) (without_references es)) j ∙ sym i
zero_cases e es h true false i j below rest = ap (λ b. b || list_any (same h) (without_references es)) j ∙ rest
zero_cases e es h false true i j below rest = rest ∙ ap is_at_zero (ap (λ x. fin.find nat_cmp x es) (same-is h e.0 j) ∙ absent es e.0 below) ∙ sym i
zero_cases e es h false false i j below rest = rest

zero_found : (es : List (ℕ × ℕ)) (h : ℕ) → is_sorted nat_cmp es ≡ true → list_any (same h) (without_references es) ≡ is_at_zero (fin.find nat_cmp h es)
zero_found [] h rise = refl
zero_found (e ∷ es) h rise =
    let parts = and_parts (below_all nat_cmp e.0 es) (is_sorted nat_cmp es) rise in
    zero_cases e es h (e.1 == 0) (same h e.0) refl refl parts.0 (zero_found es h parts.1)

lt_is : (x y : ℕ) → is_lt (nat_cmp x y) ≡ true → nat_lt x y ≡ true
lt_is x y h = each (nat_lt x y) (x == y) h
  where
    each : (a b : Bool) → is_lt (cond a Less (cond b Equal Greater)) ≡ true → a ≡ true
    each true b g = refl
    each false true g = absurd (cc)
    each false false g = absurd (cc)

zeros_behind : (x : ℕ) (es : List (ℕ × ℕ)) → below_all nat_cmp x es ≡ true → is_sorted nat_cmp es ≡ true → ascends_from x (without_references es) ≡ true
zeros_behind x [] below rise = refl
zeros_behind x (e ∷ es) below rise =
    let first = and_parts (is_lt (nat_cmp x e.0)) (below_all nat_cmp x es) below in
    let rest = and_parts (below_all nat_cmp e.0 es) (is_sorted nat_cmp es) rise in
    elim (e.1 == 0) as (λ z. ascends_from x (map (λ f. f.0) (cond z (e ∷ filter (λ f. f.1 == 0) es) (filter (λ f. f.1 == 0) es))) ≡ true) [
      | true ↦ ap (λ b. b && ascends_from e.0 (without_references es)) (lt_is x e.0 first.0) ∙ zeros_behind e.0 es rest.0 rest.1
      | false ↦ zeros_behind x es first.1 rest.1
    ]

zeros_rise : (es : List (ℕ × ℕ)) → is_sorted nat_cmp es ≡ true → ascends (without_references es) ≡ true
zeros_rise [] rise = refl
zeros_rise (e ∷ es) rise =
    let rest = and_parts (below_all nat_cmp e.0 es) (is_sorted nat_cmp es) rise in
    elim (e.1 == 0) as (λ z. ascends (map (λ f. f.0) (cond z (e ∷ filter (λ f. f.1 == 0) es) (filter (λ f. f.1 == 0) es))) ≡ true) [
      | true ↦ zeros_behind e.0 es rest.0 rest.1
      | false ↦ zeros_rise es rest.1
    ]

t_true : (b : Bool) → T b → b ≡ true
t_true true h = refl
t_true false h = absurd h

pub orphans_rise : (m : Counts) → ascends (orphans m) ≡ true
orphans_rise m = zeros_rise (fin.entries m) (t_true _ (fin.entries_sorted m))

pub orphans_are : (m : Counts) (h : ℕ) → list_any (same h) (orphans m) ≡ is_at_zero (fin.get m h)
orphans_are m h = zero_found (fin.entries m) h (t_true _ (fin.entries_sorted m)) ∙ ap is_at_zero (sym (fin.get-entries m h))

-- a chunk with so many references more than none
just : (k : ℕ) (v : Option ℕ) → is_at_zero v ≡ has_just k (more k v)
just k None = refl
just k (Some n) = grind (arith, nat_tests)

pub scan_found : (moment : ℕ) (rows : Rows ℕ) (refs rest : Counts) (scan : Scan) → AreRemoved moment (at rows) scan.removed.items → lowered_each refs (under_each rows scan.removed.items) ≡ Ok rest → scan.forgotten.items ≡ orphans rest → IsScan moment rows refs scan
scan_found moment rows refs rest scan are low is =
    let paths = scan.removed.items in
    record {
      removed = are;
      counted = λ q. (let s = lowered-sum (under_each rows paths) refs rest q low in let g = gone_once moment rows paths are q in omega arith);
      forgotten = record {
        each = λ q. ap (list_any (same q)) is ∙ orphans_are rest q ∙ just (occurrences q (under_each rows paths)) (fin.get rest q)
            ∙ ap (has_just (occurrences q (under_each rows paths))) (sym (lowered-counts (under_each rows paths) refs rest low q))
            ∙ ap (λ k. has_just k (fin.get refs q)) (gone_once moment rows paths are q);
        rise = ap ascends is ∙ orphans_rise rest;
      };
    }
