-- A chunk that stands at two places has two references.
use Rattle.std.proofs.Common.{◌≡◌, ◌∙◌, ◌+◌, ◌++◌, ◌≤◌, ◌||◌, ℕ, Bool, true, false, cond, List, [], ◌∷◌, map, nat_lt, refl, sym, ap, arith}
use Rattle.std.specs.Prelude.{◌==◌, is_some, Option, Some, None, slice_get}
use Rattle.std.specs.FinMap as fin
use Rattle.std.specs.List.{AllByRecursion, list_any}
use Rattle.std.specs.Ordering.{eq_by_cmp, is_eq, nat_cmp}
use Rattle.std.specs.Cmp.{nat_cmp_total, tied_itself}
use Rattle.std.proofs.lemmas.Bool.{and_parts, false≢true}
use Rattle.std.proofs.lemmas.Bool.Decides.{nat_tests}
use Rattle.gs_edit.proofs.Tables.{same_path-is, seen}
use Rattle.gs_edit.specs.View.{NamesView}
use Rattle.gs_laws_master.specs.Promises.{AreKept}
use Rattle.gs_laws_plain.proofs.lemmas.commands.Places.{HasIn, all_weaker, found_in, has_in, is_at}
use Rattle.gs_laws_plain.specs.commands.OnePlace.{standing_at}
use Rattle.gs_laws_plain.specs.commands.Places.{Place, places_from, places_in}
use Rattle.gs_master_spec.specs.Calls.{is_shared}
use Rattle.gs_path.specs.Path.{Path}
use Rattle.gs_refs.specs.Counts.{count_or_zero, occurrences}
use Rattle.gs_tree.specs.Chunks.{all_chunks}
use Rattle.gs_tree.specs.Edits.{chunks_in, same_path}
use Rattle.gs_tree.specs.Find.{Rows, at}

-- ---- the chunks of a tree are those of its places

of_file : (p : Path) (from : ℕ) (chunks : List ℕ) → map (λ (place : Place). place.chunk) (places_from p from chunks) ≡ chunks
of_file p from [] = refl
of_file p from (chunk ∷ chunks) = ap (λ cs. chunk ∷ cs) (of_file p (from + 1) chunks)

map_both : (xs ys : List Place) → map (λ (place : Place). place.chunk) (xs ++ ys) ≡ map (λ (place : Place). place.chunk) xs ++ map (λ (place : Place). place.chunk) ys
map_both [] ys = refl
map_both (x ∷ xs) ys = ap (λ cs. x.chunk ∷ cs) (map_both xs ys)

of_places : (rows : Rows ℕ) → map (λ (place : Place). place.chunk) (places_in rows) ≡ all_chunks rows
of_places [] = refl
of_places (row ∷ rows) =
    map_both (places_from row.0 0 (chunks_in (Some row.1))) (places_in rows)
    ∙ ap (λ cs. cs ++ map (λ (place : Place). place.chunk) (places_in rows)) (of_file row.0 0 (chunks_in (Some row.1)))
    ∙ ap (λ cs. chunks_in (Some row.1) ++ cs) (of_places rows)

-- ---- how often one stands there

abbrev many : ℕ → List Place → ℕ
many chunk places = occurrences chunk (map (λ (place : Place). place.chunk) places)

-- who is at this place has this chunk
abbrev Has : ℕ → Path → ℕ → Place → Type 0
Has chunk p index place = is_at p index place ≡ true → place.chunk ≡ chunk

itself_eq : (chunk : ℕ) → eq_by_cmp nat_cmp chunk chunk ≡ true
itself_eq chunk = ap is_eq (tied_itself nat_cmp_total chunk)

counts_here : (chunk : ℕ) (place : Place) (places : List Place) → place.chunk ≡ chunk → many chunk (place ∷ places) ≡ 1 + many chunk places
counts_here chunk place places is = ap (λ b. cond b 1 0 + many chunk places) (ap (eq_by_cmp nat_cmp chunk) is ∙ itself_eq chunk)

no_fewer : (chunk : ℕ) (place : Place) (places : List Place) → many chunk places ≤ many chunk (place ∷ places)
no_fewer chunk place places = by_test (eq_by_cmp nat_cmp chunk place.chunk)
  where
    by_test : (b : Bool) → many chunk places ≤ cond b 1 0 + many chunk places
    by_test true = omega arith
    by_test false = omega arith

once : (chunk : ℕ) (p : Path) (index : ℕ) (places : List Place) → AllByRecursion (Has chunk p index) places → list_any (is_at p index) places ≡ true → 1 ≤ many chunk places
once chunk p index [] has found = absurd (false≢true found)
once chunk p index (place ∷ places) has found = by_head (is_at p index place) refl found (once chunk p index places has.1)
  where
    by_head : (b : Bool) → is_at p index place ≡ b → (b || list_any (is_at p index) places) ≡ true → (list_any (is_at p index) places ≡ true → 1 ≤ many chunk places) → 1 ≤ many chunk (place ∷ places)
    by_head true is found rest = let more = counts_here chunk place places (has.0 is) in omega arith
    by_head false is found rest = let r = rest found in let more = no_fewer chunk place places in omega arith

same_number : (a b : ℕ) → (a == b) ≡ true → a ≡ b
same_number a b h = grind (arith, nat_tests)

-- whose path and index these are
is_there : (p : Path) (index : ℕ) (place : Place) → is_at p index place ≡ true → (p ≡ place.path) × (index ≡ place.index)
is_there p index place h = let both = and_parts (same_path p place.path) (index == place.index) h in (same_path-is p place.path both.0, same_number index place.index both.1)

twice : (chunk : ℕ) (p q : Path) (index other : ℕ) (places : List Place) → ((q ≡ p) × (other ≡ index) → ⊥) → AllByRecursion (Has chunk p index) places → AllByRecursion (Has chunk q other) places
    → list_any (is_at p index) places ≡ true → list_any (is_at q other) places ≡ true → 2 ≤ many chunk places
twice chunk p q index other [] apart has_p has_q found_p found_q = absurd (false≢true found_p)
twice chunk p q index other (place ∷ places) apart has_p has_q found_p found_q = by_head (is_at p index place) refl (is_at q other place) refl found_p found_q (twice chunk p q index other places apart has_p.1 has_q.1)
  where
    by_head : (b : Bool) → is_at p index place ≡ b → (c : Bool) → is_at q other place ≡ c → (b || list_any (is_at p index) places) ≡ true → (c || list_any (is_at q other) places) ≡ true
        → (list_any (is_at p index) places ≡ true → list_any (is_at q other) places ≡ true → 2 ≤ many chunk places) → 2 ≤ many chunk (place ∷ places)
    by_head true here true there found_p found_q rest =
        let one = is_there p index place here in let two = is_there q other place there in absurd (apart (two.0 ∙ sym one.0, two.1 ∙ sym one.1))
    by_head true here false there found_p found_q rest = let more = counts_here chunk place places (has_p.0 here) in let one = once chunk q other places has_q.1 found_q in omega arith
    by_head false here true there found_p found_q rest = let more = counts_here chunk place places (has_q.0 there) in let one = once chunk p index places has_p.1 found_p in omega arith
    by_head false here false there found_p found_q rest = let r = rest found_p found_q in let more = no_fewer chunk place places in omega arith

-- ---- of names that are kept

module _ (names : NamesView) (kept : AreKept names) (chunk : ℕ) where
  abbrev rows : Rows ℕ
  rows = fin.entries names.tree

  stands : (p : Path) (index : ℕ) → standing_at names p index ≡ Some chunk → slice_get (chunks_in (at rows p)) index ≡ Some chunk
  stands p index here = ap (λ m. slice_get (chunks_in (m p)) index) (sym (seen names.tree)) ∙ here

  one_of : {a b : ℕ} → Some a ≡ Some b → a ≡ b
  one_of h = cc

  has_it : (p : Path) (index : ℕ) → standing_at names p index ≡ Some chunk → AllByRecursion (Has chunk p index) (places_in rows)
  has_it p index here =
      all_weaker (HasIn rows) (Has chunk p index) (places_in rows)
      (λ place has is. (let there = is_there p index place is in one_of (sym has ∙ ap (λ q. slice_get (chunks_in (at rows q)) place.index) (sym there.0) ∙ ap (slice_get (chunks_in (at rows p))) (sym there.1) ∙ stands p index here)))
      (has_in rows (fin.entries_sorted names.tree))

  counted : count_or_zero (fin.get names.refs chunk) ≡ many chunk (places_in rows)
  counted = kept.counted chunk ∙ ap (occurrences chunk) (sym (of_places rows))

  -- it has a reference where it stands at one,
  pub is_listed_there : (p : Path) (index : ℕ) → standing_at names p index ≡ Some chunk → is_some (fin.get names.refs chunk) ≡ true
  is_listed_there p index here = by_count (fin.get names.refs chunk) (let one = once chunk p index (places_in rows) (has_it p index here) (found_in rows p index chunk (stands p index here)) in let c = counted in omega arith)
    where
      by_count : (o : Option ℕ) → 1 ≤ count_or_zero o → is_some o ≡ true
      by_count None h = absurd (omega arith)
      by_count (Some n) h = refl

  -- and two where it stands at two
  pub is_shared_there : (p q : Path) (index other : ℕ) → ((q ≡ p) × (other ≡ index) → ⊥) → standing_at names p index ≡ Some chunk → standing_at names q other ≡ Some chunk → is_shared names chunk ≡ true
  is_shared_there p q index other apart here there =
      let two = twice chunk p q index other (places_in rows) apart (has_it p index here) (has_it q other there) (found_in rows p index chunk (stands p index here)) (found_in rows q other chunk (stands q other there)) in
      let c = counted in
      more (count_or_zero (fin.get names.refs chunk)) (omega arith)
    where
      more : (n : ℕ) → 2 ≤ n → nat_lt 1 n ≡ true
      more n h = grind (arith, nat_tests)
