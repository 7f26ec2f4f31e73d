-- The edits that a scan finds are accepted, and leave nothing that goes and no chunk without a reference.
use Rattle.std.proofs.Common.{◌≡◌, inl, inr, ◌&&◌, ◌||◌, ◌==◌, ◌+◌, ◌++◌, ℕ, Bool, true, false, not, cond, T, List, [], ◌∷◌, filter, map, refl, sym, ap, ◌∙◌, subst, arith}
use Rattle.std.specs.Prelude.{IfErr, Option, Some, None, Result, Ok, Err, is_ok, is_some, is_none, Vec}
use Rattle.std.specs.List.{list_any, list_all}
use Rattle.std.specs.Global.{Global}
use Rattle.std.specs.Option.{option_map}
use Rattle.std.specs.Cmp.{eq_by_cmp_equiv, nat_cmp_total}
use Rattle.std.specs.FinMap as fin
use Rattle.std.specs.FinMap.Entries.{is_sorted, is_sorted-where_key, find-where_key, same_entries}
use Rattle.std.proofs.lemmas.Bool.{and_parts}
use Rattle.std.proofs.lemmas.Bool.Decides.{nat_tests}
use Rattle.gs_base.specs.declared.refusal.Refusal.{Refusal}
use Rattle.gs_base.specs.declared.refusal.Refusal.TheVariants.{Memory, BadLine, NotHidden, NotFound}
use Rattle.gs_path.specs.Element.{hidden_parts}
use Rattle.gs_path.specs.Path.{Name, Path, path_cmp, path_total, begins}
use Rattle.gs_refs.specs.Counts.{Counts, lowered_each, taken_each, without_each, occurrences, count_or_zero, is_at_zero, ascends, IsCountOf}
use Rattle.gs_refs.proofs.EachLemmas.{more, lowered-counts, lowered-sum, enough}
use Rattle.gs_tree.specs.Entry.{Entry}
use Rattle.gs_tree.specs.Commands.{IsClosed}
use Rattle.gs_tree.proofs.Laws.{begins_append}
use Rattle.gs_tree.specs.Plain.{without}
use Rattle.gs_tree.specs.Find.{Rows, at}
use Rattle.gs_tree.specs.Edits.{chunks_in, same_path, old_name, remove}
use Rattle.gs_tree.specs.Chunks.{all_chunks, chunks_under}
use Rattle.gs_edit.specs.View.{NamesView}
use Rattle.gs_edit.specs.Names.{IsCounted}
use Rattle.gs_edit.specs.Table.{paths_of, table, tabled, fronts}
use Rattle.gs_edit.specs.Plain.{remove_rows}
use Rattle.gs_edit.specs.Edits.{named, with_counts, Applies}
use Rattle.gs_edit.specs.declared.edit.Inverse.{Inverse}
use Rattle.gs_edit.specs.Scan.{is_over_since, is_over, goes, is_removed, is_gone, gone, left, has_just, IsScan, Scans}
use Rattle.gs_edit.specs.Sweep.{and_next, named_each, forgets, edits_of, count_of, IsSwept, Sweeps}
use Rattle.gs_edit.specs.declared.edit.Edit.{Edit}
use Rattle.gs_edit.specs.declared.edit.Edit.TheVariants as edits
use Rattle.gs_edit.specs.declared.scan.Scan.{Scan}
use Rattle.gs_edit.proofs.Tables.{among, Covers, at-covering, sorted-table, paths_antisymmetric, same_itself}
use Rattle.gs_edit.proofs.Covers.{Covered, covered-remove, among-fronts}
use Rattle.gs_edit.proofs.Occurring.{occurrences-append}
use Rattle.gs_edit.proofs.References.{same, all_of, get-without}
use Rattle.gs_edit.proofs.Removals.{AreApart, apart, gone_is, some_passes, begins-itself}

-- the chunks of the rows that pass a test, and those of the rest
parts_of : (h : ℕ) (cs : List ℕ) (r : Path × Entry ℕ) (rows some rest : Rows ℕ) (b : Bool) → cs ≡ chunks_in (Some r.1) → occurrences h (all_chunks rows) ≡ occurrences h (all_chunks some) + occurrences h (all_chunks rest)
    → occurrences h (cs ++ all_chunks rows) ≡ occurrences h (all_chunks (cond b (r ∷ some) some)) + occurrences h (all_chunks (cond (not b) (r ∷ rest) rest))
parts_of h cs r rows some rest true is same_sum =
    let x = occurrences-append h cs (all_chunks rows) in let y = occurrences-append h (chunks_in (Some r.1)) (all_chunks some) in let z = ap (occurrences h) is in omega arith
parts_of h cs r rows some rest false is same_sum =
    let x = occurrences-append h cs (all_chunks rows) in let y = occurrences-append h (chunks_in (Some r.1)) (all_chunks rest) in let z = ap (occurrences h) is in omega arith

pub split_chunks : (h : ℕ) (f : Path → Bool) (rows : Rows ℕ) → occurrences h (all_chunks rows) ≡ occurrences h (all_chunks (filter (λ r. f r.0) rows)) + occurrences h (all_chunks (filter (λ r. not (f r.0)) rows))
split_chunks h f [] = refl
split_chunks h f (r ∷ rows) = parts_of h (chunks_in (Some r.1)) r rows (filter (λ s. f s.0) rows) (filter (λ s. not (f s.0)) rows) (f r.0) refl (split_chunks h f rows)

-- what stands among the rows that pass a test
pub at-filter : (f : Path → Bool) (rows : Rows ℕ) (q : Path) → at (filter (λ r. f r.0) rows) q ≡ cond (f q) (at rows q) None
at-filter f rows q = find-where_key path_cmp f q (λ x tie. ap f (sym (paths_antisymmetric q x tie))) rows

swap : (b : Bool) (v : Option (Entry ℕ)) → cond b None v ≡ cond (not b) v None
swap true v = refl
swap false v = refl

-- the name of what goes holds an old name
is_hidden_name : (moment : ℕ) (p : Path) → goes moment p ≡ true → is_none (old_name p) ≡ false
is_hidden_name moment [] h = absurd (cc)
is_hidden_name moment (x ∷ []) h =
    elim (hidden_parts x) as (λ v. is_over_since moment v ≡ true → is_none (option_map (λ parts. parts.2) v) ≡ false) [
      | None ↦ λ k. absurd (cc)
      | Some parts ↦ λ k. refl
    ] h
is_hidden_name moment (x ∷ y ∷ p) h = is_hidden_name moment (y ∷ p) (below (is_over moment x) (goes moment (y ∷ p)) h)
  where
    below : (o r : Bool) → cond o false r ≡ true → r ≡ true
    below true r k = absurd (cc)
    below false r k = k

some_none : {A : Type 0} (v : Option A) → is_some v ≡ true → is_none v ≡ false
some_none None h = absurd (cc)
some_none (Some a) h = refl

removed_now : (rows : Rows ℕ) (p : Path) (moment : ℕ) → goes moment p ≡ true → is_some (at rows p) ≡ true → remove (at rows) p ≡ Ok (without p (at rows))
removed_now rows p moment h some =
    ap (λ b. cond b (Err NotHidden) (cond (is_none (at rows p)) (Err NotFound) (Ok (without p (at rows))))) (is_hidden_name moment p h)
    ∙ ap (λ b. cond b (Err NotFound) (Ok (without p (at rows)))) (some_none (at rows p) some)

-- rows without what stands at and under a path
without_path : (rows : Rows ℕ) (p : Path) (moment : ℕ) → T (is_sorted path_cmp rows) → goes moment p ≡ true → is_some (at rows p) ≡ true → remove_rows rows p ≡ Ok (filter (λ r. not (begins p r.0)) rows)
without_path rows p moment sorted h some =
    let now = removed_now rows p moment h some in
    let covers : Covers (paths_of rows) (without p (at rows)) = subst (λ r. Covered (paths_of rows) r) now (covered-remove rows p) in
    ap (tabled (paths_of rows)) now
    ∙ ap (λ l. Ok l) (same_entries path_cmp path_total paths_antisymmetric (table (paths_of rows) (without p (at rows))) (filter (λ r. not (begins p r.0)) rows) (sorted-table (paths_of rows) (without p (at rows)))
    (is_sorted-where_key path_cmp (λ q. not (begins p q)) rows sorted)
    (λ q. at-covering (paths_of rows) (without p (at rows)) covers q ∙ swap (begins p q) (at rows q) ∙ sym (at-filter (λ r. not (begins p r)) rows q)))

is_some-more : (k : ℕ) (v : Option ℕ) → is_some (more k v) ≡ is_some v
is_some-more k None = refl
is_some-more k (Some n) = refl

-- what one removal of names with true counts makes
record OneLess (p : Path) (rows : Rows ℕ) (refs : Counts) : Type 0 where
  rest : Counts
  is : named (edits.Remove p) rows refs ≡ Ok (filter (λ r. not (begins p r.0)) rows, rest)
  counted : IsCountOf (all_chunks (filter (λ r. not (begins p r.0)) rows)) rest
  listed : (q : ℕ) → is_some (fin.get rest q) ≡ is_some (fin.get refs q)

one_less : (rows : Rows ℕ) (refs : Counts) (p : Path) (moment : ℕ) → T (is_sorted path_cmp rows) → IsCountOf (all_chunks rows) refs → goes moment p ≡ true → is_some (at rows p) ≡ true → OneLess p rows refs
one_less rows refs p moment sorted counted h some =
    each (lowered_each refs (chunks_under p rows)) refl
    (enough (chunks_under p rows) refs (λ q. (let c = counted q in let s = split_chunks q (begins p) rows in omega arith)))
  where
    each : (r : Result Counts Refusal) → lowered_each refs (chunks_under p rows) ≡ r → is_ok (lowered_each refs (chunks_under p rows)) ≡ true → OneLess p rows refs
    each (Ok rest) e ok = record {
      rest = rest;
      is = ap (λ r. cond (is_ok r) (with_counts (remove_rows rows p) r) (Err BadLine)) e ∙ ap (λ r. with_counts r (Ok rest)) (without_path rows p moment sorted h some);
      counted = λ q. (let c = counted q in let s = split_chunks q (begins p) rows in let l = lowered-sum (chunks_under p rows) refs rest q e in omega arith);
      listed = λ q. sym (ap is_some (lowered-counts (chunks_under p rows) refs rest e q) ∙ is_some-more (occurrences q (chunks_under p rows)) (fin.get rest q));
    }
    each (Err f) e ok = absurd (let k : false ≡ true = sym (ap is_ok e) ∙ ok in cc)

-- the rows that lie under none of these paths
abbrev pub rows_without : List Path → Rows ℕ → Rows ℕ
rows_without paths rows = filter (λ r. not (list_any (λ p. begins p r.0) paths)) rows

all_rows : (rows : Rows ℕ) → filter (λ r. true) rows ≡ rows
all_rows [] = refl
all_rows (r ∷ rows) = ap (λ rs. r ∷ rs) (all_rows rows)

one_by_one : (f g : Path → Bool) (rows : Rows ℕ) → filter (λ r. not (g r.0)) (filter (λ r. not (f r.0)) rows) ≡ filter (λ r. not (f r.0 || g r.0)) rows
one_by_one f g [] = refl
one_by_one f g (r ∷ rows) =
    elim (f r.0) as (λ a. filter (λ s. not (g s.0)) (cond (not a) (r ∷ filter (λ s. not (f s.0)) rows) (filter (λ s. not (f s.0)) rows)) ≡ cond (not (a || g r.0)) (r ∷ filter (λ s. not (f s.0 || g s.0)) rows) (filter (λ s. not (f s.0 || g s.0)) rows)) [
      | true ↦ one_by_one f g rows
      | false ↦ ap (λ rs. cond (not (g r.0)) (r ∷ rs) rs) (one_by_one f g rows)
    ]

-- the same of all removals
pub record AllLess (paths : List Path) (es : List Edit) (rows : Rows ℕ) (refs : Counts) : Type 0 where
  pub rest : Counts
  pub is : named_each (map (λ p. edits.Remove p) paths ++ es) rows refs ≡ named_each es (rows_without paths rows) rest
  pub counted : IsCountOf (all_chunks (rows_without paths rows)) rest
  pub listed : (q : ℕ) → is_some (fin.get rest q) ≡ is_some (fin.get refs q)

-- a path of the list, and something stands there
pub record Goes (moment : ℕ) (rows : Rows ℕ) (p : Path) : Type 0 where
  pub stands : is_some (at rows p) ≡ true
  pub over : goes moment p ≡ true

later : (b : Bool) {c : Bool} → c ≡ true → (b || c) ≡ true
later true g = refl
later false g = g

-- a path of a list isn't under another of it
beside : (p q : Path) (paths : List Path) → ((r : Path) → begins p r ≡ true → list_any (λ s. begins s r) paths ≡ true → ⊥) → among paths q ≡ true → begins p q ≡ false
beside p q paths never inside = elim (begins p q) as (λ b. begins p q ≡ b → b ≡ false) [
  | true ↦ λ b. absurd (never q b (some_passes (λ s. begins s q) paths q inside (begins-itself q)))
  | false ↦ λ b. refl
] refl

pub all_less : (moment : ℕ) (paths : List Path) (es : List Edit) (rows : Rows ℕ) (refs : Counts) → T (is_sorted path_cmp rows) → IsCountOf (all_chunks rows) refs → AreApart paths → ((p : Path) → among paths p ≡ true → Goes moment rows p) → AllLess paths es rows refs
all_less moment [] es rows refs sorted counted clear all = record {
  rest = refs;
  is = ap (λ (rs : Rows ℕ). named_each es rs refs) (sym (all_rows rows));
  counted = subst (λ (rs : Rows ℕ). IsCountOf (all_chunks rs) refs) (sym (all_rows rows)) counted;
  listed = λ q. refl;
}
all_less moment (p ∷ paths) es rows refs sorted counted clear all =
    let here = all p (ap (λ b. b || among paths p) (same_itself p)) in
    let one = one_less rows refs p moment sorted counted here.over here.stands in
    let fewer = filter (λ r. not (begins p r.0)) rows in
    let rest = all_less moment paths es fewer one.rest (is_sorted-where_key path_cmp (λ q. not (begins p q)) rows sorted) one.counted clear.1
    (λ q inside. record {
      stands = ap is_some (at-filter (λ r. not (begins p r)) rows q ∙ ap (λ b. cond (not b) (at rows q) None) (beside p q paths clear.0 inside)) ∙ (all q (later (same_path q p) inside)).stands;
      over = (all q (later (same_path q p) inside)).over;
    }) in
    let same_rows : rows_without paths fewer ≡ rows_without (p ∷ paths) rows = one_by_one (begins p) (λ q. list_any (λ s. begins s q) paths) rows in
    record {
      rest = rest.rest;
      is = ap (λ r. and_next r (λ rs c. named_each (map (λ s. edits.Remove s) paths ++ es) rs c)) one.is ∙ rest.is ∙ ap (λ (rs : Rows ℕ). named_each es rs rest.rest) same_rows;
      counted = subst (λ (rs : Rows ℕ). IsCountOf (all_chunks rs) rest.rest) same_rows rest.counted;
      listed = λ q. rest.listed q ∙ one.listed q;
    }

-- a chunk that all of its references leave has none then
zero_then : (v w : Option ℕ) (gone_refs left_refs : ℕ) → is_some w ≡ is_some v → count_or_zero v ≡ gone_refs + left_refs → count_or_zero w ≡ left_refs → has_just gone_refs v ≡ is_at_zero w
zero_then None None g l s e f = refl
zero_then None (Some k) g l s e f = absurd (cc)
zero_then (Some n) None g l s e f = absurd (cc)
zero_then (Some n) (Some k) g l s e f = grind (arith, nat_tests)

-- a chunk that is listed no more where it has no reference
kept_count : (v : Option ℕ) (n : ℕ) → count_or_zero v ≡ n → cond (is_at_zero v) None v ≡ count_of n
kept_count None n e = ap (λ k. count_of k) e
kept_count (Some k) n e = each (k == 0) refl
  where
    each : (b : Bool) → (k == 0) ≡ b → cond b None (Some k) ≡ count_of n
    each true t = sym (ap (λ c. cond c None (Some n)) (ap (λ j. j == 0) (sym e) ∙ t))
    each false t = ap (λ j. Some j) e ∙ sym (ap (λ c. cond c None (Some n)) (ap (λ j. j == 0) (sym e) ∙ t))

forgets_are : (chunks : Vec ℕ Global) (hs : List ℕ) (rows : Rows ℕ) (rest : Counts) → chunks.items ≡ hs → ascends hs ≡ true → list_all (λ h. is_at_zero (fin.get rest h)) hs ≡ true → named_each (forgets chunks hs) rows rest ≡ Ok (rows, without_each rest hs)
forgets_are chunks [] rows rest is rise zero = refl
forgets_are chunks (h ∷ hs) rows rest is rise zero =
    ap (λ (l : List ℕ). and_next (with_counts (Ok rows) (taken_each rest l)) (λ r c. Ok (r, c))) is
    ∙ ap (λ b. and_next (with_counts (Ok rows) (cond (b && list_all (λ k. is_at_zero (fin.get rest k)) (h ∷ hs)) (Ok (without_each rest (h ∷ hs))) (Err BadLine))) (λ r c. Ok (r, c))) rise
    ∙ ap (λ b. and_next (with_counts (Ok rows) (cond b (Ok (without_each rest (h ∷ hs))) (Err BadLine))) (λ r c. Ok (r, c))) zero

-- what goes and what is left have all chunks
both_sides : (moment : ℕ) (rows : Rows ℕ) (h : ℕ) → occurrences h (all_chunks rows) ≡ occurrences h (all_chunks (gone moment rows)) + occurrences h (all_chunks (left moment rows))
both_sides moment rows h = split_chunks h (is_gone moment (at rows)) rows

pub swept : (moment : ℕ) (names : NamesView) (scan : Scan) → IsCounted names → IsScan moment (fin.entries names.tree) names.refs scan → Sweeps moment (fin.entries names.tree) (named_each (edits_of scan) (fin.entries names.tree) names.refs)
swept moment names scan counted found =
    let rows = fin.entries names.tree in
    let paths = scan.removed.items in
    let chunks = scan.forgotten.items in
    let goes_of = λ (p : Path) (inside : among paths p ≡ true). and_parts (is_some (at rows p)) (goes moment p) (sym (found.removed.each p) ∙ inside) in
    let less = all_less moment paths (forgets scan.forgotten chunks) rows names.refs (fin.entries_sorted names.tree) counted (apart moment paths (λ p inside. (goes_of p inside).1) found.removed.rise)
    (λ p inside. record { stands = (goes_of p inside).0; over = (goes_of p inside).1 }) in
    let same_rows : rows_without paths rows ≡ left moment rows = ap (λ (f : Path → Bool). filter (λ r. not (f r.0)) rows) (λ i q. gone_is moment (at rows) paths found.removed.each q i) in
    let counted_left : IsCountOf (all_chunks (left moment rows)) less.rest = subst (λ (rs : Rows ℕ). IsCountOf (all_chunks rs) less.rest) same_rows less.counted in
    let zeros : (h : ℕ) → list_any (same h) chunks ≡ is_at_zero (fin.get less.rest h) = λ h. found.forgotten.each h
    ∙ zero_then (fin.get names.refs h) (fin.get less.rest h) (occurrences h (all_chunks (gone moment rows))) (occurrences h (all_chunks (left moment rows))) (less.listed h) (counted h ∙ both_sides moment rows h) (counted_left h) in
    let ends : named_each (edits_of scan) rows names.refs ≡ Ok (left moment rows, without_each less.rest chunks) =
    less.is ∙ ap (λ (rs : Rows ℕ). named_each (forgets scan.forgotten chunks) rs less.rest) same_rows
    ∙ forgets_are scan.forgotten chunks (left moment rows) less.rest refl found.forgotten.rise (all_of (λ h. is_at_zero (fin.get less.rest h)) chunks (λ h inside. sym (zeros h) ∙ inside)) in
    subst (λ r. Sweeps moment rows r) (sym ends) (record {
      rows = refl;
      counts = λ h. get-without chunks less.rest h ∙ ap (λ b. cond b None (fin.get less.rest h)) (zeros h) ∙ kept_count (fin.get less.rest h) (occurrences h (all_chunks (left moment rows))) (counted_left h);
    })

-- the chunks that are forgotten stand in no file that is left
left_nowhere : (v : Option ℕ) (gone_refs left_refs : ℕ) → count_or_zero v ≡ gone_refs + left_refs → has_just gone_refs v ≡ (is_some v && (left_refs == 0))
left_nowhere None g l e = refl
left_nowhere (Some n) g l e = grind (arith, nat_tests)

pub forgotten_are : (moment : ℕ) (names : NamesView) (scan : Scan) → IsCounted names → IsScan moment (fin.entries names.tree) names.refs scan → (h : ℕ) → list_any (same h) scan.forgotten.items ≡ (is_some (fin.get names.refs h) && (occurrences h (all_chunks (left moment (fin.entries names.tree))) == 0))
forgotten_are moment names scan counted found h =
    let rows = fin.entries names.tree in
    found.forgotten.each h ∙ left_nowhere (fin.get names.refs h) (occurrences h (all_chunks (gone moment rows))) (occurrences h (all_chunks (left moment rows))) (counted h ∙ both_sides moment rows h)

-- names with true counts have the references
pub not_refused : (moment : ℕ) (names : NamesView) (e : Refusal) → IsCounted names → Scans moment (fin.entries names.tree) names.refs (Err e) → e ≡ Memory
not_refused moment names e counted h = elim h [
  | inl memory ↦ memory
  | inr b ↦ absurd (b.1 (λ q. (let c = counted q in let s = both_sides moment (fin.entries names.tree) q in omega arith)))
]

-- nothing of what is left goes
nothing_goes : (moment : ℕ) (rows : Rows ℕ) (p : Path) → is_removed moment (at (left moment rows)) p ≡ false
nothing_goes moment rows p =
    ap (λ v. is_some v && goes moment p) (at-filter (λ q. not (is_gone moment (at rows) q)) rows p)
    ∙ elim (is_gone moment (at rows) p) as (λ b. is_gone moment (at rows) p ≡ b → (is_some (cond (not b) (at rows p) None) && goes moment p) ≡ false) [
      | true ↦ λ b. refl
      | false ↦ λ b. elim (is_removed moment (at rows) p) as (λ r. is_removed moment (at rows) p ≡ r → r ≡ false) [
        | true ↦ λ r. absurd (let k : false ≡ true = sym b ∙ some_passes (is_removed moment (at rows)) (fronts p) p (among-fronts p p (begins-itself p)) r in cc)
        | false ↦ λ r. refl
      ] refl
    ] refl

never : (f : Path → Bool) (ps : List Path) → ((p : Path) → f p ≡ false) → list_any f ps ≡ false
never f [] none = refl
never f (p ∷ ps) none = ap (λ b. b || list_any f ps) (none p) ∙ never f ps none

nothing_under : (f : Path → Bool) (rows : Rows ℕ) → ((p : Path) → f p ≡ false) → filter (λ r. f r.0) rows ≡ []
nothing_under f [] none = refl
nothing_under f (r ∷ rows) none = ap (λ b. cond b (r ∷ filter (λ s. f s.0) rows) (filter (λ s. f s.0) rows)) (none r.0) ∙ nothing_under f rows none

no_path : (ps : List Path) → ((p : Path) → among ps p ≡ false) → ps ≡ []
no_path [] none = refl
no_path (p ∷ ps) none = absurd (let k : true ≡ false = sym (ap (λ b. b || among ps p) (same_itself p)) ∙ none p in cc)

no_chunk : (hs : List ℕ) → ((h : ℕ) → list_any (same h) hs ≡ false) → hs ≡ []
no_chunk [] none = refl
no_chunk (h ∷ hs) none = absurd (let k : true ≡ false = sym (ap (λ b. b || list_any (same h) hs) ((eq_by_cmp_equiv nat_cmp_total).refl h)) ∙ none h in cc)

not_listed : (n : ℕ) → has_just 0 (count_of n) ≡ false
not_listed n = each (n == 0) refl
  where
    each : (b : Bool) → (n == 0) ≡ b → has_just 0 (cond b None (Some n)) ≡ false
    each true t = refl
    each false t = t

-- a scan at the same moment
pub nothing_again : (moment : ℕ) (old : Rows ℕ) (new : Rows ℕ × Counts) (scan : Scan) → IsSwept moment old new → IsScan moment new.0 new.1 scan → (scan.removed.items ≡ []) × (scan.forgotten.items ≡ [])
nothing_again moment old new scan is found =
    let none : (p : Path) → is_removed moment (at new.0) p ≡ false = λ p. ap (λ (rs : Rows ℕ). is_removed moment (at rs) p) is.rows ∙ nothing_goes moment old p in
    let empty : gone moment new.0 ≡ [] = nothing_under (is_gone moment (at new.0)) new.0 (λ p. never (is_removed moment (at new.0)) (fronts p) none) in (
      no_path scan.removed.items (λ p. found.removed.each p ∙ none p),
      no_chunk scan.forgotten.items (λ h. found.forgotten.each h ∙ ap (λ (rs : Rows ℕ). has_just (occurrences h (all_chunks rs)) (fin.get new.1 h)) empty ∙ ap (has_just 0) (is.counts h) ∙ not_listed (occurrences h (all_chunks new.0))),
    )

-- the path down to the first element that is over
record Down (moment : ℕ) (p : Path) : Type 0 where
  path : Path
  rest : Path
  is : p ≡ path ++ rest
  goes : goes moment path ≡ true

past : (moment : ℕ) (x : Name) (p : Path) → is_over moment x ≡ false → goes moment p ≡ true → goes moment (x ∷ p) ≡ true
past moment x [] fresh h = absurd (cc)
past moment x (y ∷ p) fresh h = ap (λ b. cond b false (goes moment (y ∷ p))) fresh ∙ h

down : (moment : ℕ) (p : Path) → list_any (is_over moment) p ≡ true → Down moment p
down moment [] h = absurd (cc)
down moment (x ∷ p) h =
    elim (is_over moment x) as (λ b. is_over moment x ≡ b → (b || list_any (is_over moment) p) ≡ true → Down moment (x ∷ p)) [
      | true ↦ λ e k. record { path = x ∷ []; rest = p; is = refl; goes = e }
      | false ↦ λ e k. (let d = down moment p k in record { path = x ∷ d.path; rest = d.rest; is = ap (λ q. x ∷ q) d.is; goes = past moment x d.path e d.goes })
    ] refl h

both_true : (a b : Bool) → a ≡ true → b ≡ true → (a && b) ≡ true
both_true true b f g = g
both_true false b f g = absurd (cc)

stood : (b : Bool) (v : Option (Entry ℕ)) → is_some (cond (not b) v None) ≡ true → is_some v ≡ true
stood true v h = absurd (cc)
stood false v h = h

stands_above : (rows : Rows ℕ) (q r : Path) → IsClosed (at rows) → is_some (at rows (q ++ r)) ≡ true → is_some (at rows q) ≡ true
stands_above rows q r closed h = elim (at rows q) as (λ v. at rows q ≡ v → is_some v ≡ true) [
  | None ↦ λ e. absurd (let k : false ≡ true = sym (ap is_some (closed q r e)) ∙ h in cc)
  | Some a ↦ λ e. refl
] refl

over_goes : (moment : ℕ) (rows : Rows ℕ) (p : Path) → IsClosed (at rows) → is_some (at (left moment rows) p) ≡ true → Down moment p → ⊥
over_goes moment rows p closed some d =
    let here : is_some (cond (not (is_gone moment (at rows) p)) (at rows p) None) ≡ true = ap is_some (sym (at-filter (λ q. not (is_gone moment (at rows) q)) rows p)) ∙ some in
    let stands : is_some (at rows d.path) ≡ true = stands_above rows d.path d.rest closed (ap (λ q. is_some (at rows q)) (sym d.is) ∙ stood (is_gone moment (at rows) p) (at rows p) here) in
    let goes_now : is_gone moment (at rows) p ≡ true = some_passes (is_removed moment (at rows)) (fronts p) d.path
    (among-fronts p d.path (ap (begins d.path) d.is ∙ begins_append d.path d.rest)) (both_true (is_some (at rows d.path)) (goes moment d.path) stands d.goes) in
    let k : false ≡ true = sym (ap (λ b. is_some (cond (not b) (at rows p) None)) goes_now) ∙ here in cc

-- where nothing stands below what doesn't stand, no element of what is left is over
pub nothing_over : (moment : ℕ) (rows : Rows ℕ) (p : Path) → IsClosed (at rows) → is_some (at (left moment rows) p) ≡ true → list_any (is_over moment) p ≡ false
nothing_over moment rows p closed some =
    elim (list_any (is_over moment) p) as (λ b. list_any (is_over moment) p ≡ b → b ≡ false) [
      | true ↦ λ b. absurd (over_goes moment rows p closed some (down moment p b))
      | false ↦ λ b. refl
    ] refl

-- edits one after the other, in two parts
pub named_append : (es fs : List Edit) (rows : Rows ℕ) (refs : Counts) → named_each (es ++ fs) rows refs ≡ and_next (named_each es rows refs) (λ r c. named_each fs r c)
named_append [] fs rows refs = refl
named_append (e ∷ es) fs rows refs =
    elim (named e rows refs) as (λ n. and_next n (λ r c. named_each (es ++ fs) r c) ≡ and_next (and_next n (λ r c. named_each es r c)) (λ r c. named_each fs r c)) [
      | Ok new ↦ named_append es fs new.0 new.1
      | Err f ↦ refl
    ]

-- an edit of a scan's, once those before it are made
pub in_turn : (moment : ℕ) (names mid new : NamesView) (scan : Scan) (front : List Edit) (next : Edit) (rest : List Edit) (result : Result Inverse Refusal) → IsCounted names → IsScan moment (fin.entries names.tree) names.refs scan
    → edits_of scan ≡ front ++ next ∷ rest → named_each front (fin.entries names.tree) names.refs ≡ Ok (fin.entries mid.tree, mid.refs) → Applies next mid result new → IfErr result (λ e. e ≡ Memory)
in_turn moment names mid new scan front next rest (Ok i) counted found is made applied = tt
in_turn moment names mid new scan front next rest (Err e) counted found is made applied = elim applied.0 [
  | inl refused ↦ absurd (subst (λ r. Sweeps moment (fin.entries names.tree) r)
      (ap (λ es. named_each es (fin.entries names.tree) names.refs) is ∙ named_append front (next ∷ rest) (fin.entries names.tree) names.refs
      ∙ ap (λ r. and_next r (λ rs c. named_each (next ∷ rest) rs c)) made ∙ ap (λ r. and_next r (λ rs c. named_each rest rs c)) refused) (swept moment names scan counted found))
  | inr memory ↦ memory
]
