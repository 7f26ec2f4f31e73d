-- What a scan at a moment takes out: what was deleted long enough before it, with all under it, and then each chunk that
-- is left without a reference.
use Rattle.std.specs.Prelude.{◌≡◌, ◌⊎◌, ◌&&◌, ◌+◌, ◌==◌, ◌≤◌, ◌∷◌, [], ℕ, Bool, true, false, not, nat_lt, if◌then◌else◌, List, filter, length, codes, Result, Ok, Err, Option, Some, None, is_some, refl}
use Rattle.std.specs.List.{list_any, list_all}
use Rattle.std.specs.List.Sorted.{IsStrictlySortedBy}
use Rattle.std.specs.Ordering.{nat_cmp, eq_by_cmp, ordering_then}
use Rattle.std.specs.Cmp.{IsTotalOrder, nat_cmp_total, then_total, on_total}
use Rattle.std.specs.Cmp.Lexicographic.{nat_list_cmp_total}
use Rattle.std.specs.declared.cmp.Ordering.{Ordering}
use Rattle.std.specs.declared.cmp.Ordering.TheVariants.{Less, Greater}
use Rattle.std.specs.FinMap as fin
use Rattle.gs_path.specs.Element.{hidden_parts}
use Rattle.gs_path.specs.Path.{Name, Path, path_cmp, path_total, path_text, text_cmp}
use Rattle.gs_tree.specs.Entry.{Dir, File}
use Rattle.gs_tree.specs.Plain.{Plain}
use Rattle.gs_tree.specs.Find.{Rows, at}
use Rattle.gs_tree.specs.Edits.{same_path}
use Rattle.gs_tree.specs.Chunks.{all_chunks}
use Rattle.gs_base.specs.declared.refusal.Refusal.{Refusal}
use Rattle.gs_base.specs.declared.refusal.Refusal.TheVariants.{Memory, BadLine}
use Rattle.gs_refs.specs.Counts.{Counts, occurrences, count_or_zero, ascends}
use Rattle.gs_edit.specs.declared.scan.Scan.{Scan}
use Rattle.gs_edit.specs.Table.{fronts}

-- how long what was deleted is kept, in seconds
abbrev pub kept_for : ℕ
kept_for = 259200

abbrev pub is_over_since : ℕ → Option (ℕ × ℕ × Name) → Bool
is_over_since moment None = false
is_over_since moment (Some parts) = nat_lt (parts.0 + kept_for) moment

-- a name is that of something deleted more than so long before a moment
abbrev pub is_over : ℕ → Name → Bool
is_over moment name = is_over_since moment (hidden_parts name)

-- The last element of a path is over, and none above it: what lies under what goes, goes with it.
abbrev pub goes : ℕ → Path → Bool
goes moment [] = false
goes moment (x ∷ []) = is_over moment x
goes moment (x ∷ y ∷ p) = if is_over moment x then false else goes moment (y ∷ p)

-- what a scan removes
abbrev pub is_removed : {A : Type 0} → ℕ → Plain A → Path → Bool
is_removed moment m p = is_some (m p) && goes moment p

-- what goes: what is removed, and all under it
abbrev pub is_gone : {A : Type 0} → ℕ → Plain A → Path → Bool
is_gone moment m p = list_any (is_removed moment m) (fronts p)

abbrev pub gone : {A : Type 0} → ℕ → Rows A → Rows A
gone moment rows = filter (λ r. is_gone moment (at rows) r.0) rows

-- what is left
abbrev pub left : {A : Type 0} → ℕ → Rows A → Rows A
left moment rows = filter (λ r. not (is_gone moment (at rows) r.0)) rows

-- no element has a slash, as none has that was read
abbrev pub is_without_slashes : Path → Bool
is_without_slashes p = list_all (λ name. list_all (λ byte. not (byte == 47)) name) p

-- fewer elements first, then the bytes of the texts
abbrev pub length_then_text_cmp : Path → Path → Ordering
length_then_text_cmp p q = ordering_then (nat_cmp (length p) (length q)) (text_cmp p q)

-- The order of removals. Two paths of so many elements have one text only where an element has a slash; they stand in the
-- order of paths.
abbrev pub removal_cmp : Path → Path → Ordering
removal_cmp p q = ordering_then (length_then_text_cmp p q) (path_cmp p q)

pub removal_total : IsTotalOrder removal_cmp
removal_total = then_total (then_total (on_total length nat_cmp_total) (on_total path_text nat_list_cmp_total)) path_total

-- the paths that are removed, each once and in their order
pub record AreRemoved {A : Type 0} (moment : ℕ) (m : Plain A) (paths : List Path) : Type 0 where
  pub each : (p : Path) → list_any (same_path p) paths ≡ is_removed moment m p
  pub rise : IsStrictlySortedBy removal_cmp paths

-- each chunk has a reference for each time that it stands in a list
abbrev pub HaveReferences : List ℕ → Counts → Type 0
HaveReferences chunks refs = (chunk : ℕ) → occurrences chunk chunks ≤ count_or_zero (fin.get refs chunk)

-- a chunk is listed, with just so many references
abbrev pub has_just : ℕ → Option ℕ → Bool
has_just n None = false
has_just n (Some count) = count == n

-- the listed chunks of which each reference goes, ascending
pub record AreFreed (moment : ℕ) (rows : Rows ℕ) (refs : Counts) (chunks : List ℕ) : Type 0 where
  pub each : (chunk : ℕ) → list_any (eq_by_cmp nat_cmp chunk) chunks ≡ has_just (occurrences chunk (all_chunks (gone moment rows))) (fin.get refs chunk)
  pub rise : ascends chunks ≡ true

pub record IsScan (moment : ℕ) (rows : Rows ℕ) (refs : Counts) (scan : Scan) : Type 0 where
  pub removed : AreRemoved moment (at rows) scan.removed.items
  pub counted : HaveReferences (all_chunks (gone moment rows)) refs
  pub forgotten : AreFreed moment rows refs scan.forgotten.items

-- what a scan finds; BadLine exactly where a chunk stands more often in what goes than its count says, memory aside
abbrev pub Scans : ℕ → Rows ℕ → Counts → Result Scan Refusal → Type 0
Scans moment rows refs (Ok scan) = IsScan moment rows refs scan
Scans moment rows refs (Err e) = (e ≡ Memory) ⊎ ((e ≡ BadLine) × (HaveReferences (all_chunks (gone moment rows)) refs → ⊥))

abbrev a : Name
a = codes "a"

-- deleted at 0, and at 1
abbrev old_f : Name
old_f = codes ".deleted.00000000000000000000.00000000000000000001.f"

abbrev new_f : Name
new_f = codes ".deleted.00000000000000000001.00000000000000000002.f"

abbrev some_rows : Rows ℕ
some_rows =
    ([], Dir) ∷ (old_f ∷ [], Dir) ∷ (old_f ∷ old_f ∷ [], File (7 ∷ [])) ∷ (new_f ∷ [], Dir) ∷ (new_f ∷ old_f ∷ [], File []) ∷ (a ∷ [], Dir) ∷ []

nothing_is_over_at_its_last_moment : gone 259200 some_rows ≡ []
nothing_is_over_at_its_last_moment = refl

what_lies_under_goes_too : gone 259201 some_rows ≡ (old_f ∷ [], Dir) ∷ (old_f ∷ old_f ∷ [], File (7 ∷ [])) ∷ (new_f ∷ old_f ∷ [], File []) ∷ []
what_lies_under_goes_too = refl

the_rest_is_left : left 259201 some_rows ≡ ([], Dir) ∷ (new_f ∷ [], Dir) ∷ (a ∷ [], Dir) ∷ []
the_rest_is_left = refl

but_it_is_not_removed_by_itself : is_removed 259201 (at some_rows) (old_f ∷ old_f ∷ []) ≡ false
but_it_is_not_removed_by_itself = refl

fewer_elements_first : removal_cmp (codes "b" ∷ []) (a ∷ a ∷ []) ≡ Less
fewer_elements_first = refl

-- a point stands before a slash, so "/a.b/c" before "/a/c"
then_the_text : removal_cmp (codes "a.b" ∷ codes "c" ∷ []) (a ∷ codes "c" ∷ []) ≡ Less
then_the_text = refl

not_element_by_element : path_cmp (codes "a.b" ∷ codes "c" ∷ []) (a ∷ codes "c" ∷ []) ≡ Greater
not_element_by_element = refl

all_its_references_go : has_just 2 (Some 2) ≡ true
all_its_references_go = refl

a_reference_stays : has_just 1 (Some 2) ≡ false
a_reference_stays = refl
