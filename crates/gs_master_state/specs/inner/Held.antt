-- Names with the places that a move or removals keep until they stand, and a copy of them that stands by.
use Rattle.std.specs.Prelude.{◌≡◌, ◌≢◌, ℕ, [], ◌∷◌, List, Bool, true, false, Option, Some, None, Ok, is_some, refl}
use Rattle.std.specs.List.{list_any}
use Rattle.std.specs.Coded.{Coded, code_by, coded×, coded_list}
use Rattle.std.specs.FinMap as fin
use Rattle.std.specs.Ordering.{nat_cmp}
use Rattle.gs_base_table.specs.Slots.{live}
use Rattle.gs_path.specs.Element.{is_hidden}
use Rattle.gs_path.specs.Path.{Path, coded_path}
use Rattle.gs_tree.specs.Edits.{moved, same_path}
use Rattle.gs_tree.specs.Plain.{Same, part_at, rooted}
use Rattle.gs_edit.specs.View.{NamesView, coded_names}
use Rattle.gs_master_record.specs.Plain.{plain_edit}
use Rattle.gs_master_spec.specs.Undoing.{edited_names}
use Rattle.gs_master_spec.specs.Working.{is_visible}
use Rattle.gs_master_state.specs.declared.undo.Following.{Following}
use Rattle.gs_master_state.specs.declared.undo.Following.TheVariants.{Never, Edit, Move}

-- the names, and the paths that are kept
pub record HeldView : Type 0 where
  pub names : NamesView
  pub places : List Path

abbrev pub coded_held : Coded HeldView
coded_held =
    code_by (NamesView × List Path) (coded× coded_names (coded_list coded_path))
    (λ v. (v.names, v.places)) (λ p. record { names = p.0; places = p.1 }) (λ _. refl)

-- names of which no path is kept
abbrev pub still : NamesView → HeldView
still names = record { names = names; places = [] }

-- names without what stands at the paths that are kept
abbrev pub without_kept : List Path → NamesView → NamesView
without_kept [] names = names
without_kept (p ∷ places) names = without_kept places (record names { tree = fin.remove names.tree p })

-- an empty directory stands at a path that is kept, which isn't the root
abbrev pub IsPlace : Path → NamesView → Type 0
IsPlace p names = (p ≢ []) × Same (part_at p (fin.get names.tree)) rooted

abbrev pub ArePlaces : List Path → NamesView → Type 0
ArePlaces [] names = Unit {0}
ArePlaces (p ∷ places) names = IsPlace p names × ArePlaces places names

-- the last element of a path is a hidden name
abbrev pub ends_hidden : Path → Bool
ends_hidden [] = false
ends_hidden (x ∷ []) = is_hidden x
ends_hidden (x ∷ y ∷ p) = ends_hidden (y ∷ p)

abbrev pub AllHidden : List Path → Type 0
AllHidden [] = Unit {0}
AllHidden (p ∷ places) = (ends_hidden p ≡ true) × AllHidden places

-- all but the first were left by removals, so they are hidden
abbrev pub HiddenBehind : List Path → Type 0
HiddenBehind [] = Unit {0}
HiddenBehind (p ∷ places) = AllHidden places

-- these paths are kept in names
abbrev pub KeepsAll : List Path → NamesView → Type 0
KeepsAll places names = ArePlaces places names × HiddenBehind places

-- a path is one of those that are kept
abbrev pub is_at : List Path → Path → Bool
is_at places q = list_any (same_path q) places

-- all but the last
abbrev pub all_but_last : {X : Type 0} → List X → List X
all_but_last [] = []
all_but_last (x ∷ []) = []
all_but_last (x ∷ y ∷ more) = x ∷ all_but_last (y ∷ more)

-- what stands by, if something does, is equal
abbrev pub StandsBy : Option NamesView → NamesView → Type 0
StandsBy None names = Unit {0}
StandsBy (Some spare) names = spare ≡ names

-- these are the chunks of files that no hidden name is above
pub record AreSeen (names : NamesView) (chunks : List (ℕ × Option Bool)) : Type 0 where
  pub each : (chunk : ℕ) → is_some (fin.get (live nat_cmp chunks) chunk) ≡ is_visible (fin.entries names.tree) chunk

-- so are those that are kept, if they are
abbrev pub IsSeen : Option (List (ℕ × Option Bool)) → NamesView → Type 0
IsSeen None names = Unit {0}
IsSeen (Some chunks) names = AreSeen names chunks

-- the edit or the move that is told leads from the first names to the others
abbrev pub IsLedBy : Following → NamesView → NamesView → Type 0
IsLedBy Never before after = Unit {0}
IsLedBy (Edit edit) before after = edited_names (plain_edit edit) before ≡ Ok after
IsLedBy (Move from to) before after = Same (moved from to (fin.get before.tree)) (fin.get after.tree) × (before.refs ≡ after.refs)

the_counts_are_seen_as_they_are : (p : Path) (names : NamesView) → (without_kept (p ∷ []) names).refs ≡ names.refs
the_counts_are_seen_as_they_are p names = refl

all_is_seen_without_a_place : (names : NamesView) → without_kept [] names ≡ names
all_is_seen_without_a_place names = refl

no_path_is_kept_of_still_names : (names : NamesView) (q : Path) → is_at (still names).places q ≡ false
no_path_is_kept_of_still_names names q = refl

one_less_is_left : all_but_last {X = ℕ} (1 ∷ 2 ∷ 3 ∷ []) ≡ 1 ∷ 2 ∷ []
one_less_is_left = refl

nothing_stands_by : (names : NamesView) → StandsBy None names
nothing_stands_by names = tt

no_chunks_are_kept : (names : NamesView) → IsSeen None names
no_chunks_are_kept names = tt
