-- What a snapshot waits for: a file of its source with a chunk that isn't quiet.
use Rattle.std.specs.Prelude.{◌≡◌, ◌&&◌, ◌∷◌, [], Bool, true, false, codes, not, refl}
use Rattle.std.specs.List.{list_all, list_any}
use Rattle.std.specs.FinMap as fin
use Rattle.gs_path.specs.Element.{is_hidden}
use Rattle.gs_path.specs.Path.{Path, begins}
use Rattle.gs_tree.specs.Edits.{chunks_in}
use Rattle.gs_tree.specs.Plain.{after}
use Rattle.gs_master_spec.specs.Settling.{is_quiet_at}
use Rattle.gs_master_spec.specs.State.{State}

-- a snapshot copies what stands there: at its source or under it, with nothing hidden between
abbrev pub is_visible_below : Path → Path → Bool
is_visible_below from file = begins from file && not (list_any is_hidden (after from file))

abbrev pub holds_up : State → Path → Path → Bool
holds_up s from file = is_visible_below from file && not (list_all (is_quiet_at s) (chunks_in (fin.get s.durable.names.tree file)))

-- ---- examples

abbrev a : Path
a = codes "a" ∷ []

a_file_of_the_source : is_visible_below a (codes "a" ∷ codes "f" ∷ []) ≡ true
a_file_of_the_source = refl

the_source_itself : is_visible_below a a ≡ true
the_source_itself = refl

a_file_beside_it : is_visible_below a (codes "b" ∷ []) ≡ false
a_file_beside_it = refl
