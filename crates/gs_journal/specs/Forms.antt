-- Which journals are of their form.
use Rattle.std.specs.Prelude.{◌&&◌, Bool, true, false, List, [], ◌∷◌}
use Rattle.gs_journal.specs.Records.{Entry, Text}
use Rattle.gs_journal.specs.Bodies.{is_of_form}
use Rattle.gs_journal.specs.declared.version.Version.{Version}

-- records, of which the first is a disk's first or isn't
abbrev pub are_of_form : Version → Bool → List Entry → Bool
are_of_form version is_first [] = true
are_of_form version is_first (r ∷ rs) = is_of_form version is_first r && are_of_form version false rs

abbrev pub is_text : Text → Bool
is_text text = are_of_form text.0 true text.1

abbrev pub is_empty : List Entry → Bool
is_empty [] = true
is_empty (r ∷ rs) = false

-- a record is of the form of the one behind a text
abbrev pub is_next : Text → Entry → Bool
is_next text r = is_of_form text.0 (is_empty text.1) r
