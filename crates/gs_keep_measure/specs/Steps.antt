-- One line more is measured. This is what bodies need.
use Rattle.std.specs.Prelude.{◌≡◌, ◌+◌, ◌<◌, ◌≤◌, ◌⊎◌, ℕ, Bool, true, false, List, [], length, Option, Some, None}
use Rattle.std.specs.Io.BufRead.{drop_through, ends_with_byte, take_through}
use Rattle.gs_shell_line.specs.Line.{content, longest_line}
use Rattle.gs_keep_mark.specs.Marks.{is_whole_mark}
use Rattle.gs_keep_measure.specs.Measure.{IsWhole}
use Rattle.gs_keep_measure.specs.declared.Measure.{Measure}
use Rattle.gs_keep_measure.specs.declared.MeasureFault.{MeasureFault}
use Rattle.gs_keep_measure.specs.declared.MeasureFault.TheVariants as fault

-- with a whole line more: a mark moves the end of what is marked
abbrev pub MarksAs : Bool → Measure → Measure → Type 0
MarksAs true now more = (more.marked ≡ more.whole) × (more.marked_lines ≡ more.whole_lines)
MarksAs false now more = (more.marked ≡ now.marked) × (more.marked_lines ≡ now.marked_lines)

abbrev pub Grows : Measure → Measure → List ℕ → Type 0
Grows now more line =
    (now.is_lost ≡ false) × (more.is_lost ≡ false) × (more.whole ≡ now.whole + length line) × (more.whole_lines ≡ now.whole_lines + 1) × MarksAs (is_whole_mark line) now more

-- a line is passed over after one that is too long, and is no mark
abbrev pub Passes : Measure → Measure → List ℕ → Type 0
Passes now more line = (now.is_lost ≡ true) × (is_whole_mark line ≡ false) × (more ≡ now)

abbrev pub Takes : Measure → Measure → List ℕ → Type 0
Takes now more line = Grows now more line ⊎ Passes now more line

-- a line can't be taken
abbrev pub CantTake : Measure → List ℕ → Type 0
CantTake now line =
    ((now.is_lost ≡ true) × (is_whole_mark line ≡ true))
    ⊎ ((now.is_lost ≡ false) × ((18446744073709551616 ≤ now.whole + length line) ⊎ (18446744073709551616 ≤ now.whole_lines + 1)))

-- a line that is longer than a line may be
abbrev pub Loses : Measure → Measure → List ℕ → Type 0
Loses now more line =
    (longest_line < length (content line)) × (more.is_lost ≡ true) × (more.whole ≡ now.whole) × (more.whole_lines ≡ now.whole_lines)
    × (more.marked ≡ now.marked) × (more.marked_lines ≡ now.marked_lines)

-- One line more is measured, or there is none with its end.
abbrev pub TakesOne : Option Measure → List ℕ → Option (List ℕ) → Measure → Type 0
TakesOne (Some more) xs left now =
    (0 < length xs) × (left ≡ Some (drop_through 10 xs)) × ((IsWhole (take_through 10 xs) × Takes now more (take_through 10 xs)) ⊎ Loses now more (take_through 10 xs))
TakesOne None xs left now = (xs ≡ []) ⊎ (ends_with_byte 10 (take_through 10 xs) ≡ false)

-- the next line can't be taken
abbrev pub RefusesNext : MeasureFault → List ℕ → Measure → Type 0
RefusesNext (fault.Read e) xs now = Unit {0}
RefusesNext fault.Memory xs now = 0 < length xs
RefusesNext fault.Damaged xs now = (0 < length xs) × CantTake now (take_through 10 xs)
