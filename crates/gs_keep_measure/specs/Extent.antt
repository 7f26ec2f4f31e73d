-- How much of a log is run again.
use Rattle.std.specs.Prelude.{◌≡◌, ◌+◌, ◌<◌, ◌≤◌, ℕ, Bool, true, false, nat_lt, Result, Ok, Err, if◌then◌else◌, refl}
use Rattle.gs_keep_measure.specs.declared.Measure.{Measure}
use Rattle.gs_keep_measure.specs.declared.extent.Extent.{Extent}
use Rattle.gs_keep_measure.specs.declared.extent.ExtentFault.{ExtentFault}
use Rattle.gs_keep_measure.specs.declared.extent.ExtentFault.TheVariants as fault

-- more than these a crash doesn't leave after the last mark
abbrev pub most_behind : ℕ
most_behind = 4194304

-- the bytes that are run again, with those of the first line: all up to the last mark, and in a log of the first form that has no mark yet all whole lines
abbrev pub run_again : Bool → Measure → ℕ → ℕ
run_again is_second m head =
    if nat_lt 0 m.marked then m.marked
    else if is_second then head
    else m.whole

-- how many lines these are, with the first
abbrev pub lines_again : Bool → Measure → ℕ
lines_again is_second m =
    if nat_lt 0 m.marked then m.marked_lines
    else if is_second then 1
    else m.whole_lines

-- All bytes are run again or stand after those, of which there are no more than a crash leaves. A log is refused exactly where there are more, or
-- where it has become shorter than what would be run again.
abbrev pub Extends : Result Extent ExtentFault → Bool → Measure → ℕ → ℕ → Type 0
Extends (Ok e) is_second m head len =
    (e.whole ≡ run_again is_second m head) × (e.lines ≡ lines_again is_second m) × (e.whole + e.rest ≡ len) × (e.rest ≤ most_behind)
Extends (Err fault.Shorter) is_second m head len = len < run_again is_second m head
Extends (Err (fault.Unmarked rest)) is_second m head len = (run_again is_second m head + rest ≡ len) × (most_behind < rest)

-- a log whose mark is followed by a torn line
a_marked_log : Measure
a_marked_log = record { marked = 300; marked_lines = 4; whole = 310; whole_lines = 5; is_lost = false }

a_mark_ends_what_is_run : run_again true a_marked_log 60 ≡ 300
unfolding a_marked_log
a_mark_ends_what_is_run = refl
