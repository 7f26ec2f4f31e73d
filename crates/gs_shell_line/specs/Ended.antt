-- Lines with their ends.
use Rattle.std.specs.Prelude.{◌≡◌, ◌<◌, ◌≤◌, ◌++◌, ◌∷◌, ℕ, List, [], length, true, false, Option, codes, refl}
use Rattle.std.specs.Io.BufRead.{ends_with_byte}
use Rattle.gs_shell_line.specs.Line.{content, longest_line}
use Rattle.gs_shell_line.specs.Reads.{HasEnded}
use Rattle.gs_shell_line.specs.declared.ended.EndedLine.{EndedLine}
use Rattle.gs_shell_line.specs.declared.ended.EndedLine.TheVariants.{End, Text, Unended, TooLong, NoMemory}
use Rattle.gs_shell_line.specs.declared.ended.EndedLines.{EndedLines}

-- what stands next, of the bytes up to and with the line's end
abbrev pub IsEndedLine : List ℕ → EndedLine → Type 0
IsEndedLine whole End = whole ≡ []
IsEndedLine whole (Text v) = (v.items ≡ whole) × (ends_with_byte 10 whole ≡ true) × (length (content whole) ≤ longest_line)
IsEndedLine whole Unended = (0 < length whole) × (ends_with_byte 10 whole ≡ false)
IsEndedLine whole TooLong = longest_line < length (content whole)
IsEndedLine whole NoMemory = 0 < length whole

-- the bytes that a reader of lines will give, where these are known
abbrev pub remaining : {B : Type 0} → (B → Option (List ℕ)) → EndedLines B → Option (List ℕ)
remaining of lines = of lines.reader

-- a read of it has failed, or no more can be made
abbrev pub HasNoMore : {B : Type 0} → EndedLines B → Type 0
HasNoMore lines = HasEnded lines.reads

a_line_has_its_end : ends_with_byte 10 (codes "ls /" ++ 13 ∷ 10 ∷ []) ≡ true
a_line_has_its_end = refl

a_torn_line_has_none : ends_with_byte 10 (codes "rm -r /photos") ≡ false
a_torn_line_has_none = refl
