-- What a line is, as far as it is read and whole.
use Rattle.std.specs.Prelude.{◌≡◌, ◌≢◌, ◌+◌, ◌<◌, ◌≤◌, ◌++◌, ◌∷◌, ◌==◌, ℕ, Bool, true, false, Option, OnSome, All, List, [], length, codes, if◌then◌else◌, refl}
use Rattle.std.specs.List.{list_any}
use Rattle.std.specs.Io.{StopsAt, IsEmptyOrEndsWith}
use Rattle.std.specs.Io.BufRead.{ends_with_byte, strip_last}
use Rattle.std.specs.Io.KnownBytes.{Consumes, IsAtEnd}
use Rattle.gs_shell_line.specs.declared.Line.{Line}
use Rattle.gs_shell_line.specs.declared.Line.TheVariants.{End, Text, TooLong, NoMemory}
use Rattle.gs_shell_line.specs.declared.taken.Taken.{Taken}
use Rattle.gs_shell_line.specs.declared.taken.Taken.TheVariants.{Held, Long, Lost}

-- the most bytes of a line that is held, without its end
abbrev pub longest_line : ℕ
longest_line = 1048576

-- a line of the input without its \n or \r\n
abbrev pub content : List ℕ → List ℕ
content whole = if ends_with_byte 10 whole then strip_last 13 (strip_last 10 whole) else whole

content-newline : content (codes "ls /" ++ 10 ∷ []) ≡ codes "ls /"
content-newline = refl

content-return-newline : content (codes "ls /" ++ 13 ∷ 10 ∷ []) ≡ codes "ls /"
content-return-newline = refl

content-two-returns : content (codes "ls /" ++ 13 ∷ 13 ∷ 10 ∷ []) ≡ codes "ls /" ++ 13 ∷ []
content-two-returns = refl

content-return : content (codes "ls /" ++ 13 ∷ []) ≡ codes "ls /" ++ 13 ∷ []
content-return = refl

content-empty : content (10 ∷ []) ≡ []
content-empty = refl

-- a line ends within some bytes
abbrev pub HasLineEnd : List ℕ → Type 0
HasLineEnd xs = list_any (λ x. x == 10) xs ≡ true

line-end-within : HasLineEnd (codes "ls /" ++ 10 ∷ codes "ls")
line-end-within = refl

no-line-end-within : list_any (λ x. x == 10) (codes "ls /" ++ 13 ∷ []) ≡ false
no-line-end-within = refl

-- what stands next, of the bytes up to and with the line's end
abbrev pub IsLine : List ℕ → Line → Type 0
IsLine whole End = whole ≡ []
IsLine whole (Text v) = (0 < length whole) × (v.items ≡ content whole) × (length v.items ≤ longest_line)
IsLine whole TooLong = longest_line < length (content whole)
IsLine whole NoMemory = 0 < length whole

-- how a line is kept of which the bytes `done` are read: while it is held, there is room for its end too
abbrev pub Holds : Taken → List ℕ → Type 0
Holds (Held v) done = (v.items ≡ done) × (length done ≤ longest_line + 2)
Holds Long done = longest_line + 2 < length done
Holds Lost done = 0 < length done

-- a part of one line was taken from a reader's bytes, up to the line's end or not
pub record TakesPart (old new : Option (List ℕ)) (is_done : Bool) (part : List ℕ) : Type 0 where
  pub read : Consumes old new part
  pub stops : StopsAt part 10
  pub within : is_done ≢ true → All (λ x. x ≢ 10) part
  pub ends : is_done ≡ true → IsEmptyOrEndsWith part 10
  pub last : is_done ≡ true → length part ≡ 0 → OnSome old (IsAtEnd new)

-- the reader may have lost bytes of one line, and none behind its end
abbrev pub StaysInLine : Option (List ℕ) → Option (List ℕ) → Type 0
StaysInLine old new = (part : List ℕ) × Consumes old new part × All (λ x. x ≢ 10) part
