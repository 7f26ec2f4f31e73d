-- How far a log has whole lines, and marks.
use Rattle.std.specs.Prelude.{◌≡◌, ◌==◌, ◌<◌, ◌≤◌, ◌+◌, ◌++◌, ◌∷◌, ◌⊎◌, ◌&&◌, ◌||◌, ℕ, zero, suc, Bool, true, false, List, [], length, flat_map, nat_le, slice_index, codes, if◌then◌else◌, refl}
use Rattle.std.specs.List.{AllByRecursion}
use Rattle.std.specs.Io.BufRead.{ends_with_byte}
use Rattle.gs_shell_line.specs.Line.{content, longest_line}
use Rattle.gs_shell_script.specs.Run.{lines_of}
use Rattle.gs_keep_mark.specs.Marks.{is_whole_mark}
use Rattle.gs_keep_measure.specs.declared.Measure.{Measure}
use Rattle.gs_keep_measure.specs.declared.MeasureFault.{MeasureFault}
use Rattle.gs_keep_measure.specs.declared.MeasureFault.TheVariants as fault

-- how many bytes lines have, with their ends
abbrev pub bytes_in : List (List ℕ) → ℕ
bytes_in lines = length (flat_map (λ l. l) lines)

-- none of some lines is a mark with its end
abbrev pub NoneMark : List (List ℕ) → Type 0
NoneMark lines = AllByRecursion (λ line. is_whole_mark line ≡ false) lines

-- there are none, or the last of them is a mark
abbrev pub LastIsMark : List (List ℕ) → Type 0
LastIsMark lines = (lines ≡ []) ⊎ ((before : List (List ℕ)) × (mark : List ℕ) × (lines ≡ before ++ mark ∷ []) × (is_whole_mark mark ≡ true))

-- it has its end, and is no longer than a line may be
abbrev pub IsWhole : List ℕ → Type 0
IsWhole line = (ends_with_byte 10 line ≡ true) × (length (content line) ≤ longest_line)

-- At most one line without its end stands there; or, where a line is too long, these begin with it.
abbrev pub StopsFirst : Bool → List (List ℕ) → Type 0
StopsFirst false [] = Unit {0}
StopsFirst false (line ∷ more) = (ends_with_byte 10 line ≡ false) × (more ≡ [])
StopsFirst true [] = ⊥
StopsFirst true (line ∷ more) = longest_line < length (content line)

-- The first lines of a text end with its last mark, and so many bytes and lines are theirs. So many more are those of the whole lines after it.
-- Then comes at most one line without an end, or one that is longer than a line may be and all after it.
pub record Measures (text : List ℕ) (m : Measure) : Type 0 where
  pub front : List (List ℕ)
  pub back : List (List ℕ)
  pub torn : List (List ℕ)
  pub parts : lines_of text ≡ front ++ (back ++ torn)
  pub last : LastIsMark front
  pub none : NoneMark (back ++ torn)
  pub are_whole : AllByRecursion IsWhole (front ++ back)
  pub stops : StopsFirst m.is_lost torn
  pub marked_long : bytes_in front ≡ m.marked
  pub marked_many : length front ≡ m.marked_lines
  pub whole_long : bytes_in (front ++ back) ≡ m.whole
  pub whole_many : length (front ++ back) ≡ m.whole_lines

-- a mark stands after a line that is longer than a line may be
pub record HasLateMark (lines : List (List ℕ)) : Type 0 where
  pub before : List (List ℕ)
  pub long : List ℕ
  pub between : List (List ℕ)
  pub mark : List ℕ
  pub after : List (List ℕ)
  pub parts : lines ≡ before ++ (long ∷ (between ++ mark ∷ after))
  pub is_long : longest_line < length (content long)
  pub is_mark : is_whole_mark mark ≡ true

-- there are more lines, or more bytes of them, than can be counted
abbrev pub AreTooMany : List (List ℕ) → Type 0
AreTooMany lines = (18446744073709551615 ≤ length lines) ⊎ (18446744073709551615 ≤ bytes_in lines)

-- A text isn't measured where a mark stands after a line that is too long, or no more can be counted. Memory can only be lacking where there is a line.
abbrev pub Refuses : MeasureFault → List ℕ → Type 0
Refuses (fault.Read e) text = Unit {0}
Refuses fault.Memory text = 0 < length (lines_of text)
Refuses fault.Damaged text = HasLateMark (lines_of text) ⊎ AreTooMany (lines_of text)

-- A measure that blames the reader is told so by it.
abbrev pub IsTold : MeasureFault → Type 0 → Type 0
IsTold (fault.Read e) unread = unread
IsTold fault.Memory unread = Unit {0}
IsTold fault.Damaged unread = Unit {0}

-- ---- the form of a mark

-- a byte may stand in a mark at this place
abbrev pub may_stand : ℕ → ℕ → Bool
may_stand place byte =
    if place == 0 then byte == 35
    else if (place == 1 || place == 22) || place == 87 then byte == 32
    else if place == 152 then byte == 10
    else if nat_le place 21 then nat_le 48 byte && nat_le byte 57
    else (nat_le 48 byte && nat_le byte 57) || (nat_le 97 byte && nat_le byte 102)

-- how many of the first bytes may not
unfoldable pub wrong_before : ℕ → List ℕ → ℕ
wrong_before zero bytes = 0
wrong_before (suc n) bytes = wrong_before n bytes + (if may_stand n (slice_index bytes n) then 0 else 1)

-- as long as a mark, and one by its form but for one byte at most
abbrev pub is_nearly_mark : List ℕ → Bool
is_nearly_mark bytes = (length bytes == 153) && nat_le (wrong_before 153 bytes) 1

a_digit_is_wrong : wrong_before 4 (codes "# 0x") ≡ 1
unfolding wrong_before
a_digit_is_wrong = refl
