-- What a crash doesn't leave after the last mark of a log.
use Rattle.std.specs.Prelude.{◌≡◌, ◌==◌, ◌+◌, ◌-◌, ◌++◌, ◌∷◌, ◌&&◌, ℕ, suc, Bool, true, false, not, List, [], length, drop, nat_lt, nat_le, slice_index, codes, Option, Some, None, if◌then◌else◌, refl}
use Rattle.std.specs.List.{list_all, list_any}
use Rattle.gs_shell_line.specs.Line.{content}
use Rattle.gs_shell_script.specs.Run.{lines_of}
use Rattle.gs_keep_measure.specs.Measure.{is_nearly_mark, wrong_before}
use Rattle.gs_keep_measure.specs.declared.Measure.{Measure}
use Rattle.gs_keep_measure.specs.declared.tail.TailFault.{TailFault}
use Rattle.gs_keep_measure.specs.declared.tail.TailFault.TheVariants as fault

-- how many bytes there are up to and with the first line end, or all
unfoldable pub line_len : List ℕ → ℕ
line_len [] = 0
line_len (x ∷ xs) = if x == 10 then 1 else suc (line_len xs)

-- a line ends with a carriage return and a line feed
abbrev pub is_returned : List ℕ → Bool
is_returned line = length (content line) + 2 == length line

-- a line begins with a '#', a space and a digit, as marks do and no line of the grammar
abbrev pub begins_mark : List ℕ → Bool
begins_mark line =
    nat_lt 2 (length line) && (slice_index line 0 == 35 && (slice_index line 1 == 32 && (nat_le 48 (slice_index line 2) && nat_le (slice_index line 2) 57)))

-- where the first line stands that begins as a mark and isn't the last one, if the lines are counted from n on
unfoldable pub early_from : ℕ → List (List ℕ) → Option ℕ
early_from n [] = None
early_from n (line ∷ []) = None
early_from n (line ∷ next ∷ more) = if begins_mark line then Some n else early_from (n + 1) (next ∷ more)

-- as many bytes as a mark has, of the last ones, or all
abbrev pub last_bytes : List ℕ → List ℕ
last_bytes bytes = drop (length bytes - 153) bytes

abbrev pub mark_or : Option ℕ → Option TailFault → Option TailFault
mark_or (Some n) other = Some (fault.Mark n)
mark_or None other = other

-- What refuses a log with this first line, of the second form or the first, for what stands after what is run again. A crash leaves at most one
-- batch there, whose mark is its last line and ends with a line feed alone; and after the whole lines of a log without marks a part of one line.
abbrev pub tail_fault : Bool → Measure → List ℕ → List ℕ → Option TailFault
tail_fault is_second m head tail =
    if is_second && is_returned head then Some fault.Returns
    else if list_all is_returned (lines_of tail) && list_any begins_mark (lines_of tail) then Some fault.Returns
    else mark_or (early_from 0 (lines_of tail))
    (if is_nearly_mark (last_bytes tail) then Some fault.Damaged
    else if not is_second && (m.marked == 0 && list_any (λ x. x == 10) tail) then Some fault.Long
    else None)

-- ---- examples

a_log_with_a_mark : Measure
a_log_with_a_mark = record { marked = 200; marked_lines = 3; whole = 200; whole_lines = 3; is_lost = false }

a_torn_batch_is_left : tail_fault true a_log_with_a_mark (codes "head" ++ 10 ∷ []) (codes "ls /" ++ 10 ∷ codes "# 0000") ≡ None
unfolding a_log_with_a_mark early_from wrong_before
a_torn_batch_is_left = refl

lines_end_otherwise : tail_fault true a_log_with_a_mark (codes "head" ++ 10 ∷ []) (codes "ls /" ++ 13 ∷ 10 ∷ codes "# 0000" ++ 13 ∷ 10 ∷ []) ≡ Some fault.Returns
unfolding a_log_with_a_mark early_from wrong_before
lines_end_otherwise = refl

a_mark_stands_too_early : tail_fault true a_log_with_a_mark (codes "head" ++ 10 ∷ []) (codes "ls /" ++ 10 ∷ codes "# 0000" ++ 10 ∷ codes "ls /" ++ 10 ∷ []) ≡ Some (fault.Mark 1)
unfolding a_log_with_a_mark early_from wrong_before
a_mark_stands_too_early = refl
