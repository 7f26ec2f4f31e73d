-- When a kept store has its nodes tick by a line of its own.
use Rattle.std.specs.Prelude.{◌≡◌, ◌+◌, ◌++◌, ◌∷◌, ◌||◌, ℕ, Bool, List, [], length, Option, None, Some, bytes_eq, codes, nat_lt, if◌then◌else◌, refl}

-- so many bytes of lines behind a tick the next one is due
abbrev pub bytes_between_ticks : ℕ
bytes_between_ticks = 67108864

-- what a line counts beside its bytes
abbrev pub bytes_of_a_line : ℕ
bytes_of_a_line = 256

-- the line that has all nodes tick, without its end
abbrev pub tick_line : List ℕ
tick_line = codes "tick"

-- A line with this answer counts for nothing: it is none of the grammar, or memory was lacking for it.
abbrev pub is_passed_over : List ℕ → Bool
is_passed_over text = bytes_eq text (codes "refused 34 BadLine") || bytes_eq text (codes "refused 33 Memory")

-- No more is counted once a tick is due.
abbrev pub up_to_due : ℕ → ℕ
up_to_due n = if nat_lt n bytes_between_ticks then n else bytes_between_ticks

-- What the lines behind the last tick count, with this one and its answer too.
abbrev pub since_tick : ℕ → List ℕ → List ℕ → ℕ
since_tick n line text =
    if is_passed_over text then n
    else if bytes_eq line tick_line then 0
    else up_to_due (n + (length line + bytes_of_a_line))

-- the line of its own that is due, with its end, where the lines behind the last tick count so much
abbrev pub due_line : ℕ → Option (List ℕ)
due_line n = if nat_lt n bytes_between_ticks then None else Some (tick_line ++ 10 ∷ [])

-- ---- examples

a_line_is_counted : since_tick 1000 (codes "ls /") (codes "ok") ≡ 1260
a_line_is_counted = refl

a_refused_line_is_counted : since_tick 1000 (codes "ls /none") (codes "refused 3 NotFound") ≡ 1264
a_refused_line_is_counted = refl

a_line_that_is_none_is_not_counted : since_tick 1000 (codes "look") (codes "refused 34 BadLine") ≡ 1000
a_line_that_is_none_is_not_counted = refl

a_tick_begins_anew : since_tick 67108864 (codes "tick") (codes "ok") ≡ 0
a_tick_begins_anew = refl

none_is_due_behind_a_tick : due_line (since_tick 67108864 (codes "tick") (codes "ok")) ≡ None
none_is_due_behind_a_tick = refl

no_more_are_counted : since_tick 67108864 (codes "ls /") (codes "ok") ≡ 67108864
no_more_are_counted = refl

none_is_due_yet : due_line (since_tick 67108603 (codes "ls /") (codes "ok")) ≡ None
none_is_due_yet = refl

a_tick_is_due : due_line (since_tick 67108604 (codes "ls /") (codes "ok")) ≡ Some (codes "tick" ++ 10 ∷ [])
a_tick_is_due = refl
