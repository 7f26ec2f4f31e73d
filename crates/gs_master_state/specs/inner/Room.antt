-- What is left of the journal's room.
use Rattle.std.specs.Prelude.{◌≡◌, ◌+◌, ◌-◌, ℕ, nat_le, Option, Some, None, if◌then◌else◌, refl}

-- what is left of a limit behind so many bytes; nothing where they are above it
abbrev pub room_left : ℕ → ℕ → Option ℕ
room_left limit size = if nat_le size limit then Some (limit - size) else None

-- what was left has become what is left behind so many bytes more
abbrev pub IsBehind : Option ℕ → ℕ → Option ℕ → Type 0
IsBehind room bytes left = (limit size : ℕ) → room ≡ room_left limit size → left ≡ room_left limit (size + bytes)

-- ---- examples

four_are_left : room_left 30 26 ≡ Some 4
four_are_left = refl

none_is_left : room_left 26 26 ≡ Some 0
none_is_left = refl

it_is_too_much : room_left 25 26 ≡ None
it_is_too_much = refl
