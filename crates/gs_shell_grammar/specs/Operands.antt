-- The operands of a line that aren't paths.
use Rattle.std.specs.Prelude.{◌==◌, ◌&&◌, ◌^◌, ℕ, not, nat_lt, List, length, if◌then◌else◌, Option, Some, None}
use Rattle.std.specs.Result.{result_ok}
use Rattle.std.specs.Str.{all_ascii_digits}
use Rattle.std.specs.Str.Parse.{digits_value}
use Rattle.hex.specs.Hex.{decode_of}

-- the number that decimal digits write, with zeros in front or without, if it is below 2 ^ 64
abbrev pub number_of : List ℕ → Option ℕ
number_of word =
    if not (length word == 0) && (all_ascii_digits word && nat_lt (digits_value 10 word) (2 ^ 64)) then Some (digits_value 10 word)
    else None

-- the bytes, one or more, that pairs of hex digits write, in either case
abbrev pub bytes_of : List ℕ → Option (List ℕ)
bytes_of word = if length word == 0 then None else result_ok (decode_of word)
