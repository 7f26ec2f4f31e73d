-- What of two names is compared first.
use Rattle.std.specs.Prelude.{◌≡◌, ◌+◌, ◌*◌, ◌^◌, ◌<◌, ℕ, List, [], codes, refl}
use Rattle.std.specs.Int.{w64, from_be_bytes}
use Rattle.std.specs.List.{slice_index}

-- the first eight bytes as one number, the greatest digit first; what is missing counts as 0
unfoldable pub front_of : List ℕ → ℕ
front_of text = from_be_bytes w64 text

-- a number is the front of a text, and each item of the text is a byte
pub record IsFront (front : ℕ) (text : List ℕ) : Type 0 where
  pub is : front ≡ front_of text
  pub bytes : (i : ℕ) → slice_index text i < 256

front_of_nothing : front_of [] ≡ 0
unfolding front_of
front_of_nothing = refl

front_of_two : front_of (codes "ab") ≡ 97 * 256 ^ 7 + 98 * 256 ^ 6
unfolding front_of
front_of_two = refl

ninth_byte : front_of (codes "abcdefghi") ≡ front_of (codes "abcdefgh")
unfolding front_of
ninth_byte = refl
