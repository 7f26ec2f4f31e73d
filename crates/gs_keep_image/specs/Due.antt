-- When an image is taken.
use Rattle.std.specs.Prelude.{◌≡◌, ◌*◌, ◌==◌, ◌&&◌, ℕ, Bool, true, false, not, nat_le, refl}

-- of a log that has grown to some times its image, and to a mebibyte, where it is some times at all
abbrev pub is_due : ℕ → ℕ → ℕ → Bool
is_due times grown image = not (times == 0) && (nat_le 1048576 grown && nat_le (times * image) grown)

-- ---- examples

a_first_image_is_due : is_due 2 1048576 0 ≡ true
a_first_image_is_due = refl

a_short_log_has_none : is_due 2 1048575 7 ≡ false
a_short_log_has_none = refl

a_long_log_has_another : is_due 2 2097152 1048576 ≡ true
a_long_log_has_another = refl

it_is_too_early : is_due 2 2097151 1048576 ≡ false
it_is_too_early = refl

with_none_it_is_never : is_due 0 2097152 7 ≡ false
with_none_it_is_never = refl
