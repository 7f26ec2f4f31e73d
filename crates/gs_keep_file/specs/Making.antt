-- What a crash leaves of a file that is made.
use Rattle.std.specs.Prelude.{◌≡◌, ◌++◌, ◌&&◌, ◌-◌, ℕ, Bool, true, false, List, length, nat_le, bytes_eq, take, codes, if◌then◌else◌, refl}

-- Bytes are a beginning of a text: of what is fixed of it, or of all that and so many bytes of any kind behind it at most.
abbrev pub is_begun_by : List ℕ → ℕ → List ℕ → Bool
is_begun_by fixed drawn bytes =
    if nat_le (length bytes) (length fixed) then bytes_eq (take (length bytes) fixed) bytes
    else bytes_eq (take (length fixed) bytes) fixed && nat_le (length bytes - length fixed) drawn

-- ---- examples

a_part_is_begun : is_begun_by (codes "name ") 3 (codes "nam") ≡ true
a_part_is_begun = refl

so_is_another_name : is_begun_by (codes "name ") 3 (codes "name ab") ≡ true
so_is_another_name = refl

a_longer_text_is_none : is_begun_by (codes "name ") 3 (codes "name abcd") ≡ false
a_longer_text_is_none = refl

another_text_is_none : is_begun_by (codes "name ") 3 (codes "nave") ≡ false
another_text_is_none = refl
