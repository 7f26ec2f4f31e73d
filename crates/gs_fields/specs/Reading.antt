-- How bytes are read: a reader gives a value and the bytes behind it, or nothing.
use Rattle.std.specs.Prelude.{◌≡◌, ℕ, zero, suc, ◌==◌, nat_lt, if◌then◌else◌, List, [], ◌∷◌, length, take, drop, Option, Some, None, Bool, true, false, refl}
use Rattle.std.specs.Int.{Width, w16, w32, w64, byte_len, from_be_bytes}
use Rattle.std.specs.Str.{is_utf8}
use Rattle.gs_base.specs.declared.numbers.Stamp.{Stamp}

abbrev pub Reader : Type 0 → Type 0
Reader A = List ℕ → Option (A × List ℕ)

infixl 10 ◌>>=◌
abbrev pub ◌>>=◌ : {A B : Type 0} → Option A → (A → Option B) → Option B
(Some x) >>= f = f x
None >>= f = None

-- one value behind another
abbrev pub both : {A B : Type 0} → Reader A → Reader B → Reader (A × B)
both first second bytes = first bytes >>= λ x. second x.1 >>= λ y. Some ((x.0, y.0), y.1)

-- a value that is made of another, if one is
abbrev pub made : {A B : Type 0} → (A → Option B) → Reader A → Reader B
made of reader bytes = reader bytes >>= λ x. of x.0 >>= λ y. Some (y, x.1)

-- as many values
abbrev pub times : {A : Type 0} → Reader A → ℕ → Reader (List A)
times item zero bytes = Some ([], bytes)
times item (suc n) bytes = item bytes >>= λ x. times item n x.1 >>= λ xs. Some (x.0 ∷ xs.0, xs.1)

-- all of the bytes
abbrev pub whole : {A : Type 0} → Option (A × List ℕ) → Option A
whole None = None
whole (Some x) = if length x.1 == 0 then Some x.0 else None

unfoldable pub byte_at : Reader ℕ
byte_at [] = None
byte_at (b ∷ bytes) = Some (b, bytes)

unfoldable pub number_at : Width → Reader ℕ
number_at w bytes = if nat_lt (length bytes) (byte_len w) then None else Some (from_be_bytes w (take (byte_len w) bytes), drop (byte_len w) bytes)

-- as many bytes
unfoldable pub bytes_at : ℕ → Reader (List ℕ)
bytes_at n bytes = if nat_lt (length bytes) n then None else Some (take n bytes, drop n bytes)

unfoldable pub text_at : Reader (List ℕ)
text_at bytes = number_at w16 bytes >>= λ n. bytes_at n.0 n.1 >>= λ t. (if is_utf8 t.0 then Some t else None)

unfoldable pub long_bytes_at : Reader (List ℕ)
long_bytes_at bytes = number_at w64 bytes >>= λ n. bytes_at n.0 n.1

unfoldable pub list_at : {A : Type 0} → Reader A → Reader (List A)
list_at item bytes = number_at w32 bytes >>= λ n. times item n.0 n.1

unfoldable pub long_list_at : {A : Type 0} → Reader A → Reader (List A)
long_list_at item bytes = number_at w64 bytes >>= λ n. times item n.0 n.1

abbrev pub flag_of : ℕ → Option Bool
flag_of n = if n == 0 then Some false else if n == 1 then Some true else None

unfoldable pub flag_at : Reader Bool
flag_at = made flag_of byte_at

abbrev pub some_of : {A : Type 0} → A → Option (Option A)
some_of x = Some (Some x)

abbrev pub option_behind : {A : Type 0} → Reader A → ℕ → Reader (Option A)
option_behind item tag bytes = if tag == 0 then Some (None, bytes) else if tag == 1 then made some_of item bytes else None

unfoldable pub option_at : {A : Type 0} → Reader A → Reader (Option A)
option_at item bytes = byte_at bytes >>= λ t. option_behind item t.0 t.1

abbrev pub stamp_of : ℕ × ℕ → Option Stamp
stamp_of x = Some (record { epoch = x.0; version = x.1 })

unfoldable pub stamp_at : Reader Stamp
stamp_at = made stamp_of (both (number_at w64) (number_at w64))

-- ---- examples

a_byte_and_what_is_left : byte_at (7 ∷ 9 ∷ []) ≡ Some (7, 9 ∷ [])
unfolding byte_at
a_byte_and_what_is_left = refl

no_flag : flag_at (2 ∷ []) ≡ None
unfolding flag_at byte_at
no_flag = refl
