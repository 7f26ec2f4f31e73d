-- How values are written. Numbers are big-endian.
use Rattle.std.specs.Prelude.{◌≡◌, ℕ, Bool, true, false, Option, Some, None, List, [], ◌∷◌, ◌++◌, length, codes, refl}
use Rattle.std.specs.List.{flat_map}
use Rattle.byteorder.specs.Endian.{big_bytes}
use Rattle.gs_base.specs.declared.numbers.Stamp.{Stamp}

abbrev pub number : ℕ → List ℕ
number n = big_bytes 8 n

-- two bytes of length, and the bytes
abbrev pub text : List ℕ → List ℕ
text bytes = big_bytes 2 (length bytes) ++ bytes

-- eight bytes of length, and the bytes
abbrev pub long_bytes : List ℕ → List ℕ
long_bytes bytes = number (length bytes) ++ bytes

-- four bytes with the number of items, and the items
abbrev pub list : {A : Type 0} → (A → List ℕ) → List A → List ℕ
list item items = big_bytes 4 (length items) ++ flat_map item items

-- eight bytes with the number of items, and the items
abbrev pub long_list : {A : Type 0} → (A → List ℕ) → List A → List ℕ
long_list item items = number (length items) ++ flat_map item items

abbrev pub flag_number : Bool → ℕ
flag_number false = 0
flag_number true = 1

abbrev pub flag : Bool → List ℕ
flag b = flag_number b ∷ []

-- 0 where there is none, and 1 in front of what there is
abbrev pub option : {A : Type 0} → (A → List ℕ) → Option A → List ℕ
option item None = 0 ∷ []
option item (Some x) = 1 ∷ item x

-- the epoch, and the version in it
abbrev pub stamp : Stamp → List ℕ
stamp s = number s.epoch ++ number s.version

-- an option, of which a view is seen
abbrev pub seen_option : {A B : Type 0} → (A → B) → Option A → Option B
seen_option view None = None
seen_option view (Some x) = Some (view x)

-- ---- examples

a_number : number 258 ≡ 0 ∷ 0 ∷ 0 ∷ 0 ∷ 0 ∷ 0 ∷ 1 ∷ 2 ∷ []
a_number = refl

two_letters : text (codes "ab") ≡ 0 ∷ 2 ∷ 97 ∷ 98 ∷ []
two_letters = refl

two_bytes : long_bytes (7 ∷ 9 ∷ []) ≡ 0 ∷ 0 ∷ 0 ∷ 0 ∷ 0 ∷ 0 ∷ 0 ∷ 2 ∷ 7 ∷ 9 ∷ []
two_bytes = refl

two_flags : list flag (true ∷ false ∷ []) ≡ 0 ∷ 0 ∷ 0 ∷ 2 ∷ 1 ∷ 0 ∷ []
two_flags = refl

no_flag : long_list flag [] ≡ 0 ∷ 0 ∷ 0 ∷ 0 ∷ 0 ∷ 0 ∷ 0 ∷ 0 ∷ []
no_flag = refl

maybe_a_flag : option flag (Some false) ≡ 1 ∷ 0 ∷ []
maybe_a_flag = refl
