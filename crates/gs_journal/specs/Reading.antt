-- How the parts of a body are read: a part gives the bytes behind it, or nothing where it isn't of its form.
use Rattle.std.specs.Prelude.{◌≡◌, ◌*◌, ℕ, zero, suc, Bool, nat_le, if◌then◌else◌, Option, Some, None, List, [], ◌∷◌, length, drop}
use Rattle.std.specs.Borrow.{Bor}
use Rattle.byteorder.specs.Endian.{big_number}

abbrev pub Part : Type 0
Part = List ℕ → Option (List ℕ)

infixl 10 ◌>>=◌
abbrev pub ◌>>=◌ : Option (List ℕ) → Part → Option (List ℕ)
(Some bytes) >>= part = part bytes
None >>= part = None

-- as many bytes, whatever they are
abbrev pub skip : ℕ → Part
skip n bytes = if nat_le n (length bytes) then Some (drop n bytes) else None

-- a byte that passes a test
abbrev pub byte : (ℕ → Bool) → Part
byte test [] = None
byte test (b ∷ bytes) = if test b then Some bytes else None

-- two bytes of length, and as many bytes
abbrev pub text : Part
text bytes = skip 2 bytes >>= skip (big_number 2 bytes)

abbrev pub two_texts : Part
two_texts bytes = text bytes >>= text

-- a text, and as many bytes
abbrev pub text_and : ℕ → Part
text_and n bytes = text bytes >>= skip n

-- four bytes with a number of items, and the items of so many bytes each
abbrev pub items : ℕ → Part
items size bytes = skip 4 bytes >>= skip (big_number 4 bytes * size)

-- a part so many times
abbrev pub times : Part → ℕ → Part
times part zero bytes = Some bytes
times part (suc n) bytes = part bytes >>= times part n

-- four bytes with a number of items, and the items
abbrev pub list : Part → Part
list part bytes = skip 4 bytes >>= times part (big_number 4 bytes)

-- what a function found is what a part gives
abbrev pub LeavesRest : Option (Bor (List ℕ)) → Option (List ℕ) → Type 0
LeavesRest (Some rest) read = read ≡ Some rest.now
LeavesRest None read = read ≡ None

abbrev pub is_end : Option (List ℕ) → Bool
is_end (Some []) = Bool.true
is_end (Some (b ∷ bytes)) = Bool.false
is_end None = Bool.false

-- what a function found is the number of four bytes, and what stands behind it
abbrev pub Counts : Option (ℕ × Bor (List ℕ)) → List ℕ → Type 0
Counts (Some found) bytes = (skip 4 bytes ≡ Some found.1.now) × (found.0 ≡ big_number 4 bytes)
Counts None bytes = skip 4 bytes ≡ None
