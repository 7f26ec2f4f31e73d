-- Sets of servers. A set is the ascending list of its members' numbers, which are below 16.
use Rattle.std.specs.Prelude.{◌≡◌, ℕ, ◌+◌, ◌^◌, ◌==◌, ◌||◌, ◌&&◌, not, Bool, List, [], ◌∷◌, filter, bit_or, refl, zero, suc}
use Rattle.std.specs.List.{list_any}
use Rattle.std.specs.Int.{bit_at}

-- as many numbers from the first on
abbrev pub count_from : ℕ → ℕ → List ℕ
count_from first zero = []
count_from first (suc many) = first ∷ count_from (first + 1) many

-- the servers that pass a test
unfoldable pub servers_where : (ℕ → Bool) → List ℕ
servers_where test = filter test (count_from 0 16)

abbrev pub is_member : List ℕ → ℕ → Bool
is_member members server = list_any (λ m. m == server) members

-- the set with one more member, and without it
abbrev pub with_member : List ℕ → ℕ → List ℕ
with_member members server = servers_where (λ s. (s == server) || is_member members s)

abbrev pub without_member : List ℕ → ℕ → List ℕ
without_member members server = servers_where (λ s. not (s == server) && is_member members s)

-- bit i of a number
abbrev pub has_bit : ℕ → ℕ → Bool
has_bit bits i = bit_at bits i == 1

-- the number whose bit i says whether server i is a member
unfoldable pub bits_of : List ℕ → ℕ
bits_of [] = 0
bits_of (m ∷ ms) = bit_or (2 ^ m) (bits_of ms)

two_of_three : servers_where (has_bit 5) ≡ 0 ∷ 2 ∷ []
unfolding servers_where
two_of_three = refl

bits_of_two : bits_of (0 ∷ 2 ∷ []) ≡ 5
unfolding bits_of
bits_of_two = refl

one_more : with_member (0 ∷ 2 ∷ []) 1 ≡ 0 ∷ 1 ∷ 2 ∷ []
unfolding servers_where
one_more = refl

one_less : without_member (0 ∷ 2 ∷ []) 0 ≡ 2 ∷ []
unfolding servers_where
one_less = refl
