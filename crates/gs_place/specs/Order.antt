-- Orders by several numbers, of which the first that differs decides.
use Rattle.std.specs.Prelude.{ℕ, ◌==◌, Bool, cond, nat_lt}

-- whether the left numbers come before the right ones
abbrev pub precedes : ℕ → ℕ → ℕ → ℕ → ℕ → ℕ → Bool
precedes left right left' right' left'' right'' =
    cond (left == right) (cond (left' == right') (nat_lt left'' right'') (nat_lt left' right')) (nat_lt left right)

-- a thing that is so comes before one that isn't
abbrev pub rank : Bool → ℕ
rank is = cond is 0 1
