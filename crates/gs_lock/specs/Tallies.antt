-- How often keys stand in a list.
use Rattle.std.specs.Prelude.{◌≡◌, ◌≢◌, ℕ, ◌+◌, Some, cond, unwrap_or}
use Rattle.std.specs.declared.cmp.Ordering.{Ordering}
use Rattle.std.specs.BTreeMap.{BTreeMap, get, is_at}

module _ {K : Type 0} (cmp : K → K → Ordering) where
  -- a key that has no number stands nowhere
  abbrev pub count_in : BTreeMap K ℕ → K → ℕ
  count_in counts key = unwrap_or (get cmp counts key) 0

  pub record SameCounts (old new : BTreeMap K ℕ) : Type 0 where
    pub counts : (key : K) → count_in new key ≡ count_in old key

  pub record Adds (old new : BTreeMap K ℕ) (key : K) : Type 0 where
    pub counts : (other : K) → count_in new other ≡ count_in old other + cond (is_at (cmp key) other) 1 0

  pub record Subtracts (old new : BTreeMap K ℕ) (key : K) : Type 0 where
    pub counts : (other : K) → count_in new other + cond (is_at (cmp key) other) 1 0 ≡ count_in old other

  -- a key that stands nowhere has no number
  pub record IsTight (counts : BTreeMap K ℕ) : Type 0 where
    pub none : (key : K) → get cmp counts key ≢ Some 0
