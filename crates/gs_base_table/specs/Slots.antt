-- A table has slots for keys, in the order of the keys. What lives in it is what its slots hold.
use Rattle.std.specs.Prelude.{◌≡◌, List, [], ◌∷◌, Option, Some, None, is_some, true, false, if◌then◌else◌}
use Rattle.std.specs.declared.cmp.Ordering.{Ordering}
use Rattle.std.specs.Ordering.{eq_by_cmp}
use Rattle.std.specs.FinMap as fin

abbrev pub set_live : {K V : Type 0} {R : K → K → Ordering} → K → Option V → fin.FinMap R V → fin.FinMap R V
set_live key (Some value) m = fin.insert m key value
set_live key None m = fin.remove m key

-- the map of what lives
unfoldable pub live : {K V : Type 0} (R : K → K → Ordering) → List (K × Option V) → fin.FinMap R V
live R [] = fin.empty
live R (e ∷ es) = set_live e.0 e.1 (live R es)

-- what lives, in the order of the keys
abbrev pub live_entries : {K V : Type 0} → List (K × Option V) → List (K × V)
live_entries [] = []
live_entries (e ∷ es) = entry_of e.0 e.1 (live_entries es)
  where
    entry_of : {K V : Type 0} → K → Option V → List (K × V) → List (K × V)
    entry_of key None rest = rest
    entry_of key (Some value) rest = (key, value) ∷ rest

-- the key can be put without memory
pub record HasRoom {K V : Type 0} (R : K → K → Ordering) (t : List (K × Option V)) (key : K) : Type 0 where
  pub slot : is_some (fin.find R key t) ≡ true

pub record KeepsRoom {K V : Type 0} (R : K → K → Ordering) (old new : List (K × Option V)) : Type 0 where
  pub keeps : (key : K) → HasRoom R old key → HasRoom R new key

-- the key's room is given up, no other is, and none is made
pub record GivesUpRoom {K V : Type 0} (R : K → K → Ordering) (old new : List (K × Option V)) (key : K) : Type 0 where
  pub none : fin.find R key new ≡ None
  pub others : (other : K) → eq_by_cmp R other key ≡ false → HasRoom R old other → HasRoom R new other
  pub fewer : (other : K) → HasRoom R new other → HasRoom R old other

-- the slot of a key is written, and no other
pub record IsWritten {K V : Type 0} (R : K → K → Ordering) (old new : List (K × Option V)) (key : K) (slot : Option V) : Type 0 where
  pub each : (other : K) → fin.find R other new ≡ (if eq_by_cmp R other key then Some slot else fin.find R other old)
