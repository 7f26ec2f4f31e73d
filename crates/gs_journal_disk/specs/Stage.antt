-- What a crash may leave while a disk's end is changed.
use Rattle.std.specs.Prelude.{◌⊎◌, ◌≤◌, ◌+◌, ◌++◌, ℕ, List, [], ◌∷◌, length, take}
use Rattle.gs_journal_disk.specs.Disk.{Torn, Cut}

-- while the bytes behind the first `len` give way to a closed gate
abbrev pub IsClosing : ℕ → List ℕ → List ℕ → Type 0
IsClosing len old c = Cut len old c ⊎ Torn len 1 (take len old) c

-- while bytes are put behind the last gate, and then while it is opened
abbrev pub IsOpening : ℕ → List ℕ → List ℕ → List ℕ → Type 0
IsOpening gate bytes old c = Torn (gate + 1) (length bytes) old c ⊎ Torn gate 1 (old ++ bytes) c

-- a disk that is made anew: its front gate is closed, and then opened behind its text
abbrev pub IsRewriting : List ℕ → List ℕ → List ℕ → Type 0
IsRewriting text old c = IsClosing 0 old c ⊎ IsOpening 0 text (0 ∷ []) c

-- A crash at any moment since old leaves bytes that have P.
pub record LeavesOnly {D : Type 0} (moment : D → ℕ) (left_since : D → ℕ → List ℕ → Type 0) (old new : D) (P : List ℕ → Type 0) : Type 0 where
  pub later : moment old ≤ moment new
  pub each : (c : List ℕ) → left_since new (moment old) c → P c
  -- for a run that began earlier
  pub before : (t : ℕ) (c : List ℕ) → t ≤ moment old → left_since new t c → left_since old t c ⊎ P c
