-- What the calls of a disk do to its bytes, and what a crash may do between two syncs.
use Rattle.std.specs.Prelude.{◌≡◌, ◌<◌, ◌≤◌, ◌⊎◌, ◌+◌, ℕ, max, List, ◌++◌, length, take, drop, Result, Ok, Err}
use Rattle.gs_base.specs.declared.refusal.Refusal.{Refusal}
use Rattle.gs_base.specs.declared.refusal.Refusal.TheVariants.{Device}

-- new is old with these bytes at this place
abbrev pub Holds : List ℕ → ℕ → List ℕ → List ℕ → Type 0
Holds old at bytes new = new ≡ take at old ++ bytes ++ drop (at + length bytes) old

-- After a write of n bytes that a crash cuts short: any bytes in the range and past the old end, the same elsewhere, and
-- a length from the old one to the new one.
pub record Torn (at n : ℕ) (old new : List ℕ) : Type 0 where
  pub before : take (length (take at old)) new ≡ take at old
  pub after : drop (at + n) new ≡ drop (at + n) old
  pub no_shorter : length old ≤ length new
  pub no_longer : length new ≤ max (length old) (at + n)

-- after a cut: the front, of a length from the new one to the old one
pub record Cut (n : ℕ) (old new : List ℕ) : Type 0 where
  pub no_shorter : length (take n old) ≤ length new
  pub front : take (length new) old ≡ new

-- each new outcome of a crash is an old outcome after a step
abbrev pub OutcomesFollow : (List ℕ → List ℕ → Type 0) → (List ℕ → Type 0) → (List ℕ → Type 0) → Type 0
OutcomesFollow step old new = (c : List ℕ) → new c → (d : List ℕ) × old d × step d c

-- a crash leaves this and nothing else
abbrev pub Only : List ℕ → (List ℕ → Type 0) → Type 0
Only bytes outcomes = (c : List ℕ) → outcomes c → c ≡ bytes

-- Time goes on: a crash since t might have left what it might have left before, or what it may leave now.
pub record Elapses (before now : ℕ) (past since : ℕ → List ℕ → Type 0) (may_leave : List ℕ → Type 0) : Type 0 where
  pub later : before ≤ now
  pub nothing_else : (t : ℕ) (c : List ℕ) → t ≤ before → since t c → past t c ⊎ may_leave c
  pub keeps : (t : ℕ) (c : List ℕ) → t ≤ before → past t c → since t c

-- A refusal is 32, and is given exactly where the disk has failed once more.
abbrev pub HasCause : {T : Type 0} → ℕ → ℕ → Result T Refusal → Type 0
HasCause before now (Ok x) = now ≡ before
HasCause before now (Err e) = (e ≡ Device) × (before < now)

-- A crash at any moment since two disks were as they had been leaves bytes on them that have P. That holds even where it
-- leaves one disk as at one moment and the other as at another.
pub record LeavesPairs {D : Type 0} (moment : D → ℕ) (left_since : D → ℕ → List ℕ → Type 0) (old_first old_second first second : D) (P : List ℕ → List ℕ → Type 0) : Type 0 where
  pub later_first : moment old_first ≤ moment first
  pub later_second : moment old_second ≤ moment second
  pub each : (a b : List ℕ) → left_since first (moment old_first) a → left_since second (moment old_second) b → P a b
