-- What a log holds, what a crash leaves of it, and what its calls do.
use Rattle.std.specs.Prelude.{◌≡◌, ◌++◌, ◌∷◌, ◌≤◌, ℕ, List, [], length, take, drop, Option, Some, IfSome, refl}
use Rattle.std.proofs.Common.{lit≤}

-- the bytes that each crash leaves, and those behind them that aren't synced yet
pub record Held : Type 0 where
  pub durable : List ℕ
  pub pending : List ℕ

-- what a read gives
abbrev pub whole : Held → List ℕ
whole h = h.durable ++ h.pending

-- A crash leaves what is durable, and behind it any bytes, no more than those that aren't: each of them may be as it was written or any other.
abbrev pub MayLeave : Held → List ℕ → Type 0
MayLeave h c = (behind : List ℕ) × (length behind ≤ length h.pending) × (c ≡ h.durable ++ behind)

-- with these bytes at its end
abbrev pub appended : List ℕ → Held → Held
appended bytes h = record { durable = h.durable; pending = h.pending ++ bytes }

-- with so many of the pending bytes made durable
abbrev pub settled : ℕ → Held → Held
settled count h = record { durable = h.durable ++ take count h.pending; pending = drop count h.pending }

-- cut behind so many bytes, for good
abbrev pub shortened : ℕ → Held → Held
shortened len h = record { durable = take len (whole h); pending = [] }

-- cut behind so many bytes, where a crash may leave so many of those behind
abbrev pub partly_shortened : ℕ → ℕ → Held → Held
partly_shortened len count h =
    let front = take len h.durable in
    record { durable = front; pending = take count (drop (length front) (whole h)) }

-- ---- what a call does, where it is known what the log holds

-- the step is done
abbrev pub LogDoes : (Held → Held) → Option Held → Option Held → Type 0
LogDoes step old new = IfSome old (λ h. new ≡ Some (step h))

-- as much of the step is done as some number says
abbrev pub LogDoesPart : (ℕ → Held → Held) → Option Held → Option Held → Type 0
LogDoesPart step old new = IfSome old (λ h. (count : ℕ) × (new ≡ Some (step count h)))

-- a beginning of these bytes is at its end
abbrev pub partly_appended : List ℕ → ℕ → Held → Held
partly_appended bytes count h = appended (take count bytes) h

-- all of the pending bytes are made durable
abbrev pub synced : Held → Held
synced h = record { durable = whole h; pending = [] }

-- ---- examples

two_and_three : Held
two_and_three = record { durable = 1 ∷ 2 ∷ []; pending = 3 ∷ 4 ∷ 5 ∷ [] }

a_crash_leaves_one_of_three : MayLeave two_and_three (1 ∷ 2 ∷ 3 ∷ [])
unfolding two_and_three
a_crash_leaves_one_of_three = (3 ∷ [], lit≤ tt, refl)

a_crash_leaves_other_bytes : MayLeave two_and_three (1 ∷ 2 ∷ 0 ∷ 4 ∷ 0 ∷ [])
unfolding two_and_three
a_crash_leaves_other_bytes = (0 ∷ 4 ∷ 0 ∷ [], lit≤ tt, refl)

a_sync_breaks_off : settled 1 two_and_three ≡ record { durable = 1 ∷ 2 ∷ 3 ∷ []; pending = 4 ∷ 5 ∷ [] }
unfolding two_and_three
a_sync_breaks_off = refl

a_cut_breaks_off : partly_shortened 1 2 two_and_three ≡ record { durable = 1 ∷ []; pending = 2 ∷ 3 ∷ [] }
unfolding two_and_three
a_cut_breaks_off = refl
