-- Where answers go.
use Rattle.std.specs.Prelude.{◌≡◌, ◌≤◌, ◌+◌, ◌⊎◌, ℕ, List, Option, true}
use Rattle.gs_keep.specs.declared.sending.Answers.{Answers}

-- what was written to it, where that is known
abbrev pub sent : {W : Type 0} → (W → Option (List ℕ)) → Answers W → Option (List ℕ)
sent of answers = of answers.writer

-- a call more was made, and it was good or interrupted
abbrev pub MakesCall : {W : Type 0} → Answers W → Answers W → Type 0
MakesCall old new = (new.calls ≡ old.calls + 1) × (new.has_failed ≡ old.has_failed)

-- a call more was made, and it failed
abbrev pub CallFails : {W : Type 0} → Answers W → Answers W → Type 0
CallFails old new = (new.calls ≡ old.calls + 1) × (new.has_failed ≡ true)

-- no more are made, since one has failed or since there can't be more
abbrev pub HasStopped : {W : Type 0} → Answers W → Type 0
HasStopped answers = (answers.has_failed ≡ true) ⊎ (18446744073709551615 ≤ answers.calls)
