-- In which order the edits of a client stand in a chunk.
use Rattle.std.specs.Prelude.{[], ◌<◌, ◌∷◌, ◌≡◌, List, Some, refl, slice_get, ℕ}
use Rattle.std.proofs.Common.{arith}
use Rattle.gs_base.specs.declared.numbers.ReqId.{ReqId}
use Rattle.gs_base.specs.declared.numbers.Stamp.{Stamp}
use Rattle.gs_replica.specs.Stands.{Edit}
use Rattle.gs_world.specs.Histories.{History}
use Rattle.gs_world.specs.Runs.{Step}
use Rattle.gs_laws_chunks.specs.accounts.Accounts.{Account, settled_edits}
use Rattle.gs_laws_chunks.specs.accounts.OnePlace.{IsAskedOf, StandsAt}
use Rattle.gs_laws_chunks.specs.accounts.Running.{IsReached, Runs, Setup}

-- of two edits of one client, the one with the greater number stands behind the other
pub record StandInOrder (edits : List Edit) : Type 0 where
  pub rises : (i j : ℕ) (one other : Edit) → slice_get edits i ≡ Some one → slice_get edits j ≡ Some other → one.req.client ≡ other.req.client → i < j → one.req.number < other.req.number

-- so it is in each list of each chunk
abbrev pub EditsStandInOrder : {D : Type 0} → Setup D → Type 0
EditsStandInOrder {D} x = (now : History D) (a : Account) (chunk : ℕ) (stamp : Stamp) → IsReached x now a → StandInOrder (a.list chunk stamp)

-- An edit overtakes: take two lists of a chunk that have it, of one world of a run and of a later one. What the later one has of its client with a lesser number, the first has too, at the same place in front of it.
-- So an edit that was asked for before it, and isn't there yet, isn't there later either.
abbrev pub EditsOvertake : {D : Type 0} → Setup D → Type 0
EditsOvertake {D} x = (now later : History D) (a b : Account) (steps : List Step) (chunk : ℕ) (req before : ReqId) (one other : Stamp) (place another at : ℕ) → IsReached x now a → Runs x steps now a later b → IsAskedOf later.sent chunk req →
    StandsAt (a.list chunk one) req place → StandsAt (b.list chunk other) req another → StandsAt (b.list chunk other) before at → before.client ≡ req.client → before.number < req.number → (at < place) × StandsAt (a.list chunk one) before at

-- So it is of what is settled. Once an edit is, no edit that its client asked for before it gets settled while it stays, but those that were settled already.
abbrev pub SettledOvertake : {D : Type 0} → Setup D → Type 0
SettledOvertake {D} x = (now later : History D) (a b : Account) (steps : List Step) (chunk : ℕ) (req before : ReqId) (place another at : ℕ) → IsReached x now a → Runs x steps now a later b → IsAskedOf later.sent chunk req →
    StandsAt (settled_edits a chunk) req place → StandsAt (settled_edits b chunk) req another → StandsAt (settled_edits b chunk) before at → before.client ≡ req.client → before.number < req.number → StandsAt (settled_edits a chunk) before at

-- ---- Worked
nothing_is_out_of_order : StandInOrder []
nothing_is_out_of_order = record { rises = λ i j one other at_one at_other same below. absurd (cc) }

a_lesser_number_is_not_behind : (one other : Edit) → one.req.client ≡ other.req.client → one.req.number ≡ 2 → other.req.number ≡ 1 → StandInOrder (one ∷ other ∷ []) → ⊥
a_lesser_number_is_not_behind one other same two first stand = (let below : one.req.number < other.req.number = stand.rises 0 1 one other refl refl same (omega arith) in absurd (omega arith))
