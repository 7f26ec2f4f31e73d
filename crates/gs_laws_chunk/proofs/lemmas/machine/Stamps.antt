-- Stamps as numbers.
use Rattle.std.proofs.Common.{◌≡◌, ℕ, ◌<◌, ◌≤◌, arith}
use Rattle.gs_laws_chunk.specs.machine.Stamps.{epoch_of, start_of}

pub epoch_of-le : (a b : ℕ) → a ≤ b → epoch_of a ≤ epoch_of b
unfolding epoch_of
epoch_of-le a b l = omega arith

pub epoch_of-start : (e : ℕ) → epoch_of (start_of e) ≡ e
unfolding epoch_of start_of
epoch_of-start e = omega arith

pub start_of-below : (e t : ℕ) → epoch_of t < e → t < start_of e
unfolding epoch_of start_of
start_of-below e t l = omega arith

pub start_of-most : (e t : ℕ) → e ≤ epoch_of t → start_of e ≤ t
unfolding epoch_of start_of
start_of-most e t l = omega arith

pub start_of-less : (a b : ℕ) → a < b → start_of a < start_of b
unfolding start_of
start_of-less a b l = omega arith
