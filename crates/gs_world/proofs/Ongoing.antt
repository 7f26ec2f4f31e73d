-- Events one after the other.
use Rattle.std.specs.Result.{is_ok}
use Rattle.std.proofs.Common.{◌≡◌, ◌∙◌, ◌+◌, ◌++◌, ◌≤◌, ℕ, suc, if◌then◌else◌, List, [], ◌∷◌, Result, Ok, Err, refl, sym, ap, append_assoc, arith, length}
use Rattle.gs_base.specs.declared.refusal.Refusal.{Refusal}
use Rattle.gs_msg.specs.declared.event.DiskId.{DiskId}
use Rattle.gs_msg.specs.declared.event.Event.{Event}
use Rattle.gs_nodes.specs.declared.place.MasterPlace.{MasterPlace}
use Rattle.gs_world.specs.Histories.{History, IsOutcome}
use Rattle.gs_world.specs.Runs.{AreOutcomes, HappensAll, RunsTo, all_come, all_said}
use Rattle.gs_world.specs.declared.outcome.Outcome.{Outcome}

-- there is room for what the events behind one say
pub room_of_one : (all rest : List Event) (event : Event) (many room more space : ℕ) → all ≡ event ∷ rest → length all + many ≤ room → more ≤ many + 1 → room ≤ space → length rest + more ≤ space
room_of_one all rest event many room more space is fits one wide = let long : length all ≡ suc (length rest) = ap (λ (l : List Event). length l) is in omega (arith, long, fits, one, wide)

pub nothing_more : (events : List Event) (many : ℕ) → length events ≡ many → many ≡ 0 → events ≡ []
nothing_more [] many long none = refl
nothing_more (event ∷ events) many long none = absurd (omega (arith, long, none))

is_there : {A E B : Type 0} (r : Result A E) (x : A) (xs ys zs : List B) → r ≡ Ok x → zs ≡ (if is_ok r then xs else ys) → zs ≡ xs
is_there (Ok y) x xs ys zs is same = same
is_there (Err e) x xs ys zs is same = absurd cc

-- what is told of events stands before what is told of the rest
pub told_behind : {A E B : Type 0} (before after : List B) (one : B) (others : List B) (r : Result A E) {x : A}
    → after ≡ (if is_ok r then before ++ one ∷ [] else before) → r ≡ Ok x → before ++ one ∷ others ≡ after ++ others
told_behind {A} {E} {B} before after one others r {x} same is =
    sym (append_assoc before (one ∷ []) others) ∙ ap (λ (l : List B). l ++ others) (sym (is_there r x (before ++ one ∷ []) before after is same))

module _ {D : Type 0} (seen : D → List ℕ) (failures : D → ℕ) (armed : DiskId → ℕ → MasterPlace D → MasterPlace D) where
  abbrev All : List Event → List (Result (Unit {0}) Refusal) → History D → History D → Type 0
  All events said old new = HappensAll seen failures armed events said old new

  -- one event more has happened
  pub one_more : (event : Event) (events : List Event) (one : Outcome) (others : List Outcome) (old mid new : History D)
      → IsOutcome seen failures armed event old one mid → AreOutcomes seen failures armed events others mid new → AreOutcomes seen failures armed (event ∷ events) (one ∷ others) old new
  one_more event events one others old mid new first rest = (one, others, mid, refl, first, rest)

  -- events of which something is told happen
  pub all_happen : (events : List Event) (outcomes : List Outcome) (old new : History D) → AreOutcomes seen failures armed events outcomes old new → All events (all_said outcomes) old new
  all_happen [] outcomes old new (none, same) = (ap all_said none, same)
  all_happen (event ∷ events) outcomes old new (one, others, mid, is, first, rest) =
      (one.said, all_said others, mid, ap all_said is, first.happens, all_happen events others mid new rest)

  -- these events are steps
  pub come : (events : List Event) (said : List (Result (Unit {0}) Refusal)) (old new : History D) → All events said old new → RunsTo seen failures armed (all_come events) old new
  come [] said old new (none, same) = same
  come (event ∷ events) said old new (one, others, mid, is, first, rest) = (mid, (one, first), come events others mid new rest)
