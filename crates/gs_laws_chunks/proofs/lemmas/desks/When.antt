-- What is asked for on one of two ways alone, and a run of a store whose steps are within their types on that way.
use Rattle.std.proofs.Common.{◌++◌, ℕ, Bool, true, false, List, [], ◌∷◌}
use Rattle.std.specs.List.{AllByRecursion}
use Rattle.gs_base.specs.Told.{IsNumber}
use Rattle.gs_shell_desk.specs.Ways.{Way}
use Rattle.gs_world.specs.Runs.{RunsTo, Step}
use Rattle.gs_world.specs.Sent.{Sent}
use Rattle.gs_laws_chunks.specs.desks.Reached.{Covers, history}
use Rattle.gs_laws_world.specs.steady.Unarmed.{unarmed}
use Rattle.gs_laws_world.specs.steady.Saying.{IsStepWithin}

-- it holds, where the types are kept
abbrev pub When : Bool → Type 0 → Type 0
When true P = P
When false P = Unit {0}

pub when : (b : Bool) {P : Type 0} → P → When b P
when true p = p
when false p = tt

pub when_then : (b : Bool) (P Q : Type 0) → (P → Q) → When b P → When b Q
when_then true P Q f p = f p
when_then false P Q f p = tt

pub when_both : (b : Bool) (P Q R : Type 0) → (P → Q → R) → When b P → When b Q → When b R
when_both true P Q R f p q = f p q
when_both false P Q R f p q = tt

-- ---- steps

both_within : (xs ys : List Step) → AllByRecursion IsStepWithin xs → AllByRecursion IsStepWithin ys → AllByRecursion IsStepWithin (xs ++ ys)
both_within [] ys first second = second
both_within (x ∷ xs) ys first second = (first.0, both_within xs ys first.1 second)

pub joined_within : (keeps : Bool) (xs ys : List Step) → When keeps (AllByRecursion IsStepWithin xs) → When keeps (AllByRecursion IsStepWithin ys) → When keeps (AllByRecursion IsStepWithin (xs ++ ys))
joined_within keeps xs ys first second =
    when_both keeps (AllByRecursion IsStepWithin xs) (AllByRecursion IsStepWithin ys) (AllByRecursion IsStepWithin (xs ++ ys)) (both_within xs ys) first second

-- steps of a store lead from one way to another; where the types are kept each is within them, and so is the moment
pub record StepsSo {D : Type 0} (seen : D → List ℕ) (failures : D → ℕ) (keeps : Bool) (old new : Way D) (sent : Sent) : Type 0 where
  pub steps : List Step
  pub after : Sent
  pub runs : RunsTo seen failures unarmed steps (history sent old) (history after new)
  pub covers : Covers after new
  pub within : When keeps (AllByRecursion IsStepWithin steps)
  pub moment : When keeps (IsNumber new.moment.0)
