-- What a rollback gives stays.
use Rattle.std.proofs.Common.{◌≡◌, ℕ, refl, ap, ◌∙◌}
use Rattle.std.specs.Prelude.{Option, Some, None, Ok, Bool, true, cond, slice_index_or}
use Rattle.gs_base.specs.declared.numbers.Stamp.{Stamp}
use Rattle.gs_block.specs.Edits as blocks
use Rattle.gs_block.specs.Edits.{unless_damaged}
use Rattle.gs_block.specs.Images.{or_same}
use Rattle.gs_replica.specs.Seals.{Sealed, State, on_seal, damage_seal, lowest_damaged, roll_back_to, sealed_of, seal, unseal, roll_back}
use Rattle.gs_replica.specs.Copies.{under}
use Rattle.gs_replica.specs.Stands.{IsTouched}
use Rattle.gs_replica.proofs.Sealing.{rolled}

-- a seal that gives the same
pub rolls_same : (p : Stamp) (f : Sealed → Sealed) (o : Option Sealed) → ((t : Sealed) → rolled p (f t) ≡ rolled p t) → roll_back_to p (on_seal f o) ≡ roll_back_to p o
rolls_same p f None same = refl
rolls_same p f (Some t) same = ap (λ (r : State). unless_damaged (lowest_damaged r.held.chunk) r) (same t)

damage_at : (p : Stamp) (k : ℕ) (t : Sealed) (b : Bool) → b ≡ true →
    (let r : State = record { held = record { chunk = cond b t.undone (or_same (blocks.damage t.undone k) t.undone); count = t.count; done = t.done; promise = p }; sealed = None } in r) ≡ rolled p t
damage_at p k t b touched = ap (λ c. (let r : State = record { held = record { chunk = cond c t.undone (or_same (blocks.damage t.undone k) t.undone); count = t.count; done = t.done; promise = p }; sealed = None } in r)) touched

-- damage of a touched block
pub rolls_damaged : (p : Stamp) (k : ℕ) (o : Option Sealed) → IsTouched o k → roll_back_to p (on_seal (damage_seal k) o) ≡ roll_back_to p o
rolls_damaged p k None touched = refl
rolls_damaged p k (Some t) touched = ap (λ (r : State). unless_damaged (lowest_damaged r.held.chunk) r) (damage_at p k t (slice_index_or t.touched k true) touched)

-- an undamaged replica that was just sealed
pub rolls_there : (r : State) (start : Stamp) → lowest_damaged r.held.chunk ≡ None → roll_back start (seal r) ≡ under start (Ok (unseal r))
rolls_there r start none = ap (λ d. unless_damaged d (rolled start (sealed_of r.held))) none

-- the seal is another and gives the same
pub rolls_on : (start : Stamp) (r r2 : State) (o : Option Sealed) → r2.sealed ≡ o → roll_back_to start o ≡ roll_back_to start r.sealed → roll_back start r2 ≡ roll_back start r
rolls_on start r r2 o is same = ap (roll_back_to start) is ∙ same
