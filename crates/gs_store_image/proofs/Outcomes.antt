-- What was answered is written as a byte and an offset.
use Rattle.std.proofs.Common.{◌≡◌, ℕ, List, [], ◌∷◌, ◌++◌, Result, Ok, Err, sym, ap, subst, ◌∙◌, append_assoc}
use Rattle.gs_base.specs.Told.{IsNumber}
use Rattle.gs_fields.specs.Encoding.{number}
use Rattle.gs_fields.specs.Work.{Puts}
use Rattle.gs_fields.specs.declared.fault.Fault.{Fault}
use Rattle.gs_fields.specs.declared.fault.Fault.TheVariants as faults
use Rattle.gs_replica.specs.declared.op.EditOutcome.{EditOutcome}
use Rattle.gs_replica.specs.declared.op.EditOutcome.TheVariants.{Written, Appended, Padded}
use Rattle.gs_store_image.specs.Encoding.{outcome_fields}
use Rattle.gs_store_image.specs.Laws.{outcome_back}
use Rattle.gs_store_image.specs.Writable.{IsOutcome}

is_outcome : (o : EditOutcome) (n : ℕ) → n ≡ (outcome_fields o).1 → IsNumber n → IsOutcome o
is_outcome Written n e is = tt
is_outcome (Appended k) n e is = subst IsNumber e is
is_outcome Padded n e is = tt

by_fields : (o : EditOutcome) (tag offset : ℕ) (old mid new : List ℕ) (r : Result (Unit {0}) Fault) → offset ≡ (outcome_fields o).1 → mid ≡ old ++ tag ∷ [] → Puts (IsNumber offset) (number offset) mid new r
    → Puts (IsOutcome o) ((tag ∷ []) ++ number offset) old new r
by_fields o tag offset old mid new (Ok x) e first h = (is_outcome o offset e h.0, h.1 ∙ ap (λ (z : List ℕ). z ++ number offset) first ∙ append_assoc old (tag ∷ []) (number offset))
by_fields o tag offset old mid new (Err faults.Memory) e first h = tt
by_fields o tag offset old mid new (Err faults.Form) e first h = λ k. h (subst IsNumber (sym e) (outcome_back o k).0.1)

pub outcome_puts : (o : EditOutcome) (tag offset : ℕ) (old mid new : List ℕ) (r : Result (Unit {0}) Fault) → (tag, offset) ≡ outcome_fields o → mid ≡ old ++ tag ∷ [] → Puts (IsNumber offset) (number offset) mid new r
    → Puts (IsOutcome o) (((outcome_fields o).0 ∷ []) ++ number (outcome_fields o).1) old new r
outcome_puts o tag offset old mid new r e first h =
    subst (λ (p : ℕ × ℕ). Puts (IsOutcome o) ((p.0 ∷ []) ++ number p.1) old new r) e (by_fields o tag offset old mid new r (ap (λ (p : ℕ × ℕ). p.1) e) first h)
