-- Commands one after the other.
use Rattle.std.proofs.Common.{◌≡◌, ◌++◌, ℕ, List, [], ◌∷◌, ap}
use Rattle.std.specs.Prelude.{Option, Some, None, Result, Ok, Err}
use Rattle.std.specs.List.{cons_option}
use Rattle.gs_base.specs.declared.refusal.Refusal.{Refusal}
use Rattle.gs_edit.specs.Machine.{Plain as Machine}
use Rattle.gs_laws_plain.specs.commands.Commands.{Command, all_commanded, commanded}
use Rattle.gs_laws_plain.specs.commands.Edits.{listed}
use Rattle.gs_replica.specs.Copies.{and_then}

pub one_more : (size : ℕ) (first : Option Command) (commands : List Command) (m n : Machine (List ℕ)) → all_commanded size (listed first) m ≡ Ok n → all_commanded size (cons_option first commands) m ≡ all_commanded size commands n
one_more size None commands m n h = ap (λ r. and_then r (λ x. all_commanded size commands x)) h
one_more size (Some command) commands m n h = each (commanded size command m) h
  where
    each : (r : Result (Machine (List ℕ)) Refusal) → and_then r (λ x. Ok x) ≡ Ok n → and_then r (λ x. all_commanded size commands x) ≡ all_commanded size commands n
    each (Ok x) e = ap (λ s. and_then s (λ y. all_commanded size commands y)) e
    each (Err x) e = absurd (cc)

-- and many behind many
pub then_many : (size : ℕ) (first second : List Command) (m n : Machine (List ℕ)) → all_commanded size first m ≡ Ok n → all_commanded size (first ++ second) m ≡ all_commanded size second n
then_many size [] second m n h = ap (λ r. and_then r (λ x. all_commanded size second x)) h
then_many size (command ∷ first) second m n h = each (λ x. then_many size first second x n) (commanded size command m) h
  where
    each : ((x : Machine (List ℕ)) → all_commanded size first x ≡ Ok n → all_commanded size (first ++ second) x ≡ all_commanded size second n) → (r : Result (Machine (List ℕ)) Refusal) → and_then r (λ x. all_commanded size first x) ≡ Ok n →
        and_then r (λ x. all_commanded size (first ++ second) x) ≡ all_commanded size second n
    each more (Ok x) e = more x e
    each more (Err x) e = absurd (cc)
