-- Equality of requests as it is derived.
use Rattle.std.proofs.Common.{◌≡◌, ℕ, Bool, true, false, Decides, refl, ap, ◌∙◌}
use Rattle.std.specs.Prelude.{◌&&◌, ◌==◌}
use Rattle.std.proofs.lemmas.Bool.Decides.{Decides-eqb}
use Rattle.gs_replica.specs.declared.op.Done.{Done}
use Rattle.gs_replica.specs.declared.op.EditOutcome.{EditOutcome}
use Rattle.gs_replica.specs.declared.op.EditOutcome.TheVariants.{Written, Appended, Padded}
use Rattle.gs_replica.specs.contracts.op.DonePartialEq.TheImpl as done
use Rattle.gs_replica.specs.contracts.op.EditOutcomePartialEq.TheImpl as outcome

number_of : EditOutcome → ℕ → ℕ
number_of (Appended n) old = n
number_of Written old = old
number_of Padded old = old

pub same_outcome : (a b : EditOutcome) → Decides (outcome.ghosts.eq a b) (a ≡ b)
unfolding number_of
same_outcome Written Written = (λ _. refl, λ _. refl)
same_outcome Written (Appended n) = (λ h. absurd (cc), λ h. absurd (cc))
same_outcome Written Padded = (λ h. absurd (cc), λ h. absurd (cc))
same_outcome (Appended m) Written = (λ h. absurd (cc), λ h. absurd (cc))
same_outcome (Appended m) (Appended n) = (λ h. ap Appended ((Decides-eqb m n).0 h), λ h. (Decides-eqb m n).1 (ap (λ o. number_of o m) h))
same_outcome (Appended m) Padded = (λ h. absurd (cc), λ h. absurd (cc))
same_outcome Padded Written = (λ h. absurd (cc), λ h. absurd (cc))
same_outcome Padded (Appended n) = (λ h. absurd (cc), λ h. absurd (cc))
same_outcome Padded Padded = (λ _. refl, λ _. refl)

first_so : (a b : Bool) → (a && b) ≡ true → a ≡ true
first_so true b h = refl
first_so false b h = absurd (cc)

second_so : (a b : Bool) → (a && b) ≡ true → b ≡ true
second_so true b h = h
second_so false b h = absurd (cc)

both_so : (a b : Bool) → a ≡ true → b ≡ true → (a && b) ≡ true
both_so a b ha hb = ap (λ c. c && b) ha ∙ hb

pub same_done : (a b : Done) → Decides (done.ghosts.eq a b) (a ≡ b)
same_done a b = (
  λ h.
      let number : a.number ≡ b.number = (Decides-eqb a.number b.number).0 (first_so (a.number == b.number) (outcome.ghosts.eq a.outcome b.outcome) h) in
      let answer : a.outcome ≡ b.outcome = (same_outcome a.outcome b.outcome).0 (second_so (a.number == b.number) (outcome.ghosts.eq a.outcome b.outcome) h) in
      λ k. record { number = number k; outcome = answer k },
  λ h. both_so (a.number == b.number) (outcome.ghosts.eq a.outcome b.outcome) ((Decides-eqb a.number b.number).1 (ap (λ (d : Done). d.number) h)) ((same_outcome a.outcome b.outcome).1 (ap (λ (d : Done). d.outcome) h)),
)
