-- A checkpoint that nothing stands against is written from its draft.
use Rattle.std.proofs.Common.{◌≡◌, ℕ, ◌+◌, Bool, true, false, Some, None, List, ◌∙◌, ap, arith}
use Rattle.std.specs.Prelude.{◌==◌, if◌then◌else◌, nat_le, Result, Ok, Err, IfErr}
use Rattle.std.proofs.lemmas.Bool.Decides.{nat_tests}
use Rattle.gs_base.specs.declared.refusal.Refusal.TheVariants.{BadLine, Device, Exhausted, Full}
use Rattle.gs_journal.specs.Journal.{State, checkpoint_refusal, checkpoint_size, last_generation}
use Rattle.gs_journal.specs.Drafts.{draft_refusal}

unrefused : (failed last fits : Bool) → (if failed then Some Device else if last then Some Exhausted else if fits then None else Some Full) ≡ None
    → (if failed then Some Device else if true then (if fits then None else Some Full) else Some BadLine) ≡ None
unrefused true last fits none = absurd (cc none)
unrefused false true fits none = absurd (cc none)
unrefused false false fits none = none

is_itself : (n : ℕ) → (n == n) ≡ true
is_itself n = grind (arith, nat_tests)

pub draft_unrefused : {D : Type 0} (j : State D) (body : List ℕ) → checkpoint_refusal j body ≡ None → draft_refusal j (record { body = body; generation = j.generation + 1 }) ≡ None
draft_unrefused j body none =
    ap (λ (b : Bool). if j.is_failed then Some Device else if b then (if nat_le (checkpoint_size body) j.limit then None else Some Full) else Some BadLine) (is_itself (j.generation + 1))
    ∙ unrefused j.is_failed (j.generation == last_generation) (nat_le (checkpoint_size body) j.limit) none

-- what is said of a refusal, with more known
pub if_err_as : {T E : Type 0} (P Q : E → Type 0) (r : Result T E) → ((e : E) → P e → Q e) → IfErr r P → IfErr r Q
if_err_as P Q (Ok x) weaker had = tt
if_err_as P Q (Err e) weaker had = weaker e had
