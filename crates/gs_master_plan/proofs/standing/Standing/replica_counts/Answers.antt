use Rattle.std.proofs.Common.{arith, refl, sym, true, ℕ, ◌==◌, ◌≡◌, ◌∙◌}
use Rattle.std.proofs.lemmas.Bool.Decides.{nat_tests}
use Rattle.std.proofs.lemmas.List.{nil_from_length}
use Rattle.std.specs.Vec.{vec_len}
use Rattle.gs_master_plan.specs.inner.Planning.{state_of}
use Rattle.gs_master_plan.proofs.Counting.{counts_all}
use Rattle.gs_master_plan.proofs.standing.Standing.replica_counts.Goals as goal

equal : (m n : ℕ) → (m == n) ≡ true → m ≡ n
equal m n h = grind (arith, nat_tests)

pub returns-then-is_empty : goal.returns-then-is_empty
returns-then-is_empty c =
    let none = equal (vec_len c.args.self.now.memory.now.taken_out) 0 (sym c.is_empty.ensures ∙ c.if-is_empty.true) in
    counts_all (state_of c.args.self.now) c.args.self.now.recorded.now refl (nil_from_length c.args.self.now.memory.now.taken_out.items (omega (arith, none))) c.replica_counts.result c.replica_counts.ensures
