use Rattle.std.proofs.Common.{◌≡◌, ◌≤◌, ℕ, true, drop, length}
use Rattle.std.specs.Prelude.{nat_le}
use Rattle.std.specs.List.{list_all}
use Rattle.gs_tree.specs.Build.{rows_of_entries}
use Rattle.gs_tree.proofs.building.longest.Given as goal

-- what is left decides, and what bounds all bounds what is found and what is left
abbrev pub invariant-loop-entry : goal.invariant-loop-entry
invariant-loop-entry l =
    (l.least ≤ l.most) ×
    (((n : ℕ) → l.most ≤ n → list_all (λ r. nat_le (length r.0) n) (rows_of_entries (drop l.entry-index l.entries)) ≡ true → list_all (λ r. nat_le (length r.0) n) (rows_of_entries l.entries) ≡ true) ×
    ((n : ℕ) → l.least ≤ n → list_all (λ r. nat_le (length r.0) n) (rows_of_entries l.entries) ≡ true → (l.most ≤ n) × (list_all (λ r. nat_le (length r.0) n) (rows_of_entries (drop l.entry-index l.entries)) ≡ true)))
