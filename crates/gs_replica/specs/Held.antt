-- What a contract sees of a replica.
use Rattle.std.specs.Prelude.{ℕ, List, refl}
use Rattle.std.specs.Coded.{Coded, code_by, coded×, coded_ℕ, coded_list}
use Rattle.std.specs.FinMap as fin
use Rattle.std.specs.Ordering.{nat_cmp}
use Rattle.gs_base.specs.declared.numbers.Stamp.{Stamp}
use Rattle.gs_base.specs.contracts.numbers.Stamp as stamps
use Rattle.gs_block.specs.Stored.{Stored}
use Rattle.gs_replica.specs.declared.op.Done.{Done}
use Rattle.gs_replica.specs.contracts.op.Done as dones

-- its bytes in blocks, how many edits it has applied, each client's last applied request, and the stamp below which it takes
-- no edit
pub record Held : Type 0 where
  pub chunk : Stored
  pub count : ℕ
  pub done : fin.FinMap nat_cmp Done
  pub promise : Stamp

abbrev pub coded_stored : Coded Stored
coded_stored =
    code_by (ℕ × (ℕ × (List ℕ × List (List ℕ)))) (coded× coded_ℕ (coded× coded_ℕ (coded× (coded_list coded_ℕ) (coded_list (coded_list coded_ℕ)))))
    (λ s. (s.block, (s.chunk, (s.bytes, s.digests)))) (λ p. record { block = p.0; chunk = p.1.0; bytes = p.1.1.0; digests = p.1.1.1 }) (λ _. refl)

abbrev pub coded_held : Coded Held
coded_held =
    code_by (Stored × (ℕ × (fin.FinMap nat_cmp Done × Stamp))) (coded× coded_stored (coded× coded_ℕ (coded× (fin.code coded_ℕ dones.the_row.coded) stamps.the_row.coded)))
    (λ r. (r.chunk, (r.count, (r.done, r.promise)))) (λ p. record { chunk = p.0; count = p.1.0; done = p.1.1.0; promise = p.1.1.1 }) (λ _. refl)
