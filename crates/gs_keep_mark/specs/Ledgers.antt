-- What a ledger holds of a log.
use Rattle.std.specs.Prelude.{◌≡◌, ◌==◌, Bool}
use Rattle.sha2.specs.Hashers.{Holds256}
use Rattle.gs_keep_mark.specs.Marks.{Totals}
use Rattle.gs_keep_mark.specs.declared.Ledger.{Ledger}

pub record IsLedger (ledger : Ledger) (t : Totals) : Type 0 where
  pub lines : ledger.lines ≡ t.count
  pub text : Holds256 ledger.text t.text
  pub answers : Holds256 ledger.answers t.answers

-- no line more can be counted
abbrev pub is_full : Ledger → Bool
is_full ledger = ledger.lines == 18446744073709551615
