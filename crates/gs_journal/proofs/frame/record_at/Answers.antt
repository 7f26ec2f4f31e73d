use Rattle.std.proofs.Common.{rules, arith, ◌+◌, ◌∙◌, sym}
use Rattle.std.proofs.lemmas.List.{take_rest}
use Rattle.gs_journal.proofs.Scan.{found_here, open_is_one}
use Rattle.gs_journal.proofs.frame.record_at.Goals as goal

pub returns-clause-found : goal.returns-clause-found
returns-clause-found c =
    found_here _ c.in_ok-gate.gate.now c.read_u32-length.result c.in_ok-gate.behind.now c.args.bytes.now (search rules) (open_is_one _ (sym c.is_open.ensures ∙ c.if-not-is_open.false)) c.read_u32-length.ensures
    (omega (arith, c.if-behind-length.false, c.if-behind-lt5.false)) (search rules) (search rules) (take_rest c.in_ok-gate.behind.now (5 + c.read_u32-length.result))
