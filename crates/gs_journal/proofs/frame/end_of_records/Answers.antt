use Rattle.std.proofs.Common.{sym, ◌∙◌}
use Rattle.std.proofs.lemmas.List.{take_rest}
use Rattle.gs_journal.proofs.Scan.{scan_starts, scan_goes_on, scan_refuses, scan_ends, shorter}
use Rattle.gs_journal.proofs.frame.end_of_records.Goals as goal

pub returns-then-not-is_of_form-clause-form : goal.returns-then-not-is_of_form-clause-form
returns-then-not-is_of_form-clause-form c =
    sym (scan_refuses _ _ _ _ _ c.in-Some.found c.loop-found.invariant c.in-Some.ensures.found (sym c.is_of_form.ensures ∙ c.if-not-is_of_form.true))

pub loop-found-preserved : goal.loop-found-preserved
loop-found-preserved c =
    scan_goes_on _ _ _ _ _ c.in-Some.found c.loop-found.invariant c.in-Some.ensures.found (sym c.is_of_form.ensures ∙ c.if-not-is_of_form.false)

pub loop-found-init : goal.loop-found-init
loop-found-init c = scan_starts _ _ _ c.requires (take_rest c.args.bytes.now 13)

pub loop-found-smaller : goal.loop-found-smaller
loop-found-smaller c = shorter _ _ c.in-Some.ensures.found

pub returns-clause-end : goal.returns-clause-end
returns-clause-end c = (scan_ends _ _ _ _ _ c.loop-found.invariant c.in_default.ensures.found).0

pub returns-clause-form : goal.returns-clause-form
returns-clause-form c = sym (scan_ends _ _ _ _ _ c.loop-found.invariant c.in_default.ensures.found).1
