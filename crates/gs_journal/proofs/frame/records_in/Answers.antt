use Rattle.std.proofs.lemmas.List.{take_rest}
use Rattle.gs_journal.proofs.Scan.{shorter, reading_starts, reading_goes_on}
use Rattle.gs_journal.proofs.frame.records_in.Goals as goal

pub loop-found-init : goal.loop-found-init
loop-found-init c = reading_starts c.args.bytes.now _ _ c.new-records.ensures.items (take_rest c.args.bytes.now 13)

pub loop-found-smaller : goal.loop-found-smaller
loop-found-smaller c = shorter _ _ c.in-Some.ensures.found

pub loop-found-preserved : goal.loop-found-preserved
loop-found-preserved c = reading_goes_on c.args.bytes.now c.loop-found.rest.now _ _ _ _ c.in-Some.ensures.found c.in_ok-new.ensures.made c.in_ok-push.ensures.items c.loop-found.invariant
