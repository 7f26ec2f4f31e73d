use Rattle.std.proofs.Common.{◌≡◌, [], take}
use Rattle.gs_master.specs.Journaled.{Gains, IsReadyFor}
use Rattle.gs_master.proofs.turn.append_all.Given as goal

abbrev pub invariant-loop-place : goal.invariant-loop-place
invariant-loop-place g l =
    let d = g.D.Disk in
    (IsReadyFor l.initial.journal l.records → Gains d.seen d.may_leave d.failures l.initial.journal (take l.place l.records) l.journal) × (l.records ≡ [] → l.journal ≡ l.initial.journal)
