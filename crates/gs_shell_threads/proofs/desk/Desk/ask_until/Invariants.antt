use Rattle.std.specs.Prelude.{◌-◌}
use Rattle.gs_client.specs.Sends.{Sends}
use Rattle.gs_cluster.specs.Linked.{carried}
use Rattle.gs_shell_calls.specs.Asked.{step_line}
use Rattle.gs_shell_threads.specs.Asked.{more_turns, until}
use Rattle.gs_shell_threads.proofs.Turns.{LeadsOn}
use Rattle.gs_shell_threads.proofs.desk.Desk.ask_until.Given as goal

abbrev pub invariant-loop-turn : goal.invariant-loop-turn
invariant-loop-turn g l =
    LeadsOn (Sends (carried {N = g.row.N.Denot} {R = g.row.T.Denot} g.D.Disk.seen g.D.Disk.failures)) (until more_turns (step_line l.fn.step)) (l.fn.self.caller.client, l.fn.self.link) (10000 - l.turn) (step_line l.fn.step)
    l.answer (l.self.caller.client, l.self.link)
