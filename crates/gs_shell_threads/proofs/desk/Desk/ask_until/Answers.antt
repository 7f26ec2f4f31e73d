use Rattle.std.proofs.Common.{◌∙◌, sym}
use Rattle.gs_client.specs.Sends.{Sends}
use Rattle.gs_cluster.specs.Linked.{carried}
use Rattle.gs_shell_calls.specs.Asked.{step_line}
use Rattle.gs_shell_threads.specs.Asked.{more_turns, until}
use Rattle.gs_shell_threads.proofs.Turns.{ends, one_asked, stops, turns}
use Rattle.gs_shell_threads.proofs.desk.Desk.ask_until.Goals as goal

pub loop-turn-init : goal.loop-turn-init
loop-turn-init g c = one_asked (Sends (carried g.D.Disk.seen g.D.Disk.failures)) more_turns (step_line c.args.step) _ _ _ c.ask-answer.ensures

pub loop-turn-preserved : goal.loop-turn-preserved
loop-turn-preserved g c =
    turns (Sends (carried g.D.Disk.seen g.D.Disk.failures)) (until more_turns (step_line c.args.step)) (step_line c.args.step) _ _ _ 10000 c.loop-turn.turn _ _ c.loop-turn-test.true
    (sym c.is_for_now.ensures ∙ c.if-not-is_for_now.false) c.loop-turn.invariant c.ask-answer-in-loop-turn.ensures

pub returns-after-loop-turn : goal.returns-after-loop-turn
returns-after-loop-turn g c =
    ends (Sends (carried g.D.Disk.seen g.D.Disk.failures)) (until more_turns (step_line c.args.step)) (step_line c.args.step) _ _ 10000 c.loop-turn.turn _ c.loop-turn-test.false c.loop-turn.invariant

pub returns-then-not-is_for_now : goal.returns-then-not-is_for_now
returns-then-not-is_for_now g c =
    stops (Sends (carried g.D.Disk.seen g.D.Disk.failures)) (until more_turns (step_line c.args.step)) (step_line c.args.step) _ _ _ _
    (sym c.is_for_now.ensures ∙ c.if-not-is_for_now.true) c.loop-turn.invariant
