use Rattle.std.proofs.Common.{true, false, IfSome, rules, ◌≡◌, refl, Option, Some, None, List, ℕ}
use Rattle.gs_shell_script.specs.declared.RunFault.{RunFault}
use Rattle.gs_shell_script.specs.declared.RunFault.TheVariants as fault
use Rattle.gs_shell_script.specs.Run.{Wrote, TurnFails, RunFails}
use Rattle.gs_shell_script.proofs.Weaken.{if_some, if_err}
use Rattle.gs_shell_script.proofs.Lines.{wrote_none, wrote_more, wrote_all, stops, breaks, stays-here}
use Rattle.std.proofs.KnownBytes.{Keeps-refl}
use Rattle.gs_shell_script.proofs.run.Goals as goal

module _ {S : Type 0} (A : S → List ℕ → List ℕ → S → Type 0) where
  fails : (f : RunFault) (start : S) (before left left' out mid out' : Option (List ℕ)) (now new : S)
      → IfSome before (λ input. Wrote A start input left out mid now) → TurnFails A f left left' mid out' now new → RunFails A f start before left' out out' new
  fails fault.Read start before left left' out mid out' now new so_far h = if_some before _ _ (λ input w. stops A start input left left' out mid out' now new w h.0 h.1 h.2) so_far
  fails fault.Write start before left left' out mid out' now new so_far h = if_some before _ _ (λ input w. breaks A start input left left' out mid out' now new w h) so_far
  fails (fault.Refused e) start before left left' out mid out' now new so_far h = absurd h

  begins : (o out : Option (List ℕ)) (start : S) → IfSome o (λ input. Wrote A start input o out out start)
  begins None out start = tt
  begins (Some input) out start = wrote_none A start input out

pub loop-init : goal.loop-init
loop-init g c = begins g.M.Answering.Answers (g.R.Read.remaining c.args.reader.now) (g.W.Write.contents c.args.writer.now) c.args.machine.now

pub loop-preserved : goal.loop-preserved
loop-preserved g c =
    let more : c.in_ok-turn.field-0 ≡ true = search rules in
    let turn = rw more at c.in_ok-turn.ensures.ok in
    if_some (g.R.Read.remaining c.args.reader.now) _ _ (λ input so_far. wrote_more g.M.Answering.Answers c.args.machine.now input _ _ _ _ _ _ _ so_far turn) c.loop.invariant

pub returns-then-not-branch-clause-ok : goal.returns-then-not-branch-clause-ok
returns-then-not-branch-clause-ok g c =
    let none : c.in_ok-turn.field-0 ≡ false = search rules in
    let turn = rw none at c.in_ok-turn.ensures.ok in
    if_some (g.R.Read.remaining c.args.reader.now) _ _ (λ input so_far. wrote_all g.M.Answering.Answers c.args.machine.now input (g.R.Read.remaining c.loop.reader) (g.R.Read.remaining c.turn.new.reader) (g.W.Write.contents c.args.writer.now) (g.W.Write.contents c.loop.writer) (g.W.Write.contents c.turn.new.writer) c.loop.machine c.turn.new.machine so_far turn) c.loop.invariant

pub returns-in_err-turn-clause-err : goal.returns-in_err-turn-clause-err
returns-in_err-turn-clause-err g c =
    if_err c.from_residual.result c.in_err-turn.field-0.0 _ c.from_residual.ensures.1
    (fails g.M.Answering.Answers c.in_err-turn.field-0.0 c.args.machine.now (g.R.Read.remaining c.args.reader.now) (g.R.Read.remaining c.loop.reader) (g.R.Read.remaining c.turn.new.reader) (g.W.Write.contents c.args.writer.now) (g.W.Write.contents c.loop.writer) (g.W.Write.contents c.turn.new.writer) c.loop.machine c.turn.new.machine c.loop.invariant c.in_err-turn.ensures.err)

pub returns-clause-err : goal.returns-clause-err
returns-clause-err g c = fails g.M.Answering.Answers fault.Read c.args.machine.now (g.R.Read.remaining c.args.reader.now) (g.R.Read.remaining c.loop.reader) (g.R.Read.remaining c.loop.reader) (g.W.Write.contents c.args.writer.now) (g.W.Write.contents c.loop.writer) (g.W.Write.contents c.loop.writer) c.loop.machine c.loop.machine c.loop.invariant (stays-here _, Keeps-refl _, refl)
