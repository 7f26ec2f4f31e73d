use Rattle.std.proofs.Common.{◌≡◌, rules, IfSome, ap, length, refl, subst, ◌∙◌}
use Rattle.std.specs.Io.BufRead.{take_through}
use Rattle.std.proofs.BufReadLemmas.{take_through-nil}
use Rattle.gs_shell_line.specs.Ended.{IsEndedLine}
use Rattle.gs_shell_line.specs.declared.ended.EndedLine.{EndedLine}
use Rattle.gs_keep.proofs.Replaying.{StandsNext, text_refused, text_runs}
use Rattle.gs_keep.proofs.Weaken.{if_some}
use Rattle.gs_keep.proofs.again.replay_one.Goals as goal

pub returns-in-End-clause-ok : goal.returns-in-End-clause-ok
returns-in-End-clause-ok g c =
    let line = rw c.in-End.is at c.in-Ok.ensures.line in
    if_some (g.B.Read.remaining c.args.logged.now.reader) _ _ (λ xs none. (take_through-nil 10 xs (ap length none), refl, refl)) line

pub returns-in-Text-clause-ok : goal.returns-in-Text-clause-ok
returns-in-Text-clause-ok g c =
    let o = g.B.Read.remaining c.args.logged.now.reader in
    let next = subst (λ (l : EndedLine). IfSome o (λ xs. IsEndedLine (take_through 10 xs) l)) c.in-Text.is c.in-Ok.ensures.line in
    let same : c.deref.result.now ≡ c.in-Text.line.items = search rules in
    let stands : IfSome o (StandsNext c.deref.result.now) = if_some o _ _ (λ xs h. (same ∙ h.0, h.1, h.2)) next in
    text_runs g.M.Answering.Answers g.M.Keeping.is_kept o (g.B.Read.remaining c.next.new.self.reader) c.replay_text.result c.deref.result.now c.args.ledger.now c.replay_text.new.ledger c.args.machine.now c.replay_text.new.machine
    stands c.in-Ok.ensures.rest c.replay_text.ensures.ok

pub returns-in-Text-clause-err : goal.returns-in-Text-clause-err
returns-in-Text-clause-err g c =
    let o = g.B.Read.remaining c.args.logged.now.reader in
    let next = subst (λ (l : EndedLine). IfSome o (λ xs. IsEndedLine (take_through 10 xs) l)) c.in-Text.is c.in-Ok.ensures.line in
    let same : c.deref.result.now ≡ c.in-Text.line.items = search rules in
    let stands : IfSome o (StandsNext c.deref.result.now) = if_some o _ _ (λ xs h. (same ∙ h.0, h.1, h.2)) next in
    text_refused g.M.Keeping.is_kept o c.replay_text.result c.args.number c.deref.result.now c.args.ledger.now stands c.replay_text.ensures.err
