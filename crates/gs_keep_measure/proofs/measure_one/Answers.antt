use Rattle.std.proofs.Common.{◌≡◌, rules, IfSome, refl, subst, ◌∙◌}
use Rattle.std.specs.Io.BufRead.{take_through}
use Rattle.gs_shell_line.specs.Ended.{IsEndedLine}
use Rattle.gs_shell_line.specs.declared.ended.EndedLine.{EndedLine}
use Rattle.gs_keep_measure.proofs.Steps.{if_some, long_taken, some_line, text_refused, text_taken}
use Rattle.gs_keep_measure.proofs.measure_one.Goals as goal

pub returns-in-NoMemory-clause-refused : goal.returns-in-NoMemory-clause-refused
returns-in-NoMemory-clause-refused g c = some_line (g.B.Read.remaining c.args.reader.now.reader) (rw c.in-NoMemory.is at c.in-Ok.ensures.line)

pub returns-in-TooLong-clause-more : goal.returns-in-TooLong-clause-more
returns-in-TooLong-clause-more g c =
    long_taken (g.B.Read.remaining c.args.reader.now.reader) (g.B.Read.remaining c.next.new.self.reader) c.args.now _ (rw c.in-TooLong.is at c.in-Ok.ensures.line) c.in-Ok.ensures.rest refl refl refl refl refl

pub returns-in-Some-clause-more : goal.returns-in-Some-clause-more
returns-in-Some-clause-more g c =
    let o = g.B.Read.remaining c.args.reader.now.reader in
    let next = subst (λ (l : EndedLine). IfSome o (λ xs. IsEndedLine (take_through 10 xs) l)) c.in-Text.is c.in-Ok.ensures.line in
    let same : c.deref.result.now ≡ c.in-Text.line.items = search rules in
    text_taken o (g.B.Read.remaining c.next.new.self.reader) c.args.now c.in-Some.more c.deref.result.now (if_some o _ _ (λ xs h. (same ∙ h.0, h.1, h.2)) next) c.in-Ok.ensures.rest c.in-Some.ensures

pub returns-clause-refused : goal.returns-clause-refused
returns-clause-refused g c =
    let o = g.B.Read.remaining c.args.reader.now.reader in
    let next = subst (λ (l : EndedLine). IfSome o (λ xs. IsEndedLine (take_through 10 xs) l)) c.in-Text.is c.in-Ok.ensures.line in
    let same : c.deref.result.now ≡ c.in-Text.line.items = search rules in
    text_refused o c.args.now c.deref.result.now (if_some o _ _ (λ xs h. (same ∙ h.0, h.1, h.2)) next) c.in-None.ensures
