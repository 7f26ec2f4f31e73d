use Rattle.std.proofs.Common.{◌≡◌, ◌<◌, ◌∷◌, [], List, ℕ, length, Some, ap, refl, sym, subst, ◌∙◌, true≢false, rules, arith}
use Rattle.std.proofs.BufReadLemmas.{take_through-nil, take_through_nonempty}
use Rattle.std.proofs.KnownBytes.{Keeps-refl}
use Rattle.std.specs.Io.BufRead.{take_through, drop_through}
use Rattle.gs_shell_line.specs.Line.{IsLine, content}
use Rattle.gs_shell_line.specs.declared.Line.{Line}
use Rattle.gs_shell_line.specs.declared.Line.TheVariants.{End, Text, TooLong, NoMemory}
use Rattle.gs_shell_script.specs.Run.{TurnFails}
use Rattle.gs_shell_script.specs.declared.RunFault.{RunFault}
use Rattle.gs_shell_script.specs.declared.RunFault.TheVariants as fault
use Rattle.gs_shell_script.proofs.Weaken.{if_some, if_some₂, if_err}
use Rattle.gs_shell_script.proofs.turn.Goals.{in-End, in_default-matches}
use Rattle.gs_shell_script.proofs.turn.Goals as goal

-- what has some content is not empty
some_content : (whole : List ℕ) → 1048576 < length (content whole) → 0 < length whole
some_content [] h = absurd (omega arith)
some_content (x ∷ xs) h = omega arith

-- a line that is not the end has a byte
nonempty : (whole : List ℕ) (l : Line) → (l ≡ End → ⊥) → IsLine whole l → 0 < length whole
nonempty whole End more is = absurd (more refl)
nonempty whole (Text v) more is = is.0
nonempty whole TooLong more is = some_content whole is
nonempty whole NoMemory more is = is

pub returns-then-matches-clause-ok : goal.returns-then-matches-clause-ok
returns-then-matches-clause-ok g c = elim c.match-matches.branch [
  | in-End w ↦
      let line = rw w.in-End.is at c.in-Ok.ensures.line in
      if_some (g.R.Read.remaining c.args.reader.now) _ _ (λ xs h. (take_through-nil 10 xs (ap length h), Keeps-refl _, refl)) line
  | in_default-matches w ↦ absurd (true≢false (sym c.if-matches.true ∙ w.matches-is))
]

pub returns-clause-ok : goal.returns-clause-ok
returns-clause-ok g c =
    let next = c.in-Ok.next in
    let more : next.line ≡ End → ⊥ = search rules in
    if_some₂ (g.R.Read.remaining c.args.reader.now) (λ xs. IsLine (take_through 10 xs) next.line) (λ xs. g.R.Read.remaining c.next_line.new.reader ≡ Some (drop_through 10 xs)) _ (λ xs line rest.
    let (text, answers, out) = c.in_ok-reply.ensures.ok (take_through 10 xs) line in
    (take_through_nonempty 10 xs (nonempty (take_through 10 xs) next.line more line), rest, text, answers, out)) c.in-Ok.ensures.line c.in-Ok.ensures.rest

pub returns-in_err-reply-clause-err : goal.returns-in_err-reply-clause-err
returns-in_err-reply-clause-err g c =
    let before = g.R.Read.remaining c.args.reader.now in
    let left = g.R.Read.remaining c.next_line.new.reader in
    let out = g.W.Write.contents c.args.writer.now in
    let out' = g.W.Write.contents c.reply.new.writer in
    let next = c.in-Ok.next in
    let more : next.line ≡ End → ⊥ = search rules in
    let broken : TurnFails g.M.Answering.Answers fault.Write before left out out' c.args.machine.now c.reply.new.machine =
    if_some₂ before (λ xs. IsLine (take_through 10 xs) next.line) (λ xs. left ≡ Some (drop_through 10 xs)) _ (λ xs line rest.
    let (text, answers, begun) = c.in_err-reply.ensures.err (take_through 10 xs) line in
    (take_through_nonempty 10 xs (nonempty (take_through 10 xs) next.line more line), rest, text, answers, begun)) c.in-Ok.ensures.line c.in-Ok.ensures.rest in
    if_err c.from_residual.result c.in_err-reply.field-0.0 _ c.from_residual.ensures.1
    (subst (λ (f : RunFault). TurnFails g.M.Answering.Answers f before left out out' c.args.machine.now c.reply.new.machine) (sym c.in_err-reply.ensures.fault) broken)
