use Rattle.std.proofs.Common.{ℕ, ap, drop, take, ◌∙◌}
use Rattle.gs_keep_measure.proofs.TailLines.{line_dropped, line_taken}
use Rattle.gs_keep_measure.proofs.tail.next_line.Goals as goal

pub returns-clause-line : goal.returns-clause-line
returns-clause-line c = c.split_at.ensures.front ∙ ap (λ (n : ℕ). take n c.args.bytes.now) c.line_len.ensures.value ∙ line_taken c.args.bytes.now

pub returns-clause-rest : goal.returns-clause-rest
returns-clause-rest c = c.split_at.ensures.back ∙ ap (λ (n : ℕ). drop n c.args.bytes.now) c.line_len.ensures.value ∙ line_dropped c.args.bytes.now
