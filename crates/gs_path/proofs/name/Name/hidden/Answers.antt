use Rattle.std.proofs.Common.{ap, ◌∙◌, rules}
use Rattle.gs_path.specs.Element.{hidden_parts}
use Rattle.gs_path.proofs.ElementLemmas.{styled-twenty_digits, hidden_parts-hidden_name}
use Rattle.gs_path.proofs.name.Name.hidden.Goals as goal

pub returns-clause-name : goal.returns-clause-name
returns-clause-name c =
    rw (c.in_ok-write.ensures.bytes, c.in_ok-text.ensures.bytes, c.laid_out.ensures, c.laid_out-2.ensures, styled-twenty_digits c.args.moment.0, styled-twenty_digits c.args.number, c.as_str-old.ensures)

pub returns-clause-parts : goal.returns-clause-parts
returns-clause-parts c h =
    ap hidden_parts (returns-clause-name c) ∙ hidden_parts-hidden_name c.args.moment.0 c.args.number c.args.old.now (search rules) (search rules) h
