use Rattle.std.proofs.Common.{ap, sym, ◌∙◌}
use Rattle.std.specs.Option.{option_map}
use Rattle.gs_tree.specs.Edits.{old_name}
use Rattle.gs_tree.proofs.Moves.{old_name-append}
use Rattle.gs_master_state.proofs.file.old_name.Goals as goal

pub returns-in-Some-2 : goal.returns-in-Some-2
returns-in-Some-2 c = sym (
    ap old_name (sym c.elements.ensures ∙ c.in-Some.ensures.cases.0) ∙ old_name-append c.in-Some.field-0-1.now c.in-Some.name.now
    ∙ ap (λ parts. option_map (λ p. p.2) parts) (sym c.in_ok-parts.ensures ∙ ap (λ found. option_map (λ parts. (parts.moment.0, parts.number, parts.old)) found) c.in-Some-2.is))

pub returns-in-None : goal.returns-in-None
returns-in-None c = sym (
    ap old_name (sym c.elements.ensures ∙ c.in-Some.ensures.cases.0) ∙ old_name-append c.in-Some.field-0-1.now c.in-Some.name.now
    ∙ ap (λ parts. option_map (λ p. p.2) parts) (sym c.in_ok-parts.ensures ∙ ap (λ found. option_map (λ parts. (parts.moment.0, parts.number, parts.old)) found) c.in-None.is))
