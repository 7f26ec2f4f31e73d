use Rattle.std.proofs.Common.{◌≡◌, ◌∷◌, ◌++◌, [], map, ap, sym, ◌∙◌}
use Rattle.std.specs.Prelude.{false}
use Rattle.gs_tree.specs.Listing.{pairs_of}
use Rattle.gs_tree.specs.Edits.{last}
use Rattle.gs_tree.proofs.Moves.{last-append}
use Rattle.gs_tree.proofs.Children.{nil_from}
use Rattle.gs_tree.proofs.listing.own_name.Goals as goal

pub returns-in_default : goal.returns-in_default
returns-in_default c =
    let path : c.args.path.now ≡ [] = sym c.elements.ensures ∙ nil_from c.elements.result.now c.in_default.ensures.cases in
    ap pairs_of c.new-listed.ensures.items ∙ sym (ap (λ p. map (λ name. (name, false)) (last p)) path)

pub returns : goal.returns
returns c =
    let split = sym c.elements.ensures ∙ c.in-Some.ensures.cases.0 in
    ap pairs_of (c.in_ok-push.ensures.items ∙ ap (λ l. l ++ record { name = c.in_ok-name.name; is_dir = false } ∷ []) c.new-listed.ensures.items)
    ∙ ap (λ n. (n, false) ∷ []) c.in_ok-name.ensures ∙ sym (ap (map (λ name. (name, false))) (ap last split ∙ last-append c.in-Some.field-0-1.now c.in-Some.name.now))
