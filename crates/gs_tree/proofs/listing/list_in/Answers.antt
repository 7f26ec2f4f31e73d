use Rattle.std.proofs.Common.{◌≡◌, ◌++◌, [], ap, sym, ◌∙◌, subst, ℕ, refl, inl, append-nil}
use Rattle.gs_tree.specs.Plain.{Plain, part_at}
use Rattle.gs_tree.specs.Find.{at}
use Rattle.gs_tree.specs.Listing.{IsListing, IsListingOf}
use Rattle.gs_tree.proofs.Moves.{is_dir_some, file_listing}
use Rattle.gs_tree.proofs.listing.list_in.Goals as goal

pub returns-in_default : goal.returns-in_default
returns-in_default c = inl (refl, ap (at c.args.root.now) (sym (append-nil c.args.path.now)) ∙ ap (λ p. at c.args.root.now (p ++ [])) (sym c.elements.ensures) ∙ c.in_default.ensures.part [])

pub returns-then-is_dir : goal.returns-then-is_dir
returns-then-is_dir c =
    let here : at c.args.root.now c.args.path.now ≡ at c.in-Some.node.now [] = ap (at c.args.root.now) (sym (append-nil c.args.path.now)) ∙ ap (λ p. at c.args.root.now (p ++ [])) (sym c.elements.ensures) ∙ c.in-Some.ensures.part [] in
    let dir = here ∙ is_dir_some (at c.in-Some.node.now []) (sym c.is_dir.ensures.dir ∙ c.if-is_dir.true) in
    let part : at c.in-Some.node.now ≡ part_at c.args.path.now (at c.args.root.now) = λ i q. (sym (c.in-Some.ensures.part q) ∙ ap (λ p. at c.args.root.now (p ++ q)) c.elements.ensures) i in
    subst (λ v. IsListingOf v (at c.args.root.now) c.args.path.now c.in_ok-list.field-0.items) (sym dir) (subst (λ (m : Plain ℕ). IsListing m c.in_ok-list.field-0.items) part c.in_ok-list.ensures)

pub returns : goal.returns
returns c =
    let here : at c.args.root.now c.args.path.now ≡ at c.in-Some.node.now [] = ap (at c.args.root.now) (sym (append-nil c.args.path.now)) ∙ ap (λ p. at c.args.root.now (p ++ [])) (sym c.elements.ensures) ∙ c.in-Some.ensures.part [] in
    subst (λ v. IsListingOf v (at c.args.root.now) c.args.path.now c.in_ok-own_name.field-0.items) (sym here)
    (file_listing (at c.in-Some.node.now []) (at c.args.root.now) c.args.path.now c.in_ok-own_name.field-0.items c.is_dir.ensures.stands (sym c.is_dir.ensures.dir ∙ c.if-is_dir.false) c.in_ok-own_name.ensures)
