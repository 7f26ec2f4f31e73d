use Rattle.gs_path.specs.Path.{Name}
use Rattle.std.proofs.Common.{◌≡◌, Bool, false, rules, ◌∷◌, ◌++◌, [], refl, sym, ap, ◌∙◌, subst, append_assoc, append-nil}
use Rattle.std.proofs.lemmas.List.{map-append}
use Rattle.gs_path.specs.Element.{is_hidden}
use Rattle.gs_tree.specs.Find.{at}
use Rattle.gs_tree.specs.Rows.{rows_of, IsLevel, IsRooted}
use Rattle.gs_tree.specs.Listing.{pairs_of, IsListing}
use Rattle.gs_tree.specs.declared.node.Listed.{Listed}
use Rattle.gs_tree.specs.Edits.{is_dir}
use Rattle.gs_tree.specs.declared.node.Kind.TheVariants as kinds
use Rattle.gs_tree.proofs.Listings.{shown_children, shown-hidden, shown-visible, listing, shown_nothing}
use Rattle.gs_tree.proofs.node.Node.list.Goals as goal

pub loop-name-preserved : goal.loop-name-preserved
loop-name-preserved c =
    ap (λ l. pairs_of c.loop-name.listed.items ++ l) (sym (ap shown_children c.in-Some.ensures.steps ∙ shown-hidden (c.in-Some.name.now, c.in-Some.child.now) c.next.new.self (sym c.is_hidden.ensures ∙ c.if-not-is_hidden.false))) ∙ c.loop-name.invariant

pub loop-name-preserved-in-Continue-branch-2 : goal.loop-name-preserved-in-Continue-branch-2
loop-name-preserved-in-Continue-branch-2 c =
    let seen : is_hidden c.in-Some.name.now ≡ false = search rules in
    let front = pairs_of c.loop-name.listed.items in
    let pair : Name × Bool = (c.in-Some.name.now, is_dir (at c.in-Some.child.now [])) in
    let pushed : pairs_of c.push.new.self.items ≡ front ++ pair ∷ [] =
    ap pairs_of c.in_ok-push.ensures.items ∙ map-append (λ (l : Listed). (l.name, l.is_dir)) c.loop-name.listed.items _
    ∙ ap (λ n. front ++ (n, c.is_dir-is_dir.result) ∷ []) c.in_ok-name.ensures ∙ ap (λ d. front ++ (c.in-Some.name.now, d) ∷ []) c.is_dir-is_dir.ensures.dir in
    ap (λ l. l ++ shown_children c.next.new.self) pushed ∙ append_assoc front (pair ∷ []) (shown_children c.next.new.self)
    ∙ ap (λ l. front ++ l) (sym (ap shown_children c.in-Some.ensures.steps ∙ shown-visible (c.in-Some.name.now, c.in-Some.child.now) c.next.new.self seen)) ∙ c.loop-name.invariant

pub returns : goal.returns
returns c =
    let all : pairs_of c.loop-name.listed.items ≡ shown_children c.in-Dir.children.entries =
    sym (append-nil (pairs_of c.loop-name.listed.items)) ∙ ap (λ l. pairs_of c.loop-name.listed.items ++ shown_children l) (sym c.in-None.ensures.steps.0) ∙ c.loop-name.invariant ∙ ap shown_children c.into_iter-name-iterator.ensures.into_iter_gives.0 in
    subst (λ r. IsListing (at r) c.loop-name.listed.items) (ap rows_of (sym c.in-Dir.is) ∙ c.self.view_is)
    (listing c.loop-name.listed.items c.in-Dir.children.entries all (subst IsLevel c.in-Dir.is c.self.invariant.level) (subst IsRooted c.in-Dir.is c.self.invariant.rooted))

pub returns-in_default : goal.returns-in_default
returns-in_default c =
    subst (λ r. IsListing (at r) c.new-listed.result.items) (ap rows_of (sym c.in_default.is) ∙ c.self.view_is)
    (subst (λ l. IsListing (at (rows_of (kinds.File c.in_default.field-0))) l) (sym c.new-listed.ensures.items) (record { rise = refl; each = shown_nothing }))
