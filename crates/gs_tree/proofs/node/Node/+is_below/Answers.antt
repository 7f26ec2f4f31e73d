use Rattle.std.proofs.Common.{◌≡◌, ◌+◌, ◌-◌, ◌<◌, ◌∷◌, ◌++◌, [], true, false, refl, sym, ap, ◌∙◌, subst, arith, rules, append_assoc, append-nil}
use Rattle.gs_tree.specs.Entry.{File}
use Rattle.gs_tree.specs.Find.{at, IsBelow}
use Rattle.gs_tree.specs.Rows.{rows_of, joined}
use Rattle.gs_tree.specs.declared.node.Kind.TheVariants as kinds
use Rattle.gs_tree.proofs.Children.{EachBelow, each_below, below_joined, EachBelow-append, EachBelow-at, dir_below, joined_below, file_below, not_below_none}
use Rattle.gs_tree.proofs.node.Node.+is_below.Goals as goal

pub returns-then-limit-eq0 : goal.returns-then-limit-eq0
returns-then-limit-eq0 t c = not_below_none c.args.self.now c.self.inside.kind c.args.limit c.self.view_is c.if-limit-eq0.true

pub returns-in_default : goal.returns-in_default
returns-in_default t c = subst (λ r. IsBelow c.args.limit (at r)) (ap rows_of (sym c.in_default.is) ∙ c.self.view_is) (file_below (File c.in_default.field-0.items) c.args.limit (omega arith))

pub loop-child-init : goal.loop-child-init
loop-child-init t c = ([], (refl, tt))

pub returns-then-not-is_below : goal.returns-then-not-is_below
returns-then-not-is_below t c = λ h.
    let (front, (split, each)) = c.loop-child.invariant in
    let entries = c.in-Dir.children.entries in
    let whole : IsBelow c.args.limit (at (rows_of (kinds.Dir c.in-Dir.children))) = subst (λ r. IsBelow c.args.limit (at r)) (sym c.self.view_is ∙ ap rows_of c.in-Dir.is) h in
    let limit : c.args.limit ≡ (c.args.limit - 1) + 1 = omega arith in
    let below = each_below entries (c.args.limit - 1) (subst (λ n. IsBelow n (at (joined entries))) limit (joined_below entries c.args.limit whole)) in
    let parts = sym (c.values-child-items.ensures.rest) ∙ sym c.into_iter-child-iterator.ensures.into_iter_gives ∙ split ∙ ap (λ l. front ++ l) c.in-Some.ensures.steps in
    let child = EachBelow-at (c.args.limit - 1) front c.in-Some.child.now c.next.new.self (subst (EachBelow (c.args.limit - 1)) parts below) in
    let is : c.is_below.result ≡ false = search rules in
    let no = rw is at c.is_below.ensures in
    no child

pub loop-child-preserved : goal.loop-child-preserved
loop-child-preserved t c =
    let (front, (split, each)) = c.loop-child.invariant in
    let is : c.is_below.result ≡ true = search rules in
    let yes = rw is at c.is_below.ensures in
    (front ++ c.in-Some.child.now ∷ [], (split ∙ ap (λ l. front ++ l) c.in-Some.ensures.steps ∙ sym (append_assoc front (c.in-Some.child.now ∷ []) c.next.new.self), EachBelow-append (c.args.limit - 1) front c.in-Some.child.now each yes))

pub returns : goal.returns
returns t c =
    let (front, (split, each)) = c.loop-child.invariant in
    let entries = c.in-Dir.children.entries in
    let all = sym (c.values-child-items.ensures.rest) ∙ sym c.into_iter-child-iterator.ensures.into_iter_gives ∙ split ∙ ap (λ l. front ++ l) c.in-None.ensures.steps.0 ∙ append-nil front in
    let limit : (c.args.limit - 1) + 1 ≡ c.args.limit = omega arith in
    let some : 0 < c.args.limit = omega arith in
    let below = subst (λ n. IsBelow n (at (joined entries))) limit (below_joined entries (c.args.limit - 1) (subst (EachBelow (c.args.limit - 1)) (sym all) each)) in
    subst (λ r. IsBelow c.args.limit (at r)) (ap rows_of (sym c.in-Dir.is) ∙ c.self.view_is) (dir_below entries c.args.limit some below)
