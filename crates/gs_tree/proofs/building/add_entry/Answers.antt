use Rattle.std.proofs.Common.{◌≡◌, ◌++◌, ◌∷◌, [], true, refl, sym, ap, ◌∙◌, inl, inr, append-nil}
use Rattle.std.proofs.lemmas.List.{append_cancel_left, nil_from_length}
use Rattle.gs_path.specs.Path.{Path, begins}
use Rattle.gs_tree.specs.Find.{at}
use Rattle.gs_tree.specs.Plain.{IsFree, with_at}
use Rattle.gs_tree.specs.inner.Sort.{sort_of}
use Rattle.gs_tree.specs.declared.node.Sort.TheVariants as sorts
use Rattle.gs_tree.specs.Edits.{parent}
use Rattle.gs_tree.specs.Build.{path_of_entry, kind_of_entry}
use Rattle.gs_tree.proofs.Laws.{begins_append}
use Rattle.gs_tree.proofs.Moves.{dir_is, parent-append, append_some}
use Rattle.gs_tree.proofs.Levels.{grafted_free}
use Rattle.gs_tree.proofs.building.add_entry.Goals as goal

-- the path below is that which was found
one_path : (top q found whole path : Path) → whole ≡ path → whole ≡ top ++ found → path ≡ top ++ q → q ≡ found
one_path top q found whole path is w p = append_cancel_left top q found (sym p ∙ sym is ∙ w)

pub returns-in_default : goal.returns-in_default
returns-in_default c = inr (refl, λ q free. let k : begins c.args.top.now c.path.result.now ≡ true = ap (begins c.args.top.now) (c.path.ensures ∙ free.path) ∙ begins_append c.args.top.now q in let e = c.in_default.ensures in cc)

pub returns-in_default-split_last : goal.returns-in_default-split_last
returns-in_default-split_last c = inr (refl, λ q free. free.below (one_path c.args.top.now q c.in-Some.path.now c.path.result.now (path_of_entry c.args.entry.now) c.path.ensures c.in-Some.ensures free.path ∙ nil_from_length c.in-Some.path.now c.in_default-split_last.ensures.cases))

pub returns-in-Dir : goal.returns-in-Dir
returns-in-Dir c =
    inr (
      refl,
      λ q free. let is = one_path c.args.top.now q c.in-Some.path.now c.path.result.now (path_of_entry c.args.entry.now) c.path.ensures c.in-Some.ensures free.path in
          let m : c.sort_at.result ≡ sorts.Missing = c.sort_at.ensures.sort ∙ ap sort_of (ap (at c.args.root.now) (sym is) ∙ free.free) in elim c.in-Dir.is [ inl d ↦ cc (d, m) | inr f ↦ cc (f, m) ],
    )

pub returns-in-Missing-sort_at : goal.returns-in-Missing-sort_at
returns-in-Missing-sort_at c =
    inr (
      refl,
      λ q free. let is = one_path c.args.top.now q c.in-Some.path.now c.path.result.now (path_of_entry c.args.entry.now) c.path.ensures c.in-Some.ensures free.path in
          let above : parent q ≡ c.in-Some-split_last.parent.now = ap parent (is ∙ c.in-Some-split_last.ensures.cases.0) ∙ parent-append c.in-Some-split_last.parent.now c.in-Some-split_last.name.now in
          let d : c.sort_at-2.result ≡ sorts.Dir = c.sort_at-2.ensures.sort ∙ ap sort_of (ap (at c.args.root.now) (sym above) ∙ free.dir) in elim c.in-Missing-sort_at.is [ inl m ↦ cc (m, d) | inr f ↦ cc (f, d) ],
    )

pub returns : goal.returns
returns c =
    let root = c.args.root.now in
    let path = c.in-Some.path.now in
    let par = c.in-Some-split_last.parent.now in
    let name = c.in-Some-split_last.name.now in
    let split : path ≡ par ++ name ∷ [] = c.in-Some-split_last.ensures.cases.0 in
    let free : IsFree (at root) path = c.in-Missing.ensures.free refl in (
      path,
      (
        record {
          path = sym c.path.ensures ∙ c.in-Some.ensures;
          below = λ e. append_some par name (sym split ∙ e);
          free = ap (at root) (sym (append-nil path)) ∙ free [];
          dir = ap (at root) (ap parent split ∙ parent-append par name) ∙ dir_is (at root par) c.in-Dir-sort_at.ensures.sort;
        },
        λ q. c.in_ok-graft.ensures.now q ∙ ap (λ n. with_at (par ++ n ∷ []) (at c.in_ok-node.node) (at root) q) c.in_ok-name.ensures
            ∙ ap (λ n. with_at (par ++ name ∷ []) (at n) (at root) q) c.in_ok-node.ensures ∙ ap (λ p. with_at p (at (([], kind_of_entry c.args.entry.now) ∷ [])) (at root) q) (sym split)
            ∙ grafted_free (at root) path (kind_of_entry c.args.entry.now) free q,
      ),
    )
