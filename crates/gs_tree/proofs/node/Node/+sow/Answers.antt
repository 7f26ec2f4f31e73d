use Rattle.std.proofs.Common.{append-nil, zero, suc, arith, ◌∷◌, ◌≡◌, ◌+◌, ap, sym, ◌∙◌, subst, refl, inl, inr, cond, length, ℕ, []}
use Rattle.std.specs.Prelude.{Some, Result, Ok, Err, is_none, is_some}
use Rattle.gs_base.specs.declared.refusal.Refusal.{Refusal}
use Rattle.gs_tree.specs.Entry.{Entry}
use Rattle.gs_tree.specs.inner.Steps.{IsSown, Sown}
use Rattle.std.specs.Option.{IsSome}
use Rattle.std.specs.BTreeMap.{BTreeMap, is_at}
use Rattle.std.specs.Map.{lookup}
use Rattle.gs_path.specs.Path.{Name, Path, name_cmp, same_name}
use Rattle.gs_tree.specs.Rows.{IsNode, rows_of}
use Rattle.gs_tree.specs.declared.node.Kind.TheVariants as kinds
use Rattle.gs_tree.specs.Find.{Rows, at}
use Rattle.gs_tree.specs.Edits.{file_above, stood}
use Rattle.gs_tree.specs.inner.Sort.{entry_of_leaf}
use Rattle.gs_tree.specs.Plain.{Plain, Same, IsFree}
use Rattle.gs_tree.specs.Inverses.{first_made}
use Rattle.gs_tree.proofs.Rows.{GoesTo, goes_to, part_of_file, stands_top, at-path, at_child, at-child, rest_of}
use Rattle.gs_tree.proofs.Splice.{splice, some_rest, no_rest, splice-same, at-updated, updates, child_at}
use Rattle.gs_tree.proofs.Sowing.{leafed, sown_here, sown_below, no_file_above, file_above_below, file_stops, root_dir, stood_here, stood_below, free_here, free_below}
use Rattle.gs_tree.proofs.Reaching.{node_leafed, node_spliced, node_entries, one_child, row_stands}
use Rattle.gs_tree.proofs.node.Node.+sow.Goals as goal

-- what was made under a child was made here
sown_on : {m : Rows ℕ} {children : BTreeMap Name (Rows ℕ)} {path : Path} {x : Name} → GoesTo m children path x → (e : Entry ℕ) (child child' : Rows ℕ) (new : Plain ℕ) (made : Result ℕ Refusal) → Some child ≡ lookup (is_at (name_cmp x)) children.entries
    → ((q : Path) → new q ≡ splice x (Some child') (at m) q) → Sown (at child) (rest_of path) e made (at child') → Sown (at m) path e made new
sown_on {m = m} {path = path} {x = x} g e child child' new made is now h = by made h
  where
    down : at m path ≡ at child (rest_of path)
    down = at-path g ∙ ap (λ v. at_child v (rest_of path)) (sym is)

    same : Same (at child') (at child) → Same new (at m)
    same stays q = now q ∙ splice-same x child child' (at m) stays (child_at g child is) q

    by : (made : Result ℕ Refusal) → Sown (at child) (rest_of path) e made (at child') → Sown (at m) path e made new
    by (Ok zero) h = (ap is_some down ∙ h.0, same h.1)
    by (Ok (suc n)) h =
        let f = at m in
        let rest = rest_of path in
        let below = h.1 in
        let longer : length path ≡ length (x ∷ rest) = ap length g.parts in
        let stands : stood f path ≡ stood (at child) rest + 1 = ap (stood f) g.parts ∙ stood_below x rest f (at child) (child_at g child is) below.root in (
          down ∙ h.0,
          record {
            tree = λ q. now q ∙ sown_below x rest e child child' f (root_dir g) (child_at g child is) below.tree q ∙ ap (λ (p : Path). leafed p e f q) (sym g.parts);
            no_file = ap (λ (p : Path). file_above f p) g.parts ∙ file_above_below x rest f (at child) _ (root_dir g) (child_at g child is) below.no_file;
            stands = let k = stands in let l = below.stands in omega arith;
            some = below.some;
            free = subst (λ n. IsFree f (first_made path n)) (sym stands)
                (subst (λ (p : Path). IsFree f (first_made p (stood (at child) rest + 1))) (sym g.parts) (free_below x rest (stood (at child) rest) f (at child) (child_at g child is) below.free));
            root = ap is_none (root_dir g);
          },
        )
    by (Err f) h = (
      elim h.0 [
        | inl w ↦ inl (w.0, ap (λ (p : Path). file_above (at m) p) g.parts ∙ file_above_below x (rest_of path) (at m) (at child) _ (root_dir g) (child_at g child is) w.1, down ∙ w.2)
        | inr w ↦ inr w
      ],
      same h.1,
    )

pub returns-in_default : goal.returns-in_default
returns-in_default t c =
    let m = c.args.self.now in
    let path = c.args.path.now in
    let part = part_of_file m c.self.inside.kind path c.self.view_is (λ d. c.in_default.not-Dir d) (some_rest path _ c.is_empty.ensures c.if-is_empty.false) in
    let none = ap (at m) (sym (append-nil path)) ∙ part [] in
    (inl (refl, file_stops m c.self.inside.kind path c.self.view_is (λ d. c.in_default.not-Dir d) none, none), λ q. ap (λ r. at r q) c.self.view_is)

pub returns-then-is_empty : goal.returns-then-is_empty
returns-then-is_empty t c =
    let here = no_rest c.args.path.now _ c.is_empty.ensures c.if-is_empty.true in
    (ap (λ p. is_some (at c.args.self.now p)) here ∙ ap (λ r. is_some (at r [])) (sym c.self.view_is) ∙ stands_top c.self.inside.kind, λ q. ap (λ r. at r q) c.self.view_is)

pub returns-in-Some : goal.returns-in-Some
returns-in-Some t c =
    let g = goes_to c.self.view_is c.self.invariant.level c.in-Dir.is c.in-len1-up.len_at_least c.first-item.is in
    let written = c.get_mut.follows.holds c.sow-made.new.self in
    let u = updates (c.get_mut.follows.lender c.sow-made.new.self) (Some c.sow-made.new.self) g written.4 (written.3 (subst IsSome c.in-Some.ensures.value refl)).0 in
    sown_on g (entry_of_leaf c.args.leaf) c.in-Some.child.now c.sow-made.new.self _ c.sow-made.result c.in-Some.ensures.value (at-updated u) c.sow-made.ensures

pub invariant_of-self-in-Some : goal.invariant_of-self-in-Some
invariant_of-self-in-Some t c =
    let g = goes_to c.self.view_is c.self.invariant.level c.in-Dir.is c.in-len1-up.len_at_least c.first-item.is in
    let written = c.get_mut.follows.holds c.sow-made.new.self in
    let u = updates (c.get_mut.follows.lender c.sow-made.new.self) (Some c.sow-made.new.self) g written.4 (written.3 (subst IsSome c.in-Some.ensures.value refl)).0 in
    node_spliced c.self.inside.kind c.self.inside.reach c.saturating_add-reach.result c.reach.result c.max-self-inside.result u c.self.view_is c.self.invariant c.in-Dir.is c.reach.ensures.bound c.reach.ensures.stands c.saturating_add-reach.ensures c.max-self-inside.ensures

pub invariant_of-self-2 : goal.invariant_of-self-2
invariant_of-self-2 t c =
    let g = goes_to c.self.view_is c.self.invariant.level c.in-Dir.is c.in-len1-up.len_at_least c.first-item.is in
    let free = λ (r : Path). at-child c.in-Dir.children g.rows g.ordered c.first-item.result r ∙ ap (λ v. at_child v r) (sym c.in_default-get_mut.ensures.value) in
    let lookups = λ (n : Name). c.in_ok-insert.ensures.updates.0 n ∙ ap (λ (m : BTreeMap Name (Rows ℕ)). cond (same_name c.in_ok-name.name n) (Some c.in_ok-below.below) (lookup (is_at (name_cmp n)) m.entries)) c.get_mut.follows.holds-at-none
    ∙ ap (λ x. cond (same_name x n) (Some c.in_ok-below.below) (lookup (is_at (name_cmp n)) c.in-Dir.children.entries)) c.in_ok-name.ensures in
    let u = updates c.insert.new.self (Some c.in_ok-below.below) g c.in_ok-insert.ensures.ordered lookups in
    let e = entry_of_leaf c.args.leaf in
    node_leafed c.self.inside.kind c.self.inside.reach c.reach_of.result c.max-self-inside-2.result c.args.path.now e u c.self.view_is c.self.invariant c.in-Dir.is (λ a e'. one_child c.in_ok-below.below a (row_stands c.in_ok-below.below (rest_of c.args.path.now) e c.in_ok-below.ensures) e')
    (λ q. at-updated u q ∙ sown_here c.first-item.result (rest_of c.args.path.now) e c.in_ok-below.below (at c.args.self.now) (root_dir g) free c.in_ok-below.ensures q ∙ ap (λ (p : Path). leafed p e (at c.args.self.now) q) (sym g.parts))
    c.reach_of.ensures c.max-self-inside-2.ensures

pub returns : goal.returns
returns t c =
    let g = goes_to c.self.view_is c.self.invariant.level c.in-Dir.is c.in-len1-up.len_at_least c.first-item.is in
    let free = λ (r : Path). at-child c.in-Dir.children g.rows g.ordered c.first-item.result r ∙ ap (λ v. at_child v r) (sym c.in_default-get_mut.ensures.value) in
    let lookups = λ (n : Name). c.in_ok-insert.ensures.updates.0 n ∙ ap (λ (m : BTreeMap Name (Rows ℕ)). cond (same_name c.in_ok-name.name n) (Some c.in_ok-below.below) (lookup (is_at (name_cmp n)) m.entries)) c.get_mut.follows.holds-at-none
    ∙ ap (λ x. cond (same_name x n) (Some c.in_ok-below.below) (lookup (is_at (name_cmp n)) c.in-Dir.children.entries)) c.in_ok-name.ensures in
    let u = updates c.insert.new.self (Some c.in_ok-below.below) g c.in_ok-insert.ensures.ordered lookups in
    let e = entry_of_leaf c.args.leaf in
    let f = at c.args.self.now in
    let rest = rest_of c.args.path.now in
    let many : length c.args.path.now ≡ suc (length rest) = ap length g.parts in
    let stands : stood f c.args.path.now ≡ 0 = ap (stood f) g.parts ∙ stood_here c.first-item.result rest f free in
    let sown : IsSown f c.args.path.now e (suc (length rest)) (at (rows_of (kinds.Dir c.insert.new.self))) = record {
      tree = λ q. at-updated u q ∙ sown_here c.first-item.result rest e c.in_ok-below.below f (root_dir g) free c.in_ok-below.ensures q ∙ ap (λ (p : Path). leafed p e f q) (sym g.parts);
      no_file = ap (λ (p : Path). file_above f p) g.parts ∙ no_file_above c.first-item.result rest f (root_dir g) free;
      stands = let k = stands in let l = many in omega arith;
      some = omega arith;
      free = subst (λ n. IsFree f (first_made c.args.path.now n)) (sym stands) (subst (λ (p : Path). IsFree f (first_made p 0)) (sym g.parts) (free_here c.first-item.result rest f free));
      root = ap is_none (root_dir g);
    } in
    subst (λ k. Sown f c.args.path.now e (Ok k) (at (rows_of (kinds.Dir c.insert.new.self)))) (sym many) (ap f g.parts ∙ free rest, sown)

pub invariant_of-self-in_err-insert : goal.invariant_of-self-in_err-insert
invariant_of-self-in_err-insert t c =
    let same : c.insert.new.self.entries ≡ c.in-Dir.children.entries = c.in_err-insert.ensures.err ∙ ap (λ (m : BTreeMap Name (Rows ℕ)). m.entries) c.get_mut.follows.holds-at-none in
    node_entries c.in-Dir.children c.insert.new.self c.self.inside.reach same c.in_err-insert.ensures.ordered (subst (IsNode c.self.inside.reach) c.in-Dir.is c.self.invariant)
