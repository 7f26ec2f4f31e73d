use Rattle.std.proofs.Common.{ℕ, ◌≡◌, ◌∷◌, ◌++◌, [], false, ap, sym, ◌∙◌, subst}
use Rattle.std.specs.Prelude.{Option, Some, None, is_some}
use Rattle.gs_path.specs.Path.{Path}
use Rattle.gs_tree.specs.Find.{Rows, at, IsPartAt}
use Rattle.gs_tree.specs.Plain.{Plain, with_at}
use Rattle.gs_tree.proofs.Laws.{put_back, with_same, with_at-append}
use Rattle.gs_tree.proofs.node.Node.land.Goals as goal

-- what the node is put at: the target
filled : (two part m : Plain ℕ) (to other : Path) → ((q : Path) → two q ≡ with_at other part m q) → to ≡ other → (q : Path) → two q ≡ with_at to part m q
filled two part m to other h e q = h q ∙ ap (λ p. with_at p part m q) (sym e)

-- what stands at the target, under its other name
target_part : (m : Plain ℕ) (to other : Path) (part known : Option (Rows ℕ)) → to ≡ other → part ≡ known → IsPartAt m other part → IsPartAt m to known
target_part m to other part known e is h = subst (λ (p : Path). IsPartAt m p known) (sym e) (subst (λ (r : Option (Rows ℕ)). IsPartAt m other r) is h)

-- nothing stands at the target where nothing was answered for it
free_of : (m : Plain ℕ) (to : Path) → IsPartAt m to None → (r : Path) → m (to ++ r) ≡ None
free_of m to free = free

pub returns-in_default : goal.returns-in_default
returns-in_default c =
    let one = at c.args.self.now in
    let to = c.args.to.now in
    let other = c.args.parent.now ++ c.args.name ∷ [] in (
      free_of one to (target_part one to other c.in-Ok.stood None c.requires.target c.in_default.is c.in-Ok.ensures.stood),
      filled (at c.graft.new.self) (at c.args.node) one to other c.in-Ok.ensures.now c.requires.target,
    )

pub put-requires-in-Some-replace : goal.put-requires-in-Some-replace
put-requires-in-Some-replace c n =
    let one = at c.args.self.now in
    let to = c.args.to.now in
    let other = c.args.parent.now ++ c.args.name ∷ [] in
    let two = filled (at c.graft.new.self) (at c.args.node) one to other c.in-Ok.ensures.now c.requires.target in
    let part = target_part one to other c.in-Ok.stood (Some c.in-Some.stood) c.requires.target c.in-Some.is c.in-Ok.ensures.stood in
    let back = put_back one to (at c.args.node) (at c.in-Some.stood) (at c.graft.new.self) (at c.replace.new.self) two part c.in-Some-replace.ensures.now in
    let gone : is_some (one c.args.from.now) ≡ false = ap is_some (sym (back c.args.from.now) ∙ n) in
    cc (gone, c.requires.stands)

pub returns-in-Some-replace : goal.returns-in-Some-replace
returns-in-Some-replace c =
    let one = at c.args.self.now in
    let to = c.args.to.now in
    let from = c.args.from.now in
    let other = c.args.parent.now ++ c.args.name ∷ [] in
    let two = filled (at c.graft.new.self) (at c.args.node) one to other c.in-Ok.ensures.now c.requires.target in
    let part = target_part one to other c.in-Ok.stood (Some c.in-Some.stood) c.requires.target c.in-Some.is c.in-Ok.ensures.stood in
    let back = put_back one to (at c.args.node) (at c.in-Some.stood) (at c.graft.new.self) (at c.replace.new.self) two part c.in-Some-replace.ensures.now in
    let same = λ (r : Path). sym (c.in-Some-replace.ensures.part r) ∙ two (to ++ r) ∙ with_at-append to (at c.args.node) one r in (
      ap (λ p. is_some (one p)) c.requires.target ∙ sym c.in-Ok.ensures.found ∙ ap is_some c.in-Some.is,
      with_same one (at c.replace.new.self) (at c.in-Some-replace.node) (at c.args.node) (at c.put-in-Some-replace.new.self) from same back c.put-in-Some-replace.ensures,
    )

pub returns-in_default-replace : goal.returns-in_default-replace
returns-in_default-replace c =
    let two = filled (at c.graft.new.self) (at c.args.node) (at c.args.self.now) c.args.to.now (c.args.parent.now ++ c.args.name ∷ []) c.in-Ok.ensures.now c.requires.target in
    let gone : is_some (at c.args.node []) ≡ false = ap is_some (sym (two (c.args.to.now ++ []) ∙ with_at-append c.args.to.now (at c.args.node) (at c.args.self.now) []) ∙ c.in_default-replace.ensures.part []) in
    absurd (cc (gone, c.requires.node))
