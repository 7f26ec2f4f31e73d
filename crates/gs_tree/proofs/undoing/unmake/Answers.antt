use Rattle.std.proofs.Common.{◌≡◌, ◌+◌, ◌<◌, ◌≤◌, ap, sym, ◌∙◌, subst, refl, inl, inr, true, false, cond, rules, take, drop, length, arith}
use Rattle.std.proofs.lemmas.Bool.{lt-ltb}
use Rattle.gs_path.specs.Path.{Path}
use Rattle.gs_tree.specs.Plain.{part_at, without}
use Rattle.gs_tree.specs.Find.{at}
use Rattle.gs_tree.specs.Inverses.{IsBlankRow, first_made, below_first}
use Rattle.gs_tree.proofs.undoing.unmake.Goals as goal

pub returns-then-not-is_row_at-clause-undo : goal.returns-then-not-is_row_at-clause-undo
returns-then-not-is_row_at-clause-undo c =
    let out : c.is_row_at.result ≡ false = search rules in
    let never = rw out at c.is_row_at.ensures in
    let front : c.split_at.result.0.now ≡ first_made c.args.path.now c.args.above = c.split_at.ensures.front ∙ ap (take (c.args.above + 1)) c.elements-2.ensures in
    let back : c.split_at.result.1.now ≡ below_first c.args.path.now c.args.above = c.split_at.ensures.back ∙ ap (drop (c.args.above + 1)) c.elements-2.ensures in (
      inr (
        refl,
        λ fits. elim fits [
          | inl short ↦ absurd (let s : length c.elements.result.now ≤ c.args.above = subst (λ (p : Path). length p ≤ c.args.above) (sym c.elements.ensures) short in omega arith)
          | inr row ↦ never (subst (λ (p : Path). IsBlankRow (part_at p (at c.args.root.now)) c.split_at.result.1.now) (sym front) (subst (λ (p : Path). IsBlankRow (part_at (first_made c.args.path.now c.args.above) (at c.args.root.now)) p) (sym back) row))
        ],
      ),
      λ q. refl,
    )

pub prune-requires : goal.prune-requires
prune-requires c = λ z. let k : length c.split_at.result.0.now ≡ 0 = ap length z in let l = c.split_at.ensures.front_len in absurd (omega arith)

pub returns-clause-undo : goal.returns-clause-undo
returns-clause-undo c =
    let yes : c.is_row_at.result ≡ true = search rules in
    let row = rw yes at c.is_row_at.ensures in
    let front : c.split_at.result.0.now ≡ first_made c.args.path.now c.args.above = c.split_at.ensures.front ∙ ap (take (c.args.above + 1)) c.elements-2.ensures in
    let back : c.split_at.result.1.now ≡ below_first c.args.path.now c.args.above = c.split_at.ensures.back ∙ ap (drop (c.args.above + 1)) c.elements-2.ensures in
    let len : length c.elements.result.now ≡ length c.args.path.now = ap length c.elements.ensures in
    let short : c.args.above < length c.args.path.now = omega arith in (
      inr (subst (λ (p : Path). IsBlankRow (part_at p (at c.args.root.now)) (below_first c.args.path.now c.args.above)) front (subst (λ (p : Path). IsBlankRow (part_at c.split_at.result.0.now (at c.args.root.now)) p) back row)),
      λ q. c.prune.ensures.rest q ∙ ap (λ p. without p (at c.args.root.now) q) front ∙ sym (ap (λ b. cond b (without (first_made c.args.path.now c.args.above) (at c.args.root.now)) (at c.args.root.now) q) (lt-ltb _ _ short)),
    )
