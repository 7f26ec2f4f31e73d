use Rattle.std.proofs.Common.{◌≡◌, ◌++◌, ◌<◌, [], ℕ, Bool, true, false, cond, ap, sym, ◌∙◌, refl, arith, length, length-append, append-nil}
use Rattle.std.specs.Prelude.{Result, Ok, Err, is_some, is_none}
use Rattle.gs_base.specs.declared.refusal.Refusal.TheVariants.{Exists, IntoItself, NotFound, NotADirectory, BadPath}
use Rattle.gs_path.specs.Path.{Path, begins}
use Rattle.gs_base.specs.declared.refusal.Refusal.{Refusal}
use Rattle.gs_tree.specs.Plain.{Plain}
use Rattle.gs_tree.specs.Edits.{placed, same_path, parent, is_file}
use Rattle.gs_tree.proofs.Chunks.{same_itself}
use Rattle.gs_tree.proofs.Laws.{begins_append}
use Rattle.gs_tree.proofs.Reaching.{same_path-is}
use Rattle.gs_tree.proofs.Rows.{empty_path}
use Rattle.gs_tree.proofs.Splice.{no_rest, some_rest}
use Rattle.gs_tree.proofs.moving.test_apart.Goals as goal

-- a path isn't one that it doesn't begin with
other : (from to : Path) → begins from to ≡ false → same_path to from ≡ false
other from to apart = elim (same_path to from) as (λ b. same_path to from ≡ b → b ≡ false) [
  | true ↦ λ e. let k : begins from to ≡ true = ap (begins from) (same_path-is to from e ∙ sym (append-nil from)) ∙ begins_append from [] in absurd (cc)
  | false ↦ λ e. refl
] refl

-- nor a longer one
longer : (from to below : Path) → to ≡ from ++ below → (below ≡ [] → ⊥) → same_path to from ≡ false
longer from to below is some = elim (same_path to from) as (λ b. same_path to from ≡ b → b ≡ false) [
  | true ↦ λ e. let l : length (from ++ below) ≡ length from = ap length (sym is ∙ same_path-is to from e) in let k : length below < 1 = omega (arith, length-append from below) in absurd (some (empty_path below k))
  | false ↦ λ e. refl
] refl

-- the answer behind the tests of the two paths
abbrev beyond : Bool → Plain ℕ → Path → Plain ℕ → Result (Plain ℕ) Refusal
beyond deep m to new =
    cond (is_some (m to)) (Err Exists) (cond (is_none (m (parent to))) (Err NotFound) (cond (is_file (m (parent to))) (Err NotADirectory) (cond deep (Err BadPath) (Ok new))))

by_paths : (deep same under : Bool) (m : Plain ℕ) (from to : Path) (new : Plain ℕ) → same_path to from ≡ same → begins from to ≡ under → placed deep m from to new ≡ cond same (Err Exists) (cond under (Err IntoItself) (beyond deep m to new))
by_paths deep same under m from to new e1 e2 =
    ap (λ b. cond b (Err Exists) (cond (begins from to) (Err IntoItself) (beyond deep m to new))) e1 ∙ ap (λ b. cond same (Err Exists) (cond b (Err IntoItself) (beyond deep m to new))) e2

pub returns-in_default : goal.returns-in_default
returns-in_default c = (other c.args.from.now c.args.target.now c.in_default.ensures, c.in_default.ensures)

pub returns-then-is_empty : goal.returns-then-is_empty
returns-then-is_empty c deep m new =
    let is = c.in-Some.ensures ∙ ap (λ r. c.args.from.now ++ r) (no_rest c.in-Some.below.now c.is_empty.result c.is_empty.ensures c.if-is_empty.true) ∙ append-nil c.args.from.now in
    by_paths deep true _ m c.args.from.now c.args.target.now new (ap (λ t. same_path t c.args.from.now) is ∙ same_itself c.args.from.now) refl

pub returns : goal.returns
returns c deep m new =
    let under : begins c.args.from.now c.args.target.now ≡ true = ap (begins c.args.from.now) c.in-Some.ensures ∙ begins_append c.args.from.now c.in-Some.below.now in
    by_paths deep false true m c.args.from.now c.args.target.now new (longer c.args.from.now c.args.target.now c.in-Some.below.now c.in-Some.ensures (some_rest c.in-Some.below.now c.is_empty.result c.is_empty.ensures c.if-is_empty.false)) under
