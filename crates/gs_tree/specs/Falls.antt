-- Each child has fewer rows than its parent.
use Rattle.std.specs.Prelude.{ℕ, ◌+◌, ◌≤◌, List, [], ◌∷◌, length, max, map}
use Rattle.std.proofs.Common.{arith, length-append, refl, ◌≡◌}
use denote.Param.Weighed.{most}
use Rattle.gs_tree.specs.declared.node.Kind.{Kind}
use Rattle.gs_tree.specs.declared.node.Kind.TheVariants as kinds
use Rattle.gs_tree.specs.declared.node.Node.TheDeep.{deep-Kind}
use Rattle.gs_tree.specs.Find.{Rows}
use Rattle.gs_tree.specs.Rows.{under, joined, rows_of}

pub length-under : (n : List ℕ) (rs : Rows ℕ) → length (under n rs) ≡ length rs
length-under n [] = refl
length-under n (r ∷ rs) = grind (arith, length-under n rs)

pub most_le-length-joined : (es : List (List ℕ × Rows ℕ)) → most (λ k. length k + 1) (map (λ e. e.1) es) ≤ length (joined es) + 1
most_le-length-joined [] = omega arith
most_le-length-joined (e ∷ es) =
    omega (arith, most_le-length-joined es, length-append (under e.0 e.1) (joined es), length-under e.0 e.1)

pub deep_le-length-rows : (k : Kind) → max (deep-Kind k) 0 ≤ length (rows_of k)
deep_le-length-rows (kinds.File hs) = omega arith
deep_le-length-rows (kinds.Dir children) = omega (arith, most_le-length-joined children.entries)
