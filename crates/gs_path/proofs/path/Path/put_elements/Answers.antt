use Rattle.std.proofs.Common.{rules, arith, ◌≡◌, ◌+◌, ◌++◌, ◌∷◌, [], take, sym, subst}
use Rattle.std.proofs.lemmas.Grind.{common_steps}
use Rattle.std.proofs.lemmas.Str.{IsUtf8-append}
use Rattle.std.specs.Str.{IsUtf8}
use Rattle.gs_path.specs.Path.{behind_slashes}
use Rattle.gs_path.proofs.path.Path.put_elements.Goals as goal

pub loop-name-preserved : goal.loop-name-preserved
loop-name-preserved c =
    let names = c.deref-name-items.result.now in
    let i = c.loop-name.name-index in
    let text = c.as_str-text.result.now in
    let step : behind_slashes (take (i + 1) names) ≡ behind_slashes (take i names) ++ 47 ∷ text = grind (arith, common_steps) in
    (grind (arith, common_steps), subst IsUtf8 (sym step) (IsUtf8-append (behind_slashes (take i names)) (47 ∷ text) c.loop-name.invariant.1 (IsUtf8-append (47 ∷ []) text (search rules) c.as_str-text.utf8)))
