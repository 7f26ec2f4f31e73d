use Rattle.std.proofs.Common.{take, ◌+◌, ◌++◌, ◌∷◌, [], sym, ap, ◌∙◌}
use Rattle.std.proofs.lemmas.List.{append_assoc}
use Rattle.gs_master_spec.specs.Volatile.{above}
use Rattle.gs_master_spec.proofs.Above.{above_next, take_next}
use Rattle.gs_master_spec.proofs.pending.add_above.Goals as goal

pub loop-name-preserved : goal.loop-name-preserved
loop-name-preserved c = (
  c.in_ok-push-2.ensures.ok ∙ ap (λ p. p ++ c.in_ok-copy-2.field-0 ∷ []) c.loop-name.invariant.0 ∙ ap (λ n. take c.loop-name.name-index c.args.path.now ++ n ∷ []) c.in_ok-copy-2.ensures
      ∙ ap (λ xs. take c.loop-name.name-index xs ++ c.name-item.result ∷ []) (sym c.elements-name-items.ensures)
      ∙ sym (take_next c.elements-name-items.result.now c.loop-name.name-index c.name-item.result c.loop-name-test.true c.name-item.is) ∙ ap (take (c.loop-name.name-index + 1)) c.elements-name-items.ensures,
  c.in_ok-push.ensures.items ∙ ap (λ y. c.loop-name.paths.items ++ y ∷ []) c.in_ok-copy.ensures ∙ ap (λ ys. ys ++ c.loop-name.front ∷ []) c.loop-name.invariant.1
      ∙ append_assoc c.args.paths.now.items (above c.loop-name.front) (c.loop-name.front ∷ []) ∙ ap (λ zs. c.args.paths.now.items ++ zs) (sym (above_next c.loop-name.front c.in_ok-copy-2.field-0))
      ∙ ap (λ p. c.args.paths.now.items ++ above p) (sym c.in_ok-push-2.ensures.ok),
)
