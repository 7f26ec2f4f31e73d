use Rattle.std.proofs.Common.{ap, sym, subst, ◌∙◌}
use Rattle.gs_store.specs.inner.Placed.{IsPlaced}
use Rattle.gs_store.proofs.Places.{none_placed, none_stand}
use Rattle.gs_store.proofs.Changes.{seen}
use Rattle.gs_store.proofs.store.Store.at_epoch.Goals as goal

pub invariant_of-result : goal.invariant_of-result
invariant_of-result c = subst (λ p. IsPlaced p c.new-2.result.items) (sym c.new.ensures) (none_placed c.new-2.result.items)

pub returns : goal.returns
returns c =
    ap (λ p. seen c.args.sizes.block c.args.sizes.chunk c.args.epoch p c.new-2.result.items c.in_ok-new.field-0) c.new.ensures
    ∙ ap (λ m. record { block = c.args.sizes.block; chunk = c.args.sizes.chunk; epoch = c.args.epoch; slots = m; buffer = c.in_ok-new.field-0 }) (none_stand c.new-2.result.items)
    ∙ ap (λ b. record { block = c.args.sizes.block; chunk = c.args.sizes.chunk; epoch = c.args.epoch; slots = _; buffer = b }) c.in_ok-new.ensures
