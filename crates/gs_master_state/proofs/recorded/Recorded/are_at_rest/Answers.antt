use Rattle.std.proofs.Common.{rules, true, false, ap, sym, ◌∙◌}
use Rattle.gs_master_spec.specs.Durable.{is_listed}
use Rattle.gs_master_state.specs.inner.Recorded.{durable_of, rests, settled_by}
use Rattle.gs_master_state.proofs.Recording.{all_rest_in, at_rest_is, ends_there}
use Rattle.gs_master_state.proofs.recorded.Recorded.are_at_rest.Goals as goal

pub returns-then-not-is_at_rest : goal.returns-then-not-is_at_rest
returns-then-not-is_at_rest c =
    at_rest_is c.args.self.now _ c.iter-chunk-items.ensures.entries c.iter-chunk-items.ensures.ordered false
    (ap (all_rest_in c.args.self.now) (sym c.into_iter-chunk-iterator.ensures.into_iter_gives) ∙ sym c.loop-chunk.invariant ∙ ap (all_rest_in c.args.self.now) c.in-Some.ensures.steps
    ∙ ends_there (is_listed (durable_of c.args.self.now) c.in-Some.chunk) (rests (settled_by c.in-Some.lease.now)) (all_rest_in c.args.self.now c.next.new.self) (search rules))

pub returns : goal.returns
returns c =
    at_rest_is c.args.self.now _ c.iter-chunk-items.ensures.entries c.iter-chunk-items.ensures.ordered true
    (ap (all_rest_in c.args.self.now) (sym c.into_iter-chunk-iterator.ensures.into_iter_gives) ∙ sym c.loop-chunk.invariant ∙ ap (all_rest_in c.args.self.now) c.in-None.ensures.steps.0)
