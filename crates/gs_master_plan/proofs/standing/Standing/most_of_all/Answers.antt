use Rattle.std.proofs.Common.{◌∙◌, ℕ, ◌++◌, ◌∷◌, [], refl, ap, sym, append_assoc, append-nil}
use Rattle.std.specs.Prelude.{Some, filter_map}
use Rattle.gs_lease.specs.declared.lease.Lease.{Lease}
use Rattle.gs_place.specs.Needs.{most_needed_of}
use Rattle.gs_master_plan.specs.inner.Planning.{state_of}
use Rattle.gs_master_state.specs.inner.Surveying.{need_by, need_where}
use Rattle.gs_master_state.proofs.Surveys.{found_more, need_at, needs_in}
use Rattle.gs_master_plan.proofs.standing.Standing.most_of_all.Goals as goal

pub loop-chunk-preserved-in-Some-known_view : goal.loop-chunk-preserved-in-Some-known_view
loop-chunk-preserved-in-Some-known_view c =
    let s = state_of c.args.self.now in
    let found = filter_map (need_where s) in
    let needs = c.loop-chunk.invariant.0 in
    let need = c.need_of.result in
    let e : ℕ × Lease = (c.in-Some.chunk, c.in-Some.lease.now) in
    let needed = need_at s e c.in-Some-known_view.view c.in-Some-known_view.ensures ∙ ap (λ n. Some (need_by s.durable c.in-Some.chunk n)) (sym c.len-members.ensures) ∙ ap Some (sym c.need_of.ensures) in (
      needs ++ need ∷ [],
      (
        c.offer.ensures c.args.config.now.replicas needs c.loop-chunk.invariant.1.0,
        append_assoc needs (need ∷ []) (found c.next.new.self) ∙ ap (λ l. needs ++ l) (sym (found_more (need_where s) e c.next.new.self need needed)) ∙ ap (λ l. needs ++ found l) (sym c.in-Some.ensures.steps)
            ∙ c.loop-chunk.invariant.1.1,
      ),
    )

pub returns : goal.returns
returns c =
    let s = state_of c.args.self.now in
    let found = filter_map (need_where s) in
    let needs = c.loop-chunk.invariant.0 in
    c.handle.ensures.function c.args.config.now.replicas needs c.loop-chunk.invariant.1.0
    ∙ ap (most_needed_of c.args.config.now.replicas)
    (sym (append-nil needs) ∙ ap (λ l. needs ++ found l) (sym c.in-None.ensures.steps.0) ∙ c.loop-chunk.invariant.1.1 ∙ ap found c.into_iter-chunk-iterator.ensures.into_iter_gives
    ∙ needs_in s c.args.self.now.recorded.now c.iter-chunk-items.result refl (record { all = c.iter-chunk-items.ensures.entries; rise = c.iter-chunk-items.ensures.ordered }))
