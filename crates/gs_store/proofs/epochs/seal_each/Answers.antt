use Rattle.std.proofs.Common.{◌≡◌, ◌-◌, ◌<◌, suc, map, take, length, get_or, slice_set, arith, ap, subst, ◌∙◌}
use Rattle.std.proofs.lemmas.List.{length-append}
use Rattle.gs_store.specs.Learning.{prepared, held_in}
use Rattle.gs_store.proofs.Loops.{next_left, last_off, left}
use Rattle.gs_store.proofs.epochs.seal_each.Goals as goal

pub loop-seal-preserved : goal.loop-seal-preserved
loop-seal-preserved c =
    let grows : length c.loop-seal.made.items ≡ suc (length c.pop.new.self.items) = ap length c.in-Some.ensures.items ∙ length-append c.pop.new.self.items _ ∙ omega arith in
    let at : c.len.result ≡ length c.pop.new.self.items = c.len.ensures ∙ c.pop.new.self.ok.0 in
    let below : length c.pop.new.self.items < length c.args.slots.now = (let fits = c.loop-seal.invariant.1 in omega arith) in
    let one_fewer : c.loop-seal.made.len - 1 ≡ length c.pop.new.self.items = (let old = c.loop-seal.made.ok.0 in omega arith) in (
      last_off (λ t. held_in t.live) (length c.pop.new.self.items) c.args.slots.now c.loop-seal.made.items c.pop.new.self.items
          (subst (λ n. c.loop-seal.made.items ≡ map (λ t. held_in t.live) (take n c.args.slots.now)) grows c.loop-seal.invariant.0) below
          (c.in-Some.ensures.rest ∙ ap (λ n. take n c.loop-seal.made.items) one_fewer),
      omega arith,
      ap (λ n. slice_set c.loop-seal.slots n c.take_prepared.new.self) at
          ∙ next_left prepared (length c.pop.new.self.items) c.args.slots.now c.loop-seal.slots c.index-slots-len.result c.take_prepared.new.self
          (subst (λ n. c.loop-seal.slots ≡ left prepared n c.args.slots.now) grows c.loop-seal.invariant.2) below
          (subst (λ n. c.take_prepared.new.self ≡ prepared (get_or c.loop-seal.slots n c.index-slots-len.result)) at c.take_prepared.ensures),
    )
