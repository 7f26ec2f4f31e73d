use Rattle.std.proofs.Common.{◌≡◌, ◌==◌, false, ◌&&◌, ap, sym, ◌∙◌, arith}
use Rattle.std.proofs.lemmas.Bool.Decides.{nat_tests}
use Rattle.std.specs.FinMap as fin
use Rattle.std.specs.List.{list_all}
use Rattle.gs_refs.proofs.CountLemmas.{entries-from_entries}
use Rattle.gs_refs.proofs.refs.Refs.is_zero.Goals as goal

pub returns-then-count-ne0 : goal.returns-then-count-ne0
returns-then-count-ne0 c =
    let test : (c.in-Some.count.now == 0) ≡ false = (let differ = c.if-count-ne0.true in grind (arith, nat_tests)) in
    ap (λ b. b && list_all (λ e. e.1 == 0) c.next.new.self) (sym test) ∙ ap (list_all (λ e. e.1 == 0)) (sym c.in-Some.ensures.steps) ∙ c.loop-count.invariant
    ∙ ap (list_all (λ e. e.1 == 0)) (c.into_iter-count-iterator.ensures.into_iter_gives ∙ c.iter-count-items.ensures.rest
    ∙ sym (entries-from_entries c.self.inside.counts.entries c.iter-count-items.ensures.ordered) ∙ ap (λ m. fin.entries m) c.self.view_is)

pub returns : goal.returns
returns c =
    ap (list_all (λ e. e.1 == 0)) (sym c.in-None.ensures.steps.0) ∙ c.loop-count.invariant
    ∙ ap (list_all (λ e. e.1 == 0)) (c.into_iter-count-iterator.ensures.into_iter_gives ∙ c.iter-count-items.ensures.rest
    ∙ sym (entries-from_entries c.self.inside.counts.entries c.iter-count-items.ensures.ordered) ∙ ap (λ m. fin.entries m) c.self.view_is)
