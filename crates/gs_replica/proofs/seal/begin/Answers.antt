use Rattle.std.proofs.Common.{◌≡◌, false, length, replicate, ap, sym, subst, ◌∙◌, arith}
use Rattle.gs_block.specs.Stored.{Stored}
use Rattle.gs_block.specs.Images.{AreFirst, undone}
use Rattle.gs_replica.specs.Held.{Held}
use Rattle.gs_replica.specs.First.{done_before}
use Rattle.gs_replica.specs.Inside.{HasSealed}
use Rattle.gs_replica.proofs.Firsts.{nothing_over, has_nothing}
use Rattle.gs_replica.proofs.seal.begin.Goals as goal

pub returns : goal.returns
returns c =
    let live : Held = c.args.live.now in
    let count = c.count.ensures in
    record {
      seen = λ k. record {
        undone = (subst (λ (s : Stored). undone c.in_ok-seal.field-0 s ≡ s) c.blocks-2.ensures c.in_ok-seal.ensures.undone) k;
        count = c.count.ensures k;
        done = (ap (λ f. done_before f live.done) c.seal-2.ensures ∙ nothing_over live.done) k;
        stamp = c.promised.ensures k;
        touched = (c.in_ok-seal.ensures.touched ∙ ap (λ (s : Stored). replicate (length s.digests) false) c.blocks-2.ensures) k;
        first = c.seal-2.ensures k;
      };
      belongs = record {
        first = subst (λ (s : Stored). AreFirst c.in_ok-seal.field-0 s) c.blocks-2.ensures c.in_ok-seal.ensures.first;
        later = omega arith;
        has = subst (λ f. HasSealed f live.done) (sym c.seal-2.ensures) (has_nothing live.done);
      };
    }
