use Rattle.std.proofs.Common.{◌≡◌, subst}
use Rattle.std.specs.Prelude.{OnOk}
use Rattle.gs_block.specs.Images.{AreFirst, undone, touched, damage_before}
use Rattle.gs_replica.specs.declared.seal.Seal.{Seal}
use Rattle.gs_replica.specs.Held.{Held}
use Rattle.gs_replica.specs.Edits as edits
use Rattle.gs_replica.specs.Seals.{damage_seal}
use Rattle.gs_replica.specs.First.{done_before}
use Rattle.gs_replica.specs.View.{seen}
use Rattle.gs_replica.proofs.Sealing.{does_sealed}
use Rattle.gs_replica.proofs.seal.damage_sealed.Goals as goal

pub returns-clause-damage : goal.returns-clause-damage
returns-clause-damage c =
    let old : Held = c.args.live.now in
    let new : Held = c.damage.new.self in
    let seal : Seal = c.args.seal.now in
    does_sealed (Unit {0}) c.damage.result (edits.damage c.args.block old) old new (λ h. seen h seal) (damage_seal c.args.block (seen old seal)) c.damage.ensures.damage
    (λ b ok gives k. record {
      undone = (subst (λ r. OnOk r ((undone seal.images new.chunk ≡ damage_before c.args.block (touched seal.images) (undone seal.images old.chunk)) × AreFirst seal.images new.chunk)) ok (c.damage.ensures.images seal.images c.requires.belongs.first)).0 k;
      count = seal.count;
      done = done_before seal.first (c.damage.ensures.done k);
      stamp = seal.stamp;
      touched = touched seal.images;
      first = seal.first;
    })
