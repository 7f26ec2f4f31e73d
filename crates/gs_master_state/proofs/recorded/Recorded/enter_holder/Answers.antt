use Rattle.std.proofs.Common.{◌≡◌, refl, rules, subst}
use Rattle.std.specs.Cmp.{nat_cmp_total}
use Rattle.std.specs.FinMap as fin
use Rattle.std.specs.Ordering.{nat_cmp}
use Rattle.gs_master_record.specs.declared.checkpoint.Phase.TheVariants.{Upgrade}
use Rattle.gs_master_state.specs.inner.Recorded.{RoomToKeep, durable_of}
use Rattle.gs_master_state.proofs.Before.{exchanged, room_at}
use Rattle.gs_master_state.proofs.recorded.Recorded.enter_holder.Goals as goal

pub returns-clause-back : goal.returns-clause-back
returns-clause-back c =
    let stands : c.args.self.now.phase ≡ Upgrade = search rules in
    let room = subst (λ phase. RoomToKeep phase c.args.self.now.prepared c.args.chunk) stands c.requires in
    record {
      value = λ i. record (durable_of c.args.self.now) { prepared = exchanged nat_cmp_total fin.nat_cmp-IsAntisymmetric _ _ c.args.chunk _ _ c.exchange-before.ensures.value c.exchange-before.ensures.put i };
      leases = refl;
      room = room_at nat_cmp _ c.args.chunk c.exchange-before.result (c.exchange-before.ensures.keeps.keeps c.args.chunk room);
      keeps = record { leases = record { keeps = λ key has. has }; replies = record { keeps = λ key has. has }; prepared = c.exchange-before.ensures.keeps; places = refl };
    }
