use Rattle.std.proofs.Common.{◌≡◌, None, refl, rules, ap, sym, subst, true, ◌∙◌}
use Rattle.std.specs.Cmp.{nat_cmp_total}
use Rattle.std.specs.FinMap as fin
use Rattle.std.specs.Ordering.{nat_cmp}
use Rattle.gs_base_table.specs.Slots.{live, HasRoom}
use Rattle.gs_lease_table.specs.Settlings.{tells_settled}
use Rattle.gs_master_state.specs.inner.Held.{HeldView}
use Rattle.gs_master_state.specs.inner.Recorded.{durable_of}
use Rattle.gs_master_state.proofs.Recording.{settled_gives}
use Rattle.gs_master_state.proofs.Before.{chunk_undone, exchanged, lease_at, restored_tells, room_at_stays, room_where_stood, same_replies_room, same_room}
use Rattle.gs_master_state.proofs.recorded.Recorded.enter_view.Goals as goal

pub exchange-lease-requires-clause-settled : goal.exchange-lease-requires-clause-settled
exchange-lease-requires-clause-settled c = subst (λ lease. tells_settled lease ≡ true) (sym c.restore.ensures) (restored_tells c.args.settled.now.view None)

pub returns-clause-applied : goal.returns-clause-applied
returns-clause-applied c =
    settled_gives c.args.self.now c.keep_prepared.new.self c.exchange-lease.new.self c.args.settled.now _ (search rules) c.keep_prepared.ensures.value c.keep_prepared.ensures.leases c.exchange-lease.ensures.put c.restore.ensures

pub returns-clause-back : goal.returns-clause-back
returns-clause-back c =
    let leases = ap (live nat_cmp) (sym c.keep_prepared.ensures.leases) ∙ exchanged nat_cmp_total fin.nat_cmp-IsAntisymmetric _ _ c.args.settled.now.handle _ _ c.exchange-lease.ensures.value c.exchange-lease.ensures.put in
    record {
      value = chunk_undone (durable_of c.args.self.now) (durable_of c.keep_prepared.new.self) (live nat_cmp c.args.self.now.leases) (live nat_cmp c.exchange-lease.new.self) c.args.settled.now.handle
          c.exchange-lease.result c.copied-prepared.result c.keep_prepared.ensures.value refl leases (search rules);
      leases = leases;
      room = (
        lease_at _ c.args.settled.now.handle c.exchange-lease.result (c.exchange-lease.ensures.keeps.keeps c.args.settled.now.handle (subst (λ x. HasRoom nat_cmp x c.args.settled.now.handle) (sym c.keep_prepared.ensures.leases) c.requires.chunk)) c.exchange-lease.ensures.stood,
        room_at_stays nat_cmp _ _ c.args.settled.now.handle c.copied-prepared.result (room_where_stood nat_cmp_total c.args.self.now.prepared c.args.settled.now.handle c.copied-prepared.result (search rules)) c.keep_prepared.ensures.room,
      );
      keeps = record {
        leases = same_room _ _ _ c.keep_prepared.ensures.leases c.exchange-lease.ensures.keeps;
        replies = same_replies_room _ _ c.keep_prepared.ensures.replies;
        prepared = c.keep_prepared.ensures.room;
        places = ap (λ (v : HeldView). v.places) c.keep_prepared.ensures.names;
      };
    }

pub returns-clause-keeps : goal.returns-clause-keeps
returns-clause-keeps c = record {
  leases = same_room _ _ _ c.keep_prepared.ensures.leases c.exchange-lease.ensures.keeps;
  replies = same_replies_room _ _ c.keep_prepared.ensures.replies;
  prepared = c.keep_prepared.ensures.room;
  places = ap (λ (v : HeldView). v.places) c.keep_prepared.ensures.names;
}
