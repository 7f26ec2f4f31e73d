use Rattle.std.proofs.Common.{ap, map, sym, ◌∙◌}
use Rattle.std.specs.Ordering.{nat_cmp}
use Rattle.gs_master_record.specs.Plain.{plain_inverse}
use Rattle.gs_base_table.specs.Slots.{live}
use Rattle.gs_master_state.specs.inner.Held.{HeldView}
use Rattle.gs_master_state.specs.inner.Recorded.{durable_of}
use Rattle.gs_master_state.proofs.Before.{epoch_back, same_rooms}
use Rattle.gs_master_state.proofs.recorded.Recorded.enter_epoch.Goals as goal

pub returns-clause-back : goal.returns-clause-back
returns-clause-back c =
    let given = c.exchange_kept-kept.new in record {
      value = epoch_back (durable_of c.args.self.now) (durable_of c.end_epoch.new.self) c.args.end c.args.phase c.exchange_kept-kept.result (map plain_inverse given.inverses.items) (live nat_cmp given.prepared) c.end_epoch.ensures.value
          (ap (λ v. map plain_inverse v.items) c.exchange_kept-kept.ensures.inverses) (ap (live nat_cmp) c.exchange_kept-kept.ensures.prepared);
      leases = ap (live nat_cmp) (sym c.end_epoch.ensures.leases);
      room = tt;
      keeps = record { leases = same_rooms _ _ c.end_epoch.ensures.leases; replies = same_rooms _ _ c.end_epoch.ensures.replies; prepared = same_rooms _ _ (c.exchange_kept-kept.ensures.prepared ∙ c.end_epoch.ensures.prepared); places = ap (λ (v : HeldView). v.places) c.end_epoch.ensures.names };
    }
