use Rattle.std.proofs.Common.{refl, rules, ap, sym, ◌∙◌}
use Rattle.std.specs.Cmp.{nat_cmp_total}
use Rattle.std.specs.FinMap as fin
use Rattle.std.specs.Ordering.{nat_cmp}
use Rattle.gs_base_table.specs.Slots.{live}
use Rattle.gs_master_state.specs.inner.Held.{HeldView}
use Rattle.gs_master_state.specs.inner.Recorded.{chunks_of, durable_of}
use Rattle.gs_master_state.proofs.Recording.{chunks_remove, with_others}
use Rattle.gs_master_state.proofs.Before.{chunk_undone, lease_at_stays, lease_where_stood, room_at_stays, room_where_stood, same_replies_room, same_room, taken_out}
use Rattle.gs_master_state.proofs.recorded.Recorded.enter_forgotten.Goals as goal

pub returns-clause-value : goal.returns-clause-value
returns-clause-value c =
    with_others _ _ _ _ c.keep_prepared.ensures.value
    (ap chunks_of (c.take-lease.ensures.taken ∙ ap (λ slots. fin.remove (live nat_cmp slots) c.args.chunk) c.keep_prepared.ensures.leases) ∙ chunks_remove (live nat_cmp c.args.self.now.leases) c.args.chunk)

pub returns-clause-back : goal.returns-clause-back
returns-clause-back c =
    chunk_undone (durable_of c.args.self.now) (durable_of c.keep_prepared.new.self) (live nat_cmp c.args.self.now.leases) (live nat_cmp c.take-lease.new.self) c.args.chunk
    c.take-lease.result c.copied-prepared.result c.keep_prepared.ensures.value refl
    (ap (live nat_cmp) (sym c.keep_prepared.ensures.leases) ∙ taken_out nat_cmp_total fin.nat_cmp-IsAntisymmetric _ _ c.args.chunk _ c.take-lease.ensures.value c.take-lease.ensures.taken)
    (search rules)

pub returns-clause-leases : goal.returns-clause-leases
returns-clause-leases c =
    ap (live nat_cmp) (sym c.keep_prepared.ensures.leases) ∙ taken_out nat_cmp_total fin.nat_cmp-IsAntisymmetric _ _ c.args.chunk _ c.take-lease.ensures.value c.take-lease.ensures.taken

pub returns-clause-room : goal.returns-clause-room
returns-clause-room c = (
  lease_at_stays _ _ c.args.chunk c.take-lease.result (lease_where_stood c.keep_prepared.new.self.leases c.args.chunk c.take-lease.result c.take-lease.ensures.value c.take-lease.ensures.stood) c.take-lease.ensures.keeps,
  room_at_stays nat_cmp _ _ c.args.chunk c.copied-prepared.result (room_where_stood nat_cmp_total c.args.self.now.prepared c.args.chunk c.copied-prepared.result (search rules)) c.keep_prepared.ensures.room,
)

pub returns-clause-keeps : goal.returns-clause-keeps
returns-clause-keeps c = record {
  leases = same_room _ _ _ c.keep_prepared.ensures.leases c.take-lease.ensures.keeps;
  replies = same_replies_room _ _ c.keep_prepared.ensures.replies;
  prepared = c.keep_prepared.ensures.room;
  places = ap (λ (v : HeldView). v.places) c.keep_prepared.ensures.names;
}
