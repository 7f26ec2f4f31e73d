use Rattle.std.proofs.Common.{refl, sym, ap, subst, ◌∙◌}
use Rattle.std.specs.Cmp.{nat_cmp_total}
use Rattle.std.specs.FinMap.{nat_cmp-IsAntisymmetric}
use Rattle.gs_master_state.specs.inner.Memories.{volatile_of}
use Rattle.std.specs.FinMap as fin
use Rattle.gs_base.specs.Members.{with_member}
use Rattle.gs_master_state.specs.inner.Tracked.{HaveRoomBack, NowAndBefore}
use Rattle.gs_master_spec.specs.Volatile.{servers_or_none}
use Rattle.gs_master_state.specs.declared.tracked.Slot.TheVariants as slots
use Rattle.gs_master_state.proofs.Tracking.{put_now, put_before, rooms_stay, rooms_pushed}
use Rattle.gs_master_state.proofs.tracked.Tracked.restore_one.Goals as goal

pub invariant_of-self : goal.invariant_of-self
invariant_of-self c = rooms_stay c.self.inside.memory _ c.self.inside.touched.items (record { moving = record { keeps = λ key room. room }; restored = c.reserve.ensures.keeps; replies = record { keeps = λ key room. room } }) c.self.invariant

pub invariant_of-self-in_err-reserve-2 : goal.invariant_of-self-in_err-reserve-2
invariant_of-self-in_err-reserve-2 c =
    subst (HaveRoomBack _) (sym c.reserve-2.ensures.items) (rooms_stay c.self.inside.memory _ c.self.inside.touched.items (record { moving = record { keeps = λ key room. room }; restored = c.reserve.ensures.keeps; replies = record { keeps = λ key room. room } }) c.self.invariant)

pub invariant_of-self-2 : goal.invariant_of-self-2
invariant_of-self-2 c =
    rooms_pushed c.self.inside.memory (record (c.self.inside.memory) { restored = c.replace-restored.new.self }) (record (c.self.inside.memory) { restored = c.replace-restored.new.self }) c.self.inside.touched.items _ _ (slots.Restored c.args.chunk c.replace-restored.result) (record { moving = record { keeps = λ key room. room }; restored = record { keeps = λ key room. c.replace-restored.ensures.keeps.keeps key (c.reserve.ensures.keeps.keeps key room) }; replies = record { keeps = λ key room. room } }) (record { moving = record { keeps = λ key room. room }; restored = record { keeps = λ key room. room }; replies = record { keeps = λ key room. room } }) c.self.invariant
    (c.replace-restored.ensures.keeps.keeps c.args.chunk c.in_ok-reserve.ensures.ok) c.reserve-2.ensures.items c.push_reserved.ensures.items

pub returns-clause-now : goal.returns-clause-now
returns-clause-now c =
    put_now nat_cmp_total nat_cmp-IsAntisymmetric (λ v. v.restored) (λ v l. record v { restored = l }) (volatile_of c.self.inside.memory) c.args.self.now _ _ c.args.chunk c.insert.new.self _ (ap (λ (x : NowAndBefore). x.now) c.self.view_is)
    c.reserve.ensures.same c.replace-restored.ensures.put refl
    ∙ ap (λ y. record (c.args.self.now.now) { restored = fin.insert c.args.self.now.now.restored c.args.chunk y })
    (c.insert.ensures ∙ ap (λ s. with_member s c.args.server) (c.restored_on-servers.ensures ∙ ap (λ l. servers_or_none (fin.get l c.args.chunk)) (c.reserve.ensures.same ∙ ap (λ (x : NowAndBefore). x.now.restored) c.self.view_is)))

pub returns-clause-before : goal.returns-clause-before
returns-clause-before c =
    put_before nat_cmp_total nat_cmp-IsAntisymmetric (λ v. v.restored) (λ v l. record v { restored = l }) c.self.inside.calls (volatile_of c.self.inside.memory) _ c.args.self.now c.self.inside.touched.items _ _ (slots.Restored c.args.chunk _) _ _ c.args.chunk c.insert.new.self _
    (λ l. refl) refl (ap (λ (x : NowAndBefore). x.before) c.self.view_is) c.reserve-2.ensures.items c.push_reserved.ensures.items c.reserve.ensures.same c.replace-restored.ensures.put refl c.replace-restored.ensures.value
