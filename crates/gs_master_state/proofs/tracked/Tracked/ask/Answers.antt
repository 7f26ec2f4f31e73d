use Rattle.std.proofs.Common.{refl, sym, ap, subst}
use Rattle.std.specs.Cmp.{nat_cmp_total}
use Rattle.std.specs.FinMap.{nat_cmp-IsAntisymmetric}
use Rattle.gs_master_state.specs.inner.Memories.{volatile_of}
use Rattle.gs_master_state.specs.inner.Tracked.{HaveRoomBack, NowAndBefore}
use Rattle.gs_master_state.specs.declared.tracked.Slot.TheVariants as slots
use Rattle.gs_master_state.proofs.Tracking.{put_now, put_before, rooms_stay, rooms_pushed}
use Rattle.gs_master_state.proofs.tracked.Tracked.ask.Goals as goal

pub invariant_of-self-in_err-reserve : goal.invariant_of-self-in_err-reserve
invariant_of-self-in_err-reserve c = rooms_stay c.self.inside.memory _ c.self.inside.touched.items (record { moving = c.reserve.ensures.keeps; restored = record { keeps = λ key room. room }; replies = record { keeps = λ key room. room } }) c.self.invariant

pub invariant_of-self-in_err-reserve-2 : goal.invariant_of-self-in_err-reserve-2
invariant_of-self-in_err-reserve-2 c =
    subst (HaveRoomBack _) (sym c.reserve-2.ensures.items) (rooms_stay c.self.inside.memory _ c.self.inside.touched.items (record { moving = c.reserve.ensures.keeps; restored = record { keeps = λ key room. room }; replies = record { keeps = λ key room. room } }) c.self.invariant)

pub invariant_of-self-2 : goal.invariant_of-self-2
invariant_of-self-2 c =
    rooms_pushed c.self.inside.memory (record (c.self.inside.memory) { moving = c.replace-asked.new.self }) (record (c.self.inside.memory) { moving = c.replace-asked.new.self }) c.self.inside.touched.items _ _ (slots.Asked c.args.chunk c.replace-asked.result) (record { moving = record { keeps = λ key room. c.replace-asked.ensures.keeps.keeps key (c.reserve.ensures.keeps.keeps key room) }; restored = record { keeps = λ key room. room }; replies = record { keeps = λ key room. room } }) (record { moving = record { keeps = λ key room. room }; restored = record { keeps = λ key room. room }; replies = record { keeps = λ key room. room } }) c.self.invariant
    (c.replace-asked.ensures.keeps.keeps c.args.chunk c.in_ok-reserve.ensures.ok) c.reserve-2.ensures.items c.push_reserved.ensures.items

pub returns-clause-now : goal.returns-clause-now
returns-clause-now c =
    put_now nat_cmp_total nat_cmp-IsAntisymmetric (λ v. v.moving) (λ v l. record v { moving = l }) (volatile_of c.self.inside.memory) c.args.self.now _ _ c.args.chunk c.args.asking _ (ap (λ (x : NowAndBefore). x.now) c.self.view_is)
    c.reserve.ensures.same c.replace-asked.ensures.put refl

pub returns-clause-before : goal.returns-clause-before
returns-clause-before c =
    put_before nat_cmp_total nat_cmp-IsAntisymmetric (λ v. v.moving) (λ v l. record v { moving = l }) c.self.inside.calls (volatile_of c.self.inside.memory) _ c.args.self.now c.self.inside.touched.items _ _ (slots.Asked c.args.chunk _) _ _ c.args.chunk c.args.asking _
    (λ l. refl) refl (ap (λ (x : NowAndBefore). x.before) c.self.view_is) c.reserve-2.ensures.items c.push_reserved.ensures.items c.reserve.ensures.same c.replace-asked.ensures.put refl c.replace-asked.ensures.value
