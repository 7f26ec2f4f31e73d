use Rattle.std.proofs.Common.{refl, sym, ap, subst}
use Rattle.gs_base_table.specs.Keys.{client_exact}
use Rattle.gs_master_state.specs.inner.Memories.{volatile_of}
use Rattle.gs_master_state.specs.inner.Tracked.{HaveRoomBack, NowAndBefore}
use Rattle.gs_master_state.specs.declared.tracked.Slot.TheVariants as slots
use Rattle.gs_master_state.proofs.Tracking.{client_total, put_now, put_before, rooms_stay, rooms_pushed}
use Rattle.gs_master_state.proofs.tracked.Tracked.keep.Goals as goal

pub invariant_of-self : goal.invariant_of-self
invariant_of-self c = rooms_stay c.self.inside.memory _ c.self.inside.touched.items (record { moving = record { keeps = λ key room. room }; restored = record { keeps = λ key room. room }; replies = c.reserve.ensures.keeps }) c.self.invariant

pub invariant_of-self-in_err-reserve-2 : goal.invariant_of-self-in_err-reserve-2
invariant_of-self-in_err-reserve-2 c =
    subst (HaveRoomBack _) (sym c.reserve-2.ensures.items) (rooms_stay c.self.inside.memory _ c.self.inside.touched.items (record { moving = record { keeps = λ key room. room }; restored = record { keeps = λ key room. room }; replies = c.reserve.ensures.keeps }) c.self.invariant)

pub invariant_of-self-2 : goal.invariant_of-self-2
invariant_of-self-2 c =
    rooms_pushed c.self.inside.memory (record (c.self.inside.memory) { replies = c.replace-replied.new.self }) (record (c.self.inside.memory) { replies = c.replace-replied.new.self }) c.self.inside.touched.items _ _ (slots.Replied c.args.client c.replace-replied.result) (record { moving = record { keeps = λ key room. room }; restored = record { keeps = λ key room. room }; replies = record { keeps = λ key room. c.replace-replied.ensures.keeps.keeps key (c.reserve.ensures.keeps.keeps key room) } }) (record { moving = record { keeps = λ key room. room }; restored = record { keeps = λ key room. room }; replies = record { keeps = λ key room. room } }) c.self.invariant
    (c.replace-replied.ensures.keeps.keeps c.args.client c.in_ok-reserve.ensures.ok) c.reserve-2.ensures.items c.push_reserved.ensures.items

pub returns-clause-now : goal.returns-clause-now
returns-clause-now c =
    put_now client_total client_exact (λ v. v.replies) (λ v l. record v { replies = l }) (volatile_of c.self.inside.memory) c.args.self.now _ _ c.args.client c.args.reply _ (ap (λ (x : NowAndBefore). x.now) c.self.view_is)
    c.reserve.ensures.same c.replace-replied.ensures.put refl

pub returns-clause-before : goal.returns-clause-before
returns-clause-before c =
    put_before client_total client_exact (λ v. v.replies) (λ v l. record v { replies = l }) c.self.inside.calls (volatile_of c.self.inside.memory) _ c.args.self.now c.self.inside.touched.items _ _ (slots.Replied c.args.client _) _ _ c.args.client c.args.reply _
    (λ l. refl) refl (ap (λ (x : NowAndBefore). x.before) c.self.view_is) c.reserve-2.ensures.items c.push_reserved.ensures.items c.reserve.ensures.same c.replace-replied.ensures.put refl c.replace-replied.ensures.value
