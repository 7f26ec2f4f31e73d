use Rattle.std.proofs.Common.{◌≡◌, map, refl, sym, ap, subst, ◌∙◌}
use Rattle.gs_store.specs.Stores.{Store, gone_on}
use Rattle.gs_store.specs.Learning.{prepared, finalized, rolled_back}
use Rattle.gs_store.proofs.Learned.{goes_on, is_next}
use Rattle.gs_store.proofs.Loops.{refilled}
use Rattle.gs_store.proofs.store.Store.learn.Goals as goal
use Rattle.gs_store.proofs.store.Store.learn.Goals.{in-Prepare+in_ok-made-in-Prepare, in-Finalize, in-Rollback}

pub returns-clause-edit : goal.returns-clause-edit
returns-clause-edit c =
    let next = is_next c.args.epoch c.args.self.now.epoch c.self.inside.epoch c.in_ok-check_near.ensures.ok (ap (λ (x : Store). x.epoch) c.self.view_is) c.if-epoch-self.false in
    elim c.match-end.branch [
      | in-Prepare+in_ok-made-in-Prepare w ↦ rw w.self-inside-is (goes_on _ _ _ _ c.self.inside.slots.items _ c.args.self.now c.self.view_is c.self.invariant c.args.epoch c.args.end _ c.if-epoch-self.false next
          (refilled prepared c.self.inside.slots.items w.seal_each.new.slots _ c.self.inside.slots.ok.0 (w.seal_each.ensures ∙ ap (map prepared) w.deref_mut.ensures.value) ∙ subst (λ d. map prepared c.self.inside.slots.items ≡ map (gone_on d c.args.epoch) c.self.inside.slots.items) (sym w.in-Prepare.is) refl))
      | in-Finalize w ↦ rw w.self-inside-is (goes_on _ _ _ _ c.self.inside.slots.items _ c.args.self.now c.self.view_is c.self.invariant c.args.epoch c.args.end _ c.if-epoch-self.false next
          (refilled finalized c.self.inside.slots.items w.finalize_each.new.slots _ c.self.inside.slots.ok.0 (w.finalize_each.ensures ∙ ap (map finalized) w.deref_mut-in-Finalize.ensures.value) ∙ subst (λ d. map finalized c.self.inside.slots.items ≡ map (gone_on d c.args.epoch) c.self.inside.slots.items) (sym w.in-Finalize.is) refl))
      | in-Rollback w ↦ rw w.self-inside-is (goes_on _ _ _ _ c.self.inside.slots.items _ c.args.self.now c.self.view_is c.self.invariant c.args.epoch c.args.end _ c.if-epoch-self.false next
          (refilled (rolled_back c.args.epoch) c.self.inside.slots.items w.roll_back_each.new.slots _ c.self.inside.slots.ok.0 (w.roll_back_each.ensures ∙ ap (map (rolled_back c.args.epoch)) w.deref_mut-in-Rollback.ensures.value) ∙ subst (λ d. map (rolled_back c.args.epoch) c.self.inside.slots.items ≡ map (gone_on d c.args.epoch) c.self.inside.slots.items) (sym w.in-Rollback.is) refl))
    ]
