use Rattle.std.proofs.Common.{◌≡◌, ◌∙◌, ◌&&◌, ap, false, subst, sym, true}
use Rattle.std.proofs.lemmas.Bool.{false≢true}
use Rattle.std.specs.Prelude.{None, Some, Ok, is_none}
use Rattle.gs_base.specs.declared.refusal.Refusal.TheVariants as refusals
use Rattle.gs_master_spec.specs.Handling.{due}
use Rattle.gs_master.specs.Finishing.{MakesDue}
use Rattle.gs_master.specs.Masters.{IsHeld, MasterOf, WhyNot}
use Rattle.gs_master_plan.specs.Renewable.{refusal_beforehand, renewal_refusal}
use Rattle.gs_master.specs.Ticking.{AnswersTick, lacking, pressed_all}
use Rattle.gs_master.specs.inner.Turns.{GoesBack, IsTurned, state_at}
use Rattle.gs_master.specs.declared.event.Event.{Event}
use Rattle.gs_master.proofs.Finished.{rests_again, state_again}
use Rattle.gs_master.proofs.Renewed.{answers_anew, held_anew, ticks_plain, ticks_anew, ticks_failed, ticks_short}
use Rattle.gs_master.proofs.Lacking.{goes_back, lacks}
use Rattle.gs_master.proofs.Turning.{answers, still_held}
use Rattle.gs_master.proofs.master.Master.tick.Goals as goal

pub returns-then-is_failed : goal.returns-then-is_failed
returns-then-is_failed g c =
    let d = g.D.Disk in
    let m = c.self.inside in
    let told = c.refused.result in
    let old : MasterOf g.row.D.Denot = record { config = m.config; state = state_at m.event; journal = m.journal } in
    subst (λ v. AnswersTick d.seen d.failures c.args.moment v (Ok told) v) c.self.view_is (ticks_failed d.seen d.failures c.args.moment old (sym c.is_failed.ensures ∙ c.if-is_failed.true) told c.refused.ensures.sent c.refused.ensures.said)

pub invariant_of-self : goal.invariant_of-self
invariant_of-self g c =
    let d = g.D.Disk in
    let m = c.self.inside in
    let rest = c.self.invariant.0 in
    let b = c.beginning-beginning in
    let e = c.start_over.new.self in
    let same = state_again b.result m.event c.tick.new.self e rest b.ensures c.tick.ensures.back c.start_over.ensures in
    (rests_again b.result m.event c.tick.new.self e rest b.ensures c.tick.ensures.back c.start_over.ensures, subst (λ s. IsHeld d.seen d.may_leave s m.journal) (sym same) c.self.invariant.1)

pub returns-in-Err : goal.returns-in-Err
returns-in-Err g c =
    let m = c.self.inside in
    let b = c.beginning-beginning in
    let e = c.start_over.new.self in
    let same = state_again b.result m.event c.tick.new.self e c.self.invariant.0 b.ensures c.tick.ensures.back c.start_over.ensures in
    subst (λ v. WhyNot (pressed_all v.state c.args.moment) v.state c.in-Err.refusal × (record { config = m.config; state = state_at e; journal = m.journal } ≡ v)) c.self.view_is
    (c.in-Err.ensures.steps, λ i. record { config = m.config; state = same i; journal = m.journal })

pub invariant_of-self-in-Ok-Some : goal.invariant_of-self-in-Ok-Some
invariant_of-self-in-Ok-Some g c =
    let d = g.D.Disk in
    let m = c.self.inside in
    let steps = pressed_all (state_at m.event) c.args.moment in
    let sound = sym c.is_failed.ensures ∙ c.if-is_failed.false in (
      c.finish_renewed.ensures.rest,
      held_anew d.seen d.may_leave d.failures m.config steps m.event m.journal c.self.invariant.1 sound c.finish_renewed.new.self c.finish_renewed.new.journal c.finish_renewed.result
          (c.finish_renewed.ensures.finishes m.event steps c.self.invariant.0 c.beginning-beginning.ensures c.tick.ensures.back c.in_default.ensures.steps),
    )

pub returns-in-Ok-Some : goal.returns-in-Ok-Some
returns-in-Ok-Some g c =
    let d = g.D.Disk in
    let m = c.self.inside in
    let e = c.finish_renewed.new.self in
    let k = c.finish_renewed.new.journal in
    let told = c.finish_renewed.result in
    let steps = pressed_all (state_at m.event) c.args.moment in
    let turned = c.in_default.ensures.steps in
    let sound = sym c.is_failed.ensures ∙ c.if-is_failed.false in
    let made = subst (λ r. MakesDue (state_at c.tick.new.self) m.journal r) (c.in-Ok-Some.is ∙ ap (λ o. Ok o) c.in-Ok-Some.field-0-is) c.due_renewal.ensures in
    let is_due = subst (λ s. due s ≡ true) turned.after made.0 in
    let none = subst (λ s. renewal_refusal s ≡ None) turned.after made.1.0.unrefused in
    let new : MasterOf g.row.D.Denot = record { config = m.config; state = state_at e; journal = k } in
    subst (λ v. AnswersTick d.seen d.failures c.args.moment v (Ok told) new) c.self.view_is
    (ticks_anew d.seen d.failures c.args.moment (record { config = m.config; state = state_at m.event; journal = m.journal }) sound is_due none told new
    (answers_anew d.seen d.may_leave d.failures m.config steps m.event m.journal c.self.invariant.1 sound e k told
    (c.finish_renewed.ensures.finishes m.event steps c.self.invariant.0 c.beginning-beginning.ensures c.tick.ensures.back turned)))

pub invariant_of-self-in-Ok-None : goal.invariant_of-self-in-Ok-None
invariant_of-self-in-Ok-None g c =
    let d = g.D.Disk in
    let m = c.self.inside in
    let steps = pressed_all (state_at m.event) c.args.moment in
    let sound = sym c.is_failed.ensures ∙ c.if-is_failed.false in (
      c.finish.ensures.rest,
      still_held d.seen d.may_leave d.failures m.config None steps m.event m.journal c.self.invariant.1 (λ failed. absurd (false≢true (sym sound ∙ failed))) c.finish.new.self c.finish.new.journal c.finish.result
          (c.finish.ensures.finishes m.event steps c.self.invariant.0 c.beginning-beginning.ensures c.tick.ensures.back c.in_default.ensures.steps),
    )

pub returns-in-Ok-None : goal.returns-in-Ok-None
returns-in-Ok-None g c =
    let d = g.D.Disk in
    let m = c.self.inside in
    let e = c.finish.new.self in
    let k = c.finish.new.journal in
    let steps = pressed_all (state_at m.event) c.args.moment in
    let turned = c.in_default.ensures.steps in
    let sound = sym c.is_failed.ensures ∙ c.if-is_failed.false in
    let made = subst (λ r. MakesDue (state_at c.tick.new.self) m.journal r) (c.in-Ok-None.is ∙ ap (λ o. Ok o) c.in-Ok-None.field-0-is) c.due_renewal.ensures in
    let none = subst (λ s. (due s && is_none (renewal_refusal s)) ≡ false) turned.after made in
    let new : MasterOf g.row.D.Denot = record { config = m.config; state = state_at e; journal = k } in
    subst (λ v. AnswersTick d.seen d.failures c.args.moment v c.finish.result new) c.self.view_is
    (ticks_plain d.seen d.failures c.args.moment (record { config = m.config; state = state_at m.event; journal = m.journal }) sound none c.finish.result new
    (answers d.seen d.may_leave d.failures m.config None steps m.event m.journal c.self.invariant.1 (λ failed. absurd (false≢true (sym sound ∙ failed))) e k c.finish.result
    (c.finish.ensures.finishes m.event steps c.self.invariant.0 c.beginning-beginning.ensures c.tick.ensures.back turned)))

pub finish-requires-in-Err-due_renewal : goal.finish-requires-in-Err-due_renewal
finish-requires-in-Err-due_renewal g c =
    let m = c.self.inside in
    let e = c.tick.new.self in
    record {
      begun = (
        m.event,
        c.self.invariant.0,
        c.beginning-beginning.ensures,
        subst (λ (x : Event). GoesBack m.event x) (sym c.lack.ensures) (goes_back (Some refusals.Memory) m.event e c.tick.ensures.back),
      );
    }

pub invariant_of-self-in-Err-due_renewal : goal.invariant_of-self-in-Err-due_renewal
invariant_of-self-in-Err-due_renewal g c =
    let d = g.D.Disk in
    let m = c.self.inside in
    let e = c.tick.new.self in
    let steps = lacking (pressed_all (state_at m.event) c.args.moment) in
    let sound = sym c.is_failed.ensures ∙ c.if-is_failed.false in
    let f = c.finish-in-Err-due_renewal in
    let back = subst (λ (x : Event). GoesBack m.event x) (sym c.lack.ensures) (goes_back (Some refusals.Memory) m.event e c.tick.ensures.back) in
    let turned = subst (λ (x : Event). IsTurned steps m.event x) (sym c.lack.ensures) (lacks (pressed_all (state_at m.event) c.args.moment) m.event e c.self.invariant.0.begun.said c.in_default.ensures.steps) in (
      f.ensures.rest,
      still_held d.seen d.may_leave d.failures m.config None steps m.event m.journal c.self.invariant.1 (λ failed. absurd (false≢true (sym sound ∙ failed))) f.new.self f.new.journal f.result
          (f.ensures.finishes m.event steps c.self.invariant.0 c.beginning-beginning.ensures back turned),
    )

pub returns-in-Err-due_renewal : goal.returns-in-Err-due_renewal
returns-in-Err-due_renewal g c =
    let d = g.D.Disk in
    let m = c.self.inside in
    let e = c.tick.new.self in
    let f = c.finish-in-Err-due_renewal in
    let all = pressed_all (state_at m.event) c.args.moment in
    let steps = lacking all in
    let sound = sym c.is_failed.ensures ∙ c.if-is_failed.false in
    let back = subst (λ (x : Event). GoesBack m.event x) (sym c.lack.ensures) (goes_back (Some refusals.Memory) m.event e c.tick.ensures.back) in
    let turned = subst (λ (x : Event). IsTurned steps m.event x) (sym c.lack.ensures) (lacks all m.event e c.self.invariant.0.begun.said c.in_default.ensures.steps) in
    let is_due = subst (λ s. due s ≡ true) c.in_default.ensures.steps.after c.in-Err-due_renewal.ensures.0 in
    let none = subst (λ s. refusal_beforehand s ≡ None) c.in_default.ensures.steps.after c.in-Err-due_renewal.ensures.1 in
    let new : MasterOf g.row.D.Denot = record { config = m.config; state = state_at f.new.self; journal = f.new.journal } in
    subst (λ v. AnswersTick d.seen d.failures c.args.moment v f.result new) c.self.view_is
    (ticks_short d.seen d.failures c.args.moment (record { config = m.config; state = state_at m.event; journal = m.journal }) sound is_due none f.result new
    (answers d.seen d.may_leave d.failures m.config None steps m.event m.journal c.self.invariant.1 (λ failed. absurd (false≢true (sym sound ∙ failed))) f.new.self f.new.journal f.result
    (f.ensures.finishes m.event steps c.self.invariant.0 c.beginning-beginning.ensures back turned)))
