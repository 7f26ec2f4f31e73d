use Rattle.std.proofs.Common.{◌∙◌, ap, inl, inr, refl, sym}
use Rattle.gs_master_state.specs.inner.Recorded.{durable_of}
use Rattle.gs_master_plan.specs.Renewable.{renewal_refusal}
use Rattle.gs_master.proofs.Ended.{comes_from_itself}
use Rattle.gs_master.proofs.Recoveries.{cut_anew, whole_anew}
use Rattle.gs_master.proofs.event.Event.write_anew.Goals as goal

pub end_renewed-requires-clause-from : goal.end_renewed-requires-clause-from
end_renewed-requires-clause-from g c = (durable_of c.args.self.now.recorded, comes_from_itself c.args.self.now c.requires.begun)

pub returns-in-Err-clause-written : goal.returns-in-Err-clause-written
returns-in-Err-clause-written g c = inl (
  refl,
  elim c.in-Err.ensures [
    | inl memory ↦ inl memory.0
    | inr refusal ↦ inr (ap renewal_refusal (sym c.standing.ensures) ∙ refusal)
  ],
)

pub returns-then-is_some-clause-written : goal.returns-then-is_some-clause-written
returns-then-is_some-clause-written g c =
    let d = g.D.Disk in
    let old = c.args.self.now in
    inr (
      refl,
      cut_anew d.seen d.may_leave d.failures old c.end_renewed.new.self c.args.journal.now c.end_renewed.new.journal c.requires.begun c.requires.log
          (c.end_renewed.ensures.ended (durable_of old.recorded) (comes_from_itself old c.requires.begun)) (sym c.is_some.ensures ∙ c.if-is_some.true),
    )

pub returns-clause-written : goal.returns-clause-written
returns-clause-written g c =
    let d = g.D.Disk in
    let old = c.args.self.now in
    whole_anew d.seen d.may_leave d.failures old c.end_renewed.new.self c.args.journal.now c.end_renewed.new.journal c.requires.begun c.requires.log
    (ap renewal_refusal (sym c.standing.ensures) ∙ c.in-Ok.ensures.0.unrefused)
    (c.end_renewed.ensures.ended (durable_of old.recorded) (comes_from_itself old c.requires.begun)) (sym c.is_some.ensures ∙ c.if-is_some.false)

pub returns-then-is_some-clause-crash : goal.returns-then-is_some-clause-crash
returns-then-is_some-clause-crash g c = c.end_renewed.ensures.crash c.requires.begun.written c.requires.log.is_open

pub returns-clause-crash : goal.returns-clause-crash
returns-clause-crash g c = c.end_renewed.ensures.crash c.requires.begun.written c.requires.log.is_open

pub returns-in-Err-clause-crash : goal.returns-in-Err-clause-crash
returns-in-Err-clause-crash g c = inl refl
