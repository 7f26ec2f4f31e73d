use Rattle.std.proofs.Common.{◌∙◌, ◌∷◌, [], false, ap, arith, length, length-append, map, refl, subst, sym}
use Rattle.std.specs.Prelude.{Some, fold}
use Rattle.std.proofs.lemmas.List.{length-map}
use Rattle.gs_master_record.specs.Plain.{Whole, plain}
use Rattle.gs_master.specs.inner.Events.{log_behind}
use Rattle.gs_master_state.specs.inner.TakingBack.{Leads}
use Rattle.gs_master.specs.Journaled.{stood_before}
use Rattle.gs_master_state.specs.inner.Plans.{log_of}
use Rattle.gs_master_state.specs.inner.Recorded.{durable_of}
use Rattle.gs_master.specs.inner.Renewing.{and_checkpoint}
use Rattle.gs_master_spec.specs.State.{Failed}
use Rattle.gs_master_state.specs.inner.Tracked.{NowAndBefore}
use Rattle.gs_master_spec.specs.Whole.{checkpoint_of}
use Rattle.gs_master.proofs.Leading.{cut_gives}
use Rattle.gs_master.proofs.Renewals.{all_before, last_of}
use Rattle.gs_master.proofs.event.Event.doubt_checkpoint.Goals as goal

pub returns-clause-cut : goal.returns-clause-cut
returns-clause-cut c = λ before first has.
    let e = c.args.self.now in
    let es = map plain e.entries.items in
    let whole = Whole (checkpoint_of (durable_of e.recorded)) in
    let place = length e.entries.items in
    let many = sym (length-map e.entries.items plain) in
    let front = all_before es whole place many in
    let back = c.take_back.ensures.stood in
    record {
      over = record {
        undos = c.let_all_go.ensures.none;
        entries = c.clear.ensures.items;
        written = c.clear-2.ensures.items;
        memory = back ∙ sym (ap (λ (m : NowAndBefore). record m { before = m.now; keeps_calls = false; asked = [] }) back);
      };
      within = let more = length-append es (whole ∷ []) in omega (arith, more, many);
      after = cut_gives (stood_before before first e) (and_checkpoint e) e.undos.items place (durable_of c.let_all_go.new.self) c.take_back.new.self.now (log_of e.log) (Failed (Some (plain c.args.entry)))
          (subst (λ xs. Leads xs e.undos.items before (durable_of c.let_all_go.new.self)) (sym front) (subst (Leads es e.undos.items before) (sym c.let_all_go.ensures.value) has.leads))
          (ap (λ (m : NowAndBefore). m.now) back)
          (has.log ∙ ap (fold log_behind first) (sym front))
          (ap (λ o. Failed (Some o)) c.requires ∙ ap Failed (sym (last_of es whole place many)));
      sends = c.new.ensures.items;
      says = refl;
    }
