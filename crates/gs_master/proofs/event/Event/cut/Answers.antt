use Rattle.std.proofs.Common.{◌∙◌, [], ap, false, length, map, refl, subst, sym, take}
use Rattle.std.specs.Prelude.{Some, option_map}
use Rattle.std.proofs.lemmas.Option.{slice_get-map, slice_get_read}
use Rattle.gs_master_record.specs.Plain.{plain}
use Rattle.gs_master_state.specs.inner.TakingBack.{Leads}
use Rattle.gs_master.specs.Journaled.{stood_before}
use Rattle.gs_master_state.specs.inner.Plans.{log_of}
use Rattle.gs_master_state.specs.inner.Recorded.{durable_of}
use Rattle.gs_master_spec.specs.State.{Failed}
use Rattle.gs_master_state.specs.inner.Tracked.{NowAndBefore}
use Rattle.gs_master.proofs.Leading.{cut_gives, log_cut}
use Rattle.gs_master.proofs.event.Event.cut.Goals as goal

pub returns-clause-cut : goal.returns-clause-cut
returns-clause-cut c = λ before has.
    let e = c.args.self.now in
    let es = map plain e.entries.items in
    let left = c.take_back_to.new.undos.items in
    let back = c.take_back.ensures.stood in
    record {
      over = record {
        undos = c.let_all_go.ensures.none;
        entries = c.clear.ensures.items;
        written = c.clear-2.ensures.items;
        memory = back ∙ sym (ap (λ (m : NowAndBefore). record m { before = m.now; keeps_calls = false; asked = [] }) back);
      };
      within = c.requires.within;
      after = cut_gives (stood_before before (log_of c.args.first) e) es left c.args.place (durable_of c.let_all_go.new.self) c.take_back.new.self.now (log_of c.log_behind-self.result)
          (Failed (Some (plain c.swap_remove-doubt.result)))
          (subst (Leads (take c.args.place es) left before) (sym c.let_all_go.ensures.value) (c.take_back_to.ensures.value es before has.leads))
          (ap (λ (m : NowAndBefore). m.now) back)
          (ap log_of c.log_behind-self.ensures.behind ∙ log_cut (log_of c.args.first) _ es c.args.place (c.deref.ensures.value ∙ has.written))
          (ap Failed (sym (slice_get-map plain e.entries.items c.args.place ∙ ap (option_map plain) (slice_get_read e.entries.items (length e.entries.items) c.args.place c.swap_remove-doubt.result refl c.requires.within c.swap_remove-doubt.ensures.value))));
      sends = c.told_unsure.ensures;
      says = ap Some c.cut_refusal.ensures;
    }
