-- That an event which is done, or cut, gives what its turn says.
use Rattle.std.proofs.Common.{◌≡◌, inl, ◌∙◌, ◌<◌, ◌++◌, ℕ, [], map, length, refl, ap, subst, sym}
use Rattle.std.specs.Prelude.{Option, fold}
use Rattle.std.proofs.lemmas.List.{length-map}
use Rattle.gs_base.specs.declared.numbers.ReqId.{ReqId}
use Rattle.gs_journal.specs.declared.version.Version.TheVariants.{Two}
use Rattle.gs_master_record.specs.Encoding.{encoded}
use Rattle.gs_master_record.specs.Plain.{plain}
use Rattle.gs_master.specs.inner.Events.{HasComeFrom, log_behind}
use Rattle.gs_master_state.specs.inner.TakingBack.{Leads}
use Rattle.gs_master.specs.Journaled.{IsCutAt, IsWhole, stood_before}
use Rattle.gs_master_spec.specs.Outcomes.{IsCut, IsDone, cut}
use Rattle.gs_master_state.specs.inner.Plans.{fault_of, log_of}
use Rattle.gs_master_state.specs.inner.Recorded.{durable_of}
use Rattle.gs_master.specs.inner.StartingOver.{IsBegun}
use Rattle.gs_master_spec.specs.State.{Turn, first_said}
use Rattle.gs_master.specs.inner.Turns.{GoesBack, IsTurned, state_at}
use Rattle.gs_master.specs.declared.event.Event.{Event}

-- an event that has done nothing yet has come from where it is
pub comes_from_itself : (e : Event) → IsBegun e → HasComeFrom (durable_of e.recorded) (log_of e.log) e
comes_from_itself e begun =
    let d = durable_of e.recorded in record {
      leads = subst (λ entries. Leads (map plain entries) e.undos.items d d) (sym begun.entries) (subst (λ undos. Leads [] undos d d) (sym begun.undos) refl);
      written = begun.written ∙ ap (λ entries. map (encoded Two) (map plain entries)) (sym begun.entries);
      log = ap (λ entries. fold log_behind (log_of e.log) (map plain entries)) (sym begun.entries);
      room = inl begun.entries;
    }

pub gives_done : (t : Turn) (begun old new : Event) → IsBegun begun → begun.sent.items ≡ [] → IsTurned t begun old → IsWhole old new → IsDone t new.sent.items new.said (state_at new)
gives_done t begun old new is none turned whole = record {
  after = whole.after ∙ turned.after;
  sends = whole.sends ∙ turned.sent ∙ ap (λ sent. sent ++ t.sent) none;
  says = whole.says ∙ turned.said ∙ ap (λ said. first_said said t.said) is.said;
}

pub gives_cut : (caller : Option ReqId) (place : ℕ) (t : Turn) (begun old new : Event) → IsBegun begun → IsTurned t begun old → GoesBack begun old → IsCutAt (durable_of begun.recorded) (log_of begun.log) caller place old new →
    IsCut (state_at begun) caller t place new.sent.items new.said (state_at new)
gives_cut caller place t begun old new is turned back at =
    let records = turned.entries ∙ ap (λ entries. map plain entries ++ t.records) is.entries in
    let stood : stood_before (durable_of begun.recorded) (log_of begun.log) old ≡ state_at begun =
    λ i. record { durable = durable_of begun.recorded; volatile = (back.keeps.memory ∙ is.memory) i; log = log_of begun.log; fault = fault_of (back.fault i) } in record {
      within = subst (λ many. place < many) (sym (length-map old.entries.items plain) ∙ ap length records) at.within;
      after = at.after ∙ (λ i. cut (stood i) (records i) place);
      sends = at.sends;
      says = at.says;
    }
