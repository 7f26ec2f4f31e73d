-- What an event that was begun anew goes on from, it went on from before.
use Rattle.std.proofs.Common.{◌≡◌, inl, inr, ◌∙◌, true, false, List, [], ◌∷◌, ◌++◌, length, take, refl, ap, subst, sym}
use Rattle.std.specs.Prelude.{map, fold, Result, Ok, Err}
use Rattle.std.specs.Ordering.{nat_cmp}
use Rattle.gs_base_table.specs.Slots.{live}
use Rattle.gs_base.specs.declared.refusal.Refusal.{Refusal}
use Rattle.gs_journal.specs.declared.version.Version.TheVariants.{Two}
use Rattle.gs_master_record.specs.Encoding.{encoded}
use Rattle.gs_master_record.specs.Plain.{PlainEntry, plain}
use Rattle.gs_master_spec.specs.Applied.{replayed}
use Rattle.gs_master_spec.specs.Durable.{Durable}
use Rattle.gs_master.specs.inner.Events.{HasComeFrom, log_behind}
use Rattle.gs_master_state.specs.inner.TakingBack.{Leads, TakeBack, all_leases_before}
use Rattle.gs_master_state.specs.inner.Plans.{fault_of, log_of}
use Rattle.gs_master_state.specs.inner.Recorded.{durable_of}
use Rattle.gs_master.specs.inner.StartingOver.{BeginsAt, IsBackAt, IsBegun, StartsOver}
use Rattle.gs_master_spec.specs.State.{Log, State, Turn, fits, first_said}
use Rattle.gs_master.specs.inner.Turns.{AreUnfit, GoesBack, HaveRoom, IsTurned, EventSteps, WhyNotTurned, state_at}
use Rattle.gs_master.specs.declared.event.Event.{Event}
use Rattle.gs_master.specs.declared.event.Beginning.{Beginning}

take_first : {A : Type 0} (xs ys : List A) → take (length xs) (xs ++ ys) ≡ xs
take_first [] [] = refl
take_first [] (y ∷ ys) = refl
take_first (x ∷ xs) ys = ap (λ zs. x ∷ zs) (take_first xs ys)

-- ---- going back

module _ (b : Beginning) (first here back : Event) (at : BeginsAt b first) (begun : IsBegun first) (goes : GoesBack first here) (over : StartsOver b here back) where
  durable : durable_of back.recorded ≡ durable_of first.recorded
  durable = over.value (durable_of first.recorded) (goes.keeps.back (durable_of first.recorded)
      (subst (λ undos. TakeBack undos (durable_of first.recorded) (durable_of first.recorded)) (sym begun.undos) refl))

  log : back.log ≡ first.log
  log = over.log ∙ at.log

  fault : back.fault ≡ first.fault
  fault = over.fault ∙ goes.fault

  now : back.memory.now ≡ first.memory.now
  now = over.now ∙ goes.keeps.memory ∙ begun.memory

  state : state_at back ≡ state_at first
  state = λ i. record { durable = durable i; volatile = now i; log = log_of (log i); fault = fault_of (fault i) }

  leases : live nat_cmp back.recorded.leases ≡ live nat_cmp first.recorded.leases
  leases = over.leases ∙ goes.keeps.leases ∙ ap (λ undos. all_leases_before undos (live nat_cmp first.recorded.leases)) begun.undos

  sent : back.sent.items ≡ first.sent.items
  sent = over.sent ∙ ap (λ n. take n here.sent.items) at.sent ∙ ap (take (length first.sent.items)) goes.sent.1 ∙ take_first first.sent.items goes.sent.0

  pub back_at : IsBackAt first back
  back_at = record { state = state; leases = leases; sent = sent; before = over.before ∙ goes.keeps.memory; fault = fault; log = log }

-- ---- going on from there

module _ (first back : Event) (begun : IsBegun first) (again : IsBegun back) (at : IsBackAt first back) where
  durable_at : durable_of back.recorded ≡ durable_of first.recorded
  durable_at = ap (λ (s : State). s.durable) at.state

  log_at : log_of back.log ≡ log_of first.log
  log_at = ap log_of at.log

  entries_at : map plain back.entries.items ≡ map plain first.entries.items
  entries_at = ap (map plain) (again.entries ∙ sym begun.entries)

  said_at : back.said ≡ first.said
  said_at = again.said ∙ sym begun.said

  room_from : (records : List PlainEntry) → HaveRoom records back → HaveRoom records first
  room_from records (inl none) = inl none
  room_from records (inr fit) = inr (subst (λ log. fits log records ≡ true) log_at fit)

  turned_from : (t : Turn) (new : Event) → IsTurned t back new → IsTurned t first new
  turned_from t new is = record {
    after = is.after;
    replays = ap (λ d. replayed d t.records) (sym durable_at) ∙ is.replays;
    are_entries = is.are_entries;
    log = is.log ∙ ap (λ log. fold log_behind log t.records) log_at;
    room = room_from t.records is.room;
    entries = is.entries ∙ ap (λ before. before ++ t.records) entries_at;
    sent = is.sent ∙ ap (λ sent. sent ++ t.sent) at.sent;
    said = is.said ∙ ap (λ said. first_said said t.said) said_at;
  }

  why_from : (t : Turn) (e : Refusal) → WhyNotTurned t back e → WhyNotTurned t first e
  why_from t e (inl memory) = inl memory
  why_from t e (inr (inl (full, none))) = inr (inl (full, subst (λ log. fits log t.records ≡ false) log_at none))
  why_from t e (inr (inr (bad, unfit))) = inr (inr (bad, subst (AreUnfit t.records) durable_at unfit))

  pub steps_from : (t : Turn) (result : Result (Unit {0}) Refusal) (new : Event) → EventSteps t back result new → EventSteps t first result new
  steps_from t (Ok done) new is = turned_from t new is
  steps_from t (Err e) new why = why_from t e why

  pub goes_back_from : (new : Event) → GoesBack back new → GoesBack first new
  goes_back_from new goes = record {
    keeps = record {
      back = λ before is. goes.keeps.back before (subst (λ undos. TakeBack undos before (durable_of back.recorded)) (sym again.undos)
          (subst (λ undos. TakeBack undos before (durable_of first.recorded)) begun.undos is ∙ sym durable_at));
      leases = goes.keeps.leases ∙ ap (λ undos. all_leases_before undos (live nat_cmp back.recorded.leases)) again.undos ∙ at.leases
          ∙ sym (ap (λ undos. all_leases_before undos (live nat_cmp first.recorded.leases)) begun.undos);
      memory = goes.keeps.memory ∙ at.before;
      from = λ before log has. goes.keeps.from before log (come_from before log has);
    };
    ready = goes.ready;
    fault = goes.fault ∙ at.fault;
    sent = (goes.sent.0, goes.sent.1 ∙ ap (λ sent. sent ++ goes.sent.0) at.sent);
  }
    where
      come_from : (before : Durable) (log : Log) → HasComeFrom before log first → HasComeFrom before log back
      come_from before log has = record {
        leads = subst (Leads (map plain back.entries.items) back.undos.items before) (sym durable_at)
            (subst (λ undos. Leads (map plain back.entries.items) undos before (durable_of first.recorded)) (begun.undos ∙ sym again.undos)
            (subst (λ entries. Leads entries first.undos.items before (durable_of first.recorded)) (sym entries_at) has.leads));
        written = again.written ∙ sym (ap (λ entries. map (encoded Two) (map plain entries)) again.entries);
        log = log_at ∙ has.log ∙ ap (fold log_behind log) (sym entries_at);
        room = inl again.entries;
      }
