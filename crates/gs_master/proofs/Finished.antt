-- That an event which is ended is finished: its turn is done or cut, or nothing has happened.
use Rattle.std.proofs.Common.{◌≡◌, ◌⊎◌, inl, inr, ◌∙◌, ◌≤◌, ℕ, List, [], ◌++◌, map, ap, subst, sym}
use Rattle.std.specs.Prelude.{None, Option, Some}
use Rattle.gs_base.specs.declared.numbers.ReqId.{ReqId}
use Rattle.gs_base.specs.declared.refusal.Refusal.{Refusal}
use Rattle.gs_base.specs.declared.refusal.Refusal.TheVariants as refusals
use Rattle.gs_journal.specs.Journal.{State as Journal}
use Rattle.gs_journal.specs.declared.version.Version.TheVariants.{Two}
use Rattle.gs_master_record.specs.Encoding.{encoded}
use Rattle.gs_master_record.specs.Plain.{plain}
use Rattle.gs_master_spec.specs.Durable.{Durable}
use Rattle.gs_master.specs.inner.Events.{HasComeFrom}
use Rattle.gs_master.specs.Finishing.{IsAtRest, IsCutShort, IsFinished}
use Rattle.gs_master.specs.Journaled.{AreCut, AreWritten, Breaks, Gains, IsLogOf, IsOver, stood_before}
use Rattle.gs_master.specs.inner.Renewing.{AreCutAnew, AreRenewed}
use Rattle.gs_master_state.specs.inner.Plans.{fault_of, log_of}
use Rattle.gs_master_state.specs.inner.Recorded.{durable_of}
use Rattle.gs_master.specs.inner.StartingOver.{BeginsAt, StartsOver}
use Rattle.gs_master_spec.specs.State.{Log, State, Turn}
use Rattle.gs_master_state.specs.inner.TakingBack.{RoomForAll}
use Rattle.gs_master_state.specs.inner.Tracked.{NowAndBefore}
use Rattle.gs_master.specs.inner.Turns.{GoesBack, IsTurned, IsUnderWay, state_at}
use Rattle.gs_master.specs.declared.event.Event.{Event}
use Rattle.gs_master.specs.declared.event.Beginning.{Beginning}
use Rattle.gs_master.specs.declared.turn.Turn.{Turn as Told}
use Rattle.gs_master.proofs.Anew.{back_at}
use Rattle.gs_master.proofs.Ended.{comes_from_itself, gives_cut, gives_done}

-- what is told is what was to be sent and said, and nothing of it is left
pub record IsLeft (mid : Event) (told : Told) (e : Event) : Type 0 where
  pub sent : told.sent.items ≡ mid.sent.items
  pub said : told.said ≡ mid.said
  pub others : e ≡ record mid { sent = e.sent; said = e.said }

module _ (begun old : Event) (rest : IsAtRest begun) (back : GoesBack begun old) where
  pub came : HasComeFrom (durable_of begun.recorded) (log_of begun.log) old
  came = back.keeps.from (durable_of begun.recorded) (log_of begun.log) (comes_from_itself begun rest.begun)

  pub stood_is : stood_before (durable_of begun.recorded) (log_of begun.log) old ≡ state_at begun
  stood_is = λ i. record { durable = durable_of begun.recorded; volatile = (back.keeps.memory ∙ rest.begun.memory) i; log = log_of begun.log; fault = fault_of (back.fault i) }

pub records_are : (t : Turn) (begun old : Event) → IsAtRest begun → IsTurned t begun old → map plain old.entries.items ≡ t.records
records_are t begun old rest turned = turned.entries ∙ ap (λ es. map plain es ++ t.records) rest.begun.entries

-- where an event began, by what it knows of it
pub came_from : (b : Beginning) (begun old : Event) → IsAtRest begun → BeginsAt b begun → GoesBack begun old → HasComeFrom (durable_of begun.recorded) (log_of b.log) old
came_from b begun old rest at back = subst (λ log. HasComeFrom (durable_of begun.recorded) (log_of log) old) (sym at.log) (came begun old rest back)

pub counted_there : (b : Beginning) (begun : Event) → IsAtRest begun → BeginsAt b begun → b.log.records ≤ b.log.size
counted_there b begun rest at = subst (λ log. log.records ≤ log.size) (sym at.log) rest.counted

module _ {D : Type 0} (seen : D → List ℕ) (may_leave : D → List ℕ → Type 0) (failures : D → ℕ) (caller : Option ReqId) (t : Turn) (begun old : Event) (rest : IsAtRest begun) (turned : IsTurned t begun old) (back : GoesBack begun old) where
  bytes : old.written.items ≡ map (encoded Two) t.records
  bytes = (came begun old rest back).written ∙ ap (map (encoded Two)) (records_are t begun old rest turned)

  pub no_bytes : t.records ≡ [] → old.written.items ≡ []
  no_bytes none = bytes ∙ ap (map (encoded Two)) none

  whole : (told : Told) (mid e : Event) (j k : Journal D) → IsLeft mid told e → (old.written.items ≡ [] → k ≡ j) → AreWritten seen may_leave failures (log_of begun.log) old j mid k → IsFinished seen may_leave failures t begun j told e k
  whole told mid e j k left still written =
      let done = gives_done t begun old mid rest.begun rest.sent turned written.0 in
      let after : state_at e ≡ state_at mid = ap state_at left.others in record {
        done = record { after = after ∙ done.after; sends = left.sent ∙ done.sends; says = left.said ∙ done.says };
        replays = turned.replays ∙ ap (λ (s : State). Some s.durable) (sym written.0.after ∙ sym after);
        are_entries = turned.are_entries;
        fault = ap (λ (s : State). s.fault) (after ∙ written.0.after) ∙ ap fault_of back.fault;
        still = λ none. still (no_bytes none);
        gains = λ is.
            let gained = written.1 is in
            (subst (λ rs. Gains seen may_leave failures j rs k) bytes gained.0, subst (λ (s : State). IsLogOf s.log k) (sym after) gained.1);
      }

  short : (place : ℕ) (told : Told) (mid e : Event) (j k : Journal D) → IsLeft mid told e → AreCut seen failures (durable_of begun.recorded) (log_of begun.log) caller place old j mid k → IsCutShort seen failures caller t place begun j told e k
  short place told mid e j k left at =
      let cut = gives_cut caller place t begun old mid rest.begun turned back at.0 in
      let after : state_at e ≡ state_at mid = ap state_at left.others in record {
        cut = record { within = cut.within; after = after ∙ cut.after; sends = left.sent ∙ cut.sends; says = left.said ∙ cut.says };
        replays = (durable_of old.recorded, turned.replays);
        are_entries = turned.are_entries;
        breaks = λ is. subst (λ rs. Breaks seen failures j rs place k) bytes (at.1 is);
      }

  pub finished : (told : Told) (mid e : Event) (j k : Journal D) → IsLeft mid told e → (old.written.items ≡ [] → k ≡ j) →
      (AreWritten seen may_leave failures (log_of begun.log) old j mid k ⊎ ((place : ℕ) × AreCut seen failures (durable_of begun.recorded) (log_of begun.log) caller place old j mid k)) →
      IsFinished seen may_leave failures t begun j told e k ⊎ ((place : ℕ) × IsCutShort seen failures caller t place begun j told e k)
  finished told mid e j k left still (inl written) = inl (whole told mid e j k left still written)
  finished told mid e j k left still (inr at) = inr (at.0, short at.0 told mid e j k left at.1)

-- ---- nothing is left of it

-- an event that was begun anew rests
pub rests_again : (b : Beginning) (begun old e : Event) → IsAtRest begun → BeginsAt b begun → GoesBack begun old → StartsOver b old e → IsAtRest e
rests_again b begun old e rest at back over =
    let is = back_at b begun old e at rest.begun back over in record {
      begun = over.begun;
      sent = is.sent ∙ rest.sent;
      counted = subst (λ log. log.records ≤ log.size) (sym is.log) rest.counted;
    }

pub state_again : (b : Beginning) (begun old e : Event) → IsAtRest begun → BeginsAt b begun → GoesBack begun old → StartsOver b old e → state_at e ≡ state_at begun
state_again b begun old e rest at back over = (back_at b begun old e at rest.begun back over).state

-- and one that is over, once what is told is taken out
pub rests_over : (mid e : Event) → IsOver mid → e ≡ record mid { sent = e.sent; said = e.said } → e.sent.items ≡ [] → e.said ≡ None → mid.log.records ≤ mid.log.size → IsAtRest e
rests_over mid e over others sent said counted =
    let memory = ap (λ (x : Event). x.memory) others ∙ over.memory in record {
      begun = record {
        undos = ap (λ (x : Event). x.undos.items) others ∙ over.undos;
        entries = ap (λ (x : Event). x.entries.items) others ∙ over.entries;
        written = ap (λ (x : Event). x.written.items) others ∙ over.written;
        memory = ap (λ (m : NowAndBefore). m.before) memory ∙ sym (ap (λ (m : NowAndBefore). m.now) (ap (λ (x : Event). x.memory) others));
        said = said;
      };
      sent = sent;
      counted = subst (λ (x : Event). x.log.records ≤ x.log.size) (sym others) counted;
    }

-- a turn that was begun at rest can be gone on with
pub ready_at_rest : (e : Event) → IsAtRest e → IsUnderWay e
ready_at_rest e rest = record { room = subst (RoomForAll e.recorded) (sym rest.begun.undos) tt; counted = rest.counted }

-- an event that is ended is over
pub ended_over : {D : Type 0} (seen : D → List ℕ) (may_leave : D → List ℕ → Type 0) (failures : D → ℕ) (before : Durable) (first : Log) (caller : Option ReqId) (old mid : Event) (j k : Journal D) →
    (AreWritten seen may_leave failures first old j mid k ⊎ ((place : ℕ) × AreCut seen failures before first caller place old j mid k)) → IsOver mid
ended_over seen may_leave failures before first caller old mid j k (inl written) = written.0.over
ended_over seen may_leave failures before first caller old mid j k (inr at) = at.1.0.over

pub renewed_over : {D : Type 0} (seen : D → List ℕ) (may_leave : D → List ℕ → Type 0) (failures : D → ℕ) (before : Durable) (first : Log) (old mid : Event) (j k : Journal D) →
    (AreRenewed seen may_leave failures first old j mid k ⊎ ((place : ℕ) × AreCutAnew seen failures before first place old j mid k)) → IsOver mid
renewed_over seen may_leave failures before first old mid j k (inl renewed) = renewed.0.over
renewed_over seen may_leave failures before first old mid j k (inr at) = at.1.0.over

-- where an event began, and that it has come from there
pub came_where : (b : Beginning) (old : Event) → ((begun : Event) × IsAtRest begun × BeginsAt b begun × GoesBack begun old) → (log : Log) → log ≡ log_of b.log → (before : Durable) × HasComeFrom before log old
came_where b old (begun, rest, at, back) log same = (durable_of begun.recorded, subst (λ l. HasComeFrom (durable_of begun.recorded) l old) (sym same) (came_from b begun old rest at back))
