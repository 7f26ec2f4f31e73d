-- What a restart of a steady master opens where memory isn't wanting and no disk fails.
use Rattle.std.proofs.Common.{◌≡◌, ◌∙◌, ◌<◌, ◌⊎◌, ℕ, true, List, map, Some, None, Result, Ok, Err, refl, sym, ap, subst, inl, inr}
use Rattle.std.specs.Prelude.{is_ok, unwrap_or}
use Rattle.std.specs.Result.{result_ok}
use Rattle.std.specs.List.{AllByRecursion}
use Rattle.std.proofs.lemmas.Bool.{false≢true}
use Rattle.gs_base.specs.declared.config.Config.{Config}
use Rattle.gs_base.specs.declared.refusal.Refusal.{Refusal}
use Rattle.gs_base.specs.declared.refusal.Refusal.TheVariants as refusals
use Rattle.gs_shell_desk.specs.Ways.{Way}
use Rattle.gs_journal.specs.Forms.{is_text}
use Rattle.gs_journal.specs.Journal.{text_size}
use Rattle.gs_journal.specs.Records.{Text, generation_standing, standing}
use Rattle.gs_journal.specs.declared.version.Version.{Version}
use Rattle.gs_journal.specs.declared.version.Version.TheVariants.{Two}
use Rattle.gs_laws_master.specs.Promises.{IsKept}
use Rattle.gs_laws_master.specs.Standing.{AreCounters}
use Rattle.gs_master.proofs.Reopened.{after_opening}
use Rattle.gs_master.specs.Masters.{MasterOf}
use Rattle.gs_master_guard.specs.Reading.{AreRecordsOf}
use Rattle.gs_master.specs.Starting.{IsOpened, left_in}
use Rattle.gs_master.specs.declared.turn.Turn.{Turn as Told}
use Rattle.gs_master_record.specs.Encoding.{encoded}
use Rattle.gs_master_record.specs.Plain.{PlainEntry}
use Rattle.gs_master_record.specs.Writable.{IsEntry}
use Rattle.gs_laws_world.proofs.lemmas.lasting.Lasting.{opens_told}
use Rattle.gs_laws_world.specs.lasting.Lasting.{IsToldIn, failures_at}
use Rattle.gs_master_spec.specs.Applied.{records_behind, replayed}
use Rattle.gs_master_spec.specs.Durable.{Durable, start}
use Rattle.gs_master_spec.specs.Handling.{recover, recovered_from, reopened, restarted, told_again}
use Rattle.gs_master_spec.specs.State.{Log, State, Turn}
use Rattle.gs_nodes.specs.Happenings.{Reopens, limit}
use Rattle.gs_nodes.specs.declared.place.MasterPlace.{MasterPlace}
use Rattle.gs_nodes.specs.declared.place.MasterPlace.TheVariants.{Standing, Closed, Away}
use Rattle.gs_laws_world.proofs.lemmas.lasting.Entries.{same_entries}
use Rattle.gs_laws_scripts.specs.answers.Meeting.{IsAsWritten, Stands}
use Rattle.gs_laws_scripts.proofs.lemmas.answers.PlainEnduring.{IsGood}
use Rattle.gs_laws_scripts.specs.answers.Plain.{begun_again}
use Rattle.gs_laws_scripts.proofs.lemmas.answers.PlainEvents.{Same, TurnIs}

-- ---- what is opened

given : (t u : Turn) → ◌≡◌ {A = Result Turn Refusal} (Ok t) (Ok u) → t ≡ u
given t u is = ap (λ (r : Result Turn Refusal). unwrap_or (result_ok r) t) is

sent_by : (config : Config) (log : Log) (d : Durable) (turn : Turn) → recovered_from config Two log (Some d) ≡ Ok turn → turn.sent ≡ told_again config d
sent_by config log d turn is = ap (λ (t : Turn). t.sent) (sym (given _ turn is))

sent_opening : (config : Config) (entries : List PlainEntry) (log : Log) (d : Durable) (turn : Turn) → replayed start entries ≡ Some d → recover config Two entries log ≡ Ok turn → turn.sent ≡ told_again config d
unfolding recover
sent_opening config entries log d turn replays is =
    sent_by config (record log { records = records_behind entries }) d turn (ap (recovered_from config Two (record log { records = records_behind entries })) (sym replays) ∙ is)

is_accepted : (config : Config) (log : Log) (d : Durable) → is_ok (recovered_from config Two log (Some d)) ≡ true
is_accepted config log d = refl

-- records that lead somewhere are opened
accepted : (config : Config) (entries : List PlainEntry) (log : Log) (d : Durable) (e : Refusal) → replayed start entries ≡ Some d → recover config Two entries log ≡ Err e → ⊥
unfolding recover
accepted config entries log d e replays is =
    let there = record log { records = records_behind entries } in
    false≢true (sym (ap (λ (r : Result Turn Refusal). is_ok r) (ap (recovered_from config Two there) (sym replays) ∙ is)) ∙ is_accepted config there d)

abbrev durable_at : {D : Type 0} → MasterPlace D → Durable
durable_at (Standing m) = m.state.durable
durable_at (Closed first second) = start
durable_at Away = start

module _ {D : Type 0} (seen : D → List ℕ) (failures : D → ℕ) where
  -- the master is what the records tell, and knows its journal's room
  module _ (config : Config) (first second : D) (d : Durable) (log : Log) (m : MasterOf D) (turn : Told) (told : IsToldIn (standing (seen first) (seen second)) d)
      (counted : (entries : List PlainEntry) → AllByRecursion (IsEntry Two) entries → standing (seen first) (seen second) ≡ (Two, map (encoded Two) entries) → records_behind entries ≡ log.records)
      (size : text_size (standing (seen first) (seen second)) ≡ log.size) (bound : log.limit ≡ limit) (generation : generation_standing (seen first) (seen second) ≡ log.generation)
      (kept : IsKept d) (counters : AreCounters d)
      (is : IsOpened seen failures config first second (standing (seen first) (seen second)) limit m turn.sent.items) (said : turn.said ≡ None) where
    records : AreRecordsOf Two (map (encoded Two) told.entries) is.entries
    records = subst (λ (t : Text). AreRecordsOf t.0 t.1 is.entries) told.records is.tells.records

    recovers : recover config Two is.entries is.log ≡ Ok is.turn
    recovers = subst (λ (t : Text). recover config t.0 is.entries is.log ≡ Ok is.turn) told.records is.recovers

    abbrev there : Log
    there = record (is.log) { records = records_behind is.entries }

    state : m.state ≡ restarted is.durable there
    state = is.state ∙ after_opening config Two is.entries is.log is.durable is.turn is.tells.replays recovers

    durable : is.durable ≡ d
    durable =
        let found = opens_told seen failures config first second d turn (Standing m) kept counters told (m, refl, is, said) in
        ap (λ (s : State). s.durable) (sym state) ∙ ap (λ (place : MasterPlace D). durable_at place) found.1 ∙ ap (λ (s : State). s.durable) found.2

    text : m.journal.text ≡ standing (seen first) (seen second)
    text = is.left ∙ ap (λ (v : Version). left_in v (standing (seen first) (seen second)) is.durable) (ap (λ (t : Text). t.0) told.records)

    log_is : there ≡ log
    log_is = λ i. record {
      records = counted is.entries records.are_entries (told.records ∙ (λ j. (Two, records.written j))) i;
      size = (ap (λ (s : State). s.log.size) (sym state) ∙ is.known.size ∙ is.journal.whole ∙ ap text_size text ∙ size) i;
      limit = (is.limit ∙ sym bound) i;
      generation = (ap (λ (s : State). s.log.generation) (sym state) ∙ is.known.generation ∙ is.generation (ap (λ (t : Text). t.0) told.records) ∙ generation) i;
    }

    pub opened_state : m.state ≡ restarted d log
    opened_state = state ∙ (λ i. restarted (durable i) (log_is i))

    pub opened_sends : turn.sent.items ≡ told_again config d
    opened_sends = is.sends ∙ sent_opening config is.entries is.log is.durable is.turn is.tells.replays recovers ∙ ap (told_again config) durable

  -- a disk fails, or memory is wanting, or what stood is opened
  pub reopened_cases : (w : Way D) (m : MasterOf D) (turn : Result Told Refusal) (place : MasterPlace D) → Stands w m → IsGood seen w m → IsAsWritten seen m
      → Reopens seen failures w.nodes.config (Standing m) turn place
      → (failures_at failures (Standing m) < failures_at failures place)
      ⊎ ((turn ≡ Err refusals.Memory) ⊎ (TurnIs seen failures (reopened w.nodes.config (begun_again m.state)) m.config turn place × Same seen failures place (Standing m)))
  reopened_cases w m (Ok turn) place stands good written (after, is, opening, said) =
      let firm = good.firm in
      let told = subst (λ (t : Text). IsToldIn t m.state.durable) (sym firm.as_seen.text) firm.told in
      let log = record (m.state.log) { limit = limit } in
      let counted : (entries : List PlainEntry) → AllByRecursion (IsEntry Two) entries → standing (seen m.journal.first) (seen m.journal.second) ≡ (Two, map (encoded Two) entries) → records_behind entries ≡ log.records =
      λ entries are same. written.counted entries are (sym firm.as_seen.text ∙ same) in
      let size : text_size (standing (seen m.journal.first) (seen m.journal.second)) ≡ log.size = ap text_size firm.as_seen.text ∙ sym firm.as_seen.whole ∙ sym firm.known.size in
      let generation : generation_standing (seen m.journal.first) (seen m.journal.second) ≡ log.generation = written.generation ∙ sym firm.known.generation in
      let state = opened_state w.nodes.config m.journal.first m.journal.second m.state.durable log after turn told counted size refl generation firm.firm.stands.kept firm.firm.stands.counters opening said in
      let sends = opened_sends w.nodes.config m.journal.first m.journal.second m.state.durable log after turn told counted size refl generation firm.firm.stands.kept firm.firm.stands.counters opening said in
      inr (inr ((after, is, record { after = state; sends = sends; says = said }, opening.config ∙ sym stands.config), ap (failures_at failures) is ∙ opening.quiet))
  reopened_cases w m (Err e) place stands good written (u, is, refused, inl (device, more)) =
      inl (subst (λ (n : ℕ). failures_at failures (Standing m) < n) (sym (ap (failures_at failures) is)) more)
  reopened_cases w m (Err e) place stands good written (u, is, refused, inr (says, quiet, inl (bad, not_text))) =
      absurd (false≢true (sym not_text ∙ ap is_text good.firm.as_seen.text ∙ written.form))
  reopened_cases w m (Err e) place stands good written (u, is, refused, inr (says, quiet, inr (log, bound, kept, inl memory))) =
      inr (inl (ap (λ (r : Refusal). Err r) (refused ∙ memory)))
  reopened_cases w m (Err e) place stands good written (u, is, refused, inr (says, quiet, inr (log, bound, kept, inr (inl (bad, none))))) =
      let told = subst (λ (t : Text). IsToldIn t m.state.durable) (sym good.firm.as_seen.text) good.firm.told in
      absurd (none told.entries (subst (λ (t : Text). AreRecordsOf t.0 t.1 told.entries) (sym told.records) (record { written = refl; are_entries = told.are_entries })))
  reopened_cases w m (Err e) place stands good written (u, is, refused, inr (says, quiet, inr (log, bound, kept, inr (inr (entries, are, refuses))))) =
      let told = subst (λ (t : Text). IsToldIn t m.state.durable) (sym good.firm.as_seen.text) good.firm.told in
      let here = subst (λ (t : Text). AreRecordsOf t.0 t.1 entries) told.records are in
      let same = same_entries Two told.entries entries told.are_entries here.are_entries here.written in
      absurd (accepted w.nodes.config entries log m.state.durable u.refusal (ap (replayed start) (sym same) ∙ told.replays)
      (subst (λ (t : Text). recover w.nodes.config t.0 entries log ≡ Err u.refusal) told.records refuses))
