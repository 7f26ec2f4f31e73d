-- That a master which is opened is what its journal tells.
use Rattle.std.proofs.Common.{◌≡◌, inl, inr, ◌∙◌, ◌+◌, ◌<◌, ℕ, false, List, [], refl, ap, subst, sym}
use Rattle.std.specs.Prelude.{Option, Some, None, Result, Ok, unwrap_or}
use Rattle.std.specs.Result.{is_ok, result_ok}
use Rattle.std.proofs.lemmas.Bool.{false≢true}
use Rattle.gs_base.specs.declared.config.Config.{Config}
use Rattle.gs_base.specs.declared.refusal.Refusal.{Refusal}
use Rattle.gs_base.specs.declared.refusal.Refusal.TheVariants as refusals
use Rattle.gs_journal.specs.Journal.{State as Journal, Stands, WhyClosed, failures_of_both}
use Rattle.gs_journal.specs.Records.{generation_standing, standing}
use Rattle.gs_journal.specs.declared.journal.Unopened.{Unopened}
use Rattle.gs_journal.specs.declared.version.Version.{Version}
use Rattle.gs_journal.specs.declared.version.Version.TheVariants as versions
use Rattle.gs_master_record.specs.Plain.{PlainEntry}
use Rattle.gs_master_spec.specs.Applied.{records_behind, replayed}
use Rattle.gs_master_spec.specs.Durable.{Durable, start}
use Rattle.gs_master_spec.specs.Handling.{answered_or, checkpoint_body, checkpoint_tests, recover, recovered_from, restarted, reopened, written, written_unless}
use Rattle.gs_master.specs.Journaled.{IsAsSeen, IsLogOf}
use Rattle.gs_master.specs.Masters.{Holds, IsHeld}
use Rattle.gs_master_guard.specs.Reading.{AreRecordsOf}
use Rattle.gs_master.specs.Recovering.{IsLeft, IsRecovered, WhyNotRecovered, WhyNotTold, TellsStill, log_behind_last, log_in}
use Rattle.gs_master.specs.Starting.{WhyUnopened, left_in}
use Rattle.gs_master_spec.specs.State.{Log, State, Turn, and_then, first_of}
use Rattle.gs_master.specs.inner.Turns.{state_at}
use Rattle.gs_master.specs.declared.event.Event.{Event}
use Rattle.gs_master.proofs.Renewed.{tells_alone}

abbrev Accepted : Turn → Result Turn Refusal
Accepted t = Ok t

-- what is opened in each version
abbrev pub as_opened : Version → State → State
as_opened versions.One s = (written s).after
as_opened versions.Two s = s

given : (t u : Turn) → Accepted t ≡ Accepted u → t ≡ u
given t u is = ap (λ (r : Result Turn Refusal). unwrap_or (result_ok r) t) is

module _ (config : Config) (log : Log) (d : Durable) (turn : Turn) where
  opened_if : (o : Option Refusal) (s : State) → (let t = and_then (written_unless s o) (reopened config) in answered_or t t.said) ≡ Ok turn → turn.after ≡ (written s).after
  opened_if None s is = ap (λ (t : Turn). t.after) (sym (given _ turn is))
  opened_if (Some refusal) s is = absurd (false≢true (ap is_ok is))

  opened_by : (v : Version) → recovered_from config v log (Some d) ≡ Ok turn → turn.after ≡ as_opened v (restarted d log)
  opened_by versions.One is = opened_if (first_of (checkpoint_tests false false (restarted d log).log (checkpoint_body d))) (restarted d log) is
  opened_by versions.Two is = ap (λ (t : Turn). t.after) (sym (given _ turn is))

pub after_opening : (config : Config) (v : Version) (entries : List PlainEntry) (log : Log) (d : Durable) (turn : Turn) → replayed start entries ≡ Some d → recover config v entries log ≡ Ok turn →
    turn.after ≡ as_opened v (restarted d (record log { records = records_behind entries }))
unfolding recover
after_opening config v entries log d turn replays is =
    opened_by config (record log { records = records_behind entries }) d turn v (ap (recovered_from config v (record log { records = records_behind entries })) (sym replays) ∙ is)

module _ {D : Type 0} (seen : D → List ℕ) (may_leave : D → List ℕ → Type 0) (failures : D → ℕ) (config : Config) (j k : Journal D) (e : Event) (is : IsRecovered seen may_leave failures config j k e) where
  state_is : (v : Version) → j.text.0 ≡ v → state_at e ≡ as_opened v (restarted is.durable (log_behind_last j is.entries))
  state_is v same = is.after ∙ after_opening config v is.entries (log_in j) is.durable is.turn is.tells.replays (subst (λ x. recover config x is.entries (log_in j) ≡ Ok is.turn) same is.recovers)

  held_as : (v : Version) → j.text.0 ≡ v → AreRecordsOf v j.text.1 is.entries → IsLeft seen may_leave failures v is.durable j k → IsLogOf (state_at e).log k → IsHeld seen may_leave (state_at e) k
  held_as versions.One same are left of_log =
      subst (λ (s : State). Holds seen may_leave s.durable (state_at e).log k s.fault) (sym (state_is versions.One same)) (left.stands, (of_log, tells_alone seen may_leave failures is.durable k left.made.text))
  held_as versions.Two same are left of_log =
      subst (λ (s : State). Holds seen may_leave s.durable (state_at e).log k s.fault) (sym (state_is versions.Two same)) (
        left.1.0,
        (
          of_log,
          record {
            first = [];
            base = start;
            entries = is.entries;
            begins = inl (refl, refl);
            text = left.0.text ∙ (λ i. (same i, j.text.1)) ∙ (λ i. (versions.Two, are.written i));
            are_entries = are.are_entries;
            replays = is.tells.replays;
          },
        ),
      )

  pub opened_held : IsHeld seen may_leave (state_at e) k
  opened_held = held_as j.text.0 refl is.tells.records is.journal is.log

-- what is left of the journal
pub left_of : {D : Type 0} (seen : D → List ℕ) (may_leave : D → List ℕ → Type 0) (failures : D → ℕ) (v : Version) (d : Durable) (j k : Journal D) → IsLeft seen may_leave failures v d j k →
    (k.text ≡ left_in v j.text d) × (failures_of_both failures k ≡ failures_of_both failures j)
left_of seen may_leave failures versions.One d j k is = (is.made.text, is.quiet)
left_of seen may_leave failures versions.Two d j k is = (is.0.text, is.1.1)

-- a journal of the second version keeps its generation
pub generation_left : {D : Type 0} (seen : D → List ℕ) (may_leave : D → List ℕ → Type 0) (failures : D → ℕ) (v : Version) (d : Durable) (j k : Journal D) → IsLeft seen may_leave failures v d j k
    → v ≡ versions.Two → k.generation ≡ j.generation
generation_left seen may_leave failures versions.One d j k is two = absurd (cc two)
generation_left seen may_leave failures versions.Two d j k is two = is.0.generation

-- and one of the first is written anew in the next
pub generation_anew : {D : Type 0} (seen : D → List ℕ) (may_leave : D → List ℕ → Type 0) (failures : D → ℕ) (v : Version) (d : Durable) (j k : Journal D) → IsLeft seen may_leave failures v d j k
    → v ≡ versions.One → k.generation ≡ j.generation + 1
generation_anew seen may_leave failures versions.One d j k is one = is.made.generation
generation_anew seen may_leave failures versions.Two d j k is one = absurd (cc one)

as_seen : {D : Type 0} (seen : D → List ℕ) (may_leave : D → List ℕ → Type 0) (k : Journal D) → Stands seen may_leave k → IsAsSeen seen k
as_seen seen may_leave k stands = record { text = stands.text; size = stands.size; generation = stands.generation; whole = stands.whole }

-- and it is as its disks are seen
pub seen_of : {D : Type 0} (seen : D → List ℕ) (may_leave : D → List ℕ → Type 0) (failures : D → ℕ) (v : Version) (d : Durable) (j k : Journal D) → IsLeft seen may_leave failures v d j k → IsAsSeen seen k
seen_of seen may_leave failures versions.One d j k is = as_seen seen may_leave k is.stands
seen_of seen may_leave failures versions.Two d j k is = as_seen seen may_leave k is.1.0

-- ---- what isn't opened

abbrev no_log : ℕ → ℕ → Log
no_log bound generation = record { records = 0; size = 0; limit = bound; generation = generation }

module _ {D : Type 0} (seen : D → List ℕ) (failures : D → ℕ) (config : Config) (bound : ℕ) (first second : D) (u : Unopened D) where
  -- the journal wasn't
  pub closed_why : WhyClosed (standing (seen first) (seen second)) (failures first + failures second) (failures u.first + failures u.second) u.refusal →
      standing (seen u.first) (seen u.second) ≡ standing (seen first) (seen second) → WhyUnopened seen failures config bound first second u
  closed_why (inl bad) told = inr (told, bad.2, inl (bad.0, bad.1))
  closed_why (inr (inl device)) told = inl ((device.0, inl told), device.1)
  closed_why (inr (inr memory)) told = inr (told, memory.1, inr (no_log bound (generation_standing (seen first) (seen second)), refl, refl, inl memory.0))

  -- the journal was, and tells no master
  pub untold_why : (j k : Journal D) → j.limit ≡ bound → j.generation ≡ generation_standing (seen first) (seen second) → j.text ≡ standing (seen first) (seen second) → failures_of_both failures j ≡ failures first + failures second → u.first ≡ k.first → u.second ≡ k.second →
      standing (seen u.first) (seen u.second) ≡ k.text → WhyNotRecovered failures config j k u.refusal → WhyUnopened seen failures config bound first second u
  untold_why j k limit generation text quiet f s now (inl same) =
      let fails : failures u.first + failures u.second ≡ failures_of_both failures k = λ i. failures (f i) + failures (s i) in
      inr (now ∙ same.0.stays.text ∙ text, fails ∙ same.0.quiet ∙ quiet, inr (log_in j, limit, generation, subst (λ t. WhyNotTold config t (log_in j) u.refusal) text same.1))
  untold_why j k limit generation text quiet f s now (inr broken) =
      let fails : failures_of_both failures k ≡ failures u.first + failures u.second = λ i. failures (sym f i) + failures (sym s i) in
      let left : TellsStill j.text (standing (seen u.first) (seen u.second)) = subst (TellsStill j.text) (sym now) broken.1.text in
      let told : TellsStill (standing (seen first) (seen second)) (standing (seen u.first) (seen u.second)) = subst (λ t. TellsStill t (standing (seen u.first) (seen u.second))) text left in
      inl ((broken.0, told), subst (λ n. n < failures u.first + failures u.second) quiet (subst (λ n. failures_of_both failures j < n) fails broken.1.cause))
