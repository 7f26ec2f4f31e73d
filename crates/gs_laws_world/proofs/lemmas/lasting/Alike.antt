-- Openings of disks that have the same bytes.
use Rattle.std.proofs.Common.{◌≡◌, ◌∙◌, ◌+◌, ℕ, false, List, refl, ap, subst, sym}
use Rattle.std.specs.Prelude.{Option, Some, None, Result, Ok, unwrap_or}
use Rattle.std.specs.Result.{is_ok, result_ok}
use Rattle.std.proofs.lemmas.Bool.{false≢true}
use Rattle.gs_base.specs.declared.config.Config.{Config}
use Rattle.gs_base.specs.declared.refusal.Refusal.{Refusal}
use Rattle.gs_journal.specs.Journal.{text_size}
use Rattle.gs_journal.specs.Records.{Text, generation_standing, standing}
use Rattle.gs_journal.specs.declared.version.Version.{Version}
use Rattle.gs_journal.specs.declared.version.Version.TheVariants as versions
use Rattle.gs_laws_world.proofs.lemmas.lasting.Entries.{same_entries}
use Rattle.gs_laws_world.specs.lasting.Alike.{AreOpenedAlike, IsSameMaster}
use Rattle.gs_laws_world.specs.lasting.Laws.{OpeningsAreAlike}
use Rattle.gs_master.proofs.Reopened.{after_opening, as_opened}
use Rattle.gs_master.specs.Masters.{MasterOf}
use Rattle.gs_master.specs.Starting.{IsOpened, left_in}
use Rattle.gs_master_record.specs.Plain.{PlainEntry}
use Rattle.gs_master_spec.specs.Applied.{records_behind, replayed}
use Rattle.gs_master_spec.specs.Durable.{Durable, start}
use Rattle.gs_master_spec.specs.Handling.{answered_or, checkpoint_body, checkpoint_tests, recover, recovered_from, reopened, restarted, tidied, told_again, written_unless}
use Rattle.gs_master_spec.specs.State.{Log, State, Turn, and_then, first_of}
use Rattle.gs_msg.specs.declared.message.Message.{Message}
use Rattle.gs_nodes.specs.Happenings.{limit}

-- ---- what an opening comes to, by what the disks say

-- how many records stand behind the last checkpoint
abbrev records_in : Version → List PlainEntry → ℕ
records_in versions.One entries = 0
records_in versions.Two entries = records_behind entries

abbrev generation_in : Version → ℕ → ℕ
generation_in versions.One generation = generation + 1
generation_in versions.Two generation = generation

abbrev log_in : Text → Durable → List PlainEntry → ℕ → ℕ → Log
log_in text d entries bound generation =
    record { records = records_in text.0 entries; size = text_size (left_in text.0 text d); limit = bound; generation = generation_in text.0 generation }

abbrev sent_in : Config → Version → Durable → List Message
sent_in config versions.One d = told_again config (tidied d)
sent_in config versions.Two d = told_again config d

-- what is behind the last checkpoint, counted
abbrev counted : Log → List PlainEntry → Log
counted log entries = record log { records = records_behind entries }

records_opened : (v : Version) (d : Durable) (log : Log) (entries : List PlainEntry) → (as_opened v (restarted d (counted log entries))).log.records ≡ records_in v entries
records_opened versions.One d log entries = refl
records_opened versions.Two d log entries = refl

limit_opened : (v : Version) (d : Durable) (log : Log) → (as_opened v (restarted d log)).log.limit ≡ log.limit
limit_opened versions.One d log = refl
limit_opened versions.Two d log = refl

-- but for the log it doesn't matter what was known of the journal
but_for_the_log : (v : Version) (d : Durable) (a b : Log) → as_opened v (restarted d a) ≡ record (as_opened v (restarted d b)) { log = (as_opened v (restarted d a)).log }
but_for_the_log versions.One d a b = refl
but_for_the_log versions.Two d a b = refl

abbrev Accepted : Turn → Result Turn Refusal
Accepted t = Ok t

the_turn : (t u : Turn) → Accepted t ≡ Accepted u → t ≡ u
the_turn t u is = ap (λ (r : Result Turn Refusal). unwrap_or (result_ok r) t) is

module _ (config : Config) (log : Log) (d : Durable) (turn : Turn) where
  sent_if : (o : Option Refusal) (s : State) → (let t = and_then (written_unless s o) (reopened config) in answered_or t t.said) ≡ Ok turn → turn.sent ≡ told_again config (tidied s.durable)
  sent_if None s is = ap (λ (t : Turn). t.sent) (sym (the_turn _ turn is))
  sent_if (Some refusal) s is = absurd (false≢true (ap is_ok is))

  sent_by : (v : Version) → recovered_from config v log (Some d) ≡ Ok turn → turn.sent ≡ sent_in config v d
  sent_by versions.One is = sent_if (first_of (checkpoint_tests false false (restarted d log).log (checkpoint_body d))) (restarted d log) is
  sent_by versions.Two is = ap (λ (t : Turn). t.sent) (sym (the_turn _ turn is))

sent_after : (config : Config) (v : Version) (entries : List PlainEntry) (log : Log) (d : Durable) (turn : Turn) → replayed start entries ≡ Some d → recover config v entries log ≡ Ok turn → turn.sent ≡ sent_in config v d
unfolding recover
sent_after config v entries log d turn replays is =
    sent_by config (counted log entries) d turn v (ap (recovered_from config v (counted log entries)) (sym replays) ∙ is)

-- ---- one opening

module _ {D : Type 0} (seen : D → List ℕ) (failures : D → ℕ) (config : Config) (first second : D) (text : Text) (generation : ℕ) (m : MasterOf D) (sent : List Message)
    (is : IsOpened seen failures config first second text limit m sent) (counts : generation_standing (seen first) (seen second) ≡ generation) where
  state_is : m.state ≡ as_opened text.0 (restarted is.durable (counted is.log is.entries))
  state_is = is.state ∙ after_opening config text.0 is.entries is.log is.durable is.turn is.tells.replays is.recovers

  journals_generation : (v : Version) → text.0 ≡ v → m.journal.generation ≡ generation_in v generation
  journals_generation versions.One one = is.anew one ∙ ap (λ n. n + 1) counts
  journals_generation versions.Two two = is.generation two ∙ counts

  log_is : m.state.log ≡ log_in text is.durable is.entries limit generation
  log_is = λ i. record { records = of_records i; size = of_size i; limit = of_limit i; generation = of_generation i }
    where
      of_records : m.state.log.records ≡ records_in text.0 is.entries
      of_records = ap (λ (s : State). s.log.records) state_is ∙ records_opened text.0 is.durable is.log is.entries

      of_size : m.state.log.size ≡ text_size (left_in text.0 text is.durable)
      of_size = is.known.size ∙ is.journal.whole ∙ ap text_size is.left

      of_limit : m.state.log.limit ≡ limit
      of_limit = ap (λ (s : State). s.log.limit) state_is ∙ limit_opened text.0 is.durable (counted is.log is.entries) ∙ is.limit

      of_generation : m.state.log.generation ≡ generation_in text.0 generation
      of_generation = is.known.generation ∙ journals_generation text.0 refl

  state_with_log : (base : Log) → m.state ≡ record (as_opened text.0 (restarted is.durable base)) { log = m.state.log }
  state_with_log base =
      state_is ∙ but_for_the_log text.0 is.durable (counted is.log is.entries) base
      ∙ (λ i. record (as_opened text.0 (restarted is.durable base)) { log = (sym state_is i).log })

  sent_is : sent ≡ sent_in config text.0 is.durable
  sent_is = is.sends ∙ sent_after config text.0 is.entries is.log is.durable is.turn is.tells.replays is.recovers

-- ---- two openings

abbrev no_log : Log
no_log = record { records = 0; size = 0; limit = 0; generation = 0 }

module _ {D E : Type 0} (seen : D → List ℕ) (failures : D → ℕ) (other_seen : E → List ℕ) (other_failures : E → ℕ) (config : Config) (first second : D) (third fourth : E) (text : Text)
    (generation : ℕ) (m : MasterOf D) (n : MasterOf E) (sent other_sent : List Message) (is : IsOpened seen failures config first second text limit m sent)
    (other : IsOpened other_seen other_failures config third fourth text limit n other_sent) (counts : generation_standing (seen first) (seen second) ≡ generation)
    (other_counts : generation_standing (other_seen third) (other_seen fourth) ≡ generation) where
  entries_same : is.entries ≡ other.entries
  entries_same = same_entries text.0 is.entries other.entries is.tells.records.are_entries other.tells.records.are_entries (sym is.tells.records.written ∙ other.tells.records.written)

  durable_same : is.durable ≡ other.durable
  durable_same = ap (λ (o : Option Durable). unwrap_or o is.durable) (sym is.tells.replays ∙ ap (replayed start) entries_same ∙ other.tells.replays)

  log_same : m.state.log ≡ n.state.log
  log_same =
      log_is seen failures config first second text generation m sent is counts ∙ (λ i. log_in text (durable_same i) (entries_same i) limit generation)
      ∙ sym (log_is other_seen other_failures config third fourth text generation n other_sent other other_counts)

  state_same : m.state ≡ n.state
  state_same =
      state_with_log seen failures config first second text generation m sent is counts no_log
      ∙ (λ i. record (as_opened text.0 (restarted (durable_same i) no_log)) { log = log_same i })
      ∙ sym (state_with_log other_seen other_failures config third fourth text generation n other_sent other other_counts no_log)

  text_same : m.journal.text ≡ n.journal.text
  text_same = is.left ∙ (λ i. left_in text.0 text (durable_same i)) ∙ sym other.left

  same_master : IsSameMaster m n
  same_master = record {
    config = is.config ∙ sym other.config;
    state = state_same;
    text = text_same;
    size = is.journal.whole ∙ ap text_size text_same ∙ sym other.journal.whole;
    limit = sym is.known.limit ∙ ap (λ (l : Log). l.limit) log_same ∙ other.known.limit;
    generation = sym is.known.generation ∙ ap (λ (l : Log). l.generation) log_same ∙ other.known.generation;
    is_failed = is.known.is_open ∙ sym other.known.is_open;
  }

  same_sent : sent ≡ other_sent
  same_sent =
      sent_is seen failures config first second text generation m sent is counts ∙ ap (sent_in config text.0) durable_same
      ∙ sym (sent_is other_seen other_failures config third fourth text generation n other_sent other other_counts)

pub opened_alike : {D E : Type 0} → OpeningsAreAlike D E
opened_alike {D} {E} seen failures other_seen other_failures config disks others turn other_turn place other_place first second (m, stands, is, said) (n, other_stands, other, other_said) = record {
  master = m;
  stands = stands;
  other = n;
  other_stands = other_stands;
  same = same_master seen failures other_seen other_failures config disks.0 disks.1 others.0 others.1 text generation m n turn.sent.items other_turn.sent.items is told refl counts;
  sends = same_sent seen failures other_seen other_failures config disks.0 disks.1 others.0 others.1 text generation m n turn.sent.items other_turn.sent.items is told refl counts;
  says = said ∙ sym other_said;
}
  where
    text : Text
    text = standing (seen disks.0) (seen disks.1)

    generation : ℕ
    generation = generation_standing (seen disks.0) (seen disks.1)

    told : IsOpened other_seen other_failures config others.0 others.1 text limit n other_turn.sent.items
    told = subst (λ (t : Text). IsOpened other_seen other_failures config others.0 others.1 t limit n other_turn.sent.items) (λ i. standing (sym first i) (sym second i)) other

    counts : generation_standing (other_seen others.0) (other_seen others.1) ≡ generation
    counts = λ i. generation_standing (sym first i) (sym second i)
