-- What the records of a journal tell, and the master that it is then.
use Rattle.std.proofs.Common.{◌≡◌, ◌⊎◌, inl, inr, ◌∙◌, ◌+◌, ◌≤◌, ◌<◌, ℕ, zero, suc, Bool, true, false, List, [], ◌∷◌, map, length, ap, subst, sym, ◌==◌, arith}
use Rattle.std.specs.Prelude.{Option, Some, None, Result, Ok, Err, is_some, if◌then◌else◌, ◌&&◌}
use Rattle.std.specs.List.{AllByRecursion}
use Rattle.std.proofs.lemmas.Bool.{false≢true}
use Rattle.std.proofs.lemmas.List.{append-nil, length-map}
use Rattle.gs_base.specs.declared.config.Config.{Config}
use Rattle.gs_base.specs.declared.refusal.Refusal.{Refusal}
use Rattle.gs_base.specs.declared.refusal.Refusal.TheVariants as refusals
use Rattle.gs_journal.specs.Journal.{State as Journal, Stands, Stays, checkpointed, counting, failures_of_both}
use Rattle.gs_journal.specs.Records.{Entry as Record, Text, fresh, header_length, body_length, is_whole, entry_of, is_begun, second_counts, standing, text_of, records_behind as behind_gates}
use Rattle.gs_journal.specs.declared.version.Version.{Version}
use Rattle.gs_journal.specs.declared.version.Version.TheVariants as versions
use Rattle.gs_msg.specs.declared.message.Message.{Message}
use Rattle.gs_master_record.specs.Encoding.{encoded}
use Rattle.gs_master_record.specs.Plain.{PlainEntry, Whole, plain}
use Rattle.gs_master_record.specs.Writable.{IsEntry}
use Rattle.gs_master_record.specs.declared.entry.Entry.{Entry}
use Rattle.gs_master_spec.specs.Applied.{counted_behind, is_whole_entry, records_behind, replayed}
use Rattle.gs_master_spec.specs.Durable.{Durable, start}
use Rattle.gs_master_spec.specs.Handling.{answered_or, checkpoint_body, recover, recovered_from, reopened, restarted, told_again, written, written_unless}
use Rattle.gs_master.specs.Journaled.{IsLogOf}
use Rattle.gs_master_state.specs.inner.Plans.{log_of}
use Rattle.gs_master_state.specs.inner.Recorded.{durable_of}
use Rattle.gs_master_guard.specs.Reading.{AreRecordsOf}
use Rattle.gs_master.specs.Recovering.{IsAnew, IsLeft, IsRecovered, IsRested, StaysOpen, TellsDurable, Updates, WhyNotRecovered, log_behind_last, log_in}
use Rattle.gs_master.specs.inner.Renewing.{AreCutAnew, AreRenewed, BreaksLast, Renews}
use Rattle.gs_master_plan.specs.Renewable.{renewal_refusal}
use Rattle.gs_master.specs.inner.StartingOver.{IsBegun}
use Rattle.gs_master_spec.specs.State.{Log, State, Turn, and_then}
use Rattle.gs_master_state.specs.inner.TakingBack.{RoomForAll}
use Rattle.gs_master.specs.inner.Turns.{IsUnderWay, state_at}
use Rattle.gs_master_spec.specs.Whole.{checkpoint_of}
use Rattle.gs_master.specs.declared.event.Event.{Event}

-- the records of a text, which is of that version
pub read_of : (text : Text) (version : Version) (read : List Record) (items held : List Entry) → version ≡ text.0 → read ≡ text.1 → held ≡ items → AreRecordsOf version read (map plain items) → AreRecordsOf text.0 text.1 (map plain held)
read_of text version read items held v r h are = record {
  written = sym r ∙ are.written ∙ (λ i. map (encoded (v i)) (map plain (sym h i)));
  are_entries = subst (λ version. AllByRecursion (IsEntry version) (map plain held)) v (subst (λ items. AllByRecursion (IsEntry version) (map plain items)) (sym h) are.are_entries);
}

abbrev pub same_result : Result Version Refusal → Result Version Refusal → Type 0
same_result a b = a ≡ b

pub version_is : (failed : Bool) (version told : Version) → failed ≡ false → same_result (Ok version) (if failed then Err refusals.Device else Ok told) → version ≡ told
version_is true version told is same = absurd (false≢true (sym is))
version_is false version told is same = cc

-- ---- each record takes bytes

one_less : (c n many k : ℕ) → c ≤ n + k → n ≤ many + 1 → c ≤ many + suc k
one_less c n many k below next = omega arith

counted_up : (many : ℕ) (entries : List PlainEntry) → counted_behind many entries ≤ many + length entries
counted_up many [] = omega arith
counted_up many (e ∷ es) = one_less (counted_behind (next (is_whole_entry e)) es) (next (is_whole_entry e)) many (length es) (counted_up (next (is_whole_entry e)) es) (at (is_whole_entry e))
  where
    next : Bool → ℕ
    next b = if b then 0 else many + 1

    at : (b : Bool) → next b ≤ many + 1
    at true = omega arith
    at false = omega arith

few_behind : (skip : ℕ) (bytes : List ℕ) → length (behind_gates skip bytes) ≤ length bytes
few_behind zero [] = omega arith
few_behind (suc skip) [] = omega arith
few_behind (suc skip) (byte ∷ bytes) = omega (arith, few_behind skip bytes)
few_behind zero (gate ∷ bytes) = at ((gate == 1) && is_whole bytes) (few_behind (5 + body_length bytes) bytes)
  where
    at : (b : Bool) → length (behind_gates (5 + body_length bytes) bytes) ≤ length bytes → length (if b then entry_of bytes ∷ behind_gates (5 + body_length bytes) bytes else []) ≤ suc (length bytes)
    at true few = omega (arith, few)
    at false few = omega arith

few_standing : (a b : List ℕ) → length (standing a b).1 ≤ length (counting a b)
few_standing a b = at (second_counts a b) (is_begun a)
  where
    at : (second first : Bool) → length (if second then text_of b else (if first then text_of a else fresh)).1 ≤ length (if second then b else a)
    at true first = few_behind header_length b
    at false true = few_behind header_length a
    at false false = omega arith

within : (n m k l s : ℕ) → n ≤ 0 + m → m ≡ k → k ≤ l → l ≡ s → n ≤ s
within n m k l s a b c d = omega arith

same_within : (n m k l : ℕ) → n ≡ m → l ≡ k → m ≤ k → n ≤ l
same_within n m k l a b c = omega arith

pub counted_within : {D : Type 0} (seen : D → List ℕ) (may_leave : D → List ℕ → Type 0) (j : Journal D) (entries : List PlainEntry) (records size : ℕ) → Stands seen may_leave j → AreRecordsOf j.text.0 j.text.1 entries →
    records ≡ records_behind entries → size ≡ j.size → records ≤ size
counted_within seen may_leave j entries records size stands are r s =
    same_within records (records_behind entries) j.size size r s (within (records_behind entries) (length entries) (length (standing (seen j.first) (seen j.second)).1) (length (counting (seen j.first) (seen j.second))) j.size (counted_up 0 entries)
    (sym (length-map entries (encoded j.text.0)) ∙ ap length (sym are.written) ∙ ap (λ t. length t.1) (sym stands.text)) (few_standing (seen j.first) (seen j.second)) stands.size)

-- ---- what a recovery gives

abbrev behind : Log → List PlainEntry → Log
behind log entries = record log { records = records_behind entries }

unfit : (config : Config) (version : Version) (entries : List PlainEntry) (log : Log) → replayed start entries ≡ None → recover config version entries log ≡ Err refusals.BadLine
unfolding recover
unfit config version entries log none = ap (recovered_from config version (behind log entries)) none

module _ (config : Config) (entries : List PlainEntry) (log : Log) (d : Durable) (replays : replayed start entries ≡ Some d) where
  abbrev rests : State
  rests = restarted d (behind log entries)

  abbrev turn_two : Turn
  turn_two = record { after = rests; records = []; sent = told_again config d; said = None }

  abbrev turn_one : Turn
  turn_one = record { after = (written rests).after; records = Whole (checkpoint_of d) ∷ []; sent = told_again config d; said = None }

  recovers_two : recover config versions.Two entries log ≡ Ok turn_two
  unfolding recover
  recovers_two = ap (recovered_from config versions.Two (behind log entries)) replays

  abbrev one_if : Option Refusal → Result Turn Refusal
  one_if refusal = let t = and_then (written_unless rests refusal) (reopened config) in answered_or t t.said

  recovers_one : renewal_refusal rests ≡ None → recover config versions.One entries log ≡ Ok turn_one
  unfolding recover
  recovers_one none = ap (recovered_from config versions.One (behind log entries)) replays ∙ ap one_if none

  refuses_one : (e : Refusal) → renewal_refusal rests ≡ Some e → recover config versions.One entries log ≡ Err e
  unfolding recover
  refuses_one e some = ap (recovered_from config versions.One (behind log entries)) replays ∙ ap one_if some

-- ---- a checkpoint in the place of all

no_records : (n m : ℕ) → n < m → m ≡ 0 → ⊥
no_records n m below none = omega arith

none_counted : (records size : ℕ) → records ≡ 0 → records ≤ size
none_counted records size none = omega arith

module _ {D : Type 0} (seen : D → List ℕ) (may_leave : D → List ℕ → Type 0) (failures : D → ℕ) (old new : Event) (old_journal new_journal : Journal D) (begun : IsBegun old) (log : IsLogOf (log_of old.log) old_journal) where
  abbrev ends : Type 0
  ends = AreRenewed seen may_leave failures (log_of old.log) old old_journal new new_journal ⊎ ((place : ℕ) × AreCutAnew seen failures (durable_of old.recorded) (log_of old.log) place old old_journal new new_journal)

  pub whole_anew : renewal_refusal (state_at old) ≡ None → ends → is_some new.said ≡ false → IsAnew seen may_leave failures old old_journal new new_journal
  whole_anew unrefused (inr (place, cut)) unsaid = absurd (false≢true (sym unsaid ∙ ap is_some cut.0.says))
  whole_anew unrefused (inl (is, written_to)) unsaid = record {
    unrefused = unrefused;
    after = is.after;
    begun = record {
      undos = is.over.undos;
      entries = is.over.entries;
      written = is.over.written;
      memory = ap (λ m. m.before) is.over.memory;
      said = is.says ∙ begun.said;
    };
    ready = record {
      room = subst (RoomForAll new.recorded) (sym is.over.undos) tt;
      counted = none_counted new.log.records new.log.size (ap (λ (s : State). s.log.records) is.after);
    };
    renews = (written_to log).0;
    log = (written_to log).1;
  }

  pub cut_anew : ends → is_some new.said ≡ true → BreaksLast seen failures old_journal [] (checkpoint_body (durable_of old.recorded)) new_journal
  cut_anew (inl (is, written_to)) said = absurd (false≢true (ap is_some (sym (is.says ∙ begun.said)) ∙ said))
  cut_anew (inr (place, cut)) said = elim (cut.1 log) [
    | inl early ↦ absurd (no_records place (length old.written.items) early.0 (ap length begun.written))
    | inr last ↦ subst (λ records. BreaksLast seen failures old_journal records (checkpoint_body (durable_of old.recorded)) new_journal) begun.written last.1
  ]

-- ---- what the master is opened with

-- messages are put to what is left
begun_with : (f g : Event) → g ≡ record f { sent = g.sent } → IsBegun f → IsBegun g
begun_with f g parts is = record {
  undos = ap (λ (g : Event). g.undos.items) parts ∙ is.undos;
  entries = ap (λ (g : Event). g.entries.items) parts ∙ is.entries;
  written = ap (λ (g : Event). g.written.items) parts ∙ is.written;
  memory = ap (λ (g : Event). g.memory.before) parts ∙ is.memory ∙ sym (ap (λ (g : Event). g.memory.now) parts);
  said = ap (λ (g : Event). g.said) parts ∙ is.said;
}

ready_with : (f g : Event) → g ≡ record f { sent = g.sent } → IsUnderWay f → IsUnderWay g
ready_with f g parts is = subst IsUnderWay (sym parts) (record { room = is.room; counted = is.counted })

log_with : (f g : Event) → g ≡ record f { sent = g.sent } → log_of g.log ≡ log_of f.log
log_with f g parts = ap (λ (g : Event). log_of g.log) parts

-- the journal's records were read, and it stands as it stood
pub record IsRead {D : Type 0} (seen : D → List ℕ) (may_leave : D → List ℕ → Type 0) (failures : D → ℕ) (old mid : Journal D) : Type 0 where
  pub stays : Stays old mid
  pub stands : Stands seen may_leave mid
  pub quiet : failures_of_both failures mid ≡ failures_of_both failures old

module _ {D : Type 0} (seen : D → List ℕ) (may_leave : D → List ℕ → Type 0) (failures : D → ℕ) (config : Config) (old mid : Journal D) (is : IsRead seen may_leave failures old mid) where
  pub stays_open : StaysOpen failures old mid
  stays_open = record { stays = is.stays; is_open = is.stands.is_open; quiet = is.quiet }

  pub not_told : (version : Version) → version ≡ old.text.0 → (records : List Record) → records ≡ old.text.1 → ((entries : List PlainEntry) → ¬ AreRecordsOf version records entries) → (entries : List PlainEntry) → ¬ AreRecordsOf old.text.0 old.text.1 entries
  not_told version v records r none entries are =
      none entries (subst (λ version. AreRecordsOf version records entries) (sym v) (subst (λ records. AreRecordsOf old.text.0 records entries) (sym r) are))

  same_log : (entries : List PlainEntry) → log_behind_last mid entries ≡ log_behind_last old entries
  same_log entries = λ i. record { records = records_behind entries; size = is.stays.size i; limit = is.stays.limit i; generation = is.stays.generation i }

  module _ (entries : List PlainEntry) (are : AreRecordsOf old.text.0 old.text.1 entries) where
    pub not_rested : replayed start entries ≡ None → WhyNotRecovered failures config old mid refusals.BadLine
    not_rested none = inl (stays_open, inr (inr (entries, are, unfit config old.text.0 entries (log_in old) none)))

    module _ (e f : Event) (new : Journal D) (rest : IsRested mid entries e) where
      abbrev d : Durable
      d = rest.durable

      state : state_at e ≡ rests config entries (log_in old) d rest.replays
      state = rest.state ∙ ap (restarted d) (same_log entries)

      durable : durable_of e.recorded ≡ d
      durable = ap (λ (s : State). s.durable) rest.state

      tells : TellsDurable old.text entries d
      tells = record { records = are; replays = rest.replays }

      knows : IsLogOf (log_of e.log) mid
      knows = record {
        is_open = is.stands.is_open;
        size = ap (λ (s : State). s.log.size) rest.state;
        limit = ap (λ (s : State). s.log.limit) rest.state;
        generation = ap (λ (s : State). s.log.generation) rest.state;
      }

      renewed : (body : List ℕ) → Renews seen may_leave failures mid body new → Renews seen may_leave failures old body new
      renewed body renews = record {
        made = record {
          text = renews.made.text;
          size = renews.made.size;
          fits = renews.made.fits;
          limit = renews.made.limit ∙ is.stays.limit;
          generation = renews.made.generation ∙ ap (λ n. n + 1) is.stays.generation;
        };
        is_open = renews.is_open;
        quiet = renews.quiet ∙ is.quiet;
        stands = renews.stands;
      }

      refusal_of : renewal_refusal (state_at e) ≡ renewal_refusal (rests config entries (log_in old) d rest.replays)
      refusal_of = ap renewal_refusal state

      told : (sent : List Message) → sent ≡ told_again config (durable_of e.recorded) → sent ≡ told_again config d
      told sent same = same ∙ ap (told_again config) durable

      pub opened : (version : Version) → version ≡ old.text.0 → Updates seen may_leave failures version e mid (Ok tt) f new → (g : Event) → g ≡ record f { sent = g.sent } → g.sent.items ≡ told_again config (durable_of e.recorded) →
          IsRecovered seen may_leave failures config old new g
      opened versions.Two v (stays, same) g parts sent = record {
        entries = entries;
        durable = d;
        tells = tells;
        turn = turn_two config entries (log_in old) d rest.replays;
        recovers = ap (λ version. recover config version entries (log_in old)) (sym v) ∙ recovers_two config entries (log_in old) d rest.replays;
        after = ap state_at parts ∙ ap state_at stays ∙ state;
        sent = told g.sent.items sent;
        begun = begun_with f g parts (subst IsBegun (sym stays) rest.begun);
        ready = ready_with f g parts (subst IsUnderWay (sym stays) rest.ready);
        journal = subst (λ version. IsLeft seen may_leave failures version d old new) v
            (subst (λ j. Stays old j × (Stands seen may_leave j × (failures_of_both failures j ≡ failures_of_both failures old))) (sym same) (is.stays, (is.stands, is.quiet)));
        log = subst (λ (log : Log). IsLogOf log new) (sym (log_with f g parts ∙ ap (λ (f : Event). log_of f.log) stays)) (subst (IsLogOf (log_of e.log)) (sym same) knows);
      }
      opened versions.One v anew g parts sent = record {
        entries = entries;
        durable = d;
        tells = tells;
        turn = turn_one config entries (log_in old) d rest.replays;
        recovers = ap (λ version. recover config version entries (log_in old)) (sym v) ∙ recovers_one config entries (log_in old) d rest.replays (sym refusal_of ∙ anew.unrefused);
        after = ap state_at parts ∙ anew.after ∙ ap (λ s. (written s).after) state;
        sent = told g.sent.items sent;
        begun = begun_with f g parts anew.begun;
        ready = ready_with f g parts anew.ready;
        journal = subst (λ version. IsLeft seen may_leave failures version d old new) v
            (renewed (checkpoint_body d) (subst (λ d. Renews seen may_leave failures mid (checkpoint_body d) new) durable anew.renews));
        log = subst (λ (log : Log). IsLogOf log new) (sym (log_with f g parts)) anew.log;
      }

      pub not_opened : (version : Version) → version ≡ old.text.0 → (x : Refusal) → Updates seen may_leave failures version e mid (Err x) f new → WhyNotRecovered failures config old new x
      not_opened versions.Two v x never = absurd never
      not_opened versions.One v x (inl (same, inl memory)) = inl (subst (StaysOpen failures old) (sym same) stays_open, inl memory)
      not_opened versions.One v x (inl (same, inr refusal)) = inl (
        subst (StaysOpen failures old) (sym same) stays_open,
        inr (inr (entries, are, ap (λ version. recover config version entries (log_in old)) (sym v) ∙ refuses_one config entries (log_in old) d rest.replays x (sym refusal_of ∙ refusal))),
      )
      not_opened versions.One v x (inr (device, broken)) = inr (
        device,
        record {
          cause = subst (λ n. n < failures_of_both failures new) is.quiet broken.cause;
          closed = broken.closed;
          text = elim broken.text [
            | inl stood ↦ inl (stood ∙ ap (λ records. (mid.text.0, records)) (append-nil mid.text.1) ∙ is.stays.text)
            | inr made ↦ inr (entries, d, tells, sym v, made ∙ ap (λ d. checkpointed (checkpoint_body d)) durable)
          ];
        },
      )
