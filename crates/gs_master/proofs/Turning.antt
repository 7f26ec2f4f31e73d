-- That an event which is finished answers, and that the journal tells what stands then.
use Rattle.std.proofs.Common.{◌≡◌, ◌⊎◌, inl, inr, ◌∙◌, ◌+◌, ◌<◌, ◌++◌, ℕ, suc, zero, true, false, List, [], ◌∷◌, map, length, take, drop, refl, ap, arith, subst, sym, append-nil, append_assoc}
use Rattle.std.specs.Prelude.{Option, Some, None, fold, is_some, slice_get, option_and_then, unwrap_or, Result, Ok, Err}
use Rattle.std.specs.List.{AllByRecursion}
use Rattle.std.proofs.lemmas.Bool.{false≢true}
use Rattle.std.proofs.lemmas.List.{map-append, take-append-drop, take-map}
use Rattle.gs_base.specs.declared.config.Config.{Config}
use Rattle.gs_base.specs.declared.numbers.ReqId.{ReqId}
use Rattle.gs_base.specs.declared.refusal.Refusal.{Refusal}
use Rattle.gs_journal.specs.Journal.{State as Journal, failures_of_both}
use Rattle.gs_journal.specs.Records.{Text}
use Rattle.gs_journal.specs.declared.version.Version.TheVariants.{Two}
use Rattle.gs_master_record.specs.Encoding.{encoded}
use Rattle.gs_master_record.specs.Plain.{PlainEntry}
use Rattle.gs_master_record.specs.Writable.{IsEntry}
use Rattle.gs_master_spec.specs.Applied.{applied, replayed}
use Rattle.gs_master_spec.specs.Durable.{Durable}
use Rattle.gs_master.specs.inner.Events.{log_behind}
use Rattle.gs_master.specs.Finishing.{Finishes, IsCutShort, IsFinished}
use Rattle.gs_master.specs.Journaled.{Breaks, Gains, IsAsSeen, IsLogOf, StandUpTo, text_seen}
use Rattle.gs_master.specs.Masters.{MasterAnswers, DoubtLeaves, Holds, IsAnswered, IsAnsweredUnsure, IsHeld, IsTold, LeavesText, MasterOf}
use Rattle.gs_master_state.specs.inner.Recorded.{durable_of}
use Rattle.gs_master_spec.specs.State.{Fault, Sound, Failed, Unopened, Log, State, Turn, is_failed}
use Rattle.gs_master.specs.inner.Turns.{state_at}
use Rattle.gs_master.specs.declared.event.Event.{Event}
use Rattle.gs_master.specs.declared.turn.Turn.{Turn as Told}
use Rattle.gs_master.proofs.Composing.{all_front, all_joined, replayed_both}
use Rattle.gs_master.proofs.Entered.{recorded_as}

-- ---- records that are replayed

is_before : (o : Option Durable) (next : Durable → Option Durable) (last : Durable) → option_and_then next o ≡ Some last → (mid : Durable) × ((o ≡ Some mid) × (next mid ≡ Some last))
is_before None next last none = absurd (false≢true (ap is_some none))
is_before (Some mid) next last is = (mid, (refl, is))

-- records behind others, each of which fits
pub replayed_behind : (first d last : Durable) (es fs : List PlainEntry) → replayed first es ≡ Some d → replayed d fs ≡ Some last → replayed first (es ++ fs) ≡ Some last
replayed_behind first d last es fs one other = replayed_both first es fs ∙ ap (option_and_then (λ next. replayed next fs)) one ∙ other

-- the first of records that all fit
pub front_fits : (d last : Durable) (es : List PlainEntry) (place : ℕ) → replayed d es ≡ Some last → (mid : Durable) × (replayed d (take place es) ≡ Some mid)
front_fits d last es place fits =
    let two = sym (replayed_both d (take place es) (drop place es)) ∙ ap (replayed d) (take-append-drop place es) ∙ fits in
    let mid = is_before (replayed d (take place es)) (λ next. replayed next (drop place es)) last two in (mid.0, mid.1.0)

-- a record in doubt stands or doesn't
in_doubt : (rs : List PlainEntry) (place : ℕ) (d mid found : Durable) → place < length rs → replayed d (take place rs) ≡ Some mid → replayed d (take (suc place) rs) ≡ Some found → DoubtLeaves (slice_get rs place) mid found
in_doubt [] place d mid found below one two = absurd (omega arith)
in_doubt (e ∷ es) zero d mid found below one two =
    let next = is_before (applied d e) Some found two in
    inr (inl (subst (λ x. applied x e ≡ Some found) (ap (λ o. unwrap_or o d) one) (next.1.0 ∙ next.1.1)))
in_doubt (e ∷ es) (suc place) d mid found below one two =
    let a = is_before (applied d e) (λ next. replayed next (take place es)) mid one in
    let b = is_before (applied d e) (λ next. replayed next (take (suc place) es)) found two in
    in_doubt es place a.0 mid found (omega arith) a.1.1 (subst (λ x. replayed x (take (suc place) es) ≡ Some found) (ap (λ o. unwrap_or o d) (sym b.1.0 ∙ a.1.0)) b.1.1)

-- what is left of a text, the records being written
pub left_by : (old new : Text) (rs : List PlainEntry) (place : ℕ)
    → StandUpTo (map (encoded Two) rs) place old new → LeavesText rs place old new
left_by old new rs place (inl text) = inl (text ∙ (λ i. (old.0, old.1 ++ take-map (encoded Two) place rs i)))
left_by old new rs place (inr text) = inr (text ∙ (λ i. (old.0, old.1 ++ take-map (encoded Two) (place + 1) rs i)))

without_doubt : (doubt : Option PlainEntry) (d : Durable) → DoubtLeaves doubt d d
without_doubt None d = refl
without_doubt (Some entry) d = inl refl

-- ---- what the journal tells

pub told_more : {D : Type 0} (d last : Durable) (j k : Journal D) (rs : List PlainEntry) → IsTold d j → AllByRecursion (IsEntry Two) rs → replayed d rs ≡ Some last → k.text ≡ (j.text.0, j.text.1 ++ map (encoded Two) rs) → IsTold last k
told_more d last j k rs told are fit text = record {
  first = told.first;
  base = told.base;
  entries = told.entries ++ rs;
  begins = told.begins;
  text =
      text ∙ (λ i. ((told.text i).0, (told.text i).1 ++ map (encoded Two) rs))
      ∙ (λ i. (Two, append_assoc told.first (map (encoded Two) told.entries) (map (encoded Two) rs) i))
      ∙ (λ i. (Two, told.first ++ sym (map-append (encoded Two) told.entries rs) i));
  are_entries = all_joined (IsEntry Two) told.entries rs told.are_entries are;
  replays = replayed_behind told.base d last told.entries rs told.replays fit;
}

module _ {D : Type 0} (seen : D → List ℕ) (may_leave : D → List ℕ → Type 0) (failures : D → ℕ) where
  -- where a turn is done
  stays : (f : Fault) (d last : Durable) (log after : Log) (j k : Journal D) (rs : List PlainEntry) → Holds seen may_leave d log j f → (is_failed f ≡ true → rs ≡ []) → (rs ≡ [] → k ≡ j) →
      AllByRecursion (IsEntry Two) rs → replayed d rs ≡ Some last → (IsLogOf log j → Gains seen may_leave failures j (map (encoded Two) rs) k × IsLogOf after k) → Holds seen may_leave last after k f
  stays Sound d last log after j k rs (stands, (is, told)) idle still are fit gains =
      let gained = gains is in (gained.0.stands stands, (gained.1, told_more d last j k rs told are fit gained.0.text))
  stays (Failed doubt) d last log after j k rs held idle still are fit gains =
      let none = idle refl in
      let same = ap (λ o. unwrap_or o d) (sym (ap (replayed d) none) ∙ fit) in
      subst (λ x. Holds seen may_leave x after k (Failed doubt)) same (subst (λ x. Holds seen may_leave d after x (Failed doubt)) (sym (still none)) held)
  stays (Unopened doubt) d last log after j k rs held idle still are fit gains = subst (λ x. Holds seen may_leave last after x (Unopened doubt)) (sym (still (idle refl))) held

  stand_behind : (f : Fault) (d : Durable) (log after : Log) (j k : Journal D) (rs : List PlainEntry) → Holds seen may_leave d log j f → (is_failed f ≡ true → rs ≡ []) → (rs ≡ [] → k ≡ j) →
      (IsLogOf log j → Gains seen may_leave failures j (map (encoded Two) rs) k × IsLogOf after k) → k.text ≡ (j.text.0, j.text.1 ++ map (encoded Two) rs)
  stand_behind Sound d log after j k rs (stands, (is, told)) idle still gains = (gains is).0.text
  stand_behind (Failed doubt) d log after j k rs held idle still gains = unchanged (idle refl) (still (idle refl))
    where
      unchanged : rs ≡ [] → k ≡ j → k.text ≡ (j.text.0, j.text.1 ++ map (encoded Two) rs)
      unchanged none same = ap (λ (x : Journal D). x.text) same ∙ (λ i. (j.text.0, sym (append-nil j.text.1) i)) ∙ (λ i. (j.text.0, j.text.1 ++ map (encoded Two) (sym none i)))
  stand_behind (Unopened doubt) d log after j k rs held idle still gains = unchanged (idle refl) (still (idle refl))
    where
      unchanged : rs ≡ [] → k ≡ j → k.text ≡ (j.text.0, j.text.1 ++ map (encoded Two) rs)
      unchanged none same = ap (λ (x : Journal D). x.text) same ∙ (λ i. (j.text.0, sym (append-nil j.text.1) i)) ∙ (λ i. (j.text.0, j.text.1 ++ map (encoded Two) (sym none i)))

  stay_quiet : (f : Fault) (d : Durable) (log after : Log) (j k : Journal D) (rs : List PlainEntry) → Holds seen may_leave d log j f → (is_failed f ≡ true → rs ≡ []) → (rs ≡ [] → k ≡ j) →
      (IsLogOf log j → Gains seen may_leave failures j (map (encoded Two) rs) k × IsLogOf after k) → failures_of_both failures k ≡ failures_of_both failures j
  stay_quiet Sound d log after j k rs (stands, (is, told)) idle still gains = (gains is).0.quiet
  stay_quiet (Failed doubt) d log after j k rs held idle still gains = ap (failures_of_both failures) (still (idle refl))
  stay_quiet (Unopened doubt) d log after j k rs held idle still gains = ap (failures_of_both failures) (still (idle refl))

  -- where no disk has failed the journal is as its disks are seen, and the master knows its room
  pub known_of : (s : State) (k : Journal D) → IsHeld seen may_leave s k → is_failed s.fault ≡ false → IsAsSeen seen k × IsLogOf s.log k
  known_of s k held sound = by_fault s.fault held sound
    where
      by_fault : (f : Fault) → Holds seen may_leave s.durable s.log k f → is_failed f ≡ false → IsAsSeen seen k × IsLogOf s.log k
      by_fault Sound (stands, (is, told)) sound = (record { text = stands.text; size = stands.size; generation = stands.generation; whole = stands.whole }, is)
      by_fault (Failed doubt) held sound = absurd (false≢true (sym sound))
      by_fault (Unopened doubt) held sound = absurd (false≢true (sym sound))

  -- where a disk failed
  pub breaks : (f : Fault) (d last mid : Durable) (log after : Log) (j k : Journal D) (rs : List PlainEntry) (place : ℕ) → Holds seen may_leave d log j f → (is_failed f ≡ true → rs ≡ []) → place < length rs →
      AllByRecursion (IsEntry Two) rs → replayed d rs ≡ Some last → replayed d (take place rs) ≡ Some mid → (IsLogOf log j → Breaks seen failures j (map (encoded Two) rs) place k) →
      (failures_of_both failures j < failures_of_both failures k) × Holds seen may_leave mid after k (Failed (slice_get rs place))
  breaks (Failed doubt) d last mid log after j k rs place held idle below are fit front broke = let none = ap length (idle refl) in absurd (omega arith)
  breaks (Unopened doubt) d last mid log after j k rs place held idle below are fit front broke = let none = ap length (idle refl) in absurd (omega arith)
  breaks Sound d last mid log after j k rs place (stands, (is, told)) idle below are fit front broke = (broken.cause, (broken.closed, by_text broken.text))
    where
      broken : Breaks seen failures j (map (encoded Two) rs) place k
      broken = broke is

      front_told : (n : ℕ) (x : Durable) → replayed d (take n rs) ≡ Some x → k.text ≡ (j.text.0, j.text.1 ++ take n (map (encoded Two) rs)) → IsTold x k
      front_told n x fits text =
          told_more d x j k (take n rs) told (all_front (IsEntry Two) (take n rs) (drop n rs) (subst (AllByRecursion (IsEntry Two)) (sym (take-append-drop n rs)) are)) fits
          (text ∙ (λ i. (j.text.0, j.text.1 ++ take-map (encoded Two) n rs i)))

      by_text : ((k.text ≡ (j.text.0, j.text.1 ++ take place (map (encoded Two) rs))) ⊎ (k.text ≡ (j.text.0, j.text.1 ++ take (place + 1) (map (encoded Two) rs)))) →
          (found : Durable) × (DoubtLeaves (slice_get rs place) mid found × IsTold found k)
      by_text (inl text) = (mid, (without_doubt (slice_get rs place) mid, front_told place mid front text))
      by_text (inr text) =
          let next : place + 1 ≡ suc place = omega arith in
          let found = front_fits d last rs (suc place) fit in
          (found.0, (in_doubt rs place d mid found.0 below front found.1, front_told (suc place) found.0 found.1 (text ∙ (λ i. (j.text.0, j.text.1 ++ take (next i) (map (encoded Two) rs))))))

  -- what is left of the text, and what the disks are seen to say
  pub left_text : (f : Fault) (d : Durable) (log : Log) (j k : Journal D) (rs : List PlainEntry) (place : ℕ) → Holds seen may_leave d log j f → (is_failed f ≡ true → rs ≡ []) → place < length rs →
      (IsLogOf log j → Breaks seen failures j (map (encoded Two) rs) place k) → LeavesText rs place j.text k.text × LeavesText rs place j.text (text_seen seen k)
  left_text Sound d log j k rs place (stands, (is, told)) idle below broke =
      let broken = broke is in (left_by j.text k.text rs place broken.text, left_by j.text (text_seen seen k) rs place broken.shown)
  left_text (Failed doubt) d log j k rs place held idle below broke = let none = ap length (idle refl) in absurd (omega arith)
  left_text (Unopened doubt) d log j k rs place held idle below broke = let none = ap length (idle refl) in absurd (omega arith)

  -- ---- the master

  module _ (config : Config) (caller : Option ReqId) (t : Turn) (begun : Event) (j : Journal D) (held : IsHeld seen may_leave (state_at begun) j) (idle : is_failed (state_at begun).fault ≡ true → t.records ≡ []) (e : Event) (k : Journal D) where
    abbrev pub at : Event → Journal D → MasterOf D
    at x y = record { config = config; state = state_at x; journal = y }

    done_held : (told : Told) → IsFinished seen may_leave failures t begun j told e k → IsHeld seen may_leave (state_at e) k
    done_held told is =
        subst (Holds seen may_leave (durable_of e.recorded) (state_at e).log k) (sym is.fault)
        (stays (state_at begun).fault (durable_of begun.recorded) (durable_of e.recorded) (state_at begun).log (state_at e).log j k t.records held idle is.still is.are_entries is.replays is.gains)

    done : (told : Told) → IsFinished seen may_leave failures t begun j told e k → IsAnswered seen failures t (at begun j) told (at e k) × IsHeld seen may_leave (state_at e) k
    done told is = (
      record {
        done = is.done;
        fault = is.fault;
        as_seen = λ sound. (known_of (state_at e) k (done_held told is) sound).0;
        known = λ sound. (known_of (state_at e) k (done_held told is) sound).1;
        fit = is.replays;
        are_entries = is.are_entries;
        text = stand_behind (state_at begun).fault (durable_of begun.recorded) (state_at begun).log (state_at e).log j k t.records held idle is.still is.gains;
        quiet = stay_quiet (state_at begun).fault (durable_of begun.recorded) (state_at begun).log (state_at e).log j k t.records held idle is.still is.gains;
        still = λ none. is.still none;
        config = refl;
      },
      done_held told is,
    )

    short : (told : Told) (place : ℕ) → IsCutShort seen failures caller t place begun j told e k → IsAnsweredUnsure seen failures (LeavesText t.records) caller t place (at begun j) told (at e k) × IsHeld seen may_leave (state_at e) k
    short told place is = (
      record {
        cut = is.cut;
        fit = mid.1 ∙ ap (λ (s : State). Some s.durable) (sym state);
        are_entries = is.are_entries;
        left = texts.0;
        shown = texts.1;
        cause = broke.0;
        closed = broke.1.0;
        config = refl;
      },
      subst (λ (s : State). IsHeld seen may_leave s k) (sym state) broke.1,
    )
      where
        mid : (mid : Durable) × (replayed (durable_of begun.recorded) (take place t.records) ≡ Some mid)
        mid = front_fits (durable_of begun.recorded) is.replays.0 t.records place is.replays.1

        texts : LeavesText t.records place j.text k.text × LeavesText t.records place j.text (text_seen seen k)
        texts = left_text (state_at begun).fault (durable_of begun.recorded) (state_at begun).log j k t.records place held idle is.cut.within is.breaks

        log : Log
        log = fold log_behind (state_at begun).log (take place t.records)

        state : state_at e ≡ record (state_at begun) { durable = mid.0; log = log; fault = Failed (slice_get t.records place) }
        state = is.cut.after ∙ ap (λ (s : State). record s { fault = Failed (slice_get t.records place) }) (recorded_as (state_at begun) (take place t.records) mid.0 mid.1)

        broke : (failures_of_both failures j < failures_of_both failures k) × Holds seen may_leave mid.0 log k (Failed (slice_get t.records place))
        broke = breaks (state_at begun).fault (durable_of begun.recorded) is.replays.0 mid.0 (state_at begun).log log j k t.records place held idle is.cut.within is.are_entries is.replays.1 mid.1 is.breaks

    pub answers : (result : Result Told Refusal) → Finishes seen may_leave failures caller t begun j result e k → MasterAnswers seen failures caller t (at begun j) result (at e k)
    answers (Ok told) (inl is) = inl (done told is).0
    answers (Ok told) (inr is) = inr (is.0, (short told is.0 is.1).0)
    answers (Err refusal) (why, (state, journal)) = (why, λ i. record { config = config; state = state i; journal = journal i })

    pub still_held : (result : Result Told Refusal) → Finishes seen may_leave failures caller t begun j result e k → IsHeld seen may_leave (state_at e) k
    still_held (Ok told) (inl is) = (done told is).1
    still_held (Ok told) (inr is) = (short told is.0 is.1).1
    still_held (Err refusal) (why, (state, journal)) = subst (λ (s : State). IsHeld seen may_leave s k) (sym state) (subst (IsHeld seen may_leave (state_at begun)) (sym journal) held)
