-- A checkpoint behind the records of an event: what it leaves of the master, and what it makes of the journal.
use Rattle.std.proofs.Common.{◌≡◌, inl, inr, ◌∙◌, ◌+◌, ◌<◌, ◌==◌, ◌||◌, ℕ, Bool, true, false, not, cond, List, [], ◌∷◌, ◌++◌, map, filter, length, take, get_or, refl, ap, subst, sym, arith, length-append}
use Rattle.std.specs.Prelude.{Option, Some, None, is_some, fold, nat_le, nat_lt, slice_get, if◌then◌else◌}
use Rattle.std.specs.Cmp.{nat_cmp_total}
use Rattle.std.specs.FinMap as fin
use Rattle.std.specs.List.{list_any}
use Rattle.std.specs.Ordering.{eq_by_cmp, is_eq, nat_cmp}
use Rattle.std.specs.declared.cmp.Ordering.{Ordering}
use Rattle.std.specs.declared.cmp.Ordering.TheVariants.{Less, Equal, Greater}
use Rattle.std.proofs.lemmas.Bool.{false≢true}
use Rattle.std.proofs.lemmas.Bool.Decides.{nat_tests}
use Rattle.std.proofs.lemmas.List.{get_or_append_left, take-append-le}
use Rattle.std.proofs.lemmas.Option.{slice_get-get_or}
use Rattle.std.proofs.Math.Seq.{get_or-append_seam, take-append_seam}
use Rattle.gs_base.specs.declared.refusal.Refusal.{Refusal}
use Rattle.gs_base.specs.declared.refusal.Refusal.TheVariants as refusals
use Rattle.gs_journal.specs.Drafts.{draft_refusal}
use Rattle.gs_journal.specs.Journal.{State as Journal, Closes, IsOldOrNew, MakesCheckpoint, Stands, checkpoint_size, checkpointed, failures_of_both, last_generation}
use Rattle.gs_journal.specs.Records.{Text}
use Rattle.gs_master_record.specs.Plain.{PlainEntry, plain}
use Rattle.gs_master_spec.specs.Durable.{Durable, Settled, is_listed}
use Rattle.gs_master.specs.inner.Events.{HasComeFrom}
use Rattle.gs_master_spec.specs.Handling.{checkpoint_body, still_new, tidied, unlisted, written}
use Rattle.gs_master.specs.Journaled.{Gains, IsLogOf, text_seen}
use Rattle.gs_master_spec.specs.Outcomes.{cut}
use Rattle.gs_master_state.specs.inner.Plans.{fault_of, log_of}
use Rattle.gs_master_state.specs.inner.Recorded.{durable_of}
use Rattle.gs_master.specs.inner.Renewing.{BreaksLast, Renews, StandOrNot}
use Rattle.gs_master_plan.specs.Renewable.{IsBehind, IsRenewalOf}
use Rattle.gs_master_spec.specs.State.{Failed, Log, State, first_of, is_failed, with_record}
use Rattle.gs_master.specs.inner.Turns.{state_at}
use Rattle.gs_master_spec.specs.Volatile.{Volatile}
use Rattle.gs_master.specs.declared.event.Event.{Event}
use Rattle.gs_master_plan.specs.declared.checkpoint.Renewal.{Renewal}
use Rattle.gs_master.proofs.Leading.{log_is}

-- ---- lists with one more at the end

pub last_of : (es : List PlainEntry) (e : PlainEntry) (n : ℕ) → n ≡ length es → slice_get (es ++ e ∷ []) n ≡ Some e
last_of es e n is =
    let more = length-append es (e ∷ []) in
    slice_get-get_or (es ++ e ∷ []) n e (omega arith) ∙ ap (λ k. Some (get_or (es ++ e ∷ []) k e)) is ∙ ap Some (get_or-append_seam es e [] e)

pub all_before : (es : List PlainEntry) (e : PlainEntry) (n : ℕ) → n ≡ length es → take n (es ++ e ∷ []) ≡ es
all_before es e n is = ap (λ k. take k (es ++ e ∷ [])) is ∙ take-append_seam es (e ∷ [])

-- an event that is cut at a record isn't changed by what would come behind
pub cut_before : (s : State) (es : List PlainEntry) (e : PlainEntry) (place : ℕ) → place < length es → cut s es place ≡ cut s (es ++ e ∷ []) place
cut_before s es e place below = λ i. record (fold with_record s (sym front i)) { fault = Failed (sym here i) }
  where
    front : take place (es ++ e ∷ []) ≡ take place es
    front = take-append-le place es (e ∷ []) (omega arith)

    here : slice_get (es ++ e ∷ []) place ≡ slice_get es place
    here =
        let more = length-append es (e ∷ []) in
        slice_get-get_or (es ++ e ∷ []) place e (omega arith) ∙ ap Some (get_or_append_left es (e ∷ []) e place below) ∙ sym (slice_get-get_or es place e below)

-- ---- chunks of which a checkpoint doesn't tell

merged : (a b : Bool) (o : Option Settled) → cond b None (cond a None o) ≡ cond (a || b) None o
merged true true o = refl
merged true false o = refl
merged false b o = refl

get_removed : (ks : List ℕ) (m : fin.FinMap nat_cmp Settled) (q : ℕ) → fin.get (fold fin.remove m ks) q ≡ cond (list_any (eq_by_cmp nat_cmp q) ks) None (fin.get m q)
get_removed [] m q = refl
get_removed (k ∷ ks) m q =
    get_removed ks (fin.remove m k) q ∙ ap (cond (list_any (eq_by_cmp nat_cmp q) ks) None) (fin.get-remove nat_cmp_total m k q) ∙ merged (eq_by_cmp nat_cmp q k) (list_any (eq_by_cmp nat_cmp q) ks) (fin.get m q)

equal_by : (r : Ordering) → is_eq r ≡ true → r ≡ Equal
equal_by Less is = absurd (false≢true is)
equal_by Equal is = refl
equal_by Greater is = absurd (false≢true is)

same_key : (q k : ℕ) → eq_by_cmp nat_cmp q k ≡ true → q ≡ k
same_key q k is = fin.nat_cmp-IsAntisymmetric q k (equal_by (nat_cmp q k) is)

abbrev found : (ℕ → Bool) → List ℕ → ℕ → Bool
found p ks q = list_any (eq_by_cmp nat_cmp q) (filter (λ k. not (p k)) ks)

-- a key that passes isn't among those that don't
passes : (p : ℕ → Bool) (ks : List ℕ) (q : ℕ) → p q ≡ true → found p ks q ≡ false
passes p [] q is = refl
passes p (k ∷ ks) q is = by_test (p k) refl (eq_by_cmp nat_cmp q k) refl (passes p ks q is)
  where
    by_test : (b : Bool) → p k ≡ b → (c : Bool) → eq_by_cmp nat_cmp q k ≡ c → found p ks q ≡ false → list_any (eq_by_cmp nat_cmp q) (cond (not b) (k ∷ filter (λ k. not (p k)) ks) (filter (λ k. not (p k)) ks)) ≡ false
    by_test true passed c same rest = rest
    by_test false passed true same rest = absurd (false≢true (sym passed ∙ ap p (sym (same_key q k same)) ∙ is))
    by_test false passed false same rest = ap (λ b. b || found p ks q) same ∙ rest

-- and one that doesn't is among them if it is there at all
fails : (p : ℕ → Bool) (ks : List ℕ) (q : ℕ) → p q ≡ false → found p ks q ≡ list_any (eq_by_cmp nat_cmp q) ks
fails p [] q is = refl
fails p (k ∷ ks) q is = by_test (p k) refl (eq_by_cmp nat_cmp q k) refl (fails p ks q is)
  where
    by_test : (b : Bool) → p k ≡ b → (c : Bool) → eq_by_cmp nat_cmp q k ≡ c → found p ks q ≡ list_any (eq_by_cmp nat_cmp q) ks
        → list_any (eq_by_cmp nat_cmp q) (cond (not b) (k ∷ filter (λ k. not (p k)) ks) (filter (λ k. not (p k)) ks)) ≡ list_any (eq_by_cmp nat_cmp q) (k ∷ ks)
    by_test false passed c same rest = ap (λ b. eq_by_cmp nat_cmp q k || b) rest
    by_test true passed true same rest = absurd (false≢true (sym is ∙ ap p (same_key q k same) ∙ passed))
    by_test true passed false same rest = rest ∙ sym (ap (λ b. b || list_any (eq_by_cmp nat_cmp q) ks) same)

none_left : (o : Option Settled) → cond (is_some o) None o ≡ None
none_left None = refl
none_left (Some s) = refl

pub all_tidied : (d : Durable) → fold fin.remove d.chunks (unlisted d) ≡ fin.retain_keys d.chunks (is_listed d)
all_tidied d = fin.same_map nat_cmp_total fin.nat_cmp-IsAntisymmetric _ _ (λ q.
    get_removed (unlisted d) d.chunks q ∙ by_test q (is_listed d q) refl
    ∙ sym (fin.get-retain_keys d.chunks (is_listed d) q (λ x tied. ap (is_listed d) (sym (fin.nat_cmp-IsAntisymmetric q x tied)))))
  where
    by_test : (q : ℕ) (b : Bool) → is_listed d q ≡ b → cond (found (is_listed d) (fin.keys d.chunks) q) None (fin.get d.chunks q) ≡ cond (is_listed d q) (fin.get d.chunks q) None
    by_test q true is =
        ap (λ b. cond b None (fin.get d.chunks q)) (passes (is_listed d) (fin.keys d.chunks) q is) ∙ sym (ap (λ b. cond b (fin.get d.chunks q) None) is)
    by_test q false is =
        ap (λ b. cond b None (fin.get d.chunks q)) (fails (is_listed d) (fin.keys d.chunks) q is ∙ sym (fin.contains_key-keys d.chunks q)) ∙ none_left (fin.get d.chunks q)
        ∙ sym (ap (λ b. cond b (fin.get d.chunks q) None) is)

-- ---- what is left of the master

pub renewed_gives : (old : Event) (r : Renewal) (now : Durable) (volatile : Volatile) (unlisted placed : List ℕ) → IsRenewalOf (state_at old) r →
    now ≡ record (durable_of old.recorded) { chunks = fold fin.remove (durable_of old.recorded).chunks unlisted } → unlisted ≡ r.unlisted.items →
    volatile ≡ record (old.memory.now) { moving = fold fin.remove old.memory.now.moving placed; unplaced = r.awaiting.items; taken_out = [] } → placed ≡ r.placed.items →
    record { durable = now; volatile = volatile; log = log_of r.log; fault = fault_of old.fault } ≡ (written (state_at old)).after
renewed_gives old r now volatile unlisted placed is d u v p = λ i. record { durable = durable i; volatile = kept i; log = is.log i; fault = fault_of old.fault }
  where
    durable : now ≡ tidied (durable_of old.recorded)
    durable =
        d ∙ ap (λ ks. record (durable_of old.recorded) { chunks = fold fin.remove (durable_of old.recorded).chunks ks }) (u ∙ is.unlisted)
        ∙ ap (λ m. record (durable_of old.recorded) { chunks = m }) (all_tidied (durable_of old.recorded))

    kept : volatile ≡ still_new (state_at old)
    kept = v ∙ (λ i. record (old.memory.now) { moving = fold fin.remove old.memory.now.moving ((p ∙ is.placed) i); unplaced = is.awaiting i; taken_out = [] })

-- ---- what becomes of the journal

last_test : (a b c d : Bool) → first_of ((a, refusals.Device) ∷ (b, refusals.Preparing) ∷ (c, refusals.Exhausted) ∷ (d, refusals.Full) ∷ []) ≡ None → d ≡ false
last_test true b c d none = absurd (cc none)
last_test false true c d none = absurd (cc none)
last_test false false true d none = absurd (cc none)
last_test false false false true none = absurd (cc none)
last_test false false false false none = refl

-- the records of an event stand at a journal whose room the master knew, and a checkpoint behind them is made
pub record Stood {D : Type 0} (seen : D → List ℕ) (may_leave : D → List ℕ → Type 0) (failures : D → ℕ) (before : Durable) (first : Log) (e : Event) (old mid : Journal D) (r : Renewal) : Type 0 where
  pub has : HasComeFrom before first e
  pub log : IsLogOf first old
  pub gains : Gains seen may_leave failures old e.written.items mid
  pub renewal : IsRenewalOf (state_at e) r
  pub behind : IsBehind old r

module _ {D : Type 0} {seen : D → List ℕ} {may_leave : D → List ℕ → Type 0} {failures : D → ℕ} (before : Durable) (first : Log) (e : Event) (old mid : Journal D) (r : Renewal) (s : Stood seen may_leave failures before first e old mid r) where
  limit_is : (log_of e.log).limit ≡ old.limit
  limit_is = ap (λ (l : Log). l.limit) (s.has.log ∙ log_is first (map plain e.entries.items)) ∙ s.log.limit

  generation_is : (log_of e.log).generation ≡ old.generation
  generation_is = ap (λ (l : Log). l.generation) (s.has.log ∙ log_is first (map plain e.entries.items)) ∙ s.log.generation

  fits_limit : nat_le (checkpoint_size r.draft.body) mid.limit ≡ true
  fits_limit =
      let below = last_test (is_failed (fault_of e.fault)) e.memory.now.is_preparing ((log_of e.log).generation == last_generation) (nat_lt (log_of e.log).limit (checkpoint_size (checkpoint_body (durable_of e.recorded)))) s.renewal.unrefused in
      within (log_of e.log).limit (checkpoint_size (checkpoint_body (durable_of e.recorded))) mid.limit (checkpoint_size r.draft.body) below (limit_is ∙ sym s.gains.limit) (ap checkpoint_size s.renewal.body)
    where
      within : (limit size new_limit new_size : ℕ) → nat_lt limit size ≡ false → limit ≡ new_limit → new_size ≡ size → nat_le new_size new_limit ≡ true
      within limit size new_limit new_size below l n = grind (arith, nat_tests)

  -- nothing stands against it
  pub undrafted : draft_refusal mid r.draft ≡ None
  undrafted =
      ap (λ b. if b then Some refusals.Device else (if r.draft.generation == mid.generation + 1 then (if nat_le (checkpoint_size r.draft.body) mid.limit then None else Some refusals.Full) else Some refusals.BadLine)) s.gains.is_open
      ∙ ap (λ b. if b then (if nat_le (checkpoint_size r.draft.body) mid.limit then None else Some refusals.Full) else Some refusals.BadLine) (same r.draft.generation mid.generation (s.behind ∙ ap (λ n. n + 1) (sym s.gains.generation)))
      ∙ ap (λ b. if b then None else Some refusals.Full) fits_limit
    where
      same : (n m : ℕ) → n ≡ m + 1 → (n == m + 1) ≡ true
      same n m is = grind (arith, nat_tests)

  -- it is written
  pub renews : (new : Journal D) → MakesCheckpoint mid r.draft.body new → Stands seen may_leave new → failures_of_both failures new ≡ failures_of_both failures mid → Renews seen may_leave failures old (checkpoint_body (durable_of e.recorded)) new
  renews new makes stands quiet = record {
    made = record {
      text = makes.text ∙ ap checkpointed s.renewal.body;
      size = makes.size ∙ ap checkpoint_size s.renewal.body;
      fits = makes.fits;
      limit = makes.limit ∙ s.gains.limit;
      generation = makes.generation ∙ ap (λ n. n + 1) s.gains.generation;
    };
    is_open = stands.is_open;
    quiet = quiet ∙ s.gains.quiet;
    stands = stands;
  }

  pub log_renewed : (new : Journal D) (log : Log) → log ≡ log_of r.log → Renews seen may_leave failures old (checkpoint_body (durable_of e.recorded)) new → IsLogOf log new
  log_renewed new log same renewed =
      let now = same ∙ s.renewal.log in record {
        is_open = renewed.is_open;
        size = ap (λ (l : Log). l.size) now ∙ sym renewed.made.size;
        limit = ap (λ (l : Log). l.limit) now ∙ limit_is ∙ sym renewed.made.limit;
        generation = ap (λ (l : Log). l.generation) now ∙ ap (λ n. n + 1) generation_is ∙ sym renewed.made.generation;
      }

  -- a disk fails
  stand_or_not : (text : Text) → IsOldOrNew mid.text (checkpointed r.draft.body) text → StandOrNot e.written.items (checkpoint_body (durable_of e.recorded)) old.text text
  stand_or_not text (inl stays) = inl (stays ∙ s.gains.text)
  stand_or_not text (inr made) = inr (made ∙ ap checkpointed s.renewal.body)

  pub breaks_last : (new : Journal D) (refusal : Refusal) → (draft_refusal mid r.draft ≡ None → Closes failures mid new refusal) → IsOldOrNew mid.text (checkpointed r.draft.body) new.text →
      IsOldOrNew mid.text (checkpointed r.draft.body) (text_seen seen new) → BreaksLast seen failures old e.written.items (checkpoint_body (durable_of e.recorded)) new
  breaks_last new refusal closes either shown =
      let closed = closes undrafted in record {
        cause = subst (λ n. n < failures_of_both failures new) s.gains.quiet closed.cause;
        closed = closed.closed;
        text = stand_or_not new.text either;
        shown = stand_or_not (text_seen seen new) shown;
      }
