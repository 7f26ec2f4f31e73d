-- That the records of an event lead on from one another, and what stands once the last of them are taken back.
use Rattle.std.proofs.Common.{◌≡◌, ◌⊎◌, inl, inr, ◌∙◌, ◌+◌, ◌≤◌, ℕ, true, List, [], ◌∷◌, ◌++◌, map, length, take, refl, ap, subst, sym, arith}
use Rattle.std.specs.Prelude.{Some, fold, nat_le, slice_get, sum_by, unwrap_or}
use Rattle.std.proofs.lemmas.Bool.Decides.{nat_tests}
use Rattle.std.proofs.lemmas.List.{length-map, map-append, take-map}
use Rattle.std.proofs.lemmas.List.Sums.{fold-append, sum_by-append, sum_by-cons}
use Rattle.gs_journal.specs.Journal.{State as Journal, record_size}
use Rattle.gs_journal.specs.Records.{Entry as Record}
use Rattle.gs_journal.specs.declared.version.Version.TheVariants.{Two}
use Rattle.gs_master_record.specs.Encoding.{encoded}
use Rattle.gs_master_record.specs.Plain.{PlainEntry, plain}
use Rattle.gs_master_record.specs.declared.entry.Entry.{Entry as Told}
use Rattle.std.specs.Ordering.{nat_cmp}
use Rattle.gs_base_table.specs.Slots.{live}
use Rattle.gs_master_spec.specs.Durable.{Durable}
use Rattle.gs_master.specs.inner.Events.{HasComeFrom, IsEntered, IsMade, KeepsBack, log_behind}
use Rattle.gs_master_state.specs.inner.TakingBack.{Leads, StillTakeBack, TakeBack, TakesBack, TakesOneMore, all_leases_before}
use Rattle.gs_master.specs.Journaled.{Gains, IsLogOf, IsReadyFor}
use Rattle.gs_master_spec.specs.Outcomes.{cut}
use Rattle.gs_master_state.specs.inner.Plans.{log_of}
use Rattle.gs_master_state.specs.inner.Recorded.{durable_of}
use Rattle.gs_master_spec.specs.State.{Failed, Fault, Log, State, fits, size_of, size_of_all, with_record}
use Rattle.gs_master_spec.specs.Volatile.{Volatile}
use Rattle.gs_master.specs.declared.event.Event.{Event}
use Rattle.gs_master_state.specs.declared.undo.Undo.{Undo}
use Rattle.gs_master_state.proofs.Led.{leads_more}

-- ---- the journal's room

pub log_is : (first : Log) (es : List PlainEntry) → fold log_behind first es ≡ record first { records = first.records + length es; size = first.size + size_of_all es }
log_is first [] = λ i. record first { records = none first.records i; size = none first.size i }
  where
    none : (n : ℕ) → n ≡ n + 0
    none n = omega arith
log_is first (e ∷ es) = log_is (log_behind first e) es ∙ (λ i. record first { records = many i; size = bytes i })
  where
    many : first.records + 1 + length es ≡ first.records + length (e ∷ es)
    many = omega arith

    bytes : first.size + size_of e + size_of_all es ≡ first.size + size_of_all (e ∷ es)
    bytes = let all : size_of_all (e ∷ es) ≡ size_of e + size_of_all es = sum_by-cons size_of e es in omega arith

-- there is room for one more behind the others, so there is for all
pub fits_more : (first : Log) (es : List PlainEntry) (e : PlainEntry) → fits (fold log_behind first es) (e ∷ []) ≡ true → fits first (es ++ e ∷ []) ≡ true
fits_more first es e room = ap (λ n. nat_le n first.limit) (sym bytes) ∙ sym (ap (λ (log : Log). nat_le (log.size + size_of_all (e ∷ [])) log.limit) (log_is first es)) ∙ room
  where
    bytes : first.size + size_of_all es + size_of_all (e ∷ []) ≡ first.size + size_of_all (es ++ e ∷ [])
    bytes = let all : size_of_all (es ++ e ∷ []) ≡ size_of_all es + size_of_all (e ∷ []) = sum_by-append size_of es (e ∷ []) in omega arith

-- records as they are written have the sizes of their entries
pub sizes : (es : List PlainEntry) → sum_by record_size (map (encoded Two) es) ≡ size_of_all es
sizes [] = refl
sizes (e ∷ es) = sum_by-cons record_size (encoded Two e) (map (encoded Two) es) ∙ ap (λ n. size_of e + n) (sizes es) ∙ sym (sum_by-cons size_of e es)

-- ---- the state

-- the state to which records lead is that which stands, with the journal's room behind them
pub stands_at : (s : State) (es : List PlainEntry) (us : List Undo) (now : Durable) → Leads es us s.durable now → fold with_record s es ≡ record s { durable = now; log = fold log_behind s.log es }
stands_at s [] [] now leads = λ i. record s { durable = leads i }
stands_at s [] (u ∷ us) now leads = absurd leads
stands_at s (e ∷ es) [] now leads = absurd leads
stands_at s (e ∷ es) (u ∷ us) now leads =
    ap (λ d. fold with_record (record s { durable = unwrap_or d s.durable; log = log_behind s.log e }) es) leads.1.0
    ∙ stands_at (record s { durable = leads.0; log = log_behind s.log e }) es us now leads.1.1.1

-- ---- events

-- a record that is entered leads on from where those before it have led
pub from_entered : (old new : Event) (entry : PlainEntry) → IsEntered entry old new → TakesOneMore old.undos.items (durable_of old.recorded) new.undos.items (durable_of new.recorded) →
    (before : Durable) (first : Log) → HasComeFrom before first old → HasComeFrom before first new
from_entered old new entry is one before first has =
    let es = map plain old.entries.items in
    let now = durable_of new.recorded in record {
      leads = subst (λ xs. Leads xs new.undos.items before now) (sym is.entries)
          (subst (λ us. Leads (es ++ entry ∷ []) us before now) (sym one.behind) (leads_more es old.undos.items entry one.last before (durable_of old.recorded) now has.leads is.applied one.takes));
      written = is.written ∙ ap (λ xs. xs ++ encoded Two entry ∷ []) has.written ∙ sym (ap (map (encoded Two)) is.entries ∙ map-append (encoded Two) es (entry ∷ []));
      log = is.log ∙ ap (λ l. log_behind l entry) has.log ∙ sym (ap (fold log_behind first) is.entries ∙ fold-append log_behind first es (entry ∷ []));
      room = inr (ap (fits first) is.entries ∙ fits_more first es entry (ap (λ l. fits l (entry ∷ [])) (sym has.log) ∙ is.room));
    }

-- a record is applied, and it is kept
pub record Enter (old mid new : Event) (told : Told) (bytes : Record) : Type 0 where
  pub made : IsMade (plain told) bytes old mid
  pub second : mid ≡ record old { recorded = mid.recorded; undos = mid.undos; entries = mid.entries; written = mid.written }
  pub entries : mid.entries.items ≡ old.entries.items
  pub written : mid.written.items ≡ old.written.items
  pub third : new ≡ record mid { log = new.log; entries = new.entries; written = new.written }
  pub more : new.entries.items ≡ mid.entries.items ++ told ∷ []
  pub behind : new.written.items ≡ mid.written.items ++ bytes ∷ []
  pub log : log_of new.log ≡ log_behind (log_of mid.log) (plain told)

pub is_entered : (old mid new : Event) (told : Told) (bytes : Record) → Enter old mid new told bytes → IsEntered (plain told) old new
is_entered old mid new told bytes h =
    let entries = h.more ∙ ap (λ xs. xs ++ told ∷ []) h.entries in
    let written = h.behind ∙ ap (λ xs. xs ++ bytes ∷ []) h.written in record {
      applied = h.made.applied.applied ∙ ap (λ (e : Event). Some (durable_of e.recorded)) (sym h.third);
      entries = ap (map plain) entries ∙ map-append plain old.entries.items (told ∷ []);
      written = written ∙ ap (λ r. old.written.items ++ r ∷ []) h.made.encoded;
      is_entry = h.made.is_entry;
      log = h.log ∙ ap (λ (e : Event). log_behind (log_of e.log) (plain told)) h.second;
      room = h.made.room;
    }

pub entered_keeps : (old mid new : Event) (told : Told) (bytes : Record) → Enter old mid new told bytes →
    StillTakeBack old.undos.items (durable_of old.recorded) mid.undos.items (durable_of mid.recorded) →
    all_leases_before mid.undos.items (live nat_cmp mid.recorded.leases) ≡ all_leases_before old.undos.items (live nat_cmp old.recorded.leases) → KeepsBack old new
entered_keeps old mid new told bytes h still leases =
    let one = h.made.applied.one in
    let now = ap (λ (e : Event). e.recorded) h.third in
    let last = ap (λ (e : Event). e.undos.items) h.third in record {
      back = λ before back.
          subst (λ us. TakeBack us before (durable_of new.recorded)) (sym last) (subst (λ r. TakeBack mid.undos.items before (durable_of r)) (sym now) (still before back));
      leases = (λ i. all_leases_before (last i) (live nat_cmp (now i).leases)) ∙ leases;
      memory = ap (λ (e : Event). e.memory.before) h.third ∙ ap (λ (e : Event). e.memory.before) h.second;
      from = from_entered old new (plain told) (is_entered old mid new told bytes h) (record {
        last = one.last;
        behind = last ∙ one.behind;
        takes = subst (λ r. TakesBack one.last (durable_of old.recorded) (durable_of r)) (sym now) one.takes;
      });
    }

-- what isn't applied leaves what it has come from
pub unmade_keeps : (old mid : Event) → mid ≡ record old { recorded = mid.recorded; undos = mid.undos; entries = mid.entries; written = mid.written } → mid.undos.items ≡ old.undos.items →
    durable_of mid.recorded ≡ durable_of old.recorded → mid.entries.items ≡ old.entries.items → mid.written.items ≡ old.written.items →
    StillTakeBack old.undos.items (durable_of old.recorded) mid.undos.items (durable_of mid.recorded) →
    all_leases_before mid.undos.items (live nat_cmp mid.recorded.leases) ≡ all_leases_before old.undos.items (live nat_cmp old.recorded.leases) → KeepsBack old mid
unmade_keeps old mid second undos durable entries written still leases = record {
  back = still;
  leases = leases;
  memory = ap (λ (e : Event). e.memory.before) second;
  from = λ before first has. record {
    leads = subst (λ es. Leads (map plain es) mid.undos.items before (durable_of mid.recorded)) (sym entries)
        (subst (λ us. Leads (map plain old.entries.items) us before (durable_of mid.recorded)) (sym undos)
        (subst (λ d. Leads (map plain old.entries.items) old.undos.items before d) (sym durable) has.leads));
    written = written ∙ has.written ∙ ap (λ es. map (encoded Two) (map plain es)) (sym entries);
    log = ap (λ (e : Event). log_of e.log) second ∙ has.log ∙ ap (λ es. fold log_behind first (map plain es)) (sym entries);
    room = subst (λ es. (es ≡ []) ⊎ (fits first (map plain es) ≡ true)) (sym entries) has.room;
  };
}

-- ---- an event that is cut

pub log_cut : (first : Log) (written : List Record) (es : List PlainEntry) (place : ℕ) → written ≡ map (encoded Two) es →
    record first { records = first.records + length (take place written); size = first.size + sum_by record_size (take place written) } ≡ fold log_behind first (take place es)
log_cut first written es place is = (λ i. record first { records = first.records + many i; size = first.size + bytes i }) ∙ sym (log_is first (take place es))
  where
    front : take place written ≡ map (encoded Two) (take place es)
    front = ap (take place) is ∙ take-map (encoded Two) place es

    many : length (take place written) ≡ length (take place es)
    many = ap length front ∙ length-map (take place es) (encoded Two)

    bytes : sum_by record_size (take place written) ≡ size_of_all (take place es)
    bytes = ap (sum_by record_size) front ∙ sizes (take place es)

pub cut_gives : (s : State) (es : List PlainEntry) (us : List Undo) (place : ℕ) (now : Durable) (volatile : Volatile) (log : Log) (fault : Fault) → Leads (take place es) us s.durable now →
    volatile ≡ s.volatile → log ≡ fold log_behind s.log (take place es) → fault ≡ Failed (slice_get es place) → record { durable = now; volatile = volatile; log = log; fault = fault } ≡ cut s es place
cut_gives s es us place now volatile log fault leads v l f =
    (λ i. record { durable = now; volatile = v i; log = l i; fault = f i })
    ∙ sym (ap (λ (x : State). record x { fault = Failed (slice_get es place) }) (stands_at s (take place es) us now leads))

-- ---- an event whose records are all written

pub ready : {D : Type 0} (before : Durable) (first : Log) (e : Event) (j : Journal D) → HasComeFrom before first e → IsLogOf first j → IsReadyFor j e.written.items
ready before first e j has is = record { is_open = is.is_open; room = by_room has.room }
  where
    by_room : (e.entries.items ≡ []) ⊎ (fits first (map plain e.entries.items) ≡ true) → (e.written.items ≡ []) ⊎ (j.size + sum_by record_size e.written.items ≤ j.limit)
    by_room (inl none) = inl (has.written ∙ ap (λ xs. map (encoded Two) (map plain xs)) none)
    by_room (inr room) =
        let bytes = ap (sum_by record_size) has.written ∙ sizes (map plain e.entries.items) in
        let size = is.size in
        let limit = is.limit in
        inr (grind (arith, nat_tests))

pub log_stays : {D : Type 0} {seen : D → List ℕ} {may_leave : D → List ℕ → Type 0} {failures : D → ℕ} (before : Durable) (first log : Log) (e : Event) (old new : Journal D) → HasComeFrom before first e → IsLogOf first old →
    Gains seen may_leave failures old e.written.items new → log ≡ log_of e.log → IsLogOf log new
log_stays before first log e old new has is gains same =
    let es = map plain e.entries.items in
    let now = same ∙ has.log ∙ log_is first es in record {
      is_open = gains.is_open;
      size = ap (λ (l : Log). l.size) now ∙ (λ i. is.size i + sym (ap (sum_by record_size) has.written ∙ sizes es) i) ∙ sym gains.size;
      limit = ap (λ (l : Log). l.limit) now ∙ is.limit ∙ sym gains.limit;
      generation = ap (λ (l : Log). l.generation) now ∙ is.generation ∙ sym gains.generation;
    }
