-- What a record tells beside what follows of its fitting what it meets: so a record that fits can be written.
use Rattle.std.proofs.Common.{◌≡◌, ◌∙◌, ◌≤◌, ◌<◌, ◌+◌, ◌^◌, ◌==◌, ◌&&◌, ◌||◌, ◌++◌, ℕ, Bool, true, false, not, cond, List, [], ◌∷◌, length, length-append, refl, sym, ap, subst, arith}
use Rattle.std.specs.Prelude.{nat_lt, is_none, is_some, Option, Some, None, Result, Ok, Err, option_and_then, option_map, filter_map, flat_map, if◌then◌else◌, slice_get}
use Rattle.std.specs.Cmp.{nat_cmp_total}
use Rattle.std.specs.FinMap as fin
use Rattle.std.specs.List.{cons_option, list_all, AllByRecursion}
use Rattle.std.specs.Ordering.{eq_by_cmp, nat_cmp}
use Rattle.std.proofs.lemmas.Bool.{false≢true, and_parts}
use Rattle.std.proofs.lemmas.Bool.Decides.{nat_tests}
use Rattle.std.proofs.lemmas.List.Sums.{sum_by-cons}
use Rattle.gs_base.specs.Told.{IsNumber}
use Rattle.gs_base.specs.declared.epoch.EpochEnd.TheVariants as ends
use Rattle.gs_base.specs.declared.numbers.ReqId.{ReqId}
use Rattle.gs_base.specs.declared.refusal.Refusal.{Refusal}
use Rattle.gs_base.specs.declared.refusal.Refusal.TheVariants.{BadLine}
use Rattle.gs_edit.specs.Edits.{has_reference, holds_chunk}
use Rattle.gs_edit.specs.View.{NamesView}
use Rattle.gs_edit.specs.declared.edit.Edit.TheVariants as edits
use Rattle.gs_journal.specs.declared.version.Version.TheVariants.{Two}
use Rattle.gs_master_record.specs.Encoding.{answered, body, list, members, number, request}
use Rattle.gs_master_record.specs.Plain.{PlainEdit, Mkdirs, Create, Rename, Hide, Unhide, Remove, AddChunk, Cow, Snapshot, Forget, PlainEntry, Edited, Said, Propose, Settle, Prepare, Finalize, RollbackBegin, RollbackCommit, Whole, Holder}
use Rattle.gs_master_record.specs.Writable.{AreFields, AreItems, IsAnswered, IsEdit, IsEntry, IsHandle, IsPath, IsRequest, IsWritable}
use Rattle.gs_master_record.specs.declared.checkpoint.Phase.TheVariants.{Ordinary, Upgrade, Rolling}
use Rattle.gs_master_record.specs.declared.entry.Answered.{Answered}
use Rattle.gs_refs.specs.Counts.{Counts, ascends, is_at_zero, taken_each, without_each}
use Rattle.gs_master_spec.specs.Applied.{after_edit, after_if, after_undoing, applied, are_answers, are_at_rest, chunk_of_edit, forgotten_by, held_by, is_fresh, is_fresh_if, is_next_epoch, is_whole_entry, may_be_settled, may_edit, may_propose, may_restore, names_well, number_of_edit, proposed, raised, replayed, restored_chunk, restored_view, rolled_back, view_for, view_in, with_edit, with_epoch, with_proposal, with_view, without_chunks, without_prepared}
use Rattle.gs_master_spec.specs.Durable.{Durable, Settled, after_number, is_given, is_listed, is_ordinary, is_rolling, is_upgrade, kept_before, prepared_of, prepared_view, start, upgrade_epoch, with_prepared}
use Rattle.gs_master_spec.specs.State.{size_of, size_of_all}
use Rattle.gs_master_spec.specs.Undoing.{all_undone, edited_names}
use Rattle.gs_master_spec.specs.declared.asking.Prepared.{Prepared}
use Rattle.gs_tree.specs.Edits.{chunks_in}
use Rattle.gs_tree.specs.Find.{at}
use Rattle.gs_laws_master.specs.Promises.{IsKept, IsToldView}
use Rattle.gs_laws_master.specs.Standing.{AreCounters}
use Rattle.gs_laws_master.specs.Written.{AreLow, IsIndex}
use Rattle.gs_laws_master.proofs.lemmas.upgrades.Beginnings.{fits_gives}
use Rattle.gs_laws_master.proofs.lemmas.names.EditsBack.{admitted, with_parts}
use Rattle.gs_laws_master.proofs.lemmas.keeping.KeptAll.{keeps_all}
use Rattle.gs_laws_master.proofs.lemmas.keeping.KeptEdits.{forgets_only}
use Rattle.gs_laws_master.proofs.lemmas.keeping.KeptEpochs.{IsFromServers}
use Rattle.gs_laws_master.proofs.lemmas.keeping.KeptViews.{same_key}
use Rattle.gs_laws_master.proofs.lemmas.names.Undone.{was_named}

-- ---- what it tells

abbrev pub IsTellableEdit : PlainEdit → Type 0
IsTellableEdit (Mkdirs p) = IsPath p
IsTellableEdit (Create p) = IsPath p
IsTellableEdit (Rename from to) = IsPath from × IsPath to
IsTellableEdit (Hide p moment n) = IsPath p × IsNumber moment
IsTellableEdit (Unhide p) = IsPath p
IsTellableEdit (Remove p) = IsPath p
IsTellableEdit (AddChunk p chunk) = IsPath p
IsTellableEdit (Cow p index old new) = IsPath p × IsIndex index
IsTellableEdit (Snapshot from to) = IsPath from × IsPath to
IsTellableEdit (Forget chunks) = Unit {0}

abbrev pub IsTellable : PlainEntry → Type 0
IsTellable (Edited by edit) = IsRequest by × IsTellableEdit edit
IsTellable (Said to refusal) = IsRequest to × IsWritable refusal
IsTellable (Propose chunk version) = Unit {0}
IsTellable (Settle v) = IsNumber v.handle × IsToldView v.view
IsTellable (Prepare epoch moment chunks) = IsNumber moment × (chunks < 2 ^ 32)
IsTellable (Finalize epoch) = Unit {0}
IsTellable (RollbackBegin epoch) = Unit {0}
IsTellable (RollbackCommit epoch answers) = AllByRecursion IsFromServers answers
IsTellable (Whole c) = ⊥
IsTellable (Holder chunk server) = Unit {0}

pub not_whole : (entry : PlainEntry) → IsTellable entry → is_whole_entry entry ≡ false
not_whole (Edited by edit) t = refl
not_whole (Said to refusal) t = refl
not_whole (Propose chunk version) t = refl
not_whole (Settle v) t = refl
not_whole (Prepare epoch moment chunks) t = refl
not_whole (Finalize epoch) t = refl
not_whole (RollbackBegin epoch) t = refl
not_whole (RollbackCommit epoch answers) t = refl
not_whole (Whole c) t = absurd t
not_whole (Holder chunk server) t = refl

-- ---- counters: what is behind a record tells what was before it

after_low : (next v : ℕ) → is_fresh next v ≡ true → IsNumber (after_number v) → IsNumber v
after_low next v fresh low = grind (arith, nat_tests)

before_low : (next v : ℕ) → is_fresh next v ≡ true → IsNumber (after_number v) → IsNumber next
before_low next v fresh low = grind (arith, nat_tests)

raised_before : (next v : ℕ) → IsNumber (raised next v) → IsNumber next
raised_before next v low = by_test (is_fresh next v) refl low
  where
    by_test : (b : Bool) → is_fresh next v ≡ b → IsNumber (if b then after_number v else next) → IsNumber next
    by_test true fresh h = before_low next v fresh h
    by_test false fresh h = h

raised_low : (next v : ℕ) → is_fresh next v ≡ true → IsNumber (raised next v) → IsNumber v
raised_low next v fresh low = after_low next v fresh (subst (λ b. IsNumber (if b then after_number v else next)) fresh low)

after_if_before : (next : ℕ) (number : Option ℕ) → is_fresh_if next number ≡ true → IsNumber (after_if next number) → IsNumber next
after_if_before next None fresh low = low
after_if_before next (Some v) fresh low = before_low next v fresh low

pub given_some : (next n : ℕ) → is_given next n ≡ true → 1 ≤ n
given_some next n given = grind (arith, nat_tests)

fresh_some : (next n : ℕ) → is_fresh next n ≡ true → 1 ≤ n
fresh_some next n fresh = grind (arith, nat_tests)

-- the numbers that the counters give
abbrev Numbers : Durable → PlainEntry → Type 0
Numbers d (Edited by (Hide p moment n)) = IsNumber n
Numbers d (Propose chunk version) = IsNumber version × (is_fresh d.next_handle chunk ≡ true → IsNumber chunk)
Numbers d entry = Unit {0}

record IsBefore (d : Durable) (entry : PlainEntry) : Type 0 where
  counters : AreCounters d
  numbers : Numbers d entry

-- of which the counters stay
stays : (d n next : Durable) → n ≡ next → n.next_handle ≡ d.next_handle → n.next_version ≡ d.next_version → n.next_hidden ≡ d.next_hidden → AreCounters next → AreCounters d
stays d n next is handle version hidden c = record {
  handle = subst IsNumber handle (subst (λ (x : Durable). IsNumber x.next_handle) (sym is) c.handle);
  version = subst IsNumber version (subst (λ (x : Durable). IsNumber x.next_version) (sym is) c.version);
  hidden = subst IsNumber hidden (subst (λ (x : Durable). IsNumber x.next_hidden) (sym is) c.hidden);
}

-- what an edit asks of what is durable
record Asks (d : Durable) (edit : PlainEdit) : Type 0 where
  settled : (is_none (chunk_of_edit edit) || is_some (view_for d (chunk_of_edit edit))) ≡ true
  fresh : is_fresh_if d.next_hidden (number_of_edit edit) ≡ true

asks_so : (d : Durable) (edit : PlainEdit) → may_edit d edit ≡ true → Asks d edit
asks_so d edit may =
    let settled = is_none (chunk_of_edit edit) || is_some (view_for d (chunk_of_edit edit)) in
    let counted = is_fresh_if d.next_hidden (number_of_edit edit) in
    let both = and_parts settled counted (and_parts (names_well edit) (settled && counted) (and_parts (not (is_rolling d.phase)) (names_well edit && (settled && counted)) may).1).1 in
    record { settled = both.0; fresh = both.1 }

-- what an edit that fits has made
record IsMadeOf (d next : Durable) (by : ReqId) (edit : PlainEdit) : Type 0 where
  names : NamesView
  named : edited_names edit d.names ≡ Ok names
  asks : Asks d edit
  is : with_edit d by edit names ≡ next

made_of : (d next : Durable) (by : ReqId) (edit : PlainEdit) → applied d (Edited by edit) ≡ Some next → IsMadeOf d next by edit
unfolding applied
made_of d next by edit e = each (edited_names edit d.names) refl e
  where
    each : (names : Result NamesView Refusal) → edited_names edit d.names ≡ names → after_edit d by edit names ≡ Some next → IsMadeOf d next by edit
    each (Ok names) is k = let g = fits_gives (may_edit d edit) (with_edit d by edit names) next k in record { names = names; named = is; asks = asks_so d edit g.0; is = g.1 }
    each (Err refusal) is k = absurd (false≢true (ap is_some k))

edit_before : (d next : Durable) (by : ReqId) (edit : PlainEdit) → IsMadeOf d next by edit → AreCounters next → IsBefore d (Edited by edit)
edit_before d next by edit m c = record { counters = counters; numbers = own edit m.asks.fresh hidden }
  where
    hidden : IsNumber (after_if d.next_hidden (number_of_edit edit))
    hidden = subst (λ (x : Durable). IsNumber x.next_hidden) (sym m.is) c.hidden

    counters : AreCounters d
    counters = record {
      handle = subst IsNumber (ap (λ (x : Durable). x.next_handle) (forgets_only d (forgotten_by edit))) (subst (λ (x : Durable). IsNumber x.next_handle) (sym m.is) c.handle);
      version = subst IsNumber (ap (λ (x : Durable). x.next_version) (forgets_only d (forgotten_by edit))) (subst (λ (x : Durable). IsNumber x.next_version) (sym m.is) c.version);
      hidden = after_if_before d.next_hidden (number_of_edit edit) m.asks.fresh hidden;
    }

    own : (e : PlainEdit) → is_fresh_if d.next_hidden (number_of_edit e) ≡ true → IsNumber (after_if d.next_hidden (number_of_edit e)) → Numbers d (Edited by e)
    own (Mkdirs p) fresh low = tt
    own (Create p) fresh low = tt
    own (Rename from to) fresh low = tt
    own (Hide p moment n) fresh low = after_low d.next_hidden n fresh low
    own (Unhide p) fresh low = tt
    own (Remove p) fresh low = tt
    own (AddChunk p chunk) fresh low = tt
    own (Cow p index old new) fresh low = tt
    own (Snapshot from to) fresh low = tt
    own (Forget chunks) fresh low = tt

undoing_before : (d next : Durable) (epoch : ℕ) (answers : List Answered) (names : Option NamesView) → after_undoing d epoch answers names ≡ Some next → AreCounters next → AreCounters d
undoing_before d next epoch answers None e c = absurd (false≢true (ap is_some e))
undoing_before d next epoch answers (Some names) e c =
    stays d (rolled_back d answers names) next (fits_gives (is_rolling d.phase && ((epoch == d.epoch) && are_answers (prepared_view d) (fin.entries names.refs) answers)) (rolled_back d answers names) next e).1 refl refl refl c

counted_before : (entry : PlainEntry) (d next : Durable) → IsTellable entry → applied d entry ≡ Some next → AreCounters next → IsBefore d entry
unfolding applied
counted_before (Edited by edit) d next t e c = edit_before d next by edit (made_of d next by edit e) c
counted_before (Said to refusal) d next t e c = record { counters = stays d _ next (fits_gives true _ next e).1 refl refl refl c; numbers = tt }
counted_before (Propose chunk version) d next t e c =
    let g = fits_gives (may_propose d.phase d.next_handle d.next_version chunk version (fin.get d.chunks chunk)) (proposed d chunk version) next e in
    let fresh = (and_parts (is_fresh d.next_version version) (is_some (fin.get d.chunks chunk) || is_fresh d.next_handle chunk) (and_parts (not (is_rolling d.phase)) (is_fresh d.next_version version && (is_some (fin.get d.chunks chunk) || is_fresh d.next_handle chunk)) g.0).1).0 in
    let handle : IsNumber (raised d.next_handle chunk) = subst (λ (x : Durable). IsNumber x.next_handle) (sym g.1) c.handle in
    let behind : IsNumber (after_number version) = subst (λ (x : Durable). IsNumber x.next_version) (sym g.1) c.version in
    record {
      counters = record { handle = raised_before d.next_handle chunk handle; version = before_low d.next_version version fresh behind; hidden = subst (λ (x : Durable). IsNumber x.next_hidden) (sym g.1) c.hidden };
      numbers = (after_low d.next_version version fresh behind, λ new. raised_low d.next_handle chunk new handle);
    }
counted_before (Settle v) d next t e c = record { counters = stays d (with_view d v) next (fits_gives (may_be_settled d v) (with_view d v) next e).1 refl refl refl c; numbers = tt }
counted_before (Prepare epoch moment chunks) d next t e c =
    let n = without_prepared (with_epoch d ends.Prepare Upgrade) in
    record { counters = stays d n next (fits_gives (is_ordinary d.phase && (is_next_epoch d.epoch epoch && are_at_rest d)) n next e).1 refl refl refl c; numbers = tt }
counted_before (Finalize epoch) d next t e c =
    let n = without_prepared (with_epoch d ends.Finalize Ordinary) in record { counters = stays d n next (fits_gives (is_upgrade d.phase && is_next_epoch d.epoch epoch) n next e).1 refl refl refl c; numbers = tt }
counted_before (RollbackBegin epoch) d next t e c =
    let n = with_epoch d ends.Rollback Rolling in record { counters = stays d n next (fits_gives (is_upgrade d.phase && is_next_epoch d.epoch epoch) n next e).1 refl refl refl c; numbers = tt }
counted_before (RollbackCommit epoch answers) d next t e c = record { counters = undoing_before d next epoch answers (all_undone d.inverses d.names) e c; numbers = tt }
counted_before (Whole w) d next t e c = absurd t
counted_before (Holder chunk server) d next t e c =
    let n = record d { prepared = with_prepared d chunk (held_by server (prepared_view d chunk)) } in
    record { counters = stays d n next (fits_gives (is_upgrade d.phase && (nat_lt server 16 && is_some (prepared_view d chunk))) n next e).1 refl refl refl c; numbers = tt }

counters_back : (entries : List PlainEntry) (d last : Durable) → AllByRecursion IsTellable entries → replayed d entries ≡ Some last → AreCounters last → AreCounters d
counters_back [] d last t e c = subst AreCounters (sym (durable_is e)) c
  where
    durable_is : {a b : Durable} → ◌≡◌ {A = Option Durable} (Some a) (Some b) → a ≡ b
    durable_is h = cc
counters_back (entry ∷ entries) d last t e c = by_first (λ n h. counters_back entries n last t.1 h c) (applied d entry) refl e
  where
    by_first : ((n : Durable) → replayed n entries ≡ Some last → AreCounters n) → (o : Option Durable) → applied d entry ≡ o → option_and_then (λ n. replayed n entries) o ≡ Some last → AreCounters d
    by_first rest None is h = absurd (false≢true (ap is_some h))
    by_first rest (Some n) is h = (counted_before entry d n t.0 is (rest n h)).counters

-- ---- chunks

-- of a chunk whose prepared view is known
viewed_low : (d : Durable) (chunk : ℕ) → AreLow d → is_some (prepared_view d chunk) ≡ true → IsNumber chunk
viewed_low d chunk low some = each (upgrade_epoch d.phase d.epoch) (fin.get d.prepared chunk) refl (fin.get d.chunks chunk) refl some
  where
    each : (u : Option ℕ) (p : Option Prepared) → fin.get d.prepared chunk ≡ p → (c : Option Settled) → fin.get d.chunks chunk ≡ c → is_some (prepared_of u p c) ≡ true → IsNumber chunk
    each None p ip c ic h = absurd (false≢true h)
    each (Some u) (Some p) ip c ic h = low.prepared chunk (ap is_some ip)
    each (Some u) None ip (Some c) ic h = low.settled chunk (ap is_some ic)
    each (Some u) None ip None ic h = absurd (false≢true h)

viewed_given : (d : Durable) (chunk : ℕ) → IsKept d → is_some (prepared_view d chunk) ≡ true → is_given d.next_handle chunk ≡ true
viewed_given d chunk k some = each (upgrade_epoch d.phase d.epoch) (fin.get d.prepared chunk) refl (fin.get d.chunks chunk) refl some
  where
    each : (u : Option ℕ) (p : Option Prepared) → fin.get d.prepared chunk ≡ p → (c : Option Settled) → fin.get d.chunks chunk ≡ c → is_some (prepared_of u p c) ≡ true → is_given d.next_handle chunk ≡ true
    each None p ip c ic h = absurd (false≢true h)
    each (Some u) (Some p) ip c ic h = (k.prepared chunk p ip).0
    each (Some u) None ip (Some c) ic h = k.handles chunk (ap is_some ic)
    each (Some u) None ip None ic h = absurd (false≢true h)

pub viewed_handle : (d : Durable) (chunk : ℕ) → IsKept d → AreLow d → is_some (prepared_view d chunk) ≡ true → IsHandle chunk
viewed_handle d chunk k low some = (given_some d.next_handle chunk (viewed_given d chunk k some), viewed_low d chunk low some)

pub settled_handle : (d : Durable) (chunk : ℕ) → IsKept d → AreLow d → is_some (fin.get d.chunks chunk) ≡ true → IsHandle chunk
settled_handle d chunk k low some = (given_some d.next_handle chunk (k.handles chunk some), low.settled chunk some)

pub listed_handle : (d : Durable) (chunk : ℕ) → IsKept d → AreLow d → is_listed d chunk ≡ true → IsHandle chunk
listed_handle d chunk k low some = settled_handle d chunk k low (k.settled chunk some)

-- ---- edits

-- a list is no longer than what tells it
pub no_longer : {A : Type 0} (item : A → List ℕ) → ((x : A) → 1 ≤ length (item x)) → (xs : List A) → length xs ≤ length (flat_map item xs)
no_longer item some [] = omega arith
no_longer item some (x ∷ xs) = let a = some x in let b = no_longer item some xs in omega (arith, length-append (item x) (flat_map item xs))

behind_longer : (xs ys : List ℕ) → length ys ≤ length (xs ++ ys)
behind_longer xs ys = omega (arith, length-append xs ys)

pub list_longer : {A : Type 0} (item : A → List ℕ) (xs : List A) → length (flat_map item xs) ≤ length (list item xs)
list_longer item xs = omega arith

referred_listed : (v : Option ℕ) → has_reference v ≡ true → is_some v ≡ true
referred_listed None h = absurd (false≢true h)
referred_listed (Some n) h = refl

cow_listed : (d : Durable) (p : List (List ℕ)) (index before chunk : ℕ) (names : NamesView) → edited_names (Cow p index before chunk) d.names ≡ Ok names → is_listed d before ≡ true
cow_listed d p index before chunk names e =
    let n = was_named (Cow p index before chunk) d.names names e in
    let rows = fin.entries d.names.tree in
    let refs = d.names.refs in
    let parts = admitted (edits.Cow p index before chunk) rows refs (n.rows, n.refs) n.made in
    let asked = and_parts (is_none (fin.get refs chunk)) (holds_chunk (slice_get (chunks_in (at rows p)) index) before && has_reference (fin.get refs before)) parts.asked in
    referred_listed (fin.get refs before) (and_parts (holds_chunk (slice_get (chunks_in (at rows p)) index) before) (has_reference (fin.get refs before)) asked.1).1

zero_listed : (v : Option ℕ) → is_at_zero v ≡ true → is_some v ≡ true
zero_listed None h = absurd (false≢true h)
zero_listed (Some n) h = refl

forgotten_handles : (d : Durable) (chunks : List ℕ) (names : NamesView) → IsKept d → AreLow d → edited_names (Forget chunks) d.names ≡ Ok names → AllByRecursion IsHandle chunks
forgotten_handles d chunks names k low e =
    let n = was_named (Forget chunks) d.names names e in
    let parts = with_parts (Ok (fin.entries d.names.tree)) (taken_each d.names.refs chunks) (n.rows, n.refs) n.made in by_test (ascends chunks) (list_all (λ h. is_at_zero (fin.get d.names.refs h)) chunks) refl parts.1
  where
    each : (hs : List ℕ) → list_all (λ h. is_at_zero (fin.get d.names.refs h)) hs ≡ true → AllByRecursion IsHandle hs
    each [] all = tt
    each (h ∷ hs) all = let both = and_parts (is_at_zero (fin.get d.names.refs h)) (list_all (λ x. is_at_zero (fin.get d.names.refs x)) hs) all in (listed_handle d h k low (zero_listed (fin.get d.names.refs h) both.0), each hs both.1)

    by_test : (a b : Bool) → list_all (λ h. is_at_zero (fin.get d.names.refs h)) chunks ≡ b → {more : Counts} → (if a && b then Ok (without_each d.names.refs chunks) else Err BadLine) ≡ Ok more → AllByRecursion IsHandle chunks
    by_test true true is h = each chunks is
    by_test true false is h = absurd (let k = h in cc)
    by_test false b is h = absurd (let k = h in cc)

placed_settled : (d : Durable) (chunk : ℕ) → is_some (view_for d (Some chunk)) ≡ true → is_some (fin.get d.chunks chunk) ≡ true
placed_settled d chunk some = each (fin.get d.chunks chunk) some
  where
    each : (o : Option Settled) → is_some (view_in o) ≡ true → is_some o ≡ true
    each None h = h
    each (Some s) h = refl

edit_fields_of : (d : Durable) (by : ReqId) (edit : PlainEdit) (names : NamesView) → IsKept d → AreLow d → Numbers d (Edited by edit) → IsTellableEdit edit → Asks d edit → edited_names edit d.names ≡ Ok names → length (body Two (Edited by edit)) < 2 ^ 32 → IsEdit edit
edit_fields_of d by (Mkdirs p) names k low numbers t asks e short = t
edit_fields_of d by (Create p) names k low numbers t asks e short = t
edit_fields_of d by (Rename from to) names k low numbers t asks e short = t
edit_fields_of d by (Hide p moment n) names k low numbers t asks e short = (t.0, (t.1, numbers))
edit_fields_of d by (Unhide p) names k low numbers t asks e short = t
edit_fields_of d by (Remove p) names k low numbers t asks e short = t
edit_fields_of d by (AddChunk p chunk) names k low numbers t asks e short = (t, settled_handle d chunk k low (placed_settled d chunk asks.settled))
edit_fields_of d by (Cow p index old new) names k low numbers t asks e short =
    (t.0, (t.1, (listed_handle d old k low (cow_listed d p index old new names e), settled_handle d new k low (placed_settled d new asks.settled))))
edit_fields_of d by (Snapshot from to) names k low numbers t asks e short = t
edit_fields_of d by (Forget chunks) names k low numbers t asks e short = (few, forgotten_handles d chunks names k low e)
  where
    few : length chunks < 2 ^ 32
    few = let many = no_longer number (λ n. omega arith) chunks in let all = list_longer number chunks in let whole = behind_longer (request by) (10 ∷ list number chunks) in omega arith

-- ---- answers of a rollback

answers_handles : (d : Durable) (refs : List (ℕ × ℕ)) (answers : List Answered) → IsKept d → AreLow d → are_answers (prepared_view d) refs answers ≡ true → AllByRecursion IsFromServers answers → AllByRecursion IsAnswered answers
answers_handles d refs [] k low fit t = tt
answers_handles d [] (answer ∷ answers) k low fit t = absurd (false≢true fit)
answers_handles d (r ∷ refs) (answer ∷ answers) k low fit t =
    let one = and_parts (answer.handle == r.0) (may_restore (prepared_view d r.0) r.1 answer.members && are_answers (prepared_view d) refs answers) fit in
    let two = and_parts (may_restore (prepared_view d r.0) r.1 answer.members) (are_answers (prepared_view d) refs answers) one.1 in
    ((subst IsHandle (sym (same_number answer.handle r.0 one.0)) (viewed_handle d r.0 k low (some_of (prepared_view d r.0) r.1 answer.members two.0)), t.0), answers_handles d refs answers k low two.1 t.1)
  where
    same_number : (a b : ℕ) → (a == b) ≡ true → a ≡ b
    same_number a b e = grind (arith, nat_tests)

    some_of : (p : Option Prepared) (count : ℕ) (members : List ℕ) → may_restore p count members ≡ true → is_some p ≡ true
    some_of None count members h = h
    some_of (Some p) count members h = refl

-- ---- all its fields

abbrev IsShort : PlainEntry → Type 0
IsShort entry = length (body Two entry) < 2 ^ 32

commit_fields : (d next : Durable) (epoch : ℕ) (answers : List Answered) (names : Option NamesView) → IsKept d → AreLow d → AllByRecursion IsFromServers answers → after_undoing d epoch answers names ≡ Some next → IsShort (RollbackCommit epoch answers) → IsNumber epoch × AreItems IsAnswered answers
commit_fields d next epoch answers None k low t e short = absurd (false≢true (ap is_some e))
commit_fields d next epoch answers (Some names) k low t e short =
    let g = fits_gives (is_rolling d.phase && ((epoch == d.epoch) && are_answers (prepared_view d) (fin.entries names.refs) answers)) (rolled_back d answers names) next e in
    let both = and_parts (epoch == d.epoch) (are_answers (prepared_view d) (fin.entries names.refs) answers) (and_parts (is_rolling d.phase) ((epoch == d.epoch) && are_answers (prepared_view d) (fin.entries names.refs) answers) g.0).1 in
    (low_epoch d.epoch k.now both.0, (few, answers_handles d (fin.entries names.refs) answers k low both.1 t))
  where
    low_epoch : (now : ℕ) → IsNumber now → (epoch == now) ≡ true → IsNumber epoch
    low_epoch now h same = grind (arith, nat_tests)

    few : length answers < 2 ^ 32
    few = let many = no_longer answered (λ a. omega (arith, length-append (number a.handle) (members a.members))) answers in let all = list_longer answered answers in let whole = behind_longer (number epoch) (list answered answers) in omega arith

next_low : (now next : ℕ) → is_next_epoch now next ≡ true → IsNumber next
next_low now next h = grind (arith, nat_tests)

fields_of : (entry : PlainEntry) (d next : Durable) → IsKept d → AreLow d → Numbers d entry → IsTellable entry → IsShort entry → applied d entry ≡ Some next → AreFields Two entry
unfolding applied
fields_of (Edited by edit) d next k low numbers t short e = let m = made_of d next by edit e in (t.0, edit_fields_of d by edit m.names k low numbers t.1 m.asks m.named short)
fields_of (Said to refusal) d next k low numbers t short e = t
fields_of (Propose chunk version) d next k low numbers t short e =
    let g = fits_gives (may_propose d.phase d.next_handle d.next_version chunk version (fin.get d.chunks chunk)) (proposed d chunk version) next e in
    let parts = and_parts (is_fresh d.next_version version) (is_some (fin.get d.chunks chunk) || is_fresh d.next_handle chunk) (and_parts (not (is_rolling d.phase)) (is_fresh d.next_version version && (is_some (fin.get d.chunks chunk) || is_fresh d.next_handle chunk)) g.0).1 in
    (by_either (is_some (fin.get d.chunks chunk)) refl parts.1, numbers.0)
  where
    by_either : (b : Bool) → is_some (fin.get d.chunks chunk) ≡ b → (b || is_fresh d.next_handle chunk) ≡ true → IsHandle chunk
    by_either true is h = settled_handle d chunk k low is
    by_either false is h = (fresh_some d.next_handle chunk h, numbers.1 h)
fields_of (Settle v) d next k low numbers t short e =
    let g = fits_gives (may_be_settled d v) (with_view d v) next e in ((given_some d.next_handle v.handle (and_parts (is_given d.next_handle v.handle) _ g.0).0, t.0), t.1)
fields_of (Prepare epoch moment chunks) d next k low numbers t short e =
    let g = fits_gives (is_ordinary d.phase && (is_next_epoch d.epoch epoch && are_at_rest d)) (without_prepared (with_epoch d ends.Prepare Upgrade)) next e in
    (next_low d.epoch epoch (and_parts (is_next_epoch d.epoch epoch) (are_at_rest d) (and_parts (is_ordinary d.phase) (is_next_epoch d.epoch epoch && are_at_rest d) g.0).1).0, t)
fields_of (Finalize epoch) d next k low numbers t short e =
    let g = fits_gives (is_upgrade d.phase && is_next_epoch d.epoch epoch) (without_prepared (with_epoch d ends.Finalize Ordinary)) next e in next_low d.epoch epoch (and_parts (is_upgrade d.phase) (is_next_epoch d.epoch epoch) g.0).1
fields_of (RollbackBegin epoch) d next k low numbers t short e =
    let g = fits_gives (is_upgrade d.phase && is_next_epoch d.epoch epoch) (with_epoch d ends.Rollback Rolling) next e in next_low d.epoch epoch (and_parts (is_upgrade d.phase) (is_next_epoch d.epoch epoch) g.0).1
fields_of (RollbackCommit epoch answers) d next k low numbers t short e = commit_fields d next epoch answers (all_undone d.inverses d.names) k low t e short
fields_of (Whole c) d next k low numbers t short e = absurd t
fields_of (Holder chunk server) d next k low numbers t short e =
    let g = fits_gives (is_upgrade d.phase && (nat_lt server 16 && is_some (prepared_view d chunk))) (record d { prepared = with_prepared d chunk (held_by server (prepared_view d chunk)) }) next e in
    let both = and_parts (nat_lt server 16) (is_some (prepared_view d chunk)) (and_parts (is_upgrade d.phase) (nat_lt server 16 && is_some (prepared_view d chunk)) g.0).1 in
    (viewed_handle d chunk k low both.1, below server both.0)
  where
    below : (n : ℕ) → nat_lt n 16 ≡ true → n < 16
    below n h = grind (arith, nat_tests)

-- ---- what it leaves

put_low : {V : Type 0} (m : fin.FinMap nat_cmp V) (k : ℕ) (v : V) → ((q : ℕ) → is_some (fin.get m q) ≡ true → IsNumber q) → IsNumber k → (q : ℕ) → is_some (fin.get (fin.insert m k v) q) ≡ true → IsNumber q
put_low m k v all own q some = by_key (eq_by_cmp nat_cmp q k) refl (sym (ap is_some (fin.get-insert nat_cmp_total m k v q)) ∙ some)
  where
    by_key : (b : Bool) → eq_by_cmp nat_cmp q k ≡ b → is_some (cond b (Some v) (fin.get m q)) ≡ true → IsNumber q
    by_key true is h = subst IsNumber (sym (same_key q k is)) own
    by_key false is h = all q h

with_low : (d : Durable) (chunk : ℕ) (p : Option Prepared) → AreLow d → (is_some p ≡ true → IsNumber chunk) → (q : ℕ) → is_some (fin.get (with_prepared d chunk p) q) ≡ true → IsNumber q
with_low d chunk None low own q some = low.prepared q some
with_low d chunk (Some p) low own q some = put_low d.prepared chunk p low.prepared (own refl) q some

kept_low : (d : Durable) (chunk : ℕ) → AreLow d → (q : ℕ) → is_some (fin.get (kept_before d chunk) q) ≡ true → IsNumber q
kept_low d chunk low q some = with_low d chunk (prepared_view d chunk) low (viewed_low d chunk low) q some

without_low : (chunks : List ℕ) (d : Durable) → AreLow d → AreLow (without_chunks d chunks)
without_low [] d low = low
without_low (chunk ∷ chunks) d low = without_low chunks (record d { chunks = fin.remove d.chunks chunk; prepared = kept_before d chunk }) (record {
  settled = λ q some. low.settled q (still q (eq_by_cmp nat_cmp q chunk) (sym (ap is_some (fin.get-remove nat_cmp_total d.chunks chunk q)) ∙ some));
  prepared = λ q some. kept_low d chunk low q some;
})
  where
    still : (q : ℕ) (b : Bool) → is_some (cond b None (fin.get d.chunks q)) ≡ true → is_some (fin.get d.chunks q) ≡ true
    still q true h = absurd (false≢true h)
    still q false h = h

same_low : (d n next : Durable) → n ≡ next → n.chunks ≡ d.chunks → n.prepared ≡ d.prepared → AreLow d → AreLow next
same_low d n next is chunks prepared low = subst AreLow is (record {
  settled = λ q some. low.settled q (ap (λ m. is_some (fin.get m q)) (sym chunks) ∙ some);
  prepared = λ q some. low.prepared q (ap (λ m. is_some (fin.get m q)) (sym prepared) ∙ some);
})

none_prepared : (q : ℕ) → is_some (fin.get start.prepared q) ≡ true → IsNumber q
none_prepared q some = absurd (false≢true (sym (ap is_some (fin.get-empty nat_cmp q)) ∙ some))

restored_low : (d : Durable) (answers : List Answered) (q : ℕ) → AllByRecursion IsAnswered answers → is_some (fin.find nat_cmp q (filter_map (restored_chunk d) answers)) ≡ true → IsNumber q
restored_low d [] q all some = absurd (false≢true some)
restored_low d (answer ∷ answers) q all some = by_view (λ h. restored_low d answers q all.1 h) (prepared_view d answer.handle) some
  where
    Rest : Type 0
    Rest = is_some (fin.find nat_cmp q (filter_map (restored_chunk d) answers)) ≡ true → IsNumber q

    by_key : Rest → (b : Bool) → eq_by_cmp nat_cmp q answer.handle ≡ b → (x : Settled) → is_some (cond b (Some x) (fin.find nat_cmp q (filter_map (restored_chunk d) answers))) ≡ true → IsNumber q
    by_key rest true is x h = subst IsNumber (sym (same_key q answer.handle is)) all.0.0.1
    by_key rest false is x h = rest h

    by_view : Rest → (o : Option Prepared) → is_some (fin.find nat_cmp q (cons_option (option_map (λ (p : Prepared). (answer.handle, restored_view d.epoch p answer.members)) o) (filter_map (restored_chunk d) answers))) ≡ true → IsNumber q
    by_view rest None h = rest h
    by_view rest (Some p) h = by_key rest (eq_by_cmp nat_cmp q answer.handle) refl (restored_view d.epoch p answer.members) h

rolled_low : (d next : Durable) (epoch : ℕ) (answers : List Answered) (names : Option NamesView) → AllByRecursion IsAnswered answers → after_undoing d epoch answers names ≡ Some next → AreLow next
rolled_low d next epoch answers None all e = absurd (false≢true (ap is_some e))
rolled_low d next epoch answers (Some names) all e =
    subst AreLow (fits_gives (is_rolling d.phase && ((epoch == d.epoch) && are_answers (prepared_view d) (fin.entries names.refs) answers)) (rolled_back d answers names) next e).1
    (record { settled = λ q some. restored_low d answers q all (sym (ap is_some (fin.get-from_entries nat_cmp_total (filter_map (restored_chunk d) answers) q)) ∙ some); prepared = none_prepared })

pub low_after : (entry : PlainEntry) (d next : Durable) → AreLow d → IsTellable entry → AreFields Two entry → applied d entry ≡ Some next → AreLow next
unfolding applied
low_after (Edited by edit) d next low t f e = let m = made_of d next by edit e in let l = without_low (forgotten_by edit) d low in subst AreLow m.is (record { settled = λ q some. l.settled q some; prepared = λ q some. l.prepared q some })
low_after (Said to refusal) d next low t f e = same_low d _ next (fits_gives true _ next e).1 refl refl low
low_after (Propose chunk version) d next low t f e =
    subst AreLow (fits_gives (may_propose d.phase d.next_handle d.next_version chunk version (fin.get d.chunks chunk)) (proposed d chunk version) next e).1
    (record { settled = λ q some. by_settled (fin.get d.chunks chunk) q some; prepared = λ q some. low.prepared q some })
  where
    by_settled : (o : Option Settled) (q : ℕ) → is_some (fin.get (with_proposal d chunk o) q) ≡ true → IsNumber q
    by_settled None q some = low.settled q some
    by_settled (Some s) q some = put_low d.chunks chunk _ low.settled f.0.1 q some
low_after (Settle v) d next low t f e =
    subst AreLow (fits_gives (may_be_settled d v) (with_view d v) next e).1 (record { settled = λ q some. put_low d.chunks v.handle _ low.settled f.0.1 q some; prepared = λ q some. kept_low d v.handle low q some })
low_after (Prepare epoch moment chunks) d next low t f e =
    let n = without_prepared (with_epoch d ends.Prepare Upgrade) in
    subst AreLow (fits_gives (is_ordinary d.phase && (is_next_epoch d.epoch epoch && are_at_rest d)) n next e).1 (record { settled = λ q some. low.settled q some; prepared = none_prepared })
low_after (Finalize epoch) d next low t f e =
    let n = without_prepared (with_epoch d ends.Finalize Ordinary) in
    subst AreLow (fits_gives (is_upgrade d.phase && is_next_epoch d.epoch epoch) n next e).1 (record { settled = λ q some. low.settled q some; prepared = none_prepared })
low_after (RollbackBegin epoch) d next low t f e = let n = with_epoch d ends.Rollback Rolling in same_low d n next (fits_gives (is_upgrade d.phase && is_next_epoch d.epoch epoch) n next e).1 refl refl low
low_after (RollbackCommit epoch answers) d next low t f e = rolled_low d next epoch answers (all_undone d.inverses d.names) f.1.1 e
low_after (Whole c) d next low t f e = absurd t
low_after (Holder chunk server) d next low t f e =
    subst AreLow (fits_gives (is_upgrade d.phase && (nat_lt server 16 && is_some (prepared_view d chunk))) (record d { prepared = with_prepared d chunk (held_by server (prepared_view d chunk)) }) next e).1
    (record { settled = λ q some. low.settled q some; prepared = λ q some. with_low d chunk (held_by server (prepared_view d chunk)) low (λ some. f.0.1) q some })

-- ---- many records

size_short : (entry : PlainEntry) (rest all limit : ℕ) → all ≡ size_of entry + rest → all ≤ limit → limit < 2 ^ 32 → IsShort entry
size_short entry rest all limit e fit low = omega arith

fits_less : (one rest all limit : ℕ) → all ≡ one + rest → all ≤ limit → rest ≤ limit
fits_less one rest all limit e fit = omega arith

-- records that fit, and have room, can be written
pub all_written : (entries : List PlainEntry) (d last : Durable) (limit : ℕ) → IsKept d → AreLow d → AreCounters last → AllByRecursion IsTellable entries → size_of_all entries ≤ limit → limit < 2 ^ 32 → replayed d entries ≡ Some last → AllByRecursion (IsEntry Two) entries × AreLow last
all_written [] d last limit k low c t fit small e = (tt, subst AreLow (durable_is e) low)
  where
    durable_is : {a b : Durable} → ◌≡◌ {A = Option Durable} (Some a) (Some b) → a ≡ b
    durable_is h = cc
all_written (entry ∷ entries) d last limit k low c t fit small e = by_first (λ n kept left h. all_written entries n last limit kept left c t.1 rest_fits small h) (applied d entry) refl e
  where
    sized : size_of_all (entry ∷ entries) ≡ size_of entry + size_of_all entries
    sized = sum_by-cons size_of entry entries

    rest_fits : size_of_all entries ≤ limit
    rest_fits = fits_less (size_of entry) (size_of_all entries) (size_of_all (entry ∷ entries)) limit sized fit

    by_first : ((n : Durable) → IsKept n → AreLow n → replayed n entries ≡ Some last → AllByRecursion (IsEntry Two) entries × AreLow last) → (o : Option Durable) → applied d entry ≡ o → option_and_then (λ n. replayed n entries) o ≡ Some last
        → AllByRecursion (IsEntry Two) (entry ∷ entries) × AreLow last
    by_first rest None is h = absurd (false≢true (ap is_some h))
    by_first rest (Some n) is h =
        let before = counted_before entry d n t.0 is (counters_back entries n last t.1 h c) in
        let short = size_short entry (size_of_all entries) (size_of_all (entry ∷ entries)) limit sized fit small in
        let fields = fields_of entry d n k low before.numbers t.0 short is in
        let kept = keeps_all entry (not_whole entry t.0) d n (fields, short) k is in
        let others = rest n kept (low_after entry d n low t.0 fields is) h in
        (((fields, short), others.0), others.1)
