-- The number that each standing hidden name tells was given.
use Rattle.std.proofs.Common.{◌≡◌, ◌∙◌, ◌<◌, ◌^◌, ◌==◌, ◌&&◌, ◌||◌, ℕ, Bool, true, false, not, List, [], ◌∷◌, refl, sym, ap, subst, arith}
use Rattle.std.specs.Prelude.{nat_lt, is_none, is_some, Option, Some, None, Result, Ok, Err, option_and_then}
use Rattle.std.specs.List.{list_all, AllByRecursion}
use Rattle.std.specs.FinMap as fin
use Rattle.std.proofs.lemmas.Bool.{false≢true, and_parts}
use Rattle.std.proofs.lemmas.Bool.Decides.{nat_tests}
use Rattle.gs_base.specs.declared.epoch.EpochEnd.TheVariants as ends
use Rattle.gs_base.specs.declared.numbers.ReqId.{ReqId}
use Rattle.gs_base.specs.declared.refusal.Refusal.{Refusal}
use Rattle.gs_path.specs.Element.{hidden_name, hidden_parts, is_hidden}
use Rattle.gs_path.specs.Path.{Name, Path}
use Rattle.gs_path.proofs.ElementLemmas.{hidden_parts-hidden_name}
use Rattle.gs_edit.specs.Names.{blank}
use Rattle.gs_edit.specs.View.{NamesView}
use Rattle.gs_journal.specs.declared.version.Version.TheVariants.{Two}
use Rattle.gs_master_record.specs.Plain.{PlainEdit, Mkdirs, Create, Rename, Hide, Unhide, Remove, AddChunk, Cow, Snapshot, Forget, PlainEntry, Edited, Said, Propose, Settle, Prepare, Finalize, RollbackBegin, RollbackCommit, Whole, Holder}
use Rattle.gs_master_record.specs.Writable.{IsEntry}
use Rattle.gs_master_record.specs.declared.checkpoint.Phase.TheVariants.{Ordinary, Upgrade, Rolling}
use Rattle.gs_master_record.specs.declared.entry.Answered.{Answered}
use Rattle.gs_master_spec.specs.Applied.{after_edit, after_if, after_undoing, applied, are_answers, are_at_rest, chunk_of_edit, held_by, is_fresh, is_fresh_if, is_next_epoch, is_visible, is_visible_name, is_whole_entry, may_be_settled, may_edit, may_propose, names_well, number_of_edit, proposed, replayed, rolled_back, view_for, with_edit, with_epoch, with_view, without_prepared}
use Rattle.gs_master_spec.specs.Durable.{Durable, after_number, is_given, is_ordinary, is_rolling, is_upgrade, prepared_view, start, with_prepared}
use Rattle.gs_master_spec.specs.Undoing.{all_undone, edited_names, inverse_of}
use Rattle.gs_master_spec.specs.Whole.{checkpoint_of}
use Rattle.gs_laws_master.specs.Numbered.{AreNumbered, HasNumbers, IsOfNumbered, LeadsToNumbers, RecordsKeepNumbers, TellsNumbers, is_numbered}
use Rattle.gs_laws_master.specs.Promises.{IsKept, goes_on_within}
use Rattle.gs_laws_master.proofs.lemmas.upgrades.Beginnings.{fits_gives}
use Rattle.gs_laws_master.proofs.lemmas.names.Commanded.{all_hidden}
use Rattle.gs_laws_master.proofs.lemmas.keeping.Counters.{keeps_given}
use Rattle.gs_laws_master.proofs.lemmas.names.EachNamed.{NamesSo, edited_each}
use Rattle.gs_laws_master.proofs.lemmas.keeping.KeptAll.{keeps_all, only_root, start_kept, tidied_kept}
use Rattle.gs_laws_master.proofs.lemmas.keeping.KeptEdits.{edit_told, may_edit_so, none_more}
use Rattle.gs_laws_master.proofs.lemmas.keeping.KeptRecords.{no_inverses}
use Rattle.gs_laws_master.proofs.lemmas.upgrades.LedBack.{kept_tree, leads_back}
use Rattle.gs_laws_master.proofs.lemmas.spelling.Spelled.{can_hide, element_of}
use Rattle.gs_laws_master.proofs.lemmas.names.StillNamed.{IsTold, all_by, can_hide_path, each_visible}
use Rattle.gs_laws_master.proofs.lemmas.telling.ToldAgain.{tells_all}

-- ---- what an edit names

-- where it holds of each that isn't hidden
module _ (f : Name → Bool) (seen : (x : Name) → not (is_hidden x) ≡ true → f x ≡ true) where
  all_seen : (p : Path) → is_visible p ≡ true → list_all f p ≡ true
  all_seen p h = all_by (λ x. not (is_hidden x)) f p seen (each_visible p h)

  -- and of what the edit hides
  abbrev HidesSo : PlainEdit → Type 0
  HidesSo (Hide p moment number) = (x : Name) → can_hide x ≡ true → f (hidden_name moment number x) ≡ true
  HidesSo edit = Unit {0}

  names_so : (edit : PlainEdit) → IsTold edit → names_well edit ≡ true → HidesSo edit → NamesSo f edit
  names_so (Mkdirs p) told well hides = all_seen p well
  names_so (Create p) told well hides = all_seen p well
  names_so (Rename from to) told well hides = all_seen to (and_parts (is_visible from) (is_visible to) well).1
  names_so (Hide p moment number) told well hides = all_hidden f can_hide p moment number (all_seen p well) (can_hide_path p told.0 well) hides
  names_so (Unhide p) told well hides = λ name is. seen name (ap is_visible_name (sym is) ∙ well)
  names_so (Remove p) told well hides = tt
  names_so (AddChunk p chunk) told well hides = tt
  names_so (Cow p index old new) told well hides = tt
  names_so (Snapshot from to) told well hides = all_seen to (and_parts (is_visible from) (is_visible to) well).1
  names_so (Forget chunks) told well hides = tt

-- ---- numbers

-- a name that doesn't look hidden tells none
seen_numbered : (next : ℕ) (x : Name) → not (is_hidden x) ≡ true → is_numbered next x ≡ true
seen_numbered next x h = rw (not_hidden (is_hidden x) h) refl
  where
    not_hidden : (b : Bool) → not b ≡ true → b ≡ false
    not_hidden true k = absurd (false≢true k)
    not_hidden false k = refl

abbrev given_in : ℕ → Option (ℕ × ℕ × Name) → Bool
given_in n None = true
given_in n (Some parts) = is_given n parts.1

-- what was given stays so
more_numbered : (next after : ℕ) → ((n : ℕ) → is_given next n ≡ true → is_given after n ≡ true) → (x : Name) → is_numbered next x ≡ true → is_numbered after x ≡ true
more_numbered next after more x = by_parts (hidden_parts x)
  where
    by_parts : (o : Option (ℕ × ℕ × Name)) → given_in next o ≡ true → given_in after o ≡ true
    by_parts None h = refl
    by_parts (Some parts) h = more parts.1 h

are_more : (next after : ℕ) (names : NamesView) → ((n : ℕ) → is_given next n ≡ true → is_given after n ≡ true) → AreNumbered next names → AreNumbered after names
are_more next after names more are q some = all_by (is_numbered next) (is_numbered after) q (more_numbered next after more) (are q some)

given_now : (next n : ℕ) → is_fresh next n ≡ true → is_given (after_number n) n ≡ true
given_now next n fresh = grind (arith, nat_tests)

-- the name of a deletion tells the deletion's number
hidden_numbered : (next moment number : ℕ) (x : Name) → is_fresh next number ≡ true → moment < 2 ^ 64 → number < 2 ^ 64 → can_hide x ≡ true → is_numbered (after_number number) (hidden_name moment number x) ≡ true
hidden_numbered next moment number x fresh low few can = rw (hidden_parts-hidden_name moment number x low few (element_of x can)) (given_now next number fresh)

hides_so : (edit : PlainEdit) (next : ℕ) → is_fresh_if next (number_of_edit edit) ≡ true → IsTold edit → HidesSo (is_numbered (after_if next (number_of_edit edit))) (seen_numbered (after_if next (number_of_edit edit))) edit
hides_so (Hide p moment number) next fresh told = λ x can. hidden_numbered next moment number x fresh told.1 told.2 can
hides_so (Mkdirs p) next fresh told = tt
hides_so (Create p) next fresh told = tt
hides_so (Rename from to) next fresh told = tt
hides_so (Unhide p) next fresh told = tt
hides_so (Remove p) next fresh told = tt
hides_so (AddChunk p chunk) next fresh told = tt
hides_so (Cow p index old new) next fresh told = tt
hides_so (Snapshot from to) next fresh told = tt
hides_so (Forget chunks) next fresh told = tt

-- ---- records

fresh_so : (d : Durable) (edit : PlainEdit) → may_edit d edit ≡ true → is_fresh_if d.next_hidden (number_of_edit edit) ≡ true
fresh_so d edit may =
    let settled = is_none (chunk_of_edit edit) || is_some (view_for d (chunk_of_edit edit)) in
    let counted = is_fresh_if d.next_hidden (number_of_edit edit) in
    (and_parts settled counted (and_parts (names_well edit) (settled && counted) (and_parts (not (is_rolling d.phase)) (names_well edit && (settled && counted)) may).1).1).1

after_fresh : (next n : ℕ) (number : Option ℕ) → is_fresh_if next number ≡ true → is_given next n ≡ true → is_given (after_if next number) n ≡ true
after_fresh next n None fresh g = g
after_fresh next n (Some v) fresh g = grind (arith, nat_tests)

edit_now : (d : Durable) (edit : PlainEdit) (names : NamesView) → IsKept d → AreNumbered d.next_hidden d.names → IsTold edit → may_edit d edit ≡ true → edited_names edit d.names ≡ Ok names → AreNumbered (after_if d.next_hidden (number_of_edit edit)) names
edit_now d edit names k are told may named =
    let next = after_if d.next_hidden (number_of_edit edit) in
    let fresh = fresh_so d edit may in
    edited_each (is_numbered next) edit d.names names (kept_tree d.names k.names).grown (are_more d.next_hidden next d.names (λ n g. after_fresh d.next_hidden n (number_of_edit edit) fresh g) are)
    (names_so (is_numbered next) (seen_numbered next) edit told (may_edit_so d edit may).well (hides_so edit d.next_hidden fresh told)) named

names_is : {a b : NamesView} → ◌≡◌ {A = Option NamesView} (Some a) (Some b) → a ≡ b
names_is h = cc

-- where nothing is to be taken back, the names now are those before
none_back : (d : Durable) → d.inverses ≡ [] → AreNumbered d.next_hidden d.names → HasNumbers d
none_back d none are = record { now = are; before = λ names undone. subst (AreNumbered d.next_hidden) (names_is (sym (ap (λ i. all_undone i d.names) none) ∙ undone)) are }

-- a record that goes on within an upgrade, or where there is none
within_numbers : (entry : PlainEntry) (d next : Durable) → IsKept d → HasNumbers d → goes_on_within entry ≡ true → is_whole_entry entry ≡ false → applied d entry ≡ Some next → AreNumbered next.next_hidden next.names → (is_ordinary d.phase ≡ true → next.inverses ≡ []) → HasNumbers next
within_numbers entry d next k h within other e are none = by_phase (is_ordinary d.phase) refl
  where
    more : (n : ℕ) → is_given d.next_hidden n ≡ true → is_given next.next_hidden n ≡ true
    more n g = (keeps_given entry d next n other e).2 g

    by_phase : (b : Bool) → is_ordinary d.phase ≡ b → HasNumbers next
    by_phase true is = none_back next (none is) are
    by_phase false is = record { now = are; before = λ names undone. are_more d.next_hidden next.next_hidden names more (h.before names (sym (leads_back entry d next k is within e) ∙ undone)) }

-- the names, the counter and what takes edits back stay
same_numbers : (entry : PlainEntry) (d n next : Durable) → IsKept d → HasNumbers d → goes_on_within entry ≡ true → is_whole_entry entry ≡ false → applied d entry ≡ Some next → n ≡ next → n.names ≡ d.names → n.next_hidden ≡ d.next_hidden → n.inverses ≡ d.inverses → HasNumbers next
same_numbers entry d n next k h within other e is names hidden inverses =
    within_numbers entry d next k h within other e (subst (λ (x : Durable). AreNumbered x.next_hidden x.names) is (λ q some. ap (λ c. list_all (is_numbered c) q) hidden ∙ h.now q (ap (λ (m : NamesView). is_some (fin.get m.tree q)) (sym names) ∙ some)))
    (λ ordinary. ap (λ (x : Durable). x.inverses) (sym is) ∙ inverses ∙ no_inverses d k ordinary)

edit_numbers : (d next : Durable) (by : ReqId) (edit : PlainEdit) → IsTold edit → IsKept d → HasNumbers d → applied d (Edited by edit) ≡ Some next → (names : Result NamesView Refusal) → edited_names edit d.names ≡ names → after_edit d by edit names ≡ Some next → HasNumbers next
edit_numbers d next by edit told k h e (Err refusal) named f = absurd (false≢true (ap is_some f))
edit_numbers d next by edit told k h e (Ok names) named f =
    let is = fits_gives (may_edit d edit) (with_edit d by edit names) next f in
    within_numbers (Edited by edit) d next k h refl refl e (subst (λ (x : Durable). AreNumbered x.next_hidden x.names) is.1 (edit_now d edit names k h.now told is.0 named))
    (λ ordinary. ap (λ (x : Durable). x.inverses) (sym is.1) ∙ none_more d.phase d.inverses (inverse_of edit (fin.entries d.names.tree)) ordinary ∙ no_inverses d k ordinary)

undone_numbers : (d next : Durable) (epoch : ℕ) (answers : List Answered) (names : Option NamesView) → HasNumbers d → all_undone d.inverses d.names ≡ names → after_undoing d epoch answers names ≡ Some next → HasNumbers next
undone_numbers d next epoch answers None h back e = absurd (false≢true (ap is_some e))
undone_numbers d next epoch answers (Some names) h back e =
    subst HasNumbers (fits_gives (is_rolling d.phase && ((epoch == d.epoch) && are_answers (prepared_view d) (fin.entries names.refs) answers)) (rolled_back d answers names) next e).1 (none_back (rolled_back d answers names) refl (h.before names back))

-- the paths of its edit are read, and its numbers those of a type
abbrev pub IsToldIn : PlainEntry → Type 0
IsToldIn (Edited by edit) = IsTold edit
IsToldIn entry = Unit {0}

told_in : (entry : PlainEntry) → IsEntry Two entry → IsToldIn entry
told_in (Edited by edit) written = edit_told edit written.0.1
told_in entry written = tt

pub keeps_numbers : (entry : PlainEntry) → is_whole_entry entry ≡ false → (d next : Durable) → IsToldIn entry → IsKept d → HasNumbers d → applied d entry ≡ Some next → HasNumbers next
unfolding applied
keeps_numbers (Edited by edit) other d next told k h e = edit_numbers d next by edit told k h e (edited_names edit d.names) refl e
keeps_numbers (Said to refusal) other d next told k h e = same_numbers (Said to refusal) d _ next k h refl refl e (fits_gives true _ next e).1 refl refl refl
keeps_numbers (Propose chunk version) other d next told k h e =
    same_numbers (Propose chunk version) d (proposed d chunk version) next k h refl refl e (fits_gives (may_propose d.phase d.next_handle d.next_version chunk version (fin.get d.chunks chunk)) (proposed d chunk version) next e).1 refl refl refl
keeps_numbers (Settle v) other d next told k h e = same_numbers (Settle v) d (with_view d v) next k h refl refl e (fits_gives (may_be_settled d v) (with_view d v) next e).1 refl refl refl
keeps_numbers (Prepare epoch moment chunks) other d next told k h e =
    let n = without_prepared (with_epoch d ends.Prepare Upgrade) in subst HasNumbers (fits_gives (is_ordinary d.phase && (is_next_epoch d.epoch epoch && are_at_rest d)) n next e).1 (none_back n refl h.now)
keeps_numbers (Finalize epoch) other d next told k h e =
    let n = without_prepared (with_epoch d ends.Finalize Ordinary) in subst HasNumbers (fits_gives (is_upgrade d.phase && is_next_epoch d.epoch epoch) n next e).1 (none_back n refl h.now)
keeps_numbers (RollbackBegin epoch) other d next told k h e =
    let n = with_epoch d ends.Rollback Rolling in same_numbers (RollbackBegin epoch) d n next k h refl refl e (fits_gives (is_upgrade d.phase && is_next_epoch d.epoch epoch) n next e).1 refl refl refl
keeps_numbers (RollbackCommit epoch answers) other d next told k h e = undone_numbers d next epoch answers (all_undone d.inverses d.names) h refl e
keeps_numbers (Whole c) other d next told k h e = absurd (false≢true (sym other))
keeps_numbers (Holder chunk server) other d next told k h e =
    let n = record d { prepared = with_prepared d chunk (held_by server (prepared_view d chunk)) } in
    same_numbers (Holder chunk server) d n next k h refl refl e (fits_gives (is_upgrade d.phase && (nat_lt server 16 && is_some (prepared_view d chunk))) n next e).1 refl refl refl

pub records_keep_numbers : RecordsKeepNumbers
records_keep_numbers entry other d next written k h e = keeps_numbers entry other d next (told_in entry written) k h e

-- ---- checkpoints

durable_is : {a b : Durable} → ◌≡◌ {A = Option Durable} (Some a) (Some b) → a ≡ b
durable_is h = cc

pub tells_numbers : TellsNumbers
unfolding applied
tells_numbers d next k h e = subst HasNumbers (durable_is (sym (tells_all d k) ∙ e)) (record { now = h.now; before = h.before })

-- ---- many records

-- what stands, with its numbers
record Numbered (d : Durable) : Type 0 where
  kept : IsKept d
  numbers : HasNumbers d

whole_numbered : (entry : PlainEntry) (d next was : Durable) → IsKept was → HasNumbers was → entry ≡ Whole (checkpoint_of was) → applied d entry ≡ Some next → Numbered next
unfolding applied
whole_numbered entry d next was k h is e =
    subst Numbered (durable_is (sym (tells_all was k) ∙ ap (applied d) (sym is) ∙ e)) (record { kept = tidied_kept was k; numbers = record { now = h.now; before = h.before } })

any_numbered : (entry : PlainEntry) (d next : Durable) → IsOfNumbered entry → IsEntry Two entry → Numbered d → applied d entry ≡ Some next → Numbered next
any_numbered (Whole c) d next own written n e = whole_numbered (Whole c) d next own.0 own.1.0 own.1.1.0 (ap (λ x. Whole x) own.1.1.1) e
any_numbered (Edited by edit) d next own written n e = record { kept = keeps_all (Edited by edit) refl d next written n.kept e; numbers = records_keep_numbers (Edited by edit) refl d next written n.kept n.numbers e }
any_numbered (Said to refusal) d next own written n e = record { kept = keeps_all (Said to refusal) refl d next written n.kept e; numbers = records_keep_numbers (Said to refusal) refl d next written n.kept n.numbers e }
any_numbered (Propose chunk version) d next own written n e = record { kept = keeps_all (Propose chunk version) refl d next written n.kept e; numbers = records_keep_numbers (Propose chunk version) refl d next written n.kept n.numbers e }
any_numbered (Settle v) d next own written n e = record { kept = keeps_all (Settle v) refl d next written n.kept e; numbers = records_keep_numbers (Settle v) refl d next written n.kept n.numbers e }
any_numbered (Prepare epoch moment chunks) d next own written n e =
    record { kept = keeps_all (Prepare epoch moment chunks) refl d next written n.kept e; numbers = records_keep_numbers (Prepare epoch moment chunks) refl d next written n.kept n.numbers e }
any_numbered (Finalize epoch) d next own written n e = record { kept = keeps_all (Finalize epoch) refl d next written n.kept e; numbers = records_keep_numbers (Finalize epoch) refl d next written n.kept n.numbers e }
any_numbered (RollbackBegin epoch) d next own written n e = record { kept = keeps_all (RollbackBegin epoch) refl d next written n.kept e; numbers = records_keep_numbers (RollbackBegin epoch) refl d next written n.kept n.numbers e }
any_numbered (RollbackCommit epoch answers) d next own written n e =
    record { kept = keeps_all (RollbackCommit epoch answers) refl d next written n.kept e; numbers = records_keep_numbers (RollbackCommit epoch answers) refl d next written n.kept n.numbers e }
any_numbered (Holder chunk server) d next own written n e = record { kept = keeps_all (Holder chunk server) refl d next written n.kept e; numbers = records_keep_numbers (Holder chunk server) refl d next written n.kept n.numbers e }

replay_numbered : (entries : List PlainEntry) (d last : Durable) → Numbered d → AllByRecursion IsOfNumbered entries → AllByRecursion (IsEntry Two) entries → replayed d entries ≡ Some last → Numbered last
replay_numbered [] d last n own written e = subst Numbered (durable_is e) n
replay_numbered (entry ∷ entries) d last n own written e = by_first (applied d entry) refl (λ m is r. replay_numbered entries m last (any_numbered entry d m own.0 written.0 n is) own.1 written.1 r) e
  where
    by_first : (o : Option Durable) → applied d entry ≡ o → ((m : Durable) → applied d entry ≡ Some m → replayed m entries ≡ Some last → Numbered last) → option_and_then (λ m. replayed m entries) o ≡ Some last → Numbered last
    by_first None is rest h = absurd (false≢true (ap is_some h))
    by_first (Some m) is rest h = rest m is h

-- in a new store the root alone stands
pub start_numbers : HasNumbers start
start_numbers = none_back start refl (λ q some. at_root q some)
  where
    at_root : (q : Path) → is_some (fin.get blank.tree q) ≡ true → list_all (is_numbered 1) q ≡ true
    at_root [] some = refl
    at_root (x ∷ q) some = only_root x q some

pub leads_to_numbers : LeadsToNumbers
leads_to_numbers entries d own written e = (replay_numbered entries start d (record { kept = start_kept; numbers = start_numbers }) own written e).numbers
