-- Each element of each path that stands is spelled, behind each record; so each path that stands can be told.
use Rattle.std.proofs.Common.{◌≡◌, ◌∙◌, ◌<◌, ◌≤◌, ◌*◌, ◌^◌, ◌==◌, ◌&&◌, ◌++◌, ℕ, Bool, true, false, not, List, [], ◌∷◌, length, length-append, refl, sym, ap, subst, arith}
use Rattle.std.specs.Prelude.{nat_le, nat_lt, is_some, Option, Some, None, Result, Ok, Err, option_and_then}
use Rattle.std.specs.FinMap as fin
use Rattle.std.specs.List.{list_all, slice_split, AllByRecursion}
use Rattle.std.specs.Str.{IsUtf8, is_utf8}
use Rattle.std.proofs.lemmas.Bool.{false≢true, and_parts, le-leb, leb-true}
use Rattle.std.proofs.lemmas.Str.{IsUtf8-append, IsUtf8-from_is_utf8, IsUtf8-nil, is_utf8-from_IsUtf8}
use Rattle.gs_base.specs.declared.epoch.EpochEnd.TheVariants as ends
use Rattle.gs_base.specs.declared.numbers.ReqId.{ReqId}
use Rattle.gs_base.specs.declared.refusal.Refusal.{Refusal}
use Rattle.gs_path.specs.Element.{hidden_name, is_element, is_hidden, is_stored}
use Rattle.gs_path.specs.Path.{Name, Path, behind_slashes, path_text}
use Rattle.gs_tree.specs.Build.{is_short}
use Rattle.gs_tree.proofs.Levels.{both_true}
use Rattle.gs_edit.specs.Names.{blank}
use Rattle.gs_edit.specs.Scan.{is_without_slashes}
use Rattle.gs_edit.specs.View.{NamesView}
use Rattle.gs_journal.specs.declared.version.Version.TheVariants.{Two}
use Rattle.gs_master_record.specs.Plain.{PlainEdit, Mkdirs, Create, Rename, Hide, Unhide, Remove, AddChunk, Cow, Snapshot, Forget, PlainEntry, Edited, Said, Propose, Settle, Prepare, Finalize, RollbackBegin, RollbackCommit, Whole, Holder}
use Rattle.gs_master_record.specs.Writable.{AreFields, IsEdit, IsEntry, IsPath}
use Rattle.gs_master_record.specs.declared.checkpoint.Phase.TheVariants.{Ordinary, Upgrade, Rolling}
use Rattle.gs_master_record.specs.declared.entry.Answered.{Answered}
use Rattle.gs_master_spec.specs.Applied.{after_edit, after_undoing, applied, are_answers, are_at_rest, held_by, is_next_epoch, is_visible, is_visible_name, is_whole_entry, may_be_settled, may_edit, may_propose, names_well, proposed, replayed, rolled_back, with_edit, with_epoch, with_view, without_prepared}
use Rattle.gs_master_spec.specs.Durable.{Durable, is_ordinary, is_rolling, is_upgrade, prepared_view, start, with_prepared}
use Rattle.gs_master_spec.specs.Undoing.{all_undone, edited_names, inverse_of}
use Rattle.gs_laws_master.specs.Promises.{IsKept, goes_on_within}
use Rattle.gs_laws_master.specs.Written.{AreSpelled, HasSpelled, is_spelled}
use Rattle.gs_laws_master.proofs.lemmas.upgrades.Beginnings.{fits_gives}
use Rattle.gs_laws_master.proofs.lemmas.names.Commanded.{all_hidden}
use Rattle.gs_laws_master.proofs.lemmas.names.EachNamed.{NamesSo, edited_each}
use Rattle.gs_laws_master.proofs.lemmas.keeping.KeptAll.{keeps_all, only_root}
use Rattle.gs_laws_master.proofs.lemmas.keeping.KeptEdits.{may_edit_so, none_more}
use Rattle.gs_laws_master.proofs.lemmas.keeping.KeptRecords.{no_inverses}
use Rattle.gs_laws_master.proofs.lemmas.keeping.KeptReplies.{judged_is, split_text}
use Rattle.gs_laws_master.proofs.lemmas.upgrades.LedBack.{kept_tree, leads_back}
use Rattle.gs_laws_master.proofs.lemmas.spelling.Spelled.{can_hide, element_of, element_old, read_path, stored_hidden, stored_old}
use Rattle.gs_laws_master.proofs.lemmas.spelling.Spelling.{hidden_long, hidden_utf8, old_utf8, path_utf8, slash_utf8}
use Rattle.gs_laws_master.proofs.lemmas.names.StillNamed.{can_hide_path}
use Rattle.gs_laws_master.proofs.lemmas.telling.Tellable.{IsTellable, not_whole}

-- ---- what an edit names is spelled

pub element_long : (x : Name) → is_element x ≡ true → length x ≤ 200
element_long x h = let more = (and_parts (nat_lt 0 (length x)) _ h).1 in leb-true (length x) 200 (and_parts (nat_le (length x) 200) _ more).0

pub spell : (x : Name) → is_stored x ≡ true → is_utf8 x ≡ true → length x ≤ 251 → is_spelled x ≡ true
spell x stored utf8 few = both_true (is_stored x) (is_utf8 x && nat_le (length x) 251) stored (both_true (is_utf8 x) (nat_le (length x) 251) utf8 (le-leb (length x) 251 few))

-- an element that can be hidden, in UTF-8
abbrev can_spell : Name → Bool
can_spell x = can_hide x && is_utf8 x

spell_seen : (x : Name) → can_hide x ≡ true → is_utf8 x ≡ true → is_spelled x ≡ true
spell_seen x can utf8 = let few = element_long x (element_of x can) in spell x (and_parts (is_stored x) (not (is_hidden x)) can).0 utf8 (omega arith)

all_seen : (p : Path) → list_all can_hide p ≡ true → list_all is_utf8 p ≡ true → (list_all is_spelled p ≡ true) × (list_all can_spell p ≡ true)
all_seen [] can utf8 = (refl, refl)
all_seen (x ∷ p) can utf8 =
    let a = and_parts (can_hide x) (list_all can_hide p) can in
    let b = and_parts (is_utf8 x) (list_all is_utf8 p) utf8 in
    let rest = all_seen p a.1 b.1 in
    (both_true (is_spelled x) (list_all is_spelled p) (spell_seen x a.0 b.0) rest.0, both_true (can_spell x) (list_all can_spell p) (both_true (can_hide x) (is_utf8 x) a.0 b.0) rest.1)

pub seen_path : (p : Path) → IsPath p → is_visible p ≡ true → (list_all is_spelled p ≡ true) × (list_all can_spell p ≡ true)
seen_path p h visible = all_seen p (can_hide_path p (read_path p h.1) visible) (path_utf8 p h.0.1)

spell_hidden : (moment number : ℕ) (x : Name) → moment < 2 ^ 64 → number < 2 ^ 64 → can_spell x ≡ true → is_spelled (hidden_name moment number x) ≡ true
spell_hidden moment number x h k can =
    let both = and_parts (can_hide x) (is_utf8 x) can in
    spell (hidden_name moment number x) (stored_hidden moment number x h k both.0) (hidden_utf8 moment number x h k both.1) (hidden_long moment number x h k (element_long x (element_of x both.0)))

pub names_spelled : (edit : PlainEdit) → IsEdit edit → names_well edit ≡ true → NamesSo is_spelled edit
names_spelled (Mkdirs p) t well = (seen_path p t well).0
names_spelled (Create p) t well = (seen_path p t well).0
names_spelled (Rename from to) t well = (seen_path to t.1 (and_parts (is_visible from) (is_visible to) well).1).0
names_spelled (Hide p moment n) t well = let seen = seen_path p t.0 well in all_hidden is_spelled can_spell p moment n seen.0 seen.1 (λ x can. spell_hidden moment n x t.1.0 t.1.1 can)
names_spelled (Unhide p) t well = λ name is. (let few = element_long name (element_old p name is) in
    spell name (stored_old p name is (ap is_visible_name (sym is) ∙ well)) (old_utf8 p name is (path_utf8 p t.0.1)) (omega arith))
names_spelled (Remove p) t well = tt
names_spelled (AddChunk p chunk) t well = tt
names_spelled (Cow p index old new) t well = tt
names_spelled (Snapshot from to) t well = (seen_path to t.1 (and_parts (is_visible from) (is_visible to) well).1).0
names_spelled (Forget chunks) t well = tt

-- ---- records

names_is : {a b : NamesView} → ◌≡◌ {A = Option NamesView} (Some a) (Some b) → a ≡ b
names_is h = cc

-- where nothing is to be taken back, the names now are those before
none_back : (d : Durable) → d.inverses ≡ [] → AreSpelled d.names → HasSpelled d
none_back d none are = record { now = are; before = λ names undone. subst AreSpelled (names_is (sym (ap (λ i. all_undone i d.names) none) ∙ undone)) are }

-- a record that goes on within an upgrade, or where there is none
within_spelled : (entry : PlainEntry) (d next : Durable) → IsKept d → HasSpelled d → goes_on_within entry ≡ true → applied d entry ≡ Some next → AreSpelled next.names → (is_ordinary d.phase ≡ true → next.inverses ≡ []) → HasSpelled next
within_spelled entry d next k h within e are none = by_phase (is_ordinary d.phase) refl
  where
    by_phase : (b : Bool) → is_ordinary d.phase ≡ b → HasSpelled next
    by_phase true is = none_back next (none is) are
    by_phase false is = record { now = are; before = λ names undone. h.before names (sym (leads_back entry d next k is within e) ∙ undone) }

-- the names and what takes edits back stay
same_spelled : (d n next : Durable) → HasSpelled d → n ≡ next → n.names ≡ d.names → n.inverses ≡ d.inverses → HasSpelled next
same_spelled d n next h is names inverses = subst HasSpelled is (record {
  now = subst AreSpelled (sym names) h.now;
  before = λ back undone. h.before back (ap (λ (m : NamesView). all_undone d.inverses m) (sym names) ∙ ap (λ i. all_undone i n.names) (sym inverses) ∙ undone);
})

edit_spelled : (d next : Durable) (by : ReqId) (edit : PlainEdit) → IsEdit edit → IsKept d → HasSpelled d → applied d (Edited by edit) ≡ Some next → (names : Result NamesView Refusal) → edited_names edit d.names ≡ names → after_edit d by edit names ≡ Some next → HasSpelled next
edit_spelled d next by edit told k h e (Err refusal) named f = absurd (false≢true (ap is_some f))
edit_spelled d next by edit told k h e (Ok names) named f =
    let is = fits_gives (may_edit d edit) (with_edit d by edit names) next f in
    let are = edited_each is_spelled edit d.names names (kept_tree d.names k.names).grown h.now (names_spelled edit told (may_edit_so d edit is.0).well) named in
    within_spelled (Edited by edit) d next k h refl e (subst (λ (x : Durable). AreSpelled x.names) is.1 are)
    (λ ordinary. ap (λ (x : Durable). x.inverses) (sym is.1) ∙ none_more d.phase d.inverses (inverse_of edit (fin.entries d.names.tree)) ordinary ∙ no_inverses d k ordinary)

undone_spelled : (d next : Durable) (epoch : ℕ) (answers : List Answered) (names : Option NamesView) → HasSpelled d → all_undone d.inverses d.names ≡ names → after_undoing d epoch answers names ≡ Some next → HasSpelled next
undone_spelled d next epoch answers None h back e = absurd (false≢true (ap is_some e))
undone_spelled d next epoch answers (Some names) h back e =
    subst HasSpelled (fits_gives (is_rolling d.phase && ((epoch == d.epoch) && are_answers (prepared_view d) (fin.entries names.refs) answers)) (rolled_back d answers names) next e).1 (none_back (rolled_back d answers names) refl (h.before names back))

pub keeps_spelled : (entry : PlainEntry) (d next : Durable) → is_whole_entry entry ≡ false → AreFields Two entry → IsKept d → HasSpelled d → applied d entry ≡ Some next → HasSpelled next
unfolding applied
keeps_spelled (Edited by edit) d next other f k h e = edit_spelled d next by edit f.1 k h e (edited_names edit d.names) refl e
keeps_spelled (Said to refusal) d next other f k h e = same_spelled d _ next h (fits_gives true _ next e).1 refl refl
keeps_spelled (Propose chunk version) d next other f k h e =
    same_spelled d (proposed d chunk version) next h (fits_gives (may_propose d.phase d.next_handle d.next_version chunk version (fin.get d.chunks chunk)) (proposed d chunk version) next e).1 refl refl
keeps_spelled (Settle v) d next other f k h e = same_spelled d (with_view d v) next h (fits_gives (may_be_settled d v) (with_view d v) next e).1 refl refl
keeps_spelled (Prepare epoch moment chunks) d next other f k h e =
    let n = without_prepared (with_epoch d ends.Prepare Upgrade) in subst HasSpelled (fits_gives (is_ordinary d.phase && (is_next_epoch d.epoch epoch && are_at_rest d)) n next e).1 (none_back n refl h.now)
keeps_spelled (Finalize epoch) d next other f k h e =
    let n = without_prepared (with_epoch d ends.Finalize Ordinary) in subst HasSpelled (fits_gives (is_upgrade d.phase && is_next_epoch d.epoch epoch) n next e).1 (none_back n refl h.now)
keeps_spelled (RollbackBegin epoch) d next other f k h e =
    let n = with_epoch d ends.Rollback Rolling in same_spelled d n next h (fits_gives (is_upgrade d.phase && is_next_epoch d.epoch epoch) n next e).1 refl refl
keeps_spelled (RollbackCommit epoch answers) d next other f k h e = undone_spelled d next epoch answers (all_undone d.inverses d.names) h refl e
keeps_spelled (Whole c) d next other f k h e = absurd (false≢true (sym other))
keeps_spelled (Holder chunk server) d next other f k h e =
    let n = record d { prepared = with_prepared d chunk (held_by server (prepared_view d chunk)) } in
    same_spelled d n next h (fits_gives (is_upgrade d.phase && (nat_lt server 16 && is_some (prepared_view d chunk))) n next e).1 refl refl

-- so do many
pub all_keep_spelled : (entries : List PlainEntry) (d last : Durable) → IsKept d → HasSpelled d → AllByRecursion IsTellable entries → AllByRecursion (IsEntry Two) entries → replayed d entries ≡ Some last → HasSpelled last
all_keep_spelled [] d last k h t f e = subst HasSpelled (durable_is e) h
  where
    durable_is : {a b : Durable} → ◌≡◌ {A = Option Durable} (Some a) (Some b) → a ≡ b
    durable_is x = cc
all_keep_spelled (entry ∷ entries) d last k h t f e = by_first (λ n kept spelled r. all_keep_spelled entries n last kept spelled t.1 f.1 r) (applied d entry) refl e
  where
    by_first : ((n : Durable) → IsKept n → HasSpelled n → replayed n entries ≡ Some last → HasSpelled last) → (o : Option Durable) → applied d entry ≡ o → option_and_then (λ n. replayed n entries) o ≡ Some last → HasSpelled last
    by_first rest None is r = absurd (false≢true (ap is_some r))
    by_first rest (Some n) is r = let other = not_whole entry t.0 in rest n (keeps_all entry other d n f.0 k is) (keeps_spelled entry d n other f.0.0 k h is) r

-- in a new store the root alone stands
pub start_spelled : HasSpelled start
start_spelled = none_back start refl (λ q some. at_root q some)
  where
    at_root : (q : Path) → is_some (fin.get blank.tree q) ≡ true → list_all is_spelled q ≡ true
    at_root [] some = refl
    at_root (x ∷ q) some = only_root x q some

-- ---- a path of such elements can be told

pub behind_utf8 : (p : Path) → list_all is_spelled p ≡ true → IsUtf8 (behind_slashes p)
behind_utf8 [] all = IsUtf8-nil
behind_utf8 (x ∷ p) all =
    let parts = and_parts (is_spelled x) (list_all is_spelled p) all in
    let own = (and_parts (is_utf8 x) (nat_le (length x) 251) (and_parts (is_stored x) (is_utf8 x && nat_le (length x) 251) parts.0).1).0 in
    IsUtf8-append (47 ∷ []) (x ++ behind_slashes p) slash_utf8 (IsUtf8-append x (behind_slashes p) (IsUtf8-from_is_utf8 x own) (behind_utf8 p parts.1))

pub behind_long : (p : Path) → list_all is_spelled p ≡ true → length (behind_slashes p) ≤ 252 * length p
behind_long [] all = omega arith
behind_long (x ∷ p) all =
    let parts = and_parts (is_spelled x) (list_all is_spelled p) all in
    let own = leb-true (length x) 251 (and_parts (is_utf8 x) (nat_le (length x) 251) (and_parts (is_stored x) (is_utf8 x && nat_le (length x) 251) parts.0).1).1 in
    let rest = behind_long p parts.1 in omega (arith, length-append x (behind_slashes p))

all_stored : (p : Path) → list_all is_spelled p ≡ true → list_all is_stored p ≡ true
all_stored [] all = refl
all_stored (x ∷ p) all =
    let parts = and_parts (is_spelled x) (list_all is_spelled p) all in both_true (is_stored x) (list_all is_stored p) (and_parts (is_stored x) (is_utf8 x && nat_le (length x) 251) parts.0).0 (all_stored p parts.1)

pub path_of : (p : Path) → list_all is_spelled p ≡ true → is_short p ≡ true → is_without_slashes p ≡ true → IsPath p
path_of [] all short plain = ((omega arith, is_utf8-from_IsUtf8 (47 ∷ []) slash_utf8), refl)
path_of ([] ∷ p) all short plain = absurd (false≢true (and_parts false (list_all is_stored p) (all_stored ([] ∷ p) all)).0)
path_of ((c ∷ x) ∷ p) all short plain =
    let few = leb-true (length ((c ∷ x) ∷ p)) 64 short in
    let long = behind_long ((c ∷ x) ∷ p) all in
    ((omega arith, is_utf8-from_IsUtf8 (path_text ((c ∷ x) ∷ p)) (behind_utf8 ((c ∷ x) ∷ p) all)), judged_is ((c ∷ x) ∷ p) (slice_split (λ b. b == 47) ((c ∷ x) ++ behind_slashes p)) (split_text (c ∷ x) p plain) short (all_stored ((c ∷ x) ∷ p) all))
