-- A new call of the tree is answered as the plain tree answers it.
use Rattle.std.proofs.Common.{◌≡◌, ◌∙◌, inl, inr, ◌++◌, ◌&&◌, ◌||◌, ℕ, Bool, true, false, not, cond, List, [], ◌∷◌, map, refl, sym, ap, subst}
use Rattle.std.specs.Prelude.{Option, Some, None, Result, Ok, Err, ◌==◌, flat_map, if◌then◌else◌, is_none, option_map}
use Rattle.std.specs.FinMap as fin
use Rattle.gs_base.specs.Refusals.{number_of}
use Rattle.gs_base.specs.declared.config.Config.{Config}
use Rattle.gs_base.specs.declared.numbers.Moment.{Moment}
use Rattle.gs_base.specs.declared.numbers.ReqId.{ReqId}
use Rattle.gs_base.specs.declared.refusal.Refusal.{Refusal}
use Rattle.gs_base.specs.declared.refusal.Refusal.TheVariants as refusals
use Rattle.gs_edit.proofs.Payloads.{create_rows-map, hide_rows-map, mkdirs_rows-map, rename_rows-map, snapshot_rows-map, unhide_rows-map}
use Rattle.gs_edit.proofs.Tables.{seen}
use Rattle.gs_edit.specs.Edits.{counted, edited, with_counts}
use Rattle.gs_edit.specs.Mapped.{mapped_edit, mapped_rows}
use Rattle.gs_edit.specs.Names.{IsCounted}
use Rattle.gs_edit.specs.Plain.{create_rows, hide_rows, mkdirs_rows, rename_rows, snapshot_rows, unhide_rows, unhide_target}
use Rattle.gs_edit.specs.View.{NamesView}
use Rattle.gs_edit.specs.declared.edit.Edit.TheVariants as edits
use Rattle.gs_msg.specs.declared.answer.Answer.{Answer}
use Rattle.gs_msg.specs.declared.answer.Answer.TheVariants as answers
use Rattle.gs_msg.specs.declared.call.Call.{Call}
use Rattle.gs_msg.specs.declared.call.Call.TheVariants as calls
use Rattle.gs_path.specs.Path.{Path}
use Rattle.gs_laws_plain.specs.commands.Answers.{answered, by_paths, deletes, has_visible, is_of_store, is_refused_by_store, listed, named, plain_answer, tree_answer}
use Rattle.gs_laws_plain.specs.commands.Answers as plain
use Rattle.gs_laws_plain.specs.commands.Commands.{Texts}
use Rattle.gs_laws_plain.proofs.lemmas.commands.Raised.{source_refused}
use Rattle.gs_laws_plain.proofs.lemmas.commands.Rows.{at_mapped}
use Rattle.gs_laws_plain.specs.commands.Answering.{IsAtOnce, NewCallsAnswerPlainly, RepliesPlainly}
use Rattle.gs_master_record.specs.Plain.{PlainEdit, Create, Hide, Mkdirs, Rename, Snapshot, Unhide}
use Rattle.gs_refs.specs.Counts.{Counts}
use Rattle.gs_master_spec.specs.Calls as store
use Rattle.gs_master_spec.specs.Calls.{accept_plan, answered_with, deleted, edit_if, edited_by, has_visible_child, is_always_taken, is_any_deep, is_any_hidden, is_hidden_at, is_locked, is_work, name_of_row, listing, looked_up, names_of_rows, refused_before, renames}
use Rattle.gs_master_spec.specs.Durable.{is_rolling}
use Rattle.gs_master_spec.specs.Handling.{called, called_unless, new_call}
use Rattle.gs_master_spec.specs.State.{State, first_of, fits, is_failed, refused, turned}
use Rattle.gs_master_spec.specs.Undoing.{edited_names, names_from}
use Rattle.gs_master_spec.specs.Working.{begins_snapshot, snapshot_if, unquiet}
use Rattle.gs_tree.specs.Edits.{hidden_path, is_dir, last, old_name, same_path, target_of}
use Rattle.gs_tree.specs.Entry.{Dir, Entry, File}
use Rattle.gs_tree.specs.Find.{Rows, at}
use Rattle.gs_tree.specs.Lists.{is_child}
use Rattle.gs_tree.specs.Mapped.{mapped_at, mapped_entry}

-- ---- refusals

of_store : (s : State) (req : ReqId) (e : Refusal) (plain : Result Answer Refusal) → is_of_store (number_of e) ≡ true → RepliesPlainly req (refused s req e) plain
of_store s req e plain is = record { result = Err e; sent = refl; plainly = inl is }

as_plain : (s : State) (req : ReqId) (e : Refusal) → RepliesPlainly req (refused s req e) (Err e)
as_plain s req e = record { result = Err e; sent = refl; plainly = inr refl }

-- the tests that come before a call's own
tested : (config : Config) (s : State) (req : ReqId) (moment : Moment) (call : Call) (result : Result Answer Refusal) (failed rolling preparing deep locked hidden : Bool) → RepliesPlainly req (called config s req moment call) result →
    RepliesPlainly req (called_unless config s req moment call (first_of ((failed, refusals.Device) ∷ (rolling, refusals.RollingBack) ∷ (preparing, refusals.Preparing) ∷ (deep, refusals.BadPath) ∷ (locked, refusals.Locked) ∷ (hidden, refusals.HiddenName) ∷ [])))
    (if deep then Err refusals.BadPath else if hidden then Err refusals.HiddenName else result)
tested config s req moment call result true rolling preparing deep locked hidden own = of_store s req refusals.Device _ refl
tested config s req moment call result false true preparing deep locked hidden own = of_store s req refusals.RollingBack _ refl
tested config s req moment call result false false true deep locked hidden own = of_store s req refusals.Preparing _ refl
tested config s req moment call result false false false true locked hidden own = as_plain s req refusals.BadPath
tested config s req moment call result false false false false true hidden own = of_store s req refusals.Locked _ refl
tested config s req moment call result false false false false false true own = as_plain s req refusals.HiddenName
tested config s req moment call result false false false false false false own = own

-- ---- edits

with_room : (s : State) (req : ReqId) (edit : PlainEdit) (answer : Answer) (room : Bool) → RepliesPlainly req (if room then turned s (accept_plan req edit answer) else refused s req refusals.Full) (Ok answer)
with_room s req edit answer true = record { result = Ok answer; sent = refl; plainly = inr refl }
with_room s req edit answer false = of_store s req refusals.Full (Ok answer) refl

-- An edit that keeps the counts, or whose counts the store refuses; its record may tell another one.
told_replies : (s : State) (req : ReqId) (edit : PlainEdit) (answer : Answer) (text : ℕ → List ℕ) (names : Result NamesView Refusal) (rows : Result (Rows ℕ) Refusal) (refs : Result Counts Refusal) (texts : Result Texts Refusal) →
    ((e : Refusal) → refs ≡ Err e → is_of_store (number_of e) ≡ true) → names ≡ names_from (with_counts rows refs) → texts ≡ mapped_edit text rows → RepliesPlainly req (edit_if s req edit answer names) (answered answer texts)
told_replies s req edit answer text names rows refs texts counts is follows =
    subst (λ (t : Result Texts Refusal). RepliesPlainly req (edit_if s req edit answer names) (answered answer t)) (sym follows)
    (subst (λ (n : Result NamesView Refusal). RepliesPlainly req (edit_if s req edit answer n) (answered answer (mapped_edit text rows))) (sym is) (each rows refs counts))
  where
    each : (rows : Result (Rows ℕ) Refusal) (refs : Result Counts Refusal) → ((e : Refusal) → refs ≡ Err e → is_of_store (number_of e) ≡ true) → RepliesPlainly req (edit_if s req edit answer (names_from (with_counts rows refs))) (answered answer (mapped_edit text rows))
    each (Err e) refs counts = as_plain s req e
    each (Ok new) (Err e) counts = of_store s req e (Ok answer) (counts e refl)
    each (Ok new) (Ok refs) counts = with_room s req edit answer (fits s.log (turned s (accept_plan req edit answer)).records)

edit_replies : (s : State) (req : ReqId) (edit : PlainEdit) (answer : Answer) (text : ℕ → List ℕ) (rows : Result (Rows ℕ) Refusal) (refs : Result Counts Refusal) (texts : Result Texts Refusal) →
    ((e : Refusal) → refs ≡ Err e → is_of_store (number_of e) ≡ true) → edited_names edit s.durable.names ≡ names_from (with_counts rows refs) → texts ≡ mapped_edit text rows → RepliesPlainly req (edited_by s req edit answer) (answered answer texts)
edit_replies s req edit answer text rows refs texts counts is follows = told_replies s req edit answer text (edited_names edit s.durable.names) rows refs texts counts is follows

none_refused : {refs : Counts} (e : Refusal) → ◌≡◌ {A = Result Counts Refusal} (Ok refs) (Err e) → is_of_store (number_of e) ≡ true
none_refused e h = absurd (cc)

-- ---- look-ups

abbrev is_listed : {A : Type 0} → Path → Path × Entry A → Bool
is_listed p row = is_child p row.0 && not (is_hidden_at row.0)

same_kind : (text : ℕ → List ℕ) (e : Entry ℕ) → is_dir (Some (mapped_entry text e)) ≡ is_dir (Some e)
same_kind text Dir = refl
same_kind text (File chunks) = refl

pub same_names : (text : ℕ → List ℕ) (p : Path) (rows : Rows ℕ) → flat_map named (plain.children (mapped_rows text rows) p) ≡ names_of_rows (store.children rows p)
same_names text p [] = refl
same_names text p (row ∷ rows) = each (same_names text p rows) (is_listed p row)
  where
    each : flat_map named (plain.children (mapped_rows text rows) p) ≡ names_of_rows (store.children rows p) → (b : Bool) →
        flat_map named (cond b ((row.0, mapped_entry text row.1) ∷ plain.children (mapped_rows text rows) p) (plain.children (mapped_rows text rows) p)) ≡ names_of_rows (cond b (row ∷ store.children rows p) (store.children rows p))
    each rest true =
        ap (λ kind. map (λ name. record { name = name; is_directory = kind }) (last row.0) ++ flat_map named (plain.children (mapped_rows text rows) p)) (same_kind text row.1)
        ∙ ap (λ names. name_of_row row ++ names) rest
    each rest false = rest

pub same_visible : (text : ℕ → List ℕ) (p : Path) (rows : Rows ℕ) → has_visible (mapped_rows text rows) p ≡ has_visible_child rows p
same_visible text p [] = refl
same_visible text p (row ∷ rows) = ap (λ b. is_listed p row || b) (same_visible text p rows)

list_replies : (s : State) (req : ReqId) (p : Path) (text : ℕ → List ℕ) (v : Option (Entry ℕ)) →
    RepliesPlainly req (looked_up s req (listing (fin.entries s.durable.names.tree) p v)) (listed (mapped_rows text (fin.entries s.durable.names.tree)) p (mapped_at text v))
list_replies s req p text None = as_plain s req refusals.NotFound
list_replies s req p text (Some Dir) = record { result = _; sent = refl; plainly = inr (ap (λ names. Ok (answers.Names names)) (sym (same_names text p (fin.entries s.durable.names.tree)))) }
list_replies s req p text (Some (File chunks)) = record { result = _; sent = refl; plainly = inr refl }

-- ---- a deletion

pub none_mapped : (text : ℕ → List ℕ) (v : Option (Entry ℕ)) → is_none (mapped_at text v) ≡ is_none v
none_mapped text None = refl
none_mapped text (Some e) = refl

delete_replies : (s : State) (req : ReqId) (p : Path) (recursive : Bool) (moment : Moment) (text : ℕ → List ℕ) →
    RepliesPlainly req (deleted s req p recursive moment) (deletes (mapped_rows text (fin.entries s.durable.names.tree)) p recursive moment.0 s.durable.next_hidden)
unfolding edited_names
delete_replies s req p recursive moment text =
    subst (λ b. RepliesPlainly req (deleted s req p recursive moment) (if same_path p [] then Err refusals.IsRoot else if b then Ok answers.Absent else if not recursive && has_visible texts p then Err refusals.NotEmpty else hides)) (sym none)
    (subst (λ b. RepliesPlainly req (deleted s req p recursive moment) (if same_path p [] then Err refusals.IsRoot else if is_none (fin.get s.durable.names.tree p) then Ok answers.Absent else if not recursive && b then Err refusals.NotEmpty else hides)) (sym (same_visible text p rows))
    (each (same_path p []) (is_none (fin.get s.durable.names.tree p)) (not recursive && has_visible_child rows p) (s.durable.next_hidden == 0)))
  where
    rows : Rows ℕ
    rows = fin.entries s.durable.names.tree

    texts : Texts
    texts = mapped_rows text (fin.entries s.durable.names.tree)

    number : ℕ
    number = s.durable.next_hidden

    hides : Result Answer Refusal
    hides = answered (answers.Path (hidden_path p moment.0 s.durable.next_hidden)) (hide_rows (mapped_rows text (fin.entries s.durable.names.tree)) p moment.0 s.durable.next_hidden)

    none : is_none (at (mapped_rows text (fin.entries s.durable.names.tree)) p) ≡ is_none (fin.get s.durable.names.tree p)
    none = ap is_none (at_mapped text (fin.entries s.durable.names.tree) p) ∙ none_mapped text (at (fin.entries s.durable.names.tree) p) ∙ ap (λ m. is_none (m p)) (sym (seen s.durable.names.tree))

    hidden : RepliesPlainly req (edited_by s req (Hide p moment.0 s.durable.next_hidden) (answers.Path (hidden_path p moment.0 s.durable.next_hidden))) hides
    hidden =
        edit_replies s req (Hide p moment.0 s.durable.next_hidden) (answers.Path (hidden_path p moment.0 s.durable.next_hidden)) text (hide_rows (fin.entries s.durable.names.tree) p moment.0 s.durable.next_hidden) (Ok s.durable.names.refs)
        (hide_rows (mapped_rows text (fin.entries s.durable.names.tree)) p moment.0 s.durable.next_hidden) none_refused refl (hide_rows-map text (fin.entries s.durable.names.tree) p moment.0 s.durable.next_hidden)

    each : (root none some last : Bool) → RepliesPlainly req
        (if root then refused s req refusals.IsRoot else if none then answered_with s req answers.Absent else if some then refused s req refusals.NotEmpty else if last then refused s req refusals.Exhausted
        else edited_by s req (Hide p moment.0 s.durable.next_hidden) (answers.Path (hidden_path p moment.0 s.durable.next_hidden)))
        (if root then Err refusals.IsRoot else if none then Ok answers.Absent else if some then Err refusals.NotEmpty else hides)
    each true none some last = as_plain s req refusals.IsRoot
    each false true some last = record { result = Ok answers.Absent; sent = refl; plainly = inr refl }
    each false false true last = as_plain s req refusals.NotEmpty
    each false false false true = of_store s req refusals.Exhausted hides refl
    each false false false false = hidden

-- ---- all calls

same_result : {a b : Result Answer Refusal} → ◌≡◌ {A = Option (Result Answer Refusal)} (Some a) (Some b) → a ≡ b
same_result h = cc

snapshot_replies : (s : State) (req : ReqId) (from to : Path) (text : ℕ → List ℕ) → IsCounted s.durable.names → unquiet s from ≡ [] →
    RepliesPlainly req (snapshot_if s req from to (edited (edits.Snapshot from to) (fin.entries s.durable.names.tree))) (answered answers.Nothing (snapshot_rows (mapped_rows text (fin.entries s.durable.names.tree)) from to))
unfolding edited_names
snapshot_replies s req from to text has once = each (snapshot_rows (fin.entries s.durable.names.tree) from to) refl
  where
    own : RepliesPlainly req (edited_by s req (Snapshot from to) answers.Nothing) (answered answers.Nothing (snapshot_rows (mapped_rows text (fin.entries s.durable.names.tree)) from to))
    own =
        edit_replies s req (Snapshot from to) answers.Nothing text (snapshot_rows (fin.entries s.durable.names.tree) from to) (counted (edits.Snapshot from to) (fin.entries s.durable.names.tree) s.durable.names.refs)
        (snapshot_rows (mapped_rows text (fin.entries s.durable.names.tree)) from to) (λ e h. source_refused s.durable.names from e has h) refl (snapshot_rows-map text (fin.entries s.durable.names.tree) from to)

    each : (r : Result (Rows ℕ) Refusal) → snapshot_rows (fin.entries s.durable.names.tree) from to ≡ r →
        RepliesPlainly req (snapshot_if s req from to r) (answered answers.Nothing (snapshot_rows (mapped_rows text (fin.entries s.durable.names.tree)) from to))
    each (Ok rows) is = subst (λ (chunks : List ℕ). RepliesPlainly req (begins_snapshot s req from to chunks) (answered answers.Nothing (snapshot_rows (mapped_rows text (fin.entries s.durable.names.tree)) from to))) (sym once) own
    each (Err e) is =
        subst (λ (t : Result Texts Refusal). RepliesPlainly req (refused s req e) (answered answers.Nothing t)) (sym (snapshot_rows-map text (fin.entries s.durable.names.tree) from to ∙ ap (mapped_edit text) is)) (as_plain s req e)

tree_replies : (config : Config) (s : State) (req : ReqId) (moment : Moment) (call : Call) (text : ℕ → List ℕ) (result : Result Answer Refusal) → IsCounted s.durable.names → IsAtOnce s call → tree_answer (mapped_rows text (fin.entries s.durable.names.tree)) moment.0 s.durable.next_hidden call ≡ Some result →
    RepliesPlainly req (called config s req moment call) result
unfolding edited_names
tree_replies config s req moment (calls.Mkdirs p) text result has once is =
    subst (RepliesPlainly req (edited_by s req (Mkdirs p) answers.Nothing)) (same_result is)
    (edit_replies s req (Mkdirs p) answers.Nothing text (mkdirs_rows (fin.entries s.durable.names.tree) p) (Ok s.durable.names.refs) (mkdirs_rows (mapped_rows text (fin.entries s.durable.names.tree)) p) none_refused refl (mkdirs_rows-map text (fin.entries s.durable.names.tree) p))
tree_replies config s req moment (calls.Create p) text result has once is =
    subst (RepliesPlainly req (edited_by s req (Create p) answers.Nothing)) (same_result is)
    (edit_replies s req (Create p) answers.Nothing text (create_rows (fin.entries s.durable.names.tree) p) (Ok s.durable.names.refs) (create_rows (mapped_rows text (fin.entries s.durable.names.tree)) p) none_refused refl (create_rows-map text (fin.entries s.durable.names.tree) p))
tree_replies config s req moment (calls.Rename from to) text result has once is =
    subst (RepliesPlainly req (renames s req from to)) (same_result is)
    (told_replies s req (Rename from (target_of (fin.get s.durable.names.tree) from to)) answers.Nothing text (edited_names (Rename from to) s.durable.names) (rename_rows (fin.entries s.durable.names.tree) from to) (Ok s.durable.names.refs)
    (rename_rows (mapped_rows text (fin.entries s.durable.names.tree)) from to) none_refused refl (rename_rows-map text (fin.entries s.durable.names.tree) from to))
tree_replies config s req moment (calls.Delete p recursive) text result has once is = subst (RepliesPlainly req (deleted s req p recursive moment)) (same_result is) (delete_replies s req p recursive moment text)
tree_replies config s req moment (calls.Undelete p) text result has once is =
    subst (RepliesPlainly req (edited_by s req (Unhide p) (answers.Path (unhide_target p (old_name p))))) (same_result is)
    (edit_replies s req (Unhide p) (answers.Path (unhide_target p (old_name p))) text (unhide_rows (fin.entries s.durable.names.tree) p) (Ok s.durable.names.refs) (unhide_rows (mapped_rows text (fin.entries s.durable.names.tree)) p) none_refused refl (unhide_rows-map text (fin.entries s.durable.names.tree) p))
tree_replies config s req moment (calls.Snapshot from to) text result has once is = subst (RepliesPlainly req (called config s req moment (calls.Snapshot from to))) (same_result is) (snapshot_replies s req from to text has once)
tree_replies config s req moment (calls.List p) text result has once is =
    subst (RepliesPlainly req (looked_up s req (listing (fin.entries s.durable.names.tree) p (fin.get s.durable.names.tree p)))) (same_result is)
    (subst (λ v. RepliesPlainly req (looked_up s req (listing (fin.entries s.durable.names.tree) p (fin.get s.durable.names.tree p))) (listed (mapped_rows text (fin.entries s.durable.names.tree)) p v))
    (sym (at_mapped text (fin.entries s.durable.names.tree) p ∙ ap (λ m. mapped_at text (m p)) (sym (seen s.durable.names.tree)))) (list_replies s req p text (fin.get s.durable.names.tree p)))
tree_replies config s req moment (calls.Status p) text result has once is = absurd (cc)
tree_replies config s req moment (calls.FindForReading p index) text result has once is = absurd (cc)
tree_replies config s req moment (calls.FindForWriting p index stamp) text result has once is = absurd (cc)
tree_replies config s req moment (calls.Extend p index) text result has once is = absurd (cc)
tree_replies config s req moment calls.Scan text result has once is = absurd (cc)
tree_replies config s req moment calls.Replicate text result has once is = absurd (cc)
tree_replies config s req moment calls.Query text result has once is = absurd (cc)
tree_replies config s req moment calls.PrepareBegin text result has once is = absurd (cc)
tree_replies config s req moment calls.PrepareCommit text result has once is = absurd (cc)
tree_replies config s req moment calls.PrepareAbort text result has once is = absurd (cc)
tree_replies config s req moment calls.Finalize text result has once is = absurd (cc)
tree_replies config s req moment calls.RollbackBegin text result has once is = absurd (cc)
tree_replies config s req moment calls.RollbackCommit text result has once is = absurd (cc)

pub calls_answer : NewCallsAnswerPlainly
calls_answer config s req moment call text plain has once is = each (tree_answer (mapped_rows text (fin.entries s.durable.names.tree)) moment.0 s.durable.next_hidden call) refl is
  where
    each : (o : Option (Result Answer Refusal)) → tree_answer (mapped_rows text (fin.entries s.durable.names.tree)) moment.0 s.durable.next_hidden call ≡ o →
        option_map (by_paths call) o ≡ Some plain → RepliesPlainly req (new_call config s req moment call) plain
    each None tree h = absurd (cc)
    each (Some result) tree h =
        subst (RepliesPlainly req (new_call config s req moment call)) (same_result h)
        (tested config s req moment call result (is_failed s.fault) (is_rolling s.durable.phase && not (is_always_taken call)) (s.volatile.is_preparing && is_work call) (is_any_deep call) (is_locked s req call) (is_any_hidden call)
        (tree_replies config s req moment call text result has once tree))
