-- The plain machine of the tree, with texts to which nothing is owed: a call does to it what it does to the machine that explains.
use Rattle.std.proofs.Common.{ap, inl, refl, subst, sym, ◌∙◌}
use Rattle.std.specs.Prelude.{[], ◌&&◌, ◌++◌, ◌∷◌, ◌≡◌, Bool, Err, List, None, Ok, Option, Result, Some, false, if◌then◌else◌, is_none, is_some, map, not, true, unwrap_or, ℕ}
use Rattle.std.specs.Result.{result_unwrap_or}
use Rattle.gs_base.specs.declared.refusal.Refusal.{Refusal}
use Rattle.gs_base.specs.declared.refusal.Refusal.TheVariants as refusals
use Rattle.gs_edit.proofs.Payloads.{create_rows-map, hide_rows-map, mkdirs_rows-map, rename_rows-map, snapshot_rows-map, unhide_rows-map}
use Rattle.gs_edit.specs.Machine.{Plain, with_tree}
use Rattle.gs_edit.specs.Mapped.{mapped_edit, mapped_rows}
use Rattle.gs_edit.specs.Plain.{create_rows, hide_rows, mkdirs_rows, rename_rows, snapshot_rows, unhide_rows, unhide_target}
use Rattle.gs_edit.specs.Table.{moved_path, paths_of, tabled}
use Rattle.gs_laws_plain.specs.calm.Calm.{hidden_after, plain_after, plain_behind}
use Rattle.gs_laws_plain.specs.commands.Answers.{by_paths, deletes, has_visible, listed, plain_answer}
use Rattle.gs_laws_plain.specs.commands.Answers as plain_answers
use Rattle.gs_laws_plain.specs.commands.Commands.{Texts}
use Rattle.gs_laws_plain.specs.commands.Commands as commands
use Rattle.gs_master_spec.specs.Calls.{is_always_taken, is_any_deep, is_any_hidden, is_work}
use Rattle.gs_msg.specs.declared.answer.Answer.{Answer as Said}
use Rattle.gs_msg.specs.declared.answer.Answer.TheVariants as says
use Rattle.gs_msg.specs.declared.answer.Phase.{Phase}
use Rattle.gs_msg.specs.declared.answer.Phase.TheVariants as phases
use Rattle.gs_msg.specs.declared.call.Call.{Call}
use Rattle.gs_msg.specs.declared.call.Call.TheVariants as calls
use Rattle.gs_path.specs.Path.{Path}
use Rattle.gs_shell_calls.specs.Asked.{answered}
use Rattle.gs_tree.specs.Edits.{hidden_path, moved as moved_plain, old_name, same_path}
use Rattle.gs_tree.specs.Entry.{Dir, Entry, File}
use Rattle.gs_tree.specs.Find.{Rows, at}
use Rattle.gs_tree.specs.Mapped.{mapped_entry}
use Rattle.gs_tree.specs.Plain.{Plain as TreePlain}
use Rattle.gs_laws_scripts.specs.explained.Lines.{AsksTree, IsSaid, overtaken, told}
use Rattle.gs_laws_scripts.specs.explained.Machine.{Machine, Text, called, is_copied, is_preparing, is_remembered, is_rolling, overtaking, quiet, quiet_under, taken, tree_after, tree_called, tree_said}
use Rattle.gs_laws_scripts.specs.plain.Machines.{Machine as TreeMachine, line_answer, moved, shown}
use Rattle.gs_laws_scripts.specs.plain.Machines as plainly

-- ---- the machine

abbrev pub as_text : List ℕ → Text
as_text bytes = record { bytes = bytes; owed = [] }

abbrev pub lifted_rows : Texts → Rows Text
lifted_rows rows = mapped_rows as_text rows

abbrev pub lifted_kept : Option Texts → Option (Rows Text)
lifted_kept None = None
lifted_kept (Some rows) = Some (lifted_rows rows)

-- while a tree is kept an upgrade stands
abbrev pub phase_with : Option Texts → Phase
phase_with None = phases.Ordinary
phase_with (Some kept) = phases.Upgrade

abbrev pub lifted_of : Texts → Option Texts → ℕ → ℕ → ℕ → Machine
lifted_of tree kept epoch next moment = record {
  plain = record { tree = lifted_rows tree; kept = lifted_kept kept };
  late = [];
  waiting = [];
  phase = phase_with kept;
  epoch = epoch;
  next_hidden = next;
  moment = moment;
}

abbrev pub lifted : TreeMachine → Machine
lifted m = lifted_of m.plain.tree m.plain.kept m.epoch m.next_hidden m.moment

-- ---- its rows

texts_back : (texts : List (List ℕ)) → map (λ (text : Text). text.bytes) (map as_text texts) ≡ texts
texts_back [] = refl
texts_back (text ∷ texts) = ap (λ all. text ∷ all) (texts_back texts)

entry_back : (entry : Entry (List ℕ)) → mapped_entry (λ (text : Text). text.bytes) (mapped_entry as_text entry) ≡ entry
entry_back Dir = refl
entry_back (File texts) = ap (λ all. File all) (texts_back texts)

pub rows_back : (rows : Texts) → mapped_rows (λ (text : Text). text.bytes) (lifted_rows rows) ≡ rows
rows_back [] = refl
rows_back (row ∷ rows) = ap (λ entry. (row.0, entry) ∷ mapped_rows (λ (text : Text). text.bytes) (lifted_rows rows)) (entry_back row.1) ∙ ap (λ all. row ∷ all) (rows_back rows)

texts_quiet : (texts : List (List ℕ)) → map quiet (map as_text texts) ≡ map as_text texts
texts_quiet [] = refl
texts_quiet (text ∷ texts) = ap (λ all. as_text text ∷ all) (texts_quiet texts)

entry_quiet : (entry : Entry (List ℕ)) → mapped_entry quiet (mapped_entry as_text entry) ≡ mapped_entry as_text entry
entry_quiet Dir = refl
entry_quiet (File texts) = ap (λ all. File all) (texts_quiet texts)

pub rows_quiet : (rows : Texts) → mapped_rows quiet (lifted_rows rows) ≡ lifted_rows rows
rows_quiet [] = refl
rows_quiet (row ∷ rows) = ap (λ entry. (row.0, entry) ∷ mapped_rows quiet (lifted_rows rows)) (entry_quiet row.1) ∙ ap (λ all. (row.0, mapped_entry as_text row.1) ∷ all) (rows_quiet rows)

under_quiet : (from : Path) (rows : Texts) → quiet_under from (lifted_rows rows) ≡ lifted_rows rows
under_quiet from [] = refl
under_quiet from (row ∷ rows) = either (is_copied from row.0) ∙ ap (λ all. (row.0, mapped_entry as_text row.1) ∷ all) (under_quiet from rows)
  where
    either : (b : Bool) → (row.0, (if b then mapped_entry quiet (mapped_entry as_text row.1) else mapped_entry as_text row.1)) ∷ quiet_under from (lifted_rows rows) ≡ (row.0, mapped_entry as_text row.1) ∷ quiet_under from (lifted_rows rows)
    either true = ap (λ entry. (row.0, entry) ∷ quiet_under from (lifted_rows rows)) (entry_quiet row.1)
    either false = refl

-- ---- an edit of its rows

made : (result : Result Texts Refusal) (rows : Texts) → result_unwrap_or (mapped_edit as_text result) (lifted_rows rows) ≡ lifted_rows (result_unwrap_or result rows)
made (Ok all) rows = refl
made (Err refusal) rows = refl

by_rows : (result : Result Texts Refusal) (plain : Plain (List ℕ)) → plain_behind (commands.with_rows plain result) plain ≡ record plain { tree = result_unwrap_or result plain.tree }
by_rows (Ok rows) plain = refl
by_rows (Err refusal) plain = refl

-- where an edit follows the map, a call that makes it leads on alike
edits_so : (m : TreeMachine) (call : Call) (said : Said) (result : Result Texts Refusal) → tree_after call (lifted m) ≡ mapped_edit as_text result
    → plain_after m.moment m.next_hidden call (Ok said) m.plain ≡ record m.plain { tree = result_unwrap_or result m.plain.tree } → (tree_called call (Ok said) (lifted m)).1 ≡ lifted (moved call (Ok said) m)
edits_so m call said result lifts plain =
    ap (λ after. record (lifted m) { plain = with_tree (lifted m).plain (result_unwrap_or after (lifted m).plain.tree); next_hidden = hidden_after m.moment m.next_hidden call (Ok said) }) lifts
    ∙ ap (λ rows. record (lifted m) { plain = with_tree (lifted m).plain rows; next_hidden = hidden_after m.moment m.next_hidden call (Ok said) }) (made result m.plain.tree)
    ∙ ap (λ (p : Plain (List ℕ)). lifted (record m { plain = p; next_hidden = hidden_after m.moment m.next_hidden call (Ok said) })) (sym plain)

-- ---- what is said

-- it is shown alike
abbrev IsShown : Result Said Refusal → Type 0
IsShown (Ok said) = told said ≡ shown said
IsShown (Err refusal) = Unit {0}

shown_line : (result : Result Said Refusal) → IsShown result → line_answer result ≡ answered told result
shown_line (Ok said) is = ap (λ answer. Ok answer) (sym is)
shown_line (Err refusal) is = refl

shown_answer : {A : Type 0} (answer : Said) (result : Result A Refusal) → told answer ≡ shown answer → IsShown (plain_answers.answered answer result)
shown_answer answer (Ok x) is = is
shown_answer answer (Err refusal) is = tt

shown_by_paths : (deep hidden : Bool) (result : Result Said Refusal) → IsShown result → IsShown (if deep then Err refusals.BadPath else if hidden then Err refusals.HiddenName else result)
shown_by_paths true hidden result is = tt
shown_by_paths false true result is = tt
shown_by_paths false false result is = is

said_by_paths : (deep hidden : Bool) (result : Result Said Refusal) (said : Said) → ◌≡◌ {A = Result Said Refusal} (if deep then Err refusals.BadPath else if hidden then Err refusals.HiddenName else result) (Ok said) → result ≡ Ok said
said_by_paths true hidden result said is = absurd (cc)
said_by_paths false true result said is = absurd (cc)
said_by_paths false false result said is = is

shown_deletes : (root none full : Bool) (p : Path) (result : Result Texts Refusal) → IsShown (if root then Err refusals.IsRoot else if none then Ok says.Absent else if full then Err refusals.NotEmpty else plain_answers.answered (says.Path p) result)
shown_deletes true none full p result = tt
shown_deletes false true full p result = refl
shown_deletes false false true p result = tt
shown_deletes false false false p result = shown_answer (says.Path p) result refl

shown_listed : (rows : Texts) (p : Path) (found : Option (Entry (List ℕ))) → IsShown (listed rows p found)
shown_listed rows p None = tt
shown_listed rows p (Some Dir) = refl
shown_listed rows p (Some (File texts)) = refl

pub itself : (result : Result Said Refusal) → IsSaid result result
itself (Ok (says.Scanned removed forgotten)) = (forgotten, refl)
itself result = refl

-- ---- a call of the tree

-- no prepare and no rollback is begun
opened : (kept : Option Texts) (a b : Bool) (x y z : Result Said Refusal × Machine) → ◌≡◌ {A = Result Said Refusal × Machine} (if is_rolling (phase_with kept) && a then x else if is_preparing (phase_with kept) && b then y else z) z
opened None a b x y z = refl
opened (Some rows) a b x y z = refl

said_of : (call : Call) (said : Result Said Refusal) (m : Machine) → (tree_called call said m).0 ≡ said
said_of call (Ok said) m = refl
said_of call (Err refusal) m = refl

none_overtaken : (call : Call) (said : Result Said Refusal) (m : Machine) → m.late ≡ [] → overtaking call [] (said, m) ≡ m
none_overtaken call (Ok says.Absent) m none = refl
none_overtaken call (Ok said) m none = elim (is_remembered call) as (λ b. ◌≡◌ {A = Machine} (if b then record m { late = [] } else m) m) [ true ↦ ap (λ late. record m { late = late }) (sym none) | false ↦ refl ]
none_overtaken call (Err refusal) m none = refl

none_late : (call : Call) (said : Result Said Refusal) (m : Machine) → m.late ≡ [] → overtaken call (said, m) ≡ m
none_late (calls.List p) said m none = refl
none_late call said m none = none_overtaken call said m none

-- what is known of a call of the tree: what the plain tree answers, how that is shown, that the machine takes it as such, and where it leads
record IsTree (m : TreeMachine) (call : Call) (result : Result Said Refusal) : Type 0 where
  pub plain : plain_answer m.plain.tree m.moment m.next_hidden call ≡ Some result
  pub shows : IsShown result
  pub takes : taken call (lifted m) ≡ tree_called call (tree_said call (lifted m)) (lifted m)
  pub leads : (said : Said) → result ≡ Ok said → (tree_called call (Ok said) (lifted m)).1 ≡ lifted (moved call (Ok said) m)

module _ (m : TreeMachine) (call : Call) (result : Result Said Refusal) (is : IsTree m call result) where
  said_so : tree_said call (lifted m) ≡ result
  said_so = ap (λ rows. unwrap_or (plain_answer rows m.moment m.next_hidden call) (Ok says.Nothing)) (rows_back m.plain.tree) ∙ ap (λ found. unwrap_or found (Ok says.Nothing)) is.plain

  called_so : called call (lifted m) ≡ tree_called call result (lifted m)
  called_so =
      opened m.plain.kept (not (is_always_taken call)) (is_work call) (Err refusals.RollingBack, lifted m) (Err refusals.Preparing, lifted m) (taken call (lifted m)) ∙ is.takes ∙ ap (λ said. tree_called call said (lifted m)) said_so

  leads_so : (said : Result Said Refusal) → result ≡ said → (tree_called call said (lifted m)).1 ≡ lifted (moved call said m)
  leads_so (Ok said) same = is.leads said same
  leads_so (Err refusal) same = refl

  call_leads : (size : ℕ) → AsksTree size (Ok call) (lifted m) (line_answer result) (lifted (moved call result m))
  call_leads size =
      let new_is : (called call (lifted m)).1 ≡ lifted (moved call result m) = ap (λ (x : Result Said Refusal × Machine). x.1) called_so ∙ leads_so result refl in
      let said_is : (called call (lifted m)).0 ≡ result = ap (λ (x : Result Said Refusal × Machine). x.0) called_so ∙ said_of call result (lifted m) in (
        result,
        (called call (lifted m)).1,
        ([], inl (subst (λ x. IsSaid x result) (sym said_is) (itself result), refl)),
        shown_line result is.shows,
        sym (ap (λ n. overtaken call (result, n)) new_is ∙ none_late call result (lifted (moved call result m)) refl),
      )

-- ---- each of them

abbrev LineLeads : ℕ → Call → TreeMachine → Type 0
LineLeads size call m = AsksTree size (Ok call) (lifted m) (plainly.called (Ok call) m).0 (lifted (plainly.called (Ok call) m).1)

pub mkdirs_leads : (size : ℕ) (p : Path) (m : TreeMachine) → LineLeads size (calls.Mkdirs p) m
mkdirs_leads size p m =
    call_leads m (calls.Mkdirs p) (by_paths (calls.Mkdirs p) (plain_answers.answered says.Nothing (mkdirs_rows m.plain.tree p))) (record {
      plain = refl;
      shows = shown_by_paths (is_any_deep (calls.Mkdirs p)) (is_any_hidden (calls.Mkdirs p)) (plain_answers.answered says.Nothing (mkdirs_rows m.plain.tree p)) (shown_answer says.Nothing (mkdirs_rows m.plain.tree p) refl);
      takes = refl;
      leads = λ said is. edits_so m (calls.Mkdirs p) said (mkdirs_rows m.plain.tree p) (mkdirs_rows-map as_text m.plain.tree p) (by_rows (mkdirs_rows m.plain.tree p) m.plain);
    }) size

pub create_leads : (size : ℕ) (p : Path) (m : TreeMachine) → LineLeads size (calls.Create p) m
create_leads size p m =
    call_leads m (calls.Create p) (by_paths (calls.Create p) (plain_answers.answered says.Nothing (create_rows m.plain.tree p))) (record {
      plain = refl;
      shows = shown_by_paths (is_any_deep (calls.Create p)) (is_any_hidden (calls.Create p)) (plain_answers.answered says.Nothing (create_rows m.plain.tree p)) (shown_answer says.Nothing (create_rows m.plain.tree p) refl);
      takes = refl;
      leads = λ said is. edits_so m (calls.Create p) said (create_rows m.plain.tree p) (create_rows-map as_text m.plain.tree p) (by_rows (create_rows m.plain.tree p) m.plain);
    }) size

pub rename_leads : (size : ℕ) (from to : Path) (m : TreeMachine) → LineLeads size (calls.Rename from to) m
rename_leads size from to m =
    call_leads m (calls.Rename from to) (by_paths (calls.Rename from to) (plain_answers.answered says.Nothing (rename_rows m.plain.tree from to))) (record {
      plain = refl;
      shows = shown_by_paths (is_any_deep (calls.Rename from to)) (is_any_hidden (calls.Rename from to)) (plain_answers.answered says.Nothing (rename_rows m.plain.tree from to)) (shown_answer says.Nothing (rename_rows m.plain.tree from to) refl);
      takes = refl;
      leads = λ said is. edits_so m (calls.Rename from to) said (rename_rows m.plain.tree from to) (rename_rows-map as_text m.plain.tree from to) (by_rows (rename_rows m.plain.tree from to) m.plain);
    }) size

pub undelete_leads : (size : ℕ) (p : Path) (m : TreeMachine) → LineLeads size (calls.Undelete p) m
undelete_leads size p m =
    let to = unhide_target p (old_name p) in
    call_leads m (calls.Undelete p) (by_paths (calls.Undelete p) (plain_answers.answered (says.Path to) (unhide_rows m.plain.tree p))) (record {
      plain = refl;
      shows = shown_by_paths (is_any_deep (calls.Undelete p)) (is_any_hidden (calls.Undelete p)) (plain_answers.answered (says.Path to) (unhide_rows m.plain.tree p)) (shown_answer (says.Path to) (unhide_rows m.plain.tree p) refl);
      takes = refl;
      leads = λ said is. edits_so m (calls.Undelete p) said (unhide_rows m.plain.tree p) (unhide_rows-map as_text m.plain.tree p) (by_rows (unhide_rows m.plain.tree p) m.plain);
    }) size

pub snapshot_leads : (size : ℕ) (from to : Path) (m : TreeMachine) → LineLeads size (calls.Snapshot from to) m
snapshot_leads size from to m =
    call_leads m (calls.Snapshot from to) (by_paths (calls.Snapshot from to) (plain_answers.answered says.Nothing (snapshot_rows m.plain.tree from to))) (record {
      plain = refl;
      shows = shown_by_paths (is_any_deep (calls.Snapshot from to)) (is_any_hidden (calls.Snapshot from to)) (plain_answers.answered says.Nothing (snapshot_rows m.plain.tree from to)) (shown_answer says.Nothing (snapshot_rows m.plain.tree from to) refl);
      takes = refl;
      leads = λ said is. edits_so m (calls.Snapshot from to) said (snapshot_rows m.plain.tree from to) (ap (λ rows. snapshot_rows rows from to) (under_quiet from m.plain.tree) ∙ snapshot_rows-map as_text m.plain.tree from to) (by_rows (snapshot_rows m.plain.tree from to) m.plain);
    }) size

pub list_leads : (size : ℕ) (p : Path) (m : TreeMachine) → LineLeads size (calls.List p) m
list_leads size p m =
    call_leads m (calls.List p) (by_paths (calls.List p) (listed m.plain.tree p (at m.plain.tree p))) (record {
      plain = refl;
      shows = shown_by_paths (is_any_deep (calls.List p)) (is_any_hidden (calls.List p)) (listed m.plain.tree p (at m.plain.tree p)) (shown_listed m.plain.tree p (at m.plain.tree p));
      takes = refl;
      leads = λ said is. edits_so m (calls.List p) said (Ok m.plain.tree) refl refl;
    }) size

-- ---- a deletion: where nothing stands nothing is hidden

abbrev IsNoPath : Said → Type 0
IsNoPath (says.Path p) = ⊥
IsNoPath said = Unit {0}

same_said : {a b : Said} → ◌≡◌ {A = Result Said Refusal} (Ok a) (Ok b) → a ≡ b
same_said is = cc

hides_none : (p : Path) (made : Result Texts Refusal) (rows : Texts) (said : Said) → plain_answers.answered (says.Path p) made ≡ Ok said → IsNoPath said → result_unwrap_or made rows ≡ rows
hides_none p (Ok all) rows said is un = absurd (subst IsNoPath (sym (same_said is)) un)
hides_none p (Err refusal) rows said is un = refl

none_hidden : (ps : List Path) (p : Path) (rest : Result (TreePlain (List ℕ)) Refusal) (rows : Texts) (said : Said) (root none full : Bool)
    → ◌≡◌ {A = Result Said Refusal} (if root then Err refusals.IsRoot else if none then Ok says.Absent else if full then Err refusals.NotEmpty else plain_answers.answered (says.Path p) (tabled ps (if root then Err refusals.IsRoot else if none then Err refusals.NotFound else rest))) (Ok said)
    → IsNoPath said → result_unwrap_or (tabled ps (if root then Err refusals.IsRoot else if none then Err refusals.NotFound else rest)) rows ≡ rows
none_hidden ps p rest rows said true none full is un = refl
none_hidden ps p rest rows said false true full is un = refl
none_hidden ps p rest rows said false false true is un = absurd (cc)
none_hidden ps p rest rows said false false false is un = hides_none p (tabled ps rest) rows said is un

delete_behind : (p : Path) (recursive : Bool) (m : TreeMachine) (said : Said) → deletes m.plain.tree p recursive m.moment m.next_hidden ≡ Ok said
    → plain_after m.moment m.next_hidden (calls.Delete p recursive) (Ok said) m.plain ≡ record m.plain { tree = result_unwrap_or (hide_rows m.plain.tree p m.moment m.next_hidden) m.plain.tree }
delete_behind p recursive m (says.Path hidden) is = by_rows (hide_rows m.plain.tree p m.moment m.next_hidden) m.plain
delete_behind p recursive m said is =
    let rows = m.plain.tree in
    let to = hidden_path p m.moment m.next_hidden in
    ap (λ tree. record m.plain { tree = tree })
    (sym (none_hidden (paths_of rows ++ map (moved_path p to) (paths_of rows)) to (if is_some (at rows to) then Err refusals.Exists else Ok (moved_plain p to (at rows))) rows said (same_path p []) (is_none (at rows p)) (not recursive && has_visible rows p) is tt))

pub delete_leads : (size : ℕ) (p : Path) (recursive : Bool) (m : TreeMachine) → LineLeads size (calls.Delete p recursive) m
delete_leads size p recursive m =
    let rows = m.plain.tree in
    call_leads m (calls.Delete p recursive) (by_paths (calls.Delete p recursive) (deletes m.plain.tree p recursive m.moment m.next_hidden)) (record {
      plain = refl;
      shows = shown_by_paths (is_any_deep (calls.Delete p recursive)) (is_any_hidden (calls.Delete p recursive)) (deletes m.plain.tree p recursive m.moment m.next_hidden)
          (shown_deletes (same_path p []) (is_none (at rows p)) (not recursive && has_visible rows p) (hidden_path p m.moment m.next_hidden) (hide_rows rows p m.moment m.next_hidden));
      takes = refl;
      leads = λ said is. edits_so m (calls.Delete p recursive) said (hide_rows m.plain.tree p m.moment m.next_hidden) (hide_rows-map as_text m.plain.tree p m.moment m.next_hidden)
          (delete_behind p recursive m said (said_by_paths (is_any_deep (calls.Delete p recursive)) (is_any_hidden (calls.Delete p recursive)) (deletes m.plain.tree p recursive m.moment m.next_hidden) said is));
    }) size
