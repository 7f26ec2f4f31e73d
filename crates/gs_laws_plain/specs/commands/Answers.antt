-- What the plain tree answers to a call.
use Rattle.std.specs.Prelude.{[], ◌&&◌, ◌==◌, ◌||◌, ◌∷◌, ◌≡◌, Bool, Err, List, None, Ok, Option, Result, Some, codes, false, filter, flat_map, if◌then◌else◌, is_none, map, nat_le, not, option_map, refl, replicate, true, ℕ}
use Rattle.std.specs.List.{list_any}
use Rattle.gs_base.specs.declared.refusal.Refusal.{Refusal}
use Rattle.gs_edit.specs.Plain.{create_rows, hide_rows, mkdirs_rows, rename_rows, snapshot_rows, unhide_rows, unhide_target}
use Rattle.gs_path.specs.Path.{Path}
use Rattle.gs_tree.specs.Entry.{Dir, Entry, File}
use Rattle.gs_tree.specs.Find.{Rows, at}
use Rattle.gs_tree.specs.Lists.{is_child}
use Rattle.gs_base.specs.declared.refusal.Refusal.TheVariants as refusals
use Rattle.gs_base.specs.Refusals.{number_of}
use Rattle.gs_msg.specs.declared.answer.Answer.{Answer}
use Rattle.gs_msg.specs.declared.answer.Answer.TheVariants as answers
use Rattle.gs_msg.specs.declared.call.Call.{Call}
use Rattle.gs_msg.specs.declared.call.Call.TheVariants as calls
use Rattle.gs_msg.specs.declared.lists.ListedName.{ListedName}
use Rattle.gs_tree.specs.Edits.{last, is_dir, same_path, hidden_path, old_name}
use Rattle.gs_master_spec.specs.Calls.{is_any_deep, is_any_hidden, is_hidden_at}

-- ---- look-ups

-- the visible children of a directory, of a file itself
abbrev pub named : {A : Type 0} → Path × Entry A → List ListedName
named row = map (λ name. record { name = name; is_directory = is_dir (Some row.1) }) (last row.0)

abbrev pub children : {A : Type 0} → Rows A → Path → Rows A
children rows p = filter (λ row. is_child p row.0 && not (is_hidden_at row.0)) rows

abbrev pub listed : {A : Type 0} → Rows A → Path → Option (Entry A) → Result Answer Refusal
listed rows p None = Err refusals.NotFound
listed rows p (Some Dir) = Ok (answers.Names (flat_map named (children rows p)))
listed rows p (Some (File texts)) = Ok (answers.Names (named (p, File texts)))

abbrev pub has_visible : {A : Type 0} → Rows A → Path → Bool
has_visible rows p = list_any (λ row. is_child p row.0 && not (is_hidden_at row.0)) rows

-- ---- answers

-- a command is done, or refused
abbrev pub answered : {A : Type 0} → Answer → Result A Refusal → Result Answer Refusal
answered answer (Ok rows) = Ok answer
answered answer (Err refusal) = Err refusal

-- what is deleted is hidden under the moment and the next number
abbrev pub deletes : Rows (List ℕ) → Path → Bool → ℕ → ℕ → Result Answer Refusal
deletes rows p recursive moment number =
    if same_path p [] then Err refusals.IsRoot
    else if is_none (at rows p) then Ok answers.Absent
    else if not recursive && has_visible rows p then Err refusals.NotEmpty
    else answered (answers.Path (hidden_path p moment number)) (hide_rows rows p moment number)

-- of the calls that the plain tree answers
abbrev pub tree_answer : Rows (List ℕ) → ℕ → ℕ → Call → Option (Result Answer Refusal)
tree_answer rows moment number (calls.Mkdirs p) = Some (answered answers.Nothing (mkdirs_rows rows p))
tree_answer rows moment number (calls.Create p) = Some (answered answers.Nothing (create_rows rows p))
tree_answer rows moment number (calls.Rename from to) = Some (answered answers.Nothing (rename_rows rows from to))
tree_answer rows moment number (calls.Delete p recursive) = Some (deletes rows p recursive moment number)
tree_answer rows moment number (calls.Undelete p) = Some (answered (answers.Path (unhide_target p (old_name p))) (unhide_rows rows p))
tree_answer rows moment number (calls.Snapshot from to) = Some (answered answers.Nothing (snapshot_rows rows from to))
tree_answer rows moment number (calls.List p) = Some (listed rows p (at rows p))
tree_answer rows moment number call = None

-- a path of more than 64 elements is refused before all else, and then a hidden name that a call may not have
abbrev pub by_paths : Call → Result Answer Refusal → Result Answer Refusal
by_paths call result = if is_any_deep call then Err refusals.BadPath else if is_any_hidden call then Err refusals.HiddenName else result

abbrev pub plain_answer : Rows (List ℕ) → ℕ → ℕ → Call → Option (Result Answer Refusal)
plain_answer rows moment number call = option_map (by_paths call) (tree_answer rows moment number call)

-- locks, a prepare, a rollback, an old number, replicas, doubt, room, counters, disks and memory: of these the plain tree knows nothing
abbrev pub is_of_store : ℕ → Bool
is_of_store n = (nat_le 10 n && nat_le n 12) || ((n == 19) || (nat_le 28 n && nat_le n 33))

abbrev pub is_refused_by_store : Result Answer Refusal → Bool
is_refused_by_store (Ok answer) = false
is_refused_by_store (Err refusal) = is_of_store (number_of refusal)

-- ---- Worked

abbrev rows : Rows (List ℕ)
rows = ([], Dir) ∷ (codes "d" ∷ [], Dir) ∷ (codes "d" ∷ codes "f" ∷ [], File ((7 ∷ []) ∷ [])) ∷ []

abbrev d : Path
d = codes "d" ∷ []

what_is_listed : plain_answer rows 0 1 (calls.List []) ≡ Some (Ok (answers.Names (record { name = codes "d"; is_directory = true } ∷ [])))
what_is_listed = refl

not_empty : plain_answer rows 0 1 (calls.Delete d false) ≡ Some (Err refusals.NotEmpty)
not_empty = refl

it_stands : plain_answer rows 0 1 (calls.Create d) ≡ Some (Err refusals.Exists)
it_stands = refl

nothing_to_delete : plain_answer rows 0 1 (calls.Delete (codes "x" ∷ []) true) ≡ Some (Ok answers.Absent)
nothing_to_delete = refl

too_deep : plain_answer rows 0 1 (calls.Create (replicate 65 (codes "a"))) ≡ Some (Err refusals.BadPath)
too_deep = refl

not_too_deep : plain_answer rows 0 1 (calls.List (replicate 64 (codes "a"))) ≡ Some (Err refusals.NotFound)
not_too_deep = refl

an_upgrade_is_no_call_of_the_tree : plain_answer rows 0 1 calls.PrepareBegin ≡ None
an_upgrade_is_no_call_of_the_tree = refl

a_lock_is_of_the_store : is_refused_by_store (Err refusals.Locked) ≡ true
a_lock_is_of_the_store = refl

that_it_exists_is_not : is_refused_by_store (Err refusals.Exists) ≡ false
that_it_exists_is_not = refl
