-- A rename whose target is resolved: where it is accepted nothing stands at the target, so it does what was asked.
use Rattle.std.proofs.Common.{◌≡◌, ◌∙◌, ◌++◌, ℕ, Bool, [], true, false, map, refl, sym, ap, subst}
use Rattle.std.specs.Prelude.{Option, Some, None, Result, Ok, Err, is_some, is_none, if◌then◌else◌}
use Rattle.std.specs.FinMap as fin
use Rattle.gs_base.specs.declared.numbers.ReqId.{ReqId}
use Rattle.gs_base.specs.declared.refusal.Refusal.{Refusal}
use Rattle.gs_base.specs.declared.refusal.Refusal.TheVariants.{BadPath, Exists, IntoItself, IsRoot, NotADirectory, NotFound}
use Rattle.gs_path.specs.Path.{Path, begins}
use Rattle.gs_tree.specs.Edits.{is_dir, is_file, last, move_to, moved, parent, rename, same_path, target_of}
use Rattle.gs_tree.specs.Entry.{Entry, Dir, File}
use Rattle.gs_tree.specs.Find.{Rows, at, is_too_deep}
use Rattle.gs_tree.specs.Plain.{Plain}
use Rattle.gs_tree.proofs.Apart.{past, through}
use Rattle.gs_edit.specs.Edits.{with_counts}
use Rattle.gs_edit.specs.Table.{moved_path, paths_of, tabled}
use Rattle.gs_edit.specs.View.{NamesView}
use Rattle.gs_msg.specs.declared.answer.Answer.TheVariants as answers
use Rattle.gs_master_record.specs.Plain.{Rename, UndoRename}
use Rattle.gs_master_spec.specs.Calls.{edit_if, edited_by, renames}
use Rattle.gs_master_spec.specs.State.{State}
use Rattle.gs_master_spec.specs.Undoing.{edited_names, inverse_of, names_from}
use Rattle.gs_master_state.specs.inner.Judging.{said_target}

-- something stands at a path, nothing does at its target, and nothing would have too long a path there
pub record IsFree (is_deep : Path → Bool) (m : Plain ℕ) (from target : Path) : Type 0 where
  pub stands : is_some (m from) ≡ true
  pub free : is_some (m target) ≡ false
  pub shallow : is_deep target ≡ false

some_of : (o : Option (Entry ℕ)) → is_none o ≡ false → is_some o ≡ true
some_of None h = sym h
some_of (Some e) h = refl

no_dir : (o : Option (Entry ℕ)) → is_some o ≡ false → is_dir o ≡ false
no_dir None h = refl
no_dir (Some Dir) h = h
no_dir (Some (File chunks)) h = refl

rename_free : (is_deep : Path → Bool) (m n : Plain ℕ) (from to : Path) → rename is_deep m from to ≡ Ok n → IsFree is_deep m from (target_of m from to)
rename_free is_deep m n from to e =
    let target = target_of m from to in
    let e1 = past (same_path from []) IsRoot _ n e in
    let e2 = past (is_none (m from)) NotFound _ n e1 in
    let e3 = past (same_path target from) Exists _ n e2 in
    let e4 = past (begins from target) IntoItself _ n e3 in
    let e5 = past (is_some (m target)) Exists _ n e4 in
    let e6 = past (is_none (m (parent target))) NotFound _ n e5 in
    let e7 = past (is_file (m (parent target))) NotADirectory _ n e6 in
    record {
      stands = some_of (m from) (through (is_none (m from)) NotFound _ n e1);
      free = through (is_some (m target)) Exists _ n e4;
      shallow = through (is_deep target) BadPath (Ok (moved from target m)) n e7;
    }

-- so it is in names that take it
pub target_free : (names after : NamesView) (from to : Path) → edited_names (Rename from to) names ≡ Ok after
    → IsFree (is_too_deep (fin.entries names.tree) from) (fin.get names.tree) from (target_of (fin.get names.tree) from to)
unfolding edited_names
target_free names after from to e =
    let rows = fin.entries names.tree in
    let deep = is_too_deep rows from in
    subst (λ (m : Plain ℕ). IsFree deep m from (target_of m from to)) (λ i q. sym (fin.get-entries names.tree q) i) (by_plain rows (rename deep (at rows) from to) refl e)
  where
    by_plain : (rows : Rows ℕ) (r : Result (Plain ℕ) Refusal) → rename (is_too_deep rows from) (at rows) from to ≡ r
        → names_from (with_counts (tabled (paths_of rows ++ map (moved_path from (target_of (at rows) from to)) (paths_of rows)) r) (Ok names.refs)) ≡ Ok after → IsFree (is_too_deep rows from) (at rows) from (target_of (at rows) from to)
    by_plain rows (Err refusal) is h = absurd (let k = h in cc)
    by_plain rows (Ok n) is h = rename_free (is_too_deep rows from) (at rows) n from to is

-- ---- a rename does what its target says

-- a rename by its target alone
abbrev put_at : Rows ℕ → Path → Path → Result (Rows ℕ) Refusal
put_at rows from target =
    tabled (paths_of rows ++ map (moved_path from target) (paths_of rows))
    (if same_path from [] then Err IsRoot else if is_none (at rows from) then Err NotFound else move_to (is_too_deep rows from target) (at rows) from target)

pub same_renames : (names : NamesView) (from to other : Path) → target_of (fin.get names.tree) from other ≡ target_of (fin.get names.tree) from to → edited_names (Rename from other) names ≡ edited_names (Rename from to) names
unfolding edited_names
same_renames names from to other same =
    let rows = fin.entries names.tree in
    ap (λ target. names_from (with_counts (put_at rows from target) (Ok names.refs)))
    (subst (λ (m : Plain ℕ). target_of m from other ≡ target_of m from to) (λ i q. fin.get-entries names.tree q i) same)

-- to resolve a target again changes nothing where nothing stands there
pub resolved_once : (m : Plain ℕ) (from target : Path) → is_some (m target) ≡ false → target_of m from target ≡ target
resolved_once m from target free = ap (λ b. if b then target ++ last from else target) (no_dir (m target) free)

target_again : (names after : NamesView) (from to : Path) → edited_names (Rename from to) names ≡ Ok after → target_of (fin.get names.tree) from (target_of (fin.get names.tree) from to) ≡ target_of (fin.get names.tree) from to
target_again names after from to e = resolved_once (fin.get names.tree) from (target_of (fin.get names.tree) from to) (target_free names after from to e).free

pub resolved_does : (names after : NamesView) (from to : Path) → edited_names (Rename from to) names ≡ Ok after → edited_names (Rename from (target_of (fin.get names.tree) from to)) names ≡ Ok after
resolved_does names after from to e = same_renames names from to (target_of (fin.get names.tree) from to) (target_again names after from to e) ∙ e

pub resolved_back : (names after : NamesView) (from to : Path) → edited_names (Rename from to) names ≡ Ok after
    → inverse_of (Rename from (target_of (fin.get names.tree) from to)) (fin.entries names.tree) ≡ inverse_of (Rename from to) (fin.entries names.tree)
resolved_back names after from to e =
    ap (λ target. UndoRename target from)
    (subst (λ (m : Plain ℕ). target_of m from (target_of (fin.get names.tree) from to) ≡ target_of m from to) (λ i q. fin.get-entries names.tree q i) (target_again names after from to e))

-- ---- the call's turn is that of an edit

said_as : (m : Plain ℕ) (from to : Path) → target_of m from (said_target m from to) ≡ target_of m from to
said_as m from to = by_dir (is_dir (m (target_of m from to))) refl
  where
    by_dir : (b : Bool) → is_dir (m (target_of m from to)) ≡ b → target_of m from (if b then to else target_of m from to) ≡ target_of m from to
    by_dir true is = refl
    by_dir false is = ap (λ b. if b then target_of m from to ++ last from else target_of m from to) is

-- an accepted rename says its resolved target, and one that is refused no target
said_if : (s : State) (req : ReqId) (from to : Path) (r : Result NamesView Refusal) → edited_names (Rename from to) s.durable.names ≡ r
    → edit_if s req (Rename from (target_of (fin.get s.durable.names.tree) from to)) answers.Nothing r ≡ edit_if s req (Rename from (said_target (fin.get s.durable.names.tree) from to)) answers.Nothing r
said_if s req from to (Err refusal) is = refl
said_if s req from to (Ok after) is =
    let m = fin.get s.durable.names.tree in
    let target = target_of m from to in
    let said : said_target m from to ≡ target = ap (λ b. if b then to else target) (no_dir (m target) (target_free s.durable.names after from to is).free) in
    ap (λ path. edit_if s req (Rename from path) answers.Nothing (Ok after)) (sym said)

pub renames_is : (s : State) (req : ReqId) (from to : Path) → renames s req from to ≡ edited_by s req (Rename from (said_target (fin.get s.durable.names.tree) from to)) answers.Nothing
renames_is s req from to =
    let said = said_target (fin.get s.durable.names.tree) from to in
    said_if s req from to (edited_names (Rename from to) s.durable.names) refl
    ∙ ap (edit_if s req (Rename from said) answers.Nothing) (sym (same_renames s.durable.names from to said (said_as (fin.get s.durable.names.tree) from to)))
