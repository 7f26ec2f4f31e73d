-- The records of a call of the tree that is accepted fit what they meet, and keep what stands.
use Rattle.std.proofs.Common.{◌≡◌, ◌∙◌, ◌&&◌, ◌||◌, ◌==◌, ℕ, Bool, true, false, not, List, [], ◌∷◌, ◌++◌, refl, ap, subst, sym, arith}
use Rattle.std.specs.Prelude.{is_none, is_some, unwrap_or, option_and_then, option_map, Option, Some, None, Result, Ok, Err, if◌then◌else◌}
use Rattle.std.specs.FinMap as fin
use Rattle.std.specs.List.{list_all}
use Rattle.std.proofs.lemmas.Bool.{false≢true, and_parts}
use Rattle.std.proofs.lemmas.Bool.Decides.{nat_tests}
use Rattle.gs_base.specs.declared.numbers.Moment.{Moment}
use Rattle.gs_base.specs.declared.numbers.ReqId.{ReqId}
use Rattle.gs_base.specs.declared.refusal.Refusal.{Refusal}
use Rattle.gs_base.specs.declared.refusal.Refusal.TheVariants as refusals
use Rattle.gs_path.specs.Element.{hidden_parts}
use Rattle.gs_path.specs.Path.{Name, Path}
use Rattle.gs_tree.specs.Edits.{same_path, hidden_path, old_name, unhidden}
use Rattle.gs_tree.specs.Entry.{Entry}
use Rattle.gs_tree.specs.Find.{at}
use Rattle.gs_tree.proofs.Levels.{both_true}
use Rattle.gs_edit.specs.Edits.{with_counts}
use Rattle.gs_edit.specs.Table.{tabled}
use Rattle.gs_edit.specs.View.{NamesView}
use Rattle.gs_msg.specs.declared.answer.Answer.{Answer}
use Rattle.gs_msg.specs.declared.answer.Answer.TheVariants as answers
use Rattle.gs_master_record.specs.Plain.{PlainEdit, PlainEntry, Edited, Hide, Unhide}
use Rattle.gs_master_record.specs.Writable.{IsEdit}
use Rattle.gs_master_spec.specs.Applied.{after_edit, applied, chunk_of_edit, if_fits, is_fresh, is_fresh_if, is_visible_name, may_edit, names_well, number_of_edit, replayed, view_for, with_edit}
use Rattle.gs_master_spec.specs.Calls.{accept_plan, answered_with, deleted, edit_if, edited_by, has_visible_child, looked_up}
use Rattle.gs_master_spec.specs.Durable.{Durable, is_rolling}
use Rattle.gs_master_spec.specs.State.{State, Plan, Turn, turned, unmoved, and_then, for_each, fits, if_room, refused, ended_by, all_ended_by}
use Rattle.gs_master_spec.specs.Undoing.{edited_names, names_from}
use Rattle.gs_laws_master.specs.Promises.{AllFit, AreKept, IsKept}
use Rattle.gs_laws_master.proofs.lemmas.keeping.KeptEdits.{edit_kept_by}
use Rattle.gs_laws_master.proofs.lemmas.keeping.KeptNames.{rows_each, rows_once}
use Rattle.gs_laws_master.proofs.lemmas.refusals.Refusing.{refused_leaves}
use Rattle.gs_laws_master.proofs.lemmas.spelling.Spelled.{is_once}

-- the records of a turn fit, and where something is told they keep what stands
pub record Goes (T : Type 0) (s : State) (t : Turn) : Type 0 where
  pub fits : AllFit s t
  pub kept : T → IsKept s.durable → IsKept t.after.durable

-- ---- one record, and none

one_fits : (d next : Durable) (o : Option Durable) → o ≡ Some next → option_and_then (λ n. Some n) o ≡ Some (unwrap_or o d)
one_fits d next None e = absurd (false≢true (ap is_some e))
one_fits d next (Some n) e = refl

module _ (T : Type 0) where
  pub one_goes : (s : State) (entry : PlainEntry) (plan : Plan) (next : Durable) → applied s.durable entry ≡ Some next → (T → IsKept s.durable → IsKept next) → Goes T s (turned s (record plan { records = entry ∷ [] }))
  one_goes s entry plan next e kept = record {
    fits = one_fits s.durable next (applied s.durable entry) e;
    kept = λ t k. subst (λ o. IsKept (unwrap_or o s.durable)) (sym e) (kept t k);
  }

  pub none_goes : (s : State) (plan : Plan) → Goes T s (turned s (record plan { records = [] }))
  none_goes s plan = record { fits = refl; kept = λ t k. k }

  pub same_goes : (s : State) (t : Turn) → t.after.durable ≡ s.durable → t.records ≡ [] → Goes T s t
  same_goes s t same none = record { fits = ap (replayed s.durable) none ∙ ap Some (sym same); kept = λ _ k. subst IsKept (sym same) k }

  pub refused_goes : (s : State) (req : ReqId) (refusal : Refusal) → Goes T s (refused s req refusal)
  refused_goes s req refusal = let f = (refused_leaves s req refusal refusal refl).fits in record { fits = f.fits; kept = λ t k. f.kept k }

  pub ended_goes : (s : State) (req : ReqId) (refusal : Refusal) → Goes T s (ended_by s req refusal)
  ended_goes s req refusal = let f = (refused_leaves s req refusal refusal refl).fits in record { fits = f.fits; kept = λ t k. f.kept k }

  -- ---- one thing after another

  both_fit : (xs ys : List PlainEntry) (d e : Durable) (o : Option Durable) → replayed d xs ≡ Some e → replayed e ys ≡ o → replayed d (xs ++ ys) ≡ o
  both_fit [] ys d e o a b = ap (λ p. replayed (unwrap_or p d) ys) a ∙ b
  both_fit (x ∷ xs) ys d e o a b = by_first (applied d x) a (λ n h. both_fit xs ys n e o h b)
    where
      by_first : (p : Option Durable) → option_and_then (λ n. replayed n xs) p ≡ Some e → ((n : Durable) → replayed n xs ≡ Some e → replayed n (xs ++ ys) ≡ o) → option_and_then (λ n. replayed n (xs ++ ys)) p ≡ o
      by_first None h rest = absurd (false≢true (ap is_some h))
      by_first (Some n) h rest = rest n h

  pub then_goes : (s : State) (t : Turn) (f : State → Turn) → Goes T s t → Goes T t.after (f t.after) → Goes T s (and_then t f)
  then_goes s t f a b = record {
    fits = both_fit t.records (f t.after).records s.durable t.after.durable (Some (f t.after).after.durable) a.fits b.fits;
    kept = λ u k. b.kept u (a.kept u k);
  }

  pub each_goes : {A : Type 0} (xs : List A) (step : A → State → Turn) → ((x : A) (s : State) → Goes T s (step x s)) → (s : State) → Goes T s (for_each s xs step)
  each_goes [] step h s = same_goes s (unmoved s) refl refl
  each_goes (x ∷ xs) step h s = then_goes s (step x s) (λ next. for_each next xs step) (h x s) (each_goes xs step h (step x s).after)

  pub all_ended_goes : (reqs : List ReqId) (refusal : Refusal) (s : State) → Goes T s (all_ended_by s reqs refusal)
  all_ended_goes reqs refusal s = each_goes reqs (λ req next. ended_by next req refusal) (λ req next. ended_goes next req refusal) s

  -- ---- tests

  pub test_goes : (s : State) (b : Bool) (t u : Turn) → (b ≡ true → Goes T s t) → (b ≡ false → Goes T s u) → Goes T s (if b then t else u)
  test_goes s true t u a b = a refl
  test_goes s false t u a b = b refl

  pub room_goes : (s : State) (req : ReqId) (t : Turn) → Goes T s t → Goes T s (if_room s t (refused s req refusals.Full))
  room_goes s req t a = test_goes s (fits s.log t.records) t (refused s req refusals.Full) (λ b. a) (λ b. refused_goes s req refusals.Full)

  -- ---- edits

  pub edit_applies : (d : Durable) (by : ReqId) (edit : PlainEdit) (names : NamesView) → edited_names edit d.names ≡ Ok names → may_edit d edit ≡ true → applied d (Edited by edit) ≡ Some (with_edit d by edit names)
  unfolding applied
  edit_applies d by edit names e may = ap (after_edit d by edit) e ∙ ap (λ b. if_fits b (with_edit d by edit names)) may

  edit_goes : (s : State) (req : ReqId) (edit : PlainEdit) (answer : Answer) → ((names : NamesView) → edited_names edit s.durable.names ≡ Ok names → may_edit s.durable edit ≡ true) → (T → IsEdit edit)
      → (names : Result NamesView Refusal) → edited_names edit s.durable.names ≡ names → Goes T s (edit_if s req edit answer names)
  edit_goes s req edit answer may told (Ok names) e =
      let fit = edit_applies s.durable req edit names e (may names e) in
      room_goes s req (turned s (accept_plan req edit answer))
      (one_goes s (Edited req edit) (accept_plan req edit answer) (with_edit s.durable req edit names) fit (λ t k. edit_kept_by s.durable (with_edit s.durable req edit names) req edit (told t) k fit))
  edit_goes s req edit answer may told (Err refusal) e = refused_goes s req refusal

  pub edited_goes : (s : State) (req : ReqId) (edit : PlainEdit) (answer : Answer) → ((names : NamesView) → edited_names edit s.durable.names ≡ Ok names → may_edit s.durable edit ≡ true) → (T → IsEdit edit)
      → Goes T s (edited_by s req edit answer)
  edited_goes s req edit answer may told = edit_goes s req edit answer may told (edited_names edit s.durable.names) refl

  pub answered_goes : (s : State) (req : ReqId) (answer : Answer) → Goes T s (answered_with s req answer)
  answered_goes s req answer = same_goes s (answered_with s req answer) refl refl

  pub looked_goes : (s : State) (req : ReqId) (result : Result Answer Refusal) → Goes T s (looked_up s req result)
  looked_goes s req (Ok answer) = answered_goes s req answer
  looked_goes s req (Err refusal) = refused_goes s req refusal

-- ---- an edit that may be made

pub may_so : (d : Durable) (edit : PlainEdit) → is_rolling d.phase ≡ false → names_well edit ≡ true → is_none (chunk_of_edit edit) ≡ true → is_fresh_if d.next_hidden (number_of_edit edit) ≡ true → may_edit d edit ≡ true
may_so d edit rolling well none fresh =
    both_true (not (is_rolling d.phase)) _ (ap not rolling)
    (both_true (names_well edit) _ well
    (both_true (is_none (chunk_of_edit edit) || is_some (view_for d (chunk_of_edit edit))) _ (ap (λ b. b || is_some (view_for d (chunk_of_edit edit))) none) fresh))

-- the next number is fresh, where one is left
pub next_fresh : (n : ℕ) → (n == 0) ≡ false → is_fresh n n ≡ true
next_fresh n some = grind (arith, nat_tests)

pub deleted_goes : (T : Type 0) (s : State) (req : ReqId) (path : Path) (recursive : Bool) (moment : Moment) → is_rolling s.durable.phase ≡ false → names_well (Hide path moment.0 s.durable.next_hidden) ≡ true
    → (T → IsEdit (Hide path moment.0 s.durable.next_hidden)) → Goes T s (deleted s req path recursive moment)
deleted_goes T s req path recursive moment rolling well told =
    let hides = edited_by s req (Hide path moment.0 s.durable.next_hidden) (answers.Path (hidden_path path moment.0 s.durable.next_hidden)) in
    let third = if s.durable.next_hidden == 0 then refused s req refusals.Exhausted else hides in
    let second = if not recursive && has_visible_child (fin.entries s.durable.names.tree) path then refused s req refusals.NotEmpty else third in
    let first = if is_none (fin.get s.durable.names.tree path) then answered_with s req answers.Absent else second in
    test_goes T s (same_path path []) (refused s req refusals.IsRoot) first (λ _. refused_goes T s req refusals.IsRoot)
    (λ _. test_goes T s (is_none (fin.get s.durable.names.tree path)) (answered_with s req answers.Absent) second (λ _. answered_goes T s req answers.Absent)
    (λ _. test_goes T s (not recursive && has_visible_child (fin.entries s.durable.names.tree) path) (refused s req refusals.NotEmpty) third (λ _. refused_goes T s req refusals.NotEmpty)
    (λ _. test_goes T s (s.durable.next_hidden == 0) (refused s req refusals.Exhausted) hides (λ _. refused_goes T s req refusals.Exhausted)
    (λ some. edited_goes T s req (Hide path moment.0 s.durable.next_hidden) (answers.Path (hidden_path path moment.0 s.durable.next_hidden))
    (λ names e. may_so s.durable (Hide path moment.0 s.durable.next_hidden) rolling well refl (next_fresh s.durable.next_hidden some)) told))))

-- ---- what goes back stood where it was hidden, and nothing is hidden twice

is_ok_names : Result NamesView Refusal → Bool
is_ok_names (Ok names) = true
is_ok_names (Err refusal) = false

unhidden_stood : (names new : NamesView) (p : Path) (ps : List Path) (name : Option Name) → names_from (with_counts (tabled ps (unhidden (at (fin.entries names.tree)) p name)) (Ok names.refs)) ≡ Ok new → is_some (at (fin.entries names.tree) p) ≡ true
unfolding is_ok_names
unhidden_stood names new p ps None e = absurd (false≢true (ap is_ok_names e))
unhidden_stood names new p ps (Some name) e = by_entry (at (fin.entries names.tree) p) refl
  where
    by_entry : (o : Option (Entry ℕ)) → at (fin.entries names.tree) p ≡ o → is_some o ≡ true
    by_entry None is = absurd (false≢true (ap is_ok_names (rw is at e)))
    by_entry (Some entry) is = refl

once_back : (x : Name) (o : Option (ℕ × ℕ × Name)) → hidden_parts x ≡ o → is_once x ≡ true → is_visible_name (option_map (λ parts. parts.2) o) ≡ true
once_back x None is once = refl
once_back x (Some parts) is once = rw is at once

visible_back : (p : Path) → list_all is_once p ≡ true → is_visible_name (old_name p) ≡ true
visible_back [] all = refl
visible_back (x ∷ []) all = once_back x (hidden_parts x) refl (and_parts (is_once x) true all).0
visible_back (x ∷ y ∷ p) all = visible_back (y ∷ p) (and_parts (is_once x) (list_all is_once (y ∷ p)) all).1

pub unhide_well : (names new : NamesView) (p : Path) → AreKept names → edited_names (Unhide p) names ≡ Ok new → names_well (Unhide p) ≡ true
unfolding edited_names
unhide_well names new p kept e =
    visible_back p (rows_each (list_all is_once) names.tree (rows_once (fin.entries names.tree) kept.hidden) p
    (ap is_some (fin.get-entries names.tree p) ∙ unhidden_stood names new p _ (old_name p) e))
