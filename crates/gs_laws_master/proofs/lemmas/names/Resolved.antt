-- The target of a rename as its record holds it: a path that can be told, whose elements aren't hidden.
use Rattle.std.proofs.Common.{◌≡◌, ◌∙◌, ◌≤◌, ◌<◌, ◌+◌, ◌&&◌, ◌++◌, ℕ, Bool, true, false, cond, [], not, length, append-nil, refl, sym, ap, subst, ◌∷◌, arith, ◌||◌}
use Rattle.std.specs.Prelude.{nat_le, is_some, Result, Ok, MatchBool, Option, None, Some, Err, if◌then◌else◌}
use Rattle.std.specs.FinMap as fin
use Rattle.std.specs.List.{list_all, list_any}
use Rattle.std.proofs.lemmas.Bool.{le-leb, false≢true}
use Rattle.std.proofs.lemmas.Bool.Decides.{nat_tests}
use Rattle.gs_path.specs.Element.{is_hidden}
use Rattle.gs_path.specs.Path.{Name, Path}
use Rattle.gs_tree.proofs.Depths.{map_test}
use Rattle.gs_tree.specs.Build.{is_short}
use Rattle.gs_tree.specs.Edits.{is_dir, last, target_of}
use Rattle.gs_tree.specs.Find.{IsDepthTest, is_too_deep}
use Rattle.gs_tree.specs.Plain.{Plain}
use Rattle.gs_edit.specs.View.{NamesView}
use Rattle.gs_master_record.specs.Plain.{Rename, Edited}
use Rattle.gs_master_record.specs.Writable.{IsPath}
use Rattle.gs_master_spec.specs.Applied.{is_visible}
use Rattle.gs_master_spec.specs.Undoing.{edited_names}
use Rattle.gs_master_state.proofs.Renames.{target_free, resolved_once}
use Rattle.gs_laws_master.specs.Written.{is_spelled}
use Rattle.gs_laws_master.proofs.lemmas.names.Commanded.{all_join, all_last}
use Rattle.gs_laws_master.proofs.lemmas.spelling.Spelled.{is_plain, read_path}
use Rattle.gs_laws_master.proofs.lemmas.spelling.SpelledNames.{path_of, seen_path}
use Rattle.gs_tree.specs.Entry.{Entry}
use Rattle.gs_base.specs.declared.refusal.Refusal.{Refusal}
use Rattle.gs_base.specs.declared.refusal.Refusal.TheVariants as refusals
use Rattle.gs_msg.specs.declared.answer.Answer.TheVariants as answers
use Rattle.gs_master_spec.specs.Calls.{accept_plan, edit_if}
use Rattle.gs_master_spec.specs.State.{Turn, fits, refused, turned}
use Rattle.gs_laws_master.specs.Promises.{RenameRecordsResolved, ResolvesOnce}

-- what is so of the elements of both paths is so of the target's
all_resolved : (f : Name → Bool) (m : Plain ℕ) (from to : Path) → list_all f from ≡ true → list_all f to ≡ true → list_all f (target_of m from to) ≡ true
all_resolved f m from to h k = by_test (is_dir (m to))
  where
    by_test : (b : Bool) → list_all f (cond b (to ++ last from) to) ≡ true
    by_test true = all_join f to (last from) k (all_last f from h)
    by_test false = k

none_seen : (p : Path) → is_visible p ≡ true → list_all (λ name. not (is_hidden name)) p ≡ true
none_seen [] h = refl
none_seen (x ∷ p) h = by_first (is_hidden x) (none_seen p) h
  where
    by_first : (b : Bool) → (is_visible p ≡ true → list_all (λ name. not (is_hidden name)) p ≡ true) → not (b || list_any is_hidden p) ≡ true → (not b && list_all (λ name. not (is_hidden name)) p) ≡ true
    by_first true rest h = h
    by_first false rest h = rest h

seen_none : (p : Path) → list_all (λ name. not (is_hidden name)) p ≡ true → is_visible p ≡ true
seen_none [] h = refl
seen_none (x ∷ p) h = by_first (is_hidden x) (seen_none p) h
  where
    by_first : (b : Bool) → (list_all (λ name. not (is_hidden name)) p ≡ true → is_visible p ≡ true) → (not b && list_all (λ name. not (is_hidden name)) p) ≡ true → not (b || list_any is_hidden p) ≡ true
    by_first true rest h = h
    by_first false rest h = rest h

pub resolved_visible : (m : Plain ℕ) (from to : Path) → is_visible from ≡ true → is_visible to ≡ true → is_visible (target_of m from to) ≡ true
resolved_visible m from to h k = seen_none (target_of m from to) (all_resolved (λ name. not (is_hidden name)) m from to (none_seen from h) (none_seen to k))

-- ---- where a rename is accepted its target isn't too deep

few_elements : (deep : Bool) (m : Plain ℕ) (from target : Path) → IsDepthTest deep m from target → deep ≡ false → is_some (m from) ≡ true → length target ≤ 64
few_elements true m from target test is some = absurd (let k = is in cc)
few_elements false m from target test is some = by_length (nat_le (length target) 64) refl
  where
    by_length : (b : Bool) → nat_le (length target) 64 ≡ b → length target ≤ 64
    by_length true short = grind (arith, nat_tests)
    by_length false long = absurd (test ([], (ap (λ q. is_some (m q)) (append-nil from) ∙ some, grind (arith, nat_tests))))

pub resolved_told : (names after : NamesView) (from to : Path) → IsPath from → IsPath to → is_visible from ≡ true → is_visible to ≡ true → edited_names (Rename from to) names ≡ Ok after → IsPath (target_of (fin.get names.tree) from to)
resolved_told names after from to a b seen_from seen_to e =
    let m = fin.get names.tree in
    let target = target_of m from to in
    let accepted = target_free names after from to e in
    let few = few_elements (is_too_deep (fin.entries names.tree) from target) m from target (map_test names.tree from target) accepted.shallow accepted.stands in
    path_of target (all_resolved is_spelled m from to (seen_path from a seen_from).0 (seen_path to b seen_to).0) (le-leb (length target) 64 few)
    (all_resolved is_plain m from to (read_path from a.1).plain (read_path to b.1).plain)

-- ---- what is recorded

none_at : (o : Option (Entry ℕ)) → is_some o ≡ false → o ≡ None
none_at None h = refl
none_at (Some e) h = absurd (false≢true (sym h))

pub resolves_once : ResolvesOnce
resolves_once names after from to e =
    let m = fin.get names.tree in
    let target = target_of m from to in
    let free = (target_free names after from to e).free in (none_at (m target) free, resolved_once m from target free)

pub records_resolved : RenameRecordsResolved
records_resolved s req from to accepted = by_names (edited_names (Rename from to) s.durable.names) accepted
  where
    by_room : (b : Bool) (t : Turn) → (if b then t else refused s req refusals.Full).said ≡ None → (if b then t else refused s req refusals.Full).records ≡ t.records
    by_room true t h = refl
    by_room false t h = absurd (let k = h in cc)

    by_names : (names : Result NamesView Refusal) → (edit_if s req (Rename from (target_of (fin.get s.durable.names.tree) from to)) answers.Nothing names).said ≡ None
        → (edit_if s req (Rename from (target_of (fin.get s.durable.names.tree) from to)) answers.Nothing names).records ≡ Edited req (Rename from (target_of (fin.get s.durable.names.tree) from to)) ∷ []
    by_names (Err refusal) h = absurd (let k = h in cc)
    by_names (Ok after) h =
        let t = turned s (accept_plan req (Rename from (target_of (fin.get s.durable.names.tree) from to)) answers.Nothing) in by_room (fits s.log t.records) t h
