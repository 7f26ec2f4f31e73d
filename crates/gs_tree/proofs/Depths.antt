-- Which paths become too long, as the rows and as the map say it.
use Rattle.std.proofs.Common.{◌≡◌, ◌+◌, ℕ, Bool, true, false, cond, ◌&&◌, ◌||◌, List, [], ◌∷◌, ◌++◌, length, refl, sym, ap, ◌∙◌, subst}
use Rattle.std.specs.Prelude.{Option, Some, None, is_some, nat_lt, not, option_and_then}
use Rattle.std.proofs.lemmas.Bool.{ltb-true, lt-ltb}
use Rattle.std.specs.List.{list_any}
use Rattle.std.specs.FinMap.{FinMap, get, entries, get-entries, IsAntisymmetric, slice_cmp-IsAntisymmetric, nat_cmp-IsAntisymmetric}
use Rattle.std.specs.Cmp.{eq_by_cmp_equiv}
use Rattle.gs_path.specs.Path.{Path, path_cmp, path_total, begins}
use Rattle.gs_tree.specs.Entry.{Entry, Dir, File, chunks_of}
use Rattle.gs_path.specs.Element.{is_hidden}
use Rattle.gs_tree.specs.Plain.{Plain, after, part_at}
use Rattle.gs_tree.specs.Find.{Rows, at, IsDepthTest, is_too_deep, is_copied_too_deep, most_elements}
use Rattle.gs_tree.specs.Edits.{same_path, visible}
use Rattle.gs_tree.proofs.Reaching.{same_path-is}
use Rattle.gs_tree.proofs.Splice.{begins_parts}
use Rattle.gs_tree.proofs.Laws.{begins_append, after_append}

pub paths_antisymmetric : IsAntisymmetric path_cmp
paths_antisymmetric = slice_cmp-IsAntisymmetric (slice_cmp-IsAntisymmetric nat_cmp-IsAntisymmetric)

same_itself : (p : Path) → same_path p p ≡ true
same_itself p = (eq_by_cmp_equiv path_total).refl p

-- a test of paths that some row passes is passed by a path at which something stands, and the other way round
passed : (test : Path → Bool) (rows : Rows ℕ) → list_any (λ r. test r.0) rows ≡ true → (q : Path) × ((test q ≡ true) × (is_some (at rows q) ≡ true))
passed test [] h = absurd (cc)
passed test (r ∷ rows) h =
    elim (test r.0) as (λ b. test r.0 ≡ b → (b || list_any (λ s. test s.0) rows) ≡ true → (q : Path) × ((test q ≡ true) × (is_some (at (r ∷ rows) q) ≡ true))) [
      | true ↦ λ b k. (r.0, (b, ap (λ s. is_some (cond s (Some r.1) (at rows r.0))) (same_itself r.0)))
      | false ↦ λ b k. let (q, (ok, some)) = passed test rows k in (q, (ok, either (same_path q r.0) (Some r.1) (at rows q) refl some))
    ] refl h
  where
    either : (b : Bool) (v w : Option (Entry ℕ)) → is_some v ≡ true → is_some w ≡ true → is_some (cond b v w) ≡ true
    either true v w h g = h
    either false v w h g = g

passes : (test : Path → Bool) (rows : Rows ℕ) (q : Path) → test q ≡ true → is_some (at rows q) ≡ true → list_any (λ r. test r.0) rows ≡ true
passes test [] q ok some = absurd (cc)
passes test (r ∷ rows) q ok some =
    elim (same_path q r.0) as (λ b. same_path q r.0 ≡ b → is_some (cond b (Some r.1) (at rows q)) ≡ true → (test r.0 || list_any (λ s. test s.0) rows) ≡ true) [
      | true ↦ λ b h. ap (λ t. t || list_any (λ s. test s.0) rows) (ap test (sym (same_path-is q r.0 b)) ∙ ok)
      | false ↦ λ b h. later (test r.0) (passes test rows q ok h)
    ] refl some
  where
    later : (b : Bool) {c : Bool} → c ≡ true → (b || c) ≡ true
    later true h = refl
    later false h = h

abbrev too_long : Path → Path → Path → Bool
too_long from to q = begins from q && nat_lt most_elements (length to + length (after from q))

first_of_two : (a b : Bool) → (a && b) ≡ true → a ≡ true
first_of_two true b h = refl
first_of_two false b h = h

second_of_two : (a b : Bool) → (a && b) ≡ true → b ≡ true
second_of_two true b h = h
second_of_two false b h = absurd (cc)

pub rows_test : (rows : Rows ℕ) (from to : Path) → IsDepthTest (is_too_deep rows from to) (at rows) from to
rows_test rows from to = at_test (is_too_deep rows from to) refl
  where
    at_test : (b : Bool) → is_too_deep rows from to ≡ b → IsDepthTest b (at rows) from to
    at_test true e =
        let (q, (ok, some)) = passed (too_long from to) rows e in
        let front = first_of_two (begins from q) (nat_lt most_elements (length to + length (after from q))) ok in
        let long = second_of_two (begins from q) (nat_lt most_elements (length to + length (after from q))) ok in
        (after from q, (ap (λ p. is_some (at rows p)) (sym (begins_parts from q front)) ∙ some, ltb-true most_elements (length to + length (after from q)) long))
    at_test false e = λ (q, (some, long)).
        let is_long : nat_lt most_elements (length to + length q) ≡ true = lt-ltb most_elements (length to + length q) long in
        let ok : too_long from to (from ++ q) ≡ true = ap (λ b. b && nat_lt most_elements (length to + length (after from (from ++ q)))) (begins_append from q) ∙ ap (λ p. nat_lt most_elements (length to + length p)) (after_append from q) ∙ is_long in
        let found = passes (too_long from to) rows (from ++ q) ok some in cc

pub map_test : (m : FinMap path_cmp (Entry ℕ)) (from to : Path) → IsDepthTest (is_too_deep (entries m) from to) (get m) from to
map_test m from to = subst (λ f. IsDepthTest (is_too_deep (entries m) from to) f from to) (λ i q. sym (get-entries m q) i) (rows_test (entries m) from to)

abbrev copied_too_long : Path → Path → Path → Bool
copied_too_long from to q = begins from q && (not (list_any is_hidden (after from q)) && nat_lt most_elements (length to + length (after from q)))

-- the same of what is copied of rows
pub copied_test : (rows : Rows ℕ) (from to : Path) → IsDepthTest (is_copied_too_deep rows from to) (visible (part_at from (at rows))) [] to
copied_test rows from to = at_test (is_copied_too_deep rows from to) refl
  where
    shows : (b : Bool) (v : Option (Entry ℕ)) → not b ≡ true → is_some v ≡ true → is_some (cond b None v) ≡ true
    shows true v h some = absurd (cc)
    shows false v h some = some

    plain : (b : Bool) (v : Option (Entry ℕ)) → is_some (cond b None v) ≡ true → (not b ≡ true) × (is_some v ≡ true)
    plain true v some = absurd (cc)
    plain false v some = (refl, some)

    at_test : (b : Bool) → is_copied_too_deep rows from to ≡ b → IsDepthTest b (visible (part_at from (at rows))) [] to
    at_test true e =
        let (q, (ok, some)) = passed (copied_too_long from to) rows e in
        let long = nat_lt most_elements (length to + length (after from q)) in
        let seen = not (list_any is_hidden (after from q)) in
        let front = first_of_two (begins from q) (seen && long) ok in
        let both = second_of_two (begins from q) (seen && long) ok in
        let stands : is_some (at rows (from ++ after from q)) ≡ true = ap (λ p. is_some (at rows p)) (sym (begins_parts from q front)) ∙ some in
        (after from q, (shows (list_any is_hidden (after from q)) (at rows (from ++ after from q)) (first_of_two seen long both) stands, ltb-true most_elements (length to + length (after from q)) (second_of_two seen long both)))
    at_test false e = λ (q, (some, long)).
        let is_long : nat_lt most_elements (length to + length q) ≡ true = lt-ltb most_elements (length to + length q) long in
        let (seen, stands) = plain (list_any is_hidden q) (at rows (from ++ q)) some in
        let ok : copied_too_long from to (from ++ q) ≡ true =
        ap (λ b. b && (not (list_any is_hidden (after from (from ++ q))) && nat_lt most_elements (length to + length (after from (from ++ q))))) (begins_append from q)
        ∙ ap (λ p. not (list_any is_hidden p) && nat_lt most_elements (length to + length p)) (after_append from q) ∙ ap (λ b. b && nat_lt most_elements (length to + length q)) seen ∙ is_long in
        let found = passes (copied_too_long from to) rows (from ++ q) ok stands in cc

pub copied_map_test : (m : FinMap path_cmp (Entry ℕ)) (from to : Path) → IsDepthTest (is_copied_too_deep (entries m) from to) (visible (part_at from (get m))) [] to
copied_map_test m from to = subst (λ (f : Plain ℕ). IsDepthTest (is_copied_too_deep (entries m) from to) (visible (part_at from f)) [] to) (λ i q. sym (get-entries m q) i) (copied_test (entries m) from to)

pub chunks_some : (v : Option (Entry ℕ)) (chunks : List ℕ) → option_and_then chunks_of v ≡ Some chunks → v ≡ Some (File chunks)
chunks_some None chunks e = absurd (cc)
chunks_some (Some Dir) chunks e = absurd (cc)
chunks_some (Some (File hs)) chunks e = let k : hs ≡ chunks = cc in ap (λ l. Some (File l)) k

pub chunks_none : (v : Option (Entry ℕ)) → is_some v ≡ true → option_and_then chunks_of v ≡ None → v ≡ Some Dir
chunks_none None some e = absurd (cc)
chunks_none (Some Dir) some e = refl
chunks_none (Some (File hs)) some e = absurd (cc)
