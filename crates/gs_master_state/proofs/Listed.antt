-- What the tree lists is what its rows list.
use Rattle.std.proofs.Common.{◌≡◌, ◌⊎◌, ◌∙◌, ℕ, ◌+◌, ◌==◌, ◌&&◌, ◌||◌, Bool, true, false, not, cond, List, [], ◌∷◌, ◌++◌, map, length, length-append, refl, sym, ap, subst, inl, inr, T, arith}
use Rattle.std.proofs.lemmas.Bool.Decides.{nat_tests}
use Rattle.std.specs.Prelude.{Option, Some, None, Ok, Err, is_some, MatchBool}
use Rattle.std.specs.declared.cmp.Ordering.TheVariants.{Less, Equal, Greater}
use Rattle.std.specs.Ordering.{is_eq, is_lt, ordering_then}
use Rattle.std.specs.Cmp.{IsEquivalence, eq_by_cmp_equiv, Equal-is}
use Rattle.std.specs.Cmp.Lexicographic.{nat_list_cmp_total}
use Rattle.std.specs.List.{cons_option, filter_map, list_any}
use Rattle.std.specs.Option.{option_map}
use Rattle.std.specs.FinMap.{FinMap, find, is_sorted, entries, entries_sorted, get, get-entries, slice_cmp-IsAntisymmetric, nat_cmp-IsAntisymmetric}
use Rattle.std.specs.FinMap.Entries.{below_all, same_entries}
use Rattle.gs_base.specs.declared.refusal.Refusal.{Refusal}
use Rattle.gs_base.specs.declared.refusal.Refusal.TheVariants as refusals
use Rattle.gs_path.specs.Path.{Name, Path, same_name, begins, name_cmp, path_cmp}
use Rattle.gs_path.specs.Element.{is_hidden}
use Rattle.gs_tree.specs.Entry.{Entry, Dir, File}
use Rattle.gs_tree.specs.Plain.{after, part_at}
use Rattle.gs_tree.specs.Find.{Rows, at}
use Rattle.gs_tree.specs.Edits.{same_path, last, is_dir}
use Rattle.gs_tree.specs.Lists.{is_child}
use Rattle.gs_tree.specs.Listing.{shown, HasVisible, IsListing, IsListingOf, pairs_of, is_dir_entry}
use Rattle.gs_tree.specs.declared.node.Listed.{Listed}
use Rattle.gs_tree.proofs.Moves.{last-append}
use Rattle.gs_msg.specs.declared.answer.Answer.TheVariants as answers
use Rattle.gs_msg.specs.declared.lists.ListedName.{ListedName}
use Rattle.gs_master_spec.specs.Calls.{children, has_visible_child, is_hidden_at, listing, names_of_rows}
use Rattle.gs_master_state.specs.inner.Judging.{listed_name}

-- ---- visible children as pairs

-- the name of a visible child with whether it is a directory, of what stands under a path
abbrev pub child : Path → Entry ℕ → Option (Name × Bool)
child [] e = None
child (n ∷ x ∷ q) e = None
child (n ∷ []) e = cond (is_hidden n) None (Some (n, is_dir_entry e))

abbrev pub shown_under : Path → Rows ℕ → List (Name × Bool)
shown_under p rows = filter_map (λ r. cond (begins p r.0) (child (after p r.0) r.1) None) rows

names_equiv : IsEquivalence same_name
names_equiv = eq_by_cmp_equiv nat_list_cmp_total

one_name : (x y : Name) → same_name x y ≡ true → x ≡ y
one_name x y t = slice_cmp-IsAntisymmetric nat_cmp-IsAntisymmetric x y ((Equal-is (name_cmp x y)).0 t)

name_itself : (x : Name) → name_cmp x x ≡ Equal
name_itself x = (Equal-is (name_cmp x x)).0 (names_equiv.refl x)

-- paths behind one front are compared behind it
cmp-append : (p a b : Path) → path_cmp (p ++ a) (p ++ b) ≡ path_cmp a b
cmp-append [] a b = refl
cmp-append (x ∷ p) a b = ap (λ o. ordering_then o (path_cmp (p ++ a) (p ++ b))) (name_itself x) ∙ cmp-append p a b

begins_parts : (p q : Path) → begins p q ≡ true → q ≡ p ++ after p q
begins_parts [] q h = refl
begins_parts (x ∷ p) [] h = absurd (cc)
begins_parts (x ∷ p) (y ∷ q) h =
    elim (same_name x y) as (λ b. same_name x y ≡ b → (b && begins p q) ≡ true → y ∷ q ≡ x ∷ (p ++ after p q)) [
      | true ↦ λ b g. ap (λ z. z ∷ q) (sym (one_name x y b)) ∙ ap (λ z. x ∷ z) (begins_parts p q g)
      | false ↦ λ b g. absurd (cc)
    ] refl h

begins_front : (p r : Path) → begins p (p ++ r) ≡ true
begins_front [] r = refl
begins_front (x ∷ p) r = ap (λ b. b && begins p (p ++ r)) (names_equiv.refl x) ∙ begins_front p r

path_is : (p q : Path) → same_path p q ≡ true → p ≡ q
path_is p q e = slice_cmp-IsAntisymmetric (slice_cmp-IsAntisymmetric nat_cmp-IsAntisymmetric) p q ((Equal-is (path_cmp p q)).0 e)

not_behind : (p : Path) (n : Name) (q : Path) → begins p q ≡ false → same_path (p ++ n ∷ []) q ≡ false
not_behind p n q out = elim (same_path (p ++ n ∷ []) q) as (λ b. same_path (p ++ n ∷ []) q ≡ b → b ≡ false) [
  | true ↦ λ b. let k : begins p q ≡ true = ap (begins p) (sym (path_is (p ++ n ∷ []) q b)) ∙ begins_front p (n ∷ []) in absurd (cc)
  | false ↦ λ b. refl
] refl

-- one name alone against what stands behind the front
abbrev alone : Name → Path → Bool
alone n [] = false
alone n (k ∷ []) = same_name n k
alone n (k ∷ x ∷ q) = false

alone_is : (n : Name) (t : Path) → same_path (n ∷ []) t ≡ alone n t
alone_is n [] = refl
alone_is n (k ∷ []) = elim (name_cmp n k) as (λ o. is_eq (ordering_then o Equal) ≡ is_eq o) [ Less ↦ refl | Equal ↦ refl | Greater ↦ refl ]
alone_is n (k ∷ x ∷ q) = elim (name_cmp n k) as (λ o. is_eq (ordering_then o Less) ≡ false) [ Less ↦ refl | Equal ↦ refl | Greater ↦ refl ]

behind_is : (p : Path) (n : Name) (q : Path) → begins p q ≡ true → same_path (p ++ n ∷ []) q ≡ alone n (after p q)
behind_is p n q b = ap (same_path (p ++ n ∷ [])) (begins_parts p q b) ∙ ap is_eq (cmp-append p (n ∷ []) (after p q)) ∙ alone_is n (after p q)

hidden_none : (n : Name) (v : Option (Entry ℕ)) → is_hidden n ≡ true → shown n v ≡ None
hidden_none n v h = ap (λ b. cond b None (option_map is_dir_entry v)) h

step_one : (k n : Name) (e : Entry ℕ) (cs : List (Name × Bool)) (v : Option (Entry ℕ)) → find name_cmp n cs ≡ shown n v
    → find name_cmp n (cons_option (cond (is_hidden k) None (Some (k, is_dir_entry e))) cs) ≡ shown n (cond (same_name n k) (Some e) v)
step_one k n e cs v h =
    elim (same_name n k) as (λ s. same_name n k ≡ s → find name_cmp n (cons_option (cond (is_hidden k) None (Some (k, is_dir_entry e))) cs) ≡ shown n (cond s (Some e) v)) [
      | true ↦ λ s. let same : n ≡ k = one_name n k s in
          elim (is_hidden k) as (λ d. is_hidden k ≡ d → find name_cmp n (cons_option (cond d None (Some (k, is_dir_entry e))) cs) ≡ shown n (Some e)) [
            | true ↦ λ d. let hid : is_hidden n ≡ true = ap is_hidden same ∙ d in h ∙ hidden_none n v hid ∙ sym (hidden_none n (Some e) hid)
            | false ↦ λ d. ap (λ b. cond b (Some (is_dir_entry e)) (find name_cmp n cs)) s ∙ sym (ap (λ b. cond b None (Some (is_dir_entry e))) (ap is_hidden same ∙ d))
          ] refl
      | false ↦ λ s. elim (is_hidden k) as (λ d. find name_cmp n (cons_option (cond d None (Some (k, is_dir_entry e))) cs) ≡ shown n v) [
        | true ↦ h
        | false ↦ ap (λ b. cond b (Some (is_dir_entry e)) (find name_cmp n cs)) s ∙ h
      ]
    ] refl

step_child : (t : Path) (n : Name) (e : Entry ℕ) (cs : List (Name × Bool)) (v : Option (Entry ℕ)) → find name_cmp n cs ≡ shown n v → find name_cmp n (cons_option (child t e) cs) ≡ shown n (cond (alone n t) (Some e) v)
step_child [] n e cs v h = h
step_child (k ∷ x ∷ q) n e cs v h = h
step_child (k ∷ []) n e cs v h = step_one k n e cs v h

shown_find : (p : Path) (rows : Rows ℕ) (n : Name) → find name_cmp n (shown_under p rows) ≡ shown n (at rows (p ++ n ∷ []))
shown_find p [] n = let none : Option Bool = None in elim (is_hidden n) as (λ b. none ≡ cond b none none) [ true ↦ refl | false ↦ refl ]
shown_find p (r ∷ rows) n =
    let rest = shown_find p rows n in
    elim (begins p r.0) as (λ b. begins p r.0 ≡ b → find name_cmp n (cons_option (cond b (child (after p r.0) r.1) None) (shown_under p rows)) ≡ shown n (cond (same_path (p ++ n ∷ []) r.0) (Some r.1) (at rows (p ++ n ∷ [])))) [
      | true ↦ λ b. step_child (after p r.0) n r.1 (shown_under p rows) (at rows (p ++ n ∷ [])) rest ∙ ap (λ s. shown n (cond s (Some r.1) (at rows (p ++ n ∷ [])))) (sym (behind_is p n r.0 b))
      | false ↦ λ b. rest ∙ ap (λ s. shown n (cond s (Some r.1) (at rows (p ++ n ∷ [])))) (sym (not_behind p n r.0 b))
    ] refl

-- ---- they stand in the order of their names

fst : (a b : Bool) → T (a && b) → T a
fst true b h = tt
fst false b h = h

snd : (a b : Bool) → T (a && b) → T b
snd true b h = h
snd false b h = absurd h

both : (a b : Bool) → T a → T b → T (a && b)
both true b p q = q
both false b p q = p

lt_alone : (k n : Name) → T (is_lt (path_cmp (k ∷ []) (n ∷ []))) → T (is_lt (name_cmp k n))
lt_alone k n h = elim (name_cmp k n) as (λ o. T (is_lt (ordering_then o Equal)) → T (is_lt o)) [ Less ↦ λ g. g | Equal ↦ λ g. g | Greater ↦ λ g. g ] h

below_one : (k n : Name) (d : Bool) (cs : List (Name × Bool)) → T (is_lt (name_cmp k n)) → T (below_all name_cmp k cs) → T (below_all name_cmp k (cons_option (cond (is_hidden n) None (Some (n, d))) cs))
below_one k n d cs h g = elim (is_hidden n) as (λ b. T (below_all name_cmp k (cons_option (cond b None (Some (n, d))) cs))) [ true ↦ g | false ↦ both (is_lt (name_cmp k n)) (below_all name_cmp k cs) h g ]

below_child : (k : Name) (t : Path) (e : Entry ℕ) (cs : List (Name × Bool)) → T (is_lt (path_cmp (k ∷ []) t)) → T (below_all name_cmp k cs) → T (below_all name_cmp k (cons_option (child t e) cs))
below_child k [] e cs h g = g
below_child k (n ∷ x ∷ q) e cs h g = g
below_child k (n ∷ []) e cs h g = below_one k n (is_dir_entry e) cs (lt_alone k n h) g

shown_below : (p : Path) (k : Name) (rows : Rows ℕ) → T (below_all path_cmp (p ++ k ∷ []) rows) → T (below_all name_cmp k (shown_under p rows))
shown_below p k [] h = tt
shown_below p k (r ∷ rows) h =
    let rest = shown_below p k rows (snd (is_lt (path_cmp (p ++ k ∷ []) r.0)) (below_all path_cmp (p ++ k ∷ []) rows) h) in
    let first = fst (is_lt (path_cmp (p ++ k ∷ []) r.0)) (below_all path_cmp (p ++ k ∷ []) rows) h in
    elim (begins p r.0) as (λ b. begins p r.0 ≡ b → T (below_all name_cmp k (cons_option (cond b (child (after p r.0) r.1) None) (shown_under p rows)))) [
      | true ↦ λ b. below_child k (after p r.0) r.1 (shown_under p rows) (subst (λ o. T (is_lt o)) (ap (path_cmp (p ++ k ∷ [])) (begins_parts p r.0 b) ∙ cmp-append p (k ∷ []) (after p r.0)) first) rest
      | false ↦ λ b. rest
    ] refl

sorted_one : (n : Name) (d : Bool) (cs : List (Name × Bool)) → T (below_all name_cmp n cs) → T (is_sorted name_cmp cs) → T (is_sorted name_cmp (cons_option (cond (is_hidden n) None (Some (n, d))) cs))
sorted_one n d cs h g = elim (is_hidden n) as (λ b. T (is_sorted name_cmp (cons_option (cond b None (Some (n, d))) cs))) [ true ↦ g | false ↦ both (below_all name_cmp n cs) (is_sorted name_cmp cs) h g ]

sorted_child : (p t : Path) (e : Entry ℕ) (rows : Rows ℕ) → T (below_all path_cmp (p ++ t) rows) → T (is_sorted name_cmp (shown_under p rows)) → T (is_sorted name_cmp (cons_option (child t e) (shown_under p rows)))
sorted_child p [] e rows h g = g
sorted_child p (n ∷ x ∷ q) e rows h g = g
sorted_child p (n ∷ []) e rows h g = sorted_one n (is_dir_entry e) (shown_under p rows) (shown_below p n rows h) g

shown_sorted : (p : Path) (rows : Rows ℕ) → T (is_sorted path_cmp rows) → T (is_sorted name_cmp (shown_under p rows))
shown_sorted p [] h = tt
shown_sorted p (r ∷ rows) h =
    let rest = shown_sorted p rows (snd (below_all path_cmp r.0 rows) (is_sorted path_cmp rows) h) in
    let first = fst (below_all path_cmp r.0 rows) (is_sorted path_cmp rows) h in
    elim (begins p r.0) as (λ b. begins p r.0 ≡ b → T (is_sorted name_cmp (cons_option (cond b (child (after p r.0) r.1) None) (shown_under p rows)))) [
      | true ↦ λ b. sorted_child p (after p r.0) r.1 rows (subst (λ q. T (below_all path_cmp q rows)) (begins_parts p r.0 b) first) rest
      | false ↦ λ b. rest
    ] refl

to_T : (b : Bool) → b ≡ true → T b
to_T true e = tt
to_T false e = absurd (cc)

-- a listing is that of the rows
pub shown_is : (m : FinMap path_cmp (Entry ℕ)) (p : Path) (items : List Listed) → IsListing (part_at p (get m)) items → pairs_of items ≡ shown_under p (entries m)
shown_is m p items h = sym (same_entries name_cmp nat_list_cmp_total (slice_cmp-IsAntisymmetric nat_cmp-IsAntisymmetric) (shown_under p (entries m)) (pairs_of items)
    (shown_sorted p (entries m) (entries_sorted m)) (to_T _ h.rise) (λ n. shown_find p (entries m) n ∙ ap (shown n) (sym (get-entries m (p ++ n ∷ []))) ∙ sym (h.each n)))

-- ---- the names that are told of them

is_dir_is : (e : Entry ℕ) → is_dir (Some e) ≡ is_dir_entry e
is_dir_is Dir = refl
is_dir_is (File chunks) = refl

is_child_of : (p t : Path) → is_child p (p ++ t) ≡ (length t == 1)
is_child_of p t = ap (λ b. b && (length (p ++ t) == length p + 1)) (begins_front p t) ∙ (let e = length-append p t in grind (arith, nat_tests))

abbrev is_shown : Path → Path → Bool
is_shown p q = is_child p q && not (is_hidden_at q)

abbrev with_row : Bool → Path → Entry ℕ → Rows ℕ → List ListedName
with_row shown q e rest = names_of_rows (cond shown ((q, e) ∷ rest) rest)

no_child : (p t q : Path) → q ≡ p ++ t → (length t == 1) ≡ false → is_shown p q ≡ false
no_child p t q is long = ap (λ b. b && not (is_hidden_at q)) (ap (is_child p) is ∙ is_child_of p t ∙ long)

one_child : (p : Path) (n : Name) (q : Path) → q ≡ p ++ n ∷ [] → is_shown p q ≡ not (is_hidden n || false)
one_child p n q is = λ i. (ap (is_child p) is ∙ is_child_of p (n ∷ [])) i && not (list_any is_hidden ((ap last is ∙ last-append p n) i))

-- a row is told where one visible name stands behind the path
told_row : (p t : Path) (e : Entry ℕ) (q : Path) (rest : Rows ℕ) (pairs : List (Name × Bool)) → q ≡ p ++ t → names_of_rows rest ≡ map listed_name pairs → with_row (is_shown p q) q e rest ≡ map listed_name (cons_option (child t e) pairs)
told_row p [] e q rest pairs is all = ap (λ b. with_row b q e rest) (no_child p [] q is refl) ∙ all
told_row p (n ∷ x ∷ t) e q rest pairs is all = ap (λ b. with_row b q e rest) (no_child p (n ∷ x ∷ t) q is (grind (arith, nat_tests))) ∙ all
told_row p (n ∷ []) e q rest pairs is all =
    elim (is_hidden n) as (λ b. is_hidden n ≡ b → with_row (is_shown p q) q e rest ≡ map listed_name (cons_option (cond b None (Some (n, is_dir_entry e))) pairs)) [
      | true ↦ λ h. ap (λ b. with_row b q e rest) (one_child p n q is ∙ ap (λ b. not (b || false)) h) ∙ all
      | false ↦ λ h. ap (λ b. with_row b q e rest) (one_child p n q is ∙ ap (λ b. not (b || false)) h)
          ∙ (λ i. map (λ name. listed_name (name, is_dir_is e i)) ((ap last is ∙ last-append p n) i) ++ all i)
    ] refl

names_told : (p : Path) (rows : Rows ℕ) → names_of_rows (children rows p) ≡ map listed_name (shown_under p rows)
names_told p [] = refl
names_told p (r ∷ rows) =
    let rest = names_told p rows in
    elim (begins p r.0) as (λ b. begins p r.0 ≡ b → with_row (is_shown p r.0) r.0 r.1 (children rows p) ≡ map listed_name (cons_option (cond b (child (after p r.0) r.1) None) (shown_under p rows))) [
      | true ↦ λ b. told_row p (after p r.0) r.1 r.0 (children rows p) (shown_under p rows) (begins_parts p r.0 b) rest
      | false ↦ λ b. ap (λ t. with_row ((t && (length r.0 == length p + 1)) && not (is_hidden_at r.0)) r.0 r.1 (children rows p)) b ∙ rest
    ] refl

-- ---- what a look-up tells

file_told : (p : Path) (chunks : List ℕ) (names : List Name) → map listed_name (map (λ (name : Name). (name, false)) names) ≡ map (λ name. listed_name (name, is_dir (Some (File chunks)))) names
file_told p chunks [] = refl
file_told p chunks (n ∷ names) = ap (λ l. listed_name (n, false) ∷ l) (file_told p chunks names)

pub listed_as : (m : FinMap path_cmp (Entry ℕ)) (p : Path) (items : List Listed) (names : List ListedName) → IsListingOf (get m p) (get m) p items → names ≡ map listed_name (pairs_of items) → Ok (answers.Names names) ≡ listing (entries m) p (get m p)
listed_as m p items names h is = by_entry (get m p) h
  where
    by_entry : (v : Option (Entry ℕ)) → IsListingOf v (get m) p items → Ok (answers.Names names) ≡ listing (entries m) p v
    by_entry None g = absurd g
    by_entry (Some Dir) g = ap (λ l. Ok (answers.Names l)) (is ∙ ap (map listed_name) (shown_is m p items g) ∙ sym (names_told p (entries m)))
    by_entry (Some (File chunks)) g = ap (λ l. Ok (answers.Names l)) (is ∙ ap (map listed_name) g ∙ file_told p chunks (last p))

pub not_listed : (m : FinMap path_cmp (Entry ℕ)) (p : Path) (e : Refusal) → ((e ≡ refusals.NotFound) × (get m p ≡ None)) ⊎ (e ≡ refusals.Memory) → (e ≡ refusals.Memory → ⊥) → Err e ≡ listing (entries m) p (get m p)
not_listed m p e (inl h) other = ap Err h.0 ∙ sym (ap (listing (entries m) p) h.1)
not_listed m p e (inr h) other = absurd (other h)

-- ---- whether a directory has a visible child

some_of : List (Name × Bool) → Bool
some_of [] = false
some_of (c ∷ cs) = true

-- a row that is no child gives no name
some_row : (p t : Path) (e : Entry ℕ) (q : Path) (shown : List (Name × Bool)) (rest : Bool) → q ≡ p ++ t → rest ≡ some_of shown → (is_shown p q || rest) ≡ some_of (cons_option (child t e) shown)
unfolding some_of
some_row p [] e q shown rest is all = ap (λ b. b || rest) (no_child p [] q is refl) ∙ all
some_row p (n ∷ x ∷ t) e q shown rest is all = ap (λ b. b || rest) (no_child p (n ∷ x ∷ t) q is (grind (arith, nat_tests))) ∙ all
some_row p (n ∷ []) e q shown rest is all =
    elim (is_hidden n) as (λ b. is_hidden n ≡ b → (is_shown p q || rest) ≡ some_of (cons_option (cond b None (Some (n, is_dir_entry e))) shown)) [
      | true ↦ λ h. ap (λ b. b || rest) (one_child p n q is ∙ ap (λ b. not (b || false)) h) ∙ all
      | false ↦ λ h. ap (λ b. b || rest) (one_child p n q is ∙ ap (λ b. not (b || false)) h)
    ] refl

some_shown : (p : Path) (rows : Rows ℕ) → has_visible_child rows p ≡ some_of (shown_under p rows)
unfolding some_of
some_shown p [] = refl
some_shown p (r ∷ rows) =
    let rest = some_shown p rows in
    elim (begins p r.0) as (λ b. begins p r.0 ≡ b → (is_shown p r.0 || has_visible_child rows p) ≡ some_of (cons_option (cond b (child (after p r.0) r.1) None) (shown_under p rows))) [
      | true ↦ λ b. some_row p (after p r.0) r.1 r.0 (shown_under p rows) (has_visible_child rows p) (begins_parts p r.0 b) rest
      | false ↦ λ b. ap (λ t. ((t && (length r.0 == length p + 1)) && not (is_hidden_at r.0)) || has_visible_child rows p) b ∙ rest
    ] refl

found_some : (cs : List (Name × Bool)) → some_of cs ≡ true → (n : Name) × (is_some (find name_cmp n cs) ≡ true)
unfolding some_of
found_some [] h = absurd (cc)
found_some (c ∷ cs) h = (c.0, ap (λ b. is_some (cond b (Some c.1) (find name_cmp c.0 cs))) (names_equiv.refl c.0))

found_none : (cs : List (Name × Bool)) (n : Name) → some_of cs ≡ false → find name_cmp n cs ≡ None
unfolding some_of
found_none [] n h = refl
found_none (c ∷ cs) n h = absurd (cc)

mapped_some : (v : Option (Entry ℕ)) → is_some (option_map is_dir_entry v) ≡ is_some v
mapped_some None = refl
mapped_some (Some e) = refl

shown_some : (n : Name) (v : Option (Entry ℕ)) → is_some (shown n v) ≡ true → (is_hidden n ≡ false) × (is_some v ≡ true)
shown_some n v h = elim (is_hidden n) as (λ b. is_some (cond b None (option_map is_dir_entry v)) ≡ true → (b ≡ false) × (is_some v ≡ true)) [
  | true ↦ λ g. absurd (cc)
  | false ↦ λ g. (refl, sym (mapped_some v) ∙ g)
] h

seen_some : (n : Name) (v : Option (Entry ℕ)) → is_hidden n ≡ false → is_some v ≡ true → is_some (shown n v) ≡ true
seen_some n v h some = ap (λ b. is_some (cond b None (option_map is_dir_entry v))) h ∙ mapped_some v ∙ some

found_at : (m : FinMap path_cmp (Entry ℕ)) (p : Path) (n : Name) → find name_cmp n (shown_under p (entries m)) ≡ shown n (get m (p ++ n ∷ []))
found_at m p n = shown_find p (entries m) n ∙ ap (shown n) (sym (get-entries m (p ++ n ∷ [])))

has_shown : (m : FinMap path_cmp (Entry ℕ)) (p : Path) (b : Bool) → MatchBool b (HasVisible (part_at p (get m))) (HasVisible (part_at p (get m)) → ⊥) → b ≡ some_of (shown_under p (entries m))
has_shown m p true (n, (seen, some)) = elim (some_of (shown_under p (entries m))) as (λ b. some_of (shown_under p (entries m)) ≡ b → true ≡ b) [
  | true ↦ λ e. refl
  | false ↦ λ e.
      let here : is_some (find name_cmp n (shown_under p (entries m))) ≡ true = ap is_some (found_at m p n) ∙ seen_some n (get m (p ++ n ∷ [])) seen some in
      let gone : is_some (find name_cmp n (shown_under p (entries m))) ≡ false = ap is_some (found_none (shown_under p (entries m)) n e) in absurd (cc)
] refl
has_shown m p false never = elim (some_of (shown_under p (entries m))) as (λ b. some_of (shown_under p (entries m)) ≡ b → false ≡ b) [
  | true ↦ λ e.
      let (n, found) = found_some (shown_under p (entries m)) e in
      let (seen, some) = shown_some n (get m (p ++ n ∷ [])) (sym (ap is_some (found_at m p n)) ∙ found) in absurd (never (n, (seen, some)))
  | false ↦ λ e. refl
] refl

pub has_visible_is : (m : FinMap path_cmp (Entry ℕ)) (p : Path) (b : Bool) → MatchBool b (HasVisible (part_at p (get m))) (HasVisible (part_at p (get m)) → ⊥) → b ≡ has_visible_child (entries m) p
has_visible_is m p b h = has_shown m p b h ∙ sym (some_shown p (entries m))
