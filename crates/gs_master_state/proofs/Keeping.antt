-- Places that are kept: what the names are without them, given up, or gone back to.
use Rattle.std.proofs.Common.{◌≡◌, ◌≢◌, ◌∙◌, ◌&&◌, ◌||◌, ◌+◌, ◌<◌, ℕ, suc, zero, Bool, true, false, cond, not, List, [], ◌∷◌, ◌++◌, append-nil, get_or, length, take, refl, ap, subst, sym}
use Rattle.std.specs.List.{list_any}
use Rattle.std.specs.Option.{option_map}
use Rattle.std.specs.Prelude.{if◌then◌else◌, drop, slice_get, Option, Some, None, Result, Ok, is_none, is_some, unwrap_or, MatchBool}
use Rattle.std.specs.Cmp.Lexicographic.{pointwise}
use Rattle.std.specs.FinMap as fin
use Rattle.gs_edit.specs.Names.{NamesTakenBack}
use Rattle.gs_edit.specs.Edits.{renamed}
use Rattle.gs_edit.specs.Places.{IsClosed, TakesOut}
use Rattle.gs_edit.specs.declared.edit.Edit.TheVariants as edits
use Rattle.gs_edit.proofs.Gathered.{remove_applies}
use Rattle.gs_edit.specs.View.{NamesView}
use Rattle.gs_edit.specs.declared.edit.Inverse.TheVariants.{Tree}
use Rattle.gs_path.specs.Element.{hidden_mark, is_hidden, parts_behind}
use Rattle.gs_base.specs.declared.refusal.Refusal.{Refusal}
use Rattle.gs_refs.specs.Counts.{Counts, lowered_each, raised_each}
use Rattle.gs_path.specs.Path.{Name, Path, path_total, begins, same_name}
use Rattle.gs_tree.specs.Chunks.{rows_under}
use Rattle.gs_tree.specs.Edits.{last, moved, old_name, parent, same_path}
use Rattle.gs_tree.specs.Find.{Rows, at}
use Rattle.gs_tree.specs.Follows.{FollowsPlain}
use Rattle.gs_tree.specs.Entry.{Entry}
use Rattle.gs_tree.specs.Listing.{HasVisible, HasVisibleBut}
use Rattle.gs_tree.specs.Places.{KeepsPlace, can_return, put_back, returned, without_place}
use Rattle.gs_tree.specs.Plain.{Plain, after, part_at, rooted, with_at, without}
use Rattle.gs_tree.specs.declared.inverse.TreeInverse.{TreeInverse}
use Rattle.gs_tree.specs.declared.inverse.TreeInverse.TheVariants.{Moved, Removed}
use Rattle.gs_tree.proofs.Children.{match_map}
use Rattle.gs_tree.proofs.Chunks.{same_itself}
use Rattle.gs_tree.proofs.Laws.{begins_append, begins_either, with_at-append}
use Rattle.gs_tree.proofs.Moves.{last-append, parent-append}
use Rattle.gs_tree.proofs.Reaching.{same_path-is}
use Rattle.gs_tree.proofs.Regions.{rows_under-same}
use Rattle.gs_tree.proofs.Removals.{remove-is}
use Rattle.gs_tree.proofs.Under.{chunks_under-part}
use Rattle.gs_tree.proofs.Rows.{names_equiv}
use Rattle.gs_tree.proofs.Splice.{begins_parts, one_name}
use Rattle.gs_master_state.specs.inner.Held.{AllHidden, ArePlaces, HiddenBehind, IsLedBy, IsPlace, KeepsAll, StandsBy, all_but_last, ends_hidden, is_at, still, without_kept}
use Rattle.gs_master_state.specs.inner.TakingBack.{AreNamesBefore, IsLastPlace}
use Rattle.gs_master_state.specs.declared.undo.Following.TheVariants.{Move}
use Rattle.gs_master_state.specs.declared.undo.MovedNames.{MovedNames}
use Rattle.gs_master_state.specs.declared.undo.NamesBefore.TheVariants.{Moved as MovedTo, Removed as RemovedFrom}
use Rattle.gs_master_state.specs.declared.undo.RemovedNames.{RemovedNames}
use Rattle.gs_master_state.proofs.PlaceSets.{but_last}
use Rattle.gs_master_state.proofs.Holding.{moved_again, same_names}
use Rattle.gs_master_state.proofs.Rooms.{take_next}

-- what stands once the one path is out
pub kept_out : (p : Path) (n : NamesView) (q : Path) → fin.get (without_kept (p ∷ []) n).tree q ≡ cond (same_path q p) None (fin.get n.tree q)
kept_out p n q = fin.get-remove path_total n.tree p q

either_none : {A : Type 0} (b : Bool) (v : Option A) → v ≡ None → cond b None v ≡ None
either_none true v none = refl
either_none false v none = none

-- nothing stands at or under a place, once that is out
out_at : (p r : Path) (m : Plain ℕ) → ((s : Path) → m (p ++ s) ≡ rooted s) → cond (same_path (p ++ r) p) None (m (p ++ r)) ≡ None
out_at p [] m place = ap (λ b. cond b None (m (p ++ []))) (ap (λ q. same_path q p) (append-nil p) ∙ same_itself p)
out_at p (x ∷ r) m place = either_none (same_path (p ++ x ∷ r) p) (m (p ++ x ∷ r)) (place (x ∷ r))

pub closed_is : (p : Path) (n : NamesView) → IsPlace p n → (q : Path) → fin.get (without_kept (p ∷ []) n).tree q ≡ without p (fin.get n.tree) q
closed_is p n place q =
    kept_out p n q ∙ elim (begins p q) as (λ b. begins p q ≡ b → cond (same_path q p) None (fin.get n.tree q) ≡ cond b None (fin.get n.tree q)) [
      | true ↦ λ b. subst (λ (s : Path). cond (same_path s p) None (fin.get n.tree s) ≡ None) (sym (begins_parts p q b)) (out_at p (after p q) (fin.get n.tree) place.1)
      | false ↦ λ b. elim (same_path q p) as (λ d. same_path q p ≡ d → cond d None (fin.get n.tree q) ≡ fin.get n.tree q) [
        | true ↦ λ d. let here : begins p q ≡ true = ap (begins p) (same_path-is q p d ∙ sym (append-nil p)) ∙ begins_append p [] in cc
        | false ↦ λ d. refl
      ] refl
    ] refl

without_some : (p : Path) (m : Plain ℕ) → p ≢ [] → (q : Path) → without_place p m q ≡ without p m q
without_some [] m ne q = absurd (ne refl)
without_some (x ∷ p) m ne q = refl

-- what is given up is out
pub given_up_is : (p : Path) (n new : NamesView) → IsPlace p n → ((q : Path) → fin.get new.tree q ≡ without_place p (fin.get n.tree) q) → new.refs ≡ n.refs → new ≡ without_kept (p ∷ []) n
given_up_is p n new place rows refs = same_names new (without_kept (p ∷ []) n) (λ q. rows q ∙ without_some p (fin.get n.tree) place.0 q ∙ sym (closed_is p n place q)) refs

-- a move that keeps its place is closed by taking that out
pub closed_by : (from to : Path) (n : NamesView) → IsPlace from n → IsClosed (Ok (Moved from to)) n (without_kept (from ∷ []) n)
closed_by from to n place = (closed_is from n place, refl)

beside_some : (from to : Path) (m : Plain ℕ) → is_some (without from m to) ≡ true → begins from to ≡ false
beside_some from to m some = elim (begins from to) as (λ b. is_some (cond b None (m to)) ≡ true → b ≡ false) [ true ↦ λ h. absurd (cc) | false ↦ λ h. refl ] some

there_some : (from to : Path) (m : Plain ℕ) → is_some (without from m to) ≡ true → is_some (m to) ≡ true
there_some from to m some = elim (begins from to) as (λ b. is_some (cond b None (m to)) ≡ true → is_some (m to) ≡ true) [ true ↦ λ h. absurd (cc) | false ↦ λ h. h ] some

-- what goes back to its place stands as it stood
pub moved_home : (from to : Path) (n new stood : NamesView) → IsPlace from n → NamesTakenBack (Tree (Moved from to)) stood (without_kept (from ∷ []) n)
    → ((q : Path) → fin.get new.tree q ≡ returned from to (fin.get n.tree) q) → new.refs ≡ n.refs → new ≡ stood
moved_home from to n new stood place back rows refs =
    same_names new stood
    (λ q. rows q ∙ ap (λ b. cond b (moved to from (without from m) q) (m q)) can ∙ ap (λ (k : Plain ℕ). moved to from k q) (sym closed) ∙ back.tree q)
    (refs ∙ ap (λ o. unwrap_or o stood.refs) back.refs)
  where
    m : Plain ℕ
    m = fin.get n.tree

    closed : fin.get (without_kept (from ∷ []) n).tree ≡ without from m
    closed = λ i q. closed_is from n place q i

    some : is_some (without from m to) ≡ true
    some = ap (λ (k : Plain ℕ). is_some (k to)) (sym closed) ∙ back.fits.0

    here : is_some (m from) ≡ true
    here = ap (λ q. is_some (m q)) (sym (append-nil from)) ∙ ap is_some (place.1 [])

    can : can_return from to m ≡ true
    can = ap (λ b. not b && (not (begins from to) && (is_some (m from) && is_some (m to)))) back.fits.1
        ∙ ap (λ b. not b && (is_some (m from) && is_some (m to))) (beside_some from to m some)
        ∙ ap (λ b. b && is_some (m to)) here ∙ there_some from to m some

-- ---- what is visible

head_of : Name → Path → Name
head_of x [] = x
head_of x (y ∷ p) = y

-- of two names in a directory
beside_path : (par : Path) (k x : Name) → same_path (par ++ k ∷ []) (par ++ x ∷ []) ≡ same_name k x
unfolding head_of
beside_path par k x = elim (same_name k x) as (λ b. same_name k x ≡ b → same_path (par ++ k ∷ []) (par ++ x ∷ []) ≡ b) [
  | true ↦ λ b. ap (λ n. same_path (par ++ k ∷ []) (par ++ n ∷ [])) (sym (one_name k x b)) ∙ same_itself (par ++ k ∷ [])
  | false ↦ λ b. elim (same_path (par ++ k ∷ []) (par ++ x ∷ [])) as (λ d. same_path (par ++ k ∷ []) (par ++ x ∷ []) ≡ d → d ≡ false) [
    | true ↦ λ d. let lasts = sym (last-append par k) ∙ ap last (same_path-is (par ++ k ∷ []) (par ++ x ∷ []) d) ∙ last-append par x in
        let same : k ≡ x = ap (head_of k) lasts in
        let is : same_name k x ≡ true = ap (same_name k) (sym same) ∙ names_equiv.refl k in cc
    | false ↦ λ d. refl
  ] refl
] refl

-- beside the place that is kept
pub visible_beside : (b : Bool) (p path : Path) (x : Name) (n : NamesView) → p ≡ path ++ x ∷ [] → MatchBool b (HasVisibleBut x (part_at path (fin.get n.tree))) (HasVisibleBut x (part_at path (fin.get n.tree)) → ⊥)
    → MatchBool b (HasVisible (part_at path (fin.get (without_kept (p ∷ []) n).tree))) (HasVisible (part_at path (fin.get (without_kept (p ∷ []) n).tree)) → ⊥)
visible_beside b p path x n is h = match_map b _ _ there back h
  where
    out : (k : Name) → fin.get (without_kept (p ∷ []) n).tree (path ++ k ∷ []) ≡ cond (same_name k x) None (fin.get n.tree (path ++ k ∷ []))
    out k = kept_out p n (path ++ k ∷ []) ∙ ap (λ b. cond b None (fin.get n.tree (path ++ k ∷ []))) (ap (same_path (path ++ k ∷ [])) is ∙ beside_path path k x)

    seen_but : (a h : Bool) → (not a && not h) ≡ true → (a ≡ false) × (h ≡ false)
    seen_but true h e = absurd (cc)
    seen_but false true e = absurd (cc)
    seen_but false false e = (refl, refl)

    there : HasVisibleBut x (part_at path (fin.get n.tree)) → HasVisible (part_at path (fin.get (without_kept (p ∷ []) n).tree))
    there (k, (but, some)) =
        let parts = seen_but (same_name k x) (is_hidden k) but in
        (k, (parts.1, ap is_some (out k) ∙ ap (λ b. is_some (cond b None (fin.get n.tree (path ++ k ∷ [])))) parts.0 ∙ some))

    apart : (a : Bool) (v : Option (Entry ℕ)) → is_some (cond a None v) ≡ true → (a ≡ false) × (is_some v ≡ true)
    apart true v h = absurd (cc)
    apart false v h = (refl, h)

    back : HasVisible (part_at path (fin.get (without_kept (p ∷ []) n).tree)) → HasVisibleBut x (part_at path (fin.get n.tree))
    back (k, (seen, some)) =
        let parts = apart (same_name k x) (fin.get n.tree (path ++ k ∷ [])) (sym (ap is_some (out k)) ∙ some) in
        (k, (ap (λ a. not a && not (is_hidden k)) parts.0 ∙ ap not seen, parts.1))

-- and in any other directory
pub visible_elsewhere : (b : Bool) (p path par : Path) (x : Name) (n : NamesView) → p ≡ par ++ x ∷ [] → (par ≡ path → ⊥) → MatchBool b (HasVisible (part_at path (fin.get n.tree))) (HasVisible (part_at path (fin.get n.tree)) → ⊥)
    → MatchBool b (HasVisible (part_at path (fin.get (without_kept (p ∷ []) n).tree))) (HasVisible (part_at path (fin.get (without_kept (p ∷ []) n).tree)) → ⊥)
visible_elsewhere b p path par x n is other h =
    match_map b _ _ (λ (k, (seen, some)). (k, (seen, ap is_some (out k) ∙ some))) (λ (k, (seen, some)). (k, (seen, sym (ap is_some (out k)) ∙ some))) h
  where
    apart : (k : Name) → same_path (path ++ k ∷ []) p ≡ false
    apart k = elim (same_path (path ++ k ∷ []) p) as (λ d. same_path (path ++ k ∷ []) p ≡ d → d ≡ false) [
      | true ↦ λ d. absurd (other (sym (sym (parent-append path k) ∙ ap parent (same_path-is (path ++ k ∷ []) p d ∙ is) ∙ parent-append par x)))
      | false ↦ λ d. refl
    ] refl

    out : (k : Name) → fin.get (without_kept (p ∷ []) n).tree (path ++ k ∷ []) ≡ fin.get n.tree (path ++ k ∷ [])
    out k = kept_out p n (path ++ k ∷ []) ∙ ap (λ b. cond b None (fin.get n.tree (path ++ k ∷ []))) (apart k)

-- ---- several places

either_out : {A : Type 0} (a b : Bool) (v : Option A) → cond b None (cond a None v) ≡ cond (a || b) None v
either_out true true v = refl
either_out true false v = refl
either_out false b v = refl

-- what stands once they are out
pub all_out : (places : List Path) (n : NamesView) (q : Path) → fin.get (without_kept places n).tree q ≡ cond (is_at places q) None (fin.get n.tree q)
all_out [] n q = refl
all_out (p ∷ places) n q =
    all_out places (without_kept (p ∷ []) n) q ∙ ap (λ v. cond (is_at places q) None v) (kept_out p n q) ∙ either_out (same_path q p) (is_at places q) (fin.get n.tree q)

pub same_refs : (places : List Path) (n : NamesView) → (without_kept places n).refs ≡ n.refs
same_refs [] n = refl
same_refs (p ∷ places) n = same_refs places (without_kept (p ∷ []) n)

either_false : (b : Bool) → (b || false) ≡ b
either_false true = refl
either_false false = refl

either_more : (a b c : Bool) → (a || (b || c)) ≡ ((a || b) || c)
either_more true b c = refl
either_more false b c = refl

pub at_last : (places : List Path) (p q : Path) → is_at (places ++ p ∷ []) q ≡ (is_at places q || same_path q p)
at_last [] p q = either_false (same_path q p)
at_last (r ∷ places) p q = ap (λ b. same_path q r || b) (at_last places p q) ∙ either_more (same_path q r) (is_at places q) (same_path q p)

pub places_left : (places : List Path) (p : Path) (n : NamesView) → ArePlaces (places ++ p ∷ []) n → ArePlaces places n × IsPlace p n
places_left [] p n are = (tt, are.0)
places_left (r ∷ places) p n are = let left = places_left places p n are.1 in ((are.0, left.0), left.1)

pub places_and : (places : List Path) (p : Path) (n : NamesView) → ArePlaces places n → IsPlace p n → ArePlaces (places ++ p ∷ []) n
places_and [] p n are is = (is, tt)
places_and (r ∷ places) p n are is = (are.0, places_and places p n are.1 is)

places_take : (k : ℕ) (places : List Path) (n : NamesView) → ArePlaces places n → ArePlaces (take k places) n
places_take zero places n are = tt
places_take (suc k) [] n are = tt
places_take (suc k) (p ∷ places) n are = (are.0, places_take k places n are.1)

-- a place is at no path but its own
other_path : (p q : Path) → begins p q ≡ false → same_path q p ≡ false
other_path p q apart = elim (same_path q p) as (λ d. same_path q p ≡ d → d ≡ false) [
  | true ↦ λ d. let here : begins p q ≡ true = ap (begins p) (same_path-is q p d ∙ sym (append-nil p)) ∙ begins_append p [] in cc
  | false ↦ λ d. refl
] refl

either_none_there : {A : Type 0} (a b : Bool) (v : Option A) → (a ≡ false → v ≡ None) → cond (b || a) None v ≡ None
either_none_there a true v none = refl
either_none_there true false v none = refl
either_none_there false false v none = none refl

-- nothing is seen at or under the last of them
out_last : (places : List Path) (p r : Path) (m : Plain ℕ) → ((s : Path) → m (p ++ s) ≡ rooted s) → cond (is_at places (p ++ r) || same_path (p ++ r) p) None (m (p ++ r)) ≡ None
out_last places p [] m place = either_none_there (same_path (p ++ []) p) (is_at places (p ++ [])) (m (p ++ [])) (λ apart. let here : same_path (p ++ []) p ≡ true = ap (λ q. same_path q p) (append-nil p) ∙ same_itself p in absurd (cc))
out_last places p (x ∷ r) m place = either_none_there (same_path (p ++ x ∷ r) p) (is_at places (p ++ x ∷ r)) (m (p ++ x ∷ r)) (λ _. place (x ∷ r))

-- with one more out
pub one_more_out : (places : List Path) (p : Path) (n : NamesView) → IsPlace p n → (q : Path) → fin.get (without_kept (places ++ p ∷ []) n).tree q ≡ without p (fin.get (without_kept places n).tree) q
one_more_out places p n place q =
    all_out (places ++ p ∷ []) n q ∙ ap (λ b. cond b None (fin.get n.tree q)) (at_last places p q)
    ∙ elim (begins p q) as (λ b. begins p q ≡ b → cond (is_at places q || same_path q p) None (fin.get n.tree q) ≡ cond b None (fin.get (without_kept places n).tree q)) [
      | true ↦ λ b. subst (λ (s : Path). cond (is_at places s || same_path s p) None (fin.get n.tree s) ≡ None) (sym (begins_parts p q b)) (out_last places p (after p q) (fin.get n.tree) place.1)
      | false ↦ λ b. ap (λ d. cond (is_at places q || d) None (fin.get n.tree q)) (other_path p q b) ∙ ap (λ d. cond d None (fin.get n.tree q)) (either_false (is_at places q)) ∙ sym (all_out places n q)
    ] refl

pub give_up_next : (places : List Path) (i : ℕ) (p : Path) (n now new : NamesView) → ArePlaces places n → i < length places → p ≡ get_or places i p → now ≡ without_kept (take i places) n
    → ((q : Path) → fin.get new.tree q ≡ without_place p (fin.get now.tree) q) → new.refs ≡ now.refs → new ≡ without_kept (take (i + 1) places) n
give_up_next places i p n now new are below is so rows refs =
    same_names new (without_kept (take i places ++ p ∷ []) n)
    (λ q. rows q ∙ ap (λ (v : NamesView). without_place p (fin.get v.tree) q) so ∙ without_some p (fin.get (without_kept (take i places) n).tree) place.0 q ∙ sym (one_more_out (take i places) p n place q))
    (refs ∙ ap (λ (v : NamesView). v.refs) so ∙ same_refs (take i places) n ∙ sym (same_refs (take i places ++ p ∷ []) n))
    ∙ ap (λ ps. without_kept ps n) (sym next)
  where
    next : take (i + 1) places ≡ take i places ++ p ∷ []
    next = take_next places i p below is

    place : IsPlace p n
    place = (places_left (take i places) p n (subst (λ ps. ArePlaces ps n) next (places_take (i + 1) places n are))).1

-- where none is kept
pub none_kept : (places : List Path) (n : NamesView) → places ≡ [] → record { names = without_kept places n; places = places } ≡ still n
none_kept places n none = ap (λ ps. record { names = without_kept ps n; places = ps }) none

pub keeps_none : (places : List Path) (spare : Option NamesView) (n seen : NamesView) → places ≡ [] → n ≡ seen → StandsBy spare seen → KeepsAll places n × StandsBy spare (without_kept places n)
keeps_none places spare n seen none same stands = subst (λ ps. KeepsAll ps n × StandsBy spare (without_kept ps n)) (sym none) ((tt, tt), subst (StandsBy spare) (sym same) stands)

-- ---- what stands by

pub not_kept : (places : List Path) (n : NamesView) → places ≡ [] → n ≡ without_kept places n
not_kept places n none = ap (λ ps. without_kept ps n) (sym none)

pub home_from : (places : List Path) (from to : Path) (n new stood now : NamesView) → places ≡ from ∷ [] → ArePlaces places n → without_kept places n ≡ now → NamesTakenBack (Tree (Moved from to)) stood now
    → ((q : Path) → fin.get new.tree q ≡ returned from to (fin.get n.tree) q) → new.refs ≡ n.refs → new ≡ stood
home_from places from to n new stood now is stands seen back rows refs =
    moved_home from to n new stood (subst (λ ps. ArePlaces ps n) is stands).0 (subst (λ v. NamesTakenBack (Tree (Moved from to)) stood v) (sym seen ∙ ap (λ ps. without_kept ps n) is) back) rows refs

pub closed_at : (inverse : TreeInverse) (from to place : Path) (n : NamesView) → inverse ≡ Moved from to → place ≡ from → KeepsPlace inverse (fin.get n.tree) → IsClosed (Ok inverse) n (without_kept (place ∷ []) n)
closed_at inverse from to place n is same keeps =
    subst (λ (i : TreeInverse). IsClosed (Ok i) n (without_kept (place ∷ []) n)) (sym is)
    (subst (λ (p : Path). IsClosed (Ok (Moved from to)) n (without_kept (p ∷ []) n)) (sym same) (closed_by from to n (subst (λ (i : TreeInverse). KeepsPlace i (fin.get n.tree)) is keeps)))

pub place_at : (inverse : TreeInverse) (from to place : Path) (n : NamesView) → inverse ≡ Moved from to → place ≡ from → KeepsPlace inverse (fin.get n.tree) → IsPlace place n
place_at inverse from to place n is same keeps = subst (λ (p : Path). IsPlace p n) (sym same) (subst (λ (i : TreeInverse). KeepsPlace i (fin.get n.tree)) is keeps)

-- a move's place is the only one
pub one_place : (kept : List Path) (inverse : TreeInverse) (from to place : Path) (n : NamesView) → kept ≡ place ∷ [] → inverse ≡ Moved from to → place ≡ from → KeepsPlace inverse (fin.get n.tree) → KeepsAll kept n
one_place kept inverse from to place n one is same keeps = subst (λ ps. KeepsAll ps n) (sym one) ((place_at inverse from to place n is same keeps, tt), tt)

pub closed_in : (kept : List Path) (inverse : TreeInverse) (from to place : Path) (n : NamesView) → kept ≡ place ∷ [] → inverse ≡ Moved from to → place ≡ from → KeepsPlace inverse (fin.get n.tree) → IsClosed (Ok inverse) n (without_kept kept n)
closed_in kept inverse from to place n one is same keeps = subst (λ ps. IsClosed (Ok inverse) n (without_kept ps n)) (sym one) (closed_at inverse from to place n is same keeps)

pub returned_home : (inverse : TreeInverse) (from to : Path) (old n new : NamesView) → inverse ≡ Moved from to → KeepsPlace inverse (fin.get n.tree) → ((after : NamesView) → IsClosed (Ok inverse) n after → NamesTakenBack (Tree inverse) old after)
    → ((q : Path) → fin.get new.tree q ≡ returned from to (fin.get n.tree) q) → new.refs ≡ n.refs → new ≡ old
returned_home inverse from to old n new is keeps back rows refs =
    moved_home from to n new old (place_at inverse from to from n is refl keeps)
    (subst (λ (i : TreeInverse). NamesTakenBack (Tree i) old (without_kept (from ∷ []) n)) is (back (without_kept (from ∷ []) n) (closed_at inverse from to from n is refl keeps))) rows refs

-- what stands where a place that is kept is, and elsewhere
pub status_out : (places : List Path) (n : NamesView) (q : Path) → is_at places q ≡ true → fin.get (without_kept places n).tree q ≡ None
status_out places n q at = all_out places n q ∙ ap (λ b. cond b None (fin.get n.tree q)) at

pub status_in : (places : List Path) (n : NamesView) (q : Path) → is_at places q ≡ false → fin.get (without_kept places n).tree q ≡ fin.get n.tree q
status_in places n q apart = all_out places n q ∙ ap (λ b. cond b None (fin.get n.tree q)) apart

-- what stood by follows a move
pub led_on : (m : MovedNames) (spare stood now : NamesView) (result : Option NamesView) → m.spare ≡ Some spare → AreNamesBefore (MovedTo m) stood now → ((after : NamesView) → IsLedBy (Move m.from m.to) spare after → StandsBy result after) → StandsBy result now
led_on m spare stood now result is before led =
    let same : spare ≡ stood = subst (λ o. StandsBy o stood) is before.1 in
    led now (subst (λ s. IsLedBy (Move m.from m.to) s now) (sym same) (moved_again m.from m.to stood now before.0))

-- ---- names in a row that are the same

pub same_parts : (p q : Path) → true ≡ pointwise same_name p q → p ≡ q
same_parts [] [] e = refl
same_parts [] (y ∷ q) e = absurd (cc)
same_parts (x ∷ p) [] e = absurd (cc)
same_parts (x ∷ p) (y ∷ q) e =
    elim (same_name x y) as (λ b. same_name x y ≡ b → true ≡ (b && pointwise same_name p q) → x ∷ p ≡ y ∷ q) [
      | true ↦ λ b rest i. one_name x y b i ∷ same_parts p q rest i
      | false ↦ λ b rest. absurd (cc)
    ] refl e

each_same : (p : Path) → pointwise same_name p p ≡ true
each_same [] = refl
each_same (x ∷ p) = ap (λ b. b && pointwise same_name p p) (names_equiv.refl x) ∙ each_same p

pub other_parts : (p q : Path) → false ≡ pointwise same_name p q → p ≡ q → ⊥
other_parts p q e is = let same : pointwise same_name p q ≡ true = ap (pointwise same_name p) (sym is) ∙ each_same p in cc

-- ---- places that removals have left are hidden

ends_with : (par : Path) (k : Name) → ends_hidden (par ++ k ∷ []) ≡ is_hidden k
ends_with [] k = refl
ends_with (y ∷ []) k = refl
ends_with (y ∷ z ∷ par) k = ends_with (z ∷ par) k

never_at : (places : List Path) (par : Path) (k : Name) → AllHidden places → is_hidden k ≡ false → is_at places (par ++ k ∷ []) ≡ false
never_at [] par k all seen = refl
never_at (p ∷ places) par k all seen = elim (same_path (par ++ k ∷ []) p) as (λ d. same_path (par ++ k ∷ []) p ≡ d → (d || is_at places (par ++ k ∷ [])) ≡ false) [
  | true ↦ λ d. let hidden : is_hidden k ≡ true = sym (ends_with par k) ∙ ap ends_hidden (same_path-is (par ++ k ∷ []) p d) ∙ all.0 in absurd (cc)
  | false ↦ λ d. never_at places par k all.1 seen
] refl

seen_name : (h : Bool) → not h ≡ true → h ≡ false
seen_name true e = absurd (cc)
seen_name false e = refl

-- so what is visible is so without them
pub visible_still : (b : Bool) (places : List Path) (path : Path) (n : NamesView) → AllHidden places → MatchBool b (HasVisible (part_at path (fin.get n.tree))) (HasVisible (part_at path (fin.get n.tree)) → ⊥)
    → MatchBool b (HasVisible (part_at path (fin.get (without_kept places n).tree))) (HasVisible (part_at path (fin.get (without_kept places n).tree)) → ⊥)
visible_still b places path n all h =
    match_map b _ _ (λ (k, (seen, some)). (k, (seen, ap is_some (same k seen) ∙ some))) (λ (k, (seen, some)). (k, (seen, sym (ap is_some (same k seen)) ∙ some))) h
  where
    same : (k : Name) → is_hidden k ≡ false → fin.get (without_kept places n).tree (path ++ k ∷ []) ≡ fin.get n.tree (path ++ k ∷ [])
    same k seen = status_in places n (path ++ k ∷ []) (never_at places path k all seen)

-- the first place may be that of a move
pub visible_first : (b : Bool) (places : List Path) (p path : Path) (n : NamesView) → slice_get places 0 ≡ Some p → HiddenBehind places → MatchBool b (HasVisible (part_at path (fin.get (without_kept (p ∷ []) n).tree))) (HasVisible (part_at path (fin.get (without_kept (p ∷ []) n).tree)) → ⊥)
    → MatchBool b (HasVisible (part_at path (fin.get (without_kept places n).tree))) (HasVisible (part_at path (fin.get (without_kept places n).tree)) → ⊥)
visible_first b [] p path n first hidden h = absurd (cc)
visible_first b (q ∷ places) p path n first hidden h =
    let same : p ≡ q = cc in
    visible_still b places path (without_kept (q ∷ []) n) hidden (subst (λ r. MatchBool b (HasVisible (part_at path (fin.get (without_kept (r ∷ []) n).tree))) (HasVisible (part_at path (fin.get (without_kept (r ∷ []) n).tree)) → ⊥)) same h)

named_hidden : (x : Name) → is_none (old_name (x ∷ [])) ≡ false → is_hidden x ≡ true
named_hidden x some = elim (is_hidden x) as (λ b. is_hidden x ≡ b → b ≡ true) [
  | true ↦ λ b. refl
  | false ↦ λ b. absurd (let none : is_none (old_name (x ∷ [])) ≡ true = without_parts x b in cc)
] refl
  where
    without_parts : (x : Name) → is_hidden x ≡ false → is_none (old_name (x ∷ [])) ≡ true
    without_parts x b = ap (λ (d : Bool). is_none (option_map (λ (parts : ℕ × ℕ × Name). parts.2) (if d then parts_behind (drop (length hidden_mark) x) else None))) b

-- what has an old name ends in a hidden one
pub hidden_is : (p : Path) → is_none (old_name p) ≡ false → ends_hidden p ≡ true
hidden_is [] some = absurd (cc)
hidden_is (x ∷ []) some = named_hidden x some
hidden_is (x ∷ y ∷ p) some = hidden_is (y ∷ p) some

all_hidden_and : (places : List Path) (p : Path) → AllHidden places → ends_hidden p ≡ true → AllHidden (places ++ p ∷ [])
all_hidden_and [] p all h = (h, tt)
all_hidden_and (r ∷ places) p all h = (all.0, all_hidden_and places p all.1 h)

pub hidden_and : (places : List Path) (p : Path) → HiddenBehind places → ends_hidden p ≡ true → HiddenBehind (places ++ p ∷ [])
hidden_and [] p all h = tt
hidden_and (r ∷ places) p all h = all_hidden_and places p all h

all_hidden_left : (places : List Path) (p : Path) → AllHidden (places ++ p ∷ []) → AllHidden places
all_hidden_left [] p all = tt
all_hidden_left (r ∷ places) p all = (all.0, all_hidden_left places p all.1)

pub hidden_left : (places : List Path) (p : Path) → HiddenBehind (places ++ p ∷ []) → HiddenBehind places
hidden_left [] p all = tt
hidden_left (r ∷ places) p all = all_hidden_left places p all

-- all but the last are those that were kept before it
pub rest_last : (old new : List Path) (path : Path) (last : IsLastPlace old path) → new ≡ all_but_last old → new ≡ last.0
rest_last old new path (others, (is, apart)) rest = rest ∙ ap all_but_last is ∙ but_last others path

-- ---- a removal apart from the places that are kept

either_parts : (a b : Bool) → (a || b) ≡ false → (a ≡ false) × (b ≡ false)
either_parts true b e = absurd (cc)
either_parts false b e = (refl, e)

pub not_any : (test : Path → Bool) (places : List Path) → not (list_any test places) ≡ true → list_any test places ≡ false
not_any test places h = seen_name (list_any test places) h

-- none of them is at or under the path
apart_at : (places : List Path) (path r : Path) → list_any (begins path) places ≡ false → is_at places (path ++ r) ≡ false
apart_at [] path r apart = refl
apart_at (p ∷ places) path r apart =
    let parts = either_parts (begins path p) (list_any (begins path) places) apart in
    elim (same_path (path ++ r) p) as (λ d. same_path (path ++ r) p ≡ d → (d || is_at places (path ++ r)) ≡ false) [
      | true ↦ λ d. let under : begins path p ≡ true = ap (begins path) (sym (same_path-is (path ++ r) p d)) ∙ begins_append path r in absurd (let k = parts.0 in cc)
      | false ↦ λ d. apart_at places path r parts.1
    ] refl

pub apart_under : (places : List Path) (path q : Path) → list_any (begins path) places ≡ false → begins path q ≡ true → is_at places q ≡ false
apart_under places path q apart under = ap (is_at places) (begins_parts path q under) ∙ apart_at places path (after path q) apart

-- so what is seen there is what stands there
pub under_apart : (places : List Path) (path : Path) (n : NamesView) → list_any (begins path) places ≡ false → rows_under path (fin.entries n.tree) ≡ rows_under path (fin.entries (without_kept places n).tree)
under_apart places path n apart = rows_under-same n.tree (without_kept places n).tree path (λ r. sym (status_in places n (path ++ r) (apart_at places path r apart)))

rooted_some : (s : Path) (there : Option (Entry ℕ)) → there ≡ rooted s → is_some there ≡ true → s ≡ []
rooted_some [] there is h = refl
rooted_some (x ∷ s) there is h = absurd (let none : is_some there ≡ false = ap is_some is in cc)

-- nor is it under one of them, if something stands there
not_beneath : (p path : Path) (n : NamesView) → IsPlace p n → is_some (fin.get n.tree path) ≡ true → begins path p ≡ false → begins p path ≡ false
not_beneath p path n place some apart = elim (begins p path) as (λ b. begins p path ≡ b → b ≡ false) [
  | true ↦ λ b.
      let split : path ≡ p ++ after p path = begins_parts p path b in
      let here : after p path ≡ [] = rooted_some (after p path) (fin.get n.tree (p ++ after p path)) (place.1 (after p path)) (ap (λ q. is_some (fin.get n.tree q)) (sym split) ∙ some) in
      let same : path ≡ p = split ∙ ap (λ s. p ++ s) here ∙ append-nil p in
      let under : begins path p ≡ true = ap (λ q. begins q p) same ∙ ap (begins p) (sym (append-nil p)) ∙ begins_append p [] in absurd (cc)
  | false ↦ λ b. refl
] refl

-- so it stays a place whatever is put there
place_stays : (p path : Path) (part : Plain ℕ) (n new : NamesView) → IsPlace p n → is_some (fin.get n.tree path) ≡ true → begins path p ≡ false → ((q : Path) → fin.get new.tree q ≡ with_at path part (fin.get n.tree) q) → IsPlace p new
place_stays p path part n new place some apart now = (place.0, λ r. now (p ++ r) ∙ ap (λ b. cond b (part (after path (p ++ r))) (fin.get n.tree (p ++ r))) (beside r) ∙ place.1 r)
  where
    beside : (r : Path) → begins path (p ++ r) ≡ false
    beside r = elim (begins path (p ++ r)) as (λ b. begins path (p ++ r) ≡ b → b ≡ false) [
      | true ↦ λ b. let k : begins path p ≡ true = begins_either path p r b (not_beneath p path n place some apart) in absurd (cc)
      | false ↦ λ b. refl
    ] refl

pub places_stay : (places : List Path) (path : Path) (part : Plain ℕ) (n new : NamesView) → ArePlaces places n → is_some (fin.get n.tree path) ≡ true → list_any (begins path) places ≡ false → ((q : Path) → fin.get new.tree q ≡ with_at path part (fin.get n.tree) q) → ArePlaces places new
places_stay [] path part n new are some apart now = tt
places_stay (p ∷ places) path part n new are some apart now =
    let parts = either_parts (begins path p) (list_any (begins path) places) apart in
    (place_stays p path part n new are.0 some parts.0 now, places_stay places path part n new are.1 some parts.1 now)

some_of : (v : Option (Entry ℕ)) → is_none v ≡ false → is_some v ≡ true
some_of None h = absurd (cc)
some_of (Some e) h = refl

not_root : (p : Path) → is_none (old_name p) ≡ false → p ≢ []
not_root p some is = let none : is_none (old_name p) ≡ true = ap (λ q. is_none (old_name q)) is in cc

-- What a removal makes of names of which places are kept: it does what it does to those that are seen, and is taken back from
-- there.
pub record IsRemoval (path copy : Path) (places kept : List Path) (n new : NamesView) (node : Rows ℕ) (chunks : List ℕ) : Type 0 where
  pub keeps : KeepsAll kept new
  pub made : renamed (edits.Remove path) (without_kept places n) ≡ Ok (fin.entries (without_kept kept new).tree, (without_kept kept new).refs)
  pub tree : (q : Path) → fin.get (without_kept places n).tree q ≡ with_at copy (at node) (fin.get (without_kept kept new).tree) q
  pub refs : raised_each (without_kept kept new).refs chunks ≡ Ok (without_kept places n).refs
  pub before : places ≡ all_but_last kept
  pub last : IsLastPlace kept copy

removal : (path : Path) (places : List Path) (n new : NamesView) (node : Rows ℕ) (chunks : List ℕ) → KeepsAll places n → list_any (begins path) places ≡ false → TakesOut path n node chunks new → IsRemoval path path places (places ++ path ∷ []) n new node chunks
removal path places n new node chunks keeps apart out = record {
  keeps = (places_and places path new (places_stay places path rooted n new keeps.0 some apart out.tree.now) place, hidden_and places path keeps.1 (hidden_is path out.tree.hidden));
  made = remove_applies path (Removed path node) seen.tree left.tree seen.refs left.refs chunks (sym out.part ∙ sym (chunks_under-part seen.tree path node part))
      (ap (λ (c : Counts). lowered_each c chunks) (same_refs places n) ∙ out.lowered ∙ ap (λ (c : Counts). Ok c) (sym (same_refs (places ++ path ∷ []) new)))
      (subst (λ (r : Result (Plain ℕ) Refusal). FollowsPlain {I = TreeInverse} r (Ok (Removed path node)) (fin.get seen.tree) (fin.get left.tree)) (sym (remove-is (fin.get seen.tree) path out.tree.hidden stood)) gone);
  tree = λ q. elim (begins path q) as (λ b. begins path q ≡ b → fin.get seen.tree q ≡ cond b (at node (after path q)) (fin.get left.tree q)) [
    | true ↦ λ b. ap (fin.get seen.tree) (begins_parts path q b) ∙ part (after path q)
    | false ↦ λ b. sym (gone q ∙ ap (λ d. cond d None (fin.get seen.tree q)) b)
  ] refl;
  refs = ap (λ (c : Counts). raised_each c chunks) (same_refs (places ++ path ∷ []) new) ∙ out.raised ∙ ap (λ (c : Counts). Ok c) (sym (same_refs places n));
  before = sym (but_last places path);
  last = (places, (refl, apart));
}
  where
    seen : NamesView
    seen = without_kept places n

    left : NamesView
    left = without_kept (places ++ path ∷ []) new

    some : is_some (fin.get n.tree path) ≡ true
    some = some_of (fin.get n.tree path) out.tree.stood

    place : IsPlace path new
    place = (not_root path out.tree.hidden, λ r. out.tree.now (path ++ r) ∙ with_at-append path rooted (fin.get n.tree) r)

    here : (r : Path) → fin.get seen.tree (path ++ r) ≡ fin.get n.tree (path ++ r)
    here r = status_in places n (path ++ r) (apart_at places path r apart)

    stood : is_none (fin.get seen.tree path) ≡ false
    stood = ap (λ q. is_none (fin.get seen.tree q)) (sym (append-nil path)) ∙ ap is_none (here []) ∙ ap (λ q. is_none (fin.get n.tree q)) (append-nil path) ∙ out.tree.stood

    part : (r : Path) → fin.get seen.tree (path ++ r) ≡ at node r
    part r = here r ∙ out.tree.part r

    gone : (q : Path) → fin.get left.tree q ≡ without path (fin.get seen.tree) q
    gone q = one_more_out places path new place q ∙ elim (begins path q) as (λ b. begins path q ≡ b → cond b None (fin.get (without_kept places new).tree q) ≡ cond b None (fin.get seen.tree q)) [
      | true ↦ λ b. refl
      | false ↦ λ b. all_out places new q ∙ ap (λ v. cond (is_at places q) None v) (out.tree.now q ∙ ap (λ d. cond d (rooted (after path q)) (fin.get n.tree q)) b) ∙ sym (all_out places n q)
    ] refl

pub removal_made : (path copy place : Path) (places kept : List Path) (n new : NamesView) (node : Rows ℕ) (chunks : List ℕ) → copy ≡ path → place ≡ path → kept ≡ places ++ place ∷ [] → KeepsAll places n → list_any (begins path) places ≡ false → TakesOut copy n node chunks new
    → IsRemoval path copy places kept n new node chunks
removal_made path copy place places kept n new node chunks same also is keeps apart out =
    subst (λ ps. IsRemoval path copy places ps n new node chunks) (sym is)
    (subst (λ s. IsRemoval path copy places (places ++ s ∷ []) n new node chunks) (same ∙ sym also)
    (subst (λ p. list_any (begins p) places ≡ false → IsRemoval p copy places (places ++ copy ∷ []) n new node chunks) same (λ a. removal copy places n new node chunks keeps a out) apart))

-- what was removed is put back in its place
pub put_home : (path : Path) (others : List Path) (node : Rows ℕ) (n new : NamesView) → ArePlaces (others ++ path ∷ []) n → list_any (begins path) others ≡ false → ((q : Path) → fin.get new.tree q ≡ put_back path (at node) (fin.get n.tree) q)
    → ArePlaces others new × ((q : Path) → fin.get (without_kept others new).tree q ≡ with_at path (at node) (fin.get (without_kept (others ++ path ∷ []) n).tree) q)
put_home path others node n new are apart rows = (places_stay others path (at node) n new left.0 some apart now, seen)
  where
    left : ArePlaces others n × IsPlace path n
    left = places_left others path n are

    some : is_some (fin.get n.tree path) ≡ true
    some = ap (λ q. is_some (fin.get n.tree q)) (sym (append-nil path)) ∙ ap is_some (left.1.1 [])

    by_path : (p : Path) → p ≢ [] → is_some (fin.get n.tree p) ≡ true → (q : Path) → put_back p (at node) (fin.get n.tree) q ≡ with_at p (at node) (fin.get n.tree) q
    by_path [] ne there q = absurd (ne refl)
    by_path (x ∷ p) ne there q = ap (λ b. cond b (with_at (x ∷ p) (at node) (fin.get n.tree) q) (fin.get n.tree q)) there

    now : (q : Path) → fin.get new.tree q ≡ with_at path (at node) (fin.get n.tree) q
    now q = rows q ∙ by_path path left.1.0 some q

    seen : (q : Path) → fin.get (without_kept others new).tree q ≡ with_at path (at node) (fin.get (without_kept (others ++ path ∷ []) n).tree) q
    seen q = all_out others new q ∙ ap (λ v. cond (is_at others q) None v) (now q) ∙ elim (begins path q) as (λ b. begins path q ≡ b → cond (is_at others q) None (cond b (at node (after path q)) (fin.get n.tree q)) ≡ cond b (at node (after path q)) (fin.get (without_kept (others ++ path ∷ []) n).tree q)) [
      | true ↦ λ b. ap (λ d. cond d None (at node (after path q))) (apart_under others path q apart b)
      | false ↦ λ b. sym (all_out others n q) ∙ sym (one_more_out others path n left.1 q ∙ ap (λ d. cond d None (fin.get (without_kept others n).tree q)) b)
    ] refl

pub stood_again : (removed : RemovedNames) (others : List Path) (n new stood : NamesView) → ArePlaces (others ++ removed.path ∷ []) n → list_any (begins removed.path) others ≡ false → ((q : Path) → fin.get new.tree q ≡ put_back removed.path (at removed.out.node) (fin.get n.tree) q)
    → ((counts : Counts) → raised_each n.refs removed.out.chunks.items ≡ Ok counts → new.refs ≡ counts) → AreNamesBefore (RemovedFrom removed) stood (without_kept (others ++ removed.path ∷ []) n) → without_kept others new ≡ stood
stood_again removed others n new stood are apart rows refs before =
    let home = put_home removed.path others removed.out.node n new are apart rows in
    same_names (without_kept others new) stood (λ q. home.1 q ∙ sym (before.0 q))
    (same_refs others new ∙ refs stood.refs (ap (λ (c : Counts). raised_each c removed.out.chunks.items) (sym (same_refs (others ++ removed.path ∷ []) n)) ∙ before.1))
