-- A tree, or a part of one, built of rows level by level.
use Rattle.std.proofs.Common.{◌≡◌, ◌≢◌, ◌≤◌, ◌<◌, ◌+◌, ◌&&◌, ◌||◌, inl, inr, ◌++◌, ◌⊎◌, ℕ, Bool, true, false, not, cond, [], ◌∷◌, length, refl, sym, ap, ◌∙◌, append_assoc, append-nil, arith, length-append}
use Rattle.std.proofs.lemmas.List.{append_cancel_left}
use Rattle.std.proofs.lemmas.Bool.Decides.{nat_tests}
use Rattle.std.proofs.lemmas.Bool.{eqb-true, eqb-false, le-leb, lt-ltb, leb-true, ltb-true}
use Rattle.std.specs.Prelude.{Option, Some, None, Result, Ok, Err, IfOk, IfErr, is_none, ◌==◌, nat_lt, nat_le}
use Rattle.std.specs.Option.{option_or}
use Rattle.std.specs.List.{list_all}
use Rattle.std.specs.declared.cmp.Ordering.{Ordering}
use Rattle.std.specs.declared.cmp.Ordering.TheVariants.{Less, Equal, Greater}
use Rattle.std.specs.Ordering.{is_lt}
use Rattle.std.specs.FinMap.{FinMap, get, same_map}
use Rattle.gs_path.specs.Path.{Path, path_cmp, path_total, begins}
use Rattle.gs_tree.specs.Entry.{Entry}
use Rattle.gs_tree.specs.Plain.{Plain, Same, IsFree, after, with_at, part_at}
use Rattle.gs_tree.specs.Find.{Rows, at}
use Rattle.gs_tree.specs.Edits.{same_path, is_dir, parent, with_entry}
use Rattle.gs_base.specs.declared.refusal.Refusal.{Refusal}
use Rattle.gs_base.specs.declared.refusal.Refusal.TheVariants.{Memory}
use Rattle.gs_tree.specs.Build.{Builds, rooted_rows, all_apart, is_short, has_place, is_part, is_tree, is_inside, goes_deeper}
use Rattle.gs_tree.specs.inner.Building.{has_parent, fits_level, IsFilled, IsFreeBelow}
use Rattle.gs_tree.proofs.Rows.{at-append}
use Rattle.gs_tree.proofs.Depths.{paths_antisymmetric}
use Rattle.gs_tree.proofs.Splice.{begins_parts}
use Rattle.gs_tree.proofs.Laws.{begins_append}
use Rattle.gs_tree.proofs.Moves.{parent-shorter, is_dir_some}
use Rattle.gs_tree.proofs.Chunks.{same_itself}
use Rattle.gs_tree.proofs.Reaching.{same_path-is}

pub less : (o : Ordering) → is_lt o ≡ true → o ≡ Less
less Less h = refl
less Equal h = absurd (cc)
less Greater h = absurd (cc)

pub left_true : (a b : Bool) → (a && b) ≡ true → a ≡ true
left_true true b h = refl
left_true false b h = absurd (cc)

pub right_true : (a b : Bool) → (a && b) ≡ true → b ≡ true
right_true true b h = h
right_true false b h = absurd (cc)

pub behind_some : (last p : Path) → path_cmp last p ≡ Less → p ≢ []
behind_some [] p h e = absurd (let k : path_cmp [] p ≡ Equal = ap (path_cmp []) e in cc)
behind_some (x ∷ last) p h e = absurd (let k : path_cmp (x ∷ last) p ≡ Greater = ap (path_cmp (x ∷ last)) e in cc)

pub both_true : (a b : Bool) → a ≡ true → b ≡ true → (a && b) ≡ true
both_true true b h g = g
both_true false b h g = absurd (cc)

-- a test that can't be true is false
pub never : (b : Bool) → (b ≡ true → ⊥) → b ≡ false
never true h = absurd (h refl)
never false h = refl

pub no_one : (v : Option (Entry ℕ)) → is_none v ≡ true → v ≡ None
no_one None h = refl
no_one (Some e) h = absurd (cc)

pub tail_none : (b : Bool) (e : Entry ℕ) (v : Option (Entry ℕ)) → cond b (Some e) v ≡ None → (b ≡ false) × (v ≡ None)
tail_none true e v h = absurd (cc)
tail_none false e v h = (refl, h)

pub apart_lengths : (p q : Path) → (length p ≡ length q → ⊥) → same_path p q ≡ false
apart_lengths p q h = never (same_path p q) (λ s. h (ap length (same_path-is p q s)))

-- whether a row stands last of those of its path
pub fits_more : (passes : Path → Bool) (n : ℕ) (done : Rows ℕ) (x : Path × Entry ℕ) → fits_level passes n done ≡ true → (length x.0 ≡ n → (at done x.0 ≡ None) × (passes x.0 ≡ true)) → fits_level passes n (done ++ x ∷ []) ≡ true
fits_more passes n [] x h ok = one (length x.0 == n) refl
  where
    one : (b : Bool) → (length x.0 == n) ≡ b → ((not b || passes x.0) && true) ≡ true
    one true is = ap (λ c. c && true) (ok (eqb-true (length x.0) n is)).1
    one false is = refl
fits_more passes n (r ∷ done) x h ok =
    both_true (not (length r.0 == n) || (is_none (at (done ++ x ∷ []) r.0) && passes r.0)) (fits_level passes n (done ++ x ∷ [])) (head (length r.0 == n) refl front) (fits_more passes n done x rest (λ l. ((tail_none (same_path x.0 r.0) r.1 (at done x.0) (ok l).0).1, (ok l).1)))
  where
    front : (not (length r.0 == n) || (is_none (at done r.0) && passes r.0)) ≡ true
    front = left_true (not (length r.0 == n) || (is_none (at done r.0) && passes r.0)) (fits_level passes n done) h

    rest : fits_level passes n done ≡ true
    rest = right_true (not (length r.0 == n) || (is_none (at done r.0) && passes r.0)) (fits_level passes n done) h

    other : length r.0 ≡ n → same_path r.0 x.0 ≡ false
    other l = never (same_path r.0 x.0) (λ s.
        let is : r.0 ≡ x.0 = same_path-is r.0 x.0 s in
        let t : same_path x.0 r.0 ≡ true = ap (λ p. same_path p r.0) (sym is) ∙ same_itself r.0 in
        let f : same_path x.0 r.0 ≡ false = (tail_none (same_path x.0 r.0) r.1 (at done x.0) (ok (ap length (sym is) ∙ l)).0).0 in cc)

    gone : length r.0 ≡ n → at done r.0 ≡ None → is_none (at (done ++ x ∷ []) r.0) ≡ true
    gone l none = ap is_none (at-append r.0 done (x ∷ []) ∙ ap (λ v. option_or v (at (x ∷ []) r.0)) none ∙ ap (λ b. cond b (Some x.1) None) (other l))

    head : (b : Bool) → (length r.0 == n) ≡ b → (not b || (is_none (at done r.0) && passes r.0)) ≡ true → (not b || (is_none (at (done ++ x ∷ []) r.0) && passes r.0)) ≡ true
    head true is g =
        both_true (is_none (at (done ++ x ∷ []) r.0)) (passes r.0) (gone (eqb-true (length r.0) n is) (no_one (at done r.0) (left_true (is_none (at done r.0)) (passes r.0) g))) (right_true (is_none (at done r.0)) (passes r.0) g)
    head false is g = refl

stands_in : (done : Rows ℕ) (x : Path × Entry ℕ) (left : Rows ℕ) → is_none (at (done ++ x ∷ left) x.0) ≡ false
stands_in done x left =
    ap is_none (at-append x.0 done (x ∷ left) ∙ ap (λ b. option_or (at done x.0) (cond b (Some x.1) (at left x.0))) (same_itself x.0)) ∙ each (at done x.0)
  where
    each : (v : Option (Entry ℕ)) → is_none (option_or v (Some x.1)) ≡ false
    each None = refl
    each (Some e) = refl

-- where no path stands twice, none of those before has a row's path
pub apart_front : (done : Rows ℕ) (x : Path × Entry ℕ) (left : Rows ℕ) → all_apart (done ++ x ∷ left) ≡ true → at done x.0 ≡ None
apart_front [] x left h = refl
apart_front (r ∷ done) x left h = each (apart_front done x left) (same_path x.0 r.0) refl
  where
    gone : is_none (at (done ++ x ∷ left) r.0) ≡ true
    gone = left_true (is_none (at (done ++ x ∷ left) r.0)) (all_apart (done ++ x ∷ left)) h

    each : (all_apart (done ++ x ∷ left) ≡ true → at done x.0 ≡ None) → (b : Bool) → same_path x.0 r.0 ≡ b → cond b (Some r.1) (at done x.0) ≡ None
    each rest true is =
        let stands : is_none (at (done ++ x ∷ left) r.0) ≡ false = ap (λ p. is_none (at (done ++ x ∷ left) p)) (sym (same_path-is x.0 r.0 is)) ∙ stands_in done x left in absurd (cc)
    each rest false is = rest (right_true (is_none (at (done ++ x ∷ left) r.0)) (all_apart (done ++ x ∷ left)) h)

-- what is grafted at a free place is one more entry
pub grafted_free : (m : Plain ℕ) (p : Path) (e : Entry ℕ) → IsFree m p → (q : Path) → with_at p (at (([], e) ∷ [])) m q ≡ with_entry p e m q
grafted_free m p e free q =
    elim (begins p q) as (λ b. begins p q ≡ b → cond b (at (([], e) ∷ []) (after p q)) (m q) ≡ cond (same_path p q) (Some e) (m q)) [
      | true ↦ λ b. front (after p q) (begins_parts p q b)
      | false ↦ λ b. sym (ap (λ s. cond s (Some e) (m q)) (never (same_path p q) (λ s. let k : begins p q ≡ true = ap (begins p) (sym (same_path-is p q s)) ∙ ap (begins p) (sym (append-nil p)) ∙ begins_append p [] in cc)))
    ] refl
  where
    front : (r : Path) → q ≡ p ++ r → at (([], e) ∷ []) r ≡ cond (same_path p q) (Some e) (m q)
    front [] is = sym (ap (λ s. cond s (Some e) (m q)) (ap (same_path p) (is ∙ append-nil p) ∙ same_itself p))
    front (x ∷ r) is =
        let longer : length p ≡ length q → ⊥ = λ l. let k = ap length is ∙ length-append p (x ∷ r) in omega arith in
        sym (ap (λ s. cond s (Some e) (m q)) (apart_lengths p q longer) ∙ ap m is ∙ free (x ∷ r))

pub parent_under : (p q : Path) → q ≢ [] → parent (p ++ q) ≡ p ++ parent q
parent_under [] q ne = refl
parent_under (x ∷ []) [] ne = absurd (ne refl)
parent_under (x ∷ []) (y ∷ q) ne = refl
parent_under (x ∷ y ∷ p) q ne = ap (λ l. x ∷ l) (parent_under (y ∷ p) q ne)

-- Of rows below t's path, those of at most k elements stand, and of those of one more element the rows before those that are
-- left.
pub record Filling (t : Path × Entry ℕ) (all left : Rows ℕ) (k : ℕ) (m : Plain ℕ) : Type 0 where
  pub done : Rows ℕ
  pub split : all ≡ done ++ left
  pub start : length t.0 ≤ k
  pub upper : (q : Path) → length (t.0 ++ q) ≤ k → m q ≡ at (t ∷ all) (t.0 ++ q)
  pub level : (q : Path) → length (t.0 ++ q) ≡ k + 1 → m q ≡ at done (t.0 ++ q)
  pub lower : (q : Path) → k + 1 < length (t.0 ++ q) → m q ≡ None
  pub levels : (n : ℕ) → length t.0 < n → n ≤ k → fits_level (has_parent t.0 (at (t ∷ all))) n all ≡ true
  pub fits : fits_level (has_parent t.0 (at (t ∷ all))) (k + 1) done ≡ true

-- a row of another length is passed over
pub filling_skip : (t x : Path × Entry ℕ) (all left : Rows ℕ) (k : ℕ) (m : Plain ℕ) → Filling t all (x ∷ left) k m → (length x.0 == k + 1) ≡ false → Filling t all left k m
filling_skip t x all left k m h other = record {
  done = h.done ++ x ∷ [];
  split = h.split ∙ sym (append_assoc h.done (x ∷ []) left);
  start = h.start;
  upper = h.upper;
  level = λ q l. h.level q l ∙ sym (at-append (t.0 ++ q) h.done (x ∷ []) ∙ ap (λ b. option_or (at h.done (t.0 ++ q)) (cond b (Some x.1) None)) (apart_lengths (t.0 ++ q) x.0 (λ s. eqb-false (length x.0) (k + 1) other (sym s ∙ l))) ∙ or_none (at h.done (t.0 ++ q)));
  lower = h.lower;
  levels = h.levels;
  fits = fits_more (has_parent t.0 (at (t ∷ all))) (k + 1) h.done x h.fits (λ l. absurd (eqb-false (length x.0) (k + 1) other l));
}
  where
    or_none : (v : Option (Entry ℕ)) → option_or v None ≡ v
    or_none None = refl
    or_none (Some e) = refl

-- a row of the length is added
pub filling_more : (t x : Path × Entry ℕ) (all left : Rows ℕ) (k : ℕ) (m new : Plain ℕ) (q : Path) → Filling t all (x ∷ left) k m → (length x.0 == k + 1) ≡ true → IsFreeBelow m t.0 x.0 q → Same new (with_entry q x.1 m) → Filling t all left k new
filling_more t x all left k m new q h is free same = record {
  done = h.done ++ x ∷ [];
  split = h.split ∙ sym (append_assoc h.done (x ∷ []) left);
  start = h.start;
  upper = λ p l. other p (λ s. let n = ap length (ap (λ r. t.0 ++ r) (sym s)) ∙ ap length (sym free.path) ∙ len in omega arith) ∙ h.upper p l;
  level = λ p l. same p ∙ step p l (same_path q p) refl;
  lower = λ p l. other p (λ s. let n = ap length (ap (λ r. t.0 ++ r) (sym s)) ∙ ap length (sym free.path) ∙ len in omega arith) ∙ h.lower p l;
  levels = h.levels;
  fits = fits_more (has_parent t.0 (at (t ∷ all))) (k + 1) h.done x h.fits (λ l. (gone, both_true (begins t.0 x.0) (is_dir (at (t ∷ all) (parent x.0))) (ap (begins t.0) free.path ∙ begins_append t.0 q) above));
}
  where
    len : length x.0 ≡ k + 1
    len = eqb-true (length x.0) (k + 1) is

    under : length (t.0 ++ q) ≡ k + 1
    under = ap length (sym free.path) ∙ len

    other : (p : Path) → (q ≡ p → ⊥) → new p ≡ m p
    other p ne = same p ∙ ap (λ b. cond b (Some x.1) (m p)) (never (same_path q p) (λ s. ne (same_path-is q p s)))

    gone : at h.done x.0 ≡ None
    gone = ap (at h.done) free.path ∙ sym (h.level q under) ∙ free.free

    above : is_dir (at (t ∷ all) (parent x.0)) ≡ true
    above =
        let shorter = parent-shorter q free.below in
        let one = length-append t.0 q in
        let two = length-append t.0 (parent q) in
        let small : length (t.0 ++ parent q) ≤ k = omega (arith, under) in
        ap (λ p. is_dir (at (t ∷ all) (parent p))) free.path ∙ ap (λ p. is_dir (at (t ∷ all) p)) (parent_under t.0 q free.below) ∙ ap is_dir (sym (h.upper (parent q) small) ∙ free.dir)

    step : (p : Path) → length (t.0 ++ p) ≡ k + 1 → (b : Bool) → same_path q p ≡ b → cond b (Some x.1) (m p) ≡ at (h.done ++ x ∷ []) (t.0 ++ p)
    step p l true s =
        let e : t.0 ++ p ≡ x.0 = ap (λ r. t.0 ++ r) (sym (same_path-is q p s)) ∙ sym free.path in
        sym (ap (at (h.done ++ x ∷ [])) e ∙ at-append x.0 h.done (x ∷ []) ∙ ap (λ v. option_or v (at (x ∷ []) x.0)) gone ∙ ap (λ b. cond b (Some x.1) None) (same_itself x.0))
    step p l false s =
        let apart : same_path (t.0 ++ p) x.0 ≡ false = never (same_path (t.0 ++ p) x.0) (λ g. let e : p ≡ q = append_cancel_left t.0 p q (same_path-is (t.0 ++ p) x.0 g ∙ free.path) in let k : same_path q p ≡ true = ap (same_path q) e ∙ same_itself q in cc) in
        h.level p l ∙ sym (at-append (t.0 ++ p) h.done (x ∷ []) ∙ ap (λ b. option_or (at h.done (t.0 ++ p)) (cond b (Some x.1) None)) apart ∙ or_none (at h.done (t.0 ++ p)))
      where
        or_none : (v : Option (Entry ℕ)) → option_or v None ≡ v
        or_none None = refl
        or_none (Some e) = refl

all_at : (f : Path × Entry ℕ → Bool) (a : Rows ℕ) (r : Path × Entry ℕ) (b : Rows ℕ) → list_all f (a ++ r ∷ b) ≡ true → f r ≡ true
all_at f [] r b h = left_true (f r) (list_all f b) h
all_at f (x ∷ a) r b h = all_at f a r b (right_true (f x) (list_all f (a ++ r ∷ b)) h)

-- what a part of a tree says
pub record Parts (t : Path × Entry ℕ) (all : Rows ℕ) : Type 0 where
  pub short : is_short t.0 ≡ true
  pub top : at all t.0 ≡ None
  pub apart : all_apart all ≡ true
  pub places : list_all (λ r. begins t.0 r.0 && has_place (at (t ∷ all)) r.0) all ≡ true

pub parts_of : (t : Path × Entry ℕ) (all : Rows ℕ) → is_part t all ≡ true → Parts t all
parts_of t all h =
    let places = list_all (λ r. begins t.0 r.0 && has_place (at (t ∷ all)) r.0) all in
    let rest = right_true (is_short t.0) (all_apart (t ∷ all) && places) h in
    let apart = left_true (all_apart (t ∷ all)) places rest in record {
      short = left_true (is_short t.0) (all_apart (t ∷ all) && places) h;
      top = no_one (at all t.0) (left_true (is_none (at all t.0)) (all_apart all) apart);
      apart = right_true (is_none (at all t.0)) (all_apart all) apart;
      places = right_true (all_apart (t ∷ all)) places rest;
    }

-- where a row's place isn't free under a directory, the rows aren't such a part
pub filling_refused : (t x : Path × Entry ℕ) (all left : Rows ℕ) (k : ℕ) (m : Plain ℕ) → Filling t all (x ∷ left) k m → (length x.0 == k + 1) ≡ true → ((q : Path) → IsFreeBelow m t.0 x.0 q → ⊥) → is_part t all ≡ false
filling_refused t x all left k m h is bad = never (is_part t all) (λ whole. each (parts_of t all whole))
  where
    len : length x.0 ≡ k + 1
    len = eqb-true (length x.0) (k + 1) is

    each : Parts t all → ⊥
    each parts =
        let place : (begins t.0 x.0 && has_place (at (t ∷ all)) x.0) ≡ true = all_at (λ r. begins t.0 r.0 && has_place (at (t ∷ all)) r.0) h.done x left (ap (list_all (λ r. begins t.0 r.0 && has_place (at (t ∷ all)) r.0)) (sym h.split) ∙ parts.places) in
        let has = right_true (begins t.0 x.0) (has_place (at (t ∷ all)) x.0) place in
        let path : x.0 ≡ t.0 ++ after t.0 x.0 = begins_parts t.0 x.0 (left_true (begins t.0 x.0) (has_place (at (t ∷ all)) x.0) place) in
        let total = ap length path ∙ length-append t.0 (after t.0 x.0) in
        let start = h.start in
        let some : after t.0 x.0 ≢ [] = λ e. let z = ap length e in omega (arith, len) in
        let under : length (t.0 ++ after t.0 x.0) ≡ k + 1 = ap length (sym path) ∙ len in
        let shorter = parent-shorter (after t.0 x.0) some in
        let two = length-append t.0 (parent (after t.0 x.0)) in
        let small : length (t.0 ++ parent (after t.0 x.0)) ≤ k = omega (arith, len) in
        bad (after t.0 x.0) (record {
          path = path;
          below = some;
          free = h.level (after t.0 x.0) under ∙ ap (at h.done) (sym path) ∙ apart_front h.done x left (ap all_apart (sym h.split) ∙ parts.apart);
          dir = h.upper (parent (after t.0 x.0)) small ∙ ap (at (t ∷ all)) (sym (parent_under t.0 (after t.0 x.0) some) ∙ ap parent (sym path)) ∙ is_dir_some (at (t ∷ all) (parent x.0)) (right_true (is_short x.0) (is_dir (at (t ∷ all) (parent x.0))) has);
        })

-- all rows of the length stand
pub filling_all : (t : Path × Entry ℕ) (all : Rows ℕ) (k : ℕ) (m : Plain ℕ) → Filling t all [] k m → IsFilled t all (k + 1) m
filling_all t all k m h = record {
  start = let s = h.start in omega arith;
  upper = λ q l. upper q l;
  lower = h.lower;
  levels = λ n less l. levels n less l;
}
  where
    whole : all ≡ h.done
    whole = h.split ∙ append-nil h.done

    low_or : (a b : ℕ) → a ≤ b + 1 → (a ≤ b) ⊎ (a ≡ b + 1)
    low_or a b l = first_or (nat_le a b) refl
      where
        first_or : (c : Bool) → nat_le a b ≡ c → (a ≤ b) ⊎ (a ≡ b + 1)
        first_or true s = inl (leb-true a b s)
        first_or false s = inr (let f : a ≤ b → ⊥ = λ g. let k : nat_le a b ≡ true = le-leb a b g in cc in omega arith)

    upper : (q : Path) → length (t.0 ++ q) ≤ k + 1 → m q ≡ at (t ∷ all) (t.0 ++ q)
    upper q l = elim (low_or (length (t.0 ++ q)) k l) [
      | inl less ↦ h.upper q less
      | inr last ↦ h.level q last ∙ ap (λ rows. at rows (t.0 ++ q)) (sym whole) ∙ sym (ap (λ b. cond b (Some t.1) (at all (t.0 ++ q))) (apart_lengths (t.0 ++ q) t.0 (λ s. let st = h.start in omega arith)))
    ]

    levels : (n : ℕ) → length t.0 < n → n ≤ k + 1 → fits_level (has_parent t.0 (at (t ∷ all))) n all ≡ true
    levels n more l = elim (low_or n k l) [
      | inl less ↦ h.levels n more less
      | inr last ↦ ap (λ j. fits_level (has_parent t.0 (at (t ∷ all))) j all) last ∙ ap (fits_level (has_parent t.0 (at (t ∷ all))) (k + 1)) whole ∙ h.fits
    ]

-- nothing but the root stands
pub filled_none : (t : Path × Entry ℕ) (all : Rows ℕ) (m : Plain ℕ) → list_all (λ r. is_inside (length t.0) r.0) all ≡ true → Same m (at (([], t.1) ∷ [])) → IsFilled t all (length t.0) m
filled_none t all m inside same = record {
  start = omega arith;
  upper = λ q l. same q ∙ upper q l;
  lower = λ q l. same q ∙ lower q l;
  levels = λ n more l. absurd (omega arith);
}
  where
    upper : (q : Path) → length (t.0 ++ q) ≤ length t.0 → at (([], t.1) ∷ []) q ≡ at (t ∷ all) (t.0 ++ q)
    upper [] l = sym (ap (λ b. cond b (Some t.1) (at all (t.0 ++ []))) (ap (λ p. same_path p t.0) (append-nil t.0) ∙ same_itself t.0))
    upper (x ∷ q) l = absurd (let n = length-append t.0 (x ∷ q) in omega arith)

    lower : (q : Path) → length t.0 < length (t.0 ++ q) → at (([], t.1) ∷ []) q ≡ None
    lower [] l = absurd (let n = ap length (append-nil t.0) in omega arith)
    lower (x ∷ q) l = refl

-- nothing stands at a path that is longer than all rows', or not longer than what all rows' are longer than
pub at_longer : (n : ℕ) (rows : Rows ℕ) (p : Path) → list_all (λ r. nat_le (length r.0) n) rows ≡ true → n < length p → at rows p ≡ None
at_longer n [] p all more = refl
at_longer n (r ∷ rows) p all more =
    let front = leb-true (length r.0) n (left_true (nat_le (length r.0) n) (list_all (λ s. nat_le (length s.0) n) rows) all) in
    ap (λ b. cond b (Some r.1) (at rows p)) (apart_lengths p r.0 (λ l. omega arith)) ∙ at_longer n rows p (right_true (nat_le (length r.0) n) (list_all (λ s. nat_le (length s.0) n) rows) all) more

pub at_shorter : (n : ℕ) (rows : Rows ℕ) (p : Path) → list_all (λ r. is_inside n r.0) rows ≡ true → length p ≤ n → at rows p ≡ None
at_shorter n [] p all less = refl
at_shorter n (r ∷ rows) p all less =
    let front = ltb-true n (length r.0) (left_true (nat_lt n (length r.0)) (is_short r.0) (left_true (is_inside n r.0) (list_all (λ s. is_inside n s.0) rows) all)) in
    ap (λ b. cond b (Some r.1) (at rows p)) (apart_lengths p r.0 (λ l. omega arith)) ∙ at_shorter n rows p (right_true (is_inside n r.0) (list_all (λ s. is_inside n s.0) rows) all) less

-- rows of which each length fits
pub level_rows : (t : Path × Entry ℕ) (m : Plain ℕ) (n : ℕ) (rows : Rows ℕ) → list_all (λ r. is_inside (length t.0) r.0) rows ≡ true → list_all (λ r. nat_le (length r.0) n) rows ≡ true → ((j : ℕ) → length t.0 < j → j ≤ n → fits_level (has_parent t.0 m) j rows ≡ true) → (all_apart rows ≡ true) × (list_all (λ r. begins t.0 r.0 && has_place m r.0) rows ≡ true)
level_rows t m n [] inside most levels = (refl, refl)
level_rows t m n (r ∷ rows) inside most levels =
    let rest =
    level_rows t m n rows (right_true (is_inside (length t.0) r.0) (list_all (λ s. is_inside (length t.0) s.0) rows) inside) (right_true (nat_le (length r.0) n) (list_all (λ s. nat_le (length s.0) n) rows) most)
    (λ j more less. right_true (not (length r.0 == j) || (is_none (at rows r.0) && has_parent t.0 m r.0)) (fits_level (has_parent t.0 m) j rows) (levels j more less)) in (
      both_true (is_none (at rows r.0)) (all_apart rows) (left_true (is_none (at rows r.0)) (has_parent t.0 m r.0) here) rest.0,
      both_true (begins t.0 r.0 && has_place m r.0) (list_all (λ s. begins t.0 s.0 && has_place m s.0) rows) (both_true (begins t.0 r.0) (has_place m r.0) (left_true (begins t.0 r.0) (is_dir (m (parent r.0))) parent_ok) (both_true (is_short r.0) (is_dir (m (parent r.0))) short (right_true (begins t.0 r.0) (is_dir (m (parent r.0))) parent_ok))) rest.1,
    )
  where
    own : is_inside (length t.0) r.0 ≡ true
    own = left_true (is_inside (length t.0) r.0) (list_all (λ s. is_inside (length t.0) s.0) rows) inside

    short : is_short r.0 ≡ true
    short = right_true (nat_lt (length t.0) (length r.0)) (is_short r.0) own

    equal : (j : ℕ) → (j == j) ≡ true
    equal j = grind (arith, nat_tests)

    here : (is_none (at rows r.0) && has_parent t.0 m r.0) ≡ true
    here =
        ap (λ b. not b || (is_none (at rows r.0) && has_parent t.0 m r.0)) (sym (equal (length r.0)))
        ∙ left_true (not (length r.0 == length r.0) || (is_none (at rows r.0) && has_parent t.0 m r.0)) (fits_level (has_parent t.0 m) (length r.0) rows) (levels (length r.0) (ltb-true (length t.0) (length r.0) (left_true (nat_lt (length t.0) (length r.0)) (is_short r.0) own)) (leb-true (length r.0) n (left_true (nat_le (length r.0) n) (list_all (λ s. nat_le (length s.0) n) rows) most)))

    parent_ok : (begins t.0 r.0 && is_dir (m (parent r.0))) ≡ true
    parent_ok = right_true (is_none (at rows r.0)) (has_parent t.0 m r.0) here

-- all rows stand
pub filled_all : (t : Path × Entry ℕ) (all : Rows ℕ) (n : ℕ) (m : Plain ℕ) → is_short t.0 ≡ true → list_all (λ r. is_inside (length t.0) r.0) all ≡ true → list_all (λ r. nat_le (length r.0) n) all ≡ true → IsFilled t all n m → (is_part t all ≡ true) × Same m (part_at t.0 (at (t ∷ all)))
filled_all t all n m short inside most h = (
  both_true (is_short t.0) (all_apart (t ∷ all) && (list_all (λ r. begins t.0 r.0 && has_place (at (t ∷ all)) r.0) all)) short (both_true (all_apart (t ∷ all)) (list_all (λ r. begins t.0 r.0 && has_place (at (t ∷ all)) r.0) all) (both_true (is_none (at all t.0)) (all_apart all) (ap is_none (at_shorter (length t.0) all t.0 inside (omega arith))) rows.0) rows.1),
  λ q. each q (nat_le (length (t.0 ++ q)) n) refl,
)
  where
    rows : (all_apart all ≡ true) × (list_all (λ r. begins t.0 r.0 && has_place (at (t ∷ all)) r.0) all ≡ true)
    rows = level_rows t (at (t ∷ all)) n all inside most h.levels

    each : (q : Path) (b : Bool) → nat_le (length (t.0 ++ q)) n ≡ b → m q ≡ at (t ∷ all) (t.0 ++ q)
    each q true is = h.upper q (leb-true (length (t.0 ++ q)) n is)
    each q false is =
        let f : length (t.0 ++ q) ≤ n → ⊥ = λ g. let k : nat_le (length (t.0 ++ q)) n ≡ true = le-leb (length (t.0 ++ q)) n g in cc in
        let start = h.start in
        let more : n < length (t.0 ++ q) = omega arith in
        h.lower q more ∙ sym (ap (λ b. cond b (Some t.1) (at all (t.0 ++ q))) (apart_lengths (t.0 ++ q) t.0 (λ s. omega arith)) ∙ at_longer n all (t.0 ++ q) most more)

-- where a path isn't inside, the rows aren't such a part
pub not_inside : (t : Path × Entry ℕ) (all : Rows ℕ) → list_all (λ r. is_inside (length t.0) r.0) all ≡ false → is_part t all ≡ false
not_inside t all out = never (is_part t all) (λ whole. let parts = parts_of t all whole in let k = each (at (t ∷ all)) all parts.top parts.places in cc)
  where
    each : (m : Plain ℕ) (rows : Rows ℕ) → at rows t.0 ≡ None → list_all (λ r. begins t.0 r.0 && has_place m r.0) rows ≡ true → list_all (λ r. is_inside (length t.0) r.0) rows ≡ true
    each m [] top h = refl
    each m (r ∷ rows) top h =
        let tops = tail_none (same_path t.0 r.0) r.1 (at rows t.0) top in
        let own = left_true (begins t.0 r.0 && has_place m r.0) (list_all (λ s. begins t.0 s.0 && has_place m s.0) rows) h in
        let path : r.0 ≡ t.0 ++ after t.0 r.0 = begins_parts t.0 r.0 (left_true (begins t.0 r.0) (has_place m r.0) own) in
        let short = left_true (is_short r.0) (is_dir (m (parent r.0))) (right_true (begins t.0 r.0) (has_place m r.0) own) in
        both_true (is_inside (length t.0) r.0) (list_all (λ s. is_inside (length t.0) s.0) rows) (both_true (nat_lt (length t.0) (length r.0)) (is_short r.0) (lt-ltb (length t.0) (length r.0) (longer r.0 (after t.0 r.0) path tops.0)) short) (each m rows tops.1 (right_true (begins t.0 r.0 && has_place m r.0) (list_all (λ s. begins t.0 s.0 && has_place m s.0) rows) h))
      where
        longer : (p q : Path) → p ≡ t.0 ++ q → same_path t.0 p ≡ false → length t.0 < length p
        longer p [] is apart = absurd (let k : same_path t.0 p ≡ true = ap (same_path t.0) (is ∙ append-nil t.0) ∙ same_itself t.0 in cc)
        longer p (x ∷ q) is apart = let n = ap length is ∙ length-append t.0 (x ∷ q) in omega arith

pub not_short : (t : Path × Entry ℕ) (all : Rows ℕ) → is_short t.0 ≡ false → is_part t all ≡ false
not_short t all long = never (is_part t all) (λ whole. let k = (parts_of t all whole).short in cc)

always : (b : Bool) → (b ≡ false → ⊥) → b ≡ true
always true h = refl
always false h = absurd (h refl)

-- the paths of a part have more elements than that which it stands at, and few enough
pub part_goes_deeper : (t : Path × Entry ℕ) (all : Rows ℕ) → is_part t all ≡ true → goes_deeper (t ∷ all) ≡ true
part_goes_deeper t all whole =
    both_true (is_short t.0) (list_all (λ r. is_inside (length t.0) r.0) all) (always (is_short t.0) (λ long. let k = not_short t all long in cc)) (always (list_all (λ r. is_inside (length t.0) r.0) all) (λ out. let k = not_inside t all out in cc))

-- what is built of a tree's rows is the tree
pub built_again : (tree : FinMap path_cmp (Entry ℕ)) (rows : Rows ℕ) (built : Result (FinMap path_cmp (Entry ℕ)) Refusal) → Same (at (rooted_rows rows)) (get tree) → is_tree rows ≡ true → Builds rows built → IfOk built (λ t. t ≡ tree) × IfErr built (λ e. e ≡ Memory)
built_again tree rows (Ok t) is whole h = (same_map path_total paths_antisymmetric t tree (λ q. h.1 q ∙ is q), tt)
built_again tree rows (Err e) is whole h = (tt, elim h [ inl memory ↦ memory | inr bad ↦ absurd (let k = bad.1 in cc) ])
