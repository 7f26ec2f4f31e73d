-- Paths as parts of a text, and paths that begin with others.
use Rattle.std.proofs.Common.{◌≡◌, ℕ, ◌+◌, ◌<◌, ◌≤◌, ◌&&◌, ◌++◌, ◌∷◌, [], Bool, true, false, cond, not, List, length, take, drop, eqb, nat_le, Ok, Err, ◌⊎◌, inl, inr, refl, sym, ap, ◌∙◌, subst, arith, append_assoc, length-append}
use Rattle.std.proofs.lemmas.Bool.{and_from, eqb-true}
use Rattle.std.proofs.lemmas.Bool.Decides.{nat_tests}
use Rattle.std.proofs.lemmas.List.Folds.{list_all-append}
use Rattle.std.specs.Cmp.Lexicographic.{pointwise}
use Rattle.std.specs.Prelude.{Option, Some, None, MatchOption}
use Rattle.std.specs.Borrow.{Bor}
use Rattle.std.specs.Cmp.{IsEquivalence, Equal-is, eq_by_cmp_equiv}
use Rattle.std.specs.Cmp.Lexicographic.{nat_list_cmp_total}
use Rattle.std.specs.FinMap.{slice_cmp-IsAntisymmetric, nat_cmp-IsAntisymmetric}
use Rattle.std.specs.List.{slice_split, onto_first, position_or_len, list_all}
use Rattle.gs_base.specs.declared.refusal.Refusal.{Refusal}
use Rattle.gs_base.specs.declared.refusal.Refusal.TheVariants.{BadPath, Memory}
use Rattle.gs_path.specs.Path.{Name, Path, name_cmp, same_name, begins, behind_slashes, path_text}
use Rattle.gs_path.specs.Rules.{elements_of, judged, read_by}

-- `starts_with` of slices
pub pointwise-begins : (p q : Path) → pointwise same_name p (take (length p) q) ≡ begins p q
pointwise-begins [] q = refl
pointwise-begins (x ∷ p) [] = refl
pointwise-begins (x ∷ p) (y ∷ q) = ap (λ b. same_name x y && b) (pointwise-begins p q)

names_equiv : IsEquivalence same_name
names_equiv = eq_by_cmp_equiv nat_list_cmp_total

-- `strip_prefix` of slices
pub below-begins : (p q : Path) → pointwise same_name (take (length p) q) p ≡ begins p q
below-begins [] q = refl
below-begins (x ∷ p) [] = refl
below-begins (x ∷ p) (y ∷ q) =
    ap (λ b. b && pointwise same_name (take (length p) q) p) (names_equiv.symm y x) ∙ ap (λ b. same_name x y && b) (below-begins p q)

pub begins-parts : (p q : Path) → begins p q ≡ true → q ≡ p ++ drop (length p) q
begins-parts [] q h = refl
begins-parts (x ∷ p) [] h = absurd (cc)
begins-parts (x ∷ p) (y ∷ q) h =
    elim (same_name x y) as (λ b. same_name x y ≡ b → (b && begins p q) ≡ true → y ∷ q ≡ x ∷ (p ++ drop (length p) q)) [
      | true ↦ λ b g. ap (λ z. z ∷ q) (sym (slice_cmp-IsAntisymmetric nat_cmp-IsAntisymmetric x y ((Equal-is (name_cmp x y)).0 b))) ∙ ap (λ z. x ∷ z) (begins-parts p q g)
      | false ↦ λ b g. absurd (cc)
    ] refl h

pub is_below : (p q front whole : Path) → front ≡ p → whole ≡ q → (r : Option (Bor Path)) → MatchOption r (pointwise same_name (take (length front) whole) front ≡ false) (λ x. (pointwise same_name (take (length front) whole) front ≡ true) × (x.now ≡ drop (length front) whole) × (length x.now + length front ≡ length whole)) → MatchOption r (begins p q ≡ false) (λ x. q ≡ p ++ x.now)
is_below p q front whole f w None h = sym (below-begins p q) ∙ ap (λ l. pointwise same_name (take (length l) q) l) (sym f) ∙ ap (λ l. pointwise same_name (take (length front) l) front) (sym w) ∙ h
is_below p q front whole f w (Some x) h =
    begins-parts p q (sym (below-begins p q) ∙ ap (λ l. pointwise same_name (take (length l) q) l) (sym f) ∙ ap (λ l. pointwise same_name (take (length front) l) front) (sym w) ∙ h.0)
    ∙ ap (λ l. p ++ drop (length l) q) (sym f) ∙ ap (λ l. p ++ drop (length front) l) (sym w) ∙ ap (λ l. p ++ l) (sym h.1)

behind_slashes-onto_first : (x : ℕ) (ps : Path) → behind_slashes (onto_first x ps) ≡ 47 ∷ x ∷ drop 1 (behind_slashes ps)
behind_slashes-onto_first x [] = refl
behind_slashes-onto_first x (y ∷ ps) = refl

-- the parts of a text, each behind a slash, are the text behind a slash
pub behind_slashes-split : (xs : List ℕ) → behind_slashes (slice_split (λ b. eqb b 47) xs) ≡ 47 ∷ xs
behind_slashes-split [] = refl
behind_slashes-split (x ∷ xs) =
    let more : behind_slashes (slice_split (λ b. eqb b 47) xs) ≡ 47 ∷ xs = behind_slashes-split xs in
    step x xs (eqb x 47) refl more
  where
    step : (x : ℕ) (xs : List ℕ) (b : Bool) → eqb x 47 ≡ b → behind_slashes (slice_split (λ b. eqb b 47) xs) ≡ 47 ∷ xs → behind_slashes (cond b ([] ∷ slice_split (λ b. eqb b 47) xs) (onto_first x (slice_split (λ b. eqb b 47) xs))) ≡ 47 ∷ x ∷ xs
    step x xs true e h = ap (λ t. 47 ∷ t) (h ∙ ap (λ y. y ∷ xs) (sym (eqb-true x 47 e)))
    step x xs false e h = behind_slashes-onto_first x _ ∙ ap (λ t. 47 ∷ x ∷ drop 1 t) h

path_text-behind : (ps : Path) (xs : List ℕ) → behind_slashes ps ≡ 47 ∷ xs → path_text ps ≡ 47 ∷ xs
path_text-behind [] xs h = cc
path_text-behind (y ∷ ps) xs h = h

path_text-elements_of : (xs : List ℕ) → path_text (elements_of xs) ≡ 47 ∷ xs
path_text-elements_of [] = refl
path_text-elements_of (x ∷ xs) = path_text-behind _ (x ∷ xs) (behind_slashes-split (x ∷ xs))

judged_same : (b : Bool) (ps p : Path) → cond b (Ok ps) (Err BadPath) ≡ Ok p → ps ≡ p
judged_same true ps p h = cc
judged_same false ps p h = cc

slash_first : (passes : Name → Bool) (b : Bool) (c : ℕ) (rest : List ℕ) (p : Path) → eqb c 47 ≡ b → cond b (judged passes (elements_of rest)) (Err BadPath) ≡ Ok p → path_text p ≡ c ∷ rest
slash_first passes true c rest p e h =
    ap path_text (sym (judged_same _ (elements_of rest) p h)) ∙ path_text-elements_of rest ∙ ap (λ y. y ∷ rest) (sym (eqb-true c 47 e))
slash_first passes false c rest p e h = cc

-- a path that is read from a text has that text
pub path_text-read_by : (passes : Name → Bool) (text : List ℕ) (p : Path) → read_by passes text ≡ Ok p → path_text p ≡ text
path_text-read_by passes [] p h = cc
path_text-read_by passes (c ∷ rest) p h = slash_first passes (eqb c 47) c rest p refl h

-- the parts of a text of which the first are taken
pub record Reads (passes : Name → Bool) (whole : Path) (done : Path) (rest : List ℕ) : Type 0 where
  pub passed : list_all passes done ≡ true
  pub few : length done ≤ 64
  pub parts : whole ≡ done ++ slice_split (λ b. eqb b 47) rest

pub refused_depth : (passes : Name → Bool) (done : Path) (x : Name) (more : Path) → 64 ≤ length done → judged passes (done ++ x ∷ more) ≡ Err BadPath
refused_depth passes done x more h =
    let deep : nat_le (length (done ++ x ∷ more)) 64 ≡ false = grind (arith, nat_tests, length-append {A = Name}) in
    rw deep

and_false : (a b c : Bool) → b ≡ false → (a && (c && b)) ≡ false
and_false true b true h = h
and_false true b false h = refl
and_false false b c h = refl

front_false : (passes : Name → Bool) (x : Name) (more : Path) → passes x ≡ false → list_all passes (x ∷ more) ≡ false
front_false passes x more h = rw h

pub refused_name : (passes : Name → Bool) (done : Path) (x : Name) (more : Path) → passes x ≡ false → judged passes (done ++ x ∷ more) ≡ Err BadPath
refused_name passes done x more h =
    let bad : (nat_le (length (done ++ x ∷ more)) 64 && list_all passes (done ++ x ∷ more)) ≡ false =
    rw list_all-append (and_false (nat_le (length (done ++ x ∷ more)) 64) _ (list_all passes done) (front_false passes x more h)) in
    rw bad

one_more : (passes : Name → Bool) (done : Path) (x : Name) → list_all passes done ≡ true → passes x ≡ true → list_all passes (done ++ x ∷ []) ≡ true
one_more passes done x h k = list_all-append passes done (x ∷ []) ∙ and_from _ _ h (rw k)

pub taken : (passes : Name → Bool) (done : Path) (x : Name) → list_all passes done ≡ true → passes x ≡ true → length done < 64 → judged passes (done ++ x ∷ []) ≡ Ok (done ++ x ∷ [])
taken passes done x h k less =
    let few : nat_le (length (done ++ x ∷ [])) 64 ≡ true = grind (arith, nat_tests, length-append {A = Name}) in
    rw (few, one_more passes done x h k)

pub reads_none : (passes : Name → Bool) (rest : List ℕ) (done : Path) → done ≡ [] → Reads passes (slice_split (λ b. eqb b 47) rest) done rest
reads_none passes rest done e =
    let none : Reads passes (slice_split (λ b. eqb b 47) rest) [] rest = record { passed = refl; few = omega arith; parts = refl } in
    subst (λ d. Reads passes (slice_split (λ b. eqb b 47) rest) d rest) (sym e) none

pub reads_more : (passes : Name → Bool) (whole done : Path) (rest more : List ℕ) (x : Name) (new : Path) → Reads passes whole done rest → (passes x ≡ true) × (length done < 64) × (new ≡ done ++ x ∷ []) → slice_split (λ b. eqb b 47) rest ≡ x ∷ slice_split (λ b. eqb b 47) more → Reads passes whole new more
reads_more passes whole done rest more x new r added e =
    let next : Reads passes whole (done ++ x ∷ []) more = record {
      passed = one_more passes done x r.passed added.0;
      few = let l = length-append done (x ∷ []) in let less = added.1 in omega arith;
      parts = r.parts ∙ ap (λ t. done ++ t) e ∙ sym (append_assoc done (x ∷ []) _);
    } in
    subst (λ d. Reads passes whole d more) (sym added.2) next

pub uncut : (p : ℕ → Bool) (xs : List ℕ) → position_or_len p xs ≡ length xs → slice_split p xs ≡ xs ∷ []
uncut p [] h = refl
uncut p (x ∷ xs) h = step p x xs (p x) h (uncut p xs)
  where
    step : (p : ℕ → Bool) (x : ℕ) (xs : List ℕ) (b : Bool) → cond (not b) (1 + position_or_len p xs) 0 ≡ length (x ∷ xs) → (position_or_len p xs ≡ length xs → slice_split p xs ≡ xs ∷ []) → cond b ([] ∷ slice_split p xs) (onto_first x (slice_split p xs)) ≡ (x ∷ xs) ∷ []
    step p x xs true h more = absurd (omega arith)
    step p x xs false h more = ap (onto_first x) (more (omega arith))

-- what the reader answers where an element isn't added
pub not_added : (passes : Name → Bool) (whole done : Path) (rest : List ℕ) (x : Name) (more : Path) (e : Refusal) → Reads passes whole done rest → slice_split (λ b. eqb b 47) rest ≡ x ∷ more → ((e ≡ BadPath) × ((64 ≤ length done) ⊎ (passes x ≡ false))) ⊎ (e ≡ Memory) → (judged passes whole ≡ Err e) ⊎ (e ≡ Memory)
not_added passes whole done rest x more e r split (inr m) = inr m
not_added passes whole done rest x more e r split (inl (bad, inl deep)) =
    inl (ap (judged passes) (r.parts ∙ ap (λ t. done ++ t) split) ∙ refused_depth passes done x more deep ∙ ap Err (sym bad))
not_added passes whole done rest x more e r split (inl (bad, inr name)) =
    inl (ap (judged passes) (r.parts ∙ ap (λ t. done ++ t) split) ∙ refused_name passes done x more name ∙ ap Err (sym bad))

-- what it answers where the last is added
pub all_added : (passes : Name → Bool) (whole done : Path) (rest : List ℕ) (new : Path) → Reads passes whole done rest → slice_split (λ b. eqb b 47) rest ≡ rest ∷ [] → (passes rest ≡ true) × (length done < 64) × (new ≡ done ++ rest ∷ []) → judged passes whole ≡ Ok new
all_added passes whole done rest new r split h =
    ap (judged passes) (r.parts ∙ ap (λ t. done ++ t) split) ∙ taken passes done rest r.passed h.0 h.1 ∙ ap Ok (sym h.2)

not_slash : (passes : Name → Bool) (c : ℕ) (rest : List ℕ) (b : Bool) → eqb c 47 ≡ b → ((r : List ℕ) → c ∷ rest ≡ 47 ∷ r → ⊥) → cond b (judged passes (elements_of rest)) (Err BadPath) ≡ Err BadPath
not_slash passes c rest true e h = absurd (h rest (ap (λ y. y ∷ rest) (eqb-true c 47 e)))
not_slash passes c rest false e h = refl

-- a text that doesn't begin with a slash
pub read_by-other : (passes : Name → Bool) (text : List ℕ) → ((rest : List ℕ) → text ≡ 47 ∷ rest → ⊥) → read_by passes text ≡ Err BadPath
read_by-other passes [] h = refl
read_by-other passes (c ∷ rest) h = not_slash passes c rest (eqb c 47) refl h
