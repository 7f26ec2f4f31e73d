-- The paths that an edit made, and the inverse that is made of them.
use Rattle.std.proofs.Common.{◌≡◌, ◌≤◌, ◌<◌, ◌+◌, ◌-◌, ◌++◌, ℕ, Bool, true, false, cond, List, [], ◌∷◌, filter, length, refl, sym, ap, ◌∙◌, subst, append_assoc, append-nil, arith, length-append}
use Rattle.std.proofs.lemmas.Bool.Decides.{nat_tests}
use Rattle.std.proofs.lemmas.Bool.{lt-ltb, ltb-true}
use Rattle.std.specs.Prelude.{nat_lt, ◌==◌}
use Rattle.gs_path.specs.Path.{Name, Path, begins}
use Rattle.gs_tree.specs.Lists.{fronts_below, made_paths, is_child, grows, is_made, last_of, made_inverse}
use Rattle.gs_tree.specs.declared.inverse.TreeInverse.TheVariants.{Made}
use Rattle.gs_tree.proofs.Laws.{begins_append}
use Rattle.gs_tree.proofs.Levels.{both_true, never}

one_longer : (p : Path) (x : Name) → length (p ++ x ∷ []) ≡ length p + 1
one_longer p x = let l = length-append p (x ∷ []) in omega arith

longer_kept : (n : ℕ) (p q : Path) → n ≤ length p → filter (λ f. nat_lt n (length f)) (fronts_below p q) ≡ fronts_below p q
longer_kept n p [] h = refl
longer_kept n p (x ∷ q) h =
    let l = one_longer p x in
    ap (λ b. cond b ((p ++ x ∷ []) ∷ filter (λ f. nat_lt n (length f)) (fronts_below (p ++ x ∷ []) q)) (filter (λ f. nat_lt n (length f)) (fronts_below (p ++ x ∷ []) q))) (lt-ltb n (length (p ++ x ∷ [])) (omega arith))
    ∙ ap (λ r. (p ++ x ∷ []) ∷ r) (longer_kept n (p ++ x ∷ []) q (omega arith))

none_kept : (n : ℕ) (p q : Path) → length p + length q ≤ n → filter (λ f. nat_lt n (length f)) (fronts_below p q) ≡ []
none_kept n p [] h = refl
none_kept n p (x ∷ q) h =
    let l = one_longer p x in
    ap (λ b. cond b ((p ++ x ∷ []) ∷ filter (λ f. nat_lt n (length f)) (fronts_below (p ++ x ∷ []) q)) (filter (λ f. nat_lt n (length f)) (fronts_below (p ++ x ∷ []) q))) (never (nat_lt n (length (p ++ x ∷ []))) (λ t. let s = ltb-true n (length (p ++ x ∷ [])) t in omega arith))
    ∙ none_kept n (p ++ x ∷ []) q (omega arith)

last_front : (p q : Path) → last_of p (fronts_below p q) ≡ p ++ q
last_front p [] = sym (append-nil p)
last_front p (x ∷ q) = last_front (p ++ x ∷ []) q ∙ append_assoc p (x ∷ []) q

child : (p : Path) (x : Name) → is_child p (p ++ x ∷ []) ≡ true
child p x = both_true (begins p (p ++ x ∷ [])) (length (p ++ x ∷ []) == length p + 1) (begins_append p (x ∷ [])) (let l = one_longer p x in grind (arith, nat_tests))

fronts_grow : (p q : Path) → grows p (fronts_below p q) ≡ true
fronts_grow p [] = refl
fronts_grow p (x ∷ q) = both_true (is_child p (p ++ x ∷ [])) (grows (p ++ x ∷ []) (fronts_below (p ++ x ∷ []) q)) (child p x) (fronts_grow (p ++ x ∷ []) q)

-- the paths that were made of one of which some elements stood
record Kept (n : ℕ) (whole : Path) (paths : List Path) : Type 0 where
  pub made : is_made paths ≡ true
  pub inverse : made_inverse paths ≡ Made whole n

kept_from : (n : ℕ) (p q : Path) → length p ≤ n → n < length p + length q → Kept n (p ++ q) (filter (λ f. nat_lt n (length f)) (fronts_below p q))
kept_from n p [] low high = absurd (omega arith)
kept_from n p (x ∷ q) low high = each (kept_from n (p ++ x ∷ []) q) (nat_lt n (length (p ++ x ∷ []))) refl
  where
    l : length (p ++ x ∷ []) ≡ length p + 1
    l = one_longer p x

    each : (length (p ++ x ∷ []) ≤ n → n < length (p ++ x ∷ []) + length q → Kept n ((p ++ x ∷ []) ++ q) (filter (λ f. nat_lt n (length f)) (fronts_below (p ++ x ∷ []) q))) → (b : Bool) → nat_lt n (length (p ++ x ∷ [])) ≡ b
        → Kept n (p ++ x ∷ q) (cond b ((p ++ x ∷ []) ∷ filter (λ f. nat_lt n (length f)) (fronts_below (p ++ x ∷ []) q)) (filter (λ f. nat_lt n (length f)) (fronts_below (p ++ x ∷ []) q)))
    each rest true is =
        let more = ltb-true n (length (p ++ x ∷ [])) is in
        let same : length (p ++ x ∷ []) - 1 ≡ n = omega (arith, l) in
        let some : 0 < length (p ++ x ∷ []) = omega (arith, l) in
        subst (λ fs. Kept n (p ++ x ∷ q) ((p ++ x ∷ []) ∷ fs)) (sym (longer_kept n (p ++ x ∷ []) q (omega (arith, l))))
        (record {
          made = both_true (nat_lt 0 (length (p ++ x ∷ []))) (grows (p ++ x ∷ []) (fronts_below (p ++ x ∷ []) q)) (lt-ltb 0 (length (p ++ x ∷ [])) some) (fronts_grow (p ++ x ∷ []) q);
          inverse = ap (λ w. Made w (length (p ++ x ∷ []) - 1)) (last_front (p ++ x ∷ []) q ∙ append_assoc p (x ∷ []) q) ∙ ap (Made (p ++ x ∷ q)) same;
        })
    each rest false is =
        let low_too : n < length (p ++ x ∷ []) → ⊥ = λ g. let k : nat_lt n (length (p ++ x ∷ [])) ≡ true = lt-ltb n (length (p ++ x ∷ [])) g in cc in
        subst (λ w. Kept n w (filter (λ f. nat_lt n (length f)) (fronts_below (p ++ x ∷ []) q))) (append_assoc p (x ∷ []) q) (rest (omega arith) (omega (arith, l)))

-- a list made of an inverse gives it back, where it made something
pub made_again : (path : Path) (n : ℕ) → n < length path → (is_made (made_paths path n) ≡ true) × (made_inverse (made_paths path n) ≡ Made path n)
made_again path n h = let k = kept_from n [] path (omega arith) (omega arith) in (k.made, k.inverse)

pub made_none : (path : Path) (n : ℕ) → length path ≤ n → made_paths path n ≡ []
made_none path n h = none_kept n [] path (omega arith)
