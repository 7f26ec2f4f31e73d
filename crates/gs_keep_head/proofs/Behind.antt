-- The words of a first line, with those behind its sizes.
use Rattle.std.proofs.Common.{◌≡◌, ◌<◌, ◌≤◌, ◌-◌, ◌==◌, [], ℕ, false, cond, List, length, map, take, drop, get_or, Option, Some, None, option_map, Bor, refl, sym, ap, ◌∙◌, arith, take_all}
use Rattle.std.proofs.lemmas.Bool.Decides.{nat_tests}
use Rattle.std.proofs.lemmas.List.{drop-map, length-drop, length-map, take-map}
use Rattle.gs_keep_head.specs.Head.{Sizes, ◌>>=◌, both_more, form_of, words_before, words_head, words_more, words_name, words_sizes}
use Rattle.gs_keep_head.specs.declared.Form.{Form}
use Rattle.gs_keep_head.specs.declared.before.Before.{Before}
use Rattle.gs_keep_head.proofs.Words.{not_twelve, second}

abbrev texts : List (Bor (List ℕ)) → List (List ℕ)
texts ws = map (λ w. w.now) ws

front : (n : ℕ) (ws : List (Bor (List ℕ))) → take n (texts ws) ≡ texts (take n ws)
front n ws = take-map (λ (w : Bor (List ℕ)). w.now) n ws

back : (n : ℕ) (ws : List (Bor (List ℕ))) → drop n (texts ws) ≡ texts (drop n ws)
back n ws = drop-map (λ (w : Bor (List ℕ)). w.now) n ws

-- what a slice from there on is
pub rest_of : (n : ℕ) (ws : List (Bor (List ℕ))) → take (length ws - n) (drop n ws) ≡ drop n ws
rest_of n ws = take_all (length ws - n) (drop n ws) (omega (arith, length-drop n ws))

-- ---- a whole line

abbrev said : Option Sizes → Option (Option (List ℕ) × Option Before) → List ℕ → Option (Form × Sizes × Option (List ℕ))
said sizes more digit = sizes >>= λ s. more >>= λ m. form_of digit m.1 >>= λ f. Some (f, s, m.0)

pub head_parts : (ws : List (Bor (List ℕ))) → words_head (texts ws) ≡ said (words_sizes (texts (take 12 ws))) (words_more (texts (drop 12 ws))) (get_or (texts ws) 1 [])
unfolding words_head
head_parts ws = (λ i. said (words_sizes (front 12 ws i)) (words_more (back 12 ws i)) (get_or (texts ws) 1 []))

no_sizes : (sizes : Option Sizes) (more : Option (Option (List ℕ) × Option Before)) (digit : List ℕ) → sizes ≡ None → said sizes more digit ≡ None
no_sizes sizes more digit none = ap (λ o. said o more digit) none

no_more : (sizes : Option Sizes) (more : Option (Option (List ℕ) × Option Before)) (digit : List ℕ) → more ≡ None → said sizes more digit ≡ None
no_more None more digit none = refl
no_more (Some s) more digit none = ap (λ o. said (Some s) o digit) none

pub head_short : (ws : List (Bor (List ℕ))) → length ws < 12 → words_head (texts ws) ≡ None
head_short ws short =
    head_parts ws ∙ no_sizes (words_sizes (texts (take 12 ws))) (words_more (texts (drop 12 ws))) (get_or (texts ws) 1 []) (ap (λ (l : List (Bor (List ℕ))). words_sizes (texts l)) (take_all 12 ws (omega (arith, short))) ∙ not_twelve ws (λ e. omega (arith, short, e)))

pub head_unsized : (ws : List (Bor (List ℕ))) → words_sizes (texts (take 12 ws)) ≡ None → words_head (texts ws) ≡ None
head_unsized ws none = head_parts ws ∙ no_sizes (words_sizes (texts (take 12 ws))) (words_more (texts (drop 12 ws))) (get_or (texts ws) 1 []) none

pub head_other : (ws : List (Bor (List ℕ))) → words_more (texts (take (length ws - 12) (drop 12 ws))) ≡ None → words_head (texts ws) ≡ None
head_other ws none = head_parts ws ∙ no_more (words_sizes (texts (take 12 ws))) (words_more (texts (drop 12 ws))) (get_or (texts ws) 1 []) (sym (ap (λ (l : List (Bor (List ℕ))). words_more (texts l)) (rest_of 12 ws)) ∙ none)

abbrev formed : Option Form → Sizes → Option (List ℕ) → Option (Form × Sizes × Option (List ℕ))
formed f s name = f >>= λ form. Some (form, s, name)

formed_is : (f : Option Form) (s : Sizes) (name : Option (List ℕ)) → formed f s name ≡ option_map (λ form. (form, s, name)) f
formed_is None s name = refl
formed_is (Some x) s name = refl

-- with a form or without one
pub head_formed : (ws : List (Bor (List ℕ))) (d : Bor (List ℕ)) (s : Sizes) (m : Option (List ℕ) × Option Before) (f : Option Form) → 12 ≤ length ws
    → words_sizes (texts (take 12 ws)) ≡ Some s → words_more (texts (take (length ws - 12) (drop 12 ws))) ≡ Some m → f ≡ form_of (get_or ws 1 d).now m.1
    → words_head (texts ws) ≡ option_map (λ form. (form, s, m.0)) f
head_formed ws d s m f long sizes more form =
    let more' : words_more (texts (drop 12 ws)) ≡ Some m = sym (ap (λ (l : List (Bor (List ℕ))). words_more (texts l)) (rest_of 12 ws)) ∙ more in
    let digit : get_or (texts ws) 1 [] ≡ (get_or ws 1 d).now = second ws d (omega (arith, long)) in
    head_parts ws ∙ (λ i. said (sizes i) (more' i) (digit i)) ∙ ap (λ (o : Option Form). formed o s m.0) (sym form) ∙ formed_is f s m.0

-- ---- the words behind the sizes

abbrev counted : ℕ → List (List ℕ) → Option (Option (List ℕ) × Option Before)
counted n words =
    cond (n == 0) (Some (None, None))
    (cond (n == 2) (option_map (λ name. (Some name, None)) (words_name words))
    (cond (n == 7) (option_map (λ before. (None, Some before)) (words_before words)) (cond (n == 9) (both_more words) None)))

more_counted : (ws : List (Bor (List ℕ))) (n : ℕ) → length ws ≡ n → words_more (texts ws) ≡ counted n (texts ws)
unfolding words_more
more_counted ws n many = ap (λ k. counted k (texts ws)) (length-map ws (λ (w : Bor (List ℕ)). w.now) ∙ many)

pub more_none : (ws : List (Bor (List ℕ))) → length ws ≡ 0 → words_more (texts ws) ≡ Some (None, None)
more_none ws many = more_counted ws 0 many

pub more_named : (ws : List (Bor (List ℕ))) (name : Option (List ℕ)) → length ws ≡ 2 → words_name (texts ws) ≡ name → words_more (texts ws) ≡ option_map (λ n. (Some n, None)) name
more_named ws name many is = more_counted ws 2 many ∙ ap (option_map (λ n. (Some n, None))) is

pub more_before : (ws : List (Bor (List ℕ))) (before : Option Before) → length ws ≡ 7 → before ≡ words_before (texts ws) → words_more (texts ws) ≡ option_map (λ b. (None, Some b)) before
more_before ws before many is = more_counted ws 7 many ∙ ap (option_map (λ b. (None, Some b))) (sym is)

pub more_both : (ws : List (Bor (List ℕ))) → length ws ≡ 9 → words_more (texts ws) ≡ both_more (texts ws)
more_both ws many = more_counted ws 9 many

pub more_other : (ws : List (Bor (List ℕ))) → (length ws ≡ 0 → ⊥) → (length ws ≡ 2 → ⊥) → (length ws ≡ 7 → ⊥) → (length ws ≡ 9 → ⊥) → words_more (texts ws) ≡ None
more_other ws zero two seven nine =
    let n = length ws in
    more_counted ws n refl
    ∙ (λ i. cond (no_eqb n 0 zero i) (Some (None, None)) (cond (no_eqb n 2 two i) (option_map (λ name. (Some name, None)) (words_name (texts ws)))
    (cond (no_eqb n 7 seven i) (option_map (λ before. (None, Some before)) (words_before (texts ws))) (cond (no_eqb n 9 nine i) (both_more (texts ws)) None))))
  where
    no_eqb : (n k : ℕ) → (n ≡ k → ⊥) → (n == k) ≡ false
    no_eqb n k other = grind (arith, nat_tests)
