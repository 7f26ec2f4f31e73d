-- The words of a first line, one by one.
use Rattle.std.proofs.Common.{◌≡◌, ◌<◌, ◌≤◌, ◌∷◌, [], ℕ, List, cond, length, map, get_or, Option, None, refl, arith, codes, bytes_eq, Bor}
use Rattle.gs_keep_head.specs.Head.{Sizes, name_of, named_before, named_sizes, words_before, words_name, words_sizes}
use Rattle.gs_keep_head.specs.declared.before.Before.{Before}

pub not_twelve : (ws : List (Bor (List ℕ))) → (length ws ≡ 12 → ⊥) → words_sizes (map (λ w. w.now) ws) ≡ None
unfolding words_sizes
not_twelve [] other = refl
not_twelve (w0 ∷ []) other = refl
not_twelve (w0 ∷ w1 ∷ []) other = refl
not_twelve (w0 ∷ w1 ∷ w2 ∷ []) other = refl
not_twelve (w0 ∷ w1 ∷ w2 ∷ w3 ∷ []) other = refl
not_twelve (w0 ∷ w1 ∷ w2 ∷ w3 ∷ w4 ∷ []) other = refl
not_twelve (w0 ∷ w1 ∷ w2 ∷ w3 ∷ w4 ∷ w5 ∷ []) other = refl
not_twelve (w0 ∷ w1 ∷ w2 ∷ w3 ∷ w4 ∷ w5 ∷ w6 ∷ []) other = refl
not_twelve (w0 ∷ w1 ∷ w2 ∷ w3 ∷ w4 ∷ w5 ∷ w6 ∷ w7 ∷ []) other = refl
not_twelve (w0 ∷ w1 ∷ w2 ∷ w3 ∷ w4 ∷ w5 ∷ w6 ∷ w7 ∷ w8 ∷ []) other = refl
not_twelve (w0 ∷ w1 ∷ w2 ∷ w3 ∷ w4 ∷ w5 ∷ w6 ∷ w7 ∷ w8 ∷ w9 ∷ []) other = refl
not_twelve (w0 ∷ w1 ∷ w2 ∷ w3 ∷ w4 ∷ w5 ∷ w6 ∷ w7 ∷ w8 ∷ w9 ∷ w10 ∷ []) other = refl
not_twelve (w0 ∷ w1 ∷ w2 ∷ w3 ∷ w4 ∷ w5 ∷ w6 ∷ w7 ∷ w8 ∷ w9 ∷ w10 ∷ w11 ∷ []) other = absurd (other refl)
not_twelve (w0 ∷ w1 ∷ w2 ∷ w3 ∷ w4 ∷ w5 ∷ w6 ∷ w7 ∷ w8 ∷ w9 ∷ w10 ∷ w11 ∷ w12 ∷ rest) other = refl

-- what twelve words name
abbrev pub named : (ws : List (Bor (List ℕ))) (d : Bor (List ℕ)) → Option Sizes
named ws d =
    cond (bytes_eq (get_or ws 0 d).now (codes "chunkkeep"))
    (named_sizes (get_or ws 2 d).now (get_or ws 3 d).now (get_or ws 4 d).now (get_or ws 5 d).now (get_or ws 6 d).now (get_or ws 7 d).now (get_or ws 8 d).now (get_or ws 9 d).now (get_or ws 10 d).now (get_or ws 11 d).now)
    None

pub twelve : (ws : List (Bor (List ℕ))) (d : Bor (List ℕ)) → 12 ≤ length ws → length ws < 13 → words_sizes (map (λ w. w.now) ws) ≡ named ws d
unfolding words_sizes
twelve [] d least most = absurd (omega (arith, least))
twelve (w0 ∷ []) d least most = absurd (omega (arith, least))
twelve (w0 ∷ w1 ∷ []) d least most = absurd (omega (arith, least))
twelve (w0 ∷ w1 ∷ w2 ∷ []) d least most = absurd (omega (arith, least))
twelve (w0 ∷ w1 ∷ w2 ∷ w3 ∷ []) d least most = absurd (omega (arith, least))
twelve (w0 ∷ w1 ∷ w2 ∷ w3 ∷ w4 ∷ []) d least most = absurd (omega (arith, least))
twelve (w0 ∷ w1 ∷ w2 ∷ w3 ∷ w4 ∷ w5 ∷ []) d least most = absurd (omega (arith, least))
twelve (w0 ∷ w1 ∷ w2 ∷ w3 ∷ w4 ∷ w5 ∷ w6 ∷ []) d least most = absurd (omega (arith, least))
twelve (w0 ∷ w1 ∷ w2 ∷ w3 ∷ w4 ∷ w5 ∷ w6 ∷ w7 ∷ []) d least most = absurd (omega (arith, least))
twelve (w0 ∷ w1 ∷ w2 ∷ w3 ∷ w4 ∷ w5 ∷ w6 ∷ w7 ∷ w8 ∷ []) d least most = absurd (omega (arith, least))
twelve (w0 ∷ w1 ∷ w2 ∷ w3 ∷ w4 ∷ w5 ∷ w6 ∷ w7 ∷ w8 ∷ w9 ∷ []) d least most = absurd (omega (arith, least))
twelve (w0 ∷ w1 ∷ w2 ∷ w3 ∷ w4 ∷ w5 ∷ w6 ∷ w7 ∷ w8 ∷ w9 ∷ w10 ∷ []) d least most = absurd (omega (arith, least))
twelve (w0 ∷ w1 ∷ w2 ∷ w3 ∷ w4 ∷ w5 ∷ w6 ∷ w7 ∷ w8 ∷ w9 ∷ w10 ∷ w11 ∷ []) d least most = refl
twelve (w0 ∷ w1 ∷ w2 ∷ w3 ∷ w4 ∷ w5 ∷ w6 ∷ w7 ∷ w8 ∷ w9 ∷ w10 ∷ w11 ∷ w12 ∷ rest) d least most = absurd (omega (arith, most))

-- ---- the words of a name

pub not_two : (ws : List (Bor (List ℕ))) → (length ws ≡ 2 → ⊥) → words_name (map (λ w. w.now) ws) ≡ None
unfolding words_name
not_two [] other = refl
not_two (w0 ∷ []) other = refl
not_two (w0 ∷ w1 ∷ []) other = absurd (other refl)
not_two (w0 ∷ w1 ∷ w2 ∷ rest) other = refl

-- what two words name
abbrev pub called : (ws : List (Bor (List ℕ))) (d : Bor (List ℕ)) → Option (List ℕ)
called ws d = cond (bytes_eq (get_or ws 0 d).now (codes "name")) (name_of (get_or ws 1 d).now) None

pub two : (ws : List (Bor (List ℕ))) (d : Bor (List ℕ)) → 2 ≤ length ws → length ws < 3 → words_name (map (λ w. w.now) ws) ≡ called ws d
unfolding words_name
two [] d least most = absurd (omega (arith, least))
two (w0 ∷ []) d least most = absurd (omega (arith, least))
two (w0 ∷ w1 ∷ []) d least most = refl
two (w0 ∷ w1 ∷ w2 ∷ rest) d least most = absurd (omega (arith, most))

-- ---- the words of what was before

pub not_seven : (ws : List (Bor (List ℕ))) → (length ws ≡ 7 → ⊥) → words_before (map (λ w. w.now) ws) ≡ None
unfolding words_before
not_seven [] other = refl
not_seven (w0 ∷ []) other = refl
not_seven (w0 ∷ w1 ∷ []) other = refl
not_seven (w0 ∷ w1 ∷ w2 ∷ []) other = refl
not_seven (w0 ∷ w1 ∷ w2 ∷ w3 ∷ []) other = refl
not_seven (w0 ∷ w1 ∷ w2 ∷ w3 ∷ w4 ∷ []) other = refl
not_seven (w0 ∷ w1 ∷ w2 ∷ w3 ∷ w4 ∷ w5 ∷ []) other = refl
not_seven (w0 ∷ w1 ∷ w2 ∷ w3 ∷ w4 ∷ w5 ∷ w6 ∷ []) other = absurd (other refl)
not_seven (w0 ∷ w1 ∷ w2 ∷ w3 ∷ w4 ∷ w5 ∷ w6 ∷ w7 ∷ rest) other = refl

-- what seven words tell
abbrev pub told : (ws : List (Bor (List ℕ))) (d : Bor (List ℕ)) → Option Before
told ws d = named_before (get_or ws 0 d).now (get_or ws 1 d).now (get_or ws 2 d).now (get_or ws 3 d).now (get_or ws 4 d).now (get_or ws 5 d).now (get_or ws 6 d).now

pub seven : (ws : List (Bor (List ℕ))) (d : Bor (List ℕ)) → 7 ≤ length ws → length ws < 8 → words_before (map (λ w. w.now) ws) ≡ told ws d
unfolding words_before
seven [] d least most = absurd (omega (arith, least))
seven (w0 ∷ []) d least most = absurd (omega (arith, least))
seven (w0 ∷ w1 ∷ []) d least most = absurd (omega (arith, least))
seven (w0 ∷ w1 ∷ w2 ∷ []) d least most = absurd (omega (arith, least))
seven (w0 ∷ w1 ∷ w2 ∷ w3 ∷ []) d least most = absurd (omega (arith, least))
seven (w0 ∷ w1 ∷ w2 ∷ w3 ∷ w4 ∷ []) d least most = absurd (omega (arith, least))
seven (w0 ∷ w1 ∷ w2 ∷ w3 ∷ w4 ∷ w5 ∷ []) d least most = absurd (omega (arith, least))
seven (w0 ∷ w1 ∷ w2 ∷ w3 ∷ w4 ∷ w5 ∷ w6 ∷ []) d least most = refl
seven (w0 ∷ w1 ∷ w2 ∷ w3 ∷ w4 ∷ w5 ∷ w6 ∷ w7 ∷ rest) d least most = absurd (omega (arith, most))

-- ---- the second word

pub second : (ws : List (Bor (List ℕ))) (d : Bor (List ℕ)) → 2 ≤ length ws → get_or (map (λ w. w.now) ws) 1 [] ≡ (get_or ws 1 d).now
second [] d least = absurd (omega (arith, least))
second (w0 ∷ []) d least = absurd (omega (arith, least))
second (w0 ∷ w1 ∷ rest) d least = refl
