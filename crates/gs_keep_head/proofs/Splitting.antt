-- A text of words with single spaces between is split into these words.
use Rattle.std.proofs.Common.{◌≡◌, ◌<◌, ◌++◌, ◌∷◌, [], ◌&&◌, ◌==◌, ℕ, Bool, true, false, List, All, nat_lt, refl, sym, ap, ◌∙◌, arith}
use Rattle.std.specs.List.{AllByRecursion, slice_split}
use Rattle.std.specs.Str.{IsAscii}
use Rattle.std.specs.Str.Parse.{AllDigits}
use Rattle.std.proofs.lemmas.Str.Parse.{digit_from_value}
use Rattle.std.proofs.lemmas.Bool.{and_from, and_parts, lt-ltb, ltb-true}
use Rattle.std.proofs.lemmas.Bool.Decides.{nat_tests}
use Rattle.std.proofs.lemmas.List.Elements.{All-nil, All-cons}
use Rattle.std.proofs.lemmas.List.{append_assoc}
use Rattle.std.proofs.lemmas.List.Splits.{slice_split_at, slice_split_none}
use Rattle.std.proofs.lemmas.Str.{IsAscii-append}
use Rattle.std.proofs.lemmas.Str.Ascii.{IsAscii-nil, IsAscii-cons}

-- bytes that may stand in a word
abbrev pub plain : List ℕ → Bool
plain [] = true
plain (b ∷ bs) = (nat_lt 32 b && nat_lt b 128) && plain bs

abbrev pub joined : List ℕ → List (List ℕ) → List ℕ
joined w [] = w
joined w (v ∷ ws) = w ++ 32 ∷ joined v ws

abbrev pub AllPlain : List (List ℕ) → Type 0
AllPlain ws = AllByRecursion (λ w. plain w ≡ true) ws

no_space : (b : ℕ) → 32 < b → (b == 32) ≡ false
no_space b h = grind (arith, nat_tests)

plain_ascii : (w : List ℕ) → plain w ≡ true → IsAscii w
plain_ascii [] h = IsAscii-nil
plain_ascii (b ∷ bs) h =
    let s = and_parts (nat_lt 32 b && nat_lt b 128) (plain bs) h in
    IsAscii-cons b bs (ltb-true b 128 (and_parts (nat_lt 32 b) _ s.0).1) (plain_ascii bs s.1)

plain_word : (w : List ℕ) → plain w ≡ true → All (λ b. (b == 32) ≡ false) w
plain_word [] h = All-nil (λ b. (b == 32) ≡ false)
plain_word (b ∷ bs) h =
    let s = and_parts (nat_lt 32 b && nat_lt b 128) (plain bs) h in
    All-cons (λ b. (b == 32) ≡ false) b bs (no_space b (ltb-true 32 b (and_parts (nat_lt 32 b) _ s.0).0)) (plain_word bs s.1)

pub plain_digits : (ds : List ℕ) → AllDigits 10 ds → plain ds ≡ true
plain_digits [] d = refl
plain_digits (c ∷ cs) d =
    let k = digit_from_value c d.0 in
    and_from (nat_lt 32 c && nat_lt c 128) (plain cs) (and_from _ _ (lt-ltb 32 c (omega (arith, k))) (lt-ltb c 128 (omega (arith, k)))) (plain_digits cs d.1)

pub split_joined : (w : List ℕ) (ws : List (List ℕ)) → plain w ≡ true → AllPlain ws → slice_split (λ b. b == 32) (joined w ws) ≡ w ∷ ws
split_joined w [] h hs = slice_split_none (λ b. b == 32) w (plain_word w h)
split_joined w (v ∷ ws) h hs = slice_split_at (λ b. b == 32) w 32 (joined v ws) (plain_word w h) refl ∙ ap (λ (l : List (List ℕ)). w ∷ l) (split_joined v ws hs.0 hs.1)

pub joined_ascii : (w : List ℕ) (ws : List (List ℕ)) → plain w ≡ true → AllPlain ws → IsAscii (joined w ws)
joined_ascii w [] h hs = plain_ascii w h
joined_ascii w (v ∷ ws) h hs = IsAscii-append w (32 ∷ joined v ws) (plain_ascii w h) (IsAscii-cons 32 (joined v ws) (omega arith) (joined_ascii v ws hs.0 hs.1))

-- ---- words behind words

pub joined_more : (w : List ℕ) (ws : List (List ℕ)) (v : List ℕ) (vs : List (List ℕ)) → joined w (ws ++ v ∷ vs) ≡ joined w ws ++ 32 ∷ joined v vs
joined_more w [] v vs = refl
joined_more w (u ∷ ws) v vs = ap (λ (l : List ℕ). w ++ 32 ∷ l) (joined_more u ws v vs) ∙ sym (append_assoc w (32 ∷ joined u ws) (32 ∷ joined v vs))

pub plain_more : (ws vs : List (List ℕ)) → AllPlain ws → AllPlain vs → AllPlain (ws ++ vs)
plain_more [] vs h hs = hs
plain_more (w ∷ ws) vs h hs = (h.0, plain_more ws vs h.1 hs)
