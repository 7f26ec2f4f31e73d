-- What stands after the last mark is looked at line by line.
use Rattle.std.proofs.Common.{◌≡◌, ◌<◌, ◌≤◌, ◌+◌, ◌∷◌, ◌&&◌, ◌||◌, [], ℕ, suc, List, Bool, true, false, cond, eqb, length, take, drop, Option, Some, None, refl, sym, ap, subst, ◌∙◌, arith}
use Rattle.std.specs.List.{list_all, list_any}
use Rattle.std.specs.Io.BufRead.{drop_through, take_through}
use Rattle.gs_shell_script.specs.Run.{lines_of}
use Rattle.gs_shell_script.proofs.Lines.{lines_of-step}
use Rattle.gs_keep_measure.specs.Tail.{begins_mark, early_from, is_returned, line_len}

-- ---- the first line

pub len_more : (bytes rest more : List ℕ) (first count : ℕ) → rest ≡ first ∷ more → eqb first 10 ≡ false → line_len bytes ≡ count + line_len rest → line_len bytes ≡ (count + 1) + line_len more
unfolding line_len
len_more bytes rest more first count is other so_far =
    let one : line_len rest ≡ suc (line_len more) = ap line_len is ∙ ap (λ b. cond b 1 (suc (line_len more))) other in
    omega (arith, so_far, one)

pub len_here : (bytes rest more : List ℕ) (first count : ℕ) → rest ≡ first ∷ more → eqb first 10 ≡ true → line_len bytes ≡ count + line_len rest → count + 1 ≡ line_len bytes
unfolding line_len
len_here bytes rest more first count is ends so_far =
    let one : line_len rest ≡ 1 = ap line_len is ∙ ap (λ b. cond b 1 (suc (line_len more))) ends in
    omega (arith, so_far, one)

none_left : (rest : List ℕ) → length rest ≡ 0 → rest ≡ []
none_left [] none = refl
none_left (x ∷ xs) none = absurd (omega (arith, none))

pub len_all : (bytes rest : List ℕ) (count : ℕ) → length rest ≡ 0 → line_len bytes ≡ count + line_len rest → count ≡ line_len bytes
unfolding line_len
len_all bytes rest count none so_far =
    let one : line_len rest ≡ 0 = ap line_len (none_left rest none) in
    omega (arith, so_far, one)

pub line_taken : (xs : List ℕ) → take (line_len xs) xs ≡ take_through 10 xs
unfolding line_len
line_taken [] = refl
line_taken (x ∷ xs) = at (eqb x 10) (line_taken xs)
  where
    at : (b : Bool) → take (line_len xs) xs ≡ take_through 10 xs → take (cond b 1 (suc (line_len xs))) (x ∷ xs) ≡ cond b (x ∷ []) (x ∷ take_through 10 xs)
    at true h = refl
    at false h = ap (λ (l : List ℕ). x ∷ l) h

pub line_dropped : (xs : List ℕ) → drop (line_len xs) xs ≡ drop_through 10 xs
unfolding line_len
line_dropped [] = refl
line_dropped (x ∷ xs) = at (eqb x 10) (line_dropped xs)
  where
    at : (b : Bool) → drop (line_len xs) xs ≡ drop_through 10 xs → drop (cond b 1 (suc (line_len xs))) (x ∷ xs) ≡ cond b xs (drop_through 10 xs)
    at true h = refl
    at false h = h

-- ---- the lines

drop_less : (xs : List ℕ) → length (drop_through 10 xs) ≤ length xs
drop_less [] = omega arith
drop_less (x ∷ xs) = at (eqb x 10) (drop_less xs)
  where
    at : (b : Bool) → length (drop_through 10 xs) ≤ length xs → length (cond b xs (drop_through 10 xs)) ≤ length (x ∷ xs)
    at true h = omega arith
    at false h = omega (arith, h)

pub drop_one : (xs : List ℕ) → 0 < length xs → length (drop_through 10 xs) + 1 ≤ length xs
drop_one [] some = absurd (omega (arith, some))
drop_one (x ∷ xs) some = at (eqb x 10) (drop_less xs)
  where
    at : (b : Bool) → length (drop_through 10 xs) ≤ length xs → length (cond b xs (drop_through 10 xs)) + 1 ≤ length (x ∷ xs)
    at true h = omega arith
    at false h = omega (arith, h)

pub fewer_left : (all rest line more : List ℕ) (count : ℕ) → more ≡ drop_through 10 rest → 0 < length rest → count + length rest ≤ length all → (count + 1) + length more ≤ length all
fewer_left all rest line more count is some bound = omega (arith, ap length is, drop_one rest some, bound)

pub fewer : (rest more : List ℕ) → more ≡ drop_through 10 rest → 0 < length rest → length more < length rest
fewer rest more is some = omega (arith, ap length is, drop_one rest some)

pub all_none : (rest : List ℕ) → length rest ≡ 0 → true ≡ list_all is_returned (lines_of rest)
all_none rest none = sym (ap (λ (l : List ℕ). list_all is_returned (lines_of l)) (none_left rest none))

pub all_more : (whole : Bool) (rest line more : List ℕ) (returned : Bool) → line ≡ take_through 10 rest → more ≡ drop_through 10 rest → 0 < length rest → returned ≡ is_returned line → returned ≡ true
    → whole ≡ list_all is_returned (lines_of rest) → whole ≡ list_all is_returned (lines_of more)
all_more whole rest line more returned line_is more_is some is holds so_far =
    so_far ∙ ap (list_all is_returned) (lines_of-step rest some) ∙ ap (λ (l : List ℕ). is_returned l && list_all is_returned (lines_of (drop_through 10 rest))) (sym line_is)
    ∙ ap (λ b. b && list_all is_returned (lines_of (drop_through 10 rest))) (sym is ∙ holds) ∙ ap (λ (l : List ℕ). list_all is_returned (lines_of l)) (sym more_is)

pub all_not : (whole : Bool) (rest line : List ℕ) (returned : Bool) → line ≡ take_through 10 rest → 0 < length rest → returned ≡ is_returned line → returned ≡ false
    → whole ≡ list_all is_returned (lines_of rest) → false ≡ whole
all_not whole rest line returned line_is some is fails so_far =
    sym (so_far ∙ ap (list_all is_returned) (lines_of-step rest some) ∙ ap (λ (l : List ℕ). is_returned l && list_all is_returned (lines_of (drop_through 10 rest))) (sym line_is)
    ∙ ap (λ b. b && list_all is_returned (lines_of (drop_through 10 rest))) (sym is ∙ fails))

pub any_none : (rest : List ℕ) → length rest ≡ 0 → false ≡ list_any begins_mark (lines_of rest)
any_none rest none = sym (ap (λ (l : List ℕ). list_any begins_mark (lines_of l)) (none_left rest none))

pub any_more : (whole : Bool) (rest line more : List ℕ) (begins : Bool) → line ≡ take_through 10 rest → more ≡ drop_through 10 rest → 0 < length rest → begins ≡ begins_mark line → begins ≡ false
    → whole ≡ list_any begins_mark (lines_of rest) → whole ≡ list_any begins_mark (lines_of more)
any_more whole rest line more begins line_is more_is some is fails so_far =
    so_far ∙ ap (list_any begins_mark) (lines_of-step rest some) ∙ ap (λ (l : List ℕ). begins_mark l || list_any begins_mark (lines_of (drop_through 10 rest))) (sym line_is)
    ∙ ap (λ b. b || list_any begins_mark (lines_of (drop_through 10 rest))) (sym is ∙ fails) ∙ ap (λ (l : List ℕ). list_any begins_mark (lines_of l)) (sym more_is)

pub any_here : (whole : Bool) (rest line : List ℕ) (begins : Bool) → line ≡ take_through 10 rest → 0 < length rest → begins ≡ begins_mark line → begins ≡ true
    → whole ≡ list_any begins_mark (lines_of rest) → true ≡ whole
any_here whole rest line begins line_is some is holds so_far =
    sym (so_far ∙ ap (list_any begins_mark) (lines_of-step rest some) ∙ ap (λ (l : List ℕ). begins_mark l || list_any begins_mark (lines_of (drop_through 10 rest))) (sym line_is)
    ∙ ap (λ b. b || list_any begins_mark (lines_of (drop_through 10 rest))) (sym is ∙ holds))

-- ---- a mark before the last line

pub early_none : (rest : List ℕ) (n : ℕ) → length rest ≡ 0 → None ≡ early_from n (lines_of rest)
unfolding early_from
early_none rest n none = sym (ap (λ (l : List ℕ). early_from n (lines_of l)) (none_left rest none))

-- a line is the last
pub early_last : (rest : List ℕ) (n : ℕ) → length (drop_through 10 rest) ≡ 0 → None ≡ early_from n (lines_of rest)
unfolding early_from
early_last [] n none = refl
early_last (x ∷ xs) n none =
    let rest = x ∷ xs in
    sym (ap (early_from n) (lines_of-step rest (omega arith)) ∙ ap (λ (l : List ℕ). early_from n (take_through 10 rest ∷ lines_of l)) (none_left (drop_through 10 rest) none))

pub some_of : (xs : List ℕ) → 0 < length (drop_through 10 xs) → 0 < length xs
some_of xs some = omega (arith, some, drop_less xs)

-- others stand after it
early_step : (rest : List ℕ) (n : ℕ) → 0 < length (drop_through 10 rest)
    → early_from n (lines_of rest) ≡ cond (begins_mark (take_through 10 rest)) (Some n) (early_from (n + 1) (lines_of (drop_through 10 rest)))
unfolding early_from
early_step rest n some =
    let more = drop_through 10 rest in
    let next = lines_of-step more some in
    ap (early_from n) (lines_of-step rest (some_of rest some)) ∙ ap (λ (l : List (List ℕ)). early_from n (take_through 10 rest ∷ l)) next
    ∙ ap (λ (l : List (List ℕ)). cond (begins_mark (take_through 10 rest)) (Some n) (early_from (n + 1) l)) (sym next)

pub early_here : (whole : Option ℕ) (rest line more : List ℕ) (n : ℕ) (begins : Bool) → line ≡ take_through 10 rest → more ≡ drop_through 10 rest → 0 < length more → begins ≡ begins_mark line → begins ≡ true
    → whole ≡ early_from n (lines_of rest) → Some n ≡ whole
early_here whole rest line more n begins line_is more_is some is holds so_far =
    let some' = subst (λ (l : List ℕ). 0 < length l) more_is some in
    sym (so_far ∙ early_step rest n some' ∙ ap (λ b. cond b (Some n) (early_from (n + 1) (lines_of (drop_through 10 rest)))) (ap begins_mark (sym line_is) ∙ sym is ∙ holds))

pub early_more : (whole : Option ℕ) (rest line more : List ℕ) (n : ℕ) (begins : Bool) → line ≡ take_through 10 rest → more ≡ drop_through 10 rest → 0 < length more → begins ≡ begins_mark line → begins ≡ false
    → whole ≡ early_from n (lines_of rest) → whole ≡ early_from (n + 1) (lines_of more)
early_more whole rest line more n begins line_is more_is some is fails so_far =
    let some' = subst (λ (l : List ℕ). 0 < length l) more_is some in
    so_far ∙ early_step rest n some' ∙ ap (λ b. cond b (Some n) (early_from (n + 1) (lines_of (drop_through 10 rest)))) (ap begins_mark (sym line_is) ∙ sym is ∙ fails)
    ∙ ap (λ (l : List ℕ). early_from (n + 1) (lines_of l)) (sym more_is)
