-- The lines of an input, with their ends.
use Rattle.std.proofs.Common.{◌≡◌, ◌<◌, ◌≤◌, ◌+◌, ◌-◌, ◌++◌, ◌∷◌, ◌⊎◌, ◌&&◌, ⊎_elim, [], ℕ, suc, List, Bool, true, false, true≢false, cond, eqb, nat_lt, nat_le, length, take, get_or, refl, sym, ap, subst, ◌∙◌, arith, length-append, eqb-true, inl, inr, codes}
use Rattle.std.proofs.lemmas.Bool.Decides.{nat_tests}
use Rattle.std.proofs.lemmas.List.{get_or-append-add}
use Rattle.std.specs.Fmt.{digits, decimal}
use Rattle.std.specs.Io.BufRead.{ends_with_byte, strip_last, take_through}
use Rattle.gs_shell_line.specs.Line.{content, longest_line}
use Rattle.gs_shell_script.specs.Run.{bad_line_text, lines_of, memory_text, onto}
use Rattle.gs_shell_script.proofs.Lines.{lines_of-step}
use Rattle.gs_keep_mark.specs.Marks.{starts_mark}
use Rattle.gs_keep_mark.specs.Started.{IsInLine, IsPlain}
use Rattle.gs_keep.specs.Lines.{is_logged}

-- ---- two answers

is_33 : decimal 33 ≡ 51 ∷ 51 ∷ []
unfolding digits
is_33 = refl

pub memory_is : codes "refused 33 Memory" ≡ memory_text
memory_is = rw is_33 refl

is_34 : decimal 34 ≡ 51 ∷ 52 ∷ []
unfolding digits
is_34 = refl

pub bad_line_is : codes "refused 34 BadLine" ≡ bad_line_text
bad_line_is = rw is_34 refl

-- ---- the end of a line

last_is : (xs : List ℕ) (c b : ℕ) → ends_with_byte b (xs ++ c ∷ []) ≡ eqb c b
last_is xs c b =
    let ys = xs ++ c ∷ [] in
    let n : length ys - 1 ≡ length xs + 0 = omega (arith, length-append xs (c ∷ [])) in
    let some : nat_lt 0 (length ys) ≡ true = ap (nat_lt 0) (length-append xs (c ∷ [])) ∙ positive (length xs) in
    ap (λ t. t && eqb (get_or ys (length ys - 1) 0) b) some ∙ ap (λ i. eqb (get_or ys i 0) b) n ∙ ap (λ v. eqb v b) (get_or-append-add xs (c ∷ []) 0 0)
  where
    positive : (m : ℕ) → nat_lt 0 (m + 1) ≡ true
    positive m = grind (arith, nat_tests)

last_of : (x : ℕ) (xs : List ℕ) → (done : List ℕ) × (last : ℕ) × (x ∷ xs ≡ done ++ last ∷ [])
last_of x [] = ([], x, refl)
last_of x (y ∷ ys) = let (done, last, is) = last_of y ys in (x ∷ done, last, ap (λ (l : List ℕ). x ∷ l) is)

in_line_last : (xs : List ℕ) (c : ℕ) → IsInLine (xs ++ c ∷ []) → eqb c 10 ≡ false
in_line_last [] c one = one.0
in_line_last (x ∷ xs) c one = in_line_last xs c one.1

ends_in_line : (xs : List ℕ) → IsInLine xs → ends_with_byte 10 xs ≡ false
ends_in_line [] one = refl
ends_in_line (x ∷ xs) one =
    let (done, last, is) = last_of x xs in
    ap (ends_with_byte 10) is ∙ last_is done last 10 ∙ in_line_last done last (subst IsInLine is one)

-- ---- a line of an input

-- bytes without a line's end, and then one or none
abbrev IsOneLine : List ℕ → Type 0
IsOneLine line = (body : List ℕ) × IsInLine body × ((line ≡ body ++ 10 ∷ []) ⊎ (line ≡ body))

abbrev FirstIsLine : List (List ℕ) → Type 0
FirstIsLine [] = Unit {0}
FirstIsLine (line ∷ lines) = IsOneLine line

one_longer : (x : ℕ) (line : List ℕ) → eqb x 10 ≡ false → IsOneLine line → IsOneLine (x ∷ line)
one_longer x line other (body, one, is) =
    (x ∷ body, (other, one), ⊎_elim (λ e. inl (ap (λ (l : List ℕ). x ∷ l) e)) (λ e. inr (ap (λ (l : List ℕ). x ∷ l) e)) is)

onto_line : (x : ℕ) (lines : List (List ℕ)) → eqb x 10 ≡ false → FirstIsLine lines → FirstIsLine (onto x lines)
onto_line x [] other all = (x ∷ [], (other, tt), inr refl)
onto_line x (line ∷ lines) other all = one_longer x line other all

first_is_line : (xs : List ℕ) → FirstIsLine (lines_of xs)
first_is_line [] = tt
first_is_line (x ∷ xs) = at (eqb x 10) refl (first_is_line xs)
  where
    at : (b : Bool) → eqb x 10 ≡ b → FirstIsLine (lines_of xs) → FirstIsLine (cond b ((x ∷ []) ∷ lines_of xs) (onto x (lines_of xs)))
    at true e rest = ([], tt, inl (ap (λ (n : ℕ). n ∷ []) (eqb-true x 10 e)))
    at false e rest = onto_line x (lines_of xs) e rest

-- the next line, where it has its end and is no mark
pub next_plain : (xs : List ℕ) → 0 < length xs → ends_with_byte 10 (take_through 10 xs) ≡ true → starts_mark (take_through 10 xs) ≡ false → IsPlain (take_through 10 xs)
next_plain xs some ends plain =
    let (body, one, is) = subst FirstIsLine (lines_of-step xs some) (first_is_line xs) in
    ⊎_elim (λ e. record { body = body; within = one; ended = e; plain = plain })
    (λ e. absurd (true≢false (sym ends ∙ ap (ends_with_byte 10) e ∙ ends_in_line body one))) is

-- ---- a line that is a mark is none of the grammar

strip_front : (b : ℕ) (xs : List ℕ) → eqb 35 b ≡ false → (ys : List ℕ) × (strip_last b (35 ∷ xs) ≡ 35 ∷ ys)
strip_front b [] other = ([], ap (λ t. cond t (take (1 - 1) (35 ∷ [])) (35 ∷ [])) other)
strip_front b (z ∷ zs) other = at (ends_with_byte b (35 ∷ z ∷ zs)) refl
  where
    whole : List ℕ
    whole = 35 ∷ z ∷ zs

    at : (t : Bool) → ends_with_byte b whole ≡ t → (ys : List ℕ) × (strip_last b whole ≡ 35 ∷ ys)
    at true e =
        let n : length whole - 1 ≡ suc (length zs) = omega arith in
        (take (length zs) (z ∷ zs), ap (λ t. cond t (take (length whole - 1) whole) whole) e ∙ ap (λ k. take k whole) n)
    at false e = (z ∷ zs, ap (λ t. cond t (take (length whole - 1) whole) whole) e)

content_mark : (xs : List ℕ) → (ys : List ℕ) × (content (35 ∷ xs) ≡ 35 ∷ ys)
content_mark xs = at (ends_with_byte 10 (35 ∷ xs)) refl
  where
    at : (t : Bool) → ends_with_byte 10 (35 ∷ xs) ≡ t → (ys : List ℕ) × (content (35 ∷ xs) ≡ 35 ∷ ys)
    at true e =
        let (front, is) = strip_front 10 xs refl in
        let (ys, is') = strip_front 13 front refl in
        (ys, ap (λ t. cond t (strip_last 13 (strip_last 10 (35 ∷ xs))) (35 ∷ xs)) e ∙ ap (strip_last 13) is ∙ is')
    at false e = (xs, ap (λ t. cond t (strip_last 13 (strip_last 10 (35 ∷ xs))) (35 ∷ xs)) e)

no_and : (a : Bool) → (a && false) ≡ false
no_and true = refl
no_and false = refl

pub other_unlogged : (is_kept : List ℕ → Bool) (line : List ℕ) → is_kept (content line) ≡ false → is_logged is_kept line ≡ false
other_unlogged is_kept line other = ap (λ b. nat_le (length (content line)) longest_line && b) other ∙ no_and (nat_le (length (content line)) longest_line)

pub marks_unlogged : (is_kept : List ℕ → Bool) → ((line : List ℕ) → is_kept (35 ∷ line) ≡ false) → (line : List ℕ) → starts_mark line ≡ true → is_logged is_kept line ≡ false
marks_unlogged is_kept none [] mark = absurd (true≢false (sym mark))
marks_unlogged is_kept none (x ∷ xs) mark =
    let (ys, is) = content_mark xs in
    let same : x ∷ xs ≡ 35 ∷ xs = ap (λ (n : ℕ). n ∷ xs) (eqb-true x 35 mark) in
    other_unlogged is_kept (x ∷ xs) (ap (λ (l : List ℕ). is_kept (content l)) same ∙ ap is_kept is ∙ none ys)

pub logged_unmarked : (is_kept : List ℕ → Bool) → ((line : List ℕ) → is_kept (35 ∷ line) ≡ false) → (line : List ℕ) → is_logged is_kept line ≡ true → starts_mark line ≡ false
logged_unmarked is_kept none line logged = at (starts_mark line) refl
  where
    at : (b : Bool) → starts_mark line ≡ b → starts_mark line ≡ false
    at true e = absurd (true≢false (sym logged ∙ marks_unlogged is_kept none line e))
    at false e = e

pub short_test : (n m : ℕ) → n ≤ m → nat_le n m ≡ true
short_test n m h = grind (arith, nat_tests)

pub long_test : (n m : ℕ) → m < n → nat_le n m ≡ false
long_test n m h = grind (arith, nat_tests)

pub short_logged : (is_kept : List ℕ → Bool) (line : List ℕ) → length (content line) ≤ longest_line → is_kept (content line) ≡ true → is_logged is_kept line ≡ true
short_logged is_kept line short kept =
    ap (λ b. b && is_kept (content line)) (short_test (length (content line)) longest_line short) ∙ kept

pub long_unlogged : (is_kept : List ℕ → Bool) (line : List ℕ) → longest_line < length (content line) → is_logged is_kept line ≡ false
long_unlogged is_kept line long = ap (λ b. b && is_kept (content line)) (long_test (length (content line)) longest_line long)
