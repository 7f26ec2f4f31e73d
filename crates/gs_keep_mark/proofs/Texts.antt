-- What totals come to behind a batch.
use Rattle.std.proofs.Common.{◌≡◌, ◌<◌, ◌+◌, ◌++◌, ◌∷◌, [], ℕ, List, length, map, sym, ap, ◌∙◌, arith, append_assoc, append-nil, length-append}
use Rattle.gs_keep_mark.specs.Marks.{Entry, Totals, behind, mark_of, noted, text_of, with_batch}
use Rattle.gs_keep_mark.specs.Started.{answers_of}
use Rattle.gs_keep_mark.proofs.Lines.{mark_long}

pub text_with : (t : Totals) (batch : List Entry) → (with_batch t batch).text ≡ t.text ++ text_of batch
text_with t [] = sym (append-nil t.text)
text_with t (e ∷ batch) = text_with (noted t e) batch ∙ append_assoc t.text e.line (text_of batch)

pub answers_with : (t : Totals) (batch : List Entry) → (with_batch t batch).answers ≡ t.answers ++ answers_of batch
answers_with t [] = sym (append-nil t.answers)
answers_with t (e ∷ batch) =
    let more = answers_of batch in
    answers_with (noted t e) batch ∙ append_assoc (t.answers ++ e.answer) (10 ∷ []) more ∙ append_assoc t.answers e.answer (10 ∷ more)
    ∙ ap (λ (l : List ℕ). t.answers ++ l) (sym (append_assoc e.answer (10 ∷ []) more))

pub count_with : (t u : Totals) (one other : List Entry) → t.count ≡ u.count → map (λ (e : Entry). e.line) one ≡ map (λ (e : Entry). e.line) other → (with_batch t one).count ≡ (with_batch u other).count
count_with t u [] [] same lines = same
count_with t u [] (f ∷ other) same lines = absurd (omega (arith, ap length lines))
count_with t u (e ∷ one) [] same lines = absurd (omega (arith, ap length lines))
count_with t u (e ∷ one) (f ∷ other) same lines =
    count_with (noted t e) (noted u f) one other (ap (λ (n : ℕ). n + 1) same) (tail_same (e.line ∷ map (λ (e : Entry). e.line) one) (f.line ∷ map (λ (e : Entry). e.line) other) lines)
  where
    tail : List (List ℕ) → List (List ℕ)
    tail [] = []
    tail (x ∷ xs) = xs

    tail_same : (xs ys : List (List ℕ)) → xs ≡ ys → tail xs ≡ tail ys
    tail_same xs ys h = ap tail h

pub totals_same : (t u : Totals) → t.count ≡ u.count → t.text ≡ u.text → t.answers ≡ u.answers → t ≡ u
totals_same t u count text answers = λ i. record { count = count i; text = text i; answers = answers i }

-- a batch makes a text longer, and its mark still more
pub text_grows : (t : Totals) (batch : List Entry) → length t.text < length (behind t batch).text
text_grows t batch =
    omega (arith, ap length (text_with t batch), length-append t.text (text_of batch), length-append (with_batch t batch).text (mark_of (with_batch t batch)), mark_long (with_batch t batch))

pub text_passed : (t : Totals) (batch : List Entry) → length (with_batch t batch).text < length (behind t batch).text
text_passed t batch = omega (arith, length-append (with_batch t batch).text (mark_of (with_batch t batch)), mark_long (with_batch t batch))

pub text_at_least : (t : Totals) (batch : List Entry) → length t.text < length (with_batch t batch).text + 1
text_at_least t batch = omega (arith, ap length (text_with t batch), length-append t.text (text_of batch))
