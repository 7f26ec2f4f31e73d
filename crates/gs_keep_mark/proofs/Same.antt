-- Logs of which the same digests are told are the same.
use Rattle.std.proofs.Common.{◌≡◌, ◌++◌, ◌∷◌, [], ℕ, List, length, map, flat_map, refl, sym, ap, ◌∙◌, arith, append_assoc, append-nil, length-append}
use Rattle.gs_keep_mark.specs.Before.{ToldAlikeAreTheSame}
use Rattle.gs_keep_mark.specs.Marks.{Entry, Totals, begins_from, behind, mark_of, marked, text_of, totals_behind, with_batch}
use Rattle.gs_keep_mark.specs.Started.{AreBatches, answers_of}
use Rattle.gs_keep_mark.proofs.Lines.{batch_same, mark_long, plain_whole, same_whole}
use Rattle.gs_keep_mark.proofs.Texts.{answers_with, text_with}

text_behind : (t : Totals) (batches : List (List Entry)) → (totals_behind t batches).text ≡ t.text ++ marked t batches
text_behind t [] = sym (append-nil t.text)
text_behind t (batch ∷ more) =
    let m = mark_of (with_batch t batch) in
    let back = marked (behind t batch) more in
    text_behind (behind t batch) more ∙ ap (λ (l : List ℕ). (l ++ m) ++ back) (text_with t batch)
    ∙ append_assoc (t.text ++ text_of batch) m back ∙ append_assoc t.text (text_of batch) (m ++ back)

answers_behind : (t : Totals) (batches : List (List Entry)) → (totals_behind t batches).answers ≡ t.answers ++ flat_map answers_of batches
answers_behind t [] = sym (append-nil t.answers)
answers_behind t (batch ∷ more) =
    let back = flat_map answers_of more in
    answers_behind (behind t batch) more ∙ ap (λ (l : List ℕ). l ++ back) (answers_with t batch) ∙ append_assoc t.answers (answers_of batch) back

-- a batch with its mark isn't nothing
some_marked : (t : Totals) (batch : List Entry) (more : List (List Entry)) → [] ≡ marked t (batch ∷ more) → ⊥
some_marked t batch more same =
    let m = mark_of (with_batch t batch) in
    let back = marked (behind t batch) more in
    absurd (omega (arith, ap length same, length-append (text_of batch) (m ++ back), length-append m back, mark_long (with_batch t batch)))

same_lines : (t u : Totals) (one other : List (List Entry)) → AreBatches one → AreBatches other → marked t one ≡ marked u other
    → map (map (λ (e : Entry). e.line)) one ≡ map (map (λ (e : Entry). e.line)) other
same_lines t u [] [] ones others same = refl
same_lines t u [] (c ∷ other) ones others same = absurd (some_marked u c other same)
same_lines t u (b ∷ one) [] ones others same = absurd (some_marked t b one (sym same))
same_lines t u (b ∷ one) (c ∷ other) ones others same =
    let (lines, mark, back) = batch_same (with_batch t b) (with_batch u c) b c (marked (behind t b) one) (marked (behind u c) other) ones.0 others.0 same in
    let more = same_lines (behind t b) (behind u c) one other ones.1 others.1 back in
    (λ i. lines i ∷ more i)

pub same_logs : ToldAlikeAreTheSame
same_logs among head other_head before other_before one other apart first other_first ones others known other_known told =
    let t = begins_from head before in
    let u = begins_from other_head other_before in
    let texts = apart (totals_behind t one).text (totals_behind u other).text known.text other_known.text told.text in
    let answers = apart (totals_behind t one).answers (totals_behind u other).answers known.answers other_known.answers told.answers in
    let (heads, back) = same_whole head other_head (marked t one) (marked u other) (plain_whole head first) (plain_whole other_head other_first)
    (sym (text_behind t one) ∙ texts ∙ text_behind u other) in
    record {
      first = heads;
      lines = same_lines t u one other ones others back;
      answers = sym (answers_behind t one) ∙ answers ∙ answers_behind u other;
    }
