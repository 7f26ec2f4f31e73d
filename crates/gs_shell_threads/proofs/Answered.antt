-- The text of what a line came to.
use Rattle.std.proofs.Common.{◌≡◌, ℕ, List, Option, Some, None, MatchOption, IfOk, OnErr, Result, Ok, Err, inl, inr, refl, subst, sym}
use Rattle.gs_base.specs.declared.refusal.Refusal.{Refusal}
use Rattle.gs_base.specs.declared.refusal.Refusal.TheVariants as refusals
use Rattle.gs_shell_calls.specs.Texts.{answer_text}
use Rattle.gs_shell_calls.specs.declared.answer.Answer.{Answer}
use Rattle.gs_shell_grammar.specs.Grammar.{Request, line_request}
use Rattle.gs_shell_script.specs.Run.{memory_text}
use Rattle.gs_shell_threads.specs.Answering.{AnswersText, IsText}
use Rattle.gs_shell_threads.specs.Lines.{Comes}
use Rattle.gs_shell_threads.specs.declared.desk.Desk.{Desk}

module _ {N D T : Type 0} (seen : D → List ℕ) (failures : D → ℕ) (old new : Desk N D T) (line : List ℕ) where
  -- what answers a line that asks for something, or for nothing
  abbrev MayAnswer : List ℕ → Option Request → Type 0
  MayAnswer text asked =
      MatchOption asked (IsText (Err refusals.BadLine) text × (new ≡ old)) (λ r. (a : Result Answer Refusal) × Comes seen failures r old a new × IsText a text)

  came : (request : Request) (answer : Result Answer Refusal) (text : List ℕ) → line_request line ≡ Some request → Comes seen failures request old answer new → IsText answer text
      → AnswersText seen failures old line text new
  unfolding AnswersText
  came request answer text is comes told = inr (subst (MayAnswer text) (sym is) (answer, comes, told))

  bad : (text : List ℕ) → line_request line ≡ None → new ≡ old → IsText (Err refusals.BadLine) text → AnswersText seen failures old line text new
  unfolding AnswersText
  bad text is same told = inr (subst (MayAnswer text) (sym is) (told, same))

module _ {N D T A E : Type 0} (bytes : A → List ℕ) (seen : D → List ℕ) (failures : D → ℕ) (old new : Desk N D T) (line : List ℕ) where
  pub came_to : (request : Request) (answer : Result Answer Refusal) (r : Result A E) → line_request line ≡ Some request → Comes seen failures request old answer new
      → IfOk r (λ t. bytes t ≡ answer_text answer) → IfOk r (λ t. AnswersText seen failures old line (bytes t) new)
  came_to request answer (Ok t) is comes same = came seen failures old new line request answer (bytes t) is comes (inl same)
  came_to request answer (Err e) is comes same = tt

  pub came_untold : (request : Request) (answer : Result Answer Refusal) (r : Result A E) → line_request line ≡ Some request → Comes seen failures request old answer new
      → OnErr r (AnswersText seen failures old line memory_text new)
  came_untold request answer (Ok t) is comes = tt
  came_untold request answer (Err e) is comes = came seen failures old new line request answer memory_text is comes (inr refl)

  pub bad_line : (r : Result A E) → line_request line ≡ None → new ≡ old → IfOk r (λ t. bytes t ≡ answer_text (Err refusals.BadLine))
      → IfOk r (λ t. AnswersText seen failures old line (bytes t) new)
  bad_line (Ok t) is same told = bad seen failures old new line (bytes t) is same (inl told)
  bad_line (Err e) is same told = tt

  pub bad_line_untold : (r : Result A E) → line_request line ≡ None → new ≡ old → OnErr r (AnswersText seen failures old line memory_text new)
  bad_line_untold (Ok t) is same = tt
  bad_line_untold (Err e) is same = bad seen failures old new line memory_text is same (inr refl)

-- memory is wanting to read the line
pub unread : {N D T : Type 0} (seen : D → List ℕ) (failures : D → ℕ) (old : Desk N D T) (line : List ℕ) → AnswersText seen failures old line memory_text old
unfolding AnswersText
unread seen failures old line = inl (refl, refl)
