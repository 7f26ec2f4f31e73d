-- The text that is answered to a line.
use Rattle.std.specs.Prelude.{◌≡◌, ◌⊎◌, ℕ, List, MatchOption, Result, Err}
use Rattle.gs_base.specs.declared.refusal.Refusal.{Refusal}
use Rattle.gs_base.specs.declared.refusal.Refusal.TheVariants as refusals
use Rattle.gs_shell_calls.specs.Texts.{answer_text}
use Rattle.gs_shell_calls.specs.declared.answer.Answer.{Answer}
use Rattle.gs_shell_grammar.specs.Grammar.{line_request}
use Rattle.gs_shell_script.specs.Run.{memory_text}
use Rattle.gs_shell_threads.specs.Lines.{Comes}
use Rattle.gs_shell_threads.specs.declared.desk.Desk.{Desk}

-- the text of an answer, unless memory is wanting for it
abbrev pub IsText : Result Answer Refusal → List ℕ → Type 0
IsText answer text = (text ≡ answer_text answer) ⊎ (text ≡ memory_text)

-- What a line comes to is answered; a line that asks for nothing is bad. Or memory is wanting to read the line, and nothing happens.
unfoldable pub AnswersText : {N D T : Type 0} → (D → List ℕ) → (D → ℕ) → Desk N D T → List ℕ → List ℕ → Desk N D T → Type 0
AnswersText seen failures old line text new =
    ((text ≡ memory_text) × (new ≡ old))
    ⊎ MatchOption (line_request line) (IsText (Err refusals.BadLine) text × (new ≡ old))
    (λ request. (answer : Result Answer Refusal) × Comes seen failures request old answer new × IsText answer text)
