-- Lines at the beginning of an input are answered as they would be if there were no others.
use Rattle.std.proofs.Common.{◌≡◌, ◌∙◌, ◌++◌, ℕ, zero, suc, List, [], ◌∷◌, length, take, refl, sym, ap, subst, append_assoc}
use Rattle.std.specs.Prelude.{None}
use Rattle.gs_base.specs.declared.config.Config.{Config}
use Rattle.gs_shell_desk.specs.Answering.{AnswersText}
use Rattle.gs_shell_desk.specs.Starting.{Starts}
use Rattle.gs_shell_desk.specs.declared.desk.Desk.{Desk}
use Rattle.gs_shell_script.specs.Run.{Runs, lines_of}
use Rattle.gs_laws_scripts.proofs.lemmas.plain.Stopping.{front, lines_of_front, one_more, take_front}
use Rattle.gs_laws_scripts.proofs.lemmas.answers.PlainAnswers.{script_is_answered}
use Rattle.gs_laws_scripts.specs.answers.Meeting.{WentWell}
use Rattle.gs_laws_scripts.specs.answers.Plain.{PlainDesk, answers_all, answers_line, answers_of, begins}
use Rattle.gs_laws_scripts.specs.stops.Stopped.{AnswerBeginning, AnswersUntilAReadFails, AnswersUntilAWriteFails}

-- what so many lines are answered doesn't depend on those behind them
first_answers : (many : ℕ) (lines : List (List ℕ)) (w : PlainDesk) → (answers_all (take many lines) w).0 ≡ take many (answers_all lines w).0
first_answers zero lines w = refl
first_answers (suc many) [] w = refl
first_answers (suc many) (line ∷ lines) w = ap (λ texts. (answers_line line w).0 ∷ texts) (first_answers many lines (answers_line line w).1)

answers_of_front : (config : Config) (many : ℕ) (input : List ℕ) → answers_of config (front many input) ≡ take many (answers_of config input)
answers_of_front config many input = ap (λ lines. (answers_all lines (begins config)).0) (lines_of_front many input) ∙ first_answers many (lines_of input) (begins config)

module _ {D : Type 0} (seen : D → List ℕ) (failures : D → ℕ) (config : Config) (disks : D × D) where
  whole_input : (begun desk : Desk D) → Starts seen failures config disks begun → (input : List ℕ) (texts : List (List ℕ)) → Runs (AnswersText seen failures) begun (lines_of input) texts desk → WentWell seen failures disks texts desk → texts ≡ answers_of config input
  whole_input begun desk starts input texts runs well =
      (script_is_answered seen failures config disks well.empty.0 well.empty.1 input None None (record { begun = begun; ended = desk; starts = starts; writes = record { texts = texts; runs = runs; whole = tt } }) well).0

  -- lines at the beginning of an input are answered by the function, whatever comes after them
  pub by_the_function : (begun desk : Desk D) → Starts seen failures config disks begun → (input : List ℕ) (lines more texts : List (List ℕ)) → lines_of input ≡ lines ++ more → Runs (AnswersText seen failures) begun lines texts desk → WentWell seen failures disks texts desk → texts ≡ (answers_all lines (begins config)).0
  by_the_function begun desk starts input lines more texts parts runs well =
      let is : lines_of (front (length lines) input) ≡ lines = lines_of_front (length lines) input ∙ ap (take (length lines)) parts ∙ take_front lines more in
      whole_input begun desk starts (front (length lines) input) texts (subst (λ ls. Runs (AnswersText seen failures) begun ls texts desk) (sym is) runs) well ∙ ap (λ ls. (answers_all ls (begins config)).0) is

  -- lines at the beginning of an input are all lines of a shorter one
  first_lines : (begun desk : Desk D) → Starts seen failures config disks begun → (input : List ℕ) (lines more texts : List (List ℕ)) → lines_of input ≡ lines ++ more → Runs (AnswersText seen failures) begun lines texts desk → WentWell seen failures disks texts desk → AnswerBeginning config input lines texts
  first_lines begun desk starts input lines more texts parts runs well =
      let is : lines_of (front (length lines) input) ≡ lines = lines_of_front (length lines) input ∙ ap (take (length lines)) parts ∙ take_front lines more in
      whole_input begun desk starts (front (length lines) input) texts (subst (λ ls. Runs (AnswersText seen failures) begun ls texts desk) (sym is) runs) well ∙ answers_of_front config (length lines) input

  pub answers_until_a_read_fails : AnswersUntilAReadFails seen failures config disks
  answers_until_a_read_fails input left old new s well =
      first_lines s.begun s.ended s.starts input s.fails.lines (lines_of s.fails.rest) s.fails.written.texts s.fails.parts s.fails.written.runs well

  pub answers_until_a_write_fails : AnswersUntilAWriteFails seen failures config disks
  answers_until_a_write_fails input left old new s = (
    λ well. first_lines s.begun s.fails.before s.starts input s.fails.lines (s.fails.line ∷ lines_of s.fails.rest) s.fails.written.texts s.fails.parts s.fails.written.runs well,
    λ well. first_lines s.begun s.ended s.starts input (s.fails.lines ++ s.fails.line ∷ []) (lines_of s.fails.rest) (s.fails.written.texts ++ s.fails.text ∷ [])
        (s.fails.parts ∙ sym (append_assoc s.fails.lines (s.fails.line ∷ []) (lines_of s.fails.rest)))
        (one_more (AnswersText seen failures) s.fails.lines s.fails.written.texts s.fails.line s.fails.text s.begun s.fails.before s.ended s.fails.written.runs s.fails.answers) well,
  )
