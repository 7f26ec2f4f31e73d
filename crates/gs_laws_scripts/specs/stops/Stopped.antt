-- What a script is answered before a read or a write fails.
use Rattle.std.specs.Prelude.{[], ◌++◌, ◌∷◌, ◌≡◌, ◌≢◌, List, Option, Some, codes, length, refl, take, ℕ}
use Rattle.std.proofs.Common.{arith}
use Rattle.std.proofs.lemmas.List.Elements.{All-cons, All-nil}
use Rattle.std.specs.Char.{encode_utf8}
use Rattle.std.specs.Str.{chars, is_utf8}
use Rattle.gs_base.specs.declared.config.Config.{Config}
use Rattle.gs_shell.specs.Serving.{StopsServing}
use Rattle.gs_shell_grammar.specs.Grammar.{number_line, two_words}
use Rattle.gs_laws_scripts.specs.answers.Meeting.{WentWell}
use Rattle.gs_shell_script.specs.Run.{StopsReading, WritesAnswers}
use Rattle.gs_shell_script.specs.declared.RunFault.TheVariants as fault
use Rattle.gs_laws_scripts.specs.answers.Plain.{answers_of, delivers}

-- Lines at the beginning of an input are answered by these texts: as many as there are lines, of those that the function gives for the whole input.
abbrev pub AnswerBeginning : Config → List ℕ → List (List ℕ) → List (List ℕ) → Type 0
AnswerBeginning config input lines texts = texts ≡ take (length lines) (answers_of config input)

-- So are the lines that were read before a read fails, over empty disks, where memory isn't wanting and no disk fails.
abbrev pub AnswersUntilAReadFails : {D : Type 0} → (D → List ℕ) → (D → ℕ) → Config → D × D → Type 0
AnswersUntilAReadFails seen failures config disks = (input : List ℕ) (left old new : Option (List ℕ)) (s : StopsServing seen failures config disks fault.Read (Some input) left old new) → WentWell seen failures disks s.fails.written.texts s.ended
    → AnswerBeginning config input s.fails.lines s.fails.written.texts

-- Where a write of an answer fails, so are the lines whose answers were written before, and these with the line of that answer, which is made though no more than a beginning of it is written.
abbrev pub AnswersUntilAWriteFails : {D : Type 0} → (D → List ℕ) → (D → ℕ) → Config → D × D → Type 0
AnswersUntilAWriteFails seen failures config disks = (input : List ℕ) (left old new : Option (List ℕ)) (s : StopsServing seen failures config disks fault.Write (Some input) left old new)
    → (WentWell seen failures disks s.fails.written.texts s.fails.before → AnswerBeginning config input s.fails.lines s.fails.written.texts)
    × (WentWell seen failures disks (s.fails.written.texts ++ s.fails.text ∷ []) s.ended → AnswerBeginning config input (s.fails.lines ++ s.fails.line ∷ []) (s.fails.written.texts ++ s.fails.text ∷ []))

-- ---- examples

abbrev four : Config
four = record { servers = 4; racks = 2; replicas = 3; block = 4; chunk = 16; valid = refl }

abbrev first : List ℕ
first = codes "at 5" ++ 10 ∷ []

-- in a store of four servers the first of two lines is answered
one_of_two_is_answered : AnswerBeginning four (first ++ codes "ls /") (first ∷ []) (codes "ok" ∷ [])
unfolding delivers two_words number_line is_utf8 chars encode_utf8
one_of_two_is_answered = refl

-- a read may fail in the second, and lose a byte of that
a_read_fails_in_the_second : {S : Type 0} (A : S → List ℕ → List ℕ → S → Type 0) (begun ended : S) (old new : Option (List ℕ)) → WritesAnswers A begun (first ∷ []) old new ended → StopsReading A begun (first ++ codes "ls /") (Some (codes "s /")) old new ended
a_read_fails_in_the_second A begun ended old new written = record { lines = first ∷ []; rest = codes "ls /"; parts = refl; left_in_rest = (codes "l", refl, All-cons (λ (x : ℕ). x ≢ 10) 108 [] other (All-nil (λ (x : ℕ). x ≢ 10))); written = written }
  where
    other : ◌≢◌ {A = ℕ} 108 10
    other is = omega arith
