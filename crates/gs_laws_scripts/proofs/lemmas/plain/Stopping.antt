-- The lines of a script that are answered before a read or a write fails.
use Rattle.std.proofs.Common.{◌≡◌, ◌∙◌, ◌++◌, ℕ, zero, suc, Bool, true, false, cond, eqb, List, [], ◌∷◌, length, take, refl, sym, ap, subst, append_assoc}
use Rattle.std.specs.Prelude.{None}
use Rattle.gs_base.specs.declared.config.Config.{Config}
use Rattle.gs_shell_desk.specs.Answering.{AnswersText}
use Rattle.gs_shell_desk.specs.Starting.{Starts}
use Rattle.gs_shell_desk.specs.declared.desk.Desk.{Desk}
use Rattle.gs_shell_script.specs.Run.{AnswersLine, Runs, lines_of, onto}
use Rattle.gs_laws_scripts.proofs.lemmas.plain.Answering.{scripts_are_plain}
use Rattle.gs_laws_scripts.specs.plain.Scripts.{ArePlain, ArePlainUntilAReadFails, ArePlainUntilAWriteFails}
use Rattle.gs_laws_scripts.specs.answers.Meeting.{WentWell}

-- ---- the beginning of an input that has so many of its lines

abbrev pub front : ℕ → List ℕ → List ℕ
front zero xs = []
front (suc many) [] = []
front (suc many) (x ∷ xs) = x ∷ cond (eqb x 10) (front many xs) (front (suc many) xs)

take_onto : (x : ℕ) (many : ℕ) (lines : List (List ℕ)) → onto x (take (suc many) lines) ≡ take (suc many) (onto x lines)
take_onto x zero [] = refl
take_onto x (suc many) [] = refl
take_onto x many (line ∷ lines) = refl

pub lines_of_front : (many : ℕ) (xs : List ℕ) → lines_of (front many xs) ≡ take many (lines_of xs)
lines_of_front zero xs = refl
lines_of_front (suc many) [] = refl
lines_of_front (suc many) (x ∷ xs) = at (eqb x 10) (lines_of_front many xs) (lines_of_front (suc many) xs)
  where
    at : (b : Bool) → lines_of (front many xs) ≡ take many (lines_of xs) → lines_of (front (suc many) xs) ≡ take (suc many) (lines_of xs)
        → cond b ((x ∷ []) ∷ lines_of (cond b (front many xs) (front (suc many) xs))) (onto x (lines_of (cond b (front many xs) (front (suc many) xs)))) ≡ take (suc many) (cond b ((x ∷ []) ∷ lines_of xs) (onto x (lines_of xs)))
    at true ends goes_on = ap (λ lines. (x ∷ []) ∷ lines) ends
    at false ends goes_on = ap (onto x) goes_on ∙ take_onto x many (lines_of xs)

pub take_front : (lines more : List (List ℕ)) → take (length lines) (lines ++ more) ≡ lines
take_front [] more = refl
take_front (line ∷ lines) more = ap (λ others. line ∷ others) (take_front lines more)

-- ---- one more line

pub one_more : {S : Type 0} (A : S → List ℕ → List ℕ → S → Type 0) (lines texts : List (List ℕ)) (line text : List ℕ) (old mid new : S) → Runs A old lines texts mid → AnswersLine A mid line text new → Runs A old (lines ++ line ∷ []) (texts ++ text ∷ []) new
one_more A [] [] line text old mid new same answers = (new, subst (λ s. AnswersLine A s line text new) same answers, refl)
one_more A (first ∷ lines) (said ∷ texts) line text old mid new (next, one, rest) answers = (next, one, one_more A lines texts line text next mid new rest answers)
one_more A [] (said ∷ texts) line text old mid new never answers = absurd never
one_more A (first ∷ lines) [] line text old mid new never answers = absurd never

-- ---- a run that is stopped

module _ {D : Type 0} (seen : D → List ℕ) (failures : D → ℕ) (config : Config) (disks : D × D) where
  whole_input : (begun desk : Desk D) → Starts seen failures config disks begun → (input : List ℕ) (texts : List (List ℕ)) → Runs (AnswersText seen failures) begun (lines_of input) texts desk → WentWell seen failures disks texts desk → ArePlain (lines_of input) texts
  whole_input begun desk starts input texts runs well =
      scripts_are_plain seen failures config disks input None None (record { begun = begun; ended = desk; starts = starts; writes = record { texts = texts; runs = runs; whole = tt } }) well

  -- lines at the beginning of an input are all lines of a shorter one
  pub first_lines : (begun desk : Desk D) → Starts seen failures config disks begun → (input : List ℕ) (lines more texts : List (List ℕ)) → lines_of input ≡ lines ++ more → Runs (AnswersText seen failures) begun lines texts desk → WentWell seen failures disks texts desk → ArePlain lines texts
  first_lines begun desk starts input lines more texts parts runs well =
      let is : lines_of (front (length lines) input) ≡ lines = lines_of_front (length lines) input ∙ ap (take (length lines)) parts ∙ take_front lines more in
      subst (λ ls. ArePlain ls texts) is (whole_input begun desk starts (front (length lines) input) texts (subst (λ ls. Runs (AnswersText seen failures) begun ls texts desk) (sym is) runs) well)

  pub are_plain_until_a_read_fails : ArePlainUntilAReadFails seen failures config disks
  are_plain_until_a_read_fails input left old new s well =
      first_lines s.begun s.ended s.starts input s.fails.lines (lines_of s.fails.rest) s.fails.written.texts s.fails.parts s.fails.written.runs well

  pub are_plain_until_a_write_fails : ArePlainUntilAWriteFails seen failures config disks
  are_plain_until_a_write_fails input left old new s = (
    λ well. first_lines s.begun s.fails.before s.starts input s.fails.lines (s.fails.line ∷ lines_of s.fails.rest) s.fails.written.texts s.fails.parts s.fails.written.runs well,
    λ well. first_lines s.begun s.ended s.starts input (s.fails.lines ++ s.fails.line ∷ []) (lines_of s.fails.rest) (s.fails.written.texts ++ s.fails.text ∷ [])
        (s.fails.parts ∙ sym (append_assoc s.fails.lines (s.fails.line ∷ []) (lines_of s.fails.rest)))
        (one_more (AnswersText seen failures) s.fails.lines s.fails.written.texts s.fails.line s.fails.text s.begun s.fails.before s.ended s.fails.written.runs s.fails.answers) well,
  )
