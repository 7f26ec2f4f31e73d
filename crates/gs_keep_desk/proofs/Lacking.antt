-- Memory may be lacking for the answer to any line.
use Rattle.std.proofs.Common.{◌≡◌, ℕ, List, false, Option, Some, None, MatchOption, Result, Ok, Err, IfOk, OnErr, inl, inr, refl, sym, ◌∙◌}
use Rattle.gs_shell_grammar.specs.Grammar.{Request, line_request}
use Rattle.gs_shell_script.specs.Run.{memory_text}
use Rattle.gs_shell_desk.specs.Answering.{AnswersText}
use Rattle.gs_shell_desk.specs.declared.desk.Desk.{Desk}
use Rattle.gs_keep_desk.specs.Keeps.{MayAnswer, memory_counts_nothing}
use Rattle.gs_keep_desk.specs.declared.KeptDesk.{KeptDesk}

same_lacking : (asked : Option Request) (none none' : Type 0) (some some' : Request → Type 0) → (none → none') → ((r : Request) → some r → some' r) → MatchOption asked none some → MatchOption asked none' some'
same_lacking None none none' some some' f g h = f h
same_lacking (Some r) none none' some some' f g h = g r h

pub lacking : {D : Type 0} (seen : D → List ℕ) (failures : D → ℕ) (old new : Desk D) (line text : List ℕ) → AnswersText seen failures old line text new → AnswersText seen failures old line memory_text new
unfolding AnswersText
lacking seen failures old new line text (inl h) = inl (refl, h.1)
lacking seen failures old new line text (inr h) = inr (same_lacking (line_request line) _ _ _ _ (λ none. (inr refl, none.1)) (λ r some. (some.0, some.1, inr refl)) h)

module _ {D : Type 0} (seen : D → List ℕ) (failures : D → ℕ) (line : List ℕ) where
  -- whatever was answered
  lacks : {A E : Type 0} (bytes : A → List ℕ) (old new : Desk D) (r : Result A E) → IfOk r (λ t. AnswersText seen failures old line (bytes t) new) → OnErr r (AnswersText seen failures old line memory_text new) → AnswersText seen failures old line memory_text new
  lacks bytes old new (Ok t) ok err = lacking seen failures old new line (bytes t) ok
  lacks bytes old new (Err e) ok err = err

  -- nothing is counted then
  module _ (old new : KeptDesk D) (lab : new.is_lab ≡ old.is_lab) (same : new.since ≡ old.since) where
    lacking_to : AnswersText seen failures old.desk line memory_text new.desk → MayAnswer seen failures old line memory_text new
    lacking_to answers = record { lab = lab; since = same ∙ sym (memory_counts_nothing old.since line); answers = answers; enough = inl refl }

    pub kept_lacks : {A E : Type 0} (bytes : A → List ℕ) (r : Result A E) → IfOk r (λ t. AnswersText seen failures old.desk line (bytes t) new.desk) → OnErr r (AnswersText seen failures old.desk line memory_text new.desk)
        → MayAnswer seen failures old line memory_text new
    kept_lacks bytes r ok err = lacking_to (lacks bytes old.desk new.desk r ok err)

    pub kept_fails : {T F : Type 0} (r : Result T F) → AnswersText seen failures old.desk line memory_text new.desk → OnErr r (MayAnswer seen failures old line memory_text new)
    kept_fails (Ok t) answers = tt
    kept_fails (Err e) answers = lacking_to answers
