-- What a desk may answer. A line that isn't of the grammar changes nothing, and is refused. A line of its own is due where a tick is.
use Rattle.std.specs.Prelude.{◌≡◌, ◌⊎◌, ◌∷◌, ◌++◌, ◌==◌, ◌&&◌, ℕ, List, [], Bool, Option, None, Some, codes, true, false, is_some, nat_lt, not, unwrap_or, MatchOption, refl}
use Rattle.std.specs.List.{onto_first, slice_split}
use Rattle.std.specs.Char.{encode_utf8}
use Rattle.std.specs.Fmt.{digits}
use Rattle.std.specs.Str.{chars, is_utf8}
use Rattle.std.proofs.Common.{ap, cond, inl, inr, subst, sym, true≢false, ◌∙◌}
use Rattle.gs_shell_grammar.specs.Grammar.{Request, ◌>>=◌, form_request, four_words, line_request, number_line, number_request, one_word, three_words, two_words, words_request}
use Rattle.gs_shell_grammar.specs.Operands.{number_of}
use Rattle.gs_shell_script.specs.Run.{bad_line_text, memory_text}
use Rattle.gs_shell_desk.specs.Answering.{AnswersText}
use Rattle.gs_keep.specs.Lines.{IsOwnLine, is_logged}
use Rattle.gs_keep_desk.specs.Looks.{harms_line}
use Rattle.gs_keep_desk.specs.Ticks.{due_line, bytes_between_ticks, since_tick, tick_line}
use Rattle.gs_keep_desk.specs.declared.KeptDesk.{KeptDesk}

-- where nothing is asked
none_asked : {A : Type 0} (asked : Option Request) (P : Type 0) (Q : Request → Type 0) (old new : A) → is_some asked ≡ false → MatchOption asked (P × (new ≡ old)) Q → new ≡ old
none_asked None P Q old new other h = h.1
none_asked (Some request) P Q old new other h = absurd (true≢false other)

-- A desk answers as ever: it is never by an answer that a line is turned away. Where a node lacked memory, now or before, each answer says so.
module _ {D : Type 0} (seen : D → List ℕ) (failures : D → ℕ) where
  pub record MayAnswer (old : KeptDesk D) (line text : List ℕ) (new : KeptDesk D) : Type 0 where
    pub lab : new.is_lab ≡ old.is_lab
    pub since : new.since ≡ since_tick old.since line text
    pub answers : AnswersText seen failures old.desk line text new.desk
    pub enough : (text ≡ memory_text) ⊎ (new.desk.wire.is_short ≡ false)

same_desk : {D : Type 0} (old new : KeptDesk D) → new.is_lab ≡ old.is_lab → new.since ≡ old.since → new.desk ≡ old.desk → new ≡ old
same_desk old new lab since desk =
    ap (λ d. record { desk = d; is_lab = new.is_lab; since = new.since }) desk ∙ ap (λ b. record { desk = old.desk; is_lab = b; since = new.since }) lab
    ∙ ap (λ n. record { desk = old.desk; is_lab = old.is_lab; since = n }) since

bad_line_is : bad_line_text ≡ codes "refused 34 BadLine"
unfolding digits
bad_line_is = refl

memory_is : memory_text ≡ codes "refused 33 Memory"
unfolding digits
memory_is = refl

-- what is answered so counts for nothing
passed_over : (n : ℕ) (line text : List ℕ) → (text ≡ bad_line_text) ⊎ (text ≡ memory_text) → since_tick n line text ≡ n
passed_over n line text (inl bad) = ap (λ t. since_tick n line t) (bad ∙ bad_line_is)
passed_over n line text (inr lacking) = ap (λ t. since_tick n line t) (lacking ∙ memory_is)

-- so does a line for which memory was lacking
pub memory_counts_nothing : (n : ℕ) (line : List ℕ) → since_tick n line memory_text ≡ n
memory_counts_nothing n line = passed_over n line memory_text (inr refl)

-- the answer where nothing is asked
none_answered : (asked : Option Request) (P R : Type 0) (Q : Request → Type 0) → is_some asked ≡ false → MatchOption asked (P × R) Q → P
none_answered None P R Q other h = h.0
none_answered (Some request) P R Q other h = absurd (true≢false other)

pub other_lines_are_refused : {D : Type 0} (seen : D → List ℕ) (failures : D → ℕ) (old new : KeptDesk D) (line text : List ℕ) → is_some (line_request line) ≡ false
    → MayAnswer seen failures old line text new → (text ≡ bad_line_text) ⊎ (text ≡ memory_text)
unfolding AnswersText
other_lines_are_refused seen failures old new line text other may = at may.answers
  where
    at : AnswersText seen failures old.desk line text new.desk → (text ≡ bad_line_text) ⊎ (text ≡ memory_text)
    at (inl h) = inr h.0
    at (inr h) = none_answered (line_request line) _ _ _ other h

pub other_lines_change_nothing : {D : Type 0} (seen : D → List ℕ) (failures : D → ℕ) (old new : KeptDesk D) (line text : List ℕ) → is_some (line_request line) ≡ false
    → MayAnswer seen failures old line text new → new ≡ old
unfolding AnswersText
other_lines_change_nothing seen failures old new line text other may = at may.answers
  where
    counted : new.since ≡ old.since
    counted = may.since ∙ passed_over old.since line text (other_lines_are_refused seen failures old new line text other may)

    at : AnswersText seen failures old.desk line text new.desk → new ≡ old
    at (inl h) = same_desk old new may.lab counted h.1
    at (inr h) = same_desk old new may.lab counted (none_asked (line_request line) _ _ old.desk new.desk other h)

-- ---- lines of its own

-- what is due is a tick
is_due : (n : ℕ) (line : List ℕ) → due_line n ≡ Some line → line ≡ tick_line ++ 10 ∷ []
is_due n line due = at (nat_lt n bytes_between_ticks) due
  where
    at : (b : Bool) → cond b None (Some (tick_line ++ 10 ∷ [])) ≡ Some line → line ≡ tick_line ++ 10 ∷ []
    at true h = absurd (true≢false (sym (ap is_some h)))
    at false h = sym (ap (λ o. unwrap_or o []) h)

-- a tick harms nothing, be it in a lab or not
not_turned_away : (is_lab : Bool) → not is_lab && harms_line tick_line ≡ false
unfolding one_word is_utf8 chars encode_utf8
not_turned_away true = refl
not_turned_away false = refl

a_tick_is_logged : is_logged (λ line. is_some (line_request line)) (tick_line ++ 10 ∷ []) ≡ true
unfolding one_word is_utf8 chars encode_utf8
a_tick_is_logged = refl

-- For any machine that turns away what harms the store, unless it is one of a lab.
module _ {S : Type 0} (is_lab : S → Bool) (s : S) where
  abbrev IsOwn : List ℕ → Type 0
  IsOwn line = IsOwnLine (λ line. is_some (line_request line)) (λ s line. not (is_lab s) && harms_line line) s line

  a_tick_stands : IsOwn (tick_line ++ 10 ∷ [])
  a_tick_stands = record {
    body = tick_line;
    within = (refl, (refl, (refl, (refl, tt))));
    ended = refl;
    logged = a_tick_is_logged;
    taken = not_turned_away (is_lab s);
  }

  -- What is due may stand in a log, and isn't turned away.
  pub due_lines_stand : (n : ℕ) (line : List ℕ) → due_line n ≡ Some line → IsOwnLine (λ line. is_some (line_request line)) (λ s line. not (is_lab s) && harms_line line) s line
  due_lines_stand n line due = subst IsOwn (sym (is_due n line due)) a_tick_stands

-- ---- what begins as a mark is none of the grammar

number_none : (w : List ℕ) (o : Option ℕ) → (o >>= λ n. number_request (35 ∷ w) n) ≡ None
number_none w None = refl
number_none w (Some n) = refl

form_none : (w : List ℕ) (ws : List (List ℕ)) → form_request ((35 ∷ w) ∷ ws) ≡ None
unfolding one_word two_words three_words four_words number_line
form_none w [] = refl
form_none w (a ∷ []) = number_none w (number_of a)
form_none w (a ∷ b ∷ []) = refl
form_none w (a ∷ b ∷ c ∷ []) = refl
form_none w (a ∷ b ∷ c ∷ d ∷ ws) = refl

none_if : {X : Type 0} (b : Bool) (o : Option X) → o ≡ None → cond b o None ≡ None
none_if true o none = none
none_if false o none = refl

words_none : (w : List ℕ) (ws : List (List ℕ)) → words_request ((35 ∷ w) ∷ ws) ≡ None
words_none w ws = none_if _ (form_request ((35 ∷ w) ∷ ws)) (form_none w ws)

split_none : (words : List (List ℕ)) → words_request (onto_first 35 words) ≡ None
split_none [] = words_none [] []
split_none (w ∷ ws) = words_none w ws

pub marks_are_none : (line : List ℕ) → is_some (line_request (35 ∷ line)) ≡ false
marks_are_none line = ap is_some (none_if (is_utf8 (35 ∷ line)) (words_request (slice_split (λ b. b == 32) (35 ∷ line))) (split_none (slice_split (λ b. b == 32) line)))
