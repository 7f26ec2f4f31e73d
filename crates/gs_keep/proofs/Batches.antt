-- Batches and lines, one behind the other.
use Rattle.std.proofs.Common.{◌≡◌, ◌≤◌, ◌+◌, ◌++◌, ◌∷◌, [], ℕ, List, Bool, true, false, cond, length, map, Option, None, Some, refl, sym, ap, subst, ◌∙◌, arith, append_assoc, append-nil}
use Rattle.std.proofs.lemmas.Grind.{flat_map-append}
use Rattle.std.specs.List.{AllByRecursion}
use Rattle.gs_shell_script.specs.Run.{AnswersLine, Runs, unlines}
use Rattle.gs_keep_mark.specs.Marks.{Entry, Totals, behind, mark_of, marked, noted, text_of, totals_behind, with_batch}
use Rattle.gs_keep.specs.Lines.{Turn, entries, joined, lines_asked, lines_taken, own_at_end, taken, texts_of, texts_taken}
use Rattle.gs_keep.specs.Running.{AnswersAll, DueIf, LoggedAs, RunsUnless, SendsAll}
use Rattle.gs_keep.specs.Replaying.{RunsAgain}

pub all_join : {X : Type 0} (P : X → Type 0) (xs ys : List X) → AllByRecursion P xs → AllByRecursion P ys → AllByRecursion P (xs ++ ys)
all_join P [] ys one two = two
all_join P (x ∷ xs) ys one two = (one.0, all_join P xs ys one.1 two)

-- ---- batches

pub joined_join : (a b : List (List Entry)) → joined (a ++ b) ≡ joined a ++ joined b
joined_join [] b = refl
joined_join (x ∷ a) b = ap (λ (l : List Entry). x ++ l) (joined_join a b) ∙ sym (append_assoc x (joined a) (joined b))

pub totals_join : (t : Totals) (a b : List (List Entry)) → totals_behind t (a ++ b) ≡ totals_behind (totals_behind t a) b
totals_join t [] b = refl
totals_join t (x ∷ a) b = totals_join (behind t x) a b

pub marked_join : (t : Totals) (a b : List (List Entry)) → marked t (a ++ b) ≡ marked t a ++ marked (totals_behind t a) b
marked_join t [] b = refl
marked_join t (x ∷ a) b =
    let m = mark_of (with_batch t x) in
    let one = marked (behind t x) a in
    let two = marked (totals_behind (behind t x) a) b in
    ap (λ (l : List ℕ). text_of x ++ (m ++ l)) (marked_join (behind t x) a b)
    ∙ ap (λ (l : List ℕ). text_of x ++ l) (sym (append_assoc m one two)) ∙ sym (append_assoc (text_of x) (m ++ one) two)

pub text_join : (a b : List Entry) → text_of (a ++ b) ≡ text_of a ++ text_of b
text_join a b = flat_map-append (λ (e : Entry). e.line) a b

pub with_join : (t : Totals) (a b : List Entry) → with_batch t (a ++ b) ≡ with_batch (with_batch t a) b
with_join t [] b = refl
with_join t (e ∷ a) b = with_join (noted t e) a b

-- what a log comes to is what it was, and the batches with their marks
pub text_with : (t : Totals) (batch : List Entry) → (with_batch t batch).text ≡ t.text ++ text_of batch
text_with t [] = sym (append-nil t.text)
text_with t (e ∷ batch) = text_with (noted t e) batch ∙ append_assoc t.text e.line (text_of batch)

pub text_behind : (t : Totals) (batches : List (List Entry)) → (totals_behind t batches).text ≡ t.text ++ marked t batches
text_behind t [] = sym (append-nil t.text)
text_behind t (x ∷ more) =
    let m = mark_of (with_batch t x) in
    let back = marked (behind t x) more in
    text_behind (behind t x) more ∙ ap (λ (l : List ℕ). (l ++ m) ++ back) (text_with t x)
    ∙ append_assoc (t.text ++ text_of x) m back ∙ append_assoc t.text (text_of x) (m ++ back)

-- ---- lines that are run

pub lines_join : (a b : List Turn) → lines_asked (a ++ b) ≡ lines_asked a ++ lines_asked b
lines_join [] b = refl
lines_join (t ∷ a) b = at t.own (lines_join a b)
  where
    at : (own : Bool) → lines_asked (a ++ b) ≡ lines_asked a ++ lines_asked b
        → cond own (lines_asked (a ++ b)) (t.line ∷ lines_asked (a ++ b)) ≡ cond own (lines_asked a) (t.line ∷ lines_asked a) ++ lines_asked b
    at true h = h
    at false h = ap (λ (l : List (List ℕ)). t.line ∷ l) h

pub texts_join : (a b : List Turn) → texts_of (a ++ b) ≡ texts_of a ++ texts_of b
texts_join [] b = refl
texts_join (t ∷ a) b = at t.own (texts_join a b)
  where
    at : (own : Bool) → texts_of (a ++ b) ≡ texts_of a ++ texts_of b
        → cond own (texts_of (a ++ b)) (t.text ∷ texts_of (a ++ b)) ≡ cond own (texts_of a) (t.text ∷ texts_of a) ++ texts_of b
    at true h = h
    at false h = ap (λ (l : List (List ℕ)). t.text ∷ l) h

-- a line that was read
pub line_read : (t : Turn) → t.own ≡ false → lines_asked (t ∷ []) ≡ t.line ∷ []
line_read t read = ap (λ own. cond own [] (t.line ∷ [])) read

pub text_read : (t : Turn) → t.own ≡ false → texts_of (t ∷ []) ≡ t.text ∷ []
text_read t read = ap (λ own. cond own [] (t.text ∷ [])) read

-- lines of a machine's own
abbrev pub AreOwn : List Turn → Type 0
AreOwn turns = AllByRecursion (λ t. t.own ≡ true) turns

own_unread : (turns : List Turn) → AreOwn turns → lines_asked turns ≡ []
own_unread [] all = refl
own_unread (t ∷ turns) all = ap (λ own. cond own (lines_asked turns) (t.line ∷ lines_asked turns)) all.0 ∙ own_unread turns all.1

own_unsent : (turns : List Turn) → AreOwn turns → texts_of turns ≡ []
own_unsent [] all = refl
own_unsent (t ∷ turns) all = ap (λ own. cond own (texts_of turns) (t.text ∷ texts_of turns)) all.0 ∙ own_unsent turns all.1

pub lines_with_own : (a b : List Turn) → AreOwn b → lines_asked (a ++ b) ≡ lines_asked a
lines_with_own a b all = lines_join a b ∙ ap (λ (l : List (List ℕ)). lines_asked a ++ l) (own_unread b all) ∙ append-nil (lines_asked a)

pub texts_with_own : (a b : List Turn) → AreOwn b → texts_of (a ++ b) ≡ texts_of a
texts_with_own a b all = texts_join a b ∙ ap (λ (l : List (List ℕ)). texts_of a ++ l) (own_unsent b all) ∙ append-nil (texts_of a)

-- how many stand at the end
own_counted : (n : ℕ) (turns : List Turn) → AreOwn turns → own_at_end n turns ≡ n + length turns
own_counted n [] all = omega arith
own_counted n (t ∷ turns) all = ap (λ own. cond own (own_at_end (n + 1) turns) (own_at_end 0 turns)) all.0 ∙ own_counted (n + 1) turns all.1 ∙ omega arith

own_more : (n : ℕ) (turns : List Turn) → own_at_end 0 turns ≤ own_at_end n turns
own_more n turns = from 0 n turns (omega arith)
  where
    from : (m n : ℕ) (turns : List Turn) → m ≤ n → own_at_end m turns ≤ own_at_end n turns
    from m n [] less = less
    from m n (t ∷ turns) less = at t.own (from (m + 1) (n + 1) turns (omega (arith, less)))
      where
        at : (own : Bool) → own_at_end (m + 1) turns ≤ own_at_end (n + 1) turns
            → cond own (own_at_end (m + 1) turns) (own_at_end 0 turns) ≤ cond own (own_at_end (n + 1) turns) (own_at_end 0 turns)
        at true h = h
        at false h = omega arith

pub own_behind : (n : ℕ) (a b : List Turn) → own_at_end 0 b ≤ own_at_end n (a ++ b)
own_behind n [] b = own_more n b
own_behind n (t ∷ a) b = at t.own (own_behind (n + 1) a b) (own_behind 0 a b)
  where
    at : (own : Bool) → own_at_end 0 b ≤ own_at_end (n + 1) (a ++ b) → own_at_end 0 b ≤ own_at_end 0 (a ++ b) → own_at_end 0 b ≤ cond own (own_at_end (n + 1) (a ++ b)) (own_at_end 0 (a ++ b))
    at true one other = one
    at false one other = other

pub own_enough : (a b : List Turn) → AreOwn b → length b ≤ own_at_end 0 (a ++ b)
own_enough a b all = omega (arith, own_counted 0 b all, own_behind 0 a b)

pub unlines_join : (a b : List Turn) → unlines (texts_of (a ++ b)) ≡ unlines (texts_of a) ++ unlines (texts_of b)
unlines_join a b = ap unlines (texts_join a b) ∙ flat_map-append (λ (t : List ℕ). t ++ 10 ∷ []) (texts_of a) (texts_of b)

pub entries_join : (a b : List Turn) → entries (a ++ b) ≡ entries a ++ entries b
entries_join [] b = refl
entries_join (t ∷ a) b = at t.logged (entries_join a b)
  where
    at : (k : Bool) → entries (a ++ b) ≡ entries a ++ entries b
        → cond k (record { line = t.line; answer = t.text } ∷ entries (a ++ b)) (entries (a ++ b)) ≡ cond k (record { line = t.line; answer = t.text } ∷ entries a) (entries a) ++ entries b
    at true h = ap (λ (l : List Entry). record { line = t.line; answer = t.text } ∷ l) h
    at false h = h

module _ {S : Type 0} (A : S → List ℕ → List ℕ → S → Type 0) (is_kept : List ℕ → Bool) where
  pub again_join : (old mid new : S) (a b : List Entry) → RunsAgain A is_kept old a mid → RunsAgain A is_kept mid b new → RunsAgain A is_kept old (a ++ b) new
  again_join old mid new [] b same all = subst (λ (s : S). RunsAgain A is_kept s b new) same all
  again_join old mid new (e ∷ a) b (next, logged, first, rest) all = (next, logged, first, again_join next mid new a b rest all)

module _ {S : Type 0} (A : S → List ℕ → List ℕ → S → Type 0) (is_kept : List ℕ → Bool) (turns_away : S → List ℕ → Bool) (due : S → Option (List ℕ)) where
  pub answers_join : (old mid new : S) (a b : List Turn) → AnswersAll A is_kept turns_away due old a mid → AnswersAll A is_kept turns_away due mid b new → AnswersAll A is_kept turns_away due old (a ++ b) new
  answers_join old mid new [] b same all = subst (λ (s : S). AnswersAll A is_kept turns_away due s b new) same all
  answers_join old mid new (t ∷ a) b (next, first, rest) all = (next, first, answers_join next mid new a b rest all)

  -- what is logged leads to where the lines led
  pub answers_again : (old new : S) (turns : List Turn) → AnswersAll A is_kept turns_away due old turns new → RunsAgain A is_kept old (entries turns) new
  answers_again old new [] same = same
  answers_again old new (t ∷ turns) (mid, one, rest) = at t.away one.runs (answers_again mid new turns rest)
    where
      logged_as : (k : Bool) → AnswersLine A old t.line t.text mid → LoggedAs A is_kept turns_away due k old t mid → RunsAgain A is_kept mid (entries turns) new
          → RunsAgain A is_kept old (cond k (record { line = t.line; answer = t.text } ∷ entries turns) (entries turns)) new
      logged_as true answers logged back = (mid, logged, answers, back)
      logged_as false answers logged back = subst (λ (s : S). RunsAgain A is_kept s (entries turns) new) logged.0 back

      at : (w : Bool) → RunsUnless A is_kept turns_away due w old t mid → RunsAgain A is_kept mid (entries turns) new
          → RunsAgain A is_kept old (cond t.logged (record { line = t.line; answer = t.text } ∷ entries turns) (entries turns)) new
      at true r back = subst (λ (k : Bool). RunsAgain A is_kept old (cond k (record { line = t.line; answer = t.text } ∷ entries turns) (entries turns)) new) (sym r.unlogged)
          (subst (λ (s : S). RunsAgain A is_kept s (entries turns) new) r.same back)
      at false r back = logged_as t.logged r.answers r.logged back

  -- lines that are run again, and then lines that are answered, are answered one behind the other, but for those that are turned away
  pub again_then : (old mid new : S) (a : List Entry) (b : List Turn) → RunsAgain A is_kept old a mid → AnswersAll A is_kept turns_away due mid b new
      → Runs A old (map (λ (e : Entry). e.line) a ++ lines_taken b) (map (λ (e : Entry). e.answer) a ++ texts_taken b) new
  again_then old mid new (e ∷ a) b (next, logged, first, rest) all = (next, first, again_then next mid new a b rest all)
  again_then old mid new [] b same all = subst (λ (s : S). Runs A s (lines_taken b) (texts_taken b) new) same (lines_run mid new b all)
    where
      lines_run : (old new : S) (turns : List Turn) → AnswersAll A is_kept turns_away due old turns new → Runs A old (lines_taken turns) (texts_taken turns) new
      lines_run old new [] same = same
      lines_run old new (t ∷ turns) (mid, one, rest) = at t.away one.runs (lines_run mid new turns rest)
        where
          at : (w : Bool) → RunsUnless A is_kept turns_away due w old t mid → Runs A mid (lines_taken turns) (texts_taken turns) new
              → Runs A old (map (λ (u : Turn). u.line) (cond w (taken turns) (t ∷ taken turns))) (map (λ (u : Turn). u.text) (cond w (taken turns) (t ∷ taken turns))) new
          at true r back = subst (λ (s : S). Runs A s (lines_taken turns) (texts_taken turns) new) r.same back
          at false r back = (mid, r.answers, back)

  -- a machine of which no line is ever due sends all its answers
  pub sends_all : ((s : S) → due s ≡ None) → (old new : S) (turns : List Turn) → SendsAll A is_kept turns_away due old turns new
  sends_all never old new [] all = (refl, refl)
  sends_all never old new (t ∷ turns) (mid, one, rest) = at t.own one.own (sends_all never mid new turns rest)
    where
      none_due : {X : Type 0} (o : Option (List ℕ)) (line : List ℕ) → o ≡ None → o ≡ Some line → X
      none_due o line none some = absurd (cc)

      at : (own : Bool) → DueIf A is_kept turns_away due own old t → (lines_asked turns ≡ map (λ (u : Turn). u.line) turns) × (texts_of turns ≡ map (λ (u : Turn). u.text) turns)
          → (cond own (lines_asked turns) (t.line ∷ lines_asked turns) ≡ t.line ∷ map (λ (u : Turn). u.line) turns)
          × (cond own (texts_of turns) (t.text ∷ texts_of turns) ≡ t.text ∷ map (λ (u : Turn). u.text) turns)
      at true (is_due, taken, logged) more = none_due (due old) t.line (never old) is_due
      at false own (lines, texts) = (ap (λ (l : List (List ℕ)). t.line ∷ l) lines, ap (λ (l : List (List ℕ)). t.text ∷ l) texts)
