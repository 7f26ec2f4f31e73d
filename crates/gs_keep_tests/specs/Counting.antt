-- What a machine answers that counts, and which lines it has of its own.
use Rattle.std.specs.Prelude.{◌≡◌, ◌++◌, ◌∷◌, ◌==◌, ◌||◌, ◌⊎◌, ℕ, List, [], Bool, true, false, nat_le, Option, None, Some, is_some, codes, if◌then◌else◌, refl}
use Rattle.std.proofs.Common.{ap, cond, sym, subst, true≢false}
use Rattle.gs_shell_script.specs.Run.{bad_line_text, memory_text}
use Rattle.gs_keep.specs.Lines.{IsOwnLine}

-- A line may change it: it begins with `a`, and adds one, or it begins with `t`.
abbrev pub is_counted : List ℕ → Bool
is_counted [] = false
is_counted (x ∷ xs) = (x == 97) || (x == 116)

-- Any other line changes nothing.
abbrev pub AnswersIf : {S : Type 0} → Bool → S → List ℕ → S → Type 0
AnswersIf true old text new = Unit {0}
AnswersIf false old text new = (new ≡ old) × ((text ≡ bad_line_text) ⊎ (text ≡ memory_text))

abbrev pub MayAnswer : {S : Type 0} → S → List ℕ → List ℕ → S → Type 0
MayAnswer old line text new = AnswersIf (is_counted line) old text new

pub changes_nothing : {S : Type 0} (old new : S) (line text : List ℕ) → is_counted line ≡ false → MayAnswer old line text new → new ≡ old
changes_nothing old new line text other may = (subst (λ b. AnswersIf b old text new) other may).0

pub is_refused : {S : Type 0} (old new : S) (line text : List ℕ) → is_counted line ≡ false → MayAnswer old line text new → (text ≡ bad_line_text) ⊎ (text ≡ memory_text)
is_refused old new line text other may = (subst (λ b. AnswersIf b old text new) other may).1

-- ---- lines of its own

abbrev pub tick : List ℕ
tick = codes "tick" ++ 10 ∷ []

-- one is due once so many lines were counted since the last one
abbrev pub due_line : ℕ → ℕ → Option (List ℕ)
due_line every since = if nat_le every since then Some tick else None

abbrev never_away : {S : Type 0} → S → List ℕ → Bool
never_away s line = false

a_tick_stands : {S : Type 0} (s : S) → IsOwnLine is_counted never_away s tick
a_tick_stands s = record { body = codes "tick"; within = (refl, (refl, (refl, (refl, tt)))); ended = refl; logged = refl; taken = refl }

only_tick : (b : Bool) (line : List ℕ) → cond b (Some tick) None ≡ Some line → tick ≡ line
only_tick true line due = cc
only_tick false line due = absurd (true≢false (sym (ap is_some due)))

pub own_lines_stand : {S : Type 0} (s : S) (every since : ℕ) (line : List ℕ) → due_line every since ≡ Some line → IsOwnLine is_counted never_away s line
own_lines_stand s every since line due = subst (IsOwnLine is_counted never_away s) (only_tick (nat_le every since) line due) (a_tick_stands s)

-- ---- what begins as a mark is none

pub marks_are_none : (line : List ℕ) → is_counted (35 ∷ line) ≡ false
marks_are_none line = refl
