-- What the first line of a log that begins from an image tells of the log before: the digests of its bytes and of all answers to its lines.
use Rattle.std.specs.Prelude.{◌≡◌, ℕ, Bool, true, List, map, flat_map}
use Rattle.gs_keep_mark.specs.Marks.{Entry, Totals, begins_from, digest, totals_behind}
use Rattle.gs_keep_mark.specs.Started.{AreBatches, IsPlain, TellsApart, answers_of}

-- two logs have the same first line, in each batch the same lines, and to all of these the same answers
pub record SameLogs (head other_head : List ℕ) (one other : List (List Entry)) : Type 0 where
  pub first : head ≡ other_head
  pub lines : map (map (λ e. e.line)) one ≡ map (map (λ e. e.line)) other
  pub answers : flat_map answers_of one ≡ flat_map answers_of other

-- what a log has come to is among some texts
pub record IsAmong (among : List ℕ → Bool) (t : Totals) : Type 0 where
  pub text : among t.text ≡ true
  pub answers : among t.answers ≡ true

-- two logs have come to the same, as a first line tells it
pub record ToldAlike (t u : Totals) : Type 0 where
  pub text : digest t.text ≡ digest u.text
  pub answers : digest t.answers ≡ digest u.answers

-- Logs of which the same digests are told are the same, where digests tell texts apart. So two logs whose first lines tell the same of the log
-- before have the same lines before. If that log begins from an image too, its own first line tells of the one before it, and so on.
abbrev pub ToldAlikeAreTheSame : Type 0
ToldAlikeAreTheSame =
    (among : List ℕ → Bool) (head other_head : List ℕ) (before other_before : ℕ) (one other : List (List Entry))
    → TellsApart among → IsPlain head → IsPlain other_head → AreBatches one → AreBatches other
    → IsAmong among (totals_behind (begins_from head before) one) → IsAmong among (totals_behind (begins_from other_head other_before) other)
    → ToldAlike (totals_behind (begins_from head before) one) (totals_behind (begins_from other_head other_before) other)
    → SameLogs head other_head one other
