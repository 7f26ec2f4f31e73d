-- What follows for lines whose answers the machine explains. Where nothing was put off the answers are a function of the lines.
-- What only looks is answered alike after a prepare and after its rollback.
use Rattle.std.specs.Prelude.{◌+◌, ◌++◌, ◌<◌, ◌^◌, ◌∷◌, ◌≡◌, ◌≢◌, ◌⊎◌, Bool, Err, List, None, Ok, Option, Result, Some, codes, decimal, false, if◌then◌else◌, length, true, ℕ}
use Rattle.std.specs.List.{AllByRecursion}
use Rattle.gs_base.specs.declared.refusal.Refusal.{Refusal}
use Rattle.gs_base.specs.declared.refusal.Refusal.TheVariants as refusals
use Rattle.gs_client.specs.declared.reading.Stat.TheVariants as stats
use Rattle.gs_shell_calls.specs.Texts.{answer_text}
use Rattle.gs_shell_calls.specs.declared.answer.Answer.{Answer}
use Rattle.gs_shell_calls.specs.declared.answer.Answer.TheVariants as answers
use Rattle.gs_shell_grammar.specs.Grammar.{Request}
use Rattle.gs_shell_grammar.specs.Grammar as lines
use Rattle.gs_shell_grammar.specs.declared.command.Upgrade.TheVariants as upgrades
use Rattle.gs_shell_grammar.specs.declared.command.UpgradeStep.TheVariants as steps
use Rattle.gs_laws_scripts.specs.plain.Machines.{asked_in}
use Rattle.gs_laws_scripts.specs.explained.Lines.{AreExplained, IsOfStore}

-- ---- answers that are alike

-- The machine doesn't know the handle of a chunk, its references and its members. Nor does it know how many chunks a scan forgets.
abbrev pub AreAlike : Result Answer Refusal → Result Answer Refusal → Type 0
AreAlike (Ok (answers.Stat (stats.File size chunks))) (Ok (answers.Stat (stats.File other others))) = (size ≡ other) × (length chunks ≡ length others)
AreAlike (Ok (answers.Scanned removed forgotten)) (Ok (answers.Scanned other others)) = removed ≡ other
AreAlike one another = one ≡ another

-- the texts of such answers
abbrev pub TextsAreAlike : List ℕ → List ℕ → Type 0
TextsAreAlike text other = (one : Result Answer Refusal) × (another : Result Answer Refusal) × (text ≡ answer_text one) × (other ≡ answer_text another) × AreAlike one another

-- ---- a function of the lines

-- a line about nodes and messages alone, of whose answer the machine says nothing
abbrev pub is_of_nodes : Option Request → Bool
is_of_nodes (Some lines.Replicate) = true
is_of_nodes (Some (lines.Beat server)) = true
is_of_nodes (Some lines.Tick) = true
is_of_nodes (Some (lines.Restart node)) = true
is_of_nodes (Some (lines.Lose server handle)) = true
is_of_nodes (Some (lines.Damage server handle block)) = true
is_of_nodes (Some (lines.Hold kind)) = true
is_of_nodes (Some (lines.Deliver number)) = true
is_of_nodes asked = false

-- the answer isn't put off: the store doesn't refuse, and it isn't unsure
abbrev pub IsPlain : List ℕ → Type 0
IsPlain text = (refusal : Refusal) → text ≡ answer_text (Err refusal) → (IsOfStore refusal → ⊥) × (refusal ≢ refusals.Unsure)

-- line by line
abbrev pub AnsweredAlike : List (List ℕ) → List (List ℕ) → List (List ℕ) → Type 0
AnsweredAlike (line ∷ all) (text ∷ texts) (other ∷ others) = ((is_of_nodes (asked_in line) ≡ true) ⊎ TextsAreAlike text other) × AnsweredAlike all texts others
AnsweredAlike all texts others = Unit {0}

-- The same lines are answered alike in any two stores in which none is put off.
abbrev pub PlainAnswersAreAFunction : Type 0
PlainAnswersAreAFunction = (size block : ℕ) (all texts others : List (List ℕ)) → AreExplained size block all texts → AreExplained size block all others → AllByRecursion IsPlain texts → AllByRecursion IsPlain others → AnsweredAlike all texts others

-- ---- what only looks

-- a line that looks at names or bytes
abbrev pub is_look : Option Request → Bool
is_look (Some (lines.Ls p)) = true
is_look (Some (lines.Stat p)) = true
is_look (Some (lines.Read p offset many)) = true
is_look (Some (lines.Digest p chunk block)) = true
is_look asked = false

-- lines that ask for nothing, look, set the moment, ask for the phase, or are about nodes; but none that delivers what was held back
abbrev pub passes_by : Option Request → Bool
passes_by None = true
passes_by (Some (lines.At moment)) = true
passes_by (Some (lines.Deliver number)) = false
passes_by (Some (lines.RollingUpgrade upgrades.Query)) = true
passes_by (Some (lines.RollingUpgrade upgrade)) = false
passes_by asked = if is_look asked then true else is_of_nodes asked

-- a line that commits a prepare
abbrev pub is_prepare : Option Request → Bool
is_prepare (Some (lines.RollingUpgrade upgrades.Prepare)) = true
is_prepare (Some (lines.Step steps.PrepareCommit)) = true
is_prepare asked = false

-- a line that commits a rollback
abbrev pub is_rollback : Option Request → Bool
is_rollback (Some (lines.RollingUpgrade upgrades.Rollback)) = true
is_rollback (Some (lines.Step steps.RollbackCommit)) = true
is_rollback asked = false

-- `rollingUpgrade prepare`, or `prepare-commit`, is answered by an epoch. Then come lines that pass by, and after these one that looks.
-- Later `rollingUpgrade rollback`, or `rollback-commit`, is answered by the next epoch. Then come lines that pass by, and after these the same one that looks. Neither look is put off.
-- The epochs are numbers of 64 bits, as a store's are: of longer ones no more than 64 digits are told.
pub record LooksTwice (all texts : List (List ℕ)) (look : List ℕ) (epoch : ℕ) (had has : List ℕ) : Type 0 where
  pub before : List (List ℕ)
  pub between : List (List ℕ)
  pub prepare : List ℕ
  pub rollback : List ℕ
  pub first : List (List ℕ)
  pub second : List (List ℕ)
  pub after : List (List ℕ)
  pub lines_are : all ≡ before ++ prepare ∷ (first ++ look ∷ (between ++ rollback ∷ (second ++ look ∷ after)))
  pub texts_before : List (List ℕ)
  pub texts_first : List (List ℕ)
  pub texts_between : List (List ℕ)
  pub texts_second : List (List ℕ)
  pub texts_after : List (List ℕ)
  pub texts_are : texts ≡ texts_before ++ (codes "ok " ++ decimal epoch) ∷ (texts_first ++ had ∷ (texts_between ++ (codes "ok " ++ decimal (epoch + 1)) ∷ (texts_second ++ has ∷ texts_after)))
  pub long_before : length texts_before ≡ length before
  pub long_first : length texts_first ≡ length first
  pub long_between : length texts_between ≡ length between
  pub long_second : length texts_second ≡ length second
  pub small : epoch + 1 < 2 ^ 64
  pub prepares : is_prepare (asked_in prepare) ≡ true
  pub passes : AllByRecursion (λ line. passes_by (asked_in line) ≡ true) first
  pub looks : is_look (asked_in look) ≡ true
  pub rolls : is_rollback (asked_in rollback) ≡ true
  pub passes_again : AllByRecursion (λ line. passes_by (asked_in line) ≡ true) second
  pub was : IsPlain had
  pub is : IsPlain has

-- What only looks is answered alike after a prepare and after its rollback, whatever comes between.
abbrev pub LooksComeBack : Type 0
LooksComeBack = (size block : ℕ) (all texts : List (List ℕ)) (look : List ℕ) (epoch : ℕ) (had has : List ℕ) → AreExplained size block all texts → LooksTwice all texts look epoch had has → TextsAreAlike had has
