-- The answers of a run as a function of its lines.
use Rattle.std.specs.Prelude.{◌≡◌, List, ℕ}
use Rattle.gs_base.specs.declared.config.Config.{Config}
use Rattle.gs_shell.specs.Answering.{IsUntroubled}
use Rattle.gs_shell.specs.declared.trouble.Trouble.{Trouble}
use Rattle.gs_laws_scripts.specs.answers.Plain.{answers_all, begins}

-- where nothing went wrong they are what a function gives, which begins with a new store of the configuration
abbrev pub AreGiven : Config → Trouble → List (List ℕ) → List (List ℕ) → Type 0
AreGiven config trouble lines texts = IsUntroubled trouble texts → texts ≡ (answers_all lines (begins config)).0

-- where nothing went wrong in either of two runs, the same lines are answered by the same texts
abbrev pub AreTheSame : Trouble → Trouble → List (List ℕ) → List (List ℕ) → List (List ℕ) → List (List ℕ) → Type 0
AreTheSame trouble other lines texts others said = IsUntroubled trouble texts → IsUntroubled other said → others ≡ lines → said ≡ texts
