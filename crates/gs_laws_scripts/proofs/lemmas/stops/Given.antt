-- Runs that tell that nothing went wrong answer as the function does.
use Rattle.std.proofs.Common.{◌∙◌, ℕ, List, Option, Result, sym, ap}
use Rattle.gs_base.specs.declared.config.Config.{Config}
use Rattle.gs_journal.specs.Memory.{bytes_of, times_failed}
use Rattle.gs_nodes.specs.NewDisks.{OverEmpty}
use Rattle.gs_shell.proofs.Answered.{answers}
use Rattle.gs_shell.specs.Answering.{Answers}
use Rattle.gs_shell.specs.Telling.{Tells}
use Rattle.gs_shell.specs.Watching.{both_watched, failures_of, seen_of}
use Rattle.gs_shell.specs.declared.trouble.Trouble.{Trouble}
use Rattle.gs_shell_script.specs.declared.RunFault.{RunFault}
use Rattle.gs_laws_scripts.proofs.lemmas.plain.Untroubled.{went_well}
use Rattle.gs_laws_scripts.specs.answers.Plain.{answers_all, begins}
use Rattle.gs_laws_scripts.proofs.lemmas.stops.Beginning.{by_the_function}
use Rattle.gs_laws_scripts.specs.stops.Given.{AreGiven, AreTheSame}

module _ (config : Config) where
  abbrev Told : Trouble → Result (Unit {0}) RunFault → Option (List ℕ) → Option (List ℕ) → Option (List ℕ) → Option (List ℕ) → Type 0
  Told trouble r before left old new = OverEmpty (λ disks. Tells bytes_of times_failed config disks trouble r before left old new)

  -- what holds of lines and texts wherever they are as the function gives them
  of_given : (trouble : Trouble) (P : List (List ℕ) → List (List ℕ) → Type 0) → ((lines texts : List (List ℕ)) → AreGiven config trouble lines texts → P lines texts)
      → (r : Result (Unit {0}) RunFault) (before left old new : Option (List ℕ)) → Told trouble r before left old new → Answers P r before left old new
  of_given trouble P so r before left old new (disks, empty, told) =
      answers bytes_of times_failed config disks trouble P
      (λ begun ended starts it input lines more texts parts runs. so lines texts (λ calm. by_the_function (seen_of bytes_of) (failures_of times_failed) config (both_watched disks) begun ended starts input lines more texts parts runs (went_well disks empty trouble ended it texts calm)))
      left old new r before told

  pub are_given : (trouble : Trouble) (r : Result (Unit {0}) RunFault) (before left old new : Option (List ℕ)) → Told trouble r before left old new → Answers (AreGiven config trouble) r before left old new
  are_given trouble = of_given trouble (AreGiven config trouble) (λ lines texts given. given)

  the_same : (trouble other : Trouble) (lines texts others said : List (List ℕ)) → AreGiven config trouble lines texts → AreGiven config other others said → AreTheSame trouble other lines texts others said
  the_same trouble other lines texts others said given too calm also are = too also ∙ ap (λ ls. (answers_all ls (begins config)).0) are ∙ sym (given calm)

  pub are_the_same : (trouble other : Trouble) (r s : Result (Unit {0}) RunFault) (before left old new before' left' old' new' : Option (List ℕ)) → Told trouble r before left old new → Told other s before' left' old' new'
      → Answers (λ lines texts. Answers (AreTheSame trouble other lines texts) s before' left' old' new') r before left old new
  are_the_same trouble other r s before left old new before' left' old' new' told also =
      of_given trouble (λ lines texts. Answers (AreTheSame trouble other lines texts) s before' left' old' new')
      (λ lines texts given. of_given other (AreTheSame trouble other lines texts) (λ others said too. the_same trouble other lines texts others said given too) s before' left' old' new' also)
      r before left old new told
