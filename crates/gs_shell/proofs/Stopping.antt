-- A run, once a store has begun.
use Rattle.std.proofs.Common.{◌≡◌, refl, subst, ℕ, List, Option, Some, None, IfSome, IfErr, OnOk, Result, Ok, Err}
use Rattle.gs_base.specs.declared.config.Config.{Config}
use Rattle.gs_shell_script.specs.Run.{RunFails, Writes}
use Rattle.gs_shell_script.specs.declared.RunFault.{RunFault}
use Rattle.gs_shell_script.specs.declared.RunFault.TheVariants as fault
use Rattle.gs_shell_desk.specs.Answering.{AnswersText}
use Rattle.gs_shell_desk.specs.Starting.{Starts}
use Rattle.gs_shell_desk.specs.declared.desk.Desk.{Desk}
use Rattle.gs_journal.specs.declared.journal.Unopened.{Unopened}
use Rattle.gs_nodes.specs.Happenings.{WhyNotBegun}
use Rattle.gs_shell.specs.Telling.{IsTold, Tells, none}
use Rattle.gs_shell.specs.Watching.{both_watched, failures_of, seen_of}
use Rattle.gs_shell.specs.declared.trouble.Trouble.{Trouble}
use Rattle.gs_shell.specs.declared.watched.Watched.{Watched}

module _ {D : Type 0} (seen : D → List ℕ) (failures : D → ℕ) (config : Config) (disks : D × D) (watching : Watched D × Watched D) (are : watching ≡ both_watched disks) where
  module _ (begun ended : Desk (Watched D)) (before left old new : Option (List ℕ)) (starts : Starts (seen_of seen) (failures_of failures) config watching begun) (trouble : Trouble) (told : IsTold trouble ended) where
    starts_so : Starts (seen_of seen) (failures_of failures) config (both_watched disks) begun
    starts_so = subst (λ ds. Starts (seen_of seen) (failures_of failures) config ds begun) are starts

    answered : (before : Option (List ℕ)) → IfSome before (λ input. Writes (AnswersText (seen_of seen) (failures_of failures)) begun input old new ended)
        → Tells seen failures config disks trouble (Ok tt) before left old new
    answered None writes = tt
    answered (Some input) writes = (record { begun = begun; ended = ended; starts = starts_so; writes = writes }, told)

    stopped : (e : RunFault) → RunFails (AnswersText (seen_of seen) (failures_of failures)) e begun before left old new ended → Tells seen failures config disks trouble (Err e) before left old new
    stopped fault.Read fails = (record { begun = begun; ended = ended; starts = starts_so; fails = fails }, told)
    stopped fault.Write fails = (record { begun = begun; ended = ended; starts = starts_so; fails = fails }, told)
    stopped (fault.Refused refusal) fails = absurd fails

    pub tells : (r : Result (Unit {0}) RunFault) → OnOk r (IfSome before (λ input. Writes (AnswersText (seen_of seen) (failures_of failures)) begun input old new ended))
        → IfErr r (λ e. RunFails (AnswersText (seen_of seen) (failures_of failures)) e begun before left old new ended) → Tells seen failures config disks trouble r before left old new
    tells (Ok done) writes fails = answered before writes
    tells (Err e) writes fails = stopped e fails

  pub not_begun : (unopened : Unopened (Watched D)) (trouble : Trouble) (before old : Option (List ℕ)) → WhyNotBegun (seen_of seen) (failures_of failures) config watching unopened → trouble ≡ none
      → Tells seen failures config disks trouble (Err (fault.Refused unopened.refusal)) before before old old
  not_begun unopened trouble before old why is =
      (record { unopened = unopened; why = subst (λ ds. WhyNotBegun (seen_of seen) (failures_of failures) config ds unopened) are why; refused = refl; unread = refl; unwritten = refl }, is)
