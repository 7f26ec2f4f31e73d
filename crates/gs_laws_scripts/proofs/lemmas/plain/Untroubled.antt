-- A run that tells that nothing went wrong went well.
use Rattle.std.proofs.Common.{◌≡◌, ◌+◌, ℕ, Bool, true, false, true≢false, cond, List, Option, Some, Result, refl, sym, ap, ◌∙◌, arith}
use Rattle.gs_base.specs.declared.config.Config.{Config}
use Rattle.gs_journal.specs.Memory.{bytes_of, times_failed}
use Rattle.gs_journal.specs.declared.memory.MemoryDisk.{MemoryDisk}
use Rattle.gs_nodes.specs.Happenings.{disks_of}
use Rattle.gs_nodes.specs.NewDisks.{AreEmpty, OverEmpty}
use Rattle.gs_nodes.specs.declared.place.MasterPlace.{MasterPlace}
use Rattle.gs_nodes.specs.declared.place.MasterPlace.TheVariants.{Away, Closed, Standing}
use Rattle.gs_shell.proofs.Answered.{answers}
use Rattle.gs_shell.specs.Answering.{Answers, IsUntroubled}
use Rattle.gs_shell.specs.Telling.{IsTold, Tells, has_failed_in}
use Rattle.gs_shell.specs.Watching.{both_watched, failures_of, seen_of}
use Rattle.gs_shell.specs.declared.trouble.Trouble.{Trouble}
use Rattle.gs_shell.specs.declared.watched.Watched.{Watched}
use Rattle.gs_shell_desk.specs.declared.desk.Desk.{Desk}
use Rattle.gs_shell_script.specs.declared.RunFault.{RunFault}
use Rattle.gs_laws_world.specs.lasting.Lasting.{failures_at}
use Rattle.gs_laws_scripts.specs.answers.Meeting.{WentWell}
use Rattle.gs_laws_scripts.proofs.lemmas.plain.Stopping.{first_lines}
use Rattle.gs_laws_scripts.specs.plain.Scripts.{ArePlain}

neither : (a b : Bool) → cond a true b ≡ false → (a ≡ false) × (b ≡ false)
neither true b is = absurd (true≢false is)
neither false b is = (refl, is)

module _ {D : Type 0} (failures : D → ℕ) where
  never_failed : (w : Watched D) → w.has_failed ≡ false → failures_of failures w ≡ 0
  never_failed w is = ap (λ (b : Bool). cond b (failures w.disk + 1) 0) is

  both_never : (first second : Watched D) → has_failed_in (Some (first, second)) ≡ false → failures_of failures first + failures_of failures second ≡ 0
  both_never first second is =
      let found = neither first.has_failed second.has_failed is in
      let one = never_failed first found.0 in
      let other = never_failed second found.1 in
      omega (arith, one, other)

  -- no disk that stands there has ever failed
  none_failed : (place : MasterPlace (Watched D)) → has_failed_in (disks_of place) ≡ false → failures_at (failures_of failures) place ≡ 0
  none_failed (Standing m) is = both_never m.journal.first m.journal.second is
  none_failed (Closed first second) is = both_never first second is
  none_failed Away is = refl

pub went_well : (disks : MemoryDisk × MemoryDisk) → AreEmpty disks → (trouble : Trouble) (desk : Desk (Watched MemoryDisk)) → IsTold trouble desk → (texts : List (List ℕ)) → IsUntroubled trouble texts
    → WentWell (seen_of bytes_of) (failures_of times_failed) (both_watched disks) texts desk
went_well disks empty trouble desk told texts calm = record {
  empty = empty;
  enough = sym told.short ∙ calm.enough;
  answered = calm.answered;
  sound = none_failed times_failed desk.wire.nodes.master (sym told.failed ∙ calm.sound);
}

pub are_plain : (config : Config) (trouble : Trouble) (r : Result (Unit {0}) RunFault) (before left old new : Option (List ℕ)) → OverEmpty (λ disks. Tells bytes_of times_failed config disks trouble r before left old new)
    → Answers (λ lines texts. IsUntroubled trouble texts → ArePlain lines texts) r before left old new
are_plain config trouble r before left old new (disks, empty, told) =
    answers bytes_of times_failed config disks trouble (λ lines texts. IsUntroubled trouble texts → ArePlain lines texts)
    (λ begun ended starts it input lines more texts parts runs calm. first_lines (seen_of bytes_of) (failures_of times_failed) config (both_watched disks) begun ended starts input lines more texts parts runs (went_well disks empty trouble ended it texts calm))
    left old new r before told
