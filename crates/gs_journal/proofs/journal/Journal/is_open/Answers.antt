use Rattle.std.proofs.Common.{◌≡◌, subst, refl, Bool, true, false}
use Rattle.std.specs.Prelude.{not, IsTrue}
use Rattle.gs_journal.specs.Journal.{Stands}
use Rattle.gs_journal.proofs.Views.{stands}
use Rattle.gs_journal.proofs.journal.Journal.is_open.Goals as goal

false_of_not : (b : Bool) → IsTrue (not b) → b ≡ false
false_of_not false is = refl
false_of_not true is = absurd (cc is)

pub returns-clause-stands : goal.returns-clause-stands
returns-clause-stands g c is_open =
    let d = g.D.Disk in let j = c.self.inside in let held = false_of_not j.is_failed is_open in
    subst (Stands d.seen d.may_leave) c.self.view_is (stands d.seen d.may_leave j.disks j.limit j.is_failed held (c.self.invariant held))
