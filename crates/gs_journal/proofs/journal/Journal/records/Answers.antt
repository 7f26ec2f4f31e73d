use Rattle.gs_journal.specs.Records.{standing}
use Rattle.std.proofs.Common.{◌≡◌}
use Rattle.gs_journal.proofs.Views.{stands, moved, moved_as_seen, same_text}
use Rattle.gs_journal.proofs.journal.Journal.records.Goals as goal

pub returns-in-Ok-clause-stands : goal.returns-in-Ok-clause-stands
returns-in-Ok-clause-stands g c =
    let d = g.D.Disk in let j = c.self.inside in stands d.seen d.may_leave c.records.new.self j.limit j.is_failed c.if-self.false c.records.ensures.settled

pub returns-in-Ok-clause-any_moment : goal.returns-in-Ok-clause-any_moment
returns-in-Ok-clause-any_moment g c is_open =
    let d = g.D.Disk in let j = c.self.inside in
    moved d.seen d.may_leave d.moment d.left_since j.disks j.limit j.is_failed c.args.self.now (λ t a b. standing a b ≡ t) _ _ c.self.view_is
    (same_text d.seen d.may_leave d.moment d.left_since _ _ _ _ c.records.ensures.any_moment)

pub returns-after-matches-clause-any_moment : goal.returns-after-matches-clause-any_moment
returns-after-matches-clause-any_moment g c is_open =
    let d = g.D.Disk in let j = c.self.inside in
    moved d.seen d.may_leave d.moment d.left_since j.disks j.limit j.is_failed c.args.self.now (λ t a b. standing a b ≡ t) _ _ c.self.view_is
    (same_text d.seen d.may_leave d.moment d.left_since _ _ _ _ c.records.ensures.any_moment)

pub returns-in-Ok-clause-whole : goal.returns-in-Ok-clause-whole
returns-in-Ok-clause-whole g c is_open =
    let d = g.D.Disk in let j = c.self.inside in
    moved_as_seen d.seen d.may_leave d.moment d.left_since j.disks j.limit j.is_failed c.args.self.now _ _ c.self.view_is c.records.ensures.any_moment

pub returns-after-matches-clause-whole : goal.returns-after-matches-clause-whole
returns-after-matches-clause-whole g c is_open =
    let d = g.D.Disk in let j = c.self.inside in
    moved_as_seen d.seen d.may_leave d.moment d.left_since j.disks j.limit j.is_failed c.args.self.now _ _ c.self.view_is c.records.ensures.any_moment
