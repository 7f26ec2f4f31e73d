use Rattle.std.proofs.Common.{rules, refl, inl, subst, ◌∷◌, []}
use Rattle.gs_journal_disk.specs.Disk.{LeavesPairs}
use Rattle.gs_journal.specs.Records.{Entry, standing}
use Rattle.gs_journal.specs.Journal.{IsOldOrNew, IsStillOrNext, checkpointed}
use Rattle.gs_journal.specs.inner.Pair.{text}
use Rattle.gs_journal.specs.declared.version.Version.TheVariants.{Two}
use Rattle.gs_journal.proofs.Views.{stands, moved_on, unmoved, still_there, old_or_new, comes_about, on_ok}
use Rattle.gs_journal.proofs.journal.Journal.write_draft.Goals as goal

pub returns-then-not-is_behind-clause-any_moment : goal.returns-then-not-is_behind-clause-any_moment
returns-then-not-is_behind-clause-any_moment g c is_open =
    let d = g.D.Disk in let j = c.self.inside in
    unmoved d.seen d.may_leave d.moment d.left_since j.disks j.limit j.is_failed c.args.self.now (λ t a b. IsOldOrNew t (checkpointed c.args.draft.now.body) (standing a b)) c.self.view_is (c.self.invariant c.if-self.false) g.met.D.Disk.only_now (inl refl)

pub returns-then-not-is_behind-clause-next : goal.returns-then-not-is_behind-clause-next
returns-then-not-is_behind-clause-next g c is_open =
    let d = g.D.Disk in let j = c.self.inside in
    still_there d.seen d.may_leave d.moment d.left_since j.disks j.limit j.is_failed c.args.self.now (checkpointed c.args.draft.now.body) c.self.view_is (c.self.invariant c.if-self.false) g.met.D.Disk.only_now

pub returns-then-body-self-clause-any_moment : goal.returns-then-body-self-clause-any_moment
returns-then-body-self-clause-any_moment g c is_open =
    let d = g.D.Disk in let j = c.self.inside in
    unmoved d.seen d.may_leave d.moment d.left_since j.disks j.limit j.is_failed c.args.self.now (λ t a b. IsOldOrNew t (checkpointed c.args.draft.now.body) (standing a b)) c.self.view_is (c.self.invariant c.if-self.false) g.met.D.Disk.only_now (inl refl)

pub returns-then-body-self-clause-next : goal.returns-then-body-self-clause-next
returns-then-body-self-clause-next g c is_open =
    let d = g.D.Disk in let j = c.self.inside in
    still_there d.seen d.may_leave d.moment d.left_since j.disks j.limit j.is_failed c.args.self.now (checkpointed c.args.draft.now.body) c.self.view_is (c.self.invariant c.if-self.false) g.met.D.Disk.only_now

pub returns-clause-stands : goal.returns-clause-stands
returns-clause-stands g c =
    let d = g.D.Disk in let j = c.self.inside in
    stands d.seen d.may_leave c.make_other-made.new.self j.limit _ (search rules) (on_ok _ c.make_other-made.result _ c.in_ok-made.was c.make_other-made.ensures.settled)

pub returns-clause-next : goal.returns-clause-next
returns-clause-next g c is_open =
    let d = g.D.Disk in let j = c.self.inside in
    moved_on d.seen d.may_leave d.moment d.left_since j.disks j.limit j.is_failed c.args.self.now (checkpointed c.args.draft.now.body) _ _ c.self.view_is
    (subst (λ (e : Entry). LeavesPairs d.moment d.left_since j.disks.first j.disks.second c.make_other-made.new.self.first c.make_other-made.new.self.second (IsStillOrNext (text d.seen j.disks) j.disks.generation (Two, e ∷ []))) c.entry-2.ensures c.make_other-made.ensures.any_moment)

pub returns-clause-any_moment : goal.returns-clause-any_moment
returns-clause-any_moment g c is_open =
    let d = g.D.Disk in let j = c.self.inside in
    old_or_new d.seen d.may_leave d.moment d.left_since _ _ _ _ _ _ _
    (moved_on d.seen d.may_leave d.moment d.left_since j.disks j.limit j.is_failed c.args.self.now (checkpointed c.args.draft.now.body) _ _ c.self.view_is
    (subst (λ (e : Entry). LeavesPairs d.moment d.left_since j.disks.first j.disks.second c.make_other-made.new.self.first c.make_other-made.new.self.second (IsStillOrNext (text d.seen j.disks) j.disks.generation (Two, e ∷ []))) c.entry-2.ensures c.make_other-made.ensures.any_moment))

pub returns-in_err-made-clause-either : goal.returns-in_err-made-clause-either
returns-in_err-made-clause-either g c =
    let d = g.D.Disk in let j = c.self.inside in
    comes_about d.seen d.may_leave d.moment d.left_since _ _ _ _ _ g.met.D.Disk.shows g.met.D.Disk.counts_now
    (old_or_new d.seen d.may_leave d.moment d.left_since _ _ _ _ _ _ _
    (moved_on d.seen d.may_leave d.moment d.left_since j.disks j.limit j.is_failed c.args.self.now (checkpointed c.args.draft.now.body) _ _ c.self.view_is
    (subst (λ (e : Entry). LeavesPairs d.moment d.left_since j.disks.first j.disks.second c.make_other-made.new.self.first c.make_other-made.new.self.second (IsStillOrNext (text d.seen j.disks) j.disks.generation (Two, e ∷ []))) c.entry-2.ensures c.make_other-made.ensures.any_moment)))
