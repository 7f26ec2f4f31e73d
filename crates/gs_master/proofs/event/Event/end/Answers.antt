use Rattle.std.proofs.Common.{◌≡◌, ◌<◌, ap, arith, inl, inr, length, map, subst, sym}
use Rattle.gs_master_record.specs.Plain.{plain}
use Rattle.gs_master.specs.Journaled.{Breaks, Gains, IsReadyFor}
use Rattle.gs_master_state.specs.inner.Plans.{log_of}
use Rattle.gs_master.proofs.Leading.{log_stays, ready}
use Rattle.gs_master.proofs.event.Event.end.Goals as goal

pub accept-requires : goal.accept-requires
accept-requires g c = (map plain c.args.self.now.entries.items, (c.requires.from.0, c.requires.from.1.leads))

pub returns-then-many-len-clause-ended : goal.returns-then-many-len-clause-ended
returns-then-many-len-clause-ended g c = λ before has.
    let d = g.D.Disk in
    let old = c.args.journal.now in
    let new = c.append_all-many.new.journal in
    let many = c.append_all-many.result in
    let few = c.if-many-len.true in
    let len = c.len.ensures in
    let same = ap length c.deref.ensures.value in
    let below : many < length c.deref.result.now = omega arith in
    inr (
      many,
      (
        c.cut.ensures.cut before has,
        λ log.
            subst (λ records. Breaks d.seen d.failures old records many new) c.deref.ensures.value
            (c.append_all-many.ensures.cut (subst (IsReadyFor old) (sym c.deref.ensures.value) (ready before (log_of c.args.first) c.args.self.now old has log)) below),
      ),
    )

pub returns-else-many-len-clause-ended : goal.returns-else-many-len-clause-ended
returns-else-many-len-clause-ended g c = λ before has. inl (
  c.accept.ensures.whole,
  λ is.
      let d = g.D.Disk in
      let old = c.args.journal.now in
      let new = c.append_all-many.new.journal in
      let few = c.append_all-many.ensures.many in
      let all = c.if-many-len.false in
      let len = c.len.ensures in
      let same = ap length c.deref.ensures.value in
      let whole : c.append_all-many.result ≡ length c.deref.result.now = omega arith in
      let gains = subst (λ records. Gains d.seen d.may_leave d.failures old records new) c.deref.ensures.value
      (c.append_all-many.ensures.all (subst (IsReadyFor old) (sym c.deref.ensures.value) (ready before (log_of c.args.first) c.args.self.now old has is)) whole) in
      (gains, log_stays before (log_of c.args.first) _ c.args.self.now old new has is gains (ap log_of c.accept.ensures.log)),
)
