use Rattle.std.proofs.Common.{refl}
use Rattle.gs_journal.specs.Journal.{AreBoth}
use Rattle.gs_journal.proofs.Pairs.{only_first, only_second}
use Rattle.gs_journal.proofs.Settled.{reread_first, reread_second}
use Rattle.gs_journal.proofs.pair.Pair.records.Goals as goal

pub returns-in_err-bytes-clause-any_moment : goal.returns-in_err-bytes-clause-any_moment
returns-in_err-bytes-clause-any_moment g c =
    let d = g.D.Disk in let j = c.args.self.now in let s = c.requires.settled in
    only_second d.seen d.may_leave d.moment d.left_since _ _ _ _ (AreBoth (d.seen j.first) (d.seen j.second)) s.first (g.met.D.Disk.only_now j.first) c.read_all.ensures.any_moment
    (λ x left. (refl, s.second x left))

pub returns-then-self-clause-any_moment : goal.returns-then-self-clause-any_moment
returns-then-self-clause-any_moment g c =
    let d = g.D.Disk in let j = c.args.self.now in let s = c.requires.settled in
    only_second d.seen d.may_leave d.moment d.left_since _ _ _ _ (AreBoth (d.seen j.first) (d.seen j.second)) s.first (g.met.D.Disk.only_now j.first) c.read_all.ensures.any_moment
    (λ x left. (refl, s.second x left))

pub returns-in_err-bytes-2-clause-any_moment : goal.returns-in_err-bytes-2-clause-any_moment
returns-in_err-bytes-2-clause-any_moment g c =
    let d = g.D.Disk in let j = c.args.self.now in let s = c.requires.settled in
    only_first d.seen d.may_leave d.moment d.left_since _ _ _ _ (AreBoth (d.seen j.first) (d.seen j.second)) s.second (g.met.D.Disk.only_now j.second) c.read_all-2.ensures.any_moment
    (λ x left. (s.first x left, refl))

pub returns-clause-any_moment : goal.returns-clause-any_moment
returns-clause-any_moment g c =
    let d = g.D.Disk in let j = c.args.self.now in let s = c.requires.settled in
    only_first d.seen d.may_leave d.moment d.left_since _ _ _ _ (AreBoth (d.seen j.first) (d.seen j.second)) s.second (g.met.D.Disk.only_now j.second) c.read_all-2.ensures.any_moment
    (λ x left. (s.first x left, refl))

pub returns-in_err-bytes-clause-settled : goal.returns-in_err-bytes-clause-settled
returns-in_err-bytes-clause-settled g c =
    let d = g.D.Disk in reread_second d.seen d.may_leave c.args.self.now c.read_all.new.disk c.requires.settled c.read_all.ensures.seen c.read_all.ensures.durable

pub returns-then-self-clause-settled : goal.returns-then-self-clause-settled
returns-then-self-clause-settled g c =
    let d = g.D.Disk in reread_second d.seen d.may_leave c.args.self.now c.read_all.new.disk c.requires.settled c.read_all.ensures.seen c.read_all.ensures.durable

pub returns-in_err-bytes-2-clause-settled : goal.returns-in_err-bytes-2-clause-settled
returns-in_err-bytes-2-clause-settled g c =
    let d = g.D.Disk in reread_first d.seen d.may_leave c.args.self.now c.read_all-2.new.disk c.requires.settled c.read_all-2.ensures.seen c.read_all-2.ensures.durable

pub returns-clause-settled : goal.returns-clause-settled
returns-clause-settled g c =
    let d = g.D.Disk in reread_first d.seen d.may_leave c.args.self.now c.read_all-2.new.disk c.requires.settled c.read_all-2.ensures.seen c.read_all-2.ensures.durable
