use Rattle.std.proofs.Common.{refl, ◌+◌, length}
use Rattle.gs_journal.proofs.Pairs.{only_first, only_second, first_before_or_after, second_before_or_after}
use Rattle.gs_journal.proofs.Settled.{known_first, known_second, more_on_first, more_on_second, grown}
use Rattle.gs_journal.proofs.pair.Pair.put.Goals as goal

pub returns-in_err-append_to-clause-any_moment : goal.returns-in_err-append_to-clause-any_moment
returns-in_err-append_to-clause-any_moment g c =
    let d = g.D.Disk in let j = c.args.self.now in let s = c.requires.settled in
    only_second d.seen d.may_leave d.moment d.left_since _ _ _ _ _ s.first (g.met.D.Disk.only_now j.first) c.append_to.ensures.any_moment
    (λ x. second_before_or_after (d.seen j.first) (d.seen j.second) c.args.entry.now x (known_second d.seen d.may_leave j s c.if-self.true).1)

pub returns-then-self-clause-any_moment : goal.returns-then-self-clause-any_moment
returns-then-self-clause-any_moment g c =
    let d = g.D.Disk in let j = c.args.self.now in let s = c.requires.settled in
    only_second d.seen d.may_leave d.moment d.left_since _ _ _ _ _ s.first (g.met.D.Disk.only_now j.first) c.append_to.ensures.any_moment
    (λ x. second_before_or_after (d.seen j.first) (d.seen j.second) c.args.entry.now x (known_second d.seen d.may_leave j s c.if-self.true).1)

pub returns-then-self-clause-settled : goal.returns-then-self-clause-settled
returns-then-self-clause-settled g c =
    let d = g.D.Disk in let e = c.in_ok-append_to.ensures in let j = c.args.self.now in
    (more_on_second d.seen d.may_leave j _ c.args.entry.now c.requires.settled c.if-self.true refl refl refl refl (grown c.args.entry.now c.bytes.result.now c.bytes.ensures.written j.end _ e.rest) e.added e.durable).0

pub returns-then-self-clause-added : goal.returns-then-self-clause-added
returns-then-self-clause-added g c =
    let d = g.D.Disk in let e = c.in_ok-append_to.ensures in let j = c.args.self.now in
    (more_on_second d.seen d.may_leave j
    (record {
      first = j.first;
      second = c.append_to.new.disk;
      is_second = j.is_second;
      version = j.version;
      generation = j.generation;
      end = j.end + length c.bytes.result.now;
    })
    c.args.entry.now c.requires.settled c.if-self.true refl refl refl refl (grown c.args.entry.now c.bytes.result.now c.bytes.ensures.written j.end _ e.rest) e.added e.durable).1

pub returns-in_err-append_to-2-clause-any_moment : goal.returns-in_err-append_to-2-clause-any_moment
returns-in_err-append_to-2-clause-any_moment g c =
    let d = g.D.Disk in let j = c.args.self.now in let s = c.requires.settled in
    let k = known_first d.seen d.may_leave j s c.if-self.false in
    only_first d.seen d.may_leave d.moment d.left_since _ _ _ _ _ s.second (g.met.D.Disk.only_now j.second) c.append_to-2.ensures.any_moment
    (λ x. first_before_or_after (d.seen j.first) (d.seen j.second) c.args.entry.now x k.1 k.0.begun)

pub returns-clause-any_moment : goal.returns-clause-any_moment
returns-clause-any_moment g c =
    let d = g.D.Disk in let j = c.args.self.now in let s = c.requires.settled in
    let k = known_first d.seen d.may_leave j s c.if-self.false in
    only_first d.seen d.may_leave d.moment d.left_since _ _ _ _ _ s.second (g.met.D.Disk.only_now j.second) c.append_to-2.ensures.any_moment
    (λ x. first_before_or_after (d.seen j.first) (d.seen j.second) c.args.entry.now x k.1 k.0.begun)

pub returns-clause-settled : goal.returns-clause-settled
returns-clause-settled g c =
    let d = g.D.Disk in let e = c.in_ok-append_to-2.ensures in let j = c.args.self.now in
    (more_on_first d.seen d.may_leave j _ c.args.entry.now c.requires.settled c.if-self.false refl refl refl refl (grown c.args.entry.now c.bytes-2.result.now c.bytes-2.ensures.written j.end _ e.rest) e.added e.durable).0

pub returns-clause-added : goal.returns-clause-added
returns-clause-added g c =
    let d = g.D.Disk in let e = c.in_ok-append_to-2.ensures in let j = c.args.self.now in
    (more_on_first d.seen d.may_leave j
    (record {
      first = c.append_to-2.new.disk;
      second = j.second;
      is_second = j.is_second;
      version = j.version;
      generation = j.generation;
      end = j.end + length c.bytes-2.result.now;
    })
    c.args.entry.now c.requires.settled c.if-self.false refl refl refl refl (grown c.args.entry.now c.bytes-2.result.now c.bytes-2.ensures.written j.end _ e.rest) e.added e.durable).1
