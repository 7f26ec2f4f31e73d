use Rattle.std.proofs.Common.{refl, ◌+◌, length, true, false}
use Rattle.gs_journal.specs.declared.version.Version.TheVariants.{Two}
use Rattle.gs_journal.proofs.Pairs.{only_first, only_second}
use Rattle.gs_journal.proofs.Checkpoint.{new_first, new_second, new_while_first, new_while_second}
use Rattle.gs_journal.proofs.pair.Pair.make_other.Goals as goal

pub returns-in_err-make-clause-any_moment : goal.returns-in_err-make-clause-any_moment
returns-in_err-make-clause-any_moment g c =
    let d = g.D.Disk in let j = c.args.self.now in let s = c.requires.settled in
    only_first d.seen d.may_leave d.moment d.left_since _ _ _ _ _ s.second (g.met.D.Disk.only_now j.second) c.make.ensures.any_moment
    (λ x. new_while_first d.seen d.may_leave j c.args.entry.now c.args.bytes.now x s c.if-self.true c.requires.next c.bytes.ensures.fits c.requires.text)

pub returns-then-self-clause-any_moment : goal.returns-then-self-clause-any_moment
returns-then-self-clause-any_moment g c =
    let d = g.D.Disk in let j = c.args.self.now in let s = c.requires.settled in
    only_first d.seen d.may_leave d.moment d.left_since _ _ _ _ _ s.second (g.met.D.Disk.only_now j.second) c.make.ensures.any_moment
    (λ x. new_while_first d.seen d.may_leave j c.args.entry.now c.args.bytes.now x s c.if-self.true c.requires.next c.bytes.ensures.fits c.requires.text)

pub returns-in_err-make-2-clause-any_moment : goal.returns-in_err-make-2-clause-any_moment
returns-in_err-make-2-clause-any_moment g c =
    let d = g.D.Disk in let j = c.args.self.now in let s = c.requires.settled in
    only_second d.seen d.may_leave d.moment d.left_since _ _ _ _ _ s.first (g.met.D.Disk.only_now j.first) c.make-2.ensures.any_moment
    (λ x. new_while_second d.seen d.may_leave j c.args.entry.now c.args.bytes.now x s c.if-self.false c.requires.next c.bytes.ensures.fits c.requires.text)

pub returns-clause-any_moment : goal.returns-clause-any_moment
returns-clause-any_moment g c =
    let d = g.D.Disk in let j = c.args.self.now in let s = c.requires.settled in
    only_second d.seen d.may_leave d.moment d.left_since _ _ _ _ _ s.first (g.met.D.Disk.only_now j.first) c.make-2.ensures.any_moment
    (λ x. new_while_second d.seen d.may_leave j c.args.entry.now c.args.bytes.now x s c.if-self.false c.requires.next c.bytes.ensures.fits c.requires.text)

pub returns-then-self-clause-settled : goal.returns-then-self-clause-settled
returns-then-self-clause-settled g c =
    let d = g.D.Disk in let j = c.args.self.now in
    (new_first d.seen d.may_leave j
    (record {
      first = c.make.new.disk;
      second = j.second;
      is_second = false;
      version = Two;
      generation = j.generation + 1;
      end = 13 + length c.bytes.result.now;
    })
    c.args.entry.now c.args.bytes.now c.bytes.result.now c.requires.settled c.if-self.true c.requires.next c.bytes.ensures.fits c.requires.text c.bytes.ensures.written c.in_ok-make.ensures.seen refl refl refl refl refl
    c.in_ok-make.ensures.durable).0

pub returns-then-self-clause-made : goal.returns-then-self-clause-made
returns-then-self-clause-made g c =
    let d = g.D.Disk in let j = c.args.self.now in
    (new_first d.seen d.may_leave j
    (record {
      first = c.make.new.disk;
      second = j.second;
      is_second = false;
      version = Two;
      generation = j.generation + 1;
      end = 13 + length c.bytes.result.now;
    })
    c.args.entry.now c.args.bytes.now c.bytes.result.now c.requires.settled c.if-self.true c.requires.next c.bytes.ensures.fits c.requires.text c.bytes.ensures.written c.in_ok-make.ensures.seen refl refl refl refl refl
    c.in_ok-make.ensures.durable).1

pub returns-clause-settled : goal.returns-clause-settled
returns-clause-settled g c =
    let d = g.D.Disk in let j = c.args.self.now in
    (new_second d.seen d.may_leave j
    (record {
      first = j.first;
      second = c.make-2.new.disk;
      is_second = true;
      version = Two;
      generation = j.generation + 1;
      end = 13 + length c.bytes.result.now;
    })
    c.args.entry.now c.args.bytes.now c.bytes.result.now c.requires.settled c.if-self.false c.requires.next c.bytes.ensures.fits c.requires.text c.bytes.ensures.written c.in_ok-make-2.ensures.seen refl refl refl refl refl
    c.in_ok-make-2.ensures.durable).0

pub returns-clause-made : goal.returns-clause-made
returns-clause-made g c =
    let d = g.D.Disk in let j = c.args.self.now in
    (new_second d.seen d.may_leave j
    (record {
      first = j.first;
      second = c.make-2.new.disk;
      is_second = true;
      version = Two;
      generation = j.generation + 1;
      end = 13 + length c.bytes.result.now;
    })
    c.args.entry.now c.args.bytes.now c.bytes.result.now c.requires.settled c.if-self.false c.requires.next c.bytes.ensures.fits c.requires.text c.bytes.ensures.written c.in_ok-make-2.ensures.seen refl refl refl refl refl
    c.in_ok-make-2.ensures.durable).1
