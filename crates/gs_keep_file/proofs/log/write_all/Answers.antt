use Rattle.std.proofs.Common.{◌-◌, length, drop, arith, length-take}
use Rattle.gs_keep_file.proofs.Writing.{wrote_all, wrote_more, wrote_none, wrote_same}
use Rattle.gs_keep_file.proofs.log.write_all.Goals as goal
use Rattle.gs_keep_file.proofs.log.write_all.Goals.{in-Ok, in-Err}

pub loop-init : goal.loop-init
loop-init g c = record { fits = omega arith; wrote = wrote_none c.args.bytes.now (g.F.LogFile.holds c.args.file.now) }

pub returns-then-written-bytes-clause-ok : goal.returns-then-written-bytes-clause-ok
returns-then-written-bytes-clause-ok g c = wrote_all c.args.bytes.now c.loop.written _ _ (omega (arith, c.if-written-bytes.true)) c.loop.invariant.wrote

pub loop-preserved : goal.loop-preserved
loop-preserved g c =
    let old = g.F.LogFile.holds c.args.file.now in
    let mid = g.F.LogFile.holds c.loop.file in
    let done = c.loop.written in
    let xs = c.args.bytes.now in
    let before = c.loop.invariant in
    let most = length-take (length xs - done) (drop done xs) in
    elim c.match-write_end.branch [
      | in-Ok w ↦
          let fits = w.in-Ok.ensures.bound in
          rw w.written-is (record { fits = omega arith; wrote = wrote_more xs done w.in-Ok.count old mid _ (omega arith) before.wrote w.in-Ok.ensures.ok })
      | in-Err w ↦ rw w.written-is (record { fits = before.fits; wrote = wrote_same xs done old mid _ before.wrote w.in-Err.ensures.err })
    ]
