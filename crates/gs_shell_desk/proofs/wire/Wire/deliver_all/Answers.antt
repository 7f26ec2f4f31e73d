use Rattle.std.proofs.Common.{◌-◌, ◌∙◌, subst}
use Rattle.gs_shell_desk.specs.Ways.{DeliversAll, last_count, way_of, with_queue}
use Rattle.gs_shell_desk.proofs.Delivering.{delivers, empty, none_left, over}
use Rattle.gs_shell_desk.proofs.wire.Wire.deliver_all.Goals as goal

pub returns-in_default : goal.returns-in_default
returns-in_default g c =
    c.loop-done.invariant _
    (subst (λ queue. DeliversAll g.D.Disk.seen g.D.Disk.failures (last_count - c.loop-done._done) (way_of c.loop-done.self) (with_queue queue (way_of c.loop-done.self))) c.in_default.ensures.items
    (none_left g.D.Disk.seen g.D.Disk.failures (last_count - c.loop-done._done) (way_of c.loop-done.self) (empty _ (c.in_default.ensures.items ∙ c.in_default.ensures.rest))))

pub loop-done-preserved : goal.loop-done-preserved
loop-done-preserved g c new others =
    c.loop-done.invariant new
    (delivers g.D.Disk.seen g.D.Disk.failures last_count c.loop-done._done (way_of c.loop-done.self) (way_of c.deliver-said.new.self) new c.in-Some.message c.pop_front.new.self.items c.deliver-said.result c.loop-done-test.true
    c.in-Some.ensures.items c.deliver-said.ensures others)

pub returns : goal.returns
returns g c = c.loop-done.invariant _ (over g.D.Disk.seen g.D.Disk.failures last_count c.loop-done._done (way_of c.loop-done.self) c.loop-done-test.false)
