use Rattle.std.proofs.Common.{◌∙◌, ap, sym}
use Rattle.gs_shell_desk.proofs.Delivering.{puts_back, puts_on}
use Rattle.gs_shell_desk.specs.Ways.{is_held, way_of}
use Rattle.gs_shell_desk.proofs.wire.Wire.put.Goals as goal

pub returns-then-eq-clause-ok : goal.returns-then-eq-clause-ok
returns-then-eq-clause-ok g c =
    puts_back c.args.message (way_of c.args.self.now) c.push.new.self.items (sym (ap (is_held c.args.self.now.held_kind) c.kind.ensures) ∙ sym c.if-eq.ensures) c.in_ok-push.ensures.items

pub returns-clause-ok : goal.returns-clause-ok
returns-clause-ok g c =
    puts_on c.args.message (way_of c.args.self.now) c.push_back.new.self.items (sym (ap (is_held c.args.self.now.held_kind) c.kind.ensures) ∙ sym c.if-eq.ensures) c.in_ok-push_back.ensures.items
