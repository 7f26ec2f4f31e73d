use Rattle.std.proofs.Common.{◌∙◌, ap, min, subst}
use Rattle.gs_shell_desk.specs.Ways.{ServersTick, way_of}
use Rattle.gs_shell_desk.proofs.wire.Wire.tick_all.Goals as goal

pub returns : goal.returns
returns g c = (
  way_of c.tick_master.new.self,
  c.tick_master.ensures,
  subst (λ n. ServersTick n (way_of c.tick_master.new.self) (way_of c.tick_servers.new.self)) (c.min-many.ensures ∙ ap (λ n. min n 16) (c.len.ensures ∙ c.args.self.now.nodes.servers.ok.0)) c.tick_servers.ensures,
)
