use Rattle.std.proofs.Common.{refl}
use Rattle.gs_edit.proofs.References.{forgotten_back}
use Rattle.gs_edit.proofs.names.forget.Goals as goal

pub returns-in-Ok-clause-undo : goal.returns-in-Ok-clause-undo
returns-in-Ok-clause-undo c = record {
  fits = tt;
  tree = λ q. refl;
  refs = forgotten_back c.args.refs.now c.take_out_each.new.self c.args.chunks.now c.in_ok-copy.copy.items c.in_ok-copy.ensures.items c.in-Ok.ensures;
}
