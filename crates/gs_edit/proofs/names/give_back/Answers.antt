use Rattle.gs_edit.proofs.References.{given_now}
use Rattle.gs_edit.proofs.names.give_back.Goals as goal

pub returns : goal.returns
returns c = given_now c.args.refs.now c.unlist.new.self c.raise.new.self c.args.chunk c.args.old c.unlist.result c.raise.result c.requires c.unlist.ensures c.raise.ensures.listed
