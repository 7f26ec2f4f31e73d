use Rattle.std.specs.Option.{option_copied}
use Rattle.gs_store_image.proofs.Replicas.{held_are}
use Rattle.gs_store_image.proofs.held.is_replica_held.Goals as goal

pub returns : goal.returns
returns c = held_are c.args.replica.now (option_copied c.seal_parts-seal.result) c.whole.ensures c.seal_parts-seal.ensures.seen c.seal_parts-seal.ensures.belongs
