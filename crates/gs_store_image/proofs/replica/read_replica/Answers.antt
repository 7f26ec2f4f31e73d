use Rattle.gs_store_image.proofs.Replicas.{replica_read, replica_unread}
use Rattle.gs_store_image.proofs.replica.read_replica.Goals as goal

pub returns-in-Ok : goal.returns-in-Ok
returns-in-Ok c =
    replica_read c.args.sizes.block c.args.sizes.chunk c.args.cursor.now.rest.now c.read_parts.new.cursor.rest.now c.read_seal_in.new.cursor.rest.now c.in_ok-stands.stands c.in_ok-seal.seal c.in-Ok.replica c.in_ok-stands.ensures c.in_ok-seal.ensures c.in-Ok.ensures

pub returns-in-Err : goal.returns-in-Err
returns-in-Err c =
    replica_unread c.args.sizes.block c.args.sizes.chunk c.args.cursor.now.rest.now c.read_parts.new.cursor.rest.now c.read_seal_in.new.cursor.rest.now c.in_ok-stands.stands c.in_ok-seal.seal c.in-Err._refusal c.in_ok-stands.ensures c.in_ok-seal.ensures c.in-Err.ensures
