use Rattle.gs_parts_image.specs.Reading.{SizesFields}
use Rattle.gs_parts_image.proofs.Heads.{sizes_read, sizes_unread}
use Rattle.gs_parts_image.proofs.head.read_sizes.Goals as goal

pub returns-in-Ok : goal.returns-in-Ok
returns-in-Ok c =
    let x : SizesFields = (c.in_ok-servers.servers, (c.in_ok-servers.racks, (c.in_ok-servers.replicas, (c.in_ok-servers.chunk, c.in_ok-servers.block)))) in
    sizes_read c.args.cursor.now.rest.now c.read.new.cursor.rest.now x c.in-Ok.config c.in_ok-servers.ensures c.in-Ok.ensures

pub returns-in-Err : goal.returns-in-Err
returns-in-Err c =
    let x : SizesFields = (c.in_ok-servers.servers, (c.in_ok-servers.racks, (c.in_ok-servers.replicas, (c.in_ok-servers.chunk, c.in_ok-servers.block)))) in
    sizes_unread c.args.cursor.now.rest.now c.read.new.cursor.rest.now x c.in-Err._refusal c.in_ok-servers.ensures c.in-Err.ensures
