use Rattle.std.proofs.Common.{arith, refl, ◌+◌, length, length-append}
use Rattle.gs_path.specs.Path.{path_text}
use Rattle.gs_master_record.specs.Encoding.{path}
use Rattle.gs_master_state.proofs.Behind.{path_long, so_behind, two_behind}
use Rattle.gs_master_state.proofs.log.behind_two.Goals as goal

pub returns : goal.returns
returns c =
    let from = c.args.from.now in
    let to = c.args.to.now in
    so_behind c.args.room c.in_ok-room.room c.behind_path-2.result (1 + length (path from)) _ _
    (two_behind c.args.room c.behind.result c.in_ok-room.room 1 _ _ c.behind.ensures c.in_ok-room.ensures refl) c.behind_path-2.ensures
    (omega (arith, length-append (path_text from) (path to), path_long from, path_long to))
