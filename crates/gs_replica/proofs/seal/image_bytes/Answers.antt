use Rattle.std.proofs.Common.{◌≤◌, ap, sym, subst, ◌∙◌}
use Rattle.gs_block.specs.Stored.{Stored}
use Rattle.gs_block.specs.Images.{image_bytes, touched}
use Rattle.gs_replica.specs.declared.seal.Seal.{Seal}
use Rattle.gs_replica.specs.Held.{Held}
use Rattle.gs_replica.proofs.Sealing.{long_undone}
use Rattle.gs_replica.proofs.seal.image_bytes.Goals as goal

pub returns-clause-bytes : goal.returns-clause-bytes
returns-clause-bytes c =
    let live : Held = c.args.live.now in
    let seal : Seal = c.args.seal.now in
    c.held.ensures.bytes
    ∙ ap (λ (s : Stored). image_bytes s.block seal.images.long 0 (touched seal.images)) c.blocks-2.ensures
    ∙ ap (λ n. image_bytes live.chunk.block n 0 (touched seal.images)) (sym (long_undone seal.images live.chunk))

pub returns-clause-at_most : goal.returns-clause-at_most
returns-clause-at_most c =
    let live : Held = c.args.live.now in
    let seal : Seal = c.args.seal.now in
    subst (λ n. c.held.result ≤ n) (sym (long_undone seal.images live.chunk)) c.held.ensures.at_most
