use Rattle.std.proofs.Common.{◌≡◌, ◌+◌, ℕ, List, ap, drop, refl}
use Rattle.std.proofs.lemmas.Result.{err_from_is_err_and}
use Rattle.std.specs.Borrow.{Bor}
use Rattle.gs_fields.proofs.Loops.{cut_end}
use Rattle.gs_parts_image.specs.Reading.{servers_in}
use Rattle.gs_parts_image.specs.Work.{pointed}
use Rattle.gs_parts_image.proofs.Loops.{begins, goes_on, ends, is_done, cut}
use Rattle.gs_parts_image.proofs.servers.servers_in.Goals as goal

pub loop-part-init : goal.loop-part-init
loop-part-init c = (refl, rw c.new-servers.ensures.items (begins _))

pub loop-part-preserved : goal.loop-part-preserved
loop-part-preserved c =
    let i = c.loop-part.part-index in
    let config = c.args.config in (
      ap (λ (n : ℕ). n + 1) c.loop-part.invariant.0,
      rw c.in_ok-push.ensures.items (goes_on config.block config.chunk c.loop-part.number c.loop-part.servers.items (pointed (drop i c.args.parts.now)) _ (pointed (drop (i + 1) c.args.parts.now)) c.in_ok-server.server (servers_in config.block config.chunk 0 (pointed c.args.parts.now)) (cut c.args.parts.now i _ c.loop-part-test.true) c.in_ok-server.ensures c.loop-part.invariant.1),
    )

pub returns-in_err-server : goal.returns-in_err-server
returns-in_err-server c =
    let i = c.loop-part.part-index in
    let config = c.args.config in
    let p = err_from_is_err_and c.from_residual.result c.from_residual.ensures.1 in
    rw (p.1, p.2) (ends config.block config.chunk c.loop-part.number c.loop-part.servers.items (pointed (drop i c.args.parts.now)) _ (pointed (drop (i + 1) c.args.parts.now)) c.in_err-server.field-0.0 (servers_in config.block config.chunk 0 (pointed c.args.parts.now)) (cut c.args.parts.now i _ c.loop-part-test.true) c.in_err-server.ensures c.loop-part.invariant.1)

pub returns : goal.returns
returns c =
    let config = c.args.config in
    let none = ap (λ (z : List (Bor (List ℕ))). pointed z) (cut_end c.args.parts.now c.loop-part.part-index c.loop-part-test.false) in
    is_done config.block config.chunk c.loop-part.number c.loop-part.servers.items (pointed (drop c.loop-part.part-index c.args.parts.now)) (servers_in config.block config.chunk 0 (pointed c.args.parts.now)) none c.loop-part.invariant.1
