use Rattle.std.proofs.Common.{◌+◌, ◌++◌, ◌∷◌, [], ℕ, List, Vec, ap, drop, ◌∙◌}
use Rattle.std.proofs.lemmas.List.{map_push}
use Rattle.std.proofs.lemmas.Result.{err_from_is_err_and}
use Rattle.std.specs.declared.alloc.Global.{Global}
use Rattle.gs_fields.proofs.Loops.{cut_at, cut_end}
use Rattle.gs_parts_image.specs.Work.{bytes_of}
use Rattle.gs_parts_image.proofs.Loops.{all_left, one_less, not_put, none_left}
use Rattle.gs_parts_image.proofs.servers.put_servers.Goals as goal

pub loop-server-init : goal.loop-server-init
loop-server-init c = all_left c.args.servers.now (bytes_of c.args.parts.now.items)

pub returns-in_err-part : goal.returns-in_err-part
returns-in_err-part c =
    let p = err_from_is_err_and c.from_residual.result c.from_residual.ensures.1 in
    rw (p.1, p.2) (not_put c.args.servers.now (drop c.loop-server.server-index c.args.servers.now) c.server-item.result (drop (c.loop-server.server-index + 1) c.args.servers.now) (bytes_of c.args.parts.now.items) (bytes_of c.loop-server.parts.items) c.in_err-part.field-0.0 (cut_at c.args.servers.now c.loop-server.server-index c.server-item.result c.loop-server-test.true c.server-item.is) c.in_err-part.ensures c.loop-server.invariant)

pub loop-server-preserved : goal.loop-server-preserved
loop-server-preserved c =
    let put = ap (λ (z : List (Vec ℕ Global)). bytes_of z) c.in_ok-push.ensures.items ∙ map_push (λ (v : Vec ℕ Global). v.items) c.loop-server.parts.items c.in_ok-part.part ∙ ap (λ (b : List ℕ). bytes_of c.loop-server.parts.items ++ b ∷ []) c.in_ok-part.ensures.1 in
    one_less c.args.servers.now (drop c.loop-server.server-index c.args.servers.now) c.server-item.result (drop (c.loop-server.server-index + 1) c.args.servers.now) (bytes_of c.args.parts.now.items) (bytes_of c.loop-server.parts.items) (bytes_of c.push.new.self.items)
    (cut_at c.args.servers.now c.loop-server.server-index c.server-item.result c.loop-server-test.true c.server-item.is) (c.in_ok-part.ensures.0, put) c.loop-server.invariant

pub returns : goal.returns
returns c =
    none_left c.args.servers.now (drop c.loop-server.server-index c.args.servers.now) (bytes_of c.args.parts.now.items) (bytes_of c.loop-server.parts.items) (cut_end c.args.servers.now c.loop-server.server-index c.loop-server-test.false) c.loop-server.invariant
