use Rattle.std.proofs.Common.{ℕ, List}
use Rattle.gs_place.proofs.Best.{IsBest, best_step, best_all, best_is_first, best_first, best_none, found_number}
use Rattle.gs_place.proofs.placement.first_candidate.Goals as goal

pub loop-number-preserved : goal.loop-number-preserved
loop-number-preserved c =
    best_step c.args.config.now.racks c.args.replicas.now c.args.taken c.loop-number.number c.unwrap-server.result c.loop-number.first c.earlier-first.result
    (found_number c.new.result _ _ c.new.ensures.number c.unwrap-server.ensures) c.earlier-first.ensures c.loop-number.invariant

pub returns : goal.returns
returns c =
    let servers : ℕ = c.args.config.now.servers in
    let racks : ℕ = c.args.config.now.racks in
    let replicas : List ℕ = c.args.replicas.now in
    let all : IsBest racks replicas c.args.taken servers c.loop-number.first =
    best_all racks replicas c.args.taken c.loop-number.number servers c.loop-number.first c.loop-number.auto.number-end c.loop-number-test.false c.loop-number.invariant
    in
    record {
      function = best_is_first servers racks replicas c.args.taken c.loop-number.first all;
      first = best_first servers racks replicas c.args.taken c.loop-number.first all;
      none = best_none servers racks replicas c.args.taken c.loop-number.first all;
    }
