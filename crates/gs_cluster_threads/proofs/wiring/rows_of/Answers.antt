use Rattle.std.proofs.Common.{◌≡◌, ◌-◌, ℕ, ap, arith, map, ◌∙◌}
use Rattle.std.specs.Prelude.{vec_len}
use Rattle.gs_cluster_threads.specs.inner.Berths.{with_parts}
use Rattle.gs_cluster_threads.proofs.Joining.{cut_parts, none_cut, one_cut}
use Rattle.gs_cluster_threads.proofs.wiring.rows_of.Goals as goal

pub loop-cut-init : goal.loop-cut-init
loop-cut-init g c = none_cut c.args.berths.items c.new-rows.result.items c.new-rows.ensures.items c.requires.each

pub row_of-requires-clause-each : goal.row_of-requires-clause-each
row_of-requires-clause-each g c = cut_parts c.args.berths.items c.loop-cut.cut c.loop-cut.berths.items c.loop-cut.rows.items c.loop-cut.invariant

pub loop-cut-preserved : goal.loop-cut-preserved
loop-cut-preserved g c =
    one_cut c.args.berths.items c.loop-cut.cut c.loop-cut.berths.items c.in_ok-left.left.items c.loop-cut.rows.items c.push.new.self.items c.in_ok-left.row c.loop-cut.invariant
    c.in_ok-left.ensures.berths c.in_ok-left.ensures.row c.in_ok-push.ensures.items

pub returns-clause-berths : goal.returns-clause-berths
returns-clause-berths g c =
    let end : c.loop-cut.cut ≡ vec_len c.args.berths = omega arith in
    c.loop-cut.invariant.berths ∙ ap (λ (n : ℕ). map (with_parts (1024 - n)) c.args.berths.items) end

pub returns-clause-rows : goal.returns-clause-rows
returns-clause-rows g c =
    let end : c.loop-cut.cut ≡ vec_len c.args.berths = omega arith in
    let long = c.loop-cut.invariant.long in
    omega arith

pub returns-clause-row : goal.returns-clause-row
returns-clause-row g c = c.loop-cut.invariant.each
