use Rattle.std.proofs.Common.{◌<◌, Some, sym, ap, ◌∙◌, arith}
use Rattle.std.specs.Prelude.{slice_get}
use Rattle.std.proofs.lemmas.Option.{slice_get_read}
use Rattle.gs_msg.specs.declared.message.Message.{Message}
use Rattle.gs_cluster_history.specs.Histories.{listed}
use Rattle.gs_cluster_node.specs.Nodes.{last_clock}
use Rattle.gs_cluster_node.proofs.posting.copies_of.Goals as goal

pub keep-requires-clause-stands : goal.keep-requires-clause-stands
keep-requires-clause-stands c =
    let here = c.loop-at.invariant.1 in
    let some = c.if-number.false in
    let fits = c.loop-at.auto.number-fits in
    let below : c.args.first < last_clock = omega arith in
    let at = slice_get_read c.args.messages.now.items c.len-at-end.result c.loop-at.at c.index.result.now (c.len-at-end.ensures ∙ c.args.messages.now.ok.0) c.loop-at-test.true c.index.ensures in (
      c.same.ensures,
      ap (slice_get c.args.log.now.sent) here ∙ c.requires below c.loop-at.at c.index.result.now at ∙ ap (λ (m : Message). Some (listed c.args.clock c.args.moment m)) (sym c.in-Ok.ensures),
    )
