use Rattle.std.proofs.Common.{rules, ◌<◌, ◌^◌}
use Rattle.gs_lease_table.proofs.Bits.{all_parts, some_parts}
use Rattle.gs_lease_table.proofs.groups.groups_of.Goals as goal

pub returns-then-brief-gt16 : goal.returns-then-brief-gt16
returns-then-brief-gt16 c =
    let fits : c.bits.result < 2 ^ 16 = search (rules, c.bits.type_inv) in
    some_parts c.args.brief.now c.bits.result c.entered-groups.result fits c.bits.ensures.back c.entered-groups.ensures c.if-brief-gt16.true

pub returns : goal.returns
returns c =
    let fits : c.bits.result < 2 ^ 16 = search (rules, c.bits.type_inv) in
    all_parts c.args.brief.now c.bits.result c.entered-groups.result c.entered.result fits c.bits.ensures.back c.entered-groups.ensures c.entered.ensures
