use Rattle.std.proofs.Common.{rules, sym, ◌∙◌}
use Rattle.std.specs.FinMap as fin
use Rattle.gs_master_state.proofs.Deleted.{target_dir}
use Rattle.gs_master_state.proofs.inverse.target_of.Goals as goal

pub returns : goal.returns
returns c =
    target_dir (fin.get c.args.names.now.names.tree) c.args.from.now c.args.to.now c.in-Some.field-0-1.now c.in-Some.name.now c.in_ok-target.target c.push.new.self c.in_ok-copy.field-0
    (search rules) (sym c.elements.ensures ∙ c.in-Some.ensures.cases.0) c.in_ok-target.ensures c.in_ok-copy.ensures c.in_ok-push.ensures.ok
