use Rattle.std.proofs.Common.{◌∙◌, ◌&&◌, ap, not, sym}
use Rattle.std.specs.FinMap as fin
use Rattle.std.specs.List.{list_all}
use Rattle.gs_tree.specs.Edits.{chunks_in}
use Rattle.gs_master_spec.specs.Settling.{is_quiet_at}
use Rattle.gs_master_plan.specs.inner.Planning.{state_of}
use Rattle.gs_master_plan.proofs.HeldUp.{held_up_waits}
use Rattle.gs_master_plan.proofs.standing.Standing.holds_up.Goals as goal

pub returns-then-is_visible_below-clause-waits : goal.returns-then-is_visible_below-clause-waits
returns-then-is_visible_below-clause-waits c is =
    let s = state_of c.args.self.now in
    let all = list_all (is_quiet_at s) (chunks_in (fin.get s.durable.names.tree c.args.file.now)) in
    held_up_waits s c.args.from.now c.args.file.now (ap (λ copied. copied && not all) (sym c.if-is_visible_below.ensures) ∙ ap not (sym c.is_file_quiet.ensures) ∙ is)
