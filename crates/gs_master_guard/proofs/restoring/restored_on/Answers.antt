use Rattle.std.proofs.Common.{◌∙◌, ◌&&◌, ap, sym}
use Rattle.gs_base.specs.Members.{is_member}
use Rattle.gs_master_spec.specs.Applied.{is_prepared_on}
use Rattle.gs_master_spec.specs.Upgrades.{restored_on}
use Rattle.gs_master_state.proofs.Mapping.{found_number}
use Rattle.gs_master_guard.proofs.Restored.{next_taken, all_taken, none_yet}
use Rattle.gs_master_guard.proofs.restoring.restored_on.Goals as goal

pub loop-number-init : goal.loop-number-init
loop-number-init c = c.none-servers.ensures ∙ none_yet (λ s. is_member c.args.told s && is_prepared_on c.in-Some.prepared s)

pub loop-number-preserved : goal.loop-number-preserved
loop-number-preserved c =
    next_taken (λ s. is_member c.args.told s && is_prepared_on c.in-Some.prepared s) c.loop-number.number c.unwrap-server.result _ c.loop-number.servers _
    (found_number c.new.result _ _ c.new.ensures.number c.unwrap-server.ensures) c.is_taken.ensures c.with_server_if-servers.ensures c.loop-number.invariant

pub returns : goal.returns
returns c =
    c.loop-number.invariant ∙ all_taken (λ s. is_member c.args.told s && is_prepared_on c.in-Some.prepared s) c.loop-number.number c.loop-number-test.false
    ∙ ap (λ p. restored_on p c.args.told) (sym c.in-Some.is)
