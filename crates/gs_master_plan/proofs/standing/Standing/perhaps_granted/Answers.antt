use Rattle.std.proofs.Common.{ℕ, List, ap, refl, ◌∙◌}
use Rattle.std.specs.Prelude.{flat_map}
use Rattle.std.specs.Ordering.{nat_cmp}
use Rattle.gs_base_table.specs.Slots.{live}
use Rattle.gs_msg.specs.declared.message.Message.{Message}
use Rattle.gs_master_plan.specs.inner.Planning.{state_of}
use Rattle.gs_master_plan.proofs.Granting.{granted_in}
use Rattle.gs_master_spec.specs.Chunks.{chunk_at}
use Rattle.gs_master_spec.specs.Handling.{granted_at}
use Rattle.gs_master_state.proofs.Mapping.{if_ok_weaker}
use Rattle.gs_master_plan.proofs.standing.Standing.perhaps_granted.Goals as goal

pub returns-in-Some : goal.returns-in-Some
returns-in-Some c =
    let s = state_of c.args.self.now in
    let sends : ℕ → List Message = λ chunk. granted_at chunk (chunk_at s chunk) in
    if_ok_weaker _ _ (λ chunks is. ap (flat_map sends) is ∙ granted_in s c.args.self.now.recorded.now (live nat_cmp c.in-Some.chunks.now) refl c.in-Some.ensures) c.keys_of.result c.keys_of.ensures
