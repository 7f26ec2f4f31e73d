use Rattle.std.proofs.Common.{ℕ, subst}
use Rattle.gs_fields.specs.Reading.{whole}
use Rattle.gs_parts_image.specs.Work.{FindsAs}
use Rattle.gs_parts_image.proofs.Loops.{found_number}
use Rattle.gs_parts_image.proofs.servers.numbered.Goals as goal
use Rattle.gs_server_image.specs.Reading.{server_at}

pub returns : goal.returns
returns c =
    let config = c.args.config in
    let id = c.unwrap-id.result in
    let sizes = c.of.result in
    subst (λ (n : ℕ). FindsAs (λ s. s) c.server_in.result (whole (server_at n config.block config.chunk c.args.part.now))) (found_number c.new.result id c.args.number c.new.ensures.number c.unwrap-id.ensures)
    (subst (λ (b : ℕ). FindsAs (λ s. s) c.server_in.result (whole (server_at id b config.chunk c.args.part.now))) c.of.ensures.block
    (subst (λ (k : ℕ). FindsAs (λ s. s) c.server_in.result (whole (server_at id sizes.block k c.args.part.now))) c.of.ensures.chunk c.server_in.ensures))
