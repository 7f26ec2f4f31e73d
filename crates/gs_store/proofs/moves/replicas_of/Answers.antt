use Rattle.std.proofs.Common.{◌≡◌, ◌∙◌}
use Rattle.gs_store.specs.Moves.{carried_in}
use Rattle.gs_store.proofs.Calls.{given_back, kept, reason}
use Rattle.gs_store.proofs.moves.replicas_of.Goals as goal

pub returns-in-Err-carried_in-clause-refused : goal.returns-in-Err-carried_in-clause-refused
returns-in-Err-carried_in-clause-refused c =
    reason c.args.sizes.block c.args.sizes.chunk c.args.stamp c.args.image c.args.sealed c.in-Ok.replica c.in-Err-carried_in.field-0 c.handed_back-in-Err-carried_in.result.refusal c.in-Ok.ensures c.in-Err-carried_in.ensures.made c.handed_back-in-Err-carried_in.ensures.refusal

pub returns-in-Err-carried_in-clause-given : goal.returns-in-Err-carried_in-clause-given
returns-in-Err-carried_in-clause-given c =
    let image : c.into_image.result ≡ c.args.image = c.into_image.ensures ∙ given_back c.args.sizes.block c.args.sizes.chunk c.args.stamp c.args.image c.in-Ok.replica c.in-Ok.ensures in
    let sealed = kept c.args.sealed (carried_in c.args.sizes.block c.args.sizes.chunk c.args.sealed) c.in-Err-carried_in.field-0 c.in-Err-carried_in.ensures.made in
    c.handed_back-in-Err-carried_in.ensures.given ∙ (λ k. record { image = image k; sealed = sealed k })
