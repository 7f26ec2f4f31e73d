use Rattle.std.proofs.Common.{ap, ◌∙◌}
use Rattle.std.specs.Prelude.{Ok}
use Rattle.gs_msg.specs.declared.answer.Answer.TheVariants as answers
use Rattle.gs_master_state.proofs.Listed.{listed_as}
use Rattle.gs_master_state.proofs.recorded.Recorded.listing.Goals as goal

pub returns : goal.returns
returns c =
    ap (λ l. Ok (answers.Names l)) c.new.ensures
    ∙ listed_as c.args.self.now.names.names.tree c.args.path.now c.in-Ok.listed.items c.in_ok-names.names.items c.in-Ok.ensures c.in_ok-names.ensures
