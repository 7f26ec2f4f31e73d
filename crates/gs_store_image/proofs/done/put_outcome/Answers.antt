use Rattle.gs_store_image.proofs.Outcomes.{outcome_puts}
use Rattle.gs_store_image.proofs.done.put_outcome.Goals as goal

pub returns : goal.returns
returns c =
    outcome_puts c.args.outcome c.fields_of-fields.result.0 c.fields_of-fields.result.1 c.args.out.now.items c.push.new.self.items c.put.new.out.items c.put.result
    c.fields_of-fields.ensures c.in_ok-push.ensures.items c.put.ensures
