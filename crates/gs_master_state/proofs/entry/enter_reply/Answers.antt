use Rattle.gs_master_state.proofs.Before.{reply_back}
use Rattle.gs_master_state.proofs.entry.enter_reply.Goals as goal

pub returns-clause-back : goal.returns-clause-back
returns-clause-back c = reply_back _ _ c.args.to.client _ _ c.exchange-before.ensures.value c.exchange-before.ensures.put
