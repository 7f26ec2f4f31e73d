use Rattle.gs_laws_master.proofs.lemmas.upgrades.Rolling.{nothing_while_rolling, nothing_at_ticks}
use Rattle.gs_laws_master.proofs.nothing_is_begun_or_dropped_while_rolling_back.Goals as goal

pub returns : goal.returns
returns c = record { messages = nothing_while_rolling; ticks = nothing_at_ticks }
