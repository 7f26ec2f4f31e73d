-- What carries the requests of a caller.
use Rattle.std.specs.Prelude.{◌≡◌, ℕ, List}
use Rattle.gs_base.specs.declared.numbers.ReqId.{ReqId}
use Rattle.gs_client.specs.declared.link.Reply.{Reply}
use Rattle.gs_msg.specs.declared.event.Request.{Request}
use Rattle.gs_cluster.specs.Calling.{Carries}
use Rattle.gs_cluster.specs.declared.caller.Caller.{Caller}

-- at its moment, which stays
abbrev pub carried : {N D R : Type 0} → (D → List ℕ) → (D → ℕ) → Caller N D R → ReqId → Request → Reply → Caller N D R → Type 0
carried seen failures old req request reply new = Carries seen failures old.moment req request old.node old.patience.vain reply new.node new.patience.vain × (new.moment ≡ old.moment)
