-- What the laws of the requests of a caller say.
use Rattle.std.specs.Prelude.{◌≡◌, ℕ, List, Some}
use Rattle.gs_base.specs.declared.numbers.ClientId.{ClientId}
use Rattle.gs_base.specs.declared.numbers.Moment.{Moment}
use Rattle.gs_base.specs.declared.numbers.ReqId.{ReqId}
use Rattle.gs_client.specs.declared.link.Reply.{Reply}
use Rattle.gs_msg.specs.declared.event.Request.{Request}
use Rattle.gs_msg.specs.declared.node.NodeId.TheVariants as ids
use Rattle.gs_cluster.specs.Answered.{Answered, client_of}
use Rattle.gs_cluster.specs.Calling.{Carries}
use Rattle.gs_cluster_core.specs.Roles.{DoesAs, StartsAs}
use Rattle.gs_cluster_core.specs.declared.role.Role.{Role}
use Rattle.gs_cluster_history.specs.Histories.{IsKept, Kept}
use Rattle.gs_cluster_history.specs.Setting.{Setting}

module _ {D : Type 0} (seen : D → List ℕ) (failures : D → ℕ) where
  -- A reply to a request is from what its history took in it.
  abbrev pub RepliesAreFromTheHistory : Type 0
  RepliesAreFromTheHistory = (moment : Moment) (req : ReqId) (request : Request) (old : Kept (Role D)) (before : ℕ) (reply : Reply) (new : Kept (Role D)) (after : ℕ)
      → Carries seen failures moment req request old before reply new after → Answered moment req request old before reply new after

  -- A client that is kept is the client of its own number.
  abbrev pub KeptClientsAreOfTheirNumber : Type 0
  KeptClientsAreOfTheirNumber = (setting : Setting) (k : Kept (Role D)) (id : ClientId) → IsKept (DoesAs seen failures) (StartsAs seen failures setting) k
      → k.me ≡ ids.Client id → client_of k.past.core ≡ Some id
