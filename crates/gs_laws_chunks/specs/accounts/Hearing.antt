-- A step at which the master hears a message.
use Rattle.std.specs.Prelude.{◌≡◌, None, Option, Some, refl}
use Rattle.gs_base.specs.declared.numbers.ClientId.{ClientId}
use Rattle.gs_msg.specs.declared.event.Happening.{Happening}
use Rattle.gs_msg.specs.declared.event.Happening.TheVariants as happenings
use Rattle.gs_msg.specs.declared.message.Message.{Message}
use Rattle.gs_msg.specs.declared.node.NodeId.{NodeId}
use Rattle.gs_msg.specs.declared.node.NodeId.TheVariants as nodes
use Rattle.gs_world.specs.Runs.{Comes, Step, Takes}
use Rattle.gs_world.specs.Sent.{Sent, message_of}

-- what is delivered to the master
abbrev pub to_master : Option Message → Option Message
to_master None = None
to_master (Some message) = if_master message.to
  where
    if_master : NodeId → Option Message
    if_master nodes.Master = Some message
    if_master node = None

abbrev pub heard_by_master : Step → Sent → Option Message
heard_by_master (Comes event) sent = hears event.happening
  where
    hears : Happening → Option Message
    hears (happenings.Deliver message) = to_master (message_of sent message)
    hears happening = None
heard_by_master (Takes client) sent = None

-- ---- Worked
what_a_client_takes_is_not_heard : (client : ClientId) (sent : Sent) → heard_by_master (Takes client) sent ≡ None
what_a_client_takes_is_not_heard client sent = refl
