-- What is told of an event names the messages that were sent at it.
use Rattle.std.specs.Prelude.{◌≡◌, ◌+◌, ◌-◌, ℕ, Option, Some, None, Ok, if◌then◌else◌, nat_lt, refl}
use Rattle.gs_msg.specs.declared.message.MsgId.{MsgId}
use Rattle.gs_msg.specs.declared.node.NodeId.TheVariants.{Master}
use Rattle.gs_world.specs.declared.outcome.Outcome.{Outcome}

-- the id of one of these messages, counted from 0
abbrev pub id_at : Outcome → ℕ → Option MsgId
id_at outcome nth = if nat_lt nth (outcome.end - outcome.first) then Some (record { sender = outcome.by; place = outcome.first + nth }) else None

-- Worked: the master had sent three messages, and sends two.
abbrev two_sent : Outcome
two_sent = record { by = Master; said = Ok tt; first = 3; end = 5 }

the_second_is_named : id_at two_sent 1 ≡ Some (record { sender = Master; place = 4 })
the_second_is_named = refl

there_is_no_third : id_at two_sent 2 ≡ None
there_is_no_third = refl
