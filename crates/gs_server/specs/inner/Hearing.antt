-- What members say of the edits of a lease.
use Rattle.std.specs.Prelude.{ℕ, None}
use Rattle.gs_base.specs.declared.numbers.Moment.{Moment}
use Rattle.gs_base.specs.declared.numbers.Stamp.{Stamp}
use Rattle.gs_base.specs.declared.refusal.Refusal.{Refusal}
use Rattle.gs_msg.specs.declared.node.NodeId.{NodeId}
use Rattle.gs_server.specs.Holding.{ack, nack, from_server}
use Rattle.gs_server.specs.Servers.{Server, Step, here_of, place_of, step_of}

-- how many edits a member has
abbrev pub hears_ack : ℕ → NodeId → Stamp → ℕ → Moment → Server → Step
hears_ack handle from stamp count moment s = step_of handle None (from_server from (λ server. ack (here_of s moment handle None) (place_of handle s) server stamp count)) s

-- why it has one not
abbrev pub hears_nack : ℕ → NodeId → Stamp → Refusal → Moment → Server → Step
hears_nack handle from stamp refusal moment s = step_of handle None (from_server from (λ server. nack (here_of s moment handle None) (place_of handle s) server stamp refusal)) s
