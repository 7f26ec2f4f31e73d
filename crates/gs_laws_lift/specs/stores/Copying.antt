-- Of which chunk a new one is a copy, as the master has told a server.
use Rattle.std.specs.Prelude.{◌==◌, ◌≡◌, ℕ, Bool, false, if◌then◌else◌, Option, Some, None, filter_map, is_some, slice_get, [], ◌∷◌, refl}
use Rattle.gs_base.specs.declared.numbers.Stamp.{Stamp}
use Rattle.gs_msg.specs.declared.body.Body.{Body}
use Rattle.gs_msg.specs.declared.body.Body.TheVariants as bodies
use Rattle.gs_msg.specs.declared.message.Message.{Message}
use Rattle.gs_msg.specs.declared.node.NodeId.{NodeId}
use Rattle.gs_msg.specs.declared.node.NodeId.TheVariants as nodes
use Rattle.gs_msg.specs.declared.outbox.Post.{Post}
use Rattle.gs_world.specs.Sent.{Sent, none_sent}

-- the chunk of which a new one is a copy, and the stamp under which that was copied, as the master has told a server
abbrev pub copied_by : ℕ → Post → Option (ℕ × Stamp)
copied_by chunk post = in_message post.message
  where
    in_body : NodeId → Body → Option (ℕ × Stamp)
    in_body (nodes.Server me) (bodies.MakeCopy old stamp new under) = if new == chunk then Some (old, stamp) else None
    in_body to body = None

    in_message : Option Message → Option (ℕ × Stamp)
    in_message None = None
    in_message (Some message) = in_body message.to message.body

abbrev pub copied_from : Sent → ℕ → Option (ℕ × Stamp)
copied_from sent chunk = slice_get (filter_map (copied_by chunk) sent.master) 0

-- it was told at all
abbrev pub is_copied : Sent → ℕ → Bool
is_copied sent chunk = is_some (copied_from sent chunk)

-- this makes no copy that is this chunk
abbrev pub MakesOther : ℕ → Body → Type 0
MakesOther chunk (bodies.MakeCopy old at new stamp) = new ≡ chunk → ⊥
MakesOther chunk body = Unit {0}

-- ---- examples

abbrev at_stamp : ℕ → Stamp
at_stamp version = record { epoch = 0; version = version }

abbrev pub tells_of_a_copy : Sent
tells_of_a_copy = record (none_sent 1 1) {
  master = record {
    moment = record { 0 = 0 };
    message = Some (record { from = nodes.Master; to = nodes.Server 0; body = bodies.MakeCopy 6 (at_stamp 1) 7 (at_stamp 2) });
  } ∷ [];
}

seven_is_a_copy_of_six : copied_from tells_of_a_copy 7 ≡ Some (6, at_stamp 1)
seven_is_a_copy_of_six = refl

six_is_none : is_copied tells_of_a_copy 6 ≡ false
six_is_none = refl
