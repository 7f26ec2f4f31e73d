-- What comes of a message that is to be sent.
use Rattle.std.specs.Prelude.{◌≡◌, Bool, true, false}
use Rattle.gs_msg.specs.declared.sent.Sent.{Sent}
use Rattle.gs_cluster_channel.specs.declared.tried.Tried.{Tried}
use Rattle.gs_cluster_channel.specs.declared.tried.Tried.TheVariants.{Put, Back, Lost}

abbrev pub was_put : Tried → Bool
was_put Put = true
was_put (Back sent) = false
was_put Lost = false

-- what is handed back is what was given
abbrev pub IsBack : Sent → Tried → Type 0
IsBack sent Put = Unit {0}
IsBack sent (Back other) = other ≡ sent
IsBack sent Lost = Unit {0}
