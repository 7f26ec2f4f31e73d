-- What the code knows of one chunk, and what it looks up.
use Rattle.std.specs.Prelude.{◌≡◌, true, Some, None, option_map, refl}
use Rattle.gs_master_spec.specs.Chunks.{Chunk, is_moving}
use Rattle.gs_master_spec.specs.Durable.{Settled}
use Rattle.gs_master_state.specs.declared.known.Known.{Known}
use Rattle.gs_master_state.specs.declared.known.Settled.{Settled as Known_settled}
use Rattle.gs_master_spec.specs.declared.asking.Asking.{Asking}

abbrev pub settled_of : Known_settled → Settled
settled_of s = record { view = s.view; is_moving = s.is_moving }

abbrev pub known_of : Known → Chunk
known_of k = record { settled = option_map settled_of k.settled; asking = k.asking }

what_is_asked_moves : (asking : Asking) → is_moving (known_of (record { settled = None; asking = Some asking })) ≡ true
what_is_asked_moves asking = refl
