-- How a server is asked for a part of a chunk.
use Rattle.std.specs.Prelude.{ℕ}
use Rattle.gs_msg.specs.declared.chunk.Asked.{Asked}
use Rattle.gs_msg.specs.declared.event.Request.{Request}
use Rattle.gs_msg.specs.declared.event.Request.TheVariants as requests
use Rattle.gs_client_part.specs.declared.located.Located.{Located}

abbrev pub fetch_of : Located → Asked → ℕ → Request
fetch_of l asked server = requests.Fetch server l.handle l.view.stamp l.epoch asked
