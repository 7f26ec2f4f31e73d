-- Who is intact behind a prepare.
use Rattle.std.specs.Prelude.{◌≡◌, ◌<◌, ℕ, true, List, Some, slice_get}
use Rattle.gs_base.specs.declared.config.Config.{Config}
use Rattle.gs_base.specs.declared.numbers.ReqId.{ReqId}
use Rattle.gs_laws_master.specs.Promises.{IsKept}
use Rattle.gs_server.specs.Servers.{Server, place_of}
use Rattle.gs_master_spec.specs.Durable.{Durable, is_upgrade}
use Rattle.gs_laws_chunk.specs.machine.Machine.{ChunkWorld}
use Rattle.gs_laws_chunk.specs.machine.Events.{Leads}
use Rattle.gs_laws_chunk.specs.machine.Laws.{IsReached, is_member}
use Rattle.gs_laws_parts.specs.server.Harm.{is_whole}
use Rattle.gs_laws_parts.specs.server.Showing.{ShowsPlace}
use Rattle.gs_laws_parts.specs.master.Showing.{ShowsDurable}
use Rattle.gs_laws_parts.specs.master.Telling.{Marks}
use Rattle.gs_laws_lift.specs.stores.Showing.{setting, whole_in}

-- A member of the settled view whose live replica is whole when an upgrade is prepared is intact behind that, whatever it has sealed before.
abbrev pub WholeMembersAreMarked : Config → (ReqId → List ℕ) → Type 0
WholeMembersAreMarked config bytes = (born chunk id : ℕ) (servers : List Server) (s : Server) (d : Durable) (w v : ChunkWorld) → IsReached w → Leads w v → ShowsPlace (setting config bytes born) w.known s.kept.epoch (place_of chunk s) (w.members id)
    → IsKept d → ShowsDurable chunk d v.entry → is_upgrade d.phase ≡ true → w.entry.epoch < v.entry.epoch → Marks (whole_in d chunk servers) w v → slice_get servers id ≡ Some s → is_member v id ≡ true → is_whole chunk (Some s) ≡ true → (v.members id).intact ≡ true
