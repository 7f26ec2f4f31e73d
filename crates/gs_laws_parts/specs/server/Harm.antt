-- What an account says of a server in an upgrade: whether that which it has to keep of a chunk is intact.
use Rattle.std.specs.Prelude.{◌≡◌, ◌&&◌, ◌||◌, ◌==◌, ℕ, Bool, true, false, is_none, Option, Some, None, refl}
use Rattle.gs_base.specs.Stamps.{is_before}
use Rattle.gs_store.specs.Slots.{Live}
use Rattle.gs_store.specs.Learning.{is_sound}
use Rattle.gs_store.specs.Calls as calls
use Rattle.gs_store.specs.Calls.{Call}
use Rattle.gs_server.specs.Servers.{Server}
use Rattle.gs_server.specs.Runs.{slot_in}

-- a live replica each of whose blocks has its digest
abbrev pub is_whole : ℕ → Option Server → Bool
is_whole chunk None = false
is_whole chunk (Some s) = is_sound (slot_in chunk s).live

abbrev pub is_unsealed : Option Live → Bool
is_unsealed None = false
is_unsealed (Some l) = is_none l.replica.sealed

-- the live replica is a later one than that which was sealed at the prepare of this epoch
abbrev pub is_later_one : ℕ → ℕ → Server → Bool
is_later_one upgrade chunk s = (s.kept.epoch == upgrade) && is_unsealed (slot_in chunk s).live

-- A loss takes all that a server has of the chunk; damage strikes what is live. A copy that carries a sealed image, and raises the promise, brings it.
abbrev pub intact_behind : Bool → Option ℕ → ℕ → Option Call → Option Server → Option Server → Bool
intact_behind so_far upgrade chunk (Some calls.Loses) s after = false
intact_behind so_far (Some upgrade) chunk (Some (calls.Damages block)) (Some s) after = so_far && is_later_one upgrade chunk s
intact_behind so_far upgrade chunk (Some (calls.CopiesIn stamp image (Some sealed))) (Some s) (Some after) =
    so_far || is_before (slot_in chunk s).promise (slot_in chunk after).promise
intact_behind so_far upgrade chunk call s after = so_far

-- ---- Worked

a_loss_harms : (s after : Option Server) → intact_behind true (Some 1) 7 (Some calls.Loses) s after ≡ false
a_loss_harms s after = refl

nothing_that_was_heard_harms : (s after : Option Server) → intact_behind true (Some 1) 7 None s after ≡ true
nothing_that_was_heard_harms s after = refl
