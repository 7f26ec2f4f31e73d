-- What an epoch makes of a server.
use Rattle.std.specs.Prelude.{ℕ, ◌+◌, ◌==◌, cond, Result, Ok, Err}
use Rattle.gs_base.specs.declared.epoch.EpochEnd.{EpochEnd}
use Rattle.gs_base.specs.declared.refusal.Refusal.{Refusal}
use Rattle.gs_base.specs.declared.refusal.Refusal.TheVariants as refusals
use Rattle.gs_store.specs.Stores as stores
use Rattle.gs_server.specs.Servers.{Server, store_of, with_store, with_leases, leases_after}

-- the next one
abbrev pub next_of : ℕ → EpochEnd → Server → Server
next_of epoch end s = with_leases (leases_after end s.dropped.leases) (with_store (stores.learned epoch end (store_of s)) s)

-- the one that stands, the next one, or any other
abbrev pub gone_on : ℕ → EpochEnd → Server → Result Server Refusal
gone_on epoch end s = cond (epoch == s.kept.epoch) (Ok s) (cond (epoch == s.kept.epoch + 1) (Ok (next_of epoch end s)) (Err (refusals.Epoch s.kept.epoch)))
