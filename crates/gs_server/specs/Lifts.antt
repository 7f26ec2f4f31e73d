-- What touches every chunk of a server, on the place of one.
use Rattle.std.specs.Prelude.{◌≡◌, ℕ, cond, Option, None, refl}
use Rattle.gs_base.specs.declared.numbers.Moment.{Moment}
use Rattle.gs_base.specs.declared.epoch.EpochEnd.{EpochEnd}
use Rattle.gs_base.specs.declared.epoch.EpochEnd.TheVariants.{Prepare, Finalize, Rollback}
use Rattle.gs_store.specs.Stores as stores
use Rattle.gs_server_lease.specs.Leases.{PrimaryLease, moment_of}
use Rattle.gs_server.specs.Places.{Place}
use Rattle.gs_server.specs.Holding.{numbering}
use Rattle.gs_server.specs.Servers.{stands_at}

abbrev pub with_lease : Option PrimaryLease → Place → Place
with_lease lease p = record { slot = p.slot; lease = lease }

-- a tick spends a lease that is over
abbrev pub ticked : Moment → Place → Place
ticked moment p = with_lease (cond (stands_at moment p.lease) p.lease None) p

-- a restart spends each
abbrev pub restarted : Place → Place
restarted p = with_lease None p

-- and so does a rollback
abbrev pub lease_at : EpochEnd → Option PrimaryLease → Option PrimaryLease
lease_at Rollback lease = None
lease_at Prepare lease = lease
lease_at Finalize lease = lease

-- the next epoch takes the slot on
abbrev pub gone_on : EpochEnd → ℕ → Place → Place
gone_on end epoch p = record { slot = stores.gone_on end epoch p.slot; lease = lease_at end p.lease }

-- Worked: the lease of a chunk under which an edit waits, whose end is at 60.
left_below_its_end : ticked (moment_of 59) numbering ≡ numbering
left_below_its_end = refl

spent_at_its_end : (ticked (moment_of 60) numbering).lease ≡ None
spent_at_its_end = refl
