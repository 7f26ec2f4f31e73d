-- What a journal tells of a chunk: the view that was settled last, and the stamp that was proposed since.
use Rattle.std.specs.Prelude.{[], Option, Some, None}
use Rattle.gs_base.specs.declared.numbers.Stamp.{Stamp}
use Rattle.gs_lease.specs.Transitions.{restored}
use Rattle.gs_lease.specs.Views.{as_view}
use Rattle.gs_lease.specs.declared.told.Told.{Told}
use Rattle.gs_lease.specs.declared.view.View.{View}
use Rattle.gs_lease.specs.declared.view.Proposed.{Proposed}
use Rattle.gs_lease.specs.declared.view.Purpose.TheVariants as purposes
use Rattle.gs_lease.specs.declared.lease.Lease.{Lease}
use Rattle.gs_lease.specs.declared.lease.Lease.TheVariants.{Quiet, Moving, Leased}

abbrev pub nothing_told : Told
nothing_told = record { settled = None; proposed = None }

-- behind the record of a proposal, and behind that of a settling
abbrev pub after_proposal : Told → Stamp → Told
after_proposal told stamp = record told { proposed = Some stamp }

abbrev pub after_settling : Told → View → Told
after_settling told view = record { settled = Some view; proposed = None }

abbrev pub told_of : Lease → Told
told_of (Quiet view) = record { settled = Some (as_view view); proposed = None }
told_of (Moving moving) = record { settled = moving.settled; proposed = Some moving.stamp }
told_of (Leased view) = record { settled = Some view; proposed = None }

-- a new chunk of which nobody is asked any more
abbrev pub begun_before : Stamp → Proposed
begun_before stamp = record { settled = None; stamp = stamp; purpose = purposes.Quiet; asked = [] }

-- the chunk that is told, if one is
abbrev pub chunk_told : Told → Option Lease
chunk_told told = by_parts told.settled told.proposed
  where
    by_parts : Option View → Option Stamp → Option Lease
    by_parts (Some view) proposed = Some (restored view proposed)
    by_parts None (Some stamp) = Some (Moving (begun_before stamp))
    by_parts None None = None
