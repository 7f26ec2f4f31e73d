-- What the laws of this crate say of what a journal tells.
use Rattle.std.specs.Prelude.{◌≡◌, Option, Some}
use Rattle.gs_base.specs.declared.numbers.Stamp.{Stamp}
use Rattle.gs_lease.specs.declared.view.View.{View}
use Rattle.gs_lease.specs.declared.view.QuietView.{QuietView}
use Rattle.gs_lease.specs.declared.view.Proposed.{Proposed}
use Rattle.gs_lease.specs.declared.view.Purpose.{Purpose}
use Rattle.gs_lease.specs.declared.lease.Lease.{Lease}
use Rattle.gs_lease.specs.declared.lease.Lease.TheVariants.{Quiet, Moving, Leased}
use Rattle.gs_lease.specs.Transitions.{begun, begun_again}
use Rattle.gs_lease.specs.Views.{as_view}
use Rattle.gs_lease.specs.Told.{after_proposal, told_of, chunk_told}

-- A quiet chunk of which a view is proposed tells what the record of that proposal leaves.
abbrev pub QuietChunksTellTheirProposal : Type 0
QuietChunksTellTheirProposal = (view : QuietView) (stamp : Stamp) (purpose : Purpose)
    → told_of (Moving (begun (as_view view) stamp purpose)) ≡ after_proposal (told_of (Quiet view)) stamp

-- So does a leased one.
abbrev pub LeasedChunksTellTheirProposal : Type 0
LeasedChunksTellTheirProposal = (view : View) (stamp : Stamp) (purpose : Purpose) → told_of (Moving (begun view stamp purpose)) ≡ after_proposal (told_of (Leased view)) stamp

-- So does one whose proposal is begun again.
abbrev pub MovingChunksTellTheirProposal : Type 0
MovingChunksTellTheirProposal = (proposed : Proposed) (stamp : Stamp) (purpose : Purpose)
    → told_of (Moving (begun_again proposed stamp purpose)) ≡ after_proposal (told_of (Moving proposed)) stamp

-- A chunk that is told again tells the same.
abbrev pub ToldChunksTellTheSame : Type 0
ToldChunksTellTheSame = (settled : Option View) (proposed : Option Stamp) (lease : Lease) → chunk_told (record { settled = settled; proposed = proposed }) ≡ Some lease
    → told_of lease ≡ record { settled = settled; proposed = proposed }
