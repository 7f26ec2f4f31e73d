-- The trash of a handle.
use Rattle.std.specs.Prelude.{Option, Some, None}
use Rattle.gs_replica.specs.Seals.{Sealed, State}

-- A replica that goes leaves its sealed image in the trash, in place of what stood there; one without leaves the trash as it is.
abbrev pub trash_of : Option Sealed → State → Option State → Option State
trash_of None r trash = trash
trash_of (Some t) r trash = Some r
