-- What the laws of a slot say of its lease and of its mark.
use Rattle.std.specs.Prelude.{◌≡◌, ℕ, Bool, List, Some, None, Ok}
use Rattle.std.specs.Result.{result_ok}
use Rattle.gs_base.specs.declared.numbers.Stamp.{Stamp}
use Rattle.gs_replica.specs.Seals.{State}
use Rattle.gs_store.specs.Slots.{Slot, take_lease}
use Rattle.gs_store.specs.Moves.{copy_out, copy_for}
use Rattle.gs_store.specs.Calls.{Call, LeadsTo}

-- ---- a lease
-- A lease that was taken is not taken again, whatever calls come between.
abbrev pub LeasesAreTakenOnce : Type 0
LeasesAreTakenOnce = (block chunk : ℕ) (stamp : Stamp) (s s2 end : Slot) (calls : List Call) → take_lease stamp s ≡ Ok s2 → LeadsTo block chunk s2 calls end
    → result_ok (take_lease stamp end) ≡ None

-- ---- a bad replica
-- A bad replica gives no image.
abbrev pub BadReplicasGiveNoImage : Type 0
BadReplicasGiveNoImage = (stamp : Stamp) (flag : Bool) (block : ℕ) (s : Slot) (r : State) → s.live ≡ Some (record { replica = r; bad = Some block })
    → result_ok (copy_out stamp flag s) ≡ None

-- It gives no copy for another handle.
abbrev pub BadReplicasGiveNoCopy : Type 0
BadReplicasGiveNoCopy = (at stamp : Stamp) (block : ℕ) (s target : Slot) (r : State) → s.live ≡ Some (record { replica = r; bad = Some block })
    → result_ok (copy_for at stamp s target) ≡ None
