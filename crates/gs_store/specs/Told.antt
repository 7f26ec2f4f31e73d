-- What a report tells of one handle.
use Rattle.std.specs.Prelude.{◌≡◌, ℕ, ◌==◌, false, [], ◌∷◌, Option, Some, None, is_some, find, refl}
use Rattle.gs_base.specs.declared.numbers.Stamp.{Stamp}
use Rattle.gs_store.specs.declared.report.ReplicaReport.{ReplicaReport}
use Rattle.gs_store.specs.Slots.{Live, Slot, standing, empty_replica, stamp_of}
use Rattle.gs_store.specs.Stores.{Store, report, reports_of}

-- the first that speaks of it
abbrev pub found_in : ℕ → Store → Option ReplicaReport
found_in handle s = find (λ (r : ReplicaReport). handle == r.handle) (report s)

-- what its slot has
abbrev pub told_of : ℕ → Stamp → Option Live → Option ReplicaReport
told_of handle promise None = None
told_of handle promise (Some l) = Some (record { handle = handle; promise = promise; is_bad = is_some l.bad })

abbrev pub told : ℕ → Slot → Option ReplicaReport
told handle t = told_of handle t.promise t.live

told_of_a_live_replica : reports_of ((7, standing (empty_replica (stamp_of 2 1))) ∷ []) ≡ record { handle = 7; promise = stamp_of 2 1; is_bad = false } ∷ []
told_of_a_live_replica = refl
