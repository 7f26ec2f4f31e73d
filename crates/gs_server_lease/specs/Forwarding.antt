-- What a member makes of a forward.
use Rattle.std.specs.Prelude.{◌≡◌, ℕ, cond, Option, Some, None, Result, Ok, Err, refl}
use Rattle.gs_base.specs.declared.numbers.Stamp.{Stamp}
use Rattle.gs_base.specs.Stamps.{is_same}
use Rattle.gs_base.specs.declared.refusal.Refusal.{Refusal}
use Rattle.gs_base.specs.declared.refusal.Refusal.TheVariants as refusals
use Rattle.gs_server_lease.specs.Leases.{stamp_of}

-- The count of a live replica under its promise, which a forward of this stamp finds.
abbrev pub count_under : Stamp → Stamp → Option ℕ → Result ℕ Refusal
count_under stamp promise None = Err refusals.NoReplica
count_under stamp promise (Some count) = cond (is_same stamp promise) (Ok count) (Err (refusals.Stamp promise))

-- Worked: a late forward, below the promise of a later view.
a_late_forward : count_under (stamp_of 2 1) (stamp_of 2 3) (Some 4) ≡ Err (refusals.Stamp (stamp_of 2 3))
a_late_forward = refl

of_the_promise : count_under (stamp_of 2 3) (stamp_of 2 3) (Some 4) ≡ Ok 4
of_the_promise = refl
