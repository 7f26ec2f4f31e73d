-- Failures of disks, as they are arranged, change nothing that is told, and nothing in memory.
use Rattle.std.proofs.Common.{◌≡◌, ℕ, List, refl, ap, sym}
use Rattle.gs_journal.specs.Faults.{Failing}
use Rattle.gs_master.specs.Masters.{MasterOf}
use Rattle.gs_msg.specs.declared.event.DiskId.{DiskId}
use Rattle.gs_msg.specs.declared.event.DiskId.TheVariants as disks
use Rattle.gs_nodes.specs.declared.place.MasterPlace.{MasterPlace}
use Rattle.gs_nodes.specs.declared.place.MasterPlace.TheVariants.{Away, Closed, Standing}
use Rattle.gs_world.specs.Histories.{arms, failures_of, seen_of}
use Rattle.gs_laws_world.proofs.lemmas.steady.Through.{arms_last, arms_tell}
use Rattle.gs_laws_world.specs.steady.Unarmed.{unarmed}
use Rattle.gs_laws_lift.proofs.lemmas.stores.Reopening.{standing_is}
use Rattle.gs_laws_chunks.specs.calls.Asked.{ArmsAlone}

pub closed_not : {D : Type 0} {first second : D} {m : MasterOf D} → ◌≡◌ {A = MasterPlace D} (Closed first second) (Standing m) → ⊥
closed_not h = absurd (cc)

pub away_not : {D : Type 0} {m : MasterOf D} → ◌≡◌ {A = MasterPlace D} Away (Standing m) → ⊥
away_not h = absurd (cc)

arms_memory : {D : Type 0} (disk : DiskId) (call : ℕ) (place : MasterPlace (Failing D)) (m : MasterOf (Failing D)) → arms disk call place ≡ Standing m → (was : MasterOf (Failing D)) × (place ≡ Standing was) × (m.state ≡ was.state)
arms_memory {D} disks.First call (Standing k) m is = (k, refl, ap (λ (x : MasterOf (Failing D)). x.state) (sym (standing_is _ m is)))
arms_memory {D} disks.Second call (Standing k) m is = (k, refl, ap (λ (x : MasterOf (Failing D)). x.state) (sym (standing_is _ m is)))
arms_memory disks.First call (Closed first second) m is = absurd (closed_not is)
arms_memory disks.Second call (Closed first second) m is = absurd (closed_not is)
arms_memory disks.First call Away m is = absurd (away_not is)
arms_memory disks.Second call Away m is = absurd (away_not is)

pub arms_alone : {D : Type 0} (seen : D → List ℕ) (failures : D → ℕ) → ArmsAlone (seen_of seen) (failures_of failures) arms
arms_alone seen failures = record { lasts = arms_last seen; told = arms_tell seen; memory = arms_memory }

pub unarmed_alone : {D : Type 0} (seen : D → List ℕ) (failures : D → ℕ) → ArmsAlone seen failures unarmed
unarmed_alone seen failures = record { lasts = λ disk call place lasts. lasts; told = λ d disk call place tells. tells; memory = λ disk call place m is. (m, is, refl) }
