-- A checkpoint that is made and not yet written, and why it isn't written.
use Rattle.std.specs.Prelude.{◌≡◌, ◌+◌, ◌==◌, ℕ, true, false, Bool, nat_le, if◌then◌else◌, Option, Some, None, List, [], refl}
use Rattle.gs_base.specs.declared.refusal.Refusal.{Refusal}
use Rattle.gs_base.specs.declared.refusal.Refusal.TheVariants.{BadLine, Device, Full}
use Rattle.gs_journal.specs.Journal.{State, checkpoint_size}
use Rattle.gs_journal.specs.declared.version.Version.TheVariants.{Two}

-- the checkpoint's body, and the generation that its disk is to have
pub record Drafted : Type 0 where
  pub body : List ℕ
  pub generation : ℕ

-- Why it isn't written, as far as that is known before a disk is touched: a disk has failed, or else it isn't of the generation
-- behind the journal's, or else the limit would be passed.
abbrev pub draft_refusal : {D : Type 0} → State D → Drafted → Option Refusal
draft_refusal j d =
    if j.is_failed then Some Device else
    if d.generation == j.generation + 1 then (if nat_le (checkpoint_size d.body) j.limit then None else Some Full) else Some BadLine

-- journals without disks, for the rows below
abbrev empty : Bool → ℕ → State Bool
empty is_failed limit = record { text = (Two, []); size = 14; limit = limit; generation = 6; is_failed = is_failed; first = true; second = true }

draft_refusal-fits : draft_refusal (empty false 20) (record { body = []; generation = 7 }) ≡ None
draft_refusal-fits = refl

draft_refusal-full : draft_refusal (empty false 19) (record { body = []; generation = 7 }) ≡ Some Full
draft_refusal-full = refl

-- made when the journal was of the generation before
draft_refusal-late : draft_refusal (empty false 19) (record { body = []; generation = 6 }) ≡ Some BadLine
draft_refusal-late = refl

draft_refusal-failed : draft_refusal (empty true 19) (record { body = []; generation = 6 }) ≡ Some Device
draft_refusal-failed = refl
