-- Which chunks placement counts.
use Rattle.std.specs.Prelude.{◌≡◌, ℕ, true, false, not, map, filter, is_some}
use Rattle.std.specs.FinMap as fin
use Rattle.gs_base.specs.Members.{is_member}
use Rattle.gs_master_spec.specs.Beginning.{counted_views, is_counted}
use Rattle.gs_master_spec.specs.Chunks.{has_entry}
use Rattle.gs_master_spec.specs.Durable.{is_listed}
use Rattle.gs_master_spec.specs.State.{State}
use Rattle.gs_laws_master.specs.Standing.{IsFirm}

-- a settled chunk that stands in no file, and never did, is new exactly where no restart took it out
abbrev pub NewOrOut : Type 0
NewOrOut = (s : State) (chunk : ℕ) → IsFirm s → is_some (fin.get s.durable.chunks chunk) ≡ true → is_listed s.durable chunk ≡ false →
    is_member s.volatile.unplaced chunk ≡ not (is_member s.volatile.taken_out chunk)

-- So a settled chunk counts exactly where the master knows it.
abbrev pub CountsKnown : Type 0
CountsKnown = (s : State) (chunk : ℕ) → IsFirm s → is_some (fin.get s.durable.chunks chunk) ≡ true → is_counted s chunk ≡ has_entry s chunk

-- and the views that placement counts are those of the chunks that it knows
abbrev pub CountsViews : Type 0
CountsViews = (s : State) → IsFirm s → counted_views s ≡ map (λ e. e.1.view) (filter (λ e. has_entry s e.0) (fin.entries s.durable.chunks))
