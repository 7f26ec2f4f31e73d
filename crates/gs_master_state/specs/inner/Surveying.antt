-- What the code looks for in all chunks: each by its lease, once.
use Rattle.std.specs.Prelude.{◌≡◌, ◌+◌, ◌<◌, ◌&&◌, ℕ, Bool, true, not, List, [], ◌∷◌, map, filter, slice_index, Option, Some, None, option_map, is_some, if◌then◌else◌, refl}
use Rattle.std.specs.FinMap as fin
use Rattle.std.specs.Ordering.{nat_cmp}
use Rattle.gs_base.specs.Members.{is_member}
use Rattle.gs_base.specs.declared.numbers.Moment.{Moment}
use Rattle.gs_edit.specs.View.{NamesView}
use Rattle.gs_edit.specs.declared.scan.Scan.{Scan}
use Rattle.gs_lease.specs.declared.lease.Lease.{Lease}
use Rattle.gs_lease.specs.declared.view.View.{View}
use Rattle.gs_msg.specs.declared.body.Reported.{Reported}
use Rattle.gs_place.specs.declared.need.Need.{Need}
use Rattle.gs_tree.specs.Find.{Rows}
use Rattle.gs_master_spec.specs.Beginning.{replicas_on}
use Rattle.gs_master_spec.specs.Calls.{references}
use Rattle.gs_master_spec.specs.Chunks.{chunk_at, has_entry}
use Rattle.gs_master_spec.specs.Durable.{Durable, Settled}
use Rattle.gs_master_spec.specs.Hearing.{is_lost_at, is_told_sound}
use Rattle.gs_master_state.specs.inner.Recorded.{settled_by}
use Rattle.gs_master_spec.specs.Settling.{is_quiet_at}
use Rattle.gs_master_spec.specs.State.{State}
use Rattle.gs_master_spec.specs.Working.{forgotten_chunks, is_visible, need_of, removed_paths}
use Rattle.gs_master_spec.specs.Handling.{awaits_first}

-- the settled view of a lease
abbrev pub view_by_lease : Lease → Option View
view_by_lease lease = option_map (λ (s : Settled). s.view) (settled_by lease)

-- that of a chunk that passes a test
abbrev pub view_where : (ℕ → Bool) → ℕ × Lease → Option View
view_where test e = if test e.0 then view_by_lease e.1 else None

-- a settled chunk that passes a test
abbrev pub settled_where : (ℕ → Bool) → ℕ × Lease → Option ℕ
settled_where test e = if is_some (settled_by e.1) && test e.0 then Some e.0 else None

-- what a chunk with so many members needs
abbrev pub need_by : Durable → ℕ → ℕ → Need
need_by d chunk members = record { handle = chunk; references = references d.names chunk; is_visible = is_visible (fin.entries d.names.tree) chunk; members = members }

-- a chunk that the master knows, as one that needs a replica
abbrev pub need_where : State → ℕ × Lease → Option Need
need_where s e = if has_entry s e.0 then option_map (λ (settled : Settled). need_of s.durable (e.0, settled)) (settled_by e.1) else None

-- these chunks, each once
abbrev pub chunk_set : List ℕ → fin.FinMap nat_cmp Bool
chunk_set [] = fin.empty
chunk_set (chunk ∷ chunks) = fin.insert (chunk_set chunks) chunk true

-- of how many of these views each server is a member
pub record AreCounts (views : List View) (counts : List ℕ) : Type 0 where
  pub each : (server : ℕ) → server < 16 → slice_index counts server ≡ replicas_on views server

-- a view more is counted at each of its members
pub record CountsMembers (members : List ℕ) (old new : List ℕ) : Type 0 where
  pub each : (server : ℕ) → server < 16 → slice_index new server ≡ slice_index old server + (if is_member members server then 1 else 0)

-- a set has just these chunks
pub record AreIn (chunks : List ℕ) (set : fin.FinMap nat_cmp Bool) : Type 0 where
  pub each : (chunk : ℕ) → is_some (fin.get set chunk) ≡ is_member chunks chunk

-- what a scan at a moment takes out
pub record IsScanOf (moment : Moment) (names : NamesView) (scan : Scan) : Type 0 where
  pub removed : scan.removed.items ≡ removed_paths moment.0 (fin.entries names.tree)
  pub forgotten : scan.forgotten.items ≡ forgotten_chunks moment.0 (fin.entries names.tree) (fin.entries names.refs)

-- the chunks of files that no hidden name is above
pub record AreVisible (rows : Rows ℕ) (set : fin.FinMap nat_cmp Bool) : Type 0 where
  pub each : (chunk : ℕ) → is_some (fin.get set chunk) ≡ is_visible rows chunk

-- the master knows a chunk that isn't quiet
abbrev pub has_unquiet : State → ℕ → Bool
has_unquiet s chunk = has_entry s chunk && not (is_quiet_at s chunk)

-- the chunks that a server tells as sound
abbrev pub sound_handles : List Reported → List ℕ
sound_handles reported = map (λ (r : Reported). r.handle) (filter (λ (r : Reported). not r.is_bad) reported)

pub record AreSound (reported : List Reported) (set : fin.FinMap nat_cmp Bool) : Type 0 where
  pub each : (chunk : ℕ) → is_some (fin.get set chunk) ≡ is_told_sound reported chunk

-- a settled chunk of which the server is a member, and doesn't tell that it is sound
abbrev pub is_lost : State → ℕ → List Reported → ℕ → Bool
is_lost s server reported chunk = is_lost_at server (chunk_at s chunk) && not (is_told_sound reported chunk)

one_of_none : view_where (λ chunk. true) ≡ λ e. view_by_lease e.1
one_of_none = refl

-- the new chunks that wait for their first view
abbrev pub awaiting : State → List ℕ
awaiting s = filter (awaits_first s) s.volatile.unplaced
