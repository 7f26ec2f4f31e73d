-- The master's part of one chunk, as the machine of that chunk has it.
use Rattle.std.specs.Prelude.{◌≡◌, ◌⊎◌, ◌+◌, ◌<◌, ◌≤◌, ◌%◌, ℕ, true, false, [], slice_get, Option, Some, None, option_map, is_some}
use Rattle.std.specs.FinMap as fin
use Rattle.gs_base.specs.Members.{is_member}
use Rattle.gs_base.specs.Told.{IsNumber}
use Rattle.gs_base.specs.declared.epoch.EpochEnd.{EpochEnd}
use Rattle.gs_base.specs.declared.epoch.EpochEnd.TheVariants as ends
use Rattle.gs_edit.specs.View.{NamesView}
use Rattle.gs_lease.specs.declared.view.Term.{Term}
use Rattle.gs_lease.specs.declared.view.View.{View}
use Rattle.gs_master_spec.specs.Chunks.{has_entry, is_any_in}
use Rattle.gs_master_spec.specs.Durable.{Durable, Settled, is_given, is_listed, is_ordinary, is_rolling, is_upgrade, prepared_view}
use Rattle.gs_master_spec.specs.State.{State}
use Rattle.gs_master_spec.specs.Undoing.{all_undone}
use Rattle.gs_master_spec.specs.declared.asking.Asking.{Asking}
use Rattle.gs_master_spec.specs.declared.asking.Prepared.{Prepared}
use Rattle.gs_laws_chunk.specs.machine.Stamps.{epoch_of, radix, stamp_at}
use Rattle.gs_laws_chunk.specs.machine.Machine as machine
use Rattle.gs_laws_chunk.specs.machine.Machine.{Entry}

abbrev pub primary_of : Option Term → Option ℕ
primary_of term = option_map (λ (t : Term). t.primary) term

-- a view as the machine has it
pub record ShowsView (v : View) (m : machine.View) : Type 0 where
  pub stamp : v.stamp ≡ stamp_at m.stamp
  pub members : m.members ≡ v.members
  pub count : m.count ≡ v.count
  pub holder : m.holder ≡ primary_of v.term

-- And whether another was proposed since, which is so where the stamp that was proposed last is a later one.
pub record ShowsSettled (x : Settled) (e : Entry) : Type 0 where
  pub view : ShowsView x.view e.view
  pub moving : x.is_moving ≡ true → e.view.stamp < e.top
  pub still : x.is_moving ≡ false → e.top ≡ e.view.stamp

-- of a chunk that was never settled
pub record IsBare (m : machine.View) : Type 0 where
  pub members : m.members ≡ []
  pub holder : m.holder ≡ None

-- the stamp that was proposed last is of no later epoch, and its version is the first of its epoch or was given
pub record IsPast (d : Durable) (top : ℕ) : Type 0 where
  pub epoch : epoch_of top ≤ d.epoch
  pub given : (top % radix ≡ 0) ⊎ (is_given d.next_version (top % radix) ≡ true)

-- what is durable has at least the epoch of before, and has given all versions that were given then
pub record Rises (d e : Durable) : Type 0 where
  pub epoch : d.epoch ≤ e.epoch
  pub versions : (n : ℕ) → is_given d.next_version n ≡ true → is_given e.next_version n ≡ true

-- the view of a prepare, and who took the chunk as it was sealed since
pub record ShowsPrepared (p : Prepared) (e : Entry) : Type 0 where
  pub view : ShowsView p.view e.prepared
  pub holders : (j : ℕ) → is_member p.holders j ≡ true → e.holders j ≡ true

-- What the master keeps of the chunk over a restart. Only the proof sees whether the chunk was known at the prepare: it was, if it is
-- known and has a prepared view, or if the edits since then taken back list it; and then the prepared view is shown.
pub record ShowsDurable (chunk : ℕ) (d : Durable) (e : Entry) : Type 0 where
  pub epoch : e.epoch ≡ d.epoch
  pub how : (n : ℕ) (end : EpochEnd) → slice_get d.ends n ≡ Some end → (n + 1 ≤ e.epoch) × (e.how (n + 1) ≡ end)
  pub upgrade : is_upgrade d.phase ≡ true → e.how e.epoch ≡ ends.Prepare
  pub rolling : e.is_rolling ≡ is_rolling d.phase
  pub given : is_given d.next_handle chunk ≡ true
  pub counter : IsNumber d.next_version
  pub behind : e.view.stamp ≤ e.top
  pub past : IsPast d e.top
  pub settled : (x : Settled) → fin.get d.chunks chunk ≡ Some x → ShowsSettled x e
  pub bare : e.is_known ≡ true → fin.get d.chunks chunk ≡ None → IsBare e.view
  pub listed : is_listed d chunk ≡ true → e.is_known ≡ true
  pub was : (p : Prepared) → prepared_view d chunk ≡ Some p → e.is_known ≡ true → e.was_known ≡ true
  pub prepared : (p : Prepared) → prepared_view d chunk ≡ Some p → e.was_known ≡ true → ShowsPrepared p e
  pub restores : (names : NamesView) → is_ordinary d.phase ≡ false → all_undone d.inverses d.names ≡ Some names → is_some (fin.get names.refs chunk) ≡ true → e.was_known ≡ true

-- What it keeps in memory: it knows the chunk as long as that has an entry; those are asked that it asks, under the stamp proposed last. A
-- chunk that it knows and that was never settled is asked for.
pub record ShowsMemory (chunk : ℕ) (s : State) (e : Entry) : Type 0 where
  pub known : e.is_known ≡ has_entry s chunk
  pub asked : (j : ℕ) → e.asked j ≡ is_any_in j (fin.get s.volatile.moving chunk)
  pub asking : (a : Asking) → fin.get s.volatile.moving chunk ≡ Some a → (a.stamp ≡ stamp_at e.top) × (e.view.stamp < e.top) × (e.is_known ≡ true)
  pub sought : has_entry s chunk ≡ true → fin.get s.durable.chunks chunk ≡ None → is_some (fin.get s.volatile.moving chunk) ≡ true

pub record ShowsEntry (chunk : ℕ) (s : State) (e : Entry) : Type 0 where
  pub durable : ShowsDurable chunk s.durable e
  pub memory : ShowsMemory chunk s e
