-- What a checkpoint's lists are put together of, and what is read of them.
use Rattle.std.specs.Prelude.{◌≡◌, ◌⊎◌, ◌==◌, ◌&&◌, ℕ, Bool, true, false, List, [], map, Option, Some, None, option_map, is_some, Result, Ok, Err, if◌then◌else◌}
use Rattle.std.specs.List.{list_all}
use Rattle.std.specs.FinMap as fin
use Rattle.std.specs.Ordering.{nat_cmp}
use Rattle.gs_base.specs.declared.refusal.Refusal.{Refusal}
use Rattle.gs_base.specs.declared.refusal.Refusal.TheVariants.{Memory, BadLine}
use Rattle.gs_edit.specs.View.{NamesView}
use Rattle.gs_lease.specs.Transitions.{restored}
use Rattle.gs_master_record.specs.Plain.{PlainCheckpoint}
use Rattle.gs_master_record.specs.declared.checkpoint.Reference.{Reference}
use Rattle.gs_refs.specs.Counts.{Counts}
use Rattle.gs_tree.specs.Build.{is_tree}
use Rattle.gs_tree.specs.Chunks.{all_chunks}
use Rattle.gs_master_spec.specs.Undoing.{rows_of_nodes}
use Rattle.gs_master_spec.specs.Whole.{are_counts, are_ends, are_prepared, durable_with, has_upgrade, if_it_can, is_view_given, is_whole, names_in}
use Rattle.gs_lease.specs.declared.lease.Lease.{Lease}
use Rattle.gs_lease.specs.declared.view.View.{View}
use Rattle.gs_master_record.specs.declared.checkpoint.PreparedView.{PreparedView}
use Rattle.gs_master_record.specs.declared.checkpoint.SettledEntry.{SettledEntry}
use Rattle.gs_master_spec.specs.Durable.{Durable, Settled}
use Rattle.gs_master_state.specs.inner.Recorded.{durable_of, settled_by}
use Rattle.gs_master_spec.specs.Replies.{client_cmp}
use Rattle.gs_master_spec.specs.declared.asking.Prepared.{Prepared}
use Rattle.gs_master_state.specs.declared.recorded.Recorded.{Recorded}
use Rattle.gs_master_spec.specs.declared.reply.KeptReply.{KeptReply}

-- the settled view of a chunk of the table, if a file has the chunk or had it, and whether the chunk moves
abbrev pub listed_view : (ℕ → Bool) → ℕ × Lease → Option (View × Bool)
listed_view listed e = if listed e.0 then option_map (λ s. (s.view, s.is_moving)) (settled_by e.1) else None

-- the same as a checkpoint tells it
abbrev pub listed_entry : (ℕ → Bool) → ℕ × Lease → Option SettledEntry
listed_entry listed e = option_map (λ (v : View × Bool). record { settled = record { handle = e.0; view = v.0 }; is_moving = v.1 }) (listed_view listed e)

-- the lease of a chunk as a checkpoint tells it; the stamp of a view that is proposed isn't told
abbrev pub lease_of : SettledEntry → Lease
lease_of s = restored s.settled.view (if s.is_moving then Some s.settled.view.stamp else None)

abbrev pub told_chunks : List SettledEntry → fin.FinMap nat_cmp Settled
told_chunks entries = fin.from_entries (map (λ (s : SettledEntry). (s.settled.handle, record { view = s.settled.view; is_moving = s.is_moving })) entries)

-- each counted chunk is one of these
abbrev pub have_views : fin.FinMap nat_cmp Settled → List Reference → Bool
have_views chunks references = list_all (λ (r : Reference). is_some (fin.get chunks r.handle)) references

abbrev pub told_prepared : List PreparedView → fin.FinMap nat_cmp Prepared
told_prepared entries = fin.from_entries (map (λ (v : PreparedView). (v.settled.handle, record { view = v.settled.view; holders = v.holders })) entries)

-- the counts that are told, and whether each of them stands
abbrev pub counts_in : List Reference → Counts
counts_in references = fin.from_entries (map (λ (r : Reference). (r.handle, r.count)) references)

abbrev pub is_told : Option ℕ → ℕ → Bool
is_told None count = false
is_told (Some n) count = n == count

abbrev pub all_told : Counts → List Reference → Bool
all_told refs references = list_all (λ (r : Reference). is_told (fin.get refs r.handle) r.count) references

-- the entries are a tree's, and the references count the chunks of its files
abbrev pub are_names : PlainCheckpoint → Bool
are_names c = is_tree (rows_of_nodes c.tree) && are_counts (all_chunks (rows_of_nodes c.tree)) c.references

-- the names that a checkpoint tells, exactly where it tells some, memory aside
abbrev pub TellsNames : PlainCheckpoint → Result NamesView Refusal → Type 0
TellsNames c (Ok names) = (are_names c ≡ true) × (names ≡ names_in c)
TellsNames c (Err e) = (e ≡ Memory) ⊎ ((e ≡ BadLine) × (are_names c ≡ false))

-- the views, the ends of the epochs and the inverses are about one state
abbrev pub are_sound : PlainCheckpoint → Bool
are_sound c =
    list_all (λ (s : SettledEntry). is_view_given c s.settled.handle s.settled.view) c.settled && (are_ends c.ends c.epoch c.phase && (are_prepared c && has_upgrade c))

-- what a checkpoint tells, with these replies
abbrev pub told_with : PlainCheckpoint → fin.FinMap client_cmp KeptReply → Durable
told_with c replies = record (durable_with c []) { replies = replies }

-- the same, if its lists are about one state, and its inverses can be undone
unfoldable pub read_with : PlainCheckpoint → fin.FinMap client_cmp KeptReply → Option Durable
read_with c replies = if is_whole c then if_it_can (told_with c replies) else None

-- what is recorded is what the checkpoint tells, exactly where it tells it, memory aside
abbrev pub Reads : PlainCheckpoint → fin.FinMap client_cmp KeptReply → Result Recorded Refusal → Type 0
Reads c replies (Ok r) = read_with c replies ≡ Some (durable_of r)
Reads c replies (Err e) = (e ≡ Memory) ⊎ ((e ≡ BadLine) × (read_with c replies ≡ None))
