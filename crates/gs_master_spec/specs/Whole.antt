-- The checkpoint of what is durable, and which checkpoints are one.
use Rattle.std.specs.Prelude.{◌≡◌, ◌&&◌, ◌||◌, ◌==◌, ◌-◌, ℕ, Bool, true, false, not, nat_lt, nat_le, List, [], ◌∷◌, map, filter, length, slice_get, codes, Option, Some, None, option_map, option_and_then, is_some, if◌then◌else◌, refl}
use Rattle.std.specs.List.{list_all, list_any}
use Rattle.std.specs.FinMap as fin
use Rattle.gs_base.specs.declared.numbers.ClientId.{ClientId}
use Rattle.gs_path.specs.Element.{hidden_parts, is_hidden}
use Rattle.gs_path.specs.Path.{Name}
use Rattle.gs_refs.specs.Counts.{occurrences}
use Rattle.gs_tree.specs.Build.{is_tree, rooted_rows, below_root}
use Rattle.gs_tree.specs.Chunks.{all_chunks}
use Rattle.gs_tree.specs.Find.{Rows}
use Rattle.gs_edit.specs.View.{NamesView, names_of}
use Rattle.gs_lease.specs.declared.view.View.{View}
use Rattle.gs_master_record.specs.Encoding.{new_store}
use Rattle.gs_master_record.specs.Plain.{PlainReply, PlainCheckpoint}
use Rattle.gs_base.specs.declared.epoch.EpochEnd.{EpochEnd}
use Rattle.gs_base.specs.declared.epoch.EpochEnd.TheVariants as ends
use Rattle.gs_master_record.specs.declared.checkpoint.Phase.{Phase}
use Rattle.gs_master_record.specs.declared.checkpoint.Phase.TheVariants.{Ordinary, Upgrade, Rolling}
use Rattle.gs_master_record.specs.declared.checkpoint.PreparedView.{PreparedView}
use Rattle.gs_master_record.specs.declared.checkpoint.Reference.{Reference}
use Rattle.gs_master_record.specs.declared.checkpoint.SettledEntry.{SettledEntry}
use Rattle.gs_master_spec.specs.Durable.{Settled, Durable, is_given, is_listed, is_ordinary, upgrade_epoch, has_its_primary, prepared_view}
use Rattle.gs_master_spec.specs.Replies.{outcome_of, told_result}
use Rattle.gs_master_spec.specs.Undoing.{rows_of_nodes, all_undone}
use Rattle.gs_master_order.specs.Order.{by_text}
use Rattle.gs_master_spec.specs.declared.asking.Prepared.{Prepared}
use Rattle.gs_master_spec.specs.declared.reply.KeptReply.{KeptReply}

-- ---- what is written

abbrev pub reference_of : ℕ × ℕ → Reference
reference_of e = record { handle = e.0; count = e.1 }

abbrev pub settled_of : ℕ × Settled → SettledEntry
settled_of e = record { settled = record { handle = e.0; view = e.1.view }; is_moving = e.1.is_moving }

abbrev pub reply_of : ClientId × KeptReply → PlainReply
reply_of e = record { to = record { client = e.0; number = e.1.number }; outcome = outcome_of e.1.result }

abbrev pub prepared_entry : ℕ × Prepared → PreparedView
prepared_entry e = record { settled = record { handle = e.0; view = e.1.view }; holders = e.1.holders }

-- Of the chunks those that are listed, and of the prepared views those that are kept. The stamp of a view that is proposed
-- isn't told.
unfoldable pub checkpoint_of : Durable → PlainCheckpoint
checkpoint_of d = record {
  next_handle = d.next_handle;
  next_version = d.next_version;
  next_hidden = d.next_hidden;
  epoch = d.epoch;
  phase = d.phase;
  ends = d.ends;
  tree = by_text (below_root (fin.entries d.names.tree));
  references = map reference_of (fin.entries d.names.refs);
  settled = map settled_of (filter (λ e. is_listed d e.0) (fin.entries d.chunks));
  replies = map reply_of (fin.entries d.replies);
  prepared = map prepared_entry (fin.entries d.prepared);
  inverses = d.inverses;
}

-- ---- what is read

-- each count is how often its chunk stands in a file, and each chunk of a file is counted
abbrev pub are_counts : List ℕ → List Reference → Bool
are_counts chunks references =
    list_all (λ (r : Reference). occurrences r.handle chunks == r.count) references && list_all (λ chunk. list_any (λ (r : Reference). r.handle == chunk) references) chunks

-- each counted chunk is settled
abbrev pub are_settled : List Reference → List SettledEntry → Bool
are_settled references entries = list_all (λ (r : Reference). list_any (λ (s : SettledEntry). s.settled.handle == r.handle) entries) references

-- an ordinary epoch ends by a prepare, one of an upgrade by a finalize or a rollback; the first is ordinary
abbrev pub alternate : Bool → List EpochEnd → Bool
alternate ordinary [] = true
alternate true (ends.Prepare ∷ rest) = alternate false rest
alternate true (ends.Finalize ∷ rest) = false
alternate true (ends.Rollback ∷ rest) = false
alternate false (ends.Prepare ∷ rest) = false
alternate false (ends.Finalize ∷ rest) = alternate true rest
alternate false (ends.Rollback ∷ rest) = alternate true rest

-- the phase behind the last end: a rollback goes on until it is done
abbrev pub is_phase_behind : Option EpochEnd → Phase → Bool
is_phase_behind None phase = is_ordinary phase
is_phase_behind (Some ends.Prepare) Ordinary = false
is_phase_behind (Some ends.Prepare) Upgrade = true
is_phase_behind (Some ends.Prepare) Rolling = false
is_phase_behind (Some ends.Finalize) phase = is_ordinary phase
is_phase_behind (Some ends.Rollback) Ordinary = true
is_phase_behind (Some ends.Rollback) Upgrade = false
is_phase_behind (Some ends.Rollback) Rolling = true

abbrev pub are_ends : List EpochEnd → ℕ → Phase → Bool
are_ends past epoch phase = (length past == epoch) && (alternate true past && is_phase_behind (slice_get past (length past - 1)) phase)

-- a view of a chunk and a version that were given, in an epoch that there was, whose primary is a member
abbrev pub is_view_given : PlainCheckpoint → ℕ → View → Bool
is_view_given c chunk view =
    is_given c.next_handle chunk && (is_given_or_first view.stamp.version && (nat_le view.stamp.epoch c.epoch && has_its_primary view))
  where
    is_given_or_first : ℕ → Bool
    is_given_or_first version = (version == 0) || is_given c.next_version version

-- a view that was settled before the upgrade, and there is one
abbrev pub is_prepared_before : Option ℕ → View → Bool
is_prepared_before None view = false
is_prepared_before (Some upgrade) view = nat_lt view.stamp.epoch upgrade

abbrev pub are_prepared : PlainCheckpoint → Bool
are_prepared c =
    list_all (λ (v : PreparedView). is_view_given c v.settled.handle v.settled.view && is_prepared_before (upgrade_epoch c.phase c.epoch) v.settled.view) c.prepared

abbrev pub is_empty : {A : Type 0} → List A → Bool
is_empty [] = true
is_empty (x ∷ xs) = false

-- without an upgrade there is nothing to take back
abbrev pub has_upgrade : PlainCheckpoint → Bool
has_upgrade c = is_some (upgrade_epoch c.phase c.epoch) || is_empty c.inverses

-- the lists of a checkpoint are about one state
abbrev pub is_whole : PlainCheckpoint → Bool
is_whole c =
    is_tree (rows_of_nodes c.tree) && (are_counts (all_chunks (rows_of_nodes c.tree)) c.references
    && (are_settled c.references c.settled && (list_all (λ (s : SettledEntry). is_view_given c s.settled.handle s.settled.view) c.settled
    && (are_ends c.ends c.epoch c.phase && (are_prepared c && has_upgrade c)))))

abbrev pub names_in : PlainCheckpoint → NamesView
names_in c = names_of (fin.from_entries (rooted_rows (rows_of_nodes c.tree))) (fin.from_entries (map (λ (r : Reference). (r.handle, r.count)) c.references))

abbrev pub told_replies : List PlainReply → Option (List (ClientId × KeptReply))
told_replies [] = Some []
told_replies (r ∷ replies) =
    option_and_then (λ result. option_map (λ rest. (r.to.client, record { number = r.to.number; result = result }) ∷ rest) (told_replies replies)) (told_result r.outcome)

abbrev pub durable_with : PlainCheckpoint → List (ClientId × KeptReply) → Durable
durable_with c replies = record {
  names = names_in c;
  chunks = fin.from_entries (map (λ (s : SettledEntry). (s.settled.handle, record { view = s.settled.view; is_moving = s.is_moving })) c.settled);
  next_handle = c.next_handle;
  next_version = c.next_version;
  next_hidden = c.next_hidden;
  epoch = c.epoch;
  phase = c.phase;
  ends = c.ends;
  replies = fin.from_entries replies;
  inverses = c.inverses;
  prepared = fin.from_entries (map (λ (v : PreparedView). (v.settled.handle, record { view = v.settled.view; holders = v.holders })) c.prepared);
}

-- a name that was hidden twice: what it was hidden from looks hidden itself
abbrev pub is_hidden_twice : Name → Bool
is_hidden_twice name = from_hidden (hidden_parts name)
  where
    from_hidden : Option (ℕ × ℕ × Name) → Bool
    from_hidden None = false
    from_hidden (Some parts) = is_hidden parts.2

abbrev pub are_hidden_once : Rows ℕ → Bool
are_hidden_once rows = not (list_any (λ r. list_any is_hidden_twice r.0) rows)

abbrev pub are_all_prepared : (ℕ → Option Prepared) → List (ℕ × ℕ) → Bool
are_all_prepared prepared refs = list_all (λ e. is_some (prepared e.0)) refs

-- Nothing is hidden twice, neither now nor in the names to which the inverses lead; and while an upgrade stands each chunk of
-- those has a prepared view, so that a rollback can be done.
abbrev pub can_go_back : Durable → Option NamesView → Bool
can_go_back d None = false
can_go_back d (Some before) =
    are_hidden_once (fin.entries d.names.tree) && (are_hidden_once (fin.entries before.tree)
    && (is_ordinary d.phase || are_all_prepared (prepared_view d) (fin.entries before.refs)))

abbrev pub if_it_can : Durable → Option Durable
if_it_can d = if can_go_back d (all_undone d.inverses d.names) then Some d else None

-- what a checkpoint tells, if its lists are about one state, its replies have answers, and its inverses can be undone
unfoldable pub whole_of : PlainCheckpoint → Option Durable
whole_of c = if is_whole c then option_and_then if_it_can (option_map (durable_with c) (told_replies c.replies)) else None

-- ---- examples

a_new_store : is_whole new_store ≡ true
a_new_store = refl

abbrev one_file : PlainCheckpoint
one_file = record new_store {
  next_handle = 2;
  next_version = 2;
  tree = (codes "f" ∷ [], Some (1 ∷ [])) ∷ [];
  references = record { handle = 1; count = 1 } ∷ [];
  settled = record { settled = record { handle = 1; view = record { stamp = record { epoch = 0; version = 1 }; count = 0; members = 0 ∷ []; term = None } }; is_moving = false } ∷ [];
}

a_file_of_one_chunk : is_whole one_file ≡ true
a_file_of_one_chunk = refl

a_chunk_counted_twice : is_whole (record one_file { references = record { handle = 1; count = 2 } ∷ [] }) ≡ false
a_chunk_counted_twice = refl

a_chunk_that_is_not_settled : is_whole (record one_file { settled = [] }) ≡ false
a_chunk_that_is_not_settled = refl

a_chunk_that_was_not_given : is_whole (record one_file { next_handle = 1 }) ≡ false
a_chunk_that_was_not_given = refl

a_chunk_with_a_view_of_another_epoch : is_view_given one_file 1 (record { stamp = record { epoch = 1; version = 1 }; count = 0; members = 0 ∷ []; term = None }) ≡ false
a_chunk_with_a_view_of_another_epoch = refl

led_by_another : is_view_given one_file 1 (record { stamp = record { epoch = 0; version = 1 }; count = 0; members = 0 ∷ []; term = Some (record { primary = 1; end = record { 0 = 60 } }) }) ≡ false
led_by_another = refl

hidden_once : is_hidden_twice (codes ".deleted.00000000000000000005.00000000000000000012.f") ≡ false
hidden_once = refl

hidden_twice : is_hidden_twice (codes ".deleted.00000000000000000005.00000000000000000012..deleted.x") ≡ true
hidden_twice = refl

-- chunk 2 came before the upgrade and has no prepared view, so no rollback could be done
abbrev prepared_but_one : ℕ → Option Prepared
prepared_but_one chunk = if chunk == 2 then None else Some (record { view = record { stamp = record { epoch = 0; version = 1 }; count = 0; members = 0 ∷ []; term = None }; holders = [] })

all_prepared : are_all_prepared prepared_but_one ((1, 1) ∷ (3, 2) ∷ []) ≡ true
all_prepared = refl

one_is_not : are_all_prepared prepared_but_one ((1, 1) ∷ (2, 1) ∷ []) ≡ false
one_is_not = refl

an_upgrade : are_ends (ends.Prepare ∷ ends.Finalize ∷ ends.Prepare ∷ []) 3 Upgrade ≡ true
an_upgrade = refl

a_rollback_that_is_done : are_ends (ends.Prepare ∷ ends.Rollback ∷ []) 2 Ordinary ≡ true
a_rollback_that_is_done = refl

two_prepares : are_ends (ends.Prepare ∷ ends.Prepare ∷ []) 2 Upgrade ≡ false
two_prepares = refl
