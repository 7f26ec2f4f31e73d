-- What each record makes of what is durable. This is the one way by which it changes. A record that doesn't fit what it meets
-- makes nothing of it.
use Rattle.std.specs.Prelude.{◌≡◌, ◌&&◌, ◌||◌, ◌==◌, ◌+◌, ℕ, Bool, true, false, not, nat_lt, nat_le, List, [], ◌∷◌, ◌++◌, filter, filter_map, codes, Option, Some, None, option_map, option_and_then, is_some, is_none, Result, Ok, Err, if◌then◌else◌, refl}
use Rattle.std.specs.List.{list_all, list_any}
use Rattle.std.specs.Ordering.{nat_cmp}
use Rattle.std.specs.FinMap as fin
use Rattle.gs_base.specs.Members.{is_member, with_member, servers_where}
use Rattle.gs_base.specs.Numbers.{last_number}
use Rattle.gs_base.specs.Stamps.{is_before}
use Rattle.gs_base.specs.declared.numbers.ReqId.{ReqId}
use Rattle.gs_base.specs.declared.numbers.Stamp.{Stamp}
use Rattle.gs_base.specs.declared.refusal.Refusal.{Refusal}
use Rattle.gs_edit.specs.View.{NamesView}
use Rattle.gs_path.specs.Element.{is_hidden}
use Rattle.gs_path.specs.Path.{Name, Path}
use Rattle.gs_tree.specs.Edits.{old_name}
use Rattle.gs_lease.specs.declared.view.View.{View}
use Rattle.gs_msg.specs.declared.answer.Answer.{Answer}
use Rattle.gs_master_record.specs.Encoding.{new_store}
use Rattle.gs_master_record.specs.Plain.{PlainEdit, Mkdirs, Create, Rename, Hide, Unhide, Remove, AddChunk, Cow, Snapshot, Forget, PlainInverse, PlainEntry, Edited, Said, Propose, Settle, Prepare, Finalize, RollbackBegin, RollbackCommit, Whole, Holder}
use Rattle.gs_base.specs.declared.epoch.EpochEnd.{EpochEnd}
use Rattle.gs_base.specs.declared.epoch.EpochEnd.TheVariants as ends
use Rattle.gs_master_record.specs.declared.checkpoint.Phase.{Phase}
use Rattle.gs_master_record.specs.declared.checkpoint.Phase.TheVariants.{Ordinary, Upgrade, Rolling}
use Rattle.gs_master_record.specs.declared.entry.Answered.{Answered}
use Rattle.gs_master_record.specs.declared.entry.SettledView.{SettledView}
use Rattle.gs_master_spec.specs.Durable.{Settled, Durable, after_number, is_given, is_ordinary, is_upgrade, is_rolling, upgrade_epoch, has_its_primary, prepared_view, kept_before, with_prepared, is_listed}
use Rattle.gs_master_spec.specs.Replies.{client_cmp, answer_to, is_later}
use Rattle.gs_master_spec.specs.Undoing.{edited_names, inverse_of, all_undone}
use Rattle.gs_master_spec.specs.Whole.{whole_of, is_empty}
use Rattle.gs_master_spec.specs.declared.asking.Prepared.{Prepared}
use Rattle.gs_master_spec.specs.declared.reply.KeptReply.{KeptReply}

abbrev pub if_fits : Bool → Durable → Option Durable
if_fits fits d = if fits then Some d else None

-- a counter hasn't given this value yet
abbrev pub is_fresh : ℕ → ℕ → Bool
is_fresh next n = nat_lt 0 n && not (is_given next n)

-- a counter behind a value, if it is fresh
abbrev pub raised : ℕ → ℕ → ℕ
raised next n = if is_fresh next n then after_number n else next

-- ---- replies

-- a reply is kept where no later one is
abbrev pub with_reply : fin.FinMap client_cmp KeptReply → ReqId → Result Answer Refusal → fin.FinMap client_cmp KeptReply
with_reply replies to result =
    if is_later (fin.get replies to.client) to.number then fin.insert replies to.client (record { number = to.number; result = result }) else replies

abbrev pub with_answer : fin.FinMap client_cmp KeptReply → ReqId → Option Answer → fin.FinMap client_cmp KeptReply
with_answer replies to None = replies
with_answer replies to (Some answer) = with_reply replies to (Ok answer)

-- ---- edits

-- the chunk that an edit puts into a file
abbrev pub chunk_of_edit : PlainEdit → Option ℕ
chunk_of_edit (AddChunk p chunk) = Some chunk
chunk_of_edit (Cow p index old new) = Some new
chunk_of_edit edit = None

-- the number of a deletion
abbrev pub number_of_edit : PlainEdit → Option ℕ
number_of_edit (Hide p moment number) = Some number
number_of_edit edit = None

-- the chunks that an edit forgets
abbrev pub forgotten_by : PlainEdit → List ℕ
forgotten_by (Forget chunks) = chunks
forgotten_by edit = []

abbrev pub view_in : Option Settled → Option View
view_in settled = option_map (λ (s : Settled). s.view) settled

-- the settled view of the chunk that an edit puts into a file
abbrev pub view_for : Durable → Option ℕ → Option View
view_for d None = None
view_for d (Some chunk) = view_in (fin.get d.chunks chunk)

abbrev pub is_fresh_if : ℕ → Option ℕ → Bool
is_fresh_if next None = true
is_fresh_if next (Some n) = is_fresh next n

abbrev pub after_if : ℕ → Option ℕ → ℕ
after_if next None = next
after_if next (Some n) = after_number n

-- ---- names

-- no element of a path looks hidden
abbrev pub is_visible : Path → Bool
is_visible p = not (list_any is_hidden p)

-- an old name to which something goes back doesn't look hidden
abbrev pub is_visible_name : Option Name → Bool
is_visible_name None = true
is_visible_name (Some name) = not (is_hidden name)

-- Something is hidden by a deletion alone, and only what isn't. So nothing is hidden twice, each path can be written down, and
-- so can the answer to each edit.
abbrev pub names_well : PlainEdit → Bool
names_well (Mkdirs p) = is_visible p
names_well (Create p) = is_visible p
names_well (Rename from to) = is_visible from && is_visible to
names_well (Hide p moment number) = is_visible p
names_well (Unhide p) = is_visible_name (old_name p)
names_well (Remove p) = true
names_well (AddChunk p chunk) = is_visible p
names_well (Cow p index old new) = is_visible p
names_well (Snapshot from to) = is_visible from && is_visible to
names_well (Forget chunks) = true

-- ---- what an edit makes

-- A chunk is settled before it gets its place, the number of a deletion is fresh, paths are as calls may name them, and nothing
-- is edited while rolling back.
abbrev pub may_edit : Durable → PlainEdit → Bool
may_edit d edit =
    not (is_rolling d.phase) && (names_well edit
    && ((is_none (chunk_of_edit edit) || is_some (view_for d (chunk_of_edit edit))) && is_fresh_if d.next_hidden (number_of_edit edit)))

-- what takes edits back is kept while an upgrade stands
abbrev pub inverses_with : Phase → List PlainInverse → PlainInverse → List PlainInverse
inverses_with Ordinary inverses inverse = inverses
inverses_with Upgrade inverses inverse = inverses ++ inverse ∷ []
inverses_with Rolling inverses inverse = inverses

-- without these chunks, whose prepared views are kept
abbrev pub without_chunks : Durable → List ℕ → Durable
without_chunks d [] = d
without_chunks d (chunk ∷ chunks) = without_chunks (record d { chunks = fin.remove d.chunks chunk; prepared = kept_before d chunk }) chunks

abbrev pub with_edit : Durable → ReqId → PlainEdit → NamesView → Durable
with_edit d by edit names = record (without_chunks d (forgotten_by edit)) {
  names = names;
  next_hidden = after_if d.next_hidden (number_of_edit edit);
  replies = with_answer d.replies by (answer_to edit (view_for d (chunk_of_edit edit)) d.epoch);
  inverses = inverses_with d.phase d.inverses (inverse_of edit (fin.entries d.names.tree));
}

abbrev pub after_edit : Durable → ReqId → PlainEdit → Result NamesView Refusal → Option Durable
after_edit d by edit (Ok names) = if_fits (may_edit d edit) (with_edit d by edit names)
after_edit d by edit (Err refusal) = None

-- ---- views

-- a view is proposed under a fresh version, for a settled chunk or for a new one; nothing is proposed while rolling back
abbrev pub may_propose : Phase → ℕ → ℕ → ℕ → ℕ → Option Settled → Bool
may_propose phase next_handle next_version chunk version settled =
    not (is_rolling phase) && (is_fresh next_version version && (is_some settled || is_fresh next_handle chunk))

-- a new chunk isn't known before it is settled
abbrev pub with_proposal : Durable → ℕ → Option Settled → fin.FinMap nat_cmp Settled
with_proposal d chunk None = d.chunks
with_proposal d chunk (Some settled) = fin.insert d.chunks chunk (record settled { is_moving = true })

abbrev pub proposed : Durable → ℕ → ℕ → Durable
proposed d chunk version = record d {
  chunks = with_proposal d chunk (fin.get d.chunks chunk);
  next_handle = raised d.next_handle chunk;
  next_version = after_number version;
}

-- a settled chunk was proposed a view since, under a greater stamp
abbrev pub follows_view : Option Settled → Stamp → Bool
follows_view None stamp = true
follows_view (Some settled) stamp = settled.is_moving && is_before settled.view.stamp stamp

-- A chunk that isn't settled wasn't there when the upgrade was prepared that stands, so no view of before is its first.
abbrev pub is_since : Option ℕ → Option Settled → Stamp → Bool
is_since None settled stamp = true
is_since (Some upgrade) None stamp = nat_le upgrade stamp.epoch
is_since (Some upgrade) (Some settled) stamp = true

-- a view has members, of which one is the primary if it has one
abbrev pub is_sound : View → Bool
is_sound view = not (is_empty view.members) && has_its_primary view

-- a sound view, of which the stamp and the chunk were given
abbrev pub may_be_settled : Durable → SettledView → Bool
may_be_settled d v =
    is_given d.next_handle v.handle && (is_given d.next_version v.view.stamp.version && (nat_le v.view.stamp.epoch d.epoch
    && (is_sound v.view && (follows_view (fin.get d.chunks v.handle) v.view.stamp && is_since (upgrade_epoch d.phase d.epoch) (fin.get d.chunks v.handle) v.view.stamp))))

abbrev pub with_view : Durable → SettledView → Durable
with_view d v = record d {
  chunks = fin.insert d.chunks v.handle (record { view = v.view; is_moving = false });
  prepared = kept_before d v.handle;
}

-- ---- upgrades

-- a chunk has no primary, and no view is proposed for it
abbrev pub is_at_rest : Settled → Bool
is_at_rest settled = not settled.is_moving && is_none settled.view.term

abbrev pub are_at_rest : Durable → Bool
are_at_rest d = list_all (λ e. is_at_rest e.1) (filter (λ e. is_listed d e.0) (fin.entries d.chunks))

-- the epoch behind this one
abbrev pub is_next_epoch : ℕ → ℕ → Bool
is_next_epoch epoch next = nat_lt epoch last_number && (next == epoch + 1)

-- an epoch ends; what was prepared is given up
abbrev pub with_epoch : Durable → EpochEnd → Phase → Durable
with_epoch d end phase = record d { epoch = d.epoch + 1; ends = d.ends ++ end ∷ []; phase = phase }

abbrev pub without_prepared : Durable → Durable
without_prepared d = record d { inverses = []; prepared = fin.empty }

-- a server that may have a chunk as it stood at prepare
abbrev pub is_prepared_on : Prepared → ℕ → Bool
is_prepared_on prepared server = is_member prepared.view.members server || is_member prepared.holders server

-- who has answered is among those, and of a chunk with a reference somebody has
abbrev pub may_restore : Option Prepared → ℕ → List ℕ → Bool
may_restore None count members = false
may_restore (Some prepared) count members = list_all (is_prepared_on prepared) members && ((count == 0) || not (is_empty members))

-- an answer for each chunk that was listed at prepare, in their order
abbrev pub are_answers : (ℕ → Option Prepared) → List (ℕ × ℕ) → List Answered → Bool
are_answers prepared [] [] = true
are_answers prepared [] (answer ∷ answers) = false
are_answers prepared (e ∷ refs) [] = false
are_answers prepared (e ∷ refs) (answer ∷ answers) =
    (answer.handle == e.0) && (may_restore (prepared e.0) e.1 answer.members && are_answers prepared refs answers)

-- the chunk as it stood at prepare, on the servers that have answered
abbrev pub restored_view : ℕ → Prepared → List ℕ → Settled
restored_view epoch prepared members =
    record { view = record { stamp = record { epoch = epoch; version = 0 }; count = prepared.view.count; members = members; term = None }; is_moving = false }

abbrev pub restored_chunk : Durable → Answered → Option (ℕ × Settled)
restored_chunk d answer = option_map (λ prepared. (answer.handle, restored_view d.epoch prepared answer.members)) (prepared_view d answer.handle)

abbrev pub rolled_back : Durable → List Answered → NamesView → Durable
rolled_back d answers names =
    record (without_prepared d) { names = names; chunks = fin.from_entries (filter_map (restored_chunk d) answers); phase = Ordinary }

abbrev pub after_undoing : Durable → ℕ → List Answered → Option NamesView → Option Durable
after_undoing d epoch answers None = None
after_undoing d epoch answers (Some names) =
    if_fits (is_rolling d.phase && ((epoch == d.epoch) && are_answers (prepared_view d) (fin.entries names.refs) answers)) (rolled_back d answers names)

abbrev pub held_by : ℕ → Option Prepared → Option Prepared
held_by server prepared = option_map (λ (p : Prepared). record p { holders = with_member p.holders server }) prepared

-- ---- records

unfoldable pub applied : Durable → PlainEntry → Option Durable
applied d (Edited by edit) = after_edit d by edit (edited_names edit d.names)
applied d (Said to refusal) = Some (record d { replies = with_reply d.replies to (Err refusal) })
applied d (Propose chunk version) =
    if_fits (may_propose d.phase d.next_handle d.next_version chunk version (fin.get d.chunks chunk)) (proposed d chunk version)
applied d (Settle v) = if_fits (may_be_settled d v) (with_view d v)
applied d (Prepare epoch moment chunks) =
    if_fits (is_ordinary d.phase && (is_next_epoch d.epoch epoch && are_at_rest d)) (without_prepared (with_epoch d ends.Prepare Upgrade))
applied d (Finalize epoch) = if_fits (is_upgrade d.phase && is_next_epoch d.epoch epoch) (without_prepared (with_epoch d ends.Finalize Ordinary))
applied d (RollbackBegin epoch) = if_fits (is_upgrade d.phase && is_next_epoch d.epoch epoch) (with_epoch d ends.Rollback Rolling)
applied d (RollbackCommit epoch answers) = after_undoing d epoch answers (all_undone d.inverses d.names)
applied d (Whole c) = whole_of c
applied d (Holder chunk server) =
    if_fits (is_upgrade d.phase && (nat_lt server 16 && is_some (prepared_view d chunk))) (record d { prepared = with_prepared d chunk (held_by server (prepared_view d chunk)) })

-- records one after the other, where each fits
abbrev pub replayed : Durable → List PlainEntry → Option Durable
replayed d [] = Some d
replayed d (entry ∷ entries) = option_and_then (λ next. replayed next entries) (applied d entry)

-- ---- how many stand behind the last checkpoint

abbrev pub is_whole_entry : PlainEntry → Bool
is_whole_entry (Whole c) = true
is_whole_entry entry = false

-- so many, and these behind them
abbrev pub counted_behind : ℕ → List PlainEntry → ℕ
counted_behind many [] = many
counted_behind many (entry ∷ entries) = counted_behind (if is_whole_entry entry then 0 else many + 1) entries

-- of the records of a journal those behind the last checkpoint, or all
abbrev pub records_behind : List PlainEntry → ℕ
records_behind entries = counted_behind 0 entries

-- ---- examples

abbrev a_view : ℕ → ℕ → View
a_view epoch version = record { stamp = record { epoch = epoch; version = version }; count = 2; members = 0 ∷ 1 ∷ []; term = None }

a_new_chunk : may_propose Ordinary 3 7 3 7 None ≡ true
a_new_chunk = refl

a_version_again : may_propose Ordinary 3 7 3 6 None ≡ false
a_version_again = refl

an_old_handle : may_propose Ordinary 3 7 2 7 None ≡ false
an_old_handle = refl

nothing_while_rolling_back : may_propose Rolling 3 7 2 7 (Some (record { view = a_view 1 5; is_moving = false })) ≡ false
nothing_while_rolling_back = refl

a_greater_stamp : follows_view (Some (record { view = a_view 0 5; is_moving = true })) (record { epoch = 1; version = 6 }) ≡ true
a_greater_stamp = refl

that_was_not_proposed : follows_view (Some (record { view = a_view 0 5; is_moving = false })) (record { epoch = 1; version = 6 }) ≡ false
that_was_not_proposed = refl

a_new_chunk_of_the_upgrade : is_since (Some 3) None (record { epoch = 3; version = 6 }) ≡ true
a_new_chunk_of_the_upgrade = refl

a_new_chunk_of_before : is_since (Some 3) None (record { epoch = 2; version = 6 }) ≡ false
a_new_chunk_of_before = refl

with_members : is_sound (a_view 1 6) ≡ true
with_members = refl

without_members : is_sound (record (a_view 1 6) { members = [] }) ≡ false
without_members = refl

led_by_another : is_sound (record (a_view 1 6) { term = Some (record { primary = 2; end = record { 0 = 60 } }) }) ≡ false
led_by_another = refl

-- something hidden, and what was called as if it were
abbrev hidden_f : Path
hidden_f = codes ".deleted.00000000000000000005.00000000000000000012.f" ∷ []

abbrev hidden_twice : Path
hidden_twice = codes ".deleted.00000000000000000005.00000000000000000012..deleted.x" ∷ []

a_deletion : names_well (Hide (codes "f" ∷ []) 5 12) ≡ true
a_deletion = refl

a_deletion_of_what_is_hidden : names_well (Hide hidden_f 5 13) ≡ false
a_deletion_of_what_is_hidden = refl

back_to_its_name : names_well (Unhide hidden_f) ≡ true
back_to_its_name = refl

back_to_a_name_that_looks_hidden : names_well (Unhide hidden_twice) ≡ false
back_to_a_name_that_looks_hidden = refl

behind_none : records_behind (Finalize 2 ∷ RollbackBegin 4 ∷ []) ≡ 2
behind_none = refl

behind_one : records_behind (Finalize 2 ∷ Whole new_store ∷ RollbackBegin 4 ∷ []) ≡ 1
behind_one = refl

-- of two listed chunks the second has no reference
abbrev prepared_on_two : ℕ → Option Prepared
prepared_on_two chunk = Some (record { view = a_view 0 5; holders = 4 ∷ [] })

answered_by_a_member : are_answers prepared_on_two ((1, 2) ∷ (2, 0) ∷ []) (record { handle = 1; members = 1 ∷ [] } ∷ record { handle = 2; members = [] } ∷ []) ≡ true
answered_by_a_member = refl

answered_by_a_holder : are_answers prepared_on_two ((1, 1) ∷ []) (record { handle = 1; members = 4 ∷ [] } ∷ []) ≡ true
answered_by_a_holder = refl

answered_by_another : are_answers prepared_on_two ((1, 1) ∷ []) (record { handle = 1; members = 2 ∷ [] } ∷ []) ≡ false
answered_by_another = refl

answered_by_nobody : are_answers prepared_on_two ((1, 1) ∷ []) (record { handle = 1; members = [] } ∷ []) ≡ false
answered_by_nobody = refl

its_prepared_count : restored_view 2 (record { view = a_view 0 5; holders = [] }) (1 ∷ []) ≡ record { view = record { stamp = record { epoch = 2; version = 0 }; count = 2; members = 1 ∷ []; term = None }; is_moving = false }
its_prepared_count = refl

a_holder_more : held_by 3 (Some (record { view = a_view 0 5; holders = 4 ∷ [] })) ≡ Some (record { view = a_view 0 5; holders = 3 ∷ 4 ∷ [] })
unfolding servers_where
a_holder_more = refl
