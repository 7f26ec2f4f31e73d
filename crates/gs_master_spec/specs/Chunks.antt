-- One chunk at the master, and what is done with it. Nothing here looks at another chunk.
use Rattle.std.specs.Prelude.{◌≡◌, ◌&&◌, ◌||◌, ℕ, Bool, true, false, not, List, [], ◌∷◌, ◌++◌, slice_get, Option, Some, None, option_map, option_and_then, is_some, is_none, if◌then◌else◌, refl}
use Rattle.std.specs.List.{list_all, list_any}
use Rattle.std.specs.FinMap as fin
use Rattle.gs_base.specs.Members.{is_member, servers_where}
use Rattle.gs_base.specs.Stamps.{is_same}
use Rattle.gs_base.specs.declared.numbers.Moment.{Moment}
use Rattle.gs_base.specs.declared.numbers.ReqId.{ReqId}
use Rattle.gs_base.specs.declared.numbers.Stamp.{Stamp}
use Rattle.gs_lease.specs.Transitions.{settled_view, is_any_asked}
use Rattle.gs_lease.specs.declared.view.Proposed.{Proposed}
use Rattle.gs_lease.specs.declared.view.Purpose.{Purpose}
use Rattle.gs_lease.specs.declared.view.Purpose.TheVariants as purposes
use Rattle.gs_lease.specs.declared.view.Term.{Term}
use Rattle.gs_lease.specs.declared.view.View.{View}
use Rattle.gs_view.specs.Choice.{chosen, greatest, is_count}
use Rattle.gs_view.specs.Spoken.{no_answers, has_spoken, with_yes, with_no}
use Rattle.gs_view.specs.declared.poll.Poll.{Poll}
use Rattle.gs_master_record.specs.Plain.{PlainEntry, Settle, Holder}
use Rattle.gs_master_record.specs.declared.checkpoint.Phase.{Phase}
use Rattle.gs_master_record.specs.declared.checkpoint.Phase.TheVariants.{Ordinary, Upgrade, Rolling}
use Rattle.gs_master_spec.specs.Durable.{Settled, is_rolling, is_upgrade, is_listed}
use Rattle.gs_master_spec.specs.State.{State}
use Rattle.gs_master_spec.specs.declared.asking.Asking.{Asking}
use Rattle.gs_master_spec.specs.declared.asking.Prepared.{Prepared}
use Rattle.gs_master_spec.specs.declared.asking.Step.{Step}
use Rattle.gs_master_spec.specs.declared.asking.Step.TheVariants as steps

-- the view that was settled last, if one was, and what is asked
pub record Chunk : Type 0 where
  pub settled : Option Settled
  pub asking : Option Asking

-- the master knows a chunk that stands in a file or stood there, and a new one; one that was taken out is as one that never was
abbrev pub has_entry : State → ℕ → Bool
has_entry s chunk = is_listed s.durable chunk || is_member s.volatile.unplaced chunk

unfoldable pub chunk_at : State → ℕ → Option Chunk
chunk_at s chunk =
    if has_entry s chunk then Some (record { settled = fin.get s.durable.chunks chunk; asking = fin.get s.volatile.moving chunk }) else None

-- ---- what state it is in

abbrev pub was_proposed : Option Settled → Bool
was_proposed None = false
was_proposed (Some settled) = settled.is_moving

-- a view is proposed, and perhaps nobody is asked any more
abbrev pub is_moving : Chunk → Bool
is_moving c = is_some c.asking || was_proposed c.settled

abbrev pub view_of : Chunk → Option View
view_of c = option_map (λ (s : Settled). s.view) c.settled

abbrev pub term_of : Chunk → Option Term
term_of c = option_and_then (λ (v : View). v.term) (view_of c)

abbrev pub members_in : Option View → List ℕ
members_in None = []
members_in (Some view) = view.members

-- the members of the settled view
abbrev pub members_of : Chunk → List ℕ
members_of c = members_in (view_of c)

abbrev pub is_quiet : Chunk → Bool
is_quiet c = not (is_moving c) && is_none (term_of c)

abbrev pub is_leased : Chunk → Bool
is_leased c = not (is_moving c) && is_some (term_of c)

-- a call that waits moves the chunk
abbrev pub is_wanted : Chunk → Bool
is_wanted c = is_some (option_and_then (λ (a : Asking). a.call) c.asking)

-- the server to which a chunk is copied
abbrev pub target_of : Purpose → Option ℕ
target_of purposes.Quiet = None
target_of purposes.Lease = None
target_of (purposes.Copy target) = Some target

abbrev pub is_target : Asking → ℕ → Bool
is_target asking server = is_count server (target_of asking.purpose)

abbrev pub is_any_in : ℕ → Option Asking → Bool
is_any_in server None = false
is_any_in server (Some asking) = is_member asking.asked server || is_target asking server

-- a server may have a replica: it is a member, or asked, or the target of a copy
abbrev pub is_at_home : Chunk → ℕ → Bool
is_at_home c server = is_member (members_of c) server || is_any_in server c.asking

-- ---- beginning

-- nothing is begun while rolling back
abbrev pub may_begin : Phase → Bool
may_begin phase = not (is_rolling phase)

abbrev pub asking_for : Stamp → Purpose → List ℕ → Option ReqId → Asking
asking_for stamp purpose asked call = record { stamp = stamp; purpose = purpose; asked = asked; answers = no_answers; source = None; call = call }

-- A report or a bad block makes a chunk quiet where the server is a member and no view is proposed.
abbrev pub is_settled_on : ℕ → Chunk → Bool
is_settled_on server c = is_member (members_of c) server && not (is_moving c)

-- ---- answers

-- who asks under this stamp is answered by those who were asked and by the target
abbrev pub hears : Asking → Stamp → ℕ → Bool
hears asking stamp server = is_same asking.stamp stamp && (is_member asking.asked server || is_target asking server)

abbrev pub have_all_spoken : Asking → Bool
have_all_spoken asking = list_all (has_spoken asking.answers) asking.asked

abbrev pub has_yes : Asking → Bool
has_yes asking = is_some (greatest asking.answers.counts)

abbrev pub with_answers : Asking → Poll → Asking
with_answers asking answers = record asking { answers = answers }

-- the lowest of those that have the most edits
abbrev pub source_in : Asking → Option ℕ
source_in asking = option_and_then (λ choice. slice_get choice.0 0) (chosen asking.answers.counts)

abbrev pub sent_from : Option ℕ → ℕ → Step
sent_from None target = steps.Fail
sent_from (Some source) target = steps.Send source target

-- once all have spoken; a copy is waited for once a source was told
abbrev pub once_spoken : Asking → Purpose → Option ℕ → Step
once_spoken asking purposes.Quiet source = steps.Settle asking.answers
once_spoken asking purposes.Lease source = steps.Settle asking.answers
once_spoken asking (purposes.Copy target) None = sent_from (source_in asking) target
once_spoken asking (purposes.Copy target) (Some source) = steps.Wait

abbrev pub step_after : Asking → Step
step_after asking =
    if not (have_all_spoken asking) then steps.Wait
    else if not (has_yes asking) then steps.Fail
    else once_spoken asking asking.purpose asking.source

-- the target joins those that have as many edits as it, where nobody has more
abbrev pub with_target : Asking → ℕ → ℕ → Poll
with_target asking target count = if is_count count (greatest asking.answers.counts) then with_yes asking.answers target count else asking.answers

-- the copy has come, if it was sent
abbrev pub step_of_target : Asking → ℕ → ℕ → Option ℕ → Step
step_of_target asking target count None = steps.Wait
step_of_target asking target count (Some source) = steps.Settle (with_target asking target count)

-- a yes with its count
abbrev pub heard_yes : Asking → ℕ → ℕ → Asking
heard_yes asking server count = if is_member asking.asked server then with_answers asking (with_yes asking.answers server count) else asking

abbrev pub step_of_yes : Asking → ℕ → ℕ → Step
step_of_yes asking server count =
    if is_member asking.asked server then step_after (heard_yes asking server count) else step_of_target asking server count asking.source

-- a no; after a yes it changes nothing
abbrev pub heard_no : Asking → ℕ → Asking
heard_no asking server = if is_member asking.asked server then with_answers asking (with_no asking.answers server) else asking

-- Once a copy was sent for, a no of the target or of the source ends it: the view is settled without the target. The source's
-- yes stands.
abbrev pub ends_copy : Asking → ℕ → Bool
ends_copy asking server = is_some asking.source && (is_target asking server || is_count server asking.source)

abbrev pub step_of_no : Asking → ℕ → Step
step_of_no asking server =
    if ends_copy asking server then steps.Settle asking.answers
    else if is_member asking.asked server then step_after (heard_no asking server)
    else steps.Wait

-- at a tick one yes is enough, and a copy isn't waited for
abbrev pub step_at_tick : Asking → Step
step_at_tick asking = if has_yes asking then steps.Settle asking.answers else steps.Fail

-- ---- settling

-- Of those that make the next view one was asked: a member of the view before, or a target of a chunk that had none. The
-- target of a copy alone settles nothing.
abbrev pub may_settle : List ℕ → List ℕ → Bool
may_settle asked members = is_any_asked asked members

abbrev pub proposed_in : Chunk → Asking → Proposed
proposed_in c asking = record { settled = view_of c; stamp = asking.stamp; purpose = asking.purpose; asked = asking.asked }

-- the view on those that answered the most edits
abbrev pub view_by : Chunk → Asking → Poll → Moment → Option View
view_by c asking answers moment =
    option_and_then (λ choice. if may_settle asking.asked choice.0 then Some (settled_view (proposed_in c asking) choice.0 choice.1 moment) else None) (chosen answers.counts)

-- Before the view, the target of a copy that carried its sealed image is told as a holder, where it is a member, an upgrade
-- stands and the chunk was prepared.
abbrev pub is_holder : Phase → Option Prepared → Bool → Asking → View → Bool
is_holder phase prepared carried asking view = carried && (is_upgrade phase && (is_some prepared && list_any (is_target asking) view.members))

abbrev pub holder_records : Bool → ℕ → Option ℕ → List PlainEntry
holder_records holds chunk None = []
holder_records holds chunk (Some target) = if holds then Holder chunk target ∷ [] else []

abbrev pub settling : Phase → Option Prepared → Bool → ℕ → Asking → View → List PlainEntry
settling phase prepared carried chunk asking view =
    holder_records (is_holder phase prepared carried asking view) chunk (target_of asking.purpose) ++ Settle (record { handle = chunk; view = view }) ∷ []

-- ---- examples: a chunk on servers 0 and 1, for which a view is proposed

abbrev a_stamp : Stamp
a_stamp = record { epoch = 1; version = 8 }

abbrev a_chunk : Chunk
a_chunk = record {
  settled = Some (record { view = record { stamp = record { epoch = 0; version = 5 }; count = 2; members = 0 ∷ 1 ∷ []; term = None }; is_moving = false });
  asking = None;
}

abbrev asked_for : Purpose → Asking
asked_for purpose = asking_for a_stamp purpose (0 ∷ 1 ∷ []) None

a_chunk_at_rest : is_quiet a_chunk ≡ true
a_chunk_at_rest = refl

nothing_while_rolling_back : may_begin Rolling ≡ false
nothing_while_rolling_back = refl

under_another_stamp : hears (asked_for purposes.Quiet) (record { epoch = 1; version = 7 }) 0 ≡ false
under_another_stamp = refl

of_one_who_was_not_asked : hears (asked_for purposes.Quiet) a_stamp 2 ≡ false
of_one_who_was_not_asked = refl

one_has_not_spoken : step_of_yes (asked_for purposes.Quiet) 0 2 ≡ steps.Wait
unfolding servers_where
one_has_not_spoken = refl

-- server 1 has one edit more
abbrev by_both : Asking
by_both = heard_yes (heard_yes (asked_for purposes.Lease) 0 2) 1 3

the_one_with_more_edits : view_by a_chunk by_both by_both.answers (record { 0 = 9 }) ≡ Some (record { stamp = a_stamp; count = 3; members = 1 ∷ []; term = Some (record { primary = 1; end = record { 0 = 69 } }) })
unfolding servers_where
the_one_with_more_edits = refl

both_said_no : step_of_no (heard_no (asked_for purposes.Quiet) 0) 1 ≡ steps.Fail
unfolding servers_where
both_said_no = refl

a_yes_after_both_said_no : step_of_yes (heard_no (heard_no (asked_for purposes.Quiet) 0) 1) 1 2 ≡ steps.Settle (with_yes (heard_no (heard_no (asked_for purposes.Quiet) 0) 1).answers 1 2)
unfolding servers_where
a_yes_after_both_said_no = refl

nobody_at_a_tick : step_at_tick (asked_for purposes.Quiet) ≡ steps.Fail
nobody_at_a_tick = refl

-- a copy to server 2: both have 2 edits, so the lower is told to send
abbrev copying : Asking
copying = heard_yes (heard_yes (asked_for (purposes.Copy 2)) 0 2) 1 2

the_lower_of_two_is_the_source : step_of_yes (heard_yes (asked_for (purposes.Copy 2)) 0 2) 1 2 ≡ steps.Send 0 2
unfolding servers_where
the_lower_of_two_is_the_source = refl

abbrev sent_for : Asking
sent_for = record copying { source = Some 0 }

with_its_target : with_target sent_for 2 2 ≡ with_yes sent_for.answers 2 2
with_its_target = refl

a_target_behind_the_others : with_target sent_for 2 1 ≡ sent_for.answers
a_target_behind_the_others = refl

-- nobody who was asked has so many
a_target_before_the_others : with_target sent_for 2 3 ≡ sent_for.answers
a_target_before_the_others = refl

a_target_alone : may_settle (0 ∷ 1 ∷ []) (2 ∷ []) ≡ false
a_target_alone = refl

a_target_that_was_not_sent_for : step_of_yes copying 2 2 ≡ steps.Wait
a_target_that_was_not_sent_for = refl

the_source_says_no : step_of_no sent_for 0 ≡ steps.Settle sent_for.answers
the_source_says_no = refl

abbrev was_prepared : Option Prepared
was_prepared = Some (record { view = record { stamp = record { epoch = 0; version = 5 }; count = 2; members = 0 ∷ 1 ∷ []; term = None }; holders = [] })

abbrev with_server_2 : View
with_server_2 = record { stamp = a_stamp; count = 2; members = 0 ∷ 1 ∷ 2 ∷ []; term = None }

a_holder_before_the_view : settling Upgrade was_prepared true 7 sent_for with_server_2 ≡ Holder 7 2 ∷ Settle (record { handle = 7; view = with_server_2 }) ∷ []
a_holder_before_the_view = refl

no_holder_without_its_image : settling Upgrade was_prepared false 7 sent_for with_server_2 ≡ Settle (record { handle = 7; view = with_server_2 }) ∷ []
no_holder_without_its_image = refl

no_holder_without_an_upgrade : settling Ordinary was_prepared true 7 sent_for with_server_2 ≡ Settle (record { handle = 7; view = with_server_2 }) ∷ []
no_holder_without_an_upgrade = refl

no_holder_that_is_no_member : settling Upgrade was_prepared true 7 sent_for (record with_server_2 { members = 0 ∷ 1 ∷ [] }) ≡ Settle (record { handle = 7; view = record with_server_2 { members = 0 ∷ 1 ∷ [] } }) ∷ []
no_holder_that_is_no_member = refl

no_holder_of_a_chunk_that_was_not_prepared : settling Upgrade None true 7 sent_for with_server_2 ≡ Settle (record { handle = 7; view = with_server_2 }) ∷ []
no_holder_of_a_chunk_that_was_not_prepared = refl
