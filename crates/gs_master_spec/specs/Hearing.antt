-- What the master does with the messages of servers.
use Rattle.std.specs.Prelude.{◌≡◌, ◌&&◌, ◌==◌, ◌+◌, ℕ, Bool, true, false, not, nat_lt, List, [], ◌∷◌, map, filter, length, slice_get, Option, Some, None, if◌then◌else◌, refl}
use Rattle.std.specs.List.{list_any}
use Rattle.std.specs.FinMap as fin
use Rattle.gs_base.specs.Stamps.{is_same}
use Rattle.gs_base.specs.declared.numbers.Moment.{Moment}
use Rattle.gs_base.specs.declared.numbers.Stamp.{Stamp}
use Rattle.gs_lease.specs.Transitions.{end_of}
use Rattle.gs_lease.specs.declared.view.Purpose.TheVariants as purposes
use Rattle.gs_lease.specs.declared.view.View.{View}
use Rattle.gs_msg.specs.declared.body.Body.TheVariants as bodies
use Rattle.gs_msg.specs.declared.body.Reported.{Reported}
use Rattle.gs_msg.specs.declared.chunk.Chunk.TheVariants as chunks
use Rattle.gs_msg.specs.declared.message.Message.{Message}
use Rattle.gs_msg.specs.declared.node.NodeId.TheVariants as nodes
use Rattle.gs_base.specs.declared.epoch.EpochEnd.{EpochEnd}
use Rattle.gs_base.specs.declared.epoch.EpochEnd.TheVariants as ends
use Rattle.gs_master_record.specs.declared.checkpoint.Phase.{Phase}
use Rattle.gs_master_record.specs.declared.checkpoint.Phase.TheVariants.{Ordinary, Upgrade}
use Rattle.gs_master_spec.specs.Applied.{is_prepared_on}
use Rattle.gs_master_spec.specs.Beginning.{has_versions, all_begun}
use Rattle.gs_master_spec.specs.Chunks.{Chunk, chunk_at, is_at_home, is_settled_on, is_leased, is_target, may_begin, view_of, hears, heard_yes, heard_no, step_of_yes, step_of_no, asking_for}
use Rattle.gs_master_spec.specs.Durable.{Durable, is_upgrade, is_rolling, prepared_view}
use Rattle.gs_master_spec.specs.Settling.{settled_by, failed}
use Rattle.gs_master_spec.specs.State.{State, Plan, Turn, turned, unmoved, and_then, if_room, about, post}
use Rattle.gs_master_spec.specs.declared.asking.Asking.{Asking}
use Rattle.gs_master_spec.specs.declared.asking.Step.{Step}
use Rattle.gs_master_spec.specs.declared.asking.Step.TheVariants as steps
use Rattle.gs_master_spec.specs.declared.asking.Prepared.{Prepared}
use Rattle.gs_master_spec.specs.declared.change.Change.TheVariants as changes

-- ---- answers to a proposal

abbrev pub ask_plan : ℕ → Asking → Plan
ask_plan chunk asking = record { records = []; changes = changes.Ask chunk asking ∷ []; sent = []; said = None }

abbrev pub is_any_on : ℕ → Option Prepared → Bool
is_any_on server None = false
is_any_on server (Some prepared) = is_prepared_on prepared server

-- a copy carries its sealed image where an upgrade stands and its source is a prepared member or a holder
abbrev pub is_with_sealed : Phase → Option Prepared → ℕ → Bool
is_with_sealed phase prepared source = is_upgrade phase && is_any_on source prepared

abbrev pub send_plan : ℕ → Asking → ℕ → ℕ → Bool → Plan
send_plan chunk asking source target with_sealed = record {
  records = [];
  changes = changes.Ask chunk (record asking { source = Some source }) ∷ [];
  sent = about chunk (chunks.CopyOut asking.stamp target with_sealed) source ∷ [];
  said = None;
}

-- what follows of an answer
abbrev pub stepped : State → ℕ → Chunk → Asking → Bool → Moment → Step → Turn
stepped s chunk c asking carried moment steps.Wait = unmoved s
stepped s chunk c asking carried moment (steps.Send source target) =
    turned s (send_plan chunk asking source target (is_with_sealed s.durable.phase (prepared_view s.durable chunk) source))
stepped s chunk c asking carried moment (steps.Settle by) = settled_by s chunk c asking carried by moment
stepped s chunk c asking carried moment steps.Fail = failed s chunk asking.call

abbrev pub heard : State → ℕ → Chunk → Asking → Bool → Moment → Step → Turn
heard s chunk c asking carried moment step = and_then (turned s (ask_plan chunk asking)) (λ next. stepped next chunk c asking carried moment step)

-- an answer counts where its stamp is asked for and its sender is asked
abbrev pub promised_for : State → ℕ → ℕ → Stamp → ℕ → Bool → Moment → Chunk → Option Asking → Turn
promised_for s server chunk stamp count carried moment c None = unmoved s
promised_for s server chunk stamp count carried moment c (Some asking) =
    if hears asking stamp server
    then heard s chunk c (heard_yes asking server count) (carried && is_target asking server) moment (step_of_yes asking server count)
    else unmoved s

abbrev pub promised_at : State → ℕ → ℕ → Stamp → ℕ → Bool → Moment → Option Chunk → Turn
promised_at s server chunk stamp count carried moment None = unmoved s
promised_at s server chunk stamp count carried moment (Some c) = promised_for s server chunk stamp count carried moment c c.asking

abbrev pub promised : State → ℕ → ℕ → Stamp → ℕ → Bool → Moment → Turn
promised s server chunk stamp count carried moment = promised_at s server chunk stamp count carried moment (chunk_at s chunk)

abbrev pub unpromised_for : State → ℕ → ℕ → Stamp → Moment → Chunk → Option Asking → Turn
unpromised_for s server chunk stamp moment c None = unmoved s
unpromised_for s server chunk stamp moment c (Some asking) =
    if hears asking stamp server then heard s chunk c (heard_no asking server) false moment (step_of_no asking server) else unmoved s

abbrev pub unpromised_at : State → ℕ → ℕ → Stamp → Moment → Option Chunk → Turn
unpromised_at s server chunk stamp moment None = unmoved s
unpromised_at s server chunk stamp moment (Some c) = unpromised_for s server chunk stamp moment c c.asking

abbrev pub unpromised : State → ℕ → ℕ → Stamp → Moment → Turn
unpromised s server chunk stamp moment = unpromised_at s server chunk stamp moment (chunk_at s chunk)

-- ---- leases

abbrev pub is_leased_under : Stamp → Option Chunk → Bool
is_leased_under stamp None = false
is_leased_under stamp (Some c) = is_leased c && is_under (view_of c)
  where
    is_under : Option View → Bool
    is_under None = false
    is_under (Some view) = is_same view.stamp stamp

-- a lease that stands is renewed at its primary, while nothing is prepared; the master's own end stays
abbrev pub renewed : State → ℕ → ℕ → Stamp → Moment → Turn
renewed s server chunk stamp moment =
    if is_leased_under stamp (chunk_at s chunk) && not s.volatile.is_preparing
    then record { after = s; records = []; sent = about chunk (chunks.Renewed stamp (end_of moment)) server ∷ []; said = None }
    else unmoved s

-- ---- epochs

abbrev pub end_told : ℕ → ℕ → Option EpochEnd → List Message
end_told server epoch None = []
end_told server epoch (Some end) = post (nodes.Server server) (bodies.Epoch (epoch + 1) end) ∷ []

-- a server that is behind is told how its epoch ended
abbrev pub next_epoch : Durable → ℕ → ℕ → List Message
next_epoch d server epoch = end_told server epoch (slice_get d.ends epoch)

abbrev pub sends : State → List Message → Turn
sends s messages = record { after = s; records = []; sent = messages; said = None }

abbrev pub behind : State → ℕ → ℕ → Turn
behind s server epoch = if nat_lt epoch s.durable.epoch then sends s (next_epoch s.durable server epoch) else unmoved s

-- while rolling back it is kept who has which chunks as they were sealed
abbrev pub learned : State → ℕ → ℕ → List ℕ → Turn
learned s server epoch handles =
    if nat_lt epoch s.durable.epoch then sends s (next_epoch s.durable server epoch)
    else if is_rolling s.durable.phase && (epoch == s.durable.epoch)
    then turned s (record { records = []; changes = changes.Restored server handles ∷ []; sent = []; said = None })
    else unmoved s

-- ---- reports

-- a replica is dropped that nothing is known of, or that isn't at home
abbrev pub is_stray : Option Chunk → ℕ → Bool
is_stray None server = true
is_stray (Some c) server = not (is_at_home c server)

abbrev pub drops : State → ℕ → List Reported → List Message
drops s server reported =
    map (λ (r : Reported). about r.handle (chunks.Drop s.durable.epoch r.promise) server) (filter (λ (r : Reported). is_stray (chunk_at s r.handle) server) reported)

-- a chunk is told as sound
abbrev pub is_told_sound : List Reported → ℕ → Bool
is_told_sound reported chunk = list_any (λ (r : Reported). (r.handle == chunk) && not r.is_bad) reported

abbrev pub is_lost_at : ℕ → Option Chunk → Bool
is_lost_at server None = false
is_lost_at server (Some c) = is_settled_on server c

-- the settled chunks of which the server is a member and doesn't tell that they are sound, ascending
abbrev pub lost : State → ℕ → List Reported → List ℕ
lost s server reported = filter (λ chunk. is_lost_at server (chunk_at s chunk) && not (is_told_sound reported chunk)) (fin.keys s.durable.chunks)

-- chunks are made quiet, if versions are left and the records have room
abbrev pub made_quiet : List ℕ → State → Turn
made_quiet many s = if has_versions s.durable (length many) then if_room s (all_begun s many purposes.Quiet None) (unmoved s) else unmoved s

abbrev pub reported_now : State → ℕ → List Reported → Turn
reported_now s server reported = and_then (sends s (drops s server reported)) (made_quiet (lost s server reported))

-- a server that is behind is told so, and nothing else; while rolling back nothing is dropped and nothing begun
abbrev pub reported : State → ℕ → ℕ → List Reported → Turn
reported s server epoch replicas =
    if nat_lt epoch s.durable.epoch then sends s (next_epoch s.durable server epoch)
    else if may_begin s.durable.phase && (epoch == s.durable.epoch) then reported_now s server replicas
    else unmoved s

-- a member has a block without its digest; its stamp isn't looked at
abbrev pub damaged : State → ℕ → ℕ → Turn
damaged s server chunk =
    if may_begin s.durable.phase && is_lost_at server (chunk_at s chunk) then made_quiet (chunk ∷ []) s else unmoved s

-- ---- examples

how_the_first_epoch_ended : end_told 2 0 (slice_get (ends.Prepare ∷ []) 0) ≡ post (nodes.Server 2) (bodies.Epoch 1 ends.Prepare) ∷ []
how_the_first_epoch_ended = refl

abbrev a_prepared_chunk : Prepared
a_prepared_chunk = record { view = record { stamp = record { epoch = 0; version = 5 }; count = 2; members = 0 ∷ 1 ∷ []; term = None }; holders = 3 ∷ [] }

a_prepared_source : is_with_sealed Upgrade (Some a_prepared_chunk) 1 ≡ true
a_prepared_source = refl

a_holder_as_source : is_with_sealed Upgrade (Some a_prepared_chunk) 3 ≡ true
a_holder_as_source = refl

a_source_that_came_since : is_with_sealed Upgrade (Some a_prepared_chunk) 2 ≡ false
a_source_that_came_since = refl

no_image_without_an_upgrade : is_with_sealed Ordinary (Some a_prepared_chunk) 1 ≡ false
no_image_without_an_upgrade = refl

a_replica_of_nothing : is_stray None 0 ≡ true
a_replica_of_nothing = refl

abbrev moving_to_2 : Chunk
moving_to_2 = record {
  settled = Some (record { view = a_prepared_chunk.view; is_moving = true });
  asking = Some (asking_for (record { epoch = 1; version = 8 }) (purposes.Copy 2) (0 ∷ 1 ∷ []) None);
}

a_target_is_at_home : is_stray (Some moving_to_2) 2 ≡ false
a_target_is_at_home = refl

another_is_not : is_stray (Some moving_to_2) 3 ≡ true
another_is_not = refl

what_moves_is_not_begun : is_settled_on 0 moving_to_2 ≡ false
what_moves_is_not_begun = refl

told_as_bad : is_told_sound (record { handle = 7; promise = record { epoch = 0; version = 5 }; is_bad = true } ∷ []) 7 ≡ false
told_as_bad = refl
