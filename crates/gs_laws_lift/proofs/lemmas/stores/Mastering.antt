-- Each server is shown still behind what the master does, also where it is marked at a prepare; and what the master hears was said in the machine.
use Rattle.std.proofs.Common.{◌≡◌, ◌≢◌, ◌∙◌, ◌⊎◌, ◌+◌, ◌<◌, ◌≤◌, ◌&&◌, ◌||◌, not, ℕ, Bool, true, false, List, Option, Some, None, refl, sym, ap, subst, inl, inr, slice_get}
use Rattle.std.specs.Prelude.{is_none, is_some}
use Rattle.std.proofs.lemmas.Bool.{cases_lt, false≢true}
use Rattle.gs_base.specs.declared.config.Config.{Config}
use Rattle.gs_base.specs.declared.epoch.EpochEnd.{EpochEnd}
use Rattle.gs_base.specs.declared.epoch.EpochEnd.TheVariants as ends
use Rattle.gs_base.specs.declared.numbers.ReqId.{ReqId}
use Rattle.gs_base.specs.declared.refusal.Refusal.{Refusal}
use Rattle.gs_msg.specs.declared.body.Body.{Body}
use Rattle.gs_msg.specs.declared.message.Message.{Message}
use Rattle.gs_msg.specs.declared.node.NodeId.{NodeId}
use Rattle.gs_msg.specs.declared.node.NodeId.TheVariants as ids
use Rattle.gs_replica.specs.Seals.{Sealed, lowest_damaged}
use Rattle.gs_replica.specs.Stands.{Edit}
use Rattle.gs_server.specs.Runs.{slot_in}
use Rattle.gs_server.specs.Servers.{Server, place_of}
use Rattle.gs_master_spec.specs.Durable.{Durable}
use Rattle.gs_master_spec.specs.State.{State, Turn}
use Rattle.gs_store.specs.Slots.{Live, Slot, sealed_of}
use Rattle.gs_store.specs.Standing.{LiveUndamaged}
use Rattle.gs_world.specs.Histories.{History}
use Rattle.gs_world.specs.Sent.{IsSent}
use Rattle.gs_laws_chunk.specs.machine.Machine.{Member, ChunkWorld}
use Rattle.gs_laws_chunk.specs.machine.Events.{Leads, marked}
use Rattle.gs_laws_chunk.specs.machine.Laws.{IsReached}
use Rattle.gs_laws_parts.specs.server.Showing.{SealCounts, SealUndamaged, Setting, ShowsLive, ShowsPlace}
use Rattle.gs_laws_parts.specs.server.Telling.{TellsBody}
use Rattle.gs_laws_parts.proofs.lemmas.server.Beside.{place_by_marks}
use Rattle.gs_laws_parts.specs.master.Showing.{ShowsDurable}
use Rattle.gs_laws_parts.specs.master.Telling.{Marks, Says}
use Rattle.gs_laws_parts.specs.master.Telling as entry
use Rattle.gs_laws_moves.specs.moves.Asked.{WasHeard}
use Rattle.gs_laws_moves.specs.moves.Guards.{Heard, IsMade}
use Rattle.gs_laws_moves.specs.moves.Laws.{said_from}
use Rattle.gs_laws_moves.specs.moves.Epochs.{ByItself, Closes, EndsOnce, Within, closes, is_alone}
use Rattle.gs_laws_moves.specs.moves.Moves.{Chain, Move, Moves, Rests, Then, move_turn}
use Rattle.gs_laws_parts.specs.master.Chains.{AreLive}
use Rattle.gs_laws_lift.specs.stores.Showing.{ShowsStore, is_live_whole, is_no_rollback, is_over, is_seal_whole, is_whole_at, is_whole_there, setting, whole_in}
use Rattle.gs_laws_lift.proofs.lemmas.stores.Joint.{call_says, says_of_tells}
use Rattle.gs_laws_lift.proofs.lemmas.stores.Machines.{current_is, how_is, reached_then}

pub not_true : (b : Bool) → not b ≡ true → b ≡ false
not_true true is = absurd (false≢true is)
not_true false is = refl

pub nothing : {A : Type 0} (o : Option A) → is_none o ≡ true → o ≡ None
nothing None is = refl
nothing (Some x) is = absurd (false≢true is)

-- ---- chains

-- what a turn says to nobody is left open
said_other : (config : Config) (P : State → Move → Type 0) (s : State) (t : Turn) (said : Option Refusal) → Chain config P s t → Chain config P s (record t { said = said })
said_other config P s t said (Rests u before) = Rests u said
said_other config P s t said (Moves u move before made) = Moves u move said made
said_other config P s t said (Then u first next a b) = Then u (record first { said = None }) (record next { said = said }) (said_other config P u first None a) (said_other config P first.after next said b)

pub said_once : (config : Config) (heard : Heard) (s : State) (t : Turn) (said : Option Refusal) → EndsOnce config (IsMade config heard) s t → EndsOnce config (IsMade config heard) s (record t { said = said })
said_once config heard s t said (Within u v chain) = Within s (record t { said = said }) (said_other config (λ u move. IsMade config heard u move × (is_alone move ≡ false)) s t said chain)
said_once config heard s t said (ByItself u move before made is) = ByItself s move said made is
said_once config heard s t said (Closes u move before next made is chain) =
    Closes s move None (record next { said = said }) made is (said_other config (λ u move. IsMade config heard u move × (closes move ≡ true)) (move_turn config s move).after next said chain)

-- ---- who is marked at a prepare

pub both : (a b : Bool) → (a && b) ≡ true → (a ≡ true) × (b ≡ true)
both true true is = (refl, refl)
both true false is = absurd (false≢true is)
both false b is = absurd (false≢true is)

either : (a b : Bool) → (a || b) ≡ true → (a ≡ true) ⊎ (b ≡ true)
either true b is = inl refl
either false b is = inr is

none_of : (o : Option ℕ) → is_none o ≡ true → o ≡ None
none_of None is = refl
none_of (Some x) is = absurd (false≢true is)

live_whole : (o : Option Live) → is_live_whole o ≡ true → LiveUndamaged o × (is_some o ≡ true)
live_whole None is = absurd (false≢true is)
live_whole (Some l) is = (none_of (lowest_damaged l.replica.held.chunk) is, refl)

seal_whole : (o : Option Sealed) → is_seal_whole o ≡ true → SealUndamaged o
seal_whole None is = tt
seal_whole (Some t) is = none_of (lowest_damaged t.undone) is

no_rollback : (o : Option EpochEnd) → is_no_rollback o ≡ true → (end : EpochEnd) × (o ≡ Some end) × (end ≢ ends.Rollback)
no_rollback None is = absurd (false≢true is)
no_rollback (Some ends.Rollback) is = absurd (false≢true is)
no_rollback (Some ends.Prepare) is = (ends.Prepare, refl, λ same. absurd (cc))
no_rollback (Some ends.Finalize) is = (ends.Finalize, refl, λ same. absurd (cc))

-- what is sealed at a server of an epoch that is over can't be rolled back to
over_counts : (chunk : ℕ) (d : Durable) (v : ChunkWorld) (epoch : ℕ) → IsReached v → ShowsDurable chunk d v.entry → is_over d epoch ≡ true → SealCounts v.known epoch → ⊥
over_counts chunk d v epoch reached shows over counts =
    let x = no_rollback (slice_get d.ends epoch) over in
    let h = shows.how epoch x.0 x.1 in
    let within : epoch + 1 ≤ v.known.current = subst (λ n. epoch + 1 ≤ n) (sym (current_is v reached)) h.0 in
    x.2 (sym h.1 ∙ sym (how_is v reached (epoch + 1)) ∙ counts within)

module _ (config : Config) (bytes : ReqId → List ℕ) (born chunk : ℕ) where
  abbrev c : Setting
  c = setting config bytes born

  live_shown : (s : Slot) (m : Member) → ShowsLive c s m.live → is_some s.live ≡ true → is_some m.live ≡ true
  live_shown s m shows is = by_live m.live shows
    where
      by_live : (o : Option (List Edit)) → ShowsLive c s o → is_some o ≡ true
      by_live None none = absurd (false≢true (sym (ap is_some none) ∙ is))
      by_live (Some edits) stands = refl

  -- one of an epoch before the birth has nothing live
  whole_epoch : (w : ChunkWorld) (id : ℕ) (s : Server) → ShowsPlace c w.known s.kept.epoch (place_of chunk s) (w.members id) → is_live_whole (slot_in chunk s).live ≡ true → (w.members id).epoch ≡ s.kept.epoch
  whole_epoch w id s shows live = by_cases (cases_lt s.kept.epoch born)
    where
      by_cases : (s.kept.epoch < born) ⊎ (born ≤ s.kept.epoch) → (w.members id).epoch ≡ s.kept.epoch
      by_cases (inl early) = absurd (false≢true (ap (λ (x : Slot). is_live_whole x.live) (sym (shows.early early).1) ∙ live))
      by_cases (inr late) = shows.epoch_is late

  -- ---- behind what the master does

  module _ {D : Type 0} (seen : D → List ℕ) (old : History D) (w : ChunkWorld) (reached : IsReached w) (shows : ShowsStore seen config bytes born chunk old w) where
    -- those that are marked have a live replica
    pub marks_live : (d : Durable) → AreLive (whole_in d chunk old.nodes.servers) w
    marks_live d j is = by_server (slice_get old.nodes.servers j) refl is
      where
        by_server : (o : Option Server) → slice_get old.nodes.servers j ≡ o → is_whole_there d chunk o ≡ true → is_some (w.members j).live ≡ true
        by_server None found whole = absurd (false≢true whole)
        by_server (Some s) found whole =
            live_shown (slot_in chunk s) (w.members j) (shows.members j s found).live
            (live_whole (slot_in chunk s).live (both (is_live_whole (slot_in chunk s).live) (is_seal_whole (sealed_of (slot_in chunk s)) || is_over d s.kept.epoch) whole).0).1

    -- where the machine has gone on to a state of which this is durable, each server is shown still
    pub members_then : (d : Durable) (v : ChunkWorld) → Leads w v → ShowsDurable chunk d v.entry → ((j : ℕ) → entry.IsSameMember (w.members j) (whole_in d chunk old.nodes.servers j) (v.members j)) → Marks (whole_in d chunk old.nodes.servers) w v
        → (id : ℕ) (s : Server) → slice_get old.nodes.servers id ≡ Some s → ShowsPlace c v.known s.kept.epoch (place_of chunk s) (v.members id)
    members_then d v leads durable same marks id s found =
        let is = shows.members id s found in
        place_by_marks w v reached leads c id s.kept.epoch (place_of chunk s) (is_whole_at d chunk s)
        (subst (λ b. entry.IsSameMember (w.members id) b (v.members id)) (ap (is_whole_there d chunk) found) (same id))
        (λ new. subst (λ b. v.members id ≡ marked (w.members id) b) (ap (is_whole_there d chunk) found) (marks new.0 (new.1, new.2, sym (how_is v (reached_then w reached v leads) new.0) ∙ new.3) id))
        (λ whole.
        let parts = both (is_live_whole (slot_in chunk s).live) (is_seal_whole (sealed_of (slot_in chunk s)) || is_over d s.kept.epoch) whole in
        let at : (w.members id).epoch ≡ s.kept.epoch = whole_epoch w id s is parts.0 in (
          (live_whole (slot_in chunk s).live parts.0).0,
          λ counts. elim (either (is_seal_whole (sealed_of (slot_in chunk s))) (is_over d s.kept.epoch) parts.1) [
            | inl sealed ↦ seal_whole (sealed_of (slot_in chunk s)) sealed
            | inr over ↦ absurd (over_counts chunk d v s.kept.epoch (reached_then w reached v leads) durable over (subst (λ n. SealCounts v.known n) at counts))
          ],
        ))
        is

    -- what was heard of a server was said in the machine
    pub heard_so : (message : Message) → IsSent message old.sent → WasHeard (Says chunk w) (said_from message.from message.body)
    heard_so message was = by_from message.from (shows.sent was.0 message was.1)
      where
        by_from : (from : NodeId) → TellsBody c chunk w from message.to message.body → WasHeard (Says chunk w) (said_from from message.body)
        by_from ids.Master tells server body is = absurd (cc)
        by_from (ids.Client client) tells server body is = call_says chunk w client message.body server body is
        by_from (ids.Server from) tells server body is =
            let pair : ◌≡◌ {A = ℕ × Body} (from, message.body) (server, body) = cc in
            subst (λ (x : ℕ × Body). Says chunk w x.0 x.1) pair (says_of_tells c chunk w from message.to message.body tells)
