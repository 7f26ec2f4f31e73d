-- A live replica stays, over runs.
use Rattle.std.proofs.Common.{◌≡◌, ◌∙◌, ℕ, Bool, true, false, List, [], ◌∷◌, Option, Some, None, refl, sym, ap, subst, slice_get, slice_set}
use Rattle.std.specs.Prelude.{if◌then◌else◌, is_some, nat_eq}
use Rattle.std.proofs.lemmas.Bool.{eq-eqb, eqb-true, false≢true}
use Rattle.gs_msg.specs.declared.message.Message.{Message}
use Rattle.gs_server.specs.Runs as at_server
use Rattle.gs_server.specs.Runs.{BecomesBy, slot_in}
use Rattle.gs_server.specs.Servers.{Server}
use Rattle.gs_laws_server.specs.servers.Calling.{call_by}
use Rattle.gs_store.specs.Slots.{Slot}
use Rattle.gs_world.specs.Histories.{History}
use Rattle.gs_world.specs.Runs.{Step}
use Rattle.gs_laws_chunks.proofs.lemmas.accounts.Holding.{reach_more}
use Rattle.gs_laws_chunks.proofs.lemmas.accounts.Intact.{heard_event, same_number, set_other}
use Rattle.gs_laws_chunks.proofs.lemmas.accounts.SeeingThrough.{reached_well}
use Rattle.gs_laws_chunks.proofs.lemmas.accounts.Told.{named}
use Rattle.gs_laws_chunks.proofs.lemmas.accounts.Well.{IsWell}
use Rattle.gs_laws_chunks.specs.accounts.Accounts.{Account}
use Rattle.gs_laws_chunks.specs.accounts.Moving.{event_at}
use Rattle.gs_laws_chunks.specs.accounts.Running.{IsReached, Runs, Setup, StepsWithin}
use Rattle.gs_laws_chunks.proofs.lemmas.replicas.Calls.{live_by}
use Rattle.gs_laws_chunks.specs.replicas.Kept.{HasReplica, LeavesLive, ReplicasStay, takes_at}
use Rattle.gs_laws_lift.proofs.lemmas.stores.Placing.{kind_of}
use Rattle.gs_laws_lift.proofs.lemmas.stores.Serving.{set_found}
use Rattle.gs_laws_lift.specs.stores.Going.{Beats, Damages, Elsewhere, Hears, IsMet, Kind, Loses, OfMaster, OfServer, Restarts, ServerGoes, Ticks}

-- what an event at a server makes of a chunk's slot is what one call of it makes
abbrev pub EventsCall : Type 0
EventsCall = (handle : ℕ) (e : at_server.Event) (s : Server) → BecomesBy s.block s.chunk (slot_in handle s) (call_by handle e s) (slot_in handle (at_server.behind e s))

one_server : (o : Option Server) (s t : Server) → o ≡ Some s → o ≡ Some t → s ≡ t
one_server o s t one other = cc

module _ (law : EventsCall) {D : Type 0} (x : Setup D) (chunk server : ℕ) where
  abbrev Leaves : Step → History D → Type 0
  Leaves step old = takes_at chunk (event_at step old.sent server) (slice_get old.nodes.servers server) ≡ false

  module _ (step : Step) (old : History D) (s : Server) (at : slice_get old.nodes.servers server ≡ Some s) (live : is_some (slot_in chunk s).live ≡ true) (leaves : Leaves step old) where
    -- at an event that comes to it
    by_event : (event : at_server.Event) (after : Server) → after ≡ at_server.behind event s → event_at step old.sent server ≡ Some event → is_some (slot_in chunk after).live ≡ true
    by_event event after is comes =
        let kept = subst (λ (o : Option Server). takes_at chunk (Some event) o ≡ false) at (subst (λ (o : Option at_server.Event). takes_at chunk o (slice_get old.nodes.servers server) ≡ false) comes leaves) in
        subst (λ (t : Server). is_some (slot_in chunk t).live ≡ true) (sym is) (live_by s.block s.chunk (slot_in chunk s) live (call_by chunk event s) (slot_in chunk (at_server.behind event s)) kept (law chunk event s))

    -- at one that makes no call
    by_calm : (event : at_server.Event) (after : Server) → after ≡ at_server.behind event s → call_by chunk event s ≡ None → is_some (slot_in chunk after).live ≡ true
    by_calm event after is none =
        let same : slot_in chunk (at_server.behind event s) ≡ slot_in chunk s = subst (λ o. BecomesBy s.block s.chunk (slot_in chunk s) o (slot_in chunk (at_server.behind event s))) none (law chunk event s) in
        ap (λ (t : Server). is_some (slot_in chunk t).live) is ∙ ap (λ (slot : Slot). is_some slot.live) same ∙ live

    own_live : (after : Server) (messages : List Message) (goes : ServerGoes old.sent server s after messages) → IsMet step goes → is_some (slot_in chunk after).live ≡ true
    own_live after messages (Hears message moment was to is sends) (msg, there, comes) = by_event (at_server.Hears message moment) after is (heard_event step old.sent server msg message moment there to comes)
    own_live after messages (Ticks moment is sends) met = by_calm (at_server.Ticks moment) after is refl
    own_live after messages (Beats is sends) met = ap (λ (t : Server). is_some (slot_in chunk t).live) is ∙ live
    own_live after messages (Restarts is sends) met = by_calm at_server.Restarts after is refl
    own_live after messages (Loses handle is sends) (moment, comes) =
        by_event (at_server.Loses handle) after is (ap (λ (y : Step). event_at y old.sent server) comes ∙ ap (λ b. if b then Some (at_server.Loses handle) else None) (same_number server))
    own_live after messages (Damages handle block is sends) (moment, comes) =
        by_event (at_server.Damages handle block) after is (ap (λ (y : Step). event_at y old.sent server) comes ∙ ap (λ b. if b then Some (at_server.Damages handle block) else None) (same_number server))

  module _ (step : Step) (old new : History D) (well : IsWell x old) (one : StepsWithin x step old new) (has : HasReplica x chunk server old) (leaves : Leaves step old) where
    unmoved : new.nodes.servers ≡ old.nodes.servers → HasReplica x chunk server new
    unmoved servers = record { s = has.s; there = ap (λ xs. slice_get xs server) servers ∙ has.there; live = has.live }

    at_own : (id : ℕ) → id ≡ server → (s after : Server) (messages : List Message) → slice_get old.nodes.servers id ≡ Some s → (goes : ServerGoes old.sent id s after messages) → IsMet step goes → is_some (slot_in chunk after).live ≡ true
    at_own id same s after messages =
        subst (λ i. slice_get old.nodes.servers i ≡ Some s → (goes : ServerGoes old.sent i s after messages) → IsMet step goes → is_some (slot_in chunk after).live ≡ true) (sym same)
        (λ found goes met. own_live step old s found (subst (λ (t : Server). is_some (slot_in chunk t).live ≡ true) (one_server (slice_get old.nodes.servers server) has.s s has.there found) has.live) leaves after messages goes met)

    by_kind : Kind x.seen x.failures x.armed step old new → HasReplica x chunk server new
    by_kind (OfServer id s after messages moment found goes met servers master posted) = by_place (nat_eq server id) refl
      where
        by_place : (t : Bool) → nat_eq server id ≡ t → HasReplica x chunk server new
        by_place true is =
            let same : server ≡ id = eqb-true server id is in record {
              s = after;
              there = ap (λ xs. slice_get xs server) servers ∙ subst (λ n. slice_get (slice_set old.nodes.servers id after) n ≡ Some after) (sym same) (set_found old.nodes.servers id s after found);
              live = at_own id (sym same) s after messages found goes met;
            }
        by_place false is = record { s = has.s; there = ap (λ xs. slice_get xs server) servers ∙ set_other old.nodes.servers id server after (λ same. false≢true (sym is ∙ eq-eqb server id same)) ∙ has.there; live = has.live }
    by_kind (OfMaster place messages moment goes servers master posted) = unmoved servers
    by_kind (Elsewhere by messages moment are servers master posted) = unmoved servers

    step_live : HasReplica x chunk server new
    step_live = by_kind (kind_of x.seen x.failures x.armed step old new one.goes (named x step old one.within well.types))

  stays : (steps : List Step) (old : History D) (a : Account) (new : History D) (b : Account) → IsReached x old a → (runs : Runs x steps old a new b) → HasReplica x chunk server old → LeavesLive x chunk server steps old a new b runs → HasReplica x chunk server new
  stays [] old a new b r (is, same) has leaves = subst (HasReplica x chunk server) (sym is) has
  stays (step ∷ steps) old a new b r (mid, c, moves, rest) has leaves =
      stays steps mid c new b (reach_more x old mid a c (step ∷ []) r (mid, c, moves, (refl, refl))) rest (step_live step old mid (reached_well x old a r) moves.steps has leaves.0) leaves.1

pub replicas_stay : EventsCall → {D : Type 0} (x : Setup D) → ReplicasStay x
replicas_stay law x now later a b steps chunk server r runs has leaves = stays law x chunk server steps now a later b r runs has leaves
