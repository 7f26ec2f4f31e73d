-- What happens at a server is some events of the machine of a chunk, and the store is shown behind it.
use Rattle.std.proofs.Common.{◌≡◌, ◌≢◌, ◌∙◌, ◌⊎◌, ℕ, zero, suc, Bool, true, false, List, [], ◌∷◌, Option, Some, None, refl, sym, ap, subst, inl, inr, slice_get, slice_set, arith}
use Rattle.std.specs.Prelude.{nat_eq, Contains}
use Rattle.std.specs.List.{AllByRecursion}
use Rattle.std.proofs.lemmas.Bool.{eqb-true}
use Rattle.gs_base.specs.declared.config.Config.{Config}
use Rattle.gs_base.specs.declared.numbers.Moment.{Moment}
use Rattle.gs_base.specs.declared.numbers.ReqId.{ReqId}
use Rattle.gs_msg.specs.declared.message.Message.{Message}
use Rattle.gs_msg.specs.declared.node.NodeId.TheVariants as ids
use Rattle.gs_server.specs.Runs as at_server
use Rattle.gs_server.specs.Runs.{slot_in}
use Rattle.gs_server.specs.Servers as servers
use Rattle.gs_server.specs.Servers.{Server, place_of}
use Rattle.gs_nodes.specs.declared.place.MasterPlace.{MasterPlace}
use Rattle.gs_nodes.specs.declared.place.MasterPlace.TheVariants.{Standing, Closed, Away}
use Rattle.gs_world.specs.Histories.{History}
use Rattle.gs_world.specs.Sent.{IsSent}
use Rattle.gs_laws_chunk.specs.machine.Machine.{ChunkWorld}
use Rattle.gs_laws_chunk.specs.machine.Machine as machine
use Rattle.gs_laws_chunk.specs.machine.Laws.{IsReached}
use Rattle.gs_laws_parts.specs.server.Showing.{Setting, ShowsPlace, setting_of}
use Rattle.gs_laws_parts.specs.server.Telling.{BringsCopy, ServersTell}
use Rattle.gs_laws_parts.specs.server.Answering.{AnswersOf, IsByServer, handle_in}
use Rattle.gs_laws_parts.specs.server.Causes.{Calm, Cause, cause_by, cause_in}
use Rattle.gs_laws_parts.specs.server.Moving.{IsShown, IsSteps, IsToldApart}
use Rattle.gs_laws_parts.proofs.lemmas.server.Beside.{place_beside}
use Rattle.gs_laws_parts.proofs.lemmas.server.Prepared.{none_prepared}
use Rattle.gs_laws_parts.proofs.lemmas.server.Renaming.{message_steps}
use Rattle.gs_laws_parts.proofs.lemmas.server.Resting.{epochs_known}
use Rattle.gs_laws_parts.proofs.lemmas.server.Steps.{beat_steps, restart_steps}
use Rattle.gs_laws_parts.proofs.lemmas.server.Ticks.{damage_steps, lose_steps, tick_steps}
use Rattle.gs_laws_parts.specs.master.Showing.{ShowsDurable}
use Rattle.gs_laws_parts.proofs.lemmas.master.Sending.{shows_more}
use Rattle.gs_world.specs.Runs.{Step}
use Rattle.gs_laws_lift.specs.stores.Going.{about_of, cause_at, Beats, Damages, Hears, Loses, Posts, Restarts, ServerGoes, Ticks, IsMet}
use Rattle.gs_laws_lift.specs.stores.Joint.{AtServer, GoesTo}
use Rattle.gs_laws_lift.specs.stores.Showing.{AreToldApart, IsServer, Keeps, ShowsMaster, ShowsNodes, setting}
use Rattle.gs_laws_lift.proofs.lemmas.stores.Joint.{body_grown}
use Rattle.gs_laws_parts.proofs.lemmas.server.Resting.{leads_whole}
use Rattle.gs_laws_lift.proofs.lemmas.stores.Posting.{posted_all, sent_then}

-- ---- one of several

differ : (a b : ℕ) → a ≢ b → nat_eq a b ≡ false
differ a b never = by_test (nat_eq a b) refl
  where
    by_test : (t : Bool) → nat_eq a b ≡ t → t ≡ false
    by_test true is = absurd (never (eqb-true a b is))
    by_test false is = refl

-- of the servers with one in a place it is this one, or one of before
pub set_cases : {X : Type 0} (xs : List X) (i j : ℕ) (y x : X) → slice_get (slice_set xs i y) j ≡ Some x → ((j ≡ i) × (x ≡ y)) ⊎ ((j ≢ i) × (slice_get xs j ≡ Some x))
set_cases [] i j y x is = absurd (cc)
set_cases (z ∷ xs) zero zero y x is = inl (refl, (cc))
set_cases (z ∷ xs) zero (suc j) y x is = inr ((λ same. absurd (cc)), is)
set_cases (z ∷ xs) (suc i) zero y x is = inr ((λ same. absurd (cc)), is)
set_cases (z ∷ xs) (suc i) (suc j) y x is = elim (set_cases xs i j y x is) [
  | inl here ↦ inl (ap suc here.0, here.1)
  | inr there ↦ inr ((λ same. there.0 (omega arith)), there.1)
]

pub set_found : {X : Type 0} (xs : List X) (i : ℕ) (x y : X) → slice_get xs i ≡ Some x → slice_get (slice_set xs i y) i ≡ Some y
set_found [] i x y is = absurd (cc)
set_found (z ∷ xs) zero x y is = refl
set_found (z ∷ xs) (suc i) x y is = set_found xs i x y is

as_steps : (cause : Cause) (c : Setting) (chunk : ℕ) (w : ChunkWorld) (me : ℕ) (about : Option ℕ) (x after : Server) (y messages : List Message) → after ≡ x → messages ≡ y → IsSteps cause c chunk w me about x y → IsSteps cause c chunk w me about after messages
as_steps cause c chunk w me about x after y messages is sends steps = subst (λ t. IsSteps cause c chunk w me about t messages) (sym is) (subst (λ ms. IsSteps cause c chunk w me about x ms) (sym sends) steps)

-- a server says none of what the master or clients say
pub by_server : (cause : Cause) (c : Setting) (chunk : ℕ) (v : ChunkWorld) (me : ℕ) (about : Option ℕ) (messages : List Message) → AllByRecursion (AnswersOf cause c chunk v me about) messages → AllByRecursion (λ (m : Message). IsByServer m.body) messages
by_server cause c chunk v me about [] all = tt
by_server cause c chunk v me None (m ∷ messages) all = (all.0.0, by_server cause c chunk v me None messages all.1)
by_server cause c chunk v me (Some handle) (m ∷ messages) all = (all.0.0, by_server cause c chunk v me (Some handle) messages all.1)

module _ {D : Type 0} (seen : D → List ℕ) where
  -- the master is shown still where nothing of its part changes
  pub master_same : (chunk : ℕ) (place : MasterPlace D) (w v : ChunkWorld) → ((x : machine.Sent) → Contains w.sent x → Contains v.sent x) → v.entry ≡ w.entry → ShowsMaster seen chunk place w → ShowsMaster seen chunk place v
  master_same chunk (Standing m) w v stays same shows = shows_more chunk w v stays m.state same shows
  master_same chunk (Closed first second) w v stays same shows = record { durable = shows.durable; kept = shows.kept; counters = shows.counters; told = shows.told; shows = subst (ShowsDurable chunk shows.durable) (sym same) shows.shows }
  master_same chunk Away w v stays same shows = shows

module _ {D : Type 0} (seen : D → List ℕ) (config : Config) (bytes : ReqId → List ℕ) where
  pub setting_same : (born id : ℕ) (s : Server) → IsServer config id s → setting_of bytes born s ≡ setting config bytes born
  setting_same born id s k = let block = k.block in let size = k.size in λ i. record { block = block i; size = size i; bytes = bytes; born = born }

  module _ (born chunk : ℕ) (old : History D) (w : ChunkWorld) (reached : IsReached w) (shows : ShowsNodes config bytes born chunk old w) (keeps : Keeps config bytes old) (apart : AreToldApart chunk old w) where
    -- a server is shown
    pub is_shown : (id : ℕ) (s : Server) → slice_get old.nodes.servers id ≡ Some s → IsShown (setting_of bytes born s) chunk w s
    is_shown id s found =
        let k = keeps.servers id s found in record {
          reached = k.reached;
          shows =
              subst (λ n. ShowsPlace (setting_of bytes born s) w.known s.kept.epoch (place_of chunk s) (w.members n)) (sym k.me)
              (subst (λ c. ShowsPlace c w.known s.kept.epoch (place_of chunk s) (w.members id)) (sym (setting_same born id s k)) (shows.members id s found));
          buffers = λ r b there. keeps.buffers id s found r b there;
          apart = subst (λ n. IsToldApart s.block s.chunk (slot_in chunk s) (w.members n)) (sym k.me) (apart id s found);
          whole = leads_whole w reached s.me;
          known = epochs_known w reached;
        }

    -- what was told is told to it
    pub was_told : (id : ℕ) (s : Server) → slice_get old.nodes.servers id ≡ Some s → (message : Message) → IsSent message old.sent → ServersTell (setting_of bytes born s) chunk w message
    was_told id s found message was = subst (λ c. ServersTell c chunk w message) (sym (setting_same born id s (keeps.servers id s found))) (shows.sent was.0 message was.1)

    -- what happens at it is some events of the machine
    pub steps_at : (id : ℕ) (s after : Server) (messages : List Message) → slice_get old.nodes.servers id ≡ Some s → (goes : ServerGoes old.sent id s after messages)
        → ((message : Message) → IsSent message old.sent → message.to ≡ ids.Server id → BringsCopy (setting_of bytes born s) chunk w s message.body) → IsSteps (cause_at chunk goes) (setting_of bytes born s) chunk w s.me (about_of goes) after messages
    steps_at id s after messages found (Hears message moment was to is sends) brings =
        let k = keeps.servers id s found in
        as_steps (cause_in chunk message.body) (setting_of bytes born s) chunk w s.me (handle_in message.body) (servers.handle s message moment).after after (servers.handle s message moment).sent messages is sends
        (message_steps bytes born chunk w s (is_shown id s found) message moment (to ∙ ap ids.Server (sym k.me)) (was_told id s found message was) (brings message was to))
    steps_at id s after messages found (Ticks moment is sends) brings =
        as_steps Calm (setting_of bytes born s) chunk w s.me None (servers.tick s moment).after after (servers.tick s moment).sent messages is sends (tick_steps bytes born chunk w s (is_shown id s found) moment)
    steps_at id s after messages found (Beats is sends) brings = as_steps Calm (setting_of bytes born s) chunk w s.me None s after (servers.beat s ∷ []) messages is sends (beat_steps bytes born chunk w s (is_shown id s found))
    steps_at id s after messages found (Restarts is sends) brings = as_steps Calm (setting_of bytes born s) chunk w s.me None (servers.restart s) after [] messages is sends (restart_steps bytes born chunk w s (is_shown id s found))
    steps_at id s after messages found (Loses handle is sends) brings =
        as_steps (cause_by chunk (at_server.Loses handle) s) (setting_of bytes born s) chunk w s.me None (at_server.behind (at_server.Loses handle) s) after [] messages is sends (lose_steps bytes born chunk w s (is_shown id s found) handle)
    steps_at id s after messages found (Damages handle block is sends) brings =
        as_steps (cause_by chunk (at_server.Damages handle block) s) (setting_of bytes born s) chunk w s.me None (at_server.behind (at_server.Damages handle block) s) after [] messages is sends (damage_steps bytes born chunk w s (is_shown id s found) handle block)

    -- and the store is shown then
    pub steps_show : ShowsMaster seen chunk old.nodes.master w → (step : Step) (new : History D) (id : ℕ) (s after : Server) (messages : List Message) (moment : Moment) → slice_get old.nodes.servers id ≡ Some s → (goes : ServerGoes old.sent id s after messages) → IsMet step goes → IsServer config id after
        → IsSteps (cause_at chunk goes) (setting_of bytes born s) chunk w s.me (about_of goes) after messages → new.nodes.servers ≡ slice_set old.nodes.servers id after → new.nodes.master ≡ old.nodes.master → Posts moment (ids.Server id) messages old.sent new.sent
        → GoesTo seen config bytes born chunk step (about_of goes) old w new
    steps_show known step new id s after messages moment found goes met k_after there servers master posted = record {
      world = v;
      leads = steps.leads;
      shows = record {
        members = λ j x at. by_place j x (set_cases old.nodes.servers id j after x (subst (λ xs. slice_get xs j ≡ Some x) servers at));
        master = subst (λ place. ShowsMaster seen chunk place v) (sym master) (master_same seen chunk old.nodes.master w v steps.stays steps.entry known);
        sent = posted_all (ServersTell c chunk v) moment (ids.Server id) messages old.sent new.sent posted
            (sent_then (ServersTell c chunk w) (ServersTell c chunk v) old.sent (λ message tells. body_grown c chunk w v steps.stays message.from message.to message.body tells) shows.sent) steps.tells;
      };
      by = AtServer (record { id = id; server = s; after = after; messages = messages; moment = moment; found = found; goes = goes; met = met; servers = servers; master = master; posted = posted; steps = steps; world = refl });
      heard = refl;
    }
      where
        k : IsServer config id s
        k = keeps.servers id s found

        c : Setting
        c = setting config bytes born

        steps : IsSteps (cause_at chunk goes) c chunk w id (about_of goes) after messages
        steps =
            subst (λ n. IsSteps (cause_at chunk goes) c chunk w n (about_of goes) after messages) k.me
            (subst (λ d. IsSteps (cause_at chunk goes) d chunk w s.me (about_of goes) after messages) (setting_same born id s k) there)

        v : ChunkWorld
        v = steps.world

        this_one : ShowsPlace c v.known after.kept.epoch (place_of chunk after) (v.members id)
        this_one =
            subst (λ n. ShowsPlace c v.known after.kept.epoch (place_of chunk after) (v.members n)) k_after.me steps.shows

        by_place : (j : ℕ) (x : Server) → ((j ≡ id) × (x ≡ after)) ⊎ ((j ≢ id) × (slice_get old.nodes.servers j ≡ Some x)) → ShowsPlace c v.known x.kept.epoch (place_of chunk x) (v.members j)
        by_place j x (inl (here, is)) =
            subst (λ n. ShowsPlace c v.known x.kept.epoch (place_of chunk x) (v.members n)) (sym here)
            (subst (λ (y : Server). ShowsPlace c v.known y.kept.epoch (place_of chunk y) (v.members id)) (sym is) this_one)
        by_place j x (inr (differs, there)) =
            place_beside w v reached steps.leads c j x.kept.epoch (place_of chunk x) (steps.others j (differ j id differs))
            (λ new. absurd (none_prepared w v (ap (λ (e : machine.Entry). e.epoch) steps.entry) new)) (shows.members j x there)
