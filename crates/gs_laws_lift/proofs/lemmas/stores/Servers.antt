-- What happens at a server leaves it one of its number and its sizes, which has begun with nothing.
use Rattle.std.proofs.Common.{◌≡◌, ◌∙◌, ℕ, ◌+◌, ◌++◌, Bool, true, false, cond, List, [], ◌∷◌, Some, Result, Ok, Err, refl, sym, ap, subst}
use Rattle.std.specs.Prelude.{◌==◌}
use Rattle.gs_base.specs.declared.config.Config.{Config}
use Rattle.gs_base.specs.declared.epoch.EpochEnd.{EpochEnd}
use Rattle.gs_base.specs.declared.numbers.Moment.{Moment}
use Rattle.gs_base.specs.declared.refusal.Refusal.{Refusal}
use Rattle.gs_msg.specs.declared.body.Body.{Body}
use Rattle.gs_msg.specs.declared.body.Body.TheVariants as bodies
use Rattle.gs_msg.specs.declared.message.Message.{Message}
use Rattle.gs_msg.specs.declared.node.NodeId.{NodeId}
use Rattle.gs_server.specs.Runs.{Event, Hears as HearsIt, Ticks as TicksAt, Restarts as RestartsAt, Loses as LosesIt, Damages as DamagesIt, IsReached, behind, behind_all, unless_refused}
use Rattle.gs_server.specs.Servers.{Server, learn, learned, new, with_leases, with_store, leases_after, store_of}
use Rattle.gs_server.specs.Servers as servers
use Rattle.gs_server.proofs.Behind.{event_sizes}
use Rattle.gs_msg.specs.declared.node.NodeId.TheVariants as nodes
use Rattle.gs_base.specs.declared.refusal.Refusal.TheVariants as refusals
use Rattle.gs_server_lease.specs.Leases.{tell}
use Rattle.gs_store.specs.Stores as stores
use Rattle.gs_world.specs.Sent.{Sent}
use Rattle.gs_laws_lift.specs.stores.Going.{Beats, Damages, Hears, Loses, Restarts, ServerGoes, Ticks}
use Rattle.gs_laws_lift.specs.stores.Showing.{IsServer}

-- ---- its number

in_store_me : (s : Server) (r : Result stores.Store Refusal) → (unless_refused s (servers.in_store s r)).me ≡ s.me
in_store_me s (Ok t) = refl
in_store_me s (Err e) = refl

learn_me : (s : Server) (epoch : ℕ) (end : EpochEnd) → (learn s epoch end).after.me ≡ s.me
learn_me s epoch end = by_case (epoch == s.kept.epoch) (epoch == s.kept.epoch + 1)
  where
    went : Server
    went = with_leases (leases_after end s.dropped.leases) (with_store (stores.learned epoch end (store_of s)) s)

    by_case : (a b : Bool) → (cond a (learned s epoch end s) (cond b (learned s epoch end went) (record { after = s; sent = tell s.me nodes.Master (bodies.Behind s.kept.epoch) ∷ []; said = Some (refusals.Epoch s.kept.epoch) }))).after.me ≡ s.me
    by_case true b = refl
    by_case false true = refl
    by_case false false = refl

body_me : (s : Server) (from : NodeId) (body : Body) (moment : Moment) → (servers.handle_body s from body moment).after.me ≡ s.me
body_me s from (bodies.About handle said) moment = refl
body_me s from (bodies.Push req bytes) moment = refl
body_me s from (bodies.MakeCopy handle at new_handle stamp) moment = refl
body_me s from (bodies.Epoch epoch end) moment = learn_me s epoch end
body_me s from (bodies.Call req call) moment = refl
body_me s from (bodies.Reply req result) moment = refl
body_me s from (bodies.Done req result) moment = refl
body_me s from (bodies.Bytes req result) moment = refl
body_me s from (bodies.Report epoch replicas) moment = refl
body_me s from (bodies.Learned epoch handles) moment = refl
body_me s from (bodies.Behind epoch) moment = refl

event_me : (e : Event) (s : Server) → (behind e s).me ≡ s.me
event_me (HearsIt message moment) s = body_me s message.from message.body moment
event_me (TicksAt moment) s = refl
event_me RestartsAt s = refl
event_me (LosesIt handle) s = in_store_me s (stores.lose handle (store_of s))
event_me (DamagesIt handle block) s = in_store_me s (stores.damage handle block (store_of s))

-- ---- behind an event

behind_more : (events : List Event) (e : Event) (s : Server) → behind_all (events ++ e ∷ []) s ≡ behind e (behind_all events s)
behind_more [] e s = refl
behind_more (x ∷ events) e s = behind_more events e (behind x s)

event_reached : (e : Event) (s : Server) → IsReached s → IsReached (behind e s)
event_reached e s r = record {
  me = r.me;
  block = r.block;
  chunk = r.chunk;
  some_block = r.some_block;
  block_fits = r.block_fits;
  chunk_fits = r.chunk_fits;
  events = r.events ++ e ∷ [];
  is = ap (behind e) r.is ∙ sym (behind_more r.events e (new r.me r.block r.chunk));
}

event_server : (config : Config) (id : ℕ) (e : Event) (s : Server) → IsServer config id s → IsServer config id (behind e s)
event_server config id e s k =
    let sizes = event_sizes e s in record {
      me = event_me e s ∙ k.me;
      block = sizes.block ∙ k.block;
      size = sizes.chunk ∙ k.size;
      reached = event_reached e s k.reached;
    }

pub goes_server : (config : Config) (id : ℕ) (sent : Sent) (s after : Server) (messages : List Message) → ServerGoes sent id s after messages → IsServer config id s → IsServer config id after
goes_server config id sent s after messages (Hears message moment was to is sends) k = subst (IsServer config id) (sym is) (event_server config id (HearsIt message moment) s k)
goes_server config id sent s after messages (Ticks moment is sends) k = subst (IsServer config id) (sym is) (event_server config id (TicksAt moment) s k)
goes_server config id sent s after messages (Beats is sends) k = subst (IsServer config id) (sym is) k
goes_server config id sent s after messages (Restarts is sends) k = subst (IsServer config id) (sym is) (event_server config id RestartsAt s k)
goes_server config id sent s after messages (Loses handle is sends) k = subst (IsServer config id) (sym is) (event_server config id (LosesIt handle) s k)
goes_server config id sent s after messages (Damages handle block is sends) k = subst (IsServer config id) (sym is) (event_server config id (DamagesIt handle block) s k)
