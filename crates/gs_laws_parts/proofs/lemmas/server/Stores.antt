-- What a run keeps of one chunk at its servers goes on at each step.
use Rattle.std.proofs.Common.{◌≡◌, ℕ, Bool, List, [], ◌∷◌, ◌++◌, Option, Some, sym, subst}
use Rattle.std.specs.Prelude.{Contains}
use Rattle.std.specs.List.{AllByRecursion}
use Rattle.gs_block.specs.Written.{TellsApart}
use Rattle.gs_msg.specs.declared.message.Message.{Message}
use Rattle.gs_server.specs.Servers.{Server}
use Rattle.gs_server.specs.Runs.{slot_in}
use Rattle.gs_server.specs.Runs as runs
use Rattle.gs_laws_chunk.specs.machine.Machine.{Sent, ChunkWorld}
use Rattle.gs_laws_chunk.specs.machine.Events.{Leads, Rests, born}
use Rattle.gs_laws_chunk.specs.machine.Laws.{Birth, world_of}
use Rattle.gs_laws_chunk.specs.machine.Lists.{ListsAreOld}
use Rattle.gs_laws_chunk.proofs.lemmas.machine.Worlds.{leads_then}
use Rattle.gs_laws_chunk.proofs.lemmas.machine.Lasting.{sent_stays}
use Rattle.gs_laws_parts.specs.server.Showing.{Setting, setting_of, ShowsMember}
use Rattle.gs_laws_parts.specs.server.Unborn.{SaysNothing, IsTimely, IsUnbornAt}
use Rattle.gs_laws_parts.proofs.lemmas.server.Unborn.{born_shows, nothing_tells}
use Rattle.gs_laws_parts.specs.server.Telling.{ServersTell}
use Rattle.gs_laws_parts.specs.server.Moving.{IsShown, IsSteps}
use Rattle.gs_laws_parts.specs.server.Among.{KeepsAmong, ListsAmong}
use Rattle.gs_laws_parts.specs.server.Servers.{with_server, LeavesMembers, IsStore}
use Rattle.gs_laws_parts.specs.server.Causes.{Cause}
use Rattle.gs_laws_parts.proofs.lemmas.server.Lists.{all_append}
use Rattle.gs_laws_parts.proofs.lemmas.server.Beside.{tells_still}
use Rattle.gs_laws_parts.proofs.lemmas.server.Among.{steps_among, old_among, apart_among}
use Rattle.gs_laws_parts.proofs.lemmas.server.Servers.{setting_same, server_shown, stepped_servers, led_servers}

module _ (among : List ℕ → Bool) (c : Setting) (chunk : ℕ) (w : ChunkWorld) (servers : ℕ → Option Server) (sent : List Message) (store : IsStore among c chunk w servers sent) where
  -- what the laws of one server ask for
  pub store_shown : (id : ℕ) (s : Server) → servers id ≡ Some s → TellsApart among → KeepsAmong among c.block (slot_in chunk s) → IsShown (setting_of c.bytes c.born s) chunk w s
  store_shown id s there tells keeps = server_shown c chunk w id s store.reached (store.servers_are id s there) (apart_among among c w id (slot_in chunk s) tells store.reached store.lists keeps)

  all_still : (last : ChunkWorld) → ((x : Sent) → Contains w.sent x → Contains last.sent x) → (ms : List Message) → AllByRecursion (ServersTell c chunk w) ms → AllByRecursion (ServersTell c chunk last) ms
  all_still last stays [] all = tt
  all_still last stays (m ∷ ms) all = (tells_still c chunk w last stays m all.0, all_still last stays ms all.1)

  -- a step of one server, at which it sends these
  pub store_stepped : (cause : Cause) (id : ℕ) (s after : Server) (about : Option ℕ) (new : List Message) → servers id ≡ Some s → (steps : IsSteps cause (setting_of c.bytes c.born s) chunk w s.me about after new) → runs.IsReached after → KeepsAmong among c.block (slot_in chunk after)
      → IsStore among c chunk steps.world (with_server servers id after) (sent ++ new)
  store_stepped cause id s after about new there steps begun keeps =
      let same = setting_same c chunk w id s (store.servers_are id s there) in record {
        reached = (store.reached.0, leads_then _ w steps.world store.reached.1 steps.leads);
        servers_are = stepped_servers c chunk w store.reached servers store.servers_are cause id s after about new there steps begun;
        tells =
            all_append (ServersTell c chunk steps.world) sent new (all_still steps.world steps.stays sent store.tells)
            (subst (λ k. AllByRecursion (ServersTell k chunk steps.world) new) (sym same) steps.tells);
        lists = subst (λ k. ListsAmong among k steps.world) (sym same) (steps_among among (setting_of c.bytes c.born s) cause chunk w s.me about after new steps (subst (λ k. ListsAmong among k w) same store.lists) (subst (λ k. KeepsAmong among k.block (slot_in chunk after)) same keeps));
      }

  -- and the master's, at which this is sent
  pub store_led : (last : ChunkWorld) (whole : ℕ → Bool) (new : List Message) → Leads w last → LeavesMembers chunk w whole last servers → ListsAreOld w last → AllByRecursion (ServersTell c chunk last) new → IsStore among c chunk last servers (sent ++ new)
  store_led last whole new leads leaves old tells = record {
    reached = (store.reached.0, leads_then _ w last store.reached.1 leads);
    servers_are = led_servers c chunk w store.reached servers store.servers_are last whole leads leaves;
    tells = all_append (ServersTell c chunk last) sent new (all_still last (λ x there. sent_stays w last leads x there) sent store.tells) tells;
    lists = old_among among c w last old store.lists;
  }

  -- what clients send
  pub store_told : (new : List Message) → AllByRecursion (ServersTell c chunk w) new → IsStore among c chunk w servers (sent ++ new)
  store_told new tells = record {
    reached = store.reached;
    servers_are = store.servers_are;
    tells = all_append (ServersTell c chunk w) sent new store.tells tells;
    lists = store.lists;
  }

-- ---- at a birth

pub store_born : (among : List ℕ → Bool) (c : Setting) (chunk : ℕ) (b : Birth) (servers : ℕ → Option Server) (sent : List Message) → c.born ≡ b.epoch → ((id : ℕ) (s : Server) → servers id ≡ Some s → IsUnbornAt c chunk id s)
    → AllByRecursion (λ (m : Message). SaysNothing chunk m.body × IsTimely c m.body) sent → ListsAmong among c (world_of b) → IsStore among c chunk (world_of b) servers sent
store_born among c chunk b servers sent at unborn nothing lists = record {
  reached = (b, Rests);
  servers_are = λ id s there.
      let u = unborn id s there in record {
        reached = u.reached;
        me = u.me;
        block = u.block;
        size = u.size;
        shows = subst (λ n. ShowsMember c chunk (born n b.how b.origin) s) at (born_shows c chunk b.how b.origin s u.keeps u.within);
        buffers = u.buffers;
      };
  tells = none_told sent nothing;
  lists = lists;
}
  where
    none_told : (ms : List Message) → AllByRecursion (λ (m : Message). SaysNothing chunk m.body × IsTimely c m.body) ms → AllByRecursion (ServersTell c chunk (world_of b)) ms
    none_told [] all = tt
    none_told (m ∷ ms) all = (nothing_tells c chunk (world_of b) m all.0.0 all.0.1, none_told ms all.1)
