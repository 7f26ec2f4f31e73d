-- All servers of a store, seen by one chunk.
use Rattle.std.proofs.Common.{◌≡◌, ℕ, Bool, true, false, cond, List, [], ◌∷◌, ◌++◌, Option, Some, refl, sym, ap, subst, ◌∙◌, None}
use Rattle.std.specs.Prelude.{nat_eq, ◌&&◌, is_none, is_some}
use Rattle.std.proofs.lemmas.Bool.{eqb-true}
use Rattle.gs_replica.specs.Seals.{lowest_damaged}
use Rattle.gs_msg.specs.declared.message.Message.{Message}
use Rattle.gs_store.specs.Slots.{Live}
use Rattle.gs_store.specs.Standing.{LiveUndamaged}
use Rattle.gs_server.specs.Servers.{Server, new}
use Rattle.gs_server.specs.Runs.{Event, behind, behind_all, slot_in}
use Rattle.gs_server.specs.Runs as runs
use Rattle.gs_laws_chunk.specs.machine.Machine.{ChunkWorld, Entry}
use Rattle.gs_laws_chunk.specs.machine.Events.{Leads}
use Rattle.gs_laws_chunk.specs.machine.Laws.{IsReached, is_member}
use Rattle.gs_laws_parts.specs.server.Showing.{Setting, setting_of, ShowsMember, BuffersRight}
use Rattle.gs_laws_parts.specs.server.Moving.{IsToldApart, IsShown, IsSteps}
use Rattle.gs_laws_parts.specs.server.Beside.{IsSameMember, IsWholeAt}
use Rattle.gs_laws_parts.proofs.lemmas.server.Prepared.{none_prepared}
use Rattle.gs_laws_chunk.specs.machine.Events.{marked}
use Rattle.gs_laws_parts.specs.server.Servers.{IsServerOf, AreServersOf, with_server, is_whole, is_whole_at, whole_among, LeavesMembers}
use Rattle.gs_laws_parts.specs.server.Causes.{Cause}
use Rattle.gs_laws_parts.proofs.lemmas.server.Resting.{shown_in}
use Rattle.gs_laws_parts.proofs.lemmas.server.Beside.{shown_beside, shown_marked, whole_live}

behind_more : (events : List Event) (e : Event) (s : Server) → behind e (behind_all events s) ≡ behind_all (events ++ e ∷ []) s
behind_more [] e s = refl
behind_more (x ∷ events) e s = behind_more events e (behind x s)

pub reached_behind : (e : Event) (s : Server) → runs.IsReached s → runs.IsReached (behind e s)
reached_behind e s r = record {
  me = r.me;
  block = r.block;
  chunk = r.chunk;
  some_block = r.some_block;
  block_fits = r.block_fits;
  chunk_fits = r.chunk_fits;
  events = r.events ++ e ∷ [];
  is = ap (behind e) r.is ∙ behind_more r.events e (new r.me r.block r.chunk);
}

module _ (c : Setting) (chunk : ℕ) where
  -- a store has its sizes throughout
  pub setting_same : (w : ChunkWorld) (id : ℕ) (s : Server) → IsServerOf c chunk w id s → c ≡ setting_of c.bytes c.born s
  setting_same w id s x = let block = x.block in let size = x.size in λ i. record { block = sym block i; size = sym size i; bytes = c.bytes; born = c.born }

  -- what the laws of one server ask for
  pub server_shown : (w : ChunkWorld) (id : ℕ) (s : Server) → IsReached w → IsServerOf c chunk w id s → IsToldApart c.block c.size (slot_in chunk s) (w.members id) → IsShown (setting_of c.bytes c.born s) chunk w s
  server_shown w id s reached x apart =
      let same = setting_same w id s x in
      shown_in c.bytes c.born chunk w s reached x.reached
      (subst (λ k. ShowsMember k chunk w s) same x.shows)
      (subst (λ k. BuffersRight k s) same x.buffers)
      (subst (λ b. IsToldApart b s.chunk (slot_in chunk s) (w.members s.me)) (sym x.block)
      (subst (λ n. IsToldApart c.block n (slot_in chunk s) (w.members s.me)) (sym x.size)
      (subst (λ k. IsToldApart c.block c.size (slot_in chunk s) (w.members k)) (sym x.me) apart)))

  -- a step of one server
  module _ (w : ChunkWorld) (reached : IsReached w) (servers : ℕ → Option Server) (are : AreServersOf c chunk w servers) where
    pub stepped_servers : (cause : Cause) (id : ℕ) (s after : Server) (about : Option ℕ) (sent : List Message) → servers id ≡ Some s → (steps : IsSteps cause (setting_of c.bytes c.born s) chunk w s.me about after sent) → runs.IsReached after → AreServersOf c chunk steps.world (with_server servers id after)
    stepped_servers cause id s after about sent is steps after_reached j t there = by_case (nat_eq j id) refl there
      where
        by_case : (b : Bool) → nat_eq j id ≡ b → cond b (Some after) (servers j) ≡ Some t → IsServerOf c chunk steps.world j t
        by_case true same there =
            let x = are id s is in
            let setting = setting_same w id s x in
            let after_is : after ≡ t = cc in
            subst (IsServerOf c chunk steps.world j) after_is (record {
              reached = after_reached;
              me = steps.same.0 ∙ x.me ∙ sym (eqb-true j id same);
              block = steps.same.1 ∙ x.block;
              size = steps.same.2 ∙ x.size;
              shows = subst (λ k. ShowsMember k chunk steps.world after) (sym setting) steps.shows;
              buffers = subst (λ k. BuffersRight k after) (sym setting) steps.buffers;
            })
        by_case false apart there =
            let x = are j t there in
            let me = are id s is in
            let other : nat_eq t.me s.me ≡ false = subst (λ k. nat_eq k s.me ≡ false) (sym x.me) (subst (λ k. nat_eq j k ≡ false) (sym me.me) apart) in
            record {
              reached = x.reached;
              me = x.me;
              block = x.block;
              size = x.size;
              shows = shown_beside w steps.world reached steps.leads c chunk t (steps.others t.me other) (λ new. absurd (none_prepared w steps.world (ap (λ (e : Entry). e.epoch) steps.entry) new)) x.shows;
              buffers = x.buffers;
            }

    -- and of the master
    pub led_servers : (last : ChunkWorld) (whole : ℕ → Bool) → Leads w last → LeavesMembers chunk w whole last servers → AreServersOf c chunk last servers
    led_servers last whole leads leaves j t there =
        let x = are j t there in
        let l = leaves j in
        record {
          reached = x.reached;
          me = x.me;
          block = x.block;
          size = x.size;
          shows = shown_marked w last reached leads c chunk t (whole j) (subst (λ k. IsSameMember (w.members k) (whole j) (last.members k)) (sym x.me) l.0) (λ new. subst (λ k. last.members k ≡ marked (w.members k) (whole j)) (sym x.me) (l.1 new)) (l.2 t there) x.shows;
          buffers = x.buffers;
        }

-- ---- who may be marked at a prepare

no_block : (o : Option ℕ) → is_none o ≡ true → o ≡ None
no_block None is = refl
no_block (Some block) is = absurd (cc)

whole_live_there : (live : Option Live) → is_whole live ≡ true → (is_some live ≡ true) × LiveUndamaged live
whole_live_there None is = absurd (cc)
whole_live_there (Some l) is = (refl, no_block (lowest_damaged l.replica.held.chunk) is)

both : (a b : Bool) → (a && b) ≡ true → (a ≡ true) × (b ≡ true)
both true true is = (refl, refl)
both true false is = absurd (cc)
both false b is = absurd (cc)

pub marked_whole : (c : Setting) (chunk : ℕ) (w : ChunkWorld) (servers : ℕ → Option Server) → AreServersOf c chunk w servers → (id : ℕ) (s : Server) → servers id ≡ Some s → whole_among chunk w servers id ≡ true → IsWholeAt chunk w s
marked_whole c chunk w servers are id s there whole =
    let t = both (is_member w id) (is_whole_at chunk (servers id)) whole in
    let live = whole_live_there (slot_in chunk s).live (subst (λ o. is_whole_at chunk o ≡ true) there t.1) in record {
      member = subst (λ k. is_member w k ≡ true) (sym (are id s there).me) t.0;
      live = live.0;
      undamaged = live.1;
    }

pub marked_live : (c : Setting) (chunk : ℕ) (w : ChunkWorld) (servers : ℕ → Option Server) → AreServersOf c chunk w servers → (id : ℕ) → whole_among chunk w servers id ≡ true → is_some (w.members id).live ≡ true
marked_live c chunk w servers are id whole = by_server (servers id) refl (both (is_member w id) (is_whole_at chunk (servers id)) whole).1
  where
    by_server : (o : Option Server) → servers id ≡ o → is_whole_at chunk o ≡ true → is_some (w.members id).live ≡ true
    by_server None none is = absurd (cc)
    by_server (Some s) there is = subst (λ k. is_some (w.members k).live ≡ true) (are id s there).me (whole_live c chunk w s (are id s there).shows (marked_whole c chunk w servers are id s there whole))
