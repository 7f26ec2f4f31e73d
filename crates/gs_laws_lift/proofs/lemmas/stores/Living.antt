-- How all chunks of a store go on, whatever happens: what is told of copies stays, and brings what stands in both machines.
use Rattle.std.proofs.Common.{◌≡◌, ◌∙◌, ◌≤◌, ℕ, Bool, true, List, [], ◌∷◌, Option, Some, None, refl, sym, ap, subst, inl, inr, slice_get, slice_set, arith}
use Rattle.std.specs.Prelude.{is_some}
use Rattle.std.specs.List.{AllByRecursion}
use Rattle.std.proofs.lemmas.Bool.{false≢true}
use Rattle.gs_block.specs.Written.{TellsApart}
use Rattle.gs_base.specs.declared.config.Config.{Config}
use Rattle.gs_base.specs.declared.numbers.Moment.{Moment}
use Rattle.gs_base.specs.declared.numbers.ReqId.{ReqId}
use Rattle.gs_base.specs.declared.numbers.Stamp.{Stamp}
use Rattle.gs_msg.specs.declared.body.Body.{Body}
use Rattle.gs_msg.specs.declared.body.Body.TheVariants as bodies
use Rattle.gs_msg.specs.declared.message.Message.{Message}
use Rattle.gs_msg.specs.declared.node.NodeId.{NodeId}
use Rattle.gs_msg.specs.declared.node.NodeId.TheVariants as ids
use Rattle.gs_replica.specs.Stands.{Edit}
use Rattle.gs_server.specs.Runs.{slot_in}
use Rattle.gs_server.specs.Servers.{Server}
use Rattle.gs_store.specs.Slots.{Slot}
use Rattle.gs_store.specs.Standing.{StandsIn}
use Rattle.gs_world.specs.Histories.{History}
use Rattle.gs_world.specs.Sent.{IsSent}
use Rattle.gs_laws_chunk.specs.machine.Stamps.{epoch_of}
use Rattle.gs_laws_chunk.specs.machine.Machine.{CopyIn, WasTold, ChunkWorld}
use Rattle.gs_laws_chunk.specs.machine.Events as events
use Rattle.gs_laws_chunk.specs.machine.Events.{Leads}
use Rattle.gs_laws_chunk.specs.machine.Laws.{Birth, IsReached}
use Rattle.gs_laws_chunk.proofs.lemmas.machine.Lasting.{sent_stays}
use Rattle.gs_laws_parts.specs.server.Answering.{IsByServer}
use Rattle.gs_laws_parts.specs.server.Showing.{Setting, ShowsLive, setting_of}
use Rattle.gs_laws_parts.specs.server.Telling.{BringsCopy, ServersTell}
use Rattle.gs_laws_parts.specs.server.Unborn.{KeepsNothing}
use Rattle.gs_laws_parts.proofs.lemmas.server.Stamps.{stamp_number}
use Rattle.gs_laws_parts.specs.master.Families.{IsCopiedTo}
use Rattle.gs_laws_parts.proofs.lemmas.master.Families.{fixed_on}
use Rattle.gs_world.specs.Runs.{Step}
use Rattle.gs_laws_lift.specs.stores.Among.{AllAmong, TextsAmong}
use Rattle.gs_laws_lift.specs.stores.Saying.{AreOfClient, IsOfClient, PushRight}
use Rattle.gs_laws_lift.specs.stores.Going.{AllSent, Posts, ServerGoes, IsMet, about_of}
use Rattle.gs_laws_lift.specs.stores.Joint.{Elsewhere, GoesTo}
use Rattle.gs_laws_lift.specs.stores.Living.{BornFrom, CopiesTo, GoesOn, IsCopy, StoreLives, TextsOf}
use Rattle.gs_laws_lift.specs.stores.Showing.{IsAlive, Keeps, Life, ShowsMaster, ShowsNodes, ShowsStore, setting}
use Rattle.gs_laws_lift.specs.stores.Unborn.{IsBefore, IsUnknown, SaysNothing, TellsWithin}
use Rattle.gs_laws_lift.proofs.lemmas.stores.Among.{texts_then, told_there}
use Rattle.gs_laws_lift.proofs.lemmas.stores.Asking.{all_of_client}
use Rattle.gs_laws_lift.proofs.lemmas.stores.Births.{stays_unborn}
use Rattle.gs_laws_lift.proofs.lemmas.stores.Machines.{fixed_whole, reached_then}
use Rattle.gs_laws_lift.proofs.lemmas.stores.Posting.{HasSaid, posted_all, posted_there, sent_then}
use Rattle.gs_laws_lift.proofs.lemmas.stores.Servers.{goes_server}
use Rattle.gs_laws_lift.proofs.lemmas.stores.Serving.{by_server, set_cases, steps_at, steps_show}
use Rattle.gs_laws_lift.proofs.lemmas.stores.Unborn.{server_says, server_unborn}

-- ---- copies

-- what was copied stays so wherever both machines lead
pub copied_stays : (w last v then : ChunkWorld) (b birth : Birth) (me : ℕ) (at stamp : Stamp) → IsReached w → Leads w last → Leads v then → birth ≡ b → IsCopiedTo w v b me at stamp → IsCopiedTo last then birth me at stamp
copied_stays w last v then b birth me at stamp reached first second same k = record {
  before = k.before;
  after = k.after;
  edits = k.edits;
  origin = ap (λ (x : Birth). x.origin) same ∙ k.origin;
  from = k.from;
  to = k.to;
  late = subst (λ (x : Birth). x.epoch ≤ epoch_of k.after) (sym same) k.late;
  told = sent_stays v then second (record { server = me; body = CopyIn (k.after) (k.edits) None }) k.told;
  fixed = fixed_on w last k.before me k.edits reached first k.fixed;
}

module _ {D : Type 0} (seen : D → List ℕ) (config : Config) (bytes : ReqId → List ℕ) where
  abbrev Lives : ℕ → History D → Type 0
  Lives = Life seen config bytes

  live_list : (c : Setting) (s : Slot) (o : Option (List Edit)) → ShowsLive c s o → is_some s.live ≡ true → (edits : List Edit) × (o ≡ Some edits) × StandsIn c.block c.size s edits
  live_list c s None none is = absurd (false≢true (sym (ap is_some none) ∙ is))
  live_list c s (Some edits) stands is = (edits, refl, stands)

  -- what a copy under a new handle is told to bring stands at the server under the old one
  copy_brings : (h : History D) (old chunk : ℕ) (a : IsAlive seen config bytes old h) (v : ChunkWorld) (birth : Birth) (id : ℕ) (s : Server) (at stamp : Stamp) → Keeps config bytes h → slice_get h.nodes.servers id ≡ Some s
      → IsCopiedTo a.world v birth id at stamp → BringsCopy (setting_of bytes birth.epoch s) chunk v s (bodies.MakeCopy old at chunk stamp)
  copy_brings h old chunk a v birth id s at stamp keeps found copied =
      let k = keeps.servers id s found in
      let is = a.shows.members id s found in
      λ same. (
        copied.after,
        copied.edits,
        copied.to,
        copied.late,
        subst (λ n. WasTold v n (CopyIn copied.after copied.edits None)) (sym k.me) copied.told,
        λ under live.
            let x = live_list (setting config bytes a.reached.0.epoch) (slot_in old s) (a.world.members id).live is.live live in
            let stamps : (a.world.members id).promise ≡ copied.before = stamp_number (a.world.members id).promise copied.before (sym is.promise ∙ under ∙ copied.from) in
            let whole : x.0 ≡ copied.edits = fixed_whole a.world copied.before id copied.edits x.0 a.reached copied.fixed stamps x.1 in
            subst (λ n. StandsIn n s.chunk (slot_in old s) copied.edits) (sym k.block) (subst (λ n. StandsIn config.block n (slot_in old s) copied.edits) (sym k.size) (subst (λ es. StandsIn config.block config.chunk (slot_in old s) es) whole x.2)),
      )

  -- a copy of two chunks stays one where both go on
  copy_on : (step : Step) (about : Option ℕ) (old new : History D) (one other : ℕ) (l : Lives one old) (m : Lives one new) (x : Lives other old) (y : Lives other new) → GoesOn seen config bytes one step about old new l m → GoesOn seen config bytes other step about old new x y → (me : ℕ) (at stamp : Stamp)
      → IsCopy seen config bytes one other old l x me at stamp → IsCopy seen config bytes one other new m y me at stamp
  copy_on step about old new one other (inr a) (inr b) (inr c) (inr d) f g me at stamp k = copied_stays a.world b.world c.world d.world c.reached.0 d.reached.0 me at stamp a.reached f.leads g.leads g.same k
  copy_on step about old new one other (inr a) (inr b) (inr c) (inl d) f g me at stamp k = absurd g
  copy_on step about old new one other (inr a) (inl b) (inr c) y f g me at stamp k = absurd f
  copy_on step about old new one other (inl a) m (inr c) y f g me at stamp k = absurd k
  copy_on step about old new one other l m (inl c) y f g me at stamp k = absurd k

-- ---- a step

module _ {D : Type 0} (seen : D → List ℕ) (config : Config) (bytes : ReqId → List ℕ) (among : List ℕ → Bool) (step : Step) (about : Option ℕ) (old new : History D) (lives : StoreLives seen config bytes among old) where
  -- one chunk behind it
  pub record Next (chunk : ℕ) (life : Life seen config bytes chunk old) : Type 0 where
    pub last : Life seen config bytes chunk new
    pub goes : GoesOn seen config bytes chunk step about old new life last
    pub from : BornFrom seen config bytes chunk old new lives.life life last
    pub texts : TextsOf seen config bytes among chunk new last

  -- and all of them
  pub record AllNext : Type 0 where
    pub last : (chunk : ℕ) → Life seen config bytes chunk new
    pub goes : (chunk : ℕ) → GoesOn seen config bytes chunk step about old new (lives.life chunk) (last chunk)
    pub from : (chunk : ℕ) → BornFrom seen config bytes chunk old new lives.life (lives.life chunk) (last chunk)
    pub texts : (chunk : ℕ) → TextsOf seen config bytes among chunk new (last chunk)
    pub copies : AllSent (λ (m : Message). CopiesTo seen config bytes new last m.to m.body) new.sent

  -- what was told of copies stays so
  copy_then : (last : (chunk : ℕ) → Life seen config bytes chunk new) → ((chunk : ℕ) → GoesOn seen config bytes chunk step about old new (lives.life chunk) (last chunk)) → (to : NodeId) (body : Body)
      → CopiesTo seen config bytes old lives.life to body → CopiesTo seen config bytes new last to body
  copy_then last goes (ids.Server me) (bodies.MakeCopy handle at new_handle stamp) k =
      copy_on seen config bytes step about old new handle new_handle (lives.life handle) (last handle) (lives.life new_handle) (last new_handle) (goes handle) (goes new_handle) me at stamp k
  copy_then last goes (ids.Server me) body k = tt
  copy_then last goes to body k = tt

  -- and what is sent is so
  pub copies_then : (last : (chunk : ℕ) → Life seen config bytes chunk new) → ((chunk : ℕ) → GoesOn seen config bytes chunk step about old new (lives.life chunk) (last chunk)) → (by : NodeId) (moment : Moment) (messages : List Message)
      → Posts moment by messages old.sent new.sent → AllByRecursion (λ (m : Message). CopiesTo seen config bytes new last m.to m.body) messages → AllSent (λ (m : Message). CopiesTo seen config bytes new last m.to m.body) new.sent
  copies_then last goes by moment messages posted says =
      posted_all (λ (m : Message). CopiesTo seen config bytes new last m.to m.body) moment by messages old.sent new.sent posted
      (sent_then (λ (m : Message). CopiesTo seen config bytes old lives.life m.to m.body) (λ (m : Message). CopiesTo seen config bytes new last m.to m.body) old.sent (λ m k. copy_then last goes m.to m.body k) lives.copies) says

  -- or what stands of what the master sends
  pub copies_there : (last : (chunk : ℕ) → Life seen config bytes chunk new) → ((chunk : ℕ) → GoesOn seen config bytes chunk step about old new (lives.life chunk) (last chunk)) → (moment : Moment) (messages : List Message)
      → Posts moment ids.Master messages old.sent new.sent → AllByRecursion (λ (m : Message). HasSaid new.sent m → CopiesTo seen config bytes new last m.to m.body) messages → AllSent (λ (m : Message). CopiesTo seen config bytes new last m.to m.body) new.sent
  copies_there last goes moment messages posted says =
      posted_there (λ (m : Message). CopiesTo seen config bytes new last m.to m.body) moment messages old.sent new.sent posted
      (sent_then (λ (m : Message). CopiesTo seen config bytes old lives.life m.to m.body) (λ (m : Message). CopiesTo seen config bytes new last m.to m.body) old.sent (λ m k. copy_then last goes m.to m.body k) lives.copies) says

  -- nothing is told of copies by what says nothing of them
  pub tells_no_copy : (P : Body → Type 0) → ((handle : ℕ) (at : Stamp) (new_handle : ℕ) (stamp : Stamp) → P (bodies.MakeCopy handle at new_handle stamp) → ⊥) → (last : (chunk : ℕ) → Life seen config bytes chunk new)
      → (messages : List Message) → AllByRecursion (λ (m : Message). P m.body) messages → AllByRecursion (λ (m : Message). CopiesTo seen config bytes new last m.to m.body) messages
  tells_no_copy P none last [] all = tt
  tells_no_copy P none last (m ∷ messages) all = (by_body m.to m.body all.0, tells_no_copy P none last messages all.1)
    where
      by_body : (to : NodeId) (body : Body) → P body → CopiesTo seen config bytes new last to body
      by_body (ids.Server me) (bodies.MakeCopy handle at new_handle stamp) k = absurd (none handle at new_handle stamp k)
      by_body (ids.Server me) body k = tt
      by_body to body k = tt

  -- each chunk by itself
  pub all_next : (each : (chunk : ℕ) → Next chunk (lives.life chunk)) → (by : NodeId) (moment : Moment) (messages : List Message) → Posts moment by messages old.sent new.sent
      → AllByRecursion (λ (m : Message). CopiesTo seen config bytes new (λ chunk. (each chunk).last) m.to m.body) messages → AllNext
  all_next each by moment messages posted says = record {
    last = λ chunk. (each chunk).last;
    goes = λ chunk. (each chunk).goes;
    from = λ chunk. (each chunk).from;
    texts = λ chunk. (each chunk).texts;
    copies = copies_then (λ chunk. (each chunk).last) (λ chunk. (each chunk).goes) by moment messages posted says;
  }

  module _ (held : (chunk : ℕ) → AllAmong among config.block chunk new.nodes.servers) where
    -- a machine has gone on
    pub goes_next : (chunk : ℕ) (a : IsAlive seen config bytes chunk old) → TextsAmong among config.block config.chunk a.world → GoesTo seen config bytes a.reached.0.epoch chunk step about old a.world new → Next chunk (inr a)
    unfolding reached_then
    goes_next chunk a texts g = record {
      last = (inr (record { world = g.world; reached = reached_then a.world a.reached g.world g.leads; shows = g.shows }));
      goes = record { same = refl; leads = g.leads; by = g.by; heard = g.heard };
      from = tt;
      texts = texts_then seen config bytes among a.reached.0.epoch chunk step old new a.world g.world g.by (held chunk) texts;
    }

    nodes_in : {born chunk : ℕ} {h : History D} {w : ChunkWorld} → ShowsStore seen config bytes born chunk h w → ShowsNodes config bytes born chunk h w
    nodes_in shows = record { members = shows.members; sent = shows.sent }

    -- ---- at a server

    module _ (apart : TellsApart among) (id : ℕ) (s after : Server) (messages : List Message) (moment : Moment) (found : slice_get old.nodes.servers id ≡ Some s) (goes : ServerGoes old.sent id s after messages) (hears : about_of goes ≡ about) (met : IsMet step goes)
        (servers : new.nodes.servers ≡ slice_set old.nodes.servers id after) (master : new.nodes.master ≡ old.nodes.master) (posted : Posts moment (ids.Server id) messages old.sent new.sent) where
      -- what a copy is told to bring stands there
      brought : (chunk : ℕ) (a : IsAlive seen config bytes chunk old) → lives.life chunk ≡ inr a → (message : Message) → IsSent message old.sent → message.to ≡ ids.Server id → BringsCopy (setting_of bytes a.reached.0.epoch s) chunk a.world s message.body
      brought chunk a is message was to = by_body message.to message.body to (lives.copies was.0 message was.1)
        where
          by_old : (handle : ℕ) (at stamp : Stamp) (me : ℕ) → me ≡ id → (l : Life seen config bytes handle old) → IsCopy seen config bytes handle chunk old l (inr a) me at stamp → BringsCopy (setting_of bytes a.reached.0.epoch s) chunk a.world s (bodies.MakeCopy handle at chunk stamp)
          by_old handle at stamp me here (inl unborn) k = absurd k
          by_old handle at stamp me here (inr o) k = copy_brings seen config bytes old handle chunk o a.world a.reached.0 id s at stamp lives.keeps found (subst (λ n. IsCopiedTo o.world a.world a.reached.0 n at stamp) here k)

          by_body : (to : NodeId) (body : Body) → to ≡ ids.Server id → CopiesTo seen config bytes old lives.life to body → BringsCopy (setting_of bytes a.reached.0.epoch s) chunk a.world s body
          by_body (ids.Server me) (bodies.MakeCopy handle at new_handle stamp) here k = λ same.
              by_old handle at stamp me (cc) (lives.life handle)
              (subst (λ l. IsCopy seen config bytes handle chunk old (lives.life handle) l me at stamp) is (subst (λ n. IsCopy seen config bytes handle n old (lives.life handle) (lives.life n) me at stamp) same k)) refl
          by_body ids.Master (bodies.MakeCopy handle at new_handle stamp) here k = absurd (cc)
          by_body (ids.Client client) (bodies.MakeCopy handle at new_handle stamp) here k = absurd (cc)
          by_body to body here k = tt

      served : (chunk : ℕ) (life : Life seen config bytes chunk old) → lives.life chunk ≡ life → TextsOf seen config bytes among chunk old life → Next chunk life
      served chunk (inl first) is texts =
          let x = server_unborn seen config bytes chunk first.epoch old lives.keeps first.servers lives.pushes first.sent id s after messages found goes in
          record {
            last = (inl (record {
              epoch = first.epoch;
              servers = λ j y at. elim (set_cases old.nodes.servers id j after y (subst (λ xs. slice_get xs j ≡ Some y) servers at)) [
                | inl here ↦ subst (λ (z : Server). KeepsNothing chunk z × (z.kept.epoch ≤ first.epoch)) (sym here.1) (x.0, x.1)
                | inr there ↦ first.servers j y there.1
              ];
              master = subst (IsUnknown seen chunk first.epoch) (sym master) first.master;
              sent = posted_all (IsBefore chunk first.epoch) moment (ids.Server id) messages old.sent new.sent posted first.sent x.2;
            }));
            goes = tt;
            from = tt;
            texts = tt;
          }
      served chunk (inr a) is texts =
          let apart_there = told_there config bytes among chunk old a.world a.reached lives.keeps apart texts (lives.held chunk) in
          goes_next chunk a texts
          (subst (λ o. GoesTo seen config bytes a.reached.0.epoch chunk step o old a.world new) hears
          (steps_show seen config bytes a.reached.0.epoch chunk old a.world a.reached (nodes_in a.shows) lives.keeps apart_there a.shows.master step new id s after messages moment found goes met (goes_server config id old.sent s after messages goes (lives.keeps.servers id s found))
          (steps_at seen config bytes a.reached.0.epoch chunk old a.world a.reached (nodes_in a.shows) lives.keeps apart_there id s after messages found goes (λ message was to. brought chunk a is message was to)) servers master posted))

      -- a server tells nothing of copies: so it is seen by any chunk
      says_none : (chunk : ℕ) (life : Life seen config bytes chunk old) → lives.life chunk ≡ life → TextsOf seen config bytes among chunk old life → chunk ≡ 0 → AllByRecursion (λ (m : Message). IsByServer m.body) messages
      says_none chunk (inl first) is texts none = server_says seen config bytes chunk first.epoch old lives.keeps first.servers lives.pushes first.sent id s after messages found goes
      says_none chunk (inr a) is texts none =
          let steps =
          steps_at seen config bytes a.reached.0.epoch chunk old a.world a.reached (nodes_in a.shows) lives.keeps (told_there config bytes among chunk old a.world a.reached lives.keeps apart texts (lives.held chunk)) id s after messages found goes
          (λ message was to. brought chunk a is message was to) in
          by_server _ (setting_of bytes a.reached.0.epoch s) chunk steps.world s.me _ messages steps.answers

      pub server_next : AllNext
      server_next =
          let each : (chunk : ℕ) → Next chunk (lives.life chunk) = λ chunk. served chunk (lives.life chunk) refl (lives.texts chunk) in
          all_next each (ids.Server id) moment messages posted
          (tells_no_copy (λ (body : Body). IsByServer body) (λ handle at new_handle stamp is. is) (λ chunk. (each chunk).last) messages (says_none 0 (lives.life 0) refl (lives.texts 0) refl))

    -- ---- elsewhere

    module _ (quiet : None ≡ about) (right : AllSent (PushRight bytes) new.sent) (by : NodeId) (messages : List Message) (moment : Moment) (are : AreOfClient messages)
        (servers : new.nodes.servers ≡ old.nodes.servers) (master : new.nodes.master ≡ old.nodes.master) (posted : Posts moment by messages old.sent new.sent) where
      before_of_client : (chunk epoch : ℕ) (ms : List Message) → AreOfClient ms → AllByRecursion (IsBefore chunk epoch) ms
      before_of_client chunk epoch [] all = tt
      before_of_client chunk epoch (m ∷ ms) all = (by_body m.body all.0, before_of_client chunk epoch ms all.1)
        where
          by_body : (body : Body) → IsOfClient body → SaysNothing chunk body × TellsWithin epoch body
          by_body (bodies.About handle said) is = ((λ same. is), tt)
          by_body (bodies.Call req call) is = (tt, tt)
          by_body (bodies.Push req pushed) is = (tt, tt)
          by_body body is = absurd is

      left : (chunk : ℕ) (life : Life seen config bytes chunk old) → TextsOf seen config bytes among chunk old life → Next chunk life
      left chunk (inl first) texts = record {
        last = (inl (stays_unborn config bytes chunk seen old new first by moment messages servers posted first.epoch (omega arith) (subst (IsUnknown seen chunk first.epoch) (sym master) first.master) (before_of_client chunk first.epoch messages are)));
        goes = tt;
        from = tt;
        texts = tt;
      }
      left chunk (inr a) texts =
          let c = setting config bytes a.reached.0.epoch in
          let all = posted_all (λ (m : Message). PushRight bytes m → ServersTell c chunk a.world m) moment by messages old.sent new.sent posted
          (sent_then (ServersTell c chunk a.world) (λ (m : Message). PushRight bytes m → ServersTell c chunk a.world m) old.sent (λ m tells right. tells) a.shows.sent) (all_of_client c chunk a.world messages are) in
          goes_next chunk a texts (record {
            world = a.world;
            leads = events.Rests;
            shows = record {
              members = λ id x found. a.shows.members id x (subst (λ xs. slice_get xs id ≡ Some x) servers found);
              master = subst (λ place. ShowsMaster seen chunk place a.world) (sym master) a.shows.master;
              sent = λ id m is. all id m is (right id m is);
            };
            by = Elsewhere refl servers master by messages moment are posted;
            heard = quiet;
          })

      pub elsewhere_next : AllNext
      elsewhere_next =
          let each : (chunk : ℕ) → Next chunk (lives.life chunk) = λ chunk. left chunk (lives.life chunk) (lives.texts chunk) in
          all_next each by moment messages posted (tells_no_copy (λ (body : Body). IsOfClient body) (λ handle at new_handle stamp is. is) (λ chunk. (each chunk).last) messages are)
