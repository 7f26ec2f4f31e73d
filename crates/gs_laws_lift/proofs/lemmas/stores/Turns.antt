-- All chunks of a store at once, behind whatever the master does, where all of them go on with their rows: each goes on, is born, or isn't born yet.
use Rattle.std.proofs.Common.{◌≡◌, ◌∙◌, ◌<◌, ◌≤◌, ◌⊎◌, ℕ, take, Bool, true, false, List, [], ◌∷◌, length, Option, Some, None, refl, sym, subst, inl, inr, slice_get, arith}
use Rattle.std.specs.Prelude.{Contains}
use Rattle.std.specs.List.{AllByRecursion}
use Rattle.std.proofs.lemmas.List.{take_all}
use Rattle.gs_base.specs.declared.config.Config.{Config}
use Rattle.gs_base.specs.declared.numbers.Moment.{Moment}
use Rattle.gs_base.specs.declared.numbers.ReqId.{ReqId}
use Rattle.gs_base.specs.declared.numbers.Stamp.{Stamp}
use Rattle.gs_block.specs.Written.{HasBlocks}
use Rattle.gs_laws_master.specs.Promises.{IsKept}
use Rattle.gs_master.specs.Masters.{MasterOf}
use Rattle.gs_msg.specs.declared.body.Body.{Body}
use Rattle.gs_msg.specs.declared.body.Body.TheVariants as bodies
use Rattle.gs_msg.specs.declared.message.Message.{Message}
use Rattle.gs_msg.specs.declared.node.NodeId.{NodeId}
use Rattle.gs_msg.specs.declared.node.NodeId.TheVariants as ids
use Rattle.gs_replica.specs.Stands.{Edit, replica_of}
use Rattle.gs_master_spec.specs.Durable.{is_given}
use Rattle.gs_master_spec.specs.State.{State}
use Rattle.gs_nodes.specs.declared.place.MasterPlace.TheVariants.{Standing}
use Rattle.gs_world.specs.Histories.{History}
use Rattle.gs_laws_chunk.specs.machine.Machine.{Member, ChunkWorld}
use Rattle.gs_laws_chunk.specs.machine.Machine as machine
use Rattle.gs_laws_chunk.specs.machine.Events.{Leads, marked}
use Rattle.gs_laws_chunk.specs.machine.Laws.{Birth}
use Rattle.gs_laws_parts.specs.server.Showing.{Setting}
use Rattle.gs_laws_parts.specs.server.Telling.{ServersTell}
use Rattle.gs_laws_parts.specs.master.Families.{ComesFrom, CopiesOf, CopiesTo as CopiesThere, FamilyGoes, HeardOf, IsCopiedTo, IsCopyOf, ListsFrom, MarksOf, is_kept}
use Rattle.gs_laws_parts.specs.master.Families as families
use Rattle.gs_laws_parts.specs.master.Rows.{AreCopiedSince, FamilyRows, RowsIn}
use Rattle.gs_laws_parts.specs.master.Telling.{IsSameMember, Marks, Says, Shows}
use Rattle.gs_laws_parts.specs.master.Telling as entry
use Rattle.gs_laws_parts.specs.master.Unborn as unborn
use Rattle.gs_laws_parts.proofs.lemmas.master.Families.{family_lists}
use Rattle.gs_laws_parts.proofs.lemmas.master.Leading.{masters_leave}
use Rattle.gs_laws_parts.proofs.lemmas.master.Sending.{leads_on, masters_on}
use Rattle.gs_world.specs.Runs.{Step}
use Rattle.gs_laws_lift.specs.stores.Among.{TextsAmong}
use Rattle.gs_laws_lift.specs.stores.Copying.{MakesOther, is_copied}
use Rattle.gs_laws_lift.specs.stores.Doing.{HasDurable}
use Rattle.gs_laws_lift.specs.stores.Going.{AllSent, Posts}
use Rattle.gs_laws_lift.specs.stores.Joint.{AtMaster}
use Rattle.gs_laws_lift.specs.stores.Living.{BeginsOld, BornFrom, CopiesTo, GoesOn, IsCopy, StoreLives, TextsOf}
use Rattle.gs_laws_lift.specs.stores.Saying.{PushRight}
use Rattle.gs_laws_lift.specs.stores.Showing.{IsAlive, Life, ShowsMaster, ShowsStore, setting, whole_in}
use Rattle.gs_laws_lift.specs.stores.Unborn.{IsUnborn, IsUnknown}
use Rattle.gs_laws_lift.proofs.lemmas.stores.Among.{old_among}
use Rattle.gs_laws_lift.proofs.lemmas.stores.Births.{all_before, born_shown, stays_unborn}
use Rattle.gs_laws_lift.proofs.lemmas.stores.Durable.{durable_shown, unknown_on}
use Rattle.gs_laws_lift.proofs.lemmas.stores.Joint.{all_of_master, body_grown}
use Rattle.gs_laws_lift.proofs.lemmas.stores.Living.{AllNext, copies_there}
use Rattle.gs_laws_lift.proofs.lemmas.stores.Mastering.{members_then}
use Rattle.gs_laws_lift.proofs.lemmas.stores.Copying.{copied_there}
use Rattle.gs_laws_lift.proofs.lemmas.stores.Posting.{HasSaid, posted_all, sent_then}
use Rattle.gs_laws_lift.proofs.lemmas.stores.Rowing.{copies_readied, rows_readied}
use Rattle.gs_nodes.specs.Nodes.{with_master}
use Rattle.gs_laws_lift.proofs.lemmas.stores.Chains.{Begun, Linked as AreLinked, Readied}
use Rattle.gs_laws_lift.specs.stores.Saying.{AreOfMaster}

module _ {D : Type 0} (seen : D → List ℕ) (config : Config) (bytes : ReqId → List ℕ) (among : List ℕ → Bool) (step : Step) (about : Option ℕ) (old new : History D) (lives : StoreLives seen config bytes among old) where
  abbrev Lives : ℕ → History D → Type 0
  Lives = Life seen config bytes

  abbrev Linked : (chunk : ℕ) (s : State) → Lives chunk old → families.Life chunk s → Type 0
  Linked = AreLinked seen config bytes among step about old new lives

  -- ---- whatever leads there

  -- From where the master stood all chunks have gone on with their rows, to where what is left of it shows this state; and these messages were sent.
  module _ (quiet : None ≡ about) (empty : HasBlocks config.block among (replica_of config.chunk []).bytes) (right : AllSent (PushRight bytes) new.sent)
      (moment : Moment) (messages : List Message) (servers : new.nodes.servers ≡ old.nodes.servers) (posted : Posts moment ids.Master messages old.sent new.sent)
      (s : State) (had : HasDurable seen old.nodes.master s.durable) (begun : (chunk : ℕ) → Begun seen config bytes among step about old new lives chunk s (lives.life chunk))
      (now : MasterOf D) (kept : IsKept now.state.durable) (has : HasDurable seen new.nodes.master now.state.durable) (shown_there : (chunk : ℕ) (w : ChunkWorld) → Shows chunk now.state w → ShowsMaster seen chunk new.nodes.master w)
      (unknown_there : (chunk : ℕ) → unborn.IsUnborn chunk now.state → IsUnknown seen chunk now.state.durable.epoch new.nodes.master) (are : AreOfMaster messages)
      (others : (chunk : ℕ) → is_given s.durable.next_handle chunk ≡ true → AllByRecursion (λ (message : Message). MakesOther chunk message.body) messages)
      (by_rows : FamilyRows (λ chunk. is_copied new.sent chunk) (λ chunk. whole_in now.state.durable chunk old.nodes.servers) s now.state messages (λ chunk. (begun chunk).there)) where
    abbrev whole : ℕ → ℕ → Bool
    whole chunk = whole_in now.state.durable chunk old.nodes.servers

    -- those of which a server is told
    abbrev keeps : ℕ → Bool
    keeps chunk = is_copied new.sent chunk

    abbrev family : families.Family s
    family chunk = (begun chunk).there

    abbrev f : FamilyGoes keeps whole s now.state messages family
    f = by_rows.goes

    -- the store with a master of that state
    abbrev mid : History D
    mid = record new { nodes = with_master (Standing now) new.nodes }

    -- ---- one chunk behind it

    abbrev Agrees : (chunk : ℕ) → families.Life chunk now.state → Lives chunk new → Type 0
    Agrees chunk (families.Unborn b) (inl first) = Unit {0}
    Agrees chunk (families.Alive b) (inr a) = (a.world ≡ b.world) × (a.reached.0 ≡ b.reached.0)
    Agrees chunk b life = ⊥

    record Then (chunk : ℕ) (life : Lives chunk old) (d : families.Life chunk now.state) : Type 0 where
      last : Lives chunk new
      goes : GoesOn seen config bytes chunk step about old new life last
      agrees : Agrees chunk d last

    -- a machine goes on
    alive_then : (chunk : ℕ) (a : IsAlive seen config bytes chunk old) (c : families.IsAlive chunk s) (d : families.IsAlive chunk now.state) → Readied seen config bytes among step about old new lives chunk s a c → families.GoesAlive chunk (whole chunk) s now.state messages c d → RowsIn chunk s now.state messages (families.Alive c) (families.Alive d) → Then chunk (inr a) (families.Alive d)
    alive_then chunk a c d ready goes rows = record {
      last = (inr (record { world = d.world; reached = d.reached; shows = subst (λ (b : Birth). ShowsStore seen config bytes b.epoch chunk new d.world) (sym same) shown }));
      goes = record {
        same = same;
        leads = leads;
        by = AtMaster (record {
          before = s.durable;
          behind = now.state.durable;
          had = had;
          has = has;
          shown = durable_shown seen chunk a.world old.nodes.master s.durable had a.shows.master;
          shows = d.shows.entry.durable;
          leads = leads;
          masters = masters_on a.world c.world d.world ready.leads goes.leads ready.masters goes.masters;
          members = members;
          marks = marks;
          servers = servers;
          kept = kept;
          rows = rows_readied chunk s.durable now.state.durable a.world c.world d.world ready.known ready.epoch rows.0;
          messages = messages;
          copies = copies_readied chunk now.state.durable a.world.known.view c.world.entry.is_known a.world.entry.is_known d.world ready.known.came messages
              (subst (λ low. AreCopiedSince chunk now.state.durable low c.world.entry.is_known d.world messages) ready.known.view rows.1);
          others = others chunk given;
          moment = moment;
          posted = posted;
        });
        heard = quiet;
      };
      agrees = (refl, refl);
    }
      where
        same : d.reached.0 ≡ a.reached.0
        same = goes.same ∙ ready.same

        given : is_given s.durable.next_handle chunk ≡ true
        given = (durable_shown seen chunk a.world old.nodes.master s.durable had a.shows.master).given

        leads : Leads a.world d.world
        leads = leads_on a.world c.world d.world ready.leads goes.leads

        members : (j : ℕ) → IsSameMember (a.world.members j) (whole chunk j) (d.world.members j)
        members j = subst (λ (f : ℕ → Member). IsSameMember (f j) (whole chunk j) (d.world.members j)) ready.members (goes.members j)

        marks : Marks (whole chunk) a.world d.world
        marks e since j = subst (λ (f : ℕ → Member). d.world.members j ≡ marked (f j) (whole chunk j)) ready.members (goes.marks e (subst (λ n. n < e) (sym ready.epoch) since.0, since.1, since.2) j)

        stays : (x : machine.Sent) → Contains a.world.sent x → Contains d.world.sent x
        stays x there = goes.stays x (ready.stays x there)

        set : Setting
        set = setting config bytes a.reached.0.epoch

        shown : ShowsStore seen config bytes a.reached.0.epoch chunk new d.world
        shown = record {
          members = λ id x found. members_then config bytes a.reached.0.epoch chunk seen old a.world a.reached a.shows now.state.durable d.world leads d.shows.entry.durable members marks id x (subst (λ xs. slice_get xs id ≡ Some x) servers found);
          master = shown_there chunk d.world d.shows;
          sent = posted_all (ServersTell set chunk d.world) moment ids.Master messages old.sent new.sent posted
              (sent_then (ServersTell set chunk a.world) (ServersTell set chunk d.world) old.sent (λ message tells. body_grown set chunk a.world d.world stays message.from message.to message.body tells) a.shows.sent)
              (all_of_master set chunk d.world messages are (subst (λ (b : Birth). AllByRecursion (entry.MastersTell b.epoch chunk d.world) messages) same goes.tells));
        }

    -- one is born
    born_then : (chunk : ℕ) (first : IsUnborn seen chunk old) (d : families.IsAlive chunk now.state) → first.epoch ≤ s.durable.epoch → families.GoesBorn chunk s now.state messages d → (k : unborn.IsUnborn chunk s) → RowsIn chunk s now.state messages (families.Unborn k) (families.Alive d)
        → (keeps chunk ≡ false → d.reached.0.origin ≡ []) → Then chunk (inl first) (families.Alive d)
    born_then chunk first d less goes k rows bare = record {
      last = (inr (record {
        world = d.world;
        reached = d.reached;
        shows = record { members = shown.members; master = shown_there chunk d.world d.shows; sent = shown.sent };
      }));
      goes = record {
        before = s.durable;
        behind = now.state.durable;
        had = had;
        has = has;
        ungiven = (unknown_on seen chunk first.epoch old.nodes.master s.durable had first.master).0;
        shows = d.shows.entry.durable;
        later = goes.later;
        leads = goes.leads;
        masters = goes.masters;
        members = goes.members;
        fresh = goes.fresh;
        rows = rows.0;
        calm = rows.1;
        bare = bare;
        servers = servers;
        messages = messages;
        copies = rows.2;
        moment = moment;
        posted = posted;
      };
      agrees = (refl, refl);
    }
      where
        shown : ShowsStore seen config bytes d.reached.0.epoch chunk mid d.world
        shown = born_shown config bytes chunk seen old mid first ids.Master moment messages servers posted now s now.state messages d less goes are right refl refl refl

    -- one isn't born yet
    silent_then : (chunk : ℕ) (first : IsUnborn seen chunk old) (d : unborn.IsUnborn chunk now.state) → first.epoch ≤ s.durable.epoch → families.GoesSilent chunk s now.state messages → Then chunk (inl first) (families.Unborn d)
    silent_then chunk first d less goes = record {
      last = (inl (stays_unborn config bytes chunk seen old new first ids.Master moment messages servers posted now.state.durable.epoch (let x = goes.rises in let up = x.epoch in omega arith) (unknown_there chunk d)
          (all_before chunk now.state.durable.epoch messages are goes.says)));
      goes = tt;
      agrees = tt;
    }

    each_then : (chunk : ℕ) (life : Lives chunk old) (c : families.Life chunk s) (d : families.Life chunk now.state) → Linked chunk s life c → families.Goes chunk (whole chunk) s now.state messages c d
        → RowsIn chunk s now.state messages c d → families.BornBare (keeps chunk) chunk s now.state c d → Then chunk life d
    each_then chunk (inl first) (families.Unborn c) (families.Unborn d) linked goes rows bare = silent_then chunk first d linked goes
    each_then chunk (inl first) (families.Unborn c) (families.Alive d) linked goes rows bare = born_then chunk first d linked goes c rows bare
    each_then chunk (inr a) (families.Alive c) (families.Unborn d) linked goes rows bare = absurd goes
    each_then chunk (inr a) (families.Alive c) (families.Alive d) linked goes rows bare = alive_then chunk a c d linked goes rows
    each_then chunk life c d linked goes rows bare = absurd linked

    abbrev then : (chunk : ℕ) → Then chunk (lives.life chunk) (f.last chunk)
    then chunk = each_then chunk (lives.life chunk) (family chunk) (f.last chunk) (begun chunk).linked (f.goes chunk) (by_rows.rows chunk) (f.bare chunk)

    -- ---- with what one is born

    abbrev OldIn : (chunk : ℕ) → families.Life chunk s → Type 0
    OldIn chunk (families.Unborn c) = Unit {0}
    OldIn chunk (families.Alive c) = (stamp many : ℕ) → BeginsOld seen config bytes old lives.life (take many (c.world.known.list stamp))

    -- a list there begins one of before
    old_begun : (chunk : ℕ) (life : Lives chunk old) → lives.life chunk ≡ life → (c : families.Life chunk s) → Linked chunk s life c → OldIn chunk c
    old_begun chunk life is (families.Unborn c) linked = tt
    old_begun chunk (inr a) is (families.Alive c) linked = λ stamp many.
        let x = (masters_leave a.world c.world linked.leads linked.masters).lists stamp many in
        record { chunk = chunk; alive = a; is = is; stamp = x.0; many = x.1; begins = x.2 }
    old_begun chunk (inl first) is (families.Alive c) linked = absurd linked

    old_edits : (edits : List Edit) → ComesFrom s family edits → (edits ≡ []) ⊎ BeginsOld seen config bytes old lives.life edits
    old_edits edits (inl none) = inl none
    old_edits edits (inr o) =
        let x = (subst (OldIn o.chunk) o.is (old_begun o.chunk (lives.life o.chunk) refl (family o.chunk) (begun o.chunk).linked)) o.stamp o.many in
        inr (subst (BeginsOld seen config bytes old lives.life) (sym o.begins) x)

    from_by : (chunk : ℕ) (life : Lives chunk old) (c : families.Life chunk s) (d : families.Life chunk now.state) (last : Lives chunk new) → Linked chunk s life c → Agrees chunk d last → families.BornFrom (ComesFrom s family) chunk s now.state c d → BornFrom seen config bytes chunk old new lives.life life last
    from_by chunk (inl first) (families.Unborn c) (families.Alive d) (inr b) linked agrees from =
        let whole : ComesFrom s family d.reached.0.origin = subst (ComesFrom s family) (take_all (length d.reached.0.origin) d.reached.0.origin (omega arith)) (from (length d.reached.0.origin)) in
        subst (λ (x : Birth). (x.origin ≡ []) ⊎ BeginsOld seen config bytes old lives.life x.origin) (sym agrees.1) (old_edits d.reached.0.origin whole)
    from_by chunk (inl first) (families.Unborn c) (families.Unborn d) (inr b) linked agrees from = absurd agrees
    from_by chunk (inl first) (families.Alive c) d (inr b) linked agrees from = absurd linked
    from_by chunk (inl first) c d (inl b) linked agrees from = tt
    from_by chunk (inr a) c d last linked agrees from = tt

    -- ---- the blocks of texts

    abbrev TextsIn : (chunk : ℕ) → families.Life chunk s → Type 0
    TextsIn chunk (families.Unborn c) = Unit {0}
    TextsIn chunk (families.Alive c) = TextsAmong among config.block config.chunk c.world

    texts_begun : (chunk : ℕ) (life : Lives chunk old) (c : families.Life chunk s) → Linked chunk s life c → TextsOf seen config bytes among chunk old life → TextsIn chunk c
    texts_begun chunk life (families.Unborn c) linked texts = tt
    texts_begun chunk (inr a) (families.Alive c) linked texts = old_among among config.block config.chunk a.world c.world texts (masters_leave a.world c.world linked.leads linked.masters).lists
    texts_begun chunk (inl first) (families.Alive c) linked texts = absurd linked

    old_texts : (edits : List Edit) → ComesFrom s family edits → HasBlocks config.block among (replica_of config.chunk edits).bytes
    old_texts edits (inl none) = subst (λ es. HasBlocks config.block among (replica_of config.chunk es).bytes) (sym none) empty
    old_texts edits (inr o) =
        let texts : TextsAmong among config.block config.chunk o.alive.world = subst (TextsIn o.chunk) o.is (texts_begun o.chunk (lives.life o.chunk) (family o.chunk) (begun o.chunk).linked (lives.texts o.chunk)) in
        subst (λ es. HasBlocks config.block among (replica_of config.chunk es).bytes) (sym o.begins) (texts o.stamp o.many)

    texts_by : (chunk : ℕ) (d : families.Life chunk now.state) (life : Lives chunk new) → Agrees chunk d life → ListsFrom (ComesFrom s family) chunk now.state d → TextsOf seen config bytes among chunk new life
    texts_by chunk d (inl first) agrees lists = tt
    texts_by chunk (families.Alive d) (inr a) agrees lists = λ stamp many.
        subst (λ (w : ChunkWorld). HasBlocks config.block among (replica_of config.chunk (take many (w.known.list stamp))).bytes) (sym agrees.0) (old_texts (take many (d.world.known.list stamp)) (lists stamp many))
    texts_by chunk (families.Unborn d) (inr a) agrees lists = absurd agrees

    -- ---- copies

    copy_by : (one other : ℕ) (l : families.Life one now.state) (m : families.Life other now.state) (x : Lives one new) (y : Lives other new) → Agrees one l x → Agrees other m y → (me : ℕ) (at stamp : Stamp) → IsCopyOf one other now.state l m me at stamp → IsCopy seen config bytes one other new x y me at stamp
    copy_by one other (families.Alive l) (families.Alive n) (inr x) (inr y) p q me at stamp k =
        subst (λ (b : Birth). IsCopiedTo x.world y.world b me at stamp) (sym q.1)
        (subst (λ (w : ChunkWorld). IsCopiedTo x.world w n.reached.0 me at stamp) (sym q.0) (subst (λ (w : ChunkWorld). IsCopiedTo w n.world n.reached.0 me at stamp) (sym p.0) k))
    copy_by one other (families.Alive l) (families.Alive n) (inl x) (inr y) p q me at stamp k = absurd p
    copy_by one other (families.Unborn l) (families.Alive n) x (inr y) p q me at stamp k = absurd k
    copy_by one other l (families.Unborn n) x (inr y) p q me at stamp k = absurd q
    copy_by one other l (families.Unborn n) x (inl y) p q me at stamp k = absurd k
    copy_by one other l (families.Alive n) x (inl y) p q me at stamp k = absurd q

    -- of what is told of copies, and stands
    all_copies : (sent : List Message) → AllByRecursion (λ (m : Message). is_kept keeps m.body ≡ true → CopiesOf now.state f.last m) sent
        → AllByRecursion (λ (m : Message). HasSaid new.sent m → CopiesTo seen config bytes new (λ chunk. (then chunk).last) m.to m.body) sent
    all_copies [] all = tt
    all_copies (message ∷ sent) all = (λ there. by_body message.to message.body refl refl there all.0, all_copies sent all.1)
      where
        by_body : (to : NodeId) (body : Body) → message.to ≡ to → message.body ≡ body → HasSaid new.sent message → (is_kept keeps body ≡ true → CopiesThere now.state f.last to body) → CopiesTo seen config bytes new (λ chunk. (then chunk).last) to body
        by_body (ids.Server me) (bodies.MakeCopy handle at new_handle stamp) node is there k =
            copy_by handle new_handle (f.last handle) (f.last new_handle) (then handle).last (then new_handle).last (then handle).agrees (then new_handle).agrees me at stamp (k (copied_there new.sent message me handle new_handle at stamp there node is))
        by_body (ids.Server me) body node is there k = tt
        by_body to body node is there k = tt

    -- ---- all of them

    pub turn_next : AllNext seen config bytes among step about old new lives
    turn_next = record {
      last = λ chunk. (then chunk).last;
      goes = λ chunk. (then chunk).goes;
      from = λ chunk. from_by chunk (lives.life chunk) (family chunk) (f.last chunk) (then chunk).last (begun chunk).linked (then chunk).agrees (f.origins chunk);
      texts = λ chunk. texts_by chunk (f.last chunk) (then chunk).last (then chunk).agrees (family_lists keeps whole s now.state messages family f chunk);
      copies = copies_there seen config bytes among step about old new lives (λ chunk. (then chunk).last) (λ chunk. (then chunk).goes) moment messages posted
          (all_copies messages f.copies);
    }
