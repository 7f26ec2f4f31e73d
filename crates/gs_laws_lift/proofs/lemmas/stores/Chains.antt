-- All chunks of a store at once, where the master makes a turn of moves: each goes on, is born, or isn't born yet.
use Rattle.std.proofs.Common.{◌≡◌, ◌∙◌, ◌&&◌, ◌||◌, ◌<◌, ◌≤◌, ◌⊎◌, ℕ, take, Bool, true, false, List, [], ◌∷◌, length, Option, Some, None, refl, sym, ap, subst, inl, inr, slice_get, arith}
use Rattle.std.specs.Prelude.{Contains, is_some}
use Rattle.std.specs.List.{AllByRecursion}
use Rattle.std.proofs.lemmas.List.{take_all}
use Rattle.gs_base.specs.declared.config.Config.{Config}
use Rattle.gs_base.specs.declared.numbers.Moment.{Moment}
use Rattle.gs_base.specs.declared.numbers.ReqId.{ReqId}
use Rattle.gs_base.specs.declared.numbers.Stamp.{Stamp}
use Rattle.gs_block.specs.Written.{HasBlocks}
use Rattle.gs_laws_master.specs.Promises.{IsKept}
use Rattle.gs_laws_master.specs.Standing.{AreCounters}
use Rattle.gs_master.specs.Masters.{MasterOf}
use Rattle.gs_msg.specs.declared.body.Body.{Body}
use Rattle.gs_msg.specs.declared.body.Body.TheVariants as bodies
use Rattle.gs_msg.specs.declared.message.Message.{Message}
use Rattle.gs_msg.specs.declared.node.NodeId.{NodeId}
use Rattle.gs_msg.specs.declared.node.NodeId.TheVariants as ids
use Rattle.gs_replica.specs.Stands.{Edit, replica_of}
use Rattle.gs_server.specs.Places.{Place}
use Rattle.gs_server.specs.Servers.{Server}
use Rattle.gs_master_spec.specs.Durable.{Durable, is_given}
use Rattle.gs_master_spec.specs.Handling.{restarted}
use Rattle.gs_master_spec.specs.State.{Log, State, Turn}
use Rattle.gs_store.specs.Slots.{sealed_of}
use Rattle.gs_nodes.specs.declared.place.MasterPlace.TheVariants.{Standing}
use Rattle.gs_world.specs.Histories.{History}
use Rattle.gs_laws_world.specs.lasting.Lasting.{Lasts}
use Rattle.gs_laws_chunk.specs.machine.Machine.{Member, ChunkWorld}
use Rattle.gs_laws_chunk.specs.machine.Machine as machine
use Rattle.gs_laws_chunk.specs.machine.Events.{Leads, marked}
use Rattle.gs_laws_chunk.specs.machine.Events as events
use Rattle.gs_laws_chunk.specs.machine.Laws.{Birth}
use Rattle.gs_laws_chunk.specs.machine.Mastering.{AreOfMaster}
use Rattle.gs_laws_parts.specs.server.Showing.{Setting}
use Rattle.gs_laws_parts.specs.server.Telling.{ServersTell}
use Rattle.gs_laws_parts.specs.master.Families.{ComesFrom, CopiesOf, CopiesTo as CopiesThere, FamilyGoes, HeardOf, IsCopiedTo, IsCopyOf, ListsFrom, MarksOf, is_kept}
use Rattle.gs_laws_parts.specs.master.Families as families
use Rattle.gs_laws_parts.specs.master.Laws.{Reaches, StaysKnownSo}
use Rattle.gs_laws_parts.specs.master.Rows.{AreCopiedSince, FamilyRows, RowsIn}
use Rattle.gs_laws_parts.specs.master.Telling.{IsSameMember, Marks, Says, Shows}
use Rattle.gs_laws_parts.specs.master.Telling as entry
use Rattle.gs_laws_parts.specs.master.Unborn as unborn
use Rattle.gs_laws_parts.proofs.lemmas.master.Families.{family_lists}
use Rattle.gs_laws_parts.proofs.lemmas.master.Rows.{families_go_by_rows}
use Rattle.gs_laws_parts.proofs.lemmas.master.Leading.{masters_leave}
use Rattle.gs_laws_parts.proofs.lemmas.master.Restarting.{restarts_reach}
use Rattle.gs_laws_parts.proofs.lemmas.master.Sending.{heard_more, leads_on, masters_on}
use Rattle.gs_laws_parts.proofs.lemmas.master.Unborn.{restarts_unborn}
use Rattle.gs_laws_moves.specs.moves.Asked.{WasHeard}
use Rattle.gs_laws_moves.specs.moves.Guards.{Heard, IsMade}
use Rattle.gs_laws_moves.specs.moves.Laws.{IsMadeWell}
use Rattle.gs_laws_moves.specs.moves.Moves.{Chain}
use Rattle.gs_laws_moves.specs.moves.Epochs.{EndsOnce}
use Rattle.gs_laws_moves.proofs.lemmas.moves.Fitting.{mapped, once_chain}
use Rattle.gs_laws_moves.proofs.lemmas.moves.Rows.{copies_are_new}
use Rattle.gs_world.specs.Runs.{Step}
use Rattle.gs_laws_lift.specs.stores.Among.{TextsAmong}
use Rattle.gs_laws_lift.specs.stores.Copying.{MakesOther, is_copied}
use Rattle.gs_laws_lift.specs.stores.Doing.{HasDurable, IsHeardIn}
use Rattle.gs_laws_lift.specs.stores.Going.{AllSent, Posts}
use Rattle.gs_laws_lift.specs.stores.Joint.{AtMaster}
use Rattle.gs_laws_lift.specs.stores.Living.{BeginsOld, BornFrom, CopiesTo, GoesOn, IsCopy, StoreLives, TextsOf}
use Rattle.gs_laws_lift.specs.stores.Saying.{PushRight}
use Rattle.gs_laws_lift.specs.stores.Showing.{IsAlive, Life, ShowsMaster, ShowsStore, is_live_whole, is_over, is_seal_whole, is_whole_there, setting, whole_in}
use Rattle.gs_laws_lift.specs.stores.Unborn.{IsUnborn, IsUnknown}
use Rattle.gs_laws_lift.proofs.lemmas.stores.Among.{old_among}
use Rattle.gs_laws_lift.proofs.lemmas.stores.Births.{all_before, born_shown, heard_silent, stays_unborn}
use Rattle.gs_laws_lift.proofs.lemmas.stores.Durable.{durable_shown, kept_there, unknown_on}
use Rattle.gs_laws_lift.proofs.lemmas.stores.Joint.{all_of_master, body_grown, chain_of_master}
use Rattle.gs_laws_lift.proofs.lemmas.stores.Living.{AllNext, copies_there}
use Rattle.gs_laws_lift.proofs.lemmas.stores.Machines.{reached_then}
use Rattle.gs_laws_lift.proofs.lemmas.stores.Mastering.{heard_so, marks_live, members_then}
use Rattle.gs_laws_lift.proofs.lemmas.stores.Copying.{copied_there, makes_others}
use Rattle.gs_laws_lift.proofs.lemmas.stores.Posting.{HasSaid, posted_all, sent_then}
use Rattle.gs_laws_lift.proofs.lemmas.stores.Rowing.{copies_readied, rows_readied}
use Rattle.gs_laws_lift.proofs.lemmas.stores.Reopening.{none_asked}

module _ {D : Type 0} (seen : D → List ℕ) (config : Config) (bytes : ReqId → List ℕ) (among : List ℕ → Bool) (step : Step) (about : Option ℕ) (old new : History D) (lives : StoreLives seen config bytes among old) where
  abbrev pub Lives : ℕ → History D → Type 0
  Lives = Life seen config bytes

  -- ---- where the chain begins

  -- a machine has gone on to there by events of the master's part; no server has changed
  pub record Readied (chunk : ℕ) (s : State) (a : IsAlive seen config bytes chunk old) (c : families.IsAlive chunk s) : Type 0 where
    pub leads : Leads a.world c.world
    pub masters : AreOfMaster a.world c.world leads
    pub members : c.world.members ≡ a.world.members
    pub epoch : c.world.entry.epoch ≡ a.world.entry.epoch
    pub known : StaysKnownSo a.world c.world
    pub stays : (x : machine.Sent) → Contains a.world.sent x → Contains c.world.sent x
    pub same : c.reached.0 ≡ a.reached.0

  abbrev pub Linked : (chunk : ℕ) (s : State) → Lives chunk old → families.Life chunk s → Type 0
  Linked chunk s (inl first) (families.Unborn c) = first.epoch ≤ s.durable.epoch
  Linked chunk s (inr a) (families.Alive c) = Readied chunk s a c
  Linked chunk s life c = ⊥

  pub record Begun (chunk : ℕ) (s : State) (life : Lives chunk old) : Type 0 where
    pub there : families.Life chunk s
    pub linked : Linked chunk s life there

  -- the master stands, and makes moves
  pub begun_standing : (m : MasterOf D) → old.nodes.master ≡ Standing m → (chunk : ℕ) (life : Lives chunk old) → Begun chunk m.state life
  begun_standing m at chunk (inl first) = let x = subst (IsUnknown seen chunk first.epoch) at first.master in record { there = families.Unborn x.0; linked = x.1 }
  begun_standing m at chunk (inr a) = record {
    there = families.Alive (record { world = a.world; reached = a.reached; shows = subst (λ place. ShowsMaster seen chunk place a.world) at a.shows.master });
    linked = record { leads = events.Rests; masters = tt; members = refl; epoch = refl; known = record { born = refl; view = refl; top = refl; current = refl; stood = refl; came = λ known. known }; stays = λ x there. there; same = refl };
  }

  -- it is started again on what is durable
  pub begun_started : (d : Durable) (log : Log) → HasDurable seen old.nodes.master d → IsKept d → AreCounters d → (chunk : ℕ) (life : Lives chunk old) → Begun chunk (restarted d log) life
  unfolding reached_then
  begun_started d log had kept counters chunk (inl first) =
      let x = unknown_on seen chunk first.epoch old.nodes.master d had first.master in record { there = families.Unborn (restarts_unborn chunk d log counters.version x.0); linked = x.1 }
  begun_started d log had kept counters chunk (inr a) =
      let r : Reaches chunk a.world (restarted d log) = restarts_reach chunk d log a.world kept (durable_shown seen chunk a.world old.nodes.master d had a.shows.master) in
      record {
        there = families.Alive (record { world = r.world; reached = reached_then a.world a.reached r.world r.leads; shows = record { entry = r.shows; said = none_asked (Says chunk r.world) d log chunk } });
        linked = record { leads = r.leads; masters = r.masters; members = r.members; epoch = r.epoch; known = r.known; stays = λ x there. subst (λ ys. Contains ys x) (sym r.sent) there; same = refl };
      }

  -- ---- what is heard, and who is marked

  -- what is heard was said in each machine
  module _ (s : State) (heard : Heard) (was : IsHeardIn old.sent heard) where
    pub heard_of : (chunk : ℕ) (life : Lives chunk old) (c : families.Life chunk s) → Linked chunk s life c → HeardOf chunk s heard c
    heard_of chunk (inl first) (families.Unborn c) linked = by_heard was
      where
        by_heard : IsHeardIn old.sent heard → WasHeard (Says chunk unborn.silent) heard
        by_heard (inl none) = λ server body is. absurd (cc)
        by_heard (inr (message, sent, is)) = subst (WasHeard (Says chunk unborn.silent)) (sym is) (heard_silent config bytes chunk seen old new first message sent)
    heard_of chunk (inr a) (families.Alive c) linked = heard_more chunk a.world c.world linked.stays heard (by_heard was)
      where
        by_heard : IsHeardIn old.sent heard → WasHeard (Says chunk a.world) heard
        by_heard (inl none) = λ server body is. absurd (cc)
        by_heard (inr (message, sent, is)) = subst (WasHeard (Says chunk a.world)) (sym is) (heard_so config bytes a.reached.0.epoch chunk seen old a.world a.reached a.shows message sent)
    heard_of chunk life c linked = absurd linked

  -- those servers are marked that are whole, behind a prepare at which this is durable
  module _ (s : State) (d : Durable) where
    -- of a chunk that isn't born no server is whole
    none_whole : (chunk : ℕ) (first : IsUnborn seen chunk old) (j : ℕ) (o : Option Server) → slice_get old.nodes.servers j ≡ o → is_whole_there d chunk o ≡ false
    none_whole chunk first j None found = refl
    none_whole chunk first j (Some x) found = ap (λ (p : Place). is_live_whole p.slot.live && (is_seal_whole (sealed_of p.slot) || is_over d x.kept.epoch)) (first.servers j x found).0

    pub marks_of : (chunk : ℕ) (life : Lives chunk old) (c : families.Life chunk s) → Linked chunk s life c → MarksOf chunk s (whole_in d chunk old.nodes.servers) c
    marks_of chunk (inl first) (families.Unborn c) linked = λ j. none_whole chunk first j (slice_get old.nodes.servers j) refl
    marks_of chunk (inr a) (families.Alive c) linked = λ j is.
        subst (λ (f : ℕ → Member). is_some (f j).live ≡ true) (sym linked.members) (marks_live config bytes a.reached.0.epoch chunk seen old a.world a.reached a.shows d j is)
    marks_of chunk life c linked = absurd linked

  -- ---- the chain

  module _ (quiet : None ≡ about) (empty : HasBlocks config.block among (replica_of config.chunk []).bytes) (right : AllSent (PushRight bytes) new.sent)
      (moment : Moment) (messages : List Message) (servers : new.nodes.servers ≡ old.nodes.servers) (posted : Posts moment ids.Master messages old.sent new.sent)
      (s : State) (had : HasDurable seen old.nodes.master s.durable) (begun : (chunk : ℕ) → Begun chunk s (lives.life chunk)) (by_config : Config) (heard : Heard) (t : Turn) (turn : EndsOnce by_config (IsMadeWell by_config heard) s t) (was : IsHeardIn old.sent heard)
      (m : MasterOf D) (master : new.nodes.master ≡ Standing m) (lasts : Lasts seen new.nodes.master) (state : m.state ≡ t.after) (sends : messages ≡ t.sent) where
    abbrev whole : ℕ → ℕ → Bool
    whole chunk = whole_in t.after.durable chunk old.nodes.servers

    -- those of which a server is told
    abbrev keeps : ℕ → Bool
    keeps chunk = is_copied new.sent chunk

    chain : Chain by_config (IsMadeWell by_config heard) s t
    chain = once_chain by_config (IsMadeWell by_config heard) s t turn

    abbrev family : families.Family s
    family chunk = (begun chunk).there

    by_rows : FamilyRows keeps whole s t.after t.sent family
    by_rows = families_go_by_rows keeps whole by_config heard s t family (λ chunk. heard_of s heard was chunk (lives.life chunk) (family chunk) (begun chunk).linked) (λ chunk. marks_of s t.after.durable chunk (lives.life chunk) (family chunk) (begun chunk).linked) turn

    abbrev f : FamilyGoes keeps whole s t.after t.sent family
    f = by_rows.goes

    -- ---- one chunk behind it

    abbrev Agrees : (chunk : ℕ) → families.Life chunk t.after → Lives chunk new → Type 0
    Agrees chunk (families.Unborn b) (inl first) = Unit {0}
    Agrees chunk (families.Alive b) (inr a) = (a.world ≡ b.world) × (a.reached.0 ≡ b.reached.0)
    Agrees chunk b life = ⊥

    record Then (chunk : ℕ) (life : Lives chunk old) (d : families.Life chunk t.after) : Type 0 where
      last : Lives chunk new
      goes : GoesOn seen config bytes chunk step about old new life last
      agrees : Agrees chunk d last

    has : HasDurable seen new.nodes.master t.after.durable
    has = subst (λ place. HasDurable seen place t.after.durable) (sym master) (ap (λ (x : State). x.durable) state)

    -- a machine goes on
    alive_then : (chunk : ℕ) (a : IsAlive seen config bytes chunk old) (c : families.IsAlive chunk s) (d : families.IsAlive chunk t.after) → Readied chunk s a c → families.GoesAlive chunk (whole chunk) s t.after t.sent c d → RowsIn chunk s t.after t.sent (families.Alive c) (families.Alive d) → Then chunk (inr a) (families.Alive d)
    alive_then chunk a c d ready goes rows = record {
      last = (inr (record { world = d.world; reached = d.reached; shows = subst (λ (b : Birth). ShowsStore seen config bytes b.epoch chunk new d.world) (sym same) shown }));
      goes = record {
        same = same;
        leads = leads;
        by = AtMaster (record {
          before = s.durable;
          behind = t.after.durable;
          had = had;
          has = has;
          shown = durable_shown seen chunk a.world old.nodes.master s.durable had a.shows.master;
          shows = d.shows.entry.durable;
          leads = leads;
          masters = masters_on a.world c.world d.world ready.leads goes.leads ready.masters goes.masters;
          members = members;
          marks = marks;
          servers = servers;
          kept = kept_there seen new.nodes.master t.after.durable lasts has;
          rows = rows_readied chunk s.durable t.after.durable a.world c.world d.world ready.known ready.epoch rows.0;
          messages = messages;
          copies = subst (AreCopiedSince chunk t.after.durable a.world.known.view a.world.entry.is_known d.world) (sym sends)
              (copies_readied chunk t.after.durable a.world.known.view c.world.entry.is_known a.world.entry.is_known d.world ready.known.came t.sent
              (subst (λ low. AreCopiedSince chunk t.after.durable low c.world.entry.is_known d.world t.sent) ready.known.view rows.1));
          others = subst (AllByRecursion (λ (message : Message). MakesOther chunk message.body)) (sym sends) (makes_others chunk s.durable.next_handle given t.sent (copies_are_new by_config heard s t (mapped by_config (IsMadeWell by_config heard) (IsMade by_config heard) (λ u move well. well.made) s t chain)));
          moment = moment;
          posted = posted;
        });
        heard = quiet;
      };
      agrees = (refl, refl);
    }
      where
        same : d.reached.0 ≡ a.reached.0
        same = goes.same ∙ ready.same

        given : is_given s.durable.next_handle chunk ≡ true
        given = (durable_shown seen chunk a.world old.nodes.master s.durable had a.shows.master).given

        leads : Leads a.world d.world
        leads = leads_on a.world c.world d.world ready.leads goes.leads

        members : (j : ℕ) → IsSameMember (a.world.members j) (whole chunk j) (d.world.members j)
        members j = subst (λ (f : ℕ → Member). IsSameMember (f j) (whole chunk j) (d.world.members j)) ready.members (goes.members j)

        marks : Marks (whole chunk) a.world d.world
        marks e since j = subst (λ (f : ℕ → Member). d.world.members j ≡ marked (f j) (whole chunk j)) ready.members (goes.marks e (subst (λ n. n < e) (sym ready.epoch) since.0, since.1, since.2) j)

        stays : (x : machine.Sent) → Contains a.world.sent x → Contains d.world.sent x
        stays x there = goes.stays x (ready.stays x there)

        set : Setting
        set = setting config bytes a.reached.0.epoch

        shown : ShowsStore seen config bytes a.reached.0.epoch chunk new d.world
        shown = record {
          members = λ id x found. members_then config bytes a.reached.0.epoch chunk seen old a.world a.reached a.shows t.after.durable d.world leads d.shows.entry.durable members marks id x (subst (λ xs. slice_get xs id ≡ Some x) servers found);
          master = subst (λ place. ShowsMaster seen chunk place d.world) (sym master) (subst (λ x. Shows chunk x d.world) (sym state) d.shows);
          sent = posted_all (ServersTell set chunk d.world) moment ids.Master messages old.sent new.sent posted
              (sent_then (ServersTell set chunk a.world) (ServersTell set chunk d.world) old.sent (λ message tells. body_grown set chunk a.world d.world stays message.from message.to message.body tells) a.shows.sent)
              (subst (AllByRecursion (ServersTell set chunk d.world)) (sym sends)
              (all_of_master set chunk d.world t.sent (chain_of_master by_config heard s t chain) (subst (λ (b : Birth). AllByRecursion (entry.MastersTell b.epoch chunk d.world) t.sent) same goes.tells)));
        }

    -- one is born
    born_then : (chunk : ℕ) (first : IsUnborn seen chunk old) (d : families.IsAlive chunk t.after) → first.epoch ≤ s.durable.epoch → families.GoesBorn chunk s t.after t.sent d → (k : unborn.IsUnborn chunk s) → RowsIn chunk s t.after t.sent (families.Unborn k) (families.Alive d)
        → (keeps chunk ≡ false → d.reached.0.origin ≡ []) → Then chunk (inl first) (families.Alive d)
    born_then chunk first d less goes k rows bare = record {
      last = (inr (record {
        world = d.world;
        reached = d.reached;
        shows = born_shown config bytes chunk seen old new first ids.Master moment messages servers posted m s t.after t.sent d less goes (chain_of_master by_config heard s t chain) right state sends master;
      }));
      goes = record {
        before = s.durable;
        behind = t.after.durable;
        had = had;
        has = has;
        ungiven = (unknown_on seen chunk first.epoch old.nodes.master s.durable had first.master).0;
        shows = d.shows.entry.durable;
        later = goes.later;
        leads = goes.leads;
        masters = goes.masters;
        members = goes.members;
        fresh = goes.fresh;
        rows = rows.0;
        calm = rows.1;
        bare = bare;
        servers = servers;
        messages = messages;
        copies = subst (AreCopiedSince chunk t.after.durable 0 true d.world) (sym sends) rows.2;
        moment = moment;
        posted = posted;
      };
      agrees = (refl, refl);
    }

    -- one isn't born yet
    silent_then : (chunk : ℕ) (first : IsUnborn seen chunk old) (d : unborn.IsUnborn chunk t.after) → first.epoch ≤ s.durable.epoch → families.GoesSilent chunk s t.after t.sent → Then chunk (inl first) (families.Unborn d)
    silent_then chunk first d less goes = record {
      last = (inl (stays_unborn config bytes chunk seen old new first ids.Master moment messages servers posted t.after.durable.epoch (let x = goes.rises in let up = x.epoch in omega arith)
          (subst (IsUnknown seen chunk t.after.durable.epoch) (sym master) (subst (λ (y : State). unborn.IsUnborn chunk y × (t.after.durable.epoch ≤ y.durable.epoch)) (sym state) (d, omega arith)))
          (subst (AllByRecursion _) (sym sends) (all_before chunk t.after.durable.epoch t.sent (chain_of_master by_config heard s t chain) goes.says))));
      goes = tt;
      agrees = tt;
    }

    each_then : (chunk : ℕ) (life : Lives chunk old) (c : families.Life chunk s) (d : families.Life chunk t.after) → Linked chunk s life c → families.Goes chunk (whole chunk) s t.after t.sent c d
        → RowsIn chunk s t.after t.sent c d → families.BornBare (keeps chunk) chunk s t.after c d → Then chunk life d
    each_then chunk (inl first) (families.Unborn c) (families.Unborn d) linked goes rows bare = silent_then chunk first d linked goes
    each_then chunk (inl first) (families.Unborn c) (families.Alive d) linked goes rows bare = born_then chunk first d linked goes c rows bare
    each_then chunk (inr a) (families.Alive c) (families.Unborn d) linked goes rows bare = absurd goes
    each_then chunk (inr a) (families.Alive c) (families.Alive d) linked goes rows bare = alive_then chunk a c d linked goes rows
    each_then chunk life c d linked goes rows bare = absurd linked

    abbrev then : (chunk : ℕ) → Then chunk (lives.life chunk) (f.last chunk)
    then chunk = each_then chunk (lives.life chunk) (family chunk) (f.last chunk) (begun chunk).linked (f.goes chunk) (by_rows.rows chunk) (f.bare chunk)

    -- ---- with what one is born

    abbrev OldIn : (chunk : ℕ) → families.Life chunk s → Type 0
    OldIn chunk (families.Unborn c) = Unit {0}
    OldIn chunk (families.Alive c) = (stamp many : ℕ) → BeginsOld seen config bytes old lives.life (take many (c.world.known.list stamp))

    -- a list there begins one of before
    old_begun : (chunk : ℕ) (life : Lives chunk old) → lives.life chunk ≡ life → (c : families.Life chunk s) → Linked chunk s life c → OldIn chunk c
    old_begun chunk life is (families.Unborn c) linked = tt
    old_begun chunk (inr a) is (families.Alive c) linked = λ stamp many.
        let x = (masters_leave a.world c.world linked.leads linked.masters).lists stamp many in
        record { chunk = chunk; alive = a; is = is; stamp = x.0; many = x.1; begins = x.2 }
    old_begun chunk (inl first) is (families.Alive c) linked = absurd linked

    old_edits : (edits : List Edit) → ComesFrom s family edits → (edits ≡ []) ⊎ BeginsOld seen config bytes old lives.life edits
    old_edits edits (inl none) = inl none
    old_edits edits (inr o) =
        let x = (subst (OldIn o.chunk) o.is (old_begun o.chunk (lives.life o.chunk) refl (family o.chunk) (begun o.chunk).linked)) o.stamp o.many in
        inr (subst (BeginsOld seen config bytes old lives.life) (sym o.begins) x)

    from_by : (chunk : ℕ) (life : Lives chunk old) (c : families.Life chunk s) (d : families.Life chunk t.after) (last : Lives chunk new) → Linked chunk s life c → Agrees chunk d last → families.BornFrom (ComesFrom s family) chunk s t.after c d → BornFrom seen config bytes chunk old new lives.life life last
    from_by chunk (inl first) (families.Unborn c) (families.Alive d) (inr b) linked agrees from =
        let whole : ComesFrom s family d.reached.0.origin = subst (ComesFrom s family) (take_all (length d.reached.0.origin) d.reached.0.origin (omega arith)) (from (length d.reached.0.origin)) in
        subst (λ (x : Birth). (x.origin ≡ []) ⊎ BeginsOld seen config bytes old lives.life x.origin) (sym agrees.1) (old_edits d.reached.0.origin whole)
    from_by chunk (inl first) (families.Unborn c) (families.Unborn d) (inr b) linked agrees from = absurd agrees
    from_by chunk (inl first) (families.Alive c) d (inr b) linked agrees from = absurd linked
    from_by chunk (inl first) c d (inl b) linked agrees from = tt
    from_by chunk (inr a) c d last linked agrees from = tt

    -- ---- the blocks of texts

    abbrev TextsIn : (chunk : ℕ) → families.Life chunk s → Type 0
    TextsIn chunk (families.Unborn c) = Unit {0}
    TextsIn chunk (families.Alive c) = TextsAmong among config.block config.chunk c.world

    texts_begun : (chunk : ℕ) (life : Lives chunk old) (c : families.Life chunk s) → Linked chunk s life c → TextsOf seen config bytes among chunk old life → TextsIn chunk c
    texts_begun chunk life (families.Unborn c) linked texts = tt
    texts_begun chunk (inr a) (families.Alive c) linked texts = old_among among config.block config.chunk a.world c.world texts (masters_leave a.world c.world linked.leads linked.masters).lists
    texts_begun chunk (inl first) (families.Alive c) linked texts = absurd linked

    old_texts : (edits : List Edit) → ComesFrom s family edits → HasBlocks config.block among (replica_of config.chunk edits).bytes
    old_texts edits (inl none) = subst (λ es. HasBlocks config.block among (replica_of config.chunk es).bytes) (sym none) empty
    old_texts edits (inr o) =
        let texts : TextsAmong among config.block config.chunk o.alive.world = subst (TextsIn o.chunk) o.is (texts_begun o.chunk (lives.life o.chunk) (family o.chunk) (begun o.chunk).linked (lives.texts o.chunk)) in
        subst (λ es. HasBlocks config.block among (replica_of config.chunk es).bytes) (sym o.begins) (texts o.stamp o.many)

    texts_by : (chunk : ℕ) (d : families.Life chunk t.after) (life : Lives chunk new) → Agrees chunk d life → ListsFrom (ComesFrom s family) chunk t.after d → TextsOf seen config bytes among chunk new life
    texts_by chunk d (inl first) agrees lists = tt
    texts_by chunk (families.Alive d) (inr a) agrees lists = λ stamp many.
        subst (λ (w : ChunkWorld). HasBlocks config.block among (replica_of config.chunk (take many (w.known.list stamp))).bytes) (sym agrees.0) (old_texts (take many (d.world.known.list stamp)) (lists stamp many))
    texts_by chunk (families.Unborn d) (inr a) agrees lists = absurd agrees

    -- ---- copies

    copy_by : (one other : ℕ) (l : families.Life one t.after) (m : families.Life other t.after) (x : Lives one new) (y : Lives other new) → Agrees one l x → Agrees other m y → (me : ℕ) (at stamp : Stamp) → IsCopyOf one other t.after l m me at stamp → IsCopy seen config bytes one other new x y me at stamp
    copy_by one other (families.Alive l) (families.Alive n) (inr x) (inr y) p q me at stamp k =
        subst (λ (b : Birth). IsCopiedTo x.world y.world b me at stamp) (sym q.1)
        (subst (λ (w : ChunkWorld). IsCopiedTo x.world w n.reached.0 me at stamp) (sym q.0) (subst (λ (w : ChunkWorld). IsCopiedTo w n.world n.reached.0 me at stamp) (sym p.0) k))
    copy_by one other (families.Alive l) (families.Alive n) (inl x) (inr y) p q me at stamp k = absurd p
    copy_by one other (families.Unborn l) (families.Alive n) x (inr y) p q me at stamp k = absurd k
    copy_by one other l (families.Unborn n) x (inr y) p q me at stamp k = absurd q
    copy_by one other l (families.Unborn n) x (inl y) p q me at stamp k = absurd k
    copy_by one other l (families.Alive n) x (inl y) p q me at stamp k = absurd q

    -- of what is told of copies, and stands
    all_copies : (sent : List Message) → AllByRecursion (λ (m : Message). is_kept keeps m.body ≡ true → CopiesOf t.after f.last m) sent
        → AllByRecursion (λ (m : Message). HasSaid new.sent m → CopiesTo seen config bytes new (λ chunk. (then chunk).last) m.to m.body) sent
    all_copies [] all = tt
    all_copies (message ∷ sent) all = (λ there. by_body message.to message.body refl refl there all.0, all_copies sent all.1)
      where
        by_body : (to : NodeId) (body : Body) → message.to ≡ to → message.body ≡ body → HasSaid new.sent message → (is_kept keeps body ≡ true → CopiesThere t.after f.last to body) → CopiesTo seen config bytes new (λ chunk. (then chunk).last) to body
        by_body (ids.Server me) (bodies.MakeCopy handle at new_handle stamp) node is there k =
            copy_by handle new_handle (f.last handle) (f.last new_handle) (then handle).last (then new_handle).last (then handle).agrees (then new_handle).agrees me at stamp (k (copied_there new.sent message me handle new_handle at stamp there node is))
        by_body (ids.Server me) body node is there k = tt
        by_body to body node is there k = tt

    -- ---- all of them

    pub chain_next : AllNext seen config bytes among step about old new lives
    chain_next = record {
      last = λ chunk. (then chunk).last;
      goes = λ chunk. (then chunk).goes;
      from = λ chunk. from_by chunk (lives.life chunk) (family chunk) (f.last chunk) (then chunk).last (begun chunk).linked (then chunk).agrees (f.origins chunk);
      texts = λ chunk. texts_by chunk (f.last chunk) (then chunk).last (then chunk).agrees (family_lists keeps whole s t.after t.sent family f chunk);
      copies = copies_there seen config bytes among step about old new lives (λ chunk. (then chunk).last) (λ chunk. (then chunk).goes) moment messages posted
          (subst (AllByRecursion (λ (message : Message). HasSaid new.sent message → CopiesTo seen config bytes new (λ chunk. (then chunk).last) message.to message.body)) (sym sends) (all_copies t.sent f.copies));
    }
