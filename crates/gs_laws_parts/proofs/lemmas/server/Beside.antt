-- A server to which nothing happens is shown still where the machine goes on.
use Rattle.std.proofs.Common.{◌≡◌, ◌≢◌, ℕ, ◌+◌, ◌<◌, ◌≤◌, ◌⊎◌, inl, inr, ⊎_elim, Bool, true, false, List, [], ◌∷◌, ◌++◌, Option, Some, refl, sym, ap, subst, ◌∙◌, arith}
use Rattle.std.specs.Prelude.{Contains, is_some}
use Rattle.std.specs.List.{AllByRecursion}
use Rattle.std.proofs.lemmas.Bool.{cases_lt}
use Rattle.gs_base.specs.declared.epoch.EpochEnd.{EpochEnd}
use Rattle.gs_base.specs.declared.epoch.EpochEnd.TheVariants.{Prepare}
use Rattle.gs_replica.specs.Stands.{Edit}
use Rattle.gs_msg.specs.declared.body.Body.{Body}
use Rattle.gs_msg.specs.declared.body.Body.TheVariants as bodies
use Rattle.gs_msg.specs.declared.body.Reported.{Reported}
use Rattle.gs_msg.specs.declared.chunk.Chunk.{Chunk}
use Rattle.gs_msg.specs.declared.chunk.Chunk.TheVariants as chunks
use Rattle.gs_msg.specs.declared.message.Message.{Message}
use Rattle.gs_msg.specs.declared.node.NodeId.{NodeId}
use Rattle.gs_msg.specs.declared.node.NodeId.TheVariants as nodes
use Rattle.gs_store.specs.Slots.{sealed_of}
use Rattle.gs_store.specs.Standing.{LiveUndamaged}
use Rattle.gs_server.specs.Places.{Place}
use Rattle.gs_server.specs.Servers.{Server, place_of}
use Rattle.gs_server.specs.Runs.{slot_in}
use Rattle.gs_laws_chunk.specs.machine.Machine as machine
use Rattle.gs_laws_chunk.specs.machine.Machine.{MemberLease, Member, Known, Sent, ChunkWorld, WasTold, Create, Advance, Promised, Grant, Forward, Ack, CopyOut, CopyIn, Report, Drop, Epoch, Learned}
use Rattle.gs_laws_chunk.specs.machine.Events.{Event, Prepares, Can, happens, marked, Leads, Rests, Goes}
use Rattle.gs_laws_chunk.specs.machine.Laws.{IsReached}
use Rattle.gs_laws_chunk.specs.machine.Acting.{actor}
use Rattle.gs_laws_chunk.proofs.lemmas.machine.Worlds.{leads_then}
use Rattle.gs_laws_chunk.proofs.lemmas.machine.Facts.{reached_world}
use Rattle.gs_laws_chunk.proofs.lemmas.machine.Lasting.{agrees, stays_known}
use Rattle.gs_laws_chunk.proofs.lemmas.machine.Resting.{leases_rest, members_learned, none_ahead}
use Rattle.gs_laws_chunk.proofs.lemmas.machine.Acting.{others_stay}
use Rattle.gs_laws_parts.specs.server.Showing.{Setting, SealUndamaged, SealCounts, LiveCounts, ShowsPlace, ShowsMember}
use Rattle.gs_laws_parts.specs.server.Messages.{ReportsIt, NamesIt, TellsEpochTo}
use Rattle.gs_laws_parts.specs.server.Telling.{SaysOf, TellsServer, TellsTo, ReportsAll, NamesAll, TellsBody, ServersTell}
use Rattle.gs_laws_parts.specs.server.Beside.{IsSameMember, IsWholeAt, MayBeWhole, HasPrepared}
use Rattle.gs_laws_parts.proofs.lemmas.server.Prepared.{only_prepares}
use Rattle.gs_laws_parts.proofs.lemmas.server.Places.{lease_at_longer}
use Rattle.gs_laws_parts.proofs.lemmas.server.Promising.{lives}

-- ---- what is known grows

-- what a server's place is shown by: epochs as they began, and the list of the view of its lease, which gets longer at its end
record Longer (a b : Known) (lease : Option MemberLease) : Type 0 where
  current : a.current ≤ b.current
  how : (epoch : ℕ) → epoch ≤ a.current → b.how epoch ≡ a.how epoch
  list : (k : MemberLease) → lease ≡ Some k → (more : List Edit) × (b.list k.stamp ≡ a.list k.stamp ++ more)

-- of what is live nothing more counts but behind a new prepare
live_before : (a b : Known) (lease : Option MemberLease) (epoch : ℕ) → Longer a b lease → epoch ≤ a.current → LiveCounts b epoch → LiveCounts a epoch ⊎ ((x : ℕ) × (a.current < x) × (x ≤ b.current) × (b.how x ≡ Prepare))
live_before a b lease epoch g known counts = ⊎_elim
    (λ (x : (x : ℕ) × (epoch < x) × (x ≤ b.current) × (b.how x ≡ Prepare)). ⊎_elim
    (λ (late : a.current < x.0). inr (x.0, late, x.2, x.3))
    (λ (old : x.0 ≤ a.current). inl (inl (x.0, x.1, old, sym (g.how x.0 old) ∙ x.3)))
    (cases_lt a.current x.0))
    (λ rolled. inl (inr (sym (g.how epoch known) ∙ rolled)))
    counts

counts_before : (a b : Known) (lease : Option MemberLease) (epoch : ℕ) → Longer a b lease → SealCounts b epoch → SealCounts a epoch
counts_before a b lease epoch g counts known = sym (g.how (epoch + 1) known) ∙ counts (let l = g.current in omega arith)

place_later : (c : Setting) (a b : Known) (epoch : ℕ) (p : Place) (m : Member) → Longer a b m.lease → m.epoch ≤ a.current → (m.intact ≡ true → ((x : ℕ) × (a.current < x) × (x ≤ b.current) × (b.how x ≡ Prepare)) → LiveUndamaged p.slot.live) → ShowsPlace c a epoch p m → ShowsPlace c b epoch p m
place_later c a b epoch p m g known anew is = record {
  epoch_is = is.epoch_is;
  early = is.early;
  promise = is.promise;
  carried = is.carried;
  live = is.live;
  image = is.image;
  taken = is.taken;
  lease = lease_at_longer c a.list b.list p.lease m.lease g.list is.lease;
  promised = is.promised;
  intact = λ whole. let x = is.intact whole in (λ counts. ⊎_elim (λ old. x.0 old) (λ new. anew whole new) (live_before a b m.lease m.epoch g known counts), λ counts. x.1 (counts_before a b m.lease m.epoch g counts));
}

place_marked : (c : Setting) (k : Known) (epoch : ℕ) (p : Place) (m : Member) (whole : Bool) → (whole ≡ true → (LiveCounts k m.epoch → LiveUndamaged p.slot.live) × (SealCounts k m.epoch → SealUndamaged (sealed_of p.slot))) → ShowsPlace c k epoch p m → ShowsPlace c k epoch p (marked m whole)
place_marked c k epoch p m whole undamaged is = record {
  epoch_is = is.epoch_is;
  early = is.early;
  promise = is.promise;
  carried = is.carried;
  live = is.live;
  image = is.image;
  taken = is.taken;
  lease = is.lease;
  promised = is.promised;
  intact = undamaged;
}

-- ---- in worlds of the machine

reached_on : (w last : ChunkWorld) → IsReached w → Leads w last → IsReached last
reached_on w last reached leads = (reached.0, leads_then _ w last reached.1 leads)

module _ (w last : ChunkWorld) (reached : IsReached w) (leads : Leads w last) where
  longer : (me : ℕ) → Longer w.known last.known (w.members me).lease
  longer me =
      let ok = reached_world w reached in
      let x = stays_known w ok last leads in
      let before = agrees w ok in
      let behind = agrees last (reached_world last (reached_on w last reached leads)) in
      record {
        current = (let l = x.epoch in let a = before.epoch in let b = behind.epoch in omega arith);
        how = λ epoch within. behind.how epoch ∙ x.how epoch (let a = before.epoch in omega arith) ∙ sym (before.how epoch);
        list = λ k held. x.list k.stamp (leases_rest w ok me k held).settled;
      }

  -- a prepare of what is known is one of the master's
  prepared_there : ((x : ℕ) × (w.known.current < x) × (x ≤ last.known.current) × (last.known.how x ≡ Prepare)) → HasPrepared w last
  prepared_there new =
      let a = (agrees w (reached_world w reached)).epoch in
      let b = (agrees last (reached_world last (reached_on w last reached leads))).epoch in
      (new.0, (let l = new.1 in omega arith), (let l = new.2 in omega arith), new.3)

  module _ (c : Setting) (me epoch : ℕ) (p : Place) where
    -- no server is ahead of what is known
    known_there : (w.members me).epoch ≤ w.known.current
    known_there = let ok = reached_world w reached in let l = none_ahead w ok me in let e = (agrees w ok).epoch in omega arith

    -- What is kept of a chunk is shown still where its member stays; at a prepare, if nothing of what is live is damaged.
    pub place_beside : last.members me ≡ w.members me → (HasPrepared w last → (w.members me).intact ≡ true → LiveUndamaged p.slot.live) → ShowsPlace c w.known epoch p (w.members me) → ShowsPlace c last.known epoch p (last.members me)
    place_beside same anew shows = subst (λ m. ShowsPlace c last.known epoch p m) (sym same) (place_later c w.known last.known epoch p (w.members me) (longer me) known_there (λ whole new. anew (prepared_there new) whole) shows)

    marked_so : (whole : Bool) → last.members me ≡ marked (w.members me) whole → (whole ≡ true → LiveUndamaged p.slot.live × (SealCounts last.known (w.members me).epoch → SealUndamaged (sealed_of p.slot))) → ShowsPlace c w.known epoch p (w.members me)
        → ShowsPlace c last.known epoch p (last.members me)
    marked_so whole is undamaged shows =
        subst (λ m. ShowsPlace c last.known epoch p m) (sym is)
        (place_marked c last.known epoch p (marked (w.members me) false) whole
        (λ yes. let x = undamaged yes in (λ _. x.0, x.1))
        (place_later c w.known last.known epoch p (marked (w.members me) false) (longer me) known_there (λ none. absurd (cc))
        (place_marked c w.known epoch p (w.members me) false (λ none. absurd (cc)) shows)))

    -- And so it is where the master's events have marked it, if nothing of a member that is marked whole is damaged.
    pub place_by_marks : (whole : Bool) → IsSameMember (w.members me) whole (last.members me) → (HasPrepared w last → last.members me ≡ marked (w.members me) whole)
        → (whole ≡ true → LiveUndamaged p.slot.live × (SealCounts last.known (w.members me).epoch → SealUndamaged (sealed_of p.slot))) → ShowsPlace c w.known epoch p (w.members me) → ShowsPlace c last.known epoch p (last.members me)
    place_by_marks whole is marks undamaged shows = ⊎_elim
        (λ same. place_beside same
        (λ new intact. (undamaged (sym (ap (λ (n : Member). n.intact) (marks new)) ∙ ap (λ (n : Member). n.intact) same ∙ intact)).0)
        shows)
        (λ mark. marked_so whole mark undamaged shows)
        is

  module _ (c : Setting) (chunk : ℕ) (s : Server) where
    pub shown_beside : last.members s.me ≡ w.members s.me → (HasPrepared w last → (w.members s.me).intact ≡ true → LiveUndamaged (slot_in chunk s).live) → ShowsMember c chunk w s → ShowsMember c chunk last s
    shown_beside same anew shows = place_beside c s.me s.kept.epoch (place_of chunk s) same anew shows

    -- a member of the settled view that is marked can't be rolled back to what it has sealed before
    never_counts : (last.members s.me).epoch ≡ (w.members s.me).epoch → MayBeWhole chunk last s → SealCounts last.known (w.members s.me).epoch → SealUndamaged (sealed_of (slot_in chunk s))
    never_counts at may counts =
        let end = reached_on w last reached leads in
        let ok = reached_world last end in
        let now = (agrees last ok).epoch in
        let before = may.before in
        let next : (w.members s.me).epoch + 1 ≤ last.entry.epoch = omega arith in
        let how = counts (omega arith) in
        let there = may.whole in
        let learned = members_learned last ok may.still s.me ((w.members s.me).epoch + 1) there.member next how in
        absurd (omega arith)

    same_epoch : (whole : Bool) → IsSameMember (w.members s.me) whole (last.members s.me) → (last.members s.me).epoch ≡ (w.members s.me).epoch
    same_epoch whole is = ⊎_elim (λ same. ap (λ (n : Member). n.epoch) same) (λ mark. ap (λ (n : Member). n.epoch) mark) is

    pub shown_marked : (whole : Bool) → IsSameMember (w.members s.me) whole (last.members s.me) → (HasPrepared w last → last.members s.me ≡ marked (w.members s.me) whole) → (whole ≡ true → MayBeWhole chunk last s) → ShowsMember c chunk w s → ShowsMember c chunk last s
    shown_marked whole is marks may shows = place_by_marks c s.me s.kept.epoch (place_of chunk s) whole is marks
        (λ yes. let x = may yes in let there = x.whole in (there.undamaged, never_counts (same_epoch whole is) x)) shows

-- ---- at one event

-- an event of another server, or of the master; at a prepare it is marked only where it is whole
module _ (w : ChunkWorld) (e : Event) (reached : IsReached w) (can : Can w e) (c : Setting) (chunk : ℕ) (s : Server) where
  pub shown_still : actor e ≢ Some s.me → ((whole : ℕ → Bool) → e ≡ Prepares whole → whole s.me ≡ true → IsWholeAt chunk w s) → ShowsMember c chunk w s → ShowsMember c chunk (happens w e) s
  shown_still apart may shows =
      let leads : Leads w (happens w e) = Goes w e Rests can in
      ⊎_elim
      (λ same. shown_beside w (happens w e) reached leads c chunk s same (anew same) shows)
      (λ (x : (whole : ℕ → Bool) × (e ≡ Prepares whole)). prepared x.0 x.1)
      (others_stay w e s.me apart)
    where
      anew : (happens w e).members s.me ≡ w.members s.me → HasPrepared w (happens w e) → (w.members s.me).intact ≡ true → LiveUndamaged (slot_in chunk s).live
      anew same new intact =
          let x = only_prepares w e (agrees w (reached_world w reached)).epoch new in
          let yes : x.0 s.me ≡ true = sym (ap (λ (v : Event). ((happens w v).members s.me).intact) x.1) ∙ ap (λ (n : Member). n.intact) same ∙ intact in
          let there = may x.0 x.1 yes in
          there.undamaged

      marks : (whole : ℕ → Bool) → Can w (Prepares whole) → (whole s.me ≡ true → IsWholeAt chunk w s) → ShowsMember c chunk (happens w (Prepares whole)) s
      marks whole can may =
          let leads : Leads w (happens w (Prepares whole)) = Goes w (Prepares whole) Rests can in
          shown_marked w (happens w (Prepares whole)) reached leads c chunk s (whole s.me) (inr refl) (λ new. refl)
          (λ yes. let there = may yes in record {
            still = can.0;
            before = (let l = none_ahead w (reached_world w reached) s.me in omega arith);
            whole = record { member = there.member; live = there.live; undamaged = there.undamaged };
          }) shows

      prepared : (whole : ℕ → Bool) → e ≡ Prepares whole → ShowsMember c chunk (happens w e) s
      prepared whole is = subst (λ x. ShowsMember c chunk (happens w x) s) (sym is) (marks whole (subst (Can w) is can) (may whole is))

-- ---- what is said stays said

module _ (c : Setting) (chunk : ℕ) (w last : ChunkWorld) (stays : (x : Sent) → Contains w.sent x → Contains last.sent x) where
  told_still : (server : ℕ) (body : machine.Message) → WasTold w server body → WasTold last server body
  told_still server body told = stays (record { server = server; body = body }) told

  server_still : (to : ℕ) (said : Chunk) → TellsServer c w to said → TellsServer c last to said
  server_still to (chunks.Create stamp) x = (x.0, x.1, x.2, told_still to (Create x.0) x.3)
  server_still to (chunks.Advance stamp) x = (x.0, x.1, told_still to (Advance x.0) x.2)
  server_still to (chunks.Grant given) x = (x.0, x.1, told_still to (Grant x.0 given.members) x.2)
  server_still to (chunks.Forward stamp number req op carried) x = (x.0, x.1, x.2, x.3, x.4, x.5, x.6, told_still to (Forward x.0 x.1 x.2) x.7)
  server_still to (chunks.CopyOut stamp target with_sealed) x = (x.0, x.1, told_still to (CopyOut x.0 target with_sealed) x.2)
  server_still to (chunks.CopyIn stamp image sealed) x = (x.0, x.1, x.2, x.3, x.4, x.5, x.6, told_still to (CopyIn x.0 x.1 x.2) x.7)
  server_still to (chunks.Drop epoch promise) x = (x.0, x.1, told_still to (Drop epoch x.0) x.2)
  server_still to (chunks.Promised stamp count carried) x = tt
  server_still to (chunks.Unpromised stamp refusal) x = tt
  server_still to (chunks.Renew stamp) x = tt
  server_still to (chunks.Renewed stamp end) x = tt
  server_still to (chunks.Edit req stamp op) x = tt
  server_still to (chunks.Ack stamp count) x = tt
  server_still to (chunks.Nack stamp refusal) x = tt
  server_still to (chunks.Fetch req stamp epoch asked) x = tt
  server_still to (chunks.Bad stamp) x = tt

  says_still : (from : NodeId) (said : Chunk) → SaysOf c w from said → SaysOf c last from said
  says_still (nodes.Server from) (chunks.Promised stamp count carried) x = (x.0, x.1, told_still from (Promised x.0 count carried) x.2)
  says_still (nodes.Server from) (chunks.Ack stamp count) x = (x.0, x.1, told_still from (Ack x.0 count) x.2)
  says_still (nodes.Server from) (chunks.Create stamp) x = tt
  says_still (nodes.Server from) (chunks.Advance stamp) x = tt
  says_still (nodes.Server from) (chunks.Grant given) x = tt
  says_still (nodes.Server from) (chunks.Forward stamp number req op carried) x = tt
  says_still (nodes.Server from) (chunks.CopyOut stamp target with_sealed) x = tt
  says_still (nodes.Server from) (chunks.CopyIn stamp image sealed) x = tt
  says_still (nodes.Server from) (chunks.Drop epoch promise) x = tt
  says_still (nodes.Server from) (chunks.Unpromised stamp refusal) x = tt
  says_still (nodes.Server from) (chunks.Renew stamp) x = tt
  says_still (nodes.Server from) (chunks.Renewed stamp end) x = tt
  says_still (nodes.Server from) (chunks.Edit req stamp op) x = tt
  says_still (nodes.Server from) (chunks.Nack stamp refusal) x = tt
  says_still (nodes.Server from) (chunks.Fetch req stamp epoch asked) x = tt
  says_still (nodes.Server from) (chunks.Bad stamp) x = tt
  says_still nodes.Master said x = tt
  says_still (nodes.Client client) said x = tt

  to_still : (to : NodeId) (said : Chunk) → TellsTo c w to said → TellsTo c last to said
  to_still (nodes.Server to) said x = server_still to said x
  to_still nodes.Master said x = tt
  to_still (nodes.Client client) said x = tt

  reports_still : (from epoch : ℕ) (replicas : List Reported) → AllByRecursion (ReportsIt chunk w from epoch) replicas → AllByRecursion (ReportsIt chunk last from epoch) replicas
  reports_still from epoch [] all = tt
  reports_still from epoch (r ∷ replicas) all = ((λ same. let x = all.0 same in (x.0, x.1, told_still from (Report epoch x.0) x.2)), reports_still from epoch replicas all.1)

  names_still : (from epoch : ℕ) (handles : List ℕ) → AllByRecursion (NamesIt chunk w from epoch) handles → AllByRecursion (NamesIt chunk last from epoch) handles
  names_still from epoch [] all = tt
  names_still from epoch (h ∷ handles) all = ((λ same. told_still from (Learned epoch) (all.0 same)), names_still from epoch handles all.1)

  all_reports_still : (from : NodeId) (epoch : ℕ) (replicas : List Reported) → ReportsAll chunk w from epoch replicas → ReportsAll chunk last from epoch replicas
  all_reports_still (nodes.Server from) epoch replicas all = reports_still from epoch replicas all
  all_reports_still nodes.Master epoch replicas all = tt
  all_reports_still (nodes.Client client) epoch replicas all = tt

  all_names_still : (from : NodeId) (epoch : ℕ) (handles : List ℕ) → NamesAll chunk w from epoch handles → NamesAll chunk last from epoch handles
  all_names_still (nodes.Server from) epoch handles all = names_still from epoch handles all
  all_names_still nodes.Master epoch handles all = tt
  all_names_still (nodes.Client client) epoch handles all = tt

  epoch_still : (to : NodeId) (epoch : ℕ) (end : EpochEnd) → TellsEpochTo c.born w to epoch end → TellsEpochTo c.born last to epoch end
  epoch_still (nodes.Server to) epoch end told = λ late. told_still to (Epoch epoch end) (told late)
  epoch_still nodes.Master epoch end told = tt
  epoch_still (nodes.Client client) epoch end told = tt

  body_still : (from to : NodeId) (body : Body) → TellsBody c chunk w from to body → TellsBody c chunk last from to body
  body_still from to (bodies.About handle said) x = λ same. let y = x same in (says_still from said y.0, to_still to said y.1)
  body_still from to (bodies.Push req bytes) x = x
  body_still from to (bodies.Report epoch replicas) x = all_reports_still from epoch replicas x
  body_still from to (bodies.Learned epoch handles) x = all_names_still from epoch handles x
  body_still from to (bodies.Epoch epoch end) x = epoch_still to epoch end x
  body_still from to (bodies.MakeCopy handle at new_handle stamp) x = tt
  body_still from to (bodies.Call req call) x = tt
  body_still from to (bodies.Reply req result) x = tt
  body_still from to (bodies.Done req result) x = tt
  body_still from to (bodies.Bytes req result) x = tt
  body_still from to (bodies.Behind epoch) x = tt

  pub tells_still : (m : Message) → ServersTell c chunk w m → ServersTell c chunk last m
  tells_still m told = body_still m.from m.to m.body told

-- a replica that is whole is live in the machine
pub whole_live : (c : Setting) (chunk : ℕ) (w : ChunkWorld) (s : Server) → ShowsMember c chunk w s → IsWholeAt chunk w s → is_some (w.members s.me).live ≡ true
whole_live c chunk w s shows whole = let y = lives c (slot_in chunk s) (w.members s.me).live shows.live whole.live in ap is_some y.1
