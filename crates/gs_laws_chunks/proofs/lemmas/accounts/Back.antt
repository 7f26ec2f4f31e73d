-- A survivor that has rolled back keeps the text of the prepare in any later world, as long as it makes no greater promise.
use Rattle.std.proofs.Common.{◌≡◌, ◌∙◌, ◌+◌, ◌≤◌, inl, inr, ℕ, true, false, List, Some, sym, ap, subst, arith}
use Rattle.std.specs.Prelude.{is_some, slice_get}
use Rattle.gs_base.specs.Stamps.{is_before}
use Rattle.gs_base.specs.declared.epoch.EpochEnd.TheVariants.{Rollback}
use Rattle.gs_base.specs.declared.numbers.ReqId.{ReqId}
use Rattle.gs_base.specs.declared.numbers.Stamp.{Stamp}
use Rattle.gs_laws_chunks.specs.accounts.Accounts.{Account, settled_edits, view_at}
use Rattle.gs_laws_chunks.specs.accounts.Running.{Setup}
use Rattle.gs_laws_chunk.proofs.lemmas.machine.Facts.{reached_world}
use Rattle.gs_laws_chunk.proofs.lemmas.machine.Known.{Fit, IsPrepared, Later}
use Rattle.gs_laws_chunk.proofs.lemmas.machine.Lasting.{stays_known}
use Rattle.gs_laws_chunk.proofs.lemmas.machine.Prepared as preparing
use Rattle.gs_laws_chunk.proofs.lemmas.machine.Prepared.{prepared_rests}
use Rattle.gs_laws_chunk.proofs.lemmas.machine.Resting.{none_ahead}
use Rattle.gs_laws_chunk.proofs.lemmas.machine.Worlds.{WorldOk, leads_later}
use Rattle.gs_laws_chunk.specs.machine.Events.{is_of}
use Rattle.gs_laws_chunk.specs.machine.Laws.{IsSurvivor, prepared_list}
use Rattle.gs_laws_chunk.specs.machine.Machine.{ChunkWorld}
use Rattle.gs_laws_chunk.specs.machine.Resting.{PreparedRests}
use Rattle.gs_laws_chunk.specs.machine.Stamps as stamps
use Rattle.gs_laws_chunk.specs.machine.Stamps.{stamp_at}
use Rattle.gs_laws_lift.specs.stores.Showing.{IsServer, setting}
use Rattle.gs_laws_parts.proofs.lemmas.server.Promising.{lives}
use Rattle.gs_laws_parts.proofs.lemmas.server.Stamps.{not_before, start_stamp}
use Rattle.gs_laws_parts.specs.server.Showing.{ShowsPlace}
use Rattle.gs_lease.specs.declared.view.View.{View}
use Rattle.gs_world.specs.Histories.{History}
use Rattle.gs_server.specs.Runs.{slot_in}
use Rattle.gs_server.specs.Servers.{Server, place_of}
use Rattle.gs_master_spec.specs.Durable.{is_listed}
use Rattle.gs_store.specs.Learning.{start_of}
use Rattle.gs_store.specs.Standing.{IsToldIn, LiveUndamaged}
use Rattle.gs_laws_chunks.proofs.lemmas.accounts.Surviving.{both_true, epoch_there, live_text, prepared_last, sealed_there, still, survivor_there, text_then, was_then}
use Rattle.gs_laws_chunks.specs.accounts.Joined.{IsSeen, SeenOn, SeenSince}
use Rattle.gs_laws_chunks.specs.accounts.Sealing.{IsLiveWith}
use Rattle.gs_laws_chunks.specs.accounts.Seen.{SeenRolledBackStay}
use Rattle.gs_laws_chunks.specs.accounts.Upgrading.{Survives}

module _ {D : Type 0} (x : Setup D) (bytes : ReqId → List ℕ) (prepared now later : History D) (before after b : Account) (chunk id : ℕ) (view : View) (s r : Server) (k : SeenSince x bytes chunk prepared before now after) (last : IsSeen x bytes chunk later b) (on : SeenOn x bytes chunk now after later b k.last last)
    (survives : Survives before after chunk id) (listed : is_listed before.durable chunk ≡ true) (at : slice_get now.nodes.servers id ≡ Some s) (rolled : s.kept.epoch ≡ before.durable.epoch + 1) (there : slice_get later.nodes.servers id ≡ Some r) where
  abbrev w : ChunkWorld
  w = k.last.alive.world

  abbrev v : ChunkWorld
  v = last.alive.world

  abbrev e : ℕ
  e = before.durable.epoch

  ok : WorldOk w
  ok = reached_world w k.last.alive.reached

  ok_later : WorldOk v
  ok_later = reached_world v last.alive.reached

  me : s.me ≡ id
  me = (k.last.keeps.servers id s at).me

  server : IsServer x.config id r
  server = last.keeps.servers id r there

  survivor : IsSurvivor w s.me
  survivor = survivor_there x bytes chunk prepared before now after k listed id s at survives

  known : w.entry.was_known ≡ true
  known = was_then x bytes chunk prepared before now after k listed

  here : (w.members s.me).epoch ≡ e + 1
  here = epoch_there x bytes chunk prepared before now after k listed id s at survives ∙ rolled

  first : ((w.members s.me).promise ≡ stamps.start_of (e + 1)) × ((w.members s.me).live ≡ Some (prepared_list w))
  first = (sealed_there x bytes chunk prepared before now after k listed id s at survives).rolled here

  -- the rollback is begun
  begun : (w.known.current ≡ e + 1) × (w.known.how (e + 1) ≡ Rollback)
  begun = elim (still x bytes chunk prepared before now after k) [
    | inl y ↦ absurd (let ahead = none_ahead w ok s.me in let z = y.0 in let h = here in omega arith)
    | inr y ↦
        let m = ok.entry in
        let roll = m.rolling y.1 in
        let same : e + 1 ≡ roll.e + 1 = (let n = roll.next in let z = y.0 in let at = m.epoch in omega arith) in
        (sym m.epoch ∙ sym y.0, ap w.known.how same ∙ roll.how)
  ]

  onward : Later w.known v.known
  onward = leads_later w v on.leads ok

  within : e + 1 ≤ w.known.current
  within = let c = begun.0 in omega arith

  was : IsPrepared w.known e
  was = preparing.prepared w ok e (still x bytes chunk prepared before now after k) known

  still_was : IsPrepared v.known e
  still_was = let c = onward.current in let l = within in ((omega arith), onward.how e (omega arith) ∙ was.1, onward.kept e (omega arith) ∙ was.2)

  rests : PreparedRests w
  rests = prepared_rests w ok e (still x bytes chunk prepared before now after k) known

  stamp : v.known.prepared e ≡ w.entry.prepared.stamp
  stamp = onward.prepared e (let l = within in omega arith) ∙ sym (prepared_last x bytes chunk prepared before now after k listed).stamp

  -- who could give the chunk back then can still
  fit : Fit v.known e id
  fit = elim survivor.fit [
    | inl member ↦ inl (ap (λ t. v.known.members t id) stamp ∙ onward.members w.entry.prepared.stamp id (let l = rests.within in let m = (ok.entry).stamp in omega arith)
        ∙ ap (λ t. w.known.members t id) (prepared_last x bytes chunk prepared before now after k listed).stamp ∙ (prepared_last x bytes chunk prepared before now after k listed).members id ∙ subst (λ n. is_of w.entry.prepared.members n ≡ true) me member)
    | inr holder ↦ inr (onward.carries e id ((prepared_last x bytes chunk prepared before now after k listed).holding id (subst (λ n. w.entry.holders n ≡ true) me holder)))
  ]

  list : v.known.list (v.known.prepared e) ≡ prepared_list w
  list = ap v.known.list stamp ∙ (stays_known w ok v on.leads).quiet w.entry.prepared.stamp rests.within rests.free

  shows : ShowsPlace (setting x.config bytes last.alive.reached.0.epoch) v.known r.kept.epoch (place_of chunk r) (v.members id)
  shows = last.alive.shows.members id r there

  promised : is_before (start_of (e + 1)) (slot_in chunk r).promise ≡ false → (v.members id).promise ≡ stamps.start_of (e + 1)
  promised below =
      let least = (stays_known w ok v on.leads).promises id in
      let was : (w.members id).promise ≡ stamps.start_of (e + 1) = subst (λ n. (w.members n).promise ≡ stamps.start_of (e + 1)) me first.0 in
      let most = not_before (stamps.start_of (e + 1)) (v.members id).promise (ap (λ (u : Stamp). is_before u (stamp_at (v.members id).promise)) (start_stamp (e + 1)) ∙ ap (is_before (start_of (e + 1))) (sym shows.promise) ∙ below) in
      omega arith

  stays_there : view_at before chunk ≡ Some view → is_before (start_of (e + 1)) (slot_in chunk r).promise ≡ false → is_some (slot_in chunk r).live ≡ true → LiveUndamaged (slot_in chunk r).live → IsLiveWith x.config.chunk (start_of (e + 1)) (settled_edits before chunk) (slot_in chunk r)
  stays_there is below live whole =
      let c = setting x.config bytes last.alive.reached.0.epoch in
      let l = lives c (slot_in chunk r) (v.members id).live shows.live live in
      let same : l.0 ≡ prepared_list w = (ok_later.seals id).rolled e (let n = onward.current in let m = within in omega arith) (onward.how (e + 1) within ∙ begun.1) still_was (promised below) fit l.0 l.1 ∙ list in
      let told : IsToldIn x.config.block x.config.chunk (slot_in chunk r) l.0 =
      subst (λ size. IsToldIn x.config.block size (slot_in chunk r) l.0) server.size (subst (λ block. IsToldIn block r.chunk (slot_in chunk r) l.0) server.block ((last.apart id r there).live l.0 l.1)) in
      subst (λ edits. IsLiveWith x.config.chunk (start_of (e + 1)) edits (slot_in chunk r)) (same ∙ sym (text_then x bytes chunk prepared before now after k listed view is))
      (live_text x.config.block x.config.chunk (start_of (e + 1)) (slot_in chunk r) l.0 (shows.promise ∙ ap stamp_at (promised below) ∙ start_stamp (e + 1)) l.2 told whole)

pub seen_rolled_back_stay : {D : Type 0} (x : Setup D) (bytes : ReqId → List ℕ) → SeenRolledBackStay x bytes
seen_rolled_back_stay x bytes prepared now later before after b chunk id view s r k last on survives is at rolled there below live whole =
    stays_there x bytes prepared now later before after b chunk id view s r k last on survives (both_true (is_listed before.durable chunk) _ survives.current).0 at rolled there is below live whole
