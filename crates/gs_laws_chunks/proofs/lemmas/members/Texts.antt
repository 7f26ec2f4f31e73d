-- What a server that has rolled back has live, as long as it has promised no more: just the text of the prepare, if it had the chunk then or took it with its image since.
use Rattle.std.proofs.Common.{◌≡◌, ◌∙◌, ◌+◌, inl, inr, ℕ, List, Some, true, false, sym, ap, subst, slice_get, arith}
use Rattle.std.specs.Prelude.{is_some}
use Rattle.gs_base.specs.Stamps.{is_before}
use Rattle.gs_base.specs.declared.epoch.EpochEnd.TheVariants.{Rollback}
use Rattle.gs_base.specs.declared.numbers.ReqId.{ReqId}
use Rattle.gs_base.specs.declared.numbers.Stamp.{Stamp}
use Rattle.gs_laws_chunk.proofs.lemmas.machine.Facts.{reached_world}
use Rattle.gs_laws_chunk.proofs.lemmas.machine.Known.{Fit, IsPrepared, Later}
use Rattle.gs_laws_chunk.proofs.lemmas.machine.Lasting.{stays_known}
use Rattle.gs_laws_chunk.proofs.lemmas.machine.Prepared as preparing
use Rattle.gs_laws_chunk.proofs.lemmas.machine.Prepared.{prepared_rests}
use Rattle.gs_laws_chunk.proofs.lemmas.machine.Worlds.{WorldOk, leads_later}
use Rattle.gs_laws_chunk.specs.machine.Events.{IsFit, Leads}
use Rattle.gs_laws_chunk.specs.machine.Laws.{prepared_list}
use Rattle.gs_laws_chunk.specs.machine.Machine.{ChunkWorld}
use Rattle.gs_laws_chunk.specs.machine.Resting.{PreparedRests}
use Rattle.gs_laws_chunk.specs.machine.Stamps as stamps
use Rattle.gs_laws_chunk.specs.machine.Stamps.{stamp_at}
use Rattle.gs_lease.specs.declared.view.View.{View}
use Rattle.gs_master_spec.specs.Durable.{is_listed}
use Rattle.gs_server.specs.Runs.{slot_in}
use Rattle.gs_server.specs.Servers.{Server, place_of}
use Rattle.gs_laws_parts.proofs.lemmas.server.Promising.{lives}
use Rattle.gs_laws_parts.proofs.lemmas.server.Stamps.{not_before, start_stamp}
use Rattle.gs_laws_parts.specs.server.Showing.{ShowsPlace}
use Rattle.gs_store.specs.Learning.{start_of}
use Rattle.gs_store.specs.Standing.{IsToldIn, LiveUndamaged}
use Rattle.gs_world.specs.Histories.{History}
use Rattle.gs_laws_chunks.proofs.lemmas.accounts.Surviving.{live_text, prepared_last, still, text_then, was_then}
use Rattle.gs_laws_chunks.specs.accounts.Accounts.{Account, settled_edits, view_at}
use Rattle.gs_laws_chunks.specs.accounts.Joined.{IsSeen, SeenSince}
use Rattle.gs_laws_chunks.specs.accounts.Running.{Setup}
use Rattle.gs_laws_chunks.specs.accounts.Sealing.{IsLiveWith}
use Rattle.gs_laws_lift.specs.stores.Showing.{IsServer, setting}

module _ {D : Type 0} (x : Setup D) (bytes : ReqId → List ℕ) (chunk : ℕ) (prepared : History D) (before : Account) (now : History D) (after : Account) (k : SeenSince x bytes chunk prepared before now after) (listed : is_listed before.durable chunk ≡ true) (id : ℕ) (could : IsFit k.last.alive.world.entry id)
    (rolls : k.last.alive.world.entry.is_rolling ≡ true) (promise_then : (k.last.alive.world.members id).promise ≡ stamps.start_of (before.durable.epoch + 1)) (current_then : k.last.alive.world.known.current ≡ before.durable.epoch + 1)
    (how_then : k.last.alive.world.known.how (before.durable.epoch + 1) ≡ Rollback) (later : History D) (b : Account) (last : IsSeen x bytes chunk later b) (leads : Leads k.last.alive.world last.alive.world) (r : Server) (there : slice_get later.nodes.servers id ≡ Some r) where
  abbrev e : ℕ
  e = before.durable.epoch

  abbrev w : ChunkWorld
  w = k.last.alive.world

  abbrev v : ChunkWorld
  v = last.alive.world

  ok : WorldOk w
  ok = reached_world w k.last.alive.reached

  ok_later : WorldOk v
  ok_later = reached_world v last.alive.reached

  server : IsServer x.config id r
  server = last.keeps.servers id r there

  known : w.entry.was_known ≡ true
  known = was_then x bytes chunk prepared before now after k listed

  onward : Later w.known v.known
  onward = leads_later w v leads ok

  was : IsPrepared w.known e
  was = preparing.prepared w ok e (still x bytes chunk prepared before now after k) known

  still_was : IsPrepared v.known e
  still_was = let c = onward.current in let l = current_then in ((omega arith), onward.how e (omega arith) ∙ was.1, onward.kept e (omega arith) ∙ was.2)

  rests : PreparedRests w
  rests = prepared_rests w ok e (still x bytes chunk prepared before now after k) known

  stamp : v.known.prepared e ≡ w.entry.prepared.stamp
  stamp = onward.prepared e (let l = current_then in omega arith) ∙ sym (prepared_last x bytes chunk prepared before now after k listed).stamp

  -- who could give the chunk back then can still
  fit : Fit v.known e id
  fit = elim could [
    | inl member ↦ inl (ap (λ t. v.known.members t id) stamp ∙ onward.members w.entry.prepared.stamp id (let l = rests.within in let m = (ok.entry).stamp in omega arith)
        ∙ ap (λ t. w.known.members t id) (prepared_last x bytes chunk prepared before now after k listed).stamp ∙ (prepared_last x bytes chunk prepared before now after k listed).members id ∙ member)
    | inr holder ↦ inr (onward.carries e id ((prepared_last x bytes chunk prepared before now after k listed).holding id holder))
  ]

  list : v.known.list (v.known.prepared e) ≡ prepared_list w
  list = ap v.known.list stamp ∙ (stays_known w ok v leads).quiet w.entry.prepared.stamp rests.within rests.free

  shows : ShowsPlace (setting x.config bytes last.alive.reached.0.epoch) v.known r.kept.epoch (place_of chunk r) (v.members id)
  shows = last.alive.shows.members id r there

  promised : is_before (start_of (e + 1)) (slot_in chunk r).promise ≡ false → (v.members id).promise ≡ stamps.start_of (e + 1)
  promised below =
      let least = (stays_known w ok v leads).promises id in
      let was = promise_then in
      let most = not_before (stamps.start_of (e + 1)) (v.members id).promise (ap (λ (u : Stamp). is_before u (stamp_at (v.members id).promise)) (start_stamp (e + 1)) ∙ ap (is_before (start_of (e + 1))) (sym shows.promise) ∙ below) in
      omega arith

  pub text_there : (view : View) → view_at before chunk ≡ Some view → is_before (start_of (e + 1)) (slot_in chunk r).promise ≡ false → is_some (slot_in chunk r).live ≡ true → LiveUndamaged (slot_in chunk r).live →
      IsLiveWith x.config.chunk (start_of (e + 1)) (settled_edits before chunk) (slot_in chunk r)
  text_there view is below live whole =
      let c = setting x.config bytes last.alive.reached.0.epoch in
      let l = lives c (slot_in chunk r) (v.members id).live shows.live live in
      let same : l.0 ≡ prepared_list w = (ok_later.seals id).rolled e (let n = onward.current in let m = current_then in omega arith) (onward.how (e + 1) (let m = current_then in omega arith) ∙ how_then) still_was (promised below) fit l.0 l.1 ∙ list in
      let told : IsToldIn x.config.block x.config.chunk (slot_in chunk r) l.0 =
      subst (λ size. IsToldIn x.config.block size (slot_in chunk r) l.0) server.size (subst (λ block. IsToldIn block r.chunk (slot_in chunk r) l.0) server.block ((last.apart id r there).live l.0 l.1)) in
      subst (λ edits. IsLiveWith x.config.chunk (start_of (e + 1)) edits (slot_in chunk r)) (same ∙ sym (text_then x bytes chunk prepared before now after k listed view is))
      (live_text x.config.block x.config.chunk (start_of (e + 1)) (slot_in chunk r) l.0 (shows.promise ∙ ap stamp_at (promised below) ∙ start_stamp (e + 1)) l.2 told whole)
