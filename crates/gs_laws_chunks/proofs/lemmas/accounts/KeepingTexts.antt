-- What a member's replica has behind the commit of a rollback, then and later, as long as it makes no greater promise.
use Rattle.gs_laws_lift.specs.stores.Left.{left_in}
use Rattle.std.proofs.Common.{◌≡◌, ◌∙◌, ◌≤◌, ℕ, [], ◌∷◌, List, false, true, None, Option, Some, length, refl, sym, ap, subst, slice_get, arith}
use Rattle.std.specs.Prelude.{is_some}
use Rattle.std.proofs.lemmas.List.{take_all}
use Rattle.std.specs.FinMap as fin
use Rattle.gs_base.specs.Members.{is_member}
use Rattle.gs_base.specs.Stamps.{is_before}
use Rattle.gs_base.specs.declared.numbers.ReqId.{ReqId}
use Rattle.gs_base.specs.declared.numbers.Stamp.{Stamp}
use Rattle.gs_laws_chunk.proofs.lemmas.machine.Facts.{reached_world}
use Rattle.gs_laws_chunk.proofs.lemmas.machine.Known.{Later, Prefix}
use Rattle.gs_laws_chunk.proofs.lemmas.machine.Lasting.{agrees}
use Rattle.gs_laws_chunk.proofs.lemmas.machine.Worlds.{WorldOk, leads_later}
use Rattle.gs_laws_chunk.specs.machine.Events.{is_of}
use Rattle.gs_laws_chunk.specs.machine.Laws as machine
use Rattle.gs_laws_chunk.specs.machine.Laws.{Agrees as AgreesKnown}
use Rattle.gs_laws_chunk.specs.machine.Machine.{ChunkWorld}
use Rattle.gs_laws_chunk.specs.machine.Stamps.{stamp_at}
use Rattle.gs_lease.specs.declared.view.View.{View}
use Rattle.gs_laws_parts.proofs.lemmas.master.Stamps.{of_member}
use Rattle.gs_laws_parts.specs.master.Showing.{ShowsView, primary_of}
use Rattle.gs_master_spec.specs.Applied.{view_in}
use Rattle.gs_master_spec.specs.Durable.{Settled}
use Rattle.gs_replica.specs.Seals.{lowest_damaged}
use Rattle.gs_replica.specs.Stands.{Edit}
use Rattle.gs_server.specs.Runs.{slot_in}
use Rattle.gs_server.specs.Servers.{Server, place_of}
use Rattle.gs_laws_parts.proofs.lemmas.server.Promising.{lives}
use Rattle.gs_laws_parts.proofs.lemmas.server.Stamps.{not_before}
use Rattle.gs_laws_parts.specs.server.Showing.{Setting, ShowsPlace}
use Rattle.gs_store.specs.Slots.{Live}
use Rattle.gs_store.specs.Standing.{IsToldIn, LiveUndamaged, StandsIn}
use Rattle.gs_world.proofs.Reaching.{HaveSizes}
use Rattle.gs_world.specs.Histories.{History}
use Rattle.gs_laws_chunks.specs.accounts.Accounts.{Account, settled_edits, view_at}
use Rattle.gs_laws_chunks.specs.accounts.Running.{IsReached, Setup}
use Rattle.gs_laws_chunks.proofs.lemmas.accounts.Edits.{AreNumbered}
use Rattle.gs_laws_chunks.proofs.lemmas.accounts.Holding.{prepared_reached, reach_more, runs_of}
use Rattle.gs_laws_chunks.proofs.lemmas.accounts.Runs.{both_seen, living_told}
use Rattle.gs_laws_chunks.proofs.lemmas.accounts.SeeingThrough.{each_sees_on_through}
use Rattle.gs_laws_chunks.proofs.lemmas.accounts.Surviving.{live_text}
use Rattle.gs_laws_chunks.proofs.lemmas.accounts.Viewing.{told_view}
use Rattle.gs_laws_chunks.specs.accounts.Joined.{IsSeen, SeenOn}
use Rattle.gs_laws_chunks.specs.accounts.Sealing.{HasText, IsLiveWith}
use Rattle.gs_laws_lift.specs.stores.Showing.{IsServer, setting}
use Rattle.gs_laws_chunks.proofs.lemmas.accounts.Bytes.{settled_there}
use Rattle.gs_laws_chunks.proofs.lemmas.accounts.BytesRuns.{unled_back}
use Rattle.gs_laws_chunks.proofs.lemmas.accounts.Settled.{gives_no_other_back, gives_settled_back}
use Rattle.gs_laws_chunks.specs.accounts.Back.{NoOtherText}

some_live : (l m : Live) (o : Option Live) → o ≡ Some l → o ≡ Some m → m ≡ l
some_live l m o one other = cc

module _ {D : Type 0} (x : Setup D) (bytes : ReqId → List ℕ) (chunk : ℕ) (back : History D) (last : Account) (k : IsSeen x bytes chunk back last) (later : History D) (b : Account) (m : IsSeen x bytes chunk later b) (on : SeenOn x bytes chunk back last later b k m)
    (view : View) (told : view_at last chunk ≡ Some view) (unled : primary_of view.term ≡ None) (id : ℕ) (member : is_member view.members id ≡ true) (s : Server) (at : slice_get later.nodes.servers id ≡ Some s) (below : is_before view.stamp (slot_in chunk s).promise ≡ false)
    (l : Live) (is : (slot_in chunk s).live ≡ Some l) (whole : lowest_damaged l.replica.held.chunk ≡ None) where
  abbrev w : ChunkWorld
  w = k.alive.world

  abbrev v : ChunkWorld
  v = m.alive.world

  abbrev t : ℕ
  t = w.known.view

  ok : WorldOk w
  ok = reached_world w k.alive.reached

  okv : WorldOk v
  okv = reached_world v m.alive.reached

  known : AgreesKnown w
  known = agrees w ok

  onward : Later w.known v.known
  onward = leads_later w v on.leads ok

  shows : ShowsView view w.entry.view
  shows = (told_view x bytes chunk back last k view told).shows

  free : w.entry.view.holder ≡ None
  free = shows.holder ∙ unled

  member_there : machine.is_member w id ≡ true
  member_there = ap (λ xs. is_of xs id) shows.members ∙ of_member view.members id ∙ member

  within : v.known.members t id ≡ true
  within = onward.members t id (omega arith) ∙ ap (λ n. w.known.members n id) known.view ∙ known.members id ∙ member_there

  abbrev c : Setting
  c = setting x.config bytes m.alive.reached.0.epoch

  place : ShowsPlace c v.known s.kept.epoch (place_of chunk s) (v.members id)
  place = m.alive.shows.members id s at

  -- the promise is the view's
  promise_is : (v.members id).promise ≡ t
  promise_is =
      let view_on : t ≤ v.known.view = onward.view in
      let least : t ≤ v.known.promise id = (okv.known).members t id (omega arith) within in
      let same : v.known.promise id ≡ (v.members id).promise = (okv.views id).promise in
      let most : (v.members id).promise ≤ w.entry.view.stamp =
      not_before w.entry.view.stamp (v.members id).promise (ap (λ (u : Stamp). is_before u (stamp_at (v.members id).promise)) (sym shows.stamp) ∙ ap (is_before view.stamp) (sym place.promise) ∙ below) in
      let stamp : t ≡ w.entry.view.stamp = known.view in omega arith

  lived : (edits : List Edit) × ((v.members id).live ≡ Some edits) × StandsIn c.block c.size (slot_in chunk s) edits
  lived = lives c (slot_in chunk s) (v.members id).live place.live (ap is_some is)

  -- in which nobody may number
  fixed : (v.known.holder t ≡ None) × (v.known.list t ≡ w.known.list t) × ((j : ℕ) → v.known.members t j ≡ w.known.members t j)
  fixed = onward.fixed t (omega arith) (ap w.known.holder known.view ∙ known.holder ∙ free)

  all_there : lived.0 ≡ w.known.list t
  all_there =
      let view_on : t ≤ v.known.view = onward.view in
      let same : (v.members id).promise ≡ t = promise_is in
      let here = (okv.views id).member (omega arith) (ap (λ n. v.known.members n id) same ∙ within) lived.0 lived.1 in
      let many : v.known.base t ≤ length lived.0 = subst (λ n. v.known.base n ≤ length lived.0) same here.0 in
      let begins : Prefix (v.known.list t) lived.0 = subst (λ n. Prefix (v.known.list n) lived.0) same here.1 in
      let bound : length (v.known.list t) ≡ v.known.base t = (okv.known).quiet t (omega arith) fixed.0 in
      let most : length lived.0 ≤ length (v.known.list t) = begins.within in
      begins.stands ∙ take_all (length lived.0) (v.known.list t) (omega arith) ∙ fixed.1

  server : IsServer x.config id s
  server = m.keeps.servers id s at

  text_is : IsLiveWith x.config.chunk (slot_in chunk s).promise lived.0 (slot_in chunk s)
  text_is =
      let told : IsToldIn x.config.block x.config.chunk (slot_in chunk s) lived.0 =
      subst (λ size. IsToldIn x.config.block size (slot_in chunk s) lived.0) server.size (subst (λ block. IsToldIn block s.chunk (slot_in chunk s) lived.0) server.block ((m.apart id s at).live lived.0 lived.1)) in
      live_text x.config.block x.config.chunk (slot_in chunk s).promise (slot_in chunk s) lived.0 refl lived.2 told (subst LiveUndamaged (sym is) whole)

  -- so it has all that is settled
  pub all_text : HasText x.config.chunk (settled_edits last chunk) l.replica.held.chunk l.replica.held.count
  all_text =
      subst (λ (y : Live). HasText x.config.chunk (settled_edits last chunk) y.replica.held.chunk y.replica.held.count) (some_live l text_is.live (slot_in chunk s).live is text_is.lives)
      (subst (λ edits. HasText x.config.chunk edits text_is.live.replica.held.chunk text_is.live.replica.held.count) (all_there ∙ sym (settled_there x bytes chunk back last k free view told)) text_is.text)

-- ---- over runs

pub row_of : (o : Option Settled) (view : View) → view_in o ≡ Some view → is_some o ≡ true
row_of None view is = absurd (cc)
row_of (Some y) view is = refl

pub no_other_text : HaveSizes → AreNumbered → {D : Type 0} (x : Setup D) → NoOtherText x
no_other_text sizes law x prepared now back later before after last d steps chunk id view s l r told member runs at below is whole =
    let up = r.upgrade in
    let row = row_of (fin.get last.durable.chunks chunk) view told in
    let listed = gives_no_other_back sizes law x prepared now back before after last chunk r row in
    let there = reach_more x prepared now before after up.steps (prepared_reached sizes law x prepared now before after up) (runs_of x up.steps prepared now before after up.runs) in
    let reached : IsReached x back last = reach_more x now back after last (r.step ∷ []) there (back, last, r.moves, (refl, refl)) in
    let sees = each_sees_on_through sizes law x back later last d steps reached runs in
    let living = living_told x sees.asked (left_in back) last sees.first chunk row in
    let seen = both_seen x sees.asked (left_in back) (left_in later) last d sees.first sees.last reached.apart chunk (sees.on chunk) living.0 living.1 in
    let unled = unled_back sizes law x prepared now back before after last r.step up r.moves r.accepted chunk listed row view told in
    subst (λ edits. HasText x.config.chunk edits l.replica.held.chunk l.replica.held.count) (gives_settled_back sizes law x prepared now back before after last chunk r listed).1
    (all_text x _ chunk (left_in back) last seen.first (left_in later) d seen.last seen.on view told unled id member s at below l is whole)
