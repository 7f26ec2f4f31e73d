-- A survivor that has rolled (left_in back) has the text of the prepare for good, as long as nothing of its replica is lost, damaged or dropped, and no greater promise is made.
use Rattle.gs_laws_lift.specs.stores.Left.{left_in}
use Rattle.std.proofs.Common.{◌≡◌, ◌∙◌, ◌+◌, ◌++◌, ◌⊎◌, inl, inr, ℕ, List, true, false, None, Option, Some, refl, sym, ap, subst, slice_get, arith}
use Rattle.std.specs.Prelude.{is_some}
use Rattle.std.proofs.lemmas.Bool.{false≢true}
use Rattle.std.specs.FinMap as fin
use Rattle.gs_base.specs.Stamps.{is_before}
use Rattle.gs_base.specs.declared.epoch.EpochEnd.TheVariants.{Prepare, Rollback}
use Rattle.gs_base.specs.declared.numbers.Stamp.{Stamp}
use Rattle.gs_laws_chunks.specs.accounts.Accounts.{Account, settled_edits, view_at}
use Rattle.gs_laws_chunks.specs.accounts.Running.{Setup}
use Rattle.gs_laws_chunk.proofs.lemmas.machine.Facts.{reached_world}
use Rattle.gs_laws_chunk.proofs.lemmas.machine.Resting.{none_ahead}
use Rattle.gs_laws_chunk.proofs.lemmas.machine.Worlds.{WorldOk}
use Rattle.gs_laws_chunk.specs.machine.Machine.{ChunkWorld}
use Rattle.gs_laws_chunk.specs.machine.Stamps as stamps
use Rattle.gs_lease.specs.declared.view.View.{View}
use Rattle.gs_laws_lift.proofs.lemmas.stores.AskingRuns.{of_one_edit, pushes_right}
use Rattle.gs_laws_lift.proofs.lemmas.stores.Running.{before}
use Rattle.gs_laws_lift.specs.stores.Saying.{PushRight}
use Rattle.gs_laws_lift.specs.stores.Showing.{setting}
use Rattle.gs_laws_parts.specs.server.Requests.{IsOfOneEdit, bytes_in}
use Rattle.gs_laws_parts.specs.server.Showing.{SealUndamaged, ShowsImage, ShowsPlace}
use Rattle.gs_replica.specs.Stands.{Edit}
use Rattle.gs_world.proofs.Reaching.{HaveSizes}
use Rattle.gs_world.specs.Histories.{History}
use Rattle.gs_server.specs.Runs.{slot_in}
use Rattle.gs_server.specs.Servers.{Server, place_of}
use Rattle.gs_master_spec.specs.Applied.{view_in}
use Rattle.gs_master_spec.specs.Durable.{Settled, is_listed}
use Rattle.gs_store.specs.Learning.{start_of}
use Rattle.gs_store.specs.Slots.{Slot, sealed_of}
use Rattle.gs_store.specs.Standing.{LiveUndamaged}
use Rattle.gs_laws_chunks.proofs.lemmas.accounts.Back.{seen_rolled_back_stay}
use Rattle.gs_laws_chunks.proofs.lemmas.accounts.Edits.{AreNumbered}
use Rattle.gs_laws_chunks.proofs.lemmas.accounts.Holding.{given_there, listed_then, prepared_reached, reach_more, runs_of, runs_then, since_seen}
use Rattle.gs_laws_chunks.proofs.lemmas.accounts.Reached.{run_stays}
use Rattle.gs_laws_chunks.proofs.lemmas.accounts.Runs.{keeps_told, seen_next}
use Rattle.gs_laws_chunks.proofs.lemmas.accounts.SeeingThrough.{reached_well, each_sees_on_through, sees_run_through}
use Rattle.gs_laws_chunks.proofs.lemmas.accounts.Spared.{StillLive}
use Rattle.gs_laws_chunks.proofs.lemmas.accounts.Staying.{IsStaying, spared_whole, staying_on}
use Rattle.gs_laws_chunks.proofs.lemmas.accounts.Surviving.{epoch_there, sealed_there, seen_survivors_keep, still}
use Rattle.gs_laws_chunks.specs.accounts.Joined.{SeenSince}
use Rattle.gs_laws_chunks.specs.accounts.Sealing.{IsLiveWith, RolledBackStay}
use Rattle.gs_laws_chunks.specs.accounts.Upgrading.{Survives}

-- a view is told where a row is
view_there : (o : Option Settled) → is_some o ≡ true → (view : View) × (view_in o ≡ Some view)
view_there None some = absurd (false≢true some)
view_there (Some y) some = (y.view, refl)

live_there : (size : ℕ) (edits : List Edit) (slot : Slot) (is : IsLiveWith size slot.promise edits slot) → SealUndamaged (sealed_of slot) → StillLive slot
live_there size edits slot is sealed = record { live = ap is_some is.lives; whole = subst LiveUndamaged (sym is.lives) is.text.whole; sealed = sealed }

-- without a greater promise the replica is still there
stays_at : (chunk : ℕ) (bound : Stamp) (t r : Server) → t ≡ r → (is_before bound (slot_in chunk t).promise ≡ true) ⊎ StillLive (slot_in chunk t) → is_before bound (slot_in chunk r).promise ≡ false → StillLive (slot_in chunk r)
stays_at chunk bound t r same ends below = elim (subst (λ (q : Server). (is_before bound (slot_in chunk q).promise ≡ true) ⊎ StillLive (slot_in chunk q)) same ends) [
  | inl above ↦ absurd (false≢true (sym below ∙ above))
  | inr still ↦ still
]

-- ---- where it has rolled back

module _ {D : Type 0} (x : Setup D) (bytes : _) (chunk : ℕ) (prepared : History D) (before : Account) (now : History D) (after : Account) (k : SeenSince x bytes chunk prepared before now after) (id : ℕ) (s : Server) (view : View) (survives : Survives before after chunk id) (is : view_at before chunk ≡ Some view)
    (at : slice_get now.nodes.servers id ≡ Some s) (rolled : s.kept.epoch ≡ before.durable.epoch + 1) where
  abbrev w : ChunkWorld
  w = k.last.alive.world

  abbrev e : ℕ
  e = before.durable.epoch

  ok : WorldOk w
  ok = reached_world w k.last.alive.reached

  listed : is_listed before.durable chunk ≡ true
  listed = listed_then before after chunk id survives

  me : s.me ≡ id
  me = (k.last.keeps.servers id s at).me

  epoch_is : (w.members s.me).epoch ≡ e + 1
  epoch_is = epoch_there x bytes chunk prepared before now after k listed id s at survives ∙ rolled

  -- the rollback is begun
  begun : (w.known.current ≡ e + 1) × (w.known.how (e + 1) ≡ Rollback)
  begun = elim (still x bytes chunk prepared before now after k) [
    | inl y ↦ absurd (let ahead = none_ahead w ok s.me in let z = y.0 in let h = epoch_is in omega arith)
    | inr y ↦
        let m = ok.entry in
        let roll = m.rolling y.1 in
        let same : e + 1 ≡ roll.e + 1 = (let n = roll.next in let z = y.0 in let at = m.epoch in omega arith) in
        (sym m.epoch ∙ sym y.0, ap w.known.how same ∙ roll.how)
  ]

  text : IsLiveWith x.config.chunk (start_of (e + 1)) (settled_edits before chunk) (slot_in chunk s)
  text = (seen_survivors_keep x bytes prepared now before after chunk id view s k survives is at).rolled_back rolled

  shows : ShowsPlace (setting x.config bytes k.last.alive.reached.0.epoch) w.known s.kept.epoch (place_of chunk s) (w.members id)
  shows = k.last.alive.shows.members id s at

  -- nothing is sealed then
  unsealed : SealUndamaged (sealed_of (slot_in chunk s))
  unsealed = by_none (w.members id).image none shows.image
    where
      at_epoch : (w.members id).epoch ≡ e + 1
      at_epoch = ap (λ i. (w.members i).epoch) (sym me) ∙ epoch_is

      none : (w.members id).image ≡ None
      none = (ok.seals id).none (λ prepared. (let other : Rollback ≡ Prepare = sym begun.1 ∙ ap w.known.how (sym at_epoch) ∙ prepared in cc))

      by_none : (o : Option (List Edit)) → o ≡ None → ShowsImage (setting x.config bytes k.last.alive.reached.0.epoch) (slot_in chunk s) o → SealUndamaged (sealed_of (slot_in chunk s))
      by_none None is image = subst SealUndamaged (sym image) tt
      by_none (Some ys) is image = absurd (cc)

  pub stays_first : IsStaying x bytes chunk id e now w s
  stays_first =
      let first = (sealed_there x bytes chunk prepared before now after k listed id s at survives).rolled epoch_is in
      let promise : (w.members id).promise ≡ stamps.start_of (e + 1) = ap (λ i. (w.members i).promise) (sym me) ∙ first.0 in
      record {
        at = at;
        least = omega arith;
        within = (let current = begun.0 in omega arith);
        how = begun.1;
        still = inr (live_there x.config.chunk (settled_edits before chunk) (slot_in chunk s) (subst (λ p. IsLiveWith x.config.chunk p (settled_edits before chunk) (slot_in chunk s)) (sym text.promised) text) unsealed);
      }

-- ---- and later

pub rolled_back_stay : HaveSizes → AreNumbered → {D : Type 0} (x : Setup D) → RolledBackStay x
rolled_back_stay sizes law x prepared now later before_account after b chunk id s r steps up survives at rolled runs spare drops there below =
    let upgraded = runs_of x up.steps prepared now before_account after up.runs in
    let reached = prepared_reached sizes law x prepared now before_account after up in
    let given = given_there sizes law x prepared now before_account after up in
    let sees = each_sees_on_through sizes law x prepared later before_account b (up.steps ++ steps) reached (runs_then x up.steps steps prepared now later before_account after b upgraded runs) in
    let asked = sees.asked in
    let right = pushes_right asked later sees.are in
    let one = of_one_edit asked later sees.are in
    let stays = run_stays x asked given steps now later after b runs in
    let right_now = before x.seen x.failures x.armed (PushRight (bytes_in asked)) now.sent later.sent stays right in
    let one_now = before x.seen x.failures x.armed (IsOfOneEdit asked) now.sent later.sent stays one in
    let well = reached_well x prepared before_account reached in
    let here = sees_run_through x asked given law up.reached.apart up.steps prepared now before_account after sees.first well upgraded right_now one_now in
    let well_now = reached_well x now after (reach_more x prepared now before_account after up.steps reached upgraded) in
    let last = sees_run_through x asked given law up.reached.apart steps now later after b here.last well_now runs right one in
    let listed = listed_then before_account after chunk id survives in
    let since = since_seen sizes law x prepared now before_account after up asked right_now one_now sees.first here.last here.on chunk listed in
    let next = seen_next x asked (left_in now) (left_in later) after b here.last last.last up.reached.apart chunk (last.on chunk) since.since.last since.lives in
    let view = view_there (fin.get before_account.durable.chunks chunk) ((keeps_told x asked (left_in prepared) before_account sees.first).settled chunk listed) in
    let first = stays_first x (bytes_in asked) chunk (left_in prepared) before_account (left_in now) after since.since id s view.0 survives view.1 at rolled in
    let ends = staying_on law x asked given chunk id before_account.durable.epoch up.reached.apart steps now later after b here.last well_now runs right one since.since.last.alive since.lives s first (spared_whole law x asked given chunk id before_account.durable.epoch steps now after later b runs spare drops) in
    let same : ends.0 ≡ r = (let one = ends.1 in cc) in
    let still = stays_at chunk (start_of (before_account.durable.epoch + 1)) ends.0 r same ends.2 below in
    seen_rolled_back_stay x (bytes_in asked) (left_in prepared) (left_in now) (left_in later) before_account after b chunk id view.0 s r since.since next.last next.on survives view.1 at rolled there below still.live still.whole
