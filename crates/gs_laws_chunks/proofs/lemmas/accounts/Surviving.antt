-- What survives of a prepare, in the worlds of a chunk's machine right behind the prepare and later.
use Rattle.std.proofs.Common.{◌≡◌, ◌∙◌, ◌+◌, ◌-◌, ◌<◌, ◌≤◌, inl, inr, ℕ, Bool, true, false, List, [], ◌∷◌, None, Option, Some, min, take, refl, sym, ap, subst, arith}
use Rattle.std.specs.Prelude.{◌&&◌, ◌||◌, slice_get}
use Rattle.std.proofs.lemmas.Bool.{or_cases}
use Rattle.std.specs.FinMap as fin
use Rattle.gs_base.specs.Members.{is_member}
use Rattle.gs_base.specs.declared.numbers.ReqId.{ReqId}
use Rattle.gs_base.specs.declared.numbers.Stamp.{Stamp}
use Rattle.gs_laws_chunks.specs.accounts.Accounts.{Account, least, settled_edits, settled_in, text_of, view_at}
use Rattle.gs_laws_lift.specs.stores.Copying.{copied_from}
use Rattle.gs_laws_chunks.specs.accounts.Running.{Setup}
use Rattle.gs_block.proofs.Telling.{whole_same}
use Rattle.gs_block.specs.Written.{ToldApart}
use Rattle.gs_laws_chunk.proofs.lemmas.machine.Entries.{IsCurrent, SameView}
use Rattle.gs_laws_chunk.proofs.lemmas.machine.Exact.{quiet_is_settled}
use Rattle.gs_laws_chunk.proofs.lemmas.machine.Facts.{reached_world, survivors_keep}
use Rattle.gs_laws_chunk.proofs.lemmas.machine.Lasting.{agrees, stays_known}
use Rattle.gs_laws_chunk.proofs.lemmas.machine.Prepared as preparing
use Rattle.gs_laws_chunk.proofs.lemmas.machine.Prepared.{prepared_rests}
use Rattle.gs_laws_chunk.proofs.lemmas.machine.Worlds.{WorldOk}
use Rattle.gs_laws_chunk.specs.machine.Events.{IsFit, is_of}
use Rattle.gs_laws_chunk.specs.machine.Laws.{IsSurvivor, IsUpgrading, KeepsSealed, StaysKnown, least_of, prepared_list}
use Rattle.gs_laws_chunk.specs.machine.Laws as machine
use Rattle.gs_laws_chunk.specs.machine.Machine.{Member, ChunkWorld}
use Rattle.gs_laws_chunk.specs.machine.Resting.{PreparedRests}
use Rattle.gs_laws_chunk.specs.machine.Stamps.{stamp_at}
use Rattle.gs_laws_parts.proofs.lemmas.master.Stamps.{of_member}
use Rattle.gs_laws_parts.specs.master.Showing.{ShowsView}
use Rattle.gs_lease.specs.declared.view.View.{View}
use Rattle.gs_laws_lift.proofs.lemmas.stores.Accounts.{settled_same}
use Rattle.gs_laws_lift.proofs.lemmas.stores.Serving.{is_shown}
use Rattle.gs_laws_parts.proofs.lemmas.server.Sealing.{before_prepare, behind_rollback, counts, knows_birth}
use Rattle.gs_laws_parts.specs.server.Showing.{LiveCounts}
use Rattle.gs_laws_parts.proofs.lemmas.server.Stamps.{start_stamp}
use Rattle.gs_laws_parts.specs.server.Moving.{IsShown}
use Rattle.gs_laws_parts.specs.server.Showing.{Setting, ShowsImage, ShowsLive, SealUndamaged, setting_of}
use Rattle.gs_master_record.specs.declared.checkpoint.Phase.{Phase}
use Rattle.gs_master_record.specs.declared.checkpoint.Phase.TheVariants.{Ordinary, Upgrade, Rolling}
use Rattle.gs_replica.specs.Held.{Held}
use Rattle.gs_replica.specs.Seals.{Sealed, lowest_damaged}
use Rattle.gs_replica.specs.Stands.{Edit, IsToldFrom, SealToldFrom, StandsFor, StoodFor, where_sealed}
use Rattle.gs_world.specs.Histories.{History}
use Rattle.gs_server.specs.Runs.{slot_in}
use Rattle.gs_server.specs.Servers.{Server}
use Rattle.gs_master_spec.specs.Applied.{view_in}
use Rattle.gs_master_spec.specs.Chunks.{members_in}
use Rattle.gs_master_spec.specs.Durable.{Settled, is_listed, is_rolling, is_upgrade, prepared_view, upgrade_epoch}
use Rattle.gs_master_spec.specs.declared.asking.Prepared.{Prepared}
use Rattle.gs_store.specs.Slots.{Live, Slot, sealed_of}
use Rattle.gs_store.specs.Standing.{IsToldIn, LiveStandsFor, LiveToldFrom, LiveUndamaged, SealToldIn, StandsIn, StoodIn}
use Rattle.gs_laws_chunks.specs.accounts.Joined.{SeenSince}
use Rattle.gs_laws_chunks.specs.accounts.Sealing.{HasText, IsLiveWith, IsSealedWith, KeepsText}
use Rattle.gs_laws_chunks.specs.accounts.Seen.{SeenSurvivorsKeep}
use Rattle.gs_laws_chunks.specs.accounts.Upgrading.{Survives, is_holder}

-- ---- texts

has_text : (block size : ℕ) (r : Held) (edits : List Edit) → StandsFor block size r edits → IsToldFrom block size r edits → lowest_damaged r.chunk ≡ None → HasText size edits r.chunk r.count
has_text block size r edits stands told whole = record {
  bytes = whole_same r.chunk (text_of size edits) stands.bytes (subst (λ b. ToldApart b r.chunk.bytes (text_of size edits)) (sym stands.block) told) whole;
  counted = stands.count;
  whole = whole;
}

pub live_text : (block size : ℕ) (promise : Stamp) (slot : Slot) (edits : List Edit) → slot.promise ≡ promise → StandsIn block size slot edits → IsToldIn block size slot edits → LiveUndamaged slot.live → IsLiveWith size promise edits slot
live_text block size promise slot edits promised stands told whole = by_live slot.live refl stands told whole
  where
    by_live : (o : Option Live) → slot.live ≡ o → LiveStandsFor block size o edits → LiveToldFrom block size o edits → LiveUndamaged o → IsLiveWith size promise edits slot
    by_live None is stands told whole = absurd stands
    by_live (Some l) is stands told whole = record { live = l; lives = is; promised = promised; text = has_text block size l.replica.held edits stands told whole }

pub seal_text : (block size : ℕ) (slot : Slot) (edits : List Edit) → StoodIn block size slot edits → SealToldIn block size slot edits → SealUndamaged (sealed_of slot) → IsSealedWith size edits slot
seal_text block size slot edits stood told whole = by_seal (sealed_of slot) refl stood told whole
  where
    by_seal : (o : Option Sealed) → sealed_of slot ≡ o → StoodFor block size o edits → SealToldFrom block size o edits → SealUndamaged o → IsSealedWith size edits slot
    by_seal None is stood told whole = absurd stood
    by_seal (Some t) is stood told whole = record { image = t; sealed = is; text = has_text block size (where_sealed t) edits stood told whole }

-- ---- counts

pub least_is : (f : ℕ → ℕ) (servers : List ℕ) (none : ℕ) → least f servers none ≡ least_of f servers none
least_is f [] none = refl
least_is f (s ∷ []) none = refl
least_is f (s ∷ t ∷ servers) none = ap (min (f s)) (least_is f (t ∷ servers) none)

pub settled_of : (o : Option Settled) (view : View) → view_in o ≡ Some view → (y : Settled) × (o ≡ Some y) × (y.view ≡ view)
settled_of None view is = absurd (cc)
settled_of (Some y) view is = (y, refl, cc)

pub both_true : (x y : Bool) → (x && y) ≡ true → (x ≡ true) × (y ≡ true)
both_true true true is = (refl, refl)
both_true true false is = absurd (cc)
both_true false y is = absurd (cc)

-- ---- the upgrade

current_of : (w : ChunkWorld) → WorldOk w → (e : ℕ) → IsUpgrading w e → IsCurrent w.known w.entry.is_rolling e
current_of w ok e upgrading = let m = ok.entry in elim upgrading [
  | inl x ↦ inl (x.0 ∙ m.epoch, sym (m.how e) ∙ x.1)
  | inr x ↦ inr (x.0 ∙ m.epoch, x.1)
]

module _ {D : Type 0} (x : Setup D) (bytes : ReqId → List ℕ) (chunk : ℕ) (prepared : History D) (before : Account) (now : History D) (after : Account) (k : SeenSince x bytes chunk prepared before now after) where
  abbrev p : ChunkWorld
  p = k.first.alive.world

  abbrev w : ChunkWorld
  w = k.last.alive.world

  abbrev e : ℕ
  e = before.durable.epoch

  pok : WorldOk p
  pok = reached_world p k.first.alive.reached

  ok : WorldOk w
  ok = reached_world w k.last.alive.reached

  pub begun : IsUpgrading p e
  begun = inl (sym k.first.told.epoch, ap p.entry.how (sym k.first.told.epoch) ∙ k.first.told.upgrade k.begun)

  pub still : IsUpgrading w e
  still = by_phase after.durable.phase refl k.still
    where
      by_phase : (phase : Phase) → after.durable.phase ≡ phase → upgrade_epoch phase after.durable.epoch ≡ Some e → IsUpgrading w e
      by_phase Ordinary is same = absurd (cc)
      by_phase Upgrade is same =
          let here : e ≡ w.entry.epoch = (let s : after.durable.epoch ≡ e = cc in sym s ∙ sym k.last.told.epoch) in
          inl (here, ap w.entry.how here ∙ k.last.told.upgrade (ap is_upgrade is))
      by_phase Rolling is same =
          let rolling : w.entry.is_rolling ≡ true = k.last.told.rolling ∙ ap is_rolling is in
          let next = ((ok.entry).rolling rolling).next in
          let m = (ok.entry).epoch in
          let told = k.last.told.epoch in
          inr (last_of after.durable.epoch e same (omega arith) ∙ sym told, rolling)
        where
          last_of : (a b : ℕ) → Some (a - 1) ≡ Some b → 0 < a → b + 1 ≡ a
          last_of a b same some = (let one : a - 1 ≡ b = cc in omega arith)

  stays : StaysKnown p w
  stays = stays_known p pok w k.on.leads

  -- ---- of a chunk that was listed at the prepare

  module _ (listed : is_listed before.durable chunk ≡ true) where
    known : p.entry.is_known ≡ true
    known = k.first.told.listed listed

    was : p.entry.was_known ≡ true
    was = (k.settled listed).0

    stamp : p.entry.prepared.stamp ≡ p.entry.view.stamp
    stamp = (k.settled listed).1

    within : e ≤ p.entry.epoch
    within = let same = k.first.told.epoch in omega arith

    pub was_then : w.entry.was_known ≡ true
    was_then = (ok.entry).was_known e (current_of w ok e still) ∙ (stays.prepared e within).1 ∙ sym ((pok.entry).was_known e (current_of p pok e begun)) ∙ was

    prepared_first : SameView p.known p.entry.prepared p.entry.holders e
    prepared_first = (pok.entry).prepared e (current_of p pok e begun) (preparing.prepared p pok e begun was)

    pub prepared_last : SameView w.known w.entry.prepared w.entry.holders e
    prepared_last = (ok.entry).prepared e (current_of w ok e still) (preparing.prepared w ok e still was_then)

    -- the prepared view is the one that was settled
    same_view : w.known.prepared e ≡ p.entry.view.stamp
    same_view = (stays.prepared e within).0 ∙ sym prepared_first.stamp ∙ stamp

    pub stamp_then : w.entry.prepared.stamp ≡ p.entry.view.stamp
    stamp_then = prepared_last.stamp ∙ same_view

    pub free : p.known.holder p.entry.view.stamp ≡ None
    free = (let rests : PreparedRests p = prepared_rests p pok e begun was in ap p.known.holder (sym stamp) ∙ rests.free)

    pub list_then : prepared_list w ≡ p.known.list p.entry.view.stamp
    list_then = ap w.known.list stamp_then ∙ stays.quiet p.entry.view.stamp (omega arith) free

    view_shown : (view : View) → view_at before chunk ≡ Some view → ShowsView view p.entry.view
    view_shown view at =
        let y = settled_of (fin.get before.durable.chunks chunk) view at in
        subst (λ v. ShowsView v p.entry.view) y.2 (k.first.told.settled y.0 y.1).view

    pub text_then : (view : View) → view_at before chunk ≡ Some view → settled_edits before chunk ≡ prepared_list w
    text_then view at =
        let y = settled_of (fin.get before.durable.chunks chunk) view at in
        let agree = k.first.agrees in
        let late = agree.late y.0 y.1 in
        let same = (agrees p pok).view in
        ap (settled_in before chunk) at
        ∙ ap (λ n. take n (before.list chunk view.stamp)) (least_is (λ server. before.reached chunk server view.stamp) view.members view.count)
        ∙ settled_same before.list before.reached (copied_from prepared.sent chunk) chunk k.first.alive.reached.0 p view agree.lists agree.counts (view_shown view at) known ((agrees p pok).stood known) (omega arith)
        ∙ quiet_is_settled p pok (sym (agrees p pok).holder ∙ free)
        ∙ sym list_then

    -- who was current by the records can give the chunk back
    pub fits : (id : ℕ) → (is_member (members_in (view_at before chunk)) id || is_holder id (prepared_view after.durable chunk)) ≡ true → IsFit w.entry id
    fits id current = elim (or_cases (is_member (members_in (view_at before chunk)) id) (is_holder id (prepared_view after.durable chunk)) current) [
      | inl member ↦ inl (sym (prepared_last.members id) ∙ ap (λ t. w.known.members t id) same_view ∙ stays.members p.entry.view.stamp id (omega arith) ∙ (agrees p pok).members id ∙ by_view (view_at before chunk) refl member)
      | inr holder ↦ inr (by_holder (prepared_view after.durable chunk) refl holder)
    ]
      where
        by_view : (o : Option View) → view_at before chunk ≡ o → is_member (members_in o) id ≡ true → machine.is_member p id ≡ true
        by_view None at member = absurd (cc)
        by_view (Some view) at member = ap (λ xs. is_of xs id) (view_shown view at).members ∙ of_member view.members id ∙ member

        by_holder : (o : Option Prepared) → prepared_view after.durable chunk ≡ o → is_holder id o ≡ true → w.entry.holders id ≡ true
        by_holder None at holder = absurd (cc)
        by_holder (Some q) at holder = (k.last.told.prepared q at was_then).holders id holder

    pub survivor : (id : ℕ) → Survives before after chunk id → IsSurvivor w id
    survivor id survives =
        let fit : IsFit w.entry id = fits id (both_true (is_listed before.durable chunk) (is_member (members_in (view_at before chunk)) id || is_holder id (prepared_view after.durable chunk)) survives.current).1 in
        record {
          known = was_then;
          fit = fit;
          intact = k.last.intact e id still was_then (elim fit [
            | inl member ↦ inl (prepared_last.members id ∙ member)
            | inr holder ↦ inr (prepared_last.holding id holder)
          ]) survives.intact;
        }

    -- ---- at its server

    module _ (id : ℕ) (s : Server) (at : slice_get now.nodes.servers id ≡ Some s) (survives : Survives before after chunk id) where
      abbrev c : Setting
      c = setting_of bytes k.last.alive.reached.0.epoch s

      pub shown_then : IsShown c chunk w s
      shown_then = is_shown x.seen x.config bytes k.last.alive.reached.0.epoch chunk now w k.last.alive.reached (record { members = k.last.alive.shows.members; sent = k.last.alive.shows.sent }) k.last.keeps k.last.apart id s at

      pub survivor_there : IsSurvivor w s.me
      survivor_there = subst (IsSurvivor w) (sym (k.last.keeps.servers id s at).me) (survivor id survives)

      abbrev m : Member
      m = w.members s.me

      pub sealed_there : KeepsSealed w e s.me
      sealed_there = survivors_keep w ok e s.me still survivor_there

      pub epoch_there : m.epoch ≡ s.kept.epoch
      epoch_there = shown_then.shows.epoch_is (knows_birth k.last.alive.reached.0 w k.last.alive.reached.1 c chunk s refl shown_then.shows e still sealed_there)

      size_there : s.chunk ≡ x.config.chunk
      size_there = (k.last.keeps.servers id s at).size

      live_there : LiveCounts w.known m.epoch → (promise : Stamp) (edits : List Edit) → m.live ≡ Some edits → (slot_in chunk s).promise ≡ promise → IsLiveWith x.config.chunk promise edits (slot_in chunk s)
      live_there so promise edits is promised =
          subst (λ size. IsLiveWith size promise edits (slot_in chunk s)) size_there
          (live_text s.block s.chunk promise (slot_in chunk s) edits promised (subst (ShowsLive c (slot_in chunk s)) is shown_then.shows.live) (shown_then.apart.live edits is) ((shown_then.shows.intact survivor_there.intact).0 so))

      seal_there : (edits : List Edit) → m.image ≡ Some edits → m.epoch ≡ e → IsSealedWith x.config.chunk edits (slot_in chunk s)
      seal_there edits is here =
          subst (λ size. IsSealedWith size edits (slot_in chunk s)) size_there
          (seal_text s.block s.chunk (slot_in chunk s) edits (subst (ShowsImage c (slot_in chunk s)) is shown_then.shows.image) (shown_then.apart.image edits is)
          ((shown_then.shows.intact survivor_there.intact).1 (counts k.last.alive.reached.0 w k.last.alive.reached.1 c chunk s refl shown_then.shows e still here)))

      keeps_there : (view : View) → view_at before chunk ≡ Some view → KeepsText x.config.chunk e view (settled_edits before chunk) chunk s
      keeps_there view is =
          let text = text_then view is in
          subst (λ edits. KeepsText x.config.chunk e view edits chunk s) (sym text) (record {
            unlearned = λ early.
                let q = sealed_there.unlearned (let same = epoch_there in omega arith) in
                live_there (before_prepare k.last.alive.reached.0 w k.last.alive.reached.1 c chunk s refl shown_then.shows e still (let same = epoch_there in omega arith)) view.stamp (prepared_list w) q.1 (shown_then.shows.promise ∙ ap stamp_at (q.0 ∙ stamp_then) ∙ sym (view_shown view is).stamp);
            learned = λ here. seal_there (prepared_list w) (sealed_there.learned (epoch_there ∙ here)) (epoch_there ∙ here);
            rolled_back = λ later. (let q = sealed_there.rolled (epoch_there ∙ later) in live_there (inr (behind_rollback k.last.alive.reached.0 w k.last.alive.reached.1 c chunk s refl shown_then.shows e still (epoch_there ∙ later))) _ (prepared_list w) q.1 (shown_then.shows.promise ∙ ap stamp_at q.0 ∙ start_stamp (e + 1)));
          })

pub seen_survivors_keep : {D : Type 0} (x : Setup D) (bytes : ReqId → List ℕ) → SeenSurvivorsKeep x bytes
seen_survivors_keep x bytes prepared now before after chunk id view s k survives is at =
    let listed = (both_true (is_listed before.durable chunk) (is_member (members_in (view_at before chunk)) id || is_holder id (prepared_view after.durable chunk)) survives.current).0 in
    keeps_there x bytes chunk prepared before now after k listed id s at survives view is
