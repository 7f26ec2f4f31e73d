-- A replica that its server would name while the master rolls back is live and undamaged until the commit, where nothing of it is lost or damaged.
use Rattle.gs_laws_lift.specs.stores.Left.{left_in}
use Rattle.std.proofs.Common.{◌≡◌, ◌∙◌, ◌+◌, ◌<◌, ◌≤◌, ◌==◌, inl, inr, ℕ, [], ◌∷◌, Bool, true, false, List, None, Option, Some, refl, sym, ap, subst, length, slice_get, arith}
use Rattle.std.specs.Prelude.{is_none, is_some}
use Rattle.std.proofs.lemmas.Bool.{eqb-true, false≢true}
use Rattle.gs_base.specs.Stamps.{is_before, is_same}
use Rattle.gs_base.specs.declared.epoch.EpochEnd.TheVariants.{Prepare, Rollback}
use Rattle.gs_base.specs.declared.numbers.ReqId.{ReqId}
use Rattle.gs_block.specs.Stored.{Stored, are_digests, count_of, first_damaged}
use Rattle.gs_block.specs.Written.{TellsApart}
use Rattle.gs_laws_chunk.proofs.lemmas.machine.Facts.{reached_world}
use Rattle.gs_laws_chunk.proofs.lemmas.machine.Lasting.{stays_known}
use Rattle.gs_laws_chunk.proofs.lemmas.machine.Rolling.{rolled_are_held}
use Rattle.gs_laws_chunk.proofs.lemmas.machine.Worlds.{WorldOk}
use Rattle.gs_laws_chunk.specs.machine.Events.{Leads}
use Rattle.gs_laws_chunk.specs.machine.Machine.{ChunkWorld}
use Rattle.gs_laws_chunk.specs.machine.Rolling.{IsHeld}
use Rattle.gs_laws_chunk.specs.machine.Stamps as stamps
use Rattle.gs_laws_chunk.specs.machine.Stamps.{stamp_at}
use Rattle.gs_master_spec.specs.Durable.{is_rolling}
use Rattle.gs_replica.specs.Seals.{lowest_damaged}
use Rattle.gs_replica.specs.Stands.{Edit}
use Rattle.gs_server.specs.Runs.{slot_in}
use Rattle.gs_server.specs.Servers.{Server, place_of}
use Rattle.gs_laws_parts.proofs.lemmas.server.Leasing.{shown_late}
use Rattle.gs_laws_parts.proofs.lemmas.server.Stamps.{same_stamp, stamp_number, start_stamp}
use Rattle.gs_laws_parts.specs.server.Requests.{Asked, IsOfOneEdit, bytes_in}
use Rattle.gs_laws_parts.specs.server.Showing.{SealUndamaged, Setting, ShowsImage, ShowsPlace}
use Rattle.gs_store.proofs.Laws.{not_before_itself}
use Rattle.gs_store.specs.Learning.{is_named, is_sound, start_of}
use Rattle.gs_store.specs.Slots.{Live, sealed_of}
use Rattle.gs_store.specs.Standing.{LiveUndamaged}
use Rattle.gs_world.proofs.Sending.{step_stays}
use Rattle.gs_world.specs.Histories.{History}
use Rattle.gs_world.specs.Runs.{StaySent, Step}
use Rattle.gs_world.specs.Sent.{message_of}
use Rattle.gs_laws_chunks.specs.accounts.Accounts.{Account}
use Rattle.gs_laws_chunks.specs.accounts.Running.{IsGiven, IsReached, Runs, Setup}
use Rattle.gs_laws_chunks.proofs.lemmas.accounts.Edits.{AreNumbered}
use Rattle.gs_laws_chunks.proofs.lemmas.accounts.Holding.{reach_more}
use Rattle.gs_laws_chunks.proofs.lemmas.accounts.Runs.{seen_next}
use Rattle.gs_laws_chunks.proofs.lemmas.accounts.SeeingThrough.{reached_well, sees_run_through}
use Rattle.gs_laws_chunks.proofs.lemmas.accounts.Spared.{StillLive}
use Rattle.gs_laws_chunks.proofs.lemmas.accounts.Staying.{IsStaying, spared_whole, staying_on}
use Rattle.gs_laws_chunks.specs.accounts.Joined.{IsSeen}
use Rattle.gs_laws_chunks.specs.accounts.Seeing.{Sees}
use Rattle.gs_laws_chunks.specs.accounts.Upgrading.{DropsNone, Spare}
use Rattle.gs_laws_lift.proofs.lemmas.stores.Mastering.{both}
use Rattle.gs_laws_lift.proofs.lemmas.stores.Running.{before}
use Rattle.gs_laws_lift.specs.stores.Going.{AllSent}
use Rattle.gs_laws_lift.specs.stores.Saying.{PushRight}
use Rattle.gs_laws_lift.specs.stores.Showing.{setting}
use Rattle.gs_laws_chunks.proofs.lemmas.accounts.Keeping.{IsRollingAt, rolling_at, step_keeps}

-- ---- what is named

-- digests that all blocks have are those of no damaged one
undamaged_there : (s : Stored) → are_digests s.block s.bytes s.digests ≡ true → lowest_damaged s ≡ None
undamaged_there s are =
    let many : ℕ = count_of s.block (length s.bytes) in
    let parts = both (length s.digests == many) (is_none (first_damaged s.block s.bytes s.digests 0 many)) are in
    ap (first_damaged s.block s.bytes s.digests 0) (eqb-true (length s.digests) many parts.0) ∙ by_none (first_damaged s.block s.bytes s.digests 0 many) parts.1
  where
    by_none : (o : Option ℕ) → is_none o ≡ true → o ≡ None
    by_none None is = refl
    by_none (Some n) is = absurd (false≢true is)

pub sound_there : (o : Option Live) → is_sound o ≡ true → (is_some o ≡ true) × LiveUndamaged o
sound_there None is = absurd (false≢true is)
sound_there (Some l) is = (refl, undamaged_there l.replica.held.chunk is)

-- ---- a run up to a world in which a rollback goes on

module _ (law : AreNumbered) {D : Type 0} (x : Setup D) (asked : ℕ → Asked) (given : IsGiven x) (apart : TellsApart x.among) (chunk id e : ℕ) (new : History D) (b : Account) (rolling : is_rolling b.durable.phase ≡ true) (same : b.durable.epoch ≡ e + 1)
    (right : AllSent (PushRight (bytes_in asked)) new.sent) (one : AllSent (IsOfOneEdit asked) new.sent) where
  abbrev bytes : ReqId → List ℕ
  bytes = bytes_in asked

  sent_stay : (steps : List Step) (old : History D) (a : Account) → Runs x steps old a new b → StaySent old.sent new.sent
  sent_stay [] old a runs place message is = subst (λ (h : History D). message_of h.sent place ≡ Some message) (sym runs.0) is
  sent_stay (step ∷ steps) old a (mid, c, moves, rest) place message is = sent_stay steps mid c rest place message (step_stays x.seen x.failures x.armed step old mid moves.steps.goes place message is)

  last_seen : (steps : List Step) (old : History D) (a : Account) (first : Sees x asked (left_in old) a) → IsReached x old a → Runs x steps old a new b → (seen : IsSeen x bytes chunk (left_in old) a) → first.lives.life chunk ≡ inr seen.alive
      → (last : IsSeen x bytes chunk (left_in new) b) × Leads seen.alive.world last.alive.world
  last_seen steps old a first r runs seen is =
      let to = sees_run_through x asked given law apart steps old new a b first (reached_well x old a r) runs right one in
      let next = seen_next x asked (left_in old) (left_in new) a b first to.last apart chunk (to.on chunk) seen is in
      (next.last, next.on.leads)

  rolling_there : (steps : List Step) (old : History D) (a : Account) (first : Sees x asked (left_in old) a) → IsReached x old a → Runs x steps old a new b → (seen : IsSeen x bytes chunk (left_in old) a) → first.lives.life chunk ≡ inr seen.alive
      → e + 1 ≤ (seen.alive.world.members id).epoch → IsRollingAt seen.alive.world e id
  rolling_there steps old a first r runs seen is low =
      let last = last_seen steps old a first r runs seen is in
      rolling_at seen.alive.world last.0.alive.world (reached_world seen.alive.world seen.alive.reached) last.1 (last.0.told.rolling ∙ rolling) e id (last.0.told.epoch ∙ same) low

  -- a server that has learned of it drops nothing on the way
  drops_none : (steps : List Step) (old : History D) (a : Account) (first : Sees x asked (left_in old) a) (r : IsReached x old a) (runs : Runs x steps old a new b) (seen : IsSeen x bytes chunk (left_in old) a) → first.lives.life chunk ≡ inr seen.alive
      → e + 1 ≤ (seen.alive.world.members id).epoch → DropsNone x chunk id steps old a new b runs
  drops_none [] old a first r runs seen is low = tt
  drops_none (step ∷ steps) old a first r (mid, c, moves, rest) seen is low =
      let w : ChunkWorld = seen.alive.world in
      let here = rolling_there (step ∷ steps) old a first r (mid, c, moves, rest) seen is low in
      let single : Runs x (step ∷ []) old a mid c = (mid, c, moves, (refl, refl)) in
      let stays = sent_stay steps mid c rest in
      let to = sees_run_through x asked given law apart (step ∷ []) old mid a c first (reached_well x old a r) single (before x.seen x.failures x.armed (PushRight bytes) mid.sent new.sent stays right)
      (before x.seen x.failures x.armed (IsOfOneEdit asked) mid.sent new.sent stays one) in
      let next = seen_next x asked (left_in old) (left_in mid) a c first to.last apart chunk (to.on chunk) seen is in
      let up : (w.members id).epoch ≤ (next.last.alive.world.members id).epoch = (stays_known w (reached_world w seen.alive.reached) next.last.alive.world next.on.leads).epochs id in
      (step_keeps x bytes chunk id e (left_in old) a seen here step, drops_none steps mid c to.last (reach_more x old mid a c (step ∷ []) r single) rest next.last next.lives (omega arith))

  -- ---- from where it would name the chunk

  module _ (steps : List Step) (old : History D) (a : Account) (first : Sees x asked (left_in old) a) (r : IsReached x old a) (runs : Runs x steps old a new b) (seen : IsSeen x bytes chunk (left_in old) a) (is : first.lives.life chunk ≡ inr seen.alive) (s : Server)
      (at : slice_get old.nodes.servers id ≡ Some s) (learned : s.kept.epoch ≡ e + 1) (named : is_named (e + 1) (slot_in chunk s) ≡ true) where
    abbrev w : ChunkWorld
    w = seen.alive.world

    abbrev c : Setting
    c = setting x.config bytes seen.alive.reached.0.epoch

    ok : WorldOk w
    ok = reached_world w seen.alive.reached

    shows : ShowsPlace c w.known s.kept.epoch (place_of chunk s) (w.members id)
    shows = seen.alive.shows.members id s at

    parts : (is_same (slot_in chunk s).promise (start_of (e + 1)) ≡ true) × (is_sound (slot_in chunk s).live ≡ true)
    parts = both (is_same (slot_in chunk s).promise (start_of (e + 1))) (is_sound (slot_in chunk s).live) named

    live : (is_some (slot_in chunk s).live ≡ true) × LiveUndamaged (slot_in chunk s).live
    live = sound_there (slot_in chunk s).live parts.1

    epoch_is : (w.members id).epoch ≡ e + 1
    epoch_is = shows.epoch_is (shown_late c w.known s.kept.epoch (place_of chunk s) (w.members id) shows live.0) ∙ learned

    goes_on : IsRollingAt w e id
    goes_on = rolling_there steps old a first r runs seen is (let here = epoch_is in omega arith)

    promise_is : (w.members id).promise ≡ stamps.start_of (e + 1)
    promise_is = stamp_number (w.members id).promise (stamps.start_of (e + 1)) (sym shows.promise ∙ same_stamp (slot_in chunk s).promise (start_of (e + 1)) parts.0 ∙ sym (start_stamp (e + 1)))

    -- nothing is sealed then
    unsealed : SealUndamaged (sealed_of (slot_in chunk s))
    unsealed = by_none (w.members id).image none shows.image
      where
        none : (w.members id).image ≡ None
        none = (ok.seals id).none (λ prepared. (let other : Rollback ≡ Prepare = sym goes_on.how ∙ ap w.known.how (sym epoch_is) ∙ prepared in cc))

        by_none : (o : Option (List Edit)) → o ≡ None → ShowsImage c (slot_in chunk s) o → SealUndamaged (sealed_of (slot_in chunk s))
        by_none None is image = subst SealUndamaged (sym image) tt
        by_none (Some ys) is image = absurd (cc)

    stays_first : IsStaying x bytes chunk id e (left_in old) w s
    stays_first = record {
      at = at;
      least = (let promise = promise_is in omega arith);
      within = (let current = goes_on.current in omega arith);
      how = goes_on.how;
      still = inr (record { live = live.0; whole = live.1; sealed = unsealed });
    }

    rolls : w.entry.is_rolling ≡ true
    rolls = by_case w.entry.is_rolling refl
      where
        by_case : (t : Bool) → w.entry.is_rolling ≡ t → t ≡ true
        by_case true is = refl
        by_case false is =
            absurd (
            let current : w.known.current ≡ e + 1 = goes_on.current in
            let done : stamps.start_of (e + 1) ≤ w.known.view = (ok.entry).done is (e + 1) (omega arith) goes_on.how in
            let ahead : w.known.view < stamps.start_of (e + 1) = goes_on.ahead in omega arith
            )

    last : (last : IsSeen x bytes chunk (left_in new) b) × Leads w last.alive.world
    last = last_seen steps old a first r runs seen is

    -- it has promised no more at the end
    held : IsHeld (w.members id) (last.0.alive.world.members id)
    held =
        let epoch : w.entry.epoch ≡ w.known.current = (ok.entry).epoch in
        let current : w.known.current ≡ e + 1 = goes_on.current in
        let there : last.0.alive.world.entry.epoch ≡ e + 1 = last.0.told.epoch ∙ same in
        let here : (w.members id).epoch ≡ e + 1 = epoch_is in
        rolled_are_held w last.0.alive.world seen.alive.reached last.1 (record { first = rolls; still = last.0.told.rolling ∙ rolling; same = omega arith }) id (omega arith)

    promised : (t : Server) → slice_get new.nodes.servers id ≡ Some t → (slot_in chunk t).promise ≡ start_of (e + 1)
    promised t there = (last.0.alive.shows.members id t there).promise ∙ ap stamp_at (held.promise ∙ promise_is) ∙ start_stamp (e + 1)

    pub still_live : Spare chunk id steps → (t : Server) × (slice_get new.nodes.servers id ≡ Some t) × StillLive (slot_in chunk t) × ((slot_in chunk t).promise ≡ start_of (e + 1))
    still_live spared =
        let drops = drops_none steps old a first r runs seen is (let here = epoch_is in omega arith) in
        let ends = staying_on law x asked given chunk id e apart steps old new a b first (reached_well x old a r) runs right one seen.alive is s stays_first (spared_whole law x asked given chunk id e steps old a new b runs spared drops) in (
          ends.0,
          ends.1,
          elim ends.2 [
            | inl above ↦ absurd (false≢true (sym (not_before_itself (start_of (e + 1))) ∙ sym (ap (is_before (start_of (e + 1))) (promised ends.0 ends.1)) ∙ above))
            | inr still ↦ still
          ],
          promised ends.0 ends.1,
        )
