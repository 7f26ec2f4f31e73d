-- Each member behind a rollback that would have named the chunk on the way, and of which nothing was lost or damaged since, has the bytes of the prepare.
use Rattle.gs_laws_lift.specs.stores.Left.{as_left}
use Rattle.gs_laws_lift.specs.stores.Left.{left_in}
use Rattle.std.proofs.Common.{[], ◌≡◌, ◌∙◌, ◌+◌, ◌&&◌, inl, inr, ℕ, true, false, List, None, Option, Some, refl, sym, ap, subst, slice_get}
use Rattle.std.specs.Prelude.{is_some}
use Rattle.std.proofs.lemmas.Bool.{and_parts, false≢true}
use Rattle.gs_base.specs.Stamps.{is_same}
use Rattle.gs_laws_chunk.proofs.lemmas.machine.Facts.{reached_world}
use Rattle.gs_laws_chunk.specs.machine.Machine.{ChunkWorld}
use Rattle.gs_laws_moves.specs.moves.Epochs.{rolls_back}
use Rattle.gs_master_record.specs.declared.checkpoint.Phase.{Phase}
use Rattle.gs_master_record.specs.declared.checkpoint.Phase.TheVariants.{Ordinary, Rolling, Upgrade}
use Rattle.gs_master_spec.specs.Durable.{Durable, is_ordinary, is_rolling}
use Rattle.gs_server.specs.Runs.{slot_in}
use Rattle.gs_server.specs.Servers.{Server}
use Rattle.gs_laws_parts.specs.server.Requests.{Asked, bytes_in}
use Rattle.gs_store.specs.Learning.{is_named, is_sound, start_of}
use Rattle.gs_store.specs.Slots.{Live, Slot}
use Rattle.gs_store.specs.Standing.{LiveUndamaged}
use Rattle.gs_world.proofs.Reaching.{HaveSizes}
use Rattle.gs_world.specs.Histories.{History}
use Rattle.gs_world.specs.Runs.{Step}
use Rattle.gs_laws_chunks.proofs.lemmas.accounts.Told.{named}
use Rattle.gs_laws_chunks.specs.accounts.Accounts.{Account}
use Rattle.gs_laws_chunks.specs.accounts.Running.{IsReached, Runs, Setup, StepsWithin}
use Rattle.gs_laws_chunks.proofs.lemmas.accounts.Durables.{told_is_had}
use Rattle.gs_laws_chunks.proofs.lemmas.accounts.Edits.{AreNumbered}
use Rattle.gs_laws_chunks.proofs.lemmas.accounts.Holding.{prepared_reached, reach_more, runs_of}
use Rattle.gs_laws_chunks.proofs.lemmas.accounts.Runs.{both_seen}
use Rattle.gs_laws_chunks.proofs.lemmas.accounts.SeeingThrough.{each_sees_on_through}
use Rattle.gs_laws_chunks.proofs.lemmas.accounts.Spared.{StillLive}
use Rattle.gs_laws_chunks.proofs.lemmas.accounts.Standing.{unborn_none}
use Rattle.gs_laws_chunks.specs.accounts.SeenThrough.{SeesBothThrough}
use Rattle.gs_laws_chunks.specs.accounts.Upgrading.{Spare}
use Rattle.gs_laws_lift.proofs.lemmas.stores.AskingRuns.{of_one_edit, pushes_right}
use Rattle.gs_laws_lift.proofs.lemmas.stores.Mastering.{both}
use Rattle.gs_laws_lift.proofs.lemmas.stores.Placing.{kind_of}
use Rattle.gs_laws_lift.specs.stores.Doing.{HasDurable}
use Rattle.gs_laws_lift.specs.stores.Going.{Elsewhere, Kind, OfMaster, OfServer}
use Rattle.gs_laws_lift.specs.stores.Showing.{IsAlive, Life}
use Rattle.gs_laws_chunks.proofs.lemmas.accounts.Accounted.{gives_bytes_back, rolled_back_so, within_accounts}
use Rattle.gs_laws_chunks.proofs.lemmas.accounts.Became.{has_one}
use Rattle.gs_laws_chunks.proofs.lemmas.accounts.KeepingRuns.{still_live}
use Rattle.gs_laws_chunks.proofs.lemmas.accounts.Leading.{keeps_has, stands_prepared, way_so, within_so}
use Rattle.gs_laws_chunks.proofs.lemmas.accounts.Well.{IsWell}
use Rattle.gs_laws_chunks.specs.accounts.Back.{HasBytes, KeepsBytes}

-- ---- from a world in which a server would name the chunk

-- a server has a live replica of a chunk, each block of which has its digest, under the first stamp of an epoch
pub record HasWhole {D : Type 0} (h : History D) (id chunk epoch : ℕ) : Type 0 where
  pub s : Server
  pub there : slice_get h.nodes.servers id ≡ Some s
  pub still : StillLive (slot_in chunk s)
  pub promise : (slot_in chunk s).promise ≡ start_of epoch

whole_of : {D : Type 0} (h : History D) (id chunk e epoch : ℕ) → epoch ≡ e + 1 → (t : Server) × (slice_get h.nodes.servers id ≡ Some t) × StillLive (slot_in chunk t) × ((slot_in chunk t).promise ≡ start_of (e + 1)) → HasWhole h id chunk epoch
whole_of h id chunk e epoch same (t, there, still, promise) = record { s = t; there = there; still = still; promise = promise ∙ ap start_of (sym same) }

named_lives : (epoch : ℕ) (slot : Slot) → is_named epoch slot ≡ true → slot.live ≡ None → ⊥
named_lives epoch slot is none = false≢true (sym (ap is_sound none) ∙ (both (is_same slot.promise (start_of epoch)) (is_sound slot.live) is).1)

module _ (sizes : HaveSizes) (law : AreNumbered) {D : Type 0} (x : Setup D) (mid now : History D) (told after : Account) (steps : List Step) (r : IsReached x mid told) (runs : Runs x steps mid told now after) (d : Durable) (has : HasDurable x.seen (as_left now.nodes.master) d) (rolling : is_rolling d.phase ≡ true)
    (chunk id : ℕ) (s : Server) (there : slice_get mid.nodes.servers id ≡ Some s) (learned : s.kept.epoch ≡ d.epoch) (named : is_named d.epoch (slot_in chunk s) ≡ true) (spared : Spare chunk id steps) where
  sees : SeesBothThrough x mid told now after
  sees = each_sees_on_through sizes law x mid now told after steps r runs

  abbrev asked : ℕ → Asked
  asked = sees.asked

  durable_is : d ≡ after.durable
  durable_is = told_is_had x.seen (as_left now.nodes.master) after.durable d sees.last.lives.lasts sees.last.agrees.told has

  at_life : (l : IsAlive x.seen x.config (bytes_in asked) chunk (left_in mid)) → sees.first.lives.life chunk ≡ inr l → HasWhole now id chunk d.epoch
  at_life l is =
      let seen = both_seen x asked (left_in mid) (left_in now) told after sees.first sees.last r.apart chunk (sees.on chunk) l is in
      let v : ChunkWorld = seen.last.alive.world in
      let ok = reached_world v seen.last.alive.reached in
      let still_rolling : is_rolling after.durable.phase ≡ true = sym (ap (λ (z : Durable). is_rolling z.phase) durable_is) ∙ rolling in
      let goes = (ok.entry).rolling (seen.last.told.rolling ∙ still_rolling) in
      let epoch : after.durable.epoch ≡ goes.e + 1 = sym seen.last.told.epoch ∙ (ok.entry).epoch ∙ goes.next in
      let same : d.epoch ≡ goes.e + 1 = ap (λ (z : Durable). z.epoch) durable_is ∙ epoch in
      let lives : sees.first.lives.life chunk ≡ inr seen.first.alive = is ∙ ap (λ (z : IsAlive x.seen x.config (bytes_in asked) chunk (left_in mid)). (let life : Life x.seen x.config (bytes_in asked) chunk (left_in mid) = inr z in life)) (sym seen.is_first) in
      whole_of now id chunk goes.e d.epoch same
      (still_live law x asked r.begins.given r.apart chunk id goes.e now after still_rolling epoch (pushes_right asked now sees.are) (of_one_edit asked now sees.are) steps mid told sees.first r runs seen.first lives s there (learned ∙ same)
      (subst (λ n. is_named n (slot_in chunk s) ≡ true) same named) spared)

  pub whole_now : HasWhole now id chunk d.epoch
  whole_now = by_life (sees.first.lives.life chunk) refl
    where
      by_life : (life : Life x.seen x.config (bytes_in asked) chunk (left_in mid)) → sees.first.lives.life chunk ≡ life → HasWhole now id chunk d.epoch
      by_life (inl unborn) is = absurd (named_lives d.epoch (slot_in chunk s) named (unborn_none x.seen (left_in mid) id chunk s unborn there))
      by_life (inr l) is = at_life l is

-- ---- the commit is the master's, and leaves each server as it is

never_both : (phase : Phase) → (is_rolling phase && is_ordinary phase) ≡ false
never_both Ordinary = refl
never_both Upgrade = refl
never_both Rolling = refl

pub servers_stay : {D : Type 0} (x : Setup D) (step : Step) (now back : History D) (d e : Durable) → IsWell x now → StepsWithin x step now back → HasDurable x.seen (as_left now.nodes.master) d → HasDurable x.seen (as_left back.nodes.master) e → rolls_back d e ≡ true → back.nodes.servers ≡ now.nodes.servers
servers_stay x step now back d e well one had has done = by_kind (kind_of x.seen x.failures x.armed step now back one.goes (named x step now one.within well.types))
  where
    moved : back.nodes.master ≡ now.nodes.master → ⊥
    moved same =
        let still : d ≡ e = has_one x.seen (as_left now.nodes.master) d e had (subst (λ place. HasDurable x.seen (as_left place) e) same has) in
        false≢true (sym (never_both d.phase) ∙ ap (rolls_back d) still ∙ done)

    by_kind : Kind x.seen x.failures x.armed step now back → back.nodes.servers ≡ now.nodes.servers
    by_kind (OfServer id s after messages moment found at met servers master posted) = absurd (moved master)
    by_kind (OfMaster place messages moment at servers master posted) = servers
    by_kind (Elsewhere by messages moment are servers master posted) = servers

-- ---- over runs

-- a live replica that is whole has some bytes, and it has them behind a step that leaves each server as it is
pub bytes_there : {D : Type 0} (old new : History D) (id chunk epoch : ℕ) → new.nodes.servers ≡ old.nodes.servers → HasWhole old id chunk epoch → (bytes : List ℕ) × HasBytes new id chunk bytes
bytes_there old new id chunk epoch servers h = by_live (slot_in chunk h.s).live refl h.still.live h.still.whole
  where
    there : slice_get new.nodes.servers id ≡ Some h.s
    there = ap (λ xs. slice_get xs id) servers ∙ h.there

    by_live : (o : Option Live) → (slot_in chunk h.s).live ≡ o → is_some o ≡ true → LiveUndamaged o → (bytes : List ℕ) × HasBytes new id chunk bytes
    by_live None is live whole = absurd (false≢true live)
    by_live (Some l) is live whole = (l.replica.held.chunk.bytes, record { s = h.s; there = there; live = l; lives = is; whole = whole; is = refl })

pub with_bytes : {D : Type 0} (h : History D) (id chunk : ℕ) (had : List ℕ) → (bytes : List ℕ) × HasBytes h id chunk bytes → ((has : List ℕ) → HasBytes h id chunk has → has ≡ had) → HasBytes h id chunk had
with_bytes h id chunk had (bytes, has) same = subst (HasBytes h id chunk) (same bytes has) has

pub keeps_bytes : HaveSizes → AreNumbered → {D : Type 0} (x : Setup D) → KeepsBytes x
keeps_bytes sizes law x prepared back before last chunk id other had apart goes member old among was =
    let given = goes.given in
    let so = rolled_back_so x prepared back before last apart goes in
    let begun = stands_prepared x prepared back before last goes in
    let stands = way_so x given before was.first prepared was.mid was.steps goes.now goes.rolling was.way was.rest goes.rolls begun in
    let way = within_accounts x given before was.first prepared was.mid so.first was.way was.steps goes.now goes.rolling was.rest goes.rolls begun in
    let rest = within_accounts x given before was.steps was.mid goes.now way.0 was.rest [] goes.now goes.rolling refl goes.rolls stands in
    let reached = reach_more x prepared was.mid so.first way.0 was.first (prepared_reached sizes law x prepared goes.now so.first so.after so.rolled.upgrade) (runs_of x was.first prepared was.mid so.first way.0 way.1) in
    let rolling = (and_parts (is_rolling goes.rolling.phase) (is_ordinary last.phase) goes.done).0 in
    let now = whole_now sizes law x was.mid goes.now way.0 rest.0 was.steps reached (runs_of x was.steps was.mid goes.now way.0 rest.0 rest.1) goes.rolling (keeps_has x goes.now.nodes.master goes.rolling goes.rolls) rolling chunk other was.s was.there was.learned was.named was.spared in
    let well = (within_so x given before goes.between prepared goes.now goes.rolling goes.rest goes.rolls begun).well in
    let servers = servers_stay x goes.commit goes.now back goes.rolling last well goes.commits (keeps_has x goes.now.nodes.master goes.rolling goes.rolls) (keeps_has x back.nodes.master last goes.ended) goes.done in
    with_bytes back other chunk had (bytes_there goes.now back other chunk goes.rolling.epoch servers now)
    (λ has new. gives_bytes_back sizes law x prepared back before last chunk id other had has apart goes member old among new)
