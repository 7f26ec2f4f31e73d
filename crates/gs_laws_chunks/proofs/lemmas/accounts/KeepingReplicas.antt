-- A member behind the commit of a rollback that would have named the chunk on the way, and of which nothing was lost or damaged since, has a live replica with the text of the prepare, over runs with their accounts.
use Rattle.std.proofs.Common.{◌≡◌, ◌∙◌, ℕ, List, [], true, None, Option, Some, refl, sym, ap, subst, slice_get}
use Rattle.std.specs.Prelude.{is_some}
use Rattle.std.proofs.lemmas.Bool.{and_parts, false≢true}
use Rattle.std.specs.FinMap as fin
use Rattle.gs_base.specs.Stamps.{is_before}
use Rattle.gs_base.specs.declared.numbers.Stamp.{Stamp}
use Rattle.gs_master_spec.specs.Durable.{is_ordinary, is_rolling}
use Rattle.gs_replica.specs.Seals.{lowest_damaged}
use Rattle.gs_replica.specs.Stands.{Edit}
use Rattle.gs_server.specs.Runs.{slot_in}
use Rattle.gs_server.specs.Servers.{Server}
use Rattle.gs_store.proofs.Laws.{not_before_itself}
use Rattle.gs_store.specs.Slots.{Live, Slot}
use Rattle.gs_store.specs.Standing.{LiveUndamaged}
use Rattle.gs_world.proofs.Reaching.{HaveSizes}
use Rattle.gs_laws_chunks.specs.accounts.Accounts.{settled_edits}
use Rattle.gs_laws_chunks.specs.accounts.Running.{IsReached, Setup}
use Rattle.gs_laws_chunks.proofs.lemmas.accounts.Edits.{AreNumbered}
use Rattle.gs_laws_chunks.proofs.lemmas.accounts.Holding.{prepared_reached, reach_more, runs_of}
use Rattle.gs_laws_chunks.proofs.lemmas.accounts.Spared.{StillLive}
use Rattle.gs_laws_chunks.specs.accounts.Sealing.{HasText, IsLiveWith}
use Rattle.gs_laws_chunks.proofs.lemmas.accounts.BytesRuns.{stamp_then}
use Rattle.gs_laws_chunks.proofs.lemmas.accounts.KeepingBack.{servers_stay, whole_now}
use Rattle.gs_laws_chunks.proofs.lemmas.accounts.KeepingTexts.{no_other_text, row_of}
use Rattle.gs_laws_chunks.proofs.lemmas.accounts.Settled.{gives_no_other_back}
use Rattle.gs_laws_chunks.proofs.lemmas.accounts.Telling.{now_so, told_has}
use Rattle.gs_laws_chunks.proofs.lemmas.accounts.Well.{step_well}
use Rattle.gs_laws_chunks.specs.accounts.Back.{GivesReplicasBack}

-- a live replica that is whole, and has no other text than this, has this
live_with : (size : ℕ) (promise : Stamp) (edits : List Edit) (slot : Slot) → is_some slot.live ≡ true → LiveUndamaged slot.live → slot.promise ≡ promise → ((l : Live) → slot.live ≡ Some l → lowest_damaged l.replica.held.chunk ≡ None → HasText size edits l.replica.held.chunk l.replica.held.count) → IsLiveWith size promise edits slot
live_with size promise edits slot live whole promised text = by_live slot.live refl live whole
  where
    by_live : (o : Option Live) → slot.live ≡ o → is_some o ≡ true → LiveUndamaged o → IsLiveWith size promise edits slot
    by_live None is live whole = absurd (false≢true live)
    by_live (Some l) is live whole = record { live = l; lives = is; promised = promised; text = text l is whole }

one_server : (o : Option Server) (s r : Server) → o ≡ Some s → o ≡ Some r → s ≡ r
one_server o s r one other = cc

pub gives_replicas_back : HaveSizes → AreNumbered → {D : Type 0} (x : Setup D) → GivesReplicasBack x
gives_replicas_back sizes law x prepared now back before after last chunk id view s r told member at u =
    let up = r.upgrade in
    let row = row_of (fin.get last.durable.chunks chunk) view told in
    let listed = gives_no_other_back sizes law x prepared now back before after last chunk r row in
    let reached : IsReached x u.mid u.told =
    reach_more x prepared u.mid before u.told u.first.steps (prepared_reached sizes law x prepared u.mid before u.told u.first) (runs_of x u.first.steps prepared u.mid before u.told u.first.runs) in
    let ends = and_parts (is_rolling after.durable.phase) (is_ordinary last.durable.phase) r.accepted in
    let n = now_so x prepared now before after up in
    let here = whole_now sizes law x u.mid now u.told after u.steps reached (runs_of x u.steps u.mid now u.told after u.rest) after.durable n.has ends.0 chunk id u.s u.there u.learned u.named u.spared in
    let servers = servers_stay x r.step now back after.durable last.durable n.well r.moves.steps n.has (told_has x back last.durable (step_well x n.given r.step now back n.well r.moves.steps) r.moves.told) r.accepted in
    let same : here.s ≡ s = one_server (slice_get back.nodes.servers id) here.s s (ap (λ xs. slice_get xs id) servers ∙ here.there) at in
    let still : StillLive (slot_in chunk s) = subst (λ y. StillLive (slot_in chunk y)) same here.still in
    let stamp = stamp_then sizes law x prepared now back before after last r.step up r.moves r.accepted chunk listed row view told in
    let promise : (slot_in chunk s).promise ≡ view.stamp = ap (λ y. (slot_in chunk y).promise) (sym same) ∙ here.promise ∙ sym stamp in
    live_with x.config.chunk view.stamp (settled_edits before chunk) (slot_in chunk s) still.live still.whole promise
    (λ l is whole. no_other_text sizes law x prepared now back back before after last last [] chunk id view s l r told member (refl, refl) at (ap (is_before view.stamp) promise ∙ not_before_itself view.stamp) is whole)
