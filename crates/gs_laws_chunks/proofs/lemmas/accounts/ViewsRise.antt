-- The settled view of a chunk is of no lower stamp later.
use Rattle.gs_laws_lift.specs.stores.Left.{left_in}
use Rattle.std.proofs.Common.{◌≡◌, ◌∙◌, ◌≤◌, inr, ℕ, Bool, false, true, refl, sym, ap, arith}
use Rattle.std.specs.Prelude.{is_some}
use Rattle.std.specs.FinMap as fin
use Rattle.gs_base.specs.Stamps.{is_before}
use Rattle.gs_laws_chunk.proofs.lemmas.machine.Facts.{reached_world}
use Rattle.gs_laws_chunk.proofs.lemmas.machine.Lasting.{stays_known}
use Rattle.gs_laws_chunk.specs.machine.Stamps.{stamp_at}
use Rattle.gs_laws_lift.specs.stores.Showing.{IsAlive, Life}
use Rattle.gs_laws_parts.proofs.lemmas.server.Stamps.{before_less}
use Rattle.gs_laws_parts.specs.server.Requests.{bytes_in}
use Rattle.gs_world.proofs.Reaching.{HaveSizes}
use Rattle.gs_laws_chunks.proofs.lemmas.accounts.Edits.{AreNumbered}
use Rattle.gs_laws_chunks.proofs.lemmas.accounts.Locating.{locations_were_looked_up}
use Rattle.gs_laws_chunks.proofs.lemmas.accounts.Runs.{living_told, seen_next, seen_of}
use Rattle.gs_laws_chunks.proofs.lemmas.accounts.SeeingThrough.{each_sees_on_through}
use Rattle.gs_laws_chunks.proofs.lemmas.accounts.Surviving.{settled_of}
use Rattle.gs_laws_chunks.proofs.lemmas.accounts.Viewing.{told_view}
use Rattle.gs_laws_chunks.specs.accounts.Running.{Setup}
use Rattle.gs_laws_chunks.specs.accounts.SeenThrough.{SeesBothThrough}
use Rattle.gs_laws_chunks.specs.accounts.ViewsRise.{LocationsAreNotAbove, ViewsRise}

not_before_least : (s t : ℕ) → s ≤ t → is_before (stamp_at t) (stamp_at s) ≡ false
not_before_least s t least = by_test (is_before (stamp_at t) (stamp_at s)) refl
  where
    by_test : (b : Bool) → is_before (stamp_at t) (stamp_at s) ≡ b → b ≡ false
    by_test false is = refl
    by_test true is = absurd (let less = before_less t s is in omega arith)

module _ (sizes : HaveSizes) (law : AreNumbered) {D : Type 0} (x : Setup D) where
  pub views_rise : ViewsRise x
  views_rise now later a b steps chunk first last r runs at at_last =
      let sees : SeesBothThrough x now a later b = each_sees_on_through sizes law x now later a b steps r runs in
      let row = settled_of (fin.get a.durable.chunks chunk) first at in
      let living = living_told x sees.asked (left_in now) a sees.first chunk (ap is_some row.1) in
      let seen = seen_of x sees.asked (left_in now) a sees.first r.apart chunk living.0 living.1 in
      let there_is : sees.first.lives.life chunk ≡ inr seen.0.alive = living.1 ∙ ap (λ (z : IsAlive x.seen x.config (bytes_in sees.asked) chunk (left_in now)). (let life : Life x.seen x.config (bytes_in sees.asked) chunk (left_in now) = inr z in life)) (sym seen.1) in
      let next = seen_next x sees.asked (left_in now) (left_in later) a b sees.first sees.last r.apart chunk (sees.on chunk) seen.0 there_is in
      let one = (told_view x (bytes_in sees.asked) chunk (left_in now) a seen.0 first at).shows.stamp in
      let other = (told_view x (bytes_in sees.asked) chunk (left_in later) b next.last last at_last).shows.stamp in
      let stays = stays_known seen.0.alive.world (reached_world seen.0.alive.world seen.0.alive.reached) next.last.alive.world next.on.leads in
      ap (λ s. is_before s first.stamp) other ∙ ap (is_before (stamp_at next.last.alive.world.entry.view.stamp)) one ∙ not_before_least seen.0.alive.world.entry.view.stamp next.last.alive.world.entry.view.stamp stays.view

  pub locations_not_above : LocationsAreNotAbove x
  locations_not_above now a req chunk epoch view last r located at =
      let was = locations_were_looked_up sizes law x now a req chunk epoch view r located in
      views_rise was.looked now was.a a was.steps chunk view last was.reached was.runs was.is.settled at
