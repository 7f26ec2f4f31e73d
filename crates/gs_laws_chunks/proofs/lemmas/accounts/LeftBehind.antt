-- A settled view without a primary ends what was asked for under its stamp and earlier ones.
use Rattle.gs_laws_lift.specs.stores.Left.{left_in}
use Rattle.std.proofs.Common.{◌≡◌, ◌∙◌, ◌+◌, ◌<◌, ◌≤◌, inl, inr, ℕ, false, true, List, Option, None, Some, length, refl, sym, ap, subst, arith}
use Rattle.std.specs.Prelude.{slice_get}
use Rattle.std.proofs.lemmas.Bool.{cases_eq, cases_lt, true≢false}
use Rattle.std.proofs.lemmas.Option.{slice_get_within}
use Rattle.gs_base.specs.Stamps.{is_before}
use Rattle.gs_base.specs.declared.epoch.EpochEnd.TheVariants.{Rollback}
use Rattle.gs_base.specs.declared.numbers.ReqId.{ReqId}
use Rattle.gs_base.specs.declared.numbers.Stamp.{Stamp}
use Rattle.gs_laws_chunk.proofs.lemmas.machine.Exact.{quiet_is_settled}
use Rattle.gs_laws_chunk.proofs.lemmas.machine.Facts.{reached_world}
use Rattle.gs_laws_chunk.proofs.lemmas.machine.Known.{IsPrepared, Later}
use Rattle.gs_laws_chunk.proofs.lemmas.machine.Lasting.{agrees, stays_known}
use Rattle.gs_laws_chunk.proofs.lemmas.machine.Lists.{some_same, take_from, there}
use Rattle.gs_laws_chunk.proofs.lemmas.machine.Stamps.{epoch_of-le, epoch_of-start, start_of-most}
use Rattle.gs_laws_chunk.proofs.lemmas.machine.Stays.{settled_stays}
use Rattle.gs_laws_chunk.proofs.lemmas.machine.Worlds.{WorldOk, leads_later}
use Rattle.gs_laws_chunk.specs.machine.Laws.{StaysKnown, WasUndone, settled, settled_count}
use Rattle.gs_laws_chunk.specs.machine.Machine.{ChunkWorld}
use Rattle.gs_laws_chunk.specs.machine.Numbering.{WasGivenUp}
use Rattle.gs_laws_chunk.specs.machine.Stamps.{epoch_of, stamp_at, start_of}
use Rattle.gs_laws_lift.proofs.lemmas.stores.Telling.{tells_first}
use Rattle.gs_laws_lift.specs.stores.Numbered.{StandsFirst, asked_under}
use Rattle.gs_laws_lift.specs.stores.Showing.{IsAlive, Life}
use Rattle.gs_laws_lift.specs.stores.Telling.{EditsStandFirst}
use Rattle.gs_laws_master.specs.Promises.{IsKept}
use Rattle.gs_laws_parts.proofs.lemmas.server.Stamps.{epoch_is, not_before}
use Rattle.gs_laws_parts.specs.master.Showing.{primary_of}
use Rattle.gs_laws_parts.specs.server.Requests.{Asked, bytes_in}
use Rattle.gs_lease.specs.declared.view.View.{View}
use Rattle.gs_master_spec.specs.Durable.{is_listed}
use Rattle.gs_replica.specs.Stands.{Edit}
use Rattle.gs_world.proofs.Reaching.{HaveSizes}
use Rattle.gs_world.specs.Histories.{History}
use Rattle.gs_laws_chunks.proofs.lemmas.accounts.Asked.{some_at}
use Rattle.gs_laws_chunks.proofs.lemmas.accounts.Done.{ends_long, undone_is}
use Rattle.gs_laws_chunks.proofs.lemmas.accounts.Edits.{AreNumbered}
use Rattle.gs_laws_chunks.proofs.lemmas.accounts.OnePlace.{asked_of}
use Rattle.gs_laws_chunks.proofs.lemmas.accounts.Runs.{keeps_told, living_listed, seen_next, seen_of}
use Rattle.gs_laws_chunks.proofs.lemmas.accounts.SeeingThrough.{each_sees_on_through}
use Rattle.gs_laws_chunks.proofs.lemmas.accounts.Viewing.{IsToldView, told_view}
use Rattle.gs_laws_chunks.specs.accounts.Accounts.{Account, settled_edits, settled_in, view_at}
use Rattle.gs_laws_chunks.specs.accounts.Acknowledged.{is_undone}
use Rattle.gs_laws_chunks.specs.accounts.Ending.{ViewsEndEdits}
use Rattle.gs_laws_chunks.specs.accounts.Joined.{IsSeen, SeenOn}
use Rattle.gs_laws_chunks.specs.accounts.OnePlace.{StandsAt}
use Rattle.gs_laws_chunks.specs.accounts.Running.{Setup}
use Rattle.gs_laws_chunks.specs.accounts.SeenThrough.{SeesBothThrough}

module _ {D : Type 0} (x : Setup D) (bytes : ReqId → List ℕ) (chunk : ℕ) (now later : History D) (a b : Account) (first : IsSeen x bytes chunk now a) (last : IsSeen x bytes chunk later b) (on : SeenOn x bytes chunk now a later b first last) (listed : is_listed a.durable chunk ≡ true)
    (view : View) (at : view_at a chunk ≡ Some view) (unled : view.term ≡ None) (view_now : View) (at_now : view_at b chunk ≡ Some view_now) (kept : IsKept b.durable) (spared : is_undone b.durable view.stamp ≡ false) where
  abbrev w : ChunkWorld
  w = first.alive.world

  abbrev v : ChunkWorld
  v = last.alive.world

  -- the stamp of the view, and of the one that is settled now
  abbrev s : ℕ
  s = w.entry.view.stamp

  abbrev t : ℕ
  t = v.entry.view.stamp

  okw : WorldOk w
  okw = reached_world w first.alive.reached

  okv : WorldOk v
  okv = reached_world v last.alive.reached

  onward : Later w.known v.known
  onward = leads_later w v on.leads okw

  stays : StaysKnown w v
  stays = stays_known w okw v on.leads

  told_then : IsToldView a chunk w view
  told_then = told_view x bytes chunk now a first view at

  told_now : IsToldView b chunk v view_now
  told_now = told_view x bytes chunk later b last view_now at_now

  free : w.entry.view.holder ≡ None
  free = told_then.shows.holder ∙ ap primary_of unled

  -- all that its list has is settled, and stays its list
  settled_is : settled_edits a chunk ≡ w.known.list s
  settled_is = ap (settled_in a chunk) at ∙ told_then.settled ∙ quiet_is_settled w okw free

  list_is : v.known.list s ≡ w.known.list s
  list_is = stays.quiet s (omega arith) ((agrees w okw).holder ∙ free)

  stood_still : v.known.stood s ≡ true
  stood_still = let same = (agrees w okw).view in onward.stood s (omega arith) ∙ told_then.stood

  -- no rollback has undone it
  not_back : (e : ℕ) → e + 1 ≤ v.known.current → v.known.how (e + 1) ≡ Rollback → epoch_of s ≡ e → ⊥
  not_back e within rolled epoch =
      let told = last.told.epoch in
      let current = (okv.entry).epoch in
      let long = ends_long b.durable.ends b.durable.epoch b.durable.phase kept.ends in
      let end = there b.durable.ends e (omega arith) in
      let is : Rollback ≡ end.0 = sym ((okv.entry).how (e + 1) ∙ rolled) ∙ (last.told.how e end.0 end.1).1 in
      let undone : is_undone b.durable (stamp_at s) ≡ true = undone_is b.durable (stamp_at s) (ap (slice_get b.durable.ends) (epoch_is s ∙ epoch) ∙ end.1 ∙ ap Some (sym is)) in
      absurd (true≢false (sym undone ∙ ap (is_undone b.durable) (sym told_then.shows.stamp) ∙ spared))

  not_undone : (place : ℕ) → WasUndone v s place → ⊥
  not_undone place u =
      not_back u.e (within_epoch v okv u.e u.accepted) (sym ((okv.entry).how (u.e + 1)) ∙ u.rollback) u.is
    where
      within_epoch : (z : ChunkWorld) (ok : WorldOk z) (e : ℕ) → start_of (e + 1) ≤ z.entry.view.stamp → e + 1 ≤ z.known.current
      within_epoch z ok e accepted =
          let up = (ok.known).viewtop in
          let top = (ok.known).topepoch in
          let is = (ok.entry).stamp in
          let start = epoch_of-start (e + 1) in
          let rises = epoch_of-le (start_of (e + 1)) z.known.top (omega arith) in
          omega arith

  not_given_up : WasGivenUp v.known s t → ⊥
  not_given_up g =
      let is : IsPrepared v.known g.e = ((let within = g.within in omega arith), g.prepare, g.kept) in
      let after = g.after in
      let before = g.before in
      let late = told_then.late in
      let born = onward.born in
      let low = stays.view in
      let same = (okv.entry).stamp in
      let epoch : epoch_of s ≡ g.e = elim (((okv.known).links s (omega arith) (omega arith) stood_still).legit g.e is) [
        | inl never ↦ absurd (omega arith)
        | inr above ↦ elim (cases_lt g.e (epoch_of s)) [ inl over ↦ absurd (let most = start_of-most (g.e + 1) s (omega arith) in omega arith) | inr most ↦ omega arith ]
      ] in
      not_back g.e g.within g.how epoch

  -- an edit that was asked for under no greater stamp stands in its list
  module _ (asked : ℕ → Asked) (told : EditsStandFirst x.seen x.config bytes asked v.known chunk) (under : Stamp) (early : is_before view.stamp under ≡ false) where
    inside : (place : ℕ) (edit : Edit) → slice_get (v.known.list t) place ≡ Some edit → asked_under asked chunk edit.req ≡ Some under → place < length (w.known.list s)
    inside place edit stands asks =
        let f : StandsFirst v.known t place under = told.first t place edit under stands asks in
        let same = (okv.entry).stamp in
        let low = stays.view in
        let least : f.number ≤ s = not_before s f.number (ap (λ (z : Stamp). is_before z (stamp_at f.number)) (sym told_then.shows.stamp) ∙ ap (is_before view.stamp) (sym f.is) ∙ early) in
        subst (λ xs. place < length xs) list_is (elim (cases_eq s t) [
          | inl here ↦ subst (λ n. place < length (v.known.list n)) (sym here) (slice_get_within (v.known.list t) place edit stands)
          | inr other ↦ f.between (omega arith) told_now.stood s least (omega arith) stood_still not_given_up
        ])

    stood : (req : ReqId) (place : ℕ) → asked_under asked chunk req ≡ Some under → StandsAt (settled_edits b chunk) req place → StandsAt (settled_edits a chunk) req place
    stood req place asks stands =
        let now_at : slice_get (settled v) place ≡ Some stands.edit = subst (λ xs. slice_get xs place ≡ Some stands.edit) (ap (settled_in b chunk) at_now ∙ told_now.settled) stands.stands in
        let listed_at : slice_get (v.known.list t) place ≡ Some stands.edit = take_from (v.known.list t) (settled_count v) place stands.edit now_at in
        let found = there (w.known.list s) place (inside place stands.edit listed_at (ap (asked_under asked chunk) stands.is ∙ asks)) in
        let was_at : slice_get (settled w) place ≡ Some found.0 = subst (λ xs. slice_get xs place ≡ Some found.0) (sym (quiet_is_settled w okw free)) found.1 in
        let still : slice_get (settled v) place ≡ Some found.0 = elim ((settled_stays w okw v on.leads place found.0 (first.told.listed listed) was_at).1 told_now.stood) [
          | inl u ↦ absurd (not_undone place u)
          | inr z ↦ z.counted
        ] in
        let same : found.0 ≡ stands.edit = some_same found.0 stands.edit (sym still ∙ now_at) in
        record { edit = found.0; stands = subst (λ xs. slice_get xs place ≡ Some found.0) (sym settled_is) found.1; is = ap (λ (z : Edit). z.req) same ∙ stands.is }

module _ (sizes : HaveSizes) (law : AreNumbered) {D : Type 0} (x : Setup D) where
  pub views_end_edits : ViewsEndEdits x
  views_end_edits now later a b steps chunk view req place r runs listed at unled was early spared stands = by_view (view_at b chunk) refl
    where
      sees : SeesBothThrough x now a later b
      sees = each_sees_on_through sizes law x now later a b steps r runs

      by_view : (o : Option View) → view_at b chunk ≡ o → StandsAt (settled_edits a chunk) req place
      by_view None none = absurd (some_at place stands.edit (settled_edits b chunk) (ap (settled_in b chunk) none) stands.stands)
      by_view (Some view_now) at_now =
          let living = living_listed x sees.asked (left_in now) a sees.first chunk listed in
          let first = seen_of x sees.asked (left_in now) a sees.first r.apart chunk living.0 living.1 in
          let there_is : sees.first.lives.life chunk ≡ inr first.0.alive = living.1 ∙ ap (λ (z : IsAlive x.seen x.config (bytes_in sees.asked) chunk (left_in now)). (let life : Life x.seen x.config (bytes_in sees.asked) chunk (left_in now) = inr z in life)) (sym first.1) in
          let next = seen_next x sees.asked (left_in now) (left_in later) a b sees.first sees.last r.apart chunk (sees.on chunk) first.0 there_is in
          stood x (bytes_in sees.asked) chunk (left_in now) (left_in later) a b first.0 next.last next.on listed view at unled view_now at_now (keeps_told x sees.asked (left_in later) b sees.last) spared sees.asked
          (tells_first x.seen x.config (bytes_in sees.asked) sees.asked x.among (left_in later) sees.last.lives sees.last.tells chunk next.last.alive next.lives) was.stamp early req place (asked_of sees.asked later.sent chunk req sees.last.tells.one was) stands
