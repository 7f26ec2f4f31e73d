-- An edit that was asked for before an accepted prepare, and isn't settled then, isn't settled while that upgrade stands.
use Rattle.gs_laws_lift.specs.stores.Left.{left_in}
use Rattle.std.proofs.Common.{◌≡◌, ◌∙◌, ◌+◌, ◌<◌, ◌≤◌, inl, inr, ℕ, true, List, Option, None, Some, length, refl, sym, ap, subst, arith}
use Rattle.std.specs.Prelude.{slice_get}
use Rattle.std.specs.FinMap as fin
use Rattle.std.proofs.lemmas.Bool.{cases_lt}
use Rattle.std.proofs.lemmas.Option.{slice_get_within}
use Rattle.gs_base.specs.declared.epoch.EpochEnd.{EpochEnd}
use Rattle.gs_base.specs.declared.epoch.EpochEnd.TheVariants.{Prepare, Rollback}
use Rattle.gs_base.specs.declared.numbers.ReqId.{ReqId}
use Rattle.gs_base.specs.declared.numbers.Stamp.{Stamp}
use Rattle.gs_laws_chunk.proofs.lemmas.machine.Facts.{reached_world}
use Rattle.gs_laws_chunk.proofs.lemmas.machine.Known.{IsPrepared}
use Rattle.gs_laws_chunk.proofs.lemmas.machine.Lists.{some_same, take_from, there}
use Rattle.gs_laws_chunk.proofs.lemmas.machine.Prepared as preparing
use Rattle.gs_laws_chunk.proofs.lemmas.machine.Stamps.{epoch_of-le, epoch_of-start, start_of-most}
use Rattle.gs_laws_chunk.proofs.lemmas.machine.Stays.{settled_stays}
use Rattle.gs_laws_chunk.proofs.lemmas.machine.Worlds.{WorldOk}
use Rattle.gs_laws_chunk.specs.machine.Laws.{IsUpgrading, WasUndone, prepared_list, settled, settled_count}
use Rattle.gs_laws_chunk.specs.machine.Machine.{ChunkWorld}
use Rattle.gs_laws_chunk.specs.machine.Stamps.{epoch_of, start_of}
use Rattle.gs_laws_lift.proofs.lemmas.stores.AskingRuns.{of_one_edit, pushes_right}
use Rattle.gs_laws_lift.proofs.lemmas.stores.Telling.{tells_first}
use Rattle.gs_laws_lift.specs.stores.Numbered.{StandsFirst, asked_under}
use Rattle.gs_laws_lift.specs.stores.Telling.{EditsStandFirst}
use Rattle.gs_laws_parts.proofs.lemmas.server.Stamps.{epoch_is}
use Rattle.gs_laws_parts.specs.server.Requests.{Asked, bytes_in}
use Rattle.gs_lease.specs.declared.view.View.{View}
use Rattle.gs_master_spec.specs.Applied.{view_in}
use Rattle.gs_master_spec.specs.Durable.{is_listed}
use Rattle.gs_replica.specs.Stands.{Edit}
use Rattle.gs_world.proofs.Reaching.{HaveSizes}
use Rattle.gs_world.specs.Histories.{History}
use Rattle.gs_laws_chunks.proofs.lemmas.accounts.Asked.{some_at}
use Rattle.gs_laws_chunks.proofs.lemmas.accounts.Done.{some_of}
use Rattle.gs_laws_chunks.proofs.lemmas.accounts.Edits.{AreNumbered}
use Rattle.gs_laws_chunks.proofs.lemmas.accounts.Holding.{SinceSeen, since_seen, sees_there}
use Rattle.gs_laws_chunks.proofs.lemmas.accounts.OnePlace.{asked_of}
use Rattle.gs_laws_chunks.proofs.lemmas.accounts.Runs.{keeps_told}
use Rattle.gs_laws_chunks.proofs.lemmas.accounts.Surviving.{prepared_last, stamp_then, still, text_then, was_then}
use Rattle.gs_laws_chunks.proofs.lemmas.accounts.Viewing.{IsToldView, told_view}
use Rattle.gs_laws_chunks.specs.accounts.Accounts.{Account, settled_edits, settled_in, view_at}
use Rattle.gs_laws_chunks.specs.accounts.Ending.{PreparesEndEdits}
use Rattle.gs_laws_chunks.specs.accounts.Joined.{SeenSince}
use Rattle.gs_laws_chunks.specs.accounts.OnePlace.{StandsAt}
use Rattle.gs_laws_chunks.specs.accounts.Running.{Setup}
use Rattle.gs_laws_chunks.specs.accounts.SeenThrough.{SeesBothThrough}

not_both : (how : EpochEnd) → how ≡ Prepare → how ≡ Rollback → ⊥
not_both how one other = absurd (cc)

module _ {D : Type 0} (x : Setup D) (bytes : ReqId → List ℕ) (chunk : ℕ) (prepared : History D) (before : Account) (now : History D) (after : Account) (k : SeenSince x bytes chunk prepared before now after) (listed : is_listed before.durable chunk ≡ true)
    (view : View) (at : view_at before chunk ≡ Some view) (view_now : View) (at_now : view_at after chunk ≡ Some view_now) where
  abbrev p : ChunkWorld
  p = k.first.alive.world

  abbrev v : ChunkWorld
  v = k.last.alive.world

  abbrev e : ℕ
  e = before.durable.epoch

  abbrev t : ℕ
  t = v.entry.view.stamp

  okp : WorldOk p
  okp = reached_world p k.first.alive.reached

  okv : WorldOk v
  okv = reached_world v k.last.alive.reached

  upgrading : IsUpgrading v e
  upgrading = still x bytes chunk prepared before now after k

  is_prepared : IsPrepared v.known e
  is_prepared = preparing.prepared v okv e upgrading (was_then x bytes chunk prepared before now after k listed)

  stamp_is : v.known.prepared e ≡ p.entry.view.stamp
  stamp_is = sym (prepared_last x bytes chunk prepared before now after k listed).stamp ∙ stamp_then x bytes chunk prepared before now after k listed

  told_now : IsToldView after chunk v view_now
  told_now = told_view x bytes chunk now after k.last view_now at_now

  -- the settled view is of no epoch behind that of the upgrade
  low : epoch_of t ≤ e
  low = elim upgrading [
    | inl here ↦
        let is = (okv.entry).stamp in
        let up = (okv.known).viewtop in
        let rises = epoch_of-le t v.known.top (omega arith) in
        let top = (okv.known).topepoch in
        let epoch = (okv.entry).epoch in
        let same = here.0 in
        omega arith
    | inr rolls ↦
        let r = (okv.entry).rolling rolls.1 in
        let next = r.next in
        let below = r.below in
        let same = rolls.0 in
        let epoch = (okv.entry).epoch in
        let is = (okv.entry).stamp in
        let up = (okv.known).viewtop in
        elim (cases_lt e (epoch_of t)) [
          | inl over ↦ absurd (let most = start_of-most (r.e + 1) t (omega arith) in omega arith)
          | inr within ↦ within
        ]
  ]

  -- what was settled at the prepare isn't undone
  not_undone : (place : ℕ) → WasUndone v p.entry.view.stamp place → ⊥
  not_undone place u =
      let accepted = u.accepted in
      let start = epoch_of-start (u.e + 1) in
      let rises = epoch_of-le (start_of (u.e + 1)) t accepted in
      let most = low in
      let rolled : v.known.how (u.e + 1) ≡ Rollback = sym ((okv.entry).how (u.e + 1)) ∙ u.rollback in
      let epoch : epoch_of (v.known.prepared e) ≡ u.e = ap epoch_of stamp_is ∙ u.is in
      elim (cases_lt (u.e + 1) e) [
        | inl less ↦ (okv.known).straight e (u.e + 1) is_prepared (omega arith) less rolled
        | inr least ↦
            let same : u.e + 1 ≡ e = omega arith in
            not_both (v.known.how e) is_prepared.1 (subst (λ n. v.known.how n ≡ Rollback) same rolled)
      ]

  still_settled : (place : ℕ) (edit : Edit) → slice_get (settled_edits before chunk) place ≡ Some edit → slice_get (settled v) place ≡ Some edit
  still_settled place edit stands =
      let then : slice_get (settled p) place ≡ Some edit = subst (λ xs. slice_get xs place ≡ Some edit) (ap (settled_in before chunk) at ∙ (told_view x bytes chunk prepared before k.first view at).settled) stands in
      elim ((settled_stays p okp v k.on.leads place edit (k.first.told.listed listed) then).1 told_now.stood) [
        | inl u ↦ absurd (not_undone place u)
        | inr s ↦ s.counted
      ]

  list_is : prepared_list v ≡ v.known.list (v.known.prepared e)
  list_is = ap v.known.list (prepared_last x bytes chunk prepared before now after k listed).stamp

  -- an edit that was asked for before stands in the prepared list
  module _ (asked : ℕ → Asked) (told : EditsStandFirst x.seen x.config bytes asked v.known chunk) (under : Stamp) (early : under.epoch < e) where
    inside : (place : ℕ) (edit : Edit) → slice_get (v.known.list t) place ≡ Some edit → asked_under asked chunk edit.req ≡ Some under → place < length (prepared_list v)
    inside place edit stands asks =
        let is = (okv.entry).stamp in
        let f : StandsFirst v.known t place under = told.first t place edit under stands asks in
        let within = f.within in
        let epoch_number : under.epoch ≡ epoch_of f.number = ap (λ (s : Stamp). s.epoch) f.is ∙ epoch_is f.number in
        let most = low in
        let first = (okv.known).before e is_prepared in
        let late = told_now.late in
        subst (λ xs. place < length xs) (sym list_is) (elim (cases_lt (v.known.prepared e) t) [
          | inl over ↦
              let epoch : epoch_of t ≡ e = elim (((okv.known).links t late (omega arith) told_now.stood).legit e is_prepared) [ inl never ↦ absurd (omega arith) | inr above ↦ omega arith ] in
              let number : f.number ≤ v.known.prepared e = elim (((okv.known).links f.number f.late (omega arith) f.stood).legit e is_prepared) [ inl never ↦ never | inr above ↦ absurd (omega arith) ] in
              subst (λ n. n ≤ v.known.current → v.known.how n ≡ Prepare → v.known.kept n ≡ true → f.number ≤ v.known.prepared n → v.known.prepared n < t → place < length (v.known.list (v.known.prepared n))) epoch
              (f.prepared (omega arith) told_now.stood) is_prepared.0 is_prepared.1 is_prepared.2 number over
          | inr under_it ↦
              let same : t ≡ v.known.prepared e = omega arith in
              subst (λ n. place < length (v.known.list n)) same (slice_get_within (v.known.list t) place edit stands)
        ])

    stood : (req : ReqId) (place : ℕ) → asked_under asked chunk req ≡ Some under → StandsAt (settled_edits after chunk) req place → StandsAt (settled_edits before chunk) req place
    stood req place asks stands =
        let now_at : slice_get (settled v) place ≡ Some stands.edit = subst (λ xs. slice_get xs place ≡ Some stands.edit) (ap (settled_in after chunk) at_now ∙ told_now.settled) stands.stands in
        let listed_at : slice_get (v.known.list t) place ≡ Some stands.edit = take_from (v.known.list t) (settled_count v) place stands.edit now_at in
        let found = there (prepared_list v) place (inside place stands.edit listed_at (ap (asked_under asked chunk) stands.is ∙ asks)) in
        let was_at : slice_get (settled_edits before chunk) place ≡ Some found.0 = subst (λ xs. slice_get xs place ≡ Some found.0) (sym (text_then x bytes chunk prepared before now after k listed view at)) found.1 in
        let same : found.0 ≡ stands.edit = some_same found.0 stands.edit (sym (still_settled place found.0 was_at) ∙ now_at) in
        record { edit = found.0; stands = was_at; is = ap (λ (z : Edit). z.req) same ∙ stands.is }

module _ (sizes : HaveSizes) (law : AreNumbered) {D : Type 0} (x : Setup D) where
  pub prepares_end_edits : PreparesEndEdits x
  prepares_end_edits prepared now before after chunk req place up listed was early stands = by_view (view_at after chunk) refl
    where
      sees : SeesBothThrough x prepared before now after
      sees = sees_there sizes law x prepared now before after up

      since : SinceSeen sizes law x prepared now before after up sees.asked sees.last chunk
      since = since_seen sizes law x prepared now before after up sees.asked (pushes_right sees.asked now sees.are) (of_one_edit sees.asked now sees.are) sees.first sees.last sees.on chunk listed

      by_view : (o : Option View) → view_at after chunk ≡ o → StandsAt (settled_edits before chunk) req place
      by_view None none = absurd (some_at place stands.edit (settled_edits after chunk) (ap (settled_in after chunk) none) stands.stands)
      by_view (Some view_now) at_now =
          let row = some_of (fin.get before.durable.chunks chunk) ((keeps_told x sees.asked (left_in prepared) before sees.first).settled chunk listed) in
          stood x (bytes_in sees.asked) chunk (left_in prepared) before (left_in now) after since.since listed row.0.view (ap view_in row.1) view_now at_now sees.asked
          (tells_first x.seen x.config (bytes_in sees.asked) sees.asked x.among (left_in now) sees.last.lives sees.last.tells chunk since.since.last.alive since.lives) was.stamp early req place (asked_of sees.asked now.sent chunk req sees.last.tells.one was) stands
