-- What was settled at a prepare is no longer than what is settled of a chunk that a file has still.
use Rattle.std.proofs.Common.{◌≡◌, ◌∙◌, ◌+◌, ◌<◌, ◌≤◌, inl, inr, ℕ, zero, suc, true, false, List, length, refl, sym, ap, subst, arith}
use Rattle.std.specs.Prelude.{Some, slice_get}
use Rattle.std.proofs.lemmas.Bool.{cases_eq, cases_lt, false≢true}
use Rattle.std.proofs.lemmas.Option.{slice_get_within}
use Rattle.gs_base.specs.declared.epoch.EpochEnd.TheVariants.{Rollback}
use Rattle.gs_base.specs.declared.numbers.ReqId.{ReqId}
use Rattle.gs_laws_chunk.proofs.lemmas.machine.Facts.{reached_world}
use Rattle.gs_laws_chunk.proofs.lemmas.machine.Lasting.{agrees, stays_known}
use Rattle.gs_laws_chunk.proofs.lemmas.machine.Lists.{there}
use Rattle.gs_laws_chunk.proofs.lemmas.machine.Stamps.{epoch_of-le}
use Rattle.gs_laws_chunk.proofs.lemmas.machine.Stays.{settled_stays}
use Rattle.gs_laws_chunk.proofs.lemmas.machine.Worlds.{WorldOk}
use Rattle.gs_laws_chunk.specs.machine.Laws.{StaysKnown, WasUndone, settled}
use Rattle.gs_laws_chunk.specs.machine.Machine.{ChunkWorld}
use Rattle.gs_lease.specs.declared.view.View.{View}
use Rattle.gs_master_record.specs.declared.checkpoint.Phase.{Phase}
use Rattle.gs_master_record.specs.declared.checkpoint.Phase.TheVariants.{Ordinary, Rolling, Upgrade}
use Rattle.gs_master_spec.specs.Durable.{is_listed, is_rolling, is_upgrade}
use Rattle.gs_replica.specs.Stands.{Edit}
use Rattle.gs_world.specs.Histories.{History}
use Rattle.gs_laws_chunks.proofs.lemmas.accounts.Surviving.{prepared_last, stamp_then}
use Rattle.gs_laws_chunks.proofs.lemmas.accounts.Viewing.{told_view}
use Rattle.gs_laws_chunks.specs.accounts.Accounts.{Account, settled_edits, settled_in, view_at}
use Rattle.gs_laws_chunks.specs.accounts.Joined.{SeenSince}
use Rattle.gs_laws_chunks.specs.accounts.Running.{Setup}

calm_phase : (phase : Phase) → is_upgrade phase ≡ true → is_rolling phase ≡ false
calm_phase Ordinary is = refl
calm_phase Upgrade is = refl
calm_phase Rolling is = absurd (false≢true is)

module _ {D : Type 0} (x : Setup D) (bytes : ReqId → List ℕ) (chunk : ℕ) (prepared now : History D) (before after : Account) (k : SeenSince x bytes chunk prepared before now after) (listed : is_listed before.durable chunk ≡ true) (still : is_listed after.durable chunk ≡ true) where
  abbrev p : ChunkWorld
  p = k.first.alive.world

  abbrev w : ChunkWorld
  w = k.last.alive.world

  pok : WorldOk p
  pok = reached_world p k.first.alive.reached

  ok : WorldOk w
  ok = reached_world w k.last.alive.reached

  abbrev e : ℕ
  e = before.durable.epoch

  stays : StaysKnown p w
  stays = stays_known p pok w k.on.leads

  -- no rollback has undone the view of the prepare
  same_stamp : w.known.prepared e ≡ p.entry.view.stamp
  same_stamp = sym (prepared_last x bytes chunk prepared before now after k listed).stamp ∙ stamp_then x bytes chunk prepared before now after k listed

  calm : p.entry.is_rolling ≡ false
  calm = k.first.told.rolling ∙ calm_phase before.durable.phase k.begun

  earlier : (place : ℕ) (u : WasUndone w p.entry.view.stamp place) → u.e < e → ⊥
  earlier place u less =
      let epoch = k.first.told.epoch in
      let current = (pok.entry).epoch in
      let how : p.known.how (u.e + 1) ≡ Rollback = sym ((pok.entry).how (u.e + 1)) ∙ sym (stays.how (u.e + 1) (omega arith)) ∙ u.rollback in
      let done = (pok.entry).done calm (u.e + 1) (omega arith) how in
      let view = (agrees p pok).view in
      let before = u.before in
      omega arith

  not_undone : (place : ℕ) → WasUndone w p.entry.view.stamp place → ⊥
  not_undone place u = elim (cases_lt u.e e) [
    | inl less ↦ earlier place u less
    | inr more ↦ elim (cases_eq u.e e) [
      | inl same ↦ (let after = subst (λ n. w.known.prepared n < p.entry.view.stamp) same u.after in let is = same_stamp in omega arith)
      | inr other ↦
          let rises = epoch_of-le p.entry.view.stamp p.known.top (let view = (agrees p pok).view in let most = (pok.known).viewtop in omega arith) in
          let top = (pok.known).topepoch in
          let current = (pok.entry).epoch in
          let epoch = k.first.told.epoch in
          let at = u.is in
          omega arith
    ]
  ]

  stood : w.known.stood w.entry.view.stamp ≡ true
  stood = (agrees w ok).stood (k.last.told.listed still)

  kept_edit : (place : ℕ) (edit : Edit) → slice_get (settled p) place ≡ Some edit → place < length (settled w)
  kept_edit place edit at = elim ((settled_stays p pok w k.on.leads place edit (k.first.told.listed listed) at).1 stood) [
    | inl undone ↦ absurd (not_undone place undone)
    | inr stands ↦ slice_get_within (settled w) place edit stands.counted
  ]

  no_shorter : (n : ℕ) → length (settled p) ≡ n → length (settled p) ≤ length (settled w)
  no_shorter zero none = omega arith
  no_shorter (suc n) more = let last = there (settled p) n (omega arith) in let within = kept_edit n last.0 last.1 in omega arith

  pub no_less_settled : (view later : View) → view_at before chunk ≡ Some view → view_at after chunk ≡ Some later → length (settled_edits before chunk) ≤ length (settled_edits after chunk)
  no_less_settled view later was is =
      let first = ap (λ (es : List Edit). length es) (ap (settled_in before chunk) was ∙ (told_view x bytes chunk prepared before k.first view was).settled) in
      let last = ap (λ (es : List Edit). length es) (ap (settled_in after chunk) is ∙ (told_view x bytes chunk now after k.last later is).settled) in
      let less = no_shorter (length (settled p)) refl in
      omega arith
