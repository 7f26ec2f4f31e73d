-- An upgrade that stands, or is being rolled back, in a chunk's machine and by the records.
use Rattle.std.proofs.Common.{◌≡◌, ◌∙◌, ◌+◌, ◌-◌, ◌<◌, ◌≤◌, ◌==◌, ◌&&◌, inl, inr, zero, suc, ℕ, Bool, true, false, List, [], ◌∷◌, length, Some, refl, sym, ap, slice_get, arith}
use Rattle.std.proofs.lemmas.Bool.{cases_lt, false≢true}
use Rattle.std.proofs.lemmas.Bool.Decides.{nat_tests}
use Rattle.gs_base.specs.declared.epoch.EpochEnd.TheVariants.{Prepare, Rollback}
use Rattle.gs_laws_chunk.specs.machine.Events.{Leads, Rests}
use Rattle.gs_laws_chunk.specs.machine.Laws.{IsReached, IsUpgrading, world_of}
use Rattle.gs_laws_chunk.specs.machine.Machine.{ChunkWorld}
use Rattle.gs_laws_chunk.specs.machine.Mastering.{NonePrepared}
use Rattle.gs_laws_chunk.specs.machine.Stamps.{start_of}
use Rattle.gs_laws_chunk.proofs.lemmas.machine.Facts.{reached_world}
use Rattle.gs_laws_chunk.proofs.lemmas.machine.Known.{IsPrepared, Later}
use Rattle.gs_laws_chunk.proofs.lemmas.machine.Lasting.{stays_known}
use Rattle.gs_laws_chunk.proofs.lemmas.machine.Prepared.{prepared}
use Rattle.gs_laws_chunk.proofs.lemmas.machine.Worlds.{WorldOk, leads_later, leads_world}
use Rattle.gs_laws_parts.specs.master.Showing.{ShowsDurable}
use Rattle.gs_laws_master.specs.Promises.{IsKept}
use Rattle.gs_master_record.specs.declared.checkpoint.Phase.{Phase}
use Rattle.gs_master_record.specs.declared.checkpoint.Phase.TheVariants.{Ordinary, Rolling, Upgrade}
use Rattle.gs_master_spec.specs.Durable.{Durable, is_rolling, upgrade_epoch}
use Rattle.gs_master_spec.specs.Whole.{alternate, is_phase_behind}
use Rattle.gs_laws_lift.proofs.lemmas.stores.Mastering.{both}

-- ---- before what the master did

module _ (w v : ChunkWorld) (reached : IsReached w) (leads : Leads w v) where
  ok : WorldOk w
  ok = reached_world w reached

  okv : WorldOk v
  okv = leads_world w v leads ok

  later : Later w.known v.known
  later = leads_later w v leads ok

  epochs : (w.entry.epoch ≤ v.entry.epoch) × ((n : ℕ) → n ≤ w.entry.epoch → v.entry.how n ≡ w.entry.how n)
  epochs = (let stays = stays_known w ok v leads in (stays.epoch, stays.how))

  -- Where no epoch has begun by a prepare since, what is an upgrade was one before.
  pub upgraded_before : NonePrepared w v → (x : ℕ) → IsUpgrading v x → IsUpgrading w x
  upgraded_before none x upgrading = elim upgrading [
    | inl (at, is) ↦ elim (cases_lt w.entry.epoch x) [
      | inl above ↦ absurd (none x above (omega arith) is)
      | inr within ↦ inl (let low = epochs.0 in omega arith, sym (epochs.1 x within) ∙ is)
    ]
    | inr (at, rolls) ↦ by_rolling at rolls
  ]
    where
      by_rolling : x + 1 ≡ v.entry.epoch → v.entry.is_rolling ≡ true → IsUpgrading w x
      by_rolling at rolls =
          let roll = (okv.entry).rolling rolls in
          let next = roll.next in
          let now = (okv.entry).epoch in
          let same : roll.e ≡ x = omega arith in
          let was_so : v.entry.how x ≡ Prepare = (okv.entry).how x ∙ ap v.known.how (sym same) ∙ roll.was in
          elim (cases_lt w.entry.epoch x) [
            | inl above ↦ absurd (none x above (omega arith) was_so)
            | inr within ↦ elim (cases_lt x w.entry.epoch) [
              | inl over ↦ inr (let low = epochs.0 in omega arith, by_calm w.entry.is_rolling refl (let low = epochs.0 in omega arith) roll.e same roll.how roll.below next)
              | inr still ↦ inl (omega arith, sym (epochs.1 x within) ∙ was_so)
            ]
          ]
        where
          by_calm : (b : Bool) → w.entry.is_rolling ≡ b → w.entry.epoch ≡ x + 1 → (n : ℕ) → n ≡ x → v.known.how (n + 1) ≡ Rollback → v.known.top < start_of (n + 1) → v.known.current ≡ n + 1 → b ≡ true
          by_calm true is epoch n same how below next = refl
          by_calm false calm epoch n same how below next =
              let current : n + 1 ≡ w.known.current = (let m = (ok.entry).epoch in omega arith) in
              let done = (ok.entry).done calm (n + 1) (omega arith) (sym (later.how (n + 1) (omega arith)) ∙ how) in
              absurd (let top = later.top in let low = (ok.known).viewtop in omega arith)

-- ---- by the records

entry_there : {X : Type 0} (xs : List X) (n : ℕ) → n < length xs → (x : X) × (slice_get xs n ≡ Some x)
entry_there [] n less = absurd (omega arith)
entry_there (x ∷ xs) zero less = (x, refl)
entry_there (x ∷ xs) (suc n) less = entry_there xs n (omega arith)

same_number : (a b : ℕ) → (a == b) ≡ true → a ≡ b
same_number a b is = grind (arith, nat_tests)

one_before : (a b : ℕ) → a + 1 ≡ b → b - 1 ≡ a
one_before a b is = omega arith

upgrade_there : (phase : Phase) (epoch : ℕ) → is_phase_behind (Some Prepare) phase ≡ true → upgrade_epoch phase epoch ≡ Some epoch
upgrade_there Ordinary epoch is = absurd (false≢true is)
upgrade_there Upgrade epoch is = refl
upgrade_there Rolling epoch is = absurd (false≢true is)

rolling_there : (phase : Phase) (epoch e : ℕ) → is_rolling phase ≡ true → e + 1 ≡ epoch → upgrade_epoch phase epoch ≡ Some e
rolling_there Ordinary epoch e is next = absurd (false≢true is)
rolling_there Upgrade epoch e is next = absurd (false≢true is)
rolling_there Rolling epoch e is next = ap Some (one_before e epoch next)

-- The records tell of the upgrade, where the chunk was known at its prepare.
module _ (chunk : ℕ) (d : Durable) (w : ChunkWorld) (reached : IsReached w) (shows : ShowsDurable chunk d w.entry) (kept : IsKept d) (e : ℕ) (upgrading : IsUpgrading w e) (known : w.entry.was_known ≡ true) where
  -- its epoch is behind that of the birth
  behind_birth : 0 < e
  behind_birth = elim (cases_lt 0 e) [
    | inl above ↦ above
    | inr within ↦
        let is : IsPrepared w.known e = prepared w (reached_world w reached) e upgrading known in
        let stays = stays_known (world_of reached.0) (reached_world (world_of reached.0) (reached.0, Rests)) w reached.1 in
        absurd (false≢true (sym (stays.prepared e (omega arith)).1 ∙ is.2))
  ]

  ended : (length d.ends ≡ d.epoch) × (is_phase_behind (slice_get d.ends (length d.ends - 1)) d.phase ≡ true)
  ended =
      let first = both (length d.ends == d.epoch) (alternate true d.ends && is_phase_behind (slice_get d.ends (length d.ends - 1)) d.phase) kept.ends in
      (same_number (length d.ends) d.epoch first.0, (both (alternate true d.ends) (is_phase_behind (slice_get d.ends (length d.ends - 1)) d.phase) first.1).1)

  stands_told : e ≡ w.entry.epoch → w.entry.how e ≡ Prepare → upgrade_epoch d.phase d.epoch ≡ Some e
  stands_told at how =
      let epoch = shows.epoch in
      let many = ended.0 in
      let low = behind_birth in
      let end = entry_there d.ends (length d.ends - 1) (omega arith) in
      let next : length d.ends - 1 + 1 ≡ e = omega arith in
      let is : end.0 ≡ Prepare = sym (shows.how (length d.ends - 1) end.0 end.1).1 ∙ ap w.entry.how next ∙ how in
      upgrade_there d.phase d.epoch (ap (λ o. is_phase_behind o d.phase) (sym (ap Some is) ∙ sym end.1) ∙ ended.1) ∙ ap Some (sym epoch ∙ sym at)

  pub upgrade_told : upgrade_epoch d.phase d.epoch ≡ Some e
  upgrade_told = elim upgrading [
    | inl (at, how) ↦ stands_told at how
    | inr (next, rolls) ↦ rolling_there d.phase d.epoch e (sym shows.rolling ∙ rolls) (next ∙ shows.epoch)
  ]
