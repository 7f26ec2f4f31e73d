-- A survivor of an upgrade keeps the prepared list at its server.
use Rattle.std.proofs.Common.{◌≡◌, ℕ, ◌+◌, ◌<◌, ◌≤◌, inl, inr, ⊎_elim, true, List, Option, Some, None, ap, subst, ◌∙◌, arith}
use Rattle.std.specs.Prelude.{is_some, Contains}
use Rattle.std.proofs.lemmas.Bool.{cases_lt}
use Rattle.gs_base.specs.declared.epoch.EpochEnd.TheVariants.{Rollback}
use Rattle.gs_replica.specs.Seals.{Sealed}
use Rattle.gs_replica.specs.Copies.{as_sealed}
use Rattle.gs_replica.specs.Stands.{Edit, StoodFor}
use Rattle.gs_store.specs.Slots.{Slot, nothing, sealed_of}
use Rattle.gs_store.specs.Moves.{sound_image, unless_lost}
use Rattle.gs_store.specs.Standing.{StandsIn, StoodIn}
use Rattle.gs_store.specs.Stores.{named}
use Rattle.gs_server.specs.Servers.{Server, store_of}
use Rattle.gs_server.specs.Runs.{slot_in}
use Rattle.gs_laws_chunk.specs.machine.Machine.{Member, ChunkWorld}
use Rattle.gs_laws_chunk.specs.machine.Events.{Leads}
use Rattle.gs_laws_chunk.specs.machine.Laws.{Birth, world_of, prepared_list, IsUpgrading, IsSurvivor, KeepsSealed}
use Rattle.gs_laws_chunk.specs.machine.Stamps.{stamp_at}
use Rattle.gs_laws_chunk.proofs.lemmas.machine.Facts.{reached_world, survivors_keep, survivors_name}
use Rattle.gs_laws_chunk.proofs.lemmas.machine.Lasting.{agrees}
use Rattle.gs_laws_chunk.proofs.lemmas.machine.Resting.{born_first, none_ahead}
use Rattle.gs_laws_chunk.proofs.lemmas.machine.Worlds.{WorldOk}
use Rattle.gs_laws_parts.specs.server.Showing.{Setting, ShowsLive, ShowsImage, SealUndamaged, SealCounts, ShowsMember, LiveCounts}
use Rattle.gs_laws_parts.specs.server.Sealing.{KeepsPrepared}
use Rattle.gs_laws_parts.proofs.lemmas.server.Naming.{names_chunk}

sound_seal : (sealed : Option Sealed) (block size : ℕ) (edits : List Edit) → StoodFor block size sealed edits → SealUndamaged sealed → is_some (sound_image sealed) ≡ true
sound_seal None block size edits stood undamaged = elim stood [ ]
sound_seal (Some t) block size edits stood undamaged = ap (λ d. is_some (unless_lost d (as_sealed t))) undamaged

no_live : (c : Setting) (slot : Slot) (o : Option (List Edit)) (edits : List Edit) → slot ≡ nothing → ShowsLive c slot o → o ≡ Some edits → ⊥
no_live c slot o edits none shows is = elim (subst (λ x. StandsIn c.block c.size x edits) none (subst (ShowsLive c slot) is shows)) [ ]

no_image : (c : Setting) (slot : Slot) (o : Option (List Edit)) (edits : List Edit) → slot ≡ nothing → ShowsImage c slot o → o ≡ Some edits → ⊥
no_image c slot o edits none shows is = elim (subst (λ x. StoodIn c.block c.size x edits) none (subst (ShowsImage c slot) is shows)) [ ]

module _ (b : Birth) (w : ChunkWorld) (leads : Leads (world_of b) w) (c : Setting) (chunk : ℕ) (s : Server) (born : c.born ≡ b.epoch) (shows : ShowsMember c chunk w s) where
  ok : WorldOk w
  ok = reached_world w (b, leads)

  abbrev m : Member
  m = w.members s.me

  -- such a server knows the epoch of the birth
  pub knows_birth : (upgrade : ℕ) → IsUpgrading w upgrade → KeepsSealed w upgrade s.me → c.born ≤ s.kept.epoch
  knows_birth upgrade up keeps = ⊎_elim
      (λ (early : s.kept.epoch < c.born). absurd (let none = shows.early early in
      let at : m.epoch ≡ c.born = none.0 in
      let first = (born_first b w leads).current in
      let within : upgrade ≤ w.entry.epoch × (w.entry.epoch ≤ upgrade + 1) = within_of up in
      let low = within.0 in let high = within.1 in
      elim (cases_lt m.epoch upgrade) [
        | inl before ↦ no_live c (slot_in chunk s) m.live (prepared_list w) none.1 shows.live (keeps.unlearned before).1
        | inr above ↦ elim (cases_lt upgrade m.epoch) [
          | inl behind ↦ no_live c (slot_in chunk s) m.live (prepared_list w) none.1 shows.live (keeps.rolled (omega arith)).1
          | inr same ↦ no_image c (slot_in chunk s) m.image (prepared_list w) none.1 shows.image (keeps.learned (omega arith))
        ]
      ]))
      (λ (late : c.born ≤ s.kept.epoch). late)
      (cases_lt s.kept.epoch c.born)
    where
      within_of : IsUpgrading w upgrade → (upgrade ≤ w.entry.epoch) × (w.entry.epoch ≤ upgrade + 1)
      within_of up = elim up [
        | inl x ↦ (let y = x.0 in (omega arith, omega arith))
        | inr x ↦ (let y = x.0 in (omega arith, omega arith))
      ]

  -- what it has sealed may yet be rolled back to
  pub counts : (upgrade : ℕ) → IsUpgrading w upgrade → m.epoch ≡ upgrade → SealCounts w.known m.epoch
  counts upgrade up at known = elim up [
    | inl x ↦ absurd (let y = x.0 in let e = (agrees w ok).epoch in omega arith)
    | inr x ↦
        let r = (ok.entry).rolling x.1 in
        let y = x.0 in let e = (agrees w ok).epoch in let n = r.next in
        let same : m.epoch + 1 ≡ r.e + 1 = omega arith in
        ap w.known.how same ∙ r.how
  ]

  -- what is live of one that hasn't learned of the prepare counts
  pub before_prepare : (upgrade : ℕ) → IsUpgrading w upgrade → m.epoch < upgrade → LiveCounts w.known m.epoch
  before_prepare upgrade up before = elim up [
    | inl x ↦ (let y = x.0 in let a = (agrees w ok).epoch in inl (upgrade, before, omega arith, (agrees w ok).how upgrade ∙ x.1))
    | inr x ↦
        let r = (ok.entry).rolling x.1 in
        let y = x.0 in let e = (agrees w ok).epoch in let n = r.next in
        let same : upgrade ≡ r.e = omega arith in
        inl (upgrade, before, omega arith, ap w.known.how same ∙ r.was)
  ]

  -- and of one that has learned of the rollback
  pub behind_rollback : (upgrade : ℕ) → IsUpgrading w upgrade → m.epoch ≡ upgrade + 1 → w.known.how m.epoch ≡ Rollback
  behind_rollback upgrade up at = elim up [
    | inl x ↦ absurd (let y = x.0 in let l = none_ahead w ok s.me in omega arith)
    | inr x ↦
        let r = (ok.entry).rolling x.1 in
        let y = x.0 in let e = (agrees w ok).epoch in let n = r.next in
        let same : m.epoch ≡ r.e + 1 = omega arith in
        ap w.known.how same ∙ r.how
  ]

  pub keeps_prepared : (upgrade : ℕ) → IsUpgrading w upgrade → IsSurvivor w s.me → KeepsPrepared c chunk s upgrade w.entry.prepared.stamp (prepared_list w)
  keeps_prepared upgrade up survives =
      let keeps = survivors_keep w ok upgrade s.me up survives in
      let late = knows_birth upgrade up keeps in
      let epoch : m.epoch ≡ s.kept.epoch = shows.epoch_is late in
      let whole = shows.intact survives.intact in record {
        unlearned = λ before. let k = keeps.unlearned (omega arith) in (shows.promise ∙ ap stamp_at k.0, subst (ShowsLive c (slot_in chunk s)) k.1 shows.live, whole.0 (before_prepare upgrade up (omega arith)));
        learned = λ same.
            let at : m.epoch ≡ upgrade = epoch ∙ same in
            let stood = subst (ShowsImage c (slot_in chunk s)) (keeps.learned at) shows.image in
            (stood, sound_seal (sealed_of (slot_in chunk s)) c.block c.size (prepared_list w) stood (whole.1 (counts upgrade up at)));
        rolled = λ same. let k = keeps.rolled (epoch ∙ same) in (shows.promise ∙ ap stamp_at k.0, subst (ShowsLive c (slot_in chunk s)) k.1 shows.live, whole.0 (inr (behind_rollback upgrade up (epoch ∙ same))));
      }

  rolled_here : (upgrade : ℕ) → IsUpgrading w upgrade → w.entry.is_rolling ≡ true → m.epoch ≡ w.entry.epoch → w.known.how m.epoch ≡ Rollback
  rolled_here upgrade up rolling here =
      let r = (ok.entry).rolling rolling in
      let e = (agrees w ok).epoch in let n = r.next in
      let same : m.epoch ≡ r.e + 1 = omega arith in
      ap w.known.how same ∙ r.how

  pub survivor_named : (upgrade : ℕ) → IsUpgrading w upgrade → w.entry.is_rolling ≡ true → IsSurvivor w s.me → s.kept.epoch ≡ w.entry.epoch → Contains (named s.kept.epoch (store_of s)) chunk
  survivor_named upgrade up rolling survives here =
      let keeps = survivors_keep w ok upgrade s.me up survives in
      let epoch : m.epoch ≡ s.kept.epoch = shows.epoch_is (knows_birth upgrade up keeps) in
      let n = survivors_name w ok s.me rolling survives in
      names_chunk c chunk w s (prepared_list w) shows survives.intact (rolled_here upgrade up rolling (epoch ∙ here)) (n.again (epoch ∙ here))
