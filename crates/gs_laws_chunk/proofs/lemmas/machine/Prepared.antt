-- The prepared view rests.
use Rattle.std.proofs.Common.{◌≡◌, ◌∙◌, ◌+◌, ℕ, true, inl, inr, ⊎_elim, sym, ap, arith}
use Rattle.gs_base.specs.declared.epoch.EpochEnd.TheVariants.{Prepare}
use Rattle.gs_laws_chunk.specs.machine.Machine.{ChunkWorld}
use Rattle.gs_laws_chunk.specs.machine.Laws.{IsUpgrading}
use Rattle.gs_laws_chunk.specs.machine.Resting.{PreparedRests, PreparedViewsRest}
use Rattle.gs_laws_chunk.proofs.lemmas.machine.Entries.{IsCurrent}
use Rattle.gs_laws_chunk.proofs.lemmas.machine.Known.{IsPrepared}
use Rattle.gs_laws_chunk.proofs.lemmas.machine.Worlds.{WorldOk}

module _ (w : ChunkWorld) (ok : WorldOk w) (e : ℕ) (upgrading : IsUpgrading w e) (known : w.entry.was_known ≡ true) where
  pub current : IsCurrent w.known w.entry.is_rolling e
  current = let m = ok.entry in ⊎_elim (λ x. inl (x.0 ∙ m.epoch, sym (m.how e) ∙ x.1)) (λ x. inr (x.0 ∙ m.epoch, x.1)) upgrading

  pub prepared : IsPrepared w.known e
  prepared = ⊎_elim
      (λ (x : (e ≡ w.known.current) × (w.known.how e ≡ Prepare)). ((let y = x.0 in omega arith), x.1, sym ((ok.entry).was_known e current) ∙ known))
      (λ (x : (e + 1 ≡ w.known.current) × (w.entry.is_rolling ≡ true)).
      let y = (ok.entry).rolling x.1 in
      let next = y.next in
      let at = x.0 in
      let same : e ≡ y.e = omega arith in
      (omega arith, ap w.known.how same ∙ y.was, sym ((ok.entry).was_known e current) ∙ known))
      current

  rests : PreparedRests w
  rests =
      let at : w.entry.prepared.stamp ≡ w.known.prepared e = ((ok.entry).prepared e current prepared).stamp in record {
        within = (let view = (ok.entry).stamp in let before = (ok.known).before e prepared in omega arith);
        stood = ap w.known.stood at ∙ (ok.known).ready e prepared;
        free = ap w.known.holder at ∙ (ok.known).prepared e prepared;
      }

pub prepared_rests : (w : ChunkWorld) → WorldOk w → PreparedViewsRest w
prepared_rests w ok e upgrading known = rests w ok e upgrading known
