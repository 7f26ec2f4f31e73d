-- In a new store no names stand, nothing was called, and no prepare is begun.
use Rattle.std.proofs.Common.{[], inr, refl, subst, sym, ◌≡◌, List, ℕ}
use Rattle.std.proofs.lemmas.Bool.{false≢true}
use Rattle.gs_base.specs.declared.config.Config.{Config}
use Rattle.gs_base.specs.declared.numbers.ClientId.{ClientId}
use Rattle.gs_journal.specs.Records.{fresh, standing}
use Rattle.gs_laws_lift.proofs.lemmas.stores.Beginning.{begins_none, begins_restarted}
use Rattle.gs_master_spec.specs.Durable.{start}
use Rattle.gs_msg.specs.declared.event.DiskId.{DiskId}
use Rattle.gs_msg.specs.declared.message.Message.{Message}
use Rattle.gs_nodes.specs.Nodes.{Nodes}
use Rattle.gs_nodes.specs.declared.place.MasterPlace.{MasterPlace}
use Rattle.gs_world.proofs.Reaching.{HaveSizes}
use Rattle.gs_world.specs.Histories.{Begins, History}
use Rattle.gs_laws_chunks.proofs.lemmas.answers.Asked.{Numbered_all, new_numbered}
use Rattle.gs_laws_chunks.specs.answers.Calm.{IsCalm, IsCalmAt}
use Rattle.gs_laws_chunks.specs.answers.Resting.{IsOldOrLooks, IsStill, StandsStill, StandsStillAt}

module _ {D : Type 0} (seen : D → List ℕ) (failures : D → ℕ) (armed : DiskId → ℕ → MasterPlace D → MasterPlace D) (config : Config) (clients : ℕ) (disks : D × D) (new : History D) (empty : standing (seen disks.0) (seen disks.1) ≡ fresh) (begins : Begins seen failures armed config clients disks new) where
  pub begins_still : HaveSizes → (client : ClientId) → IsStill start client 0 new
  begins_still sizes client = (let found = begins_restarted seen failures armed config clients disks new empty begins in record {
    sent = begins_none seen failures armed sizes config (λ req. []) clients disks new empty begins (λ (m : Message). IsOldOrLooks client 0 m.body);
    master = subst (StandsStillAt start client 0) (sym found.2) (subst (StandsStill start client 0) (sym found.3) (record { names = refl; hidden = refl; phase = refl; epoch = refl; none = λ req there. absurd (false≢true there); had = tt }));
    numbered = subst (λ (n : Nodes D). Numbered_all n.clients) (sym begins.nodes) (new_numbered clients);
  })

  pub begins_calm : IsCalmAt new.nodes.master
  begins_calm = (let found = begins_restarted seen failures armed config clients disks new empty begins in subst IsCalmAt (sym found.2) (subst IsCalm (sym found.3) (inr refl)))
