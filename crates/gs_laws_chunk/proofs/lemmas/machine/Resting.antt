-- What a server may rest on.
use Rattle.std.proofs.Common.{◌≡◌, ℕ, ◌<◌, ◌≤◌, ⊎_elim, Some, true, sym, ap, ◌∙◌, subst, arith}
use Rattle.std.proofs.lemmas.List.{take_all}
use Rattle.gs_base.specs.declared.epoch.EpochEnd.TheVariants.{Rollback}
use Rattle.gs_laws_chunk.specs.machine.Stamps.{epoch_of, start_of}
use Rattle.gs_laws_chunk.specs.machine.Machine.{Create, Advance, CopyOut, CopyIn, Epoch, ChunkWorld}
use Rattle.gs_laws_chunk.specs.machine.Events.{Leads}
use Rattle.gs_laws_chunk.specs.machine.Laws.{Birth, world_of}
use Rattle.gs_laws_chunk.specs.machine.Resting.{LeasesRest, EpochsAreTold, BornFirst, MembersHaveLearned, PeopledStood, PromisesRest, NoneIsAhead}
use Rattle.gs_laws_chunk.proofs.lemmas.machine.Stamps.{epoch_of-le, epoch_of-start}
use Rattle.gs_laws_chunk.proofs.lemmas.machine.Worlds.{WorldOk, said, born_world, leads_world, leads_later}
use Rattle.gs_laws_chunk.proofs.lemmas.machine.Facts.{rising_of}

late_epoch : (epoch born stamp : ℕ) → born ≡ start_of epoch → born < stamp → (epoch ≤ epoch_of stamp) × (0 < stamp)
late_epoch epoch born stamp is late = ((let l = epoch_of-le (start_of epoch) stamp (omega arith) in let e = epoch_of-start epoch in omega arith), omega arith)

module _ (w : ChunkWorld) (ok : WorldOk w) where
  pub leases_rest : LeasesRest w
  leases_rest me l held =
      let v = ok.views me in
      let lease = v.lease l held in
      let same = v.same l held in
      let m = ok.entry in
      let within = lease.within in
      let member : w.known.members l.stamp me ≡ true = (ok.known).held l.stamp me within lease.holder in
      let stamp : l.stamp ≡ (w.members me).promise = same.0 in
      record {
        settled = (let s = m.stamp in omega arith);
        promise = stamp;
        taken = stamp ∙ sym same.1;
        holder = lease.holder;
        member = sym (lease.members me) ∙ member;
        members = lease.members;
        whole = λ edits is.
            let at : (w.members me).promise ≤ w.known.view = omega arith in
            let x = v.member at (subst (λ t. w.known.members t me ≡ true) stamp member) edits is in
            let n = v.whole at (subst (λ t. w.known.holder t ≡ Some me) stamp lease.holder) edits is in
            ap w.known.list stamp ∙ sym (x.1.stands ∙ take_all _ (w.known.list (w.members me).promise) (omega arith));
      }

  pub epochs_told : EpochsAreTold w
  epochs_told server epoch end told = let h = said w ok server (Epoch epoch end) told in ((let l = h.0 in let e = (ok.entry).epoch in omega arith), h.1)

  pub members_learned : MembersHaveLearned w
  members_learned still me epoch member within how =
      let m = ok.entry in
      let done = m.done still epoch (let e = m.epoch in omega arith) how in
      let up = (ok.known).members w.known.view me (omega arith) (m.members me ∙ member) in
      let same = (ok.views me).promise in
      let low = (ok.seals me).low in
      let l = epoch_of-le (start_of epoch) (w.members me).promise (omega arith) in
      let e = epoch_of-start epoch in omega arith

  pub promises_rest : PromisesRest w
  promises_rest =
      let m = ok.entry in
      let known = ok.known in
      record {
        members = λ me member. let up = known.members w.known.view me (omega arith) (m.members me ∙ member) in let same = (ok.views me).promise in let s = m.stamp in omega arith;
        within = λ still me. let t = m.top in ⊎_elim
            (λ (l : (w.members me).promise ≤ w.known.top). omega arith)
            (λ (r : ((w.members me).promise ≡ start_of w.known.current) × (w.known.how w.known.current ≡ Rollback)). let d = m.done still w.known.current (omega arith) r.1 in let v = known.viewtop in let e = r.0 in omega arith)
            ((ok.seals me).below);
      }

  pub peopled_stood : PeopledStood w
  peopled_stood me member = (let m = ok.entry in ap w.known.stood m.stamp ∙ (ok.known).peopled w.known.view me (omega arith) (m.members me ∙ member))

  pub none_ahead : NoneIsAhead w
  none_ahead me = let l = (ok.seals me).learned in let e = (ok.entry).epoch in omega arith

pub born_first : (b : Birth) (w : ChunkWorld) → Leads (world_of b) w → BornFirst b.epoch w
born_first b w leads =
    let first = born_world b.epoch b.how b.origin (rising_of b.origin b.numbered) in
    let ok = leads_world (world_of b) w leads first in
    let later = leads_later (world_of b) w leads first in
    let is : w.known.born ≡ start_of b.epoch = later.born in
    record {
      born = is;
      current = (let c = later.current in let e = (ok.entry).epoch in omega arith);
      created = λ server stamp told. late_epoch b.epoch w.known.born stamp is ((said w ok server (Create stamp) told).0).late;
      advanced = λ server stamp told. late_epoch b.epoch w.known.born stamp is ((said w ok server (Advance stamp) told).0).late;
      copied = λ server stamp target with_image told. late_epoch b.epoch w.known.born stamp is ((said w ok server (CopyOut stamp target with_image) told).0).late;
      brought = λ server stamp edits image told. late_epoch b.epoch w.known.born stamp is ((said w ok server (CopyIn stamp edits image) told).0).late;
      epochs = λ me. let u = later.epoch me in let same = (ok.views me).epoch in omega arith;
    }
