use Rattle.std.proofs.Common.{◌∙◌, ◌∷◌, [], ap, take}
use Rattle.std.proofs.lemmas.List.{map-append}
use Rattle.gs_master_state.specs.inner.Recorded.{chunks_of, durable_of}
use Rattle.gs_master_state.specs.inner.Released.{chunks_in}
use Rattle.gs_master_state.specs.declared.undo.ChunkBefore.{ChunkBefore}
use Rattle.gs_master_state.proofs.Releasing.{releases_more}
use Rattle.gs_master_state.proofs.Rooms.{take_next}
use Rattle.gs_master_state.proofs.recorded.Recorded.release_each.Goals as goal

pub loop-stood-preserved : goal.loop-stood-preserved
loop-stood-preserved c =
    let xs = c.args.forgotten.now in
    let i = c.loop-stood.stood-index in
    let stood = c.stood-item.result in
    record {
      value = ap (λ m. record (durable_of c.loop-stood.self) { chunks = chunks_of m }) c.release.ensures.same ∙ c.loop-stood.invariant.value;
      leases = c.release.ensures.same ∙ c.loop-stood.invariant.leases;
      names = c.loop-stood.invariant.names;
      room = releases_more _ _ _ _ _ _ (ap chunks_in (take_next xs i stood c.loop-stood-test.true c.stood-item.is) ∙ map-append (λ (b : ChunkBefore). b.chunk) (take i xs) (stood ∷ [])) c.release.ensures.same c.loop-stood.invariant.room c.release.ensures.empty
          c.release.ensures.kept;
    }
