use Rattle.std.proofs.Common.{◌≡◌, ◌≢◌, length, sym, ap, subst, ◌∙◌, arith, true}
use Rattle.std.specs.Prelude.{Ok, ◌&&◌}
use Rattle.std.specs.FinMap as fin
use Rattle.gs_replica.specs.First.{done_before, fits}
use Rattle.gs_replica.specs.Inside.{HasSealed}
use Rattle.gs_replica.proofs.Firsts.{undone_over, has_undone}
use Rattle.gs_replica.specs.declared.live.ReplicaInverse.{ReplicaInverse}
use Rattle.gs_block.specs.Stored.{Stored}
use Rattle.gs_block.specs.Images.{Images, AreFirst, undone, touched, covers}
use Rattle.gs_block.specs.Inverses as inverses
use Rattle.gs_replica.specs.declared.seal.Seal.{Seal}
use Rattle.gs_replica.specs.Held.{Held}
use Rattle.gs_replica.specs.Undo as undos
use Rattle.gs_replica.specs.Seals.{Sealed}
use Rattle.gs_replica.specs.View.{seen, Belongs}
use Rattle.gs_replica.proofs.Sealing.{undo_does, undo_refused, undone_chunk, long_undone, does_keep, not_same, can, cannot_uncovered, both, fails_second}
use Rattle.gs_replica.proofs.seal.undo_sealed.Goals as goal

pub returns-then-not-covers-clause-undo : goal.returns-then-not-covers-clause-undo
returns-then-not-covers-clause-undo c =
    let old : Held = c.args.live.now in
    let seal : Seal = c.args.seal.now in
    let t : Sealed = seen old seal in
    let inverse : ReplicaInverse = c.args.inverse.now in
    let i = inverse.blocks in
    let fit : fits (fin.get seal.first inverse.client.0) inverse.before ≡ true = sym c.fits.ensures ∙ c.if-not-fits.false in
    undo_refused (Unit {0}) inverse old t
    (cannot_uncovered old.count seal.count (fits (fin.get seal.first inverse.client.0) inverse.before && covers (length t.undone.bytes) t.touched i old.chunk) (not_same old.count seal.count (sym c.is_at.ensures ∙ c.if-is_at.false))
    (fails_second (fits (fin.get seal.first inverse.client.0) inverse.before) (covers (length t.undone.bytes) t.touched i old.chunk) fit
    (ap (λ n. covers n t.touched i old.chunk) (long_undone seal.images old.chunk) ∙ ap (covers seal.images.long (touched seal.images) i) (sym c.blocks-2.ensures) ∙ sym c.covers.ensures.test ∙ c.if-not-covers.true)))

-- what undoing gives is kept where the edit is taken back
kept : (c : goal.After-undo) → undos.undo c.args.inverse.now c.args.live.now ≡ Ok c.undo.new.self → (undone c.args.seal.now.images c.undo.new.self.chunk ≡ undone c.args.seal.now.images c.args.live.now.chunk) × AreFirst c.args.seal.now.images c.undo.new.self.chunk
kept c gives =
    let images : Images = c.args.seal.now.images in
    let new : Held = c.undo.new.self in
    let i = c.args.inverse.now.blocks in
    subst (λ (s : Stored). inverses.undo i s ≡ Ok new.chunk → AreFirst images s → (undone images new.chunk ≡ undone images s) × AreFirst images new.chunk) c.blocks-2.ensures
    (λ back first. c.covers.ensures.keeps new.chunk c.if-not-covers.false back first)
    (undone_chunk c.args.inverse.now c.args.live.now new gives).0 c.requires.belongs.first

-- so are the requests as sealed
requests : (c : goal.After-undo) → undos.undo c.args.inverse.now c.args.live.now ≡ Ok c.undo.new.self → (done_before c.args.seal.now.first c.undo.new.self.done ≡ done_before c.args.seal.now.first c.args.live.now.done) × HasSealed c.args.seal.now.first c.undo.new.self.done
requests c gives =
    let old : Held = c.args.live.now in
    let first = c.args.seal.now.first in
    let i : ReplicaInverse = c.args.inverse.now in
    let fit : fits (fin.get first i.client.0) i.before ≡ true = sym c.fits.ensures ∙ c.if-not-fits.false in
    let done = (undone_chunk i old c.undo.new.self gives).2 in
    (ap (done_before first) done ∙ undone_over first old.done i.client.0 i.before fit, subst (HasSealed first) (sym done) (has_undone first old.done i.client.0 i.before fit c.requires.belongs.has))

pub returns-clause-undo : goal.returns-clause-undo
returns-clause-undo c =
    let old : Held = c.args.live.now in
    let new : Held = c.undo.new.self in
    let seal : Seal = c.args.seal.now in
    let t : Sealed = seen old seal in
    let inverse : ReplicaInverse = c.args.inverse.now in
    let i = inverse.blocks in
    let fit : fits (fin.get seal.first inverse.client.0) inverse.before ≡ true = sym c.fits.ensures ∙ c.if-not-fits.false in
    let covered : covers seal.images.long (touched seal.images) i old.chunk ≡ true = ap (covers seal.images.long (touched seal.images) i) (sym c.blocks-2.ensures) ∙ sym c.covers.ensures.test ∙ c.if-not-covers.false in
    undo_does (Unit {0}) c.undo.result inverse old new (λ h. seen h seal)
    (can old.count seal.count (fits (fin.get seal.first inverse.client.0) inverse.before && covers (length t.undone.bytes) t.touched i old.chunk) (not_same old.count seal.count (sym c.is_at.ensures ∙ c.if-is_at.false))
    (both (fits (fin.get seal.first inverse.client.0) inverse.before) (covers (length t.undone.bytes) t.touched i old.chunk) fit
    (ap (λ n. covers n t.touched i old.chunk) (long_undone seal.images old.chunk) ∙ covered)))
    c.undo.ensures
    (λ b ok gives k. record {
      undone = (kept c gives).0 k;
      count = seal.count;
      done = (requests c gives).0 k;
      stamp = seal.stamp;
      touched = touched seal.images;
      first = seal.first;
    })

pub returns-clause-belongs : goal.returns-clause-belongs
returns-clause-belongs c =
    let old : Held = c.args.live.now in
    let new : Held = c.undo.new.self in
    let seal : Seal = c.args.seal.now in
    let later = c.requires.belongs.later in
    does_keep (Unit {0}) c.undo.result (undos.undo c.args.inverse.now old) old new (λ h. Belongs h seal) c.undo.ensures c.requires.belongs
    (λ gives.
    let count = (undone_chunk c.args.inverse.now old new gives).1 in
    let other : old.count ≢ seal.count = not_same old.count seal.count (sym c.is_at.ensures ∙ c.if-is_at.false) in
    record { first = (kept c gives).1; later = omega arith; has = (requests c gives).1 })
