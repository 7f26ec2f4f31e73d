use Rattle.std.proofs.Common.{ap, ◌∙◌, cond, None, Option}
use Rattle.std.specs.Prelude.{Ok}
use Rattle.gs_replica.specs.Seals.{State}
use Rattle.gs_replica.specs.Copies.{Image, SealedImage, image, and_then}
use Rattle.gs_store.specs.Slots.{sealed_of}
use Rattle.gs_store.specs.Moves.{source, live_in, sound_image}
use Rattle.gs_store.proofs.Standing.{unless_ok, same_ok}
use Rattle.gs_store.proofs.Copying.{then_ok, live_stands, live_told, image_stands, sound_stands}
use Rattle.gs_store.proofs.copy_promises.copies_carry_what_their_source_stands_for.Goals as goal

pub returns-clause-image : goal.returns-clause-image
returns-clause-image c block chunk stamp flag i o s edits stands told is =
    let sealed : Option SealedImage = cond flag (sound_image (sealed_of s)) None in
    let a = then_ok (source stamp s) (λ (r : State). and_then {B = Image × Option SealedImage} (image r) (λ i. Ok (i, sealed))) (i, o) is in
    let b = then_ok {B = Image × Option SealedImage} (image a.first) (λ i. Ok (i, sealed)) (i, o) a.then in
    let live = unless_ok _ (live_in s.live) a.first a.made in
    ap (λ (p : Image × Option SealedImage). p.0) (same_ok (b.first, sealed) (i, o) b.then)
    ∙ image_stands block chunk a.first b.first edits (live_stands block chunk s.live a.first edits stands live) (live_told block chunk s.live a.first edits told live) b.made

pub returns-clause-sealed : goal.returns-clause-sealed
returns-clause-sealed c block chunk t s edits stood told is =
    let k = sound_stands block chunk (sealed_of s) t edits stood told is in
    (k.image, k.digests, k.stamp)
