use Rattle.std.proofs.Common.{◌≡◌, ◌<◌, ◌+◌, rules, Err, refl, arith}
use Rattle.gs_client.specs.Edits.{Edits}
use Rattle.gs_client.specs.Writing.{extend_call}
use Rattle.gs_client.proofs.Counts.{as_edits}
use Rattle.gs_client.proofs.Records.{record_refused, record_placed, record_stray, record_full, record_unextended, record_goes}
use Rattle.gs_client.proofs.client.Client.append_from.Goals as goal

pub returns-in_err-offset : goal.returns-in_err-offset
returns-in_err-offset g c =
    let r = c.args.appended.now in
    let e : c.from_residual.result ≡ Err c.in_err-offset.field-0.0 = search rules in
    rw e (record_refused (Edits g.L.Link.Carries) r.size r.path.now r.bytes.now _ _ _ _ c.loop-index.index c.loop-index.invariant.1 _ c.in_err-offset.ensures)

pub returns-in-Appended : goal.returns-in-Appended
returns-in-Appended g c =
    let r = c.args.appended.now in
    record_placed (Edits g.L.Link.Carries) r.size r.path.now r.bytes.now _ _ _ _ c.loop-index.index c.loop-index.invariant.1 c.in-Appended.offset _ (rw c.in-Appended.is at c.in_ok-offset.ensures) c.place.ensures

pub returns-in-Written : goal.returns-in-Written
returns-in-Written g c =
    let r = c.args.appended.now in
    record_stray (Edits g.L.Link.Carries) r.size r.path.now r.bytes.now _ _ _ _ c.loop-index.index c.loop-index.invariant.1 (rw c.in-Written.is at c.in_ok-offset.ensures)

pub returns-then-index-eq-MOST_CHUNKS : goal.returns-then-index-eq-MOST_CHUNKS
returns-then-index-eq-MOST_CHUNKS g c =
    let r = c.args.appended.now in
    record_full (Edits g.L.Link.Carries) r.size r.path.now r.bytes.now _ _ _ _ c.loop-index.index c.loop-index.invariant.1 (rw c.in-Padded.is at c.in_ok-offset.ensures) c.if-index-eq-MOST_CHUNKS.true

pub returns-in_err-extend : goal.returns-in_err-extend
returns-in_err-extend g c =
    let r = c.args.appended.now in
    let e : c.from_residual-in_err-extend.result ≡ Err c.in_err-extend.field-0.0 = search rules in
    let below : c.loop-index.index + 1 < 4096 = omega arith in
    rw e (record_unextended (Edits g.L.Link.Carries) r.size r.path.now r.bytes.now _ _ _ _ c.loop-index.index c.loop-index.invariant.1 _ _ (rw c.in-Padded.is at c.in_ok-offset.ensures) below
    (as_edits g.L.Link.Carries (extend_call r.path.now (c.loop-index.index + 1)) (λ reply n. refl, λ reply. tt) _ _ _ _ _ _ c.in_err-extend.ensures))

pub loop-index-preserved : goal.loop-index-preserved
loop-index-preserved g c =
    let r = c.args.appended.now in
    let below : c.loop-index.index + 1 < 4096 = omega arith in (
      below,
      record_goes (Edits g.L.Link.Carries) r.size r.path.now r.bytes.now _ _ _ _ c.loop-index.index c.loop-index.invariant.1 _ _ (rw c.in-Padded.is at c.in_ok-offset.ensures) below
          (as_edits g.L.Link.Carries (extend_call r.path.now (c.loop-index.index + 1)) (λ reply n. refl, λ reply. tt) _ _ _ _ _ _ c.in_ok-extend.ensures),
    )
