use Rattle.std.proofs.Common.{◌≡◌, ◌∙◌, ◌+◌, ◌-◌, ◌/◌, ◌%◌, ◌<◌, ℕ, [], rules, Err, ap, arith}
use Rattle.gs_base.specs.declared.refusal.Refusal.TheVariants.{Memory}
use Rattle.gs_client.specs.Sends.{Sends}
use Rattle.gs_client_part.specs.Reading.{span, piece_end}
use Rattle.gs_client.proofs.Pieces.{in_bounds, pieces_begin, piece_refused, piece_unheld, piece_added, stored_named}
use Rattle.gs_client.proofs.client.Client.pieces.Goals as goal

pub piece_end-requires-clause-few : goal.piece_end-requires-clause-few
piece_end-requires-clause-few g c =
    let more : c.loop-i.i < span c.args.file.now.size c.args.offset c.args.end = rw c.span-count.ensures at c.loop-i-test.true in
    let h = in_bounds c.args.file.now.size c.args.offset c.args.end c.loop-i.i c.args.file.now.some c.requires more in
    omega arith

pub loop-i-init : goal.loop-i-init
loop-i-init g c =
    pieces_begin (Sends g.L.Link.Carries) c.args.file.now.size c.args.file.now.path.now c.args.file.now.chunks c.args.end c.args.file.now.known (c.args.offset / c.args.file.now.size)
    (c.args.offset % c.args.file.now.size) (span c.args.file.now.size c.args.offset c.args.end) [] c.new-read.result.items (c.args.self.now, c.args.link.now) c.new-read.ensures.items

pub returns-in_err-bytes : goal.returns-in_err-bytes
returns-in_err-bytes g c =
    let e : c.from_residual.result ≡ Err c.in_err-bytes.field-0.0 = search rules in
    let more : c.loop-i.i < span c.args.file.now.size c.args.offset c.args.end = rw c.span-count.ensures at c.loop-i-test.true in
    rw e (piece_refused (Sends g.L.Link.Carries) c.args.file.now.size c.args.file.now.path.now c.args.file.now.chunks c.args.end _ _ _ _
    c.loop-i.known (c.args.offset / c.args.file.now.size) c.loop-i.start c.loop-i.i (span c.args.file.now.size c.args.offset c.args.end) c.loop-i.read.items more c.loop-i.invariant _
    (stored_named (Sends g.L.Link.Carries) c.args.file.now.path.now c.loop-i.known (c.args.offset / c.args.file.now.size + c.loop-i.i) c.loop-i.start c.saturating_sub-many.result
    (piece_end c.args.file.now.size c.args.end (c.args.offset / c.args.file.now.size + c.loop-i.i) - c.loop-i.start) _ _ _
    (c.saturating_sub-many.ensures ∙ ap (λ (n : ℕ). n - c.loop-i.start) c.piece_end.ensures.is) c.in_err-bytes.ensures))

pub returns-in_err-add_piece : goal.returns-in_err-add_piece
returns-in_err-add_piece g c =
    let e : c.from_residual-in_err-add_piece.result ≡ Err Memory = search rules in
    let more : c.loop-i.i < span c.args.file.now.size c.args.offset c.args.end = rw c.span-count.ensures at c.loop-i-test.true in
    rw e (piece_unheld (Sends g.L.Link.Carries) c.args.file.now.size c.args.file.now.path.now c.args.file.now.chunks c.args.end _ _ _ _
    c.loop-i.known (c.args.offset / c.args.file.now.size) c.loop-i.start c.loop-i.i (span c.args.file.now.size c.args.offset c.args.end) c.loop-i.read.items more c.loop-i.invariant _ _
    (stored_named (Sends g.L.Link.Carries) c.args.file.now.path.now c.loop-i.known (c.args.offset / c.args.file.now.size + c.loop-i.i) c.loop-i.start c.saturating_sub-many.result
    (piece_end c.args.file.now.size c.args.end (c.args.offset / c.args.file.now.size + c.loop-i.i) - c.loop-i.start) _ _ _
    (c.saturating_sub-many.ensures ∙ ap (λ (n : ℕ). n - c.loop-i.start) c.piece_end.ensures.is) c.in_ok-bytes.ensures))

pub loop-i-preserved : goal.loop-i-preserved
loop-i-preserved g c =
    let more : c.loop-i.i < span c.args.file.now.size c.args.offset c.args.end = rw c.span-count.ensures at c.loop-i-test.true in
    piece_added (Sends g.L.Link.Carries) c.args.file.now.size c.args.file.now.path.now c.args.file.now.chunks c.args.end _ _ _ _
    c.loop-i.known (c.args.offset / c.args.file.now.size) c.loop-i.start c.loop-i.i (span c.args.file.now.size c.args.offset c.args.end) c.loop-i.read.items more c.loop-i.invariant _ _ _
    (stored_named (Sends g.L.Link.Carries) c.args.file.now.path.now c.loop-i.known (c.args.offset / c.args.file.now.size + c.loop-i.i) c.loop-i.start c.saturating_sub-many.result
    (piece_end c.args.file.now.size c.args.end (c.args.offset / c.args.file.now.size + c.loop-i.i) - c.loop-i.start) _ _ _
    (c.saturating_sub-many.ensures ∙ ap (λ (n : ℕ). n - c.loop-i.start) c.piece_end.ensures.is) c.in_ok-bytes.ensures)
    (rw (c.saturating_sub-many.ensures, c.piece_end.ensures.is) at c.in_ok-add_piece.ensures)
