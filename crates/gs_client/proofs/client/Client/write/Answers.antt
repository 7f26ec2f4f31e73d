use Rattle.std.proofs.Common.{◌≡◌, ◌-◌, rules, Err, sym}
use Rattle.gs_client_dialogue.proofs.Talks.{follows_both, follows_none, follows_then, follows_else, follows_said}
use Rattle.gs_base.specs.declared.refusal.Refusal.TheVariants.{Range}
use Rattle.gs_client.specs.Edits.{Edits}
use Rattle.gs_client.specs.Looking.{known_call}
use Rattle.gs_client_part.specs.Writing.{chunks_to, is_out}
use Rattle.gs_client.specs.Writing.{extends_call}
use Rattle.gs_client.proofs.Counts.{as_edits, quiet_known, quiet_extends}
use Rattle.gs_client.proofs.client.Client.write.Goals as goal

pub returns-in_err-chunks : goal.returns-in_err-chunks
returns-in_err-chunks g c =
    let w = c.args.write.now in
    let e : c.from_residual.result ≡ Err c.in_err-chunks.field-0.0 = search rules in
    rw e (follows_none (Edits g.L.Link.Carries) (known_call w.path.now c.args.opened) _ _ _ _
    (as_edits g.L.Link.Carries (known_call w.path.now c.args.opened) (quiet_known w.path.now c.args.opened) _ _ _ _ _ _ c.in_err-chunks.ensures.is))

pub returns-then-is_out : goal.returns-then-is_out
returns-then-is_out g c =
    let w = c.args.write.now in
    follows_both (Edits g.L.Link.Carries) (known_call w.path.now c.args.opened) _ _ _ _ _ _
    (as_edits g.L.Link.Carries (known_call w.path.now c.args.opened) (quiet_known w.path.now c.args.opened) _ _ c.args.edits.now _ _ _ c.in_ok-chunks.ensures.is)
    (follows_then (Edits g.L.Link.Carries) (is_out w.size w.offset w.bytes.now) _ _ _ _ _ (sym c.if-is_out.ensures) (follows_said (Edits g.L.Link.Carries) (Err Range) _))

pub returns-in_err-extends : goal.returns-in_err-extends
returns-in_err-extends g c =
    let w = c.args.write.now in
    let e : c.from_residual-in_err-extends.result ≡ Err c.in_err-extends.field-0.0 = search rules in
    let extended = rw (c.saturating_sub.ensures, c.chunks_to-to.ensures.is) at c.in_err-extends.ensures in
    rw e (follows_both (Edits g.L.Link.Carries) (known_call w.path.now c.args.opened) _ _ _ _ _ _
    (as_edits g.L.Link.Carries (known_call w.path.now c.args.opened) (quiet_known w.path.now c.args.opened) _ _ c.args.edits.now _ _ _ c.in_ok-chunks.ensures.is)
    (follows_else (Edits g.L.Link.Carries) (is_out w.size w.offset w.bytes.now) _ _ _ _ _ (sym c.if-is_out.ensures)
    (follows_none (Edits g.L.Link.Carries) (extends_call w.path.now c.in_ok-chunks.chunks (chunks_to w.size w.offset w.bytes.now - c.in_ok-chunks.chunks)) _ _ _ _
    (as_edits g.L.Link.Carries (extends_call w.path.now c.in_ok-chunks.chunks (chunks_to w.size w.offset w.bytes.now - c.in_ok-chunks.chunks)) (quiet_extends _ _ _) _ _ _ _ _ _ extended))))

pub returns : goal.returns
returns g c =
    let w = c.args.write.now in
    let extended = rw (c.saturating_sub.ensures, c.chunks_to-to.ensures.is) at c.in_ok-extends.ensures in
    let written = rw c.part_count.ensures.is at c.parts.ensures in
    follows_both (Edits g.L.Link.Carries) (known_call w.path.now c.args.opened) _ _ _ _ _ _
    (as_edits g.L.Link.Carries (known_call w.path.now c.args.opened) (quiet_known w.path.now c.args.opened) _ _ c.args.edits.now _ _ _ c.in_ok-chunks.ensures.is)
    (follows_else (Edits g.L.Link.Carries) (is_out w.size w.offset w.bytes.now) _ _ _ _ _ (sym c.if-is_out.ensures)
    (follows_both (Edits g.L.Link.Carries) (extends_call w.path.now c.in_ok-chunks.chunks (chunks_to w.size w.offset w.bytes.now - c.in_ok-chunks.chunks)) _ _ _ _ _ _
    (as_edits g.L.Link.Carries (extends_call w.path.now c.in_ok-chunks.chunks (chunks_to w.size w.offset w.bytes.now - c.in_ok-chunks.chunks)) (quiet_extends _ _ _) _ _ c.args.edits.now _ _ _ extended) written))
