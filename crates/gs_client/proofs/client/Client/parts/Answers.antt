use Rattle.std.proofs.Common.{◌≡◌, ◌+◌, ◌/◌, rules, Err, refl}
use Rattle.gs_client_dialogue.proofs.Talks.{leads_next, leads_stop}
use Rattle.gs_client.specs.Edits.{Edits}
use Rattle.gs_client_part.specs.Writing.{part_start, part_bytes}
use Rattle.gs_client.specs.Writing.{write_part_call, part_op}
use Rattle.gs_client.proofs.Counts.{parts_next, part_named}
use Rattle.gs_client.proofs.client.Client.parts.Goals as goal

pub returns-in_err-write_part : goal.returns-in_err-write_part
returns-in_err-write_part g c =
    let e : c.from_residual.result ≡ Err c.in_err-write_part.field-0.0 = search rules in
    let w = c.args.write.now in
    let leads = rw (parts_next w.size w.path.now w.offset w.bytes.now c.loop-i.i c.args.count c.loop-i-test.true) at c.loop-i.invariant in
    rw e (leads_stop (Edits g.L.Link.Carries) _ (write_part_call w.path.now (w.offset / w.size + c.loop-i.i) (part_op w.size w.offset w.bytes.now c.loop-i.i) (part_bytes w.size w.offset w.bytes.now c.loop-i.i)) _ _ _ _ _ leads
    (part_named (Edits g.L.Link.Carries) w.path.now (w.offset / w.size + c.loop-i.i) c.part_start.result (part_start w.size w.offset c.loop-i.i) _ c.part_bytes-bytes.result.now (part_bytes w.size w.offset w.bytes.now c.loop-i.i) _ _ _
    c.part_start.ensures refl c.part_bytes-bytes.ensures c.in_err-write_part.ensures))

pub loop-i-preserved : goal.loop-i-preserved
loop-i-preserved g c =
    let w = c.args.write.now in
    let leads = rw (parts_next w.size w.path.now w.offset w.bytes.now c.loop-i.i c.args.count c.loop-i-test.true) at c.loop-i.invariant in
    leads_next (Edits g.L.Link.Carries) _ (write_part_call w.path.now (w.offset / w.size + c.loop-i.i) (part_op w.size w.offset w.bytes.now c.loop-i.i) (part_bytes w.size w.offset w.bytes.now c.loop-i.i)) _ _ _ _ _ leads
    (part_named (Edits g.L.Link.Carries) w.path.now (w.offset / w.size + c.loop-i.i) c.part_start.result (part_start w.size w.offset c.loop-i.i) _ c.part_bytes-bytes.result.now (part_bytes w.size w.offset w.bytes.now c.loop-i.i) _ _ _
    c.part_start.ensures refl c.part_bytes-bytes.ensures c.in_ok-write_part.ensures)
