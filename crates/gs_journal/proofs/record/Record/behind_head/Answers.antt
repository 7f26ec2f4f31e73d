use Rattle.std.proofs.Common.{◌∙◌}
use Rattle.gs_journal.proofs.Frames.{framed, headed}
use Rattle.gs_journal.proofs.record.Record.behind_head.Goals as goal

pub invariant_of-result : goal.invariant_of-result
invariant_of-result c =
    let size = c.args.bytes.ok.0 in
    (framed c.push.new.self.items c.args.bytes.items c.args.kind c.requires.size
    (headed _ _ _ _ _ c.args.kind c.len.result _ c.in_ok-push.ensures.items c.put_front.ensures c.deref_mut.ensures.value c.write_u32.ensures (c.len.ensures ∙ size) size c.requires.head)).1

pub returns-clause-made : goal.returns-clause-made
returns-clause-made c =
    let size = c.args.bytes.ok.0 in
    (framed c.push.new.self.items c.args.bytes.items c.args.kind c.requires.size
    (headed _ _ _ _ _ c.args.kind c.len.result _ c.in_ok-push.ensures.items c.put_front.ensures c.deref_mut.ensures.value c.write_u32.ensures (c.len.ensures ∙ size) size c.requires.head)).0
