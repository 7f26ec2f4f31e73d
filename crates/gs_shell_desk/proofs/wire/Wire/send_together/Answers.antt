use Rattle.std.proofs.Common.{◌++◌, ◌∙◌, ap, subst, sym}
use Rattle.gs_shell_desk.proofs.Together.{counted_all, sends_together}
use Rattle.gs_shell_desk.specs.Ways.{SendsAll, way_of, with_queue}
use Rattle.gs_shell_desk.proofs.wire.Wire.send_together.Goals as goal

pub returns : goal.returns
returns g c =
    let old = way_of c.args.self.now in
    let items = c.args.sent.items in
    subst (λ queue. SendsAll items old (with_queue queue (way_of c.count_all.new.self))) (sym c.from_vec.ensures.items)
    (subst (λ way. SendsAll items old (with_queue items way)) (sym (c.count_all.ensures ∙ ap (λ messages. counted_all messages old) c.deref.ensures.value))
    (subst (λ queue. SendsAll items old (with_queue (queue ++ items) (counted_all items old))) c.requires.queue (sends_together items old c.requires.kind)))
