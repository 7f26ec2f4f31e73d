use Rattle.std.proofs.Common.{◌∙◌, ap, arith, Ok, inl, inr, refl}
use Rattle.gs_cluster.proofs.Hearing.{asks_again, heard_none, heard_one, heard_out}
use Rattle.gs_cluster.proofs.caller.look.Goals as goal

pub returns-in-Ok-Some : goal.returns-in-Ok-Some
returns-in-Ok-Some g c =
    heard_one g.D.Disk.seen g.D.Disk.failures c.args.node.now c.receive.new.self c.args.patience.now c.hear.new.self c.receive.result c.in-Ok-Some.field-0-0 c.receive.ensures (c.in-Ok-Some.is ∙ ap Ok c.in-Ok-Some.field-0-is) c.hear.ensures

pub returns-in-Err : goal.returns-in-Err
returns-in-Err g c = heard_out g.D.Disk.seen g.D.Disk.failures c.args.node.now c.receive.new.self c.args.patience.now c.receive.result c.in-Err.refusal c.receive.ensures c.in-Err.is

pub returns-then-patience-lt-LOOKS : goal.returns-then-patience-lt-LOOKS
returns-then-patience-lt-LOOKS g c =
    heard_none g.D.Disk.seen g.D.Disk.failures c.args.node.now c.receive.new.self c.put_waiting.new.self c.args.patience.now _ c.receive.result c.receive.ensures (c.in-Ok-None.is ∙ ap Ok c.in-Ok-None.field-0-is) c.put_waiting.ensures
    (inl (record { few = c.if-patience-lt-LOOKS.true; looks = refl; vain = refl; heard = refl }))

pub returns : goal.returns
returns g c =
    heard_none g.D.Disk.seen g.D.Disk.failures c.args.node.now c.receive.new.self c.again.new.self c.args.patience.now c.ask_again.new.self c.receive.result c.receive.ensures (c.in-Ok-None.is ∙ ap Ok c.in-Ok-None.field-0-is)
    (c.again.ensures ∙ c.put_waiting.ensures) (inr (omega arith, asks_again g.D.Disk.seen g.D.Disk.failures c.args.patience.now _ c.ask_again.new.self refl refl c.ask_again.ensures))
