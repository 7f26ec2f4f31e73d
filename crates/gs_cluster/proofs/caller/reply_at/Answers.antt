use Rattle.std.proofs.Common.{◌∙◌, ap, sym}
use Rattle.std.specs.Prelude.{option_copied}
use Rattle.gs_cluster.proofs.Hearing.{replied}
use Rattle.gs_cluster.proofs.caller.reply_at.Goals as goal

pub returns : goal.returns
returns g c =
    replied c.args.role.now c.in-Client.client c.in_ok-reply.field-0.now c.copy_of.result c.in-Client.is (sym c.reply.ensures ∙ ap option_copied c.in_ok-reply.was) c.copy_of.ensures
