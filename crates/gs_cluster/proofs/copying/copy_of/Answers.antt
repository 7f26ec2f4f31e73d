use Rattle.std.proofs.Common.{inl, inr, refl}
use Rattle.gs_cluster.proofs.Hearing.{not_plain, plain_copy}
use Rattle.gs_cluster.proofs.copying.copy_of.Goals as goal

pub returns-in-Some : goal.returns-in-Some
returns-in-Some c = inl (plain_copy c.args.reply.now c.in-Some.copy c.plain.result c.plain.ensures c.in-Some.is)

pub returns-in-Err : goal.returns-in-Err
returns-in-Err c = inr (refl, not_plain c.args.reply.now c.plain.result c.plain.ensures c.in_default.not-Some)
