use Rattle.std.proofs.Common.{lit<}
use Rattle.std.proofs.lemmas.Str.Pattern.{split_parts}
use Rattle.gs_base.proofs.Tells.{cut_of, uncut, no_epoch, no_version}
use Rattle.gs_base.proofs.told.stamp_in.Goals as goal

pub returns-in_err-epoch : goal.returns-in_err-epoch
returns-in_err-epoch c =
    uncut c.args.text.now c.split_once.result _ (c.in_err-epoch.was) c.from_residual.ensures
    (split_parts 46 c.args.text.now c.split_once.result c.split_once.ensures.cases (lit< tt))

pub returns-in_err-number_in : goal.returns-in_err-number_in
returns-in_err-number_in c =
    no_epoch c.args.text.now c.in_ok-epoch.epoch.now c.in_ok-epoch.version.now c.number_in.result _
    (cut_of c.args.text.now c.split_once.result c.in_ok-epoch.epoch c.in_ok-epoch.version (c.in_ok-epoch.was)
    (split_parts 46 c.args.text.now c.split_once.result c.split_once.ensures.cases (lit< tt)))
    (c.in_err-number_in.was) c.from_residual-in_err-number_in.ensures c.number_in.ensures

pub returns-in_err-number_in-2 : goal.returns-in_err-number_in-2
returns-in_err-number_in-2 c =
    no_version c.args.text.now c.in_ok-epoch.epoch.now c.in_ok-epoch.version.now c.number_in-2.result _
    (cut_of c.args.text.now c.split_once.result c.in_ok-epoch.epoch c.in_ok-epoch.version (c.in_ok-epoch.was)
    (split_parts 46 c.args.text.now c.split_once.result c.split_once.ensures.cases (lit< tt)))
    (c.in_err-number_in-2.was) c.from_residual-in_err-number_in-2.ensures c.number_in-2.ensures
