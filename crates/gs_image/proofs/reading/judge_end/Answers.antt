use Rattle.std.proofs.Common.{◌≡◌, rules, ◌∙◌, sym, take}
use Rattle.std.proofs.lemmas.List.{take_all}
use Rattle.sha2.specs.Sha256.{sha256}
use Rattle.gs_image.proofs.reading.judge_end.Goals as goal

pub returns : goal.returns
returns c =
    let same : take 32 c.args.rest.now ≡ sha256 c.args.before.now = search rules in
    sym (take_all 32 c.args.rest.now c.if-rest-gt32.false) ∙ same
