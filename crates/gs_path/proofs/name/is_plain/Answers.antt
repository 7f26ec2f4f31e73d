use Rattle.std.proofs.Common.{rules}
use Rattle.std.proofs.lemmas.Iterator.{YieldsList-from_slice}
use Rattle.std.proofs.lemmas.Iterator.Search.{all_from_yields_List}
use Rattle.gs_path.specs.Element.{is_plain_byte}
use Rattle.gs_path.proofs.name.is_plain.Goals as goal

pub returns : goal.returns
returns c = all_from_yields_List is_plain_byte _ _ _ c.all.ensures.ran (YieldsList-from_slice c.args.text.now (cc)) (λ x b q k. search rules)
