use Rattle.std.proofs.Common.{rules, not, ap}
use Rattle.std.proofs.lemmas.Iterator.{YieldsList-from_slice}
use Rattle.std.proofs.lemmas.Iterator.Search.{any_from_yields_List}
use Rattle.gs_path.specs.Element.{is_hidden}
use Rattle.gs_master_state.proofs.file.is_visible.Goals as goal

pub returns : goal.returns
returns c = ap not (any_from_yields_List is_hidden _ _ _ c.any.ensures.ran (YieldsList-from_slice c.args.path.now (cc)) (λ x b q k. search rules))
