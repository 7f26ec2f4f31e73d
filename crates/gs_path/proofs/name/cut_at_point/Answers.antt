use Rattle.std.proofs.Common.{◌≡◌, ◌<◌, ℕ, Option, Some, None, List, length, eqb, arith, lit<}
use Rattle.std.proofs.Math.ListN.{drop_of_length-le}
use Rattle.std.proofs.lemmas.Str.Pattern.{split_once_first}
use Rattle.std.specs.Borrow.{Bor}
use Rattle.std.specs.List.{position_or_len, before_first, after_first}
use Rattle.std.specs.Option.{MatchOption}
use Rattle.gs_path.specs.Cut.{IsCut}
use Rattle.gs_path.proofs.name.cut_at_point.Goals as goal

cut : (text : List ℕ) (r : Option (Bor (List ℕ) × Bor (List ℕ))) → MatchOption r (position_or_len (λ b. eqb b 46) text ≡ length text) (λ x. (position_or_len (λ b. eqb b 46) text < length text) × (x.0.now ≡ before_first (λ b. eqb b 46) text) × (x.1.now ≡ after_first (λ b. eqb b 46) text)) → IsCut text r
cut text None h = drop_of_length-le text (omega arith)
cut text (Some x) h = (h.1, h.2)

pub returns : goal.returns
returns c = cut c.args.text.now c.split_once.result (split_once_first 46 c.args.text.now c.split_once.result c.split_once.ensures.cases (lit< tt))
