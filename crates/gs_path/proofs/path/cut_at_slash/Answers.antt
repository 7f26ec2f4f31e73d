use Rattle.std.proofs.Common.{◌≡◌, ◌+◌, ◌<◌, ℕ, ◌∷◌, Option, Some, None, List, length, eqb, sym, ap, ◌∙◌, arith, lit<, length-drop}
use Rattle.std.proofs.lemmas.List.Splits.{slice_split_first}
use Rattle.std.proofs.lemmas.Str.Pattern.{split_once_first}
use Rattle.std.specs.Borrow.{Bor}
use Rattle.std.specs.List.{slice_split, position_or_len, before_first, after_first}
use Rattle.std.specs.Option.{MatchOption}
use Rattle.gs_path.specs.Reading.{CutsFirst}
use Rattle.gs_path.proofs.PathLemmas.{uncut}
use Rattle.gs_path.proofs.path.cut_at_slash.Goals as goal

cut : (text : List ℕ) (r : Option (Bor (List ℕ) × Bor (List ℕ))) → MatchOption r (position_or_len (λ b. eqb b 47) text ≡ length text) (λ x. (position_or_len (λ b. eqb b 47) text < length text) × (x.0.now ≡ before_first (λ b. eqb b 47) text) × (x.1.now ≡ after_first (λ b. eqb b 47) text)) → CutsFirst text r
cut text None h = uncut (λ b. eqb b 47) text h
cut text (Some x) h = (
  slice_split_first (λ b. eqb b 47) text 0 h.0 ∙ ap (λ t. t ∷ slice_split (λ b. eqb b 47) (after_first (λ b. eqb b 47) text)) (sym h.1) ∙ ap (λ t. x.0.now ∷ slice_split (λ b. eqb b 47) t) (sym h.2),
  let l = length-drop (position_or_len (λ b. eqb b 47) text + 1) text in let k = ap length h.2 in omega arith,
)

pub returns : goal.returns
returns c = cut c.args.text.now c.split_once.result (split_once_first 47 c.args.text.now c.split_once.result c.split_once.ensures.cases (lit< tt))
