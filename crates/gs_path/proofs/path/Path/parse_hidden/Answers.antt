use Rattle.std.proofs.Common.{◌≡◌, ℕ, List, Result, Ok, Err, IfOk}
use Rattle.gs_base.specs.declared.refusal.Refusal.{Refusal}
use Rattle.gs_path.specs.Element.{is_stored}
use Rattle.gs_path.specs.Path.{Path, path_text}
use Rattle.gs_path.specs.Rules.{ReadsAs, parse_hidden}
use Rattle.gs_path.proofs.PathLemmas.{path_text-read_by}
use Rattle.gs_path.proofs.path.Path.parse_hidden.Goals as goal

same_text : (text : List ℕ) (r : Result Path Refusal) → ReadsAs (parse_hidden text) r → IfOk r (λ p. path_text p ≡ text)
same_text text (Ok p) h = path_text-read_by is_stored text p h
same_text text (Err e) h = tt

pub returns-clause-text : goal.returns-clause-text
returns-clause-text c = same_text c.args.text.now c.read.result c.read.ensures
