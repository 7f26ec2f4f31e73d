use Rattle.std.proofs.Common.{length, eqb}
use denote.Shadow.{shadow}
use denote.Text.{Utf8}
use Rattle.std.specs.List.{slice_split}
use Rattle.gs_path.specs.Reading.{passes}
use Rattle.gs_path.proofs.PathLemmas.{Reads}
use Rattle.gs_path.proofs.path.read_elements.Given as goal

abbrev pub invariant-loop-first : goal.invariant-loop-first
invariant-loop-first l = shadow (Utf8 l.rest) × Reads (passes l.elements) (slice_split (λ b. eqb b 47) l.text) l.path l.rest

abbrev pub decreases-loop-first : goal.decreases-loop-first
decreases-loop-first l = length l.rest
