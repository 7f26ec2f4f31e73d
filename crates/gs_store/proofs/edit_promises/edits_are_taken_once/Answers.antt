use Rattle.gs_store.specs.Serving.{apply}
use Rattle.gs_store.specs.Standing.{IsNextEdit}
use Rattle.gs_store.proofs.Laws.{of_ok}
use Rattle.gs_store.proofs.Standing.{next_edit}
use Rattle.gs_store.proofs.edit_promises.edits_are_taken_once.Goals as goal

pub returns : goal.returns
returns c stamp number req op bytes s s2 under is = of_ok (λ x. IsNextEdit stamp number req s x) (apply stamp number req op bytes s) s2 is (next_edit stamp number req op bytes s s.live (λ k. s.live) under)
