use Rattle.std.proofs.Common.{ap, sym, ◌∙◌}
use Rattle.std.proofs.lemmas.Result.{err_from_is_err_and}
use Rattle.std.specs.FinMap as fin
use Rattle.gs_refs.proofs.CountLemmas.{get_listed, insert_listed}
use Rattle.gs_refs.proofs.refs.Refs.write.Goals as goal

pub returns-in_err-insert-clause-absent : goal.returns-in_err-insert-clause-absent
returns-in_err-insert-clause-absent c = let p = err_from_is_err_and c.from_residual.result c.from_residual.ensures.1 in
    rw p.1 (sym (ap (λ m. fin.get m c.args.handle) c.self.view_is) ∙ get_listed c.self.inside.counts.entries c.args.handle ∙ c.in_err-insert.ensures.absent)

pub returns-clause-ok : goal.returns-clause-ok
returns-clause-ok c = insert_listed c.self.inside.counts.entries c.insert.new.self.entries c.args.handle c.args.count c.in_ok-insert.ensures.updates.0 ∙ ap (λ m. fin.insert m c.args.handle c.args.count) c.self.view_is
