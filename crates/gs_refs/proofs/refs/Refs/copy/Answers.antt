use Rattle.std.proofs.Common.{ap, ◌∙◌}
use Rattle.std.proofs.lemmas.Result.{IfOk-weaker}
use Rattle.std.specs.FinMap as fin
use Rattle.gs_refs.proofs.CountLemmas.{from_entries-entries}
use Rattle.gs_refs.proofs.refs.Refs.copy.Goals as goal

pub returns : goal.returns
returns c = IfOk-weaker c.of.result _ _ (λ refs h. h ∙ ap (λ es. fin.from_entries es) (c.deref.ensures.value ∙ c.in_ok-entries.ensures) ∙ from_entries-entries c.args.self.now) c.of.ensures.counts
