use Rattle.std.proofs.Common.{◌≡◌, ap, ◌∙◌}
use Rattle.std.specs.Prelude.{Ok}
use Rattle.gs_refs.specs.Counts.{raised_each}
use Rattle.gs_edit.specs.View.{NamesView}
use Rattle.gs_edit.proofs.Gathered.{given_back}
use Rattle.gs_edit.proofs.names.Names.put_back.Goals as goal

pub returns-clause-refs : goal.returns-clause-refs
returns-clause-refs c = λ counts up.
    let is : raised_each c.self.inside.refs c.deref.result.now ≡ Ok counts = ap (λ (v : NamesView). raised_each v.refs c.deref.result.now) c.self.view_is ∙ ap (raised_each c.args.self.now.refs) c.deref.ensures.value ∙ up in
    given_back c.self.inside.refs counts c.raise_each.result c.raise_each.new.self c.deref.result.now is c.raise_each.ensures.edit
