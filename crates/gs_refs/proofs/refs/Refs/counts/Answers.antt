use Rattle.std.proofs.Common.{ap, sym, ◌∙◌, subst}
use Rattle.std.specs.Prelude.{MatchBool}
use Rattle.gs_refs.specs.Counts.{IsCountOf, lowered_each}
use Rattle.gs_refs.proofs.EachLemmas.{is_count_of, isnt_count_of}
use Rattle.gs_refs.proofs.refs.Refs.counts.Goals as goal

pub returns-in-Ok : goal.returns-in-Ok
returns-in-Ok c =
    subst (λ b. MatchBool b (IsCountOf c.args.handles.now c.args.self.now) (IsCountOf c.args.handles.now c.args.self.now → ⊥)) (sym c.is_zero.ensures)
    (is_count_of c.args.handles.now c.args.self.now c.lower_each.new.self (ap (λ m. lowered_each m c.args.handles.now) (sym c.in_ok-rest.ensures) ∙ c.in-Ok.ensures.edit))

pub returns : goal.returns
returns c =
    isnt_count_of c.args.handles.now c.args.self.now c.in-Err.field-0 (ap (λ m. lowered_each m c.args.handles.now) (sym c.in_ok-rest.ensures) ∙ c.in-Err.ensures.edit.0)
