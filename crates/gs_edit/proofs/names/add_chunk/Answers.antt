use Rattle.std.proofs.Common.{◌≡◌, ap, sym, ◌∙◌, subst, true, rules}
use Rattle.std.specs.Prelude.{is_none}
use Rattle.std.specs.FinMap.{get}
use Rattle.gs_tree.specs.declared.inverse.TreeInverse.{TreeInverse}
use Rattle.gs_tree.specs.declared.inverse.TreeInverse.TheVariants.{Added}
use Rattle.gs_tree.specs.Inverses.{TakesBack}
use Rattle.gs_edit.specs.View.{names_of}
use Rattle.gs_edit.specs.Names.{NamesTakenBack, without_added}
use Rattle.gs_edit.specs.declared.edit.Inverse.TheVariants as inverses
use Rattle.gs_edit.proofs.Applied.{added_last, add_applies, add_refused}
use Rattle.gs_edit.proofs.References.{raised_new, added_back, listed_in_vain}
use Rattle.gs_edit.proofs.names.add_chunk.Goals as goal

pub returns-in-Ok-clause-edit : goal.returns-in-Ok-clause-edit
returns-in-Ok-clause-edit c =
    let none : is_none (get c.args.refs.now c.args.chunk) ≡ true = search rules in
    add_applies c.args.path.now c.args.chunk c.in-Ok.inverse c.args.tree.now c.add_chunk.new.self c.args.refs.now c.raise.new.self none (raised_new c.args.refs.now c.raise.new.self c.args.chunk none c.in_ok-raise.ensures.edit) c.in-Ok.ensures.edit

pub returns-in-Ok-clause-undo : goal.returns-in-Ok-clause-undo
returns-in-Ok-clause-undo c =
    let none : is_none (get c.args.refs.now c.args.chunk) ≡ true = search rules in
    let back : TakesBack (Added c.args.path.now) (get c.args.tree.now) (get c.add_chunk.new.self) = subst (λ (i : TreeInverse). TakesBack i (get c.args.tree.now) (get c.add_chunk.new.self)) c.in-Ok.ensures.inverse c.in-Ok.ensures.undo in
    subst (λ (i : TreeInverse). NamesTakenBack (inverses.Tree i) (names_of c.args.tree.now c.args.refs.now) (names_of c.add_chunk.new.self c.raise.new.self)) (sym c.in-Ok.ensures.inverse) (record {
      fits = back.fits;
      tree = back.back;
      refs = ap (without_added c.raise.new.self) (added_last (get c.args.tree.now) (get c.add_chunk.new.self) c.args.path.now c.args.chunk c.in-Ok.inverse c.in-Ok.ensures.edit)
          ∙ added_back c.args.refs.now c.raise.new.self c.args.chunk none c.in_ok-raise.ensures.edit;
    })

pub returns-in-Err-clause-edit : goal.returns-in-Err-clause-edit
returns-in-Err-clause-edit c =
    let none : is_none (get c.args.refs.now c.args.chunk) ≡ true = search rules in
    add_refused c.args.path.now c.args.chunk c.in-Err.refusal c.args.tree.now c.add_chunk.new.self c.args.refs.now c.unlist.new.self none
    (listed_in_vain c.args.refs.now c.raise.new.self c.unlist.new.self c.args.chunk c.unlist.result none c.in_ok-raise.ensures.edit c.unlist.ensures) c.in-Err.ensures.edit
