use Rattle.std.proofs.Common.{◌≡◌, ap, sym, ◌∙◌, subst, inl, refl, true, false, rules, ◌&&◌}
use Rattle.std.proofs.lemmas.Bool.{and_parts}
use Rattle.std.specs.Prelude.{Some, is_none, slice_get}
use Rattle.std.specs.FinMap.{get}
use Rattle.gs_tree.specs.Edits.{chunks_in}
use Rattle.gs_tree.specs.declared.inverse.TreeInverse.{TreeInverse}
use Rattle.gs_tree.specs.declared.inverse.TreeInverse.TheVariants.{Changed}
use Rattle.gs_tree.specs.Inverses.{TakesBack}
use Rattle.gs_refs.specs.Counts.{Counts}
use Rattle.gs_edit.specs.View.{names_of}
use Rattle.gs_edit.specs.Edits.{holds_chunk, has_reference}
use Rattle.gs_edit.specs.Names.{NamesTakenBack, without_changed}
use Rattle.gs_edit.specs.declared.edit.Edit.TheVariants.{Cow}
use Rattle.gs_edit.specs.declared.edit.Inverse.TheVariants as inverses
use Rattle.gs_edit.proofs.Applied.{changed_at, held, admits_seen, set_applies, set_refused, not_admitted}
use Rattle.gs_edit.proofs.References.{handed_now, handed_back, listed_in_vain, referred}
use Rattle.gs_edit.proofs.names.change_chunk.Goals as goal

pub returns-then-not-may_change-clause-edit : goal.returns-then-not-may_change-clause-edit
returns-then-not-may_change-clause-edit c =
    let tests : (is_none (get c.args.refs.now c.args.new) && (holds_chunk (slice_get (chunks_in (get c.args.tree.now c.args.path.now)) c.args.index) c.args.old && has_reference (get c.args.refs.now c.args.old))) ≡ false = search rules in
    (inl (not_admitted (Cow c.args.path.now c.args.index c.args.old c.args.new) c.args.tree.now c.args.refs.now (admits_seen c.args.path.now c.args.index c.args.old c.args.new c.args.tree.now c.args.refs.now false tests)), refl)

pub returns-in-Ok-clause-edit : goal.returns-in-Ok-clause-edit
returns-in-Ok-clause-edit c =
    let tests : (is_none (get c.args.refs.now c.args.new) && (holds_chunk (slice_get (chunks_in (get c.args.tree.now c.args.path.now)) c.args.index) c.args.old && has_reference (get c.args.refs.now c.args.old))) ≡ true = search rules in
    let parts = and_parts (is_none (get c.args.refs.now c.args.new)) (holds_chunk (slice_get (chunks_in (get c.args.tree.now c.args.path.now)) c.args.index) c.args.old && has_reference (get c.args.refs.now c.args.old)) tests in
    let rest = and_parts (holds_chunk (slice_get (chunks_in (get c.args.tree.now c.args.path.now)) c.args.index) c.args.old) (has_reference (get c.args.refs.now c.args.old)) parts.1 in
    let (n, ref) = referred c.args.refs.now c.args.old rest.1 in
    set_applies c.args.path.now c.args.index c.args.old c.args.new c.in-Ok.inverse c.args.tree.now c.set_chunk.new.self c.args.refs.now c.lower.new.self
    (admits_seen c.args.path.now c.args.index c.args.old c.args.new c.args.tree.now c.args.refs.now true tests)
    (handed_now c.args.refs.now c.raise.new.self c.lower.new.self c.args.old c.args.new n c.lower.result parts.0 ref c.in_ok-raise.ensures.edit c.lower.ensures.edit) c.in-Ok.ensures.edit

pub returns-in-Ok-clause-undo : goal.returns-in-Ok-clause-undo
returns-in-Ok-clause-undo c =
    let tests : (is_none (get c.args.refs.now c.args.new) && (holds_chunk (slice_get (chunks_in (get c.args.tree.now c.args.path.now)) c.args.index) c.args.old && has_reference (get c.args.refs.now c.args.old))) ≡ true = search rules in
    let parts = and_parts (is_none (get c.args.refs.now c.args.new)) (holds_chunk (slice_get (chunks_in (get c.args.tree.now c.args.path.now)) c.args.index) c.args.old && has_reference (get c.args.refs.now c.args.old)) tests in
    let rest = and_parts (holds_chunk (slice_get (chunks_in (get c.args.tree.now c.args.path.now)) c.args.index) c.args.old) (has_reference (get c.args.refs.now c.args.old)) parts.1 in
    let (n, ref) = referred c.args.refs.now c.args.old rest.1 in
    let (had, (own, is)) = c.in-Ok.ensures.inverse in
    let old_is = held (slice_get (chunks_in (get c.args.tree.now c.args.path.now)) c.args.index) had c.args.old own rest.0 in
    let exact : c.in-Ok.inverse ≡ Changed c.args.path.now c.args.index c.args.old = is ∙ ap (λ h. Changed c.args.path.now c.args.index h) old_is in
    let back : TakesBack (Changed c.args.path.now c.args.index c.args.old) (get c.args.tree.now) (get c.set_chunk.new.self) = subst (λ (i : TreeInverse). TakesBack i (get c.args.tree.now) (get c.set_chunk.new.self)) exact c.in-Ok.ensures.undo in
    let now = handed_now c.args.refs.now c.raise.new.self c.lower.new.self c.args.old c.args.new n c.lower.result parts.0 ref c.in_ok-raise.ensures.edit c.lower.ensures.edit in
    subst (λ (i : TreeInverse). NamesTakenBack (inverses.Tree i) (names_of c.args.tree.now c.args.refs.now) (names_of c.set_chunk.new.self c.lower.new.self)) (sym exact) (record {
      fits = back.fits;
      tree = back.back;
      refs = ap (λ v. without_changed c.lower.new.self v c.args.old) (changed_at (get c.args.tree.now) (get c.set_chunk.new.self) c.args.path.now c.args.index c.args.new c.in-Ok.inverse c.in-Ok.ensures.edit)
          ∙ ap (λ (m : Counts). without_changed m (Some c.args.new) c.args.old) now ∙ handed_back c.args.refs.now c.args.old c.args.new n parts.0 ref;
    })

pub returns-in-Err-clause-edit : goal.returns-in-Err-clause-edit
returns-in-Err-clause-edit c =
    let tests : (is_none (get c.args.refs.now c.args.new) && (holds_chunk (slice_get (chunks_in (get c.args.tree.now c.args.path.now)) c.args.index) c.args.old && has_reference (get c.args.refs.now c.args.old))) ≡ true = search rules in
    let parts = and_parts (is_none (get c.args.refs.now c.args.new)) (holds_chunk (slice_get (chunks_in (get c.args.tree.now c.args.path.now)) c.args.index) c.args.old && has_reference (get c.args.refs.now c.args.old)) tests in
    set_refused c.args.path.now c.args.index c.args.old c.args.new c.in-Err.refusal c.args.tree.now c.set_chunk.new.self c.args.refs.now c.unlist.new.self
    (admits_seen c.args.path.now c.args.index c.args.old c.args.new c.args.tree.now c.args.refs.now true tests)
    (listed_in_vain c.args.refs.now c.raise.new.self c.unlist.new.self c.args.new c.unlist.result parts.0 c.in_ok-raise.ensures.edit c.unlist.ensures) c.in-Err.ensures.edit
