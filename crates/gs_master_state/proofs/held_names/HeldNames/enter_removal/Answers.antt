use Rattle.std.proofs.Common.{◌≡◌, ◌∙◌, ap, subst, sym}
use Rattle.std.specs.List.{list_any}
use Rattle.std.specs.Prelude.{Ok}
use Rattle.gs_edit.specs.Edits.{renamed}
use Rattle.gs_edit.specs.View.{NamesView}
use Rattle.gs_edit.specs.declared.edit.Edit.TheVariants as edits
use Rattle.gs_path.specs.Path.{begins}
use Rattle.std.specs.FinMap.{get}
use Rattle.gs_master_state.specs.inner.Held.{HeldView, IsSeen, KeepsAll, StandsBy, all_but_last, without_kept}
use Rattle.gs_master_state.specs.inner.Places.{Paths}
use Rattle.gs_master_state.proofs.Edits.{names_after}
use Rattle.gs_master_state.proofs.Keeping.{removal_made}
use Rattle.gs_master_state.proofs.PlaceSets.{but_last}
use Rattle.gs_master_state.proofs.held_names.HeldNames.enter_removal.Goals as goal

pub invariant_of-self : goal.invariant_of-self
invariant_of-self c =
    let ps : c.push.new.self.items ≡ c.self.inside.places.items = ap (λ (v : Paths). v.items) c.in_err-push.ensures.stays in (
      subst (λ qs. KeepsAll qs c.self.inside.names) (sym ps) c.self.invariant.0,
      subst (λ qs. StandsBy c.self.inside.spare (without_kept qs c.self.inside.names)) (sym ps) c.self.invariant.1,
      subst (λ qs. IsSeen c.self.inside.visible (without_kept qs c.self.inside.names)) (sym ps) c.self.invariant.2,
    )

pub invariant_of-self-2 : goal.invariant_of-self-2
invariant_of-self-2 c =
    let seen : record { names = without_kept c.self.inside.places.items c.self.inside.names; places = c.self.inside.places.items } ≡ c.args.self.now = c.self.view_is in
    let apart = ap (λ (v : HeldView). list_any (begins c.args.path.now) v.places) seen ∙ c.requires.apart in
    let does = removal_made c.args.path.now c.in_ok-path.path c.in_ok-kept.kept c.self.inside.places.items c.push.new.self.items c.self.inside.names c.remove_keeping_place.new.self c.in-Ok.out.node c.in-Ok.out.chunks.items
    c.in_ok-path.ensures c.in_ok-kept.ensures c.in_ok-push.ensures.pushed c.self.invariant.0 apart c.in-Ok.ensures.made in
    let before = without_kept c.self.inside.places.items c.self.inside.names in
    let after = without_kept c.push.new.self.items c.remove_keeping_place.new.self in
    let stands : StandsBy c.take-beside.result before = subst (λ o. StandsBy o before) (sym c.take-beside.ensures.value) c.self.invariant.1 in
    (does.keeps, c.followed.ensures before after stands (names_after c.args.edit.now before after (ap (λ e. renamed e before) c.requires.edit ∙ does.made)), tt)

pub returns-clause-edit : goal.returns-clause-edit
returns-clause-edit c =
    let seen : record { names = without_kept c.self.inside.places.items c.self.inside.names; places = c.self.inside.places.items } ≡ c.args.self.now = c.self.view_is in
    let apart = ap (λ (v : HeldView). list_any (begins c.args.path.now) v.places) seen ∙ c.requires.apart in
    let does = removal_made c.args.path.now c.in_ok-path.path c.in_ok-kept.kept c.self.inside.places.items c.push.new.self.items c.self.inside.names c.remove_keeping_place.new.self c.in-Ok.out.node c.in-Ok.out.chunks.items
    c.in_ok-path.ensures c.in_ok-kept.ensures c.in_ok-push.ensures.pushed c.self.invariant.0 apart c.in-Ok.ensures.made in
    ap (λ e. renamed e c.args.self.now.names) c.requires.edit ∙ ap (λ (v : HeldView). renamed (edits.Remove c.args.path.now) v.names) (sym seen) ∙ does.made

pub returns-clause-back : goal.returns-clause-back
returns-clause-back c =
    let seen : record { names = without_kept c.self.inside.places.items c.self.inside.names; places = c.self.inside.places.items } ≡ c.args.self.now = c.self.view_is in
    let apart = ap (λ (v : HeldView). list_any (begins c.args.path.now) v.places) seen ∙ c.requires.apart in
    let does = removal_made c.args.path.now c.in_ok-path.path c.in_ok-kept.kept c.self.inside.places.items c.push.new.self.items c.self.inside.names c.remove_keeping_place.new.self c.in-Ok.out.node c.in-Ok.out.chunks.items
    c.in_ok-path.ensures c.in_ok-kept.ensures c.in_ok-push.ensures.pushed c.self.invariant.0 apart c.in-Ok.ensures.made in (
      λ q. ap (λ (v : HeldView). get v.names.tree q) (sym seen) ∙ does.tree q,
      does.refs ∙ ap (λ (v : HeldView). Ok v.names.refs) seen,
    )

pub returns-clause-places : goal.returns-clause-places
returns-clause-places c =
    let seen : record { names = without_kept c.self.inside.places.items c.self.inside.names; places = c.self.inside.places.items } ≡ c.args.self.now = c.self.view_is in
    let apart = ap (λ (v : HeldView). list_any (begins c.args.path.now) v.places) seen ∙ c.requires.apart in
    let does = removal_made c.args.path.now c.in_ok-path.path c.in_ok-kept.kept c.self.inside.places.items c.push.new.self.items c.self.inside.names c.remove_keeping_place.new.self c.in-Ok.out.node c.in-Ok.out.chunks.items
    c.in_ok-path.ensures c.in_ok-kept.ensures c.in_ok-push.ensures.pushed c.self.invariant.0 apart c.in-Ok.ensures.made in
    (ap (λ (v : HeldView). v.places) (sym seen) ∙ does.before, does.last)

-- ---- where it is refused

pub invariant_of-self-in-Err : goal.invariant_of-self-in-Err
invariant_of-self-in-Err c =
    let stays : c.remove_keeping_place.new.self ≡ c.self.inside.names = c.in-Err.ensures.refused.1 in
    let ps : c.pop.new.self.items ≡ c.self.inside.places.items = c.pop.ensures ∙ ap all_but_last c.in_ok-push.ensures.pushed ∙ but_last c.self.inside.places.items c.in_ok-kept.kept in (
      subst (λ n. KeepsAll c.pop.new.self.items n) (sym stays) (subst (λ qs. KeepsAll qs c.self.inside.names) (sym ps) c.self.invariant.0),
      subst (λ n. StandsBy c.self.inside.spare (without_kept c.pop.new.self.items n)) (sym stays) (subst (λ qs. StandsBy c.self.inside.spare (without_kept qs c.self.inside.names)) (sym ps) c.self.invariant.1),
      subst (λ n. IsSeen c.self.inside.visible (without_kept c.pop.new.self.items n)) (sym stays) (subst (λ qs. IsSeen c.self.inside.visible (without_kept qs c.self.inside.names)) (sym ps) c.self.invariant.2),
    )

pub returns-in-Err-clause-refused : goal.returns-in-Err-clause-refused
returns-in-Err-clause-refused c =
    let stays : c.remove_keeping_place.new.self ≡ c.self.inside.names = c.in-Err.ensures.refused.1 in
    ap (λ (n : NamesView). record { names = without_kept c.pop.new.self.items n; places = c.pop.new.self.items }) stays ∙ ap (λ ps. record { names = without_kept ps c.self.inside.names; places = ps }) (c.pop.ensures ∙ ap all_but_last c.in_ok-push.ensures.pushed ∙ but_last c.self.inside.places.items c.in_ok-kept.kept) ∙ c.self.view_is
