use Rattle.std.proofs.Common.{◌≡◌, ◌∙◌, ap, subst, sym}
use Rattle.gs_edit.specs.View.{NamesView}
use Rattle.gs_master_state.specs.inner.Held.{ArePlaces, HeldView, KeepsAll, all_but_last, without_kept}
use Rattle.gs_master_state.specs.inner.TakingBack.{AreNamesBefore, IsLastPlace}
use Rattle.gs_master_state.specs.declared.undo.NamesBefore.TheVariants.{Removed as RemovedFrom}
use Rattle.gs_master_state.proofs.Keeping.{hidden_left, put_home, rest_last, stood_again}
use Rattle.gs_master_state.proofs.held_names.HeldNames.put_removed_back.Goals as goal

pub invariant_of-self : goal.invariant_of-self
invariant_of-self c =
    let last = subst (λ (v : HeldView). IsLastPlace v.places c.args.removed.path) (sym c.self.view_is) c.requires in
    let rest : c.pop.new.self.items ≡ last.0 = rest_last c.self.inside.places.items c.pop.new.self.items c.args.removed.path last c.pop.ensures in
    let all = subst (λ ps. KeepsAll ps c.self.inside.names) last.1.0 c.self.invariant.0 in
    let home = put_home c.args.removed.path last.0 c.args.removed.out.node c.self.inside.names c.put_back.new.self all.0 last.1.1 c.put_back.ensures.tree in
    (subst (λ ps. KeepsAll ps c.put_back.new.self) (sym rest) (home.0, hidden_left last.0 c.args.removed.path all.1), tt, tt)

pub returns-clause-names : goal.returns-clause-names
returns-clause-names c = λ stood before.
    let last = subst (λ (v : HeldView). IsLastPlace v.places c.args.removed.path) (sym c.self.view_is) c.requires in
    let rest : c.pop.new.self.items ≡ last.0 = rest_last c.self.inside.places.items c.pop.new.self.items c.args.removed.path last c.pop.ensures in
    let all = subst (λ ps. ArePlaces ps c.self.inside.names) last.1.0 c.self.invariant.0.0 in
    ap (λ ps. without_kept ps c.put_back.new.self) rest
    ∙ stood_again c.args.removed last.0 c.self.inside.names c.put_back.new.self stood all last.1.1 c.put_back.ensures.tree c.put_back.ensures.refs
    (subst (λ (v : NamesView). AreNamesBefore (RemovedFrom c.args.removed) stood v) (ap (λ (v : HeldView). v.names) (sym c.self.view_is) ∙ ap (λ ps. without_kept ps c.self.inside.names) last.1.0) before)

pub returns-clause-places : goal.returns-clause-places
returns-clause-places c = c.pop.ensures ∙ ap (λ (v : HeldView). all_but_last v.places) c.self.view_is
