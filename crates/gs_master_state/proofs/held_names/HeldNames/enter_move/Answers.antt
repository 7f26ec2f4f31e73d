use Rattle.std.proofs.Common.{◌≡◌, ◌⊎◌, ◌∙◌, List, [], inr, refl, ap, subst, sym}
use Rattle.std.specs.Prelude.{Option, None, Err}
use Rattle.gs_base.specs.declared.refusal.Refusal.TheVariants.{Memory}
use Rattle.gs_edit.specs.Edits.{renamed}
use Rattle.gs_edit.specs.Names.{NamesTakenBack}
use Rattle.gs_edit.specs.View.{NamesView}
use Rattle.gs_edit.specs.declared.edit.Inverse.TheVariants.{Tree}
use Rattle.gs_path.specs.Path.{Path}
use Rattle.gs_tree.specs.declared.inverse.TreeInverse.{TreeInverse}
use Rattle.gs_tree.specs.declared.inverse.TreeInverse.TheVariants.{Moved}
use Rattle.gs_master_state.specs.inner.Held.{HeldView, IsSeen, KeepsAll, StandsBy, without_kept}
use Rattle.gs_master_state.proofs.Keeping.{closed_in, one_place, returned_home}
use Rattle.gs_master_state.proofs.held_names.HeldNames.enter_move.Goals as goal

-- names that stay the same stay so seen
stays : (spare : Option NamesView) (places : List Path) (n new : NamesView) → new ≡ n → KeepsAll places n → StandsBy spare (without_kept places n) → KeepsAll places new × StandsBy spare (without_kept places new) × IsSeen None (without_kept places new)
stays spare places n new same h stands = (subst (KeepsAll places) (sym same) h, subst (λ v. StandsBy spare (without_kept places v)) (sym same) stands, tt)

pub invariant_of-self : goal.invariant_of-self
invariant_of-self c =
    let refused = c.in-Err.ensures.edit c.requires.edit c.move_keeping_place.new.self (λ q. refl, refl) in
    stays c.self.inside.spare c.self.inside.places.items c.self.inside.names c.move_keeping_place.new.self refused.1 c.self.invariant.0 c.self.invariant.1

-- the names are those that are seen, where no place is kept
seen_is : (places : List Path) (n : NamesView) (now : HeldView) → record { names = without_kept places n; places = places } ≡ now → now.places ≡ [] → n ≡ now.names
seen_is places n now is none = sym (ap (λ ps. without_kept ps n) (ap (λ (v : HeldView). v.places) is ∙ none)) ∙ ap (λ (v : HeldView). v.names) is

pub returns-in-Err-clause-edit : goal.returns-in-Err-clause-edit
returns-in-Err-clause-edit c =
    let refused = c.in-Err.ensures.edit c.requires.edit c.move_keeping_place.new.self (λ q. refl, refl) in (
      subst (λ (v : NamesView). (renamed c.args.edit.now v ≡ Err c.in-Err.refusal) ⊎ (c.in-Err.refusal ≡ Memory)) (seen_is c.self.inside.places.items c.self.inside.names c.args.self.now c.self.view_is c.requires.places) refused.0,
      ap (without_kept c.self.inside.places.items) refused.1 ∙ ap (λ (v : HeldView). v.names) c.self.view_is,
    )

pub returns-in-Err-clause-refused : goal.returns-in-Err-clause-refused
returns-in-Err-clause-refused c =
    let refused = c.in-Err.ensures.edit c.requires.edit c.move_keeping_place.new.self (λ q. refl, refl) in
    ap (λ (n : NamesView). record { names = without_kept c.self.inside.places.items n; places = c.self.inside.places.items }) refused.1 ∙ c.self.view_is

pub invariant_of-self-in_default-one : goal.invariant_of-self-in_default-one
invariant_of-self-in_default-one c =
    let home = returned_home c.in-Ok.inverse c.in-Moved.from c.in-Moved.to c.self.inside.names c.move_keeping_place.new.self c.return_to_place.new.self c.in-Moved.is c.in-Ok.ensures.place c.in-Ok.ensures.undo c.return_to_place.ensures.tree c.return_to_place.ensures.refs in
    stays c.self.inside.spare c.self.inside.places.items c.self.inside.names c.return_to_place.new.self home c.self.invariant.0 c.self.invariant.1

pub returns-in_default-one-clause-edit : goal.returns-in_default-one-clause-edit
returns-in_default-one-clause-edit c =
    let home = returned_home c.in-Ok.inverse c.in-Moved.from c.in-Moved.to c.self.inside.names c.move_keeping_place.new.self c.return_to_place.new.self c.in-Moved.is c.in-Ok.ensures.place c.in-Ok.ensures.undo c.return_to_place.ensures.tree c.return_to_place.ensures.refs in
    (inr refl, ap (without_kept c.self.inside.places.items) home ∙ ap (λ (v : HeldView). v.names) c.self.view_is)

pub returns-in_default-one-clause-refused : goal.returns-in_default-one-clause-refused
returns-in_default-one-clause-refused c =
    let home = returned_home c.in-Ok.inverse c.in-Moved.from c.in-Moved.to c.self.inside.names c.move_keeping_place.new.self c.return_to_place.new.self c.in-Moved.is c.in-Ok.ensures.place c.in-Ok.ensures.undo c.return_to_place.ensures.tree c.return_to_place.ensures.refs in
    ap (λ (n : NamesView). record { names = without_kept c.self.inside.places.items n; places = c.self.inside.places.items }) home ∙ c.self.view_is

pub invariant_of-self-2 : goal.invariant_of-self-2
invariant_of-self-2 c =
    (one_place c.in-Ok-one.places.items c.in-Ok.inverse c.in-Moved.from c.in-Moved.to c.in-Moved.from c.move_keeping_place.new.self c.in-Ok-one.ensures c.in-Moved.is refl c.in-Ok.ensures.place, subst (λ o. StandsBy o (without_kept c.in-Ok-one.places.items c.move_keeping_place.new.self)) (sym c.take-spare.ensures.after) tt, tt)

pub returns-clause-edit : goal.returns-clause-edit
returns-clause-edit c =
    ap (renamed c.args.edit.now) (sym (seen_is c.self.inside.places.items c.self.inside.names c.args.self.now c.self.view_is c.requires.places))
    ∙ c.in-Ok.ensures.edit c.requires.edit (without_kept c.in-Ok-one.places.items c.move_keeping_place.new.self) (closed_in c.in-Ok-one.places.items c.in-Ok.inverse c.in-Moved.from c.in-Moved.to c.in-Moved.from c.move_keeping_place.new.self c.in-Ok-one.ensures c.in-Moved.is refl c.in-Ok.ensures.place)

pub returns-clause-back : goal.returns-clause-back
returns-clause-back c =
    let seen = seen_is c.self.inside.places.items c.self.inside.names c.args.self.now c.self.view_is c.requires.places in
    let after = without_kept c.in-Ok-one.places.items c.move_keeping_place.new.self in
    let back = c.in-Ok.ensures.undo after (closed_in c.in-Ok-one.places.items c.in-Ok.inverse c.in-Moved.from c.in-Moved.to c.in-Moved.from c.move_keeping_place.new.self c.in-Ok-one.ensures c.in-Moved.is refl c.in-Ok.ensures.place) in (
      subst (λ (v : NamesView). NamesTakenBack (Tree (Moved c.in-Moved.from c.in-Moved.to)) v after) seen (subst (λ (i : TreeInverse). NamesTakenBack (Tree i) c.self.inside.names after) c.in-Moved.is back),
      subst (λ o. StandsBy o c.args.self.now.names) (sym c.take-spare.ensures.value) (subst (λ (v : HeldView). StandsBy c.self.inside.spare v.names) c.self.view_is c.self.invariant.1),
    )
