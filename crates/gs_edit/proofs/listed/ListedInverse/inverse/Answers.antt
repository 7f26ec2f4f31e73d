use Rattle.std.proofs.Common.{◌≡◌, true, refl, sym, ◌∙◌, subst}
use Rattle.gs_edit.specs.Listed.{is_listed, IsMadeOfList}
use Rattle.gs_edit.specs.declared.edit.Inverse.TheVariants as inverses
use Rattle.gs_edit.specs.declared.listed.ListedInverse.{ListedInverse}
use Rattle.gs_edit.proofs.listed.ListedInverse.inverse.Goals as goal

pub returns-in_ok-from_slice-in-Forget : goal.returns-in_ok-from_slice-in-Forget
returns-in_ok-from_slice-in-Forget c =
    let copy = c.in_ok-from_slice-in-Forget.field-0 in
    subst (λ (l : ListedInverse). (is_listed l ≡ true) × IsMadeOfList l (inverses.Remember copy)) (sym c.in-Forget.is) (refl, (copy, (refl, sym (c.in_ok-from_slice-in-Forget.ensures.items ∙ c.deref-in-Forget.ensures.value))))
