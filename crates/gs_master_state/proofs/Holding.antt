-- Names that stand by follow the edits of others.
use Rattle.std.proofs.Common.{◌≡◌, ◌⊎◌, ◌∙◌, inl, inr, ap, subst, sym}
use Rattle.std.specs.Prelude.{◌≢◌, Option, Some, None, Result, Ok, Err, IfOk, unwrap_or}
use Rattle.std.specs.FinMap as fin
use Rattle.gs_base.specs.declared.refusal.Refusal.{Refusal}
use Rattle.gs_base.specs.declared.refusal.Refusal.TheVariants.{Memory}
use Rattle.gs_edit.specs.Edits.{renamed}
use Rattle.gs_edit.specs.Names.{MovesNames, NamesTakenBack, Undoes}
use Rattle.gs_edit.specs.View.{NamesView, names_of}
use Rattle.gs_edit.specs.declared.edit.Edit.{Edit}
use Rattle.gs_edit.specs.declared.edit.Inverse.{Inverse}
use Rattle.gs_edit.specs.declared.edit.Inverse.TheVariants as inverses
use Rattle.gs_path.specs.Path.{Path, path_total}
use Rattle.gs_master_record.specs.Plain.{plain_edit}
use Rattle.gs_master_state.specs.inner.Held.{IsLedBy, StandsBy}
use Rattle.gs_master_state.specs.inner.TakingBack.{AreNamesBefore}
use Rattle.gs_master_state.specs.declared.undo.Following.{Following}
use Rattle.gs_master_state.specs.declared.undo.Following.TheVariants.{Move}
use Rattle.gs_master_state.specs.declared.undo.NamesBefore.{NamesBefore}
use Rattle.gs_master_state.specs.inner.Trying.{refusal_of}
use Rattle.gs_tree.specs.Edits.{moved}
use Rattle.gs_tree.specs.declared.inverse.TreeInverse.TheVariants.{Moved}
use Rattle.gs_tree.proofs.Laws.{moved-moved}
use Rattle.gs_master_spec.specs.Undoing.{edited_names}
use Rattle.gs_master_state.proofs.Edits.{names_after, names_refused}

abbrev ok_or : NamesView → Result NamesView Refusal → NamesView
ok_or names (Ok made) = made
ok_or names (Err refusal) = names

-- the same edit of equal names comes to equal ones
pub follows : (edit : Edit) (held : Option NamesView) (spare new before after : NamesView) → held ≡ Some spare → StandsBy held before
    → renamed edit spare ≡ Ok (fin.entries new.tree, new.refs) → edited_names (plain_edit edit) before ≡ Ok after → new ≡ after
follows edit held spare new before after is stands made edited =
    ap (ok_or new) (sym (names_after edit spare new made) ∙ ap (edited_names (plain_edit edit)) same ∙ edited)
  where
    same : spare ≡ before
    same = subst (λ o. StandsBy o before) is stands

-- what two trees and counts agree on is equal
pub same_names : (one two : NamesView) → ((q : Path) → fin.get one.tree q ≡ fin.get two.tree q) → one.refs ≡ two.refs → one ≡ two
same_names one two rows refs = λ i. names_of (tree i) (refs i)
  where
    tree : one.tree ≡ two.tree
    tree = fin.same_map path_total (fin.slice_cmp-IsAntisymmetric (fin.slice_cmp-IsAntisymmetric fin.nat_cmp-IsAntisymmetric)) _ _ rows

-- what is undone is what stood
pub undone_gives : (inverse : Inverse) (stood old new : NamesView) → Undoes inverse old (Ok tt) new → NamesTakenBack inverse stood old → new ≡ stood
undone_gives inverse stood old new undoes back = same_names new stood (λ q. undoes.1 q ∙ back.tree q) (ap (λ o. unwrap_or o stood.refs) (sym undoes.2 ∙ back.refs))

-- what is moved is what a move leads to
pub move_leads : (from to : Path) (old new after : NamesView) → MovesNames from to old (Ok new) → IsLedBy (Move from to) old after → new ≡ after
move_leads from to old new after moves led = same_names new after (λ q. moves.1 q ∙ led.0 q) (moves.2 ∙ led.1)

-- a move leads to where it is taken back from
pub moved_again : (from to : Path) (before after : NamesView) → NamesTakenBack (inverses.Tree (Moved from to)) before after → IsLedBy (Move from to) before after
moved_again from to before after back =
    (λ q. ap (λ m. moved from to m q) (λ i p. sym (back.tree p) i) ∙ moved-moved (fin.get after.tree) to from back.fits.2 q, ap (λ o. unwrap_or o after.refs) (sym back.refs))

-- why an edit is refused, but for want of memory
pub refused_by : (edit : Edit) (old : NamesView) (refusal : Refusal) → (renamed edit old ≡ Err refusal) ⊎ (refusal ≡ Memory) → refusal ≢ Memory
    → Some refusal ≡ refusal_of (edited_names (plain_edit edit) old)
refused_by edit old refusal (inl refused) other = ap refusal_of (sym (names_refused edit old refusal refused))
refused_by edit old refusal (inr memory) other = absurd (other memory)

pub none_refuses : (edit : Edit) (old new : NamesView) → renamed edit old ≡ Ok (fin.entries new.tree, new.refs) → None ≡ refusal_of (edited_names (plain_edit edit) old)
none_refuses edit old new made = ap refusal_of (sym (names_after edit old new made))

pub refused_told : (edit : Edit) (old : NamesView) (refusal : Refusal) (result : Result (Option Refusal) Refusal) → (renamed edit old ≡ Err refusal) ⊎ (refusal ≡ Memory)
    → IfOk result (λ told. (told ≡ Some refusal) × (refusal ≢ Memory)) → IfOk result (λ told. told ≡ refusal_of (edited_names (plain_edit edit) old))
refused_told edit old refusal (Ok told) why is = is.0 ∙ refused_by edit old refusal why is.1
refused_told edit old refusal (Err e) why is = tt

-- names that were exchanged for others stood before the edit that led to these
pub stood_before : (before : NamesBefore) (following : Following) (old stood new now : NamesView) → IsLedBy following old new → stood ≡ old
    → (IsLedBy following stood new → AreNamesBefore before stood new) → now ≡ new → AreNamesBefore before old now
stood_before before following old stood new now led stood_is back now_is =
    subst (λ n. AreNamesBefore before old n) (sym now_is) (subst (λ s. AreNamesBefore before s new) stood_is (back (subst (λ s. IsLedBy following s new) (sym stood_is) led)))

-- an edit of a copy leads on from the names that are equal to it
pub copy_led : (following copy : Following) (inverse : Inverse) (edit : Edit) (old spare new : NamesView)
    → ((b a : NamesView) → edited_names (plain_edit edit) b ≡ Ok a → IsLedBy copy b a) → ((b a : NamesView) → IsLedBy copy b a → NamesTakenBack inverse b a → IsLedBy following b a)
    → spare ≡ old → renamed edit spare ≡ Ok (fin.entries new.tree, new.refs) → NamesTakenBack inverse spare new → IsLedBy following old new
copy_led following copy inverse edit old spare new copied follows same made back =
    subst (λ s. IsLedBy following s new) same (follows spare new (copied spare new (names_after edit spare new made)) back)
