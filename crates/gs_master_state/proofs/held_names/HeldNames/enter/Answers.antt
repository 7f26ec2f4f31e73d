use Rattle.std.proofs.Common.{◌≡◌, ◌∙◌, true, false, refl, subst, sym}
use Rattle.std.specs.Prelude.{IfOk}
use Rattle.gs_edit.specs.Places.{is_move}
use Rattle.gs_edit.specs.declared.edit.Edit.{Edit}
use Rattle.gs_edit.specs.declared.edit.Edit.TheVariants as edits
use Rattle.gs_path.specs.Path.{Path}
use Rattle.gs_master_record.specs.Plain.{plain_edit}
use Rattle.gs_master_state.specs.inner.TakingBack.{is_kept, is_made_in_place, wants_copy}
use Rattle.gs_master_state.proofs.held_names.HeldNames.enter.Goals as goal

-- what is neither a removal nor a move, and isn't taken back without memory, wants a copy
copies_else : (edit : Edit) → ((p : Path) → edit ≡ edits.Remove p → ⊥) → is_move edit ≡ false → is_made_in_place (plain_edit edit) ≡ false → wants_copy (plain_edit edit) ≡ true
copies_else (edits.Mkdirs p) other stays memory = absurd (cc)
copies_else (edits.Create p) other stays memory = absurd (cc)
copies_else (edits.Rename from to) other stays memory = absurd (cc)
copies_else (edits.Hide p moment number) other stays memory = absurd (cc)
copies_else (edits.Unhide p) other stays memory = absurd (cc)
copies_else (edits.Remove p) other stays memory = absurd (other p refl)
copies_else (edits.AddChunk p chunk) other stays memory = absurd (cc)
copies_else (edits.Cow p index old new) other stays memory = absurd (cc)
copies_else (edits.Snapshot from to) other stays memory = refl
copies_else (edits.Forget chunks) other stays memory = refl

pub returns-then-is_move-clause-copies : goal.returns-then-is_move-clause-copies
returns-then-is_move-clause-copies c = λ none. subst (λ b. IfOk c.enter_move.result (λ before. is_kept before ≡ b)) (sym (c.is_move.ensures.copies c.if-is_move.true)) c.enter_move.ensures.kept

pub returns-then-not-is_made_in_place-clause-copies : goal.returns-then-not-is_made_in_place-clause-copies
returns-then-not-is_made_in_place-clause-copies c = λ none.
    subst (λ b. IfOk c.enter_on_copy-then-not-is_made_in_place.result (λ before. is_kept before ≡ b))
    (sym (copies_else c.args.edit.now c.in_default.not-Remove (sym c.is_move.ensures.moves ∙ c.if-is_move.false) (sym c.is_made_in_place.ensures.value ∙ c.if-not-is_made_in_place.true))) c.enter_on_copy-then-not-is_made_in_place.ensures.kept
