-- What an edit that was asked for comes to.
use Rattle.std.proofs.Common.{◌≡◌, ◌∙◌, ◌+◌, ℕ, Bool, cond, false, true, List, [], length, nat_lt, refl, sym, ap, subst, arith}
use Rattle.std.specs.Prelude.{MatchBool, nat_le}
use Rattle.std.proofs.lemmas.Bool.Decides.{nat_tests}
use Rattle.gs_laws_chunk.proofs.lemmas.machine.Lists.{nil_list}
use Rattle.gs_laws_lift.specs.stores.Owning.{IsNumberedOp}
use Rattle.gs_msg.specs.Ops.{in_replica, length_of}
use Rattle.gs_msg.specs.declared.op.Op.{Op}
use Rattle.gs_msg.specs.declared.op.Op.TheVariants as ops
use Rattle.gs_replica.specs.Stands.{Edit, outcome_at}
use Rattle.gs_replica.specs.declared.op.EditOutcome.{EditOutcome}
use Rattle.gs_replica.specs.declared.op.EditOutcome.TheVariants as outcomes
use Rattle.gs_replica.specs.declared.op.Op.TheVariants as applied
use Rattle.gs_laws_chunks.specs.accounts.Outcomes.{ComesTo, EditsComeTo}

fits_not : (size many : ℕ) → nat_lt size many ≡ true → nat_le many size ≡ false
fits_not size many is = grind (arith, nat_tests)

fits_so : (size many : ℕ) → nat_lt size many ≡ false → nat_le many size ≡ true
fits_so size many is = grind (arith, nat_tests)

module _ (size : ℕ) (text : List ℕ) (edit : Edit) (outcome : EditOutcome) (told : outcome ≡ outcome_at edit.op (length text)) where
  abbrev IsAppended : ℕ → Type 0
  IsAppended many = (edit.op ≡ applied.Append) × (length edit.bytes ≡ many) × (outcome ≡ outcomes.Appended (length text))

  abbrev IsPadded : Type 0
  IsPadded = (edit.op ≡ applied.Pad) × (edit.bytes ≡ []) × (outcome ≡ outcomes.Padded)

  padded : edit.op ≡ applied.Pad → length edit.bytes ≡ 0 → IsPadded
  padded is none = (is, nil_list edit.bytes none, told ∙ ap (λ op. outcome_at op (length text)) is)

  by_fit : (many : ℕ) (b : Bool) → nat_lt size (length text + many) ≡ b → edit.op ≡ in_replica (cond b ops.Pad (ops.Append many)) → length edit.bytes ≡ length_of (cond b ops.Pad (ops.Append many)) → MatchBool (nat_le (length text + many) size) (IsAppended many) IsPadded
  by_fit many true test is long = subst (λ b. MatchBool b (IsAppended many) IsPadded) (sym (fits_not size (length text + many) test)) (padded is long)
  by_fit many false test is long = subst (λ b. MatchBool b (IsAppended many) IsPadded) (sym (fits_so size (length text + many) test)) (is, long, told ∙ ap (λ op. outcome_at op (length text)) is)

  comes_to : (op : Op) → IsNumberedOp size (length text) op edit → ComesTo size text op edit outcome
  comes_to (ops.Write offset many) n = (n.is, n.long, told ∙ ap (λ op. outcome_at op (length text)) n.is)
  comes_to (ops.Append many) n = by_fit many (nat_lt size (length text + many)) refl n.is n.long
  comes_to ops.Pad n = padded n.is n.long

pub edits_come_to : EditsComeTo
edits_come_to size sent chunk req stamp before edit outcome asked told message op was says =
    let n = (asked.asked message chunk stamp op was says).2 in
    (n.short, comes_to size _ edit outcome told op n)
