-- What a snapshot comes to, by the names that stand, is what the plain tree answers to it.
use Rattle.std.proofs.Common.{◌≡◌, ◌⊎◌, inl, inr, ◌∙◌, ℕ, Bool, true, false, List, refl, sym, ap, subst}
use Rattle.std.specs.Prelude.{Option, Some, Result, Ok, Err, if◌then◌else◌}
use Rattle.std.specs.FinMap as fin
use Rattle.gs_base.specs.Refusals.{number_of}
use Rattle.gs_base.specs.declared.refusal.Refusal.{Refusal}
use Rattle.gs_base.specs.declared.refusal.Refusal.TheVariants as refusals
use Rattle.gs_edit.proofs.Payloads.{snapshot_rows-map}
use Rattle.gs_edit.specs.Edits.{counted, with_counts}
use Rattle.gs_edit.specs.Mapped.{mapped_edit, mapped_rows}
use Rattle.gs_edit.specs.Names.{IsCounted}
use Rattle.gs_edit.specs.Plain.{snapshot_rows}
use Rattle.gs_edit.specs.View.{NamesView}
use Rattle.gs_edit.specs.declared.edit.Edit.TheVariants as edits
use Rattle.gs_msg.specs.declared.answer.Answer.{Answer}
use Rattle.gs_msg.specs.declared.answer.Answer.TheVariants as answers
use Rattle.gs_msg.specs.declared.call.Call.TheVariants as calls
use Rattle.gs_path.specs.Path.{Path}
use Rattle.gs_refs.specs.Counts.{Counts}
use Rattle.gs_tree.specs.Find.{Rows}
use Rattle.gs_laws_plain.specs.commands.Answers.{answered, is_of_store, is_refused_by_store}
use Rattle.gs_laws_plain.specs.commands.Commands.{Texts}
use Rattle.gs_master_record.specs.Plain.{Snapshot}
use Rattle.gs_master_spec.specs.Calls.{is_any_deep, is_any_hidden}
use Rattle.gs_master_spec.specs.Undoing.{edited_names, names_from}
use Rattle.gs_laws_plain.proofs.lemmas.replies.Raised.{source_refused}
use Rattle.gs_laws_plain.specs.replies.Waited.{IsPlainBy}

-- what comes of names: an answer, or why there is none
abbrev pub come_to : Result NamesView Refusal → Result Answer Refusal
come_to (Ok names) = Ok answers.Nothing
come_to (Err refusal) = Err refusal

-- ---- by the rows

abbrev AsAnswered : Result Answer Refusal → Result Texts Refusal → Type 0
AsAnswered result texts = (is_refused_by_store result ≡ true) ⊎ (result ≡ answered answers.Nothing texts)

told : (text : ℕ → List ℕ) (rows : Result (Rows ℕ) Refusal) (refs : Result Counts Refusal) → ((e : Refusal) → refs ≡ Err e → is_of_store (number_of e) ≡ true) → AsAnswered (come_to (names_from (with_counts rows refs))) (mapped_edit text rows)
told text (Err e) refs counts = inr refl
told text (Ok new) (Err e) counts = inl (counts e refl)
told text (Ok new) (Ok refs) counts = inr refl

by_rows : (names : NamesView) (from to : Path) (text : ℕ → List ℕ) → IsCounted names → AsAnswered (come_to (edited_names (Snapshot from to) names)) (snapshot_rows (mapped_rows text (fin.entries names.tree)) from to)
unfolding edited_names
by_rows names from to text has =
    subst (AsAnswered (come_to (edited_names (Snapshot from to) names))) (sym (snapshot_rows-map text (fin.entries names.tree) from to))
    (told text (snapshot_rows (fin.entries names.tree) from to) (counted (edits.Snapshot from to) (fin.entries names.tree) names.refs) (λ e h. source_refused names from e has h))

-- ---- so the plain tree answers, where nothing deep and nothing hidden is named

-- of a snapshot, at each moment
abbrev pub IsPlainCopy : Path → Path → NamesView → Result Answer Refusal → Type 0
IsPlainCopy from to names result = is_any_deep (calls.Snapshot from to) ≡ false → is_any_hidden (calls.Snapshot from to) ≡ false → (moment number : ℕ) → IsPlainBy names moment number (calls.Snapshot from to) result

plain_is : {a b : Result Answer Refusal} → ◌≡◌ {A = Option (Result Answer Refusal)} (Some a) (Some b) → a ≡ b
plain_is h = cc

pub copies_plainly : (from to : Path) (names : NamesView) (r : Result NamesView Refusal) → edited_names (Snapshot from to) names ≡ r → IsPlainCopy from to names (come_to r)
copies_plainly from to names r is shallow visible moment number text plain has said = by_rows_is (subst (λ x. AsAnswered (come_to x) (snapshot_rows (mapped_rows text (fin.entries names.tree)) from to)) is (by_rows names from to text has))
  where
    its : Result Answer Refusal
    its = answered answers.Nothing (snapshot_rows (mapped_rows text (fin.entries names.tree)) from to)

    tried : Bool → Bool → Option (Result Answer Refusal)
    tried deep hidden = Some (if deep then Err refusals.BadPath else if hidden then Err refusals.HiddenName else its)

    plainly : plain ≡ its
    plainly = sym (plain_is (sym (ap (λ b. tried b (is_any_hidden (calls.Snapshot from to))) shallow ∙ ap (tried false) visible) ∙ said))

    by_rows_is : AsAnswered (come_to r) (snapshot_rows (mapped_rows text (fin.entries names.tree)) from to) → (is_refused_by_store (come_to r) ≡ true) ⊎ (come_to r ≡ plain)
    by_rows_is (inl refused) = inl refused
    by_rows_is (inr same) = inr (same ∙ sym plainly)

-- and a refusal by the store is right for each
pub refused_plainly : (from to : Path) (names : NamesView) (refusal : Refusal) → is_refused_by_store (Err refusal) ≡ true → IsPlainCopy from to names (Err refusal)
refused_plainly from to names refusal is shallow visible moment number text plain has said = inl is
