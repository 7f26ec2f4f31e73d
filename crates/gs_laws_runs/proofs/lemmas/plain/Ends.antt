-- Which commands of a step begin an upgrade, and end one.
use Rattle.std.proofs.Common.{◌≡◌, ◌∙◌, ◌&&◌, ℕ, true, false, List, [], ◌∷◌, refl, sym, ap}
use Rattle.std.specs.Prelude.{filter_map, Some}
use Rattle.std.specs.List.{list_all}
use Rattle.std.proofs.lemmas.Bool.{and_parts, false≢true, true≢false}
use Rattle.gs_base.specs.declared.epoch.EpochEnd.TheVariants as ends
use Rattle.gs_base.specs.declared.numbers.ReqId.{ReqId}
use Rattle.gs_laws_master.proofs.lemmas.upgrades.Beginnings.{fits_gives}
use Rattle.gs_laws_master.specs.Promises.{IsKept}
use Rattle.gs_laws_plain.proofs.lemmas.commands.Records.{SamePhase}
use Rattle.gs_edit.specs.Machine.{restored}
use Rattle.gs_laws_plain.specs.commands.Commands.{Command, Finalize, Prepare, Rollback, Texts, but_edit, command_of}
use Rattle.gs_master_record.specs.Plain.{Edited, PlainEdit, PlainEntry}
use Rattle.gs_master_record.specs.Plain as entries
use Rattle.gs_master_record.specs.declared.checkpoint.Phase.{Phase}
use Rattle.gs_master_record.specs.declared.checkpoint.Phase.TheVariants.{Ordinary, Rolling, Upgrade}
use Rattle.gs_master_record.specs.declared.entry.Answered.{Answered}
use Rattle.gs_master_spec.specs.Applied.{applied, is_next_epoch, with_epoch, without_prepared}
use Rattle.gs_master_spec.specs.Durable.{Durable, is_ordinary, is_rolling, is_upgrade}
use Rattle.gs_laws_chunks.specs.accounts.Accounts.{Account}
use Rattle.gs_laws_runs.proofs.lemmas.plain.Shapes.{commit_is_back, finalize_ends, none_begins, none_is_back, prepare_begins}
use Rattle.gs_laws_runs.specs.plain.Ends.{EndsAs, edits_only}
use Rattle.gs_laws_runs.specs.plain.Stepping.{is_within}
use Rattle.gs_laws_runs.specs.plain.Views.{plain_view}

-- ---- lists

-- edits of texts are edits
but_texts : (commands : List Command) → list_all edits_only (filter_map but_edit commands) ≡ list_all edits_only commands
but_texts [] = refl
but_texts (command ∷ commands) = by_command command (but_texts commands)
  where
    by_command : (c : Command) → list_all edits_only (filter_map but_edit commands) ≡ list_all edits_only commands → list_all edits_only (filter_map but_edit (c ∷ commands)) ≡ list_all edits_only (c ∷ commands)
    by_command Prepare rest = refl
    by_command Finalize rest = refl
    by_command Rollback rest = refl
    by_command c rest = rest

-- records within an epoch say edits
within_edits : (records : List PlainEntry) → list_all is_within records ≡ true → list_all edits_only (filter_map command_of records) ≡ true
within_edits [] all = refl
within_edits (entry ∷ records) all = (let parts = and_parts (is_within entry) (list_all is_within records) all in by_entry entry parts.0 (within_edits records parts.1))
  where
    by_edit : (by : ReqId) (edit : PlainEdit) → list_all edits_only (filter_map command_of records) ≡ true → list_all edits_only (filter_map command_of (Edited by edit ∷ records)) ≡ true
    by_edit by (entries.Cow path index before after) rest = rest
    by_edit by edit rest = rest

    by_entry : (e : PlainEntry) → is_within e ≡ true → list_all edits_only (filter_map command_of records) ≡ true → list_all edits_only (filter_map command_of (e ∷ records)) ≡ true
    by_entry (entries.Edited by edit) is rest = by_edit by edit rest
    by_entry (entries.Prepare epoch moment chunks) is rest = absurd (false≢true is)
    by_entry (entries.Finalize epoch) is rest = absurd (false≢true is)
    by_entry (entries.RollbackCommit epoch answers) is rest = absurd (false≢true is)
    by_entry e is rest = rest

-- ---- phases

upgraded : (phase : Phase) → is_upgrade phase ≡ true → is_ordinary phase ≡ false
upgraded Ordinary h = absurd (false≢true h)
upgraded Upgrade h = refl
upgraded Rolling h = absurd (false≢true h)

rolled : (phase : Phase) → is_rolling phase ≡ true → is_ordinary phase ≡ false
rolled Ordinary h = absurd (false≢true h)
rolled Upgrade h = absurd (false≢true h)
rolled Rolling h = refl

finalized_phases : (d e : Durable) (epoch : ℕ) → applied d (entries.Finalize epoch) ≡ Some e → (is_ordinary d.phase ≡ false) × (is_ordinary e.phase ≡ true)
unfolding applied
finalized_phases d e epoch fit =
    let is = fits_gives (is_upgrade d.phase && is_next_epoch d.epoch epoch) (without_prepared (with_epoch d ends.Finalize Ordinary)) e fit in
    (upgraded d.phase (and_parts (is_upgrade d.phase) (is_next_epoch d.epoch epoch) is.0).0, ap (λ (x : Durable). is_ordinary x.phase) (sym is.1))

-- ---- a step

module _ (size : ℕ) (a b : Account) (commands : List Command) where
  abbrev d : Durable
  d = a.durable

  abbrev e : Durable
  e = b.durable

  pub within_ends : SamePhase d e → (records : List PlainEntry) → list_all is_within records ≡ true → filter_map but_edit commands ≡ filter_map command_of records → EndsAs size a b commands
  within_ends same records within others = record {
    begins = λ is. absurd (true≢false (sym is ∙ none_begins d e same));
    keeps = λ is. absurd (true≢false (sym is ∙ none_begins d e same));
    back = λ is. absurd (true≢false (sym is ∙ none_is_back d e same));
    restores = λ is. absurd (true≢false (sym is ∙ none_is_back d e same));
    within = λ stays. sym (but_texts commands) ∙ ap (list_all edits_only) others ∙ within_edits records within;
  }

  pub prepare_ends : (epoch moment chunks : ℕ) → applied d (entries.Prepare epoch moment chunks) ≡ Some e → filter_map but_edit commands ≡ Prepare ∷ [] → (plain_view size b).kept ≡ Some (plain_view size b).tree → EndsAs size a b commands
  prepare_ends epoch moment chunks fit others kept =
      let begins = prepare_begins d e epoch moment chunks fit in
      record {
        begins = λ is. others;
        keeps = λ is. kept;
        back = λ is. absurd (true≢false (sym is ∙ begins.1));
        restores = λ is. absurd (true≢false (sym is ∙ begins.1));
        within = λ same. absurd (true≢false (sym begins.0 ∙ none_begins d e same));
      }

  pub finalize_ends_as : (epoch : ℕ) → applied d (entries.Finalize epoch) ≡ Some e → EndsAs size a b commands
  finalize_ends_as epoch fit =
      let phases = finalized_phases d e epoch fit in
      let none = ap (λ t. t && is_upgrade e.phase) phases.0 in
      record {
        begins = λ is. absurd (false≢true (sym none ∙ is));
        keeps = λ is. absurd (false≢true (sym none ∙ is));
        back = λ is. absurd (true≢false (sym is ∙ finalize_ends d e epoch fit));
        restores = λ is. absurd (true≢false (sym is ∙ finalize_ends d e epoch fit));
        within = λ same. absurd (true≢false (sym phases.1 ∙ same ∙ phases.0));
      }

  pub commit_ends : (epoch : ℕ) (answers : List Answered) → IsKept d → applied d (entries.RollbackCommit epoch answers) ≡ Some e → filter_map but_edit commands ≡ Rollback ∷ []
      → (kept : Texts) × ((plain_view size a).kept ≡ Some kept) × (plain_view size b ≡ restored (plain_view size a) kept) → EndsAs size a b commands
  commit_ends epoch answers kept fit others restores =
      let back = commit_is_back d e epoch answers kept fit in
      let none = ap (λ t. t && is_upgrade e.phase) (rolled d.phase (and_parts (is_rolling d.phase) (is_ordinary e.phase) back).0) in
      record {
        begins = λ is. absurd (false≢true (sym none ∙ is));
        keeps = λ is. absurd (false≢true (sym none ∙ is));
        back = λ is. others;
        restores = λ is. restores;
        within = λ same. absurd (true≢false (sym back ∙ none_is_back d e same));
      }
