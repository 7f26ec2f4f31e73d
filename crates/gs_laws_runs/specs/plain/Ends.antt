-- Which commands of a step begin an upgrade, and end one.
use Rattle.std.specs.Prelude.{[], ◌∷◌, ◌≡◌, Bool, List, Some, codes, false, filter_map, refl, true, ℕ}
use Rattle.std.specs.List.{list_all}
use Rattle.gs_edit.specs.Machine.{first, restored}
use Rattle.gs_laws_moves.specs.moves.Epochs.{prepares, rolls_back}
use Rattle.gs_laws_plain.specs.commands.Commands.{Command, Finalize, Mkdirs, Prepare, Rollback, Texts, all_commanded, but_edit}
use Rattle.gs_master_spec.specs.Durable.{is_ordinary}
use Rattle.gs_path.specs.Path.{Path}
use Rattle.gs_laws_chunks.specs.accounts.Accounts.{Account}
use Rattle.gs_laws_runs.specs.plain.Views.{plain_view}

-- one that edits the names or a text: it neither keeps a tree, nor forgets one, nor puts one back
abbrev pub edits_only : Command → Bool
edits_only Prepare = false
edits_only Finalize = false
edits_only Rollback = false
edits_only command = true

-- Where an upgrade is prepared the one command that edits no text keeps the tree, and the tree that stands behind the step is kept. Where its rollback is committed it puts that back: what stands behind the step is
-- the tree that was kept. Where none begins or ends all commands edit.
pub record EndsAs (size : ℕ) (a b : Account) (commands : List Command) : Type 0 where
  pub begins : prepares a.durable b.durable ≡ true → filter_map but_edit commands ≡ Prepare ∷ []
  pub keeps : prepares a.durable b.durable ≡ true → (plain_view size b).kept ≡ Some (plain_view size b).tree
  pub back : rolls_back a.durable b.durable ≡ true → filter_map but_edit commands ≡ Rollback ∷ []
  pub restores : rolls_back a.durable b.durable ≡ true → (kept : Texts) × ((plain_view size a).kept ≡ Some kept) × (plain_view size b ≡ restored (plain_view size a) kept)
  pub within : is_ordinary b.durable.phase ≡ is_ordinary a.durable.phase → list_all edits_only commands ≡ true

-- ---- Worked

abbrev one : Path
one = codes "a" ∷ []

abbrev other : Path
other = codes "b" ∷ []

a_rollback_leads_back_to_the_prepare : (size : ℕ) → all_commanded size (Mkdirs one ∷ Prepare ∷ Mkdirs other ∷ Rollback ∷ []) first ≡ all_commanded size (Mkdirs one ∷ []) first
a_rollback_leads_back_to_the_prepare size = refl

what_a_prepare_keeps_is_no_edit : edits_only Prepare ≡ false
what_a_prepare_keeps_is_no_edit = refl
