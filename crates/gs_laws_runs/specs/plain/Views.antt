-- What a store shows, by the account of its run: the plain view.
use Rattle.std.specs.Prelude.{[], ◌≡◌, List, None, Option, Some, refl, slice_get, ℕ}
use Rattle.std.specs.FinMap as fin
use Rattle.gs_edit.specs.Machine.{Plain}
use Rattle.gs_edit.specs.Mapped.{mapped_rows}
use Rattle.gs_edit.specs.View.{NamesView}
use Rattle.gs_laws_plain.specs.commands.Commands.{Texts}
use Rattle.gs_laws_plain.specs.commands.Records.{Telling, kept_in}
use Rattle.gs_master_record.specs.declared.checkpoint.Phase.TheVariants.{Upgrade}
use Rattle.gs_master_spec.specs.Durable.{start}
use Rattle.gs_master_spec.specs.Undoing.{all_undone}
use Rattle.gs_path.specs.Path.{Path}
use Rattle.gs_replica.specs.Stands.{replica_of}
use Rattle.gs_tree.specs.Edits.{chunks_in}
use Rattle.gs_laws_chunks.specs.accounts.Accounts.{Account, first_account, settled_edits, text_of}

-- the text of each chunk that is settled, and the one of the last prepare
abbrev pub texts_of : ℕ → Account → Telling
texts_of size a = record { now = λ chunk. text_of size (settled_edits a chunk); before = λ chunk. text_of size (a.before chunk) }

-- the tree that the records tell, with the settled text of each chunk in its place
abbrev pub plain_tree : ℕ → Account → Texts
plain_tree size a = mapped_rows (texts_of size a).now (fin.entries a.durable.names.tree)

-- While an upgrade stands, and while it is rolled back: the tree to which what takes edits back leads, with the texts of the prepare.
abbrev pub plain_kept : ℕ → Account → Option Texts
plain_kept size a = kept_in (texts_of size a).before a.durable.phase (all_undone a.durable.inverses a.durable.names)

-- so a plain machine is shown, with chunks of this size
abbrev pub plain_view : ℕ → Account → Plain (List ℕ)
plain_view size a = record { tree = plain_tree size a; kept = plain_kept size a }

-- the chunk at a place of a file
abbrev pub chunk_at : Account → Path → ℕ → Option ℕ
chunk_at a p index = slice_get (chunks_in (fin.get a.durable.names.tree p)) index

-- ---- Worked: without an upgrade no tree is kept, and right behind a prepare of chunks without edits the tree that stands is

none_is_kept : (size : ℕ) → plain_kept size (first_account start) ≡ None
none_is_kept size = refl

a_tree_that_was_prepared : (size : ℕ) (names : NamesView) → plain_kept size (first_account (record start { phase = Upgrade; names = names })) ≡ Some (mapped_rows (λ chunk. []) (fin.entries names.tree))
unfolding replica_of
a_tree_that_was_prepared size names = refl
