-- A new store shows the plain machine that has done nothing.
use Rattle.std.proofs.Common.{◌≡◌, ◌∙◌, ℕ, List, Bool, true, false, ap, subst, sym}
use Rattle.std.specs.Prelude.{MatchBool, None}
use Rattle.std.specs.FinMap as fin
use Rattle.std.specs.FinMap.Entries.{same_entries}
use Rattle.gs_edit.proofs.Tables.{paths_antisymmetric}
use Rattle.gs_edit.specs.Machine.{Plain}
use Rattle.gs_edit.specs.Mapped.{mapped_rows}
use Rattle.gs_edit.specs.Names.{blank}
use Rattle.gs_edit.specs.Table.{root_rows}
use Rattle.gs_journal.specs.Records.{standing}
use Rattle.gs_master_spec.specs.Durable.{Durable, start}
use Rattle.gs_master_spec.specs.State.{State, is_failed}
use Rattle.gs_nodes.specs.declared.place.MasterPlace.{MasterPlace}
use Rattle.gs_path.specs.Path.{path_cmp, path_total}
use Rattle.gs_tree.specs.Find.{Rows}
use Rattle.gs_laws_world.specs.lasting.Lasting.{IsToldIn, OpensAs}
use Rattle.gs_laws_chunks.specs.accounts.Accounts.{first_account}
use Rattle.gs_laws_chunks.specs.accounts.Running.{IsToldAt, Setup}
use Rattle.gs_laws_lift.proofs.lemmas.stores.Beginning.{begins_told}
use Rattle.gs_laws_runs.specs.plain.Plainly.{BeginsPlain}
use Rattle.gs_laws_runs.specs.plain.Views.{plain_view, texts_of}

rows_of_blank : fin.entries blank.tree ≡ root_rows
rows_of_blank =
    same_entries path_cmp path_total paths_antisymmetric (fin.entries blank.tree) root_rows (fin.entries_sorted blank.tree) tt
    (λ q. sym (fin.get-entries blank.tree q) ∙ fin.get-from_entries path_total root_rows q)

-- what is told of a master that has opened on nothing
pub opens_as_start : {D : Type 0} (seen : D → List ℕ) (place : MasterPlace D) (d : Durable) → OpensAs seen start place → IsToldAt seen place d → d ≡ start
opens_as_start seen place d (after, is, stood, firm) told = each (is_failed after.state.fault) firm.sound (subst (λ p. IsToldAt seen p d) is told) ∙ ap (λ (s : State). s.durable) stood
  where
    each : (failed : Bool) → failed ≡ false → MatchBool failed (IsToldIn (standing (seen after.journal.first) (seen after.journal.second)) d) (d ≡ after.state.durable) → d ≡ after.state.durable
    each true h p = absurd (cc)
    each false h p = p

pub begins_plain : {D : Type 0} (x : Setup D) → BeginsPlain x
begins_plain {D} x begun a new = ap (plain_view x.config.chunk) (new.account ∙ ap first_account from_start) ∙ ap (λ (rows : Rows ℕ). shows rows) rows_of_blank
  where
    shows : Rows ℕ → Plain (List ℕ)
    shows rows = record { tree = mapped_rows (texts_of x.config.chunk (first_account start)).now rows; kept = None }

    from_start : a.durable ≡ start
    from_start = opens_as_start x.seen begun.nodes.master a.durable (begins_told x.seen x.failures x.armed x.config x.clients x.disks begun new.given.new new.begins) new.told
