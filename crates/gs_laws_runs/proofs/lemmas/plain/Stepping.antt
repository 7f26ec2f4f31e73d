-- A step leads from plain view to plain view.
use Rattle.std.proofs.Common.{◌≡◌, ◌∙◌, map, refl, ap, ℕ}
use Rattle.std.specs.Prelude.{Ok, Option, None, Some}
use Rattle.std.specs.FinMap as fin
use Rattle.gs_laws_plain.proofs.lemmas.commands.Placed.{same_rows}
use Rattle.gs_laws_plain.proofs.lemmas.commands.Steps.{steps_lead}
use Rattle.gs_laws_plain.specs.commands.Commands.{Texts}
use Rattle.gs_laws_plain.specs.commands.Places.{edits_of, op_of}
use Rattle.gs_laws_plain.specs.commands.Records.{kept_in, texts_behind_all}
use Rattle.gs_master_spec.specs.Undoing.{all_undone}
use Rattle.gs_laws_chunks.specs.accounts.Accounts.{Account, settled_edits, text_of}
use Rattle.gs_laws_runs.specs.plain.Settling.{newly_settled, settled_at}
use Rattle.gs_laws_runs.specs.plain.Stepping.{StepsOfAccountsLead, texts_between}
use Rattle.gs_laws_runs.specs.plain.Views.{chunk_at, plain_tree, texts_of}

same_edits : (a b : Account) (o : Option ℕ) → edits_of (newly_settled a b) o ≡ settled_at a b o
same_edits a b None = refl
same_edits a b (Some chunk) = refl

pub steps_of_accounts : StepsOfAccountsLead
steps_of_accounts size a b records goes =
    let steps = steps_lead size (settled_edits a) (newly_settled a b) (λ chunk. text_of size (a.before chunk)) records a.durable b.durable goes.stands goes.alone goes.written goes.keep goes.replays in
    let behind = texts_behind_all records (texts_between size a b) in
    record {
      commands = steps.commands;
      leads =
          steps.leads
          ∙ ap (λ (rs : Texts). Ok (record { tree = rs; kept = kept_in behind.before b.durable.phase (all_undone b.durable.inverses b.durable.names) })) (same_rows behind.now (texts_of size b).now (fin.entries b.durable.names.tree) goes.texts)
          ∙ ap (λ (k : Option Texts). Ok (record { tree = plain_tree size b; kept = k })) goes.kept;
      others = steps.others;
      edits = λ p index. steps.edits p index ∙ ap (map op_of) (same_edits a b (chunk_at a p index));
    }
