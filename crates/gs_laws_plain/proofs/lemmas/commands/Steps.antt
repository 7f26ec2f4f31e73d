-- Edits at places, and records behind them.
use Rattle.std.proofs.Common.{◌≡◌, ◌∙◌, ◌++◌, List, [], ◌∷◌, append-nil, refl, ap, ℕ}
use Rattle.std.specs.Prelude.{filter_map}
use Rattle.std.specs.List.{cons_option}
use Rattle.std.proofs.lemmas.List.Elements.{filter_map-append}
use Rattle.gs_path.specs.Path.{Path}
use Rattle.gs_laws_plain.specs.commands.Commands.{Command, but_edit, command_of, command_of_edit, edit_at}
use Rattle.gs_laws_plain.proofs.lemmas.commands.Leading.{then_many}
use Rattle.gs_laws_plain.proofs.lemmas.commands.Placed.{each_place, nothing_else, places_lead}
use Rattle.gs_laws_plain.proofs.lemmas.commands.Records.{records_lead}
use Rattle.gs_laws_plain.specs.commands.Places.{settling_in}
use Rattle.gs_laws_plain.specs.commands.Records.{kept_in, machine_of}
use Rattle.gs_laws_plain.specs.commands.Steps.{StepsLead, telling}
use Rattle.gs_master_record.specs.Plain.{PlainEdit, PlainEntry}
use Rattle.gs_master_record.specs.Plain as entries
use Rattle.gs_master_spec.specs.Undoing.{all_undone}

-- what records say edits no text
edit_kept : (edit : PlainEdit) (commands : List Command) → filter_map but_edit (cons_option (command_of_edit edit) commands) ≡ cons_option (command_of_edit edit) (filter_map but_edit commands)
edit_kept (entries.Mkdirs p) commands = refl
edit_kept (entries.Create p) commands = refl
edit_kept (entries.Rename from to) commands = refl
edit_kept (entries.Hide p moment number) commands = refl
edit_kept (entries.Unhide p) commands = refl
edit_kept (entries.Remove p) commands = refl
edit_kept (entries.AddChunk p chunk) commands = refl
edit_kept (entries.Cow p index old new) commands = refl
edit_kept (entries.Snapshot from to) commands = refl
edit_kept (entries.Forget chunks) commands = refl

kept : (entry : PlainEntry) (commands : List Command) → filter_map but_edit (cons_option (command_of entry) commands) ≡ cons_option (command_of entry) (filter_map but_edit commands)
kept (entries.Edited by edit) commands = edit_kept edit commands
kept (entries.Said to refusal) commands = refl
kept (entries.Propose chunk version) commands = refl
kept (entries.Settle v) commands = refl
kept (entries.Prepare epoch moment chunks) commands = refl
kept (entries.Finalize epoch) commands = refl
kept (entries.RollbackBegin epoch) commands = refl
kept (entries.RollbackCommit epoch answers) commands = refl
kept (entries.Whole c) commands = refl
kept (entries.Holder chunk server) commands = refl

all_kept : (records : List PlainEntry) → filter_map but_edit (filter_map command_of records) ≡ filter_map command_of records
all_kept [] = refl
all_kept (entry ∷ records) = kept entry (filter_map command_of records) ∙ ap (cons_option (command_of entry)) (all_kept records)

edit_elsewhere : (p : Path) (index : ℕ) (edit : PlainEdit) (commands : List Command) → filter_map (edit_at p index) (cons_option (command_of_edit edit) commands) ≡ filter_map (edit_at p index) commands
edit_elsewhere p index (entries.Mkdirs q) commands = refl
edit_elsewhere p index (entries.Create q) commands = refl
edit_elsewhere p index (entries.Rename from to) commands = refl
edit_elsewhere p index (entries.Hide q moment number) commands = refl
edit_elsewhere p index (entries.Unhide q) commands = refl
edit_elsewhere p index (entries.Remove q) commands = refl
edit_elsewhere p index (entries.AddChunk q chunk) commands = refl
edit_elsewhere p index (entries.Cow q place old new) commands = refl
edit_elsewhere p index (entries.Snapshot from to) commands = refl
edit_elsewhere p index (entries.Forget chunks) commands = refl

elsewhere : (p : Path) (index : ℕ) (entry : PlainEntry) (commands : List Command) → filter_map (edit_at p index) (cons_option (command_of entry) commands) ≡ filter_map (edit_at p index) commands
elsewhere p index (entries.Edited by edit) commands = edit_elsewhere p index edit commands
elsewhere p index (entries.Said to refusal) commands = refl
elsewhere p index (entries.Propose chunk version) commands = refl
elsewhere p index (entries.Settle v) commands = refl
elsewhere p index (entries.Prepare epoch moment chunks) commands = refl
elsewhere p index (entries.Finalize epoch) commands = refl
elsewhere p index (entries.RollbackBegin epoch) commands = refl
elsewhere p index (entries.RollbackCommit epoch answers) commands = refl
elsewhere p index (entries.Whole c) commands = refl
elsewhere p index (entries.Holder chunk server) commands = refl

no_edit : (p : Path) (index : ℕ) (records : List PlainEntry) → filter_map (edit_at p index) (filter_map command_of records) ≡ []
no_edit p index [] = refl
no_edit p index (entry ∷ records) = elsewhere p index entry (filter_map command_of records) ∙ no_edit p index records

pub steps_lead : StepsLead
steps_lead size settled more before records d next stands alone written texts replays =
    let after = λ (chunk : ℕ). settled chunk ++ more chunk in
    let tree = kept_in before d.phase (all_undone d.inverses d.names) in
    record {
      commands = settling_in more d.names ++ filter_map command_of records;
      leads =
          then_many size (settling_in more d.names) (filter_map command_of records) (machine_of (telling size settled before) d) (machine_of (telling size after before) d) (places_lead size settled more d.names tree alone)
          ∙ records_lead size (telling size after before) records d next stands written texts replays;
      others = filter_map-append but_edit (settling_in more d.names) (filter_map command_of records) ∙ ap (λ cs. cs ++ filter_map but_edit (filter_map command_of records)) (nothing_else more d.names) ∙ all_kept records;
      edits = λ p index.
          filter_map-append (edit_at p index) (settling_in more d.names) (filter_map command_of records)
          ∙ ap (λ es. filter_map (edit_at p index) (settling_in more d.names) ++ es) (no_edit p index records)
          ∙ append-nil (filter_map (edit_at p index) (settling_in more d.names))
          ∙ each_place more d.names p index;
    }
