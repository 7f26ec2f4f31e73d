-- What the code names the parts of a body by.
use Rattle.std.specs.Prelude.{ℕ, Bool}
use Rattle.gs_journal.specs.Reading.{Part, byte, text}
use Rattle.gs_journal.specs.Bodies.{is_server, is_primary, is_refusal, is_outcome, is_flag, is_phase, is_end_of_epoch, tree_entry, settled_entry, reply, prepared_view}
use Rattle.gs_journal.specs.declared.form.Test.{Test}
use Rattle.gs_journal.specs.declared.form.Test.TheVariants as tests
use Rattle.gs_journal.specs.declared.form.Listed.{Listed}
use Rattle.gs_journal.specs.declared.form.Listed.TheVariants as items

abbrev pub passes : Test → ℕ → Bool
passes tests.Server = is_server
passes tests.Primary = is_primary
passes tests.Refusal = is_refusal
passes tests.Outcome = is_outcome
passes tests.Flag = is_flag
passes tests.Phase = is_phase
passes tests.EndOfEpoch = is_end_of_epoch

abbrev pub part_of : Listed → Part
part_of items.Text = text
part_of items.EndOfEpoch = byte is_end_of_epoch
part_of items.TreeEntry = tree_entry
part_of items.SettledEntry = settled_entry
part_of items.Reply = reply
part_of (items.PreparedView version) = prepared_view version
