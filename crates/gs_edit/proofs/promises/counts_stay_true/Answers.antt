use Rattle.gs_edit.proofs.Occurring.{blank_counted, stays_counted, undo_counted}
use Rattle.gs_edit.proofs.promises.counts_stay_true.Goals as goal

pub returns-clause-begin : goal.returns-clause-begin
returns-clause-begin c = blank_counted

pub returns-clause-edit : goal.returns-clause-edit
returns-clause-edit c inverse old new taken counted = stays_counted inverse old new taken counted

pub returns-clause-undo : goal.returns-clause-undo
returns-clause-undo c inverse old new result undone counted = undo_counted inverse old new result undone counted
