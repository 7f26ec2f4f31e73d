use Rattle.std.proofs.Common.{◌≡◌, ◌++◌, map}
use Rattle.gs_master_record.specs.Plain.{plain_reply}
use Rattle.gs_master_spec.specs.Whole.{reply_of}
use Rattle.gs_master_state.proofs.recorded.Recorded.kept_replies.Given as goal

abbrev pub invariant-loop-client : goal.invariant-loop-client
invariant-loop-client l = map plain_reply l.replies.items ++ map reply_of l.client-iterator ≡ map reply_of l.initial.client-iterator
