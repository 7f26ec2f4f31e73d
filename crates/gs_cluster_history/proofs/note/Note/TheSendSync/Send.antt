use denote.Param.Send.{IsSend, sendable}
use Rattle.std.proofs.Crossing.{crosses}
use Rattle.gs_cluster_history.specs.contracts.note.Note.{the_row}

pub send : IsSend the_row
send = search (sendable, crosses) depth 60 fits 100000
