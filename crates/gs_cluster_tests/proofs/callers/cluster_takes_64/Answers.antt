use denote.Exit.{no}
use denote.Param.Send.{arg_send, param_send}
use Rattle.gs_cluster_tests.proofs.Sending.{memory_disk_row}
use Rattle.gs_cluster_tests.proofs.callers.cluster_takes_64.Goals as goal

pub finish-requires-send-D : goal.finish-requires-send-D
finish-requires-send-D g c κs within = param_send 1 _ (arg_send _ no _ memory_disk_row)
