use denote.Exit.{no}
use denote.Param.Send.{arg_send, param_send}
use Rattle.gs_cluster_tests.proofs.Sending.{memory_disk_row}
use Rattle.gs_cluster_tests.proofs.callers.four_write.Goals as goal

pub finish_whole-requires-send-D : goal.finish_whole-requires-send-D
finish_whole-requires-send-D g c κs within = param_send 1 _ (arg_send _ no _ memory_disk_row)
