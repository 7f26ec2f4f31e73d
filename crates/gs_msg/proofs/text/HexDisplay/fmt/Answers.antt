use Rattle.std.proofs.Common.{rules}
use Rattle.std.proofs.Output.{has_written_append, has_written_of_eq}
use Rattle.gs_msg.proofs.HexTexts.{no_bytes, one_byte_more}
use Rattle.gs_msg.proofs.text.HexDisplay.fmt.Goals as goal

pub loop-byte-init : goal.loop-byte-init
loop-byte-init g c = λ plain. has_written_of_eq _ _ _ _ _ no_bytes (search rules)

pub loop-byte-preserved : goal.loop-byte-preserved
loop-byte-preserved g c = λ plain.
    has_written_of_eq _ _ _ _ _ (one_byte_more _ c.loop-byte.byte-index (search rules))
    (has_written_append _ _ _ _ _ _ (c.loop-byte.invariant plain) (search rules))
