use Rattle.std.proofs.Common.{take}
use Rattle.std.specs.Fmt.{HasWritten, IsPlainFormatter}
use Rattle.gs_base.specs.Texts.{behind_commas}
use Rattle.gs_msg.proofs.text.write_list.Given as goal

abbrev pub invariant-loop-item : goal.invariant-loop-item
invariant-loop-item g l =
    IsPlainFormatter l.initial.f → HasWritten g.W.Write.write_str_gives l.initial.f (behind_commas g.T.Item.text (take l.item-index l.rest)) l.f
