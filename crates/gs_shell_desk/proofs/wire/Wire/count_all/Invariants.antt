use Rattle.std.proofs.Common.{◌≡◌, drop}
use Rattle.std.specs.Prelude.{fold}
use Rattle.gs_shell_desk.specs.Ways.{counted, way_of}
use Rattle.gs_shell_desk.proofs.wire.Wire.count_all.Given as goal

abbrev pub invariant-loop-message : goal.invariant-loop-message
invariant-loop-message g l =
    fold (λ way message. counted message way) (way_of l.self) (drop l.message-index l.sent) ≡ fold (λ way message. counted message way) (way_of l.initial.self) l.sent
