use Rattle.std.proofs.Common.{◌≡◌, ℕ, List, ◌++◌, length}
use Rattle.std.specs.Fmt.{HasWritten, IsPlainFormatter}
use Rattle.std.specs.Prelude.{decimal}
use Rattle.gs_base.specs.Texts.{behind_commas}
use Rattle.gs_base.proofs.members.MembersDisplay.fmt.Given as goal

-- what is written, and what is still to be
abbrev pub invariant-loop-server : goal.invariant-loop-server
invariant-loop-server g l =
    IsPlainFormatter l.initial.f
    → (written : List ℕ) × HasWritten g.W.Write.write_str_gives l.initial.f written l.f × (written ++ behind_commas decimal l.left ≡ behind_commas decimal l.initial.left)

abbrev pub decreases-loop-server : goal.decreases-loop-server
decreases-loop-server g l = length l.left
