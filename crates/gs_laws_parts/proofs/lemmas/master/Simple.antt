-- Simple moves, one by one.
use Rattle.std.proofs.Common.{true, false}
use Rattle.std.proofs.lemmas.Bool.{false≢true}
use Rattle.gs_laws_moves.specs.moves.Moves.{Answers, BeginsRollback, Finalizes, Flags, Hears, Restores, Says, Sends, TellsRollback, Waits}
use Rattle.gs_laws_parts.specs.master.Laws.{SimpleMovesFollow}
use Rattle.gs_laws_parts.proofs.lemmas.master.Epochs.{finalize_follows, rollback_follows}
use Rattle.gs_laws_parts.proofs.lemmas.master.Hearing.{hears_follows, sends_follows}
use Rattle.gs_laws_parts.proofs.lemmas.master.Moving.{answer_follows, flags_follows, restores_follows, says_follows, tells_rollback_follows, waits_follows}

pub simple_moves_follow : SimpleMovesFollow
simple_moves_follow born chunk whole config heard s (Says messages) w simple k was made = says_follows born chunk whole config heard s w k was messages made simple
simple_moves_follow born chunk whole config heard s (Hears q asking) w simple k was made = hears_follows born chunk whole config heard s w k was q asking made
simple_moves_follow born chunk whole config heard s (Sends q asking source target) w simple k was made = sends_follows born chunk whole config heard s w k was q asking source target made
simple_moves_follow born chunk whole config heard s (Waits req waiting) w simple k was made = waits_follows born chunk whole config heard s w k was req waiting made
simple_moves_follow born chunk whole config heard s (Restores server chunks) w simple k was made = restores_follows born chunk whole config heard s w k was server chunks made
simple_moves_follow born chunk whole config heard s (Flags req preparing epoch) w simple k was made = flags_follows born chunk whole config heard s w k was req preparing epoch made
simple_moves_follow born chunk whole config heard s (TellsRollback req epoch) w simple k was made = tells_rollback_follows born chunk whole config heard s w k was req epoch made
simple_moves_follow born chunk whole config heard s (Answers req answer false) w simple k was made = answer_follows born chunk whole config heard s w k was req answer made
simple_moves_follow born chunk whole config heard s (Answers req answer true) w simple k was made = absurd (false≢true simple)
simple_moves_follow born chunk whole config heard s (Finalizes req) w simple k was made = finalize_follows born chunk whole config heard s w k was req made
simple_moves_follow born chunk whole config heard s BeginsRollback w simple k was made = rollback_follows born chunk whole config heard s w k was made
simple_moves_follow born chunk whole config heard s move w simple k was made = absurd (false≢true simple)
