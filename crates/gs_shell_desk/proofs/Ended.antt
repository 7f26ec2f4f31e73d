-- What an event comes to, where it is done.
use Rattle.std.proofs.Common.{◌≡◌, Ok, Result, subst, sym}
use Rattle.gs_base.specs.declared.refusal.Refusal.{Refusal}
use Rattle.gs_master.specs.declared.turn.Turn.{Turn}
use Rattle.gs_nodes.specs.Happenings.{met_by}
use Rattle.gs_shell_desk.specs.Ways.{Ends, SendsAll, Way, noted}

pub ends_done : {D : Type 0} (done : Result Turn Refusal) (turn : Turn) (old mid new : Way D) (result : Result (Unit {0}) Refusal) → done ≡ Ok turn → SendsAll turn.sent.items old mid
    → new ≡ noted turn.said mid → result ≡ met_by turn.said → Ends done old result new
ends_done done turn old mid new result is sends notes says = subst (λ d. Ends d old result new) (sym is) (mid, sends, notes, says)
