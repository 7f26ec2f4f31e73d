-- Runs with their accounts are such runs.
use Rattle.gs_world.specs.Histories.{History}
use Rattle.gs_laws_chunks.specs.accounts.Accounts.{Account}
use Rattle.gs_laws_chunks.specs.accounts.Running.{IsReached, Setup}
use Rattle.gs_laws_chunks.specs.calls.Asked.{HasRun}

-- A store that is reached, with its account, has come there by such a run.
abbrev pub ReachedHaveRun : {D : Type 0} → Setup D → Type 0
ReachedHaveRun {D} x = (now : History D) (a : Account) → IsReached x now a → HasRun x.seen x.failures x.armed now
