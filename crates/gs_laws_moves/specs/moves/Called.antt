-- A client is told where a chunk is in answer to a call that was heard.
use Rattle.std.specs.Prelude.{◌≡◌, ℕ, Contains, List, Some}
use Rattle.std.specs.List.{AllByRecursion}
use Rattle.gs_base.specs.declared.config.Config.{Config}
use Rattle.gs_base.specs.declared.numbers.ReqId.{ReqId}
use Rattle.gs_lease.specs.declared.view.View.{View}
use Rattle.gs_msg.specs.declared.body.Body.TheVariants as bodies
use Rattle.gs_msg.specs.declared.call.Call.{Call}
use Rattle.gs_master_spec.specs.State.{State, Turn}
use Rattle.gs_master_spec.specs.declared.pending.Pending.{Pending}
use Rattle.gs_laws_moves.specs.moves.Guards.{Heard, IsMade}
use Rattle.gs_laws_moves.specs.moves.Locations.{IsLocatedWithin}
use Rattle.gs_laws_moves.specs.moves.Moves.{Chain}

-- each call that waits is one of these
abbrev pub AllWait : (ReqId → Type 0) → State → Type 0
AllWait P s = AllByRecursion (λ (p : Pending). P p.req) s.volatile.pending

-- and so is one that is heard
abbrev pub HearsFor : (ReqId → Type 0) → Heard → Type 0
HearsFor P heard = (from : ℕ) (req : ReqId) (call : Call) → heard ≡ Some (from, bodies.Call req call) → P req

-- Then so is each that a move of a chain tells where a chunk is.
abbrev pub LocatesFor : (ReqId → Type 0) → Type 0
LocatesFor P = (config : Config) (heard : Heard) (s : State) (t : Turn) (caller : ReqId) (chunk : ℕ) (view : View) (epoch : ℕ) → HearsFor P heard → AllWait P s → IsLocatedWithin config (IsMade config heard) s t caller chunk view epoch → P caller

-- So it is where these are calls of a list, whatever they are; and then those that wait behind a chain are calls of it too.
abbrev pub LocatedWereCalled : Type 0
LocatedWereCalled = (calls : List ReqId) → LocatesFor (Contains calls)

abbrev pub WaitingWereHeard : Type 0
WaitingWereHeard = (calls : List ReqId) (config : Config) (heard : Heard) (s : State) (t : Turn) → HearsFor (Contains calls) heard → Chain config (IsMade config heard) s t → AllWait (Contains calls) s → AllWait (Contains calls) t.after
