-- What is seen of all chunks behind each run of a store, whatever disks of the master fail: once one has, of the master what the disks tell.
use Rattle.std.specs.Prelude.{ℕ, List}
use Rattle.gs_world.specs.Histories.{History}
use Rattle.gs_world.specs.Runs.{Step}
use Rattle.gs_laws_parts.specs.server.Requests.{Asked, bytes_in}
use Rattle.gs_laws_world.specs.steady.Saying.{KeepsTypes}
use Rattle.gs_laws_world.specs.steady.Through.{LastsThrough}
use Rattle.gs_laws_lift.specs.stores.Asking.{AreAskedIn}
use Rattle.gs_laws_lift.specs.stores.Left.{left_in}
use Rattle.gs_laws_lift.specs.stores.LeftRunning.{RunsLasting}
use Rattle.gs_laws_chunks.specs.accounts.Accounts.{Account}
use Rattle.gs_laws_chunks.specs.accounts.Seeing.{Sees, SeesOn}
use Rattle.gs_laws_chunks.specs.accounts.Running.{IsReached, Runs, Setup}

module _ {D : Type 0} (x : Setup D) where
  -- Behind each run the master stands, or one of which a disk has failed, or its disks wait: so that they tell what one may stand on that is started again. All that was sent
  -- keeps to its types, and what is left of the master lasts behind each step.
  pub record StaysThrough (steps : List Step) (old new : History D) : Type 0 where
    pub lasts : LastsThrough x.seen new.nodes.master
    pub types : KeepsTypes new
    pub runs : RunsLasting x.seen x.failures x.armed steps old new

  abbrev pub ReachedStayThrough : Type 0
  ReachedStayThrough = (now : History D) (a : Account) (r : IsReached x now a) → StaysThrough r.steps r.begun now

  -- For what clients have asked each chunk is seen behind each run,
  abbrev pub EachIsSeenThrough : Type 0
  EachIsSeenThrough = (now : History D) (a : Account) → IsReached x now a → (asked : ℕ → Asked) × AreAskedIn asked now × Sees x asked (left_in now) a

  -- and in two worlds of a run.
  pub record SeesBothThrough (now : History D) (a : Account) (later : History D) (b : Account) : Type 0 where
    pub asked : ℕ → Asked
    pub are : AreAskedIn asked later
    pub first : Sees x asked (left_in now) a
    pub last : Sees x asked (left_in later) b
    pub on : (chunk : ℕ) → SeesOn x (bytes_in asked) chunk (left_in now) a (left_in later) b (first.lives.life chunk) (last.lives.life chunk)

  abbrev pub EachSeesOnThrough : Type 0
  EachSeesOnThrough = (now later : History D) (a b : Account) (steps : List Step) → IsReached x now a → Runs x steps now a later b → SeesBothThrough now a later b
