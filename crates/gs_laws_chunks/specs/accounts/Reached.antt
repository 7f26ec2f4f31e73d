-- The chunks of a store behind each run of it, and what its clients have asked and were told.
use Rattle.gs_laws_lift.specs.stores.Left.{left_in}
use Rattle.std.specs.Prelude.{◌≡◌, ℕ, List, false}
use Rattle.gs_world.specs.Histories.{History}
use Rattle.gs_world.specs.Runs.{Step}
use Rattle.gs_laws_parts.specs.server.Requests.{Asked, bytes_in}
use Rattle.gs_laws_lift.specs.stores.Asking.{AreAskedIn}
use Rattle.gs_laws_lift.specs.stores.Living.{LeadsOn, StoreLives}
use Rattle.gs_laws_lift.specs.stores.Telling.{StoreTells}
use Rattle.gs_laws_chunks.specs.accounts.Accounts.{Account}
use Rattle.gs_laws_chunks.specs.accounts.Running.{IsReached, Runs, Setup}

module _ {D : Type 0} (x : Setup D) where
  -- Each chunk of a store is not born yet, or a machine of it that is reached from its birth shows the store: its servers, its master, and all that was ever sent. So it is for what
  -- clients have asked: each request under a number of its own, with its one edit. What they were told done is done in the machines.
  pub record Shows (asked : ℕ → Asked) (now : History D) : Type 0 where
    pub lives : StoreLives x.seen x.config (bytes_in asked) x.among now
    pub tells : StoreTells x.seen x.config (bytes_in asked) asked x.among now lives

  -- So it is behind each run in which no disk of the master fails,
  abbrev pub EachIsARun : Type 0
  EachIsARun = x.fails ≡ false → (now : History D) (a : Account) → IsReached x now a → (asked : ℕ → Asked) × AreAskedIn asked now × Shows asked now

  -- and in two worlds of a run, for what clients have asked in the later one: each chunk that lives in the first leads on to the later one, from the same birth.
  pub record ShowsOn (now later : History D) : Type 0 where
    pub asked : ℕ → Asked
    pub are : AreAskedIn asked later
    pub first : Shows asked now
    pub last : Shows asked later
    pub leads : (chunk : ℕ) → LeadsOn x.seen x.config (bytes_in asked) chunk now later (first.lives.life chunk) (last.lives.life chunk)

  abbrev pub EachLeadsOn : Type 0
  EachLeadsOn = x.fails ≡ false → (now later : History D) (a b : Account) (steps : List Step) → IsReached x now a → Runs x steps now a later b → ShowsOn now later

  -- So it is whatever disks of it fail: of the store as it is left, once one has.
  abbrev pub EachIsARunThrough : Type 0
  EachIsARunThrough = (now : History D) (a : Account) → IsReached x now a → (asked : ℕ → Asked) × AreAskedIn asked now × Shows asked (left_in now)

  pub record ShowsOnThrough (now later : History D) : Type 0 where
    pub asked : ℕ → Asked
    pub are : AreAskedIn asked later
    pub first : Shows asked (left_in now)
    pub last : Shows asked (left_in later)
    pub leads : (chunk : ℕ) → LeadsOn x.seen x.config (bytes_in asked) chunk (left_in now) (left_in later) (first.lives.life chunk) (last.lives.life chunk)

  abbrev pub EachLeadsOnThrough : Type 0
  EachLeadsOnThrough = (now later : History D) (a b : Account) (steps : List Step) → IsReached x now a → Runs x steps now a later b → ShowsOnThrough now later
