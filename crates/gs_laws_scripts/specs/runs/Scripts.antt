-- What a script leaves is a store that is reached, with an account.
use Rattle.std.specs.Prelude.{◌≡◌, ℕ, Bool, List, [], true, false}
use Rattle.gs_base.specs.declared.config.Config.{Config}
use Rattle.gs_block.specs.Written.{TellsApart}
use Rattle.gs_shell_desk.specs.Ways.{way_of}
use Rattle.gs_shell_desk.specs.declared.desk.Desk.{Desk}
use Rattle.gs_journal.specs.Records.{fresh, standing}
use Rattle.gs_laws_chunks.specs.desks.Reached.{history}
use Rattle.gs_laws_world.specs.steady.Unarmed.{unarmed}
use Rattle.gs_laws_world.specs.steady.Saying.{RunsQuietly}
use Rattle.gs_laws_chunks.specs.desks.Within.{IsReachedWithin}
use Rattle.gs_laws_chunks.specs.accounts.Accounts.{Account}
use Rattle.gs_laws_chunks.specs.accounts.Among.{AreAlways, AreEver}
use Rattle.gs_laws_chunks.specs.accounts.Running.{IsReached, Setup}

-- the store of a script: over these disks, with one client, and no failure of a disk arranged; they may fail by themselves, or none does
abbrev pub setup_of : {D : Type 0} → (D → List ℕ) → (D → ℕ) → Config → D × D → (List ℕ → Bool) → Bool → Setup D
setup_of seen failures config disks among fails = record { seen = seen; failures = failures; armed = unarmed; config = config; clients = 1; disks = disks; among = among; fails = fails }

-- A script over disks that said nothing, in no step of which one failed, leaves such a store; where different blocks that its servers ever had have different digests.
abbrev pub EachScriptIsReached : Type 0 → Type 0
EachScriptIsReached D = (seen : D → List ℕ) (failures : D → ℕ) (config : Config) (disks : D × D) (desk : Desk D) (r : IsReachedWithin seen failures config disks desk) → standing (seen disks.0) (seen disks.1) ≡ fresh
    → (runs : RunsQuietly seen failures unarmed r.reached.steps r.reached.begun (history r.sent (way_of desk.wire))) (among : List ℕ → Bool) → among [] ≡ true → TellsApart among → AreAlways seen failures among r.reached.steps r.reached.begun (history r.sent (way_of desk.wire)) runs
    → (a : Account) × IsReached (setup_of seen failures config disks among false) (history r.sent (way_of desk.wire)) a

-- So does one in whose steps disks have failed, as often as they may.
abbrev pub AnyScriptIsReached : Type 0 → Type 0
AnyScriptIsReached D = (seen : D → List ℕ) (failures : D → ℕ) (config : Config) (disks : D × D) (desk : Desk D) (r : IsReachedWithin seen failures config disks desk) → standing (seen disks.0) (seen disks.1) ≡ fresh
    → (among : List ℕ → Bool) → among [] ≡ true → TellsApart among → AreEver seen failures among r.reached.steps r.reached.begun (history r.sent (way_of desk.wire)) r.reached.runs
    → (a : Account) × IsReached (setup_of seen failures config disks among true) (history r.sent (way_of desk.wire)) a
