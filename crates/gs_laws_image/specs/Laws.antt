-- What the laws of a store that goes on from its image say.
use Rattle.std.specs.Prelude.{◌≡◌, ◌≤◌, ◌∷◌, ℕ, true, List, [], length}
use Rattle.gs_base.specs.declared.config.Config.{Config}
use Rattle.gs_desk_image.specs.Desks.{AreAlike, Rests, is_closed, is_resting, store_of}
use Rattle.gs_journal.specs.Memory.{bytes_of, times_failed}
use Rattle.gs_journal.specs.declared.memory.MemoryDisk.{MemoryDisk}
use Rattle.gs_laws_scripts.specs.answers.Plain.{PlainDesk, answers_all, begins}
use Rattle.gs_parts_image.specs.Writable.{IsStore, IsStoreTold}
use Rattle.gs_shell_desk.specs.Answering.{AnswersText}
use Rattle.gs_shell_desk.specs.Starting.{Starts}
use Rattle.gs_shell_desk.specs.declared.desk.Desk.{Desk}
use Rattle.gs_shell_script.specs.Run.{Runs}
use Rattle.gs_laws_image.specs.Going.{AreRestarts, AreSameButDisks, GoesOnAs, IsClosedOf, IsReadOfImage, IsRestart, WentOn}
use Rattle.gs_laws_image.specs.Slots.{AreRestarted, AreServersOf}

-- A new store, over empty disks, goes on as the new store without disks.
abbrev pub NewStoresGoOn : Type 0 → Type 0
NewStoresGoOn D = (seen : D → List ℕ) (failures : D → ℕ) (config : Config) (disks : D × D) (desk : Desk D) → seen disks.0 ≡ [] → seen disks.1 ≡ []
    → Starts seen failures config disks desk → GoesOnAs seen failures config desk (begins config)

-- Lines lead on from it: they are answered as there, and it goes on as that goes on behind them.
abbrev pub LinesGoOn : Type 0 → Type 0
LinesGoOn D = (seen : D → List ℕ) (failures : D → ℕ) (config : Config) (lines texts : List (List ℕ)) (old new : Desk D) (w : PlainDesk)
    → GoesOnAs seen failures config old w → Runs (AnswersText seen failures) old lines texts new → WentOn failures old texts new
    → (texts ≡ (answers_all lines w).0) × GoesOnAs seen failures config new (answers_all lines w).1

-- So it is of a desk that is alike to one that was closed. A restart of the master, and then any lines, are answered as from where that was
-- closed.
abbrev pub ImagesGoOn : Type 0
ImagesGoOn = (config : Config) (line : List ℕ) (lines texts : List (List ℕ)) (d c e new : Desk MemoryDisk) (w : PlainDesk)
    → GoesOnAs bytes_of times_failed config d w → IsClosedOf d c → AreAlike c e → is_closed e.wire.nodes.master ≡ true → IsRestart line
    → Runs (AnswersText bytes_of times_failed) e (line ∷ lines) texts new → WentOn times_failed e texts new
    → (texts ≡ (answers_all (line ∷ lines) w).0) × GoesOnAs bytes_of times_failed config new (answers_all (line ∷ lines) w).1

-- So the desk that was closed goes on itself, as if it had never been.
abbrev pub ClosedDesksGoOn : Type 0
ClosedDesksGoOn = (config : Config) (line : List ℕ) (lines texts : List (List ℕ)) (d c new : Desk MemoryDisk) (w : PlainDesk)
    → GoesOnAs bytes_of times_failed config d w → IsClosedOf d c → IsRestart line → Runs (AnswersText bytes_of times_failed) c (line ∷ lines) texts new → WentOn times_failed c texts new
    → (texts ≡ (answers_all (line ∷ lines) w).0) × GoesOnAs bytes_of times_failed config new (answers_all (line ∷ lines) w).1

-- Two desks that go on as the same answer the same lines alike, and are the same behind them but for their disks.
abbrev pub GoOnAlike : Type 0 → Type 0 → Type 0
GoOnAlike D E = (seen : D → List ℕ) (failures : D → ℕ) (other_seen : E → List ℕ) (other_failures : E → ℕ) (config : Config) (lines texts others : List (List ℕ))
    (d new : Desk D) (e other : Desk E) (w : PlainDesk) → GoesOnAs seen failures config d w → GoesOnAs other_seen other_failures config e w
    → Runs (AnswersText seen failures) d lines texts new → WentOn failures d texts new
    → Runs (AnswersText other_seen other_failures) e lines others other → WentOn other_failures e others other
    → (texts ≡ others) × AreSameButDisks new other

-- So where one desk was closed, and another was read of its image: they answer a restart of the master, and then any lines, alike.
abbrev pub ImagesGoOnAlike : Type 0
ImagesGoOnAlike = (config : Config) (line : List ℕ) (lines texts others : List (List ℕ)) (d new c e other : Desk MemoryDisk) (w : PlainDesk)
    → GoesOnAs bytes_of times_failed config d w → IsClosedOf d c → AreAlike c e → is_closed e.wire.nodes.master ≡ true → IsRestart line
    → Runs (AnswersText bytes_of times_failed) d (line ∷ lines) texts new → WentOn times_failed d texts new
    → Runs (AnswersText bytes_of times_failed) e (line ∷ lines) others other → WentOn times_failed e others other
    → (texts ≡ others) × AreSameButDisks new other

-- ---- an image that is read

-- A desk whose disks were closed rests where it waits for nothing. Each waits so of which an image is written.
abbrev pub ClosedDesksRest : Type 0 → Type 0
ClosedDesksRest D = (seen : D → List ℕ) (failures : D → ℕ) (config : Config) (d c : Desk D) (w : PlainDesk) → GoesOnAs seen failures config d w → IsClosedOf d c
    → is_resting c ≡ true → Rests c

-- A desk that is read of an image is alike to the one that was closed, if the store is one that is read again.
abbrev pub ReadDesksAreAlike : Type 0
ReadDesksAreAlike = (config : Config) (d e : Desk MemoryDisk) (w : PlainDesk) → GoesOnAs bytes_of times_failed config d w → (r : IsReadOfImage d e) → IsStore (store_of r.closed)
    → AreAlike r.closed e × (is_closed e.wire.nodes.master ≡ true)

-- So a desk goes on from its image as from where it was closed.
abbrev pub StoresGoOnFromImages : Type 0
StoresGoOnFromImages = (config : Config) (line : List ℕ) (lines texts others : List (List ℕ)) (d new e other : Desk MemoryDisk) (w : PlainDesk)
    → GoesOnAs bytes_of times_failed config d w → (r : IsReadOfImage d e) → IsStore (store_of r.closed) → IsRestart line
    → Runs (AnswersText bytes_of times_failed) d (line ∷ lines) texts new → WentOn times_failed d texts new
    → Runs (AnswersText bytes_of times_failed) e (line ∷ lines) others other → WentOn times_failed e others other
    → (texts ≡ others) × AreSameButDisks new other

-- Lines that restart each server leave nothing for a restart to drop.
abbrev pub RestartsDropAll : Type 0 → Type 0
RestartsDropAll D = (seen : D → List ℕ) (failures : D → ℕ) (config : Config) (lines texts : List (List ℕ)) (old new : Desk D) (w : PlainDesk)
    → GoesOnAs seen failures config old w → Runs (AnswersText seen failures) old lines texts new → WentOn failures old texts new
    → AreRestarts 0 lines → config.servers ≤ length lines → AreRestarted new.wire.nodes.servers.items

-- Each server of a store that goes on is one of its sizes, and so is each of its slots.
abbrev pub ServersAreOfTheirStore : Type 0 → Type 0
ServersAreOfTheirStore D = (seen : D → List ℕ) (failures : D → ℕ) (config : Config) (d : Desk D) (w : PlainDesk) → GoesOnAs seen failures config d w
    → AreServersOf config.block config.chunk 0 d.wire.nodes.servers.items × (length d.wire.nodes.servers.items ≡ config.servers)

-- The store that an image tells of is one that is read again, if it can be written and each of its servers is restarted. It is said of a desk in memory.
abbrev pub IsHeldAgain : Desk MemoryDisk → Type 0
IsHeldAgain c = (config : Config) (d : Desk MemoryDisk) (w : PlainDesk) → GoesOnAs bytes_of times_failed config d w → IsClosedOf d c → AreRestarted c.wire.nodes.servers.items
    → IsStoreTold (store_of c) → IsStore (store_of c)
