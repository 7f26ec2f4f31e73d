-- What scripts of lines of the tree and of an upgrade are answered.
use Rattle.std.specs.Prelude.{[], ◌++◌, ◌∷◌, ◌≡◌, ◌≢◌, List, Option, Some, take, true, ℕ}
use Rattle.std.specs.List.{AllByRecursion}
use Rattle.gs_base.specs.Refusals.{refusal_text}
use Rattle.gs_base.specs.declared.config.Config.{Config}
use Rattle.gs_base.specs.declared.refusal.Refusal.TheVariants as refusals
use Rattle.gs_shell.specs.Serving.{Serves, StopsServing}
use Rattle.gs_shell_script.specs.Run.{lines_of}
use Rattle.gs_shell_script.specs.declared.RunFault.TheVariants as fault
use Rattle.gs_laws_scripts.specs.answers.Meeting.{WentWell}
use Rattle.gs_laws_scripts.specs.plain.Machines.{is_plain_line, machine_answers, new_machine}

-- the store has room for the answer, and its counters have values left
abbrev pub HasRoom : List ℕ → Type 0
HasRoom text = (text ≢ refusal_text refusals.Full) × (text ≢ refusal_text refusals.Exhausted)

-- What so many of these lines are answered, if they are all of the tree and of an upgrade and each answer has room: what the plain machine answers. What the lines behind them are, and are answered, is nothing to it.
abbrev pub ArePlain : List (List ℕ) → List (List ℕ) → Type 0
ArePlain all texts = (many : ℕ) → AllByRecursion (λ whole. is_plain_line whole ≡ true) (take many all) → AllByRecursion HasRoom (take many texts) → take many texts ≡ machine_answers (take many all) new_machine

-- So the program answers a script over empty disks, where memory isn't wanting and no disk fails; and where there are no more lines, that is all that is written.
abbrev pub ScriptsArePlain : {D : Type 0} → (D → List ℕ) → (D → ℕ) → Config → D × D → Type 0
ScriptsArePlain seen failures config disks = (input : List ℕ) (old new : Option (List ℕ)) (s : Serves seen failures config disks input old new) → WentWell seen failures disks s.writes.texts s.ended → ArePlain (lines_of input) s.writes.texts

-- And so it answers where a read of the script fails, those of its lines that were read before.
abbrev pub ArePlainUntilAReadFails : {D : Type 0} → (D → List ℕ) → (D → ℕ) → Config → D × D → Type 0
ArePlainUntilAReadFails seen failures config disks = (input : List ℕ) (left old new : Option (List ℕ)) (s : StopsServing seen failures config disks fault.Read (Some input) left old new) → WentWell seen failures disks s.fails.written.texts s.ended
    → ArePlain s.fails.lines s.fails.written.texts

-- Where a write of an answer fails, so it answers the lines whose answers were written before, and these with the line of that answer, which is made though no more than a beginning of it is written.
abbrev pub ArePlainUntilAWriteFails : {D : Type 0} → (D → List ℕ) → (D → ℕ) → Config → D × D → Type 0
ArePlainUntilAWriteFails seen failures config disks = (input : List ℕ) (left old new : Option (List ℕ)) (s : StopsServing seen failures config disks fault.Write (Some input) left old new) → (WentWell seen failures disks s.fails.written.texts s.fails.before → ArePlain s.fails.lines s.fails.written.texts)
    × (WentWell seen failures disks (s.fails.written.texts ++ s.fails.text ∷ []) s.ended → ArePlain (s.fails.lines ++ s.fails.line ∷ []) (s.fails.written.texts ++ s.fails.text ∷ []))
