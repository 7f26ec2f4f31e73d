-- What holds between two lines while nothing is asked that changes something, of the names, the numbers of deletions, the moment and the phase alone; and lines that only look at these, or are about nodes.
use Rattle.std.proofs.Common.{inl, inr}
use Rattle.std.specs.Prelude.{[], ◌∷◌, ◌≡◌, ◌⊎◌, Bool, List, None, Ok, Option, Some, codes, false, length, refl, true, ℕ}
use Rattle.std.specs.Char.{encode_utf8}
use Rattle.std.specs.FinMap as fin
use Rattle.std.specs.Fmt.{digits}
use Rattle.std.specs.Str.{chars, is_utf8}
use Rattle.gs_base.specs.Told.{IsNumber}
use Rattle.gs_base.specs.declared.config.Config.{Config}
use Rattle.gs_base.specs.declared.numbers.ClientId.{ClientId}
use Rattle.gs_client.specs.declared.reading.Stat.TheVariants as stats
use Rattle.gs_edit.specs.Mapped.{mapped_rows}
use Rattle.gs_journal.specs.Records.{fresh, standing}
use Rattle.gs_master_spec.specs.Durable.{Durable}
use Rattle.gs_master_spec.specs.Calls.{told_phase}
use Rattle.gs_msg.specs.declared.answer.Phase.{Phase}
use Rattle.gs_msg.specs.declared.answer.Phase.TheVariants as phases
use Rattle.gs_shell_calls.specs.Texts.{answer_text}
use Rattle.gs_shell_calls.specs.declared.answer.Answer.TheVariants as answers
use Rattle.gs_shell_desk.specs.Answering.{AnswersText}
use Rattle.gs_shell_desk.specs.Lines.{Comes}
use Rattle.gs_shell_desk.specs.Ways.{way_of}
use Rattle.gs_shell_desk.specs.declared.desk.Desk.{Desk}
use Rattle.gs_shell_grammar.specs.Grammar.{Request, lose_line, number_line, one_word, three_words, two_words, upgrade_line}
use Rattle.gs_shell_grammar.specs.Grammar as lines
use Rattle.gs_shell_grammar.specs.declared.command.Restarted.TheVariants as restarted
use Rattle.gs_shell_grammar.specs.declared.command.Upgrade.TheVariants as upgrades
use Rattle.gs_shell_script.specs.Run.{Runs}
use Rattle.gs_world.specs.Histories.{History}
use Rattle.gs_world.specs.Sent.{Sent}
use Rattle.gs_laws_chunks.specs.answers.Asked.{AreAsked}
use Rattle.gs_laws_chunks.specs.answers.Calm.{IsCalmAt}
use Rattle.gs_laws_chunks.specs.answers.OfTree.{AreSparing}
use Rattle.gs_laws_chunks.specs.answers.Replied.{AreReplied}
use Rattle.gs_laws_chunks.specs.answers.Resting.{IsStill}
use Rattle.gs_laws_chunks.specs.answers.Served.{AreServed}
use Rattle.gs_laws_chunks.specs.desks.Reached.{Covers, history}
use Rattle.gs_laws_chunks.specs.desks.Within.{IsReachedWithin}
use Rattle.gs_laws_world.specs.steady.Saying.{KeepsTypes}
use Rattle.gs_laws_world.specs.steady.Through.{LastsThrough}
use Rattle.gs_laws_scripts.specs.answers.Meeting.{IsClientOf}
use Rattle.gs_laws_scripts.specs.explained.Lines.{Explains}
use Rattle.gs_laws_scripts.specs.explained.Machine.{Machine, Text}
use Rattle.gs_laws_scripts.specs.lists.Lines.{commits_prepare, commits_rollback}
use Rattle.gs_laws_scripts.specs.plain.Machines.{asked_in}

-- the one client of a script's store
abbrev pub the_client : ClientId
the_client = record { 0 = 1 }

-- ---- what stands

-- The names are these, and stand while nothing is asked but look-ups: no call waits, and all that was called before has a number that the client has had. And of each reply there its client has asked, and of all that servers do for it; what the client has as its reply was sent to it; no server has refused by what the tree refuses by; no prepare is begun; all keeps to its types, the master lasts, and there is one client.
pub record IsUndisturbed {D : Type 0} (seen : D → List ℕ) (d : Durable) (number : ℕ) (h : History D) : Type 0 where
  pub still : IsStill d the_client number h
  pub asked : AreAsked seen h
  pub types : KeepsTypes h
  pub lasts : LastsThrough seen h.nodes.master
  pub served : AreServed h
  pub replied : AreReplied h
  pub sparing : AreSparing h
  pub calm : IsCalmAt h.nodes.master
  pub one : length h.nodes.clients ≡ 1

-- The number of the next deletion is that of the store, as long as that has one left.
abbrev pub IsNumberOf : ℕ → ℕ → Type 0
IsNumberOf shown number = (shown ≡ number) ⊎ (number ≡ 0)

-- The machine's tree has the names that are told, with some text in the place of each chunk: the same wherever the chunk stands. The number of its next deletion, its epoch and its phase are those that are told, and no prepare is begun.
pub record ShowsNames (d : Durable) (m : Machine) : Type 0 where
  pub text : ℕ → Text
  pub tree : m.plain.tree ≡ mapped_rows text (fin.entries d.names.tree)
  pub hidden : IsNumberOf m.next_hidden d.next_hidden
  pub epoch : m.epoch ≡ d.epoch
  pub phase : m.phase ≡ told_phase false d.phase

-- So a desk stands for a machine, at its moment.
pub record Stands {D : Type 0} (seen : D → List ℕ) (config : Config) (desk : Desk D) (m : Machine) : Type 0 where
  pub sent : Sent
  pub covers : Covers sent (way_of desk.wire)
  pub moment : IsNumber desk.wire.moment.0
  pub ours : IsClientOf config desk.caller.client
  pub durable : Durable
  pub number : ℕ
  pub rests : IsUndisturbed seen durable number (history sent (way_of desk.wire))
  pub shows : ShowsNames durable m
  pub now : m.moment ≡ desk.wire.moment.0

-- ---- lines that leave it

-- one that asks what stands at a path
abbrev pub is_stat : Option Request → Bool
is_stat (Some (lines.Stat p)) = true
is_stat asked = false

-- Such a line, one that lists names, one that sets the moment, or one about servers and messages; or one that asks for nothing.
abbrev pub is_still_line : Option Request → Bool
is_still_line None = true
is_still_line (Some (lines.Ls p)) = true
is_still_line (Some (lines.Stat p)) = true
is_still_line (Some (lines.RollingUpgrade upgrades.Query)) = true
is_still_line (Some (lines.At moment)) = true
is_still_line (Some (lines.Hold kind)) = true
is_still_line (Some (lines.Beat server)) = true
is_still_line (Some lines.Tick) = true
is_still_line (Some (lines.Restart (restarted.Server number))) = true
is_still_line (Some (lines.Lose server handle)) = true
is_still_line (Some (lines.Damage server handle block)) = true
is_still_line (Some (lines.Deliver number)) = true
is_still_line asked = false

-- it tells of a directory
abbrev pub TellsDirectory : List ℕ → Type 0
TellsDirectory text = text ≡ answer_text (Ok (answers.Stat stats.Directory))

-- it tells of a file that has no chunk
abbrev pub TellsEmpty : List ℕ → Type 0
TellsEmpty text = text ≡ answer_text (Ok (answers.Stat (stats.File 0 [])))

-- such a line with its answer: each `stat` is told of a directory, or of a file without chunks
abbrev pub IsStillLine : List ℕ → List ℕ → Type 0
IsStillLine whole text = (is_still_line (asked_in whole) ≡ true) × (is_stat (asked_in whole) ≡ true → TellsDirectory text ⊎ TellsEmpty text)

-- all lines, with their answers
abbrev pub AreStillLines : List (List ℕ) → List (List ℕ) → Type 0
AreStillLines (whole ∷ all) (text ∷ texts) = IsStillLine whole text × AreStillLines all texts
AreStillLines all texts = Unit {0}

-- ---- what is to hold

-- Such lines are explained from each machine for which the desk stands, and after them it stands for the machine to which they lead.
abbrev pub StillLinesAreExplained : Type 0 → Type 0
StillLinesAreExplained D = (seen : D → List ℕ) (failures : D → ℕ) (config : Config) (size block : ℕ) (old new : Desk D) (all texts : List (List ℕ)) (m : Machine) → Stands seen config old m → AreStillLines all texts →
    Runs (AnswersText seen failures) old all texts new → (end : Machine) × Runs (Explains size block) m all texts end × Stands seen config new end

-- an upgrade stands after a prepare, and none after a rollback
abbrev pub phase_after : {A B : Type 0} → A ⊎ B → Phase
phase_after (inl prepares) = phases.Upgrade
phase_after (inr rolls) = phases.Ordinary

-- A desk stands for a machine after a prepare or a rollback that is accepted, whatever was answered before, and whatever is under way. The machine is in the epoch that is told.
abbrev pub CommitsStand : Type 0 → Type 0
CommitsStand D = (seen : D → List ℕ) (failures : D → ℕ) (config : Config) (disks : D × D) (old new : Desk D) (by : Request) (epoch : ℕ) → standing (seen disks.0) (seen disks.1) ≡ fresh → IsReachedWithin seen failures config disks old → IsClientOf config old.caller.client →
    (commits : (commits_prepare by ≡ true) ⊎ (commits_rollback by ≡ true)) → Comes seen failures by old (Ok (answers.Number epoch)) new → (m : Machine) × Stands seen config new m × (m.epoch ≡ epoch) × (m.phase ≡ phase_after commits)

-- ---- Worked
a_change_is_none : is_still_line (asked_in (codes "create /f")) ≡ false
unfolding two_words is_utf8 chars encode_utf8
a_change_is_none = refl

-- lines that are such, with their answers
abbrev some_lines : List (List ℕ)
some_lines = codes "ls /" ∷ codes "stat /photos" ∷ codes "stat /notes" ∷ codes "rollingUpgrade query" ∷ codes "lose 1 2" ∷ codes "at 7" ∷ codes "beat 1" ∷ codes "tick" ∷ codes "ls /x" ∷ codes "frob" ∷ []

abbrev some_texts : List (List ℕ)
some_texts = codes "ok notes photos/" ∷ codes "ok dir" ∷ codes "ok file 0" ∷ codes "ok upgrade 1" ∷ codes "ok" ∷ codes "ok" ∷ codes "ok 0" ∷ codes "ok" ∷ codes "refused 3 NotFound" ∷ codes "refused 34 BadLine" ∷ []

they_are_such : AreStillLines some_lines some_texts
unfolding one_word two_words three_words upgrade_line number_line lose_line is_utf8 chars encode_utf8 digits
they_are_such = (
  (refl, (λ stat. absurd (cc))),
  ((refl, (λ stat. inl refl)), ((refl, (λ stat. inr refl)), ((refl, (λ stat. absurd (cc))), ((refl, (λ stat. absurd (cc))), ((refl, (λ stat. absurd (cc))), ((refl, (λ stat. absurd (cc))), ((refl, (λ stat. absurd (cc))), ((refl, (λ stat. absurd (cc))), ((refl, (λ stat. absurd (cc))), tt))))))))),
)
