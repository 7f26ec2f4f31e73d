-- What the line `tick` leaves of the master's journal: it makes room there.
use Rattle.std.specs.Prelude.{◌≡◌, ℕ, false, true, List, length, min, None, Result, Ok}
use Rattle.gs_base.specs.declared.numbers.Moment.{Moment}
use Rattle.gs_base.specs.declared.refusal.Refusal.{Refusal}
use Rattle.gs_journal.specs.Journal.{checkpointed}
use Rattle.gs_laws_master.specs.Written.{IsSteady}
use Rattle.gs_laws_world.specs.lasting.Lasting.{StandsFirm}
use Rattle.gs_master.specs.Masters.{MasterOf}
use Rattle.gs_master.specs.Ticking.{pressed_all}
use Rattle.gs_master_plan.specs.Renewable.{renewal_refusal}
use Rattle.gs_master_spec.specs.Handling.{checkpoint_body, due}
use Rattle.gs_master_spec.specs.State.{State, is_failed}
use Rattle.gs_nodes.specs.declared.place.MasterPlace.TheVariants.{Standing}
use Rattle.gs_shell_calls.specs.declared.answer.Answer.{Answer}
use Rattle.gs_shell_calls.specs.declared.answer.Answer.TheVariants as answers
use Rattle.gs_shell_desk.specs.Lines.{NodesDo}
use Rattle.gs_shell_desk.specs.Ways.{DeliversWhole, MasterTicked, ServersTick, Way}
use Rattle.gs_shell_grammar.specs.Grammar as lines
use Rattle.gs_laws_scripts.specs.answers.Meeting.{IsCalm, Stands}

-- what stands at the master where a tick has done all else
abbrev pub before_checkpoint : State → Moment → State
before_checkpoint s moment = (pressed_all s moment).after

-- A checkpoint is due at a tick: 4,096 records stand behind the last one, with those of this tick, and no upgrade is being prepared. And nothing
-- stands against it: no disk has failed, a generation is left, and a disk has room for it.
pub record IsCheckpointDue (s : State) (moment : Moment) : Type 0 where
  pub sound : is_failed s.fault ≡ false
  pub is_due : due (before_checkpoint s moment) ≡ true
  pub unrefused : renewal_refusal (before_checkpoint s moment) ≡ None

-- a master stands there whose journal is that checkpoint alone
abbrev pub IsAloneAt : {D : Type 0} → State → Moment → Way D → Type 0
IsAloneAt {D} s moment w = (m : MasterOf D) × (w.nodes.master ≡ Standing m) × (m.journal.text ≡ checkpointed (checkpoint_body (before_checkpoint s moment).durable))

-- The line is answered `ok`. First the master ticks, then the servers, and what follows is delivered. Where a checkpoint is due, the desk has noted no
-- want of memory till behind the master's tick, and no disk fails in it, the journal is the checkpoint alone right behind it.
pub record MakesRoom {D : Type 0} (seen : D → List ℕ) (failures : D → ℕ) (old : Way D) (m : MasterOf D) (result : Result Answer Refusal) (new : Way D) : Type 0 where
  pub answer : result ≡ Ok answers.Done
  pub behind : Way D
  pub ticked : Way D
  pub master : MasterTicked seen failures old behind
  pub servers : ServersTick (min (length old.nodes.servers) 16) behind ticked
  pub delivers : DeliversWhole seen failures ticked new
  pub room : IsCheckpointDue m.state old.moment → IsCalm failures old behind → IsAloneAt m.state old.moment behind

-- So it is wherever a master stands firm and steady, as one does that a script leads to in which no disk failed.
abbrev pub TicksMakeRoom : Type 0 → Type 0
TicksMakeRoom D = (seen : D → List ℕ) (failures : D → ℕ) (old new : Way D) (m : MasterOf D) (result : Result Answer Refusal) → Stands old m → StandsFirm seen m → IsSteady m.state
    → NodesDo seen failures lines.Tick old result new → MakesRoom seen failures old m result new
