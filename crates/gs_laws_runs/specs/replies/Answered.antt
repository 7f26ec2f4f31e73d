-- What the master answers in a run to calls of the tree: what the plain machine answers that the store shows, with the command that it does then.
use Rattle.std.specs.Prelude.{[], ◌≡◌, ◌⊎◌, Err, List, None, Option, Result, Some, false, filter_map, option_map, refl, take, true, ℕ}
use Rattle.std.specs.List.{AllByRecursion}
use Rattle.gs_base.specs.declared.numbers.ClientId.{ClientId}
use Rattle.gs_base.specs.declared.numbers.Moment.{Moment}
use Rattle.gs_base.specs.declared.numbers.ReqId.{ReqId}
use Rattle.gs_base.specs.declared.refusal.Refusal.{Refusal}
use Rattle.gs_base.specs.declared.refusal.Refusal.TheVariants as refusals
use Rattle.gs_master.specs.Masters.{MasterOf}
use Rattle.gs_laws_plain.specs.commands.Answers.{is_refused_by_store, plain_answer}
use Rattle.gs_laws_plain.specs.commands.Commands.{but_edit, command_of}
use Rattle.gs_master_record.specs.Plain.{PlainEntry}
use Rattle.gs_master_spec.specs.Applied.{replayed}
use Rattle.gs_master_spec.specs.State.{is_failed}
use Rattle.gs_laws_plain.specs.replies.Steady.{IsMeekReply, IsPlainReply, IsPlainly}
use Rattle.gs_laws_plain.specs.replies.Waited.{RepliesSo}
use Rattle.gs_msg.specs.declared.answer.Answer.{Answer}
use Rattle.gs_msg.specs.declared.body.Body.{Body}
use Rattle.gs_msg.specs.declared.body.Body.TheVariants as bodies
use Rattle.gs_msg.specs.declared.call.Call.{Call}
use Rattle.gs_msg.specs.declared.event.Event.{Event}
use Rattle.gs_msg.specs.declared.message.Message.{Message}
use Rattle.gs_nodes.specs.declared.place.MasterPlace.TheVariants.{Standing}
use Rattle.gs_world.specs.Histories.{Happens, History}
use Rattle.gs_world.specs.Runs.{Comes, Step, Takes}
use Rattle.gs_laws_chunks.specs.answers.Answered.{sent_by}
use Rattle.gs_laws_chunks.specs.accounts.Accounts.{Account}
use Rattle.gs_laws_chunks.specs.accounts.Hearing.{heard_by_master}
use Rattle.gs_laws_chunks.specs.accounts.Running.{IsReached, Moves, Setup}
use Rattle.gs_laws_world.specs.steady.Through.{is_sound_at}
use Rattle.gs_laws_runs.specs.plain.Plainly.{IsPlainStep}
use Rattle.gs_laws_runs.specs.plain.Views.{plain_tree}
use Rattle.gs_laws_runs.specs.plain.Written.{IsAllBut, messages_at, records_at}

-- what the master hears at a step, if it hears anything, and when
abbrev pub heard_at : {D : Type 0} → Step → History D → Option Body
heard_at step old = option_map (λ (m : Message). m.body) (heard_by_master step old.sent)

abbrev pub moment_at : Step → Moment
moment_at (Comes event) = event.moment
moment_at (Takes client) = record { 0 = 0 }

-- ---- a reply

-- It is by what the account has, and so, where names go by what is shown, by the plain view of the store. Of a master of which a disk has failed nothing is recorded, and it replies to the call that comes alone: it refuses, or gives what it keeps.
pub record AnswersPlainly {D : Type 0} (m : MasterOf D) (a : Account) (records : List PlainEntry) (moment : Moment) (heard : Option Body) (req : ReqId) (result : Result Answer Refusal) : Type 0 where
  pub plain : IsPlainReply a.durable m.state records moment heard req result
  pub failed : is_failed m.state.fault ≡ true → (records ≡ []) × IsMeekReply m.state heard req result

-- so at a step of a master that stands
abbrev pub AtStep : {D : Type 0} → Step → History D → Account → MasterOf D → ReqId → Result Answer Refusal → Type 0
AtStep step old a m req result = AnswersPlainly m a (records_at step old) (moment_at step) (heard_at step old) req result

-- ---- what is really sent

-- The turn was done: so these of its records stand, all or all but a checkpoint. And the plain machine goes on by them: its commands that edit no text are those that they say.
pub record StandsWhole {D : Type 0} (size : ℕ) (step : Step) (old new : History D) (a b : Account) : Type 0 where
  pub these : List PlainEntry
  pub all : IsAllBut (records_at step old) these
  pub stand : replayed a.durable these ≡ Some b.durable
  pub goes : IsPlainStep size step old new a b
  pub commands : filter_map but_edit goes.commands ≡ filter_map command_of (records_at step old)

-- It is what the turn of the step says, of which all stands where no disk had failed before. Or it refuses the call that comes, since a disk fails at the turn, which none had before; or since no master stands.
pub data IsSentAsPlain {D : Type 0} (size : ℕ) (step : Step) (old new : History D) (a b : Account) (req : ReqId) (result : Result Answer Refusal) : Type 0 where
  OfTurn : (m : MasterOf D) → old.nodes.master ≡ Standing m → AtStep step old a m req result → (is_sound_at old.nodes.master ≡ true → StandsWhole size step old new a b) → IsSentAsPlain size step old new a b req result
  Unsure : (call : Call) → heard_at step old ≡ Some (bodies.Call req call) → result ≡ Err refusals.Unsure → is_sound_at old.nodes.master ≡ true → is_sound_at new.nodes.master ≡ false → IsSentAsPlain size step old new a b req result
  Closed : (call : Call) → heard_at step old ≡ Some (bodies.Call req call) → result ≡ Err refusals.Device → is_sound_at old.nodes.master ≡ false → IsSentAsPlain size step old new a b req result

module _ {D : Type 0} (x : Setup D) where
  -- ---- what is to hold

  -- each reply of each step of each run, whatever disks of the master fail
  abbrev pub RepliesAreAsPlain : Type 0
  RepliesAreAsPlain = (old new : History D) (a b : Account) (step : Step) (m : MasterOf D) → IsReached x old a → Moves x step old a new b → old.nodes.master ≡ Standing m →
      AllByRecursion (λ (message : Message). RepliesSo (AtStep step old a m) message.body) (messages_at step old)

  -- and each that is really sent
  abbrev pub SentAreAsPlain : Type 0
  SentAreAsPlain = (old new : History D) (a b : Account) (event : Event) (said : Result (Unit {0}) Refusal) → IsReached x old a → Moves x (Comes event) old a new b → (h : Happens x.seen x.failures x.armed event old said new) →
      AllByRecursion (λ (message : Message). RepliesSo (IsSentAsPlain x.config.chunk (Comes event) old new a b) message.body) (sent_by h.outcome)

  -- So of each step of the plain machine that is given: its commands that edit no text are those that the records say, where it goes by all of them, but perhaps a checkpoint.
  abbrev pub CommandsAreOfRecords : Type 0
  CommandsAreOfRecords = (old new : History D) (a b : Account) (step : Step) (p : IsPlainStep x.config.chunk step old new a b) → IsAllBut (records_at step old) (take p.written (records_at step old)) →
      filter_map but_edit p.commands ≡ filter_map command_of (records_at step old)

-- ---- Worked

-- what is right whatever texts there are is right by the plain view
by_the_plain_view : (size : ℕ) (a : Account) (moment number : ℕ) (call : Call) (result plain : Result Answer Refusal) → IsPlainly a.durable.names moment number call result → plain_answer (plain_tree size a) moment number call ≡ Some plain → (is_refused_by_store result ≡ true) ⊎ (result ≡ plain)
by_the_plain_view size a moment number call result plain is said = is _ plain said

nothing_is_heard_where_a_client_takes_its_answer : {D : Type 0} (client : ClientId) (old : History D) → heard_at (Takes client) old ≡ None
nothing_is_heard_where_a_client_takes_its_answer client old = refl
