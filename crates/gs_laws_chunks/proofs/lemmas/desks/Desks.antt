-- That a desk is always asked within its types, so the master behind it lasts steady while no disk fails.
use Rattle.std.proofs.Common.{◌≡◌, ◌<◌, ◌^◌, ℕ, List, [], ◌∷◌, Some, refl, arith}
use Rattle.std.specs.List.{AllByRecursion}
use Rattle.gs_base.specs.declared.config.Config.{Config}
use Rattle.gs_shell_desk.specs.Ways.{way_of}
use Rattle.gs_shell_desk.specs.declared.desk.Desk.{Desk}
use Rattle.gs_journal.specs.Records.{fresh, standing}
use Rattle.gs_msg.specs.declared.message.Message.{Message}
use Rattle.gs_msg.specs.declared.message.MsgId.{MsgId}
use Rattle.gs_world.specs.Sent.{Sent, message_of}
use Rattle.gs_laws_world.specs.steady.Enduring.{RunsForMemory}
use Rattle.gs_laws_chunks.specs.desks.Reached.{AllSent, history}
use Rattle.gs_laws_world.specs.steady.Unarmed.{unarmed}
use Rattle.gs_laws_world.specs.steady.Saying.{KeepsTypes, MayBeSaid, RunsQuietly}
use Rattle.gs_laws_world.specs.steady.Steady.{LastsSteady, RunsSteadily}
use Rattle.gs_laws_chunks.specs.desks.Within.{IsReachedWithin}
use Rattle.gs_laws_world.proofs.lemmas.steady.Keeping.{begins_keeping, run_keeps, runs_steadily}
use Rattle.gs_laws_world.proofs.lemmas.steady.Steady.{begins_steady}
use Rattle.gs_laws_world.proofs.lemmas.steady.Enduring.{lasts_unarmed, run_for_memory}

module _ {D : Type 0} (seen : D → List ℕ) (failures : D → ℕ) where
  one_client : 1 < 2 ^ 32
  one_client = omega arith

  pub desk_keeps : (config : Config) (disks : D × D) (desk : Desk D) (r : IsReachedWithin seen failures config disks desk) → KeepsTypes (history r.sent (way_of desk.wire))
  desk_keeps config disks desk r =
      run_keeps seen failures unarmed r.reached.steps r.reached.begun (history r.sent (way_of desk.wire)) r.reached.runs r.within
      (begins_keeping seen failures unarmed config 1 disks r.reached.begun one_client r.reached.begins)

  all_may : (sent : Sent) (messages : List Message) → ((id : MsgId) (message : Message) → message_of sent id ≡ Some message → MayBeSaid message.to message.body) → AllSent sent messages
      → AllByRecursion (λ (message : Message). MayBeSaid message.to message.body) messages
  all_may sent [] may all = tt
  all_may sent (message ∷ messages) may ((id, is), rest) = (may id message is, all_may sent messages may rest)

  -- what is under way or held back was sent
  pub desk_waits : (config : Config) (disks : D × D) (desk : Desk D) → IsReachedWithin seen failures config disks desk → AllByRecursion (λ (message : Message). MayBeSaid message.to message.body) desk.wire.queue.items
      × AllByRecursion (λ (message : Message). MayBeSaid message.to message.body) desk.wire.held.items
  desk_waits config disks desk r =
      let keeps = desk_keeps config disks desk r in (all_may r.sent desk.wire.queue.items keeps.sent r.covers.queue, all_may r.sent desk.wire.held.items keeps.sent r.covers.held)

  pub desk_hears : (config : Config) (disks : D × D) (desk : Desk D) (r : IsReachedWithin seen failures config disks desk)
      → RunsQuietly seen failures unarmed r.reached.steps r.reached.begun (history r.sent (way_of desk.wire)) → RunsSteadily seen failures unarmed r.reached.steps r.reached.begun (history r.sent (way_of desk.wire))
  desk_hears config disks desk r quiet =
      runs_steadily seen failures unarmed r.reached.steps r.reached.begun (history r.sent (way_of desk.wire)) quiet r.within
      (begins_keeping seen failures unarmed config 1 disks r.reached.begun one_client r.reached.begins)

  pub desk_lasts : (config : Config) (disks : D × D) (desk : Desk D) (r : IsReachedWithin seen failures config disks desk) → standing (seen disks.0) (seen disks.1) ≡ fresh
      → RunsQuietly seen failures unarmed r.reached.steps r.reached.begun (history r.sent (way_of desk.wire)) → LastsSteady seen desk.wire.nodes.master
  desk_lasts config disks desk r none quiet =
      lasts_unarmed seen failures unarmed r.reached.steps r.reached.begun (history r.sent (way_of desk.wire)) (λ disk call place. refl) quiet r.within
      (begins_keeping seen failures unarmed config 1 disks r.reached.begun one_client r.reached.begins)
      (begins_steady seen failures unarmed config 1 disks r.reached.begun none r.reached.begins)

  pub desk_for_memory : (config : Config) (disks : D × D) (desk : Desk D) (r : IsReachedWithin seen failures config disks desk) → standing (seen disks.0) (seen disks.1) ≡ fresh
      → (runs : RunsQuietly seen failures unarmed r.reached.steps r.reached.begun (history r.sent (way_of desk.wire))) → RunsForMemory seen failures unarmed r.reached.steps r.reached.begun (history r.sent (way_of desk.wire)) runs
  desk_for_memory config disks desk r none runs =
      run_for_memory seen failures unarmed (λ steps old new runs within keeps h. lasts_unarmed seen failures unarmed steps old new (λ disk call place. refl) runs within keeps h) r.reached.steps r.reached.begun (history r.sent (way_of desk.wire)) runs r.within
      (begins_keeping seen failures unarmed config 1 disks r.reached.begun one_client r.reached.begins)
      (begins_steady seen failures unarmed config 1 disks r.reached.begun none r.reached.begins)
