-- Where disks that aren't opened have failed no less often than before, no step lets the failures of the master's disks fall.
use Rattle.std.proofs.Common.{◌≡◌, ◌∙◌, ◌+◌, ◌<◌, ◌≤◌, ℕ, Bool, true, false, List, [], ◌∷◌, Option, Some, None, MatchOption, Result, Ok, Err, ap, subst, sym, inl, inr, arith}
use Rattle.gs_base.specs.declared.config.Config.{Config}
use Rattle.gs_base.specs.declared.numbers.Moment.{Moment}
use Rattle.gs_base.specs.declared.numbers.ReqId.{ReqId}
use Rattle.gs_base.specs.declared.refusal.Refusal.{Refusal}
use Rattle.gs_base.specs.declared.refusal.Refusal.TheVariants as refusals
use Rattle.gs_base.specs.Calls.{Does}
use Rattle.gs_client.specs.Nodes.{given_up}
use Rattle.gs_shell_desk.specs.Ways.{way_of}
use Rattle.gs_shell_desk.specs.declared.desk.Desk.{Desk}
use Rattle.gs_journal.specs.Journal.{failures_of_both}
use Rattle.gs_journal.specs.Records.{fresh, standing}
use Rattle.gs_journal.specs.declared.journal.Unopened.{Unopened}
use Rattle.gs_master.specs.Masters.{MasterAnswers, MasterOf}
use Rattle.gs_master.specs.Starting.{WhyUnopened}
use Rattle.gs_master.specs.Ticking.{AnswersAs, AnswersTick, lacking, pressed_all, writes_one}
use Rattle.gs_master.specs.declared.turn.Turn.{Turn as Told}
use Rattle.gs_msg.specs.declared.event.Happening.{Happening}
use Rattle.gs_msg.specs.declared.event.Happening.TheVariants as happenings
use Rattle.gs_msg.specs.declared.message.Message.{Message}
use Rattle.gs_msg.specs.declared.node.NodeId.{NodeId}
use Rattle.gs_msg.specs.declared.node.NodeId.TheVariants as nodes
use Rattle.gs_msg.specs.declared.node.StoreNode.{StoreNode}
use Rattle.gs_msg.specs.declared.node.StoreNode.TheVariants as keepers
use Rattle.gs_server.specs.Servers.{Server}
use Rattle.gs_server.specs.Servers as servers
use Rattle.gs_master_spec.specs.Handling.{handle, tick}
use Rattle.gs_master_spec.specs.Outcomes.{caller_of}
use Rattle.gs_master_spec.specs.State.{Turn}
use Rattle.gs_nodes.specs.Happenings.{ClientAsks, ClientHears, Delivers, Hears, MasterHears, MasterTicks, Opens, Reopens, ServerDoes, limit}
use Rattle.gs_nodes.specs.Nodes.{Nodes, with_master}
use Rattle.gs_nodes.specs.declared.place.MasterPlace.{MasterPlace}
use Rattle.gs_nodes.specs.declared.place.MasterPlace.TheVariants.{Standing, Closed, Away}
use Rattle.gs_world.specs.Histories.{AtNode, Begins, ComesTo, History, Upshot, Restarts, Ticks}
use Rattle.gs_laws_world.specs.lasting.Lasting.{failures_at}
use Rattle.gs_world.specs.Runs.{Goes, RunsTo, Step, Comes, Takes}
use Rattle.gs_world.specs.Sent.{message_of}
use Rattle.gs_laws_world.proofs.lemmas.steady.Apart.{at_client, at_server}
use Rattle.gs_laws_chunks.specs.desks.Reached.{history}
use Rattle.gs_laws_world.specs.steady.Unarmed.{unarmed}
use Rattle.gs_laws_world.specs.steady.Saying.{RunsQuietly}
use Rattle.gs_laws_world.specs.steady.Steady.{LastsSteady}
use Rattle.gs_laws_chunks.specs.desks.Within.{IsReachedWithin}
use Rattle.gs_laws_chunks.proofs.lemmas.desks.Desks.{desk_lasts}

as_before : (a b : ℕ) → a ≡ b → b ≤ a
as_before a b same = omega arith

below : (a b : ℕ) → a < b → a ≤ b
below a b h = omega arith

both_ways : (a b c : ℕ) → a ≤ b → b ≤ c → c ≡ a → b ≡ a
both_ways a b c first second same = omega arith

one_after : (a b c : ℕ) → a ≤ b → b ≤ c → a ≤ c
one_after a b c first second = omega arith

module _ {D : Type 0} (seen : D → List ℕ) (failures : D → ℕ) where
  -- disks that aren't opened have failed no less often than before
  closes : (config : Config) (first second : D) (u : Unopened D) → WhyUnopened seen failures config limit first second u → failures first + failures second ≤ failures u.first + failures u.second
  closes config first second u (inl (device, more)) = below (failures first + failures second) (failures u.first + failures u.second) more
  closes config first second u (inr (text, quiet, why)) = as_before (failures u.first + failures u.second) (failures first + failures second) quiet

  -- no less often
  abbrev Rises : MasterPlace D → MasterPlace D → Type 0
  Rises old new = failures_at failures old ≤ failures_at failures new

  answered : (caller : Option ReqId) (t : Turn) (old : MasterOf D) (result : Result Told Refusal) (new : MasterOf D) → MasterAnswers seen failures caller t old result new → failures_of_both failures old.journal ≤ failures_of_both failures new.journal
  answered caller t old (Ok told) new (inl is) = as_before (failures_of_both failures new.journal) (failures_of_both failures old.journal) is.quiet
  answered caller t old (Ok told) new (inr (place, is)) = below (failures_of_both failures old.journal) (failures_of_both failures new.journal) is.cause
  answered caller t old (Err e) new (why, still) = subst (λ (m : MasterOf D). failures_of_both failures old.journal ≤ failures_of_both failures m.journal) (sym still) (omega arith)

  as_answered : (b : Bool) (t steps : Turn) (old : MasterOf D) (told : Told) (new : MasterOf D) → AnswersAs seen failures b t steps old told new → failures_of_both failures old.journal ≤ failures_of_both failures new.journal
  as_answered true t steps old told new (inl is) = as_before (failures_of_both failures new.journal) (failures_of_both failures old.journal) is.quiet
  as_answered true t steps old told new (inr (place, is)) = below (failures_of_both failures old.journal) (failures_of_both failures new.journal) is.cause
  as_answered false t steps old told new (inl is) = as_before (failures_of_both failures new.journal) (failures_of_both failures old.journal) is.quiet
  as_answered false t steps old told new (inr (place, is)) = below (failures_of_both failures old.journal) (failures_of_both failures new.journal) is.cause

  tick_answered : (moment : Moment) (old : MasterOf D) (result : Result Told Refusal) (new : MasterOf D) → AnswersTick seen failures moment old result new → failures_of_both failures old.journal ≤ failures_of_both failures new.journal
  tick_answered moment old (Ok told) new (inl whole) = as_answered (writes_one old.state (pressed_all old.state moment)) (tick old.state moment) (pressed_all old.state moment) old told new whole
  tick_answered moment old (Ok told) new (inr (sound, is_due, none, done)) = answered None (lacking (pressed_all old.state moment)) old (Ok told) new done
  tick_answered moment old (Err e) new (why, still) = subst (λ (m : MasterOf D). failures_of_both failures old.journal ≤ failures_of_both failures m.journal) (sym still) (omega arith)

  stays_so : (old new : MasterPlace D) → new ≡ old → Rises old new
  stays_so old new same = subst (λ p. Rises old p) (sym same) (omega arith)

  hears : (message : Message) (moment : Moment) (old : MasterPlace D) (result : Result Told Refusal) (new : MasterPlace D) → MasterHears seen failures message moment old result new → Rises old new
  hears message moment (Standing m) result new (after, is, answers) =
      subst (λ p. Rises (Standing m) p) (sym is) (answered (caller_of message.body) (handle m.config m.state message moment) m result after answers)
  hears message moment (Closed first second) (Ok turn) new meets = stays_so (Closed first second) new meets.0
  hears message moment (Closed first second) (Err e) new meets = stays_so (Closed first second) new meets.0
  hears message moment Away (Ok turn) new meets = stays_so Away new meets.0
  hears message moment Away (Err e) new meets = stays_so Away new meets.0

  ticks : (moment : Moment) (old : MasterPlace D) (result : Result Told Refusal) (new : MasterPlace D) → MasterTicks seen failures moment old result new → Rises old new
  ticks moment (Standing m) result new (after, is, answers) = subst (λ p. Rises (Standing m) p) (sym is) (tick_answered moment m result after answers)
  ticks moment (Closed first second) (Ok turn) new meets = stays_so (Closed first second) new meets.0
  ticks moment (Closed first second) (Err e) new meets = stays_so (Closed first second) new meets.0
  ticks moment Away (Ok turn) new meets = stays_so Away new meets.0
  ticks moment Away (Err e) new meets = stays_so Away new meets.0

  opens : (config : Config) (pair : D × D) (result : Result Told Refusal) (new : MasterPlace D) → Opens seen failures config pair result new → failures pair.0 + failures pair.1 ≤ failures_at failures new
  opens config pair (Ok turn) new (after, is, opening, said) =
      subst (λ (p : MasterPlace D). failures pair.0 + failures pair.1 ≤ failures_at failures p) (sym is) (as_before (failures_of_both failures after.journal) (failures pair.0 + failures pair.1) opening.quiet)
  opens config pair (Err e) new (u, is, refusal, why) = subst (λ (p : MasterPlace D). failures pair.0 + failures pair.1 ≤ failures_at failures p) (sym is) (closes config pair.0 pair.1 u why)

  reopens : (config : Config) (old : MasterPlace D) (result : Result Told Refusal) (new : MasterPlace D) → Reopens seen failures config old result new → Rises old new
  reopens config (Standing m) result new opening = opens config (m.journal.first, m.journal.second) result new opening
  reopens config (Closed first second) result new opening = opens config (first, second) result new opening
  reopens config Away result new (same, refused) = stays_so Away new same

  -- ---- an event

  stays : (old new : Nodes D) → new.master ≡ old.master → Rises old.master new.master
  stays old new is = stays_so old.master new.master is

  moved : (place : MasterPlace D) (old new : Nodes D) → new ≡ with_master place old → Rises old.master place → Rises old.master new.master
  moved place old new is rises = subst (λ (n : Nodes D). Rises old.master n.master) (sym is) rises

  heard : (message : Message) (moment : Moment) (to : NodeId) (old : Nodes D) (turn : Result Told Refusal) (new : Nodes D) → Hears seen failures message moment to old turn new → Rises old.master new.master
  heard message moment nodes.Master old turn new (place, is, hear) = moved place old new is (hears message moment old.master turn place hear)
  heard message moment (nodes.Server id) old turn new at = stays old new (at_server id (λ s. ServerDoes (servers.handle s message moment) s) old turn new at)
  heard message moment (nodes.Client id) old turn new (said, at, says) = stays old new (at_client id None (ClientHears message.body) old said new at)

  delivered : (message : Message) (moment : Moment) (old : Nodes D) (turn : Result Told Refusal) (new : Nodes D) → Delivers seen failures message moment old turn new → Rises old.master new.master
  unfolding Delivers
  delivered message moment old turn new hear = heard message moment message.to old turn new hear

  came : (found : Option Message) (sender : NodeId) (moment : Moment) (old : Nodes D) (by : NodeId) (outcome : Upshot) (new : Nodes D)
      → MatchOption found ((outcome ≡ Err refusals.Range) × (new ≡ old) × (by ≡ sender)) (λ message. ComesTo seen failures unarmed sender message moment old by outcome new) → Rises old.master new.master
  came None sender moment old by outcome new (refused, is, from) = stays old new (ap (λ (n : Nodes D). n.master) is)
  came (Some message) sender moment old by outcome new comes = elim comes [
    | inl (is, turn, delivers, told) ↦ delivered message moment old turn new delivers
    | inr (refused, is, from) ↦ stays old new (ap (λ (n : Nodes D). n.master) is)
  ]

  ticked : (moment : Moment) (node : StoreNode) (old : Nodes D) (outcome : Upshot) (new : Nodes D) → Ticks seen failures unarmed moment node old outcome new → Rises old.master new.master
  ticked moment keepers.Master old outcome new (place, turn, does, is, told) = moved place old new is (ticks moment old.master turn place does)
  ticked moment (keepers.Server id) old outcome new (turn, at, told) = stays old new (at_server id (λ s. ServerDoes (servers.tick s moment) s) old turn new at)

  restarted : (node : StoreNode) (old : Nodes D) (outcome : Upshot) (new : Nodes D) → Restarts seen failures unarmed node old outcome new → Rises old.master new.master
  restarted keepers.Master old outcome new (place, turn, does, is, told) = moved place old new is (reopens old.config old.master turn place does)
  restarted (keepers.Server id) old outcome new (done, at, told) = stays old new (at_server id (λ s done after. (done ≡ Ok tt) × (after ≡ servers.restart s)) old done new at)

  at_node : (moment : Moment) (happening : Happening) (old : History D) (by : NodeId) (outcome : Upshot) (new : Nodes D) → AtNode seen failures unarmed moment happening old by outcome new → Rises old.nodes.master new.master
  at_node moment (happenings.Ask req request) old by outcome new (is, (out, at, told)) = stays old.nodes new (at_client req.client (Err refusals.Range) (ClientAsks req.number request) old.nodes out new at)
  at_node moment (happenings.Deliver id) old by outcome new comes = came (message_of old.sent id) id.sender moment old.nodes by outcome new comes
  at_node moment (happenings.Tick node) old by outcome new (is, does) = ticked moment node old.nodes outcome new does
  at_node moment (happenings.Beat id) old by outcome new (is, (still, told)) = stays old.nodes new (ap (λ (n : Nodes D). n.master) still)
  at_node moment (happenings.Restart node) old by outcome new (is, does) = restarted node old.nodes outcome new does
  at_node moment (happenings.Lose id handle) old by outcome new (is, (done, at, told)) = stays old.nodes new (at_server id (λ s done after. Does (servers.lose handle s) done s after) old.nodes done new at)
  at_node moment (happenings.Damage id handle block) old by outcome new (is, (done, at, told)) = stays old.nodes new (at_server id (λ s done after. Does (servers.damage handle block s) done s after) old.nodes done new at)
  at_node moment (happenings.FailDisk disk call) old by outcome new (is, (with, told)) = moved old.nodes.master old.nodes new with (omega arith)

  step_rises : (step : Step) (old new : History D) → Goes seen failures unarmed step old new → Rises old.nodes.master new.nodes.master
  step_rises (Comes event) old new (said, h) = at_node event.moment event.happening old h.by h.outcome new.nodes h.at
  step_rises (Takes client) old new (found, takes, is) = stays old.nodes new.nodes (at_client client None (λ n reply after. (reply ≡ n.reply) × (after ≡ given_up n)) old.nodes found new.nodes takes)

  pub run_rises : (steps : List Step) (old new : History D) → RunsTo seen failures unarmed steps old new → Rises old.nodes.master new.nodes.master
  run_rises [] old new same = stays_so old.nodes.master new.nodes.master (ap (λ (h : History D). h.nodes.master) same)
  run_rises (step ∷ steps) old new (mid, goes, rest) =
      one_after (failures_at failures old.nodes.master) (failures_at failures mid.nodes.master) (failures_at failures new.nodes.master) (step_rises step old mid goes) (run_rises steps mid new rest)

  -- so where there are as many in the end as at the start, no disk has failed on the way
  pub run_quiet : (steps : List Step) (old new : History D) → RunsTo seen failures unarmed steps old new → failures_at failures new.nodes.master ≡ failures_at failures old.nodes.master → RunsQuietly seen failures unarmed steps old new
  run_quiet [] old new runs same = runs
  run_quiet (step ∷ steps) old new (mid, goes, rest) same =
      let quiet = both_ways (failures_at failures old.nodes.master) (failures_at failures mid.nodes.master) (failures_at failures new.nodes.master) (step_rises step old mid goes) (run_rises steps mid new rest) same in
      (mid, goes, quiet, run_quiet steps mid new rest (same ∙ sym quiet))

  -- ---- a desk

  pub begins_at : (config : Config) (clients : ℕ) (pair : D × D) (new : History D) → Begins seen failures unarmed config clients pair new → failures_at failures new.nodes.master ≡ failures pair.0 + failures pair.1
  begins_at config clients pair new begun = ap (λ (n : Nodes D). failures_at failures n.master) begun.nodes ∙ opened_at begun.place begun.turn begun.opens
    where
      opened_at : (place : MasterPlace D) (turn : Told) → Opens seen failures config pair (Ok turn) place → failures_at failures place ≡ failures pair.0 + failures pair.1
      opened_at place turn (after, is, opening, said) = ap (failures_at failures) is ∙ opening.quiet

  pub desk_quiet : (config : Config) (disks : D × D) (desk : Desk D) (r : IsReachedWithin seen failures config disks desk) → failures_at failures desk.wire.nodes.master ≡ failures disks.0 + failures disks.1
      → RunsQuietly seen failures unarmed r.reached.steps r.reached.begun (history r.sent (way_of desk.wire))
  desk_quiet config disks desk r same =
      run_quiet r.reached.steps r.reached.begun (history r.sent (way_of desk.wire)) r.reached.runs (same ∙ sym (begins_at config 1 disks r.reached.begun r.reached.begins))

  pub desk_ends_steady : (config : Config) (disks : D × D) (desk : Desk D) → IsReachedWithin seen failures config disks desk → standing (seen disks.0) (seen disks.1) ≡ fresh
      → failures_at failures desk.wire.nodes.master ≡ failures disks.0 + failures disks.1 → LastsSteady seen desk.wire.nodes.master
  desk_ends_steady config disks desk r none same = desk_lasts seen failures config disks desk r none (desk_quiet config disks desk r same)
