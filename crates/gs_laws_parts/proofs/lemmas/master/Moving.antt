-- Moves that the machine doesn't see, or that are one event of it.
use Rattle.std.proofs.Common.{◌≡◌, ℕ, inl, Bool, true, false, ◌&&◌, List, [], ◌∷◌, ◌++◌, map, None, refl, sym, ap, subst, ◌∙◌}
use Rattle.std.specs.Prelude.{Ok, fold, if◌then◌else◌}
use Rattle.std.specs.List.{list_all}
use Rattle.std.proofs.lemmas.Bool.{and_parts}
use Rattle.gs_base.specs.Members.{count_from}
use Rattle.gs_base.specs.declared.config.Config.{Config}
use Rattle.gs_base.specs.declared.epoch.EpochEnd.{EpochEnd}
use Rattle.gs_base.specs.declared.epoch.EpochEnd.TheVariants as ends
use Rattle.gs_base.specs.declared.numbers.ReqId.{ReqId}
use Rattle.gs_msg.specs.declared.answer.Answer.{Answer}
use Rattle.gs_msg.specs.declared.answer.Answer.TheVariants as answers
use Rattle.gs_msg.specs.declared.body.Body.TheVariants as bodies
use Rattle.gs_msg.specs.declared.message.Message.{Message}
use Rattle.gs_msg.specs.declared.node.NodeId.TheVariants as nodes
use Rattle.gs_master_spec.specs.State.{State, Turn, Plan, answer_changes, answered, kept_in_memory, last_reply, post, reply_to, turned, with_record}
use Rattle.gs_master_spec.specs.Durable.{is_listed}
use Rattle.gs_master_spec.specs.Replies.{is_later}
use Rattle.gs_master_spec.specs.Upgrades.{accepted_plan, tell_all}
use Rattle.gs_master_spec.specs.Working.{begin_pending}
use Rattle.gs_master_spec.specs.declared.change.Change.TheVariants as changes
use Rattle.gs_master_spec.specs.declared.pending.Waiting.{Waiting}
use Rattle.gs_laws_moves.specs.moves.Asked.{IsAskedSo, WasHeard}
use Rattle.gs_laws_moves.specs.moves.Guards.{Heard, IsMade}
use Rattle.gs_laws_moves.specs.moves.Moves.{Answers as AnswersCall, Flags, Move, Moves, Restores, Says as Says_it, TellsRollback, Waits, move_turn, plan_of_restore}
use Rattle.gs_laws_moves.proofs.lemmas.moves.Asked.{chain_so, more_so}
use Rattle.gs_laws_chunk.specs.machine.Machine.{Entry, ChunkWorld}
use Rattle.gs_laws_chunk.specs.machine.Events.{Leads, Rests}
use Rattle.gs_laws_parts.specs.master.Showing.{ShowsEntry}
use Rattle.gs_laws_parts.specs.master.Laws.{is_plain_message}
use Rattle.gs_laws_chunk.specs.machine.Mastering.{AreOfMaster}
use Rattle.gs_laws_parts.specs.master.Single.{FollowsAs, IsUnmoved}
use Rattle.gs_laws_parts.specs.master.Telling.{IsSameMember, Marks, Says, Shows}
use Rattle.gs_laws_parts.proofs.lemmas.master.Leaving.{LeavesDurable, SameMemory, changes_leave, durable_itself, leaves_entry, leaves_memory}
use Rattle.gs_laws_parts.proofs.lemmas.master.Marking.{marks_on_sent, same_epoch}
use Rattle.gs_laws_parts.proofs.lemmas.master.Sending.{Stays, SendsAll, all_sent, heard_more, leads_on, masters_on, says_more, shows_more}

-- ---- messages that propose nothing

pub plain_append : (xs ys : List Message) → list_all is_plain_message xs ≡ true → list_all is_plain_message ys ≡ true → list_all is_plain_message (xs ++ ys) ≡ true
plain_append [] ys first second = second
plain_append (x ∷ xs) ys first second = (let parts = and_parts (is_plain_message x) (list_all is_plain_message xs) first in ap (λ b. b && list_all is_plain_message (xs ++ ys)) parts.0 ∙ plain_append xs ys parts.1 second)

pub epochs_plain : (servers : List ℕ) (epoch : ℕ) (end : EpochEnd) → list_all is_plain_message (map (λ server. post (nodes.Server server) (bodies.Epoch epoch end)) servers) ≡ true
epochs_plain [] epoch end = refl
epochs_plain (x ∷ servers) epoch end = epochs_plain servers epoch end

-- ---- what is kept of answers

pub answers_leave : (chunk : ℕ) (s : State) (req : ReqId) (answer : Answer) → list_all (leaves_memory chunk) (answer_changes s req answer) ≡ true
answers_leave chunk s req answer = by_test (is_later (last_reply s req.client) req.number)
  where
    by_test : (b : Bool) → list_all (leaves_memory chunk) (if b then kept_in_memory req (Ok answer) ∷ [] else []) ≡ true
    by_test true = refl
    by_test false = refl

-- ---- a move that some events lead to

-- messages leave the view
pub unmoved_by : (w v : ChunkWorld) → IsUnmoved w v → (x : ChunkWorld) → x.entry ≡ v.entry → x.known ≡ v.known → IsUnmoved w x
unmoved_by w v same x entry known = ap (λ (e : Entry). e.view) entry ∙ same

-- where the state behind a move is shown, and its messages are sent from there
pub shown_by : (born chunk : ℕ) (whole : ℕ → Bool) (config : Config) (heard : Heard) (s : State) (move : Move) (w v : ChunkWorld) → Shows chunk s w → WasHeard (Says chunk w) heard → IsMade config heard s move
    → (leads : Leads w v) → AreOfMaster w v leads → ((j : ℕ) → IsSameMember (w.members j) (whole j) (v.members j)) → Marks whole w v → Stays w v → ShowsEntry chunk (move_turn config s move).after v.entry
    → (Shows chunk (move_turn config s move).after v → WasHeard (Says chunk v) heard → SendsAll born chunk v (move_turn config s move).sent)
    → (As : ChunkWorld → Type 0) → ((x : ChunkWorld) → x.entry ≡ v.entry → x.known ≡ v.known → As x) → FollowsAs born chunk whole w (move_turn config s move).after (move_turn config s move).sent As
shown_by born chunk whole config heard s move w v k was made leads masters members marks stays entry send As so = record {
  follows = record {
    world = all.world;
    leads = leads_on w v all.world leads all.leads;
    masters = masters_on w v all.world leads all.leads masters all.masters;
    members = λ j. subst (λ ms. IsSameMember (w.members j) (whole j) (ms j)) (sym all.members) (members j);
    marks = marks_on_sent whole w v all.world all.entry all.members marks;
    stays = λ x there. all.stays x (stays x there);
    shows = shows_more chunk v all.world all.stays u all.entry shown;
    tells = all.tells;
  };
  leaves = so all.world all.entry all.known;
}
  where
    u : State
    u = (move_turn config s move).after

    said : IsAskedSo (Says chunk w) u chunk
    said = chain_so (Says chunk w) chunk config heard was s (record (move_turn config s move) { said = None }) (Moves s move None made) k.said

    shown : Shows chunk u v
    shown = record { entry = entry; said = more_so (Says chunk w) (Says chunk v) (says_more chunk w v stays) u chunk said }

    all : SendsAll born chunk v (move_turn config s move).sent
    all = send shown (heard_more chunk w v stays heard was)

-- where the state behind a move is shown, its messages follow
pub shown_then : (born chunk : ℕ) (whole : ℕ → Bool) (config : Config) (heard : Heard) (s : State) (move : Move) (w v : ChunkWorld) → Shows chunk s w → WasHeard (Says chunk w) heard → IsMade config heard s move
    → list_all is_plain_message (move_turn config s move).sent ≡ true → (leads : Leads w v) → AreOfMaster w v leads → ((j : ℕ) → IsSameMember (w.members j) (whole j) (v.members j)) → Marks whole w v → Stays w v → ShowsEntry chunk (move_turn config s move).after v.entry
    → (As : ChunkWorld → Type 0) → ((x : ChunkWorld) → x.entry ≡ v.entry → x.known ≡ v.known → As x) → FollowsAs born chunk whole w (move_turn config s move).after (move_turn config s move).sent As
shown_then born chunk whole config heard s move w v k was made plain leads masters members marks stays entry As so =
    shown_by born chunk whole config heard s move w v k was made leads masters members marks stays entry (λ shown now. all_sent born chunk heard (move_turn config s move).after (move_turn config s move).sent v shown now plain made.right) As so

module _ (born chunk : ℕ) (whole : ℕ → Bool) (config : Config) (heard : Heard) (s : State) (w : ChunkWorld) (k : Shows chunk s w) (was : WasHeard (Says chunk w) heard) where
  abbrev Done : Move → Type 0
  Done move = FollowsAs born chunk whole w (move_turn config s move).after (move_turn config s move).sent (IsUnmoved w)

  -- the machine doesn't see it
  pub unseen : (move : Move) → IsMade config heard s move → list_all is_plain_message (move_turn config s move).sent ≡ true → ShowsEntry chunk (move_turn config s move).after w.entry → Done move
  unseen move made plain entry = shown_then born chunk whole config heard s move w w k was made plain Rests tt (λ j. inl refl) (same_epoch whole w w refl) (λ x there. there) entry (IsUnmoved w) (unmoved_by w w refl)

  -- nothing is recorded, and what changes in memory is of other chunks
  pub unrecorded : (move : Move) (plan : Plan) → move_turn config s move ≡ turned s plan → plan.records ≡ [] → IsMade config heard s move → list_all is_plain_message plan.sent ≡ true → list_all (leaves_memory chunk) plan.changes ≡ true → Done move
  unrecorded move plan is none made plain leaves =
      unseen move made (ap (λ (t : Turn). list_all is_plain_message t.sent) is ∙ plain)
      (leaves_entry chunk s (move_turn config s move).after w.entry
      (subst (λ d. LeavesDurable chunk s.durable d) (sym durable) (durable_itself chunk s.durable))
      (ap (λ d. is_listed d chunk) durable)
      (subst (λ v. SameMemory chunk s.volatile v) (sym (ap (λ (t : Turn). t.after.volatile) is)) (changes_leave chunk plan.changes s.volatile leaves)) k.entry)
    where
      durable : (move_turn config s move).after.durable ≡ s.durable
      durable = ap (λ (t : Turn). t.after.durable) is ∙ ap (λ rs. (fold with_record s rs).durable) none

  pub says_follows : (messages : List Message) → IsMade config heard s (Says_it messages) → list_all is_plain_message messages ≡ true → Done (Says_it messages)
  says_follows messages made plain = unseen (Says_it messages) made plain k.entry

  pub waits_follows : (req : ReqId) (waiting : Waiting) → IsMade config heard s (Waits req waiting) → Done (Waits req waiting)
  waits_follows req waiting made = unrecorded (Waits req waiting) (begin_pending req waiting) refl refl made refl refl

  pub restores_follows : (server : ℕ) (chunks : List ℕ) → IsMade config heard s (Restores server chunks) → Done (Restores server chunks)
  restores_follows server chunks made = unrecorded (Restores server chunks) (plan_of_restore server chunks) refl refl made refl refl

  pub flags_follows : (req : ReqId) (preparing : Bool) (epoch : ℕ) → IsMade config heard s (Flags req preparing epoch) → Done (Flags req preparing epoch)
  flags_follows req preparing epoch made =
      unrecorded (Flags req preparing epoch) (accepted_plan s req [] (changes.Prepare preparing ∷ []) [] epoch) refl refl made refl (answers_leave chunk s req (answers.Epoch epoch))

  pub tells_rollback_follows : (req : ReqId) (epoch : ℕ) → IsMade config heard s (TellsRollback req epoch) → Done (TellsRollback req epoch)
  tells_rollback_follows req epoch made =
      unrecorded (TellsRollback req epoch) (accepted_plan s req [] [] (tell_all config epoch ends.Rollback) epoch) refl refl made
      (plain_append (tell_all config epoch ends.Rollback) (reply_to req (Ok (answers.Epoch epoch)) ∷ []) (epochs_plain (count_from 0 config.servers) epoch ends.Rollback) refl) (answers_leave chunk s req (answers.Epoch epoch))

  -- a call that didn't wait is answered
  pub answer_follows : (req : ReqId) (answer : Answer) → IsMade config heard s (AnswersCall req answer false) → Done (AnswersCall req answer false)
  answer_follows req answer made = unrecorded (AnswersCall req answer false) (answered s req answer) refl refl made refl (answers_leave chunk s req answer)
