-- In a store to which lines have led each slot of each server is one of a store of its sizes, and what was sent carries no image that was sealed above.
use Rattle.std.proofs.Common.{◌≡◌, ◌++◌, inl, inr, ℕ, Bool, true, false, List, [], ◌∷◌, Option, Some, None, Result, Ok, Err, sym, subst, arith, slice_get}
use Rattle.gs_base.specs.declared.config.Config.{Config}
use Rattle.gs_base.specs.declared.numbers.Moment.{Moment}
use Rattle.gs_base.specs.declared.numbers.ReqId.{ReqId}
use Rattle.gs_base.specs.declared.refusal.Refusal.{Refusal}
use Rattle.gs_base.specs.declared.refusal.Refusal.TheVariants as refusals
use Rattle.gs_client_dialogue.specs.Dialogues.{Ask, Dialogue, Grow, Say}
use Rattle.gs_journal.specs.Records.{fresh, standing}
use Rattle.gs_journal.specs.declared.version.Version.{Version}
use Rattle.gs_journal.specs.declared.version.Version.TheVariants as versions
use Rattle.gs_master.specs.Masters.{MasterAnswers, MasterOf}
use Rattle.gs_master.specs.Ticking.{AnswersAs, AnswersTick, lacking, pressed_all, writes_one}
use Rattle.gs_master.specs.declared.turn.Turn.{Turn as Told}
use Rattle.gs_master_record.specs.Plain.{PlainEntry}
use Rattle.gs_master_spec.specs.Applied.{records_behind, replayed}
use Rattle.gs_master_spec.specs.Durable.{Durable, start}
use Rattle.gs_master_spec.specs.Handling.{anew, answered_or, handle, recover, recovered_from, reopened, restarted, tick, written_unless}
use Rattle.gs_master_spec.specs.Outcomes.{caller_of, unsure}
use Rattle.gs_master_spec.specs.State.{Log, State, Turn, and_then}
use Rattle.gs_msg.specs.declared.body.Body.{Body}
use Rattle.gs_msg.specs.declared.body.Body.TheVariants as bodies
use Rattle.gs_msg.specs.declared.chunk.Chunk.TheVariants as chunks
use Rattle.gs_msg.specs.declared.event.Happening.{Happening}
use Rattle.gs_msg.specs.declared.event.Happening.TheVariants as happenings
use Rattle.gs_msg.specs.declared.message.Message.{Message}
use Rattle.gs_msg.specs.declared.node.NodeId.TheVariants as ids
use Rattle.gs_nodes.specs.Happenings.{MasterHears, MasterTicks, Opens, Reopens, refusal_of_call}
use Rattle.gs_nodes.specs.Nodes.{Nodes}
use Rattle.gs_nodes.specs.declared.place.MasterPlace.{MasterPlace}
use Rattle.gs_nodes.specs.declared.place.MasterPlace.TheVariants.{Away, Closed, Standing}
use Rattle.gs_server.specs.Runs as at_server
use Rattle.gs_server.specs.Servers.{Server}
use Rattle.gs_world.proofs.Reaching.{HaveSizes}
use Rattle.gs_world.specs.Histories.{History}
use Rattle.gs_world.specs.Runs.{Comes, Step, Takes}
use Rattle.gs_world.specs.Sent.{Sent}
use Rattle.gs_laws_chunks.proofs.lemmas.desks.Asking.{line_asks}
use Rattle.gs_laws_lift.proofs.lemmas.stores.Beginning.{begins_kept, begins_none, silent_at}
use Rattle.gs_laws_lift.proofs.lemmas.stores.Placing.{kind_of}
use Rattle.gs_laws_lift.proofs.lemmas.stores.Posting.{posted_all}
use Rattle.gs_laws_lift.proofs.lemmas.stores.Servers.{goes_server}
use Rattle.gs_laws_lift.proofs.lemmas.stores.Serving.{set_cases}
use Rattle.gs_laws_lift.specs.stores.Going.{AllSent, Beats, Damages, Elsewhere, Hears, Kind, Loses, MasterArmed, MasterGoes, MasterHeard, MasterOpened, MasterTicked, MasterUnopened, OfMaster, OfServer, Restarts, ServerGoes, Ticks}
use Rattle.gs_laws_lift.specs.stores.Saying.{AreOfClient, IsOfClient}
use Rattle.gs_laws_lift.specs.stores.Showing.{IsServer}
use Rattle.gs_laws_scripts.specs.answers.Meeting.{IsAskedSo, IsMet, IsOfScript, Occurs, RunsSo}
use Rattle.gs_laws_world.proofs.lemmas.steady.Keeping.{begins_keeping, step_keeps, step_within}
use Rattle.gs_laws_world.proofs.lemmas.steady.MasterSays.{EachKind, message_said, reopened_said, steps_said, tick_said}
use Rattle.gs_laws_world.specs.lasting.Lasting.{StepNamed}
use Rattle.gs_laws_world.specs.steady.Asking.{Asks, MayBeAsked}
use Rattle.gs_laws_world.specs.steady.Saying.{IsAskedWithin, IsStepWithin, KeepsTypes}
use Rattle.gs_laws_world.specs.steady.Steady.{StepWithin}
use Rattle.gs_laws_world.specs.steady.Unarmed.{unarmed}
use Rattle.gs_laws_image.specs.Slots.{IsSealedBody}
use Rattle.gs_laws_image.proofs.Saying.{AllSealed, heard_says, tick_says}
use Rattle.gs_laws_image.proofs.Slots.{AllSlotsOf, new_slots, slots_behind}

-- ---- what a script makes happen is within the types

-- what occurs in a dialogue that asks such requests alone is one of them
occurs_so : {Q R A : Type 0} (May : Q → Type 0) (Ends : A → Type 0) (asked : Q) (call : Dialogue Q R A) → Asks May Ends call → Occurs asked call → May asked
occurs_so May Ends asked (Say said) all never = absurd never
occurs_so May Ends asked (Ask first more) (one, others) (inl is) = subst May (sym is) one
occurs_so May Ends asked (Ask first more) (one, others) (inr (reply, later)) = occurs_so May Ends asked (more reply) (others reply) later
occurs_so May Ends asked (Grow rest) all occurs = occurs_so May Ends asked rest all occurs

asked_within : (config : Config) (happening : Happening) → IsAskedSo config happening → IsAskedWithin happening
asked_within config (happenings.Ask req asked) (client, number, line) = (
  omega (arith, number),
  occurs_so MayBeAsked (λ said. Unit {0}) asked line.call (line_asks config.chunk line.line line.request line.call line.reads line.asks) line.occurs,
)
asked_within config happening so = tt

within : (config : Config) (step : Step) → IsOfScript config step → IsStepWithin step
within config (Comes event) (moment, asks) = (moment, asked_within config event.happening asks)
within config (Takes client) so = tt

named : {D : Type 0} (step : Step) (old : History D) → StepWithin step old → StepNamed step old
named (Comes event) old so = so.0
named (Takes client) old so = tt

-- ---- what the master says

kinds : EachKind (λ (m : Message). IsSealedBody m.body)
kinds = record {
  reply = λ req result. tt;
  create = λ chunk stamp server. tt;
  advance = λ chunk stamp server. tt;
  grant = λ chunk given server. tt;
  renewed = λ chunk stamp end server. tt;
  copy_out = λ chunk stamp target with_sealed server. tt;
  drop = λ chunk epoch promise server. tt;
  make_copy = λ server old stamp new next. tt;
  epoch = λ server epoch end. tt;
}

both_sealed : (xs ys : List Message) → AllSealed xs → AllSealed ys → AllSealed (xs ++ ys)
both_sealed [] ys a b = b
both_sealed (x ∷ xs) ys a b = (a.0, both_sealed xs ys a.1 b)

unsure_sealed : (caller : Option ReqId) → AllSealed (unsure caller)
unsure_sealed None = tt
unsure_sealed (Some req) = (tt, tt)

refusal_sealed : (caller : Option ReqId) → AllSealed (refusal_of_call caller)
refusal_sealed None = tt
refusal_sealed (Some req) = (tt, tt)

unless_sealed : (s : State) (refusal : Option Refusal) → AllSealed (written_unless s refusal).sent
unless_sealed s None = tt
unless_sealed s (Some refusal) = tt

anew_sealed : (version : Version) (s : State) → AllSealed (anew version s).sent
anew_sealed versions.One s = unless_sealed s _
anew_sealed versions.Two s = tt

recovered_sealed : (config : Config) (version : Version) (entries : List PlainEntry) (log : Log) (t : Turn) → recover config version entries log ≡ Ok t → AllSealed t.sent
unfolding recover
recovered_sealed config version entries log t is = by_durable (record log { records = records_behind entries }) (replayed start entries) is
  where
    ok_is : (x y : Turn) → ◌≡◌ {A = Result Turn Refusal} (Ok x) (Ok y) → x ≡ y
    ok_is x y h = cc

    never : (e : Refusal) (y : Turn) → ◌≡◌ {A = Result Turn Refusal} (Err e) (Ok y) → ⊥
    never e y h = cc

    by_said : (u : Turn) (said : Option Refusal) → AllSealed u.sent → answered_or u said ≡ Ok t → AllSealed t.sent
    by_said u None well h = subst (λ (x : Turn). AllSealed x.sent) (ok_is u t h) well
    by_said u (Some e) well h = absurd (never e t h)

    by_durable : (l : Log) (o : Option Durable) → recovered_from config version l o ≡ Ok t → AllSealed t.sent
    by_durable l None h = absurd (never refusals.BadLine t h)
    by_durable l (Some d) h =
        let first = anew version (restarted d l) in
        let u = and_then first (reopened config) in
        by_said u u.said (both_sealed first.sent (reopened config first.after).sent (anew_sealed version (restarted d l)) (reopened_said (λ (m : Message). IsSealedBody m.body) kinds config first.after.durable)) h

module _ {D : Type 0} (seen : D → List ℕ) (failures : D → ℕ) where
  answers_sealed : (caller : Option ReqId) (t : Turn) (m after : MasterOf D) (turn : Told) → AllSealed t.sent → MasterAnswers seen failures caller t m (Ok turn) after → AllSealed turn.sent.items
  answers_sealed caller t m after turn none (inl is) = subst AllSealed (sym is.done.sends) none
  answers_sealed caller t m after turn none (inr (place, is)) = subst AllSealed (sym is.cut.sends) (unsure_sealed caller)

  as_sealed : (b : Bool) (t steps : Turn) (m after : MasterOf D) (turn : Told) → AllSealed t.sent → AnswersAs seen failures b t steps m turn after → AllSealed turn.sent.items
  as_sealed true t steps m after turn none (inl is) = subst AllSealed (sym is.done.sends) none
  as_sealed true t steps m after turn none (inr (place, is)) = subst AllSealed (sym is.cut.sends) tt
  as_sealed false t steps m after turn none (inl is) = subst AllSealed (sym is.done.sends) none
  as_sealed false t steps m after turn none (inr (place, is)) = subst AllSealed (sym is.cut.sends) tt

  hears_sealed : (message : Message) (moment : Moment) (place next : MasterPlace D) (turn : Told) → MasterHears seen failures message moment place (Ok turn) next → AllSealed turn.sent.items
  hears_sealed message moment (Standing m) next turn (after, is, done) =
      answers_sealed (caller_of message.body) (handle m.config m.state message moment) m after turn (message_said (λ (n : Message). IsSealedBody n.body) kinds m.config m.state message moment) done
  hears_sealed message moment (Closed first second) next turn meets = subst AllSealed (sym meets.1) (refusal_sealed (caller_of message.body))
  hears_sealed message moment Away next turn meets = subst AllSealed (sym meets.1) (refusal_sealed (caller_of message.body))

  tick_sealed : (moment : Moment) (m after : MasterOf D) (turn : Told) → AnswersTick seen failures moment m (Ok turn) after → AllSealed turn.sent.items
  tick_sealed moment m after turn (inl whole) =
      as_sealed (writes_one m.state (pressed_all m.state moment)) (tick m.state moment) (pressed_all m.state moment) m after turn (tick_said (λ (n : Message). IsSealedBody n.body) kinds m.state moment) whole
  tick_sealed moment m after turn (inr (sound, is_due, none, done)) =
      answers_sealed None (lacking (pressed_all m.state moment)) m after turn (steps_said (λ (n : Message). IsSealedBody n.body) kinds m.state moment) done

  ticks_sealed : (moment : Moment) (place next : MasterPlace D) (turn : Told) → MasterTicks seen failures moment place (Ok turn) next → AllSealed turn.sent.items
  ticks_sealed moment (Standing m) next turn (after, is, done) = tick_sealed moment m after turn done
  ticks_sealed moment (Closed first second) next turn meets = subst AllSealed (sym meets.1) tt
  ticks_sealed moment Away next turn meets = subst AllSealed (sym meets.1) tt

  opens_sealed : (config : Config) (pair : D × D) (turn : Told) (new : MasterPlace D) → Opens seen failures config pair (Ok turn) new → AllSealed turn.sent.items
  opens_sealed config pair turn new (after, is, opening, said) =
      subst AllSealed (sym opening.sends) (recovered_sealed config (standing (seen pair.0) (seen pair.1)).0 opening.entries opening.log opening.turn opening.recovers)

  reopens_sealed : (config : Config) (place new : MasterPlace D) (turn : Told) → Reopens seen failures config place (Ok turn) new → AllSealed turn.sent.items
  reopens_sealed config (Standing m) new turn opening = opens_sealed config (m.journal.first, m.journal.second) turn new opening
  reopens_sealed config (Closed first second) new turn opening = opens_sealed config (first, second) turn new opening
  reopens_sealed config Away new turn (same, refused) = absurd cc

  goes_sealed : (config : Config) (sent : Sent) (old new : MasterPlace D) (messages : List Message) → MasterGoes seen failures unarmed config sent old new messages → AllSealed messages
  goes_sealed config sent old new messages (MasterHeard message moment turn was to may hears is) = subst AllSealed (sym is) (hears_sealed message moment old new turn hears)
  goes_sealed config sent old new messages (MasterTicked moment turn ticks is) = subst AllSealed (sym is) (ticks_sealed moment old new turn ticks)
  goes_sealed config sent old new messages (MasterOpened turn opens is) = subst AllSealed (sym is) (reopens_sealed config old new turn opens)
  goes_sealed config sent old new messages (MasterUnopened refusal opens is) = subst AllSealed (sym is) tt
  goes_sealed config sent old new messages (MasterArmed disk call same is) = subst AllSealed (sym is) tt

-- ---- what clients say

client_sealed : (body : Body) → IsOfClient body → IsSealedBody body
client_sealed (bodies.About handle (chunks.CopyIn stamp image sealed)) never = absurd never
client_sealed (bodies.About handle said) of = tt
client_sealed body of = tt

clients_sealed : (messages : List Message) → AreOfClient messages → AllSealed messages
clients_sealed [] of = tt
clients_sealed (m ∷ messages) of = (client_sealed m.body of.0, clients_sealed messages of.1)

-- ---- a server

module _ (config : Config) where
  goes_slots : (id : ℕ) (sent : Sent) (s after : Server) (messages : List Message) → AllSent (λ (m : Message). IsSealedBody m.body) sent → ServerGoes sent id s after messages → IsServer config id s
      → AllSlotsOf config.block config.chunk s → AllSlotsOf config.block config.chunk after
  goes_slots id sent s after messages sealed (Hears message moment was to is sends) k all =
      subst (AllSlotsOf config.block config.chunk) (sym is) (slots_behind config.block config.chunk (at_server.Hears message moment) s k.block k.size (sealed was.0 message was.1) all)
  goes_slots id sent s after messages sealed (Ticks moment is sends) k all = subst (AllSlotsOf config.block config.chunk) (sym is) (slots_behind config.block config.chunk (at_server.Ticks moment) s k.block k.size tt all)
  goes_slots id sent s after messages sealed (Beats is sends) k all = subst (AllSlotsOf config.block config.chunk) (sym is) all
  goes_slots id sent s after messages sealed (Restarts is sends) k all = subst (AllSlotsOf config.block config.chunk) (sym is) (slots_behind config.block config.chunk at_server.Restarts s k.block k.size tt all)
  goes_slots id sent s after messages sealed (Loses handle is sends) k all = subst (AllSlotsOf config.block config.chunk) (sym is) (slots_behind config.block config.chunk (at_server.Loses handle) s k.block k.size tt all)
  goes_slots id sent s after messages sealed (Damages handle block is sends) k all =
      subst (AllSlotsOf config.block config.chunk) (sym is) (slots_behind config.block config.chunk (at_server.Damages handle block) s k.block k.size tt all)

  goes_says : (id : ℕ) (sent : Sent) (s after : Server) (messages : List Message) → ServerGoes sent id s after messages → AllSlotsOf config.block config.chunk s → AllSealed messages
  goes_says id sent s after messages (Hears message moment was to is sends) all = subst AllSealed (sym sends) (heard_says s message moment (λ handle. (all handle).sealed))
  goes_says id sent s after messages (Ticks moment is sends) all = subst AllSealed (sym sends) (tick_says s moment)
  goes_says id sent s after messages (Beats is sends) all = subst AllSealed (sym sends) (tt, tt)
  goes_says id sent s after messages (Restarts is sends) all = subst AllSealed (sym sends) tt
  goes_says id sent s after messages (Loses handle is sends) all = subst AllSealed (sym sends) tt
  goes_says id sent s after messages (Damages handle block is sends) all = subst AllSealed (sym sends) tt

  -- ---- a store

  -- what was sent carries no image that was sealed above, and each slot of each server is one of a store of its sizes
  pub record KeepsSlots {D : Type 0} (h : History D) : Type 0 where
    pub sent : AllSent (λ (m : Message). IsSealedBody m.body) h.sent
    pub servers : (id : ℕ) (s : Server) → slice_get h.nodes.servers id ≡ Some s → IsServer config id s × AllSlotsOf config.block config.chunk s

  abbrev Whole : ℕ → Server → Type 0
  Whole id s = IsServer config id s × AllSlotsOf config.block config.chunk s

  module _ {D : Type 0} (seen : D → List ℕ) (failures : D → ℕ) where
    kind_keeps : (step : Step) (old new : History D) → KeepsSlots old → Kind seen failures unarmed step old new → KeepsSlots new
    kind_keeps step old new keeps (OfServer id s after messages moment found goes met list master posted) =
        let k = keeps.servers id s found in
        let went : Whole id after = (goes_server config id old.sent s after messages goes k.0, goes_slots id old.sent s after messages keeps.sent goes k.0 k.1) in
        record {
          sent = posted_all (λ (m : Message). IsSealedBody m.body) moment (ids.Server id) messages old.sent new.sent posted keeps.sent (goes_says id old.sent s after messages goes k.1);
          servers = λ j x at. elim (set_cases old.nodes.servers id j after x (subst (λ xs. slice_get xs j ≡ Some x) list at)) [
            | inl here ↦ subst (λ n. Whole n x) (sym here.0) (subst (Whole id) (sym here.1) went)
            | inr there ↦ keeps.servers j x there.1
          ];
        }
    kind_keeps step old new keeps (OfMaster place messages moment goes list master posted) = record {
      sent = posted_all (λ (m : Message). IsSealedBody m.body) moment ids.Master messages old.sent new.sent posted keeps.sent (goes_sealed seen failures old.nodes.config old.sent old.nodes.master place messages goes);
      servers = λ id s found. keeps.servers id s (subst (λ xs. slice_get xs id ≡ Some s) list found);
    }
    kind_keeps step old new keeps (Elsewhere by messages moment are list master posted) = record {
      sent = posted_all (λ (m : Message). IsSealedBody m.body) moment by messages old.sent new.sent posted keeps.sent (clients_sealed messages are);
      servers = λ id s found. keeps.servers id s (subst (λ xs. slice_get xs id ≡ Some s) list found);
    }

    runs_keep : (disks : D × D) (steps : List Step) (old new : History D) → RunsSo seen failures config disks steps old new → KeepsTypes old → KeepsSlots old → KeepsSlots new
    runs_keep disks [] old new same types keeps = subst (λ (h : History D). KeepsSlots h) (sym same) keeps
    runs_keep disks (step ∷ steps) old new (mid, goes, so, still, stands, rest) types keeps =
        let asked = within config step so in
        runs_keep disks steps mid new rest (step_keeps seen failures unarmed step old mid goes asked types)
        (kind_keeps step old mid keeps (kind_of seen failures unarmed step old mid goes (named step old (step_within seen failures unarmed step old asked types))))

    pub met_keeps : HaveSizes → (disks : D × D) (now : History D) → standing (seen disks.0) (seen disks.1) ≡ fresh → IsMet seen failures config disks now → KeepsSlots now
    met_keeps sizes disks now none met =
        runs_keep disks met.steps met.begun now met.runs (begins_keeping seen failures unarmed config 1 disks met.begun (omega arith) met.begins) (record {
          sent = begins_none seen failures unarmed sizes config (λ req. []) 1 disks met.begun none met.begins (λ (m : Message). IsSealedBody m.body);
          servers = λ id s found. (
            (begins_kept seen failures unarmed sizes config (λ req. []) 1 disks met.begun none met.begins).servers id s found,
            subst (AllSlotsOf config.block config.chunk) (sym (silent_at config config.servers id s (subst (λ (n : Nodes D). slice_get n.servers id ≡ Some s) met.begins.nodes found))) (new_slots config.block config.chunk id),
          );
        })
