-- What the tree refuses by is told by no server: at each event, and over runs.
use Rattle.std.proofs.Common.{◌≡◌, ◌∙◌, ◌^◌, ◌<◌, ℕ, Bool, true, false, List, [], ◌∷◌, None, Some, Err, refl, sym, ap, subst, inl, inr, slice_get, arith}
use Rattle.std.specs.List.{AllByRecursion}
use Rattle.std.proofs.lemmas.Bool.{false≢true}
use Rattle.gs_base.specs.declared.numbers.Moment.{Moment}
use Rattle.gs_base.specs.declared.numbers.ReqId.{ReqId}
use Rattle.gs_base.specs.declared.refusal.Refusal.{Refusal}
use Rattle.gs_laws_chunks.proofs.lemmas.accounts.Giving.{GivesOr, IsFetchOf, handled_tells, ticks_give}
use Rattle.gs_laws_chunks.proofs.lemmas.accounts.Well.{lasts_left}
use Rattle.gs_laws_chunks.proofs.lemmas.answers.OfTreeAtServers.{edit_said, fetch_spares, keeps_on, new_keeps}
use Rattle.gs_laws_chunks.proofs.lemmas.answers.Served.{named}
use Rattle.gs_laws_chunks.proofs.lemmas.calls.Arming.{unarmed_alone}
use Rattle.gs_laws_chunks.specs.answers.OfTree.{AreSparing, BeginsSparing, KeepsSparing, ScriptsSparing, SparesTree, StaysSparing, is_of_tree}
use Rattle.gs_laws_chunks.specs.calls.Asked.{ArmsAlone}
use Rattle.gs_laws_chunks.specs.desks.Reached.{history}
use Rattle.gs_laws_lift.proofs.lemmas.stores.Beginning.{begins_none, silent_at}
use Rattle.gs_laws_lift.proofs.lemmas.stores.DoingAll.{masters_do_all}
use Rattle.gs_laws_lift.proofs.lemmas.stores.Placing.{kind_of}
use Rattle.gs_laws_lift.proofs.lemmas.stores.Posting.{posted_all}
use Rattle.gs_laws_lift.proofs.lemmas.stores.Serving.{set_cases}
use Rattle.gs_laws_lift.proofs.lemmas.stores.TellingAll.{does_all_say}
use Rattle.gs_laws_lift.specs.stores.Going.{Beats, Damages, Elsewhere, Hears, Kind, Loses, MasterGoes, OfMaster, OfServer, Restarts, ServerGoes, Ticks}
use Rattle.gs_laws_lift.specs.stores.Left.{as_left}
use Rattle.gs_laws_lift.specs.stores.Saying.{AreOfClient, AreOfMaster, IsOfClient, IsOfMaster}
use Rattle.gs_laws_server.proofs.lemmas.refusals.Telling.{quiet_ticks, tells_refusals}
use Rattle.gs_laws_server.specs.refusals.Refused.{Only, TellsOwn}
use Rattle.gs_laws_world.proofs.lemmas.steady.Keeping.{begins_keeping, step_keeps, step_within}
use Rattle.gs_laws_world.proofs.lemmas.steady.Through.{begins_through, step_on, tells_some}
use Rattle.gs_laws_world.specs.lasting.Lasting.{Lasts}
use Rattle.gs_laws_world.specs.steady.Saying.{IsStepWithin, KeepsTypes}
use Rattle.gs_laws_world.specs.steady.Through.{LastsThrough}
use Rattle.gs_laws_world.specs.steady.Unarmed.{unarmed}
use Rattle.gs_msg.specs.declared.body.Body.{Body}
use Rattle.gs_msg.specs.declared.body.Body.TheVariants as bodies
use Rattle.gs_msg.specs.declared.chunk.Chunk.TheVariants as chunks
use Rattle.gs_msg.specs.declared.event.DiskId.{DiskId}
use Rattle.gs_msg.specs.declared.message.Message.{Message}
use Rattle.gs_msg.specs.declared.node.NodeId.{NodeId}
use Rattle.gs_msg.specs.declared.node.NodeId.TheVariants as nodes
use Rattle.gs_nodes.specs.Nodes.{Nodes}
use Rattle.gs_nodes.specs.declared.place.MasterPlace.{MasterPlace}
use Rattle.gs_server.specs.Runs as at_server
use Rattle.gs_server.specs.Servers.{Server, handle_body, here_of, place_of}
use Rattle.gs_server.specs.Servers as servers
use Rattle.gs_shell_desk.specs.Ways.{way_of}
use Rattle.gs_world.proofs.Reaching.{HaveSizes}
use Rattle.gs_world.specs.Histories.{History}
use Rattle.gs_world.specs.Runs.{RunsTo, Step}
use Rattle.gs_world.specs.Sent.{Sent}

-- ---- messages

abbrev AllSpare : List Message → Type 0
AllSpare messages = AllByRecursion (λ (m : Message). SparesTree m.body) messages

all_two : (A B C : Message → Type 0) → ((m : Message) → A m → B m → C m) → (messages : List Message) → AllByRecursion A messages → AllByRecursion B messages → AllByRecursion C messages
all_two A B C each [] one two = tt
all_two A B C each (m ∷ messages) one two = (each m one.0 two.0, all_two A B C each messages one.1 two.1)

all_one : (A B : Message → Type 0) → ((m : Message) → A m → B m) → (messages : List Message) → AllByRecursion A messages → AllByRecursion B messages
all_one A B each [] one = tt
all_one A B each (m ∷ messages) one = (each m one.0, all_one A B each messages one.1)

-- the master tells nothing of the kind, and neither does a client
master_spares : (body : Body) → IsOfMaster body → SparesTree body
master_spares (bodies.Done req result) of = absurd of
master_spares (bodies.Bytes req result) of = absurd of
master_spares body of = tt

client_spares : (body : Body) → IsOfClient body → SparesTree body
client_spares (bodies.Done req result) of = absurd of
client_spares (bodies.Bytes req result) of = absurd of
client_spares body of = tt

masters_spare : (messages : List Message) → AreOfMaster messages → AllSpare messages
masters_spare messages of = all_one (λ (m : Message). IsOfMaster m.body) (λ (m : Message). SparesTree m.body) (λ m is. master_spares m.body is) messages of

clients_spare : (messages : List Message) → AreOfClient messages → AllSpare messages
clients_spare messages of = all_one (λ (m : Message). IsOfClient m.body) (λ (m : Message). SparesTree m.body) (λ m is. client_spares m.body is) messages of

-- ---- a server

abbrev is_fetch : Body → Bool
is_fetch (bodies.About handle (chunks.Fetch req stamp epoch asked)) = true
is_fetch body = false

fetched_spares : (s : Server) (from : NodeId) (body : Body) (moment : Moment) → is_fetch body ≡ true → AllSpare (handle_body s from body moment).sent
fetched_spares s from (bodies.About handle (chunks.Fetch req stamp epoch asked)) moment is = fetch_spares (here_of s moment handle None) (place_of handle s) req stamp epoch asked
fetched_spares s from body moment is = absurd (false≢true is)

module _ (s : Server) (message : Message) (moment : Moment) (keeps : KeepsSparing s) where
  own_spares : (req : ReqId) (refusal : Refusal) → TellsOwn s message moment req refusal → is_of_tree refusal ≡ false
  own_spares req refusal told = (let k = told.hears in edit_said s k.moment k.handle req k.stamp k.op refusal keeps told.said)

  body_spares : is_fetch message.body ≡ false → (body : Body) → Only (TellsOwn s message moment) body → GivesOr (IsFetchOf message.body) (IsFetchOf message.body) body → SparesTree body
  body_spares other (bodies.Done req (Err refusal)) told gives = own_spares req refusal told
  body_spares other (bodies.Bytes req (Err refusal)) told (chunk, stamp, epoch, asked, is) = absurd (false≢true (sym other ∙ ap is_fetch is))
  body_spares other body told gives = tt

  handled_spares : AllSpare (servers.handle s message moment).sent
  handled_spares = by_fetch (is_fetch message.body) refl
    where
      by_fetch : (b : Bool) → is_fetch message.body ≡ b → AllSpare (servers.handle s message moment).sent
      by_fetch true is = fetched_spares s message.from message.body moment is
      by_fetch false is =
          all_two (λ (m : Message). Only (TellsOwn s message moment) m.body) (λ (m : Message). GivesOr (IsFetchOf message.body) (IsFetchOf message.body) m.body) (λ (m : Message). SparesTree m.body) (λ m told gives. body_spares is m.body told gives) (servers.handle s message moment).sent
          (tells_refusals s message moment) (handled_tells s message.from message.body moment)

-- by itself it tells nothing of the kind
quiet_spares : (body : Body) → Only (λ req refusal. ⊥) body → GivesOr (λ req. ⊥) (λ req. ⊥) body → SparesTree body
quiet_spares (bodies.Done req (Err refusal)) told gives = absurd told
quiet_spares (bodies.Bytes req (Err refusal)) told gives = absurd gives
quiet_spares body told gives = tt

server_spares : (sent : Sent) (id : ℕ) (s after : Server) (messages : List Message) → ServerGoes sent id s after messages → KeepsSparing s → AllSpare messages
server_spares sent id s after messages (Hears message moment was to is sends) keeps = subst AllSpare (sym sends) (handled_spares s message moment keeps)
server_spares sent id s after messages (Ticks moment is sends) keeps =
    subst AllSpare (sym sends)
    (all_two (λ (m : Message). Only (λ req refusal. ⊥) m.body) (λ (m : Message). GivesOr (λ req. ⊥) (λ req. ⊥) m.body) (λ (m : Message). SparesTree m.body) (λ m told gives. quiet_spares m.body told gives) (servers.tick s moment).sent (quiet_ticks s moment) (ticks_give (λ req. ⊥) (λ req. ⊥) s moment))
server_spares sent id s after messages (Beats is sends) keeps = subst AllSpare (sym sends) (tt, tt)
server_spares sent id s after messages (Restarts is sends) keeps = subst AllSpare (sym sends) tt
server_spares sent id s after messages (Loses handle is sends) keeps = subst AllSpare (sym sends) tt
server_spares sent id s after messages (Damages handle block is sends) keeps = subst AllSpare (sym sends) tt

server_keeps : (sent : Sent) (id : ℕ) (s after : Server) (messages : List Message) → ServerGoes sent id s after messages → KeepsSparing s → KeepsSparing after
server_keeps sent id s after messages (Hears message moment was to is sends) keeps = subst KeepsSparing (sym is) (keeps_on (at_server.Hears message moment) s keeps)
server_keeps sent id s after messages (Ticks moment is sends) keeps = subst KeepsSparing (sym is) (keeps_on (at_server.Ticks moment) s keeps)
server_keeps sent id s after messages (Beats is sends) keeps = subst KeepsSparing (sym is) keeps
server_keeps sent id s after messages (Restarts is sends) keeps = subst KeepsSparing (sym is) (keeps_on at_server.Restarts s keeps)
server_keeps sent id s after messages (Loses handle is sends) keeps = subst KeepsSparing (sym is) (keeps_on (at_server.Loses handle) s keeps)
server_keeps sent id s after messages (Damages handle block is sends) keeps = subst KeepsSparing (sym is) (keeps_on (at_server.Damages handle block) s keeps)

-- ---- a step

module _ {D : Type 0} (seen : D → List ℕ) (failures : D → ℕ) (armed : DiskId → ℕ → MasterPlace D → MasterPlace D) where
  module _ (old new : History D) (lasts : LastsThrough seen old.nodes.master) (still : LastsThrough seen new.nodes.master) (are : AreSparing old) where
    of_master : (place : MasterPlace D) (messages : List Message) → new.nodes.master ≡ place → MasterGoes seen failures armed old.nodes.config old.sent old.nodes.master place messages → AreOfMaster messages
    of_master place messages is goes =
        does_all_say seen armed old.sent old.nodes.master place messages
        (masters_do_all seen failures armed old.nodes.config old.sent old.nodes.master place messages (lasts_left seen old.nodes.master lasts) (subst (λ there. Lasts seen (as_left there)) is (lasts_left seen new.nodes.master still)) goes)

    by_kind : (step : Step) → Kind seen failures armed step old new → AreSparing new
    by_kind step (OfServer id s after messages moment found goes met there master posted) = record {
      sent = posted_all (λ (m : Message). SparesTree m.body) moment (nodes.Server id) messages old.sent new.sent posted are.sent (server_spares old.sent id s after messages goes (are.kept id s found));
      kept = λ j x at. elim (set_cases old.nodes.servers id j after x (subst (λ xs. slice_get xs j ≡ Some x) there at)) [
        | inl here ↦ subst KeepsSparing (sym here.1) (server_keeps old.sent id s after messages goes (are.kept id s found))
        | inr elsewhere ↦ are.kept j x elsewhere.1
      ];
    }
    by_kind step (OfMaster place messages moment goes there master posted) = record {
      sent = posted_all (λ (m : Message). SparesTree m.body) moment nodes.Master messages old.sent new.sent posted are.sent (masters_spare messages (of_master place messages master goes));
      kept = λ j x at. are.kept j x (subst (λ xs. slice_get xs j ≡ Some x) there at);
    }
    by_kind step (Elsewhere by messages moment of there master posted) = record {
      sent = posted_all (λ (m : Message). SparesTree m.body) moment by messages old.sent new.sent posted are.sent (clients_spare messages of);
      kept = λ j x at. are.kept j x (subst (λ xs. slice_get xs j ≡ Some x) there at);
    }

  -- ---- over runs

  module _ (arms : ArmsAlone seen failures armed) where
    run_sparing : (steps : List Step) (old new : History D) → RunsTo seen failures armed steps old new → AllByRecursion IsStepWithin steps → KeepsTypes old → LastsThrough seen old.nodes.master → AreSparing old → AreSparing new
    run_sparing [] old new same within types lasts are = subst (λ (h : History D). AreSparing h) (sym same) are
    run_sparing (step ∷ steps) old new (mid, goes, rest) within types lasts are =
        let d = tells_some seen failures old.nodes.master lasts in
        let on = step_on seen failures armed arms.lasts arms.told step old mid d.0 goes (step_within seen failures armed step old within.0 types) lasts d.1 in
        run_sparing steps mid new rest within.1 (step_keeps seen failures armed step old mid goes within.0 types) on.lasts (by_kind old mid lasts on.lasts are step (kind_of seen failures armed step old mid goes (named step old within.0 types)))

  pub stays_sparing : StaysSparing seen failures armed
  stays_sparing arms steps old new runs within types lasts are = run_sparing arms steps old new runs within types lasts are

-- ---- a new store, and what a script leaves

pub begins_sparing : HaveSizes → {D : Type 0} (seen : D → List ℕ) (failures : D → ℕ) (armed : DiskId → ℕ → MasterPlace D → MasterPlace D) → BeginsSparing seen failures armed
begins_sparing sizes {D} seen failures armed config clients disks new none begun = record {
  sent = begins_none seen failures armed sizes config (λ req. []) clients disks new none begun (λ (m : Message). SparesTree m.body);
  kept = λ id s found. subst KeepsSparing (sym (silent_at config config.servers id s (subst (λ (n : Nodes D). slice_get n.servers id ≡ Some s) begun.nodes found))) (new_keeps id config.block config.chunk);
}

one_client : 1 < 2 ^ 32
one_client = omega arith

pub scripts_sparing : HaveSizes → {D : Type 0} → ScriptsSparing D
scripts_sparing sizes {D} seen failures config disks desk r none =
    let began = r.reached.begins in
    stays_sparing seen failures unarmed (unarmed_alone seen failures) r.reached.steps r.reached.begun (history r.sent (way_of desk.wire)) r.reached.runs r.within (begins_keeping seen failures unarmed config 1 disks r.reached.begun one_client began)
    (begins_through seen failures unarmed config 1 disks r.reached.begun none began) (begins_sparing sizes seen failures unarmed config 1 disks r.reached.begun none began)
