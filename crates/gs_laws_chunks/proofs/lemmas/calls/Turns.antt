-- The turn that a master makes at a step is made of moves for calls that were sent.
use Rattle.std.proofs.Common.{◌≡◌, ◌∙◌, ◌⊎◌, ◌<◌, inl, inr, ℕ, zero, suc, true, false, List, [], ◌∷◌, length, Option, Some, None, Contains, refl, sym, ap, subst, get_or, arith}
use Rattle.std.specs.Prelude.{MatchBool}
use Rattle.gs_base.specs.declared.config.Config.{Config}
use Rattle.gs_base.specs.declared.numbers.Moment.{Moment}
use Rattle.gs_base.specs.declared.numbers.ReqId.{ReqId}
use Rattle.gs_base.specs.declared.refusal.Refusal.{Refusal}
use Rattle.gs_base.specs.declared.refusal.Refusal.TheVariants as refusals
use Rattle.gs_master.specs.Journaled.{text_seen}
use Rattle.gs_master.specs.Masters.{MasterOf}
use Rattle.gs_master.specs.Ticking.{pressed_all}
use Rattle.gs_laws_lift.proofs.lemmas.calls.Recorded.{records_are_for}
use Rattle.gs_laws_lift.proofs.lemmas.calls.Told.{sent_are_for}
use Rattle.gs_laws_lift.proofs.lemmas.calls.Waits.{asked_grow, asked_stay}
use Rattle.gs_laws_lift.specs.calls.Waits.{AreAskedFor, HearsOneOf}
use Rattle.gs_laws_master.proofs.lemmas.standing.StandingRuns.{steps_fit}
use Rattle.gs_laws_master.proofs.lemmas.telling.Writing.{all_steps_written}
use Rattle.gs_laws_master.specs.Standing.{Comes as HearsAt, Ticks as TicksAt}
use Rattle.gs_laws_master.specs.Written.{IsSteady}
use Rattle.gs_laws_moves.proofs.lemmas.moves.Made.{ticks_are_for}
use Rattle.gs_laws_moves.proofs.lemmas.moves.Stands.{events_stand_for, once_stands_also}
use Rattle.gs_laws_moves.specs.moves.Epochs.{ByItself, Closes, EndsOnce, Within, closes, is_alone}
use Rattle.gs_laws_moves.specs.moves.ForCalls.{IsFor, IsMadeWellFor}
use Rattle.gs_laws_moves.specs.moves.Guards.{Heard}
use Rattle.gs_laws_moves.specs.moves.Laws.{said_from}
use Rattle.gs_laws_moves.specs.moves.Moves.{Chain, Move, Moves, Rests, Then, move_turn}
use Rattle.gs_master_spec.specs.Durable.{is_rolling}
use Rattle.gs_master_spec.specs.Handling.{handle}
use Rattle.gs_master_spec.specs.State.{State, Turn, is_failed}
use Rattle.gs_msg.specs.declared.body.Body.{Body}
use Rattle.gs_msg.specs.declared.body.Body.TheVariants as bodies
use Rattle.gs_msg.specs.declared.call.Call.{Call}
use Rattle.gs_msg.specs.declared.event.Happening.{Happening}
use Rattle.gs_msg.specs.declared.event.Happening.TheVariants as happenings
use Rattle.gs_msg.specs.declared.node.NodeId.{NodeId}
use Rattle.gs_msg.specs.declared.node.NodeId.TheVariants as nodes
use Rattle.gs_msg.specs.declared.node.StoreNode.TheVariants as keepers
use Rattle.gs_nodes.specs.declared.place.MasterPlace.{MasterPlace}
use Rattle.gs_nodes.specs.declared.place.MasterPlace.TheVariants.{Standing}
use Rattle.gs_world.specs.Histories.{History}
use Rattle.gs_laws_world.specs.lasting.Lasting.{HearsNamed}
use Rattle.gs_world.specs.Runs.{Comes, Step, Takes}
use Rattle.gs_world.specs.Sent.{Sent, message_of}
use Rattle.gs_laws_chunks.specs.answers.Asked.{AreAsked, HasAsked, SaysOf}
use Rattle.gs_laws_world.specs.steady.Steady.{HearsWithin, IsHeardAt, StandsSteady, StepWithin, TellsSteady}
use Rattle.gs_laws_world.specs.steady.Through.{LastsThrough, Turns, TurnsAt}
use Rattle.gs_laws_chunks.specs.calls.Asked.{IsCallSent, IsForCalls, WaitAsSent, WereSent, heard_at, heard_of}

-- ---- lists of calls

among_first : {X : Type 0} (x : X) (rest : List X) → Contains (x ∷ rest) x
among_first x rest = (0, omega arith, refl)

among_more : {X : Type 0} (head x : X) (rest : List X) → Contains rest x → Contains (head ∷ rest) x
among_more head x rest p = (suc p.0, omega (arith, p.1), p.2)

one_of : {X : Type 0} (head x : X) (rest : List X) → Contains (head ∷ rest) x → (head ≡ x) ⊎ Contains rest x
one_of {X} head x rest p = by_index p.0 p.1 p.2
  where
    by_index : (k : ℕ) → k < suc (length rest) → get_or (head ∷ rest) k x ≡ x → (head ≡ x) ⊎ Contains rest x
    by_index zero within found = inl found
    by_index (suc k) within found = inr (k, omega arith, found)

-- with the one that is heard
abbrev pub with_heard : Heard → List (ReqId × Call) → List (ReqId × Call)
with_heard (Some (from, bodies.Call req call)) all = (req, call) ∷ all
with_heard heard all = all

pub still_called : (heard : Heard) (all : List (ReqId × Call)) (x : ReqId × Call) → Contains all x → Contains (with_heard heard all) x
still_called None all x there = there
still_called (Some (from, bodies.Call req call)) all x there = among_more (req, call) x all there
still_called (Some (from, body)) all x there = there

pub hears_one : (heard : Heard) (all : List (ReqId × Call)) → HearsOneOf (with_heard heard all) heard
hears_one heard all from req call is = subst (λ h. Contains (with_heard h all) (req, call)) (sym is) (among_first (req, call) all)

were_all : (sent : Sent) (heard : Heard) (all : List (ReqId × Call)) → WereSent sent all → ((from : ℕ) (req : ReqId) (call : Call) → heard ≡ Some (from, bodies.Call req call) → IsCallSent sent req call) → WereSent sent (with_heard heard all)
were_all sent None all were is = were
were_all sent (Some (from, bodies.Call req call)) all were is = λ r c there. by r c (one_of (req, call) (r, c) all there)
  where
    by : (r : ReqId) (c : Call) → (◌≡◌ {A = ReqId × Call} (req, call) (r, c)) ⊎ Contains all (r, c) → IsCallSent sent r c
    by r c (inl same) = subst (λ (x : ReqId × Call). IsCallSent sent x.0 x.1) same (is from req call refl)
    by r c (inr before) = were r c before
were_all sent (Some (from, body)) all were is = were

-- ---- what is heard

abbrev body_in : Body → Heard → Body
body_in body None = body
body_in body (Some said) = said.1

none_some : {a : ℕ × Body} → ◌≡◌ {A = Option (ℕ × Body)} None (Some a) → ⊥
none_some h = absurd (cc)

pub said_is : (from : NodeId) (body : Body) (by : ℕ) (req : ReqId) (call : Call) → said_from from body ≡ Some (by, bodies.Call req call) → body ≡ bodies.Call req call
said_is (nodes.Server server) body by req call is = ap (body_in body) is
said_is (nodes.Client client) (bodies.Call other said) by req call is = ap (body_in (bodies.Call other said)) is
said_is (nodes.Client client) body by req call is = absurd (none_some is)
said_is nodes.Master body by req call is = absurd (none_some is)

module _ {D : Type 0} (seen : D → List ℕ) where
  call_sent : (old : History D) → AreAsked seen old → (moment : Moment) (happening : Happening) (m : MasterOf D) (t : Turn) → Turns moment happening old m t → (from : ℕ) (req : ReqId) (call : Call)
      → heard_at (Comes (record { moment = moment; happening = happening })) old.sent ≡ Some (from, bodies.Call req call) → IsCallSent old.sent req call
  call_sent old asked moment (happenings.Deliver id) m t (message, found, to, made) from req call is =
      let body = said_is message.from message.body from req call (sym (ap heard_of found) ∙ is) in
      record { message = message; there = (id, found); to = to; from = (subst (SaysOf (HasAsked old.nodes.clients) message.from) body (asked.sent id message found)).0; is = body }
  call_sent old asked moment (happenings.Tick keepers.Master) m t made from req call is = absurd (none_some is)
  call_sent old asked moment (happenings.Tick (keepers.Server id)) m t made from req call is = absurd made
  call_sent old asked moment (happenings.Ask other request) m t made from req call is = absurd made
  call_sent old asked moment (happenings.Beat id) m t made from req call is = absurd made
  call_sent old asked moment (happenings.Restart node) m t made from req call is = absurd made
  call_sent old asked moment (happenings.Lose id handle) m t made from req call is = absurd made
  call_sent old asked moment (happenings.Damage id handle block) m t made from req call is = absurd made
  call_sent old asked moment (happenings.FailDisk disk number) m t made from req call is = absurd made

  pub steady_there : (place : MasterPlace D) (m : MasterOf D) → place ≡ Standing m → is_failed m.state.fault ≡ false → LastsThrough seen place → IsSteady m.state
  steady_there place m at sound lasts = (subst (λ b. MatchBool b (TellsSteady (text_seen seen m.journal)) (StandsSteady seen m)) sound (subst (LastsThrough seen) at lasts)).steady

-- ---- a turn

-- what a turn says to nobody is left open
said_other : (config : Config) (P : State → Move → Type 0) (s : State) (t : Turn) (said : Option Refusal) → Chain config P s t → Chain config P s (record t { said = said })
said_other config P s t said (Rests u before) = Rests u said
said_other config P s t said (Moves u move before made) = Moves u move said made
said_other config P s t said (Then u first next a b) = Then u (record first { said = None }) (record next { said = said }) (said_other config P u first None a) (said_other config P first.after next said b)

said_once : (config : Config) (P : State → Move → Type 0) (s : State) (t : Turn) (said : Option Refusal) → EndsOnce config P s t → EndsOnce config P s (record t { said = said })
said_once config P s t said (Within u v chain) = Within s (record t { said = said }) (said_other config (λ u move. P u move × (is_alone move ≡ false)) s t said chain)
said_once config P s t said (ByItself u move before made is) = ByItself s move said made is
said_once config P s t said (Closes u move before next made is chain) =
    Closes s move None (record next { said = said }) made is (said_other config (λ u move. P u move × (closes move ≡ true)) (move_turn config s move).after next said chain)

pub steps_stand_for : (config : Config) (s : State) (moment : Moment) → IsSteady s → EndsOnce config (IsMadeWellFor config None) s (pressed_all s moment)
steps_stand_for config s moment y = (once_stands_also config None (IsFor None) s (pressed_all s moment) (ticks_are_for config s moment y.firm (steps_fit s moment y.firm)) (all_steps_written s moment y).written y.firm.stands.kept).0

module _ {D : Type 0} (old : History D) (m : MasterOf D) (at : old.nodes.master ≡ Standing m) (y : IsSteady m.state) where
  abbrev ForAt : Heard → Turn → Type 0
  ForAt heard t = EndsOnce m.config (IsMadeWellFor m.config heard) m.state t

  by_happening : (moment : Moment) (happening : Happening) → HearsNamed moment happening old × HearsWithin happening old → (t : Turn) → Turns moment happening old m t → ForAt (heard_at (Comes (record { moment = moment; happening = happening })) old.sent) t
  by_happening moment (happenings.Deliver id) within t (message, found, to, is) =
      subst (λ u. ForAt (heard_of (message_of old.sent id)) u) (sym is)
      (subst (λ o. ForAt (heard_of o) (handle m.config m.state message moment)) (sym found)
      (events_stand_for m.config m.state (HearsAt message moment) (within.0 message found to) (subst (λ p. IsHeardAt p message.body) at (within.1 message found to)) y))
  by_happening moment (happenings.Tick keepers.Master) within t (inl is) = subst (ForAt None) (sym is) (events_stand_for m.config m.state (TicksAt moment) tt tt y)
  by_happening moment (happenings.Tick keepers.Master) within t (inr is) =
      subst (ForAt None) (sym is) (said_once m.config (IsMadeWellFor m.config None) m.state (pressed_all m.state moment) (Some refusals.Memory) (steps_stand_for m.config m.state moment y))
  by_happening moment (happenings.Tick (keepers.Server id)) within t made = absurd made
  by_happening moment (happenings.Ask req request) within t made = absurd made
  by_happening moment (happenings.Beat id) within t made = absurd made
  by_happening moment (happenings.Restart node) within t made = absurd made
  by_happening moment (happenings.Lose id handle) within t made = absurd made
  by_happening moment (happenings.Damage id handle block) within t made = absurd made
  by_happening moment (happenings.FailDisk disk call) within t made = absurd made

  stands_for : (step : Step) → StepWithin step old → (t : Turn) → TurnsAt step old m t → ForAt (heard_at step old.sent) t
  stands_for (Comes event) within t made = by_happening event.moment event.happening within t made
  stands_for (Takes client) within t made = absurd made

-- The turn is made of moves for these calls, each of which was sent, and of which those wait that do.
pub record IsTurnFor {D : Type 0} (step : Step) (old : History D) (m : MasterOf D) (t : Turn) : Type 0 where
  pub all : List (ReqId × Call)
  pub were : WereSent old.sent all
  pub once : EndsOnce m.config (IsMadeWellFor m.config (heard_at step old.sent)) m.state t
  pub hears : HearsOneOf all (heard_at step old.sent)
  pub calm : is_rolling m.state.durable.phase ≡ true → m.state.volatile.pending ≡ []
  pub asked : AreAskedFor all m.state

pub for_calls : {D : Type 0} (step : Step) (old : History D) (m : MasterOf D) (t : Turn) → IsTurnFor step old m t → IsForCalls step old m t
for_calls step old m t f = record {
  all = f.all;
  were = f.were;
  turn = record {
    waits = asked_stay f.all m.config (heard_at step old.sent) m.state t f.once f.hears f.calm f.asked;
    sent = sent_are_for f.all m.config (heard_at step old.sent) m.state t f.once f.hears f.asked;
    records = records_are_for f.all m.config (heard_at step old.sent) m.state t f.once f.hears f.asked;
  };
}

module _ {D : Type 0} (seen : D → List ℕ) where
  heard_sent : (step : Step) (old : History D) → AreAsked seen old → (m : MasterOf D) (t : Turn) → TurnsAt step old m t → (from : ℕ) (req : ReqId) (call : Call) → heard_at step old.sent ≡ Some (from, bodies.Call req call) → IsCallSent old.sent req call
  heard_sent (Comes event) old asked m t made from req call is = call_sent seen old asked event.moment event.happening m t made from req call is
  heard_sent (Takes client) old asked m t made from req call is = absurd made

  pub turn_for : (step : Step) (old : History D) (m : MasterOf D) (t : Turn) → StepWithin step old → AreAsked seen old → LastsThrough seen old.nodes.master
      → old.nodes.master ≡ Standing m → is_failed m.state.fault ≡ false → WaitAsSent old.sent m.state → TurnsAt step old m t → IsTurnFor step old m t
  turn_for step old m t within asked lasts at sound waits made =
      let y = steady_there seen old.nodes.master m at sound lasts in record {
        all = with_heard (heard_at step old.sent) waits.all;
        were = were_all old.sent (heard_at step old.sent) waits.all waits.were (heard_sent step old asked m t made);
        once = stands_for old m at y step within t made;
        hears = hears_one (heard_at step old.sent) waits.all;
        calm = y.firm.rolling;
        asked = asked_grow waits.all (with_heard (heard_at step old.sent) waits.all) (still_called (heard_at step old.sent) waits.all) m.state waits.asked;
      }
