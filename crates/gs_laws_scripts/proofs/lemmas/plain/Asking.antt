-- One request, at a store that stands as a plain machine does.
use Rattle.std.proofs.Common.{arith, ◌≡◌, ◌⊎◌, inl, inr, ◌∙◌, ◌+◌, ◌≤◌, ℕ, Bool, List, [], length, refl, ap}
use Rattle.std.specs.Prelude.{Result, None}
use Rattle.std.specs.List.{AllByRecursion}
use Rattle.gs_base.specs.declared.config.Config.{Config}
use Rattle.gs_base.specs.declared.epoch.EpochEnd.{EpochEnd}
use Rattle.gs_base.specs.declared.numbers.Moment.{Moment}
use Rattle.gs_base.specs.declared.refusal.Refusal.{Refusal}
use Rattle.gs_base.specs.declared.refusal.Refusal.TheVariants as refusals
use Rattle.gs_client.specs.Nodes.{answered}
use Rattle.gs_client.specs.declared.link.Reply.TheVariants as replies
use Rattle.gs_edit.specs.Machine.{Plain as Machine}
use Rattle.gs_laws_plain.specs.calm.Calm.{AnsweredUpTo, Asked, IsShort, IsStill, Shows, WasShort, WentTo}
use Rattle.gs_master_spec.specs.Durable.{is_rolling}
use Rattle.gs_master_spec.specs.Handling.{call_turn}
use Rattle.gs_master_spec.specs.State.{State, Turn}
use Rattle.gs_master_spec.specs.Upgrades.{tell_all}
use Rattle.gs_msg.specs.declared.answer.Answer.{Answer}
use Rattle.gs_msg.specs.declared.call.Call.{Call}
use Rattle.gs_msg.specs.declared.event.Request.TheVariants as requests
use Rattle.gs_msg.specs.declared.message.Message.{Message}
use Rattle.gs_server.specs.Servers.{Server}
use Rattle.gs_laws_scripts.specs.answers.Plain.{PlainDesk, serves}
use Rattle.gs_laws_scripts.proofs.lemmas.plain.Delivering.{node, request, store}
use Rattle.gs_laws_scripts.proofs.lemmas.plain.Serving.{alone, behind, client_at, served, telling}
use Rattle.gs_laws_scripts.proofs.lemmas.plain.Telling.{IsAt, all_at, all_gone, same_many}

-- The store shows this machine, in this epoch, with this number of the next deletion; a prepare or a rollback may be begun. Nothing is under way.
pub record StandsAt (preparing rolling : Bool) (config : Config) (m : Machine (List ℕ)) (now next : ℕ) (moment : Moment) (w : PlainDesk) : Type 0 where
  pub s : State
  pub all : List Server
  pub last : ℕ
  pub used : ℕ
  pub held : List Message
  pub drops : ℕ
  pub is : w ≡ (client_at config last, store config s all (node used None None) moment [] held drops)
  pub less : used ≤ last
  pub still : IsStill s
  pub begun : s.volatile.is_preparing ≡ preparing
  pub rolled : is_rolling s.durable.phase ≡ rolling
  pub shows : Shows s m now next
  pub answered : AnsweredUpTo s (record { 0 = 1 }) last
  pub many : length all ≡ config.servers
  pub at : AllByRecursion (IsAt now) all

-- the next request is refused for want of room or of counters
pub record FallsShort (w : PlainDesk) (call : Call) : Type 0 where
  pub refusal : Refusal
  pub after : PlainDesk
  pub short : (refusal ≡ refusals.Full) ⊎ (refusal ≡ refusals.Exhausted)
  pub is : serves w (requests.Call call) ≡ (replies.Refused refusal, after)

-- or it is answered so, and the store stands as this machine behind it
pub record IsAnswered (preparing rolling : Bool) (config : Config) (w : PlainDesk) (call : Call) (result : Result Answer Refusal) (m : Machine (List ℕ)) (now next : ℕ) (moment : Moment) : Type 0 where
  pub after : PlainDesk
  pub is : serves w (requests.Call call) ≡ (answered replies.Answer result, after)
  pub stands : StandsAt preparing rolling config m now next moment after

module _ (preparing rolling : Bool) (config : Config) (m : Machine (List ℕ)) (now next : ℕ) (moment : Moment) (w : PlainDesk) (st : StandsAt preparing rolling config m now next moment w) where
  pub asked_at : Asked preparing rolling st.s (request (st.last + 1)) m now next
  asked_at = record { still = st.still; begun = st.begun; rolled = st.rolled; shows = st.shows; last = st.last; answered = st.answered; above = omega arith }

  abbrev pub turn_at : Call → Turn
  turn_at call = call_turn config st.s (request (st.last + 1)) moment call

  no_number : (call : Call) → serves (client_at config st.last, store config st.s st.all (node st.used None None) moment [] st.held st.drops) (requests.Call call) ≡ (replies.Refused refusals.Exhausted, (client_at config st.last, store config st.s st.all (node st.used None None) moment [] st.held st.drops)) → FallsShort w call
  no_number call h = record { refusal = refusals.Exhausted; after = _; short = inr refl; is = ap (λ (v : PlainDesk). serves v (requests.Call call)) st.is ∙ h }

  refused_short : (result : Result Answer Refusal) (call : Call) (after : PlainDesk) → IsShort result → serves w (requests.Call call) ≡ (answered replies.Answer result, after) → FallsShort w call
  refused_short result call after (inl full) h = record { refusal = refusals.Full; after = after; short = inl refl; is = h ∙ ap (λ (r : Result Answer Refusal). (answered replies.Answer r, after)) full }
  refused_short result call after (inr none) h = record { refusal = refusals.Exhausted; after = after; short = inr refl; is = h ∙ ap (λ (r : Result Answer Refusal). (answered replies.Answer r, after)) none }

  -- a turn that is short
  pub falls : (call : Call) → WasShort (request (st.last + 1)) (turn_at call) → FallsShort w call
  falls call was =
      let so = alone config st.s st.all moment st.held st.last st.used call was.result st.drops was.sent in
      each (served config st.s st.all moment st.held st.last st.used call was.result st.all st.drops so.0 so.1 st.less)
    where
      each : (serves (client_at config st.last, store config st.s st.all (node st.used None None) moment [] st.held st.drops) (requests.Call call) ≡ (replies.Refused refusals.Exhausted, (client_at config st.last, store config st.s st.all (node st.used None None) moment [] st.held st.drops)))
          ⊎ (serves (client_at config st.last, store config st.s st.all (node st.used None None) moment [] st.held st.drops) (requests.Call call) ≡ (answered replies.Answer was.result, behind config st.s st.all moment st.held st.last st.used call was.result st.all st.drops (alone config st.s st.all moment st.held st.last st.used call was.result st.drops was.sent).0)) → FallsShort w call
      each (inl h) = no_number call h
      each (inr h) = refused_short was.result call _ was.short (ap (λ (v : PlainDesk). serves v (requests.Call call)) st.is ∙ h)

  -- one that is answered alone
  pub answers : (p r : Bool) (call : Call) (result : Result Answer Refusal) (n : Machine (List ℕ)) (then : ℕ) → WentTo p r (request (st.last + 1)) (turn_at call) [] result n now then → FallsShort w call ⊎ IsAnswered p r config w call result n now then moment
  answers p r call result n then went =
      let so = alone config st.s st.all moment st.held st.last st.used call result st.drops went.sent in
      each (served config st.s st.all moment st.held st.last st.used call result st.all st.drops so.0 so.1 st.less)
    where
      each : (serves (client_at config st.last, store config st.s st.all (node st.used None None) moment [] st.held st.drops) (requests.Call call) ≡ (replies.Refused refusals.Exhausted, (client_at config st.last, store config st.s st.all (node st.used None None) moment [] st.held st.drops)))
          ⊎ (serves (client_at config st.last, store config st.s st.all (node st.used None None) moment [] st.held st.drops) (requests.Call call) ≡ (answered replies.Answer result, behind config st.s st.all moment st.held st.last st.used call result st.all st.drops (alone config st.s st.all moment st.held st.last st.used call result st.drops went.sent).0)) → FallsShort w call ⊎ IsAnswered p r config w call result n now then moment
      each (inl h) = inl (no_number call h)
      each (inr h) = inr (record {
        after = _;
        is = ap (λ (v : PlainDesk). serves v (requests.Call call)) st.is ∙ h;
        stands = record { s = (turn_at call).after; all = st.all; last = st.last + 1; used = st.last + 1; held = st.held; drops = _; is = refl; less = omega arith; still = went.still; begun = went.begun; rolled = went.rolled; shows = went.shows; answered = went.answered; many = st.many; at = st.at };
      })

  -- and one behind what every server is told
  pub tells : (p r : Bool) (call : Call) (result : Result Answer Refusal) (n : Machine (List ℕ)) (then : ℕ) (end : EpochEnd) → WentTo p r (request (st.last + 1)) (turn_at call) (tell_all config (now + 1) end) result n (now + 1) then → FallsShort w call ⊎ IsAnswered p r config w call result n (now + 1) then moment
  tells p r call result n then end went =
      let so = telling config st.s st.all moment st.held st.last st.used call result now end st.drops went.sent st.many st.at went.still went.shows.epoch in
      each (served config st.s st.all moment st.held st.last st.used call result (all_gone st.all (now + 1) end) st.drops so.0 so.1 st.less)
    where
      each : (serves (client_at config st.last, store config st.s st.all (node st.used None None) moment [] st.held st.drops) (requests.Call call) ≡ (replies.Refused refusals.Exhausted, (client_at config st.last, store config st.s st.all (node st.used None None) moment [] st.held st.drops)))
          ⊎ (serves (client_at config st.last, store config st.s st.all (node st.used None None) moment [] st.held st.drops) (requests.Call call) ≡ (answered replies.Answer result, behind config st.s st.all moment st.held st.last st.used call result (all_gone st.all (now + 1) end) st.drops (telling config st.s st.all moment st.held st.last st.used call result now end st.drops went.sent st.many st.at went.still went.shows.epoch).0)) → FallsShort w call ⊎ IsAnswered p r config w call result n (now + 1) then moment
      each (inl h) = inl (no_number call h)
      each (inr h) = inr (record {
        after = _;
        is = ap (λ (v : PlainDesk). serves v (requests.Call call)) st.is ∙ h;
        stands = record { s = (turn_at call).after; all = all_gone st.all (now + 1) end; last = st.last + 1; used = st.last + 1; held = st.held; drops = _; is = refl; less = omega arith; still = went.still; begun = went.begun; rolled = went.rolled; shows = went.shows; answered = went.answered; many = same_many st.all (now + 1) end ∙ st.many; at = all_at st.all now end st.at };
      })
