-- What a look-up is answered where the names stand: the store refuses it, or nobody is sure of it; or it is so as the master says in its turn.
use Rattle.std.proofs.Common.{[], ap, arith, inl, inr, refl, subst, sym, ◌∷◌, ◌∙◌, ◌≡◌, ◌⊎◌, Bool, Err, List, MatchOption, None, Ok, Option, Result, Some, if◌then◌else◌, length, nat_le, slice_set, true, ℕ, ◌-◌}
use Rattle.std.specs.List.{AllByRecursion, list_all}
use Rattle.std.specs.Prelude.{Vec, false, not, unwrap_or, ◌&&◌, ◌==◌, ◌||◌}
use Rattle.std.specs.declared.alloc.Global.{Global}
use Rattle.gs_base.specs.Told.{IsNumber}
use Rattle.gs_base.specs.declared.config.Config.{Config}
use Rattle.gs_base.specs.declared.numbers.Moment.{Moment}
use Rattle.gs_base.specs.declared.numbers.ReqId.{ReqId}
use Rattle.gs_base.specs.declared.refusal.Refusal.{Refusal}
use Rattle.gs_base.specs.declared.refusal.Refusal.TheVariants as refusals
use Rattle.gs_client.specs.Nodes.{Asks, Node, messages_of, request_of}
use Rattle.gs_client.specs.Replies.{looked}
use Rattle.gs_client.specs.Sends.{next_request}
use Rattle.gs_client.specs.declared.client.Client.{Client}
use Rattle.gs_client.specs.declared.link.Reply.{Reply}
use Rattle.gs_client.specs.declared.link.Reply.TheVariants as replies
use Rattle.gs_laws_chunks.proofs.lemmas.answers.Behind.{SaidOrFailed, all_front, all_spare, said_there}
use Rattle.gs_laws_chunks.proofs.lemmas.answers.Served.{calls_are_for_the_master, refusals_are_made}
use Rattle.gs_laws_chunks.specs.answers.Answered.{Passes, SaidBy, WasSaid}
use Rattle.gs_laws_chunks.specs.answers.Behind.{asks_call}
use Rattle.gs_laws_chunks.specs.answers.Resting.{IsLooking, StandsStill, StandsStillAt}
use Rattle.gs_laws_chunks.specs.answers.Served.{IsOfServer, IsUnjudged}
use Rattle.gs_laws_chunks.specs.desks.Reached.{Covers, history}
use Rattle.gs_laws_looks.proofs.lemmas.carrying.Asked.{requests_are_carried}
use Rattle.gs_laws_looks.specs.carrying.Asked.{Delivers, IsAnswered, WasAskedAndTaken, WasRefused}
use Rattle.gs_laws_looks.specs.carrying.Exchanged.{HasReply}
use Rattle.gs_laws_moves.specs.answers.AtOnce.{is_answered_at_once}
use Rattle.gs_laws_moves.specs.answers.Resting.{is_look}
use Rattle.gs_laws_world.specs.steady.Asking.{MayBeAsked, asks_at}
use Rattle.gs_laws_world.specs.steady.Saying.{IsStepWithin}
use Rattle.gs_laws_world.specs.steady.Unarmed.{unarmed}
use Rattle.gs_master_spec.specs.Calls.{is_any_deep}
use Rattle.gs_master_spec.specs.Durable.{Durable}
use Rattle.gs_msg.specs.declared.call.Call.{Call}
use Rattle.gs_msg.specs.declared.call.Call.TheVariants as calls
use Rattle.gs_msg.specs.declared.event.Happening.{Happening}
use Rattle.gs_msg.specs.declared.event.Happening.TheVariants as happenings
use Rattle.gs_msg.specs.declared.event.Request.{Request}
use Rattle.gs_msg.specs.declared.event.Request.TheVariants as requests
use Rattle.gs_msg.specs.declared.message.Message.{Message}
use Rattle.gs_nodes.specs.Happenings.{AtClient, ClientAsks, client_in}
use Rattle.gs_nodes.specs.Nodes.{with_clients}
use Rattle.gs_path.specs.Path.{Path}
use Rattle.gs_path.specs.Rules.{elements_of, is_within_depth, judged, parse_hidden}
use Rattle.gs_path.specs.Element.{is_stored}
use Rattle.gs_shell_desk.specs.Ways.{way_of}
use Rattle.gs_shell_desk.specs.declared.wire.Wire.{Wire}
use Rattle.gs_world.specs.Histories.{AsksAt, Happens, History, Tells, asked}
use Rattle.gs_world.specs.Runs.{Comes, Step, Takes}
use Rattle.gs_world.specs.Sent.{Sent}
use Rattle.gs_laws_scripts.proofs.lemmas.explained.Listed.{judged_so, undisturbed_on}
use Rattle.gs_laws_scripts.proofs.lemmas.explained.Turns.{IsJudged, IsToldOf}
use Rattle.gs_laws_scripts.proofs.lemmas.lists.Lines.{Carries_at, next_small}
use Rattle.gs_laws_scripts.specs.answers.Meeting.{IsClientOf}
use Rattle.gs_laws_scripts.specs.explained.Lines.{IsNoLook, IsOfStore}
use Rattle.gs_laws_scripts.specs.explained.Standing.{IsUndisturbed, the_client}

-- ---- paths that are read

-- none is deep
pub read_is_shallow : (text : List ℕ) (p : Path) → parse_hidden text ≡ Ok p → is_any_deep (calls.List p) ≡ false
read_is_shallow [] p is = absurd (cc)
read_is_shallow (c ∷ rest) p is = by_slash (c == 47) is
  where
    read : Path
    read = elements_of rest

    same : {a b : Path} → ◌≡◌ {A = Result Path Refusal} (Ok a) (Ok b) → a ≡ b
    same h = cc

    shallow : (within : Bool) → is_within_depth p ≡ within → within ≡ true → is_any_deep (calls.List p) ≡ false
    shallow true is h = ap (λ b. not b || false) is
    shallow false is h = absurd (cc)

    by_tests : (within whole : Bool) → is_within_depth read ≡ within → (if within && whole then Ok read else Err refusals.BadPath) ≡ Ok p → is_any_deep (calls.List p) ≡ false
    by_tests true true within h = shallow true (ap is_within_depth (sym (same h)) ∙ within) refl
    by_tests true false within h = absurd (cc)
    by_tests false whole within h = absurd (cc)

    by_slash : (b : Bool) → (if b then judged is_stored read else Err refusals.BadPath) ≡ Ok p → is_any_deep (calls.List p) ≡ false
    by_slash true h = by_tests (is_within_depth read) (list_all is_stored read) refl h
    by_slash false h = absurd (cc)

-- ---- a request that isn't taken

-- the one client
pub one_there : (clients : List Node) → length clients ≡ 1 → (n : Node) × (client_in clients the_client ≡ Some n)
one_there [] one = absurd (omega arith)
one_there (n ∷ clients) one = (n, refl)

-- it is refused by the store: for want of memory, or since its number was used
module _ {D : Type 0} (seen : D → List ℕ) (failures : D → ℕ) where
  pub not_taken : (old new : History D) (moment : Moment) (req : ReqId) (request : Request) (refusal : Refusal) → req.client ≡ the_client → length old.nodes.clients ≡ 1 → Happens seen failures unarmed (asks_at moment req request) old (Err refusal) new → IsOfStore refusal
  not_taken old new moment req request refusal own one h = by_at h.at.1
    where
      never : {e : Refusal} → ◌≡◌ {A = Result (Unit {0}) Refusal} (Err e) (Ok tt) → ⊥
      never is = cc

      refusal_is : {a b : Refusal} → ◌≡◌ {A = Result (Unit {0}) Refusal} (Err a) (Err b) → a ≡ b
      refusal_is is = cc

      by_old : (b : Bool) (n after : Node) (e : Refusal) → Asks (if b then Err refusals.Old else Ok (record { id = n.id; last = req.number; waiting = Some req.number; reply = None }, messages_of (request_of n req.number) request)) (Err e) n after → IsOfStore e
      by_old true n after e (is, same) = subst IsOfStore (sym is) refl
      by_old false n after e (is, same) = subst IsOfStore (sym is) refl

      by_out : (out : Result (Vec Message Global) Refusal) → AtClient req.client (Err refusals.Range) (ClientAsks req.number request) old.nodes out new.nodes → Tells seen failures unarmed moment h.by (asked out) old.sent (Err refusal) new.sent → IsOfStore refusal
      by_out (Ok out) at tells = absurd (never tells.1)
      by_out (Err e) at tells =
          let found = one_there old.nodes.clients one in
          let there = subst (λ c. client_in old.nodes.clients c ≡ Some found.0) (sym own) found.1 in
          let at_it = subst (λ o. MatchOption o ((new.nodes ≡ old.nodes) × (◌≡◌ {A = Result (Vec Message Global) Refusal} (Err e) (Err refusals.Range))) (λ n. (after : Node) × (new.nodes ≡ with_clients (slice_set old.nodes.clients (req.client.0 - 1) after) old.nodes) × ClientAsks req.number request n (Err e) after)) there at in
          subst IsOfStore (sym (refusal_is tells.1)) (by_old (nat_le req.number found.0.last) found.0 at_it.0 e at_it.2)

      by_at : AsksAt req request old.nodes h.outcome new.nodes → IsOfStore refusal
      by_at (out, at, is) = by_out out at (subst (λ o. Tells seen failures unarmed moment h.by o old.sent (Err refusal) new.sent) is h.tells)

  -- ---- a refusal that is carried

  is_delivery : (happening : Happening) (moment : Moment) → Delivers (Comes (record { moment = moment; happening = happening })) → IsLooking the_client (Comes (record { moment = moment; happening = happening }))
  is_delivery (happenings.Deliver id) moment delivers = (refl, tt)
  is_delivery (happenings.Tick node) moment delivers = (refl, tt)
  is_delivery (happenings.Ask req request) moment delivers = absurd delivers
  is_delivery (happenings.Beat server) moment delivers = absurd delivers
  is_delivery (happenings.Restart node) moment delivers = absurd delivers
  is_delivery (happenings.Lose server handle) moment delivers = absurd delivers
  is_delivery (happenings.Damage server handle block) moment delivers = absurd delivers
  is_delivery (happenings.FailDisk disk call) moment delivers = absurd delivers

  pub all_look : (steps : List Step) → AllByRecursion Delivers steps → AllByRecursion (IsLooking the_client) steps
  all_look [] all = tt
  all_look (Comes event ∷ steps) all = (is_delivery event.happening event.moment all.0, all_look steps all.1)
  all_look (Takes client ∷ steps) all = absurd all.0

  pub has_found : (o : Option Reply) (reply : Reply) → reply ≡ unwrap_or o replies.Lost → (reply ≡ replies.Lost) ⊎ (o ≡ Some reply)
  has_found None reply is = inl is
  has_found (Some found) reply is = inr (ap Some (sym is))

  -- the store refuses it, or nothing comes, or it is the reply that the client has
  abbrev IsReplied : History D → Call → Reply → Type 0
  IsReplied old call reply = ((refusal : Refusal) × (reply ≡ replies.Refused refusal) × IsOfStore refusal) ⊎ ((reply ≡ replies.Lost) ⊎ ((mid : History D) × HasReply seen failures the_client old (requests.Call call) reply mid))

  reply_carried : (config : Config) (sent : Sent) (old new : Client × Wire D) (call : Call) (reply : Reply) → MayBeAsked (requests.Call call) → IsClientOf config old.0 → Covers sent (way_of old.1) → IsNumber old.1.moment.0 → length (history sent (way_of old.1)).nodes.clients ≡ 1
      → Carries_at seen failures old (requests.Call call) reply new → IsReplied (history sent (way_of old.1)) call reply
  reply_carried config sent old new call reply may ours covers small one (inr (last, is, same)) = inl (refusals.Exhausted, is, refl)
  reply_carried config sent old new call reply may ours covers small one (inl (below, is, c)) = by_went a.went
    where
      a : IsAnswered seen failures the_client (way_of old.1) sent (requests.Call call) reply (way_of new.1)
      a = subst (λ k. IsAnswered seen failures k (way_of old.1) sent (requests.Call call) reply (way_of new.1)) ours.0
          (requests_are_carried seen failures sent (way_of old.1) (way_of new.1) (next_request old.0) (requests.Call call) reply covers small (next_small old.0.last.number below, may) c)

      by_went : WasAskedAndTaken seen failures the_client (history sent (way_of old.1)) (requests.Call call) reply (history a.after (way_of new.1)) ⊎ WasRefused seen failures the_client (history sent (way_of old.1)) (requests.Call call) reply (history a.after (way_of new.1)) → IsReplied (history sent (way_of old.1)) call reply
      by_went (inr r) = inl (r.refusal, r.is, not_taken (history sent (way_of old.1)) (history a.after (way_of new.1)) r.moment r.req (requests.Call call) r.refusal r.own one r.happens)
      by_went (inl (mid, w, takes)) = inr (by_found (has_found w.last.reply reply w.has))
        where
          by_found : (reply ≡ replies.Lost) ⊎ (w.last.reply ≡ Some reply) → (reply ≡ replies.Lost) ⊎ ((mid : History D) × HasReply seen failures the_client (history sent (way_of old.1)) (requests.Call call) reply mid)
          by_found (inl lost) = inl lost
          by_found (inr has) = inr (
            mid,
            record {
              moment = w.moment;
              req = w.req;
              own = w.own;
              node = w.node;
              there = w.there;
              fresh = w.fresh;
              asked = w.asked;
              happens = w.happens;
              asks = w.asks;
              behind = record { steps = w.behind.steps; runs = w.behind.runs; within = w.behind.within; looking = all_look w.behind.steps w.behind.only };
              last = w.last;
              found = w.found;
              number = w.number;
              has = has;
            },
          )

  -- ---- what the master says

  unjudged : (refusal : Refusal) → IsUnjudged refusal → IsNoLook refusal
  unjudged refusal (inl is) = inl (subst IsOfStore (sym is) refl)
  unjudged refusal (inr is) = inr is

  module _ (d : Durable) (number : ℕ) (old mid : History D) (call : Call) (look : is_look call ≡ true) (once : is_answered_at_once call ≡ true) (refusal : Refusal) (u : IsUndisturbed seen d number old) (h : HasReply seen failures the_client old (requests.Call call) (replies.Refused refusal) mid) where
    made_or : IsUnjudged refusal ⊎ ((made : WasSaid seen failures unarmed h.behind.steps h.asked mid h.req call (Err refusal)) × SaidBy seen failures unarmed (λ k. Passes seen failures unarmed k h.behind.steps h.asked mid h.behind.runs) h.behind.steps h.asked mid h.req call (Err refusal) made)
    made_or = refusals_are_made seen failures unarmed old h.asked mid h.moment h.req call h.behind.steps h.last refusal u.asked u.served u.types u.lasts (record { node = h.node; there = h.there; fresh = h.fresh; happens = h.happens }) once h.behind.runs (all_spare the_client h.behind.steps h.behind.looking) (h.asks, h.behind.within)
        (subst (λ k. client_in mid.nodes.clients k ≡ Some h.last) (sym h.own) h.found) h.number h.has

    abbrev ask : Step
    ask = asks_call h.moment h.req call

    judged_by : WasSaid seen failures unarmed h.behind.steps h.asked mid h.req call (Err refusal) → IsNoLook refusal ⊎ IsJudged d call (Err refusal)
    judged_by made = by_said (said_there seen failures unarmed made.now made.event made.said made.next made.happens h.req call (Err refusal) made.answers)
      where
        looks_before : AllByRecursion (IsLooking the_client) (ask ∷ made.before)
        looks_before = ((refl, (h.own, look)), all_front (IsLooking the_client) made.before (Comes made.event ∷ made.after) (subst (AllByRecursion (IsLooking the_client)) made.parts h.behind.looking))

        within_before : AllByRecursion IsStepWithin (ask ∷ made.before)
        within_before = (h.asks, all_front IsStepWithin made.before (Comes made.event ∷ made.after) (subst (AllByRecursion IsStepWithin) made.parts h.behind.within))

        now : IsUndisturbed seen d number made.now
        now = undisturbed_on seen failures d number (ask ∷ made.before) old made.now (h.asked, (Ok tt, h.happens), made.first) within_before looks_before u

        stands : StandsStill d the_client number made.answers.master.state
        stands = subst (StandsStillAt d the_client number) made.answers.stands now.still.master

        refusal_is : {a b : Refusal} {A : Type 0} → ◌≡◌ {A = Result A Refusal} (Err a) (Err b) → a ≡ b
        refusal_is is = cc

        by_said : SaidOrFailed seen failures unarmed made.now made.event.moment made.answers.master h.req call (Err refusal) made.next.nodes → IsNoLook refusal ⊎ IsJudged d call (Err refusal)
        by_said (inl unsure) = inl (inr (refusal_is unsure))
        by_said (inr (inl failed)) = inl (inl (subst IsOfStore (sym (refusal_is failed)) refl))
        by_said (inr (inr there)) = inr (record { config = made.answers.master.config; state = made.answers.master.state; req = h.req; moment = made.event.moment; stands = (number, stands); says = there.says })

    judged_or : IsNoLook refusal ⊎ IsJudged d call (Err refusal)
    judged_or = by_made made_or
      where
        by_made : IsUnjudged refusal ⊎ ((made : WasSaid seen failures unarmed h.behind.steps h.asked mid h.req call (Err refusal)) × SaidBy seen failures unarmed (λ k. Passes seen failures unarmed k h.behind.steps h.asked mid h.behind.runs) h.behind.steps h.asked mid h.req call (Err refusal) made)
            → IsNoLook refusal ⊎ IsJudged d call (Err refusal)
        by_made (inl is) = inl (unjudged refusal is)
        by_made (inr (made, by)) = judged_by made

  module _ (d : Durable) (number : ℕ) (old mid : History D) (call : Call) (look : is_look call ≡ true) (once : is_answered_at_once call ≡ true) (u : IsUndisturbed seen d number old) where
    -- no server tells any
    none_of_server : (reply : Reply) → IsOfServer reply → HasReply seen failures the_client old (requests.Call call) reply mid → ⊥
    none_of_server reply of h =
        calls_are_for_the_master seen failures unarmed old h.asked mid h.moment h.req call h.behind.steps h.last reply u.asked u.served u.replied u.types u.lasts (record { node = h.node; there = h.there; fresh = h.fresh; happens = h.happens }) once h.behind.runs
        (all_spare the_client h.behind.steps h.behind.looking) (h.asks, h.behind.within) (subst (λ k. client_in mid.nodes.clients k ≡ Some h.last) (sym h.own) h.found) h.number h.has of

    told_so : (reply : Reply) → HasReply seen failures the_client old (requests.Call call) reply mid → IsToldOf d call (looked reply)
    told_so (replies.Answer answer) h = inr (judged_so seen failures d number old mid call look once answer u h)
    told_so (replies.Refused refusal) h = by_judged (judged_or d number old mid call look once refusal u h)
      where
        by_judged : IsNoLook refusal ⊎ IsJudged d call (Err refusal) → IsToldOf d call (Err refusal)
        by_judged (inl off) = inl (refusal, refl, off)
        by_judged (inr judged) = inr judged
    told_so replies.Lost h = inl (refusals.NoReplica, refl, inl refl)
    told_so (replies.Given given) h = absurd (none_of_server (replies.Given given) tt h)
    told_so (replies.Outcome outcome) h = absurd (none_of_server (replies.Outcome outcome) tt h)

  -- What a look-up that is carried comes to, where the names stand.
  pub look_told : (config : Config) (d : Durable) (number : ℕ) (sent : Sent) (old new : Client × Wire D) (call : Call) (reply : Reply) → is_look call ≡ true → is_answered_at_once call ≡ true → MayBeAsked (requests.Call call) → IsClientOf config old.0 → Covers sent (way_of old.1) → IsNumber old.1.moment.0
      → IsUndisturbed seen d number (history sent (way_of old.1)) → Carries_at seen failures old (requests.Call call) reply new → IsToldOf d call (looked reply)
  look_told config d number sent old new call reply look once may ours covers small u carried = by_carried (reply_carried config sent old new call reply may ours covers small u.one carried)
    where
      by_carried : IsReplied (history sent (way_of old.1)) call reply → IsToldOf d call (looked reply)
      by_carried (inl (refusal, is, store)) = inl (refusal, ap looked is, inl store)
      by_carried (inr (inl lost)) = inl (refusals.NoReplica, ap looked lost, inl refl)
      by_carried (inr (inr (mid, h))) = told_so d number (history sent (way_of old.1)) mid call look once u reply h
