-- A change of the tree that a desk carries, and that is refused so that it is over: it is explained, and the desk stands for the machine as it was.
use Rattle.std.proofs.Common.{[], ap, inl, inr, refl, subst, sym, ◌-◌, ◌∷◌, ◌∙◌, ◌≡◌, ◌⊎◌, Bool, Err, List, MatchOption, None, Ok, Option, Result, Some, false, if◌then◌else◌, length, nat_le, slice_set, true, ℕ}
use Rattle.std.specs.Prelude.{Vec}
use Rattle.std.proofs.lemmas.Bool.{false≢true}
use Rattle.std.specs.List.{AllByRecursion}
use Rattle.std.specs.declared.alloc.Global.{Global}
use Rattle.gs_base.specs.Told.{IsNumber}
use Rattle.gs_base.specs.declared.config.Config.{Config}
use Rattle.gs_base.specs.declared.numbers.ClientId.{ClientId}
use Rattle.gs_base.specs.declared.numbers.Moment.{Moment}
use Rattle.gs_base.specs.declared.numbers.ReqId.{ReqId}
use Rattle.gs_base.specs.declared.refusal.Refusal.{Refusal}
use Rattle.gs_base.specs.declared.refusal.Refusal.TheVariants as refusals
use Rattle.gs_client.specs.Nodes.{Asks, Node, messages_of, request_of}
use Rattle.gs_client.specs.Replies.{changed, unsure_or}
use Rattle.gs_client.specs.Sends.{next_request}
use Rattle.gs_client.specs.declared.client.Client.{Client}
use Rattle.gs_client.specs.declared.link.Reply.{Reply}
use Rattle.gs_client.specs.declared.link.Reply.TheVariants as replies
use Rattle.gs_laws_chunks.proofs.lemmas.answers.Behind.{all_spare}
use Rattle.gs_laws_chunks.proofs.lemmas.answers.Changed.{changes_are_never_old, refused_changes_leave_still}
use Rattle.gs_laws_chunks.proofs.lemmas.answers.Served.{lone_calls_are_for_the_master}
use Rattle.gs_laws_chunks.specs.answers.Changed.{HasRefusal, IsAt, IsLeft}
use Rattle.gs_laws_chunks.specs.answers.Served.{IsOfServer}
use Rattle.gs_laws_chunks.specs.desks.Reached.{Covers, history}
use Rattle.gs_laws_looks.proofs.lemmas.carrying.Asked.{requests_are_carried}
use Rattle.gs_laws_looks.specs.carrying.Asked.{IsAnswered, IsAsOf, WasAsked, WasAskedAndTaken, WasRefused}
use Rattle.gs_laws_moves.proofs.lemmas.answers.Changes.{changes_at_once}
use Rattle.gs_laws_moves.specs.answers.Changes.{is_change}
use Rattle.gs_laws_world.specs.steady.Asking.{MayBeAsked, asks_at}
use Rattle.gs_laws_world.specs.steady.Unarmed.{unarmed}
use Rattle.gs_master_spec.specs.State.{is_kept}
use Rattle.gs_msg.specs.declared.answer.Answer.{Answer as Said}
use Rattle.gs_msg.specs.declared.call.Call.{Call}
use Rattle.gs_msg.specs.declared.call.Call.TheVariants as calls
use Rattle.gs_msg.specs.declared.event.Request.{Request}
use Rattle.gs_msg.specs.declared.event.Request.TheVariants as requests
use Rattle.gs_msg.specs.declared.message.Message.{Message}
use Rattle.gs_nodes.specs.Happenings.{AtClient, ClientAsks, client_in}
use Rattle.gs_nodes.specs.Nodes.{with_clients}
use Rattle.gs_shell_desk.specs.Ways.{way_of}
use Rattle.gs_shell_desk.specs.declared.desk.Desk.{Desk}
use Rattle.gs_shell_desk.specs.declared.wire.Wire.{Wire}
use Rattle.gs_world.specs.Histories.{AsksAt, Happens, History, Tells, asked}
use Rattle.gs_world.specs.Runs.{RunsTo, Takes}
use Rattle.gs_laws_scripts.proofs.lemmas.explained.Behind.{IsAskedSince, shows_then, stands_behind}
use Rattle.gs_laws_scripts.proofs.lemmas.explained.Changes.{changes_are_told}
use Rattle.gs_laws_scripts.proofs.lemmas.explained.Refused.{all_look, has_found, not_taken, one_there}
use Rattle.gs_laws_scripts.proofs.lemmas.lists.Lines.{Carries_at, next_small}
use Rattle.gs_laws_scripts.proofs.lemmas.reads.Clients.{still_mine}
use Rattle.gs_laws_scripts.specs.answers.Meeting.{IsClientOf}
use Rattle.gs_laws_scripts.specs.explained.Changes.{IsOver}
use Rattle.gs_laws_scripts.specs.explained.Lines.{Asks as AsksCall, IsOfStore, overtaken}
use Rattle.gs_laws_scripts.specs.explained.Machine.{Machine}
use Rattle.gs_laws_scripts.specs.explained.Standing.{IsUndisturbed, Stands, the_client}

-- ---- what is sure

-- a refusal that is over is told as it is
told_as : (refusal : Refusal) → IsOver (Err (unsure_or refusal)) → unsure_or refusal ≡ refusal
told_as refusals.Device over = absurd (over refl)
told_as refusals.Memory over = absurd (over refl)
told_as refusal over = refl

-- and the master keeps it, unless it is that the request is an old one
kept_then : (refusal : Refusal) → IsOver (Err refusal) → unsure_or refusal ≡ refusal → (is_kept refusal ≡ true) ⊎ (refusal ≡ refusals.Old)
kept_then refusals.Old over same = inr refl
kept_then refusals.Device over same = absurd (over (ap (λ r. Err r) (sym same)))
kept_then refusals.Memory over same = absurd (over (ap (λ r. Err r) (sym same)))
kept_then refusal over same = inl refl

-- ---- late calls: a refused one overtakes none

overtakes_none : (call : Call) → is_change call ≡ true → (refusal : Refusal) (m : Machine) → overtaken call (Err refusal, m) ≡ m
overtakes_none (calls.Mkdirs p) is refusal m = refl
overtakes_none (calls.Create p) is refusal m = refl
overtakes_none (calls.Rename from to) is refusal m = refl
overtakes_none (calls.Delete p recursive) is refusal m = refl
overtakes_none (calls.Undelete p) is refusal m = refl
overtakes_none call is refusal m = absurd (false≢true is)

-- ---- a request that isn't taken: nothing happens

set_same : (clients : List Node) (n : Node) → client_in clients the_client ≡ Some n → slice_set clients 0 n ≡ clients
set_same [] n is = absurd (cc)
set_same (x ∷ xs) n is = ap (λ k. k ∷ xs) (same is)
  where
    same : {a b : Node} → ◌≡◌ {A = Option Node} (Some a) (Some b) → b ≡ a
    same e = cc

module _ {D : Type 0} (seen : D → List ℕ) (failures : D → ℕ) where
  none_happens : (old new : History D) (moment : Moment) (req : ReqId) (request : Request) (refusal : Refusal) → req.client ≡ the_client → length old.nodes.clients ≡ 1 → Happens seen failures unarmed (asks_at moment req request) old (Err refusal) new → new ≡ old
  none_happens old new moment req request refusal own one h = by_at h.at.1
    where
      never : {e : Refusal} → ◌≡◌ {A = Result (Unit {0}) Refusal} (Err e) (Ok tt) → ⊥
      never is = cc

      by_old : (b : Bool) (n after : Node) (e : Refusal) → Asks (if b then Err refusals.Old else Ok (record { id = n.id; last = req.number; waiting = Some req.number; reply = None }, messages_of (request_of n req.number) request)) (Err e) n after → after ≡ n
      by_old true n after e (is, same) = same
      by_old false n after e (is, same) = same

      both_same : new.nodes ≡ old.nodes → new.sent ≡ old.sent → new ≡ old
      both_same nodes sent = λ i. record { nodes = nodes i; sent = sent i }

      by_out : (out : Result (Vec Message Global) Refusal) → AtClient req.client (Err refusals.Range) (ClientAsks req.number request) old.nodes out new.nodes → Tells seen failures unarmed moment h.by (asked out) old.sent (Err refusal) new.sent → new ≡ old
      by_out (Ok out) at tells = absurd (never tells.1)
      by_out (Err e) at tells =
          let found = one_there old.nodes.clients one in
          let there = subst (λ c. client_in old.nodes.clients c ≡ Some found.0) (sym own) found.1 in
          let at_it = subst (λ o. MatchOption o ((new.nodes ≡ old.nodes) × (◌≡◌ {A = Result (Vec Message Global) Refusal} (Err e) (Err refusals.Range))) (λ n. (after : Node) × (new.nodes ≡ with_clients (slice_set old.nodes.clients (req.client.0 - 1) after) old.nodes) × ClientAsks req.number request n (Err e) after)) there at in
          let after : at_it.0 ≡ found.0 = by_old (nat_le req.number found.0.last) found.0 at_it.0 e at_it.2 in
          let clients : slice_set old.nodes.clients (req.client.0 - 1) at_it.0 ≡ old.nodes.clients =
          ap (λ n. slice_set old.nodes.clients (req.client.0 - 1) n) after ∙ ap (λ (k : ClientId). slice_set old.nodes.clients (k.0 - 1) found.0) own ∙ set_same old.nodes.clients found.0 found.1 in
          both_same (at_it.1 ∙ ap (λ cs. with_clients cs old.nodes) clients) tells.0

      by_at : AsksAt req request old.nodes h.outcome new.nodes → new ≡ old
      by_at (out, at, is) = by_out out at (subst (λ o. Tells seen failures unarmed moment h.by o old.sent (Err refusal) new.sent) is h.tells)

module _ {D : Type 0} (seen : D → List ℕ) (failures : D → ℕ) (config : Config) (size : ℕ) (old new : Desk D) (m : Machine) (call : Call) (st : Stands seen config old m) (is : is_change call ≡ true) (may : MayBeAsked (requests.Call call)) where
  abbrev at : Desk D → Client × Wire D
  at d = (d.caller.client, d.wire)

  abbrev before : History D
  before = history st.sent (way_of old.wire)

  abbrev Carried : Reply → Type 0
  Carried reply = Carries_at seen failures (at old) (requests.Call call) reply (at new)

  -- ---- where a client has asked so

  abbrev since : (reply : Reply) (mid : History D) → WasAsked seen failures the_client before (requests.Call call) reply mid → IsAskedSince seen failures call before mid
  since reply mid w = record {
    moment = w.moment;
    req = w.req;
    own = w.own;
    asked = w.asked;
    asks = record { node = w.node; there = w.there; fresh = w.fresh; happens = w.happens };
    steps = w.behind.steps;
    runs = w.behind.runs;
    within = (w.asks, w.behind.within);
    looking = all_look seen failures w.behind.steps w.behind.only;
  }

  -- it has no reply of a server
  none_of_server : (reply : Reply) → IsOfServer reply → (mid : History D) (w : WasAsked seen failures the_client before (requests.Call call) reply mid) → w.last.reply ≡ Some reply → ⊥
  none_of_server reply of mid w has =
      let s : IsAskedSince seen failures call before mid = since reply mid w in
      lone_calls_are_for_the_master seen failures unarmed before w.asked mid w.moment w.req call w.behind.steps w.last reply st.rests.asked st.rests.served st.rests.replied st.rests.types st.rests.lasts s.asks
      (λ c state req moment. changes_at_once c state req moment call is) w.behind.runs (all_spare the_client s.steps s.looking) s.within (subst (λ k. client_in mid.nodes.clients k ≡ Some w.last) (sym w.own) w.found) w.number has of

  abbrev Went : Reply → Type 0
  Went reply = IsAnswered seen failures the_client (way_of old.wire) st.sent (requests.Call call) reply (way_of new.wire)

  went : (reply : Reply) → Carried reply → ((refusal : Refusal) × (reply ≡ replies.Refused refusal) × IsOfStore refusal × (at new ≡ at old)) ⊎ Went reply
  went reply (inr (last, refused, same)) = inl (refusals.Exhausted, refused, refl, same)
  went reply (inl (below, next, c)) = inr
      (subst (λ k. IsAnswered seen failures k (way_of old.wire) st.sent (requests.Call call) reply (way_of new.wire)) st.ours.0
      (requests_are_carried seen failures st.sent (way_of old.wire) (way_of new.wire) (next_request old.caller.client) (requests.Call call) reply st.covers st.moment (next_small old.caller.client.last.number below, may) c))

  pub no_server_replies : (reply : Reply) → IsOfServer reply → Carried reply → ⊥
  no_server_replies reply of carried = elim (went reply carried) [
    | inl (refusal, refused, store, same) ↦ subst IsOfServer refused of
    | inr a ↦ by_went a.went
  ]
    where
      lost : reply ≡ replies.Lost → ⊥
      lost none = subst IsOfServer none of

      by_went : {after : History D} → WasAskedAndTaken seen failures the_client before (requests.Call call) reply after ⊎ WasRefused seen failures the_client before (requests.Call call) reply after → ⊥
      by_went (inr r) = subst IsOfServer r.is of
      by_went (inl (mid, w, takes)) = elim (has_found seen failures w.last.reply reply w.has) [
        | inl none ↦ lost none
        | inr has ↦ none_of_server reply of mid w has
      ]

  -- ---- a refusal

  module _ (refusal : Refusal) (over : IsOver (Err refusal)) (same_told : unsure_or refusal ≡ refusal) (carried : Carried (replies.Refused refusal)) where
    -- the machine stays as it was
    abbrev Explained : Type 0
    Explained = AsksCall size call m (Err refusal) m × Stands seen config new m

    by_store : IsOfStore refusal → AsksCall size call m (Err refusal) m
    by_store store = ([], inr (refusal, refl, inl (store, refl)))

    ours : IsClientOf config new.caller.client
    ours = still_mine seen failures config (at old) (at new) (requests.Call call) (replies.Refused refusal) st.ours carried

    refusal_is : {a b : Refusal} → replies.Refused a ≡ replies.Refused b → b ≡ a
    refusal_is e = cc

    -- the number after the last
    not_numbered : IsOfStore refusal → at new ≡ at old → Explained
    not_numbered store same = (
      by_store store,
      record {
        sent = st.sent;
        covers = subst (λ (s : Client × Wire D). Covers st.sent (way_of s.1)) (sym same) st.covers;
        moment = subst (λ (s : Client × Wire D). IsNumber s.1.moment.0) (sym same) st.moment;
        ours = ours;
        durable = st.durable;
        number = st.number;
        rests = subst (λ (s : Client × Wire D). IsUndisturbed seen st.durable st.number (history st.sent (way_of s.1))) (sym same) st.rests;
        shows = st.shows;
        now = st.now ∙ ap (λ (s : Client × Wire D). s.1.moment.0) (sym same);
      },
    )

    module _ (a : Went (replies.Refused refusal)) where
      moment_then : IsNumber new.wire.moment.0
      moment_then = subst (λ (moment : Moment). IsNumber moment.0) (sym a.moment) st.moment

      now_then : m.moment ≡ new.wire.moment.0
      now_then = st.now ∙ ap (λ (moment : Moment). moment.0) (sym a.moment)

      -- it wasn't taken
      not_asked : WasRefused seen failures the_client before (requests.Call call) (replies.Refused refusal) (history a.after (way_of new.wire)) → Explained
      not_asked r = (
        by_store (subst IsOfStore (refusal_is r.is) (not_taken seen failures before (history a.after (way_of new.wire)) r.moment r.req (requests.Call call) r.refusal r.own st.rests.one r.happens)),
        record {
          sent = a.after;
          covers = a.covers;
          moment = moment_then;
          ours = ours;
          durable = st.durable;
          number = st.number;
          rests = subst (IsUndisturbed seen st.durable st.number) (sym (none_happens seen failures before (history a.after (way_of new.wire)) r.moment r.req (requests.Call call) r.refusal r.own st.rests.one r.happens)) st.rests;
          shows = st.shows;
          now = now_then;
        },
      )

      -- it had its turn
      had_turn : (mid : History D) (w : WasAsked seen failures the_client before (requests.Call call) (replies.Refused refusal) mid) → AllByRecursion (IsAt old.wire.moment) w.behind.steps → RunsTo seen failures unarmed (Takes the_client ∷ []) mid (history a.after (way_of new.wire)) → w.last.reply ≡ Some (replies.Refused refusal) → Explained
      had_turn mid w at_it takes has = (
        ([], changes_are_told left.turn.config left.turn.state w.req left.turn.moment m call (Err refusal) (shows_then seen failures config old new m st left.turn.state left.turn.stood) (st.now ∙ ap (λ (moment : Moment). moment.0) (sym (left.turn.since old.wire.moment at_it))) is left.turn.says (λ said same. absurd (never same))),
        stands_behind seen failures config old new m st call is mid (record { since = s; after = a.after; takes = takes; covers = a.covers; moment = moment_then; same = a.moment; ours = ours }) st.durable left.still m st.shows refl,
      )
        where
          s : IsAskedSince seen failures call before mid
          s = since (replies.Refused refusal) mid w

          it : HasRefusal seen failures unarmed the_client before call refusal mid
          it = record { moment = s.moment; req = s.req; own = s.own; asked = s.asked; asks = s.asks; steps = s.steps; runs = s.runs; within = s.within; looking = s.looking; node = w.last; there = w.found; last = w.number; reply = has }

          kept : is_kept refusal ≡ true
          kept = elim (kept_then refusal over same_told) [
            | inl is ↦ is
            | inr old ↦
                absurd (changes_are_never_old seen failures unarmed the_client before mid call is st.rests.asked st.rests.served st.rests.types st.rests.lasts (subst (λ e. HasRefusal seen failures unarmed the_client before call e mid) old it))
          ]

          left : IsLeft st.durable the_client st.number w.req call refusal w.behind.steps mid
          left = refused_changes_leave_still seen failures unarmed st.durable the_client st.number before mid call refusal is st.rests.asked st.rests.served st.rests.types st.rests.lasts st.rests.still it kept
              (λ unsure. over (ap (λ r. Err r) unsure))

          never : {said : Said} → ◌≡◌ {A = Result Said Refusal} (Err refusal) (Ok said) → ⊥
          never e = cc

      by_went : (w : WasAskedAndTaken seen failures the_client before (requests.Call call) (replies.Refused refusal) (history a.after (way_of new.wire)) ⊎ WasRefused seen failures the_client before (requests.Call call) (replies.Refused refusal) (history a.after (way_of new.wire)))
          → IsAsOf seen failures old.wire.moment the_client before (requests.Call call) (replies.Refused refusal) (history a.after (way_of new.wire)) w → Explained
      by_went (inr r) timed = not_asked r
      by_went (inl (mid, w, takes)) timed = elim (has_found seen failures w.last.reply (replies.Refused refusal) w.has) [
        | inl lost ↦ absurd (no_reply lost)
        | inr has ↦ had_turn mid w timed.1 takes has
      ]
        where
          no_reply : replies.Refused refusal ≡ replies.Lost → ⊥
          no_reply e = cc

    refused_so : Explained
    refused_so = elim (went (replies.Refused refusal) carried) [
      | inl (other, same, store, still) ↦ not_numbered (subst IsOfStore (refusal_is same) store) still
      | inr a ↦ by_went a a.went a.moments
    ]

  -- ---- as it is told

  pub refusal_explained : (refusal : Refusal) → IsOver (changed (replies.Refused refusal)) → Carried (replies.Refused refusal) → (mid : Machine) × AsksCall size call m (changed (replies.Refused refusal)) mid × Stands seen config new (overtaken call (changed (replies.Refused refusal), mid))
  refusal_explained refusal over carried =
      let same : unsure_or refusal ≡ refusal = told_as refusal over in
      let found : AsksCall size call m (Err refusal) m × Stands seen config new m = refused_so refusal (subst (λ r. IsOver (Err r)) same over) same carried in (
        m,
        subst (λ r. AsksCall size call m (Err r) m) (sym same) found.0,
        subst (Stands seen config new) (sym (overtakes_none call is (unsure_or refusal) m)) found.1,
      )
