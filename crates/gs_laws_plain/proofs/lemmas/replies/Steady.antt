-- Each reply of a master whose state stands, or of which a disk has failed.
use Rattle.std.proofs.Common.{◌≡◌, ◌⊎◌, inl, inr, ◌∙◌, ◌&&◌, ◌||◌, ◌++◌, ◌==◌, ℕ, Bool, true, false, not, List, [], ◌∷◌, length, refl, ap, sym, subst, arith}
use Rattle.std.specs.Prelude.{filter_map, is_some, option_and_then, take, unwrap_or, Option, Some, None, Result, Ok, Err, if◌then◌else◌}
use Rattle.std.specs.List.{AllByRecursion, list_all, list_any}
use Rattle.std.proofs.Math.Seq.{take-append_seam}
use Rattle.std.proofs.lemmas.Bool.{false≢true}
use Rattle.gs_base.specs.declared.config.Config.{Config}
use Rattle.gs_base.specs.declared.numbers.Moment.{Moment}
use Rattle.gs_base.specs.declared.numbers.ReqId.{ReqId}
use Rattle.gs_base.specs.declared.refusal.Refusal.{Refusal}
use Rattle.gs_base.specs.declared.refusal.Refusal.TheVariants as refusals
use Rattle.gs_edit.specs.Names.{IsCounted}
use Rattle.gs_msg.specs.declared.answer.Answer.{Answer}
use Rattle.gs_msg.specs.declared.body.Body.{Body}
use Rattle.gs_msg.specs.declared.body.Body.TheVariants as bodies
use Rattle.gs_msg.specs.declared.call.Call.{Call}
use Rattle.gs_msg.specs.declared.call.Call.TheVariants as calls
use Rattle.gs_msg.specs.declared.message.Message.{Message}
use Rattle.gs_msg.specs.declared.node.NodeId.{NodeId}
use Rattle.gs_msg.specs.declared.node.NodeId.TheVariants as nodes
use Rattle.gs_path.specs.Element.{is_hidden, is_stored}
use Rattle.gs_path.specs.Path.{Path, path_text}
use Rattle.gs_path.specs.Rules.{elements_of, is_within_depth, judged, parse_hidden}
use Rattle.gs_laws_moves.proofs.lemmas.answers.Answering.{pick}
use Rattle.gs_laws_master.proofs.lemmas.standing.StandingRuns.{events_fit}
use Rattle.gs_laws_master.proofs.lemmas.telling.WritingPlaces.{events_written_at_places}
use Rattle.gs_laws_master.specs.Promises.{AllFit, IsKept}
use Rattle.gs_laws_master.specs.Standing.{CanWait, Event, IsNamed, Ticks, turn_of}
use Rattle.gs_laws_master.specs.Standing as events
use Rattle.gs_laws_master.specs.Written.{IsHeardIn, IsSteady}
use Rattle.gs_laws_plain.specs.commands.Answers.{is_refused_by_store}
use Rattle.gs_laws_plain.specs.commands.Commands.{command_of}
use Rattle.gs_laws_plain.specs.commands.Doing.{NewCallsDoAsAnswered, is_of_tree}
use Rattle.gs_master_record.specs.Plain.{PlainEntry}
use Rattle.gs_master_spec.specs.Applied.{applied, replayed}
use Rattle.gs_master_spec.specs.Calls.{is_always_taken, is_any_deep, is_any_hidden, is_locked, is_work}
use Rattle.gs_master_spec.specs.Durable.{Durable, is_rolling}
use Rattle.gs_master_spec.specs.Handling.{Numbered, New, Again, Older, call_turn, called_unless, from_node, granted, handle, new_call, numbered, pressed, proposals, replied_again, server_turn, taken_as, tick, waits_still, written_if_due}
use Rattle.gs_master_spec.specs.State.{State, Turn, and_then, first_of, for_each, is_failed, is_unopened, last_reply, met_by, unmoved}
use Rattle.gs_master_spec.specs.Volatile.{is_pending}
use Rattle.gs_master_spec.specs.declared.pending.Pending.{Pending}
use Rattle.gs_master_spec.specs.declared.pending.Waiting.TheVariants as waits
use Rattle.gs_laws_plain.proofs.lemmas.replies.Coming.{kept_is}
use Rattle.gs_laws_plain.proofs.lemmas.replies.Replying.{messages_reply, ticks_reply}
use Rattle.gs_laws_plain.specs.replies.Replies as replies
use Rattle.gs_laws_plain.specs.replies.Replies.{IsAsPlain, RepliesAsPlain, WasKept, is_its_own}
use Rattle.gs_laws_plain.specs.replies.Steady as steady
use Rattle.gs_laws_plain.specs.replies.Steady.{ArePlainReplies, IsMeek, IsMeekReply, IsPlainCall, IsPlainReply, MessagesAreMeek, MessagesReplyPlainly, TicksAreMeek, TicksReplyPlainly}
use Rattle.gs_laws_plain.specs.replies.Waited.{GoesOnPlainly, IsAmong, RepliesSo, WaitsSo, led}

-- ---- records that fit

-- so do the first of them, and lead where all would that pass over what doesn't fit
first_fit : (xs ys : List PlainEntry) (d e : Durable) → replayed d (xs ++ ys) ≡ Some e → replayed d xs ≡ Some (led d xs)
first_fit [] ys d e fit = refl
first_fit (x ∷ xs) ys d e fit = by (applied d x) fit (λ n h. first_fit xs ys n e h)
  where
    by : (o : Option Durable) → option_and_then (λ n. replayed n (xs ++ ys)) o ≡ Some e → ((n : Durable) → replayed n (xs ++ ys) ≡ Some e → replayed n xs ≡ Some (led n xs)) → option_and_then (λ n. replayed n xs) o ≡ Some (led (unwrap_or o d) xs)
    by None h rest = absurd (false≢true (ap is_some h))
    by (Some n) h rest = rest n h

-- ---- where all stands

open_paths : (a b : Bool) → (not a && (not b && true)) ≡ true → (a || (b || false)) ≡ false
open_paths false false is = refl
open_paths true b is = absurd (false≢true is)
open_paths false true is = absurd (false≢true is)

-- a snapshot that waits names nothing hidden
names_visible : (ps : List Pending) (req : ReqId) (from to : Path) → AllByRecursion CanWait ps → IsAmong (record { req = req; waits = waits.Snapshot from to }) ps → is_any_hidden (calls.Snapshot from to) ≡ false
names_visible [] req from to can among = absurd among
names_visible (p ∷ ps) req from to can (inl first) = open_paths (list_any is_hidden from) (list_any is_hidden to) (subst CanWait first can.0).0
names_visible (p ∷ ps) req from to can (inr rest) = names_visible ps req from to can.1 rest

-- and nothing deep, as both of its paths are read from their texts
read_is_shallow : (text : List ℕ) (p : Path) → parse_hidden text ≡ Ok p → is_within_depth p ≡ true
read_is_shallow [] p is = absurd (cc)
read_is_shallow (c ∷ rest) p is = by_slash (c == 47) is
  where
    read : Path
    read = elements_of rest

    same : {a b : Path} → ◌≡◌ {A = Result Path Refusal} (Ok a) (Ok b) → a ≡ b
    same h = cc

    by_tests : (within whole : Bool) → is_within_depth read ≡ within → (if within && whole then Ok read else Err refusals.BadPath) ≡ Ok p → is_within_depth p ≡ true
    by_tests true true within h = ap is_within_depth (sym (same h)) ∙ within
    by_tests true false within h = absurd (cc)
    by_tests false whole within h = absurd (cc)

    by_slash : (b : Bool) → (if b then judged is_stored read else Err refusals.BadPath) ≡ Ok p → is_within_depth p ≡ true
    by_slash true h = by_tests (is_within_depth read) (list_all is_stored read) refl h
    by_slash false h = absurd (cc)

both_shallow : (a b : Bool) → a ≡ true → b ≡ true → (not a || (not b || false)) ≡ false
both_shallow true true is other = refl
both_shallow true false is other = absurd (false≢true other)
both_shallow false b is other = absurd (false≢true is)

names_shallow : (ps : List Pending) (req : ReqId) (from to : Path) → AllByRecursion CanWait ps → IsAmong (record { req = req; waits = waits.Snapshot from to }) ps → is_any_deep (calls.Snapshot from to) ≡ false
names_shallow [] req from to can among = absurd among
names_shallow (p ∷ ps) req from to can (inl first) =
    let told = (subst CanWait first can.0).1 in both_shallow (is_within_depth from) (is_within_depth to) (read_is_shallow (path_text from) from told.0.1) (read_is_shallow (path_text to) to told.1.1)
names_shallow (p ∷ ps) req from to can (inr rest) = names_shallow ps req from to can.1 rest

module _ (s : State) (t : Turn) (moment : Moment) (heard : Option Body) (counted : IsCounted s.durable.names) (fits : AllFit s t) (kept : (place : ℕ) (d : Durable) → replayed s.durable (take place t.records) ≡ Some d → IsKept d) (can : AllByRecursion CanWait s.volatile.pending) where
  copied : (req : ReqId) (from to : Path) (result : Result Answer Refusal) → WaitsSo s req (waits.Snapshot from to) → GoesOnPlainly s t req from to result → steady.IsPlainCopy s.durable t.records req from to result
  copied req from to result waiting goes = record {
    before = goes.before;
    behind = goes.behind;
    made = goes.made;
    is_made = goes.is_made;
    parts = goes.parts;
    none_before = goes.none_before;
    none_behind = goes.none_behind;
    stands = led s.durable goes.before;
    fits = fit;
    plainly = λ moment number text plain said. goes.plainly (names_shallow s.volatile.pending req from to can waiting) (names_visible s.volatile.pending req from to can waiting) moment number text plain stands.names.counted said;
  }
    where
      rest : List PlainEntry
      rest = goes.made ++ goes.behind

      fit : replayed s.durable goes.before ≡ Some (led s.durable goes.before)
      fit = first_fit goes.before rest s.durable t.after.durable (ap (replayed s.durable) (sym goes.parts) ∙ fits)

      stands : IsKept (led s.durable goes.before)
      stands = kept (length goes.before) (led s.durable goes.before) (ap (λ xs. replayed s.durable (take (length goes.before) xs)) goes.parts ∙ ap (replayed s.durable) (take-append_seam goes.before rest) ∙ fit)

  reply : (req : ReqId) (result : Result Answer Refusal) → IsAsPlain s t moment heard req result → IsPlainReply s.durable s t.records moment heard req result
  reply req result (replies.Came call is comes) = steady.Came call is (record { tree = comes.tree; plainly = λ text plain said. comes.plainly text plain counted said; does = comes.does; own = comes.own })
  reply req result (replies.HadWaited from to waiting goes) = steady.HadWaited from to waiting (copied req from to result waiting goes)
  reply req result (replies.Again call is was) = steady.Again call is was
  reply req result (replies.OtherCame call is other) = steady.OtherCame call is other
  reply req result (replies.OtherWaited waiting is other) = steady.OtherWaited waiting is other

  all_replies : (ms : List Message) → AllByRecursion (λ (m : Message). RepliesSo (IsAsPlain s t moment heard) m.body) ms → ArePlainReplies s.durable s t.records moment heard ms
  all_replies [] all = tt
  all_replies (m ∷ ms) all = (one m.body all.0, all_replies ms all.1)
    where
      one : (body : Body) → RepliesSo (IsAsPlain s t moment heard) body → RepliesSo (IsPlainReply s.durable s t.records moment heard) body
      one (bodies.Reply req result) is = reply req result is
      one body is = tt

by_event : (config : Config) (s : State) (event : Event) (moment : Moment) (heard : Option Body) → IsNamed event → IsHeardIn s event → IsSteady s → RepliesAsPlain s (turn_of config s event) moment heard
    → ArePlainReplies s.durable s (turn_of config s event).records moment heard (turn_of config s event).sent
by_event config s event moment heard named low firm all =
    all_replies s (turn_of config s event) moment heard firm.firm.stands.kept.names.counted (events_fit config s event named firm.firm).fits
    (λ place d fit. (events_written_at_places config s event place d (record { records = 0; size = 0; limit = 0; generation = 0 }) named low firm fit (omega arith) (omega arith)).firm.stands.kept) firm.firm.stands.calls (turn_of config s event).sent all

-- ---- where a disk has failed

-- its one reply refuses, or is the one that is kept
meek_reply : (s : State) (req : ReqId) (call : Call) (result : Result Answer Refusal) → (is_refused_by_store result ≡ true) ⊎ WasKept s req result → IsMeek s (Some (bodies.Call req call)) (replied_again s req result)
meek_reply s req call result is = record { none = refl; sent = ((call, refl, is), tt) }

module _ (config : Config) (s : State) (moment : Moment) (failed : is_failed s.fault ≡ true) where
  module _ (req : ReqId) (call : Call) where
    abbrev Meek : Turn → Type 0
    Meek t = IsMeek s (Some (bodies.Call req call)) t

    device : Meek (replied_again s req (Err refusals.Device))
    device = meek_reply s req call (Err refusals.Device) (inl refl)

    new_meek : Meek (new_call config s req moment call)
    new_meek = subst (λ b. Meek (called_unless config s req moment call (first_of ((b, refusals.Device) ∷ (is_rolling s.durable.phase && not (is_always_taken call), refusals.RollingBack) ∷ (s.volatile.is_preparing && is_work call, refusals.Preparing) ∷ (is_any_deep call, refusals.BadPath) ∷ (is_locked s req call, refusals.Locked) ∷ (is_any_hidden call, refusals.HiddenName) ∷ [])))) (sym failed) (record { none = refl; sent = ((call, refl, inl refl), tt) })

    taken_meek : (how : Numbered) → numbered (last_reply s req.client) req.number ≡ how → Meek (taken_as config s req moment call how)
    taken_meek New is = new_meek
    taken_meek (Again result) is = (let kept = kept_is (last_reply s req.client) req.number result is in meek_reply s req call result (inr (record { reply = kept.0; has = kept.1; number = kept.2; is = kept.3 })))
    taken_meek Older is = meek_reply s req call (Err refusals.Old) (inl refl)

    call_meek : Meek (call_turn config s req moment call)
    call_meek =
        let taken = taken_as config s req moment call (numbered (last_reply s req.client) req.number) in
        pick Meek (is_unopened s.fault) (replied_again s req (Err refusals.Device)) (if is_pending s.volatile.pending req then waits_still s req else taken) device
        (pick Meek (is_pending s.volatile.pending req) (waits_still s req) taken (pick Meek (is_failed s.fault) (replied_again s req (Err refusals.Device)) (unmoved s) device (record { none = refl; sent = tt }))
        (taken_meek (numbered (last_reply s req.client) req.number) refl))

  node_meek : (body : Body) (from : NodeId) → IsMeek s (Some body) (from_node config s moment body from)
  node_meek body nodes.Master = record { none = refl; sent = tt }
  node_meek body (nodes.Server server) = subst (λ b. IsMeek s (Some body) (if b then met_by s refusals.Device else server_turn s server moment body)) (sym failed) (record { none = refl; sent = tt })
  node_meek (bodies.Call req call) (nodes.Client client) = call_meek req call
  node_meek body (nodes.Client client) = record { none = refl; sent = tt }

pub message_meek : MessagesAreMeek
unfolding handle
message_meek config s message moment failed = node_meek config s moment failed message.body message.from

pub tick_meek : TicksAreMeek
unfolding tick
tick_meek s moment failed =
    let done = and_then (and_then (for_each s (proposals s) (pressed moment)) granted) written_if_due in subst (λ b. IsMeek s None (if b then met_by s refusals.Device else done)) (sym failed) (record { none = refl; sent = tt })

-- so each of its replies is plain, by whatever is durable
module _ (d : Durable) (s : State) (moment : Moment) (heard : Option Body) where
  meek_call : (records : List PlainEntry) (req : ReqId) (call : Call) (result : Result Answer Refusal) → records ≡ [] → is_of_tree call ≡ true → is_refused_by_store result ≡ true → IsPlainCall d s records moment req call result
  meek_call records req call (Ok answer) none tree refused = absurd (false≢true refused)
  meek_call records req call (Err refusal) none tree refused = record { tree = tree; plainly = λ text plain said. inl refused; does = ap (filter_map command_of) none; own = ap (list_all (is_its_own req)) none }

  meek_plain : (records : List PlainEntry) → records ≡ [] → (req : ReqId) (result : Result Answer Refusal) → IsMeekReply s heard req result → IsPlainReply d s records moment heard req result
  meek_plain records none req result (call, is, inr kept) = steady.Again call is kept
  meek_plain records none req result (call, is, inl refused) = by_kind (is_of_tree call) refl
    where
      by_kind : (b : Bool) → is_of_tree call ≡ b → IsPlainReply d s records moment heard req result
      by_kind true tree = steady.Came call is (meek_call records req call result none tree refused)
      by_kind false other = steady.OtherCame call is other

  pub meek_replies : (t : Turn) → IsMeek s heard t → ArePlainReplies d s t.records moment heard t.sent
  meek_replies t meek = each t.sent meek.sent
    where
      one : (body : Body) → RepliesSo (IsMeekReply s heard) body → RepliesSo (IsPlainReply d s t.records moment heard) body
      one (bodies.Reply req result) is = meek_plain t.records meek.none req result is
      one body is = tt

      each : (ms : List Message) → AllByRecursion (λ (m : Message). RepliesSo (IsMeekReply s heard) m.body) ms → ArePlainReplies d s t.records moment heard ms
      each [] all = tt
      each (m ∷ ms) all = (one m.body all.0, each ms all.1)

-- ---- so each reply

pub messages_plainly : NewCallsDoAsAnswered → MessagesReplyPlainly
messages_plainly law config s message moment named low (inl firm) = by_event config s (events.Comes message moment) moment (Some message.body) named low firm (messages_reply law config s message moment firm.firm.stands.apart)
messages_plainly law config s message moment named low (inr failed) = meek_replies s.durable s moment (Some message.body) (handle config s message moment) (message_meek config s message moment failed)

-- a tick goes by no sizes
some_config : Config
some_config = record { servers = 1; racks = 1; replicas = 1; block = 1; chunk = 1; valid = refl }

pub ticks_plainly : TicksReplyPlainly
ticks_plainly s moment (inl firm) = by_event some_config s (Ticks moment) moment None tt tt firm (ticks_reply s moment firm.firm.stands.apart)
ticks_plainly s moment (inr failed) = meek_replies s.durable s moment None (tick s moment) (tick_meek s moment failed)
