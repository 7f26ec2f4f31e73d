-- A request that the master answers at once, alone or behind what it tells every server.
use Rattle.std.proofs.Common.{arith, ◌≡◌, ◌⊎◌, inl, inr, ◌∙◌, ◌++◌, ◌+◌, ◌==◌, ◌≤◌, ◌<◌, ℕ, Bool, true, false, List, [], ◌∷◌, length, nat_le, refl, ap, subst}
use Rattle.std.specs.Prelude.{Some, None, Result, Ok, Err, if◌then◌else◌}
use Rattle.std.specs.List.{AllByRecursion}
use Rattle.std.proofs.lemmas.Bool.{and_parts}
use Rattle.std.proofs.lemmas.Bool.Decides.{nat_tests}
use Rattle.gs_base.specs.Configs.{is_within}
use Rattle.gs_base.specs.declared.config.Config.{Config}
use Rattle.gs_base.specs.declared.epoch.EpochEnd.{EpochEnd}
use Rattle.gs_base.specs.declared.numbers.Moment.{Moment}
use Rattle.gs_base.specs.declared.refusal.Refusal.{Refusal}
use Rattle.gs_base.specs.declared.refusal.Refusal.TheVariants as refusals
use Rattle.gs_client.specs.Nodes.{answered}
use Rattle.gs_client.specs.Sends.{last_number}
use Rattle.gs_client.specs.declared.client.Client.{Client}
use Rattle.gs_client.specs.declared.link.Reply.TheVariants as replies
use Rattle.gs_laws_plain.specs.calm.Calm.{IsStill}
use Rattle.gs_master_spec.specs.Handling.{call_turn, handle}
use Rattle.gs_master_spec.specs.State.{State, Turn, reply_to}
use Rattle.gs_master_spec.specs.Upgrades.{tell_all}
use Rattle.gs_msg.specs.declared.answer.Answer.{Answer}
use Rattle.gs_msg.specs.declared.body.Body.TheVariants as bodies
use Rattle.gs_msg.specs.declared.call.Call.{Call}
use Rattle.gs_msg.specs.declared.event.Request.TheVariants as requests
use Rattle.gs_msg.specs.declared.message.Message.{Message}
use Rattle.gs_msg.specs.declared.node.NodeId.TheVariants as nodes
use Rattle.gs_server.specs.Servers.{Server}
use Rattle.gs_laws_scripts.specs.answers.Plain.{Plain, PlainDesk, carried_if, delivers_whole, going_on, heard, serves, waited}
use Rattle.gs_laws_scripts.proofs.lemmas.plain.Delivering.{Leads, drops_behind, leads_then, node, request, sends_in, store, to_client, to_master, whole_from}
use Rattle.gs_laws_scripts.proofs.lemmas.plain.Telling.{IsAt, all_gone, all_told, answers_come, answers_of, same_many}

-- client 1 of a store of this configuration, behind so many requests
abbrev pub client_at : Config → ℕ → Client
client_at config number = record { last = request number; chunk = config.chunk }

pub few_servers : (config : Config) → config.servers ≤ 16
few_servers config =
    let parts = and_parts (is_within config.servers 1 16) _ config.valid in
    let within = and_parts (nat_le 1 config.servers) (nat_le config.servers 16) parts.0 in
    grind (arith, nat_tests, within)

module _ (config : Config) (s : State) (all : List Server) (moment : Moment) (held : List Message) (last used : ℕ) (call : Call) where
  abbrev pub the_turn : Turn
  the_turn = call_turn config s (request (last + 1)) moment call

  abbrev the_message : Message
  the_message = record { from = nodes.Client (request (last + 1)).client; to = nodes.Master; body = bodies.Call (request (last + 1)) call }

  handled : handle config s the_message moment ≡ the_turn
  unfolding handle
  handled = refl

  -- once it has been delivered so, the reply is taken
  module _ (result : Result Answer Refusal) (after : List Server) (drops next : ℕ) where
    abbrev pub behind : PlainDesk
    behind = (client_at config (last + 1), store config the_turn.after after (node (last + 1) None None) moment [] held next)

    abbrev delivered_so : Type 0
    delivered_so = delivers_whole (store config s all (node (last + 1) (Some (last + 1)) None) moment (the_message ∷ []) held (drops_behind (the_message ∷ []) drops))
        ≡ store config the_turn.after after (node (last + 1) None (Some (answered replies.Answer result))) moment [] held next

    taken_so : delivered_so → heard (record { 0 = 1 }) (waited (record { 0 = 1 }) (delivers_whole (Rattle.gs_laws_scripts.specs.answers.Plain.sends_all (the_message ∷ []) (store config s all (node (last + 1) (Some (last + 1)) None) moment [] held drops))))
        ≡ (answered replies.Answer result, store config the_turn.after after (node (last + 1) None None) moment [] held next)
    taken_so is =
        ap (λ (p : Plain). heard (record { 0 = 1 }) (waited (record { 0 = 1 }) (delivers_whole p))) (sends_in config moment held (the_message ∷ []) s all (node (last + 1) (Some (last + 1)) None) [] drops)
        ∙ ap (λ (p : Plain). heard (record { 0 = 1 }) (waited (record { 0 = 1 }) p)) is

    -- where there is a number left it is answered so, else it is refused
    pub served : delivered_so → used ≤ last → (serves (client_at config last, store config s all (node used None None) moment [] held drops) (requests.Call call) ≡ (replies.Refused refusals.Exhausted, (client_at config last, store config s all (node used None None) moment [] held drops)))
        ⊎ (serves (client_at config last, store config s all (node used None None) moment [] held drops) (requests.Call call) ≡ (answered replies.Answer result, behind))
    served is less = each (last == last_number)
      where
        whole : PlainDesk
        whole = (client_at config last, store config s all (node used None None) moment [] held drops)

        below : nat_le (last + 1) used ≡ false
        below = grind (arith, nat_tests)

        carried : carried_if (if nat_le (last + 1) used then Err refusals.Old else Ok (node (last + 1) (Some (last + 1)) None, the_message ∷ [])) (node used None None) (record { 0 = 1 }) (store config s all (node used None None) moment [] held drops)
            ≡ (answered replies.Answer result, store config the_turn.after after (node (last + 1) None None) moment [] held next)
        carried = ap (λ b. carried_if (if b then Err refusals.Old else Ok (node (last + 1) (Some (last + 1)) None, the_message ∷ [])) (node used None None) (record { 0 = 1 }) (store config s all (node used None None) moment [] held drops)) below ∙ taken_so is

        each : (b : Bool) → ((if b then (replies.Refused refusals.Exhausted, (client_at config last, store config s all (node used None None) moment [] held drops)) else going_on (client_at config last) (Rattle.gs_laws_scripts.specs.answers.Plain.carries (request (last + 1)) (requests.Call call) (store config s all (node used None None) moment [] held drops)))
            ≡ (replies.Refused refusals.Exhausted, (client_at config last, store config s all (node used None None) moment [] held drops)))
            ⊎ ((if b then (replies.Refused refusals.Exhausted, (client_at config last, store config s all (node used None None) moment [] held drops)) else going_on (client_at config last) (Rattle.gs_laws_scripts.specs.answers.Plain.carries (request (last + 1)) (requests.Call call) (store config s all (node used None None) moment [] held drops)))
            ≡ (answered replies.Answer result, behind))
        each true = inl refl
        each false = inr (ap (going_on (client_at config last)) carried)

  -- ---- alone

  pub alone : (result : Result Answer Refusal) (drops : ℕ) → the_turn.sent ≡ reply_to (request (last + 1)) result ∷ [] → (next : ℕ) × delivered_so result all drops next
  alone result drops sent =
      let first = to_master config moment held s all (node (last + 1) (Some (last + 1)) None) (nodes.Client (request (last + 1)).client) (bodies.Call (request (last + 1)) call) [] (drops_behind (the_message ∷ []) drops) in
      let second = to_client config moment held the_turn.after all (last + 1) None result [] first.0 in (
        first.0,
        whole_from config moment held the_turn.after all (node (last + 1) None (Some (answered replies.Answer result))) (1 + 1) (store config s all (node (last + 1) (Some (last + 1)) None) moment (the_message ∷ []) held (drops_behind (the_message ∷ []) drops)) first.0
            (leads_then 1 1 (store config s all (node (last + 1) (Some (last + 1)) None) moment (the_message ∷ []) held (drops_behind (the_message ∷ []) drops))
            (store config the_turn.after all (node (last + 1) (Some (last + 1)) None) moment (reply_to (request (last + 1)) result ∷ []) held first.0) (store config the_turn.after all (node (last + 1) None (Some (answered replies.Answer result))) moment [] held first.0)
            (subst (λ (ms : List Message). Leads 1 (store config s all (node (last + 1) (Some (last + 1)) None) moment (the_message ∷ []) held (drops_behind (the_message ∷ []) drops)) (store config the_turn.after all (node (last + 1) (Some (last + 1)) None) moment ms held first.0)) sent
            (subst (λ (t : Turn). Leads 1 (store config s all (node (last + 1) (Some (last + 1)) None) moment (the_message ∷ []) held (drops_behind (the_message ∷ []) drops)) (store config t.after all (node (last + 1) (Some (last + 1)) None) moment t.sent held first.0)) handled first.1)) second) few,
      )
    where
      few : 1 + 1 < 1000
      few = omega arith

  -- ---- behind what every server is told

  pub telling : (result : Result Answer Refusal) (epoch : ℕ) (end : EpochEnd) (drops : ℕ) → the_turn.sent ≡ tell_all config (epoch + 1) end ++ reply_to (request (last + 1)) result ∷ [] → length all ≡ config.servers → AllByRecursion (IsAt epoch) all
      → IsStill the_turn.after → the_turn.after.durable.epoch ≡ epoch + 1 → (next : ℕ) × delivered_so result (all_gone all (epoch + 1) end) drops next
  telling result epoch end drops sent many at still now =
      let n = node (last + 1) (Some (last + 1)) None in
      let first = to_master config moment held s all (node (last + 1) (Some (last + 1)) None) (nodes.Client (request (last + 1)).client) (bodies.Call (request (last + 1)) call) [] (drops_behind (the_message ∷ []) drops) in
      let second = all_told config moment held the_turn.after (node (last + 1) (Some (last + 1)) None) [] all epoch end 0 (reply_to (request (last + 1)) result ∷ []) first.0 none at in
      let third = to_client config moment held the_turn.after (all_gone all (epoch + 1) end) (last + 1) None result (answers_of (epoch + 1) all) second.0 in
      let fourth = answers_come config moment held the_turn.after (node (last + 1) None (Some (answered replies.Answer result))) (all_gone all (epoch + 1) end) all (epoch + 1) second.0 still now in (
        fourth.0,
        whole_from config moment held the_turn.after (all_gone all (epoch + 1) end) (node (last + 1) None (Some (answered replies.Answer result))) (1 + (length all + (1 + length all))) start fourth.0
            (leads_then 1 (length all + (1 + length all)) start (store config the_turn.after all (node (last + 1) (Some (last + 1)) None) moment (tell_all config (epoch + 1) end ++ reply_to (request (last + 1)) result ∷ []) held first.0)
            (store config the_turn.after (all_gone all (epoch + 1) end) (node (last + 1) None (Some (answered replies.Answer result))) moment [] held fourth.0)
            (subst (λ (ms : List Message). Leads 1 start (store config the_turn.after all (node (last + 1) (Some (last + 1)) None) moment ms held first.0)) sent
            (subst (λ (t : Turn). Leads 1 start (store config t.after all (node (last + 1) (Some (last + 1)) None) moment t.sent held first.0)) handled first.1))
            (leads_then (length all) (1 + length all) (store config the_turn.after all (node (last + 1) (Some (last + 1)) None) moment (tell_all config (epoch + 1) end ++ reply_to (request (last + 1)) result ∷ []) held first.0)
            (store config the_turn.after (all_gone all (epoch + 1) end) (node (last + 1) (Some (last + 1)) None) moment (reply_to (request (last + 1)) result ∷ answers_of (epoch + 1) all) held second.0)
            (store config the_turn.after (all_gone all (epoch + 1) end) (node (last + 1) None (Some (answered replies.Answer result))) moment [] held fourth.0)
            (subst (λ (k : ℕ). Leads (length all) (store config the_turn.after all (node (last + 1) (Some (last + 1)) None) moment (Rattle.gs_laws_scripts.proofs.lemmas.plain.Telling.told_from 0 (epoch + 1) end k ++ reply_to (request (last + 1)) result ∷ []) held first.0)
            (store config the_turn.after (all_gone all (epoch + 1) end) (node (last + 1) (Some (last + 1)) None) moment (reply_to (request (last + 1)) result ∷ answers_of (epoch + 1) all) held second.0)) many second.1)
            (leads_then 1 (length all) (store config the_turn.after (all_gone all (epoch + 1) end) (node (last + 1) (Some (last + 1)) None) moment (reply_to (request (last + 1)) result ∷ answers_of (epoch + 1) all) held second.0)
            (store config the_turn.after (all_gone all (epoch + 1) end) (node (last + 1) None (Some (answered replies.Answer result))) moment (answers_of (epoch + 1) all) held second.0)
            (store config the_turn.after (all_gone all (epoch + 1) end) (node (last + 1) None (Some (answered replies.Answer result))) moment [] held fourth.0) third fourth.1))) few,
      )
    where
      start : Plain
      start = store config s all (node (last + 1) (Some (last + 1)) None) moment (the_message ∷ []) held (drops_behind (the_message ∷ []) drops)

      none : 0 ≡ length {A = Server} []
      none = refl

      few : 1 + (length all + (1 + length all)) < 1000
      few = let low = few_servers config in omega arith
