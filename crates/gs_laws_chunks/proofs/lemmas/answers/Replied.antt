-- What a client has as its reply was sent to it.
use Rattle.std.proofs.Common.{◌≡◌, ◌∙◌, ◌⊎◌, ◌+◌, ◌-◌, inl, inr, ℕ, zero, suc, Bool, true, false, cond, List, [], ◌∷◌, Option, Some, None, MatchOption, refl, sym, ap, subst, arith}
use Rattle.std.specs.Prelude.{◌==◌, if◌then◌else◌, slice_get, slice_set}
use Rattle.std.proofs.lemmas.Bool.Decides.{nat_tests}
use Rattle.gs_base.specs.declared.numbers.ClientId.{ClientId}
use Rattle.gs_base.specs.declared.numbers.Moment.{Moment}
use Rattle.gs_base.specs.declared.numbers.ReqId.{ReqId}
use Rattle.gs_client.specs.Nodes.{Node, answered, given_up, hears, is_of, silent, takes}
use Rattle.gs_client.specs.declared.link.Reply.{Reply}
use Rattle.gs_client.specs.declared.link.Reply.TheVariants as replies
use Rattle.gs_msg.specs.declared.body.Body.{Body}
use Rattle.gs_msg.specs.declared.body.Body.TheVariants as bodies
use Rattle.gs_msg.specs.declared.event.DiskId.{DiskId}
use Rattle.gs_msg.specs.declared.event.Happening.{Happening}
use Rattle.gs_msg.specs.declared.message.Message.{Message}
use Rattle.gs_nodes.specs.Happenings.{client_in}
use Rattle.gs_nodes.specs.Nodes.{Nodes, new_clients}
use Rattle.gs_nodes.specs.declared.place.MasterPlace.{MasterPlace}
use Rattle.gs_world.proofs.Sending.{sent_still, step_stays}
use Rattle.gs_world.specs.Histories.{History, Upshot}
use Rattle.gs_world.specs.Runs.{Comes, Goes, StaySent, Step, Takes}
use Rattle.gs_world.specs.Sent.{Sent, message_of}
use Rattle.gs_laws_chunks.proofs.lemmas.answers.Answered.{set_client}
use Rattle.gs_laws_chunks.proofs.lemmas.answers.Asked.{Numbered_all, Waits, hearing_same, new_numbered, one_or_last, own_id, still_numbered}
use Rattle.gs_laws_chunks.proofs.lemmas.answers.Parts.{Armed, Asked, Heard, Opened, Part, Rested, Served, Ticked, Told, asking, hearing, part_of, with_client}
use Rattle.gs_laws_chunks.specs.answers.Replied.{AreReplied, BeginsReplied, SaysReply, StaysReplied, WasReplied}

-- ---- what a client hears

-- a client that waits for its last number takes a reply to that alone
module _ (sent : Sent) (n : Node) (waits : Waits n) (before : (reply : Reply) → n.reply ≡ Some reply → WasReplied sent (record { client = n.id; number = n.last }) reply) where
  abbrev mine : ReqId
  mine = record { client = n.id; number = n.last }

  same_reply : (a b : Reply) → Some a ≡ Some b → b ≡ a
  same_reply a b is = cc

  is_mine : (req : ReqId) (waiting : Option ℕ) → n.waiting ≡ waiting → is_of req n.id waiting ≡ true → req ≡ mine
  is_mine req None at is = absurd (cc)
  is_mine req (Some number) at is = by_client (req.client.0 == n.id.0) refl is
    where
      by_client : (b : Bool) → (req.client.0 == n.id.0) ≡ b → cond b (req.number == number) false ≡ true → req ≡ mine
      by_client false apart is = absurd (cc)
      by_client true here is =
          let client : req.client.0 ≡ n.id.0 = grind (arith, nat_tests) in
          let asked : req.number ≡ number = grind (arith, nat_tests) in
          let last : req.number ≡ n.last = asked ∙ waits number at in
          (λ i. record { client = record { 0 = client i }; number = last i })

  takes_replied : (req : ReqId) (reply : Reply) → (req ≡ mine → WasReplied sent mine reply) → (given : Reply) → (takes req reply n).reply ≡ Some given → WasReplied sent mine given
  takes_replied req reply says given has = by_test (is_of req n.id n.waiting) refl has
    where
      by_test : (b : Bool) → is_of req n.id n.waiting ≡ b → (if b then record { id = n.id; last = n.last; waiting = None; reply = Some reply } else n).reply ≡ Some given → WasReplied sent mine given
      by_test true test has = subst (WasReplied sent mine) (sym (same_reply reply given has)) (says (is_mine req n.waiting refl test))
      by_test false test has = before given has

  module _ (message : Message) (was : (id : _) × (message_of sent id ≡ Some message)) where
    hears_replied : (body : Body) → message.body ≡ body → (given : Reply) → (hearing (hears body n) n).reply ≡ Some given → WasReplied sent mine given
    hears_replied (bodies.Reply req result) at given has = takes_replied req (answered replies.Answer result) (λ own. record { message = message; was = was; says = subst (SaysReply mine (answered replies.Answer result)) (sym at) (own, refl) }) given has
    hears_replied (bodies.Done req result) at given has = takes_replied req (answered replies.Outcome result) (λ own. record { message = message; was = was; says = subst (SaysReply mine (answered replies.Outcome result)) (sym at) (own, refl) }) given has
    hears_replied (bodies.Bytes req result) at given has = takes_replied req (answered replies.Given result) (λ own. record { message = message; was = was; says = subst (SaysReply mine (answered replies.Given result)) (sym at) (own, refl) }) given has
    hears_replied (bodies.About handle said) at given has = before given has
    hears_replied (bodies.Call req call) at given has = before given has
    hears_replied (bodies.Push req bytes) at given has = before given has
    hears_replied (bodies.MakeCopy handle stamp new_handle new_stamp) at given has = before given has
    hears_replied (bodies.Report epoch items) at given has = before given has
    hears_replied (bodies.Epoch epoch end) at given has = before given has
    hears_replied (bodies.Learned epoch handles) at given has = before given has
    hears_replied (bodies.Behind epoch) at given has = before given has

-- ---- a step

was_on : (old new : Sent) (req : ReqId) (reply : Reply) → StaySent old new → WasReplied old req reply → WasReplied new req reply
was_on old new req reply stays w = record { message = w.message; was = sent_still w.message old new stays w.was; says = w.says }

module _ {D : Type 0} (seen : D → List ℕ) (failures : D → ℕ) (armed : DiskId → ℕ → MasterPlace D → MasterPlace D) where
  module _ (old new : History D) (stays : StaySent old.sent new.sent) (are : AreReplied old) where
    -- no client changes
    still : new.nodes.clients ≡ old.nodes.clients → AreReplied new
    still same = record {
      numbered = subst Numbered_all (sym same) are.numbered;
      replied = λ client n reply there has. was_on old.sent new.sent (record { client = client; number = n.last }) reply stays (are.replied client n reply (ap (λ cs. client_in cs client) (sym same) ∙ there) has);
    }

    -- one client changes, and has a reply that was sent, if it has one
    one : (id : ClientId) (n after : Node) → client_in old.nodes.clients id ≡ Some n → after.id ≡ n.id → (Waits n → Waits after) → ((reply : Reply) → after.reply ≡ Some reply → WasReplied new.sent (record { client = id; number = after.last }) reply)
        → new.nodes ≡ with_client id after old.nodes → AreReplied new
    one id n after found own waits replied same = record {
      numbered = subst Numbered_all (sym clients) (still_numbered old.nodes.clients id n after found own waits are.numbered);
      replied = λ client x reply there has. by client x reply has (set_client old.nodes.clients id client n after x found (ap (λ cs. client_in cs client) (sym clients) ∙ there));
    }
      where
        clients : new.nodes.clients ≡ slice_set old.nodes.clients (id.0 - 1) after
        clients = ap (λ (x : Nodes D). x.clients) same

        by : (client : ClientId) (x : Node) (reply : Reply) → x.reply ≡ Some reply → ((id ≡ client) × (x ≡ after)) ⊎ (client_in old.nodes.clients client ≡ Some x) → WasReplied new.sent (record { client = client; number = x.last }) reply
        by client x reply has (inl (is, mine)) =
            subst (λ c. WasReplied new.sent (record { client = c; number = x.last }) reply) is
            (subst (λ (y : Node). WasReplied new.sent (record { client = id; number = y.last }) reply) (sym mine) (replied reply (ap (λ (y : Node). y.reply) (sym mine) ∙ has)))
        by client x reply has (inr before) = was_on old.sent new.sent (record { client = client; number = x.last }) reply stays (are.replied client x reply before has)

    none_yet : (reply : Reply) → ◌≡◌ {A = Option Reply} None (Some reply) → ⊥
    none_yet reply is = cc

    its_last : (a b : ℕ) → Some a ≡ Some b → b ≡ a
    its_last a b is = cc

    by_part : (moment : Moment) (happening : Happening) (outcome : Upshot) → Part seen failures armed old moment happening outcome new.nodes → AreReplied new
    by_part moment happening outcome (Heard id message turn place it was to heard is same) = still (ap (λ (n : Nodes D). n.clients) same)
    by_part moment happening outcome (Ticked turn place it ticks is same) = still (ap (λ (n : Nodes D). n.clients) same)
    by_part moment happening outcome (Opened turn place it opens is same) = still (ap (λ (n : Nodes D). n.clients) same)
    by_part moment happening outcome (Armed disk call it none same) = still (ap (λ (n : Nodes D). n.clients) same)
    by_part moment happening outcome (Served by clients master) = still clients
    by_part moment happening outcome (Asked req request n it found low sends same) =
        one req.client n (asking n req.number) found refl (λ waits number is. its_last req.number number is) (λ reply has. absurd (none_yet reply has)) same
    by_part moment happening outcome (Told id message client n it was found none same) =
        let kept = hearing_same message.body n in
        let own : n.id ≡ client = own_id old.nodes.clients are.numbered client n found in
        let waits : Waits n = λ number is. waits_of client n found number is in
        let before : (reply : Reply) → n.reply ≡ Some reply → WasReplied new.sent (record { client = n.id; number = n.last }) reply =
        λ reply has. subst (λ c. WasReplied new.sent (record { client = c; number = n.last }) reply) (sym own) (was_on old.sent new.sent (record { client = client; number = n.last }) reply stays (are.replied client n reply found has)) in
        one client n (hearing (hears message.body n) n) found kept.0 kept.2
        (λ reply has.
        subst (λ k. WasReplied new.sent (record { client = client; number = k }) reply) (sym kept.1)
        (subst (λ c. WasReplied new.sent (record { client = c; number = n.last }) reply) own (hears_replied new.sent n waits before message (id, stays id message was) message.body refl reply has))) same
      where
        waits_of : (client : ClientId) (n : Node) → client_in old.nodes.clients client ≡ Some n → Waits n
        waits_of client n found = by (client.0 == 0) (slice_get old.nodes.clients (client.0 - 1)) refl found
          where
            by : (b : Bool) (o : Option Node) → slice_get old.nodes.clients (client.0 - 1) ≡ o → (if b then None else o) ≡ Some n → Waits n
            by true o at is = absurd (cc)
            by false o at is = (are.numbered (client.0 - 1) n (at ∙ is)).waits
    by_part moment happening outcome (Rested none same) = still (ap (λ (n : Nodes D). n.clients) same)

  step_replied : (step : Step) (old new : History D) → Goes seen failures armed step old new → AreReplied old → AreReplied new
  step_replied (Comes event) old new (said, h) are =
      by_part old new (step_stays seen failures armed (Comes event) old new (said, h)) are event.moment event.happening h.outcome (part_of seen failures armed old event.moment event.happening h.by h.outcome new.nodes h.at)
  step_replied (Takes client) old new (found, takes, same) are = by_client (client_in old.nodes.clients client) refl takes
    where
      stays : StaySent old.sent new.sent
      stays = step_stays seen failures armed (Takes client) old new (found, takes, same)

      by_client : (o : Option Node) → client_in old.nodes.clients client ≡ o
          → MatchOption o ((new.nodes ≡ old.nodes) × (found ≡ None)) (λ n. (after : Node) × (new.nodes ≡ with_client client after old.nodes) × ((found ≡ n.reply) × (after ≡ given_up n))) → AreReplied new
      by_client None was (same, none) = still old new stays are (ap (λ (n : Nodes D). n.clients) same)
      by_client (Some n) was (after, there, did) =
          one old new stays are client n after was (ap (λ (x : Node). x.id) did.1) (λ waits. subst Waits (sym did.1) waits) (λ reply has. absurd (none_yet old new stays are reply (sym (ap (λ (x : Node). x.reply) did.1) ∙ has))) there

  pub run_replied : StaysReplied seen failures armed
  run_replied [] old new same are = subst AreReplied (sym same) are
  run_replied (step ∷ steps) old new (mid, goes, rest) are = run_replied steps mid new rest (step_replied step old mid goes are)

  -- ---- the beginning

  all_silent : (many place : ℕ) (n : Node) → slice_get (new_clients many) place ≡ Some n → n.reply ≡ None
  all_silent zero place n is = absurd (cc)
  all_silent (suc many) place n is = elim (one_or_last (new_clients many) (silent (record { 0 = many + 1 })) place n is) [
    | inl before ↦ all_silent many place n before
    | inr last ↦ ap (λ (x : Node). x.reply) last.1
  ]

  client_silent : (many : ℕ) (client : ClientId) (n : Node) → client_in (new_clients many) client ≡ Some n → n.reply ≡ None
  client_silent many client n found = by (client.0 == 0) found
    where
      by : (b : Bool) → (if b then None else slice_get (new_clients many) (client.0 - 1)) ≡ Some n → n.reply ≡ None
      by true is = absurd (cc)
      by false is = all_silent many (client.0 - 1) n is

  pub begins_replied : BeginsReplied seen failures armed
  begins_replied config clients disks new begun = record {
    numbered = subst (λ (n : Nodes D). Numbered_all n.clients) (sym begun.nodes) (new_numbered clients);
    replied = λ client n reply there has. absurd (never (sym (client_silent clients client n (ap (λ (x : Nodes D). client_in x.clients client) (sym begun.nodes) ∙ there)) ∙ has));
  }
    where
      never : {reply : Reply} → ◌≡◌ {A = Option Reply} None (Some reply) → ⊥
      never is = cc
