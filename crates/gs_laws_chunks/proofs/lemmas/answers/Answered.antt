-- A reply that a client gets was made for its call, since it asked.
use Rattle.std.proofs.Common.{if◌then◌else◌, ◌≡◌, ◌∙◌, ◌⊎◌, inl, inr, ◌-◌, ◌<◌, ◌≤◌, ◌==◌, ◌++◌, append_assoc, ℕ, zero, suc, Bool, true, false, cond, List, [], ◌∷◌, length, Option, Some, None, MatchOption, Result, Ok, Err, refl, sym, ap, subst, arith, nat_le, slice_get, slice_set}
use Rattle.std.specs.Prelude.{Contains, nat_lt, take}
use Rattle.std.specs.FinMap as fin
use Rattle.std.specs.List.{AllByRecursion}
use Rattle.std.proofs.lemmas.Bool.{false≢true}
use Rattle.std.proofs.lemmas.Bool.Decides.{nat_tests}
use Rattle.gs_base.specs.declared.config.Config.{Config}
use Rattle.gs_base.specs.declared.numbers.ClientId.{ClientId}
use Rattle.gs_base.specs.declared.numbers.Moment.{Moment}
use Rattle.gs_base.specs.declared.numbers.ReqId.{ReqId}
use Rattle.gs_base.specs.declared.refusal.Refusal.{Refusal}
use Rattle.gs_base.specs.declared.refusal.Refusal.TheVariants as refusals
use Rattle.gs_client.specs.Nodes.{Node, answered, given_up, hears, is_of, messages_of, request_of, takes}
use Rattle.gs_client.specs.declared.link.Reply.{Reply}
use Rattle.gs_client.specs.declared.link.Reply.TheVariants as replies
use Rattle.gs_master.specs.Masters.{MasterAnswers, MasterOf}
use Rattle.gs_master.specs.Ticking.{AnswersAs, AnswersTick, lacking, pressed_all, writes_one}
use Rattle.gs_master.specs.declared.turn.Turn.{Turn as Told_turn}
use Rattle.gs_msg.specs.declared.answer.Answer.{Answer}
use Rattle.gs_msg.specs.declared.body.Body.{Body}
use Rattle.gs_msg.specs.declared.body.Body.TheVariants as bodies
use Rattle.gs_msg.specs.declared.call.Call.{Call}
use Rattle.gs_msg.specs.declared.event.DiskId.{DiskId}
use Rattle.gs_msg.specs.declared.event.Event.{Event}
use Rattle.gs_msg.specs.declared.event.Happening.{Happening}
use Rattle.gs_msg.specs.declared.event.Request.{Request}
use Rattle.gs_msg.specs.declared.event.Request.TheVariants as requests
use Rattle.gs_msg.specs.declared.message.Message.{Message}
use Rattle.gs_msg.specs.declared.node.NodeId.{NodeId}
use Rattle.gs_msg.specs.declared.node.NodeId.TheVariants as nodes
use Rattle.gs_master_record.specs.Plain.{PlainEntry}
use Rattle.gs_master_spec.specs.Durable.{Durable}
use Rattle.gs_master_spec.specs.Handling.{Again, New, Numbered, Older, call_turn, from_node, handle, new_call, numbered, replied_again, taken_as, tick, waits_still}
use Rattle.gs_master_spec.specs.Outcomes.{IsCut, IsDone, caller_of, cut, unsure}
use Rattle.gs_master_spec.specs.Replies.{client_cmp, later}
use Rattle.gs_master_spec.specs.State.{State, Turn, is_failed, is_unopened, last_reply, unmoved}
use Rattle.gs_master_spec.specs.Volatile.{Volatile, is_pending}
use Rattle.gs_master_spec.specs.declared.reply.KeptReply.{KeptReply}
use Rattle.gs_laws_moves.specs.answers.AtOnce.{AnswersAlone, KeepsBut, OneSays, SaysAlone}
use Rattle.gs_laws_moves.proofs.lemmas.answers.AtOnce.{at_once}
use Rattle.gs_laws_moves.specs.answers.Concerned.{AnswersOnly, IsConcerned, KeepsOn, RepliesTo, answered_by}
use Rattle.gs_laws_moves.proofs.lemmas.answers.Concerning.{messages_concerned, ticks_concerned}
use Rattle.gs_laws_moves.proofs.lemmas.answers.Kept.{itself, same_calls}
use Rattle.gs_lock.specs.Operations.{same_op}
use Rattle.gs_laws_moves.proofs.lemmas.answers.Plans.{volatile_still}
use Rattle.gs_nodes.specs.Happenings.{MasterHears, MasterTicks, client_in, refusal_of_call}
use Rattle.gs_nodes.specs.Nodes.{Nodes, with_master}
use Rattle.gs_nodes.specs.declared.place.MasterPlace.{MasterPlace}
use Rattle.gs_nodes.specs.declared.place.MasterPlace.TheVariants.{Standing, Closed, Away}
use Rattle.gs_laws_parts.proofs.lemmas.server.Elsewhere.{ByServer}
use Rattle.gs_laws_parts.specs.server.Answering.{IsByServer}
use Rattle.std.proofs.Common.{Vec}
use Rattle.std.specs.declared.alloc.Global.{Global}
use Rattle.gs_client.specs.Nodes.{Asks}
use Rattle.gs_nodes.specs.Happenings.{AtClient, ClientAsks}
use Rattle.gs_world.specs.Sent.{IsPosted}
use Rattle.gs_world.specs.Histories.{AsksAt, Happens, History, Tells, Upshot, asked, told}
use Rattle.gs_world.specs.Runs.{Comes, Goes, RunsTo, Step, Takes}
use Rattle.gs_world.specs.Sent.{Sent}
use Rattle.gs_laws_lift.proofs.lemmas.stores.Posting.{posted_all, sent_then}
use Rattle.gs_laws_lift.specs.stores.Going.{AllSent, Posts}
use Rattle.gs_laws_chunks.specs.answers.Alone.{IsAnsweredAlone, LoneAnswersAreMade}
use Rattle.gs_laws_chunks.specs.answers.Answered.{AnswersAreMade, AsksFresh, Passes, SaidBy, SaysNow, WasSaid, sent_by, spares_master}
use Rattle.gs_laws_chunks.specs.answers.Asked.{AreAsked, HasAsked, KeepsOfAt, SaysOf}
use Rattle.gs_client.specs.Nodes.{pushes, with_bytes}
use Rattle.gs_msg.specs.declared.body.Given.{Given as Part_given}
use Rattle.gs_replica.specs.declared.op.EditOutcome.{EditOutcome}
use Rattle.gs_laws_chunks.proofs.lemmas.answers.Asked.{AllSaid, Numbered_all, found_now, Waits, hearing_same, hears_left, lacking_only, own_id, request_said, servers_said, still_numbered, ticks_left}
use Rattle.gs_laws_chunks.proofs.lemmas.answers.Parts.{Armed, Asked, Heard, Opened, Part, Rested, Served, Ticked, Told, asking, hearing, part_of, with_client}

-- ---- lists

contained_more : {A : Type 0} (x : A) (xs : List A) (y : A) → Contains xs y → Contains (x ∷ xs) y
contained_more x xs y (k, within, is) = (suc k, (omega arith), is)

contained_first : {A : Type 0} (x : A) (xs : List A) → Contains (x ∷ xs) x
contained_first x xs = (0, (omega arith), refl)

-- of each there is
all_there : {A : Type 0} (S : A → Type 0) (xs : List A) → ((x : A) → Contains xs x → S x) → AllByRecursion S xs
all_there S [] each = tt
all_there S (x ∷ xs) each = (each x (contained_first x xs), all_there S xs (λ y there. each y (contained_more x xs y there)))

all_both : {A : Type 0} (S T U : A → Type 0) (xs : List A) → ((x : A) → S x → T x → U x) → AllByRecursion S xs → AllByRecursion T xs → AllByRecursion U xs
all_both S T U [] both first second = tt
all_both S T U (x ∷ xs) both first second = (both x first.0 second.0, all_both S T U xs both first.1 second.1)

all_one : {A : Type 0} (S U : A → Type 0) (xs : List A) → ((x : A) → S x → U x) → AllByRecursion S xs → AllByRecursion U xs
all_one S U [] more all = tt
all_one S U (x ∷ xs) more all = (more x all.0, all_one S U xs more all.1)

-- one that says so is there
pub one_there : (req : ReqId) (result : Result Answer Refusal) (messages : List Message) → OneSays req result messages → (m : Message) × Contains messages m × (m.body ≡ bodies.Reply req result)
one_there req result [] one = absurd one
one_there req result (m ∷ messages) (inl is) = (m, contained_first m messages, is)
one_there req result (m ∷ messages) (inr one) = (let found = one_there req result messages one in (found.0, contained_more m messages found.0 found.1, found.2))

-- ---- a request

-- the refusals that the master tells without a turn of the call's own, where its number isn't older than the last one
abbrev pub IsAnyway : (Result Answer Refusal → Type 0) → Type 0
IsAnyway Made = Made (Err refusals.Device) × Made (Err refusals.Unsure)

-- it is such a refusal
abbrev pub SparedIn : (Refusal → Type 0) → Result Answer Refusal → Type 0
SparedIn Spared (Ok answer) = ⊥
SparedIn Spared (Err refusal) = Spared refusal

-- a server refuses nothing to this request, unless this is given
abbrev pub RefusesIf : ReqId → Type 0 → Body → Type 0
RefusesIf req Given (bodies.Done other (Err refusal)) = other ≡ req → Given
RefusesIf req Given (bodies.Bytes other (Err refusal)) = other ≡ req → Given
RefusesIf req Given body = Unit {0}

-- So it is of all that was sent. And where the master has the reply to a later one, it's given that the call is told to be an old one.
abbrev pub IsFine : {D : Type 0} → ReqId → Type 0 → (Refusal → Type 0) → History D → Type 0
IsFine {D} req Given Spared h =
    AllSent (λ (m : Message). RefusesIf req Given m.body) h.sent × ((m : MasterOf D) → h.nodes.master ≡ Standing m → numbered (last_reply m.state req.client) req.number ≡ Older → Spared refusals.Old)

module _ (req : ReqId) (call : Call) where
  -- what is said to this request, and called under it
  abbrev pub Says : (Result Answer Refusal → Type 0) → Body → Type 0
  Says Made (bodies.Reply other result) = other ≡ req → Made result
  Says Made (bodies.Call other calls) = other ≡ req → calls ≡ call
  Says Made body = Unit {0}

  -- a reply to it that is kept
  abbrev KeptSo : (Result Answer Refusal → Type 0) → fin.FinMap client_cmp KeptReply → Type 0
  KeptSo Made replies = (reply : KeptReply) → fin.get replies req.client ≡ Some reply → reply.number ≡ req.number → Made reply.result

  pub record StateSo (Made : Result Answer Refusal → Type 0) (s : State) : Type 0 where
    pub durable : KeptSo Made s.durable.replies
    pub memory : KeptSo Made s.volatile.replies
    pub waits : is_pending s.volatile.pending req ≡ true → ⊥

  abbrev pub PlaceSo : {D : Type 0} → (Result Answer Refusal → Type 0) → MasterPlace D → Type 0
  PlaceSo Made (Standing m) = StateSo Made m.state
  PlaceSo Made place = Unit {0}

  -- what its client has: an answer, or a refusal
  abbrev pub NodeSo : (Result Answer Refusal → Type 0) → Node → Type 0
  NodeSo Made n = (result : Result Answer Refusal) → n.last ≡ req.number → n.reply ≡ Some (answered replies.Answer result) → Made result

  abbrev pub ClientSo : (Result Answer Refusal → Type 0) → List Node → Type 0
  ClientSo Made clients = (n : Node) → client_in clients req.client ≡ Some n → NodeSo Made n

  abbrev AllSays : (Result Answer Refusal → Type 0) → List Message → Type 0
  AllSays Made messages = AllByRecursion (λ (m : Message). Says Made m.body) messages

  says_more : (Made Then : Result Answer Refusal → Type 0) → ((result : Result Answer Refusal) → Made result → Then result) → (body : Body) → Says Made body → Says Then body
  says_more Made Then more (bodies.Reply other result) says = λ is. more result (says is)
  says_more Made Then more (bodies.Call other calls) says = says
  says_more Made Then more (bodies.About chunk said) says = tt
  says_more Made Then more (bodies.Push other bytes) says = tt
  says_more Made Then more (bodies.Done other result) says = tt
  says_more Made Then more (bodies.Bytes other result) says = tt
  says_more Made Then more (bodies.MakeCopy chunk at new_chunk stamp) says = tt
  says_more Made Then more (bodies.Report epoch replicas) says = tt
  says_more Made Then more (bodies.Epoch epoch end) says = tt
  says_more Made Then more (bodies.Learned epoch handles) says = tt
  says_more Made Then more (bodies.Behind epoch) says = tt

  server_says : (Made : Result Answer Refusal → Type 0) (body : Body) → IsByServer body → Says Made body
  server_says Made (bodies.Reply other result) by = absurd by
  server_says Made (bodies.Call other calls) by = absurd by
  server_says Made (bodies.About chunk said) by = tt
  server_says Made (bodies.Push other bytes) by = tt
  server_says Made (bodies.Done other result) by = tt
  server_says Made (bodies.Bytes other result) by = tt
  server_says Made (bodies.MakeCopy chunk at new_chunk stamp) by = tt
  server_says Made (bodies.Report epoch replicas) by = tt
  server_says Made (bodies.Epoch epoch end) by = tt
  server_says Made (bodies.Learned epoch handles) by = tt
  server_says Made (bodies.Behind epoch) by = tt

  -- ---- a turn that answers others

  other_says : (Made : Result Answer Refusal → Type 0) (P : ReqId → Type 0) → ((other : ReqId) → P other → other ≡ req → ⊥) → (body : Body) → RepliesTo P body → Says Made body
  other_says Made P apart (bodies.Reply other result) is = λ same. absurd (apart other is same)
  other_says Made P apart (bodies.Call other calls) is = absurd is
  other_says Made P apart (bodies.About chunk said) is = tt
  other_says Made P apart (bodies.Push other bytes) is = tt
  other_says Made P apart (bodies.Done other result) is = tt
  other_says Made P apart (bodies.Bytes other result) is = tt
  other_says Made P apart (bodies.MakeCopy chunk at new_chunk stamp) is = tt
  other_says Made P apart (bodies.Report epoch replicas) is = tt
  other_says Made P apart (bodies.Epoch epoch end) is = tt
  other_says Made P apart (bodies.Learned epoch handles) is = tt
  other_says Made P apart (bodies.Behind epoch) is = tt

  module _ (Made : Result Answer Refusal → Type 0) where
    request_is : (reply : KeptReply) → reply.number ≡ req.number → answered_by req.client reply ≡ req
    request_is reply same = λ i. record { client = req.client; number = same i }

    other_kept : (P : ReqId → Type 0) → ((other : ReqId) → P other → other ≡ req → ⊥) → (old new : fin.FinMap client_cmp KeptReply) → KeepsOn P old new → KeptSo Made old → KeptSo Made new
    other_kept P apart old new on kept reply has number = by (on req.client reply has)
      where
        by : (fin.get old req.client ≡ Some reply) ⊎ P (answered_by req.client reply) → Made reply.result
        by (inl before) = kept reply before number
        by (inr p) = absurd (apart (answered_by req.client reply) p (request_is reply number))

    -- no call of this request comes, and it doesn't wait
    apart_from : (s : State) (caller : Option ReqId) → (is_pending s.volatile.pending req ≡ true → ⊥) → (caller ≡ Some req → ⊥) → (other : ReqId) → IsConcerned s caller other → other ≡ req → ⊥
    apart_from s caller none other_calls other (inl is) same = other_calls (is ∙ ap Some same)
    apart_from s caller none other_calls other (inr there) same = none (subst (λ r. is_pending s.volatile.pending r ≡ true) same there)

    other_done : (s : State) (caller : Option ReqId) (t : Turn) → AnswersOnly (IsConcerned s caller) s t → StateSo Made s → (caller ≡ Some req → ⊥) → StateSo Made t.after
    other_done s caller t only so other_calls = (let apart = apart_from s caller so.waits other_calls in record {
      durable = other_kept (IsConcerned s caller) apart s.durable.replies t.after.durable.replies only.durable so.durable;
      memory = other_kept (IsConcerned s caller) apart s.volatile.replies t.after.volatile.replies only.memory so.memory;
      waits = λ there. apart req (only.waits req there) refl;
    })

    cut_memory : (s : State) (xs : List PlainEntry) (place : ℕ) → StateSo Made s → KeptSo Made (cut s xs place).durable.replies → StateSo Made (cut s xs place)
    cut_memory s xs place so durable = (let same = volatile_still (take place xs) s in record {
      durable = durable;
      memory = λ reply has. so.memory reply (ap (λ (v : Volatile). fin.get v.replies req.client) (sym same) ∙ has);
      waits = λ there. so.waits (ap (λ (v : Volatile). is_pending v.pending req) (sym same) ∙ there);
    })

    other_cut : (s : State) (caller : Option ReqId) (t : Turn) (place : ℕ) → place < length t.records → AnswersOnly (IsConcerned s caller) s t → StateSo Made s → (caller ≡ Some req → ⊥) → StateSo Made (cut s t.records place)
    other_cut s caller t place within only so other_calls =
        cut_memory s t.records place so (other_kept (IsConcerned s caller) (apart_from s caller so.waits other_calls) s.durable.replies (cut s t.records place).durable.replies (only.cuts place within) so.durable)

    unsure_says : Made (Err refusals.Unsure) → (caller : Option ReqId) → AllSays Made (unsure caller)
    unsure_says so None = tt
    unsure_says so (Some other) = ((λ same. so), tt)

    refusal_says : Made (Err refusals.Device) → (caller : Option ReqId) → AllSays Made (refusal_of_call caller)
    refusal_says so None = tt
    refusal_says so (Some other) = ((λ same. so), tt)

    only_says : (s : State) (caller : Option ReqId) (t : Turn) → AnswersOnly (IsConcerned s caller) s t → StateSo Made s → (caller ≡ Some req → ⊥) → AllSays Made t.sent
    only_says s caller t only so other_calls = all_one _ (λ (m : Message). Says Made m.body) t.sent (λ m is. other_says Made (IsConcerned s caller) (apart_from s caller so.waits other_calls) m.body is) only.sent

  -- ---- its own call

  module _ (Made Then : Result Answer Refusal → Type 0) (more : (result : Result Answer Refusal) → Made result → Then result) where
    state_more : (s : State) → StateSo Made s → StateSo Then s
    state_more s so = record {
      durable = λ reply has number. more reply.result (so.durable reply has number);
      memory = λ reply has number. more reply.result (so.memory reply has number);
      waits = so.waits;
    }

    pub place_more : {D : Type 0} (place : MasterPlace D) → PlaceSo Made place → PlaceSo Then place
    place_more (Standing m) so = state_more m.state so
    place_more (Closed first second) so = tt
    place_more Away so = tt

    -- where this turn sends a reply to it, that is so
    abbrev Now : State → Turn → Type 0
    Now s t = is_pending s.volatile.pending req ≡ false → numbered (last_reply s req.client) req.number ≡ New → (result : Result Answer Refusal) (m : Message) → Contains t.sent m → m.body ≡ bodies.Reply req result → Then result

    abbrev Own : State → Turn → Type 0
    Own s t = StateSo Then t.after × AllSays Then t.sent

    -- one reply
    replied : (s : State) (result : Result Answer Refusal) → StateSo Made s → Then result → Own s (replied_again s req result)
    replied s result so is = (state_more s so, ((λ same. is), tt))

    -- a new call
    alone_says : (result : Result Answer Refusal) (all : List Message) → ((said : Result Answer Refusal) (m : Message) → Contains all m → m.body ≡ bodies.Reply req said → Then said)
        → (m : Message) → Contains all m → SaysAlone req result m.body → Says Then m.body
    alone_says result all now m there alone = by_body m.body refl alone
      where
        by_body : (body : Body) → m.body ≡ body → SaysAlone req result body → Says Then body
        by_body (bodies.Reply other said) is alone = λ same. now said m there (is ∙ ap (λ r. bodies.Reply r said) same)
        by_body (bodies.Call other calls) is alone = absurd alone
        by_body (bodies.About chunk said) is alone = tt
        by_body (bodies.Push other bytes) is alone = tt
        by_body (bodies.Done other result) is alone = tt
        by_body (bodies.Bytes other result) is alone = tt
        by_body (bodies.MakeCopy chunk at new_chunk stamp) is alone = tt
        by_body (bodies.Report epoch replicas) is alone = tt
        by_body (bodies.Epoch epoch end) is alone = tt
        by_body (bodies.Learned epoch handles) is alone = tt
        by_body (bodies.Behind epoch) is alone = tt

    alone_kept : (result : Result Answer Refusal) (all : List Message) → OneSays req result all → ((said : Result Answer Refusal) (m : Message) → Contains all m → m.body ≡ bodies.Reply req said → Then said)
        → (old new : fin.FinMap client_cmp KeptReply) → KeepsBut req result old new → KeptSo Made old → KeptSo Then new
    alone_kept result all one now old new but kept reply has number = by (but req.client reply has)
      where
        by : (fin.get old req.client ≡ Some reply) ⊎ ((answered_by req.client reply ≡ req) × (reply.result ≡ result)) → Then reply.result
        by (inl before) = more reply.result (kept reply before number)
        by (inr own) = (let found = one_there req result all one in now reply.result found.0 found.1 (found.2 ∙ ap (λ r. bodies.Reply req r) (sym own.1)))

    alone_own : (result : Result Answer Refusal) (s : State) (t : Turn) → AnswersAlone req result s t → StateSo Made s → ((said : Result Answer Refusal) (m : Message) → Contains t.sent m → m.body ≡ bodies.Reply req said → Then said) → Own s t
    alone_own result s t alone so now = (
      record {
        durable = alone_kept result t.sent alone.says now s.durable.replies t.after.durable.replies alone.durable so.durable;
        memory = alone_kept result t.sent alone.says now s.volatile.replies t.after.volatile.replies alone.memory so.memory;
        waits = λ there. so.waits (alone.waits req there);
      },
      all_both (λ m. Contains t.sent m) (λ (m : Message). SaysAlone req result m.body) (λ (m : Message). Says Then m.body) t.sent (λ m there is. alone_says result t.sent now m there is) (all_there (λ m. Contains t.sent m) t.sent (λ m there. there)) alone.sent,
    )

    -- the last reply to its client is one that is kept
    again_kept : (s : State) (result : Result Answer Refusal) → StateSo Made s → numbered (last_reply s req.client) req.number ≡ Again result → Then result
    again_kept s result so is = by_replies (fin.get s.durable.replies req.client) (fin.get s.volatile.replies req.client) refl refl is
      where
        result_is : {a b : Result Answer Refusal} → Again a ≡ Again b → a ≡ b
        result_is is = cc

        same_number : (a b : ℕ) → (a == b) ≡ true → a ≡ b
        same_number a b is = grind (arith, nat_tests)

        no_answer : (b : Bool) → (if b then Older else New) ≡ Again result → Then result
        no_answer true h = absurd cc
        no_answer false h = absurd cc

        by_number : (b : Bool) (reply : KeptReply) → (reply.number == req.number) ≡ b → (reply.number ≡ req.number → Made reply.result) → (if b then Again reply.result else if nat_lt req.number reply.number then Older else New) ≡ Again result → Then result
        by_number true reply test kept h = subst Then (result_is h) (more reply.result (kept (same_number reply.number req.number test)))
        by_number false reply test kept h = no_answer (nat_lt req.number reply.number) h

        by_one : (reply : KeptReply) → (reply.number ≡ req.number → Made reply.result) → numbered (Some reply) req.number ≡ Again result → Then result
        by_one reply kept h = by_number (reply.number == req.number) reply refl kept h

        by_later : (b : Bool) (a o : KeptReply) → fin.get s.durable.replies req.client ≡ Some a → fin.get s.volatile.replies req.client ≡ Some o → numbered (if b then Some o else Some a) req.number ≡ Again result → Then result
        by_later true a o in_durable in_memory h = by_one o (λ number. so.memory o in_memory number) h
        by_later false a o in_durable in_memory h = by_one a (λ number. so.durable a in_durable number) h

        by_replies : (a o : Option KeptReply) → fin.get s.durable.replies req.client ≡ a → fin.get s.volatile.replies req.client ≡ o → numbered (later a o) req.number ≡ Again result → Then result
        by_replies None None in_durable in_memory h = absurd cc
        by_replies None (Some o) in_durable in_memory h = by_one o (λ number. so.memory o in_memory number) h
        by_replies (Some a) None in_durable in_memory h = by_one a (λ number. so.durable a in_durable number) h
        by_replies (Some a) (Some o) in_durable in_memory h = by_later (nat_lt a.number o.number) a o in_durable in_memory h

    -- where its number is older, that is told
    abbrev Older_told : State → Type 0
    Older_told s = numbered (last_reply s req.client) req.number ≡ Older → Then (Err refusals.Old)

    module _ (anyway : IsAnyway Then) where
      taken_own : (config : Config) (s : State) (moment : Moment) (how : Numbered) → IsAnsweredAlone call → numbered (last_reply s req.client) req.number ≡ how → is_pending s.volatile.pending req ≡ false → StateSo Made s → Older_told s
          → Now s (taken_as config s req moment call how) → Own s (taken_as config s req moment call how)
      taken_own config s moment New once is apart so older now = (let alone = once config s req moment in alone_own alone.0 s (new_call config s req moment call) alone.1 so (now apart is))
      taken_own config s moment (Again result) once is apart so older now = replied s result so (again_kept s result so is)
      taken_own config s moment Older once is apart so older now = replied s (Err refusals.Old) so (older is)

      still_own : (s : State) → StateSo Made s → Own s (waits_still s req)
      still_own s so = by_fault (is_failed s.fault)
        where
          by_fault : (b : Bool) → Own s (if b then replied_again s req (Err refusals.Device) else unmoved s)
          by_fault true = replied s (Err refusals.Device) so anyway.0
          by_fault false = (state_more s so, tt)

      pub call_own : (config : Config) (s : State) (moment : Moment) → IsAnsweredAlone call → StateSo Made s → Older_told s → Now s (call_turn config s req moment call) → Own s (call_turn config s req moment call)
      call_own config s moment once so older now = by_opened (is_unopened s.fault) now
        where
          taken : Turn
          taken = taken_as config s req moment call (numbered (last_reply s req.client) req.number)

          by_waits : (b : Bool) → is_pending s.volatile.pending req ≡ b → Now s (if b then waits_still s req else taken_as config s req moment call (numbered (last_reply s req.client) req.number)) → Own s (if b then waits_still s req else taken_as config s req moment call (numbered (last_reply s req.client) req.number))
          by_waits true is now = still_own s so
          by_waits false is now = taken_own config s moment (numbered (last_reply s req.client) req.number) once refl is so older now

          by_opened : (b : Bool) → Now s (if b then replied_again s req (Err refusals.Device) else if is_pending s.volatile.pending req then waits_still s req else taken_as config s req moment call (numbered (last_reply s req.client) req.number))
              → Own s (if b then replied_again s req (Err refusals.Device) else if is_pending s.volatile.pending req then waits_still s req else taken_as config s req moment call (numbered (last_reply s req.client) req.number))
          by_opened true now = replied s (Err refusals.Device) so anyway.0
          by_opened false now = by_waits (is_pending s.volatile.pending req) refl now

      -- one record at most
      call_few : (config : Config) (s : State) (moment : Moment) → IsAnsweredAlone call → length (call_turn config s req moment call).records ≤ 1
      call_few config s moment once = by_opened (is_unopened s.fault)
        where
          by_how : (how : Numbered) → length (taken_as config s req moment call how).records ≤ 1
          by_how New = (once config s req moment).1.few
          by_how (Again result) = omega arith
          by_how Older = omega arith

          by_fault : (b : Bool) → length (if b then replied_again s req (Err refusals.Device) else unmoved s).records ≤ 1
          by_fault true = omega arith
          by_fault false = omega arith

          by_waits : (b : Bool) → length (if b then waits_still s req else taken_as config s req moment call (numbered (last_reply s req.client) req.number)).records ≤ 1
          by_waits true = by_fault (is_failed s.fault)
          by_waits false = by_how (numbered (last_reply s req.client) req.number)

          by_opened : (b : Bool) → length (if b then replied_again s req (Err refusals.Device) else if is_pending s.volatile.pending req then waits_still s req else taken_as config s req moment call (numbered (last_reply s req.client) req.number)).records ≤ 1
          by_opened true = omega arith
          by_opened false = by_waits (is_pending s.volatile.pending req)

      -- ---- the master

      own_cut : (s : State) (t : Turn) (place : ℕ) → length t.records ≤ 1 → place < length t.records → StateSo Made s → StateSo Then (cut s t.records place)
      own_cut s t place few within so = state_more (cut s t.records place) (cut_memory Made s t.records place so (subst (λ (d : Durable). KeptSo Made d.replies) (sym (none_cut s t.records place (nought few within))) so.durable))
        where
          nought : {n m : ℕ} → m ≤ 1 → n < m → n ≡ 0
          nought few within = omega arith

          none_cut : (s : State) (xs : List PlainEntry) (place : ℕ) → place ≡ 0 → (cut s xs place).durable ≡ s.durable
          none_cut s xs place is = ap (λ k. (cut s xs k).durable) is

      abbrev Left : {D : Type 0} → MasterPlace D → List Message → Type 0
      Left place messages = PlaceSo Then place × AllSays Then messages

      module _ {D : Type 0} (seen : D → List ℕ) (failures : D → ℕ) where
        -- where this is said and done, it's answered now
        abbrev Told_now : MasterOf D → Told_turn → Type 0
        Told_now m turn = is_pending m.state.volatile.pending req ≡ false → numbered (last_reply m.state req.client) req.number ≡ New → (result : Result Answer Refusal) (reply : Message) → Contains turn.sent.items reply → reply.body ≡ bodies.Reply req result → Then result

        own_left : (t : Turn) (m after : MasterOf D) (turn : Told_turn) → StateSo Made m.state → (Now m.state t → Own m.state t) → length t.records ≤ 1 → Told_now m turn → MasterAnswers seen failures (Some req) t m (Ok turn) after → Left (Standing after) turn.sent.items
        own_left t m after turn so own few now (inl is) =
            let left = own (λ apart new result reply there says. now apart new result reply (subst (λ ms. Contains ms reply) (sym is.done.sends) there) says) in
            (subst (StateSo Then) (sym is.done.after) left.0, subst (AllSays Then) (sym is.done.sends) left.1)
        own_left t m after turn so own few now (inr (place, is)) =
            (subst (StateSo Then) (sym is.cut.after) (own_cut m.state t place few is.cut.within so), subst (AllSays Then) (sym is.cut.sends) (unsure_says Then anyway.1 (Some req)))

        other_left : (caller : Option ReqId) (t : Turn) (m after : MasterOf D) (turn : Told_turn) → AnswersOnly (IsConcerned m.state caller) m.state t → StateSo Made m.state → (caller ≡ Some req → ⊥) → IsDone t turn.sent.items turn.said after.state → Left (Standing after) turn.sent.items
        other_left caller t m after turn only so apart is = (
          subst (StateSo Then) (sym is.after) (state_more t.after (other_done Made m.state caller t only so apart)),
          subst (AllSays Then) (sym is.sends) (all_one (λ (x : Message). Says Made x.body) (λ (x : Message). Says Then x.body) t.sent (λ x. says_more Made Then more x.body) (only_says Made m.state caller t only so apart)),
        )

        other_cut_left : (caller : Option ReqId) (t : Turn) (m after : MasterOf D) (turn : Told_turn) (place : ℕ) → AnswersOnly (IsConcerned m.state caller) m.state t → StateSo Made m.state → (caller ≡ Some req → ⊥) → IsCut m.state caller t place turn.sent.items turn.said after.state
            → Left (Standing after) turn.sent.items
        other_cut_left caller t m after turn place only so apart is = (
          subst (StateSo Then) (sym is.after) (state_more (cut m.state t.records place) (other_cut Made m.state caller t place is.within only so apart)),
          subst (AllSays Then) (sym is.sends) (unsure_says Then anyway.1 caller),
        )

        answers_other : (caller : Option ReqId) (t : Turn) (m after : MasterOf D) (turn : Told_turn) → AnswersOnly (IsConcerned m.state caller) m.state t → StateSo Made m.state → (caller ≡ Some req → ⊥) → MasterAnswers seen failures caller t m (Ok turn) after → Left (Standing after) turn.sent.items
        answers_other caller t m after turn only so apart (inl is) = other_left caller t m after turn only so apart is.done
        answers_other caller t m after turn only so apart (inr (place, is)) = other_cut_left caller t m after turn place only so apart is.cut

        none_is : ◌≡◌ {A = Option ReqId} None (Some req) → ⊥
        none_is is = cc

        as_other : (b : Bool) (t steps : Turn) (m after : MasterOf D) (turn : Told_turn) → AnswersOnly (IsConcerned m.state None) m.state t → StateSo Made m.state → AnswersAs seen failures b t steps m turn after → Left (Standing after) turn.sent.items
        as_other true t steps m after turn only so (inl is) = other_left None t m after turn only so none_is is.done
        as_other true t steps m after turn only so (inr (place, is)) = other_cut_left None t m after turn place only so none_is is.cut
        as_other false t steps m after turn only so (inl is) = other_left None t m after turn only so none_is is.done
        as_other false t steps m after turn only so (inr (place, is)) = other_cut_left None t m after turn place only so none_is is.cut

        tick_other : (moment : Moment) (m after : MasterOf D) (turn : Told_turn) → StateSo Made m.state → AnswersTick seen failures moment m (Ok turn) after → Left (Standing after) turn.sent.items
        tick_other moment m after turn so (inl whole) = as_other (writes_one m.state (pressed_all m.state moment)) (tick m.state moment) (pressed_all m.state moment) m after turn (ticks_concerned m.state moment) so whole
        tick_other moment m after turn so (inr (sound, is_due, none, done)) = answers_other None (lacking (pressed_all m.state moment)) m after turn (lacking_only seen failures (λ r. ⊥) m.state moment) so none_is done

        pub ticks_so : (moment : Moment) (old new : MasterPlace D) (turn : Told_turn) → PlaceSo Made old → MasterTicks seen failures moment old (Ok turn) new → Left new turn.sent.items
        ticks_so moment (Standing m) new turn so (after, is, answers) = (let left = tick_other moment m after turn so answers in (subst (PlaceSo Then) (sym is) left.0, left.1))
        ticks_so moment (Closed first second) new turn so meets = (subst (PlaceSo Then) (sym meets.0) tt, subst (AllSays Then) (sym meets.1) tt)
        ticks_so moment Away new turn so meets = (subst (PlaceSo Then) (sym meets.0) tt, subst (AllSays Then) (sym meets.1) tt)

        -- it hears its call, or another message
        same_call : (other : ReqId) → (other ≡ req) ⊎ (other ≡ req → ⊥)
        same_call other = by_test (same_op other req) refl
          where
            by_test : (b : Bool) → same_op other req ≡ b → (other ≡ req) ⊎ (other ≡ req → ⊥)
            by_test true is = inl (same_calls other req is)
            by_test false is = inr (λ same. false≢true (sym is ∙ ap (λ r. same_op r req) same ∙ itself req))

        -- what comes is this call
        is_call_turn : (config : Config) (s : State) (message : Message) (moment : Moment) → message.body ≡ bodies.Call req call → message.from ≡ nodes.Client req.client → handle config s message moment ≡ call_turn config s req moment call
        unfolding handle
        is_call_turn config s message moment asks from = ap (λ (b : Body). from_node config s moment b message.from) asks ∙ ap (λ (n : NodeId). from_node config s moment (bodies.Call req call) n) from

        own_hears : (message : Message) (moment : Moment) (m after : MasterOf D) (turn : Told_turn) → IsAnsweredAlone call → message.body ≡ bodies.Call req call → message.from ≡ nodes.Client req.client → StateSo Made m.state → Older_told m.state → Told_now m turn
            → MasterAnswers seen failures (caller_of message.body) (handle m.config m.state message moment) m (Ok turn) after → Left (Standing after) turn.sent.items
        own_hears message moment m after turn once asks from so older now answers =
            own_left (call_turn m.config m.state req moment call) m after turn so (call_own m.config m.state moment once so older) (call_few m.config m.state moment once) now
            (subst (λ (t : Turn). MasterAnswers seen failures (Some req) t m (Ok turn) after) (is_call_turn m.config m.state message moment asks from) (subst (λ (b : Body). MasterAnswers seen failures (caller_of b) (handle m.config m.state message moment) m (Ok turn) after) asks answers))

        -- who calls, if it isn't this one
        other_caller : (body : Body) → ((other : ReqId) (calls : Call) → body ≡ bodies.Call other calls → other ≡ req → ⊥) → caller_of body ≡ Some req → ⊥
        other_caller (bodies.Call other calls) apart is = apart other calls refl (req_is is)
          where
            req_is : {a b : ReqId} → ◌≡◌ {A = Option ReqId} (Some a) (Some b) → a ≡ b
            req_is is = cc
        other_caller (bodies.Reply other result) apart is = absurd cc
        other_caller (bodies.About chunk said) apart is = absurd cc
        other_caller (bodies.Push other bytes) apart is = absurd cc
        other_caller (bodies.Done other result) apart is = absurd cc
        other_caller (bodies.Bytes other result) apart is = absurd cc
        other_caller (bodies.MakeCopy chunk at new_chunk stamp) apart is = absurd cc
        other_caller (bodies.Report epoch replicas) apart is = absurd cc
        other_caller (bodies.Epoch epoch end) apart is = absurd cc
        other_caller (bodies.Learned epoch handles) apart is = absurd cc
        other_caller (bodies.Behind epoch) apart is = absurd cc

        hears_other : (message : Message) (moment : Moment) (m after : MasterOf D) (turn : Told_turn) (body : Body) → message.body ≡ body → ((other : ReqId) (calls : Call) → body ≡ bodies.Call other calls → ⊥) → StateSo Made m.state
            → MasterAnswers seen failures (caller_of message.body) (handle m.config m.state message moment) m (Ok turn) after → Left (Standing after) turn.sent.items
        hears_other message moment m after turn body is none so answers =
            answers_other (caller_of message.body) (handle m.config m.state message moment) m after turn (messages_concerned m.config m.state message moment) so (other_caller message.body (λ r c there same. none r c (sym is ∙ there))) answers

        hears_one : (message : Message) (moment : Moment) (m after : MasterOf D) (turn : Told_turn) (body : Body) → message.body ≡ body → IsAnsweredAlone call → Says Made body → SaysOf (λ r. Unit {0}) message.from body → StateSo Made m.state → Older_told m.state
            → ((asks : message.body ≡ bodies.Call req call) (from : message.from ≡ nodes.Client req.client) → Told_now m turn) → MasterAnswers seen failures (caller_of message.body) (handle m.config m.state message moment) m (Ok turn) after → Left (Standing after) turn.sent.items
        hears_one message moment m after turn (bodies.Call other calls) is once says of so older now answers = elim (same_call other) [
          | inl same ↦
              let asks = is ∙ ap (λ r. bodies.Call r calls) same ∙ ap (λ c. bodies.Call req c) (says same) in
              let from = of.0 ∙ ap (λ (r : ReqId). nodes.Client r.client) same in own_hears message moment m after turn once asks from so older (now asks from) answers
          | inr apart ↦
              answers_other (caller_of message.body) (handle m.config m.state message moment) m after turn (messages_concerned m.config m.state message moment) so
              (other_caller message.body (λ r c there same. apart (call_is (sym is ∙ there) ∙ same))) answers
        ]
          where
            call_is : {a b : ReqId} {c d : Call} → bodies.Call a c ≡ bodies.Call b d → a ≡ b
            call_is is = cc
        hears_one message moment m after turn (bodies.Reply other result) is once says of so older now answers = hears_other message moment m after turn (bodies.Reply other result) is (λ r c there. absurd cc) so answers
        hears_one message moment m after turn (bodies.About chunk said) is once says of so older now answers = hears_other message moment m after turn (bodies.About chunk said) is (λ r c there. absurd cc) so answers
        hears_one message moment m after turn (bodies.Push other bytes) is once says of so older now answers = hears_other message moment m after turn (bodies.Push other bytes) is (λ r c there. absurd cc) so answers
        hears_one message moment m after turn (bodies.Done other result) is once says of so older now answers = hears_other message moment m after turn (bodies.Done other result) is (λ r c there. absurd cc) so answers
        hears_one message moment m after turn (bodies.Bytes other result) is once says of so older now answers = hears_other message moment m after turn (bodies.Bytes other result) is (λ r c there. absurd cc) so answers
        hears_one message moment m after turn (bodies.MakeCopy chunk at new_chunk stamp) is once says of so older now answers = hears_other message moment m after turn (bodies.MakeCopy chunk at new_chunk stamp) is (λ r c there. absurd cc) so answers
        hears_one message moment m after turn (bodies.Report epoch replicas) is once says of so older now answers = hears_other message moment m after turn (bodies.Report epoch replicas) is (λ r c there. absurd cc) so answers
        hears_one message moment m after turn (bodies.Epoch epoch end) is once says of so older now answers = hears_other message moment m after turn (bodies.Epoch epoch end) is (λ r c there. absurd cc) so answers
        hears_one message moment m after turn (bodies.Learned epoch handles) is once says of so older now answers = hears_other message moment m after turn (bodies.Learned epoch handles) is (λ r c there. absurd cc) so answers
        hears_one message moment m after turn (bodies.Behind epoch) is once says of so older now answers = hears_other message moment m after turn (bodies.Behind epoch) is (λ r c there. absurd cc) so answers

        pub hears_so : (message : Message) (moment : Moment) (old new : MasterPlace D) (turn : Told_turn) → IsAnsweredAlone call → Says Made message.body → SaysOf (λ r. Unit {0}) message.from message.body → PlaceSo Made old → ((m : MasterOf D) → old ≡ Standing m → Older_told m.state)
            → ((m : MasterOf D) → old ≡ Standing m → message.body ≡ bodies.Call req call → message.from ≡ nodes.Client req.client → Told_now m turn) → MasterHears seen failures message moment old (Ok turn) new → Left new turn.sent.items
        hears_so message moment (Standing m) new turn once says of so older now (after, is, answers) =
            let left = hears_one message moment m after turn message.body refl once says of so (older m refl) (now m refl) answers in (subst (PlaceSo Then) (sym is) left.0, left.1)
        hears_so message moment (Closed first second) new turn once says of so older now meets = (subst (PlaceSo Then) (sym meets.0) tt, subst (AllSays Then) (sym meets.1) (refusal_says Then anyway.0 (caller_of message.body)))
        hears_so message moment Away new turn once says of so older now meets = (subst (PlaceSo Then) (sym meets.0) tt, subst (AllSays Then) (sym meets.1) (refusal_says Then anyway.0 (caller_of message.body)))

-- ---- clients

set_or : (xs : List Node) (i j : ℕ) (after x : Node) → slice_get (slice_set xs i after) j ≡ Some x → ((i ≡ j) × (x ≡ after)) ⊎ (slice_get xs j ≡ Some x)
set_or [] i j after x is = absurd cc
set_or (y ∷ xs) zero zero after x is = inl (refl, cc)
set_or (y ∷ xs) zero (suc j) after x is = inr is
set_or (y ∷ xs) (suc i) zero after x is = inr is
set_or (y ∷ xs) (suc i) (suc j) after x is = by (set_or xs i j after x is)
  where
    by : ((i ≡ j) × (x ≡ after)) ⊎ (slice_get xs j ≡ Some x) → ((suc i ≡ suc j) × (x ≡ after)) ⊎ (slice_get xs j ≡ Some x)
    by (inl own) = inl (ap suc own.0, own.1)
    by (inr before) = inr before

in_list : (nought : Bool) (found : Option Node) (n : Node) → (if nought then None else found) ≡ Some n → (nought ≡ false) × (found ≡ Some n)
in_list true found n is = absurd cc
in_list false found n is = (refl, is)

to_client : (nought : Bool) (found : Option Node) (n : Node) → nought ≡ false → found ≡ Some n → (if nought then None else found) ≡ Some n
to_client true found n not is = absurd cc
to_client false found n not is = is

same_place : (a b : ℕ) → (a == 0) ≡ false → (b == 0) ≡ false → a - 1 ≡ b - 1 → a ≡ b
same_place a b first second is = grind (arith, nat_tests)

-- who goes on is this client, or it is as it was
pub set_client : (clients : List Node) (id other : ClientId) (n after x : Node) → client_in clients id ≡ Some n → client_in (slice_set clients (id.0 - 1) after) other ≡ Some x → ((id ≡ other) × (x ≡ after)) ⊎ (client_in clients other ≡ Some x)
set_client clients id other n after x found there =
    let mine = in_list (id.0 == 0) (slice_get clients (id.0 - 1)) n found in
    let its = in_list (other.0 == 0) (slice_get (slice_set clients (id.0 - 1) after) (other.0 - 1)) x there in
    by mine.0 its.0 (set_or clients (id.0 - 1) (other.0 - 1) after x its.1)
  where
    by : (id.0 == 0) ≡ false → (other.0 == 0) ≡ false → ((id.0 - 1 ≡ other.0 - 1) × (x ≡ after)) ⊎ (slice_get clients (other.0 - 1) ≡ Some x) → ((id ≡ other) × (x ≡ after)) ⊎ (client_in clients other ≡ Some x)
    by first second (inl own) = (let same = same_place id.0 other.0 first second own.0 in inl ((λ i. record { 0 = same i }), own.1))
    by first second (inr before) = inr (to_client (other.0 == 0) (slice_get clients (other.0 - 1)) x second before)

-- ---- an event

abbrev Any : ReqId → Type 0
Any req = Unit {0}

any_kept : {D : Type 0} (place : MasterPlace D) → KeepsOfAt Any place
any_kept (Standing m) = record { durable = λ req k. tt; memory = λ req k. tt; waits = λ req there. tt }
any_kept (Closed first second) = tt
any_kept Away = tt

module _ (req : ReqId) (call : Call) where
  abbrev pub SoMessage : (Result Answer Refusal → Type 0) → Message → Type 0
  SoMessage Made m = Says req call Made m.body × SaysOf Any m.from m.body

  pub record Follows {D : Type 0} (Made : Result Answer Refusal → Type 0) (h : History D) : Type 0 where
    pub sent : AllSent (SoMessage Made) h.sent
    pub master : PlaceSo req call Made h.nodes.master
    pub client : ClientSo req call Made h.nodes.clients
    pub past : (n : Node) → client_in h.nodes.clients req.client ≡ Some n → req.number ≤ n.last
    pub numbered : Numbered_all h.nodes.clients

  record Leaves {D : Type 0} (Then : Result Answer Refusal → Type 0) (outcome : Upshot) (new : Nodes D) : Type 0 where
    said : AllSays req call Then (sent_by outcome)
    of : AllSaid Any (sent_by outcome)
    master : PlaceSo req call Then new.master
    client : ClientSo req call Then new.clients
    past : (n : Node) → client_in new.clients req.client ≡ Some n → req.number ≤ n.last
    numbered : Numbered_all new.clients

  servers_say : (Then : Result Answer Refusal → Type 0) (messages : List Message) → ByServer messages → AllSays req call Then messages
  servers_say Then [] by = tt
  servers_say Then (m ∷ messages) by = (server_says req call Then m.body by.0, servers_say Then messages by.1)

  -- what another request says
  pushed_says : (Then : Result Answer Refusal → Type 0) (other : ReqId) (members bytes : List ℕ) → AllSays req call Then (pushes other members bytes)
  pushed_says Then other [] bytes = tt
  pushed_says Then other (member ∷ members) bytes = (tt, pushed_says Then other members bytes)

  both_say : (Then : Result Answer Refusal → Type 0) (xs ys : List Message) → AllSays req call Then xs → AllSays req call Then ys → AllSays req call Then (xs ++ ys)
  both_say Then [] ys first second = second
  both_say Then (x ∷ xs) ys first second = (first.0, both_say Then xs ys first.1 second)

  pub request_says : (Then : Result Answer Refusal → Type 0) (other : ReqId) (request : Request) → ((calls : Call) → request ≡ requests.Call calls → other ≡ req → calls ≡ call) → AllSays req call Then (messages_of other request)
  request_says Then other (requests.Call calls) same = (same calls refl, tt)
  request_says Then other (requests.Write handle members primary stamp op bytes) same = both_say Then (pushes other (with_bytes members op) bytes) _ (pushed_says Then other (with_bytes members op) bytes) (tt, tt)
  request_says Then other (requests.Fetch to handle stamp epoch asked) same = (tt, tt)

  module _ {D : Type 0} (seen : D → List ℕ) (failures : D → ℕ) (armed : DiskId → ℕ → MasterPlace D → MasterPlace D) (once : IsAnsweredAlone call) where
    module _ (Made Then : Result Answer Refusal → Type 0) (more : (result : Result Answer Refusal) → Made result → Then result) (anyway : IsAnyway Then) (Given : Type 0) (given : Given → (refusal : Refusal) → Then (Err refusal)) (old : History D) (refused : AllSent (λ (m : Message). RefusesIf req Given m.body) old.sent)
        (older : (m : MasterOf D) → old.nodes.master ≡ Standing m → numbered (last_reply m.state req.client) req.number ≡ Older → Then (Err refusals.Old)) (f : Follows Made old) (moment : Moment) (happening : Happening) (outcome : Upshot) (now : (result : Result Answer Refusal) → SaysNow old (record { moment = moment; happening = happening }) outcome req call result → Then result) where
      at_master : (place : MasterPlace D) (new : Nodes D) (messages : List Message) → new ≡ with_master place old.nodes → sent_by outcome ≡ messages → PlaceSo req call Then place × AllSays req call Then messages → AllSaid Any messages → Leaves Then outcome new
      at_master place new messages same is left of = subst (Leaves Then outcome) (sym same) (record {
        said = subst (AllSays req call Then) (sym is) left.1;
        of = subst (AllSaid Any) (sym is) of;
        master = left.0;
        client = λ n there answer last reply. more answer (f.client n there answer last reply);
        past = f.past;
        numbered = f.numbered;
      })

      elsewhere : (new : Nodes D) → new.clients ≡ old.nodes.clients → new.master ≡ old.nodes.master → AllSays req call Then (sent_by outcome) → AllSaid Any (sent_by outcome) → Leaves Then outcome new
      elsewhere new clients master said of = record {
        said = said;
        of = of;
        master = subst (PlaceSo req call Then) (sym master) (place_more req call Made Then more old.nodes.master f.master);
        client = λ n there answer last reply. more answer (f.client n (ap (λ cs. client_in cs req.client) (sym clients) ∙ there) answer last reply);
        past = λ n there. f.past n (ap (λ cs. client_in cs req.client) (sym clients) ∙ there);
        numbered = subst Numbered_all (sym clients) f.numbered;
      }

      none_says : sent_by outcome ≡ [] → AllSays req call Then (sent_by outcome)
      none_says none = subst (AllSays req call Then) (sym none) tt

      none_of : sent_by outcome ≡ [] → AllSaid Any (sent_by outcome)
      none_of none = subst (AllSaid Any) (sym none) tt

      -- a client goes on
      at_client : (id : ClientId) (n after : Node) (new : Nodes D) → client_in old.nodes.clients id ≡ Some n → n.last ≤ after.last → after.id ≡ n.id → (Waits n → Waits after) → new ≡ with_client id after old.nodes
          → (id ≡ req.client → NodeSo req call Then after) → AllSays req call Then (sent_by outcome) → AllSaid Any (sent_by outcome) → Leaves Then outcome new
      at_client id n after new found up own waits same so said of = subst (Leaves Then outcome) (sym same) (record {
        said = said;
        of = of;
        master = place_more req call Made Then more old.nodes.master f.master;
        client = λ x there answer last reply. by_client x (set_client old.nodes.clients id req.client n after x found there) answer last reply;
        past = λ x there. by_past x (set_client old.nodes.clients id req.client n after x found there);
        numbered = still_numbered old.nodes.clients id n after found own waits f.numbered;
      })
        where
          by_client : (x : Node) → ((id ≡ req.client) × (x ≡ after)) ⊎ (client_in old.nodes.clients req.client ≡ Some x) → NodeSo req call Then x
          by_client x (inl mine) = subst (NodeSo req call Then) (sym mine.1) (so mine.0)
          by_client x (inr before) = λ answer last reply. more answer (f.client x before answer last reply)

          up_to : (a b c : ℕ) → a ≤ b → b ≤ c → a ≤ c
          up_to a b c first second = omega arith

          by_past : (x : Node) → ((id ≡ req.client) × (x ≡ after)) ⊎ (client_in old.nodes.clients req.client ≡ Some x) → req.number ≤ x.last
          by_past x (inl mine) = subst (λ (y : Node). req.number ≤ y.last) (sym mine.1) (up_to req.number n.last after.last (f.past n (subst (λ c. client_in old.nodes.clients c ≡ Some n) mine.0 found)) up)
          by_past x (inr before) = f.past x before

      -- what it hears
      same_result : (a b : Result Answer Refusal) → answered replies.Answer a ≡ answered replies.Answer b → a ≡ b
      same_result (Ok x) (Ok y) is = ap (λ k. Ok k) (answer_is is)
        where
          answer_is : {p q : Answer} → replies.Answer p ≡ replies.Answer q → p ≡ q
          answer_is is = cc
      same_result (Ok x) (Err e) is = absurd cc
      same_result (Err e) (Ok x) is = absurd cc
      same_result (Err e) (Err g) is = ap (λ k. Err k) (refusal_is is)
        where
          refusal_is : {p q : Refusal} → replies.Refused p ≡ replies.Refused q → p ≡ q
          refusal_is is = cc

      some_reply : {a b : Reply} → ◌≡◌ {A = Option Reply} (Some a) (Some b) → a ≡ b
      some_reply is = cc

      -- a reply that it takes is to what it waits for
      takes_so : (other : ReqId) (r : Reply) (n : Node) → n.id ≡ req.client → Waits n → NodeSo req call Made n → ((result : Result Answer Refusal) → other ≡ req → r ≡ answered replies.Answer result → Then result) → NodeSo req call Then (takes other r n)
      takes_so other r n own waits before told result = by_test (is_of other n.id n.waiting) refl
        where
          equal : (a b : ℕ) → (a == b) ≡ true → a ≡ b
          equal a b is = grind (arith, nat_tests)

          by_waiting : (o : Option ℕ) → n.waiting ≡ o → is_of other n.id o ≡ true → n.last ≡ req.number → other ≡ req
          by_waiting None was is last = absurd (false≢true is)
          by_waiting (Some number) was is last =
              let parts = both_true (other.client.0 == n.id.0) (other.number == number) is in
              let c : other.client.0 ≡ req.client.0 = equal other.client.0 n.id.0 parts.0 ∙ ap (λ (i : ClientId). i.0) own in
              let k : other.number ≡ req.number = equal other.number number parts.1 ∙ waits number was ∙ last in (λ i. record { client = record { 0 = c i }; number = k i })
            where
              both_true : (a b : Bool) → cond a b false ≡ true → (a ≡ true) × (b ≡ true)
              both_true true b is = (refl, is)
              both_true false b is = absurd (false≢true is)

          by_test : (b : Bool) → is_of other n.id n.waiting ≡ b → (if b then record { id = n.id; last = n.last; waiting = None; reply = Some r } else n).last ≡ req.number
              → (if b then record { id = n.id; last = n.last; waiting = None; reply = Some r } else n).reply ≡ Some (answered replies.Answer result) → Then result
          by_test true is last reply = told result (by_waiting n.waiting refl is last) (some_reply reply)
          by_test false is last reply = more result (before result last reply)

      same_node : (n : Node) → NodeSo req call Made n → NodeSo req call Then n
      same_node n before result last reply = more result (before result last reply)

      by_outcome : {A : Type 0} (as_reply : A → Reply) → ((x : A) (said : Result Answer Refusal) → as_reply x ≡ answered replies.Answer said → ⊥) → (result : Result A Refusal) (said : Result Answer Refusal) → answered as_reply result ≡ answered replies.Answer said
          → ((refusal : Refusal) → result ≡ Err refusal → Given) → Then said
      by_outcome as_reply apart (Ok x) said is given_so = absurd (apart x said is)
      by_outcome as_reply apart (Err e) (Ok x) is given_so = absurd cc
      by_outcome as_reply apart (Err e) (Err g) is given_so = given (given_so e refl) g

      no_outcome : (x : EditOutcome) (said : Result Answer Refusal) → replies.Outcome x ≡ answered replies.Answer said → ⊥
      no_outcome x (Ok answer) is = cc
      no_outcome x (Err refusal) is = cc

      no_part : (x : Part_given) (said : Result Answer Refusal) → replies.Given x ≡ answered replies.Answer said → ⊥
      no_part x (Ok answer) is = cc
      no_part x (Err refusal) is = cc

      done_given : (other : ReqId) (result : Result EditOutcome Refusal) → RefusesIf req Given (bodies.Done other result) → other ≡ req → (refusal : Refusal) → result ≡ Err refusal → Given
      done_given other (Ok x) refuses same refusal is = absurd cc
      done_given other (Err e) refuses same refusal is = refuses same

      bytes_given : (other : ReqId) (result : Result Part_given Refusal) → RefusesIf req Given (bodies.Bytes other result) → other ≡ req → (refusal : Refusal) → result ≡ Err refusal → Given
      bytes_given other (Ok x) refuses same refusal is = absurd cc
      bytes_given other (Err e) refuses same refusal is = refuses same

      hearing_so : (body : Body) (n : Node) → n.id ≡ req.client → Waits n → NodeSo req call Made n → Says req call Made body → RefusesIf req Given body → NodeSo req call Then (hearing (hears body n) n)
      hearing_so (bodies.Reply other said) n own waits before says refuses = takes_so other (answered replies.Answer said) n own waits before (λ result same is. more result (subst Made (same_result said result is) (says same)))
      hearing_so (bodies.Done other result) n own waits before says refuses = takes_so other (answered replies.Outcome result) n own waits before (λ said same is. by_outcome replies.Outcome no_outcome result said is (done_given other result refuses same))
      hearing_so (bodies.Bytes other result) n own waits before says refuses = takes_so other (answered replies.Given result) n own waits before (λ said same is. by_outcome replies.Given no_part result said is (bytes_given other result refuses same))
      hearing_so (bodies.About chunk said) n own waits before says refuses = same_node n before
      hearing_so (bodies.Call other calls) n own waits before says refuses = same_node n before
      hearing_so (bodies.Push other bytes) n own waits before says refuses = same_node n before
      hearing_so (bodies.MakeCopy chunk at new_chunk stamp) n own waits before says refuses = same_node n before
      hearing_so (bodies.Report epoch replicas) n own waits before says refuses = same_node n before
      hearing_so (bodies.Epoch epoch end) n own waits before says refuses = same_node n before
      hearing_so (bodies.Learned epoch handles) n own waits before says refuses = same_node n before
      hearing_so (bodies.Behind epoch) n own waits before says refuses = same_node n before

      waits_of : (id : ClientId) (n : Node) → client_in old.nodes.clients id ≡ Some n → Waits n
      waits_of id n found = (f.numbered (id.0 - 1) n (in_list (id.0 == 0) (slice_get old.nodes.clients (id.0 - 1)) n found).1).waits

      above : (number last : ℕ) → nat_le number last ≡ false → last < number
      above number last is = grind (arith, nat_tests)

      not_above : (a b : ℕ) → a < b → a ≤ b
      not_above a b less = omega arith

      -- what is asked now isn't this request
      later_one : (other : ReqId) (n : Node) → client_in old.nodes.clients other.client ≡ Some n → nat_le other.number n.last ≡ false → request_of n other.number ≡ req → ⊥
      later_one other n found number same =
          let own = own_id old.nodes.clients f.numbered other.client n found in
          let mine : other.client ≡ req.client = sym own ∙ ap (λ (r : ReqId). r.client) same in
          clash req.number n.last other.number (f.past n (subst (λ c. client_in old.nodes.clients c ≡ Some n) mine found)) (above other.number n.last number) (ap (λ (r : ReqId). r.number) same)
        where
          clash : (a b c : ℕ) → a ≤ b → b < c → c ≡ a → ⊥
          clash a b c first second is = omega arith

      leaves : (new : Nodes D) → spares_master (Comes (record { moment = moment; happening = happening })) ≡ true → Part seen failures armed old moment happening outcome new → Leaves Then outcome new
      leaves new spares (Heard id message turn place it was to hears is same) =
          let left = hears_so req call Made Then more anyway seen failures message moment old.nodes.master place turn once (f.sent id message was).0 (f.sent id message was).1 f.master older
          (λ m stands asks from apart new_call result reply there says. now result (record {
            id = id;
            message = message;
            comes = it;
            was = was;
            to = to;
            from = from;
            asks = asks;
            master = m;
            stands = stands;
            apart = apart;
            new = new_call;
            reply = reply;
            sent = subst (λ o. Contains (sent_by o) reply) (sym is) there;
            says = says;
          })) hears in
          at_master place new turn.sent.items same (ap sent_by is) left (hears_left seen failures Any message moment old.nodes.master place turn (any_kept old.nodes.master) (λ r calls. tt) hears).1
      leaves new spares (Ticked turn place it ticks is same) =
          at_master place new turn.sent.items same (ap sent_by is) (ticks_so req call Made Then more anyway seen failures moment old.nodes.master place turn f.master ticks) (ticks_left seen failures Any moment old.nodes.master place turn (any_kept old.nodes.master) ticks).1
      leaves new spares (Opened turn place it opens is same) = absurd (false≢true (sym (ap (λ h. spares_master (Comes (record { moment = moment; happening = h }))) it) ∙ spares))
      leaves new spares (Armed disk call it none same) = absurd (false≢true (sym (ap (λ h. spares_master (Comes (record { moment = moment; happening = h }))) it) ∙ spares))
      leaves new spares (Served by clients master) = elsewhere new clients master (servers_say Then (sent_by outcome) by) (servers_said Any (sent_by outcome) by)
      leaves new spares (Asked other request n it found number sends same) =
          at_client other.client n (asking n other.number) new found (not_above n.last other.number (above other.number n.last number)) refl (λ waits k is. its_last is) same (λ mine result last reply. absurd (none_yet reply))
          (subst (AllSays req call Then) (sym sends) (request_says Then (request_of n other.number) request (λ calls is mine. absurd (later_one other n found number mine)))) (subst (AllSaid Any) (sym sends) (request_said Any (request_of n other.number) request tt))
        where
          its_last : {a b : ℕ} → ◌≡◌ {A = Option ℕ} (Some a) (Some b) → b ≡ a
          its_last is = cc

          none_yet : {r : Reply} → ◌≡◌ {A = Option Reply} None (Some r) → ⊥
          none_yet is = cc
      leaves new spares (Told id message client n it was found none same) =
          let kept = hearing_same message.body n in
          at_client client n (hearing (hears message.body n) n) new found (no_less n.last (hearing (hears message.body n) n).last kept.1) kept.0 kept.2 same
          (λ mine. hearing_so message.body n (own_id old.nodes.clients f.numbered client n found ∙ mine) (waits_of client n found) (f.client n (subst (λ c. client_in old.nodes.clients c ≡ Some n) mine found)) (f.sent id message was).0 (refused id message was)) (none_says none) (none_of none)
        where
          no_less : (a b : ℕ) → b ≡ a → a ≤ b
          no_less a b is = omega arith
      leaves new spares (Rested none same) = elsewhere new (ap (λ (n : Nodes D). n.clients) same) (ap (λ (n : Nodes D). n.master) same) (none_says none) (none_of none)

    posts : (moment : Moment) (by : NodeId) (outcome : Upshot) (old : Sent) (result : Result (Unit {0}) Refusal) (new : Sent) → Tells seen failures armed moment by outcome old result new → Posts moment by (sent_by outcome) old new
    posts moment by (Ok (messages, said)) old result new (posted, is) = inl posted
    posts moment by (Err refusal) old result new (same, is) = inr same

    both_so : (Then : Result Answer Refusal → Type 0) (messages : List Message) → AllSays req call Then messages → AllSaid Any messages → AllByRecursion (SoMessage Then) messages
    both_so Then messages says of = all_both (λ (m : Message). Says req call Then m.body) (λ (m : Message). SaysOf Any m.from m.body) (SoMessage Then) messages (λ m one two. (one, two)) says of

    pub event_follows : (Made Then : Result Answer Refusal → Type 0) → ((result : Result Answer Refusal) → Made result → Then result) → IsAnyway Then → (Given : Type 0) → (Given → (refusal : Refusal) → Then (Err refusal)) → (event : Event) (old new : History D) (said : Result (Unit {0}) Refusal) (h : Happens seen failures armed event old said new) → spares_master (Comes event) ≡ true
        → AllSent (λ (m : Message). RefusesIf req Given m.body) old.sent → ((m : MasterOf D) → old.nodes.master ≡ Standing m → numbered (last_reply m.state req.client) req.number ≡ Older → Then (Err refusals.Old))
        → ((result : Result Answer Refusal) → SaysNow old event h.outcome req call result → Then result) → Follows Made old → Follows Then new
    event_follows Made Then more anyway Given given event old new said h spares refused older now f =
        let left = leaves Made Then more anyway Given given old refused older f event.moment event.happening h.outcome now new.nodes spares (part_of seen failures armed old event.moment event.happening h.by h.outcome new.nodes h.at) in record {
          sent = posted_all (SoMessage Then) event.moment h.by (sent_by h.outcome) old.sent new.sent (posts event.moment h.by h.outcome old.sent said new.sent h.tells)
              (sent_then (SoMessage Made) (SoMessage Then) old.sent (λ m was. (says_more req call Made Then more m.body was.0, was.1)) f.sent) (both_so Then (sent_by h.outcome) left.said left.of);
          master = left.master;
          client = left.client;
          past = left.past;
          numbered = left.numbered;
        }

    pub takes_follows : (Made Then : Result Answer Refusal → Type 0) → ((result : Result Answer Refusal) → Made result → Then result) → (client : ClientId) (old new : History D) → Goes seen failures armed (Takes client) old new → Follows Made old → Follows Then new
    takes_follows Made Then more client old new (found, taken, same) f = by_client (client_in old.nodes.clients client) refl taken
      where
        sent_so : AllSent (SoMessage Then) new.sent
        sent_so = subst (AllSent (SoMessage Then)) (sym same) (sent_then (SoMessage Made) (SoMessage Then) old.sent (λ m was. (says_more req call Made Then more m.body was.0, was.1)) f.sent)

        still : new.nodes.clients ≡ old.nodes.clients → new.nodes.master ≡ old.nodes.master → Follows Then new
        still clients master = record {
          sent = sent_so;
          master = subst (PlaceSo req call Then) (sym master) (place_more req call Made Then more old.nodes.master f.master);
          client = λ n there answer last reply. more answer (f.client n (ap (λ cs. client_in cs req.client) (sym clients) ∙ there) answer last reply);
          past = λ n there. f.past n (ap (λ cs. client_in cs req.client) (sym clients) ∙ there);
          numbered = subst Numbered_all (sym clients) f.numbered;
        }

        none_yet : {r : Reply} → ◌≡◌ {A = Option Reply} None (Some r) → ⊥
        none_yet is = cc

        by_found : (n after : Node) → client_in old.nodes.clients client ≡ Some n → after ≡ given_up n → new.nodes ≡ with_client client after old.nodes → Follows Then new
        by_found n after was gives there = record {
          sent = sent_so;
          master = subst (PlaceSo req call Then) (sym (ap (λ (x : Nodes D). x.master) there)) (place_more req call Made Then more old.nodes.master f.master);
          client = λ x is answer last reply. by_node x (set_client old.nodes.clients client req.client n after x was (ap (λ cs. client_in cs req.client) (sym clients) ∙ is)) answer last reply;
          past = λ x is. by_past x (set_client old.nodes.clients client req.client n after x was (ap (λ cs. client_in cs req.client) (sym clients) ∙ is));
          numbered = subst Numbered_all (sym clients) (still_numbered old.nodes.clients client n after was (ap (λ (x : Node). x.id) gives) (λ waits. subst Waits (sym gives) waits) f.numbered);
        }
          where
            clients : new.nodes.clients ≡ slice_set old.nodes.clients (client.0 - 1) after
            clients = ap (λ (x : Nodes D). x.clients) there

            by_node : (x : Node) → ((client ≡ req.client) × (x ≡ after)) ⊎ (client_in old.nodes.clients req.client ≡ Some x) → NodeSo req call Then x
            by_node x (inl mine) = λ answer last reply. absurd (none_yet (sym (ap (λ (y : Node). y.reply) (mine.1 ∙ gives)) ∙ reply))
            by_node x (inr before) = λ answer last reply. more answer (f.client x before answer last reply)

            by_past : (x : Node) → ((client ≡ req.client) × (x ≡ after)) ⊎ (client_in old.nodes.clients req.client ≡ Some x) → req.number ≤ x.last
            by_past x (inl mine) = subst (λ k. req.number ≤ k) (sym (ap (λ (y : Node). y.last) (mine.1 ∙ gives))) (f.past n (subst (λ c. client_in old.nodes.clients c ≡ Some n) mine.0 was))
            by_past x (inr before) = f.past x before

        by_client : (o : Option Node) → client_in old.nodes.clients client ≡ o
            → MatchOption o ((new.nodes ≡ old.nodes) × (found ≡ None)) (λ n. (after : Node) × (new.nodes ≡ with_client client after old.nodes) × ((found ≡ n.reply) × (after ≡ given_up n))) → Follows Then new
        by_client None was (none, is) = still (ap (λ (n : Nodes D). n.clients) none) (ap (λ (n : Nodes D). n.master) none)
        by_client (Some n) was (after, there, did) = by_found n after was did.1 there

    -- ---- a run

    then_step : (steps : List Step) (step : Step) (old mid new : History D) → RunsTo seen failures armed steps old mid → Goes seen failures armed step mid new → RunsTo seen failures armed (steps ++ step ∷ []) old new
    then_step [] step old mid new same goes = (new, subst (λ (h : History D). Goes seen failures armed step h new) same goes, refl)
    then_step (one ∷ steps) step old mid new (h, first, rest) goes = (h, first, then_step steps step h mid new rest goes)

    none_behind : (xs : List Step) → xs ++ [] ≡ xs
    none_behind [] = refl
    none_behind (x ∷ xs) = ap (λ (ys : List Step). x ∷ ys) (none_behind xs)

    -- With each world on the way such. There refusals of servers are given, and of some refusals nothing is said.
    module _ (Such : History D → Type 0) (Given : Type 0) (Spared : Refusal → Type 0) (fine : (h : History D) → Such h → IsFine req Given Spared h) (spared : Spared refusals.Device × Spared refusals.Unsure) (given : Given → (refusal : Refusal) → Spared refusal) where
      abbrev Answered_by : List Step → History D → History D → Result Answer Refusal → Type 0
      Answered_by steps old new result = SparedIn Spared result ⊎ ((made : WasSaid seen failures armed steps old new req call result) × SaidBy seen failures armed Such steps old new req call result made)

      anyway : (steps : List Step) (old new : History D) → IsAnyway (Answered_by steps old new)
      anyway steps old new = (inl spared.0, inl spared.1)

      abbrev All_such : (steps : List Step) (old new : History D) → RunsTo seen failures armed steps old new → Type 0
      All_such steps old new runs = (h : History D) → Passes seen failures armed h steps old new runs → Such h

      such_then : (steps : List Step) (step : Step) (old mid new : History D) (runs : RunsTo seen failures armed steps old mid) (goes : Goes seen failures armed step mid new) → All_such steps old mid runs → Such new → All_such (steps ++ step ∷ []) old new (then_step steps step old mid new runs goes)
      unfolding then_step
      such_then [] step old mid new same goes all is h (inl here) = subst Such (sym here) is
      such_then [] step old mid new same goes all is h (inr behind) = absurd behind
      such_then (one ∷ steps) step old mid new (k, first, rest) goes all is h (inl here) = all h (inl here)
      such_then (one ∷ steps) step old mid new (k, first, rest) goes all is h (inr there) = such_then steps step k mid new rest goes (λ j on. all j (inr on)) is h there

      further : (steps : List Step) (step : Step) (old mid new : History D) → Goes seen failures armed step mid new → Such new → (result : Result Answer Refusal) → Answered_by steps old mid result → Answered_by (steps ++ step ∷ []) old new result
      further steps step old mid new goes is result (inl so) = inl so
      further steps step old mid new goes is result (inr (was, by)) = inr (
        record {
          before = was.before;
          now = was.now;
          event = was.event;
          said = was.said;
          next = was.next;
          after = was.after ++ step ∷ [];
          parts = ap (λ xs. xs ++ step ∷ []) was.parts ∙ append_assoc was.before (Comes was.event ∷ was.after) (step ∷ []);
          first = was.first;
          happens = was.happens;
          rest = then_step was.after step was.next mid new was.rest goes;
          answers = was.answers;
        },
        record { first = by.first; next = by.next; rest = such_then was.after step was.next mid new was.rest goes by.rest is },
      )

      abbrev AreFine : History D → Type 0
      AreFine h = IsFine req Given Spared h

      step_follows : (steps : List Step) (step : Step) (old mid new : History D) (runs : RunsTo seen failures armed steps old mid) → All_such steps old mid runs → AreFine mid → Goes seen failures armed step mid new → Such new → spares_master step ≡ true → Follows (Answered_by steps old mid) mid
          → Follows (Answered_by (steps ++ step ∷ []) old new) new
      step_follows steps (Comes event) old mid new runs all refused (said, h) is spares f =
          event_follows (Answered_by steps old mid) (Answered_by (steps ++ Comes event ∷ []) old new) (further steps (Comes event) old mid new (said, h) is) (anyway (steps ++ Comes event ∷ []) old new) Given (λ so refusal. inl (given so refusal)) event mid new said h spares refused.0 (λ m at is. inl (refused.1 m at is))
          (λ result says. inr (record { before = steps; now = mid; event = event; said = said; next = new; after = []; parts = refl; first = runs; happens = h; rest = refl; answers = says }, record { first = all; next = is; rest = λ k never. absurd never })) f
      step_follows steps (Takes client) old mid new runs all refused goes is spares f =
          takes_follows (Answered_by steps old mid) (Answered_by (steps ++ Takes client ∷ []) old new) (further steps (Takes client) old mid new goes is) client mid new goes f

      run_follows : (steps others : List Step) (old mid new : History D) (runs : RunsTo seen failures armed steps old mid) → All_such steps old mid runs → AreFine mid → (rest : RunsTo seen failures armed others mid new) → All_such others mid new rest → AllByRecursion (λ step. spares_master step ≡ true) others
          → Follows (Answered_by steps old mid) mid → Follows (Answered_by (steps ++ others) old new) new
      run_follows steps [] old mid new runs all refused same none spares f =
          subst (λ xs. Follows (Answered_by xs old new) new) (sym (none_behind steps)) (subst (λ (h : History D). Follows (Answered_by steps old h) h) (sym same) f)
      run_follows steps (step ∷ others) old mid new runs all refused (h, goes, rest) on spares f =
          subst (λ xs. Follows (Answered_by xs old new) new) (append_assoc steps (step ∷ []) others)
          (run_follows (steps ++ step ∷ []) others old h new (then_step steps step old mid h runs goes) (such_then steps step old mid h runs goes all (on h (inl refl))) (fine h (on h (inl refl))) rest (λ k there. on k (inr there)) spares.1
          (step_follows steps step old mid h runs all refused goes (on h (inl refl)) spares.0 f))

    -- ---- what it begins with

    old_says : (Made : Result Answer Refusal → Type 0) (clients : List Node) → (HasAsked clients req → ⊥) → (from : NodeId) (body : Body) → SaysOf (HasAsked clients) from body → Says req call Made body × SaysOf Any from body
    old_says Made clients none from (bodies.Reply other result) of = ((λ same. absurd (none (subst (HasAsked clients) same of))), tt)
    old_says Made clients none from (bodies.Call other calls) of = ((λ same. absurd (none (subst (HasAsked clients) same of.1))), (of.0, tt))
    old_says Made clients none from (bodies.About chunk said) of = (tt, tt)
    old_says Made clients none from (bodies.Push other bytes) of = (tt, tt)
    old_says Made clients none from (bodies.Done other result) of = (tt, tt)
    old_says Made clients none from (bodies.Bytes other result) of = (tt, tt)
    old_says Made clients none from (bodies.MakeCopy chunk at new_chunk stamp) of = (tt, tt)
    old_says Made clients none from (bodies.Report epoch replicas) of = (tt, tt)
    old_says Made clients none from (bodies.Epoch epoch end) of = (tt, tt)
    old_says Made clients none from (bodies.Learned epoch handles) of = (tt, tt)
    old_says Made clients none from (bodies.Behind epoch) of = (tt, tt)

    old_keeps : (Made : Result Answer Refusal → Type 0) (clients : List Node) → (HasAsked clients req → ⊥) → (place : MasterPlace D) → KeepsOfAt (HasAsked clients) place → PlaceSo req call Made place
    old_keeps Made clients none (Standing m) keeps = record {
      durable = λ reply has number. absurd (none (keeps.durable req (record { reply = reply; has = has; number = number })));
      memory = λ reply has number. absurd (none (keeps.memory req (record { reply = reply; has = has; number = number })));
      waits = λ there. none (keeps.waits req there);
    }
    old_keeps Made clients none (Closed first second) keeps = tt
    old_keeps Made clients none Away keeps = tt

    module _ (Made : Result Answer Refusal → Type 0) (old : History D) (moment : Moment) (are : AreAsked seen old) (node : Node) (there : client_in old.nodes.clients req.client ≡ Some node) (fresh : node.last < req.number) where
      node_is : {a b : Node} → ◌≡◌ {A = Option Node} (Some a) (Some b) → a ≡ b
      node_is is = cc

      none_asked : HasAsked old.nodes.clients req → ⊥
      none_asked has = clash req.number has.node.last node.last has.number fresh (ap (λ (n : Node). n.last) (node_is (sym there ∙ has.there)))
        where
          clash : (a b c : ℕ) → a ≤ b → c < a → c ≡ b → ⊥
          clash a b c first second is = omega arith

      not_old : (number last : ℕ) → last < number → nat_le number last ≡ false
      not_old number last less = grind (arith, nat_tests)

      its_clients : List Node
      its_clients = slice_set old.nodes.clients (req.client.0 - 1) (asking node req.number)

      own_now : (x : Node) → client_in (slice_set old.nodes.clients (req.client.0 - 1) (asking node req.number)) req.client ≡ Some x → x ≡ asking node req.number
      own_now x is = node_is (sym is ∙ found_now old.nodes.clients req.client node (asking node req.number) there)

      none_yet : {r : Reply} → ◌≡◌ {A = Option Reply} None (Some r) → ⊥
      none_yet is = cc

      its_last : {a b : ℕ} → ◌≡◌ {A = Option ℕ} (Some a) (Some b) → b ≡ a
      its_last is = cc

      begins : (nodes : Nodes D) (sent : Sent) (by : NodeId) (messages : List Message) → nodes ≡ with_client req.client (asking node req.number) old.nodes → messages ≡ messages_of (request_of node req.number) (requests.Call call) → Posts moment by messages old.sent sent
          → Follows Made (record { nodes = nodes; sent = sent })
      begins nodes sent by messages same sends posted = record {
        sent = posted_all (SoMessage Made) moment by messages old.sent sent posted (sent_then (λ (m : Message). SaysOf (HasAsked old.nodes.clients) m.from m.body) (SoMessage Made) old.sent (λ m of. old_says Made old.nodes.clients none_asked m.from m.body of) are.sent)
            (subst (AllByRecursion (SoMessage Made)) (sym sends) (((λ mine. refl), (refl, tt)), tt));
        master = subst (PlaceSo req call Made) (sym (ap (λ (n : Nodes D). n.master) same)) (old_keeps Made old.nodes.clients none_asked old.nodes.master are.master);
        client = λ x is answer last reply. absurd (none_yet (sym (ap (λ (y : Node). y.reply) (own_now x (ap (λ cs. client_in cs req.client) (sym clients) ∙ is))) ∙ reply));
        past = λ x is. subst (λ k. req.number ≤ k) (sym (ap (λ (y : Node). y.last) (own_now x (ap (λ cs. client_in cs req.client) (sym clients) ∙ is)))) (omega arith);
        numbered = subst Numbered_all (sym clients) (still_numbered old.nodes.clients req.client node (asking node req.number) there refl (λ waits k is. its_last is) are.numbered);
      }
        where
          clients : nodes.clients ≡ slice_set old.nodes.clients (req.client.0 - 1) (asking node req.number)
          clients = ap (λ (n : Nodes D). n.clients) same

      asks_one : (nodes : Nodes D) (sent : Sent) (by : NodeId) (out : Vec Message Global) (after : Node) → nodes ≡ with_client req.client after old.nodes → IsPosted moment by out.items old.sent sent → (b : Bool) → b ≡ false
          → Asks (if b then Err refusals.Old else Ok (asking node req.number, messages_of (request_of node req.number) (requests.Call call))) (Ok out) node after → Follows Made (record { nodes = nodes; sent = sent })
      asks_one nodes sent by out after same posted true not never = absurd never
      asks_one nodes sent by out after same posted false not (is, sends) = begins nodes sent by out.items (same ∙ ap (λ (n : Node). with_client req.client n old.nodes) is) sends (inl posted)

      asks_found : (o : Option Node) → o ≡ Some node → (nodes : Nodes D) (sent : Sent) (by : NodeId) (out : Vec Message Global) → IsPosted moment by out.items old.sent sent
          → MatchOption o ((nodes ≡ old.nodes) × (◌≡◌ {A = Result (Vec Message Global) Refusal} (Ok out) (Err refusals.Range))) (λ n. (after : Node) × (nodes ≡ with_client req.client after old.nodes) × ClientAsks req.number (requests.Call call) n (Ok out) after)
          → Follows Made (record { nodes = nodes; sent = sent })
      asks_found None is nodes sent by out posted at = absurd cc
      asks_found (Some n) is nodes sent by out posted (after, same, a) =
          asks_one nodes sent by out after same posted (nat_le req.number node.last) (not_old req.number node.last fresh) (subst (λ x. ClientAsks req.number (requests.Call call) x (Ok out) after) (node_is is) a)

      asks_all : (out : Result (Vec Message Global) Refusal) (nodes : Nodes D) (sent : Sent) (by : NodeId) → AtClient req.client (Err refusals.Range) (ClientAsks req.number (requests.Call call)) old.nodes out nodes
          → Tells seen failures armed moment by (asked out) old.sent (Ok tt) sent → Follows Made (record { nodes = nodes; sent = sent })
      asks_all (Ok out) nodes sent by at tells = asks_found (client_in old.nodes.clients req.client) there nodes sent by out tells.0 at
      asks_all (Err refusal) nodes sent by at tells = absurd (never tells.1)
        where
          never : ◌≡◌ {A = Result (Unit {0}) Refusal} (Ok tt) (Err refusal) → ⊥
          never is = cc

      happens_so : (nodes : Nodes D) (sent : Sent) (by : NodeId) (outcome : Upshot) → AsksAt req (requests.Call call) old.nodes outcome nodes → Tells seen failures armed moment by outcome old.sent (Ok tt) sent → Follows Made (record { nodes = nodes; sent = sent })
      happens_so nodes sent by outcome (out, at, is) tells = asks_all out nodes sent by at (subst (λ o. Tells seen failures armed moment by o old.sent (Ok tt) sent) is tells)

    pub asked_follows : (Made : Result Answer Refusal → Type 0) (old asked : History D) (moment : Moment) → AreAsked seen old → AsksFresh seen failures armed old moment req call asked → Follows Made asked
    asked_follows Made old asked moment are x = happens_so Made old moment are x.node x.there x.fresh asked.nodes asked.sent x.happens.by x.happens.outcome x.happens.at.1 x.happens.tells

-- What is said of any reply, where servers' refusals are given, and nothing is said of some refusals.
module _ {D : Type 0} (seen : D → List ℕ) (failures : D → ℕ) (armed : DiskId → ℕ → MasterPlace D → MasterPlace D) (old asked new : History D) (moment : Moment) (req : ReqId) (call : Call) (steps : List Step) (runs : RunsTo seen failures armed steps asked new) where
  abbrev pub Such : History D → Type 0
  Such h = Passes seen failures armed h steps asked new runs

  pub says_are_made : (Given : Type 0) (Spared : Refusal → Type 0) → Spared refusals.Device × Spared refusals.Unsure → (Given → (refusal : Refusal) → Spared refusal) → IsFine req Given Spared asked → ((h : History D) → Such h → IsFine req Given Spared h) → AreAsked seen old → AsksFresh seen failures armed old moment req call asked → IsAnsweredAlone call → AllByRecursion (λ step. spares_master step ≡ true) steps
      → (node : Node) (result : Result Answer Refusal) → client_in new.nodes.clients req.client ≡ Some node → node.last ≡ req.number → node.reply ≡ Some (answered replies.Answer result)
      → SparedIn Spared result ⊎ ((made : WasSaid seen failures armed steps asked new req call result) × SaidBy seen failures armed Such steps asked new req call result made)
  says_are_made Given Spared spared given here fine are fresh once spares node result there last reply =
      let begun = asked_follows req call seen failures armed once (Answered_by req call seen failures armed once Such Given Spared fine spared given [] asked asked) old asked moment are fresh in
      (run_follows req call seen failures armed once Such Given Spared fine spared given [] steps asked asked new refl (λ h never. absurd never) here runs (λ h on. on) spares begun).client node there result last reply

-- nothing is said of refusals
any_refuses : (req : ReqId) (body : Body) → RefusesIf req (Unit {0}) body
any_refuses req (bodies.Done other (Ok outcome)) = tt
any_refuses req (bodies.Done other (Err refusal)) = λ same. tt
any_refuses req (bodies.Bytes other (Ok given)) = tt
any_refuses req (bodies.Bytes other (Err refusal)) = λ same. tt
any_refuses req (bodies.Reply other result) = tt
any_refuses req (bodies.Call other calls) = tt
any_refuses req (bodies.About chunk said) = tt
any_refuses req (bodies.Push other bytes) = tt
any_refuses req (bodies.MakeCopy handle at new_handle stamp) = tt
any_refuses req (bodies.Report epoch replicas) = tt
any_refuses req (bodies.Epoch epoch end) = tt
any_refuses req (bodies.Learned epoch handles) = tt
any_refuses req (bodies.Behind epoch) = tt

-- of each call that is answered by itself
pub lone_answers_are_made : {D : Type 0} (seen : D → List ℕ) (failures : D → ℕ) (armed : DiskId → ℕ → MasterPlace D → MasterPlace D) → LoneAnswersAreMade seen failures armed
lone_answers_are_made {D} seen failures armed old asked new moment req call steps node answer are fresh once runs spares there last reply =
    elim (says_are_made seen failures armed old asked new moment req call steps runs (Unit {0}) (λ refusal. Unit {0}) (tt, tt) (λ given refusal. tt) ((λ id m was. any_refuses req m.body), (λ m at is. tt)) (λ h such. ((λ id m was. any_refuses req m.body), (λ m at is. tt))) are fresh once spares node (Ok answer) there last reply) [
      | inl never ↦ absurd never
      | inr made ↦ made
    ]

pub answers_are_made : {D : Type 0} (seen : D → List ℕ) (failures : D → ℕ) (armed : DiskId → ℕ → MasterPlace D → MasterPlace D) → AnswersAreMade seen failures armed
answers_are_made seen failures armed old asked new moment req call steps node answer are fresh once runs spares there last reply =
    lone_answers_are_made seen failures armed old asked new moment req call steps node answer are fresh (λ config s other now. at_once config s other now call once) runs spares there last reply
