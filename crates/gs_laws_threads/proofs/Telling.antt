-- What a node's history has of the cause of a refusal.
use Rattle.std.proofs.Common.{◌≡◌, ◌∙◌, ◌++◌, ◌+◌, ℕ, List, [], ◌∷◌, Bool, true, false, length, Option, Some, None, Ok, Err, refl, sym, ap, subst, append_assoc, append-nil}
use Rattle.std.proofs.lemmas.Option.{slice_get_within}
use Rattle.std.specs.Prelude.{slice_get}
use Rattle.gs_base.specs.declared.numbers.ClientId.{ClientId}
use Rattle.gs_base.specs.declared.numbers.Moment.{Moment}
use Rattle.gs_base.specs.declared.numbers.ReqId.{ReqId}
use Rattle.gs_base.specs.declared.refusal.Refusal.{Refusal}
use Rattle.gs_base.specs.declared.refusal.Refusal.TheVariants as refusals
use Rattle.gs_path.specs.Path.{Path}
use Rattle.gs_msg.specs.declared.answer.Answer.TheVariants as answers
use Rattle.gs_msg.specs.declared.body.Body.{Body}
use Rattle.gs_msg.specs.declared.body.Body.TheVariants as bodies
use Rattle.gs_msg.specs.declared.chunk.Asked.{Asked}
use Rattle.gs_msg.specs.declared.call.Call.TheVariants as calls
use Rattle.gs_msg.specs.declared.event.Request.{Request}
use Rattle.gs_msg.specs.declared.event.Request.TheVariants as requests
use Rattle.gs_client_part.specs.Fetching.{fetch_of}
use Rattle.gs_client_part.specs.declared.located.Located.{Located}
use Rattle.gs_client.specs.Trees.{Call}
use Rattle.gs_client.specs.declared.link.Reply.{Reply}
use Rattle.gs_client.specs.declared.link.Reply.TheVariants as replies
use Rattle.gs_cluster.proofs.Answered.{answered_by, more_brought, then_brought}
use Rattle.gs_cluster.proofs.Lists.{at_before, at_behind}
use Rattle.gs_cluster.specs.Answered.{Answered, AsksFirst, IsBrought, Question, Source, brought, client_of, is_own}
use Rattle.gs_cluster.specs.Calling.{Carries, asking, takes_memory}
use Rattle.gs_cluster_core.specs.declared.role.Role.{Role}
use Rattle.gs_cluster_history.specs.Histories.{Among, Entry, Kept}
use Rattle.gs_laws_causes.specs.Carried.{Carried, Explained, Explains}
use Rattle.gs_laws_causes.specs.Causes.{Exchanges, IsFound, NoneGives, WhyNoReplica, WhyUnsure, is_passed_over, may_change}
use Rattle.gs_laws_threads.specs.Told.{InHistory, IsAsked, IsOver, IsTold, IsUnanswered, NoneGave, NoReplicaOf, Tells, UnsureOf}

-- ---- more that was taken

over_then : (behind more : List Entry) → IsOver behind → IsOver more → IsOver (behind ++ more)
over_then [] more over next = next
over_then (e ∷ es) more over next = over

module _ (took more : List Entry) where
  before : (e : Entry) → Among took e → Among (took ++ more) e
  before e (k, is) = (k, at_before took more k (slice_get_within took k e is) ∙ is)

  behind : (e : Entry) → Among more e → Among (took ++ more) e
  behind e (k, is) = (length took + k, at_behind took more k ∙ is)

  abbrev asked_before : (request : Request) → IsAsked took request → IsAsked (took ++ more) request
  asked_before request a = record { moment = a.moment; req = a.req; question = a.question; among = before a.question a.among; asked = a.asked }

  abbrev asked_behind : (request : Request) → IsAsked more request → IsAsked (took ++ more) request
  asked_behind request a = record { moment = a.moment; req = a.req; question = a.question; among = behind a.question a.among; asked = a.asked }

  told_before : (client : Option ClientId) (request : Request) (reply : Reply) → IsTold took client request reply → IsTold (took ++ more) client request reply
  told_before client request reply t = record { asks = asked_before request t.asks; brought = more_brought took more client t.asks.req.number reply t.brought }

  told_behind : (client : Option ClientId) (request : Request) (reply : Reply) → IsTold more client request reply → IsTold (took ++ more) client request reply
  told_behind client request reply t = record { asks = asked_behind request t.asks; brought = then_brought took more client t.asks.req.number reply t.brought }

  abbrev unanswered_behind : (client : Option ClientId) (request : Request) → IsUnanswered more client request → IsUnanswered (took ++ more) client request
  unanswered_behind client request u = record {
    moment = u.moment;
    req = u.req;
    question = u.question;
    before = took ++ u.before;
    heard = u.heard;
    behind = u.behind;
    asked = u.asked;
    over = u.over;
    part = ap (λ xs. took ++ xs) u.part ∙ sym (append_assoc took u.before (u.question ∷ (u.heard ++ u.behind)));
    silent = u.silent;
  }

  none_behind : (client : Option ClientId) (l : Located) (what : Asked) (members : List ℕ) → NoneGave more client l what members → NoneGave (took ++ more) client l what members
  none_behind client l what [] none = tt
  none_behind client l what (m ∷ ms) (one, rest) = (unanswered_behind client (fetch_of l what m) one, none_behind client l what ms rest)

  -- ---- a cause among it

  replica_behind : (client : Option ClientId) → NoReplicaOf client more → NoReplicaOf client (took ++ more)
  replica_behind client (NoReplicaOf.Refused request told) = NoReplicaOf.Refused request (told_behind client request (replies.Refused refusals.NoReplica) told)
  replica_behind client (NoReplicaOf.NoMembers path l told none) =
      NoReplicaOf.NoMembers path l (told_behind client (requests.Call (calls.FindForReading path l.index)) (replies.Answer (answers.Location l.handle l.view l.epoch)) told) none
  replica_behind client (NoReplicaOf.Unanswered request looks none) = NoReplicaOf.Unanswered request looks (unanswered_behind client request none)
  replica_behind client (NoReplicaOf.PassedOver path l what first others told members none) =
      NoReplicaOf.PassedOver path l what first others (told_behind client (requests.Call (calls.FindForReading path l.index)) (replies.Answer (answers.Location l.handle l.view l.epoch)) told) members
      (none_behind client l what (first ∷ others) none)

  unsure_behind : (client : Option ClientId) → UnsureOf client more → UnsureOf client (took ++ more)
  unsure_behind client (UnsureOf.Refused request told) = UnsureOf.Refused request (told_behind client request (replies.Refused refusals.Unsure) told)
  unsure_behind client (UnsureOf.NoMemory request may told) = UnsureOf.NoMemory request may (told_behind client request (replies.Refused refusals.Memory) told)
  unsure_behind client (UnsureOf.NoDisk request may told) = UnsureOf.NoDisk request may (told_behind client request (replies.Refused refusals.Device) told)
  unsure_behind client (UnsureOf.Unanswered request may none) = UnsureOf.Unanswered request may (unanswered_behind client request none)
  unsure_behind client (UnsureOf.NoRoom request may asks told) = UnsureOf.NoRoom request may (asked_behind request asks) told
  unsure_behind client (UnsureOf.NoCopy request came may told takes) = UnsureOf.NoCopy request came may (told_behind client request came told) takes

  -- ---- with what was taken from the next request on

  module _ (next : IsOver more) where
    abbrev unanswered_before : (client : Option ClientId) (request : Request) → IsUnanswered took client request → IsUnanswered (took ++ more) client request
    unanswered_before client request u = record {
      moment = u.moment;
      req = u.req;
      question = u.question;
      before = u.before;
      heard = u.heard;
      behind = u.behind ++ more;
      asked = u.asked;
      part = ap (λ xs. xs ++ more) u.part ∙ append_assoc u.before (u.question ∷ (u.heard ++ u.behind)) more ∙ ap (λ xs. u.before ++ (u.question ∷ xs)) (append_assoc u.heard u.behind more);
      over = over_then u.behind more u.over next;
      silent = u.silent;
    }

    none_before : (client : Option ClientId) (l : Located) (what : Asked) (members : List ℕ) → NoneGave took client l what members → NoneGave (took ++ more) client l what members
    none_before client l what [] none = tt
    none_before client l what (m ∷ ms) (one, rest) = (unanswered_before client (fetch_of l what m) one, none_before client l what ms rest)

    replica_before : (client : Option ClientId) → NoReplicaOf client took → NoReplicaOf client (took ++ more)
    replica_before client (NoReplicaOf.Refused request told) = NoReplicaOf.Refused request (told_before client request (replies.Refused refusals.NoReplica) told)
    replica_before client (NoReplicaOf.NoMembers path l told none) =
        NoReplicaOf.NoMembers path l (told_before client (requests.Call (calls.FindForReading path l.index)) (replies.Answer (answers.Location l.handle l.view l.epoch)) told) none
    replica_before client (NoReplicaOf.Unanswered request looks none) = NoReplicaOf.Unanswered request looks (unanswered_before client request none)
    replica_before client (NoReplicaOf.PassedOver path l what first others told members none) =
        NoReplicaOf.PassedOver path l what first others (told_before client (requests.Call (calls.FindForReading path l.index)) (replies.Answer (answers.Location l.handle l.view l.epoch)) told) members
        (none_before client l what (first ∷ others) none)

    unsure_before : (client : Option ClientId) → UnsureOf client took → UnsureOf client (took ++ more)
    unsure_before client (UnsureOf.Refused request told) = UnsureOf.Refused request (told_before client request (replies.Refused refusals.Unsure) told)
    unsure_before client (UnsureOf.NoMemory request may told) = UnsureOf.NoMemory request may (told_before client request (replies.Refused refusals.Memory) told)
    unsure_before client (UnsureOf.NoDisk request may told) = UnsureOf.NoDisk request may (told_before client request (replies.Refused refusals.Device) told)
    unsure_before client (UnsureOf.Unanswered request may none) = UnsureOf.Unanswered request may (unanswered_before client request none)
    unsure_before client (UnsureOf.NoRoom request may asks told) = UnsureOf.NoRoom request may (asked_before request asks) told
    unsure_before client (UnsureOf.NoCopy request came may told takes) = UnsureOf.NoCopy request came may (told_before client request came told) takes

-- ---- what a message brings

abbrev is_lost : Reply → Bool
is_lost replies.Lost = true
is_lost reply = false

abbrev brings_nothing : Option (ReqId × Reply) → Bool
brings_nothing None = false
brings_nothing (Some pair) = is_lost pair.1

abbrev is_refused : Reply → Bool
is_refused (replies.Refused refusal) = true
is_refused reply = false

differ : {A : Type 0} → false ≡ true → A
differ is = absurd (cc)

refused_is : {f g : Refusal} → replies.Refused f ≡ replies.Refused g → f ≡ g
refused_is is = cc

not_own : {A : Type 0} (f g : Refusal) → is_own f ≡ false → is_own g ≡ true → f ≡ g → A
not_own f g other own is = differ (sym other ∙ ap is_own is ∙ own)

-- no message says that nothing came
never_lost : {A : Type 0} (body : Body) (req : ReqId) → brought body ≡ Some (req, replies.Lost) → A
never_lost (bodies.Reply r (Ok x)) req is = differ (ap brings_nothing is)
never_lost (bodies.Reply r (Err e)) req is = differ (ap brings_nothing is)
never_lost (bodies.Done r (Ok x)) req is = differ (ap brings_nothing is)
never_lost (bodies.Done r (Err e)) req is = differ (ap brings_nothing is)
never_lost (bodies.Bytes r (Ok x)) req is = differ (ap brings_nothing is)
never_lost (bodies.Bytes r (Err e)) req is = differ (ap brings_nothing is)
never_lost body req is = differ (ap brings_nothing is)

-- what is known of a reply, where a history took this
data Told (took : List Entry) (client : Option ClientId) (request : Request) (reply : Reply) : Type 0 where
  ByMessage : IsTold took client request reply → Told took client request reply
  ByCopy : (came : Reply) → IsTold took client request came → takes_memory came ≡ true → reply ≡ replies.Refused refusals.Memory → Told took client request reply
  ByOwn : (refusal : Refusal) (asks : IsAsked took request) → asks.question.outcome ≡ Err refusal → is_own refusal ≡ true → reply ≡ replies.Refused refusal → Told took client request reply
  ByClock : reply ≡ replies.Refused refusals.Exhausted → Told took client request reply
  ByStranger : reply ≡ replies.Refused refusals.Stray → Told took client request reply
  BySilence : IsUnanswered took client request → reply ≡ replies.Lost → Told took client request reply

module _ {D : Type 0} (seen : D → List ℕ) (failures : D → ℕ) where
  -- a history that grows, of a node that stays the same client
  record Grows (old new : Kept (Role D)) : Type 0 where
    took : List Entry
    begins : IsOver took
    grows : new.entries ≡ old.entries ++ took
    stays : client_of new.past.core ≡ client_of old.past.core

  -- What carries a request: the node does; or no number is left, and nothing happens.
  pub data Over (old : Kept (Role D)) (request : Request) (reply : Reply) (new : Kept (Role D)) : Type 0 where
    Goes : (moment : Moment) (req : ReqId) (vain often : ℕ) → Carries seen failures moment req request old vain reply new often → Over old request reply new
    Ends : new ≡ old → reply ≡ replies.Refused refusals.Exhausted → Over old request reply new

  record HasHeard (old : Kept (Role D)) (request : Request) (reply : Reply) (new : Kept (Role D)) : Type 0 where
    more : Grows old new
    told : Told more.took (client_of old.past.core) request reply

  heard : (old : Kept (Role D)) (request : Request) (reply : Reply) (new : Kept (Role D)) → Over old request reply new → HasHeard old request reply new
  heard old request reply new (Ends same is) = record {
    more = record { took = []; begins = tt; grows = ap (λ (k : Kept (Role D)). k.entries) same ∙ sym (append-nil old.entries); stays = ap (λ (k : Kept (Role D)). client_of k.past.core) same };
    told = ByClock is;
  }
  heard old request reply new (Goes moment req vain often carries) = record { more = record { took = a.took; begins = begun a.took a.asks; grows = a.grows; stays = a.stays }; told = by_source a.from }
    where
      a : Answered moment req request old vain reply new often
      a = answered_by seen failures moment req request old vain reply new often carries

      begun : (took : List Entry) → AsksFirst moment req request old vain reply new often took → IsOver took
      begun [] asks = tt
      begun (e ∷ es) asks = (asking moment req request, asks)

      first : (took heard : List Entry) (q : Question moment req request old vain reply new often took heard) → Among took q.entry
      first took heard q = (0, ap (λ xs. slice_get xs 0) q.first)

      told_of : (took heard : List Entry) (came : Reply) → Question moment req request old vain reply new often took heard → IsBrought heard (client_of old.past.core) req.number came
          → IsTold took (client_of old.past.core) request came
      told_of took heard came q b = record {
        asks = record { moment = moment; req = req; question = q.entry; among = first took heard q; asked = q.asked };
        brought = subst (λ xs. IsBrought xs (client_of old.past.core) req.number came) (sym q.first) (then_brought (q.entry ∷ []) heard (client_of old.past.core) req.number came b);
      }

      by_source : Source moment req request old vain reply new often a.took → Told a.took (client_of old.past.core) request reply
      by_source (Source.Message heard q b) = ByMessage (told_of a.took heard reply q b)
      by_source (Source.NoCopy came heard q b takes lacks) = ByCopy came (told_of a.took heard came q b) takes lacks
      by_source (Source.Own refusal q told own is) = ByOwn refusal (record { moment = moment; req = req; question = q.entry; among = first a.took [] q; asked = q.asked }) told own is
      by_source (Source.Exhausted last is) = ByClock is
      by_source (Source.Lost heard q silent vainly is) = BySilence (record {
        moment = moment;
        req = req;
        question = q.entry;
        before = [];
        heard = heard;
        behind = [];
        asked = q.asked;
        over = tt;
        part = q.first ∙ ap (λ xs. q.entry ∷ xs) (sym (append-nil heard));
        silent = silent;
      }) is
      by_source (Source.Stray none other is) = ByStranger is

  -- a refusal that neither the node itself nor its caller gives was brought
  by_message : (took : List Entry) (client : Option ClientId) (request : Request) (reply : Reply) (f : Refusal) → is_own f ≡ false → (f ≡ refusals.Exhausted → ⊥) → reply ≡ replies.Refused f
      → Told took client request reply → IsTold took client request (replies.Refused f)
  by_message took client request reply f other apart is (ByMessage told) = subst (λ r. IsTold took client request r) is told
  by_message took client request reply f other apart is (ByCopy came told takes lacks) = not_own f refusals.Memory other refl (refused_is (sym is ∙ lacks))
  by_message took client request reply f other apart is (ByOwn refusal asks told own so) = not_own f refusal other own (refused_is (sym is ∙ so))
  by_message took client request reply f other apart is (ByClock so) = absurd (apart (refused_is (sym is ∙ so)))
  by_message took client request reply f other apart is (ByStranger so) = not_own f refusals.Stray other refl (refused_is (sym is ∙ so))
  by_message took client request reply f other apart is (BySilence none so) = differ (ap is_lost (sym is ∙ so))

  -- so was what is no refusal, where something came
  brought_so : (took : List Entry) (client : Option ClientId) (request : Request) (reply : Reply) → is_refused reply ≡ false → is_lost reply ≡ false → Told took client request reply → IsTold took client request reply
  brought_so took client request reply other came (ByMessage told) = told
  brought_so took client request reply other came (ByCopy copied told takes lacks) = differ (sym other ∙ ap is_refused lacks)
  brought_so took client request reply other came (ByOwn refusal asks told own so) = differ (sym other ∙ ap is_refused so)
  brought_so took client request reply other came (ByClock so) = differ (sym other ∙ ap is_refused so)
  brought_so took client request reply other came (ByStranger so) = differ (sym other ∙ ap is_refused so)
  brought_so took client request reply other came (BySilence none so) = differ (sym came ∙ ap is_lost so)

  -- where nothing came, nothing that it heard was a reply
  by_silence : (took : List Entry) (client : Option ClientId) (request : Request) (reply : Reply) → reply ≡ replies.Lost → Told took client request reply → IsUnanswered took client request
  by_silence took client request reply is (ByMessage told) =
      never_lost told.brought.sent.message.body told.brought.req (told.brought.brings ∙ ap (λ (r : Reply). Some (told.brought.req, r)) is)
  by_silence took client request reply is (ByCopy came told takes lacks) = differ (ap is_lost (sym lacks ∙ is))
  by_silence took client request reply is (ByOwn refusal asks told own so) = differ (ap is_lost (sym so ∙ is))
  by_silence took client request reply is (ByClock so) = differ (ap is_lost (sym so ∙ is))
  by_silence took client request reply is (ByStranger so) = differ (ap is_lost (sym so ∙ is))
  by_silence took client request reply is (BySilence none so) = none

  -- ---- memory of its own, and of others

  by_memory : (took : List Entry) (client : Option ClientId) (request : Request) (reply : Reply) → may_change request ≡ true → reply ≡ replies.Refused refusals.Memory → Told took client request reply → UnsureOf client took
  by_memory took client request reply may is (ByMessage told) = UnsureOf.NoMemory request may (subst (λ r. IsTold took client request r) is told)
  by_memory took client request reply may is (ByCopy came told takes lacks) = UnsureOf.NoCopy request came may told takes
  by_memory took client request reply may is (ByOwn refusal asks told own so) =
      UnsureOf.NoRoom request may asks (told ∙ ap (λ (f : Refusal). Err f) (refused_is (sym so ∙ is)))
  by_memory took client request reply may is (ByClock so) = apart (refused_is (sym so ∙ is))
    where
      apart : {A : Type 0} → refusals.Exhausted ≡ refusals.Memory → A
      apart is = absurd (cc)
  by_memory took client request reply may is (ByStranger so) = apart (refused_is (sym so ∙ is))
    where
      apart : {A : Type 0} → refusals.Stray ≡ refusals.Memory → A
      apart is = absurd (cc)
  by_memory took client request reply may is (BySilence none so) = differ (ap is_lost (sym is ∙ so))

  -- ---- a call

  grows_then : (old mid new : Kept (Role D)) → Grows old mid → Grows mid new → Grows old new
  grows_then old mid new one more = record {
    took = one.took ++ more.took;
    begins = over_then one.took more.took one.begins more.begins;
    grows = more.grows ∙ ap (λ xs. xs ++ more.took) one.grows ∙ append_assoc old.entries one.took more.took;
    stays = more.stays ∙ one.stays;
  }

  module _ {S : Type 0} (carries : S → Request → Reply → S → Type 0) (node : S → Kept (Role D))
      (over : (old : S) (request : Request) (reply : Reply) (new : S) → carries old request reply new → Over (node old) request reply (node new)) where
    all_grow : (exchanges : Exchanges) (old new : S) → Carried carries old exchanges new → Grows (node old) (node new)
    all_grow [] old new same = record {
      took = [];
      begins = tt;
      grows = ap (λ (s : S). (node s).entries) same ∙ sym (append-nil (node old).entries);
      stays = ap (λ (s : S). client_of (node s).past.core) same;
    }
    all_grow (x ∷ xs) old new (mid, one, rest) =
        grows_then (node old) (node mid) (node new) (heard (node old) x.0 x.1 (node mid) (over old x.0 x.1 mid one)).more (all_grow xs mid new rest)

    -- a cause, with what was taken before and behind it
    placed : (Cause : Option ClientId → List Entry → Type 0) → ((took more : List Entry) → IsOver more → (client : Option ClientId) → Cause client took → Cause client (took ++ more))
        → ((took more : List Entry) (client : Option ClientId) → Cause client more → Cause client (took ++ more))
        → (old from to new : S) (before : Grows (node old) (node from)) (here : Grows (node from) (node to)) (after : Grows (node to) (node new)) → Cause (client_of (node from).past.core) here.took
        → InHistory Cause (node old) (node new)
    placed Cause front back old from to new before here after cause =
        let all = grows_then (node old) (node from) (node new) before (grows_then (node from) (node to) (node new) here after) in
        record {
          took = before.took ++ (here.took ++ after.took);
          grows = after.grows ∙ ap (λ xs. xs ++ after.took) here.grows ∙ append_assoc (node from).entries here.took after.took ∙ ap (λ xs. xs ++ (here.took ++ after.took)) before.grows
              ∙ append_assoc (node old).entries before.took (here.took ++ after.took);
          cause = back before.took (here.took ++ after.took) (client_of (node old).past.core)
              (front here.took after.took after.begins (client_of (node old).past.core) (subst (λ c. Cause c here.took) before.stays cause));
        }

    -- ---- why

    exhausted_apart : refusals.NoReplica ≡ refusals.Exhausted → ⊥
    exhausted_apart is = cc

    -- a history that grows, in which nothing came from any of these members
    record Passes (old new : Kept (Role D)) (client : Option ClientId) (l : Located) (what : Asked) (members : List ℕ) : Type 0 where
      took : List Entry
      begins : IsOver took
      grows : new.entries ≡ old.entries ++ took
      stays : client_of new.past.core ≡ client_of old.past.core
      silent : NoneGave took client l what members

    -- one member more, before these
    passes_first : (client : Option ClientId) (l : Located) (what : Asked) (member : ℕ) (members : List ℕ) (asked : Request) (reply : Reply) (old mid new : S) → client_of (node old).past.core ≡ client
        → asked ≡ fetch_of l what member → is_passed_over reply ≡ true → carries old asked reply mid → Passes (node mid) (node new) client l what members → Passes (node old) (node new) client l what (member ∷ members)
    passes_first client l what member members asked reply old mid new mine is over_it one rest = record {
      took = h.more.took ++ rest.took;
      begins = over_then h.more.took rest.took h.more.begins rest.begins;
      grows = rest.grows ∙ ap (λ es. es ++ rest.took) h.more.grows ∙ append_assoc (node old).entries h.more.took rest.took;
      stays = rest.stays ∙ h.more.stays;
      silent = (
        unanswered_before h.more.took rest.took rest.begins client (fetch_of l what member)
            (subst (λ q. IsUnanswered h.more.took client q) is (subst (λ c. IsUnanswered h.more.took c asked) mine (by_silence h.more.took (client_of (node old).past.core) asked reply (lost reply over_it) h.told))),
        none_behind h.more.took rest.took client l what members rest.silent,
      );
    }
      where
        h : HasHeard (node old) asked reply (node mid)
        h = heard (node old) asked reply (node mid) (over old asked reply mid one)

        lost : (reply : Reply) → is_passed_over reply ≡ true → reply ≡ replies.Lost
        lost replies.Lost so = refl
        lost reply so = differ so

    passes : (client : Option ClientId) (l : Located) (what : Asked) (members : List ℕ) (exchanges : Exchanges) (old new : S) → client_of (node old).past.core ≡ client → NoneGives l what members exchanges
        → Carried carries old exchanges new → Passes (node old) (node new) client l what members
    passes client l what [] exchanges old new mine none carried =
        let all = all_grow exchanges old new carried in record { took = all.took; begins = all.begins; grows = all.grows; stays = all.stays; silent = tt }
    passes client l what (m ∷ ms) [] old new mine none carried = absurd none
    passes client l what (m ∷ ms) (x ∷ xs) old new mine (is, over_it, none) (mid, one, rest) =
        passes_first client l what m ms x.0 x.1 old mid new mine is over_it one
        (passes client l what ms xs mid new ((heard (node old) x.0 x.1 (node mid) (over old x.0 x.1 mid one)).more.stays ∙ mine) none rest)

    replica : {A : Type 0} (call : Call A) (old new : S) → Explained carries call refusals.NoReplica old new → InHistory NoReplicaOf (node old) (node new)
    replica call old new x = by_why x.why
      where
        first : Grows (node old) (node x.from)
        first = all_grow x.before old x.from x.led

        h : HasHeard (node x.from) x.asked x.reply (node x.to)
        h = heard (node x.from) x.asked x.reply (node x.to) (over x.from x.asked x.reply x.to x.came)

        client : Option ClientId
        client = client_of (node x.from).past.core

        here : NoReplicaOf (client_of (node x.from).past.core) h.more.took → InHistory NoReplicaOf (node old) (node new)
        here = placed NoReplicaOf replica_before replica_behind old x.from x.to new first h.more (all_grow x.behind x.to new x.left)

        -- the location that a message brought
        found : (path : Path) (l : Located) → IsFound path l x.asked x.reply → IsTold h.more.took client (requests.Call (calls.FindForReading path l.index)) (replies.Answer (answers.Location l.handle l.view l.epoch))
        found path l there =
            let t = brought_so h.more.took client x.asked x.reply (ap is_refused there.1) (ap is_lost there.1) h.told in
            subst (λ q. IsTold h.more.took client q (replies.Answer (answers.Location l.handle l.view l.epoch))) there.0 (subst (λ r. IsTold h.more.took client x.asked r) there.1 t)

        by_why : WhyNoReplica x.asked x.reply x.behind → InHistory NoReplicaOf (node old) (node new)
        by_why (WhyNoReplica.Refused is last) =
            here (NoReplicaOf.Refused x.asked (by_message h.more.took (client_of (node x.from).past.core) x.asked x.reply refusals.NoReplica refl exhausted_apart is h.told))
        by_why (WhyNoReplica.Unanswered looks is none) =
            here (NoReplicaOf.Unanswered x.asked looks (by_silence h.more.took (client_of (node x.from).past.core) x.asked x.reply is h.told))
        by_why (WhyNoReplica.NoMembers path l there members none) =
            here (NoReplicaOf.NoMembers path l (found path l there) members)
        by_why (WhyNoReplica.PassedOver path l what one others there members none) =
            placed NoReplicaOf replica_before replica_behind old x.from new new first both nothing_more
            (NoReplicaOf.PassedOver path l what one others
            (told_before h.more.took p.took client (requests.Call (calls.FindForReading path l.index)) (replies.Answer (answers.Location l.handle l.view l.epoch)) (found path l there))
            members (none_behind h.more.took p.took client l what (one ∷ others) p.silent))
          where
            p : Passes (node x.to) (node new) client l what (one ∷ others)
            p = passes client l what (one ∷ others) x.behind x.to new h.more.stays none x.left

            both : Grows (node x.from) (node new)
            both = record {
              took = h.more.took ++ p.took;
              begins = over_then h.more.took p.took h.more.begins p.begins;
              grows = p.grows ∙ ap (λ es. es ++ p.took) h.more.grows ∙ append_assoc (node x.from).entries h.more.took p.took;
              stays = p.stays ∙ h.more.stays;
            }

            nothing_more : Grows (node new) (node new)
            nothing_more = record { took = []; begins = tt; grows = sym (append-nil (node new).entries); stays = refl }

    unsure : {A : Type 0} (call : Call A) (old new : S) → Explained carries call refusals.Unsure old new → InHistory UnsureOf (node old) (node new)
    unsure call old new x = by_why x.why
      where
        h : HasHeard (node x.from) x.asked x.reply (node x.to)
        h = heard (node x.from) x.asked x.reply (node x.to) (over x.from x.asked x.reply x.to x.came)

        here : UnsureOf (client_of (node x.from).past.core) h.more.took → InHistory UnsureOf (node old) (node new)
        here = placed UnsureOf unsure_before unsure_behind old x.from x.to new (all_grow x.before old x.from x.led) h.more (all_grow x.behind x.to new x.left)

        apart : refusals.Unsure ≡ refusals.Exhausted → ⊥
        apart is = cc

        other : refusals.Device ≡ refusals.Exhausted → ⊥
        other is = cc

        by_why : WhyUnsure x.asked x.reply x.behind → InHistory UnsureOf (node old) (node new)
        by_why (WhyUnsure.Refused is last) = here (UnsureOf.Refused x.asked (by_message h.more.took (client_of (node x.from).past.core) x.asked x.reply refusals.Unsure refl apart is h.told))
        by_why (WhyUnsure.NoMemory may is none) = here (by_memory h.more.took (client_of (node x.from).past.core) x.asked x.reply may is h.told)
        by_why (WhyUnsure.NoDisk may is none) = here (UnsureOf.NoDisk x.asked may (by_message h.more.took (client_of (node x.from).past.core) x.asked x.reply refusals.Device refl other is h.told))
        by_why (WhyUnsure.Unanswered may is none) =
            here (UnsureOf.Unanswered x.asked may (by_silence h.more.took (client_of (node x.from).past.core) x.asked x.reply is h.told))

    pub told_of_call : {A : Type 0} (call : Call A) → Explains carries A call → Tells carries node A call
    told_of_call call explains old new = (λ h. replica call old new ((explains old new).0 h), λ h. unsure call old new ((explains old new).1 h))
