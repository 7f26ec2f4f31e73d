-- What a line reads of a file are requests with their replies in a store, between which the client only looks.
use Rattle.std.proofs.Common.{◌≡◌, inl, inr, ◌++◌, ℕ, List, [], ◌∷◌, Option, Ok, refl, sym, ap, subst}
use Rattle.gs_base.specs.Told.{IsNumber}
use Rattle.gs_base.specs.declared.config.Config.{Config}
use Rattle.gs_base.specs.declared.numbers.ClientId.{ClientId}
use Rattle.gs_base.specs.declared.numbers.Moment.{Moment}
use Rattle.gs_base.specs.declared.numbers.ReqId.{ReqId}
use Rattle.gs_base.specs.declared.refusal.Refusal.{Refusal}
use Rattle.gs_laws_causes.specs.Carried.{Carried}
use Rattle.gs_client.specs.Sends.{next_request}
use Rattle.gs_client.specs.declared.client.Client.{Client}
use Rattle.gs_client.specs.declared.link.Reply.{Reply}
use Rattle.gs_client.specs.declared.link.Reply.TheVariants as replies
use Rattle.gs_client_dialogue.specs.Heard.{Says}
use Rattle.gs_client_part.specs.declared.located.Located.{Located}
use Rattle.gs_laws_looks.specs.clients.Located.{AskSo, DigestersAskSo, MayAsk, ReadersAskSo}
use Rattle.gs_msg.specs.declared.call.Call.TheVariants as calls
use Rattle.gs_msg.specs.declared.event.Request.{Request}
use Rattle.gs_msg.specs.declared.event.Request.TheVariants as requests
use Rattle.gs_path.specs.Path.{Path}
use Rattle.gs_shell_desk.specs.Ways.{Way, way_of}
use Rattle.gs_shell_desk.specs.declared.wire.Wire.{Wire}
use Rattle.gs_laws_scripts.proofs.lemmas.lists.Lines.{Carries_at, next_small, the_client}
use Rattle.gs_world.specs.Runs.{Comes}
use Rattle.gs_world.specs.Sent.{Sent}
use Rattle.gs_laws_chunks.specs.answers.Resting.{IsLooking}
use Rattle.gs_laws_looks.proofs.lemmas.carrying.Exchanged.{looks_are_carried}
use Rattle.gs_laws_looks.specs.carrying.Exchanged.{IsExchanged, Went}
use Rattle.gs_laws_world.specs.steady.Asking.{MayBeAsked, asks_at}
use Rattle.gs_laws_scripts.specs.answers.Meeting.{IsClientOf}
use Rattle.gs_laws_chunks.specs.desks.Reached.{Covers, history}
use Rattle.gs_laws_looks.specs.reads.Read.{Bytes, Digest, Exchanged, Reading, reading_call}
use Rattle.gs_laws_scripts.proofs.lemmas.reads.Clients.{still_mine}
use Rattle.gs_laws_scripts.proofs.lemmas.reads.Dialogues.{Pairs}

-- ---- what a reader asks

-- it is within its types
may_be_asked : (path : Path) (before : Pairs) (request : Request) → MayAsk path before request → MayBeAsked request
may_be_asked path before (requests.Call (calls.Status p)) may = record { named = tt; met = λ names. tt }
may_be_asked path before (requests.Call (calls.FindForReading p index)) may = record { named = tt; met = λ names. tt }
may_be_asked path before (requests.Fetch to handle stamp epoch asked) may = tt
may_be_asked path before request may = absurd may

-- and a call looks
looking : (path : Path) (before : Pairs) (request : Request) (moment : Moment) (req : ReqId) → MayAsk path before request → IsLooking req.client (Comes (asks_at moment req request))
looking path before (requests.Call (calls.Status p)) moment req may = (refl, (refl, refl))
looking path before (requests.Call (calls.FindForReading p index)) moment req may = (refl, (refl, refl))
looking path before (requests.Fetch to handle stamp epoch asked) moment req may = (refl, tt)
looking path before request moment req may = absurd may

pub reader_asks : ((path : Path) → ReadersAskSo path) → ((path : Path) → DigestersAskSo path) → (path : Path) (reading : Reading) (pairs : Pairs) (bytes : List ℕ) (located : Option Located) → Says (reading_call path reading) pairs (Ok (bytes, located)) → AskSo path [] pairs
reader_asks readers digesters path (Bytes size offset many) pairs bytes located says = readers path size offset many pairs (Ok (bytes, located)) says
reader_asks readers digesters path (Digest index block) pairs bytes located says = digesters path index block pairs (Ok (bytes, located)) says

-- ---- what is carried

-- behind the last number of all nothing is asked, and the client looks on
nothing_asked : {D : Type 0} (seen : D → List ℕ) (failures : D → ℕ) (client : ClientId) (sent : Sent) (old new : Way D) (request : Request) (reply : Reply) (refusal : Refusal) → Covers sent old → reply ≡ replies.Refused refusal → new ≡ old → IsExchanged seen failures client old sent request reply new
nothing_asked {D = D} seen failures client sent old new request reply refusal covers is same = record {
  mid = history sent old;
  went = subst (λ r. Went seen failures client (history sent old) request r (history sent old)) (sym is) (record { steps = []; runs = refl; within = tt; looking = tt });
  after = sent;
  taken = record { steps = []; runs = ap (history sent) same; within = tt; looking = tt };
  covers = subst (λ w. Covers sent w) (sym same) covers;
  moment = ap (λ (w : Way D). w.moment) same;
}

module _ {D : Type 0} (seen : D → List ℕ) (failures : D → ℕ) (config : Config) (path : Path) where
  one_exchanged : (before : Pairs) (sent : Sent) (old new : Client × Wire D) (request : Request) (reply : Reply) → MayAsk path before request → IsClientOf config old.0 → Covers sent (way_of old.1) → IsNumber old.1.moment.0 → Carries_at seen failures old request reply new
      → IsExchanged seen failures the_client (way_of old.1) sent request reply (way_of new.1)
  one_exchanged before sent old new request reply may mine covers small (inl (below, is, carried)) =
      subst (λ k. IsExchanged seen failures k (way_of old.1) sent request reply (way_of new.1)) mine.0
      (looks_are_carried seen failures sent (way_of old.1) (way_of new.1) (next_request old.0) request reply covers small (next_small old.0.last.number below, may_be_asked path before request may) (looking path before request old.1.moment (next_request old.0) may) carried)
  one_exchanged before sent old new request reply may mine covers small (inr (last, is, same)) =
      nothing_asked seen failures the_client sent (way_of old.1) (way_of new.1) request reply _ covers is (ap (λ (s : Client × Wire D). way_of s.1) same)

  -- so it goes in a store, and then all that is under way was sent
  pub record ExchangesOn (sent : Sent) (old : Client × Wire D) (pairs : Pairs) (new : Client × Wire D) : Type 0 where
    pub after : Sent
    pub exchanged : Exchanged seen failures the_client pairs (history sent (way_of old.1)) (history after (way_of new.1))
    pub covers : Covers after (way_of new.1)
    pub moment : IsNumber new.1.moment.0

  pub exchanges_on : (before pairs : Pairs) (sent : Sent) (old new : Client × Wire D) → AskSo path before pairs → IsClientOf config old.0 → Covers sent (way_of old.1) → IsNumber old.1.moment.0 → Carried (Carries_at seen failures) old pairs new → ExchangesOn sent old pairs new
  exchanges_on before [] sent old new asks mine covers small same = record {
    after = sent;
    exchanged = ap (λ (s : Client × Wire D). history sent (way_of s.1)) same;
    covers = subst (λ (s : Client × Wire D). Covers sent (way_of s.1)) (sym same) covers;
    moment = subst (λ (s : Client × Wire D). IsNumber s.1.moment.0) (sym same) small;
  }
  exchanges_on before (pair ∷ pairs) sent old new (may, asks) mine covers small (mid, one, rest) =
      let e = one_exchanged before sent old mid pair.0 pair.1 may mine covers small one in
      let more = exchanges_on (before ++ pair ∷ []) pairs e.after mid new asks (still_mine seen failures config old mid pair.0 pair.1 mine one) e.covers (subst (λ (m : Moment). IsNumber m.0) (sym e.moment) small) rest in
      record { after = more.after; exchanged = (e.mid, history e.after (way_of mid.1), e.went, e.taken, more.exchanged); covers = more.covers; moment = more.moment }
