-- What a desk carries for a client that reads is a request with its reply.
use Rattle.std.proofs.Common.{◌≡◌, ◌∙◌, ◌⊎◌, inl, inr, ℕ, List, [], ◌∷◌, Option, Some, None, Ok, Err, refl, sym, ap, subst}
use Rattle.std.specs.Prelude.{unwrap_or}
use Rattle.std.specs.List.{AllByRecursion}
use Rattle.gs_base.specs.declared.numbers.ClientId.{ClientId}
use Rattle.gs_base.specs.declared.numbers.Moment.{Moment}
use Rattle.gs_base.specs.declared.numbers.ReqId.{ReqId}
use Rattle.gs_client.specs.declared.link.Reply.{Reply}
use Rattle.gs_client.specs.declared.link.Reply.TheVariants as replies
use Rattle.gs_msg.specs.declared.event.Happening.{Happening}
use Rattle.gs_msg.specs.declared.event.Happening.TheVariants as happenings
use Rattle.gs_msg.specs.declared.event.Request.{Request}
use Rattle.gs_msg.specs.declared.event.Request.TheVariants as requests
use Rattle.gs_world.specs.Histories.{History}
use Rattle.gs_world.specs.Runs.{Comes, RunsTo, Step, Takes}
use Rattle.gs_laws_chunks.specs.answers.Resting.{IsLooking}
use Rattle.gs_laws_looks.proofs.lemmas.carrying.Asked.{requests_are_carried}
use Rattle.gs_laws_looks.specs.carrying.Asked.{Delivers, IsAnswered, OnlyDelivers, WasAsked, WasAskedAndTaken, WasRefused}
use Rattle.gs_laws_looks.specs.carrying.Exchanged.{HasReply, IsExchanged, Looks, LooksAreCarried, Went}
use Rattle.gs_laws_chunks.specs.desks.Reached.{history}
use Rattle.gs_laws_world.specs.steady.Asking.{asks_at}
use Rattle.gs_laws_world.specs.steady.Unarmed.{unarmed}

-- where messages are delivered and nodes tick nothing is asked
looks_so : (client : ClientId) (step : Step) → Delivers step → IsLooking client step
looks_so client (Comes event) is = by event.happening is
  where
    by : (h : Happening) → Delivers (Comes (record event { happening = h })) → IsLooking client (Comes (record event { happening = h }))
    by (happenings.Deliver message) is = (refl, tt)
    by (happenings.Tick node) is = (refl, tt)
    by (happenings.Ask req request) is = absurd is
    by (happenings.Beat server) is = absurd is
    by (happenings.Restart node) is = absurd is
    by (happenings.Lose server chunk) is = absurd is
    by (happenings.Damage server chunk block) is = absurd is
    by (happenings.FailDisk disk call) is = absurd is
looks_so client (Takes other) is = absurd is

all_look : (client : ClientId) (steps : List Step) → AllByRecursion Delivers steps → AllByRecursion (IsLooking client) steps
all_look client [] is = tt
all_look client (step ∷ steps) is = (looks_so client step is.0, all_look client steps is.1)

-- what is asked is a look-up, or nothing is asked of the master, under whatever number
looks_too : (request : Request) (moment next : Moment) (req other : ReqId) → IsLooking req.client (Comes (asks_at moment req request)) → IsLooking other.client (Comes (asks_at next other request))
looks_too (requests.Call call) moment next req other is = (refl, (refl, is.1.1))
looks_too (requests.Write handle members primary stamp op bytes) moment next req other is = (refl, tt)
looks_too (requests.Fetch to handle stamp epoch asked) moment next req other is = (refl, tt)

module _ {D : Type 0} (seen : D → List ℕ) (failures : D → ℕ) where
  looks_on : (client : ClientId) (old new : History D) → OnlyDelivers seen failures old new → Looks seen failures client old new
  looks_on client old new d = record { steps = d.steps; runs = d.runs; within = d.within; looking = all_look client d.steps d.only }

  reply_found : (found : Option Reply) (reply : Reply) → reply ≡ unwrap_or found replies.Lost → (reply ≡ replies.Lost → ⊥) → found ≡ Some reply
  reply_found None reply is some = absurd (some is)
  reply_found (Some other) reply is some = ap Some (sym is)

  module _ (client : ClientId) (old mid : History D) (request : Request) (reply : Reply) (w : WasAsked seen failures client old request reply mid) (looking : IsLooking w.req.client (Comes (asks_at w.moment w.req request))) where
    has_reply : (reply ≡ replies.Lost → ⊥) → HasReply seen failures client old request reply mid
    has_reply some = record {
      moment = w.moment;
      req = w.req;
      own = w.own;
      node = w.node;
      there = w.there;
      fresh = w.fresh;
      asked = w.asked;
      happens = w.happens;
      asks = w.asks;
      behind = looks_on client w.asked mid w.behind;
      last = w.last;
      found = w.found;
      number = w.number;
      has = reply_found w.last.reply reply w.has some;
    }

    -- of whatever is replied nothing but look-ups was asked
    looked : Looks seen failures client old mid
    looked = (let on = looks_on client w.asked mid w.behind in record {
      steps = Comes (asks_at w.moment w.req request) ∷ on.steps;
      runs = (w.asked, (Ok tt, w.happens), on.runs);
      within = (w.asks, on.within);
      looking = (subst (λ c. IsLooking c (Comes (asks_at w.moment w.req request))) w.own looking, on.looking);
    })

    went_so : (r : Reply) → reply ≡ r → Went seen failures client old request r mid
    went_so (replies.Answer answer) is = subst (λ k. HasReply seen failures client old request k mid) is (has_reply (λ lost. never (sym is ∙ lost)))
      where
        never : replies.Answer answer ≡ replies.Lost → ⊥
        never e = cc
    went_so (replies.Given given) is = subst (λ k. HasReply seen failures client old request k mid) is (has_reply (λ lost. never (sym is ∙ lost)))
      where
        never : replies.Given given ≡ replies.Lost → ⊥
        never e = cc
    went_so (replies.Outcome outcome) is = looked
    went_so (replies.Refused refusal) is = looked
    went_so replies.Lost is = looked

  takes_look : (client : ClientId) (mid new : History D) → RunsTo seen failures unarmed (Takes client ∷ []) mid new → Looks seen failures client mid new
  takes_look client mid new runs = record { steps = Takes client ∷ []; runs = runs; within = (tt, tt); looking = ((refl, tt), tt) }

  pub looks_are_carried : LooksAreCarried seen failures
  looks_are_carried sent old new req request reply covers small may looking c = by_went a.went
    where
      a : IsAnswered seen failures req.client old sent request reply new
      a = requests_are_carried seen failures sent old new req request reply covers small may c

      by_went : WasAskedAndTaken seen failures req.client (history sent old) request reply (history a.after new) ⊎ WasRefused seen failures req.client (history sent old) request reply (history a.after new) → IsExchanged seen failures req.client old sent request reply new
      by_went (inl (mid, w, takes)) = record {
        mid = mid;
        went = went_so req.client (history sent old) mid request reply w (looks_too request old.moment w.moment req w.req looking) reply refl;
        after = a.after;
        taken = takes_look req.client mid (history a.after new) takes;
        covers = a.covers;
        moment = a.moment;
      }
      by_went (inr w) = record {
        mid = history a.after new;
        went = subst (λ r. Went seen failures req.client (history sent old) request r (history a.after new)) (sym w.is) (record {
          steps = Comes (asks_at w.moment w.req request) ∷ [];
          runs = (history a.after new, (Err w.refusal, w.happens), refl);
          within = (w.asks, tt);
          looking = (subst (λ k. IsLooking k (Comes (asks_at w.moment w.req request))) w.own (looks_too request old.moment w.moment req w.req looking), tt);
        });
        after = a.after;
        taken = record { steps = []; runs = refl; within = tt; looking = tt };
        covers = a.covers;
        moment = a.moment;
      }
