-- A fetch that a desk carries: the desk stands for the machine after it, and what is replied is no refusal by the tree.
use Rattle.std.proofs.Common.{ap, inl, inr, refl, subst, sym, ◌∙◌, ◌∷◌, ◌≡◌, ◌⊎◌, List, Ok, Some, false, ℕ}
use Rattle.std.proofs.lemmas.Bool.{false≢true}
use Rattle.gs_base.specs.Told.{IsNumber}
use Rattle.gs_base.specs.declared.config.Config.{Config}
use Rattle.gs_base.specs.declared.numbers.Moment.{Moment}
use Rattle.gs_base.specs.declared.numbers.Stamp.{Stamp}
use Rattle.gs_base.specs.declared.refusal.Refusal.{Refusal}
use Rattle.gs_base.specs.declared.refusal.Refusal.TheVariants as refusals
use Rattle.gs_client.specs.Sends.{next_request}
use Rattle.gs_client.specs.declared.client.Client.{Client}
use Rattle.gs_client.specs.declared.link.Reply.{Reply}
use Rattle.gs_client.specs.declared.link.Reply.TheVariants as replies
use Rattle.gs_laws_chunks.proofs.lemmas.answers.Behind.{all_spare}
use Rattle.gs_laws_chunks.proofs.lemmas.answers.ForServers.{requests_are_for_servers}
use Rattle.gs_laws_chunks.specs.answers.OfTree.{SparesReply, is_of_tree}
use Rattle.gs_laws_chunks.specs.desks.Reached.{Covers, history}
use Rattle.gs_laws_looks.proofs.lemmas.carrying.Asked.{requests_are_carried}
use Rattle.gs_laws_looks.proofs.lemmas.carrying.Exchanged.{looks_are_carried}
use Rattle.gs_laws_looks.specs.carrying.Asked.{IsAnswered, WasAsked, WasAskedAndTaken, WasRefused}
use Rattle.gs_laws_looks.specs.carrying.Exchanged.{IsExchanged, Looks, Went}
use Rattle.gs_laws_world.specs.steady.Asking.{asks_at}
use Rattle.gs_laws_world.specs.steady.Unarmed.{unarmed}
use Rattle.gs_msg.specs.declared.chunk.Asked.{Asked}
use Rattle.gs_msg.specs.declared.event.Request.{Request}
use Rattle.gs_msg.specs.declared.event.Request.TheVariants as requests
use Rattle.gs_nodes.specs.Happenings.{client_in}
use Rattle.gs_shell_desk.specs.Ways.{way_of}
use Rattle.gs_shell_desk.specs.declared.desk.Desk.{Desk}
use Rattle.gs_shell_desk.specs.declared.wire.Wire.{Wire}
use Rattle.gs_world.specs.Histories.{History}
use Rattle.gs_world.specs.Runs.{Comes}
use Rattle.gs_world.specs.Sent.{Sent}
use Rattle.gs_laws_scripts.proofs.lemmas.explained.Refused.{all_look, has_found, not_taken}
use Rattle.gs_laws_scripts.proofs.lemmas.explained.Still.{looks_both, none_looked, stands_on}
use Rattle.gs_laws_scripts.proofs.lemmas.lists.Lines.{Carries_at, next_small}
use Rattle.gs_laws_scripts.proofs.lemmas.reads.Clients.{still_mine}
use Rattle.gs_laws_scripts.specs.explained.Lines.{IsOfStore}
use Rattle.gs_laws_scripts.specs.explained.Machine.{Machine}
use Rattle.gs_laws_scripts.specs.explained.Standing.{Stands, the_client}

-- what the store refuses by isn't what the tree refuses by
pub store_spares : (refusal : Refusal) → IsOfStore refusal → is_of_tree refusal ≡ false
store_spares refusals.BadPath store = absurd (false≢true store)
store_spares refusals.HiddenName store = absurd (false≢true store)
store_spares refusals.NotFound store = absurd (false≢true store)
store_spares refusals.Exists store = absurd (false≢true store)
store_spares refusals.NotADirectory store = absurd (false≢true store)
store_spares refusals.IsADirectory store = absurd (false≢true store)
store_spares refusals.NotEmpty store = absurd (false≢true store)
store_spares refusals.IntoItself store = absurd (false≢true store)
store_spares refusals.IsRoot store = absurd (false≢true store)
store_spares refusals.NotHidden store = absurd (false≢true store)
store_spares refusal store = refl

-- what a client takes of a member: no refusal by the tree
abbrev pub SparesGiven : Reply → Type 0
SparesGiven (replies.Refused refusal) = is_of_tree refusal ≡ false
SparesGiven reply = Unit {0}

given_so : (reply : Reply) → SparesReply reply → SparesGiven reply
given_so (replies.Refused refusal) spares = spares
given_so reply spares = tt

module _ {D : Type 0} (seen : D → List ℕ) (failures : D → ℕ) (config : Config) (old new : Desk D) (m : Machine) (st : Stands seen config old m) (to handle : ℕ) (stamp : Stamp) (epoch : ℕ) (want : Asked) where
  abbrev at : Desk D → Client × Wire D
  at d = (d.caller.client, d.wire)

  abbrev request : Request
  request = requests.Fetch to handle stamp epoch want

  abbrev before : History D
  before = history st.sent (way_of old.wire)

  abbrev Carried : Reply → Type 0
  Carried reply = Carries_at seen failures (at old) request reply (at new)

  -- ---- nothing but looks came

  went_on : (mid : History D) (reply : Reply) → Went seen failures the_client before request reply mid → Looks seen failures the_client before mid
  went_on mid (replies.Answer answer) r = record {
    steps = Comes (asks_at r.moment r.req request) ∷ r.behind.steps;
    runs = (r.asked, (Ok tt, r.happens), r.behind.runs);
    within = (r.asks, r.behind.within);
    looking = ((refl, tt), r.behind.looking);
  }
  went_on mid (replies.Given given) r = record {
    steps = Comes (asks_at r.moment r.req request) ∷ r.behind.steps;
    runs = (r.asked, (Ok tt, r.happens), r.behind.runs);
    within = (r.asks, r.behind.within);
    looking = ((refl, tt), r.behind.looking);
  }
  went_on mid (replies.Outcome outcome) looks = looks
  went_on mid (replies.Refused refusal) looks = looks
  went_on mid replies.Lost looks = looks

  record IsFetchCarried : Type 0 where
    after : Sent
    covers : Covers after (way_of new.wire)
    moment : new.wire.moment ≡ old.wire.moment
    looks : Looks seen failures the_client before (history after (way_of new.wire))

  fetch_carried : (reply : Reply) → Carried reply → IsFetchCarried
  fetch_carried reply (inl (below, is, c)) =
      let e : IsExchanged seen failures the_client (way_of old.wire) st.sent request reply (way_of new.wire) =
      subst (λ k. IsExchanged seen failures k (way_of old.wire) st.sent request reply (way_of new.wire)) st.ours.0
      (looks_are_carried seen failures st.sent (way_of old.wire) (way_of new.wire) (next_request old.caller.client) request reply st.covers st.moment (next_small old.caller.client.last.number below, tt) (refl, tt) c) in
      record { after = e.after; covers = e.covers; moment = e.moment; looks = looks_both seen failures before e.mid (history e.after (way_of new.wire)) (went_on e.mid reply e.went) e.taken }
  fetch_carried reply (inr (last, is, same)) = record {
    after = st.sent;
    covers = subst (λ (s : Client × Wire D). Covers st.sent (way_of s.1)) (sym same) st.covers;
    moment = ap (λ (s : Client × Wire D). s.1.moment) same;
    looks = none_looked seen failures before (history st.sent (way_of new.wire)) (ap (λ (s : Client × Wire D). history st.sent (way_of s.1)) same);
  }

  pub fetch_stands : (reply : Reply) → Carried reply → Stands seen config new m
  fetch_stands reply carried =
      let c = fetch_carried reply carried in
      stands_on seen failures config 0 0 old new m st c.after c.covers (subst (λ (moment : Moment). IsNumber moment.0) (sym c.moment) st.moment) (still_mine seen failures config (at old) (at new) request reply st.ours carried) c.looks m st.shows
      (st.now ∙ ap (λ (moment : Moment). moment.0) (sym c.moment))

  -- ---- what is replied

  refused_so : (refusal : Refusal) (reply : Reply) → reply ≡ replies.Refused refusal → IsOfStore refusal → SparesGiven reply
  refused_so refusal reply is store = subst SparesGiven (sym is) (store_spares refusal store)

  replied_so : (mid : History D) (reply : Reply) (w : WasAsked seen failures the_client before request reply mid) → w.last.reply ≡ Some reply → SparesReply reply
  replied_so mid reply w has =
      requests_are_for_servers seen failures unarmed before w.asked mid w.moment w.req request w.behind.steps w.last reply st.rests.asked st.rests.replied st.rests.sparing st.rests.types st.rests.lasts
      (record { node = w.node; there = w.there; fresh = w.fresh; happens = w.happens }) refl w.behind.runs (all_spare the_client w.behind.steps (all_look seen failures w.behind.steps w.behind.only)) (w.asks, w.behind.within)
      (subst (λ k. client_in mid.nodes.clients k ≡ Some w.last) (sym w.own) w.found) w.number has

  pub fetch_spares : (reply : Reply) → Carried reply → SparesGiven reply
  fetch_spares reply (inr (last, is, same)) = refused_so refusals.Exhausted reply is refl
  fetch_spares reply (inl (below, next, c)) = by_went a.went
    where
      a : IsAnswered seen failures the_client (way_of old.wire) st.sent request reply (way_of new.wire)
      a = subst (λ k. IsAnswered seen failures k (way_of old.wire) st.sent request reply (way_of new.wire)) st.ours.0
          (requests_are_carried seen failures st.sent (way_of old.wire) (way_of new.wire) (next_request old.caller.client) request reply st.covers st.moment (next_small old.caller.client.last.number below, tt) c)

      by_went : WasAskedAndTaken seen failures the_client before request reply (history a.after (way_of new.wire)) ⊎ WasRefused seen failures the_client before request reply (history a.after (way_of new.wire)) → SparesGiven reply
      by_went (inr r) = refused_so r.refusal reply r.is (not_taken seen failures before (history a.after (way_of new.wire)) r.moment r.req request r.refusal r.own st.rests.one r.happens)
      by_went (inl (mid, w, takes)) = elim (has_found seen failures w.last.reply reply w.has) [
        | inl lost ↦ subst SparesGiven (sym lost) tt
        | inr has ↦ given_so reply (replied_so mid reply w has)
      ]
