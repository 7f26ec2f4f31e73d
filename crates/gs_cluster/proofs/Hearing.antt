-- What a caller hears, one message after the other, and what comes of what it asks.
use Rattle.std.proofs.Common.{◌≡◌, ◌∙◌, ◌⊎◌, ◌<◌, ◌≤◌, ◌+◌, ◌++◌, ℕ, true, List, [], ◌∷◌, MatchOption, Option, Some, None, Result, Ok, Err, refl, ap, subst, sym, inl, inr, arith}
use Rattle.gs_base.specs.declared.numbers.Moment.{Moment}
use Rattle.gs_base.specs.declared.numbers.ReqId.{ReqId}
use Rattle.gs_base.specs.declared.refusal.Refusal.{Refusal}
use Rattle.gs_base.specs.declared.refusal.Refusal.TheVariants as refusals
use Rattle.gs_client.specs.Nodes.{Node}
use Rattle.gs_client.specs.declared.link.Reply.{Reply}
use Rattle.gs_client.specs.declared.link.Reply.TheVariants as replies
use Rattle.gs_msg.specs.declared.event.Request.{Request}
use Rattle.gs_msg.specs.declared.sent.Sent.{Sent}
use Rattle.gs_cluster_core.specs.Roles.{DoesAs}
use Rattle.gs_cluster_core.specs.declared.role.Role.{Role}
use Rattle.gs_cluster_core.specs.declared.role.Role.TheVariants.{Client}
use Rattle.gs_cluster_history.specs.Histories.{Kept}
use Rattle.gs_cluster_history.specs.declared.took.Took.TheVariants.{Heard}
use Rattle.gs_cluster_node.specs.Nodes.{Receives, Stepped, Steps}
use Rattle.gs_cluster.specs.Calling.{Asked, Carries, Exhausted, HearsAll, HearsThem, Refused, Replied, Stray, asking, most_vain, reply_of, takes_memory}
use Rattle.gs_cluster.specs.declared.patience.Patience.{Patience}
use Rattle.gs_cluster.specs.inner.Looking.{AsksAgain, Begins, Hears, Looks, LooksOn, most_looks}
use Rattle.gs_cluster.proofs.Refused.{receives_not, steps_not}

module _ {D : Type 0} (seen : D → List ℕ) (failures : D → ℕ) where
  -- one more
  hears_more : (messages : List Sent) (old mid new : Kept (Role D)) (sent : Sent) (said : Result (Unit {0}) Refusal) → HearsThem seen failures messages old mid → Stepped (DoesAs seen failures) mid (Heard sent) said new
      → HearsThem seen failures (messages ++ sent ∷ []) old new
  hears_more [] old mid new sent said same step = (said, new, subst (λ (k : Kept (Role D)). Stepped (DoesAs seen failures) k (Heard sent) said new) same step, refl)
  hears_more (m ∷ ms) old mid new sent said (first, next, one, rest) step = (first, next, one, hears_more ms next mid new sent said rest step)

  -- It has heard some messages since it began to wait, and what it has asked in vain since it heard last is counted from where that stood.
  pub record Waiting (begun now : Kept (Role D)) (before : ℕ) (p : Patience) : Type 0 where
    pub messages : List Sent
    pub hears : HearsThem seen failures messages begun now
    pub few : p.looks < most_looks
    pub since : before ≤ p.heard
    pub counts : p.heard ≤ p.vain

  pub none_heard : (k : Kept (Role D)) (old new : Patience) → Begins old new → Waiting k k old.vain new
  none_heard k old new b =
      let looks = b.looks in
      let vain = b.vain in
      let heard = b.heard in
      record { messages = []; hears = refl; few = omega arith; since = omega arith; counts = omega arith }

  heard_more : (begun now new : Kept (Role D)) (before : ℕ) (p q : Patience) → Waiting begun now before p → Hears seen failures now new → Begins p q → Waiting begun new before q
  heard_more begun now new before p q w h b =
      let since = w.since in
      let counts = w.counts in
      let looks = b.looks in
      let vain = b.vain in
      let heard = b.heard in
      record {
        messages = w.messages ++ h.sent ∷ [];
        hears = hears_more w.messages begun now new h.sent h.said w.hears h.step;
        few = omega arith;
        since = omega arith;
        counts = omega arith;
      }

  heard_nothing : (begun now new : Kept (Role D)) (before : ℕ) (p q : Patience) → Waiting begun now before p → new ≡ now → q.looks < most_looks → q.heard ≡ p.heard → p.vain ≤ q.vain → Waiting begun new before q
  heard_nothing begun now new before p q w same few heard vain =
      let since = w.since in
      let counts = w.counts in
      record {
        messages = w.messages;
        hears = subst (λ (k : Kept (Role D)). HearsThem seen failures w.messages begun k) (sym same) w.hears;
        few = few;
        since = omega arith;
        counts = omega arith;
      }

  asked_more : (p q : Patience) → AsksAgain p q → p.vain ≤ q.vain
  asked_more p q a = elim a.vain [ inl same ↦ omega arith | inr more ↦ omega arith ]

  pub looks_on : (begun now new : Kept (Role D)) (before : ℕ) (p q : Patience) (got : Result (Unit {0}) Refusal) (x : Unit {0}) → Waiting begun now before p → Looks seen failures now p got new q → got ≡ Ok x
      → Waiting begun new before q
  looks_on begun now new before p q got x w looked is = let l = subst (λ (r : Result (Unit {0}) Refusal). Looks seen failures now p r new q) is looked in elim l [
    | inl h ↦ heard_more begun now new before p q w h.0 h.1
    | inr none ↦ elim none.1 [
      | inl on ↦ heard_nothing begun now new before p q w none.0 on.few on.heard (let vain = on.vain in omega arith)
      | inr again ↦ heard_nothing begun now new before p q w none.0 (let looks = again.1.looks in omega arith) again.1.heard (asked_more p q again.1)
    ]
  ]

  pub looks_no_more : (begun now new : Kept (Role D)) (before : ℕ) (p q : Patience) (got : Result (Unit {0}) Refusal) (refusal : Refusal) → Waiting begun now before p → Looks seen failures now p got new q
      → got ≡ Err refusal → HearsAll seen failures begun before (replies.Refused refusal) new q.vain
  looks_no_more begun now new before p q got refusal w looked is =
      let l = subst (λ (r : Result (Unit {0}) Refusal). Looks seen failures now p r new q) is looked in
      let since = w.since in
      let counts = w.counts in
      let stays = ap (λ (x : Patience). x.vain) l.3 in
      record {
        messages = w.messages;
        hears = subst (λ (k : Kept (Role D)). HearsThem seen failures w.messages begun k) (sym l.1) w.hears;
        counts = omega arith;
        ends = inr (inl (ap replies.Refused l.0, ap (λ (k : Kept (Role D)). k.past.clock) l.1 ∙ l.2));
      }

  pub is_replied : (begun now : Kept (Role D)) (before : ℕ) (p : Patience) (role : Role D) (got : Option Reply) (reply : Reply) → Waiting begun now before p → role ≡ now.past.core → Replied role got → got ≡ Some reply
      → HearsAll seen failures begun before reply now p.vain
  is_replied begun now before p role got reply w at replied is =
      let since = w.since in
      let counts = w.counts in
      record {
        messages = w.messages;
        hears = w.hears;
        counts = omega arith;
        ends = inl (subst (λ (r : Role D). Replied r (Some reply)) at (subst (λ (o : Option Reply). Replied role o) is replied));
      }

  -- nothing came, and it has asked in vain so often since it heard last
  pub is_lost : (begun now : Kept (Role D)) (before : ℕ) (p : Patience) (role : Role D) → Waiting begun now before p → role ≡ now.past.core → reply_of role ≡ None → p.heard + most_vain ≤ p.vain
      → HearsAll seen failures begun before replies.Lost now p.vain
  is_lost begun now before p role w at none vain =
      let since = w.since in
      let counts = w.counts in
      record {
        messages = w.messages;
        hears = w.hears;
        counts = omega arith;
        ends = inr (inr (refl, subst (λ (r : Role D). reply_of r ≡ None) at none, omega arith));
      }

  -- ---- one look

  abbrev Received : Type 0
  Received = Result (Option (Result (Unit {0}) Refusal)) Refusal

  pub heard_one : (old new : Kept (Role D)) (p q : Patience) (got : Received) (said : Result (Unit {0}) Refusal) → Receives (DoesAs seen failures) old got new → got ≡ Ok (Some said)
      → Begins p q → Looks seen failures old p (Ok tt) new q
  heard_one old new p q got said step is begins =
      let s = subst (λ (r : Received). Receives (DoesAs seen failures) old r new) is step in
      inl (record { sent = s.0; said = said; step = s.1 }, begins)

  pub heard_none : (old mid new : Kept (Role D)) (p q : Patience) (got : Received) → Receives (DoesAs seen failures) old got mid → got ≡ Ok None → new ≡ mid
      → LooksOn p q ⊎ ((p.looks + 1 ≡ most_looks) × AsksAgain p q) → Looks seen failures old p (Ok tt) new q
  heard_none old mid new p q got step is same looked = inr (same ∙ subst (λ (r : Received). Receives (DoesAs seen failures) old r mid) is step, looked)

  pub heard_out : (old new : Kept (Role D)) (p : Patience) (got : Received) (refusal : Refusal) → Receives (DoesAs seen failures) old got new → got ≡ Err refusal → Looks seen failures old p (Err refusal) new p
  heard_out old new p got refusal step is =
      let r = receives_not (DoesAs seen failures) old new refusal (subst (λ (r : Received). Receives (DoesAs seen failures) old r new) is step) in
      (r.0, r.1, r.2, refl)

  -- it has looked for the last time, and asks
  pub asks_again : (p mid q : Patience) → mid.vain ≡ p.vain → mid.heard ≡ p.heard → AsksAgain mid q → AsksAgain p q
  asks_again p mid q vain heard a = record { looks = a.looks; vain = elim a.vain [ inl same ↦ inl (same ∙ vain) | inr more ↦ inr (more ∙ ap (λ n. n + 1) vain) ]; heard = a.heard ∙ heard }

  -- ---- what is asked

  abbrev Said : Type 0
  Said = Result (Result (Unit {0}) Refusal) Refusal

  pub was_asked : (moment : Moment) (req : ReqId) (request : Request) (old asked : Kept (Role D)) (before : ℕ) (new : Kept (Role D)) (after : ℕ) (said : Said) (reply : Reply)
      → Steps (DoesAs seen failures) old (asking moment req request) said asked → said ≡ Ok (Ok tt) → HearsAll seen failures asked before reply new after → Carries seen failures moment req request old before reply new after
  was_asked moment req request old asked before new after said reply step is hears =
      Asked asked (subst (λ (s : Said). Steps (DoesAs seen failures) old (asking moment req request) s asked) is step) hears

  pub was_refused : (moment : Moment) (req : ReqId) (request : Request) (old new : Kept (Role D)) (vain : ℕ) (said : Said) (refusal : Refusal) → Steps (DoesAs seen failures) old (asking moment req request) said new
      → said ≡ Ok (Err refusal) → Carries seen failures moment req request old vain (replies.Refused refusal) new vain
  was_refused moment req request old new vain said refusal step is =
      Refused refusal (subst (λ (s : Said). Steps (DoesAs seen failures) old (asking moment req request) s new) is step) refl refl

  pub was_not_asked : (moment : Moment) (req : ReqId) (request : Request) (old new : Kept (Role D)) (vain : ℕ) (said : Said) (refusal : Refusal) → Steps (DoesAs seen failures) old (asking moment req request) said new
      → said ≡ Err refusal → Carries seen failures moment req request old vain (replies.Refused refusal) new vain
  was_not_asked moment req request old new vain said refusal step is =
      let r = steps_not (DoesAs seen failures) old new (asking moment req request) refusal (subst (λ (s : Said). Steps (DoesAs seen failures) old (asking moment req request) s new) is step) in
      elim r.1 [
        | inl last ↦ Exhausted r.0 last.1 (ap replies.Refused last.0) refl
        | inr other ↦ Stray r.0 other.1 (ap replies.Refused other.0) refl
      ]

-- ---- a copy of what came

abbrev IsPlain : Reply → Option Reply → Type 0
IsPlain came got = MatchOption got (takes_memory came ≡ true) (λ copy. copy ≡ came)

pub plain_copy : (came copy : Reply) (got : Option Reply) → IsPlain came got → got ≡ Some copy → copy ≡ came
plain_copy came copy got plain is = subst (λ (o : Option Reply). IsPlain came o) is plain

pub not_plain : (came : Reply) (got : Option Reply) → IsPlain came got → ((copy : Reply) → got ≡ Some copy → ⊥) → takes_memory came ≡ true
not_plain came (Some copy) plain other = absurd (other copy refl)
not_plain came None plain other = plain

pub replied : {D : Type 0} (role : Role D) (node : Node) (came copy : Reply) → role ≡ Client node → node.reply ≡ Some came → (copy ≡ came) ⊎ ((copy ≡ replies.Refused refusals.Memory) × (takes_memory came ≡ true))
    → Replied role (Some copy)
replied role node came copy is has so = (came, ap reply_of is ∙ has, so)
