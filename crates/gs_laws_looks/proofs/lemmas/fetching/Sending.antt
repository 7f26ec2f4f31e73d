-- When a message was sent: before some steps, or at one of them.
use Rattle.std.proofs.Common.{◌≡◌, ◌⊎◌, inl, inr, ◌++◌, ℕ, zero, suc, List, [], ◌∷◌, Result, Ok, Err, refl, sym, ap, subst, arith}
use Rattle.std.specs.Prelude.{Contains}
use Rattle.std.specs.List.{AllByRecursion}
use Rattle.gs_base.specs.declared.numbers.Moment.{Moment}
use Rattle.gs_base.specs.declared.refusal.Refusal.{Refusal}
use Rattle.gs_msg.specs.declared.event.DiskId.{DiskId}
use Rattle.gs_msg.specs.declared.event.Event.{Event}
use Rattle.gs_msg.specs.declared.message.Message.{Message}
use Rattle.gs_msg.specs.declared.node.NodeId.{NodeId}
use Rattle.gs_nodes.specs.declared.place.MasterPlace.{MasterPlace}
use Rattle.gs_world.specs.Histories.{Happens, History, Tells, Upshot}
use Rattle.gs_world.specs.Runs.{Comes, Goes, Step, StaySent, Takes}
use Rattle.gs_world.specs.Sent.{IsSent, Sent}
use Rattle.gs_laws_chunks.specs.accounts.Accounts.{Account}
use Rattle.gs_laws_chunks.specs.accounts.Reading.{sent_at}
use Rattle.gs_laws_chunks.specs.accounts.Running.{IsReached, Moves, Runs, Setup}
use Rattle.gs_laws_lift.proofs.lemmas.stores.Posting.{posted_all, posts_stay}
use Rattle.gs_laws_lift.specs.stores.Going.{Posts}

contained_more : {A : Type 0} (x : A) (xs : List A) (y : A) → Contains xs y → Contains (x ∷ xs) y
contained_more x xs y (k, within, is) = (suc k, (omega arith), is)

contained_first : {A : Type 0} (x : A) (xs : List A) → Contains (x ∷ xs) x
contained_first x xs = (0, (omega arith), refl)

-- of each there is
all_there : {A : Type 0} (S : A → Type 0) (xs : List A) → ((x : A) → Contains xs x → S x) → AllByRecursion S xs
all_there S [] each = tt
all_there S (x ∷ xs) each = (each x (contained_first x xs), all_there S xs (λ y there. each y (contained_more x xs y there)))

pub none_there : {A Z : Type 0} (y : A) → Contains [] y → Z
none_there y (k, within, is) = absurd (omega arith)

pub one_of : {A : Type 0} (x y : A) → Contains (x ∷ []) y → x ≡ y
one_of x y (zero, within, is) = is
one_of x y (suc k, within, is) = absurd (omega arith)

pub some_of : {A : Type 0} (S : A → Type 0) (xs : List A) (y : A) → AllByRecursion S xs → Contains xs y → S y
some_of S [] y all there = none_there y there
some_of S (x ∷ xs) y all (zero, within, is) = subst S is all.0
some_of S (x ∷ xs) y all (suc k, within, is) = some_of S xs y all.1 (k, (omega arith), is)

-- ---- a step

module _ {D : Type 0} (seen : D → List ℕ) (failures : D → ℕ) (armed : DiskId → ℕ → MasterPlace D → MasterPlace D) where
  posts : (moment : Moment) (by : NodeId) (outcome : Upshot) (old : Sent) (result : Result (Unit {0}) Refusal) (new : Sent) → Tells seen failures armed moment by outcome old result new → Posts moment by (sent_at outcome) old new
  posts moment by (Ok (messages, said)) old result new (posted, is) = inl posted
  posts moment by (Err refusal) old result new (same, is) = inr same

  -- what is sent stays sent
  pub stays_sent : (step : Step) (old new : History D) → Goes seen failures armed step old new → StaySent old.sent new.sent
  stays_sent (Comes event) old new (said, h) = posts_stay event.moment h.by (sent_at h.outcome) old.sent new.sent (posts event.moment h.by h.outcome old.sent said new.sent h.tells)
  stays_sent (Takes client) old new (found, takes, same) = subst (StaySent old.sent) (sym same) (λ id message is. is)

  -- a message goes out at a step
  pub record GoesOut (step : Step) (old new : History D) (m : Message) : Type 0 where
    pub event : Event
    pub is : step ≡ Comes event
    pub said : Result (Unit {0}) Refusal
    pub happens : Happens seen failures armed event old said new
    pub sends : Contains (sent_at happens.outcome) m

  pub sent_before_or_now : (step : Step) (old new : History D) (m : Message) → Goes seen failures armed step old new → IsSent m new.sent → IsSent m old.sent ⊎ GoesOut step old new m
  sent_before_or_now (Comes event) old new m (said, h) (id, is) =
      elim (posted_all (λ n. IsSent n old.sent ⊎ Contains (sent_at h.outcome) n) event.moment h.by (sent_at h.outcome) old.sent new.sent (posts event.moment h.by h.outcome old.sent said new.sent h.tells) (λ at n there. inl (at, there))
      (all_there (λ n. IsSent n old.sent ⊎ Contains (sent_at h.outcome) n) (sent_at h.outcome) (λ n there. inr there)) id m is) [
        | inl was ↦ inl was
        | inr now ↦ inr (record { event = event; is = refl; said = said; happens = h; sends = now })
      ]
  sent_before_or_now (Takes client) old new m (found, takes, same) sent = inl (subst (IsSent m) same sent)

-- ---- steps

module _ {D : Type 0} (x : Setup D) where
  -- it goes out at one of some steps
  pub record WasSent (steps : List Step) (old : History D) (a : Account) (new : History D) (b : Account) (m : Message) : Type 0 where
    pub before : List Step
    pub now : History D
    pub c : Account
    pub event : Event
    pub said : Result (Unit {0}) Refusal
    pub next : History D
    pub d : Account
    pub after : List Step
    pub parts : steps ≡ before ++ Comes event ∷ after
    pub first : Runs x before old a now c
    pub moves : Moves x (Comes event) now c next d
    pub happens : Happens x.seen x.failures x.armed event now said next
    pub rest : Runs x after next d new b
    pub sends : Contains (sent_at happens.outcome) m

  further : (step : Step) (steps : List Step) (old mid new : History D) (a b c : Account) (m : Message) → Moves x step old a mid b → WasSent steps mid b new c m → WasSent (step ∷ steps) old a new c m
  further step steps old mid new a b c m moves was = record {
    before = step ∷ was.before;
    now = was.now;
    c = was.c;
    event = was.event;
    said = was.said;
    next = was.next;
    d = was.d;
    after = was.after;
    parts = ap (λ (xs : List Step). step ∷ xs) was.parts;
    first = (mid, b, moves, was.first);
    moves = was.moves;
    happens = was.happens;
    rest = was.rest;
    sends = was.sends;
  }

  now_sent : (step : Step) (steps : List Step) (old mid new : History D) (a b c : Account) (m : Message) → Moves x step old a mid b → Runs x steps mid b new c → GoesOut x.seen x.failures x.armed step old mid m → WasSent (step ∷ steps) old a new c m
  now_sent step steps old mid new a b c m moves rest out = record {
    before = [];
    now = old;
    c = a;
    event = out.event;
    said = out.said;
    next = mid;
    d = b;
    after = steps;
    parts = ap (λ (s : Step). s ∷ steps) out.is;
    first = (refl, refl);
    moves = subst (λ (s : Step). Moves x s old a mid b) out.is moves;
    happens = out.happens;
    rest = rest;
    sends = out.sends;
  }

  pub sent_when : (steps : List Step) (old new : History D) (a b : Account) (m : Message) → Runs x steps old a new b → IsSent m new.sent → IsSent m old.sent ⊎ WasSent steps old a new b m
  sent_when [] old new a b m runs sent = inl (subst (λ (h : History D). IsSent m h.sent) runs.0 sent)
  sent_when (step ∷ steps) old new a b m (mid, c, moves, rest) sent = elim (sent_when steps mid new c b m rest sent) [
    | inl was ↦ elim (sent_before_or_now x.seen x.failures x.armed step old mid m moves.steps.goes was) [
      | inl before ↦ inl before
      | inr now ↦ inr (now_sent step steps old mid new a c b m moves rest now)
    ]
    | inr was ↦ inr (further step steps old mid new a c b m moves was)
  ]

  pub sent_on : (steps : List Step) (old new : History D) (a b : Account) (m : Message) → Runs x steps old a new b → IsSent m old.sent → IsSent m new.sent
  sent_on [] old new a b m runs sent = subst (λ (h : History D). IsSent m h.sent) (sym runs.0) sent
  sent_on (step ∷ steps) old new a b m (mid, c, moves, rest) sent = sent_on steps mid new c b m rest (sent.0, stays_sent x.seen x.failures x.armed step old mid moves.steps.goes sent.0 m sent.1)

  -- ---- runs that are joined

  pub joined : (xs ys : List Step) (old mid new : History D) (a b c : Account) → Runs x xs old a mid b → Runs x ys mid b new c → Runs x (xs ++ ys) old a new c
  joined [] ys old mid new a b c same rest = subst (λ (h : History D). Runs x ys h a new c) same.0 (subst (λ (d : Account). Runs x ys mid d new c) same.1 rest)
  joined (step ∷ xs) ys old mid new a b c (next, d, moves, more) rest = (next, d, moves, joined xs ys next mid new d b c more rest)

  pub reach : (steps : List Step) (old new : History D) (a b : Account) → IsReached x old a → Runs x steps old a new b → IsReached x new b
  reach steps old new a b r runs = record { apart = r.apart; begun = r.begun; first = r.first; steps = r.steps ++ steps; begins = r.begins; runs = joined r.steps steps r.begun old new r.first a b r.runs runs }
