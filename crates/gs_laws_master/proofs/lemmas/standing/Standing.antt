-- What stands is kept by each record and by each change of what is kept in memory.
use Rattle.std.proofs.Common.{◌≡◌, ◌⊎◌, inl, inr, ◌∙◌, ◌≤◌, ◌&&◌, ◌||◌, ◌==◌, ◌+◌, ℕ, suc, Bool, true, false, not, cond, List, [], ◌∷◌, ◌++◌, refl, ap, subst, sym, arith}
use Rattle.std.specs.Prelude.{nat_lt, is_some, fold, flat_map, Option, Some, None, Result, if◌then◌else◌, length, slice_set}
use Rattle.std.specs.Cmp.{nat_cmp_total, tied_itself}
use Rattle.std.specs.FinMap as fin
use Rattle.std.specs.List.{position_or_len, AllByRecursion, list_all}
use Rattle.std.specs.Ordering.{eq_by_cmp, is_eq, nat_cmp}
use Rattle.std.proofs.lemmas.Bool.{false≢true, true≢false, and_parts}
use Rattle.std.proofs.lemmas.Bool.Decides.{nat_tests}
use Rattle.std.proofs.lemmas.List.Folds.{list_all-append, list_any-append}
use Rattle.gs_base.specs.Members.{is_member}
use Rattle.gs_base.specs.MemberLaws.{eqb_itself}
use Rattle.gs_base.specs.Told.{IsNumber}
use Rattle.gs_base.specs.declared.numbers.ClientId.{ClientId}
use Rattle.gs_base.specs.declared.numbers.ReqId.{ReqId}
use Rattle.gs_base.specs.declared.numbers.Stamp.{Stamp}
use Rattle.gs_base.specs.declared.refusal.Refusal.{Refusal}
use Rattle.gs_tree.proofs.Levels.{both_true}
use Rattle.gs_msg.specs.declared.answer.Answer.{Answer}
use Rattle.gs_master_spec.specs.Applied.{follows_view, is_since, with_reply}
use Rattle.gs_master_spec.specs.Durable.{Durable, is_given, is_listed, is_ordinary, upgrade_epoch}
use Rattle.gs_master_spec.specs.Replies.{client_cmp, is_later, later}
use Rattle.gs_master_state.specs.Sane.{are_apart, is_waited_by, makes, may_wait_for}
use Rattle.gs_master_spec.specs.Volatile.{Volatile, changed, all_changed, is_call, is_pending, let_go, let_go_of, with_waiting, waits_at, without_call, without_handle, without_pending}
use Rattle.gs_master_spec.specs.declared.asking.Asking.{Asking}
use Rattle.gs_master_spec.specs.declared.change.Change.{Change}
use Rattle.gs_master_spec.specs.declared.change.Change.TheVariants as changes
use Rattle.gs_master_spec.specs.declared.pending.Pending.{Pending}
use Rattle.gs_master_spec.specs.declared.pending.Waiting.{Waiting}
use Rattle.gs_master_spec.specs.declared.reply.KeptReply.{KeptReply}
use Rattle.gs_master_state.proofs.Tracking.{client_total}
use Rattle.gs_laws_master.specs.Promises.{IsKept}
use Rattle.gs_laws_master.specs.Standing.{AreCounters, CanWait, IsSought, IsToldCount, Stands, may_ask, was_answered}
use Rattle.gs_laws_master.proofs.lemmas.keeping.KeptViews.{same_key}
use Rattle.gs_laws_master.proofs.lemmas.spelling.Retold.{each_entry}

-- ---- requests that are the same

abbrev pub same_call : ReqId → ReqId → Bool
same_call a b = is_call a (Some b)

pub same_parts : (a b : ReqId) → same_call a b ≡ true → a ≡ b
same_parts a b h =
    let parts = and_parts (a.client.0 == b.client.0) (a.number == b.number) h in
    let c = equal a.client.0 b.client.0 parts.0 in
    let n = equal a.number b.number parts.1 in
    (λ i. record { client = record { 0 = c i }; number = n i })
  where
    equal : (m n : ℕ) → (m == n) ≡ true → m ≡ n
    equal m n e = grind (arith, nat_tests)

pub same_self : (a : ReqId) → same_call a a ≡ true
same_self a = both_true (a.client.0 == a.client.0) (a.number == a.number) (eqb_itself a.client.0) (eqb_itself a.number)

-- ---- replies

-- a reply that is later than the last one is the last one
answered_more : (dr vr : Option KeptReply) (reply : KeptReply) (n : ℕ) → is_later (later dr vr) reply.number ≡ true → not (is_later (later dr vr) n) ≡ true → not (is_later (later dr (Some reply)) n) ≡ true
answered_more None None reply n new was = absurd (false≢true was)
answered_more None (Some w) reply n new was = grind (arith, nat_tests)
answered_more (Some r) None reply n new was = by_test (nat_lt r.number reply.number) refl new was
  where
    by_test : (b : Bool) → nat_lt r.number reply.number ≡ b → nat_lt r.number reply.number ≡ true → not (nat_lt r.number n) ≡ true → not (is_later (if b then Some reply else Some r) n) ≡ true
    by_test true is new was = grind (arith, nat_tests)
    by_test false is new was = was
answered_more (Some r) (Some w) reply n new was = by_tests (nat_lt r.number w.number) refl (nat_lt r.number reply.number) refl new was
  where
    by_tests : (b : Bool) → nat_lt r.number w.number ≡ b → (c : Bool) → nat_lt r.number reply.number ≡ c → is_later (if b then Some w else Some r) reply.number ≡ true → not (is_later (if b then Some w else Some r) n) ≡ true
        → not (is_later (if c then Some reply else Some r) n) ≡ true
    by_tests true is true less new was = grind (arith, nat_tests)
    by_tests true is false less new was = absurd (let h = new in grind (arith, nat_tests))
    by_tests false is true less new was = grind (arith, nat_tests)
    by_tests false is false less new was = was

-- a later reply that a record tells takes the place of the one before
told_more : (r : KeptReply) (dr vr : Option KeptReply) (n : ℕ) → is_later dr r.number ≡ true → not (is_later (later dr vr) n) ≡ true → not (is_later (later (Some r) vr) n) ≡ true
told_more r None None n new was = absurd (false≢true was)
told_more r None (Some w) n new was = by_test (nat_lt r.number w.number) refl was
  where
    by_test : (b : Bool) → nat_lt r.number w.number ≡ b → not (nat_lt w.number n) ≡ true → not (is_later (if b then Some w else Some r) n) ≡ true
    by_test true is was = was
    by_test false is was = grind (arith, nat_tests)
told_more r (Some q) None n new was = grind (arith, nat_tests)
told_more r (Some q) (Some w) n new was = by_tests (nat_lt q.number w.number) refl (nat_lt r.number w.number) refl new was
  where
    by_tests : (b : Bool) → nat_lt q.number w.number ≡ b → (c : Bool) → nat_lt r.number w.number ≡ c → nat_lt q.number r.number ≡ true → not (is_later (if b then Some w else Some q) n) ≡ true
        → not (is_later (if c then Some w else Some r) n) ≡ true
    by_tests true is true less new was = was
    by_tests true is false less new was = grind (arith, nat_tests)
    by_tests false is true less new was = grind (arith, nat_tests)
    by_tests false is false less new was = grind (arith, nat_tests)

-- what has been answered stays so
abbrev pub StaysAnswered : Durable → Volatile → Durable → Volatile → Type 0
StaysAnswered d v e w = (req : ReqId) → was_answered d v req ≡ true → was_answered e w req ≡ true

pub same_client : (a b : ClientId) → eq_by_cmp client_cmp a b ≡ true → a ≡ b
same_client a b h = let e : a.0 ≡ b.0 = same_key a.0 b.0 h in (λ i. record { 0 = e i })

pub kept_answers : (d : Durable) (v : Volatile) (client : ClientId) (reply : KeptReply) → is_later (later (fin.get d.replies client) (fin.get v.replies client)) reply.number ≡ true
    → StaysAnswered d v d (record v { replies = fin.insert v.replies client reply })
kept_answers d v client reply new req was =
    ap (λ o. not (is_later (later (fin.get d.replies req.client) o) req.number)) (fin.get-insert client_total v.replies client reply req.client) ∙ by_key (eq_by_cmp client_cmp req.client client) refl
  where
    by_key : (b : Bool) → eq_by_cmp client_cmp req.client client ≡ b → not (is_later (later (fin.get d.replies req.client) (cond b (Some reply) (fin.get v.replies req.client))) req.number) ≡ true
    by_key true is =
        answered_more (fin.get d.replies req.client) (fin.get v.replies req.client) reply req.number (ap (λ c. is_later (later (fin.get d.replies c) (fin.get v.replies c)) reply.number) (same_client req.client client is) ∙ new) was
    by_key false is = was

pub told_answers : (d : Durable) (v : Volatile) (to : ReqId) (result : Result Answer Refusal) → StaysAnswered d v (record d { replies = with_reply d.replies to result }) v
told_answers d v to result req was = by_test (is_later (fin.get d.replies to.client) to.number) refl
  where
    new : KeptReply
    new = record { number = to.number; result = result }

    by_key : is_later (fin.get d.replies to.client) to.number ≡ true → (b : Bool) → eq_by_cmp client_cmp req.client to.client ≡ b → not (is_later (later (cond b (Some new) (fin.get d.replies req.client)) (fin.get v.replies req.client)) req.number) ≡ true
    by_key more true is = told_more new (fin.get d.replies req.client) (fin.get v.replies req.client) req.number (ap (λ c. is_later (fin.get d.replies c) to.number) (same_client req.client to.client is) ∙ more) was
    by_key more false is = was

    by_test : (b : Bool) → is_later (fin.get d.replies to.client) to.number ≡ b → not (is_later (later (fin.get (if b then fin.insert d.replies to.client new else d.replies) req.client) (fin.get v.replies req.client)) req.number) ≡ true
    by_test true more =
        ap (λ o. not (is_later (later o (fin.get v.replies req.client)) req.number)) (fin.get-insert client_total d.replies to.client new req.client) ∙ by_key more (eq_by_cmp client_cmp req.client to.client) refl
    by_test false more = was

-- and the request itself has been
number_last : (r : KeptReply) (vr : Option KeptReply) (n : ℕ) → nat_lt r.number n ≡ false → not (is_later (later (Some r) vr) n) ≡ true
number_last r None n h = ap not h
number_last r (Some w) n h = by_test (nat_lt r.number w.number) refl
  where
    by_test : (b : Bool) → nat_lt r.number w.number ≡ b → not (is_later (if b then Some w else Some r) n) ≡ true
    by_test true is = grind (arith, nat_tests)
    by_test false is = ap not h

pub now_answered : (d : Durable) (v : Volatile) (to : ReqId) (result : Result Answer Refusal) → was_answered (record d { replies = with_reply d.replies to result }) v to ≡ true
now_answered d v to result = by_test (is_later (fin.get d.replies to.client) to.number) refl
  where
    new : KeptReply
    new = record { number = to.number; result = result }

    not_less : (n : ℕ) → nat_lt n n ≡ false
    not_less n = grind (arith, nat_tests)

    by_last : (o : Option KeptReply) → is_later o to.number ≡ false → not (is_later (later o (fin.get v.replies to.client)) to.number) ≡ true
    by_last None h = absurd (true≢false h)
    by_last (Some r) h = number_last r (fin.get v.replies to.client) to.number h

    by_test : (b : Bool) → is_later (fin.get d.replies to.client) to.number ≡ b → not (is_later (later (fin.get (if b then fin.insert d.replies to.client new else d.replies) to.client) (fin.get v.replies to.client)) to.number) ≡ true
    by_test true more =
        ap (λ o. not (is_later (later o (fin.get v.replies to.client)) to.number)) (fin.get-insert client_total d.replies to.client new to.client)
        ∙ ap (λ o. not (is_later (later (cond (is_eq o) (Some new) (fin.get d.replies to.client)) (fin.get v.replies to.client)) to.number)) (tied_itself client_total to.client)
        ∙ number_last new (fin.get v.replies to.client) to.number (not_less to.number)
    by_test false more = by_last (fin.get d.replies to.client) more

-- ---- what a record leaves

-- what it leaves of a chunk that is asked for
pub record Leaves (d e : Durable) (chunk : ℕ) : Type 0 where
  pub listed : is_listed d chunk ≡ true → is_listed e chunk ≡ true
  pub follows : (stamp : Stamp) → follows_view (fin.get d.chunks chunk) stamp ≡ true → follows_view (fin.get e.chunks chunk) stamp ≡ true
  pub since : (stamp : Stamp) → is_since (upgrade_epoch d.phase d.epoch) (fin.get d.chunks chunk) stamp ≡ true → is_since (upgrade_epoch e.phase e.epoch) (fin.get e.chunks chunk) stamp ≡ true
  pub none : fin.get e.chunks chunk ≡ None → fin.get d.chunks chunk ≡ None
  pub bare : fin.get d.chunks chunk ≡ None → fin.get e.chunks chunk ≡ None

-- a chunk that is settled behind it was before, and stands in a file if it did; or the master knows it
abbrev pub WasSettled : Durable → Durable → Volatile → ℕ → Type 0
WasSettled d e v chunk = ((is_some (fin.get d.chunks chunk) ≡ true) × (is_listed d chunk ≡ true → is_listed e chunk ≡ true)) ⊎ ((is_listed e chunk || is_member v.unplaced chunk) ≡ true)

-- and of all else
pub record Onto (d e : Durable) (v : Volatile) : Type 0 where
  pub kept : IsKept e
  pub counters : AreCounters e
  pub handles : (n : ℕ) → is_given d.next_handle n ≡ true → is_given e.next_handle n ≡ true
  pub versions : (n : ℕ) → is_given d.next_version n ≡ true → is_given e.next_version n ≡ true
  pub epoch : d.epoch ≤ e.epoch
  pub chunks : (chunk : ℕ) → is_some (fin.get v.moving chunk) ≡ true → Leaves d e chunk
  pub unlisted : (chunk : ℕ) → is_member v.unplaced chunk ≡ true → is_listed d chunk ≡ false → is_listed e chunk ≡ false
  pub settled : (chunk : ℕ) → is_some (fin.get e.chunks chunk) ≡ true → WasSettled d e v chunk
  pub answered : StaysAnswered d v e v
  pub ordinary : v.is_preparing ≡ true → is_ordinary d.phase ≡ true → is_ordinary e.phase ≡ true

either_on : (a b c : Bool) → (a ≡ true → c ≡ true) → (a || b) ≡ true → (c || b) ≡ true
either_on true b c f h = ap (λ x. x || b) (f refl)
either_on false true true f h = refl
either_on false true false f h = refl
either_on false false c f h = absurd (false≢true h)

or_on : (a b c : Bool) → (b ≡ true → c ≡ true) → (a || b) ≡ true → (a || c) ≡ true
or_on true b c f h = refl
or_on false b c f h = f h

or_second : (a b : Bool) → b ≡ true → (a || b) ≡ true
or_second true b e = refl
or_second false b e = e

or_first : (a b : Bool) → a ≡ true → (a || b) ≡ true
or_first true b e = refl
or_first false b e = absurd (false≢true e)

-- one that is known is counted
known_counted : (a b c : Bool) → (a || b) ≡ true → (a || (b || c)) ≡ true
known_counted true b c h = refl
known_counted false true c h = refl
known_counted false false c h = absurd (false≢true h)

pub same_number : (a b : ℕ) → (a == b) ≡ true → a ≡ b
same_number a b e = grind (arith, nat_tests)

pub recorded : (d e : Durable) (v : Volatile) → Onto d e v → Stands d v → Stands e v
recorded d e v o h = record {
  kept = o.kept;
  counters = o.counters;
  asked = λ chunk asking has.
      (let a = h.asked chunk asking has in
      let l = o.chunks chunk (ap is_some has) in
      record {
        known = either_on (is_listed d chunk) (is_member v.unplaced chunk) (is_listed e chunk) l.listed a.known;
        handle = o.handles chunk a.handle;
        version = o.versions asking.stamp.version a.version;
        number = a.number;
        epoch = (let x = a.epoch in let y = o.epoch in omega arith);
        follows = l.follows asking.stamp a.follows;
        since = l.since asking.stamp a.since;
        told = a.told;
        wanted = a.wanted;
        leased = λ lease. l.listed (a.leased lease);
        purposed = a.purposed;
        made = λ none. a.made (l.none none);
        own = a.own;
        first = λ req call here. l.bare (a.first req call here);
        past = λ req call. or_on (is_pending v.pending req) (was_answered d v req) (was_answered e v req) (o.answered req) (a.past req call);
      });
  unplaced = λ chunk here. (let u = h.unplaced chunk here in (o.handles chunk u.0, o.unlisted chunk here u.1));
  counted = λ chunk some. by_settled chunk (o.settled chunk some);
  out = λ chunk here. (let u = h.out chunk here in (o.handles chunk u.0, u.1));
  apart = h.apart;
  calls = h.calls;
  preparing = λ p. (let q = h.preparing p in (o.ordinary p q.0, q.1));
}
  where
    by_settled : (chunk : ℕ) → WasSettled d e v chunk → (is_listed e chunk || (is_member v.unplaced chunk || is_member v.taken_out chunk)) ≡ true
    by_settled chunk (inl was) = either_on (is_listed d chunk) (is_member v.unplaced chunk || is_member v.taken_out chunk) (is_listed e chunk) was.1 (h.counted chunk was.0)
    by_settled chunk (inr known) = known_counted (is_listed e chunk) (is_member v.unplaced chunk) (is_member v.taken_out chunk) known

-- ---- calls that wait

-- what is asked for isn't asked for a call
abbrev pub NotAsked : Volatile → ReqId → Type 0
NotAsked v req = (chunk : ℕ) (asking : Asking) → fin.get v.moving chunk ≡ Some asking → is_call req asking.call ≡ false

pub same_back : (a b : ReqId) → same_call a b ≡ false → same_call b a ≡ false
same_back a b h = by_test (same_call b a) refl
  where
    by_test : (c : Bool) → same_call b a ≡ c → c ≡ false
    by_test true is = sym (same_self b) ∙ ap (λ x. same_call x b) (same_parts b a is) ∙ h
    by_test false is = refl

pub either_none : (a b : Bool) → (a || b) ≡ false → (a ≡ false) × (b ≡ false)
either_none true b h = absurd (true≢false h)
either_none false b h = (refl, h)

pub apart_parts : (p : Pending) (ps : List Pending) → are_apart (p ∷ ps) ≡ true → (is_pending ps p.req ≡ false) × (are_apart ps ≡ true)
apart_parts p ps h = by_test (is_pending ps p.req) h
  where
    by_test : (b : Bool) → (if b then false else are_apart ps) ≡ true → (b ≡ false) × (are_apart ps ≡ true)
    by_test true k = absurd (false≢true k)
    by_test false k = (refl, k)

are_apart_from : (p : Pending) (ps : List Pending) → is_pending ps p.req ≡ false → are_apart ps ≡ true → are_apart (p ∷ ps) ≡ true
are_apart_from p ps out rest = ap (λ b. if b then false else are_apart ps) out ∙ rest

apart_more : (ps : List Pending) (p : Pending) → are_apart ps ≡ true → is_pending ps p.req ≡ false → are_apart (ps ++ p ∷ []) ≡ true
apart_more [] p apart out = refl
apart_more (x ∷ ps) p apart out =
    let parts = apart_parts x ps apart in
    let none = either_none (same_call p.req x.req) (is_pending ps p.req) out in
    are_apart_from x (ps ++ p ∷ [])
    (list_any-append (λ (q : Pending). same_call x.req q.req) ps (p ∷ []) ∙ ap (λ b. b || (same_call x.req p.req || false)) parts.0 ∙ ap (λ b. b || false) (same_back p.req x.req none.0)) (apart_more ps p parts.1 none.1)

all_more : (P : Pending → Type 0) (ps : List Pending) (p : Pending) → AllByRecursion P ps → P p → AllByRecursion P (ps ++ p ∷ [])
all_more P [] p all one = (one, tt)
all_more P (x ∷ ps) p all one = (all.0, all_more P ps p all.1 one)

-- ---- changes

module _ (d : Durable) (v : Volatile) (h : Stands d v) where
  pub keep : (client : ClientId) (reply : KeptReply) → is_later (later (fin.get d.replies client) (fin.get v.replies client)) reply.number ≡ true → Stands d (changed v (changes.Keep client reply))
  keep client reply new = record {
    kept = h.kept;
    counters = h.counters;
    asked = λ chunk asking has.
        (let a = h.asked chunk asking has in
        record {
          known = a.known;
          handle = a.handle;
          version = a.version;
          number = a.number;
          epoch = a.epoch;
          follows = a.follows;
          since = a.since;
          told = a.told;
          wanted = a.wanted;
          leased = a.leased;
          purposed = a.purposed;
          made = a.made;
          own = a.own;
          first = a.first;
          past = λ req call.
              or_on (is_pending v.pending req) (was_answered d v req) (was_answered d (record v { replies = fin.insert v.replies client reply }) req) (kept_answers d v client reply new req) (a.past req call);
        });
    unplaced = h.unplaced;
    counted = h.counted;
    out = h.out;
    apart = h.apart;
    calls = h.calls;
    preparing = h.preparing;
  }

  -- the same asked in another volatile part, of which only what is asked for differs
  abbrev pub SoughtIn : fin.FinMap nat_cmp Asking → Type 0
  SoughtIn moving = (chunk : ℕ) (asking : Asking) → fin.get moving chunk ≡ Some asking → IsSought d v chunk asking

  with_moving : (moving : fin.FinMap nat_cmp Asking) → SoughtIn moving → Stands d (record v { moving = moving })
  with_moving moving all = record {
    kept = h.kept;
    counters = h.counters;
    asked = λ chunk asking has.
        (let a = all chunk asking has in
        record { known = a.known; handle = a.handle; version = a.version; number = a.number; epoch = a.epoch; follows = a.follows; since = a.since; told = a.told; wanted = a.wanted; leased = a.leased; purposed = a.purposed; made = a.made; own = a.own; first = a.first; past = a.past });
    unplaced = h.unplaced;
    counted = h.counted;
    out = h.out;
    apart = h.apart;
    calls = h.calls;
    preparing = h.preparing;
  }

  asking_is : {a b : Asking} → ◌≡◌ {A = Option Asking} (Some a) (Some b) → a ≡ b
  asking_is e = cc

  pub ask : (chunk : ℕ) (asking : Asking) → IsSought d v chunk asking → Stands d (changed v (changes.Ask chunk asking))
  ask chunk asking new = with_moving (fin.insert v.moving chunk asking) (λ q a has. by_key q a (eq_by_cmp nat_cmp q chunk) refl (sym (fin.get-insert nat_cmp_total v.moving chunk asking q) ∙ has))
    where
      by_key : (q : ℕ) (a : Asking) (b : Bool) → eq_by_cmp nat_cmp q chunk ≡ b → cond b (Some asking) (fin.get v.moving q) ≡ Some a → IsSought d v q a
      by_key q a true is e = subst (λ x. IsSought d v x a) (sym (same_key q chunk is)) (subst (IsSought d v chunk) (asking_is e) new)
      by_key q a false is e = h.asked q a e

  removed_was : (chunk q : ℕ) (a : Asking) → fin.get (fin.remove v.moving chunk) q ≡ Some a → fin.get v.moving q ≡ Some a
  removed_was chunk q a has = by_key (eq_by_cmp nat_cmp q chunk) (sym (fin.get-remove nat_cmp_total v.moving chunk q) ∙ has)
    where
      by_key : (b : Bool) → cond b None (fin.get v.moving q) ≡ Some a → fin.get v.moving q ≡ Some a
      by_key true e = absurd (false≢true (ap is_some e))
      by_key false e = e

  pub settled : (chunk : ℕ) → Stands d (changed v (changes.Settled chunk))
  settled chunk = with_moving (fin.remove v.moving chunk) (λ q a has. h.asked q a (removed_was chunk q a has))

  -- ---- chunks without a place

  member_more : (xs : List ℕ) (c q : ℕ) → is_member (xs ++ c ∷ []) q ≡ (is_member xs q || ((c == q) || false))
  member_more xs c q = list_any-append (λ m. m == q) xs (c ∷ [])

  pub enter : (chunk : ℕ) → is_given d.next_handle chunk ≡ true → is_listed d chunk ≡ false → is_member v.taken_out chunk ≡ false → fin.get v.moving chunk ≡ None → Stands d (changed v (changes.Enter chunk))
  enter chunk given unlisted in_it none = record {
    kept = h.kept;
    counters = h.counters;
    asked = λ q a has.
        (let s = h.asked q a has in
        record {
          known = or_on (is_listed d q) (is_member v.unplaced q) (is_member (v.unplaced ++ chunk ∷ []) q) (λ here. member_more v.unplaced chunk q ∙ or_first (is_member v.unplaced q) ((chunk == q) || false) here) s.known;
          handle = s.handle;
          version = s.version;
          number = s.number;
          epoch = s.epoch;
          follows = s.follows;
          since = s.since;
          told = s.told;
          wanted = s.wanted;
          leased = s.leased;
          purposed = s.purposed;
          made = s.made;
          past = s.past;
          own = λ r call here. s.own r call (was_there q (ap is_some has) (is_member v.unplaced q) refl (sym (member_more v.unplaced chunk q) ∙ here));
          first = λ r call here. s.first r call (was_there q (ap is_some has) (is_member v.unplaced q) refl (sym (member_more v.unplaced chunk q) ∙ here));
        });
    unplaced = λ q here. by_old q (is_member v.unplaced q) refl (sym (member_more v.unplaced chunk q) ∙ here);
    counted = λ q some. or_on (is_listed d q) (is_member v.unplaced q || is_member v.taken_out q) (is_member (v.unplaced ++ chunk ∷ []) q || is_member v.taken_out q)
        (either_on (is_member v.unplaced q) (is_member v.taken_out q) (is_member (v.unplaced ++ chunk ∷ []) q) (λ here. member_more v.unplaced chunk q ∙ or_first (is_member v.unplaced q) ((chunk == q) || false) here)) (h.counted q some);
    out = λ q here. (let u = h.out q here in (u.0, member_more v.unplaced chunk q ∙ ap (λ b. b || ((chunk == q) || false)) u.1 ∙ not_it q here (chunk == q) refl));
    apart = h.apart;
    calls = h.calls;
    preparing = h.preparing;
  }
    where
      not_it : (q : ℕ) → is_member v.taken_out q ≡ true → (b : Bool) → (chunk == q) ≡ b → (b || false) ≡ false
      not_it q here true is = absurd (false≢true (sym in_it ∙ ap (is_member v.taken_out) (same_number chunk q is) ∙ here))
      not_it q here false is = refl

      not_new : (q : ℕ) → is_some (fin.get v.moving q) ≡ true → (b : Bool) → (chunk == q) ≡ b → (b || false) ≡ true → ⊥
      not_new q some true is e = false≢true (sym (ap is_some none) ∙ ap (λ c. is_some (fin.get v.moving c)) (same_number chunk q is) ∙ some)
      not_new q some false is e = false≢true e

      was_there : (q : ℕ) → is_some (fin.get v.moving q) ≡ true → (b : Bool) → is_member v.unplaced q ≡ b → (b || ((chunk == q) || false)) ≡ true → b ≡ true
      was_there q some true is e = refl
      was_there q some false is e = absurd (not_new q some (chunk == q) refl e)

      by_new : (q : ℕ) (b : Bool) → (chunk == q) ≡ b → (b || false) ≡ true → (is_given d.next_handle q ≡ true) × (is_listed d q ≡ false)
      by_new q true is e = subst (λ x. (is_given d.next_handle x ≡ true) × (is_listed d x ≡ false)) (same_number chunk q is) (given, unlisted)
      by_new q false is e = absurd (false≢true e)

      by_old : (q : ℕ) (b : Bool) → is_member v.unplaced q ≡ b → (b || ((chunk == q) || false)) ≡ true → (is_given d.next_handle q ≡ true) × (is_listed d q ≡ false)
      by_old q true is e = h.unplaced q is
      by_old q false is e = by_new q (chunk == q) refl e

  member_less : (xs : List ℕ) (c q : ℕ) → is_member (without_handle xs c) q ≡ true → is_member xs q ≡ true
  member_less [] c q e = e
  member_less (x ∷ xs) c q e = by_test (not (x == c)) (member_less xs c q) e
    where
      by_test : (b : Bool) → (is_member (without_handle xs c) q ≡ true → is_member xs q ≡ true) → is_member (cond b (x ∷ without_handle xs c) (without_handle xs c)) q ≡ true → ((x == q) || is_member xs q) ≡ true
      by_test true rest k = or_on (x == q) (is_member (without_handle xs c) q) (is_member xs q) rest k
      by_test false rest k = or_second (x == q) (is_member xs q) (rest k)

  member_same : (xs : List ℕ) (c q : ℕ) → (q ≡ c → ⊥) → is_member xs q ≡ true → is_member (without_handle xs c) q ≡ true
  member_same [] c q other e = e
  member_same (x ∷ xs) c q other e = by_test (x == c) refl (x == q) refl (member_same xs c q other) e
    where
      by_test : (b : Bool) → (x == c) ≡ b → (t : Bool) → (x == q) ≡ t → (is_member xs q ≡ true → is_member (without_handle xs c) q ≡ true) → (t || is_member xs q) ≡ true → is_member (cond (not b) (x ∷ without_handle xs c) (without_handle xs c)) q ≡ true
      by_test true is true here rest k = absurd (other (sym (same_number x q here) ∙ same_number x c is))
      by_test true is false here rest k = rest k
      by_test false is true here rest k = or_first (x == q) (is_member (without_handle xs c) q) here
      by_test false is false here rest k = or_second (x == q) (is_member (without_handle xs c) q) (rest k)

  pub member_gone : (xs : List ℕ) (c : ℕ) → is_member (without_handle xs c) c ≡ false
  member_gone [] c = refl
  member_gone (x ∷ xs) c = by_test (x == c) refl (member_gone xs c)
    where
      by_test : (b : Bool) → (x == c) ≡ b → is_member (without_handle xs c) c ≡ false → is_member (cond (not b) (x ∷ without_handle xs c) (without_handle xs c)) c ≡ false
      by_test true is rest = rest
      by_test false is rest = ap (λ b. b || is_member (without_handle xs c) c) is ∙ rest

  -- a chunk is without a place no more, and these are out
  put_elsewhere : (chunk : ℕ) → fin.get v.moving chunk ≡ None → (outs : List ℕ) → ((q : ℕ) → is_some (fin.get d.chunks q) ≡ true → (is_listed d q || (is_member (without_handle v.unplaced chunk) q || is_member outs q)) ≡ true)
      → ((q : ℕ) → is_member outs q ≡ true → (is_given d.next_handle q ≡ true) × (is_member (without_handle v.unplaced chunk) q ≡ false)) → Stands d (record v { unplaced = without_handle v.unplaced chunk; taken_out = outs })
  put_elsewhere chunk none outs counted out = record {
    kept = h.kept;
    counters = h.counters;
    asked = λ q a has.
        (let s = h.asked q a has in
        record {
          known = or_on (is_listed d q) (is_member v.unplaced q) (is_member (without_handle v.unplaced chunk) q)
              (member_same v.unplaced chunk q (λ same. absurd (false≢true (sym (ap is_some none) ∙ ap (λ c. is_some (fin.get v.moving c)) (sym same) ∙ ap is_some has)))) s.known;
          handle = s.handle;
          version = s.version;
          number = s.number;
          epoch = s.epoch;
          follows = s.follows;
          since = s.since;
          told = s.told;
          wanted = s.wanted;
          leased = s.leased;
          purposed = s.purposed;
          made = s.made;
          past = s.past;
          own = λ r call here. s.own r call (member_less v.unplaced chunk q here);
          first = λ r call here. s.first r call (member_less v.unplaced chunk q here);
        });
    unplaced = λ q here. h.unplaced q (member_less v.unplaced chunk q here);
    counted = counted;
    out = out;
    apart = h.apart;
    calls = h.calls;
    preparing = h.preparing;
  }

  -- one that isn't settled is without a place no more
  place : (chunk : ℕ) → fin.get d.chunks chunk ≡ None → fin.get v.moving chunk ≡ None → Stands d (changed v (changes.Place chunk))
  place chunk bare none = put_elsewhere chunk none v.taken_out (λ q some. by_chunk q some (chunk == q) refl) (λ q here. (let u = h.out q here in (u.0, less_out q u.1)))
    where
      counted_still : (q : ℕ) → (chunk == q) ≡ false → (is_listed d q || (is_member v.unplaced q || is_member v.taken_out q)) ≡ true → (is_listed d q || (is_member (without_handle v.unplaced chunk) q || is_member v.taken_out q)) ≡ true
      counted_still q other k = or_on (is_listed d q) (is_member v.unplaced q || is_member v.taken_out q) (is_member (without_handle v.unplaced chunk) q || is_member v.taken_out q)
          (either_on (is_member v.unplaced q) (is_member v.taken_out q) (is_member (without_handle v.unplaced chunk) q) (member_same v.unplaced chunk q (λ same. absurd (false≢true (sym other ∙ ap (λ c. c == q) (sym same) ∙ eqb_itself q))))) k

      by_chunk : (q : ℕ) → is_some (fin.get d.chunks q) ≡ true → (b : Bool) → (chunk == q) ≡ b → (is_listed d q || (is_member (without_handle v.unplaced chunk) q || is_member v.taken_out q)) ≡ true
      by_chunk q some true is = absurd (false≢true (sym (ap is_some bare) ∙ ap (λ c. is_some (fin.get d.chunks c)) (same_number chunk q is) ∙ some))
      by_chunk q some false is = counted_still q is (h.counted q some)

      less_out : (q : ℕ) → is_member v.unplaced q ≡ false → is_member (without_handle v.unplaced chunk) q ≡ false
      less_out q no_member = by_test (is_member (without_handle v.unplaced chunk) q) refl
        where
          by_test : (b : Bool) → is_member (without_handle v.unplaced chunk) q ≡ b → b ≡ false
          by_test true is = absurd (false≢true (sym no_member ∙ member_less v.unplaced chunk q is))
          by_test false is = refl

  -- one that gets its place in the record that follows is out as long
  pub put_out : (chunk : ℕ) → is_given d.next_handle chunk ≡ true → fin.get v.moving chunk ≡ None → Stands d (record v { unplaced = without_handle v.unplaced chunk; taken_out = chunk ∷ v.taken_out })
  put_out chunk given none = put_elsewhere chunk none (chunk ∷ v.taken_out) (λ q some. counted_out q (chunk == q) refl (h.counted q some)) (λ q here. by_out q (chunk == q) refl here)
    where
      counted_out : (q : ℕ) (b : Bool) → (chunk == q) ≡ b → (is_listed d q || (is_member v.unplaced q || is_member v.taken_out q)) ≡ true → (is_listed d q || (is_member (without_handle v.unplaced chunk) q || (b || is_member v.taken_out q))) ≡ true
      counted_out q true is k = or_second (is_listed d q) (is_member (without_handle v.unplaced chunk) q || true) (or_second (is_member (without_handle v.unplaced chunk) q) true refl)
      counted_out q false is k = or_on (is_listed d q) (is_member v.unplaced q || is_member v.taken_out q) (is_member (without_handle v.unplaced chunk) q || is_member v.taken_out q)
          (either_on (is_member v.unplaced q) (is_member v.taken_out q) (is_member (without_handle v.unplaced chunk) q) (member_same v.unplaced chunk q (λ same. absurd (false≢true (sym is ∙ ap (λ c. c == q) (sym same) ∙ eqb_itself q))))) k

      by_test : (q : ℕ) → is_member v.unplaced q ≡ false → (b : Bool) → is_member (without_handle v.unplaced chunk) q ≡ b → b ≡ false
      by_test q no_member true is = absurd (false≢true (sym no_member ∙ member_less v.unplaced chunk q is))
      by_test q no_member false is = refl

      by_out : (q : ℕ) (b : Bool) → (chunk == q) ≡ b → (b || is_member v.taken_out q) ≡ true → (is_given d.next_handle q ≡ true) × (is_member (without_handle v.unplaced chunk) q ≡ false)
      by_out q true is here = subst (λ x. (is_given d.next_handle x ≡ true) × (is_member (without_handle v.unplaced chunk) x ≡ false)) (same_number chunk q is) (given, member_gone v.unplaced chunk)
      by_out q false is here = let u = h.out q here in (u.0, by_test q u.1 (is_member (without_handle v.unplaced chunk) q) refl)

  -- fewer are out, where each settled chunk is counted still
  pub fewer_out : (outs : List ℕ) → ((q : ℕ) → is_member outs q ≡ true → is_member v.taken_out q ≡ true) → ((q : ℕ) → is_some (fin.get d.chunks q) ≡ true → (is_listed d q || (is_member v.unplaced q || is_member outs q)) ≡ true) → Stands d (record v { taken_out = outs })
  fewer_out outs fewer counted = record {
    kept = h.kept;
    counters = h.counters;
    asked = λ q a has. again q a (h.asked q a has);
    unplaced = h.unplaced;
    counted = counted;
    out = λ q here. h.out q (fewer q here);
    apart = h.apart;
    calls = h.calls;
    preparing = h.preparing;
  }
    where
      again : (q : ℕ) (a : Asking) → IsSought d v q a → IsSought d (record v { taken_out = outs }) q a
      again q a s = record { known = s.known; handle = s.handle; version = s.version; number = s.number; epoch = s.epoch; follows = s.follows; since = s.since; told = s.told; wanted = s.wanted; leased = s.leased; purposed = s.purposed; made = s.made; own = s.own; first = s.first; past = s.past }

  all_removed_was : (chunks : List ℕ) (m : fin.FinMap nat_cmp Asking) (q : ℕ) (a : Asking) → fin.get (fold fin.remove m chunks) q ≡ Some a → fin.get m q ≡ Some a
  all_removed_was [] m q a has = has
  all_removed_was (c ∷ chunks) m q a has = by_key (eq_by_cmp nat_cmp q c) (sym (fin.get-remove nat_cmp_total m c q) ∙ all_removed_was chunks (fin.remove m c) q a has)
    where
      by_key : (b : Bool) → cond b None (fin.get m q) ≡ Some a → fin.get m q ≡ Some a
      by_key true e = absurd (false≢true (ap is_some e))
      by_key false e = e

  pub forget : (chunks : List ℕ) → Stands d (changed v (changes.Forget chunks))
  forget chunks = with_moving (fold fin.remove v.moving chunks) (λ q a has. h.asked q a (all_removed_was chunks v.moving q a has))

  -- ---- calls

  by_its_call : {P : Type 0} (call : Option ReqId) (req : ReqId) → ((r : ReqId) → call ≡ Some r → same_call req r ≡ true → P) → (b : Bool) → is_call req call ≡ b → (b ≡ false → P) → P
  by_its_call None req f true is g = absurd (false≢true is)
  by_its_call (Some r) req f true is g = f r refl is
  by_its_call call req f false is g = g refl

  -- no chunk is asked for a call that neither waits nor was answered
  pub fresh_call : (req : ReqId) → is_pending v.pending req ≡ false → was_answered d v req ≡ false → NotAsked v req
  fresh_call req out new chunk asking has =
      by_its_call asking.call req
      (λ r is same. (let e = same_parts req r same in
      absurd (false≢true (sym (ap (λ b. b || was_answered d v req) out ∙ new) ∙ ap (λ x. is_pending v.pending x || was_answered d v x) e ∙ (h.asked chunk asking has).past r is))))
      (is_call req asking.call) refl (λ is. is)

  not_true : (b : Bool) → b ≡ false → (not b || true) ≡ true
  not_true true e = refl
  not_true false e = refl

  or_left_true : (b c : Bool) → b ≡ false → (not b || c) ≡ true
  or_left_true true c e = absurd (true≢false e)
  or_left_true false c e = refl

  pub begin : (p : Pending) → CanWait p → is_pending v.pending p.req ≡ false → NotAsked v p.req → v.is_preparing ≡ false → Stands d (changed v (changes.Begin p))
  begin p can out none still = record {
    kept = h.kept;
    counters = h.counters;
    asked = λ q a has.
        (let s = h.asked q a has in
        record {
          known = s.known;
          handle = s.handle;
          version = s.version;
          number = s.number;
          epoch = s.epoch;
          follows = s.follows;
          since = s.since;
          told = s.told;
          wanted = list_all-append (λ (x : Pending). not (is_call x.req a.call) || may_wait_for q x.waits) v.pending (p ∷ [])
              ∙ both_true (list_all (λ (x : Pending). not (is_call x.req a.call) || may_wait_for q x.waits) v.pending) ((not (is_call p.req a.call) || may_wait_for q p.waits) && true) s.wanted
              (both_true (not (is_call p.req a.call) || may_wait_for q p.waits) true (or_left_true (is_call p.req a.call) (may_wait_for q p.waits) (none q a has)) refl);
          leased = s.leased;
          purposed = list_all-append (λ (x : Pending). not (is_call x.req a.call) || may_ask a.purpose x.waits) v.pending (p ∷ [])
              ∙ both_true (list_all (λ (x : Pending). not (is_call x.req a.call) || may_ask a.purpose x.waits) v.pending) ((not (is_call p.req a.call) || may_ask a.purpose p.waits) && true) s.purposed
              (both_true (not (is_call p.req a.call) || may_ask a.purpose p.waits) true (or_left_true (is_call p.req a.call) (may_ask a.purpose p.waits) (none q a has)) refl);
          made = λ new. list_any-append (λ (x : Pending). is_call x.req a.call && makes q x.waits) v.pending (p ∷ []) ∙ or_first (is_waited_by a.call (makes q) v.pending) ((is_call p.req a.call && makes q p.waits) || false) (s.made new);
          first = s.first;
          own = λ r call here. list_any-append (λ (x : Pending). is_call x.req a.call && makes q x.waits) v.pending (p ∷ []) ∙ or_first (is_waited_by a.call (makes q) v.pending) ((is_call p.req a.call && makes q p.waits) || false) (s.own r call here);
          past = λ req call.
              either_on (is_pending v.pending req) (was_answered d v req) (is_pending (v.pending ++ p ∷ []) req)
              (λ here. list_any-append (λ (x : Pending). same_call req x.req) v.pending (p ∷ []) ∙ or_first (is_pending v.pending req) (same_call req p.req || false) here) (s.past req call);
        });
    unplaced = h.unplaced;
    counted = h.counted;
    out = h.out;
    apart = apart_more v.pending p h.apart out;
    calls = all_more CanWait v.pending p h.calls can;
    preparing = λ now. absurd (false≢true (sym still ∙ now));
  }

  pub prepare : (b : Bool) → (b ≡ true → (is_ordinary d.phase ≡ true) × (v.pending ≡ [])) → Stands d (changed v (changes.Prepare b))
  prepare b now = record { kept = h.kept; counters = h.counters; asked = λ q a has. again q a (h.asked q a has); unplaced = h.unplaced; counted = h.counted; out = h.out; apart = h.apart; calls = h.calls; preparing = now }
    where
      again : (q : ℕ) (a : Asking) → IsSought d v q a → IsSought d (record v { is_preparing = b }) q a
      again q a s = record { known = s.known; handle = s.handle; version = s.version; number = s.number; epoch = s.epoch; follows = s.follows; since = s.since; told = s.told; wanted = s.wanted; leased = s.leased; purposed = s.purposed; made = s.made; own = s.own; first = s.first; past = s.past }

  pub restored : (server : ℕ) (chunks : List ℕ) → Stands d (changed v (changes.Restored server chunks))
  restored server chunks = record { kept = h.kept; counters = h.counters; asked = λ q a has. again q a (h.asked q a has); unplaced = h.unplaced; counted = h.counted; out = h.out; apart = h.apart; calls = h.calls; preparing = h.preparing }
    where
      again : (q : ℕ) (a : Asking) → IsSought d v q a → IsSought d (changed v (changes.Restored server chunks)) q a
      again q a s = record { known = s.known; handle = s.handle; version = s.version; number = s.number; epoch = s.epoch; follows = s.follows; since = s.since; told = s.told; wanted = s.wanted; leased = s.leased; purposed = s.purposed; made = s.made; own = s.own; first = s.first; past = s.past }

-- Nothing is asked any more, and no chunk is new. Those that were are out, until the record that follows.
pub rolled : (d : Durable) (v : Volatile) → Stands d v → Stands d (record (changed v changes.RolledBack) { taken_out = v.unplaced ++ v.taken_out })
rolled d v h = record {
  kept = h.kept;
  counters = h.counters;
  asked = λ chunk asking has. absurd (false≢true (sym (ap is_some (fin.get-empty nat_cmp chunk)) ∙ ap is_some has));
  unplaced = λ chunk here. absurd (false≢true here);
  counted = λ chunk some. ap (λ b. is_listed d chunk || b) (list_any-append (λ m. m == chunk) v.unplaced v.taken_out) ∙ h.counted chunk some;
  out = λ chunk here. (by_either chunk (is_member v.unplaced chunk) refl (sym (list_any-append (λ m. m == chunk) v.unplaced v.taken_out) ∙ here), refl);
  apart = h.apart;
  calls = h.calls;
  preparing = h.preparing;
}
  where
    by_either : (chunk : ℕ) (b : Bool) → is_member v.unplaced chunk ≡ b → (b || is_member v.taken_out chunk) ≡ true → is_given d.next_handle chunk ≡ true
    by_either chunk true is k = (h.unplaced chunk is).0
    by_either chunk false is k = (h.out chunk k).0

-- ---- a call ends

-- a new chunk that isn't settled
pub lose : (d : Durable) (v : Volatile) (h : Stands d v) (chunk : ℕ) → fin.get d.chunks chunk ≡ None → Stands d (changed v (changes.Lose chunk))
lose d v h chunk bare =
    place d (changed v (changes.Settled chunk)) (settled d v h chunk) chunk bare
    (fin.get-remove nat_cmp_total v.moving chunk chunk ∙ ap (λ o. cond (is_eq o) None (fin.get v.moving chunk)) (tied_itself nat_cmp_total chunk))

module _ (req : ReqId) where
  kept_all : (f : Pending → Bool) (ps : List Pending) → list_all f ps ≡ true → list_all f (without_pending ps req) ≡ true
  kept_all f [] all = refl
  kept_all f (p ∷ ps) all = let parts = and_parts (f p) (list_all f ps) all in by_test (not (same_call req p.req)) parts.0 (kept_all f ps parts.1)
    where
      by_test : (b : Bool) → f p ≡ true → list_all f (without_pending ps req) ≡ true → list_all f (cond b (p ∷ without_pending ps req) (without_pending ps req)) ≡ true
      by_test true here rest = both_true (f p) (list_all f (without_pending ps req)) here rest
      by_test false here rest = rest

  kept_each : (P : Pending → Type 0) (ps : List Pending) → AllByRecursion P ps → AllByRecursion P (without_pending ps req)
  kept_each P [] all = tt
  kept_each P (p ∷ ps) all = by_test (not (same_call req p.req)) (kept_each P ps all.1)
    where
      by_test : (b : Bool) → AllByRecursion P (without_pending ps req) → AllByRecursion P (cond b (p ∷ without_pending ps req) (without_pending ps req))
      by_test true rest = (all.0, rest)
      by_test false rest = rest

  -- other calls wait as they did
  pub others_wait : (q : ReqId) (f : Waiting → Bool) (ps : List Pending) → same_call req q ≡ false → is_waited_by (Some q) f (without_pending ps req) ≡ is_waited_by (Some q) f ps
  others_wait q f [] other = refl
  others_wait q f (p ∷ ps) other = by_test (same_call req p.req) refl (others_wait q f ps other)
    where
      by_test : (b : Bool) → same_call req p.req ≡ b → is_waited_by (Some q) f (without_pending ps req) ≡ is_waited_by (Some q) f ps
          → is_waited_by (Some q) f (cond (not b) (p ∷ without_pending ps req) (without_pending ps req)) ≡ ((same_call p.req q && f p.waits) || is_waited_by (Some q) f ps)
      by_test true is rest = rest ∙ ap (λ b. (b && f p.waits) || is_waited_by (Some q) f ps) (sym (ap (λ x. same_call x q) (sym (same_parts req p.req is)) ∙ other))
      by_test false is rest = ap (λ b. (same_call p.req q && f p.waits) || b) rest

  others_pending : (q : ReqId) (ps : List Pending) → same_call req q ≡ false → is_pending (without_pending ps req) q ≡ is_pending ps q
  others_pending q [] other = refl
  others_pending q (p ∷ ps) other = by_test (same_call req p.req) refl (others_pending q ps other)
    where
      by_test : (b : Bool) → same_call req p.req ≡ b → is_pending (without_pending ps req) q ≡ is_pending ps q → is_pending (cond (not b) (p ∷ without_pending ps req) (without_pending ps req)) q ≡ (same_call q p.req || is_pending ps q)
      by_test true is rest = rest ∙ ap (λ b. b || is_pending ps q) (sym (ap (same_call q) (sym (same_parts req p.req is)) ∙ same_back req q other))
      by_test false is rest = ap (λ b. same_call q p.req || b) rest

  fewer_pending : (q : ReqId) (ps : List Pending) → is_pending ps q ≡ false → is_pending (without_pending ps req) q ≡ false
  fewer_pending q [] out = refl
  fewer_pending q (p ∷ ps) out = let none = either_none (same_call q p.req) (is_pending ps q) out in by_test (not (same_call req p.req)) none.0 (fewer_pending q ps none.1)
    where
      by_test : (b : Bool) → same_call q p.req ≡ false → is_pending (without_pending ps req) q ≡ false → is_pending (cond b (p ∷ without_pending ps req) (without_pending ps req)) q ≡ false
      by_test true here rest = ap (λ b. b || is_pending (without_pending ps req) q) here ∙ rest
      by_test false here rest = rest

  fewer_apart : (ps : List Pending) → are_apart ps ≡ true → are_apart (without_pending ps req) ≡ true
  fewer_apart [] apart = refl
  fewer_apart (p ∷ ps) apart = let parts = apart_parts p ps apart in by_test (not (same_call req p.req)) (fewer_pending p.req ps parts.0) (fewer_apart ps parts.1)
    where
      by_test : (b : Bool) → is_pending (without_pending ps req) p.req ≡ false → are_apart (without_pending ps req) ≡ true → are_apart (cond b (p ∷ without_pending ps req) (without_pending ps req)) ≡ true
      by_test true out rest = are_apart_from p (without_pending ps req) out rest
      by_test false out rest = rest

  -- a call ends, and was answered, where something is asked for it still
  abbrev pub MayEnd : Durable → Volatile → Type 0
  MayEnd d v = (chunk : ℕ) (asking : Asking) → fin.get v.moving chunk ≡ Some asking → is_call req asking.call ≡ true → (was_answered d v req ≡ true) × ((is_some (fin.get d.chunks chunk) ≡ true) × (is_member v.unplaced chunk ≡ false))

  pub end : (d : Durable) (v : Volatile) → Stands d v → MayEnd d v → Stands d (changed v (changes.End req))
  end d v h may = record {
    kept = h.kept;
    counters = h.counters;
    asked = λ q a has.
        (let s = h.asked q a has in
        record {
          known = s.known;
          handle = s.handle;
          version = s.version;
          number = s.number;
          epoch = s.epoch;
          follows = s.follows;
          since = s.since;
          told = s.told;
          wanted = kept_all (λ (p : Pending). not (is_call p.req a.call) || may_wait_for q p.waits) v.pending s.wanted;
          leased = s.leased;
          purposed = kept_all (λ (p : Pending). not (is_call p.req a.call) || may_ask a.purpose p.waits) v.pending s.purposed;
          first = s.first;
          made = λ new. made_still q a (λ out. absurd (false≢true (sym (ap is_some new) ∙ (may q a has out).1.0))) a.call refl (s.made new);
          own = λ r call here. made_still q a (λ out. absurd (false≢true (sym (may q a has out).1.1 ∙ here))) a.call refl (s.own r call here);
          past = λ r call. past_still q a has r call (same_call req r) refl (s.past r call);
        });
    unplaced = h.unplaced;
    counted = h.counted;
    out = h.out;
    apart = fewer_apart v.pending h.apart;
    calls = kept_each CanWait v.pending h.calls;
    preparing = λ p. (let q = h.preparing p in (q.0, ap (λ ps. without_pending ps req) q.1));
  }
    where
      made_still : (q : ℕ) (a : Asking) → (is_call req a.call ≡ true → ⊥) → (call : Option ReqId) → a.call ≡ call → is_waited_by a.call (makes q) v.pending ≡ true → is_waited_by a.call (makes q) (without_pending v.pending req) ≡ true
      made_still q a other None call made = absurd (false≢true (sym (nobody v.pending) ∙ ap (λ c. is_waited_by c (makes q) v.pending) (sym call) ∙ made))
        where
          nobody : (ps : List Pending) → is_waited_by None (makes q) ps ≡ false
          nobody [] = refl
          nobody (p ∷ ps) = nobody ps
      made_still q a other (Some r) call made = by_call (same_call req r) refl
        where
          by_call : (b : Bool) → same_call req r ≡ b → is_waited_by a.call (makes q) (without_pending v.pending req) ≡ true
          by_call true is = absurd (other (ap (is_call req) call ∙ is))
          by_call false is =
              ap (λ c. is_waited_by c (makes q) (without_pending v.pending req)) call ∙ others_wait r (makes q) v.pending is ∙ ap (λ c. is_waited_by c (makes q) v.pending) (sym call) ∙ made

      past_still : (q : ℕ) (a : Asking) → fin.get v.moving q ≡ Some a → (r : ReqId) → a.call ≡ Some r → (b : Bool) → same_call req r ≡ b → (is_pending v.pending r || was_answered d v r) ≡ true → (is_pending (without_pending v.pending req) r || was_answered d v r) ≡ true
      past_still q a has r call true is past =
          or_second (is_pending (without_pending v.pending req) r) (was_answered d v r) (ap (was_answered d v) (sym (same_parts req r is)) ∙ (may q a has (ap (is_call req) call ∙ is)).0)
      past_still q a has r call false is past = ap (λ b. b || was_answered d v r) (others_pending r v.pending is) ∙ past

-- ---- what is asked for a call that ends is let go

-- what goes on by itself
record Free (d : Durable) (chunk : ℕ) (a : Asking) : Type 0 where
  listed : is_listed d chunk ≡ true
  settled : is_some (fin.get d.chunks chunk) ≡ true
  handle : is_given d.next_handle chunk ≡ true
  version : is_given d.next_version a.stamp.version ≡ true
  number : IsNumber a.stamp.version
  epoch : a.stamp.epoch ≤ d.epoch
  follows : follows_view (fin.get d.chunks chunk) a.stamp ≡ true
  since : is_since (upgrade_epoch d.phase d.epoch) (fin.get d.chunks chunk) a.stamp ≡ true
  told : AllByRecursion IsToldCount a.answers.counts

free_of : (d : Durable) (v : Volatile) → Stands d v → (chunk : ℕ) (a : Asking) → fin.get v.moving chunk ≡ Some a → is_member v.unplaced chunk ≡ false → Free d chunk a
free_of d v h chunk a has placed =
    let s = h.asked chunk a has in
    let listed = only_left (is_listed d chunk) (is_member v.unplaced chunk) placed s.known in
    record { listed = listed; settled = h.kept.settled chunk listed; handle = s.handle; version = s.version; number = s.number; epoch = s.epoch; follows = s.follows; since = s.since; told = s.told }
  where
    only_left : (a b : Bool) → b ≡ false → (a || b) ≡ true → a ≡ true
    only_left true b e k = refl
    only_left false b e k = absurd (false≢true (sym e ∙ k))

no_call : (f : Waiting → Bool) (pending : List Pending) → list_all (λ (p : Pending). not (is_call p.req None) || f p.waits) pending ≡ true
no_call f [] = refl
no_call f (p ∷ pending) = no_call f pending

free_sought : (d : Durable) (w : Volatile) (chunk : ℕ) (a : Asking) → Free d chunk a → IsSought d w chunk (without_call a)
free_sought d w chunk a f = record {
  known = or_first (is_listed d chunk) (is_member w.unplaced chunk) f.listed;
  handle = f.handle;
  version = f.version;
  number = f.number;
  epoch = f.epoch;
  follows = f.follows;
  since = f.since;
  told = f.told;
  wanted = no_call (may_wait_for chunk) w.pending;
  leased = λ lease. f.listed;
  purposed = no_call (may_ask a.purpose) w.pending;
  made = λ none. absurd (false≢true (sym (ap is_some none) ∙ f.settled));
  own = λ req call here. absurd (false≢true (ap is_some call));
  first = λ req call here. absurd (false≢true (ap is_some call));
  past = λ req call. absurd (false≢true (ap is_some call));
}

pub changed_more : (xs ys : List Change) (w : Volatile) → all_changed w (xs ++ ys) ≡ all_changed (all_changed w xs) ys
changed_more [] ys w = refl
changed_more (x ∷ xs) ys w = changed_more xs ys (changed w x)

asking_same : {a b : Asking} → ◌≡◌ {A = Option Asking} (Some a) (Some b) → a ≡ b
asking_same e = cc

module _ (req : ReqId) (d : Durable) (new : List ℕ) where
  record Loosed (es : List (ℕ × Asking)) (w x : Volatile) : Type 0 where
    stands : Stands d x
    pending : x.pending ≡ w.pending
    preparing : x.is_preparing ≡ w.is_preparing
    fewer : (q : ReqId) (c : ℕ) (a : Asking) → fin.get x.moving c ≡ Some a → is_call q a.call ≡ true → fin.get w.moving c ≡ Some a
    placed : AllByRecursion (λ e. is_call req e.1.call ≡ true → is_member new e.0 ≡ false) es → x.unplaced ≡ w.unplaced
    bare : (c : ℕ) → AllByRecursion (λ e. eq_by_cmp nat_cmp c e.0 ≡ false) es → fin.get w.moving c ≡ None → fin.get x.moving c ≡ None
    gone : ((c : ℕ) (a : Asking) → fin.get w.moving c ≡ Some a → is_call req a.call ≡ true → fin.find nat_cmp c es ≡ Some a) → NotAsked x req

  abbrev MayGo : ℕ → Asking → Type 0
  MayGo chunk a = (is_member new chunk ≡ false → Free d chunk a) × (is_member new chunk ≡ true → is_call req a.call ≡ true → fin.get d.chunks chunk ≡ None)

  loosed : (es : List (ℕ × Asking)) → AllByRecursion (λ e. MayGo e.0 e.1) es → (w : Volatile) → Stands d w → Loosed es w (all_changed w (flat_map (let_go_of new req) es))
  loosed [] all w h = record {
    stands = h;
    pending = refl;
    preparing = refl;
    fewer = λ q c a has call. has;
    placed = λ out. refl;
    bare = λ c others none. none;
    gone = λ f c a has. none_found (is_call req a.call) refl (λ call. f c a has call);
  }
    where
      none_found : {a : Asking} (b : Bool) → is_call req a.call ≡ b → (is_call req a.call ≡ true → ◌≡◌ {A = Option Asking} None (Some a)) → b ≡ false
      none_found true is f = absurd (false≢true (ap is_some (f is)))
      none_found false is f = refl
  loosed (e ∷ es) all w h = by_call (λ x k. loosed es all.1 x k) (is_call req e.1.call) refl
    where
      Rest : Type 0
      Rest = (x : Volatile) → Stands d x → Loosed es x (all_changed x (flat_map (let_go_of new req) es))

      still : (c : ℕ) (a : Asking) (b : Bool) → (b ≡ true → ⊥) → cond b (Some e.1) (fin.find nat_cmp c es) ≡ Some a → fin.find nat_cmp c es ≡ Some a
      still c a true other e = absurd (other refl)
      still c a false other e = e

      by_new : Rest → is_call req e.1.call ≡ true → (b : Bool) → is_member new e.0 ≡ b → Loosed (e ∷ es) w (all_changed w ((if b then changes.Lose e.0 ∷ [] else changes.Ask e.0 (without_call e.1) ∷ []) ++ flat_map (let_go_of new req) es))
      by_new more own true is =
          let rest = more (changed w (changes.Lose e.0)) (lose d w h e.0 (all.0.1 is own)) in
          record {
            stands = rest.stands;
            pending = rest.pending;
            preparing = rest.preparing;
            fewer = λ q c a has call. was c a (eq_by_cmp nat_cmp c e.0) (sym (fin.get-remove nat_cmp_total w.moving e.0 c) ∙ rest.fewer q c a has call);
            placed = λ out. absurd (false≢true (sym (out.0 own) ∙ is));
            bare = λ c others none. rest.bare c others.1 (fin.get-remove nat_cmp_total w.moving e.0 c ∙ ap (λ t. cond t None (fin.get w.moving c)) others.0 ∙ none);
            gone = λ f. rest.gone (λ c a has call. later c a has (f c a (was c a (eq_by_cmp nat_cmp c e.0) (sym (fin.get-remove nat_cmp_total w.moving e.0 c) ∙ has)) call));
          }
        where
          was : (c : ℕ) (a : Asking) (b : Bool) → cond b None (fin.get w.moving c) ≡ Some a → fin.get w.moving c ≡ Some a
          was c a true k = absurd (false≢true (ap is_some k))
          was c a false k = k

          later : (c : ℕ) (a : Asking) → fin.get (fin.remove w.moving e.0) c ≡ Some a → fin.find nat_cmp c (e ∷ es) ≡ Some a → fin.find nat_cmp c es ≡ Some a
          later c a has k = still c a (eq_by_cmp nat_cmp c e.0) (λ tied. false≢true (sym (ap (λ b. is_some (cond b None (fin.get w.moving c))) tied) ∙ ap is_some (sym (fin.get-remove nat_cmp_total w.moving e.0 c) ∙ has))) k
      by_new more own false is =
          let rest = more (changed w (changes.Ask e.0 (without_call e.1))) (ask d w h e.0 (without_call e.1) (free_sought d w e.0 e.1 (all.0.0 is))) in
          record {
            stands = rest.stands;
            pending = rest.pending;
            preparing = rest.preparing;
            fewer = λ q c a has call. (was q c a call (eq_by_cmp nat_cmp c e.0) (sym (fin.get-insert nat_cmp_total w.moving e.0 (without_call e.1) c) ∙ rest.fewer q c a has call)).1;
            placed = λ out. rest.placed out.1;
            bare = λ c others none. rest.bare c others.1 (fin.get-insert nat_cmp_total w.moving e.0 (without_call e.1) c ∙ ap (λ t. cond t (Some (without_call e.1)) (fin.get w.moving c)) others.0 ∙ none);
            gone = λ f. rest.gone (λ c a has call. (let k = was req c a call (eq_by_cmp nat_cmp c e.0) (sym (fin.get-insert nat_cmp_total w.moving e.0 (without_call e.1) c) ∙ has) in still c a (eq_by_cmp nat_cmp c e.0) (λ tied. true≢false (sym tied ∙ k.0)) (f c a k.1 call)));
          }
        where
          was : (q : ReqId) (c : ℕ) (a : Asking) → is_call q a.call ≡ true → (b : Bool) → cond b (Some (without_call e.1)) (fin.get w.moving c) ≡ Some a → (b ≡ false) × (fin.get w.moving c ≡ Some a)
          was q c a call true k = absurd (false≢true (ap (λ (x : Asking). is_call q x.call) (asking_same k) ∙ call))
          was q c a call false k = (refl, k)

      by_call : Rest → (b : Bool) → is_call req e.1.call ≡ b → Loosed (e ∷ es) w (all_changed w ((if not b then [] else if is_member new e.0 then changes.Lose e.0 ∷ [] else changes.Ask e.0 (without_call e.1) ∷ []) ++ flat_map (let_go_of new req) es))
      by_call more true own = by_new more own (is_member new e.0) refl
      by_call more false own =
          let rest = more w h in
          record {
            stands = rest.stands;
            pending = rest.pending;
            preparing = rest.preparing;
            fewer = rest.fewer;
            placed = λ out. rest.placed out.1;
            bare = λ c others none. rest.bare c others.1 none;
            gone = λ f. rest.gone (λ c a has call. still c a (eq_by_cmp nat_cmp c e.0) (λ tied. true≢false (sym call ∙ ap (λ (x : Asking). is_call req x.call) (sym (asking_same (sym (ap (λ b. cond b (Some e.1) (fin.find nat_cmp c es)) tied) ∙ f c a has call))) ∙ own)) (f c a has call));
          }

-- a call that is given up
pub record IsEnded (req : ReqId) (d : Durable) (w x : Volatile) : Type 0 where
  pub stands : Stands d x
  pub pending : x.pending ≡ without_pending w.pending req
  pub preparing : x.is_preparing ≡ w.is_preparing
  pub placed : ((c : ℕ) (a : Asking) → fin.get w.moving c ≡ Some a → is_call req a.call ≡ true → is_member w.unplaced c ≡ false) → x.unplaced ≡ w.unplaced
  pub bare : (c : ℕ) → fin.get w.moving c ≡ None → fin.get x.moving c ≡ None
  pub fewer : (q : ReqId) → NotAsked w q → NotAsked x q
  pub none : NotAsked x req

pub ends : (req : ReqId) (d : Durable) (w : Volatile) → Stands d w → IsEnded req d w (all_changed w (let_go w req ++ changes.End req ∷ []))
ends req d w h =
    let es = fin.entries w.moving in
    let facts = each_entry nat_cmp nat_cmp_total fin.nat_cmp-IsAntisymmetric (λ chunk a. (is_member w.unplaced chunk ≡ false → Free d chunk a) × (is_member w.unplaced chunk ≡ true → is_call req a.call ≡ true → fin.get d.chunks chunk ≡ None)) es (fin.entries_sorted w.moving)
    (λ chunk a found. (λ placed. free_of d w h chunk a (fin.get-entries w.moving chunk ∙ found) placed, λ here call. first_of chunk a (h.asked chunk a (fin.get-entries w.moving chunk ∙ found)) here a.call refl call)) in
    let l = loosed req d w.unplaced es facts w h in
    let x = all_changed w (flat_map (let_go_of w.unplaced req) es) in
    let none = l.gone (λ c a has call. sym (fin.get-entries w.moving c) ∙ has) in
    subst (IsEnded req d w) (sym (changed_more (let_go w req) (changes.End req ∷ []) w)) (record {
      stands = end req d x l.stands (λ c a has call. absurd (true≢false (sym call ∙ none c a has)));
      pending = ap (λ ps. without_pending ps req) l.pending;
      preparing = l.preparing;
      placed = λ out. l.placed (each_entry nat_cmp nat_cmp_total fin.nat_cmp-IsAntisymmetric (λ chunk a. is_call req a.call ≡ true → is_member w.unplaced chunk ≡ false) es (fin.entries_sorted w.moving) (λ chunk a found call. out chunk a (fin.get-entries w.moving chunk ∙ found) call));
      bare = λ c none. l.bare c (each_entry nat_cmp nat_cmp_total fin.nat_cmp-IsAntisymmetric (λ chunk a. eq_by_cmp nat_cmp c chunk ≡ false) es (fin.entries_sorted w.moving) (λ chunk a found. not_tied c chunk none (fin.get-entries w.moving chunk ∙ found) (eq_by_cmp nat_cmp c chunk) refl)) none;
      fewer = λ q out c a has. by_test q c a x.moving has out (is_call q a.call) refl l.fewer;
      none = none;
    })
  where
    first_of : (chunk : ℕ) (a : Asking) → IsSought d w chunk a → is_member w.unplaced chunk ≡ true → (call : Option ReqId) → a.call ≡ call → is_call req call ≡ true → fin.get d.chunks chunk ≡ None
    first_of chunk a s here None is own = absurd (false≢true own)
    first_of chunk a s here (Some r) is own = s.first r is here

    not_tied : (c chunk : ℕ) → fin.get w.moving c ≡ None → {a : Asking} → fin.get w.moving chunk ≡ Some a → (t : Bool) → eq_by_cmp nat_cmp c chunk ≡ t → t ≡ false
    not_tied c chunk none has true is = absurd (false≢true (sym (ap is_some none) ∙ ap (λ k. is_some (fin.get w.moving k)) (same_key c chunk is) ∙ ap is_some has))
    not_tied c chunk none has false is = refl

    by_test : (q : ReqId) (c : ℕ) (a : Asking) (m : fin.FinMap nat_cmp Asking) → fin.get m c ≡ Some a → NotAsked w q → (b : Bool) → is_call q a.call ≡ b
        → ((r : ReqId) (k : ℕ) (o : Asking) → fin.get m k ≡ Some o → is_call r o.call ≡ true → fin.get w.moving k ≡ Some o) → b ≡ false
    by_test q c a m has out true is was = sym is ∙ out c a (was q c a has is)
    by_test q c a m has out false is was = refl

-- ---- a call waits for something else

abbrev pub set_waiting : List Pending → ReqId → Waiting → List Pending
set_waiting [] req waiting = []
set_waiting (p ∷ ps) req waiting = cond (same_call p.req req) ((record { req = req; waits = waiting }) ∷ ps) (p ∷ set_waiting ps req waiting)

pub set_so : (ps : List Pending) (req : ReqId) (waiting : Waiting) → with_waiting ps req waiting ≡ set_waiting ps req waiting
set_so [] req waiting = refl
set_so (p ∷ ps) req waiting = by_test (same_call p.req req) (set_so ps req waiting)
  where
    new : Pending
    new = record { req = req; waits = waiting }

    others : ℕ
    others = position_or_len (λ (q : Pending). same_call q.req req) ps

    above_none : (n : ℕ) → nat_lt 0 (suc n) ≡ true
    above_none n = grind (arith, nat_tests)

    plus_one : (n : ℕ) → (1 + n) ≡ suc n
    plus_one n = omega arith

    by_place : (c : Bool) → waits_at ps req waiting (cond c (Some others) None) ≡ set_waiting ps req waiting → waits_at (p ∷ ps) req waiting (cond c (Some (1 + others)) None) ≡ p ∷ set_waiting ps req waiting
    by_place true rest = ap (λ k. slice_set (p ∷ ps) k new) (plus_one others) ∙ ap (λ xs. p ∷ xs) rest
    by_place false rest = ap (λ xs. p ∷ xs) rest

    one_more : (m n : ℕ) → nat_lt (1 + m) (suc n) ≡ nat_lt m n
    one_more m n = grind (arith, nat_tests)

    by_test : (b : Bool) → with_waiting ps req waiting ≡ set_waiting ps req waiting
        → waits_at (p ∷ ps) req waiting (cond (nat_lt (cond (not b) (1 + others) 0) (suc (length ps))) (Some (cond (not b) (1 + others) 0)) None) ≡ cond b (new ∷ ps) (p ∷ set_waiting ps req waiting)
    by_test true rest = ap (λ c. waits_at (p ∷ ps) req waiting (cond c (Some 0) None)) (above_none (length ps))
    by_test false rest = ap (λ c. waits_at (p ∷ ps) req waiting (cond c (Some (1 + others)) None)) (one_more others (length ps)) ∙ by_place (nat_lt others (length ps)) rest

module _ (req : ReqId) (waiting : Waiting) where
  set_all : (f : Pending → Bool) (ps : List Pending) → f (record { req = req; waits = waiting }) ≡ true → list_all f ps ≡ true → list_all f (set_waiting ps req waiting) ≡ true
  set_all f [] own all = refl
  set_all f (p ∷ ps) own all = let parts = and_parts (f p) (list_all f ps) all in by_test (same_call p.req req) parts.0 parts.1 (set_all f ps own parts.1)
    where
      by_test : (b : Bool) → f p ≡ true → list_all f ps ≡ true → list_all f (set_waiting ps req waiting) ≡ true → list_all f (cond b ((record { req = req; waits = waiting }) ∷ ps) (p ∷ set_waiting ps req waiting)) ≡ true
      by_test true here all rest = both_true (f (record { req = req; waits = waiting })) (list_all f ps) own all
      by_test false here all rest = both_true (f p) (list_all f (set_waiting ps req waiting)) here rest

  set_each : (P : Pending → Type 0) (ps : List Pending) → P (record { req = req; waits = waiting }) → AllByRecursion P ps → AllByRecursion P (set_waiting ps req waiting)
  set_each P [] own all = tt
  set_each P (p ∷ ps) own all = by_test (same_call p.req req) (set_each P ps own all.1)
    where
      by_test : (b : Bool) → AllByRecursion P (set_waiting ps req waiting) → AllByRecursion P (cond b ((record { req = req; waits = waiting }) ∷ ps) (p ∷ set_waiting ps req waiting))
      by_test true rest = (own, all.1)
      by_test false rest = (all.0, rest)

  -- other calls wait as they did
  pub others_still : (q : ReqId) (f : Waiting → Bool) (ps : List Pending) → same_call req q ≡ false → is_waited_by (Some q) f (set_waiting ps req waiting) ≡ is_waited_by (Some q) f ps
  others_still q f [] other = refl
  others_still q f (p ∷ ps) other = by_test (same_call p.req req) refl (others_still q f ps other)
    where
      by_test : (b : Bool) → same_call p.req req ≡ b → is_waited_by (Some q) f (set_waiting ps req waiting) ≡ is_waited_by (Some q) f ps
          → is_waited_by (Some q) f (cond b ((record { req = req; waits = waiting }) ∷ ps) (p ∷ set_waiting ps req waiting)) ≡ ((same_call p.req q && f p.waits) || is_waited_by (Some q) f ps)
      by_test true is rest =
          ap (λ b. (b && f waiting) || is_waited_by (Some q) f ps) other ∙ ap (λ b. (b && f p.waits) || is_waited_by (Some q) f ps) (sym (ap (λ x. same_call x q) (same_parts p.req req is) ∙ other))
      by_test false is rest = ap (λ b. (same_call p.req q && f p.waits) || b) rest

  pub set_pending : (q : ReqId) (ps : List Pending) → is_pending (set_waiting ps req waiting) q ≡ is_pending ps q
  set_pending q [] = refl
  set_pending q (p ∷ ps) = by_test (same_call p.req req) refl (set_pending q ps)
    where
      by_test : (b : Bool) → same_call p.req req ≡ b → is_pending (set_waiting ps req waiting) q ≡ is_pending ps q → is_pending (cond b ((record { req = req; waits = waiting }) ∷ ps) (p ∷ set_waiting ps req waiting)) q ≡ (same_call q p.req || is_pending ps q)
      by_test true is rest = ap (λ r. same_call q r || is_pending ps q) (sym (same_parts p.req req is))
      by_test false is rest = ap (λ b. same_call q p.req || b) rest

  set_apart : (ps : List Pending) → are_apart ps ≡ true → are_apart (set_waiting ps req waiting) ≡ true
  set_apart [] apart = refl
  set_apart (p ∷ ps) apart = let parts = apart_parts p ps apart in by_test (same_call p.req req) refl parts.0 parts.1 (set_apart ps parts.1)
    where
      by_test : (b : Bool) → same_call p.req req ≡ b → is_pending ps p.req ≡ false → are_apart ps ≡ true → are_apart (set_waiting ps req waiting) ≡ true → are_apart (cond b ((record { req = req; waits = waiting }) ∷ ps) (p ∷ set_waiting ps req waiting)) ≡ true
      by_test true is out apart rest = are_apart_from (record { req = req; waits = waiting }) ps (ap (is_pending ps) (sym (same_parts p.req req is)) ∙ out) apart
      by_test false is out apart rest = are_apart_from p (set_waiting ps req waiting) (set_pending p.req ps ∙ out) rest

  -- what waits for it now
  pub waits_now : (f : Waiting → Bool) (ps : List Pending) → are_apart ps ≡ true → is_pending ps req ≡ true → is_waited_by (Some req) f (set_waiting ps req waiting) ≡ (f waiting || false)
  waits_now f [] apart here = absurd (false≢true here)
  waits_now f (p ∷ ps) apart here = let parts = apart_parts p ps apart in by_test (same_call p.req req) refl parts.0 here (λ k. waits_now f ps parts.1 k)
    where
      nobody : (qs : List Pending) → is_pending qs req ≡ false → is_waited_by (Some req) f qs ≡ false
      nobody [] out = refl
      nobody (q ∷ qs) out = let none = either_none (same_call req q.req) (is_pending qs req) out in ap (λ b. (b && f q.waits) || is_waited_by (Some req) f qs) (same_back req q.req none.0) ∙ nobody qs none.1

      by_test : (b : Bool) → same_call p.req req ≡ b → is_pending ps p.req ≡ false → (same_call req p.req || is_pending ps req) ≡ true → (is_pending ps req ≡ true → is_waited_by (Some req) f (set_waiting ps req waiting) ≡ (f waiting || false))
          → is_waited_by (Some req) f (cond b ((record { req = req; waits = waiting }) ∷ ps) (p ∷ set_waiting ps req waiting)) ≡ (f waiting || false)
      by_test true is out k rest =
          ap (λ b. (b && f waiting) || is_waited_by (Some req) f ps) (same_self req) ∙ ap (λ b. f waiting || b) (nobody ps (ap (is_pending ps) (sym (same_parts p.req req is)) ∙ out))
      by_test false is out k rest =
          ap (λ b. (b && f p.waits) || is_waited_by (Some req) f (set_waiting ps req waiting)) is ∙ rest (sym (ap (λ b. b || is_pending ps req) (same_back p.req req is)) ∙ k)

  -- and only that, of its call
  pub set_wanted : (g : Waiting → Bool) (ps : List Pending) → are_apart ps ≡ true → g waiting ≡ true → is_pending ps req ≡ true → list_all (λ (p : Pending). not (same_call p.req req) || g p.waits) (set_waiting ps req waiting) ≡ true
  set_wanted g [] apart right here = refl
  set_wanted g (p ∷ ps) apart right here = let parts = apart_parts p ps apart in by_test (same_call p.req req) refl parts.0 here (λ k. set_wanted g ps parts.1 right k)
    where
      others : (qs : List Pending) → is_pending qs req ≡ false → list_all (λ (q : Pending). not (same_call q.req req) || g q.waits) qs ≡ true
      others [] out = refl
      others (q ∷ qs) out = let none = either_none (same_call req q.req) (is_pending qs req) out in both_true (not (same_call q.req req) || g q.waits) _ (ap (λ b. not b || g q.waits) (same_back req q.req none.0)) (others qs none.1)

      by_test : (b : Bool) → same_call p.req req ≡ b → is_pending ps p.req ≡ false → (same_call req p.req || is_pending ps req) ≡ true → (is_pending ps req ≡ true → list_all (λ (q : Pending). not (same_call q.req req) || g q.waits) (set_waiting ps req waiting) ≡ true)
          → list_all (λ (q : Pending). not (same_call q.req req) || g q.waits) (cond b ((record { req = req; waits = waiting }) ∷ ps) (p ∷ set_waiting ps req waiting)) ≡ true
      by_test true is out k rest =
          both_true (not (same_call req req) || g waiting) _ (ap (λ b. not b || g waiting) (same_self req) ∙ right) (others ps (ap (is_pending ps) (sym (same_parts p.req req is)) ∙ out))
      by_test false is out k rest =
          both_true (not (same_call p.req req) || g p.waits) _ (ap (λ b. not b || g p.waits) is) (rest (sym (ap (λ b. b || is_pending ps req) (same_back p.req req is)) ∙ k))

  pub wait : (d : Durable) (v : Volatile) → Stands d v → CanWait (record { req = req; waits = waiting }) → NotAsked v req → Stands d (changed v (changes.Wait req waiting))
  wait d v h can none = subst (λ ps. Stands d (record v { pending = ps })) (sym (set_so v.pending req waiting)) (record {
    kept = h.kept;
    counters = h.counters;
    asked = λ q a has.
        (let s = h.asked q a has in
        record {
          known = s.known;
          handle = s.handle;
          version = s.version;
          number = s.number;
          epoch = s.epoch;
          follows = s.follows;
          since = s.since;
          told = s.told;
          wanted = set_all (λ (p : Pending). not (is_call p.req a.call) || may_wait_for q p.waits) v.pending (or_left_false (is_call req a.call) (may_wait_for q waiting) (none q a has)) s.wanted;
          leased = s.leased;
          purposed = set_all (λ (p : Pending). not (is_call p.req a.call) || may_ask a.purpose p.waits) v.pending (or_left_false (is_call req a.call) (may_ask a.purpose waiting) (none q a has)) s.purposed;
          first = s.first;
          made = λ new. made_still q a a.call refl (none q a has) (s.made new);
          own = λ r call here. made_still q a a.call refl (none q a has) (s.own r call here);
          past = λ r call. ap (λ b. b || was_answered d v r) (set_pending r v.pending) ∙ s.past r call;
        });
    unplaced = h.unplaced;
    counted = h.counted;
    out = h.out;
    apart = set_apart v.pending h.apart;
    calls = set_each CanWait v.pending can h.calls;
    preparing = λ p. (let q = h.preparing p in (q.0, ap (λ ps. set_waiting ps req waiting) q.1));
  })
    where
      or_left_false : (b c : Bool) → b ≡ false → (not b || c) ≡ true
      or_left_false true c e = absurd (true≢false e)
      or_left_false false c e = refl

      made_still : (q : ℕ) (a : Asking) (call : Option ReqId) → a.call ≡ call → is_call req a.call ≡ false → is_waited_by a.call (makes q) v.pending ≡ true → is_waited_by a.call (makes q) (set_waiting v.pending req waiting) ≡ true
      made_still q a None call out made = absurd (false≢true (sym (nobody v.pending) ∙ ap (λ c. is_waited_by c (makes q) v.pending) (sym call) ∙ made))
        where
          nobody : (ps : List Pending) → is_waited_by None (makes q) ps ≡ false
          nobody [] = refl
          nobody (p ∷ ps) = nobody ps
      made_still q a (Some r) call out made =
          ap (λ c. is_waited_by c (makes q) (set_waiting v.pending req waiting)) call ∙ others_still r (makes q) v.pending (sym (ap (is_call req) call) ∙ out) ∙ ap (λ c. is_waited_by c (makes q) v.pending) (sym call) ∙ made
