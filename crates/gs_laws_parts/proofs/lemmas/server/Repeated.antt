-- A client's last edit that comes again is answered in the machine.
use Rattle.std.proofs.Common.{◌≡◌, ℕ, ◌⊎◌, inl, inr, ⊎_elim, Bool, true, false, not, cond, List, [], ◌∷◌, ◌++◌, length, Option, Some, None, refl, sym, ap, subst, ◌∙◌, append_assoc, arith}
use Rattle.std.specs.Prelude.{Ok, ◌&&◌, ◌||◌, nat_eq, slice_get, Contains, is_some}
use Rattle.std.specs.List.{list_any}
use Rattle.std.proofs.lemmas.Bool.Decides.{nat_tests}
use Rattle.gs_base.specs.declared.numbers.ReqId.{ReqId}
use Rattle.gs_base.specs.Stamps.{is_same}
use Rattle.gs_replica.specs.declared.op.Done.{Done as Last}
use Rattle.gs_replica.specs.Stands.{Edit, Listed}
use Rattle.gs_replica.proofs.Requests.{listed}
use Rattle.gs_store.specs.Slots.{Live}
use Rattle.gs_store.specs.Serving.{done_in}
use Rattle.gs_store.proofs.Standing.{done_stands}
use Rattle.gs_server_lease.specs.declared.lease.Open.{Open as Waiting}
use Rattle.gs_server_lease.specs.Leases as primary
use Rattle.gs_server_lease.specs.Leases.{is_request}
use Rattle.gs_server.specs.Places.{Place, Here, sending}
use Rattle.gs_server.specs.Edits.{done, is_known_of_all, repeated}
use Rattle.gs_laws_chunk.specs.machine.Machine.{Open, MemberLease, Member, ChunkWorld, Done}
use Rattle.gs_laws_chunk.specs.machine.Events.{one, waits}
use Rattle.gs_laws_chunk.specs.machine.Events as machine
use Rattle.gs_laws_parts.specs.server.Showing.{Setting, setting_at, ShowsLease, ShowsLeaseAt}
use Rattle.gs_laws_parts.specs.server.Moving.{IsHere, LeadsWhole, Answering}
use Rattle.gs_laws_parts.specs.server.Causes.{Calm}
use Rattle.gs_laws_parts.proofs.lemmas.server.Stamps.{stamp_number}
use Rattle.gs_laws_parts.proofs.lemmas.server.Lists.{cons_cases, cons_first, cons_more, nil_contains}
use Rattle.gs_laws_parts.proofs.lemmas.server.Engine.{said_one, moves_so, same_promise}
use Rattle.gs_laws_parts.proofs.lemmas.server.Places.{grows_by, place_grown}
use Rattle.gs_laws_parts.proofs.lemmas.server.Promising.{lives, nothing_happens}
use Rattle.gs_laws_parts.proofs.lemmas.server.Sending.{lease_there}

at_place : (before behind : List Edit) (e : Edit) → slice_get (before ++ e ∷ behind) (length before) ≡ Some e
at_place [] behind e = refl
at_place (b ∷ before) behind e = at_place before behind e

or_both : (a b : Bool) → (a || b) ≡ true → (a ≡ true) ⊎ (b ≡ true)
or_both true b is = inl refl
or_both false b is = inr is

found_open : (os : List Open) (place : ℕ) → waits os place ≡ true → (o : Open) × Contains os o × (o.place ≡ place)
found_open [] place is = absurd (cc)
found_open (o ∷ os) place is = ⊎_elim
    (λ here. (o, cons_first o os o refl, eq_same place o.place here))
    (λ rest. let r = found_open os place rest in (r.0, cons_more o os r.0 r.1, r.2))
    (or_both (nat_eq place o.place) (waits os place) is)
  where
    eq_same : (a b : ℕ) → nat_eq a b ≡ true → b ≡ a
    eq_same a b is = grind (arith, nat_tests)

left_or : (a b : Bool) → a ≡ true → (a || b) ≡ true
left_or true b is = refl
left_or false b is = absurd (cc)

right_or : (a b : Bool) → b ≡ true → (a || b) ≡ true
right_or true b is = refl
right_or false b is = is

request_itself : (a : ReqId) → is_request a a ≡ true
request_itself a = grind (arith, nat_tests)

waits_in : (req : ReqId) (es : List (ℕ × Waiting)) (number : ℕ) (x : Waiting) → Contains es (number, x) → x.req ≡ req → list_any (λ (e : ℕ × Waiting). is_request req e.1.req) es ≡ true
waits_in req [] number x there same = nil_contains (let e : ℕ × Waiting = (number, x) in e) there
waits_in req (e ∷ es) number x there same = ⊎_elim
    (λ is. left_or (is_request req e.1.req) (list_any (λ (y : ℕ × Waiting). is_request req y.1.req) es) (subst (λ (y : ℕ × Waiting). is_request req y.1.req ≡ true) (sym is) (subst (λ r. is_request req r ≡ true) (sym same) (request_itself req))))
    (λ more. right_or (is_request req e.1.req) (list_any (λ (y : ℕ × Waiting). is_request req y.1.req) es) (waits_in req es number x more same))
    (cons_cases e es (number, x) there)

pub both : (a b : Bool) → (a && b) ≡ true → (a ≡ true) × (b ≡ true)
both true true is = (refl, refl)
both true false is = absurd (cc)
both false b is = absurd (cc)

module _ (bytes : ReqId → List ℕ) (born : ℕ) (w : ChunkWorld) (h : Here) (p : Place) where
  abbrev c : Setting
  c = setting_at bytes born h

  -- an edit of a list doesn't wait where its request doesn't
  quiet_place : (l : primary.PrimaryLease) (ml : MemberLease) (req : ReqId) (xs before behind : List Edit) (e : Edit) → ShowsLease c w.known.list l ml → w.known.list ml.stamp ≡ xs → xs ≡ before ++ e ∷ behind → e.req ≡ req → primary.waits req l ≡ false → (b : Bool) → waits ml.waiting (length before) ≡ b → b ≡ false
  quiet_place l ml req xs before behind e shows whole is asked none false found = refl
  quiet_place l ml req xs before behind e shows whole is asked none true found =
      let f = found_open ml.waiting (length before) found in
      let o : Open = f.0 in
      let q = shows.opens o f.1 in
      let y = q.3 in
      let says = y.says in
      let mine : slice_get xs (length before) ≡ Some e = ap (λ ys. slice_get ys (length before)) is ∙ at_place before behind e in
      let place : length y.before ≡ length before = sym y.placed ∙ f.2 in
      let theirs : slice_get xs (length before) ≡ Some o.edit = ap (slice_get xs) (sym place) ∙ ap (λ ys. slice_get ys (length y.before)) (sym whole ∙ y.stands) ∙ at_place y.before y.behind o.edit in
      let both_some : Some o.edit ≡ Some e = sym theirs ∙ mine in
      let same : o.edit ≡ e = cc in
      let req_is : q.1.req ≡ req = sym says.req ∙ ap (λ (z : Edit). z.req) same ∙ asked in
      absurd (let yes_it : primary.waits req l ≡ true = waits_in req l.outbox q.0 q.1 q.2 req_is in (cc))

  again : IsHere bytes born w h p → LeadsWhole w h.me → (req : ReqId) (last : Last) (l : primary.PrimaryLease) → done_in p.slot.live req.client.0 ≡ Some last → req.number ≡ last.number → is_some p.slot.live ≡ true → p.lease ≡ Some l → primary.waits req l ≡ false
      → Answering Calm bytes born w h p (sending (done h req (Ok last.outcome) ∷ []))
  again here whole req last l got number live held none =
      let m : Member = w.members h.me in
      let y = lives c p.slot m.live here.shows.live live in
      let xs : List Edit = y.0 in
      let x = lease_there c w.known.list l m.lease (subst (λ o. ShowsLeaseAt c w.known.list o m.lease) held here.shows.lease) in
      let ml : MemberLease = x.0 in
      let promise : ml.stamp ≡ m.promise = stamp_number ml.stamp m.promise (sym x.2.stamp ∙ here.leased l held ∙ here.shows.promise) in
      let k : Listed h.chunk xs req.client.0 last = listed h.chunk xs req.client.0 last (sym (done_stands h.block h.chunk req.client.0 p.slot.live xs y.2) ∙ got) in
      let e : Edit = k.edit in
      let client : e.req.client.0 ≡ req.client.0 = k.by in
      let numbered : e.req.number ≡ req.number = k.number ∙ sym number in
      let asked : e.req ≡ req = (λ i. record { client = record { 0 = client i }; number = numbered i }) in
      let list : w.known.list ml.stamp ≡ xs = ap w.known.list promise ∙ (whole ml xs x.1 promise y.1).0 in
      let there : slice_get xs (length k.before) ≡ Some e = ap (λ ys. slice_get ys (length k.before)) k.is ∙ at_place k.before k.behind e in
      let quiet_it = quiet_place l ml req xs k.before k.behind e x.2 list k.is asked none (waits ml.waiting (length k.before)) refl in
      let so = moves_so w (machine.Answers h.me ml (length k.before) e) h.me m (one h.me (Done ml.stamp (length k.before) e)) (x.1, inr (xs, y.1, there, quiet_it)) refl in
      let moved = so.moved in
      let g = grows_by w h.me m _ moved in
      let more = g.list ml.stamp in record {
        follows = record {
          member = m;
          sends = one h.me (Done ml.stamp (length k.before) e);
          moved = moved;
          lists = λ t. inl (so.list t);
          numbers = λ t. (so.list t);
          intact = λ spared whole. whole;
          gains = same_promise (w.members h.me) m refl;
          shows = place_grown c w.known moved.world.known g h.epoch p m here.shows;
          tells = (tt, tt);
        };
        answers = (
          inl (record {
            stamp = ml.stamp;
            edit = e;
            before = k.before;
            behind = k.behind ++ more.0;
            told = said_one w h.me h.me m (Done ml.stamp (length k.before) e) moved;
            req = asked;
            stands = more.1 ∙ ap (λ ys. ys ++ more.0) (list ∙ k.is) ∙ append_assoc k.before (e ∷ k.behind) more.0;
            is = sym k.answered;
          }),
          tt,
        );
      }

  live_of : (live : Option Live) (client : ℕ) (last : Last) → done_in live client ≡ Some last → is_some live ≡ true
  live_of None client last is = absurd (cc)
  live_of (Some l) client last is = refl

  silent : IsHere bytes born w h p → Answering Calm bytes born w h p (sending [])
  silent here = record { follows = nothing_happens bytes born w h p here.shows [] tt; answers = tt }

  pub repeat_answering : IsHere bytes born w h p → LeadsWhole w h.me → (req : ReqId) (last : Last) → done_in p.slot.live req.client.0 ≡ Some last → req.number ≡ last.number → Answering Calm bytes born w h p (repeated h p req last.outcome)
  repeat_answering here whole req last got number = by_lease p.lease refl
    where
      not_false : (b : Bool) → not b ≡ true → b ≡ false
      not_false true is = absurd (cc)
      not_false false is = refl

      by_known : (l : primary.PrimaryLease) → p.lease ≡ Some l → (b : Bool) → (is_same l.grant.stamp p.slot.promise && not (primary.waits req l)) ≡ b → Answering Calm bytes born w h p (cond b (sending (done h req (Ok last.outcome) ∷ [])) (sending []))
      by_known l held false known = silent here
      by_known l held true known = again here whole req last l got number (live_of p.slot.live req.client.0 last got) held (not_false (primary.waits req l) (both (is_same l.grant.stamp p.slot.promise) (not (primary.waits req l)) known).1)

      by_lease : (o : Option primary.PrimaryLease) → p.lease ≡ o → Answering Calm bytes born w h p (cond (is_known_of_all req p.slot o) (sending (done h req (Ok last.outcome) ∷ [])) (sending []))
      by_lease None held = silent here
      by_lease (Some l) held = by_known l held (is_same l.grant.stamp p.slot.promise && not (primary.waits req l)) refl
