-- Acknowledgements at a primary, and edits that it sends again.
use Rattle.std.proofs.Common.{◌≡◌, ℕ, ◌+◌, ◌-◌, ◌≤◌, Bool, true, false, not, cond, List, [], ◌∷◌, Option, Some, None, refl, sym, ap, subst, ◌∙◌, arith, inl}
use Rattle.std.specs.Prelude.{◌==◌, filter, find, Contains}
use Rattle.std.specs.List.{list_any, AllByRecursion}
use Rattle.gs_base.specs.declared.numbers.Stamp.{Stamp}
use Rattle.gs_base.specs.declared.numbers.ReqId.{ReqId}
use Rattle.gs_base.specs.declared.refusal.Refusal.{Refusal}
use Rattle.gs_base.specs.declared.refusal.Refusal.TheVariants as refusals
use Rattle.gs_replica.specs.Stands.{Edit}
use Rattle.gs_msg.specs.declared.node.NodeId.{NodeId}
use Rattle.gs_msg.specs.declared.node.NodeId.TheVariants as nodes
use Rattle.gs_msg.specs.declared.message.Message.{Message}
use Rattle.gs_server_lease.specs.declared.lease.Open.{Open as Waiting}
use Rattle.gs_server_lease.specs.Leases as primary
use Rattle.gs_server_lease.specs.Leases.{lacks, is_acknowledged, settled, forward_of, forwards_again, reminds, reminds_of, supplies, with_bytes}
use Rattle.gs_server.specs.Places.{Place, Here, unanswered}
use Rattle.gs_server.specs.Holding.{unless_leased, wants_bytes, supplies_to, from_server}
use Rattle.gs_server.specs.Holding as holding
use Rattle.gs_laws_chunk.specs.machine.Stamps.{stamp_at}
use Rattle.gs_laws_chunk.specs.machine.Machine.{MemberLease, Member, Sent, ChunkWorld}
use Rattle.gs_laws_chunk.specs.machine.Events.{IsCovered}
use Rattle.gs_laws_parts.specs.server.Showing.{Setting, setting_at, Waits, ShowsLease, ShowsLeaseAt, ShowsPlace}
use Rattle.gs_laws_parts.specs.server.Telling.{ServersTell}
use Rattle.gs_laws_parts.specs.server.Moving.{Moved, FollowsServer, IsHere, FollowsPart}
use Rattle.gs_laws_parts.specs.server.Causes.{Calm}
use Rattle.gs_laws_parts.proofs.lemmas.server.Engine.{same_promise}
use Rattle.gs_laws_parts.proofs.lemmas.server.Tests.{never_both}
use Rattle.gs_laws_parts.proofs.lemmas.server.Lists.{in_filter, of_filter, into_filter, from_any, find_of, in_map, into_map, all_mapped, all_flat}
use Rattle.gs_laws_parts.proofs.lemmas.server.Places.{grows_by, counts_back, place_grown, live_back}
use Rattle.gs_laws_parts.proofs.lemmas.server.Promising.{or_outcome, nothing_happens}
use Rattle.gs_laws_parts.proofs.lemmas.server.Primary.{all_forwarded, forward_tells, covered, IsClosed, settled_places}

-- a place whose lease alone changes
pub leased_shows : (c : Setting) (w : ChunkWorld) (me epoch : ℕ) (p : Place) (o : Option MemberLease) (sends : List Sent) (lease : Option primary.PrimaryLease) → ShowsPlace c w.known epoch p (w.members me) → (moved : Moved w me (record (w.members me) { lease = o }) sends) → ShowsLeaseAt c moved.world.known.list lease o
    → ShowsPlace c moved.world.known epoch (record { slot = p.slot; lease = lease }) (record (w.members me) { lease = o })
leased_shows c w me epoch p o sends lease shows moved is = record {
  epoch_is = shows.epoch_is;
  early = shows.early;
  promise = shows.promise;
  carried = shows.carried;
  live = shows.live;
  image = shows.image;
  taken = shows.taken;
  lease = is;
  promised = shows.promised;
  intact = λ whole. let x = shows.intact whole in (λ counts. x.0 (live_back w.known moved.world.known (w.members me).epoch (grows_by w me _ sends moved) counts), λ counts. x.1 (counts_back w.known moved.world.known (w.members me).epoch (grows_by w me _ sends moved) counts));
}

pub lease_there : (c : Setting) (list : ℕ → List Edit) (l : primary.PrimaryLease) (o : Option MemberLease) → ShowsLeaseAt c list (Some l) o → (m : MemberLease) × (o ≡ Some m) × ShowsLease c list l m
lease_there c list l None is = elim is [ ]
lease_there c list l (Some m) is = (m, refl, is)

-- ---- edits that every member has

less_one : (n k : ℕ) → n ≡ k + 1 → n - 1 ≡ k
less_one n k is = omega arith

pub settled_covers : (c : Setting) (list : ℕ → List Edit) (l : primary.PrimaryLease) (m : MemberLease) → ShowsLease c list l m → (p : ℕ) → Contains (settled_places l) p → IsCovered m p
settled_covers c list l m is p has =
    let test = λ (e : ℕ × Waiting). is_acknowledged l e.0 in
    let e = in_map (λ (e : ℕ × Waiting). e.0 - 1) (filter test l.outbox) p has in
    let q = is.waits e.0.0 e.0.1 (in_filter test l.outbox e.0 e.1) in
    let place : p ≡ q.0.place = sym e.2 ∙ less_one e.0.0 q.0.place q.2.numbered in
    subst (IsCovered m) (sym place) (covered c list l m q.0.place is (subst (λ n. is_acknowledged l n ≡ true) q.2.numbered (of_filter test l.outbox e.0 e.1)))

pub settled_shows : (c : Setting) (list : ℕ → List Edit) (l : primary.PrimaryLease) (m k : MemberLease) → ShowsLease c list l m → IsClosed m (settled_places l) k → ShowsLease c list (settled l) k
settled_shows c list l m k is closed = record {
  stamp = is.stamp ∙ ap stamp_at (sym closed.stamp);
  members = closed.members ∙ is.members;
  told = λ j. subst (λ (f : ℕ → ℕ). primary.told_by l.told j ≤ f j) (sym closed.told) (is.told j);
  waits = λ number x there.
      let q = is.waits number x (in_filter waiting_on l.outbox (number, x) there) in
      (q.0, closed.keeps q.0 q.1 (λ p has same. never_both (is_acknowledged l number) (acked p q.0.place number has same q.2.numbered) (not_true (is_acknowledged l number) (of_filter waiting_on l.outbox (number, x) there))), subst (λ t. Waits c (list t) number x q.0) (sym closed.stamp) q.2);
  opens = λ o there.
      let h = closed.has o there in
      let q = is.opens o h.0 in
      (q.0, q.1, into_filter waiting_on l.outbox (q.0, q.1) q.2 (open_not (is_acknowledged l q.0) (λ yes. h.1 o.place (place_in q.0 q.1 o.place q.2 yes q.3.numbered) refl)), subst (λ t. Waits c (list t) q.0 q.1 o) (sym closed.stamp) q.3);
}
  where
    waiting_on : ℕ × Waiting → Bool
    waiting_on e = not (is_acknowledged l e.0)

    not_true : (b : Bool) → not b ≡ true → b ≡ false
    not_true true is = absurd (cc)
    not_true false is = refl

    open_not : (b : Bool) → (b ≡ true → ⊥) → not b ≡ true
    open_not true never = elim (never refl) [ ]
    open_not false never = refl

    acked : (p place number : ℕ) → Contains (settled_places l) p → p ≡ place → number ≡ place + 1 → is_acknowledged l number ≡ true
    acked p place number has same numbered =
        let test = λ (e : ℕ × Waiting). is_acknowledged l e.0 in
        let e = in_map (λ (e : ℕ × Waiting). e.0 - 1) (filter test l.outbox) p has in
        let q = is.waits e.0.0 e.0.1 (in_filter test l.outbox e.0 e.1) in
        let at : p ≡ q.0.place = sym e.2 ∙ less_one e.0.0 q.0.place q.2.numbered in
        let number_is : e.0.0 ≡ number = (let a = q.2.numbered in omega arith) in
        subst (λ n. is_acknowledged l n ≡ true) number_is (of_filter test l.outbox e.0 e.1)

    place_in : (number : ℕ) (x : Waiting) (place : ℕ) → Contains l.outbox (number, x) → is_acknowledged l number ≡ true → number ≡ place + 1 → Contains (settled_places l) place
    place_in number x place there is_so numbered =
        subst (Contains (settled_places l)) (less_one number place numbered) (into_map (λ (e : ℕ × Waiting). e.0 - 1) (filter (λ (e : ℕ × Waiting). is_acknowledged l e.0) l.outbox) (number, x) (into_filter (λ (e : ℕ × Waiting). is_acknowledged l e.0) l.outbox (number, x) there is_so))

pub either_sent : {X : Type 0} (P : X → Type 0) (test : Bool) (xs ys : List X) → AllByRecursion P xs → AllByRecursion P ys → AllByRecursion P (cond test xs ys)
either_sent P true xs ys first second = first
either_sent P false xs ys first second = second

module _ (bytes : ReqId → List ℕ) (born : ℕ) (w : ChunkWorld) (h : Here) (p : Place) where
  abbrev c : Setting
  c = setting_at bytes born h

  quiet_part : IsHere bytes born w h p → (e : Refusal) → FollowsPart bytes born w h p (unanswered e)
  quiet_part here e = nothing_happens bytes born w h p here.shows [] tt

  -- ---- edits that are sent again

  -- each forward of an edit that waits, to a member, is told
  abbrev Forwarded : ChunkWorld → primary.PrimaryLease → Type 0
  Forwarded v l = (number : ℕ) (x : Waiting) → Contains l.outbox (number, x) → (to : ℕ) → Contains l.grant.members to → (carried : Option (List ℕ)) → ((b : List ℕ) → carried ≡ Some b → b ≡ x.bytes) → ServersTell c h.handle v (forward_of h.me h.handle l carried (number, x) to)

  pub sends_again : ShowsPlace c w.known h.epoch p (w.members h.me) → (l : primary.PrimaryLease) → p.lease ≡ Some l → (sent : List Message) → ((v : ChunkWorld) → Forwarded v l → AllByRecursion (ServersTell c h.handle v) sent) → FollowsServer Calm c h.handle w h.me h.epoch p sent
  sends_again shows l is sent each =
      let m : Member = w.members h.me in
      let x = lease_there c w.known.list l m.lease (subst (λ o. ShowsLeaseAt c w.known.list o m.lease) is shows.lease) in
      let all = all_forwarded w h.me m x.0 refl x.1 in record {
        member = m;
        sends = all.sends;
        moved = all.moved;
        lists = λ t. inl (all.list t);
        numbers = λ t. (all.list t);
        intact = λ spared whole. whole;
        gains = same_promise (w.members h.me) m refl;
        shows = place_grown c w.known all.moved.world.known (grows_by w h.me m all.sends all.moved) h.epoch p m shows;
        tells = each all.moved.world (forward_tells c h.handle all.moved.world w.known.list h.me l x.0 x.2 all.told);
      }

  supplied : (v : ChunkWorld) (l : primary.PrimaryLease) (server : ℕ) → Forwarded v l → Contains l.grant.members server → (o : Option (ℕ × Waiting)) → ((e : ℕ × Waiting) → o ≡ Some e → Contains l.outbox e) → AllByRecursion (ServersTell c h.handle v) (with_bytes h.me h.handle l server o)
  supplied v l server each member None found = tt
  supplied v l server each member (Some e) found = (each e.0 e.1 (found e refl) server member (Some e.1.bytes) (λ b is. cc), tt)

  supplies_tell : (v : ChunkWorld) (l : primary.PrimaryLease) (server : ℕ) → Forwarded v l → AllByRecursion (ServersTell c h.handle v) (supplies h.me h.handle server l)
  supplies_tell v l server each = by_case (list_any (λ member. member == server) l.grant.members) refl
    where
      by_case : (b : Bool) → list_any (λ member. member == server) l.grant.members ≡ b → AllByRecursion (ServersTell c h.handle v) (cond b (with_bytes h.me h.handle l server (find (λ edit. lacks l.told edit.0 server) l.outbox)) [])
      by_case true is = supplied v l server each (from_any l.grant.members server is) (find (λ edit. lacks l.told edit.0 server) l.outbox) (λ e found. find_of (λ edit. lacks l.told edit.0 server) l.outbox e found)
      by_case false is = tt

  pub nack_outcome : IsHere bytes born w h p → (from : NodeId) (stamp : Stamp) (refusal : Refusal) → FollowsPart bytes born w h p (from_server from (λ server. holding.nack h p server stamp refusal))
  nack_outcome here nodes.Master stamp refusal = quiet_part here refusals.Stray
  nack_outcome here (nodes.Client client) stamp refusal = quiet_part here refusals.Stray
  nack_outcome here (nodes.Server server) stamp refusal = or_outcome bytes born w h p (unless_leased stamp p.slot p.lease) unanswered (supplies_to h refusal server p.lease) (quiet_part here) (λ none. by_lease p.lease refl)
    where
      by_lease : (o : Option primary.PrimaryLease) → p.lease ≡ o → FollowsPart bytes born w h p (supplies_to h refusal server o)
      by_lease None is = nothing_happens bytes born w h p here.shows [] tt
      by_lease (Some l) is = sends_again here.shows l is (cond (wants_bytes refusal) (supplies h.me h.handle server l) []) (λ v each. either_sent (ServersTell c h.handle v) (wants_bytes refusal) (supplies h.me h.handle server l) [] (supplies_tell v l server each) tt)

  -- at a tick
  pub reminds_tell : (v : ChunkWorld) (l : primary.PrimaryLease) → Forwarded v l → AllByRecursion (ServersTell c h.handle v) (reminds h.me h.handle l)
  reminds_tell v l each = by_case l.outbox (λ e there. there)
    where
      again : (e : ℕ × Waiting) → Contains l.outbox e → AllByRecursion (ServersTell c h.handle v) (forwards_again h.me h.handle l e)
      again e there = all_mapped (ServersTell c h.handle v) (forward_of h.me h.handle l None e) (filter (lacks l.told e.0) l.grant.members) (λ to member. each e.0 e.1 there to (in_filter (lacks l.told e.0) l.grant.members to member) None (λ b none. absurd (cc)))

      by_case : (es : List (ℕ × Waiting)) → ((e : ℕ × Waiting) → Contains es e → Contains l.outbox e) → AllByRecursion (ServersTell c h.handle v) (reminds_of h.me h.handle l es)
      by_case [] inside = tt
      by_case (e ∷ es) inside = ((λ _. (tt, tt)), all_flat (ServersTell c h.handle v) (forwards_again h.me h.handle l) (e ∷ es) (λ x there. again x (inside x there)))
