-- Events of a primary: forwards to its members, edits that are numbered, and counts that are heard.
use Rattle.std.proofs.Common.{◌≡◌, ◌≢◌, ℕ, ◌+◌, ◌-◌, ◌<◌, ◌≤◌, ⊎_elim, Bool, true, false, not, cond, List, [], ◌∷◌, ◌++◌, Option, Some, None, refl, sym, subst, ◌∙◌, arith}
use Rattle.std.specs.Prelude.{nat_eq, nat_lt, max, map, filter, Contains}
use Rattle.std.specs.List.{list_all}
use Rattle.std.proofs.lemmas.Bool.Decides.{nat_tests}
use Rattle.gs_replica.specs.Stands.{Edit}
use Rattle.gs_server_lease.specs.declared.lease.Open.{Open as Waiting}
use Rattle.gs_server_lease.specs.Leases as primary
use Rattle.gs_server_lease.specs.Leases.{told_by, heard, hears, lacks, is_acknowledged, forward_of}
use Rattle.gs_laws_chunk.specs.machine.Machine.{Open, MemberLease, Member, Sent, ChunkWorld, WasTold, Forward, Ack}
use Rattle.gs_laws_chunk.specs.machine.Events.{Forwards, Hears, Closes, one, is_of, IsCovered, closed}
use Rattle.gs_laws_chunk.specs.machine.Events as machine
use Rattle.gs_laws_parts.specs.server.Showing.{Setting, ShowsLease}
use Rattle.gs_laws_parts.specs.server.Telling.{CarriesBytes, ServersTell}
use Rattle.gs_laws_parts.specs.server.Moving.{Moved}
use Rattle.gs_laws_parts.proofs.lemmas.server.Lists.{cons_cases, cons_more, cons_first, nil_contains, in_filter, of_filter, into_filter, any_of, from_any_eq, all_of, set_same, set_other}
use Rattle.gs_laws_parts.proofs.lemmas.server.Engine.{Stays, moves_so, rests_so, and_then, then_list, first_contains}

-- ---- forwards

forwards_one : (w : ChunkWorld) (me : ℕ) (m : Member) (l : MemberLease) (o : Open) (to : ℕ) → w.members me ≡ m → m.lease ≡ Some l → Contains l.waiting o → is_of l.members to ≡ true → Stays w me m (one to (Forward l.stamp o.place o.edit))
forwards_one w me m l o to is lease there member =
    subst (λ n. n.lease ≡ Some l → Stays w me n (one to (Forward l.stamp o.place o.edit))) is
    (λ held. moves_so w (Forwards me l to o.place o.edit) me (w.members me) (one to (Forward l.stamp o.place o.edit)) (held, member, there) refl) lease

pub record Row (w : ChunkWorld) (me : ℕ) (m : Member) (l : MemberLease) (o : Open) (tos : List ℕ) : Type 0 where
  pub sends : List Sent
  pub moved : Moved w me m sends
  pub list : (t : ℕ) → moved.world.known.list t ≡ w.known.list t
  pub told : (to : ℕ) → Contains tos to → WasTold moved.world to (Forward l.stamp o.place o.edit)

row : (w : ChunkWorld) (me : ℕ) (m : Member) (l : MemberLease) (o : Open) → w.members me ≡ m → m.lease ≡ Some l → Contains l.waiting o → (tos : List ℕ) → ((to : ℕ) → Contains tos to → is_of l.members to ≡ true) → Row w me m l o tos
unfolding and_then
row w me m l o is lease there [] each = let r = rests_so w me m is in record { sends = []; moved = r.moved; list = r.list; told = λ to none. nil_contains to none }
row w me m l o is lease there (to ∷ tos) each =
    let one_more = forwards_one w me m l o to is lease there (each to (cons_first to tos to refl)) in
    let first = one_more.moved in
    let rest = row first.world me m l o first.is lease there tos (λ x more. each x (cons_more to tos x more)) in record {
      list = λ t. rest.list t ∙ one_more.list t;
      sends = one to (Forward l.stamp o.place o.edit) ++ rest.sends;
      moved = and_then w me m m (one to (Forward l.stamp o.place o.edit)) rest.sends first rest.moved (refl, refl, refl);
      told = λ x has. ⊎_elim
          (λ same. subst (λ y. WasTold rest.moved.world y (Forward l.stamp o.place o.edit)) same (rest.moved.stays (record { server = to; body = Forward l.stamp o.place o.edit }) (first.says (record { server = to; body = Forward l.stamp o.place o.edit }) (first_contains (record { server = to; body = Forward l.stamp o.place o.edit }) []))))
          (λ more. rest.told x more) (cons_cases to tos x has);
    }

-- each edit that waits goes to each member
pub record AllForwarded (w : ChunkWorld) (me : ℕ) (m : Member) (l : MemberLease) (os : List Open) (tos : List ℕ) : Type 0 where
  pub sends : List Sent
  pub moved : Moved w me m sends
  pub list : (t : ℕ) → moved.world.known.list t ≡ w.known.list t
  pub told : (o : Open) → Contains os o → (to : ℕ) → Contains tos to → WasTold moved.world to (Forward l.stamp o.place o.edit)

rows : (w : ChunkWorld) (me : ℕ) (m : Member) (l : MemberLease) → w.members me ≡ m → m.lease ≡ Some l → (os : List Open) → ((o : Open) → Contains os o → Contains l.waiting o) → (tos : List ℕ) → ((to : ℕ) → Contains tos to → is_of l.members to ≡ true) → AllForwarded w me m l os tos
unfolding and_then
rows w me m l is lease [] inside tos each = let r = rests_so w me m is in record { sends = []; moved = r.moved; list = r.list; told = λ o none. nil_contains o none }
rows w me m l is lease (o ∷ os) inside tos each =
    let first = row w me m l o is lease (inside o (cons_first o os o refl)) tos each in
    let rest = rows first.moved.world me m l first.moved.is lease os (λ x more. inside x (cons_more o os x more)) tos each in record {
      list = λ t. rest.list t ∙ first.list t;
      sends = first.sends ++ rest.sends;
      moved = and_then w me m m first.sends rest.sends first.moved rest.moved (refl, refl, refl);
      told = λ x has to member. ⊎_elim
          (λ same. subst (λ (y : Open). WasTold rest.moved.world to (Forward l.stamp y.place y.edit)) same (rest.moved.stays (record { server = to; body = Forward l.stamp o.place o.edit }) (first.told to member)))
          (λ more. rest.told x more to member) (cons_cases o os x has);
    }

pub all_forwarded : (w : ChunkWorld) (me : ℕ) (m : Member) (l : MemberLease) → w.members me ≡ m → m.lease ≡ Some l → AllForwarded w me m l l.waiting l.members
all_forwarded w me m l is lease = rows w me m l is lease l.waiting (λ o there. there) l.members (λ to there. any_of l.members to there)

-- so each forward of an edit that waits is told
pub forward_tells : (c : Setting) (handle : ℕ) (v : ChunkWorld) (list : ℕ → List Edit) (me : ℕ) (l : primary.PrimaryLease) (m : MemberLease) → ShowsLease c list l m → ((o : Open) → Contains m.waiting o → (to : ℕ) → Contains m.members to → WasTold v to (Forward m.stamp o.place o.edit))
    → (number : ℕ) (x : Waiting) → Contains l.outbox (number, x) → (to : ℕ) → Contains l.grant.members to → (carried : Option (List ℕ)) → ((b : List ℕ) → carried ≡ Some b → b ≡ x.bytes) → ServersTell c handle v (forward_of me handle l carried (number, x) to)
forward_tells c handle v list me l m shows told number x there to member carried right =
    let q = shows.waits number x there in
    let o : Open = q.0 in
    let w = q.2 in
    λ _. (tt, (m.stamp, o.place, o.edit, shows.stamp, w.numbered, w.says, carries carried o.edit (λ b is. right b is ∙ w.bytes), told o q.1 to (subst (λ ms. Contains ms to) (sym shows.members) member)))
  where
    carries : (carried : Option (List ℕ)) (e : Edit) → ((b : List ℕ) → carried ≡ Some b → b ≡ e.bytes) → CarriesBytes carried e
    carries None e right = tt
    carries (Some b) e right = right b refl

-- ---- counts that are heard

pub hears_moves : (w : ChunkWorld) (me : ℕ) (m : Member) (l : MemberLease) (from count : ℕ) → w.members me ≡ m → m.lease ≡ Some l → WasTold w from (Ack l.stamp count) → Stays w me (record m { lease = Some (machine.told_by l from count) }) []
hears_moves w me m l from count is lease told =
    subst (λ n. n.lease ≡ Some l → Stays w me (record n { lease = Some (machine.told_by l from count) }) []) is
    (λ held. moves_so w (Hears me l from count) me (record (w.members me) { lease = Some (machine.told_by l from count) }) [] (held, told) refl) lease

heard_most : (told : List ℕ) (server count j : ℕ) (m : ℕ → ℕ) → ((k : ℕ) → told_by told k ≤ m k) → told_by (heard server count told) j ≤ cond (nat_eq j server) (max (m j) count) (m j)
heard_most told server count j m most = by_case (nat_eq j server) refl
  where
    eq_same : (a b : ℕ) → nat_eq a b ≡ true → a ≡ b
    eq_same a b is = grind (arith, nat_tests)

    apart : (a b : ℕ) → nat_eq a b ≡ false → a ≡ b → ⊥
    apart a b is same = (let x : nat_eq a b ≡ true = grind (arith, nat_tests) in (cc))

    most_of : (a d n x : ℕ) → a ≤ d → x ≤ max a n → x ≤ max d n
    most_of a d n x less within = omega arith

    same_most : (k : ℕ) → k ≡ server → told_by (heard server count told) k ≤ max (m k) count
    same_most k is = subst (λ i. told_by (heard server count told) i ≤ max (m i) count) (sym is) (most_of (told_by told server) (m server) count (told_by (heard server count told) server) (most server) (set_same told server (max (told_by told server) count)))

    by_case : (b : Bool) → nat_eq j server ≡ b → told_by (heard server count told) j ≤ cond b (max (m j) count) (m j)
    by_case true is = same_most j (eq_same j server is)
    by_case false is = (let x = most j in let y = set_other told server j (max (told_by told server) count) (apart j server is) in subst (λ n. n ≤ m j) (sym y) x)

pub hears_shows : (c : Setting) (list : ℕ → List Edit) (l : primary.PrimaryLease) (m : MemberLease) (server count : ℕ) → ShowsLease c list l m → ShowsLease c list (hears server count l) (machine.told_by m server count)
hears_shows c list l m server count is = record {
  stamp = is.stamp;
  members = is.members;
  told = λ j. heard_most l.told server count j m.told is.told;
  waits = is.waits;
  opens = is.opens;
}

-- what every member has is covered
pub covered_from : (told : ℕ → ℕ) (known : List ℕ) (members : List ℕ) (place : ℕ) → ((j : ℕ) → told_by known j ≤ told j) → list_all (λ server. not (lacks known (place + 1) server)) members ≡ true → (j : ℕ) → is_of members j ≡ true → place < told j
covered_from told known members place most all j member =
    let x = all_of (λ server. not (lacks known (place + 1) server)) members j all (from_any_eq members j member) in
    let y : place + 1 ≤ told_by known j = not_lacking (place + 1) (told_by known j) x in
    let z = most j in omega arith
  where
    not_lacking : (n t : ℕ) → not (nat_lt t n) ≡ true → n ≤ t
    not_lacking n t is = grind (arith, nat_tests)

pub covered : (c : Setting) (list : ℕ → List Edit) (l : primary.PrimaryLease) (m : MemberLease) (place : ℕ) → ShowsLease c list l m → is_acknowledged l (place + 1) ≡ true → IsCovered m place
covered c list l m place is all = covered_from m.told l.told m.members place is.told (subst (λ ms. list_all (λ server. not (lacks l.told (place + 1) server)) ms ≡ true) (sym is.members) all)

-- ---- edits that are closed

-- a lease without the edits at some places
pub record IsClosed (l : MemberLease) (places : List ℕ) (k : MemberLease) : Type 0 where
  pub stamp : k.stamp ≡ l.stamp
  pub members : k.members ≡ l.members
  pub told : k.told ≡ l.told
  pub has : (o : Open) → Contains k.waiting o → Contains l.waiting o × ((p : ℕ) → Contains places p → p ≢ o.place)
  pub keeps : (o : Open) → Contains l.waiting o → ((p : ℕ) → Contains places p → p ≢ o.place) → Contains k.waiting o

pub record Closing (w : ChunkWorld) (me : ℕ) (m : Member) (l : MemberLease) (places : List ℕ) : Type 0 where
  pub lease : MemberLease
  pub is : IsClosed l places lease
  pub moved : Moved w me (record m { lease = Some lease }) []
  pub list : (t : ℕ) → moved.world.known.list t ≡ w.known.list t

closes_one : (w : ChunkWorld) (me : ℕ) (m : Member) (l : MemberLease) (place : ℕ) → w.members me ≡ m → m.lease ≡ Some l → IsCovered l place → Stays w me (record m { lease = Some (closed l place) }) []
closes_one w me m l place is lease covers =
    subst (λ n. n.lease ≡ Some l → Stays w me (record n { lease = Some (closed l place) }) []) is
    (λ held. moves_so w (Closes me l place) me (record (w.members me) { lease = Some (closed l place) }) [] (held, covers) refl) lease

not_eq : (a b : ℕ) → not (nat_eq a b) ≡ true → a ≢ b
not_eq a b is same = (let x : nat_eq a b ≡ true = grind (arith, nat_tests) in (cc))

eq_not : (a b : ℕ) → a ≢ b → not (nat_eq a b) ≡ true
eq_not a b apart = by_case (nat_eq a b) refl
  where
    by_case : (t : Bool) → nat_eq a b ≡ t → not t ≡ true
    by_case true is = elim (apart (grind (arith, nat_tests))) [ ]
    by_case false is = refl

pub closes : (w : ChunkWorld) (me : ℕ) (m : Member) (l : MemberLease) → w.members me ≡ m → m.lease ≡ Some l → (places : List ℕ) → ((p : ℕ) → Contains places p → IsCovered l p) → Closing w me m l places
closes w me m l is lease [] covers = let r = subst (λ x. Stays w me (record m { lease = x }) []) lease (rests_so w me m is) in record {
  lease = l;
  is = record { stamp = refl; members = refl; told = refl; has = λ o there. (there, λ p none. nil_contains p none); keeps = λ o there apart. there };
  moved = r.moved;
  list = r.list;
}
closes w me m l is lease (p ∷ places) covers =
    let test = λ (o : Open). not (nat_eq p o.place) in
    let so = closes_one w me m l p is lease (covers p (cons_first p places p refl)) in
    let first = so.moved in
    let n : Member = record m { lease = Some (closed l p) } in
    let rest = closes first.world me n (closed l p) first.is refl places (λ q more. covers q (cons_more p places q more)) in record {
      lease = rest.lease;
      is = record {
        stamp = rest.is.stamp;
        members = rest.is.members;
        told = rest.is.told;
        has = λ o there. let x = rest.is.has o there in
            (in_filter test l.waiting o x.0, λ q has. ⊎_elim (λ same. subst (λ y. y ≢ o.place) same (not_eq p o.place (of_filter test l.waiting o x.0))) (λ more. x.1 q more) (cons_cases p places q has));
        keeps = λ o there apart. rest.is.keeps o (into_filter test l.waiting o there (eq_not p o.place (apart p (cons_first p places p refl)))) (λ q more. apart q (cons_more p places q more));
      };
      moved = and_then w me n (record m { lease = Some rest.lease }) [] [] first rest.moved (refl, refl, refl);
      list = λ t. then_list w me n (record m { lease = Some rest.lease }) [] [] first rest.moved (refl, refl, refl) t ∙ rest.list t ∙ so.list t;
    }

-- the edits that every member has leave the outbox, and are closed
abbrev pub settled_places : primary.PrimaryLease → List ℕ
settled_places l = map (λ (e : ℕ × Waiting). e.0 - 1) (filter (λ (e : ℕ × Waiting). is_acknowledged l e.0) l.outbox)
