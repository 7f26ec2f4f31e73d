-- A client's edit at the chunk's own place: numbered, passed, repeated or refused.
use Rattle.std.proofs.Common.{◌≡◌, ℕ, ◌+◌, ◌<◌, ◌≤◌, inl, ⊎_elim, Bool, true, false, not, cond, List, [], ◌∷◌, ◌++◌, length, Option, Some, None, refl, sym, ap, subst, ◌∙◌, append_assoc, length-append, arith, ◌⊎◌, inr}
use Rattle.std.specs.Prelude.{Ok, nat_lt, ◌==◌, filter, Contains, is_some}
use Rattle.std.specs.List.{list_all, AllByRecursion}
use Rattle.std.specs.FinMap as fin
use Rattle.std.proofs.lemmas.Bool.Decides.{nat_tests}
use Rattle.std.proofs.lemmas.List.Elements.{Contains-append_left, Contains-append_right, Contains-append_cases}
use Rattle.gs_base.specs.declared.numbers.Stamp.{Stamp}
use Rattle.gs_base.specs.declared.numbers.ReqId.{ReqId}
use Rattle.gs_replica.specs.Edits.{is_old, outcome_of}
use Rattle.gs_replica.specs.Seals as replicas
use Rattle.gs_replica.specs.declared.op.Op.{Op as Applied}
use Rattle.gs_replica.specs.declared.op.Done.{Done as Last}
use Rattle.gs_replica.specs.declared.op.EditOutcome.TheVariants.{Appended}
use Rattle.gs_replica.specs.Stands.{Edit, IsTaken, StandsFor, replica_of, outcome_at}
use Rattle.gs_replica.proofs.Requests.{taken_once}
use Rattle.gs_msg.specs.declared.op.Op.{Op}
use Rattle.gs_msg.specs.declared.op.Op.TheVariants.{Write, Append, Pad}
use Rattle.gs_msg.specs.Ops.{in_replica}
use Rattle.gs_store.specs.Slots.{Live, Slot}
use Rattle.gs_store.specs.Serving.{apply, apply_to}
use Rattle.gs_store.specs.Standing.{LiveStandsFor, IsToldIn}
use Rattle.gs_store.proofs.Laws.{of_ok}
use Rattle.gs_store.proofs.Standing.{of_live}
use Rattle.gs_server_lease.specs.declared.lease.Open.{Open as Waiting}
use Rattle.gs_server_lease.specs.Leases as primary
use Rattle.gs_server_lease.specs.Leases.{hears, is_acknowledged, waits_for, forward_of, forwards, done_of, done_at_once}
use Rattle.gs_server_lease.specs.Numbering.{is_passed, is_too_long, numbered_op}
use Rattle.gs_server.specs.Places.{Place, Here, SlotBecomes, LeaseBecomes}
use Rattle.gs_server.specs.Edits.{bytes_of, as_many, bytes_or_none, applied_bytes, unless_there, opened, numbers, has_bytes}
use Rattle.gs_laws_chunk.specs.machine.Stamps.{stamp_at}
use Rattle.gs_laws_chunk.specs.machine.Machine.{Open, MemberLease, Member, Sent, ChunkWorld, WasTold, Forward, Done}
use Rattle.gs_laws_chunk.specs.machine.Events.{Numbers, IsNew, IsCovered, Step}
use Rattle.gs_laws_chunk.specs.machine.Events as machine
use Rattle.gs_laws_parts.specs.server.Showing.{Setting, setting_at, ShowsTaken, Says, Waits, ShowsLease, ShowsLeaseAt, ShowsPlace}
use Rattle.gs_laws_parts.specs.server.Telling.{ServersTell}
use Rattle.gs_laws_parts.specs.server.Moving.{Moved, FollowsServer, IsHere, LeadsWhole, Answering}
use Rattle.gs_laws_parts.specs.server.Blocks.{HoldsBlocks, GoesOn}
use Rattle.gs_laws_parts.proofs.lemmas.server.Stamps.{stamp_number}
use Rattle.gs_laws_parts.proofs.lemmas.server.Lists.{cons_first, nil_contains, cons_cases, in_filter, inserted_cases, inserted_there, inserted_stays, all_mapped, all_append}
use Rattle.gs_laws_parts.proofs.lemmas.server.Engine.{moves, moves_list, and_then, first_contains, moves_at, then_list, same_promise}
use Rattle.gs_laws_parts.proofs.lemmas.server.Places.{grows_by, counts_back, lease_grown, live_back}
use Rattle.gs_laws_parts.proofs.lemmas.server.Promising.{lives}
use Rattle.gs_laws_parts.proofs.lemmas.server.Leasing.{is_late}
use Rattle.gs_laws_parts.proofs.lemmas.server.Forwarding.{IsEdited, edited, image_kept, IsJudged, applied_judged}
use Rattle.gs_laws_parts.proofs.lemmas.server.Primary.{all_forwarded, hears_shows, covered_from, IsClosed, closes}
use Rattle.gs_msg.specs.declared.message.Message.{Message}
use Rattle.gs_laws_parts.specs.server.Answering.{AnswersEdit}
use Rattle.gs_laws_parts.specs.server.Causes.{Cause, Edits, Numbers as NumbersSo}
use Rattle.gs_laws_parts.proofs.lemmas.server.Answering.{answers_one}
use Rattle.gs_laws_parts.proofs.lemmas.server.Sending.{lease_there, either_sent}

-- ---- a request above its client's last is new

all_new : (size : ℕ) (e : Edit) (xs : List Edit) → is_old e.req.number (fin.get (replica_of size xs).done e.req.client.0) ≡ false → IsTaken size xs → (before behind : List Edit) → xs ≡ before ++ behind → AllByRecursion (λ (o : Edit). o.req.client.0 ≡ e.req.client.0 → o.req.number < e.req.number) behind
all_new size e xs fresh taken before [] is = tt
all_new size e xs fresh taken before (o ∷ behind) is = (
  (λ same. older o.req.number e.req.number (fin.get (replica_of size xs).done e.req.client.0) (subst (λ k. is_old o.req.number (fin.get (replica_of size xs).done k) ≡ true) same (subst (λ ys. is_old o.req.number (fin.get (replica_of size ys).done o.req.client.0) ≡ true) (sym is) (taken_once size before behind o (subst (IsTaken size) is taken)))) fresh),
  all_new size e xs fresh taken (before ++ o ∷ []) behind (is ∙ sym (append_assoc before (o ∷ []) behind)),
)
  where
    older : (a b : ℕ) (d : Option Last) → is_old a d ≡ true → is_old b d ≡ false → a < b
    older a b None old new = absurd (cc)
    older a b (Some d) old new = grind (arith, nat_tests)

pub is_new : (size : ℕ) (e : Edit) (xs : List Edit) → is_old e.req.number (fin.get (replica_of size xs).done e.req.client.0) ≡ false → IsTaken size xs → IsNew xs e
is_new size e xs fresh taken = all_new size e xs fresh taken [] xs refl

-- ---- an edit as it is numbered

found_is : (t : Bool) (b bytes : List ℕ) → cond t (Some b) None ≡ Some bytes → (bytes ≡ b) × (t ≡ true)
found_is true b bytes there = (cc, refl)
found_is false b bytes there = absurd (cc)

pushed_is : (asked : List ℕ) (bytes : List ℕ) (many : ℕ) (pushed : Option (List ℕ)) → ((b : List ℕ) → pushed ≡ Some b → b ≡ asked) → as_many many pushed ≡ Some bytes → (bytes ≡ asked) × (length bytes ≡ many)
pushed_is asked bytes many None right there = absurd (cc)
pushed_is asked bytes many (Some b) right there =
    let f = found_is (length b == many) b bytes there in
    (f.0 ∙ right b refl, ap length f.0 ∙ eq_same (length b) many f.1)
  where
    eq_same : (a b : ℕ) → (a == b) ≡ true → a ≡ b
    eq_same a b is = grind (arith, nat_tests)

says_of : (c : Setting) (req : ReqId) (stored : ℕ) (size : ℕ) (op : Op) (pushed : Option (List ℕ)) (bytes : List ℕ) → ((b : List ℕ) → pushed ≡ Some b → b ≡ c.bytes req) → bytes_of op None pushed ≡ Some bytes
    → Says c req (numbered_op size stored op) (record { req = req; op = in_replica (numbered_op size stored op); bytes = applied_bytes (numbered_op size stored op) bytes })
says_of c req stored size (Write offset many) pushed bytes right there = let x = pushed_is (c.bytes req) bytes many pushed right there in record { req = refl; op = refl; bytes = x.0; long = x.1 }
says_of c req stored size Pad pushed bytes right there = record { req = refl; op = refl; bytes = refl; long = refl }
says_of c req stored size (Append many) pushed bytes right there = by_case (nat_lt size (stored + many))
  where
    by_case : (b : Bool) → Says c req (cond b Pad (Append many)) (record { req = req; op = in_replica (cond b Pad (Append many)); bytes = applied_bytes (cond b Pad (Append many)) bytes })
    by_case true = record { req = refl; op = refl; bytes = refl; long = refl }
    by_case false = let x = pushed_is (c.bytes req) bytes many pushed right there in record { req = refl; op = refl; bytes = x.0; long = x.1 }

outcome_is : (op : Op) (l : Live) (long : ℕ) → length l.replica.held.chunk.bytes ≡ long → outcome_of (in_replica op) l.replica.held.chunk ≡ outcome_at (in_replica op) long
outcome_is (Write offset many) l long is = refl
outcome_is (Append many) l long is = ap (λ n. Appended n) is
outcome_is Pad l long is = refl

shorter : (xs before behind : List Edit) (o : Edit) (place : ℕ) → xs ≡ before ++ o ∷ behind → place ≡ length before → place < length xs
shorter xs before behind o place is placed = (let a : length xs ≡ length (before ++ o ∷ behind) = ap length is in let b = length-append before (o ∷ behind) in omega arith)

-- a place that is shown behind events, with what is sent, where each edit that is done is answered
record Follows2 (cause : Cause) (c : Setting) (chunk : ℕ) (w : ChunkWorld) (me epoch : ℕ) (p : Place) (sent : List Message) : Type 0 where
  follows : FollowsServer cause c chunk w me epoch p sent
  answers : AllByRecursion (AnswersEdit cause c follows.moved.world me) sent

module _ (bytes : ReqId → List ℕ) (born : ℕ) (w : ChunkWorld) (h : Here) (p : Place) where
  abbrev c : Setting
  c = setting_at bytes born h

  -- the lease under which an edit is numbered, before counts are told
  abbrev waiting_with : MemberLease → ℕ → Edit → MemberLease
  waiting_with ml place e = record ml { waiting = ml.waiting ++ (record { place = place; edit = e }) ∷ [] }

  -- what is known of the edit
  pub record IsNumbered (xs : List Edit) (x : Waiting) (e : Edit) : Type 0 where
    pub says : Says c x.req x.op e
    pub same : x.bytes ≡ e.bytes
    pub outcome : x.outcome ≡ outcome_at e.op (length (replica_of c.size xs).bytes)

  module _ (list list2 : ℕ → List Edit) (l : primary.PrimaryLease) (ml : MemberLease) (xs : List Edit) (x : Waiting) (e : Edit) (old : ShowsLease c list l ml) (is : list ml.stamp ≡ xs) (grown : ShowsLease c list2 l ml) (is2 : (more : List Edit) × (list2 ml.stamp ≡ xs ++ e ∷ more)) (numbered : IsNumbered xs x e) where
    below : (number : ℕ) (y : Waiting) (o : Open) → Waits c (list ml.stamp) number y o → o.place < length xs
    below number y o q = shorter xs q.before q.behind o.edit o.place (sym is ∙ q.stands) q.placed

    new_open : Open
    new_open = record { place = length xs; edit = e }

    new_waits : Waits c (list2 ml.stamp) (length xs + 1) x new_open
    unfolding new_open
    new_waits = record { numbered = refl; says = numbered.says; bytes = numbered.same; before = xs; behind = is2.0; stands = is2.1; placed = refl; outcome = numbered.outcome }

    -- it waits
    pub open_shows : ShowsLease c list2 (waits_for (length xs + 1) x l) (waiting_with ml (length xs) e)
    unfolding new_open
    open_shows = record {
      stamp = grown.stamp;
      members = grown.members;
      told = grown.told;
      waits = λ number y there. ⊎_elim
          (λ before. let q = grown.waits number y before in (q.0, Contains-append_left ml.waiting (new_open ∷ []) q.0 q.1, q.2))
          (λ new. (new_open, Contains-append_right ml.waiting (new_open ∷ []) new_open (first_contains new_open []), subst (λ n. Waits c (list2 ml.stamp) n y new_open) (sym new.0) (subst (λ z. Waits c (list2 ml.stamp) (length xs + 1) z new_open) (sym new.1) new_waits)))
          (inserted_cases l.outbox (length xs + 1) x number y there);
      opens = λ o there. ⊎_elim
          (λ before. let q = grown.opens o before in let b = old.opens o before in (q.0, q.1, inserted_stays l.outbox (length xs + 1) x q.0 q.1 (λ same. absurd (let lower = below b.0 b.1 o b.3 in let n = q.3.numbered in omega arith)) q.2, q.3))
          (λ new. ⊎_elim (λ same. (length xs + 1, x, inserted_there l.outbox (length xs + 1) x, subst (Waits c (list2 ml.stamp) (length xs + 1) x) same new_waits)) (λ none. nil_contains o none) (cons_cases new_open [] o new))
          (Contains-append_cases ml.waiting (new_open ∷ []) o there);
    }

    -- or it is closed at once
    pub closed_shows : (number : ℕ) (me : ℕ) (k : MemberLease) → IsClosed (machine.told_by (waiting_with ml (length xs) e) me number) (length xs ∷ []) k → ShowsLease c list2 (hears me number l) k
    unfolding new_open
    closed_shows number me k closed =
        let heard = hears_shows c list2 l ml me number grown in record {
          stamp = grown.stamp ∙ ap stamp_at (sym closed.stamp);
          members = closed.members ∙ grown.members;
          told = λ j. subst (λ (f : ℕ → ℕ). primary.told_by (hears me number l).told j ≤ f j) (sym closed.told) (heard.told j);
          waits = λ n y there.
              let q = grown.waits n y there in
              (q.0, closed.keeps q.0 (Contains-append_left ml.waiting (new_open ∷ []) q.0 q.1) (λ place has same. ⊎_elim (λ first. absurd (let lower = below_grown n y q.0 there q.1 q.2 in omega arith)) (λ none. nil_contains place none) (cons_cases (length xs) [] place has)), subst (λ t. Waits c (list2 t) n y q.0) (sym closed.stamp) q.2);
          opens = λ o there.
              let has = closed.has o there in
              ⊎_elim
              (λ before. let q = grown.opens o before in (q.0, q.1, q.2, subst (λ t. Waits c (list2 t) q.0 q.1 o) (sym closed.stamp) q.3))
              (λ new. ⊎_elim (λ same. elim (has.1 (length xs) (cons_first (length xs) [] (length xs) refl) (ap (λ (z : Open). z.place) same)) [ ]) (λ none. nil_contains o none) (cons_cases new_open [] o new))
              (Contains-append_cases ml.waiting (new_open ∷ []) o has.0);
        }
      where
        below_grown : (n : ℕ) (y : Waiting) (o : Open) → Contains l.outbox (n, y) → Contains ml.waiting o → Waits c (list2 ml.stamp) n y o → o.place < length xs
        below_grown n y o there has q = (let b = old.opens o has in below b.0 b.1 o b.3)

  -- ---- it is numbered

  -- what is known where an edit is numbered
  record IsLed (op : Op) (l : primary.PrimaryLease) (ml : MemberLease) (xs : List Edit) (x : Waiting) (e : Edit) (s : Slot) : Type 0 where
    held : p.lease ≡ Some l
    lease : (w.members h.me).lease ≡ Some ml
    shows : ShowsLease c w.known.list l ml
    stamp : ml.stamp ≡ (w.members h.me).promise
    live : (w.members h.me).live ≡ Some xs
    late : born ≤ h.epoch
    whole : w.known.list (w.members h.me).promise ≡ xs
    fresh : IsNew xs e
    made : IsEdited h.block h.chunk p.slot (w.members h.me) xs e s
    numbered : IsNumbered xs x e
    padded : x.op ≡ numbered_op h.chunk (length (replica_of h.chunk xs).bytes) op
    short : is_too_long h.chunk op ≡ false
    fits : is_passed h.chunk (length (replica_of h.chunk xs).bytes) op ≡ false
    within : length (replica_of h.chunk xs).bytes ≤ h.chunk

  -- the place behind it
  numbered_place : IsHere bytes born w h p → (op : Op) (l : primary.PrimaryLease) (ml : MemberLease) (xs : List Edit) (x : Waiting) (e : Edit) (s : Slot) → IsLed op l ml xs x e s → (lease : primary.PrimaryLease) (k : MemberLease) (sends : List Sent)
      → (moved : Moved w h.me (record (w.members h.me) { live = Some (xs ++ e ∷ []); lease = Some k }) sends) → ShowsLease c moved.world.known.list lease k
      → ShowsPlace c moved.world.known h.epoch (record { slot = s; lease = Some lease }) (record (w.members h.me) { live = Some (xs ++ e ∷ []); lease = Some k })
  numbered_place here op l ml xs x e s led lease k sends moved shown =
      let m : Member = w.members h.me in
      let made = led.made in
      let late = led.late in
      let g = grows_by w h.me _ sends moved in record {
        epoch_is = here.shows.epoch_is;
        early = λ early. absurd (omega arith);
        promise = made.promise ∙ here.shows.promise;
        carried = here.shows.carried ∙ sym made.carried;
        live = made.stands;
        image = image_kept c p.slot s m.image made.sealed here.shows.image;
        taken = subst (λ o. ShowsTaken o m.taken) (sym made.taken) here.shows.taken;
        lease = shown;
        promised = λ _. here.shows.promised (ap is_some led.live);
        intact = λ whole. let y = here.shows.intact whole in (λ counts. made.undamaged (y.0 (live_back w.known moved.world.known m.epoch g counts)), λ counts. made.sealed.undamaged (y.1 (counts_back w.known moved.world.known m.epoch g counts)));
      }

  -- the forwards to the others
  sent_tells : (v : ChunkWorld) (l : primary.PrimaryLease) (ml : MemberLease) (xs : List Edit) (x : Waiting) (e : Edit) (lease : primary.PrimaryLease) → l.grant.stamp ≡ stamp_at ml.stamp → Says c x.req x.op e → ((to : ℕ) → Contains l.grant.members to → WasTold v to (Forward ml.stamp (length xs) e))
      → AllByRecursion (ServersTell c h.handle v) (forwards h.me h.handle l (length xs + 1, x) ++ done_at_once h.me (length xs + 1) x l)
  sent_tells v l ml xs x e lease stamp says told =
      all_append (ServersTell c h.handle v) (forwards h.me h.handle l (length xs + 1, x)) (done_at_once h.me (length xs + 1) x l)
      (all_mapped (ServersTell c h.handle v) (forward_of h.me h.handle l None (length xs + 1, x)) (filter (λ server. not (server == h.me)) l.grant.members) (λ to member. λ _. (tt, (ml.stamp, length xs, e, stamp, refl, says, tt, told to (in_filter (λ server. not (server == h.me)) l.grant.members to member)))))
      (either_sent (ServersTell c h.handle v) (is_acknowledged (hears h.me (length xs + 1) l) (length xs + 1)) (done_of h.me (length xs + 1, x) ∷ []) [] (tt, tt) tt)

  module _ (here : IsHere bytes born w h p) (op : Op) (l : primary.PrimaryLease) (ml : MemberLease) (xs : List Edit) (x : Waiting) (e : Edit) (s : Slot) (led : IsLed op l ml xs x e s) where
    abbrev n : MemberLease → Member
    n k = record (w.members h.me) { live = Some (xs ++ e ∷ []); lease = Some k }

    abbrev ol : MemberLease
    ol = machine.opened h.me ml (length xs) e

    -- the list has it, and it goes to each member
    record Sends (b : Bool) : Type 0 where
      sends : List Sent
      moved : Moved w h.me (n ol) sends
      list : moved.world.known.list ml.stamp ≡ xs ++ e ∷ []
      goes : (t : ℕ) → (moved.world.known.list t ≡ w.known.list t) ⊎ ((moved.world.known.list t ≡ w.known.list t ++ e ∷ []) × (w.known.list t ≡ xs) × (t ≡ (w.members h.me).promise))
      told : (to : ℕ) → Contains l.grant.members to → WasTold moved.world to (Forward ml.stamp (length xs) e)

    sends_all : Sends true
    unfolding and_then
    sends_all =
        let st : Step = record { member = n ol; sends = []; edits = e ∷ [] } in
        let first = moves w (Numbers h.me ml xs e) h.me st (led.lease, led.live, led.fresh) refl in
        let list = moves_list w (Numbers h.me ml xs e) h.me st (led.lease, led.live, led.fresh) refl in
        let at = moves_at w (Numbers h.me ml xs e) h.me st (led.lease, led.live, led.fresh) refl in
        let all = all_forwarded first.world h.me (n ol) ol first.is refl in record {
          sends = [] ++ all.sends;
          moved = and_then w h.me (n ol) (n ol) [] all.sends first all.moved (refl, refl, refl);
          list = all.list ml.stamp ∙ ap first.world.known.list led.stamp ∙ list ∙ ap (λ ys. ys ++ e ∷ []) led.whole;
          goes = λ t. ⊎_elim
              (λ same. inl (all.list t ∙ same))
              (λ more. inr (all.list t ∙ more.0, ap w.known.list more.1 ∙ led.whole, more.1))
              (at t);
          told = λ to member. all.told (record { place = length xs; edit = e }) (Contains-append_right ml.waiting ((record { place = length xs; edit = e }) ∷ []) (record { place = length xs; edit = e }) (first_contains (record { place = length xs; edit = e }) [])) to (subst (λ ms. Contains ms to) (sym led.shows.members) member);
        }

    -- a list goes on where it was numbered
    goes_on : (t : ℕ) (ys : List Edit) → (ys ≡ w.known.list t) ⊎ ((ys ≡ w.known.list t ++ e ∷ []) × (w.known.list t ≡ xs) × (t ≡ (w.members h.me).promise)) → GoesOn c s (w.known.list t) ys
    goes_on t ys goes = ⊎_elim
        (λ same. inl same)
        (λ (more : (ys ≡ w.known.list t ++ e ∷ []) × (w.known.list t ≡ xs) × (t ≡ (w.members h.me).promise)).
        inr (record {
          edit = e;
          is = more.0;
          holds =
              subst (λ zs. HoldsBlocks h.block h.chunk s (w.known.list t) zs) (sym more.0)
              (subst (λ zs. HoldsBlocks h.block h.chunk s zs (zs ++ e ∷ [])) (sym more.1) (let made = led.made in made.holds));
        }))
        goes

    numbers_on : (k : MemberLease) (t : ℕ) (ys : List Edit) → (ys ≡ w.known.list t) ⊎ ((ys ≡ w.known.list t ++ e ∷ []) × (w.known.list t ≡ xs) × (t ≡ (w.members h.me).promise)) → NumbersSo (Edits l.grant.stamp x.req op) c (w.members h.me) (n k) t (w.known.list t) ys
    numbers_on k t ys goes = ⊎_elim
        (λ same. inl same)
        (λ (more : (ys ≡ w.known.list t ++ e ∷ []) × (w.known.list t ≡ xs) × (t ≡ (w.members h.me).promise)).
        inr (record {
          edit = e;
          is = more.0;
          under = more.2;
          had = led.live ∙ ap (λ (zs : List Edit). Some zs) (sym more.1);
          has = ap (λ (zs : List Edit). Some (zs ++ e ∷ [])) (sym more.1) ∙ ap (λ (zs : List Edit). Some zs) (sym more.0);
          asked_is = led.shows.stamp ∙ ap stamp_at (led.stamp ∙ sym more.2);
          says = subst (λ o. Says c x.req o e) (led.padded ∙ ap (λ zs. numbered_op h.chunk (length (replica_of h.chunk zs).bytes) op) (sym more.1)) led.numbered.says;
          short = led.short;
          fits = ap (λ zs. is_passed h.chunk (length (replica_of h.chunk zs).bytes) op) more.1 ∙ led.fits;
          within = subst (λ zs. length (replica_of h.chunk zs).bytes ≤ h.chunk) (sym more.1) led.within;
        }))
        goes

    list_is : w.known.list ml.stamp ≡ xs
    list_is = ap w.known.list led.stamp ∙ led.whole

    -- what is said of edits that are done
    forwards_answer : (v : ChunkWorld) → AllByRecursion (AnswersEdit (Edits l.grant.stamp x.req op) c v h.me) (forwards h.me h.handle l (length xs + 1, x))
    forwards_answer v = all_mapped (AnswersEdit (Edits l.grant.stamp x.req op) c v h.me) (forward_of h.me h.handle l None (length xs + 1, x)) (filter (λ server. not (server == h.me)) l.grant.members) (λ to member. tt)

    -- it waits for the members
    waits_outcome : (b : Bool) → Sends b → is_acknowledged (hears h.me (length xs + 1) l) (length xs + 1) ≡ false → Follows2 (Edits l.grant.stamp x.req op) c h.handle w h.me h.epoch (record { slot = s; lease = Some (waits_for (length xs + 1) x (hears h.me (length xs + 1) l)) }) (forwards h.me h.handle l (length xs + 1, x) ++ done_at_once h.me (length xs + 1) x l)
    waits_outcome b all unknown =
        let g = grows_by w h.me (n ol) all.sends all.moved in
        let grown = lease_grown c w.known all.moved.world.known g l ml led.shows in
        let shown = hears_shows c all.moved.world.known.list (waits_for (length xs + 1) x l) (waiting_with ml (length xs) e) h.me (length xs + 1) (open_shows w.known.list all.moved.world.known.list l ml xs x e led.shows list_is grown ([], all.list) led.numbered) in record {
          follows = record {
            member = n ol;
            sends = all.sends;
            moved = all.moved;
            lists = λ t. goes_on t (all.moved.world.known.list t) (all.goes t);
            numbers = λ t. numbers_on ol t (all.moved.world.known.list t) (all.goes t);
            intact = λ spared whole. whole;
            gains = same_promise (w.members h.me) (n ol) refl;
            shows = numbered_place here op l ml xs x e s led (waits_for (length xs + 1) x (hears h.me (length xs + 1) l)) ol all.sends all.moved shown;
            tells = sent_tells all.moved.world l ml xs x e l led.shows.stamp led.numbered.says all.told;
          };
          answers = all_append (AnswersEdit (Edits l.grant.stamp x.req op) c all.moved.world h.me) (forwards h.me h.handle l (length xs + 1, x)) (done_at_once h.me (length xs + 1) x l) (forwards_answer all.moved.world)
              (subst (λ b. AllByRecursion (AnswersEdit (Edits l.grant.stamp x.req op) c all.moved.world h.me) (cond b (done_of h.me (length xs + 1, x) ∷ []) [])) (sym unknown) tt);
        }

    covers : is_acknowledged (hears h.me (length xs + 1) l) (length xs + 1) ≡ true → (place : ℕ) → Contains (length xs ∷ []) place → IsCovered ol place
    covers known place has = ⊎_elim
        (λ same. subst (IsCovered ol) same (covered_from ol.told (hears h.me (length xs + 1) l).told ol.members (length xs) (hears_shows c w.known.list l ml h.me (length xs + 1) led.shows).told (subst (λ ms. list_all (λ server. not (primary.lacks (hears h.me (length xs + 1) l).told (length xs + 1) server)) ms ≡ true) (sym led.shows.members) known)))
        (λ none. nil_contains place none) (cons_cases (length xs) [] place has)

    -- each member has it at once
    closes_outcome : (b : Bool) → Sends b → is_acknowledged (hears h.me (length xs + 1) l) (length xs + 1) ≡ true → Follows2 (Edits l.grant.stamp x.req op) c h.handle w h.me h.epoch (record { slot = s; lease = Some (hears h.me (length xs + 1) l) }) (forwards h.me h.handle l (length xs + 1, x) ++ done_at_once h.me (length xs + 1) x l)
    unfolding and_then
    closes_outcome b all known =
        let o : Open = record { place = length xs; edit = e } in
        let answered_so = answers_one all.moved.world h.me (n ol) ol o all.moved.is refl led.stamp (Contains-append_right ml.waiting (o ∷ []) o (first_contains o [])) (covers known (length xs) (cons_first (length xs) [] (length xs) refl)) in
        let answered = answered_so.moved in
        let closing = closes answered.world h.me (n ol) ol answered.is refl (length xs ∷ []) (covers known) in
        let then = and_then all.moved.world h.me (n ol) (n closing.lease) (machine.one h.me (Done ml.stamp (length xs) e)) [] answered closing.moved (refl, refl, refl) in
        let moved = and_then w h.me (n ol) (n closing.lease) all.sends (machine.one h.me (Done ml.stamp (length xs) e) ++ []) all.moved then (refl, refl, refl) in
        let g = grows_by w h.me (n closing.lease) (all.sends ++ (machine.one h.me (Done ml.stamp (length xs) e) ++ [])) moved in
        let grown = lease_grown c w.known moved.world.known g l ml led.shows in
        let more = then.grows ml.stamp in
        let list : (rest : List Edit) × (moved.world.known.list ml.stamp ≡ xs ++ e ∷ rest) = (more.0, more.1 ∙ ap (λ ys. ys ++ more.0) all.list ∙ append_assoc xs (e ∷ []) more.0) in
        let shown = closed_shows w.known.list moved.world.known.list l ml xs x e led.shows list_is grown list led.numbered (length xs + 1) h.me closing.lease closing.is in
        let done_there : WasTold moved.world h.me (Done ml.stamp (length xs) e) = closing.moved.stays (record { server = h.me; body = Done ml.stamp (length xs) e }) (answered.says (record { server = h.me; body = Done ml.stamp (length xs) e }) (first_contains (record { server = h.me; body = Done ml.stamp (length xs) e }) [])) in record {
          follows = record {
            member = n closing.lease;
            sends = all.sends ++ (machine.one h.me (Done ml.stamp (length xs) e) ++ []);
            moved = moved;
            intact = λ spared whole. whole;
            gains = same_promise (w.members h.me) (n closing.lease) refl;
            lists = λ t.
                let same : moved.world.known.list t ≡ all.moved.world.known.list t =
                then_list w h.me (n ol) (n closing.lease) all.sends (machine.one h.me (Done ml.stamp (length xs) e) ++ []) all.moved then (refl, refl, refl) t
                ∙ then_list all.moved.world h.me (n ol) (n closing.lease) (machine.one h.me (Done ml.stamp (length xs) e)) [] answered closing.moved (refl, refl, refl) t
                ∙ closing.list t ∙ answered_so.list t in
                subst (GoesOn c s (w.known.list t)) (sym same) (goes_on t (all.moved.world.known.list t) (all.goes t));
            numbers = λ t.
                let same : moved.world.known.list t ≡ all.moved.world.known.list t =
                then_list w h.me (n ol) (n closing.lease) all.sends (machine.one h.me (Done ml.stamp (length xs) e) ++ []) all.moved then (refl, refl, refl) t
                ∙ then_list all.moved.world h.me (n ol) (n closing.lease) (machine.one h.me (Done ml.stamp (length xs) e)) [] answered closing.moved (refl, refl, refl) t
                ∙ closing.list t ∙ answered_so.list t in
                subst (NumbersSo (Edits l.grant.stamp x.req op) c (w.members h.me) (n closing.lease) t (w.known.list t)) (sym same) (numbers_on closing.lease t (all.moved.world.known.list t) (all.goes t));
            shows = numbered_place here op l ml xs x e s led (hears h.me (length xs + 1) l) closing.lease (all.sends ++ (machine.one h.me (Done ml.stamp (length xs) e) ++ [])) moved shown;
            tells = sent_tells moved.world l ml xs x e l led.shows.stamp led.numbered.says (λ to member. then.stays (record { server = to; body = Forward ml.stamp (length xs) e }) (all.told to member));
          };
          answers = all_append (AnswersEdit (Edits l.grant.stamp x.req op) c moved.world h.me) (forwards h.me h.handle l (length xs + 1, x)) (done_at_once h.me (length xs + 1) x l) (forwards_answer moved.world)
              (subst (λ b. AllByRecursion (AnswersEdit (Edits l.grant.stamp x.req op) c moved.world h.me) (cond b (done_of h.me (length xs + 1, x) ∷ []) [])) (sym known)
              (inl (record { stamp = ml.stamp; edit = e; before = xs; behind = list.0; told = done_there; req = (let y = led.numbered.says in y.req); stands = list.1; is = (let y = led.numbered in y.outcome) }), tt));
        }

    number_it : Answering (Edits l.grant.stamp x.req op) bytes born w h p (numbers h s l (length xs + 1) x)
    number_it = by_case (is_acknowledged (hears h.me (length xs + 1) l) (length xs + 1)) refl
      where
        by_case : (b : Bool) → is_acknowledged (hears h.me (length xs + 1) l) (length xs + 1) ≡ b
            → Answering (Edits l.grant.stamp x.req op) bytes born w h p (record { slot = SlotBecomes s; lease = LeaseBecomes (cond b (hears h.me (length xs + 1) l) (waits_for (length xs + 1) x (hears h.me (length xs + 1) l))); kept = None; used = has_bytes x.op; sent = forwards h.me h.handle l (length xs + 1, x) ++ done_at_once h.me (length xs + 1) x l; said = None })
        by_case true is = let y = closes_outcome true sends_all is in record { follows = y.follows; answers = y.answers }
        by_case false is = let y = waits_outcome true sends_all is in record { follows = y.follows; answers = y.answers }

  -- ---- any edit

  judged : (stamp : Stamp) (number : ℕ) (req : ReqId) (op : Applied) (found : List ℕ) (l : Live) → p.slot.live ≡ Some l → (s : Slot) → apply stamp number req op found p.slot ≡ Ok s → IsJudged stamp number req l.replica.held
  judged stamp number req op found l is s applied =
      of_ok (λ x. IsJudged stamp number req l.replica.held) (apply_to stamp number req op found p.slot (Some l)) s (subst (λ o. apply_to stamp number req op found p.slot o ≡ Ok s) is applied)
      (of_live (λ x. IsJudged stamp number req l.replica.held) p.slot l.bad (replicas.apply stamp number req op found l.replica) (λ r e. applied_judged stamp number req op found l.replica r e))

  there_is : (o : Option (List ℕ)) → unless_there o ≡ None → o ≡ Some (bytes_or_none o)
  there_is None none = absurd (cc)
  there_is (Some b) none = refl

  pub numbered : IsHere bytes born w h p → ((xs : List Edit) → (w.members h.me).live ≡ Some xs → IsToldIn h.block h.chunk p.slot xs) → LeadsWhole w h.me → (req : ReqId) (op : Op) (found : List ℕ) → ((b : List ℕ) → h.pushed ≡ Some b → b ≡ bytes req) → bytes_of op None h.pushed ≡ Some found
      → (live : Live) (l : primary.PrimaryLease) → p.slot.live ≡ Some live → p.lease ≡ Some l → is_too_long h.chunk op ≡ false → is_passed h.chunk (length live.replica.held.chunk.bytes) op ≡ false → (s : Slot) → apply l.grant.stamp (live.replica.held.count + 1) req (in_replica (numbered_op h.chunk (length live.replica.held.chunk.bytes) op)) (applied_bytes (numbered_op h.chunk (length live.replica.held.chunk.bytes) op) found) p.slot ≡ Ok s
      → Answering (Edits l.grant.stamp req op) bytes born w h p (numbers h s l (live.replica.held.count + 1) (opened req (numbered_op h.chunk (length live.replica.held.chunk.bytes) op) found live))
  numbered here told whole req op found right there live l is held short fits s applied =
      let m : Member = w.members h.me in
      let y = lives c p.slot m.live here.shows.live (ap is_some is) in
      let xs : List Edit = y.0 in
      let stands : StandsFor h.block h.chunk live.replica.held xs = subst (λ o. LiveStandsFor h.block h.chunk o xs) is y.2 in
      let q = lease_there c w.known.list l m.lease (subst (λ o. ShowsLeaseAt c w.known.list o m.lease) held here.shows.lease) in
      let ml : MemberLease = q.0 in
      let nop : Op = numbered_op h.chunk (length live.replica.held.chunk.bytes) op in
      let e : Edit = record { req = req; op = in_replica nop; bytes = applied_bytes nop found } in
      let x : Waiting = opened req nop found live in
      let stamp : ml.stamp ≡ m.promise = stamp_number ml.stamp m.promise (sym q.2.stamp ∙ here.leased l held ∙ here.shows.promise) in
      let judge = judged l.grant.stamp (live.replica.held.count + 1) req (in_replica nop) (applied_bytes nop found) live is s applied in
      let fresh : is_old req.number (fin.get (replica_of h.chunk xs).done req.client.0) ≡ false = subst (λ d. is_old req.number (fin.get d req.client.0) ≡ false) stands.done judge.fresh in
      let written = stands.bytes in
      let led : IsLed op l ml xs x e s = record {
        held = held;
        lease = q.1;
        shows = q.2;
        stamp = stamp;
        live = y.1;
        late = is_late bytes born w h p here (ap is_some is);
        whole = (whole ml xs q.1 stamp y.1).0;
        fresh = is_new h.chunk e xs fresh stands.taken;
        made = edited h.block h.chunk p.slot m xs l.grant.stamp (live.replica.held.count + 1) req (in_replica nop) (applied_bytes nop found) s y.2 (told xs y.1) applied;
        padded = ap (λ n. numbered_op h.chunk n op) written.long;
        short = short;
        fits = ap (λ n. is_passed h.chunk n op) (sym written.long) ∙ fits;
        within = (let long = written.long in let stored = written.stored in let fit = stored.bytes_fit in let size = stands.chunk in omega arith);
        numbered = record { says = says_of c req (length live.replica.held.chunk.bytes) h.chunk op h.pushed found right there; same = refl; outcome = outcome_is nop live (length (replica_of h.chunk xs).bytes) written.long };
      } in
      subst (λ k. Answering (Edits l.grant.stamp req op) bytes born w h p (numbers h s l (k + 1) x)) (sym stands.count) (number_it here op l ml xs x e s led)
