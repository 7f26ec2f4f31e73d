-- Promises that are made and kept: create, advance, copyout and copyin at the chunk's own place.
use Rattle.std.proofs.Common.{◌≡◌, ℕ, ◌<◌, ◌≤◌, inl, inr, Bool, true, false, cond, List, [], ◌∷◌, length, Option, Some, None, refl, sym, ap, subst, ◌∙◌, arith}
use Rattle.std.specs.Prelude.{Result, Ok, Err, is_some, ◌&&◌, ◌||◌}
use Rattle.std.specs.List.{AllByRecursion}
use Rattle.gs_base.specs.declared.numbers.Stamp.{Stamp}
use Rattle.gs_base.specs.declared.numbers.ReqId.{ReqId}
use Rattle.gs_base.specs.declared.refusal.Refusal.{Refusal}
use Rattle.gs_base.specs.declared.refusal.Refusal.TheVariants as refusals
use Rattle.gs_base.specs.Stamps.{is_before, is_same}
use Rattle.gs_replica.specs.Edits.{fresh}
use Rattle.gs_replica.specs.Stands.{Edit, StoodFor}
use Rattle.gs_msg.specs.declared.node.NodeId.TheVariants as nodes
use Rattle.gs_msg.specs.declared.message.Message.{Message}
use Rattle.gs_msg.specs.declared.chunk.Chunk.TheVariants as chunks
use Rattle.gs_store.specs.Slots.{Live, Slot, first_of, when, unless_live, if_bad, sealed_of, replaced, again, risen, live_under, held_under, count_of}
use Rattle.gs_store.specs.Slots as slots
use Rattle.gs_store.specs.Standing.{StandsIn, StoodIn, LiveUndamaged}
use Rattle.gs_store.specs.Whole.{LiveUnder}
use Rattle.gs_store.proofs.Laws.{not_old, Holds, of_cond, of_unless, replaced_stays, risen_stays}
use Rattle.gs_store.proofs.Standing.{fresh_in, risen_stands, count_stands}
use Rattle.gs_server_lease.specs.Leases as primary
use Rattle.gs_server.specs.Places.{Place, Here, Part, LeaseStays, LeaseSpent, slot_after, marked_by, tells_bad, lease_after, of_promise, after, about, or_else, other_epoch, promising, refused, damaged_block, count_or_none}
use Rattle.gs_server.specs.Promises.{promised, unpromised, promises}
use Rattle.gs_server.specs.Promises as messages
use Rattle.gs_server.proofs.Walks.{of_epoch}
use Rattle.gs_laws_chunk.specs.machine.Stamps.{epoch_of, stamp_at}
use Rattle.gs_laws_chunk.specs.machine.Machine.{Member, ChunkWorld, WasTold, Create, Advance, Promised}
use Rattle.gs_laws_chunk.specs.machine.Events.{Raises, Rises, Promises, Brings, AsksAgain, one, raised, or_image}
use Rattle.gs_laws_parts.specs.server.Showing.{Setting, setting_at, ShowsLive, ShowsImage, ShowsTaken, ShowsLeaseAt, SealUndamaged, SealCounts, ShowsPlace, LiveCounts}
use Rattle.gs_laws_parts.specs.server.Telling.{TellsServer, ServersTell}
use Rattle.gs_laws_parts.specs.server.Moving.{FollowsServer, IsHere, FollowsPart}
use Rattle.gs_laws_parts.specs.server.Causes.{Calm}
use Rattle.gs_laws_parts.proofs.lemmas.server.Stamps.{is_itself, epoch_rises, stamp_number, before_less, same_stamp, neither_same, before_other, never_same, epoch_is}
use Rattle.gs_laws_parts.proofs.lemmas.server.Engine.{stays_put, said_one, moves_so, Stays, same_promise}
use Rattle.gs_laws_parts.proofs.lemmas.server.Places.{grows_by, counts_back, place_grown, marked_shows, live_back}

pub lives : (c : Setting) (s : Slot) (o : Option (List Edit)) → ShowsLive c s o → is_some s.live ≡ true → (edits : List Edit) × (o ≡ Some edits) × StandsIn c.block c.size s edits
lives c s None is live = absurd (let none : is_some s.live ≡ false = ap is_some is in (cc))
lives c s (Some edits) is live = (edits, refl, is)

-- a lease whose stamp isn't the promise any more is spent, and that of the promise stays
spent : (lease : Option primary.PrimaryLease) (promise stamp : Stamp) → ((l : primary.PrimaryLease) → lease ≡ Some l → l.grant.stamp ≡ promise) → is_before promise stamp ≡ true → lease_after lease (of_promise stamp lease) ≡ None
spent None promise stamp leased above = refl
spent (Some l) promise stamp leased above = by_case (is_same l.grant.stamp stamp) refl
  where
    by_case : (b : Bool) → is_same l.grant.stamp stamp ≡ b → lease_after (Some l) (cond b LeaseStays LeaseSpent) ≡ None
    by_case true is = never_same stamp (subst (λ x. is_before x stamp ≡ true) (sym (leased l refl) ∙ same_stamp l.grant.stamp stamp is) above)
    by_case false is = refl

kept : (lease : Option primary.PrimaryLease) (promise : Stamp) → ((l : primary.PrimaryLease) → lease ≡ Some l → l.grant.stamp ≡ promise) → lease_after lease (of_promise promise lease) ≡ lease
kept None promise leased = refl
kept (Some l) promise leased = by_case (is_same l.grant.stamp promise) refl
  where
    by_case : (b : Bool) → is_same l.grant.stamp promise ≡ b → lease_after (Some l) (cond b LeaseStays LeaseSpent) ≡ Some l
    by_case true is = refl
    by_case false is = absurd (let yes : is_same l.grant.stamp promise ≡ true = subst (λ x. is_same l.grant.stamp x ≡ true) (leased l refl) (is_itself l.grant.stamp) in (cc))

or_true : (a b : Bool) → b ≡ true → (a || b) ≡ true
or_true true b is = refl
or_true false b is = is

or_left : (a b : Bool) → a ≡ true → (a || b) ≡ true
or_left true b is = refl
or_left false b is = absurd (cc)

pub again_holds : (P : Slot → Type 0) (stamp : Stamp) (s : Slot) → (is_same stamp s.promise ≡ true → is_some s.live ≡ true → P s) → Holds P (again stamp s)
again_holds P stamp s each = by_case (is_same stamp s.promise) (is_some s.live) each
  where
    by_case : (a b : Bool) → (a ≡ true → b ≡ true → P s) → Holds P (cond (a && b) (Ok s) (Err refusals.Old))
    by_case true true each = each refl refl
    by_case true false each = tt
    by_case false b each = tt

pub holds_from : (P : Slot → Type 0) (m : Result Slot Refusal) → ((s : Slot) → m ≡ Ok s → P s) → Holds P m
holds_from P (Ok s) each = each s refl
holds_from P (Err e) each = tt

module _ (bytes : ReqId → List ℕ) (born : ℕ) (w : ChunkWorld) (h : Here) (p : Place) where
  abbrev c : Setting
  c = setting_at bytes born h

  abbrev Comes : Part → Type 0
  Comes part = FollowsPart bytes born w h p part

  pub or_outcome : (o : Option Refusal) (refuses : Refusal → Part) (part : Part) → ((e : Refusal) → Comes (refuses e)) → (o ≡ None → Comes part) → Comes (or_else o refuses part)
  or_outcome None refuses part each then = then refl
  or_outcome (Some e) refuses part each then = each e

  pub either_outcome : (b : Bool) (x y : Part) → (b ≡ true → Comes x) → (b ≡ false → Comes y) → Comes (cond b x y)
  either_outcome true x y first second = first refl
  either_outcome false x y first second = second refl

  -- nothing happens in the machine, and what is sent says nothing to it
  pub nothing_happens : ShowsPlace c w.known h.epoch p (w.members h.me) → (sent : List Message) → AllByRecursion (ServersTell c h.handle w) sent → FollowsServer Calm c h.handle w h.me h.epoch p sent
  nothing_happens shows sent tells = stays_put c h.handle w h.me h.epoch p sent shows tells

  -- ---- a promise that is raised

  abbrev pub SealRaised : Option (List Edit) → Slot → Type 0
  SealRaised None s = sealed_of s ≡ sealed_of p.slot
  SealRaised (Some i) s = StoodIn h.block h.chunk s i × SealUndamaged (sealed_of s)

  pub record IsRaised (stamp : Stamp) (edits : List Edit) (image : Option (List Edit)) (s : Slot) : Type 0 where
    pub promise : s.promise ≡ stamp
    pub carried : s.carried ≡ is_some image
    pub stands : StandsIn h.block h.chunk s edits
    pub undamaged : (is_some image || (w.members h.me).intact) ≡ true → LiveCounts w.known (w.members h.me).epoch → LiveUndamaged s.live
    pub taken : s.taken ≡ p.slot.taken
    pub sealed : SealRaised image s

  image_raised : (image : Option (List Edit)) (s : Slot) (o : Option (List Edit)) → SealRaised image s → ShowsImage c p.slot o → ShowsImage c s (or_image image o)
  image_raised None s None is shown = is ∙ shown
  image_raised None s (Some edits) is shown = subst (λ x. StoodFor h.block h.chunk x edits) (sym is) shown
  image_raised (Some i) s o is shown = is.0

  seal_raised : (image : Option (List Edit)) (s : Slot) (counts : Type 0) → SealRaised image s → ((w.members h.me).intact ≡ true → counts → SealUndamaged (sealed_of p.slot)) → (is_some image || (w.members h.me).intact) ≡ true → counts → SealUndamaged (sealed_of s)
  seal_raised None s counts is old whole count = subst SealUndamaged (sym is) (old whole count)
  seal_raised (Some i) s counts is old whole count = is.1

  pub epoch_same : IsHere bytes born w h p → (stamp : Stamp) (t : ℕ) → stamp ≡ stamp_at t → born ≤ epoch_of t → stamp.epoch ≡ h.epoch → (born ≤ h.epoch) × (epoch_of t ≡ (w.members h.me).epoch)
  epoch_same here stamp t is after epoch =
      let same : epoch_of t ≡ h.epoch = sym (epoch_is t) ∙ ap (λ (x : Stamp). x.epoch) (sym is) ∙ epoch in
      let late : born ≤ h.epoch = subst (λ n. born ≤ n) same after in
      (late, same ∙ sym (here.shows.epoch_is late))

  above_less : IsHere bytes born w h p → (stamp : Stamp) (t : ℕ) → stamp ≡ stamp_at t → is_before p.slot.promise stamp ≡ true → (w.members h.me).promise < t
  above_less here stamp t is above =
      before_less (w.members h.me).promise t (subst (λ x. is_before x (stamp_at t) ≡ true) here.shows.promise (subst (λ x. is_before p.slot.promise x ≡ true) is above))

  raise : IsHere bytes born w h p → (stamp : Stamp) (t : ℕ) (edits : List Edit) (image : Option (List Edit)) (s : Slot) → stamp ≡ stamp_at t → born ≤ epoch_of t → born ≤ h.epoch → is_before p.slot.promise stamp ≡ true → (w.members h.me).promise < t
      → Stays w h.me (raised (w.members h.me) t edits image) (one h.me (Promised t (length edits) (is_some image))) → IsRaised stamp edits image s → Comes (promising s p (promised h stamp s ∷ []))
  raise here stamp t edits image s is after late above less so made =
      let m : Member = w.members h.me in
      let moved = so.moved in
      let g = grows_by w h.me _ _ moved in
      let told : WasTold moved.world h.me (Promised t (length edits) (is_some image)) = said_one w h.me h.me _ (Promised t (length edits) (is_some image)) moved in
      let count : count_or_none (count_of s.live) ≡ length edits = ap count_or_none (count_stands h.block h.chunk s.live edits made.stands) in
      let told_so : WasTold moved.world h.me (Promised t (count_or_none (count_of s.live)) s.carried) =
      subst (λ n. WasTold moved.world h.me (Promised t n s.carried)) (sym count) (subst (λ b. WasTold moved.world h.me (Promised t (length edits) b)) (sym made.carried) told) in record {
        member = raised m t edits image;
        sends = one h.me (Promised t (length edits) (is_some image));
        moved = moved;
        lists = λ t. inl (so.list t);
        numbers = λ t. (so.list t);
        intact = λ spared whole. or_true (is_some image) m.intact whole;
        gains = record { brought = λ up carries. or_left (is_some image) m.intact carries; rolled = λ next up. absurd (omega arith) };
        shows = record {
          epoch_is = here.shows.epoch_is;
          early = λ early. absurd (omega arith);
          promise = made.promise ∙ is;
          carried = sym made.carried;
          live = made.stands;
          image = image_raised image s m.image made.sealed here.shows.image;
          taken = subst (λ o. ShowsTaken o m.taken) (sym made.taken) here.shows.taken;
          lease = subst (λ o. ShowsLeaseAt c moved.world.known.list o None) (sym (spent p.lease p.slot.promise s.promise here.leased (subst (λ x. is_before p.slot.promise x ≡ true) (sym made.promise) above))) tt;
          promised = λ _. (omega arith, after);
          intact = λ whole. (λ counts. made.undamaged whole (live_back w.known moved.world.known m.epoch g counts), seal_raised image s (SealCounts moved.world.known m.epoch) made.sealed (λ is_whole counts. (here.shows.intact is_whole).1 (counts_back w.known moved.world.known m.epoch g counts)) whole);
        };
        tells = ((λ _. ((t, is, told_so), tt)), tt);
      }

  pub raise_new : IsHere bytes born w h p → (stamp : Stamp) (t : ℕ) (edits : List Edit) (image : Option (List Edit)) (s : Slot) → stamp ≡ stamp_at t → born ≤ epoch_of t → stamp.epoch ≡ h.epoch → is_before p.slot.promise stamp ≡ true → Brings w h.me t edits image → IsRaised stamp edits image s
      → Comes (promising s p (promised h stamp s ∷ []))
  raise_new here stamp t edits image s is after epoch above brings made =
      let less = above_less here stamp t is above in
      let same = epoch_same here stamp t is after epoch in
      raise here stamp t edits image s is after same.0 above less (moves_so w (Raises h.me t edits image) h.me (raised (w.members h.me) t edits image) (one h.me (Promised t (length edits) (is_some image))) (less, same.1, brings) refl) made

  -- ---- one that is kept

  pub again_told : IsHere bytes born w h p → (stamp : Stamp) (t : ℕ) → stamp ≡ stamp_at t → is_same stamp p.slot.promise ≡ true → is_some p.slot.live ≡ true → (t ≡ (w.members h.me).promise → AsksAgain w h.me (w.members h.me).promise) → Comes (promising p.slot p (promised h stamp p.slot ∷ []))
  again_told here stamp t is same live asks =
      let m : Member = w.members h.me in
      let stamp_is : stamp ≡ p.slot.promise = same_stamp stamp p.slot.promise same in
      let t_is : t ≡ m.promise = stamp_number t m.promise (sym is ∙ stamp_is ∙ here.shows.promise) in
      let l = lives c p.slot m.live here.shows.live live in
      let so = moves_so w (Promises h.me l.0) h.me m (one h.me (Promised m.promise (length l.0) m.carried)) (l.1, asks t_is) refl in
      let moved = so.moved in
      let told : WasTold moved.world h.me (Promised m.promise (length l.0) m.carried) = said_one w h.me h.me m (Promised m.promise (length l.0) m.carried) moved in
      let count : count_or_none (count_of p.slot.live) ≡ length l.0 = ap count_or_none (count_stands h.block h.chunk p.slot.live l.0 l.2) in
      let told_so : WasTold moved.world h.me (Promised m.promise (count_or_none (count_of p.slot.live)) p.slot.carried) =
      subst (λ n. WasTold moved.world h.me (Promised m.promise n p.slot.carried)) (sym count) (subst (λ b. WasTold moved.world h.me (Promised m.promise (length l.0) b)) here.shows.carried told) in record {
        member = m;
        sends = one h.me (Promised m.promise (length l.0) m.carried);
        moved = moved;
        lists = λ t. inl (so.list t);
        numbers = λ t. (so.list t);
        intact = λ spared whole. whole;
        gains = same_promise (w.members h.me) m refl;
        shows = subst (λ o. ShowsPlace c moved.world.known h.epoch (record { slot = p.slot; lease = o }) m) (sym (kept p.lease p.slot.promise here.leased)) (place_grown c w.known moved.world.known (grows_by w h.me m _ moved) h.epoch p m here.shows);
        tells = ((λ _. ((m.promise, stamp_is ∙ here.shows.promise, told_so), tt)), tt);
      }

  -- ---- refusals

  pub refused_outcome : ShowsPlace c w.known h.epoch p (w.members h.me) → (answer : Message) (e : Refusal) → ServersTell c h.handle w answer → Comes (refused h p.slot answer e)
  refused_outcome shows answer e tells = by_case (damaged_block e)
    where
      by_case : (o : Option ℕ)
          → FollowsServer Calm c h.handle w h.me h.epoch (record { slot = slot_after p.slot (marked_by o); lease = p.lease }) (answer ∷ tells_bad h p.slot o)
      by_case None = nothing_happens shows (answer ∷ []) (tells, tt)
      by_case (Some block) = stays_put c h.handle w h.me h.epoch _ (answer ∷ tells_bad h p.slot (Some block)) (marked_shows c w.known h.epoch block p (w.members h.me) shows) (tells, ((λ _. (tt, tt)), tt))

  pub unpromised_outcome : ShowsPlace c w.known h.epoch p (w.members h.me) → (stamp : Stamp) (e : Refusal) → Comes (unpromised h p stamp e)
  unpromised_outcome shows stamp e = refused_outcome shows (about h nodes.Master (chunks.Unpromised stamp e)) e (λ _. (tt, tt))

  -- what a call on the slot answers
  abbrev pub Promising : Stamp → Slot → Type 0
  Promising stamp s = Comes (promising s p (promised h stamp s ∷ []))

  pub promises_outcome : ShowsPlace c w.known h.epoch p (w.members h.me) → (stamp : Stamp) (m : Result Slot Refusal) → Holds (Promising stamp) m → Comes (promises h p stamp m)
  promises_outcome shows stamp (Ok s) holds = holds
  promises_outcome shows stamp (Err e) holds = unpromised_outcome shows stamp e

  -- ---- a create

  create_raised : IsHere bytes born w h p → (stamp : Stamp) → IsRaised stamp [] None (replaced stamp false (record { held = fresh h.block h.chunk stamp; sealed = None }) p.slot)
  create_raised here stamp = record {
    promise = refl;
    carried = refl;
    stands = fresh_in h.block h.chunk stamp here.some_block here.block_fits here.chunk_fits;
    undamaged = λ _ _. refl;
    taken = refl;
    sealed = replaced_stays stamp false (record { held = fresh h.block h.chunk stamp; sealed = None }) p.slot refl;
  }

  pub create_outcome : IsHere bytes born w h p → (stamp : Stamp) → TellsServer c w h.me (chunks.Create stamp) → Comes (messages.create h p stamp)
  create_outcome here stamp tells =
      or_outcome (other_epoch h stamp.epoch) (unpromised h p stamp) (promises h p stamp (slots.create h.block h.chunk stamp p.slot)) (unpromised_outcome here.shows stamp)
      (λ none. promises_outcome here.shows stamp (slots.create h.block h.chunk stamp p.slot)
      (of_cond (Promising stamp) (is_before p.slot.promise stamp) (Ok (replaced stamp false (record { held = fresh h.block h.chunk stamp; sealed = None }) p.slot)) (again stamp p.slot)
      (λ above. raise_new here stamp tells.0 [] None _ tells.1 tells.2 (of_epoch h stamp.epoch none) above (inl (tells.3, refl, refl)) (create_raised here stamp))
      (λ below. again_holds (Promising stamp) stamp p.slot (λ same live. again_told here stamp tells.0 tells.1 same live (λ is. inr ([], None, inl (subst (λ n. WasTold w h.me (Create n)) is tells.3, refl, refl)))))))

  -- ---- an advance

  same_live : (stamp : Stamp) (live : Option Live) → LiveUnder stamp live → live_under stamp live ≡ live
  same_live stamp None under = refl
  same_live stamp (Some l) under = ap (λ x. Some (record { replica = record { held = held_under x l.replica.held; sealed = l.replica.sealed }; bad = l.bad })) (sym under)

  same_risen : (stamp : Stamp) (s : Slot) → LiveUnder s.promise s.live → stamp ≡ s.promise → risen stamp s ≡ s
  same_risen stamp s under is = subst (λ x. risen x s ≡ s) (sym is) (let live = same_live s.promise s.live under in let carried : (s.carried && is_same s.promise s.promise) ≡ s.carried = and_true s.carried (is_same s.promise s.promise) (is_itself s.promise) in λ i. record { promise = s.promise; carried = carried i; live = live i; trash = s.trash; taken = s.taken })
    where
      and_true : (a b : Bool) → b ≡ true → (a && b) ≡ a
      and_true true b is = is
      and_true false b is = refl

  risen_undamaged : (stamp : Stamp) (live : Option Live) → LiveUndamaged live → LiveUndamaged (live_under stamp live)
  risen_undamaged stamp None is = is
  risen_undamaged stamp (Some l) is = is

  advance_raised : IsHere bytes born w h p → (stamp : Stamp) (edits : List Edit) → StandsIn h.block h.chunk p.slot edits → is_before p.slot.promise stamp ≡ true → IsRaised stamp edits None (risen stamp p.slot)
  advance_raised here stamp edits stands above = record {
    promise = refl;
    carried = not_both p.slot.carried (is_same stamp p.slot.promise) (before_other p.slot.promise stamp above);
    stands = risen_stands h.block h.chunk stamp p.slot.live edits stands;
    undamaged = λ whole counts. risen_undamaged stamp p.slot.live ((here.shows.intact whole).0 counts);
    taken = refl;
    sealed = risen_stays stamp p.slot;
  }
    where
      not_both : (a b : Bool) → b ≡ false → (a && b) ≡ false
      not_both true b is = is
      not_both false b is = refl

  advanced : IsHere bytes born w h p → (stamp : Stamp) → TellsServer c w h.me (chunks.Advance stamp) → stamp.epoch ≡ h.epoch → is_some p.slot.live ≡ true → is_before stamp p.slot.promise ≡ false → (b : Bool) → is_before p.slot.promise stamp ≡ b → Promising stamp (risen stamp p.slot)
  advanced here stamp tells epoch live below true above =
      let m : Member = w.members h.me in
      let t : ℕ = tells.0 in
      let l = lives c p.slot m.live here.shows.live live in
      let there = here.shows.promised (ap is_some l.1) in
      let less = above_less here stamp t tells.1 above in
      let after : born ≤ epoch_of t = epoch_rises born m.promise t there.1 less in
      let same = epoch_same here stamp t tells.1 after epoch in
      raise here stamp t l.0 None (risen stamp p.slot) tells.1 after same.0 above less
      (moves_so w (Rises h.me t l.0) h.me (raised m t l.0 None) (one h.me (Promised t (length l.0) false)) (less, same.1, tells.2, l.1) refl) (advance_raised here stamp l.0 l.2 above)
  advanced here stamp tells epoch live below false above =
      let same : is_same stamp p.slot.promise ≡ true = neither_same stamp p.slot.promise below above in
      subst (Promising stamp) (sym (same_risen stamp p.slot here.under (same_stamp stamp p.slot.promise same)))
      (again_told here stamp tells.0 tells.1 same live (λ is. inl (subst (λ n. WasTold w h.me (Advance n)) is tells.2)))

  pub first_live : (s : Slot) (rest : List (Option Refusal)) → first_of (unless_live s.live ∷ rest) ≡ None → is_some s.live ≡ true
  first_live s rest none = by_case s.live none
    where
      by_case : (live : Option Live) → first_of (unless_live live ∷ rest) ≡ None → is_some live ≡ true
      by_case None none = absurd (cc)
      by_case (Some l) none = refl

  pub advance_outcome : IsHere bytes born w h p → (stamp : Stamp) → TellsServer c w h.me (chunks.Advance stamp) → Comes (messages.advance h p stamp)
  advance_outcome here stamp tells =
      or_outcome (other_epoch h stamp.epoch) (unpromised h p stamp) (promises h p stamp (slots.advance stamp p.slot)) (unpromised_outcome here.shows stamp)
      (λ none. promises_outcome here.shows stamp (slots.advance stamp p.slot)
      (of_unless (Promising stamp) (first_of (unless_live p.slot.live ∷ if_bad p.slot.live ∷ when (is_before stamp p.slot.promise) refusals.Old ∷ [])) (risen stamp p.slot)
      (λ free. advanced here stamp tells (of_epoch h stamp.epoch none) (first_live p.slot _ free) (not_old (unless_live p.slot.live) (if_bad p.slot.live) (is_before stamp p.slot.promise) refusals.Old free) (is_before p.slot.promise stamp) refl)))
