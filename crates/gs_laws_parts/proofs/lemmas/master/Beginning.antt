-- A view is proposed: of the chunk, whose members are asked to go on; or of another, which the machine doesn't see.
use Rattle.std.proofs.Common.{◌≡◌, ℕ, ◌<◌, inl, Bool, true, false, not, cond, ◌&&◌, ◌||◌, List, [], ◌∷◌, Option, Some, None, refl, sym, ap, subst, ◌∙◌, arith}
use Rattle.std.specs.Prelude.{◌==◌, is_some, if◌then◌else◌}
use Rattle.std.specs.FinMap as fin
use Rattle.std.specs.Cmp.{nat_cmp_total, tied_itself}
use Rattle.std.specs.List.{AllByRecursion, list_all}
use Rattle.std.specs.Ordering.{is_eq, nat_cmp}
use Rattle.std.proofs.lemmas.Bool.{false≢true, and_parts}
use Rattle.std.proofs.lemmas.Bool.Decides.{nat_tests}
use Rattle.std.proofs.lemmas.List.Folds.{list_all-append}
use Rattle.gs_base.specs.Members.{is_member}
use Rattle.gs_base.specs.MemberLaws.{eqb_itself}
use Rattle.gs_base.specs.Told.{IsNumber}
use Rattle.gs_base.specs.declared.config.Config.{Config}
use Rattle.gs_base.specs.declared.numbers.ReqId.{ReqId}
use Rattle.gs_base.specs.declared.numbers.Stamp.{Stamp}
use Rattle.gs_lease.specs.declared.view.Purpose.{Purpose}
use Rattle.gs_lease.specs.declared.view.View.{View}
use Rattle.gs_msg.specs.declared.body.Body.TheVariants as bodies
use Rattle.gs_msg.specs.declared.chunk.Chunk.{Chunk as About}
use Rattle.gs_msg.specs.declared.chunk.Chunk.TheVariants as abouts
use Rattle.gs_msg.specs.declared.message.Message.{Message}
use Rattle.gs_msg.specs.declared.node.NodeId.TheVariants as nodes
use Rattle.gs_path.specs.Path.{Path}
use Rattle.gs_master_record.specs.Plain.{Propose}
use Rattle.gs_master_spec.specs.Applied.{applied, is_fresh, may_propose, proposed, replayed, with_proposal}
use Rattle.gs_master_spec.specs.Beginning.{begin_at, copy_plan, members_at, next_stamp}
use Rattle.gs_master_spec.specs.Chunks.{asking_for, chunk_at, has_entry, is_any_in, members_of}
use Rattle.gs_master_spec.specs.Durable.{Durable, Settled, is_given, is_listed, is_rolling}
use Rattle.gs_master_spec.specs.State.{State, Plan, Turn, about, post, to_each, turned}
use Rattle.gs_master_spec.specs.Undoing.{all_undone}
use Rattle.gs_master_spec.specs.declared.asking.Asking.{Asking}
use Rattle.gs_laws_master.proofs.lemmas.upgrades.Beginnings.{fits_gives}
use Rattle.gs_laws_master.proofs.lemmas.keeping.Counters.{keeps_given}
use Rattle.gs_laws_moves.proofs.lemmas.moves.Right.{one_fits}
use Rattle.gs_laws_moves.specs.moves.Asked.{WasHeard}
use Rattle.gs_laws_moves.specs.moves.Guards.{Heard, IsMade}
use Rattle.gs_laws_moves.specs.moves.Moves.{Alone, Beside, FromNow, Further, Begins, Copies, Makes, Move, move_turn, plan_of_begin, plan_of_copy, plan_of_make, with_beside}
use Rattle.gs_laws_chunk.specs.machine.Stamps.{stamp_at}
use Rattle.gs_laws_chunk.specs.machine.Machine.{Advance, Entry, ChunkWorld}
use Rattle.gs_laws_chunk.specs.machine.Events.{Asks, Can, Goes as Happens, Proposes, Rests, is_of, proposed as proposes_it}
use Rattle.gs_laws_parts.specs.master.Proposals.{ProposalsFollow, is_proposal}
use Rattle.gs_laws_parts.specs.master.Showing.{ShowsDurable, ShowsEntry}
use Rattle.gs_laws_parts.specs.master.Single.{FollowsAs, IsUnmoved}
use Rattle.gs_laws_parts.specs.master.Telling.{Says, Shows, MastersTell}
use Rattle.gs_laws_parts.proofs.lemmas.master.Marking.{same_epoch}
use Rattle.gs_laws_parts.proofs.lemmas.master.Leaving.{LeavesDurable, SameMemory, changes_leave, inserted, leaves_entry, leaves_memory}
use Rattle.gs_laws_parts.proofs.lemmas.master.Moving.{shown_by, unmoved_by}
use Rattle.gs_laws_parts.proofs.lemmas.master.Proposing.{may_propose_it, number_of, prepared_same, proposed_shows, still_number}
use Rattle.gs_laws_parts.proofs.lemmas.master.Sending.{SendsAll, leads_on, masters_on, sent_so, tells_more, told_now}
use Rattle.gs_laws_parts.proofs.lemmas.master.Stamps.{number_at, of_member, other_number, same_number}

not_true : (b : Bool) → not b ≡ true → b ≡ false
not_true true h = absurd (false≢true h)
not_true false h = refl

or_right : (a b : Bool) → b ≡ true → (a || b) ≡ true
or_right true b e = refl
or_right false b e = e

-- ---- a view of another chunk

other_proposed : (chunk : ℕ) (d next : Durable) (q : ℕ) → not (q == chunk) ≡ true → applied d (Propose q (d.next_version)) ≡ Some next → LeavesDurable chunk d next
unfolding applied
other_proposed chunk d next q other fit = record {
  epoch = ap (λ (x : Durable). x.epoch) (sym gives);
  ends = ap (λ (x : Durable). x.ends) (sym gives);
  phase = ap (λ (x : Durable). x.phase) (sym gives);
  handles = (keeps_given (Propose q (d.next_version)) d next chunk refl fit).0;
  versions = λ n. (keeps_given (Propose q (d.next_version)) d next n refl fit).1;
  counter = λ is. subst (λ (x : Durable). IsNumber x.next_version) gives (still_number d.next_version is);
  settled = ap (λ (x : Durable). fin.get x.chunks chunk) (sym gives) ∙ by_settled (fin.get d.chunks q);
  prepared = prepared_same (Propose q (d.next_version)) chunk d next refl refl fit (ap (λ (x : Durable). x.phase) (sym gives));
  undone = λ names phase h. subst (λ (x : Durable). all_undone x.inverses x.names ≡ Some names) (sym gives) h;
}
  where
    gives : proposed d q d.next_version ≡ next
    gives = (fits_gives (may_propose d.phase d.next_handle d.next_version q d.next_version (fin.get d.chunks q)) (proposed d q d.next_version) next fit).1

    by_settled : (o : Option Settled) → fin.get (with_proposal d q o) chunk ≡ fin.get d.chunks chunk
    by_settled None = refl
    by_settled (Some y) = inserted chunk d.chunks q (record y { is_moving = true }) other

names_stay : (chunk : ℕ) (d next : Durable) (q : ℕ) → applied d (Propose q (d.next_version)) ≡ Some next → is_listed next chunk ≡ is_listed d chunk
unfolding applied
names_stay chunk d next q fit = ap (λ (x : Durable). is_listed x chunk) (sym (fits_gives (may_propose d.phase d.next_handle d.next_version q d.next_version (fin.get d.chunks q)) (proposed d q d.next_version) next fit).1)

-- a chunk that is new isn't this one
new_other : (chunk : ℕ) (d next : Durable) → fin.get d.chunks d.next_handle ≡ None → is_given d.next_handle chunk ≡ true → applied d (Propose d.next_handle (d.next_version)) ≡ Some next → not (d.next_handle == chunk) ≡ true
unfolding applied
new_other chunk d next none given fit = by_key (d.next_handle == chunk) refl
  where
    new : is_fresh d.next_handle d.next_handle ≡ true
    new =
        let may = (fits_gives (may_propose d.phase d.next_handle d.next_version d.next_handle d.next_version (fin.get d.chunks d.next_handle)) (proposed d d.next_handle d.next_version) next fit).0 in
        let parts = and_parts (not (is_rolling d.phase)) (is_fresh d.next_version d.next_version && (is_some (fin.get d.chunks d.next_handle) || is_fresh d.next_handle d.next_handle)) may in
        let fresh = (and_parts (is_fresh d.next_version d.next_version) (is_some (fin.get d.chunks d.next_handle) || is_fresh d.next_handle d.next_handle) parts.1).1 in
        sym (ap (λ o. is_some o || is_fresh d.next_handle d.next_handle) none) ∙ fresh

    clash : (n : ℕ) → is_fresh n n ≡ true → is_given n n ≡ true → ⊥
    clash n fresh is = absurd (grind (arith, nat_tests))

    by_key : (b : Bool) → (d.next_handle == chunk) ≡ b → not b ≡ true
    by_key false is = refl
    by_key true is = absurd (clash d.next_handle new (subst (λ c. is_given d.next_handle c ≡ true) (sym (same_number d.next_handle chunk is)) given))

-- ---- messages

-- they say nothing of the chunk
nothing_sent : (born chunk : ℕ) (w : ChunkWorld) (messages : List Message) → AllByRecursion (MastersTell born chunk w) messages → SendsAll born chunk w messages
nothing_sent born chunk w messages tells = record { world = w; leads = Rests; masters = tt; entry = refl; known = refl; members = refl; stays = λ x there. there; tells = tells }

about_other : (born chunk : ℕ) (w : ChunkWorld) (q : ℕ) (said : About) (servers : List ℕ) → not (q == chunk) ≡ true → AllByRecursion (MastersTell born chunk w) (to_each servers (about q said))
about_other born chunk w q said [] other = tt
about_other born chunk w q said (j ∷ servers) other = (λ same. absurd (other_number q chunk (not_true (q == chunk) other) same), about_other born chunk w q said servers other)

copies_other : (born chunk : ℕ) (w : ChunkWorld) (old : ℕ) (at : Stamp) (new : ℕ) (stamp : Stamp) (servers : List ℕ) → AllByRecursion (MastersTell born chunk w) (to_each servers (λ server. post (nodes.Server server) (bodies.MakeCopy old at new stamp)))
copies_other born chunk w old at new stamp [] = tt
copies_other born chunk w old at new stamp (j ∷ servers) = (tt, copies_other born chunk w old at new stamp servers)

-- each member of the settled view is asked to go on to the stamp that was proposed last
advances_sent : (born chunk : ℕ) (stamp : Stamp) (e : Entry) → stamp ≡ stamp_at e.top → e.view.stamp < e.top → (servers : List ℕ) → ((j : ℕ) → is_member servers j ≡ true → is_of e.view.members j ≡ true) → (w : ChunkWorld) → w.entry ≡ e
    → SendsAll born chunk w (to_each servers (about chunk (abouts.Advance stamp)))
advances_sent born chunk stamp e under later [] members w same = record { world = w; leads = Rests; masters = tt; entry = refl; known = refl; members = refl; stays = λ x there. there; tells = tt }
advances_sent born chunk stamp e under later (j ∷ servers) members w same =
    let can : Can w (Asks j) = subst (λ (x : Entry). (x.view.stamp < x.top) × (is_of x.view.members j ≡ true)) (sym same) (later, members j (ap (λ b. b || is_member servers j) (eqb_itself j))) in
    let is : stamp ≡ stamp_at w.entry.top = subst (λ (x : Entry). stamp ≡ stamp_at x.top) (sym same) under in
    let one = sent_so born chunk w (nodes.Server j) (bodies.About chunk (abouts.Advance stamp)) (Asks j) j (Advance (w.entry.top)) can refl refl (λ here. (w.entry.top, is, told_now w j (Advance (w.entry.top)))) in
    let more = advances_sent born chunk stamp e under later servers (λ i here. members i (or_right (j == i) (is_member servers i) here)) one.world (one.entry ∙ same) in
    record {
      world = more.world;
      leads = leads_on w one.world more.world one.leads more.leads;
      masters = masters_on w one.world more.world one.leads more.leads one.masters more.masters;
      entry = more.entry ∙ one.entry;
      known = more.known ∙ one.known;
      members = more.members ∙ one.members;
      stays = λ x there. more.stays x (one.stays x there);
      tells = ((tells_more chunk one.world more.world more.stays born (about chunk (abouts.Advance stamp) j ∷ []) (one.tells, tt)).0, more.tells);
    }

-- those who have the chunk are the members of the view that is shown
members_shown : (chunk : ℕ) (s : State) (e : Entry) → ShowsEntry chunk s e → has_entry s chunk ≡ true → (j : ℕ) → is_member (members_at (chunk_at s chunk)) j ≡ true → is_member e.view.members j ≡ true
unfolding chunk_at
members_shown chunk s e k known j here = by_entry (has_entry s chunk) known here
  where
    asked : Option Asking
    asked = fin.get s.volatile.moving chunk

    by_settled : (o : Option Settled) → fin.get s.durable.chunks chunk ≡ o → is_member (members_of (record { settled = o; asking = asked })) j ≡ true → is_member e.view.members j ≡ true
    by_settled None is h = absurd (false≢true h)
    by_settled (Some x) is h = ap (λ ms. is_member ms j) (k.durable.settled x is).view.members ∙ h

    by_entry : (b : Bool) → b ≡ true → is_member (members_at (if b then Some (record { settled = fin.get s.durable.chunks chunk; asking = asked }) else None)) j ≡ true → is_member e.view.members j ≡ true
    by_entry false is h = absurd (false≢true is)
    by_entry true is h = by_settled (fin.get s.durable.chunks chunk) refl h

-- ---- what a proposal makes of a state

begun_so : (config : Config) (s : State) (q : ℕ) (purpose : Purpose) (call : Option ReqId) (beside : Beside) → let t = move_turn config s (Begins q purpose call beside) in
    let members = members_at (chunk_at s q) in
    (t.records ≡ Propose q (s.durable.next_version) ∷ []) × (t.sent ≡ to_each members (about q (abouts.Advance (next_stamp s.durable))))
    × (t.after.volatile.moving ≡ fin.insert s.volatile.moving q (asking_for (next_stamp s.durable) purpose members call)) × (t.after.volatile.unplaced ≡ s.volatile.unplaced)
begun_so config s q purpose call Alone = (refl, refl, refl, refl)
begun_so config s q purpose call (FromNow req waiting) = (refl, refl, refl, refl)
begun_so config s q purpose call (Further req waiting) = (refl, refl, refl, refl)

beside_leaves : (chunk : ℕ) (plan : Plan) (beside : Beside) → list_all (leaves_memory chunk) plan.changes ≡ true → list_all (leaves_memory chunk) (with_beside beside plan).changes ≡ true
beside_leaves chunk plan Alone all = all
beside_leaves chunk plan (FromNow req waiting) all = list_all-append _ plan.changes _ ∙ ap (λ b. b && true) all
beside_leaves chunk plan (Further req waiting) all = list_all-append _ plan.changes _ ∙ ap (λ b. b && true) all

beside_same : (plan : Plan) (beside : Beside) → ((with_beside beside plan).records ≡ plan.records) × ((with_beside beside plan).sent ≡ plan.sent)
beside_same plan Alone = (refl, refl)
beside_same plan (FromNow req waiting) = (refl, refl)
beside_same plan (Further req waiting) = (refl, refl)

module _ (born chunk : ℕ) (whole : ℕ → Bool) (config : Config) (heard : Heard) (s : State) (w : ChunkWorld) (k : Shows chunk s w) (was : WasHeard (Says chunk w) heard) where
  abbrev Goes : Move → Type 0
  Goes move = FollowsAs born chunk whole w (move_turn config s move).after (move_turn config s move).sent (IsUnmoved w)

  -- a view of another chunk is proposed
  others_follow : (move : Move) (plan : Plan) (q : ℕ) → move_turn config s move ≡ turned s plan → plan.records ≡ Propose q (s.durable.next_version) ∷ [] → not (q == chunk) ≡ true → list_all (leaves_memory chunk) plan.changes ≡ true
      → ((v : ChunkWorld) → AllByRecursion (MastersTell born chunk v) plan.sent) → IsMade config heard s move → Goes move
  others_follow move plan q is records other leaves tells made =
      shown_by born chunk whole config heard s move w w k was made Rests tt (λ j. inl refl) (same_epoch whole w w refl) (λ x there. there)
      (leaves_entry chunk s u w.entry (other_proposed chunk s.durable u.durable q other one) listed (subst (λ v. SameMemory chunk s.volatile v) (sym (ap (λ (t : Turn). t.after.volatile) is)) (changes_leave chunk plan.changes s.volatile leaves)) k.entry)
      (λ shown now. nothing_sent born chunk w (move_turn config s move).sent (subst (AllByRecursion (MastersTell born chunk w)) (sym (ap (λ (t : Turn). t.sent) is)) (tells w))) (IsUnmoved w) (unmoved_by w w refl)
    where
      u : State
      u = (move_turn config s move).after

      one : applied s.durable (Propose q (s.durable.next_version)) ≡ Some u.durable
      one = one_fits s.durable u.durable (Propose q (s.durable.next_version)) (ap (replayed s.durable) (sym records ∙ sym (ap (λ (t : Turn). t.records) is)) ∙ made.fits)

      listed : is_listed u.durable chunk ≡ is_listed s.durable chunk
      listed = names_stay chunk s.durable u.durable q one

  begins_other : (q : ℕ) (purpose : Purpose) (call : Option ReqId) (beside : Beside) → not (q == chunk) ≡ true → IsMade config heard s (Begins q purpose call beside) → Goes (Begins q purpose call beside)
  begins_other q purpose call beside other made =
      let plan = begin_at s q purpose call in
      let same = beside_same plan beside in
      others_follow (Begins q purpose call beside) (plan_of_begin s q purpose call beside) q refl same.0 other (beside_leaves chunk plan beside (ap (λ b. b && true) other))
      (λ v. subst (AllByRecursion (MastersTell born chunk v)) (sym same.1) (about_other born chunk v q (abouts.Advance (next_stamp s.durable)) (members_at (chunk_at s q)) other)) made

  makes_follow : (targets : List ℕ) (req : ReqId) (path : Path) → IsMade config heard s (Makes targets req path) → Goes (Makes targets req path)
  makes_follow targets req path made =
      let new = s.durable.next_handle in
      let u = (move_turn config s (Makes targets req path)).after in
      let other = new_other chunk s.durable u.durable made.may.0 k.entry.durable.given (one_fits s.durable u.durable (Propose new (s.durable.next_version)) made.fits) in
      others_follow (Makes targets req path) (plan_of_make s targets req path) new refl refl other (ap (λ b. b && (b && true)) other) (λ v. about_other born chunk v new (abouts.Create (next_stamp s.durable)) targets other) made

  copies_follow : (old : ℕ) (view : View) (req : ReqId) (beside : Beside) → IsMade config heard s (Copies old view req beside) → Goes (Copies old view req beside)
  copies_follow old view req beside made =
      let new = s.durable.next_handle in
      let plan = copy_plan (next_stamp s.durable) old view new req in
      let same = beside_same plan beside in
      let u = (move_turn config s (Copies old view req beside)).after in
      let other = new_other chunk s.durable u.durable made.may.0.fresh k.entry.durable.given (one_fits s.durable u.durable (Propose new (s.durable.next_version)) (ap (replayed s.durable) (sym same.0) ∙ made.fits)) in
      others_follow (Copies old view req beside) (plan_of_copy s old view req beside) new refl same.0 other (beside_leaves chunk plan beside (ap (λ b. b && (b && true)) other))
      (λ v. subst (AllByRecursion (MastersTell born chunk v)) (sym same.1) (copies_other born chunk v old view.stamp new (next_stamp s.durable) view.members)) made

  -- ---- a view of the chunk

  begins_here : (purpose : Purpose) (call : Option ReqId) (beside : Beside) → IsMade config heard s (Begins chunk purpose call beside) → Goes (Begins chunk purpose call beside)
  unfolding applied
  begins_here purpose call beside made =
      shown_by born chunk whole config heard s (Begins chunk purpose call beside) w v k was made (Happens w (Proposes (number_of s.durable.epoch s.durable.next_version) asked) Rests can) (tt, refl) (λ j. inl refl) (same_epoch whole w v refl) (λ x there. there)
      (record {
        durable = subst (λ n. ShowsDurable chunk n v.entry) gives (proposed_shows chunk s.durable u.durable w.entry asked k.entry.durable above fresh one gives);
        memory = record {
          known = k.entry.memory.known ∙ sym entry;
          asked = λ j. sym (ap (is_any_in j) has);
          asking = λ a is. (ap (λ (x : Asking). x.stamp) (sym (asking_is (sym has ∙ is))) ∙ sym (number_at s.durable.epoch s.durable.next_version k.entry.durable.counter), later, k.entry.memory.known ∙ made.may.known);
          sought = λ known none. ap is_some has;
        };
      })
      (λ shown now. subst (SendsAll born chunk v) (sym so.1)
      (advances_sent born chunk (next_stamp s.durable) v.entry (sym (number_at s.durable.epoch s.durable.next_version k.entry.durable.counter)) later members (λ j here. of_member w.entry.view.members j ∙ home j here) v refl))
      (IsUnmoved w) (unmoved_by w v refl)
    where
      u : State
      u = (move_turn config s (Begins chunk purpose call beside)).after

      members : List ℕ
      members = members_at (chunk_at s chunk)

      asking : Asking
      asking = asking_for (next_stamp s.durable) purpose members call

      asked : ℕ → Bool
      asked j = is_any_in j (Some asking)

      v : ChunkWorld
      v = proposes_it w (number_of s.durable.epoch s.durable.next_version) asked

      so : ((move_turn config s (Begins chunk purpose call beside)).records ≡ Propose chunk (s.durable.next_version) ∷ [])
          × ((move_turn config s (Begins chunk purpose call beside)).sent ≡ to_each members (about chunk (abouts.Advance (next_stamp s.durable))))
          × (u.volatile.moving ≡ fin.insert s.volatile.moving chunk asking) × (u.volatile.unplaced ≡ s.volatile.unplaced)
      so = begun_so config s chunk purpose call beside

      one : applied s.durable (Propose chunk (s.durable.next_version)) ≡ Some u.durable
      one = one_fits s.durable u.durable (Propose chunk (s.durable.next_version)) (ap (replayed s.durable) (sym so.0) ∙ made.fits)

      fit : (may_propose s.durable.phase s.durable.next_handle s.durable.next_version chunk s.durable.next_version (fin.get s.durable.chunks chunk) ≡ true) × (proposed s.durable chunk s.durable.next_version ≡ u.durable)
      fit = fits_gives (may_propose s.durable.phase s.durable.next_handle s.durable.next_version chunk s.durable.next_version (fin.get s.durable.chunks chunk)) (proposed s.durable chunk s.durable.next_version) u.durable one

      gives : proposed s.durable chunk s.durable.next_version ≡ u.durable
      gives = fit.1

      parts : (not (is_rolling s.durable.phase) ≡ true) × ((is_fresh s.durable.next_version s.durable.next_version && (is_some (fin.get s.durable.chunks chunk) || is_fresh s.durable.next_handle chunk)) ≡ true)
      parts = and_parts (not (is_rolling s.durable.phase)) (is_fresh s.durable.next_version s.durable.next_version && (is_some (fin.get s.durable.chunks chunk) || is_fresh s.durable.next_handle chunk)) fit.0

      fresh : is_fresh s.durable.next_version s.durable.next_version ≡ true
      fresh = (and_parts (is_fresh s.durable.next_version s.durable.next_version) (is_some (fin.get s.durable.chunks chunk) || is_fresh s.durable.next_handle chunk) parts.1).0

      can : Can w (Proposes (number_of s.durable.epoch s.durable.next_version) asked)
      can = may_propose_it chunk s.durable w asked k.entry.durable (k.entry.memory.known ∙ made.may.known) (not_true (is_rolling s.durable.phase) parts.0) fresh

      above : w.entry.top < number_of s.durable.epoch s.durable.next_version
      above = can.3

      later : w.entry.view.stamp < number_of s.durable.epoch s.durable.next_version
      later = (let a = above in let b = k.entry.durable.behind in omega arith)

      got : (m : fin.FinMap nat_cmp Asking) (a : Asking) → fin.get (fin.insert m chunk a) chunk ≡ Some a
      got m a = fin.get-insert nat_cmp_total m chunk a chunk ∙ ap (λ o. cond (is_eq o) (Some a) (fin.get m chunk)) (tied_itself nat_cmp_total chunk)

      has : fin.get u.volatile.moving chunk ≡ Some asking
      has = ap (λ m. fin.get m chunk) so.2 ∙ got s.volatile.moving asking

      asking_is : {x y : Asking} → ◌≡◌ {A = Option Asking} (Some x) (Some y) → x ≡ y
      asking_is h = cc

      entry : has_entry u chunk ≡ has_entry s chunk
      entry = ap (λ b. b || is_member u.volatile.unplaced chunk) (names_stay chunk s.durable u.durable chunk one) ∙ ap (λ xs. is_listed s.durable chunk || is_member xs chunk) so.3

      home : (j : ℕ) → is_member members j ≡ true → is_member w.entry.view.members j ≡ true
      home j here = members_shown chunk s w.entry k.entry made.may.known j here

  proposals_follow : (move : Move) → is_proposal move ≡ true → IsMade config heard s move → Goes move
  proposals_follow (Begins q purpose call beside) is made = by_key (q == chunk) refl
    where
      by_key : (b : Bool) → (q == chunk) ≡ b → Goes (Begins q purpose call beside)
      by_key true same = subst (λ h. IsMade config heard s (Begins h purpose call beside) → Goes (Begins h purpose call beside)) (sym (same_number q chunk same)) (begins_here purpose call beside) made
      by_key false other = begins_other q purpose call beside (ap not other) made
  proposals_follow (Makes targets req path) is made = makes_follow targets req path made
  proposals_follow (Copies old view req beside) is made = copies_follow old view req beside made
  proposals_follow move is made = absurd (false≢true is)

pub all_proposals_follow : ProposalsFollow
all_proposals_follow born chunk whole config heard s move w is k was made = proposals_follow born chunk whole config heard s w k was move is made
