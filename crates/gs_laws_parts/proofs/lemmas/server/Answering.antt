-- Edits that every member has are answered in the machine.
use Rattle.std.proofs.Common.{◌≡◌, ℕ, inl, ⊎_elim, true, List, [], ◌∷◌, ◌++◌, Option, Some, None, refl, sym, ap, subst, ◌∙◌, append_assoc}
use Rattle.std.specs.Prelude.{filter, Contains}
use Rattle.gs_base.specs.declared.numbers.ReqId.{ReqId}
use Rattle.gs_base.specs.declared.numbers.Stamp.{Stamp}
use Rattle.gs_base.specs.declared.refusal.Refusal.{Refusal}
use Rattle.gs_base.specs.declared.refusal.Refusal.TheVariants as refusals
use Rattle.gs_base.specs.Stamps.{is_same}
use Rattle.gs_replica.specs.Stands.{Edit}
use Rattle.gs_msg.specs.declared.node.NodeId.{NodeId}
use Rattle.gs_msg.specs.declared.node.NodeId.TheVariants as nodes
use Rattle.gs_msg.specs.declared.chunk.Chunk.TheVariants as chunks
use Rattle.gs_server_lease.specs.declared.lease.Open.{Open as Waiting}
use Rattle.gs_server_lease.specs.Leases as primary
use Rattle.gs_server_lease.specs.Leases.{hears, is_acknowledged, settled, dones, done_of}
use Rattle.gs_server.specs.Places.{Place, Here, SlotStays, LeaseBecomes, changing, unanswered, or_else}
use Rattle.gs_server.specs.Holding.{unless_leased, goes_on, from_server}
use Rattle.gs_server.specs.Holding as holding
use Rattle.gs_laws_chunk.specs.machine.Machine.{Open, MemberLease, Member, Sent, ChunkWorld, WasTold, Ack, Done}
use Rattle.gs_laws_chunk.specs.machine.Events.{IsCovered, one}
use Rattle.gs_laws_chunk.specs.machine.Events as machine
use Rattle.gs_laws_parts.specs.server.Showing.{Setting, setting_at, Waits, ShowsLeaseAt}
use Rattle.gs_laws_parts.specs.server.Telling.{SaysOf, ServersTell}
use Rattle.gs_laws_parts.specs.server.Moving.{Moved, IsHere, Answering}
use Rattle.gs_laws_parts.specs.server.Answering.{AnswersEdit}
use Rattle.gs_laws_parts.specs.server.Causes.{Calm}
use Rattle.gs_laws_parts.proofs.lemmas.server.Stamps.{same_stamp, stamp_number}
use Rattle.gs_laws_parts.proofs.lemmas.server.Tests.{met_not}
use Rattle.gs_laws_parts.proofs.lemmas.server.Lists.{cons_cases, cons_first, cons_more, nil_contains, in_filter, of_filter, all_mapped}
use Rattle.gs_laws_parts.proofs.lemmas.server.Engine.{rests_so, and_then, first_contains, moves_so, Stays, then_list, same_promise}
use Rattle.gs_laws_parts.proofs.lemmas.server.Places.{grows_by, lease_grown}
use Rattle.gs_laws_parts.proofs.lemmas.server.Promising.{nothing_happens}
use Rattle.gs_laws_parts.proofs.lemmas.server.Primary.{hears_moves, hears_shows, covered, closes, settled_places}
use Rattle.gs_laws_parts.proofs.lemmas.server.Sending.{leased_shows, lease_there, settled_covers, settled_shows}

-- an edit that every member has, of those that wait
record IsDue (c : Setting) (list : List Edit) (l : MemberLease) (e : ℕ × Waiting) : Type 0 where
  open_edit : Open
  there : Contains l.waiting open_edit
  covers : IsCovered l open_edit.place
  waits : Waits c list e.0 e.1 open_edit

record AllAnswered (w : ChunkWorld) (me : ℕ) (m : Member) (c : Setting) (list : List Edit) (l : MemberLease) (es : List (ℕ × Waiting)) (due : (e : ℕ × Waiting) → Contains es e → IsDue c list l e) : Type 0 where
  sends : List Sent
  moved : Moved w me m sends
  left : (t : ℕ) → moved.world.known.list t ≡ w.known.list t
  told : (e : ℕ × Waiting) (there : Contains es e) → (o : Open) × Waits c list e.0 e.1 o × WasTold moved.world me (Done l.stamp o.place o.edit)

pub answers_one : (w : ChunkWorld) (me : ℕ) (m : Member) (l : MemberLease) (o : Open) → w.members me ≡ m → m.lease ≡ Some l → l.stamp ≡ m.promise → Contains l.waiting o → IsCovered l o.place → Stays w me m (one me (Done l.stamp o.place o.edit))
answers_one w me m l o is lease stamp there covers =
    subst (λ n. n.lease ≡ Some l → l.stamp ≡ n.promise → Stays w me n (one me (Done l.stamp o.place o.edit))) is
    (λ held same. moves_so w (machine.Answers me l o.place o.edit) me (w.members me) (one me (Done l.stamp o.place o.edit)) (held, inl (there, covers)) refl) lease stamp

all_answered : (w : ChunkWorld) (me : ℕ) (m : Member) (c : Setting) (list : List Edit) (l : MemberLease) → w.members me ≡ m → m.lease ≡ Some l → l.stamp ≡ m.promise → (es : List (ℕ × Waiting)) (due : (e : ℕ × Waiting) → Contains es e → IsDue c list l e) → AllAnswered w me m c list l es due
unfolding and_then
all_answered w me m c list l is lease stamp [] due = let r = rests_so w me m is in record { sends = []; moved = r.moved; left = r.list; told = λ e none. nil_contains e none }
all_answered w me m c list l is lease stamp (e ∷ es) due =
    let d = due e (cons_first e es e refl) in
    let o : Open = d.open_edit in
    let so = answers_one w me m l o is lease stamp d.there d.covers in
    let first = so.moved in
    let rest = all_answered first.world me m c list l first.is lease stamp es (λ x there. due x (cons_more e es x there)) in record {
      sends = one me (Done l.stamp o.place o.edit) ++ rest.sends;
      moved = and_then w me m m (one me (Done l.stamp o.place o.edit)) rest.sends first rest.moved (refl, refl, refl);
      left = λ t. then_list w me m m (one me (Done l.stamp o.place o.edit)) rest.sends first rest.moved (refl, refl, refl) t ∙ rest.left t ∙ so.list t;
      told = λ x has. ⊎_elim
          (λ same. (o, subst (λ (y : ℕ × Waiting). Waits c list y.0 y.1 o) same d.waits, rest.moved.stays (record { server = me; body = Done l.stamp o.place o.edit }) (first.says (record { server = me; body = Done l.stamp o.place o.edit }) (first_contains (record { server = me; body = Done l.stamp o.place o.edit }) []))))
          (λ more. rest.told x more) (cons_cases e es x has);
    }

module _ (bytes : ReqId → List ℕ) (born : ℕ) (w : ChunkWorld) (h : Here) (p : Place) where
  abbrev c : Setting
  c = setting_at bytes born h

  quiet_part : IsHere bytes born w h p → (e : Refusal) → Answering Calm bytes born w h p (unanswered e)
  quiet_part here e = record { follows = nothing_happens bytes born w h p here.shows [] tt; answers = tt }

  hear : IsHere bytes born w h p → (server : ℕ) (stamp : Stamp) (count : ℕ) (l : primary.PrimaryLease) → p.lease ≡ Some l → is_same stamp l.grant.stamp ≡ true → SaysOf c w (nodes.Server server) (chunks.Ack stamp count)
      → Answering Calm bytes born w h p (changing SlotStays (LeaseBecomes (settled (hears server count l))) (dones h.me (hears server count l)))
  unfolding and_then
  hear here server stamp count l is same says =
      let m : Member = w.members h.me in
      let x = lease_there c w.known.list l m.lease (subst (λ o. ShowsLeaseAt c w.known.list o m.lease) is here.shows.lease) in
      let ml : MemberLease = x.0 in
      let t_is : says.0 ≡ ml.stamp = stamp_number says.0 ml.stamp (sym says.1 ∙ same_stamp stamp l.grant.stamp same ∙ x.2.stamp) in
      let promise : ml.stamp ≡ m.promise = stamp_number ml.stamp m.promise (sym x.2.stamp ∙ here.leased l is ∙ here.shows.promise) in
      let heard : MemberLease = machine.told_by ml server count in
      let l2 : primary.PrimaryLease = hears server count l in
      let n : Member = record m { lease = Some heard } in
      let heard_so = hears_moves w h.me m ml server count refl x.1 (subst (λ t. WasTold w server (Ack t count)) t_is says.2) in
      let first = heard_so.moved in
      let shows2 = hears_shows c w.known.list l ml server count x.2 in
      let test = λ (e : ℕ × Waiting). is_acknowledged l2 e.0 in
      let due : (e : ℕ × Waiting) → Contains (filter test l2.outbox) e → IsDue c (w.known.list ml.stamp) heard e = λ e there.
      let q = shows2.waits e.0 e.1 (in_filter test l2.outbox e there) in
      record { open_edit = q.0; there = q.1; covers = covered c w.known.list l2 heard q.0.place shows2 (subst (λ k. is_acknowledged l2 k ≡ true) q.2.numbered (of_filter test l2.outbox e there)); waits = q.2 } in
      let all = all_answered first.world h.me n c (w.known.list ml.stamp) heard first.is refl promise (filter test l2.outbox) due in
      let closing = closes all.moved.world h.me n heard all.moved.is refl (settled_places l2) (settled_covers c w.known.list l2 heard shows2) in
      let second = and_then first.world h.me n (record m { lease = Some closing.lease }) all.sends [] all.moved closing.moved (refl, refl, refl) in
      let moved = and_then w h.me n (record m { lease = Some closing.lease }) [] ([] ++ (all.sends ++ [])) first second (refl, refl, refl) in
      let g = grows_by w h.me (record m { lease = Some closing.lease }) _ moved in
      let more = g.list ml.stamp in record {
        follows = record {
          member = record m { lease = Some closing.lease };
          sends = [] ++ (all.sends ++ []);
          moved = moved;
          lists = λ t. inl (then_list w h.me n (record m { lease = Some closing.lease }) [] ([] ++ (all.sends ++ [])) first second (refl, refl, refl) t ∙ then_list first.world h.me n (record m { lease = Some closing.lease }) all.sends [] all.moved closing.moved (refl, refl, refl) t ∙ closing.list t ∙ all.left t ∙ heard_so.list t);
          numbers = λ t. (then_list w h.me n (record m { lease = Some closing.lease }) [] ([] ++ (all.sends ++ [])) first second (refl, refl, refl) t ∙ then_list first.world h.me n (record m { lease = Some closing.lease }) all.sends [] all.moved closing.moved (refl, refl, refl) t ∙ closing.list t ∙ all.left t ∙ heard_so.list t);
          intact = λ spared whole. whole;
          gains = same_promise (w.members h.me) (record m { lease = Some closing.lease }) refl;
          shows = leased_shows c w h.me h.epoch p (Some closing.lease) ([] ++ (all.sends ++ [])) (Some (settled l2)) here.shows moved (lease_grown c w.known moved.world.known g (settled l2) closing.lease (settled_shows c w.known.list l2 heard closing.lease shows2 closing.is));
          tells = all_mapped (ServersTell c h.handle moved.world) (done_of h.me) (filter test l2.outbox) (λ e there. tt);
        };
        answers = all_mapped (AnswersEdit Calm c moved.world h.me) (done_of h.me) (filter test l2.outbox) (λ e there.
            let k = all.told e there in
            let o : Open = k.0 in
            let y = k.1 in inl (record {
              stamp = ml.stamp;
              edit = o.edit;
              before = y.before;
              behind = y.behind ++ more.0;
              told = subst (λ place. WasTold moved.world h.me (Done ml.stamp place o.edit)) y.placed (closing.moved.stays (record { server = h.me; body = Done ml.stamp o.place o.edit }) k.2);
              req = (let z = y.says in z.req);
              stands = more.1 ∙ ap (λ ys. ys ++ more.0) y.stands ∙ append_assoc y.before (o.edit ∷ y.behind) more.0;
              is = y.outcome;
            }));
      }

  pub ack_answering : IsHere bytes born w h p → (from : NodeId) (stamp : Stamp) (count : ℕ) → SaysOf c w from (chunks.Ack stamp count) → Answering Calm bytes born w h p (from_server from (λ server. holding.ack h p server stamp count))
  ack_answering here nodes.Master stamp count says = quiet_part here refusals.Stray
  ack_answering here (nodes.Client client) stamp count says = quiet_part here refusals.Stray
  ack_answering here (nodes.Server server) stamp count says = or_answering (unless_leased stamp p.slot p.lease) refl
    where
      by_lease : (o : Option primary.PrimaryLease) → p.lease ≡ o → unless_leased stamp p.slot o ≡ None → Answering Calm bytes born w h p (goes_on (λ l. settled (hears server count l)) (λ l. dones h.me (hears server count l)) o)
      by_lease None is none = record { follows = nothing_happens bytes born w h p here.shows [] tt; answers = tt }
      by_lease (Some l) is none = hear here server stamp count l is (met_not (is_same stamp l.grant.stamp) (refusals.Stamp p.slot.promise) none) says

      or_answering : (o : Option Refusal) → unless_leased stamp p.slot p.lease ≡ o → Answering Calm bytes born w h p (or_else o unanswered (goes_on (λ l. settled (hears server count l)) (λ l. dones h.me (hears server count l)) p.lease))
      or_answering None none = by_lease p.lease refl none
      or_answering (Some e) some = quiet_part here e
