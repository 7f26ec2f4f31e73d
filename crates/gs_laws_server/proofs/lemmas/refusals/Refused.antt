-- An edit that was refused is numbered at no later event.
use Rattle.std.proofs.Common.{◌≡◌, ◌≢◌, ◌∙◌, ◌+◌, ◌<◌, ◌≤◌, ◌⊎◌, inl, inr, ℕ, Bool, true, false, cond, List, [], ◌∷◌, None, Option, Some, Result, Ok, Err, length, refl, sym, ap, subst, arith}
use Rattle.std.specs.Prelude.{◌==◌, nat_le, nat_lt}
use Rattle.std.specs.Cmp.{IsTotalOrder, nat_cmp_total, on_total, tied_itself}
use Rattle.std.specs.FinMap as fin
use Rattle.std.specs.Ordering.{eq_by_cmp, is_eq}
use Rattle.std.proofs.lemmas.Bool.{eqb-true}
use Rattle.std.proofs.lemmas.Bool.Decides.{nat_tests}
use Rattle.gs_base.specs.declared.epoch.EpochEnd.{EpochEnd}
use Rattle.gs_base.specs.declared.numbers.ClientId.{ClientId}
use Rattle.gs_base.specs.declared.numbers.Moment.{Moment}
use Rattle.gs_base.specs.declared.numbers.ReqId.{ReqId}
use Rattle.gs_base.specs.declared.numbers.Stamp.{Stamp}
use Rattle.gs_base.specs.declared.refusal.Refusal.{Refusal}
use Rattle.gs_base.specs.declared.refusal.Refusal.TheVariants as refusals
use Rattle.gs_msg.specs.declared.body.Body.{Body}
use Rattle.gs_msg.specs.declared.body.Body.TheVariants as bodies
use Rattle.gs_msg.specs.declared.chunk.Chunk.{Chunk}
use Rattle.gs_msg.specs.declared.chunk.Chunk.TheVariants as chunks
use Rattle.gs_msg.specs.declared.node.NodeId.{NodeId}
use Rattle.gs_msg.specs.declared.node.NodeId.TheVariants as nodes
use Rattle.gs_msg.specs.declared.op.Op.{Op}
use Rattle.gs_msg.specs.Ops.{in_replica}
use Rattle.gs_replica.specs.declared.op.Done.{Done}
use Rattle.gs_replica.specs.declared.op.EditOutcome.TheVariants.{Padded}
use Rattle.gs_server.specs.Edits.{acknowledges, bytes_of, bytes_or_none, declines, done, edit, forward, is_known_of_all, last_count, new_edit, numbers, numbers_as, numbers_if, numbers_or_passes, opened, refused_edit, refused_once, repeated, takes, takes_if, takes_next, unless_done, unless_kept, unless_next, unless_numbered}
use Rattle.gs_server.specs.Places.{Here, LeaseStays, Part, Place, SlotBecomes, SlotChange, SlotStays, damaged_block, marked_by, or_else, sending}
use Rattle.gs_server.specs.Runs.{Damages, Event, Hears, Loses, Restarts, Ticks, behind, unless_refused}
use Rattle.gs_server.specs.Servers.{Server, changed_by, client_cmp, handle_body, here_of, in_store, keep_refusal, learn, learned, leases_after, place_of, store_of, with_leases, with_store}
use Rattle.gs_server.specs.Servers as servers
use Rattle.gs_server.specs.declared.turn.KeptRefusal.{KeptRefusal}
use Rattle.gs_server_lease.specs.Leases.{PrimaryLease, tell}
use Rattle.gs_server_lease.specs.Numbering.{is_passed, numbered_op}
use Rattle.gs_server_lease.specs.declared.lease.Open.{Open}
use Rattle.gs_store.proofs.Places.{same_key}
use Rattle.gs_store.specs.Serving.{apply, done_in}
use Rattle.gs_store.specs.Slots.{Live, Slot, first_of, unless_live, unless_promised}
use Rattle.gs_store.specs.Stores.{Store}
use Rattle.gs_store.specs.Stores as stores
use Rattle.gs_laws_server.specs.refusals.Refused.{HearsEdit, IsNumberedAt, IsOver, IsRefusedAt, NumbersNone, OverChangeNothing, OverAreNotNumbered, OverStay, RefusedAreNeverNumbered, RefusedAreNotNumbered, RefusedAreOver, asks, part_of}

-- ---- what an edit comes to

-- a mark makes no other replica
marks : (o : Option ℕ) (t : Slot) → marked_by o ≡ SlotBecomes t → ⊥
marks None t is = absurd (cc)
marks (Some block) t is = absurd (cc)

module _ (h : Here) (p : Place) (req : ReqId) where
  -- An edit that wasn't heard before is refused, which is kept under its number; or it isn't, and nothing is kept.
  abbrev IsNew : Part → Type 0
  IsNew part = ((part.said ≡ None) × (part.kept ≡ None)) ⊎ ((refusal : Refusal) × (part.said ≡ Some refusal) × (part.kept ≡ Some (record { number = req.number; refusal = refusal })) × ((t : Slot) → part.slot ≡ SlotBecomes t → ⊥))

  refused_new : (refusal : Refusal) → IsNew (refused_edit h p req refusal)
  refused_new refusal = inr (refusal, refl, refl, marks (damaged_block refusal))

  numbers_new : (l : PrimaryLease) (count : ℕ) (o : Open) → o.req ≡ req → (r : Result Slot Refusal) → IsNew (numbers_if h p l count o r)
  numbers_new l count o same (Err refusal) = inr (refusal, refl, ap (λ (q : ReqId). Some (let k : KeptRefusal = record { number = q.number; refusal = refusal } in k)) same, marks (damaged_block refusal))
  numbers_new l count o same (Ok s) = by_last (count == last_count)
    where
      by_last : (b : Bool) → IsNew (cond b (refused_edit h p o.req refusals.Exhausted) (numbers h s l (count + 1) o))
      by_last true = inr (refusals.Exhausted, refl, ap (λ (q : ReqId). Some (let k : KeptRefusal = record { number = q.number; refusal = refusals.Exhausted } in k)) same, marks None)
      by_last false = inl (refl, refl)

  passes_new : (op : Op) (bytes : List ℕ) (live : Option Live) (lease : Option PrimaryLease) → IsNew (numbers_or_passes h p req op bytes live lease)
  passes_new op bytes None lease = refused_new refusals.NoReplica
  passes_new op bytes (Some live) None = refused_new refusals.NotPrimary
  passes_new op bytes (Some live) (Some l) = by_passed (is_passed h.chunk (length live.replica.held.chunk.bytes) op)
    where
      by_passed : (b : Bool) → IsNew (cond b (sending (done h req (Ok Padded) ∷ [])) (numbers_as h p live l (opened req (numbered_op h.chunk (length live.replica.held.chunk.bytes) op) bytes live)))
      by_passed true = inl (refl, refl)
      by_passed false =
          let o : Open = opened req (numbered_op h.chunk (length live.replica.held.chunk.bytes) op) bytes live in
          numbers_new l live.replica.held.count o refl (apply l.grant.stamp (live.replica.held.count + 1) o.req (in_replica o.op) o.bytes p.slot)

  edit_new : (stamp : Stamp) (op : Op) → IsNew (new_edit h p req stamp op)
  edit_new stamp op = by_unless (unless_numbered h p stamp op)
    where
      by_unless : (o : Option Refusal) → IsNew (or_else o (refused_edit h p req) (numbers_or_passes h p req op (bytes_or_none (bytes_of op None h.pushed)) p.slot.live p.lease))
      by_unless (Some refusal) = refused_new refusal
      by_unless None = passes_new op (bytes_or_none (bytes_of op None h.pushed)) p.slot.live p.lease

  -- One that was heard before, or is older, changes nothing.
  record Rests (part : Part) : Type 0 where
    slot : part.slot ≡ SlotStays
    lease : part.lease ≡ LeaseStays
    kept : part.kept ≡ None
    used : part.used ≡ false

  record IsDone (part : Part) : Type 0 where
    last : Done
    there : done_in p.slot.live req.client.0 ≡ Some last
    same : last.number ≡ req.number
    sent : part.sent ≡ done h req (Ok last.outcome) ∷ []

  abbrev Answers : Part → Type 0
  Answers part = (part.sent ≡ []) ⊎ ((refusal : Refusal) × (part.sent ≡ done h req (Err refusal) ∷ [])) ⊎ IsDone part

  -- what such a one is met with
  abbrev IsMet : Part → Type 0
  IsMet part = (part.said ≡ None) ⊎ (part.said ≡ Some refusals.Old) ⊎ ((k : KeptRefusal) × (h.refused ≡ Some k) × (k.number ≡ req.number))

  record IsOld (part : Part) : Type 0 where
    rests : Rests part
    answers : Answers part
    met : IsMet part

  -- above all that was refused
  abbrev IsAbove : Option KeptRefusal → Type 0
  IsAbove None = Unit {0}
  IsAbove (Some k) = k.number < req.number

  abbrev Comes : Part → Type 0
  Comes part = IsOld part ⊎ (IsAbove h.refused × IsNew part)

  nothing_done : Rests (sending [])
  nothing_done = record { slot = refl; lease = refl; kept = refl; used = refl }

  old_once : IsOld (refused_once h req refusals.Old)
  old_once = record { rests = record { slot = refl; lease = refl; kept = refl; used = refl }; answers = inr (inl (refusals.Old, refl)); met = inr (inl refl) }

  kept_comes : (part : Part) → IsNew part → (o : Option KeptRefusal) → h.refused ≡ o → Comes (unless_kept h req o part)
  kept_comes part fresh None is = inr (subst IsAbove (sym is) tt, fresh)
  kept_comes part fresh (Some k) is = by_number (nat_lt req.number k.number) (req.number == k.number) refl refl
    where
      by_number : (lower same : Bool) → nat_lt req.number k.number ≡ lower → (req.number == k.number) ≡ same → Comes (cond lower (refused_once h req refusals.Old) (cond same (refused_once h req k.refusal) part))
      by_number true same lower equal = inl old_once
      by_number false true lower equal = inl (record { rests = record { slot = refl; lease = refl; kept = refl; used = refl }; answers = inr (inl (k.refusal, refl)); met = inr (inr (k, is, sym (eqb-true req.number k.number equal))) })
      by_number false false lower equal = inr (subst IsAbove (sym is) (grind (arith, nat_tests)), fresh)

  done_comes : (part : Part) → Comes part → (o : Option Done) → done_in p.slot.live req.client.0 ≡ o → Comes (unless_done h p req o part)
  done_comes part comes None is = comes
  done_comes part comes (Some last) is = by_number (req.number == last.number) (nat_lt req.number last.number) refl
    where
      by_known : (b : Bool) → last.number ≡ req.number → IsOld (cond b (sending (done h req (Ok last.outcome) ∷ [])) (sending []))
      by_known true same = record { rests = record { slot = refl; lease = refl; kept = refl; used = refl }; answers = inr (inr (record { last = last; there = is; same = same; sent = refl })); met = inl refl }
      by_known false same = record { rests = nothing_done; answers = inl refl; met = inl refl }

      by_number : (same lower : Bool) → (req.number == last.number) ≡ same → Comes (cond same (repeated h p req last.outcome) (cond lower (refused_once h req refusals.Old) part))
      by_number true lower equal = inl (by_known (is_known_of_all req p.slot p.lease) (sym (eqb-true req.number last.number equal)))
      by_number false true equal = inl old_once
      by_number false false equal = comes

  edit_comes : (stamp : Stamp) (op : Op) → Comes (edit h p req stamp op)
  edit_comes stamp op = done_comes (unless_kept h req h.refused (new_edit h p req stamp op)) (kept_comes (new_edit h p req stamp op) (edit_new stamp op) h.refused refl) (done_in p.slot.live req.client.0) refl

-- ---- a forward keeps no refusal

module _ (h : Here) (p : Place) (from : NodeId) (stamp : Stamp) (number : ℕ) (req : ReqId) (op : Op) where
  abbrev KeepsNone : Part → Type 0
  KeepsNone part = part.kept ≡ None

  taken_keeps : (r : Result Slot Refusal) → KeepsNone (takes_if h p from stamp number op r)
  taken_keeps (Ok s) = refl
  taken_keeps (Err refusal) = refl

  next_keeps : (bytes : Option (List ℕ)) (count : ℕ) (o : Option Refusal) → KeepsNone (or_else o (declines h p from stamp) (takes_if h p from stamp number op (apply stamp number req (in_replica op) (bytes_or_none bytes) p.slot)))
  next_keeps bytes count (Some refusal) = refl
  next_keeps bytes count None = taken_keeps (apply stamp number req (in_replica op) (bytes_or_none bytes) p.slot)

  takes_keeps : (bytes : Option (List ℕ)) (live : Option Live) → KeepsNone (takes h p from stamp number req op bytes live)
  takes_keeps bytes None = refl
  takes_keeps bytes (Some l) = by_count (nat_le number l.replica.held.count)
    where
      by_count : (b : Bool) → KeepsNone (cond b (acknowledges h from stamp l.replica.held.count) (takes_next h p from stamp number req op bytes l.replica.held.count))
      by_count true = refl
      by_count false = next_keeps bytes l.replica.held.count (unless_next l.replica.held.count number bytes)

  forward_keeps : (carried : Option (List ℕ)) → KeepsNone (forward h p from stamp number req op carried)
  forward_keeps carried = by_unless (first_of (unless_live p.slot.live ∷ unless_promised stamp p.slot ∷ []))
    where
      by_unless : (o : Option Refusal) → KeepsNone (or_else o (declines h p from stamp) (takes h p from stamp number req op (bytes_of op carried h.pushed) p.slot.live))
      by_unless (Some refusal) = refl
      by_unless None = takes_keeps (bytes_of op carried h.pushed) p.slot.live

-- ---- what is kept of refused edits

abbrev Refusals : Type 0
Refusals = fin.FinMap client_cmp KeptRefusal

-- of a map of what is kept: it is over by it
record IsOverIn (req : ReqId) (m : Refusals) : Type 0 where
  kept : KeptRefusal
  there : fin.get m req.client ≡ Some kept
  within : req.number ≤ kept.number

into_over : (req : ReqId) (s : Server) → IsOverIn req s.kept.refused → IsOver req s
into_over req s o = record { kept = o.kept; there = o.there; within = o.within }

out_over : (req : ReqId) (s : Server) → IsOver req s → IsOverIn req s.kept.refused
out_over req s o = record { kept = o.kept; there = o.there; within = o.within }

client_total : IsTotalOrder client_cmp
client_total = on_total (λ (c : ClientId). c.0) nat_cmp_total

same_client : (a b : ClientId) → eq_by_cmp client_cmp a b ≡ true → a ≡ b
same_client a b h = (let e : a.0 ≡ b.0 = same_key a.0 b.0 h in (λ i. record { 0 = e i }))

itself : (c : ClientId) → eq_by_cmp client_cmp c c ≡ true
itself c = ap is_eq (tied_itself client_total c)

above_kept : (req : ReqId) (o : Option KeptRefusal) (k : KeptRefusal) (h : Here) (p : Place) (e : ReqId) → o ≡ Some k → IsAbove h p e o → req.number ≤ k.number → req.number ≤ e.number
above_kept req None k h p e is above within = absurd (cc)
above_kept req (Some other) k h p e is above within = (let same : other.number ≡ k.number = ap (λ (x : KeptRefusal). x.number) (some_is other k is) in omega arith)
  where
    some_is : (a b : KeptRefusal) → Some a ≡ Some b → a ≡ b
    some_is a b is = cc

-- one is put there, above what was there of its client
put_over : (req e : ReqId) (m : Refusals) (new : KeptRefusal) (h : Here) (p : Place) → new.number ≡ e.number → IsAbove h p e (fin.get m e.client) → IsOverIn req m → IsOverIn req (fin.insert m e.client new)
put_over req e m new h p number above o = by_key (eq_by_cmp client_cmp req.client e.client) refl
  where
    by_key : (b : Bool) → eq_by_cmp client_cmp req.client e.client ≡ b → IsOverIn req (fin.insert m e.client new)
    by_key true is =
        let client = same_client req.client e.client is in
        let low : req.number ≤ e.number = above_kept req (fin.get m e.client) o.kept h p e (ap (fin.get m) (sym client) ∙ o.there) above o.within in
        record { kept = new; there = fin.get-insert client_total m e.client new req.client ∙ ap (λ b. cond b (Some new) (fin.get m req.client)) is; within = omega arith }
    by_key false is = record { kept = o.kept; there = fin.get-insert client_total m e.client new req.client ∙ ap (λ b. cond b (Some new) (fin.get m req.client)) is ∙ o.there; within = o.within }

-- after an edit
edit_over : (req e : ReqId) (m : Refusals) (h : Here) (p : Place) (part : Part) → h.refused ≡ fin.get m e.client → Comes h p e part → IsOverIn req m → IsOverIn req (keep_refusal (Some e) part.kept m)
edit_over req e m h p part found (inl old) o = subst (λ k. IsOverIn req (keep_refusal (Some e) k m)) (sym old.rests.kept) o
edit_over req e m h p part found (inr (above, inl none)) o = subst (λ k. IsOverIn req (keep_refusal (Some e) k m)) (sym none.1) o
edit_over req e m h p part found (inr (above, inr (refusal, said, kept, rests))) o =
    subst (λ k. IsOverIn req (keep_refusal (Some e) k m)) (sym kept) (put_over req e m (record { number = e.number; refusal = refusal }) h p refl (subst (IsAbove h p e) found above) o)

-- after a message about a chunk
chunk_over : (req : ReqId) (s : Server) (from : NodeId) (handle : ℕ) (said : Chunk) (moment : Moment) → IsOverIn req s.kept.refused → IsOverIn req (handle_body s from (bodies.About handle said) moment).after.kept.refused
chunk_over req s from handle (chunks.Edit e stamp op) moment o = edit_over req e s.kept.refused (here_of s moment handle (Some e)) (place_of handle s) (edit (here_of s moment handle (Some e)) (place_of handle s) e stamp op) refl (edit_comes (here_of s moment handle (Some e)) (place_of handle s) e stamp op) o
chunk_over req s from handle (chunks.Forward stamp number e op bytes) moment o =
    subst (λ k. IsOverIn req (keep_refusal (Some e) k s.kept.refused)) (sym (forward_keeps (here_of s moment handle (Some e)) (place_of handle s) from stamp number e op bytes)) o
chunk_over req s from handle (chunks.Create stamp) moment o = o
chunk_over req s from handle (chunks.Advance stamp) moment o = o
chunk_over req s from handle (chunks.Grant given) moment o = o
chunk_over req s from handle (chunks.Renewed stamp end) moment o = o
chunk_over req s from handle (chunks.Ack stamp count) moment o = o
chunk_over req s from handle (chunks.Nack stamp refusal) moment o = o
chunk_over req s from handle (chunks.Fetch q stamp epoch asked) moment o = o
chunk_over req s from handle (chunks.CopyOut stamp target with_sealed) moment o = o
chunk_over req s from handle (chunks.CopyIn stamp image sealed) moment o = o
chunk_over req s from handle (chunks.Drop epoch promise) moment o = o
chunk_over req s from handle (chunks.Promised stamp count carried) moment o = o
chunk_over req s from handle (chunks.Unpromised stamp refusal) moment o = o
chunk_over req s from handle (chunks.Renew stamp) moment o = o
chunk_over req s from handle (chunks.Bad stamp) moment o = o

learn_same : (s : Server) (epoch : ℕ) (end : EpochEnd) → (learn s epoch end).after.kept.refused ≡ s.kept.refused
learn_same s epoch end = by_case (epoch == s.kept.epoch) (epoch == s.kept.epoch + 1)
  where
    by_case : (a b : Bool) → (cond a (learned s epoch end s) (cond b (learned s epoch end (with_leases (leases_after end s.dropped.leases) (with_store (stores.learned epoch end (store_of s)) s)))
        (record { after = s; sent = tell s.me nodes.Master (bodies.Behind s.kept.epoch) ∷ []; said = Some (refusals.Epoch s.kept.epoch) }))).after.kept.refused ≡ s.kept.refused
    by_case true b = refl
    by_case false true = refl
    by_case false false = refl

body_over : (req : ReqId) (s : Server) (from : NodeId) (body : Body) (moment : Moment) → IsOverIn req s.kept.refused → IsOverIn req (handle_body s from body moment).after.kept.refused
body_over req s from (bodies.About handle said) moment o = chunk_over req s from handle said moment o
body_over req s from (bodies.Epoch epoch end) moment o = subst (IsOverIn req) (sym (learn_same s epoch end)) o
body_over req s from (bodies.Push q bytes) moment o = o
body_over req s from (bodies.MakeCopy handle at new_handle stamp) moment o = o
body_over req s from (bodies.Call q call) moment o = o
body_over req s from (bodies.Reply q result) moment o = o
body_over req s from (bodies.Done q result) moment o = o
body_over req s from (bodies.Bytes q result) moment o = o
body_over req s from (bodies.Report epoch replicas) moment o = o
body_over req s from (bodies.Learned epoch handles) moment o = o
body_over req s from (bodies.Behind epoch) moment o = o

stored_over : (req : ReqId) (s : Server) (r : Result Store Refusal) → IsOverIn req s.kept.refused → IsOverIn req (unless_refused s (in_store s r)).kept.refused
stored_over req s (Ok t) o = o
stored_over req s (Err refusal) o = o

over_behind : (req : ReqId) (e : Event) (s : Server) → IsOverIn req s.kept.refused → IsOverIn req (behind e s).kept.refused
over_behind req (Hears message moment) s o = body_over req s message.from message.body moment o
over_behind req (Ticks moment) s o = o
over_behind req Restarts s o = o
over_behind req (Loses handle) s o = stored_over req s (stores.lose handle (store_of s)) o
over_behind req (Damages handle block) s o = stored_over req s (stores.damage handle block (store_of s)) o

pub over_stay : OverStay
over_stay e s req o = into_over req (behind e s) (over_behind req e s (out_over req s o))

-- ---- what is refused

met_over : (s : Server) (req : ReqId) (h : Here) (p : Place) (part : Part) (refusal : Refusal) → h.refused ≡ fin.get s.kept.refused req.client → part.said ≡ Some refusal → refusal ≢ refusals.Old → Comes h p req part → IsOverIn req (keep_refusal (Some req) part.kept s.kept.refused)
met_over s req h p part refusal found said other (inl old) = by_met old.met
  where
    some_none : (o : Option Refusal) → o ≡ Some refusal → o ≡ None → ⊥
    some_none o some none = absurd (cc)

    same_refusal : (o : Option Refusal) (a b : Refusal) → o ≡ Some a → o ≡ Some b → a ≡ b
    same_refusal o a b one two = cc

    by_met : IsMet h p req part → IsOverIn req (keep_refusal (Some req) part.kept s.kept.refused)
    by_met (inl none) = absurd (some_none part.said said none)
    by_met (inr (inl older)) = absurd (other (same_refusal part.said refusal refusals.Old said older))
    by_met (inr (inr (k, is, same))) = subst (λ o. IsOverIn req (keep_refusal (Some req) o s.kept.refused)) (sym old.rests.kept) (record { kept = k; there = sym found ∙ is; within = omega arith })
met_over s req h p part refusal found said other (inr (above, inl none)) = absurd (some_none part.said said none.0)
  where
    some_none : (o : Option Refusal) → o ≡ Some refusal → o ≡ None → ⊥
    some_none o some none = absurd (cc)
met_over s req h p part refusal found said other (inr (above, inr (was, met, kept, rests))) =
    let new : KeptRefusal = record { number = req.number; refusal = was } in
    subst (λ o. IsOverIn req (keep_refusal (Some req) o s.kept.refused)) (sym kept)
    (record { kept = new; there = fin.get-insert client_total s.kept.refused req.client new req.client ∙ ap (λ b. cond b (Some new) (fin.get s.kept.refused req.client)) (itself req.client); within = omega arith })

pub refused_are_over : RefusedAreOver
refused_are_over e s req r =
    let k = r.hears in
    let h : Here = here_of s k.moment k.handle (Some req) in
    let p : Place = place_of k.handle s in
    let part : Part = edit h p req k.stamp k.op in
    let o : IsOverIn req (behind (Hears (asks k.from k.to k.handle req k.stamp k.op) k.moment) s).kept.refused = met_over s req h p part r.refusal refl r.said r.other (edit_comes h p req k.stamp k.op) in
    into_over req (behind e s) (subst (λ (d : Event). IsOverIn req (behind d s).kept.refused) (sym k.is) o)

-- ---- what is over

none_above : (req : ReqId) (h : Here) (p : Place) (o : Option KeptRefusal) (k : KeptRefusal) → o ≡ Some k → req.number ≤ k.number → IsAbove h p req o → ⊥
none_above req h p None k is within above = absurd (cc)
none_above req h p (Some other) k is within above = (let same : other.number ≡ k.number = ap (λ (x : KeptRefusal). x.number) (some_is other k is) in omega arith)
  where
    some_is : (a b : KeptRefusal) → Some a ≡ Some b → a ≡ b
    some_is a b is = cc

old_there : (req : ReqId) (s : Server) (h : Here) (p : Place) (part : Part) → h.refused ≡ fin.get s.kept.refused req.client → IsOver req s → Comes h p req part → IsOld h p req part
old_there req s h p part found o (inl old) = old
old_there req s h p part found o (inr (above, new)) = absurd (none_above req h p h.refused o.kept (found ∙ o.there) o.within above)

rests_leaves : (handle : ℕ) (req : ReqId) (h : Here) (p : Place) (part : Part) (s : Server) → Rests h p req part → changed_by handle (Some req) part s ≡ s
rests_leaves handle req h p part s r =
    ap (λ c. servers.with_store (servers.change_buffer (Some req) part.used (servers.change_slot handle c (store_of s))) (with_leases (servers.change_lease handle part.lease s.dropped.leases) (servers.with_refused (keep_refusal (Some req) part.kept s.kept.refused) s))) r.slot
    ∙ ap (λ b. servers.with_store (servers.change_buffer (Some req) b (store_of s)) (with_leases (servers.change_lease handle part.lease s.dropped.leases) (servers.with_refused (keep_refusal (Some req) part.kept s.kept.refused) s))) r.used
    ∙ ap (λ c. servers.with_store (store_of s) (with_leases (servers.change_lease handle c s.dropped.leases) (servers.with_refused (keep_refusal (Some req) part.kept s.kept.refused) s))) r.lease
    ∙ ap (λ k. servers.with_store (store_of s) (with_leases s.dropped.leases (servers.with_refused (keep_refusal (Some req) k s.kept.refused) s))) r.kept

pub over_change_nothing : OverChangeNothing
over_change_nothing e s req k o =
    let h : Here = here_of s k.moment k.handle (Some req) in
    let p : Place = place_of k.handle s in
    let part : Part = edit h p req k.stamp k.op in
    let old = old_there req s h p part refl o (edit_comes h p req k.stamp k.op) in (
      ap (λ (d : Event). behind d s) k.is ∙ rests_leaves k.handle req h p part s old.rests,
      elim old.answers [
        | inl none ↦ inl none
        | inr (inl refused) ↦ inr (inl refused)
        | inr (inr d) ↦ inr (inr (record { last = d.last; there = d.there; same = d.same; sent = d.sent }))
      ],
    )

pub over_not_numbered : OverAreNotNumbered
over_not_numbered e s req o n =
    let k = n.hears in
    let h : Here = here_of s k.moment k.handle (Some req) in
    let p : Place = place_of k.handle s in
    let part : Part = edit h p req k.stamp k.op in
    never part.slot n.slot (old_there req s h p part refl o (edit_comes h p req k.stamp k.op)).rests.slot n.becomes
  where
    never : (c : SlotChange) (t : Slot) → c ≡ SlotStays → c ≡ SlotBecomes t → ⊥
    never c t stays becomes = absurd (cc)

none_numbered : (events : List Event) (s : Server) (req : ReqId) → IsOver req s → NumbersNone req events s
none_numbered [] s req o = tt
none_numbered (e ∷ events) s req o = (over_not_numbered e s req o, none_numbered events (behind e s) req (over_stay e s req o))

older_over : (req other : ReqId) (s : Server) → other.client ≡ req.client → other.number ≤ req.number → IsOver req s → IsOver other s
older_over req other s client low o = (let within = o.within in record { kept = o.kept; there = ap (fin.get s.kept.refused) client ∙ o.there; within = omega arith })

pub refused_are_not_numbered : RefusedAreNotNumbered
refused_are_not_numbered e s req r other client low events = none_numbered events (behind e s) other (older_over req other (behind e s) client low (refused_are_over e s req r))

-- ---- and what no event before has numbered

-- an edit isn't numbered where it is refused
refused_rests : (h : Here) (p : Place) (req : ReqId) (part : Part) (t : Slot) (refusal : Refusal) → Comes h p req part → part.slot ≡ SlotBecomes t → part.said ≡ Some refusal → ⊥
refused_rests h p req part t refusal (inl old) becomes said = never part.slot t old.rests.slot becomes
  where
    never : (c : SlotChange) (t : Slot) → c ≡ SlotStays → c ≡ SlotBecomes t → ⊥
    never c t stays becomes = absurd (cc)
refused_rests h p req part t refusal (inr (above, inl none)) becomes said = some_none part.said said none.0
  where
    some_none : (o : Option Refusal) → o ≡ Some refusal → o ≡ None → ⊥
    some_none o some none = absurd (cc)
refused_rests h p req part t refusal (inr (above, inr (was, met, kept, rests))) becomes said = rests t becomes

-- what an event comes to, if it is an edit that is heard
abbrev heard_in : Body → Server → Moment → Part
heard_in (bodies.About handle (chunks.Edit req stamp op)) s moment = edit (here_of s moment handle (Some req)) (place_of handle s) req stamp op
heard_in body s moment = sending []

abbrev part_in : Event → Server → Part
part_in (Hears message moment) s = heard_in message.body s moment
part_in e s = sending []

part_is : (e : Event) (s : Server) (req : ReqId) (k : HearsEdit e req) → part_in e s ≡ part_of e req k s
part_is e s req k = ap (λ (d : Event). part_in d s) k.is

refused_not_numbered : (e : Event) (s : Server) (req : ReqId) → IsRefusedAt e s req → IsNumberedAt e s req → ⊥
refused_not_numbered e s req r n =
    let k = r.hears in
    let l = n.hears in
    let h : Here = here_of s k.moment k.handle (Some req) in
    let p : Place = place_of k.handle s in
    refused_rests h p req (part_of e req k s) n.slot r.refusal (edit_comes h p req k.stamp k.op) (ap (λ (q : Part). q.slot) (sym (part_is e s req k) ∙ part_is e s req l) ∙ n.becomes) r.said

pub refused_are_never_numbered : RefusedAreNeverNumbered
refused_are_never_numbered [] e after s req none r = (refused_not_numbered e s req r, none_numbered after (behind e s) req (refused_are_over e s req r))
refused_are_never_numbered (first ∷ before) e after s req none r = (none.0, refused_are_never_numbered before e after (behind first s) req none.1 r)
