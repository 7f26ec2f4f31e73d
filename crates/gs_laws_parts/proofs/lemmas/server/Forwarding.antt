-- A forward at the chunk's own place: taken, acknowledged again, or refused.
use Rattle.std.proofs.Common.{◌≡◌, ℕ, ◌+◌, ◌≤◌, Bool, true, false, cond, List, [], ◌∷◌, ◌++◌, length, Option, Some, None, refl, sym, ap, subst, ◌∙◌, length-append, arith, inl}
use Rattle.std.specs.Prelude.{Result, Ok, Err, is_some, nat_le, nat_lt, ◌==◌}
use Rattle.std.specs.FinMap as fin
use Rattle.std.proofs.lemmas.Bool.Decides.{nat_tests}
use Rattle.gs_base.specs.declared.numbers.Stamp.{Stamp}
use Rattle.gs_base.specs.declared.numbers.ReqId.{ReqId}
use Rattle.gs_base.specs.declared.refusal.Refusal.{Refusal}
use Rattle.gs_base.specs.declared.refusal.Refusal.TheVariants as refusals
use Rattle.gs_base.specs.Stamps.{is_same}
use Rattle.gs_replica.specs.Edits as edits
use Rattle.gs_replica.specs.Edits.{is_old}
use Rattle.gs_replica.specs.Held.{Held}
use Rattle.gs_replica.specs.Seals.{Sealed, State, with_seal, on_seal, touch_seal}
use Rattle.gs_replica.specs.Seals as replicas
use Rattle.gs_replica.specs.Stands.{Edit, StoodFor}
use Rattle.gs_replica.specs.declared.op.Op.{Op as Applied}
use Rattle.gs_replica.proofs.Taking.{stays_undamaged}
use Rattle.gs_replica.proofs.Listing.{seal_ok}
use Rattle.gs_msg.specs.declared.op.Op.{Op}
use Rattle.gs_msg.specs.declared.op.Op.TheVariants.{Write, Append, Pad}
use Rattle.gs_msg.specs.Ops.{in_replica}
use Rattle.gs_msg.specs.declared.node.NodeId.{NodeId}
use Rattle.gs_msg.specs.declared.node.NodeId.TheVariants as nodes
use Rattle.gs_msg.specs.declared.chunk.Chunk.TheVariants as chunks
use Rattle.gs_store.specs.Slots.{Live, Slot, first_of, when, unless_live, unless_promised, seal_in, seal_of, sealed_of, with_live, count_of}
use Rattle.gs_store.specs.Serving.{apply, apply_to}
use Rattle.gs_store.specs.Standing.{LiveStandsFor, StandsIn, LiveUndamaged, IsToldIn}
use Rattle.gs_store.proofs.Calls.{standing_in}
use Rattle.gs_store.proofs.Laws.{Holds, of_ok}
use Rattle.gs_store.proofs.Standing.{of_live, edit_stands, count_stands}
use Rattle.gs_server.specs.Places.{Place, Here, SlotBecomes, LeaseStays, about}
use Rattle.gs_server.specs.Edits.{bytes_of, as_many, or_pushed, bytes_or_none, has_bytes, unless_there, acknowledges, declines, takes_if, unless_next, takes_next, takes, forward}
use Rattle.gs_laws_chunk.specs.machine.Stamps.{stamp_at}
use Rattle.gs_laws_chunk.specs.machine.Machine.{Member, Sent, ChunkWorld, WasTold, Forward, Ack}
use Rattle.gs_laws_chunk.specs.machine.Events.{Applies, Acknowledges, one}
use Rattle.gs_laws_parts.specs.server.Showing.{Setting, setting_at, ShowsImage, ShowsTaken, Says, SealUndamaged, ShowsPlace}
use Rattle.gs_laws_parts.specs.server.Telling.{CarriesBytes, TellsServer, TellsTo}
use Rattle.gs_laws_parts.specs.server.Moving.{Moved, IsHere, FollowsPart}
use Rattle.gs_laws_parts.specs.server.Blocks.{HoldsBlocks}
use Rattle.gs_laws_parts.proofs.lemmas.server.Blocks.{edit_holds}
use Rattle.gs_laws_parts.proofs.lemmas.server.Stamps.{same_stamp, stamp_number}
use Rattle.gs_laws_parts.proofs.lemmas.server.Tests.{head_none, tail_none, met_not}
use Rattle.gs_laws_parts.proofs.lemmas.server.Engine.{said_one, moves_so, Stays, stays_then, same_promise}
use Rattle.gs_laws_parts.proofs.lemmas.server.Places.{grows_by, counts_back, lease_at_grown, place_grown, live_back}
use Rattle.gs_laws_parts.proofs.lemmas.server.Promising.{lives, or_outcome, either_outcome, refused_outcome}
use Rattle.gs_laws_parts.proofs.lemmas.server.Leasing.{is_late}

-- ---- events of a member that is told apart from the world

pub acknowledges_moves : (w : ChunkWorld) (me : ℕ) (m : Member) (xs : List Edit) → w.members me ≡ m → m.live ≡ Some xs → Stays w me m (one me (Ack m.promise (length xs)))
acknowledges_moves w me m xs is live =
    subst (λ n. n.live ≡ Some xs → Stays w me n (one me (Ack n.promise (length xs)))) is (λ there. moves_so w (Acknowledges me xs) me (w.members me) (one me (Ack (w.members me).promise (length xs))) there refl) live

-- ---- what an edit leaves of a slot

-- the same image is sealed, if one is
pub record KeepsSealed (block size : ℕ) (old new : Option Sealed) : Type 0 where
  pub none : old ≡ None → new ≡ None
  pub undamaged : SealUndamaged old → SealUndamaged new
  pub stood : (xs : List Edit) → StoodFor block size old xs → StoodFor block size new xs

in_live : (P : Slot → Type 0) (s : Slot) (bad : Option ℕ) (sealed : Option Sealed) (m : Result Held Refusal) → ((h : Held) → P (standing_in s bad (record { held = h; sealed = sealed }))) → Holds P (with_live s bad (with_seal sealed m))
in_live P s bad sealed (Ok h) each = each h
in_live P s bad sealed (Err e) each = tt

touched_keeps : (block size : ℕ) (req : ReqId) (op : Applied) (bytes : List ℕ) (h : Held) (o : Option Sealed) (trash : Option State) → KeepsSealed block size (seal_in o trash) (seal_in (on_seal (touch_seal req op bytes h) o) trash)
touched_keeps block size req op bytes h None trash = record { none = λ n. n; undamaged = λ n. n; stood = λ xs n. n }
touched_keeps block size req op bytes h (Some t) trash = record {
  none = λ n. absurd (cc);
  undamaged = λ n. n;
  stood = λ xs n. record { block = n.block; chunk = n.chunk; taken = n.taken; count = n.count; done = n.done; bytes = n.bytes };
}

edited_keeps : (block size : ℕ) (stamp : Stamp) (number : ℕ) (req : ReqId) (op : Applied) (bytes : List ℕ) (s : Slot) (live : Option Live) → s.live ≡ live → Holds (λ x. KeepsSealed block size (sealed_of s) (sealed_of x)) (apply_to stamp number req op bytes s live)
edited_keeps block size stamp number req op bytes s None is = tt
edited_keeps block size stamp number req op bytes s (Some l) is =
    in_live (λ x. KeepsSealed block size (sealed_of s) (sealed_of x)) s l.bad (on_seal (touch_seal req op bytes l.replica.held) l.replica.sealed) (edits.apply stamp number req op bytes l.replica.held)
    (λ h. subst (λ o. KeepsSealed block size (seal_of o s.trash) (seal_in (on_seal (touch_seal req op bytes l.replica.held) l.replica.sealed) s.trash)) (sym is) (touched_keeps block size req op bytes l.replica.held l.replica.sealed s.trash))

edited_sets : (stamp : Stamp) (number : ℕ) (req : ReqId) (op : Applied) (bytes : List ℕ) (s : Slot) (live : Option Live) → Holds (λ x. (x.promise ≡ s.promise) × (x.carried ≡ s.carried) × (x.taken ≡ s.taken)) (apply_to stamp number req op bytes s live)
edited_sets stamp number req op bytes s None = tt
edited_sets stamp number req op bytes s (Some l) = of_live (λ x. (x.promise ≡ s.promise) × (x.carried ≡ s.carried) × (x.taken ≡ s.taken)) s l.bad (replicas.apply stamp number req op bytes l.replica) (λ r e. (refl, refl, refl))

edited_undamaged : (block size : ℕ) (stamp : Stamp) (number : ℕ) (req : ReqId) (op : Applied) (bytes : List ℕ) (s : Slot) (live : Option Live) (xs : List Edit) → LiveStandsFor block size live xs → LiveUndamaged live → Holds (λ x. LiveUndamaged x.live) (apply_to stamp number req op bytes s live)
edited_undamaged block size stamp number req op bytes s None xs stands none = tt
edited_undamaged block size stamp number req op bytes s (Some l) xs stands none =
    of_live (λ x. LiveUndamaged x.live) s l.bad (replicas.apply stamp number req op bytes l.replica)
    (λ r e. (let q = stands.bytes in stays_undamaged stamp number req op bytes l.replica.held r.held q.stored none (seal_ok _ _ r e).0))

-- an edit is judged by its stamp, number and request
pub record IsJudged (stamp : Stamp) (number : ℕ) (req : ReqId) (h : Held) : Type 0 where
  pub stamp_is : is_same stamp h.promise ≡ true
  pub next : number ≡ h.count + 1
  pub fresh : is_old req.number (fin.get h.done req.client.0) ≡ false

judged_ok : (stamp : Stamp) (number : ℕ) (req : ReqId) (h g : Held) (m : Result Held Refusal) (a b d : Bool) → is_same stamp h.promise ≡ a → (number == (h.count + 1)) ≡ b → is_old req.number (fin.get h.done req.client.0) ≡ d
    → edits.unless_refused (cond a (cond b (cond d (Some refusals.Old) None) (Some (refusals.Gap h.count))) (Some (refusals.Stamp h.promise))) m ≡ Ok g → IsJudged stamp number req h
judged_ok stamp number req h g m true true false is next fresh ok = record { stamp_is = is; next = grind (arith, nat_tests); fresh = fresh }
judged_ok stamp number req h g m true true true is next fresh ok = absurd (cc)
judged_ok stamp number req h g m true false d is next fresh ok = absurd (cc)
judged_ok stamp number req h g m false b d is next fresh ok = absurd (cc)

pub applied_judged : (stamp : Stamp) (number : ℕ) (req : ReqId) (op : Applied) (bytes : List ℕ) (r r2 : State) → replicas.apply stamp number req op bytes r ≡ Ok r2 → IsJudged stamp number req r.held
applied_judged stamp number req op bytes r r2 is = judged_ok stamp number req r.held r2.held _ (is_same stamp r.held.promise) (number == (r.held.count + 1)) (is_old req.number (fin.get r.held.done req.client.0)) refl refl refl (seal_ok _ _ r2 is).0

-- ---- what an accepted edit makes of a place

pub record IsEdited (block size : ℕ) (s : Slot) (m : Member) (xs : List Edit) (e : Edit) (t : Slot) : Type 0 where
  pub promise : t.promise ≡ s.promise
  pub carried : t.carried ≡ s.carried
  pub taken : t.taken ≡ s.taken
  pub stands : StandsIn block size t (xs ++ e ∷ [])
  pub undamaged : LiveUndamaged s.live → LiveUndamaged t.live
  pub sealed : KeepsSealed block size (sealed_of s) (sealed_of t)
  pub holds : HoldsBlocks block size t xs (xs ++ e ∷ [])

pub edited : (block size : ℕ) (s : Slot) (m : Member) (xs : List Edit) (stamp : Stamp) (number : ℕ) (req : ReqId) (op : Applied) (bytes : List ℕ) (t : Slot) → StandsIn block size s xs → IsToldIn block size s xs → apply stamp number req op bytes s ≡ Ok t
    → IsEdited block size s m xs (record { req = req; op = op; bytes = bytes }) t
edited block size s m xs stamp number req op bytes t stands told is =
    let set = of_ok (λ x. (x.promise ≡ s.promise) × (x.carried ≡ s.carried) × (x.taken ≡ s.taken)) (apply stamp number req op bytes s) t is (edited_sets stamp number req op bytes s s.live) in record {
      promise = set.0;
      carried = set.1;
      taken = set.2;
      stands = of_ok (λ x. LiveStandsFor block size x.live (xs ++ (record { req = req; op = op; bytes = bytes }) ∷ [])) (apply stamp number req op bytes s) t is (edit_stands block size stamp number req op bytes s s.live xs stands told);
      undamaged = λ none. of_ok (λ x. LiveUndamaged x.live) (apply stamp number req op bytes s) t is (edited_undamaged block size stamp number req op bytes s s.live xs stands none);
      sealed = of_ok (λ x. KeepsSealed block size (sealed_of s) (sealed_of x)) (apply stamp number req op bytes s) t is (edited_keeps block size stamp number req op bytes s s.live refl);
      holds = of_ok (λ x. HoldsBlocks block size x xs (xs ++ (record { req = req; op = op; bytes = bytes }) ∷ [])) (apply stamp number req op bytes s) t is (edit_holds block size stamp number req op bytes s s.live xs stands told);
    }

pub image_kept : (c : Setting) (s t : Slot) (o : Option (List Edit)) → KeepsSealed c.block c.size (sealed_of s) (sealed_of t) → ShowsImage c s o → ShowsImage c t o
image_kept c s t None keeps is = keeps.none is
image_kept c s t (Some xs) keeps is = keeps.stood xs is

-- ---- the bytes of a forward

found_is : (t : Bool) (b bytes : List ℕ) → cond t (Some b) None ≡ Some bytes → bytes ≡ b
found_is true b bytes there = cc
found_is false b bytes there = absurd (cc)

many_is : (asked : List ℕ) (e : Edit) (bytes : List ℕ) (many : ℕ) (carried pushed : Option (List ℕ)) → CarriesBytes carried e → e.bytes ≡ asked → ((b : List ℕ) → pushed ≡ Some b → b ≡ asked) → as_many many (or_pushed carried pushed) ≡ Some bytes → bytes ≡ e.bytes
many_is asked e bytes many (Some b) pushed carries is right there = found_is (length b == many) b bytes there ∙ carries
many_is asked e bytes many None (Some b) carries is right there = found_is (length b == many) b bytes there ∙ right b refl ∙ sym is
many_is asked e bytes many None None carries is right there = absurd (cc)

-- the edit that a forward makes is the one that it was told as
forwarded_is : (c : Setting) (req : ReqId) (op : Op) (carried pushed : Option (List ℕ)) (bytes : List ℕ) (e : Edit) → Says c req op e → CarriesBytes carried e → ((b : List ℕ) → pushed ≡ Some b → b ≡ c.bytes req) → bytes_of op carried pushed ≡ Some bytes → bytes ≡ e.bytes
forwarded_is c req Pad carried pushed bytes e says carries right there = (let b = says.bytes in (cc))
forwarded_is c req (Write offset many) carried pushed bytes e says carries right there = many_is (c.bytes req) e bytes many carried pushed carries says.bytes right there
forwarded_is c req (Append many) carried pushed bytes e says carries right there = many_is (c.bytes req) e bytes many carried pushed carries says.bytes right there

tells_ack : (c : Setting) (w : ChunkWorld) (from : NodeId) (stamp : Stamp) (count : ℕ) → TellsTo c w from (chunks.Ack stamp count)
tells_ack c w (nodes.Server to) stamp count = tt
tells_ack c w nodes.Master stamp count = tt
tells_ack c w (nodes.Client client) stamp count = tt

tells_nack : (c : Setting) (w : ChunkWorld) (from : NodeId) (stamp : Stamp) (e : Refusal) → TellsTo c w from (chunks.Nack stamp e)
tells_nack c w (nodes.Server to) stamp e = tt
tells_nack c w nodes.Master stamp e = tt
tells_nack c w (nodes.Client client) stamp e = tt

module _ (bytes : ReqId → List ℕ) (born : ℕ) (w : ChunkWorld) (h : Here) (p : Place) where
  abbrev c : Setting
  c = setting_at bytes born h

  pub declines_outcome : IsHere bytes born w h p → (from : NodeId) (stamp : Stamp) (e : Refusal) → FollowsPart bytes born w h p (declines h p from stamp e)
  declines_outcome here from stamp e = refused_outcome bytes born w h p here.shows (about h from (chunks.Nack stamp e)) e (λ _. (tt, tells_nack c w from stamp e))

  acknowledges_outcome : IsHere bytes born w h p → (from : NodeId) (stamp : Stamp) (l : Live) → p.slot.live ≡ Some l → is_same stamp p.slot.promise ≡ true → FollowsPart bytes born w h p (acknowledges h from stamp l.replica.held.count)
  acknowledges_outcome here from stamp l is same =
      let m : Member = w.members h.me in
      let x = lives c p.slot m.live here.shows.live (ap is_some is) in
      let so = acknowledges_moves w h.me m x.0 refl x.1 in
      let moved = so.moved in
      let count : l.replica.held.count ≡ length x.0 = (let n = count_stands h.block h.chunk p.slot.live x.0 x.2 in let k = ap count_of is in (cc)) in
      let told : WasTold moved.world h.me (Ack m.promise (length x.0)) = said_one w h.me h.me m (Ack m.promise (length x.0)) moved in record {
        member = m;
        sends = one h.me (Ack m.promise (length x.0));
        moved = moved;
        lists = λ t. inl (so.list t);
        numbers = λ t. (so.list t);
        intact = λ spared whole. whole;
        gains = same_promise (w.members h.me) m refl;
        shows = place_grown c w.known moved.world.known (grows_by w h.me m _ moved) h.epoch p m here.shows;
        tells = ((λ _. ((m.promise, same_stamp stamp p.slot.promise same ∙ here.shows.promise, subst (λ n. WasTold moved.world h.me (Ack m.promise n)) (sym count) told), tells_ack c moved.world from stamp l.replica.held.count)), tt);
      }

  -- the place behind an edit that a member takes
  applied_place : IsHere bytes born w h p → (xs : List Edit) (e : Edit) (s : Slot) (sends : List Sent) → IsEdited h.block h.chunk p.slot (w.members h.me) xs e s → born ≤ h.epoch → (w.members h.me).live ≡ Some xs
      → (moved : Moved w h.me (record (w.members h.me) { live = Some (xs ++ e ∷ []) }) sends)
      → ShowsPlace c moved.world.known h.epoch (record { slot = s; lease = p.lease }) (record (w.members h.me) { live = Some (xs ++ e ∷ []) })
  applied_place here xs e s sends made late live moved =
      let m : Member = w.members h.me in
      let g = grows_by w h.me _ sends moved in record {
        epoch_is = here.shows.epoch_is;
        early = λ early. absurd (omega arith);
        promise = made.promise ∙ here.shows.promise;
        carried = here.shows.carried ∙ sym made.carried;
        live = made.stands;
        image = image_kept c p.slot s m.image made.sealed here.shows.image;
        taken = subst (λ o. ShowsTaken o m.taken) (sym made.taken) here.shows.taken;
        lease = lease_at_grown c w.known moved.world.known g p.lease m.lease here.shows.lease;
        promised = λ _. here.shows.promised (ap is_some live);
        intact = λ whole. let x = here.shows.intact whole in (λ counts. made.undamaged (x.0 (live_back w.known moved.world.known m.epoch g counts)), λ counts. made.sealed.undamaged (x.1 (counts_back w.known moved.world.known m.epoch g counts)));
      }

  taken : IsHere bytes born w h p → (from : NodeId) (stamp : Stamp) (number : ℕ) (req : ReqId) (op : Op) (carried : Option (List ℕ)) (found : List ℕ) (l : Live) → p.slot.live ≡ Some l → is_same stamp p.slot.promise ≡ true
      → TellsServer c w h.me (chunks.Forward stamp number req op carried) → ((b : List ℕ) → h.pushed ≡ Some b → b ≡ bytes req) → ((xs : List Edit) → (w.members h.me).live ≡ Some xs → IsToldIn h.block h.chunk p.slot xs)
      → bytes_of op carried h.pushed ≡ Some found → (s : Slot) → apply stamp number req (in_replica op) found p.slot ≡ Ok s
      → FollowsPart bytes born w h p (record { slot = SlotBecomes s; lease = LeaseStays; kept = None; used = has_bytes op; sent = about h from (chunks.Ack stamp number) ∷ []; said = None })
  taken here from stamp number req op carried found l is same tells right told there s applied =
      let m : Member = w.members h.me in
      let t : ℕ = tells.0 in
      let place : ℕ = tells.1 in
      let e : Edit = tells.2 in
      let t_stamp : stamp ≡ stamp_at t = tells.3 in
      let numbered : number ≡ place + 1 = tells.4 in
      let says : Says c req op e = tells.5 in
      let carries : CarriesBytes carried e = tells.6 in
      let heard : WasTold w h.me (Forward t place e) = tells.7 in
      let x = lives c p.slot m.live here.shows.live (ap is_some is) in
      let xs : List Edit = x.0 in
      let t_is : t ≡ m.promise = stamp_number t m.promise (sym t_stamp ∙ same_stamp stamp p.slot.promise same ∙ here.shows.promise) in
      let next : number ≡ l.replica.held.count + 1 = next_of stamp number req (in_replica op) found p.slot l is s applied in
      let count : l.replica.held.count ≡ length xs = (let n = count_stands h.block h.chunk p.slot.live xs x.2 in let k = ap count_of is in (cc)) in
      let place_is : place ≡ length xs = omega arith in
      let found_is : found ≡ e.bytes = forwarded_is c req op carried h.pushed found e says carries right there in
      let e_is : record { req = req; op = in_replica op; bytes = found } ≡ e = (let a = says.req in let b = says.op in λ i. record { req = sym a i; op = sym b i; bytes = found_is i }) in
      let made = subst (λ y. IsEdited h.block h.chunk p.slot m xs y s) e_is (edited h.block h.chunk p.slot m xs stamp number req (in_replica op) found s x.2 (told xs x.1) applied) in
      let n : Member = record m { live = Some (xs ++ e ∷ []) } in
      let first = moves_so w (Applies h.me xs e) h.me n [] (x.1, subst (λ k. WasTold w h.me (Forward m.promise k e)) place_is (subst (λ k. WasTold w h.me (Forward k place e)) t_is heard)) refl in
      let second = acknowledges_moves first.moved.world h.me n (xs ++ e ∷ []) first.moved.is refl in
      let so = stays_then w h.me n n [] (one h.me (Ack m.promise (length (xs ++ e ∷ [])))) first second (refl, refl, refl) in
      let moved = so.moved in
      let longer : length (xs ++ e ∷ []) ≡ number = (let k = length-append xs (e ∷ []) in omega arith) in
      let said : WasTold moved.world h.me (Ack m.promise (length (xs ++ e ∷ []))) = said_one w h.me h.me n (Ack m.promise (length (xs ++ e ∷ []))) moved in record {
        member = n;
        sends = one h.me (Ack m.promise (length (xs ++ e ∷ [])));
        moved = moved;
        lists = λ t. inl (so.list t);
        numbers = λ t. (so.list t);
        intact = λ spared whole. whole;
        gains = same_promise (w.members h.me) n refl;
        shows = applied_place here xs e s _ made (is_late bytes born w h p here (ap is_some is)) x.1 moved;
        tells = ((λ _. ((m.promise, same_stamp stamp p.slot.promise same ∙ here.shows.promise, subst (λ k. WasTold moved.world h.me (Ack m.promise k)) longer said), tells_ack c moved.world from stamp number)), tt);
      }
    where
      next_of : (stamp : Stamp) (number : ℕ) (req : ReqId) (op : Applied) (found : List ℕ) (slot : Slot) (l : Live) → slot.live ≡ Some l → (s : Slot) → apply stamp number req op found slot ≡ Ok s → number ≡ l.replica.held.count + 1
      next_of stamp number req op found slot l is s applied =
          of_ok (λ x. number ≡ l.replica.held.count + 1) (apply_to stamp number req op found slot (Some l)) s (subst (λ o. apply_to stamp number req op found slot o ≡ Ok s) is applied)
          (of_live (λ x. number ≡ l.replica.held.count + 1) slot l.bad (replicas.apply stamp number req op found l.replica) (λ r e. (applied_judged stamp number req op found l.replica r e).next))

  there_is : (o : Option (List ℕ)) → unless_there o ≡ None → o ≡ Some (bytes_or_none o)
  there_is None none = absurd (cc)
  there_is (Some b) none = refl

  pub forward_outcome : IsHere bytes born w h p → ((xs : List Edit) → (w.members h.me).live ≡ Some xs → IsToldIn h.block h.chunk p.slot xs) → (from : NodeId) (stamp : Stamp) (number : ℕ) (req : ReqId) (op : Op) (carried : Option (List ℕ)) → ((b : List ℕ) → h.pushed ≡ Some b → b ≡ bytes req)
      → TellsServer c w h.me (chunks.Forward stamp number req op carried) → FollowsPart bytes born w h p (forward h p from stamp number req op carried)
  forward_outcome here told from stamp number req op carried right tells =
      or_outcome bytes born w h p (first_of (unless_live p.slot.live ∷ unless_promised stamp p.slot ∷ [])) (declines h p from stamp) (takes h p from stamp number req op (bytes_of op carried h.pushed) p.slot.live) (declines_outcome here from stamp)
      (λ none. by_live p.slot.live refl (met_not (is_same stamp p.slot.promise) (refusals.Stamp p.slot.promise) (head_none (unless_promised stamp p.slot) [] (tail_none (unless_live p.slot.live) (unless_promised stamp p.slot ∷ []) none))))
    where
      by_apply : (found : Option (List ℕ)) → bytes_of op carried h.pushed ≡ found → unless_there found ≡ None → (l : Live) → p.slot.live ≡ Some l → is_same stamp p.slot.promise ≡ true → (m : Result Slot Refusal) → apply stamp number req (in_replica op) (bytes_or_none found) p.slot ≡ m
          → FollowsPart bytes born w h p (takes_if h p from stamp number op m)
      by_apply found are there l is same (Err e) applied = declines_outcome here from stamp e
      by_apply found are there l is same (Ok s) applied = taken here from stamp number req op carried (bytes_or_none found) l is same tells right told (are ∙ there_is found there) s applied

      by_live : (o : Option Live) → p.slot.live ≡ o → is_same stamp p.slot.promise ≡ true → FollowsPart bytes born w h p (takes h p from stamp number req op (bytes_of op carried h.pushed) o)
      by_live None is same = declines_outcome here from stamp refusals.NoReplica
      by_live (Some l) is same =
          let found : Option (List ℕ) = bytes_of op carried h.pushed in
          let count : ℕ = l.replica.held.count in
          either_outcome bytes born w h p (nat_le number count) (acknowledges h from stamp count) (takes_next h p from stamp number req op found count) (λ known. acknowledges_outcome here from stamp l is same)
          (λ new. or_outcome bytes born w h p (unless_next count number found) (declines h p from stamp) (takes_if h p from stamp number op (apply stamp number req (in_replica op) (bytes_or_none found) p.slot)) (declines_outcome here from stamp)
          (λ none. by_apply found refl (head_none (unless_there found) [] (tail_none (when (nat_lt (count + 1) number) (refusals.Gap count)) (unless_there found ∷ []) none)) l is same (apply stamp number req (in_replica op) (bytes_or_none found) p.slot) refl))
