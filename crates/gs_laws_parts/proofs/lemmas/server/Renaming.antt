-- A copy under a new handle: it raises a promise of the new chunk, or marks a replica of the old one.
use Rattle.std.proofs.Common.{◌≡◌, ℕ, ◌≤◌, inr, Bool, true, false, List, [], ◌∷◌, Option, Some, None, refl, sym, ap, subst}
use Rattle.std.specs.Prelude.{Result, Ok, Err, ◌==◌, is_some}
use Rattle.std.specs.List.{AllByRecursion}
use Rattle.gs_base.specs.declared.numbers.Moment.{Moment}
use Rattle.gs_base.specs.declared.numbers.ReqId.{ReqId}
use Rattle.gs_base.specs.declared.numbers.Stamp.{Stamp}
use Rattle.gs_base.specs.declared.refusal.Refusal.{Refusal}
use Rattle.gs_base.specs.Stamps.{is_before, is_same}
use Rattle.gs_block.specs.Stored.{Stored}
use Rattle.gs_block.specs.Edits as blocks
use Rattle.gs_replica.specs.Edits as edits
use Rattle.gs_replica.specs.Held.{Held}
use Rattle.gs_replica.specs.Seals.{State, lowest_damaged}
use Rattle.gs_replica.specs.Stands.{Edit, StandsFor}
use Rattle.gs_replica.proofs.Own.{own, alike_stands}
use Rattle.gs_replica.proofs.Keeping.{copied_stands}
use Rattle.gs_msg.specs.declared.node.NodeId.TheVariants as nodes
use Rattle.gs_msg.specs.declared.message.Message.{Message}
use Rattle.gs_msg.specs.declared.body.Body.TheVariants as bodies
use Rattle.gs_msg.specs.declared.chunk.Chunk.TheVariants as chunks
use Rattle.gs_store.specs.Slots.{Slot, first_of, unless_live, unless_promised, if_bad, replaced, again}
use Rattle.gs_store.specs.Moves.{source, live_in, copied_from, take_copy}
use Rattle.gs_store.specs.Moves as moves
use Rattle.gs_store.specs.Standing.{StandsIn}
use Rattle.gs_store.proofs.Laws.{of_ok, of_cond, replaced_stays}
use Rattle.gs_store.proofs.Standing.{same_ok, unless_ok}
use Rattle.gs_store.proofs.Copying.{then_ok, live_stands}
use Rattle.gs_server.specs.Places.{Place, Here, Part, LeaseStays, marked_by, damaged_block, tells_bad, after, about, other_epoch, promising}
use Rattle.gs_server.specs.Promises.{promised, not_copied, copies, or_copy}
use Rattle.gs_server.specs.Servers.{Server, place_of, here_of, changed_by, make_copy}
use Rattle.gs_server.specs.Servers as servers
use Rattle.gs_server.specs.Runs.{slot_in}
use Rattle.gs_server.proofs.Happening.{own_place}
use Rattle.gs_server.proofs.Walks.{of_epoch}
use Rattle.gs_laws_chunk.specs.machine.Stamps.{epoch_of, stamp_at}
use Rattle.gs_laws_chunk.specs.machine.Machine.{ChunkWorld, WasTold, CopyIn}
use Rattle.gs_laws_parts.specs.server.Showing.{Setting, setting_of, ShowsPlace}
use Rattle.gs_laws_parts.specs.server.Telling.{ServersTell, TellsBody, BringsCopy}
use Rattle.gs_msg.specs.declared.node.NodeId.{NodeId}
use Rattle.gs_msg.specs.declared.body.Body.{Body}
use Rattle.gs_laws_parts.specs.server.Answering.{handle_in}
use Rattle.gs_laws_parts.specs.server.Moving.{IsShown, IsSteps, FollowsPart}
use Rattle.gs_laws_parts.specs.server.Causes.{Calm, cause_in}
use Rattle.gs_laws_parts.proofs.lemmas.server.Stamps.{same_stamp}
use Rattle.gs_laws_parts.proofs.lemmas.server.Tests.{head_none, tail_none, met_not, live_there, unless_none}
use Rattle.gs_laws_parts.proofs.lemmas.server.Engine.{stays_put}
use Rattle.gs_laws_parts.proofs.lemmas.server.Places.{marked_shows}
use Rattle.gs_laws_parts.proofs.lemmas.server.Promising.{IsRaised, raise_new, again_told, again_holds}
use Rattle.gs_laws_parts.proofs.lemmas.server.Elsewhere.{elsewhere, NoYeses, none_in, ByServer}
use Rattle.gs_laws_parts.proofs.lemmas.server.Steps.{body_steps, from_follows, passes, here, changed_epoch, changed_buffers, other_place, changed_block, changed_size}
use Rattle.gs_laws_parts.proofs.lemmas.server.Ticks.{eq_same, apart_of}

promise_is : (stamp : Stamp) (r h : Held) (m : Result Stored Refusal) → edits.held_of stamp r.count r.done m ≡ Ok h → h.promise ≡ stamp
promise_is stamp r h (Ok c) is = ap (λ (x : Held). x.promise) (same_ok _ h is)
promise_is stamp r h (Err e) is = absurd (cc)

-- what a copy is made of
record IsCopied (block size : ℕ) (at stamp : Stamp) (old : Slot) (held : Held) : Type 0 where
  same : old.promise ≡ at
  live : is_some old.live ≡ true
  promise : held.promise ≡ stamp
  stands : (xs : List Edit) → StandsIn block size old xs → StandsFor block size held xs × (lowest_damaged held.chunk ≡ None)

copied : (block size : ℕ) (at stamp : Stamp) (old : Slot) (held : Held) → copied_from at stamp old ≡ Ok held → IsCopied block size at stamp old held
copied block size at stamp old held is =
    let b = then_ok (source at old) (λ (r : State). edits.copied stamp r.held) held is in
    let r : Held = b.first.held in
    let tests = unless_promised at old ∷ unless_live old.live ∷ if_bad old.live ∷ [] in
    let none = unless_none (first_of tests) (live_in old.live) b.first b.made in
    let live = unless_ok (first_of tests) (live_in old.live) b.first b.made in record {
      same = sym (same_stamp at old.promise (met_not (is_same at old.promise) _ (head_none (unless_promised at old) (unless_live old.live ∷ if_bad old.live ∷ []) none)));
      live = live_there old.live (head_none (unless_live old.live) (if_bad old.live ∷ []) (tail_none (unless_promised at old) (unless_live old.live ∷ if_bad old.live ∷ []) none));
      promise = promise_is stamp r held (blocks.copied r.chunk) b.then;
      stands = λ xs stands.
          let there : StandsFor block size r xs = live_stands block size old.live b.first xs stands live in
          let k = copied_stands stamp r held xs (own block size r xs there) b.then in
          (alike_stands block size r held xs xs there k.0 k.1, k.2);
    }

module _ (bytes : ReqId → List ℕ) (born chunk : ℕ) (w : ChunkWorld) (s : Server) (x : IsShown (setting_of bytes born s) chunk w s) where
  abbrev c : Setting
  c = setting_of bytes born s

  -- what a copy brings to this chunk
  abbrev Brought : ℕ → Stamp → Stamp → Type 0
  Brought handle at stamp = (t : ℕ) × (xs : List Edit) × (stamp ≡ stamp_at t) × (born ≤ epoch_of t) × WasTold w s.me (CopyIn t xs None)
      × ((slot_in handle s).promise ≡ at → is_some (slot_in handle s).live ≡ true → StandsIn s.block s.chunk (slot_in handle s) xs)

  -- it is taken by this chunk
  own_copy : (handle : ℕ) (at stamp : Stamp) (moment : Moment) → Brought handle at stamp → stamp.epoch ≡ s.kept.epoch → (t : Slot) → moves.make_copy at stamp (slot_in handle s) (slot_in chunk s) ≡ Ok t
      → FollowsPart bytes born w (here_of s moment chunk None) (place_of chunk s) (promising t (place_of chunk s) (promised (here_of s moment chunk None) stamp t ∷ []))
  own_copy handle at stamp moment brought epoch t made =
      let h : Here = here_of s moment chunk None in
      let p : Place = place_of chunk s in
      let a = then_ok (copied_from at stamp (slot_in handle s)) (λ k. take_copy k p.slot) t made in
      let held : Held = a.first in
      let k = copied s.block s.chunk at stamp (slot_in handle s) held a.made in
      let xs : List Edit = brought.1 in
      let stands = k.stands xs (brought.5 k.same k.live) in
      let P : Slot → Type 0 = λ y. FollowsPart bytes born w h p (promising y p (promised h stamp y ∷ [])) in
      let raised : IsRaised bytes born w h p stamp xs None (replaced held.promise false (record { held = held; sealed = None }) p.slot) = record {
        promise = k.promise;
        carried = refl;
        stands = stands.0;
        undamaged = λ _ _. stands.1;
        taken = refl;
        sealed = replaced_stays held.promise false (record { held = held; sealed = None }) p.slot refl;
      } in
      of_ok P (take_copy held p.slot) t a.then
      (of_cond P (is_before p.slot.promise held.promise) (Ok (replaced held.promise false (record { held = held; sealed = None }) p.slot)) (again held.promise p.slot)
      (λ above. raise_new bytes born w h p (here bytes born chunk w s x moment None) stamp brought.0 xs None (replaced held.promise false (record { held = held; sealed = None }) p.slot) brought.2 brought.3 epoch (subst (λ q. is_before p.slot.promise q ≡ true) k.promise above) (inr brought.4) raised)
      (λ below. again_holds P held.promise p.slot (λ same live. again_told bytes born w h p (here bytes born chunk w s x moment None) stamp brought.0 brought.2 (subst (λ q. is_same q p.slot.promise ≡ true) k.promise same) live (λ is. inr (xs, None, inr (subst (λ n. WasTold w s.me (CopyIn n xs None)) is brought.4))))))

  made_steps : (handle new_handle : ℕ) (at stamp : Stamp) (moment : Moment) → (new_handle ≡ chunk → Brought handle at stamp) → stamp.epoch ≡ s.kept.epoch → (t : Slot) → moves.make_copy at stamp (slot_in handle s) (slot_in new_handle s) ≡ Ok t
      → IsSteps Calm c chunk w s.me None (changed_by new_handle None (promising t (place_of new_handle s) (promised (here_of s moment new_handle None) stamp t ∷ [])) s) (promised (here_of s moment new_handle None) stamp t ∷ [])
  made_steps handle new_handle at stamp moment brings epoch t made = by_case (chunk == new_handle) refl
    where
      own_steps : moves.make_copy at stamp (slot_in handle s) (slot_in chunk s) ≡ Ok t → Brought handle at stamp → IsSteps Calm c chunk w s.me None (changed_by chunk None (promising t (place_of chunk s) (promised (here_of s moment chunk None) stamp t ∷ [])) s) (promised (here_of s moment chunk None) stamp t ∷ [])
      own_steps made brought =
          let part : Part = promising t (place_of chunk s) (promised (here_of s moment chunk None) stamp t ∷ []) in
          from_follows c chunk w Calm s.me s.kept.epoch (after (place_of chunk s) part) part.sent None (changed_by chunk None part s) (own_copy handle at stamp moment brought epoch t made) refl (changed_block chunk None part s) (changed_size chunk None part s) (changed_epoch chunk None part s) (own_place chunk None part s) (changed_buffers c chunk None part s x.buffers) ((tt, tt), tt)

      by_case : (b : Bool) → (chunk == new_handle) ≡ b → IsSteps Calm c chunk w s.me None (changed_by new_handle None (promising t (place_of new_handle s) (promised (here_of s moment new_handle None) stamp t ∷ [])) s) (promised (here_of s moment new_handle None) stamp t ∷ [])
      by_case true is =
          let same : new_handle ≡ chunk = eq_same chunk new_handle is in
          subst (λ k. IsSteps Calm c chunk w s.me None (changed_by k None (promising t (place_of k s) (promised (here_of s moment k None) stamp t ∷ [])) s) (promised (here_of s moment k None) stamp t ∷ [])) (sym same)
          (own_steps (subst (λ k. moves.make_copy at stamp (slot_in handle s) (slot_in k s) ≡ Ok t) same made) (brings same))
      by_case false is =
          let part : Part = promising t (place_of new_handle s) (promised (here_of s moment new_handle None) stamp t ∷ []) in
          passes c chunk w s (changed_by new_handle None part s) part.sent None x refl (changed_block new_handle None part s) (changed_size new_handle None part s) (changed_epoch new_handle None part s) (other_place new_handle chunk None part s is) (changed_buffers c new_handle None part s x.buffers) (elsewhere c chunk w new_handle false part.sent (apart_of chunk new_handle is) ((refl, tt), tt)) (λ v. ((tt, tt), tt))

  -- it is refused, and may mark a replica
  abbrev marking : Option ℕ → Part
  marking o = record { slot = marked_by o; lease = LeaseStays; kept = None; used = false; sent = []; said = None }

  bad_tells : (h : Here) (slot : Slot) (o : Option ℕ) → AllByRecursion (ServersTell c chunk w) (tells_bad h slot o)
  bad_tells h slot None = tt
  bad_tells h slot (Some block) = ((λ _. (tt, tt)), tt)

  bad_by : (h : Here) (slot : Slot) (o : Option ℕ) → ByServer (tells_bad h slot o)
  bad_by h slot None = tt
  bad_by h slot (Some block) = (tt, tt)

  bad_quiet : (h : Here) (slot : Slot) (o : Option ℕ) → NoYeses (tells_bad h slot o)
  bad_quiet h slot None = tt
  bad_quiet h slot (Some block) = (tt, tt)

  marked_steps : (handle : ℕ) (o : Option ℕ) (sent : List Message) → AllByRecursion (ServersTell c chunk w) sent → ByServer sent → NoYeses sent → IsSteps Calm c chunk w s.me None (changed_by handle None (marking o) s) sent
  marked_steps handle o sent tells by quiet = by_case (chunk == handle) refl
    where
      shown : (o : Option ℕ) → ShowsPlace c w.known s.kept.epoch (after (place_of chunk s) (marking o)) (w.members s.me)
      shown None = x.shows
      shown (Some block) = marked_shows c w.known s.kept.epoch block (place_of chunk s) (w.members s.me) x.shows

      by_case : (b : Bool) → (chunk == handle) ≡ b → IsSteps Calm c chunk w s.me None (changed_by handle None (marking o) s) sent
      by_case true is =
          let f = stays_put c chunk w s.me s.kept.epoch (after (place_of chunk s) (marking o)) sent (shown o) tells in
          subst (λ k. IsSteps Calm c chunk w s.me None (changed_by k None (marking o) s) sent) (sym (eq_same chunk handle is))
          (from_follows c chunk w Calm s.me s.kept.epoch (after (place_of chunk s) (marking o)) sent None (changed_by chunk None (marking o) s) f refl (changed_block chunk None (marking o) s) (changed_size chunk None (marking o) s) (changed_epoch chunk None (marking o) s) (own_place chunk None (marking o) s) (changed_buffers c chunk None (marking o) s x.buffers) (none_in Calm c chunk f.moved.world s.me sent by quiet))
      by_case false is = passes c chunk w s (changed_by handle None (marking o) s) sent None x refl (changed_block handle None (marking o) s) (changed_size handle None (marking o) s) (changed_epoch handle None (marking o) s) (other_place handle chunk None (marking o) s is) (changed_buffers c handle None (marking o) s x.buffers) tells (λ v. none_in Calm c chunk v s.me sent by quiet)

  refused_steps : (handle new_handle : ℕ) (stamp : Stamp) (moment : Moment) (e : Refusal) → IsSteps Calm c chunk w s.me None (servers.copies handle new_handle (not_copied (here_of s moment handle None) (place_of handle s) (here_of s moment new_handle None) stamp e) s).after (servers.copies handle new_handle (not_copied (here_of s moment handle None) (place_of handle s) (here_of s moment new_handle None) stamp e) s).sent
  refused_steps handle new_handle stamp moment e =
      marked_steps handle (damaged_block e) (about (here_of s moment new_handle None) nodes.Master (chunks.Unpromised stamp e) ∷ tells_bad (here_of s moment handle None) (slot_in handle s) (damaged_block e)) ((λ _. (tt, tt)), bad_tells (here_of s moment handle None) (slot_in handle s) (damaged_block e)) (tt, bad_by (here_of s moment handle None) (slot_in handle s) (damaged_block e)) (tt, bad_quiet (here_of s moment handle None) (slot_in handle s) (damaged_block e))

  pub copy_steps : (handle new_handle : ℕ) (at stamp : Stamp) (moment : Moment) → BringsCopy c chunk w s (bodies.MakeCopy handle at new_handle stamp) → IsSteps Calm c chunk w s.me None (make_copy s handle at new_handle stamp moment).after (make_copy s handle at new_handle stamp moment).sent
  copy_steps handle new_handle at stamp moment brings = by_epoch (other_epoch (here_of s moment handle None) stamp.epoch) refl
    where
      by_made : stamp.epoch ≡ s.kept.epoch → (r : Result Slot Refusal) → moves.make_copy at stamp (slot_in handle s) (slot_in new_handle s) ≡ r
          → IsSteps Calm c chunk w s.me None (servers.copies handle new_handle (copies (here_of s moment handle None) (place_of handle s) (here_of s moment new_handle None) (place_of new_handle s) stamp r) s).after (servers.copies handle new_handle (copies (here_of s moment handle None) (place_of handle s) (here_of s moment new_handle None) (place_of new_handle s) stamp r) s).sent
      by_made epoch (Ok t) made = made_steps handle new_handle at stamp moment brings epoch t made
      by_made epoch (Err e) made = refused_steps handle new_handle stamp moment e

      by_epoch : (o : Option Refusal) → other_epoch (here_of s moment handle None) stamp.epoch ≡ o
          → IsSteps Calm c chunk w s.me None (servers.copies handle new_handle (or_copy o (not_copied (here_of s moment handle None) (place_of handle s) (here_of s moment new_handle None) stamp) (copies (here_of s moment handle None) (place_of handle s) (here_of s moment new_handle None) (place_of new_handle s) stamp (moves.make_copy at stamp (slot_in handle s) (slot_in new_handle s)))) s).after
          (servers.copies handle new_handle (or_copy o (not_copied (here_of s moment handle None) (place_of handle s) (here_of s moment new_handle None) stamp) (copies (here_of s moment handle None) (place_of handle s) (here_of s moment new_handle None) (place_of new_handle s) stamp (moves.make_copy at stamp (slot_in handle s) (slot_in new_handle s)))) s).sent
      by_epoch (Some e) is = refused_steps handle new_handle stamp moment e
      by_epoch None is = by_made (of_epoch (here_of s moment handle None) stamp.epoch is) (moves.make_copy at stamp (slot_in handle s) (slot_in new_handle s)) refl

  -- ---- any message

  all_steps : (from : NodeId) (body : Body) (moment : Moment) → TellsBody c chunk w from (nodes.Server s.me) body → BringsCopy c chunk w s body → IsSteps (cause_in chunk body) c chunk w s.me (handle_in body) (servers.handle_body s from body moment).after (servers.handle_body s from body moment).sent
  all_steps from (bodies.MakeCopy handle at new_handle stamp) moment tells brings = copy_steps handle new_handle at stamp moment brings
  all_steps from (bodies.About handle said) moment tells brings = body_steps bytes born chunk w s x from (bodies.About handle said) moment tt tells
  all_steps from (bodies.Push req pushes) moment tells brings = body_steps bytes born chunk w s x from (bodies.Push req pushes) moment tt tells
  all_steps from (bodies.Epoch epoch end) moment tells brings = body_steps bytes born chunk w s x from (bodies.Epoch epoch end) moment tt tells
  all_steps from (bodies.Call req call) moment tells brings = body_steps bytes born chunk w s x from (bodies.Call req call) moment tt tells
  all_steps from (bodies.Reply req result) moment tells brings = body_steps bytes born chunk w s x from (bodies.Reply req result) moment tt tells
  all_steps from (bodies.Done req result) moment tells brings = body_steps bytes born chunk w s x from (bodies.Done req result) moment tt tells
  all_steps from (bodies.Bytes req result) moment tells brings = body_steps bytes born chunk w s x from (bodies.Bytes req result) moment tt tells
  all_steps from (bodies.Report epoch replicas) moment tells brings = body_steps bytes born chunk w s x from (bodies.Report epoch replicas) moment tt tells
  all_steps from (bodies.Learned epoch handles) moment tells brings = body_steps bytes born chunk w s x from (bodies.Learned epoch handles) moment tt tells
  all_steps from (bodies.Behind epoch) moment tells brings = body_steps bytes born chunk w s x from (bodies.Behind epoch) moment tt tells

  pub message_steps : (message : Message) (moment : Moment) → message.to ≡ nodes.Server s.me → ServersTell c chunk w message → BringsCopy c chunk w s message.body → IsSteps (cause_in chunk message.body) c chunk w s.me (handle_in message.body) (servers.handle s message moment).after (servers.handle s message moment).sent
  message_steps message moment to tells brings = all_steps message.from message.body moment (subst (λ n. TellsBody c chunk w message.from n message.body) to tells) brings
