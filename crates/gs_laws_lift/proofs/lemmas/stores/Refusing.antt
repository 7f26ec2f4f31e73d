-- What is asked of a chunk of which a server keeps nothing is refused, and nothing is kept or said of the chunk.
use Rattle.std.proofs.Common.{◌≡◌, ◌∙◌, ℕ, Bool, true, false, cond, List, [], ◌∷◌, Option, Some, None, refl, sym, ap, subst}
use Rattle.std.specs.Prelude.{◌==◌, nat_lt, not}
use Rattle.std.specs.List.{AllByRecursion}
use Rattle.gs_base.specs.declared.numbers.Moment.{Moment}
use Rattle.gs_base.specs.declared.numbers.ReqId.{ReqId}
use Rattle.gs_base.specs.declared.numbers.Stamp.{Stamp}
use Rattle.gs_base.specs.declared.refusal.Refusal.TheVariants as refusals
use Rattle.gs_msg.specs.declared.chunk.Asked.{Asked}
use Rattle.gs_msg.specs.declared.chunk.Asked.TheVariants as asks
use Rattle.gs_msg.specs.declared.chunk.Chunk.{Chunk}
use Rattle.gs_msg.specs.declared.chunk.Chunk.TheVariants as chunks
use Rattle.gs_msg.specs.declared.message.Message.{Message}
use Rattle.gs_msg.specs.declared.node.NodeId.{NodeId}
use Rattle.gs_msg.specs.declared.op.Op.{Op}
use Rattle.gs_server.specs.declared.turn.KeptRefusal.{KeptRefusal}
use Rattle.gs_server.specs.Edits.{edit, new_edit, refused_once, unless_kept}
use Rattle.gs_server.specs.Fetches.{fetch, given, gives, refuses}
use Rattle.gs_server.specs.Places.{Here, LeaseStays, Part, Place, SlotStays, after, empty_place, lease_after, or_else, slot_after}
use Rattle.gs_server.specs.Promises as promises
use Rattle.gs_server.specs.Servers.{Server, about_chunk, handle_chunk, here_of, make_copy, place_of, request_in, store_of}
use Rattle.gs_server.specs.Servers as servers
use Rattle.gs_server.proofs.Happening.{own_place}
use Rattle.gs_base.specs.Stamps.{is_same}
use Rattle.gs_replica.specs.Copies.{and_then}
use Rattle.gs_replica.specs.Edits.{copied}
use Rattle.gs_store.specs.Slots.{first_of, if_bad, nothing, unless, unless_live, when}
use Rattle.gs_store.specs.Moves as moves
use Rattle.gs_laws_parts.specs.server.Unborn.{KeepsNothing, SaysNothing, StaysUnborn}
use Rattle.gs_laws_parts.proofs.lemmas.server.Steps.{other_place}
use Rattle.gs_laws_lift.specs.stores.Saying.{IsOfClientAbout}

module _ (chunk : ℕ) where
  abbrev AllNothing : List Message → Type 0
  AllNothing messages = AllByRecursion (λ (m : Message). SaysNothing chunk m.body) messages

  record IsRefused (part : Part) : Type 0 where
    slot : part.slot ≡ SlotStays
    lease : part.lease ≡ LeaseStays
    says : AllNothing part.sent

  edit_refused : (h : Here) (req : ReqId) (stamp : Stamp) (op : Op) → IsRefused (edit h empty_place req stamp op)
  edit_refused h req stamp op = by_kept h.refused
    where
      by_tests : (kept : KeptRefusal) (a b : Bool) → IsRefused (cond a (refused_once h req refusals.Old) (cond b (refused_once h req kept.refusal) (new_edit h empty_place req stamp op)))
      by_tests kept true b = record { slot = refl; lease = refl; says = (tt, tt) }
      by_tests kept false true = record { slot = refl; lease = refl; says = (tt, tt) }
      by_tests kept false false = record { slot = refl; lease = refl; says = (tt, tt) }

      by_kept : (o : Option KeptRefusal) → IsRefused (unless_kept h req o (new_edit h empty_place req stamp op))
      by_kept None = record { slot = refl; lease = refl; says = (tt, tt) }
      by_kept (Some kept) = by_tests kept (nat_lt req.number kept.number) (req.number == kept.number)

  fetch_refused : (h : Here) (req : ReqId) (stamp : Stamp) (epoch : ℕ) (asked : Asked) → IsRefused (fetch h empty_place req stamp epoch asked)
  fetch_refused h req stamp epoch asked = by_epoch (not (epoch == h.epoch))
    where
      by_asked : (asked : Asked) → IsRefused (gives h empty_place req (given stamp asked nothing))
      by_asked (asks.Bytes offset many) = record { slot = refl; lease = refl; says = (tt, tt) }
      by_asked asks.Length = record { slot = refl; lease = refl; says = (tt, tt) }
      by_asked (asks.Digest block) = record { slot = refl; lease = refl; says = (tt, tt) }

      by_epoch : (b : Bool) → IsRefused (or_else (when b (refusals.Epoch h.epoch)) (refuses h empty_place req) (gives h empty_place req (given stamp asked nothing)))
      by_epoch true = record { slot = refl; lease = refl; says = (tt, tt) }
      by_epoch false = by_asked asked

  about_refused : (h : Here) (from : NodeId) (said : Chunk) → IsOfClientAbout said → IsRefused (about_chunk h empty_place from said)
  about_refused h from (chunks.Edit req stamp op) is = edit_refused h req stamp op
  about_refused h from (chunks.Fetch req stamp epoch asked) is = fetch_refused h req stamp epoch asked
  about_refused h from said is = absurd is

  refused_at : (h : Here) (from : NodeId) (said : Chunk) → IsOfClientAbout said → (p : Place) → p ≡ empty_place → (after p (about_chunk h p from said) ≡ empty_place) × AllNothing (about_chunk h p from said).sent
  refused_at h from said is p none =
      subst (λ q. (after q (about_chunk h q from said) ≡ empty_place) × AllNothing (about_chunk h q from said).sent) (sym none)
      (let r = about_refused h from said is in ((λ i. record { slot = slot_after nothing (r.slot i); lease = lease_after None (r.lease i) }), r.says))

  -- a client asks for an edit of it, or for bytes
  pub asked_unborn : (s : Server) (from : NodeId) (said : Chunk) (moment : Moment) → KeepsNothing chunk s → IsOfClientAbout said → StaysUnborn chunk (handle_chunk s from chunk said moment).after (handle_chunk s from chunk said moment).sent
  asked_unborn s from said moment none is =
      let h : Here = here_of s moment chunk (request_in said) in
      let r = refused_at h from said is (place_of chunk s) none in
      record { keeps = own_place chunk (request_in said) (about_chunk h (place_of chunk s) from said) s ∙ r.0; says = r.1 }

  -- ---- a copy of it

  record IsUncopied (copying : promises.Copying) : Type 0 where
    source : copying.source ≡ SlotStays
    says : AllNothing copying.target.sent

  uncopied : (h other : Here) (target : Place) (at stamp : Stamp) → (other.handle ≡ chunk → ⊥) → IsUncopied (promises.make_copy h empty_place at other target stamp)
  uncopied h other target at stamp apart = by_epoch (not (stamp.epoch == h.epoch))
    where
      by_promise : (b : Bool) → IsUncopied (promises.copies h empty_place other target stamp
          (and_then (and_then (unless (first_of (when b (refusals.Stamp nothing.promise) ∷ unless_live None ∷ if_bad None ∷ [])) (moves.live_in None)) (λ r. copied stamp r.held)) (λ held. moves.take_copy held target.slot)))
      by_promise true = record { source = refl; says = (apart, tt) }
      by_promise false = record { source = refl; says = (apart, tt) }

      by_epoch : (b : Bool) → IsUncopied (promises.or_copy (when b (refusals.Epoch h.epoch)) (promises.not_copied h empty_place other stamp) (promises.copies h empty_place other target stamp (moves.make_copy at stamp nothing target.slot)))
      by_epoch true = record { source = refl; says = (apart, tt) }
      by_epoch false = by_promise (not (is_same at nothing.promise))

  uncopied_at : (h other : Here) (target p : Place) (at stamp : Stamp) → (other.handle ≡ chunk → ⊥) → p ≡ empty_place → IsUncopied (promises.make_copy h p at other target stamp)
  uncopied_at h other target p at stamp apart none = subst (λ q. IsUncopied (promises.make_copy h q at other target stamp)) (sym none) (uncopied h other target at stamp apart)

  -- it is refused too, under whatever other handle
  pub copied_unborn : (s : Server) (new_handle : ℕ) (at stamp : Stamp) (moment : Moment) → KeepsNothing chunk s → (new_handle ≡ chunk → ⊥) → (chunk == new_handle) ≡ false
      → StaysUnborn chunk (make_copy s chunk at new_handle stamp moment).after (make_copy s chunk at new_handle stamp moment).sent
  copied_unborn s new_handle at stamp moment none apart differs =
      let h : Here = here_of s moment chunk None in
      let other : Here = here_of s moment new_handle None in
      let r = uncopied_at h other (place_of new_handle s) (place_of chunk s) at stamp apart none in
      let copying : promises.Copying = promises.make_copy h (place_of chunk s) at other (place_of new_handle s) stamp in
      record {
        keeps = other_place new_handle chunk None copying.target (servers.with_store (servers.change_slot chunk copying.source (store_of s)) s) differs ∙ ap (λ x. place_of chunk (servers.with_store (servers.change_slot chunk x (store_of s)) s)) r.source ∙ none;
        says = r.says;
      }
