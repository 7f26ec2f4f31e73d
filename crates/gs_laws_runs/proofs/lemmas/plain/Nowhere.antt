-- A server that keeps nothing of a chunk keeps nothing of it, and sends no copy of it, as long as nothing brings it there: no message by which it is made, or comes as a copy.
use Rattle.std.proofs.Common.{◌≡◌, ◌∙◌, arith, ℕ, Bool, true, false, cond, List, [], ◌∷◌, Option, Some, None, refl, sym, subst}
use Rattle.std.specs.Prelude.{◌==◌, Ok, not}
use Rattle.std.specs.List.{AllByRecursion}
use Rattle.std.proofs.lemmas.Bool.Decides.{nat_tests}
use Rattle.gs_base.specs.Stamps.{is_same}
use Rattle.gs_base.specs.declared.numbers.Moment.{Moment}
use Rattle.gs_base.specs.declared.numbers.Stamp.{Stamp}
use Rattle.gs_base.specs.declared.refusal.Refusal.{Refusal}
use Rattle.gs_base.specs.declared.refusal.Refusal.TheVariants as refusals
use Rattle.gs_msg.specs.declared.body.Body.{Body}
use Rattle.gs_msg.specs.declared.body.Body.TheVariants as bodies
use Rattle.gs_msg.specs.declared.chunk.Chunk.{Chunk}
use Rattle.gs_msg.specs.declared.chunk.Chunk.TheVariants as chunks
use Rattle.gs_msg.specs.declared.message.Message.{Message}
use Rattle.gs_msg.specs.declared.node.NodeId.{NodeId}
use Rattle.gs_msg.specs.declared.node.NodeId.TheVariants as nodes
use Rattle.gs_replica.specs.Copies.{and_then, image}
use Rattle.gs_server.proofs.Happening.{own_place}
use Rattle.gs_server.specs.Holding.{from_server}
use Rattle.gs_server.specs.Places.{Here, LeaseStays, Part, Place, about, after, damaged_block, empty_place, marked_by, or_else, other_epoch, refused, tells_bad, unanswered}
use Rattle.gs_server.specs.Promises.{drops, promises, sends_copy, unpromised}
use Rattle.gs_server.specs.Runs as at_server
use Rattle.gs_server.specs.Servers.{Server, about_chunk, handle_body, handle_chunk, here_of, place_of, request_in}
use Rattle.gs_server.specs.Servers as servers
use Rattle.gs_laws_parts.proofs.lemmas.server.Unborn.{beat_unborn, body_unborn, damage_unborn, lose_unborn, restart_unborn, tick_unborn}
use Rattle.gs_laws_parts.specs.server.Unborn as member
use Rattle.gs_laws_parts.specs.server.Unborn.{KeepsNothing, StaysUnborn}
use Rattle.gs_store.specs.Moves.{live_in, sound_image}
use Rattle.gs_store.specs.Slots.{first_of, if_bad, nothing, removed, sealed_of, unless, unless_live, when}
use Rattle.gs_store.specs.Slots as slots
use Rattle.gs_world.specs.Sent.{IsSent, Sent}
use Rattle.gs_laws_lift.proofs.lemmas.stores.Refusing.{asked_unborn, copied_unborn}
use Rattle.gs_laws_lift.specs.stores.Going.{Beats, Damages, Hears, Loses, Restarts, ServerGoes, Ticks}

-- ---- what brings nothing

abbrev pub BringsNoneAbout : Chunk → Type 0
BringsNoneAbout (chunks.Create stamp) = ⊥
BringsNoneAbout (chunks.CopyIn stamp image sealed) = ⊥
BringsNoneAbout said = Unit {0}

abbrev pub BringsNone : ℕ → Body → Type 0
BringsNone chunk (bodies.About handle said) = handle ≡ chunk → BringsNoneAbout said
BringsNone chunk (bodies.MakeCopy old at new stamp) = new ≡ chunk → ⊥
BringsNone chunk body = Unit {0}

abbrev pub BringNone : ℕ → List Message → Type 0
BringNone chunk messages = AllByRecursion (λ (m : Message). BringsNone chunk m.body) messages

-- it keeps nothing behind what happens, and sends nothing that brings it anywhere
pub record StaysNowhere (chunk : ℕ) (after : Server) (sent : List Message) : Type 0 where
  pub keeps : KeepsNothing chunk after
  pub says : BringNone chunk sent

-- what is about other chunks brings it nowhere
others_bring : (chunk : ℕ) (sent : List Message) → AllByRecursion (λ (m : Message). member.SaysNothing chunk m.body) sent → BringNone chunk sent
others_bring chunk [] all = tt
others_bring chunk (m ∷ sent) all = (by_body m.body all.0, others_bring chunk sent all.1)
  where
    by_body : (body : Body) → member.SaysNothing chunk body → BringsNone chunk body
    by_body (bodies.About handle said) says = λ same. absurd (says same)
    by_body (bodies.MakeCopy old at new stamp) says = says.1
    by_body body says = tt

from_unborn : (chunk : ℕ) (after : Server) (sent : List Message) → StaysUnborn chunk after sent → StaysNowhere chunk after sent
from_unborn chunk after sent stays = record { keeps = stays.keeps; says = others_bring chunk sent stays.says }

-- ---- what is said about it is refused

module _ (chunk : ℕ) where
  record IsIdle (part : Part) : Type 0 where
    place : after empty_place part ≡ empty_place
    says : BringNone chunk part.sent

  refused_idle : (h : Here) (answer : Message) (e : Refusal) → BringsNone chunk answer.body → IsIdle (refused h nothing answer e)
  refused_idle h answer e brings = by_block (damaged_block e)
    where
      by_block : (o : Option ℕ) → IsIdle (record { slot = marked_by o; lease = LeaseStays; kept = None; used = false; sent = answer ∷ tells_bad h nothing o; said = Some e })
      by_block None = record { place = refl; says = (brings, tt) }
      by_block (Some block) = record { place = refl; says = (brings, ((λ same. tt), tt)) }

  unpromised_idle : (h : Here) (stamp : Stamp) (e : Refusal) → IsIdle (unpromised h empty_place stamp e)
  unpromised_idle h stamp e = refused_idle h (about h nodes.Master (chunks.Unpromised stamp e)) e (λ same. tt)

  unanswered_idle : (e : Refusal) → IsIdle (unanswered e)
  unanswered_idle e = record { place = refl; says = tt }

  or_idle : (o : Option Refusal) (refuses : Refusal → Part) (part : Part) → ((e : Refusal) → IsIdle (refuses e)) → IsIdle part → IsIdle (or_else o refuses part)
  or_idle None refuses part each idle = idle
  or_idle (Some e) refuses part each idle = each e

  from_idle : (from : NodeId) (part : ℕ → Part) → ((server : ℕ) → IsIdle (part server)) → IsIdle (from_server from part)
  from_idle (nodes.Server server) part each = each server
  from_idle nodes.Master part each = unanswered_idle refusals.Stray
  from_idle (nodes.Client client) part each = unanswered_idle refusals.Stray

  -- nothing is copied of it
  copy_idle : (h : Here) (stamp : Stamp) (target : ℕ) (with_sealed : Bool) → IsIdle (about_chunk h empty_place nodes.Master (chunks.CopyOut stamp target with_sealed))
  copy_idle h stamp target with_sealed =
      or_idle (other_epoch h stamp.epoch) (unpromised h empty_place stamp) _ (unpromised_idle h stamp) (by_promise (not (is_same stamp nothing.promise)))
    where
      by_promise : (b : Bool) → IsIdle (sends_copy h empty_place stamp target
          (and_then (unless (first_of (when b (refusals.Stamp nothing.promise) ∷ unless_live None ∷ if_bad None ∷ [])) (live_in None)) (λ r. and_then (image r) (λ i. Ok (i, cond with_sealed (sound_image (sealed_of nothing)) None)))))
      by_promise true = unpromised_idle h stamp (refusals.Stamp nothing.promise)
      by_promise false = unpromised_idle h stamp refusals.NoReplica

  -- and nothing is dropped
  drop_idle : (h : Here) (epoch : ℕ) (promise : Stamp) → IsIdle (about_chunk h empty_place nodes.Master (chunks.Drop epoch promise))
  drop_idle h epoch promise = or_idle (other_epoch h epoch) unanswered _ unanswered_idle (by_promise (not (is_same promise nothing.promise)))
    where
      by_promise : (b : Bool) → IsIdle (drops (unless (first_of (when b (refusals.Stamp nothing.promise) ∷ unless_live None ∷ [])) (Ok (removed nothing))))
      by_promise true = unanswered_idle (refusals.Stamp nothing.promise)
      by_promise false = unanswered_idle refusals.NoReplica

  -- what clients ask of it apart
  abbrev IsNoClients : Chunk → Type 0
  IsNoClients (chunks.Edit req stamp op) = ⊥
  IsNoClients (chunks.Fetch req stamp epoch asked) = ⊥
  IsNoClients said = Unit {0}

  about_idle : (h : Here) (from : NodeId) (said : Chunk) → BringsNoneAbout said → IsNoClients said → IsIdle (about_chunk h empty_place from said)
  about_idle h from (chunks.Create stamp) brings other = absurd brings
  about_idle h from (chunks.CopyIn stamp image sealed) brings other = absurd brings
  about_idle h from (chunks.Edit req stamp op) brings other = absurd other
  about_idle h from (chunks.Fetch req stamp epoch asked) brings other = absurd other
  about_idle h from (chunks.Advance stamp) brings other =
      or_idle (other_epoch h stamp.epoch) (unpromised h empty_place stamp) (promises h empty_place stamp (slots.advance stamp nothing)) (unpromised_idle h stamp) (unpromised_idle h stamp refusals.NoReplica)
  about_idle h from (chunks.Grant given) brings other = by_epoch (not (given.stamp.epoch == h.epoch))
    where
      by_epoch : (b : Bool) → IsIdle (or_else (first_of (when b (refusals.Epoch h.epoch) ∷ Some refusals.NoReplica ∷ [])) unanswered (unanswered refusals.NoReplica))
      by_epoch true = unanswered_idle (refusals.Epoch h.epoch)
      by_epoch false = unanswered_idle refusals.NoReplica
  about_idle h from (chunks.Renewed stamp end) brings other = unanswered_idle refusals.NotPrimary
  about_idle h from (chunks.Forward stamp number req op carried) brings other = refused_idle h (about h from (chunks.Nack stamp refusals.NoReplica)) refusals.NoReplica (λ same. tt)
  about_idle h from (chunks.Ack stamp count) brings other = from_idle from _ (λ server. unanswered_idle refusals.NotPrimary)
  about_idle h from (chunks.Nack stamp refusal) brings other = from_idle from _ (λ server. unanswered_idle refusals.NotPrimary)
  about_idle h from (chunks.CopyOut stamp target with_sealed) brings other = copy_idle h stamp target with_sealed
  about_idle h from (chunks.Drop epoch promise) brings other = drop_idle h epoch promise
  about_idle h from (chunks.Promised stamp count carried) brings other = unanswered_idle refusals.Stray
  about_idle h from (chunks.Unpromised stamp refusal) brings other = unanswered_idle refusals.Stray
  about_idle h from (chunks.Renew stamp) brings other = unanswered_idle refusals.Stray
  about_idle h from (chunks.Bad stamp) brings other = unanswered_idle refusals.Stray

  idle_at : (h : Here) (from : NodeId) (said : Chunk) → BringsNoneAbout said → IsNoClients said → (p : Place) → p ≡ empty_place → (after p (about_chunk h p from said) ≡ empty_place) × BringNone chunk (about_chunk h p from said).sent
  idle_at h from said brings other p none =
      subst (λ q. (after q (about_chunk h q from said) ≡ empty_place) × BringNone chunk (about_chunk h q from said).sent) (sym none) (let i = about_idle h from said brings other in (i.place, i.says))

  -- ---- at a server

  module _ (s : Server) (none : KeepsNothing chunk s) where
    idle_nowhere : (from : NodeId) (said : Chunk) (moment : Moment) → BringsNoneAbout said → IsNoClients said → StaysNowhere chunk (handle_chunk s from chunk said moment).after (handle_chunk s from chunk said moment).sent
    idle_nowhere from said moment brings other =
        let h : Here = here_of s moment chunk (request_in said) in
        let i = idle_at h from said brings other (place_of chunk s) none in
        record { keeps = own_place chunk (request_in said) (about_chunk h (place_of chunk s) from said) s ∙ i.0; says = i.1 }

    about_nowhere : (from : NodeId) (said : Chunk) (moment : Moment) → BringsNoneAbout said → StaysNowhere chunk (handle_chunk s from chunk said moment).after (handle_chunk s from chunk said moment).sent
    about_nowhere from (chunks.Edit req stamp op) moment brings = from_unborn chunk _ _ (asked_unborn chunk s from (chunks.Edit req stamp op) moment none tt)
    about_nowhere from (chunks.Fetch req stamp epoch asked) moment brings = from_unborn chunk _ _ (asked_unborn chunk s from (chunks.Fetch req stamp epoch asked) moment none tt)
    about_nowhere from said moment brings = idle_nowhere from said moment brings tt

    same_number : (m n : ℕ) → (m == n) ≡ true → n ≡ m
    same_number m n h = grind (arith, nat_tests)

    apart_of : (n : ℕ) → (chunk == n) ≡ false → n ≡ chunk → ⊥
    apart_of n h same = by_clash (let h2 : (chunk == chunk) ≡ false = subst (λ k. (chunk == k) ≡ false) same h in h2)
      where
        by_clash : (chunk == chunk) ≡ false → ⊥
        by_clash h = grind (arith, nat_tests)

    pub heard_nowhere : (from : NodeId) (body : Body) (moment : Moment) → BringsNone chunk body → StaysNowhere chunk (handle_body s from body moment).after (handle_body s from body moment).sent
    heard_nowhere from (bodies.About handle said) moment brings = by_case (chunk == handle) refl
      where
        by_case : (b : Bool) → (chunk == handle) ≡ b → StaysNowhere chunk (handle_body s from (bodies.About handle said) moment).after (handle_body s from (bodies.About handle said) moment).sent
        by_case true is =
            let same : handle ≡ chunk = same_number chunk handle is in
            subst (λ k. StaysNowhere chunk (handle_body s from (bodies.About k said) moment).after (handle_body s from (bodies.About k said) moment).sent) (sym same) (about_nowhere from said moment (brings same))
        by_case false is = from_unborn chunk _ _ (body_unborn chunk s none from (bodies.About handle said) moment (apart_of handle is))
    heard_nowhere from (bodies.MakeCopy handle at new stamp) moment brings = by_case (chunk == handle) (chunk == new) refl refl
      where
        by_case : (b t : Bool) → (chunk == handle) ≡ b → (chunk == new) ≡ t → StaysNowhere chunk (handle_body s from (bodies.MakeCopy handle at new stamp) moment).after (handle_body s from (bodies.MakeCopy handle at new stamp) moment).sent
        by_case b true is other = absurd (brings (same_number chunk new other))
        by_case true false is other =
            let same : handle ≡ chunk = same_number chunk handle is in
            subst (λ k. StaysNowhere chunk (handle_body s from (bodies.MakeCopy k at new stamp) moment).after (handle_body s from (bodies.MakeCopy k at new stamp) moment).sent) (sym same) (from_unborn chunk _ _ (copied_unborn chunk s new at stamp moment none brings other))
        by_case false false is other = from_unborn chunk _ _ (body_unborn chunk s none from (bodies.MakeCopy handle at new stamp) moment (apart_of handle is, brings))
    heard_nowhere from (bodies.Push req pushed) moment brings = from_unborn chunk _ _ (body_unborn chunk s none from (bodies.Push req pushed) moment tt)
    heard_nowhere from (bodies.Epoch epoch end) moment brings = from_unborn chunk _ _ (body_unborn chunk s none from (bodies.Epoch epoch end) moment tt)
    heard_nowhere from body moment brings = record { keeps = none; says = tt }

as_nowhere : (chunk : ℕ) (x after : Server) (y messages : List Message) → after ≡ x → messages ≡ y → StaysNowhere chunk x y → StaysNowhere chunk after messages
as_nowhere chunk x after y messages is sends stays = subst (λ t. StaysNowhere chunk t messages) (sym is) (subst (StaysNowhere chunk x) (sym sends) stays)

-- whatever happens at a server
pub goes_nowhere : (chunk id : ℕ) (sent : Sent) (s after : Server) (messages : List Message) → KeepsNothing chunk s → ((message : Message) → IsSent message sent → message.to ≡ nodes.Server id → BringsNone chunk message.body) → ServerGoes sent id s after messages → StaysNowhere chunk after messages
goes_nowhere chunk id sent s after messages none brings (Hears message moment was to is sends) =
    as_nowhere chunk (servers.handle s message moment).after after (servers.handle s message moment).sent messages is sends (heard_nowhere chunk s none message.from message.body moment (brings message was to))
goes_nowhere chunk id sent s after messages none brings (Ticks moment is sends) = as_nowhere chunk (servers.tick s moment).after after (servers.tick s moment).sent messages is sends (from_unborn chunk _ _ (tick_unborn chunk s none moment))
goes_nowhere chunk id sent s after messages none brings (Beats is sends) = as_nowhere chunk s after (servers.beat s ∷ []) messages is sends (from_unborn chunk _ _ (beat_unborn chunk s none))
goes_nowhere chunk id sent s after messages none brings (Restarts is sends) = as_nowhere chunk (servers.restart s) after [] messages is sends (from_unborn chunk _ _ (restart_unborn chunk s none))
goes_nowhere chunk id sent s after messages none brings (Loses handle is sends) = as_nowhere chunk (at_server.behind (at_server.Loses handle) s) after [] messages is sends (from_unborn chunk _ _ (lose_unborn chunk s none handle))
goes_nowhere chunk id sent s after messages none brings (Damages handle block is sends) = as_nowhere chunk (at_server.behind (at_server.Damages handle block) s) after [] messages is sends (from_unborn chunk _ _ (damage_unborn chunk s none handle block))
