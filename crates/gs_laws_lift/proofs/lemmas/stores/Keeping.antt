-- What stands of a store whatever chunk is looked at goes on: the bytes that were pushed, and the epochs.
use Rattle.std.proofs.Common.{◌≡◌, ◌∙◌, ℕ, zero, suc, ◌+◌, ⊎_elim, Bool, true, false, cond, List, [], ◌∷◌, take, Option, Some, None, Result, Ok, Err, refl, sym, ap, subst, inl, inr, slice_get}
use Rattle.std.specs.Prelude.{◌==◌, Contains, option_map}
use Rattle.std.specs.FinMap as fin
use Rattle.gs_base.specs.declared.config.Config.{Config}
use Rattle.gs_base.specs.declared.epoch.EpochEnd.{EpochEnd}
use Rattle.gs_base.specs.declared.numbers.Moment.{Moment}
use Rattle.gs_base.specs.declared.numbers.ReqId.{ReqId}
use Rattle.gs_base.specs.declared.refusal.Refusal.{Refusal}
use Rattle.gs_base.specs.declared.refusal.Refusal.TheVariants as refusals
use Rattle.gs_msg.specs.declared.body.Body.{Body}
use Rattle.gs_msg.specs.declared.body.Body.TheVariants as bodies
use Rattle.gs_msg.specs.declared.message.Message.{Message}
use Rattle.gs_msg.specs.declared.node.NodeId.{NodeId}
use Rattle.gs_msg.specs.declared.node.NodeId.TheVariants as nodes
use Rattle.gs_server_lease.specs.Leases.{tell}
use Rattle.gs_server.specs.Places.{SlotBecomes, SlotChange, SlotMarked, SlotStays}
use Rattle.gs_server.specs.Promises as promises
use Rattle.gs_server.specs.Promises.{Copying}
use Rattle.gs_server.specs.Servers.{Server, about_chunk, change_slot, copies, handle_body, here_of, learn, learned, leases_after, make_copy, place_of, request_in, store_of, with_leases, with_store}
use Rattle.gs_server.specs.Servers as servers
use Rattle.gs_store.specs.Buffers.{Pushes, same_request, without}
use Rattle.gs_store.specs.Slots.{Slot}
use Rattle.gs_store.specs.Slots as slots
use Rattle.gs_store.specs.Stores.{Store, set_slot}
use Rattle.gs_store.specs.Stores as stores
use Rattle.gs_world.specs.Sent.{Sent}
use Rattle.gs_laws_parts.specs.server.Showing.{Setting, setting_of}
use Rattle.gs_laws_parts.proofs.lemmas.server.Lists.{cons_cases, cons_first, cons_more, nil_contains}
use Rattle.gs_laws_parts.proofs.lemmas.server.Steps.{changed_buffers}
use Rattle.gs_world.specs.Runs.{Step}
use Rattle.gs_laws_lift.specs.stores.Saying.{PushRight}
use Rattle.gs_msg.specs.declared.event.DiskId.{DiskId}
use Rattle.gs_server.specs.Runs.{slot_in, unless_refused}
use Rattle.gs_nodes.specs.declared.place.MasterPlace.{MasterPlace}
use Rattle.gs_world.specs.Histories.{History}
use Rattle.gs_laws_lift.specs.stores.Going.{AllSent, Beats, Damages, Elsewhere, Hears, Kind, Loses, OfMaster, OfServer, Restarts, ServerGoes, Ticks}
use Rattle.gs_laws_lift.specs.stores.Showing.{BufferRight, IsServer, Keeps}
use Rattle.gs_laws_lift.proofs.lemmas.stores.Servers.{goes_server}
use Rattle.gs_laws_lift.proofs.lemmas.stores.Serving.{set_cases}

-- ---- what a change of a slot leaves

set_same : (handle : ℕ) (t : Store) (o : Option Slot) → ((set_slot handle t o).buffer ≡ t.buffer) × ((set_slot handle t o).epoch ≡ t.epoch)
set_same handle t None = (refl, refl)
set_same handle t (Some slot) = (refl, refl)

slot_same : (handle : ℕ) (change : SlotChange) (t : Store) → ((change_slot handle change t).buffer ≡ t.buffer) × ((change_slot handle change t).epoch ≡ t.epoch)
slot_same handle SlotStays t = (refl, refl)
slot_same handle (SlotBecomes slot) t = (refl, refl)
slot_same handle (SlotMarked block) t = set_same handle t (option_map (slots.mark_bad block) (fin.get t.slots handle))

put_slot_same : (handle : ℕ) (s : Server) (m : Result Slot Refusal) → (unless_refused s (servers.in_store s (stores.put_slot handle (store_of s) m))).dropped.buffer ≡ s.dropped.buffer
put_slot_same handle s (Ok slot) = refl
put_slot_same handle s (Err e) = refl

-- ---- bytes that were pushed

in_without : (req : ReqId) (buffer : Pushes) (e : ReqId × List ℕ) → Contains (without req buffer) e → Contains buffer e
in_without req [] e there = there
in_without req (x ∷ buffer) e there = by_case (same_request req x.0) there (in_without req buffer e)
  where
    by_case : (b : Bool) → Contains (cond b buffer (x ∷ without req buffer)) e → (Contains (without req buffer) e → Contains buffer e) → Contains (x ∷ buffer) e
    by_case true there rest = cons_more x buffer e there
    by_case false there rest = ⊎_elim (λ same. cons_first x buffer e same) (λ more. cons_more x buffer e (rest more)) (cons_cases x (without req buffer) e there)

in_take : {X : Type 0} (n : ℕ) (xs : List X) (x : X) → Contains (take n xs) x → Contains xs x
in_take zero xs x there = nil_contains x there
in_take (suc n) [] x there = there
in_take (suc n) (y ∷ xs) x there = ⊎_elim (λ same. cons_first y xs x same) (λ more. cons_more y xs x (in_take n xs x more)) (cons_cases y (take n xs) x there)

module _ (bytes : ReqId → List ℕ) where
  abbrev c : Server → Setting
  c s = setting_of bytes 0 s

  push_right : (s : Server) (req : ReqId) (pushed : List ℕ) → pushed ≡ bytes req → BufferRight bytes s → BufferRight bytes (servers.push s req pushed).after
  push_right s req pushed is right r b there = ⊎_elim
      (λ same. (let e : pushed ≡ b = ap (λ (y : ReqId × List ℕ). y.1) same in let q : req ≡ r = ap (λ (y : ReqId × List ℕ). y.0) same in sym e ∙ is ∙ ap bytes q))
      (λ more. right r b (in_without req s.dropped.buffer (r, b) (in_take 63 (without req s.dropped.buffer) (r, b) more)))
      (cons_cases (pair req pushed) (take 63 (without req s.dropped.buffer)) (r, b) there)
    where
      pair : ReqId → List ℕ → ReqId × List ℕ
      pair r b = (r, b)

  copies_right : (s : Server) (handle new_handle : ℕ) (copying : Copying) → BufferRight bytes s → BufferRight bytes (copies handle new_handle copying s).after
  copies_right s handle new_handle copying right =
      let marked : Server = with_store (change_slot handle copying.source (store_of s)) s in
      changed_buffers (c s) new_handle None copying.target marked (λ r b there. right r b (subst (λ xs. Contains xs (r, b)) (slot_same handle copying.source (store_of s)).0 there))

  learn_right : (s : Server) (epoch : ℕ) (end : EpochEnd) → BufferRight bytes s → BufferRight bytes (learn s epoch end).after
  learn_right s epoch end right = by_case (epoch == s.kept.epoch) (epoch == s.kept.epoch + 1)
    where
      went : Server
      went = with_leases (leases_after end s.dropped.leases) (with_store (stores.learned epoch end (store_of s)) s)

      by_case : (a b : Bool) → BufferRight bytes (cond a (learned s epoch end s) (cond b (learned s epoch end went) (record { after = s; sent = tell s.me nodes.Master (bodies.Behind s.kept.epoch) ∷ []; said = Some (refusals.Epoch s.kept.epoch) }))).after
      by_case true b = right
      by_case false true = right
      by_case false false = right

  body_right : (s : Server) (from : NodeId) (to : NodeId) (body : Body) (moment : Moment) → PushRight bytes (record { from = from; to = to; body = body }) → BufferRight bytes s → BufferRight bytes (handle_body s from body moment).after
  body_right s from to (bodies.About handle said) moment is right = changed_buffers (c s) handle (request_in said) (about_chunk (here_of s moment handle (request_in said)) (place_of handle s) from said) s right
  body_right s from to (bodies.Push req pushed) moment is right = push_right s req pushed is right
  body_right s from to (bodies.MakeCopy handle at new_handle stamp) moment is right =
      copies_right s handle new_handle (promises.make_copy (here_of s moment handle None) (place_of handle s) at (here_of s moment new_handle None) (place_of new_handle s) stamp) right
  body_right s from to (bodies.Epoch epoch end) moment is right = learn_right s epoch end right
  body_right s from to (bodies.Call req call) moment is right = right
  body_right s from to (bodies.Reply req result) moment is right = right
  body_right s from to (bodies.Done req result) moment is right = right
  body_right s from to (bodies.Bytes req result) moment is right = right
  body_right s from to (bodies.Report epoch replicas) moment is right = right
  body_right s from to (bodies.Learned epoch handles) moment is right = right
  body_right s from to (bodies.Behind epoch) moment is right = right

  lost_right : (s : Server) (handle : ℕ) (m : Result Slot Refusal) → BufferRight bytes s → BufferRight bytes (unless_refused s (servers.in_store s (stores.put_slot handle (store_of s) m)))
  lost_right s handle m right r b there = right r b (subst (λ xs. Contains xs (r, b)) (put_slot_same handle s m) there)

  -- whatever happens at a server
  pub goes_right : (id : ℕ) (sent : Sent) (s after : Server) (messages : List Message) → AllSent (PushRight bytes) sent → ServerGoes sent id s after messages → BufferRight bytes s → BufferRight bytes after
  goes_right id sent s after messages pushes (Hears message moment was to is sends) right = subst (BufferRight bytes) (sym is) (body_right s message.from message.to message.body moment (pushes was.0 message was.1) right)
  goes_right id sent s after messages pushes (Ticks moment is sends) right = subst (BufferRight bytes) (sym is) right
  goes_right id sent s after messages pushes (Beats is sends) right = subst (BufferRight bytes) (sym is) right
  goes_right id sent s after messages pushes (Restarts is sends) right = subst (BufferRight bytes) (sym is) (λ r b there. nil_contains (pair r b) there)
    where
      pair : ReqId → List ℕ → ReqId × List ℕ
      pair r b = (r, b)
  goes_right id sent s after messages pushes (Loses handle is sends) right = subst (BufferRight bytes) (sym is) (lost_right s handle (slots.lose (slot_in handle s)) right)
  goes_right id sent s after messages pushes (Damages handle block is sends) right = subst (BufferRight bytes) (sym is) (lost_right s handle (slots.damage block (slot_in handle s)) right)

-- ---- a step

module _ {D : Type 0} (seen : D → List ℕ) (failures : D → ℕ) (armed : DiskId → ℕ → MasterPlace D → MasterPlace D) (config : Config) (bytes : ReqId → List ℕ) where
  as_before : (old new : History D) → new.nodes.servers ≡ old.nodes.servers → Keeps config bytes old → Keeps config bytes new
  as_before old new same k = record {
    servers = λ id s found. k.servers id s (subst (λ xs. slice_get xs id ≡ Some s) same found);
    buffers = λ id s found. k.buffers id s (subst (λ xs. slice_get xs id ≡ Some s) same found);
  }

  pub keeps_then : (step : Step) (old new : History D) → AllSent (PushRight bytes) old.sent → Keeps config bytes old → Kind seen failures armed step old new → Keeps config bytes new
  keeps_then step old new pushes k (OfServer id s after messages moment found goes met servers master posted) = record {
    servers = λ j x at. elim (set_cases old.nodes.servers id j after x (subst (λ xs. slice_get xs j ≡ Some x) servers at)) [
      | inl here ↦ subst (λ n. IsServer config n x) (sym here.0) (subst (IsServer config id) (sym here.1) (goes_server config id old.sent s after messages goes (k.servers id s found)))
      | inr there ↦ k.servers j x there.1
    ];
    buffers = λ j x at. elim (set_cases old.nodes.servers id j after x (subst (λ xs. slice_get xs j ≡ Some x) servers at)) [
      | inl here ↦ subst (BufferRight bytes) (sym here.1) (goes_right bytes id old.sent s after messages pushes goes (k.buffers id s found))
      | inr there ↦ k.buffers j x there.1
    ];
  }
  keeps_then step old new pushes k (OfMaster place messages moment goes servers master posted) = as_before old new servers k
  keeps_then step old new pushes k (Elsewhere by messages moment are servers master posted) = as_before old new servers k
