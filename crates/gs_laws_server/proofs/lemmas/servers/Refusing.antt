-- What a refused message leaves of a server.
use Rattle.std.proofs.Common.{◌≡◌, ℕ, ◌+◌, Bool, true, false, Option, Some, None, refl, ap, subst, ◌∙◌}
use Rattle.std.specs.Prelude.{◌==◌}
use Rattle.std.specs.FinMap as fin
use Rattle.gs_base.specs.declared.numbers.Moment.{Moment}
use Rattle.gs_base.specs.declared.numbers.Stamp.{Stamp}
use Rattle.gs_base.specs.declared.numbers.ReqId.{ReqId}
use Rattle.gs_base.specs.declared.epoch.EpochEnd.{EpochEnd}
use Rattle.gs_base.specs.declared.refusal.Refusal.{Refusal}
use Rattle.gs_msg.specs.declared.node.NodeId.{NodeId}
use Rattle.gs_msg.specs.declared.body.Body.{Body}
use Rattle.gs_msg.specs.declared.body.Body.TheVariants as bodies
use Rattle.gs_msg.specs.declared.chunk.Chunk.{Chunk}
use Rattle.gs_msg.specs.declared.chunk.Chunk.TheVariants as chunks
use Rattle.gs_store.specs.Stores.{Store}
use Rattle.gs_server.specs.declared.turn.KeptRefusal.{KeptRefusal}
use Rattle.gs_server.specs.Places.{Place, Here, Part, LeaseChange, LeaseStays, SlotChange}
use Rattle.gs_server.specs.Promises as promises
use Rattle.gs_server.specs.Promises.{Copying}
use Rattle.gs_server.specs.Laws.{LeavesIfRefused, LeavesIfNotCopied, LeavesWhere, LeavesCopied, KeepsReply, edit_in}
use Rattle.gs_server.specs.Servers.{Server, client_cmp, place_of, here_of, store_of, with_store, with_leases, with_refused, change_slot, change_lease, change_buffer, keep_refusal, changed_by, copies, request_in, about_chunk, handle_body}
use Rattle.gs_server.proofs.Happening.{step_if}
use Rattle.gs_laws_server.specs.servers.Refusing.{IsLeft, LeavesBut}

-- an edit's request alone keeps a refusal
kept_same : (chunk : Chunk) (kept : Option KeptRefusal) (said : Option Refusal) (refused : fin.FinMap client_cmp KeptRefusal) → KeepsReply kept (edit_in chunk) said → keep_refusal (request_in chunk) kept refused ≡ keep_refusal (edit_in chunk) kept refused
kept_same (chunks.Forward stamp number req op bytes) None said refused keeps = refl
kept_same (chunks.Forward stamp number req op bytes) (Some k) said refused keeps = elim keeps [ ]
kept_same chunk kept said refused keeps = refl

unused : (req : Option ReqId) (t : Store) → change_buffer req false t ≡ t
unused None t = refl
unused (Some req) t = refl

left_is : (handle : ℕ) (req edited : Option ReqId) (part : Part) (s : Server) → part.lease ≡ LeaseStays → part.used ≡ false → keep_refusal req part.kept s.kept.refused ≡ keep_refusal edited part.kept s.kept.refused
    → changed_by handle req part s ≡ with_refused (keep_refusal edited part.kept s.kept.refused) (with_store (change_slot handle part.slot (store_of s)) s)
left_is handle req edited part s lease used kept =
    let t : Store = change_slot handle part.slot (store_of s) in
    ap (λ (c : LeaseChange). with_store (change_buffer req part.used t) (with_leases (change_lease handle c s.dropped.leases) (with_refused (keep_refusal req part.kept s.kept.refused) s))) lease
    ∙ ap (λ (b : Bool). with_store (change_buffer req b t) (with_refused (keep_refusal req part.kept s.kept.refused) s)) used
    ∙ ap (λ (u : Store). with_store u (with_refused (keep_refusal req part.kept s.kept.refused) s)) (unused req t)
    ∙ ap (λ (m : fin.FinMap client_cmp KeptRefusal). with_store t (with_refused m s)) kept

chunk_left : (handle : ℕ) (chunk : Chunk) (part : Part) (s : Server) (refusal : Refusal) → part.said ≡ Some refusal → LeavesIfRefused (edit_in chunk) part → IsLeft handle (edit_in chunk) refusal s (changed_by handle (request_in chunk) part s)
chunk_left handle chunk part s refusal said leaves =
    let left : LeavesWhere (Some refusal) part = subst (λ (o : Option Refusal). LeavesWhere o part) said leaves.0 in
    record {
      change = part.slot;
      kept = part.kept;
      marks = left.0;
      keeps = subst (λ (o : Option Refusal). KeepsReply part.kept (edit_in chunk) o) said leaves.1;
      is = left_is handle (request_in chunk) (edit_in chunk) part s left.1 left.2 (kept_same chunk part.kept part.said s.kept.refused leaves.1);
    }

copy_left : (handle new_handle : ℕ) (copying : Copying) (s : Server) (refusal : Refusal) → copying.target.said ≡ Some refusal → LeavesIfNotCopied copying → IsLeft handle None refusal s (copies handle new_handle copying s).after
copy_left handle new_handle copying s refusal said leaves =
    let left : LeavesCopied (Some refusal) copying = subst (λ (o : Option Refusal). LeavesCopied o copying) said leaves in
    let marked : Server = with_store (change_slot handle copying.source (store_of s)) s in
    record {
      change = copying.source;
      kept = None;
      marks = left.0;
      keeps = tt;
      is =
          ap (λ (c : SlotChange). with_store (change_slot new_handle c (store_of marked)) (with_leases (change_lease new_handle copying.target.lease s.dropped.leases) marked)) left.1
          ∙ ap (λ (c : LeaseChange). with_leases (change_lease new_handle c s.dropped.leases) marked) left.2;
    }

learn_left : (epoch : ℕ) (end : EpochEnd) (s : Server) (here next : Bool) (refusal : Refusal) → (step_if epoch end s here next).said ≡ Some refusal → (step_if epoch end s here next).after ≡ s
learn_left epoch end s true next refusal said = refl
learn_left epoch end s false true refusal said = absurd (cc)
learn_left epoch end s false false refusal said = refl

-- whatever is said of a chunk's message, and of a copy's
module _ (leaves : (h : Here) (p : Place) (from : NodeId) (chunk : Chunk) → LeavesIfRefused (edit_in chunk) (about_chunk h p from chunk))
    (leave : (h : Here) (source : Place) (at : Stamp) (new : Here) (target : Place) (stamp : Stamp) → LeavesIfNotCopied (promises.make_copy h source at new target stamp)) where
  pub body_left : (s : Server) (from : NodeId) (body : Body) (moment : Moment) (refusal : Refusal) → (handle_body s from body moment).said ≡ Some refusal → LeavesBut body refusal s (handle_body s from body moment).after
  body_left s from (bodies.About handle chunk) moment refusal said =
      let h : Here = here_of s moment handle (request_in chunk) in
      chunk_left handle chunk (about_chunk h (place_of handle s) from chunk) s refusal said (leaves h (place_of handle s) from chunk)
  body_left s from (bodies.Push req bytes) moment refusal said = absurd (cc)
  body_left s from (bodies.MakeCopy handle at new_handle stamp) moment refusal said =
      let h : Here = here_of s moment handle None in
      let new : Here = here_of s moment new_handle None in
      copy_left handle new_handle (promises.make_copy h (place_of handle s) at new (place_of new_handle s) stamp) s refusal said (leave h (place_of handle s) at new (place_of new_handle s) stamp)
  body_left s from (bodies.Epoch epoch end) moment refusal said = learn_left epoch end s (epoch == s.kept.epoch) (epoch == s.kept.epoch + 1) refusal said
  body_left s from (bodies.Call req call) moment refusal said = refl
  body_left s from (bodies.Reply req result) moment refusal said = refl
  body_left s from (bodies.Done req result) moment refusal said = refl
  body_left s from (bodies.Bytes req result) moment refusal said = refl
  body_left s from (bodies.Report epoch replicas) moment refusal said = refl
  body_left s from (bodies.Learned epoch handles) moment refusal said = refl
  body_left s from (bodies.Behind epoch) moment refusal said = refl
