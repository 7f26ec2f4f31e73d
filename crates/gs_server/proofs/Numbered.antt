-- A new edit, and what a primary makes of it.
use Rattle.std.proofs.Common.{◌≡◌, ℕ, ◌++◌, List, [], Option, Some, None, sym, ap, subst, ◌∙◌, inl, inr}
use Rattle.std.specs.Prelude.{Result, Ok, Err}
use Rattle.std.specs.FinMap as fin
use Rattle.gs_base.specs.declared.refusal.Refusal.{Refusal}
use Rattle.gs_base.specs.declared.refusal.Refusal.TheVariants as refusals
use Rattle.gs_base.specs.Calls.{Follows}
use Rattle.gs_msg.specs.declared.message.Message.{Message}
use Rattle.gs_store.specs.Buffers.{pushed}
use Rattle.gs_store.specs.Serving.{length_in}
use Rattle.gs_store.specs.Stores.{Store, slot_of}
use Rattle.gs_server.specs.declared.applying.Numbered.{Numbered}
use Rattle.gs_server_lease.specs.declared.lease.Open.{Open}
use Rattle.gs_server.specs.declared.turn.Turn.{Turn}
use Rattle.gs_server.specs.Edits.{bytes_of, bytes_or_none}
use Rattle.gs_server_lease.specs.Leases.{PrimaryLease, forwards, done_at_once, opens_edit}
use Rattle.gs_server.specs.Servers.{Server, ServerSteps, store_of, with_store, with_leases}
use Rattle.gs_server.specs.inner.Answering.{kept_by}
use Rattle.gs_server.specs.inner.Applying.{applied_with}
use Rattle.gs_server.specs.inner.Numbering.{opened_at, told_of, opened_by, numbered_with, numbered_by}
use Rattle.gs_server.proofs.Made.{wants_memory, inside}

-- what is told of an edit
pub told_in_turn : (me handle number : ℕ) (edit : Open) (o : Option PrimaryLease) (lease l : PrimaryLease) (none first second : List Message) → none ≡ [] → Some lease ≡ o → o ≡ Some l →
    first ≡ none ++ forwards me handle lease (number, edit) → second ≡ first ++ done_at_once me number edit lease → second ≡ told_of me handle l number edit
told_in_turn me handle number edit o lease l none first second empty found held is then =
    then
    ∙ ap (λ xs. xs ++ done_at_once me number edit lease) (is ∙ ap (λ xs. xs ++ forwards me handle lease (number, edit)) empty)
    ∙ ap (λ x. told_of me handle x number edit) (inside lease l (found ∙ held))

-- an edit is applied and opened
opened_ok : {C : Type 0} (handle : ℕ) (l : PrimaryLease) (number : ℕ) (edit : Open) (m : Result Store Refusal) (b : C) (old : Server) (t : Store) (after : Server) (turn : Turn) →
    Follows {B = C} m (Ok b) (store_of old) t → after ≡ with_leases (fin.insert old.dropped.leases handle (opens_edit old.me number edit l)) (with_store t old) →
    turn.sent.items ≡ told_of old.me handle l number edit → turn.said ≡ None → ServerSteps (opened_by handle l number edit m old) (Ok turn) old after
opened_ok handle l number edit (Err e) b old t after turn follows is sent said = elim follows [ ]
opened_ok handle l number edit (Ok s) b old t after turn follows is sent said = (is ∙ ap (λ n. with_leases (fin.insert old.dropped.leases handle (opens_edit old.me number edit l)) (with_store n old)) follows, sent, said)

with_ok : {C : Type 0} (handle : ℕ) (l : PrimaryLease) (edit : Numbered) (given : List ℕ) (bytes : Option (List ℕ)) (b : C) (old : Server) (t : Store) (after : Server) (turn : Turn) → bytes ≡ Some given →
    Follows {B = C} (applied_with handle edit.stamp edit.number edit.req edit.op (store_of old) bytes) (Ok b) (store_of old) t →
    after ≡ with_leases (fin.insert old.dropped.leases handle (opens_edit old.me edit.number (opened_at edit.req edit.op given (length_in (slot_of handle (store_of old)).live)) l)) (with_store t old) →
    turn.sent.items ≡ told_of old.me handle l edit.number (opened_at edit.req edit.op given (length_in (slot_of handle (store_of old)).live)) → turn.said ≡ None →
    ServerSteps (numbered_with handle l edit bytes old) (Ok turn) old after
with_ok {C} handle l edit given bytes b old t after turn found follows is sent said =
    subst (λ o. ServerSteps (numbered_with handle l edit o old) (Ok turn) old after) (sym found)
    (opened_ok {C = C} handle l edit.number (opened_at edit.req edit.op given (length_in (slot_of handle (store_of old)).live)) (applied_with handle edit.stamp edit.number edit.req edit.op (store_of old) (Some given)) b old t after turn
    (subst (λ o. Follows {B = C} (applied_with handle edit.stamp edit.number edit.req edit.op (store_of old) o) (Ok b) (store_of old) t) found follows) is sent said)

pub numbered_ok : {C : Type 0} (handle : ℕ) (l : PrimaryLease) (edit : Numbered) (given : List ℕ) (b : C) (old : Server) (t : Store) (after : Server) (turn : Turn) → bytes_of edit.op None (pushed edit.req old.dropped.buffer) ≡ Some given →
    Follows {B = C} (applied_with handle edit.stamp edit.number edit.req edit.op (store_of old) (bytes_of edit.op None (pushed edit.req old.dropped.buffer))) (Ok b) (store_of old) t →
    after ≡ with_leases (fin.insert old.dropped.leases handle (opens_edit old.me edit.number (opened_at edit.req edit.op given (length_in (slot_of handle (store_of old)).live)) l)) (with_store t old) →
    turn.sent.items ≡ told_of old.me handle l edit.number (opened_at edit.req edit.op given (length_in (slot_of handle (store_of old)).live)) → turn.said ≡ None →
    ServerSteps (numbered_by handle l edit old) (Ok turn) old after
numbered_ok {C} handle l edit given b old t after turn found follows is sent said = with_ok {C = C} handle l edit given (bytes_of edit.op None (pushed edit.req old.dropped.buffer)) b old t after turn found follows is sent said

-- or the replica refuses it
opened_err : (C : Type 0) (handle : ℕ) (l : PrimaryLease) (number : ℕ) (edit : Open) (m : Result Store Refusal) (f : Refusal) (old : Server) (t : Store) (mid after : Server) (result : Result Turn Refusal) →
    Follows {B = C} m (Err f) (store_of old) t → mid ≡ with_store t old → ServerSteps (kept_by handle edit.req f mid) result mid after → (f ≡ refusals.Memory → result ≡ Err refusals.Memory) → (f ≡ refusals.Memory → after ≡ mid) →
    ServerSteps (opened_by handle l number edit m old) result old after
opened_err C handle l number edit (Ok s) f old t mid after result follows is steps lacks stays =
    wants_memory _ result old after (lacks follows.0) (stays follows.0 ∙ is ∙ ap (λ n. with_store n old) follows.1)
opened_err C handle l number edit (Err g) f old t mid after result follows is steps lacks stays =
    elim follows.0 [
      | inl same ↦ subst (λ r. ServerSteps (kept_by handle edit.req r old) result old after) same (subst (λ s. ServerSteps (kept_by handle edit.req f s) result s after) (is ∙ ap (λ n. with_store n old) follows.1) steps)
      | inr memory ↦ wants_memory _ result old after (lacks memory) (stays memory ∙ is ∙ ap (λ n. with_store n old) follows.1)
    ]

pub numbered_err : (C : Type 0) (handle : ℕ) (l : PrimaryLease) (edit : Numbered) (f : Refusal) (old : Server) (t : Store) (mid after : Server) (result : Result Turn Refusal) →
    Follows {B = C} (applied_with handle edit.stamp edit.number edit.req edit.op (store_of old) (bytes_of edit.op None (pushed edit.req old.dropped.buffer))) (Err f) (store_of old) t → mid ≡ with_store t old →
    ServerSteps (kept_by handle edit.req f mid) result mid after → (f ≡ refusals.Memory → result ≡ Err refusals.Memory) → (f ≡ refusals.Memory → after ≡ mid) →
    ServerSteps (numbered_by handle l edit old) result old after
numbered_err C handle l edit f old t mid after result follows is steps lacks stays =
    let bytes : Option (List ℕ) = bytes_of edit.op None (pushed edit.req old.dropped.buffer) in
    opened_err C handle l edit.number (opened_at edit.req edit.op (bytes_or_none bytes) (length_in (slot_of handle (store_of old)).live)) (applied_with handle edit.stamp edit.number edit.req edit.op (store_of old) bytes) f old t mid after result follows is steps lacks stays
