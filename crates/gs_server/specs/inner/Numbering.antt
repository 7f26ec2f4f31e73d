-- An edit is numbered.
use Rattle.std.specs.Prelude.{◌≡◌, ℕ, ◌++◌, true, false, List, Option, Some, None, Result, Ok, Err}
use Rattle.std.specs.FinMap as fin
use Rattle.gs_base.specs.declared.numbers.Moment.{Moment}
use Rattle.gs_base.specs.declared.numbers.ReqId.{ReqId}
use Rattle.gs_base.specs.Stamps.{is_same}
use Rattle.gs_base.specs.declared.refusal.Refusal.{Refusal}
use Rattle.gs_base.specs.declared.refusal.Refusal.TheVariants as refusals
use Rattle.gs_replica.specs.Edits.{is_old}
use Rattle.gs_msg.specs.declared.op.Op.{Op}
use Rattle.gs_msg.specs.declared.message.Message.{Message}
use Rattle.gs_store.specs.Buffers.{pushed}
use Rattle.gs_msg.specs.Ops.{in_replica}
use Rattle.gs_store.specs.Slots.{Live}
use Rattle.gs_store.specs.Serving.{edited_in, done_in, length_in}
use Rattle.gs_store.specs.Stores.{Store, slot_of}
use Rattle.gs_server_lease.specs.declared.lease.Open.{Open}
use Rattle.gs_server.specs.declared.applying.Numbered.{Numbered}
use Rattle.gs_server.specs.declared.numbering.NewEdit.{NewEdit}
use Rattle.gs_server.specs.declared.turn.Turn.{Turn}
use Rattle.gs_server.specs.Edits.{bytes_of, bytes_or_none, new_edit, numbers_as, opened}
use Rattle.gs_server_lease.specs.Leases.{PrimaryLease, forwards, done_at_once, opens_edit}
use Rattle.gs_server_lease.specs.Numbering.{outcome_at}
use Rattle.gs_server.specs.Servers.{Server, ServerSteps, Step, here_of, place_of, step_of, store_of, with_store, with_leases}
use Rattle.gs_server.specs.inner.Answering.{kept_by}
use Rattle.gs_server.specs.inner.Applying.{applied_with}

abbrev pub opened_at : ReqId → Op → List ℕ → ℕ → Open
opened_at req op bytes stored = record { req = req; op = op; bytes = bytes; outcome = outcome_at stored op }

-- what is told of an edit that is numbered
abbrev pub told_of : ℕ → ℕ → PrimaryLease → ℕ → Open → List Message
told_of me handle l number edit = forwards me handle l (number, edit) ++ done_at_once me number edit l

-- it is applied, waits for the members, and is told; or it is refused
abbrev pub opened_by : ℕ → PrimaryLease → ℕ → Open → Result Store Refusal → Server → Step
opened_by handle l number edit (Ok t) s = record {
  after = with_leases (fin.insert s.dropped.leases handle (opens_edit s.me number edit l)) (with_store t s);
  sent = told_of s.me handle l number edit;
  said = None;
}
opened_by handle l number edit (Err e) s = kept_by handle edit.req e s

-- with the bytes that are found for it
abbrev pub numbered_with : ℕ → PrimaryLease → Numbered → Option (List ℕ) → Server → Step
numbered_with handle l edit bytes s =
    opened_by handle l edit.number (opened_at edit.req edit.op (bytes_or_none bytes) (length_in (slot_of handle (store_of s)).live))
    (applied_with handle edit.stamp edit.number edit.req edit.op (store_of s) bytes) s

-- with those that were pushed
abbrev pub numbered_by : ℕ → PrimaryLease → Numbered → Server → Step
numbered_by handle l edit s = numbered_with handle l edit (bytes_of edit.op None (pushed edit.req s.dropped.buffer)) s

-- how an edit is refused that has no number left
abbrev pub or_exhausted : {A : Type 0} → Result A Refusal → Refusal
or_exhausted (Ok s) = refusals.Exhausted
or_exhausted (Err e) = e

abbrev pub refused_at_last : Op → Option Live → Option (List ℕ) → Refusal
refused_at_last op live None = refusals.NoData
refused_at_last op live (Some bytes) = or_exhausted (edited_in (in_replica op) bytes live)

-- an edit that wasn't heard before stands under a lease of the promise, and its bytes are there
pub record IsReady (handle : ℕ) (edit : NewEdit) (bytes : List ℕ) (live : Live) (l : PrimaryLease) (s : Server) : Type 0 where
  pub leased : fin.get s.dropped.leases handle ≡ Some l
  pub lives : (slot_of handle (store_of s)).live ≡ Some live
  pub there : bytes_of edit.op None (pushed edit.req s.dropped.buffer) ≡ Some bytes
  pub asked : is_same edit.stamp l.grant.stamp ≡ true
  pub promised : is_same l.grant.stamp (slot_of handle (store_of s)).promise ≡ true
  pub above : is_old edit.req.number (done_in (slot_of handle (store_of s)).live edit.req.client.0) ≡ false

-- An edit that is ready is numbered as the rules say.
abbrev pub NumbersIfReady : ℕ → NewEdit → Result Turn Refusal → Server → Server → Type 0
NumbersIfReady handle edit result old new = (moment : Moment) (bytes : List ℕ) (live : Live) (l : PrimaryLease) → IsReady handle edit bytes live l old
    → ServerSteps (step_of handle (Some edit.req) (numbers_as (here_of old moment handle (Some edit.req)) (place_of handle old) live l (opened edit.req edit.op bytes live)) old) result old new

-- what comes of an edit that wasn't heard before
abbrev pub new_edit_of : ℕ → NewEdit → Moment → Server → Step
new_edit_of handle edit moment s = step_of handle (Some edit.req) (new_edit (here_of s moment handle (Some edit.req)) (place_of handle s) edit.req edit.stamp edit.op) s
