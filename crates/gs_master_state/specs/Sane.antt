-- What is to hold of what is asked for chunks, and of the calls that wait, beside what is durable: so each record of a turn fits.
use Rattle.std.specs.Prelude.{◌≡◌, ◌≤◌, ◌&&◌, ◌==◌, ℕ, Bool, true, false, List, [], ◌∷◌, codes, Option, Some, None, if◌then◌else◌, refl}
use Rattle.std.specs.List.{list_any}
use Rattle.std.specs.FinMap as fin
use Rattle.gs_base.specs.Members.{is_member}
use Rattle.gs_base.specs.declared.numbers.ReqId.{ReqId}
use Rattle.gs_path.specs.Path.{Path}
use Rattle.gs_master_spec.specs.Applied.{follows_view}
use Rattle.gs_master_spec.specs.Chunks.{has_entry}
use Rattle.gs_master_spec.specs.Durable.{is_given, is_listed, is_ordinary, is_rolling}
use Rattle.gs_master_spec.specs.State.{State}
use Rattle.gs_master_spec.specs.Volatile.{is_call, is_pending}
use Rattle.gs_master_spec.specs.declared.asking.Asking.{Asking}
use Rattle.gs_master_spec.specs.declared.pending.Pending.{Pending}
use Rattle.gs_master_spec.specs.declared.pending.Waiting.{Waiting}
use Rattle.gs_master_spec.specs.declared.pending.Waiting.TheVariants as waits

-- a call that waits may do so for this chunk
abbrev pub may_wait_for : ℕ → Waiting → Bool
may_wait_for chunk (waits.Extend path new) = new == chunk
may_wait_for chunk (waits.Lease path index leased) = leased == chunk
may_wait_for chunk (waits.Quiet path index quiet) = quiet == chunk
may_wait_for chunk (waits.Copy path index old new) = new == chunk
may_wait_for chunk (waits.Snapshot from to) = true
may_wait_for chunk (waits.Replicate copied target) = copied == chunk

-- and this is the chunk that it makes
abbrev pub makes : ℕ → Waiting → Bool
makes chunk (waits.Extend path new) = new == chunk
makes chunk (waits.Copy path index old new) = new == chunk
makes chunk waiting = false

abbrev pub is_waited_by : Option ReqId → (Waiting → Bool) → List Pending → Bool
is_waited_by call test pending = list_any (λ (p : Pending). is_call p.req call && test p.waits) pending

-- What is asked for a chunk: the master knows it, its handle and the version were given, in an epoch that there was; a view that
-- was settled is moving, under a smaller stamp. A call for which it moves waits for it, and one without a settled view is made
-- by its call.
pub record IsAsked (s : State) (chunk : ℕ) (asking : Asking) : Type 0 where
  pub known : has_entry s chunk ≡ true
  pub handle : is_given s.durable.next_handle chunk ≡ true
  pub version : is_given s.durable.next_version asking.stamp.version ≡ true
  pub epoch : asking.stamp.epoch ≤ s.durable.epoch
  pub follows : follows_view (fin.get s.durable.chunks chunk) asking.stamp ≡ true
  pub wanted : (req : ReqId) → asking.call ≡ Some req → is_waited_by asking.call (may_wait_for chunk) s.volatile.pending ≡ true
  pub made : fin.get s.durable.chunks chunk ≡ None → is_waited_by asking.call (makes chunk) s.volatile.pending ≡ true

-- each call waits once
abbrev pub are_apart : List Pending → Bool
are_apart [] = true
are_apart (p ∷ pending) = if is_pending pending p.req then false else are_apart pending

-- While an upgrade is prepared or rolled back no call waits. A new chunk was given, and stands in no file.
pub record IsSane (s : State) : Type 0 where
  pub asked : (chunk : ℕ) (asking : Asking) → fin.get s.volatile.moving chunk ≡ Some asking → IsAsked s chunk asking
  pub unplaced : (chunk : ℕ) → is_member s.volatile.unplaced chunk ≡ true → (is_given s.durable.next_handle chunk ≡ true) × (is_listed s.durable chunk ≡ false)
  pub apart : are_apart s.volatile.pending ≡ true
  pub rolling : is_rolling s.durable.phase ≡ true → s.volatile.pending ≡ []
  pub preparing : s.volatile.is_preparing ≡ true → (is_ordinary s.durable.phase ≡ true) × (s.volatile.pending ≡ [])

-- ---- examples

abbrev a_call : ℕ → ReqId
a_call number = record { client = record { 0 = 1 }; number = number }

abbrev f : Path
f = codes "f" ∷ []

abbrev extending : Pending
extending = record { req = a_call 1; waits = waits.Extend f 7 }

made_by_its_call : is_waited_by (Some (a_call 1)) (makes 7) (extending ∷ []) ≡ true
made_by_its_call = refl

not_by_another : is_waited_by (Some (a_call 2)) (makes 7) (extending ∷ []) ≡ false
not_by_another = refl

no_call_without_one : is_waited_by None (makes 7) (extending ∷ []) ≡ false
no_call_without_one = refl

a_lease_makes_no_chunk : makes 7 (waits.Lease f 0 7) ≡ false
a_lease_makes_no_chunk = refl

one_call_twice : are_apart (extending ∷ extending ∷ []) ≡ false
one_call_twice = refl
