-- A new edit under a lease: it gets a number, or none is left.
use Rattle.std.proofs.Common.{◌≡◌, ℕ, Bool, true, false, cond, List, [], length, Option, Some, None, refl, sym, ap, subst, ◌∙◌, arith}
use Rattle.std.proofs.lemmas.Bool.Decides.{nat_tests}
use Rattle.std.specs.Prelude.{Result, Ok, Err, ◌+◌, ◌==◌, ◌&&◌, ◌^◌, ◌<◌}
use Rattle.std.specs.FinMap as fin
use Rattle.gs_base.specs.declared.numbers.Moment.{Moment}
use Rattle.gs_base.specs.declared.numbers.Stamp.{Stamp}
use Rattle.gs_base.specs.declared.numbers.ReqId.{ReqId}
use Rattle.gs_base.specs.Stamps.{is_same}
use Rattle.gs_base.specs.declared.refusal.Refusal.{Refusal}
use Rattle.gs_base.specs.declared.refusal.Refusal.TheVariants as refusals
use Rattle.gs_block.specs.Stored.{Stored}
use Rattle.gs_replica.specs.declared.op.Op.{Op as ReplicaOp}
use Rattle.gs_replica.specs.Held.{Held}
use Rattle.gs_replica.specs.Seals.{Sealed, on_seal, with_seal, touch_seal}
use Rattle.gs_replica.specs.Edits.{outcome_of, is_old, judged, with_edit, unless_refused}
use Rattle.gs_replica.specs.Edits as replica_edits
use Rattle.gs_msg.specs.declared.op.Op.{Op}
use Rattle.gs_msg.specs.declared.op.Op.TheVariants.{Write, Append, Pad}
use Rattle.gs_msg.specs.Ops.{in_replica}
use Rattle.gs_store.specs.Buffers.{pushed}
use Rattle.gs_store.specs.Slots.{Live, Slot, with_live}
use Rattle.gs_store.specs.Serving.{length_in, done_in}
use Rattle.gs_store.specs.Serving as serving
use Rattle.gs_store.specs.Stores.{put_slot}
use Rattle.gs_store.specs.Whole.{LiveUnder}
use Rattle.gs_server_lease.specs.Numbering.{outcome_at}
use Rattle.gs_server.specs.declared.applying.Numbered.{Numbered}
use Rattle.gs_server_lease.specs.declared.lease.Open.{Open}
use Rattle.gs_server.specs.declared.turn.Turn.{Turn}
use Rattle.gs_server_lease.specs.Leases.{PrimaryLease}
use Rattle.gs_server.specs.Places.{Part, Place, Here}
use Rattle.gs_server.specs.Edits.{bytes_of, applied_bytes, has_bytes, opened, last_count, refused_edit, numbers, numbers_if, numbers_as}
use Rattle.gs_server.specs.Servers.{Server, Step, ServerSteps, step_of, here_of, place_of, store_of}
use Rattle.gs_server.specs.inner.Answering.{kept_by}
use Rattle.gs_server.specs.inner.Applying.{leaving}
use Rattle.gs_server.specs.inner.Numbering.{opened_at, opened_by, numbered_with, numbered_by, or_exhausted, refused_at_last}
use Rattle.gs_server.proofs.Made.{inside}

-- as the definition has it, but for the test of the last count
abbrev counted : Here → Place → PrimaryLease → ℕ → Bool → Open → Result Slot Refusal → Part
counted h p l count last edit (Err e) = refused_edit h p edit.req e
counted h p l count last edit (Ok s) = cond last (refused_edit h p edit.req refusals.Exhausted) (numbers h s l (count + 1) edit)

counted_is : (h : Here) (p : Place) (l : PrimaryLease) (count : ℕ) (last : Bool) (edit : Open) (r : Result Slot Refusal) → (count == last_count) ≡ last → counted h p l count last edit r ≡ numbers_if h p l count edit r
counted_is h p l count last edit (Err e) is = refl
counted_is h p l count last edit (Ok s) is = ap (λ b. cond b (refused_edit h p edit.req refusals.Exhausted) (numbers h s l (count + 1) edit)) (sym is)

-- the step of an edit that is numbered, and of one for which no number is left
opening_step : (handle : ℕ) (l : PrimaryLease) (edit : Open) (moment : Moment) (old : Server) (count : ℕ) (r : Result Slot Refusal) →
    opened_by handle l (count + 1) edit (leaving edit.req (has_bytes edit.op) (put_slot handle (store_of old) r)) old ≡ step_of handle (Some edit.req) (counted (here_of old moment handle (Some edit.req)) (place_of handle old) l count false edit r) old
opening_step handle l edit moment old count (Ok s) = refl
opening_step handle l edit moment old count (Err e) = refl

last_step : (handle : ℕ) (l : PrimaryLease) (edit : Open) (moment : Moment) (old : Server) (count : ℕ) (r : Result Slot Refusal) →
    kept_by handle edit.req (or_exhausted r) old ≡ step_of handle (Some edit.req) (counted (here_of old moment handle (Some edit.req)) (place_of handle old) l count true edit r) old
last_step handle l edit moment old count (Ok s) = refl
last_step handle l edit moment old count (Err e) = refl

-- its bytes, and what it answers
pub is_applied : (op : Op) (bytes : List ℕ) (there : Option (List ℕ)) → bytes_of op None there ≡ Some bytes → applied_bytes op bytes ≡ bytes
is_applied (Write offset many) bytes there found = refl
is_applied (Append many) bytes there found = refl
is_applied Pad bytes there found = inside [] bytes found

outcome_is : (op : Op) (chunk : Stored) → outcome_at (length chunk.bytes) op ≡ outcome_of (in_replica op) chunk
outcome_is (Write offset many) chunk = refl
outcome_is (Append many) chunk = refl
outcome_is Pad chunk = refl

opened_is : (req : ReqId) (op : Op) (bytes : List ℕ) (live : Live) → applied_bytes op bytes ≡ bytes → opened_at req op bytes (length live.replica.held.chunk.bytes) ≡ opened req op bytes live
opened_is req op bytes live applied = λ i. record { req = req; op = op; bytes = sym applied i; outcome = outcome_is op live.replica.held.chunk i }

-- an edit with its number
abbrev number_of : Stamp → ℕ → ReqId → Op → Numbered
number_of stamp number req op = record { stamp = stamp; number = number; req = req; op = op }

abbrev applied_as : ℕ → PrimaryLease → Open → Stamp → ℕ → List ℕ → Server → Step
applied_as handle l edit stamp number bytes old =
    opened_by handle l number edit (leaving edit.req (has_bytes edit.op) (put_slot handle (store_of old) (serving.apply stamp number edit.req (in_replica edit.op) bytes (place_of handle old).slot))) old

numbered_step : (handle : ℕ) (l : PrimaryLease) (stamp : Stamp) (number : ℕ) (req : ReqId) (op : Op) (bytes : List ℕ) (live : Live) (moment : Moment) (old : Server) →
    bytes_of op None (pushed req old.dropped.buffer) ≡ Some bytes → (place_of handle old).slot.live ≡ Some live → stamp ≡ l.grant.stamp → number ≡ live.replica.held.count + 1 → (live.replica.held.count == last_count) ≡ false →
    numbered_by handle l (number_of stamp number req op) old ≡ step_of handle (Some req) (numbers_as (here_of old moment handle (Some req)) (place_of handle old) live l (opened req op bytes live)) old
numbered_step handle l stamp number req op bytes live moment old found lives same next not_last =
    let applied : applied_bytes op bytes ≡ bytes = is_applied op bytes (pushed req old.dropped.buffer) found in
    let edit : Open = opened req op bytes live in
    let count : ℕ = live.replica.held.count in
    ap (λ o. numbered_with handle l (number_of stamp number req op) o old) found
    ∙ ap (λ o. applied_as handle l (opened_at req op bytes (length_in o)) stamp number bytes old) lives
    ∙ ap (λ e. opened_by handle l number e (leaving req (has_bytes op) (put_slot handle (store_of old) (serving.apply stamp number req (in_replica op) bytes (place_of handle old).slot))) old) (opened_is req op bytes live applied)
    ∙ ap (λ b. applied_as handle l edit stamp number b old) (sym applied)
    ∙ ap (λ s. applied_as handle l edit s number edit.bytes old) same
    ∙ ap (λ n. applied_as handle l edit l.grant.stamp n edit.bytes old) next
    ∙ opening_step handle l edit moment old count (serving.apply l.grant.stamp (count + 1) req (in_replica op) edit.bytes (place_of handle old).slot)
    ∙ ap (λ part. step_of handle (Some req) part old) (counted_is (here_of old moment handle (Some req)) (place_of handle old) l count false edit (serving.apply l.grant.stamp (count + 1) req (in_replica op) edit.bytes (place_of handle old).slot) not_last)

-- the last number is not given away
not_last : (count number : ℕ) → number ≡ count + 1 → number < 2 ^ 64 → (count == last_count) ≡ false
not_last count number next fits = grind (arith, nat_tests)

pub both_first : (x y : Bool) → (x && y) ≡ true → x ≡ true
both_first true y is = refl
both_first false y is = is

pub both_second : (x y : Bool) → (x && y) ≡ true → y ≡ true
both_second true y is = is
both_second false y is = elim (subst (λ (b : Bool). cond b ⊥ (Unit {0})) is tt) [ ]

same_number : (a b : ℕ) → (a == b) ≡ true → a ≡ b
same_number a b is = grind (arith, nat_tests)

pub same_stamp : (a b : Stamp) → is_same a b ≡ true → a ≡ b
same_stamp a b is =
    let epoch : a.epoch ≡ b.epoch = same_number a.epoch b.epoch (both_first (a.epoch == b.epoch) (a.version == b.version) is) in
    let version : a.version ≡ b.version = same_number a.version b.version (both_second (a.epoch == b.epoch) (a.version == b.version) is) in
    λ i. record { epoch = epoch i; version = version i }

pub numbered_next : (handle : ℕ) (l : PrimaryLease) (stamp : Stamp) (number : ℕ) (req : ReqId) (op : Op) (bytes : List ℕ) (live : Live) (moment : Moment) (old after : Server) (result : Result Turn Refusal) →
    bytes_of op None (pushed req old.dropped.buffer) ≡ Some bytes → (place_of handle old).slot.live ≡ Some live → is_same stamp l.grant.stamp ≡ true → number ≡ live.replica.held.count + 1 → number < 2 ^ 64 →
    ServerSteps (numbered_by handle l (number_of stamp number req op) old) result old after →
    ServerSteps (step_of handle (Some req) (numbers_as (here_of old moment handle (Some req)) (place_of handle old) live l (opened req op bytes live)) old) result old after
numbered_next handle l stamp number req op bytes live moment old after result found lives same next fits steps =
    subst (λ step. ServerSteps step result old after) (numbered_step handle l stamp number req op bytes live moment old found lives (same_stamp stamp l.grant.stamp same) next (not_last live.replica.held.count number next fits)) steps

-- where none is left the chunk alone decides
edited_step : (s : Slot) (bad : Option ℕ) (r : Held) (req : ReqId) (op : ReplicaOp) (seal : Option Sealed) (m : Result Stored Refusal) → or_exhausted (with_live s bad (with_seal seal (with_edit r req op m))) ≡ or_exhausted m
edited_step s bad r req op seal (Ok c) = refl
edited_step s bad r req op seal (Err e) = refl

judged_step : (s : Slot) (bad : Option ℕ) (r : Held) (req : ReqId) (op : ReplicaOp) (seal : Option Sealed) (m : Result Stored Refusal) (o : Option Refusal) → o ≡ None →
    or_exhausted (with_live s bad (with_seal seal (unless_refused o (with_edit r req op m)))) ≡ or_exhausted m
judged_step s bad r req op seal m o none =
    ap (λ x. or_exhausted (with_live s bad (with_seal seal (unless_refused x (with_edit r req op m))))) none ∙ edited_step s bad r req op seal m

alike : (n : ℕ) → (n == n) ≡ true
alike n = grind (arith, nat_tests)

not_judged : (stamp : Stamp) (req : ReqId) (r : Held) → is_same stamp r.promise ≡ true → is_old req.number (fin.get r.done req.client.0) ≡ false → judged stamp (r.count + 1) req r ≡ None
not_judged stamp req r same above =
    ap (λ b. cond b (cond ((r.count + 1) == (r.count + 1)) (cond (is_old req.number (fin.get r.done req.client.0)) (Some refusals.Old) None) (Some (refusals.Gap r.count))) (Some (refusals.Stamp r.promise))) same
    ∙ ap (λ b. cond b (cond (is_old req.number (fin.get r.done req.client.0)) (Some refusals.Old) None) (Some (refusals.Gap r.count))) (alike (r.count + 1))
    ∙ ap (λ b. cond b (Some refusals.Old) None) above

chunk_decides : (stamp : Stamp) (req : ReqId) (op : Op) (bytes : List ℕ) (s : Slot) (live : Live) → is_same stamp live.replica.held.promise ≡ true → is_old req.number (done_in (Some live) req.client.0) ≡ false →
    or_exhausted (serving.apply_to stamp (live.replica.held.count + 1) req (in_replica op) bytes s (Some live)) ≡ refused_at_last op (Some live) (Some bytes)
chunk_decides stamp req op bytes s live same above =
    judged_step s live.bad live.replica.held req (in_replica op) (on_seal (touch_seal req (in_replica op) bytes live.replica.held) live.replica.sealed) (replica_edits.edited (in_replica op) bytes live.replica.held.chunk)
    (judged stamp (live.replica.held.count + 1) req live.replica.held) (not_judged stamp req live.replica.held same above)

promise_is : (promise : Stamp) (o : Option Live) (live : Live) → o ≡ Some live → LiveUnder promise o → live.replica.held.promise ≡ promise
promise_is promise o live is under = subst (LiveUnder promise) is under

exhausted_step : (handle : ℕ) (l : PrimaryLease) (req : ReqId) (op : Op) (bytes : List ℕ) (live : Live) (moment : Moment) (old : Server) →
    bytes_of op None (pushed req old.dropped.buffer) ≡ Some bytes → (place_of handle old).slot.live ≡ Some live → LiveUnder (place_of handle old).slot.promise (place_of handle old).slot.live →
    is_same l.grant.stamp (place_of handle old).slot.promise ≡ true → is_old req.number (done_in (place_of handle old).slot.live req.client.0) ≡ false → (live.replica.held.count == last_count) ≡ true →
    kept_by handle req (refused_at_last op (place_of handle old).slot.live (bytes_of op None (pushed req old.dropped.buffer))) old ≡ step_of handle (Some req) (numbers_as (here_of old moment handle (Some req)) (place_of handle old) live l (opened req op bytes live)) old
exhausted_step handle l req op bytes live moment old found lives under promised above last =
    let applied : applied_bytes op bytes ≡ bytes = is_applied op bytes (pushed req old.dropped.buffer) found in
    let edit : Open = opened req op bytes live in
    let count : ℕ = live.replica.held.count in
    let slot : Slot = (place_of handle old).slot in
    let same : is_same l.grant.stamp live.replica.held.promise ≡ true = ap (is_same l.grant.stamp) (promise_is slot.promise slot.live live lives under) ∙ promised in
    let fresh : is_old req.number (done_in (Some live) req.client.0) ≡ false = ap (λ o. is_old req.number (done_in o req.client.0)) (sym lives) ∙ above in
    ap (λ o. kept_by handle req (refused_at_last op slot.live o) old) found
    ∙ ap (λ o. kept_by handle req (refused_at_last op o (Some bytes)) old) lives
    ∙ ap (λ e. kept_by handle req e old) (sym (chunk_decides l.grant.stamp req op bytes slot live same fresh))
    ∙ ap (λ b. kept_by handle req (or_exhausted (serving.apply_to l.grant.stamp (count + 1) req (in_replica op) b slot (Some live))) old) (sym applied)
    ∙ ap (λ o. kept_by handle req (or_exhausted (serving.apply_to l.grant.stamp (count + 1) req (in_replica op) edit.bytes slot o)) old) (sym lives)
    ∙ last_step handle l edit moment old count (serving.apply l.grant.stamp (count + 1) req (in_replica op) edit.bytes slot)
    ∙ ap (λ part. step_of handle (Some req) part old) (counted_is (here_of old moment handle (Some req)) (place_of handle old) l count true edit (serving.apply l.grant.stamp (count + 1) req (in_replica op) edit.bytes slot) last)

at_last : (count : ℕ) → count < 2 ^ 64 → (count + 1 < 2 ^ 64 → ⊥) → (count == last_count) ≡ true
at_last count fits over = grind (arith, nat_tests)

pub exhausted : (handle : ℕ) (l : PrimaryLease) (req : ReqId) (op : Op) (bytes : List ℕ) (live : Live) (moment : Moment) (old after : Server) (result : Result Turn Refusal) →
    bytes_of op None (pushed req old.dropped.buffer) ≡ Some bytes → (place_of handle old).slot.live ≡ Some live → LiveUnder (place_of handle old).slot.promise (place_of handle old).slot.live →
    is_same l.grant.stamp (place_of handle old).slot.promise ≡ true → is_old req.number (done_in (place_of handle old).slot.live req.client.0) ≡ false → live.replica.held.count < 2 ^ 64 → (live.replica.held.count + 1 < 2 ^ 64 → ⊥) →
    ServerSteps (kept_by handle req (refused_at_last op (place_of handle old).slot.live (bytes_of op None (pushed req old.dropped.buffer))) old) result old after →
    ServerSteps (step_of handle (Some req) (numbers_as (here_of old moment handle (Some req)) (place_of handle old) live l (opened req op bytes live)) old) result old after
exhausted handle l req op bytes live moment old after result found lives under promised above fits over steps =
    subst (λ step. ServerSteps step result old after) (exhausted_step handle l req op bytes live moment old found lives under promised above (at_last live.replica.held.count fits over)) steps
