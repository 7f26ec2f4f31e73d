-- What a server keeps of all its handles, and the calls that change it.
use Rattle.std.specs.Prelude.{◌≡◌, ℕ, ◌+◌, ◌==◌, cond, List, [], ◌∷◌, map, Option, Some, None, is_some, option_map, Result, Ok, Err, refl}
use Rattle.std.specs.Coded.{Coded, code_by, coded×, coded_ℕ}
use Rattle.std.specs.FinMap as fin
use Rattle.std.specs.Ordering.{nat_cmp}
use Rattle.std.specs.List.{filter}
use Rattle.std.specs.declared.cmp.Ordering.{Ordering}
use Rattle.gs_base.specs.declared.numbers.ReqId.{ReqId}
use Rattle.gs_base.specs.declared.numbers.Stamp.{Stamp}
use Rattle.gs_base.specs.declared.epoch.EpochEnd.{EpochEnd}
use Rattle.gs_base.specs.declared.epoch.EpochEnd.TheVariants.{Prepare, Finalize, Rollback}
use Rattle.gs_base.specs.declared.refusal.Refusal.{Refusal}
use Rattle.gs_base.specs.declared.refusal.Refusal.TheVariants as refusals
use Rattle.gs_replica.specs.declared.op.Op.{Op}
use Rattle.gs_replica.specs.Copies.{Image, SealedImage}
use Rattle.gs_store.specs.declared.report.ReplicaReport.{ReplicaReport}
use Rattle.gs_store.specs.Slots.{Live, Slot, coded_slot, nothing}
use Rattle.gs_store.specs.Slots as slots
use Rattle.gs_store.specs.Serving as serving
use Rattle.gs_store.specs.Moves as moves
use Rattle.gs_store.specs.Learning.{prepared, finalized, rolled_back}
use Rattle.gs_store.specs.Learning as learning
use Rattle.gs_store.specs.Buffers.{Pushes, coded_pushes, pushed, without}
use Rattle.gs_store.specs.Buffers as buffers

-- The sizes of a chunk's blocks and of a chunk; the epoch; a slot for each handle of which something was heard; and the bytes
-- that were pushed and are not used, the newest first. A restart drops those bytes alone.
pub record Store : Type 0 where
  pub block : ℕ
  pub chunk : ℕ
  pub epoch : ℕ
  pub slots : fin.FinMap nat_cmp Slot
  pub buffer : Pushes

abbrev pub coded_store : Coded Store
coded_store =
    code_by (ℕ × (ℕ × (ℕ × (fin.FinMap nat_cmp Slot × Pushes))))
    (coded× coded_ℕ (coded× coded_ℕ (coded× coded_ℕ (coded× (fin.code coded_ℕ coded_slot) coded_pushes))))
    (λ s. (s.block, (s.chunk, (s.epoch, (s.slots, s.buffer))))) (λ p. record { block = p.0; chunk = p.1.0; epoch = p.1.1.0; slots = p.1.1.1.0; buffer = p.1.1.1.1 }) (λ _. refl)

abbrev pub new : ℕ → ℕ → Store
new block chunk = record { block = block; chunk = chunk; epoch = 0; slots = fin.empty; buffer = [] }

-- a call does what the definition says, or what it accepts lacks memory and changes nothing
abbrev pub Performs : {A B : Type 0} → Result A Refusal → Result B Refusal → A → A → Type 0
Performs (Ok a) (Ok b) old new = new ≡ a
Performs (Err e) (Ok b) old new = ⊥
Performs (Ok a) (Err f) old new = (f ≡ refusals.Memory) × (new ≡ old)
Performs (Err e) (Err f) old new = (f ≡ e) × (new ≡ old)

-- ---- one handle

-- a handle without a slot is like one whose slot is empty
abbrev pub or_nothing : Option Slot → Slot
or_nothing None = nothing
or_nothing (Some t) = t

abbrev pub slot_of : ℕ → Store → Slot
slot_of handle s = or_nothing (fin.get s.slots handle)

abbrev pub with_slots : fin.FinMap nat_cmp Slot → Store → Store
with_slots slots s = record { block = s.block; chunk = s.chunk; epoch = s.epoch; slots = slots; buffer = s.buffer }

abbrev pub with_slot : ℕ → Slot → Store → Store
with_slot handle t s = with_slots (fin.insert s.slots handle t) s

abbrev pub put_slot : ℕ → Store → Result Slot Refusal → Result Store Refusal
put_slot handle s (Ok t) = Ok (with_slot handle t s)
put_slot handle s (Err e) = Err e

-- a call of one handle changes its slot, and no other part of the store
abbrev pub at_slot : ℕ → (Slot → Result Slot Refusal) → Store → Result Store Refusal
at_slot handle call s = put_slot handle s (call (slot_of handle s))

abbrev pub create : ℕ → Stamp → Store → Result Store Refusal
create handle stamp s = at_slot handle (slots.create s.block s.chunk stamp) s

abbrev pub advance : ℕ → Stamp → Store → Result Store Refusal
advance handle stamp s = at_slot handle (slots.advance stamp) s

abbrev pub drop_replica : ℕ → Stamp → Store → Result Store Refusal
drop_replica handle promise s = at_slot handle (slots.drop_replica promise) s

abbrev pub take_lease : ℕ → Stamp → Store → Result Store Refusal
take_lease handle stamp s = at_slot handle (slots.take_lease stamp) s

abbrev pub apply : ℕ → Stamp → ℕ → ReqId → Op → List ℕ → Store → Result Store Refusal
apply handle stamp number req op bytes s = at_slot handle (serving.apply stamp number req op bytes) s

abbrev pub lose : ℕ → Store → Result Store Refusal
lose handle s = at_slot handle slots.lose s

abbrev pub damage : ℕ → ℕ → Store → Result Store Refusal
damage handle block s = at_slot handle (slots.damage block) s

abbrev pub copy_in : ℕ → Stamp → Image → Option SealedImage → Store → Result Store Refusal
copy_in handle stamp image sealed s = at_slot handle (moves.copy_in s.block s.chunk stamp image sealed) s

-- A copy is made of another handle's slot, or of the same one's: then its replica is replaced by its copy.
abbrev pub make_copy : ℕ → Stamp → ℕ → Stamp → Store → Result Store Refusal
make_copy handle at new_handle stamp s = at_slot new_handle (moves.make_copy at stamp (slot_of handle s)) s

-- a mark is set where there is something to be marked
abbrev pub set_slot : ℕ → Store → Option Slot → Store
set_slot handle s None = s
set_slot handle s (Some t) = with_slot handle t s

abbrev pub mark_bad : ℕ → ℕ → Store → Store
mark_bad handle block s = set_slot handle s (option_map (slots.mark_bad block) (fin.get s.slots handle))

-- ---- bytes that were pushed

abbrev pub with_buffer : Pushes → Store → Store
with_buffer buffer s = record { block = s.block; chunk = s.chunk; epoch = s.epoch; slots = s.slots; buffer = buffer }

abbrev pub push : ReqId → List ℕ → Store → Store
push req bytes s = with_buffer (buffers.push req bytes s.buffer) s

abbrev pub used : ReqId → Result Store Refusal → Result Store Refusal
used req (Ok s) = Ok (with_buffer (without req s.buffer) s)
used req (Err e) = Err e

-- an edit with the bytes of its request, which leave the buffer where it is applied
abbrev pub apply_with : ℕ → Stamp → ℕ → ReqId → Op → Store → Option (List ℕ) → Result Store Refusal
apply_with handle stamp number req op s None = Err refusals.NoData
apply_with handle stamp number req op s (Some bytes) = used req (apply handle stamp number req op bytes s)

abbrev pub apply_pushed : ℕ → Stamp → ℕ → ReqId → Op → Store → Result Store Refusal
apply_pushed handle stamp number req op s = apply_with handle stamp number req op s (pushed req s.buffer)

-- what of it is refused before any block is verified
abbrev pub foreseen_with : ℕ → Stamp → ℕ → ReqId → Op → Store → Option (List ℕ) → Option Refusal
foreseen_with handle stamp number req op s None = Some refusals.NoData
foreseen_with handle stamp number req op s (Some bytes) = serving.foreseen stamp number req op bytes (slot_of handle s).live

abbrev pub foreseen_pushed : ℕ → Stamp → ℕ → ReqId → Op → Store → Option Refusal
foreseen_pushed handle stamp number req op s = foreseen_with handle stamp number req op s (pushed req s.buffer)

abbrev pub take_pushed : ReqId → Store → Store
take_pushed req s = with_buffer (without req s.buffer) s

abbrev pub restarted : Store → Store
restarted s = with_buffer [] s

-- ---- all handles

-- each value of a map by a function
unfoldable pub each : {K V W : Type 0} {R : K → K → Ordering} → (V → W) → fin.FinMap R V → fin.FinMap R W
each f m = fin.from_sorted (map (λ e. (e.0, f e.1)) (fin.entries m))

-- what a slot becomes where its server goes on to an epoch
abbrev pub gone_on : EpochEnd → ℕ → Slot → Slot
gone_on Prepare epoch t = prepared t
gone_on Finalize epoch t = finalized t
gone_on Rollback epoch t = rolled_back epoch t

abbrev pub learned : ℕ → EpochEnd → Store → Store
learned epoch end s = record { block = s.block; chunk = s.chunk; epoch = epoch; slots = each (gone_on end epoch) s.slots; buffer = s.buffer }

abbrev pub check_epoch : ℕ → Store → Option Refusal
check_epoch epoch s = cond (epoch == s.epoch) None (Some (refusals.Epoch s.epoch))

-- what is told of the epoch that stands changes nothing; of the next one, each slot goes on
abbrev pub learn : ℕ → EpochEnd → Store → Result Store Refusal
learn epoch end s = cond (epoch == s.epoch) (Ok s) (cond (epoch == s.epoch + 1) (Ok (learned epoch end s)) (Err (refusals.Epoch s.epoch)))

-- the handles that are named of a rollback, ascending
abbrev pub named_of : ℕ → List (ℕ × Slot) → List ℕ
named_of epoch entries = map (λ e. e.0) (filter (λ e. learning.is_named epoch e.1) entries)

abbrev pub named : ℕ → Store → List ℕ
named epoch s = named_of epoch (fin.entries s.slots)

-- the live replicas, ascending by handle
abbrev pub report_before : ℕ → Stamp → Option Live → List ReplicaReport → List ReplicaReport
report_before handle promise None rest = rest
report_before handle promise (Some l) rest = record { handle = handle; promise = promise; is_bad = is_some l.bad } ∷ rest

abbrev pub reports_of : List (ℕ × Slot) → List ReplicaReport
reports_of [] = []
reports_of (e ∷ es) = report_before e.0 e.1.promise e.1.live (reports_of es)

abbrev pub report : Store → List ReplicaReport
report s = reports_of (fin.entries s.slots)
