-- What holds of a chunk's slot over all events of a server.
use Rattle.std.proofs.Common.{◌≡◌, ℕ, ◌+◌, Bool, true, false, List, [], ◌∷◌, ◌++◌, Option, Some, None, refl, sym, ap, subst, ◌∙◌, inl, inr, true≢false, arith}
use Rattle.std.specs.Prelude.{Result, Ok, Err, ◌==◌, is_some, option_map}
use Rattle.std.specs.Result.{result_ok}
use Rattle.std.proofs.lemmas.Bool.Decides.{nat_tests}
use Rattle.std.specs.FinMap as fin
use Rattle.gs_base.specs.declared.numbers.Moment.{Moment}
use Rattle.gs_base.specs.declared.numbers.Stamp.{Stamp}
use Rattle.gs_base.specs.declared.numbers.ReqId.{ReqId}
use Rattle.gs_base.specs.declared.epoch.EpochEnd.{EpochEnd}
use Rattle.gs_base.specs.declared.epoch.EpochEnd.TheVariants.{Prepare, Rollback}
use Rattle.gs_base.specs.declared.refusal.Refusal.{Refusal}
use Rattle.gs_base.specs.Stamps.{is_before, is_same}
use Rattle.gs_replica.specs.Held.{Held}
use Rattle.gs_replica.specs.Stands.{Edit}
use Rattle.gs_msg.specs.declared.node.NodeId.{NodeId}
use Rattle.gs_msg.specs.declared.body.Body.{Body}
use Rattle.gs_msg.specs.declared.body.Body.TheVariants as bodies
use Rattle.gs_store.specs.Slots.{Slot, take_lease, is_taken, taking}
use Rattle.gs_store.specs.Slots as slots
use Rattle.gs_store.specs.Learning as learning
use Rattle.gs_store.specs.Stores.{Store, set_slot, put_slot}
use Rattle.gs_store.specs.Standing.{StandsIn, StoodIn, LiveUndamaged}
use Rattle.gs_store.specs.Calls.{Call, TakesLease, called, LeadsTo, LeadsSparing}
use Rattle.gs_store.specs.Calls as calls
use Rattle.gs_store.proofs.Laws.{of_ok, of_unless}
use Rattle.gs_store.proofs.Running.{keeps, IsSpent, taken_spent, run_spent, spent_refused, run_rises}
use Rattle.gs_store.proofs.Sealing.{run_stood, prepared_stood, back}
use Rattle.gs_store.proofs.Sparing.{spared_back}
use Rattle.gs_server.specs.Places.{Place, Part, SlotChange, SlotStays, SlotBecomes, SlotMarked}
use Rattle.gs_server.specs.Servers.{Server, place_of, store_of, change_slot, change_buffer, changed_by, with_store, in_store, request_in, about_chunk, here_of, copies, handle_body}
use Rattle.gs_server.specs.Promises as messages
use Rattle.gs_server.specs.Promises.{Copying}
use Rattle.gs_server.specs.Runs.{Event, Hears, Ticks, Restarts, Loses, Damages, unless_refused, behind, behind_all, slot_in, BecomesBy, IsByOneCall, IsByCalls, prepared, rolled_back, reseals, KeepSeal, Spares, AllSpare}
use Rattle.gs_server.specs.Runs as runs
use Rattle.gs_server.proofs.Lifts.{next_is}
use Rattle.gs_server.proofs.Walks.{Goes, Suits}
use Rattle.gs_server.proofs.Happening.{goes_at, step_if, IsCopied}

-- ---- the sizes of blocks and chunks stay

pub record SameSizes (t u : Store) : Type 0 where
  pub block : u.block ≡ t.block
  pub chunk : u.chunk ≡ t.chunk

same : (t : Store) → SameSizes t t
same t = record { block = refl; chunk = refl }

set_sizes : (handle : ℕ) (t : Store) (o : Option Slot) → SameSizes t (set_slot handle t o)
set_sizes handle t None = same t
set_sizes handle t (Some slot) = record { block = refl; chunk = refl }

slot_sizes : (handle : ℕ) (change : SlotChange) (t : Store) → SameSizes t (change_slot handle change t)
slot_sizes handle SlotStays t = same t
slot_sizes handle (SlotBecomes slot) t = record { block = refl; chunk = refl }
slot_sizes handle (SlotMarked block) t = set_sizes handle t (option_map (slots.mark_bad block) (fin.get t.slots handle))

used_sizes : (req : Option ReqId) (used : Bool) (t u : Store) → SameSizes t u → SameSizes t (change_buffer req used u)
used_sizes None used t u s = s
used_sizes (Some req) true t u s = record { block = s.block; chunk = s.chunk }
used_sizes (Some req) false t u s = s

put_sizes : (handle : ℕ) (s : Server) (m : Result Slot Refusal) → SameSizes (store_of s) (store_of (unless_refused s (in_store s (put_slot handle (store_of s) m))))
put_sizes handle s (Ok t) = record { block = refl; chunk = refl }
put_sizes handle s (Err e) = same (store_of s)

learn_sizes : (epoch : ℕ) (end : EpochEnd) (s : Server) (here next : Bool)
    → SameSizes (store_of s) (store_of (step_if epoch end s here next).after)
learn_sizes epoch end s true next = same (store_of s)
learn_sizes epoch end s false true = record { block = refl; chunk = refl }
learn_sizes epoch end s false false = same (store_of s)

both : (t u v : Store) → SameSizes t u → SameSizes u v → SameSizes t v
both t u v first second = record { block = second.block ∙ first.block; chunk = second.chunk ∙ first.chunk }

part_sizes : (handle : ℕ) (req : Option ReqId) (part : Part) (s : Server) → SameSizes (store_of s) (store_of (changed_by handle req part s))
part_sizes handle req part s = used_sizes req part.used (store_of s) (change_slot handle part.slot (store_of s)) (slot_sizes handle part.slot (store_of s))

copy_sizes : (handle new_handle : ℕ) (copying : Copying) (s : Server) → SameSizes (store_of s) (store_of (copies handle new_handle copying s).after)
copy_sizes handle new_handle copying s =
    let marked : Server = with_store (change_slot handle copying.source (store_of s)) s in
    both (store_of s) (store_of marked) (store_of (changed_by new_handle None copying.target marked)) (slot_sizes handle copying.source (store_of s)) (part_sizes new_handle None copying.target marked)

body_sizes : (s : Server) (from : NodeId) (body : Body) (moment : Moment) → SameSizes (store_of s) (store_of (handle_body s from body moment).after)
body_sizes s from (bodies.About handle chunk) moment = part_sizes handle (request_in chunk) (about_chunk (here_of s moment handle (request_in chunk)) (place_of handle s) from chunk) s
body_sizes s from (bodies.Push req bytes) moment = record { block = refl; chunk = refl }
body_sizes s from (bodies.MakeCopy handle at new_handle stamp) moment =
    copy_sizes handle new_handle (messages.make_copy (here_of s moment handle None) (place_of handle s) at (here_of s moment new_handle None) (place_of new_handle s) stamp) s
body_sizes s from (bodies.Epoch epoch end) moment = learn_sizes epoch end s (epoch == s.kept.epoch) (epoch == s.kept.epoch + 1)
body_sizes s from (bodies.Call req call) moment = same (store_of s)
body_sizes s from (bodies.Reply req result) moment = same (store_of s)
body_sizes s from (bodies.Done req result) moment = same (store_of s)
body_sizes s from (bodies.Bytes req result) moment = same (store_of s)
body_sizes s from (bodies.Report epoch replicas) moment = same (store_of s)
body_sizes s from (bodies.Learned epoch handles) moment = same (store_of s)
body_sizes s from (bodies.Behind epoch) moment = same (store_of s)

pub event_sizes : (e : Event) (s : Server) → SameSizes (store_of s) (store_of (behind e s))
event_sizes (Hears message moment) s = body_sizes s message.from message.body moment
event_sizes (Ticks moment) s = same (store_of s)
event_sizes Restarts s = record { block = refl; chunk = refl }
event_sizes (Loses handle) s = put_sizes handle s (slots.lose (slot_in handle s))
event_sizes (Damages handle block) s = put_sizes handle s (slots.damage block (slot_in handle s))

-- ---- runs of events are runs of calls

append : (block chunk : ℕ) (s mid end : Slot) (xs ys : List Call) → LeadsTo block chunk s xs mid → LeadsTo block chunk mid ys end → LeadsTo block chunk s (xs ++ ys) end
append block chunk s mid end [] ys first second = subst (λ (x : Slot). LeadsTo block chunk x ys end) first second
append block chunk s mid end (c ∷ xs) ys first second = (first.0, first.1, append block chunk first.0 mid end xs ys first.2 second)

in_sizes : (block chunk b c : ℕ) (s end : Slot) (xs : List Call) → b ≡ block → c ≡ chunk → LeadsTo b c s xs end → LeadsTo block chunk s xs end
in_sizes block chunk b c s end xs same_block same_chunk leads = subst (λ n. LeadsTo n chunk s xs end) same_block (subst (λ n. LeadsTo b n s xs end) same_chunk leads)

by_call : (handle : ℕ) (s after : Server) (P : Call → Type 0) → Goes s.block s.chunk P (place_of handle s) (place_of handle after) → IsByOneCall handle s after
by_call handle s after P (inl still) = record { call = None; is = still.slot }
by_call handle s after P (inr (inl m)) = record { call = Some m.call; is = m.is }
by_call handle s after P (inr (inr t)) = record { call = Some (TakesLease t.given.stamp); is = t.is }

pub event_call : (handle : ℕ) (e : Event) (s : Server) → IsByOneCall handle s (behind e s)
event_call handle e s = by_call handle s (behind e s) _ (goes_at handle e s)

in_a_run : (handle : ℕ) (s after : Server) (o : Option Call) → BecomesBy s.block s.chunk (slot_in handle s) o (slot_in handle after) → IsByCalls handle s after
in_a_run handle s after None is = record { calls = []; leads = is }
in_a_run handle s after (Some c) is = record { calls = c ∷ []; leads = (slot_in handle after, is, refl) }

pub run_calls : (handle : ℕ) (events : List Event) (s : Server) → IsByCalls handle s (behind_all events s)
run_calls handle [] s = record { calls = []; leads = refl }
run_calls handle (e ∷ events) s =
    let one = event_call handle e s in
    let first = in_a_run handle s (behind e s) one.call one.is in
    let rest = run_calls handle events (behind e s) in
    let sizes = event_sizes e s in
    record {
      calls = first.calls ++ rest.calls;
      leads =
          append s.block s.chunk (slot_in handle s) (slot_in handle (behind e s)) (slot_in handle (behind_all events (behind e s))) first.calls rest.calls first.leads
          (in_sizes s.block s.chunk (behind e s).block (behind e s).chunk (slot_in handle (behind e s)) (slot_in handle (behind_all events (behind e s))) rest.calls sizes.block sizes.chunk rest.leads);
    }

pub promises_rise : (handle : ℕ) (events : List Event) (s : Server) → is_before (slot_in handle (behind_all events s)).promise (slot_in handle s).promise ≡ false
promises_rise handle events s =
    let r = run_calls handle events s in
    run_rises s.block s.chunk (slot_in handle s) (slot_in handle (behind_all events s)) r.calls r.leads

-- ---- leases

pub taken_itself : (stamp : Stamp) → is_same stamp stamp ≡ true
taken_itself stamp = grind (arith, nat_tests)

not_kept : (stamp : Stamp) (old new : Option Stamp) → is_taken stamp old ≡ false → new ≡ Some stamp → new ≡ old → ⊥
not_kept stamp old new other taken kept = true≢false (sym (ap (is_taken stamp) (sym kept ∙ taken) ∙ taken_itself stamp) ∙ other)

pub last_taken : (stamp : Stamp) (s t : Slot) → take_lease stamp s ≡ Ok t → t.taken ≡ Some stamp
last_taken stamp s t is = of_ok (λ (x : Slot). x.taken ≡ Some stamp) (take_lease stamp s) t is (of_unless (λ (x : Slot). x.taken ≡ Some stamp) _ (taking stamp s) (λ _. refl))

same_stamp : (a b : Stamp) → Some a ≡ Some b → a ≡ b
same_stamp a b is = ap (stamp_or a) is
  where
    stamp_or : Stamp → Option Stamp → Stamp
    stamp_or other None = other
    stamp_or other (Some x) = x

-- the call that takes it
taking_it : (stamp : Stamp) (block chunk : ℕ) (P : Call → Type 0) (p q : Place) → is_taken stamp p.slot.taken ≡ false → q.slot.taken ≡ Some stamp → Goes block chunk P p q → take_lease stamp p.slot ≡ Ok q.slot
taking_it stamp block chunk P p q other taken (inl still) = absurd (not_kept stamp p.slot.taken q.slot.taken other taken (ap (λ (x : Slot). x.taken) still.slot))
taking_it stamp block chunk P p q other taken (inr (inl m)) =
    absurd (not_kept stamp p.slot.taken q.slot.taken other taken (of_ok (λ (x : Slot). x.taken ≡ p.slot.taken) (called block chunk m.call p.slot) q.slot m.is (keeps block chunk m.call p.slot m.no_lease)))
taking_it stamp block chunk P p q other taken (inr (inr t)) =
    subst (λ (x : Stamp). take_lease x p.slot ≡ Ok q.slot) (same_stamp t.given.stamp stamp (sym (last_taken t.given.stamp p.slot q.slot t.is) ∙ taken)) t.is

taken_at : (handle : ℕ) (stamp : Stamp) (e : Event) (s : Server) → runs.TakesLease handle stamp e s → take_lease stamp (slot_in handle s) ≡ Ok (slot_in handle (behind e s))
taken_at handle stamp e s takes = taking_it stamp s.block s.chunk _ (place_of handle s) (place_of handle (behind e s)) takes.other takes.taken (goes_at handle e s)

pub not_refused : (s t : Slot) (m : Result Slot Refusal) → m ≡ Ok t → result_ok m ≡ None → ⊥
not_refused s t (Ok x) is none = absurd (cc)
not_refused s t (Err e) is none = absurd (cc)

pub taken_once : (handle : ℕ) (stamp : Stamp) (first again : Event) (events : List Event) (s : Server) → runs.TakesLease handle stamp first s → runs.TakesLease handle stamp again (behind_all events (behind first s)) → ⊥
taken_once handle stamp first again events s takes retakes =
    let mid : Server = behind first s in
    let end : Server = behind_all events mid in
    let r = run_calls handle events mid in
    let spent = of_ok (IsSpent stamp) (take_lease stamp (slot_in handle s)) (slot_in handle mid) (taken_at handle stamp first s takes) (taken_spent stamp (slot_in handle s)) in
    not_refused (slot_in handle end) (slot_in handle (behind again end)) (take_lease stamp (slot_in handle end)) (taken_at handle stamp again end retakes)
    (spent_refused stamp (slot_in handle end) (run_spent mid.block mid.chunk stamp (slot_in handle mid) (slot_in handle end) r.calls spent r.leads))

-- ---- what is sealed

-- runs that keep a seal, and those whose damage spares what no edit touched
record KeepingCalls (block chunk : ℕ) (s end : Slot) : Type 0 where
  list : List Call
  keep : calls.KeepSeal list
  leads : LeadsTo block chunk s list end

record SparingCalls (block chunk : ℕ) (s end : Slot) : Type 0 where
  list : List Call
  keep : calls.KeepSeal list
  leads : LeadsSparing block chunk s list end

keep_both : (xs ys : List Call) → calls.KeepSeal xs → calls.KeepSeal ys → calls.KeepSeal (xs ++ ys)
keep_both [] ys first second = second
keep_both (c ∷ xs) ys first second = (first.0, keep_both xs ys first.1 second)

append_sparing : (block chunk : ℕ) (s mid end : Slot) (xs ys : List Call) → LeadsSparing block chunk s xs mid → LeadsSparing block chunk mid ys end → LeadsSparing block chunk s (xs ++ ys) end
append_sparing block chunk s mid end [] ys first second = subst (λ (x : Slot). LeadsSparing block chunk x ys end) first second
append_sparing block chunk s mid end (c ∷ xs) ys first second = (first.0, first.1, first.2, append_sparing block chunk first.0 mid end xs ys first.3 second)

keeps_seal : (block chunk epoch : ℕ) (reseals : Bool) (Comes : Held → Type 0) (Spared : Type 0) (p q : Place) → reseals ≡ false → Goes block chunk (Suits epoch reseals Comes Spared p.slot) p q → KeepingCalls block chunk p.slot q.slot
keeps_seal block chunk epoch reseals Comes Spared p q none (inl still) = record { list = []; keep = tt; leads = still.slot }
keeps_seal block chunk epoch reseals Comes Spared p q none (inr (inl m)) = record { list = m.call ∷ []; keep = (m.fits.seal none, tt); leads = (q.slot, m.is, refl) }
keeps_seal block chunk epoch reseals Comes Spared p q none (inr (inr t)) = record { list = TakesLease t.given.stamp ∷ []; keep = (tt, tt); leads = (q.slot, t.is, refl) }

spares_seal : (block chunk epoch : ℕ) (reseals : Bool) (Comes : Held → Type 0) (Spared : Type 0) (p q : Place) → reseals ≡ false → Spared → Goes block chunk (Suits epoch reseals Comes Spared p.slot) p q → SparingCalls block chunk p.slot q.slot
spares_seal block chunk epoch reseals Comes Spared p q none spared (inl still) = record { list = []; keep = tt; leads = still.slot }
spares_seal block chunk epoch reseals Comes Spared p q none spared (inr (inl m)) = record { list = m.call ∷ []; keep = (m.fits.seal none, tt); leads = (q.slot, m.is, m.fits.spares spared, refl) }
spares_seal block chunk epoch reseals Comes Spared p q none spared (inr (inr t)) = record { list = TakesLease t.given.stamp ∷ []; keep = (tt, tt); leads = (q.slot, t.is, tt, refl) }

run_keeps : (block chunk handle : ℕ) (events : List Event) (s : Server) → s.block ≡ block → s.chunk ≡ chunk → KeepSeal handle events s → KeepingCalls block chunk (slot_in handle s) (slot_in handle (behind_all events s))
run_keeps block chunk handle [] s b c keep = record { list = []; keep = tt; leads = refl }
run_keeps block chunk handle (e ∷ events) s b c keep =
    let first = keeps_seal s.block s.chunk (behind e s).kept.epoch (reseals handle e s) (IsCopied s) (Spares handle e s) (place_of handle s) (place_of handle (behind e s)) keep.0 (goes_at handle e s) in
    let sizes = event_sizes e s in
    let rest = run_keeps block chunk handle events (behind e s) (sizes.block ∙ b) (sizes.chunk ∙ c) keep.1 in
    record {
      list = first.list ++ rest.list;
      keep = keep_both first.list rest.list first.keep rest.keep;
      leads =
          append block chunk (slot_in handle s) (slot_in handle (behind e s)) (slot_in handle (behind_all events (behind e s))) first.list rest.list
          (in_sizes block chunk s.block s.chunk (slot_in handle s) (slot_in handle (behind e s)) first.list b c first.leads) rest.leads;
    }

in_sizes_sparing : (block chunk b c : ℕ) (s end : Slot) (xs : List Call) → b ≡ block → c ≡ chunk → LeadsSparing b c s xs end → LeadsSparing block chunk s xs end
in_sizes_sparing block chunk b c s end xs same_block same_chunk leads = subst (λ n. LeadsSparing n chunk s xs end) same_block (subst (λ n. LeadsSparing b n s xs end) same_chunk leads)

run_spares : (block chunk handle : ℕ) (events : List Event) (s : Server) → s.block ≡ block → s.chunk ≡ chunk → KeepSeal handle events s → AllSpare handle events s → SparingCalls block chunk (slot_in handle s) (slot_in handle (behind_all events s))
run_spares block chunk handle [] s b c keep spare = record { list = []; keep = tt; leads = refl }
run_spares block chunk handle (e ∷ events) s b c keep spare =
    let first = spares_seal s.block s.chunk (behind e s).kept.epoch (reseals handle e s) (IsCopied s) (Spares handle e s) (place_of handle s) (place_of handle (behind e s)) keep.0 spare.0 (goes_at handle e s) in
    let sizes = event_sizes e s in
    let rest = run_spares block chunk handle events (behind e s) (sizes.block ∙ b) (sizes.chunk ∙ c) keep.1 spare.1 in
    record {
      list = first.list ++ rest.list;
      keep = keep_both first.list rest.list first.keep rest.keep;
      leads =
          append_sparing block chunk (slot_in handle s) (slot_in handle (behind e s)) (slot_in handle (behind_all events (behind e s))) first.list rest.list
          (in_sizes_sparing block chunk s.block s.chunk (slot_in handle s) (slot_in handle (behind e s)) first.list b c first.leads) rest.leads;
    }

-- the ends of the epoch, on the slot
prepared_slot : (handle : ℕ) (s : Server) → slot_in handle (prepared s) ≡ learning.prepared (slot_in handle s)
prepared_slot handle s = ap (λ (p : Place). p.slot) (next_is handle (s.kept.epoch + 1) Prepare s refl)

pub rolled_slot : (handle : ℕ) (s : Server) → slot_in handle (rolled_back s) ≡ learning.rolled_back (s.kept.epoch + 1) (slot_in handle s)
rolled_slot handle s = ap (λ (p : Place). p.slot) (next_is handle (s.kept.epoch + 1) Rollback s refl)

prepared_sizes : (s : Server) → SameSizes (store_of s) (store_of (prepared s))
prepared_sizes s = learn_sizes (s.kept.epoch + 1) Prepare s (s.kept.epoch + 1 == s.kept.epoch) (s.kept.epoch + 1 == s.kept.epoch + 1)

abbrev IsBack : ℕ → ℕ → List Edit → Slot → Type 0
IsBack block chunk edits t = StandsIn block chunk t edits × LiveUndamaged t.live

pub goes_back : (handle : ℕ) (edits : List Edit) (events : List Event) (s : Server) → StandsIn s.block s.chunk (slot_in handle s) edits → KeepSeal handle events (prepared s) → is_some (slot_in handle (rolled_back (behind_all events (prepared s)))).live ≡ true
    → IsBack s.block s.chunk edits (slot_in handle (rolled_back (behind_all events (prepared s))))
goes_back handle edits events s stands keep live =
    let from : Server = prepared s in
    let end : Server = behind_all events from in
    let sizes = prepared_sizes s in
    let r = run_keeps s.block s.chunk handle events from sizes.block sizes.chunk keep in
    let rolled = rolled_slot handle end in
    let stood = run_stood s.block s.chunk edits (slot_in handle from) (slot_in handle end) r.list r.keep r.leads
    (subst (λ (x : Slot). StoodIn s.block s.chunk x edits) (sym (prepared_slot handle s)) (prepared_stood s.block s.chunk edits (slot_in handle s) (slot_in handle s).live refl stands)) in
    subst (IsBack s.block s.chunk edits) (sym rolled)
    (back s.block s.chunk edits (end.kept.epoch + 1) (slot_in handle end) stood (subst (λ (x : Slot). is_some x.live ≡ true) rolled live))

pub comes_back : (handle : ℕ) (events : List Event) (s : Server) → is_some (slot_in handle s).live ≡ true → LiveUndamaged (slot_in handle s).live → KeepSeal handle events (prepared s) → AllSpare handle events (prepared s)
    → is_some (slot_in handle (rolled_back (behind_all events (prepared s)))).live ≡ true
comes_back handle events s live undamaged keep spare =
    let from : Server = prepared s in
    let end : Server = behind_all events from in
    let sizes = prepared_sizes s in
    let r = run_spares s.block s.chunk handle events from sizes.block sizes.chunk keep spare in
    subst (λ (x : Slot). is_some x.live ≡ true) (sym (rolled_slot handle end))
    (spared_back s.block s.chunk (end.kept.epoch + 1) (slot_in handle s) (slot_in handle end) r.list live undamaged r.keep
    (subst (λ (x : Slot). LeadsSparing s.block s.chunk x r.list (slot_in handle end)) (prepared_slot handle s) r.leads))
