-- A live replica stays at a call that is no loss and no drop, and no rollback for which nothing whole is sealed.
use Rattle.std.proofs.Common.{◌≡◌, ℕ, true, false, List, Option, Some, None, Result, Ok, Err, refl, sym, subst}
use Rattle.std.specs.Prelude.{is_none, is_some, not}
use Rattle.std.proofs.lemmas.Bool.{false≢true}
use Rattle.gs_base.specs.Stamps.{is_before}
use Rattle.gs_base.specs.declared.numbers.ReqId.{ReqId}
use Rattle.gs_base.specs.declared.numbers.Stamp.{Stamp}
use Rattle.gs_base.specs.declared.refusal.Refusal.{Refusal}
use Rattle.gs_block.specs.Edits.{unless_damaged}
use Rattle.gs_replica.specs.Copies.{and_then}
use Rattle.gs_replica.specs.Seals.{Sealed, State, lowest_damaged, roll_back_to}
use Rattle.gs_replica.specs.Seals as replicas
use Rattle.gs_replica.specs.declared.op.Op.{Op}
use Rattle.gs_server.specs.Runs.{BecomesBy}
use Rattle.gs_store.proofs.Laws.{Holds, of_again, of_cond, of_ok, of_raised, of_unless}
use Rattle.gs_store.specs.Calls as calls
use Rattle.gs_store.specs.Calls.{Call, called}
use Rattle.gs_store.specs.Learning.{finalized, prepared, rolled_back, rolled_to, sealed_live, start_of, unsealed_live}
use Rattle.gs_store.specs.Moves.{copied_in, copy_in, in_trash, replicas_of, take_copy}
use Rattle.gs_store.specs.Serving.{apply, apply_to}
use Rattle.gs_store.specs.Slots.{Live, Slot, advance, again, create, damage, damage_of, live_under, mark_bad, marked_live, replaced, risen, sealed_of, take_lease, taking, with_live}
use Rattle.gs_store_seal.specs.Rollback.{later}
use Rattle.gs_laws_chunks.specs.replicas.Kept.{restores, takes_live}

abbrev IsLive : Slot → Type 0
IsLive t = is_some t.live ≡ true

under_live : (stamp : Stamp) (o : Option Live) → is_some o ≡ true → is_some (live_under stamp o) ≡ true
under_live stamp None live = absurd (false≢true live)
under_live stamp (Some l) live = refl

marks_live : (block : ℕ) (o : Option Live) → is_some o ≡ true → is_some (marked_live block o) ≡ true
marks_live block None live = absurd (false≢true live)
marks_live block (Some l) live = refl

seals_live : (o : Option Live) → is_some o ≡ true → is_some (sealed_live o) ≡ true
seals_live None live = absurd (false≢true live)
seals_live (Some l) live = refl

unseals_live : (o : Option Live) → is_some o ≡ true → is_some (unsealed_live o) ≡ true
unseals_live None live = absurd (false≢true live)
unseals_live (Some l) live = refl

trashed_live : (trash : Option State) (s : Slot) → IsLive s → IsLive (in_trash trash s)
trashed_live None s live = live
trashed_live (Some r) s live = live

with_one : (s : Slot) (bad : Option ℕ) (r : Result State Refusal) → Holds IsLive (with_live s bad r)
with_one s bad (Ok r) = refl
with_one s bad (Err e) = tt

damages_live : (block : ℕ) (s : Slot) (o : Option Live) (trash : Option State) → is_some o ≡ true → Holds IsLive (damage_of block s o trash)
damages_live block s None trash live = absurd (false≢true live)
damages_live block s (Some l) trash live = with_one s l.bad (replicas.damage block l.replica)

applies_live : (stamp : Stamp) (number : ℕ) (req : ReqId) (op : Op) (bytes : List ℕ) (s : Slot) (o : Option Live) → Holds IsLive (apply_to stamp number req op bytes s o)
applies_live stamp number req op bytes s None = tt
applies_live stamp number req op bytes s (Some l) = with_one s l.bad (replicas.apply stamp number req op bytes l.replica)

rolls_live : (promise : Stamp) (s : Slot) (o : Option Sealed) → not (restores o) ≡ false → IsLive (rolled_to promise (roll_back_to promise o) s)
rolls_live promise s None kept = absurd (false≢true (sym kept))
rolls_live promise s (Some t) kept = by_damaged (lowest_damaged t.undone) kept
  where
    by_damaged : (o : Option ℕ) → not (is_none o) ≡ false → IsLive (rolled_to promise (unless_damaged o (record { held = record { chunk = t.undone; count = t.count; done = t.done; promise = promise }; sealed = None })) s)
    by_damaged None kept = refl
    by_damaged (Some block) kept = absurd (false≢true (sym kept))

module _ (block chunk : ℕ) (s : Slot) (live : IsLive s) where
  by_call : (call : Call) (t : Slot) → takes_live s (Some call) ≡ false → called block chunk call s ≡ Ok t → IsLive t
  by_call (calls.Creates stamp) t kept made = of_ok IsLive (create block chunk stamp s) t made (of_raised IsLive stamp false _ s live (λ up. refl))
  by_call (calls.Advances stamp) t kept made = of_ok IsLive (advance stamp s) t made (of_unless IsLive _ (risen stamp s) (λ none. under_live stamp s.live live))
  by_call (calls.CopiesIn stamp image sealed) t kept made =
      of_ok IsLive (copy_in block chunk stamp image sealed s) t made
      (of_cond IsLive (is_before s.promise stamp) (copied_in block chunk stamp image sealed s) (again stamp s) (λ up. by_made (replicas_of block chunk stamp image sealed)) (λ below. of_again IsLive stamp s live))
    where
      by_made : (r : Result (State × Option State) Refusal) → Holds IsLive (and_then r (λ p. Ok (in_trash p.1 (replaced stamp (is_some sealed) p.0 s))))
      by_made (Ok p) = trashed_live p.1 (replaced stamp (is_some sealed) p.0 s) refl
      by_made (Err e) = tt
  by_call (calls.TakesCopy h) t kept made = of_ok IsLive (take_copy h s) t made (of_raised IsLive h.promise false _ s live (λ up. refl))
  by_call (calls.Drops promise) t kept made = absurd (false≢true (sym kept))
  by_call (calls.TakesLease stamp) t kept made = of_ok IsLive (take_lease stamp s) t made (of_unless IsLive _ (taking stamp s) (λ none. live))
  by_call calls.Loses t kept made = absurd (false≢true (sym kept))
  by_call (calls.Damages index) t kept made = of_ok IsLive (damage index s) t made (damages_live index s s.live s.trash live)
  by_call (calls.MarksBad index) t kept made = of_ok IsLive (Ok (mark_bad index s)) t made (marks_live index s.live live)
  by_call (calls.Applies stamp number req op bytes) t kept made = of_ok IsLive (apply stamp number req op bytes s) t made (applies_live stamp number req op bytes s s.live)
  by_call calls.Seals t kept made = of_ok IsLive (Ok (prepared s)) t made (seals_live s.live live)
  by_call calls.Unseals t kept made = of_ok IsLive (Ok (finalized s)) t made (unseals_live s.live live)
  by_call (calls.RollsBack epoch) t kept made = of_ok IsLive (Ok (rolled_back epoch s)) t made (rolls_live (later s.promise (start_of epoch)) s (sealed_of s) kept)

  pub live_by : (o : Option Call) (t : Slot) → takes_live s o ≡ false → BecomesBy block chunk s o t → IsLive t
  live_by None t kept same = subst IsLive (sym same) live
  live_by (Some call) t kept made = by_call call t kept made
