-- Blocks that hold what a chunk's list of edits gives of them, event by event.
use Rattle.std.proofs.Common.{◌≡◌, ◌≢◌, ℕ, true, false, cond, List, [], ◌∷◌, ◌++◌, Option, Some, None, sym, subst, ◌∙◌, true≢false}
use Rattle.std.specs.Prelude.{Result, Ok, Err, is_some, ◌==◌}
use Rattle.std.proofs.lemmas.Bool.{eq-eqb}
use Rattle.gs_base.specs.declared.numbers.Moment.{Moment}
use Rattle.gs_base.specs.declared.numbers.Stamp.{Stamp}
use Rattle.gs_base.specs.declared.refusal.Refusal.{Refusal}
use Rattle.gs_base.specs.declared.refusal.Refusal.TheVariants as refusals
use Rattle.gs_base.specs.Stamps.{is_before}
use Rattle.gs_replica.specs.Edits.{fresh}
use Rattle.gs_replica.specs.Seals.{State}
use Rattle.gs_replica.specs.Stands.{Edit}
use Rattle.gs_msg.specs.declared.node.NodeId.{NodeId}
use Rattle.gs_msg.specs.declared.chunk.Chunk.TheVariants as chunks
use Rattle.gs_store.specs.Slots.{Live, Slot, first_of, when, unless_live, unless_promised, if_bad, check_grant, is_taken, taking, lost, removed, risen, replaced, again, damage_of}
use Rattle.gs_store.specs.Slots as slots
use Rattle.gs_store.specs.Serving.{apply_to}
use Rattle.gs_store.specs.Moves.{copied_in}
use Rattle.gs_store.specs.Learning.{sealed_live, unsealed_live}
use Rattle.gs_store.specs.Standing.{LiveHoldsBlock, StandsIn, HoldsIn}
use Rattle.gs_store.specs.Calls.{Call, Creates, Advances, CopiesIn, TakesCopy, Drops, TakesLease, Loses, Damages, MarksBad, Applies, Seals, Unseals, RollsBack, called}
use Rattle.gs_store.proofs.BlockByBlock.{fresh_holds, edit_holds, risen_holds, damage_holds, mark_holds}
use Rattle.gs_store.proofs.Laws.{Holds, of_ok, of_cond, of_unless, of_again, of_raised}
use Rattle.gs_server.specs.Places.{Place, Here, other_epoch}
use Rattle.gs_server.specs.Promises as messages
use Rattle.gs_server.specs.Servers.{Server, place_of, here_of, handle_chunk}
use Rattle.gs_server.specs.Runs.{Event, behind, behind_all, slot_in, BecomesBy}
use Rattle.gs_server.proofs.Behind.{event_sizes}
use Rattle.gs_laws_server.specs.servers.Calling.{call_by}
use Rattle.gs_laws_server.specs.servers.Following.{applied_edit, edit_in, lengthened, edits_behind, edits_behind_all, remakes_by, remakes_in, remakes, NoneRemakes, damages_by, damages_in, damages, NoneDamages, AreToldBefore}
use Rattle.gs_laws_server.proofs.lemmas.servers.Tests.{never_both, never_true}
use Rattle.gs_laws_server.proofs.lemmas.servers.Calling.{event_calls}
use Rattle.gs_laws_server.proofs.lemmas.servers.Following.{event_stands, run_live, sized}
use Rattle.gs_laws_server.proofs.lemmas.servers.Sealing.{accepts, becomes_it}

weaker : (P Q : Slot → Type 0) (m : Result Slot Refusal) → ((t : Slot) → P t → Q t) → Holds P m → Holds Q m
weaker P Q (Ok t) each fact = each t fact
weaker P Q (Err e) each fact = tt

other : (k index : ℕ) → (k == index) ≡ false → k ≢ index
other k index is same = true≢false (sym (eq-eqb k index same) ∙ is)

-- ---- one call

none_lives : {Z : Type 0} → (let o : Option Live = None in is_some o) ≡ true → Z
none_lives is = never_true is

sealed_holds : (size limit k : ℕ) (live : Option Live) (xs : List Edit) → LiveHoldsBlock size limit live xs k → LiveHoldsBlock size limit (sealed_live live) xs k
sealed_holds size limit k None xs holds = holds
sealed_holds size limit k (Some l) xs holds = holds

unsealed_holds : (size limit k : ℕ) (live : Option Live) (xs : List Edit) → LiveHoldsBlock size limit live xs k → LiveHoldsBlock size limit (unsealed_live live) xs k
unsealed_holds size limit k None xs holds = holds
unsealed_holds size limit k (Some l) xs holds = holds

module _ (size limit k : ℕ) (xs : List Edit) where
  abbrev HasBlock : List Edit → Slot → Type 0
  HasBlock ys t = is_some t.live ≡ true → LiveHoldsBlock size limit t.live ys k

  raised_holds : (stamp : Stamp) (r : State) (s : Slot) → is_before s.promise stamp ≡ false → HoldsIn size limit s xs k → Holds (HasBlock xs) (cond (is_before s.promise stamp) (Ok (replaced stamp false r s)) (again stamp s))
  raised_holds stamp r s below holds = of_raised (HasBlock xs) stamp false r s (λ _. holds) (λ above. never_both (is_before s.promise stamp) above below)

  call_holds : (c : Call) (s : Slot) → remakes_by s c ≡ false → damages_by k c ≡ false → StandsIn size limit s xs → HoldsIn size limit s xs k → Holds (HasBlock (lengthened xs (applied_edit c))) (called size limit c s)
  call_holds (Creates stamp) s kept spared stands holds = raised_holds stamp (record { held = fresh size limit stamp; sealed = None }) s kept holds
  call_holds (Advances stamp) s kept spared stands holds =
      of_unless (HasBlock xs) (first_of (unless_live s.live ∷ if_bad s.live ∷ when (is_before stamp s.promise) refusals.Old ∷ [])) (risen stamp s) (λ _ _. risen_holds size limit k stamp s.live xs holds)
  call_holds (CopiesIn stamp image sealed) s kept spared stands holds =
      of_cond (HasBlock xs) (is_before s.promise stamp) (copied_in size limit stamp image sealed s) (again stamp s) (λ above. never_both (is_before s.promise stamp) above kept) (λ _. of_again (HasBlock xs) stamp s (λ _. holds))
  call_holds (TakesCopy h) s kept spared stands holds = raised_holds h.promise (record { held = h; sealed = None }) s kept holds
  call_holds (Drops promise) s kept spared stands holds = of_unless (HasBlock xs) (first_of (unless_promised promise s ∷ unless_live s.live ∷ [])) (removed s) (λ _ live. none_lives live)
  call_holds (TakesLease stamp) s kept spared stands holds = of_unless (HasBlock xs) (first_of (check_grant stamp s ∷ when (is_taken stamp s.taken) refusals.Old ∷ [])) (taking stamp s) (λ _ _. holds)
  call_holds Loses s kept spared stands holds =
      of_cond (HasBlock xs) (is_some s.live) (Ok (lost s)) (cond (is_some s.trash) (Ok (lost s)) (Err refusals.NoReplica)) (λ _ live. none_lives live)
      (λ _. of_cond (HasBlock xs) (is_some s.trash) (Ok (lost s)) (Err refusals.NoReplica) (λ _ live. none_lives live) (λ _. tt))
  call_holds (Damages index) s kept spared stands holds =
      weaker (λ t. LiveHoldsBlock size limit t.live xs k) (HasBlock xs) (damage_of index s s.live s.trash) (λ t there _. there) (damage_holds size limit k index s s.live s.trash xs (other k index spared) stands holds)
  call_holds (MarksBad index) s kept spared stands holds = λ _. mark_holds size limit k index s.live xs holds
  call_holds (Applies stamp number req op bytes) s kept spared stands holds =
      weaker (λ t. LiveHoldsBlock size limit t.live (xs ++ (record { req = req; op = op; bytes = bytes }) ∷ []) k) (HasBlock (xs ++ (record { req = req; op = op; bytes = bytes }) ∷ [])) (apply_to stamp number req op bytes s s.live) (λ t there _. there)
      (edit_holds size limit k stamp number req op bytes s s.live xs stands holds)
  call_holds Seals s kept spared stands holds = λ _. sealed_holds size limit k s.live xs holds
  call_holds Unseals s kept spared stands holds = λ _. unsealed_holds size limit k s.live xs holds
  call_holds (RollsBack epoch) s kept spared stands holds = absurd (true≢false kept)

  pub follows : (o : Option Call) (s t : Slot) → BecomesBy size limit s o t → remakes_in s o ≡ false → damages_in k o ≡ false → StandsIn size limit s xs → HoldsIn size limit s xs k → is_some t.live ≡ true → HoldsIn size limit t (lengthened xs (edit_in o)) k
  follows None s t is kept spared stands holds live = subst (λ (x : Slot). HoldsIn size limit x xs k) (sym is) holds
  follows (Some c) s t is kept spared stands holds live = of_ok (HasBlock (lengthened xs (applied_edit c))) (called size limit c s) t is (call_holds c s kept spared stands holds) live

-- ---- a run of events

pub event_holds : (handle k : ℕ) (e : Event) (s : Server) (xs : List Edit) → StandsIn s.block s.chunk (slot_in handle s) xs → HoldsIn s.block s.chunk (slot_in handle s) xs k → remakes handle e s ≡ false → damages handle k e s ≡ false → is_some (slot_in handle (behind e s)).live ≡ true
    → HoldsIn s.block s.chunk (slot_in handle (behind e s)) (edits_behind handle e s xs) k
event_holds handle k e s xs stands holds kept spared live = follows s.block s.chunk k xs (call_by handle e s) (slot_in handle s) (slot_in handle (behind e s)) (event_calls handle e s) kept spared stands holds live

sized_holds : (a b c d k : ℕ) (t : Slot) (xs : List Edit) → a ≡ c → b ≡ d → HoldsIn a b t xs k → HoldsIn c d t xs k
sized_holds a b c d k t xs first second holds = subst (λ n. HoldsIn n d t xs k) first (subst (λ n. HoldsIn a n t xs k) second holds)

pub run_holds : (handle k : ℕ) (events : List Event) (s : Server) (xs : List Edit) → StandsIn s.block s.chunk (slot_in handle s) xs → HoldsIn s.block s.chunk (slot_in handle s) xs k → AreToldBefore handle events s xs → NoneRemakes handle events s → NoneDamages handle k events s
    → is_some (slot_in handle (behind_all events s)).live ≡ true → HoldsIn s.block s.chunk (slot_in handle (behind_all events s)) (edits_behind_all handle events s xs) k
run_holds handle k [] s xs stands holds told kept spared live = holds
run_holds handle k (e ∷ events) s xs stands holds told kept spared live =
    let next : Server = behind e s in
    let end : Slot = slot_in handle (behind_all events next) in
    let sizes = event_sizes e s in
    let ys : List Edit = edits_behind handle e s xs in
    let lives = run_live handle events next kept.1 live in
    let stand : StandsIn next.block next.chunk (slot_in handle next) ys = sized s.block s.chunk next.block next.chunk (slot_in handle next) ys (sym sizes.block) (sym sizes.chunk) (event_stands handle e s xs stands told.0 kept.0 lives) in
    let hold : HoldsIn next.block next.chunk (slot_in handle next) ys k = sized_holds s.block s.chunk next.block next.chunk k (slot_in handle next) ys (sym sizes.block) (sym sizes.chunk) (event_holds handle k e s xs stands holds kept.0 spared.0 lives) in
    sized_holds next.block next.chunk s.block s.chunk k end (edits_behind_all handle events next ys) sizes.block sizes.chunk (run_holds handle k events next ys stand hold told.1 kept.1 spared.1 live)

-- ---- a create

pub created_holds : (s : Server) (from : NodeId) (handle k : ℕ) (stamp : Stamp) (moment : Moment) → is_before (slot_in handle s).promise stamp ≡ true → (handle_chunk s from handle (chunks.Create stamp) moment).said ≡ None
    → HoldsIn s.block s.chunk (slot_in handle (handle_chunk s from handle (chunks.Create stamp) moment).after) [] k
created_holds s from handle k stamp moment above said =
    let h : Here = here_of s moment handle None in
    let p : Place = place_of handle s in
    let made : Result Slot Refusal = slots.create s.block s.chunk stamp p.slot in
    of_ok (λ (x : Slot). HoldsIn s.block s.chunk x [] k) made _ (becomes_it handle (messages.create h p stamp) s made (accepts h p stamp (other_epoch h stamp.epoch) made said))
    (of_cond (λ (x : Slot). HoldsIn s.block s.chunk x [] k) (is_before p.slot.promise stamp) (Ok (replaced stamp false (record { held = fresh s.block s.chunk stamp; sealed = None }) p.slot)) (again stamp p.slot)
    (λ _. fresh_holds s.block s.chunk k stamp) (λ below. never_both (is_before p.slot.promise stamp) above below))
