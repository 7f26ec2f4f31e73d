-- What a live replica stands for, event by event.
use Rattle.std.proofs.Common.{◌≡◌, ℕ, true, false, cond, List, [], ◌∷◌, ◌++◌, Option, Some, None, refl, sym, ap, subst, ◌∙◌, true≢false}
use Rattle.std.specs.Prelude.{Result, Ok, Err, is_some}
use Rattle.gs_base.specs.declared.numbers.Stamp.{Stamp}
use Rattle.gs_base.specs.declared.numbers.ReqId.{ReqId}
use Rattle.gs_base.specs.declared.refusal.Refusal.{Refusal}
use Rattle.gs_base.specs.declared.refusal.Refusal.TheVariants as refusals
use Rattle.gs_base.specs.Stamps.{is_before}
use Rattle.gs_replica.specs.Edits.{fresh}
use Rattle.gs_replica.specs.Seals.{State}
use Rattle.gs_replica.specs.Seals as replicas
use Rattle.gs_replica.specs.Stands.{Edit}
use Rattle.gs_replica.specs.declared.op.Op.{Op}
use Rattle.gs_store.specs.Slots.{Live, Slot, first_of, when, unless_live, unless_promised, if_bad, check_grant, is_taken, taking, lost, removed, risen, replaced, again, live_under, marked_live, damage_of}
use Rattle.gs_store.specs.Serving.{apply_to}
use Rattle.gs_store.specs.Moves.{copied_in}
use Rattle.gs_store.specs.Learning.{sealed_live, unsealed_live}
use Rattle.gs_store.specs.Standing.{LiveStandsFor, StandsIn, IsToldIn}
use Rattle.gs_store.specs.Calls.{Call, Creates, Advances, CopiesIn, TakesCopy, Drops, TakesLease, Loses, Damages, MarksBad, Applies, Seals, Unseals, RollsBack, called}
use Rattle.gs_store.proofs.Laws.{Holds, of_ok, of_cond, of_unless, of_again, of_raised}
use Rattle.gs_store.proofs.Standing.{of_live, of_trash, edit_stands, risen_stands, damage_kept, mark_stands}
use Rattle.gs_server.specs.Servers.{Server}
use Rattle.gs_server.specs.Runs.{Event, behind, behind_all, slot_in, BecomesBy}
use Rattle.gs_server.proofs.Behind.{event_sizes}
use Rattle.gs_laws_server.specs.servers.Calling.{call_by}
use Rattle.gs_laws_server.specs.servers.Following.{applied_edit, edit_in, lengthened, edits_behind, edits_behind_all, remakes_by, remakes_in, remakes, NoneRemakes, IfEdits, IsToldBefore, AreToldBefore}
use Rattle.gs_laws_server.proofs.lemmas.servers.Tests.{never_both, never_true}
use Rattle.gs_laws_server.proofs.lemmas.servers.Calling.{event_calls}

weaker : (P Q : Slot → Type 0) (m : Result Slot Refusal) → ((t : Slot) → P t → Q t) → Holds P m → Holds Q m
weaker P Q (Ok t) each fact = each t fact
weaker P Q (Err e) each fact = tt

-- ---- one call

-- nothing that is live comes of a replica that goes
none_lives : {Z : Type 0} → (let o : Option Live = None in is_some o) ≡ true → Z
none_lives is = never_true is

sealed_stands : (size limit : ℕ) (live : Option Live) (xs : List Edit) → LiveStandsFor size limit live xs → LiveStandsFor size limit (sealed_live live) xs
sealed_stands size limit None xs stands = stands
sealed_stands size limit (Some l) xs stands = stands

unsealed_stands : (size limit : ℕ) (live : Option Live) (xs : List Edit) → LiveStandsFor size limit live xs → LiveStandsFor size limit (unsealed_live live) xs
unsealed_stands size limit None xs stands = stands
unsealed_stands size limit (Some l) xs stands = stands

module _ (size limit : ℕ) (xs : List Edit) where
  abbrev Stands : List Edit → Slot → Type 0
  Stands ys t = is_some t.live ≡ true → LiveStandsFor size limit t.live ys

  raised_stands : (stamp : Stamp) (r : State) (s : Slot) → is_before s.promise stamp ≡ false → StandsIn size limit s xs → Holds (Stands xs) (cond (is_before s.promise stamp) (Ok (replaced stamp false r s)) (again stamp s))
  raised_stands stamp r s below stands = of_raised (Stands xs) stamp false r s (λ _. stands) (λ above. never_both (is_before s.promise stamp) above below)

  call_stands : (c : Call) (s : Slot) → remakes_by s c ≡ false → StandsIn size limit s xs → IfEdits (applied_edit c) (IsToldIn size limit s xs) → Holds (Stands (lengthened xs (applied_edit c))) (called size limit c s)
  call_stands (Creates stamp) s kept stands told = raised_stands stamp (record { held = fresh size limit stamp; sealed = None }) s kept stands
  call_stands (Advances stamp) s kept stands told =
      of_unless (Stands xs) (first_of (unless_live s.live ∷ if_bad s.live ∷ when (is_before stamp s.promise) refusals.Old ∷ [])) (risen stamp s) (λ _ _. risen_stands size limit stamp s.live xs stands)
  call_stands (CopiesIn stamp image sealed) s kept stands told =
      of_cond (Stands xs) (is_before s.promise stamp) (copied_in size limit stamp image sealed s) (again stamp s) (λ above. never_both (is_before s.promise stamp) above kept) (λ _. of_again (Stands xs) stamp s (λ _. stands))
  call_stands (TakesCopy h) s kept stands told = raised_stands h.promise (record { held = h; sealed = None }) s kept stands
  call_stands (Drops promise) s kept stands told = of_unless (Stands xs) (first_of (unless_promised promise s ∷ unless_live s.live ∷ [])) (removed s) (λ _ live. none_lives live)
  call_stands (TakesLease stamp) s kept stands told = of_unless (Stands xs) (first_of (check_grant stamp s ∷ when (is_taken stamp s.taken) refusals.Old ∷ [])) (taking stamp s) (λ _ _. stands)
  call_stands Loses s kept stands told =
      of_cond (Stands xs) (is_some s.live) (Ok (lost s)) (cond (is_some s.trash) (Ok (lost s)) (Err refusals.NoReplica)) (λ _ live. none_lives live)
      (λ _. of_cond (Stands xs) (is_some s.trash) (Ok (lost s)) (Err refusals.NoReplica) (λ _ live. none_lives live) (λ _. tt))
  call_stands (Damages index) s kept stands told =
      weaker (λ t. LiveStandsFor size limit t.live xs) (Stands xs) (damage_of index s s.live s.trash) (λ t there _. there) (damage_kept size limit index s s.live s.trash xs refl stands)
  call_stands (MarksBad index) s kept stands told = λ _. mark_stands size limit index s.live xs stands
  call_stands (Applies stamp number req op bytes) s kept stands told =
      weaker (λ t. LiveStandsFor size limit t.live (xs ++ (record { req = req; op = op; bytes = bytes }) ∷ [])) (Stands (xs ++ (record { req = req; op = op; bytes = bytes }) ∷ [])) (apply_to stamp number req op bytes s s.live) (λ t there _. there)
      (edit_stands size limit stamp number req op bytes s s.live xs stands told)
  call_stands Seals s kept stands told = λ _. sealed_stands size limit s.live xs stands
  call_stands Unseals s kept stands told = λ _. unsealed_stands size limit s.live xs stands
  call_stands (RollsBack epoch) s kept stands told = absurd (true≢false kept)

  pub follows : (o : Option Call) (s t : Slot) → BecomesBy size limit s o t → remakes_in s o ≡ false → StandsIn size limit s xs → IfEdits (edit_in o) (IsToldIn size limit s xs) → is_some t.live ≡ true → StandsIn size limit t (lengthened xs (edit_in o))
  follows None s t is kept stands told live = subst (λ (x : Slot). StandsIn size limit x xs) (sym is) stands
  follows (Some c) s t is kept stands told live = of_ok (Stands (lengthened xs (applied_edit c))) (called size limit c s) t is (call_stands c s kept stands told) live

-- ---- what is live was live

abbrev WasLive : Slot → Slot → Type 0
WasLive s t = is_some t.live ≡ true → is_some s.live ≡ true

under_lives : (stamp : Stamp) (live : Option Live) → is_some (live_under stamp live) ≡ true → is_some live ≡ true
under_lives stamp None is = is
under_lives stamp (Some l) is = refl

marked_lives : (index : ℕ) (live : Option Live) → is_some (marked_live index live) ≡ true → is_some live ≡ true
marked_lives index None is = is
marked_lives index (Some l) is = refl

sealed_lives : (live : Option Live) → is_some (sealed_live live) ≡ true → is_some live ≡ true
sealed_lives None is = is
sealed_lives (Some l) is = refl

unsealed_lives : (live : Option Live) → is_some (unsealed_live live) ≡ true → is_some live ≡ true
unsealed_lives None is = is
unsealed_lives (Some l) is = refl

damaged_lives : (index : ℕ) (s : Slot) (live : Option Live) (trash : Option State) → s.live ≡ live → Holds (WasLive s) (damage_of index s live trash)
damaged_lives index s None None is = tt
damaged_lives index s None (Some r) is = of_trash (WasLive s) s (replicas.damage index r) (λ q e there. there)
damaged_lives index s (Some l) trash is = of_live (WasLive s) s l.bad (replicas.damage index l.replica) (λ q e there. ap is_some is)

applied_lives : (stamp : Stamp) (number : ℕ) (req : ReqId) (op : Op) (bytes : List ℕ) (s : Slot) (live : Option Live) → s.live ≡ live → Holds (WasLive s) (apply_to stamp number req op bytes s live)
applied_lives stamp number req op bytes s None is = tt
applied_lives stamp number req op bytes s (Some l) is = of_live (WasLive s) s l.bad (replicas.apply stamp number req op bytes l.replica) (λ q e there. ap is_some is)

raised_lives : (stamp : Stamp) (r : State) (s : Slot) → is_before s.promise stamp ≡ false → Holds (WasLive s) (cond (is_before s.promise stamp) (Ok (replaced stamp false r s)) (again stamp s))
raised_lives stamp r s below = of_raised (WasLive s) stamp false r s (λ there. there) (λ above. never_both (is_before s.promise stamp) above below)

call_lives : (size limit : ℕ) (c : Call) (s : Slot) → remakes_by s c ≡ false → Holds (WasLive s) (called size limit c s)
call_lives size limit (Creates stamp) s kept = raised_lives stamp (record { held = fresh size limit stamp; sealed = None }) s kept
call_lives size limit (Advances stamp) s kept =
    of_unless (WasLive s) (first_of (unless_live s.live ∷ if_bad s.live ∷ when (is_before stamp s.promise) refusals.Old ∷ [])) (risen stamp s) (λ _. under_lives stamp s.live)
call_lives size limit (CopiesIn stamp image sealed) s kept =
    of_cond (WasLive s) (is_before s.promise stamp) (copied_in size limit stamp image sealed s) (again stamp s) (λ above. never_both (is_before s.promise stamp) above kept) (λ _. of_again (WasLive s) stamp s (λ there. there))
call_lives size limit (TakesCopy h) s kept = raised_lives h.promise (record { held = h; sealed = None }) s kept
call_lives size limit (Drops promise) s kept = of_unless (WasLive s) (first_of (unless_promised promise s ∷ unless_live s.live ∷ [])) (removed s) (λ _ live. none_lives live)
call_lives size limit (TakesLease stamp) s kept = of_unless (WasLive s) (first_of (check_grant stamp s ∷ when (is_taken stamp s.taken) refusals.Old ∷ [])) (taking stamp s) (λ _ there. there)
call_lives size limit Loses s kept =
    of_cond (WasLive s) (is_some s.live) (Ok (lost s)) (cond (is_some s.trash) (Ok (lost s)) (Err refusals.NoReplica)) (λ _ live. none_lives live)
    (λ _. of_cond (WasLive s) (is_some s.trash) (Ok (lost s)) (Err refusals.NoReplica) (λ _ live. none_lives live) (λ _. tt))
call_lives size limit (Damages index) s kept = damaged_lives index s s.live s.trash refl
call_lives size limit (MarksBad index) s kept = marked_lives index s.live
call_lives size limit (Applies stamp number req op bytes) s kept = applied_lives stamp number req op bytes s s.live refl
call_lives size limit Seals s kept = sealed_lives s.live
call_lives size limit Unseals s kept = unsealed_lives s.live
call_lives size limit (RollsBack epoch) s kept = absurd (true≢false kept)

was_live : (size limit : ℕ) (o : Option Call) (s t : Slot) → BecomesBy size limit s o t → remakes_in s o ≡ false → WasLive s t
was_live size limit None s t is kept = λ there. ap (λ (x : Slot). is_some x.live) (sym is) ∙ there
was_live size limit (Some c) s t is kept = of_ok (WasLive s) (called size limit c s) t is (call_lives size limit c s kept)

-- ---- a run of events

pub run_live : (handle : ℕ) (events : List Event) (s : Server) → NoneRemakes handle events s → is_some (slot_in handle (behind_all events s)).live ≡ true → is_some (slot_in handle s).live ≡ true
run_live handle [] s kept live = live
run_live handle (e ∷ events) s kept live =
    was_live s.block s.chunk (call_by handle e s) (slot_in handle s) (slot_in handle (behind e s)) (event_calls handle e s) kept.0 (run_live handle events (behind e s) kept.1 live)

pub event_stands : (handle : ℕ) (e : Event) (s : Server) (xs : List Edit) → StandsIn s.block s.chunk (slot_in handle s) xs → IsToldBefore handle e s xs → remakes handle e s ≡ false → is_some (slot_in handle (behind e s)).live ≡ true
    → StandsIn s.block s.chunk (slot_in handle (behind e s)) (edits_behind handle e s xs)
event_stands handle e s xs stands told kept live = follows s.block s.chunk xs (call_by handle e s) (slot_in handle s) (slot_in handle (behind e s)) (event_calls handle e s) kept stands told live

pub sized : (a b c d : ℕ) (t : Slot) (xs : List Edit) → a ≡ c → b ≡ d → StandsIn a b t xs → StandsIn c d t xs
sized a b c d t xs first second stands = subst (λ n. StandsIn n d t xs) first (subst (λ n. StandsIn a n t xs) second stands)

pub run_stands : (handle : ℕ) (events : List Event) (s : Server) (xs : List Edit) → StandsIn s.block s.chunk (slot_in handle s) xs → AreToldBefore handle events s xs → NoneRemakes handle events s → is_some (slot_in handle (behind_all events s)).live ≡ true
    → StandsIn s.block s.chunk (slot_in handle (behind_all events s)) (edits_behind_all handle events s xs)
run_stands handle [] s xs stands told kept live = stands
run_stands handle (e ∷ events) s xs stands told kept live =
    let next : Server = behind e s in
    let end : Slot = slot_in handle (behind_all events next) in
    let sizes = event_sizes e s in
    let ys : List Edit = edits_behind handle e s xs in
    let here : StandsIn s.block s.chunk (slot_in handle next) ys = event_stands handle e s xs stands told.0 kept.0 (run_live handle events next kept.1 live) in
    sized next.block next.chunk s.block s.chunk end (edits_behind_all handle events next ys) sizes.block sizes.chunk
    (run_stands handle events next ys (sized s.block s.chunk next.block next.chunk (slot_in handle next) ys (sym sizes.block) (sym sizes.chunk) here) told.1 kept.1 live)
