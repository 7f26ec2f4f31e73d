-- What is sealed of a handle through runs of calls.
use Rattle.std.proofs.Common.{◌≡◌, ℕ, Bool, true, false, cond, List, [], ◌∷◌, Option, Some, None, refl, sym, subst}
use Rattle.std.specs.Prelude.{Result, Ok, Err, is_some}
use Rattle.gs_base.specs.declared.numbers.Stamp.{Stamp}
use Rattle.gs_base.specs.declared.numbers.ReqId.{ReqId}
use Rattle.gs_base.specs.Stamps.{is_before}
use Rattle.gs_base.specs.declared.refusal.Refusal.{Refusal}
use Rattle.gs_base.specs.declared.refusal.Refusal.TheVariants as refusals
use Rattle.gs_replica.specs.declared.op.Op.{Op}
use Rattle.gs_replica.specs.Edits as edits
use Rattle.gs_replica.specs.Seals.{Sealed, State, on_seal, touch_seal, damage_seal, roll_back_to}
use Rattle.gs_replica.specs.Seals as replicas
use Rattle.gs_replica.specs.Stands.{Edit, StandsFor, StoodFor, where_sealed}
use Rattle.gs_replica.proofs.Listing.{seal_ok}
use Rattle.gs_replica.proofs.Carried.{stood_there}
use Rattle.gs_replica.proofs.Stood.{damage_stood, rolled_back}
use Rattle.gs_store.specs.Slots.{Live, Slot, damage_of, when, first_of, unless_live, unless_promised, if_bad, check_grant, is_taken, taking, removed, risen, mark_bad, again, replaced, seal_in, seal_of, sealed_of}
use Rattle.gs_store.specs.Serving.{apply_to}
use Rattle.gs_store.specs.Moves.{in_trash, copied_in}
use Rattle.gs_store_seal.specs.Rollback.{later}
use Rattle.gs_store.specs.Learning.{start_of, rolled_to, sealed_live, prepared}
use Rattle.gs_store.specs.Standing.{LiveStandsFor, LiveUndamaged}
use Rattle.gs_store.specs.Calls.{Call, Creates, Advances, CopiesIn, TakesCopy, Drops, TakesLease, Loses, Damages, MarksBad, Applies, Seals, Unseals, RollsBack, called, LeadsTo, KeepsSeal, KeepSeal}
use Rattle.gs_store.proofs.Laws.{Holds, of_ok, of_cond, of_unless, of_again, of_raised, replaced_stays, removed_stays, risen_stays, marked_stays}
use Rattle.gs_store.proofs.Standing.{of_live, of_trash, same_ok}
use Rattle.gs_store.proofs.Copying.{of_copied}

abbrev Stood : ℕ → ℕ → List Edit → Slot → Type 0
Stood size limit xs s = StoodFor size limit (sealed_of s) xs

-- a seal that is changed and stood for the same
on_in : (size limit : ℕ) (xs : List Edit) (f : Sealed → Sealed) (o : Option Sealed) (trash : Option State) → ((t : Sealed) → StandsFor size limit (where_sealed t) xs → StandsFor size limit (where_sealed (f t)) xs) →
    StoodFor size limit (seal_in o trash) xs → StoodFor size limit (seal_in (on_seal f o) trash) xs
on_in size limit xs f None trash kept stood = stood
on_in size limit xs f (Some t) trash kept stood = kept t stood

live_in_stood : (size limit : ℕ) (xs : List Edit) (f : Sealed → Sealed) (l : Live) (r : State) (trash : Option State) → r.sealed ≡ on_seal f l.replica.sealed → ((t : Sealed) → StandsFor size limit (where_sealed t) xs → StandsFor size limit (where_sealed (f t)) xs) →
    StoodFor size limit (seal_in l.replica.sealed trash) xs → StoodFor size limit (seal_in r.sealed trash) xs
live_in_stood size limit xs f l r trash is kept stood = subst (λ (o : Option Sealed). StoodFor size limit (seal_in o trash) xs) (sym is) (on_in size limit xs f l.replica.sealed trash kept stood)

applied_stood : (size limit : ℕ) (xs : List Edit) (stamp : Stamp) (number : ℕ) (req : ReqId) (op : Op) (bytes : List ℕ) (s : Slot) (live : Option Live) → StoodFor size limit (seal_of live s.trash) xs → Holds (Stood size limit xs) (apply_to stamp number req op bytes s live)
applied_stood size limit xs stamp number req op bytes s None stood = tt
applied_stood size limit xs stamp number req op bytes s (Some l) stood =
    of_live (Stood size limit xs) s l.bad (replicas.apply stamp number req op bytes l.replica)
    (λ r e. live_in_stood size limit xs (touch_seal req op bytes l.replica.held) l r s.trash (seal_ok _ _ r e).1 (λ t w. record { block = w.block; chunk = w.chunk; taken = w.taken; count = w.count; done = w.done; bytes = w.bytes }) stood)

trash_stood : (size limit : ℕ) (xs : List Edit) (index : ℕ) (o : Option Sealed) (r : State) → r.sealed ≡ on_seal (damage_seal index) o → StoodFor size limit o xs → StoodFor size limit r.sealed xs
trash_stood size limit xs index None r is stood = elim stood [ ]
trash_stood size limit xs index (Some t) r is stood = subst (λ (o : Option Sealed). StoodFor size limit o xs) (sym is) (damage_stood size limit xs index t stood)

damaged_stood : (size limit : ℕ) (xs : List Edit) (index : ℕ) (s : Slot) (live : Option Live) (trash : Option State) → s.live ≡ live → s.trash ≡ trash → StoodFor size limit (seal_of live trash) xs → Holds (Stood size limit xs) (damage_of index s live trash)
damaged_stood size limit xs index s None None live_is trash_is stood = tt
damaged_stood size limit xs index s None (Some t) live_is trash_is stood =
    of_trash (Stood size limit xs) s (replicas.damage index t)
    (λ r e. subst (λ (o : Option Live). StoodFor size limit (seal_of o (Some r)) xs) (sym live_is) (trash_stood size limit xs index t.sealed r (seal_ok _ _ r e).1 stood))
damaged_stood size limit xs index s (Some l) trash live_is trash_is stood =
    of_live (Stood size limit xs) s l.bad (replicas.damage index l.replica)
    (λ r e. live_in_stood size limit xs (damage_seal index) l r s.trash (seal_ok _ _ r e).1 (λ t w. damage_stood size limit xs index t w)
    (subst (λ (o : Option State). StoodFor size limit (seal_in l.replica.sealed o) xs) (sym trash_is) stood))

same_stood : (size limit : ℕ) (xs : List Edit) (s x : Slot) → sealed_of x ≡ sealed_of s → Stood size limit xs s → Stood size limit xs x
same_stood size limit xs s x is stood = subst (λ (o : Option Sealed). StoodFor size limit o xs) (sym is) stood

raised_stood : (size limit : ℕ) (xs : List Edit) (stamp : Stamp) (carried : Bool) (r : State) (s : Slot) → r.sealed ≡ None → Stood size limit xs s → Holds (Stood size limit xs) (cond (is_before s.promise stamp) (Ok (replaced stamp carried r s)) (again stamp s))
raised_stood size limit xs stamp carried r s is stood =
    of_raised (Stood size limit xs) stamp carried r s stood (λ _. same_stood size limit xs s (replaced stamp carried r s) (replaced_stays stamp carried r s is) stood)

kept_seal : (size limit : ℕ) (xs : List Edit) (c : Call) (s : Slot) → KeepsSeal c → Stood size limit xs s → Holds (Stood size limit xs) (called size limit c s)
kept_seal size limit xs (Creates stamp) s kept stood = raised_stood size limit xs stamp false (record { held = edits.fresh size limit stamp; sealed = None }) s refl stood
kept_seal size limit xs (Advances stamp) s kept stood =
    of_unless (Stood size limit xs) (first_of (unless_live s.live ∷ if_bad s.live ∷ when (is_before stamp s.promise) refusals.Old ∷ [])) (risen stamp s)
    (λ none. same_stood size limit xs s (risen stamp s) (risen_stays stamp s) stood)
kept_seal size limit xs (CopiesIn stamp image None) s kept stood =
    of_cond (Stood size limit xs) (is_before s.promise stamp) (copied_in size limit stamp image None s) (again stamp s)
    (λ above. of_copied (Stood size limit xs) size limit stamp image None s
    (λ p m. subst (λ (o : Option State). Stood size limit xs (in_trash o (replaced stamp false p.0 s))) (sym (same_ok None p.1 m.trash))
    (same_stood size limit xs s (replaced stamp false p.0 s) (replaced_stays stamp false p.0 s (seal_ok _ _ p.0 m.live).1) stood)))
    (λ _. of_again (Stood size limit xs) stamp s stood)
kept_seal size limit xs (CopiesIn stamp image (Some i)) s kept stood = elim kept [ ]
kept_seal size limit xs (TakesCopy h) s kept stood = raised_stood size limit xs h.promise false (record { held = h; sealed = None }) s refl stood
kept_seal size limit xs (Drops promise) s kept stood = of_unless (Stood size limit xs) (first_of (unless_promised promise s ∷ unless_live s.live ∷ [])) (removed s) (λ _. same_stood size limit xs s (removed s) (removed_stays s) stood)
kept_seal size limit xs (TakesLease stamp) s kept stood = of_unless (Stood size limit xs) (first_of (check_grant stamp s ∷ when (is_taken stamp s.taken) refusals.Old ∷ [])) (taking stamp s) (λ _. stood)
kept_seal size limit xs Loses s kept stood = elim kept [ ]
kept_seal size limit xs (Damages index) s kept stood = damaged_stood size limit xs index s s.live s.trash refl refl stood
kept_seal size limit xs (MarksBad index) s kept stood = same_stood size limit xs s (mark_bad index s) (marked_stays index s) stood
kept_seal size limit xs (Applies stamp number req op bytes) s kept stood = applied_stood size limit xs stamp number req op bytes s s.live stood
kept_seal size limit xs Seals s kept stood = elim kept [ ]
kept_seal size limit xs Unseals s kept stood = elim kept [ ]
kept_seal size limit xs (RollsBack epoch) s kept stood = elim kept [ ]

pub run_stood : (size limit : ℕ) (xs : List Edit) (s end : Slot) (calls : List Call) → KeepSeal calls → LeadsTo size limit s calls end → Stood size limit xs s → Stood size limit xs end
run_stood size limit xs s end [] kept leads stood = subst (Stood size limit xs) (sym leads) stood
run_stood size limit xs s end (c ∷ calls) kept leads stood =
    let next : Slot = leads.0 in
    run_stood size limit xs next end calls kept.1 leads.2 (of_ok (Stood size limit xs) (called size limit c s) next leads.1 (kept_seal size limit xs c s kept.0 stood))

pub prepared_stood : (size limit : ℕ) (xs : List Edit) (s : Slot) (live : Option Live) → s.live ≡ live → LiveStandsFor size limit live xs → Stood size limit xs (prepared s)
prepared_stood size limit xs s None is stands = elim stands [ ]
prepared_stood size limit xs s (Some l) is stands =
    subst (λ (o : Option Live). StoodFor size limit (seal_of (sealed_live o) None) xs) (sym is) (stood_there size limit l.replica.held xs stands)

abbrev pub Back : ℕ → ℕ → List Edit → Slot → Type 0
Back size limit xs x = LiveStandsFor size limit x.live xs × LiveUndamaged x.live

back_case : (size limit : ℕ) (xs : List Edit) (promise : Stamp) (s : Slot) (o : Option Sealed) (m : Result State Refusal) → roll_back_to promise o ≡ m → StoodFor size limit o xs → is_some (rolled_to promise m s).live ≡ true → Back size limit xs (rolled_to promise m s)
back_case size limit xs promise s o (Ok r) is stood live = (let b = rolled_back size limit xs promise o r stood is in (b.stands, b.undamaged))
back_case size limit xs promise s o (Err e) is stood live = absurd (cc)

pub back : (size limit : ℕ) (xs : List Edit) (epoch : ℕ) (s : Slot) → Stood size limit xs s → is_some (rolled_to (later s.promise (start_of epoch)) (roll_back_to (later s.promise (start_of epoch)) (sealed_of s)) s).live ≡ true →
    Back size limit xs (rolled_to (later s.promise (start_of epoch)) (roll_back_to (later s.promise (start_of epoch)) (sealed_of s)) s)
back size limit xs epoch s stood live = back_case size limit xs (later s.promise (start_of epoch)) s (sealed_of s) (roll_back_to (later s.promise (start_of epoch)) (sealed_of s)) refl stood live
