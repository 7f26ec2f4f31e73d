-- What is sealed of a handle through runs of calls that damage touched blocks alone.
use Rattle.std.proofs.Common.{◌≡◌, ◌∙◌, ℕ, Bool, true, false, cond, List, [], ◌∷◌, Option, Some, None, refl, sym, ap, subst}
use Rattle.std.specs.Prelude.{Ok, is_some}
use Rattle.gs_base.specs.declared.numbers.Stamp.{Stamp}
use Rattle.gs_base.specs.Stamps.{is_before}
use Rattle.gs_base.specs.declared.refusal.Refusal.TheVariants as refusals
use Rattle.gs_block.specs.Stored.{Stored}
use Rattle.gs_block.specs.Edits.{unless_damaged}
use Rattle.gs_block.specs.Edits as blocks
use Rattle.gs_block.specs.Images.{damage_before, or_same}
use Rattle.gs_replica.specs.Edits as edits
use Rattle.gs_replica.specs.Seals.{Sealed, State, on_seal, damage_seal, roll_back_to, lowest_damaged}
use Rattle.gs_replica.specs.Seals as replicas
use Rattle.gs_replica.specs.Copies.{SealedImage, as_sealed}
use Rattle.gs_replica.specs.Stands.{IsTouched}
use Rattle.gs_replica.proofs.Listing.{seal_ok}
use Rattle.gs_store.specs.Slots.{Live, Slot, damage_of, when, first_of, unless_live, unless_promised, if_bad, check_grant, is_taken, taking, removed, risen, again, replaced, seal_in, seal_of, sealed_of}
use Rattle.gs_store.specs.Moves.{in_trash, copied_in, sound_image, unless_lost}
use Rattle.gs_store_seal.specs.Rollback.{later}
use Rattle.gs_store.specs.Learning.{start_of, rolled_to, rolled_back, sealed_live, prepared}
use Rattle.gs_store.specs.Standing.{LiveUndamaged, struck_in}
use Rattle.gs_store.specs.Calls.{Call, Creates, Advances, CopiesIn, TakesCopy, Drops, TakesLease, Loses, Damages, MarksBad, Applies, Seals, Unseals, RollsBack, called, LeadsSparing, IsSparing, KeepsSeal, KeepSeal}
use Rattle.gs_store.proofs.Laws.{Holds, of_ok, of_cond, of_unless, of_again, of_raised, replaced_stays, removed_stays, risen_stays, marked_stays, edited_stays}
use Rattle.gs_store.proofs.Standing.{of_live, of_trash, same_ok}
use Rattle.gs_store.proofs.Copying.{of_copied}

abbrev Same : Slot → Slot → Type 0
Same s x = sound_image (sealed_of x) ≡ sound_image (sealed_of s)

-- damage of a touched block leaves what undoing gives
spared : (index : ℕ) (o : Option Sealed) → IsTouched o index → sound_image (on_seal (damage_seal index) o) ≡ sound_image o
spared index None touched = refl
spared index (Some t) touched =
    let e : damage_before index t.touched t.undone ≡ t.undone = ap (λ (b : Bool). cond b t.undone (or_same (blocks.damage t.undone index) t.undone)) touched in
    ap (λ (u : Stored). sound_image (Some (record { undone = u; count = t.count; done = t.done; stamp = t.stamp; touched = t.touched; first = t.first }))) e

spared_in : (index : ℕ) (o : Option Sealed) (trash : Option State) → IsTouched o index → sound_image (seal_in (on_seal (damage_seal index) o) trash) ≡ sound_image (seal_in o trash)
spared_in index None trash touched = refl
spared_in index (Some t) trash touched = spared index (Some t) touched

damaged_same : (index : ℕ) (s : Slot) (live : Option Live) (trash : Option State) → s.live ≡ live → s.trash ≡ trash → IsTouched (struck_in live trash) index
    → Holds (λ x. sound_image (sealed_of x) ≡ sound_image (seal_of live trash)) (damage_of index s live trash)
damaged_same index s None None live_is trash_is touched = tt
damaged_same index s None (Some t) live_is trash_is touched =
    of_trash (λ x. sound_image (sealed_of x) ≡ sound_image t.sealed) s (replicas.damage index t)
    (λ r e. subst (λ (o : Option Live). sound_image (seal_of o (Some r)) ≡ sound_image t.sealed) (sym live_is) (ap sound_image (seal_ok _ _ r e).1 ∙ spared index t.sealed touched))
damaged_same index s (Some l) trash live_is trash_is touched =
    of_live (λ x. sound_image (sealed_of x) ≡ sound_image (seal_in l.replica.sealed trash)) s l.bad (replicas.damage index l.replica)
    (λ r e. ap (λ (o : Option Sealed). sound_image (seal_in o s.trash)) (seal_ok _ _ r e).1 ∙ spared_in index l.replica.sealed s.trash touched ∙ ap (λ (t : Option State). sound_image (seal_in l.replica.sealed t)) trash_is)

raised_same : (stamp : Stamp) (carried : Bool) (r : State) (s : Slot) → r.sealed ≡ None → Holds (Same s) (cond (is_before s.promise stamp) (Ok (replaced stamp carried r s)) (again stamp s))
raised_same stamp carried r s is = of_raised (Same s) stamp carried r s refl (λ _. ap sound_image (replaced_stays stamp carried r s is))

call_same : (block chunk : ℕ) (c : Call) (s : Slot) → KeepsSeal c → IsSparing c s → Holds (Same s) (called block chunk c s)
call_same block chunk (Creates stamp) s kept spares = raised_same stamp false (record { held = edits.fresh block chunk stamp; sealed = None }) s refl
call_same block chunk (Advances stamp) s kept spares =
    of_unless (Same s) (first_of (unless_live s.live ∷ if_bad s.live ∷ when (is_before stamp s.promise) refusals.Old ∷ [])) (risen stamp s) (λ _. ap sound_image (risen_stays stamp s))
call_same block chunk (CopiesIn stamp image None) s kept spares =
    of_cond (Same s) (is_before s.promise stamp) (copied_in block chunk stamp image None s) (again stamp s)
    (λ above. of_copied (Same s) block chunk stamp image None s
    (λ p m. subst (λ (o : Option State). Same s (in_trash o (replaced stamp false p.0 s))) (sym (same_ok None p.1 m.trash)) (ap sound_image (replaced_stays stamp false p.0 s (seal_ok _ _ p.0 m.live).1))))
    (λ _. of_again (Same s) stamp s refl)
call_same block chunk (CopiesIn stamp image (Some i)) s kept spares = elim kept [ ]
call_same block chunk (TakesCopy h) s kept spares = raised_same h.promise false (record { held = h; sealed = None }) s refl
call_same block chunk (Drops promise) s kept spares = of_unless (Same s) (first_of (unless_promised promise s ∷ unless_live s.live ∷ [])) (removed s) (λ _. ap sound_image (removed_stays s))
call_same block chunk (TakesLease stamp) s kept spares = of_unless (Same s) (first_of (check_grant stamp s ∷ when (is_taken stamp s.taken) refusals.Old ∷ [])) (taking stamp s) (λ _. refl)
call_same block chunk Loses s kept spares = elim kept [ ]
call_same block chunk (Damages index) s kept spares = damaged_same index s s.live s.trash refl refl spares
call_same block chunk (MarksBad index) s kept spares = ap sound_image (marked_stays index s)
call_same block chunk (Applies stamp number req op bytes) s kept spares = edited_stays stamp number req op bytes s s.live
call_same block chunk Seals s kept spares = elim kept [ ]
call_same block chunk Unseals s kept spares = elim kept [ ]
call_same block chunk (RollsBack epoch) s kept spares = elim kept [ ]

pub run_same : (block chunk : ℕ) (s end : Slot) (calls : List Call) → KeepSeal calls → LeadsSparing block chunk s calls end → Same s end
run_same block chunk s end [] kept leads = ap (λ (x : Slot). sound_image (sealed_of x)) leads
run_same block chunk s end (c ∷ calls) kept leads =
    run_same block chunk leads.0 end calls kept.1 leads.3 ∙ of_ok (Same s) (called block chunk c s) leads.0 leads.1 (call_same block chunk c s kept.0 leads.2)

live_where : (p : Stamp) (d : Option ℕ) (r : State) (i : SealedImage) (s : Slot) → is_some (rolled_to p (unless_damaged d r) s).live ≡ is_some (unless_lost d i)
live_where p None r i s = refl
live_where p (Some block) r i s = refl

live_then : (p : Stamp) (o : Option Sealed) (s : Slot) → is_some (rolled_to p (roll_back_to p o) s).live ≡ is_some (sound_image o)
live_then p None s = refl
live_then p (Some t) s = live_where p (lowest_damaged t.undone) _ (as_sealed t) s

sound_at_seal : (live : Option Live) → is_some live ≡ true → LiveUndamaged live → is_some (sound_image (seal_of (sealed_live live) None)) ≡ true
sound_at_seal None some undamaged = absurd (cc)
sound_at_seal (Some l) some undamaged = ap (λ (d : Option ℕ). is_some (unless_lost d (as_sealed (replicas.sealed_of l.replica.held)))) undamaged

pub spared_back : (block chunk epoch : ℕ) (s end : Slot) (calls : List Call) → is_some s.live ≡ true → LiveUndamaged s.live → KeepSeal calls → LeadsSparing block chunk (prepared s) calls end
    → is_some (rolled_back epoch end).live ≡ true
spared_back block chunk epoch s end calls some undamaged kept leads =
    live_then (later end.promise (start_of epoch)) (sealed_of end) end
    ∙ ap is_some (run_same block chunk (prepared s) end calls kept leads)
    ∙ sound_at_seal s.live some undamaged
