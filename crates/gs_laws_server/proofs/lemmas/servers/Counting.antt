-- Counts of live replicas, call by call.
use Rattle.std.proofs.Common.{◌≡◌, ◌≤◌, ℕ, ◌+◌, true, false, cond, List, [], ◌∷◌, Option, Some, None, refl, sym, ap, subst, ◌∙◌, true≢false, arith}
use Rattle.std.specs.Prelude.{Result, Ok, Err, is_some}
use Rattle.std.proofs.lemmas.List.Elements.{All-weaker}
use Rattle.gs_base.specs.declared.numbers.Stamp.{Stamp}
use Rattle.gs_base.specs.declared.numbers.ReqId.{ReqId}
use Rattle.gs_base.specs.declared.refusal.Refusal.{Refusal}
use Rattle.gs_base.specs.declared.refusal.Refusal.TheVariants as refusals
use Rattle.gs_base.specs.Stamps.{is_before}
use Rattle.gs_block.specs.Stored.{Stored}
use Rattle.gs_block.specs.Edits as blocks
use Rattle.gs_replica.specs.Edits.{fresh}
use Rattle.gs_replica.specs.Edits as edits
use Rattle.gs_replica.specs.Held.{Held}
use Rattle.gs_replica.specs.Seals.{State}
use Rattle.gs_replica.specs.Seals as replicas
use Rattle.gs_replica.specs.declared.op.Op.{Op}
use Rattle.gs_replica.proofs.Listing.{seal_ok}
use Rattle.gs_store.specs.Slots.{Live, Slot, first_of, when, unless_live, unless_promised, if_bad, check_grant, is_taken, taking, lost, removed, risen, replaced, again, live_under, marked_live, damage_of}
use Rattle.gs_store.specs.Serving.{apply, apply_to}
use Rattle.gs_store.specs.Moves.{copied_in}
use Rattle.gs_store.specs.Learning.{sealed_live, unsealed_live}
use Rattle.gs_store.specs.Calls.{Call, Creates, Advances, CopiesIn, TakesCopy, Drops, TakesLease, Loses, Damages, MarksBad, Applies, Seals, Unseals, RollsBack, called}
use Rattle.gs_store.proofs.Laws.{Holds, not_before_itself, of_ok, of_cond, of_unless, of_again, of_raised}
use Rattle.gs_store.proofs.Standing.{of_live, of_trash, same_ok}
use Rattle.gs_store.proofs.Copying.{of_copied, trash_leaves}
use Rattle.gs_server_lease.specs.declared.lease.Open.{Open}
use Rattle.gs_server.specs.Runs.{BecomesBy}
use Rattle.gs_laws_server.specs.servers.Waiting.{AreCounted}

-- the numbers of some edits are at most the count of a live replica, if one is
abbrev pub AreApplied : Option Live → List (ℕ × Open) → Type 0
AreApplied None edits = Unit {0}
AreApplied (Some l) edits = AreCounted l.replica.held.count edits

-- the count falls nowhere
abbrev pub Counts : Slot → Slot → Type 0
Counts s t = t.promise ≡ s.promise → (edits : List (ℕ × Open)) → AreApplied s.live edits → AreApplied t.live edits

higher : (count number : ℕ) (edits : List (ℕ × Open)) → count ≤ number → AreCounted count edits → AreCounted number edits
higher count number edits up each = All-weaker (λ (e : ℕ × Open). e.0 ≤ count) (λ e. e.0 ≤ number) (λ e low. up_to e.0 low) edits each
  where
    up_to : (n : ℕ) → n ≤ count → n ≤ number
    up_to n low = omega arith

at_most : (count number : ℕ) → number ≡ count → count ≤ number
at_most count number is = omega arith

one_more : (count number : ℕ) → number ≡ count + 1 → count ≤ number
one_more count number is = omega arith

-- ---- what edits and damage make of a count

damaged_count : (h : Held) (m : Result Stored Refusal) (h2 : Held) → edits.on_chunk h m ≡ Ok h2 → h2.count ≡ h.count
damaged_count h (Ok s) h2 is = ap (λ (x : Held). x.count) (same_ok (record { chunk = s; count = h.count; done = h.done; promise = h.promise }) h2 is)
damaged_count h (Err e) h2 is = absurd (cc)

edited_count : (h : Held) (req : ReqId) (op : Op) (o : Option Refusal) (m : Result Stored Refusal) (h2 : Held) → edits.unless_refused o (edits.with_edit h req op m) ≡ Ok h2 → h2.count ≡ h.count + 1
edited_count h req op (Some e) m h2 is = absurd (cc)
edited_count h req op None (Err e) h2 is = absurd (cc)
edited_count h req op None (Ok s) h2 is = ap (λ (x : Held). x.count) (same_ok _ h2 is)

damage_counts : (index : ℕ) (s : Slot) (live : Option Live) (trash : Option State) → s.live ≡ live → Holds (Counts s) (damage_of index s live trash)
damage_counts index s None None is = tt
damage_counts index s None (Some r) is = of_trash (Counts s) s (replicas.damage index r) (λ q e same xs each. each)
damage_counts index s (Some l) trash is =
    of_live (Counts s) s l.bad (replicas.damage index l.replica)
    (λ r e same xs each. higher l.replica.held.count r.held.count xs (at_most l.replica.held.count r.held.count (damaged_count l.replica.held (blocks.damage l.replica.held.chunk index) r.held (seal_ok _ _ r e).0)) (subst (λ o. AreApplied o xs) is each))

-- an edit that is applied makes the count the next one
abbrev pub CountsNext : ℕ → Slot → Type 0
CountsNext number t = (edits : List (ℕ × Open)) → AreCounted number edits → AreApplied t.live edits

edit_counts_next : (stamp : Stamp) (number : ℕ) (req : ReqId) (op : Op) (bytes : List ℕ) (s : Slot) (l : Live) → Holds (CountsNext (l.replica.held.count + 1)) (apply_to stamp number req op bytes s (Some l))
edit_counts_next stamp number req op bytes s l =
    of_live (CountsNext (l.replica.held.count + 1)) s l.bad (replicas.apply stamp number req op bytes l.replica)
    (λ r e xs each.
    let h : Held = l.replica.held in
    higher (h.count + 1) r.held.count xs (at_most (h.count + 1) r.held.count (edited_count h req op (edits.judged stamp number req h) (edits.edited op bytes h.chunk) r.held (seal_ok _ _ r e).0)) each)

pub applied_counts : (stamp : Stamp) (number : ℕ) (req : ReqId) (op : Op) (bytes : List ℕ) (s t : Slot) (l : Live) → s.live ≡ Some l → apply stamp number req op bytes s ≡ Ok t → CountsNext (l.replica.held.count + 1) t
applied_counts stamp number req op bytes s t l lives is =
    of_ok (CountsNext (l.replica.held.count + 1)) (apply_to stamp number req op bytes s (Some l)) t (subst (λ o. apply_to stamp number req op bytes s o ≡ Ok t) lives is) (edit_counts_next stamp number req op bytes s l)

edit_counts : (stamp : Stamp) (number : ℕ) (req : ReqId) (op : Op) (bytes : List ℕ) (s : Slot) (live : Option Live) → s.live ≡ live → Holds (Counts s) (apply_to stamp number req op bytes s live)
edit_counts stamp number req op bytes s None is = tt
edit_counts stamp number req op bytes s (Some l) is =
    of_live (Counts s) s l.bad (replicas.apply stamp number req op bytes l.replica)
    (λ r e same xs each.
    let h : Held = l.replica.held in
    higher h.count r.held.count xs (one_more h.count r.held.count (edited_count h req op (edits.judged stamp number req h) (edits.edited op bytes h.chunk) r.held (seal_ok _ _ r e).0)) (subst (λ o. AreApplied o xs) is each))

-- ---- each call but a rollback

abbrev pub IsNoRollback : Call → Type 0
IsNoRollback (RollsBack epoch) = ⊥
IsNoRollback c = Unit {0}

abbrev pub NoRollback : Option Call → Type 0
NoRollback None = Unit {0}
NoRollback (Some c) = IsNoRollback c

-- what is made under a greater promise isn't under the same
not_the_same : {Z : Type 0} (a b : Stamp) → is_before a b ≡ true → b ≡ a → Z
not_the_same a b above same = absurd (true≢false (sym above ∙ ap (is_before a) same ∙ not_before_itself a))

raised_counts : (stamp : Stamp) (r : State) (s : Slot) → Holds (Counts s) (cond (is_before s.promise stamp) (Ok (replaced stamp false r s)) (again stamp s))
raised_counts stamp r s = of_raised (Counts s) stamp false r s (λ same xs each. each) (λ above same xs each. not_the_same s.promise stamp above same)

under_counts : (stamp : Stamp) (live : Option Live) (xs : List (ℕ × Open)) → AreApplied live xs → AreApplied (live_under stamp live) xs
under_counts stamp None xs each = tt
under_counts stamp (Some l) xs each = each

marked_counts : (index : ℕ) (live : Option Live) (xs : List (ℕ × Open)) → AreApplied live xs → AreApplied (marked_live index live) xs
marked_counts index None xs each = tt
marked_counts index (Some l) xs each = each

sealed_counts : (live : Option Live) (xs : List (ℕ × Open)) → AreApplied live xs → AreApplied (sealed_live live) xs
sealed_counts None xs each = tt
sealed_counts (Some l) xs each = each

unsealed_counts : (live : Option Live) (xs : List (ℕ × Open)) → AreApplied live xs → AreApplied (unsealed_live live) xs
unsealed_counts None xs each = tt
unsealed_counts (Some l) xs each = each

call_counts : (block chunk : ℕ) (c : Call) (s : Slot) → IsNoRollback c → Holds (Counts s) (called block chunk c s)
call_counts block chunk (Creates stamp) s none = raised_counts stamp (record { held = fresh block chunk stamp; sealed = None }) s
call_counts block chunk (Advances stamp) s none =
    of_unless (Counts s) (first_of (unless_live s.live ∷ if_bad s.live ∷ when (is_before stamp s.promise) refusals.Old ∷ [])) (risen stamp s) (λ _ same xs each. under_counts stamp s.live xs each)
call_counts block chunk (CopiesIn stamp image sealed) s none =
    of_cond (Counts s) (is_before s.promise stamp) (copied_in block chunk stamp image sealed s) (again stamp s)
    (λ above. of_copied (Counts s) block chunk stamp image sealed s
    (λ p m same xs each. not_the_same s.promise stamp above (sym (trash_leaves (λ x _ _. x) p.1 (replaced stamp (is_some sealed) p.0 s)) ∙ same)))
    (λ _. of_again (Counts s) stamp s (λ same xs each. each))
call_counts block chunk (TakesCopy h) s none = raised_counts h.promise (record { held = h; sealed = None }) s
call_counts block chunk (Drops promise) s none = of_unless (Counts s) (first_of (unless_promised promise s ∷ unless_live s.live ∷ [])) (removed s) (λ _ same xs each. tt)
call_counts block chunk (TakesLease stamp) s none = of_unless (Counts s) (first_of (check_grant stamp s ∷ when (is_taken stamp s.taken) refusals.Old ∷ [])) (taking stamp s) (λ _ same xs each. each)
call_counts block chunk Loses s none =
    of_cond (Counts s) (is_some s.live) (Ok (lost s)) (cond (is_some s.trash) (Ok (lost s)) (Err refusals.NoReplica)) (λ _ same xs each. tt)
    (λ _. of_cond (Counts s) (is_some s.trash) (Ok (lost s)) (Err refusals.NoReplica) (λ _ same xs each. tt) (λ _. tt))
call_counts block chunk (Damages index) s none = damage_counts index s s.live s.trash refl
call_counts block chunk (MarksBad index) s none = λ same xs each. marked_counts index s.live xs each
call_counts block chunk (Applies stamp number req op bytes) s none = edit_counts stamp number req op bytes s s.live refl
call_counts block chunk Seals s none = λ same xs each. sealed_counts s.live xs each
call_counts block chunk Unseals s none = λ same xs each. unsealed_counts s.live xs each
call_counts block chunk (RollsBack epoch) s none = elim none [ ]

pub counts : (block chunk : ℕ) (o : Option Call) (s t : Slot) → NoRollback o → BecomesBy block chunk s o t → Counts s t
counts block chunk None s t none is = λ same xs each. subst (λ (x : Slot). AreApplied x.live xs) (sym is) each
counts block chunk (Some c) s t none is = of_ok (Counts s) (called block chunk c s) t is (call_counts block chunk c s none)
