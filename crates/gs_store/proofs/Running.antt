-- Runs of calls: promises that rise, and leases that are spent.
use Rattle.std.proofs.Common.{◌≡◌, ℕ, Bool, true, false, cond, List, [], ◌∷◌, Option, Some, None, refl, sym, ap, subst, ◌∙◌, arith, inl, inr, true≢false}
use Rattle.std.specs.Prelude.{Result, Ok, Err, is_some, not, ◌⊎◌}
use Rattle.std.specs.Result.{result_ok}
use Rattle.std.proofs.lemmas.Bool.Decides.{nat_tests}
use Rattle.gs_base.specs.declared.numbers.Stamp.{Stamp}
use Rattle.gs_base.specs.declared.numbers.ReqId.{ReqId}
use Rattle.gs_base.specs.Stamps.{is_before, is_same}
use Rattle.gs_base.specs.declared.refusal.Refusal.{Refusal}
use Rattle.gs_base.specs.declared.refusal.Refusal.TheVariants as refusals
use Rattle.gs_replica.specs.declared.op.Op.{Op}
use Rattle.gs_replica.specs.Edits.{fresh}
use Rattle.gs_replica.specs.Seals.{State, roll_back_to}
use Rattle.gs_replica.specs.Seals as replicas
use Rattle.gs_store.specs.Slots.{Live, Slot, take_lease, damage_of, mark_bad, when, unless, first_of, unless_live, unless_promised, if_bad, check_grant, is_taken, taking, lost, removed, risen, again, replaced, sealed_of}
use Rattle.gs_store.specs.Serving.{apply_to}
use Rattle.gs_store.specs.Moves.{copied_in, in_trash}
use Rattle.gs_store_seal.specs.Rollback.{later}
use Rattle.gs_store.specs.Learning.{start_of, rolled_to}
use Rattle.gs_store.specs.Calls.{Call, Creates, Advances, CopiesIn, TakesCopy, Drops, TakesLease, Loses, Damages, MarksBad, Applies, Seals, Unseals, RollsBack, called, LeadsTo, IsNoLease}
use Rattle.gs_store.proofs.Laws.{not_before_itself, not_both, not_below, Holds, of_ok, of_cond, of_unless, of_again, of_raised, not_old}
use Rattle.gs_store.proofs.Standing.{of_live, of_trash}
use Rattle.gs_store.proofs.Copying.{of_copied}

-- a lease is taken of the promised stamp alone
pub record Leased (s s2 : Slot) : Type 0 where
  pub stamp : Stamp
  pub promised : is_same stamp s.promise ≡ true
  pub taken : s2.taken ≡ Some stamp

-- what each call does to the promise and to the lease that was taken last
pub record Goes (s s2 : Slot) : Type 0 where
  pub rises : is_before s2.promise s.promise ≡ false
  pub taken : (s2.taken ≡ s.taken) ⊎ Leased s s2

stays : (s s2 : Slot) → s2.promise ≡ s.promise → s2.taken ≡ s.taken → Goes s s2
stays s s2 promise taken = record { rises = subst (λ (p : Stamp). is_before p s.promise ≡ false) (sym promise) (not_before_itself s.promise); taken = inl taken }

itself : (s : Slot) → Goes s s
itself s = stays s s refl refl

rises_to : (s s2 : Slot) → is_before s.promise s2.promise ≡ true → s2.taken ≡ s.taken → Goes s s2
rises_to s s2 above taken = record { rises = not_both s.promise s2.promise above; taken = inl taken }

raised : (stamp : Stamp) (carried : Bool) (r : State) (s : Slot) → Holds (Goes s) (cond (is_before s.promise stamp) (Ok (replaced stamp carried r s)) (again stamp s))
raised stamp carried r s = of_raised (Goes s) stamp carried r s (itself s) (λ above. rises_to s (replaced stamp carried r s) above refl)

in_trash_goes : (s x : Slot) (o : Option State) → Goes s x → Goes s (in_trash o x)
in_trash_goes s x None g = g
in_trash_goes s x (Some t) g = record { rises = g.rises; taken = taken_case g.taken }
  where
    taken_case : (x.taken ≡ s.taken) ⊎ Leased s x → (x.taken ≡ s.taken) ⊎ Leased s (in_trash (Some t) x)
    taken_case (inl is) = inl is
    taken_case (inr l) = inr (record { stamp = l.stamp; promised = l.promised; taken = l.taken })

pub is_granted : (stamp : Stamp) (s : Slot) (o : Option Refusal) (test : Bool) → first_of (o ∷ when (not test) (refusals.Stamp s.promise) ∷ []) ≡ None → test ≡ true
is_granted stamp s None true e = refl
is_granted stamp s None false e = absurd (cc)
is_granted stamp s (Some f) test e = absurd (cc)

pub first_none : (o p : Option Refusal) → first_of (o ∷ p ∷ []) ≡ None → o ≡ None
first_none None p e = refl
first_none (Some f) p e = absurd (cc)

damaged : (index : ℕ) (s : Slot) (live : Option Live) (trash : Option State) → Holds (Goes s) (damage_of index s live trash)
damaged index s None None = tt
damaged index s None (Some r) = of_trash (Goes s) s (replicas.damage index r) (λ q e. stays s _ refl refl)
damaged index s (Some l) trash = of_live (Goes s) s l.bad (replicas.damage index l.replica) (λ q e. stays s _ refl refl)

applied : (stamp : Stamp) (number : ℕ) (req : ReqId) (op : Op) (bytes : List ℕ) (s : Slot) (live : Option Live) → Holds (Goes s) (apply_to stamp number req op bytes s live)
applied stamp number req op bytes s None = tt
applied stamp number req op bytes s (Some l) = of_live (Goes s) s l.bad (replicas.apply stamp number req op bytes l.replica) (λ q e. stays s _ refl refl)

rolled : (m : Result State Refusal) (epoch : ℕ) (s : Slot) → Goes s (rolled_to (later s.promise (start_of epoch)) m s)
rolled (Ok r) epoch s = record { rises = not_below s.promise (start_of epoch); taken = inl refl }
rolled (Err e) epoch s = stays s (lost s) refl refl

pub goes : (block chunk : ℕ) (c : Call) (s : Slot) → Holds (Goes s) (called block chunk c s)
goes block chunk (Creates stamp) s = raised stamp false (record { held = fresh block chunk stamp; sealed = None }) s
goes block chunk (Advances stamp) s =
    of_unless (Goes s) (first_of (unless_live s.live ∷ if_bad s.live ∷ when (is_before stamp s.promise) refusals.Old ∷ [])) (risen stamp s)
    (λ none. record { rises = not_old (unless_live s.live) (if_bad s.live) (is_before stamp s.promise) refusals.Old none; taken = inl refl })
goes block chunk (CopiesIn stamp image sealed) s =
    of_cond (Goes s) (is_before s.promise stamp) (copied_in block chunk stamp image sealed s) (again stamp s)
    (λ above. of_copied (Goes s) block chunk stamp image sealed s (λ p m. in_trash_goes s (replaced stamp (is_some sealed) p.0 s) p.1 (rises_to s (replaced stamp (is_some sealed) p.0 s) above refl)))
    (λ _. of_again (Goes s) stamp s (itself s))
goes block chunk (TakesCopy h) s = raised h.promise false (record { held = h; sealed = None }) s
goes block chunk (Drops promise) s = of_unless (Goes s) (first_of (unless_promised promise s ∷ unless_live s.live ∷ [])) (removed s) (λ _. stays s (removed s) refl refl)
goes block chunk (TakesLease stamp) s =
    of_unless (Goes s) (first_of (check_grant stamp s ∷ when (is_taken stamp s.taken) refusals.Old ∷ [])) (taking stamp s)
    (λ none. record {
      rises = not_before_itself s.promise;
      taken = inr (record { stamp = stamp; promised = is_granted stamp s (unless_live s.live) (is_same stamp s.promise) (first_none (check_grant stamp s) (when (is_taken stamp s.taken) refusals.Old) none); taken = refl });
    })
goes block chunk Loses s =
    of_cond (Goes s) (is_some s.live) (Ok (lost s)) (cond (is_some s.trash) (Ok (lost s)) (Err refusals.NoReplica)) (λ _. stays s (lost s) refl refl)
    (λ _. of_cond (Goes s) (is_some s.trash) (Ok (lost s)) (Err refusals.NoReplica) (λ _. stays s (lost s) refl refl) (λ _. tt))
goes block chunk (Damages index) s = damaged index s s.live s.trash
goes block chunk (MarksBad index) s = stays s (mark_bad index s) refl refl
goes block chunk (Applies stamp number req op bytes) s = applied stamp number req op bytes s s.live
goes block chunk Seals s = stays s _ refl refl
goes block chunk Unseals s = stays s _ refl refl
goes block chunk (RollsBack epoch) s = rolled (roll_back_to (later s.promise (start_of epoch)) (sealed_of s)) epoch s

-- no call but one changes which lease was taken last
in_trash_kept : (s x : Slot) (o : Option State) → x.taken ≡ s.taken → (in_trash o x).taken ≡ s.taken
in_trash_kept s x None is = is
in_trash_kept s x (Some t) is = is

abbrev Keeps : Slot → Slot → Type 0
Keeps s x = x.taken ≡ s.taken

damage_keeps : (index : ℕ) (s : Slot) (live : Option Live) (trash : Option State) → Holds (Keeps s) (damage_of index s live trash)
damage_keeps index s None None = tt
damage_keeps index s None (Some r) = of_trash (Keeps s) s (replicas.damage index r) (λ q e. refl)
damage_keeps index s (Some l) trash = of_live (Keeps s) s l.bad (replicas.damage index l.replica) (λ q e. refl)

apply_keeps : (stamp : Stamp) (number : ℕ) (req : ReqId) (op : Op) (bytes : List ℕ) (s : Slot) (live : Option Live) → Holds (Keeps s) (apply_to stamp number req op bytes s live)
apply_keeps stamp number req op bytes s None = tt
apply_keeps stamp number req op bytes s (Some l) = of_live (Keeps s) s l.bad (replicas.apply stamp number req op bytes l.replica) (λ q e. refl)

roll_keeps : (p : Stamp) (m : Result State Refusal) (s : Slot) → (rolled_to p m s).taken ≡ s.taken
roll_keeps p (Ok r) s = refl
roll_keeps p (Err e) s = refl

pub keeps : (block chunk : ℕ) (c : Call) (s : Slot) → IsNoLease c → Holds (Keeps s) (called block chunk c s)
keeps block chunk (Creates stamp) s none = of_raised (Keeps s) stamp false (record { held = fresh block chunk stamp; sealed = None }) s refl (λ _. refl)
keeps block chunk (Advances stamp) s none = of_unless (Keeps s) (first_of (unless_live s.live ∷ if_bad s.live ∷ when (is_before stamp s.promise) refusals.Old ∷ [])) (risen stamp s) (λ _. refl)
keeps block chunk (CopiesIn stamp image sealed) s none =
    of_cond (Keeps s) (is_before s.promise stamp) (copied_in block chunk stamp image sealed s) (again stamp s)
    (λ _. of_copied (Keeps s) block chunk stamp image sealed s (λ p m. in_trash_kept s (replaced stamp (is_some sealed) p.0 s) p.1 refl))
    (λ _. of_again (Keeps s) stamp s refl)
keeps block chunk (TakesCopy h) s none = of_raised (Keeps s) h.promise false (record { held = h; sealed = None }) s refl (λ _. refl)
keeps block chunk (Drops promise) s none = of_unless (Keeps s) (first_of (unless_promised promise s ∷ unless_live s.live ∷ [])) (removed s) (λ _. refl)
keeps block chunk (TakesLease stamp) s none = elim none [ ]
keeps block chunk Loses s none =
    of_cond (Keeps s) (is_some s.live) (Ok (lost s)) (cond (is_some s.trash) (Ok (lost s)) (Err refusals.NoReplica)) (λ _. refl)
    (λ _. of_cond (Keeps s) (is_some s.trash) (Ok (lost s)) (Err refusals.NoReplica) (λ _. refl) (λ _. tt))
keeps block chunk (Damages index) s none = damage_keeps index s s.live s.trash
keeps block chunk (MarksBad index) s none = refl
keeps block chunk (Applies stamp number req op bytes) s none = apply_keeps stamp number req op bytes s s.live
keeps block chunk Seals s none = refl
keeps block chunk Unseals s none = refl
keeps block chunk (RollsBack epoch) s none = roll_keeps (later s.promise (start_of epoch)) (roll_back_to (later s.promise (start_of epoch)) (sealed_of s)) s

-- the order of stamps
pub never_below : (a b c : Stamp) → is_before b a ≡ false → is_before c b ≡ false → is_before c a ≡ false
never_below a b c low high = grind (arith, nat_tests)

between : (a b c : Stamp) → is_before b a ≡ false → is_before c b ≡ false → is_same a c ≡ true → is_same a b ≡ true
between a b c low high same = grind (arith, nat_tests)

both_same : (a b c : Stamp) → is_same a b ≡ true → is_same c b ≡ true → is_same a c ≡ true
both_same a b c first second = grind (arith, nat_tests)

pub run_rises : (block chunk : ℕ) (s end : Slot) (calls : List Call) → LeadsTo block chunk s calls end → is_before end.promise s.promise ≡ false
run_rises block chunk s end [] leads = subst (λ (x : Slot). is_before x.promise s.promise ≡ false) (sym leads) (not_before_itself s.promise)
run_rises block chunk s end (c ∷ calls) leads =
    let next : Slot = leads.0 in
    let g = of_ok (Goes s) (called block chunk c s) next leads.1 (goes block chunk c s) in
    never_below s.promise next.promise end.promise g.rises (run_rises block chunk next end calls leads.2)

-- a stamp below the promise, or that of the lease that was taken last, is spent
pub record IsSpent (stamp : Stamp) (s : Slot) : Type 0 where
  pub reached : is_before s.promise stamp ≡ false
  pub last : is_same stamp s.promise ≡ true → is_taken stamp s.taken ≡ true

spent_taken : (stamp : Stamp) (s s2 : Slot) → is_same stamp s.promise ≡ true → is_taken stamp s.taken ≡ true → (s2.taken ≡ s.taken) ⊎ Leased s s2 → is_taken stamp s2.taken ≡ true
spent_taken stamp s s2 same taken (inl is) = ap (is_taken stamp) is ∙ taken
spent_taken stamp s s2 same taken (inr l) = ap (is_taken stamp) l.taken ∙ both_same stamp s.promise l.stamp same l.promised

spent_on : (stamp : Stamp) (s s2 : Slot) → IsSpent stamp s → Goes s s2 → IsSpent stamp s2
spent_on stamp s s2 spent g = record {
  reached = never_below stamp s.promise s2.promise spent.reached g.rises;
  last = λ same. (let was = between stamp s.promise s2.promise spent.reached g.rises same in spent_taken stamp s s2 was (spent.last was) g.taken);
}

pub run_spent : (block chunk : ℕ) (stamp : Stamp) (s end : Slot) (calls : List Call) → IsSpent stamp s → LeadsTo block chunk s calls end → IsSpent stamp end
run_spent block chunk stamp s end [] spent leads = subst (IsSpent stamp) (sym leads) spent
run_spent block chunk stamp s end (c ∷ calls) spent leads =
    let next : Slot = leads.0 in
    run_spent block chunk stamp next end calls (spent_on stamp s next spent (of_ok (Goes s) (called block chunk c s) next leads.1 (goes block chunk c s))) leads.2

refused_case : (o : Option Refusal) (a b : Bool) (e f : Refusal) (s2 : Slot) → (a ≡ true → b ≡ true) → result_ok (unless (first_of (first_of (o ∷ when (not a) e ∷ []) ∷ when b f ∷ [])) (Ok s2)) ≡ None
refused_case (Some g) a b e f s2 last = refl
refused_case None false b e f s2 last = refl
refused_case None true true e f s2 last = refl
refused_case None true false e f s2 last = absurd (true≢false (sym (last refl)))

-- a spent stamp is refused
pub spent_refused : (stamp : Stamp) (s : Slot) → IsSpent stamp s → result_ok (take_lease stamp s) ≡ None
spent_refused stamp s spent = refused_case (unless_live s.live) (is_same stamp s.promise) (is_taken stamp s.taken) (refusals.Stamp s.promise) refusals.Old (taking stamp s) spent.last

same_itself : (a : Stamp) → is_same a a ≡ true
same_itself a = grind (arith, nat_tests)

pub not_before_same : (a b : Stamp) → is_same a b ≡ true → is_before b a ≡ false
not_before_same a b same = grind (arith, nat_tests)

-- and one that was taken is spent
pub taken_spent : (stamp : Stamp) (s : Slot) → Holds (IsSpent stamp) (take_lease stamp s)
taken_spent stamp s =
    of_unless (IsSpent stamp) (first_of (check_grant stamp s ∷ when (is_taken stamp s.taken) refusals.Old ∷ [])) (taking stamp s)
    (λ none. record {
      reached = not_before_same stamp s.promise (is_granted stamp s (unless_live s.live) (is_same stamp s.promise) (first_none (check_grant stamp s) (when (is_taken stamp s.taken) refusals.Old) none));
      last = λ same. same_itself stamp;
    })
