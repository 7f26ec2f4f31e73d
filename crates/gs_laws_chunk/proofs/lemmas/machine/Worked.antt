-- Each event of the worked run can happen.
use Rattle.std.proofs.Common.{◌≡◌, ◌≢◌, ℕ, ◌<◌, ◌≤◌, inl, inr, ⊎_elim, [], ◌∷◌, Option, Some, None, Bool, true, false, eqb, ltb, refl, subst, arith}
use Rattle.std.proofs.lemmas.Bool.{eqb-true, eqb-false, ltb-true, or_cases}
use Rattle.gs_laws_chunk.specs.machine.Stamps.{epoch_of, start_of}
use Rattle.gs_base.specs.declared.epoch.EpochEnd.TheVariants.{Finalize}
use Rattle.gs_laws_chunk.specs.machine.Events.{TakesLease, Numbers, Spends, Proposes, AsksForCopy, SendsDrop, Prepares, BeginsRollback, is_of, Can, new_lease, opened, happens, AllCan, Rests}
use Rattle.gs_laws_chunk.specs.machine.Laws.{Birth, IsReached}
use Rattle.gs_laws_chunk.specs.machine.Worked.{edit, server, only, upgraded, at_first, whole_run, written, prepared, rolled_back}
use Rattle.gs_laws_chunk.proofs.lemmas.machine.Lists.{some_same}
use Rattle.gs_laws_chunk.proofs.lemmas.machine.Worlds.{leads_run}

pub less : (a b : ℕ) → ltb a b ≡ true → a < b
less a b h = ltb-true a b h

just : (j : ℕ) → is_of server j ≡ true → j ≡ 0
just j h = ⊎_elim (λ (e : eqb j 0 ≡ true). eqb-true j 0 e) (λ (e : is_of [] j ≡ true). absurd (cc)) (or_cases (eqb j 0) (is_of [] j) h)

one : 1 ≤ 1
one = omega arith

two : 2 ≤ 2
two = omega arith

unfoldable pub first : Birth
first = record { epoch = 0; how = λ _. Finalize; origin = []; numbered = record { rises = λ i j a b x. absurd (cc) } }

some : server ≢ []
some e = (cc)

holds : (j : ℕ) → ◌≡◌ {A = Option ℕ} (Some 0) (Some j) → is_of server j ≡ true
holds j h = subst (λ j. is_of server j ≡ true) (some_same 0 j h) refl

pub each_can : AllCan at_first whole_run
unfolding epoch_of start_of
each_can = (
  (refl, refl, refl, less 0 1 refl, less 0 1 refl),
  (
    (less 0 1 refl, refl, λ e. refl),
    (
      (less 0 1 refl, refl, inl ((0, less 0 1 refl, refl), refl, refl)),
      (
        (less 0 1 refl, some, (λ j h. rw (just j h) (refl, (false, (1, less 1 2 refl, refl)))), inl refl, holds),
        (
          refl,
          (
            ((2, less 2 3 refl, refl), refl, eqb-false 0 1 refl),
            (
              (refl, refl, tt),
              (
                (refl, inl ((0, less 0 1 refl, refl), λ j h. rw (just j h) (less 0 1 refl))),
                (
                  (refl, refl, refl, less 1 2 refl, less 0 2 refl),
                  (
                    (less 1 2 refl, refl),
                    (
                      (less 1 2 refl, refl, (4, less 4 5 refl, refl), refl),
                      (
                        (less 1 2 refl, some, (λ j h. rw (just j h) (refl, (false, (5, less 5 6 refl, refl)))), inr (0, 1, false, refl, (5, less 5 6 refl, refl), one), λ j h. absurd (cc)),
                        (
                          (refl, (λ k. (refl, refl)), λ j h. rw (eqb-true j 0 h) refl),
                          (
                            one,
                            (
                              ((6, less 6 7 refl, refl), λ f. absurd (cc)),
                              (
                                (refl, refl, refl, less 2 upgraded refl, less 18446744073709551616 upgraded refl),
                                (
                                  (less 2 upgraded refl, refl),
                                  (
                                    (less 2 upgraded refl, refl, (7, less 7 8 refl, refl), refl),
                                    (
                                      (less 2 upgraded refl, some, (λ j h. rw (just j h) (refl, (false, (8, less 8 9 refl, refl)))), inr (0, 1, false, refl, (8, less 8 9 refl, refl), one), holds),
                                      (
                                        refl,
                                        (
                                          ((9, less 9 10 refl, refl), refl, eqb-false 1 upgraded refl),
                                          (
                                            (refl, refl, ((λ e. less 1 2 refl), tt)),
                                            (
                                              (refl, inl ((0, less 0 1 refl, refl), λ j h. rw (just j h) (less 1 2 refl))),
                                              (
                                                (refl, refl),
                                                (
                                                  two,
                                                  (
                                                    ((11, less 11 12 refl, refl), λ f. absurd (cc)),
                                                    (
                                                      (refl, refl),
                                                      (
                                                        (refl, λ e. (refl, λ j h. rw (just j h) (inl refl, (12, less 12 13 refl, refl)))),
                                                        tt,
                                                      ),
                                                    ),
                                                  ),
                                                ),
                                              ),
                                            ),
                                          ),
                                        ),
                                      ),
                                    ),
                                  ),
                                ),
                              ),
                            ),
                          ),
                        ),
                      ),
                    ),
                  ),
                ),
              ),
            ),
          ),
        ),
      ),
    ),
  ),
)

-- and so the world behind it is reached
pub a_run_back : IsReached rolled_back
unfolding first
a_run_back = (first, leads_run at_first at_first whole_run Rests each_can)

-- ---- what can't happen

-- a member of a chunk that the master knows is not dropped
a_member_stays : (promise : ℕ) → Can written (SendsDrop 0 promise) → ⊥
unfolding epoch_of start_of
a_member_stays promise can = let x : ◌≡◌ {A = Bool} true false = (can.2 refl).0 in (cc)

-- no prepare while a lease is out
a_lease_bars_a_prepare : Can written (Prepares only) → ⊥
unfolding epoch_of start_of
a_lease_bars_a_prepare can = let x : ◌≡◌ {A = Option ℕ} (Some 0) None = (can.1 refl).1 in (cc)

-- a lease that is spent is not taken again
spent_is_spent : Can (happens written (Spends 0)) (TakesLease 0 1 server) → ⊥
unfolding epoch_of start_of
spent_is_spent can = can.2 refl

-- a request is not numbered twice
numbered_once : Can written (Numbers 0 (opened 0 (new_lease 1 server) 0 (edit 1)) (edit 1 ∷ []) (edit 1)) → ⊥
unfolding epoch_of start_of
numbered_once can = let x : 1 < 1 = can.2.0 refl in omega arith

-- a copy goes to no member
no_copy_onto_a_member : Can (happens written (Proposes 2 only)) (AsksForCopy 0 0 false) → ⊥
unfolding epoch_of start_of
no_copy_onto_a_member can = let x : ◌≡◌ {A = Bool} true false = can.1 in (cc)

-- while a rollback is begun nothing is proposed
nothing_while_rolling : (stamp : ℕ) → Can (happens prepared BeginsRollback) (Proposes stamp only) → ⊥
unfolding epoch_of start_of
nothing_while_rolling stamp can = let x : ◌≡◌ {A = Bool} true false = can.1 in (cc)
