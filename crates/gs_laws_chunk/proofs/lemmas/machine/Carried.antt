-- Each event of the worked run with a lost server and a carried copy can happen.
use Rattle.std.proofs.Common.{◌≡◌, ◌≢◌, ℕ, ◌≤◌, ◌⊎◌, inl, inr, ⊎_elim, [], ◌∷◌, Option, Some, true, false, eqb, refl, subst, arith, List}
use Rattle.std.proofs.lemmas.Bool.{eqb-true, eqb-false, or_cases}
use Rattle.gs_laws_chunk.specs.machine.Stamps.{epoch_of, start_of}
use Rattle.gs_laws_chunk.specs.machine.Events.{is_of, AllCan, Rests}
use Rattle.gs_laws_chunk.specs.machine.Laws.{IsReached}
use Rattle.gs_laws_chunk.specs.machine.Worked.{upgraded}
use Rattle.gs_laws_chunk.specs.machine.Carried.{two, are_two, others, at_first, whole_run, rolled_back}
use Rattle.gs_laws_chunk.proofs.lemmas.machine.Lists.{some_same}
use Rattle.gs_laws_chunk.proofs.lemmas.machine.Worked.{less, first}
use Rattle.gs_laws_chunk.proofs.lemmas.machine.Worlds.{leads_run}

-- one of two servers
which : (a b j : ℕ) → is_of (a ∷ b ∷ []) j ≡ true → (j ≡ a) ⊎ (j ≡ b)
which a b j h = ⊎_elim
    (λ (e : eqb j a ≡ true). inl (eqb-true j a e))
    (λ (e : is_of (b ∷ []) j ≡ true). ⊎_elim (λ (f : eqb j b ≡ true). inr (eqb-true j b f)) (λ (f : is_of [] j ≡ true). absurd (cc)) (or_cases (eqb j b) (is_of [] j) e))
    (or_cases (eqb j a) (is_of (b ∷ []) j) h)

just_third : (j : ℕ) → is_of (2 ∷ []) j ≡ true → j ≡ 2
just_third j h = ⊎_elim (λ (e : eqb j 2 ≡ true). eqb-true j 2 e) (λ (e : is_of [] j ≡ true). absurd (cc)) (or_cases (eqb j 2) (is_of [] j) h)

which_whole : (j : ℕ) → are_two j ≡ true → (j ≡ 0) ⊎ (j ≡ 1)
which_whole j h = ⊎_elim (λ (e : eqb j 0 ≡ true). inl (eqb-true j 0 e)) (λ (e : eqb j 1 ≡ true). inr (eqb-true j 1 e)) (or_cases (eqb j 0) (eqb j 1) h)

some_of_two : two ≢ []
some_of_two e = (cc)

some_of_others : others ≢ []
some_of_others e = (cc)

holds : (members : List ℕ) → is_of members 0 ≡ true → (j : ℕ) → ◌≡◌ {A = Option ℕ} (Some 0) (Some j) → is_of members j ≡ true
holds members is j h = subst (λ j. is_of members j ≡ true) (some_same 0 j h) is

one : 1 ≤ 1
one = omega arith

both : 2 ≤ 2
both = omega arith

pub each_can : AllCan at_first whole_run
unfolding epoch_of start_of
each_can = ((refl, refl, refl, less 0 _ refl, less 0 _ refl), ((less 0 _ refl, refl, λ e. refl), ((less 0 _ refl, refl, λ e. refl), ((less 0 _ refl, refl, inl ((0, less 0 _ refl, refl), refl, refl)), ((less 0 _ refl, refl, inl ((1, less 1 _ refl, refl), refl, refl)), ((less 0 _ refl, some_of_two, (λ j h. elim (which 0 1 j h) [ inl e ↦ rw e (refl, (false, (2, less 2 _ refl, refl))) | inr e ↦ rw e (refl, (false, (3, less 3 _ refl, refl))) ]), inl refl, holds two refl), (refl, (((4, less 4 _ refl, refl), refl, eqb-false 0 1 refl), ((refl, refl, tt), ((refl, refl, (0, less 0 _ refl, refl)), ((refl, (5, less 5 _ refl, refl)), (refl, ((refl, (6, less 6 _ refl, refl)), ((refl, inl ((0, less 0 _ refl, refl), λ j h. elim (which 0 1 j h) [ inl e ↦ rw e (less 0 _ refl) | inr e ↦ rw e (less 0 _ refl) ])), ((refl, refl, refl, less 1 _ refl, less 0 _ refl), ((less 1 _ refl, refl), ((less 1 _ refl, refl), ((less 1 _ refl, refl, (8, less 8 _ refl, refl), refl), ((less 1 _ refl, refl, (9, less 9 _ refl, refl), refl), ((less 1 _ refl, some_of_two, (λ j h. elim (which 0 1 j h) [ inl e ↦ rw e (refl, (false, (10, less 10 _ refl, refl))) | inr e ↦ rw e (refl, (false, (11, less 11 _ refl, refl))) ]), inr (0, 1, false, refl, (10, less 10 _ refl, refl), one), λ j h. absurd (cc)), ((refl, (λ k. (refl, refl)), λ j h. elim (which_whole j h) [ inl e ↦ rw e refl | inr e ↦ rw e refl ]), (one, (((12, less 12 _ refl, refl), λ f. absurd (cc)), (tt, ((refl, refl, refl, less 2 _ refl, less 18446744073709551616 _ refl), ((less 2 _ refl, refl), ((less 2 _ refl, refl, (13, less 13 _ refl, refl), refl), (one, (((15, less 15 _ refl, refl), λ f. absurd (cc)), ((less 2 _ refl, refl, λ e. (refl, refl, inl refl)), ((refl, refl, refl, (true, (16, less 16 _ refl, refl), inr (refl, refl))), ((less 0 _ refl, refl, inr (17, less 17 _ refl, refl)), ((refl, less 2 _ refl, (1, (18, less 18 _ refl, refl))), ((less 2 _ refl, some_of_others, (λ j h. elim (which 0 2 j h) [ inl e ↦ rw e (refl, (false, (14, less 14 _ refl, refl))) | inr e ↦ rw e (refl, (true, (18, less 18 _ refl, refl))) ]), inr (0, 1, false, refl, (14, less 14 _ refl, refl), one), holds others refl), (refl, (((19, less 19 _ refl, refl), refl, eqb-false 1 upgraded refl), ((refl, refl, ((λ e. less 1 _ refl), tt)), ((refl, refl, (0, less 0 _ refl, refl)), ((refl, (20, less 20 _ refl, refl)), (refl, ((refl, (21, less 21 _ refl, refl)), ((refl, inl ((0, less 0 _ refl, refl), λ j h. elim (which 0 2 j h) [ inl e ↦ rw e (less 1 _ refl) | inr e ↦ rw e (less 1 _ refl) ])), (tt, ((refl, refl), (both, (((23, less 23 _ refl, refl), λ f. absurd (cc)), ((refl, refl), ((refl, λ e. (refl, λ j h. rw (just_third j h) (inr refl, (24, less 24 _ refl, refl)))), tt))))))))))))))))))))))))))))))))))))))))))))))))

-- and so the world behind it is reached
pub a_carried_run_back : IsReached rolled_back
unfolding first
a_carried_run_back = (first, leads_run at_first at_first whole_run Rests each_can)
