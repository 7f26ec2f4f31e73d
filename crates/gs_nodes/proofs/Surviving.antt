-- What a crash leaves of disks that nothing is done to, and of those that can't be opened.
use Rattle.std.proofs.Common.{◌≡◌, ◌∙◌, ap, arith, inl, inr, refl, subst, sym, ℕ, List, Some}
use Rattle.gs_journal.specs.Records.{Text, standing}
use Rattle.gs_journal.specs.declared.version.Version.TheVariants as versions
use Rattle.gs_master.specs.Crashing.{MightTell}
use Rattle.gs_master.specs.Recovering.{TellsStill}
use Rattle.gs_nodes.specs.Crashing.{LeavesOfMaster, CrashLeaves, RefusalsLeave, StandsAt, SurvivesAt, SurvivesRestart, SurvivesUnopened}
use Rattle.gs_nodes.specs.Happenings.{disks_of}
use Rattle.gs_nodes.specs.declared.place.MasterPlace.{MasterPlace}
use Rattle.gs_nodes.specs.declared.place.MasterPlace.TheVariants.{Standing, Closed, Away}

-- a text of version 2 is told still by itself alone
still_same : (a b : Text) → a.0 ≡ versions.Two → TellsStill a b → b ≡ a
still_same a b two (inl same) = same
still_same a b two (inr (entries, durable, tells, one, anew)) = absurd (not_both (sym one ∙ two))
  where
    not_both : versions.One ≡ versions.Two → ⊥
    not_both e = cc

module _ {D : Type 0} (seen : D → List ℕ) (may_leave : D → List ℕ → Type 0) (moment : D → ℕ) (left_since : D → ℕ → List ℕ → Type 0) where
  -- what a crash would have left of disks is what it leaves of those that are handed back
  pub refusals_leave : RefusalsLeave seen may_leave moment left_since
  refusals_leave disks first second text is two leaves a b l r = by_might (is.lasts a b l r)
    where
      by_might : MightTell (may_leave disks.0) (may_leave disks.1) (standing a b) → standing a b ≡ text
      by_might (old, (x, y, of_first, of_second, e), still) =
          let same : old ≡ text = e ∙ leaves x y of_first of_second in
          still_same old (standing a b) (ap (λ (t : Text). t.0) same ∙ two) still ∙ same

  -- what one just before left
  pub untouched : ((disk : D) (c : List ℕ) → left_since disk (moment disk) c → may_leave disk c) → (first second : D) → SurvivesUnopened seen may_leave moment left_since (first, second) first second
  untouched only_now first second = record {
    any_moment = inl (record {
      later_first = omega arith;
      later_second = omega arith;
      each = λ a b l r. (a, b, only_now first a l, only_now second b r, refl);
    });
    lasts = λ a b l r. (standing a b, (a, b, l, r, refl), inl refl);
  }

  -- of a master whose disks can't be opened anew
  of_master : (old new : MasterPlace D) (disks : D × D) → disks_of old ≡ Some disks → StandsAt seen may_leave moment left_since old → SurvivesAt seen may_leave moment left_since disks new → LeavesOfMaster seen may_leave moment left_since old new
  of_master (Standing m) (Closed first second) disks e stood at =
      λ sound. refusals_leave disks first second m.journal.text at (stood sound).1 (subst (CrashLeaves seen may_leave moment left_since m.journal.text) (those e) (stood sound).0.lasts)
    where
      those : {x : D × D} → Some (m.journal.first, m.journal.second) ≡ Some x → (m.journal.first, m.journal.second) ≡ x
      those k = cc
  of_master (Standing m) (Standing opened) disks e stood at = tt
  of_master (Standing m) Away disks e stood at = tt
  of_master (Closed first second) new disks e stood at = tt
  of_master Away new disks e stood at = tt

  -- the disks that were the master's are opened anew
  pub survives_restart : (old new : MasterPlace D) (disks : D × D) → disks_of old ≡ Some disks → StandsAt seen may_leave moment left_since old → SurvivesAt seen may_leave moment left_since disks new → SurvivesRestart seen may_leave moment left_since old new
  survives_restart old new disks e stood at = rw e ((at, of_master old new disks e stood at))
