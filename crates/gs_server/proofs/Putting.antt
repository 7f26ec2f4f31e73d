-- What is taken out of a map and put back.
use Rattle.std.proofs.Common.{◌≡◌, ℕ, Bool, true, false, cond, Some, refl, sym, ap, ◌∙◌}
use Rattle.std.specs.FinMap as fin
use Rattle.std.specs.FinMap.{nat_cmp-IsAntisymmetric}
use Rattle.std.specs.Ordering.{nat_cmp, eq_by_cmp}
use Rattle.std.specs.Cmp.{nat_cmp_total, Equal-is}
use Rattle.gs_server.proofs.Made.{insert_removed}

same_key : (a b : ℕ) → eq_by_cmp nat_cmp a b ≡ true → a ≡ b
same_key a b is = nat_cmp-IsAntisymmetric a b ((Equal-is (nat_cmp a b)).0 is)

found_again : {X : Type 0} (m : fin.FinMap nat_cmp X) (key q : ℕ) (x : X) (test : Bool) → fin.get m key ≡ Some x → eq_by_cmp nat_cmp q key ≡ test → cond test (Some x) (fin.get m q) ≡ fin.get m q
found_again m key q x true found is = sym found ∙ ap (fin.get m) (sym (same_key q key is))
found_again m key q x false found is = refl

insert_found : {X : Type 0} (m : fin.FinMap nat_cmp X) (key : ℕ) (x : X) → fin.get m key ≡ Some x → fin.insert m key x ≡ m
insert_found m key x found =
    fin.same_map nat_cmp_total nat_cmp-IsAntisymmetric _ _ (λ q. fin.get-insert nat_cmp_total m key x q ∙ found_again m key q x (eq_by_cmp nat_cmp q key) found refl)

-- as it was, nothing is changed
pub put_back : {X : Type 0} (m removed new : fin.FinMap nat_cmp X) (key : ℕ) (x : X) → fin.get m key ≡ Some x → removed ≡ fin.remove m key → new ≡ fin.insert removed key x → new ≡ m
put_back m removed new key x found taken put = put ∙ ap (λ r. fin.insert r key x) taken ∙ insert_removed m key x ∙ insert_found m key x found

-- as another, only that is changed
pub put_other : {X : Type 0} (m removed new : fin.FinMap nat_cmp X) (key : ℕ) (x : X) → removed ≡ fin.remove m key → new ≡ fin.insert removed key x → new ≡ fin.insert m key x
put_other m removed new key x taken put = put ∙ ap (λ r. fin.insert r key x) taken ∙ insert_removed m key x
