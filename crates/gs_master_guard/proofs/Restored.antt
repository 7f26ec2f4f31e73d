-- Who is taken of those that have told, one server after the other.
use Rattle.std.proofs.Common.{◌≡◌, ◌≢◌, ◌∙◌, ℕ, ◌+◌, ◌≤◌, ◌==◌, Bool, true, false, ◌&&◌, ◌||◌, [], List, ap, sym, subst, ⊎_elim, arith}
use Rattle.std.proofs.lemmas.Bool.{cases_eq}
use Rattle.std.proofs.lemmas.Bool.Decides.{nat_tests}
use Rattle.std.specs.Prelude.{nat_lt, if◌then◌else◌}
use Rattle.gs_base.specs.Members.{servers_where, with_member}
use Rattle.gs_base.specs.MemberLaws.{same_servers, is_member-servers_where, servers_where-none}

pub none_yet : (test : ℕ → Bool) → [] ≡ servers_where (λ s. nat_lt s 0 && test s)
none_yet test = sym (servers_where-none (λ s. nat_lt s 0 && test s) (λ s low. grind (arith, nat_tests)))

joins : (test : ℕ → Bool) (n s : ℕ) → test n ≡ true → ((s == n) || (nat_lt s n && test s)) ≡ (nat_lt s (n + 1) && test s)
joins test n s is = ⊎_elim
    (λ (same : s ≡ n). let here = subst (λ m. test m ≡ true) (sym same) is in grind (arith, nat_tests))
    (λ (other : s ≢ n). grind (arith, nat_tests))
    (cases_eq s n)

pub taken_next : (test : ℕ → Bool) (n : ℕ) → test n ≡ true → with_member (servers_where (λ s. nat_lt s n && test s)) n ≡ servers_where (λ s. nat_lt s (n + 1) && test s)
taken_next test n is = same_servers _ _ (λ s low. ap (λ b. (s == n) || b) (is_member-servers_where (λ s. nat_lt s n && test s) s low) ∙ joins test n s is)

stays : (test : ℕ → Bool) (n s : ℕ) → test n ≡ false → (nat_lt s n && test s) ≡ (nat_lt s (n + 1) && test s)
stays test n s is = ⊎_elim
    (λ (same : s ≡ n). let here = subst (λ m. test m ≡ false) (sym same) is in grind (arith, nat_tests))
    (λ (other : s ≢ n). grind (arith, nat_tests))
    (cases_eq s n)

pub left_next : (test : ℕ → Bool) (n : ℕ) → test n ≡ false → servers_where (λ s. nat_lt s n && test s) ≡ servers_where (λ s. nat_lt s (n + 1) && test s)
left_next test n is = same_servers _ _ (λ s low. stays test n s is)

pub all_taken : (test : ℕ → Bool) (n : ℕ) → 16 ≤ n → servers_where (λ s. nat_lt s n && test s) ≡ servers_where test
all_taken test n all = same_servers _ _ (λ s low. grind (arith, nat_tests))

either_taken : (test : ℕ → Bool) (n : ℕ) (b : Bool) → test n ≡ b → (if b then with_member (servers_where (λ s. nat_lt s n && test s)) n else servers_where (λ s. nat_lt s n && test s)) ≡ servers_where (λ s. nat_lt s (n + 1) && test s)
either_taken test n true is = taken_next test n is
either_taken test n false is = left_next test n is

pub next_taken : (test : ℕ → Bool) (n s : ℕ) (b : Bool) (old new : List ℕ) → s ≡ n → b ≡ test s → new ≡ (if b then with_member old s else old) → old ≡ servers_where (λ s. nat_lt s n && test s) → new ≡ servers_where (λ s. nat_lt s (n + 1) && test s)
next_taken test n s b old new same is gives before =
    gives ∙ ap (λ m. if b then with_member old m else old) same ∙ ap (λ m. if b then with_member m n else m) before ∙ either_taken test n b (ap test (sym same) ∙ sym is)
