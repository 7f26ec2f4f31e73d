-- Two refusals are the same exactly where they are equal.
use Rattle.std.proofs.Common.{◌≡◌, ℕ, true, cond, List, eqb, refl, sym, ap, ◌∙◌}
use Rattle.std.proofs.lemmas.Bool.{and_parts, eqb-true}
use Rattle.std.proofs.lemmas.Slice.Eq.{bytes_eq-Decides}
use Rattle.gs_base.specs.Refusals.{number_of}
use Rattle.gs_base.specs.Same.{first_detail, second_detail, path_detail, is_same, is_same-equiv}
use Rattle.gs_base.specs.declared.refusal.Refusal.{Refusal}
use Rattle.gs_base.specs.declared.refusal.Refusal.TheVariants.{BadPath, HiddenName, NotFound, Exists, NotADirectory, IsADirectory, NotEmpty, IntoItself, IsRoot, Locked, Preparing, RollingBack, NotUpgrading, AlreadyUpgrading, NotQuiet, Unrestored, NoServer, Epoch, Old, NotPrimary, LeaseOver, Stamp, Gap, NoData, Range, TooLong, Damaged, NoReplica, Unsure, Full, Exhausted, Device, Memory, BadLine, Config, Pending, Stray, NotHidden}

-- the refusal of a number with these details
unfoldable pub made : ℕ → ℕ → ℕ → List ℕ → Refusal
made number first second path =
    cond (eqb number 1) BadPath (
    cond (eqb number 2) HiddenName (
    cond (eqb number 3) NotFound (
    cond (eqb number 4) Exists (
    cond (eqb number 5) NotADirectory (
    cond (eqb number 6) IsADirectory (
    cond (eqb number 7) NotEmpty (
    cond (eqb number 8) IntoItself (
    cond (eqb number 9) IsRoot (
    cond (eqb number 10) Locked (
    cond (eqb number 11) Preparing (
    cond (eqb number 12) RollingBack (
    cond (eqb number 13) NotUpgrading (
    cond (eqb number 14) AlreadyUpgrading (
    cond (eqb number 15) (NotQuiet first) (
    cond (eqb number 16) (Unrestored first) (
    cond (eqb number 17) NoServer (
    cond (eqb number 18) (Epoch first) (
    cond (eqb number 19) Old (
    cond (eqb number 20) NotPrimary (
    cond (eqb number 21) LeaseOver (
    cond (eqb number 22) (Stamp (record { epoch = first; version = second })) (
    cond (eqb number 23) (Gap first) (
    cond (eqb number 24) NoData (
    cond (eqb number 25) Range (
    cond (eqb number 26) TooLong (
    cond (eqb number 27) (Damaged first) (
    cond (eqb number 28) NoReplica (
    cond (eqb number 29) Unsure (
    cond (eqb number 30) Full (
    cond (eqb number 31) Exhausted (
    cond (eqb number 32) Device (
    cond (eqb number 33) Memory (
    cond (eqb number 34) BadLine (
    cond (eqb number 35) Config (
    cond (eqb number 36) (Pending path) (
    cond (eqb number 37) Stray (
    NotHidden)))))))))))))))))))))))))))))))))))))

pub made_again : (r : Refusal) → made (number_of r) (first_detail r) (second_detail r) (path_detail r) ≡ r
unfolding made
made_again BadPath = refl
made_again HiddenName = refl
made_again NotFound = refl
made_again Exists = refl
made_again NotADirectory = refl
made_again IsADirectory = refl
made_again NotEmpty = refl
made_again IntoItself = refl
made_again IsRoot = refl
made_again Locked = refl
made_again Preparing = refl
made_again RollingBack = refl
made_again NotUpgrading = refl
made_again AlreadyUpgrading = refl
made_again (NotQuiet d) = refl
made_again (Unrestored d) = refl
made_again NoServer = refl
made_again (Epoch d) = refl
made_again Old = refl
made_again NotPrimary = refl
made_again LeaseOver = refl
made_again (Stamp d) = refl
made_again (Gap d) = refl
made_again NoData = refl
made_again Range = refl
made_again TooLong = refl
made_again (Damaged d) = refl
made_again NoReplica = refl
made_again Unsure = refl
made_again Full = refl
made_again Exhausted = refl
made_again Device = refl
made_again Memory = refl
made_again BadLine = refl
made_again Config = refl
made_again (Pending d) = refl
made_again Stray = refl
made_again NotHidden = refl

pub same_equal : (r s : Refusal) → is_same r s ≡ true → r ≡ s
unfolding is_same
same_equal r s h =
    let numbers = and_parts (eqb (number_of r) (number_of s)) _ h in
    let firsts = and_parts (eqb (first_detail r) (first_detail s)) _ numbers.1 in
    let seconds = and_parts (eqb (second_detail r) (second_detail s)) _ firsts.1 in
    sym (made_again r) ∙ ap (λ n. made n (first_detail r) (second_detail r) (path_detail r)) (eqb-true _ _ numbers.0)
    ∙ ap (λ n. made (number_of s) n (second_detail r) (path_detail r)) (eqb-true _ _ firsts.0)
    ∙ ap (λ n. made (number_of s) (first_detail s) n (path_detail r)) (eqb-true _ _ seconds.0)
    ∙ ap (λ t. made (number_of s) (first_detail s) (second_detail s) t) ((bytes_eq-Decides (path_detail r) (path_detail s)).0 seconds.1) ∙ made_again s

pub equal_same : (r s : Refusal) → r ≡ s → is_same r s ≡ true
equal_same r s e = ap (is_same r) (sym e) ∙ is_same-equiv.refl r
