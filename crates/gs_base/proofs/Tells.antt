-- Refusals by number and detail.
use Rattle.std.proofs.Common.{◌≡◌, ◌≢◌, ℕ, suc, ◌^◌, ◌<◌, ◌≤◌, ◌⊎◌, true, List, [], ◌∷◌, ◌++◌, length, get_or, Option, Some, None, Result, Ok, Err, IsSome, ◌↔◌, is_some, refl, sym, ap, ◌∙◌, subst, ⊎_elim, arith, rules}
use Rattle.std.proofs.lemmas.Bool.{cases_eq, cases_lt, false≢true}
use Rattle.std.proofs.lemmas.Fmt.{digits_decimal, digits_value-decimal, decimal-digits_value, decimal_nonempty, decimal_injective, decimal_digit, first_decimal}
use Rattle.std.proofs.lemmas.Str.Parse.{IsNumeralModel, numerals_by_value, tells_all_ascii_digits, parse_plain, not_in_digits}
use Rattle.std.specs.Borrow.{Bor}
use Rattle.std.specs.Fmt.{decimal}
use Rattle.std.specs.Option.{MatchOption}
use Rattle.std.specs.Result.{OkIff, result_ok}
use Rattle.std.specs.Str.{all_ascii_digits}
use Rattle.std.specs.Str.Parse.{digits_value, ParsesUnsigned}
use Rattle.gs_base.specs.Numbers.{stamp_text}
use Rattle.gs_base.specs.Refusals.{number_of}
use Rattle.gs_base.specs.Told.{detail_text, IsNumber, IsStamp, IsRefusal, TellsRefusal, Told, IsNumberIn, IsStampIn}
use Rattle.gs_base.specs.declared.numbers.Stamp.{Stamp as AnyStamp}
use Rattle.gs_base.specs.declared.refusal.Refusal.{Refusal}
use Rattle.gs_base.specs.declared.refusal.Refusal.TheVariants.{BadPath, HiddenName, NotFound, Exists, NotADirectory, IsADirectory, NotEmpty, IntoItself, IsRoot, Locked, Preparing, RollingBack, NotUpgrading, AlreadyUpgrading, NotQuiet, Unrestored, NoServer, Epoch, Old, NotPrimary, LeaseOver, Stamp, Gap, NoData, Range, TooLong, Damaged, NoReplica, Unsure, Full, Exhausted, Device, Memory, BadLine, Config, Pending, Stray, NotHidden}

pub digits : IsNumeralModel (λ ds. all_ascii_digits ds ≡ true) (digits_value 10)
digits = numerals_by_value _ tells_all_ascii_digits

-- ---- numbers as texts
one_of : {E : Type 0} (text : List ℕ) (r : Result ℕ E) → (get_or text 0 0 ≡ 48 → length text ≡ 1)
    → OkIff r ((all_ascii_digits text ≡ true) × (0 < length text) × (digits_value 10 text < 2 ^ 64)) (digits_value 10 text) → IsNumberIn text (result_ok r)
one_of text (Ok x) zeros h =
    let small : x < 2 ^ 64 = subst (λ n. n < 2 ^ 64) (sym h.1) h.0.2 in
    (small, ap decimal h.1 ∙ decimal-digits_value digits text h.0.0 h.0.1 zeros h.0.2)
one_of text (Err e) zeros h = λ n small is. h (
  ap all_ascii_digits (sym is) ∙ digits_decimal digits n small,
  subst (λ t. 0 < length t) is (decimal_nonempty n small),
  subst (λ t. digits_value 10 t < 2 ^ 64) is (subst (λ v. v < 2 ^ 64) (sym (digits_value-decimal digits n small)) small),
)

pub number_read : {E : Type 0} (text : List ℕ) (r : Result ℕ E) (o : Option ℕ) → o ≡ result_ok r → ParsesUnsigned 64 10 text r → get_or text 0 0 ≢ 43 → (get_or text 0 0 ≡ 48 → length text ≡ 1) → IsNumberIn text o
number_read text r o is h plain zeros = subst (IsNumberIn text) (sym is) (one_of text r zeros (parse_plain digits 64 text r h plain))

pub one_digit : (text : List ℕ) → get_or text 0 0 ≡ 48 → length text ≤ 1 → length text ≡ 1
one_digit [] e h = absurd (omega (arith, e))
one_digit (x ∷ xs) e h = omega arith

-- a number is printed without a sign, and begins with a zero only where it is zero
pub number_begins : (text : List ℕ) (n : ℕ) → IsNumber n → decimal n ≡ text → (get_or text 0 0 ≢ 43) × (get_or text 0 0 ≡ 48 → length text ≡ 1)
number_begins text n small is = ⊎_elim
    (λ (none : n ≡ 0). let zero_text : 48 ∷ [] ≡ text = sym (decimal_digit 0 (omega arith)) ∙ sym (ap decimal none) ∙ is in (subst (λ t. get_or t 0 0 ≢ 43) zero_text (λ e. absurd (omega (arith, e))), λ _. ap length (sym zero_text)))
    (λ (some : n ≢ 0). let first : 48 < get_or text 0 0 = subst (λ t. 48 < get_or t 0 0) is (first_decimal n (omega arith) small) in (λ e. omega arith, λ e. absurd (omega arith)))
    (cases_eq n 0)

-- ---- stamps as texts
abbrev pub HasNoPoint : List ℕ → Type 0
HasNoPoint text = (i : ℕ) → i < length text → get_or text i 0 ≢ 46

seam : (a b : List ℕ) → get_or (a ++ (46 ∷ b)) (length a) 0 ≡ 46
seam [] b = refl
seam (x ∷ a) b = seam a b

seam_below : (a b : List ℕ) → length a < length (a ++ (46 ∷ b))
seam_below [] b = omega arith
seam_below (x ∷ a) b = let h : length a < length (a ++ (46 ∷ b)) = seam_below a b in omega arith

pub no_point_no_stamp : (text : List ℕ) → HasNoPoint text → IsStampIn text None
no_point_no_stamp text none s is same =
    none (length (decimal s.epoch))
    (subst (λ t. length (decimal s.epoch) < length t) same (seam_below (decimal s.epoch) (decimal s.version)))
    (ap (λ t. get_or t (length (decimal s.epoch)) 0) (sym same) ∙ seam (decimal s.epoch) (decimal s.version))

decimal_has_no_point : (n : ℕ) → IsNumber n → HasNoPoint (decimal n)
decimal_has_no_point n small = not_in_digits digits (decimal n) 46 (digits_decimal digits n small) (λ h. omega arith)

first_of : (x y : ℕ) (xs ys : List ℕ) → x ∷ xs ≡ y ∷ ys → (x ≡ y) × (xs ≡ ys)
first_of x y xs ys e = (cc, cc)

same_cut : (a b c d : List ℕ) → a ++ (46 ∷ b) ≡ c ++ (46 ∷ d) → HasNoPoint a → HasNoPoint c → (a ≡ c) × (b ≡ d)
same_cut [] b [] d e p q = (refl, (first_of 46 46 b d e).1)
same_cut [] b (y ∷ c) d e p q = absurd (q 0 (omega arith) (sym (first_of 46 y b (c ++ (46 ∷ d)) e).0))
same_cut (x ∷ a) b [] d e p q = absurd (p 0 (omega arith) (first_of x 46 (a ++ (46 ∷ b)) d e).0)
same_cut (x ∷ a) b (y ∷ c) d e p q =
    let parts = first_of x y (a ++ (46 ∷ b)) (c ++ (46 ∷ d)) e in
    let rest = same_cut a b c d parts.1 (λ i h. p (suc i) (omega arith)) (λ i h. q (suc i) (omega arith)) in
    (ap (λ z. z ∷ a) parts.0 ∙ ap (λ zs. y ∷ zs) rest.0, rest.1)

pub stamp_cut : (text a b : List ℕ) → text ≡ a ++ (46 ∷ b) → HasNoPoint a → (s : AnyStamp) → IsStamp s → stamp_text s ≡ text → (decimal s.epoch ≡ a) × (decimal s.version ≡ b)
stamp_cut text a b cut none s is same = same_cut (decimal s.epoch) (decimal s.version) a b (same ∙ cut) (decimal_has_no_point s.epoch is.0) none

abbrev pub CutAtPoint : List ℕ → List ℕ × List ℕ → Type 0
CutAtPoint text parts = (text ≡ parts.0 ++ (46 ∷ parts.1)) × HasNoPoint parts.0

pub cut_of : (text : List ℕ) (r : Option (Bor (List ℕ) × Bor (List ℕ))) (a b : Bor (List ℕ)) → r ≡ Some (a, b)
    → MatchOption r (HasNoPoint text) (λ x. (text ≡ x.0.now ++ (46 ∷ x.1.now)) × HasNoPoint x.0.now) → CutAtPoint text (a.now, b.now)
cut_of text r a b is h = let m = subst (λ o. MatchOption o (HasNoPoint text) (λ x. (text ≡ x.0.now ++ (46 ∷ x.1.now)) × HasNoPoint x.0.now)) is h in (m.0, m.1)

pub uncut : (text : List ℕ) (r : Option (Bor (List ℕ) × Bor (List ℕ))) (o : Option AnyStamp) → r ≡ None → o ≡ None
    → MatchOption r (HasNoPoint text) (λ x. (text ≡ x.0.now ++ (46 ∷ x.1.now)) × HasNoPoint x.0.now) → IsStampIn text o
uncut text r o is none h = subst (IsStampIn text) (sym none) (no_point_no_stamp text (subst (λ o. MatchOption o (HasNoPoint text) (λ x. (text ≡ x.0.now ++ (46 ∷ x.1.now)) × HasNoPoint x.0.now)) is h))

pub no_epoch : (text a b : List ℕ) (r : Option ℕ) (o : Option AnyStamp) → CutAtPoint text (a, b) → r ≡ None → o ≡ None → IsNumberIn a r → IsStampIn text o
no_epoch text a b r o cut is none h = subst (IsStampIn text) (sym none) (λ s small same. subst (IsNumberIn a) is h s.epoch small.0 (stamp_cut text a b cut.0 cut.1 s small same).0)

pub no_version : (text a b : List ℕ) (r : Option ℕ) (o : Option AnyStamp) → CutAtPoint text (a, b) → r ≡ None → o ≡ None → IsNumberIn b r → IsStampIn text o
no_version text a b r o cut is none h = subst (IsStampIn text) (sym none) (λ s small same. subst (IsNumberIn b) is h s.version small.1 (stamp_cut text a b cut.0 cut.1 s small same).1)

-- ---- the kinds of detail
-- a number of a refusal without a detail
abbrev pub IsPlain : ℕ → Type 0
IsPlain n = (1 ≤ n) × (n ≤ 38) × (n ≢ 15) × (n ≢ 16) × (n ≢ 18) × (n ≢ 22) × (n ≢ 23) × (n ≢ 27) × (n ≢ 36)

pub record ByKind (C : Refusal → Type 0) : Type 0 where
  pub plain : (r : Refusal) → IsPlain (number_of r) → detail_text r ≡ [] → C r
  pub not_quiet : (d : ℕ) → C (NotQuiet d)
  pub unrestored : (d : ℕ) → C (Unrestored d)
  pub epoch : (d : ℕ) → C (Epoch d)
  pub stamp : (d : AnyStamp) → C (Stamp d)
  pub gap : (d : ℕ) → C (Gap d)
  pub damaged : (d : ℕ) → C (Damaged d)
  pub pending : (d : List ℕ) → C (Pending d)

pub by_kind : (C : Refusal → Type 0) → ByKind C → (r : Refusal) → C r
by_kind C k BadPath = k.plain BadPath (search rules) refl
by_kind C k HiddenName = k.plain HiddenName (search rules) refl
by_kind C k NotFound = k.plain NotFound (search rules) refl
by_kind C k Exists = k.plain Exists (search rules) refl
by_kind C k NotADirectory = k.plain NotADirectory (search rules) refl
by_kind C k IsADirectory = k.plain IsADirectory (search rules) refl
by_kind C k NotEmpty = k.plain NotEmpty (search rules) refl
by_kind C k IntoItself = k.plain IntoItself (search rules) refl
by_kind C k IsRoot = k.plain IsRoot (search rules) refl
by_kind C k Locked = k.plain Locked (search rules) refl
by_kind C k Preparing = k.plain Preparing (search rules) refl
by_kind C k RollingBack = k.plain RollingBack (search rules) refl
by_kind C k NotUpgrading = k.plain NotUpgrading (search rules) refl
by_kind C k AlreadyUpgrading = k.plain AlreadyUpgrading (search rules) refl
by_kind C k (NotQuiet d) = k.not_quiet d
by_kind C k (Unrestored d) = k.unrestored d
by_kind C k NoServer = k.plain NoServer (search rules) refl
by_kind C k (Epoch d) = k.epoch d
by_kind C k Old = k.plain Old (search rules) refl
by_kind C k NotPrimary = k.plain NotPrimary (search rules) refl
by_kind C k LeaseOver = k.plain LeaseOver (search rules) refl
by_kind C k (Stamp d) = k.stamp d
by_kind C k (Gap d) = k.gap d
by_kind C k NoData = k.plain NoData (search rules) refl
by_kind C k Range = k.plain Range (search rules) refl
by_kind C k TooLong = k.plain TooLong (search rules) refl
by_kind C k (Damaged d) = k.damaged d
by_kind C k NoReplica = k.plain NoReplica (search rules) refl
by_kind C k Unsure = k.plain Unsure (search rules) refl
by_kind C k Full = k.plain Full (search rules) refl
by_kind C k Exhausted = k.plain Exhausted (search rules) refl
by_kind C k Device = k.plain Device (search rules) refl
by_kind C k Memory = k.plain Memory (search rules) refl
by_kind C k BadLine = k.plain BadLine (search rules) refl
by_kind C k Config = k.plain Config (search rules) refl
by_kind C k (Pending d) = k.pending d
by_kind C k Stray = k.plain Stray (search rules) refl
by_kind C k NotHidden = k.plain NotHidden (search rules) refl

no_text : (n : ℕ) → IsNumber n → decimal n ≢ []
no_text n small e = let some : 0 < length (decimal n) = decimal_nonempty n small in let none : length (decimal n) ≡ 0 = ap length e in omega arith

-- no refusal of a number that has no arm, and an empty detail
pub none_plain : (number : ℕ) → (IsPlain number → ⊥) → number ≢ 36 → (r : Refusal) → IsRefusal r → ¬ TellsRefusal number [] r
none_plain number other path = by_kind _ (record {
  plain = λ r plain none is told. other (subst IsPlain told.0 plain);
  not_quiet = λ d is told. no_text d is.1 told.1;
  unrestored = λ d is told. no_text d is.1 told.1;
  epoch = λ d is told. no_text d is told.1;
  stamp = λ d is told. stamp_some d told.1;
  gap = λ d is told. no_text d is told.1;
  damaged = λ d is told. no_text d is told.1;
  pending = λ d is told. path (sym told.0);
})
  where
    longer : (xs ys : List ℕ) (x : ℕ) → xs ++ (x ∷ ys) ≢ []
    longer [] ys x e = cc
    longer (y ∷ xs) ys x e = cc

    stamp_some : (d : AnyStamp) → stamp_text d ≢ []
    stamp_some d e = longer (decimal d.epoch) (decimal d.version) 46 e

-- no refusal of a number that isn't one with a number as its detail
pub none_numbered : (number v : ℕ) → IsNumber v → (number ≡ 15 → v ≡ 0) → (number ≡ 16 → v ≡ 0) → number ≢ 18 → number ≢ 22 → number ≢ 23 → number ≢ 27 → number ≢ 36 → (r : Refusal) → IsRefusal r → ¬ TellsRefusal number (decimal v) r
none_numbered number v small quiet restored e s g d p = by_kind _ (record {
  plain = λ r plain none is told. no_text v small (sym told.1 ∙ none);
  not_quiet = λ n is told. zero_handle n is (decimal_injective n v is.1 small told.1) (quiet (sym told.0));
  unrestored = λ n is told. zero_handle n is (decimal_injective n v is.1 small told.1) (restored (sym told.0));
  epoch = λ n is told. e (sym told.0);
  stamp = λ n is told. s (sym told.0);
  gap = λ n is told. g (sym told.0);
  damaged = λ n is told. d (sym told.0);
  pending = λ n is told. p (sym told.0);
})
  where
    zero_handle : (n : ℕ) → (1 ≤ n) × IsNumber n → n ≡ v → v ≡ 0 → ⊥
    zero_handle n is same none = omega arith

pub no_handle : (number v : ℕ) (r : Option ℕ) (o : Option Refusal) → IsNumber v → (number ≡ 15) ⊎ (number ≡ 16) → (IsSome r ↔ (1 ≤ v)) → r ≡ None → o ≡ None → Told number (decimal v) o
no_handle number v r o small kind some is none =
    let zero_detail : v ≡ 0 = ⊎_elim (λ (below : v < 1). let z : v ≡ 0 = omega arith in z) (λ (above : 1 ≤ v). absurd (false≢true (ap is_some (sym is) ∙ some.1 above))) (cases_lt v 1) in
    subst (Told number (decimal v)) (sym none)
    (none_numbered number v small (λ _. zero_detail) (λ _. zero_detail) (other 18 (omega arith) (omega arith)) (other 22 (omega arith) (omega arith)) (other 23 (omega arith) (omega arith)) (other 27 (omega arith) (omega arith)) (other 36 (omega arith) (omega arith)))
  where
    other : (k : ℕ) → k ≢ 15 → k ≢ 16 → number ≢ k
    other k p q e = ⊎_elim (λ (h : number ≡ 15). p (sym e ∙ h)) (λ (h : number ≡ 16). q (sym e ∙ h)) kind
