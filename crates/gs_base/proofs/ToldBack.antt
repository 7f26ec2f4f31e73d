-- A refusal is found again by its number and its detail.
use Rattle.std.proofs.Common.{◌≡◌, ℕ, true, false, cond, List, [], ◌∷◌, ◌++◌, length, eqb, refl, sym, ap, ◌∙◌, arith}
use Rattle.std.proofs.Math.Seq.{take-append_seam, drop-append-add}
use Rattle.std.proofs.lemmas.Fmt.{digits_decimal, digits_value-decimal}
use Rattle.std.proofs.lemmas.Str.Parse.{tells_all_ascii_digits}
use Rattle.std.specs.Fmt.{decimal}
use Rattle.std.specs.List.{position_or_len, before_first, after_first}
use Rattle.std.specs.Str.{all_ascii_digits}
use Rattle.std.specs.Str.Parse.{digits_value}
use Rattle.gs_base.proofs.SameLaws.{made}
use Rattle.gs_base.proofs.Tells.{digits}
use Rattle.gs_base.specs.Numbers.{stamp_text}
use Rattle.gs_base.specs.Refusals.{number_of}
use Rattle.gs_base.specs.Told.{detail_text, IsStamp, IsRefusal}
use Rattle.gs_base.specs.declared.numbers.Stamp.{Stamp as AnyStamp}
use Rattle.gs_base.specs.declared.refusal.Refusal.{Refusal}
use Rattle.gs_base.specs.declared.refusal.Refusal.TheVariants.{BadPath, HiddenName, NotFound, Exists, NotADirectory, IsADirectory, NotEmpty, IntoItself, IsRoot, Locked, Preparing, RollingBack, NotUpgrading, AlreadyUpgrading, NotQuiet, Unrestored, NoServer, Epoch, Old, NotPrimary, LeaseOver, Stamp, Gap, NoData, Range, TooLong, Damaged, NoReplica, Unsure, Full, Exhausted, Device, Memory, BadLine, Config, Pending, Stray, NotHidden}

unfoldable pub stamp_of : List ℕ → AnyStamp
stamp_of text = record { epoch = digits_value 10 (before_first (λ b. eqb b 46) text); version = digits_value 10 (after_first (λ b. eqb b 46) text) }

point_at : (ds rest : List ℕ) → all_ascii_digits ds ≡ true → position_or_len (λ b. eqb b 46) (ds ++ 46 ∷ rest) ≡ length ds
point_at [] rest h = refl
point_at (d ∷ ds) rest h =
    let parts = tells_all_ascii_digits.parts d ds h in
    let other : eqb d 46 ≡ false = grind (arith, parts.0) in
    let more : position_or_len (λ b. eqb b 46) (ds ++ 46 ∷ rest) ≡ length ds = point_at ds rest parts.1 in
    rw (other, more) (omega arith)

before_digits : (ds rest : List ℕ) → all_ascii_digits ds ≡ true → before_first (λ b. eqb b 46) (ds ++ 46 ∷ rest) ≡ ds
before_digits ds rest h = rw (point_at ds rest h) (take-append_seam ds (46 ∷ rest))

after_digits : (ds rest : List ℕ) → all_ascii_digits ds ≡ true → after_first (λ b. eqb b 46) (ds ++ 46 ∷ rest) ≡ rest
after_digits ds rest h = rw (point_at ds rest h) (drop-append-add ds (46 ∷ rest) 1)

same_stamp : (s : AnyStamp) (e v : ℕ) → e ≡ s.epoch → v ≡ s.version → record { epoch = e; version = v } ≡ s
same_stamp s e v p q = ap (λ x. record { epoch = x; version = v }) p ∙ ap (λ y. record { epoch = s.epoch; version = y }) q

stamp_back : (s : AnyStamp) → IsStamp s → stamp_of (stamp_text s) ≡ s
unfolding stamp_of
stamp_back s is =
    let all : all_ascii_digits (decimal s.epoch) ≡ true = digits_decimal digits s.epoch is.0 in
    same_stamp s _ _
    (ap (digits_value 10) (before_digits (decimal s.epoch) (decimal s.version) all) ∙ digits_value-decimal digits s.epoch is.0)
    (ap (digits_value 10) (after_digits (decimal s.epoch) (decimal s.version) all) ∙ digits_value-decimal digits s.version is.1)

unfoldable pub refusal_of : ℕ → List ℕ → Refusal
refusal_of number text = made number (cond (eqb number 22) (stamp_of text).epoch (digits_value 10 text)) (stamp_of text).version text

pub back : (r : Refusal) → IsRefusal r → refusal_of (number_of r) (detail_text r) ≡ r
unfolding refusal_of made
back BadPath is = refl
back HiddenName is = refl
back NotFound is = refl
back Exists is = refl
back NotADirectory is = refl
back IsADirectory is = refl
back NotEmpty is = refl
back IntoItself is = refl
back IsRoot is = refl
back Locked is = refl
back Preparing is = refl
back RollingBack is = refl
back NotUpgrading is = refl
back AlreadyUpgrading is = refl
back (NotQuiet d) is = ap NotQuiet (digits_value-decimal digits d is.1)
back (Unrestored d) is = ap Unrestored (digits_value-decimal digits d is.1)
back NoServer is = refl
back (Epoch d) is = ap Epoch (digits_value-decimal digits d is)
back Old is = refl
back NotPrimary is = refl
back LeaseOver is = refl
back (Stamp d) is = ap Stamp (stamp_back d is)
back (Gap d) is = ap Gap (digits_value-decimal digits d is)
back NoData is = refl
back Range is = refl
back TooLong is = refl
back (Damaged d) is = ap Damaged (digits_value-decimal digits d is)
back NoReplica is = refl
back Unsure is = refl
back Full is = refl
back Exhausted is = refl
back Device is = refl
back Memory is = refl
back BadLine is = refl
back Config is = refl
back (Pending d) is = refl
back Stray is = refl
back NotHidden is = refl

pub only_one : (r s : Refusal) → IsRefusal r → IsRefusal s → number_of r ≡ number_of s → detail_text r ≡ detail_text s → r ≡ s
only_one r s h k number detail = sym (back r h) ∙ ap (λ n. refusal_of n (detail_text r)) number ∙ ap (refusal_of (number_of s)) detail ∙ back s k
