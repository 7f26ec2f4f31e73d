-- A refusal is found again by its number and its detail.
use Rattle.std.proofs.Common.{◌≡◌, ℕ, ◌^◌, ◌<◌, ◌&&◌, Bool, true, false, cond, nat_le, ltb, List, [], ◌∷◌, ◌++◌, length, eqb, Option, Some, None, refl, sym, ap, ◌∙◌, subst, arith}
use Rattle.std.specs.Prelude.{bytes_eq}
use Rattle.std.proofs.Math.Seq.{take-append_seam, drop-append-add}
use Rattle.std.proofs.lemmas.Bool.{and_parts, ltb-true, lt-ltb, leb-true, le-leb, eqb-true}
use Rattle.std.proofs.lemmas.Fmt.{digits_decimal, digits_value-decimal}
use Rattle.std.proofs.lemmas.Str.Parse.{tells_all_ascii_digits}
use Rattle.std.specs.Fmt.{decimal}
use Rattle.std.specs.List.{position_or_len, before_first, after_first}
use Rattle.std.specs.Str.{all_ascii_digits}
use Rattle.std.specs.Str.Parse.{digits_value}
use Rattle.gs_base.proofs.Tells.{digits}
use Rattle.gs_base.specs.Numbers.{stamp_text}
use Rattle.gs_base.specs.Refusals.{number_of}
use Rattle.gs_base.specs.Told.{detail_text, IsStamp, IsRefusal, TellsRefusal, Told}
use Rattle.gs_base.specs.declared.numbers.Stamp.{Stamp as AnyStamp}
use Rattle.gs_base.specs.declared.refusal.Refusal.{Refusal}
use Rattle.gs_base.specs.declared.refusal.Refusal.TheVariants.{BadPath, HiddenName, NotFound, Exists, NotADirectory, IsADirectory, NotEmpty, IntoItself, IsRoot, Locked, Preparing, RollingBack, NotUpgrading, AlreadyUpgrading, NotQuiet, Unrestored, NoServer, Epoch, Old, NotPrimary, LeaseOver, Stamp, Gap, NoData, Range, TooLong, Damaged, NoReplica, Unsure, Full, Exhausted, Device, Memory, BadLine, Config, Pending, Stray, NotHidden}
use Rattle.gs_base.specs.MemberLaws.{eqb_itself}
use Rattle.std.proofs.lemmas.Slice.Eq.{bytes_eq-Decides}
use Rattle.gs_master_record.proofs.Laws.{if_some}
use Rattle.gs_master_record.specs.inner.Told.{number_in, stamp_in, may_be, is_in_range, is_told_by, told}

point_at : (ds rest : List ℕ) → all_ascii_digits ds ≡ true → position_or_len (λ b. eqb b 46) (ds ++ 46 ∷ rest) ≡ length ds
point_at [] rest h = refl
point_at (d ∷ ds) rest h =
    let parts = tells_all_ascii_digits.parts d ds h in
    let other : eqb d 46 ≡ false = grind (arith, parts.0) in
    let more : position_or_len (λ b. eqb b 46) (ds ++ 46 ∷ rest) ≡ length ds = point_at ds rest parts.1 in
    rw (other, more) (omega arith)

before_digits : (ds rest : List ℕ) → all_ascii_digits ds ≡ true → before_first (λ b. eqb b 46) (ds ++ 46 ∷ rest) ≡ ds
before_digits ds rest h = rw (point_at ds rest h) (take-append_seam ds (46 ∷ rest))

after_digits : (ds rest : List ℕ) → all_ascii_digits ds ≡ true → after_first (λ b. eqb b 46) (ds ++ 46 ∷ rest) ≡ rest
after_digits ds rest h = rw (point_at ds rest h) (drop-append-add ds (46 ∷ rest) 1)

same_stamp : (s : AnyStamp) (e v : ℕ) → e ≡ s.epoch → v ≡ s.version → record { epoch = e; version = v } ≡ s
same_stamp s e v p q = ap (λ x. record { epoch = x; version = v }) p ∙ ap (λ y. record { epoch = s.epoch; version = y }) q

stamp_back : (s : AnyStamp) → IsStamp s → stamp_in (stamp_text s) ≡ s
unfolding stamp_in number_in
stamp_back s is =
    let all : all_ascii_digits (decimal s.epoch) ≡ true = digits_decimal digits s.epoch is.0 in
    same_stamp s _ _
    (ap (digits_value 10) (before_digits (decimal s.epoch) (decimal s.version) all) ∙ digits_value-decimal digits s.epoch is.0)
    (ap (digits_value 10) (after_digits (decimal s.epoch) (decimal s.version) all) ∙ digits_value-decimal digits s.version is.1)

back : (r : Refusal) → IsRefusal r → may_be (number_of r) (detail_text r) ≡ r
unfolding number_in
back BadPath is = refl
back HiddenName is = refl
back NotFound is = refl
back Exists is = refl
back NotADirectory is = refl
back IsADirectory is = refl
back NotEmpty is = refl
back IntoItself is = refl
back IsRoot is = refl
back Locked is = refl
back Preparing is = refl
back RollingBack is = refl
back NotUpgrading is = refl
back AlreadyUpgrading is = refl
back (NotQuiet d) is = ap NotQuiet (digits_value-decimal digits d is.1)
back (Unrestored d) is = ap Unrestored (digits_value-decimal digits d is.1)
back NoServer is = refl
back (Epoch d) is = ap Epoch (digits_value-decimal digits d is)
back Old is = refl
back NotPrimary is = refl
back LeaseOver is = refl
back (Stamp d) is = ap Stamp (stamp_back d is)
back (Gap d) is = ap Gap (digits_value-decimal digits d is)
back NoData is = refl
back Range is = refl
back TooLong is = refl
back (Damaged d) is = ap Damaged (digits_value-decimal digits d is)
back NoReplica is = refl
back Unsure is = refl
back Full is = refl
back Exhausted is = refl
back Device is = refl
back Memory is = refl
back BadLine is = refl
back Config is = refl
back (Pending d) is = refl
back Stray is = refl
back NotHidden is = refl

record Ranges (a b : ℕ) (c : Bool) : Type 0 where
  first : a < 2 ^ 64
  second : b < 2 ^ 64
  third : c ≡ true

ranges : (a b : ℕ) (c : Bool) → (ltb a (2 ^ 64) && (ltb b (2 ^ 64) && c)) ≡ true → Ranges a b c
ranges a b c e =
    let one = and_parts (ltb a (2 ^ 64)) (ltb b (2 ^ 64) && c) e in
    let two = and_parts (ltb b (2 ^ 64)) c one.1 in
    record { first = ltb-true _ _ one.0; second = ltb-true _ _ two.0; third = two.1 }

in_range : (a b : ℕ) (c : Bool) → a < 2 ^ 64 → b < 2 ^ 64 → c ≡ true → (ltb a (2 ^ 64) && (ltb b (2 ^ 64) && c)) ≡ true
in_range a b c p q r = rw (lt-ltb _ _ p, lt-ltb _ _ q) r

is_range : (r : Refusal) → is_in_range r ≡ true → IsRefusal r
is_range BadPath e = tt
is_range HiddenName e = tt
is_range NotFound e = tt
is_range Exists e = tt
is_range NotADirectory e = tt
is_range IsADirectory e = tt
is_range NotEmpty e = tt
is_range IntoItself e = tt
is_range IsRoot e = tt
is_range Locked e = tt
is_range Preparing e = tt
is_range RollingBack e = tt
is_range NotUpgrading e = tt
is_range AlreadyUpgrading e = tt
is_range (NotQuiet d) e = let k = ranges d 0 (nat_le 1 d) e in (leb-true 1 d k.third, k.first)
is_range (Unrestored d) e = let k = ranges d 0 (nat_le 1 d) e in (leb-true 1 d k.third, k.first)
is_range NoServer e = tt
is_range (Epoch d) e = (ranges d 0 true e).first
is_range Old e = tt
is_range NotPrimary e = tt
is_range LeaseOver e = tt
is_range (Stamp d) e = let k = ranges d.epoch d.version true e in (k.first, k.second)
is_range (Gap d) e = (ranges d 0 true e).first
is_range NoData e = tt
is_range Range e = tt
is_range TooLong e = tt
is_range (Damaged d) e = (ranges d 0 true e).first
is_range NoReplica e = tt
is_range Unsure e = tt
is_range Full e = tt
is_range Exhausted e = tt
is_range Device e = tt
is_range Memory e = tt
is_range BadLine e = tt
is_range Config e = tt
is_range (Pending d) e = tt
is_range Stray e = tt
is_range NotHidden e = tt

has_range : (r : Refusal) → IsRefusal r → is_in_range r ≡ true
has_range BadPath is = refl
has_range HiddenName is = refl
has_range NotFound is = refl
has_range Exists is = refl
has_range NotADirectory is = refl
has_range IsADirectory is = refl
has_range NotEmpty is = refl
has_range IntoItself is = refl
has_range IsRoot is = refl
has_range Locked is = refl
has_range Preparing is = refl
has_range RollingBack is = refl
has_range NotUpgrading is = refl
has_range AlreadyUpgrading is = refl
has_range (NotQuiet d) is = in_range d 0 (nat_le 1 d) is.1 (omega arith) (le-leb 1 d is.0)
has_range (Unrestored d) is = in_range d 0 (nat_le 1 d) is.1 (omega arith) (le-leb 1 d is.0)
has_range NoServer is = refl
has_range (Epoch d) is = in_range d 0 true is (omega arith) refl
has_range Old is = refl
has_range NotPrimary is = refl
has_range LeaseOver is = refl
has_range (Stamp d) is = in_range d.epoch d.version true is.0 is.1 refl
has_range (Gap d) is = in_range d 0 true is (omega arith) refl
has_range NoData is = refl
has_range Range is = refl
has_range TooLong is = refl
has_range (Damaged d) is = in_range d 0 true is (omega arith) refl
has_range NoReplica is = refl
has_range Unsure is = refl
has_range Full is = refl
has_range Exhausted is = refl
has_range Device is = refl
has_range Memory is = refl
has_range BadLine is = refl
has_range Config is = refl
has_range (Pending d) is = refl
has_range Stray is = refl
has_range NotHidden is = refl

same_bytes : (x : List ℕ) → bytes_eq x x ≡ true
same_bytes x = (bytes_eq-Decides x x).1 refl

-- what is found is told so, and what is told so is found
found : (number : ℕ) (text : List ℕ) (m r : Refusal) → cond (is_told_by number text m) (Some m) None ≡ Some r → IsRefusal r × TellsRefusal number text r
found number text m r e =
    let k = if_some (is_told_by number text m) m r e in
    let one = and_parts (eqb (number_of m) number) (bytes_eq (detail_text m) text && is_in_range m) k.0 in
    let two = and_parts (bytes_eq (detail_text m) text) (is_in_range m) one.1 in
    subst (λ (x : Refusal). IsRefusal x × TellsRefusal number text x) k.1 (is_range m two.1, (eqb-true _ _ one.0, (bytes_eq-Decides (detail_text m) text).0 two.0))

pub told_tells : (number : ℕ) (text : List ℕ) (r : Refusal) → told number text ≡ Some r → IsRefusal r × TellsRefusal number text r
unfolding told
told_tells number text r e = found number text (may_be number text) r e

is_told : (r : Refusal) → IsRefusal r → is_told_by (number_of r) (detail_text r) r ≡ true
is_told r is = rw (eqb_itself (number_of r), same_bytes (detail_text r)) (has_range r is)

pub told_back : (r : Refusal) → IsRefusal r → told (number_of r) (detail_text r) ≡ Some r
unfolding told
told_back r is =
    ap (λ (m : Refusal). cond (is_told_by (number_of r) (detail_text r) m) (Some m) None) (back r is)
    ∙ ap (λ (b : Bool). cond b (Some r) None) (is_told r is)

-- what the relation of a number, a detail and a refusal gives is what the function gives
pub told_is : (number : ℕ) (text : List ℕ) (o : Option Refusal) → Told number text o → told number text ≡ o
told_is number text (Some r) h = ap (λ n. told n text) (sym h.1.0) ∙ ap (told (number_of r)) (sym h.1.1) ∙ told_back r h.0
told_is number text None h = none (told number text) refl where
  none : (o : Option Refusal) → told number text ≡ o → told number text ≡ None
  none (Some r) e = let t = told_tells number text r e in absurd (h r t.0 t.1)
  none None e = e

-- the numbers are 1 to 38
pub small : (r : Refusal) → number_of r < 39
small BadPath = omega arith
small HiddenName = omega arith
small NotFound = omega arith
small Exists = omega arith
small NotADirectory = omega arith
small IsADirectory = omega arith
small NotEmpty = omega arith
small IntoItself = omega arith
small IsRoot = omega arith
small Locked = omega arith
small Preparing = omega arith
small RollingBack = omega arith
small NotUpgrading = omega arith
small AlreadyUpgrading = omega arith
small (NotQuiet d) = omega arith
small (Unrestored d) = omega arith
small NoServer = omega arith
small (Epoch d) = omega arith
small Old = omega arith
small NotPrimary = omega arith
small LeaseOver = omega arith
small (Stamp d) = omega arith
small (Gap d) = omega arith
small NoData = omega arith
small Range = omega arith
small TooLong = omega arith
small (Damaged d) = omega arith
small NoReplica = omega arith
small Unsure = omega arith
small Full = omega arith
small Exhausted = omega arith
small Device = omega arith
small Memory = omega arith
small BadLine = omega arith
small Config = omega arith
small (Pending d) = omega arith
small Stray = omega arith
small NotHidden = omega arith

pub positive : (r : Refusal) → 0 < number_of r
positive BadPath = omega arith
positive HiddenName = omega arith
positive NotFound = omega arith
positive Exists = omega arith
positive NotADirectory = omega arith
positive IsADirectory = omega arith
positive NotEmpty = omega arith
positive IntoItself = omega arith
positive IsRoot = omega arith
positive Locked = omega arith
positive Preparing = omega arith
positive RollingBack = omega arith
positive NotUpgrading = omega arith
positive AlreadyUpgrading = omega arith
positive (NotQuiet d) = omega arith
positive (Unrestored d) = omega arith
positive NoServer = omega arith
positive (Epoch d) = omega arith
positive Old = omega arith
positive NotPrimary = omega arith
positive LeaseOver = omega arith
positive (Stamp d) = omega arith
positive (Gap d) = omega arith
positive NoData = omega arith
positive Range = omega arith
positive TooLong = omega arith
positive (Damaged d) = omega arith
positive NoReplica = omega arith
positive Unsure = omega arith
positive Full = omega arith
positive Exhausted = omega arith
positive Device = omega arith
positive Memory = omega arith
positive BadLine = omega arith
positive Config = omega arith
positive (Pending d) = omega arith
positive Stray = omega arith
positive NotHidden = omega arith
