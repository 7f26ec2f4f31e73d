-- The refusal of a number and a detail, as a function.
use Rattle.std.specs.Prelude.{ℕ, ◌^◌, ◌==◌, ◌&&◌, ◌||◌, Bool, not, nat_le, nat_lt, if◌then◌else◌, List, [], ◌∷◌, Option, Some, None, bytes_eq, get_or}
use Rattle.std.specs.List.{before_first, after_first}
use Rattle.std.specs.Str.Parse.{digits_value}
use Rattle.gs_base.specs.Refusals.{number_of}
use Rattle.gs_base.specs.Same.{first_detail, second_detail}
use Rattle.gs_base.specs.Told.{detail_text}
use Rattle.gs_base.specs.declared.numbers.Stamp.{Stamp as AnyStamp}
use Rattle.gs_base.specs.declared.refusal.Refusal.{Refusal}
use Rattle.gs_base.specs.declared.refusal.Refusal.TheVariants.{BadPath, HiddenName, NotFound, Exists, NotADirectory, IsADirectory, NotEmpty, IntoItself, IsRoot, Locked, Preparing, RollingBack, NotUpgrading, AlreadyUpgrading, NotQuiet, Unrestored, NoServer, Epoch, Old, NotPrimary, LeaseOver, Stamp, Gap, NoData, Range, TooLong, Damaged, NoReplica, Unsure, Full, Exhausted, Device, Memory, BadLine, Config, Pending, Stray, NotHidden}

unfoldable pub number_in : List ℕ → ℕ
number_in text = digits_value 10 text

unfoldable pub stamp_in : List ℕ → AnyStamp
stamp_in text = record { epoch = number_in (before_first (λ b. b == 46) text); version = number_in (after_first (λ b. b == 46) text) }

-- those with a number, each with the one that is read from a text; the first stands for no number
abbrev pub by_number : List ℕ → List Refusal
by_number text =
    BadPath ∷ BadPath ∷ HiddenName ∷ NotFound ∷ Exists ∷ NotADirectory ∷ IsADirectory ∷ NotEmpty ∷ IntoItself ∷ IsRoot ∷ Locked
    ∷ Preparing ∷ RollingBack ∷ NotUpgrading ∷ AlreadyUpgrading ∷ NotQuiet (number_in text) ∷ Unrestored (number_in text)
    ∷ NoServer ∷ Epoch (number_in text) ∷ Old ∷ NotPrimary ∷ LeaseOver ∷ Stamp (stamp_in text) ∷ Gap (number_in text) ∷ NoData
    ∷ Range ∷ TooLong ∷ Damaged (number_in text) ∷ NoReplica ∷ Unsure ∷ Full ∷ Exhausted ∷ Device ∷ Memory ∷ BadLine ∷ Config
    ∷ Pending text ∷ Stray ∷ NotHidden ∷ []

abbrev pub may_be : ℕ → List ℕ → Refusal
may_be number text = get_or (by_number text) number BadPath

-- whether the numbers of a detail are some that there are
abbrev pub is_in_range : Refusal → Bool
is_in_range r =
    nat_lt (first_detail r) (2 ^ 64) && (nat_lt (second_detail r) (2 ^ 64)
    && (not ((number_of r == 15) || (number_of r == 16)) || nat_le 1 (first_detail r)))

abbrev pub is_told_by : ℕ → List ℕ → Refusal → Bool
is_told_by number text r = (number_of r == number) && (bytes_eq (detail_text r) text && is_in_range r)

unfoldable pub told : ℕ → List ℕ → Option Refusal
told number text = if is_told_by number text (may_be number text) then Some (may_be number text) else None
