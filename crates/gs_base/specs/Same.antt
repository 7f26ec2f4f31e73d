-- When two refusals are the same: number and details are.
use Rattle.std.specs.Prelude.{◌==◌, ◌&&◌, Bool, ℕ, List, [], nat_eq}
use Rattle.std.specs.Cmp.{IsEquivalence, nat_eq_equiv, on_equiv, and_equiv}
use Rattle.std.specs.Cmp.Lexicographic.{pointwise, nat_list_eq_equiv}
use Rattle.gs_base.specs.Refusals.{number_of}
use Rattle.gs_base.specs.declared.refusal.Refusal.{Refusal}
use Rattle.gs_base.specs.declared.refusal.Refusal.TheVariants.{BadPath, HiddenName, NotFound, Exists, NotADirectory, IsADirectory, NotEmpty, IntoItself, IsRoot, Locked, Preparing, RollingBack, NotUpgrading, AlreadyUpgrading, NotQuiet, Unrestored, NoServer, Epoch, Old, NotPrimary, LeaseOver, Stamp, Gap, NoData, Range, TooLong, Damaged, NoReplica, Unsure, Full, Exhausted, Device, Memory, BadLine, Config, Pending, Stray, NotHidden}

-- the number in the detail, or a stamp's epoch
abbrev pub first_detail : Refusal → ℕ
first_detail BadPath = 0
first_detail HiddenName = 0
first_detail NotFound = 0
first_detail Exists = 0
first_detail NotADirectory = 0
first_detail IsADirectory = 0
first_detail NotEmpty = 0
first_detail IntoItself = 0
first_detail IsRoot = 0
first_detail Locked = 0
first_detail Preparing = 0
first_detail RollingBack = 0
first_detail NotUpgrading = 0
first_detail AlreadyUpgrading = 0
first_detail (NotQuiet d) = d
first_detail (Unrestored d) = d
first_detail NoServer = 0
first_detail (Epoch d) = d
first_detail Old = 0
first_detail NotPrimary = 0
first_detail LeaseOver = 0
first_detail (Stamp d) = d.epoch
first_detail (Gap d) = d
first_detail NoData = 0
first_detail Range = 0
first_detail TooLong = 0
first_detail (Damaged d) = d
first_detail NoReplica = 0
first_detail Unsure = 0
first_detail Full = 0
first_detail Exhausted = 0
first_detail Device = 0
first_detail Memory = 0
first_detail BadLine = 0
first_detail Config = 0
first_detail (Pending d) = 0
first_detail Stray = 0
first_detail NotHidden = 0

-- a stamp's version
abbrev pub second_detail : Refusal → ℕ
second_detail BadPath = 0
second_detail HiddenName = 0
second_detail NotFound = 0
second_detail Exists = 0
second_detail NotADirectory = 0
second_detail IsADirectory = 0
second_detail NotEmpty = 0
second_detail IntoItself = 0
second_detail IsRoot = 0
second_detail Locked = 0
second_detail Preparing = 0
second_detail RollingBack = 0
second_detail NotUpgrading = 0
second_detail AlreadyUpgrading = 0
second_detail (NotQuiet d) = 0
second_detail (Unrestored d) = 0
second_detail NoServer = 0
second_detail (Epoch d) = 0
second_detail Old = 0
second_detail NotPrimary = 0
second_detail LeaseOver = 0
second_detail (Stamp d) = d.version
second_detail (Gap d) = 0
second_detail NoData = 0
second_detail Range = 0
second_detail TooLong = 0
second_detail (Damaged d) = 0
second_detail NoReplica = 0
second_detail Unsure = 0
second_detail Full = 0
second_detail Exhausted = 0
second_detail Device = 0
second_detail Memory = 0
second_detail BadLine = 0
second_detail Config = 0
second_detail (Pending d) = 0
second_detail Stray = 0
second_detail NotHidden = 0

abbrev pub path_detail : Refusal → List ℕ
path_detail BadPath = []
path_detail HiddenName = []
path_detail NotFound = []
path_detail Exists = []
path_detail NotADirectory = []
path_detail IsADirectory = []
path_detail NotEmpty = []
path_detail IntoItself = []
path_detail IsRoot = []
path_detail Locked = []
path_detail Preparing = []
path_detail RollingBack = []
path_detail NotUpgrading = []
path_detail AlreadyUpgrading = []
path_detail (NotQuiet d) = []
path_detail (Unrestored d) = []
path_detail NoServer = []
path_detail (Epoch d) = []
path_detail Old = []
path_detail NotPrimary = []
path_detail LeaseOver = []
path_detail (Stamp d) = []
path_detail (Gap d) = []
path_detail NoData = []
path_detail Range = []
path_detail TooLong = []
path_detail (Damaged d) = []
path_detail NoReplica = []
path_detail Unsure = []
path_detail Full = []
path_detail Exhausted = []
path_detail Device = []
path_detail Memory = []
path_detail BadLine = []
path_detail Config = []
path_detail (Pending d) = d
path_detail Stray = []
path_detail NotHidden = []

unfoldable pub is_same : Refusal → Refusal → Bool
is_same r s = (number_of r == number_of s) && ((first_detail r == first_detail s) && ((second_detail r == second_detail s) && pointwise nat_eq (path_detail r) (path_detail s)))

pub is_same-equiv : IsEquivalence is_same
unfolding is_same
is_same-equiv = and_equiv (on_equiv number_of nat_eq_equiv) (and_equiv (on_equiv first_detail nat_eq_equiv) (and_equiv (on_equiv second_detail nat_eq_equiv) (on_equiv path_detail nat_list_eq_equiv)))
