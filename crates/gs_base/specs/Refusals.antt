-- The number, the name and the line of each refusal.
use Rattle.std.specs.Prelude.{◌++◌, ℕ, List, codes, decimal}
use Rattle.gs_base.specs.declared.refusal.Refusal.{Refusal}
use Rattle.gs_base.specs.declared.refusal.Refusal.TheVariants.{BadPath, HiddenName, NotFound, Exists, NotADirectory, IsADirectory, NotEmpty, IntoItself, IsRoot, Locked, Preparing, RollingBack, NotUpgrading, AlreadyUpgrading, NotQuiet, Unrestored, NoServer, Epoch, Old, NotPrimary, LeaseOver, Stamp, Gap, NoData, Range, TooLong, Damaged, NoReplica, Unsure, Full, Exhausted, Device, Memory, BadLine, Config, Pending, Stray, NotHidden}
use Rattle.gs_base.specs.Numbers.{stamp_text}

abbrev pub number_of : Refusal → ℕ
number_of BadPath = 1
number_of HiddenName = 2
number_of NotFound = 3
number_of Exists = 4
number_of NotADirectory = 5
number_of IsADirectory = 6
number_of NotEmpty = 7
number_of IntoItself = 8
number_of IsRoot = 9
number_of Locked = 10
number_of Preparing = 11
number_of RollingBack = 12
number_of NotUpgrading = 13
number_of AlreadyUpgrading = 14
number_of (NotQuiet d) = 15
number_of (Unrestored d) = 16
number_of NoServer = 17
number_of (Epoch d) = 18
number_of Old = 19
number_of NotPrimary = 20
number_of LeaseOver = 21
number_of (Stamp d) = 22
number_of (Gap d) = 23
number_of NoData = 24
number_of Range = 25
number_of TooLong = 26
number_of (Damaged d) = 27
number_of NoReplica = 28
number_of Unsure = 29
number_of Full = 30
number_of Exhausted = 31
number_of Device = 32
number_of Memory = 33
number_of BadLine = 34
number_of Config = 35
number_of (Pending d) = 36
number_of Stray = 37
number_of NotHidden = 38

abbrev pub name_of : Refusal → List ℕ
name_of BadPath = codes "BadPath"
name_of HiddenName = codes "HiddenName"
name_of NotFound = codes "NotFound"
name_of Exists = codes "Exists"
name_of NotADirectory = codes "NotADirectory"
name_of IsADirectory = codes "IsADirectory"
name_of NotEmpty = codes "NotEmpty"
name_of IntoItself = codes "IntoItself"
name_of IsRoot = codes "IsRoot"
name_of Locked = codes "Locked"
name_of Preparing = codes "Preparing"
name_of RollingBack = codes "RollingBack"
name_of NotUpgrading = codes "NotUpgrading"
name_of AlreadyUpgrading = codes "AlreadyUpgrading"
name_of (NotQuiet d) = codes "NotQuiet"
name_of (Unrestored d) = codes "Unrestored"
name_of NoServer = codes "NoServer"
name_of (Epoch d) = codes "Epoch"
name_of Old = codes "Old"
name_of NotPrimary = codes "NotPrimary"
name_of LeaseOver = codes "LeaseOver"
name_of (Stamp d) = codes "Stamp"
name_of (Gap d) = codes "Gap"
name_of NoData = codes "NoData"
name_of Range = codes "Range"
name_of TooLong = codes "TooLong"
name_of (Damaged d) = codes "Damaged"
name_of NoReplica = codes "NoReplica"
name_of Unsure = codes "Unsure"
name_of Full = codes "Full"
name_of Exhausted = codes "Exhausted"
name_of Device = codes "Device"
name_of Memory = codes "Memory"
name_of BadLine = codes "BadLine"
name_of Config = codes "Config"
name_of (Pending d) = codes "Pending"
name_of Stray = codes "Stray"
name_of NotHidden = codes "NotHidden"

-- number and name, separated by a space
abbrev pub plain_text : Refusal → List ℕ
plain_text r = codes "refused " ++ (decimal (number_of r) ++ (codes " " ++ name_of r))

-- the same, with a detail behind it
abbrev pub detailed_text : Refusal → List ℕ → List ℕ
detailed_text r detail = codes "refused " ++ (decimal (number_of r) ++ (codes " " ++ (name_of r ++ (codes " " ++ detail))))

abbrev pub refusal_text : Refusal → List ℕ
refusal_text BadPath = plain_text BadPath
refusal_text HiddenName = plain_text HiddenName
refusal_text NotFound = plain_text NotFound
refusal_text Exists = plain_text Exists
refusal_text NotADirectory = plain_text NotADirectory
refusal_text IsADirectory = plain_text IsADirectory
refusal_text NotEmpty = plain_text NotEmpty
refusal_text IntoItself = plain_text IntoItself
refusal_text IsRoot = plain_text IsRoot
refusal_text Locked = plain_text Locked
refusal_text Preparing = plain_text Preparing
refusal_text RollingBack = plain_text RollingBack
refusal_text NotUpgrading = plain_text NotUpgrading
refusal_text AlreadyUpgrading = plain_text AlreadyUpgrading
refusal_text (NotQuiet d) = detailed_text (NotQuiet d) (decimal d)
refusal_text (Unrestored d) = detailed_text (Unrestored d) (decimal d)
refusal_text NoServer = plain_text NoServer
refusal_text (Epoch d) = detailed_text (Epoch d) (decimal d)
refusal_text Old = plain_text Old
refusal_text NotPrimary = plain_text NotPrimary
refusal_text LeaseOver = plain_text LeaseOver
refusal_text (Stamp d) = detailed_text (Stamp d) (stamp_text d)
refusal_text (Gap d) = detailed_text (Gap d) (decimal d)
refusal_text NoData = plain_text NoData
refusal_text Range = plain_text Range
refusal_text TooLong = plain_text TooLong
refusal_text (Damaged d) = detailed_text (Damaged d) (decimal d)
refusal_text NoReplica = plain_text NoReplica
refusal_text Unsure = plain_text Unsure
refusal_text Full = plain_text Full
refusal_text Exhausted = plain_text Exhausted
refusal_text Device = plain_text Device
refusal_text Memory = plain_text Memory
refusal_text BadLine = plain_text BadLine
refusal_text Config = plain_text Config
refusal_text (Pending d) = detailed_text (Pending d) (d)
refusal_text Stray = plain_text Stray
refusal_text NotHidden = plain_text NotHidden
