-- A refusal as a journal tells it: by its number, and by its detail as a text.
use Rattle.std.specs.Prelude.{◌≡◌, ◌<◌, ◌≤◌, ◌^◌, ℕ, List, [], Option, Some, None, ⊤, decimal, refl}
use Rattle.gs_base.specs.Numbers.{stamp_text}
use Rattle.gs_base.specs.Refusals.{number_of}
use Rattle.gs_base.specs.declared.numbers.Stamp.{Stamp as AnyStamp}
use Rattle.gs_base.specs.declared.refusal.Refusal.{Refusal}
use Rattle.gs_base.specs.declared.refusal.Refusal.TheVariants.{BadPath, HiddenName, NotFound, Exists, NotADirectory, IsADirectory, NotEmpty, IntoItself, IsRoot, Locked, Preparing, RollingBack, NotUpgrading, AlreadyUpgrading, NotQuiet, Unrestored, NoServer, Epoch, Old, NotPrimary, LeaseOver, Stamp, Gap, NoData, Range, TooLong, Damaged, NoReplica, Unsure, Full, Exhausted, Device, Memory, BadLine, Config, Pending, Stray, NotHidden}

-- the detail as the line of a refusal has it, and nothing where it has none
abbrev pub detail_text : Refusal → List ℕ
detail_text BadPath = []
detail_text HiddenName = []
detail_text NotFound = []
detail_text Exists = []
detail_text NotADirectory = []
detail_text IsADirectory = []
detail_text NotEmpty = []
detail_text IntoItself = []
detail_text IsRoot = []
detail_text Locked = []
detail_text Preparing = []
detail_text RollingBack = []
detail_text NotUpgrading = []
detail_text AlreadyUpgrading = []
detail_text (NotQuiet d) = decimal d
detail_text (Unrestored d) = decimal d
detail_text NoServer = []
detail_text (Epoch d) = decimal d
detail_text Old = []
detail_text NotPrimary = []
detail_text LeaseOver = []
detail_text (Stamp d) = stamp_text d
detail_text (Gap d) = decimal d
detail_text NoData = []
detail_text Range = []
detail_text TooLong = []
detail_text (Damaged d) = decimal d
detail_text NoReplica = []
detail_text Unsure = []
detail_text Full = []
detail_text Exhausted = []
detail_text Device = []
detail_text Memory = []
detail_text BadLine = []
detail_text Config = []
detail_text (Pending d) = d
detail_text Stray = []
detail_text NotHidden = []

-- what 64 bits hold
abbrev pub IsNumber : ℕ → Type 0
IsNumber n = n < 2 ^ 64

abbrev pub IsStamp : AnyStamp → Type 0
IsStamp s = IsNumber s.epoch × IsNumber s.version

-- the details that there are: a handle isn't 0
abbrev pub IsRefusal : Refusal → Type 0
IsRefusal BadPath = ⊤
IsRefusal HiddenName = ⊤
IsRefusal NotFound = ⊤
IsRefusal Exists = ⊤
IsRefusal NotADirectory = ⊤
IsRefusal IsADirectory = ⊤
IsRefusal NotEmpty = ⊤
IsRefusal IntoItself = ⊤
IsRefusal IsRoot = ⊤
IsRefusal Locked = ⊤
IsRefusal Preparing = ⊤
IsRefusal RollingBack = ⊤
IsRefusal NotUpgrading = ⊤
IsRefusal AlreadyUpgrading = ⊤
IsRefusal (NotQuiet d) = (1 ≤ d) × IsNumber d
IsRefusal (Unrestored d) = (1 ≤ d) × IsNumber d
IsRefusal NoServer = ⊤
IsRefusal (Epoch d) = IsNumber d
IsRefusal Old = ⊤
IsRefusal NotPrimary = ⊤
IsRefusal LeaseOver = ⊤
IsRefusal (Stamp d) = IsStamp d
IsRefusal (Gap d) = IsNumber d
IsRefusal NoData = ⊤
IsRefusal Range = ⊤
IsRefusal TooLong = ⊤
IsRefusal (Damaged d) = IsNumber d
IsRefusal NoReplica = ⊤
IsRefusal Unsure = ⊤
IsRefusal Full = ⊤
IsRefusal Exhausted = ⊤
IsRefusal Device = ⊤
IsRefusal Memory = ⊤
IsRefusal BadLine = ⊤
IsRefusal Config = ⊤
IsRefusal (Pending d) = ⊤
IsRefusal Stray = ⊤
IsRefusal NotHidden = ⊤

abbrev pub TellsRefusal : ℕ → List ℕ → Refusal → Type 0
TellsRefusal number detail r = (number_of r ≡ number) × (detail_text r ≡ detail)

-- the refusal of this number and this detail, and none only where there is none
abbrev pub Told : ℕ → List ℕ → Option Refusal → Type 0
Told number detail (Some r) = IsRefusal r × TellsRefusal number detail r
Told number detail None = (r : Refusal) → IsRefusal r → ¬ TellsRefusal number detail r

-- the number that a text is printed for
abbrev pub IsNumberIn : List ℕ → Option ℕ → Type 0
IsNumberIn text (Some n) = IsNumber n × (decimal n ≡ text)
IsNumberIn text None = (n : ℕ) → IsNumber n → ¬ (decimal n ≡ text)

abbrev pub IsStampIn : List ℕ → Option AnyStamp → Type 0
IsStampIn text (Some s) = IsStamp s × (stamp_text s ≡ text)
IsStampIn text None = (s : AnyStamp) → IsStamp s → ¬ (stamp_text s ≡ text)

-- what a record says of the refusals `22 Stamp 0.3`, `23 Gap 7` and `19 Old`
a_stamp_told : TellsRefusal 22 (stamp_text (record { epoch = 0; version = 3 })) (Stamp (record { epoch = 0; version = 3 }))
a_stamp_told = (refl, refl)

a_count_told : TellsRefusal 23 (decimal 7) (Gap 7)
a_count_told = (refl, refl)

no_detail_told : TellsRefusal 19 [] Old
no_detail_told = (refl, refl)
