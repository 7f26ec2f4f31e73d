-- What is kept of two disks, of which one counts.
use Rattle.std.specs.Prelude.{◌≡◌, ◌+◌, ℕ, Bool, not, if◌then◌else◌, List, true}
use Rattle.gs_journal_disk.specs.Disk.{Only}
use Rattle.gs_journal.specs.Records.{Text, is_begun, version_of, generation_of, second_counts, standing}
use Rattle.gs_journal.specs.inner.Rest.{IsAtRest}
use Rattle.gs_journal.specs.declared.pair.Pair.{Pair}

-- the bytes of the disk that counts
abbrev pub counting : {D : Type 0} → (D → List ℕ) → Pair D → List ℕ
counting seen p = if p.is_second then seen p.second else seen p.first

-- what the disks say
abbrev pub text : {D : Type 0} → (D → List ℕ) → Pair D → Text
text seen p = standing (seen p.first) (seen p.second)

-- Both disks are on the disk as a read gives them, and the one that counts is known and at rest.
pub record IsSettled {D : Type 0} (seen : D → List ℕ) (may_leave : D → List ℕ → Type 0) (p : Pair D) : Type 0 where
  pub counts : second_counts (seen p.first) (seen p.second) ≡ p.is_second
  pub begun : is_begun (counting seen p) ≡ true
  pub rest : IsAtRest p.end (counting seen p)
  pub version : p.version ≡ version_of (counting seen p)
  pub generation : p.generation ≡ generation_of (counting seen p)
  pub first : Only (seen p.first) (may_leave p.first)
  pub second : Only (seen p.second) (may_leave p.second)

abbrev pub failures_of_pair : {D : Type 0} → (D → ℕ) → Pair D → ℕ
failures_of_pair failures p = failures p.first + failures p.second

abbrev pub disk_of : {D : Type 0} → Bool → Pair D → D
disk_of is_second p = if is_second then p.second else p.first

-- the call leaves the disk that doesn't count
abbrev pub LeavesOther : {D : Type 0} → Pair D → Pair D → Type 0
LeavesOther old new = disk_of (not old.is_second) new ≡ disk_of (not old.is_second) old

-- the call leaves the disk that counted before it
abbrev pub LeavesCounting : {D : Type 0} → Pair D → Pair D → Type 0
LeavesCounting old new = disk_of old.is_second new ≡ disk_of old.is_second old

-- the call changes neither what counts nor where its records end
pub record KeepsPlace {D : Type 0} (old new : Pair D) : Type 0 where
  pub side : new.is_second ≡ old.is_second
  pub version : new.version ≡ old.version
  pub generation : new.generation ≡ old.generation
  pub end : new.end ≡ old.end
