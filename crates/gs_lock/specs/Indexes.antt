-- How many locks read each path, write it, and belong to each operation.
use Rattle.std.specs.Prelude.{◌≡◌, ◌&&◌, ◌||◌, not, nat_lt, ℕ, ◌+◌, ◌<◌, ◌^◌, Bool, true, false, List, cond, count_by}
use Rattle.std.specs.List.{list_any}
use Rattle.std.specs.BTreeMap.{is_at}
use Rattle.gs_base.specs.declared.numbers.ReqId.{ReqId}
use Rattle.gs_path.specs.Path.{Path, path_cmp}
use Rattle.gs_lock.specs.declared.lock.Lock.{Lock}
use Rattle.gs_lock.specs.declared.index.Index.{Index}
use Rattle.gs_lock.specs.Locks.{same_path}
use Rattle.gs_lock.specs.Operations.{op_cmp}
use Rattle.gs_lock.specs.Tallies.{count_in, IsTight as IsTightTally}

abbrev pub reads_at : Index → Path → ℕ
reads_at index path = count_in path_cmp index.reads.counts path

abbrev pub writes_at : Index → Path → ℕ
writes_at index path = count_in path_cmp index.writes.counts path

abbrev pub held_at : Index → ReqId → ℕ
held_at index op = count_in op_cmp index.held.counts op

abbrev pub in_the_way : Index → List Path → List Path → Bool
in_the_way index reads writes =
    list_any (λ path. nat_lt 0 (writes_at index path)) reads || list_any (λ path. nat_lt 0 (reads_at index path) || nat_lt 0 (writes_at index path)) writes

abbrev pub reads_path : Path → Lock → Bool
reads_path path lock = not lock.writes && same_path lock.path path

abbrev pub writes_path : Path → Lock → Bool
writes_path path lock = lock.writes && same_path lock.path path

abbrev pub is_of : ReqId → Lock → Bool
is_of op lock = is_at (op_cmp lock.op) op

-- nothing is kept of a path or an operation that no lock names
pub record IsTight (index : Index) : Type 0 where
  pub reads : IsTightTally path_cmp index.reads.counts
  pub writes : IsTightTally path_cmp index.writes.counts
  pub held : IsTightTally op_cmp index.held.counts

-- the index of these locks
pub record IsIndexed (locks : List Lock) (index : Index) : Type 0 where
  pub reads : (path : Path) → reads_at index path ≡ count_by (reads_path path) locks
  pub writes : (path : Path) → writes_at index path ≡ count_by (writes_path path) locks
  pub held : (op : ReqId) → held_at index op ≡ count_by (is_of op) locks
  pub tight : IsTight index

pub record SameIndex (old new : Index) : Type 0 where
  pub reads : (path : Path) → reads_at new path ≡ reads_at old path
  pub writes : (path : Path) → writes_at new path ≡ writes_at old path
  pub held : (op : ReqId) → held_at new op ≡ held_at old op

pub record SamePaths (old new : Index) : Type 0 where
  pub reads : (path : Path) → reads_at new path ≡ reads_at old path
  pub writes : (path : Path) → writes_at new path ≡ writes_at old path

-- one more lock reads the path, or writes it
pub record CountsPath (old new : Index) (writes : Bool) (path : Path) : Type 0 where
  pub reads : (other : Path) → reads_at new other ≡ reads_at old other + cond (not writes && same_path path other) 1 0
  pub writes_are : (other : Path) → writes_at new other ≡ writes_at old other + cond (writes && same_path path other) 1 0

pub record AddsLock (old new : Index) (lock : Lock) : Type 0 where
  pub reads : (path : Path) → reads_at new path ≡ reads_at old path + cond (reads_path path lock) 1 0
  pub writes : (path : Path) → writes_at new path ≡ writes_at old path + cond (writes_path path lock) 1 0
  pub held : (op : ReqId) → held_at new op ≡ held_at old op + cond (is_of op lock) 1 0

-- no number becomes too great
pub record Fits (index : Index) (lock : Lock) : Type 0 where
  pub reads : reads_at index lock.path + 1 < 2 ^ 64
  pub writes : writes_at index lock.path + 1 < 2 ^ 64
  pub held : held_at index lock.op + 1 < 2 ^ 64

-- the lock is among those of the index
pub record HasLock (index : Index) (lock : Lock) : Type 0 where
  pub reads : lock.writes ≡ false → 0 < reads_at index lock.path
  pub writes : lock.writes ≡ true → 0 < writes_at index lock.path
  pub held : 0 < held_at index lock.op
