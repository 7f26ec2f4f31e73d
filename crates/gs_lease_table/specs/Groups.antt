-- Chunks by groups: those of whose settled views a server is a member, those that have a primary, those that have so many members.
use Rattle.std.specs.Prelude.{◌≡◌, ◌⊎◌, ◌<◌, ◌-◌, ◌==◌, ◌&&◌, ◌||◌, ℕ, Bool, true, false, List, [], length, nat_lt, slice_index_or, Option, Some, None, is_some, if◌then◌else◌, refl}
use Rattle.std.specs.Ordering.{nat_cmp}
use Rattle.std.specs.FinMap as fin
use Rattle.gs_base.specs.Members.{has_bit, is_member}
use Rattle.gs_base_table.specs.Slots.{live}
use Rattle.gs_lease.specs.declared.lease.Lease.{Lease}
use Rattle.gs_lease_table.specs.declared.tally.Brief.{Brief}
use Rattle.gs_lease_table.specs.Tallies.{brief_of, is_new, moves, on_two}

-- a chunk is in a group: those of the servers come first, then that of the primaries, then one for each number of members
abbrev pub belongs_by : ℕ → Brief → Bool
belongs_by group brief = if nat_lt group 16 then is_member brief.members group else if group == 16 then brief.is_leased else (brief.many == group - 17)

-- so is the chunk of a lease
abbrev pub belongs : ℕ → Lease → Bool
belongs group lease = belongs_by group (brief_of lease)

-- and a chunk that is perhaps there
abbrev pub is_in : ℕ → Option Brief → Bool
is_in group None = false
is_in group (Some brief) = belongs_by group brief

-- bit i of a number says whether the chunk is in group i
pub record AreBitsOf (brief : Option Brief) (groups : ℕ) : Type 0 where
  pub each : (group : ℕ) → group < 34 → has_bit groups group ≡ is_in group brief

-- one bit more, where it is to be
abbrev pub Enters : ℕ → Bool → ℕ → ℕ → Type 0
Enters group is old new = (i : ℕ) → has_bit new i ≡ ((is && (i == group)) || has_bit old i)

-- a lease is there and passes
abbrev pub passes : (Lease → Bool) → Option Lease → Bool
passes test None = false
passes test (Some lease) = test lease

-- just the chunks whose leases pass
pub record AreThose (test : Lease → Bool) (leases : fin.FinMap nat_cmp Lease) (chunks : fin.FinMap nat_cmp Bool) : Type 0 where
  pub each : (chunk : ℕ) → is_some (fin.get chunks chunk) ≡ passes test (fin.get leases chunk)

-- the chunks of a group that is kept
abbrev pub chunks_at : List (List (ℕ × Option Bool)) → ℕ → fin.FinMap nat_cmp Bool
chunks_at sets group = live nat_cmp (slice_index_or sets group [])

-- each group that is kept is what it is to be
pub record AreGroupsOf (leases : fin.FinMap nat_cmp Lease) (sets : List (List (ℕ × Option Bool))) : Type 0 where
  pub each : (group : ℕ) → group < length sets → AreThose (belongs group) leases (chunks_at sets group)

-- a chunk comes into a group where it is to be and wasn't, and goes out of one where it was and isn't to be
abbrev pub changed : Bool → Bool → ℕ → fin.FinMap nat_cmp Bool → fin.FinMap nat_cmp Bool
changed was is chunk chunks = if is then (if was then chunks else fin.insert chunks chunk true) else (if was then fin.remove chunks chunk else chunks)

-- each group is changed so
pub record Changes (chunk : ℕ) (before after : Option Brief) (old new : List (List (ℕ × Option Bool))) : Type 0 where
  pub size : length new ≡ length old
  pub each : (group : ℕ) → group < length old → chunks_at new group ≡ changed (is_in group before) (is_in group after) chunk (chunks_at old group)

-- the same, where bits say in which groups the chunk was and is to be
pub record ChangesBits (chunk was is : ℕ) (old new : List (List (ℕ × Option Bool))) : Type 0 where
  pub size : length new ≡ length old
  pub each : (group : ℕ) → group < length old → chunks_at new group ≡ changed (has_bit was group) (has_bit is group) chunk (chunks_at old group)

-- or none is kept any more
abbrev pub Exchanges : ℕ → Option Brief → Option Brief → List (List (ℕ × Option Bool)) → List (List (ℕ × Option Bool)) → Type 0
Exchanges chunk before after old new = Changes chunk before after old new ⊎ (new ≡ [])

pub record AreEmpty (sets : List (List (ℕ × Option Bool))) : Type 0 where
  pub each : (group : ℕ) → group < length sets → chunks_at sets group ≡ fin.empty

-- ---- examples

it_is_on_server_2 : belongs 2 on_two ≡ true
it_is_on_server_2 = refl

it_is_not_on_server_1 : belongs 1 on_two ≡ false
it_is_not_on_server_1 = refl

it_has_two_members : belongs 19 on_two ≡ true
it_has_two_members = refl

it_has_one_member_as_it_moves : belongs 18 moves ≡ true
it_has_one_member_as_it_moves = refl

it_has_no_primary : belongs 16 on_two ≡ false
it_has_no_primary = refl

it_has_no_member_yet : belongs 17 is_new ≡ true
it_has_no_member_yet = refl
