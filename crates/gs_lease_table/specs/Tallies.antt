-- Of how many settled views each server is a member, and how many have a primary.
use Rattle.std.specs.Prelude.{◌≡◌, ◌+◌, ◌<◌, ◌≤◌, ◌^◌, ℕ, Bool, List, [], ◌∷◌, length, slice_index, Option, Some, None, option_and_then, is_some, if◌then◌else◌, refl}
use Rattle.gs_base.specs.Members.{is_member}
use Rattle.gs_lease.specs.Told.{told_of}
use Rattle.gs_lease.specs.declared.lease.Lease.{Lease}
use Rattle.gs_lease.specs.declared.lease.Lease.TheVariants.{Quiet, Moving}
use Rattle.gs_lease.specs.declared.view.Purpose.TheVariants as purposes
use Rattle.gs_lease.specs.declared.view.View.{View}
use Rattle.gs_lease_table.specs.declared.tally.Brief.{Brief}
use Rattle.gs_lease_table.specs.declared.tally.Tally.{Tally}

-- the members of a view, if there is one
abbrev pub members_of : Option View → List ℕ
members_of None = []
members_of (Some view) = view.members

-- the members of the view of a chunk that was settled last
abbrev pub settled_members : Lease → List ℕ
settled_members lease = members_of (told_of lease).settled

-- the sum over all leases
abbrev pub tally : (Lease → ℕ) → List (ℕ × Lease) → ℕ
tally weight [] = 0
tally weight (e ∷ es) = weight e.1 + tally weight es

-- a server counts once for a chunk of whose settled view it is a member
abbrev pub one_on : ℕ → Lease → ℕ
one_on server lease = if is_member (settled_members lease) server then 1 else 0

-- of how many settled views a server is a member
abbrev pub replicas : ℕ → List (ℕ × Lease) → ℕ
replicas server = tally (one_on server)

-- the view that was settled last has a primary
abbrev pub has_primary : Lease → Bool
has_primary lease = is_some (option_and_then (λ (v : View). v.term) (told_of lease).settled)

abbrev pub one_primary : Lease → ℕ
one_primary lease = if has_primary lease then 1 else 0

-- these are the counts of all servers
pub record AreReplicas (leases : List (ℕ × Lease)) (counts : List ℕ) : Type 0 where
  pub each : (server : ℕ) → server < 16 → slice_index counts server ≡ replicas server leases

-- what is counted of these leases
pub record IsTallyOf (leases : List (ℕ × Lease)) (t : Tally) : Type 0 where
  pub replicas : AreReplicas leases t.replicas
  pub primaries : t.primaries ≡ tally one_primary leases

-- ---- what decides where a lease counts

abbrev pub brief_of : Lease → Brief
brief_of lease = record { members = settled_members lease; many = length (settled_members lease); is_leased = has_primary lease }

abbrev pub briefs_of : Option Lease → Option Brief
briefs_of None = None
briefs_of (Some lease) = Some (brief_of lease)

abbrev pub primaries_of : Brief → ℕ
primaries_of brief = if brief.is_leased then 1 else 0

-- once on each server that is a member
abbrev pub counts_on : ℕ → Option Brief → ℕ
counts_on server None = 0
counts_on server (Some brief) = if is_member brief.members server then 1 else 0

abbrev pub counts_leased : Option Brief → ℕ
counts_leased None = 0
counts_leased (Some brief) = primaries_of brief

-- ---- a lease more

pub record AddsMembers (members old new : List ℕ) : Type 0 where
  pub each : (server : ℕ) → server < 16 → slice_index new server ≡ slice_index old server + (if is_member members server then 1 else 0)

pub record Adds (brief : Option Brief) (old new : Tally) : Type 0 where
  pub replicas : (server : ℕ) → server < 16 → slice_index new.replicas server ≡ slice_index old.replicas server + counts_on server brief
  pub primaries : new.primaries ≡ old.primaries + counts_leased brief

pub record CanCount (t : Tally) : Type 0 where
  pub replicas : (server : ℕ) → server < 16 → slice_index t.replicas server < 2 ^ 63
  pub primaries : t.primaries < 2 ^ 63

-- ---- a lease less

pub record HasMembers (members counts : List ℕ) : Type 0 where
  pub each : (server : ℕ) → server < 16 → (if is_member members server then 1 else 0) ≤ slice_index counts server

pub record HasCounted (brief : Option Brief) (t : Tally) : Type 0 where
  pub replicas : (server : ℕ) → server < 16 → counts_on server brief ≤ slice_index t.replicas server
  pub primaries : counts_leased brief ≤ t.primaries

-- ---- a lease in the place of another one

pub record Exchanges (before after : Option Brief) (old new : Tally) : Type 0 where
  pub replicas : (server : ℕ) → server < 16 → slice_index new.replicas server + counts_on server before ≡ slice_index old.replicas server + counts_on server after
  pub primaries : new.primaries + counts_leased before ≡ old.primaries + counts_leased after

-- ---- examples: chunk 1 stands on servers 0 and 2, chunk 2 on server 2 and moves, chunk 3 is new

abbrev pub on_two : Lease
on_two = Quiet (record { stamp = record { epoch = 0; version = 1 }; count = 4; members = 0 ∷ 2 ∷ [] })

abbrev pub moves : Lease
moves = Moving (record { settled = Some (record { stamp = record { epoch = 0; version = 2 }; count = 0; members = 2 ∷ []; term = None }); stamp = record { epoch = 0; version = 3 }; purpose = purposes.Quiet; asked = 2 ∷ [] })

abbrev pub is_new : Lease
is_new = Moving (record { settled = None; stamp = record { epoch = 0; version = 4 }; purpose = purposes.Quiet; asked = 0 ∷ 1 ∷ [] })

on_server_2 : replicas 2 ((1, on_two) ∷ (2, moves) ∷ (3, is_new) ∷ []) ≡ 2
on_server_2 = refl

on_server_0 : replicas 0 ((1, on_two) ∷ (2, moves) ∷ (3, is_new) ∷ []) ≡ 1
on_server_0 = refl

asked_alone_counts_nowhere : replicas 1 ((1, on_two) ∷ (2, moves) ∷ (3, is_new) ∷ []) ≡ 0
asked_alone_counts_nowhere = refl

none_has_a_primary : tally one_primary ((1, on_two) ∷ (2, moves) ∷ (3, is_new) ∷ []) ≡ 0
none_has_a_primary = refl
