-- On which servers replicas are put. Servers that are taken, as members or as targets picked before, are no
-- candidates, and their racks are used.
use Rattle.std.specs.Prelude.{◌≡◌, ◌≢◌, ℕ, ◌%◌, ◌==◌, ◌<◌, ◌&&◌, not, Bool, true, false, cond, List, [], ◌∷◌, Option, Some, None, nat_lt, slice_index, length, filter, find, Result, MatchResult, refl, zero, suc}
use Rattle.std.specs.List.{list_any, list_all}
use Rattle.std.specs.Option.{option_and_then}
use Rattle.gs_base.specs.declared.refusal.Refusal.{Refusal}
use Rattle.gs_base.specs.declared.refusal.Refusal.TheVariants.{NoServer}
use Rattle.gs_base.specs.Members.{count_from, servers_where, is_member, with_member}
use Rattle.gs_place.specs.Order.{precedes, rank}

-- server i stands in rack i modulo the number of racks
abbrev pub rack_of : ℕ → ℕ → ℕ
rack_of racks server = server % racks

abbrev pub is_rack_used : ℕ → List ℕ → ℕ → Bool
is_rack_used racks taken server = list_any (λ other. rack_of racks other == rack_of racks server) taken

abbrev pub is_candidate : ℕ → List ℕ → ℕ → Bool
is_candidate servers taken server = nat_lt server servers && not (is_member taken server)

abbrev pub rack_rank : ℕ → List ℕ → ℕ → ℕ
rack_rank racks taken server = rank (not (is_rack_used racks taken server))

-- an unused rack, then fewer replicas, then the lower number
abbrev pub comes_before : ℕ → List ℕ → List ℕ → ℕ → ℕ → Bool
comes_before racks replicas taken server other =
    precedes (rack_rank racks taken server) (rack_rank racks taken other) (slice_index replicas server) (slice_index replicas other) server other

-- a candidate that comes before every other
pub record IsFirst (servers racks : ℕ) (replicas taken : List ℕ) (server : ℕ) : Type 0 where
  pub candidate : is_candidate servers taken server ≡ true
  pub first : (other : ℕ) → is_candidate servers taken other ≡ true → other ≢ server → comes_before racks replicas taken server other ≡ true

-- each of these is the first among those that are left
abbrev pub EachIsFirst : ℕ → ℕ → List ℕ → List ℕ → List ℕ → Type 0
EachIsFirst servers racks replicas taken [] = Unit {0}
EachIsFirst servers racks replicas taken (target ∷ picked) =
    IsFirst servers racks replicas taken target × EachIsFirst servers racks replicas (with_member taken target) picked

abbrev pub taken_with : List ℕ → List ℕ → List ℕ
taken_with taken [] = taken
taken_with taken (target ∷ picked) = taken_with (with_member taken target) picked

-- as many targets as are wanted, each the first when it is picked
pub record AreTargets (servers racks : ℕ) (replicas present : List ℕ) (wanted : ℕ) (targets : List ℕ) : Type 0 where
  pub picked : List ℕ
  pub number : length picked ≡ wanted
  pub first : EachIsFirst servers racks replicas present picked
  pub set : targets ≡ servers_where (is_member picked)

-- no candidate is left when fewer than are wanted have been picked
pub record RunsOut (servers racks : ℕ) (replicas present : List ℕ) (wanted : ℕ) : Type 0 where
  pub picked : List ℕ
  pub number : length picked < wanted
  pub first : EachIsFirst servers racks replicas present picked
  pub none : (server : ℕ) → is_candidate servers (taken_with present picked) server ≡ false

-- the same as functions: the candidate that no other comes before, and the set of those picked one by one
abbrev pub candidates : ℕ → List ℕ → List ℕ
candidates servers taken = filter (is_candidate servers taken) (count_from 0 servers)

abbrev pub first_candidate : ℕ → ℕ → List ℕ → List ℕ → Option ℕ
first_candidate servers racks replicas taken =
    find (λ server. list_all (λ other. not (comes_before racks replicas taken other server)) (candidates servers taken)) (candidates servers taken)

abbrev pub picked_from : ℕ → ℕ → List ℕ → List ℕ → List ℕ → ℕ → Option (List ℕ)
picked_from servers racks replicas taken targets zero = Some targets
picked_from servers racks replicas taken targets (suc wanted) =
    option_and_then (λ target. picked_from servers racks replicas (with_member taken target) (with_member targets target) wanted) (first_candidate servers racks replicas taken)

abbrev pub targets_of : ℕ → ℕ → List ℕ → List ℕ → ℕ → Option (List ℕ)
targets_of servers racks replicas present wanted = picked_from servers racks replicas present [] wanted

-- the targets, and NoServer exactly where there are none
abbrev pub GivesTargets : ℕ → ℕ → List ℕ → List ℕ → ℕ → Result (List ℕ) Refusal → Type 0
GivesTargets servers racks replicas present wanted result =
    MatchResult result (λ t. targets_of servers racks replicas present wanted ≡ Some t)
    (λ e. (targets_of servers racks replicas present wanted ≡ None) × (e ≡ NoServer))

-- the first of a candidate and a server, which is none where it is taken
abbrev pub earlier : ℕ → List ℕ → List ℕ → Option ℕ → ℕ → Option ℕ
earlier racks replicas taken None server = cond (is_member taken server) None (Some server)
earlier racks replicas taken (Some first) server =
    cond (is_member taken server) (Some first) (cond (comes_before racks replicas taken server first) (Some server) (Some first))

-- three servers in two racks: of a new chunk both racks are used, then the server with fewer replicas, then the lower
two_new : targets_of 3 2 (0 ∷ 0 ∷ 0 ∷ []) [] 2 ≡ Some (0 ∷ 1 ∷ [])
unfolding servers_where
two_new = refl

two_more : targets_of 3 2 (1 ∷ 1 ∷ 0 ∷ []) [] 2 ≡ Some (1 ∷ 2 ∷ [])
unfolding servers_where
two_more = refl

two_last : targets_of 3 2 (1 ∷ 2 ∷ 1 ∷ []) [] 2 ≡ Some (0 ∷ 1 ∷ [])
unfolding servers_where
two_last = refl

-- a copy goes to the unused rack, also where that server has more replicas
to_other_rack : targets_of 4 2 (9 ∷ 8 ∷ 0 ∷ 9 ∷ []) (0 ∷ []) 1 ≡ Some (1 ∷ [])
unfolding servers_where
to_other_rack = refl

no_candidate : targets_of 2 2 (0 ∷ 0 ∷ []) (0 ∷ 1 ∷ []) 1 ≡ None
unfolding servers_where
no_candidate = refl
