-- Which chunk needs a replica most.
use Rattle.std.specs.Prelude.{◌≡◌, ℕ, ◌-◌, ◌&&◌, not, Bool, true, false, cond, List, [], ◌∷◌, Option, Some, None, nat_lt, find, filter, Contains, refl}
use Rattle.std.specs.List.{list_all}
use Rattle.std.specs.Option.{option_map}
use Rattle.gs_base.specs.declared.numbers.Handle.{Handle}
use Rattle.gs_place.specs.declared.need.Need.{Need}
use Rattle.gs_place.specs.Order.{precedes, rank}

-- how many replicas a chunk lacks
abbrev pub shortfall : ℕ → Need → ℕ
shortfall replicas need = replicas - need.members

-- it lacks replicas, and has a reference and a member
abbrev pub is_needy : ℕ → Need → Bool
is_needy replicas need = nat_lt 0 need.references && (nat_lt 0 need.members && nat_lt need.members replicas)

-- a greater shortfall, then a visible path, then the lower handle
abbrev pub needs_more : ℕ → Need → Need → Bool
needs_more replicas need other =
    precedes (shortfall replicas other) (shortfall replicas need) (rank need.is_visible) (rank other.is_visible) need.handle other.handle

-- no chunk of the list is needy
abbrev pub NoneIsNeedy : ℕ → List Need → Type 0
NoneIsNeedy replicas needs = (need : Need) → Contains needs need → is_needy replicas need ≡ false

-- a needy chunk of the list such that no other of the list needs more
pub record IsMostNeeded (replicas : ℕ) (needs : List Need) (handle : Handle) : Type 0 where
  pub need : Need
  pub among : Contains needs need
  pub handle_is : need.handle ≡ handle
  pub needy : is_needy replicas need ≡ true
  pub most : (other : Need) → Contains needs other → is_needy replicas other ≡ true → needs_more replicas other need ≡ false

-- the needy chunk of the list that needs most, and none exactly where none is needy
abbrev pub IsMost : ℕ → List Need → Option Need → Type 0
IsMost replicas needs None = NoneIsNeedy replicas needs
IsMost replicas needs (Some most) =
    Contains needs most × (is_needy replicas most ≡ true) × ((other : Need) → Contains needs other → is_needy replicas other ≡ true → needs_more replicas other most ≡ false)

-- the same as a function
abbrev pub most_needed_of : ℕ → List Need → Option Handle
most_needed_of replicas needs =
    option_map (λ need. need.handle)
    (find (λ need. list_all (λ other. not (needs_more replicas other need)) (filter (is_needy replicas) needs)) (filter (is_needy replicas) needs))

-- the needier of one and another, if that is needy
abbrev pub needier : ℕ → Option Need → Need → Option Need
needier replicas None need = cond (is_needy replicas need) (Some need) None
needier replicas (Some most) need = cond (is_needy replicas need) (cond (needs_more replicas need most) (Some need) (Some most)) (Some most)

-- the handle, its references, whether it is visible, its members
abbrev a_need : ℕ → ℕ → Bool → ℕ → Need
a_need handle references is_visible members = record { handle = handle; references = references; is_visible = is_visible; members = members }

fewest_members : most_needed_of 3 (a_need 1 1 true 2 ∷ a_need 2 1 false 1 ∷ a_need 3 1 true 3 ∷ []) ≡ Some 2
fewest_members = refl

visible_first : most_needed_of 3 (a_need 1 1 false 2 ∷ a_need 3 1 true 2 ∷ a_need 2 1 true 2 ∷ []) ≡ Some 2
visible_first = refl

-- without a reference, without a member, or with all replicas
none_needy : most_needed_of 3 (a_need 1 0 true 2 ∷ a_need 2 1 true 0 ∷ a_need 3 1 true 3 ∷ []) ≡ None
none_needy = refl
