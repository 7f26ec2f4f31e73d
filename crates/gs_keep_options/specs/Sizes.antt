-- Sizes that are asked for.
use Rattle.std.specs.Prelude.{◌≡◌, ◌==◌, ◌&&◌, ℕ, Bool, true, not, List, codes, if◌then◌else◌, Option, Some, None}
use Rattle.gs_base.specs.declared.config.Config.{Config}
use Rattle.gs_keep_options.specs.declared.Difference.{Difference}
use Rattle.gs_keep_options.specs.declared.Sizes.{Sizes}

-- what is given, and else this
abbrev pub given_or : Option ℕ → ℕ → ℕ
given_or (Some given) other = given
given_or None other = other

-- a size is the one that is asked for, if one is
abbrev pub is_given_as : Option ℕ → ℕ → Bool
is_given_as (Some given) size = given == size
is_given_as None size = true

-- a store has each size that is asked for
abbrev pub fits : Sizes → Config → Bool
fits s c =
    is_given_as s.servers c.servers && (is_given_as s.racks c.racks && (is_given_as s.replicas c.replicas
    && (is_given_as s.chunk c.chunk && is_given_as s.block c.block)))

-- the first size of a store that isn't the one that is asked for, by the name of its option
abbrev pub difference : Sizes → Config → Option (List ℕ × ℕ)
difference s c =
    if not (is_given_as s.servers c.servers) then Some (codes "servers", c.servers)
    else if not (is_given_as s.racks c.racks) then Some (codes "racks", c.racks)
    else if not (is_given_as s.replicas c.replicas) then Some (codes "replicas", c.replicas)
    else if not (is_given_as s.chunk c.chunk) then Some (codes "chunk", c.chunk)
    else if not (is_given_as s.block c.block) then Some (codes "block", c.block)
    else None

abbrev pub Tells : Option Difference → Option (List ℕ × ℕ) → Type 0
Tells (Some told) size = size ≡ Some (told.name.now, told.size)
Tells None size = size ≡ None
