-- Which sizes a store can have.
use Rattle.std.specs.Prelude.{◌&&◌, ◌/◌, ◌%◌, ◌==◌, ℕ, Bool, nat_le}

abbrev pub is_within : ℕ → ℕ → ℕ → Bool
is_within n low high = nat_le low n && nat_le n high

-- servers, racks, replicas, bytes of a block, bytes of a chunk
abbrev pub is_config : ℕ → ℕ → ℕ → ℕ → ℕ → Bool
is_config servers racks replicas block chunk =
    is_within servers 1 16 && (is_within racks 1 16 && (is_within replicas 1 servers && (is_within block 1 65536
    && (is_within (chunk / block) 1 1024 && (chunk % block == 0)))))
