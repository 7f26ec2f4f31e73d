-- Servers and clients one after the other.
use Rattle.std.proofs.Common.{◌≡◌, ◌+◌, ◌++◌, ◌∷◌, ◌∙◌, ℕ, suc, [], Option, Some, None, IfSome, ap, arith, sym}
use Rattle.gs_base.specs.declared.config.Config.{Config}
use Rattle.gs_client.specs.Nodes.{silent}
use Rattle.gs_server.specs.Servers as servers
use Rattle.gs_nodes.specs.Nodes.{new_clients, silent_servers}

next : (n : ℕ) → n + 1 ≡ suc n
next n = omega arith

-- one server more
pub one_more_server : (config : Config) (many : ℕ) → silent_servers config (many + 1) ≡ silent_servers config many ++ servers.new many config.block config.chunk ∷ []
one_more_server config many = ap (silent_servers config) (next many)

-- one client more
pub one_more_client : (many : ℕ) → new_clients (many + 1) ≡ new_clients many ++ silent (record { 0 = many + 1 }) ∷ []
one_more_client many = ap new_clients (next many)

pub found_number : (o : Option ℕ) (s n : ℕ) → IfSome o (λ x. x ≡ n) → o ≡ Some s → s ≡ n
found_number None s n is e = absurd cc
found_number (Some x) s n is e = let same : x ≡ s = cc in sym same ∙ is
