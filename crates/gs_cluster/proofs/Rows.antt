-- Rows of servers, one after the other.
use Rattle.std.proofs.Common.{◌≡◌, ◌+◌, ◌++◌, ◌∷◌, ◌∙◌, ℕ, suc, [], Option, Some, None, IfSome, ap, arith, sym}
use Rattle.gs_base.specs.declared.config.Config.{Config}
use Rattle.gs_msg.specs.declared.node.NodeId.TheVariants as ids
use Rattle.gs_server.specs.Servers as servers
use Rattle.gs_cluster_core.specs.declared.role.Role.TheVariants.{Server as AServer}
use Rattle.gs_cluster.specs.inner.Seeds.{server_rows}

next : (n : ℕ) → n + 1 ≡ suc n
next n = omega arith

pub one_more_row : {D : Type 0} (config : Config) (many : ℕ) → server_rows {D = D} config (many + 1) ≡ server_rows config many ++ (ids.Server many, (AServer (servers.new many config.block config.chunk), [])) ∷ []
one_more_row config many = ap (server_rows config) (next many)

pub found_number : (o : Option ℕ) (s n : ℕ) → IfSome o (λ x. x ≡ n) → o ≡ Some s → s ≡ n
found_number None s n is e = absurd cc
found_number (Some x) s n is e = let same : x ≡ s = cc in sym same ∙ is
