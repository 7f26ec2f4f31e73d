-- That clients are told apart by their order.
use Rattle.std.proofs.Common.{ap}
use Rattle.std.specs.FinMap.{IsAntisymmetric, nat_cmp-IsAntisymmetric}
use Rattle.std.specs.Ordering.{nat_cmp, on}
use Rattle.gs_base.specs.declared.numbers.ClientId.{ClientId}

pub client_exact : IsAntisymmetric (on (λ (c : ClientId). c.0) nat_cmp)
client_exact x y same = ap (λ n. record { 0 = n }) (nat_cmp-IsAntisymmetric x.0 y.0 same)
