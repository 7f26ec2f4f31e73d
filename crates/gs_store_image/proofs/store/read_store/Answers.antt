use Rattle.std.proofs.Common.{ap}
use Rattle.gs_store.specs.Stores.{Store}
use Rattle.gs_store_image.proofs.store.read_store.Goals as goal

pub keep_each-requires-clause-empty : goal.keep_each-requires-clause-empty
keep_each-requires-clause-empty c = ap (λ (s : Store). s.slots) c.in_ok-store.ensures
