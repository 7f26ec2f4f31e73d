use Rattle.std.proofs.Common.{Some, ap, cond}
use Rattle.gs_store.specs.Buffers.{pushed, without}
use Rattle.std.specs.Prelude.{take}
use Rattle.gs_store.proofs.Buffered.{stays_few}
use Rattle.gs_store.proofs.StoreLaws.{same_request_itself}
use Rattle.gs_store.proofs.store_promises.the_buffer_is_bounded.Goals as goal

pub returns-clause-few : goal.returns-clause-few
returns-clause-few c req bytes buffer = stays_few buffer req bytes

pub returns-clause-last : goal.returns-clause-last
returns-clause-last c req bytes buffer = ap (λ b. cond b (Some bytes) (pushed req (take 63 (without req buffer)))) (same_request_itself req)
