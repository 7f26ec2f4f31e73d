-- What a client keeps.
use Rattle.std.specs.Prelude.{ℕ}
use Rattle.gs_base.specs.declared.numbers.ReqId.{ReqId}

-- the last request that it sent, of which number 0 is none, and the bytes of a chunk
pub record ClientState : Type 0 where
  pub last : ReqId
  pub chunk : ℕ
