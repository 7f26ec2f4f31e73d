-- What an open file keeps.
use Rattle.std.specs.Prelude.{ℕ, Option}
use Rattle.gs_path.specs.Path.{Path}
use Rattle.gs_client_part.specs.declared.located.Located.{Located}

-- its path, how many chunks it was opened with until a call has used that, where a chunk was read last, and how many edits were acknowledged
pub record File : Type 0 where
  pub path : Path
  pub opened : Option ℕ
  pub located : Option Located
  pub edits : ℕ
