-- Pushed bytes as the list holds them.
use Rattle.std.specs.Prelude.{ℕ, List, map, Vec}
use Rattle.std.specs.declared.alloc.Global.{Global}
use Rattle.gs_base.specs.declared.numbers.ReqId.{ReqId}
use Rattle.gs_store.specs.Buffers.{Pushes}

abbrev pub bytes_of : List (ReqId × Vec ℕ Global) → Pushes
bytes_of entries = map (λ e. (e.0, e.1.items)) entries
