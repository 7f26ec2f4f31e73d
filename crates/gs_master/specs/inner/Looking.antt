-- What a call that looks comes to, and one that finds a chunk for writing, by the path that it names.
use Rattle.std.specs.Prelude.{ℕ, Option}
use Rattle.std.specs.FinMap as fin
use Rattle.gs_base.specs.declared.numbers.Moment.{Moment}
use Rattle.gs_base.specs.declared.numbers.ReqId.{ReqId}
use Rattle.gs_base.specs.declared.numbers.Stamp.{Stamp}
use Rattle.gs_path.specs.Path.{Path}
use Rattle.gs_master_spec.specs.Calls.{found_chunk, listing, location, looked_up}
use Rattle.gs_master_spec.specs.State.{State, Turn}
use Rattle.gs_master_spec.specs.Working.{found_for_writing}

-- what is listed at a path
abbrev pub listed_at : State → ReqId → Path → Turn
listed_at s req path = looked_up s req (listing (fin.entries s.durable.names.tree) path (fin.get s.durable.names.tree path))

-- where the chunk at a place of a file is
abbrev pub located_at : State → ReqId → Path → ℕ → Turn
located_at s req path index = looked_up s req (location s.durable (found_chunk (fin.get s.durable.names.tree path) index))

-- that chunk, for writing
abbrev pub found_at : State → ReqId → Path → ℕ → Option Stamp → Moment → Turn
found_at s req path index refused moment = found_for_writing s req path index refused moment (found_chunk (fin.get s.durable.names.tree path) index)
