use Rattle.std.proofs.Common.{◌≡◌, take, string_bytes}
use Rattle.gs_path.specs.Path.{behind_slashes}
use Rattle.gs_path.proofs.path.Path.text.Given as goal

abbrev pub invariant-loop-name : goal.invariant-loop-name
invariant-loop-name l = string_bytes l.text ≡ behind_slashes (take l.name-index l.name-items)
