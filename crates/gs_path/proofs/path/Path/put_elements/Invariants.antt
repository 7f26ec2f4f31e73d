use Rattle.std.proofs.Common.{◌≡◌, ◌++◌, take}
use Rattle.std.specs.Str.{IsUtf8}
use Rattle.gs_path.specs.Path.{behind_slashes}
use Rattle.gs_path.proofs.path.Path.put_elements.Given as goal

abbrev pub invariant-loop-name : goal.invariant-loop-name
invariant-loop-name l = (l.out.items ≡ l.initial.out.items ++ behind_slashes (take l.name-index l.name-items)) × IsUtf8 (behind_slashes (take l.name-index l.name-items))
