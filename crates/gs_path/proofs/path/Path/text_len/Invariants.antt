use Rattle.std.proofs.Common.{◌≡◌, ◌-◌, ◌^◌, length, min, take}
use Rattle.gs_path.specs.Path.{behind_slashes}
use Rattle.gs_path.proofs.path.Path.text_len.Given as goal

abbrev pub invariant-loop-name : goal.invariant-loop-name
invariant-loop-name l = l.len ≡ min (length (behind_slashes (take l.name-index l.name-items))) (2 ^ 64 - 1)
