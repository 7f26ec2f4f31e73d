use Rattle.std.proofs.Common.{◌≡◌, ◌++◌, take, string_bytes, codes}
use Rattle.gs_shell_calls.specs.Texts.{names_text}
use Rattle.gs_shell_calls.proofs.texts.names_text.Given as goal

abbrev pub invariant-loop-child : goal.invariant-loop-child
invariant-loop-child l = string_bytes l.text ≡ codes "ok" ++ names_text (take l.child-index l.names)
