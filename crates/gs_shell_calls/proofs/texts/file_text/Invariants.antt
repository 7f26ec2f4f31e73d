use Rattle.std.proofs.Common.{◌≡◌, ◌++◌, take, string_bytes, codes}
use Rattle.std.specs.Prelude.{decimal}
use Rattle.gs_shell_calls.specs.Texts.{chunks_text}
use Rattle.gs_shell_calls.proofs.texts.file_text.Given as goal

abbrev pub invariant-loop-chunk : goal.invariant-loop-chunk
invariant-loop-chunk l = string_bytes l.text ≡ codes "ok file " ++ (decimal l.fn.length ++ chunks_text (take l.chunk-index l.chunks))
