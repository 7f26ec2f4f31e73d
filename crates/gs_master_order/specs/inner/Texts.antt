-- Paths with their texts, and what is put in their order.
use Rattle.std.specs.Prelude.{ℕ, List, map, Option, Vec, option_map}
use Rattle.std.specs.Cmp.{IsTotalOrder}
use Rattle.std.specs.Cmp.Lexicographic.{on_texts}
use Rattle.std.specs.declared.alloc.Global.{Global}
use Rattle.gs_path.specs.Path.{Path, path_text, text_cmp}
use Rattle.gs_master_record.specs.Plain.{PlainNode}

pub text_total : IsTotalOrder text_cmp
text_total = on_texts path_text

-- the chunks of a file, or none of a directory
abbrev pub plain_chunks : Option (Vec ℕ Global) → Option (List ℕ)
plain_chunks chunks = option_map (λ c. c.items) chunks

abbrev pub nodes_of : List (Path × Option (Vec ℕ Global)) → List PlainNode
nodes_of entries = map (λ e. (e.0, plain_chunks e.1)) entries
