-- The order of entries with their texts.
use Rattle.std.specs.Ordering.{nat_cmp, on}
use Rattle.std.specs.Cmp.{IsTotalOrder}
use Rattle.std.specs.Cmp.Lexicographic.{slice_cmp, on_texts}
use Rattle.std.specs.declared.cmp.Ordering.{Ordering}
use Rattle.gs_path.specs.Path.{path_text}
use Rattle.gs_tree.specs.declared.entry.TreeEntry.{TreeEntry}
use Rattle.gs_tree.specs.Build.{path_of_entry}

-- by the bytes of the paths' texts
abbrev pub entry_cmp : TreeEntry → TreeEntry → Ordering
entry_cmp = on (λ e. path_text (path_of_entry e)) (slice_cmp nat_cmp)

pub entries_total : IsTotalOrder entry_cmp
entries_total = on_texts (λ e. path_text (path_of_entry e))
