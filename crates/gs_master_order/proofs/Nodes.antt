-- Entries of a tree put in the order of their texts.
use Rattle.std.proofs.Common.{◌≡◌, ℕ, List, [], ◌∷◌, Ordering, refl, ap}
use Rattle.std.specs.Prelude.{Option, Vec}
use Rattle.std.specs.BTreeMap.{insert_entry}
use Rattle.std.specs.FinMap as fin
use Rattle.std.specs.FinMap.Entries.{by_order}
use Rattle.std.specs.Ordering.{match_ordering}
use Rattle.std.specs.declared.alloc.Global.{Global}
use Rattle.std.specs.declared.cmp.Ordering.TheVariants.{Less, Equal, Greater}
use Rattle.gs_path.specs.Path.{Path, text_cmp}
use Rattle.gs_master_order.specs.inner.Texts.{nodes_of, plain_chunks}

-- a tree map's insert puts a node
pub nodes_put : (es : List (Path × Option (Vec ℕ Global))) (p : Path) (chunks : Option (Vec ℕ Global)) → nodes_of (insert_entry text_cmp es p chunks) ≡ fin.put text_cmp p (plain_chunks chunks) (nodes_of es)
nodes_put [] p chunks = refl
nodes_put (e ∷ es) p chunks = each (nodes_put es p chunks) (text_cmp p e.0)
  where
    each : nodes_of (insert_entry text_cmp es p chunks) ≡ fin.put text_cmp p (plain_chunks chunks) (nodes_of es) → (o : Ordering) → nodes_of (match_ordering o ((p, chunks) ∷ e ∷ es) ((e.0, chunks) ∷ es) (e ∷ insert_entry text_cmp es p chunks))
        ≡ by_order o ((p, plain_chunks chunks) ∷ nodes_of (e ∷ es)) ((e.0, plain_chunks chunks) ∷ nodes_of es) ((e.0, plain_chunks e.1) ∷ fin.put text_cmp p (plain_chunks chunks) (nodes_of es))
    each rest Less = refl
    each rest Equal = refl
    each rest Greater = ap (λ ns. (e.0, plain_chunks e.1) ∷ ns) rest
