-- The edits that a scan finds, made one after the other.
use Rattle.std.specs.Prelude.{◌≡◌, ◌==◌, ◌++◌, ◌∷◌, [], ℕ, List, Vec, map, if◌then◌else◌, Option, Some, None, Result, Ok, Err, refl}
use Rattle.std.specs.Global.{Global}
use Rattle.std.specs.FinMap as fin
use Rattle.gs_base.specs.declared.refusal.Refusal.{Refusal}
use Rattle.gs_refs.specs.Counts.{Counts, occurrences}
use Rattle.gs_tree.specs.Find.{Rows}
use Rattle.gs_tree.specs.Chunks.{all_chunks}
use Rattle.gs_edit.specs.Edits.{named}
use Rattle.gs_edit.specs.Scan.{left}
use Rattle.gs_edit.specs.declared.edit.Edit.{Edit}
use Rattle.gs_edit.specs.declared.edit.Edit.TheVariants as edits
use Rattle.gs_edit.specs.declared.scan.Scan.{Scan}

abbrev pub and_next : Result (Rows ℕ × Counts) Refusal → (Rows ℕ → Counts → Result (Rows ℕ × Counts) Refusal) → Result (Rows ℕ × Counts) Refusal
and_next (Ok new) next = next new.0 new.1
and_next (Err e) next = Err e

-- edits one after the other, up to the first that is refused
abbrev pub named_each : List Edit → Rows ℕ → Counts → Result (Rows ℕ × Counts) Refusal
named_each [] rows refs = Ok (rows, refs)
named_each (e ∷ es) rows refs = and_next (named e rows refs) (λ r c. named_each es r c)

-- chunks are forgotten where there are any
abbrev pub forgets : Vec ℕ Global → List ℕ → List Edit
forgets chunks [] = []
forgets chunks (h ∷ hs) = edits.Forget chunks ∷ []

-- what a scan finds, as edits: a removal of each path in turn, then the chunks
abbrev pub edits_of : Scan → List Edit
edits_of scan = map (λ p. edits.Remove p) scan.removed.items ++ forgets scan.forgotten scan.forgotten.items

-- the count of a chunk that stands so often in files, which isn't listed where it stands in none
abbrev pub count_of : ℕ → Option ℕ
count_of n = if n == 0 then None else Some n

-- all that goes is out, and just the chunks that stand in files are listed, each with its count
pub record IsSwept (moment : ℕ) (old : Rows ℕ) (new : Rows ℕ × Counts) : Type 0 where
  pub rows : new.0 ≡ left moment old
  pub counts : (chunk : ℕ) → fin.get new.1 chunk ≡ count_of (occurrences chunk (all_chunks new.0))

abbrev pub Sweeps : ℕ → Rows ℕ → Result (Rows ℕ × Counts) Refusal → Type 0
Sweeps moment old (Ok new) = IsSwept moment old new
Sweeps moment old (Err e) = ⊥

one_that_stands_twice : count_of 2 ≡ Some 2
one_that_stands_twice = refl

one_that_stands_nowhere : count_of 0 ≡ None
one_that_stands_nowhere = refl
