-- Where no chunk is settled no file has one: no chunk is listed, and the source of a snapshot has none.
use Rattle.std.proofs.Common.{arith, ◌≡◌, ◌∙◌, ◌++◌, ◌+◌, ℕ, Bool, true, false, cond, not, List, [], ◌∷◌, refl, sym, ap}
use Rattle.std.specs.Prelude.{Option, Some, None, filter, is_some}
use Rattle.std.specs.Cmp.{nat_cmp_total, tied_itself}
use Rattle.std.specs.FinMap as fin
use Rattle.std.specs.FinMap.{nat_cmp-IsAntisymmetric}
use Rattle.std.specs.Ordering.{eq_by_cmp, is_eq, nat_cmp}
use Rattle.std.proofs.lemmas.Bool.{false≢true}
use Rattle.gs_edit.specs.Names.{IsCounted}
use Rattle.gs_edit.specs.View.{NamesView}
use Rattle.gs_path.specs.Path.{Path}
use Rattle.gs_refs.specs.Counts.{count_or_zero, occurrences}
use Rattle.gs_tree.specs.Chunks.{all_chunks, visible_under}
use Rattle.gs_tree.specs.Edits.{chunks_in}
use Rattle.gs_tree.specs.Entry.{Entry}
use Rattle.gs_tree.specs.Find.{Rows}
use Rattle.gs_laws_master.specs.Promises.{IsKept}
use Rattle.gs_master_spec.specs.Durable.{Durable, Settled}
use Rattle.gs_master_spec.specs.State.{State}
use Rattle.gs_master_spec.specs.Settling.{is_quiet_at}
use Rattle.gs_master_spec.specs.Working.{ascending, unquiet}
use Rattle.gs_laws_plain.specs.calm.Calm.{IsStill}

no_listed : (listed : Option ℕ) (settled : Option Settled) → (is_some listed ≡ true → is_some settled ≡ true) → settled ≡ None → listed ≡ None
no_listed None settled has none = refl
no_listed (Some count) settled has none = absurd (false≢true (sym (ap is_some none) ∙ has refl))

pub none_listed : (d : Durable) → IsKept d → d.chunks ≡ fin.empty → (chunk : ℕ) → fin.get d.names.refs chunk ≡ None
none_listed d kept none chunk = no_listed (fin.get d.names.refs chunk) (fin.get d.chunks chunk) (kept.settled chunk) (ap (λ (m : fin.FinMap nat_cmp Settled). fin.get m chunk) none ∙ fin.get-empty nat_cmp chunk)

pub no_refs : (refs : fin.FinMap nat_cmp ℕ) → ((chunk : ℕ) → fin.get refs chunk ≡ None) → refs ≡ fin.empty
no_refs refs none = fin.same_map nat_cmp_total nat_cmp-IsAntisymmetric refs fin.empty (λ q. none q ∙ sym (fin.get-empty nat_cmp q))

-- ---- files

one_at_least : (chunk : ℕ) (chunks : List ℕ) → 0 ≡ occurrences chunk (chunk ∷ chunks) → ⊥
one_at_least chunk chunks h = each (eq_by_cmp nat_cmp chunk chunk) (itself chunk) h
  where
    itself : (n : ℕ) → eq_by_cmp nat_cmp n n ≡ true
    itself n = ap is_eq (tied_itself nat_cmp_total n)

    each : (b : Bool) → b ≡ true → 0 ≡ cond b 1 0 + occurrences chunk chunks → ⊥
    each true is h = omega arith
    each false is h = false≢true is

nothing_stands : (chunks : List ℕ) → ((chunk : ℕ) → 0 ≡ occurrences chunk chunks) → chunks ≡ []
nothing_stands [] h = refl
nothing_stands (chunk ∷ chunks) h = absurd (one_at_least chunk chunks (h chunk))

pub no_chunks : (names : NamesView) → IsCounted names → ((chunk : ℕ) → fin.get names.refs chunk ≡ None) → all_chunks (fin.entries names.tree) ≡ []
no_chunks names has none = nothing_stands (all_chunks (fin.entries names.tree)) (λ chunk. sym (ap count_or_zero (none chunk)) ∙ has chunk)

empty_parts : {A : Type 0} (xs ys : List A) → xs ++ ys ≡ [] → (xs ≡ []) × (ys ≡ [])
empty_parts [] ys h = (refl, h)
empty_parts (x ∷ xs) ys h = absurd (cc)

abbrev Row : Type 0
Row = Path × Entry ℕ

with_row : (b : Bool) (row : Row) (kept : Rows ℕ) → chunks_in (Some row.1) ≡ [] → all_chunks kept ≡ [] → all_chunks (cond b (row ∷ kept) kept) ≡ []
with_row true row kept none rest = ap (λ (xs : List ℕ). xs ++ all_chunks kept) none ∙ rest
with_row false row kept none rest = rest

some_rows_bare : (keep : Row → Bool) (rows : Rows ℕ) → all_chunks rows ≡ [] → all_chunks (filter keep rows) ≡ []
some_rows_bare keep [] h = refl
some_rows_bare keep (row ∷ rows) h = let parts = empty_parts (chunks_in (Some row.1)) (all_chunks rows) h in with_row (keep row) row (filter keep rows) parts.0 (some_rows_bare keep rows parts.1)

module _ (s : State) (still : IsStill s) where
  pub unlisted : (chunk : ℕ) → fin.get s.durable.names.refs chunk ≡ None
  unlisted chunk = none_listed s.durable still.firm.stands.kept still.chunks chunk

  pub files_bare : all_chunks (fin.entries s.durable.names.tree) ≡ []
  files_bare = no_chunks s.durable.names still.firm.stands.kept.names.counted unlisted

  pub source_bare : (from : Path) → all_chunks (visible_under from (fin.entries s.durable.names.tree)) ≡ []
  source_bare from = some_rows_bare _ (fin.entries s.durable.names.tree) files_bare

  pub nothing_unquiet : (from : Path) → unquiet s from ≡ []
  nothing_unquiet from = ap (λ (chunks : List ℕ). filter (λ chunk. not (is_quiet_at s chunk)) (ascending chunks)) (source_bare from)
