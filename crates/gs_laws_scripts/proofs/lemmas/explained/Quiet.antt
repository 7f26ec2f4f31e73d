-- Where nothing is owed nothing is paid, and a text is seen as it stands.
use Rattle.std.proofs.Common.{ap, ◌∙◌, arith}
use Rattle.std.specs.Prelude.{[], ◌∷◌, ◌≡◌, List, None, Option, Some, cond, false, if◌then◌else◌, map, refl, slice_get, suc, true, unwrap_or, zero, ℕ, length}
use Rattle.std.specs.List.{AllByRecursion, list_any}
use Rattle.std.specs.Ordering.{eq_by_cmp}
use Rattle.gs_path.specs.Path.{Path, path_cmp}
use Rattle.gs_tree.specs.Edits.{chunks_in}
use Rattle.gs_tree.specs.Entry.{Dir, Entry, File}
use Rattle.gs_tree.specs.Find.{Rows, at}
use Rattle.gs_laws_scripts.specs.explained.Lines.{seen_each, IsSeenFull}
use Rattle.gs_laws_scripts.specs.explained.Machine.{Comes, Ends, Machine, Payment, Settles, Sweeps, Text, Waits, at_place, comes, ends, is_scan, new_text, paid, paid_each, paid_now, settled, settled_by, settled_each, settles, swept, text_at, waits, with_rows}

-- ---- texts to which nothing is owed

abbrev pub AreQuiet : List Text → Type 0
AreQuiet texts = AllByRecursion (λ text. text.owed ≡ []) texts

abbrev pub IsQuietEntry : Entry Text → Type 0
IsQuietEntry Dir = Unit {0}
IsQuietEntry (File texts) = AreQuiet texts

abbrev pub RowsAreQuiet : Rows Text → Type 0
RowsAreQuiet rows = AllByRecursion (λ row. IsQuietEntry row.1) rows

abbrev pub IsQuietFound : Option (Entry Text) → Type 0
IsQuietFound None = Unit {0}
IsQuietFound (Some entry) = IsQuietEntry entry

pub quiet_found : (p : Path) (rows : Rows Text) → RowsAreQuiet rows → IsQuietFound (at rows p)
quiet_found p [] quiet = tt
quiet_found p (row ∷ rows) quiet =
    elim (eq_by_cmp path_cmp p row.0) as (λ b. IsQuietFound (cond b (Some row.1) (at rows p))) [ true ↦ quiet.0 | false ↦ quiet_found p rows quiet.1 ]

pub quiet_chunks : (found : Option (Entry Text)) → IsQuietFound found → AreQuiet (chunks_in found)
quiet_chunks None quiet = tt
quiet_chunks (Some Dir) quiet = tt
quiet_chunks (Some (File texts)) quiet = quiet

quiet_place : (texts : List Text) (index : ℕ) → AreQuiet texts → (unwrap_or (slice_get texts index) new_text).owed ≡ []
quiet_place [] index quiet = refl
quiet_place (text ∷ texts) zero quiet = quiet.0
quiet_place (text ∷ texts) (suc index) quiet = quiet_place texts index quiet.1

pub nothing_owed : (p : Path) (index : ℕ) (m : Machine) → RowsAreQuiet m.plain.tree → (text_at p index m).owed ≡ []
nothing_owed p index m quiet = quiet_place (chunks_in (at m.plain.tree p)) index (quiet_chunks (at m.plain.tree p) (quiet_found p m.plain.tree quiet))

-- ---- machines to which nothing is owed, but what is late

pub record IsStill (m : Machine) : Type 0 where
  pub quiet : RowsAreQuiet m.plain.tree
  pub waiting : m.waiting ≡ []

pub nothing_settles : (size : ℕ) (p : Path) (index k : ℕ) (m : Machine) → RowsAreQuiet m.plain.tree → paid size (Settles p index k) m ≡ m
nothing_settles size p index k m quiet = ap (λ owed. settles size (slice_get owed k) p index k m) (nothing_owed p index m quiet)

pub nothing_ends : (size k : ℕ) (m : Machine) → m.waiting ≡ [] → paid size (Ends k) m ≡ m
nothing_ends size k m none = ap (λ waiting. ends (slice_get waiting k) k m) none

pub nothing_comes : (size k : ℕ) (m : Machine) → m.late ≡ [] → paid size (Comes k) m ≡ m
nothing_comes size k m none = ap (λ late. comes (slice_get late k) k m) none

pub nothing_waits : (size k : ℕ) (m : Machine) → m.late ≡ [] → paid size (Waits k) m ≡ m
nothing_waits size k m none = ap (λ late. waits (slice_get late k) k m) none

pub nothing_sweeps : (size : ℕ) (p : Path) (m : Machine) → m.late ≡ [] → paid size (Sweeps p) m ≡ m
nothing_sweeps size p m none = ap (λ late. if list_any is_scan late then swept p m else m) none

pub nothing_now : (size : ℕ) (payments : List Payment) (m : Machine) → IsStill m → paid_now size payments m ≡ m
nothing_now size [] m still = refl
nothing_now size (Settles p index k ∷ payments) m still = ap (λ n. paid_now size payments n) (nothing_settles size p index k m still.quiet) ∙ nothing_now size payments m still
nothing_now size (Ends k ∷ payments) m still = ap (λ n. paid_now size payments n) (nothing_ends size k m still.waiting) ∙ nothing_now size payments m still
nothing_now size (Comes k ∷ payments) m still = nothing_now size payments m still
nothing_now size (Waits k ∷ payments) m still = nothing_now size payments m still
nothing_now size (Sweeps p ∷ payments) m still = nothing_now size payments m still

-- where nothing is late either
pub nothing_each : (size : ℕ) (payments : List Payment) (m : Machine) → IsStill m → m.late ≡ [] → paid_each size payments m ≡ m
nothing_each size [] m still late = refl
nothing_each size (Settles p index k ∷ payments) m still late = ap (λ n. paid_each size payments n) (nothing_settles size p index k m still.quiet) ∙ nothing_each size payments m still late
nothing_each size (Ends k ∷ payments) m still late = ap (λ n. paid_each size payments n) (nothing_ends size k m still.waiting) ∙ nothing_each size payments m still late
nothing_each size (Comes k ∷ payments) m still late = ap (λ n. paid_each size payments n) (nothing_comes size k m late) ∙ nothing_each size payments m still late
nothing_each size (Waits k ∷ payments) m still late = ap (λ n. paid_each size payments n) (nothing_waits size k m late) ∙ nothing_each size payments m still late
nothing_each size (Sweeps p ∷ payments) m still late = ap (λ n. paid_each size payments n) (nothing_sweeps size p m late) ∙ nothing_each size payments m still late

-- ---- where no call waits, what is paid changes texts alone

pub record HasOtherRows (old new : Machine) : Type 0 where
  pub rows : Rows Text
  pub is : new ≡ with_rows rows old

settles_rows : (size : ℕ) (edit : Option _) (p : Path) (index k : ℕ) (m : Machine) → HasOtherRows m (settles size edit p index k m)
settles_rows size None p index k m = record { rows = m.plain.tree; is = refl }
settles_rows size (Some edit) p index k m = record { rows = (at_place p index (settled_by size (Some edit) k) m).plain.tree; is = refl }

pub rows_now : (size : ℕ) (payments : List Payment) (m : Machine) → m.waiting ≡ [] → HasOtherRows m (paid_now size payments m)
rows_now size [] m none = record { rows = m.plain.tree; is = refl }
rows_now size (Settles p index k ∷ payments) m none =
    let first = settles_rows size (slice_get (text_at p index m).owed k) p index k m in
    let rest = rows_now size payments (with_rows first.rows m) none in
    record { rows = rest.rows; is = ap (λ n. paid_now size payments n) first.is ∙ rest.is }
rows_now size (Ends k ∷ payments) m none =
    let rest = rows_now size payments m none in
    record { rows = rest.rows; is = ap (λ n. paid_now size payments n) (nothing_ends size k m none) ∙ rest.is }
rows_now size (Comes k ∷ payments) m none = rows_now size payments m none
rows_now size (Waits k ∷ payments) m none = rows_now size payments m none
rows_now size (Sweeps p ∷ payments) m none = rows_now size payments m none

-- ---- how texts are seen

settled_is : (size k : ℕ) (text : Text) → text.owed ≡ [] → settled size k text ≡ text
settled_is size k text none = ap (λ owed. settled_by size (slice_get owed k) k text) none

settled_each_is : (size : ℕ) (pick : List ℕ) (text : Text) → text.owed ≡ [] → settled_each size pick text ≡ text
settled_each_is size [] text none = refl
settled_each_is size (k ∷ pick) text none = ap (settled_each size pick) (settled_is size k text none) ∙ settled_each_is size pick text none

pub never_seen_full : (size : ℕ) (text : Text) → text.owed ≡ [] → IsSeenFull size text → ⊥
never_seen_full size text none (below, pick, full) = (let same : length (settled_each size pick text).bytes ≡ length text.bytes = ap (λ (t : Text). length t.bytes) (settled_each_is size pick text none) in absurd (omega arith))

pub seen_is : (size : ℕ) (picks : List (List ℕ)) (texts : List Text) → AreQuiet texts → seen_each size picks texts ≡ map (λ text. text.bytes) texts
seen_is size picks [] quiet = refl
seen_is size [] (text ∷ texts) quiet = ap (λ all. text.bytes ∷ all) (seen_is size [] texts quiet.1)
seen_is size (pick ∷ picks) (text ∷ texts) quiet =
    ap (λ one. one.bytes ∷ seen_each size picks texts) (settled_each_is size pick text quiet.0) ∙ ap (λ all. text.bytes ∷ all) (seen_is size picks texts quiet.1)
