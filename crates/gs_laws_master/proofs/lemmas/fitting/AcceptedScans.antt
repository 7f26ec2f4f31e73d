-- What a scan removes and forgets goes, one edit after the other.
use Rattle.std.proofs.Common.{◌≡◌, ◌∙◌, ◌&&◌, ◌||◌, ℕ, Bool, true, false, not, cond, T, List, [], ◌∷◌, ◌++◌, map, filter, refl, ap, subst, sym}
use Rattle.std.specs.Prelude.{is_some, option_and_then, Option, Some, None, Result, Ok, Err}
use Rattle.std.specs.declared.cmp.Ordering.{Ordering}
use Rattle.std.specs.declared.cmp.Ordering.TheVariants.{Less, Equal, Greater}
use Rattle.std.specs.Cmp.{tied_itself, Equal-is}
use Rattle.std.specs.FinMap as fin
use Rattle.std.specs.FinMap.Entries.{below_all, find-put, find-where_key, is_some-find, is_sorted, is_sorted-put, is_sorted-where_key, same_entries}
use Rattle.std.specs.List.{AllByRecursion, list_any}
use Rattle.std.specs.List.Sorted.{IsStrictlySortedBy}
use Rattle.std.specs.Ordering.{eq_by_cmp, is_eq, is_lt, ordering_then}
use Rattle.std.proofs.lemmas.Bool.{false≢true, and_parts}
use Rattle.gs_base.specs.declared.refusal.Refusal.{Refusal}
use Rattle.gs_path.specs.Path.{Path, begins, path_cmp, path_total}
use Rattle.gs_refs.specs.Counts.{Counts}
use Rattle.gs_tree.specs.Edits.{same_path}
use Rattle.gs_tree.specs.Find.{Rows, at}
use Rattle.gs_edit.specs.Edits.{named}
use Rattle.gs_edit.specs.Scan.{goes, is_removed, length_then_text_cmp, removal_cmp, removal_total}
use Rattle.gs_edit.specs.Sweep.{and_next}
use Rattle.gs_edit.specs.View.{names_of}
use Rattle.gs_edit.specs.declared.edit.Edit.TheVariants as edits
use Rattle.gs_edit.proofs.Removals.{AreApart, apart, begins-itself, some_passes}
use Rattle.gs_edit.proofs.Sweeping.{Goes as GoesAt, all_less, at-filter, rows_without}
use Rattle.gs_edit.proofs.Tables.{among, paths_antisymmetric, same_itself, same_path-is}
use Rattle.gs_master_record.specs.Plain.{PlainEdit, PlainEntry, Edited, Remove}
use Rattle.gs_master_spec.specs.Applied.{after_edit, applied, if_fits, replayed, with_edit}
use Rattle.gs_master_spec.specs.Durable.{Durable, is_rolling}
use Rattle.gs_master_spec.specs.Settling.{own_request}
use Rattle.gs_master_spec.specs.Undoing.{edited_names, names_from}
use Rattle.gs_master_spec.specs.Working.{put_paths, removed_paths}
use Rattle.gs_laws_master.specs.Promises.{IsKept}
use Rattle.gs_laws_master.proofs.lemmas.fitting.Accepted.{may_so}
use Rattle.gs_laws_master.proofs.lemmas.keeping.KeptEdits.{edit_kept_told}

-- ---- one removal

next_itself : (r : Result (Rows ℕ × Counts) Refusal) → and_next r (λ rows refs. Ok (rows, refs)) ≡ r
next_itself (Ok new) = refl
next_itself (Err e) = refl

pub sorted_again : (rows : Rows ℕ) → T (is_sorted path_cmp rows) → fin.entries (fin.from_entries {R = path_cmp} rows) ≡ rows
sorted_again rows sorted =
    same_entries path_cmp path_total paths_antisymmetric (fin.entries (fin.from_entries {R = path_cmp} rows)) rows (fin.entries_sorted (fin.from_entries {R = path_cmp} rows)) sorted
    (λ q. sym (fin.get-entries (fin.from_entries {R = path_cmp} rows) q) ∙ fin.get-from_entries path_total rows q)

pub record IsRemoved (d : Durable) (paths : List Path) (next : Durable) : Type 0 where
  pub kept : IsKept next
  pub rows : fin.entries next.names.tree ≡ rows_without paths (fin.entries d.names.tree)
  pub phase : next.phase ≡ d.phase
  pub listed : (q : ℕ) → is_some (fin.get next.names.refs q) ≡ is_some (fin.get d.names.refs q)

record Removes (d : Durable) (p : Path) : Type 0 where
  next : Durable
  is : applied d (Edited own_request (Remove p)) ≡ Some next
  removed : IsRemoved d (p ∷ []) next

one_removed : (d : Durable) (p : Path) (moment : ℕ) → IsKept d → is_rolling d.phase ≡ false → is_some (at (fin.entries d.names.tree) p) ≡ true → goes moment p ≡ true → Removes d p
unfolding applied edited_names
one_removed d p moment k rolling stands over =
    let rows = fin.entries d.names.tree in
    let less = all_less moment (p ∷ []) [] rows d.names.refs (fin.entries_sorted d.names.tree) k.names.counted ((λ q b h. absurd (false≢true h)), tt) (λ q inside. one_path q (same_path q p) refl inside) in
    let fewer = rows_without (p ∷ []) rows in
    let names = names_of (fin.from_entries fewer) less.rest in
    let made : edited_names (Remove p) d.names ≡ Ok names = ap names_from (sym (next_itself (named (edits.Remove p) rows d.names.refs)) ∙ less.is) in
    let fit : applied d (Edited own_request (Remove p)) ≡ Some (with_edit d own_request (Remove p) names) =
    ap (after_edit d own_request (Remove p)) made ∙ ap (λ b. if_fits b (with_edit d own_request (Remove p) names)) (may_so d (Remove p) rolling refl refl refl) in record {
      next = with_edit d own_request (Remove p) names;
      is = fit;
      removed = record {
        kept = edit_kept_told d (with_edit d own_request (Remove p) names) own_request (Remove p) tt (λ well a h. absurd (false≢true (ap is_some h))) k fit;
        rows = sorted_again fewer (is_sorted-where_key path_cmp (λ q. not (list_any (λ r. begins r q) (p ∷ []))) rows (fin.entries_sorted d.names.tree));
        phase = refl;
        listed = less.listed;
      };
    }
  where
    one_path : (q : Path) (b : Bool) → same_path q p ≡ b → (b || false) ≡ true → GoesAt moment (fin.entries d.names.tree) q
    one_path q true is h = subst (GoesAt moment (fin.entries d.names.tree)) (sym (same_path-is q p is)) (record { stands = stands; over = over })
    one_path q false is h = absurd (false≢true h)

-- ---- all removals

or_nothing : (a b : Bool) → ((a || false) || b) ≡ (a || b)
or_nothing true b = refl
or_nothing false b = refl

not_either : (f g : Path → Bool) (rows : Rows ℕ) → filter (λ r. not (g r.0)) (filter (λ r. not (f r.0)) rows) ≡ filter (λ r. not (f r.0 || g r.0)) rows
not_either f g [] = refl
not_either f g (r ∷ rows) =
    elim (f r.0) as (λ a. filter (λ s. not (g s.0)) (cond (not a) (r ∷ filter (λ s. not (f s.0)) rows) (filter (λ s. not (f s.0)) rows)) ≡ cond (not (a || g r.0)) (r ∷ filter (λ s. not (f s.0 || g s.0)) rows) (filter (λ s. not (f s.0 || g s.0)) rows)) [
      | true ↦ not_either f g rows
      | false ↦ ap (λ rs. cond (not (g r.0)) (r ∷ rs) rs) (not_either f g rows)
    ]

none_less : (rows : Rows ℕ) → rows ≡ rows_without [] rows
none_less [] = refl
none_less (r ∷ rows) = ap (λ rs. r ∷ rs) (none_less rows)

abbrev pub own_edits : List PlainEdit → List PlainEntry
own_edits edits = map (Edited own_request) edits

pub record RemovesAll (d : Durable) (paths : List Path) : Type 0 where
  pub next : Durable
  pub is : (rest : List PlainEdit) → replayed d (own_edits (map (λ p. Remove p) paths ++ rest)) ≡ replayed next (own_edits rest)
  pub removed : IsRemoved d paths next

or_later : (b c : Bool) → c ≡ true → (b || c) ≡ true
or_later true c h = refl
or_later false c h = h

pub all_removed : (d : Durable) (paths : List Path) (moment : ℕ) → IsKept d → is_rolling d.phase ≡ false → AreApart paths → ((p : Path) → among paths p ≡ true → GoesAt moment (fin.entries d.names.tree) p) → RemovesAll d paths
all_removed d [] moment k rolling clear all = record {
  next = d;
  is = λ rest. refl;
  removed = record { kept = k; rows = none_less (fin.entries d.names.tree); phase = refl; listed = λ q. refl };
}
all_removed d (p ∷ paths) moment k rolling clear all =
    let rows = fin.entries d.names.tree in
    let here = all p (ap (λ b. b || among paths p) (same_itself p)) in
    let one = one_removed d p moment k rolling here.stands here.over in
    let next = one.next in
    let later = all_removed next paths moment one.removed.kept (ap is_rolling one.removed.phase ∙ rolling) clear.1 (λ q inside. record {
      stands = ap (λ rs. is_some (at rs q)) one.removed.rows ∙ ap is_some (at-filter (λ r. not (begins p r || false)) rows q) ∙ ap (λ b. is_some (cond (not (b || false)) (at rows q) None)) (beside q inside (begins p q) refl)
          ∙ (all q (or_later (same_path q p) (among paths q) inside)).stands;
      over = (all q (or_later (same_path q p) (among paths q) inside)).over;
    }) in
    record {
      next = later.next;
      is = λ rest. ap (λ o. option_and_then (λ n. replayed n (own_edits (map (λ r. Remove r) paths ++ rest))) o) one.is ∙ later.is rest;
      removed = record {
        kept = later.removed.kept;
        rows = later.removed.rows ∙ ap (rows_without paths) one.removed.rows ∙ not_either (λ q. begins p q || false) (λ q. list_any (λ s. begins s q) paths) rows
            ∙ ap (λ (f : Path → Bool). filter (λ r. not (f r.0)) rows) (λ i q. or_nothing (begins p q) (list_any (λ s. begins s q) paths) i);
        phase = later.removed.phase ∙ one.removed.phase;
        listed = λ q. later.removed.listed q ∙ one.removed.listed q;
      };
    }
  where
    beside : (q : Path) → among paths q ≡ true → (b : Bool) → begins p q ≡ b → begins p q ≡ false
    beside q inside true is = absurd (clear.0 q is (some_passes (λ s. begins s q) paths q inside (begins-itself q)))
    beside q inside false is = is

-- ---- the paths that a scan removes: each once, in their order

to_t : (b : Bool) → b ≡ true → T b
to_t true e = tt
to_t false e = absurd (false≢true e)

from_t : (b : Bool) → T b → b ≡ true
from_t true h = refl
from_t false h = absurd h

last_decides : (o p : Ordering) → ordering_then o p ≡ Equal → p ≡ Equal
last_decides Less p h = absurd (cc)
last_decides Equal p h = h
last_decides Greater p h = absurd (cc)

same_removal : (q p : Path) → eq_by_cmp removal_cmp q p ≡ same_path q p
same_removal q p = each (eq_by_cmp removal_cmp q p) refl (same_path q p) refl
  where
    differ : removal_cmp q p ≡ Equal → q ≡ p
    differ h = paths_antisymmetric q p (last_decides (length_then_text_cmp q p) (path_cmp q p) h)

    each : (a : Bool) → eq_by_cmp removal_cmp q p ≡ a → (b : Bool) → same_path q p ≡ b → a ≡ b
    each true is true e = refl
    each true is false e = absurd (false≢true (sym e ∙ ap (λ x. same_path q x) (sym (differ ((Equal-is (removal_cmp q p)).0 is))) ∙ same_itself q))
    each false is true e = absurd (false≢true (sym is ∙ ap (λ x. eq_by_cmp removal_cmp q x) (sym (same_path-is q p e)) ∙ ap is_eq (tied_itself removal_total q)))
    each false is false e = refl

put_found : (q : Path) (ps : List Path) → is_some (fin.find removal_cmp q (put_paths ps)) ≡ among ps q
put_found q [] = refl
put_found q (p ∷ ps) =
    ap is_some (find-put removal_cmp removal_total q p true (put_paths ps)) ∙ by_key (eq_by_cmp removal_cmp q p) (put_found q ps) ∙ ap (λ b. b || among ps q) (same_removal q p)
  where
    by_key : (b : Bool) → is_some (fin.find removal_cmp q (put_paths ps)) ≡ among ps q → is_some (cond b (Some true) (fin.find removal_cmp q (put_paths ps))) ≡ (b || among ps q)
    by_key true rest = refl
    by_key false rest = rest

found_if : {V : Type 0} (v : Option V) (b : Bool) → is_some (cond (is_some v && b) v None) ≡ (is_some v && b)
found_if None b = refl
found_if (Some x) true = refl
found_if (Some x) false = refl

pub removed_each : (moment : ℕ) (rows : Rows ℕ) (q : Path) → among (removed_paths moment rows) q ≡ is_removed moment (at rows) q
removed_each moment rows q =
    let ps = map (λ r. r.0) (filter (λ r. is_removed moment (at rows) r.0) rows) in
    ap (λ (f : Path → Bool). list_any f (removed_paths moment rows)) (λ i p. sym (same_removal q p) i)
    ∙ sym (is_some-find removal_cmp q (put_paths ps)) ∙ put_found q ps
    ∙ sym (is_some-find path_cmp q (filter (λ r. is_removed moment (at rows) r.0) rows))
    ∙ ap is_some (find-where_key path_cmp (is_removed moment (at rows)) q (λ x e. ap (is_removed moment (at rows)) (sym (paths_antisymmetric q x e))) rows)
    ∙ found_if (at rows q) (goes moment q)

put_sorted : (ps : List Path) → T (is_sorted removal_cmp (put_paths ps))
put_sorted [] = tt
put_sorted (p ∷ ps) = is_sorted-put removal_cmp removal_total p true (put_paths ps) (put_sorted ps)

all_less_than : (p : Path) (es : List (Path × Bool)) → below_all removal_cmp p es ≡ true → AllByRecursion (λ q. removal_cmp p q ≡ Less) (map (λ e. e.0) es)
all_less_than p [] h = tt
all_less_than p (e ∷ es) h = let parts = and_parts (is_lt (removal_cmp p e.0)) (below_all removal_cmp p es) h in (less (removal_cmp p e.0) parts.0, all_less_than p es parts.1)
  where
    less : (o : Ordering) → is_lt o ≡ true → o ≡ Less
    less Less k = refl
    less Equal k = absurd (false≢true k)
    less Greater k = absurd (false≢true k)

rises : (es : List (Path × Bool)) → is_sorted removal_cmp es ≡ true → IsStrictlySortedBy removal_cmp (map (λ e. e.0) es)
unfolding IsStrictlySortedBy
rises [] h = tt
rises (e ∷ es) h = let parts = and_parts (below_all removal_cmp e.0 es) (is_sorted removal_cmp es) h in (all_less_than e.0 es parts.0, rises es parts.1)

pub removed_rise : (moment : ℕ) (rows : Rows ℕ) → IsStrictlySortedBy removal_cmp (removed_paths moment rows)
removed_rise moment rows =
    let ps = map (λ r. r.0) (filter (λ r. is_removed moment (at rows) r.0) rows) in rises (put_paths ps) (from_t (is_sorted removal_cmp (put_paths ps)) (put_sorted ps))

pub removed_apart : (moment : ℕ) (rows : Rows ℕ) → AreApart (removed_paths moment rows)
removed_apart moment rows = apart moment (removed_paths moment rows) (λ p inside. (and_parts (is_some (at rows p)) (goes moment p) (sym (removed_each moment rows p) ∙ inside)).1) (removed_rise moment rows)

pub removed_goes : (moment : ℕ) (rows : Rows ℕ) (p : Path) → among (removed_paths moment rows) p ≡ true → GoesAt moment rows p
removed_goes moment rows p inside = let parts = and_parts (is_some (at rows p)) (goes moment p) (sym (removed_each moment rows p) ∙ inside) in record { stands = parts.0; over = parts.1 }
