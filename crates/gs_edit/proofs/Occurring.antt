-- The counts stay how often each chunk stands in the tree's files.
use Rattle.std.proofs.Common.{◌≡◌, ℕ, ◌+◌, ◌-◌, ◌<◌, ◌&&◌, ◌==◌, Bool, true, false, not, cond, List, [], ◌∷◌, length, take, drop, drop-cons, suc, inl, inr, refl, sym, ap, ◌∙◌, subst, arith}
use Rattle.std.specs.Prelude.{Option, Some, None, Result, Ok, Err, is_none, slice_get}
use Rattle.std.proofs.lemmas.Bool.{and_parts}
use Rattle.std.proofs.lemmas.Bool.Decides.{nat_tests}
use Rattle.std.specs.List.{list_all}
use Rattle.std.specs.List.Sorted.{IsStrictlySortedBy}
use Rattle.std.proofs.lemmas.Option.{slice_get_cases, get_or_from_slice_get}
use Rattle.std.proofs.lemmas.List.{drop_all}
use Rattle.std.specs.Cmp.{nat_cmp_total}
use Rattle.std.specs.Ordering.{nat_cmp}
use Rattle.std.specs.FinMap.{FinMap, get, remove, entries, get-empty, get-insert, get-remove}
use Rattle.gs_base.specs.declared.refusal.Refusal.{Refusal}
use Rattle.gs_base.specs.declared.refusal.Refusal.TheVariants.{BadLine}
use Rattle.gs_path.specs.Path.{path_cmp}
use Rattle.gs_refs.specs.Counts.{Counts, count_or_zero, occurrences, raised_each, lowered_each, put_each, with_each, ascends}
use Rattle.gs_refs.proofs.EachLemmas.{lowered-sum, lowered_back}
use Rattle.gs_tree.specs.Entry.{Entry}
use Rattle.gs_tree.specs.Edits.{chunks_in}
use Rattle.gs_tree.specs.Chunks.{all_chunks, chunks_under, part_chunks}
use Rattle.gs_tree.specs.Counting.{IsAdditive, dropped_by, put_back_by}
use Rattle.gs_tree.proofs.Counting.{undone_counts}
use Rattle.gs_tree.proofs.Entering.{sound-dir, sound_entries}
use Rattle.gs_tree.specs.declared.inverse.TreeInverse.{TreeInverse}
use Rattle.gs_tree.specs.declared.inverse.TreeInverse.TheVariants.{Made, Moved, Removed, Added, Changed, Copied}
use Rattle.gs_edit.specs.Table.{root_rows}
use Rattle.gs_edit.specs.View.{NamesView}
use Rattle.gs_edit.specs.Names.{blank, NamesTakenBack, Undoes, IsCounted, counts_back, accepted, without_added, without_changed, returned, last_chunk, is_one, has_room}
use Rattle.gs_edit.specs.declared.edit.Inverse.{Inverse}
use Rattle.gs_edit.specs.declared.edit.Inverse.TheVariants as inverses
use Rattle.gs_edit.proofs.Applied.{same_tree}
use Rattle.gs_edit.proofs.References.{same, same-is, one_is, none_is, among, all_among, get-with}

pub occurrences-append : (h : ℕ) → IsAdditive (occurrences h)
occurrences-append h [] ys = omega arith
occurrences-append h (x ∷ xs) ys = ap (λ k. cond (same h x) 1 0 + k) (occurrences-append h xs ys) ∙ omega arith

some_is : (m n : Counts) → ◌≡◌ {A = Option Counts} (Some m) (Some n) → m ≡ n
some_is m n e = cc

accepted_is : (r : Result Counts Refusal) (n : Counts) → accepted r ≡ Some n → r ≡ Ok n
accepted_is (Ok m) n e = ap (λ c. Ok c) (some_is m n e)
accepted_is (Err f) n e = absurd (cc)

inside : (cs : List ℕ) (j c : ℕ) → slice_get cs j ≡ Some c → j < length cs
inside cs j c e = elim (slice_get_cases cs j).1 [
  | inl found ↦ found.1
  | inr past ↦ absurd (let k : Some c ≡ None = sym e ∙ past.1 in cc)
]

-- the chunk at a place, as a list
piece_at : (cs : List ℕ) (j c : ℕ) → slice_get cs j ≡ Some c → take 1 (drop j cs) ≡ c ∷ []
piece_at cs j c e = ap (take 1) (drop-cons cs j c (inside cs j c e) ∙ ap (λ x. x ∷ drop (suc j) cs) (get_or_from_slice_get cs j c c e))

last_piece : (cs : List ℕ) (c : ℕ) → last_chunk cs ≡ Some c → drop (length cs - 1) cs ≡ c ∷ []
last_piece cs c e =
    let j = length cs - 1 in
    let within = inside cs j c e in
    drop-cons cs j c within ∙ ap (λ x. x ∷ drop (suc j) cs) (get_or_from_slice_get cs j c c e)
    ∙ ap (λ (rest : List ℕ). c ∷ rest) (drop_all (suc j) cs (omega (arith, within)))

-- a chunk of one reference that is listed no more
removed_at : (m : Counts) (c h : ℕ) → is_one (get m c) ≡ true → count_or_zero (get (remove m c) h) + occurrences h (c ∷ []) ≡ count_or_zero (get m h)
removed_at m c h one =
    ap (λ v. count_or_zero v + (cond (same h c) 1 0 + 0)) (get-remove nat_cmp_total m c h)
    ∙ elim (same h c) as (λ b. same h c ≡ b → count_or_zero (cond b None (get m h)) + (cond b 1 0 + 0) ≡ count_or_zero (get m h)) [
      | true ↦ λ b. sym (ap count_or_zero (ap (get m) (same-is h c b) ∙ one_is (get m c) one))
      | false ↦ λ b. omega arith
    ] refl

added_balance : (cs : List ℕ) (m n : Counts) (h : ℕ) → without_added m (last_chunk cs) ≡ Some n → count_or_zero (get n h) + occurrences h (drop (length cs - 1) cs) ≡ count_or_zero (get m h) + 0
added_balance cs m n h is = each (last_chunk cs) refl is
  where
    tested : (c : ℕ) (b : Bool) → last_chunk cs ≡ Some c → is_one (get m c) ≡ b → cond b (Some (remove m c)) None ≡ Some n → count_or_zero (get n h) + occurrences h (drop (length cs - 1) cs) ≡ count_or_zero (get m h) + 0
    tested c true e one g =
        ap (λ v. count_or_zero (get v h) + occurrences h (drop (length cs - 1) cs)) (sym (some_is (remove m c) n g)) ∙ ap (λ l. count_or_zero (get (remove m c) h) + occurrences h l) (last_piece cs c e)
        ∙ removed_at m c h one ∙ omega arith
    tested c false e one g = absurd (cc)

    each : (v : Option ℕ) → last_chunk cs ≡ v → without_added m v ≡ Some n → count_or_zero (get n h) + occurrences h (drop (length cs - 1) cs) ≡ count_or_zero (get m h) + 0
    each None e g = absurd (cc)
    each (Some c) e g = tested c (is_one (get m c)) e refl g

-- the reference of a chunk that goes to another
returned_at : (m : Counts) (c old h : ℕ) → is_one (get m c) ≡ true → (c == old) ≡ false → count_or_zero (get (returned m c old) h) + occurrences h (c ∷ []) ≡ count_or_zero (get m h) + occurrences h (old ∷ [])
returned_at m c old h one differ =
    ap (λ v. count_or_zero v + (cond (same h c) 1 0 + 0)) (get-insert nat_cmp_total (remove m c) old (count_or_zero (get m old) + 1) h)
    ∙ elim (same h old) as (λ b. same h old ≡ b → count_or_zero (cond b (Some (count_or_zero (get m old) + 1)) (get (remove m c) h)) + (cond (same h c) 1 0 + 0) ≡ count_or_zero (get m h) + (cond b 1 0 + 0)) [
      | true ↦ λ b. at_old (same-is h old b) (same h c) refl
      | false ↦ λ b. removed_at m c h one ∙ omega arith
    ] refl
  where
    at_old : h ≡ old → (b : Bool) → same h c ≡ b → count_or_zero (get m old) + 1 + (cond b 1 0 + 0) ≡ count_or_zero (get m h) + (1 + 0)
    at_old e true t = absurd (let k : c ≡ old = sym (same-is h c t) ∙ e in grind (arith, nat_tests))
    at_old e false t = ap (λ k. count_or_zero (get m k) + 1 + (0 + 0)) (sym e) ∙ omega arith

isnt : (b : Bool) → not b ≡ true → b ≡ false
isnt true k = absurd (cc)
isnt false k = refl

changed_balance : (cs : List ℕ) (index old : ℕ) (m n : Counts) (h : ℕ) → without_changed m (slice_get cs index) old ≡ Some n → count_or_zero (get n h) + occurrences h (take 1 (drop index cs)) ≡ count_or_zero (get m h) + occurrences h (old ∷ [])
changed_balance cs index old m n h is = each (slice_get cs index) refl is
  where
    tested : (c : ℕ) (b : Bool) → slice_get cs index ≡ Some c → (is_one (get m c) && (not (c == old) && has_room (get m old))) ≡ b → cond b (Some (returned m c old)) None ≡ Some n → count_or_zero (get n h) + occurrences h (take 1 (drop index cs)) ≡ count_or_zero (get m h) + occurrences h (old ∷ [])
    tested c true e tests g =
        let parts = and_parts (is_one (get m c)) (not (c == old) && has_room (get m old)) tests in
        let rest = and_parts (not (c == old)) (has_room (get m old)) parts.1 in
        ap (λ v. count_or_zero (get v h) + occurrences h (take 1 (drop index cs))) (sym (some_is (returned m c old) n g))
        ∙ ap (λ l. count_or_zero (get (returned m c old) h) + occurrences h l) (piece_at cs index c e) ∙ returned_at m c old h parts.0 (isnt (c == old) rest.0)
    tested c false e tests g = absurd (cc)

    each : (v : Option ℕ) → slice_get cs index ≡ v → without_changed m v old ≡ Some n → count_or_zero (get n h) + occurrences h (take 1 (drop index cs)) ≡ count_or_zero (get m h) + occurrences h (old ∷ [])
    each None e g = absurd (cc)
    each (Some c) e g = tested c (is_one (get m c) && (not (c == old) && has_room (get m old))) e refl g

-- the counts lose and win what the tree does
counts_balance : (i : TreeInverse) (t : FinMap path_cmp (Entry ℕ)) (m n : Counts) → counts_back i t m ≡ Some n → (h : ℕ) → count_or_zero (get n h) + occurrences h (dropped_by i t) ≡ count_or_zero (get m h) + occurrences h (put_back_by i)
counts_balance (Made path above) t m n is h = ap (λ v. count_or_zero (get v h) + 0) (sym (some_is m n is))
counts_balance (Moved from to) t m n is h = ap (λ v. count_or_zero (get v h) + 0) (sym (some_is m n is))
counts_balance (Removed path node) t m n is h =
    let sum = lowered-sum (part_chunks node) n m h (lowered_back (part_chunks node) m n (accepted_is (raised_each m (part_chunks node)) n is)) in
    ap (λ k. k + 0) sum ∙ omega arith
counts_balance (Added path) t m n is h = added_balance (chunks_in (get t path)) m n h is
counts_balance (Changed path index old) t m n is h = changed_balance (chunks_in (get t path)) index old m n h is
counts_balance (Copied path) t m n is h =
    let sum = lowered-sum (chunks_under path (entries t)) m n h (accepted_is (lowered_each m (chunks_under path (entries t))) n is) in
    omega (arith, sum)

-- chunks that are listed without references
put_counts : (hs : List ℕ) (m n : Counts) (h : ℕ) → accepted (put_each m hs) ≡ Some n → count_or_zero (get n h) ≡ count_or_zero (get m h)
put_counts hs m n h is = tested (ascends hs && list_all (λ k. is_none (get m k)) hs) refl is
  where
    listed : (b : Bool) → list_all (λ k. is_none (get m k)) hs ≡ true → among h hs ≡ b → count_or_zero (cond b (Some 0) (get m h)) ≡ count_or_zero (get m h)
    listed true all e = sym (ap count_or_zero (none_is (get m h) (all_among (λ k. is_none (get m k)) hs h all e)))
    listed false all e = refl

    tested : (b : Bool) → (ascends hs && list_all (λ k. is_none (get m k)) hs) ≡ b → accepted (cond b (Ok (with_each m hs)) (Err BadLine)) ≡ Some n → count_or_zero (get n h) ≡ count_or_zero (get m h)
    tested true t g =
        let parts = and_parts (ascends hs) (list_all (λ k. is_none (get m k)) hs) t in
        ap (λ v. count_or_zero (get v h)) (sym (some_is (with_each m hs) n g)) ∙ ap count_or_zero (get-with hs m h) ∙ listed (among h hs) parts.1 refl
    tested false t g = absurd (cc)

-- an edit keeps the counts true, as what takes it back shows
pub stays_counted : (i : Inverse) (old new : NamesView) → NamesTakenBack i old new → IsCounted old → IsCounted new
stays_counted (inverses.Tree i) old new taken counted h =
    let rows = undone_counts (occurrences h) i new.tree old.tree (occurrences-append h) taken.fits (λ q. sym (taken.tree q)) in
    let refs = counts_balance i new.tree new.refs old.refs taken.refs h in
    let was = counted h in
    omega (arith, rows, refs, was)
stays_counted (inverses.Remember chunks) old new taken counted h =
    let rows : new.tree ≡ old.tree = same_tree new.tree old.tree taken.tree in
    sym (put_counts chunks.items new.refs old.refs h taken.refs) ∙ counted h ∙ ap (λ (t : FinMap path_cmp (Entry ℕ)). occurrences h (all_chunks (entries t))) (sym rows)

-- and so does its inverse
pub undo_counted : (i : Inverse) (old new : NamesView) (r : Result (Unit {0}) Refusal) → Undoes i old r new → IsCounted old → IsCounted new
undo_counted i old new (Err e) u counted h = subst (λ (n : NamesView). IsCounted n) (sym u.1) counted h
undo_counted (inverses.Tree i) old new (Ok _) u counted h =
    let rows = undone_counts (occurrences h) i old.tree new.tree (occurrences-append h) u.0 u.1 in
    let refs = counts_balance i old.tree old.refs new.refs u.2 h in
    let was = counted h in
    omega (arith, rows, refs, was)
undo_counted (inverses.Remember chunks) old new (Ok _) u counted h =
    let rows : new.tree ≡ old.tree = same_tree new.tree old.tree u.1 in
    put_counts chunks.items old.refs new.refs h u.2 ∙ counted h ∙ ap (λ (t : FinMap path_cmp (Entry ℕ)). occurrences h (all_chunks (entries t))) (sym rows)

-- new names have no chunk and no count
pub blank_counted : IsCounted blank
unfolding IsStrictlySortedBy
blank_counted handle =
    ap count_or_zero (get-empty nat_cmp handle) ∙ sym (ap (λ rows. occurrences handle (all_chunks rows)) (sound_entries root_rows (sound-dir [] tt tt)))
