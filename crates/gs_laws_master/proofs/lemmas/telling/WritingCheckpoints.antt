-- The record of a checkpoint can be written, where its replies, its inverses and its holders can be told.
use Rattle.std.proofs.Common.{◌≡◌, ◌∙◌, ◌<◌, ◌≤◌, ◌+◌, ◌^◌, ◌==◌, ◌&&◌, ◌++◌, ℕ, Bool, true, false, cond, T, List, [], ◌∷◌, length, length-append, filter, map, refl, sym, ap, arith}
use Rattle.std.specs.Prelude.{flat_map, nat_lt, is_some, Option, Some, None}
use Rattle.std.specs.Cmp.{nat_cmp_total}
use Rattle.std.specs.FinMap as fin
use Rattle.std.specs.FinMap.Entries.{below_all, is_sorted}
use Rattle.std.specs.List.{list_all, AllByRecursion}
use Rattle.std.specs.Ordering.{is_lt, nat_cmp}
use Rattle.std.specs.declared.cmp.Ordering.{Ordering}
use Rattle.std.specs.declared.cmp.Ordering.TheVariants.{Less, Equal, Greater}
use Rattle.std.proofs.lemmas.Bool.{false≢true, and_parts}
use Rattle.std.proofs.lemmas.Bool.Decides.{nat_tests}
use Rattle.std.proofs.lemmas.List.Folds.{list_all-append}
use Rattle.gs_base.specs.declared.numbers.ClientId.{ClientId}
use Rattle.gs_base.specs.declared.refusal.Refusal.{Refusal}
use Rattle.gs_base.specs.declared.refusal.Refusal.TheVariants as refusals
use Rattle.gs_journal.specs.Journal.{checkpoint_size, last_generation}
use Rattle.gs_journal.specs.declared.version.Version.TheVariants.{Two}
use Rattle.gs_path.specs.Path.{Path, path_cmp, path_total, text_cmp}
use Rattle.gs_master_record.specs.Encoding.{body, epoch_end, inverse, list, node, number, path, phase, prepared_view, reference, reply, settled_entry, tree_entry}
use Rattle.gs_master_record.specs.Order.{entry_before, is_in_order, is_less, prepared_before, reference_before, reply_before, rises, rises_from, settled_before}
use Rattle.gs_master_record.specs.Plain.{PlainCheckpoint, PlainInverse, PlainNode, UndoAddChunk, UndoCow, UndoCreate, UndoForget, UndoHide, UndoMkdirs, UndoRemove, UndoRename, UndoSnapshot, UndoUnhide, Whole}
use Rattle.gs_master_record.specs.Writable.{AreParts, IsEntry, IsHandle, IsInverse, IsNode, IsPath, IsPreparedView, IsReference, IsReply, IsSettledEntry, IsTreeEntry}
use Rattle.gs_refs.specs.Counts.{last_count}
use Rattle.gs_master_spec.specs.Durable.{Durable, is_listed}
use Rattle.gs_master_spec.specs.Handling.{checkpoint, checkpoint_body, checkpoint_tests, written_unless}
use Rattle.gs_master_spec.specs.Replies.{client_cmp}
use Rattle.gs_master_spec.specs.State.{State, first_of, is_failed}
use Rattle.gs_master_order.specs.Order.{by_text}
use Rattle.gs_master_spec.specs.Whole.{checkpoint_of, prepared_entry, reference_of, reply_of, settled_of}
use Rattle.gs_master_state.proofs.Tracking.{client_total}
use Rattle.gs_edit.specs.Scan.{is_without_slashes}
use Rattle.gs_tree.specs.Build.{below_root, is_short}
use Rattle.gs_tree.specs.Chunks.{all_chunks}
use Rattle.gs_tree.specs.Edits.{chunks_in}
use Rattle.gs_tree.specs.Entry.{Entry, Dir, File, chunks_of}
use Rattle.gs_tree.specs.Find.{Rows}
use Rattle.gs_tree.proofs.Depths.{paths_antisymmetric}
use Rattle.gs_tree.proofs.Levels.{both_true}
use Rattle.gs_laws_master.specs.Promises.{IsKept, IsWritten}
use Rattle.gs_laws_master.specs.Written.{AreHandles, CheckpointsWritten, IsSteady, IsToldBack, is_spelled}
use Rattle.gs_laws_master.proofs.lemmas.fitting.AcceptedForgets.{lower}
use Rattle.gs_laws_master.proofs.lemmas.fitting.AcceptedUpgrades.{first_test}
use Rattle.gs_laws_master.proofs.lemmas.upgrades.LedBack.{kept_tree}
use Rattle.gs_laws_master.proofs.lemmas.spelling.Retold.{each_entry, each_found}
use Rattle.gs_laws_master.proofs.lemmas.spelling.SpelledNames.{path_of}
use Rattle.gs_laws_master.proofs.lemmas.standing.StandingCalls.{all_placed, is_placed}
use Rattle.gs_laws_master.proofs.lemmas.telling.Tellable.{given_some, list_longer, listed_handle, no_longer, settled_handle}
use Rattle.gs_laws_master.proofs.lemmas.telling.Telling.{all_filtered}
use Rattle.gs_laws_master.proofs.lemmas.spelling.Texted.{sorted_told}

-- ---- lists in their order

fst : (a b : Bool) → T (a && b) → T a
fst true b h = tt
fst false b h = h

snd : (a b : Bool) → T (a && b) → T b
snd true b h = h
snd false b h = absurd h

both : (a b : Bool) → T a → T b → T (a && b)
both true b h k = k
both false b h k = absurd h

true_of : (b : Bool) → T b → b ≡ true
true_of true h = refl
true_of false h = absurd h

module _ {K X : Type 0} (R : K → K → Ordering) where
  below_filtered : (f : K × X → Bool) (k : K) (es : List (K × X)) → T (below_all R k es) → T (below_all R k (filter f es))
  below_filtered f k [] h = h
  below_filtered f k (e ∷ es) h = by_test (f e) (fst (is_lt (R k e.0)) (below_all R k es) h) (below_filtered f k es (snd (is_lt (R k e.0)) (below_all R k es) h))
    where
      by_test : (b : Bool) → T (is_lt (R k e.0)) → T (below_all R k (filter f es)) → T (below_all R k (cond b (e ∷ filter f es) (filter f es)))
      by_test true own rest = both (is_lt (R k e.0)) (below_all R k (filter f es)) own rest
      by_test false own rest = rest

  sorted_filtered : (f : K × X → Bool) (es : List (K × X)) → T (is_sorted R es) → T (is_sorted R (filter f es))
  sorted_filtered f [] h = h
  sorted_filtered f (e ∷ es) h = by_test (f e) (below_filtered f e.0 es (fst (below_all R e.0 es) (is_sorted R es) h)) (sorted_filtered f es (snd (below_all R e.0 es) (is_sorted R es) h))
    where
      by_test : (b : Bool) → T (below_all R e.0 (filter f es)) → T (is_sorted R (filter f es)) → T (is_sorted R (cond b (e ∷ filter f es) (filter f es)))
      by_test true own rest = both (below_all R e.0 (filter f es)) (is_sorted R (filter f es)) own rest
      by_test false own rest = rest

  rises_mapped : {B : Type 0} (before : B → B → Bool) (g : K × X → B) → ((a b : K × X) → is_lt (R a.0 b.0) ≡ true → before (g a) (g b) ≡ true) → (es : List (K × X)) → T (is_sorted R es) → rises before (map g es) ≡ true
  rises_mapped before g step [] h = refl
  rises_mapped before g step (e ∷ []) h = refl
  rises_mapped before g step (e ∷ f ∷ es) h =
      let first = true_of (is_lt (R e.0 f.0)) (fst (is_lt (R e.0 f.0)) (below_all R e.0 es) (fst (below_all R e.0 (f ∷ es)) (is_sorted R (f ∷ es)) h)) in
      both_true (before (g e) (g f)) (rises_from before (g f) (map g es)) (step e f first) (rises_mapped before g step (f ∷ es) (snd (below_all R e.0 (f ∷ es)) (is_sorted R (f ∷ es)) h))

  rises_own : (before : K × X → K × X → Bool) → ((a b : K × X) → is_lt (R a.0 b.0) ≡ true → before a b ≡ true) → (es : List (K × X)) → T (is_sorted R es) → rises before es ≡ true
  rises_own before step [] h = refl
  rises_own before step (e ∷ []) h = refl
  rises_own before step (e ∷ f ∷ es) h =
      let first = true_of (is_lt (R e.0 f.0)) (fst (is_lt (R e.0 f.0)) (below_all R e.0 es) (fst (below_all R e.0 (f ∷ es)) (is_sorted R (f ∷ es)) h)) in
      both_true (before e f) (rises_from before f es) (step e f first) (rises_own before step (f ∷ es) (snd (below_all R e.0 (f ∷ es)) (is_sorted R (f ∷ es)) h))

less_so : (o : Ordering) → is_lt o ≡ true → is_less o ≡ true
less_so Less h = refl
less_so Equal h = absurd (false≢true h)
less_so Greater h = absurd (false≢true h)

-- ---- items of a list

mapped : {A B : Type 0} (P : B → Type 0) (g : A → B) (xs : List A) → AllByRecursion (λ x. P (g x)) xs → AllByRecursion P (map g xs)
mapped P g [] all = tt
mapped P g (x ∷ xs) all = (all.0, mapped P g xs all.1)

weaker : {A : Type 0} (P Q : A → Type 0) (xs : List A) → ((x : A) → P x → Q x) → AllByRecursion P xs → AllByRecursion Q xs
weaker P Q [] h all = tt
weaker P Q (x ∷ xs) h all = (h x all.0, weaker P Q xs h all.1)

every : {A : Type 0} (P : A → Type 0) (xs : List A) → ((x : A) → P x) → AllByRecursion P xs
every P [] h = tt
every P (x ∷ xs) h = (h x, every P xs h)

client_exact : (a b : ClientId) → client_cmp a b ≡ Equal → a ≡ b
client_exact a b e = ap (λ n. record { 0 = n }) (fin.nat_cmp-IsAntisymmetric a.0 b.0 e)

-- ---- the tree

-- what is so of the path and of the entry of each row, in the order of texts too
abbrev by_order : {A : Type 0} → Ordering → A → A → A → A
by_order Less a b c = a
by_order Equal a b c = b
by_order Greater a b c = c

module _ (P : Path → Type 0) (Q : Option (List ℕ) → Type 0) where
  abbrev IsBoth : PlainNode → Type 0
  IsBoth e = P e.0 × Q e.1

  put_both : (p : Path) (v : Option (List ℕ)) (es : List PlainNode) → P p → Q v → AllByRecursion IsBoth es → AllByRecursion IsBoth (fin.put text_cmp p v es)
  put_both p v [] a b all = ((a, b), tt)
  put_both p v (e ∷ es) a b all = each (put_both p v es a b all.1) (text_cmp p e.0)
    where
      each : AllByRecursion IsBoth (fin.put text_cmp p v es) → (o : Ordering) → AllByRecursion IsBoth (by_order o ((p, v) ∷ e ∷ es) ((e.0, v) ∷ es) (e ∷ fin.put text_cmp p v es))
      each rest Less = ((a, b), all)
      each rest Equal = ((all.0.0, b), all.1)
      each rest Greater = (all.0, rest)

  pub texts_both : (rows : Rows ℕ) → AllByRecursion (λ r. P r.0 × Q (chunks_of r.1)) rows → AllByRecursion IsBoth (by_text rows)
  texts_both [] all = tt
  texts_both (r ∷ rows) all = put_both r.0 (chunks_of r.1) (by_text rows) all.0.0 all.0.1 (texts_both rows all.1)

-- rows that stand are told
pub rows_told : (d : Durable) (rows : Rows ℕ) → ((chunk : ℕ) → is_placed d chunk ≡ true → IsHandle chunk) → list_all (λ r. list_all is_spelled r.0) rows ≡ true → list_all (λ r. is_short r.0) rows ≡ true → list_all (λ r. is_without_slashes r.0) rows ≡ true
    → list_all (is_placed d) (all_chunks rows) ≡ true → AllByRecursion (λ r. IsPath r.0 × AreHandles (chunks_of r.1)) rows
rows_told d [] handle spelled short plain placed = tt
rows_told d (r ∷ rows) handle spelled short plain placed =
    let a = and_parts (list_all is_spelled r.0) (list_all (λ q. list_all is_spelled q.0) rows) spelled in
    let b = and_parts (is_short r.0) (list_all (λ q. is_short q.0) rows) short in
    let c = and_parts (is_without_slashes r.0) (list_all (λ q. is_without_slashes q.0) rows) plain in
    let e = and_parts (list_all (is_placed d) (chunks_in (Some r.1))) (list_all (is_placed d) (all_chunks rows)) (sym (list_all-append (is_placed d) (chunks_in (Some r.1)) (all_chunks rows)) ∙ placed) in
    ((path_of r.0 a.0 b.0 c.0, own r.1 e.0), rows_told d rows handle a.1 b.1 c.1 e.1)
  where
    each : (chunks : List ℕ) → list_all (is_placed d) chunks ≡ true → AllByRecursion IsHandle chunks
    each [] all = tt
    each (x ∷ xs) all = let parts = and_parts (is_placed d x) (list_all (is_placed d) xs) all in (handle x parts.0, each xs parts.1)

    own : (entry : Entry ℕ) → list_all (is_placed d) (chunks_in (Some entry)) ≡ true → AreHandles (chunks_of entry)
    own Dir all = tt
    own (File chunks) all = each chunks all

root_off : (P : Path × Entry ℕ → Type 0) (rows : Rows ℕ) → AllByRecursion P rows → AllByRecursion P (below_root rows)
root_off P [] all = tt
root_off P (r ∷ rows) all = all.1

-- an item is no longer than its list
front_longer : (xs ys : List ℕ) → length xs ≤ length (xs ++ ys)
front_longer xs ys = omega (arith, length-append xs ys)

behind_longer : (xs ys : List ℕ) → length ys ≤ length (xs ++ ys)
behind_longer xs ys = omega (arith, length-append xs ys)

nodes_short : (most : ℕ) (es : List PlainNode) → length (flat_map tree_entry es) < most → AllByRecursion (λ e. length (node e.1) < most) es
nodes_short most [] low = tt
nodes_short most (e ∷ es) low =
    let all = front_longer (tree_entry e) (flat_map tree_entry es) in
    let rest = behind_longer (tree_entry e) (flat_map tree_entry es) in
    let own = behind_longer (path e.0) (node e.1) in (omega arith, nodes_short most es (omega arith))

entries_told : (es : List PlainNode) → AllByRecursion (λ e. IsPath e.0 × AreHandles e.1) es → AllByRecursion (λ e. length (node e.1) < 2 ^ 32) es → AllByRecursion IsTreeEntry es
entries_told [] all short = tt
entries_told (e ∷ es) all short = ((all.0.0, own e.1 all.0.1 short.0), entries_told es all.1 short.1)
  where
    own : (v : Option (List ℕ)) → AreHandles v → length (node v) < 2 ^ 32 → IsNode v
    own None handles low = tt
    own (Some chunks) handles low = (let many = no_longer number (λ n. omega arith) chunks in let all = list_longer number chunks in omega arith, handles)

-- ---- the parts of a checkpoint

record AreShort (c : PlainCheckpoint) : Type 0 where
  ends : length (list epoch_end c.ends) < 2 ^ 32
  tree : length (list tree_entry c.tree) < 2 ^ 32
  references : length (list reference c.references) < 2 ^ 32
  settled : length (list settled_entry c.settled) < 2 ^ 32
  replies : length (list reply c.replies) < 2 ^ 32
  prepared : length (list (prepared_view Two) c.prepared) < 2 ^ 32
  inverses : length (list inverse c.inverses) < 2 ^ 32

-- one part and what stands behind it
cut_short : (xs ys : List ℕ) → length (xs ++ ys) < 2 ^ 32 → (length xs < 2 ^ 32) × (length ys < 2 ^ 32)
cut_short xs ys low = (let a = front_longer xs ys in omega arith, let b = behind_longer xs ys in omega arith)

parts_short : (c : PlainCheckpoint) → length (body Two (Whole c)) < 2 ^ 32 → AreShort c
parts_short c low =
    let l12 = list inverse c.inverses in
    let l11 = list (prepared_view Two) c.prepared ++ l12 in
    let l10 = list reply c.replies ++ l11 in
    let l9 = list settled_entry c.settled ++ l10 in
    let l8 = list reference c.references ++ l9 in
    let l7 = list tree_entry c.tree ++ l8 in
    let l6 = list epoch_end c.ends ++ l7 in
    let l5 = phase c.phase ++ l6 in
    let l4 = number c.epoch ++ l5 in
    let l3 = number c.next_hidden ++ l4 in
    let l2 = number c.next_version ++ l3 in
    let s1 = cut_short (number c.next_handle) l2 low in
    let s2 = cut_short (number c.next_version) l3 s1.1 in
    let s3 = cut_short (number c.next_hidden) l4 s2.1 in
    let s4 = cut_short (number c.epoch) l5 s3.1 in
    let s5 = cut_short (phase c.phase) l6 s4.1 in
    let s6 = cut_short (list epoch_end c.ends) l7 s5.1 in
    let s7 = cut_short (list tree_entry c.tree) l8 s6.1 in
    let s8 = cut_short (list reference c.references) l9 s7.1 in
    let s9 = cut_short (list settled_entry c.settled) l10 s8.1 in
    let s10 = cut_short (list reply c.replies) l11 s9.1 in
    let s11 = cut_short (list (prepared_view Two) c.prepared) l12 s10.1 in
    record { ends = s6.0; tree = s7.0; references = s8.0; settled = s9.0; replies = s10.0; prepared = s11.0; inverses = s11.1 }

few_items : {A : Type 0} (item : A → List ℕ) → ((x : A) → 1 ≤ length (item x)) → (xs : List A) → length (list item xs) < 2 ^ 32 → length xs < 2 ^ 32
few_items item some xs low = let many = no_longer item some xs in let all = list_longer item xs in omega arith

inverses_short : (most : ℕ) (is : List PlainInverse) → length (flat_map inverse is) < most → AllByRecursion (λ i. length (inverse i) < most) is
inverses_short most [] low = tt
inverses_short most (i ∷ is) low = let all = front_longer (inverse i) (flat_map inverse is) in let rest = behind_longer (inverse i) (flat_map inverse is) in (omega arith, inverses_short most is (omega arith))

inverses_told : (is : List PlainInverse) → AllByRecursion IsToldBack is → AllByRecursion (λ i. length (inverse i) < 2 ^ 32) is → AllByRecursion IsInverse is
inverses_told [] all short = tt
inverses_told (i ∷ is) all short = (own i all.0 short.0, inverses_told is all.1 short.1)
  where
    paths_few : (ps : List Path) → length (list path ps) < 2 ^ 32 → length ps < 2 ^ 32
    paths_few ps low = few_items path (λ p. omega arith) ps low

    own : (x : PlainInverse) → IsToldBack x → length (inverse x) < 2 ^ 32 → IsInverse x
    own (UndoMkdirs ps) t low = (paths_few ps (omega arith), t)
    own (UndoCreate ps) t low = (paths_few ps (omega arith), t)
    own (UndoRename a b) t low = t
    own (UndoHide a b) t low = t
    own (UndoUnhide a b) t low = t
    own (UndoRemove es) t low = (few_items tree_entry (λ e. omega arith) es (omega arith), entries_told es t (nodes_short (2 ^ 32) es (let all = list_longer tree_entry es in omega arith)))
    own (UndoAddChunk p) t low = t
    own (UndoCow p index old) t low = t
    own (UndoSnapshot p) t low = t
    own (UndoForget chunks) t low = (few_items number (λ n. omega arith) chunks (omega arith), t)

-- ---- what stands is told

module _ (s : State) (y : IsSteady s) where
  abbrev now : Durable
  now = s.durable

  kept : IsKept now
  kept = y.firm.stands.kept

  placed_handle : (chunk : ℕ) → is_placed now chunk ≡ true → IsHandle chunk
  placed_handle chunk h = listed_handle now chunk kept y.within.low (and_parts (is_listed now chunk) (is_some (fin.get now.chunks chunk)) h).0

  tree_told : AllByRecursion (λ (e : PlainNode). IsPath e.0 × AreHandles e.1) (by_text (below_root (fin.entries now.names.tree)))
  tree_told =
      let rows = fin.entries now.names.tree in
      let plain = kept_tree now.names kept.names in
      let spelled = each_found path_cmp path_total paths_antisymmetric (λ r. list_all is_spelled r.0) rows (fin.entries_sorted now.names.tree) (λ p entry found. y.within.spelled.now p (ap is_some (fin.get-entries now.names.tree p ∙ found))) in
      texts_both IsPath AreHandles (below_root rows) (root_off _ rows (rows_told now rows placed_handle spelled plain.short plain.plain (all_placed now kept)))

  references_told : AllByRecursion IsReference (map reference_of (fin.entries now.names.refs))
  references_told = mapped IsReference reference_of (fin.entries now.names.refs) (each_entry nat_cmp nat_cmp_total fin.nat_cmp-IsAntisymmetric (λ k v. IsReference (reference_of (k, v))) (fin.entries now.names.refs) (fin.entries_sorted now.names.refs)
      (λ k v found. (let has = fin.get-entries now.names.refs k ∙ found in (listed_handle now k kept y.within.low (ap is_some has), few v (kept.names.counts k v has)))))
    where
      few : (v : ℕ) → v ≤ last_count → v < 2 ^ 32
      few v h = omega arith

  settled_told : AllByRecursion IsSettledEntry (map settled_of (filter (λ e. is_listed now e.0) (fin.entries now.chunks)))
  settled_told = mapped IsSettledEntry settled_of (filter (λ e. is_listed now e.0) (fin.entries now.chunks)) (all_filtered _ (λ e. is_listed now e.0) (fin.entries now.chunks)
      (each_entry nat_cmp nat_cmp_total fin.nat_cmp-IsAntisymmetric (λ k v. IsSettledEntry (settled_of (k, v))) (fin.entries now.chunks) (fin.entries_sorted now.chunks)
      (λ k v found. (let has = fin.get-entries now.chunks k ∙ found in (settled_handle now k kept y.within.low (ap is_some has), (kept.views k v has).told)))))

  replies_told : AllByRecursion IsReply (map reply_of (fin.entries now.replies))
  replies_told = mapped IsReply reply_of (fin.entries now.replies)
      (each_entry client_cmp client_total client_exact (λ k v. IsReply (reply_of (k, v))) (fin.entries now.replies) (fin.entries_sorted now.replies) (λ k v found. y.within.replies k v (fin.get-entries now.replies k ∙ found)))

  prepared_told : AllByRecursion (IsPreparedView Two) (map prepared_entry (fin.entries now.prepared))
  prepared_told = mapped (IsPreparedView Two) prepared_entry (fin.entries now.prepared) (each_entry nat_cmp nat_cmp_total fin.nat_cmp-IsAntisymmetric (λ k v. IsPreparedView Two (prepared_entry (k, v))) (fin.entries now.prepared) (fin.entries_sorted now.prepared)
      (λ k v found. (let has = fin.get-entries now.prepared k ∙ found in let p = kept.prepared k v has in (((given_some now.next_handle k p.0, y.within.low.prepared k (ap is_some has)), p.1.told), y.within.holders k v has))))

  parts_told : AreShort (checkpoint_of now) → AreParts Two (checkpoint_of now)
  unfolding checkpoint_of
  parts_told short = (
    y.firm.stands.counters.handle,
    (
      y.firm.stands.counters.version,
      (
        y.firm.stands.counters.hidden,
        (
          kept.now,
          (
            tt,
            (
              (few_items epoch_end (λ e. omega arith) now.ends short.ends, every _ now.ends (λ e. tt)),
              (
                (few_items tree_entry (λ e. omega arith) (by_text (below_root (fin.entries now.names.tree))) short.tree, entries_told (by_text (below_root (fin.entries now.names.tree))) tree_told (nodes_short (2 ^ 32) (by_text (below_root (fin.entries now.names.tree))) (tree_low (by_text (below_root (fin.entries now.names.tree))) short.tree))),
                (
                  (few_items reference (λ r. omega arith) (map reference_of (fin.entries now.names.refs)) short.references, references_told),
                  (
                    (few_items settled_entry (λ e. omega arith) (map settled_of (filter (λ e. is_listed now e.0) (fin.entries now.chunks))) short.settled, settled_told),
                    (
                      (few_items reply (λ r. omega arith) (map reply_of (fin.entries now.replies)) short.replies, replies_told),
                      (
                        (few_items (prepared_view Two) (λ v. omega arith) (map prepared_entry (fin.entries now.prepared)) short.prepared, prepared_told),
                        (few_items inverse (λ i. omega arith) now.inverses short.inverses, inverses_told now.inverses y.within.back (inverses_short (2 ^ 32) now.inverses (back_low now.inverses short.inverses))),
                      ),
                    ),
                  ),
                ),
              ),
            ),
          ),
        ),
      ),
    ),
  )
    where
      tree_low : (es : List PlainNode) → length (list tree_entry es) < 2 ^ 32 → length (flat_map tree_entry es) < 2 ^ 32
      tree_low es low = let all = list_longer tree_entry es in omega arith

      back_low : (is : List PlainInverse) → length (list inverse is) < 2 ^ 32 → length (flat_map inverse is) < 2 ^ 32
      back_low is low = let all = list_longer inverse is in omega arith

  in_order : is_in_order (checkpoint_of now) ≡ true
  unfolding checkpoint_of
  in_order =
      both_true (rises entry_before (by_text (below_root (fin.entries now.names.tree)))) _ (rises_own text_cmp entry_before (λ a b less. less_so (text_cmp a.0 b.0) less) (by_text (below_root (fin.entries now.names.tree))) (sorted_told (below_root (fin.entries now.names.tree))))
      (both_true (rises reference_before (map reference_of (fin.entries now.names.refs))) _ (rises_mapped nat_cmp reference_before reference_of (λ a b less. lower a.0 b.0 less) (fin.entries now.names.refs) (fin.entries_sorted now.names.refs))
      (both_true (rises settled_before (map settled_of (filter (λ e. is_listed now e.0) (fin.entries now.chunks)))) _
      (rises_mapped nat_cmp settled_before settled_of (λ a b less. lower a.0 b.0 less) (filter (λ e. is_listed now e.0) (fin.entries now.chunks)) (sorted_filtered nat_cmp (λ e. is_listed now e.0) (fin.entries now.chunks) (fin.entries_sorted now.chunks)))
      (both_true (rises reply_before (map reply_of (fin.entries now.replies))) (rises prepared_before (map prepared_entry (fin.entries now.prepared)))
      (rises_mapped client_cmp reply_before reply_of (λ a b less. lower a.0.0 b.0.0 less) (fin.entries now.replies) (fin.entries_sorted now.replies))
      (rises_mapped nat_cmp prepared_before prepared_entry (λ a b less. lower a.0 b.0 less) (fin.entries now.prepared) (fin.entries_sorted now.prepared)))))

  body_short : nat_lt s.log.limit (checkpoint_size (checkpoint_body now)) ≡ false → length (checkpoint_body now) < 2 ^ 32
  body_short fits = room (length (checkpoint_body now)) s.log.limit fits y.limit
    where
      room : (n limit : ℕ) → nat_lt limit (13 + (6 + n) + 1) ≡ false → limit < 2 ^ 32 → n < 2 ^ 32
      room n limit h low = grind (arith, nat_tests)

  whole_written : nat_lt s.log.limit (checkpoint_size (checkpoint_body now)) ≡ false → IsEntry Two (Whole (checkpoint_of now))
  whole_written fits = let low = body_short fits in ((parts_told (parts_short (checkpoint_of now) low), in_order), low)

  tests_written : (refusal : Option Refusal) → first_of (checkpoint_tests (is_failed s.fault) s.volatile.is_preparing s.log (checkpoint_body now)) ≡ refusal → IsWritten (written_unless s refusal)
  tests_written None passed =
      let last = (nat_lt s.log.limit (checkpoint_size (checkpoint_body now)), refusals.Full) ∷ [] in
      let third = (s.log.generation == last_generation, refusals.Exhausted) ∷ last in
      let one = first_test (is_failed s.fault) refusals.Device ((s.volatile.is_preparing, refusals.Preparing) ∷ third) passed in
      let two = first_test s.volatile.is_preparing refusals.Preparing third one.1 in
      let three = first_test (s.log.generation == last_generation) refusals.Exhausted last two.1 in
      let four = first_test (nat_lt s.log.limit (checkpoint_size (checkpoint_body now))) refusals.Full [] three.1 in (whole_written four.0, tt)
  tests_written (Some refusal) passed = tt

pub checkpoints_written : CheckpointsWritten
unfolding checkpoint
checkpoints_written s y = tests_written s y (first_of (checkpoint_tests (is_failed s.fault) s.volatile.is_preparing s.log (checkpoint_body s.durable))) refl
