-- Whether the references of a checkpoint count the chunks of its tree.
use Rattle.std.proofs.Common.{◌≡◌, inl, inr, ◌+◌, ◌<◌, ◌==◌, ◌&&◌, ◌||◌, ℕ, Bool, true, false, cond, List, [], ◌∷◌, refl, sym, ap, ◌∙◌, subst, arith, eq-eqb, Ordering}
use Rattle.std.specs.Prelude.{Option, Some, None, is_some, is_none, unwrap_or, Result, Ok, Err}
use Rattle.std.specs.Cmp.{eq_by_cmp_equiv, nat_cmp_total}
use Rattle.std.specs.FinMap as fin
use Rattle.std.specs.FinMap.Entries.{by_order, same_entries}
use Rattle.std.specs.List.{list_all, list_any}
use Rattle.std.specs.Ordering.{eq_by_cmp, is_eq, nat_cmp}
use Rattle.std.specs.declared.cmp.Ordering.TheVariants.{Less, Equal, Greater}
use Rattle.std.proofs.lemmas.Bool.{false≢true, and_parts}
use Rattle.std.proofs.lemmas.Bool.Decides.{nat_tests}
use Rattle.gs_base.specs.declared.refusal.Refusal.{Refusal}
use Rattle.gs_path.specs.Path.{Path, path_cmp, path_total}
use Rattle.gs_refs.specs.Counts.{Counts, IsCountOf, count_or_zero, occurrences}
use Rattle.gs_tree.specs.Build.{all_apart, is_short, is_tree, rooted_rows, rows_of_entries, Builds}
use Rattle.gs_tree.specs.Chunks.{all_chunks, by_path}
use Rattle.gs_tree.specs.Edits.{chunks_in, same_path}
use Rattle.gs_tree.specs.Entry.{Entry}
use Rattle.gs_tree.specs.Find.{Rows, at}
use Rattle.gs_tree.specs.Plain.{Same}
use Rattle.gs_tree.proofs.Depths.{paths_antisymmetric}
use Rattle.gs_tree.proofs.Levels.{both_true, never, no_one, tail_none}
use Rattle.gs_tree.proofs.Under.{at-by_path, by_path-sorted}
use Rattle.gs_edit.specs.Names.{GivesNames}
use Rattle.gs_edit.specs.View.{NamesView, names_of}
use Rattle.gs_edit.proofs.Applied.{same_tree}
use Rattle.gs_edit.proofs.Occurring.{occurrences-append}
use Rattle.gs_edit.proofs.References.{all_among, all_of, among, same-is}
use Rattle.gs_master_record.specs.Plain.{plain_checkpoint}
use Rattle.gs_master_record.specs.declared.checkpoint.Checkpoint.{Checkpoint}
use Rattle.gs_master_record.specs.declared.checkpoint.Reference.{Reference}
use Rattle.gs_master_state.specs.Checkpoints.{TellsNames, all_told, are_names, counts_in, is_told}
use Rattle.gs_master_spec.specs.Whole.{are_counts}
use Rattle.gs_master_state.proofs.Takings.{rows_back_again}

-- ---- the chunks of rows in another order

put_chunks : (h : ℕ) (p : Path) (e : Entry ℕ) (rows : Rows ℕ) → at rows p ≡ None → occurrences h (all_chunks (fin.put path_cmp p e rows)) ≡ occurrences h (chunks_in (Some e)) + occurrences h (all_chunks rows)
put_chunks h p e [] none = occurrences-append h (chunks_in (Some e)) []
put_chunks h p e (r ∷ rows) none = each (put_chunks h p e rows) (path_cmp p r.0) refl
  where
    each : (at rows p ≡ None → occurrences h (all_chunks (fin.put path_cmp p e rows)) ≡ occurrences h (chunks_in (Some e)) + occurrences h (all_chunks rows)) → (o : Ordering) → path_cmp p r.0 ≡ o
        → occurrences h (all_chunks (by_order o ((p, e) ∷ r ∷ rows) ((r.0, e) ∷ rows) (r ∷ fin.put path_cmp p e rows))) ≡ occurrences h (chunks_in (Some e)) + occurrences h (all_chunks (r ∷ rows))
    each rest Less is = occurrences-append h (chunks_in (Some e)) (all_chunks (r ∷ rows))
    each rest Equal is = absurd (false≢true (sym (tail_none (same_path p r.0) r.1 (at rows p) none).0 ∙ ap is_eq is))
    each rest Greater is =
        let one = occurrences-append h (chunks_in (Some r.1)) (all_chunks (fin.put path_cmp p e rows)) in
        let two = rest (tail_none (same_path p r.0) r.1 (at rows p) none).1 in
        let three = occurrences-append h (chunks_in (Some r.1)) (all_chunks rows) in omega arith

rows_by_path : (h : ℕ) (rows : Rows ℕ) → all_apart rows ≡ true → occurrences h (all_chunks (by_path rows)) ≡ occurrences h (all_chunks rows)
rows_by_path h [] apart = refl
rows_by_path h (r ∷ rows) apart =
    let parts = and_parts (is_none (at rows r.0)) (all_apart rows) apart in
    let one = put_chunks h r.0 r.1 (by_path rows) (at-by_path rows r.0 ∙ no_one (at rows r.0) parts.0) in
    let two = rows_by_path h rows parts.1 in
    let three = occurrences-append h (chunks_in (Some r.1)) (all_chunks rows) in omega arith

tree_chunks : (h : ℕ) (rows : Rows ℕ) (t : fin.FinMap path_cmp (Entry ℕ)) → is_tree rows ≡ true → Same (fin.get t) (at (rooted_rows rows)) → occurrences h (all_chunks (fin.entries t)) ≡ occurrences h (all_chunks rows)
tree_chunks h rows t tree same =
    let apart = (and_parts (all_apart (rooted_rows rows)) _ (and_parts (is_short []) _ tree).1).0 in
    ap (λ l. occurrences h (all_chunks l)) (same_entries path_cmp path_total paths_antisymmetric (fin.entries t) (by_path (rooted_rows rows)) (fin.entries_sorted t) (by_path-sorted (rooted_rows rows)) (λ q. sym (fin.get-entries t q) ∙ same q ∙ sym (at-by_path (rooted_rows rows) q)))
    ∙ rows_by_path h (rooted_rows rows) apart

-- ---- references

abbrev same : ℕ → ℕ → Bool
same a b = eq_by_cmp nat_cmp a b

abbrev named : ℕ → List Reference → Bool
named q references = list_any (λ (r : Reference). r.handle == q) references

eq_same : (a b : ℕ) → same a b ≡ true → (b == a) ≡ true
eq_same a b e = eq-eqb b a (sym (same-is a b e))

same_eq : (a b : ℕ) → (b == a) ≡ true → same a b ≡ true
same_eq a b e = let is : b ≡ a = grind (arith, nat_tests) in ap (same a) is ∙ itself a
  where
    itself : (a : ℕ) → same a a ≡ true
    itself a = (eq_by_cmp_equiv nat_cmp_total).refl a

or_left : (a b : Bool) → a ≡ true → (a || b) ≡ true
or_left a b h = ap (λ c. c || b) h

or_right : (a b : Bool) → b ≡ true → (a || b) ≡ true
or_right true b h = refl
or_right false b h = h

get_more : (r : Reference) (references : List Reference) (q : ℕ) → fin.get (counts_in (r ∷ references)) q ≡ cond (same q r.handle) (Some r.count) (fin.get (counts_in references) q)
get_more r references q = fin.get-insert nat_cmp_total (counts_in references) r.handle r.count q

named_some : (q : ℕ) (references : List Reference) → named q references ≡ true → is_some (fin.get (counts_in references) q) ≡ true
named_some q [] h = absurd (false≢true h)
named_some q (r ∷ references) h = ap is_some (get_more r references q) ∙ each (named_some q references) (same q r.handle) refl
  where
    rest : (a b : Bool) → a ≡ false → (a || b) ≡ true → b ≡ true
    rest true b e k = absurd (false≢true (sym e))
    rest false b e k = k

    each : (named q references ≡ true → is_some (fin.get (counts_in references) q) ≡ true) → (b : Bool) → same q r.handle ≡ b → is_some (cond b (Some r.count) (fin.get (counts_in references) q)) ≡ true
    each more true is = refl
    each more false is = more (rest (r.handle == q) (named q references) (never (r.handle == q) (λ e. false≢true (sym is ∙ same_eq q r.handle e))) h)

some_named : (q : ℕ) (references : List Reference) → is_some (fin.get (counts_in references) q) ≡ true → named q references ≡ true
some_named q [] h = absurd (false≢true (sym (ap is_some (fin.get-empty nat_cmp q)) ∙ h))
some_named q (r ∷ references) h = each (some_named q references) (same q r.handle) refl (sym (ap is_some (get_more r references q)) ∙ h)
  where
    each : (is_some (fin.get (counts_in references) q) ≡ true → named q references ≡ true) → (b : Bool) → same q r.handle ≡ b → is_some (cond b (Some r.count) (fin.get (counts_in references) q)) ≡ true → named q (r ∷ references) ≡ true
    each more true is k = or_left (r.handle == q) (named q references) (eq_same q r.handle is)
    each more false is k = or_right (r.handle == q) (named q references) (more k)

abbrev is_counted : List ℕ → Reference → Bool
is_counted chunks r = occurrences r.handle chunks == r.count

counted_get : (chunks : List ℕ) (references : List Reference) → list_all (is_counted chunks) references ≡ true → (q n : ℕ) → fin.get (counts_in references) q ≡ Some n → n ≡ occurrences q chunks
counted_get chunks [] all q n h = absurd (false≢true (ap is_some (sym (fin.get-empty nat_cmp q) ∙ h)))
counted_get chunks (r ∷ references) all q n h = each (counted_get chunks references (and_parts (is_counted chunks r) (list_all (is_counted chunks) references) all).1 q n) (same q r.handle) refl (sym (get_more r references q) ∙ h)
  where
    own : occurrences r.handle chunks ≡ r.count
    own = let t = (and_parts (is_counted chunks r) (list_all (is_counted chunks) references) all).0 in grind (arith, nat_tests)

    each : (fin.get (counts_in references) q ≡ Some n → n ≡ occurrences q chunks) → (b : Bool) → same q r.handle ≡ b → cond b (Some r.count) (fin.get (counts_in references) q) ≡ Some n → n ≡ occurrences q chunks
    each more true is k = sym (ap (λ o. unwrap_or o 0) k) ∙ sym own ∙ ap (λ x. occurrences x chunks) (sym (same-is q r.handle is))
    each more false is k = more k

none_among : (q : ℕ) (chunks : List ℕ) → among q chunks ≡ false → occurrences q chunks ≡ 0
none_among q [] h = refl
none_among q (c ∷ chunks) h = each (none_among q chunks) (same q c) refl h
  where
    each : (among q chunks ≡ false → occurrences q chunks ≡ 0) → (b : Bool) → same q c ≡ b → (b || among q chunks) ≡ false → cond (same q c) 1 0 + occurrences q chunks ≡ 0
    each more true is k = absurd (false≢true (sym k))
    each more false is k = ap (λ b. cond b 1 0 + occurrences q chunks) is ∙ (let rest = more k in omega arith)

some_among : (q : ℕ) (chunks : List ℕ) → among q chunks ≡ true → 0 < occurrences q chunks
some_among q [] h = absurd (false≢true h)
some_among q (c ∷ chunks) h = each (some_among q chunks) (same q c) refl h
  where
    each : (among q chunks ≡ true → 0 < occurrences q chunks) → (b : Bool) → same q c ≡ b → (b || among q chunks) ≡ true → 0 < cond (same q c) 1 0 + occurrences q chunks
    each more true is k = subst (λ n. 0 < n) (sym (ap (λ b. cond b 1 0 + occurrences q chunks) is)) (omega arith)
    each more false is k = subst (λ n. 0 < n) (sym (ap (λ b. cond b 1 0 + occurrences q chunks) is)) (let rest = more k in omega arith)

-- the references are counts where they are those of a list of chunks
pub count_of : (chunks : List ℕ) (references : List Reference) → are_counts chunks references ≡ true → IsCountOf chunks (counts_in references)
count_of chunks references h q = each (fin.get (counts_in references) q) refl
  where
    parts : (list_all (is_counted chunks) references ≡ true) × (list_all (λ chunk. named chunk references) chunks ≡ true)
    parts = and_parts (list_all (is_counted chunks) references) (list_all (λ chunk. named chunk references) chunks) h

    nowhere : fin.get (counts_in references) q ≡ None → (b : Bool) → among q chunks ≡ b → 0 ≡ occurrences q chunks
    nowhere e true k = absurd (false≢true (sym (ap is_some e) ∙ named_some q references (all_among (λ chunk. named chunk references) chunks q parts.1 k)))
    nowhere e false k = sym (none_among q chunks k)

    each : (v : Option ℕ) → fin.get (counts_in references) q ≡ v → count_or_zero (fin.get (counts_in references) q) ≡ occurrences q chunks
    each (Some n) e = ap count_or_zero e ∙ counted_get chunks references parts.0 q n e
    each None e = ap count_or_zero e ∙ nowhere e (among q chunks) refl

told_in : (chunks : List ℕ) (whole rest : List Reference) → list_all (is_counted chunks) whole ≡ true → list_all (is_counted chunks) rest ≡ true → ((q : ℕ) → named q rest ≡ true → named q whole ≡ true) → all_told (counts_in whole) rest ≡ true
told_in chunks whole [] all here sub = refl
told_in chunks whole (r ∷ rest) all here sub =
    both_true (is_told (fin.get (counts_in whole) r.handle) r.count) (all_told (counts_in whole) rest)
    (own (fin.get (counts_in whole) r.handle) refl (named_some r.handle whole (sub r.handle (or_left (r.handle == r.handle) (named r.handle rest) (eq-eqb r.handle r.handle refl)))))
    (told_in chunks whole rest all parts.1 (λ q k. sub q (or_right (r.handle == q) (named q rest) k)))
  where
    parts : (is_counted chunks r ≡ true) × (list_all (is_counted chunks) rest ≡ true)
    parts = and_parts (is_counted chunks r) (list_all (is_counted chunks) rest) here

    own : (v : Option ℕ) → fin.get (counts_in whole) r.handle ≡ v → is_some v ≡ true → is_told v r.count ≡ true
    own None e k = absurd (false≢true k)
    own (Some n) e k = ap (λ m. m == r.count) (counted_get chunks whole all r.handle n e) ∙ parts.0

pub counts_told : (chunks : List ℕ) (references : List Reference) → are_counts chunks references ≡ true → all_told (counts_in references) references ≡ true
counts_told chunks references h =
    let parts = and_parts (list_all (is_counted chunks) references) (list_all (λ chunk. named chunk references) chunks) h in
    told_in chunks references references parts.0 parts.0 (λ q k. k)

told_counted : (chunks : List ℕ) (m : Counts) (references : List Reference) → IsCountOf chunks m → all_told m references ≡ true → list_all (is_counted chunks) references ≡ true
told_counted chunks m [] counts told = refl
told_counted chunks m (r ∷ references) counts told =
    both_true (is_counted chunks r) (list_all (is_counted chunks) references) (own (fin.get m r.handle) (counts r.handle) parts.0) (told_counted chunks m references counts parts.1)
  where
    parts : (is_told (fin.get m r.handle) r.count ≡ true) × (all_told m references ≡ true)
    parts = and_parts (is_told (fin.get m r.handle) r.count) (all_told m references) told

    own : (v : Option ℕ) → count_or_zero v ≡ occurrences r.handle chunks → is_told v r.count ≡ true → is_counted chunks r ≡ true
    own None e k = absurd (false≢true k)
    own (Some n) e k = ap (λ o. o == r.count) (sym e) ∙ k

pub told_are_counts : (chunks : List ℕ) (references : List Reference) → IsCountOf chunks (counts_in references) → all_told (counts_in references) references ≡ true → are_counts chunks references ≡ true
told_are_counts chunks references counts told =
    both_true (list_all (is_counted chunks) references) (list_all (λ chunk. named chunk references) chunks) (told_counted chunks (counts_in references) references counts told)
    (all_of (λ chunk. named chunk references) chunks (λ q k. some_named q references (listed q (fin.get (counts_in references) q) (counts q) (some_among q chunks k))))
  where
    listed : (q : ℕ) (v : Option ℕ) → count_or_zero v ≡ occurrences q chunks → 0 < occurrences q chunks → is_some v ≡ true
    listed q None e k = absurd (omega arith)
    listed q (Some n) e k = refl

-- ---- the names

abbrev rows_told : Checkpoint → Rows ℕ
rows_told c = rows_of_entries c.tree.items

same_are_names : (c : Checkpoint) → are_names (plain_checkpoint c) ≡ is_tree (rows_told c) && are_counts (all_chunks (rows_told c)) c.references.items
same_are_names c = ap (λ rows. is_tree rows && are_counts (all_chunks rows) c.references.items) (rows_back_again c.tree.items)

and_none : (a b : Bool) → (a ≡ true → b ≡ true → ⊥) → (a && b) ≡ false
and_none true true h = absurd (h refl refl)
and_none true false h = refl
and_none false b h = refl

pub no_tree : (c : Checkpoint) (e : Refusal) → Builds (rows_told c) (Err e) → TellsNames (plain_checkpoint c) (Err e)
no_tree c e (inl memory) = inl memory
no_tree c e (inr b) = inr (b.0, same_are_names c ∙ ap (λ t. t && are_counts (all_chunks (rows_told c)) c.references.items) b.1)

pub not_told : (c : Checkpoint) → all_told (counts_in c.references.items) c.references.items ≡ false → are_names (plain_checkpoint c) ≡ false
not_told c h = same_are_names c ∙ and_none (is_tree (rows_told c)) (are_counts (all_chunks (rows_told c)) c.references.items) (λ tree counts. false≢true (sym h ∙ counts_told (all_chunks (rows_told c)) c.references.items counts))

same_names : (t u : fin.FinMap path_cmp (Entry ℕ)) (m n : Counts) → t ≡ u → m ≡ n → names_of t m ≡ names_of u n
same_names t u m n e f = λ i. names_of (e i) (f i)

told_tree : (rows : Rows ℕ) (t : fin.FinMap path_cmp (Entry ℕ)) → Same (fin.get t) (at (rooted_rows rows)) → t ≡ fin.from_entries (rooted_rows rows)
told_tree rows t same = same_tree t (fin.from_entries (rooted_rows rows)) (λ q. same q ∙ sym (fin.get-from_entries path_total (rooted_rows rows) q))

pub names_told : (c : Checkpoint) (t : fin.FinMap path_cmp (Entry ℕ)) (m : Counts) (r : Result NamesView Refusal) → is_tree (rows_told c) ≡ true → Same (fin.get t) (at (rooted_rows (rows_told c))) → m ≡ counts_in c.references.items
    → all_told (counts_in c.references.items) c.references.items ≡ true → GivesNames (names_of t m) r → TellsNames (plain_checkpoint c) r
names_told c t m (Ok names) tree same is told h = (
  same_are_names c
      ∙ both_true (is_tree (rows_told c)) (are_counts (all_chunks (rows_told c)) c.references.items) tree
      (told_are_counts (all_chunks (rows_told c)) c.references.items (λ q. ap (λ k. count_or_zero (fin.get k q)) (sym is) ∙ h.1 q ∙ tree_chunks q (rows_told c) t tree same) told),
  h.0 ∙ same_names t (fin.from_entries (rooted_rows (rows_told c))) m (counts_in c.references.items) (told_tree (rows_told c) t same) is
      ∙ ap (λ rows. names_of (fin.from_entries (rooted_rows rows)) (counts_in c.references.items)) (sym (rows_back_again c.tree.items)),
)
names_told c t m (Err e) tree same is told (inl b) = inr (
  b.0,
  same_are_names c
      ∙ and_none (is_tree (rows_told c)) (are_counts (all_chunks (rows_told c)) c.references.items)
      (λ _ counts. b.1 (λ q. ap (λ k. count_or_zero (fin.get k q)) is ∙ count_of (all_chunks (rows_told c)) c.references.items counts q ∙ sym (tree_chunks q (rows_told c) t tree same))),
)
names_told c t m (Err e) tree same is told (inr memory) = inl memory
