-- Rows by the texts of their paths: none is lost, and what stands under a path comes behind it.
use Rattle.std.proofs.Common.{◌≡◌, ◌≢◌, ◌∙◌, ◌&&◌, ◌==◌, ◌++◌, ℕ, Bool, true, false, cond, not, List, [], ◌∷◌, T, append_assoc, append-nil, refl, sym, ap, subst, arith}
use Rattle.std.specs.Prelude.{Option, Some, None, is_some, is_none}
use Rattle.std.specs.declared.cmp.Ordering.{Ordering}
use Rattle.std.specs.declared.cmp.Ordering.TheVariants.{Less, Equal, Greater}
use Rattle.std.specs.List.{list_all}
use Rattle.std.specs.FinMap as fin
use Rattle.std.specs.FinMap.Entries.{below_all, is_sorted, is_sorted-put}
use Rattle.std.specs.Cmp.{IsTotalOrder, nat_cmp_total, tied_itself}
use Rattle.std.specs.Cmp.Lexicographic.{slice_cmp, on_texts}
use Rattle.std.specs.Ordering.{nat_cmp, is_lt, ordering_then}
use Rattle.std.proofs.lemmas.Bool.{false≢true, and_parts}
use Rattle.std.proofs.lemmas.Bool.Decides.{nat_tests}
use Rattle.gs_path.specs.Path.{Name, Path, begins, behind_slashes, path_text, text_cmp}
use Rattle.gs_tree.specs.Build.{all_apart}
use Rattle.gs_tree.specs.Edits.{same_path}
use Rattle.gs_tree.specs.Entry.{chunks_of, entry_of, entry_back}
use Rattle.gs_tree.specs.Find.{Rows, at}
use Rattle.gs_tree.specs.Plain.{after}
use Rattle.gs_tree.proofs.Chunks.{same_itself}
use Rattle.gs_tree.proofs.Reaching.{same_path-is}
use Rattle.gs_tree.proofs.Splice.{begins_parts}
use Rattle.gs_edit.specs.Scan.{is_without_slashes}
use Rattle.gs_master_spec.specs.Undoing.{rows_of_nodes}
use Rattle.gs_master_order.specs.Order.{by_text}

abbrev Nodes : Type 0
Nodes = List (Path × Option (List ℕ))

-- ---- a path is told by its text

abbrev plain : Name → Bool
plain name = list_all (λ byte. not (byte == 47)) name

-- nothing, or what begins with a slash
abbrev IsBehind : List ℕ → Type 0
IsBehind [] = Unit {0}
IsBehind (b ∷ bs) = b ≡ 47

no_slash : (b : ℕ) (r : Bool) → (not (b == 47) && r) ≡ true → b ≡ 47 → ⊥
no_slash b r h e = let t = and_parts (not (b == 47)) r h in let k = t.0 in absurd (grind (arith, nat_tests))

heads : (a b : ℕ) (xs ys : List ℕ) → a ∷ xs ≡ b ∷ ys → a ≡ b
heads a b xs ys e = cc

tails : (a b : ℕ) (xs ys : List ℕ) → a ∷ xs ≡ b ∷ ys → xs ≡ ys
tails a b xs ys e = cc

record OneCut (x y : Name) (r s : List ℕ) : Type 0 where
  name : x ≡ y
  rest : r ≡ s

one_cut : (x y : Name) (r s : List ℕ) → plain x ≡ true → plain y ≡ true → IsBehind r → IsBehind s → x ++ r ≡ y ++ s → OneCut x y r s
one_cut [] [] r s f g b c e = record { name = refl; rest = e }
one_cut [] (d ∷ y) [] s f g b c e = absurd (cc)
one_cut [] (d ∷ y) (k ∷ r) s f g b c e = absurd (no_slash d (plain y) g (sym (heads k d r (y ++ s) e) ∙ b))
one_cut (a ∷ x) [] r [] f g b c e = absurd (cc)
one_cut (a ∷ x) [] r (k ∷ s) f g b c e = absurd (no_slash a (plain x) f (heads a k (x ++ r) s e ∙ c))
one_cut (a ∷ x) (d ∷ y) r s f g b c e =
    let one = one_cut x y r s (and_parts (not (a == 47)) (plain x) f).1 (and_parts (not (d == 47)) (plain y) g).1 b c (tails a d (x ++ r) (y ++ s) e) in
    record { name = ap (λ k. k ∷ x) (heads a d (x ++ r) (y ++ s) e) ∙ ap (λ n. d ∷ n) one.name; rest = one.rest }

behind : (p : Path) → IsBehind (behind_slashes p)
behind [] = tt
behind (x ∷ p) = refl

same_behind : (p q : Path) → is_without_slashes p ≡ true → is_without_slashes q ≡ true → behind_slashes p ≡ behind_slashes q → p ≡ q
same_behind [] [] f g e = refl
same_behind [] (y ∷ q) f g e = absurd (cc)
same_behind (x ∷ p) [] f g e = absurd (cc)
same_behind (x ∷ p) (y ∷ q) f g e =
    let ps = and_parts (plain x) (is_without_slashes p) f in
    let qs = and_parts (plain y) (is_without_slashes q) g in
    let one = one_cut x y (behind_slashes p) (behind_slashes q) ps.0 qs.0 (behind p) (behind q) (tails 47 47 (x ++ behind_slashes p) (y ++ behind_slashes q) e) in
    ap (λ n. n ∷ p) one.name ∙ ap (λ r. y ∷ r) (same_behind p q ps.1 qs.1 one.rest)

abbrev pub is_below : Path → Bool
is_below [] = false
is_below (x ∷ p) = true

-- a path below the root, of elements without slashes
abbrev pub is_told : Path → Bool
is_told p = is_below p && is_without_slashes p

one_text : (p q : Path) → is_told p ≡ true → is_told q ≡ true → path_text p ≡ path_text q → p ≡ q
one_text [] q f g e = absurd (false≢true f)
one_text (x ∷ p) [] f g e = absurd (false≢true g)
one_text (x ∷ p) (y ∷ q) f g e = same_behind (x ∷ p) (y ∷ q) f g e

texts_total : IsTotalOrder text_cmp
texts_total = on_texts path_text

pub same_told : (p q : Path) → is_told p ≡ true → is_told q ≡ true → text_cmp p q ≡ Equal → p ≡ q
same_told p q f g e = one_text p q f g (fin.slice_cmp-IsAntisymmetric fin.nat_cmp-IsAntisymmetric (path_text p) (path_text q) e)

-- ---- none is lost

abbrev by_order : {A : Type 0} → Ordering → A → A → A → A
by_order Less a b c = a
by_order Equal a b c = b
by_order Greater a b c = c

twice : {A : Type 0} (b : Bool) (x y z : A) → cond b x (cond b y z) ≡ cond b x z
twice true x y z = refl
twice false x y z = refl

turned : {A : Type 0} (b c : Bool) (x y z : A) → (b ≡ true → c ≡ true → ⊥) → cond c y (cond b x z) ≡ cond b x (cond c y z)
turned true true x y z never = absurd (never refl refl)
turned true false x y z never = refl
turned false true x y z never = refl
turned false false x y z never = refl

at_put : (es : Nodes) (p q : Path) (v : Option (List ℕ)) → is_told p ≡ true → list_all (λ n. is_told n.0) es ≡ true → at (rows_of_nodes (fin.put text_cmp p v es)) q ≡ cond (same_path q p) (Some (entry_of v)) (at (rows_of_nodes es) q)
at_put [] p q v f g = refl
at_put (e ∷ es) p q v f g = by_text_order (at_put es p q v f (and_parts (is_told e.0) (list_all (λ n. is_told n.0) es) g).1) (text_cmp p e.0) refl
  where
    by_text_order : at (rows_of_nodes (fin.put text_cmp p v es)) q ≡ cond (same_path q p) (Some (entry_of v)) (at (rows_of_nodes es) q) → (o : Ordering) → text_cmp p e.0 ≡ o
        → at (rows_of_nodes (by_order o ((p, v) ∷ e ∷ es) ((e.0, v) ∷ es) (e ∷ fin.put text_cmp p v es))) q ≡ cond (same_path q p) (Some (entry_of v)) (cond (same_path q e.0) (Some (entry_of e.1)) (at (rows_of_nodes es) q))
    by_text_order rest Less is = refl
    by_text_order rest Equal is =
        let same = same_told p e.0 f (and_parts (is_told e.0) (list_all (λ n. is_told n.0) es) g).0 is in
        ap (λ k. cond (same_path q k) (Some (entry_of v)) (at (rows_of_nodes es) q)) (sym same)
        ∙ sym (ap (λ k. cond (same_path q p) (Some (entry_of v)) (cond (same_path q k) (Some (entry_of e.1)) (at (rows_of_nodes es) q))) (sym same) ∙ twice (same_path q p) (Some (entry_of v)) (Some (entry_of e.1)) (at (rows_of_nodes es) q))
    by_text_order rest Greater is =
        ap (λ w. cond (same_path q e.0) (Some (entry_of e.1)) w) rest
        ∙ turned (same_path q p) (same_path q e.0) (Some (entry_of v)) (Some (entry_of e.1)) (at (rows_of_nodes es) q) (λ a b. differ (sym (same_path-is q p a) ∙ same_path-is q e.0 b))
      where
        differ : p ≡ e.0 → ⊥
        differ same = let k : Equal ≡ Greater = sym (tied_itself texts_total p) ∙ ap (text_cmp p) same ∙ is in cc

kept_put : (f : Path → Bool) (es : Nodes) (p : Path) (v : Option (List ℕ)) → f p ≡ true → list_all (λ n. f n.0) es ≡ true → list_all (λ n. f n.0) (fin.put text_cmp p v es) ≡ true
kept_put f [] p v h g = ap (λ b. b && true) h
kept_put f (e ∷ es) p v h g = each (and_parts (f e.0) (list_all (λ n. f n.0) es) g) (kept_put f es p v h (and_parts (f e.0) (list_all (λ n. f n.0) es) g).1) (text_cmp p e.0)
  where
    each : (f e.0 ≡ true) × (list_all (λ n. f n.0) es ≡ true) → list_all (λ n. f n.0) (fin.put text_cmp p v es) ≡ true → (o : Ordering) → list_all (λ n. f n.0) (by_order o ((p, v) ∷ e ∷ es) ((e.0, v) ∷ es) (e ∷ fin.put text_cmp p v es)) ≡ true
    each parts rest Less = ap (λ b. b && list_all (λ n. f n.0) (e ∷ es)) h ∙ g
    each parts rest Equal = g
    each parts rest Greater = ap (λ b. b && list_all (λ n. f n.0) (fin.put text_cmp p v es)) parts.0 ∙ rest

pub kept_told : (f : Path → Bool) (rows : Rows ℕ) → list_all (λ r. f r.0) rows ≡ true → list_all (λ n. f n.0) (by_text rows) ≡ true
kept_told f [] h = refl
kept_told f (r ∷ rows) h =
    let parts = and_parts (f r.0) (list_all (λ s. f s.0) rows) h in kept_put f (by_text rows) r.0 (chunks_of r.1) parts.0 (kept_told f rows parts.1)

pub at_told : (rows : Rows ℕ) (q : Path) → list_all (λ r. is_told r.0) rows ≡ true → at (rows_of_nodes (by_text rows)) q ≡ at rows q
at_told [] q h = refl
at_told (r ∷ rows) q h =
    let parts = and_parts (is_told r.0) (list_all (λ s. is_told s.0) rows) h in
    at_put (by_text rows) r.0 q (chunks_of r.1) parts.0 (kept_told is_told rows parts.1)
    ∙ (λ i. cond (same_path q r.0) (Some (entry_back r.1 i)) (at_told rows q parts.1 i))

pub sorted_told : (rows : Rows ℕ) → T (is_sorted text_cmp (by_text rows))
sorted_told [] = tt
sorted_told (r ∷ rows) = is_sorted-put text_cmp texts_total r.0 (chunks_of r.1) (by_text rows) (sorted_told rows)

-- ---- none stands twice

fst : (a b : Bool) → T (a && b) → T a
fst true b h = tt
fst false b h = h

snd : (a b : Bool) → T (a && b) → T b
snd true b h = h
snd false b h = absurd h

pub not_tied : (p q : Path) → T (is_lt (text_cmp p q)) → same_path p q ≡ false
not_tied p q h = by_test (same_path p q) refl
  where
    by_test : (b : Bool) → same_path p q ≡ b → b ≡ false
    by_test false is = refl
    by_test true is = absurd (subst (λ o. T (is_lt o)) (ap (text_cmp p) (sym (same_path-is p q is)) ∙ tied_itself texts_total p) h)

none_below : (p : Path) (es : Nodes) → T (below_all text_cmp p es) → at (rows_of_nodes es) p ≡ None
none_below p [] h = refl
none_below p (e ∷ es) h =
    ap (λ b. cond b (Some (entry_of e.1)) (at (rows_of_nodes es) p)) (not_tied p e.0 (fst (is_lt (text_cmp p e.0)) (below_all text_cmp p es) h)) ∙ none_below p es (snd (is_lt (text_cmp p e.0)) (below_all text_cmp p es) h)

pub apart_told : (es : Nodes) → T (is_sorted text_cmp es) → all_apart (rows_of_nodes es) ≡ true
apart_told [] h = refl
apart_told (e ∷ es) h =
    ap (λ v. is_none v && all_apart (rows_of_nodes es)) (none_below e.0 es (fst (below_all text_cmp e.0 es) (is_sorted text_cmp es) h))
    ∙ apart_told es (snd (below_all text_cmp e.0 es) (is_sorted text_cmp es) h)

-- ---- what stands under a path comes behind it

longer_text : (a c : List ℕ) (b : ℕ) → slice_cmp nat_cmp (a ++ b ∷ c) a ≡ Greater
longer_text [] c b = refl
longer_text (x ∷ a) c b = ap (λ o. ordering_then o (slice_cmp nat_cmp (a ++ b ∷ c) a)) (tied_itself nat_cmp_total x) ∙ longer_text a c b

behind-append : (p q : Path) → behind_slashes (p ++ q) ≡ behind_slashes p ++ behind_slashes q
behind-append [] q = refl
behind-append (x ∷ p) q = ap (λ l. 47 ∷ l) (ap (λ l. x ++ l) (behind-append p q) ∙ sym (append_assoc x (behind_slashes p) (behind_slashes q)))

text_behind : (p : Path) (x : Name) (r : Path) → p ≢ [] → text_cmp (p ++ x ∷ r) p ≡ Greater
text_behind [] x r ne = absurd (ne refl)
text_behind (y ∷ p) x r ne = ap (λ l. slice_cmp nat_cmp l (path_text (y ∷ p))) (behind-append (y ∷ p) (x ∷ r)) ∙ longer_text (path_text (y ∷ p)) (x ++ behind_slashes r) 47

found_below : (h p : Path) (es : Nodes) → T (below_all text_cmp h es) → is_some (at (rows_of_nodes es) p) ≡ true → T (is_lt (text_cmp h p))
found_below h p [] below some = absurd (false≢true some)
found_below h p (e ∷ es) below some = each (λ k. found_below h p es (snd (is_lt (text_cmp h e.0)) (below_all text_cmp h es) below) k) (same_path p e.0) refl some
  where
    each : (is_some (at (rows_of_nodes es) p) ≡ true → T (is_lt (text_cmp h p))) → (b : Bool) → same_path p e.0 ≡ b → is_some (cond b (Some (entry_of e.1)) (at (rows_of_nodes es) p)) ≡ true → T (is_lt (text_cmp h p))
    each later true is k = subst (λ q. T (is_lt (text_cmp h q))) (sym (same_path-is p e.0 is)) (fst (is_lt (text_cmp h e.0)) (below_all text_cmp h es) below)
    each later false is k = later k

-- the first of what stands at a path and under it is what stands there
pub record Headed (p : Path) (es : Nodes) : Type 0 where
  pub first : Option (List ℕ)
  pub rest : Nodes
  pub is : es ≡ (p, first) ∷ rest

pub headed : (p : Path) (es : Nodes) → p ≢ [] → T (is_sorted text_cmp es) → list_all (λ n. begins p n.0) es ≡ true → is_some (at (rows_of_nodes es) p) ≡ true → Headed p es
headed p [] ne sorted under some = absurd (false≢true some)
headed p (e ∷ es) ne sorted under some = each (same_path p e.0) refl some
  where
    behind_it : (r : Path) → e.0 ≡ p ++ r → same_path p e.0 ≡ false → T (is_lt (text_cmp e.0 p)) → ⊥
    behind_it [] is other low = false≢true (sym other ∙ ap (same_path p) (is ∙ append-nil p) ∙ same_itself p)
    behind_it (x ∷ r) is other low = subst (λ o. T (is_lt o)) (ap (λ q. text_cmp q p) is ∙ text_behind p x r ne) low

    each : (b : Bool) → same_path p e.0 ≡ b → is_some (cond b (Some (entry_of e.1)) (at (rows_of_nodes es) p)) ≡ true → Headed p (e ∷ es)
    each true is k = record { first = e.1; rest = es; is = ap (λ q. (q, e.1) ∷ es) (sym (same_path-is p e.0 is)) }
    each false is k =
        absurd (behind_it (after p e.0) (begins_parts p e.0 (and_parts (begins p e.0) (list_all (λ n. begins p n.0) es) under).0) is (found_below e.0 p es (fst (below_all text_cmp e.0 es) (is_sorted text_cmp es) sorted) k))
