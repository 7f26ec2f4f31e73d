-- What holds of the children one by one.
use Rattle.std.proofs.Common.{◌≡◌, ◌+◌, ◌<◌, ◌≤◌, ℕ, Bool, true, false, not, cond, ◌&&◌, ◌||◌, List, [], ◌∷◌, ◌++◌, length, refl, sym, ap, ◌∙◌, subst, arith}
use Rattle.std.specs.Prelude.{Option, Some, None, is_some, MatchBool}
use Rattle.std.specs.Option.{option_or}
use Rattle.std.specs.List.{list_any, list_all}
use Rattle.std.specs.List.Sorted.{IsStrictlySortedBy}
use Rattle.std.specs.Map.{lookup, keys_of, values_of}
use Rattle.std.specs.BTreeMap.{is_at}
use Rattle.gs_path.specs.Path.{Name, Path, same_name, name_cmp}
use Rattle.gs_path.specs.Element.{is_hidden}
use Rattle.gs_tree.specs.Entry.{Entry, Dir, File}
use Rattle.gs_tree.specs.Find.{Rows, at, IsBelow}
use Rattle.gs_tree.specs.Rows.{under, joined, rows_of}
use Rattle.gs_tree.specs.Inverses.{row_of, IsBlank, IsBlankRow}
use Rattle.gs_tree.specs.Listing.{HasVisible, HasVisibleBut, is_visible_but}
use Rattle.gs_tree.specs.declared.node.Kind.{Kind}
use Rattle.gs_tree.specs.declared.node.Kind.TheVariants as kinds
use Rattle.gs_tree.proofs.Rows.{names_equiv, at-append, at-under, at-joined, at-joined_root, at_child}
use Rattle.gs_tree.proofs.Splice.{one_name}
use Rattle.gs_tree.proofs.Sowing.{row_of-cons, row_empty}

some_left : (a b : Option (Entry ℕ)) → is_some a ≡ true → is_some (option_or a b) ≡ true
some_left None b h = absurd (cc)
some_left (Some x) b h = refl

some_right : (a b : Option (Entry ℕ)) → is_some b ≡ true → is_some (option_or a b) ≡ true
some_right None b h = h
some_right (Some x) b h = refl

-- what stands in a child
at_first : (e : Name × Rows ℕ) (es : List (Name × Rows ℕ)) (p : Path) → is_some (at e.1 p) ≡ true → is_some (at (joined (e ∷ es)) (e.0 ∷ p)) ≡ true
at_first e es p h =
    ap is_some (at-append (e.0 ∷ p) (under e.0 e.1) (joined es))
    ∙ some_left (at (under e.0 e.1) (e.0 ∷ p)) (at (joined es) (e.0 ∷ p)) (ap is_some (at-under e.0 e.0 p e.1) ∙ ap (λ b. is_some (cond b (at e.1 p) None)) (names_equiv.refl e.0) ∙ h)

at_others : (e : Name × Rows ℕ) (es : List (Name × Rows ℕ)) (q : Path) → is_some (at (joined es) q) ≡ true → is_some (at (joined (e ∷ es)) q) ≡ true
at_others e es q h = ap is_some (at-append q (under e.0 e.1) (joined es)) ∙ some_right (at (under e.0 e.1) q) (at (joined es) q) h

abbrev pub EachBelow : ℕ → List (Rows ℕ) → Type 0
EachBelow k [] = Unit {0}
EachBelow k (r ∷ rs) = IsBelow k (at r) × EachBelow k rs

pub each_below : (es : List (Name × Rows ℕ)) (k : ℕ) → IsBelow (k + 1) (at (joined es)) → EachBelow k (values_of es)
each_below [] k h = tt
each_below (e ∷ es) k h =
    (λ p some. let l : length (e.0 ∷ p) < k + 1 = h (e.0 ∷ p) (at_first e es p some) in omega arith, each_below es k (λ q some. h q (at_others e es q some)))

pub below_joined : (es : List (Name × Rows ℕ)) (k : ℕ) → EachBelow k (values_of es) → IsBelow (k + 1) (at (joined es))
below_joined [] k h q some = absurd (cc)
below_joined (e ∷ es) k h [] some = omega arith
below_joined (e ∷ es) k h (n ∷ p) some =
    elim (same_name n e.0) as (λ b. is_some (option_or (cond b (at e.1 p) None) (at (joined es) (n ∷ p))) ≡ true → length (n ∷ p) < k + 1) [
      | true ↦ λ s. elim (at e.1 p) as (λ v. at e.1 p ≡ v → is_some (option_or v (at (joined es) (n ∷ p))) ≡ true → length (n ∷ p) < k + 1) [
        | None ↦ λ _ o. below_joined es k h.1 (n ∷ p) o
        | Some x ↦ λ v o. let l : length p < k = h.0 p (ap is_some v) in omega arith
      ] refl s
      | false ↦ λ s. below_joined es k h.1 (n ∷ p) s
    ] (ap is_some (sym (at-append (n ∷ p) (under e.0 e.1) (joined es) ∙ ap (λ v. option_or v (at (joined es) (n ∷ p))) (at-under n e.0 p e.1))) ∙ some)

pub EachBelow-append : (k : ℕ) (front : List (Rows ℕ)) (r : Rows ℕ) → EachBelow k front → IsBelow k (at r) → EachBelow k (front ++ r ∷ [])
EachBelow-append k [] r h b = (b, tt)
EachBelow-append k (x ∷ front) r h b = (h.0, EachBelow-append k front r h.1 b)

pub EachBelow-at : (k : ℕ) (front : List (Rows ℕ)) (r : Rows ℕ) (rest : List (Rows ℕ)) → EachBelow k (front ++ r ∷ rest) → IsBelow k (at r)
EachBelow-at k [] r rest h = h.0
EachBelow-at k (x ∷ front) r rest h = EachBelow-at k front r rest h.1

-- a directory and what it joins
pub dir_below : (es : List (Name × Rows ℕ)) (n : ℕ) → 0 < n → IsBelow n (at (joined es)) → IsBelow n (at (([], Dir) ∷ joined es))
dir_below es n some h [] s = omega arith
dir_below es n some h (x ∷ p) s = h (x ∷ p) s

pub joined_below : (es : List (Name × Rows ℕ)) (n : ℕ) → IsBelow n (at (([], Dir) ∷ joined es)) → IsBelow n (at (joined es))
joined_below es n h [] s = absurd (let k : is_some (at (joined es) []) ≡ false = ap is_some (at-joined_root es) in cc)
joined_below es n h (x ∷ p) s = h (x ∷ p) s

pub file_below : (e : Entry ℕ) (n : ℕ) → 0 < n → IsBelow n (at (([], e) ∷ []))
file_below e n some [] s = omega arith
file_below e n some (x ∷ p) s = absurd (cc)

-- rows with a blank end
pub row_some : (p : Path) (e : Entry ℕ) → is_some (row_of p e []) ≡ true
row_some [] e = refl
row_some (x ∷ p) e = refl

pub file_row : (hs : List ℕ) (b : Bool) → (b ≡ true → hs ≡ []) → (b ≡ false → hs ≡ [] → ⊥) → MatchBool b (IsBlankRow (at (([], File hs) ∷ [])) []) (IsBlankRow (at (([], File hs) ∷ [])) [] → ⊥)
file_row hs true h g = let e : hs ≡ [] = h refl in (File hs, (subst (λ l. IsBlank (File l)) (sym e) tt, λ q. row_empty q (File hs)))
file_row hs false h g = λ (e, (blank, same)). filled hs (g refl) (let k : Some (File hs) ≡ Some e = same [] in let l : File hs ≡ e = cc in subst IsBlank (sym l) blank)
  where
    filled : (l : List ℕ) → (l ≡ [] → ⊥) → IsBlank (File l) → ⊥
    filled [] ne bl = ne refl
    filled (x ∷ l) ne bl = bl

pub no_file_row : (hs : List ℕ) (x : Name) (p : Path) → IsBlankRow (at (([], File hs) ∷ [])) (x ∷ p) → ⊥
no_file_row hs x p (e, (blank, same)) = let d : Entry ℕ = Dir in let k : Some (File hs) ≡ Some d = same [] in cc

-- a directory with nothing in it
pub dir_row : (es : List (Name × Rows ℕ)) (b : Bool) → ((n : Name) (child : Rows ℕ) → lookup (is_at (name_cmp n)) es ≡ Some child → is_some (at child []) ≡ true) → (b ≡ true → es ≡ []) → (b ≡ false → es ≡ [] → ⊥)
    → MatchBool b (IsBlankRow (at (([], Dir) ∷ joined es)) []) (IsBlankRow (at (([], Dir) ∷ joined es)) [] → ⊥)
dir_row es true rooted h g = subst (λ l. IsBlankRow (at (([], Dir) ∷ joined l)) []) (sym (h refl)) (Dir, (tt, λ q. row_empty q Dir))
dir_row es false rooted h g = λ (e, (blank, same)). taken es rooted (g refl) (λ n. same (n ∷ []))
  where
    taken : (l : List (Name × Rows ℕ)) → ((n : Name) (child : Rows ℕ) → lookup (is_at (name_cmp n)) l ≡ Some child → is_some (at child []) ≡ true) → (l ≡ [] → ⊥) → ((n : Name) → at (joined l) (n ∷ []) ≡ None) → ⊥
    taken [] r ne none = ne refl
    taken (c ∷ l) r ne none =
        let found : lookup (is_at (name_cmp c.0)) (c ∷ l) ≡ Some c.1 = ap (λ b. cond b (Some c.1) (lookup (is_at (name_cmp c.0)) l)) (names_equiv.refl c.0) in
        let some : is_some (at (joined (c ∷ l)) (c.0 ∷ [])) ≡ true = at_first c l [] (r c.0 c.1 found) in
        let nothing : is_some (at (joined (c ∷ l)) (c.0 ∷ [])) ≡ false = ap is_some (none c.0) in cc

-- where all children have one name, there is none of another
pub lookup_other : (es : List (Name × Rows ℕ)) (x y : Name) → list_all (λ k. same_name k x) (keys_of es) ≡ true → same_name x y ≡ false → lookup (is_at (name_cmp y)) es ≡ None
lookup_other [] x y all apart = refl
lookup_other (e ∷ es) x y all apart =
    elim (same_name e.0 x) as (λ b. same_name e.0 x ≡ b → (b && list_all (λ k. same_name k x) (keys_of es)) ≡ true → cond (same_name y e.0) (Some e.1) (lookup (is_at (name_cmp y)) es) ≡ None) [
      | true ↦ λ b rest. let other : same_name y e.0 ≡ false = ap (same_name y) (one_name e.0 x b) ∙ names_equiv.symm y x ∙ apart in
          ap (λ d. cond d (Some e.1) (lookup (is_at (name_cmp y)) es)) other ∙ lookup_other es x y rest apart
      | false ↦ λ b rest. absurd (cc)
    ] refl all

-- a directory whose one child is a row
pub row_here : (es : List (Name × Rows ℕ)) (x : Name) (p : Path) (child : Rows ℕ) → IsStrictlySortedBy name_cmp (keys_of es) → Some child ≡ lookup (is_at (name_cmp x)) es → list_all (λ k. same_name k x) (keys_of es) ≡ true
    → IsBlankRow (at child) p → IsBlankRow (at (([], Dir) ∷ joined es)) (x ∷ p)
row_here es x p child sorted found all (e, (blank, same)) = (e, (blank, each))
  where
    below : (y : Name) (q : Path) → at_child (lookup (is_at (name_cmp y)) es) q ≡ cond (same_name x y) (row_of p e q) None
    below y q = elim (same_name x y) as (λ b. same_name x y ≡ b → at_child (lookup (is_at (name_cmp y)) es) q ≡ cond b (row_of p e q) None) [
      | true ↦ λ b. ap (λ n. at_child (lookup (is_at (name_cmp n)) es) q) (sym (one_name x y b)) ∙ ap (λ v. at_child v q) (sym found) ∙ same q
      | false ↦ λ b. ap (λ v. at_child v q) (lookup_other es x y all b)
    ] refl

    each : (q : Path) → at (([], Dir) ∷ joined es) q ≡ row_of (x ∷ p) e q
    each [] = refl
    each (y ∷ q) = at-joined y q es sorted ∙ below y q ∙ sym (row_of-cons x y p q e)

pub row_in_child : (es : List (Name × Rows ℕ)) (x : Name) (p : Path) (child : Rows ℕ) → IsStrictlySortedBy name_cmp (keys_of es) → Some child ≡ lookup (is_at (name_cmp x)) es → IsBlankRow (at (([], Dir) ∷ joined es)) (x ∷ p) → IsBlankRow (at child) p
row_in_child es x p child sorted found (e, (blank, same)) =
    (e, (blank, λ q. ap (λ v. at_child v q) found ∙ sym (at-joined x q es sorted) ∙ same (x ∷ q) ∙ row_of-cons x x p q e ∙ ap (λ b. cond b (row_of p e q) None) (names_equiv.refl x)))

-- no child of the row's first name
pub no_row_child : (es : List (Name × Rows ℕ)) (x : Name) (p : Path) → IsStrictlySortedBy name_cmp (keys_of es) → None ≡ lookup (is_at (name_cmp x)) es → IsBlankRow (at (([], Dir) ∷ joined es)) (x ∷ p) → ⊥
no_row_child es x p sorted none (e, (blank, same)) =
    let here : None ≡ row_of p e [] = ap (λ v. at_child v []) none ∙ sym (at-joined x [] es sorted) ∙ same (x ∷ []) ∙ row_of-cons x x p [] e ∙ ap (λ b. cond b (row_of p e []) None) (names_equiv.refl x) in
    let k : is_some (row_of p e []) ≡ false = ap is_some (sym here) in
    let l = row_some p e in cc

-- some child of another name
other_key : (es : List (Name × Rows ℕ)) (x : Name) → list_all (λ k. same_name k x) (keys_of es) ≡ false → (k : Name) × ((same_name k x ≡ false) × (is_some (lookup (is_at (name_cmp k)) es) ≡ true))
other_key [] x all = absurd (cc)
other_key (e ∷ es) x all =
    elim (same_name e.0 x) as (λ b. same_name e.0 x ≡ b → (b && list_all (λ k. same_name k x) (keys_of es)) ≡ false → (k : Name) × ((same_name k x ≡ false) × (is_some (cond (same_name k e.0) (Some e.1) (lookup (is_at (name_cmp k)) es)) ≡ true))) [
      | true ↦ λ b rest. let (k, (apart, some)) = other_key es x rest in (k, (apart, kept (same_name k e.0) (Some e.1) (lookup (is_at (name_cmp k)) es) refl some))
      | false ↦ λ b rest. (e.0, (b, ap (λ d. is_some (cond d (Some e.1) (lookup (is_at (name_cmp e.0)) es))) (names_equiv.refl e.0)))
    ] refl all
  where
    kept : (b : Bool) (v w : Option (Rows ℕ)) → is_some v ≡ true → is_some w ≡ true → is_some (cond b v w) ≡ true
    kept true v w h g = h
    kept false v w h g = g

pub child_stands : (es : List (Name × Rows ℕ)) (k : Name) → IsStrictlySortedBy name_cmp (keys_of es) → ((n : Name) (child : Rows ℕ) → lookup (is_at (name_cmp n)) es ≡ Some child → is_some (at child []) ≡ true) → is_some (lookup (is_at (name_cmp k)) es) ≡ true → is_some (at (joined es) (k ∷ [])) ≡ true
child_stands es k sorted rooted some = ap is_some (at-joined k [] es sorted) ∙ elim (lookup (is_at (name_cmp k)) es) as (λ v. lookup (is_at (name_cmp k)) es ≡ v → is_some v ≡ true → is_some (at_child v []) ≡ true) [
  | None ↦ λ _ s. absurd (cc)
  | Some child ↦ λ is s. rooted k child is
] refl some

pub row_of_more : (es : List (Name × Rows ℕ)) (x : Name) (p : Path) → IsStrictlySortedBy name_cmp (keys_of es) → ((n : Name) (child : Rows ℕ) → lookup (is_at (name_cmp n)) es ≡ Some child → is_some (at child []) ≡ true) → list_all (λ k. same_name k x) (keys_of es) ≡ false → IsBlankRow (at (([], Dir) ∷ joined es)) (x ∷ p) → ⊥
row_of_more es x p sorted rooted all (e, (blank, same)) =
    let (k, (apart, some)) = other_key es x all in
    let here : at (joined es) (k ∷ []) ≡ None = same (k ∷ []) ∙ row_of-cons x k p [] e ∙ ap (λ b. cond b (row_of p e []) None) (names_equiv.symm x k ∙ apart) in
    let stands = child_stands es k sorted rooted some in
    let k2 : is_some (at (joined es) (k ∷ [])) ≡ false = ap is_some here in cc

-- the visible children
pub visible_key : (es : List (Name × Rows ℕ)) → list_any (λ k. not (is_hidden k)) (keys_of es) ≡ true → (k : Name) × ((is_hidden k ≡ false) × (is_some (lookup (is_at (name_cmp k)) es) ≡ true))
visible_key [] any = absurd (cc)
visible_key (e ∷ es) any =
    elim (is_hidden e.0) as (λ b. is_hidden e.0 ≡ b → (not b || list_any (λ k. not (is_hidden k)) (keys_of es)) ≡ true → (k : Name) × ((is_hidden k ≡ false) × (is_some (cond (same_name k e.0) (Some e.1) (lookup (is_at (name_cmp k)) es)) ≡ true))) [
      | true ↦ λ b rest. let (k, (seen, some)) = visible_key es rest in (k, (seen, kept (same_name k e.0) (Some e.1) (lookup (is_at (name_cmp k)) es) refl some))
      | false ↦ λ b rest. (e.0, (b, ap (λ d. is_some (cond d (Some e.1) (lookup (is_at (name_cmp e.0)) es))) (names_equiv.refl e.0)))
    ] refl any
  where
    kept : (b : Bool) (v w : Option (Rows ℕ)) → is_some v ≡ true → is_some w ≡ true → is_some (cond b v w) ≡ true
    kept true v w h g = h
    kept false v w h g = g

pub no_visible_key : (es : List (Name × Rows ℕ)) (k : Name) → list_any (λ k. not (is_hidden k)) (keys_of es) ≡ false → is_hidden k ≡ false → lookup (is_at (name_cmp k)) es ≡ None
no_visible_key [] k any seen = refl
no_visible_key (e ∷ es) k any seen =
    elim (same_name k e.0) as (λ b. same_name k e.0 ≡ b → cond b (Some e.1) (lookup (is_at (name_cmp k)) es) ≡ None) [
      | true ↦ λ b. let hid : is_hidden e.0 ≡ false = ap is_hidden (sym (one_name k e.0 b)) ∙ seen in
          let out : (not (is_hidden e.0) || list_any (λ k. not (is_hidden k)) (keys_of es)) ≡ true = ap (λ d. not d || list_any (λ k. not (is_hidden k)) (keys_of es)) hid in absurd (cc)
      | false ↦ λ b. no_visible_key es k (rest (is_hidden e.0) (list_any (λ k. not (is_hidden k)) (keys_of es)) any) seen
    ] refl
  where
    rest : (a c : Bool) → (not a || c) ≡ false → c ≡ false
    rest true c h = h
    rest false c h = absurd (cc)

pub visible : (es : List (Name × Rows ℕ)) (b : Bool) → IsStrictlySortedBy name_cmp (keys_of es) → ((n : Name) (child : Rows ℕ) → lookup (is_at (name_cmp n)) es ≡ Some child → is_some (at child []) ≡ true) → b ≡ list_any (λ k. not (is_hidden k)) (keys_of es)
    → MatchBool b (HasVisible (at (([], Dir) ∷ joined es))) (HasVisible (at (([], Dir) ∷ joined es)) → ⊥)
visible es true sorted rooted e = let (k, (seen, some)) = visible_key es (sym e) in (k, (seen, child_stands es k sorted rooted some))
visible es false sorted rooted e = λ (k, (seen, some)).
    let none : at (joined es) (k ∷ []) ≡ None = at-joined k [] es sorted ∙ ap (λ v. at_child v []) (no_visible_key es k (sym e) seen) in
    let n : is_some (at (joined es) (k ∷ [])) ≡ false = ap is_some none in cc

-- a key of which something is so, and that there is none
any_key : (f : Name → Bool) (es : List (Name × Rows ℕ)) → list_any f (keys_of es) ≡ true → (k : Name) × ((f k ≡ true) × (is_some (lookup (is_at (name_cmp k)) es) ≡ true))
any_key f [] any = absurd (cc)
any_key f (e ∷ es) any =
    elim (f e.0) as (λ b. f e.0 ≡ b → (b || list_any f (keys_of es)) ≡ true → (k : Name) × ((f k ≡ true) × (is_some (cond (same_name k e.0) (Some e.1) (lookup (is_at (name_cmp k)) es)) ≡ true))) [
      | true ↦ λ b rest. (e.0, (b, ap (λ d. is_some (cond d (Some e.1) (lookup (is_at (name_cmp e.0)) es))) (names_equiv.refl e.0)))
      | false ↦ λ b rest. let (k, (so, some)) = any_key f es rest in (k, (so, kept (same_name k e.0) (Some e.1) (lookup (is_at (name_cmp k)) es) refl some))
    ] refl any
  where
    kept : (b : Bool) (v w : Option (Rows ℕ)) → is_some v ≡ true → is_some w ≡ true → is_some (cond b v w) ≡ true
    kept true v w h g = h
    kept false v w h g = g

no_key : (f : Name → Bool) (es : List (Name × Rows ℕ)) (k : Name) → list_any f (keys_of es) ≡ false → f k ≡ true → lookup (is_at (name_cmp k)) es ≡ None
no_key f [] k any so = refl
no_key f (e ∷ es) k any so =
    elim (same_name k e.0) as (λ b. same_name k e.0 ≡ b → cond b (Some e.1) (lookup (is_at (name_cmp k)) es) ≡ None) [
      | true ↦ λ b. let here : f e.0 ≡ true = ap f (sym (one_name k e.0 b)) ∙ so in
          let out : (f e.0 || list_any f (keys_of es)) ≡ true = ap (λ d. d || list_any f (keys_of es)) here in absurd (cc)
      | false ↦ λ b. no_key f es k (rest (f e.0) (list_any f (keys_of es)) any) so
    ] refl
  where
    rest : (a c : Bool) → (a || c) ≡ false → c ≡ false
    rest true c h = absurd (cc)
    rest false c h = h

pub visible_but : (es : List (Name × Rows ℕ)) (this : Name) (b : Bool) → IsStrictlySortedBy name_cmp (keys_of es) → ((n : Name) (child : Rows ℕ) → lookup (is_at (name_cmp n)) es ≡ Some child → is_some (at child []) ≡ true) → b ≡ list_any (is_visible_but this) (keys_of es)
    → MatchBool b (HasVisibleBut this (at (([], Dir) ∷ joined es))) (HasVisibleBut this (at (([], Dir) ∷ joined es)) → ⊥)
visible_but es this true sorted rooted e = let (k, (seen, some)) = any_key (is_visible_but this) es (sym e) in (k, (seen, child_stands es k sorted rooted some))
visible_but es this false sorted rooted e = λ (k, (seen, some)).
    let none : at (joined es) (k ∷ []) ≡ None = at-joined k [] es sorted ∙ ap (λ v. at_child v []) (no_key (is_visible_but this) es k (sym e) seen) in
    let n : is_some (at (joined es) (k ∷ [])) ≡ false = ap is_some none in cc

root_some : (k : Kind) → is_some (at (rows_of k) []) ≡ true
root_some (kinds.File hs) = refl
root_some (kinds.Dir c) = refl

pub not_below_none : (m : Rows ℕ) (k : Kind) (n : ℕ) → rows_of k ≡ m → n ≡ 0 → IsBelow n (at m) → ⊥
not_below_none m k n view none h = let l = h [] (ap (λ r. is_some (at r [])) (sym view) ∙ root_some k) in omega arith

-- the same of rows and a path that are equal to these
pub blank_seen : {m n : Rows ℕ} {p q : Path} (b : Bool) → m ≡ n → p ≡ q → MatchBool b (IsBlankRow (at m) p) (IsBlankRow (at m) p → ⊥) → MatchBool b (IsBlankRow (at n) q) (IsBlankRow (at n) q → ⊥)
blank_seen {m = m} {q = q} b rows path h = subst (λ r. MatchBool b (IsBlankRow (at r) q) (IsBlankRow (at r) q → ⊥)) rows (subst (λ s. MatchBool b (IsBlankRow (at m) s) (IsBlankRow (at m) s → ⊥)) path h)

pub blank_back : {m n : Rows ℕ} {p q : Path} → m ≡ n → p ≡ q → IsBlankRow (at n) q → IsBlankRow (at m) p
blank_back {n = n} {p = p} rows path h = subst (λ r. IsBlankRow (at r) p) (sym rows) (subst (λ s. IsBlankRow (at n) s) (sym path) h)

pub match_map : (b : Bool) (P Q : Type 0) → (P → Q) → (Q → P) → MatchBool b P (P → ⊥) → MatchBool b Q (Q → ⊥)
match_map true P Q f g h = f h
match_map false P Q f g h = λ q. h (g q)

pub nil_from : {A : Type 0} (l : List A) → length l ≡ 0 → l ≡ []
nil_from [] e = refl
nil_from (x ∷ l) e = absurd (omega arith)

pub no_file_path : (hs : List ℕ) (p : Path) → 1 ≤ length p → IsBlankRow (at (([], File hs) ∷ [])) p → ⊥
no_file_path hs [] some h = absurd (omega arith)
no_file_path hs (x ∷ p) some h = no_file_row hs x p h
