-- What is made is taken back.
use Rattle.std.proofs.Common.{◌≡◌, ◌+◌, ◌-◌, ◌<◌, ℕ, Bool, true, false, cond, ◌&&◌, ◌||◌, inl, inr, [], ◌∷◌, ◌++◌, length, refl, sym, ap, ◌∙◌, subst, arith, nat_lt}
use Rattle.std.specs.Prelude.{Some, None, is_none, Result, Ok, Err}
use Rattle.std.proofs.lemmas.List.{take-append-drop}
use Rattle.std.proofs.lemmas.Bool.{lt-ltb, le-ltb}
use Rattle.gs_base.specs.declared.refusal.Refusal.{Refusal}
use Rattle.gs_base.specs.declared.refusal.Refusal.TheVariants.{Exists, NotADirectory}
use Rattle.gs_path.specs.Path.{Path, same_name, begins}
use Rattle.gs_tree.specs.Entry.{Entry, Dir}
use Rattle.gs_tree.specs.declared.node.Leaf.{Leaf}
use Rattle.gs_tree.specs.declared.node.Leaf.TheVariants as leaves
use Rattle.gs_tree.specs.inner.Sort.{entry_of_leaf}
use Rattle.gs_tree.specs.Plain.{Plain, IsFree, Same, without, part_at}
use Rattle.gs_tree.specs.Find.{DirsAbove}
use Rattle.gs_tree.specs.Edits.{with_dirs, with_entry, file_above, is_file, stood, same_path, mkdirs, made}
use Rattle.gs_tree.specs.Inverses.{row_of, first_made, below_first, after_undo, IsBlank, IsBlankRow, TakesBack}
use Rattle.gs_tree.specs.Follows.{FollowsPlain}
use Rattle.gs_tree.specs.inner.Steps.{IsSown}
use Rattle.gs_tree.specs.declared.inverse.TreeInverse.TheVariants.{Made}
use Rattle.gs_tree.proofs.Rows.{names_equiv}
use Rattle.gs_tree.proofs.Splice.{one_name}
use Rattle.gs_tree.proofs.Sowing.{leafed, leafed-cons, leafed-nothing, first_made-below}
use Rattle.gs_tree.proofs.Reaching.{same_path-is}
use Rattle.gs_tree.proofs.Laws.{begins_append, free_at}

-- what is made under a free place is all that stands there
leafed-under : (f b : Path) (e : Entry ℕ) (m : Plain ℕ) → IsFree m f → (q : Path) → leafed (f ++ b) e m (f ++ q) ≡ row_of b e q
leafed-under [] b e m free q = leafed-nothing b q e m (free q)
leafed-under (x ∷ f) b e m free q =
    leafed-cons x x (f ++ b) (f ++ q) e m ∙ ap (λ s. cond s (leafed (f ++ b) e (λ r. m (x ∷ r)) (f ++ q)) (m (x ∷ (f ++ q)))) (names_equiv.refl x)
    ∙ leafed-under f b e (λ r. m (x ∷ r)) free q

-- what stands on the way to the first path that is made
stood_stands : (m : Plain ℕ) (path q : Path) → is_none (m []) ≡ false → begins q path ≡ true → begins (first_made path (stood m path)) q ≡ false → is_none (m q) ≡ false
stood_stands m path [] root h g = root
stood_stands m [] (y ∷ q) root h g = absurd (cc)
stood_stands m (x ∷ p) (y ∷ q) root h g =
    elim (same_name y x) as (λ b. same_name y x ≡ b → (b && begins q p) ≡ true → is_none (m (y ∷ q)) ≡ false) [
      | true ↦ λ b k. let same : y ≡ x = one_name y x b in
          elim (is_none (m (x ∷ []))) as (λ n. is_none (m (x ∷ [])) ≡ n → is_none (m (y ∷ q)) ≡ false) [
            | true ↦ λ n. let zero_stood : stood m (x ∷ p) ≡ 0 = ap (λ d. cond d 0 (stood (λ r. m (x ∷ r)) p + 1)) n in
                let front : begins (first_made (x ∷ p) (stood m (x ∷ p))) (y ∷ q) ≡ true = ap (λ s. begins (first_made (x ∷ p) s) (y ∷ q)) zero_stood ∙ ap (λ d. d && true) (names_equiv.symm x y ∙ b) in absurd (cc)
            | false ↦ λ n. let more : stood m (x ∷ p) ≡ stood (λ r. m (x ∷ r)) p + 1 = ap (λ d. cond d 0 (stood (λ r. m (x ∷ r)) p + 1)) n in
                let front : begins (first_made (x ∷ p) (stood m (x ∷ p))) (y ∷ q) ≡ begins (first_made p (stood (λ r. m (x ∷ r)) p)) q =
                ap (λ s. begins (first_made (x ∷ p) s) (y ∷ q)) more ∙ ap (λ f. begins f (y ∷ q)) (first_made-below x p (stood (λ r. m (x ∷ r)) p))
                ∙ ap (λ d. d && begins (first_made p (stood (λ r. m (x ∷ r)) p)) q) (names_equiv.symm x y ∙ b) in
                ap (λ z. is_none (m (z ∷ q))) same ∙ stood_stands (λ r. m (x ∷ r)) p q n k (sym front ∙ g)
          ] refl
      | false ↦ λ b k. absurd (cc)
    ] refl h

made_else : (m : Plain ℕ) (path first q : Path) (e : Entry ℕ) → begins first path ≡ true → begins first q ≡ false → (begins q path ≡ true → is_none (m q) ≡ false) → leafed path e m q ≡ m q
made_else m path first q e front out stands =
    elim (same_path path q) as (λ b. same_path path q ≡ b → cond b (Some e) (with_dirs path m q) ≡ m q) [
      | true ↦ λ b. let k : begins first q ≡ true = ap (begins first) (sym (same_path-is path q b)) ∙ front in absurd (cc)
      | false ↦ λ b. elim (begins q path) as (λ d. begins q path ≡ d → cond (d && is_none (m q)) (Some Dir) (m q) ≡ m q) [
        | true ↦ λ d. ap (λ s. cond s (Some Dir) (m q)) (stands d)
        | false ↦ λ d. refl
      ] refl
    ] refl

leaf_blank : (leaf : Leaf) → IsBlank (entry_of_leaf {A = ℕ} leaf)
leaf_blank leaves.Dir = tt
leaf_blank leaves.File = tt

-- what was sown is taken back
pub takes_made : (m new : Plain ℕ) (path : Path) (leaf : Leaf) (n made : ℕ) → n ≡ length path → IsSown m path (entry_of_leaf leaf) made new → TakesBack (Made path (n - made)) m new
takes_made m new path leaf n made len sown =
    let e = entry_of_leaf leaf in
    let more = sown.some in
    let stands = sown.stands in
    let above_is : n - made ≡ stood m path = omega arith in
    let short : stood m path < length path = omega arith in
    let first = first_made path (stood m path) in
    let below = below_first path (stood m path) in
    let whole : first ++ below ≡ path = take-append-drop (stood m path + 1) path in
    let row : IsBlankRow (part_at first new) below = (e, (leaf_blank leaf, λ q. sown.tree (first ++ q) ∙ ap (λ p. leafed p e m (first ++ q)) (sym whole) ∙ leafed-under first below e m sown.free q)) in
    let back : Same (after_undo (Made path (stood m path)) new) m = λ q. ap (λ b. cond b (without first new) new q) (lt-ltb _ _ short) ∙ returned q in
    subst (λ k. TakesBack (Made path k) m new) (sym above_is) (record { fits = inr row; back = back })
  where
    returned : (q : Path) → without (first_made path (stood m path)) new q ≡ m q
    returned q =
        let first = first_made path (stood m path) in
        let below = below_first path (stood m path) in
        let whole : first ++ below ≡ path = take-append-drop (stood m path + 1) path in
        let front : begins first path ≡ true = ap (begins first) (sym whole) ∙ begins_append first below in
        elim (begins first q) as (λ b. begins first q ≡ b → cond b None (new q) ≡ m q) [
          | true ↦ λ b. sym (free_at m first q sown.free b)
          | false ↦ λ b. sown.tree q ∙ made_else m path first q (entry_of_leaf leaf) front b (λ h. stood_stands m path q sown.root h b)
        ] refl

pub takes_nothing : (m : Plain ℕ) (path : Path) (n : ℕ) → n ≡ length path → TakesBack (Made path n) m m
takes_nothing m path n len = record { fits = inl (omega arith); back = λ q. same (nat_lt n (length path)) q (le-ltb n (length path) (omega arith)) }
  where
    same : (b : Bool) (q : Path) → b ≡ false → cond b (without (first_made path n) m) m q ≡ m q
    same true q e = absurd (cc)
    same false q e = refl

dirs_stand : (m : Plain ℕ) (p q : Path) → DirsAbove m p → is_none (m p) ≡ false → begins q p ≡ true → is_none (m q) ≡ false
dirs_stand m [] [] above some h = some
dirs_stand m [] (y ∷ q) above some h = absurd (cc)
dirs_stand m (x ∷ p) [] above some h = ap is_none above.0
dirs_stand m (x ∷ p) (y ∷ q) above some h =
    elim (same_name y x) as (λ b. same_name y x ≡ b → (b && begins q p) ≡ true → is_none (m (y ∷ q)) ≡ false) [
      | true ↦ λ b k. ap (λ z. is_none (m (z ∷ q))) (one_name y x b) ∙ dirs_stand (λ r. m (x ∷ r)) p q above.1 some k
      | false ↦ λ b k. absurd (cc)
    ] refl h

no_file : (m : Plain ℕ) (p : Path) → DirsAbove m p → file_above m p ≡ false
no_file m [] above = refl
no_file m (x ∷ p) above = ap (λ v. is_file v || file_above (λ q. m (x ∷ q)) p) above.0 ∙ no_file (λ q. m (x ∷ q)) p above.1

-- mkdirs where a directory stands
pub mkdirs_there : {I : Type 0} (i : I) (m : Plain ℕ) (p : Path) → m p ≡ Some Dir → DirsAbove m p → FollowsPlain (mkdirs m p) (Ok i) m m
mkdirs_there i m p dir above =
    let is : mkdirs m p ≡ Ok (with_dirs p m) =
    ap (λ v. cond (is_file v) (Err Exists) (cond (file_above m p) (Err NotADirectory) (Ok (with_dirs p m)))) dir ∙ ap (λ b. cond b (Err NotADirectory) (Ok (with_dirs p m))) (no_file m p above) in
    subst (λ (r : Result (Plain ℕ) Refusal). FollowsPlain r (Ok i) m m) (sym is) (λ q. elim (begins q p) as (λ b. begins q p ≡ b → m q ≡ cond (b && is_none (m q)) (Some Dir) (m q)) [
      | true ↦ λ b. sym (ap (λ s. cond s (Some Dir) (m q)) (dirs_stand m p q above (ap is_none dir) b))
      | false ↦ λ b. refl
    ] refl)

begins_itself : (p : Path) → begins p p ≡ true
begins_itself [] = refl
begins_itself (x ∷ p) = ap (λ b. b && begins p p) (names_equiv.refl x) ∙ begins_itself p

-- to make a directory where nothing stands
made_dir : (m : Plain ℕ) (p : Path) → m p ≡ None → with_entry p Dir (with_dirs p m) ≡ with_dirs p m
made_dir m p none = λ i q. each q i
  where
    each : (q : Path) → with_entry p Dir (with_dirs p m) q ≡ with_dirs p m q
    each q = elim (same_path p q) as (λ b. same_path p q ≡ b → cond b (Some Dir) (with_dirs p m q) ≡ with_dirs p m q) [
      | true ↦ λ b. let same : p ≡ q = same_path-is p q b in
          subst (λ r. Some Dir ≡ with_dirs p m r) same (sym (ap (λ v. cond (begins p p && is_none v) (Some Dir) v) none ∙ ap (λ b2. cond (b2 && true) (Some Dir) None) (begins_itself p)))
      | false ↦ λ b. refl
    ] refl

pub mkdirs_missing : (m : Plain ℕ) (p : Path) → m p ≡ None → made m p Dir ≡ mkdirs m p
mkdirs_missing m p none =
    ap (λ (n : Plain ℕ). cond (file_above m p) (Err NotADirectory) (Ok n)) (made_dir m p none)
    ∙ sym (ap (λ v. cond (is_file v) (Err Exists) (cond (file_above m p) (Err NotADirectory) (Ok (with_dirs p m)))) none)
