-- Paths stay short.
use Rattle.std.proofs.Common.{◌≡◌, ◌<◌, ◌≤◌, ◌+◌, ◌⊎◌, inl, inr, ◌&&◌, ◌++◌, ℕ, Bool, true, false, cond, not, [], ◌∷◌, length, map, nat_lt, slice_set, refl, sym, ap, ◌∙◌, arith, length-append}
use Rattle.std.specs.Prelude.{Option, Some, None, Result, Ok, is_some, is_none}
use Rattle.std.proofs.lemmas.Bool.{leb-true}
use Rattle.std.proofs.lemmas.List.{length-map}
use Rattle.gs_base.specs.declared.refusal.Refusal.{Refusal}
use Rattle.gs_base.specs.declared.refusal.Refusal.TheVariants.{BadPath, NotFound, Exists, NotADirectory, IsADirectory, IntoItself, IsRoot, NotHidden, Range}
use Rattle.gs_path.specs.Path.{Name, Path, begins}
use Rattle.gs_path.specs.Element.{hidden_name}
use Rattle.gs_tree.specs.Entry.{Entry, Dir, File}
use Rattle.gs_tree.specs.Plain.{Plain, after, without, part_at}
use Rattle.gs_tree.specs.Find.{IsWithin, IsDepthTest, most_elements}
use Rattle.gs_tree.specs.Edits.{placed, moved, hidden_path, unhidden, beside, old_name, copied, visible, with_dirs, with_entry, with_chunks, chunks_in, is_dir, is_file, file_above, same_path, target_of, parent, last}
use Rattle.gs_tree.specs.Build.{is_short}
use Rattle.gs_tree.specs.Commands.{Command, Mkdirs, Create, Rename, Hide, Unhide, Remove, AddChunk, SetChunk, Snapshot, done, made_path, TestsDepth}
use Rattle.gs_tree.proofs.Splice.{begins_parts}
use Rattle.gs_tree.proofs.Reaching.{begins-length, leafed-stands, same_path-is}
use Rattle.gs_tree.proofs.Moves.{parent-shorter}
use Rattle.gs_tree.proofs.Apart.{past, through, same_answer, placed_answer}

stands_as : (new n : Plain ℕ) (q : Path) → ◌≡◌ {A = Result (Plain ℕ) Refusal} (Ok new) (Ok n) → is_some (n q) ≡ true → is_some (new q) ≡ true
stands_as new n q is some = ap is_some (sym (same_answer new n q is)) ∙ some

short_is : (p : Path) → is_short p ≡ true → length p ≤ 64
short_is p h = leb-true (length p) 64 h

dirs_stand : (p q : Path) (m : Plain ℕ) → is_some (with_dirs p m q) ≡ true → (is_some (m q) ≡ true) ⊎ (length q ≤ length p)
dirs_stand p q m some = each (begins q p) refl some
  where
    each : (b : Bool) → begins q p ≡ b → is_some (cond (b && is_none (m q)) (Some Dir) (m q)) ≡ true → (is_some (m q) ≡ true) ⊎ (length q ≤ length p)
    each true is h = inr (begins-length q p is)
    each false is h = inl h

-- what stands after a move came along, or stood
came : (from to q : Path) (m : Plain ℕ) → is_some (moved from to m q) ≡ true → ((is_some (m (from ++ after to q)) ≡ true) × (length q ≡ length to + length (after to q))) ⊎ (is_some (m q) ≡ true)
came from to q m some = each (begins to q) (begins from q) refl some
  where
    each : (b c : Bool) → begins to q ≡ b → is_some (cond b (part_at from m (after to q)) (cond c None (m q))) ≡ true → ((is_some (m (from ++ after to q)) ≡ true) × (length q ≡ length to + length (after to q))) ⊎ (is_some (m q) ≡ true)
    each true c is h = inl (h, ap length (begins_parts to q is) ∙ length-append to (after to q))
    each false true is h = absurd (cc)
    each false false is h = inr h

copy_stands : (from to q : Path) (m : Plain ℕ) → is_some (copied from to m q) ≡ true → ((is_some (visible (part_at from m) (after to q)) ≡ true) × (length q ≡ length to + length (after to q))) ⊎ (is_some (m q) ≡ true)
copy_stands from to q m some = each (begins to q) refl some
  where
    each : (b : Bool) → begins to q ≡ b → is_some (cond b (visible (part_at from m) (after to q)) (m q)) ≡ true → ((is_some (visible (part_at from m) (after to q)) ≡ true) × (length q ≡ length to + length (after to q))) ⊎ (is_some (m q) ≡ true)
    each true is h = inl (h, ap length (begins_parts to q is) ∙ length-append to (after to q))
    each false is h = inr h

placed_short : (deep : Bool) (m : Plain ℕ) (from to : Path) (new n : Plain ℕ) → placed deep m from to new ≡ Ok n → deep ≡ false
placed_short deep m from to new n h =
    let h1 = past (same_path to from) Exists _ n h in
    let h2 = past (begins from to) IntoItself _ n h1 in
    let h3 = past (is_some (m to)) Exists _ n h2 in
    let h4 = past (is_none (m (parent to))) NotFound _ n h3 in
    let h5 = past (is_file (m (parent to))) NotADirectory _ n h4 in through deep BadPath (Ok new) n h5

not_deep : (deep : Bool) (m : Plain ℕ) (from to r : Path) → IsDepthTest deep m from to → deep ≡ false → is_some (m (from ++ r)) ≡ true → length to + length r ≤ 64
not_deep true m from to r test is some = absurd (cc)
not_deep false m from to r test is some = let k : 64 < length to + length r → ⊥ = λ l. test (r, (some, l)) in omega (arith, k)

parts : (p : Path) → length (parent p) + length (last p) ≡ length p
parts [] = refl
parts (x ∷ []) = refl
parts (x ∷ y ∷ p) = let h = parts (y ∷ p) in omega arith

-- a move to a place that isn't deeper
beside_short : (m n : Plain ℕ) (p target : Path) → length target ≤ length p → IsWithin 64 m → ◌≡◌ {A = Result (Plain ℕ) Refusal} (Ok (moved p target m)) (Ok n) → IsWithin 64 n
beside_short m n p target less within is q some = elim (came p target q m (stands_as (moved p target m) n q is some)) [
  | inl h ↦ let l : length (p ++ after target q) ≤ 64 = within (p ++ after target q) h.0 in
      let k : length (p ++ after target q) ≡ length p + length (after target q) = length-append p (after target q) in
      let e : length q ≡ length target + length (after target q) = h.1 in omega arith
  | inr h ↦ within q h
]

stands_is : (v : Option (Entry ℕ)) → is_none v ≡ false → is_some v ≡ true
stands_is None h = absurd (cc)
stands_is (Some e) h = refl

entry_short : (m n : Plain ℕ) (p : Path) (e : Entry ℕ) → is_some (m p) ≡ true → IsWithin 64 m → ◌≡◌ {A = Result (Plain ℕ) Refusal} (Ok (with_entry p e m)) (Ok n) → IsWithin 64 n
entry_short m n p e old within is q some = each (same_path p q) refl (stands_as (with_entry p e m) n q is some)
  where
    each : (b : Bool) → same_path p q ≡ b → is_some (cond b (Some e) (m q)) ≡ true → length q ≤ 64
    each true same h = within q (ap (λ r. is_some (m r)) (sym (same_path-is p q same)) ∙ old)
    each false same h = within q h

pub stay_short : (c : Command ℕ) (m n : Plain ℕ) → TestsDepth c m → is_short (made_path c) ≡ true → IsWithin most_elements m → done c m ≡ Ok n → IsWithin most_elements n
stay_short (Mkdirs p) m n test short within is q some =
    let h1 = past (file_above m p) NotADirectory (Ok (with_dirs p m)) n (past (is_file (m p)) Exists _ n is) in
    let l : length p ≤ 64 = short_is p short in
    elim (dirs_stand p q m (stands_as (with_dirs p m) n q h1 some)) [ inl h ↦ within q h | inr k ↦ omega arith ]
stay_short (Create p) m n test short within is q some =
    let h1 = past (file_above m p) NotADirectory (Ok (with_entry p (File []) (with_dirs p m))) n (past (is_some (m p)) Exists _ n is) in
    let l : length p ≤ 64 = short_is p short in
    elim (leafed-stands p (File []) m q (stands_as (with_entry p (File []) (with_dirs p m)) n q h1 some)) [ inl k ↦ omega arith | inr h ↦ within q h ]
stay_short (Rename is_deep from to) m n test short within is q some =
    let target = target_of m from to in
    let h1 = past (is_none (m from)) NotFound _ n (past (same_path from []) IsRoot _ n is) in
    let deep = placed_short (is_deep target) m from target (moved from target m) n h1 in
    elim (came from target q m (stands_as (moved from target m) n q (placed_answer (is_deep target) m from target (moved from target m) n h1) some)) [
      | inl h ↦ let k : length target + length (after target q) ≤ 64 = not_deep (is_deep target) m from target (after target q) test deep h.0 in let e : length q ≡ length target + length (after target q) = h.1 in omega arith
      | inr h ↦ within q h
    ]
stay_short (Hide p moment number) m n test short within is q some =
    let target = hidden_path p moment number in
    let h1 = past (is_none (m p)) NotFound _ n (past (same_path p []) IsRoot _ n is) in
    let h2 = past (is_some (m target)) Exists (Ok (moved p target m)) n h1 in
    let long : length target ≡ length (parent p) + length (map (λ name. hidden_name moment number name) (last p)) = length-append (parent p) (map (λ name. hidden_name moment number name) (last p)) in
    let same : length (map (λ name. hidden_name moment number name) (last p)) ≡ length (last p) = length-map (last p) (λ name. hidden_name moment number name) in
    let whole = parts p in
    let less : length target ≤ length p = omega arith in
    beside_short m n p target less within h2 q some
stay_short (Unhide []) m n test short within is q some = absurd (cc)
stay_short (Unhide (x ∷ p)) m n test short within is q some = named (old_name (x ∷ p)) is q some
  where
    named : (name : Option Name) → unhidden m (x ∷ p) name ≡ Ok n → IsWithin 64 n
    named None h = absurd (cc)
    named (Some name) h =
        let target = beside (x ∷ p) name in
        let h1 = past (is_some (m target)) Exists (Ok (moved (x ∷ p) target m)) n (past (is_none (m (x ∷ p))) NotFound _ n h) in
        let long : length target ≡ length (parent (x ∷ p)) + length (name ∷ []) = length-append (parent (x ∷ p)) (name ∷ []) in
        let k : length (parent (x ∷ p)) < length (x ∷ p) = parent-shorter (x ∷ p) (λ e. cc) in
        let less : length target ≤ length (x ∷ p) = omega arith in
        beside_short m n (x ∷ p) target less within h1
stay_short (Remove p) m n test short within is q some =
    let h1 = past (is_none (m p)) NotFound (Ok (without p m)) n (past (is_none (old_name p)) NotHidden _ n is) in
    within q (left (begins p q) (m q) (stands_as (without p m) n q h1 some))
  where
    left : (b : Bool) (v : Option (Entry ℕ)) → is_some (cond b None v) ≡ true → is_some v ≡ true
    left true v h = absurd (cc)
    left false v h = h
stay_short (AddChunk p chunk) m n test short within is q some =
    let new = with_chunks p (chunks_in (m p) ++ chunk ∷ []) m in
    let stands = stands_is (m p) (through (is_none (m p)) NotFound _ n is) in
    let h1 = past (is_dir (m p)) IsADirectory (Ok new) n (past (is_none (m p)) NotFound _ n is) in
    entry_short m n p (File (chunks_in (m p) ++ chunk ∷ [])) stands within h1 q some
stay_short (SetChunk p index chunk) m n test short within is q some =
    let new = with_chunks p (slice_set (chunks_in (m p)) index chunk) m in
    let stands = stands_is (m p) (through (is_none (m p)) NotFound _ n is) in
    let h1 = past (is_dir (m p)) IsADirectory _ n (past (is_none (m p)) NotFound _ n is) in
    let h2 = past (not (nat_lt index (length (chunks_in (m p))))) Range (Ok new) n h1 in
    entry_short m n p (File (slice_set (chunks_in (m p)) index chunk)) stands within h2 q some
stay_short (Snapshot is_deep from to) m n test short within is q some =
    let h1 = past (is_none (m from)) NotFound _ n (past (same_path from []) IsRoot _ n is) in
    let deep = placed_short (is_deep to) m from to (copied from to m) n h1 in
    elim (copy_stands from to q m (stands_as (copied from to m) n q (placed_answer (is_deep to) m from to (copied from to m) n h1) some)) [
      | inl h ↦ let k : length to + length (after to q) ≤ 64 = not_deep (is_deep to) (visible (part_at from m)) [] to (after to q) test deep h.0 in let e : length q ≡ length to + length (after to q) = h.1 in omega arith
      | inr h ↦ within q h
    ]
