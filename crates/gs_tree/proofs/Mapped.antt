-- Each command of a plain tree commutes with a map over the payload.
use Rattle.std.proofs.Common.{◌≡◌, ℕ, Bool, true, false, not, cond, ◌&&◌, ◌||◌, [], ◌∷◌, ◌++◌, map, length, set, nat_lt, refl, sym, ap, ◌∙◌}
use Rattle.std.specs.Prelude.{Option, Some, None, Result, Ok, Err, is_some, is_none}
use Rattle.std.specs.List.{list_any}
use Rattle.gs_base.specs.declared.refusal.Refusal.{Refusal}
use Rattle.gs_base.specs.declared.refusal.Refusal.TheVariants.{BadPath, NotFound, Exists, NotADirectory, IsADirectory, IntoItself, IsRoot, NotHidden, Range}
use Rattle.gs_path.specs.Path.{Name, Path, begins}
use Rattle.gs_path.specs.Element.{is_hidden}
use Rattle.gs_tree.specs.Entry.{Entry, Dir, File}
use Rattle.gs_tree.specs.Plain.{Plain, after, without, part_at}
use Rattle.gs_tree.specs.Edits.{mkdirs, create, rename, placed, hide, hidden_path, unhide, unhidden, beside, old_name, remove, add_chunk, set_chunk, snapshot, copied, visible, moved, with_dirs, with_entry, with_chunks, chunks_in, is_dir, is_file, file_above, same_path, target_of, parent, last}
use Rattle.gs_tree.specs.Mapped.{mapped_entry, mapped_at, mapped, mapped_result}
use Rattle.std.proofs.lemmas.List.{map-set, map-append, length-map}

pub mapped_cond : {A B : Type 0} (f : A → B) (b : Bool) (v w : Option (Entry A)) → cond b (mapped_at f v) (mapped_at f w) ≡ mapped_at f (cond b v w)
mapped_cond f true v w = refl
mapped_cond f false v w = refl

none-map : {A B : Type 0} (f : A → B) (v : Option (Entry A)) → is_none (mapped_at f v) ≡ is_none v
none-map f None = refl
none-map f (Some e) = refl

some-map : {A B : Type 0} (f : A → B) (v : Option (Entry A)) → is_some (mapped_at f v) ≡ is_some v
some-map f None = refl
some-map f (Some e) = refl

file-map : {A B : Type 0} (f : A → B) (v : Option (Entry A)) → is_file (mapped_at f v) ≡ is_file v
file-map f None = refl
file-map f (Some Dir) = refl
file-map f (Some (File chunks)) = refl

dir-map : {A B : Type 0} (f : A → B) (v : Option (Entry A)) → is_dir (mapped_at f v) ≡ is_dir v
dir-map f None = refl
dir-map f (Some Dir) = refl
dir-map f (Some (File chunks)) = refl

chunks-map : {A B : Type 0} (f : A → B) (v : Option (Entry A)) → chunks_in (mapped_at f v) ≡ map f (chunks_in v)
chunks-map f None = refl
chunks-map f (Some Dir) = refl
chunks-map f (Some (File chunks)) = refl

above-map : {A B : Type 0} (f : A → B) (m : Plain A) (p : Path) → file_above (mapped f m) p ≡ file_above m p
above-map f m [] = refl
above-map f m (x ∷ p) = ap (λ b. b || file_above (mapped f (λ q. m (x ∷ q))) p) (file-map f (m [])) ∙ ap (λ b. is_file (m []) || b) (above-map f (λ q. m (x ∷ q)) p)

-- a test that both trees answer alike
tested : {A B : Type 0} (f : A → B) (b c : Bool) (e : Refusal) (r : Result (Plain B) Refusal) (s : Result (Plain A) Refusal) → b ≡ c → r ≡ mapped_result f s → cond b (Err e) r ≡ mapped_result f (cond c (Err e) s)
tested f b c e r s h k = ap (λ d. cond d (Err e) r) h ∙ each c
  where
    each : (d : Bool) → cond d (Err e) r ≡ mapped_result f (cond d (Err e) s)
    each true = refl
    each false = k

dirs-map : {A B : Type 0} (f : A → B) (m : Plain A) (p q : Path) → with_dirs p (mapped f m) q ≡ mapped f (with_dirs p m) q
dirs-map {A = A} {B = B} f m p q = each (begins q p) (m q)
  where
    each : (b : Bool) (v : Option (Entry A)) → cond (b && is_none (mapped_at f v)) (Some Dir) (mapped_at f v) ≡ mapped_at f (cond (b && is_none v) (Some Dir) v)
    each true None = refl
    each true (Some e) = refl
    each false v = refl

entry-map : {A B : Type 0} (f : A → B) (m : Plain A) (p : Path) (e : Entry A) (n : Plain B) → ((q : Path) → n q ≡ mapped f m q) → (q : Path) → with_entry p (mapped_entry f e) n q ≡ mapped f (with_entry p e m) q
entry-map f m p e n h q = ap (λ v. cond (same_path p q) (Some (mapped_entry f e)) v) (h q) ∙ mapped_cond f (same_path p q) (Some e) (m q)

moved-map : {A B : Type 0} (f : A → B) (m : Plain A) (from to q : Path) → moved from to (mapped f m) q ≡ mapped f (moved from to m) q
moved-map f m from to q =
    ap (λ v. cond (begins to q) (mapped f m (from ++ after to q)) v) (mapped_cond f (begins from q) None (m q))
    ∙ mapped_cond f (begins to q) (m (from ++ after to q)) (cond (begins from q) None (m q))

copied-map : {A B : Type 0} (f : A → B) (m : Plain A) (from to q : Path) → copied from to (mapped f m) q ≡ mapped f (copied from to m) q
copied-map f m from to q =
    ap (λ v. cond (begins to q) v (mapped f m q)) (mapped_cond f (list_any is_hidden (after to q)) None (m (from ++ after to q)))
    ∙ mapped_cond f (begins to q) (visible (part_at from m) (after to q)) (m q)

placed-map : {A B : Type 0} (f : A → B) (deep : Bool) (m : Plain A) (from to : Path) (n : Plain B) (new : Plain A) → n ≡ mapped f new → placed deep (mapped f m) from to n ≡ mapped_result f (placed deep m from to new)
placed-map f deep m from to n new h =
    tested f _ _ Exists _ _ refl (tested f _ _ IntoItself _ _ refl (tested f _ _ Exists _ _ (some-map f (m to)) (tested f _ _ NotFound _ _ (none-map f (m (parent to)))
    (tested f _ _ NotADirectory _ _ (file-map f (m (parent to))) (tested f deep deep BadPath (Ok n) (Ok new) refl (ap (λ k. Ok k) h))))))

target-map : {A B : Type 0} (f : A → B) (m : Plain A) (from to : Path) → target_of (mapped f m) from to ≡ target_of m from to
target-map f m from to = ap (λ b. cond b (to ++ last from) to) (dir-map f (m to))

pub mkdirs-map : {A B : Type 0} (f : A → B) (m : Plain A) (p : Path) → mkdirs (mapped f m) p ≡ mapped_result f (mkdirs m p)
mkdirs-map f m p = tested f _ _ Exists _ _ (file-map f (m p)) (tested f _ _ NotADirectory (Ok (with_dirs p (mapped f m))) (Ok (with_dirs p m)) (above-map f m p) (λ i. Ok (λ q. dirs-map f m p q i)))

pub create-map : {A B : Type 0} (f : A → B) (m : Plain A) (p : Path) → create (mapped f m) p ≡ mapped_result f (create m p)
create-map f m p =
    tested f _ _ Exists _ _ (some-map f (m p)) (tested f _ _ NotADirectory (Ok (with_entry p (File []) (with_dirs p (mapped f m)))) (Ok (with_entry p (File []) (with_dirs p m))) (above-map f m p)
    (λ i. Ok (λ q. entry-map f (with_dirs p m) p (File []) (with_dirs p (mapped f m)) (dirs-map f m p) q i)))

-- the test of depth hangs on paths alone, which a map leaves
pub rename-map : {A B : Type 0} (f : A → B) (is_deep : Path → Bool) (m : Plain A) (from to : Path) → rename is_deep (mapped f m) from to ≡ mapped_result f (rename is_deep m from to)
rename-map f is_deep m from to =
    let target = target_of m from to in
    ap (λ t. cond (same_path from []) (Err IsRoot) (cond (is_none (mapped f m from)) (Err NotFound) (placed (is_deep t) (mapped f m) from t (moved from t (mapped f m))))) (target-map f m from to)
    ∙ tested f _ _ IsRoot _ _ refl (tested f _ _ NotFound _ _ (none-map f (m from)) (placed-map f (is_deep target) m from target (moved from target (mapped f m)) (moved from target m) (λ i q. moved-map f m from target q i)))

pub hide-map : {A B : Type 0} (f : A → B) (m : Plain A) (p : Path) (moment number : ℕ) → hide (mapped f m) p moment number ≡ mapped_result f (hide m p moment number)
hide-map f m p moment number =
    let target = hidden_path p moment number in
    tested f _ _ IsRoot _ _ refl (tested f _ _ NotFound _ _ (none-map f (m p)) (tested f _ _ Exists (Ok (moved p target (mapped f m))) (Ok (moved p target m)) (some-map f (m target)) (λ i. Ok (λ q. moved-map f m p target q i))))

unhidden-map : {A B : Type 0} (f : A → B) (m : Plain A) (p : Path) (name : Option Name) → unhidden (mapped f m) p name ≡ mapped_result f (unhidden m p name)
unhidden-map f m p None = refl
unhidden-map f m p (Some name) =
    let target = beside p name in
    tested f _ _ NotFound _ _ (none-map f (m p)) (tested f _ _ Exists (Ok (moved p target (mapped f m))) (Ok (moved p target m)) (some-map f (m target)) (λ i. Ok (λ q. moved-map f m p target q i)))

pub unhide-map : {A B : Type 0} (f : A → B) (m : Plain A) (p : Path) → unhide (mapped f m) p ≡ mapped_result f (unhide m p)
unhide-map f m p = unhidden-map f m p (old_name p)

pub remove-map : {A B : Type 0} (f : A → B) (m : Plain A) (p : Path) → remove (mapped f m) p ≡ mapped_result f (remove m p)
remove-map f m p = tested f _ _ NotHidden _ _ refl (tested f _ _ NotFound (Ok (without p (mapped f m))) (Ok (without p m)) (none-map f (m p)) (λ i. Ok (λ q. mapped_cond f (begins p q) None (m q) i)))

pub add_chunk-map : {A B : Type 0} (f : A → B) (m : Plain A) (p : Path) (chunk : A) → add_chunk (mapped f m) p (f chunk) ≡ mapped_result f (add_chunk m p chunk)
add_chunk-map f m p chunk =
    let list = ap (λ l. l ++ f chunk ∷ []) (chunks-map f (m p)) ∙ sym (map-append f (chunks_in (m p)) (chunk ∷ [])) in
    tested f _ _ NotFound _ _ (none-map f (m p)) (tested f _ _ IsADirectory (Ok (with_chunks p (chunks_in (mapped f m p) ++ f chunk ∷ []) (mapped f m))) (Ok (with_chunks p (chunks_in (m p) ++ chunk ∷ []) m)) (dir-map f (m p))
    (λ i. Ok (λ q. (ap (λ l. with_chunks p l (mapped f m) q) list ∙ entry-map f m p (File (chunks_in (m p) ++ chunk ∷ [])) (mapped f m) (λ r. refl) q) i)))

pub set_chunk-map : {A B : Type 0} (f : A → B) (m : Plain A) (p : Path) (index : ℕ) (chunk : A) → set_chunk (mapped f m) p index (f chunk) ≡ mapped_result f (set_chunk m p index chunk)
set_chunk-map f m p index chunk =
    let list = ap (λ l. set l index (f chunk)) (chunks-map f (m p)) ∙ sym (map-set f (chunks_in (m p)) index chunk) in
    let len = ap length (chunks-map f (m p)) ∙ length-map (chunks_in (m p)) f in
    tested f _ _ NotFound _ _ (none-map f (m p)) (tested f _ _ IsADirectory _ _ (dir-map f (m p)) (tested f _ _ Range (Ok (with_chunks p (set (chunks_in (mapped f m p)) index (f chunk)) (mapped f m))) (Ok (with_chunks p (set (chunks_in (m p)) index chunk) m)) (ap (λ n. not (nat_lt index n)) len)
    (λ i. Ok (λ q. (ap (λ l. with_chunks p l (mapped f m) q) list ∙ entry-map f m p (File (set (chunks_in (m p)) index chunk)) (mapped f m) (λ r. refl) q) i))))

pub snapshot-map : {A B : Type 0} (f : A → B) (is_deep : Path → Bool) (m : Plain A) (from to : Path) → snapshot is_deep (mapped f m) from to ≡ mapped_result f (snapshot is_deep m from to)
snapshot-map f is_deep m from to =
    tested f _ _ IsRoot _ _ refl (tested f _ _ NotFound _ _ (none-map f (m from)) (placed-map f (is_deep to) m from to (copied from to (mapped f m)) (copied from to m) (λ i q. copied-map f m from to q i)))
