-- What a command changes stands at and under its paths, so what stands apart from them stays.
use Rattle.std.proofs.Common.{◌≡◌, ◌&&◌, ◌++◌, ℕ, Bool, true, false, cond, not, List, [], ◌∷◌, length, nat_lt, slice_set, refl, sym, ap, ◌∙◌, append_assoc}
use Rattle.std.specs.Prelude.{Option, Some, None, Result, Ok, Err, is_some, is_none, IfOk}
use Rattle.std.specs.List.{list_all}
use Rattle.gs_base.specs.declared.refusal.Refusal.{Refusal}
use Rattle.gs_base.specs.declared.refusal.Refusal.TheVariants.{BadPath, NotFound, Exists, NotADirectory, IsADirectory, IntoItself, IsRoot, NotHidden, Range}
use Rattle.gs_path.specs.Path.{Name, Path, begins}
use Rattle.gs_tree.specs.Entry.{Entry, Dir, File}
use Rattle.gs_tree.specs.Plain.{Plain, after, without, part_at}
use Rattle.gs_tree.specs.Edits.{placed, moved, hidden_path, unhidden, beside, old_name, snapshot, copied, visible, with_dirs, with_entry, with_chunks, chunks_in, is_dir, is_file, file_above, same_path, target_of, parent}
use Rattle.gs_tree.specs.Commands.{Command, Mkdirs, Create, Rename, Hide, Unhide, Remove, AddChunk, SetChunk, Snapshot, done, touched, unhidden_path, IsClosed}
use Rattle.gs_tree.proofs.Splice.{begins_parts}
use Rattle.gs_tree.proofs.Laws.{begins_append, begins_either}
use Rattle.gs_tree.proofs.Reaching.{same_path-is}
use Rattle.gs_tree.proofs.Moves.{not_front}
use Rattle.gs_tree.proofs.Levels.{left_true, right_true}

pub past : (b : Bool) (e : Refusal) (rest : Result (Plain ℕ) Refusal) (n : Plain ℕ) → cond b (Err e) rest ≡ Ok n → rest ≡ Ok n
past true e rest n h = absurd (cc)
past false e rest n h = h

pub through : (b : Bool) (e : Refusal) (rest : Result (Plain ℕ) Refusal) (n : Plain ℕ) → cond b (Err e) rest ≡ Ok n → b ≡ false
through true e rest n h = absurd (cc)
through false e rest n h = refl

pub same_answer : (m n : Plain ℕ) (q : Path) → ◌≡◌ {A = Result (Plain ℕ) Refusal} (Ok m) (Ok n) → n q ≡ m q
same_answer m n q h = let k : m ≡ n = cc in ap (λ (f : Plain ℕ). f q) (sym k)

begins-trans : (a b c : Path) → begins a b ≡ true → begins b c ≡ true → begins a c ≡ true
begins-trans a b c f g = ap (begins a) (begins_parts b c g ∙ ap (λ p. p ++ after b c) (begins_parts a b f) ∙ append_assoc a (after a b) (after b c)) ∙ begins_append a (after a b ++ after b c)

-- two paths of which neither begins with the other begin no path together
never_both : (from to q : Path) → begins from to ≡ false → begins to from ≡ false → begins from q ≡ true → begins to q ≡ true → ⊥
never_both from to q f g h k =
    let l : begins from (to ++ after to q) ≡ true = ap (begins from) (sym (begins_parts to q k)) ∙ h in
    let both = begins_either from to (after to q) l g in cc

is_false : (b : Bool) → (b ≡ true → ⊥) → b ≡ false
is_false true h = absurd (h refl)
is_false false h = refl

record IsApart (from to p q : Path) : Type 0 where
  not_under : begins p q ≡ false
  not_above : begins q p ≡ false

apart : (from to p q : Path) → begins from to ≡ false → begins to from ≡ false → begins from p ≡ true → begins to q ≡ true → IsApart from to p q
apart from to p q f g h k = record {
  not_under = is_false (begins p q) (λ e. never_both from to q f g (begins-trans from p q h e) k);
  not_above = is_false (begins q p) (λ e. never_both from to p f g h (begins-trans to q p k e));
}

begins-itself : (p : Path) → begins p p ≡ true
begins-itself p = ap (begins p) (sym (nil p)) ∙ begins_append p []
  where
    nil : (r : Path) → r ++ [] ≡ r
    nil [] = refl
    nil (x ∷ r) = ap (λ s. x ∷ s) (nil r)

other_path : (p q : Path) → begins p q ≡ false → same_path p q ≡ false
other_path p q h = is_false (same_path p q) (λ e. let k : begins p q ≡ true = ap (begins p) (sym (same_path-is p q e)) ∙ begins-itself p in cc)

dirs_leave : (p q : Path) (m : Plain ℕ) → begins q p ≡ false → with_dirs p m q ≡ m q
dirs_leave p q m h = ap (λ b. cond (b && is_none (m q)) (Some Dir) (m q)) h

entry_leaves : (p q : Path) (e : Entry ℕ) (m : Plain ℕ) → begins p q ≡ false → with_entry p e m q ≡ m q
entry_leaves p q e m h = ap (λ b. cond b (Some e) (m q)) (other_path p q h)

moved_leaves : (from to q : Path) (m : Plain ℕ) → begins from q ≡ false → begins to q ≡ false → moved from to m q ≡ m q
moved_leaves from to q m f t = ap (λ b. cond b (part_at from m (after to q)) (without from m q)) t ∙ ap (λ b. cond b None (m q)) f

copied_leaves : (from to q : Path) (m : Plain ℕ) → begins to q ≡ false → copied from to m q ≡ m q
copied_leaves from to q m t = ap (λ b. cond b (visible (part_at from m) (after to q)) (m q)) t

pub placed_answer : (deep : Bool) (m : Plain ℕ) (from to : Path) (new n : Plain ℕ) → placed deep m from to new ≡ Ok n → ◌≡◌ {A = Result (Plain ℕ) Refusal} (Ok new) (Ok n)
placed_answer deep m from to new n h =
    let h1 = past (same_path to from) Exists _ n h in
    let h2 = past (begins from to) IntoItself _ n h1 in
    let h3 = past (is_some (m to)) Exists _ n h2 in
    let h4 = past (is_none (m (parent to))) NotFound _ n h3 in
    let h5 = past (is_file (m (parent to))) NotADirectory _ n h4 in past deep BadPath (Ok new) n h5

head_of : (f : Path → Bool) (p : Path) (ps : List Path) → list_all f (p ∷ ps) ≡ true → f p ≡ true
head_of f p ps h = each (f p) (list_all f ps) h
  where
    each : (a b : Bool) → (a && b) ≡ true → a ≡ true
    each true b g = refl
    each false b g = absurd (cc)

tail_of : (f : Path → Bool) (p : Path) (ps : List Path) → list_all f (p ∷ ps) ≡ true → list_all f ps ≡ true
tail_of f p ps h = each (f p) (list_all f ps) h
  where
    each : (a b : Bool) → (a && b) ≡ true → b ≡ true
    each true b g = g
    each false b g = absurd (cc)

abbrev clear : Path → Path → Bool
clear q p = not (begins p q) && not (begins q p)

not_false : (b : Bool) → not b ≡ true → b ≡ false
not_false true h = absurd (cc)
not_false false h = refl

under : (p q : Path) (ps : List Path) → list_all (clear q) (p ∷ ps) ≡ true → begins p q ≡ false
under p q ps h = not_false (begins p q) (left_true (not (begins p q)) (not (begins q p)) (head_of (clear q) p ps h))

above : (p q : Path) (ps : List Path) → list_all (clear q) (p ∷ ps) ≡ true → begins q p ≡ false
above p q ps h = not_false (begins q p) (right_true (not (begins p q)) (not (begins q p)) (head_of (clear q) p ps h))

-- what an accepted command leaves: all that is neither under a path that it touches nor above it
leaves : (c : Command ℕ) (m n : Plain ℕ) (q : Path) → list_all (clear q) (touched c m) ≡ true → done c m ≡ Ok n → n q ≡ m q
leaves (Mkdirs p) m n q h is =
    let h1 = past (file_above m p) NotADirectory (Ok (with_dirs p m)) n (past (is_file (m p)) Exists _ n is) in
    same_answer (with_dirs p m) n q h1 ∙ dirs_leave p q m (above p q [] h)
leaves (Create p) m n q h is =
    let h1 = past (file_above m p) NotADirectory (Ok (with_entry p (File []) (with_dirs p m))) n (past (is_some (m p)) Exists _ n is) in
    same_answer (with_entry p (File []) (with_dirs p m)) n q h1 ∙ entry_leaves p q (File []) (with_dirs p m) (under p q [] h) ∙ dirs_leave p q m (above p q [] h)
leaves (Rename is_deep from to) m n q h is =
    let target = target_of m from to in
    let h1 = past (is_none (m from)) NotFound _ n (past (same_path from []) IsRoot _ n is) in
    same_answer (moved from target m) n q (placed_answer (is_deep target) m from target (moved from target m) n h1) ∙ moved_leaves from target q m (under from q (target ∷ []) h) (under target q [] (tail_of (clear q) from (target ∷ []) h))
leaves (Hide p moment number) m n q h is =
    let target = hidden_path p moment number in
    let h1 = past (is_none (m p)) NotFound _ n (past (same_path p []) IsRoot _ n is) in
    let h2 = past (is_some (m target)) Exists (Ok (moved p target m)) n h1 in
    same_answer (moved p target m) n q h2 ∙ moved_leaves p target q m (under p q (target ∷ []) h) (under target q [] (tail_of (clear q) p (target ∷ []) h))
leaves (Unhide p) m n q h is = named (old_name p) h is
  where
    named : (name : Option Name) → list_all (clear q) (p ∷ unhidden_path p name ∷ []) ≡ true → unhidden m p name ≡ Ok n → n q ≡ m q
    named None g is = absurd (cc)
    named (Some name) g is =
        let target = beside p name in
        let h1 = past (is_some (m target)) Exists (Ok (moved p target m)) n (past (is_none (m p)) NotFound _ n is) in
        same_answer (moved p target m) n q h1 ∙ moved_leaves p target q m (under p q (target ∷ []) g) (under target q [] (tail_of (clear q) p (target ∷ []) g))
leaves (Remove p) m n q h is =
    let h1 = past (is_none (m p)) NotFound (Ok (without p m)) n (past (is_none (old_name p)) NotHidden _ n is) in
    same_answer (without p m) n q h1 ∙ ap (λ b. cond b None (m q)) (under p q [] h)
leaves (AddChunk p chunk) m n q h is =
    let new = with_chunks p (chunks_in (m p) ++ chunk ∷ []) m in
    let h1 = past (is_dir (m p)) IsADirectory (Ok new) n (past (is_none (m p)) NotFound _ n is) in
    same_answer new n q h1 ∙ entry_leaves p q (File (chunks_in (m p) ++ chunk ∷ [])) m (under p q [] h)
leaves (SetChunk p index chunk) m n q h is =
    let new = with_chunks p (slice_set (chunks_in (m p)) index chunk) m in
    let h1 = past (is_dir (m p)) IsADirectory _ n (past (is_none (m p)) NotFound _ n is) in
    let h2 = past (not (nat_lt index (length (chunks_in (m p))))) Range (Ok new) n h1 in
    same_answer new n q h2 ∙ entry_leaves p q (File (slice_set (chunks_in (m p)) index chunk)) m (under p q [] h)
leaves (Snapshot is_deep from to) m n q h is =
    let h1 = past (is_none (m from)) NotFound _ n (past (same_path from []) IsRoot _ n is) in
    same_answer (copied from to m) n q (placed_answer (is_deep to) m from to (copied from to m) n h1) ∙ copied_leaves from to q m (under to q [] h)

clears : (from to q : Path) (ps : List Path) → begins from to ≡ false → begins to from ≡ false → begins to q ≡ true → list_all (begins from) ps ≡ true → list_all (clear q) ps ≡ true
clears from to q [] f g k h = refl
clears from to q (p ∷ ps) f g k h =
    let a = apart from to p q f g (head_of (begins from) p ps h) k in
    ap (λ b. (not b && not (begins q p)) && list_all (clear q) ps) a.not_under ∙ ap (λ b. not b && list_all (clear q) ps) a.not_above ∙ clears from to q ps f g k (tail_of (begins from) p ps h)

pub sides_stay : (c : Command ℕ) (m n : Plain ℕ) (from to q : Path) → begins from to ≡ false → begins to from ≡ false → list_all (begins from) (touched c m) ≡ true → done c m ≡ Ok n → begins to q ≡ true → n q ≡ m q
sides_stay c m n from to q f g all is k = leaves c m n q (clears from to q (touched c m) f g k all) is

-- the two sides of a snapshot are apart
pub sides_apart : (is_deep : Path → Bool) (m n : Plain ℕ) (from to : Path) → IsClosed m → snapshot is_deep m from to ≡ Ok n → (begins from to ≡ false) × (begins to from ≡ false)
sides_apart is_deep m n from to closed is =
    let h1 = past (same_path from []) IsRoot _ n is in
    let stands = through (is_none (m from)) NotFound _ n h1 in
    let h2 = past (is_none (m from)) NotFound _ n h1 in
    let h3 = past (same_path to from) Exists _ n h2 in
    let out = through (begins from to) IntoItself _ n h3 in
    let h4 = past (begins from to) IntoItself _ n h3 in
    let free = through (is_some (m to)) Exists _ n h4 in
    (out, not_front m to from (λ r. closed to r (none (m to) free)) (some (m from) stands))
  where
    none : (v : Option (Entry ℕ)) → is_some v ≡ false → v ≡ None
    none None h = refl
    none (Some e) h = absurd (cc)

    some : (v : Option (Entry ℕ)) → is_none v ≡ false → is_some v ≡ true
    some None h = absurd (cc)
    some (Some e) h = refl

pub if_ok : {I P : Type 0} (r : Result I Refusal) → P → IfOk r (λ _. P)
if_ok (Ok i) h = h
if_ok (Err e) h = tt
