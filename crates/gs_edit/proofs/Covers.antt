-- Where something can stand after an edit, and what an edit leaves as rows.
use Rattle.std.proofs.Common.{◌≡◌, inl, inr, ◌++◌, ◌&&◌, ℕ, Bool, true, false, not, nat_lt, set, length, cond, List, [], ◌∷◌, map, refl, sym, ap, ◌∙◌, subst}
use Rattle.std.specs.Prelude.{Option, Some, None, Result, Ok, Err, is_some, is_none}
use Rattle.std.specs.Cmp.{Equal-is, eq_by_cmp_equiv}
use Rattle.std.specs.Cmp.Lexicographic.{nat_list_cmp_total}
use Rattle.std.specs.FinMap.{FinMap, get, entries, slice_cmp-IsAntisymmetric, nat_cmp-IsAntisymmetric}
use Rattle.gs_base.specs.declared.refusal.Refusal.{Refusal}
use Rattle.gs_base.specs.declared.numbers.Moment.{Moment}
use Rattle.gs_base.specs.declared.refusal.Refusal.TheVariants.{NotADirectory, IsADirectory, Exists, NotFound, IntoItself, BadPath, IsRoot, Range, NotHidden}
use Rattle.std.specs.List.{list_any}
use Rattle.gs_path.specs.Element.{is_hidden}
use Rattle.gs_path.specs.Path.{Name, Path, path_cmp, name_cmp, same_name, begins}
use Rattle.gs_tree.specs.Entry.{Entry, Dir, File}
use Rattle.gs_tree.specs.Plain.{Plain, after, without}
use Rattle.gs_tree.specs.Find.{Rows, at, is_too_deep, is_copied_too_deep}
use Rattle.gs_tree.specs.Edits.{same_path, with_dirs, with_entry, with_chunks, chunks_in, moved, mkdirs, create, rename, hide, unhide, unhidden, remove, snapshot, copied, visible, old_name, beside, add_chunk, set_chunk, move_to, is_file, is_dir, file_above, target_of, hidden_path, parent}
use Rattle.gs_edit.specs.Plain.{unhide_target}
use Rattle.gs_tree.specs.Follows.{FollowsPlain}
use Rattle.gs_edit.specs.Table.{tabled, paths_of, fronts, moved_path}
use Rattle.gs_edit.specs.Edits.{AppliesRows, edited}
use Rattle.gs_edit.specs.declared.edit.Edit.{Edit}
use Rattle.gs_edit.specs.declared.edit.Edit.TheVariants as edits
use Rattle.gs_edit.proofs.Tables.{among, Covers, among-left, among-right, among-map, among-paths_of, same_path-is, table-entries, entries-same, seen}

one_name : (x y : Name) → same_name x y ≡ true → x ≡ y
one_name x y t = slice_cmp-IsAntisymmetric nat_cmp-IsAntisymmetric x y ((Equal-is (name_cmp x y)).0 t)

begins_itself : (p : Path) → begins p p ≡ true
begins_itself [] = refl
begins_itself (x ∷ p) = ap (λ b. b && begins p p) ((eq_by_cmp_equiv nat_list_cmp_total).refl x) ∙ begins_itself p

begins_parts : (p q : Path) → begins p q ≡ true → p ++ after p q ≡ q
begins_parts [] q h = refl
begins_parts (x ∷ p) [] h = absurd (cc)
begins_parts (x ∷ p) (y ∷ q) h =
    elim (same_name x y) as (λ b. same_name x y ≡ b → (b && begins p q) ≡ true → x ∷ (p ++ after p q) ≡ y ∷ q) [
      | true ↦ λ b g. ap (λ z. z ∷ (p ++ after p q)) (one_name x y b) ∙ ap (λ z. y ∷ z) (begins_parts p q g)
      | false ↦ λ b g. absurd (cc)
    ] refl h

begins_append : (t r : Path) → begins t (t ++ r) ≡ true
begins_append [] r = refl
begins_append (x ∷ t) r = ap (λ b. b && begins t (t ++ r)) ((eq_by_cmp_equiv nat_list_cmp_total).refl x) ∙ begins_append t r

after_append : (t r : Path) → after t (t ++ r) ≡ r
after_append [] r = refl
after_append (x ∷ t) r = after_append t r

-- what begins a path is a front of it
pub among-fronts : (p q : Path) → begins q p ≡ true → among (fronts p) q ≡ true
among-fronts [] [] h = refl
among-fronts [] (y ∷ q) h = absurd (cc)
among-fronts (x ∷ p) [] h = refl
among-fronts (x ∷ p) (y ∷ q) h =
    elim (same_name y x) as (λ b. same_name y x ≡ b → (b && begins q p) ≡ true → among (map (λ r. x ∷ r) (fronts p)) (y ∷ q) ≡ true) [
      | true ↦ λ b g. ap (λ z. among (map (λ r. x ∷ r) (fronts p)) (z ∷ q)) (one_name y x b) ∙ among-map (λ r. x ∷ r) (fronts p) q (among-fronts p q g)
      | false ↦ λ b g. absurd (cc)
    ] refl h

pub covers-dirs : {A : Type 0} (rows : Rows A) (p : Path) → Covers (paths_of rows ++ fronts p) (with_dirs p (at rows))
covers-dirs rows p q some =
    elim (begins q p) as (λ b. begins q p ≡ b → is_some (cond (b && is_none (at rows q)) (Some Dir) (at rows q)) ≡ true → among (paths_of rows ++ fronts p) q ≡ true) [
      | true ↦ λ b h. among-right (paths_of rows) (fronts p) q (among-fronts p q b)
      | false ↦ λ b h. among-left (paths_of rows) (fronts p) q (among-paths_of rows q h)
    ] refl some

pub covers-entry : {A : Type 0} (rows : Rows A) (p : Path) (e : Entry A) → Covers (paths_of rows ++ fronts p) (with_entry p e (with_dirs p (at rows)))
covers-entry rows p e q some =
    elim (same_path p q) as (λ b. same_path p q ≡ b → is_some (cond b (Some e) (with_dirs p (at rows) q)) ≡ true → among (paths_of rows ++ fronts p) q ≡ true) [
      | true ↦ λ b h. among-right (paths_of rows) (fronts p) q (among-fronts p q (ap (λ r. begins r p) (sym (same_path-is p q b)) ∙ begins_itself p))
      | false ↦ λ b h. covers-dirs rows p q h
    ] refl some

moved_path-append : (from to r : Path) → moved_path from to (from ++ r) ≡ to ++ r
moved_path-append from to r = ap (λ b. cond b (to ++ after from (from ++ r)) (from ++ r)) (begins_append from r) ∙ ap (λ s. to ++ s) (after_append from r)

stays : {A : Type 0} (from : Path) (rows : Rows A) (q : Path) → is_some (without from (at rows) q) ≡ true → is_some (at rows q) ≡ true
stays from rows q h = elim (begins from q) as (λ b. is_some (cond b None (at rows q)) ≡ true → is_some (at rows q) ≡ true) [
  | true ↦ λ k. absurd (cc)
  | false ↦ λ k. k
] h

pub covers-moved : {A : Type 0} (rows : Rows A) (from to : Path) → Covers (paths_of rows ++ map (moved_path from to) (paths_of rows)) (moved from to (at rows))
covers-moved rows from to q some =
    elim (begins to q) as (λ b. begins to q ≡ b → is_some (cond b (at rows (from ++ after to q)) (without from (at rows) q)) ≡ true → among (paths_of rows ++ map (moved_path from to) (paths_of rows)) q ≡ true) [
      | true ↦ λ b h. among-right (paths_of rows) (map (moved_path from to) (paths_of rows)) q
          (ap (among (map (moved_path from to) (paths_of rows))) (sym (moved_path-append from to (after to q) ∙ begins_parts to q b))
          ∙ among-map (moved_path from to) (paths_of rows) (from ++ after to q) (among-paths_of rows (from ++ after to q) h))
      | false ↦ λ b h. among-left (paths_of rows) (map (moved_path from to) (paths_of rows)) q (among-paths_of rows q (stays from rows q h))
    ] refl some

pub covers-copied : {A : Type 0} (rows : Rows A) (from to : Path) → Covers (paths_of rows ++ map (moved_path from to) (paths_of rows)) (copied from to (at rows))
covers-copied rows from to q some =
    elim (begins to q) as (λ b. begins to q ≡ b → is_some (cond b (visible (λ r. at rows (from ++ r)) (after to q)) (at rows q)) ≡ true → among (paths_of rows ++ map (moved_path from to) (paths_of rows)) q ≡ true) [
      | true ↦ λ b h. among-right (paths_of rows) (map (moved_path from to) (paths_of rows)) q
          (ap (among (map (moved_path from to) (paths_of rows))) (sym (moved_path-append from to (after to q) ∙ begins_parts to q b))
          ∙ among-map (moved_path from to) (paths_of rows) (from ++ after to q) (among-paths_of rows (from ++ after to q) (shown (after to q) h)))
      | false ↦ λ b h. among-left (paths_of rows) (map (moved_path from to) (paths_of rows)) q (among-paths_of rows q h)
    ] refl some
  where
    shown : (r : Path) → is_some (visible (λ s. at rows (from ++ s)) r) ≡ true → is_some (at rows (from ++ r)) ≡ true
    shown r h = elim (list_any is_hidden r) as (λ b. is_some (cond b None (at rows (from ++ r))) ≡ true → is_some (at rows (from ++ r)) ≡ true) [
      | true ↦ λ k. absurd (cc)
      | false ↦ λ k. k
    ] h

-- the same of a command's answer
abbrev pub Covered : {A : Type 0} → List Path → Result (Plain A) Refusal → Type 0
Covered ps (Ok m) = Covers ps m
Covered ps (Err e) = Unit {0}

unless : {A : Type 0} (ps : List Path) (b : Bool) (e : Refusal) (r : Result (Plain A) Refusal) → Covered ps r → Covered ps (cond b (Err e) r)
unless ps true e r h = tt
unless ps false e r h = h

pub covered-mkdirs : {A : Type 0} (rows : Rows A) (p : Path) → Covered (paths_of rows ++ fronts p) (mkdirs (at rows) p)
covered-mkdirs rows p =
    unless _ (is_file (at rows p)) Exists _ (unless _ (file_above (at rows) p) NotADirectory (Ok (with_dirs p (at rows))) (covers-dirs rows p))

pub covered-create : {A : Type 0} (rows : Rows A) (p : Path) → Covered (paths_of rows ++ fronts p) (create (at rows) p)
covered-create rows p =
    unless _ (is_some (at rows p)) Exists _ (unless _ (file_above (at rows) p) NotADirectory (Ok (with_entry p (File []) (with_dirs p (at rows)))) (covers-entry rows p (File [])))

covered-move_to : {A : Type 0} (deep : Bool) (rows : Rows A) (from to : Path) → Covered (paths_of rows ++ map (moved_path from to) (paths_of rows)) (move_to deep (at rows) from to)
covered-move_to deep rows from to =
    let ps = paths_of rows ++ map (moved_path from to) (paths_of rows) in
    unless ps (same_path to from) Exists _
    (unless ps (begins from to) IntoItself _
    (unless ps (is_some (at rows to)) Exists _
    (unless ps (is_none (at rows (parent to))) NotFound _
    (unless ps (is_file (at rows (parent to))) NotADirectory _
    (unless ps deep BadPath (Ok (moved from to (at rows))) (covers-moved rows from to))))))

pub covered-rename : {A : Type 0} (rows : Rows A) (from to : Path) → Covered (paths_of rows ++ map (moved_path from (target_of (at rows) from to)) (paths_of rows)) (rename (is_too_deep rows from) (at rows) from to)
covered-rename rows from to =
    let target = target_of (at rows) from to in
    let ps = paths_of rows ++ map (moved_path from target) (paths_of rows) in
    unless ps (same_path from []) IsRoot _
    (unless ps (is_none (at rows from)) NotFound (move_to (is_too_deep rows from target) (at rows) from target) (covered-move_to (is_too_deep rows from target) rows from target))

pub covered-hide : {A : Type 0} (rows : Rows A) (p : Path) (moment number : ℕ) → Covered (paths_of rows ++ map (moved_path p (hidden_path p moment number)) (paths_of rows)) (hide (at rows) p moment number)
covered-hide rows p moment number =
    let target = hidden_path p moment number in
    let ps = paths_of rows ++ map (moved_path p target) (paths_of rows) in
    unless ps (same_path p []) IsRoot _
    (unless ps (is_none (at rows p)) NotFound _
    (unless ps (is_some (at rows target)) Exists (Ok (moved p target (at rows))) (covers-moved rows p target)))

pub covered-remove : {A : Type 0} (rows : Rows A) (p : Path) → Covered (paths_of rows) (remove (at rows) p)
covered-remove rows p =
    unless (paths_of rows) (is_none (old_name p)) NotHidden _
    (unless (paths_of rows) (is_none (at rows p)) NotFound (Ok (without p (at rows))) (λ q some. among-paths_of rows q (stays p rows q some)))

pub covered-snapshot : {A : Type 0} (rows : Rows A) (from to : Path) → Covered (paths_of rows ++ map (moved_path from to) (paths_of rows)) (snapshot (is_copied_too_deep rows from) (at rows) from to)
covered-snapshot rows from to =
    let ps = paths_of rows ++ map (moved_path from to) (paths_of rows) in
    unless ps (same_path from []) IsRoot _
    (unless ps (is_none (at rows from)) NotFound _
    (unless ps (same_path to from) Exists _
    (unless ps (begins from to) IntoItself _
    (unless ps (is_some (at rows to)) Exists _
    (unless ps (is_none (at rows (parent to))) NotFound _
    (unless ps (is_file (at rows (parent to))) NotADirectory _
    (unless ps (is_copied_too_deep rows from to) BadPath (Ok (copied from to (at rows))) (covers-copied rows from to))))))))

-- what follows the plain tree's command, as rows
pub applies : {I : Type 0} (edit : Edit) (ps : List Path) (r : Result (Plain ℕ) Refusal) (result : Result I Refusal) (old new : FinMap path_cmp (Entry ℕ)) → edited edit (entries old) ≡ tabled ps r → Covered ps r → FollowsPlain r result (get old) (get new) → AppliesRows edit (entries old) result (entries new)
applies edit ps (Ok m) (Ok i) old new is c h = is ∙ ap Ok (table-entries ps m new c h)
applies edit ps (Err e) (Ok i) old new is c h = absurd h
applies edit ps (Ok m) (Err f) old new is c h = (inr h.0, entries-same new old h.1)
applies edit ps (Err e) (Err f) old new is c (inl same, left) = (inl (is ∙ ap Err (sym same)), entries-same new old left)
applies edit ps (Err e) (Err f) old new is c (inr memory, left) = (inr memory, entries-same new old left)

pub applies-mkdirs : {I : Type 0} (p : Path) (result : Result I Refusal) (old new : FinMap path_cmp (Entry ℕ)) → FollowsPlain (mkdirs (get old) p) result (get old) (get new) → AppliesRows (edits.Mkdirs p) (entries old) result (entries new)
applies-mkdirs p result old new h =
    let rows = entries old in
    applies (edits.Mkdirs p) (paths_of rows ++ fronts p) (mkdirs (at rows) p) result old new refl (covered-mkdirs rows p)
    (subst (λ (m : Plain ℕ). FollowsPlain (mkdirs m p) result (get old) (get new)) (seen old) h)

pub applies-create : {I : Type 0} (p : Path) (result : Result I Refusal) (old new : FinMap path_cmp (Entry ℕ)) → FollowsPlain (create (get old) p) result (get old) (get new) → AppliesRows (edits.Create p) (entries old) result (entries new)
applies-create p result old new h =
    let rows = entries old in
    applies (edits.Create p) (paths_of rows ++ fronts p) (create (at rows) p) result old new refl (covered-create rows p)
    (subst (λ (m : Plain ℕ). FollowsPlain (create m p) result (get old) (get new)) (seen old) h)

pub applies-rename : {I : Type 0} (from to : Path) (result : Result I Refusal) (old new : FinMap path_cmp (Entry ℕ)) → FollowsPlain (rename (is_too_deep (entries old) from) (get old) from to) result (get old) (get new) → AppliesRows (edits.Rename from to) (entries old) result (entries new)
applies-rename from to result old new h =
    let rows = entries old in
    applies (edits.Rename from to) (paths_of rows ++ map (moved_path from (target_of (at rows) from to)) (paths_of rows)) (rename (is_too_deep rows from) (at rows) from to) result old new refl (covered-rename rows from to)
    (subst (λ (m : Plain ℕ). FollowsPlain (rename (is_too_deep rows from) m from to) result (get old) (get new)) (seen old) h)

pub applies-hide : {I : Type 0} (p : Path) (moment : Moment) (number : ℕ) (result : Result I Refusal) (old new : FinMap path_cmp (Entry ℕ)) → FollowsPlain (hide (get old) p moment.0 number) result (get old) (get new) → AppliesRows (edits.Hide p moment number) (entries old) result (entries new)
applies-hide p moment number result old new h =
    let rows = entries old in
    applies (edits.Hide p moment number) (paths_of rows ++ map (moved_path p (hidden_path p moment.0 number)) (paths_of rows)) (hide (at rows) p moment.0 number) result old new refl (covered-hide rows p moment.0 number)
    (subst (λ (m : Plain ℕ). FollowsPlain (hide m p moment.0 number) result (get old) (get new)) (seen old) h)

covers-chunks : {A : Type 0} (rows : Rows A) (p : Path) (chunks : List A) → is_some (at rows p) ≡ true → Covers (paths_of rows) (with_chunks p chunks (at rows))
covers-chunks rows p chunks stands q some =
    elim (same_path p q) as (λ b. same_path p q ≡ b → is_some (cond b (Some (File chunks)) (at rows q)) ≡ true → among (paths_of rows) q ≡ true) [
      | true ↦ λ b h. ap (among (paths_of rows)) (sym (same_path-is p q b)) ∙ among-paths_of rows p stands
      | false ↦ λ b h. among-paths_of rows q h
    ] refl some

pub covered-add : {A : Type 0} (rows : Rows A) (p : Path) (chunk : A) → Covered (paths_of rows) (add_chunk (at rows) p chunk)
covered-add {A = A} rows p chunk = each (at rows p) refl
  where
    each : (v : Option (Entry A)) → at rows p ≡ v → Covered (paths_of rows) (cond (is_none v) (Err NotFound) (cond (is_dir v) (Err IsADirectory) (Ok (with_chunks p (chunks_in v ++ chunk ∷ []) (at rows)))))
    each None e = tt
    each (Some Dir) e = tt
    each (Some (File cs)) e = covers-chunks rows p (cs ++ chunk ∷ []) (ap is_some e)

pub covered-set : {A : Type 0} (rows : Rows A) (p : Path) (index : ℕ) (chunk : A) → Covered (paths_of rows) (set_chunk (at rows) p index chunk)
covered-set {A = A} rows p index chunk = each (at rows p) refl
  where
    each : (v : Option (Entry A)) → at rows p ≡ v → Covered (paths_of rows) (cond (is_none v) (Err NotFound) (cond (is_dir v) (Err IsADirectory) (cond (not (nat_lt index (length (chunks_in v)))) (Err Range) (Ok (with_chunks p (set (chunks_in v) index chunk) (at rows))))))
    each None e = tt
    each (Some Dir) e = tt
    each (Some (File cs)) e = unless (paths_of rows) (not (nat_lt index (length cs))) Range (Ok (with_chunks p (set cs index chunk) (at rows))) (covers-chunks rows p (set cs index chunk) (ap is_some e))

pub covered-unhide : {A : Type 0} (rows : Rows A) (p : Path) (name : Option Name) → Covered (paths_of rows ++ map (moved_path p (unhide_target p name)) (paths_of rows)) (unhidden (at rows) p name)
covered-unhide rows p None = tt
covered-unhide rows p (Some name) =
    let target = beside p name in
    let ps = paths_of rows ++ map (moved_path p target) (paths_of rows) in
    unless ps (is_none (at rows p)) NotFound _
    (unless ps (is_some (at rows target)) Exists (Ok (moved p target (at rows))) (covers-moved rows p target))

pub applies-unhide : {I : Type 0} (p : Path) (result : Result I Refusal) (old new : FinMap path_cmp (Entry ℕ)) → FollowsPlain (unhide (get old) p) result (get old) (get new) → AppliesRows (edits.Unhide p) (entries old) result (entries new)
applies-unhide p result old new h =
    let rows = entries old in
    applies (edits.Unhide p) (paths_of rows ++ map (moved_path p (unhide_target p (old_name p))) (paths_of rows)) (unhide (at rows) p) result old new refl (covered-unhide rows p (old_name p))
    (subst (λ (m : Plain ℕ). FollowsPlain (unhide m p) result (get old) (get new)) (seen old) h)

-- the edit's rows, for a chunk that is added or changed
pub applies-add : {I : Type 0} (p : Path) (chunk : ℕ) (result : Result I Refusal) (old new : FinMap path_cmp (Entry ℕ)) → FollowsPlain (add_chunk (get old) p chunk) result (get old) (get new) → AppliesRows (edits.AddChunk p chunk) (entries old) result (entries new)
applies-add p chunk result old new h =
    let rows = entries old in
    applies (edits.AddChunk p chunk) (paths_of rows) (add_chunk (at rows) p chunk) result old new refl (covered-add rows p chunk)
    (subst (λ (m : Plain ℕ). FollowsPlain (add_chunk m p chunk) result (get old) (get new)) (seen old) h)

pub applies-set : {I : Type 0} (p : Path) (index before chunk : ℕ) (result : Result I Refusal) (old new : FinMap path_cmp (Entry ℕ)) → FollowsPlain (set_chunk (get old) p index chunk) result (get old) (get new) → AppliesRows (edits.Cow p index before chunk) (entries old) result (entries new)
applies-set p index before chunk result old new h =
    let rows = entries old in
    applies (edits.Cow p index before chunk) (paths_of rows) (set_chunk (at rows) p index chunk) result old new refl (covered-set rows p index chunk)
    (subst (λ (m : Plain ℕ). FollowsPlain (set_chunk m p index chunk) result (get old) (get new)) (seen old) h)

pub applies-remove : {I : Type 0} (p : Path) (result : Result I Refusal) (old new : FinMap path_cmp (Entry ℕ)) → FollowsPlain (remove (get old) p) result (get old) (get new) → AppliesRows (edits.Remove p) (entries old) result (entries new)
applies-remove p result old new h =
    let rows = entries old in
    applies (edits.Remove p) (paths_of rows) (remove (at rows) p) result old new refl (covered-remove rows p)
    (subst (λ (m : Plain ℕ). FollowsPlain (remove m p) result (get old) (get new)) (seen old) h)

pub applies-snapshot : {I : Type 0} (from to : Path) (result : Result I Refusal) (old new : FinMap path_cmp (Entry ℕ)) → FollowsPlain (snapshot (is_copied_too_deep (entries old) from) (get old) from to) result (get old) (get new) → AppliesRows (edits.Snapshot from to) (entries old) result (entries new)
applies-snapshot from to result old new h =
    let rows = entries old in
    applies (edits.Snapshot from to) (paths_of rows ++ map (moved_path from to) (paths_of rows)) (snapshot (is_copied_too_deep rows from) (at rows) from to) result old new refl (covered-snapshot rows from to)
    (subst (λ (m : Plain ℕ). FollowsPlain (snapshot (is_copied_too_deep rows from) m from to) result (get old) (get new)) (seen old) h)
