-- Each call that waits has the locks of its file, and of two that have the same file none writes it, through each move.
use Rattle.std.proofs.Common.{◌≡◌, ◌∙◌, ◌+◌, ◌⊎◌, inl, inr, ◌||◌, ◌++◌, ℕ, Bool, true, false, not, cond, List, [], ◌∷◌, refl, ap, sym, subst}
use Rattle.std.specs.Prelude.{Option, None, Some, if◌then◌else◌}
use Rattle.std.specs.List.{list_all}
use Rattle.std.proofs.lemmas.Bool.{and_parts, false≢true, true≢false}
use Rattle.gs_base.specs.declared.config.Config.{Config}
use Rattle.gs_base.specs.declared.numbers.ReqId.{ReqId}
use Rattle.gs_lock.specs.Locks.{stands_in_the_way}
use Rattle.gs_lock.specs.Operations.{same_op}
use Rattle.gs_msg.specs.declared.answer.Answer.TheVariants as answers
use Rattle.gs_path.specs.Path.{Path}
use Rattle.gs_edit.proofs.Removals.{begins-itself}
use Rattle.gs_edit.proofs.Tables.{same_path-is}
use Rattle.gs_tree.specs.Edits.{same_path}
use Rattle.gs_master_spec.specs.State.{State, answer_changes, end_changes, keeps_refusal, said_changes}
use Rattle.gs_master_spec.specs.Volatile.{Volatile, all_changed, changed, is_pending}
use Rattle.gs_master_spec.specs.declared.change.Change.{Change}
use Rattle.gs_master_spec.specs.declared.change.Change.TheVariants as changes
use Rattle.gs_master_spec.specs.declared.pending.Pending.{Pending}
use Rattle.gs_master_spec.specs.declared.pending.Waiting.{Waiting}
use Rattle.gs_master_spec.specs.declared.pending.Waiting.TheVariants as waits
use Rattle.gs_laws_master.proofs.lemmas.standing.Standing.{same_call, set_so, set_waiting}
use Rattle.gs_laws_moves.proofs.lemmas.moves.Free.{first_free}
use Rattle.gs_laws_moves.specs.moves.ForCalls.{IsBegunFor, IsFor, IsFurtherFor, IsTreeFor}
use Rattle.gs_laws_moves.specs.moves.Guards.{Heard, IsBegunBy, IsCopyFromNow, IsCopyFurther, IsFree, IsMade, waits_for_copy, waits_to_copy}
use Rattle.gs_laws_moves.specs.moves.Moves.{Alone, FromNow, Further, Move, Begins, Makes, Copies, Hears, Sends, Settles, Edits, Extends, CopiesTree, Replaces, Scans, Refuses, Answers as AnswersCall, Waits, Restores, Says, Flags, Prepares, Finalizes, BeginsRollback, TellsRollback, CommitsRollback, Checkpoints, move_turn}
use Rattle.gs_laws_lift.proofs.lemmas.copies.Held.{is_that}
use Rattle.gs_laws_lift.proofs.lemmas.copies.Locked.{in_fewer, move_locked, one_so, other_op}
use Rattle.gs_laws_lift.proofs.lemmas.copies.Waiting.{answer_begins, begins_none, both_all, refused_begins}
use Rattle.gs_laws_lift.specs.copies.Held.{AreLocked, IsIn, place_path}
use Rattle.gs_laws_lift.proofs.lemmas.calls.Locks.{keeps_reads, keeps_writes, locked_less, locked_more, locked_still, read_now, written_now}
use Rattle.gs_laws_lift.specs.calls.Waits.{HoldLocks, IsLockedAs, file_of, writes_it}

-- ---- who holds a place to copy

of_place : (w : Waiting) (path : Path) → place_path w ≡ Some path → (file_of w ≡ Some path) × (writes_it w ≡ true)
of_place (waits.Quiet at index quiet) path is = (is, refl)
of_place (waits.Copy at index old new) path is = (is, refl)
of_place (waits.Extend at new) path is = absurd (cc)
of_place (waits.Lease at index chunk) path is = absurd (cc)
of_place (waits.Snapshot from to) path is = absurd (cc)
of_place (waits.Replicate chunk target) path is = absurd (cc)

pub locked_places : (v : Volatile) → HoldLocks v → AreLocked v
locked_places v k = record {
  locked = λ p here path place. (let is = of_place p.waits path place in let one = subst (λ w. IsLockedAs w v.locks p.req path) is.1 (k.locked p here path is.0) in record { each = λ touched begun. (let l = one.each touched begun in (l.0, l.1, λ same. l.2 same refl)) });
  alone = λ p q hp hq path pp pq. (let a = of_place p.waits path pp in let b = of_place q.waits path pq in k.alone p q hp hq path a.0 b.0 (ap (λ w. w || writes_it q.waits) a.1));
  apart = k.apart;
}

-- ---- lists

in_both : (a : Pending) (xs ys : List Pending) → IsIn a (xs ++ ys) → IsIn a xs ⊎ IsIn a ys
in_both a [] ys h = inr h
in_both a (x ∷ xs) ys (inl is) = inl (inl is)
in_both a (x ∷ xs) ys (inr rest) = by_rest (in_both a xs ys rest)
  where
    by_rest : IsIn a xs ⊎ IsIn a ys → IsIn a (x ∷ xs) ⊎ IsIn a ys
    by_rest (inl here) = inl (inr here)
    by_rest (inr there) = inr there

in_set : (a : Pending) (ps : List Pending) (req : ReqId) (waiting : Waiting) → IsIn a (set_waiting ps req waiting) → (record { req = req; waits = waiting } ≡ a) ⊎ IsIn a ps
in_set a [] req waiting h = absurd h
in_set a (p ∷ ps) req waiting h = by_test (same_call p.req req) h (in_set a ps req waiting)
  where
    by_test : (b : Bool) → IsIn a (cond b ((record { req = req; waits = waiting }) ∷ ps) (p ∷ set_waiting ps req waiting)) → (IsIn a (set_waiting ps req waiting) → (record { req = req; waits = waiting } ≡ a) ⊎ IsIn a ps) → (record { req = req; waits = waiting } ≡ a) ⊎ IsIn a (p ∷ ps)
    by_test true (inl same) rest = inl same
    by_test true (inr here) rest = inr (inr here)
    by_test false (inl same) rest = inr (inl same)
    by_test false (inr here) rest = by_rest (rest here)
      where
        by_rest : (record { req = req; waits = waiting } ≡ a) ⊎ IsIn a ps → (record { req = req; waits = waiting } ≡ a) ⊎ IsIn a (p ∷ ps)
        by_rest (inl same) = inl same
        by_rest (inr there) = inr (inr there)

path_is : {a b : Path} → Some a ≡ Some b → a ≡ b
path_is h = cc

free_of_it : (a : Bool) → a ≡ true → a ≡ false → ⊥
free_of_it a is none = true≢false (sym is ∙ none)

not_true : (b : Bool) → not b ≡ true → b ≡ false
not_true true h = absurd (false≢true h)
not_true false h = refl

either : (a b : Bool) → (a || b) ≡ true → (a ≡ true) ⊎ (b ≡ true)
either true b h = inl refl
either false b h = inr h

-- ---- changes

-- the locks of calls that wait; that they stay apart is told beside
record Keep (v : Volatile) : Type 0 where
  locked : (p : Pending) → IsIn p v.pending → (path : Path) → file_of p.waits ≡ Some path → IsLockedAs (writes_it p.waits) v.locks p.req path
  alone : (p q : Pending) → IsIn p v.pending → IsIn q v.pending → (path : Path) → file_of p.waits ≡ Some path → file_of q.waits ≡ Some path → (writes_it p.waits || writes_it q.waits) ≡ true → p.req ≡ q.req

-- the file of a call is free for it
pub record IsOpen (v : Volatile) (p : Pending) : Type 0 where
  pub reads : (path : Path) → file_of p.waits ≡ Some path → (others : List Path) × (stands_in_the_way v.locks p.req (path ∷ []) others ≡ false)
  pub writes : (path : Path) → file_of p.waits ≡ Some path → writes_it p.waits ≡ true → stands_in_the_way v.locks p.req [] (path ∷ []) ≡ false

-- a call waits from now on, whose file is free
begin_kept : (v : Volatile) (p : Pending) → is_pending v.pending p.req ≡ false → IsOpen v p → Keep v → Keep (changed v (changes.Begin p))
begin_kept v p new open_so k = record { locked = λ a here path file. locked_by a path (in_both a v.pending (p ∷ []) here) file; alone = λ a b ha hb path fa fb. alone_by a b path (in_both a v.pending (p ∷ []) ha) (in_both b v.pending (p ∷ []) hb) fa fb }
  where
    now : (w : Waiting) (path : Path) → file_of w ≡ Some path → IsLockedAs (writes_it w) (changed v (changes.Begin (record { req = p.req; waits = w }))).locks p.req path
    now (waits.Quiet at index quiet) path file = subst (IsLockedAs true (changed v (changes.Begin (record { req = p.req; waits = waits.Quiet at index quiet }))).locks p.req) (path_is file) (written_now v.locks p.req at)
    now (waits.Copy at index old made) path file = subst (IsLockedAs true (changed v (changes.Begin (record { req = p.req; waits = waits.Copy at index old made }))).locks p.req) (path_is file) (written_now v.locks p.req at)
    now (waits.Extend at made) path file = subst (IsLockedAs true (changed v (changes.Begin (record { req = p.req; waits = waits.Extend at made }))).locks p.req) (path_is file) (written_now v.locks p.req at)
    now (waits.Lease at index chunk) path file = subst (IsLockedAs false (changed v (changes.Begin (record { req = p.req; waits = waits.Lease at index chunk }))).locks p.req) (path_is file) (read_now v.locks p.req at)
    now (waits.Snapshot from to) path file = absurd (cc)
    now (waits.Replicate chunk target) path file = absurd (cc)

    locked_by : (a : Pending) (path : Path) → IsIn a v.pending ⊎ IsIn a (p ∷ []) → file_of a.waits ≡ Some path → IsLockedAs (writes_it a.waits) (changed v (changes.Begin p)).locks a.req path
    locked_by a path (inl here) file = locked_more (writes_it a.waits) v.locks _ a.req path (k.locked a here path file)
    locked_by a path (inr (inl same)) file = subst (λ (z : Pending). file_of z.waits ≡ Some path → IsLockedAs (writes_it z.waits) (changed v (changes.Begin p)).locks z.req path) same (now p.waits path) file
    locked_by a path (inr (inr none)) file = absurd none

    clash : (a : Pending) (path : Path) → IsIn a v.pending → file_of a.waits ≡ Some path → file_of p.waits ≡ Some path → (writes_it a.waits ≡ true) ⊎ (writes_it p.waits ≡ true) → ⊥
    clash a path here file mine (inl write) =
        (let free = open_so.reads path mine in free_of_it _ (keeps_reads v.locks a.req p.req path free.0 (subst (λ w. IsLockedAs w v.locks a.req path) write (k.locked a here path file)) (other_op v.pending p.req a new here)) free.1)
    clash a path here file mine (inr write) =
        free_of_it _ (keeps_writes (writes_it a.waits) v.locks a.req p.req path path (k.locked a here path file) (begins-itself path) (other_op v.pending p.req a new here)) (open_so.writes path mine write)

    turned : (x y : Bool) → (x ≡ true) ⊎ (y ≡ true) → (y ≡ true) ⊎ (x ≡ true)
    turned x y (inl a) = inr a
    turned x y (inr b) = inl b

    alone_by : (a b : Pending) (path : Path) → IsIn a v.pending ⊎ IsIn a (p ∷ []) → IsIn b v.pending ⊎ IsIn b (p ∷ []) → file_of a.waits ≡ Some path → file_of b.waits ≡ Some path → (writes_it a.waits || writes_it b.waits) ≡ true → a.req ≡ b.req
    alone_by a b path (inl ha) (inl hb) fa fb write = k.alone a b ha hb path fa fb write
    alone_by a b path (inl ha) (inr (inl is)) fa fb write =
        absurd (clash a path ha fa (ap (λ (z : Pending). file_of z.waits) is ∙ fb) (either (writes_it a.waits) (writes_it p.waits) (ap (λ (z : Pending). writes_it a.waits || writes_it z.waits) is ∙ write)))
    alone_by a b path (inr (inl is)) (inl hb) fa fb write =
        absurd (clash b path hb fb (ap (λ (z : Pending). file_of z.waits) is ∙ fa) (turned (writes_it p.waits) (writes_it b.waits) (either (writes_it p.waits) (writes_it b.waits) (ap (λ (z : Pending). writes_it z.waits || writes_it b.waits) is ∙ write))))
    alone_by a b path (inr (inl is)) (inr (inl it)) fa fb write = ap (λ (z : Pending). z.req) (sym is ∙ it)
    alone_by a b path (inr (inr none)) hb fa fb write = absurd none
    alone_by a b path ha (inr (inr none)) fa fb write = absurd none

-- one that has waited waits for something else, at the file that it has
wait_kept : (v : Volatile) (req : ReqId) (waiting : Waiting) → ((path : Path) → file_of waiting ≡ Some path → (e : Pending) × IsIn e v.pending × (e.req ≡ req) × (file_of e.waits ≡ Some path) × (writes_it e.waits ≡ true)) → Keep v → Keep (changed v (changes.Wait req waiting))
wait_kept v req waiting held k =
    record { locked = λ a here path file. locked_by a path (was a here) file; alone = λ a b ha hb path fa fb. alone_by a b path (was a ha) (was b hb) fa fb }
  where
    was : (a : Pending) → IsIn a (changed v (changes.Wait req waiting)).pending → (record { req = req; waits = waiting } ≡ a) ⊎ IsIn a v.pending
    was a here = in_set a v.pending req waiting (subst (IsIn a) (set_so v.pending req waiting) here)

    locked_by : (a : Pending) (path : Path) → (record { req = req; waits = waiting } ≡ a) ⊎ IsIn a v.pending → file_of a.waits ≡ Some path → IsLockedAs (writes_it a.waits) v.locks a.req path
    locked_by a path (inr here) file = k.locked a here path file
    locked_by a path (inl is) file =
        let e = held path (ap (λ (z : Pending). file_of z.waits) is ∙ file) in
        subst (λ r. IsLockedAs (writes_it a.waits) v.locks r path) (e.2 ∙ ap (λ (z : Pending). z.req) is) (locked_less (writes_it e.0.waits) (writes_it a.waits) v.locks e.0.req path (λ _. e.4) (k.locked e.0 e.1 path e.3))

    alone_by : (a b : Pending) (path : Path) → (record { req = req; waits = waiting } ≡ a) ⊎ IsIn a v.pending → (record { req = req; waits = waiting } ≡ b) ⊎ IsIn b v.pending → file_of a.waits ≡ Some path → file_of b.waits ≡ Some path → (writes_it a.waits || writes_it b.waits) ≡ true → a.req ≡ b.req
    alone_by a b path (inr ha) (inr hb) fa fb write = k.alone a b ha hb path fa fb write
    alone_by a b path (inl is) (inr hb) fa fb write =
        (let e = held path (ap (λ (z : Pending). file_of z.waits) is ∙ fa) in sym (ap (λ (z : Pending). z.req) is) ∙ sym e.2 ∙ k.alone e.0 b e.1 hb path e.3 fb (ap (λ w. w || writes_it b.waits) e.4))
    alone_by a b path (inr ha) (inl is) fa fb write =
        (let e = held path (ap (λ (z : Pending). file_of z.waits) is ∙ fb) in k.alone a e.0 ha e.1 path fa e.3 (second (writes_it a.waits) (writes_it e.0.waits) e.4) ∙ e.2 ∙ ap (λ (z : Pending). z.req) is)
      where
        second : (x y : Bool) → y ≡ true → (x || y) ≡ true
        second true y h = refl
        second false y h = h
    alone_by a b path (inl is) (inl it) fa fb write = ap (λ (z : Pending). z.req) (sym is ∙ it)

change_kept : (v : Volatile) (change : Change) → begins_none change ≡ true → Keep v → Keep (changed v change)
change_kept v (changes.Begin p) none k = absurd (false≢true none)
change_kept v (changes.Wait req waiting) none k = absurd (false≢true none)
change_kept v (changes.End req) none k = record {
  locked = λ a here path file. (let was = in_fewer (λ (p : Pending). not (same_op req p.req)) a v.pending here in locked_still (writes_it a.waits) v.locks req a.req path (not_true (same_op req a.req) was.1) (k.locked a was.0 path file));
  alone = λ a b ha hb path fa fb write. k.alone a b (in_fewer (λ (p : Pending). not (same_op req p.req)) a v.pending ha).0 (in_fewer (λ (p : Pending). not (same_op req p.req)) b v.pending hb).0 path fa fb write;
}
change_kept v (changes.Keep client reply) none k = record { locked = k.locked; alone = k.alone }
change_kept v (changes.Ask q asking) none k = record { locked = k.locked; alone = k.alone }
change_kept v (changes.Settled q) none k = record { locked = k.locked; alone = k.alone }
change_kept v (changes.Enter q) none k = record { locked = k.locked; alone = k.alone }
change_kept v (changes.Place q) none k = record { locked = k.locked; alone = k.alone }
change_kept v (changes.Lose q) none k = record { locked = k.locked; alone = k.alone }
change_kept v (changes.Forget chunks) none k = record { locked = k.locked; alone = k.alone }
change_kept v (changes.Prepare is_preparing) none k = record { locked = k.locked; alone = k.alone }
change_kept v (changes.Restored server chunks) none k = record { locked = k.locked; alone = k.alone }
change_kept v changes.RolledBack none k = record { locked = k.locked; alone = k.alone }

changes_kept : (cs : List Change) (v : Volatile) → list_all begins_none cs ≡ true → Keep v → Keep (all_changed v cs)
changes_kept [] v none k = k
changes_kept (c ∷ cs) v none k = (let parts = and_parts (begins_none c) (list_all begins_none cs) none in changes_kept cs (changed v c) parts.1 (change_kept v c parts.0 k))

-- the same calls with the same locks
alike : (v w : Volatile) → w.pending ≡ v.pending → w.locks ≡ v.locks → Keep v → Keep w
alike v w pending locks k = record {
  locked = λ a here path file. subst (λ ls. IsLockedAs (writes_it a.waits) ls a.req path) (sym locks) (k.locked a (subst (IsIn a) pending here) path file);
  alone = λ a b ha hb path fa fb write. k.alone a b (subst (IsIn a) pending ha) (subst (IsIn b) pending hb) path fa fb write;
}

-- ---- a move

module _ (config : Config) (heard : Heard) (s : State) where
  -- who takes a file for itself
  takes_open : (req : ReqId) (w : Waiting) (at : Path) → IsFree s req (at ∷ []) (at ∷ []) → file_of w ≡ Some at → IsOpen s.volatile (record { req = req; waits = w })
  takes_open req w at free is = record {
    reads = λ path file. (at ∷ [], subst (λ p. stands_in_the_way s.volatile.locks req (p ∷ []) (at ∷ []) ≡ false) (path_is (sym is ∙ file)) free.free);
    writes = λ path file write. subst (λ p. stands_in_the_way s.volatile.locks req [] (p ∷ []) ≡ false) (path_is (sym is ∙ file)) (first_free s req at (at ∷ []) [] free).free;
  }

  begun_open : (req : ReqId) (q : ℕ) (w : Waiting) → IsBegunBy s req q w → IsBegunFor heard s req q w → IsOpen s.volatile (record { req = req; waits = w })
  begun_open req q (waits.Quiet at index quiet) by for = takes_open req (waits.Quiet at index quiet) at by.1.free refl
  begun_open req q (waits.Lease at index chunk) by for = record {
    reads = λ path file. ([], subst (λ p. stands_in_the_way s.volatile.locks req (p ∷ []) [] ≡ false) (path_is file) for.2.free);
    writes = λ path file write. absurd (false≢true write);
  }
  begun_open req q (waits.Replicate chunk target) by for = record { reads = λ path file. absurd (none_some path file); writes = λ path file write. absurd (false≢true write) }
    where
      none_some : (path : Path) → ◌≡◌ {A = Option Path} None (Some path) → ⊥
      none_some path h = absurd (cc)
  begun_open req q (waits.Extend at new) by for = absurd by
  begun_open req q (waits.Copy at index old new) by for = absurd by
  begun_open req q (waits.Snapshot from to) by for = absurd for

  copied_open : (req : ReqId) (old : ℕ) (w : Waiting) → IsCopyFromNow s req old w → (is_pending s.volatile.pending req ≡ false) × IsOpen s.volatile (record { req = req; waits = w })
  copied_open req old (waits.Copy at index source new) is = (is.2.free.new, takes_open req (waits.Copy at index source new) at is.2.free refl)
  copied_open req old w is = absurd is

  tree_open : (req : ReqId) (w : Waiting) → IsTreeFor heard s req w → IsOpen s.volatile (record { req = req; waits = w })
  tree_open req (waits.Snapshot from to) for = record { reads = λ path file. absurd (none_some path file); writes = λ path file write. absurd (false≢true write) }
    where
      none_some : (path : Path) → ◌≡◌ {A = Option Path} None (Some path) → ⊥
      none_some path h = absurd (cc)
  tree_open req w for = absurd for

  -- one that waits for a copy of the chunk at a place, or to copy it, has the file of that
  further_held : (req : ReqId) (q : ℕ) (w : Waiting) → IsFurtherFor s req q w → (path : Path) → file_of w ≡ Some path → (e : Pending) × IsIn e s.volatile.pending × (e.req ≡ req) × (file_of e.waits ≡ Some path) × (writes_it e.waits ≡ true)
  further_held req q (waits.Lease at index leased) is path file =
      let e = one_so req (waits_for_copy at index is.1.0 q) s.volatile.pending is.1.1 in
      let that = is_that at index is.1.0 q e.0.waits e.3 in
      (e.0, e.1, e.2, ap file_of that ∙ file, ap writes_it that)
  further_held req q w is path file = absurd is

  copy_held : (req : ReqId) (old : ℕ) (w : Waiting) → IsCopyFurther s req old w → (path : Path) → file_of w ≡ Some path → (e : Pending) × IsIn e s.volatile.pending × (e.req ≡ req) × (file_of e.waits ≡ Some path) × (writes_it e.waits ≡ true)
  copy_held req old (waits.Copy at index source new) is path file = (let e = one_so req (waits_to_copy at index old) s.volatile.pending is.2 in let w = by_waiting e.0.waits e.3 in (e.0, e.1, e.2, w.0, w.1))
    where
      by_waiting : (w : Waiting) → waits_to_copy at index old w ≡ true → (file_of w ≡ Some path) × (writes_it w ≡ true)
      by_waiting (waits.Quiet p i quiet) so = (ap Some (same_path-is p at (and_parts (same_path p at) _ so).0) ∙ file, refl)
      by_waiting w so = absurd (false≢true so)
  copy_held req old w is path file = absurd is

  move_keeps : (move : Move) → IsMade config heard s move → IsFor heard s move → Keep s.volatile → Keep (move_turn config s move).after.volatile
  move_keeps (Begins q purpose call Alone) made for k = alike s.volatile _ refl refl k
  move_keeps (Begins q purpose call (FromNow req waiting)) made for k =
      alike (changed s.volatile (changes.Begin (record { req = req; waits = waiting }))) _ refl refl (begin_kept s.volatile (record { req = req; waits = waiting }) made.may.begun.0 (begun_open req q waiting made.may.begun.1 for) k)
  move_keeps (Begins q purpose call (Further req waiting)) made for k = alike (changed s.volatile (changes.Wait req waiting)) _ refl refl (wait_kept s.volatile req waiting (further_held req q waiting for) k)
  move_keeps (Makes targets req path) made for k =
      alike (changed s.volatile (changes.Begin (record { req = req; waits = waits.Extend path s.durable.next_handle }))) _ refl refl
      (begin_kept s.volatile (record { req = req; waits = waits.Extend path s.durable.next_handle }) made.may.2 (takes_open req (waits.Extend path s.durable.next_handle) path for.free refl) k)
  move_keeps (Copies old at req Alone) made for k = absurd made.may.2
  move_keeps (Copies old at req (FromNow by waiting)) made for k =
      (let free = copied_open by old waiting made.may.2 in alike (changed s.volatile (changes.Begin (record { req = by; waits = waiting }))) _ refl refl (begin_kept s.volatile (record { req = by; waits = waiting }) free.0 free.1 k))
  move_keeps (Copies old at req (Further by waiting)) made for k = alike (changed s.volatile (changes.Wait by waiting)) _ refl refl (wait_kept s.volatile by waiting (copy_held by old waiting made.may.2) k)
  move_keeps (Hears q asking) made for k = alike s.volatile _ refl refl k
  move_keeps (Sends q asking source target) made for k = alike s.volatile _ refl refl k
  move_keeps (Settles q asking carried at) made for k = alike s.volatile _ refl refl k
  move_keeps (Edits req edit answer) made for k = k
  move_keeps (Extends req path new at) made for k = alike (changed s.volatile (changes.End req)) _ refl refl (change_kept s.volatile (changes.End req) refl k)
  move_keeps (CopiesTree req from to) made for k = change_kept s.volatile (changes.End req) refl k
  move_keeps (Replaces path index old new) made for k = alike s.volatile _ refl refl k
  move_keeps (Scans removed forgotten) made for k = alike s.volatile _ refl refl k
  move_keeps (Refuses req refusal over) made for k = changes_kept (said_changes (keeps_refusal s req refusal) s.log req refusal ++ (if over then end_changes s req else [])) s.volatile (refused_begins s req refusal over) k
  move_keeps (AnswersCall req answer true) made for k = changes_kept (answer_changes s req answer ++ changes.End req ∷ []) s.volatile (both_all (answer_changes s req answer) (changes.End req ∷ []) (answer_begins s req answer) refl) k
  move_keeps (AnswersCall req answer false) made for k = changes_kept (answer_changes s req answer) s.volatile (answer_begins s req answer) k
  move_keeps (Waits req waiting) made for k = begin_kept s.volatile (record { req = req; waits = waiting }) made.may.2 (tree_open req waiting for) k
  move_keeps (Restores server chunks) made for k = alike s.volatile _ refl refl k
  move_keeps (Says messages) made for k = k
  move_keeps (Flags req preparing now) made for k = changes_kept (answer_changes s req (answers.Epoch now)) (changed s.volatile (changes.Prepare preparing)) (answer_begins s req (answers.Epoch now)) (change_kept s.volatile (changes.Prepare preparing) refl k)
  move_keeps (Prepares req moment) made for k = changes_kept (answer_changes s req (answers.Epoch (s.durable.epoch + 1))) (changed s.volatile (changes.Prepare false)) (answer_begins s req (answers.Epoch (s.durable.epoch + 1))) (change_kept s.volatile (changes.Prepare false) refl k)
  move_keeps (Finalizes req) made for k = changes_kept (answer_changes s req (answers.Epoch (s.durable.epoch + 1))) s.volatile (answer_begins s req (answers.Epoch (s.durable.epoch + 1))) k
  move_keeps BeginsRollback made for k = k
  move_keeps (TellsRollback req now) made for k = changes_kept (answer_changes s req (answers.Epoch now)) s.volatile (answer_begins s req (answers.Epoch now)) k
  move_keeps (CommitsRollback req names) made for k = changes_kept (answer_changes s req (answers.Epoch s.durable.epoch)) (changed s.volatile changes.RolledBack) (answer_begins s req (answers.Epoch s.durable.epoch)) (change_kept s.volatile changes.RolledBack refl k)
  move_keeps Checkpoints made for k = alike s.volatile _ refl refl k

  pub move_kept : (move : Move) → IsMade config heard s move → IsFor heard s move → HoldLocks s.volatile → HoldLocks (move_turn config s move).after.volatile
  move_kept move made for k =
      let kept = move_keeps move made for (record { locked = k.locked; alone = k.alone }) in
      record { locked = kept.locked; alone = kept.alone; apart = (move_locked config heard s (locked_places s.volatile k) move made).apart }
