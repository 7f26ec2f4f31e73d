-- Each call that holds a place has its locks, and no other holds a place of that file, through each move.
use Rattle.std.proofs.Common.{◌≡◌, ◌∙◌, ◌+◌, ◌⊎◌, inl, inr, ◌&&◌, ◌||◌, ◌++◌, ℕ, Bool, true, false, not, cond, List, [], ◌∷◌, filter, refl, ap, sym, subst}
use Rattle.std.specs.Prelude.{Some, if◌then◌else◌}
use Rattle.std.specs.List.{list_all}
use Rattle.std.proofs.lemmas.Bool.{and_parts, false≢true, true≢false}
use Rattle.gs_base.specs.declared.config.Config.{Config}
use Rattle.gs_base.specs.declared.numbers.ReqId.{ReqId}
use Rattle.gs_lock.specs.Locks.{stands_in_the_way}
use Rattle.gs_lock.specs.Operations.{same_op}
use Rattle.gs_msg.specs.declared.answer.Answer.TheVariants as answers
use Rattle.gs_path.specs.Path.{Path}
use Rattle.gs_master_spec.specs.State.{State, answer_changes, end_changes, keeps_refusal, said_changes}
use Rattle.gs_master_spec.specs.Volatile.{Volatile, all_changed, changed, is_pending}
use Rattle.gs_master_spec.specs.declared.change.Change.{Change}
use Rattle.gs_master_spec.specs.declared.change.Change.TheVariants as changes
use Rattle.gs_master_spec.specs.declared.pending.Pending.{Pending}
use Rattle.gs_master_spec.specs.declared.pending.Waiting.{Waiting}
use Rattle.gs_master_spec.specs.declared.pending.Waiting.TheVariants as waits
use Rattle.gs_master_state.specs.Sane.{are_apart, is_waited_by}
use Rattle.gs_laws_master.proofs.lemmas.standing.Standing.{apart_parts, same_back, same_call, same_parts, same_self, set_pending, set_so, set_waiting}
use Rattle.gs_laws_moves.specs.moves.Guards.{Heard, IsBegunBy, IsCopyFromNow, IsCopyFurther, IsMade, is_lease_wait, is_tree_wait, waits_to_copy}
use Rattle.gs_laws_moves.specs.moves.Moves.{Alone, FromNow, Further, Move, Begins, Makes, Copies, Hears, Sends, Settles, Edits, Extends, CopiesTree, Replaces, Scans, Refuses, Answers as AnswersCall, Waits, Restores, Says, Flags, Prepares, Finalizes, BeginsRollback, TellsRollback, CommitsRollback, Checkpoints, move_turn}
use Rattle.gs_edit.proofs.Tables.{same_path-is}
use Rattle.gs_tree.specs.Edits.{same_path}
use Rattle.gs_laws_lift.specs.copies.Held.{AreLocked, IsIn, IsLocked, place_path}
use Rattle.gs_laws_lift.proofs.lemmas.copies.Locks.{locked_more, locked_now, locked_reads, locked_still}
use Rattle.gs_laws_lift.proofs.lemmas.copies.Waiting.{answer_begins, begins_none, both_all, refused_begins}

-- ---- lists

in_both : (a : Pending) (xs ys : List Pending) → IsIn a (xs ++ ys) → IsIn a xs ⊎ IsIn a ys
in_both a [] ys h = inr h
in_both a (x ∷ xs) ys (inl is) = inl (inl is)
in_both a (x ∷ xs) ys (inr rest) = by_rest (in_both a xs ys rest)
  where
    by_rest : IsIn a xs ⊎ IsIn a ys → IsIn a (x ∷ xs) ⊎ IsIn a ys
    by_rest (inl here) = inl (inr here)
    by_rest (inr there) = inr there

pub in_fewer : (f : Pending → Bool) (a : Pending) (xs : List Pending) → IsIn a (filter f xs) → IsIn a xs × (f a ≡ true)
in_fewer f a [] h = absurd h
in_fewer f a (x ∷ xs) h = by_test (f x) refl h (in_fewer f a xs)
  where
    by_test : (b : Bool) → f x ≡ b → IsIn a (cond b (x ∷ filter f xs) (filter f xs)) → (IsIn a (filter f xs) → IsIn a xs × (f a ≡ true)) → IsIn a (x ∷ xs) × (f a ≡ true)
    by_test true is (inl same) rest = (inl same, ap f (sym same) ∙ is)
    by_test true is (inr here) rest = (let r = rest here in (inr r.0, r.1))
    by_test false is here rest = (let r = rest here in (inr r.0, r.1))

in_set : (a : Pending) (ps : List Pending) (req : ReqId) (waiting : Waiting) → IsIn a (set_waiting ps req waiting) → (record { req = req; waits = waiting } ≡ a) ⊎ IsIn a ps
in_set a [] req waiting h = absurd h
in_set a (p ∷ ps) req waiting h = by_test (same_call p.req req) h (in_set a ps req waiting)
  where
    new : Pending
    new = record { req = req; waits = waiting }

    by_test : (b : Bool) → IsIn a (cond b ((record { req = req; waits = waiting }) ∷ ps) (p ∷ set_waiting ps req waiting)) → (IsIn a (set_waiting ps req waiting) → (record { req = req; waits = waiting } ≡ a) ⊎ IsIn a ps) → (record { req = req; waits = waiting } ≡ a) ⊎ IsIn a (p ∷ ps)
    by_test true (inl same) rest = inl same
    by_test true (inr here) rest = inr (inr here)
    by_test false (inl same) rest = inr (inl same)
    by_test false (inr here) rest = by_rest (rest here)
      where
        by_rest : (record { req = req; waits = waiting } ≡ a) ⊎ IsIn a ps → (record { req = req; waits = waiting } ≡ a) ⊎ IsIn a (p ∷ ps)
        by_rest (inl same) = inl same
        by_rest (inr there) = inr (inr there)

-- who waits isn't one that doesn't
pub other_op : (ps : List Pending) (req : ReqId) (p : Pending) → is_pending ps req ≡ false → IsIn p ps → same_op req p.req ≡ false
other_op [] req p none h = absurd h
other_op (q ∷ ps) req p none h = by_head (same_op req q.req) refl none h (other_op ps req p)
  where
    by_head : (b : Bool) → same_op req q.req ≡ b → (b || is_pending ps req) ≡ false → (q ≡ p) ⊎ IsIn p ps → (is_pending ps req ≡ false → IsIn p ps → same_op req p.req ≡ false) → same_op req p.req ≡ false
    by_head true is n h rest = absurd (true≢false n)
    by_head false is n (inl same) rest = ap (λ (z : Pending). same_op req z.req) (sym same) ∙ is
    by_head false is n (inr here) rest = rest n here

-- one waits so
pub one_so : (req : ReqId) (f : Waiting → Bool) (ps : List Pending) → is_waited_by (Some req) f ps ≡ true → (p : Pending) × IsIn p ps × (p.req ≡ req) × (f p.waits ≡ true)
one_so req f [] some = absurd (false≢true some)
one_so req f (p ∷ ps) some = by_test (same_call p.req req && f p.waits) refl some (one_so req f ps)
  where
    by_test : (b : Bool) → (same_call p.req req && f p.waits) ≡ b → (b || is_waited_by (Some req) f ps) ≡ true → (is_waited_by (Some req) f ps ≡ true → (q : Pending) × IsIn q ps × (q.req ≡ req) × (f q.waits ≡ true)) → (q : Pending) × IsIn q (p ∷ ps) × (q.req ≡ req) × (f q.waits ≡ true)
    by_test true is s rest = (let parts = and_parts (same_call p.req req) (f p.waits) is in (p, inl refl, same_parts p.req req parts.0, parts.1))
    by_test false is s rest = (let r = rest s in (r.0, inr r.1, r.2, r.3))

-- each call waits once
pub apart_once : (ps : List Pending) (p q : Pending) → are_apart ps ≡ true → IsIn p ps → IsIn q ps → p.req ≡ q.req → p ≡ q
apart_once [] p q apart hp hq same = absurd hp
apart_once (x ∷ ps) p q apart hp hq same = (let parts = apart_parts x ps apart in by_both hp hq parts.0 (λ a b. apart_once ps p q parts.1 a b same))
  where
    self_not : (a b : Pending) → x ≡ a → IsIn b ps → a.req ≡ b.req → is_pending ps x.req ≡ false → ⊥
    self_not a b is there eq none = true≢false (sym (same_self b.req) ∙ ap (λ r. same_op r b.req) (sym eq ∙ ap (λ (z : Pending). z.req) (sym is)) ∙ other_op ps x.req b none there)

    by_both : (x ≡ p) ⊎ IsIn p ps → (x ≡ q) ⊎ IsIn q ps → is_pending ps x.req ≡ false → (IsIn p ps → IsIn q ps → p ≡ q) → p ≡ q
    by_both (inl a) (inl b) none rest = sym a ∙ b
    by_both (inl a) (inr b) none rest = absurd (self_not p q a b same none)
    by_both (inr a) (inl b) none rest = absurd (self_not q p b a (sym same) none)
    by_both (inr a) (inr b) none rest = rest a b

-- ---- calls stay apart

fewer_pending : (f : Pending → Bool) (ps : List Pending) (r : ReqId) → is_pending ps r ≡ false → is_pending (filter f ps) r ≡ false
fewer_pending f [] r none = refl
fewer_pending f (p ∷ ps) r none = by_head (same_op r p.req) refl none (fewer_pending f ps r)
  where
    by_keep : (b : Bool) → same_op r p.req ≡ false → is_pending (filter f ps) r ≡ false → is_pending (cond b (p ∷ filter f ps) (filter f ps)) r ≡ false
    by_keep true is rest = ap (λ c. c || is_pending (filter f ps) r) is ∙ rest
    by_keep false is rest = rest

    by_head : (b : Bool) → same_op r p.req ≡ b → (b || is_pending ps r) ≡ false → (is_pending ps r ≡ false → is_pending (filter f ps) r ≡ false) → is_pending (filter f (p ∷ ps)) r ≡ false
    by_head true is n rest = absurd (true≢false n)
    by_head false is n rest = by_keep (f p) is (rest n)

fewer_apart : (f : Pending → Bool) (ps : List Pending) → are_apart ps ≡ true → are_apart (filter f ps) ≡ true
fewer_apart f [] apart = refl
fewer_apart f (p ∷ ps) apart = (let parts = apart_parts p ps apart in by_keep (f p) (fewer_pending f ps p.req parts.0) (fewer_apart f ps parts.1))
  where
    by_keep : (b : Bool) → is_pending (filter f ps) p.req ≡ false → are_apart (filter f ps) ≡ true → are_apart (cond b (p ∷ filter f ps) (filter f ps)) ≡ true
    by_keep true none rest = ap (λ c. if c then false else are_apart (filter f ps)) none ∙ rest
    by_keep false none rest = rest

more_pending : (ps : List Pending) (p : Pending) (r : ReqId) → is_pending ps r ≡ false → same_op r p.req ≡ false → is_pending (ps ++ p ∷ []) r ≡ false
more_pending [] p r none other = ap (λ b. b || false) other
more_pending (q ∷ ps) p r none other = by_head (same_op r q.req) none (more_pending ps p r)
  where
    by_head : (b : Bool) → (b || is_pending ps r) ≡ false → (is_pending ps r ≡ false → same_op r p.req ≡ false → is_pending (ps ++ p ∷ []) r ≡ false) → (b || is_pending (ps ++ p ∷ []) r) ≡ false
    by_head true n rest = absurd (true≢false n)
    by_head false n rest = rest n other

more_apart : (ps : List Pending) (p : Pending) → are_apart ps ≡ true → is_pending ps p.req ≡ false → are_apart (ps ++ p ∷ []) ≡ true
more_apart [] p apart none = refl
more_apart (q ∷ ps) p apart none = (let parts = apart_parts q ps apart in by_head (same_op p.req q.req) refl none parts.0 (more_apart ps p parts.1))
  where
    by_head : (b : Bool) → same_op p.req q.req ≡ b → (b || is_pending ps p.req) ≡ false → is_pending ps q.req ≡ false → (is_pending ps p.req ≡ false → are_apart (ps ++ p ∷ []) ≡ true) → are_apart (q ∷ (ps ++ p ∷ [])) ≡ true
    by_head true is n out rest = absurd (true≢false n)
    by_head false is n out rest = ap (λ c. if c then false else are_apart (ps ++ p ∷ [])) (more_pending ps p q.req out (same_back p.req q.req is)) ∙ rest n

set_apart : (ps : List Pending) (req : ReqId) (waiting : Waiting) → are_apart ps ≡ true → are_apart (set_waiting ps req waiting) ≡ true
set_apart [] req waiting apart = refl
set_apart (p ∷ ps) req waiting apart = (let parts = apart_parts p ps apart in by_test (same_call p.req req) refl parts.0 parts.1 (set_apart ps req waiting parts.1))
  where
    by_test : (b : Bool) → same_call p.req req ≡ b → is_pending ps p.req ≡ false → are_apart ps ≡ true → are_apart (set_waiting ps req waiting) ≡ true → are_apart (cond b ((record { req = req; waits = waiting }) ∷ ps) (p ∷ set_waiting ps req waiting)) ≡ true
    by_test true is none more rest = ap (λ c. if c then false else are_apart ps) (ap (is_pending ps) (sym (same_parts p.req req is)) ∙ none) ∙ more
    by_test false is none more rest = ap (λ c. if c then false else are_apart (set_waiting ps req waiting)) (set_pending req waiting p.req ps ∙ none) ∙ rest

-- ---- changes

free_of_it : (a : Bool) → a ≡ true → a ≡ false → ⊥
free_of_it a is none = true≢false (sym is ∙ none)

-- a call waits from now on, whose place is free
pub begin_locked : (v : Volatile) (p : Pending) → is_pending v.pending p.req ≡ false → ((path : Path) → place_path p.waits ≡ Some path → stands_in_the_way v.locks p.req (path ∷ []) (path ∷ []) ≡ false) → AreLocked v → AreLocked (changed v (changes.Begin p))
begin_locked v p new free k = record { locked = λ a here path place. locked_by a path (in_both a v.pending (p ∷ []) here) place; alone = λ a b ha hb path pa pb. alone_by a b path (in_both a v.pending (p ∷ []) ha) (in_both b v.pending (p ∷ []) hb) pa pb; apart = more_apart v.pending p k.apart new }
  where
    now : (w : Waiting) (path : Path) → place_path w ≡ Some path → IsLocked (changed v (changes.Begin (record { req = p.req; waits = w }))).locks p.req path
    now (waits.Quiet at index quiet) path place = subst (IsLocked (changed v (changes.Begin (record { req = p.req; waits = waits.Quiet at index quiet }))).locks p.req) (path_is place) (locked_now v.locks p.req at)
      where
        path_is : Some at ≡ Some path → at ≡ path
        path_is h = cc
    now (waits.Copy at index old made) path place = subst (IsLocked (changed v (changes.Begin (record { req = p.req; waits = waits.Copy at index old made }))).locks p.req) (path_is place) (locked_now v.locks p.req at)
      where
        path_is : Some at ≡ Some path → at ≡ path
        path_is h = cc
    now (waits.Extend at made) path place = absurd (cc)
    now (waits.Lease at index chunk) path place = absurd (cc)
    now (waits.Snapshot from to) path place = absurd (cc)
    now (waits.Replicate chunk target) path place = absurd (cc)

    locked_by : (a : Pending) (path : Path) → IsIn a v.pending ⊎ IsIn a (p ∷ []) → place_path a.waits ≡ Some path → IsLocked (changed v (changes.Begin p)).locks a.req path
    locked_by a path (inl here) place = locked_more v.locks _ a.req path (k.locked a here path place)
    locked_by a path (inr (inl same)) place = subst (λ (z : Pending). place_path z.waits ≡ Some path → IsLocked (changed v (changes.Begin p)).locks z.req path) same (now p.waits path) place
    locked_by a path (inr (inr none)) place = absurd none

    clash : (a : Pending) (path : Path) → IsIn a v.pending → place_path a.waits ≡ Some path → place_path p.waits ≡ Some path → ⊥
    clash a path here place mine = free_of_it _ (locked_reads v.locks a.req p.req path (path ∷ []) (k.locked a here path place) (other_op v.pending p.req a new here)) (free path mine)

    alone_by : (a b : Pending) (path : Path) → IsIn a v.pending ⊎ IsIn a (p ∷ []) → IsIn b v.pending ⊎ IsIn b (p ∷ []) → place_path a.waits ≡ Some path → place_path b.waits ≡ Some path → a.req ≡ b.req
    alone_by a b path (inl ha) (inl hb) pa pb = k.alone a b ha hb path pa pb
    alone_by a b path (inl ha) (inr (inl is)) pa pb = absurd (clash a path ha pa (ap (λ (z : Pending). place_path z.waits) is ∙ pb))
    alone_by a b path (inr (inl is)) (inl hb) pa pb = absurd (clash b path hb pb (ap (λ (z : Pending). place_path z.waits) is ∙ pa))
    alone_by a b path (inr (inl is)) (inr (inl it)) pa pb = ap (λ (z : Pending). z.req) (sym is ∙ it)
    alone_by a b path (inr (inr none)) hb pa pb = absurd none
    alone_by a b path ha (inr (inr none)) pa pb = absurd none

-- one that has waited waits for something else, at the place that it holds, if it holds one then
pub wait_locked : (v : Volatile) (req : ReqId) (waiting : Waiting) → ((path : Path) → place_path waiting ≡ Some path → (e : Pending) × IsIn e v.pending × (e.req ≡ req) × (place_path e.waits ≡ Some path)) → AreLocked v → AreLocked (changed v (changes.Wait req waiting))
wait_locked v req waiting held k =
    record { locked = λ a here path place. locked_by a path (was a here) place; alone = λ a b ha hb path pa pb. alone_by a b path (was a ha) (was b hb) pa pb; apart = ap are_apart (set_so v.pending req waiting) ∙ set_apart v.pending req waiting k.apart }
  where
    new : Pending
    new = record { req = req; waits = waiting }

    was : (a : Pending) → IsIn a (changed v (changes.Wait req waiting)).pending → (record { req = req; waits = waiting } ≡ a) ⊎ IsIn a v.pending
    was a here = in_set a v.pending req waiting (subst (IsIn a) (set_so v.pending req waiting) here)

    locked_by : (a : Pending) (path : Path) → (record { req = req; waits = waiting } ≡ a) ⊎ IsIn a v.pending → place_path a.waits ≡ Some path → IsLocked v.locks a.req path
    locked_by a path (inr here) place = k.locked a here path place
    locked_by a path (inl is) place =
        let e = held path (ap (λ (z : Pending). place_path z.waits) is ∙ place) in subst (λ r. IsLocked v.locks r path) (e.2 ∙ ap (λ (z : Pending). z.req) is) (k.locked e.0 e.1 path e.3)

    alone_by : (a b : Pending) (path : Path) → (record { req = req; waits = waiting } ≡ a) ⊎ IsIn a v.pending → (record { req = req; waits = waiting } ≡ b) ⊎ IsIn b v.pending → place_path a.waits ≡ Some path → place_path b.waits ≡ Some path → a.req ≡ b.req
    alone_by a b path (inr ha) (inr hb) pa pb = k.alone a b ha hb path pa pb
    alone_by a b path (inl is) (inr hb) pa pb = (let e = held path (ap (λ (z : Pending). place_path z.waits) is ∙ pa) in sym (ap (λ (z : Pending). z.req) is) ∙ sym e.2 ∙ k.alone e.0 b e.1 hb path e.3 pb)
    alone_by a b path (inr ha) (inl is) pa pb = (let e = held path (ap (λ (z : Pending). place_path z.waits) is ∙ pb) in k.alone a e.0 ha e.1 path pa e.3 ∙ e.2 ∙ ap (λ (z : Pending). z.req) is)
    alone_by a b path (inl is) (inl it) pa pb = ap (λ (z : Pending). z.req) (sym is ∙ it)

not_true : (b : Bool) → not b ≡ true → b ≡ false
not_true true h = absurd (false≢true h)
not_true false h = refl

end_locked : (v : Volatile) (req : ReqId) → AreLocked v → AreLocked (changed v (changes.End req))
end_locked v req k = record {
  locked = λ a here path place. (let was = in_fewer (λ (p : Pending). not (same_op req p.req)) a v.pending here in locked_still v.locks req a.req path (not_true (same_op req a.req) was.1) (k.locked a was.0 path place));
  alone = λ a b ha hb path pa pb. k.alone a b (in_fewer (λ (p : Pending). not (same_op req p.req)) a v.pending ha).0 (in_fewer (λ (p : Pending). not (same_op req p.req)) b v.pending hb).0 path pa pb;
  apart = fewer_apart (λ (p : Pending). not (same_op req p.req)) v.pending k.apart;
}

change_locked : (v : Volatile) (change : Change) → begins_none change ≡ true → AreLocked v → AreLocked (changed v change)
change_locked v (changes.Begin p) none k = absurd (false≢true none)
change_locked v (changes.Wait req waiting) none k = absurd (false≢true none)
change_locked v (changes.End req) none k = end_locked v req k
change_locked v (changes.Keep client reply) none k = record { locked = k.locked; alone = k.alone; apart = k.apart }
change_locked v (changes.Ask q asking) none k = record { locked = k.locked; alone = k.alone; apart = k.apart }
change_locked v (changes.Settled q) none k = record { locked = k.locked; alone = k.alone; apart = k.apart }
change_locked v (changes.Enter q) none k = record { locked = k.locked; alone = k.alone; apart = k.apart }
change_locked v (changes.Place q) none k = record { locked = k.locked; alone = k.alone; apart = k.apart }
change_locked v (changes.Lose q) none k = record { locked = k.locked; alone = k.alone; apart = k.apart }
change_locked v (changes.Forget chunks) none k = record { locked = k.locked; alone = k.alone; apart = k.apart }
change_locked v (changes.Prepare is_preparing) none k = record { locked = k.locked; alone = k.alone; apart = k.apart }
change_locked v (changes.Restored server chunks) none k = record { locked = k.locked; alone = k.alone; apart = k.apart }
change_locked v changes.RolledBack none k = record { locked = k.locked; alone = k.alone; apart = k.apart }

changes_locked : (cs : List Change) (v : Volatile) → list_all begins_none cs ≡ true → AreLocked v → AreLocked (all_changed v cs)
changes_locked [] v none k = k
changes_locked (c ∷ cs) v none k = (let parts = and_parts (begins_none c) (list_all begins_none cs) none in changes_locked cs (changed v c) parts.1 (change_locked v c parts.0 k))

-- the same calls with the same locks
alike : (v w : Volatile) → w.pending ≡ v.pending → w.locks ≡ v.locks → AreLocked v → AreLocked w
alike v w pending locks k = record {
  locked = λ a here path place. subst (λ ls. IsLocked ls a.req path) (sym locks) (k.locked a (subst (IsIn a) pending here) path place);
  alone = λ a b ha hb path pa pb. k.alone a b (subst (IsIn a) pending ha) (subst (IsIn b) pending hb) path pa pb;
  apart = ap are_apart pending ∙ k.apart;
}

-- ---- a move

module _ (config : Config) (heard : Heard) (s : State) (k : AreLocked s.volatile) where
  path_is : {a b : Path} → Some a ≡ Some b → a ≡ b
  path_is h = cc

  begun_free : (req : ReqId) (q : ℕ) (w : Waiting) → IsBegunBy s req q w → (path : Path) → place_path w ≡ Some path → stands_in_the_way s.volatile.locks req (path ∷ []) (path ∷ []) ≡ false
  begun_free req q (waits.Quiet at index quiet) is path place = subst (λ p. stands_in_the_way s.volatile.locks req (p ∷ []) (p ∷ []) ≡ false) (path_is place) is.1.free.free
  begun_free req q (waits.Copy at index old new) is path place = absurd is
  begun_free req q (waits.Extend at new) is path place = absurd is
  begun_free req q (waits.Lease at index chunk) is path place = absurd (cc)
  begun_free req q (waits.Snapshot from to) is path place = absurd (cc)
  begun_free req q (waits.Replicate chunk target) is path place = absurd (cc)

  leased_nowhere : (w : Waiting) (path : Path) → is_lease_wait w ≡ true → place_path w ≡ Some path → ⊥
  leased_nowhere (waits.Lease at index chunk) path is place = absurd (cc)
  leased_nowhere (waits.Quiet at index quiet) path is place = false≢true is
  leased_nowhere (waits.Copy at index old new) path is place = false≢true is
  leased_nowhere (waits.Extend at new) path is place = false≢true is
  leased_nowhere (waits.Snapshot from to) path is place = false≢true is
  leased_nowhere (waits.Replicate chunk target) path is place = false≢true is

  tree_nowhere : (w : Waiting) (path : Path) → is_tree_wait w ≡ true → place_path w ≡ Some path → ⊥
  tree_nowhere (waits.Lease at index chunk) path is place = false≢true is
  tree_nowhere (waits.Quiet at index quiet) path is place = false≢true is
  tree_nowhere (waits.Copy at index old new) path is place = false≢true is
  tree_nowhere (waits.Extend at new) path is place = false≢true is
  tree_nowhere (waits.Snapshot from to) path is place = absurd (cc)
  tree_nowhere (waits.Replicate chunk target) path is place = false≢true is

  copied_free : (req : ReqId) (old : ℕ) (w : Waiting) → IsCopyFromNow s req old w → (is_pending s.volatile.pending req ≡ false) × ((path : Path) → place_path w ≡ Some path → stands_in_the_way s.volatile.locks req (path ∷ []) (path ∷ []) ≡ false)
  copied_free req old (waits.Copy at index source new) is = (is.2.free.new, λ path place. subst (λ p. stands_in_the_way s.volatile.locks req (p ∷ []) (p ∷ []) ≡ false) (path_is place) is.2.free.free)
  copied_free req old w is = absurd is

  further_held : (req : ReqId) (old : ℕ) (w : Waiting) → IsCopyFurther s req old w → (path : Path) → place_path w ≡ Some path → (e : Pending) × IsIn e s.volatile.pending × (e.req ≡ req) × (place_path e.waits ≡ Some path)
  further_held req old (waits.Copy at index source new) is path place = (let e = one_so req (waits_to_copy at index old) s.volatile.pending is.2 in (e.0, e.1, e.2, by_waiting e.0.waits e.3))
    where
      by_waiting : (w : Waiting) → waits_to_copy at index old w ≡ true → place_path w ≡ Some path
      by_waiting (waits.Quiet p i quiet) so = ap Some (same_path-is p at (and_parts (same_path p at) _ so).0) ∙ place
      by_waiting w so = absurd (false≢true so)
  further_held req old w is path place = absurd is

  pub move_locked : (move : Move) → IsMade config heard s move → AreLocked (move_turn config s move).after.volatile
  move_locked (Begins q purpose call Alone) made = alike s.volatile _ refl refl k
  move_locked (Begins q purpose call (FromNow req waiting)) made = alike (changed s.volatile (changes.Begin (record { req = req; waits = waiting }))) _ refl refl (begin_locked s.volatile (record { req = req; waits = waiting }) made.may.begun.0 (begun_free req q waiting made.may.begun.1) k)
  move_locked (Begins q purpose call (Further req waiting)) made = alike (changed s.volatile (changes.Wait req waiting)) _ refl refl (wait_locked s.volatile req waiting (λ path place. absurd (leased_nowhere waiting path made.may.begun place)) k)
  move_locked (Makes targets req path) made = alike (changed s.volatile (changes.Begin (record { req = req; waits = waits.Extend path s.durable.next_handle }))) _ refl refl (begin_locked s.volatile (record { req = req; waits = waits.Extend path s.durable.next_handle }) made.may.2 (λ at place. absurd (cc)) k)
  move_locked (Copies old at req Alone) made = absurd made.may.2
  move_locked (Copies old at req (FromNow by waiting)) made =
      let free = copied_free by old waiting made.may.2 in alike (changed s.volatile (changes.Begin (record { req = by; waits = waiting }))) _ refl refl (begin_locked s.volatile (record { req = by; waits = waiting }) free.0 free.1 k)
  move_locked (Copies old at req (Further by waiting)) made = alike (changed s.volatile (changes.Wait by waiting)) _ refl refl (wait_locked s.volatile by waiting (further_held by old waiting made.may.2) k)
  move_locked (Hears q asking) made = alike s.volatile _ refl refl k
  move_locked (Sends q asking source target) made = alike s.volatile _ refl refl k
  move_locked (Settles q asking carried at) made = alike s.volatile _ refl refl k
  move_locked (Edits req edit answer) made = k
  move_locked (Extends req path new at) made = alike (changed s.volatile (changes.End req)) _ refl refl (end_locked s.volatile req k)
  move_locked (CopiesTree req from to) made = end_locked s.volatile req k
  move_locked (Replaces path index old new) made = alike s.volatile _ refl refl k
  move_locked (Scans removed forgotten) made = alike s.volatile _ refl refl k
  move_locked (Refuses req refusal over) made = changes_locked (said_changes (keeps_refusal s req refusal) s.log req refusal ++ (if over then end_changes s req else [])) s.volatile (refused_begins s req refusal over) k
  move_locked (AnswersCall req answer true) made = changes_locked (answer_changes s req answer ++ changes.End req ∷ []) s.volatile (both_all (answer_changes s req answer) (changes.End req ∷ []) (answer_begins s req answer) refl) k
  move_locked (AnswersCall req answer false) made = changes_locked (answer_changes s req answer) s.volatile (answer_begins s req answer) k
  move_locked (Waits req waiting) made = begin_locked s.volatile (record { req = req; waits = waiting }) made.may.2 (λ path place. absurd (tree_nowhere waiting path made.may.1 place)) k
  move_locked (Restores server chunks) made = alike s.volatile _ refl refl k
  move_locked (Says messages) made = k
  move_locked (Flags req preparing now) made = changes_locked (answer_changes s req (answers.Epoch now)) (changed s.volatile (changes.Prepare preparing)) (answer_begins s req (answers.Epoch now)) (change_locked s.volatile (changes.Prepare preparing) refl k)
  move_locked (Prepares req moment) made = changes_locked (answer_changes s req (answers.Epoch (s.durable.epoch + 1))) (changed s.volatile (changes.Prepare false)) (answer_begins s req (answers.Epoch (s.durable.epoch + 1))) (change_locked s.volatile (changes.Prepare false) refl k)
  move_locked (Finalizes req) made = changes_locked (answer_changes s req (answers.Epoch (s.durable.epoch + 1))) s.volatile (answer_begins s req (answers.Epoch (s.durable.epoch + 1))) k
  move_locked BeginsRollback made = k
  move_locked (TellsRollback req now) made = changes_locked (answer_changes s req (answers.Epoch now)) s.volatile (answer_begins s req (answers.Epoch now)) k
  move_locked (CommitsRollback req names) made = changes_locked (answer_changes s req (answers.Epoch s.durable.epoch)) (changed s.volatile changes.RolledBack) (answer_begins s req (answers.Epoch s.durable.epoch)) (change_locked s.volatile changes.RolledBack refl k)
  move_locked Checkpoints made = alike s.volatile _ refl refl k
