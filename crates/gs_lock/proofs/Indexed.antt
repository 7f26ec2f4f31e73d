-- The index of a list of locks, as the list changes.
use Rattle.std.proofs.Common.{◌≡◌, ℕ, suc, ◌+◌, ◌<◌, ◌≤◌, Bool, true, false, cond, List, [], ◌∷◌, ◌++◌, refl, sym, ap, ◌∙◌, subst, arith, length, take, drop, get_or, take_all, length-append}
use Rattle.std.proofs.lemmas.Bool.{false≢true}
use Rattle.std.proofs.lemmas.List.{append-nil, take-append-le, take-append-drop, length-take-le, get_or_default}
use Rattle.std.proofs.Math.Seq.{drop-cons}
use Rattle.std.proofs.lemmas.List.Sums.{sum_by-append, sum_by-cons}
use Rattle.std.specs.Prelude.{count_by, ◌&&◌, not, sum_by, filter}
use Rattle.std.specs.List.{list_all}
use Rattle.std.specs.BTreeMap.{is_at}
use Rattle.std.specs.Cmp.{eq_by_cmp_equiv}
use Rattle.std.specs.Cmp.{nat_cmp_total, then_total, on_total}
use Rattle.gs_path.specs.Path.{Path, path_total}
use Rattle.gs_lock.specs.declared.lock.Lock.{Lock}
use Rattle.gs_lock.specs.declared.index.Index.{Index}
use Rattle.gs_base.specs.declared.numbers.ReqId.{ReqId}
use Rattle.gs_lock.specs.Locks.{same_path, released}
use Rattle.gs_lock.specs.Operations.{op_cmp, same_op}
use Rattle.gs_lock.specs.Indexes.{IsIndexed, IsTight, SameIndex, AddsLock, HasLock, reads_path, writes_path, is_of}

joined : (all front back one rest both : ℕ) → all ≡ front + back → back ≡ one + rest → both ≡ front + rest → all ≡ both + one
joined all front back one rest both a b c = omega arith

count_mid : (t : Lock → Bool) (xs ys : List Lock) (l : Lock) → count_by t (xs ++ l ∷ ys) ≡ count_by t (xs ++ ys) + cond (t l) 1 0
count_mid t xs ys l = mid (λ x. cond (t x) 1 0)
  where
    mid : (f : Lock → ℕ) → sum_by f (xs ++ l ∷ ys) ≡ sum_by f (xs ++ ys) + f l
    mid f = joined (sum_by f (xs ++ l ∷ ys)) (sum_by f xs) (sum_by f (l ∷ ys)) (f l) (sum_by f ys) (sum_by f (xs ++ ys))
        (sum_by-append f xs (l ∷ ys)) (sum_by-cons f l ys) (sum_by-append f xs ys)

pub indexed_same : (locks : List Lock) (old new : Index) → IsIndexed locks old → SameIndex old new → (IsTight old → IsTight new) → IsIndexed locks new
indexed_same locks old new is same tight = record {
  tight = tight is.tight;
  reads = λ p. same.reads p ∙ is.reads p;
  writes = λ p. same.writes p ∙ is.writes p;
  held = λ k. same.held k ∙ is.held k;
}

less : (old new one all rest : ℕ) → old ≡ new + one → old ≡ all → all ≡ rest + one → new ≡ rest
less old new one all rest a b c = omega arith

pub indexed_less : (xs ys : List Lock) (l : Lock) (old new : Index) → IsIndexed (xs ++ l ∷ ys) old → AddsLock new old l → (IsTight old → IsTight new) → IsIndexed (xs ++ ys) new
indexed_less xs ys l old new is adds tight = record {
  tight = tight is.tight;
  reads = λ p. less _ _ _ _ _ (adds.reads p) (is.reads p) (count_mid (reads_path p) xs ys l);
  writes = λ p. less _ _ _ _ _ (adds.writes p) (is.writes p) (count_mid (writes_path p) xs ys l);
  held = λ k. less _ _ _ _ _ (adds.held k) (is.held k) (count_mid (is_of k) xs ys l);
}

same_itself : (p : Path) → same_path p p ≡ true
same_itself p = (eq_by_cmp_equiv path_total).refl p

op_itself : (op : ReqId) → is_at (op_cmp op) op ≡ true
op_itself op = (eq_by_cmp_equiv (then_total (on_total (λ (o : ReqId). o.client.0) nat_cmp_total) (on_total (λ (o : ReqId). o.number) nat_cmp_total))).refl op

one_counted : (t : Lock → Bool) (xs ys : List Lock) (l : Lock) (n : ℕ) → n ≡ count_by t (xs ++ l ∷ ys) → t l ≡ true → 0 < n
one_counted t xs ys l n is passes =
    let a : n ≡ count_by t (xs ++ ys) + cond (t l) 1 0 = is ∙ count_mid t xs ys l in
    let b : n ≡ count_by t (xs ++ ys) + 1 = a ∙ ap (λ b. count_by t (xs ++ ys) + cond b 1 0) passes in
    omega arith

reads_it : (l : Lock) → l.writes ≡ false → reads_path l.path l ≡ true
reads_it l w = ap (λ b. not b && same_path l.path l.path) w ∙ same_itself l.path

writes_it : (l : Lock) → l.writes ≡ true → writes_path l.path l ≡ true
writes_it l w = ap (λ b. b && same_path l.path l.path) w ∙ same_itself l.path

pub has_lock : (xs ys : List Lock) (l : Lock) (index : Index) → IsIndexed (xs ++ l ∷ ys) index → HasLock index l
has_lock xs ys l index is = record {
  reads = λ w. one_counted (reads_path l.path) xs ys l _ (is.reads l.path) (reads_it l w);
  writes = λ w. one_counted (writes_path l.path) xs ys l _ (is.writes l.path) (writes_it l w);
  held = one_counted (is_of l.op) xs ys l _ (is.held l.op) (op_itself l.op);
}

-- ---- the last lock is cut off
pub last_indexed : (xs ys : List Lock) (l : Lock) (index : Index) → xs ≡ ys ++ l ∷ [] → IsIndexed xs index → HasLock index l
last_indexed xs ys l index is h = has_lock ys [] l index (subst (λ zs. IsIndexed zs index) is h)

pub cut_indexed : (xs ys : List Lock) (l : Lock) (old new : Index) → xs ≡ ys ++ l ∷ [] → IsIndexed xs old → AddsLock new old l → (IsTight old → IsTight new) → IsIndexed ys new
cut_indexed xs ys l old new is h adds tight =
    subst (λ zs. IsIndexed zs new) (append-nil ys) (indexed_less ys [] l old new (subst (λ zs. IsIndexed zs old) is h) adds tight)

pub cut_front : (n : ℕ) (xs ys all : List Lock) (l : Lock) → xs ≡ ys ++ l ∷ [] → n < length xs → take n xs ≡ all → take n ys ≡ all
cut_front n xs ys all l is below front =
    sym (take-append-le n ys (l ∷ []) (let e = ap length is ∙ length-append ys (l ∷ []) in omega arith)) ∙ ap (take n) (sym is) ∙ front

-- ---- a lock in the middle is taken out
pub split_at : (xs : List Lock) (i : ℕ) (l : Lock) → i < length xs → l ≡ get_or xs i l → xs ≡ take i xs ++ l ∷ drop (suc i) xs
split_at xs i l below is =
    sym (take-append-drop i xs) ∙ ap (λ ys. take i xs ++ ys) (drop-cons xs i l below ∙ ap (λ x. x ∷ drop (suc i) xs) (sym is))

filter_out : (p : Lock → Bool) (xs ys : List Lock) (l : Lock) → p l ≡ false → filter p (xs ++ l ∷ ys) ≡ filter p (xs ++ ys)
filter_out p [] ys l out = ap (λ b. cond b (l ∷ filter p ys) (filter p ys)) out
filter_out p (x ∷ xs) ys l out = ap (λ zs. cond (p x) (x ∷ zs) zs) (filter_out p xs ys l out)

both : (a b : Bool) → (a && b) ≡ true → (a ≡ true) × (b ≡ true)
both true b h = (refl, h)
both false b h = absurd (false≢true h)

filter_whole : (p : Lock → Bool) (xs : List Lock) → list_all p xs ≡ true → filter p xs ≡ xs
filter_whole p [] all = refl
filter_whole p (x ∷ xs) all =
    let h = both (p x) (list_all p xs) all in
    ap (λ b. cond b (x ∷ filter p xs) (filter p xs)) h.0 ∙ ap (λ ys. x ∷ ys) (filter_whole p xs h.1)

pub same_at : (xs : List Lock) (i : ℕ) (l m : Lock) → i < length xs → l ≡ get_or xs i l → m ≡ get_or xs i m → l ≡ m
same_at xs i l m below a b = a ∙ get_or_default xs i l m below ∙ sym b

pub out_indexed : (xs : List Lock) (i : ℕ) (l : Lock) (index : Index) → i < length xs → l ≡ get_or xs i l → IsIndexed xs index → HasLock index l
out_indexed xs i l index below is h = has_lock (take i xs) (drop (suc i) xs) l index (subst (λ zs. IsIndexed zs index) (split_at xs i l below is) h)

-- the locks that are left: the same are released, those before i stay kept, and the index is theirs
pub out_step : (op : ReqId) (xs new all : List Lock) (i : ℕ) (l : Lock) (index index' : Index) → i < length xs → l ≡ get_or xs i l → same_op op l.op ≡ true → new ≡ take i xs ++ drop (suc i) xs
    → AddsLock index' index l → (IsTight index → IsTight index') → released xs op ≡ all → list_all (λ lock. not (same_op op lock.op)) (take i xs) ≡ true → IsIndexed xs index
    → (released new op ≡ all) × (list_all (λ lock. not (same_op op lock.op)) (take i new) ≡ true) × (i ≤ length new) × IsIndexed new index'
out_step op xs new all i l index index' below is own new_is adds tight rel front h =
    let split : xs ≡ take i xs ++ l ∷ drop (suc i) xs = split_at xs i l below is in
    let size : length (take i xs) ≡ i = length-take-le i xs (omega arith) in (
      ap (λ zs. released zs op) new_is ∙ sym (filter_out (λ lock. not (same_op op lock.op)) (take i xs) (drop (suc i) xs) l (ap not own)) ∙ ap (λ zs. released zs op) (sym split) ∙ rel,
      ap (λ zs. list_all (λ lock. not (same_op op lock.op)) (take i zs)) new_is
          ∙ ap (list_all (λ lock. not (same_op op lock.op))) (take-append-le i (take i xs) (drop (suc i) xs) (omega arith) ∙ take_all i (take i xs) (omega arith)) ∙ front,
      (let e = ap length new_is ∙ length-append (take i xs) (drop (suc i) xs) in omega arith),
      subst (λ zs. IsIndexed zs index') (sym new_is) (indexed_less (take i xs) (drop (suc i) xs) l index index' (subst (λ zs. IsIndexed zs index) split h) adds tight),
    )

pub out_end : (op : ReqId) (xs all : List Lock) (i : ℕ) → length xs ≤ i → released xs op ≡ all → list_all (λ lock. not (same_op op lock.op)) (take i xs) ≡ true → xs ≡ all
out_end op xs all i done rel front =
    sym (filter_whole (λ lock. not (same_op op lock.op)) xs (ap (list_all (λ lock. not (same_op op lock.op))) (sym (take_all i xs done)) ∙ front)) ∙ rel
