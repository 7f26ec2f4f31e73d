-- What lives in a table's slots, after a slot is written.
use Rattle.std.proofs.Common.{◌≡◌, suc, ◌≤◌, length, arith, List, [], ◌∷◌, Option, Some, None, Bool, true, false, cond, map, refl, ap, sym, ◌∙◌}
use Rattle.std.proofs.lemmas.Bool.{false≢true}
use Rattle.std.specs.Prelude.{is_none, is_some, OnSome}
use Rattle.std.specs.declared.cmp.Ordering.{Ordering}
use Rattle.std.specs.declared.cmp.Ordering.TheVariants.{Less, Equal, Greater}
use Rattle.std.specs.Ordering.{eq_by_cmp, is_eq}
use Rattle.std.specs.Cmp.{IsTotalOrder, eq_by_cmp_equiv}
use Rattle.std.specs.FinMap as fin
use Rattle.std.specs.BTreeMap.{is_at}
use Rattle.std.specs.Map.{lookup}
use Rattle.std.specs.Option.{option_flatten}
use Rattle.std.specs.List.{AllByRecursion}
use Rattle.std.specs.List.Sorted.{IsStrictlySortedBy}
use Rattle.gs_base_table.specs.Slots.{live_entries, set_live, live, HasRoom, KeepsRoom, GivesUpRoom, IsWritten}

joined_cond : {V : Type 0} (b : Bool) (x : Option V) (y : Option (Option V)) → option_flatten (cond b (Some x) y) ≡ cond b x (option_flatten y)
joined_cond true x y = refl
joined_cond false x y = refl

joined_none : {V : Type 0} (b : Bool) (y : Option (Option V)) → option_flatten (cond b None y) ≡ cond b None (option_flatten y)
joined_none true y = refl
joined_none false y = refl

found_before : {V : Type 0} (b : Bool) (y : Option (Option V)) → is_some (cond b None y) ≡ true → is_some y ≡ true
found_before true y h = absurd (false≢true h)
found_before false y h = h

is_equal : (r : Ordering) → is_eq r ≡ true → r ≡ Equal
is_equal Less h = absurd (false≢true h)
is_equal Equal h = refl
is_equal Greater h = absurd (false≢true h)

same_key : {K : Type 0} {R : K → K → Ordering} → fin.IsAntisymmetric R → (q k : K) → eq_by_cmp R q k ≡ true → q ≡ k
same_key {R = R} same q k tied = same q k (is_equal (R q k) tied)

abbrev Below : {K : Type 0} → (K → K → Ordering) → K → List K → Type 0
Below R k ks = AllByRecursion (λ y. R k y ≡ Less) ks

no_length : {A : Type 0} (xs : List A) → length xs ≡ 0 → xs ≡ []
no_length [] e = refl
no_length (x ∷ xs) e = absurd (omega arith)

pub length_live : {K V : Type 0} (es : List (K × Option V)) → length (live_entries es) ≤ length es
length_live [] = omega arith
length_live (e ∷ es) = held e.0 e.1 es (length_live es)
  where
    held : {K V : Type 0} (k : K) (slot : Option V) (es : List (K × Option V)) → length (live_entries es) ≤ length es → length (live_entries ((k, slot) ∷ es)) ≤ suc (length es)
    held k None es h = omega arith
    held k (Some v) es h = omega arith

module _ {K V : Type 0} {R : K → K → Ordering} (o : IsTotalOrder R) where
  get-set_live : (k : K) (w : Option V) (m : fin.FinMap R V) (q : K) → fin.get (set_live k w m) q ≡ cond (eq_by_cmp R q k) w (fin.get m q)
  get-set_live k (Some v) m q = fin.get-insert o m k v q
  get-set_live k None m q = fin.get-remove o m k q

  -- what lives at a key is what its slot holds
  pub get-live : (es : List (K × Option V)) (q : K) → fin.get (live R es) q ≡ option_flatten (fin.find R q es)
  unfolding live
  get-live [] q = fin.get-empty R q
  get-live (e ∷ es) q = get-set_live e.0 e.1 (live R es) q ∙ ap (cond (eq_by_cmp R q e.0) e.1) (get-live es q) ∙ sym (joined_cond (eq_by_cmp R q e.0) e.1 (fin.find R q es))

  -- a write of a slot is a write of what lives
  pub live_written : fin.IsAntisymmetric R → (es fs : List (K × Option V)) (k : K) (w : Option V) → IsWritten R es fs k w → live R fs ≡ set_live k w (live R es)
  live_written same es fs k w is = fin.same_map o same _ _ (λ q.
      get-live fs q ∙ ap option_flatten (is.each q) ∙ joined_cond (eq_by_cmp R q k) w (fin.find R q es)
      ∙ ap (cond (eq_by_cmp R q k) w) (sym (get-live es q)) ∙ sym (get-set_live k w (live R es) q))

  -- nothing is taken where nothing stands
  pub live_absent : fin.IsAntisymmetric R → (es : List (K × Option V)) (k : K) → fin.find R k es ≡ None → fin.remove (live R es) k ≡ live R es
  live_absent same es k none = fin.same_map o same _ _ (λ q. fin.get-remove o (live R es) k q ∙ other q (eq_by_cmp R q k) refl)
    where
      other : (q : K) (b : Bool) → eq_by_cmp R q k ≡ b → cond b None (fin.get (live R es) q) ≡ fin.get (live R es) q
      other q true tied = sym (get-live es q ∙ ap option_flatten (ap (λ x. fin.find R x es) (same_key same q k tied) ∙ none))
      other q false apart = refl

  pub live_reserved : fin.IsAntisymmetric R → (es fs : List (K × Option V)) (k : K) → fin.find R k es ≡ None → IsWritten R es fs k None → live R fs ≡ live R es
  live_reserved same es fs k none is = live_written same es fs k None is ∙ live_absent same es k none

  -- ---- as the contracts of maps say it
  pub find-lookup : (es : List (K × Option V)) (q : K) → fin.find R q es ≡ lookup (is_at (R q)) es
  find-lookup [] q = refl
  find-lookup (e ∷ es) q = ap (cond (eq_by_cmp R q e.0) (Some e.1)) (find-lookup es q)

  pub written_by : (es fs : List (K × Option V)) (k : K) (w : Option V) → ((q : K) → lookup (is_at (R q)) fs ≡ cond (is_at (R k) q) (Some w) (lookup (is_at (R q)) es)) → IsWritten R es fs k w
  written_by es fs k w says = record {
    each = λ q. find-lookup fs q ∙ says q ∙ ap (λ b. cond b (Some w) (lookup (is_at (R q)) es)) ((eq_by_cmp_equiv o).symm k q)
        ∙ ap (cond (eq_by_cmp R q k) (Some w)) (sym (find-lookup es q));
  }

  found_without : (es fs : List (K × Option V)) (k : K) → ((q : K) → lookup (is_at (R q)) fs ≡ cond (is_at (R k) q) None (lookup (is_at (R q)) es)) → (q : K) → fin.find R q fs ≡ cond (eq_by_cmp R q k) None (fin.find R q es)
  found_without es fs k says q =
      find-lookup fs q ∙ says q ∙ ap (λ b. cond b None (lookup (is_at (R q)) es)) ((eq_by_cmp_equiv o).symm k q) ∙ ap (cond (eq_by_cmp R q k) None) (sym (find-lookup es q))

  pub live_removed : fin.IsAntisymmetric R → (es fs : List (K × Option V)) (k : K) → ((q : K) → lookup (is_at (R q)) fs ≡ cond (is_at (R k) q) None (lookup (is_at (R q)) es)) → live R fs ≡ fin.remove (live R es) k
  live_removed same es fs k says = fin.same_map o same _ _ (λ q.
      get-live fs q ∙ ap option_flatten (found_without es fs k says q) ∙ joined_none (eq_by_cmp R q k) (fin.find R q es)
      ∙ ap (cond (eq_by_cmp R q k) None) (sym (get-live es q)) ∙ sym (fin.get-remove o (live R es) k q))

  pub room_removed : (es fs : List (K × Option V)) (k : K) → ((q : K) → lookup (is_at (R q)) fs ≡ cond (is_at (R k) q) None (lookup (is_at (R q)) es)) → GivesUpRoom R es fs k
  room_removed es fs k says = record {
    none = found_without es fs k says k ∙ ap (λ b. cond b None (fin.find R k es)) ((eq_by_cmp_equiv o).refl k);
    others = λ q apart room. record { slot = ap is_some (found_without es fs k says q ∙ ap (λ b. cond b None (fin.find R q es)) apart) ∙ room.slot };
    fewer = λ q room. record { slot = found_before (eq_by_cmp R q k) (fin.find R q es) (sym (ap is_some (found_without es fs k says q)) ∙ room.slot) };
  }

  -- ---- in the order of the keys
  kept : (k key : K) (slot : Option V) (es : List (K × Option V)) → R k key ≡ Less → Below R k (map (λ e. e.0) (live_entries es)) → Below R k (map (λ e. e.0) (live_entries ((key, slot) ∷ es)))
  kept k key None es here later = later
  kept k key (Some v) es here later = (here, later)

  below_live : (k : K) (es : List (K × Option V)) → Below R k (map (λ e. e.0) es) → Below R k (map (λ e. e.0) (live_entries es))
  below_live k [] h = tt
  below_live k (e ∷ es) h = kept k e.0 e.1 es h.0 (below_live k es h.1)

  sorted_one : (k : K) (slot : Option V) (es : List (K × Option V)) → Below R k (map (λ e. e.0) es) → IsStrictlySortedBy R (map (λ e. e.0) (live_entries es))
      → IsStrictlySortedBy R (map (λ e. e.0) (live_entries ((k, slot) ∷ es)))
  unfolding IsStrictlySortedBy
  sorted_one k None es above later = later
  sorted_one k (Some v) es above later = (below_live k es above, later)

  pub sorted_live : (es : List (K × Option V)) → IsStrictlySortedBy R (map (λ e. e.0) es) → IsStrictlySortedBy R (map (λ e. e.0) (live_entries es))
  unfolding IsStrictlySortedBy
  sorted_live [] rising = tt
  sorted_live (e ∷ es) rising = sorted_one e.0 e.1 es rising.0 (sorted_live es rising.1)

  put_front : (k : K) (v : V) (ls : List (K × V)) → Below R k (map (λ e. e.0) ls) → fin.put R k v ls ≡ (k, v) ∷ ls
  put_front k v [] h = refl
  put_front k v (e ∷ ls) h = rw h.0 refl

  found_below : (k : K) (es : List (K × Option V)) → Below R k (map (λ e. e.0) es) → fin.find R k es ≡ None
  found_below k [] h = refl
  found_below k (e ∷ es) h = ap (λ r. cond (is_eq r) (Some e.1) (fin.find R k es)) h.0 ∙ found_below k es h.1

  one_more : fin.IsAntisymmetric R → (k : K) (slot : Option V) (es : List (K × Option V)) → Below R k (map (λ e. e.0) es) → fin.entries (live R es) ≡ live_entries es
      → fin.entries (set_live k slot (live R es)) ≡ live_entries ((k, slot) ∷ es)
  one_more same k None es above rest = ap fin.entries (live_absent same es k (found_below k es above)) ∙ rest
  one_more same k (Some v) es above rest = fin.entries-insert o (live R es) k v ∙ ap (fin.put R k v) rest ∙ put_front k v (live_entries es) (below_live k es above)

  pub entries-live : fin.IsAntisymmetric R → (es : List (K × Option V)) → IsStrictlySortedBy R (map (λ e. e.0) es) → fin.entries (live R es) ≡ live_entries es
  unfolding live IsStrictlySortedBy
  entries-live same [] rising = no_length (fin.entries fin.empty) (sym (fin.len-entries fin.empty) ∙ fin.len-empty R V)
  entries-live same (e ∷ es) rising = one_more same e.0 e.1 es rising.0 (entries-live same es rising.1)

pub has_slot : {V : Type 0} (o : Option (Option V)) (b : Bool) → b ≡ is_some o → b ≡ false → o ≡ None
has_slot None b is no_slot = refl
has_slot (Some x) b is no_slot = absurd (false≢true (sym no_slot ∙ is))

held_slot : {V : Type 0} (b : Bool) (w : Option V) (slot : Option (Option V)) → is_some slot ≡ true → is_some (cond b (Some w) slot) ≡ true
held_slot true w slot held = refl
held_slot false w slot held = held

-- a write of a slot keeps the room of each key
pub keeps_written : {K V : Type 0} {R : K → K → Ordering} (es fs : List (K × Option V)) (k : K) (w : Option V) → IsWritten R es fs k w → KeepsRoom R es fs
keeps_written {R = R} es fs k w is = record { keeps = λ q room. record { slot = ap is_some (is.each q) ∙ held_slot (eq_by_cmp R q k) w (fin.find R q es) room.slot } }

-- a key that has room is found
pub found_slot : {K V : Type 0} {R : K → K → Ordering} (es : List (K × Option V)) (k : K) → HasRoom R es k → fin.find R k es ≡ None → ⊥
found_slot es k room none = false≢true (sym (ap is_some none) ∙ room.slot)

pub on_some : {A : Type 0} (o : Option A) (P : Type 0) → P → OnSome o P
on_some None P h = tt
on_some (Some x) P h = h

-- where nothing lives there is nothing to take out
pub remove_absent : {K V : Type 0} {R : K → K → Ordering} → IsTotalOrder R → fin.IsAntisymmetric R → (m : fin.FinMap R V) (k : K) → fin.get m k ≡ None → fin.remove m k ≡ m
remove_absent {R = R} o same m k none = fin.same_map o same _ _ (λ q. fin.get-remove o m k q ∙ at_key q (eq_by_cmp R q k) refl)
  where
    at_key : (q : _) (b : Bool) → eq_by_cmp R q k ≡ b → cond b None (fin.get m q) ≡ fin.get m q
    at_key q true is = sym none ∙ ap (fin.get m) (sym (same_key same q k is))
    at_key q false is = refl

pub nothing_at : {V : Type 0} (o : Option V) → is_none o ≡ true → o ≡ None
nothing_at None is = refl
nothing_at (Some x) is = absurd (false≢true is)
