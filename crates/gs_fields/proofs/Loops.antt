-- Lists as a loop reads and writes them.
use Rattle.std.proofs.Common.{◌≡◌, ℕ, suc, ◌-◌, ◌+◌, ◌≤◌, ◌<◌, List, [], ◌∷◌, ◌++◌, length, map, drop, get_or, Option, Some, None, Result, refl, sym, ap, ◌∙◌, subst, append_assoc, arith}
use Rattle.std.proofs.Math.Seq.{drop-cons}
use Rattle.std.proofs.lemmas.List.{append-nil, map-id, nil_from_length, length-drop, length-map}
use Rattle.gs_fields.proofs.Steps.{puts_two}
use Rattle.std.specs.List.{flat_map, AllByRecursion}
use Rattle.gs_fields.specs.declared.fault.Fault.{Fault}
use Rattle.gs_fields.specs.declared.fault.Fault.TheVariants as faults
use Rattle.gs_fields.specs.Reading.{◌>>=◌, Reader, times}
use Rattle.gs_fields.specs.Work.{Fails, Unput, Puts}

-- what was read before, and what is still read
abbrev pub with_front : {A : Type 0} → List A → Option (List A × List ℕ) → Option (List A × List ℕ)
with_front front read = read >>= λ x. Some (front ++ x.0, x.1)

regroup : {A : Type 0} (front : List A) (n : A) (read : Option (List A × List ℕ)) → with_front front (read >>= λ x. Some (n ∷ x.0, x.1)) ≡ with_front (front ++ n ∷ []) read
regroup front n (Some x) = ap (λ ns. Some (ns, x.1)) (sym (append_assoc front (n ∷ []) x.0))
regroup front n None = refl

nothing_before : {A : Type 0} (read : Option (List A × List ℕ)) → with_front [] read ≡ read
nothing_before (Some x) = refl
nothing_before None = refl

pub begins : {A : Type 0} (item : Reader A) (count : ℕ) (bytes : List ℕ) → with_front [] (times item (count - 0) bytes) ≡ times item count bytes
begins item count bytes =
    let k : count - 0 ≡ count = omega arith in
    nothing_before (times item (count - 0) bytes) ∙ ap (λ m. times item m bytes) k

pub goes_on : {A : Type 0} (item : Reader A) (front : List A) (count i : ℕ) (bytes : List ℕ) (n : A) (after : List ℕ) (total : Option (List A × List ℕ)) → i < count → item bytes ≡ Some (n, after)
    → with_front front (times item (count - i) bytes) ≡ total → with_front (front ++ n ∷ []) (times item (count - (i + 1)) after) ≡ total
goes_on {A = A} item front count i bytes n after total lt h so_far =
    let k : count - i ≡ suc (count - (i + 1)) = omega arith in
    let one : with_front front (times item (suc (count - (i + 1))) bytes) ≡ with_front (front ++ n ∷ []) (times item (count - (i + 1)) after) =
    ap (λ (r : Option (A × List ℕ)). with_front front (r >>= λ x. times item (count - (i + 1)) x.1 >>= λ xs. Some (x.0 ∷ xs.0, xs.1))) h ∙ regroup front n (times item (count - (i + 1)) after) in
    sym one ∙ ap (λ m. with_front front (times item m bytes)) (sym k) ∙ so_far

pub ends : {A : Type 0} (item : Reader A) (e : Fault) (front : List A) (count i : ℕ) (bytes : List ℕ) (total : Option (List A × List ℕ)) → i < count → Fails e (item bytes)
    → with_front front (times item (count - i) bytes) ≡ total → Fails e total
ends item faults.Memory front count i bytes total lt h so_far = tt
ends {A = A} item faults.Form front count i bytes total lt h so_far =
    let k : count - i ≡ suc (count - (i + 1)) = omega arith in
    sym so_far ∙ ap (λ m. with_front front (times item m bytes)) k ∙ ap (λ (r : Option (A × List ℕ)). with_front front (r >>= λ x. times item (count - (i + 1)) x.1 >>= λ xs. Some (x.0 ∷ xs.0, xs.1))) h

pub is_done : {A : Type 0} (item : Reader A) (front : List A) (count i : ℕ) (bytes : List ℕ) (total : Option (List A × List ℕ)) → count ≤ i → with_front front (times item (count - i) bytes) ≡ total → total ≡ Some (front, bytes)
is_done item front count i bytes total le so_far =
    let k : count - i ≡ 0 = omega arith in
    sym so_far ∙ ap (λ m. with_front front (times item m bytes)) k ∙ ap (λ ns. Some (ns, bytes)) (append-nil front)

-- ---- writing

-- what is still to be written: it can be where the whole can, and what stands there goes on to the whole
pub record Left {X A : Type 0} (plain : X → A) (Is : A → Type 0) (write : A → List ℕ) (whole : List X) (left : List X) (start out : List ℕ) : Type 0 where
  pub enough : AllByRecursion Is (map plain left) → AllByRecursion Is (map plain whole)
  pub needed : AllByRecursion Is (map plain whole) → AllByRecursion Is (map plain left)
  pub bytes : out ++ flat_map write (map plain left) ≡ start ++ flat_map write (map plain whole)

pub all_left : {X A : Type 0} (plain : X → A) (Is : A → Type 0) (write : A → List ℕ) (whole : List X) (start : List ℕ) → Left plain Is write whole whole start start
all_left plain Is write whole start = record { enough = λ h. h; needed = λ h. h; bytes = refl }

pub one_less : {X A : Type 0} (plain : X → A) (Is : A → Type 0) (write : A → List ℕ) (whole left : List X) (x : X) (rest : List X) (start out new : List ℕ) → left ≡ x ∷ rest → Is (plain x) × (new ≡ out ++ write (plain x))
    → Left plain Is write whole left start out → Left plain Is write whole rest start new
one_less plain Is write whole left x rest start out new e put l =
    let m : Left plain Is write whole (x ∷ rest) start out = subst (λ z. Left plain Is write whole z start out) e l in
    record {
      enough = λ h. m.enough (put.0, h);
      needed = λ h. (m.needed h).1;
      bytes = ap (λ z. z ++ flat_map write (map plain rest)) put.1 ∙ append_assoc out (write (plain x)) (flat_map write (map plain rest)) ∙ m.bytes;
    }

pub not_put : {X A : Type 0} (plain : X → A) (Is : A → Type 0) (write : A → List ℕ) (whole left : List X) (x : X) (rest : List X) (start out : List ℕ) (e : Fault) → left ≡ x ∷ rest → Unput (Is (plain x)) e
    → Left plain Is write whole left start out → Unput (AllByRecursion Is (map plain whole)) e
not_put plain Is write whole left x rest start out faults.Memory e h l = tt
not_put plain Is write whole left x rest start out faults.Form e h l = λ k. h ((subst (λ z. Left plain Is write whole z start out) e l).needed k).0

pub none_left : {X A : Type 0} (plain : X → A) (Is : A → Type 0) (write : A → List ℕ) (whole left : List X) (start out : List ℕ) → left ≡ [] → Left plain Is write whole left start out
    → AllByRecursion Is (map plain whole) × (out ≡ start ++ flat_map write (map plain whole))
none_left plain Is write whole left start out e l =
    let m : Left plain Is write whole [] start out = subst (λ z. Left plain Is write whole z start out) e l in
    (m.enough tt, sym (append-nil out) ∙ m.bytes)

pub as_it_is : {A : Type 0} (xs : List A) → map (λ x. x) xs ≡ xs
as_it_is xs = map-id xs

pub cut_at : {X : Type 0} (xs : List X) (i : ℕ) (x : X) → i < length xs → x ≡ get_or xs i x → drop i xs ≡ x ∷ drop (i + 1) xs
cut_at xs i x lt e =
    let k : suc i ≡ i + 1 = omega arith in
    drop-cons xs i x lt ∙ ap (λ z. z ∷ drop (suc i) xs) (sym e) ∙ ap (λ n. x ∷ drop n xs) k

pub cut_end : {X : Type 0} (xs : List X) (i : ℕ) → length xs ≤ i → drop i xs ≡ []
cut_end xs i le = nil_from_length (drop i xs) (omega (arith, length-drop i xs))

pub listed : {X A : Type 0} (plain : X → A) (Is : A → Type 0) (write : A → List ℕ) (width : ℕ → List ℕ) (limit : ℕ) (items : List X) (count : ℕ) (start mid out : List ℕ) (r : Result (Unit {0}) Fault) → count < limit → count ≡ length items → mid ≡ start ++ width count
    → Puts (AllByRecursion Is (map plain items)) (flat_map write (map plain items)) mid out r
    → Puts ((length (map plain items) < limit) × AllByRecursion Is (map plain items)) (width (length (map plain items)) ++ flat_map write (map plain items)) start out r
listed plain Is write width limit items count start mid out r lt same first rest =
    let many : count ≡ length (map plain items) = same ∙ sym (length-map items plain) in
    puts_two (length (map plain items) < limit) (AllByRecursion Is (map plain items)) (width (length (map plain items))) (flat_map write (map plain items)) start mid out r
    (rw (← many) lt, first ∙ ap (λ n. start ++ width n) many) rest
