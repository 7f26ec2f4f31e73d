-- The counts of a list's chunks, raised and lowered one after the other.
use Rattle.std.proofs.Common.{◌≡◌, ℕ, ◌+◌, ◌-◌, ◌<◌, ◌≤◌, T, ◌++◌, ◌∷◌, ◌&&◌, ◌==◌, [], Bool, true, false, cond, List, nat_lt, Option, Some, None, Result, Ok, Err, refl, sym, ap, ◌∙◌, arith, take, drop, drop-cons, length, get_or, suc, add-one}
use Rattle.std.proofs.Math.Seq.{take-suc}
use Rattle.std.proofs.lemmas.List.Folds.{list_all-append}
use Rattle.std.specs.Prelude.{is_some, is_ok, MatchBool}
use Rattle.std.specs.List.{list_all}
use Rattle.std.proofs.lemmas.Bool.{and_parts, leb-true, ltb-true, lt-ltb}
use Rattle.std.proofs.lemmas.Bool.Decides.{nat_tests}
use Rattle.std.specs.Cmp.{Equal-is, nat_cmp_total, eq_by_cmp_equiv}
use Rattle.std.specs.FinMap as fin
use Rattle.std.specs.FinMap.Entries.{below_all, is_sorted}
use Rattle.std.specs.Ordering.{nat_cmp, eq_by_cmp, is_lt, is_eq}
use Rattle.std.specs.declared.cmp.Ordering.{Ordering}
use Rattle.std.specs.declared.cmp.Ordering.TheVariants.{Less, Equal, Greater}
use Rattle.gs_base.specs.declared.refusal.Refusal.{Refusal}
use Rattle.gs_base.specs.declared.refusal.Refusal.TheVariants.{Exhausted, BadLine}
use Rattle.gs_refs.specs.Counts.{Counts, last_count, raised_listed, raised_listed_from, lowered, lowered_from, raised_each, lowered_each, and_then, occurrences, has_count, count_or_zero, is_zero, IsCountOf}

abbrev same : ℕ → ℕ → Bool
same q h = eq_by_cmp nat_cmp q h

same_itself : (a : ℕ) → same a a ≡ true
same_itself a = (eq_by_cmp_equiv nat_cmp_total).refl a

same-is : (a b : ℕ) → same a b ≡ true → a ≡ b
same-is a b e = fin.nat_cmp-IsAntisymmetric a b ((Equal-is (nat_cmp a b)).0 e)

-- a listed handle's count with so many more
abbrev pub more : ℕ → Option ℕ → Option ℕ
more k None = None
more k (Some n) = Some (n + k)

more_none : (v : Option ℕ) → more 0 v ≡ v
more_none None = refl
more_none (Some n) = ap (λ k. Some k) (omega arith)

more_twice : (j k : ℕ) (v : Option ℕ) → more j (more k v) ≡ more (k + j) v
more_twice j k None = refl
more_twice j k (Some n) = ap (λ i. Some i) (omega arith)

is_some-more : (k : ℕ) (v : Option ℕ) → is_some (more k v) ≡ is_some v
is_some-more k None = refl
is_some-more k (Some n) = refl

-- the second counts have so many more as a handle stands in the list
abbrev pub IsRaised : Counts → List ℕ → Counts → Type 0
IsRaised m hs n = (q : ℕ) → fin.get n q ≡ more (occurrences q hs) (fin.get m q)

abbrev listed : Counts → List ℕ → Bool
listed m hs = list_all (λ h. is_some (fin.get m h)) hs

same_counts : (m n : Counts) → ((q : ℕ) → fin.get m q ≡ fin.get n q) → m ≡ n
same_counts m n h = fin.same_map nat_cmp_total fin.nat_cmp-IsAntisymmetric m n h

-- a handle's count changed
get_changed : (m : Counts) (h c q : ℕ) (v : Option ℕ) → (same q h ≡ true → Some c ≡ v) → (same q h ≡ false → fin.get m q ≡ v) → fin.get (fin.insert m h c) q ≡ v
get_changed m h c q v here there =
    fin.get-insert nat_cmp_total m h c q ∙ elim (same q h) as (λ b. same q h ≡ b → cond b (Some c) (fin.get m q) ≡ v) [
      | true ↦ λ b. here b
      | false ↦ λ b. there b
    ] refl

-- one reference more
one_more : (m : Counts) (h k : ℕ) → fin.get m h ≡ Some k → (q : ℕ) → fin.get (fin.insert m h (k + 1)) q ≡ more (cond (same q h) 1 0) (fin.get m q)
one_more m h k e q =
    fin.get-insert nat_cmp_total m h (k + 1) q ∙ elim (same q h) as (λ b. same q h ≡ b → cond b (Some (k + 1)) (fin.get m q) ≡ more (cond b 1 0) (fin.get m q)) [
      | true ↦ λ b. ap (more 1) (sym (ap (fin.get m) (same-is q h b) ∙ e))
      | false ↦ λ b. sym (more_none (fin.get m q))
    ] refl

-- one reference less
one_less : (m : Counts) (h k : ℕ) → 0 < k → fin.get m h ≡ Some k → (q : ℕ) → fin.get m q ≡ more (cond (same q h) 1 0) (fin.get (fin.insert m h (k - 1)) q)
one_less m h k some e q =
    elim (same q h) as (λ b. same q h ≡ b → fin.get m q ≡ more (cond b 1 0) (cond b (Some (k - 1)) (fin.get m q))) [
      | true ↦ λ b. ap (fin.get m) (same-is q h b) ∙ e ∙ ap (λ n. Some n) (omega (arith, some))
      | false ↦ λ b. sym (more_none (fin.get m q))
    ] refl
    ∙ ap (more (cond (same q h) 1 0)) (sym (fin.get-insert nat_cmp_total m h (k - 1) q))

-- the first step of a list that is raised
record StepUp (m : Counts) (h : ℕ) (hs : List ℕ) (n : Counts) : Type 0 where
  had : ℕ
  count : fin.get m h ≡ Some had
  room : had < last_count
  rest : raised_each (fin.insert m h (had + 1)) hs ≡ Ok n

step_up : (m n : Counts) (h : ℕ) (hs : List ℕ) → raised_each m (h ∷ hs) ≡ Ok n → StepUp m h hs n
step_up m n h hs is = each (fin.get m h) refl is
  where
    tested : (k : ℕ) (b : Bool) → fin.get m h ≡ Some k → nat_lt k last_count ≡ b → and_then (cond b (Ok (fin.insert m h (k + 1))) (Err Exhausted)) (λ c. raised_each c hs) ≡ Ok n → StepUp m h hs n
    tested k true e t g = record { had = k; count = e; room = ltb-true k last_count t; rest = g }
    tested k false e t g = absurd (cc)

    each : (v : Option ℕ) → fin.get m h ≡ v → and_then (raised_listed_from m h v) (λ c. raised_each c hs) ≡ Ok n → StepUp m h hs n
    each None e g = absurd (cc)
    each (Some k) e g = tested k (nat_lt k last_count) e refl g

-- the first step of a list that is lowered
record StepDown (m : Counts) (h : ℕ) (hs : List ℕ) (n : Counts) : Type 0 where
  had : ℕ
  count : fin.get m h ≡ Some had
  some : 0 < had
  rest : lowered_each (fin.insert m h (had - 1)) hs ≡ Ok n

step_down : (m n : Counts) (h : ℕ) (hs : List ℕ) → lowered_each m (h ∷ hs) ≡ Ok n → StepDown m h hs n
step_down m n h hs is = each (fin.get m h) refl is
  where
    tested : (k : ℕ) (b : Bool) → fin.get m h ≡ Some k → (k == 0) ≡ b → and_then (cond b (Err BadLine) (Ok (fin.insert m h (k - 1)))) (λ c. lowered_each c hs) ≡ Ok n → StepDown m h hs n
    tested k true e t g = absurd (cc)
    tested k false e t g = record { had = k; count = e; some = grind (arith, nat_tests); rest = g }

    each : (v : Option ℕ) → fin.get m h ≡ v → and_then (lowered_from m h v) (λ c. lowered_each c hs) ≡ Ok n → StepDown m h hs n
    each None e g = absurd (cc)
    each (Some k) e g = tested k (k == 0) e refl g

pub ok_is : (m n : Counts) → ◌≡◌ {A = Result Counts Refusal} (Ok m) (Ok n) → m ≡ n
ok_is m n e = cc

-- what raising each handle of a list makes of each count
pub raised-counts : (hs : List ℕ) (m n : Counts) → raised_each m hs ≡ Ok n → IsRaised m hs n
raised-counts [] m n is q = ap (λ c. fin.get c q) (sym (ok_is m n is)) ∙ sym (more_none (fin.get m q))
raised-counts (h ∷ hs) m n is q =
    let s = step_up m n h hs is in
    raised-counts hs (fin.insert m h (s.had + 1)) n s.rest q ∙ ap (more (occurrences q hs)) (one_more m h s.had s.count q)
    ∙ more_twice (occurrences q hs) (cond (same q h) 1 0) (fin.get m q)

-- what lowering each handle of a list was done to
pub lowered-counts : (hs : List ℕ) (m n : Counts) → lowered_each m hs ≡ Ok n → IsRaised n hs m
lowered-counts [] m n is q = ap (λ c. fin.get c q) (ok_is m n is) ∙ sym (more_none (fin.get n q))
lowered-counts (h ∷ hs) m n is q =
    let s = step_down m n h hs is in
    one_less m h s.had s.some s.count q ∙ ap (more (cond (same q h) 1 0)) (lowered-counts hs (fin.insert m h (s.had - 1)) n s.rest q)
    ∙ more_twice (cond (same q h) 1 0) (occurrences q hs) (fin.get n q) ∙ ap (λ k. more k (fin.get n q)) (omega arith)

-- only listed handles are raised
listed_before : (m : Counts) (h k : ℕ) (hs : List ℕ) → fin.get m h ≡ Some k → listed (fin.insert m h (k + 1)) hs ≡ listed m hs
listed_before m h k hs e = ap (λ (f : ℕ → Bool). list_all f hs) (λ i q. (ap is_some (one_more m h k e q) ∙ is_some-more (cond (same q h) 1 0) (fin.get m q)) i)

raised-listed : (hs : List ℕ) (m n : Counts) → raised_each m hs ≡ Ok n → listed m hs ≡ true
raised-listed [] m n is = refl
raised-listed (h ∷ hs) m n is =
    let s = step_up m n h hs is in
    ap (λ v. is_some v && listed m hs) s.count ∙ sym (listed_before m h s.had hs s.count) ∙ raised-listed hs (fin.insert m h (s.had + 1)) n s.rest

-- what is listed
record Has (v : Option ℕ) : Type 0 where
  had : ℕ
  is : v ≡ Some had

has : (v : Option ℕ) → is_some v ≡ true → Has v
has None h = absurd (cc)
has (Some k) h = record { had = k; is = refl }

-- what one reference less leaves of counts that have so many more
abbrev less : Counts → ℕ → ℕ → List ℕ → Counts
less n h k hs = fin.insert n h (k + occurrences h hs)

count_here : (m n : Counts) (h k : ℕ) (hs : List ℕ) → fin.get m h ≡ Some k → IsRaised m (h ∷ hs) n → fin.get n h ≡ Some (k + (1 + occurrences h hs))
count_here m n h k hs e up = up h ∙ ap (more (occurrences h (h ∷ hs))) e ∙ ap (λ b. Some (k + (cond b 1 0 + occurrences h hs))) (same_itself h)

lowers_here : (m n : Counts) (h k : ℕ) (hs : List ℕ) → fin.get m h ≡ Some k → IsRaised m (h ∷ hs) n → lowered n h ≡ Ok (less n h k hs)
lowers_here m n h k hs e up =
    let not_none : ((k + (1 + occurrences h hs)) == 0) ≡ false = grind (arith, nat_tests) in
    let one : k + (1 + occurrences h hs) - 1 ≡ k + occurrences h hs = omega arith in
    ap (lowered_from n h) (count_here m n h k hs e up) ∙ ap (λ b. cond b (Err BadLine) (Ok (fin.insert n h (k + (1 + occurrences h hs) - 1)))) not_none
    ∙ ap (λ c. Ok (fin.insert n h c)) one

lowered_here : (m n : Counts) (h k : ℕ) (hs : List ℕ) → fin.get m h ≡ Some k → IsRaised m (h ∷ hs) n → IsRaised m hs (less n h k hs)
lowered_here m n h k hs e up q =
    get_changed n h (k + occurrences h hs) q (more (occurrences q hs) (fin.get m q))
    (λ b. sym (ap (λ r. more (occurrences r hs) (fin.get m r)) (same-is q h b) ∙ ap (more (occurrences h hs)) e))
    (λ b. up q ∙ ap (λ t. more (cond t 1 0 + occurrences q hs) (fin.get m q)) b ∙ ap (λ c. more c (fin.get m q)) (omega arith))

-- counts that have so many more can be lowered
pub lowers : (hs : List ℕ) (m n : Counts) → IsRaised m hs n → listed m hs ≡ true → lowered_each n hs ≡ Ok m
lowers [] m n up l = ap (λ c. Ok c) (same_counts n m (λ q. up q ∙ more_none (fin.get m q)))
lowers (h ∷ hs) m n up l =
    let parts = and_parts (is_some (fin.get m h)) (listed m hs) l in
    let had = has (fin.get m h) parts.0 in
    ap (λ r. and_then r (λ c. lowered_each c hs)) (lowers_here m n h had.had hs had.is up)
    ∙ lowers hs m (less n h had.had hs) (lowered_here m n h had.had hs had.is up) parts.1

-- what was raised is lowered again
pub lowered_back : (hs : List ℕ) (m n : Counts) → raised_each m hs ≡ Ok n → lowered_each n hs ≡ Ok m
lowered_back hs m n is = lowers hs m n (raised-counts hs m n is) (raised-listed hs m n is)

abbrev pub fitting : Counts → List ℕ → Bool
fitting m hs = list_all (λ h. has_count (fin.get m h)) hs

-- what has so many more, and is a count
record Room (v : Option ℕ) (k : ℕ) : Type 0 where
  had : ℕ
  is : v ≡ Some had
  most : had + k ≤ last_count

room : (v w : Option ℕ) (k : ℕ) → w ≡ more k v → has_count w ≡ true → Room v k
room None w k e h = absurd (let t : has_count w ≡ false = ap has_count e in cc)
room (Some n) w k e h = record { had = n; is = refl; most = leb-true (n + k) last_count (sym (ap has_count e) ∙ h) }

-- counts can be raised to those that have so many more, if these are counts
pub raises : (hs : List ℕ) (m n : Counts) → IsRaised m hs n → fitting n hs ≡ true → raised_each m hs ≡ Ok n
raises [] m n up fits = ap (λ c. Ok c) (same_counts m n (λ q. sym (up q ∙ more_none (fin.get m q))))
raises (h ∷ hs) m n up fits =
    let parts = and_parts (has_count (fin.get n h)) (fitting n hs) fits in
    let r = room (fin.get m h) (fin.get n h) (1 + occurrences h hs) (up h ∙ ap (λ b. more (cond b 1 0 + occurrences h hs) (fin.get m h)) (same_itself h)) parts.0 in
    let most = r.most in
    let below : nat_lt r.had last_count ≡ true = lt-ltb r.had last_count (omega (arith, most)) in
    ap (λ v. and_then (raised_listed_from m h v) (λ c. raised_each c hs)) r.is
    ∙ ap (λ b. and_then (cond b (Ok (fin.insert m h (r.had + 1))) (Err Exhausted)) (λ c. raised_each c hs)) below
    ∙ raises hs (fin.insert m h (r.had + 1)) n (raised_here m n h r.had hs r.is up) parts.1
  where
    raised_here : (m n : Counts) (h k : ℕ) (hs : List ℕ) → fin.get m h ≡ Some k → IsRaised m (h ∷ hs) n → IsRaised (fin.insert m h (k + 1)) hs n
    raised_here m n h k hs e up q =
        up q ∙ sym (more_twice (occurrences q hs) (cond (same q h) 1 0) (fin.get m q)) ∙ ap (more (occurrences q hs)) (sym (one_more m h k e q))

-- what was lowered is raised again
pub raised_back : (hs : List ℕ) (m n : Counts) → lowered_each m hs ≡ Ok n → fitting m hs ≡ true → raised_each n hs ≡ Ok m
raised_back hs m n is fits = raises hs n m (lowered-counts hs m n is) fits

-- one more handle at the end
pub raised_last : (hs : List ℕ) (h : ℕ) (m n o : Counts) → raised_each m hs ≡ Ok n → raised_listed n h ≡ Ok o → raised_each m (hs ++ h ∷ []) ≡ Ok o
raised_last [] h m n o is next =
    ap (λ c. and_then (raised_listed c h) (λ d. Ok d)) (ok_is m n is) ∙ ap (λ r. and_then r (λ d. Ok d)) next
raised_last (k ∷ hs) h m n o is next =
    let s = step_up m n k hs is in
    begun k h hs m n s o (raised_last hs h (fin.insert m k (s.had + 1)) n o s.rest next)
  where
    begun : (k h : ℕ) (hs : List ℕ) (m n : Counts) (s : StepUp m k hs n) (o : Counts) → raised_each (fin.insert m k (s.had + 1)) (hs ++ h ∷ []) ≡ Ok o → raised_each m (k ∷ hs ++ h ∷ []) ≡ Ok o
    begun k h hs m n s o rest =
        let below : nat_lt s.had last_count ≡ true = lt-ltb s.had last_count s.room in
        ap (λ v. and_then (raised_listed_from m k v) (λ c. raised_each c (hs ++ h ∷ []))) s.count
        ∙ ap (λ b. and_then (cond b (Ok (fin.insert m k (s.had + 1))) (Err Exhausted)) (λ c. raised_each c (hs ++ h ∷ []))) below ∙ rest

pub lowered_last : (hs : List ℕ) (h : ℕ) (m n o : Counts) → lowered_each m hs ≡ Ok n → lowered n h ≡ Ok o → lowered_each m (hs ++ h ∷ []) ≡ Ok o
lowered_last [] h m n o is next =
    ap (λ c. and_then (lowered c h) (λ d. Ok d)) (ok_is m n is) ∙ ap (λ r. and_then r (λ d. Ok d)) next
lowered_last (k ∷ hs) h m n o is next =
    let s = step_down m n k hs is in
    begun k h hs m n s o (lowered_last hs h (fin.insert m k (s.had - 1)) n o s.rest next)
  where
    begun : (k h : ℕ) (hs : List ℕ) (m n : Counts) (s : StepDown m k hs n) (o : Counts) → lowered_each (fin.insert m k (s.had - 1)) (hs ++ h ∷ []) ≡ Ok o → lowered_each m (k ∷ hs ++ h ∷ []) ≡ Ok o
    begun k h hs m n s o rest =
        let some = s.some in
        let not_none : (s.had == 0) ≡ false = grind (arith, nat_tests) in
        ap (λ v. and_then (lowered_from m k v) (λ c. lowered_each c (hs ++ h ∷ []))) s.count
        ∙ ap (λ b. and_then (cond b (Err BadLine) (Ok (fin.insert m k (s.had - 1)))) (λ c. lowered_each c (hs ++ h ∷ []))) not_none ∙ rest

all_at : (p : ℕ → Bool) (hs : List ℕ) (h : ℕ) → list_all p hs ≡ true → 0 < occurrences h hs → p h ≡ true
all_at p [] h all some = absurd (omega (arith, some))
all_at p (k ∷ hs) h all some =
    let parts = and_parts (p k) (list_all p hs) all in
    at_one p h k hs parts.0 (all_at p hs h parts.1) (same h k) refl some
  where
    at_one : (p : ℕ → Bool) (h k : ℕ) (hs : List ℕ) → p k ≡ true → (0 < occurrences h hs → p h ≡ true) → (b : Bool) → same h k ≡ b → 0 < cond b 1 0 + occurrences h hs → p h ≡ true
    at_one p h k hs here rest true e some = ap p (same-is h k e) ∙ here
    at_one p h k hs here rest false e some = rest (omega (arith, some))

fitting_next : (hs : List ℕ) (h : ℕ) (m n : Counts) → lowered_each m hs ≡ Ok n → fitting m hs ≡ true → has_count (fin.get n h) ≡ true → has_count (fin.get m h) ≡ true
fitting_next hs h m n is fits here = each (nat_lt 0 (occurrences h hs)) refl
  where
    each : (b : Bool) → nat_lt 0 (occurrences h hs) ≡ b → has_count (fin.get m h) ≡ true
    each true e = all_at (λ k. has_count (fin.get m k)) hs h fits (ltb-true 0 (occurrences h hs) e)
    each false e =
        let none : occurrences h hs ≡ 0 = grind (arith, nat_tests) in
        ap has_count (lowered-counts hs m n is h ∙ ap (λ k. more k (fin.get n h)) none ∙ more_none (fin.get n h)) ∙ here

pub fitting_last : (hs : List ℕ) (h : ℕ) (m n : Counts) → lowered_each m hs ≡ Ok n → fitting m hs ≡ true → has_count (fin.get n h) ≡ true → fitting m (hs ++ h ∷ []) ≡ true
fitting_last hs h m n is fits here =
    list_all-append (λ k. has_count (fin.get m k)) hs (h ∷ []) ∙ ap (λ b. b && (has_count (fin.get m h) && true)) fits
    ∙ ap (λ b. b && true) (fitting_next hs h m n is fits here)

-- one handle further in a list
pub take_next : (hs : List ℕ) (i h : ℕ) → i < length hs → h ≡ get_or hs i h → take (i + 1) hs ≡ take i hs ++ h ∷ []
take_next hs i h below is = ap (λ k. take k hs) (add-one i) ∙ take-suc hs i h below ∙ ap (λ x. take i hs ++ x ∷ []) (sym is)

pub drop_next : (hs : List ℕ) (i h : ℕ) → i < length hs → h ≡ get_or hs i h → drop i hs ≡ h ∷ drop (i + 1) hs
drop_next hs i h below is = drop-cons hs i h below ∙ ap (λ x. x ∷ drop (suc i) hs) (sym is) ∙ ap (λ k. h ∷ drop k hs) (sym (add-one i))

-- one reference less of a handle, seen at each
less_at : (m : Counts) (h k q : ℕ) → 0 < k → fin.get m h ≡ Some k → count_or_zero (fin.get m q) ≡ cond (same q h) 1 0 + count_or_zero (fin.get (fin.insert m h (k - 1)) q)
less_at m h k q some e =
    elim (same q h) as (λ b. same q h ≡ b → count_or_zero (fin.get m q) ≡ cond b 1 0 + count_or_zero (cond b (Some (k - 1)) (fin.get m q))) [
      | true ↦ λ b. ap count_or_zero (ap (fin.get m) (same-is q h b) ∙ e) ∙ omega (arith, some)
      | false ↦ λ b. omega arith
    ] refl
    ∙ ap (λ v. cond (same q h) 1 0 + count_or_zero v) (sym (fin.get-insert nat_cmp_total m h (k - 1) q))

-- a count is the sum of what is taken from it and what is left
pub lowered-sum : (hs : List ℕ) (m n : Counts) (q : ℕ) → lowered_each m hs ≡ Ok n → count_or_zero (fin.get m q) ≡ occurrences q hs + count_or_zero (fin.get n q)
lowered-sum [] m n q is = ap (λ c. count_or_zero (fin.get c q)) (ok_is m n is) ∙ omega arith
lowered-sum (h ∷ hs) m n q is =
    let s = step_down m n h hs is in
    less_at m h s.had q s.some s.count ∙ ap (λ k. cond (same q h) 1 0 + k) (lowered-sum hs (fin.insert m h (s.had - 1)) n q s.rest) ∙ omega arith

-- what has a reference
record Referred (v : Option ℕ) : Type 0 where
  had : ℕ
  is : v ≡ Some had
  some : 0 < had

referred : (v : Option ℕ) → 0 < count_or_zero v → Referred v
referred None h = absurd (omega (arith, h))
referred (Some k) h = record { had = k; is = refl; some = h }

-- what stands in no list more often than its count says can be lowered
pub enough : (hs : List ℕ) (m : Counts) → ((q : ℕ) → occurrences q hs ≤ count_or_zero (fin.get m q)) → is_ok (lowered_each m hs) ≡ true
enough [] m few = refl
enough (h ∷ hs) m few =
    let first : 0 < count_or_zero (fin.get m h) = (let f = few h in let one : occurrences h (h ∷ hs) ≡ 1 + occurrences h hs = ap (λ b. cond b 1 0 + occurrences h hs) (same_itself h) in omega arith) in
    let r = referred (fin.get m h) first in
    let some = r.some in
    let not_none : (r.had == 0) ≡ false = grind (arith, nat_tests) in
    ap (λ v. is_ok (and_then (lowered_from m h v) (λ c. lowered_each c hs))) r.is
    ∙ ap (λ b. is_ok (and_then (cond b (Err BadLine) (Ok (fin.insert m h (r.had - 1)))) (λ c. lowered_each c hs))) not_none
    ∙ enough hs (fin.insert m h (r.had - 1)) (λ q. (let f = few q in let l = less_at m h r.had q r.some r.is in omega arith))

-- no handle has a count above zero
abbrev AllZero : Counts → Type 0
AllZero m = (q : ℕ) → count_or_zero (fin.get m q) ≡ 0

zero_found : (es : List (ℕ × ℕ)) (q : ℕ) → list_all (λ e. e.1 == 0) es ≡ true → count_or_zero (fin.find nat_cmp q es) ≡ 0
zero_found [] q all = refl
zero_found (e ∷ es) q all =
    let parts = and_parts (e.1 == 0) (list_all (λ f. f.1 == 0) es) all in
    let here : e.1 ≡ 0 = (let p = parts.0 in grind (arith, nat_tests)) in
    let there = zero_found es q parts.1 in
    elim (same q e.0) as (λ b. count_or_zero (cond b (Some e.1) (fin.find nat_cmp q es)) ≡ 0) [
      | true ↦ here
      | false ↦ there
    ]

pub zero_at : (m : Counts) → is_zero m ≡ true → AllZero m
zero_at m all q = ap count_or_zero (fin.get-entries m q) ∙ zero_found (fin.entries m) q all

t_true : (b : Bool) → T b → b ≡ true
t_true true h = refl
t_true false h = absurd h

not_same : (o : Ordering) → is_lt o ≡ true → is_eq o ≡ false
not_same Less h = refl
not_same Equal h = absurd (cc)
not_same Greater h = absurd (cc)

-- a handle before all of a list isn't found there
not_below : (es : List (ℕ × ℕ)) (x : ℕ) → below_all nat_cmp x es ≡ true → fin.find nat_cmp x es ≡ None
not_below [] x h = refl
not_below (e ∷ es) x h =
    let parts = and_parts (is_lt (nat_cmp x e.0)) (below_all nat_cmp x es) h in
    ap (λ b. cond b (Some e.1) (fin.find nat_cmp x es)) (not_same (nat_cmp x e.0) parts.0) ∙ not_below es x parts.1

zeros : (es : List (ℕ × ℕ)) → is_sorted nat_cmp es ≡ true → ((q : ℕ) → count_or_zero (fin.find nat_cmp q es) ≡ 0) → list_all (λ e. e.1 == 0) es ≡ true
zeros [] sorted none = refl
zeros (e ∷ es) sorted none =
    let parts = and_parts (below_all nat_cmp e.0 es) (is_sorted nat_cmp es) sorted in
    let here : e.1 ≡ 0 = ap (λ b. count_or_zero (cond b (Some e.1) (fin.find nat_cmp e.0 es))) (sym (same_itself e.0)) ∙ none e.0 in
    let test : (e.1 == 0) ≡ true = grind (arith, nat_tests) in
    ap (λ b. b && list_all (λ f. f.1 == 0) es) test
    ∙ zeros es parts.1 (λ q. later e es q parts.0 (same q e.0) refl (none q))
  where
    later : (e : ℕ × ℕ) (es : List (ℕ × ℕ)) (q : ℕ) → below_all nat_cmp e.0 es ≡ true → (b : Bool) → same q e.0 ≡ b → count_or_zero (cond b (Some e.1) (fin.find nat_cmp q es)) ≡ 0 → count_or_zero (fin.find nat_cmp q es) ≡ 0
    later e es q below true t h = ap (λ k. count_or_zero (fin.find nat_cmp k es)) (same-is q e.0 t) ∙ ap count_or_zero (not_below es e.0 below)
    later e es q below false t h = h

pub zero_everywhere : (m : Counts) → AllZero m → is_zero m ≡ true
zero_everywhere m none = zeros (fin.entries m) (t_true _ (fin.entries_sorted m)) (λ q. ap count_or_zero (sym (fin.get-entries m q)) ∙ none q)

-- the counts are a list's where it can be taken from them and leaves none
pub is_count_of : (hs : List ℕ) (m n : Counts) → lowered_each m hs ≡ Ok n → MatchBool (is_zero n) (IsCountOf hs m) (IsCountOf hs m → ⊥)
is_count_of hs m n is = each (is_zero n) refl
  where
    each : (b : Bool) → is_zero n ≡ b → MatchBool b (IsCountOf hs m) (IsCountOf hs m → ⊥)
    each true e = λ q. lowered-sum hs m n q is ∙ ap (λ k. occurrences q hs + k) (zero_at n e q) ∙ omega arith
    each false e = λ same_counts. (let t : true ≡ false = sym (zero_everywhere n (λ q. (let s = lowered-sum hs m n q is in let c = same_counts q in omega arith))) ∙ e in cc)

pub isnt_count_of : (hs : List ℕ) (m : Counts) (e : Refusal) → lowered_each m hs ≡ Err e → IsCountOf hs m → ⊥
isnt_count_of hs m e refused same_counts =
    let t : true ≡ false = sym (enough hs m (λ q. (let c = same_counts q in omega arith))) ∙ ap is_ok refused in cc
