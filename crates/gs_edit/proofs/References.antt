-- What edits make of the counts, and that inverses take it back.
use Rattle.std.proofs.Common.{◌≡◌, ℕ, ◌+◌, ◌-◌, ◌<◌, ◌≤◌, ◌&&◌, ◌||◌, Bool, true, false, not, cond, List, [], ◌∷◌, nat_lt, nat_le, refl, sym, ap, ◌∙◌, arith, ◌==◌}
use Rattle.std.specs.Prelude.{Option, Some, None, Result, Ok, Err, is_some, is_none}
use Rattle.std.proofs.lemmas.Bool.{ltb-true, lt-ltb, and_parts, leb-true}
use Rattle.std.specs.List.{list_any, list_all}
use Rattle.std.proofs.lemmas.Bool.Decides.{nat_tests}
use Rattle.std.specs.Cmp.{Equal-is, nat_cmp_total, eq_by_cmp_equiv}
use Rattle.std.specs.Ordering.{nat_cmp, eq_by_cmp}
use Rattle.std.specs.FinMap as fin
use Rattle.gs_base.specs.declared.refusal.Refusal.{Refusal}
use Rattle.gs_base.specs.declared.refusal.Refusal.TheVariants.{BadLine, Exhausted}
use Rattle.gs_refs.specs.Counts.{Counts, count_or_zero, last_count, raised, raised_from, lowered, lowered_from, unlisted, unlisted_from, taken_each, put_each, without_each, with_each, is_at_zero, ascends, CountsDo}
use Rattle.gs_edit.specs.Edits.{handed_over, has_reference}
use Rattle.gs_edit.specs.Names.{is_one, has_room, returned, without_added, without_changed, accepted}

abbrev pub same : ℕ → ℕ → Bool
same a b = eq_by_cmp nat_cmp a b

same_itself : (a : ℕ) → same a a ≡ true
same_itself a = (eq_by_cmp_equiv nat_cmp_total).refl a

pub same-is : (a b : ℕ) → same a b ≡ true → a ≡ b
same-is a b e = fin.nat_cmp-IsAntisymmetric a b ((Equal-is (nat_cmp a b)).0 e)

pub same_counts : (m n : Counts) → ((q : ℕ) → fin.get m q ≡ fin.get n q) → m ≡ n
same_counts m n h = fin.same_map nat_cmp_total fin.nat_cmp-IsAntisymmetric m n h

pub get-put : (m : Counts) (c v : ℕ) → fin.get (fin.insert m c v) c ≡ Some v
get-put m c v = fin.get-insert nat_cmp_total m c v c ∙ ap (λ b. cond b (Some v) (fin.get m c)) (same_itself c)

-- two handles of which one is listed and one isn't
apart : (m : Counts) (a b : ℕ) → is_none (fin.get m a) ≡ true → is_none (fin.get m b) ≡ false → same a b ≡ false
apart m a b none some = elim (same a b) as (λ t. same a b ≡ t → t ≡ false) [
  | true ↦ λ t. absurd (let k : is_none (fin.get m a) ≡ false = ap (λ c. is_none (fin.get m c)) (same-is a b t) ∙ some in cc)
  | false ↦ λ t. refl
] refl

turned : (a b : ℕ) (t : Bool) → same a b ≡ t → same b a ≡ t
turned a b t e = (eq_by_cmp_equiv nat_cmp_total).symm b a ∙ e

pub get-put_other : (m : Counts) (c v q : ℕ) → same q c ≡ false → fin.get (fin.insert m c v) q ≡ fin.get m q
get-put_other m c v q e = fin.get-insert nat_cmp_total m c v q ∙ ap (λ b. cond b (Some v) (fin.get m q)) e

pub get-removed_other : (m : Counts) (c q : ℕ) → same q c ≡ false → fin.get (fin.remove m c) q ≡ fin.get m q
get-removed_other m c q e = fin.get-remove nat_cmp_total m c q ∙ ap (λ b. cond b None (fin.get m q)) e

pub none_is : (v : Option ℕ) → is_none v ≡ true → v ≡ None
none_is None h = refl
none_is (Some n) h = absurd (cc)

-- a chunk that is listed and taken out again
pub remove_added : (m : Counts) (c v : ℕ) → is_none (fin.get m c) ≡ true → fin.remove (fin.insert m c v) c ≡ m
remove_added m c v none = same_counts (fin.remove (fin.insert m c v) c) m (λ q.
    fin.get-remove nat_cmp_total (fin.insert m c v) c q ∙ elim (same q c) as (λ b. same q c ≡ b → cond b None (fin.get (fin.insert m c v) q) ≡ fin.get m q) [
      | true ↦ λ b. sym (ap (fin.get m) (same-is q c b) ∙ none_is (fin.get m c) none)
      | false ↦ λ b. get-put_other m c v q b
    ] refl)

pub raised_new : (m n : Counts) (c : ℕ) → is_none (fin.get m c) ≡ true → raised m c ≡ Ok n → n ≡ fin.insert m c 1
raised_new m n c none is = let k : Ok n ≡ Ok (fin.insert m c 1) = sym is ∙ ap (raised_from m c) (none_is (fin.get m c) none) in cc

pub unlisted_now : (m new : Counts) (c : ℕ) (r : Result (Unit {0}) Refusal) → fin.get m c ≡ Some 1 → CountsDo (unlisted m c) r m new → new ≡ fin.remove m c
unlisted_now m new c (Ok _) one h = let k : Ok new ≡ Ok (fin.remove m c) = sym h ∙ ap (unlisted_from m c) one in cc
unlisted_now m new c (Err e) one h = absurd (let k : Ok (fin.remove m c) ≡ Err e = sym (ap (unlisted_from m c) one) ∙ h.0 in cc)

pub one_is : (v : Option ℕ) → is_one v ≡ true → v ≡ Some 1
one_is None h = absurd (cc)
one_is (Some n) h = ap (λ k. Some k) (grind (arith, nat_tests))

-- a new chunk that couldn't be put into its file
pub listed_in_vain : (m raised_one new : Counts) (c : ℕ) (r : Result (Unit {0}) Refusal) → is_none (fin.get m c) ≡ true → raised m c ≡ Ok raised_one → CountsDo (unlisted raised_one c) r raised_one new → new ≡ m
listed_in_vain m raised_one new c r none is h =
    let k = raised_new m raised_one c none is in
    unlisted_now raised_one new c r (ap (λ n. fin.get n c) k ∙ get-put m c 1) h ∙ ap (λ n. fin.remove n c) k ∙ remove_added m c 1 none

pub added_back : (m n : Counts) (c : ℕ) → is_none (fin.get m c) ≡ true → raised m c ≡ Ok n → without_added n (Some c) ≡ Some m
added_back m n c none is =
    let k = raised_new m n c none is in
    ap (λ v. without_added v (Some c)) k ∙ ap (λ v. cond (is_one v) (Some (fin.remove (fin.insert m c 1) c)) None) (get-put m c 1) ∙ ap (λ v. Some v) (remove_added m c 1 none)

-- what a chunk with a reference has
pub record Referred (m : Counts) (c n : ℕ) : Type 0 where
  pub count : fin.get m c ≡ Some n
  pub some : 0 < n
  pub most : n ≤ last_count

pub referred : (m : Counts) (c : ℕ) → has_reference (fin.get m c) ≡ true → (n : ℕ) × Referred m c n
referred m c h = each (fin.get m c) refl h
  where
    each : (v : Option ℕ) → fin.get m c ≡ v → has_reference v ≡ true → (n : ℕ) × Referred m c n
    each None e k = absurd (cc)
    each (Some n) e k = let parts = and_parts (nat_lt 0 n) (nat_le n last_count) k in (n, record { count = e; some = ltb-true 0 n parts.0; most = leb-true n last_count parts.1 })

pub handed_now : (m one new : Counts) (old c n : ℕ) (r : Result (Unit {0}) Refusal) → is_none (fin.get m c) ≡ true → Referred m old n → raised m c ≡ Ok one → CountsDo (lowered one old) r one new → new ≡ handed_over m old c
handed_now m one new old c n r none ref is h =
    let k = raised_new m one c none is in
    let far = turned c old false (apart m c old none (ap is_none ref.count)) in
    let count : fin.get one old ≡ Some n = ap (λ v. fin.get v old) k ∙ get-put_other m c 1 old far ∙ ref.count in
    let more = ref.some in
    let not_zero : (n == 0) ≡ false = grind (arith, nat_tests) in
    let lower : lowered one old ≡ Ok (fin.insert one old (n - 1)) = ap (lowered_from one old) count ∙ ap (λ b. cond b (Err BadLine) (Ok (fin.insert one old (n - 1)))) not_zero in
    lowered_is r lower h ∙ ap (λ v. fin.insert v old (n - 1)) k ∙ ap (λ v. fin.insert (fin.insert m c 1) old (count_or_zero v - 1)) (sym ref.count)
  where
    lowered_is : {x : Counts} (s : Result (Unit {0}) Refusal) → lowered one old ≡ Ok x → CountsDo (lowered one old) s one new → new ≡ x
    lowered_is {x = x} (Ok _) l g = let k : Ok new ≡ Ok x = sym g ∙ l in cc
    lowered_is {x = x} (Err e) l g = absurd (let k : Ok x ≡ Err e = sym l ∙ g.0 in cc)

-- a chunk that took the place of another is taken back
pub handed_back : (m : Counts) (old c n : ℕ) → is_none (fin.get m c) ≡ true → Referred m old n → without_changed (handed_over m old c) (Some c) old ≡ Some m
handed_back m old c n none ref =
    let far : same c old ≡ false = apart m c old none (ap is_none ref.count) in
    let over = handed_over m old c in
    let less = count_or_zero (fin.get m old) - 1 in
    let count : less + 1 ≡ n = (let z : count_or_zero (fin.get m old) ≡ n = ap count_or_zero ref.count in let s = ref.some in omega arith) in
    let first : fin.get over c ≡ Some 1 = get-put_other (fin.insert m c 1) old less c far ∙ get-put m c 1 in
    let second : fin.get over old ≡ Some less = get-put (fin.insert m c 1) old less in
    let room : nat_lt less last_count ≡ true = lt-ltb less last_count (let t = ref.most in omega arith) in
    let differ : (c == old) ≡ false = elim (c == old) as (λ b. (c == old) ≡ b → b ≡ false) [
      | true ↦ λ b. absurd (let e : c ≡ old = grind (arith, nat_tests) in let k : is_none (fin.get m c) ≡ false = ap (λ x. is_none (fin.get m x)) e ∙ ap is_none ref.count in cc)
      | false ↦ λ b. refl
    ] refl in
    let tests : (is_one (fin.get over c) && (not (c == old) && has_room (fin.get over old))) ≡ true =
    ap (λ v. is_one v && (not (c == old) && has_room (fin.get over old))) first ∙ ap (λ b. not b && has_room (fin.get over old)) differ ∙ ap has_room second ∙ room in
    let back : returned over c old ≡ m = same_counts (returned over c old) m (λ q.
    fin.get-insert nat_cmp_total (fin.remove over c) old (count_or_zero (fin.get over old) + 1) q
    ∙ elim (same q old) as (λ b. same q old ≡ b → cond b (Some (count_or_zero (fin.get over old) + 1)) (fin.get (fin.remove over c) q) ≡ fin.get m q) [
      | true ↦ λ b. ap (λ v. Some (count_or_zero v + 1)) second ∙ ap (λ v. Some v) count ∙ sym ref.count ∙ sym (ap (fin.get m) (same-is q old b))
      | false ↦ λ b. fin.get-remove nat_cmp_total over c q ∙ elim (same q c) as (λ d. same q c ≡ d → cond d None (fin.get over q) ≡ fin.get m q) [
        | true ↦ λ d. sym (ap (fin.get m) (same-is q c d) ∙ none_is (fin.get m c) none)
        | false ↦ λ d. get-put_other (fin.insert m c 1) old less q b ∙ get-put_other m c 1 q d
      ] refl
    ] refl) in
    ap (λ b. cond b (Some (returned over c old)) None) tests ∙ ap (λ v. Some v) back

-- a handle among others
abbrev pub among : ℕ → List ℕ → Bool
among q hs = list_any (λ h. same q h) hs

pub get-without : (hs : List ℕ) (m : Counts) (q : ℕ) → fin.get (without_each m hs) q ≡ cond (among q hs) None (fin.get m q)
get-without [] m q = refl
get-without (h ∷ hs) m q =
    get-without hs (fin.remove m h) q ∙ ap (λ v. cond (among q hs) None v) (fin.get-remove nat_cmp_total m h q)
    ∙ elim (same q h) as (λ b. cond (among q hs) None (cond b None (fin.get m q)) ≡ cond (b || among q hs) None (fin.get m q)) [
      | true ↦ none_twice (among q hs)
      | false ↦ refl
    ]
  where
    none_twice : (b : Bool) → ◌≡◌ {A = Option ℕ} (cond b None None) None
    none_twice true = refl
    none_twice false = refl

pub get-with : (hs : List ℕ) (m : Counts) (q : ℕ) → fin.get (with_each m hs) q ≡ cond (among q hs) (Some 0) (fin.get m q)
get-with [] m q = refl
get-with (h ∷ hs) m q =
    get-with hs (fin.insert m h 0) q ∙ ap (λ v. cond (among q hs) (Some 0) v) (fin.get-insert nat_cmp_total m h 0 q)
    ∙ elim (same q h) as (λ b. cond (among q hs) (Some 0) (cond b (Some 0) (fin.get m q)) ≡ cond (b || among q hs) (Some 0) (fin.get m q)) [
      | true ↦ zero_twice (among q hs)
      | false ↦ refl
    ]
  where
    zero_twice : (b : Bool) → ◌≡◌ {A = Option ℕ} (cond b (Some 0) (Some 0)) (Some 0)
    zero_twice true = refl
    zero_twice false = refl

pub all_among : (f : ℕ → Bool) (hs : List ℕ) (q : ℕ) → list_all f hs ≡ true → among q hs ≡ true → f q ≡ true
all_among f [] q all in_hs = absurd (cc)
all_among f (h ∷ hs) q all in_hs =
    let parts = and_parts (f h) (list_all f hs) all in
    elim (same q h) as (λ b. same q h ≡ b → (b || among q hs) ≡ true → f q ≡ true) [
      | true ↦ λ b k. ap f (same-is q h b) ∙ parts.0
      | false ↦ λ b k. all_among f hs q parts.1 k
    ] refl in_hs

pub all_of : (f : ℕ → Bool) (hs : List ℕ) → ((h : ℕ) → among h hs ≡ true → f h ≡ true) → list_all f hs ≡ true
all_of f [] each = refl
all_of f (h ∷ hs) each =
    ap (λ b. b && list_all f hs) (each h (ap (λ b. b || among h hs) (same_itself h)))
    ∙ all_of f hs (λ k in_hs. each k (later (same k h) in_hs))
  where
    later : (b : Bool) {c : Bool} → c ≡ true → (b || c) ≡ true
    later true e = refl
    later false e = e

zero_is : (v : Option ℕ) → is_at_zero v ≡ true → v ≡ Some 0
zero_is None h = absurd (cc)
zero_is (Some n) h = ap (λ k. Some k) (grind (arith, nat_tests))

-- chunks that are taken out are listed again
pub forgotten_back : (m n : Counts) (hs ks : List ℕ) → ks ≡ hs → taken_each m hs ≡ Ok n → accepted (put_each n ks) ≡ Some m
forgotten_back m n hs ks e is = ap (λ l. accepted (put_each n l)) e ∙ tested (ascends hs && list_all (λ h. is_at_zero (fin.get m h)) hs) refl is
  where
    tested : (b : Bool) → (ascends hs && list_all (λ h. is_at_zero (fin.get m h)) hs) ≡ b → cond b (Ok (without_each m hs)) (Err BadLine) ≡ Ok n → accepted (put_each n hs) ≡ Some m
    tested false t k = absurd (cc)
    tested true t k =
        let parts = and_parts (ascends hs) (list_all (λ h. is_at_zero (fin.get m h)) hs) t in
        let now : without_each m hs ≡ n = cc in
        let gone : list_all (λ h. is_none (fin.get n h)) hs ≡ true = all_of (λ h. is_none (fin.get n h)) hs (λ h in_hs. ap (λ v. is_none (fin.get v h)) (sym now) ∙ ap is_none (get-without hs m h ∙ ap (λ b. cond b None (fin.get m h)) in_hs)) in
        let back : with_each n hs ≡ m = same_counts (with_each n hs) m (λ q. get-with hs n q ∙ elim (among q hs) as (λ b. among q hs ≡ b → cond b (Some 0) (fin.get n q) ≡ fin.get m q) [
          | true ↦ λ b. sym (zero_is (fin.get m q) (all_among (λ h. is_at_zero (fin.get m h)) hs q parts.1 b))
          | false ↦ λ b. ap (λ v. fin.get v q) (sym now) ∙ get-without hs m q ∙ ap (λ d. cond d None (fin.get m q)) b
        ] refl) in
        ap (λ b. accepted (cond (b && list_all (λ h. is_none (fin.get n h)) hs) (Ok (with_each n hs)) (Err BadLine))) parts.0
        ∙ ap (λ b. accepted (cond b (Ok (with_each n hs)) (Err BadLine))) gone ∙ ap (λ v. Some v) back

-- the one reference of a chunk goes back
pub given_now : (m one new : Counts) (c old : ℕ) (r s : Result (Unit {0}) Refusal) → (is_one (fin.get m c) && (not (c == old) && has_room (fin.get m old))) ≡ true → CountsDo (unlisted m c) r m one → (is_some (fin.get one old) ≡ true → CountsDo (raised one old) s one new) → new ≡ returned m c old
given_now m one new c old r s tests h g =
    let parts = and_parts (is_one (fin.get m c)) (not (c == old) && has_room (fin.get m old)) tests in
    let rest = and_parts (not (c == old)) (has_room (fin.get m old)) parts.1 in
    let k : one ≡ fin.remove m c = unlisted_now m one c r (one_is (fin.get m c) parts.0) h in
    let far : same old c ≡ false = elim (same old c) as (λ b. same old c ≡ b → b ≡ false) [
      | true ↦ λ b. absurd (let e : old ≡ c = same-is old c b in let d = rest.0 in grind (arith, nat_tests))
      | false ↦ λ b. refl
    ] refl in
    let count : fin.get one old ≡ fin.get m old = ap (λ v. fin.get v old) k ∙ get-removed_other m c old far in
    each (fin.get m old) refl count rest.1 k
  where
    raised_is : {x : Counts} (t : Result (Unit {0}) Refusal) → raised one old ≡ Ok x → CountsDo (raised one old) t one new → new ≡ x
    raised_is {x = x} (Ok _) l f = let k : Ok new ≡ Ok x = sym f ∙ l in cc
    raised_is {x = x} (Err e) l f = absurd (let k : Ok x ≡ Err e = sym l ∙ f.0 in cc)

    each : (v : Option ℕ) → fin.get m old ≡ v → fin.get one old ≡ fin.get m old → has_room v ≡ true → one ≡ fin.remove m c → new ≡ returned m c old
    each None e count room k = absurd (cc)
    each (Some n) e count room k =
        let below = ltb-true n last_count room in
        let not_last : (n == last_count) ≡ false = grind (arith, nat_tests) in
        let up : raised one old ≡ Ok (fin.insert one old (n + 1)) = ap (raised_from one old) (count ∙ e) ∙ ap (λ b. cond b (Err Exhausted) (Ok (fin.insert one old (n + 1)))) not_last in
        raised_is s up (g (ap is_some (count ∙ e))) ∙ ap (λ v. fin.insert v old (n + 1)) k ∙ ap (λ v. fin.insert (fin.remove m c) old (count_or_zero v + 1)) (sym e)
