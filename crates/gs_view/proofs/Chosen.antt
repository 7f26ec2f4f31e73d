-- The greatest count and its answerers, as two loops find them.
use Rattle.std.proofs.Common.{◌≡◌, ◌≢◌, ℕ, ◌+◌, ◌<◌, ◌≤◌, Bool, true, false, List, [], ◌∷◌, Option, Some, None, refl, sym, ap, ◌∙◌, ⊎_elim, ◌⊎◌, inl, inr, arith, eqb, ltb, max, suc, zero}
use Rattle.std.proofs.lemmas.Bool.{cases_eq, cases_lt, false≢true}
use Rattle.std.proofs.lemmas.Bool.Decides.{nat_tests}
use Rattle.std.specs.Prelude.{◌&&◌, ◌||◌, IfSome}
use Rattle.std.specs.Option.{option_eq}
use Rattle.gs_base.specs.Members.{servers_where, is_member, with_member}
use Rattle.gs_base.specs.MemberLaws.{same_servers, servers_where-none, is_member-servers_where}
use Rattle.gs_view.specs.Choice.{Counts, answer_of, is_count, answerers, greater, greatest, Chooses}

-- ---- the answerers among the first servers
abbrev pub answerers_below : Counts → ℕ → ℕ → List ℕ
answerers_below answers count number = servers_where (λ server. ltb server number && is_count count (answer_of answers server))

no_below : (s : ℕ) (b : Bool) → (ltb s 0 && b) ≡ false
no_below s b = grind (arith, nat_tests)

same_below : (s n : ℕ) (b : Bool) → b ≡ true → s ≡ n → (eqb s n || (ltb s n && b)) ≡ (ltb s (n + 1) && b)
same_below s n b is here = grind (arith, nat_tests)

other_below : (s n : ℕ) (b : Bool) → s ≢ n → (eqb s n || (ltb s n && b)) ≡ (ltb s (n + 1) && b)
other_below s n b other = grind (arith, nat_tests)

same_out : (s n : ℕ) (b : Bool) → b ≡ false → (ltb s n && b) ≡ (ltb s (n + 1) && b)
same_out s n b is = grind (arith, nat_tests)

other_out : (s n : ℕ) (b : Bool) → s ≢ n → (ltb s n && b) ≡ (ltb s (n + 1) && b)
other_out s n b other = grind (arith, nat_tests)

is_count_of : (o : Option ℕ) (count : ℕ) → is_count count o ≡ true → o ≡ Some count
is_count_of None count h = absurd (false≢true h)
is_count_of (Some n) count h = ap Some (equal n count h)
  where
    equal : (m n : ℕ) → eqb m n ≡ true → m ≡ n
    equal m n h = grind (arith, nat_tests)

count_is : (o : Option ℕ) (count : ℕ) → o ≡ Some count → is_count count o ≡ true
count_is o count e = ap (is_count count) e ∙ itself count
  where
    itself : (n : ℕ) → eqb n n ≡ true
    itself n = grind (arith, nat_tests)

count_is_not : (o : Option ℕ) (count : ℕ) → o ≢ Some count → is_count count o ≡ false
count_is_not None count not = refl
count_is_not (Some n) count not = differ n count (λ e. not (ap Some e))
  where
    differ : (m n : ℕ) → m ≢ n → eqb m n ≡ false
    differ m n h = grind (arith, nat_tests)

pub option_is : (o : Option ℕ) (count : ℕ) → option_eq eqb o (Some count) ≡ true → o ≡ Some count
option_is None count h = absurd (false≢true h)
option_is (Some n) count h = is_count_of (Some n) count h

pub option_is_not : (o : Option ℕ) (count : ℕ) → option_eq eqb o (Some count) ≡ false → o ≢ Some count
option_is_not o count h e = false≢true (sym h ∙ ap (λ x. option_eq eqb x (Some count)) e ∙ count_is (Some count) count refl)

pub below_none : (answers : Counts) (count : ℕ) → [] ≡ answerers_below answers count 0
below_none answers count = sym (servers_where-none _ (λ s low. no_below s _))

pub below_in : (answers : Counts) (count n : ℕ) → answer_of answers n ≡ Some count → with_member (answerers_below answers count n) n ≡ answerers_below answers count (n + 1)
below_in answers count n is = same_servers _ _ (λ s low.
    ap (λ b. eqb s n || b) (is_member-servers_where _ s low)
    ∙ ⊎_elim
    (λ (here : s ≡ n). same_below s n (is_count count (answer_of answers s)) (ap (λ x. is_count count (answer_of answers x)) here ∙ count_is _ count is) here)
    (λ (other : s ≢ n). other_below s n (is_count count (answer_of answers s)) other)
    (cases_eq s n))

pub below_out : (answers : Counts) (count n : ℕ) → answer_of answers n ≢ Some count → answerers_below answers count n ≡ answerers_below answers count (n + 1)
below_out answers count n is = same_servers _ _ (λ s low. ⊎_elim
    (λ (here : s ≡ n). same_out s n (is_count count (answer_of answers s)) (ap (λ x. is_count count (answer_of answers x)) here ∙ count_is_not _ count is))
    (λ (other : s ≢ n). other_out s n (is_count count (answer_of answers s)) other)
    (cases_eq s n))

pub below_all : (answers : Counts) (count number : ℕ) → number ≤ 16 → 16 ≤ number → answerers_below answers count number ≡ answerers answers count
below_all answers count number low high = same_servers _ _ (λ s below. all_below_by s number _ (omega arith))
  where
    all_below_by : (s n : ℕ) (b : Bool) → s < n → (ltb s n && b) ≡ b
    all_below_by s n b below = grind (arith, nat_tests)

-- ---- what the choice is
option_case : (o : Option ℕ) → (o ≡ None) ⊎ ((n : ℕ) × (o ≡ Some n))
option_case None = inl refl
option_case (Some n) = inr (n, refl)

greater-none : (a b : Option ℕ) → greater a b ≡ None → (a ≡ None) × (b ≡ None)
greater-none None b e = (refl, e)
greater-none (Some a) None e = absurd cc
greater-none (Some a) (Some b) e = absurd cc

pub nobody_answered : (answers : Counts) → greatest answers ≡ None → (server : ℕ) → answer_of answers server ≡ None
nobody_answered [] e server = refl
nobody_answered (a ∷ answers) e zero = (greater-none a (greatest answers) e).0
nobody_answered (a ∷ answers) e (suc server) = nobody_answered answers (greater-none a (greatest answers) e).1 server

-- the first of two is not above the greater, nor is the other, and the greater is one of them
some_is : (m n : ℕ) → Some m ≡ Some n → m ≡ n
some_is m n e = cc

first_bound : (a b : Option ℕ) (n m : ℕ) → greater a b ≡ Some n → a ≡ Some m → m ≤ n
first_bound None b n m e is = absurd cc
first_bound (Some a) None n m e is = let x = some_is a n e in let y = some_is a m is in omega arith
first_bound (Some a) (Some b) n m e is = let x = some_is (max a b) n e in let y = some_is a m is in omega arith

other_bound : (a b : Option ℕ) (n m : ℕ) → greater a b ≡ Some n → b ≡ Some m → m ≤ n
other_bound a None n m e is = absurd cc
other_bound None (Some b) n m e is = let x = some_is b n e in let y = some_is b m is in omega arith
other_bound (Some a) (Some b) n m e is = let x = some_is (max a b) n e in let y = some_is b m is in omega arith

greater_one : (a b : Option ℕ) (n : ℕ) → greater a b ≡ Some n → (a ≡ Some n) ⊎ (b ≡ Some n)
greater_one None b n e = inr e
greater_one (Some a) None n e = inl e
greater_one (Some a) (Some b) n e = ⊎_elim
    (λ (low : b < a). inl (ap Some (let x = some_is (max a b) n e in let y : a ≡ n = omega arith in y)))
    (λ (high : a ≤ b). inr (ap Some (let x = some_is (max a b) n e in let y : b ≡ n = omega arith in y)))
    (cases_lt b a)

some_greatest : (answers : Counts) (server m : ℕ) → answer_of answers server ≡ Some m → (k : ℕ) × (greatest answers ≡ Some k)
some_greatest answers server m is = ⊎_elim
    (λ (none : greatest answers ≡ None). absurd (let gone = nobody_answered answers none server in let clash : None ≡ Some m = sym gone ∙ is in cc))
    (λ (some : (k : ℕ) × (greatest answers ≡ Some k)). some)
    (option_case (greatest answers))

pub greatest_bounds : (answers : Counts) (n : ℕ) → greatest answers ≡ Some n → (server m : ℕ) → answer_of answers server ≡ Some m → m ≤ n
greatest_bounds [] n e server m is = absurd cc
greatest_bounds (a ∷ answers) n e zero m is = first_bound a (greatest answers) n m e is
greatest_bounds (a ∷ answers) n e (suc server) m is =
    let rest = some_greatest answers server m is in
    let below : m ≤ rest.0 = greatest_bounds answers rest.0 rest.1 server m is in
    let above : rest.0 ≤ n = other_bound a (greatest answers) n rest.0 e rest.1 in
    omega arith

pub greatest_given : (answers : Counts) (n : ℕ) → greatest answers ≡ Some n → (server : ℕ) × (answer_of answers server ≡ Some n)
greatest_given [] n e = absurd cc
greatest_given (a ∷ answers) n e = ⊎_elim
    (λ (here : a ≡ Some n). (0, here))
    (λ (later : greatest answers ≡ Some n). let found = greatest_given answers n later in (suc found.0, found.1))
    (greater_one a (greatest answers) n e)

pub chooses : (answers : Counts) (members : List ℕ) (count : ℕ) → members ≡ answerers answers count → greatest answers ≡ Some count → Chooses answers members count
chooses answers members count who most = record {
  answered = λ server low.
      let is = ap (λ x. is_member x server) who ∙ is_member-servers_where _ server low in
      ((λ h. is_count_of (answer_of answers server) count (sym is ∙ h)), (λ h. is ∙ count_is (answer_of answers server) count h));
  somebody = greatest_given answers count most;
  greatest = greatest_bounds answers count most;
}

pub found_number : (o : Option ℕ) (s n : ℕ) → IfSome o (λ x. x ≡ n) → o ≡ Some s → s ≡ n
found_number None s n is e = absurd cc
found_number (Some x) s n is e = sym (some_is x s e) ∙ is
