-- Elements of paths in UTF-8, no longer than a hidden name is: those of a path that is told, hidden names and old ones; and a path of such elements can be told.
use Rattle.std.proofs.Common.{◌≡◌, ◌<◌, ◌≤◌, ◌+◌, ◌-◌, ◌^◌, ◌==◌, ◌++◌, ℕ, zero, suc, Bool, true, false, not, cond, List, [], ◌∷◌, length, length-append, append-nil, append_assoc, drop, replicate, refl, sym, ap, subst, arith}
use Rattle.std.specs.Prelude.{codes, is_some, nat_lt, option_map, Option, Some, None, if◌then◌else◌}
use Rattle.std.specs.Fmt.{decimal}
use Rattle.std.specs.List.{list_all, position_or_len}
use Rattle.std.specs.Str.{IsUtf8, IsAscii, is_utf8}
use Rattle.std.proofs.Math.ListN.{get_or}
use Rattle.std.proofs.Math.Seq.{drop-append-add, get_or-append_seam, take-append_seam}
use Rattle.std.proofs.lemmas.Bool.{false≢true, and_parts}
use Rattle.std.proofs.lemmas.Bool.Decides.{nat_tests}
use Rattle.std.proofs.lemmas.Fmt.{IsAscii-decimal, length-decimal-le}
use Rattle.std.proofs.lemmas.List.{length-replicate}
use Rattle.std.proofs.lemmas.Str.{IsCharBoundary-after_ascii, IsCharBoundary-at_seam, IsUtf8-append, IsUtf8-drop, IsUtf8-from_ascii, IsUtf8-from_is_utf8, IsUtf8-nil, IsUtf8-take, is_utf8-from_IsUtf8}
use Rattle.gs_path.specs.Element.{after_point, before_point, hidden_mark, hidden_name, is_element, is_hidden, number_of, parts_behind, parts_of, twenty_digits}
use Rattle.gs_path.specs.Path.{Name, Path, behind_slashes, path_text}
use Rattle.gs_tree.specs.Edits.{old_name}
use Rattle.gs_tree.proofs.Levels.{both_true}

-- ---- UTF-8 is cut behind a byte of ASCII

ascii_one : (c : ℕ) → c < 128 → IsAscii (c ∷ [])
ascii_one c low zero = low
ascii_one c low (suc i) = omega arith

-- bytes of ASCII
pub ascii_utf8 : (bs : List ℕ) → list_all (λ b. nat_lt b 128) bs ≡ true → IsUtf8 bs
ascii_utf8 [] all = IsUtf8-nil
ascii_utf8 (c ∷ bs) all =
    let parts = and_parts (nat_lt c 128) (list_all (λ b. nat_lt b 128) bs) all in IsUtf8-append (c ∷ []) bs (IsUtf8-from_ascii (c ∷ []) (ascii_one c (below c parts.0))) (ascii_utf8 bs parts.1)
  where
    below : (b : ℕ) → nat_lt b 128 ≡ true → b < 128
    below b h = grind (arith, nat_tests)

pub slash_utf8 : IsUtf8 (47 ∷ [])
slash_utf8 = ascii_utf8 (47 ∷ []) refl

-- what stands behind it
utf8_rest : (xs : List ℕ) (c : ℕ) (ys : List ℕ) → c < 128 → IsUtf8 (xs ++ c ∷ ys) → IsUtf8 ys
utf8_rest xs c ys low u =
    let bs = xs ++ c ∷ ys in
    let here : length xs < length bs = omega (arith, length-append xs (c ∷ ys)) in
    let ascii : get_or bs (length xs) 0 < 128 = subst (λ n. n < 128) (sym (get_or-append_seam xs c ys 0)) low in
    subst IsUtf8 (drop-append-add xs (c ∷ ys) 1) (IsUtf8-drop bs (length xs + 1) u (IsCharBoundary-after_ascii bs (length xs) u here ascii))

-- and what stands before a slash
utf8_first : (xs ys : List ℕ) → IsUtf8 (xs ++ 47 ∷ ys) → IsUtf8 xs
utf8_first xs ys u =
    let tail = IsUtf8-append (47 ∷ []) ys slash_utf8 (utf8_rest xs 47 ys (omega arith) u) in
    subst IsUtf8 (take-append_seam xs (47 ∷ ys)) (IsUtf8-take (xs ++ 47 ∷ ys) (length xs) u (IsCharBoundary-at_seam (xs ++ 47 ∷ ys) xs (47 ∷ ys) refl tail))

utf8_elements : (p : Path) → IsUtf8 (behind_slashes p) → list_all is_utf8 p ≡ true
utf8_elements [] u = refl
utf8_elements (x ∷ []) u = both_true (is_utf8 x) true (is_utf8-from_IsUtf8 x (subst IsUtf8 (append-nil x) (utf8_rest [] 47 (x ++ []) (omega arith) u))) refl
utf8_elements (x ∷ y ∷ p) u =
    let more = utf8_rest [] 47 (x ++ behind_slashes (y ∷ p)) (omega arith) u in
    let rest = utf8_rest x 47 (y ++ behind_slashes p) (omega arith) more in
    both_true (is_utf8 x) (list_all is_utf8 (y ∷ p)) (is_utf8-from_IsUtf8 x (utf8_first x (y ++ behind_slashes p) more)) (utf8_elements (y ∷ p) (IsUtf8-append (47 ∷ []) (y ++ behind_slashes p) slash_utf8 rest))

pub path_utf8 : (p : Path) → is_utf8 (path_text p) ≡ true → list_all is_utf8 p ≡ true
path_utf8 [] u = refl
path_utf8 (x ∷ p) u = utf8_elements (x ∷ p) (IsUtf8-from_is_utf8 (path_text (x ∷ p)) u)

-- ---- hidden names

twenty_utf8 : (n : ℕ) → n < 2 ^ 64 → IsUtf8 (twenty_digits n)
unfolding twenty_digits
twenty_utf8 n low = IsUtf8-append (replicate (20 - length (decimal n)) 48) (decimal n) (zeros (20 - length (decimal n))) (IsUtf8-from_ascii (decimal n) (IsAscii-decimal n low))
  where
    zero_utf8 : IsUtf8 (48 ∷ [])
    zero_utf8 = ascii_utf8 (48 ∷ []) refl

    zeros : (k : ℕ) → IsUtf8 (replicate k 48)
    zeros zero = IsUtf8-nil
    zeros (suc k) = IsUtf8-append (48 ∷ []) (replicate k 48) zero_utf8 (zeros k)

pub hidden_utf8 : (moment number : ℕ) (x : Name) → moment < 2 ^ 64 → number < 2 ^ 64 → is_utf8 x ≡ true → is_utf8 (hidden_name moment number x) ≡ true
hidden_utf8 moment number x h k u =
    let point : IsUtf8 (codes ".") = ascii_utf8 (codes ".") refl in
    let last = codes "." ++ x in
    let tail = twenty_digits number ++ last in
    let middle = codes "." ++ tail in
    is_utf8-from_IsUtf8 (hidden_name moment number x)
    (IsUtf8-append hidden_mark (twenty_digits moment ++ middle) (ascii_utf8 hidden_mark refl)
    (IsUtf8-append (twenty_digits moment) middle (twenty_utf8 moment h) (IsUtf8-append (codes ".") tail point (IsUtf8-append (twenty_digits number) last (twenty_utf8 number k) (IsUtf8-append (codes ".") x point (IsUtf8-from_is_utf8 x u))))))

twenty_long : (n : ℕ) → n < 2 ^ 64 → length (twenty_digits n) ≤ 20
unfolding twenty_digits
twenty_long n low = let few = length-decimal-le 20 n (omega arith) (omega arith) low in omega (arith, length-append (replicate (20 - length (decimal n)) 48) (decimal n), length-replicate {A = ℕ} (20 - length (decimal n)) 48)

pub hidden_long : (moment number : ℕ) (x : Name) → moment < 2 ^ 64 → number < 2 ^ 64 → length x ≤ 200 → length (hidden_name moment number x) ≤ 251
hidden_long moment number x h k few =
    let last = codes "." ++ x in
    let tail = twenty_digits number ++ last in
    let middle = codes "." ++ tail in
    let a = twenty_long moment h in
    let b = twenty_long number k in omega (arith, length-append hidden_mark (twenty_digits moment ++ middle), length-append (twenty_digits moment) middle, length-append (twenty_digits number) last)

-- ---- old names

-- what stands behind a point
abbrev is_point : ℕ → Bool
is_point b = b == 46

after_first_point : (front ys : List ℕ) → IsUtf8 (front ++ ys) → IsUtf8 (drop (position_or_len is_point ys + 1) ys)
after_first_point front [] w = IsUtf8-nil
after_first_point front (y ∷ ys) w = by_point (after_first_point (front ++ y ∷ []) ys (subst IsUtf8 (sym (append_assoc front (y ∷ []) ys)) w)) (is_point y) refl
  where
    low : (b : ℕ) → is_point b ≡ true → b < 128
    low b h = grind (arith, nat_tests)

    later : (n : ℕ) → suc (n + 1) ≡ 1 + n + 1
    later n = omega arith

    by_point : IsUtf8 (drop (position_or_len is_point ys + 1) ys) → (b : Bool) → is_point y ≡ b → IsUtf8 (drop (cond (not b) (1 + position_or_len is_point ys) 0 + 1) (y ∷ ys))
    by_point rest true is = utf8_rest front y ys (low y is) w
    by_point rest false is = subst (λ k. IsUtf8 (drop k (y ∷ ys))) (later (position_or_len is_point ys)) rest

utf8_after : (xs : List ℕ) → IsUtf8 xs → IsUtf8 (after_point xs)
utf8_after xs u = after_first_point [] xs u

-- what stands behind the mark
utf8_mark : (x : Name) → is_hidden x ≡ true → IsUtf8 x → IsUtf8 (drop (length hidden_mark) x)
utf8_mark [] h u = IsUtf8-nil
utf8_mark (a ∷ []) h u = IsUtf8-nil
utf8_mark (a ∷ b ∷ []) h u = IsUtf8-nil
utf8_mark (a ∷ b ∷ c ∷ []) h u = IsUtf8-nil
utf8_mark (a ∷ b ∷ c ∷ d ∷ []) h u = IsUtf8-nil
utf8_mark (a ∷ b ∷ c ∷ d ∷ e ∷ []) h u = IsUtf8-nil
utf8_mark (a ∷ b ∷ c ∷ d ∷ e ∷ f ∷ []) h u = IsUtf8-nil
utf8_mark (a ∷ b ∷ c ∷ d ∷ e ∷ f ∷ g ∷ []) h u = IsUtf8-nil
utf8_mark (a ∷ b ∷ c ∷ d ∷ e ∷ f ∷ g ∷ i ∷ []) h u = IsUtf8-nil
utf8_mark (a ∷ b ∷ c ∷ d ∷ e ∷ f ∷ g ∷ i ∷ j ∷ rest) h u = utf8_rest (a ∷ b ∷ c ∷ d ∷ e ∷ f ∷ g ∷ i ∷ []) j rest low u
  where
    low : j < 128
    low = let k = h in grind (arith, nat_tests)

abbrev third : Option (ℕ × ℕ × Name) → Option Name
third parts = option_map (λ (p : ℕ × ℕ × Name). p.2) parts

name_is : {a b : Name} → ◌≡◌ {A = Option Name} (Some a) (Some b) → a ≡ b
name_is k = cc

pub old_utf8 : (p : Path) (name : Name) → old_name p ≡ Some name → list_all is_utf8 p ≡ true → is_utf8 name ≡ true
old_utf8 [] name e h = absurd (false≢true (ap is_some e))
old_utf8 (x ∷ y ∷ p) name e h = old_utf8 (y ∷ p) name e (and_parts (is_utf8 x) (list_all is_utf8 (y ∷ p)) h).1
old_utf8 (x ∷ []) name e h = by_mark (is_hidden x) refl e
  where
    by_numbers : (a b : Option ℕ) (old : Name) → IsUtf8 old → third (parts_of a b old) ≡ Some name → is_utf8 name ≡ true
    by_numbers None b old u k = absurd (false≢true (ap is_some k))
    by_numbers (Some a) None old u k = absurd (false≢true (ap is_some k))
    by_numbers (Some a) (Some b) old u k = by_test (is_element old) k
      where
        by_test : (c : Bool) → third (if c then Some (a, b, old) else None) ≡ Some name → is_utf8 name ≡ true
        by_test true l = subst (λ n. is_utf8 n ≡ true) (name_is l) (is_utf8-from_IsUtf8 old u)
        by_test false l = absurd (false≢true (ap is_some l))

    by_mark : (b : Bool) → is_hidden x ≡ b → third (if b then parts_behind (drop (length hidden_mark) x) else None) ≡ Some name → is_utf8 name ≡ true
    by_mark true is k =
        let text = drop (length hidden_mark) x in
        let own = utf8_mark x is (IsUtf8-from_is_utf8 x (and_parts (is_utf8 x) true h).0) in
        by_numbers (number_of (before_point text)) (number_of (before_point (after_point text))) (after_point (after_point text)) (utf8_after (after_point text) (utf8_after text own)) k
    by_mark false is k = absurd (false≢true (ap is_some k))
