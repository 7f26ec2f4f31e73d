-- What is said of the elements of paths: those that are read have no slash, nor have hidden names, nor old ones.
use Rattle.std.proofs.Common.{◌≡◌, ◌∙◌, ◌<◌, ◌+◌, ◌-◌, ◌^◌, ◌==◌, ◌&&◌, ◌++◌, ℕ, Bool, true, false, cond, not, zero, suc, List, [], ◌∷◌, length, replicate, drop, refl, sym, ap, subst, arith}
use Rattle.std.specs.Prelude.{Option, Some, None, Result, Ok, Err, is_some, codes, nat_le, option_map, if◌then◌else◌}
use Rattle.std.specs.Fmt.{decimal}
use Rattle.std.specs.List.{list_all, onto_first, position_or_len, slice_split}
use Rattle.std.specs.Str.{all_ascii_digits}
use Rattle.std.proofs.lemmas.Bool.{false≢true, and_parts}
use Rattle.std.proofs.lemmas.Bool.Decides.{nat_tests}
use Rattle.std.proofs.lemmas.Fmt.{digits_decimal}
use Rattle.std.proofs.lemmas.Str.Parse.{tells_all_ascii_digits}
use Rattle.gs_base.specs.declared.refusal.Refusal.{Refusal}
use Rattle.gs_base.specs.declared.refusal.Refusal.TheVariants.{BadPath}
use Rattle.gs_path.specs.Element.{after_point, before_point, hidden_mark, hidden_name, hidden_parts, is_element, is_hidden, is_stored, number_of, parts_behind, parts_of, twenty_digits}
use Rattle.gs_path.specs.Path.{Name, Path, path_text}
use Rattle.gs_path.specs.Rules.{elements_of, judged, parse_hidden, read_by}
use Rattle.gs_path.proofs.ElementLemmas.{digits, hidden_parts-hidden_name}
use Rattle.gs_tree.specs.Build.{is_short}
use Rattle.gs_tree.specs.Edits.{old_name}
use Rattle.gs_tree.proofs.Levels.{both_true}
use Rattle.gs_edit.specs.Scan.{is_without_slashes}
use Rattle.gs_master_spec.specs.Whole.{is_hidden_twice}

-- an element without a slash
abbrev pub is_plain : Name → Bool
is_plain name = list_all (λ byte. not (byte == 47)) name

-- ---- paths that are read

split_plain : (xs : List ℕ) → list_all is_plain (slice_split (λ b. b == 47) xs) ≡ true
split_plain [] = refl
split_plain (x ∷ xs) = each (split_plain xs) (x == 47) refl
  where
    onto : (parts : Path) → not (x == 47) ≡ true → list_all is_plain parts ≡ true → list_all is_plain (onto_first x parts) ≡ true
    onto [] other h = both_true (is_plain (x ∷ [])) true (both_true (not (x == 47)) true other refl) refl
    onto (part ∷ parts) other h =
        let both = and_parts (is_plain part) (list_all is_plain parts) h in both_true (is_plain (x ∷ part)) (list_all is_plain parts) (both_true (not (x == 47)) (is_plain part) other both.0) both.1

    each : list_all is_plain (slice_split (λ b. b == 47) xs) ≡ true → (b : Bool) → (x == 47) ≡ b → list_all is_plain (cond b ([] ∷ slice_split (λ c. c == 47) xs) (onto_first x (slice_split (λ c. c == 47) xs))) ≡ true
    each rest true is = rest
    each rest false is = onto (slice_split (λ c. c == 47) xs) (ap not is) rest

elements_plain : (text : List ℕ) → list_all is_plain (elements_of text) ≡ true
elements_plain [] = refl
elements_plain (c ∷ rest) = split_plain (c ∷ rest)

-- a path that is read from its text
pub record IsRead (p : Path) : Type 0 where
  pub plain : is_without_slashes p ≡ true
  pub short : is_short p ≡ true
  pub stored : list_all is_stored p ≡ true

judged_read : (text : List ℕ) (p : Path) → judged is_stored (elements_of text) ≡ Ok p → IsRead p
judged_read text p e = each (nat_le (length (elements_of text)) 64) refl (list_all is_stored (elements_of text)) refl e
  where
    ok_is : {a b : Path} → ◌≡◌ {A = Result Path Refusal} (Ok a) (Ok b) → a ≡ b
    ok_is h = cc

    each : (b : Bool) → nat_le (length (elements_of text)) 64 ≡ b → (c : Bool) → list_all is_stored (elements_of text) ≡ c → (if b && c then Ok (elements_of text) else Err BadPath) ≡ Ok p → IsRead p
    each true short true stored h =
        subst IsRead (ok_is h) (record { plain = elements_plain text; short = short; stored = stored })
    each true short false stored h = absurd (let k = h in cc)
    each false short c stored h = absurd (let k = h in cc)

pub read_path : (p : Path) → parse_hidden (path_text p) ≡ Ok p → IsRead p
read_path p e = each (path_text p) e
  where
    each : (text : List ℕ) → read_by is_stored text ≡ Ok p → IsRead p
    each [] h = absurd (let k = h in cc)
    each (c ∷ rest) h = by_slash (c == 47) h
      where
        by_slash : (b : Bool) → (if b then judged is_stored (elements_of rest) else Err BadPath) ≡ Ok p → IsRead p
        by_slash true k = judged_read rest p k
        by_slash false k = absurd (let l = k in cc)

-- ---- hidden names and old ones

plain_join : (a b : List ℕ) → is_plain a ≡ true → is_plain b ≡ true → is_plain (a ++ b) ≡ true
plain_join [] b h k = k
plain_join (x ∷ a) b h k = let parts = and_parts (not (x == 47)) (is_plain a) h in both_true (not (x == 47)) (is_plain (a ++ b)) parts.0 (plain_join a b parts.1 k)

plain_digits : (ds : List ℕ) → all_ascii_digits ds ≡ true → is_plain ds ≡ true
plain_digits [] h = refl
plain_digits (d ∷ ds) h =
    let parts = tells_all_ascii_digits.parts d ds h in
    let other : not (d == 47) ≡ true = (let k = parts.0 in grind (arith, nat_tests)) in both_true (not (d == 47)) (is_plain ds) other (plain_digits ds parts.1)

plain_zeros : (k : ℕ) (ds : List ℕ) → is_plain ds ≡ true → is_plain (replicate k 48 ++ ds) ≡ true
plain_zeros zero ds h = h
plain_zeros (suc k) ds h = plain_zeros k ds h

plain_twenty : (n : ℕ) → n < 2 ^ 64 → is_plain (twenty_digits n) ≡ true
unfolding twenty_digits
plain_twenty n h = plain_zeros (20 - length (decimal n)) (decimal n) (plain_digits (decimal n) (digits_decimal digits n h))

pub plain_hidden : (moment number : ℕ) (x : Name) → moment < 2 ^ 64 → number < 2 ^ 64 → is_plain x ≡ true → is_plain (hidden_name moment number x) ≡ true
plain_hidden moment number x h k plain =
    let last = codes "." ++ x in
    let tail = twenty_digits number ++ last in
    let middle = codes "." ++ tail in
    plain_join hidden_mark (twenty_digits moment ++ middle) refl
    (plain_join (twenty_digits moment) middle (plain_twenty moment h) (plain_join (codes ".") tail refl (plain_join (twenty_digits number) last (plain_twenty number k) (plain_join (codes ".") x refl plain))))

plain_drop : (k : ℕ) (xs : List ℕ) → is_plain xs ≡ true → is_plain (drop k xs) ≡ true
plain_drop zero xs h = h
plain_drop (suc k) [] h = refl
plain_drop (suc k) (x ∷ xs) h = plain_drop k xs (and_parts (not (x == 47)) (is_plain xs) h).1

plain_after : (xs : List ℕ) → is_plain xs ≡ true → is_plain (after_point xs) ≡ true
plain_after xs h = plain_drop (position_or_len (λ b. b == 46) xs + 1) xs h

abbrev third : Option (ℕ × ℕ × Name) → Option Name
third parts = option_map (λ (p : ℕ × ℕ × Name). p.2) parts

pub plain_old : (p : Path) (name : Name) → old_name p ≡ Some name → is_without_slashes p ≡ true → is_plain name ≡ true
plain_old [] name e h = absurd (false≢true (ap is_some e))
plain_old (x ∷ y ∷ p) name e h = plain_old (y ∷ p) name e (and_parts (is_plain x) (is_without_slashes (y ∷ p)) h).1
plain_old (x ∷ []) name e h = by_mark (is_hidden x) e
  where
    own : is_plain x ≡ true
    own = (and_parts (is_plain x) true h).0

    some_is : {a b : Name} → ◌≡◌ {A = Option Name} (Some a) (Some b) → a ≡ b
    some_is k = cc

    by_numbers : (a b : Option ℕ) (old : Name) → is_plain old ≡ true → third (parts_of a b old) ≡ Some name → is_plain name ≡ true
    by_numbers None b old plain k = absurd (false≢true (ap is_some k))
    by_numbers (Some a) None old plain k = absurd (false≢true (ap is_some k))
    by_numbers (Some a) (Some b) old plain k = by_test (is_element old) k
      where
        by_test : (c : Bool) → third (if c then Some (a, b, old) else None) ≡ Some name → is_plain name ≡ true
        by_test true l = subst (λ n. is_plain n ≡ true) (some_is l) plain
        by_test false l = absurd (false≢true (ap is_some l))

    by_mark : (b : Bool) → third (if b then parts_behind (drop (length hidden_mark) x) else None) ≡ Some name → is_plain name ≡ true
    by_mark true k =
        let text = drop (length hidden_mark) x in
        by_numbers (number_of (before_point text)) (number_of (before_point (after_point text))) (after_point (after_point text)) (plain_after (after_point text) (plain_after text (plain_drop (length hidden_mark) x own))) k
    by_mark false k = absurd (false≢true (ap is_some k))

-- ---- nothing is hidden twice

abbrev pub is_once : Name → Bool
is_once name = not (is_hidden_twice name)

-- an element that can be hidden
abbrev pub can_hide : Name → Bool
can_hide name = is_stored name && not (is_hidden name)

hidden_false : (b : Bool) → not b ≡ true → b ≡ false
hidden_false true h = absurd (false≢true h)
hidden_false false h = refl

pub once_visible : (x : Name) → not (is_hidden x) ≡ true → is_once x ≡ true
once_visible x h = rw (hidden_false (is_hidden x) h) refl

pub element_of : (x : Name) → can_hide x ≡ true → is_element x ≡ true
element_of x h = let parts = and_parts (is_stored x) (not (is_hidden x)) h in by_mark (is_hidden x) (hidden_false (is_hidden x) parts.1) parts.0
  where
    by_mark : (b : Bool) → b ≡ false → (if b then is_some (hidden_parts x) else is_element x) ≡ true → is_element x ≡ true
    by_mark true e k = absurd (false≢true (sym e))
    by_mark false e k = k

pub once_hidden : (moment number : ℕ) (x : Name) → moment < 2 ^ 64 → number < 2 ^ 64 → can_hide x ≡ true → is_once (hidden_name moment number x) ≡ true
once_hidden moment number x h k can =
    let parts = hidden_parts-hidden_name moment number x h k (element_of x can) in
    let own = hidden_false (is_hidden x) (and_parts (is_stored x) (not (is_hidden x)) can).1 in rw parts (ap not own)

stored_by : (x : Name) (parts : ℕ × ℕ × Name) → hidden_parts x ≡ Some parts → is_stored x ≡ true
stored_by x parts e = by_mark (is_hidden x) refl e
  where
    by_mark : (b : Bool) → is_hidden x ≡ b → (if b then parts_behind (drop (length hidden_mark) x) else None) ≡ Some parts → is_stored x ≡ true
    by_mark true is k = ap (λ b. if b then is_some (hidden_parts x) else is_element x) is ∙ ap is_some e
    by_mark false is k = absurd (false≢true (ap is_some k))

pub stored_hidden : (moment number : ℕ) (x : Name) → moment < 2 ^ 64 → number < 2 ^ 64 → can_hide x ≡ true → is_stored (hidden_name moment number x) ≡ true
stored_hidden moment number x h k can = stored_by (hidden_name moment number x) (moment, number, x) (hidden_parts-hidden_name moment number x h k (element_of x can))

-- an old name is an element
pub element_old : (p : Path) (name : Name) → old_name p ≡ Some name → is_element name ≡ true
element_old [] name e = absurd (false≢true (ap is_some e))
element_old (x ∷ y ∷ p) name e = element_old (y ∷ p) name e
element_old (x ∷ []) name e = by_mark (is_hidden x) e
  where
    some_is : {a b : Name} → ◌≡◌ {A = Option Name} (Some a) (Some b) → a ≡ b
    some_is k = cc

    by_numbers : (a b : Option ℕ) (old : Name) → third (parts_of a b old) ≡ Some name → is_element name ≡ true
    by_numbers None b old k = absurd (false≢true (ap is_some k))
    by_numbers (Some a) None old k = absurd (false≢true (ap is_some k))
    by_numbers (Some a) (Some b) old k = by_test (is_element old) refl k
      where
        by_test : (c : Bool) → is_element old ≡ c → third (if c then Some (a, b, old) else None) ≡ Some name → is_element name ≡ true
        by_test true is l = subst (λ n. is_element n ≡ true) (some_is l) is
        by_test false is l = absurd (false≢true (ap is_some l))

    by_mark : (b : Bool) → third (if b then parts_behind (drop (length hidden_mark) x) else None) ≡ Some name → is_element name ≡ true
    by_mark true k =
        let text = drop (length hidden_mark) x in by_numbers (number_of (before_point text)) (number_of (before_point (after_point text))) (after_point (after_point text)) k
    by_mark false k = absurd (false≢true (ap is_some k))

pub stored_old : (p : Path) (name : Name) → old_name p ≡ Some name → not (is_hidden name) ≡ true → is_stored name ≡ true
stored_old p name e visible = ap (λ b. if b then is_some (hidden_parts name) else is_element name) (hidden_false (is_hidden name) visible) ∙ element_old p name e
