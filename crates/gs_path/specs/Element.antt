-- The rules of one element of a path, and the names of what was deleted.
use Rattle.std.specs.Prelude.{◌≡◌, ◌-◌, ◌^◌, ◌++◌, ◌&&◌, ◌==◌, ℕ, List, Bool, true, false, not, Option, Some, None, is_some, codes, decimal, bytes_eq, length, drop, replicate, nat_eq, nat_le, nat_lt, if◌then◌else◌, refl}
use Rattle.std.specs.Fmt.{digits}
use Rattle.std.specs.List.{list_all, list_any, starts_with, before_first, after_first}
use Rattle.std.specs.Str.{all_ascii_digits}
use Rattle.std.specs.Str.Parse.{digits_value}
use Rattle.gs_path.specs.Path.{Name}

-- neither a control character nor `/` nor `:`
abbrev pub is_plain_byte : ℕ → Bool
is_plain_byte b = nat_le 32 b && (not (b == 47) && not (b == 58))

-- 1 to 200 bytes, plain ones, and not `.` or `..`
abbrev pub is_element : Name → Bool
is_element name =
    nat_lt 0 (length name) && (nat_le (length name) 200 && (not (bytes_eq name (codes ".")) && (not (bytes_eq name (codes ".."))
    && list_all is_plain_byte name)))

-- how the name of a deleted entry begins
abbrev pub hidden_mark : List ℕ
hidden_mark = codes ".deleted."

abbrev pub is_hidden : Name → Bool
is_hidden name = starts_with nat_eq name hidden_mark

-- a number in twenty decimal digits, with zeros in front
unfoldable pub twenty_digits : ℕ → List ℕ
twenty_digits n = replicate (20 - length (decimal n)) 48 ++ decimal n

-- the name of an entry that was deleted at a moment, with the number of that deletion
abbrev pub hidden_name : ℕ → ℕ → Name → Name
hidden_name moment number old =
    hidden_mark ++ (twenty_digits moment ++ (codes "." ++ (twenty_digits number ++ (codes "." ++ old))))

-- the number that a text of twenty decimal digits has, if it is below 2 ^ 64
abbrev pub number_of : List ℕ → Option ℕ
number_of text =
    if (length text == 20) && (all_ascii_digits text && nat_lt (digits_value 10 text) (2 ^ 64)) then Some (digits_value 10 text)
    else None

-- what stands before the first point, and what stands behind it: nothing, where there is no point
abbrev pub before_point : List ℕ → List ℕ
before_point text = before_first (λ b. b == 46) text

abbrev pub after_point : List ℕ → List ℕ
after_point text = after_first (λ b. b == 46) text

abbrev pub parts_of : Option ℕ → Option ℕ → Name → Option (ℕ × ℕ × Name)
parts_of None number old = None
parts_of (Some moment) None old = None
parts_of (Some moment) (Some number) old = if is_element old then Some (moment, number, old) else None

-- moment, number and old name of what stands behind the mark
abbrev pub parts_behind : List ℕ → Option (ℕ × ℕ × Name)
parts_behind text =
    parts_of (number_of (before_point text)) (number_of (before_point (after_point text))) (after_point (after_point text))

-- moment, number and old name of a name of the hidden form
abbrev pub hidden_parts : Name → Option (ℕ × ℕ × Name)
hidden_parts name = if is_hidden name then parts_behind (drop (length hidden_mark) name) else None

-- an element as it can stand in a tree: one of the hidden form, or one that doesn't begin as those do
abbrev pub is_stored : Name → Bool
is_stored name = if is_hidden name then is_some (hidden_parts name) else is_element name

-- stored, and without a slash; a stored element never has one, and it is tested so that no proof of that is needed
abbrev pub is_whole : Name → Bool
is_whole name = is_stored name && not (list_any (λ b. b == 47) name)

longest : is_element (replicate 200 97) ≡ true
longest = refl

too_long : is_element (replicate 201 97) ≡ false
too_long = refl

dots : is_element (codes "...") ≡ true
dots = refl

parent_directory : is_element (codes "..") ≡ false
parent_directory = refl

colon : is_element (codes "x:y") ≡ false
colon = refl

a_hidden_name : hidden_name 0 1 (codes "f") ≡ codes ".deleted.00000000000000000000.00000000000000000001.f"
unfolding twenty_digits digits
a_hidden_name = refl

parts_of_a_hidden_name : hidden_parts (codes ".deleted.00000000000000000017.00000000000000000001.f.g") ≡ Some (17, 1, codes "f.g")
parts_of_a_hidden_name = refl

greatest_moment : hidden_parts (codes ".deleted.18446744073709551615.00000000000000000001.f") ≡ Some (18446744073709551615, 1, codes "f")
greatest_moment = refl

too_great_a_moment : hidden_parts (codes ".deleted.18446744073709551616.00000000000000000001.f") ≡ None
too_great_a_moment = refl

nineteen_digits : hidden_parts (codes ".deleted.0000000000000000000.00000000000000000001.f") ≡ None
nineteen_digits = refl

no_old_name : hidden_parts (codes ".deleted.00000000000000000000.00000000000000000001.") ≡ None
no_old_name = refl

hidden_twice : hidden_parts (codes ".deleted.00000000000000000000.00000000000000000001..deleted.x") ≡ Some (0, 1, codes ".deleted.x")
hidden_twice = refl
