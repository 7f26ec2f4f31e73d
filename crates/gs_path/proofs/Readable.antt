-- Which paths are read from their own texts.
use Rattle.std.proofs.Common.{◌≡◌, ℕ, ◌&&◌, ◌||◌, ◌++◌, ◌∷◌, [], Bool, true, false, bytes_eq, codes, cond, is_some, nat_lt, not, List, length, eqb, nat_le, Ok, Err, refl, sym, ap, ◌∙◌, subst, append-nil}
use Rattle.std.proofs.lemmas.Bool.{and_parts, false≢true}
use Rattle.std.specs.List.{slice_split, onto_first, list_all, list_any}
use Rattle.gs_base.specs.declared.refusal.Refusal.TheVariants.{BadPath}
use Rattle.gs_path.specs.Element.{hidden_parts, is_element, is_hidden, is_plain_byte, is_stored, is_whole}
use Rattle.gs_path.specs.Path.{Name, Path, behind_slashes, path_text}
use Rattle.gs_path.specs.Rules.{elements_of, judged, parse_hidden}

abbrev slash : ℕ → Bool
slash b = eqb b 47

abbrev is_uncut : Name → Bool
is_uncut x = not (list_any slash x)

neither : (a b : Bool) → (a || b) ≡ false → (a ≡ false) × (b ≡ false)
neither true b none = absurd (false≢true (sym none))
neither false b none = (refl, none)

not_true : (b : Bool) → not b ≡ true → b ≡ false
not_true true is = absurd (false≢true is)
not_true false is = refl

both : (a b : Bool) → a ≡ true → b ≡ true → (a && b) ≡ true
both true b one other = other
both false b one other = absurd (false≢true one)

-- ---- the parts of a text

split_front : (x rest : List ℕ) → list_any slash x ≡ false → slice_split slash (x ++ 47 ∷ rest) ≡ x ∷ slice_split slash rest
split_front [] rest none = refl
split_front (c ∷ x) rest none =
    let parts = neither (eqb c 47) (list_any slash x) none in
    ap (λ b. cond b ([] ∷ slice_split slash (x ++ 47 ∷ rest)) (onto_first c (slice_split slash (x ++ 47 ∷ rest)))) parts.0 ∙ ap (onto_first c) (split_front x rest parts.1)

split_one : (x : List ℕ) → list_any slash x ≡ false → slice_split slash x ≡ x ∷ []
split_one [] none = refl
split_one (c ∷ x) none =
    let parts = neither (eqb c 47) (list_any slash x) none in
    ap (λ b. cond b ([] ∷ slice_split slash x) (onto_first c (slice_split slash x))) parts.0 ∙ ap (onto_first c) (split_one x parts.1)

split_back : (x : Name) (q : Path) → list_any slash x ≡ false → list_all is_uncut q ≡ true → slice_split slash (x ++ behind_slashes q) ≡ x ∷ q
split_back x [] none all = ap (slice_split slash) (append-nil x) ∙ split_one x none
split_back x (y ∷ q) none all =
    let parts = and_parts (is_uncut y) (list_all is_uncut q) all in
    split_front x (y ++ behind_slashes q) none ∙ ap (λ r. x ∷ r) (split_back y q (not_true (list_any slash y) parts.0) parts.1)

parts_uncut : (xs : List ℕ) → list_all is_uncut (slice_split slash xs) ≡ true
parts_uncut [] = refl
parts_uncut (c ∷ xs) = by_slash (eqb c 47) refl (slice_split slash xs) (parts_uncut xs)
  where
    onto : (b : Bool) → eqb c 47 ≡ b → b ≡ false → (ps : Path) → list_all is_uncut ps ≡ true → list_all is_uncut (onto_first c ps) ≡ true
    onto b is other [] all = ap (λ b. not (b || false) && true) (is ∙ other)
    onto b is other (y ∷ ps) all = ap (λ b. not (b || list_any slash y) && list_all is_uncut ps) (is ∙ other) ∙ all

    by_slash : (b : Bool) → eqb c 47 ≡ b → (ps : Path) → list_all is_uncut ps ≡ true → list_all is_uncut (cond b ([] ∷ ps) (onto_first c ps)) ≡ true
    by_slash true is ps all = all
    by_slash false is ps all = onto false is refl ps all

-- ---- elements

all_whole : (p : Path) → list_all is_stored p ≡ true → list_all is_uncut p ≡ true → list_all is_whole p ≡ true
all_whole [] stored uncut = refl
all_whole (x ∷ p) stored uncut =
    let s = and_parts (is_stored x) (list_all is_stored p) stored in
    let u = and_parts (is_uncut x) (list_all is_uncut p) uncut in
    both (is_whole x) (list_all is_whole p) (both (is_stored x) (is_uncut x) s.0 u.0) (all_whole p s.1 u.1)

whole_parts : (p : Path) → list_all is_whole p ≡ true → (list_all is_stored p ≡ true) × (list_all is_uncut p ≡ true)
whole_parts [] all = (refl, refl)
whole_parts (x ∷ p) all =
    let here = and_parts (is_whole x) (list_all is_whole p) all in
    let one = and_parts (is_stored x) (is_uncut x) here.0 in
    let rest = whole_parts p here.1 in
    (both (is_stored x) (list_all is_stored p) one.0 rest.0, both (is_uncut x) (list_all is_uncut p) one.1 rest.1)

-- an element holds no slash
plain_is_none : (b : ℕ) → is_plain_byte b ≡ true → slash b ≡ false
plain_is_none b is =
    let rest = and_parts (nat_le 32 b) (not (slash b) && not (eqb b 58)) is in
    not_true (slash b) (and_parts (not (slash b)) (not (eqb b 58)) rest.1).0

no_slash : (x : Name) → list_all is_plain_byte x ≡ true → list_any slash x ≡ false
no_slash [] all = refl
no_slash (b ∷ x) all =
    let parts = and_parts (is_plain_byte b) (list_all is_plain_byte x) all in
    ap (λ y. y || list_any slash x) (plain_is_none b parts.0) ∙ no_slash x parts.1

all_plain : (a b c d e : Bool) → (a && (b && (c && (d && e)))) ≡ true → e ≡ true
all_plain a b c d e is =
    let one = and_parts a (b && (c && (d && e))) is in
    let two = and_parts b (c && (d && e)) one.1 in
    let three = and_parts c (d && e) two.1 in
    (and_parts d e three.1).1

element_is_uncut : (x : Name) → is_element x ≡ true → is_uncut x ≡ true
element_is_uncut x is =
    let dot = not (bytes_eq x (codes ".")) in
    let dots = not (bytes_eq x (codes "..")) in
    ap not (no_slash x (all_plain (nat_lt 0 (length x)) (nat_le (length x) 200) dot dots (list_all is_plain_byte x) is))

by_element : (x : Name) (b : Bool) → is_element x ≡ b → (b && is_uncut x) ≡ b
by_element x true is = element_is_uncut x is
by_element x false is = refl

-- so an element that isn't hidden is whole where it is an element
pub visible_whole : (x : Name) → is_hidden x ≡ false → is_whole x ≡ is_element x
visible_whole x visible =
    ap (λ b. cond b (is_some (hidden_parts x)) (is_element x) && is_uncut x) visible ∙ by_element x (is_element x) refl

-- ---- both ways

pub reads_back : (p : Path) → (nat_le (length p) 64 && list_all is_whole p) ≡ true → parse_hidden (path_text p) ≡ Ok p
reads_back [] is = refl
reads_back ([] ∷ q) is = absurd (false≢true (and_parts (nat_le (length ([] ∷ q)) 64) (list_all is_whole ([] ∷ q)) is).1)
reads_back ((c ∷ x) ∷ q) is =
    let parts = and_parts (nat_le (length ((c ∷ x) ∷ q)) 64) (list_all is_whole ((c ∷ x) ∷ q)) is in
    let whole = whole_parts ((c ∷ x) ∷ q) parts.1 in
    let uncut = and_parts (is_uncut (c ∷ x)) (list_all is_uncut q) whole.1 in
    ap (judged is_stored) (split_back (c ∷ x) q (not_true (list_any slash (c ∷ x)) uncut.0) uncut.1)
    ∙ ap (λ b. cond b (Ok ((c ∷ x) ∷ q)) (Err BadPath)) (both (nat_le (length ((c ∷ x) ∷ q)) 64) (list_all is_stored ((c ∷ x) ∷ q)) parts.0 whole.0)

accepted : (b : Bool) (ps p : Path) → cond b (Ok ps) (Err BadPath) ≡ Ok p → (b ≡ true) × (ps ≡ p)
accepted true ps p h = (refl, cc)
accepted false ps p h = absurd cc

elements_uncut : (xs : List ℕ) → list_all is_uncut (elements_of xs) ≡ true
elements_uncut [] = refl
elements_uncut (c ∷ xs) = parts_uncut (c ∷ xs)

pub is_read_back : (p : Path) → parse_hidden (path_text p) ≡ Ok p → (nat_le (length p) 64 && list_all is_whole p) ≡ true
is_read_back [] reads = refl
is_read_back (x ∷ q) reads =
    let text = x ++ behind_slashes q in
    let found = accepted (nat_le (length (elements_of text)) 64 && list_all is_stored (elements_of text)) (elements_of text) (x ∷ q) reads in
    let parts = and_parts (nat_le (length (elements_of text)) 64) (list_all is_stored (elements_of text)) found.0 in
    subst (λ p. (nat_le (length p) 64 && list_all is_whole p) ≡ true) found.1
    (both (nat_le (length (elements_of text)) 64) (list_all is_whole (elements_of text)) parts.0 (all_whole (elements_of text) parts.1 (elements_uncut text)))
