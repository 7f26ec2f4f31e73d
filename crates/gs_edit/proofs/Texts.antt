-- Paths without a slash in an element are told apart by their texts.
use Rattle.std.proofs.Common.{◌≡◌, ◌&&◌, ◌==◌, ◌++◌, ℕ, Bool, true, not, List, [], ◌∷◌, length, refl, sym, ap, ◌∙◌, arith}
use Rattle.std.specs.List.{list_all}
use Rattle.std.specs.declared.cmp.Ordering.{Ordering}
use Rattle.std.specs.declared.cmp.Ordering.TheVariants.{Less, Equal, Greater}
use Rattle.std.specs.Ordering.{ordering_then, nat_cmp}
use Rattle.std.specs.Cmp.{tied_itself}
use Rattle.std.specs.Cmp.Lexicographic.{slice_cmp}
use Rattle.std.specs.FinMap.{slice_cmp-IsAntisymmetric, nat_cmp-IsAntisymmetric}
use Rattle.std.proofs.lemmas.Bool.{and_parts}
use Rattle.std.proofs.lemmas.Bool.Decides.{nat_tests}
use Rattle.gs_path.specs.Path.{Name, Path, path_cmp, path_total, path_text, behind_slashes}
use Rattle.gs_edit.specs.Scan.{removal_cmp, length_then_text_cmp, is_without_slashes}

abbrev plain : Name → Bool
plain name = list_all (λ byte. not (byte == 47)) name

-- nothing, or what begins with a slash
abbrev IsBehind : List ℕ → Type 0
IsBehind [] = Unit {0}
IsBehind (b ∷ bs) = b ≡ 47

no_slash : (b : ℕ) (r : Bool) → (not (b == 47) && r) ≡ true → b ≡ 47 → ⊥
no_slash b r h e = let t = and_parts (not (b == 47)) r h in let k = t.0 in absurd (grind (arith, nat_tests))

heads : (a b : ℕ) (xs ys : List ℕ) → a ∷ xs ≡ b ∷ ys → a ≡ b
heads a b xs ys e = cc

tails : (a b : ℕ) (xs ys : List ℕ) → a ∷ xs ≡ b ∷ ys → xs ≡ ys
tails a b xs ys e = cc

-- a text is cut at its first slash in one way
record OneCut (x y : Name) (r s : List ℕ) : Type 0 where
  name : x ≡ y
  rest : r ≡ s

one_cut : (x y : Name) (r s : List ℕ) → plain x ≡ true → plain y ≡ true → IsBehind r → IsBehind s → x ++ r ≡ y ++ s → OneCut x y r s
one_cut [] [] r s f g b c e = record { name = refl; rest = e }
one_cut [] (d ∷ y) [] s f g b c e = absurd (cc)
one_cut [] (d ∷ y) (k ∷ r) s f g b c e = absurd (no_slash d (plain y) g (sym (heads k d r (y ++ s) e) ∙ b))
one_cut (a ∷ x) [] r [] f g b c e = absurd (cc)
one_cut (a ∷ x) [] r (k ∷ s) f g b c e = absurd (no_slash a (plain x) f (heads a k (x ++ r) s e ∙ c))
one_cut (a ∷ x) (d ∷ y) r s f g b c e =
    let one = one_cut x y r s (and_parts (not (a == 47)) (plain x) f).1 (and_parts (not (d == 47)) (plain y) g).1 b c (tails a d (x ++ r) (y ++ s) e) in
    record { name = ap (λ k. k ∷ x) (heads a d (x ++ r) (y ++ s) e) ∙ ap (λ n. d ∷ n) one.name; rest = one.rest }

behind : (p : Path) → IsBehind (behind_slashes p)
behind [] = tt
behind (x ∷ p) = refl

same_behind : (p q : Path) → is_without_slashes p ≡ true → is_without_slashes q ≡ true → behind_slashes p ≡ behind_slashes q → p ≡ q
same_behind [] [] f g e = refl
same_behind [] (y ∷ q) f g e = absurd (cc)
same_behind (x ∷ p) [] f g e = absurd (cc)
same_behind (x ∷ p) (y ∷ q) f g e =
    let ps = and_parts (plain x) (is_without_slashes p) f in
    let qs = and_parts (plain y) (is_without_slashes q) g in
    let one = one_cut x y (behind_slashes p) (behind_slashes q) ps.0 qs.0 (behind p) (behind q) (tails 47 47 (x ++ behind_slashes p) (y ++ behind_slashes q) e) in
    ap (λ n. n ∷ p) one.name ∙ ap (λ r. y ∷ r) (same_behind p q ps.1 qs.1 one.rest)

same_text : (p q : Path) → length p ≡ length q → is_without_slashes p ≡ true → is_without_slashes q ≡ true → path_text p ≡ path_text q → p ≡ q
same_text [] [] l f g e = refl
same_text [] (y ∷ q) l f g e = absurd (cc)
same_text (x ∷ p) [] l f g e = absurd (cc)
same_text (x ∷ p) (y ∷ q) l f g e = same_behind (x ∷ p) (y ∷ q) f g e

-- the order of removals is that of numbers of elements and texts
pub by_text : (p q : Path) → is_without_slashes p ≡ true → is_without_slashes q ≡ true → removal_cmp p q ≡ length_then_text_cmp p q
by_text p q f g = each (length_then_text_cmp p q) refl
  where
    tied : (o r : Ordering) → ordering_then o r ≡ Equal → (o ≡ Equal) × (r ≡ Equal)
    tied Less r e = absurd (cc)
    tied Equal r e = (refl, e)
    tied Greater r e = absurd (cc)

    each : (o : Ordering) → length_then_text_cmp p q ≡ o → ordering_then (length_then_text_cmp p q) (path_cmp p q) ≡ length_then_text_cmp p q
    each Less e = ap (λ o. ordering_then o (path_cmp p q)) e ∙ sym e
    each Greater e = ap (λ o. ordering_then o (path_cmp p q)) e ∙ sym e
    each Equal e =
        let parts = tied (nat_cmp (length p) (length q)) (slice_cmp nat_cmp (path_text p) (path_text q)) e in
        let one : p ≡ q = same_text p q (nat_cmp-IsAntisymmetric (length p) (length q) parts.0) f g (slice_cmp-IsAntisymmetric nat_cmp-IsAntisymmetric (path_text p) (path_text q) parts.1) in
        ap (λ o. ordering_then o (path_cmp p q)) e ∙ ap (path_cmp p) (sym one) ∙ tied_itself path_total p ∙ sym e
