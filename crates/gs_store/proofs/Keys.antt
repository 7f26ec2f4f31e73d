-- The keys of the entries whose values pass a test.
use Rattle.std.proofs.Common.{◌≡◌, Bool, true, false, cond, List, [], ◌∷◌, map, Option, Some, None, refl, sym, subst, ◌∙◌}
use Rattle.std.specs.Prelude.{◌&&◌, ◌||◌, T}
use Rattle.std.specs.List.{filter, list_any}
use Rattle.std.proofs.lemmas.Bool.{false≢true}
use Rattle.std.specs.FinMap as fin
use Rattle.std.specs.FinMap.Entries.{below_all}
use Rattle.std.specs.Ordering.{eq_by_cmp, is_lt, is_eq}
use Rattle.std.specs.declared.cmp.Ordering.{Ordering}
use Rattle.std.specs.declared.cmp.Ordering.TheVariants.{Less, Equal, Greater}

pub first : (a b : Bool) → T (a && b) → T a
first true b h = tt
first false b h = h

pub second : (a b : Bool) → T (a && b) → T b
second true b h = h
second false b h = absurd h

pub not_tied : (r : Ordering) → T (is_lt r) → is_eq r ≡ false
not_tied Less h = refl
not_tied Equal h = absurd h
not_tied Greater h = absurd h

tied : (r : Ordering) → is_eq r ≡ true → r ≡ Equal
tied Less h = absurd (false≢true h)
tied Equal h = refl
tied Greater h = absurd (false≢true h)

abbrev pub passes : {V : Type 0} → (V → Bool) → Option V → Bool
passes test None = false
passes test (Some v) = test v

module _ {K V : Type 0} {R : K → K → Ordering} (same : fin.IsAntisymmetric R) (test : V → Bool) where
  abbrev pub keys_where : List (K × V) → List K
  keys_where es = map (λ e. e.0) (filter (λ e. test e.1) es)

  one_more : (f : K → Bool) (passed : Bool) (e : K × V) (rest : List (K × V)) → list_any f (map (λ x. x.0) (cond passed (e ∷ rest) rest)) ≡ ((passed && f e.0) || list_any f (map (λ x. x.0) rest))
  one_more f true e rest = refl
  one_more f false e rest = refl

  neither : (passed here later : Bool) → here ≡ false → ((passed && here) || later) ≡ later
  neither passed true later is = absurd (false≢true (sym is))
  neither true false later is = refl
  neither false false later is = refl

  here_only : (passed here later : Bool) → here ≡ true → later ≡ false → ((passed && here) || later) ≡ passed
  here_only passed false later is none = absurd (false≢true is)
  here_only true true later is none = refl
  here_only false true later is none = none

  none_above : (k : K) (es : List (K × V)) → T (below_all R k es) → list_any (eq_by_cmp R k) (keys_where es) ≡ false
  none_above k [] below = refl
  none_above k (e ∷ es) below =
      one_more (eq_by_cmp R k) (test e.1) e (filter (λ x. test x.1) es)
      ∙ neither (test e.1) (eq_by_cmp R k e.0) (list_any (eq_by_cmp R k) (keys_where es)) (not_tied (R k e.0) (first (is_lt (R k e.0)) (below_all R k es) below))
      ∙ none_above k es (second (is_lt (R k e.0)) (below_all R k es) below)

  -- a key is among them where its value passes
  pub any_key : (q : K) (es : List (K × V)) → T (fin.is_sorted R es) → list_any (eq_by_cmp R q) (keys_where es) ≡ passes test (fin.find R q es)
  any_key q [] sorted = refl
  any_key q (e ∷ es) sorted = one_more (eq_by_cmp R q) (test e.1) e (filter (λ x. test x.1) es) ∙ by_case (eq_by_cmp R q e.0) refl (any_key q es (second (below_all R e.0 es) (fin.is_sorted R es) sorted))
    where
      above : eq_by_cmp R q e.0 ≡ true → list_any (eq_by_cmp R q) (keys_where es) ≡ false
      above is =
          subst (λ k. list_any (eq_by_cmp R k) (keys_where es) ≡ false) (sym (same q e.0 (tied (R q e.0) is))) (none_above e.0 es (first (below_all R e.0 es) (fin.is_sorted R es) sorted))

      by_case : (here : Bool) → eq_by_cmp R q e.0 ≡ here → list_any (eq_by_cmp R q) (keys_where es) ≡ passes test (fin.find R q es) → ((test e.1 && here) || list_any (eq_by_cmp R q) (keys_where es)) ≡ passes test (cond here (Some e.1) (fin.find R q es))
      by_case true is later = here_only (test e.1) true (list_any (eq_by_cmp R q) (keys_where es)) refl (above is)
      by_case false is later = neither (test e.1) false (list_any (eq_by_cmp R q) (keys_where es)) refl ∙ later
