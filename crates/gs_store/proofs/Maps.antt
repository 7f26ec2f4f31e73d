-- Each value of a finite map by a function.
use Rattle.std.proofs.Common.{◌≡◌, Bool, true, false, cond, List, [], ◌∷◌, map, length, Option, Some, refl, sym, ap, subst, ◌∙◌}
use Rattle.std.proofs.lemmas.List.{length-map}
use Rattle.std.specs.Prelude.{◌&&◌, T, option_map}
use Rattle.std.specs.FinMap as fin
use Rattle.std.specs.FinMap.Entries.{below_all}
use Rattle.std.specs.Ordering.{eq_by_cmp, is_lt}
use Rattle.std.specs.declared.cmp.Ordering.{Ordering}
use Rattle.gs_store.specs.Stores.{each}

abbrev pub mapped : {K V W : Type 0} → (V → W) → List (K × V) → List (K × W)
mapped f es = map (λ e. (e.0, f e.1)) es

module _ {K V W : Type 0} (R : K → K → Ordering) (f : V → W) where
  below : (x : K) (es : List (K × V)) → below_all R x (mapped f es) ≡ below_all R x es
  below x [] = refl
  below x (e ∷ es) = ap (λ b. is_lt (R x e.0) && b) (below x es)

  sorted : (es : List (K × V)) → fin.is_sorted R (mapped f es) ≡ fin.is_sorted R es
  sorted [] = refl
  sorted (e ∷ es) = ap (λ b. b && fin.is_sorted R (mapped f es)) (below e.0 es) ∙ ap (λ b. below_all R e.0 es && b) (sorted es)

  in_order : (m : fin.FinMap R V) → T (fin.is_sorted R (mapped f (fin.entries m)))
  in_order m = subst T (sym (sorted (fin.entries m))) (fin.entries_sorted m)

  of_cond : (b : Bool) (v : V) (o : Option V) → cond b (Some (f v)) (option_map f o) ≡ option_map f (cond b (Some v) o)
  of_cond true v o = refl
  of_cond false v o = refl

  found : (q : K) (es : List (K × V)) → fin.find R q (mapped f es) ≡ option_map f (fin.find R q es)
  found q [] = refl
  found q (e ∷ es) = ap (cond (eq_by_cmp R q e.0) (Some (f e.1))) (found q es) ∙ of_cond (eq_by_cmp R q e.0) e.1 (fin.find R q es)

  pub entries-each : (m : fin.FinMap R V) → fin.entries (each f m) ≡ mapped f (fin.entries m)
  unfolding each
  entries-each m = fin.entries-from_sorted R (mapped f (fin.entries m)) (in_order m)

  pub get-each : (m : fin.FinMap R V) (q : K) → fin.get (each f m) q ≡ option_map f (fin.get m q)
  get-each m q = fin.get-entries (each f m) q ∙ ap (fin.find R q) (entries-each m) ∙ found q (fin.entries m) ∙ ap (option_map f) (sym (fin.get-entries m q))

  pub len-each : (m : fin.FinMap R V) → fin.len (each f m) ≡ fin.len m
  len-each m = fin.len-entries (each f m) ∙ ap length (entries-each m) ∙ length-map (fin.entries m) (λ e. (e.0, f e.1)) ∙ sym (fin.len-entries m)
