-- One list of what the master, the servers and the clients have, in the order of their numbers.
use Rattle.std.proofs.Common.{◌≡◌, ◌∙◌, ◌+◌, ◌-◌, ◌<◌, ◌≤◌, ◌++◌, ℕ, zero, suc, List, ◌∷◌, Some, None, length, length-append, sym, ap, subst, ⊎_elim, arith, slice_get}
use Rattle.std.proofs.lemmas.Option.{slice_get_past, slice_get_within}
use Rattle.gs_cluster.proofs.Lists.{at_before, at_behind, below_or, ends_there, same_lists}

long_enough : {X : Type 0} (xs : List X) (n : ℕ) → ((i : ℕ) → i < n → (x : X) × (slice_get xs i ≡ Some x)) → n ≤ length xs
long_enough xs zero all = omega arith
long_enough xs (suc n) all =
    let last = all n (omega arith) in
    let inside = slice_get_within xs n last.0 last.1 in
    omega arith

-- The whole list has what the parts have at their places, and no part is longer than that.
pub record Parts {X : Type 0} (xs : List X) (first : X) (servers clients : List X) (many few : ℕ) : Type 0 where
  pub long : length xs ≡ suc (many + few)
  pub master : slice_get xs 0 ≡ Some first
  pub server : (i : ℕ) → i < many → (x : X) × (slice_get servers i ≡ Some x) × (slice_get xs (suc i) ≡ Some x)
  pub client : (i : ℕ) → i < few → (x : X) × (slice_get clients i ≡ Some x) × (slice_get xs (suc (many + i)) ≡ Some x)
  pub no_server : slice_get servers many ≡ None
  pub no_client : slice_get clients few ≡ None

module _ {X : Type 0} (xs : List X) (first : X) (servers clients : List X) (many few : ℕ) (p : Parts xs first servers clients many few) where
  pub servers_long : length servers ≡ many
  servers_long =
      let most = ends_there servers many p.no_server in
      let least = long_enough servers many (λ i inside. let f = p.server i inside in (f.0, f.1)) in
      omega arith

  clients_long : length clients ≡ few
  clients_long =
      let most = ends_there clients few p.no_client in
      let least = long_enough clients few (λ i inside. let f = p.client i inside in (f.0, f.1)) in
      omega arith

  at_server : (i : ℕ) → i < many → slice_get xs (suc i) ≡ slice_get (servers ++ clients) i
  at_server i inside =
      let here = p.server i inside in
      let long = servers_long in
      here.2 ∙ sym (at_before servers clients i (omega arith) ∙ here.1)

  at_client : (i : ℕ) → i < few → slice_get xs (suc (many + i)) ≡ slice_get (servers ++ clients) (many + i)
  at_client i inside =
      let here = p.client i inside in
      here.2 ∙ sym (ap (λ (k : ℕ). slice_get (servers ++ clients) (k + i)) (sym servers_long) ∙ at_behind servers clients i ∙ here.1)

  at_nothing : (j : ℕ) → many + few ≤ j → slice_get xs (suc j) ≡ slice_get (servers ++ clients) j
  at_nothing j past =
      let long = p.long in
      let ss = servers_long in
      let cs = clients_long in
      slice_get_past xs (suc j) (omega arith) ∙ sym (slice_get_past (servers ++ clients) j (omega (arith, length-append servers clients)))

  at_each : (k : ℕ) → slice_get xs k ≡ slice_get (first ∷ (servers ++ clients)) k
  at_each zero = p.master
  at_each (suc j) = ⊎_elim
      (λ inside. at_server j inside)
      (λ (past : many ≤ j). ⊎_elim
      (λ (inside : j - many < few). let is : many + (j - many) ≡ j = omega arith in subst (λ k. slice_get xs (suc k) ≡ slice_get (servers ++ clients) k) is (at_client (j - many) inside))
      (λ (out : few ≤ j - many). at_nothing j (omega arith))
      (below_or (j - many) few))
      (below_or j many)

  pub in_order : xs ≡ first ∷ (servers ++ clients)
  in_order = same_lists xs (first ∷ (servers ++ clients)) at_each
