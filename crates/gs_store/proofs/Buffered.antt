-- Pushed bytes as the list holds them.
use Rattle.std.proofs.Common.{◌≡◌, ℕ, suc, zero, ◌<◌, ◌≤◌, ◌+◌, Bool, true, false, cond, not, List, [], ◌∷◌, take, length, Some, None, refl, ap, subst, ◌∙◌, arith}
use Rattle.std.specs.Prelude.{Vec, get_or, option_map, position, remove}
use Rattle.std.specs.declared.alloc.Global.{Global}
use Rattle.std.specs.Map.{lookup, remove_entry}
use Rattle.std.specs.List.{position_or_len}
use Rattle.std.proofs.lemmas.Grind.{common_steps}
use Rattle.std.proofs.lemmas.List.{length-take}
use Rattle.gs_base.specs.declared.numbers.ReqId.{ReqId}
use Rattle.gs_store.specs.Buffers.{Pushes, same_request, push, without}
use Rattle.gs_store.specs.inner.Cached.{bytes_of}

abbrev Pushed : Type 0
Pushed = ReqId × Vec ℕ Global

abbrev Cached : Type 0
Cached = List Pushed

module _ (test : ReqId → Bool) where
  pub seen_pushed : (es : Cached) → lookup test (bytes_of es) ≡ option_map (λ b. b.items) (lookup test es)
  seen_pushed [] = refl
  seen_pushed (e ∷ es) = by_case (test e.0) (seen_pushed es)
    where
      by_case : (b : Bool) → lookup test (bytes_of es) ≡ option_map (λ b. b.items) (lookup test es) → cond b (Some e.1.items) (lookup test (bytes_of es)) ≡ option_map (λ b. b.items) (cond b (Some e.1) (lookup test es))
      by_case true h = refl
      by_case false h = h

  pub seen_without : (es : Cached) → bytes_of (remove_entry test es) ≡ remove_entry test (bytes_of es)
  seen_without [] = refl
  seen_without (e ∷ es) = by_case (test e.0) (seen_without es)
    where
      by_case : (b : Bool) → bytes_of (remove_entry test es) ≡ remove_entry test (bytes_of es) → bytes_of (cond b es (e ∷ remove_entry test es)) ≡ cond b (bytes_of es) ((e.0, e.1.items) ∷ remove_entry test (bytes_of es))
      by_case true h = refl
      by_case false h = ap (λ l. (e.0, e.1.items) ∷ l) h

  -- where the first push of the request stands, or the length
  abbrev place : Cached → ℕ
  place es = position_or_len (λ e. test e.0) es

  -- within the list, what stands there is what is looked up, and what goes is what is taken out
  found_within : (es : Cached) (d : Pushed) → place es < length es → (lookup test es ≡ Some (get_or es (place es) d).1) × (remove es (place es) ≡ remove_entry test es)
  found_within [] d within = absurd (omega arith)
  found_within (e ∷ es) d within = by_case (test e.0) (place es) within (found_within es d)
    where
      by_case : (b : Bool) (n : ℕ) → cond (not b) (1 + n) 0 < suc (length es)
          → (n < length es → (lookup test es ≡ Some (get_or es n d).1) × (remove es n ≡ remove_entry test es))
          → (cond b (Some e.1) (lookup test es) ≡ Some (get_or (e ∷ es) (cond (not b) (1 + n) 0) d).1) × (remove (e ∷ es) (cond (not b) (1 + n) 0) ≡ cond b es (e ∷ remove_entry test es))
      by_case true n lt rest = (refl, refl)
      by_case false n lt rest =
          let both = rest (omega arith) in let behind : suc n ≡ 1 + n = omega arith in
          subst (λ m. (lookup test es ≡ Some (get_or (e ∷ es) m d).1) × (remove (e ∷ es) m ≡ e ∷ remove_entry test es)) behind (both.0, ap (λ l. e ∷ l) both.1)

  -- past its end, nothing is looked up or taken out
  nothing_past : (es : Cached) → length es ≤ place es → (lookup test es ≡ None) × (remove_entry test es ≡ es)
  nothing_past [] past = (refl, refl)
  nothing_past (e ∷ es) past = by_case (test e.0) (place es) past (nothing_past es)
    where
      by_case : (b : Bool) (n : ℕ) → suc (length es) ≤ cond (not b) (1 + n) 0
          → (length es ≤ n → (lookup test es ≡ None) × (remove_entry test es ≡ es))
          → (cond b (Some e.1) (lookup test es) ≡ None) × (cond b es (e ∷ remove_entry test es) ≡ e ∷ es)
      by_case true n le rest = absurd (omega arith)
      by_case false n le rest = let both = rest (omega arith) in (both.0, ap (λ l. e ∷ l) both.1)

  pub found : (es : Cached) (i : ℕ) (d : Pushed) → Some i ≡ position (λ e. test e.0) es → (lookup test es ≡ Some (get_or es i d).1) × (remove es i ≡ remove_entry test es)
  found es i d is =
      let at : place es ≡ i = grind (arith, common_steps) in
      let within : place es < length es = grind (arith, common_steps) in
      subst (λ n. (lookup test es ≡ Some (get_or es n d).1) × (remove es n ≡ remove_entry test es)) at (found_within es d within)

  pub not_found : (es : Cached) → None ≡ position (λ e. test e.0) es → (lookup test es ≡ None) × (remove_entry test es ≡ es)
  not_found es is =
      let past : length es ≤ place es = grind (arith, common_steps) in
      nothing_past es past

seen_front : (n : ℕ) (es : Cached) → bytes_of (take n es) ≡ take n (bytes_of es)
seen_front zero es = refl
seen_front (suc n) [] = refl
seen_front (suc n) (e ∷ es) = ap (λ l. (e.0, e.1.items) ∷ l) (seen_front n es)

pub seen_push : (req : ReqId) (bytes : Vec ℕ Global) (old without cut new : Cached)
    → without ≡ remove_entry (same_request req) old → cut ≡ take 63 without → new ≡ (req, bytes) ∷ cut → bytes_of new ≡ push req bytes.items (bytes_of old)
seen_push req bytes old without cut new taken_out front is =
    ap bytes_of is ∙ ap (λ l. (req, bytes.items) ∷ l) (ap bytes_of front ∙ seen_front 63 without ∙ ap (take 63) (ap bytes_of taken_out ∙ seen_without (same_request req) old))

pub stays_few : (buffer : Pushes) (req : ReqId) (bytes : List ℕ) → length (push req bytes buffer) ≤ 64
stays_few buffer req bytes = let h = length-take 63 (without req buffer) in omega arith
