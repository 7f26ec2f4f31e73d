-- The requests of a list of edits.
use Rattle.std.proofs.Common.{◌≡◌, ◌≢◌, ℕ, arith, refl, sym, ap, List, [], ◌∷◌, ◌++◌, length, ◌∙◌, ⊎_elim, inl, inr, ◌⊎◌}
use Rattle.std.specs.Prelude.{Option, Some, None, Bool, true, false, not, nat_le, ◌&&◌}
use Rattle.std.proofs.lemmas.Bool.{cases_eq}
use Rattle.std.proofs.lemmas.Bool.Decides.{nat_tests}
use Rattle.std.proofs.lemmas.Grind.{common_steps}
use Rattle.std.specs.FinMap as fin
use Rattle.std.specs.Ordering.{nat_cmp}
use Rattle.gs_replica.specs.declared.op.Done.{Done}
use Rattle.gs_replica.specs.Edits.{is_old}
use Rattle.gs_replica.specs.Copies.{Image}
use Rattle.gs_replica.specs.Stands.{Edit, Listed, after, with_edit, no_edits, replica_of, is_in_range, IsTaken, IsTakenFrom, outcome_at}
use Rattle.gs_replica.proofs.Listing.{after_more}

taken_first : (chunk : ℕ) (i : Image) (xs ys : List Edit) → IsTakenFrom chunk i (xs ++ ys) → IsTakenFrom chunk i xs
taken_first chunk i [] ys all = tt
taken_first chunk i (x ∷ xs) ys all = (all.0, taken_first chunk (with_edit chunk i x) xs ys all.1)

pub first_taken : (chunk : ℕ) (xs ys : List Edit) → IsTaken chunk (xs ++ ys) → IsTaken chunk xs
first_taken chunk xs ys all = taken_first chunk no_edits xs ys all

taken_behind : (chunk : ℕ) (i : Image) (xs ys : List Edit) → IsTakenFrom chunk i (xs ++ ys) → IsTakenFrom chunk (after chunk i xs) ys
taken_behind chunk i [] ys all = all
taken_behind chunk i (x ∷ xs) ys all = taken_behind chunk (with_edit chunk i x) xs ys all.1

pub more_edits : (chunk : ℕ) (xs ys : List Edit) → replica_of chunk (xs ++ ys) ≡ after chunk (replica_of chunk xs) ys
unfolding replica_of
more_edits chunk xs ys = after_more chunk no_edits xs ys

new_first : (a b : Bool) → (not a && b) ≡ true → a ≡ false
new_first true b h = absurd (cc)
new_first false b h = refl

abbrev done_of : Image → Edit → Done
done_of i e = record { number = e.req.number; outcome = outcome_at e.op (length i.bytes) }

get_same : (chunk : ℕ) (i : Image) (e : Edit) (c : ℕ) → c ≡ e.req.client.0 → fin.get (with_edit chunk i e).done c ≡ Some (done_of i e)
get_same chunk i e c is = grind (arith, common_steps, fin.gets)

get_other : (chunk : ℕ) (i : Image) (e : Edit) (c : ℕ) → c ≢ e.req.client.0 → fin.get (with_edit chunk i e).done c ≡ fin.get i.done c
get_other chunk i e c is = grind (arith, common_steps, fin.gets)

old_below : (n m : ℕ) (o : Option Done) → is_old n o ≡ true → is_old m o ≡ false → nat_le n m ≡ true
old_below n m None a b = absurd (cc)
old_below n m (Some d) a b = grind (arith, nat_tests)

-- an old request stays old
stays_old : (chunk : ℕ) (n c : ℕ) (i : Image) (xs : List Edit) → is_old n (fin.get i.done c) ≡ true → IsTakenFrom chunk i xs → is_old n (fin.get (after chunk i xs).done c) ≡ true
stays_old chunk n c i [] old all = old
stays_old chunk n c i (e ∷ xs) old all =
    let next : is_old n (fin.get (with_edit chunk i e).done c) ≡ true = ⊎_elim
    (λ (same : c ≡ e.req.client.0).
    let new : is_old e.req.number (fin.get i.done e.req.client.0) ≡ false = new_first (is_old e.req.number (fin.get i.done e.req.client.0)) (is_in_range chunk e.op e.bytes (length i.bytes)) all.0 in
    ap (is_old n) (get_same chunk i e c same) ∙ old_below n e.req.number (fin.get i.done c) old (ap (λ k. is_old e.req.number (fin.get i.done k)) same ∙ new))
    (λ (other : c ≢ e.req.client.0). ap (is_old n) (get_other chunk i e c other) ∙ old)
    (cases_eq c e.req.client.0) in
    stays_old chunk n c (with_edit chunk i e) xs next all.1

le_self : (n : ℕ) → nat_le n n ≡ true
le_self n = grind (arith, nat_tests)

-- each request of a list is old where the list ends
pub taken_once : (chunk : ℕ) (xs ys : List Edit) (e : Edit) → IsTaken chunk (xs ++ e ∷ ys) → is_old e.req.number (fin.get (replica_of chunk (xs ++ e ∷ ys)).done e.req.client.0) ≡ true
unfolding replica_of
taken_once chunk xs ys e all =
    let i : Image = after chunk no_edits xs in
    let rest : IsTakenFrom chunk i (e ∷ ys) = taken_behind chunk no_edits xs (e ∷ ys) all in
    ap (λ (j : Image). is_old e.req.number (fin.get j.done e.req.client.0)) (after_more chunk no_edits xs (e ∷ ys))
    ∙ stays_old chunk e.req.number e.req.client.0 (with_edit chunk i e) ys (ap (is_old e.req.number) (get_same chunk i e e.req.client.0 refl) ∙ le_self e.req.number) rest.1

-- where a client's last request comes from
unfoldable pub Found : ℕ → Image → List Edit → ℕ → Done → Type 0
Found chunk i xs c d = (before : List Edit) × (e : Edit) × (behind : List Edit) × (xs ≡ before ++ e ∷ behind) × (e.req.client.0 ≡ c) × (e.req.number ≡ d.number) × (outcome_at e.op (length (after chunk i before).bytes) ≡ d.outcome)

done_or : Option Done → Done → Done
done_or None old = old
done_or (Some d) old = d

found_here : (chunk : ℕ) (i : Image) (e : Edit) (xs : List Edit) (c : ℕ) (d : Done) → c ≡ e.req.client.0 → fin.get (with_edit chunk i e).done c ≡ Some d → Found chunk i (e ∷ xs) c d
unfolding done_or Found
found_here chunk i e xs c d is got =
    let same : done_of i e ≡ d = ap (λ o. done_or o d) (sym (get_same chunk i e c is) ∙ got) in
    ([], e, xs, refl, sym is, ap (λ (x : Done). x.number) same, ap (λ (x : Done). x.outcome) same)

found_later : (chunk : ℕ) (i : Image) (e : Edit) (xs : List Edit) (c : ℕ) (d : Done) → Found chunk (with_edit chunk i e) xs c d → Found chunk i (e ∷ xs) c d
unfolding Found
found_later chunk i e xs c d f = (e ∷ f.0, f.1, f.2, ap (λ l. e ∷ l) f.3, f.4, f.5, f.6)

found_in : (chunk : ℕ) (i : Image) (xs : List Edit) (c : ℕ) (d : Done) → fin.get (after chunk i xs).done c ≡ Some d → (fin.get i.done c ≡ Some d) ⊎ Found chunk i xs c d
found_in chunk i [] c d got = inl got
found_in chunk i (e ∷ xs) c d got = ⊎_elim
    (λ (first : fin.get (with_edit chunk i e).done c ≡ Some d). ⊎_elim
    (λ (same : c ≡ e.req.client.0). inr (found_here chunk i e xs c d same first))
    (λ (other : c ≢ e.req.client.0). inl (sym (get_other chunk i e c other) ∙ first))
    (cases_eq c e.req.client.0))
    (λ (later : Found chunk (with_edit chunk i e) xs c d). inr (found_later chunk i e xs c d later))
    (found_in chunk (with_edit chunk i e) xs c d got)

nothing_done : (c : ℕ) (d : Done) → fin.get no_edits.done c ≡ Some d → ⊥
nothing_done c d got = absurd (let e = sym (fin.get-empty nat_cmp c) ∙ got in cc)

pub listed : (chunk : ℕ) (xs : List Edit) (c : ℕ) (d : Done) → fin.get (replica_of chunk xs).done c ≡ Some d → Listed chunk xs c d
unfolding replica_of Found
listed chunk xs c d got = ⊎_elim
    (λ (none : fin.get no_edits.done c ≡ Some d). absurd (nothing_done c d none))
    (λ (f : Found chunk no_edits xs c d). record { before = f.0; edit = f.1; behind = f.2; is = f.3; by = f.4; number = f.5; answered = f.6 })
    (found_in chunk no_edits xs c d got)
