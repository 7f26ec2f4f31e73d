-- The calls that wait for some chunks, one after the other.
use Rattle.std.proofs.Common.{◌≡◌, ◌∙◌, ◌<◌, ◌+◌, suc, add-one, drop, drop-cons, get_or, length, ℕ, Bool, true, false, cond, List, [], ◌∷◌, ◌++◌, filter, ap, sym, append_assoc}
use Rattle.gs_base.specs.declared.numbers.ReqId.{ReqId}
use Rattle.gs_master_spec.specs.Settling.{requests_of}
use Rattle.gs_master_spec.specs.declared.pending.Pending.{Pending}

drop_here : (xs : List Pending) (i : ℕ) (x : Pending) → i < length xs → x ≡ get_or xs i x → drop i xs ≡ x ∷ drop (i + 1) xs
drop_here xs i x h at = rw (add-one, drop-cons xs i x h) (ap (λ y. y ∷ drop (suc i) xs) (sym at))

-- a call that waits for one of them
pub one_waits : (test : Pending → Bool) (xs : List Pending) (i : ℕ) (x : Pending) (done more all : List ReqId) → i < length xs → x ≡ get_or xs i x → test x ≡ true → more ≡ done ++ x.req ∷ [] →
    done ++ requests_of (filter test (drop i xs)) ≡ all → more ++ requests_of (filter test (drop (i + 1) xs)) ≡ all
one_waits test xs i x done more all h at is put before =
    let rest = drop (i + 1) xs in
    ap (λ l. l ++ requests_of (filter test rest)) put ∙ append_assoc done (x.req ∷ []) (requests_of (filter test rest))
    ∙ ap (λ b. done ++ requests_of (cond b (x ∷ filter test rest) (filter test rest))) (sym is) ∙ ap (λ l. done ++ requests_of (filter test l)) (sym (drop_here xs i x h at)) ∙ before

-- and one that doesn't
pub one_waits_not : (test : Pending → Bool) (xs : List Pending) (i : ℕ) (x : Pending) (done more all : List ReqId) → i < length xs → x ≡ get_or xs i x → test x ≡ false → more ≡ done →
    done ++ requests_of (filter test (drop i xs)) ≡ all → more ++ requests_of (filter test (drop (i + 1) xs)) ≡ all
one_waits_not test xs i x done more all h at is same before =
    let rest = drop (i + 1) xs in
    ap (λ l. l ++ requests_of (filter test rest)) same
    ∙ ap (λ b. done ++ requests_of (cond b (x ∷ filter test rest) (filter test rest))) (sym is) ∙ ap (λ l. done ++ requests_of (filter test l)) (sym (drop_here xs i x h at)) ∙ before
