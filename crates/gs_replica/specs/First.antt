-- The requests of clients as they were when a replica was sealed.
use Rattle.std.specs.Prelude.{◌≡◌, ℕ, cond, Bool, true, false, List, [], ◌∷◌, Option, Some, None, is_some, refl}
use Rattle.std.specs.FinMap as fin
use Rattle.std.specs.Ordering.{nat_cmp}
use Rattle.gs_replica.specs.declared.op.Done.{Done}
use Rattle.gs_replica.specs.Undo.{entry_before}

-- a client's request before the first edit since the seal that changed it, or none where the client had none
abbrev pub First : Type 0
First = fin.FinMap nat_cmp (Option Done)

-- a client's entry is taken when it first changes, and no later one replaces it
abbrev pub keep_first : ℕ → Option Done → First → First
keep_first client before first = cond (is_some (fin.get first client)) first (fin.insert first client before)

abbrev pub put_back : List (ℕ × Option Done) → fin.FinMap nat_cmp Done → fin.FinMap nat_cmp Done
put_back [] done = done
put_back (e ∷ entries) done = entry_before (put_back entries done) e.0 e.1

-- the requests as sealed: the first entries laid over those that stand
abbrev pub done_before : First → fin.FinMap nat_cmp Done → fin.FinMap nat_cmp Done
done_before first done = put_back (fin.entries first) done

-- An edit can be undone if its client has a first entry, as each edit since the seal gave it one, and unless that would leave
-- a client without a request that had one when the replica was sealed.
abbrev pub fits : Option (Option Done) → Option Done → Bool
fits None before = false
fits (Some None) before = true
fits (Some (Some sealed)) before = is_some before

-- two clients' entries: one had none, the other this
two_are_put_back : (done : fin.FinMap nat_cmp Done) (sealed : Done) → put_back ((1, None) ∷ (2, Some sealed) ∷ []) done ≡ fin.remove (fin.insert done 2 sealed) 1
two_are_put_back done sealed = refl

a_new_client_can_lose_its_request : (before : Option Done) → fits (Some None) before ≡ true
a_new_client_can_lose_its_request before = refl

a_sealed_client_keeps_one : (sealed : Done) → fits (Some (Some sealed)) None ≡ false
a_sealed_client_keeps_one sealed = refl
