-- What clients have pushed: bytes by request, the newest first, of 64 requests at most.
use Rattle.std.specs.Prelude.{◌≡◌, ℕ, ◌==◌, ◌&&◌, Bool, List, [], ◌∷◌, take, Option, Some, None, zero, suc, refl}
use Rattle.std.specs.Coded.{Coded, coded×, coded_ℕ, coded_list}
use Rattle.std.specs.Map.{lookup, remove_entry}
use Rattle.gs_base.specs.declared.numbers.ReqId.{ReqId}
use Rattle.gs_base.specs.contracts.numbers.ReqId as requests

abbrev pub Pushes : Type 0
Pushes = List (ReqId × List ℕ)

abbrev pub coded_pushes : Coded Pushes
coded_pushes = coded_list (coded× requests.the_row.coded (coded_list coded_ℕ))

abbrev pub same_request : ReqId → ReqId → Bool
same_request a b = (a.client.0 == b.client.0) && (a.number == b.number)

abbrev pub capacity : ℕ
capacity = 64

-- the bytes that were pushed for a request
abbrev pub pushed : ReqId → Pushes → Option (List ℕ)
pushed req buffer = lookup (same_request req) buffer

-- without what was pushed for it
abbrev pub without : ReqId → Pushes → Pushes
without req buffer = remove_entry (same_request req) buffer

-- A push is the newest, in place of an earlier one of the request. Where there are more than 64 the oldest goes.
abbrev pub push : ReqId → List ℕ → Pushes → Pushes
push req bytes buffer = (req, bytes) ∷ take 63 (without req buffer)

-- Worked: requests of a client.
abbrev request : ℕ → ReqId
request number = record { client = record { 0 = 1 }; number = number }

the_newest_is_first : push (request 2) (98 ∷ []) (push (request 1) (97 ∷ []) []) ≡ (request 2, 98 ∷ []) ∷ (request 1, 97 ∷ []) ∷ []
the_newest_is_first = refl

pushed_again : push (request 1) (99 ∷ []) ((request 2, 98 ∷ []) ∷ (request 1, 97 ∷ []) ∷ []) ≡ (request 1, 99 ∷ []) ∷ (request 2, 98 ∷ []) ∷ []
pushed_again = refl

what_was_pushed : pushed (request 1) ((request 2, 98 ∷ []) ∷ (request 1, 97 ∷ []) ∷ []) ≡ Some (97 ∷ [])
what_was_pushed = refl

nothing_was_pushed : pushed (request 3) ((request 2, 98 ∷ []) ∷ (request 1, 97 ∷ []) ∷ []) ≡ None
nothing_was_pushed = refl

taken_out : without (request 2) ((request 2, 98 ∷ []) ∷ (request 1, 97 ∷ []) ∷ []) ≡ (request 1, 97 ∷ []) ∷ []
taken_out = refl

-- the requests from a number on down to the first, each without bytes
abbrev pushes_to : ℕ → Pushes
pushes_to zero = []
pushes_to (suc n) = push (request (suc n)) [] (pushes_to n)

the_oldest_goes : pushed (request 1) (pushes_to 65) ≡ None
the_oldest_goes = refl

the_second_stays : pushed (request 2) (pushes_to 65) ≡ Some []
the_second_stays = refl
