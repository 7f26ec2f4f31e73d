-- Counts of references as a map from the number of a handle to its count.
use Rattle.std.specs.Prelude.{◌≡◌, ◌+◌, ◌-◌, ◌&&◌, ◌==◌, ◌∷◌, [], ℕ, List, Bool, true, false, Option, Some, None, Result, Ok, Err, ◌⊎◌, map, filter, nat_lt, nat_le, is_none, cond, if◌then◌else◌, refl}
use Rattle.std.specs.List.{list_all}
use Rattle.std.specs.Ordering.{nat_cmp, eq_by_cmp}
use Rattle.std.specs.FinMap as fin
use Rattle.gs_base.specs.declared.refusal.Refusal.{Refusal}
use Rattle.gs_base.specs.declared.refusal.Refusal.TheVariants.{Exhausted, BadLine, Memory}

abbrev pub Counts : Type 0
Counts = fin.FinMap nat_cmp ℕ

-- the greatest count
abbrev pub last_count : ℕ
last_count = 4294967295

-- one more reference to a handle; one that isn't listed gets listed
abbrev pub raised_from : Counts → ℕ → Option ℕ → Result Counts Refusal
raised_from m handle None = Ok (fin.insert m handle 1)
raised_from m handle (Some n) = if n == last_count then Err Exhausted else Ok (fin.insert m handle (n + 1))

abbrev pub raised : Counts → ℕ → Result Counts Refusal
raised m handle = raised_from m handle (fin.get m handle)

-- one reference less; a handle without references stays listed
abbrev pub lowered_from : Counts → ℕ → Option ℕ → Result Counts Refusal
lowered_from m handle None = Err BadLine
lowered_from m handle (Some n) = if n == 0 then Err BadLine else Ok (fin.insert m handle (n - 1))

abbrev pub lowered : Counts → ℕ → Result Counts Refusal
lowered m handle = lowered_from m handle (fin.get m handle)

-- one more reference to a listed handle
abbrev pub raised_listed_from : Counts → ℕ → Option ℕ → Result Counts Refusal
raised_listed_from m handle None = Err BadLine
raised_listed_from m handle (Some n) = if nat_lt n last_count then Ok (fin.insert m handle (n + 1)) else Err Exhausted

abbrev pub raised_listed : Counts → ℕ → Result Counts Refusal
raised_listed m handle = raised_listed_from m handle (fin.get m handle)

-- what comes of accepted counts, or the refusal
abbrev pub and_then : Result Counts Refusal → (Counts → Result Counts Refusal) → Result Counts Refusal
and_then (Ok m) next = next m
and_then (Err e) next = Err e

-- one more reference to each handle of a list, as often as it stands there; the first that can't have it is refused
abbrev pub raised_each : Counts → List ℕ → Result Counts Refusal
raised_each m [] = Ok m
raised_each m (h ∷ hs) = and_then (raised_listed m h) (λ n. raised_each n hs)

-- one reference less to each
abbrev pub lowered_each : Counts → List ℕ → Result Counts Refusal
lowered_each m [] = Ok m
lowered_each m (h ∷ hs) = and_then (lowered m h) (λ n. lowered_each n hs)

-- a handle is listed with a count
abbrev pub has_count : Option ℕ → Bool
has_count None = false
has_count (Some n) = nat_le n last_count

-- how often a handle stands in a list
abbrev pub occurrences : ℕ → List ℕ → ℕ
occurrences handle [] = 0
occurrences handle (h ∷ hs) = cond (eq_by_cmp nat_cmp handle h) 1 0 + occurrences handle hs

abbrev pub count_or_zero : Option ℕ → ℕ
count_or_zero None = 0
count_or_zero (Some n) = n

-- each handle's count is how often it stands in a list; one that doesn't stand there may be listed without references
abbrev pub IsCountOf : List ℕ → Counts → Type 0
IsCountOf hs m = (handle : ℕ) → count_or_zero (fin.get m handle) ≡ occurrences handle hs

-- no listed handle has references
abbrev pub is_zero : Counts → Bool
is_zero m = list_all (λ e. e.1 == 0) (fin.entries m)

-- without a listed handle that has one reference
abbrev pub unlisted_from : Counts → ℕ → Option ℕ → Result Counts Refusal
unlisted_from m handle None = Err BadLine
unlisted_from m handle (Some n) = if n == 1 then Ok (fin.remove m handle) else Err BadLine

abbrev pub unlisted : Counts → ℕ → Result Counts Refusal
unlisted m handle = unlisted_from m handle (fin.get m handle)

-- an edit that takes no memory: what is expected, and unchanged at a refusal
abbrev pub CountsDo : Result Counts Refusal → Result (Unit {0}) Refusal → Counts → Counts → Type 0
CountsDo expected (Ok _) old new = expected ≡ Ok new
CountsDo expected (Err e) old new = (expected ≡ Err e) × (new ≡ old)

-- an edit that may be refused memory too
abbrev pub CountsFollow : Result Counts Refusal → Result (Unit {0}) Refusal → Counts → Counts → Type 0
CountsFollow expected (Ok _) old new = expected ≡ Ok new
CountsFollow expected (Err e) old new = ((expected ≡ Err e) ⊎ (e ≡ Memory)) × (new ≡ old)

-- the listed handles without references, ascending
abbrev pub without_references : List (ℕ × ℕ) → List ℕ
without_references es = map (λ e. e.0) (filter (λ e. e.1 == 0) es)

abbrev pub orphans : Counts → List ℕ
orphans m = without_references (fin.entries m)

-- the handles strictly rise, after one or from the first
abbrev pub ascends_from : ℕ → List ℕ → Bool
ascends_from handle [] = true
ascends_from handle (h ∷ hs) = nat_lt handle h && ascends_from h hs

abbrev pub ascends : List ℕ → Bool
ascends [] = true
ascends (h ∷ hs) = ascends_from h hs

abbrev pub without_each : Counts → List ℕ → Counts
without_each m [] = m
without_each m (h ∷ hs) = without_each (fin.remove m h) hs

abbrev pub with_each : Counts → List ℕ → Counts
with_each m [] = m
with_each m (h ∷ hs) = with_each (fin.insert m h 0) hs

abbrev pub is_at_zero : Option ℕ → Bool
is_at_zero None = false
is_at_zero (Some n) = n == 0

-- without the handles of a list that rises, each of which is listed without references
abbrev pub taken_each : Counts → List ℕ → Result Counts Refusal
taken_each m hs = if ascends hs && list_all (λ h. is_at_zero (fin.get m h)) hs then Ok (without_each m hs) else Err BadLine

-- with the handles of a list that rises, none of which is listed, each without references
abbrev pub put_each : Counts → List ℕ → Result Counts Refusal
put_each m hs = if ascends hs && list_all (λ h. is_none (fin.get m h)) hs then Ok (with_each m hs) else Err BadLine

-- what a maker of counts answers: what is expected, and Memory alone in its place
abbrev pub GivesOrMemory : Result Counts Refusal → Result Counts Refusal → Type 0
GivesOrMemory expected (Ok m) = expected ≡ Ok m
GivesOrMemory expected (Err e) = (expected ≡ Err e) ⊎ (e ≡ Memory)

ascending : ascends (1 ∷ 2 ∷ 5 ∷ []) ≡ true
ascending = refl

not_ascending : ascends (1 ∷ 5 ∷ 5 ∷ []) ≡ false
not_ascending = refl

two_orphans : without_references ((1, 0) ∷ (2, 3) ∷ (5, 0) ∷ []) ≡ 1 ∷ 5 ∷ []
two_orphans = refl

first_reference : (m : Counts) → raised_from m 7 None ≡ Ok (fin.insert m 7 1)
first_reference m = refl

last_reference : (m : Counts) → raised_from m 7 (Some 4294967295) ≡ Err Exhausted
last_reference m = refl

none_to_lower : (m : Counts) → lowered_from m 7 (Some 0) ≡ Err BadLine
none_to_lower m = refl

stays_listed : (m : Counts) → lowered_from m 7 (Some 1) ≡ Ok (fin.insert m 7 0)
stays_listed m = refl

only_listed_chunks_are_raised : (m : Counts) → raised_listed_from m 7 None ≡ Err BadLine
only_listed_chunks_are_raised m = refl

twice_in_a_list : occurrences 7 (7 ∷ 8 ∷ 7 ∷ []) ≡ 2
twice_in_a_list = refl
