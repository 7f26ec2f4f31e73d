-- The locks that operations hold, in the order in which they were taken.
use Rattle.std.specs.Prelude.{◌≡◌, ◌&&◌, ◌||◌, not, Bool, true, false, List, [], ◌∷◌, ◌++◌, Result, Ok, Err, cond, filter, map, codes, refl}
use Rattle.std.specs.List.{list_any}
use Rattle.std.specs.BTreeMap.{is_at}
use Rattle.gs_base.specs.declared.numbers.ReqId.{ReqId}
use Rattle.gs_base.specs.declared.refusal.Refusal.{Refusal}
use Rattle.gs_base.specs.declared.refusal.Refusal.TheVariants as refusals
use Rattle.gs_path.specs.Path.{Path, path_cmp, begins}
use Rattle.gs_lock.specs.declared.lock.Lock.{Lock}
use Rattle.gs_lock.specs.Operations.{same_op}

abbrev pub same_path : Path → Path → Bool
same_path path other = is_at (path_cmp path) other

abbrev pub is_among : List Path → Path → Bool
is_among paths path = list_any (λ p. same_path p path) paths

-- two operations conflict where one writes a path that the other reads or writes; an operation with itself never
abbrev pub conflicts_with : ReqId → List Path → List Path → Lock → Bool
conflicts_with op reads writes lock =
    not (same_op op lock.op) && cond lock.writes (is_among reads lock.path || is_among writes lock.path) (is_among writes lock.path)

abbrev pub is_conflict : List Lock → ReqId → List Path → List Path → Bool
is_conflict locks op reads writes = list_any (conflicts_with op reads writes) locks

-- the path and all above it
abbrev pub beginnings : Path → List Path
beginnings [] = [] ∷ []
beginnings (name ∷ path) = [] ∷ map (λ front. name ∷ front) (beginnings path)

abbrev pub all_beginnings : List Path → List Path
all_beginnings [] = []
all_beginnings (path ∷ paths) = beginnings path ++ all_beginnings paths

-- who reads or writes a path reads what is above it: a lock is in the way that writes one of these paths or one above them, or
-- reads one that is to be written
abbrev pub is_in_the_way : ReqId → List Path → List Path → Lock → Bool
is_in_the_way op reads writes lock =
    not (same_op op lock.op) && cond lock.writes (list_any (begins lock.path) reads || list_any (begins lock.path) writes) (is_among writes lock.path)

abbrev pub stands_in_the_way : List Lock → ReqId → List Path → List Path → Bool
stands_in_the_way locks op reads writes = list_any (is_in_the_way op reads writes) locks

abbrev pub locks_on : ReqId → Bool → List Path → List Lock
locks_on op writes paths = map (λ path. record { op = op; path = path; writes = writes }) paths

abbrev pub taken : List Lock → ReqId → List Path → List Path → List Lock
taken locks op reads writes = locks ++ (locks_on op false reads ++ locks_on op true writes)

abbrev pub released : List Lock → ReqId → List Lock
released locks op = filter (λ lock. not (same_op op lock.op)) locks

abbrev pub holds : List Lock → ReqId → Bool
holds locks op = list_any (λ lock. same_op op lock.op) locks

-- what a take gives: the locks exactly where there is no conflict, memory aside, and else nothing changes
abbrev pub Takes : List Lock → ReqId → List Path → List Path → Result (Unit {0}) Refusal → List Lock → Type 0
Takes old op reads writes (Ok u) new = (is_conflict old op reads writes ≡ false) × (new ≡ taken old op reads writes)
Takes old op reads writes (Err refusal) new =
    (refusal ≡ cond (is_conflict old op reads writes) refusals.Locked refusals.Memory) × (new ≡ old)

-- the first two operations of the example below, which read and write the root, `/a` and `/a/b`
abbrev first_op : ReqId
first_op = record { client = record { 0 = 1 }; number = 1 }

abbrev second_op : ReqId
second_op = record { client = record { 0 = 1 }; number = 2 }

abbrev root : Path
root = []

abbrev a : Path
a = codes "a" ∷ []

abbrev b_of_a : Path
b_of_a = codes "a" ∷ codes "b" ∷ []

abbrev one : List Lock
one = taken [] first_op (root ∷ []) (a ∷ [])

-- who writes `/a` is in the way of who reads what is under it
reads_under_what_is_written : stands_in_the_way one second_op (b_of_a ∷ []) [] ≡ true
reads_under_what_is_written = refl

-- who writes `/a` is in the way of who reads it, but not of who reads the root, nor of itself
reads_what_is_written : is_conflict one second_op (root ∷ a ∷ []) (b_of_a ∷ []) ≡ true
reads_what_is_written = refl

reads_what_is_read : is_conflict one second_op (root ∷ []) (b_of_a ∷ []) ≡ false
reads_what_is_read = refl

writes_what_is_read : is_conflict one second_op [] (root ∷ []) ≡ true
writes_what_is_read = refl

never_with_itself : is_conflict one first_op (a ∷ []) (root ∷ []) ≡ false
never_with_itself = refl

none_left : released one first_op ≡ []
none_left = refl
