-- What the master keeps in memory alone, and drops at a restart.
use Rattle.std.specs.Prelude.{◌≡◌, ◌==◌, ℕ, Bool, true, false, not, List, [], ◌∷◌, ◌++◌, filter, flat_map, fold, codes, Option, Some, None, if◌then◌else◌, refl, position, slice_set}
use Rattle.std.specs.List.{list_any}
use Rattle.std.specs.Ordering.{nat_cmp}
use Rattle.std.specs.FinMap as fin
use Rattle.gs_base.specs.Members.{is_member, with_member}
use Rattle.gs_base.specs.declared.numbers.ReqId.{ReqId}
use Rattle.gs_path.specs.Path.{Path}
use Rattle.gs_tree.specs.Edits.{parent}
use Rattle.gs_lock.specs.Locks.{beginnings, taken, released}
use Rattle.gs_lock.specs.Operations.{same_op}
use Rattle.gs_lock.specs.declared.lock.Lock.{Lock}
use Rattle.gs_view.specs.Spoken.{no_answers}
use Rattle.gs_lease.specs.declared.view.Purpose.TheVariants as purposes
use Rattle.gs_master_spec.specs.Replies.{client_cmp}
use Rattle.gs_master_spec.specs.declared.asking.Asking.{Asking}
use Rattle.gs_master_spec.specs.declared.change.Change.{Change}
use Rattle.gs_master_spec.specs.declared.change.Change.TheVariants as changes
use Rattle.gs_master_spec.specs.declared.pending.Pending.{Pending}
use Rattle.gs_master_spec.specs.declared.pending.Waiting.{Waiting}
use Rattle.gs_master_spec.specs.declared.pending.Waiting.TheVariants as waits
use Rattle.gs_master_spec.specs.declared.reply.KeptReply.{KeptReply}

-- Whether an upgrade is being prepared; what is asked for chunks; the chunks that have no place in a file yet; the calls that
-- wait, in the order in which they began, with their locks; which servers have told of each chunk that they have it as it was
-- sealed; the last replies, of which perhaps no record tells; and the settled chunks that a restart took out, since no file had or
-- has them.
pub record Volatile : Type 0 where
  pub is_preparing : Bool
  pub moving : fin.FinMap nat_cmp Asking
  pub unplaced : List ℕ
  pub pending : List Pending
  pub locks : List Lock
  pub restored : fin.FinMap nat_cmp (List ℕ)
  pub replies : fin.FinMap client_cmp KeptReply
  pub taken_out : List ℕ

abbrev pub nothing : Volatile
nothing = record { is_preparing = false; moving = fin.empty; unplaced = []; pending = []; locks = []; restored = fin.empty; replies = fin.empty; taken_out = [] }

-- as a restart leaves it, which takes these chunks out
abbrev pub behind_restart : List ℕ → Volatile
behind_restart taken_out = record nothing { taken_out = taken_out }

-- ---- locks of calls that wait

abbrev pub reads_of : Waiting → List Path
reads_of (waits.Extend path chunk) = []
reads_of (waits.Lease path index chunk) = path ∷ []
reads_of (waits.Quiet path index chunk) = []
reads_of (waits.Copy path index old new) = []
reads_of (waits.Snapshot from to) = []
reads_of (waits.Replicate chunk target) = []

abbrev pub writes_of : Waiting → List Path
writes_of (waits.Extend path chunk) = path ∷ []
writes_of (waits.Lease path index chunk) = []
writes_of (waits.Quiet path index chunk) = path ∷ []
writes_of (waits.Copy path index old new) = path ∷ []
writes_of (waits.Snapshot from to) = from ∷ to ∷ []
writes_of (waits.Replicate chunk target) = []

abbrev pub paths_of : Waiting → List Path
paths_of waiting = reads_of waiting ++ writes_of waiting

-- the proper ancestors of a path
abbrev pub above : Path → List Path
above [] = []
above (name ∷ path) = beginnings (parent (name ∷ path))

-- a call reads what is above its paths too
abbrev pub locks_with : List Lock → ReqId → Waiting → List Lock
locks_with locks req waiting = taken locks req (flat_map above (paths_of waiting) ++ reads_of waiting) (writes_of waiting)

-- ---- calls that wait

abbrev pub is_call : ReqId → Option ReqId → Bool
is_call req None = false
is_call req (Some call) = same_op req call

abbrev pub is_pending : List Pending → ReqId → Bool
is_pending pending req = list_any (λ (p : Pending). same_op req p.req) pending

abbrev pub without_pending : List Pending → ReqId → List Pending
without_pending pending req = filter (λ (p : Pending). not (same_op req p.req)) pending

-- the call waits for something else
abbrev pub waits_at : List Pending → ReqId → Waiting → Option ℕ → List Pending
waits_at pending req waiting None = pending
waits_at pending req waiting (Some place) = slice_set pending place (record { req = req; waits = waiting })

abbrev pub with_waiting : List Pending → ReqId → Waiting → List Pending
with_waiting pending req waiting = waits_at pending req waiting (position (λ (p : Pending). same_op p.req req) pending)

-- ---- chunks

abbrev pub without_handle : List ℕ → ℕ → List ℕ
without_handle chunks chunk = filter (λ c. not (c == chunk)) chunks

-- what is asked for a chunk once its call has ended
abbrev pub without_call : Asking → Asking
without_call asking = record asking { call = None }

-- What becomes of the chunks that moved for a call which ends: a new one is no more, any other moves on by itself.
abbrev pub let_go_of : List ℕ → ReqId → ℕ × Asking → List Change
let_go_of new req e =
    if not (is_call req e.1.call) then [] else if is_member new e.0 then changes.Lose e.0 ∷ [] else changes.Ask e.0 (without_call e.1) ∷ []

abbrev pub let_go : Volatile → ReqId → List Change
let_go v req = flat_map (let_go_of v.unplaced req) (fin.entries v.moving)

abbrev pub servers_or_none : Option (List ℕ) → List ℕ
servers_or_none None = []
servers_or_none (Some servers) = servers

abbrev pub with_restored : ℕ → fin.FinMap nat_cmp (List ℕ) → ℕ → fin.FinMap nat_cmp (List ℕ)
with_restored server restored chunk = fin.insert restored chunk (with_member (servers_or_none (fin.get restored chunk)) server)

-- ---- changes

abbrev pub changed : Volatile → Change → Volatile
changed v (changes.Ask chunk asking) = record v { moving = fin.insert v.moving chunk asking }
changed v (changes.Settled chunk) = record v { moving = fin.remove v.moving chunk }
changed v (changes.Enter chunk) = record v { unplaced = v.unplaced ++ chunk ∷ [] }
changed v (changes.Place chunk) = record v { unplaced = without_handle v.unplaced chunk }
changed v (changes.Lose chunk) = record v { moving = fin.remove v.moving chunk; unplaced = without_handle v.unplaced chunk }
changed v (changes.Forget chunks) = record v { moving = fold fin.remove v.moving chunks }
changed v (changes.Begin p) = record v { pending = v.pending ++ p ∷ []; locks = locks_with v.locks p.req p.waits }
changed v (changes.Wait req waiting) = record v { pending = with_waiting v.pending req waiting }
changed v (changes.End req) = record v { pending = without_pending v.pending req; locks = released v.locks req }
changed v (changes.Prepare is_preparing) = record v { is_preparing = is_preparing }
changed v (changes.Keep client reply) = record v { replies = fin.insert v.replies client reply }
changed v (changes.Restored server chunks) = record v { restored = fold (with_restored server) v.restored chunks }
changed v changes.RolledBack = record v { moving = fin.empty; unplaced = []; restored = fin.empty }

abbrev pub all_changed : Volatile → List Change → Volatile
all_changed v cs = fold changed v cs

-- ---- examples

abbrev first_call : ReqId
first_call = record { client = record { 0 = 1 }; number = 1 }

abbrev second_call : ReqId
second_call = record { client = record { 0 = 2 }; number = 1 }

abbrev d : Path
d = codes "d" ∷ []

abbrev f : Path
f = codes "d" ∷ codes "f" ∷ []

what_is_above : above f ≡ [] ∷ d ∷ []
what_is_above = refl

-- an extend of /d/f reads what is above it and writes it
locks_of_an_extend : locks_with [] first_call (waits.Extend f 7) ≡
    record { op = first_call; path = []; writes = false } ∷ record { op = first_call; path = d; writes = false } ∷ record { op = first_call; path = f; writes = true } ∷ []
locks_of_an_extend = refl

locks_of_a_replicate : locks_with [] first_call (waits.Replicate 7 1) ≡ []
locks_of_a_replicate = refl

one_waits_for_something_else : with_waiting (record { req = first_call; waits = waits.Quiet f 0 7 } ∷ []) first_call (waits.Copy f 0 7 8) ≡ record { req = first_call; waits = waits.Copy f 0 7 8 } ∷ []
one_waits_for_something_else = refl

the_other_has_ended : without_pending (record { req = first_call; waits = waits.Quiet f 0 7 } ∷ record { req = second_call; waits = waits.Replicate 9 1 } ∷ []) second_call ≡ record { req = first_call; waits = waits.Quiet f 0 7 } ∷ []
the_other_has_ended = refl

abbrev asking_for : Option ReqId → Asking
asking_for call = record { stamp = record { epoch = 0; version = 3 }; purpose = purposes.Quiet; asked = 0 ∷ 1 ∷ []; answers = no_answers; source = None; call = call }

moves_on_by_itself : let_go_of [] first_call (7, asking_for (Some first_call)) ≡ changes.Ask 7 (asking_for None) ∷ []
moves_on_by_itself = refl

a_new_one_is_no_more : let_go_of (7 ∷ []) first_call (7, asking_for (Some first_call)) ≡ changes.Lose 7 ∷ []
a_new_one_is_no_more = refl

moves_for_another : let_go_of (7 ∷ []) first_call (7, asking_for (Some second_call)) ≡ []
moves_for_another = refl
