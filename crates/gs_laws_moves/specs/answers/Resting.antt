-- What a look-up leaves, and what is known of the last reply behind a commit.
use Rattle.std.specs.Prelude.{[], ◌∷◌, ◌≡◌, ◌≤◌, Bool, Ok, Option, Some, codes, false, refl, true, ℕ}
use Rattle.std.proofs.Common.{arith}
use Rattle.std.specs.FinMap as fin
use Rattle.gs_base.specs.declared.config.Config.{Config}
use Rattle.gs_base.specs.declared.numbers.ClientId.{ClientId}
use Rattle.gs_base.specs.declared.numbers.Moment.{Moment}
use Rattle.gs_base.specs.declared.numbers.ReqId.{ReqId}
use Rattle.gs_msg.specs.declared.answer.Answer.{Answer}
use Rattle.gs_msg.specs.declared.answer.Answer.TheVariants as answers
use Rattle.gs_msg.specs.declared.call.Call.{Call}
use Rattle.gs_msg.specs.declared.call.Call.TheVariants as calls
use Rattle.gs_path.specs.Path.{Path}
use Rattle.gs_master_spec.specs.Calls.{listing}
use Rattle.gs_master_spec.specs.Durable.{is_rolling}
use Rattle.gs_master_spec.specs.Handling.{New, new_call, numbered}
use Rattle.gs_master_spec.specs.State.{State, Turn, is_failed, last_reply}
use Rattle.gs_master_spec.specs.declared.reply.KeptReply.{KeptReply}
use Rattle.gs_laws_moves.specs.answers.AtOnce.{OneSays}

-- of two replies at most, one is there that answers this number or a later one
pub record IsFrom (number : ℕ) (last : Option KeptReply) : Type 0 where
  pub reply : KeptReply
  pub has : last ≡ Some reply
  pub late : number ≤ reply.number

-- A client has had a reply to the request of this number, or to a later one: so none of a lower number, and not this one, is new.
abbrev pub HasHad : State → ClientId → ℕ → Type 0
HasHad s client number = IsFrom number (last_reply s client)

-- the names, the number of the next deletion, the phase and the epoch are what they were, and what its client has had
pub record LeavesNames (s : State) (req : ReqId) (t : Turn) : Type 0 where
  pub names : t.after.durable.names ≡ s.durable.names
  pub hidden : t.after.durable.next_hidden ≡ s.durable.next_hidden
  pub phase : t.after.durable.phase ≡ s.durable.phase
  pub epoch : t.after.durable.epoch ≡ s.durable.epoch
  pub had : (number : ℕ) → HasHad s req.client number → HasHad t.after req.client number

-- a call that looks, and changes nothing but what is kept of it
abbrev pub is_look : Call → Bool
is_look (calls.List path) = true
is_look (calls.Status path) = true
is_look (calls.FindForReading path index) = true
is_look calls.Query = true
is_look call = false

-- a step of an upgrade that ends no other call
abbrev pub is_commit : Call → Bool
is_commit calls.PrepareCommit = true
is_commit calls.PrepareAbort = true
is_commit calls.Finalize = true
is_commit calls.RollbackCommit = true
is_commit call = false

-- ---- what is to hold

-- So it is behind each look-up that is new.
abbrev pub LooksLeaveNames : Type 0
LooksLeaveNames = (config : Config) (s : State) (req : ReqId) (moment : Moment) (call : Call) → is_look call ≡ true → LeavesNames s req (new_call config s req moment call)

-- What a list is answered is the listing by the names.
abbrev pub ListsAreAnswered : Type 0
ListsAreAnswered = (config : Config) (s : State) (req : ReqId) (moment : Moment) (path : Path) (answer : Answer) → OneSays req (Ok answer) (new_call config s req moment (calls.List path)).sent →
    listing (fin.entries s.durable.names.tree) path (fin.get s.durable.names.tree path) ≡ Ok answer

-- where a prepare is committed or given up one was begun; and so of a rollback
abbrev pub WasBegun : State → Call → Type 0
WasBegun s calls.PrepareCommit = s.volatile.is_preparing ≡ true
WasBegun s calls.PrepareAbort = s.volatile.is_preparing ≡ true
WasBegun s calls.RollbackCommit = is_rolling s.durable.phase ≡ true
WasBegun s call = Unit {0}

-- Its client has had the reply to a commit that is new and accepted. No disk had failed, and none fails by it.
pub record Commits (s : State) (req : ReqId) (call : Call) (t : Turn) : Type 0 where
  pub had : HasHad t.after req.client req.number
  pub sound : is_failed s.fault ≡ false
  pub fault : t.after.fault ≡ s.fault
  pub begun : WasBegun s call

abbrev pub CommitsAreHad : Type 0
CommitsAreHad = (config : Config) (s : State) (req : ReqId) (moment : Moment) (call : Call) (answer : Answer) → is_commit call ≡ true → numbered (last_reply s req.client) req.number ≡ New → OneSays req (Ok answer) (new_call config s req moment call).sent →
    Commits s req call (new_call config s req moment call)

-- ---- examples

abbrev a_reply : KeptReply
a_reply = record { number = 7; result = Ok answers.Nothing }

it_has_had_a_lower_one : IsFrom 3 (Some a_reply)
it_has_had_a_lower_one = record { reply = a_reply; has = refl; late = omega arith }

a_list_looks : is_look (calls.List (codes "a" ∷ [])) ≡ true
a_list_looks = refl

a_list_is_no_commit : is_commit (calls.List (codes "a" ∷ [])) ≡ false
a_list_is_no_commit = refl
