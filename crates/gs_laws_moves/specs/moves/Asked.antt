-- What is asked of servers for a chunk, and what they have said.
use Rattle.std.specs.Prelude.{◌≡◌, ℕ, Bool, true, List, Contains, Some}
use Rattle.std.specs.FinMap as fin
use Rattle.gs_base.specs.Members.{is_member}
use Rattle.gs_base.specs.declared.config.Config.{Config}
use Rattle.gs_msg.specs.declared.body.Body.{Body}
use Rattle.gs_msg.specs.declared.body.Body.TheVariants as bodies
use Rattle.gs_msg.specs.declared.chunk.Chunk.TheVariants as abouts
use Rattle.gs_view.specs.Choice.{answer_of}
use Rattle.gs_master_spec.specs.Durable.{Durable, Settled, is_rolling}
use Rattle.gs_master_spec.specs.Handling.{restarted}
use Rattle.gs_master_spec.specs.State.{State, Log}
use Rattle.gs_master_spec.specs.Volatile.{servers_or_none}
use Rattle.gs_master_spec.specs.declared.asking.Asking.{Asking}
use Rattle.gs_laws_master.specs.Standing.{Event, IsFirm, IsNamed, turn_of}
use Rattle.gs_lease.specs.declared.view.View.{View}
use Rattle.gs_master_spec.specs.Chunks.{is_any_in}
use Rattle.gs_laws_moves.specs.moves.Guards.{Heard, IsElsewhere, MaySettle, IsMade}
use Rattle.gs_laws_moves.specs.moves.Moves.{Move, move_turn}
use Rattle.gs_laws_moves.specs.moves.Laws.{heard_in}

-- a count is that of a server which was asked, and it has promised this stamp with it
pub record IsAnswer (Was : ℕ → Body → Type 0) (chunk : ℕ) (asking : Asking) (server count : ℕ) : Type 0 where
  pub on : is_member asking.asked server ≡ true
  pub carried : Bool
  pub said : Was server (bodies.About chunk (abouts.Promised (asking.stamp) count carried))

-- Of a settled chunk the members of its view are asked, and the target of a copy is none of those that are asked. The source is one, and so is
-- each of whom an answer is in memory.
pub record IsAskedFor (Was : ℕ → Body → Type 0) (s : State) (chunk : ℕ) (asking : Asking) : Type 0 where
  pub members : (settled : Settled) → fin.get s.durable.chunks chunk ≡ Some settled → asking.asked ≡ settled.view.members
  pub elsewhere : IsElsewhere asking.purpose asking.asked
  pub answered : (server count : ℕ) → answer_of asking.answers.counts server ≡ Some count → IsAnswer Was chunk asking server count
  pub source : (server : ℕ) → asking.source ≡ Some server → is_member asking.asked server ≡ true

-- a server of which it is kept that it has the chunk as it was sealed has learned the epoch that stands, and named the chunk
pub record HasNamed (Was : ℕ → Body → Type 0) (s : State) (chunk server : ℕ) : Type 0 where
  pub handles : List ℕ
  pub rolling : is_rolling s.durable.phase ≡ true
  pub said : Was server (bodies.Learned (s.durable.epoch) handles)
  pub named : is_member handles chunk ≡ true

-- So it stands of a chunk, where servers have said what Was tells.
pub record IsAskedSo (Was : ℕ → Body → Type 0) (s : State) (chunk : ℕ) : Type 0 where
  pub asked : (asking : Asking) → fin.get s.volatile.moving chunk ≡ Some asking → IsAskedFor Was s chunk asking
  pub restored : (server : ℕ) → is_member (servers_or_none (fin.get s.volatile.restored chunk)) server ≡ true → HasNamed Was s chunk server

-- what is heard was said
abbrev pub WasHeard : (ℕ → Body → Type 0) → Heard → Type 0
WasHeard Was heard = (server : ℕ) (body : Body) → heard ≡ Some (server, body) → Was server body

-- what servers have said, one by one
abbrev pub WasIn : List (ℕ × Body) → ℕ → Body → Type 0
WasIn said server body = Contains said (server, body)

-- So it stays over each move that is made,
abbrev pub EachMoveAsksSo : Type 0
EachMoveAsksSo = (said : List (ℕ × Body)) (config : Config) (heard : Heard) (s : State) (move : Move) (chunk : ℕ) → WasHeard (WasIn said) heard → IsMade config heard s move → IsAskedSo (WasIn said) s chunk → IsAskedSo (WasIn said) (move_turn config s move).after chunk

-- and so over each event of a firm master, where more has been said.
abbrev pub StaysAskedSo : Type 0
StaysAskedSo = (said more : List (ℕ × Body)) → ((x : ℕ × Body) → Contains said x → Contains more x) → (config : Config) (s : State) (event : Event) (chunk : ℕ) → IsNamed event → IsFirm s → WasHeard (WasIn more) (heard_in event)
    → IsAskedSo (WasIn said) s chunk → IsAskedSo (WasIn more) (turn_of config s event).after chunk

-- And so it is of a master that is started, of which nothing is in memory.
abbrev pub StartsAskedSo : Type 0
StartsAskedSo = (said : List (ℕ × Body)) (d : Durable) (log : Log) (chunk : ℕ) → IsAskedSo (WasIn said) (restarted d log) chunk

-- ---- a view that is settled

-- Each of its members was asked, or is the target of the copy, and has promised the stamp with the view's count; and one was asked.
pub record IsByAnswers (Was : ℕ → Body → Type 0) (chunk : ℕ) (asking : Asking) (view : View) : Type 0 where
  pub stamp : view.stamp ≡ asking.stamp
  pub asked : (server : ℕ) → is_member view.members server ≡ true → is_any_in server (Some asking) ≡ true
  pub said : (server : ℕ) → is_member view.members server ≡ true → (carried : Bool) × Was server (bodies.About chunk (abouts.Promised (asking.stamp) view.count carried))
  pub one : ℕ
  pub among : is_member view.members one ≡ true
  pub was : is_member asking.asked one ≡ true

-- So is each view that is settled by what is in memory and what is heard.
abbrev pub SettlesByAnswers : Type 0
SettlesByAnswers = (said : List (ℕ × Body)) (heard : Heard) (s : State) (chunk : ℕ) (asking : Asking) (carried : Bool) (view : View) → WasHeard (WasIn said) heard → IsAskedSo (WasIn said) s chunk → MaySettle heard s chunk asking carried view → IsByAnswers (WasIn said) chunk asking view
