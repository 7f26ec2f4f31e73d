-- What is to hold of the moves of the master.
use Rattle.std.specs.Prelude.{◌≡◌, ℕ, Bool, true, false, not, List, Some, take}
use Rattle.std.specs.List.{list_all}
use Rattle.gs_base.specs.declared.config.Config.{Config}
use Rattle.gs_base.specs.declared.numbers.ReqId.{ReqId}
use Rattle.gs_edit.specs.View.{NamesView}
use Rattle.gs_msg.specs.declared.body.Body.{Body}
use Rattle.gs_msg.specs.declared.body.Body.TheVariants as bodies
use Rattle.gs_msg.specs.declared.chunk.Chunk.{Chunk as About}
use Rattle.gs_msg.specs.declared.chunk.Chunk.TheVariants as abouts
use Rattle.gs_msg.specs.declared.message.Message.{Message}
use Rattle.gs_path.specs.Path.{Path}
use Rattle.gs_master_spec.specs.Applied.{replayed}
use Rattle.gs_master_spec.specs.Durable.{Durable}
use Rattle.gs_master_spec.specs.Handling.{restarted}
use Rattle.gs_master_spec.specs.State.{State, Log}
use Rattle.gs_laws_master.specs.Promises.{IsKept}
use Rattle.gs_laws_moves.specs.moves.Asked.{WasHeard}
use Rattle.gs_laws_moves.specs.moves.Guards.{Heard, IsMade}
use Rattle.gs_laws_moves.specs.moves.Laws.{IsMadeWell}
use Rattle.gs_laws_moves.specs.moves.Moves.{Answers, BeginsRollback, Checkpoints, CommitsRollback, CopiesTree, Edits, Extends, Finalizes, Flags, Hears, Move, Refuses, Replaces, Restores, Says, Scans, Sends, TellsRollback, Waits, move_turn}
use Rattle.gs_laws_chunk.specs.machine.Machine.{ChunkWorld}
use Rattle.gs_laws_chunk.specs.machine.Events.{Leads}
use Rattle.gs_laws_chunk.specs.machine.Laws.{IsReached}
use Rattle.gs_laws_parts.specs.master.Showing.{ShowsDurable, ShowsEntry}
use Rattle.gs_laws_chunk.specs.machine.Mastering.{AreOfMaster}
use Rattle.gs_laws_parts.specs.master.Single.{FollowsAs, IsCommitted, IsUnmoved}
use Rattle.gs_laws_parts.specs.master.Telling.{Shows}
use Rattle.gs_laws_parts.specs.master.Telling as telling

-- it proposes no stamp
abbrev pub is_plain_about : About → Bool
is_plain_about (abouts.Create stamp) = false
is_plain_about (abouts.Advance stamp) = false
is_plain_about said = true

abbrev pub is_plain : Body → Bool
is_plain (bodies.About handle said) = is_plain_about said
is_plain (bodies.MakeCopy old at new stamp) = false
is_plain body = true

abbrev pub is_plain_message : Message → Bool
is_plain_message m = is_plain m.body

-- Moves that propose and settle nothing, end no call and change no name: of those that only send, which propose no stamp.
abbrev pub is_simple : Move → Bool
is_simple (Says messages) = list_all is_plain_message messages
is_simple (Hears chunk asking) = true
is_simple (Sends chunk asking source target) = true
is_simple (Waits req waiting) = true
is_simple (Restores server chunks) = true
is_simple (Flags req preparing epoch) = true
is_simple (TellsRollback req epoch) = true
is_simple (Answers req answer over) = not over
is_simple (Finalizes req) = true
is_simple BeginsRollback = true
is_simple move = false

-- Where a state is shown, and what is heard was said in the machine, such a move is some events of the machine of each chunk, which leave its view.
abbrev pub SimpleMovesFollow : Type 0
SimpleMovesFollow = (born chunk : ℕ) (whole : ℕ → Bool) (config : Config) (heard : Heard) (s : State) (move : Move) (w : ChunkWorld) → is_simple move ≡ true → Shows chunk s w → WasHeard (telling.Says chunk w) heard → IsMade config heard s move
    → FollowsAs born chunk whole w (move_turn config s move).after (move_turn config s move).sent (IsUnmoved w)

-- Moves by which an entry can only go: names are edited, a call ends, a checkpoint is written.
abbrev pub is_fading : Move → Bool
is_fading (Edits req edit answer) = true
is_fading (Extends req path chunk view) = true
is_fading (CopiesTree req from to) = true
is_fading (Replaces path index old new) = true
is_fading (Scans removed forgotten) = true
is_fading (Refuses req refusal over) = true
is_fading (Answers req answer over) = true
is_fading Checkpoints = true
is_fading move = false

-- Where a state is shown, and what is durable stands before and behind it, such a move is some events of the machine of each chunk, which leave its view.
abbrev pub FadingMovesFollow : Type 0
FadingMovesFollow = (born chunk : ℕ) (whole : ℕ → Bool) (config : Config) (heard : Heard) (s : State) (move : Move) (w : ChunkWorld) → is_fading move ≡ true → Shows chunk s w → WasHeard (telling.Says chunk w) heard → IsMadeWell config heard s move
    → FollowsAs born chunk whole w (move_turn config s move).after (move_turn config s move).sent (IsUnmoved w)

-- So is a commit: the chunk is restored with the servers that have named it, where it was listed at the prepare, and is forgotten else.
abbrev pub CommitsFollow : Type 0
CommitsFollow = (born chunk : ℕ) (whole : ℕ → Bool) (config : Config) (heard : Heard) (s : State) (req : ReqId) (names : NamesView) (w : ChunkWorld) → Shows chunk s w → WasHeard (telling.Says chunk w) heard → IsMadeWell config heard s (CommitsRollback req names)
    → FollowsAs born chunk whole w (move_turn config s (CommitsRollback req names)).after (move_turn config s (CommitsRollback req names)).sent (λ v. IsReached w → IsCommitted chunk (move_turn config s (CommitsRollback req names)).after w v)

-- Of what is known who is asked may have gone, and whether the chunk is known at all.
pub record StaysKnownSo (w v : ChunkWorld) : Type 0 where
  pub born : v.known.born ≡ w.known.born
  pub view : v.known.view ≡ w.known.view
  pub top : v.known.top ≡ w.known.top
  pub current : v.known.current ≡ w.known.current
  pub stood : v.known.stood ≡ w.known.stood
  pub came : v.entry.is_known ≡ true → w.entry.is_known ≡ true

-- events of the master's part alone, that send nothing and leave the view, lead to where a state is shown
pub record Reaches (chunk : ℕ) (w : ChunkWorld) (u : State) : Type 0 where
  pub world : ChunkWorld
  pub leads : Leads w world
  pub masters : AreOfMaster w world leads
  pub members : world.members ≡ w.members
  pub epoch : world.entry.epoch ≡ w.entry.epoch
  pub view : world.entry.view ≡ w.entry.view
  pub known : StaysKnownSo w world
  pub sent : world.sent ≡ w.sent
  pub shows : ShowsEntry chunk u world.entry

-- Where what is durable is shown, whatever was in memory, the master that is started on it is reached.
abbrev pub RestartsReach : Type 0
RestartsReach = (chunk : ℕ) (d : Durable) (log : Log) (w : ChunkWorld) → IsKept d → ShowsDurable chunk d w.entry → Reaches chunk w (restarted d log)

-- So is a master that is started on the first records of a scan, which was cut.
abbrev pub ScansCutReach : Type 0
ScansCutReach = (chunk : ℕ) (config : Config) (s : State) (removed : List Path) (forgotten : List ℕ) (many : ℕ) (d : Durable) (log : Log) (w : ChunkWorld) → IsKept s.durable
    → replayed s.durable (take many (move_turn config s (Scans removed forgotten)).records) ≡ Some d → ShowsEntry chunk s w.entry → Reaches chunk w (restarted d log)
