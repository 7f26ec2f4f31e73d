-- Where chunks are, and what their members give.
use Rattle.std.specs.Prelude.{◌==◌, ℕ, List, [], ◌∷◌, if◌then◌else◌, Option, Some, None, Result, Ok, Err, nat_le, length}
use Rattle.gs_base.specs.declared.refusal.Refusal.{Refusal}
use Rattle.gs_base.specs.declared.refusal.Refusal.TheVariants as refusals
use Rattle.gs_path.specs.Path.{Path}
use Rattle.gs_client_dialogue.specs.Dialogues.{Say, Ask, Grow, upon, both, otherwise}
use Rattle.gs_msg.specs.declared.call.Call.TheVariants as calls
use Rattle.gs_msg.specs.declared.chunk.Asked.{Asked}
use Rattle.gs_msg.specs.declared.answer.ChunkStatus.{ChunkStatus}
use Rattle.gs_msg.specs.declared.body.Given.{Given}
use Rattle.gs_client_part.specs.declared.located.Located.{Located}
use Rattle.gs_client_part.specs.Fetching.{fetch_of}
use Rattle.gs_client_part.specs.Writing.{most_chunks}
use Rattle.gs_client.specs.Replies.{status_in, chunks_in, located_in, given}
use Rattle.gs_client.specs.Trees.{Call, look}

abbrev pub count_in : List ChunkStatus → Result ℕ Refusal
count_in chunks = if nat_le (length chunks) most_chunks then Ok (length chunks) else Err refusals.Stray

-- how many chunks a file has; a path is copied for each request that names it
abbrev pub chunks_call : Path → Call ℕ
chunks_call path = both (Grow (look (calls.Status path) status_in)) (λ status. both (Say (chunks_in status)) (λ chunks. Say (count_in chunks)))

-- A file that was opened just now tells how many chunks it has; later it is asked for.
abbrev pub known_call : Path → Option ℕ → Call ℕ
known_call path (Some chunks) = Say (Ok chunks)
known_call path None = chunks_call path

abbrev pub find_call : Path → ℕ → Call Located
find_call path index = Grow (look (calls.FindForReading path index) (located_in index))

-- members one after another until one answers, else the last refusal
abbrev pub members_call : Located → Asked → List ℕ → Refusal → Call Given
members_call l asked [] last = Say (Err last)
members_call l asked (member ∷ members) last = Ask (fetch_of l asked member) (λ reply. otherwise (members_call l asked members) (given last reply))

-- the members of a view, ascending
abbrev pub round_call : Located → Asked → Call (Given × Located)
round_call l asked = both (members_call l asked l.view.members refusals.NoReplica) (λ g. Say (Ok (g, l)))

-- of a location that is looked up for this
abbrev pub anew_call : Path → ℕ → Asked → Call (Given × Located)
anew_call path index asked = both (find_call path index) (λ l. round_call l asked)

-- A remembered location of the chunk is asked first; where none of its members answers, it is looked up anew, once.
abbrev pub fetch_call : Path → Option Located → ℕ → Asked → Call (Given × Located)
fetch_call path None index asked = anew_call path index asked
fetch_call path (Some l) index asked =
    if l.index == index then upon (round_call l asked) (otherwise (λ refusal. anew_call path index asked))
    else anew_call path index asked
