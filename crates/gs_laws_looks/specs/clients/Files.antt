-- What a client reads of a file, where each answer that it gets is of what stands.
use Rattle.std.specs.Prelude.{[], ◌%◌, ◌*◌, ◌++◌, ◌+◌, ◌-◌, ◌/◌, ◌∷◌, ◌≡◌, List, None, Ok, Option, Some, codes, drop, if◌then◌else◌, length, map, min, nat_le, refl, slice_get, suc, take, zero, ℕ}
use Rattle.std.specs.List.{AllByRecursion}
use Rattle.gs_block.specs.Stored.{digest_at}
use Rattle.gs_client.specs.Files.{open_call}
use Rattle.gs_client.specs.Opened.{File}
use Rattle.gs_client.specs.Reading.{digest_call, piece_bytes, read_call}
use Rattle.gs_client.specs.Trees.{Call}
use Rattle.gs_client.specs.declared.link.Reply.{Reply}
use Rattle.gs_client.specs.declared.link.Reply.TheVariants as replies
use Rattle.gs_client_dialogue.specs.Dialogues.{both}
use Rattle.gs_client_dialogue.specs.Heard.{Says}
use Rattle.gs_client_part.specs.Reading.{piece_end, span}
use Rattle.gs_client_part.specs.declared.located.Located.{Located}
use Rattle.gs_msg.specs.declared.answer.Answer.{Answer}
use Rattle.gs_msg.specs.declared.answer.Answer.TheVariants as answers
use Rattle.gs_msg.specs.declared.answer.ChunkStatus.{ChunkStatus}
use Rattle.gs_msg.specs.declared.answer.Status.TheVariants as statuses
use Rattle.gs_msg.specs.declared.body.Given.{Given}
use Rattle.gs_msg.specs.declared.body.Given.TheVariants as givens
use Rattle.gs_msg.specs.declared.call.Call.TheVariants as calls
use Rattle.gs_msg.specs.declared.chunk.Asked.{Asked}
use Rattle.gs_msg.specs.declared.chunk.Asked.TheVariants as asks
use Rattle.gs_msg.specs.declared.event.Request.{Request}
use Rattle.gs_msg.specs.declared.event.Request.TheVariants as requests
use Rattle.gs_path.specs.Path.{Path}

-- A file stands at a path: its chunks by their handles, each with a text, in blocks of a size.
pub record Stands : Type 0 where
  pub path : Path
  pub chunks : List ℕ
  pub text : ℕ → List ℕ
  pub block : ℕ

-- the text of the chunk at a place, none behind the last
abbrev pub text_in : Option ℕ → (ℕ → List ℕ) → List ℕ
text_in None text = []
text_in (Some chunk) text = text chunk

abbrev pub text_at : Stands → ℕ → List ℕ
text_at f index = text_in (slice_get f.chunks index) f.text

-- ---- answers that are of it

-- what is asked of a text in blocks of a size: bytes from an offset on, as far as there are any, how many there are, or the digest of a block
abbrev pub part_of : ℕ → List ℕ → Asked → Given
part_of size bytes (asks.Bytes offset many) = givens.Bytes (take many (drop offset bytes))
part_of size bytes asks.Length = givens.Length (length bytes)
part_of size bytes (asks.Digest block) = givens.Digest (digest_at size bytes block)

-- a status of a file tells its chunks; other answers tell nothing of them
abbrev pub TellsChunks : Stands → Answer → Type 0
TellsChunks f (answers.Status (statuses.File chunks)) = map (λ (c : ChunkStatus). c.handle) chunks ≡ f.chunks
TellsChunks f answer = Unit {0}

-- a location tells the chunk at the place that was asked for
abbrev pub TellsPlace : Stands → ℕ → Answer → Type 0
TellsPlace f index (answers.Location handle view epoch) = slice_get f.chunks index ≡ Some handle
TellsPlace f index answer = Unit {0}

-- What answers a request is of what stands: a status and a location of this path, and what is given of a chunk. A refusal, or no answer, is that of any.
abbrev pub IsOf : Stands → Request → Reply → Type 0
IsOf f (requests.Call (calls.Status p)) (replies.Answer answer) = p ≡ f.path → TellsChunks f answer
IsOf f (requests.Call (calls.FindForReading p index)) (replies.Answer answer) = p ≡ f.path → TellsPlace f index answer
IsOf f (requests.Fetch to handle stamp epoch asked) (replies.Given given) = given ≡ part_of f.block (f.text handle) asked
IsOf f request reply = Unit {0}

-- ---- what is read

-- how many bytes so many chunks of a size have, of which these are the texts: all but the last are full
abbrev pub length_of : ℕ → (ℕ → List ℕ) → ℕ → ℕ
length_of size texts zero = 0
length_of size texts (suc last) = last * size + length (texts last)

-- where a read ends
abbrev pub end_of : ℕ → (ℕ → List ℕ) → ℕ → ℕ → ℕ → ℕ
end_of size texts count offset many = if nat_le (offset + many) ((count - 1) * size) then offset + many else min (offset + many) (length_of size texts count)

-- so many pieces, from this chunk on: of each the bytes that it has, and behind those of one that isn't the last zeros
abbrev pub pieces_of : ℕ → (ℕ → List ℕ) → ℕ → ℕ → ℕ → ℕ → ℕ → List ℕ
pieces_of size texts count end index start zero = []
pieces_of size texts count end index start (suc more) =
    piece_bytes count index (piece_end size end index - start) (take (piece_end size end index - start) (drop start (texts index))) ++ pieces_of size texts count end (index + 1) 0 more

abbrev pub read_of : ℕ → (ℕ → List ℕ) → ℕ → ℕ → ℕ → List ℕ
read_of size texts count offset many = (let end = end_of size texts count offset many in pieces_of size texts count end (offset / size) (offset % size) (span size offset end))

-- ---- what is to hold

-- a call on a file that is opened for it
abbrev pub on_opened : {A : Type 0} → Path → (File → Call A) → Call A
on_opened p call = both (open_call p) call

-- each of these requests is answered so
abbrev pub AreOf : Stands → List (Request × Reply) → Type 0
AreOf f pairs = AllByRecursion (λ (p : Request × Reply). IsOf f p.0 p.1) pairs

-- Where requests and answers are a way through a read, what it comes to, if it isn't refused, is what the file has there;
abbrev pub ReadsWhatStands : Stands → Type 0
ReadsWhatStands f = (size offset many : ℕ) (pairs : List (Request × Reply)) (bytes : List ℕ) (located : Option Located) → AreOf f pairs →
    Says (on_opened f.path (λ file. read_call size file.path file.opened file.located offset many)) pairs (Ok (bytes, located)) → bytes ≡ read_of size (text_at f) (length f.chunks) offset many

-- and a digest is that of the block.
abbrev pub DigestsWhatStands : Stands → Type 0
DigestsWhatStands f = (index block : ℕ) (pairs : List (Request × Reply)) (digest : List ℕ) (located : Option Located) → AreOf f pairs →
    Says (on_opened f.path (λ file. digest_call file.path file.opened file.located index block)) pairs (Ok (digest, located)) → digest ≡ digest_at f.block (text_at f index) block

-- ---- Worked: two chunks of four bytes, of which the first has two

abbrev two : Stands
two = record { path = codes "f" ∷ []; chunks = 7 ∷ 8 ∷ []; text = λ chunk. if nat_le chunk 7 then 1 ∷ 2 ∷ [] else 3 ∷ 4 ∷ 5 ∷ []; block = 4 }

all_that_it_has : read_of 4 (text_at two) 2 0 16 ≡ 1 ∷ 2 ∷ 0 ∷ 0 ∷ 3 ∷ 4 ∷ 5 ∷ []
all_that_it_has = refl

from_within_the_first : read_of 4 (text_at two) 2 1 4 ≡ 2 ∷ 0 ∷ 0 ∷ 3 ∷ []
from_within_the_first = refl

nothing_behind_its_end : read_of 4 (text_at two) 2 7 4 ≡ []
nothing_behind_its_end = refl
