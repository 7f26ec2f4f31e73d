-- What a client's digest comes to, where each answer is of what stands.
use Rattle.std.specs.Prelude.{[], ◌<◌, ◌∷◌, ◌≡◌, ◌≤◌, ◌⊎◌, Err, List, Ok, Result, codes, length, refl, ℕ}
use Rattle.std.proofs.Common.{inr}
use Rattle.gs_base.specs.declared.refusal.Refusal.{Refusal}
use Rattle.gs_base.specs.declared.refusal.Refusal.TheVariants as refusals
use Rattle.gs_block.specs.Stored.{block_at, digest_at}
use Rattle.gs_client.specs.Replies.{looked}
use Rattle.gs_client.specs.declared.link.Reply.{Reply}
use Rattle.gs_client.specs.declared.link.Reply.TheVariants as replies
use Rattle.gs_client_dialogue.specs.Heard.{Says}
use Rattle.gs_msg.specs.declared.answer.Answer.{Answer as Said}
use Rattle.gs_msg.specs.declared.answer.Answer.TheVariants as says
use Rattle.gs_msg.specs.declared.body.Given.TheVariants as givens
use Rattle.gs_msg.specs.declared.call.Call.TheVariants as calls
use Rattle.gs_msg.specs.declared.chunk.Asked.TheVariants as asks
use Rattle.gs_msg.specs.declared.event.Request.{Request}
use Rattle.gs_msg.specs.declared.event.Request.TheVariants as requests
use Rattle.gs_path.specs.Path.{Path}
use Rattle.gs_path.specs.Rules.{parse_hidden}
use Rattle.gs_shell_calls.specs.Asked as asked
use Rattle.gs_shell_calls.specs.declared.answer.Answer.{Answer}
use Rattle.gs_shell_grammar.specs.Grammar as lines
use Rattle.gs_tree.specs.Edits.{chunks_in}
use Rattle.gs_tree.specs.Entry.{Dir, File}
use Rattle.gs_tree.specs.Find.{at}
use Rattle.gs_laws_scripts.specs.explained.Lines.{IsNoLook, IsOfStore}
use Rattle.gs_laws_scripts.specs.explained.Machine.{Machine, Text, new_machine, new_text, settled_each, text_at, with_rows}
use Rattle.gs_laws_scripts.specs.explained.Told.{Each, IsExplained, TellsStatus}

-- a block of a text as it is seen, with some of the edits made that are owed to it
abbrev pub seen_block : (size block : ℕ) → Text → (index : ℕ) → (pick : List ℕ) → List ℕ
seen_block size block text index pick = block_at block index (settled_each size pick text).bytes

-- A member gives the digest of a block that has bytes. One that has none is Range.
abbrev pub TellsBlock : (size block : ℕ) → Text → ℕ → Reply → Type 0
TellsBlock size block text index (replies.Given (givens.Digest digest)) = (pick : List ℕ) × (0 < length (seen_block size block text index pick)) × (digest ≡ digest_at block (settled_each size pick text).bytes index)
TellsBlock size block text index (replies.Given given) = ⊥
TellsBlock size block text index (replies.Refused refusal) = IsOfStore refusal ⊎ ((refusal ≡ refusals.Range) × (pick : List ℕ) × (length (seen_block size block text index pick) ≡ 0))
TellsBlock size block text index replies.Lost = Unit {0}
TellsBlock size block text index reply = ⊥

-- With chunks of a size in blocks of another, and the place of each chunk that a line is told of.
module _ (size block : ℕ) (places : ℕ → Path × ℕ) where
  -- A location is of the chunk at the path and the index that were asked for, which the file has. Where it has none there it is Range.
  abbrev pub TellsChunk : Machine → Path → ℕ → Result Said Refusal → Type 0
  TellsChunk now p index (Ok (says.Location handle view epoch)) = (places handle ≡ (p, index)) × (index < length (chunks_in (at now.plain.tree p)))
  TellsChunk now p index (Ok said) = ⊥
  TellsChunk now p index (Err refusal) = IsNoLook refusal ⊎ ((refusal ≡ refusals.Range) × (length (chunks_in (at now.plain.tree p)) ≤ index))

  -- What a request is answered of what stands: the status of a file, where a chunk is, the digest of a block. The machine stays.
  abbrev pub TellsDigest : Machine → Request → Reply → Machine → Type 0
  TellsDigest now (requests.Call (calls.Status p)) reply new = TellsStatus now p (looked reply) × (new ≡ now)
  TellsDigest now (requests.Call (calls.FindForReading p index)) reply new = TellsChunk now p index (looked reply) × (new ≡ now)
  TellsDigest now (requests.Fetch to handle stamp epoch (asks.Digest index)) reply new = TellsBlock size block (text_at (places handle).0 (places handle).1 now) index reply × (new ≡ now)
  TellsDigest now request reply new = ⊥

-- ---- what is to hold

-- A digest that is answered so is answered as the machine allows.
abbrev pub DigestsAreExplained : Type 0
DigestsAreExplained = (size block : ℕ) (places : ℕ → Path × ℕ) (path : List ℕ) (chunk index : ℕ) (pairs : List (Request × Reply)) (answer : Result Answer Refusal) (old new : Machine)
    → Says (asked.on (parse_hidden path) (asked.with_file (asked.digest_of chunk index)) asked.given_digest) pairs answer → Each (TellsDigest size block places) old pairs new → IsExplained size block (lines.Digest path chunk index) old answer new

-- ---- Worked: a file of one empty chunk has no block
abbrev f : Path
f = codes "f" ∷ []

abbrev one_file : Machine
one_file = with_rows (([], Dir) ∷ (f, File (new_text ∷ [])) ∷ []) new_machine

no_block : TellsBlock 16 4 (text_at f 0 one_file) 0 (replies.Refused refusals.Range)
no_block = inr (refl, [], refl)
