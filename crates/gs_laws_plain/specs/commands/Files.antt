-- Where the bytes of a text stand in its file.
use Rattle.std.specs.Prelude.{[], ◌*◌, ◌+◌, ◌∷◌, ◌≡◌, ◌≤◌, List, Ok, Some, drop, length, refl, slice_get, take, ℕ}
use Rattle.std.specs.List.{AllByRecursion}
use Rattle.gs_client_part.specs.Writing.{placed}
use Rattle.gs_edit.specs.Machine.{Plain}
use Rattle.gs_laws_plain.specs.commands.Commands.{EditChunk, commanded, file_bytes, joined, text_at, texts_at}
use Rattle.gs_path.specs.Path.{Path}
use Rattle.gs_replica.specs.declared.op.Op.TheVariants as ops

-- no text is longer than a chunk
abbrev pub AreWithin : ℕ → List (List ℕ) → Type 0
AreWithin size texts = AllByRecursion (λ text. length text ≤ size) texts

-- What stands in a text from an offset on stands in its file: behind as many chunks as come before the text, and as many bytes as the offset says.
abbrev pub TextsStandInFiles : Type 0
TextsStandInFiles = (size : ℕ) (texts : List (List ℕ)) (index offset many : ℕ) (text : List ℕ) → AreWithin size texts → slice_get texts index ≡ Some text → offset + many ≤ length text →
    take many (drop (index * size + offset) (joined size texts)) ≡ take many (drop offset text)

-- A record that is appended to a text stands in the file right after that: at the place that a client makes of the chunk's index and of the offset at which the text ended.
abbrev pub RecordsStandInFiles : Type 0
RecordsStandInFiles = (size : ℕ) (m n : Plain (List ℕ)) (p : Path) (index place : ℕ) (bytes : List ℕ) → commanded size (EditChunk p index ops.Append bytes) m ≡ Ok n → AreWithin size (texts_at n.tree p) → placed size index (length (text_at m.tree p index)) ≡ Ok place →
    take (length bytes) (drop place (file_bytes size n.tree p)) ≡ bytes

-- ---- Worked: two chunks of 4 bytes, of which the first has 2
bytes_of_the_second : take 2 (drop (1 * 4 + 0) (joined 4 ((1 ∷ 2 ∷ []) ∷ (3 ∷ 5 ∷ []) ∷ []))) ≡ 3 ∷ 5 ∷ []
bytes_of_the_second = refl
