-- Plain edits of the bytes of a chunk.
use Rattle.std.specs.Prelude.{◌≡◌, ℕ, ◌+◌, ◌-◌, List, [], ◌∷◌, ◌++◌, length, take, drop, replicate, refl}

-- The bytes of a piece from the offset on. Where the offset lies past the end, zeros stand between them.
unfoldable pub written : ℕ → List ℕ → List ℕ → List ℕ
written offset piece bytes = take offset bytes ++ (replicate (offset - length bytes) 0 ++ (piece ++ drop (offset + length piece) bytes))

abbrev pub appended : List ℕ → List ℕ → List ℕ
appended piece bytes = bytes ++ piece

-- zeros up to the size of the chunk
abbrev pub padded : ℕ → List ℕ → List ℕ
padded chunk bytes = bytes ++ replicate (chunk - length bytes) 0

over_the_middle : written 1 (9 ∷ 8 ∷ []) (1 ∷ 2 ∷ 3 ∷ 4 ∷ []) ≡ 1 ∷ 9 ∷ 8 ∷ 4 ∷ []
unfolding written
over_the_middle = refl

over_the_end : written 1 (9 ∷ 8 ∷ []) (1 ∷ 2 ∷ []) ≡ 1 ∷ 9 ∷ 8 ∷ []
unfolding written
over_the_end = refl

past_the_end : written 4 (9 ∷ []) (1 ∷ 2 ∷ []) ≡ 1 ∷ 2 ∷ 0 ∷ 0 ∷ 9 ∷ []
unfolding written
past_the_end = refl

to_the_size : padded 4 (1 ∷ 2 ∷ []) ≡ 1 ∷ 2 ∷ 0 ∷ 0 ∷ []
to_the_size = refl
