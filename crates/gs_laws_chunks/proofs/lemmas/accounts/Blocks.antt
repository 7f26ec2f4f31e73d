-- Behind the last block of a text there are but empty ones.
use Rattle.std.proofs.Common.{◌≡◌, ◌∙◌, ◌≤◌, ◌*◌, ℕ, zero, suc, Bool, true, List, [], length, take, refl, ap, inl, inr}
use Rattle.std.proofs.lemmas.Bool.{cases_lt}
use Rattle.std.proofs.lemmas.List.{drop_all}
use Rattle.gs_laws_chunks.specs.accounts.Running.{BlocksAmong}
use Rattle.gs_block.specs.Stored.{block_at}
use Rattle.gs_block.specs.Written.{HasBlocks}

take_none : (many : ℕ) → take many (let none : List ℕ = [] in none) ≡ []
take_none zero = refl
take_none (suc many) = refl

behind : (size i : ℕ) (bytes : List ℕ) → length bytes ≤ i * size → block_at size i bytes ≡ []
behind size i bytes over = ap (take size) (drop_all (i * size) bytes over) ∙ take_none size

pub blocks_have : (size : ℕ) (among : List ℕ → Bool) (bytes : List ℕ) → among [] ≡ true → BlocksAmong size among bytes → HasBlocks size among bytes
blocks_have size among bytes empty are i = elim (cases_lt (i * size) (length bytes)) [
  | inl within ↦ are i within
  | inr over ↦ ap among (behind size i bytes over) ∙ empty
]
