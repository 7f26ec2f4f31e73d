-- What was said in a call.
use Rattle.std.specs.Prelude.{◌≡◌, ◌⊎◌, ◌∷◌, ◌+◌, ℕ, List, [], Result, Ok, Err, refl}
use Rattle.gs_base.specs.declared.refusal.Refusal.{Refusal}
use Rattle.gs_base.specs.declared.refusal.Refusal.TheVariants as refusals
use Rattle.gs_client_dialogue.specs.Dialogues.{Say, Ask, Grow, Call, both, ask}

-- these requests and answers, in order, are a way through the call to this result
abbrev pub Says : {Q R A : Type 0} → Call Q R A → List (Q × R) → Result A Refusal → Type 0
Says (Say said) pairs result = (result ≡ said) × (pairs ≡ [])
Says {Q} {R} (Ask asked more) pairs result = (reply : R) × (rest : List (Q × R)) × (pairs ≡ (asked, reply) ∷ rest) × Says (more reply) rest result
Says (Grow call) pairs result = Says call pairs result ⊎ ((result ≡ Err refusals.Memory) × (pairs ≡ []))

abbrev pub sum : Call ℕ ℕ ℕ
sum = both (ask 7 (λ reply. Ok reply)) (λ first. both (ask 8 (λ reply. Ok reply)) (λ second. Say (Ok (first + second))))

two_are_said : Says sum ((7, 5) ∷ (8, 6) ∷ []) (Ok 11)
two_are_said = (5, (8, 6) ∷ [], refl, (6, [], refl, (refl, refl)))
