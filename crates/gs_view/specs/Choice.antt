-- What servers answered to a proposal, and which of them make the next view.
use Rattle.std.specs.Prelude.{◌≡◌, ℕ, ◌<◌, ◌≤◌, ◌==◌, ◌↔◌, Bool, true, false, List, [], ◌∷◌, Option, Some, None, max, slice_get, slice_set, replicate, refl}
use Rattle.std.specs.Option.{option_map, option_and_then}
use Rattle.gs_base.specs.Members.{servers_where, is_member}

-- by number, the count that each server answered last
abbrev pub Counts : Type 0
Counts = List (Option ℕ)

abbrev pub answer_of : Counts → ℕ → Option ℕ
answer_of answers server = option_and_then (λ answer. answer) (slice_get answers server)

abbrev pub is_count : ℕ → Option ℕ → Bool
is_count count None = false
is_count count (Some n) = n == count

-- the servers that answered this count
abbrev pub answerers : Counts → ℕ → List ℕ
answerers answers count = servers_where (λ server. is_count count (answer_of answers server))

abbrev pub greater : Option ℕ → Option ℕ → Option ℕ
greater None other = other
greater (Some count) None = Some count
greater (Some count) (Some other) = Some (max count other)

abbrev pub greatest : Counts → Option ℕ
greatest [] = None
greatest (answer ∷ answers) = greater answer (greatest answers)

-- the answerers of the greatest count, and that count
abbrev pub chosen : Counts → Option (List ℕ × ℕ)
chosen answers = option_map (λ count. (answerers answers count, count)) (greatest answers)

-- these are all who answered this count, somebody did, and nobody answered a greater one
pub record Chooses (answers : Counts) (members : List ℕ) (count : ℕ) : Type 0 where
  pub answered : (server : ℕ) → server < 16 → (is_member members server ≡ true) ↔ (answer_of answers server ≡ Some count)
  pub somebody : (server : ℕ) × (answer_of answers server ≡ Some count)
  pub greatest : (server n : ℕ) → answer_of answers server ≡ Some n → n ≤ count

abbrev no_answers : Counts
no_answers = replicate 16 None

-- nobody, one, a later answer in the place of an earlier one, and two that answered the same
nobody : chosen no_answers ≡ None
nobody = refl

one : chosen (slice_set no_answers 2 (Some 7)) ≡ Some (2 ∷ [], 7)
unfolding servers_where
one = refl

later : chosen (slice_set (slice_set (slice_set no_answers 2 (Some 7)) 0 (Some 6)) 2 (Some 5)) ≡ Some (0 ∷ [], 6)
unfolding servers_where
later = refl

two : chosen (slice_set (slice_set (slice_set no_answers 2 (Some 7)) 0 (Some 7)) 1 (Some 6)) ≡ Some (0 ∷ 2 ∷ [], 7)
unfolding servers_where
two = refl
