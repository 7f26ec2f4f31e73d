-- What one step may leave of known bytes.
use Rattle.std.proofs.Common.{◌≡◌, ◌≤◌, ◌+◌, ◌-◌, ℕ, zero, suc, List, [], ◌∷◌, ◌++◌, length, take, drop, refl, sym, ◌∙◌, ap, subst, arith, length-take}
use Rattle.std.proofs.lemmas.List.{append-nil, take_all, drop_all, drop-drop}
use Rattle.gs_journal_disk.specs.Disk.{Torn, Cut, Holds, Only, OutcomesFollow}

pub take_length : (n : ℕ) (xs : List ℕ) → take (length (take n xs)) xs ≡ take n xs
take_length zero xs = refl
take_length (suc n) [] = refl
take_length (suc n) (x ∷ xs) = ap (λ (l : List ℕ). x ∷ l) (take_length n xs)

-- a crash before the step
pub torn_same : (at n : ℕ) (c : List ℕ) → Torn at n c c
torn_same at n c = record { before = take_length at c; after = refl; no_shorter = omega arith; no_longer = omega arith }

pub cut_same : (n : ℕ) (c : List ℕ) → Cut n c c
cut_same n c = record { no_shorter = omega (arith, length-take n c); front = take_all (length c) c (omega arith) }

-- a step from known bytes
pub from_known : (step : List ℕ → List ℕ → Type 0) (bytes : List ℕ) (old new : List ℕ → Type 0) → Only bytes old → OutcomesFollow step old new → (c : List ℕ) → new c → step bytes c
from_known step bytes old new only follows c left =
    let from = follows c left in subst (λ f. step f c) (only from.0 from.1) from.2

-- a shorter write tears no more than a longer one at the same place
pub torn_wider : (at k n : ℕ) → k ≤ n → (old new : List ℕ) → Torn at k old new → Torn at n old new
torn_wider at k n le old new torn =
    let parts : at + n ≡ at + k + (n - k) = omega (arith, le) in
    let of_parts : (bytes : List ℕ) → drop (at + n) bytes ≡ drop (n - k) (drop (at + k) bytes) = λ bytes. ap (λ i. drop i bytes) parts ∙ sym (drop-drop (n - k) (at + k) bytes) in
    record {
      before = torn.before;
      after = of_parts new ∙ ap (drop (n - k)) torn.after ∙ sym (of_parts old);
      no_shorter = torn.no_shorter;
      no_longer = omega (arith, le, torn.no_longer);
    }

-- bytes that are put behind all that stands
pub put_behind : (gate : ℕ) (bytes old new : List ℕ) → length old ≡ gate + 1 → Holds old (gate + 1) bytes new → new ≡ old ++ bytes
put_behind gate bytes old new last holds =
    holds
    ∙ ap (λ (l : List ℕ). l ++ bytes ++ drop (gate + 1 + length bytes) old) (take_all (gate + 1) old (omega (arith, last)))
    ∙ ap (λ (l : List ℕ). old ++ bytes ++ l) (drop_all (gate + 1 + length bytes) old (omega (arith, last)))
    ∙ append-nil (old ++ bytes)
