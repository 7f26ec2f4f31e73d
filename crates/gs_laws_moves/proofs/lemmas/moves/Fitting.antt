-- Of a chain whose records fit each move's records fit; and where a chain is cut, some moves have been made and a part of the next one.
use Rattle.std.proofs.Common.{◌≡◌, arith, inl, inr, ◌∙◌, ◌⊎◌, ◌+◌, ◌-◌, ◌<◌, ◌++◌, ℕ, zero, suc, Bool, true, false, List, [], ◌∷◌, append_assoc, length, refl, ap, sym, subst}
use Rattle.std.specs.Prelude.{is_some, nat_lt, option_and_then, slice_get, take, Option, Some, None}
use Rattle.std.proofs.lemmas.Bool.{false≢true}
use Rattle.std.proofs.lemmas.Bool.Decides.{nat_tests}
use Rattle.gs_base.specs.declared.config.Config.{Config}
use Rattle.gs_master_record.specs.Plain.{PlainEntry}
use Rattle.gs_master_spec.specs.Applied.{applied, replayed}
use Rattle.gs_master_spec.specs.Durable.{Durable}
use Rattle.gs_master_spec.specs.State.{State, Turn, joined}
use Rattle.gs_laws_master.specs.Promises.{AllFit}
use Rattle.gs_laws_master.proofs.lemmas.fitting.AcceptedForgets.{folded}
use Rattle.gs_laws_moves.specs.moves.Epochs.{ByItself, Closes, EndsOnce, Within, closes, is_alone}
use Rattle.gs_laws_moves.specs.moves.Guards.{Heard, May}
use Rattle.gs_laws_moves.specs.moves.Laws.{CutsAreBeginnings, IsCutAt}
use Rattle.gs_laws_moves.specs.moves.Moves.{Chain, Rests, Moves, Then, Move, Says, Checkpoints, move_turn}

durable_is : {a b : Durable} → ◌≡◌ {A = Option Durable} (Some a) (Some b) → a ≡ b
durable_is k = cc

-- records that fit, in two parts
pub record AreSplit (d : Durable) (xs ys : List PlainEntry) (e : Durable) : Type 0 where
  pub mid : Durable
  pub first : replayed d xs ≡ Some mid
  pub then : replayed mid ys ≡ Some e

unfoldable pub split : (xs ys : List PlainEntry) (d e : Durable) → replayed d (xs ++ ys) ≡ Some e → AreSplit d xs ys e
split [] ys d e fit = record { mid = d; first = refl; then = fit }
split (x ∷ xs) ys d e fit = by_first (applied d x) refl fit (λ n h. split xs ys n e h)
  where
    by_first : (o : Option Durable) → applied d x ≡ o → option_and_then (λ n. replayed n (xs ++ ys)) o ≡ Some e → ((n : Durable) → replayed n (xs ++ ys) ≡ Some e → AreSplit n xs ys e) → AreSplit d (x ∷ xs) ys e
    by_first None is h rest = absurd (false≢true (ap is_some h))
    by_first (Some n) is h rest = let r = rest n h in record { mid = r.mid; first = ap (option_and_then (λ m. replayed m xs)) is ∙ r.first; then = r.then }

module _ (config : Config) (heard : Heard) where
  -- a move leaves what its records give, where they fit
  move_leaves : (s : State) (move : Move) (d : Durable) → May config heard s move → replayed s.durable (move_turn config s move).records ≡ Some d → (move_turn config s move).after.durable ≡ d
  move_leaves s (Says messages) d may fit = durable_is fit
  move_leaves s Checkpoints d may fit = durable_is (sym may.fits ∙ fit)
  move_leaves s move d may fit = folded (move_turn config s move).records s d fit

  -- so does a chain
  pub chain_leaves : (P : State → Move → Type 0) → ((s : State) (move : Move) → P s move → May config heard s move) → (s : State) (t : Turn) (d : Durable) → Chain config P s t → replayed s.durable t.records ≡ Some d → t.after.durable ≡ d
  chain_leaves P may s t d (Rests u said) fit = durable_is fit
  chain_leaves P may s t d (Moves u move said held) fit = move_leaves s move d (may s move held) fit
  chain_leaves P may s t d (Then u first next a b) fit =
      let parts = split first.records next.records s.durable d fit in
      let left = chain_leaves P may s first parts.mid a parts.first in
      chain_leaves P may first.after next d b (subst (λ m. replayed m next.records ≡ Some d) (sym left) parts.then)

  pub fitted : (P : State → Move → Type 0) → ((s : State) (move : Move) → P s move → May config heard s move) → (s : State) (t : Turn) → Chain config P s t → AllFit s t → Chain config (λ u move. P u move × AllFit u (move_turn config u move)) s t
  fitted P may s t (Rests u said) fit = Rests u said
  fitted P may s t (Moves u move said held) fit = Moves u move said (held, fit)
  fitted P may s t (Then u first next a b) fit =
      let parts = split first.records next.records s.durable next.after.durable fit in
      let left = chain_leaves P may s first parts.mid a parts.first in
      Then s first next (fitted P may s first a (parts.first ∙ ap Some (sym left))) (fitted P may first.after next b (subst (λ m. replayed m next.records ≡ Some next.after.durable) (sym left) parts.then))

-- what holds of each move may be weakened
pub mapped : (config : Config) (P Q : State → Move → Type 0) → ((s : State) (move : Move) → P s move → Q s move) → (s : State) (t : Turn) → Chain config P s t → Chain config Q s t
mapped config P Q f s t (Rests u said) = Rests u said
mapped config P Q f s t (Moves u move said held) = Moves u move said (f s move held)
mapped config P Q f s t (Then u first next a b) = Then u first next (mapped config P Q f s first a) (mapped config P Q f first.after next b)

-- and where a turn that ends one epoch at most fits, each of its moves does
module _ (config : Config) (heard : Heard) (P Q : State → Move → Type 0) (may : (s : State) (move : Move) → P s move → May config heard s move) (made : (s : State) (move : Move) → P s move × AllFit s (move_turn config s move) → Q s move) where
  part_fitted : (is : Move → Bool) (b : Bool) (s : State) (t : Turn) → Chain config (λ u move. P u move × (is move ≡ b)) s t → AllFit s t → Chain config (λ u move. Q u move × (is move ≡ b)) s t
  part_fitted is b s t chain fit =
      mapped config (λ u move. (P u move × (is move ≡ b)) × AllFit u (move_turn config u move)) (λ u move. Q u move × (is move ≡ b)) (λ u move both. (made u move (both.0.0, both.1), both.0.1)) s t
      (fitted config heard (λ u move. P u move × (is move ≡ b)) (λ u move held. may u move held.0) s t chain fit)

  pub once_fitted : (s : State) (t : Turn) → EndsOnce config P s t → AllFit s t → EndsOnce config Q s t
  once_fitted s t (Within u v chain) fit = Within s t (part_fitted is_alone false s t chain fit)
  once_fitted s t (ByItself u move said held is) fit = ByItself s move said (made s move (held, fit)) is
  once_fitted s t (Closes u move said next held is chain) fit =
      let first = move_turn config s move in
      let parts = split first.records next.records s.durable next.after.durable fit in
      let left = move_leaves config heard s move parts.mid (may s move held) parts.first in
      Closes s move said next (made s move (held, parts.first ∙ ap Some (sym left))) is (part_fitted closes true first.after next chain (subst (λ m. replayed m next.records ≡ Some next.after.durable) (sym left) parts.then))

-- what holds of each of its moves may be weakened
pub once_mapped : (config : Config) (P Q : State → Move → Type 0) → ((s : State) (move : Move) → P s move → Q s move) → (s : State) (t : Turn) → EndsOnce config P s t → EndsOnce config Q s t
once_mapped config P Q f s t (Within u v chain) = Within s t (mapped config (λ u move. P u move × (is_alone move ≡ false)) (λ u move. Q u move × (is_alone move ≡ false)) (λ u move both. (f u move both.0, both.1)) s t chain)
once_mapped config P Q f s t (ByItself u move said held is) = ByItself s move said (f s move held) is
once_mapped config P Q f s t (Closes u move said next held is chain) =
    Closes s move said next (f s move held) is (mapped config (λ u move. P u move × (closes move ≡ true)) (λ u move. Q u move × (closes move ≡ true)) (λ u move both. (f u move both.0, both.1)) (move_turn config s move).after next chain)

-- such a turn is a chain
pub once_chain : (config : Config) (P : State → Move → Type 0) (s : State) (t : Turn) → EndsOnce config P s t → Chain config P s t
once_chain config P s t (Within u v chain) = mapped config (λ u move. P u move × (is_alone move ≡ false)) P (λ u move both. both.0) s t chain
once_chain config P s t (ByItself u move said held is) = Moves s move said held
once_chain config P s t (Closes u move said next held is chain) =
    let first = move_turn config s move in Then s (record first { said = said }) next (Moves s move said held) (mapped config (λ u move. P u move × (closes move ≡ true)) P (λ u move both. both.0) first.after next chain)

-- ---- a chain that is cut

length_append : (xs ys : List PlainEntry) → length (xs ++ ys) ≡ length xs + length ys
length_append [] ys = omega arith
length_append (x ∷ xs) ys = (let rest = length_append xs ys in omega arith)

take_before : (xs ys : List PlainEntry) (n : ℕ) → n < length xs → take n (xs ++ ys) ≡ take n xs
take_before [] ys n lt = absurd (omega arith)
take_before (x ∷ xs) ys zero lt = refl
take_before (x ∷ xs) ys (suc n) lt = ap (λ l. x ∷ l) (take_before xs ys n (omega arith))

get_before : (xs ys : List PlainEntry) (n : ℕ) → n < length xs → slice_get (xs ++ ys) n ≡ slice_get xs n
get_before [] ys n lt = absurd (omega arith)
get_before (x ∷ xs) ys zero lt = refl
get_before (x ∷ xs) ys (suc n) lt = get_before xs ys n (omega arith)

take_behind : (xs ys : List PlainEntry) (n : ℕ) → take (length xs + n) (xs ++ ys) ≡ xs ++ take n ys
take_behind [] ys n = (let same : 0 + n ≡ n = omega arith in ap (λ k. take k ys) same)
take_behind (x ∷ xs) ys n = (let same : length (x ∷ xs) + n ≡ suc (length xs + n) = omega arith in ap (λ k. take k (x ∷ xs ++ ys)) same ∙ ap (λ l. x ∷ l) (take_behind xs ys n))

get_behind : (xs ys : List PlainEntry) (n : ℕ) → slice_get (xs ++ ys) (length xs + n) ≡ slice_get ys n
get_behind [] ys n = (let same : 0 + n ≡ n = omega arith in ap (slice_get ys) same)
get_behind (x ∷ xs) ys n = (let same : length (x ∷ xs) + n ≡ suc (length xs + n) = omega arith in ap (slice_get (x ∷ xs ++ ys)) same ∙ get_behind xs ys n)

-- one part or the other
either_part : (n m : ℕ) → (n < m) ⊎ ((k : ℕ) × (n ≡ m + k))
either_part n m = by_test (nat_lt n m) refl
  where
    by_test : (b : Bool) → nat_lt n m ≡ b → (n < m) ⊎ ((k : ℕ) × (n ≡ m + k))
    by_test true is = inl (grind (arith, nat_tests))
    by_test false is = inr (n - m, (grind (arith, nat_tests)))

pub cuts_are_beginnings : (P : State → Move → Type 0) → CutsAreBeginnings P
cuts_are_beginnings P config s t place (Rests u said) within = absurd (omega arith)
cuts_are_beginnings P config s t place (Moves u move said held) within = record {
  before = record { after = s; records = []; sent = []; said = None };
  move = move;
  many = place;
  chain = Rests s None;
  holds = held;
  within = within;
  stand = refl;
  doubt = refl;
}
cuts_are_beginnings P config s t place (Then u first next a b) within =
    by_part (either_part place (length first.records)) (λ lt. cuts_are_beginnings P config s first place a lt) (λ k lt. cuts_are_beginnings P config first.after next k b lt)
  where
    by_part : (place < length first.records) ⊎ ((k : ℕ) × (place ≡ length first.records + k)) → (place < length first.records → IsCutAt config P s first place) → ((k : ℕ) → k < length next.records → IsCutAt config P first.after next k) → IsCutAt config P s (joined first next) place
    by_part (inl lt) f g =
        let c = f lt in
        record { before = c.before; move = c.move; many = c.many; chain = c.chain; holds = c.holds; within = c.within; stand = take_before first.records next.records place lt ∙ c.stand; doubt = get_before first.records next.records place lt ∙ c.doubt }
    by_part (inr part) f g =
        let far = within in
        let k = part.0 in
        let same = part.1 in
        let long = length_append first.records next.records in
        let c = g k (omega arith) in
        record {
          before = joined first c.before;
          move = c.move;
          many = c.many;
          chain = Then s first c.before a c.chain;
          holds = c.holds;
          within = c.within;
          stand = ap (λ n. take n (first.records ++ next.records)) same ∙ take_behind first.records next.records k ∙ ap (λ l. first.records ++ l) c.stand ∙ sym (append_assoc first.records c.before.records (take c.many (move_turn config c.before.after c.move).records));
          doubt = ap (slice_get (first.records ++ next.records)) same ∙ get_behind first.records next.records k ∙ c.doubt;
        }
