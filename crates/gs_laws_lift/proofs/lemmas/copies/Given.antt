-- A handle that was given stays so, also where a disk fails at a turn and some of its records stand.
use Rattle.std.proofs.Common.{◌≡◌, ◌∙◌, ◌<◌, ◌⊎◌, inl, inr, ℕ, zero, suc, true, List, [], ◌∷◌, length, take, arith, refl, ap, sym, subst}
use Rattle.std.specs.Prelude.{Some}
use Rattle.std.specs.List.{list_all}
use Rattle.std.proofs.lemmas.Bool.{and_from, and_parts}
use Rattle.gs_base.specs.declared.config.Config.{Config}
use Rattle.gs_laws_master.proofs.lemmas.keeping.Counters.{keeps_given}
use Rattle.gs_laws_moves.proofs.lemmas.moves.Fitting.{chain_leaves, cuts_are_beginnings, once_chain, split}
use Rattle.gs_laws_moves.proofs.lemmas.moves.Listed.{over_records}
use Rattle.gs_laws_moves.proofs.lemmas.moves.Stands.{no_whole, plain, plain_records}
use Rattle.gs_laws_moves.specs.moves.Epochs.{EndsOnce}
use Rattle.gs_laws_moves.specs.moves.Guards.{Heard, IsMade}
use Rattle.gs_laws_moves.specs.moves.Laws.{IsCutAt, IsMadeWell}
use Rattle.gs_laws_moves.specs.moves.Moves.{Chain, Checkpoints, Move, move_turn}
use Rattle.gs_master_record.specs.Plain.{PlainEntry}
use Rattle.gs_master_spec.specs.Applied.{is_whole_entry, replayed}
use Rattle.gs_master_spec.specs.Durable.{Durable, is_given}
use Rattle.gs_master_spec.specs.State.{State, Turn}
use Rattle.gs_laws_lift.proofs.lemmas.copies.Told.{chain_given}

abbrev GivenOn : ℕ → Durable → Durable → Type 0
GivenOn chunk d e = is_given d.next_handle chunk ≡ true → is_given e.next_handle chunk ≡ true

all_taken : (many : ℕ) (xs : List PlainEntry) → list_all plain xs ≡ true → list_all plain (take many xs) ≡ true
all_taken zero xs all = refl
all_taken (suc many) [] all = all
all_taken (suc many) (x ∷ xs) all = (let parts = and_parts (plain x) (list_all plain xs) all in and_from (plain x) (list_all plain (take many xs)) parts.0 (all_taken many xs parts.1))

part_or_all : (many : ℕ) (xs : List PlainEntry) → (many < length xs) ⊎ (take many xs ≡ xs)
part_or_all zero [] = inr refl
part_or_all zero (x ∷ xs) = inl (omega arith)
part_or_all (suc many) [] = inr refl
part_or_all (suc many) (x ∷ xs) = one_more (part_or_all many xs)
  where
    one_more : (many < length xs) ⊎ (take many xs ≡ xs) → (suc many < length (x ∷ xs)) ⊎ (take (suc many) (x ∷ xs) ≡ x ∷ xs)
    one_more (inl less) = inl (omega arith)
    one_more (inr same) = inr (ap (λ ys. x ∷ ys) same)

module _ (config : Config) (heard : Heard) (chunk : ℕ) where
  -- over some records of a move, but not all
  part_given : (s : State) (move : Move) (many : ℕ) (d : Durable) → IsMade config heard s move → many < length (move_turn config s move).records → replayed s.durable (take many (move_turn config s move).records) ≡ Some d → GivenOn chunk s.durable d
  part_given s Checkpoints many d made within fit = by_none many within fit
    where
      by_none : (n : ℕ) → n < length (move_turn config s Checkpoints).records → replayed s.durable (take n (move_turn config s Checkpoints).records) ≡ Some d → GivenOn chunk s.durable d
      by_none zero within fit given = subst (λ (e : Durable). is_given e.next_handle chunk ≡ true) (let same : s.durable ≡ d = cc in same) given
      by_none (suc n) within fit given = absurd (omega arith)
  part_given s move many d made within fit =
      over_records (GivenOn chunk) (λ d here. here) (λ d n e a b here. b (a here)) plain (λ d e entry usual fit. (keeps_given entry d e chunk (no_whole (is_whole_entry entry) usual) fit).0) (take many (move_turn config s move).records) s.durable d
      (all_taken many (move_turn config s move).records (plain_records config heard s move refl)) fit

  cut_given : (s : State) (t : Turn) (place : ℕ) (d : Durable) → IsCutAt config (IsMadeWell config heard) s t place → replayed s.durable (take place t.records) ≡ Some d → GivenOn chunk s.durable d
  cut_given s t place d c fit given =
      let parts = split c.before.records (take c.many (move_turn config c.before.after c.move).records) s.durable d (ap (replayed s.durable) (sym c.stand) ∙ fit) in
      let left = chain_leaves config heard (IsMadeWell config heard) (λ u move made. made.made.may) s c.before parts.mid c.chain parts.first in
      part_given c.before.after c.move c.many d c.holds.made c.within (subst (λ m. replayed m (take c.many (move_turn config c.before.after c.move).records) ≡ Some d) (sym left) parts.then) (chain_given config heard chunk s c.before c.chain given)

  -- So it is where the first records of a turn stand, or all.
  pub stays_given_cut : (s : State) (t : Turn) (many : ℕ) (d : Durable) → EndsOnce config (IsMadeWell config heard) s t → replayed s.durable (take many t.records) ≡ Some d → GivenOn chunk s.durable d
  stays_given_cut s t many d turn fit = by_part (part_or_all many t.records)
    where
      chain : Chain config (IsMadeWell config heard) s t
      chain = once_chain config (IsMadeWell config heard) s t turn

      by_part : (many < length t.records) ⊎ (take many t.records ≡ t.records) → GivenOn chunk s.durable d
      by_part (inl within) = cut_given s t many d (cuts_are_beginnings (IsMadeWell config heard) config s t many chain within) fit
      by_part (inr all) =
          let left = chain_leaves config heard (IsMadeWell config heard) (λ u move made. made.made.may) s t d chain (ap (replayed s.durable) (sym all) ∙ fit) in
          λ given. subst (λ (e : Durable). is_given e.next_handle chunk ≡ true) left (chain_given config heard chunk s t chain given)
