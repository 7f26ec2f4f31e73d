-- What a turn leaves that is cut at a disk that fails: some of its moves, and nothing of the next one that tells of chunks or names; or a scan that goes part of its way.
use Rattle.std.proofs.Common.{◌≡◌, ◌⊎◌, ◌∙◌, ◌+◌, ◌-◌, ◌<◌, ◌≤◌, ◌++◌, ◌&&◌, ℕ, zero, suc, Bool, true, false, List, [], ◌∷◌, length, map, Option, Some, None, refl, sym, ap, subst, inl, inr, arith}
use Rattle.std.specs.Prelude.{nat_lt, option_and_then, take}
use Rattle.std.specs.List.{AllByRecursion, list_all}
use Rattle.std.proofs.Math.Seq.{take-append-add}
use Rattle.std.proofs.lemmas.Bool.{and_parts, false≢true, true≢false}
use Rattle.std.proofs.lemmas.Bool.Decides.{nat_tests}
use Rattle.std.proofs.lemmas.List.{length-append, take-append-le, take_all}
use Rattle.gs_base.specs.declared.config.Config.{Config}
use Rattle.gs_base.specs.declared.refusal.Refusal.{Refusal}
use Rattle.gs_path.specs.Path.{Path}
use Rattle.gs_master_record.specs.Plain.{Edited, PlainEntry}
use Rattle.gs_master.proofs.Composing.{replayed_both}
use Rattle.gs_master_spec.specs.Applied.{replayed}
use Rattle.gs_master_spec.specs.Durable.{Durable}
use Rattle.gs_master_spec.specs.Settling.{own_request}
use Rattle.gs_master_spec.specs.State.{State, Turn, joined}
use Rattle.gs_master_spec.specs.Working.{scan_edits}
use Rattle.gs_laws_moves.proofs.lemmas.moves.Fitting.{chain_leaves, cuts_are_beginnings, split}
use Rattle.gs_laws_moves.specs.moves.Epochs.{ByItself, Closes, EndsOnce, Within, closes, is_alone, is_followed}
use Rattle.gs_laws_moves.specs.moves.Guards.{Heard}
use Rattle.gs_laws_moves.specs.moves.Laws.{IsMadeWell}
use Rattle.gs_laws_moves.specs.moves.Moves.{BeginsRollback, Chain, Move, Moves, Rests, Scans, Settles, move_turn}
use Rattle.gs_laws_parts.proofs.lemmas.master.Cutting.{has_many}
use Rattle.gs_laws_lift.proofs.lemmas.stores.CutRows.{IsLinked, is_scan, is_silent, linked_still, part_links, part_silent, short_part}

-- so many of a list of records are all that it is made of
pub taken : (P : PlainEntry → Type 0) (many : ℕ) (xs : List PlainEntry) → AllByRecursion P xs → AllByRecursion P (take many xs)
taken P zero xs all = tt
taken P (suc many) [] all = tt
taken P (suc many) (x ∷ xs) all = (all.0, taken P many xs all.1)

pub tested : (f : PlainEntry → Bool) (many : ℕ) (xs : List PlainEntry) → list_all f xs ≡ true → list_all f (take many xs) ≡ true
tested f zero xs all = refl
tested f (suc many) [] all = refl
tested f (suc many) (x ∷ xs) all = (let parts = and_parts (f x) (list_all f xs) all in ap (λ b. b && list_all f (take many xs)) parts.0 ∙ tested f many xs parts.1)

taken_below : (all : ℕ) (ys : List PlainEntry) → length (take all ys) ≤ all
taken_below zero ys = omega arith
taken_below (suc all) [] = omega arith
taken_below (suc all) (y ∷ ys) = (let rest = taken_below all ys in omega arith)

taken_twice : (many all : ℕ) (ys : List PlainEntry) → many ≤ all → take many (take all ys) ≡ take many ys
taken_twice zero all ys below = refl
taken_twice (suc many) zero ys below = absurd (omega arith)
taken_twice (suc many) (suc all) [] below = refl
taken_twice (suc many) (suc all) (y ∷ ys) below = ap (λ (xs : List PlainEntry). y ∷ xs) (taken_twice many all ys (omega arith))

-- so many of so many are the first of them
pub taken_of : (many all : ℕ) (xs ys : List PlainEntry) → xs ≡ take all ys → many ≤ length xs → take many xs ≡ take many ys
taken_of many all xs ys is low = ap (take many) is ∙ taken_twice many all ys (let n = ap (λ (zs : List PlainEntry). length zs) is in let m = taken_below all ys in omega arith)

durable_is : {a b : Durable} → ◌≡◌ {A = Option Durable} (Some a) (Some b) → a ≡ b
durable_is k = cc

-- so many, or all
enough : (many all : ℕ) → many ≤ all → (many < all) ⊎ (many ≡ all)
enough many all within = by_test (nat_lt many all) refl
  where
    by_test : (b : Bool) → nat_lt many all ≡ b → (many < all) ⊎ (many ≡ all)
    by_test true is = inl (grind (arith, nat_tests))
    by_test false is = inr (grind (arith, nat_tests))

-- one part or the other
either_part : (n m : ℕ) → (n < m) ⊎ ((k : ℕ) × (n ≡ m + k))
either_part n m = by_test (nat_lt n m) refl
  where
    by_test : (b : Bool) → nat_lt n m ≡ b → (n < m) ⊎ ((k : ℕ) × (n ≡ m + k))
    by_test true is = inl (grind (arith, nat_tests))
    by_test false is = inr (n - m, (grind (arith, nat_tests)))

pub taken_all : (many : ℕ) (xs : List PlainEntry) → many ≡ length xs → take many xs ≡ xs
taken_all many xs is = ap (λ n. take n xs) is ∙ take_all (length xs) xs (omega arith)

module _ (config : Config) (heard : Heard) where
  abbrev Well : State → Move → Type 0
  Well u move = IsMadeWell config heard u move

  -- These are the records of such a turn, but for some behind them that tell of no chunk and no name.
  pub data CutLeaves (s : State) (records : List PlainEntry) (d : Durable) : Type 0 where
    Leads : (t : Turn) (more : List PlainEntry) → EndsOnce config Well s t → records ≡ t.records ++ more → list_all is_silent more ≡ true → replayed s.durable t.records ≡ Some t.after.durable → IsLinked t.after.durable d → CutLeaves s records d
    Scanned : (removed : List Path) (forgotten : List ℕ) (many : ℕ) → Well s (Scans removed forgotten) → records ≡ take many (map (Edited own_request) (scan_edits removed forgotten)) → replayed s.durable records ≡ Some d → CutLeaves s records d

  abbrev rests : State → Turn
  rests s = record { after = s; records = []; sent = []; said = None }

  nothing_left : (s : State) (records : List PlainEntry) (d : Durable) → list_all is_silent records ≡ true → IsLinked s.durable d → CutLeaves s records d
  nothing_left s records d silent links = Leads (rests s) records (Within s (rests s) (Rests s None)) refl silent refl links

  -- where moves of one kind make a chain
  module _ (Holds : State → Move → Type 0) (well : (u : State) (move : Move) → Holds u move → Well u move) (no_scan : (u : State) (move : Move) → Holds u move → is_scan move ≡ false) where
    record IsFront (s : State) (records : List PlainEntry) (d : Durable) : Type 0 where
      before : Turn
      more : List PlainEntry
      chain : Chain config Holds s before
      are : records ≡ before.records ++ more
      silent : list_all is_silent more ≡ true
      fits : replayed s.durable before.records ≡ Some before.after.durable
      links : IsLinked before.after.durable d

    none_behind : (xs : List PlainEntry) → xs ++ [] ≡ xs
    none_behind [] = refl
    none_behind (x ∷ xs) = ap (λ (ys : List PlainEntry). x ∷ ys) (none_behind xs)

    front_of : (s : State) (t : Turn) (many : ℕ) (d : Durable) → Chain config Holds s t → many ≤ length t.records → replayed s.durable (take many t.records) ≡ Some d → IsFront s (take many t.records) d
    front_of s t many d chain within fit = by_place (enough many (length t.records) within)
      where
        by_place : (many < length t.records) ⊎ (many ≡ length t.records) → IsFront s (take many t.records) d
        by_place (inl less) =
            let c = cuts_are_beginnings Holds config s t many chain less in
            let part = take c.many (move_turn config c.before.after c.move).records in
            let parts = split c.before.records part s.durable d (ap (replayed s.durable) (sym c.stand) ∙ fit) in
            let left = chain_leaves config heard Holds (λ u move held. (well u move held).made.may) s c.before parts.mid c.chain parts.first in
            record {
              before = c.before;
              more = part;
              chain = c.chain;
              are = c.stand;
              silent = part_silent config heard c.before.after d c.many c.move (no_scan c.before.after c.move c.holds) (c.within, subst (λ m. replayed m part ≡ Some d) (sym left) parts.then);
              fits = parts.first ∙ ap Some (sym left);
              links = part_links config heard c.before.after d c.many c.move (no_scan c.before.after c.move c.holds) (c.within, subst (λ m. replayed m part ≡ Some d) (sym left) parts.then);
            }
        by_place (inr all) =
            let whole = taken_all many t.records all in
            let fits = ap (replayed s.durable) (sym whole) ∙ fit in
            let left = chain_leaves config heard Holds (λ u move held. (well u move held).made.may) s t d chain fits in
            record { before = t; more = []; chain = chain; are = whole ∙ sym (none_behind t.records); silent = refl; fits = fits ∙ ap Some (sym left); links = linked_still t.after.durable d left }

  scans_alone : (move : Move) → is_alone move ≡ false → is_scan move ≡ false
  scans_alone (Scans removed forgotten) beside = absurd (true≢false beside)
  scans_alone move beside = refl

  scans_close : (move : Move) → closes move ≡ true → is_scan move ≡ false
  scans_close (Scans removed forgotten) is = absurd (false≢true is)
  scans_close move is = refl

  short_no_scan : (move : Move) → has_many move ≡ false → is_scan move ≡ false
  short_no_scan (Scans removed forgotten) few = absurd (false≢true (sym few))
  short_no_scan move few = refl

  -- of a move that is alone a part stands
  alone_part : (s : State) (move : Move) (many : ℕ) (d : Durable) → Well s move → is_alone move ≡ true → many < length (move_turn config s move).records → replayed s.durable (take many (move_turn config s move).records) ≡ Some d → CutLeaves s (take many (move_turn config s move).records) d
  alone_part s (Scans removed forgotten) many d well alone within fit = Scanned removed forgotten many well refl fit
  alone_part s (Settles q asking carried view) many d well alone within fit = absurd (false≢true alone)
  alone_part s move many d well alone within fit =
      nothing_left s (take many (move_turn config s move).records) d (part_silent config heard s d many move (short_no_scan move refl) (within, fit)) (linked_still s.durable d (short_part config heard s d many move refl (within, fit)))

  one_leaves : (s : State) (move : Move) (said : Option Refusal) (d : Durable) → Well s move → replayed s.durable (move_turn config s move).records ≡ Some d → (move_turn config s move).after.durable ≡ d
  one_leaves s move said d well fit = chain_leaves config heard Well (λ u m w. w.made.may) s (record (move_turn config s move) { said = said }) d (Moves s move said well) fit

  followed_alone : (move : Move) → is_followed move ≡ true → is_alone move ≡ true
  followed_alone (Scans removed forgotten) is = refl
  followed_alone BeginsRollback is = refl
  followed_alone move is = absurd (false≢true is)

  nothing_more : (xs : List PlainEntry) → xs ≡ xs ++ []
  nothing_more [] = refl
  nothing_more (x ∷ xs) = ap (λ (ys : List PlainEntry). x ∷ ys) (nothing_more xs)

  append_more : (xs ys zs : List PlainEntry) → xs ++ (ys ++ zs) ≡ (xs ++ ys) ++ zs
  append_more [] ys zs = refl
  append_more (x ∷ xs) ys zs = ap (λ (l : List PlainEntry). x ∷ l) (append_more xs ys zs)

  joined_are : (all first behind front more : List PlainEntry) → all ≡ first ++ behind → behind ≡ front ++ more → all ≡ (first ++ front) ++ more
  joined_are all first behind front more is are = is ∙ ap (λ (l : List PlainEntry). first ++ l) are ∙ append_more first front more

  replays_both : (xs ys : List PlainEntry) (d e f : Durable) → replayed d xs ≡ Some e → replayed e ys ≡ Some f → replayed d (xs ++ ys) ≡ Some f
  replays_both xs ys d e f first then = replayed_both d xs ys ∙ ap (option_and_then (λ n. replayed n ys)) first ∙ then

  pub cut_leaves : (s : State) (t : Turn) (many : ℕ) (d : Durable) → EndsOnce config Well s t → many ≤ length t.records → replayed s.durable (take many t.records) ≡ Some d → CutLeaves s (take many t.records) d
  cut_leaves s t many d (Within u v chain) within fit =
      let Calm : State → Move → Type 0 = λ u move. Well u move × (is_alone move ≡ false) in
      let f = front_of Calm (λ u move held. held.0) (λ u move held. scans_alone move held.1) s t many d chain within fit in
      Leads f.before f.more (Within s f.before f.chain) f.are f.silent f.fits f.links
  cut_leaves s t many d (ByItself u move said well alone) within fit = by_place (enough many (length one.records) within)
    where
      one : Turn
      one = move_turn config s move

      by_place : (many < length one.records) ⊎ (many ≡ length one.records) → CutLeaves s (take many one.records) d
      by_place (inl less) = alone_part s move many d well alone less fit
      by_place (inr all) =
          let whole = taken_all many one.records all in
          let fits = ap (replayed s.durable) (sym whole) ∙ fit in
          let left = one_leaves s move said d well fits in
          Leads (record one { said = said }) [] (ByItself s move said well alone) (whole ∙ nothing_more one.records) refl (fits ∙ ap Some (sym left)) (linked_still one.after.durable d left)
  cut_leaves s t many d (Closes u move said next well is chain) within fit = by_part (either_part many (length one.records))
    where
      one : Turn
      one = move_turn config s move

      by_part : (many < length one.records) ⊎ ((k : ℕ) × (many ≡ length one.records + k)) → CutLeaves s (take many (one.records ++ next.records)) d
      by_part (inl less) =
          let first = take-append-le many one.records next.records (omega arith) in
          subst (λ xs. CutLeaves s xs d) (sym first) (alone_part s move many d well (followed_alone move is) less (ap (replayed s.durable) (sym first) ∙ fit))
      by_part (inr (k, same)) =
          let split_there : take many (one.records ++ next.records) ≡ one.records ++ take k next.records = ap (λ n. take n (one.records ++ next.records)) same ∙ take-append-add one.records next.records k in
          let parts = split one.records (take k next.records) s.durable d (ap (replayed s.durable) (sym split_there) ∙ fit) in
          let left = one_leaves s move said parts.mid well parts.first in
          let long = length-append one.records next.records in
          let all = within in
          let f = front_of (λ u m. Well u m × (closes m ≡ true)) (λ u m held. held.0) (λ u m held. scans_close m held.1) one.after next k d chain (omega arith) (subst (λ m. replayed m (take k next.records) ≡ Some d) (sym left) parts.then) in
          Leads (joined (record one { said = said }) f.before) f.more (Closes s move said f.before well is f.chain) (joined_are (take many (one.records ++ next.records)) one.records (take k next.records) f.before.records f.more split_there f.are) f.silent
          (replays_both one.records f.before.records s.durable one.after.durable f.before.after.durable (parts.first ∙ ap Some (sym left)) f.fits) f.links
