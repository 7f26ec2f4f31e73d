-- Where it is told that a chunk is, it stands by what so many of the records of the turn lead to.
use Rattle.std.proofs.Common.{◌≡◌, ◌∙◌, ◌++◌, List, length, Some, refl, ap, sym, arith}
use Rattle.std.specs.Prelude.{option_and_then, take}
use Rattle.std.proofs.lemmas.List.{append_assoc, take-append-le, take_all}
use Rattle.gs_base.specs.declared.config.Config.{Config}
use Rattle.gs_master.proofs.Composing.{replayed_both}
use Rattle.gs_laws_moves.specs.moves.ForCalls.{IsMadeWellFor}
use Rattle.gs_laws_moves.specs.moves.Guards.{Heard}
use Rattle.gs_laws_moves.specs.moves.Moves.{Chain, Moves, Rests, Then, move_turn}
use Rattle.gs_master_record.specs.Plain.{PlainEntry}
use Rattle.gs_master_spec.specs.Applied.{replayed}
use Rattle.gs_master_spec.specs.State.{State, Turn}
use Rattle.gs_laws_chunks.specs.calls.Told.{ToldStoodThere}

-- the records of a chain lead to what it leaves
chain_fits : (config : Config) (heard : Heard) (s : State) (t : Turn) → Chain config (IsMadeWellFor config heard) s t → replayed s.durable t.records ≡ Some t.after.durable
chain_fits config heard s t (Rests u said) = refl
chain_fits config heard s t (Moves u move said made) = made.0.made.fits
chain_fits config heard s t (Then u first next a b) = replayed_both s.durable first.records next.records ∙ ap (option_and_then (λ mid. replayed mid next.records)) (chain_fits config heard s first a) ∙ chain_fits config heard first.after next b

first_taken : (all xs ys : List PlainEntry) → all ≡ xs ++ ys → take (length xs) all ≡ xs
first_taken all xs ys is = ap (take (length xs)) is ∙ take-append-le (length xs) xs ys (omega arith) ∙ take_all (length xs) xs (omega arith)

pub told_stood : {D : Type 0} → ToldStoodThere D
told_stood step old req chunk view epoch k =
    let w = k.told.within in
    let one = move_turn k.m.config w.before.after w.move in
    let first : take (length (w.before.records ++ one.records)) k.t.records ≡ w.before.records ++ one.records =
    first_taken k.t.records (w.before.records ++ one.records) w.next.records (w.records ∙ sym (append_assoc w.before.records one.records w.next.records)) in
    record {
      m = k.m;
      t = k.t;
      at = k.at;
      turns = k.turns;
      call = k.told.call;
      sent = k.were req k.told.call k.told.was;
      many = length (w.before.records ++ one.records);
      durable = one.after.durable;
      stand = ap (replayed k.m.state.durable) first ∙ replayed_both k.m.state.durable w.before.records one.records ∙ ap (option_and_then (λ mid. replayed mid one.records)) (chain_fits k.m.config _ k.m.state w.before w.first) ∙ w.holds.0.made.fits;
      here = k.told.here;
    }
