-- What a turn puts into files was in none, and is in one behind it.
use Rattle.std.proofs.Common.{◌≡◌, ◌∙◌, ◌&&◌, ℕ, Bool, true, false, refl, sym}
use Rattle.std.specs.Prelude.{is_none, is_some, slice_get, Option, Ok, Some, None}
use Rattle.std.specs.FinMap as fin
use Rattle.std.specs.List.{AllByRecursion}
use Rattle.std.proofs.lemmas.Bool.{and_parts, false≢true}
use Rattle.gs_base.specs.declared.config.Config.{Config}
use Rattle.gs_base.specs.declared.numbers.ReqId.{ReqId}
use Rattle.gs_edit.specs.Edits.{has_reference, holds_chunk}
use Rattle.gs_edit.specs.View.{NamesView}
use Rattle.gs_edit.specs.declared.edit.Edit.TheVariants as edits
use Rattle.gs_lease.specs.declared.view.View.{View}
use Rattle.gs_path.specs.Path.{Path}
use Rattle.gs_tree.specs.Edits.{chunks_in}
use Rattle.gs_tree.specs.Find.{at}
use Rattle.gs_laws_moves.proofs.lemmas.moves.GivenNames.{names_given}
use Rattle.gs_laws_master.proofs.lemmas.names.EditsBack.{admitted}
use Rattle.gs_laws_master.proofs.lemmas.names.Undone.{was_named}
use Rattle.gs_laws_plain.specs.commands.Places.{Place}
use Rattle.gs_master_record.specs.Plain.{AddChunk, Cow, Edited}
use Rattle.gs_master_spec.specs.Durable.{is_listed}
use Rattle.gs_master_spec.specs.Settling.{own_request}
use Rattle.gs_master_spec.specs.State.{State, Turn}
use Rattle.gs_master_spec.specs.Undoing.{edited_names}
use Rattle.gs_laws_moves.proofs.lemmas.moves.Fitting.{mapped}
use Rattle.gs_laws_moves.proofs.lemmas.moves.Free.{cow_here}
use Rattle.gs_laws_moves.proofs.lemmas.moves.Listed.{stays_listed}
use Rattle.gs_laws_moves.proofs.lemmas.moves.Right.{added_right, one_fits}
use Rattle.gs_laws_moves.specs.moves.Epochs.{ByItself, Closes, EndsOnce, Within, closes, is_alone, is_followed}
use Rattle.gs_laws_moves.specs.moves.Guards.{Heard, IsMade}
use Rattle.gs_laws_moves.specs.moves.Laws.{IsMadeWell}
use Rattle.gs_laws_moves.specs.moves.Moves.{Chain, Move, Moves, Rests, Then, Extends, Replaces, move_turn}
use Rattle.gs_laws_lift.proofs.lemmas.copies.Counted.{is_listed_there}
use Rattle.gs_laws_lift.proofs.lemmas.copies.Told.{chain_new, extend_put, is_putting, none_put, puts_both, puts_weaker, replace_put}
use Rattle.gs_laws_lift.specs.copies.Told.{AllNew, MakeSo, OfPut}

-- what is put there was in no file
none_no : (o : Option ℕ) → is_none o ≡ true → is_some o ≡ false
none_no None h = refl
none_no (Some n) h = absurd (false≢true h)

added_out : (path : Path) (chunk : ℕ) (names after : NamesView) → edited_names (AddChunk path chunk) names ≡ Ok after → is_some (fin.get names.refs chunk) ≡ false
added_out path chunk names after e = let n = was_named (AddChunk path chunk) names after e in none_no (fin.get names.refs chunk) (admitted (edits.AddChunk path chunk) (fin.entries names.tree) names.refs (n.rows, n.refs) n.made).asked

replaced_out : (path : Path) (index old new : ℕ) (names after : NamesView) → edited_names (Cow path index old new) names ≡ Ok after → is_some (fin.get names.refs new) ≡ false
replaced_out path index old new names after e =
    let n = was_named (Cow path index old new) names after e in
    let asked = (admitted (edits.Cow path index old new) (fin.entries names.tree) names.refs (n.rows, n.refs) n.made).asked in
    none_no (fin.get names.refs new) (and_parts (is_none (fin.get names.refs new)) (holds_chunk (slice_get (chunks_in (at (fin.entries names.tree) path)) index) old && has_reference (fin.get names.refs old)) asked).0

module _ (config : Config) (heard : Heard) where
  abbrev IsWithin : State → Move → Type 0
  IsWithin u move = IsMadeWell config heard u move × (is_alone move ≡ false)

  -- what is so of it over a turn
  abbrev Over : (Option Place → ℕ → Type 0) → State → State → Option Place → ℕ → Type 0
  Over N s u place chunk = N place chunk × ((is_listed s.durable chunk ≡ false) × (is_listed u.durable chunk ≡ true))

  well : (s : State) (t : Turn) → Chain config IsWithin s t → Chain config (IsMadeWell config heard) s t
  well = mapped config IsWithin (IsMadeWell config heard) (λ u move made. made.0)

  stays : (s : State) (t : Turn) (chunk : ℕ) → Chain config IsWithin s t → is_listed s.durable chunk ≡ true → is_listed t.after.durable chunk ≡ true
  stays s t chunk (Rests u said) listed = listed
  stays s t chunk (Moves u move said made) listed = stays_listed config heard u move chunk made.0.made made.1 listed
  stays s t chunk (Then u first next a b) listed = stays first.after next chunk b (stays u first chunk a listed)

  was_out : (s : State) (t : Turn) (chunk : ℕ) → Chain config IsWithin s t → is_listed t.after.durable chunk ≡ false → is_listed s.durable chunk ≡ false
  was_out s t chunk chain out = by_test (is_listed s.durable chunk) refl
    where
      by_test : (b : Bool) → is_listed s.durable chunk ≡ b → b ≡ false
      by_test true is = absurd (false≢true (sym out ∙ stays s t chunk chain is))
      by_test false is = refl

  module _ (N : Option Place → ℕ → Type 0) where
    extend_over : (s : State) (req : ReqId) (path : Path) (chunk : ℕ) (view : View) → IsMade config heard s (Extends req path chunk view) → AllNew N s → Over N s (move_turn config s (Extends req path chunk view)).after None chunk
    extend_over s req path chunk view made k =
        ((extend_put config heard s N req path chunk view made k).1, (added_out path chunk s.durable.names made.may.0.0 made.may.0.1, (added_right config heard s req path chunk view made.may.0 made.may.1 made.fits).listed))

    replace_over : (s : State) (path : Path) (index old new : ℕ) → IsMadeWell config heard s (Replaces path index old new) → AllNew N s → Over N s (move_turn config s (Replaces path index old new)).after (Some (record { path = path; index = index; chunk = old })) new
    replace_over s path index old new made k =
        let u = (move_turn config s (Replaces path index old new)).after in
        let names = names_given s.durable u.durable own_request (Cow path index old new) (one_fits s.durable u.durable (Edited own_request (Cow path index old new)) made.made.fits) in (
          (replace_put config heard s N path index old new made.made k).1,
          (replaced_out path index old new s.durable.names u.durable.names names, is_listed_there u.durable.names made.behind.names new path index (cow_here path index old new s.durable.names u.durable.names names)),
        )

    move_over : (s : State) (move : Move) → IsMadeWell config heard s move → AllNew N s → AllByRecursion (OfPut (Over N s (move_turn config s move).after)) (move_turn config s move).records
    move_over s move made k = by_test (is_putting move) refl
      where
        by_put : (m : Move) → IsMadeWell config heard s m → is_putting m ≡ true → AllByRecursion (OfPut (Over N s (move_turn config s m).after)) (move_turn config s m).records
        by_put (Extends req path chunk view) one is = (extend_over s req path chunk view one.made k, tt)
        by_put (Replaces path index old new) one is = (replace_over s path index old new one k, tt)
        by_put m one is = absurd (false≢true is)

        by_test : (b : Bool) → is_putting move ≡ b → AllByRecursion (OfPut (Over N s (move_turn config s move).after)) (move_turn config s move).records
        by_test true is = by_put move made is
        by_test false is = none_put config heard s (Over N s (move_turn config s move).after) move made.made is

  chain_over : (N : Option Place → ℕ → Type 0) (s : State) (t : Turn) → Chain config IsWithin s t → AllNew N s → AllByRecursion (OfPut (Over N s t.after)) t.records
  chain_over N s t (Rests u said) k = tt
  chain_over N s t (Moves u move said made) k = move_over N u move made.0 k
  chain_over N s t (Then u first next a b) k =
      let mid = chain_new config heard N u first (well u first a) k in
      puts_both (Over N u next.after) first.records next.records
      (puts_weaker (Over N u first.after) (Over N u next.after) (λ place chunk o. (o.0, (o.1.0, stays first.after next chunk b o.1.1))) first.records (chain_over N u first a k))
      (puts_weaker (Over (λ place chunk. N place chunk × MakeSo place chunk first.sent) first.after next.after) (Over N u next.after) (λ place chunk o. (o.0.0, (was_out u first chunk a o.1.0, o.1.1))) next.records
      (chain_over (λ place chunk. N place chunk × MakeSo place chunk first.sent) first.after next b mid))

  -- a move that is alone puts nothing there, and one behind which calls end
  alone_other : (move : Move) → is_alone move ≡ true → is_putting move ≡ false
  alone_other (Extends req path chunk view) alone = absurd (false≢true alone)
  alone_other (Replaces path index old new) alone = absurd (false≢true alone)
  alone_other move alone = refl

  closing_other : (move : Move) → closes move ≡ true → is_putting move ≡ false
  closing_other (Extends req path chunk view) is = absurd (false≢true is)
  closing_other (Replaces path index old new) is = absurd (false≢true is)
  closing_other move is = refl

  followed_other : (move : Move) → is_followed move ≡ true → is_putting move ≡ false
  followed_other (Extends req path chunk view) is = absurd (false≢true is)
  followed_other (Replaces path index old new) is = absurd (false≢true is)
  followed_other move is = refl

  closing_over : (M : Option Place → ℕ → Type 0) (s : State) (t : Turn) → Chain config (λ u move. IsMadeWell config heard u move × (closes move ≡ true)) s t → AllByRecursion (OfPut M) t.records
  closing_over M s t (Rests u said) = tt
  closing_over M s t (Moves u move said made) = none_put config heard u M move made.0.made (closing_other move made.1)
  closing_over M s t (Then u first next a b) = puts_both M first.records next.records (closing_over M u first a) (closing_over M first.after next b)

  pub once_over : (N : Option Place → ℕ → Type 0) (s : State) (t : Turn) → EndsOnce config (IsMadeWell config heard) s t → AllNew N s → AllByRecursion (OfPut (Over N s t.after)) t.records
  once_over N s t (Within u v chain) k = chain_over N u v chain k
  once_over N s t (ByItself u move said made alone) k = none_put config heard u (Over N u (move_turn config u move).after) move made.made (alone_other move alone)
  once_over N s t (Closes u move said next made followed chain) k =
      puts_both (Over N u next.after) (move_turn config u move).records next.records (none_put config heard u (Over N u next.after) move made.made (followed_other move followed)) (closing_over (Over N u next.after) (move_turn config u move).after next chain)
