-- At a step edits are settled only of chunks that stand at one place, where no rollback is committed.
use Rattle.std.proofs.Common.{◌≡◌, ◌∙◌, ℕ, Bool, true, false, List, [], refl, sym, ap, arith}
use Rattle.std.specs.Prelude.{◌==◌, is_some, Option, Some, None}
use Rattle.std.proofs.lemmas.Bool.{false≢true}
use Rattle.std.proofs.lemmas.Bool.Decides.{nat_tests}
use Rattle.std.specs.FinMap as fin
use Rattle.gs_edit.proofs.Tables.{same_itself, same_path-is}
use Rattle.gs_edit.specs.View.{NamesView}
use Rattle.gs_laws_master.specs.Promises.{AreKept}
use Rattle.gs_laws_moves.specs.moves.Epochs.{rolls_back}
use Rattle.gs_laws_moves.specs.moves.Shared.{HasNoTerm}
use Rattle.gs_laws_plain.specs.commands.Places.{AreAlone}
use Rattle.gs_master_spec.specs.Applied.{view_in}
use Rattle.gs_master_spec.specs.Calls.{is_shared}
use Rattle.gs_master_spec.specs.Durable.{Settled}
use Rattle.gs_replica.specs.Stands.{Edit}
use Rattle.gs_tree.specs.Edits.{same_path}
use Rattle.gs_world.proofs.Reaching.{HaveSizes}
use Rattle.gs_world.specs.Histories.{History}
use Rattle.gs_world.specs.Runs.{Step}
use Rattle.gs_laws_chunks.proofs.lemmas.accounts.Edits.{AreNumbered}
use Rattle.gs_laws_chunks.specs.accounts.Accounts.{Account}
use Rattle.gs_laws_chunks.specs.accounts.Running.{IsReached, Moves, Setup}
use Rattle.gs_laws_lift.proofs.lemmas.copies.Counted.{is_listed_there, is_shared_there}
use Rattle.gs_laws_runs.proofs.lemmas.plain.Onward.{had, kept_before, none_new}
use Rattle.gs_laws_runs.proofs.lemmas.plain.Unleased.{no_lease_where_shared}
use Rattle.gs_laws_runs.specs.plain.Settling.{newly_settled}

-- where nothing comes to chunks that are shared, those to which something comes stand at one place
pub alone_where_shared_stay : (names : NamesView) (more : ℕ → List Edit) → AreKept names → ((chunk : ℕ) → is_some (fin.get names.refs chunk) ≡ true → is_shared names chunk ≡ true → more chunk ≡ []) → AreAlone names more
alone_where_shared_stay names more kept none chunk p q index place some here there = by_tests (same_path q p) refl (place == index) refl
  where
    same_number : (m n : ℕ) → (m == n) ≡ true → m ≡ n
    same_number m n h = grind (arith, nat_tests)

    itself : (n : ℕ) → (n == n) ≡ true
    itself n = grind (arith, nat_tests)

    shared : ((q ≡ p) × (place ≡ index) → ⊥) → (q ≡ p) × (place ≡ index)
    shared apart = absurd (some (none chunk (is_listed_there names kept chunk p index here) (is_shared_there names kept chunk p q index place apart here there)))

    by_tests : (b : Bool) → same_path q p ≡ b → (c : Bool) → (place == index) ≡ c → (q ≡ p) × (place ≡ index)
    by_tests true path true at = (same_path-is q p path, same_number place index at)
    by_tests false path c at = shared (λ both. absurd (false≢true (sym path ∙ ap (same_path q) (sym both.0) ∙ same_itself q)))
    by_tests true path false at = shared (λ both. absurd (false≢true (sym at ∙ ap (λ n. place == n) (sym both.1) ∙ itself place)))

module _ (sizes : HaveSizes) (law : AreNumbered) {D : Type 0} (x : Setup D) (step : Step) (old new : History D) (a b : Account) (r : IsReached x old a) (moves : Moves x step old a new b) where
  view_there : (o : Option Settled) → is_some o ≡ true → (y : Settled) × (o ≡ Some y)
  view_there None some = absurd (false≢true some)
  view_there (Some y) some = (y, refl)

  -- a chunk that is shared has nothing more
  pub none_of_shared : rolls_back a.durable b.durable ≡ false → (chunk : ℕ) → is_some (fin.get a.durable.names.refs chunk) ≡ true → is_shared a.durable.names chunk ≡ true → newly_settled a b chunk ≡ []
  none_of_shared goes_on chunk listed more =
      let kept = kept_before sizes law x step old new a b r moves in
      let row = view_there (fin.get a.durable.chunks chunk) (kept.settled chunk listed) in
      let none : HasNoTerm a.durable chunk = no_lease_where_shared x chunk old a r (had sizes law x step old new a b r moves) more in
      none_new sizes law x step old new a b r moves chunk row.0.view (ap view_in row.1) (none.term row.0 row.1) goes_on

  pub alone_within : rolls_back a.durable b.durable ≡ false → AreAlone a.durable.names (newly_settled a b)
  alone_within goes_on = alone_where_shared_stay a.durable.names (newly_settled a b) (kept_before sizes law x step old new a b r moves).names (none_of_shared goes_on)
