-- A view that is settled is made of servers that were asked and have promised.
use Rattle.std.proofs.Common.{◌≡◌, arith, ◌∙◌, ◌==◌, ◌||◌, ◌⊎◌, inl, inr, ℕ, Bool, true, false, List, [], ◌∷◌, refl, ap, sym, subst}
use Rattle.std.specs.Prelude.{is_some, option_and_then, option_map, Option, Some, None, if◌then◌else◌}
use Rattle.std.specs.List.{list_any}
use Rattle.std.proofs.lemmas.Bool.{false≢true, and_parts}
use Rattle.std.proofs.lemmas.Bool.Decides.{nat_tests}
use Rattle.gs_base.specs.Members.{is_member}
use Rattle.gs_base.specs.Stamps.{is_same}
use Rattle.gs_base.specs.declared.numbers.Moment.{Moment}
use Rattle.gs_lease.specs.Transitions.{settled_view}
use Rattle.gs_lease.specs.declared.view.View.{View}
use Rattle.gs_msg.specs.declared.body.Body.{Body}
use Rattle.gs_msg.specs.declared.body.Body.TheVariants as bodies
use Rattle.gs_msg.specs.declared.chunk.Chunk.TheVariants as abouts
use Rattle.gs_master_spec.specs.Chunks.{Chunk, is_any_in, is_target, may_settle, proposed_in, view_by}
use Rattle.gs_master_spec.specs.State.{State}
use Rattle.gs_master_spec.specs.declared.asking.Asking.{Asking}
use Rattle.gs_view.specs.Choice.{answer_of, answerers, greatest, is_count}
use Rattle.gs_view.specs.Spoken.{with_yes}
use Rattle.gs_view.specs.declared.poll.Poll.{Poll}
use Rattle.gs_laws_moves.proofs.lemmas.moves.Asked.{count_is, set_answer, where_passes}
use Rattle.gs_laws_moves.proofs.lemmas.moves.Events.{same_stamp}
use Rattle.gs_laws_moves.specs.moves.Asked.{IsAskedFor, IsByAnswers, SettlesByAnswers, WasHeard, WasIn}
use Rattle.gs_laws_moves.specs.moves.Guards.{Heard, IsByTarget, IsMadeBy, settled_chunk}

view_is : {a b : View} → ◌≡◌ {A = Option View} (Some a) (Some b) → a ≡ b
view_is e = cc

or_left : (a b : Bool) → a ≡ true → (a || b) ≡ true
or_left true b e = refl
or_left false b e = absurd (false≢true e)

or_right : (a b : Bool) → b ≡ true → (a || b) ≡ true
or_right true b e = refl
or_right false b e = e

-- one of a list passes
some_of : (f : ℕ → Bool) (xs : List ℕ) → list_any f xs ≡ true → (x : ℕ) × (is_member xs x ≡ true) × (f x ≡ true)
some_of f [] e = absurd (false≢true e)
some_of f (x ∷ xs) e = by_test (f x) refl e (some_of f xs)
  where
    itself : (n : ℕ) → (n == n) ≡ true
    itself n = grind (arith, nat_tests)

    by_test : (b : Bool) → f x ≡ b → (b || list_any f xs) ≡ true → (list_any f xs ≡ true → (y : ℕ) × (is_member xs y ≡ true) × (f y ≡ true)) → (y : ℕ) × ((x == y || is_member xs y) ≡ true) × (f y ≡ true)
    by_test true is k rest = (x, or_left (x == x) (is_member xs x) (itself x), is)
    by_test false is k rest = (let r = rest k in (r.0, or_right (x == r.0) (is_member xs r.0) r.1, r.2))

module _ (Was : ℕ → Body → Type 0) (heard : Heard) (was : WasHeard Was heard) (s : State) (chunk : ℕ) (asking : Asking) (k : IsAskedFor Was s chunk asking) where
  -- a server that is counted
  abbrev IsCounted : ℕ → ℕ → Type 0
  IsCounted server count = (is_any_in server (Some asking) ≡ true) × ((carried : Bool) × Was server (bodies.About chunk (abouts.Promised (asking.stamp) count carried)))

  in_memory : (server count : ℕ) → answer_of asking.answers.counts server ≡ Some count → IsCounted server count
  in_memory server count e = (let w = k.answered server count e in (or_left (is_member asking.asked server) (is_target asking server) w.on, (w.carried, w.said)))

  by_target : (by : Poll) (t : IsByTarget heard chunk asking by) (server count : ℕ) → answer_of by.counts server ≡ Some count → IsCounted server count
  by_target by t server count e = with_it (is_count t.count (greatest asking.answers.counts)) (ap (λ (a : Poll). answer_of a.counts server) (sym t.is) ∙ e)
    where
      stamp_is : t.yes.stamp ≡ asking.stamp
      stamp_is = sym (same_stamp asking.stamp t.yes.stamp (and_parts (is_same asking.stamp t.yes.stamp) (is_member asking.asked t.server || is_target asking t.server) t.yes.counts).0)

      told : Was t.server (bodies.About chunk (abouts.Promised (asking.stamp) t.count t.carried))
      told = subst (λ st. Was t.server (bodies.About chunk (abouts.Promised st t.count t.carried))) stamp_is (was t.server (bodies.About chunk (abouts.Promised (t.yes.stamp) t.count t.carried)) t.yes.said)

      which : ((server ≡ t.server) × (count ≡ t.count)) ⊎ (answer_of asking.answers.counts server ≡ Some count) → IsCounted server count
      which (inl both) = (
        ap (λ x. is_any_in x (Some asking)) both.0 ∙ or_right (is_member asking.asked t.server) (is_target asking t.server) t.target,
        (t.carried, subst (λ x. Was x (bodies.About chunk (abouts.Promised (asking.stamp) count t.carried))) (sym both.0) (subst (λ n. Was t.server (bodies.About chunk (abouts.Promised (asking.stamp) n t.carried))) (sym both.1) told)),
      )
      which (inr e) = in_memory server count e

      with_it : (b : Bool) → answer_of (if b then with_yes asking.answers t.server t.count else asking.answers).counts server ≡ Some count → IsCounted server count
      with_it true h = which (set_answer asking.answers.counts t.server server t.count count h)
      with_it false h = in_memory server count h

  counted : (by : Poll) → IsMadeBy heard chunk asking by → (server count : ℕ) → answer_of by.counts server ≡ Some count → IsCounted server count
  counted by (inl same) server count e = in_memory server count (ap (λ c. answer_of c server) (sym same) ∙ e)
  counted by (inr target) server count e = by_target by target server count e

  pub answered_so : (c : Chunk) (by : Poll) (moment : Moment) (view : View) → IsMadeBy heard chunk asking by → view_by c asking by moment ≡ Some view → IsByAnswers Was chunk asking view
  answered_so c by moment view made e = by_most (greatest by.counts) e
    where
      of_view : (count : ℕ) → may_settle asking.asked (answerers by.counts count) ≡ true → IsByAnswers Was chunk asking (settled_view (proposed_in c asking) (answerers by.counts count) count moment)
      of_view count may =
          let some = some_of (is_member asking.asked) (answerers by.counts count) may in
          let each : (server : ℕ) → is_member (answerers by.counts count) server ≡ true → IsCounted server count =
          (λ server here. counted by made server count (count_is count (answer_of by.counts server) (where_passes (λ x. is_count count (answer_of by.counts x)) server here))) in
          record { stamp = refl; asked = λ server here. (each server here).0; said = λ server here. (each server here).1; one = some.0; among = some.1; was = some.2 }

      by_test : (count : ℕ) (b : Bool) → may_settle asking.asked (answerers by.counts count) ≡ b → (if b then Some (settled_view (proposed_in c asking) (answerers by.counts count) count moment) else None) ≡ Some view → IsByAnswers Was chunk asking view
      by_test count true may h = subst (IsByAnswers Was chunk asking) (view_is h) (of_view count may)
      by_test count false may h = absurd (false≢true (ap is_some h))

      by_most : (most : Option ℕ) → option_and_then (λ (ch : List ℕ × ℕ). if may_settle asking.asked ch.0 then Some (settled_view (proposed_in c asking) ch.0 ch.1 moment) else None) (option_map (λ count. (answerers by.counts count, count)) most) ≡ Some view → IsByAnswers Was chunk asking view
      by_most None h = absurd (false≢true (ap is_some h))
      by_most (Some count) h = by_test count (may_settle asking.asked (answerers by.counts count)) refl h

pub settles_by_answers : SettlesByAnswers
settles_by_answers said heard s chunk asking carried view was k may = answered_so (WasIn said) heard was s chunk asking (k.asked asking may.has) (settled_chunk s chunk) may.by may.moment view may.made may.view_is
