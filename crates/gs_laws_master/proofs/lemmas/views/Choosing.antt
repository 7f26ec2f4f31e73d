-- Of whom a view is made.
use Rattle.std.proofs.Common.{◌≡◌, ℕ, Bool, true, false, List, refl, ap, subst}
use Rattle.std.specs.Prelude.{Option, Some, None, is_some, unwrap_or, option_map, option_and_then, if◌then◌else◌}
use Rattle.std.proofs.lemmas.Bool.{false≢true}
use Rattle.gs_base.specs.declared.numbers.Moment.{Moment}
use Rattle.gs_lease.specs.Transitions.{settled_view}
use Rattle.gs_lease.specs.declared.view.View.{View}
use Rattle.gs_view.specs.Choice.{Counts, answerers, greatest, chosen, Chooses}
use Rattle.gs_view.proofs.Chosen.{chooses}
use Rattle.gs_master_spec.specs.Chunks.{Chunk, may_settle, proposed_in}
use Rattle.gs_laws_master.specs.Promises.{MadeOfTheMost}
use Rattle.gs_master_spec.specs.declared.asking.Asking.{Asking}

pub picked : (b : Bool) (v view : View) → (if b then Some v else None) ≡ Some view → (b ≡ true) × (v ≡ view)
picked true v view e = (refl, ap (λ o. unwrap_or o v) e)
picked false v view e = absurd (false≢true (ap is_some e))

chosen_by : (counts : Counts) (most : Option ℕ) (choice : List ℕ × ℕ) → greatest counts ≡ most → option_map (λ count. (answerers counts count, count)) most ≡ Some choice →
    Chooses counts choice.0 choice.1
chosen_by counts None choice is e = absurd (false≢true (ap is_some e))
chosen_by counts (Some count) choice is e =
    let same : (answerers counts count, count) ≡ choice = ap (λ o. unwrap_or o (answerers counts count, count)) e in
    subst (λ (c : List ℕ × ℕ). Chooses counts c.0 c.1) same (chooses counts (answerers counts count) count refl is)

made_of : (c : Chunk) (asking : Asking) (moment : Moment) (counts : Counts) (choice : Option (List ℕ × ℕ)) (view : View) → chosen counts ≡ choice →
    option_and_then (λ (ch : List ℕ × ℕ). if may_settle asking.asked ch.0 then Some (settled_view (proposed_in c asking) ch.0 ch.1 moment) else None) choice ≡ Some view →
    Chooses counts view.members view.count × (may_settle asking.asked view.members ≡ true)
made_of c asking moment counts None view is e = absurd (false≢true (ap is_some e))
made_of c asking moment counts (Some choice) view is e =
    let both = picked (may_settle asking.asked choice.0) (settled_view (proposed_in c asking) choice.0 choice.1 moment) view e in
    subst (λ (v : View). Chooses counts v.members v.count × (may_settle asking.asked v.members ≡ true)) both.1 (chosen_by counts (greatest counts) choice refl is, both.0)

pub made_of_the_most : MadeOfTheMost
made_of_the_most c asking answers moment view e = made_of c asking moment answers.counts (chosen answers.counts) view refl e
