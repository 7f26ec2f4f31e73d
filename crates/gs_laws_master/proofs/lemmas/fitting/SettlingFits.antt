-- The records by which a chunk is settled on a view fit what they meet.
use Rattle.std.proofs.Common.{◌≡◌, ◌∙◌, ◌≤◌, ◌&&◌, ◌||◌, ◌==◌, ℕ, Bool, true, false, not, cond, List, [], ◌∷◌, ◌++◌, refl, ap, subst, sym, arith}
use Rattle.std.specs.Prelude.{nat_le, nat_lt, is_some, option_and_then, option_map, Option, Some, None, if◌then◌else◌}
use Rattle.std.specs.Cmp.{nat_cmp_total, tied_itself}
use Rattle.std.specs.FinMap as fin
use Rattle.std.specs.List.{list_all, list_any}
use Rattle.std.specs.Ordering.{is_eq}
use Rattle.std.proofs.lemmas.Bool.{false≢true, and_parts}
use Rattle.std.proofs.lemmas.Bool.Decides.{nat_tests}
use Rattle.gs_base.specs.MemberLaws.{eqb_itself}
use Rattle.gs_base.specs.declared.numbers.Moment.{Moment}
use Rattle.gs_base.specs.declared.numbers.Stamp.{Stamp}
use Rattle.gs_tree.proofs.Levels.{both_true}
use Rattle.gs_lease.specs.Transitions.{settled_view, term_of}
use Rattle.gs_lease.specs.declared.view.Purpose.{Purpose}
use Rattle.gs_lease.specs.declared.view.Purpose.TheVariants as purposes
use Rattle.gs_lease.specs.declared.view.View.{View}
use Rattle.gs_view.specs.Choice.{answer_of, answerers, greatest, is_count}
use Rattle.gs_view.specs.declared.poll.Poll.{Poll}
use Rattle.gs_master_record.specs.Plain.{PlainEntry, Holder, Settle}
use Rattle.gs_master_spec.specs.Applied.{applied, follows_view, held_by, if_fits, is_since, is_sound, may_be_settled, replayed, with_view}
use Rattle.gs_master_spec.specs.Chunks.{Chunk, holder_records, is_holder, is_target, may_settle, proposed_in, settling, target_of, view_by}
use Rattle.gs_master_spec.specs.Durable.{Durable, has_its_primary, is_given, is_upgrade, prepared_view, upgrade_epoch, with_prepared}
use Rattle.gs_master_spec.specs.Whole.{is_empty}
use Rattle.gs_master_spec.specs.declared.asking.Asking.{Asking}
use Rattle.gs_laws_master.proofs.lemmas.fitting.AcceptedViews.{is_settled}
use Rattle.gs_laws_master.proofs.lemmas.views.Choosing.{picked}
use Rattle.gs_laws_master.proofs.lemmas.views.ServersTold.{is_low, low_servers}

-- ---- a view that is made of answers

pub record IsMade (asking : Asking) (view : View) : Type 0 where
  pub stamp : view.stamp ≡ asking.stamp
  pub asked : may_settle asking.asked view.members ≡ true
  pub primary : has_its_primary view ≡ true
  pub low : list_all is_low view.members ≡ true

leads : (c : Chunk) (asking : Asking) (moment : Moment) (purpose : Purpose) (members : List ℕ) (count : ℕ) → has_its_primary (record (settled_view (proposed_in c asking) members count moment) { term = term_of purpose members moment }) ≡ true
leads c asking moment purposes.Quiet members count = refl
leads c asking moment purposes.Lease [] count = refl
leads c asking moment purposes.Lease (m ∷ ms) count = ap (λ b. b || list_any (λ x. x == m) ms) (eqb_itself m)
leads c asking moment (purposes.Copy target) members count = refl

pub view_made : (c : Chunk) (asking : Asking) (by : Poll) (moment : Moment) (view : View) → view_by c asking by moment ≡ Some view → IsMade asking view
view_made c asking by moment view e = by_most (greatest by.counts) e
  where
    by_most : (most : Option ℕ) → option_and_then (λ (ch : List ℕ × ℕ). if may_settle asking.asked ch.0 then Some (settled_view (proposed_in c asking) ch.0 ch.1 moment) else None) (option_map (λ count. (answerers by.counts count, count)) most) ≡ Some view → IsMade asking view
    by_most None h = absurd (false≢true (ap is_some h))
    by_most (Some count) h =
        let both = picked (may_settle asking.asked (answerers by.counts count)) (settled_view (proposed_in c asking) (answerers by.counts count) count moment) view h in
        subst (IsMade asking) both.1 (record {
          stamp = refl;
          asked = both.0;
          primary = leads c asking moment asking.purpose (answerers by.counts count) count;
          low = low_servers (λ server. is_count count (answer_of by.counts server));
        })

-- ---- it may be settled

not_empty : (asked members : List ℕ) → may_settle asked members ≡ true → not (is_empty members) ≡ true
not_empty asked [] h = absurd (false≢true h)
not_empty asked (m ∷ ms) h = refl

at_most : (a b : ℕ) → a ≤ b → nat_le a b ≡ true
at_most a b low = grind (arith, nat_tests)

-- what is known of what is asked for a chunk
pub record CanSettle (d : Durable) (chunk : ℕ) (stamp : Stamp) : Type 0 where
  pub handle : is_given d.next_handle chunk ≡ true
  pub version : is_given d.next_version stamp.version ≡ true
  pub epoch : stamp.epoch ≤ d.epoch
  pub follows : follows_view (fin.get d.chunks chunk) stamp ≡ true
  pub since : is_since (upgrade_epoch d.phase d.epoch) (fin.get d.chunks chunk) stamp ≡ true

may_so : (d : Durable) (chunk : ℕ) (asking : Asking) (view : View) → CanSettle d chunk asking.stamp → IsMade asking view → may_be_settled d (record { handle = chunk; view = view }) ≡ true
may_so d chunk asking view can made = subst (λ stamp. (is_given d.next_handle chunk && (is_given d.next_version stamp.version && (nat_le stamp.epoch d.epoch && (is_sound view && (follows_view (fin.get d.chunks chunk) stamp && is_since (upgrade_epoch d.phase d.epoch) (fin.get d.chunks chunk) stamp))))) ≡ true) (sym made.stamp)
    (both_true (is_given d.next_handle chunk) _ can.handle
    (both_true (is_given d.next_version asking.stamp.version) _ can.version
    (both_true (nat_le asking.stamp.epoch d.epoch) _ (at_most asking.stamp.epoch d.epoch can.epoch)
    (both_true (is_sound view) _ (both_true (not (is_empty view.members)) (has_its_primary view) (not_empty asking.asked view.members made.asked) made.primary)
    (both_true (follows_view (fin.get d.chunks chunk) asking.stamp) _ can.follows can.since)))))

-- ---- the records

target_low : (target : ℕ) (members : List ℕ) → list_all is_low members ≡ true → list_any (λ m. is_count m (Some target)) members ≡ true → nat_lt target 16 ≡ true
target_low target [] low any = absurd (false≢true any)
target_low target (m ∷ ms) low any = let parts = and_parts (is_low m) (list_all is_low ms) low in by_test (target == m) refl parts.0 (target_low target ms parts.1) any
  where
    by_test : (b : Bool) → (target == m) ≡ b → is_low m ≡ true → (list_any (λ x. is_count x (Some target)) ms ≡ true → nat_lt target 16 ≡ true) → (b || list_any (λ x. is_count x (Some target)) ms) ≡ true → nat_lt target 16 ≡ true
    by_test true is here rest h = grind (arith, nat_tests)
    by_test false is here rest h = rest h

pub record IsSettledBy (d : Durable) (chunk : ℕ) (view : View) (entries : List PlainEntry) : Type 0 where
  pub after : Durable
  pub is : replayed d entries ≡ Some after
  pub phase : after.phase ≡ d.phase
  pub known : is_settled after chunk ≡ true
  pub exact : fin.get after.chunks chunk ≡ Some (record { view = view; is_moving = false })

module _ (d : Durable) (chunk : ℕ) (asking : Asking) (view : View) (can : CanSettle d chunk asking.stamp) (made : IsMade asking view) where
  viewed : (e : Durable) → may_be_settled e (record { handle = chunk; view = view }) ≡ true → e.phase ≡ d.phase → IsSettledBy e chunk view (Settle (record { handle = chunk; view = view }) ∷ [])
  unfolding applied
  viewed e may phase = record {
    after = with_view e (record { handle = chunk; view = view });
    is = ap (λ b. option_and_then (λ (n : Durable). Some n) (if_fits b (with_view e (record { handle = chunk; view = view })))) may;
    phase = refl;
    known = ap is_some (fin.get-insert nat_cmp_total e.chunks chunk (record { view = view; is_moving = false }) chunk ∙ ap (λ o. cond (is_eq o) (Some (record { view = view; is_moving = false })) (fin.get e.chunks chunk)) (tied_itself nat_cmp_total chunk));
    exact = fin.get-insert nat_cmp_total e.chunks chunk (record { view = view; is_moving = false }) chunk ∙ ap (λ o. cond (is_eq o) (Some (record { view = view; is_moving = false })) (fin.get e.chunks chunk)) (tied_itself nat_cmp_total chunk);
  }

  plain : IsSettledBy d chunk view (Settle (record { handle = chunk; view = view }) ∷ [])
  plain = viewed d (may_so d chunk asking view can made) refl

  held : (target : ℕ) → (is_upgrade d.phase && (nat_lt target 16 && is_some (prepared_view d chunk))) ≡ true → IsSettledBy d chunk view (Holder chunk target ∷ Settle (record { handle = chunk; view = view }) ∷ [])
  unfolding applied
  held target may =
      let next = record d { prepared = with_prepared d chunk (held_by target (prepared_view d chunk)) } in
      let last = viewed next (may_so d chunk asking view can made) refl in record {
        after = last.after;
        is = ap (λ b. option_and_then (λ (n : Durable). replayed n (Settle (record { handle = chunk; view = view }) ∷ [])) (if_fits b next)) may ∙ last.is;
        phase = last.phase;
        known = last.known;
        exact = last.exact;
      }

  with_holder : (carried : Bool) (target : Option ℕ) → target_of asking.purpose ≡ target → (b : Bool) → is_holder d.phase (prepared_view d chunk) carried asking view ≡ b
      → IsSettledBy d chunk view (holder_records b chunk target ++ Settle (record { handle = chunk; view = view }) ∷ [])
  with_holder carried None to b is = plain
  with_holder carried (Some target) to false is = plain
  with_holder carried (Some target) to true is =
      let one = and_parts carried (is_upgrade d.phase && (is_some (prepared_view d chunk) && list_any (is_target asking) view.members)) is in
      let two = and_parts (is_upgrade d.phase) (is_some (prepared_view d chunk) && list_any (is_target asking) view.members) one.1 in
      let three = and_parts (is_some (prepared_view d chunk)) (list_any (is_target asking) view.members) two.1 in
      let low = target_low target view.members made.low (ap (λ t. list_any (λ m. is_count m t) view.members) (sym to) ∙ three.1) in
      held target (both_true (is_upgrade d.phase) (nat_lt target 16 && is_some (prepared_view d chunk)) two.0 (both_true (nat_lt target 16) (is_some (prepared_view d chunk)) low three.0))

  pub settling_fits : (carried : Bool) → IsSettledBy d chunk view (settling d.phase (prepared_view d chunk) carried chunk asking view)
  settling_fits carried = with_holder carried (target_of asking.purpose) refl (is_holder d.phase (prepared_view d chunk) carried asking view) refl
