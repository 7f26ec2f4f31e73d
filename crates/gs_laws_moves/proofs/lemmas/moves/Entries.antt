-- A chunk that the master knows, for which nothing is asked, is known still where other calls end or copy a tree, and once it is settled.
use Rattle.std.proofs.Common.{◌≡◌, arith, ◌∙◌, ◌==◌, ◌&&◌, ◌||◌, ◌++◌, ℕ, Bool, true, false, not, List, [], ◌∷◌, refl, ap, sym}
use Rattle.std.specs.Prelude.{flat_map, fold, is_some, nat_lt, unwrap_or, Option, Some, None, Result, Ok, Err, if◌then◌else◌}
use Rattle.std.specs.Cmp.{nat_cmp_total, tied_itself}
use Rattle.std.specs.FinMap as fin
use Rattle.std.specs.List.{AllByRecursion}
use Rattle.std.specs.Ordering.{eq_by_cmp, is_eq, nat_cmp}
use Rattle.std.proofs.lemmas.Bool.{false≢true, true≢false}
use Rattle.std.proofs.lemmas.Bool.Decides.{nat_tests}
use Rattle.gs_base.specs.Members.{is_member}
use Rattle.gs_base.specs.declared.numbers.ReqId.{ReqId}
use Rattle.gs_base.specs.declared.refusal.Refusal.{Refusal}
use Rattle.gs_edit.specs.View.{NamesView}
use Rattle.gs_path.specs.Path.{Path}
use Rattle.gs_master_record.specs.Plain.{Edited, Holder, Said, Settle, Snapshot}
use Rattle.gs_lease.specs.declared.view.View.{View}
use Rattle.gs_master_record.specs.declared.entry.SettledView.{SettledView}
use Rattle.gs_master_spec.specs.Applied.{after_edit, applied, held_by, if_fits, may_be_settled, may_edit, with_edit, with_view}
use Rattle.gs_master_spec.specs.Chunks.{has_entry, holder_records, is_holder, target_of}
use Rattle.gs_master_spec.specs.Durable.{Durable, is_listed, is_upgrade, prepared_view, with_prepared}
use Rattle.gs_master_spec.specs.State.{State, ended_by, fits, keeps_refusal, kept_in_memory, said_changes, turned, with_record}
use Rattle.gs_master_spec.specs.Undoing.{edited_names}
use Rattle.gs_master_spec.specs.Volatile.{Volatile, all_changed, changed, is_call, let_go, let_go_of, without_call}
use Rattle.gs_master_spec.specs.declared.asking.Asking.{Asking}
use Rattle.gs_master_spec.specs.declared.change.Change.{Change}
use Rattle.gs_master_spec.specs.declared.change.Change.TheVariants as changes
use Rattle.gs_laws_master.proofs.lemmas.fitting.AcceptedWork.{all_ended_same}
use Rattle.gs_laws_master.proofs.lemmas.keeping.KeptEdits.{listed_after}
use Rattle.gs_laws_master.proofs.lemmas.keeping.KeptViews.{same_key}
use Rattle.gs_laws_master.proofs.lemmas.spelling.Retold.{each_entry}
use Rattle.gs_laws_master.proofs.lemmas.standing.Standing.{changed_more}
use Rattle.gs_laws_master.proofs.lemmas.standing.StandingCheckpoints.{member_stays}
use Rattle.gs_laws_moves.specs.moves.Moves.{plan_of_settle}

pub tied : (n : ℕ) → eq_by_cmp nat_cmp n n ≡ true
tied n = ap is_eq (tied_itself nat_cmp_total n)

same_number : (a b : ℕ) → (a == b) ≡ true → a ≡ b
same_number a b h = grind (arith, nat_tests)

pub other_key : (a b : ℕ) → eq_by_cmp nat_cmp a b ≡ false → (a == b) ≡ false
other_key a b other = by_test (a == b) refl
  where
    by_test : (t : Bool) → (a == b) ≡ t → t ≡ false
    by_test true is = absurd (true≢false (sym (tied a) ∙ ap (eq_by_cmp nat_cmp a) (same_number a b is) ∙ other))
    by_test false is = refl

pub either : (a b c d : Bool) → (a || b) ≡ true → (a ≡ true → c ≡ true) → (b ≡ true → d ≡ true) → (c || d) ≡ true
either true b c d e f g = ap (λ x. x || d) (f refl)
either false b c d e f g = second c d (g e)
  where
    second : (x y : Bool) → y ≡ true → (x || y) ≡ true
    second true y k = refl
    second false y k = k

module _ (chunk : ℕ) where
  loosed_stays : (new : List ℕ) (req : ReqId) (es : List (ℕ × Asking)) → AllByRecursion (λ e. eq_by_cmp nat_cmp chunk e.0 ≡ false) es → (v : Volatile) → is_member v.unplaced chunk ≡ true → is_member (all_changed v (flat_map (let_go_of new req) es)).unplaced chunk ≡ true
  loosed_stays new req [] all v here = here
  loosed_stays new req (e ∷ es) all v here = by_call (λ w k. loosed_stays new req es all.1 w k) (is_call req e.1.call) (is_member new e.0)
    where
      by_call : ((w : Volatile) → is_member w.unplaced chunk ≡ true → is_member (all_changed w (flat_map (let_go_of new req) es)).unplaced chunk ≡ true) → (c n : Bool)
          → is_member (all_changed v ((if not c then [] else if n then changes.Lose e.0 ∷ [] else changes.Ask e.0 (without_call e.1) ∷ []) ++ flat_map (let_go_of new req) es)).unplaced chunk ≡ true
      by_call rest false n = rest v here
      by_call rest true true = rest (changed v (changes.Lose (e.0))) (member_stays (λ c. not (c == e.0)) v.unplaced chunk (ap not (other_key chunk e.0 all.0)) here)
      by_call rest true false = rest (changed v (changes.Ask (e.0) (without_call e.1))) here

  unasked_key : (m : fin.FinMap nat_cmp Asking) → fin.get m chunk ≡ None → (q : ℕ) (a : Asking) → fin.get m q ≡ Some a → (t : Bool) → eq_by_cmp nat_cmp chunk q ≡ t → t ≡ false
  unasked_key m none q a has true is = absurd (false≢true (sym (ap is_some none) ∙ ap (λ c. is_some (fin.get m c)) (same_key chunk q is) ∙ ap is_some has))
  unasked_key m none q a has false is = refl

  let_go_stays : (v w : Volatile) (req : ReqId) → fin.get v.moving chunk ≡ None → is_member w.unplaced chunk ≡ true → is_member (all_changed w (let_go v req)).unplaced chunk ≡ true
  let_go_stays v w req none here =
      loosed_stays v.unplaced req (fin.entries v.moving)
      (each_entry nat_cmp nat_cmp_total fin.nat_cmp-IsAntisymmetric (λ q a. eq_by_cmp nat_cmp chunk q ≡ false) (fin.entries v.moving) (fin.entries_sorted v.moving) (λ q a found. unasked_key v.moving none q a (fin.get-entries v.moving q ∙ found) (eq_by_cmp nat_cmp chunk q) refl)) w here

  -- a call that waited ends
  pub ended_known : (s : State) (req : ReqId) (refusal : Refusal) → fin.get s.volatile.moving chunk ≡ None → has_entry s chunk ≡ true → has_entry (ended_by s req refusal).after chunk ≡ true
  ended_known s req refusal none known =
      either (is_listed s.durable chunk) (is_member s.volatile.unplaced chunk) (is_listed (ended_by s req refusal).after.durable chunk) (is_member (ended_by s req refusal).after.volatile.unplaced chunk) known
      (λ listed. all_ended_same (λ d. is_listed d chunk) (λ d replies. refl) (req ∷ []) refusal s ∙ listed) stays
    where
      first : List Change
      first = said_changes (keeps_refusal s req refusal) s.log req refusal

      said : (all_changed s.volatile first).unplaced ≡ s.volatile.unplaced
      said = by_test (keeps_refusal s req refusal && not (fits s.log (Said req refusal ∷ [])))
        where
          by_test : (b : Bool) → (all_changed s.volatile (if b then kept_in_memory req (Err refusal) ∷ [] else [])).unplaced ≡ s.volatile.unplaced
          by_test true = refl
          by_test false = refl

      stays : is_member s.volatile.unplaced chunk ≡ true → is_member (ended_by s req refusal).after.volatile.unplaced chunk ≡ true
      stays here =
          let v = all_changed s.volatile first in
          let is = changed_more first (let_go s.volatile req ++ changes.End req ∷ []) s.volatile ∙ changed_more (let_go s.volatile req) (changes.End req ∷ []) v in
          ap (λ (w : Volatile). is_member w.unplaced chunk) is ∙ let_go_stays s.volatile v req none (ap (λ u. is_member u chunk) said ∙ here)

  -- a tree is copied
  pub copied_listed : (d : Durable) (by : ReqId) (from to : Path) → is_listed d chunk ≡ true → is_listed (unwrap_or (applied d (Edited by (Snapshot from to))) d) chunk ≡ true
  unfolding applied
  copied_listed d by from to listed = by_names (edited_names (Snapshot from to) d.names) refl
    where
      by_fit : (b : Bool) (names : NamesView) → edited_names (Snapshot from to) d.names ≡ Ok names → is_listed (unwrap_or (if_fits b (with_edit d by (Snapshot from to) names)) d) chunk ≡ true
      by_fit true names e = listed_after (Snapshot from to) d.names names chunk e listed refl
      by_fit false names e = listed

      by_names : (names : Result NamesView Refusal) → edited_names (Snapshot from to) d.names ≡ names → is_listed (unwrap_or (after_edit d by (Snapshot from to) names) d) chunk ≡ true
      by_names (Ok names) e = by_fit (may_edit d (Snapshot from to)) names e
      by_names (Err refusal) e = listed

-- ---- the records of a view leave the names

settled_names : (d : Durable) (v : SettledView) → (unwrap_or (applied d (Settle v)) d).names ≡ d.names
unfolding applied
settled_names d v = by_fit (may_be_settled d v)
  where
    by_fit : (b : Bool) → (unwrap_or (if_fits b (with_view d v)) d).names ≡ d.names
    by_fit true = refl
    by_fit false = refl

holder_names : (d : Durable) (q server : ℕ) → (unwrap_or (applied d (Holder q server)) d).names ≡ d.names
unfolding applied
holder_names d q server = by_fit (is_upgrade d.phase && (nat_lt_16 server && is_some (prepared_view d q)))
  where
    nat_lt_16 : ℕ → Bool
    nat_lt_16 n = nat_lt n 16

    by_fit : (b : Bool) → (unwrap_or (if_fits b (record d { prepared = with_prepared d q (held_by server (prepared_view d q)) })) d).names ≡ d.names
    by_fit true = refl
    by_fit false = refl

pub settling_names : (s : State) (q : ℕ) (asking : Asking) (carried : Bool) (view : View) → (turned s (plan_of_settle s q asking carried view)).after.durable.names ≡ s.durable.names
settling_names s q asking carried view = by_target (is_holder s.durable.phase (prepared_view s.durable q) carried asking view) (target_of asking.purpose)
  where
    v : SettledView
    v = record { handle = q; view = view }

    by_target : (b : Bool) (target : Option ℕ) → (fold with_record s (holder_records b q target ++ Settle v ∷ [])).durable.names ≡ s.durable.names
    by_target b None = settled_names s.durable v
    by_target true (Some target) = settled_names (with_record s (Holder q target)).durable v ∙ holder_names s.durable q target
    by_target false (Some target) = settled_names s.durable v

pub settling_known : (s : State) (q : ℕ) (asking : Asking) (carried : Bool) (view : View) → has_entry s q ≡ true → has_entry (turned s (plan_of_settle s q asking carried view)).after q ≡ true
settling_known s q asking carried view known = ap (λ (n : NamesView). is_some (fin.get n.refs q) || is_member s.volatile.unplaced q) (settling_names s q asking carried view) ∙ known
