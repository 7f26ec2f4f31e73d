-- All nodes that are kept, merged.
use Rattle.std.proofs.Common.{◌≡◌, ℕ, zero, suc, ◌≤◌, List, [], ◌∷◌, map, Some, refl, sym, ap, subst, arith}
use Rattle.std.specs.Prelude.{slice_get}
use Rattle.std.proofs.lemmas.Option.{none-some, same_Some}
use Rattle.gs_msg.specs.declared.message.Message.{Message}
use Rattle.gs_msg.specs.declared.node.NodeId.{NodeId}
use Rattle.gs_cluster_history.specs.declared.took.Took.{Took}
use Rattle.gs_cluster_history.specs.Histories.{Among, Begins, Entry, IsKept, Kept, Leads, Line, Upshot, line_of}
use Rattle.gs_cluster_history.specs.Merging.{AllKept, AreBegun, IsRunOf, Matches, RunsAll, Stands, count, lines_of, merged_from, places_of}
use Rattle.gs_cluster_history.proofs.Leading.{Ascends, ascends_from, leads_ascends}
use Rattle.gs_cluster_history.proofs.Merging.{AllLead, AllStand, Going, end_of, in_order, now_of, rest_of, rising, run}

module _ {C : Type 0} (Does : Took → C → Upshot → C → Type 0) (Starts : NodeId → C → List Message → Type 0) where
  abbrev entries_of : Kept C → List Entry
  entries_of k = k.entries

  abbrev going_of : (k : Kept C) → IsKept Does Starts k → Going C
  going_of k is = record { me = k.me; now = is.begun; rest = k.entries; end = k.past }

  abbrev rest_kept : (k : Kept C) (ks : List (Kept C)) → AllKept Does Starts (k ∷ ks) → AllKept Does Starts ks
  rest_kept k ks all = λ j m. all j (suc m.0, m.1)

  abbrev pub all_going : (ks : List (Kept C)) → AllKept Does Starts ks → List (Going C)
  all_going [] all = []
  all_going (k ∷ ks) all = going_of k (all k (0, refl)) ∷ all_going ks (rest_kept k ks all)

  rests : (ks : List (Kept C)) (all : AllKept Does Starts ks) → map rest_of (all_going ks all) ≡ map entries_of ks
  rests [] all = refl
  rests (k ∷ ks) all = ap (λ l. k.entries ∷ l) (rests ks (rest_kept k ks all))

  ends : (ks : List (Kept C)) (all : AllKept Does Starts ks) → map end_of (all_going ks all) ≡ lines_of ks
  ends [] all = refl
  ends (k ∷ ks) all = ap (λ l. line_of k ∷ l) (ends ks (rest_kept k ks all))

  -- each of them is one that is kept
  abbrev IsOf : Going C → Kept C → Type 0
  IsOf g k = (is : IsKept Does Starts k) × (going_of k is ≡ g)

  of : (ks : List (Kept C)) (all : AllKept Does Starts ks) (i : ℕ) (g : Going C) → slice_get (all_going ks all) i ≡ Some g → (k : Kept C) × (slice_get ks i ≡ Some k) × IsOf g k
  of [] all i g h = absurd (none-some g h)
  of (k ∷ ks) all zero g h = (k, refl, (all k (0, refl), same_Some (going_of k (all k (0, refl))) g h))
  of (k ∷ ks) all (suc i) g h = of ks (rest_kept k ks all) i g h

  leads_of : (k : Kept C) (g : Going C) → IsOf g k → Leads Does g.me g.now g.rest g.end
  leads_of k g (is, same) = subst (λ (z : Going C). Leads Does z.me z.now z.rest z.end) same is.leads

  all_lead : (ks : List (Kept C)) (all : AllKept Does Starts ks) → AllLead Does (all_going ks all)
  all_lead ks all i g h = let f = of ks all i g h in leads_of f.0 g f.2

  all_stand : (ks : List (Kept C)) (all : AllKept Does Starts ks) → Matches ks → AllStand Does (all_going ks all)
  all_stand ks all matches i g h e m =
      let f = of ks all i g h in
      subst (λ l. Stands l g.me e.took) (sym (ends ks all)) (subst (λ (z : Going C). Stands (lines_of ks) z.me e.took) f.2.1 (matches f.0 (i, f.1) e (subst (λ (z : Going C). Among z.rest e) (sym f.2.1) m)))

  abbrev begun_of : (ks : List (Kept C)) → AllKept Does Starts ks → List (Line C)
  begun_of ks all = map now_of (all_going ks all)

  same_nodes : (ks : List (Kept C)) (all : AllKept Does Starts ks) → map (λ (l : Line C). l.me) (begun_of ks all) ≡ map (λ (k : Kept C). k.me) ks
  same_nodes [] all = refl
  same_nodes (k ∷ ks) all = ap (λ l. k.me ∷ l) (same_nodes ks (rest_kept k ks all))

  begin : (ks : List (Kept C)) (all : AllKept Does Starts ks) (i : ℕ) (l : Line C) → slice_get (begun_of ks all) i ≡ Some l → Begins Does Starts l.me l.past
  begin [] all i l h = absurd (none-some l h)
  begin (k ∷ ks) all zero l h = subst (λ (z : Line C). Begins Does Starts z.me z.past) (same_Some (now_of (going_of k (all k (0, refl)))) l h) (all k (0, refl)).begins
  begin (k ∷ ks) all (suc i) l h = begin ks (rest_kept k ks all) i l h

  found_entries : (ks : List (Kept C)) (i : ℕ) (k : Kept C) → slice_get ks i ≡ Some k → slice_get (map entries_of ks) i ≡ Some k.entries
  found_entries [] i k h = absurd (none-some k h)
  found_entries (x ∷ ks) zero k h = ap (λ (z : Kept C). Some z.entries) (same_Some x k h)
  found_entries (x ∷ ks) (suc i) k h = found_entries ks i k h

  ascend : (ks : List (Kept C)) → AllKept Does Starts ks → (i : ℕ) (r : List Entry) → slice_get (map entries_of ks) i ≡ Some r → Ascends 0 r
  ascend [] all i r h = absurd (none-some r h)
  ascend (k ∷ ks) all zero r h =
      let is = all k (0, refl) in
      subst (Ascends 0) (same_Some k.entries r h) (ascends_from is.begun.clock 0 k.entries (omega arith) (leads_ascends Does k.me is.begun k.entries k.past is.leads))
  ascend (k ∷ ks) all (suc i) r h = ascend ks (rest_kept k ks all) i r h

  -- The places of all histories are a run of these nodes from how they began.
  pub is_a_run : (ks : List (Kept C)) → AllKept Does Starts ks → Matches ks → (begun : List (Line C)) × AreBegun Does Starts ks begun × IsRunOf Does ks begun (places_of ks)
  is_a_run ks all matches =
      let gs = all_going ks all in
      let n = count (map entries_of ks) in
      let enough : count (map rest_of gs) ≤ n = subst (λ rs. count rs ≤ n) (sym (rests ks all)) (omega arith) in
      let ran = run Does n gs enough (all_lead ks all) (all_stand ks all matches) in (
        begun_of ks all,
        record { nodes = same_nodes ks all; begins = λ l m. begin ks all m.0 l m.1 },
        record {
          runs = subst (λ rs. RunsAll Does (merged_from n rs) (begun_of ks all) (lines_of ks)) (rests ks all) (subst (λ es. RunsAll Does (merged_from n (map rest_of gs)) (begun_of ks all) es) (ends ks all) ran);
          each = λ i k h. in_order n (map entries_of ks) (omega arith) i k.entries (found_entries ks i k h);
          rises = rising n 0 (map entries_of ks) (ascend ks all);
        },
      )
