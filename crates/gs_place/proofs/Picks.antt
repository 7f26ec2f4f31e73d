-- The targets picked so far.
use Rattle.std.proofs.Common.{◌≡◌, ℕ, suc, ◌+◌, ◌-◌, ◌<◌, ◌≤◌, Bool, true, false, List, [], ◌∷◌, ◌++◌, Some, None, refl, sym, ap, ◌∙◌, subst, arith, eqb, length, length-append}
use Rattle.std.proofs.lemmas.Bool.Decides.{nat_tests}
use Rattle.std.proofs.lemmas.List.Folds.{list_any-append}
use Rattle.std.specs.Prelude.{◌||◌}
use Rattle.std.specs.Option.{option_and_then}
use Rattle.gs_base.specs.Members.{servers_where, is_member, with_member}
use Rattle.gs_base.specs.MemberLaws.{same_servers, is_member-servers_where, servers_where-none}
use Rattle.gs_place.specs.Targets.{first_candidate, picked_from, targets_of, taken_with, EachIsFirst, IsFirst, AreTargets}

pub record Picked (servers racks : ℕ) (replicas present : List ℕ) (wanted i : ℕ) (taken targets : List ℕ) : Type 0 where
  pub picked : List ℕ
  pub number : length picked ≡ i
  pub first : EachIsFirst servers racks replicas present picked
  pub taken_is : taken ≡ taken_with present picked
  pub set : targets ≡ servers_where (is_member picked)
  pub rest : picked_from servers racks replicas taken targets (wanted - i) ≡ targets_of servers racks replicas present wanted

first_push : (servers racks : ℕ) (replicas taken : List ℕ) (picked : List ℕ) (t : ℕ) → EachIsFirst servers racks replicas taken picked
    → IsFirst servers racks replicas (taken_with taken picked) t → EachIsFirst servers racks replicas taken (picked ++ t ∷ [])
first_push servers racks replicas taken [] t each is = (is, tt)
first_push servers racks replicas taken (p ∷ picked) t each is = (each.0, first_push servers racks replicas (with_member taken p) picked t each.1 is)

taken_push : (taken picked : List ℕ) (t : ℕ) → with_member (taken_with taken picked) t ≡ taken_with taken (picked ++ t ∷ [])
taken_push taken [] t = refl
taken_push taken (p ∷ picked) t = taken_push (with_member taken p) picked t

or_swap : (a b : Bool) → (a || b) ≡ (b || (a || false))
or_swap true true = refl
or_swap true false = refl
or_swap false true = refl
or_swap false false = refl

eqb_sym : (m n : ℕ) → eqb m n ≡ eqb n m
eqb_sym m n = grind (arith, nat_tests)

set_push : (picked : List ℕ) (t : ℕ) → with_member (servers_where (is_member picked)) t ≡ servers_where (is_member (picked ++ t ∷ []))
set_push picked t = same_servers _ _ (λ s low.
    ap (λ b. eqb s t || b) (is_member-servers_where (is_member picked) s low)
    ∙ or_swap (eqb s t) (is_member picked s)
    ∙ ap (λ b. is_member picked s || (b || false)) (eqb_sym s t)
    ∙ sym (list_any-append (λ m. eqb m s) picked (t ∷ [])))

one_less : (i wanted : ℕ) → i < wanted → wanted - i ≡ suc (wanted - (i + 1))
one_less i wanted below = omega arith

pub picked_none : (servers racks : ℕ) (replicas present : List ℕ) (wanted : ℕ) (targets : List ℕ) → targets ≡ [] → Picked servers racks replicas present wanted 0 present targets
picked_none servers racks replicas present wanted targets is = record {
  picked = [];
  number = refl;
  first = tt;
  taken_is = refl;
  set = is ∙ sym (servers_where-none _ (λ s low. refl));
  rest = ap (λ t. picked_from servers racks replicas present t (wanted - 0)) is ∙ ap (picked_from servers racks replicas present []) (omega arith);
}

pub picked_more : (servers racks : ℕ) (replicas present : List ℕ) (wanted i : ℕ) (taken targets taken' targets' : List ℕ) (t : ℕ) → i < wanted
    → taken' ≡ with_member taken t → targets' ≡ with_member targets t → first_candidate servers racks replicas taken ≡ Some t → IsFirst servers racks replicas taken t
    → Picked servers racks replicas present wanted i taken targets → Picked servers racks replicas present wanted (i + 1) taken' targets'
picked_more servers racks replicas present wanted i taken targets taken' targets' t below now set found is h = record {
  picked = h.picked ++ t ∷ [];
  number = omega (arith, length-append h.picked (t ∷ []), h.number);
  first = first_push servers racks replicas present h.picked t h.first (subst (λ x. IsFirst servers racks replicas x t) h.taken_is is);
  taken_is = now ∙ ap (λ x. with_member x t) h.taken_is ∙ taken_push present h.picked t;
  set = set ∙ ap (λ x. with_member x t) h.set ∙ set_push h.picked t;
  rest = ap (λ x. picked_from servers racks replicas x targets' (wanted - (i + 1))) now
      ∙ ap (λ x. picked_from servers racks replicas (with_member taken t) x (wanted - (i + 1))) set
      ∙ sym (ap (picked_from servers racks replicas taken targets) (one_less i wanted below)
      ∙ ap (λ o. option_and_then (λ target. picked_from servers racks replicas (with_member taken target) (with_member targets target) (wanted - (i + 1))) o) found)
      ∙ h.rest;
}

pub picked_all : (servers racks : ℕ) (replicas present : List ℕ) (wanted i : ℕ) (taken targets : List ℕ) → wanted ≤ i
    → Picked servers racks replicas present wanted i taken targets → targets_of servers racks replicas present wanted ≡ Some targets
picked_all servers racks replicas present wanted i taken targets done h =
    sym h.rest ∙ ap (picked_from servers racks replicas taken targets) (let e : wanted - i ≡ 0 = omega arith in e)

pub are_targets : (servers racks : ℕ) (replicas present : List ℕ) (wanted i : ℕ) (taken targets : List ℕ) → i ≤ wanted → wanted ≤ i
    → Picked servers racks replicas present wanted i taken targets → AreTargets servers racks replicas present wanted targets
are_targets servers racks replicas present wanted i taken targets low high h = record { picked = h.picked; number = omega (arith, h.number); first = h.first; set = h.set }

pub picked_out : (servers racks : ℕ) (replicas present : List ℕ) (wanted i : ℕ) (taken targets : List ℕ) → i < wanted → first_candidate servers racks replicas taken ≡ None
    → Picked servers racks replicas present wanted i taken targets → targets_of servers racks replicas present wanted ≡ None
picked_out servers racks replicas present wanted i taken targets below none h =
    sym h.rest ∙ ap (picked_from servers racks replicas taken targets) (one_less i wanted below)
    ∙ ap (λ o. option_and_then (λ target. picked_from servers racks replicas (with_member taken target) (with_member targets target) (wanted - (i + 1))) o) none
