-- Histories that match are merged into a run.
use Rattle.std.proofs.Common.{◌≡◌, ℕ, zero, suc, ◌≤◌, ◌⊎◌, inl, inr, ⊎_elim, List, [], ◌∷◌, map, Option, Some, None, refl, sym, ap, ◌∙◌, subst, arith}
use Rattle.std.specs.Prelude.{◌==◌, slice_get, slice_set}
use Rattle.std.proofs.lemmas.Option.{none-some, same_Some}
use Rattle.std.proofs.lemmas.Bool.{cases_eq, cond-true, cond-false, eq-eqb, ne_eqb}
use Rattle.gs_msg.specs.declared.node.NodeId.{NodeId}
use Rattle.gs_cluster_history.specs.declared.took.Took.{Took}
use Rattle.gs_cluster_history.specs.declared.took.Took.TheVariants.{Heard, Did}
use Rattle.gs_cluster_history.specs.Histories.{Among, Entry, MayTake, Leads, Line, Past, Upshot, listing}
use Rattle.gs_cluster_history.specs.Merging.{Comes, Place, Rises, RunsAll, Stands, behind_first, count, least, merged_from, mine, next_and, without_first}
use Rattle.gs_cluster_history.proofs.Leading.{Ascends, before, leads_ascends}
use Rattle.gs_cluster_history.proofs.Least.{AreOver, IsLeast, LeastOf, is_least, none_left, one_less, without_else, without_here}

-- ---- places of lists

get_set_here : {X : Type 0} (xs : List X) (i : ℕ) (x y : X) → slice_get xs i ≡ Some x → slice_get (slice_set xs i y) i ≡ Some y
get_set_here [] i x y h = absurd (none-some x h)
get_set_here (z ∷ xs) zero x y h = refl
get_set_here (z ∷ xs) (suc i) x y h = get_set_here xs i x y h

get_set_else : {X : Type 0} (xs : List X) (i j : ℕ) (y : X) → (i ≡ j → ⊥) → slice_get (slice_set xs i y) j ≡ slice_get xs j
get_set_else [] i j y d = refl
get_set_else (z ∷ xs) zero zero y d = absurd (d refl)
get_set_else (z ∷ xs) zero (suc j) y d = refl
get_set_else (z ∷ xs) (suc i) zero y d = refl
get_set_else (z ∷ xs) (suc i) (suc j) y d = get_set_else xs i j y (λ e. d (ap suc e))

map_set : {X Y : Type 0} (f : X → Y) (xs : List X) (i : ℕ) (y : X) → map f (slice_set xs i y) ≡ slice_set (map f xs) i (f y)
map_set f [] i y = refl
map_set f (x ∷ xs) zero y = refl
map_set f (x ∷ xs) (suc i) y = ap (λ l. f x ∷ l) (map_set f xs i y)

-- what is put in place of an element that looks the same
map_same : {X Y : Type 0} (f : X → Y) (xs : List X) (i : ℕ) (x y : X) → slice_get xs i ≡ Some x → f y ≡ f x → map f (slice_set xs i y) ≡ map f xs
map_same f [] i x y h e = refl
map_same f (z ∷ xs) zero x y h e = ap (λ a. a ∷ map f xs) (e ∙ ap f (sym (same_Some z x h)))
map_same f (z ∷ xs) (suc i) x y h e = ap (λ l. f z ∷ l) (map_same f xs i x y h e)

map_found : {X Y : Type 0} (f : X → Y) (xs : List X) (i : ℕ) (y : Y) → slice_get (map f xs) i ≡ Some y → (x : X) × (slice_get xs i ≡ Some x) × (f x ≡ y)
map_found f [] i y h = absurd (none-some y h)
map_found f (x ∷ xs) zero y h = (x, refl, same_Some (f x) y h)
map_found f (x ∷ xs) (suc i) y h = map_found f xs i y h

map_at : {X Y : Type 0} (f : X → Y) (xs : List X) (i : ℕ) (x : X) → slice_get xs i ≡ Some x → slice_get (map f xs) i ≡ Some (f x)
map_at f [] i x h = absurd (none-some x h)
map_at f (z ∷ xs) zero x h = ap (λ a. Some (f a)) (same_Some z x h)
map_at f (z ∷ xs) (suc i) x h = map_at f xs i x h

map_all : {X Y : Type 0} (f g : X → Y) (xs : List X) → ((i : ℕ) (x : X) → slice_get xs i ≡ Some x → f x ≡ g x) → map f xs ≡ map g xs
map_all f g [] h = refl
map_all f g (x ∷ xs) h = ap (λ a. a ∷ map f xs) (h 0 x refl) ∙ ap (λ l. g x ∷ l) (map_all f g xs (λ i y e. h (suc i) y e))

-- ---- a merging on its way

-- a node on its way: what it is by now, what it takes still, and what it is in the end
pub record Going (C : Type 0) : Type 0 where
  pub me : NodeId
  pub now : Past C
  pub rest : List Entry
  pub end : Past C

abbrev pub now_of : {C : Type 0} → Going C → Line C
now_of g = record { me = g.me; past = g.now }

abbrev pub end_of : {C : Type 0} → Going C → Line C
end_of g = record { me = g.me; past = g.end }

abbrev pub rest_of : {C : Type 0} → Going C → List Entry
rest_of g = g.rest

rests_set : {C : Type 0} (gs : List (Going C)) (i : ℕ) (g h : Going C) → slice_get gs i ≡ Some g → h.rest ≡ behind_first g.rest → map rest_of (slice_set gs i h) ≡ without_first (map rest_of gs) i
rests_set [] i g h at e = refl
rests_set (x ∷ gs) zero g h at e = ap (λ r. r ∷ map rest_of gs) (e ∙ ap (λ (z : Going _). behind_first z.rest) (sym (same_Some x g at)))
rests_set (x ∷ gs) (suc i) g h at e = ap (λ l. x.rest ∷ l) (rests_set gs i g h at e)

module _ {C : Type 0} (Does : Took → C → Upshot → C → Type 0) where
  -- each goes on as its entries lead it
  abbrev pub AllLead : List (Going C) → Type 0
  AllLead gs = (i : ℕ) (g : Going C) → slice_get gs i ≡ Some g → Leads Does g.me g.now g.rest g.end

  -- whatever one takes still stands in the end
  abbrev pub AllStand : List (Going C) → Type 0
  AllStand gs = (i : ℕ) (g : Going C) → slice_get gs i ≡ Some g → (e : Entry) → Among g.rest e → Stands (map end_of gs) g.me e.took

  -- of this one no entry has a lesser clock
  abbrev Waits : ℕ → Going C → Type 0
  Waits c g = (e : Entry) (es : List Entry) → g.rest ≡ e ∷ es → c ≤ e.clock

  waits_ascends : (c : ℕ) (me : NodeId) (now : Past C) (rest : List Entry) (end : Past C) → Leads Does me now rest end → ((e : Entry) (es : List Entry) → rest ≡ e ∷ es → c ≤ e.clock) → Ascends c rest
  waits_ascends c me now [] end l w = tt
  waits_ascends c me now (e ∷ es) end l w = (w e es refl, (leads_ascends Does me now (e ∷ es) end l).1)

  -- what was sent before the next entry has been sent by now
  module _ (gs : List (Going C)) (lead : AllLead gs) (c : ℕ) (waits : (i : ℕ) (g : Going C) → slice_get gs i ≡ Some g → Waits c g) where
    sent_by_now : (took : Took) (me : NodeId) → MayTake me c took → Stands (map end_of gs) me took → Stands (map now_of gs) me took
    sent_by_now (Did event) me f s = tt
    sent_by_now (Heard sent) me f (to, l, (k, at), from, stands) =
        let m = map_found end_of gs k l at in
        let g : Going C = m.0 in
        let there : slice_get g.end.sent sent.place ≡ Some (listing sent) = subst (λ (z : Line C). slice_get z.past.sent sent.place ≡ Some (listing sent)) (sym m.2) stands in (
          to,
          now_of g,
          (k, map_at now_of gs k g m.1),
          ap (λ (z : Line C). z.me) m.2 ∙ from,
          before Does g.me c g.now g.rest g.end (lead k g m.1) (waits_ascends c g.me g.now g.rest g.end (lead k g m.1) (waits k g m.1)) sent.place (listing sent) there f,
        )

  -- one takes the next entry
  module _ (gs : List (Going C)) (lead : AllLead gs) (stand : AllStand gs) (p : Place) (b : IsLeast 0 (map rest_of gs) p) where
    pub found : (g : Going C) × (slice_get gs p.at ≡ Some g) × (g.rest ≡ p.entry ∷ b.behind)
    found =
        let m = map_found rest_of gs b.at (p.entry ∷ b.behind) b.there in
        let same : b.at ≡ p.at = (let h = b.place in omega arith) in
        (m.0, subst (λ i. slice_get gs i ≡ Some m.0) same m.1, m.2)

    abbrev pub goes : Going C
    goes = found.0

    pub leads : Leads Does goes.me goes.now (p.entry ∷ b.behind) goes.end
    leads = subst (λ r. Leads Does goes.me goes.now r goes.end) found.2 (lead p.at goes found.1)

    abbrev pub next : Going C
    next = record { me = goes.me; now = leads.0; rest = b.behind; end = goes.end }

    abbrev pub moved : List (Going C)
    moved = slice_set gs p.at next

    waits : (i : ℕ) (g : Going C) → slice_get gs i ≡ Some g → Waits p.entry.clock g
    waits i g at e es r = b.below i e es (map_at rest_of gs i g at ∙ ap Some r)

    stands : Stands (map end_of gs) goes.me p.entry.took
    stands = stand p.at goes found.1 p.entry (0, ap (λ r. slice_get r 0) found.2)

    pub comes : Comes Does p (map now_of gs) (map now_of moved)
    comes = record {
      line = now_of goes;
      after = leads.0;
      at = map_at now_of gs p.at goes found.1;
      takes = leads.1;
      known = sent_by_now gs lead p.entry.clock waits p.entry.took goes.me leads.1.may stands;
      rest = map_set now_of gs p.at next;
    }

    pub same_ends : map end_of moved ≡ map end_of gs
    same_ends = map_same end_of gs p.at goes next found.1 refl

    pub fewer : map rest_of moved ≡ without_first (map rest_of gs) p.at
    fewer = rests_set gs p.at goes next found.1 (ap behind_first (sym found.2))

    -- it is the one that moved, or one as before
    either : (i : ℕ) (g : Going C) → slice_get moved i ≡ Some g → (next ≡ g) ⊎ (slice_get gs i ≡ Some g)
    either i g at = ⊎_elim
        (λ (s : p.at ≡ i). inl (same_Some next g (sym (get_set_here gs p.at goes next found.1) ∙ ap (slice_get moved) s ∙ at)))
        (λ (d : p.at ≡ i → ⊥). inr (sym (get_set_else gs p.at i next d) ∙ at))
        (cases_eq p.at i)

    pub still_lead : AllLead moved
    still_lead i g at = ⊎_elim
        (λ (s : next ≡ g). subst (λ (z : Going C). Leads Does z.me z.now z.rest z.end) s leads.2)
        (λ (a : slice_get gs i ≡ Some g). lead i g a)
        (either i g at)

    behind_among : (e : Entry) → Among b.behind e → Among goes.rest e
    behind_among e (k, h) = (suc k, ap (λ r. slice_get r (suc k)) found.2 ∙ h)

    pub still_stand : AllStand moved
    still_stand i g at e m = subst (λ l. Stands l g.me e.took) (sym same_ends) (⊎_elim
        (λ (s : next ≡ g). subst (λ (z : Going C). Stands (map end_of gs) z.me e.took) s (stand p.at goes found.1 e (behind_among e (subst (λ (z : Going C). Among z.rest e) (sym s) m))))
        (λ (a : slice_get gs i ≡ Some g). stand i g a e m)
        (either i g at))

  abbrev line_at : NodeId → Past C → Line C
  line_at me past = record { me = me; past = past }

  -- nobody takes anything any more
  over : (gs : List (Going C)) → AllLead gs → AreOver (map rest_of gs) → map end_of gs ≡ map now_of gs
  over gs lead none = map_all end_of now_of gs (λ i g at.
      ap (line_at g.me) (subst (λ r. Leads Does g.me g.now r g.end) (none i g.rest (map_at rest_of gs i g at)) (lead i g at)))

  abbrev Ongoing : ℕ → Type 0
  Ongoing n = (gs : List (Going C)) → count (map rest_of gs) ≤ n → AllLead gs → AllStand gs → RunsAll Does (merged_from n (map rest_of gs)) (map now_of gs) (map end_of gs)

  run_with : (n : ℕ) → Ongoing n → (gs : List (Going C)) → count (map rest_of gs) ≤ suc n → AllLead gs → AllStand gs → (o : Option Place) → LeastOf 0 (map rest_of gs) o
      → RunsAll Does (next_and (merged_from n) (map rest_of gs) o) (map now_of gs) (map end_of gs)
  run_with n go_on gs c lead stand None none = over gs lead none
  run_with n go_on gs c lead stand (Some p) b =
      let after = moved gs lead stand p b in
      let at : slice_get (map rest_of gs) p.at ≡ Some (p.entry ∷ b.behind) = (let s : b.at ≡ p.at = (let h = b.place in omega arith) in subst (λ i. slice_get (map rest_of gs) i ≡ Some (p.entry ∷ b.behind)) s b.there) in
      let less = one_less (map rest_of gs) p.at p.entry b.behind at in
      let room : count (map rest_of after) ≤ n = subst (λ rs. count rs ≤ n) (sym (fewer gs lead stand p b)) (omega arith) in
      let rest = go_on after room (still_lead gs lead stand p b) (still_stand gs lead stand p b) in (
        map now_of after,
        comes gs lead stand p b,
        subst (λ rs. RunsAll Does (merged_from n rs) (map now_of after) (map end_of gs)) (fewer gs lead stand p b)
            (subst (λ ends. RunsAll Does (merged_from n (map rest_of after)) (map now_of after) ends) (same_ends gs lead stand p b) rest),
      )

  pub run : (n : ℕ) → Ongoing n
  run zero gs c lead stand = over gs lead (none_left (map rest_of gs) (omega arith))
  run (suc n) gs c lead stand = run_with n (run n) gs c lead stand (least 0 (map rest_of gs)) (is_least 0 (map rest_of gs))

-- ---- each history in its order, and clocks

module _ (rests : List (List Entry)) (p : Place) (b : IsLeast 0 rests p) where
  at_place : slice_get rests p.at ≡ Some (p.entry ∷ b.behind)
  at_place = let s : b.at ≡ p.at = (let h = b.place in omega arith) in subst (λ i. slice_get rests i ≡ Some (p.entry ∷ b.behind)) s b.there

  fewer_left : (n : ℕ) → count rests ≤ suc n → count (without_first rests p.at) ≤ n
  fewer_left n c = let l = one_less rests p.at p.entry b.behind at_place in omega arith

abbrev InOrder : ℕ → Type 0
InOrder n = (rests : List (List Entry)) → count rests ≤ n → (i : ℕ) (r : List Entry) → slice_get rests i ≡ Some r → mine i (merged_from n rests) ≡ r

order_with : (n : ℕ) → InOrder n → (rests : List (List Entry)) → count rests ≤ suc n → (i : ℕ) (r : List Entry) → slice_get rests i ≡ Some r → (o : Option Place) → LeastOf 0 rests o
    → mine i (next_and (merged_from n) rests o) ≡ r
order_with n go_on rests c i r at None none = sym (none i r at)
order_with n go_on rests c i r at (Some p) b =
    let left = without_first rests p.at in
    let others = mine i (merged_from n left) in
    ⊎_elim
    (λ (s : p.at ≡ i).
    let whole : p.entry ∷ b.behind ≡ r = same_Some (p.entry ∷ b.behind) r (sym (at_place rests p b) ∙ ap (slice_get rests) s ∙ at) in
    let rest : others ≡ b.behind = go_on left (fewer_left rests p b n c) i b.behind (ap (slice_get left) (sym s) ∙ without_here rests p.at p.entry b.behind (at_place rests p b)) in
    cond-true (p.at == i) (p.entry ∷ others) others (eq-eqb p.at i s) ∙ ap (λ l. p.entry ∷ l) rest ∙ whole)
    (λ (d : p.at ≡ i → ⊥).
    cond-false (p.at == i) (p.entry ∷ others) others (ne_eqb p.at i d) ∙ go_on left (fewer_left rests p b n c) i r (without_else rests p.at i d ∙ at))
    (cases_eq p.at i)

pub in_order : (n : ℕ) → InOrder n
in_order zero rests c i r at = sym (none_left rests (omega arith) i r at)
in_order (suc n) rests c i r at = order_with n (in_order n) rests c i r at (least 0 rests) (is_least 0 rests)

abbrev pub AllAscend : ℕ → List (List Entry) → Type 0
AllAscend c rests = (i : ℕ) (r : List Entry) → slice_get rests i ≡ Some r → Ascends c r

-- from the next entry's clock on, if there is none of a lesser one
behind_next : (c d : ℕ) (r : List Entry) → ((e : Entry) (es : List Entry) → r ≡ e ∷ es → d ≤ e.clock) → Ascends c r → Ascends d r
behind_next c d [] w a = tt
behind_next c d (e ∷ es) w a = (w e es refl, a.1)

abbrev Rising : ℕ → Type 0
Rising n = (c : ℕ) (rests : List (List Entry)) → AllAscend c rests → Rises c (merged_from n rests)

rising_with : (n : ℕ) → Rising n → (c : ℕ) (rests : List (List Entry)) → AllAscend c rests → (o : Option Place) → LeastOf 0 rests o → Rises c (next_and (merged_from n) rests o)
rising_with n go_on c rests a None none = tt
rising_with n go_on c rests a (Some p) b =
    let here = a p.at (p.entry ∷ b.behind) (at_place rests p b) in (
      here.0,
      go_on p.entry.clock (without_first rests p.at) (λ i r at. ⊎_elim
          (λ (s : p.at ≡ i).
          let same : b.behind ≡ r = same_Some b.behind r (sym (without_here rests p.at p.entry b.behind (at_place rests p b)) ∙ ap (slice_get (without_first rests p.at)) s ∙ at) in
          subst (Ascends p.entry.clock) same here.1)
          (λ (d : p.at ≡ i → ⊥).
          let was : slice_get rests i ≡ Some r = sym (without_else rests p.at i d) ∙ at in
          behind_next c p.entry.clock r (λ e es h. b.below i e es (was ∙ ap Some h)) (a i r was))
          (cases_eq p.at i)),
    )

pub rising : (n : ℕ) → Rising n
rising zero c rests a = tt
rising (suc n) c rests a = rising_with n (rising n) c rests a (least 0 rests) (is_least 0 rests)
