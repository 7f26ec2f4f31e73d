-- Each move keeps the rule of the channel.
use Rattle.std.proofs.Common.{◌≡◌, ◌≢◌, ℕ, zero, suc, ◌+◌, ◌-◌, ◌<◌, ◌≤◌, ◌⊎◌, inl, inr, ⊎_elim, List, [], ◌∷◌, ◌++◌, length, set, Some, sym, refl, ap, ◌∙◌, subst, arith}
use Rattle.std.proofs.lemmas.Option.{none-some, same_Some}
use Rattle.std.proofs.lemmas.Bool.{cases_eq}
use mathlib.Core.Option.{some, some-injective, some-ne-none}
use lib.ListN.{get_elem?}
use Rattle.atomic_table.proofs.Lists.{at_set, set_here, set_else, at_snoc, at_longer}
use Rattle.crossbeam_channel.specs.Fifo.{Pushes, Pops, Forks, Merges, Learns}
use Rattle.gs_msg.specs.declared.sent.Sent.{Sent}
use Rattle.gs_cluster_channel.specs.declared.hand.Hand.{Hand}
use Rattle.gs_cluster_channel.specs.Carried.{hand, whole, joined, total, IsPut, Carried}
use Rattle.gs_cluster_history.specs.Histories.{Among}

pub in_left : (xs ys : List Sent) (x : Sent) → Among xs x → Among (xs ++ ys) x
in_left [] ys x (k, h) = absurd (none-some x h)
in_left (y ∷ xs) ys x (zero, h) = (zero, h)
in_left (y ∷ xs) ys x (suc k, h) = let r = in_left xs ys x (k, h) in (suc r.0, r.1)

pub in_right : (xs ys : List Sent) (x : Sent) → Among ys x → Among (xs ++ ys) x
in_right [] ys x h = h
in_right (y ∷ xs) ys x h = let r = in_right xs ys x h in (suc r.0, r.1)

pub in_either : (xs ys : List Sent) (x : Sent) → Among (xs ++ ys) x → Among xs x ⊎ Among ys x
in_either [] ys x h = inr h
in_either (y ∷ xs) ys x (zero, h) = inl (zero, h)
in_either (y ∷ xs) ys x (suc k, h) = ⊎_elim (λ (r : Among xs x). inl (suc r.0, r.1)) (λ (r : Among ys x). inr r) (in_either xs ys x (k, h))

pub in_one : (y x : Sent) → Among (y ∷ []) x → y ≡ x
in_one y x (zero, h) = same_Some y x h
in_one y x (suc k, h) = absurd (none-some x h)

pub in_none : (x : Sent) → Among [] x → ⊥
in_none x (k, h) = none-some x h

at_within : (l : List Hand) (i : ℕ) (a : Hand) → get_elem? l i ≡ some a → i < length l
at_within [] i a h = absurd (some-ne-none a (sym h))
at_within (x ∷ xs) zero a h = omega arith
at_within (x ∷ xs) (suc i) a h = let r = at_within xs i a h in omega arith

pub total_set : (f : Hand → ℕ) (l : List Hand) (i : ℕ) (v w : Hand) → get_elem? l i ≡ some v → total f (set l i w) + f v ≡ total f l + f w
total_set f [] i v w h = absurd (some-ne-none v (sym h))
total_set f (x ∷ xs) zero v w h = let e = ap f (some-injective x v h) in omega arith
total_set f (x ∷ xs) (suc i) v w h = let r = total_set f xs i v w h in omega arith

total_one : (f : Hand → ℕ) (l : List Hand) (i : ℕ) (v : Hand) → get_elem? l i ≡ some v → f v ≤ total f l
total_one f [] i v h = absurd (some-ne-none v (sym h))
total_one f (x ∷ xs) zero v h = let e = ap f (some-injective x v h) in omega arith
total_one f (x ∷ xs) (suc i) v h = let r = total_one f xs i v h in omega arith

total_two : (f : Hand → ℕ) (l : List Hand) (i j : ℕ) (v u : Hand) → i ≢ j → get_elem? l i ≡ some v → get_elem? l j ≡ some u → f v + f u ≤ total f l
total_two f [] i j v u d a b = absurd (some-ne-none v (sym a))
total_two f (x ∷ xs) zero zero v u d a b = absurd (d refl)
total_two f (x ∷ xs) zero (suc j) v u d a b = let e = ap f (some-injective x v a) in let r = total_one f xs j u b in omega arith
total_two f (x ∷ xs) (suc i) zero v u d a b = let e = ap f (some-injective x u b) in let r = total_one f xs i v a in omega arith
total_two f (x ∷ xs) (suc i) (suc j) v u d a b = let r = total_two f xs i j v u (λ e. d (ap suc e)) a b in omega arith

total_snoc : (f : Hand → ℕ) (l : List Hand) (v : Hand) → total f (l ++ v ∷ []) ≡ total f l + f v
total_snoc f [] v = omega arith
total_snoc f (x ∷ xs) v = let r = total_snoc f xs v in omega arith

-- what was put stays put where a pass's list only grows
still : (views : List Hand) (port : ℕ) (v w : Hand) → get_elem? views port ≡ some v → (x : Sent) → (Among v.put x → Among w.put x) → IsPut views x → IsPut (set views port w) x
still views port v w at x grows (q, u, e, i) = ⊎_elim
    (λ (s : q ≡ port).
    let same : u ≡ v = some-injective u v (sym e ∙ ap (get_elem? views) s ∙ at) in
    (port, w, set_here views port w (at_within views port v at), grows (subst (λ (z : Hand). Among z.put x) same i)))
    (λ (d : q ≢ port). (q, u, set_else views port q w d ∙ e, i))
    (cases_eq q port)

-- the total of what a step leaves as it is
same_total : (f : Hand → ℕ) (views : List Hand) (port : ℕ) (v w : Hand) (n : ℕ) → get_elem? views port ≡ some v → f w ≡ f v → total f views ≡ n → total f (set views port w) ≡ n
same_total f views port v w n at e h = let s = total_set f views port v w at in omega arith

pub puts : (n port : ℕ) (v : Hand) (x : Sent) → 0 < v.parts → Pushes Carried n port v x (λ w. w ≡ hand v.parts v.ears (v.put ++ x ∷ []) v.taken)
puts n port v x some_part items views room b at =
    let w : Hand = hand v.parts v.ears (v.put ++ x ∷ []) v.taken in
    let keep : (y : Sent) → IsPut views y → IsPut (set views port w) y = λ y. still views port v w at y (in_left v.put (x ∷ []) y) in (
      w,
      record {
        parts = same_total (λ h. h.parts) views port v w 1024 at refl b.parts;
        ears = same_total (λ h. h.ears) views port v w 1 at refl b.ears;
        held = λ y i. ⊎_elim (λ (a : Among items y). keep y (b.held y a))
            (λ (a : Among (x ∷ []) y). (port, w, set_here views port w (at_within views port v at), in_right v.put (x ∷ []) y a))
            (in_either items (x ∷ []) y i);
        taken = λ q u e y i. ⊎_elim
            (λ (s : (q ≡ port) × (w ≡ u)). keep y (b.taken port v at y (subst (λ (z : Hand). Among z.taken y) (sym s.1) i)))
            (λ (s : (q ≢ port) × (get_elem? views q ≡ some u)). keep y (b.taken q u s.1 y i))
            (at_set views port q w u e);
        idle = λ q u e z. ⊎_elim
            (λ (s : (q ≡ port) × (w ≡ u)). absurd (let t = ap (λ (h : Hand). h.parts) s.1 in omega arith))
            (λ (s : (q ≢ port) × (get_elem? views q ≡ some u)). b.idle q u s.1 z)
            (at_set views port q w u e);
      },
      refl,
    )

pub takes : (port : ℕ) (v : Hand) → Pops Carried port v (λ x w. w ≡ hand v.parts v.ears v.put (v.taken ++ x ∷ []))
takes port v x items views b at =
    let w : Hand = hand v.parts v.ears v.put (v.taken ++ x ∷ []) in
    let keep : (y : Sent) → IsPut views y → IsPut (set views port w) y = λ y. still views port v w at y (λ i. i) in (
      w,
      record {
        parts = same_total (λ h. h.parts) views port v w 1024 at refl b.parts;
        ears = same_total (λ h. h.ears) views port v w 1 at refl b.ears;
        held = λ y i. keep y (b.held y (suc i.0, i.1));
        taken = λ q u e y i. ⊎_elim
            (λ (s : (q ≡ port) × (w ≡ u)). keep y (⊎_elim
            (λ (a : Among v.taken y). b.taken port v at y a)
            (λ (a : Among (x ∷ []) y). b.held y (zero, ap Some (in_one x y a)))
            (in_either v.taken (x ∷ []) y (subst (λ (z : Hand). Among z.taken y) (sym s.1) i))))
            (λ (s : (q ≢ port) × (get_elem? views q ≡ some u)). keep y (b.taken q u s.1 y i))
            (at_set views port q w u e);
        idle = λ q u e z. ⊎_elim
            (λ (s : (q ≡ port) × (w ≡ u)). ap (λ (h : Hand). h.put) (sym s.1) ∙ b.idle port v at (ap (λ (h : Hand). h.parts) s.1 ∙ z))
            (λ (s : (q ≢ port) × (get_elem? views q ≡ some u)). b.idle q u s.1 z)
            (at_set views port q w u e);
      },
      refl,
    )

pub learns : (port : ℕ) (v : Hand) → v.parts ≡ 1024 → Learns Carried port v (λ items. (x : Sent) → Among v.taken x → Among v.put x)
learns port v all items views b at x i = let p = b.taken port v at x i in ⊎_elim
    (λ (s : p.0 ≡ port). subst (λ (z : Hand). Among z.put x) (some-injective p.1 v (sym p.2 ∙ ap (get_elem? views) s ∙ at)) p.3)
    (λ (d : p.0 ≢ port).
    let t = total_two (λ h. h.parts) views p.0 port p.1 v d p.2 at in
    let q = b.parts in
    absurd (in_none x (subst (λ l. Among l x) (b.idle p.0 p.1 p.2 (omega arith)) p.3)))
    (cases_eq p.0 port)

-- there is one ear
pub one_ear : (port : ℕ) (v : Hand) → 2 ≤ v.ears → Learns Carried port v (λ items. ⊥)
one_ear port v two items views b at = let t = total_one (λ h. h.ears) views port v at in let q = b.ears in absurd (omega arith)

total_merged : (f : Hand → ℕ) (views : List Hand) (port other : ℕ) (v u both spent : Hand) (n : ℕ) → get_elem? views port ≡ some v → get_elem? (set views port both) other ≡ some u
    → f both ≡ f v + f u → f spent ≡ 0 → total f views ≡ n → total f (set (set views port both) other spent) ≡ n
total_merged f views port other v u both spent n at at' e z h =
    let s = total_set f views port v both at in let t = total_set f (set views port both) other u spent at' in omega arith

pub merges : (port : ℕ) (v : Hand) (other : ℕ) (u : Hand) → Merges Carried port v other u (joined v u) (hand 0 0 [] [])
merges port v other u items views b at two at' =
    let both : Hand = joined v u in
    let spent : Hand = hand 0 0 [] [] in
    let mid : List Hand = set views port both in
    let end : List Hand = set mid other spent in
    let was : get_elem? views other ≡ some u = sym (set_else views port other both two) ∙ at' in
    let here : get_elem? end port ≡ some both = set_else mid other port spent (λ e. two (sym e)) ∙ set_here views port both (at_within views port v at) in
    let keep : (x : Sent) → IsPut views x → IsPut end x = λ x p. ⊎_elim
    (λ (s : p.0 ≡ other). (port, both, here, in_right v.put u.put x (subst (λ (z : Hand). Among z.put x) (some-injective p.1 u (sym p.2 ∙ ap (get_elem? views) s ∙ was)) p.3)))
    (λ (d : p.0 ≢ other). ⊎_elim
    (λ (s : p.0 ≡ port). (port, both, here, in_left v.put u.put x (subst (λ (z : Hand). Among z.put x) (some-injective p.1 v (sym p.2 ∙ ap (get_elem? views) s ∙ at)) p.3)))
    (λ (n : p.0 ≢ port). (p.0, p.1, set_else mid other p.0 spent d ∙ set_else views port p.0 both n ∙ p.2, p.3))
    (cases_eq p.0 port))
    (cases_eq p.0 other) in
    record {
      parts = total_merged (λ h. h.parts) views port other v u both spent 1024 at at' refl refl b.parts;
      ears = total_merged (λ h. h.ears) views port other v u both spent 1 at at' refl refl b.ears;
      held = λ x i. keep x (b.held x i);
      taken = λ q z e x i. ⊎_elim
          (λ (s : (q ≡ other) × (spent ≡ z)). absurd (in_none x (subst (λ (h : Hand). Among h.taken x) (sym s.1) i)))
          (λ (s : (q ≢ other) × (get_elem? mid q ≡ some z)). ⊎_elim
          (λ (t : (q ≡ port) × (both ≡ z)). keep x (⊎_elim (λ (a : Among v.taken x). b.taken port v at x a) (λ (a : Among u.taken x). b.taken other u was x a)
          (in_either v.taken u.taken x (subst (λ (h : Hand). Among h.taken x) (sym t.1) i))))
          (λ (t : (q ≢ port) × (get_elem? views q ≡ some z)). keep x (b.taken q z t.1 x i))
          (at_set views port q both z s.1))
          (at_set mid other q spent z e);
      idle = λ q z e n. ⊎_elim
          (λ (s : (q ≡ other) × (spent ≡ z)). ap (λ (h : Hand). h.put) (sym s.1))
          (λ (s : (q ≢ other) × (get_elem? mid q ≡ some z)). ⊎_elim
          (λ (t : (q ≡ port) × (both ≡ z)).
          let p = ap (λ (h : Hand). h.parts) t.1 in
          let c : v.put ≡ [] = b.idle port v at (omega arith) in
          let d : u.put ≡ [] = b.idle other u was (omega arith) in
          ap (λ (h : Hand). h.put) (sym t.1) ∙ ap (λ l. l ++ u.put) c ∙ d)
          (λ (t : (q ≢ port) × (get_elem? views q ≡ some z)). b.idle q z t.1 n)
          (at_set views port q both z s.1))
          (at_set mid other q spent z e);
    }

total_forked : (f : Hand → ℕ) (views : List Hand) (port : ℕ) (v left right : Hand) (n : ℕ) → get_elem? views port ≡ some v
    → f left + f right ≡ f v → total f views ≡ n → total f (set views port left ++ right ∷ []) ≡ n
total_forked f views port v left right n at e h =
    let s = total_set f views port v left at in let t = total_snoc f (set views port left) right in omega arith

-- a new pass gets one part of several, and has put and taken nothing
pub forks : (port : ℕ) (v : Hand) → 1 < v.parts → Forks Carried port v (hand (v.parts - 1) v.ears v.put v.taken) (hand 1 0 [] [])
forks port v more items views b at =
    let left : Hand = hand (v.parts - 1) v.ears v.put v.taken in
    let right : Hand = hand 1 0 [] [] in
    let ep : v.parts - 1 + 1 ≡ v.parts = omega arith in
    let ee : v.ears + 0 ≡ v.ears = omega arith in
    let mid : List Hand = set views port left in
    let keep : (x : Sent) → IsPut views x → IsPut (mid ++ right ∷ []) x = λ x p. let s = still views port v left at x (λ i. i) p in (s.0, s.1, at_longer mid (right ∷ []) s.0 s.1 s.2, s.3) in
    record {
      parts = total_forked (λ h. h.parts) views port v left right 1024 at ep b.parts;
      ears = total_forked (λ h. h.ears) views port v left right 1 at ee b.ears;
      held = λ x i. keep x (b.held x i);
      taken = λ q u e x i. ⊎_elim
          (λ (m : get_elem? mid q ≡ some u). ⊎_elim
          (λ (s : (q ≡ port) × (left ≡ u)). keep x (b.taken port v at x (subst (λ (z : Hand). Among z.taken x) (sym s.1) i)))
          (λ (s : (q ≢ port) × (get_elem? views q ≡ some u)). keep x (b.taken q u s.1 x i))
          (at_set views port q left u m))
          (λ (r : right ≡ u). absurd (in_none x (subst (λ (z : Hand). Among z.taken x) (sym r) i)))
          (at_snoc mid right u q e);
      idle = λ q u e z. ⊎_elim
          (λ (m : get_elem? mid q ≡ some u). ⊎_elim
          (λ (s : (q ≡ port) × (left ≡ u)).
          let t = ap (λ (h : Hand). h.parts) s.1 in
          absurd (omega arith))
          (λ (s : (q ≢ port) × (get_elem? views q ≡ some u)). b.idle q u s.1 z)
          (at_set views port q left u m))
          (λ (r : right ≡ u). ap (λ (h : Hand). h.put) (sym r))
          (at_snoc mid right u q e);
    }

first : (q : ℕ) (u : Hand) → get_elem? (whole ∷ []) q ≡ some u → whole ≡ u
first zero u e = some-injective whole u e
first (suc q) u e = absurd (some-ne-none u (sym e))

pub begins : Carried [] (whole ∷ [])
begins = record {
  parts = refl;
  ears = refl;
  held = λ x i. absurd (in_none x i);
  taken = λ q u e x i. absurd (in_none x (subst (λ (z : Hand). Among z.taken x) (sym (first q u e)) i));
  idle = λ q u e z. ap (λ (h : Hand). h.put) (sym (first q u e));
}
