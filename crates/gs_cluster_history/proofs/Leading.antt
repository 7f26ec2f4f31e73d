-- What is sent at entries from a clock on has no lower clock.
use Rattle.std.proofs.Common.{◌≡◌, ℕ, zero, suc, ◌<◌, ◌≤◌, ◌⊎◌, inl, inr, ⊎_elim, List, [], ◌∷◌, ◌++◌, map, Some, sym, ap, subst, arith}
use Rattle.std.specs.Prelude.{slice_get}
use Rattle.std.proofs.lemmas.Option.{none-some, same_Some}
use Rattle.gs_base.specs.declared.numbers.Moment.{Moment}
use Rattle.gs_msg.specs.declared.message.Message.{Message}
use Rattle.gs_msg.specs.declared.node.NodeId.{NodeId}
use Rattle.gs_cluster_history.specs.declared.took.Took.{Took}
use Rattle.gs_cluster_history.specs.Histories.{Entry, Leads, Listed, Past, Upshot, listed, moment_of, out_of}

-- an element of two lists joined is one of the first at its place, or one of the second
get_either : {X : Type 0} (xs ys : List X) (k : ℕ) (v : X) → slice_get (xs ++ ys) k ≡ Some v → (slice_get xs k ≡ Some v) ⊎ ((j : ℕ) × (slice_get ys j ≡ Some v))
get_either [] ys k v h = inr (k, h)
get_either (x ∷ xs) ys zero v h = inl h
get_either (x ∷ xs) ys (suc k) v h = get_either xs ys k v h

-- all messages of one event have its clock
listed_clock : (c : ℕ) (m : Moment) (ms : List Message) (k : ℕ) (v : Listed) → slice_get (map (listed c m) ms) k ≡ Some v → v.clock ≡ c
listed_clock c m [] k v h = absurd (none-some v h)
listed_clock c m (x ∷ ms) zero v h = ap (λ (q : Listed). q.clock) (sym (same_Some (listed c m x) v h))
listed_clock c m (x ∷ ms) (suc k) v h = listed_clock c m ms k v h

-- the clocks of these entries rise from this one on
abbrev pub Ascends : ℕ → List Entry → Type 0
Ascends c [] = Unit {0}
Ascends c (e ∷ es) = (c ≤ e.clock) × Ascends e.clock es

pub ascends_from : (c d : ℕ) (es : List Entry) → d ≤ c → Ascends c es → Ascends d es
ascends_from c d [] h a = tt
ascends_from c d (e ∷ es) h a = (let b = a.0 in omega arith, a.1)

module _ {C : Type 0} (Does : Took → C → Upshot → C → Type 0) where
  -- the clocks of a history rise
  pub leads_ascends : (me : NodeId) (p : Past C) (es : List Entry) (q : Past C) → Leads Does me p es q → Ascends p.clock es
  leads_ascends me p [] q l = tt
  leads_ascends me p (e ∷ es) q (mid, t, l) =
      let a = t.later in
      (omega arith, subst (λ c. Ascends c es) t.clock (leads_ascends me mid es q l))

  -- what was sent before a clock was sent before all entries from that clock on
  pub before : (me : NodeId) (c : ℕ) (p : Past C) (es : List Entry) (q : Past C) → Leads Does me p es q → Ascends c es
      → (k : ℕ) (v : Listed) → slice_get q.sent k ≡ Some v → v.clock < c → slice_get p.sent k ≡ Some v
  before me c p [] q l a k v h lt = subst (λ (z : Past C). slice_get z.sent k ≡ Some v) l h
  before me c p (e ∷ es) q (mid, t, l) a k v h lt =
      let later : slice_get mid.sent k ≡ Some v = before me c mid es q l (ascends_from e.clock c es a.0 a.1) k v h lt in
      ⊎_elim (λ (x : slice_get p.sent k ≡ Some v). x)
      (λ y. absurd (let b = listed_clock e.clock (moment_of e.took) (out_of e.outcome) y.0 v y.1 in let d = a.0 in omega arith))
      (get_either p.sent (map (listed e.clock (moment_of e.took)) (out_of e.outcome)) k v (subst (λ l. slice_get l k ≡ Some v) t.sent later))
