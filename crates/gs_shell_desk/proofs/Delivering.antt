-- What is under way, delivered message by message.
use Rattle.std.proofs.Common.{◌≡◌, ◌∷◌, ◌++◌, Bool, true, false, if◌then◌else◌, ◌+◌, ◌-◌, ◌<◌, ◌≤◌, ℕ, zero, suc, List, [], Result, refl, sym, subst, ap, arith, drop, length}
use Rattle.gs_msg.specs.declared.message.Message.{Message}
use Rattle.gs_base.specs.declared.refusal.Refusal.{Refusal}
use Rattle.gs_msg.specs.Bodies.{kind_of}
use Rattle.gs_shell_desk.specs.Ways.{DeliversAll, IsDelivered, Puts, ServerTicked, ServersTick, Way, held_back, is_held, under_way, WithFirst, with_queue}

-- behind the first of a list stands less
pub empty : {A : Type 0} (xs : List A) → xs ≡ drop 1 xs → xs ≡ []
empty [] same = refl
empty (x ∷ xs) same = absurd (omega (arith, ap length same))

-- one server more ticks
pub one_more_ticks : {D : Type 0} (many : ℕ) (old mid new : Way D) → ServersTick many old mid → ServerTicked many mid new → ServersTick (many + 1) old new
one_more_ticks many old mid new before ticks = subst (λ n. ServersTick n old new) (next many) (mid, before, ticks) where
  next : (n : ℕ) → suc n ≡ n + 1
  next n = omega arith

module _ {D : Type 0} (seen : D → List ℕ) (failures : D → ℕ) where
  -- what comes next, of what is under way
  abbrev pub Next : ℕ → Way D → Way D → List Message → Type 0
  Next many old new queue =
      WithFirst queue (new ≡ old)
      (λ message rest. (said : Result (Unit {0}) Refusal) × (mid : Way D) × IsDelivered seen failures message (with_queue rest old) said mid × DeliversAll seen failures many mid new)

  -- nothing is under way
  pub none_left : (many : ℕ) (w : Way D) → w.queue ≡ [] → DeliversAll seen failures many w w
  unfolding DeliversAll
  none_left zero w none = refl
  none_left (suc many) w none = subst (λ queue. Next many w w queue) (sym none) refl

  -- so many were delivered
  pub over : (many done : ℕ) (w : Way D) → many ≤ done → DeliversAll seen failures (many - done) w w
  unfolding DeliversAll
  over many done w above = subst (λ n. DeliversAll seen failures n w w) (nothing_left many done above) refl where
    nothing_left : (many done : ℕ) → many ≤ done → 0 ≡ many - done
    nothing_left many done above = omega arith

  -- the first message is delivered, and then the others
  pub one_more : (many : ℕ) (old mid new : Way D) (message : Message) (rest : List Message) (said : Result (Unit {0}) Refusal)
      → old.queue ≡ message ∷ rest → IsDelivered seen failures message (with_queue rest old) said mid → DeliversAll seen failures many mid new
      → DeliversAll seen failures (suc many) old new
  unfolding DeliversAll
  one_more many old mid new message rest said first delivered others =
      subst (λ queue. Next many old new queue) (sym first) (said, mid, delivered, others)

  one_less : (many done : ℕ) → done < many → suc (many - (done + 1)) ≡ many - done
  one_less many done below = omega arith

  pub delivers : (many done : ℕ) (old mid new : Way D) (message : Message) (rest : List Message) (said : Result (Unit {0}) Refusal)
      → done < many → old.queue ≡ message ∷ rest → IsDelivered seen failures message (with_queue rest old) said mid → DeliversAll seen failures (many - (done + 1)) mid new
      → DeliversAll seen failures (many - done) old new
  delivers many done old mid new message rest said below first delivered others =
      subst (λ n. DeliversAll seen failures n old new) (one_less many done below) (one_more (many - (done + 1)) old mid new message rest said first delivered others)

module _ {D : Type 0} (message : Message) (old : Way D) (is : Bool) (same : is_held old.kind (kind_of message.body) ≡ is) where
  puts : (new : Way D) → new ≡ (if is then held_back message old else under_way message old) → Puts message old new
  puts new so = subst (λ b. new ≡ (if b then held_back message old else under_way message old)) (sym same) so

-- a message that is held back, and one that isn't
pub puts_back : {D : Type 0} (message : Message) (old : Way D) (held : List Message) → is_held old.kind (kind_of message.body) ≡ true → held ≡ old.held ++ message ∷ []
    → Puts message old (record old { held = held })
puts_back message old held same is = puts message old true same (record old { held = held }) (ap (λ items. record old { held = items }) is)

pub puts_on : {D : Type 0} (message : Message) (old : Way D) (queue : List Message) → is_held old.kind (kind_of message.body) ≡ false → queue ≡ old.queue ++ message ∷ []
    → Puts message old (record old { queue = queue })
puts_on message old queue same is = puts message old false same (record old { queue = queue }) (ap (λ items. record old { queue = items }) is)
