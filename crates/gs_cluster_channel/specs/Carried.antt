-- The rule of a channel: each message in it, and each that a pass has taken, stands in what some pass has put.
use Rattle.std.specs.Prelude.{◌≡◌, ℕ, ◌+◌, Bool, true, false, List, [], ◌∷◌, ◌++◌, Option, Some, None, refl}
use mathlib.Core.Option.{some}
use lib.ListN.{get_elem?}
use Rattle.gs_msg.specs.declared.sent.Sent.{Sent}
use Rattle.gs_cluster_history.specs.Histories.{Among}
use Rattle.gs_cluster_channel.specs.declared.hand.Hand.{Hand}

abbrev pub hand : ℕ → ℕ → List Sent → List Sent → Hand
hand parts ears put taken = record { parts = parts; ears = ears; put = put; taken = taken }

-- the pass of a new channel
abbrev pub whole : Hand
whole = hand 1024 1 [] []

-- all that two have
abbrev pub joined : Hand → Hand → Hand
joined v w = hand (v.parts + w.parts) (v.ears + w.ears) (v.put ++ w.put) (v.taken ++ w.taken)

-- what all passes have together
abbrev pub total : (Hand → ℕ) → List Hand → ℕ
total f [] = 0
total f (v ∷ vs) = f v + total f vs

abbrev pub IsPut : List Hand → Sent → Type 0
IsPut views x = (port : ℕ) × (v : Hand) × (get_elem? views port ≡ some v) × Among v.put x

-- Parts and the ear are neither made nor lost, and a pass with no part has put nothing.
pub record Carried (items : List Sent) (views : List Hand) : Type 0 where
  pub parts : total (λ v. v.parts) views ≡ 1024
  pub ears : total (λ v. v.ears) views ≡ 1
  pub held : (x : Sent) → Among items x → IsPut views x
  pub taken : (port : ℕ) (v : Hand) → get_elem? views port ≡ some v → (x : Sent) → Among v.taken x → IsPut views x
  pub idle : (port : ℕ) (v : Hand) → get_elem? views port ≡ some v → v.parts ≡ 0 → v.put ≡ []

-- a message was put, if it was
abbrev pub HasPut : Bool → Sent → Hand → Hand → Type 0
HasPut true x old new = new ≡ hand old.parts old.ears (old.put ++ x ∷ []) old.taken
HasPut false x old new = new ≡ old

-- a message was taken, if there was one
abbrev pub HasTaken : Option Sent → Hand → Hand → Type 0
HasTaken (Some x) old new = new ≡ hand old.parts old.ears old.put (old.taken ++ x ∷ [])
HasTaken None old new = new ≡ old

-- Worked: one puts a message, another takes it, and both together have the whole.
after_one : (x : Sent) → joined (hand 1 0 (x ∷ []) []) (hand 1023 1 [] (x ∷ [])) ≡ hand 1024 1 (x ∷ []) (x ∷ [])
after_one x = refl

put_once : (x : Sent) → HasPut true x (hand 1 0 [] []) (hand 1 0 (x ∷ []) [])
put_once x = refl
