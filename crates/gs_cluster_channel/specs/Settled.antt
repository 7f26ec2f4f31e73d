-- What ends of channels have put and taken, and that what an ear has taken was put by the ways into its node.
use Rattle.std.specs.Prelude.{◌≡◌, ◌-◌, ◌++◌, ℕ, Bool, true, false, List, [], ◌∷◌, Option, Some, None, refl}
use Rattle.std.specs.Coded.{Coded, code_by, coded×, coded_ℕ, coded_list}
use Rattle.gs_msg.specs.contracts.node.NodeId as node_code
use Rattle.gs_msg.specs.declared.node.NodeId.{NodeId}
use Rattle.gs_msg.specs.declared.sent.Sent.{Sent}
use Rattle.gs_msg.specs.contracts.sent.Sent as sent_code
use Rattle.gs_cluster_history.specs.Histories.{Among}

-- a way into a node, and what it has put
pub record Putting : Type 0 where
  pub to : NodeId
  pub put : List Sent

-- the ear of a node, how many parts it has, and what it has taken
pub record Hearing : Type 0 where
  pub me : NodeId
  pub parts : ℕ
  pub taken : List Sent

abbrev pub coded_putting : Coded Putting
coded_putting = code_by (NodeId × List Sent) (coded× node_code.the_row.coded (coded_list sent_code.the_row.coded)) (λ w. (w.to, w.put)) (λ p. record { to = p.0; put = p.1 }) (λ _. refl)

abbrev pub coded_hearing : Coded Hearing
coded_hearing = code_by (NodeId × (ℕ × List Sent)) (coded× node_code.the_row.coded (coded× coded_ℕ (coded_list sent_code.the_row.coded))) (λ e. (e.me, (e.parts, e.taken))) (λ p. record { me = p.0; parts = p.1.0; taken = p.1.1 }) (λ _. refl)

-- one part has been cut off
abbrev pub less_one : Hearing → Hearing
less_one e = record { me = e.me; parts = e.parts - 1; taken = e.taken }

-- it puts a message, if it can
abbrev pub puts : Bool → Sent → Putting → Putting
puts true sent w = record { to = w.to; put = w.put ++ sent ∷ [] }
puts false sent w = w

-- it takes a message, if there is one
abbrev pub hears : Option Sent → Hearing → Hearing
hears (Some sent) e = record { me = e.me; parts = e.parts; taken = e.taken ++ sent ∷ [] }
hears None e = e

abbrev pub AllGoTo : NodeId → List Putting → Type 0
AllGoTo me ways = (way : Putting) → Among ways way → way.to ≡ me

-- one of these ways has put it
abbrev pub PutBy : List Putting → Sent → Type 0
PutBy ways x = (way : Putting) × Among ways way × Among way.put x
