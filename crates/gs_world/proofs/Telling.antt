-- What is told of an event.
use Rattle.std.proofs.Common.{◌≡◌, ◌∙◌, ℕ, List, Result, refl, sym, ap, subst}
use Rattle.gs_base.specs.declared.refusal.Refusal.{Refusal}
use Rattle.gs_msg.specs.declared.event.DiskId.{DiskId}
use Rattle.gs_msg.specs.declared.event.Event.{Event}
use Rattle.gs_msg.specs.declared.node.NodeId.{NodeId}
use Rattle.gs_nodes.specs.Nodes.{Nodes}
use Rattle.gs_nodes.specs.declared.place.MasterPlace.{MasterPlace}
use Rattle.gs_world.specs.Histories.{AtNode, History, IsOutcome, Tells, Upshot}
use Rattle.gs_world.specs.Sent.{Sent, sent_by}

module _ {D : Type 0} (seen : D → List ℕ) (failures : D → ℕ) (armed : DiskId → ℕ → MasterPlace D → MasterPlace D) where
  -- a node does what it does, what it sends stands behind what it had sent, and its messages are counted before and behind that
  pub told_of : (event : Event) (old : History D) (by : NodeId) (upshot : Upshot) (nodes : Nodes D) (sent : Sent) (said : Result (Unit {0}) Refusal) (first end : ℕ) (new : History D)
      → AtNode seen failures armed event.moment event.happening old by upshot nodes → sent ≡ old.sent → Tells seen failures armed event.moment by upshot sent said new.sent → new.nodes ≡ nodes
      → first ≡ sent_by sent by → end ≡ sent_by new.sent by → IsOutcome seen failures armed event old (record { by = by; said = said; first = first; end = end }) new
  told_of event old by upshot nodes sent said first end new at same tells stay before behind =
      record {
        happens = record {
          by = by;
          outcome = upshot;
          at = subst (λ (n : Nodes D). AtNode seen failures armed event.moment event.happening old by upshot n) (sym stay) at;
          tells = subst (λ (s : Sent). Tells seen failures armed event.moment by upshot s said new.sent) same tells;
        };
        by = refl;
        first = before ∙ ap (λ (s : Sent). sent_by s by) same;
        end = behind;
      }
