-- The calls of a caller of a cluster.
use Rattle.std.proofs.Common.{inl, inr, ℕ, List, Option, Some, None, ap}
use Rattle.std.specs.Prelude.{IfSome}
use Rattle.gs_msg.specs.declared.event.Request.{Request as Asked}
use Rattle.gs_client.specs.Edits.{Edits}
use Rattle.gs_client.specs.Sends.{Sends, next_request}
use Rattle.gs_client.specs.Trees.{Call}
use Rattle.gs_client.specs.declared.client.Client.{Client}
use Rattle.gs_client.specs.declared.link.Reply.{Reply}
use Rattle.gs_cluster.specs.Linked.{carried}
use Rattle.gs_cluster.specs.declared.caller.Caller.{Caller}
use Rattle.gs_cluster_core.specs.declared.role.Role.{Role}
use Rattle.gs_cluster_history.specs.Histories.{Kept}
use Rattle.gs_shell_calls.specs.declared.answer.Answer.{Answer}
use Rattle.gs_shell_grammar.specs.Grammar.{Request}
use Rattle.gs_shell_threads.specs.Asked.{asked_in_threads}
use Rattle.gs_laws_causes.proofs.Calls.{each_call, each_follows}
use Rattle.gs_laws_causes.specs.Calls.{OfEachCall}
use Rattle.gs_laws_causes.specs.Carried.{Explains}
use Rattle.gs_laws_threads.proofs.Telling.{Over, told_of_call}
use Rattle.gs_laws_threads.proofs.Turns.{each_line_in_threads}
use Rattle.gs_laws_threads.specs.Told.{Tells}

module _ {D : Type 0} (N R : Type 0) (seen : D → List ℕ) (failures : D → ℕ) where
  abbrev sends : Client × Caller N D R → Asked → Reply → Client × Caller N D R → Type 0
  sends = Sends (carried seen failures)

  abbrev edits : Client × ℕ × Caller N D R → Asked → Reply → Client × ℕ × Caller N D R → Type 0
  edits = Edits (carried seen failures)

  abbrev node : Client × Caller N D R → Kept (Role D)
  node s = s.1.node

  abbrev edits_node : Client × ℕ × Caller N D R → Kept (Role D)
  edits_node s = s.2.node

  sends_over : (old : Client × Caller N D R) (request : Asked) (reply : Reply) (new : Client × Caller N D R) → sends old request reply new → Over seen failures (node old) request reply (node new)
  sends_over old request reply new h = elim h [
    | inl goes ↦ Over.Goes old.1.moment (next_request old.0) old.1.patience.vain new.1.patience.vain goes.2.0
    | inr none ↦ Over.Ends (ap (λ (s : Client × Caller N D R). s.1.node) none.2) none.1
  ]

  edits_over : (old : Client × ℕ × Caller N D R) (request : Asked) (reply : Reply) (new : Client × ℕ × Caller N D R) → edits old request reply new
      → Over seen failures (edits_node old) request reply (edits_node new)
  edits_over old request reply new h = sends_over (old.0, old.2) request reply (new.0, new.2) h.0

  pub each_call_tells : OfEachCall (Tells sends node)
  each_call_tells = each_follows (Explains sends) (Tells sends node) (λ A call. told_of_call seen failures sends node sends_over call) (each_call sends)

  pub each_edit_tells : OfEachCall (Tells edits edits_node)
  each_edit_tells = each_follows (Explains edits) (Tells edits edits_node) (λ A call. told_of_call seen failures edits edits_node edits_over call) (each_call edits)

  pub each_line_tells : (size : ℕ) (line : Request) → IfSome (asked_in_threads size line) (Tells sends node Answer)
  each_line_tells size line = by_asked (asked_in_threads size line) (each_line_in_threads sends size line)
    where
      by_asked : (asked : Option (Call Answer)) → IfSome asked (Explains sends Answer) → IfSome asked (Tells sends node Answer)
      by_asked None has = tt
      by_asked (Some call) has = told_of_call seen failures sends node sends_over call has
