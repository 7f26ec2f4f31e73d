-- A number that its client hasn't used yet: nothing is asked under it.
use Rattle.std.proofs.Common.{◌≡◌, ◌∙◌, ◌<◌, ℕ, suc, Bool, cond, false, true, List, [], ◌∷◌, Some, Ok, Err, refl, sym, ap, subst, arith}
use Rattle.std.specs.Prelude.{◌==◌, Contains}
use Rattle.std.proofs.lemmas.Bool.Decides.{nat_tests}
use Rattle.gs_base.specs.declared.numbers.ReqId.{ReqId}
use Rattle.gs_client.specs.Nodes.{Node}
use Rattle.gs_client.specs.declared.link.Reply.TheVariants as replies
use Rattle.gs_laws_chunks.proofs.lemmas.accounts.Edits.{AreNumbered}
use Rattle.gs_laws_chunks.proofs.lemmas.accounts.SeeingThrough.{each_is_seen_through}
use Rattle.gs_laws_chunks.proofs.lemmas.answers.Replied.{begins_replied, run_replied}
use Rattle.gs_laws_chunks.proofs.lemmas.calls.Runs.{of_run, told_since}
use Rattle.gs_laws_chunks.specs.accounts.Accounts.{Account}
use Rattle.gs_laws_chunks.specs.accounts.OnePlace.{IsUnasked}
use Rattle.gs_laws_chunks.specs.accounts.Running.{IsReached, Setup}
use Rattle.gs_laws_chunks.specs.answers.Asked.{HasAsked, SaysOf}
use Rattle.gs_laws_chunks.specs.answers.Replied.{SaysReply}
use Rattle.gs_laws_chunks.specs.calls.Asked.{IsCallSent}
use Rattle.gs_laws_chunks.specs.calls.Fresh.{CallsAreUsed, EditsAreUsed, LocationsAreToldSince}
use Rattle.gs_laws_chunks.specs.calls.Told.{WasTold}
use Rattle.gs_laws_lift.proofs.lemmas.stores.AskingRuns.{of_one_edit}
use Rattle.gs_laws_moves.specs.moves.Locations.{IsToldOnlyIf}
use Rattle.gs_laws_parts.specs.server.Requests.{Asked, request_in}
use Rattle.gs_msg.specs.declared.answer.Answer.{Answer}
use Rattle.gs_msg.specs.declared.answer.Answer.TheVariants as answers
use Rattle.gs_msg.specs.declared.body.Body.{Body}
use Rattle.gs_msg.specs.declared.body.Body.TheVariants as bodies
use Rattle.gs_msg.specs.declared.call.Call.{Call}
use Rattle.gs_msg.specs.declared.event.DiskId.{DiskId}
use Rattle.gs_msg.specs.declared.event.Request.{Request}
use Rattle.gs_nodes.specs.Happenings.{client_in}
use Rattle.gs_nodes.specs.declared.place.MasterPlace.{MasterPlace}
use Rattle.gs_world.proofs.Reaching.{HaveSizes}
use Rattle.gs_world.specs.Histories.{History}

-- what was asked under a number is among what was asked
in_asked : (number : ℕ) (asked : Asked) (request : Request) → request_in number asked ≡ Some request → (e : ℕ × Request) × Contains asked e × (e.0 ≡ number)
in_asked number [] request is = absurd (cc)
in_asked number (e ∷ asked) request is = by_test (number == e.0) refl is (in_asked number asked request)
  where
    more : (f : ℕ × Request) → Contains asked f → Contains (e ∷ asked) f
    more f (k, within, there) = (suc k, (omega arith), there)

    first : Contains (e ∷ asked) e
    first = (0, (omega arith), refl)

    same : (number == e.0) ≡ true → e.0 ≡ number
    same test = grind (arith, nat_tests)

    by_test : (b : Bool) → (number == e.0) ≡ b → cond b (Some e.1) (request_in number asked) ≡ Some request → (request_in number asked ≡ Some request → (f : ℕ × Request) × Contains asked f × (f.0 ≡ number)) → (f : ℕ × Request) × Contains (e ∷ asked) f × (f.0 ≡ number)
    by_test true test is rest = (e, first, same test)
    by_test false test is rest = (let found = rest is in (found.0, more found.0 found.1, found.2))

module _ (sizes : HaveSizes) (law : AreNumbered) {D : Type 0} (x : Setup D) where
  pub edits_are_used : EditsAreUsed x
  edits_are_used now a req r fresh chunk asked =
      let sees = each_is_seen_through sizes law x now a r in
      let edit = (of_one_edit sees.0 now sees.1 (asked.was).0 asked.message (asked.was).1).edits chunk req asked.stamp asked.op asked.says in
      let found = in_asked req.number (sees.0 req.client.0) _ edit.2 in
      let below = (sees.1.have req.client.0 fresh.node fresh.there).below found.0 found.1 in
      let same = found.2 in
      let above = fresh.above in
      absurd (omega arith)

  pub unasked_yet : (now : History D) (a : Account) (req : ReqId) (node : Node) → IsReached x now a → client_in now.nodes.clients req.client ≡ Some node → node.last < req.number → IsUnasked now.sent req
  unasked_yet now a req node r there above = edits_are_used now a req r (record { node = node; there = there; above = above })

module _ (sizes : HaveSizes) {D : Type 0} (seen : D → List ℕ) (failures : D → ℕ) (armed : DiskId → ℕ → MasterPlace D → MasterPlace D) where
  same_node : (a b : Node) → Some a ≡ Some b → a ≡ b
  same_node a b is = cc

  pub calls_are_used : CallsAreUsed seen failures armed
  calls_are_used now req r fresh call was =
      let asked = (of_run seen failures armed sizes now r).asked in
      let node : HasAsked now.nodes.clients req = (subst (λ (b : Body). SaysOf (HasAsked now.nodes.clients) was.message.from b) was.is (asked.sent (was.there).0 was.message (was.there).1)).1 in
      let same = same_node node.node fresh.node (sym node.there ∙ fresh.there) in
      let last = ap (λ (n : Node). n.last) same in
      let number = node.number in
      let above = fresh.above in
      absurd (omega arith)

  pub told_to_client : LocationsAreToldSince seen failures armed
  told_to_client mid now r steps runs client number node chunk view epoch within fresh found last has =
      let replied = run_replied seen failures armed steps mid now runs (run_replied seen failures armed r.steps r.begun mid r.runs (begins_replied seen failures armed r.config r.clients r.disks r.begun r.begins)) in
      let was = replied.replied client node (replies.Answer (answers.Location chunk view epoch)) found has in
      let req : ReqId = record { client = client; number = number } in
      let says = subst (λ n. SaysReply (record { client = client; number = n }) (replies.Answer (answers.Location chunk view epoch)) was.message.body) last was.says in
      let body = said_so was.message.body req says in
      subst (λ (b : Body). IsToldOnlyIf (λ q c v e. ((call : Call) → IsCallSent mid.sent q call → ⊥) → WasTold seen failures armed steps mid now runs q c v e) b) body (told_since seen failures armed sizes mid now r steps runs was.message within was.was)
      (λ call sent. calls_are_used mid req r fresh call sent)
    where
      same_answer : (one other : Answer) → replies.Answer one ≡ replies.Answer other → other ≡ one
      same_answer one other is = cc

      said_so : (body : Body) (req : ReqId) → SaysReply req (replies.Answer (answers.Location chunk view epoch)) body → body ≡ bodies.Reply req (Ok (answers.Location chunk view epoch))
      said_so (bodies.Reply other (Ok answer)) req (same, is) = ap (λ q. bodies.Reply q (Ok answer)) same ∙ ap (λ a. bodies.Reply req (Ok a)) (same_answer (answers.Location chunk view epoch) answer is)
      said_so (bodies.Reply other (Err e)) req (same, is) = absurd (cc)
      said_so (bodies.Done other (Ok told)) req (same, is) = absurd (cc)
      said_so (bodies.Done other (Err e)) req (same, is) = absurd (cc)
      said_so (bodies.Bytes other (Ok given)) req (same, is) = absurd (cc)
      said_so (bodies.Bytes other (Err e)) req (same, is) = absurd (cc)
      said_so (bodies.About handle said) req says = absurd says
      said_so (bodies.Call other call) req says = absurd says
      said_so (bodies.Push other bytes) req says = absurd says
      said_so (bodies.MakeCopy handle stamp new_handle new_stamp) req says = absurd says
      said_so (bodies.Report epoch items) req says = absurd says
      said_so (bodies.Epoch epoch end) req says = absurd says
      said_so (bodies.Learned epoch handles) req says = absurd says
      said_so (bodies.Behind epoch) req says = absurd says
