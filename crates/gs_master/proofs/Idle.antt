-- Once a disk has failed, no event records anything.
use Rattle.std.proofs.Common.{◌≡◌, Bool, true, false, [], refl, ap}
use Rattle.std.specs.Prelude.{if◌then◌else◌}
use Rattle.gs_base.specs.declared.config.Config.{Config}
use Rattle.gs_base.specs.declared.numbers.Moment.{Moment}
use Rattle.gs_base.specs.declared.numbers.ReqId.{ReqId}
use Rattle.gs_base.specs.declared.refusal.Refusal.TheVariants as refusals
use Rattle.gs_msg.specs.declared.body.Body.{Body}
use Rattle.gs_msg.specs.declared.body.Body.TheVariants as bodies
use Rattle.gs_msg.specs.declared.call.Call.{Call}
use Rattle.gs_msg.specs.declared.message.Message.{Message}
use Rattle.gs_msg.specs.declared.node.NodeId.{NodeId}
use Rattle.gs_msg.specs.declared.node.NodeId.TheVariants as nodes
use Rattle.gs_master_spec.specs.Calls.{is_locked, ordered}
use Rattle.gs_master_spec.specs.Durable.{is_rolling}
use Rattle.gs_master_spec.specs.Handling.{Numbered, New, Again, Older, call_turn, called_unless, from_client, from_node, handle, numbered, server_turn, taken_as}
use Rattle.gs_master_spec.specs.State.{State, Turn, first_of, is_failed, is_unopened, last_reply, met_by}
use Rattle.gs_master_spec.specs.Volatile.{is_pending}

either : (b : Bool) (t u : Turn) → t.records ≡ [] → u.records ≡ [] → (if b then t else u).records ≡ []
either true t u one other = one
either false t u one other = other

module _ (config : Config) (s : State) (moment : Moment) (failed : is_failed s.fault ≡ true) where
  taken : (req : ReqId) (call : Call) (n : Numbered) → (taken_as config s req moment call n).records ≡ []
  taken req call New =
      ap (λ b. (called_unless config s req moment call (first_of (ordered b (is_rolling s.durable.phase) s.volatile.is_preparing (is_locked s req call) call))).records) failed
  taken req call (Again result) = refl
  taken req call Older = refl

  pub called : (req : ReqId) (call : Call) → (call_turn config s req moment call).records ≡ []
  called req call =
      let told = numbered (last_reply s req.client) req.number in
      either (is_unopened s.fault) _ _ refl (either (is_pending s.volatile.pending req) _ _ (either (is_failed s.fault) _ _ refl refl) (taken req call told))

  of_client : (said : Body) → (from_client config s moment said).records ≡ []
  of_client (bodies.Call req call) = called req call
  of_client (bodies.About x y) = refl
  of_client (bodies.Reply x y) = refl
  of_client (bodies.Push x y) = refl
  of_client (bodies.Done x y) = refl
  of_client (bodies.Bytes x y) = refl
  of_client (bodies.MakeCopy x y z w) = refl
  of_client (bodies.Report x y) = refl
  of_client (bodies.Epoch x y) = refl
  of_client (bodies.Learned x y) = refl
  of_client (bodies.Behind x) = refl

  from : (said : Body) (node : NodeId) → (from_node config s moment said node).records ≡ []
  from said nodes.Master = refl
  from said (nodes.Server server) = ap (λ b. (if b then met_by s refusals.Device else server_turn s server moment said).records) failed
  from said (nodes.Client client) = of_client said

pub nothing_recorded : (config : Config) (s : State) (message : Message) (moment : Moment) → is_failed s.fault ≡ true → (handle config s message moment).records ≡ []
unfolding handle
nothing_recorded config s message moment failed = from config s moment failed message.body message.from
