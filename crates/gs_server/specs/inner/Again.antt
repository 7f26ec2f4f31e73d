-- An edit that was heard before.
use Rattle.std.specs.Prelude.{◌==◌, ℕ, nat_lt, cond, Bool, Option, Some, None, Result}
use Rattle.std.specs.FinMap as fin
use Rattle.gs_base.specs.declared.numbers.ReqId.{ReqId}
use Rattle.gs_base.specs.declared.refusal.Refusal.{Refusal}
use Rattle.gs_base.specs.declared.refusal.Refusal.TheVariants as refusals
use Rattle.gs_replica.specs.declared.op.Done.{Done}
use Rattle.gs_store.specs.Serving.{done_in}
use Rattle.gs_store.specs.Stores.{slot_of}
use Rattle.gs_server.specs.declared.turn.KeptRefusal.{KeptRefusal}
use Rattle.gs_server.specs.declared.turn.Turn.{Turn}
use Rattle.gs_server.specs.Edits.{is_known_of_all}
use Rattle.gs_server.specs.Servers.{Server, Step, ServerSteps, store_of}
use Rattle.gs_server.specs.inner.Answering.{refused_once_by, repeated_by}

-- by the client's edit that was refused last
abbrev pub again_as_refused : ReqId → Server → Option KeptRefusal → Option Step
again_as_refused req s None = None
again_as_refused req s (Some kept) =
    cond (nat_lt req.number kept.number) (Some (refused_once_by req refusals.Old s))
    (cond (req.number == kept.number) (Some (refused_once_by req kept.refusal s)) None)

-- by its last one that was applied, which comes first
abbrev pub again : ReqId → Bool → Server → Option KeptRefusal → Option Done → Option Step
again req known s kept None = again_as_refused req s kept
again req known s kept (Some last) =
    cond (req.number == last.number) (Some (repeated_by req last.outcome known s))
    (cond (nat_lt req.number last.number) (Some (refused_once_by req refusals.Old s)) (again_as_refused req s kept))

-- at a server, by what it has of the chunk and of the client
abbrev pub again_at : ℕ → ReqId → Server → Option Step
again_at handle req s =
    again req (is_known_of_all req (slot_of handle (store_of s)) (fin.get s.dropped.leases handle)) s
    (fin.get s.kept.refused req.client) (done_in (slot_of handle (store_of s)).live req.client.0)

-- it is answered so, or it wasn't heard before
abbrev pub StepsAgain : Option Step → Option (Result Turn Refusal) → Server → Type 0
StepsAgain None None s = Unit {0}
StepsAgain (Some step) (Some result) s = ServerSteps step result s s
StepsAgain None (Some result) s = ⊥
StepsAgain (Some step) None s = ⊥
