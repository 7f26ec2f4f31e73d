use Rattle.std.proofs.Common.{sym, subst, ◌∙◌}
use Rattle.std.specs.Prelude.{◌≡◌, IfOk}
use Rattle.gs_store.proofs.Reporting.{len_seen}
use Rattle.gs_store.proofs.store.Store.room_for_names.Goals as goal

pub returns-clause-room : goal.returns-clause-room
returns-clause-room c =
    subst (λ n. IfOk c.with_room.result (λ names. names.room ≡ n)) (c.len.ensures ∙ sym (len_seen _ _ _ _ c.self.inside.slots.items _ c.args.self.now c.self.view_is)) c.with_room.ensures.room
