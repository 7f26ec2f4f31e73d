use Rattle.std.proofs.Common.{◌≡◌, rules, subst, sym, ap, ◌+◌, ◌*◌, ◌∙◌, length}
use Rattle.std.specs.Prelude.{IfOk, string_bytes}
use Rattle.gs_master_record.specs.Plain.{plain}
use Rattle.gs_master_record.specs.declared.entry.Entry.{Entry}
use Rattle.gs_master_state.specs.inner.Room.{IsBehind}
use Rattle.gs_master_spec.specs.State.{size_of}
use Rattle.gs_master_state.proofs.Behind.{commit_long, edit_long, said_long, so_behind, two_behind}
use Rattle.gs_master_state.proofs.log.behind_entry.Goals as goal

pub returns-in-Edit : goal.returns-in-Edit
returns-in-Edit c =
    subst (λ (e : Entry). IfOk c.behind_edit.result (IsBehind c.args.room (size_of (plain e)))) (sym c.in-Edit.is)
    (so_behind c.args.room c.behind.result c.behind_edit.result 18 _ _ c.behind.ensures c.behind_edit.ensures (edit_long c.in-Edit.by _))

pub returns-in_ok-detail-in-Said : goal.returns-in_ok-detail-in-Said
returns-in_ok-detail-in-Said c =
    let long : length (string_bytes c.in_ok-detail-in-Said.detail) ≡ c.len.result = search rules in
    subst (λ (e : Entry). IsBehind c.args.room (size_of (plain e)) c.behind-in-Said-2.result) (sym c.in-Said.is)
    (two_behind c.args.room c.behind-in-Said.result c.behind-in-Said-2.result 21 _ _ c.behind-in-Said.ensures c.behind-in-Said-2.ensures
    (said_long c.in-Said.to c.in-Said.refusal ∙ ap (λ text. 21 + length text) (sym c.in_ok-detail-in-Said.ensures) ∙ ap (λ n. 21 + n) long))

pub returns-in-RollbackCommit : goal.returns-in-RollbackCommit
returns-in-RollbackCommit c =
    let many : c.len-in-RollbackCommit.result ≡ length c.in-RollbackCommit.answered.items = search rules in
    subst (λ (e : Entry). IsBehind c.args.room (size_of (plain e)) c.behind_items.result) (sym c.in-RollbackCommit.is)
    (two_behind c.args.room c.behind-in-RollbackCommit.result c.behind_items.result 18 _ _ c.behind-in-RollbackCommit.ensures c.behind_items.ensures (commit_long c.in-RollbackCommit.epoch _ ∙ ap (λ n. 18 + n * 10) (sym many)))
