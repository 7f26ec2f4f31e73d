use Rattle.std.proofs.Common.{◌≡◌, ◌+◌, ◌*◌, ◌∙◌, rules, ap, subst, sym, length}
use Rattle.std.specs.Prelude.{IfOk}
use Rattle.gs_master_record.specs.Encoding.{edit}
use Rattle.gs_master_record.specs.Plain.{plain_edit}
use Rattle.gs_edit.specs.declared.edit.Edit.{Edit}
use Rattle.gs_master_state.specs.inner.Room.{IsBehind}
use Rattle.gs_master_state.proofs.Behind.{add_long, cow_long, forget_long, hide_long, one_long, so_behind, two_behind}
use Rattle.gs_master_state.proofs.log.behind_edit.Goals as goal

pub returns-in-Mkdirs : goal.returns-in-Mkdirs
returns-in-Mkdirs c =
    subst (λ (e : Edit). IfOk c.behind_path.result (IsBehind c.args.room (length (edit (plain_edit e))))) (sym c.in-Mkdirs.is)
    (so_behind c.args.room c.behind.result c.behind_path.result 1 _ _ c.behind.ensures c.behind_path.ensures (one_long 1 _))

pub returns-in-Create : goal.returns-in-Create
returns-in-Create c =
    subst (λ (e : Edit). IfOk c.behind_path-in-Create.result (IsBehind c.args.room (length (edit (plain_edit e))))) (sym c.in-Create.is)
    (so_behind c.args.room c.behind-in-Create.result c.behind_path-in-Create.result 1 _ _ c.behind-in-Create.ensures c.behind_path-in-Create.ensures (one_long 2 _))

pub returns-in-Hide : goal.returns-in-Hide
returns-in-Hide c =
    subst (λ (e : Edit). IfOk c.behind_path-in-Hide.result (IsBehind c.args.room (length (edit (plain_edit e))))) (sym c.in-Hide.is)
    (so_behind c.args.room c.behind-in-Hide.result c.behind_path-in-Hide.result 17 _ _ c.behind-in-Hide.ensures c.behind_path-in-Hide.ensures (hide_long _ _ _))

pub returns-in-Unhide : goal.returns-in-Unhide
returns-in-Unhide c =
    subst (λ (e : Edit). IfOk c.behind_path-in-Unhide.result (IsBehind c.args.room (length (edit (plain_edit e))))) (sym c.in-Unhide.is)
    (so_behind c.args.room c.behind-in-Unhide.result c.behind_path-in-Unhide.result 1 _ _ c.behind-in-Unhide.ensures c.behind_path-in-Unhide.ensures (one_long 5 _))

pub returns-in-Remove : goal.returns-in-Remove
returns-in-Remove c =
    subst (λ (e : Edit). IfOk c.behind_path-in-Remove.result (IsBehind c.args.room (length (edit (plain_edit e))))) (sym c.in-Remove.is)
    (so_behind c.args.room c.behind-in-Remove.result c.behind_path-in-Remove.result 1 _ _ c.behind-in-Remove.ensures c.behind_path-in-Remove.ensures (one_long 6 _))

pub returns-in-AddChunk : goal.returns-in-AddChunk
returns-in-AddChunk c =
    subst (λ (e : Edit). IfOk c.behind_path-in-AddChunk.result (IsBehind c.args.room (length (edit (plain_edit e))))) (sym c.in-AddChunk.is)
    (so_behind c.args.room c.behind-in-AddChunk.result c.behind_path-in-AddChunk.result 9 _ _ c.behind-in-AddChunk.ensures c.behind_path-in-AddChunk.ensures (add_long _ _))

pub returns-in-Cow : goal.returns-in-Cow
returns-in-Cow c =
    subst (λ (e : Edit). IfOk c.behind_path-in-Cow.result (IsBehind c.args.room (length (edit (plain_edit e))))) (sym c.in-Cow.is)
    (so_behind c.args.room c.behind-in-Cow.result c.behind_path-in-Cow.result 21 _ _ c.behind-in-Cow.ensures c.behind_path-in-Cow.ensures (cow_long _ _ _ _))

pub returns-in-Forget : goal.returns-in-Forget
returns-in-Forget c =
    subst (λ (e : Edit). IsBehind c.args.room (length (edit (plain_edit e))) c.behind_items.result) (sym c.in-Forget.is)
    (let many : c.len.result ≡ length c.in-Forget.chunks.items = search rules in two_behind c.args.room c.behind-in-Forget.result c.behind_items.result 5 _ _ c.behind-in-Forget.ensures c.behind_items.ensures (forget_long _ ∙ ap (λ n. 5 + n * 8) (sym many)))
